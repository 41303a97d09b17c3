-- Steps, and runs of them.
use Rattle.std.proofs.Common.{◌≡◌, ◌≢◌, ◌<◌, ◌+◌, ◌-◌, ℕ, zero, suc, Bool, true, false, length, Option, None, refl, sym, ap, ◌∙◌, arith}
use Rattle.std.specs.Prelude.{◌==◌, ◌&&◌}
use Rattle.std.proofs.lemmas.Bool.{eq-eqb, false≢true}
use Rattle.word_base.specs.Ports.{Outputs}
use Rattle.c25_isa.specs.declared.trap.TrapKind.{TrapKind}
use Rattle.c25_isa.specs.declared.instruction.Instr.{Instr}
use Rattle.c25_isa.specs.declared.event as types
use Rattle.c25_isa.specs.declared.event.Event.TheVariants as code
use Rattle.c25_isa.specs.State.{State}
use Rattle.c25_isa.specs.Step.{Event, step, trap_of, trap_where, pushes}
use Rattle.c25_isa.specs.MachineRun.{Reached, go_on, run_from}
use Rattle.c25_sim.specs.Answers.{event_of, behind, state_after}

-- two changes behind one event
pub both_behind : (e : types.Event.Event) (s t u : State) → t ≡ behind (event_of e t) s → u ≡ behind (event_of e u) t → u ≡ behind (event_of e u) s
both_behind code.Ran s t u p q = refl
both_behind (code.Out word) s t u p q = refl
both_behind (code.Ended ending) s t u p q = q ∙ p
both_behind (code.Trap kind at) s t u p q = q ∙ p

no_trap : (b : Bool) (kind : TrapKind) (next : Option TrapKind) → trap_where b kind next ≡ None → b ≡ false
no_trap true kind next e = cc
no_trap false kind next e = refl

both_false : (a b : Bool) → (a && b) ≡ false → a ≡ true → b ≡ false
both_false true b e f = e
both_false false b e f = absurd (false≢true f)

-- a word that pushes without a trap has room
pub has_room : (s : State) (i : Instr) → trap_of s i ≡ None → pushes i ≡ true → length s.stack ≢ 8
has_room s i none push full =
    false≢true (sym (both_false (pushes i) (length s.stack == 8) (no_trap _ _ _ none) push) ∙ eq-eqb (length s.stack) 8 full)

-- one step less is left
pub one_less : (n i : ℕ) → i < n → n - i ≡ suc (n - (i + 1))
one_less n i lt = omega arith

-- a run whose next step ends
pub run_ends : (n i : ℕ) (s : State) (outs : Outputs) (r : Reached) (e : Event) → i < n → step s ≡ e → go_on e (run_from (n - (i + 1))) outs ≡ r → run_from (n - i) s outs ≡ r
run_ends n i s outs r e lt is gone =
    ap (λ m. run_from m s outs) (one_less n i lt) ∙ ap (λ v. go_on v (run_from (n - (i + 1))) outs) is ∙ gone

-- one more step
pub after_more : (m : ℕ) (s : State) → state_after (m + 1) s ≡ behind (step (state_after m s)) (state_after m s)
after_more m s = let e : m + 1 ≡ suc m = omega arith in ap (λ k. state_after k s) e ∙ last m s
  where
    last : (m : ℕ) (s : State) → state_after (suc m) s ≡ behind (step (state_after m s)) (state_after m s)
    last zero s = refl
    last (suc m) s = last m (behind (step s) s)

-- steps behind steps
pub after_both : (m n : ℕ) (s : State) → state_after (m + n) s ≡ state_after n (state_after m s)
after_both zero n s = let e : 0 + n ≡ n = omega arith in ap (λ k. state_after k s) e
after_both (suc m) n s = let e : suc m + n ≡ suc (m + n) = omega arith in ap (λ k. state_after k s) e ∙ after_both m n (behind (step s) s)

-- a state that a step leaves as it is
pub stays : (m : ℕ) (s : State) → behind (step s) s ≡ s → state_after m s ≡ s
stays zero s e = refl
stays (suc m) s e = ap (state_after m) e ∙ stays m s e

-- the state where the run ends at step i of n
pub ends_at : (n i : ℕ) (s0 s t : State) → i < n → s ≡ state_after i s0 → behind (step s) s ≡ s → t ≡ s → t ≡ state_after n s0
ends_at n i s0 s t lt is still same =
    let parts : i + (n - i) ≡ n = omega arith in
    same
    ∙ sym (stays (n - i) s still)
    ∙ ap (state_after (n - i)) is
    ∙ sym (after_both i (n - i) s0)
    ∙ ap (λ k. state_after k s0) parts
