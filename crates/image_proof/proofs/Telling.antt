-- A run of an image that agrees with a program tells what the program does: of two runs of one machine the longer one goes on from the shorter one.
use Rattle.std.proofs.Common.{◌≡◌, ℕ, suc, ◌+◌, ◌*◌, ◌<◌, ◌≤◌, ◌⊎◌, inl, inr, ⊎_elim, Bool, true, false, List, refl, sym, ap, ◌∙◌, subst, arith}
use Rattle.std.specs.Prelude.{nat_le}
use Rattle.std.proofs.lemmas.Bool.{leb-true, leb-false}
use Rattle.word_base.specs.declared.outcome.Ending.{Ending}
use Rattle.word_base.specs.declared.outcome.Outcome.TheVariants as source
use Rattle.word_base.specs.declared.outcome.Outcome.{Outcome}
use Rattle.word_base.specs.Ports.{Input, IsInput, Outputs}
use Rattle.c_tree.specs.SourceRun.{source_run}
use Rattle.c_tree.specs.TypedTree.{ProgramTree}
use Rattle.c25_isa.specs.Agrees.{Agrees, AgreesAt}
use Rattle.c25_isa.specs.declared.event.Stop.{Stop}
use Rattle.c25_isa.specs.declared.trap.TrapKind.{TrapKind}
use Rattle.c25_isa.specs.MachineRun.{Reached, Running, Ended, Stopped, HasStopped, outputs_reached, machine_run}
use Rattle.c25_isa.specs.State.{Start, IsStart, BeginsWith}
use Rattle.c25_code.proofs.LaterSteps.{stopped_stays}
use Rattle.c25_sim.specs.Answers.{reached_of}
use Rattle.frame_emit.specs.Startup.{static_words}
use Rattle.image_proof.specs.Agreeing.{EndsInTime}
use Rattle.image_proof.specs.Telling.{IsUndefined, EndsSo, TellsOf}

ordered : (P : Type 0) (m n : ℕ) → (m ≤ n → P) → (n < m → P) → P
ordered P m n low high = by (nat_le m n) refl
  where
    by : (t : Bool) → nat_le m n ≡ t → P
    by true e = low (leb-true m n e)
    by false e = let more = leb-false m n e in high (omega (arith, more))

-- it ended so, and so does the program
pub record EndsBoth (t : ProgramTree) (input : Input) (run : Reached) : Type 0 where
  pub outs : Outputs
  pub ending : Ending
  pub so : EndsSo t input outs ending
  pub is : run ≡ Ended outs ending

module _ (b : Start) (t : ProgramTree) (input : Input) (agree : AgreesAt (source_run t input) (machine_run b input)) where
  same_stop : (m n : ℕ) → HasStopped (machine_run b input m) → HasStopped (machine_run b input n) → machine_run b input m ≡ machine_run b input n
  same_stop m n h k = ordered (machine_run b input m ≡ machine_run b input n) m n (λ le. sym (stopped_stays b input m n le h)) (λ lt. stopped_stays b input n m (omega (arith, lt)) k)

  pub ends_or : (steps : ℕ) → HasStopped (machine_run b input steps) → EndsBoth t input (machine_run b input steps) ⊎ IsUndefined t input
  ends_or steps h = by (source_run t input (suc steps)) refl
    where
      by : (o : Outcome) → source_run t input (suc steps) ≡ o → EndsBoth t input (machine_run b input steps) ⊎ IsUndefined t input
      by (source.Ended outs ending) e =
          let found = agree.ends.by (suc steps) outs ending e in
          let same = same_stop steps found.0 h (subst HasStopped (sym found.2) (tt {0})) in
          inl (record { outs = outs; ending = ending; so = record { turns = suc steps; is = e }; is = same ∙ found.2 })
      by (source.More outs) e =
          let found = agree.goes_on.by (suc steps) outs e in
          let later = found.1 in
          let same = stopped_stays b input steps found.0 (omega (arith, later)) h in
          absurd (subst HasStopped (sym same ∙ found.2) h)
      by (source.Undefined outs kind at) e = inr (record { turns = suc steps; outs = outs; kind = kind; place = at; is = e })

abbrev ending_or : Ending → Reached → Ending
ending_or other (Running outs) = other
ending_or other (Ended outs ending) = ending
ending_or other (Stopped outs kind at) = other

not_stopped : (outs others : Outputs) (kind : TrapKind) (at : ℕ) (ending : Ending) → Stopped outs kind at ≡ Ended others ending → ⊥
not_stopped outs others kind at ending e = cc

not_running : (outs others : Outputs) (ending : Ending) → Running outs ≡ Ended others ending → ⊥
not_running outs others ending e = cc

pub tells : (t : ProgramTree) (image_words : List ℕ) (b : Start) (input : Input) (steps : ℕ) (outs : Outputs) (stands : Stop)
    → Agrees (source_run t) image_words → EndsInTime t image_words → IsStart b → BeginsWith image_words b → IsInput input → machine_run b input steps ≡ reached_of outs stands
    → TellsOf t input steps outs stands
tells t image_words b input steps outs stands agrees in_time start begins is_input reached = record {
  ended = λ ending e. by_end ending (reached ∙ ap (reached_of outs) e);
  trapped = λ kind at e. by_trap kind at (reached ∙ ap (reached_of outs) e);
  running = λ e turns others other work is. by_time (reached ∙ ap (reached_of outs) e) others other work (in_time b input turns others other work start begins is_input is);
}
  where
    agree : AgreesAt (source_run t input) (machine_run b input)
    agree = agrees b input start begins is_input

    by_end : (ending : Ending) → machine_run b input steps ≡ Ended outs ending → EndsSo t input outs ending ⊎ IsUndefined t input
    by_end ending at = ⊎_elim (λ x. inl (both x.outs x.ending ending (sym x.is ∙ at) x.so)) (λ u. inr u) (ends_or b t input agree steps (subst HasStopped (sym at) (tt {0})))
      where
        both : (others : Outputs) (other ending : Ending) → Ended others other ≡ Ended outs ending → EndsSo t input others other → EndsSo t input outs ending
        both others other ending e so =
            let same_outs : others ≡ outs = ap outputs_reached e in
            let same_ending : other ≡ ending = ap (ending_or ending) e in
            subst (λ o. EndsSo t input o ending) same_outs (subst (EndsSo t input others) same_ending so)

    by_trap : (kind : TrapKind) (place : ℕ) → machine_run b input steps ≡ Stopped outs kind place → IsUndefined t input
    by_trap kind place at = ⊎_elim (λ x. absurd (not_stopped outs x.outs kind place x.ending (sym at ∙ x.is))) (λ u. u)
        (ends_or b t input agree steps (subst HasStopped (sym at) (tt {0})))

    by_time : machine_run b input steps ≡ Running outs → (others : Outputs) (other : Ending) (work : ℕ) → ((m : ℕ) × (m ≤ 1000 + 16 * static_words t.statics + 64 * work) × (machine_run b input m ≡ Ended others other))
        → steps < 1000 + 16 * static_words t.statics + 64 * work
    by_time at others other work found =
        let most = found.1 in
        ordered (steps < 1000 + 16 * static_words t.statics + 64 * work) found.0 steps
        (λ le. absurd (not_running outs others other (sym at ∙ stopped_stays b input found.0 steps le (subst HasStopped (sym found.2) (tt {0})) ∙ found.2)))
        (λ lt. omega (arith, lt, most))
