-- Of two runs of one machine the longer one goes on from the shorter one; so a machine that agrees with a source runs at every number of steps as the
-- source says.
use Rattle.std.proofs.Common.{◌≡◌, ◌∙◌, ◌≤◌, ◌+◌, ◌-◌, ◌++◌, ℕ, zero, suc, Bool, true, false, [], ◌∷◌, refl, sym, subst, arith, inl, inr}
use Rattle.std.specs.Prelude.{◌⊎◌, nat_le}
use Rattle.std.proofs.lemmas.Bool.{leb-true, leb-false}
use Rattle.word_base.specs.declared.outcome.Ending.{Ending}
use Rattle.word_base.specs.declared.outcome.UndefinedKind.{UndefinedKind}
use Rattle.word_base.specs.declared.outcome.Outcome.TheVariants as source
use Rattle.word_base.specs.Keeps.{Outcomes}
use Rattle.word_base.specs.Ports.{Input, Outputs, Prefix}
use Rattle.word_base.proofs.KeepsLemmas.{prefix_both, prefix_itself}
use Rattle.c25_isa.specs.Agrees.{AgreesAt, Steps}
use Rattle.c25_isa.specs.MachineRun.{Reached, Running, Ended, Stopped, go_on, machine_run, outputs_reached, reset, run_from}
use Rattle.c25_isa.specs.State.{Start, State}
use Rattle.c25_isa.specs.Step.{Event, Ran, Put, Over, Trapped, step}

-- a run that still goes on puts more behind its outputs, and one that stopped comes to the same
abbrev pub GoesOn : Reached → Reached → Type 0
GoesOn (Running outs) later = Prefix outs (outputs_reached later)
GoesOn (Ended outs ending) later = later ≡ Ended outs ending
GoesOn (Stopped outs kind at) later = later ≡ Stopped outs kind at

put_first : (outs : Outputs) (word : ℕ × ℕ) → Prefix outs (outs ++ word ∷ [])
put_first outs word = record { rest = word ∷ []; is = refl }

grows : (m : ℕ) (s : State) (outs : Outputs) → Prefix outs (outputs_reached (run_from m s outs))
grows zero s outs = prefix_itself outs
grows (suc m) s outs = by (step s) (grows m)
  where
    by : (event : Event) → ((t : State) (put : Outputs) → Prefix put (outputs_reached (run_from m t put))) → Prefix outs (outputs_reached (go_on event (run_from m) outs))
    by (Ran t) later = later t outs
    by (Put word t) later = prefix_both outs (outs ++ word ∷ []) _ (put_first outs word) (later t (outs ++ word ∷ []))
    by (Over ending) later = prefix_itself outs
    by (Trapped kind at) later = prefix_itself outs

behind : (m k : ℕ) (s : State) (outs : Outputs) → GoesOn (run_from m s outs) (run_from (m + k) s outs)
behind zero k s outs =
    let none : zero + k ≡ k = omega arith in
    subst (λ n. Prefix outs (outputs_reached (run_from n s outs))) (sym none) (grows k s outs)
behind (suc m) k s outs =
    let one : suc m + k ≡ suc (m + k) = omega arith in
    subst (λ n. GoesOn (run_from (suc m) s outs) (run_from n s outs)) (sym one) (by (step s) (behind m k))
  where
    by : (event : Event) → ((t : State) (put : Outputs) → GoesOn (run_from m t put) (run_from (m + k) t put)) → GoesOn (go_on event (run_from m) outs) (go_on event (run_from (m + k)) outs)
    by (Ran t) later = later t outs
    by (Put word t) later = later t (outs ++ word ∷ [])
    by (Over ending) later = refl
    by (Trapped kind at) later = refl

pub runs_go_on : (b : Start) (input : Input) (m n : ℕ) → m ≤ n → GoesOn (machine_run b input m) (machine_run b input n)
runs_go_on b input m n le =
    let e : m + (n - m) ≡ n = omega (arith, le) in
    subst (λ k. GoesOn (machine_run b input m) (machine_run b input k)) e (behind m (n - m) (reset b input) [])

-- ---- a machine that agrees with a source

in_order : (P : Type 0) (m n : ℕ) → (m ≤ n → P) → (n ≤ m → P) → P
in_order P m n low high = by (nat_le m n) refl
  where
    by : (t : Bool) → nat_le m n ≡ t → P
    by true e = low (leb-true m n e)
    by false e = let more = leb-false m n e in high (omega (arith, more))

outputs_grow : (one two : Reached) → GoesOn one two → Prefix (outputs_reached one) (outputs_reached two)
outputs_grow (Running outs) two h = h
outputs_grow (Ended outs ending) two h = subst (λ r. Prefix outs (outputs_reached r)) (sym h) (prefix_itself outs)
outputs_grow (Stopped outs kind at) two h = subst (λ r. Prefix outs (outputs_reached r)) (sym h) (prefix_itself outs)

-- it still runs, and has put none but the first of these outputs
pub record StillPuts (outs : Outputs) (reached : Reached) : Type 0 where
  pub put : Outputs
  pub is : reached ≡ Running put
  pub first : Prefix put outs

before_end : (outs : Outputs) (ending : Ending) (one two : Reached) → GoesOn one two → two ≡ Ended outs ending → (one ≡ Ended outs ending) ⊎ StillPuts outs one
before_end outs ending (Running put) two h is = inr (record { put = put; is = refl; first = subst (λ r. Prefix put (outputs_reached r)) is h })
before_end outs ending (Ended put other) two h is = inl (sym h ∙ is)
before_end outs ending (Stopped put kind at) two h is = inl (sym h ∙ is)

before_more : (outs : Outputs) (one two : Reached) → GoesOn one two → two ≡ Running outs → StillPuts outs one
before_more outs (Running put) two h is = record { put = put; is = refl; first = subst (λ r. Prefix put (outputs_reached r)) is h }
before_more outs (Ended put ending) two h is = let e : Ended put ending ≡ Running outs = sym h ∙ is in absurd cc
before_more outs (Stopped put kind at) two h is = let e : Stopped put kind at ≡ Running outs = sym h ∙ is in absurd cc

module _ (run : Outcomes) (machine : Steps) (agree : AgreesAt run machine) (goes : (m n : ℕ) → m ≤ n → GoesOn (machine m) (machine n)) where
  -- where the source ends, the machine has ended so, or still runs
  pub at_end : (turns n : ℕ) (outs : Outputs) (ending : Ending) → run turns ≡ source.Ended outs ending → (machine n ≡ Ended outs ending) ⊎ StillPuts outs (machine n)
  at_end turns n outs ending e =
      let there = agree.ends.by turns outs ending e in
      in_order ((machine n ≡ Ended outs ending) ⊎ StillPuts outs (machine n)) there.0 n
      (λ le. inl (subst (λ r. GoesOn r (machine n)) there.2 (goes there.0 n le)))
      (λ le. before_end outs ending (machine n) (machine there.0) (goes n there.0 le) there.2)

  -- where a loop would take one turn more, the machine still runs behind no fewer steps, and had put no more before
  pub at_more : (turns : ℕ) (outs : Outputs) → run turns ≡ source.More outs
      → (many : ℕ) × (turns ≤ many) × ((n : ℕ) → n ≤ many → StillPuts outs (machine n)) × ((n : ℕ) → many ≤ n → Prefix outs (outputs_reached (machine n)))
  at_more turns outs e =
      let there = agree.goes_on.by turns outs e in
      (there.0, there.1, (λ n le. before_more outs (machine n) (machine there.0) (goes n there.0 le) there.2), λ n le. subst (λ r. GoesOn r (machine n)) there.2 (goes there.0 n le))

  -- where the source does something undefined, the machine puts the outputs before
  pub at_undefined : (turns : ℕ) (outs : Outputs) (kind : UndefinedKind) (at : ℕ) → run turns ≡ source.Undefined outs kind at
      → (many : ℕ) × ((n : ℕ) → many ≤ n → Prefix outs (outputs_reached (machine n)))
  at_undefined turns outs kind at e =
      let there = agree.undefined.by turns outs kind at e in
      (there.0, λ n le. prefix_both outs (outputs_reached (machine there.0)) (outputs_reached (machine n)) there.1 (outputs_grow (machine there.0) (machine n) (goes there.0 n le)))
