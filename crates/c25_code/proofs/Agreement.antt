-- A run agrees where another one does that keeps it, part by part; so it ends within a limit of steps that contains another one.
use Rattle.std.proofs.Common.{◌≡◌, ℕ, refl, sym, ap, ◌∙◌, subst}
use Rattle.std.specs.Prelude.{List}
use Rattle.word_base.specs.declared.outcome.Ending.{Ending}
use Rattle.word_base.specs.declared.outcome.Outcome.{Outcome}
use Rattle.word_base.specs.declared.outcome.Outcome.TheVariants as source
use Rattle.word_base.specs.Ports.{Input, IsInput, Outputs, Prefix}
use Rattle.word_base.specs.Outcome.{outputs_of}
use Rattle.word_base.specs.Keeps.{Outcomes, Keeps}
use Rattle.word_base.proofs.KeepsLemmas.{prefix_both}
use Rattle.c25_isa.specs.MachineRun.{Reached, outputs_reached}
use Rattle.c25_isa.specs.Agrees.{SourceRuns, Steps, Limit, any_number, EndsAlike, PutsBefore, GoesOnAlike, AgreesAt, Agrees}

pub ends_kept : (may : Limit) (run other : Outcomes) (machine : Steps) → Keeps run other → EndsAlike may other machine → EndsAlike may run machine
ends_kept may run other machine k h = record { by = λ n outs ending e. h.by n outs ending (k.ends n outs ending e) }

pub goes_on_kept : (run other : Outcomes) (machine : Steps) → Keeps run other → GoesOnAlike other machine → GoesOnAlike run machine
goes_on_kept run other machine k h = record { by = λ n outs e. h.by n outs (k.goes_on n outs e) }

-- the other run may end or go on there: it then puts what was put before
pub undefined_kept : (run other : Outcomes) (machine : Steps) → Keeps run other → AgreesAt other machine → PutsBefore run machine
undefined_kept run other machine k h = record { by = λ n outs kind at e. by n outs (other n) refl (k.undefined n outs kind at e) }
  where
    there : (m : ℕ) (outs put : Outputs) (r : Reached) → machine m ≡ r → outputs_reached r ≡ put → Prefix outs put → (m : ℕ) × Prefix outs (outputs_reached (machine m))
    there m outs put r is same p = (m, subst (Prefix outs) (sym same ∙ ap outputs_reached (sym is)) p)

    by : (n : ℕ) (outs : Outputs) (o : Outcome) → other n ≡ o → Prefix outs (outputs_of (other n)) → (m : ℕ) × Prefix outs (outputs_reached (machine m))
    by n outs (source.Ended put ending) is p =
        let e = h.ends.by n put ending is in
        there e.0 outs put _ e.2 refl (subst (Prefix outs) (ap outputs_of is) p)
    by n outs (source.More put) is p =
        let e = h.goes_on.by n put is in
        there e.0 outs put _ e.2 refl (subst (Prefix outs) (ap outputs_of is) p)
    by n outs (source.Undefined put kind at) is p =
        let e = h.undefined.by n put kind at is in
        (e.0, prefix_both outs put (outputs_reached (machine e.0)) (subst (Prefix outs) (ap outputs_of is) p) e.1)

pub agrees_kept : (run other : Outcomes) (machine : Steps) → Keeps run other → AgreesAt other machine → AgreesAt run machine
agrees_kept run other machine k h = record {
  ends = ends_kept any_number run other machine k h.ends;
  undefined = undefined_kept run other machine k h;
  goes_on = goes_on_kept run other machine k h.goes_on;
}

-- from each start
pub all_kept : (run other : SourceRuns) (words : List ℕ) → ((input : Input) → IsInput input → Keeps (run input) (other input)) → Agrees other words → Agrees run words
all_kept run other words k h s input is begins fits = agrees_kept (run input) (other input) _ (k input fits) (h s input is begins fits)

pub ends_within : (few may : Limit) (run : Outcomes) (machine : Steps) → ((n : ℕ) (outs : Outputs) (ending : Ending) → run n ≡ source.Ended outs ending → (m : ℕ) → few n m → may n m) → EndsAlike few run machine → EndsAlike may run machine
ends_within few may run machine within h = record {
  by = λ n outs ending e.
      let there = h.by n outs ending e in
      (there.0, within n outs ending e there.0 there.1, there.2);
}
