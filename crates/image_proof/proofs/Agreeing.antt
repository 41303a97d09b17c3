-- What keeps what keeps: from a typed program over its accumulator code to the machine.
use Rattle.std.proofs.Common.{◌≡◌, ℕ, ◌+◌, ◌*◌, ◌≤◌, ◌++◌, refl, sym, ap, ◌∙◌, arith, append_assoc, append-nil}
use Rattle.word_base.specs.declared.outcome.Ending.{Ending}
use Rattle.word_base.specs.declared.outcome.Outcome.{Outcome}
use Rattle.word_base.specs.Ports.{Outputs, Prefix}
use Rattle.c25_isa.specs.Agrees.{Steps, AgreesAt}
use Rattle.c25_isa.specs.MachineRun as machine
use Rattle.c25_isa.specs.MachineRun.{outputs_reached}
use Rattle.ir_semantics.specs.Keeps.{WorkOutcome, Ended, More, Undefined, outputs_of, Keeps}
use Rattle.ir_semantics.specs.SourceWork.{with_work}
use Rattle.image_proof.specs.Keeping.{MachineKeeps}

-- a beginning of a beginning
pub longer : (a b c : Outputs) → Prefix a b → Prefix b c → Prefix a c
longer a b c h k = record { rest = h.rest ++ k.rest; is = k.is ∙ ap (λ x. x ++ k.rest) h.is ∙ append_assoc a h.rest k.rest }

-- what the machine put of a run's outputs
put_of : (x : WorkOutcome) (machine : Steps) (n more : ℕ) → MachineKeeps x machine n more → (m : ℕ) × Prefix (outputs_of x) (outputs_reached (machine m))
put_of (Ended outs ending work) steps n more h =
    let there = h.ended outs ending work refl in
    (there.0, record { rest = _; is = ap outputs_reached there.2 ∙ sym (append-nil outs) })
put_of (More outs) steps n more h =
    let there = h.more outs refl in
    (there.0, record { rest = _; is = ap outputs_reached there.2 ∙ sym (append-nil outs) })
put_of (Undefined outs) steps n more h = h.prefix outs refl

-- a source, by what its code keeps at each limit and what the machine keeps of that
pub agrees_at : (run : ℕ → Outcome) (work : ℕ → ℕ) (code : ℕ → WorkOutcome) (steps : Steps) (more : ℕ) → ((n : ℕ) → Keeps (with_work (run n) (work n)) (code n)) → ((n : ℕ) → MachineKeeps (code n) steps n more) → AgreesAt run steps
agrees_at run work code steps more kept machine_kept = record {
  ends = record {
    by = λ n outs ending is.
        let there = (kept n).ended outs ending (work n) (ap (λ o. with_work o (work n)) is) in
        let at = (machine_kept n).ended outs ending there.0 there.2 in
        (at.0, tt, at.2);
  };
  undefined = record {
    by = λ n outs kind at is.
        let put = put_of (code n) steps n more (machine_kept n) in
        (put.0, longer outs (outputs_of (code n)) (outputs_reached (steps put.0)) ((kept n).prefix outs (ap (λ o. with_work o (work n)) is)) put.1);
  };
  goes_on = record {
    by = λ n outs is. (machine_kept n).more outs ((kept n).more outs (ap (λ o. with_work o (work n)) is));
  };
}

-- the time of a program's run
pub in_time : (x y : WorkOutcome) (steps : Steps) (n more : ℕ) → Keeps x y → MachineKeeps y steps n more → (outs : Outputs) (ending : Ending) (work : ℕ) → x ≡ Ended outs ending work → (m : ℕ) × (m ≤ more + 64 * work) × (steps m ≡ machine.Ended outs ending)
in_time x y steps n more kept machine_kept outs ending work is =
    let there = kept.ended outs ending work is in
    let at = machine_kept.ended outs ending there.0 there.2 in
    let less = there.1 in
    let few = at.1 in
    (at.0, omega (arith, less, few), at.2)
