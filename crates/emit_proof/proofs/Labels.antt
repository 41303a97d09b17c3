-- The label that a word goes to is one of the labels.
use Rattle.std.proofs.Common.{◌≡◌, ℕ, zero, suc, ◌+◌, ◌<◌, ◌≤◌, Bool, true, false, inl, inr, List, [], ◌∷◌, length, Option, Some, None, refl, sym, ◌∙◌, subst, arith, ⊎_elim}
use Rattle.std.specs.Prelude.{◌==◌, if◌then◌else◌}
use Rattle.std.proofs.lemmas.Option.{none-some}
use Rattle.std.proofs.Math.Nat.{eq-or-lt_of_le}
use Rattle.acc_code.specs.declared.item.CaseLabel.{CaseLabel}
use Rattle.acc_code.specs.declared.item.CaseLabel.TheVariants.{Value, Default}
use Rattle.acc_code.specs.Emittable.{counting}
use Rattle.ir_semantics.specs.AccRun.{value_label, default_label, or_else, label_of}
use Rattle.emit_control.specs.Cuts as cuts
use Rattle.emit_control.specs.Cuts.{case_items, dispatch_items}
use Rattle.emit_proof.specs.Calls.{IsJumpTo}
use Rattle.emit_proof.proofs.Entries.{back_jump}
use Rattle.emit_proof.proofs.Parts.{IsAmong}

some_is : (i j : ℕ) → Some i ≡ Some j → i ≡ j
some_is i j e = cc

value_is_one : (z : ℕ) (cs : List CaseLabel) (n i : ℕ) → value_label z cs n ≡ Some i → (n ≤ i) × (i < n + length cs)
value_is_one z [] n i e = absurd (none-some i e)
value_is_one z (Value x ∷ cs) n i e = by (x == z) (value_is_one z cs (suc n) i) e
  where
    by : (same : Bool) → (value_label z cs (suc n) ≡ Some i → (suc n ≤ i) × (i < suc n + length cs)) → (if same then Some n else value_label z cs (suc n)) ≡ Some i → (n ≤ i) × (i < n + suc (length cs))
    by true more f = let same : n ≡ i = some_is n i f in (omega (arith, same), omega (arith, same))
    by false more f = let bounds = more f in (omega (arith, bounds.0), omega (arith, bounds.1))
value_is_one z (Default ∷ cs) n i e = let more = value_is_one z cs (suc n) i e in (omega (arith, more.0), omega (arith, more.1))

default_is_one : (cs : List CaseLabel) (n i : ℕ) → default_label cs n ≡ Some i → (n ≤ i) × (i < n + length cs)
default_is_one [] n i e = absurd (none-some i e)
default_is_one (Value x ∷ cs) n i e = let more = default_is_one cs (suc n) i e in (omega (arith, more.0), omega (arith, more.1))
default_is_one (Default ∷ cs) n i e = let same : n ≡ i = some_is n i e in (omega (arith, same), omega (arith, same))

label_is_one : (z : ℕ) (cs : List CaseLabel) (i : ℕ) → label_of z cs ≡ Some i → i < length cs
label_is_one z cs i e = by (value_label z cs 0) refl e
  where
    by : (o : Option ℕ) → value_label z cs 0 ≡ o → or_else o (default_label cs 0) ≡ Some i → i < length cs
    by None f other = omega (arith, (default_is_one cs 0 i other).1)
    by (Some j) f same = let k : value_label z cs 0 ≡ Some i = f ∙ same in omega (arith, (value_is_one z cs 0 i k).1)

is_counted : (first n i : ℕ) → first ≤ i → i < first + n → IsAmong i (counting first n)
is_counted first zero i low high = absurd (omega (arith, low, high))
is_counted first (suc n) i low high = ⊎_elim (λ same. inl same) (λ less. inr (is_counted (suc first) n i less (omega (arith, high)))) (eq-or-lt_of_le low)

pub case_is_there : (z : ℕ) (cs : List CaseLabel) (labels : List ℕ) (i : ℕ) → labels ≡ counting 0 (length cs) → label_of z cs ≡ Some i → IsAmong i labels
case_is_there z cs labels i counted e = subst (IsAmong i) (sym counted) (is_counted 0 (length cs) i (omega arith) (omega (arith, label_is_one z cs i e)))

-- without a label for a word there is a jump to what stands behind
behind_is : (cs : List CaseLabel) (n l behind : ℕ) → default_label cs n ≡ None → cuts.default_label cs l behind ≡ behind
behind_is [] n l behind e = refl
behind_is (Value x ∷ cs) n l behind e = behind_is cs (suc n) (suc l) behind e
behind_is (Default ∷ cs) n l behind e = absurd (none-some n (sym e))

no_default : (o o' : Option ℕ) → or_else o o' ≡ None → o' ≡ None
no_default None o' e = e
no_default (Some i) o' e = absurd (none-some i (sym e))

pub jumps_behind : (z : ℕ) (cs : List CaseLabel) (l behind : ℕ) → label_of z cs ≡ None → IsJumpTo behind (dispatch_items cs l behind)
jumps_behind z cs l behind e = back_jump behind (case_items cs l 0) _ (inl (behind_is cs 0 l behind (no_default (value_label z cs 0) (default_label cs 0) e)))
