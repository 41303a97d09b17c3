-- The steps of right operations access the places of the scalars that the operations access.
use Rattle.std.proofs.Common.{◌≡◌, ℕ, Bool, true, false, if◌then◌else◌, List, [], ◌∷◌, ◌++◌, map, zero, suc, refl, sym, ap, ◌∙◌, lit≤, lit<, ◌<◌, subst}
use Rattle.std.specs.Prelude.{slice_get}
use Rattle.acc_code.specs.declared.operand.AccOperand.{AccOperand}
use Rattle.acc_code.specs.declared.operand.AccOperand.TheVariants as operand
use Rattle.acc_code.specs.declared.operation.AccOp.{AccOp}
use Rattle.acc_code.specs.declared.operation.AccOp.TheVariants as row
use Rattle.acc_code.specs.Operands.{taken_by, IsTaken}
use Rattle.emit_blocks.specs.declared.site.ScalarPlace.{ScalarPlace}
use Rattle.emit_blocks.specs.declared.step.Reach.TheVariants as reach
use Rattle.emit_blocks.specs.declared.step.Step.{Step}
use Rattle.emit_blocks.specs.Places.{Places, scalar_or_zero, reach_of}
use Rattle.emit_blocks.specs.Steps.{Operation, step, POINT_WORD, is_point, is_plain_load, begins_with_point, behind_first, is_loaded_next, is_load_of_pointer, steps_of_operation, steps_from, steps_of}
use Rattle.emit_blocks.specs.Right.{IsRight, AreRight}
use Rattle.image_proof.specs.RunWalks.{with_scalar, scalars_of, AreOverScalars}
use Rattle.image_proof.proofs.Moving.{IsOfList}
use Rattle.image_proof.proofs.Tallies.{place_of}
use Rattle.image_proof.proofs.Indexing.{with_place, accessed}

point_is : (o : AccOp) → is_point o ≡ true → o ≡ row.Point
point_is row.Point e = refl
point_is (row.Add s) e = absurd cc
point_is (row.Sub s) e = absurd cc
point_is (row.Lac s) e = absurd cc
point_is row.Mpy e = absurd cc
point_is row.Lt e = absurd cc
point_is row.Zals e = absurd cc
point_is row.Lact e = absurd cc
point_is row.Subs e = absurd cc
point_is row.Adds e = absurd cc
point_is row.Xor e = absurd cc
point_is row.Or e = absurd cc
point_is row.And e = absurd cc
point_is (row.Sacl s) e = absurd cc
point_is (row.Sach s) e = absurd cc
point_is (row.In port) e = absurd cc
point_is (row.Out port) e = absurd cc
point_is row.Mpyk e = absurd cc
point_is row.Lack e = absurd cc
point_is row.Addk e = absurd cc
point_is row.Subk e = absurd cc
point_is (row.Lalk s) e = absurd cc
point_is (row.Adlk s) e = absurd cc
point_is (row.Sblk s) e = absurd cc
point_is row.Andk e = absurd cc
point_is row.Ork e = absurd cc
point_is row.Xork e = absurd cc
point_is row.Dint e = absurd cc
point_is row.Rovm e = absurd cc
point_is row.Rsxm e = absurd cc
point_is row.Ssxm e = absurd cc
point_is row.Spm e = absurd cc
point_is row.Pac e = absurd cc
point_is row.Apac e = absurd cc
point_is row.Spac e = absurd cc
point_is row.Sfl e = absurd cc
point_is row.Sfr e = absurd cc
point_is row.Neg e = absurd cc
point_is row.Cmpl e = absurd cc

-- Point accesses no scalar
takes_nothing : (m : AccOperand) (ns : List ℕ) → IsTaken (taken_by row.Point) m → with_scalar m ns ≡ ns
takes_nothing operand.Nothing ns taken = refl
takes_nothing (operand.Scalar n) ns taken = absurd taken
takes_nothing (operand.Direct v) ns taken = refl
takes_nothing (operand.Param f n) ns taken = refl
takes_nothing (operand.Scratch n) ns taken = refl
takes_nothing (operand.Number w) ns taken = refl
takes_nothing (operand.Address v n) ns taken = refl
takes_nothing operand.Pointed ns taken = refl

point_accesses : (o : Operation) (ns : List ℕ) → is_point o.row ≡ true → IsRight o → with_scalar o.operand ns ≡ ns
point_accesses o ns point right = takes_nothing o.operand ns (subst (λ r. IsTaken (taken_by r) o.operand) (point_is o.row point) right.taken)

-- each other operation accesses its operand
reach_accesses : (s : Places) (m : AccOperand) (ns : List ℕ) (ps : List ScalarPlace) → ps ≡ map (place_of s) ns → with_place (reach_of s m) ps ≡ map (place_of s) (with_scalar m ns)
reach_accesses s operand.Nothing ns ps e = e
reach_accesses s (operand.Scalar n) ns ps e = ap (λ rest. place_of s n ∷ rest) e
reach_accesses s (operand.Direct v) ns ps e = e
reach_accesses s (operand.Param f n) ns ps e = e
reach_accesses s (operand.Scratch n) ns ps e = e
reach_accesses s (operand.Number w) ns ps e = e
reach_accesses s (operand.Address v n) ns ps e = e
reach_accesses s operand.Pointed ns ps e = e

operation_accesses : (s : Places) (o : Operation) (ns : List ℕ) (xs : List Step) → IsRight o → accessed xs ≡ map (place_of s) ns → accessed (steps_of_operation s o ++ xs) ≡ map (place_of s) (with_scalar o.operand ns)
operation_accesses s o ns xs right e = choose (is_point o.row) refl
  where
    choose : (b : Bool) → is_point o.row ≡ b → accessed ((if b then step (row.Sacl 0) (reach.Word POINT_WORD) ∷ step row.Point (reach.Word POINT_WORD) ∷ [] else step o.row (reach_of s o.operand) ∷ []) ++ xs) ≡ map (place_of s) (with_scalar o.operand ns)
    choose true point = e ∙ ap (map (place_of s)) (sym (point_accesses o ns point right))
    choose false other = reach_accesses s o.operand ns (accessed xs) e

-- a load of AR1 is joined with the Point behind it alone
joined_point : (load point loaded : Bool) → (if load then (if point then loaded else false) else false) ≡ true → point ≡ true
joined_point true true loaded e = refl
joined_point true false loaded e = absurd cc
joined_point false true loaded e = refl
joined_point false false loaded e = absurd cc

-- the first operation, by what the others access, whether the next one is a part of its step or not
first_accesses : (s : Places) (o : Operation) (os : List Operation) → IsRight o → (begins_with_point os ≡ true → accessed (steps_from s true os) ≡ map (place_of s) (scalars_of os)) → accessed (steps_from s false os) ≡ map (place_of s) (scalars_of os)
    → accessed (steps_from s false (o ∷ os)) ≡ map (place_of s) (scalars_of (o ∷ os))
first_accesses s o os right behind rest = choose (is_load_of_pointer o os) refl
  where
    choose : (b : Bool) → is_load_of_pointer o os ≡ b → accessed (if b then step row.Point (reach_of s o.operand) ∷ steps_from s true os else (steps_of_operation s o ++ steps_from s false os)) ≡ map (place_of s) (with_scalar o.operand (scalars_of os))
    choose true joined =
        reach_accesses s o.operand (scalars_of os) (accessed (steps_from s true os))
        (behind (joined_point (is_plain_load o.row) (begins_with_point os) (is_loaded_next (behind_first os)) joined))
    choose false apart = operation_accesses s o (scalars_of os) (steps_from s false os) right rest

from_accesses : (s : Places) (joined : Bool) (os : List Operation) → AreRight os → (joined ≡ true → begins_with_point os ≡ true) → accessed (steps_from s joined os) ≡ map (place_of s) (scalars_of os)
from_accesses s joined [] right point = refl
from_accesses s true (o ∷ os) right point =
    from_accesses s false os right.1 (λ e. absurd cc) ∙ ap (map (place_of s)) (sym (point_accesses o (scalars_of os) (point refl) right.0))
from_accesses s false (o ∷ os) right point =
    first_accesses s o os right.0 (λ next. from_accesses s true os right.1 (λ e. next)) (from_accesses s false os right.1 (λ e. absurd cc))

pub steps_access : (s : Places) (os : List Operation) → AreRight os → accessed (steps_of s os) ≡ map (place_of s) (scalars_of os)
steps_access s os right = from_accesses s false os right (λ e. absurd cc)

-- each place has a register of lists, and its address is a word
pub record IsOver (p : ScalarPlace) : Type 0 where
  pub list : IsOfList p.register
  pub word : p.address < 65536

place_over : (ps : List ScalarPlace) (n : ℕ) → AreOverScalars ps → IsOver (scalar_or_zero (slice_get ps n))
place_over [] n over = record { list = record { low = lit≤ tt; high = lit≤ tt }; word = lit< tt }
place_over (p ∷ ps) zero over = record { list = record { low = over.0; high = over.1 }; word = over.2 }
place_over (p ∷ ps) (suc n) over = place_over ps n over.3

abbrev pub AreOver : List ScalarPlace → Type 0
AreOver [] = Unit {0}
AreOver (p ∷ ps) = IsOver p × AreOver ps

pub places_over : (s : Places) (ns : List ℕ) → AreOverScalars s.scalars → AreOver (map (place_of s) ns)
places_over s [] over = tt {0}
places_over s (n ∷ ns) over = (place_over s.scalars n over, places_over s ns over)
