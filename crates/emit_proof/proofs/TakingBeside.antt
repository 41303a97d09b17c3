-- The steps of right operations take what they reach, and go over lists by registers of their own.
use Rattle.std.proofs.Common.{◌≡◌, ℕ, ◌≤◌, Bool, true, false, if◌then◌else◌, List, [], ◌∷◌, ◌++◌, zero, suc, slice_get, refl, lit≤}
use Rattle.acc_code.specs.declared.operand.AccOperand.{AccOperand}
use Rattle.acc_code.specs.declared.operand.AccOperand.TheVariants as operand
use Rattle.acc_code.specs.declared.operation.AccOp.{AccOp}
use Rattle.acc_code.specs.declared.operation.AccOp.TheVariants as row
use Rattle.acc_code.specs.Operands.{Taken, No_operand, Read_word, Written_word, Constant8, Constant13, Constant16, taken_by, IsTaken}
use Rattle.emit_blocks.specs.declared.site.ScalarPlace.{ScalarPlace}
use Rattle.emit_blocks.specs.declared.step.Reach.{Reach}
use Rattle.emit_blocks.specs.declared.step.Reach.TheVariants as reach
use Rattle.emit_blocks.specs.declared.step.Step.{Step}
use Rattle.emit_blocks.specs.Places.{Places, scalar_or_zero, reach_of}
use Rattle.emit_blocks.specs.Steps.{Operation, step, POINT_WORD, is_point, is_load_of_pointer, steps_of_operation, steps_from, steps_of}
use Rattle.emit_blocks.specs.Right.{IsRight, AreRight}
use Rattle.emit_proof.specs.Reaching.{IsOverList, AreOverLists}
use Rattle.emit_proof.specs.Addressed.{HaveOwnRegisters}
use Rattle.emit_proof.specs.Direct.{takes_word, TakesReach, TakeReaches}

-- a row that takes words takes each that is reached
word_taken : (o : AccOp) (r : Reach) → takes_word o ≡ true → TakesReach o r
word_taken o (reach.Scalar p) takes = takes
word_taken o reach.Pointer takes = takes
word_taken o (reach.Word a) takes = takes
word_taken o (reach.Constant c) takes = tt

-- operands of other rows are constants
abbrev IsConstant : Taken → Type 0
IsConstant No_operand = Unit {0}
IsConstant Read_word = ⊥
IsConstant Written_word = ⊥
IsConstant Constant8 = Unit {0}
IsConstant Constant13 = Unit {0}
IsConstant Constant16 = Unit {0}

constant_taken : (s : Places) (o : AccOp) (t : Taken) (m : AccOperand) → IsConstant t → IsTaken t m → TakesReach o (reach_of s m)
constant_taken s o No_operand operand.Nothing is taken = tt
constant_taken s o No_operand (operand.Scalar n) is taken = absurd taken
constant_taken s o No_operand (operand.Direct v) is taken = absurd taken
constant_taken s o No_operand (operand.Param f n) is taken = absurd taken
constant_taken s o No_operand (operand.Scratch n) is taken = absurd taken
constant_taken s o No_operand (operand.Number w) is taken = tt
constant_taken s o No_operand (operand.Address v n) is taken = tt
constant_taken s o No_operand operand.Pointed is taken = absurd taken
constant_taken s o Constant8 operand.Nothing is taken = tt
constant_taken s o Constant8 (operand.Scalar n) is taken = absurd taken
constant_taken s o Constant8 (operand.Direct v) is taken = absurd taken
constant_taken s o Constant8 (operand.Param f n) is taken = absurd taken
constant_taken s o Constant8 (operand.Scratch n) is taken = absurd taken
constant_taken s o Constant8 (operand.Number w) is taken = tt
constant_taken s o Constant8 (operand.Address v n) is taken = tt
constant_taken s o Constant8 operand.Pointed is taken = absurd taken
constant_taken s o Constant13 operand.Nothing is taken = tt
constant_taken s o Constant13 (operand.Scalar n) is taken = absurd taken
constant_taken s o Constant13 (operand.Direct v) is taken = absurd taken
constant_taken s o Constant13 (operand.Param f n) is taken = absurd taken
constant_taken s o Constant13 (operand.Scratch n) is taken = absurd taken
constant_taken s o Constant13 (operand.Number w) is taken = tt
constant_taken s o Constant13 (operand.Address v n) is taken = tt
constant_taken s o Constant13 operand.Pointed is taken = absurd taken
constant_taken s o Constant16 operand.Nothing is taken = tt
constant_taken s o Constant16 (operand.Scalar n) is taken = absurd taken
constant_taken s o Constant16 (operand.Direct v) is taken = absurd taken
constant_taken s o Constant16 (operand.Param f n) is taken = absurd taken
constant_taken s o Constant16 (operand.Scratch n) is taken = absurd taken
constant_taken s o Constant16 (operand.Number w) is taken = tt
constant_taken s o Constant16 (operand.Address v n) is taken = tt
constant_taken s o Constant16 operand.Pointed is taken = absurd taken
constant_taken s o Read_word m is taken = absurd is
constant_taken s o Written_word m is taken = absurd is

row_taken : (s : Places) (o : AccOp) (m : AccOperand) → IsTaken (taken_by o) m → is_point o ≡ false → TakesReach o (reach_of s m)
row_taken s row.Point m taken other = absurd (point other)
  where
    point : true ≡ false → ⊥
    point e = absurd cc
row_taken s (row.Add shift) m taken other = word_taken (row.Add shift) (reach_of s m) refl
row_taken s (row.Sub shift) m taken other = word_taken (row.Sub shift) (reach_of s m) refl
row_taken s (row.Lac shift) m taken other = word_taken (row.Lac shift) (reach_of s m) refl
row_taken s row.Mpy m taken other = word_taken row.Mpy (reach_of s m) refl
row_taken s row.Lt m taken other = word_taken row.Lt (reach_of s m) refl
row_taken s row.Zals m taken other = word_taken row.Zals (reach_of s m) refl
row_taken s row.Lact m taken other = word_taken row.Lact (reach_of s m) refl
row_taken s row.Subs m taken other = word_taken row.Subs (reach_of s m) refl
row_taken s row.Adds m taken other = word_taken row.Adds (reach_of s m) refl
row_taken s row.Xor m taken other = word_taken row.Xor (reach_of s m) refl
row_taken s row.Or m taken other = word_taken row.Or (reach_of s m) refl
row_taken s row.And m taken other = word_taken row.And (reach_of s m) refl
row_taken s (row.Sacl shift) m taken other = word_taken (row.Sacl shift) (reach_of s m) refl
row_taken s (row.Sach shift) m taken other = word_taken (row.Sach shift) (reach_of s m) refl
row_taken s (row.In port) m taken other = word_taken (row.In port) (reach_of s m) refl
row_taken s (row.Out port) m taken other = word_taken (row.Out port) (reach_of s m) refl
row_taken s row.Mpyk m taken other = constant_taken s row.Mpyk (taken_by row.Mpyk) m tt taken
row_taken s row.Lack m taken other = constant_taken s row.Lack (taken_by row.Lack) m tt taken
row_taken s row.Addk m taken other = constant_taken s row.Addk (taken_by row.Addk) m tt taken
row_taken s row.Subk m taken other = constant_taken s row.Subk (taken_by row.Subk) m tt taken
row_taken s (row.Lalk shift) m taken other = constant_taken s (row.Lalk shift) (taken_by (row.Lalk shift)) m tt taken
row_taken s (row.Adlk shift) m taken other = constant_taken s (row.Adlk shift) (taken_by (row.Adlk shift)) m tt taken
row_taken s (row.Sblk shift) m taken other = constant_taken s (row.Sblk shift) (taken_by (row.Sblk shift)) m tt taken
row_taken s row.Andk m taken other = constant_taken s row.Andk (taken_by row.Andk) m tt taken
row_taken s row.Ork m taken other = constant_taken s row.Ork (taken_by row.Ork) m tt taken
row_taken s row.Xork m taken other = constant_taken s row.Xork (taken_by row.Xork) m tt taken
row_taken s row.Dint m taken other = constant_taken s row.Dint (taken_by row.Dint) m tt taken
row_taken s row.Rovm m taken other = constant_taken s row.Rovm (taken_by row.Rovm) m tt taken
row_taken s row.Rsxm m taken other = constant_taken s row.Rsxm (taken_by row.Rsxm) m tt taken
row_taken s row.Ssxm m taken other = constant_taken s row.Ssxm (taken_by row.Ssxm) m tt taken
row_taken s row.Spm m taken other = constant_taken s row.Spm (taken_by row.Spm) m tt taken
row_taken s row.Pac m taken other = constant_taken s row.Pac (taken_by row.Pac) m tt taken
row_taken s row.Apac m taken other = constant_taken s row.Apac (taken_by row.Apac) m tt taken
row_taken s row.Spac m taken other = constant_taken s row.Spac (taken_by row.Spac) m tt taken
row_taken s row.Sfl m taken other = constant_taken s row.Sfl (taken_by row.Sfl) m tt taken
row_taken s row.Sfr m taken other = constant_taken s row.Sfr (taken_by row.Sfr) m tt taken
row_taken s row.Neg m taken other = constant_taken s row.Neg (taken_by row.Neg) m tt taken
row_taken s row.Cmpl m taken other = constant_taken s row.Cmpl (taken_by row.Cmpl) m tt taken

either : (b : Bool) (xs ys : List Step) → (b ≡ true → TakeReaches xs) → (b ≡ false → TakeReaches ys) → TakeReaches (if b then xs else ys)
either true xs ys take others = take refl
either false xs ys take others = others refl

takes_behind : (xs ys : List Step) → TakeReaches xs → TakeReaches ys → TakeReaches (xs ++ ys)
takes_behind [] ys takes more = more
takes_behind (x ∷ xs) ys takes more = (takes.0, takes_behind xs ys takes.1 more)

operation_takes : (s : Places) (o : Operation) → IsRight o → TakeReaches (steps_of_operation s o)
operation_takes s o right =
    either (is_point o.row) (step (row.Sacl 0) (reach.Word POINT_WORD) ∷ step row.Point (reach.Word POINT_WORD) ∷ []) (step o.row (reach_of s o.operand) ∷ [])
    (λ e. (refl, (refl, tt)))
    (λ e. (row_taken s o.row o.operand right.taken e, tt))

from_takes : (s : Places) (joined : Bool) (os : List Operation) → AreRight os → TakeReaches (steps_from s joined os)
from_takes s joined [] right = tt
from_takes s true (o ∷ os) right = from_takes s false os right.1
from_takes s false (o ∷ os) right =
    either (is_load_of_pointer o os) (step row.Point (reach_of s o.operand) ∷ steps_from s true os) (steps_of_operation s o ++ steps_from s false os)
    (λ e. (word_taken row.Point (reach_of s o.operand) refl, from_takes s true os right.1))
    (λ e. takes_behind (steps_of_operation s o) (steps_from s false os) (operation_takes s o right.0) (from_takes s false os right.1))

pub steps_take : (s : Places) (os : List Operation) → AreRight os → TakeReaches (steps_of s os)
steps_take s os right = from_takes s false os right

-- registers of lists
register_at : (ps : List ScalarPlace) (n : ℕ) → HaveOwnRegisters ps → 2 ≤ (scalar_or_zero (slice_get ps n)).register
register_at [] n own = lit≤ tt
register_at (p ∷ ps) zero own = own.0
register_at (p ∷ ps) (suc n) own = register_at ps n own.1

reach_over : (s : Places) (m : AccOperand) → HaveOwnRegisters s.scalars → IsOverList (reach_of s m)
reach_over s operand.Nothing own = tt
reach_over s (operand.Scalar n) own = register_at s.scalars n own
reach_over s (operand.Direct v) own = tt
reach_over s (operand.Param f n) own = tt
reach_over s (operand.Scratch n) own = tt
reach_over s (operand.Number w) own = tt
reach_over s (operand.Address v n) own = tt
reach_over s operand.Pointed own = tt

over_either : (b : Bool) (xs ys : List Step) → AreOverLists xs → AreOverLists ys → AreOverLists (if b then xs else ys)
over_either true xs ys over others = over
over_either false xs ys over others = others

over_behind : (xs ys : List Step) → AreOverLists xs → AreOverLists ys → AreOverLists (xs ++ ys)
over_behind [] ys over more = more
over_behind (x ∷ xs) ys over more = (over.0, over_behind xs ys over.1 more)

operation_over : (s : Places) (o : Operation) → HaveOwnRegisters s.scalars → AreOverLists (steps_of_operation s o)
operation_over s o own =
    over_either (is_point o.row) (step (row.Sacl 0) (reach.Word POINT_WORD) ∷ step row.Point (reach.Word POINT_WORD) ∷ []) (step o.row (reach_of s o.operand) ∷ [])
    (tt, (tt, tt)) (reach_over s o.operand own, tt)

from_over : (s : Places) (joined : Bool) (os : List Operation) → HaveOwnRegisters s.scalars → AreOverLists (steps_from s joined os)
from_over s joined [] own = tt
from_over s true (o ∷ os) own = from_over s false os own
from_over s false (o ∷ os) own =
    over_either (is_load_of_pointer o os) (step row.Point (reach_of s o.operand) ∷ steps_from s true os) (steps_of_operation s o ++ steps_from s false os)
    (reach_over s o.operand own, from_over s true os own)
    (over_behind (steps_of_operation s o) (steps_from s false os) (operation_over s o own) (from_over s false os own))

pub steps_over : (s : Places) (os : List Operation) → HaveOwnRegisters s.scalars → AreOverLists (steps_of s os)
steps_over s os own = from_over s false os own
