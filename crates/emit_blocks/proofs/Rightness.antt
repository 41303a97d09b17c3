-- The steps of right operations are right.
use Rattle.std.proofs.Common.{◌≡◌, ℕ, ◌<◌, Bool, true, false, if◌then◌else◌, List, [], ◌∷◌, ◌++◌, slice_get, Option, None, zero, suc, refl, lit<}
use Rattle.c_tree.specs.declared.program.VarRef.{VarRef}
use Rattle.acc_code.specs.declared.operand.AccOperand.{AccOperand}
use Rattle.acc_code.specs.declared.operand.AccOperand.TheVariants as operand
use Rattle.acc_code.specs.declared.operation.AccOp.{AccOp}
use Rattle.acc_code.specs.declared.operation.AccOp.TheVariants as row
use Rattle.acc_code.specs.AccTree.{Item, Op, If, Loop, Switch, Case, Clear, Call, Helper, Break, Continue, Return, ItemList, end, item}
use Rattle.acc_code.specs.Operands.{taken_by, IsTaken}
use Rattle.acc_code.specs.Emittable.{Throughout, RefersRight}
use Rattle.emit_blocks.specs.declared.site.ScalarPlace.{ScalarPlace}
use Rattle.emit_blocks.specs.declared.step.Step.{Step}
use Rattle.emit_blocks.specs.Places.{Places, scalar_or_zero, reach_of}
use Rattle.emit_blocks.specs.declared.step.Reach.TheVariants as reach
use Rattle.emit_blocks.specs.Steps.{Operation, step, POINT_WORD, is_point, is_load_of_pointer, steps_of_operation, steps_from, steps_of, run_at, behind_run, operation_of, IsNoRun}
use Rattle.emit_blocks.specs.Right.{IsConstantOf, IsReachOf, AreRightSteps, HaveWords, IsRight, AreRight, HaveRegisters, IsRightRun}

pub words_behind : (xs ys : List Step) → HaveWords xs → HaveWords ys → HaveWords (xs ++ ys)
words_behind [] ys words more = more
words_behind (x ∷ xs) ys words more = (words.0, words_behind xs ys words.1 more)

right_behind : (xs ys : List Step) → AreRightSteps xs → AreRightSteps ys → AreRightSteps (xs ++ ys)
right_behind [] ys right more = more
right_behind (x ∷ xs) ys right more = (right.0, right_behind xs ys right.1 more)

zero_constant : (o : AccOp) → IsConstantOf o 0
zero_constant row.Point = tt
zero_constant (row.Add s) = tt
zero_constant (row.Sub s) = tt
zero_constant (row.Lac s) = tt
zero_constant row.Mpy = tt
zero_constant row.Lt = tt
zero_constant row.Zals = tt
zero_constant row.Lact = tt
zero_constant row.Subs = tt
zero_constant row.Adds = tt
zero_constant row.Xor = tt
zero_constant row.Or = tt
zero_constant row.And = tt
zero_constant (row.Sacl s) = tt
zero_constant (row.Sach s) = tt
zero_constant (row.In port) = tt
zero_constant (row.Out port) = tt
zero_constant row.Mpyk = refl
zero_constant row.Lack = lit< tt
zero_constant row.Addk = lit< tt
zero_constant row.Subk = lit< tt
zero_constant (row.Lalk s) = tt
zero_constant (row.Adlk s) = tt
zero_constant (row.Sblk s) = tt
zero_constant row.Andk = tt
zero_constant row.Ork = tt
zero_constant row.Xork = tt
zero_constant row.Dint = tt
zero_constant row.Rovm = tt
zero_constant row.Rsxm = tt
zero_constant row.Ssxm = tt
zero_constant row.Spm = tt
zero_constant row.Pac = tt
zero_constant row.Apac = tt
zero_constant row.Spac = tt
zero_constant row.Sfl = tt
zero_constant row.Sfr = tt
zero_constant row.Neg = tt
zero_constant row.Cmpl = tt

number_constant : (o : AccOp) (w : ℕ) → IsTaken (taken_by o) (operand.Number w) → IsConstantOf o w
number_constant row.Point w taken = tt
number_constant (row.Add s) w taken = tt
number_constant (row.Sub s) w taken = tt
number_constant (row.Lac s) w taken = tt
number_constant row.Mpy w taken = tt
number_constant row.Lt w taken = tt
number_constant row.Zals w taken = tt
number_constant row.Lact w taken = tt
number_constant row.Subs w taken = tt
number_constant row.Adds w taken = tt
number_constant row.Xor w taken = tt
number_constant row.Or w taken = tt
number_constant row.And w taken = tt
number_constant (row.Sacl s) w taken = tt
number_constant (row.Sach s) w taken = tt
number_constant (row.In port) w taken = tt
number_constant (row.Out port) w taken = tt
number_constant row.Mpyk w taken = taken
number_constant row.Lack w taken = taken
number_constant row.Addk w taken = taken
number_constant row.Subk w taken = taken
number_constant (row.Lalk s) w taken = tt
number_constant (row.Adlk s) w taken = tt
number_constant (row.Sblk s) w taken = tt
number_constant row.Andk w taken = tt
number_constant row.Ork w taken = tt
number_constant row.Xork w taken = tt
number_constant row.Dint w taken = tt
number_constant row.Rovm w taken = tt
number_constant row.Rsxm w taken = tt
number_constant row.Ssxm w taken = tt
number_constant row.Spm w taken = tt
number_constant row.Pac w taken = tt
number_constant row.Apac w taken = tt
number_constant row.Spac w taken = tt
number_constant row.Sfl w taken = tt
number_constant row.Sfr w taken = tt
number_constant row.Neg w taken = tt
number_constant row.Cmpl w taken = tt

address_constant : (o : AccOp) (v : VarRef) (n w : ℕ) → IsTaken (taken_by o) (operand.Address v n) → IsConstantOf o w
address_constant row.Point v n w taken = tt
address_constant (row.Add s) v n w taken = tt
address_constant (row.Sub s) v n w taken = tt
address_constant (row.Lac s) v n w taken = tt
address_constant row.Mpy v n w taken = tt
address_constant row.Lt v n w taken = tt
address_constant row.Zals v n w taken = tt
address_constant row.Lact v n w taken = tt
address_constant row.Subs v n w taken = tt
address_constant row.Adds v n w taken = tt
address_constant row.Xor v n w taken = tt
address_constant row.Or v n w taken = tt
address_constant row.And v n w taken = tt
address_constant (row.Sacl s) v n w taken = tt
address_constant (row.Sach s) v n w taken = tt
address_constant (row.In port) v n w taken = tt
address_constant (row.Out port) v n w taken = tt
address_constant row.Mpyk v n w taken = absurd taken
address_constant row.Lack v n w taken = absurd taken
address_constant row.Addk v n w taken = absurd taken
address_constant row.Subk v n w taken = absurd taken
address_constant (row.Lalk s) v n w taken = tt
address_constant (row.Adlk s) v n w taken = tt
address_constant (row.Sblk s) v n w taken = tt
address_constant row.Andk v n w taken = tt
address_constant row.Ork v n w taken = tt
address_constant row.Xork v n w taken = tt
address_constant row.Dint v n w taken = tt
address_constant row.Rovm v n w taken = tt
address_constant row.Rsxm v n w taken = tt
address_constant row.Ssxm v n w taken = tt
address_constant row.Spm v n w taken = tt
address_constant row.Pac v n w taken = tt
address_constant row.Apac v n w taken = tt
address_constant row.Spac v n w taken = tt
address_constant row.Sfl v n w taken = tt
address_constant row.Sfr v n w taken = tt
address_constant row.Neg v n w taken = tt
address_constant row.Cmpl v n w taken = tt

register_at : (ps : List ScalarPlace) (n : ℕ) → HaveRegisters ps → (scalar_or_zero (slice_get ps n)).register < 8
register_at [] n few = lit< tt
register_at (p ∷ ps) zero few = few.0
register_at (p ∷ ps) (suc n) few = register_at ps n few.1

reach_right : (s : Places) (o : AccOp) (m : AccOperand) → HaveRegisters s.scalars → IsTaken (taken_by o) m → IsReachOf o (reach_of s m)
reach_right s o operand.Nothing few taken = zero_constant o
reach_right s o (operand.Scalar n) few taken = register_at s.scalars n few
reach_right s o (operand.Direct v) few taken = tt
reach_right s o (operand.Param f n) few taken = tt
reach_right s o (operand.Scratch n) few taken = tt
reach_right s o (operand.Number w) few taken = number_constant o w taken
reach_right s o (operand.Address v n) few taken = address_constant o v n _ taken
reach_right s o operand.Pointed few taken = tt

point_right : (s : Places) (m : AccOperand) → HaveRegisters s.scalars → IsReachOf row.Point (reach_of s m)
point_right s operand.Nothing few = tt
point_right s (operand.Scalar n) few = register_at s.scalars n few
point_right s (operand.Direct v) few = tt
point_right s (operand.Param f n) few = tt
point_right s (operand.Scratch n) few = tt
point_right s (operand.Number w) few = tt
point_right s (operand.Address v n) few = tt
point_right s operand.Pointed few = tt

either : (b : Bool) (xs ys : List Step) → AreRightSteps xs → AreRightSteps ys → AreRightSteps (if b then xs else ys)
either true xs ys right others = right
either false xs ys right others = others

operation_right : (s : Places) (o : Operation) → HaveRegisters s.scalars → IsRight o → AreRightSteps (steps_of_operation s o)
operation_right s o few right =
    either (is_point o.row) (step (row.Sacl 0) (reach.Word POINT_WORD) ∷ step row.Point (reach.Word POINT_WORD) ∷ []) (step o.row (reach_of s o.operand) ∷ [])
    (record { range = lit< tt; reached = tt }, (record { range = tt; reached = tt }, tt))
    (record { range = right.range; reached = reach_right s o.row o.operand few right.taken }, tt)

steps_right : (s : Places) (joined : Bool) (os : List Operation) → HaveRegisters s.scalars → AreRight os → AreRightSteps (steps_from s joined os)
steps_right s joined [] few right = tt
steps_right s true (o ∷ os) few right = steps_right s false os few right.1
steps_right s false (o ∷ os) few right =
    either (is_load_of_pointer o os) (step row.Point (reach_of s o.operand) ∷ steps_from s true os) (steps_of_operation s o ++ steps_from s false os)
    (record { range = tt; reached = point_right s o.operand few }, steps_right s true os few right.1)
    (right_behind (steps_of_operation s o) (steps_from s false os) (operation_right s o few right.0) (steps_right s false os few right.1))

pub run_right : (s : Places) (os : List Operation) → IsRightRun s os → AreRightSteps (steps_of s os)
run_right s os right = steps_right s false os right.registers right.operations

-- what emission wants of code is more than this
module _ (scalars : ℕ) (cells : VarRef → Option ℕ) (parameters : ℕ → Option ℕ) (helps : Bool) where
  pub emittable_right : (xs : ItemList) → Throughout (RefersRight scalars cells parameters helps) xs → AreRight (run_at xs)
  emittable_right end refers = tt
  emittable_right (item (Op o m) xs) refers = (record { range = refers.0.range; taken = refers.0.taken }, emittable_right xs refers.2)
  emittable_right (item (If test hit miss) xs) refers = tt
  emittable_right (item (Loop before body behind last) xs) refers = tt
  emittable_right (item (Switch labels body) xs) refers = tt
  emittable_right (item (Case n) xs) refers = tt
  emittable_right (item (Clear v from) xs) refers = tt
  emittable_right (item (Call f) xs) refers = tt
  emittable_right (item (Helper name) xs) refers = tt
  emittable_right (item Break xs) refers = tt
  emittable_right (item Continue xs) refers = tt
  emittable_right (item Return xs) refers = tt

  pub emittable_behind : (xs : ItemList) → Throughout (RefersRight scalars cells parameters helps) xs → Throughout (RefersRight scalars cells parameters helps) (behind_run xs)
  emittable_behind end refers = tt
  emittable_behind (item (Op o m) xs) refers = emittable_behind xs refers.2
  emittable_behind (item (If test hit miss) xs) refers = refers
  emittable_behind (item (Loop before body behind last) xs) refers = refers
  emittable_behind (item (Switch labels body) xs) refers = refers
  emittable_behind (item (Case n) xs) refers = refers
  emittable_behind (item (Clear v from) xs) refers = refers
  emittable_behind (item (Call f) xs) refers = refers
  emittable_behind (item (Helper name) xs) refers = refers
  emittable_behind (item Break xs) refers = refers
  emittable_behind (item Continue xs) refers = refers
  emittable_behind (item Return xs) refers = refers

pub no_run : (x : Item) (xs : ItemList) → operation_of x ≡ None → IsNoRun (item x xs)
no_run (Op o m) xs e = cc
no_run (If test hit miss) xs e = record { run = refl; behind = refl }
no_run (Loop before body behind last) xs e = record { run = refl; behind = refl }
no_run (Switch labels body) xs e = record { run = refl; behind = refl }
no_run (Case n) xs e = record { run = refl; behind = refl }
no_run (Clear v from) xs e = record { run = refl; behind = refl }
no_run (Call f) xs e = record { run = refl; behind = refl }
no_run (Helper name) xs e = record { run = refl; behind = refl }
no_run Break xs e = record { run = refl; behind = refl }
no_run Continue xs e = record { run = refl; behind = refl }
no_run Return xs e = record { run = refl; behind = refl }

pub none_behind : (xs : ItemList) → IsNoRun (behind_run xs)
none_behind end = record { run = refl; behind = refl }
none_behind (item (Op o m) xs) = none_behind xs
none_behind (item (If test hit miss) xs) = record { run = refl; behind = refl }
none_behind (item (Loop before body behind last) xs) = record { run = refl; behind = refl }
none_behind (item (Switch labels body) xs) = record { run = refl; behind = refl }
none_behind (item (Case n) xs) = record { run = refl; behind = refl }
none_behind (item (Clear v from) xs) = record { run = refl; behind = refl }
none_behind (item (Call f) xs) = record { run = refl; behind = refl }
none_behind (item (Helper name) xs) = record { run = refl; behind = refl }
none_behind (item Break xs) = record { run = refl; behind = refl }
none_behind (item Continue xs) = record { run = refl; behind = refl }
none_behind (item Return xs) = record { run = refl; behind = refl }
