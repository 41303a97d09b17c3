-- Which rows may be loads of AR1, and what operations weigh.
use Rattle.std.proofs.Common.{◌≡◌, ◌≤◌, Bool, true, false, if◌then◌else◌, List, [], refl, sym, subst, eqb-true, lit≤}
use Rattle.acc_code.specs.declared.operand.AccOperand.{AccOperand}
use Rattle.acc_code.specs.declared.operand.AccOperand.TheVariants as operand
use Rattle.acc_code.specs.declared.operation.AccOp.{AccOp}
use Rattle.acc_code.specs.declared.operation.AccOp.TheVariants as row
use Rattle.acc_code.specs.Operands.{No_operand, IsTaken}
use Rattle.ir_semantics.specs.AccRows.{operand_weight, operation_weight}
use Rattle.emit_blocks.specs.Steps.{Operation, is_plain_load, is_point, begins_with_point, behind_first, is_loaded_next, is_load_of_pointer}

-- a load of the whole accumulator by a word as it is
pub data PlainLoad : AccOp → Type 0 where
  OfWord : PlainLoad (row.Lac 0)
  OfNumber : PlainLoad (row.Lalk 0)

pub plain_load : (o : AccOp) → is_plain_load o ≡ true → PlainLoad o
plain_load row.Point e = absurd cc
plain_load (row.Add s) e = absurd cc
plain_load (row.Sub s) e = absurd cc
plain_load (row.Lac s) e = subst (λ n. PlainLoad (row.Lac n)) (sym (eqb-true s 0 e)) OfWord
plain_load row.Mpy e = absurd cc
plain_load row.Lt e = absurd cc
plain_load row.Zals e = absurd cc
plain_load row.Lact e = absurd cc
plain_load row.Subs e = absurd cc
plain_load row.Adds e = absurd cc
plain_load row.Xor e = absurd cc
plain_load row.Or e = absurd cc
plain_load row.And e = absurd cc
plain_load (row.Sacl s) e = absurd cc
plain_load (row.Sach s) e = absurd cc
plain_load (row.In port) e = absurd cc
plain_load (row.Out port) e = absurd cc
plain_load row.Mpyk e = absurd cc
plain_load row.Lack e = absurd cc
plain_load row.Addk e = absurd cc
plain_load row.Subk e = absurd cc
plain_load (row.Lalk s) e = subst (λ n. PlainLoad (row.Lalk n)) (sym (eqb-true s 0 e)) OfNumber
plain_load (row.Adlk s) e = absurd cc
plain_load (row.Sblk s) e = absurd cc
plain_load row.Andk e = absurd cc
plain_load row.Ork e = absurd cc
plain_load row.Xork e = absurd cc
plain_load row.Dint e = absurd cc
plain_load row.Rovm e = absurd cc
plain_load row.Rsxm e = absurd cc
plain_load row.Ssxm e = absurd cc
plain_load row.Spm e = absurd cc
plain_load row.Pac e = absurd cc
plain_load row.Apac e = absurd cc
plain_load row.Spac e = absurd cc
plain_load row.Sfl e = absurd cc
plain_load row.Sfr e = absurd cc
plain_load row.Neg e = absurd cc
plain_load row.Cmpl e = absurd cc

pub point_is : (o : AccOp) → is_point o ≡ true → o ≡ row.Point
point_is row.Point e = refl
point_is (row.Add s) e = absurd cc
point_is (row.Sub s) e = absurd cc
point_is (row.Lac s) e = absurd cc
point_is row.Mpy e = absurd cc
point_is row.Lt e = absurd cc
point_is row.Zals e = absurd cc
point_is row.Lact e = absurd cc
point_is row.Subs e = absurd cc
point_is row.Adds e = absurd cc
point_is row.Xor e = absurd cc
point_is row.Or e = absurd cc
point_is row.And e = absurd cc
point_is (row.Sacl s) e = absurd cc
point_is (row.Sach s) e = absurd cc
point_is (row.In port) e = absurd cc
point_is (row.Out port) e = absurd cc
point_is row.Mpyk e = absurd cc
point_is row.Lack e = absurd cc
point_is row.Addk e = absurd cc
point_is row.Subk e = absurd cc
point_is (row.Lalk s) e = absurd cc
point_is (row.Adlk s) e = absurd cc
point_is (row.Sblk s) e = absurd cc
point_is row.Andk e = absurd cc
point_is row.Ork e = absurd cc
point_is row.Xork e = absurd cc
point_is row.Dint e = absurd cc
point_is row.Rovm e = absurd cc
point_is row.Rsxm e = absurd cc
point_is row.Ssxm e = absurd cc
point_is row.Spm e = absurd cc
point_is row.Pac e = absurd cc
point_is row.Apac e = absurd cc
point_is row.Spac e = absurd cc
point_is row.Sfl e = absurd cc
point_is row.Sfr e = absurd cc
point_is row.Neg e = absurd cc
point_is row.Cmpl e = absurd cc

nested : (a b c : Bool) → (if a then (if b then c else false) else false) ≡ true → (a ≡ true) × (b ≡ true) × (c ≡ true)
nested true true c e = (refl, refl, e)
nested true false c e = absurd cc
nested false b c e = absurd cc

pub load_parts : (o : Operation) (os : List Operation) → is_load_of_pointer o os ≡ true → (is_plain_load o.row ≡ true) × (begins_with_point os ≡ true) × (is_loaded_next (behind_first os) ≡ true)
load_parts o os e = nested (is_plain_load o.row) (begins_with_point os) (is_loaded_next (behind_first os)) e

-- nothing stands behind the last operation
pub no_load_last : (o : Operation) → is_load_of_pointer o [] ≡ true → ⊥
no_load_last o e = let f : false ≡ true = (load_parts o [] e).1 in absurd cc

pub takes_nothing : (m : AccOperand) → IsTaken No_operand m → m ≡ operand.Nothing
takes_nothing operand.Nothing taken = refl
takes_nothing (operand.Scalar n) taken = absurd taken
takes_nothing (operand.Direct v) taken = absurd taken
takes_nothing (operand.Param f i) taken = absurd taken
takes_nothing (operand.Scratch n) taken = absurd taken
takes_nothing (operand.Number c) taken = absurd taken
takes_nothing (operand.Address v i) taken = absurd taken
takes_nothing operand.Pointed taken = absurd taken

operand_weighs : (m : AccOperand) → 1 ≤ operand_weight m
operand_weighs operand.Nothing = lit≤ tt
operand_weighs (operand.Scalar n) = lit≤ tt
operand_weighs (operand.Direct v) = lit≤ tt
operand_weighs (operand.Param f i) = lit≤ tt
operand_weighs (operand.Scratch n) = lit≤ tt
operand_weighs (operand.Number c) = lit≤ tt
operand_weighs (operand.Address v i) = lit≤ tt
operand_weighs operand.Pointed = lit≤ tt

pub operation_weighs : (o : AccOp) (m : AccOperand) → 1 ≤ operation_weight o m
operation_weighs row.Point m = lit≤ tt
operation_weighs (row.Add s) m = operand_weighs m
operation_weighs (row.Sub s) m = operand_weighs m
operation_weighs (row.Lac s) m = operand_weighs m
operation_weighs row.Mpy m = operand_weighs m
operation_weighs row.Lt m = operand_weighs m
operation_weighs row.Zals m = operand_weighs m
operation_weighs row.Lact m = operand_weighs m
operation_weighs row.Subs m = operand_weighs m
operation_weighs row.Adds m = operand_weighs m
operation_weighs row.Xor m = operand_weighs m
operation_weighs row.Or m = operand_weighs m
operation_weighs row.And m = operand_weighs m
operation_weighs (row.Sacl s) m = operand_weighs m
operation_weighs (row.Sach s) m = operand_weighs m
operation_weighs (row.In port) m = operand_weighs m
operation_weighs (row.Out port) m = operand_weighs m
operation_weighs row.Mpyk m = operand_weighs m
operation_weighs row.Lack m = operand_weighs m
operation_weighs row.Addk m = operand_weighs m
operation_weighs row.Subk m = operand_weighs m
operation_weighs (row.Lalk s) m = operand_weighs m
operation_weighs (row.Adlk s) m = operand_weighs m
operation_weighs (row.Sblk s) m = operand_weighs m
operation_weighs row.Andk m = operand_weighs m
operation_weighs row.Ork m = operand_weighs m
operation_weighs row.Xork m = operand_weighs m
operation_weighs row.Dint m = operand_weighs m
operation_weighs row.Rovm m = operand_weighs m
operation_weighs row.Rsxm m = operand_weighs m
operation_weighs row.Ssxm m = operand_weighs m
operation_weighs row.Spm m = operand_weighs m
operation_weighs row.Pac m = operand_weighs m
operation_weighs row.Apac m = operand_weighs m
operation_weighs row.Spac m = operand_weighs m
operation_weighs row.Sfl m = operand_weighs m
operation_weighs row.Sfr m = operand_weighs m
operation_weighs row.Neg m = operand_weighs m
operation_weighs row.Cmpl m = operand_weighs m
