-- Each thing that emission wants of code has one proof at most.
use Rattle.std.proofs.Common.{ℕ, Bool, true, false, List, Option, Some, None}
use Rattle.std.specs.Coded.{le_prop, Coded-set, coded_list, coded_ℕ}
use Rattle.std.proofs.Math.Bool.{Bool-set}
use Rattle.c_tree.specs.WellFormed.{IsAddressable, IsAutomatic}
use Rattle.c_tree.specs.declared.program.VarRef.{VarRef}
use Rattle.c_tree.specs.declared.program.VarRef.TheVariants.{Scalar, Local, Static}
use Rattle.acc_code.specs.AccTree.{Item, Op, If, Loop, Switch, Case, Clear, Call, Helper, Break, Continue, ItemList, end, item}
use Rattle.acc_code.specs.Emittable as emitted
use Rattle.acc_code.specs.Emittable.{Throughout, Within, IsPlaced, IsPlacedItem, Stored, nothing_stored, stored_by, IsStored, ReadsStored, ReadsStoredWithin}
use Rattle.acc_code.specs.Operands.{Taken, No_operand, Read_word, Written_word, Constant8, Constant13, Constant16, HasRange, IsTaken, taken_by}
use Rattle.acc_code.specs.declared.operand.AccOperand.{AccOperand}
use Rattle.acc_code.specs.declared.operand.AccOperand.TheVariants as operand
use Rattle.acc_code.specs.declared.operation.AccOp.{AccOp}
use Rattle.acc_code.specs.declared.operation.AccOp.TheVariants as row
use Rattle.acc_select.proofs.EmittableRuns.{Frame, Place, Refers}

-- of each item
module _ (P : Item → Type 0) (each : (x : Item) → IsProp (P x)) where
  mutual
    pub throughout_prop : (xs : ItemList) → IsProp (Throughout P xs)
    throughout_prop end = hlevel
    throughout_prop (item x xs) = hlevel (each x, within_prop x, throughout_prop xs)

    within_prop : (x : Item) → IsProp (Within P x)
    within_prop (If test hit miss) = hlevel (throughout_prop hit, throughout_prop miss)
    within_prop (Loop before body behind last) = hlevel (throughout_prop before, throughout_prop body, throughout_prop behind)
    within_prop (Switch labels body) = throughout_prop body
    within_prop x = hlevel

range_prop : (o : AccOp) → IsProp (HasRange o)
range_prop (row.Add s) = le_prop
range_prop (row.Sub s) = le_prop
range_prop (row.Lac s) = le_prop
range_prop (row.Sacl s) = le_prop
range_prop (row.Sach s) = le_prop
range_prop (row.In port) = le_prop
range_prop (row.Out port) = le_prop
range_prop (row.Lalk s) = le_prop
range_prop (row.Adlk s) = le_prop
range_prop (row.Sblk s) = le_prop
range_prop o = hlevel

taken_prop : (t : Taken) (m : AccOperand) → IsProp (IsTaken t m)
taken_prop Constant8 (operand.Number w) = le_prop
taken_prop Constant13 (operand.Number w) = hlevel Bool-set
taken_prop Constant16 (operand.Number w) = hlevel
taken_prop No_operand operand.Nothing = hlevel
taken_prop Read_word (operand.Scalar n) = hlevel
taken_prop Written_word (operand.Scalar n) = hlevel
taken_prop t m = hlevel

addressable_prop : (v : VarRef) → IsProp (IsAddressable v)
addressable_prop (Scalar n) = hlevel
addressable_prop (Local n) = hlevel
addressable_prop (Static n) = hlevel

automatic_prop : (v : VarRef) → IsProp (IsAutomatic v)
automatic_prop (Scalar n) = hlevel
automatic_prop (Local n) = hlevel
automatic_prop (Static n) = hlevel

module _ (F : Frame) where
  most_prop : (n : ℕ) (c : Option ℕ) → IsProp (emitted.AtMostCells F.scalars F.cells F.parameters F.helps n c)
  most_prop n None = hlevel
  most_prop n (Some m) = le_prop

  below_prop : (n : ℕ) (c : Option ℕ) → IsProp (emitted.BelowCount F.scalars F.cells F.parameters F.helps n c)
  below_prop n None = hlevel
  below_prop n (Some m) = le_prop

  there_prop : (c : Option ℕ) → IsProp (emitted.IsThereFor F.scalars F.cells F.parameters F.helps c)
  there_prop None = hlevel
  there_prop (Some m) = hlevel

  place_prop : (m : AccOperand) → IsProp (Place F m)
  place_prop (operand.Scalar n) = le_prop
  place_prop (operand.Direct v) = hlevel (addressable_prop v, below_prop 0 (F.cells v))
  place_prop (operand.Param f n) = below_prop n (F.parameters f)
  place_prop (operand.Scratch n) = le_prop
  place_prop (operand.Address v n) = hlevel (addressable_prop v, most_prop n (F.cells v))
  place_prop m = hlevel

  refers_prop : (x : Item) → IsProp (Refers F x)
  refers_prop (Op o m) = hlevel (range_prop o, taken_prop (taken_by o) m, place_prop m)
  refers_prop (Clear v from) = hlevel (automatic_prop v, addressable_prop v, most_prop from (F.cells v))
  refers_prop (Call f) = there_prop (F.parameters f)
  refers_prop (Helper name) = hlevel Bool-set
  refers_prop x = hlevel

stored_prop : (t : Taken) (m : AccOperand) (w : Stored) → IsProp (IsStored t m w)
stored_prop Read_word (operand.Scratch n) w = hlevel Bool-set
stored_prop t m w = hlevel

mutual
  pub reads_prop : (xs : ItemList) (w : Stored) → IsProp (ReadsStored w xs)
  reads_prop end w = hlevel
  reads_prop (item (Op o m) xs) w = hlevel (stored_prop (taken_by o) m w, reads_prop xs (stored_by o m w))
  reads_prop (item (Helper name) xs) w = hlevel (Bool-set, reads_prop xs nothing_stored)
  reads_prop (item x xs) w = hlevel (reads_within_prop x, reads_prop xs nothing_stored)

  reads_within_prop : (x : Item) → IsProp (ReadsStoredWithin x)
  reads_within_prop (If test hit miss) = hlevel (reads_prop hit nothing_stored, reads_prop miss nothing_stored)
  reads_within_prop (Loop before body behind last) = hlevel (reads_prop before nothing_stored, reads_prop body nothing_stored, reads_prop behind nothing_stored)
  reads_within_prop (Switch labels body) = reads_prop body nothing_stored
  reads_within_prop x = hlevel

pub numbers_set : IsSet (List ℕ)
numbers_set = Coded-set (coded_list coded_ℕ)

mutual
  pub placed_prop : (xs : ItemList) (b c l : Bool) → IsProp (IsPlaced b c l xs)
  placed_prop end b c l = hlevel
  placed_prop (item x xs) b c l = hlevel (placed_item_prop x b c l, placed_prop xs b c l)

  placed_item_prop : (x : Item) (b c l : Bool) → IsProp (IsPlacedItem b c l x)
  placed_item_prop (If test hit miss) b c l = hlevel (placed_prop hit b c false, placed_prop miss b c false)
  placed_item_prop (Loop before body behind last) b c l =
      hlevel (placed_prop before true false false, placed_prop body true true false, placed_prop behind true false false)
  placed_item_prop (Switch labels body) b c l = hlevel (numbers_set, placed_prop body true c true)
  placed_item_prop Break b c l = hlevel Bool-set
  placed_item_prop Continue b c l = hlevel Bool-set
  placed_item_prop (Case n) b c l = hlevel Bool-set
  placed_item_prop x b c l = hlevel

pub body_prop : (F : Frame) (body : ItemList) → IsProp (emitted.IsEmittableBody F.scalars F.cells F.parameters F.helps body)
body_prop F body = hlevel (throughout_prop (Refers F) (refers_prop F) body, placed_prop body false false false, reads_prop body nothing_stored)
