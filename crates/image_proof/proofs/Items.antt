-- What items of a function need besides is so where its operands are usable and the routines that it calls stand.
use Rattle.std.proofs.Common.{◌≡◌, ℕ, ◌≤◌, inl, inr, Bool, List, Option, Some, None, refl, subst, arith}
use Rattle.c_tree.specs.declared.program.VarRef.{VarRef}
use Rattle.acc_code.specs.declared.operand.AccOperand.{AccOperand}
use Rattle.acc_code.specs.declared.operand.AccOperand.TheVariants as operand
use Rattle.acc_code.specs.declared.operand.HelperName.{HelperName}
use Rattle.acc_code.specs.declared.operation.AccOp.{AccOp}
use Rattle.acc_code.specs.declared.operation.AccOp.TheVariants as row
use Rattle.acc_code.specs.AccTree.{Item, Op, If, Loop, Switch, Case, Clear, Call, Helper, Break, Continue, Return, ItemList, end, item}
use Rattle.acc_code.specs.Emittable.{Throughout, Within, BelowCount, RefersRight}
use Rattle.c25_isa.specs.State as machine
use Rattle.c25_isa.specs.State.{Memory}
use Rattle.emit_proof.specs.Calls.{StandsIn, StandsWithin}
use Rattle.emit_proof.proofs.FlowStanding.{throughout}
use Rattle.frame_emit.specs.emit_control.Settings.{Setting}
use Rattle.emit_blocks.specs.Places.{object_address}
use Rattle.emit_proof.specs.Sites.{Site}
use Rattle.emit_proof.specs.Operations.{IsTakenIn}
use Rattle.emit_proof.specs.Code.{HelperStands, IsPresent, ItemStands}
use Rattle.image_proof.specs.Usable.{IsUsableItem}

module _ (C : Item → Type 0) where
  mutual
    pub each_item : (xs : ItemList) → Throughout C xs → (y : Item) → StandsIn y xs → C y
    each_item end t y s = absurd s
    each_item (item x xs) t y (inl e) = subst C e t.0
    each_item (item x xs) t y (inr (inl s)) = each_within x t.1 y s
    each_item (item x xs) t y (inr (inr s)) = each_item xs t.2 y s

    each_within : (x : Item) → Within C x → (y : Item) → StandsWithin y x → C y
    each_within (Op o m) t y s = absurd s
    each_within (If test hit miss) t y (inl s) = each_item hit t.0 y s
    each_within (If test hit miss) t y (inr s) = each_item miss t.1 y s
    each_within (Loop before body third last) t y (inl s) = each_item before t.0 y s
    each_within (Loop before body third last) t y (inr (inl s)) = each_item body t.1 y s
    each_within (Loop before body third last) t y (inr (inr s)) = each_item third t.2 y s
    each_within (Switch labels body) t y s = each_item body t y s
    each_within (Case n) t y s = absurd s
    each_within (Clear v from) t y s = absurd s
    each_within (Call g) t y s = absurd s
    each_within (Helper name) t y s = absurd s
    each_within Break t y s = absurd s
    each_within Continue t y s = absurd s
    each_within Return t y s = absurd s

module _ (start : machine.State) (program : Memory) (names : List ℕ → ℕ) (m : Setting) (k : Site) (scalars : ℕ) (cells : VarRef → Option ℕ) (parameters : ℕ → Option ℕ) (helps : Bool) where
  present : (n : ℕ) (o : Option ℕ) → BelowCount scalars cells parameters helps n o → IsPresent o
  present n None h = absurd h
  present n (Some c) h = tt

  module _ (ram : (v : VarRef) → IsPresent (cells v) → 784 ≤ object_address k.places v) where
    -- an object of an input lies in RAM
    taken_in : (o : AccOp) (a : AccOperand) → RefersRight scalars cells parameters helps (Op o a) → IsTakenIn k o a
    taken_in (row.In port) (operand.Direct v) refers = let low = ram v (present 0 (cells v) refers.there.1) in omega (arith, low)
    taken_in (row.In port) operand.Pointed refers = tt
    taken_in (row.In port) operand.Nothing refers = tt
    taken_in (row.In port) (operand.Scalar n) refers = tt
    taken_in (row.In port) (operand.Param f n) refers = tt
    taken_in (row.In port) (operand.Scratch n) refers = tt
    taken_in (row.In port) (operand.Number w) refers = tt
    taken_in (row.In port) (operand.Address v i) refers = tt
    taken_in row.Point a refers = tt
    taken_in (row.Add s) a refers = tt
    taken_in (row.Sub s) a refers = tt
    taken_in (row.Lac s) a refers = tt
    taken_in row.Mpy a refers = tt
    taken_in row.Lt a refers = tt
    taken_in row.Zals a refers = tt
    taken_in row.Lact a refers = tt
    taken_in row.Subs a refers = tt
    taken_in row.Adds a refers = tt
    taken_in row.Xor a refers = tt
    taken_in row.Or a refers = tt
    taken_in row.And a refers = tt
    taken_in (row.Sacl s) a refers = tt
    taken_in (row.Sach s) a refers = tt
    taken_in (row.Out port) a refers = tt
    taken_in row.Mpyk a refers = tt
    taken_in row.Lack a refers = tt
    taken_in row.Addk a refers = tt
    taken_in row.Subk a refers = tt
    taken_in (row.Lalk s) a refers = tt
    taken_in (row.Adlk s) a refers = tt
    taken_in (row.Sblk s) a refers = tt
    taken_in row.Andk a refers = tt
    taken_in row.Ork a refers = tt
    taken_in row.Xork a refers = tt
    taken_in row.Dint a refers = tt
    taken_in row.Rovm a refers = tt
    taken_in row.Spm a refers = tt
    taken_in row.Rsxm a refers = tt
    taken_in row.Ssxm a refers = tt
    taken_in row.Pac a refers = tt
    taken_in row.Apac a refers = tt
    taken_in row.Spac a refers = tt
    taken_in row.Sfl a refers = tt
    taken_in row.Sfr a refers = tt
    taken_in row.Neg a refers = tt
    taken_in row.Cmpl a refers = tt

    item_stands : (x : Item) → IsUsableItem x → RefersRight scalars cells parameters helps x → ((name : HelperName) → x ≡ Helper name → HelperStands start program names m k name) → ItemStands start program names m k x
    item_stands (Op o a) usable refers helpers = (usable, taken_in o a refers)
    item_stands (If test hit miss) usable refers helpers = tt
    item_stands (Loop before body third last) usable refers helpers = tt
    item_stands (Switch labels body) usable refers helpers = usable
    item_stands (Case n) usable refers helpers = tt
    item_stands (Clear v from) usable refers helpers = tt
    item_stands (Call g) usable refers helpers = tt
    item_stands (Helper name) usable refers helpers = helpers name refl
    item_stands Break usable refers helpers = tt
    item_stands Continue usable refers helpers = tt
    item_stands Return usable refers helpers = tt

    pub items_stand : (body : ItemList) → Throughout IsUsableItem body → Throughout (RefersRight scalars cells parameters helps) body → ((name : HelperName) → StandsIn (Helper name) body → HelperStands start program names m k name) → Throughout (ItemStands start program names m k) body
    items_stand body usable refers helpers =
        throughout (ItemStands start program names m k) body
        (λ y s. item_stands y (each_item IsUsableItem body usable y s) (each_item (RefersRight scalars cells parameters helps) body refers y s) (λ name e. helpers name (subst (λ x. StandsIn x body) e s)))
