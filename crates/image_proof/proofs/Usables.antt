-- Lists of usable items, put together of smaller ones.
use Rattle.std.proofs.Common.{ℕ, ◌<◌, Bool, true, false, List, arith}
use Rattle.std.specs.Prelude.{if◌then◌else◌}
use Rattle.acc_code.specs.AccTree.{Op, If, Loop, Switch, Case, Clear, Call, Helper, Break, Continue, Return, ItemList, end, item, ◌▸◌, ◌⧺◌}
use Rattle.acc_code.specs.Emittable.{Throughout}
use Rattle.acc_code.specs.declared.item.CaseLabel.{CaseLabel}
use Rattle.acc_code.specs.declared.operand.AccOperand.{AccOperand}
use Rattle.acc_code.specs.declared.operand.AccOperand.TheVariants as operand
use Rattle.acc_code.specs.declared.operand.HelperName.{HelperName}
use Rattle.acc_code.specs.declared.operation.AccOp.{AccOp}
use Rattle.acc_code.specs.declared.operation.Test.{Test}
use Rattle.acc_select.specs.acc_operations.Words.{scratch, bare}
use Rattle.c_tree.specs.declared.program.VarRef.{VarRef}
use Rattle.emit_proof.specs.Addressed.{IsWordOperand}
use Rattle.emit_proof.specs.Code.{AreWordLabels}
use Rattle.image_proof.specs.Usable.{IsUsableItem}

pub record Usable (xs : ItemList) : Type 0 where
  pub items : Throughout IsUsableItem xs

pub nothing : Usable end
nothing = record { items = tt }

-- one operation more, with no operand, with a number, with an address, or with a word of memory
pub plain : {o : AccOp} {xs : ItemList} → Usable xs → Usable (bare o ▸ xs)
plain h = record { items = (tt, tt, h.items) }

pub on_number : {o : AccOp} {w : ℕ} {xs : ItemList} → w < 65536 → Usable xs → Usable (Op o (operand.Number w) ▸ xs)
on_number lt h = record { items = (lt, tt, h.items) }

pub on_address : {o : AccOp} {v : VarRef} {n : ℕ} {xs : ItemList} → Usable xs → Usable (Op o (operand.Address v n) ▸ xs)
on_address h = record { items = (tt, tt, h.items) }

pub on_scratch : {o : AccOp} {n : ℕ} {xs : ItemList} → n < 256 → Usable xs → Usable (Op o (scratch n) ▸ xs)
on_scratch lt h = record { items = (lt, tt, h.items) }

-- the first scratch word
pub on_first : {o : AccOp} {xs : ItemList} → Usable xs → Usable (Op o (scratch 0) ▸ xs)
on_first h = on_scratch (omega arith) h

pub on_place : {o : AccOp} {m : AccOperand} {xs : ItemList} → IsWordOperand m → Usable xs → Usable (Op o m ▸ xs)
on_place is h = record { items = (is, tt, h.items) }

-- lists one behind another, and one of two
joined : (xs ys : ItemList) → Throughout IsUsableItem xs → Throughout IsUsableItem ys → Throughout IsUsableItem (xs ⧺ ys)
joined end ys h k = k
joined (item x xs) ys h k = (h.0, h.1, joined xs ys h.2 k)

pub both : {xs ys : ItemList} → Usable xs → Usable ys → Usable (xs ⧺ ys)
both {xs} {ys} h k = record { items = joined xs ys h.items k.items }

pub either : (b : Bool) {xs ys : ItemList} → Usable xs → Usable ys → Usable (if b then xs else ys)
either true h k = h
either false h k = k

-- items with lists in them
pub choice : (t : Test) {hit miss : ItemList} → Usable hit → Usable miss → Usable (If t hit miss ▸ end)
choice t h k = record { items = (tt, (h.items, k.items), tt) }

pub loop : {before body behind : ItemList} (last : Bool) → Usable before → Usable body → Usable behind → Usable (Loop before body behind last ▸ end)
loop last h k l = record { items = (tt, (h.items, k.items, l.items), tt) }

pub switch : (cs : List CaseLabel) {body : ItemList} → AreWordLabels cs → Usable body → Usable (Switch cs body ▸ end)
switch cs words h = record { items = (words, h.items, tt) }

-- items that name nothing but a number or a routine
pub label : {i : ℕ} {xs : ItemList} → Usable xs → Usable (Case i ▸ xs)
label h = record { items = (tt, tt, h.items) }

pub clear : {v : VarRef} {from : ℕ} → Usable (Clear v from ▸ end)
clear = record { items = (tt, tt, tt) }

pub call : {f : ℕ} → Usable (Call f ▸ end)
call = record { items = (tt, tt, tt) }

pub routine : {name : HelperName} {xs : ItemList} → Usable xs → Usable (Helper name ▸ xs)
routine h = record { items = (tt, tt, h.items) }

pub break : Usable (Break ▸ end)
break = record { items = (tt, tt, tt) }

pub continue : Usable (Continue ▸ end)
continue = record { items = (tt, tt, tt) }

pub return : Usable (Return ▸ end)
return = record { items = (tt, tt, tt) }
