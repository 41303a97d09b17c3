-- The code of each form of expressions is usable where that of its parts is.
use Rattle.std.proofs.Common.{ℕ, zero, suc, Bool, true, false, arith}
use Rattle.std.specs.Prelude.{⊤, if◌then◌else◌}
use Rattle.c_syntax.specs.declared.operator.UnaryOp.{UnaryOp}
use Rattle.c_syntax.specs.declared.operator.UnaryOp.TheVariants.{Minus, Plus, Complement}
use Rattle.acc_code.specs.AccTree.{Call, ItemList, end, ◌▸◌, ◌⧺◌}
use Rattle.acc_code.specs.declared.operand.AccOperand.{AccOperand}
use Rattle.acc_code.specs.declared.operand.AccOperand.TheVariants as operand
use Rattle.acc_select.specs.acc_operations.Words.{Word, fixed, held, next, behind, in_accumulator, scratch, high}
use Rattle.acc_select.specs.acc_operations.Arithmetic.{with_place, with_constant, of_constant, of_place}
use Rattle.acc_select.specs.acc_operations.Comparisons.{items_of_place}
use Rattle.acc_select.specs.acc_operations.declared.constant.Constant.{Constant}
use Rattle.acc_select.specs.acc_operations.declared.comparison.Comparison.{Comparison}
use Rattle.acc_select.specs.acc_operations.declared.constant.Shape.{Shape}
use Rattle.acc_select.specs.acc_operations.declared.constant.Shape.TheVariants as shape
use Rattle.acc_select.specs.acc_operations.declared.found.Found.{Found}
use Rattle.acc_select.specs.acc_operations.declared.found.Found.TheVariants.{Fixed, Held, Loaded}
use Rattle.acc_select.specs.acc_operations.declared.high_half.HighHalf.TheVariants.{Any, Sign}
use Rattle.acc_select.specs.acc_operations.declared.operation.Arithmetic.{Arithmetic}
use Rattle.acc_select.specs.acc_operations.declared.operation.Operation.{Operation}
use Rattle.acc_select.specs.acc_operations.declared.operation.Operation.TheVariants as operation
use Rattle.acc_select.specs.Conditions as condition
use Rattle.acc_select.specs.Forms as form
use Rattle.acc_select.specs.Forms.{Code, Part_code, of_word, unary_word, unary_code, temporary, computed, compared, binary_code, signed_items, pick_code, comma_code, stored, assign_name_code, through, is_computed, assign_at_code, updated, update_name_code, update_at_code, stepped, undo_row, step_before_code, step_after_code, step_name_after_code, in_code, out_items, out_code, call_code, argument_items, parameter_items}
use Rattle.emit_proof.specs.Addressed.{IsWordOperand}
use Rattle.image_proof.proofs.Usables.{Usable, nothing, plain, on_number, on_first, on_place, both, call}
use Rattle.image_proof.proofs.UsableWords.{IsWordConstant, IsWordFound, UsableWord, calculated, load_usable, loaded_usable, extend_usable}
use Rattle.image_proof.proofs.Operations.{kept_first, with_place_usable, with_constant_usable, of_constant_usable, of_place_usable}
use Rattle.image_proof.proofs.Comparisons.{items_with_place_usable, items_with_constant_usable, items_of_place_usable}
use Rattle.image_proof.proofs.Branches.{UsableCode, tested_usable, of_word_usable, of_branch_usable}

abbrev pub IsWordShape : Shape → Type 0
IsWordShape (shape.Constant k) = IsWordConstant k
IsWordShape (shape.Named m) = IsWordOperand m
IsWordShape shape.Computed = ⊤

-- a word behind the items that find another one
next_usable : (w : Word) (f : Found → Word) → UsableWord w → UsableWord (f w.found) → UsableWord (next w f)
next_usable w f h k = record { items = both h.items k.items; found = k.found }

pub fixed_usable : (k : Constant) → IsWordConstant k → UsableWord (fixed k)
fixed_usable k is = record { items = nothing; found = is }

pub held_usable : {xs : ItemList} (m : AccOperand) → Usable xs → IsWordOperand m → UsableWord (held xs m)
held_usable m h is = record { items = h; found = is }

-- operations, of which a part is usable at any depth
abbrev Always : Part_code → Type 0
Always a = (t : ℕ) → UsableCode (a t)

unary_word_usable : (o : UnaryOp) (f : Found) → IsWordFound f → UsableWord (unary_word o f)
unary_word_usable Plus f is = calculated (load_usable f is)
unary_word_usable Minus f is = calculated (both (load_usable f is) (plain nothing))
unary_word_usable Complement f is = calculated (both (load_usable f is) (plain nothing))

pub unary_usable : (s : Shape) (o : UnaryOp) (e : Code) → IsWordShape s → UsableCode e → UsableCode (unary_code s o e)
unary_usable (shape.Constant k) o e is h = of_word_usable (fixed k) (fixed_usable k is)
unary_usable (shape.Named m) o e is h = of_word_usable (next e.word (unary_word o)) (next_usable e.word (unary_word o) h.word (unary_word_usable o e.word.found h.word.found))
unary_usable shape.Computed o e is h = of_word_usable (next e.word (unary_word o)) (next_usable e.word (unary_word o) h.word (unary_word_usable o e.word.found h.word.found))

computed_waits : (o : Arithmetic) (a b : Part_code) (t : ℕ) → Always a → Always b → UsableWord (next (behind ((a t).into (temporary t)) (b (suc t)).word) (of_place o (temporary t)))
computed_waits o a b t h k =
    let made = of_place_usable o (temporary t) (b (suc t)).word.found tt (k (suc t)).word.found in
    record { items = both (both ((h t).into (temporary t) tt) (k (suc t)).word.items) made.items; found = made.found }

computed_usable : (o : Arithmetic) (r s : Shape) (a b : Part_code) (t : ℕ) → IsWordShape r → IsWordShape s → Always a → Always b → UsableWord (computed o r s a b t)
computed_usable o r (shape.Named m) a b t p q h k = next_usable (a t).word (λ f. with_place o f m) (h t).word (with_place_usable o (a t).word.found m (h t).word.found q)
computed_usable o r (shape.Constant c) a b t p q h k = next_usable (a t).word (λ f. with_constant o f c) (h t).word (with_constant_usable o (a t).word.found c (h t).word.found q)
computed_usable o (shape.Constant c) shape.Computed a b t p q h k = next_usable (b t).word (of_constant o c) (k t).word (of_constant_usable o c (b t).word.found p (k t).word.found)
computed_usable o (shape.Named m) shape.Computed a b t p q h k = computed_waits o a b t h k
computed_usable o shape.Computed shape.Computed a b t p q h k = computed_waits o a b t h k

compared_waits : (c : Comparison) (a b : Part_code) (t : ℕ) → Always a → Always b
    → Usable (((a t).into (temporary t) ⧺ (b (suc t)).word.items) ⧺ items_of_place c.order (temporary t) (b (suc t)).word.found (high (b (suc t)).word.found))
compared_waits c a b t h k =
    both (both ((h t).into (temporary t) tt) (k (suc t)).word.items) (items_of_place_usable c.order (temporary t) (b (suc t)).word.found (high (b (suc t)).word.found) tt (k (suc t)).word.found)

compared_usable : (c : Comparison) (r s : Shape) (a b : Part_code) (t : ℕ) → IsWordShape r → IsWordShape s → Always a → Always b → Usable (compared c r s a b t).items
compared_usable c r (shape.Named m) a b t p q h k = both (h t).word.items (items_with_place_usable c.order (a t).word.found m (h t).word.found q)
compared_usable c r (shape.Constant l) a b t p q h k = both (h t).word.items (items_with_constant_usable c.order (a t).word.found l (h t).word.found q)
compared_usable c (shape.Constant l) shape.Computed a b t p q h k = both (k t).word.items (items_with_constant_usable c.order (b t).word.found l (k t).word.found p)
compared_usable c (shape.Named m) shape.Computed a b t p q h k = compared_waits c a b t h k
compared_usable c shape.Computed shape.Computed a b t p q h k = compared_waits c a b t h k

pub binary_usable : (o : Operation) (r s : Shape) (a b : Part_code) (t : ℕ) → IsWordShape r → IsWordShape s → Always a → Always b → UsableCode (binary_code o r s a b t)
binary_usable (operation.Word o) r s a b t p q h k = of_word_usable (computed o r s a b t) (computed_usable o r s a b t p q h k)
binary_usable (operation.Truth c) r s a b t p q h k = of_branch_usable (condition.by_comparison (compared c r s a b t)) (tested_usable (compared c r s a b t).test (compared_usable c r s a b t p q h k))

-- stores
stored_usable : (w : Word) (m : AccOperand) → UsableWord w → IsWordOperand m → UsableWord (stored w m)
stored_usable w m h is = calculated (both (loaded_usable w h) (on_place is nothing))

through_usable : (m : AccOperand) → IsWordOperand m → Usable (through m)
through_usable m is = on_first (on_place is (plain (on_first (on_place tt nothing))))

either_word : (b : Bool) (u w : Word) → UsableWord u → UsableWord w → UsableCode (of_word (if b then u else w))
either_word true u w h k = of_word_usable u h
either_word false u w h k = of_word_usable w k

pub assign_name_usable : (m : AccOperand) (e : Code) → IsWordOperand m → UsableCode e → UsableCode (assign_name_code m e)
assign_name_usable m e is h =
    let made = of_word_usable (stored e.word m) (stored_usable e.word m h.word is) in
    record { word = made.word; branch = made.branch; effect = h.into m is; into = made.into; point = made.point }

behind_usable : {xs : ItemList} (w : Word) → Usable xs → UsableWord w → UsableWord (behind xs w)
behind_usable w h k = record { items = both h k.items; found = k.found }

pub assign_at_usable : (s : Shape) (p e : Part_code) (t : ℕ) → Always p → Always e → UsableCode (assign_at_code s p e t)
assign_at_usable s p e t h k =
    either_word (is_computed s) (form.assign_through p e t) (form.assign_at_once (p t) (e t))
    (calculated (both ((h t).into (temporary t) tt) (both (loaded_usable (e (suc t)).word (k (suc t)).word) (through_usable (temporary t) tt))))
    (behind_usable (stored (e t).word operand.Pointed) (h t).point (stored_usable (e t).word operand.Pointed (k t).word tt))

-- an operation on the word of a place
updated_usable : (o : Operation) (s : Shape) (m : AccOperand) (e : Part_code) (t : ℕ) → IsWordShape s → IsWordOperand m → Always e → UsableWord (updated o s m e t)
updated_usable o s m e t q is k = (binary_usable o shape.Computed s (λ n. of_word (held end m)) e t tt q (λ n. of_word_usable (held end m) (held_usable m nothing is)) k).word

pub update_name_usable : (o : Operation) (s : Shape) (m : AccOperand) (e : Part_code) (t : ℕ) → IsWordShape s → IsWordOperand m → Always e → UsableCode (update_name_code o s m e t)
update_name_usable o s m e t q is k = of_word_usable (stored (updated o s m e t) m) (stored_usable (updated o s m e t) m (updated_usable o s m e t q is k) is)

pub update_at_usable : (o : Operation) (s : Shape) (p e : Part_code) (t : ℕ) → IsWordShape s → Always p → Always e → UsableCode (update_at_code o s p e t)
update_at_usable o s p e t q h k =
    either_word (is_computed s) (form.update_through o s p e t) (form.update_at_once o s p e t)
    (calculated (both (loaded_usable (p t).word (h t).word) (on_place tt (plain (both (loaded_usable (updated o s operand.Pointed e (suc t)) (updated_usable o s operand.Pointed e (suc t) q tt k)) (through_usable (temporary t) tt))))))
    (behind_usable (stored (updated o s operand.Pointed e t) operand.Pointed) (h t).point (stored_usable (updated o s operand.Pointed e t) operand.Pointed (updated_usable o s operand.Pointed e t q tt k) tt))

-- one more, or one less
stepped_usable : (up : Bool) (m : AccOperand) → IsWordOperand m → Usable (stepped up m)
stepped_usable up m is = on_place is (on_number (omega arith) (on_place is nothing))

undo_usable : (up : Bool) → Usable (undo_row up ▸ end)
undo_usable up = on_number (omega arith) nothing

pub step_before_usable : (up : Bool) (xs : ItemList) (m : AccOperand) → Usable xs → IsWordOperand m → UsableCode (step_before_code up xs m)
step_before_usable up xs m h is = of_word_usable (in_accumulator (xs ⧺ stepped up m) Any) (calculated (both h (stepped_usable up m is)))

pub step_after_usable : (up : Bool) (xs : ItemList) (m : AccOperand) → Usable xs → IsWordOperand m → UsableCode (step_after_code up xs m)
step_after_usable up xs m h is =
    let made = of_word_usable (in_accumulator (xs ⧺ stepped up m ⧺ undo_row up ▸ end) Any) (calculated (both h (both (stepped_usable up m is) (undo_usable up)))) in
    record { word = made.word; branch = made.branch; effect = both h (stepped_usable up m is); into = made.into; point = made.point }

pub step_name_after_usable : (up : Bool) (m : AccOperand) → IsWordOperand m → UsableCode (step_name_after_code up m)
step_name_after_usable up m is =
    let made = step_after_usable up end m nothing is in
    record { word = made.word; branch = made.branch; effect = made.effect; into = made.into; point = on_place is (plain (on_number (omega arith) (on_place is nothing))) }

-- the other forms
signed_usable : (w : Word) → UsableWord w → Usable (signed_items w)
signed_usable w h = both (loaded_usable w h) (extend_usable (high w.found))

pub pick_usable : (c a b : Code) → UsableCode c → UsableCode a → UsableCode b → UsableCode (pick_code c a b)
pick_usable c a b h k l =
    let made = of_word_usable (in_accumulator (c.branch true (condition.Runs (signed_items a.word)) (condition.Runs (signed_items b.word))) Sign)
    (calculated (h.branch.at true (condition.Runs (signed_items a.word)) (condition.Runs (signed_items b.word)) (signed_usable a.word k.word) (signed_usable b.word l.word))) in
    record { word = made.word; branch = made.branch; effect = h.branch.at true (condition.Runs a.effect) (condition.Runs b.effect) k.effect l.effect; into = made.into; point = made.point }

pub comma_usable : (a b : Code) → UsableCode a → UsableCode b → UsableCode (comma_code a b)
comma_usable a b h k = record {
  word = behind_usable b.word h.effect k.word;
  branch = record { at = λ sense hit miss x y. both h.effect (k.branch.at sense hit miss x y) };
  effect = both h.effect k.effect;
  into = λ m is. both h.effect (k.into m is);
  point = both h.effect k.point;
}

pub in_usable : (port : ℕ) → UsableCode (in_code port)
in_usable port =
    let made = of_word_usable (in_code port).word (held_usable (scratch 0) (on_first nothing) (omega arith)) in
    record { word = made.word; branch = made.branch; effect = on_first nothing; into = λ m is. on_place is nothing; point = made.point }

out_items_usable : (port : ℕ) (f : Found) → IsWordFound f → Usable (out_items port f)
out_items_usable port (Fixed k) is = both (kept_first (Fixed k) is) (on_first nothing)
out_items_usable port (Held m) is = on_place is nothing
out_items_usable port (Loaded h) is = both (kept_first (Loaded h) is) (on_first nothing)

pub out_usable : (port : ℕ) (e : Code) → UsableCode e → UsableCode (out_code port e)
out_usable port e h = of_word_usable (in_accumulator (e.word.items ⧺ out_items port e.word.found) Any) (calculated (both h.word.items (out_items_usable port e.word.found h.word.found)))

-- calls
pub argument_usable : (f i t : ℕ) (last : Bool) (e : Code) (rest : ItemList) → UsableCode e → Usable rest → Usable (argument_items f i t last e rest)
argument_usable f i t true e rest h k = h.into (operand.Param f i) tt
argument_usable f i t false e rest h k = both (h.into (temporary t) tt) k

pub parameters_usable : (f i t n : ℕ) → Usable (parameter_items f i t n)
parameters_usable f i t zero = nothing
parameters_usable f i t (suc n) = on_place tt (on_place tt (parameters_usable f (suc i) (suc t) n))

pub call_usable : (f : ℕ) (xs ys : ItemList) → Usable xs → Usable ys → UsableCode (call_code f xs ys)
call_usable f xs ys h k = of_word_usable (in_accumulator (xs ⧺ ys ⧺ Call f ▸ end) Any) (calculated (both h (both k call)))
