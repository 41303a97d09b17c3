-- The word of an operation, by what its operands are, where an operation may be a comparison: its word is the number of its truth then.
use Rattle.std.specs.Prelude.{ℕ, suc, Bool, true, false}
use Rattle.acc_code.specs.declared.operand.AccOperand.{AccOperand}
use Rattle.acc_code.specs.declared.operand.AccOperand.TheVariants as operand
use Rattle.acc_code.specs.declared.operation.Test.{Test}
use Rattle.acc_code.specs.declared.operation.Test.TheVariants.{Nz}
use Rattle.acc_code.specs.AccTree.{If, ItemList, end, ◌▸◌, ◌⧺◌}
use Rattle.acc_operations.specs.Arithmetic.{with_place, with_constant, of_constant, of_place}
use Rattle.acc_operations.specs.Comparisons.{Compared, compared_with_place, compared_with_constant, compared_of_constant, compared_of_place}
use Rattle.acc_select.specs.Conditions.{number, clean_items}
use Rattle.acc_select.specs.Forms.{Part_code, temporary, compared, of_word, point, stored, through}
use Rattle.acc_operations.specs.Constants.{place_of, shape_of}
use Rattle.acc_select.specs.Selected.{code_of}
use Rattle.tree_code.specs.WordTree.{ExprCode, LvalueCode, Named, At}
use Rattle.acc_operations.specs.Words.{Word, in_accumulator, held, next, behind, loaded, sacl}
use Rattle.acc_operations.specs.declared.found.Found.{Found}
use Rattle.acc_operations.specs.declared.constant.Constant.{Constant}
use Rattle.acc_operations.specs.declared.constant.Shape.{Shape}
use Rattle.acc_operations.specs.declared.constant.Shape.TheVariants as shape
use Rattle.acc_operations.specs.declared.high_half.HighHalf.TheVariants.{Small, Sign}
use Rattle.acc_operations.specs.declared.operation.Operation.{Operation}
use Rattle.acc_operations.specs.declared.operation.Operation.TheVariants as operation

-- the number of a truth that a test tells
abbrev pub number_items : Test → ItemList
number_items t = If t (number 1) (number 0) ▸ end

abbrev pub number_of : Compared → Word
number_of c = in_accumulator (c.items ⧺ number_items c.test) Small

abbrev pub with_named : Operation → Found → AccOperand → Word
with_named (operation.Word o) f m = with_place o f m
with_named (operation.Truth c) f m = number_of (compared_with_place c f m)

abbrev pub with_number : Operation → Found → Constant → Word
with_number (operation.Word o) f k = with_constant o f k
with_number (operation.Truth c) f k = number_of (compared_with_constant c f k)

abbrev pub of_number : Operation → Constant → Found → Word
of_number (operation.Word o) k f = of_constant o k f
of_number (operation.Truth c) k f = number_of (compared_of_constant c k f)

abbrev pub of_kept : Operation → AccOperand → Found → Word
of_kept (operation.Word o) m f = of_place o m f
of_kept (operation.Truth c) m f = number_of (compared_of_place c m f)

-- that of an operator, and that of an operation on the word of a place
abbrev pub operated : Operation → Shape → Shape → Part_code → Part_code → ℕ → Word
operated o s (shape.Named m) a b t = next (a t).word (λ f. with_named o f m)
operated o s (shape.Constant k) a b t = next (a t).word (λ f. with_number o f k)
operated o (shape.Constant k) shape.Computed a b t = next (b t).word (of_number o k)
operated o (shape.Named m) shape.Computed a b t = next (behind ((a t).into (temporary t)) (b (suc t)).word) (of_kept o (temporary t))
operated o shape.Computed shape.Computed a b t = next (behind ((a t).into (temporary t)) (b (suc t)).word) (of_kept o (temporary t))

abbrev pub updated : Operation → Shape → AccOperand → Part_code → ℕ → Word
updated o s m e t = operated o shape.Computed s (λ n. of_word (held end m)) e t

-- a test that holds where a word isn't 0, and one of what an operator leaves
abbrev pub not_zero : Word → Compared
not_zero w = record { items = clean_items w; test = Nz }

abbrev pub operation_question : Operation → Shape → Shape → Part_code → Part_code → ℕ → Compared
operation_question (operation.Truth c) r s a b t = compared c r s a b t
operation_question (operation.Word w) r s a b t = not_zero (operated (operation.Word w) r s a b t)

-- an operator whose value isn't used
abbrev pub operation_effect : Operation → Shape → Shape → Part_code → Part_code → ℕ → ItemList
operation_effect (operation.Word w) r s a b t = loaded (operated (operation.Word w) r s a b t)
operation_effect (operation.Truth c) r s a b t = (compared c r s a b t).items ⧺ If (compared c r s a b t).test end end ▸ end

-- a pointer waits in a place, and is pointed to
abbrev pub point_kept : Word → AccOperand → ItemList
point_kept p m = loaded p ⧺ sacl m ▸ point ▸ end

-- an operation on what a pointer points to, which waits in a temporary where the other operand has to be computed
abbrev pub update_through_of : Part_code → Word → ℕ → Word
update_through_of p w t = in_accumulator (point_kept (p t).word (temporary t) ⧺ loaded w ⧺ through (temporary t)) Sign

abbrev pub update_through : Operation → Shape → Part_code → Part_code → ℕ → Word
update_through o s p e t = update_through_of p (updated o s operand.Pointed e (suc t)) t

abbrev pub update_at : Operation → Shape → Part_code → Part_code → ℕ → Word
update_at o (shape.Constant k) p e t = behind (p t).point (stored (updated o (shape.Constant k) operand.Pointed e t) operand.Pointed)
update_at o (shape.Named n) p e t = behind (p t).point (stored (updated o (shape.Named n) operand.Pointed e t) operand.Pointed)
update_at o shape.Computed p e t = update_through o shape.Computed p e t

-- an operation on what is assigned to
abbrev pub update_word : Operation → LvalueCode → ExprCode → ℕ → Word
update_word o (Named v place) e t = stored (updated o (shape_of e) (place_of v) (code_of e) t) (place_of v)
update_word o (At p place) e t = update_at o (shape_of e) (code_of p) (code_of e) t

-- where an argument goes
abbrev pub argument_place : ℕ → ℕ → ℕ → Bool → AccOperand
argument_place f i t true = operand.Param f i
argument_place f i t false = temporary t
