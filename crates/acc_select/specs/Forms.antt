-- The code of each form of expressions, from that of its parts.
use Rattle.std.specs.Prelude.{ℕ, zero, suc, Bool, true, false, if◌then◌else◌}
use Rattle.c_syntax.specs.declared.operator.UnaryOp.{UnaryOp}
use Rattle.c_syntax.specs.declared.operator.UnaryOp.TheVariants.{Minus, Plus, Complement}
use Rattle.acc_code.specs.declared.operand.AccOperand.{AccOperand}
use Rattle.acc_code.specs.declared.operand.AccOperand.TheVariants as operand
use Rattle.acc_code.specs.declared.operation.AccOp.TheVariants as row
use Rattle.acc_code.specs.AccTree.{Item, Op, Call, ItemList, end, ◌▸◌, ◌⧺◌}
use Rattle.acc_operations.specs.Arithmetic.{with_place, with_constant, of_constant, of_place}
use Rattle.acc_operations.specs.Comparisons.{Compared, compared_with_place, compared_with_constant, compared_of_constant, compared_of_place}
use Rattle.acc_select.specs.Conditions.{Branch, Nothing, Runs, by_comparison, by_word, negated, truth_items, and_branch, or_branch}
use Rattle.acc_operations.specs.Words.{Word, in_accumulator, fixed, held, next, behind, scratch, lac, sacl, bare, load, high, loaded, store, extend}
use Rattle.acc_operations.specs.declared.found.Found.{Found}
use Rattle.acc_operations.specs.declared.found.Found.TheVariants as found
use Rattle.acc_operations.specs.declared.constant.Shape.{Shape}
use Rattle.acc_operations.specs.declared.constant.Shape.TheVariants as shape
use Rattle.acc_operations.specs.declared.high_half.HighHalf.{HighHalf}
use Rattle.acc_operations.specs.declared.high_half.HighHalf.TheVariants.{Any, Zero, Sign, Small}
use Rattle.acc_operations.specs.declared.comparison.Comparison.{Comparison}
use Rattle.acc_operations.specs.declared.operation.Arithmetic.{Arithmetic}
use Rattle.acc_operations.specs.declared.operation.Operation.{Operation}
use Rattle.acc_operations.specs.declared.operation.Operation.TheVariants as operation

-- the code of an expression: for its word, for its truth, where the value isn't used, with the word stored to a place, and for the word as
-- the address of what is pointed to
pub record Code : Type 0 where
  pub word : Word
  pub branch : Branch
  pub effect : ItemList
  pub into : AccOperand → ItemList
  pub point : ItemList

abbrev pub point : Item
point = bare row.Point

-- what is done by its word
abbrev pub of_word : Word → Code
of_word w = record {
  word = w;
  branch = by_word w;
  effect = loaded w;
  into = λ m. loaded w ⧺ sacl m ▸ end;
  point = loaded w ⧺ point ▸ end;
}

-- what is done by its truth
abbrev pub of_branch : Branch → Code
of_branch b = record (of_word (in_accumulator (truth_items b) Small)) { branch = b; effect = b true Nothing Nothing }

abbrev pub read_code : AccOperand → Code
read_code m = of_word (held end m)

abbrev pub load_code : Code → Code
load_code p = of_word (held p.point operand.Pointed)

abbrev pub complement_high : HighHalf → HighHalf
complement_high Any = Any
complement_high Zero = Any
complement_high Sign = Sign
complement_high Small = Sign

abbrev pub unary_word : UnaryOp → Found → Word
unary_word Plus f = in_accumulator (load f) (high f)
unary_word Minus f = in_accumulator (load f ⧺ bare row.Neg ▸ end) Any
unary_word Complement f = in_accumulator (load f ⧺ bare row.Cmpl ▸ end) (complement_high (high f))

-- by what the whole is: a minus on a constant is a constant
abbrev pub unary_code : Shape → UnaryOp → Code → Code
unary_code (shape.Constant k) o e = of_word (fixed k)
unary_code (shape.Named m) o e = of_word (next e.word (unary_word o))
unary_code shape.Computed o e = of_word (next e.word (unary_word o))

abbrev pub temporary : ℕ → AccOperand
temporary t = operand.Scalar t

-- an operand, with its code at each depth of temporaries: by the scalar of the next one
abbrev pub Part_code : Type 0
Part_code = ℕ → Code

-- the word of an operation by what its operands are: a right one that is simple is used where it is; a left one that is constant can wait;
-- any other one waits in a temporary
abbrev pub computed : Arithmetic → Shape → Shape → Part_code → Part_code → ℕ → Word
computed o s (shape.Named m) a b t = next (a t).word (λ f. with_place o f m)
computed o s (shape.Constant k) a b t = next (a t).word (λ f. with_constant o f k)
computed o (shape.Constant k) shape.Computed a b t = next (b t).word (of_constant o k)
computed o (shape.Named m) shape.Computed a b t = next (behind ((a t).into (temporary t)) (b (suc t)).word) (of_place o (temporary t))
computed o shape.Computed shape.Computed a b t = next (behind ((a t).into (temporary t)) (b (suc t)).word) (of_place o (temporary t))

-- a comparison behind the items that find an operand
abbrev pub asked : Word → (Found → Compared) → Compared
asked w f = record { items = w.items ⧺ (f w.found).items; test = (f w.found).test }

abbrev pub compared : Comparison → Shape → Shape → Part_code → Part_code → ℕ → Compared
compared c s (shape.Named m) a b t = asked (a t).word (λ f. compared_with_place c f m)
compared c s (shape.Constant k) a b t = asked (a t).word (λ f. compared_with_constant c f k)
compared c (shape.Constant k) shape.Computed a b t = asked (b t).word (compared_of_constant c k)
compared c (shape.Named m) shape.Computed a b t = asked (behind ((a t).into (temporary t)) (b (suc t)).word) (compared_of_place c (temporary t))
compared c shape.Computed shape.Computed a b t = asked (behind ((a t).into (temporary t)) (b (suc t)).word) (compared_of_place c (temporary t))

abbrev pub binary_code : Operation → Shape → Shape → Part_code → Part_code → Part_code
binary_code (operation.Word o) r s a b t = of_word (computed o r s a b t)
binary_code (operation.Truth c) r s a b t = of_branch (by_comparison (compared c r s a b t))

abbrev pub and_code : Code → Code → Code
and_code a b = of_branch (and_branch a.branch b.branch)

abbrev pub or_code : Code → Code → Code
or_code a b = of_branch (or_branch a.branch b.branch)

abbrev pub not_code : Code → Code
not_code e = of_branch (negated e.branch)

-- a word with its sign in the high half
abbrev pub signed_items : Word → ItemList
signed_items w = loaded w ⧺ extend (high w.found)

abbrev pub pick_code : Code → Code → Code → Code
pick_code c a b = record (of_word (in_accumulator (c.branch true (Runs (signed_items a.word)) (Runs (signed_items b.word))) Sign)) {
  effect = c.branch true (Runs a.effect) (Runs b.effect);
}

abbrev pub comma_code : Code → Code → Code
comma_code a b = record {
  word = behind a.effect b.word;
  branch = λ sense hit miss. a.effect ⧺ b.branch sense hit miss;
  effect = a.effect ⧺ b.effect;
  into = λ m. a.effect ⧺ b.into m;
  point = a.effect ⧺ b.point;
}

-- a word stored to a place
abbrev pub stored : Word → AccOperand → Word
stored w m = in_accumulator (loaded w ⧺ sacl m ▸ end) (high w.found)

abbrev pub assign_name_code : AccOperand → Code → Code
assign_name_code m e = record (of_word (stored e.word m)) { effect = e.into m }

-- the accumulator goes to the address that a temporary holds
abbrev pub through : AccOperand → ItemList
through m = sacl (scratch 0) ▸ lac m ▸ point ▸ lac (scratch 0) ▸ sacl operand.Pointed ▸ end

-- where a pointer has to wait for a word, or an operand
abbrev pub is_computed : Shape → Bool
is_computed (shape.Constant k) = false
is_computed (shape.Named m) = false
is_computed shape.Computed = true

abbrev pub assign_at_once : Code → Code → Word
assign_at_once p e = behind p.point (stored e.word operand.Pointed)

abbrev pub assign_through : Part_code → Part_code → ℕ → Word
assign_through p e t = in_accumulator ((p t).into (temporary t) ⧺ loaded (e (suc t)).word ⧺ through (temporary t)) Sign

abbrev pub assign_at_code : Shape → Part_code → Part_code → Part_code
assign_at_code s p e t = of_word (if is_computed s then assign_through p e t else assign_at_once (p t) (e t))

-- an operation on the word of a place, which is no constant
abbrev pub updated : Operation → Shape → AccOperand → Part_code → ℕ → Word
updated o s m e t = (binary_code o shape.Computed s (λ n. of_word (held end m)) e t).word

abbrev pub update_name_code : Operation → Shape → AccOperand → Part_code → Part_code
update_name_code o s m e t = of_word (stored (updated o s m e t) m)

abbrev pub update_at_once : Operation → Shape → Part_code → Part_code → ℕ → Word
update_at_once o s p e t = behind (p t).point (stored (updated o s operand.Pointed e t) operand.Pointed)

-- the pointer waits in a temporary, and the word in the next one
abbrev pub update_through : Operation → Shape → Part_code → Part_code → ℕ → Word
update_through o s p e t =
    in_accumulator (loaded (p t).word ⧺ sacl (temporary t) ▸ point ▸ loaded (updated o s operand.Pointed e (suc t)) ⧺ through (temporary t)) Sign

abbrev pub update_at_code : Operation → Shape → Part_code → Part_code → Part_code
update_at_code o s p e t = of_word (if is_computed s then update_through o s p e t else update_at_once o s p e t)

-- one more, or one less
abbrev pub step_row : Bool → Item
step_row up = Op (if up then row.Addk else row.Subk) (operand.Number 1)

abbrev pub undo_row : Bool → Item
undo_row up = Op (if up then row.Subk else row.Addk) (operand.Number 1)

abbrev pub stepped : Bool → AccOperand → ItemList
stepped up m = lac m ▸ step_row up ▸ sacl m ▸ end

abbrev pub step_before_code : Bool → ItemList → AccOperand → Code
step_before_code up xs m = of_word (in_accumulator (xs ⧺ stepped up m) Any)

-- the value is undone only where it is used
abbrev pub step_after_code : Bool → ItemList → AccOperand → Code
step_after_code up xs m = record (of_word (in_accumulator (xs ⧺ stepped up m ⧺ undo_row up ▸ end) Any)) { effect = xs ⧺ stepped up m }

-- a pointer that steps behind its use: it is taken before
abbrev pub step_name_after_code : Bool → AccOperand → Code
step_name_after_code up m = record (step_after_code up end m) { point = lac m ▸ point ▸ step_row up ▸ sacl m ▸ end }

-- the next word of a port goes to its place at once
abbrev pub in_code : ℕ → Code
in_code port = record (of_word (held (Op (row.In port) (scratch 0) ▸ end) (scratch 0))) {
  effect = Op (row.In port) (scratch 0) ▸ end;
  into = λ m. Op (row.In port) m ▸ end;
}

abbrev pub out_items : ℕ → Found → ItemList
out_items port (found.Fixed k) = store (scratch 0) (found.Fixed k) ⧺ Op (row.Out port) (scratch 0) ▸ end
out_items port (found.Held m) = Op (row.Out port) m ▸ end
out_items port (found.Loaded h) = store (scratch 0) (found.Loaded h) ⧺ Op (row.Out port) (scratch 0) ▸ end

abbrev pub out_code : ℕ → Code → Code
out_code port e = of_word (in_accumulator (e.word.items ⧺ out_items port e.word.found) Any)

-- an argument waits in a temporary, unless it is the last one, which goes to its parameter at once
abbrev pub argument_items : ℕ → ℕ → ℕ → Bool → Code → ItemList → ItemList
argument_items f i t true e rest = e.into (operand.Param f i)
argument_items f i t false e rest = e.into (temporary t) ⧺ rest

-- so many arguments that waited go to their parameters, in order: from one of this number and this temporary on
abbrev pub parameter_items : ℕ → ℕ → ℕ → ℕ → ItemList
parameter_items f i t zero = end
parameter_items f i t (suc n) = lac (temporary t) ▸ sacl (operand.Param f i) ▸ parameter_items f (suc i) (suc t) n

abbrev pub call_code : ℕ → ItemList → ItemList → Code
call_code f arguments parameters = of_word (in_accumulator (arguments ⧺ parameters ⧺ Call f ▸ end) Any)
