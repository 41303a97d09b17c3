-- No label stands directly among the items of an expression or a statement, so a switch passes them by.
use Rattle.std.proofs.Common.{refl, ℕ, zero, suc, Bool, true, false, List, [], ◌∷◌, Option, Some, None}
use Rattle.std.specs.Prelude.{not, slice_get, if◌then◌else◌}
use Rattle.c_syntax.specs.declared.operator.UnaryOp.{UnaryOp}
use Rattle.c_syntax.specs.declared.operator.UnaryOp.TheVariants.{Minus, Plus, Complement}
use Rattle.c_tree.specs.TypedTree.{ObjectTree}
use Rattle.c_tree.specs.declared.program.Initial.{Initial}
use Rattle.c_tree.specs.declared.program.VarRef.TheVariants.{Local}
use Rattle.tree_code.specs.WordTree as tree
use Rattle.tree_code.specs.WordTree.{ExprCode, Node, Named, At, ExprsCode, StmtCode, StmtsCode}
use Rattle.acc_code.specs.AccTree.{Call, ItemList, end, ◌▸◌, ◌⧺◌}
use Rattle.acc_code.specs.declared.operand.AccOperand.{AccOperand}
use Rattle.acc_code.specs.declared.operand.AccOperand.TheVariants as operand
use Rattle.acc_code.specs.declared.operation.Test.{Test}
use Rattle.acc_code.specs.declared.operation.Test.TheVariants.{Nz}
use Rattle.acc_select.specs.acc_operations.Constants.{place_of, shape_of, initial_constant}
use Rattle.acc_select.specs.acc_operations.Kinds.{operation_of}
use Rattle.acc_select.specs.acc_operations.Words.{Word, fixed, held, next, in_accumulator, scratch, high}
use Rattle.acc_select.specs.acc_operations.declared.comparison.Comparison.{Comparison}
use Rattle.acc_select.specs.acc_operations.declared.constant.Constant.TheVariants.{Number, Address}
use Rattle.acc_select.specs.acc_operations.declared.constant.Shape.{Shape}
use Rattle.acc_select.specs.acc_operations.declared.constant.Shape.TheVariants as shape
use Rattle.acc_select.specs.acc_operations.declared.found.Found.{Found}
use Rattle.acc_select.specs.acc_operations.declared.found.Found.TheVariants.{Fixed, Held, Loaded}
use Rattle.acc_select.specs.acc_operations.declared.high_half.HighHalf.TheVariants.{Any, Sign, Small}
use Rattle.acc_select.specs.acc_operations.declared.operation.Arithmetic.{Arithmetic}
use Rattle.acc_select.specs.acc_operations.declared.operation.Operation.{Operation}
use Rattle.acc_select.specs.acc_operations.declared.operation.Operation.TheVariants as operation
use Rattle.acc_select.specs.Conditions as condition
use Rattle.acc_select.specs.Conditions.{Part, Branch, is_short, tested, truth_items, by_number, and_branch, or_branch}
use Rattle.acc_select.specs.Forms as form
use Rattle.acc_select.specs.Forms.{Code, Part_code, of_word, of_branch, unary_word, unary_code, temporary, computed, compared, binary_code, signed_items, pick_code, comma_code, stored, assign_name_code, through, is_computed, assign_at_code, updated, update_name_code, update_at_code, stepped, undo_row, step_before_code, step_after_code, step_name_after_code, in_code, out_items, out_code, call_code, argument_items, parameter_items}
use Rattle.acc_select.specs.Selected.{code_of, arguments, waiting, is_last, optional_effect, cell_items, fill_items, part_of, statement_items, statements_items}
use Rattle.acc_select_proof.proofs.UnlabelledOperations.{Unlabelled, nothing, op, both, either, constant_first, load_none, loaded_none, store_none, clear_none, load_clean_none, with_place_none, with_constant_none, of_constant_none, of_place_none, items_with_place_none, items_with_constant_none, items_of_place_none}

-- of a word, of a condition whatever its parts are, and of all that an expression has
pub record UnlabelledBranch (b : Branch) : Type 0 where
  pub at : (sense : Bool) (hit miss : Part) → Unlabelled (b sense hit miss)

pub record UnlabelledCode (c : Code) : Type 0 where
  pub word : Unlabelled c.word.items
  pub branch : UnlabelledBranch c.branch
  pub effect : Unlabelled c.effect
  pub into : (m : AccOperand) → Unlabelled (c.into m)
  pub point : Unlabelled c.point

tested_none : (t : Test) {xs : ItemList} → Unlabelled xs → UnlabelledBranch (tested xs t)
tested_none t h = record { at = λ sense hit miss. both h (record { none = refl }) }

of_word_none : (w : Word) → Unlabelled w.items → UnlabelledCode (of_word w)
of_word_none w h = record {
  word = h;
  branch = tested_none Nz (both h (load_clean_none w.found));
  effect = loaded_none w h;
  into = λ m. both (loaded_none w h) (op nothing);
  point = both (loaded_none w h) (op nothing);
}

of_branch_none : (b : Branch) → UnlabelledBranch b → UnlabelledCode (of_branch b)
of_branch_none b h =
    let made = of_word_none (in_accumulator (truth_items b) Small) (h.at true condition.One condition.Null) in
    record { word = made.word; branch = h; effect = h.at true condition.Nothing condition.Nothing; into = made.into; point = made.point }

-- conditions of two
number_none : {xs : ItemList} (sense : Bool) (hit miss : Part) → Unlabelled xs → Unlabelled (by_number xs sense hit miss)
number_none sense hit miss h = (tested_none Nz h).at sense hit miss

and_none : (a b : Branch) → UnlabelledBranch a → UnlabelledBranch (and_branch a b)
and_none a b h = record { at = at_sense }
  where
    at_sense : (sense : Bool) (hit miss : Part) → Unlabelled (and_branch a b sense hit miss)
    at_sense true hit miss = either (is_short miss) (h.at true (condition.Runs (b true hit miss)) miss) (number_none true hit miss (h.at true (condition.Runs (b true condition.One condition.Null)) condition.Null))
    at_sense false hit miss = either (is_short hit) (h.at false hit (condition.Runs (b false hit miss))) (number_none false hit miss (h.at true (condition.Runs (b true condition.One condition.Null)) condition.Null))

or_none : (a b : Branch) → UnlabelledBranch a → UnlabelledBranch (or_branch a b)
or_none a b h = record { at = at_sense }
  where
    at_sense : (sense : Bool) (hit miss : Part) → Unlabelled (or_branch a b sense hit miss)
    at_sense true hit miss = either (is_short hit) (h.at true hit (condition.Runs (b true hit miss))) (number_none true hit miss (h.at true condition.One (condition.Runs (b true condition.One condition.Null))))
    at_sense false hit miss = either (is_short miss) (h.at false (condition.Runs (b false hit miss)) miss) (number_none false hit miss (h.at true condition.One (condition.Runs (b true condition.One condition.Null))))

-- operations, of which a part has no label at any depth
abbrev Never : Part_code → Type 0
Never a = (t : ℕ) → UnlabelledCode (a t)

unary_word_none : (o : UnaryOp) (f : Found) → Unlabelled (unary_word o f).items
unary_word_none Plus f = load_none f
unary_word_none Minus f = both (load_none f) (op nothing)
unary_word_none Complement f = both (load_none f) (op nothing)

unary_none : (s : Shape) (o : UnaryOp) (e : Code) → UnlabelledCode e → UnlabelledCode (unary_code s o e)
unary_none (shape.Constant k) o e h = of_word_none (fixed k) nothing
unary_none (shape.Named m) o e h = of_word_none (next e.word (unary_word o)) (both h.word (unary_word_none o e.word.found))
unary_none shape.Computed o e h = of_word_none (next e.word (unary_word o)) (both h.word (unary_word_none o e.word.found))

computed_none : (o : Arithmetic) (r s : Shape) (a b : Part_code) (t : ℕ) → Never a → Never b → Unlabelled (computed o r s a b t).items
computed_none o r (shape.Named m) a b t h k = both (h t).word (with_place_none o (a t).word.found m)
computed_none o r (shape.Constant c) a b t h k = both (h t).word (with_constant_none o (a t).word.found c)
computed_none o (shape.Constant c) shape.Computed a b t h k = both (k t).word (of_constant_none o c (b t).word.found)
computed_none o (shape.Named m) shape.Computed a b t h k = both (both ((h t).into (temporary t)) (k (suc t)).word) (of_place_none o (temporary t) (b (suc t)).word.found)
computed_none o shape.Computed shape.Computed a b t h k = both (both ((h t).into (temporary t)) (k (suc t)).word) (of_place_none o (temporary t) (b (suc t)).word.found)

compared_none : (c : Comparison) (r s : Shape) (a b : Part_code) (t : ℕ) → Never a → Never b → Unlabelled (compared c r s a b t).items
compared_none c r (shape.Named m) a b t h k = both (h t).word (items_with_place_none c.order (a t).word.found m)
compared_none c r (shape.Constant l) a b t h k = both (h t).word (items_with_constant_none c.order (a t).word.found l)
compared_none c (shape.Constant l) shape.Computed a b t h k = both (k t).word (items_with_constant_none c.order (b t).word.found l)
compared_none c (shape.Named m) shape.Computed a b t h k =
    both (both ((h t).into (temporary t)) (k (suc t)).word) (items_of_place_none c.order (temporary t) (b (suc t)).word.found (high (b (suc t)).word.found))
compared_none c shape.Computed shape.Computed a b t h k =
    both (both ((h t).into (temporary t)) (k (suc t)).word) (items_of_place_none c.order (temporary t) (b (suc t)).word.found (high (b (suc t)).word.found))

binary_none : (o : Operation) (r s : Shape) (a b : Part_code) (t : ℕ) → Never a → Never b → UnlabelledCode (binary_code o r s a b t)
binary_none (operation.Word o) r s a b t h k = of_word_none (computed o r s a b t) (computed_none o r s a b t h k)
binary_none (operation.Truth c) r s a b t h k = of_branch_none (condition.by_comparison (compared c r s a b t)) (tested_none (compared c r s a b t).test (compared_none c r s a b t h k))

-- stores
stored_none : (w : Word) (m : AccOperand) → Unlabelled w.items → Unlabelled (stored w m).items
stored_none w m h = both (loaded_none w h) (op nothing)

through_none : (m : AccOperand) → Unlabelled (through m)
through_none m = op (op (op (op (op nothing))))

either_word : (b : Bool) (u w : Word) → Unlabelled u.items → Unlabelled w.items → UnlabelledCode (of_word (if b then u else w))
either_word true u w h k = of_word_none u h
either_word false u w h k = of_word_none w k

assign_name_none : (m : AccOperand) (e : Code) → UnlabelledCode e → UnlabelledCode (assign_name_code m e)
assign_name_none m e h =
    let made = of_word_none (stored e.word m) (stored_none e.word m h.word) in
    record { word = made.word; branch = made.branch; effect = h.into m; into = made.into; point = made.point }

assign_at_none : (s : Shape) (p e : Part_code) (t : ℕ) → Never p → Never e → UnlabelledCode (assign_at_code s p e t)
assign_at_none s p e t h k =
    either_word (is_computed s) (form.assign_through p e t) (form.assign_at_once (p t) (e t)) (both ((h t).into (temporary t)) (both (loaded_none (e (suc t)).word (k (suc t)).word) (through_none (temporary t))))
    (both (h t).point (stored_none (e t).word operand.Pointed (k t).word))

updated_none : (o : Operation) (s : Shape) (m : AccOperand) (e : Part_code) (t : ℕ) → Never e → Unlabelled (updated o s m e t).items
updated_none o s m e t k = (binary_none o shape.Computed s (λ n. of_word (held end m)) e t (λ n. of_word_none (held end m) nothing) k).word

update_name_none : (o : Operation) (s : Shape) (m : AccOperand) (e : Part_code) (t : ℕ) → Never e → UnlabelledCode (update_name_code o s m e t)
update_name_none o s m e t k = of_word_none (stored (updated o s m e t) m) (stored_none (updated o s m e t) m (updated_none o s m e t k))

update_at_none : (o : Operation) (s : Shape) (p e : Part_code) (t : ℕ) → Never p → Never e → UnlabelledCode (update_at_code o s p e t)
update_at_none o s p e t h k =
    either_word (is_computed s) (form.update_through o s p e t) (form.update_at_once o s p e t)
    (both (loaded_none (p t).word (h t).word) (op (op (both (loaded_none (updated o s operand.Pointed e (suc t)) (updated_none o s operand.Pointed e (suc t) k)) (through_none (temporary t))))))
    (both (h t).point (stored_none (updated o s operand.Pointed e t) operand.Pointed (updated_none o s operand.Pointed e t k)))

stepped_none : (up : Bool) (m : AccOperand) → Unlabelled (stepped up m)
stepped_none up m = op (op (op nothing))

step_before_none : (up : Bool) (xs : ItemList) (m : AccOperand) → Unlabelled xs → UnlabelledCode (step_before_code up xs m)
step_before_none up xs m h = of_word_none (in_accumulator (xs ⧺ stepped up m) Any) (both h (stepped_none up m))

step_after_none : (up : Bool) (xs : ItemList) (m : AccOperand) → Unlabelled xs → UnlabelledCode (step_after_code up xs m)
step_after_none up xs m h =
    let made = of_word_none (in_accumulator (xs ⧺ stepped up m ⧺ undo_row up ▸ end) Any) (both h (both (stepped_none up m) (op nothing))) in
    record { word = made.word; branch = made.branch; effect = both h (stepped_none up m); into = made.into; point = made.point }

step_name_after_none : (up : Bool) (m : AccOperand) → UnlabelledCode (step_name_after_code up m)
step_name_after_none up m = let made = step_after_none up end m nothing in record { word = made.word; branch = made.branch; effect = made.effect; into = made.into; point = op (op (op (op nothing))) }

-- the other forms
pick_none : (c a b : Code) → UnlabelledCode c → UnlabelledCode (pick_code c a b)
pick_none c a b h =
    let made = of_word_none (in_accumulator (c.branch true (condition.Runs (signed_items a.word)) (condition.Runs (signed_items b.word))) Sign) (h.branch.at true (condition.Runs (signed_items a.word)) (condition.Runs (signed_items b.word))) in
    record { word = made.word; branch = made.branch; effect = h.branch.at true (condition.Runs a.effect) (condition.Runs b.effect); into = made.into; point = made.point }

comma_none : (a b : Code) → UnlabelledCode a → UnlabelledCode b → UnlabelledCode (comma_code a b)
comma_none a b h k = record {
  word = both h.effect k.word;
  branch = record { at = λ sense hit miss. both h.effect (k.branch.at sense hit miss) };
  effect = both h.effect k.effect;
  into = λ m. both h.effect (k.into m);
  point = both h.effect k.point;
}

in_none : (port : ℕ) → UnlabelledCode (in_code port)
in_none port =
    let made = of_word_none (in_code port).word (op nothing) in
    record { word = made.word; branch = made.branch; effect = op nothing; into = λ m. op nothing; point = made.point }

out_items_none : (port : ℕ) (f : Found) → Unlabelled (out_items port f)
out_items_none port (Fixed k) = both (store_none (scratch 0) (Fixed k)) (op nothing)
out_items_none port (Held m) = op nothing
out_items_none port (Loaded h) = both (store_none (scratch 0) (Loaded h)) (op nothing)

out_none : (port : ℕ) (e : Code) → UnlabelledCode e → UnlabelledCode (out_code port e)
out_none port e h = of_word_none (in_accumulator (e.word.items ⧺ out_items port e.word.found) Any) (both h.word (out_items_none port e.word.found))

argument_none : (f i t : ℕ) (last : Bool) (e : Code) (rest : ItemList) → UnlabelledCode e → Unlabelled rest → Unlabelled (argument_items f i t last e rest)
argument_none f i t true e rest h k = h.into (operand.Param f i)
argument_none f i t false e rest h k = both (h.into (temporary t)) k

parameters_none : (f i t n : ℕ) → Unlabelled (parameter_items f i t n)
parameters_none f i t zero = nothing
parameters_none f i t (suc n) = op (op (parameters_none f (suc i) (suc t) n))

call_none : (f : ℕ) (xs ys : ItemList) → Unlabelled xs → Unlabelled ys → UnlabelledCode (call_code f xs ys)
call_none f xs ys h k = of_word_none (in_accumulator (xs ⧺ ys ⧺ Call f ▸ end) Any) (both h (both k (record { none = refl })))

-- expressions
mutual
  pub code_none : (e : ExprCode) (t : ℕ) → UnlabelledCode (code_of e t)
  code_none (Node (tree.Const w) at) t = of_word_none (fixed (Number w)) nothing
  code_none (Node (tree.Read v) at) t = of_word_none (held end (place_of v)) nothing
  code_none (Node (tree.AddressOf v) at) t = of_word_none (fixed (Address v 0)) nothing
  code_none (Node (tree.Load e) at) t = of_word_none (held (code_of e t).point operand.Pointed) (code_none e t).point
  code_none (Node (tree.Unary o e) at) t = unary_none (shape_of (Node (tree.Unary o e) at)) o (code_of e t) (code_none e t)
  code_none (Node (tree.Binary o a b) at) t = binary_none (operation_of o) (shape_of a) (shape_of b) (code_of a) (code_of b) t (λ u. code_none a u) (λ u. code_none b u)
  code_none (Node (tree.And a b) at) t = of_branch_none (and_branch (code_of a t).branch (code_of b t).branch) (and_none (code_of a t).branch (code_of b t).branch (code_none a t).branch)
  code_none (Node (tree.Or a b) at) t = of_branch_none (or_branch (code_of a t).branch (code_of b t).branch) (or_none (code_of a t).branch (code_of b t).branch (code_none a t).branch)
  code_none (Node (tree.Not e) at) t = of_branch_none (condition.negated (code_of e t).branch) (record { at = λ sense hit miss. (code_none e t).branch.at (not sense) hit miss })
  code_none (Node (tree.Pick c a b) at) t = pick_none (code_of c t) (code_of a t) (code_of b t) (code_none c t)
  code_none (Node (tree.Assign (Named v place) e) at) t = assign_name_none (place_of v) (code_of e t) (code_none e t)
  code_none (Node (tree.Assign (At p place) e) at) t = assign_at_none (shape_of e) (code_of p) (code_of e) t (λ u. code_none p u) (λ u. code_none e u)
  code_none (Node (tree.AssignOp o (Named v place) e) at) t = update_name_none (operation_of o) (shape_of e) (place_of v) (code_of e) t (λ u. code_none e u)
  code_none (Node (tree.AssignOp o (At p place) e) at) t = update_at_none (operation_of o) (shape_of e) (code_of p) (code_of e) t (λ u. code_none p u) (λ u. code_none e u)
  code_none (Node (tree.StepBefore up (Named v place)) at) t = step_before_none up end (place_of v) nothing
  code_none (Node (tree.StepBefore up (At p place)) at) t = step_before_none up (code_of p t).point operand.Pointed (code_none p t).point
  code_none (Node (tree.StepAfter up (Named v place)) at) t = step_name_after_none up (place_of v)
  code_none (Node (tree.StepAfter up (At p place)) at) t = step_after_none up (code_of p t).point operand.Pointed (code_none p t).point
  code_none (Node (tree.Call f es) at) t = call_none f (arguments f 0 es t) (parameter_items f 0 t (waiting es)) (arguments_none f 0 es t) (parameters_none f 0 t (waiting es))
  code_none (Node (tree.In port) at) t = in_none port
  code_none (Node (tree.Out port e) at) t = out_none port (code_of e t) (code_none e t)
  code_none (Node (tree.Comma a b) at) t = comma_none (code_of a t) (code_of b t) (code_none a t) (code_none b t)

  arguments_none : (f i : ℕ) (es : ExprsCode) (t : ℕ) → Unlabelled (arguments f i es t)
  arguments_none f i tree.none t = nothing
  arguments_none f i (tree.more e rest) t = argument_none f i t (is_last rest) (code_of e t) (arguments f (suc i) rest (suc t)) (code_none e t) (arguments_none f (suc i) rest (suc t))

-- statements
cells_none : (k i : ℕ) (xs : List Initial) → Unlabelled (cell_items k i xs)
cells_none k i [] = record { none = refl }
cells_none k i (x ∷ xs) = constant_first (Address (Local k) i) (op (constant_first (initial_constant x) (op (cells_none k (suc i) xs))))

fill_none : (k : ℕ) (o : Option ObjectTree) → Unlabelled (fill_items k o)
fill_none k None = nothing
fill_none k (Some o) = cells_none k 0 o.initial

optional_none : (e : Option ExprCode) (t : ℕ) → Unlabelled (optional_effect e t)
optional_none None t = nothing
optional_none (Some e) t = (code_none e t).effect

module _ (locals : List ObjectTree) (t : ℕ) where
  mutual
    pub statement_none : (a : StmtCode) → Unlabelled (statement_items locals t a)
    statement_none (tree.Block declared ss) = statements_none ss
    statement_none (tree.Fill k) = fill_none k (slice_get locals k)
    statement_none (tree.Do_expr e) = (code_none e t).effect
    statement_none (tree.If e a b) = (code_none e t).branch.at true (part_of a (statement_items locals t a)) (part_of b (statement_items locals t b))
    statement_none (tree.While e a) = record { none = refl }
    statement_none (tree.Do_while a e) = record { none = refl }
    statement_none (tree.For x y z a) = both (optional_none x t) (record { none = refl })
    statement_none (tree.Switch e cs) = both (loaded_none (code_of e t).word (code_none e t).word) (both (clear_none (high (code_of e t).word.found)) (record { none = refl }))
    statement_none tree.Break = record { none = refl }
    statement_none tree.Continue = record { none = refl }
    statement_none (tree.Return None) = record { none = refl }
    statement_none (tree.Return (Some e)) = both (loaded_none (code_of e t).word (code_none e t).word) (record { none = refl })

    statements_none : (ss : StmtsCode) → Unlabelled (statements_items locals t ss)
    statements_none tree.done = nothing
    statements_none (tree.both a rest) = both (statement_none a) (statements_none rest)
