-- The code of expressions, statements, functions and programs, form by form: ISO 9899:1990 6.3 and 6.6, on words.
use Rattle.std.specs.Prelude.{ℕ, suc, ◌-◌, ◌==◌, Bool, true, false, if◌then◌else◌, List, [], ◌∷◌, map, slice_get, Option, Some, None}
use Rattle.std.specs.Str.{bytes_eq}
use Rattle.c_tree.specs.SourceRun.{main_name}
use Rattle.c_tree.specs.TypedTree.{ObjectTree}
use Rattle.c_tree.specs.declared.program.Initial.{Initial}
use Rattle.c_tree.specs.declared.program.VarRef.TheVariants.{Local}
use Rattle.tree_code.specs.WordTree as tree
use Rattle.tree_code.specs.WordTree.{ExprCode, Node, FormCode, LvalueCode, Named, At, ExprsCode, StmtCode, StmtsCode, ChoicesCode, FunctionCode, ProgramCode}
use Rattle.tree_code.specs.WellFormedCode.{argument_count}
use Rattle.tree_code.specs.WordTemporaries.{word_statement_temporaries}
use Rattle.acc_code.specs.declared.item.CaseLabel.{CaseLabel}
use Rattle.acc_code.specs.declared.item.CaseLabel.TheVariants.{Value, Default}
use Rattle.acc_code.specs.declared.operand.AccOperand.{AccOperand}
use Rattle.acc_code.specs.declared.operand.AccOperand.TheVariants as operand
use Rattle.acc_code.specs.AccTree.{Loop, Switch, Case, Clear, Break, Continue, Return, ItemList, end, item, ◌▸◌, ◌⧺◌, FunctionItems}
use Rattle.acc_code.specs.declared.operation.Test.TheVariants.{Nz}
use Rattle.acc_operations.specs.Comparisons.{Compared}
use Rattle.acc_operations.specs.declared.operation.Operation.{Operation}
use Rattle.acc_operations.specs.declared.operation.Operation.TheVariants as operation
use Rattle.acc_select.specs.Conditions.{clean_items, Part, Nothing, Breaks, Continues, Runs, number}
use Rattle.acc_operations.specs.Constants.{place_of, shape_of, load_constant, initial_constant}
use Rattle.acc_select.specs.Forms as form
use Rattle.acc_select.specs.Forms.{Code, of_word, point}
use Rattle.acc_operations.specs.Kinds.{operation_of}
use Rattle.acc_operations.specs.Words.{Word, fixed, high, loaded, clear_high, sacl}
use Rattle.acc_operations.specs.declared.constant.Constant.TheVariants.{Number, Address}

abbrev pub is_last : ExprsCode → Bool
is_last tree.none = true
is_last (tree.more e rest) = false

-- how many arguments wait: all but the last
abbrev pub waiting : ExprsCode → ℕ
waiting es = argument_count es - 1

abbrev mutual
  -- the code of an expression whose temporaries begin at this scalar
  pub code_of : ExprCode → ℕ → Code
  code_of (Node (tree.Const w) at) t = of_word (fixed (Number w))
  code_of (Node (tree.Read v) at) t = form.read_code (place_of v)
  code_of (Node (tree.AddressOf v) at) t = of_word (fixed (Address v 0))
  code_of (Node (tree.Load e) at) t = form.load_code (code_of e t)
  code_of (Node (tree.Unary o e) at) t = form.unary_code (shape_of (Node (tree.Unary o e) at)) o (code_of e t)
  code_of (Node (tree.Binary o a b) at) t = form.binary_code (operation_of o) (shape_of a) (shape_of b) (code_of a) (code_of b) t
  code_of (Node (tree.And a b) at) t = form.and_code (code_of a t) (code_of b t)
  code_of (Node (tree.Or a b) at) t = form.or_code (code_of a t) (code_of b t)
  code_of (Node (tree.Not e) at) t = form.not_code (code_of e t)
  code_of (Node (tree.Pick c a b) at) t = form.pick_code (code_of c t) (code_of a t) (code_of b t)
  code_of (Node (tree.Assign (Named v place) e) at) t = form.assign_name_code (place_of v) (code_of e t)
  code_of (Node (tree.Assign (At p place) e) at) t = form.assign_at_code (shape_of e) (code_of p) (code_of e) t
  code_of (Node (tree.AssignOp o (Named v place) e) at) t = form.update_name_code (operation_of o) (shape_of e) (place_of v) (code_of e) t
  code_of (Node (tree.AssignOp o (At p place) e) at) t = form.update_at_code (operation_of o) (shape_of e) (code_of p) (code_of e) t
  code_of (Node (tree.StepBefore up (Named v place)) at) t = form.step_before_code up end (place_of v)
  code_of (Node (tree.StepBefore up (At p place)) at) t = form.step_before_code up (code_of p t).point operand.Pointed
  code_of (Node (tree.StepAfter up (Named v place)) at) t = form.step_name_after_code up (place_of v)
  code_of (Node (tree.StepAfter up (At p place)) at) t = form.step_after_code up (code_of p t).point operand.Pointed
  code_of (Node (tree.Call f es) at) t = form.call_code f (arguments f 0 es t) (form.parameter_items f 0 t (waiting es))
  code_of (Node (tree.In port) at) t = form.in_code port
  code_of (Node (tree.Out port e) at) t = form.out_code port (code_of e t)
  code_of (Node (tree.Comma a b) at) t = form.comma_code (code_of a t) (code_of b t)

  -- the arguments from one of this number on
  pub arguments : ℕ → ℕ → ExprsCode → ℕ → ItemList
  arguments f i tree.none t = end
  arguments f i (tree.more e rest) t = form.argument_items f i t (is_last rest) (code_of e t) (arguments f (suc i) rest (suc t))

-- what is assigned to: what points to it, and its place then
abbrev pub target_items : LvalueCode → ℕ → ItemList
target_items (Named v place) t = end
target_items (At p place) t = (code_of p t).point

abbrev pub target_place : LvalueCode → AccOperand
target_place (Named v place) = place_of v
target_place (At p place) = operand.Pointed

-- a test that holds where an expression isn't 0, of one that has no condition in it that is asked by itself
abbrev pub question_of : ExprCode → ℕ → Compared
question_of (Node (tree.Binary o a b) at) t = question (operation_of o)
  where
    question : Operation → Compared
    question (operation.Truth c) = form.compared c (shape_of a) (shape_of b) (code_of a) (code_of b) t
    question (operation.Word w) = record { items = clean_items (code_of (Node (tree.Binary o a b) at) t).word; test = Nz }
question_of e t = record { items = clean_items (code_of e t).word; test = Nz }

-- an operation on what is assigned to
abbrev pub update_word : Operation → LvalueCode → ExprCode → ℕ → Word
update_word o (Named v place) e t = (form.update_name_code o (shape_of e) (place_of v) (code_of e) t).word
update_word o (At p place) e t = (form.update_at_code o (shape_of e) (code_of p) (code_of e) t).word

abbrev pub optional_effect : Option ExprCode → ℕ → ItemList
optional_effect None t = end
optional_effect (Some e) t = (code_of e t).effect

-- leaves a loop where the expression is 0
abbrev pub test_items : ExprCode → ℕ → ItemList
test_items (Node (tree.Const w) at) t = if w == 0 then Break ▸ end else end
test_items e t = (code_of e t).branch true Nothing Breaks

abbrev pub optional_test : Option ExprCode → ℕ → ItemList
optional_test None t = end
optional_test (Some e) t = test_items e t

abbrev pub labels_of : ChoicesCode → List CaseLabel
labels_of tree.no_more = []
labels_of (tree.case w rest) = Value w ∷ labels_of rest
labels_of (tree.default rest) = Default ∷ labels_of rest
labels_of (tree.body s rest) = labels_of rest

-- the cells of a local object from cell i on get their list
abbrev pub cell_items : ℕ → ℕ → List Initial → ItemList
cell_items n i [] = Clear (Local n) i ▸ end
cell_items n i (x ∷ xs) =
    load_constant (Address (Local n) i) ▸ point ▸ load_constant (initial_constant x) ▸ sacl operand.Pointed ▸ cell_items n (suc i) xs

abbrev pub fill_items : ℕ → Option ObjectTree → ItemList
fill_items n None = end
fill_items n (Some o) = cell_items n 0 o.initial

-- the items of a statement as a part: a jump, or nothing, may stand twice
abbrev pub part_of : StmtCode → ItemList → Part
part_of tree.Break items = Breaks
part_of tree.Continue items = Continues
part_of (tree.Block declared tree.done) items = Nothing
part_of (tree.Block declared (tree.both s tree.done)) items = part_of s items
part_of s items = Runs items

-- in a function of these local objects whose temporaries begin at this scalar
module _ (locals : List ObjectTree) (t : ℕ) where
  abbrev mutual
    pub statement_items : StmtCode → ItemList
    statement_items (tree.Block declared ss) = statements_items ss
    statement_items (tree.Fill n) = fill_items n (slice_get locals n)
    statement_items (tree.Do_expr e) = (code_of e t).effect
    statement_items (tree.If e a b) = (code_of e t).branch true (part_of a (statement_items a)) (part_of b (statement_items b))
    statement_items (tree.While e a) = Loop (test_items e t) (statement_items a) end false ▸ end
    statement_items (tree.Do_while a e) = Loop end (statement_items a) (test_items e t) true ▸ end
    statement_items (tree.For x y z a) = optional_effect x t ⧺ Loop (optional_test y t) (statement_items a) (optional_effect z t) false ▸ end
    statement_items (tree.Switch e cs) = loaded (code_of e t).word ⧺ clear_high (high (code_of e t).word.found) ⧺ Switch (labels_of cs) (choices_items cs 0) ▸ end
    statement_items tree.Break = Break ▸ end
    statement_items tree.Continue = Continue ▸ end
    statement_items (tree.Return None) = Return ▸ end
    statement_items (tree.Return (Some e)) = loaded (code_of e t).word ⧺ Return ▸ end

    pub statements_items : StmtsCode → ItemList
    statements_items tree.done = end
    statements_items (tree.both s rest) = statement_items s ⧺ statements_items rest

    -- with the number of the next label
    pub choices_items : ChoicesCode → ℕ → ItemList
    choices_items tree.no_more i = end
    choices_items (tree.case w rest) i = Case i ▸ choices_items rest (suc i)
    choices_items (tree.default rest) i = Case i ▸ choices_items rest (suc i)
    choices_items (tree.body s rest) i = statement_items s ⧺ choices_items rest i

abbrev pub ends_with_return : ItemList → Bool
ends_with_return end = false
ends_with_return (item Return end) = true
ends_with_return (item x xs) = ends_with_return xs

-- main gives 0 at its end
abbrev pub closed_main : ItemList → ItemList
closed_main items = if ends_with_return items then items else items ⧺ number 0 ⧺ Return ▸ end

abbrev pub body_items : FunctionCode → ItemList
body_items f = statement_items f.locals (f.scalars - word_statement_temporaries f.body) f.body

abbrev pub is_main : List ℕ → Bool
is_main name = bytes_eq name main_name

abbrev pub selected_function : FunctionCode → FunctionItems
selected_function f = record {
  name = f.name;
  scalars = f.scalars;
  body = if is_main f.name then closed_main (body_items f) else body_items f;
}

abbrev pub selected : ProgramCode → List FunctionItems
selected p = map selected_function p.functions
