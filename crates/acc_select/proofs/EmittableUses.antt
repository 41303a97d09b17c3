-- What emission is told of small functions, by hand: whether they use a routine, and which functions they call.
use Rattle.std.proofs.Common.{◌≡◌, refl, ℕ, true, false, [], ◌∷◌, Some, None}
use Rattle.c_syntax.specs.declared.operator.UnaryOp.TheVariants.{Minus}
use Rattle.c_tree.specs.declared.program.VarRef.TheVariants.{Scalar, Static}
use Rattle.tree_code.specs.WordTree as tree
use Rattle.tree_code.specs.WordTree.{ExprCode, Node, Named, At, StmtCode, FunctionCode, ProgramCode}
use Rattle.tree_code.specs.declared.operator.WordOp.{WordOp}
use Rattle.tree_code.specs.declared.operator.WordOp.TheVariants as word
use Rattle.tree_code.specs.WordHelpers.{uses_helper}
use Rattle.acc_select.specs.IsSelected.{object_cells, called_parameters}

-- x and y are the scalars 0 and 1
abbrev node : tree.FormCode → ExprCode
node form = Node form 0

abbrev x : ExprCode
x = node (tree.Read (Scalar 0))

abbrev y : ExprCode
y = node (tree.Read (Scalar 1))

abbrev number : ℕ → ExprCode
number w = node (tree.Const w)

abbrev does : ExprCode → StmtCode
does e = tree.Do_expr e

abbrev on_words : WordOp → ExprCode → ExprCode → StmtCode
on_words o a b = does (node (tree.Binary o a b))

-- a division by a constant uses a routine, and so does a shift to the right by a word
divides : uses_helper (on_words word.DivInt x (number 2)) ≡ true
divides = refl

divides_constants : uses_helper (on_words word.DivUnsigned (number 5) (number 2)) ≡ true
divides_constants = refl

takes_remainder : uses_helper (on_words word.RemUnsigned x y) ≡ true
takes_remainder = refl

shifts_by_word : uses_helper (on_words word.ShrUnsigned x y) ≡ true
shifts_by_word = refl

-- but not one by a constant, or by a minus on one, nor a shift to the left
shifts_by_number : uses_helper (on_words word.ShrInt x (number 3)) ≡ false
shifts_by_number = refl

shifts_by_negative : uses_helper (on_words word.ShrInt x (node (tree.Unary Minus (number 1)))) ≡ false
shifts_by_negative = refl

shifts_constant : uses_helper (on_words word.ShrInt (number 3) x) ≡ true
shifts_constant = refl

shifts_left : uses_helper (on_words word.Shl x y) ≡ false
shifts_left = refl

multiplies : uses_helper (on_words word.Mul x y) ≡ false
multiplies = refl

compares : uses_helper (on_words word.LtUnsigned x y) ≡ false
compares = refl

-- x /= 2, x >>= 2 and x >>= y
divides_itself : uses_helper (does (node (tree.AssignOp word.DivInt (Named (Scalar 0) 0) (number 2)))) ≡ true
divides_itself = refl

shifts_itself : uses_helper (does (node (tree.AssignOp word.ShrInt (Named (Scalar 0) 0) (number 2)))) ≡ false
shifts_itself = refl

shifts_itself_by_word : uses_helper (does (node (tree.AssignOp word.ShrInt (Named (Scalar 0) 0) y))) ≡ true
shifts_itself_by_word = refl

-- in the address of a step, in the third expression of a for, in an argument of a call in a switch, and in an operand of a shift by a constant
steps_at_quotient : uses_helper (does (node (tree.StepAfter true (At (node (tree.Binary word.DivInt x y)) 0)))) ≡ true
steps_at_quotient = refl

divides_each_turn : uses_helper (tree.For None None (Some (node (tree.AssignOp word.RemInt (Named (Scalar 0) 0) y))) tree.Break) ≡ true
divides_each_turn = refl

passes_quotient : uses_helper (tree.Switch x (tree.case 1 (tree.body (does (node (tree.Call 1 (tree.more x (tree.more (node (tree.Binary word.DivInt x y)) tree.none))))) tree.no_more))) ≡ true
passes_quotient = refl

shifts_quotient : uses_helper (on_words word.ShrInt (node (tree.Binary word.DivInt x y)) (number 3)) ≡ true
shifts_quotient = refl

-- a function without parameters that calls the function of two parameters behind it, of three
abbrev first : FunctionCode
first = record { name = []; scalars = 4; params = []; locals = []; body = does (node (tree.Call 1 (tree.more x (tree.more y tree.none)))) }

abbrev second : FunctionCode
second = record { name = 97 ∷ []; scalars = 2; params = Scalar 0 ∷ Scalar 1 ∷ []; locals = []; body = tree.Return None }

abbrev third : FunctionCode
third = record { name = 98 ∷ []; scalars = 1; params = Scalar 0 ∷ []; locals = []; body = tree.Return None }

abbrev program : ProgramCode
program = record { statics = []; functions = first ∷ second ∷ third ∷ [] }

calls_second : called_parameters program first 1 ≡ Some 2
calls_second = refl

not_third : called_parameters program first 2 ≡ None
not_third = refl

not_itself : called_parameters program first 0 ≡ None
not_itself = refl

calls_nothing : called_parameters program second 1 ≡ None
calls_nothing = refl

-- scalars have no cells for operands
no_scalar_cells : object_cells program first (Scalar 0) ≡ None
no_scalar_cells = refl

no_such_static : object_cells program first (Static 0) ≡ None
no_such_static = refl
