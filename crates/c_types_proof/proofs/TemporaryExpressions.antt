-- The typed tree of an expression needs fewer temporaries than the expression has nodes.
use Rattle.std.proofs.Common.{◌≤◌, ◌<◌, ◌+◌, ◌&&◌, ◌||◌, ℕ, suc, Bool, List, [], ◌∷◌, is_some, Option, Some, None, arith}
use Rattle.c_syntax.specs.Counts.{Weights, expression_weight, form_weight, arguments_weight}
use Rattle.c_syntax.specs.declared.syntax.PrefixOp.{PrefixOp}
use Rattle.c_syntax.specs.declared.syntax.PrefixOp.TheVariants as prefix
use Rattle.c_syntax.specs.declared.operator.UnaryOp.TheVariants as unary_op
use Rattle.c_syntax.specs.SyntaxTree as tree
use Rattle.c_syntax.specs.SyntaxTree.{Expression, ExpressionForm, Expressions, no_argument, argument}
use Rattle.c_tree.specs.TypedTree.{Expr}
use Rattle.c_tree.specs.Temporaries.{temporaries}
use Rattle.c_rules.specs.declared.meaning.Meaning.{Meaning}
use Rattle.c_rules.specs.declared.meaning.Meaning.TheVariants as meanings
use Rattle.c_rules.specs.declared.meaning.ObjectType.TheVariants.{Single, Array}
use Rattle.c_rules.specs.Outcome.{Outcome, ◌>>=◌}
use Rattle.c_rules.specs.Kinds.{is_void}
use Rattle.c_rules.specs.Operands.{Operand, stepped_after, stepped_before, assigned, assigned_by, passed}
use Rattle.c_rules.specs.Scopes.{Scope, is_in, is_out}
use Rattle.c_rules.specs.Typing.{type_named, named_as, typed_name, bodies_before, typed_call, array_length, prefixed, is_address, takes_address, of_object, word_at, operand, Arguments, Operands, NoPort, Port, arguments_from, call_of}
use Rattle.c_rules.specs.Typing.{typing, typing_form, operands, port_arguments, constant_typing}
use Rattle.c_rules.proofs.Formed.Context.{Gives, is, broken, behind, unless}
use Rattle.c_rules.proofs.Formed.GivesLemmas.{anything, weaker, one_of}
use Rattle.c_rules.proofs.Formed.CountedExpressions.{code}
use Rattle.c_types_proof.proofs.TemporaryOperands.{all_needed, Needs, at_most, unary_few, negated_few, loaded_few, sized_few}
use Rattle.c_types_proof.proofs.TemporaryOperands.{indexed_few, assigned_few, assigned_by_few}
use Rattle.c_types_proof.proofs.TemporaryOperands.{stepped_before_few, stepped_after_few, address_few, cast_few, passed_few, input_few, output_few}
use Rattle.c_types_proof.proofs.TemporaryOperands.{number_few, binary_few, picked_few, both_true_few, either_true_few, behind_few}

-- an outcome that needs fewer than so many
abbrev pub Below : ℕ → Outcome Expr → Type 0
Below n o = Gives (λ x. temporaries x < n) o

below : {o : Outcome Expr} (m n : ℕ) → m < n → Needs m o → Below n o
below {o} m n less few = weaker o few λ x within. omega (arith, less, within)

-- names
named_as_few : (at : ℕ) (m : Option Meaning) → Needs 0 (named_as at m)
named_as_few at None = broken _ _
named_as_few at (Some (meanings.Object r (Single kind))) = is _ (omega arith)
named_as_few at (Some (meanings.Object r (Array kind n))) = is _ (omega arith)
named_as_few at (Some (meanings.Function type)) = broken _ _

named_few : (s : Scope) (name : List ℕ) (at : ℕ) → Needs 0 (typed_name s name at)
named_few s name at = unless (is_in name || is_out name) _ _ _ λ own. named_as_few at (s.meaning name)

called_few : (f : ℕ) (m : Option Meaning) (at : ℕ) (xs : List Operand) → Needs (all_needed xs) (typed_call f m at xs)
called_few f None at xs = broken _ _
called_few f (Some (meanings.Object r type)) at xs = broken _ _
called_few f (Some (meanings.Function type)) at xs =
    behind (passed type.parameters at xs) _ (passed_few type.parameters at xs) λ es few.
    is _ few

-- a call, whose arguments take this many
abbrev needed_by : Arguments → ℕ
needed_by (Operands xs) = all_needed xs
needed_by NoPort = 0
needed_by (Port class port xs) = all_needed xs

arguments_few : (n : ℕ) (name : List ℕ) (port : Outcome Arguments) (xs : Outcome (List Operand)) → Gives (λ a. needed_by a ≤ n) port
    → Gives (λ xs. all_needed xs ≤ n) xs → Gives (λ a. needed_by a ≤ n) (arguments_from name port xs)
arguments_few n name port xs first second = one_of (is_in name || is_out name) _ _ first (behind xs _ second λ xs few. is _ few)

call_of_few : (s : Scope) (name : List ℕ) (at : ℕ) (a : Arguments) → Needs (needed_by a) (call_of s name at a)
call_of_few s name at (Operands xs) = called_few (bodies_before s name) (s.meaning name) at xs
call_of_few s name at NoPort = broken _ _
call_of_few s name at (Port class port xs) =
    one_of (is_in name) _ _ (at_most 0 _ (omega arith) (input_few at class port xs)) (output_few at class port xs)

-- operators before an operand
prefixed_few : (o : PrefixOp) (is_array : Bool) (at : ℕ) (x : Expr) → Needs (temporaries x) (prefixed o is_array at x)
prefixed_few prefix.Address is_array at x = address_few at x is_array
prefixed_few prefix.Pointed is_array at x = loaded_few at x
prefixed_few prefix.Plus is_array at x = unary_few at x unary_op.Plus
prefixed_few prefix.Minus is_array at x = unary_few at x unary_op.Minus
prefixed_few prefix.Complement is_array at x = unary_few at x unary_op.Complement
prefixed_few prefix.Not is_array at x = negated_few at x

-- an operator whose operand has to be an object
of_object_few : (n : ℕ) (no_object : Bool) (at : ℕ) (o : Outcome Expr) → Below n o → Below n (o >>= λ x. of_object no_object at x)
of_object_few n no_object at o few = behind o _ few λ x within. unless no_object _ _ _ λ object. is _ within

module _ (s : Scope) where
  mutual
    pub expression_few : (e : Expression) → Below (expression_weight code e) (typing s e)
    expression_few (tree.Node form at) = form_few form at

    form_few : (form : ExpressionForm) (at : ℕ) → Below (1 + form_weight code form) (typing_form s form at)
    -- names and constants
    form_few (tree.Name name) at = below 0 _ (omega arith) (named_few s name at)
    form_few (tree.Number value marked decimal) at = below 0 _ (omega arith) (number_few value marked decimal at)
    form_few (tree.Character value) at = is _ (omega arith)
    -- behind an operand
    form_few (tree.Index a b) at =
        behind (typing s a) _ (expression_few a) λ x first.
        behind (typing s b) _ (expression_few b) λ y second.
        below (1 + (temporaries x + temporaries y)) _ (omega (arith, first, second)) (indexed_few at x y)
    form_few (tree.Call name es) at =
        behind (arguments_from name (port_arguments s es) (operands s es)) _ (arguments_few _ name _ _ (port_few es) (operands_few es)) λ a few.
        below (needed_by a) _ (omega (arith, few)) (call_of_few s name at a)
    form_few (tree.StepAfter up a) at =
        behind (typing s a) _ (expression_few a) λ x first.
        of_object_few _ (is_address a) at (stepped_after up at x) (below (temporaries x) _ (omega (arith, first)) (stepped_after_few at x up))
    -- before an operand
    form_few (tree.StepBefore up a) at =
        behind (typing s a) _ (expression_few a) λ x first.
        of_object_few _ (is_address a) at (stepped_before up at x) (below (temporaries x) _ (omega (arith, first)) (stepped_before_few at x up))
    form_few (tree.Prefix o a) at =
        behind (typing s a) _ (expression_few a) λ x first.
        of_object_few _ (takes_address o && is_address a) at (prefixed o (is_some (array_length s a)) at x)
        (below (temporaries x) _ (omega (arith, first)) (prefixed_few o (is_some (array_length s a)) at x))
    form_few (tree.SizeofValue a) at =
        behind (typing s a) _ (expression_few a) λ x first. below 0 _ (omega arith) (sized_few at x (array_length s a))
    form_few (tree.SizeofType t) at =
        behind (type_named t) _ (anything _) λ kind type. unless (is_void kind) _ _ _ λ some. is _ (omega arith)
    form_few (tree.Cast t a) at =
        behind (type_named t) _ (anything _) λ kind type.
        behind (typing s a) _ (expression_few a) λ x first. below (temporaries x) _ (omega (arith, first)) (cast_few at (operand a x) kind)
    -- between operands
    form_few (tree.Binary o a b) at =
        behind (typing s a) _ (expression_few a) λ x first.
        behind (typing s b) _ (expression_few b) λ y second.
        below (1 + (temporaries x + temporaries y)) _ (omega (arith, first, second)) (binary_few at (operand a x) (operand b y) o)
    form_few (tree.And a b) at =
        behind (typing s a) _ (expression_few a) λ x first.
        behind (typing s b) _ (expression_few b) λ y second.
        below (1 + (temporaries x + temporaries y)) _ (omega (arith, first, second)) (both_true_few at x y)
    form_few (tree.Or a b) at =
        behind (typing s a) _ (expression_few a) λ x first.
        behind (typing s b) _ (expression_few b) λ y second.
        below (1 + (temporaries x + temporaries y)) _ (omega (arith, first, second)) (either_true_few at x y)
    form_few (tree.Conditional c a b) at =
        behind (typing s c) _ (expression_few c) λ t test.
        behind (typing s a) _ (expression_few a) λ x first.
        behind (typing s b) _ (expression_few b) λ y second.
        below (temporaries t + (temporaries x + temporaries y)) _ (omega (arith, test, first, second)) (picked_few at (operand a x) (operand b y) t)
    form_few (tree.Assign a b) at =
        behind (typing s a) _ (expression_few a) λ x first.
        behind (typing s b) _ (expression_few b) λ y second.
        of_object_few _ (is_address a) at (assigned at x (operand b y))
        (below (1 + (temporaries x + temporaries y)) _ (omega (arith, first, second)) (assigned_few at x (operand b y)))
    form_few (tree.AssignOp o a b) at =
        behind (typing s a) _ (expression_few a) λ x first.
        behind (typing s b) _ (expression_few b) λ y second.
        of_object_few _ (is_address a) at (assigned_by o at x y)
        (below (2 + (temporaries x + temporaries y)) _ (omega (arith, first, second)) (assigned_by_few at x o y))
    form_few (tree.Comma a b) at =
        behind (typing s a) _ (expression_few a) λ x first.
        behind (typing s b) _ (expression_few b) λ y second.
        below (1 + (temporaries x + temporaries y)) _ (omega (arith, first, second)) (behind_few at x y)

    operands_few : (es : Expressions) → Gives (λ xs. all_needed xs ≤ arguments_weight code es) (operands s es)
    operands_few no_argument = is _ (omega arith)
    operands_few (argument e rest) =
        behind (typing s e) _ (expression_few e) λ x first.
        behind (operands s rest) _ (operands_few rest) λ xs others. is _ (omega (arith, first, others))

    port_few : (es : Expressions) → Gives (λ a. needed_by a ≤ arguments_weight code es) (port_arguments s es)
    port_few no_argument = is _ (omega arith)
    port_few (argument e rest) =
        behind (constant_typing s e) _ (anything _) λ x known.
        behind (word_at e x) _ (anything _) λ port word.
        behind (operands s rest) _ (operands_few rest) λ xs others. is _ (omega (arith, others))
