-- The typed tree of an expression weighs at most 64 for each node of the expression, less the 14 that a use of it may add: 12 where it is an argument,
-- and 2 where it is converted.
use Rattle.std.proofs.Common.{◌≤◌, ◌+◌, ◌*◌, ◌&&◌, ◌||◌, ℕ, Bool, List, is_some, Option, Some, None, arith}
use Rattle.c_syntax.specs.Counts.{expression_weight, form_weight, arguments_weight}
use Rattle.c_syntax.specs.declared.syntax.PrefixOp.{PrefixOp}
use Rattle.c_syntax.specs.declared.syntax.PrefixOp.TheVariants as prefix
use Rattle.c_syntax.specs.declared.operator.UnaryOp.TheVariants as unary_op
use Rattle.c_syntax.specs.SyntaxTree as tree
use Rattle.c_syntax.specs.SyntaxTree.{Expression, ExpressionForm, Expressions, no_argument, argument}
use Rattle.c_tree.specs.TypedTree.{Expr}
use Rattle.c_rules.specs.declared.meaning.Meaning.{Meaning}
use Rattle.c_rules.specs.declared.meaning.Meaning.TheVariants as meanings
use Rattle.c_rules.specs.declared.meaning.ObjectType.TheVariants.{Single, Array}
use Rattle.c_rules.specs.Outcome.{Outcome, ◌>>=◌}
use Rattle.c_rules.specs.Kinds.{is_void}
use Rattle.c_rules.specs.Operands.{Operand, stepped_after, stepped_before, assigned, assigned_by, passed}
use Rattle.c_rules.specs.Scopes.{Scope, is_in, is_out}
use Rattle.c_rules.specs.Typing.{type_named, named_as, typed_name, bodies_before, typed_call, array_length, prefixed, is_address, takes_address, of_object, word_at, operand, Arguments, Operands, NoPort, Port, arguments_from, call_of}
use Rattle.c_rules.specs.Typing.{typing, typing_form, operands, port_arguments, constant_typing}
use Rattle.c_rules.proofs.Formed.Context.{Gives, is, broken, behind, unless}
use Rattle.c_rules.proofs.Formed.GivesLemmas.{anything, weaker, one_of}
use Rattle.c_rules.proofs.Formed.CountedExpressions.{code}
use Rattle.size_proof.proofs.Operators.{weight, operands_weight, Weighs, at_most, unary_weighs, negated_weighs, loaded_weighs, sized_weighs}
use Rattle.size_proof.proofs.Operators.{indexed_weighs, assigned_weighs, assigned_by_weighs}
use Rattle.size_proof.proofs.Operators.{stepped_before_weighs, stepped_after_weighs, address_weighs, cast_weighs, passed_weigh, input_weighs, output_weighs}
use Rattle.size_proof.proofs.Operators.{number_weighs, binary_weighs, picked_weighs, both_true_weigh, either_true_weighs, comma_weighs}

-- an outcome that weighs at most this much with what a use of it may add
abbrev WeighsInUse : ℕ → Outcome Expr → Type 0
WeighsInUse most o = Gives (λ x. weight x + 14 ≤ most) o

in_use : {o : Outcome Expr} (n most : ℕ) → n + 14 ≤ most → Weighs n o → WeighsInUse most o
in_use {o} n most less weighs = weaker o weighs λ x within. omega (arith, less, within)

-- an expression is a node
pub one_node : (e : Expression) → 1 ≤ expression_weight code e
one_node (tree.Node form at) = omega arith

-- names
named_as_weighs : (at : ℕ) (m : Option Meaning) → Weighs 5 (named_as at m)
named_as_weighs at None = broken _ _
named_as_weighs at (Some (meanings.Object r (Single kind))) = is _ (omega arith)
named_as_weighs at (Some (meanings.Object r (Array kind n))) = is _ (omega arith)
named_as_weighs at (Some (meanings.Function type)) = broken _ _

named_weighs : (s : Scope) (name : List ℕ) (at : ℕ) → Weighs 5 (typed_name s name at)
named_weighs s name at = unless (is_in name || is_out name) _ _ _ λ own. named_as_weighs at (s.meaning name)

-- a call, whose operands weigh this much
called_weighs : (f : ℕ) (m : Option Meaning) (at : ℕ) (xs : List Operand) → Weighs (operands_weight xs + 2) (typed_call f m at xs)
called_weighs f None at xs = broken _ _
called_weighs f (Some (meanings.Object r type)) at xs = broken _ _
called_weighs f (Some (meanings.Function type)) at xs =
    behind (passed type.parameters at xs) _ (passed_weigh type.parameters at xs) λ es weigh. is _ (omega (arith, weigh))

abbrev weight_of : Arguments → ℕ
weight_of (Operands xs) = operands_weight xs
weight_of NoPort = 0
weight_of (Port class port xs) = operands_weight xs

arguments_weigh : (n : ℕ) (name : List ℕ) (port : Outcome Arguments) (xs : Outcome (List Operand)) → Gives (λ a. weight_of a ≤ n) port
    → Gives (λ xs. operands_weight xs ≤ n) xs → Gives (λ a. weight_of a ≤ n) (arguments_from name port xs)
arguments_weigh n name port xs first second = one_of (is_in name || is_out name) _ _ first (behind xs _ second λ xs weigh. is _ weigh)

call_of_weighs : (s : Scope) (name : List ℕ) (at : ℕ) (a : Arguments) → Weighs (weight_of a + 4) (call_of s name at a)
call_of_weighs s name at (Operands xs) = at_most (operands_weight xs + 2) _ (omega arith) (called_weighs (bodies_before s name) (s.meaning name) at xs)
call_of_weighs s name at NoPort = broken _ _
call_of_weighs s name at (Port class port xs) =
    one_of (is_in name) _ _ (at_most 4 _ (omega arith) (input_weighs at class port xs)) (output_weighs at class port xs)

-- operators before an operand
prefixed_weighs : (o : PrefixOp) (is_array : Bool) (at : ℕ) (x : Expr) → Weighs (weight x + 10) (prefixed o is_array at x)
prefixed_weighs prefix.Address is_array at x = at_most (weight x + 2) _ (omega arith) (address_weighs at x is_array)
prefixed_weighs prefix.Pointed is_array at x = at_most (weight x + 5) _ (omega arith) (loaded_weighs at x)
prefixed_weighs prefix.Plus is_array at x = at_most (weight x + 1) _ (omega arith) (unary_weighs at x unary_op.Plus)
prefixed_weighs prefix.Minus is_array at x = at_most (weight x + 1) _ (omega arith) (unary_weighs at x unary_op.Minus)
prefixed_weighs prefix.Complement is_array at x = at_most (weight x + 1) _ (omega arith) (unary_weighs at x unary_op.Complement)
prefixed_weighs prefix.Not is_array at x = negated_weighs at x

-- an operator whose operand has to be an object
object_weighs : (most : ℕ) (no_object : Bool) (at : ℕ) (o : Outcome Expr) → WeighsInUse most o → WeighsInUse most (o >>= λ x. of_object no_object at x)
object_weighs most no_object at o weighs = behind o _ weighs λ x within. unless no_object _ _ _ λ object. is _ within

module _ (s : Scope) where
  mutual
    pub expression_light : (e : Expression) → WeighsInUse (64 * expression_weight code e) (typing s e)
    expression_light (tree.Node form at) = form_light form at

    form_light : (form : ExpressionForm) (at : ℕ) → WeighsInUse (64 * (1 + form_weight code form)) (typing_form s form at)
    -- names and constants
    form_light (tree.Name name) at = in_use 5 _ (omega arith) (named_weighs s name at)
    form_light (tree.Number value marked decimal) at = in_use 2 _ (omega arith) (number_weighs value marked decimal at)
    form_light (tree.Character value) at = is _ (omega arith)
    -- behind an operand
    form_light (tree.Index a b) at =
        behind (typing s a) _ (expression_light a) λ x first.
        behind (typing s b) _ (expression_light b) λ y second.
        in_use ((weight x + weight y) + 31) _ (omega (arith, first, second)) (indexed_weighs at x y)
    form_light (tree.Call name es) at =
        behind (arguments_from name (port_arguments s es) (operands s es)) _ (arguments_weigh _ name _ _ (port_light es) (operands_light es)) λ a weigh.
        in_use (weight_of a + 4) _ (omega (arith, weigh)) (call_of_weighs s name at a)
    form_light (tree.StepAfter up a) at =
        behind (typing s a) _ (expression_light a) λ x first.
        object_weighs _ (is_address a) at (stepped_after up at x) (in_use (weight x + 14) _ (omega (arith, first)) (stepped_after_weighs at x up))
    -- before an operand
    form_light (tree.StepBefore up a) at =
        behind (typing s a) _ (expression_light a) λ x first.
        object_weighs _ (is_address a) at (stepped_before up at x) (in_use (weight x + 14) _ (omega (arith, first)) (stepped_before_weighs at x up))
    form_light (tree.Prefix o a) at =
        behind (typing s a) _ (expression_light a) λ x first.
        object_weighs _ (takes_address o && is_address a) at (prefixed o (is_some (array_length s a)) at x)
        (in_use (weight x + 10) _ (omega (arith, first)) (prefixed_weighs o (is_some (array_length s a)) at x))
    form_light (tree.SizeofValue a) at =
        behind (typing s a) _ (expression_light a) λ x first. in_use 2 _ (omega arith) (sized_weighs at x (array_length s a))
    form_light (tree.SizeofType t) at =
        behind (type_named t) _ (anything _) λ kind type. unless (is_void kind) _ _ _ λ some. is _ (omega arith)
    form_light (tree.Cast t a) at =
        behind (type_named t) _ (anything _) λ kind type.
        behind (typing s a) _ (expression_light a) λ x first. in_use (weight x + 2) _ (omega (arith, first)) (cast_weighs at (operand a x) kind)
    -- between operands
    form_light (tree.Binary o a b) at =
        behind (typing s a) _ (expression_light a) λ x first.
        behind (typing s b) _ (expression_light b) λ y second.
        in_use ((weight x + weight y) + 26) _ (omega (arith, first, second)) (binary_weighs at (operand a x) (operand b y) o)
    form_light (tree.And a b) at =
        behind (typing s a) _ (expression_light a) λ x first.
        behind (typing s b) _ (expression_light b) λ y second.
        in_use ((weight x + weight y) + 20) _ (omega (arith, first, second)) (both_true_weigh at x y)
    form_light (tree.Or a b) at =
        behind (typing s a) _ (expression_light a) λ x first.
        behind (typing s b) _ (expression_light b) λ y second.
        in_use ((weight x + weight y) + 20) _ (omega (arith, first, second)) (either_true_weighs at x y)
    form_light (tree.Conditional c a b) at =
        behind (typing s c) _ (expression_light c) λ t test.
        behind (typing s a) _ (expression_light a) λ x first.
        behind (typing s b) _ (expression_light b) λ y second.
        in_use ((weight t + (weight x + weight y)) + 16) _ (omega (arith, test, first, second)) (picked_weighs at (operand a x) (operand b y) t)
    form_light (tree.Assign a b) at =
        behind (typing s a) _ (expression_light a) λ x first.
        behind (typing s b) _ (expression_light b) λ y second.
        object_weighs _ (is_address a) at (assigned at x (operand b y))
        (in_use ((weight x + weight y) + 21) _ (omega (arith, first, second)) (assigned_weighs at x (operand b y)))
    form_light (tree.AssignOp o a b) at =
        behind (typing s a) _ (expression_light a) λ x first.
        behind (typing s b) _ (expression_light b) λ y second.
        object_weighs _ (is_address a) at (assigned_by o at x y)
        (in_use ((weight x + weight y) + 48) _ (omega (arith, first, second)) (assigned_by_weighs at x o y))
    form_light (tree.Comma a b) at =
        behind (typing s a) _ (expression_light a) λ x first.
        behind (typing s b) _ (expression_light b) λ y second.
        in_use ((weight x + weight y) + 1) _ (omega (arith, first, second)) (comma_weighs at x y)

    operands_light : (es : Expressions) → Gives (λ xs. operands_weight xs ≤ 64 * arguments_weight code es) (operands s es)
    operands_light no_argument = is _ (omega arith)
    operands_light (argument e rest) =
        behind (typing s e) _ (expression_light e) λ x first.
        behind (operands s rest) _ (operands_light rest) λ xs others. is _ (omega (arith, first, others))

    port_light : (es : Expressions) → Gives (λ a. weight_of a ≤ 64 * arguments_weight code es) (port_arguments s es)
    port_light no_argument = is _ (omega arith)
    port_light (argument e rest) =
        behind (constant_typing s e) _ (anything _) λ x known.
        behind (word_at e x) _ (anything _) λ port word.
        behind (operands s rest) _ (operands_light rest) λ xs others. is _ (omega (arith, others))
