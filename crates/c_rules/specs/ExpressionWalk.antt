-- The walk over an expression: the rules that each of its nodes breaks, ISO 9899:1990 6.3 and 6.4.
use Rattle.std.specs.Prelude.{ℕ, nat_lt, ◌||◌, not, Bool, true, false, if◌then◌else◌, List, [], ◌∷◌, ◌++◌, is_some, is_none, Option, Some, None}
use Rattle.c_tree.specs.c_syntax.declared.operator.BinaryOp.{BinaryOp}
use Rattle.c_tree.specs.declared.program.ScalarType.{ScalarType}
use Rattle.c_tree.specs.c_syntax.declared.syntax.SpecWord.TheVariants as words
use Rattle.c_tree.specs.c_syntax.declared.syntax.PrefixOp.{PrefixOp}
use Rattle.c_tree.specs.c_syntax.declared.syntax.PrefixOp.TheVariants as prefix
use Rattle.c_tree.specs.c_syntax.SyntaxTree as tree
use Rattle.c_tree.specs.c_syntax.SyntaxTree.{SpecsTree, TypeTree, Expression, ExpressionForm, Expressions, no_argument, argument}
use Rattle.c_tree.specs.TypedTree.{Kind, Expr}
use Rattle.c_tree.specs.Eval.{kind_of}
use Rattle.c_rules.specs.declared.fault.Rule.{Rule}
use Rattle.c_rules.specs.declared.fault.Rule.TheVariants.{Undeclared, Mismatch, NotLvalue, NotConstant, BadPort, ArgCount, Misplaced}
use Rattle.c_rules.specs.declared.class.Class.{Class}
use Rattle.c_rules.specs.declared.meaning.Meaning.{Meaning}
use Rattle.c_rules.specs.declared.meaning.Meaning.TheVariants as meanings
use Rattle.c_rules.specs.Outcome.{Outcome, Is, Broken}
use Rattle.c_rules.specs.Kinds.{is_void, class_of}
use Rattle.c_rules.specs.Operands.{Operand, typed_number, binary, both_true, either_true, picked, given, lvalue_of, takes, indexed, cast, sized, any_void, is_integer, is_word_first}
use Rattle.c_rules.specs.Constants.{constant}
use Rattle.c_rules.specs.Scopes.{Scope, is_in, is_out}
use Rattle.c_rules.specs.Typing.{Arguments, Operands, NoPort, Port, has, is_spelling, type_named, typed_name, array_length, prefixed, is_address, operand, typing, arguments}
use Rattle.c_rules.specs.Visits.{Visit, visit, when, rule_of, by_one, by_two, by_three}

-- the words of a type, in which static has no place
abbrev pub plain_rules : SpecsTree → List Rule
plain_rules specs = when (not (is_spelling specs.words)) Mismatch ++ when (has words.Static specs.words) Misplaced

abbrev pub type_visits : TypeTree → List Visit
type_visits t = visit t.specs.at (plain_rules t.specs) ∷ []

-- what is written or stepped, or whose address is taken
abbrev pub object_rules : Bool → Expr → List Rule
object_rules no_object x = when (is_none (lvalue_of x) || no_object) NotLvalue

abbrev pub step_rules : Bool → Expr → List Rule
step_rules no_object x = when (is_void (kind_of x)) Mismatch ++ object_rules no_object x

abbrev pub prefix_rules : PrefixOp → Bool → Bool → ℕ → Expr → List Rule
prefix_rules prefix.Address is_array no_object at x = when (is_array || is_void (kind_of x)) Mismatch ++ object_rules no_object x
prefix_rules o is_array no_object at x = rule_of (prefixed o is_array at x)

-- whether an outcome breaks a rule, and an operand isn't one of the type that is wanted
abbrev pub is_broken : {A : Type 0} → Outcome A → Bool
is_broken (Is a) = false
is_broken (Broken rule at) = true

abbrev pub misfits : Kind → ℕ → Operand → Bool
misfits None at x = true
misfits (Some kind) at x = is_broken (given kind at x)

abbrev pub assign_rules : Bool → ℕ → Expr → Operand → List Rule
assign_rules no_object at x y = when (misfits (kind_of x) at y) Mismatch ++ object_rules no_object x

abbrev pub update_rules : Bool → BinaryOp → Expr → Expr → List Rule
update_rules no_object o x y = when (not (takes o (class_of (kind_of x)) (class_of (kind_of y)))) Mismatch ++ object_rules no_object x

-- calls: arguments that don't fit, and their number
abbrev pub any_misfit : List ScalarType → ℕ → List Operand → Bool
any_misfit [] at xs = any_void xs
any_misfit (kind ∷ kinds) at [] = false
any_misfit (kind ∷ kinds) at (x ∷ xs) = is_broken (given kind at x) || any_misfit kinds at xs

abbrev pub other_count : List ScalarType → List Operand → Bool
other_count [] [] = false
other_count [] (x ∷ xs) = true
other_count (kind ∷ kinds) [] = true
other_count (kind ∷ kinds) (x ∷ xs) = other_count kinds xs

abbrev pub called_rules : Option Meaning → ℕ → List Operand → List Rule
called_rules None at xs = Undeclared ∷ when (any_void xs) Mismatch
called_rules (Some (meanings.Object reference type)) at xs = Mismatch ∷ []
called_rules (Some (meanings.Function type)) at xs =
    when (any_misfit type.parameters at xs) Mismatch ++ when (other_count type.parameters xs) ArgCount

-- a port that is read has no operand behind its number, and one that is written has one
abbrev pub any_behind : List Operand → Bool
any_behind [] = false
any_behind (x ∷ xs) = true

abbrev pub isnt_one : List Operand → Bool
isnt_one [] = true
isnt_one (x ∷ xs) = any_behind xs

abbrev pub input_rules : Class → ℕ → List Operand → List Rule
input_rules class port xs =
    when (not (is_integer class) || any_void xs) Mismatch ++ (when (nat_lt 15 port) BadPort ++ when (any_behind xs) ArgCount)

abbrev pub output_rules : Class → ℕ → List Operand → List Rule
output_rules class port xs =
    when (not (is_integer class) || not (is_word_first xs) || any_void xs) Mismatch ++ (when (nat_lt 15 port) BadPort ++ when (isnt_one xs) ArgCount)

abbrev pub call_rules : Scope → List ℕ → ℕ → Arguments → List Rule
call_rules s name at (Operands xs) = called_rules (s.meaning name) at xs
call_rules s name at NoPort = ArgCount ∷ []
call_rules s name at (Port class port xs) = if is_in name then input_rules class port xs else output_rules class port xs

-- an expression whose value has to be known before the program runs, which is asked once it is typed. A call's isn't, whatever else is
-- wrong with it.
abbrev pub is_call : ExpressionForm → Bool
is_call (tree.Call name es) = true
is_call form = false

abbrev pub constant_rules : {A : Type 0} → ExpressionForm → Outcome Expr → (Expr → Option A) → List Rule
constant_rules form (Is x) value = when (is_none (value x)) NotConstant
constant_rules form (Broken rule at) value = when (is_call form) NotConstant

-- a type under sizeof isn't void
abbrev pub size_visit : TypeTree → Visit
size_visit t = visit t.specs.at (by_one (type_named t) (λ kind. when (is_void kind) Mismatch))

module _ (s : Scope) where
  -- the rules that a node breaks, where its parts are typed
  abbrev pub rules : ExpressionForm → ℕ → List Rule
  rules (tree.Name name) at = rule_of (typed_name s name at)
  rules (tree.Number value marked decimal) at = rule_of (typed_number value marked decimal at)
  rules (tree.Character value) at = []
  rules (tree.Index a b) at = by_two (typing s a) (typing s b) (λ x y. rule_of (indexed at x y))
  rules (tree.Call name es) at = by_one (arguments s name es) (call_rules s name at)
  rules (tree.StepAfter up a) at = by_one (typing s a) (step_rules (is_address a))
  rules (tree.StepBefore up a) at = by_one (typing s a) (step_rules (is_address a))
  rules (tree.Prefix o a) at = by_one (typing s a) (prefix_rules o (is_some (array_length s a)) (is_address a) at)
  rules (tree.SizeofValue a) at = by_one (typing s a) (λ x. rule_of (sized (array_length s a) at x))
  rules (tree.SizeofType t) at = []
  rules (tree.Cast t a) at = by_two (type_named t) (typing s a) (λ kind x. rule_of (cast kind at (operand a x)))
  rules (tree.Binary o a b) at = by_two (typing s a) (typing s b) (λ x y. rule_of (binary o at (operand a x) (operand b y)))
  rules (tree.And a b) at = by_two (typing s a) (typing s b) (λ x y. rule_of (both_true at x y))
  rules (tree.Or a b) at = by_two (typing s a) (typing s b) (λ x y. rule_of (either_true at x y))
  rules (tree.Conditional c a b) at = by_three (typing s c) (typing s a) (typing s b) (λ t x y. rule_of (picked at t (operand a x) (operand b y)))
  rules (tree.Assign a b) at = by_two (typing s a) (typing s b) (λ x y. assign_rules (is_address a) at x (operand b y))
  rules (tree.AssignOp o a b) at = by_two (typing s a) (typing s b) (update_rules (is_address a) o)
  rules (tree.Comma a b) at = []

  abbrev mutual
    -- an expression: its parts, and the node
    pub visits : Expression → List Visit
    visits (tree.Node form at) = part_visits form ++ visit at (rules form at) ∷ []

    pub part_visits : ExpressionForm → List Visit
    part_visits (tree.Name name) = []
    part_visits (tree.Number value marked decimal) = []
    part_visits (tree.Character value) = []
    part_visits (tree.Index a b) = visits a ++ visits b
    part_visits (tree.Call name es) = if is_in name || is_out name then port_visits es else list_visits es
    part_visits (tree.StepAfter up a) = visits a
    part_visits (tree.StepBefore up a) = visits a
    part_visits (tree.Prefix o a) = visits a
    part_visits (tree.SizeofValue a) = visits a
    part_visits (tree.SizeofType t) = type_visits t ++ size_visit t ∷ []
    part_visits (tree.Cast t a) = type_visits t ++ visits a
    part_visits (tree.Binary o a b) = visits a ++ visits b
    part_visits (tree.And a b) = visits a ++ visits b
    part_visits (tree.Or a b) = visits a ++ visits b
    part_visits (tree.Conditional c a b) = visits c ++ (visits a ++ visits b)
    part_visits (tree.Assign a b) = visits a ++ visits b
    part_visits (tree.AssignOp o a b) = visits a ++ visits b
    part_visits (tree.Comma a b) = visits a ++ visits b

    -- arguments, from left to right
    pub list_visits : Expressions → List Visit
    list_visits no_argument = []
    list_visits (argument e rest) = visits e ++ list_visits rest

    -- a port is constant
    pub port_visits : Expressions → List Visit
    port_visits no_argument = []
    port_visits (argument e rest) = constant_visits e ++ list_visits rest

    pub constant_visits : Expression → List Visit
    constant_visits (tree.Node form at) =
        part_visits form ++ visit at (rules form at ++ constant_rules form (typing s (tree.Node form at)) (constant (tree.Node form at))) ∷ []
