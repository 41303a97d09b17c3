-- The typed tree of an expression: ISO 9899:1990 6.3 (docs/LANGUAGE.md, "Types").
use Rattle.std.specs.Prelude.{ℕ, ◌==◌, ◌&&◌, ◌||◌, not, Bool, true, false, if◌then◌else◌, List, [], ◌∷◌, is_some, Option, Some, None}
use Rattle.std.specs.List.{position_or_len}
use Rattle.std.specs.Str.{bytes_eq}
use Rattle.c_tree.specs.declared.program.Base.{Base}
use Rattle.c_tree.specs.declared.program.Base.TheVariants as base
use Rattle.c_tree.specs.c_syntax.declared.operator.UnaryOp.TheVariants as unary_op
use Rattle.c_tree.specs.c_syntax.declared.syntax.SpecWord.{SpecWord}
use Rattle.c_tree.specs.c_syntax.declared.syntax.SpecWord.TheVariants as words
use Rattle.c_tree.specs.c_syntax.declared.syntax.PrefixOp.{PrefixOp}
use Rattle.c_tree.specs.c_syntax.declared.syntax.PrefixOp.TheVariants as prefix
use Rattle.c_tree.specs.c_syntax.SyntaxTree as tree
use Rattle.c_tree.specs.c_syntax.SyntaxTree.{SpecsTree, TypeTree, Expression, ExpressionForm, Expressions, no_argument, argument}
use Rattle.c_tree.specs.TypedTree.{Kind, Expr, Node, Const, Read, AddressOf, Call}
use Rattle.c_tree.specs.Eval.{kind_of}
use Rattle.c_rules.specs.declared.fault.Rule.{Rule}
use Rattle.c_rules.specs.declared.fault.Rule.TheVariants.{Undeclared, Redeclared, Mismatch, NotLvalue, NotConstant, LongConstant, BadPort, ArgCount, Misplaced}
use Rattle.c_rules.specs.declared.class.Class.{Class}
use Rattle.c_rules.specs.declared.meaning.Meaning.{Meaning}
use Rattle.c_rules.specs.declared.meaning.Meaning.TheVariants as meanings
use Rattle.c_rules.specs.declared.meaning.ObjectType.TheVariants.{Single, Array}
use Rattle.c_rules.specs.Outcome.{Outcome, Is, Broken, ◌>>=◌, breaks, there_or}
use Rattle.c_rules.specs.Kinds.{int, unsigned, is_void, starred, class_of, pointer_to}
use Rattle.c_rules.specs.Operands.{Operand, typed_number, unary, negated, binary, both_true, either_true, picked, assigned, assigned_by, stepped_before, stepped_after, address, loaded, indexed, cast, typed_comma, sized, passed, input, output}
use Rattle.c_rules.specs.Constants.{constant}
use Rattle.c_rules.specs.Scopes.{Scope, is_in, is_out, length_of_array}

-- whether two words of a type are the same
abbrev pub same_word : SpecWord → SpecWord → Bool
same_word words.Static words.Static = true
same_word words.Void words.Void = true
same_word words.Char words.Char = true
same_word words.Short words.Short = true
same_word words.Int words.Int = true
same_word words.Signed words.Signed = true
same_word words.Unsigned words.Unsigned = true
same_word a b = false

-- whether a word is among the words of a type
abbrev pub has : SpecWord → List SpecWord → Bool
has word [] = false
has word (w ∷ ws) = same_word word w || has word ws

-- whether one is there twice
abbrev pub repeats : List SpecWord → Bool
repeats [] = false
repeats (w ∷ ws) = has w ws || repeats ws

-- void stands alone; the other types are char, short or int with a sign or without, where short may have int beside it
abbrev pub clash : List SpecWord → Bool
clash ws =
    has words.Void ws && (has words.Char ws || has words.Short ws || has words.Int ws || has words.Signed ws || has words.Unsigned ws)
    || has words.Char ws && (has words.Short ws || has words.Int ws)
    || has words.Signed ws && has words.Unsigned ws

abbrev pub names_type : List SpecWord → Bool
names_type ws = has words.Void ws || has words.Char ws || has words.Short ws || has words.Int ws || has words.Signed ws || has words.Unsigned ws

-- whether the words are a spelling of a type, in any order, with static once or not at all: 6.5.2
abbrev pub is_spelling : List SpecWord → Bool
is_spelling ws = names_type ws && not (clash ws) && not (repeats ws)

abbrev pub base_of : List SpecWord → Base
base_of ws = if has words.Void ws then base.Void else if has words.Unsigned ws then base.Unsigned else base.Int

-- the base of a type that is spelled, and of one in which static has no place
abbrev pub spelled : SpecsTree → Outcome Base
spelled specs = breaks (not (is_spelling specs.words)) Mismatch specs.at (Is (base_of specs.words))

abbrev pub plain : SpecsTree → Outcome Base
plain specs = spelled specs >>= λ b. breaks (has words.Static specs.words) Misplaced specs.at (Is b)

-- the type that a cast or sizeof names
abbrev pub type_named : TypeTree → Outcome Kind
type_named t = plain t.specs >>= λ b. Is (starred b t.stars)

-- whether the text of an expression is that of a null pointer: a number of value 0, or one that is cast to a void pointer
abbrev pub is_zero : Expression → Bool
is_zero (tree.Node (tree.Number v m d) at) = v == 0
is_zero e = false

abbrev pub is_null : Expression → Bool
is_null (tree.Node (tree.Cast t e) at) = is_zero e && has words.Void t.specs.words && t.stars == 1
is_null e = is_zero e

-- a name: 6.3.1; an array is a pointer to its first cell, and a function isn't named but in calls
abbrev pub named_as : ℕ → Option Meaning → Outcome Expr
named_as at None = Broken Undeclared at
named_as at (Some (meanings.Object reference (Single kind))) = Is (Node (Read reference) (Some kind) at)
named_as at (Some (meanings.Object reference (Array kind length))) = Is (Node (AddressOf reference) (Some (pointer_to kind)) at)
named_as at (Some (meanings.Function type)) = Broken Mismatch at

abbrev pub typed_name : Scope → List ℕ → ℕ → Outcome Expr
typed_name s name at = breaks (is_in name || is_out name) Mismatch at (named_as at (s.meaning name))

-- the number of a function: how many bodies stand before its own
abbrev pub bodies_before : Scope → List ℕ → ℕ
bodies_before s name = position_or_len (λ body. bytes_eq body name) s.bodies

-- a call by a name that stands for this: 6.3.2.2
abbrev pub typed_call : ℕ → Option Meaning → ℕ → List Operand → Outcome Expr
typed_call function None at xs = Broken Undeclared at
typed_call function (Some (meanings.Object reference type)) at xs = Broken Mismatch at
typed_call function (Some (meanings.Function type)) at xs =
    passed type.parameters at xs >>= λ es. Is (Node (Call function es) type.result at)

-- whether an operand is the name of an array
abbrev pub array_length : Scope → Expression → Option ℕ
array_length s (tree.Node (tree.Name name) at) = length_of_array (s.meaning name)
array_length s e = None

-- an operator before an operand, of which the Bool says whether it names an array
abbrev pub prefixed : PrefixOp → Bool → ℕ → Expr → Outcome Expr
prefixed prefix.Address is_array at x = address is_array at x
prefixed prefix.Pointed is_array at x = loaded at x
prefixed prefix.Plus is_array at x = unary unary_op.Plus at x
prefixed prefix.Minus is_array at x = unary unary_op.Minus at x
prefixed prefix.Complement is_array at x = unary unary_op.Complement at x
prefixed prefix.Not is_array at x = negated at x

-- the place of an expression
abbrev pub place : Expression → ℕ
place (tree.Node form at) = at

-- an operand that is written, or whose address is taken, isn't an address by its text: the tree of `&*e` is that of `e`
abbrev pub is_address : Expression → Bool
is_address (tree.Node (tree.Prefix prefix.Address e) at) = true
is_address e = false

abbrev pub takes_address : PrefixOp → Bool
takes_address prefix.Address = true
takes_address prefix.Pointed = false
takes_address prefix.Plus = false
takes_address prefix.Minus = false
takes_address prefix.Complement = false
takes_address prefix.Not = false

abbrev pub of_object : Bool → ℕ → Expr → Outcome Expr
of_object no_object at x = breaks no_object NotLvalue at (Is x)

-- what a call has once its arguments are typed: the operands of a function; of a port nothing, or its number with the operands behind it
pub data Arguments : Type 0 where
  Operands : List Operand → Arguments
  NoPort : Arguments
  Port : Class → ℕ → List Operand → Arguments

-- the arguments of a call, from what they are as those of a port and as those of a function
abbrev pub arguments_from : List ℕ → Outcome Arguments → Outcome (List Operand) → Outcome Arguments
arguments_from name port operands = if is_in name || is_out name then port else (operands >>= λ xs. Is (Operands xs))

-- a call with these arguments
abbrev pub call_of : Scope → List ℕ → ℕ → Arguments → Outcome Expr
call_of s name at (Operands xs) = typed_call (bodies_before s name) (s.meaning name) at xs
call_of s name at NoPort = Broken ArgCount at
call_of s name at (Port class port xs) = if is_in name then input at class port xs else output at class port xs

-- rules that calls alone break
abbrev pub is_of_calls : Rule → Bool
is_of_calls Undeclared = false
is_of_calls Redeclared = false
is_of_calls Mismatch = false
is_of_calls NotLvalue = false
is_of_calls NotConstant = false
is_of_calls LongConstant = false
is_of_calls BadPort = true
is_of_calls ArgCount = true
is_of_calls Misplaced = false

-- a call that has to be constant: that it isn't comes before its own port and the number of its arguments. Of one that is typed `word_at`
-- says so.
abbrev pub no_constant : Outcome Expr → Outcome Expr
no_constant (Is x) = Is x
no_constant (Broken rule at) = if is_of_calls rule then Broken NotConstant at else Broken rule at

-- the word of an expression that has to be constant
abbrev pub word_at : Expression → Expr → Outcome ℕ
word_at e x = there_or NotConstant (place e) (constant e x)

abbrev pub operand : Expression → Expr → Operand
operand e x = record { value = x; null = is_null e }

module _ (s : Scope) where
  abbrev mutual
    -- an expression in a scope
    pub typing : Expression → Outcome Expr
    typing (tree.Node form at) = typing_form form at

    pub typing_form : ExpressionForm → ℕ → Outcome Expr
    -- names and constants
    typing_form (tree.Name name) at = typed_name s name at
    typing_form (tree.Number value marked decimal) at = typed_number value marked decimal at
    typing_form (tree.Character value) at = Is (Node (Const value) (Some int) at)
    -- behind an operand
    typing_form (tree.Index a b) at = typing a >>= λ x. typing b >>= λ y. indexed at x y
    typing_form (tree.Call name es) at = arguments_from name (port_arguments es) (operands es) >>= λ a. call_of s name at a
    typing_form (tree.StepAfter up a) at = typing a >>= λ x. stepped_after up at x >>= λ y. of_object (is_address a) at y
    -- before an operand
    typing_form (tree.StepBefore up a) at = typing a >>= λ x. stepped_before up at x >>= λ y. of_object (is_address a) at y
    typing_form (tree.Prefix o a) at = typing a >>= λ x. prefixed o (is_some (array_length s a)) at x >>= λ y. of_object (takes_address o && is_address a) at y
    typing_form (tree.SizeofValue a) at = typing a >>= λ x. sized (array_length s a) at x
    typing_form (tree.SizeofType t) at = type_named t >>= λ kind. breaks (is_void kind) Mismatch t.specs.at (Is (Node (Const 1) (Some unsigned) at))
    typing_form (tree.Cast t a) at = type_named t >>= λ kind. typing a >>= λ x. cast kind at (operand a x)
    -- between operands
    typing_form (tree.Binary o a b) at = typing a >>= λ x. typing b >>= λ y. binary o at (operand a x) (operand b y)
    typing_form (tree.And a b) at = typing a >>= λ x. typing b >>= λ y. both_true at x y
    typing_form (tree.Or a b) at = typing a >>= λ x. typing b >>= λ y. either_true at x y
    typing_form (tree.Conditional c a b) at = typing c >>= λ t. typing a >>= λ x. typing b >>= λ y. picked at t (operand a x) (operand b y)
    typing_form (tree.Assign a b) at = typing a >>= λ x. typing b >>= λ y. assigned at x (operand b y) >>= λ z. of_object (is_address a) at z
    typing_form (tree.AssignOp o a b) at = typing a >>= λ x. typing b >>= λ y. assigned_by o at x y >>= λ z. of_object (is_address a) at z
    typing_form (tree.Comma a b) at = typing a >>= λ x. typing b >>= λ y. Is (typed_comma at x y)

    -- arguments, from left to right
    pub operands : Expressions → Outcome (List Operand)
    operands no_argument = Is []
    operands (argument e rest) = typing e >>= λ x. operands rest >>= λ xs. Is (operand e x ∷ xs)

    -- a port has to be constant
    pub port_arguments : Expressions → Outcome Arguments
    port_arguments no_argument = Is NoPort
    port_arguments (argument e rest) = as_constant e (typing e) >>= λ x. word_at e x >>= λ port. operands rest >>= λ xs. Is (Port (class_of (kind_of x)) port xs)

    -- an expression that has to be constant, by what its typing comes to elsewhere
    pub as_constant : Expression → Outcome Expr → Outcome Expr
    as_constant (tree.Node form at) typed = form_as_constant form at typed

    pub form_as_constant : ExpressionForm → ℕ → Outcome Expr → Outcome Expr
    form_as_constant (tree.Call name es) at typed = arguments_from name (port_arguments es) (operands es) >>= λ a. no_constant (call_of s name at a)
    form_as_constant form at typed = typed

  -- what stands between the parentheses of a call
  abbrev pub arguments : List ℕ → Expressions → Outcome Arguments
  arguments name es = arguments_from name (port_arguments es) (operands es)

  -- an expression that has to be constant
  abbrev pub constant_typing : Expression → Outcome Expr
  constant_typing e = as_constant e (typing e)
