-- The typed tree of an expression that says words is of words, in a scope whose arrays aren't longer than one may be.
use Rattle.std.proofs.Common.{◌≡◌, ◌≤◌, ℕ, Bool, ◌&&◌, ◌||◌, List, Option, Some, None, is_some, refl, arith}
use Rattle.std.specs.Prelude.{⊤}
use Rattle.c_syntax.specs.declared.operator.UnaryOp.TheVariants as unary_op
use Rattle.c_syntax.specs.declared.syntax.PrefixOp.{PrefixOp}
use Rattle.c_syntax.specs.declared.syntax.PrefixOp.TheVariants as prefix
use Rattle.c_syntax.specs.SyntaxTree as tree
use Rattle.c_syntax.specs.SyntaxTree.{Expression, ExpressionForm, Expressions, no_argument, argument}
use Rattle.c_tree.specs.TypedTree.{Expr}
use Rattle.c_tree.specs.declared.limits.TheConstants.{MOST_CELLS}
use Rattle.c_rules.specs.declared.fault.Rule.TheVariants.{Undeclared, Mismatch, NotLvalue, ArgCount}
use Rattle.c_rules.specs.declared.meaning.Meaning.{Meaning}
use Rattle.c_rules.specs.declared.meaning.Meaning.TheVariants as meanings
use Rattle.c_rules.specs.declared.meaning.ObjectType.TheVariants.{Single, Array}
use Rattle.c_rules.specs.Outcome.{Outcome}
use Rattle.c_rules.specs.Kinds.{is_void}
use Rattle.c_rules.specs.Operands.{Operand}
use Rattle.c_rules.specs.Programs.{cell_count}
use Rattle.c_rules.specs.Scopes.{Scope, is_in, is_out, length_of_array}
use Rattle.c_rules.specs.Typing.{type_named, named_as, typed_name, bodies_before, array_length, prefixed, is_address, takes_address, of_object, word_at}
use Rattle.c_rules.specs.Typing.{typed_call, operand, Arguments, Operands, NoPort, Port, arguments_from, call_of}
use Rattle.c_rules.specs.Typing.{typing, typing_form, operands, port_arguments, constant_typing}
use Rattle.c_rules.proofs.Formed.Context.{Gives, broken, is, behind, unless}
use Rattle.c_rules.proofs.Formed.GivesLemmas.{anything, one_of}
use Rattle.c_rules.proofs.Formed.TypingLemmas.{constant_kept}
use Rattle.c_tree.specs.TypedOfWords.{UsesWords}
use Rattle.c_syntax.specs.Characters.{SaysWords, FormSaysWords, AllSayWords}
use Rattle.c_types_proof.proofs.ConstantWords.{IsWord}
use Rattle.c_types_proof.proofs.OperandWords.{number_words, picked_words, both_words, either_words, binary_words, unary_words, negated_words}
use Rattle.c_types_proof.proofs.OperandWords.{assigned_words, assigned_by_words, before_words, after_words, loaded_words, sized_words, address_words}
use Rattle.c_types_proof.proofs.OperandWords.{indexed_words, cast_words, OperandsUseWords, passed_words, input_words, output_words}

-- an object has no more cells than one may have
abbrev pub IsShort : Meaning → Type 0
IsShort (meanings.Object r type) = cell_count type ≤ MOST_CELLS
IsShort (meanings.Function type) = ⊤

abbrev pub KnowsShort : Scope → Type 0
KnowsShort s = (name : List ℕ) (m : Meaning) → s.meaning name ≡ Some m → IsShort m

object_words : (b : Bool) (at : ℕ) (x : Expr) → UsesWords x → Gives UsesWords (of_object b at x)
object_words b at x uses = unless b NotLvalue at _ (λ object. is x uses)

prefixed_words : (o : PrefixOp) (is_array : Bool) (at : ℕ) (x : Expr) → UsesWords x → Gives UsesWords (prefixed o is_array at x)
prefixed_words prefix.Address is_array at x uses = address_words is_array at x uses
prefixed_words prefix.Pointed is_array at x uses = loaded_words at x uses
prefixed_words prefix.Plus is_array at x uses = unary_words at x uses unary_op.Plus
prefixed_words prefix.Minus is_array at x uses = unary_words at x uses unary_op.Minus
prefixed_words prefix.Complement is_array at x uses = unary_words at x uses unary_op.Complement
prefixed_words prefix.Not is_array at x uses = negated_words at x uses

named_by : (at : ℕ) (m : Option Meaning) → Gives UsesWords (named_as at m)
named_by at None = broken Undeclared at
named_by at (Some (meanings.Object r (Single kind))) = is _ tt
named_by at (Some (meanings.Object r (Array kind length))) = is _ tt
named_by at (Some (meanings.Function type)) = broken Mismatch at

called_words : (function : ℕ) (m : Option Meaning) (at : ℕ) (xs : List Operand) → OperandsUseWords xs → Gives UsesWords (typed_call function m at xs)
called_words function None at xs each = broken Undeclared at
called_words function (Some (meanings.Object reference type)) at xs each = broken Mismatch at
called_words function (Some (meanings.Function type)) at xs each =
    behind _ _ (passed_words type.parameters at xs each) (λ es those. is _ those)

-- arguments, each of words
abbrev ArgumentsUseWords : Arguments → Type 0
ArgumentsUseWords (Operands xs) = OperandsUseWords xs
ArgumentsUseWords NoPort = ⊤
ArgumentsUseWords (Port class port xs) = OperandsUseWords xs

arguments_words : (name : List ℕ) (port : Outcome Arguments) (xs : Outcome (List Operand)) → Gives ArgumentsUseWords port → Gives OperandsUseWords xs
    → Gives ArgumentsUseWords (arguments_from name port xs)
arguments_words name port xs first second = one_of (is_in name || is_out name) _ _ first (behind _ _ second (λ xs those. is _ those))

module _ (s : Scope) (short : KnowsShort s) where
  length_few : (m : Option Meaning) → ((x : Meaning) → m ≡ Some x → IsShort x) → IsWord (length_of_array m)
  length_few None few = tt
  length_few (Some (meanings.Object r (Single kind))) few = tt
  length_few (Some (meanings.Object r (Array kind n))) few =
      let most : n ≤ MOST_CELLS = few (meanings.Object r (Array kind n)) refl in
      omega (arith, most)
  length_few (Some (meanings.Function type)) few = tt

  array_few : (e : Expression) → IsWord (array_length s e)
  array_few (tree.Node (tree.Name name) at) = length_few (s.meaning name) (short name)
  array_few e = tt

  named_words : (name : List ℕ) (at : ℕ) → Gives UsesWords (typed_name s name at)
  named_words name at = unless (is_in name || is_out name) Mismatch at _ (λ no_port. named_by at (s.meaning name))

  call_words : (name : List ℕ) (at : ℕ) (a : Arguments) → ArgumentsUseWords a → Gives UsesWords (call_of s name at a)
  call_words name at (Operands xs) each = called_words (bodies_before s name) (s.meaning name) at xs each
  call_words name at NoPort each = broken ArgCount at
  call_words name at (Port class port xs) each = one_of (is_in name) _ _ (input_words at class port xs) (output_words at class port xs each)

  mutual
    pub typed_words : (e : Expression) → SaysWords e → Gives UsesWords (typing s e)
    typed_words (tree.Node form at) says = form_words form at says

    form_words : (form : ExpressionForm) (at : ℕ) → FormSaysWords form → Gives UsesWords (typing_form s form at)
    form_words (tree.Name name) at says = named_words name at
    form_words (tree.Number value marked decimal) at says = number_words value marked decimal at
    form_words (tree.Character value) at says = is _ says
    form_words (tree.Index a b) at says =
        behind _ _ (typed_words a says.0) (λ x first. behind _ _ (typed_words b says.1) (λ y second. indexed_words at x y first second))
    form_words (tree.Call name es) at says =
        behind _ _ (arguments_words name _ _ (port_words es says) (operands_words es says)) (λ a each. call_words name at a each)
    form_words (tree.StepAfter up a) at says =
        behind _ _ (typed_words a says) (λ x first. behind _ _ (after_words at x first up) (λ y uses. object_words (is_address a) at y uses))
    form_words (tree.StepBefore up a) at says =
        behind _ _ (typed_words a says) (λ x first. behind _ _ (before_words at x first up) (λ y uses. object_words (is_address a) at y uses))
    form_words (tree.Prefix o a) at says =
        behind _ _ (typed_words a says) (λ x first. behind _ _ (prefixed_words o (is_some (array_length s a)) at x first)
        (λ y uses. object_words (takes_address o && is_address a) at y uses))
    form_words (tree.SizeofValue a) at says = behind _ _ (typed_words a says) (λ x first. sized_words at x first (array_length s a) (array_few a))
    form_words (tree.SizeofType t) at says =
        behind _ _ (anything (type_named t)) (λ kind there. unless (is_void kind) Mismatch t.specs.at _ (λ value. is _ (omega arith)))
    form_words (tree.Cast t a) at says =
        behind _ _ (anything (type_named t)) (λ kind there. behind _ _ (typed_words a says) (λ x first. cast_words kind at (operand a x) first))
    form_words (tree.Binary o a b) at says =
        behind _ _ (typed_words a says.0) (λ x first. behind _ _ (typed_words b says.1)
        (λ y second. binary_words at (operand a x) (operand b y) first second o))
    form_words (tree.And a b) at says =
        behind _ _ (typed_words a says.0) (λ x first. behind _ _ (typed_words b says.1) (λ y second. both_words at x y first second))
    form_words (tree.Or a b) at says =
        behind _ _ (typed_words a says.0) (λ x first. behind _ _ (typed_words b says.1) (λ y second. either_words at x y first second))
    form_words (tree.Conditional c a b) at says =
        behind _ _ (typed_words c says.0) (λ t tested. behind _ _ (typed_words a says.1) (λ x first. behind _ _ (typed_words b says.2)
        (λ y second. picked_words at (operand a x) (operand b y) first second t tested)))
    form_words (tree.Assign a b) at says =
        behind _ _ (typed_words a says.0) (λ x first. behind _ _ (typed_words b says.1) (λ y second.
        behind _ _ (assigned_words at x first (operand b y) second) (λ z uses. object_words (is_address a) at z uses)))
    form_words (tree.AssignOp o a b) at says =
        behind _ _ (typed_words a says.0) (λ x first. behind _ _ (typed_words b says.1) (λ y second.
        behind _ _ (assigned_by_words at x first o y second) (λ z uses. object_words (is_address a) at z uses)))
    form_words (tree.Comma a b) at says =
        behind _ _ (typed_words a says.0) (λ x first. behind _ _ (typed_words b says.1) (λ y second. is _ (first, second)))

    operands_words : (es : Expressions) → AllSayWords es → Gives OperandsUseWords (operands s es)
    operands_words no_argument says = is _ tt
    operands_words (argument e rest) says =
        behind _ _ (typed_words e says.0) (λ x first. behind _ _ (operands_words rest says.1) (λ xs others. is _ (first, others)))

    port_words : (es : Expressions) → AllSayWords es → Gives ArgumentsUseWords (port_arguments s es)
    port_words no_argument says = is _ tt
    port_words (argument e rest) says =
        behind _ _ (anything (constant_typing s e)) (λ x there. behind _ _ (anything (word_at e x)) (λ port word.
        behind _ _ (operands_words rest says.1) (λ xs others. is _ others)))

  pub constant_words : (e : Expression) → SaysWords e → Gives UsesWords (constant_typing s e)
  constant_words e says = constant_kept s e (typed_words e says)
