-- The typed tree of an expression is typed, in a scope whose names stand for what they say.
use Rattle.std.proofs.Common.{◌≡◌, ℕ, Bool, ◌&&◌, ◌||◌, List, Option, Some, None, is_some, refl}
use Rattle.std.specs.Prelude.{⊤}
use Rattle.c_tree.specs.c_syntax.declared.operator.UnaryOp.TheVariants as unary_op
use Rattle.c_tree.specs.c_syntax.declared.syntax.PrefixOp.{PrefixOp}
use Rattle.c_tree.specs.c_syntax.declared.syntax.PrefixOp.TheVariants as prefix
use Rattle.c_tree.specs.c_syntax.SyntaxTree as tree
use Rattle.c_tree.specs.c_syntax.SyntaxTree.{TypeTree, Expression, ExpressionForm, Expressions, no_argument, argument}
use Rattle.c_tree.specs.TypedTree.{Expr}
use Rattle.c_rules.specs.declared.fault.Rule.TheVariants.{Undeclared, Mismatch, NotLvalue, NotConstant, ArgCount}
use Rattle.c_rules.specs.declared.meaning.Meaning.{Meaning}
use Rattle.c_rules.specs.declared.meaning.Meaning.TheVariants as meanings
use Rattle.c_rules.specs.declared.meaning.ObjectType.TheVariants.{Single, Array}
use Rattle.c_rules.specs.Outcome.{Outcome, Is, Broken, ◌>>=◌}
use Rattle.c_rules.specs.Kinds.{int, unsigned, is_void}
use Rattle.c_rules.specs.Operands.{Operand}
use Rattle.c_rules.specs.Scopes.{Scope, is_in, is_out}
use Rattle.c_rules.specs.Typing.{plain, type_named, named_as, typed_name, bodies_before, array_length, prefixed, is_address, takes_address, of_object, is_of_calls, no_constant, word_at, operand, Arguments, Operands, NoPort, Port, arguments_from, call_of, typing, typing_form, operands, port_arguments, constant_typing}
use Rattle.c_tree.specs.Kinds.{IsKind}
use Rattle.c_tree.specs.WellFormed.{Names, IsWellTyped}
use Rattle.c_rules.proofs.Formed.Context.{Gives, Fits, IsMeaning, broken, is, behind, unless}
use Rattle.c_rules.proofs.Formed.GivesLemmas.{anything, weaker, one_of}
use Rattle.c_rules.proofs.Formed.OperandKinds.{starred_is_kind, pointer_is_type}
use Rattle.c_rules.proofs.Formed.OperandTypes.{IsOperand, picked_typed}
use Rattle.c_rules.proofs.Formed.OperatorTypes.{both_typed, either_typed, unary_typed, negated_typed, binary_typed}
use Rattle.c_rules.proofs.Formed.TargetTypes.{points_to, constant_typed, number_typed, assigned_typed, assigned_by_typed, before_typed, after_typed, comma_typed, sized_typed, address_typed, loaded_typed, indexed_typed, cast_typed}
use Rattle.c_rules.proofs.Formed.CallTypes.{AreOperands, called_typed, input_typed, output_typed}

-- an expression that has to be constant has what its tree has elsewhere
own_kept : {P : Expr → Type 0} (o : Outcome Expr) → Gives P o → Gives P (no_constant o)
own_kept (Is x) gives = gives
own_kept (Broken rule at) gives = one_of (is_of_calls rule) _ _ (broken NotConstant at) (broken rule at)

call_kept : {A : Type 0} {P : Expr → Type 0} (o : Outcome A) (next : A → Outcome Expr) → Gives P (o >>= next) → Gives P (o >>= λ a. no_constant (next a))
call_kept (Is a) next gives = own_kept (next a) gives
call_kept (Broken rule at) next gives = broken rule at

pub constant_kept : {P : Expr → Type 0} (s : Scope) (e : Expression) → Gives P (typing s e) → Gives P (constant_typing s e)
constant_kept s (tree.Node (tree.Call name es) at) gives = call_kept (arguments_from name (port_arguments s es) (operands s es)) (λ a. call_of s name at a) gives
constant_kept s (tree.Node form at) gives = gives

type_is_kind : (t : TypeTree) → Gives IsKind (type_named t)
type_is_kind t = behind _ _ (anything (plain t.specs)) (λ b there. is _ (starred_is_kind b t.stars))

module _ (names : Names) where
  object_typed : (b : Bool) (at : ℕ) (x : Expr) → IsOperand names x → Gives (IsOperand names) (of_object b at x)
  object_typed b at x typed = unless b NotLvalue at _ (λ object. is x typed)

  prefixed_typed : (o : PrefixOp) (is_array : Bool) (at : ℕ) (x : Expr) → IsOperand names x → Gives (IsOperand names) (prefixed o is_array at x)
  prefixed_typed prefix.Address is_array at x typed = address_typed names at x typed is_array
  prefixed_typed prefix.Pointed is_array at x typed = loaded_typed names at x typed
  prefixed_typed prefix.Plus is_array at x typed = unary_typed names at x typed.0 unary_op.Plus
  prefixed_typed prefix.Minus is_array at x typed = unary_typed names at x typed.0 unary_op.Minus
  prefixed_typed prefix.Complement is_array at x typed = unary_typed names at x typed.0 unary_op.Complement
  prefixed_typed prefix.Not is_array at x typed = negated_typed names at x typed.0

  named_by : (n at : ℕ) (m : Option Meaning) → ((meaning : Meaning) → m ≡ Some meaning → IsMeaning names n meaning) → Gives (IsOperand names) (named_as at m)
  named_by n at None means = broken Undeclared at
  named_by n at (Some (meanings.Object r (Single kind))) means = let object = means (meanings.Object r (Single kind)) refl in is _ ((object.1, object.0), object.2)
  named_by n at (Some (meanings.Object r (Array kind length))) means =
      let object = means (meanings.Object r (Array kind length)) refl in is _ ((pointer_is_type kind, (object.2, points_to _ _ object.0)), tt {0})
  named_by n at (Some (meanings.Function type)) means = broken Mismatch at

  -- arguments, each of which is typed
  abbrev AreArguments : Arguments → Type 0
  AreArguments (Operands xs) = AreOperands names xs
  AreArguments NoPort = ⊤
  AreArguments (Port class port xs) = AreOperands names xs

  are_arguments : (name : List ℕ) (port : Outcome Arguments) (xs : Outcome (List Operand)) → Gives AreArguments port → Gives (AreOperands names) xs
      → Gives AreArguments (arguments_from name port xs)
  are_arguments name port xs first second = one_of (is_in name || is_out name) _ _ first (behind _ _ second (λ xs those. is _ those))

  module _ (s : Scope) (fits : Fits names s) where
    named_typed : (name : List ℕ) (at : ℕ) → Gives (IsOperand names) (typed_name s name at)
    named_typed name at = unless (is_in name || is_out name) Mismatch at _ (λ no_port. named_by (bodies_before s name) at (s.meaning name) (fits name))

    call_of_typed : (name : List ℕ) (at : ℕ) (a : Arguments) → AreArguments a → Gives (IsOperand names) (call_of s name at a)
    call_of_typed name at (Operands xs) typed = called_typed names (bodies_before s name) (s.meaning name) at xs (fits name) typed
    call_of_typed name at NoPort typed = broken ArgCount at
    call_of_typed name at (Port class port xs) typed = one_of (is_in name) _ _ (input_typed names at class port xs) (output_typed names at class port xs typed)

    mutual
      typed_operand : (e : Expression) → Gives (IsOperand names) (typing s e)
      typed_operand (tree.Node form at) = typed_form form at

      typed_form : (form : ExpressionForm) (at : ℕ) → Gives (IsOperand names) (typing_form s form at)
      typed_form (tree.Name name) at = named_typed name at
      typed_form (tree.Number value marked decimal) at = number_typed names value marked decimal at
      typed_form (tree.Character value) at = is _ (constant_typed names value at int (tt {0}) refl)
      typed_form (tree.Index a b) at = behind _ _ (typed_operand a) (λ x typed. behind _ _ (typed_operand b) (λ y other. indexed_typed names at x y typed.0 other.0))
      typed_form (tree.Call name es) at = behind _ _ (are_arguments name _ _ (typed_port es) (typed_operands es)) (λ a typed. call_of_typed name at a typed)
      typed_form (tree.StepAfter up a) at =
          behind _ _ (typed_operand a) (λ x typed. behind _ _ (after_typed names at x typed.0 up) (λ y there. object_typed (is_address a) at y there))
      typed_form (tree.StepBefore up a) at =
          behind _ _ (typed_operand a) (λ x typed. behind _ _ (before_typed names at x typed.0 up) (λ y there. object_typed (is_address a) at y there))
      typed_form (tree.Prefix o a) at =
          behind _ _ (typed_operand a) (λ x typed. behind _ _ (prefixed_typed o (is_some (array_length s a)) at x typed)
          (λ y there. object_typed (takes_address o && is_address a) at y there))
      typed_form (tree.SizeofValue a) at = behind _ _ (typed_operand a) (λ x typed. sized_typed names at x typed.0 (array_length s a))
      typed_form (tree.SizeofType t) at =
          behind _ _ (type_is_kind t) (λ kind there. unless (is_void kind) Mismatch t.specs.at _ (λ value. is _ (constant_typed names 1 at unsigned (tt {0}) refl)))
      typed_form (tree.Cast t a) at =
          behind _ _ (type_is_kind t) (λ kind there. behind _ _ (typed_operand a) (λ x typed. cast_typed names at (operand a x) typed.0 kind there))
      typed_form (tree.Binary o a b) at =
          behind _ _ (typed_operand a) (λ x typed. behind _ _ (typed_operand b) (λ y other. binary_typed names at (operand a x) (operand b y) typed.0 other.0 o))
      typed_form (tree.And a b) at = behind _ _ (typed_operand a) (λ x typed. behind _ _ (typed_operand b) (λ y other. both_typed names at x y typed.0 other.0))
      typed_form (tree.Or a b) at = behind _ _ (typed_operand a) (λ x typed. behind _ _ (typed_operand b) (λ y other. either_typed names at x y typed.0 other.0))
      typed_form (tree.Conditional c a b) at =
          behind _ _ (typed_operand c) (λ t tested. behind _ _ (typed_operand a) (λ x typed. behind _ _ (typed_operand b)
          (λ y other. picked_typed names at (operand a x) (operand b y) typed.0 other.0 t tested.0)))
      typed_form (tree.Assign a b) at =
          behind _ _ (typed_operand a) (λ x typed. behind _ _ (typed_operand b) (λ y other.
          behind _ _ (assigned_typed names at x typed.0 (operand b y) other.0) (λ z there. object_typed (is_address a) at z there)))
      typed_form (tree.AssignOp o a b) at =
          behind _ _ (typed_operand a) (λ x typed. behind _ _ (typed_operand b) (λ y other.
          behind _ _ (assigned_by_typed names at x typed.0 o y other.0) (λ z there. object_typed (is_address a) at z there)))
      typed_form (tree.Comma a b) at =
          behind _ _ (typed_operand a) (λ x typed. behind _ _ (typed_operand b) (λ y other. is _ (comma_typed names at x typed.0 y other.0)))

      typed_operands : (es : Expressions) → Gives (AreOperands names) (operands s es)
      typed_operands no_argument = is _ (tt {0})
      typed_operands (argument e rest) = behind _ _ (typed_operand e) (λ x typed. behind _ _ (typed_operands rest) (λ xs those. is _ (typed.0, those)))

      typed_port : (es : Expressions) → Gives AreArguments (port_arguments s es)
      typed_port no_argument = is _ (tt {0})
      typed_port (argument e rest) =
          behind _ _ (anything (constant_typing s e)) (λ x there. behind _ _ (anything (word_at e x)) (λ port word.
          behind _ _ (typed_operands rest) (λ xs those. is _ those)))

    pub typed_expression : (e : Expression) → Gives (IsWellTyped names) (typing s e)
    typed_expression e = weaker (typing s e) (typed_operand e) (λ x typed. typed.0)
