-- Calls and ports: what each rule makes of typed operands is typed.
use Rattle.std.proofs.Common.{◌≡◌, ℕ, ◌<◌, ◌≤◌, nat_lt, true, false, not, ◌||◌, List, [], ◌∷◌, map, Option, Some, None, refl, sym, ap₂, subst, true≢false, ltb-false, arith}
use Rattle.std.specs.Prelude.{⊤, All}
use Rattle.std.proofs.lemmas.Bool.{or_parts, not-false}
use Rattle.std.proofs.lemmas.List.Elements.{All-head, All-tail}
use Rattle.c_tree.specs.declared.program.ScalarType.{ScalarType}
use Rattle.c_tree.specs.TypedTree.{Kind, Node, Exprs, In, Out}
use Rattle.c_tree.specs.Eval.{kind_of}
use Rattle.c_rules.specs.declared.fault.Rule.TheVariants.{Undeclared, Mismatch, BadPort, ArgCount}
use Rattle.c_rules.specs.declared.class.Class.{Class}
use Rattle.c_rules.specs.declared.class.Class.TheVariants.{Nothing, Integer, Pointer}
use Rattle.c_rules.specs.declared.meaning.FunctionType.{FunctionType}
use Rattle.c_rules.specs.declared.meaning.Meaning.{Meaning}
use Rattle.c_rules.specs.declared.meaning.Meaning.TheVariants as meanings
use Rattle.c_rules.specs.Kinds.{int}
use Rattle.c_rules.specs.Outcome.{Is}
use Rattle.c_rules.specs.Operands.{Operand, class_at, any_void, passed, is_integer, no_more, input, is_word_first, sent, output}
use Rattle.c_rules.specs.Typing.{typed_call}
use Rattle.c_tree.specs.Kinds.{IsScalarType, IsInteger}
use Rattle.c_tree.specs.WellFormed.{Signature, Names, IsWellTyped, AreWellTyped, IsCall, kinds_of}
use Rattle.c_rules.proofs.Formed.Context.{Gives, broken, is, behind, unless, signature_of, IsMeaning}
use Rattle.c_rules.proofs.Formed.OperandKinds.{OfClass, of_class}
use Rattle.c_rules.proofs.Formed.OperandTypes.{IsOperand, given_value}

integer_class : (c : Class) (kind : Kind) → OfClass c kind → is_integer c ≡ true → IsInteger kind
integer_class Integer kind class integer = class
integer_class Pointer kind class integer = absurd (true≢false (sym integer))
integer_class Nothing kind class integer = absurd (true≢false (sym integer))

module _ (names : Names) where
  -- operands, each of which is typed
  abbrev pub AreOperands : List Operand → Type 0
  AreOperands [] = ⊤
  AreOperands (x ∷ xs) = IsWellTyped names x.value × AreOperands xs

  -- arguments of these types
  abbrev AreOf : List ScalarType → Exprs → Type 0
  AreOf kinds es = AreWellTyped names es × (kinds_of es ≡ map Some kinds)

  passed_typed : (kinds : List ScalarType) (at : ℕ) (xs : List Operand) → All IsScalarType kinds → AreOperands xs → Gives (AreOf kinds) (passed kinds at xs)
  passed_typed [] at [] types typed = is _ (tt {0}, refl)
  passed_typed [] at (x ∷ xs) types typed = unless (any_void (x ∷ xs)) Mismatch at _ (λ values. broken ArgCount at)
  passed_typed (kind ∷ kinds) at [] types typed = broken ArgCount at
  passed_typed (kind ∷ kinds) at (x ∷ xs) types typed =
      behind _ _ (given_value names kind at x (All-head IsScalarType kind kinds types) typed.0) (λ v of.
      behind _ _ (passed_typed kinds at xs (All-tail IsScalarType kind kinds types) typed.1) (λ vs those. is _ ((of.0, those.0), ap₂ ◌∷◌ of.1 those.1)))

  call_typed : (function : Option Signature) (kinds : List Kind) (type : FunctionType) → ((s : Signature) → function ≡ Some s → s ≡ signature_of type)
      → kinds ≡ map Some type.parameters → IsCall function kinds type.result
  call_typed None kinds type same given = tt {0}
  call_typed (Some s) kinds type same given = subst (λ s. (kinds ≡ s.parameters) × (type.result ≡ s.result)) (sym (same s refl)) (given, refl)

  pub called_typed : (function : ℕ) (m : Option Meaning) (at : ℕ) (xs : List Operand) → ((meaning : Meaning) → m ≡ Some meaning → IsMeaning names function meaning)
      → AreOperands xs → Gives (IsOperand names) (typed_call function m at xs)
  called_typed function None at xs means typed = broken Undeclared at
  called_typed function (Some (meanings.Object reference type)) at xs means typed = broken Mismatch at
  called_typed function (Some (meanings.Function type)) at xs means typed =
      let meaning = means (meanings.Function type) refl in
      behind _ _ (passed_typed type.parameters at xs meaning.2 typed)
      (λ es those. is _ ((meaning.1, (those.0, call_typed (names.function function) (kinds_of es) type meaning.0 those.1)), tt {0}))

  -- ports
  module _ (at : ℕ) (class : Class) (port : ℕ) where
    port_within : nat_lt 15 port ≡ false → port < 16
    port_within within = let most : port ≤ 15 = ltb-false 15 port within in omega arith

    received : (xs : List Operand) → port < 16 → Gives (IsOperand names) (no_more at xs (Is (Node (In port) (Some int) at)))
    received [] within = is _ ((tt {0}, (within, refl)), tt {0})
    received (x ∷ xs) within = broken ArgCount at

    pub input_typed : (xs : List Operand) → Gives (IsOperand names) (input at class port xs)
    input_typed xs = unless (not (is_integer class) || any_void xs) Mismatch at _ (λ values.
        unless (nat_lt 15 port) BadPort at _ (λ within. received xs (port_within within)))

    written_out : (x : Operand) (xs : List Operand) → IsWellTyped names x.value → IsInteger (kind_of x.value) → port < 16
        → Gives (IsOperand names) (no_more at xs (Is (Node (Out port x.value) None at)))
    written_out x [] typed integer within = is _ ((tt {0}, (typed, integer, within, refl)), tt {0})
    written_out x (y ∷ ys) typed integer within = broken ArgCount at

    sent_typed : (xs : List Operand) → AreOperands xs → is_word_first xs ≡ true → port < 16 → Gives (IsOperand names) (sent at port xs)
    sent_typed [] typed word within = broken ArgCount at
    sent_typed (x ∷ xs) typed word within = written_out x xs typed.0 (integer_class (class_at x) (kind_of x.value) (of_class (kind_of x.value)) word) within

    pub output_typed : (xs : List Operand) → AreOperands xs → Gives (IsOperand names) (output at class port xs)
    output_typed xs typed = unless (not (is_integer class) || not (is_word_first xs) || any_void xs) Mismatch at _ (λ values.
        let word = (or_parts _ _ (or_parts _ _ values).0).1 in
        unless (nat_lt 15 port) BadPort at _ (λ within. sent_typed xs typed (not-false _ word) (port_within within)))
