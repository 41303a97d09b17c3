-- Values as those of one type, and operators between values: what each rule makes of typed operands is typed.
use Rattle.std.proofs.Common.{◌≡◌, ℕ, Bool, true, false, not, ◌||◌, if◌then◌else◌, Some, None, refl, sym, ◌∙◌, subst}
use Rattle.std.specs.Prelude.{⊤}
use Rattle.c_tree.specs.declared.program.ScalarType.{ScalarType}
use Rattle.c_tree.specs.Store.{is_pointer}
use Rattle.c_tree.specs.TypedTree.{Kind, Expr, Node, Convert, Read, Load}
use Rattle.c_tree.specs.Eval.{kind_of, expression_place}
use Rattle.c_rules.specs.declared.fault.Rule.TheVariants.{Mismatch}
use Rattle.c_rules.specs.declared.class.Class.{Class}
use Rattle.c_rules.specs.declared.class.Class.TheVariants.{Nothing, Integer, Pointer}
use Rattle.c_rules.specs.Outcome.{Is, breaks}
use Rattle.c_rules.specs.Kinds.{class_of, same_kind, is_void_pointer, is_void}
use Rattle.c_rules.specs.Operands.{Operand, class_at, converted, null_of, pointer_given, given_as, given, Pair, common_of, balanced, null_like, converted_like, pointers_met, met_as, arms_as, picked}
use Rattle.c_tree.specs.Kinds.{IsScalarType, IsKind, IsInteger, IsPointer, IsValue}
use Rattle.c_tree.specs.WellFormed.{Names, IsAddressable, Converts, IsWellTyped}
use Rattle.c_rules.proofs.Formed.Context.{Gives, broken, is, behind, unless}
use Rattle.c_rules.proofs.Formed.GivesLemmas.{weaker}
use Rattle.c_rules.proofs.Formed.OperandKinds.{OfClass, of_class, pointer_is_value, value_unless_void, kinds_same, common_is_word, integer_converts, pointer_converts}

-- what this reads has an address. `IsWellTyped` doesn't say so of an object that is read; it is so of each name in scope, and `&` needs it.
abbrev pub HasAddress : Expr → Type 0
HasAddress (Node (Read v) kind at) = IsAddressable v
HasAddress (Node (Load e) kind at) = HasAddress e
HasAddress e = ⊤

module _ (names : Names) where
  -- an expression of which an operator may make another
  abbrev pub IsOperand : Expr → Type 0
  IsOperand x = IsWellTyped names x × HasAddress x

  pub kind_typed : (x : Expr) → IsWellTyped names x → IsKind (kind_of x)
  kind_typed (Node form kind at) typed = typed.0

  -- a value of this type
  abbrev IsOf : Kind → Expr → Type 0
  IsOf kind v = IsWellTyped names v × (kind_of v ≡ kind)

  null_typed : (kind : ScalarType) (e : Expr) → IsScalarType kind → IsOf (Some kind) (null_of kind e)
  null_typed kind e type = ((type, λ pointer. refl), refl)

  module _ (kind : ScalarType) (e : Expr) (type : IsScalarType kind) (typed : IsWellTyped names e) (converts : Converts (kind_of e) (Some kind)) where
    converted_by : (b : Bool) → same_kind (kind_of e) (Some kind) ≡ b → IsOf (Some kind) (if b then e else Node (Convert e) (Some kind) (expression_place e))
    converted_by true same = (typed, kinds_same (kind_of e) (Some kind) same)
    converted_by false same = ((type, (typed, converts)), refl)

    converted_typed : IsOf (Some kind) (converted kind e)
    converted_typed = converted_by (same_kind (kind_of e) (Some kind)) refl

  -- a value where one of this type is wanted
  module _ (kind : ScalarType) (at : ℕ) (x : Operand) (type : IsScalarType kind) (typed : IsWellTyped names x.value) where
    module _ (wanted : is_pointer kind ≡ true) (pointer : IsPointer (kind_of x.value)) where
      pointer_by : (null void same : Bool) → same_kind (kind_of x.value) (Some kind) ≡ same
          → Gives (IsOf (Some kind)) (if null then Is (null_of kind x.value)
          else if void then Is (converted kind x.value)
          else breaks (not same) Mismatch at (Is x.value))
      pointer_by true void same is_same = is _ (null_typed kind x.value type)
      pointer_by false true same is_same = is _ (converted_typed kind x.value type typed (pointer_converts (kind_of x.value) kind pointer wanted))
      pointer_by false false true is_same = is _ (typed, kinds_same (kind_of x.value) (Some kind) is_same)
      pointer_by false false false is_same = broken Mismatch at

      pointer_typed : Gives (IsOf (Some kind)) (pointer_given kind at x)
      pointer_typed = pointer_by x.null (is_void_pointer (Some kind) || is_void_pointer (kind_of x.value)) _ refl

    given_by : (c d : Class) → OfClass c (Some kind) → OfClass d (kind_of x.value) → Gives (IsOf (Some kind)) (given_as c d kind at x)
    given_by Integer Integer wanted class = is _ (converted_typed kind x.value type typed (integer_converts (kind_of x.value) kind class wanted))
    given_by Pointer Integer wanted class = unless (not x.null) Mismatch at _ (λ null. is _ (null_typed kind x.value type))
    given_by Pointer Pointer wanted class = pointer_typed wanted class
    given_by c d wanted class = broken Mismatch at

    pub given_value : Gives (λ v. IsWellTyped names v × (kind_of v ≡ Some kind)) (given kind at x)
    given_value = given_by (class_of (Some kind)) (class_at x) (of_class (Some kind)) (of_class (kind_of x.value))

  -- two values of one type
  abbrev AreAlike : Pair → Type 0
  AreAlike p = IsWellTyped names p.left × IsWellTyped names p.right × (kind_of p.left ≡ kind_of p.right)

  abbrev pub AreMet : Pair → Type 0
  AreMet p = AreAlike p × IsValue (kind_of p.left)

  -- two integers as their common type
  module _ (x y : Expr) (typed : IsWellTyped names x) (typed_other : IsWellTyped names y) (integer : IsInteger (kind_of x)) (other : IsInteger (kind_of y)) where
    abbrev common_type : ScalarType
    common_type = common_of (kind_of x) (kind_of y)

    left_balanced : IsOf (Some common_type) (balanced x y).left
    left_balanced =
        let word = common_is_word (kind_of x) (kind_of y) in converted_typed common_type x word.0 typed (integer_converts (kind_of x) common_type integer word.1)

    right_balanced : IsOf (Some common_type) (balanced x y).right
    right_balanced =
        let word = common_is_word (kind_of x) (kind_of y) in converted_typed common_type y word.0 typed_other (integer_converts (kind_of y) common_type other word.1)

    pub balanced_met : AreMet (balanced x y)
    balanced_met = ((left_balanced.0, right_balanced.0, left_balanced.1 ∙ sym right_balanced.1), subst IsValue (sym left_balanced.1) (tt {0}))

    pub balanced_integer : IsInteger (kind_of (balanced x y).left)
    balanced_integer = subst IsInteger (sym left_balanced.1) (common_is_word (kind_of x) (kind_of y)).1

  -- a value as one of the type of another
  null_alike : (x y : Expr) → IsPointer (kind_of x) → IsWellTyped names x → IsOf (kind_of x) (null_like x y)
  null_alike (Node form None at) y pointer typed = absurd pointer
  null_alike (Node form (Some kind) at) y pointer typed = null_typed kind y typed.0

  converted_alike : (x y : Expr) → IsPointer (kind_of x) → IsPointer (kind_of y) → IsWellTyped names x → IsWellTyped names y → IsOf (kind_of x) (converted_like x y)
  converted_alike (Node form None at) y pointer other typed typed_other = absurd pointer
  converted_alike (Node form (Some kind) at) y pointer other typed typed_other =
      converted_typed kind y typed.0 typed_other (pointer_converts (kind_of y) kind other pointer)

  module _ (at : ℕ) (x y : Operand) (typed : IsWellTyped names x.value) (typed_other : IsWellTyped names y.value) where
    left_kept : (v : Expr) → IsPointer (kind_of x.value) → IsOf (kind_of x.value) v → AreMet (record { left = x.value; right = v })
    left_kept v pointer like = ((typed, like.0, sym like.1), pointer_is_value (kind_of x.value) pointer)

    right_kept : (v : Expr) → IsPointer (kind_of y.value) → IsOf (kind_of y.value) v → AreMet (record { left = v; right = y.value })
    right_kept v pointer like = ((like.0, typed_other, like.1), subst IsValue (sym like.1) (pointer_is_value (kind_of y.value) pointer))

    module _ (pointer : IsPointer (kind_of x.value)) (other : IsPointer (kind_of y.value)) where
      pointers_by : (same null null_other void void_other : Bool) → same_kind (kind_of x.value) (kind_of y.value) ≡ same → Gives AreMet (
          if same then Is (record { left = x.value; right = y.value })
          else if null_other then Is (record { left = x.value; right = null_like x.value y.value })
          else if null then Is (record { left = null_like y.value x.value; right = y.value })
          else if void then Is (record { left = x.value; right = converted_like x.value y.value })
          else breaks (not void_other) Mismatch at (Is (record { left = converted_like y.value x.value; right = y.value })))
      pointers_by true null null_other void void_other is_same =
          is _ (left_kept y.value pointer (typed_other, sym (kinds_same (kind_of x.value) (kind_of y.value) is_same)))
      pointers_by false null true void void_other is_same = is _ (left_kept _ pointer (null_alike x.value y.value pointer typed))
      pointers_by false true false void void_other is_same = is _ (right_kept _ other (null_alike y.value x.value other typed_other))
      pointers_by false false false true void_other is_same = is _ (left_kept _ pointer (converted_alike x.value y.value pointer other typed typed_other))
      pointers_by false false false false true is_same = is _ (right_kept _ other (converted_alike y.value x.value other pointer typed_other typed))
      pointers_by false false false false false is_same = broken Mismatch at

      pointers_typed : Gives AreMet (pointers_met at x y)
      pointers_typed = pointers_by _ x.null y.null (is_void_pointer (kind_of x.value)) (is_void_pointer (kind_of y.value)) refl

    pub met_typed : (c d : Class) → OfClass c (kind_of x.value) → OfClass d (kind_of y.value) → Gives AreMet (met_as c d at x y)
    met_typed Integer Integer class other = is _ (balanced_met x.value y.value typed typed_other class other)
    met_typed Pointer Pointer class other = pointers_typed class other
    met_typed Pointer Integer class other = unless (not y.null) Mismatch at _ (λ null. is _ (left_kept _ class (null_alike x.value y.value class typed)))
    met_typed Integer Pointer class other = unless (not x.null) Mismatch at _ (λ null. is _ (right_kept _ other (null_alike y.value x.value other typed_other)))
    met_typed c d class other = broken Mismatch at

    arms_typed : (c d : Class) → OfClass c (kind_of x.value) → OfClass d (kind_of y.value) → Gives AreAlike (arms_as c d at x y)
    arms_typed Nothing Nothing class other = is _ (typed, typed_other, class ∙ sym other)
    arms_typed c d class other = weaker (met_as c d at x y) (met_typed c d class other) (λ p both. both.0)

    pub picked_typed : (test : Expr) → IsWellTyped names test → Gives IsOperand (picked at test x y)
    picked_typed test tested = unless (is_void (kind_of test)) Mismatch at _ (λ value.
        behind _ _ (arms_typed _ _ (of_class (kind_of x.value)) (of_class (kind_of y.value)))
        (λ p both. is _ ((kind_typed p.left both.0, (tested, both.0, both.1, value_unless_void (kind_of test) value, refl, sym both.2)), tt {0})))
