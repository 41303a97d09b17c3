-- What is written, read through a pointer, cast and counted: what each rule makes of typed operands is typed.
use Rattle.std.proofs.Common.{◌≡◌, ℕ, Bool, true, false, not, nat_lt, ◌-◌, ◌&&◌, ◌||◌, if◌then◌else◌, Option, Some, None, refl, sym, ◌∙◌, subst, true≢false}
use Rattle.std.proofs.lemmas.Bool.{not-false, not-true}
use Rattle.c_tree.specs.declared.program.ScalarType.{ScalarType}
use Rattle.c_tree.specs.c_syntax.declared.operator.BinaryOp.{BinaryOp}
use Rattle.c_tree.specs.Store.{is_pointer}
use Rattle.c_tree.specs.TypedTree.{Kind, Expr, Node, Lvalue, Named, At, Const, Read, Load}
use Rattle.c_tree.specs.Eval.{kind_of}
use Rattle.c_rules.specs.declared.fault.Rule.TheVariants.{Mismatch, NotLvalue, LongConstant}
use Rattle.c_rules.specs.declared.class.Class.{Class}
use Rattle.c_rules.specs.declared.class.Class.TheVariants.{Nothing, Integer, Pointer}
use Rattle.c_rules.specs.Outcome.{Is, Broken}
use Rattle.c_rules.specs.Kinds.{int, unsigned, void_pointer, class_of, is_void, same_type, pointer_to}
use Rattle.c_rules.specs.Operands.{Operand, class_at, typed_number, lvalue_of, written, assigned_as, assigned, takes, assigned_by, stepped_before, stepped_after, address_of, address, target_of, loaded_as, loaded, indexed, cast_as, cast, typed_comma as comma, sized}
use Rattle.c_tree.specs.Kinds.{IsScalarType, IsKind}
use Rattle.c_tree.specs.WellFormed.{is_comparison, Shape, Names, PointsTo, Updates, Updates_word, Updates_pointer, IsWellTyped, IsTarget}
use Rattle.c_rules.proofs.Formed.Context.{Gives, broken, is, behind, unless}
use Rattle.c_rules.proofs.Formed.OperandKinds.{OfClass, of_class, integer_converts, pointer_converts, starred_is_kind, pointed_leads, pointer_is_type}
use Rattle.c_rules.proofs.Formed.OperandTypes.{IsOperand, kind_typed, given_value}
use Rattle.c_rules.proofs.Formed.OperatorTypes.{sum_typed}

updates : (o : BinaryOp) (c d : Class) {k l : Kind} → OfClass c k → OfClass d l → takes o c d ≡ true → Updates o k l
updates o Integer Integer class other row = Updates_word (not-true (is_comparison o) row) class other
updates o Pointer Integer class other row = Updates_pointer row class other
updates o c d class other row = absurd (true≢false (sym row))

pub points_to : (object : Option Shape) (shape : Shape) → object ≡ Some shape → PointsTo object (Some (pointer_to shape.kind))
points_to object shape there = subst (λ o. PointsTo o (Some (pointer_to shape.kind))) (sym there) refl

module _ (names : Names) where
  pub constant_typed : (w at : ℕ) (kind : ScalarType) → IsScalarType kind → is_pointer kind ≡ false → IsOperand names (Node (Const w) (Some kind) at)
  constant_typed w at kind type word = ((type, λ pointer. absurd (true≢false (sym pointer ∙ word))), tt {0})

  number_by : (value at : ℕ) (long marked short decimal : Bool) → Gives (IsOperand names) (
      if long then Broken LongConstant at
      else if marked then Is (Node (Const value) (Some unsigned) at)
      else if short then Is (Node (Const value) (Some int) at)
      else if decimal then Broken LongConstant at
      else Is (Node (Const value) (Some unsigned) at))
  number_by value at true marked short decimal = broken LongConstant at
  number_by value at false true short decimal = is _ (constant_typed value at unsigned (tt {0}) refl)
  number_by value at false false true decimal = is _ (constant_typed value at int (tt {0}) refl)
  number_by value at false false false true = broken LongConstant at
  number_by value at false false false false = is _ (constant_typed value at unsigned (tt {0}) refl)

  pub number_typed : (value : ℕ) (marked decimal : Bool) (at : ℕ) → Gives (IsOperand names) (typed_number value marked decimal at)
  number_typed value marked decimal at = number_by value at (nat_lt 65535 value) marked (nat_lt value 32768) decimal

  -- a node over what is written
  written_typed : (at : ℕ) (x : Expr) (node : Lvalue → Expr) → IsWellTyped names x → ((l : Lvalue) → IsTarget names l (kind_of x) → IsOperand names (node l))
      → Gives (IsOperand names) (written at (lvalue_of x) node)
  written_typed at (Node (Read v) kind place) node typed rest = is _ (rest (Named v place) typed.1)
  written_typed at (Node (Load e) kind place) node typed rest = is _ (rest (At e place) typed.1)
  written_typed at x node typed rest = broken NotLvalue at

  module _ (at : ℕ) (x : Expr) (typed : IsWellTyped names x) where
    assigned_to : (y : Operand) (kind : Kind) → kind_of x ≡ kind → IsWellTyped names y.value → Gives (IsOperand names) (assigned_as kind at x y)
    assigned_to y None same typed_other = broken Mismatch at
    assigned_to y (Some kind) same typed_other =
        let type : IsScalarType kind = subst IsKind same (kind_typed names x typed) in
        behind _ _ (given_value names kind at y type typed_other) (λ v of. written_typed at x _ typed
        (λ l target. ((type, (subst (IsTarget names l) same target, of.0, of.1)), tt {0})))

    pub assigned_typed : (y : Operand) → IsWellTyped names y.value → Gives (IsOperand names) (assigned at x y)
    assigned_typed y typed_other = assigned_to y (kind_of x) refl typed_other

    pub assigned_by_typed : (o : BinaryOp) (y : Expr) → IsWellTyped names y → Gives (IsOperand names) (assigned_by o at x y)
    assigned_by_typed o y typed_other = unless (not (takes o (class_of (kind_of x)) (class_of (kind_of y)))) Mismatch at _ (λ taken.
        written_typed at x _ typed (λ l target.
        ((kind_typed names x typed, (target, typed_other, updates o _ _ (of_class (kind_of x)) (of_class (kind_of y)) (not-false _ taken))), tt {0})))

    pub before_typed : (up : Bool) → Gives (IsOperand names) (stepped_before up at x)
    before_typed up = unless (is_void (kind_of x)) Mismatch at _ (λ value. written_typed at x _ typed (λ l target. ((kind_typed names x typed, target), tt {0})))

    pub after_typed : (up : Bool) → Gives (IsOperand names) (stepped_after up at x)
    after_typed up = unless (is_void (kind_of x)) Mismatch at _ (λ value. written_typed at x _ typed (λ l target. ((kind_typed names x typed, target), tt {0})))

    pub comma_typed : (y : Expr) → IsWellTyped names y → IsOperand names (comma at x y)
    comma_typed y typed_other = ((kind_typed names y typed_other, (typed, typed_other, refl)), tt {0})

    pub sized_typed : (length : Option ℕ) → Gives (IsOperand names) (sized length at x)
    sized_typed (Some length) = is _ (constant_typed length at unsigned (tt {0}) refl)
    sized_typed None = unless (is_void (kind_of x)) Mismatch at _ (λ value. is _ (constant_typed 1 at unsigned (tt {0}) refl))

  -- addresses, and what a pointer points to
  taken_typed : (at : ℕ) (x : Expr) → IsOperand names x → Gives (IsOperand names) (address_of (lvalue_of x) (kind_of x) at)
  taken_typed at (Node (Read v) None place) typed = absurd typed.0.1
  taken_typed at (Node (Read v) (Some kind) place) typed =
      is _ ((pointer_is_type kind, (typed.1, points_to _ _ typed.0.1)), tt {0})
  taken_typed at (Node (Load e) kind place) typed = is _ (typed.0.1.0, typed.1)
  taken_typed at x typed = broken NotLvalue at

  module _ (at : ℕ) (x : Expr) (typed : IsOperand names x) where
    pub address_typed : (is_array : Bool) → Gives (IsOperand names) (address is_array at x)
    address_typed is_array = unless (is_array || is_void (kind_of x)) Mismatch at _ (λ object. taken_typed at x typed)

    loaded_by : (kind : Kind) (c : Class) (target : Kind) → kind_of x ≡ kind → OfClass c kind → target_of kind c ≡ target → Gives (IsOperand names) (loaded_as target at x)
    loaded_by kind c None same class target = broken Mismatch at
    loaded_by (Some kind) Pointer (Some type) same class target =
        let there : IsScalarType type = subst IsKind target (starred_is_kind kind.base (kind.stars - 1)) in
        is _ ((there, (typed.0, same ∙ pointed_leads kind type class target)), typed.1)
    loaded_by (Some kind) Nothing (Some type) same class target = absurd (cc class)
    loaded_by kind c (Some type) same class target = absurd (cc target)

    pub loaded_typed : Gives (IsOperand names) (loaded at x)
    loaded_typed = loaded_by _ _ _ refl (of_class (kind_of x)) refl

  pub indexed_typed : (at : ℕ) (x y : Expr) → IsWellTyped names x → IsWellTyped names y → Gives (IsOperand names) (indexed at x y)
  indexed_typed at x y typed typed_other =
      behind _ _ (sum_typed names at x y typed typed_other _ _ (of_class (kind_of x)) (of_class (kind_of y))) (λ z there. loaded_typed at z there)

  -- casts
  module _ (at : ℕ) (x : Operand) (typed : IsWellTyped names x.value) where
    cast_by : (kind : ScalarType) (c d : Class) → IsScalarType kind → OfClass c (Some kind) → OfClass d (kind_of x.value) → Gives (IsOperand names) (cast_as c d kind at x)
    cast_by kind Integer Integer type wanted class = is _ ((type, (typed, integer_converts (kind_of x.value) kind class wanted)), tt {0})
    cast_by kind Pointer Pointer type wanted class = is _ ((type, (typed, pointer_converts (kind_of x.value) kind class wanted)), tt {0})
    cast_by kind Pointer Integer type wanted class = unless (not (x.null && same_type kind void_pointer)) Mismatch at _ (λ null. is _ ((type, λ pointer. refl), tt {0}))
    cast_by kind c d type wanted class = broken Mismatch at

    pub cast_typed : (kind : Kind) → IsKind kind → Gives (IsOperand names) (cast kind at x)
    cast_typed None there = is _ ((tt {0}, (typed, tt {0})), tt {0})
    cast_typed (Some kind) there = cast_by kind (class_of (Some kind)) (class_at x) there (of_class (Some kind)) (of_class (kind_of x.value))
