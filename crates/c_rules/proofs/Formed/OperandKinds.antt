-- What the classes of types and the tests on types tell.
use Rattle.std.proofs.Common.{◌≡◌, ℕ, zero, suc, ◌+◌, ◌-◌, ◌<◌, Bool, true, false, if◌then◌else◌, Some, None, refl, ap, ap₂, sym, subst, ◌∙◌, true≢false, ltb-true, lt-ltb, eqb-true, arith}
use Rattle.std.proofs.lemmas.Bool.{and_parts}
use Rattle.c_tree.specs.declared.program.Base.{Base}
use Rattle.c_tree.specs.declared.program.Base.TheVariants as base
use Rattle.c_tree.specs.declared.program.ScalarType.{ScalarType}
use Rattle.c_tree.specs.Store.{is_pointer}
use Rattle.c_tree.specs.TypedTree.{Kind}
use Rattle.c_rules.specs.declared.class.Class.{Class}
use Rattle.c_rules.specs.declared.class.Class.TheVariants.{Nothing, Integer, Pointer}
use Rattle.c_rules.specs.Kinds.{int, unsigned, void_pointer, class_of, same_base, same_type, same_kind, is_void, pointer_to, starred, pointed}
use Rattle.c_rules.specs.Operands.{common_of}
use Rattle.c_tree.specs.Kinds.{HasStars, IsScalarType, IsKind, IsInteger, IsPointer, IsValue}
use Rattle.c_tree.specs.WellFormed.{Converts, Leads}

-- a type of this class
abbrev pub OfClass : Class → Kind → Type 0
OfClass Nothing kind = kind ≡ None
OfClass Integer kind = IsInteger kind
OfClass Pointer kind = IsPointer kind

class_by : (b : Bool) (kind : ScalarType) → is_pointer kind ≡ b → OfClass (if b then Pointer else Integer) (Some kind)
class_by true kind is = is
class_by false kind is = is

pub of_class : (kind : Kind) → OfClass (class_of kind) kind
of_class None = refl
of_class (Some kind) = class_by (is_pointer kind) kind refl

-- values
pub pointer_is_value : (kind : Kind) → IsPointer kind → IsValue kind
pointer_is_value None is = is
pointer_is_value (Some kind) is = tt {0}

pub value_unless_void : (kind : Kind) → is_void kind ≡ false → IsValue kind
value_unless_void None is = absurd (true≢false is)
value_unless_void (Some kind) is = tt {0}

-- types that are the same by their tests
same_bases : (a b : Base) → same_base a b ≡ true → a ≡ b
same_bases base.Void base.Void is = refl
same_bases base.Int base.Int is = refl
same_bases base.Unsigned base.Unsigned is = refl
same_bases a b is = absurd (true≢false (sym is))

abbrev type_with : Base → ℕ → ScalarType
type_with b stars = record { base = b; stars = stars }

pub types_same : (a b : ScalarType) → same_type a b ≡ true → a ≡ b
types_same a b is =
    let parts = and_parts _ _ is in
    ap₂ type_with (same_bases a.base b.base parts.0) (eqb-true a.stars b.stars parts.1)

pub kinds_same : (a b : Kind) → same_kind a b ≡ true → a ≡ b
kinds_same (Some a) (Some b) is = ap Some (types_same a b is)
kinds_same a b is = absurd (true≢false (sym is))

-- the common type of two integers
abbrev IsWord : ScalarType → Type 0
IsWord kind = IsScalarType kind × (is_pointer kind ≡ false)

common_by : (b : Bool) → IsWord (if b then unsigned else int)
common_by true = (tt {0}, refl)
common_by false = (tt {0}, refl)

pub common_is_word : (a b : Kind) → IsWord (common_of a b)
common_is_word (Some a) (Some b) = common_by _
common_is_word a b = (tt {0}, refl)

-- conversions between values of one class
pub integer_converts : (from : Kind) (kind : ScalarType) → IsInteger from → is_pointer kind ≡ false → Converts from (Some kind)
integer_converts None kind integer is = integer
integer_converts (Some from) kind integer is = integer ∙ sym is

pub pointer_converts : (from : Kind) (kind : ScalarType) → IsPointer from → is_pointer kind ≡ true → Converts from (Some kind)
pointer_converts None kind pointer is = pointer
pointer_converts (Some from) kind pointer is = pointer ∙ sym is

-- a base with stars is a type, unless it is void
pub starred_is_kind : (b : Base) (stars : ℕ) → IsKind (starred b stars)
starred_is_kind base.Void zero = tt {0}
starred_is_kind base.Void (suc n) = omega arith
starred_is_kind base.Int stars = tt {0}
starred_is_kind base.Unsigned stars = tt {0}

-- what a pointer points to
starred_is : (b : Base) (stars : ℕ) (kind : ScalarType) → starred b stars ≡ Some kind → type_with b stars ≡ kind
starred_is base.Void zero kind is = absurd (cc is)
starred_is base.Void (suc n) kind is = cc is
starred_is base.Int stars kind is = cc is
starred_is base.Unsigned stars kind is = cc is

pub pointed_leads : (pointer kind : ScalarType) → is_pointer pointer ≡ true → pointed pointer ≡ Some kind → Leads (Some pointer) (Some kind)
pointed_leads pointer kind is points =
    let below : 0 < pointer.stars = ltb-true 0 pointer.stars is in
    let stars : pointer.stars ≡ pointer.stars - 1 + 1 = omega arith in
    ap (λ n. Some (type_with pointer.base n)) stars ∙ ap (λ k. Some (pointer_to k)) (starred_is pointer.base (pointer.stars - 1) kind points)

pointer_is_pointer : (kind : ScalarType) → is_pointer (pointer_to kind) ≡ true
pointer_is_pointer kind = lt-ltb 0 (kind.stars + 1) (omega arith)

pub to_pointer : (k : Kind) (kind : ScalarType) → k ≡ Some (pointer_to kind) → IsPointer k
to_pointer k kind same = subst IsPointer (sym same) (pointer_is_pointer kind)

-- no type is of both classes
pub no_word : {A : Type 0} (kind : Kind) → OfClass Integer kind → IsPointer kind → A
no_word None word pointer = absurd pointer
no_word (Some kind) word pointer = absurd (true≢false (sym pointer ∙ word))

has_more_stars : (b : Base) (stars : ℕ) → HasStars b (stars + 1)
has_more_stars base.Void stars = omega arith
has_more_stars base.Int stars = tt {0}
has_more_stars base.Unsigned stars = tt {0}

pub pointer_is_type : (kind : ScalarType) → IsScalarType (pointer_to kind)
pointer_is_type kind = has_more_stars kind.base kind.stars

-- an object's type isn't void, so that its pointer is no void pointer
pub is_no_void_pointer : (kind : ScalarType) → IsScalarType kind → pointer_to kind ≡ void_pointer → ⊥
is_no_void_pointer kind type is =
    let stars : kind.stars + 1 ≡ 1 = ap (λ k. k.stars) is in
    let some : HasStars base.Void kind.stars = subst (λ b. HasStars b kind.stars) (ap (λ k. k.base) is) type in
    absurd (omega (arith, stars, some))
