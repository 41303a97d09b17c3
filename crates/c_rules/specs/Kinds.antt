-- Types of values: ISO 9899:1990 6.1.2.5, 6.2.1.5 and 6.3.2.2 (docs/LANGUAGE.md, "Types"). A type of a value is none where it
-- is void.
use Rattle.std.specs.Prelude.{ℕ, zero, ◌-◌, ◌==◌, ◌&&◌, ◌||◌, Bool, true, false, if◌then◌else◌, Some, None}
use Rattle.c_tree.specs.declared.program.Base.{Base}
use Rattle.c_tree.specs.declared.program.Base.TheVariants as base
use Rattle.c_tree.specs.declared.program.ScalarType.{ScalarType}
use Rattle.c_tree.specs.TypedTree.{Kind}
use Rattle.c_tree.specs.Store.{is_pointer}
pub use Rattle.c_tree.specs.Kinds.{int, unsigned, void_pointer, pointer_to}
use Rattle.c_rules.specs.declared.class.Class.{Class}
use Rattle.c_rules.specs.declared.class.Class.TheVariants.{Nothing, Integer, Pointer}

-- nothing, an integer, or a pointer
abbrev pub class_of : Kind → Class
class_of None = Nothing
class_of (Some kind) = if is_pointer kind then Pointer else Integer

abbrev pub is_void : Kind → Bool
is_void None = true
is_void (Some kind) = false

abbrev pub same_base : Base → Base → Bool
same_base base.Void base.Void = true
same_base base.Int base.Int = true
same_base base.Unsigned base.Unsigned = true
same_base a b = false

abbrev pub same_type : ScalarType → ScalarType → Bool
same_type a b = same_base a.base b.base && a.stars == b.stars

-- two types of values, of which neither is void
abbrev pub same_kind : Kind → Kind → Bool
same_kind (Some a) (Some b) = same_type a b
same_kind a b = false

abbrev pub is_void_pointer : Kind → Bool
is_void_pointer kind = same_kind kind (Some void_pointer)

-- what int with unsigned gives
abbrev pub common : ScalarType → ScalarType → ScalarType
common a b = if same_type a unsigned || same_type b unsigned then unsigned else int

-- a base with its stars
abbrev pub starred : Base → ℕ → Kind
starred base.Void zero = None
starred b stars = Some (record { base = b; stars = stars })

-- what a pointer points to
abbrev pub pointed : ScalarType → Kind
pointed kind = starred kind.base (kind.stars - 1)
