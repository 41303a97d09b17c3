-- Types of values: ISO 9899:1990 6.1.2.5. A type of a value is none where it is void.
use Rattle.std.specs.Prelude.{◌≡◌, ◌<◌, ⊤, ℕ, ◌+◌, true, false, Some, None}
use Rattle.c_tree.specs.declared.program.Base.{Base}
use Rattle.c_tree.specs.declared.program.Base.TheVariants as base
use Rattle.c_tree.specs.declared.program.ScalarType.{ScalarType}
use Rattle.c_tree.specs.Store.{is_pointer}
use Rattle.c_tree.specs.TypedTree.{Kind}

abbrev pub int : ScalarType
int = record { base = base.Int; stars = 0 }

abbrev pub unsigned : ScalarType
unsigned = record { base = base.Unsigned; stars = 0 }

abbrev pub void_pointer : ScalarType
void_pointer = record { base = base.Void; stars = 1 }

abbrev pub pointer_to : ScalarType → ScalarType
pointer_to kind = record { base = kind.base; stars = kind.stars + 1 }

-- a type of values: void alone is none
abbrev pub HasStars : Base → ℕ → Type 0
HasStars base.Void stars = 0 < stars
HasStars base.Int stars = ⊤
HasStars base.Unsigned stars = ⊤

abbrev pub IsScalarType : ScalarType → Type 0
IsScalarType kind = HasStars kind.base kind.stars

abbrev pub IsKind : Kind → Type 0
IsKind None = ⊤
IsKind (Some kind) = IsScalarType kind

-- a value of an integer type, of a pointer type, and of either
abbrev pub IsInteger : Kind → Type 0
IsInteger None = ⊥
IsInteger (Some kind) = is_pointer kind ≡ false

abbrev pub IsPointer : Kind → Type 0
IsPointer None = ⊥
IsPointer (Some kind) = is_pointer kind ≡ true

abbrev pub IsValue : Kind → Type 0
IsValue None = ⊥
IsValue (Some kind) = ⊤
