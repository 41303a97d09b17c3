-- Scopes in which no name stands for a local object from a number on.
use Rattle.std.proofs.Common.{◌≡◌, ◌≤◌, inl, inr, ◌+◌, ℕ, suc, Bool, true, false, if◌then◌else◌, List, length, slice_get, Option, Some, None, refl}
use Rattle.std.proofs.Common.{sym, ap, subst, ◌∙◌, arith}
use Rattle.std.specs.Prelude.{All}
use Rattle.std.proofs.Math.Nat.{lt_of_not-le}
use Rattle.std.proofs.lemmas.Bool.{eq-eqb}
use Rattle.std.proofs.lemmas.Bool.Decides.{eqb_tells}
use Rattle.std.proofs.lemmas.Option.{none-some, slice_get_past}
use Rattle.c_syntax.specs.SyntaxTree.{ParameterTree}
use Rattle.c_tree.specs.declared.program.ScalarType.{ScalarType}
use Rattle.c_tree.specs.declared.program.VarRef.{VarRef}
use Rattle.c_tree.specs.declared.program.VarRef.TheVariants as refs
use Rattle.c_tree.specs.Kinds.{IsScalarType}
use Rattle.c_tree.specs.WellFormed.{Shape, Names, IsThere, same_reference}
use Rattle.c_rules.specs.declared.meaning.Declared.TheVariants as declares
use Rattle.c_rules.specs.declared.meaning.Meaning.{Meaning}
use Rattle.c_rules.specs.declared.meaning.Meaning.TheVariants as meanings
use Rattle.c_rules.specs.declared.meaning.ObjectType.{ObjectType}
use Rattle.c_rules.specs.Programs.{cell_kind}
use Rattle.c_rules.specs.Scopes.{Scope, open_scope}
use Rattle.c_rules.specs.Statements.{LocalTree, with_named_object}
use Rattle.c_rules.specs.Typing.{bodies_before}
use Rattle.c_rules.specs.Units.{StaticTree, with_parameters, parameter_locals}
use Rattle.c_rules.proofs.Formed.Context.{Fits, IsMeaning, shape_of}
use Rattle.c_rules.proofs.Formed.FileContext.{local_shape, static_shape}
use Rattle.c_rules.proofs.Formed.FileSoFar as file
use Rattle.c_rules.proofs.Formed.LocalTypes.{IsHeld, fits_with_object}
use Rattle.c_rules.proofs.Formed.ParametersAsLocals.{fits_parameters}
use Rattle.c_rules.proofs.Formed.SameReferences.{equal_references}
use Rattle.c_types_proof.proofs.Named.{Stands, IsBelow}

-- names that fit a scope, and know no local object from a number on
pub record Known (s : Scope) (n : ℕ) : Type 0 where
  pub names : Names
  pub fits : Fits names s
  pub none : (k : ℕ) → n ≤ k → names.object (refs.Local k) ≡ None

pub known_later : (s : Scope) (n later : ℕ) → n ≤ later → Known s n → Known s later
known_later s n later less known = record { names = known.names; fits = known.fits; none = λ k high. known.none k (omega (arith, less, high)) }

pub known_inside : (s : Scope) (n : ℕ) → Known s n → Known (open_scope s) n
known_inside s n known = record { names = known.names; fits = known.fits; none = known.none }

-- what stands for an object that is there is below the number
pub is_below : (s : Scope) (n : ℕ) (known : Known s n) (v : VarRef) → Stands known.names v → IsBelow n v
is_below s n known (refs.Scalar m) there = tt
is_below s n known (refs.Local m) there = lt_of_not-le (λ above. subst IsThere (known.none m above) there)
is_below s n known (refs.Static m) there = tt

-- one more object
module _ (s : Scope) (n : ℕ) (known : Known s n) (name : List ℕ) (type : ObjectType) (is_type : IsScalarType (cell_kind type)) where
  abbrev object : VarRef → Option Shape
  object v = if same_reference v (refs.Local n) then Some (shape_of type) else known.names.object v

  abbrev more : Names
  more = record { object = object; function = known.names.function; is_filled = λ m. true }

  held : IsHeld more n type
  held = record { object = ap (λ b. if b then Some (shape_of type) else known.names.object (refs.Local n)) (eq-eqb n n refl); filled = λ array. refl }

  -- the others stay
  other_kept : (b : Bool) (v : VarRef) (shape : Shape) → same_reference v (refs.Local n) ≡ b → known.names.object v ≡ Some shape
      → (if b then Some (shape_of type) else known.names.object v) ≡ Some shape
  other_kept true v shape same there =
      absurd (none-some shape (sym (known.none n (omega arith))
      ∙ subst (λ w. known.names.object w ≡ Some shape) (equal_references v (refs.Local n) same) there))
  other_kept false v shape same there = there

  meaning_kept : (k : ℕ) (m : Meaning) → IsMeaning known.names k m → IsMeaning more k m
  meaning_kept k (meanings.Object r of_type) means = (other_kept (same_reference r (refs.Local n)) r (shape_of of_type) refl means.0, means.1, means.2)
  meaning_kept k (meanings.Function of_type) means = means

  none_later : (k : ℕ) → suc n ≤ k → more.object (refs.Local k) ≡ None
  none_later k high = elim (eqb_tells k n) [
    | inl same ↦ absurd (omega (arith, high, same.1))
    | inr other ↦ ap (λ b. if b then Some (shape_of type) else known.names.object (refs.Local k)) other.0 ∙ known.none k (omega (arith, high))
  ]

  pub record WithObject : Type 0 where
    pub grown : Known (with_named_object s name (refs.Local n) (declares.Object type)) (suc n)
    pub holds : IsHeld grown.names n type

  pub with_object : WithObject
  with_object = record {
    grown = record {
      names = more;
      fits = fits_with_object more s name n type is_type held (λ k m there. meaning_kept (bodies_before s k) m (known.fits k m there));
      none = none_later;
    };
    holds = held;
  }

-- the parameters of a function, in a scope whose names stand for statics and functions
module _ (t : Scope) (statics : List StaticTree) (stand : (name : List ℕ) (m : Meaning) → t.meaning name ≡ Some m → file.Stands statics m)
    (ps : List ParameterTree) (kinds : List ScalarType) (types : All IsScalarType kinds) where
  abbrev parameter_object : VarRef → Option Shape
  parameter_object (refs.Scalar n) = None
  parameter_object (refs.Local n) = local_shape (slice_get (parameter_locals ps kinds) n)
  parameter_object (refs.Static n) = static_shape (slice_get statics n)

  abbrev with_statics : Names
  with_statics = record { object = parameter_object; function = λ n. None; is_filled = λ n. true }

  meaning_fits : (k : ℕ) (m : Meaning) → file.Stands statics m → IsMeaning with_statics k m
  meaning_fits k (meanings.Object (refs.Scalar n) type) stands = absurd stands
  meaning_fits k (meanings.Object (refs.Local n) type) stands = absurd stands
  meaning_fits k (meanings.Object (refs.Static n) type) stands = (stands.0, stands.1, tt {0})
  meaning_fits k (meanings.Function type) stands = ((λ s given. absurd (none-some s given)), stands.0, stands.1)

  parameter_there : (k : ℕ) (l : LocalTree) → slice_get (parameter_locals ps kinds) k ≡ Some l
      → parameter_object (refs.Local (0 + k)) ≡ Some (shape_of l.object_type)
  parameter_there k l there =
      let same : 0 + k ≡ k = omega arith in
      ap (λ m. local_shape (slice_get (parameter_locals ps kinds) m)) same ∙ ap local_shape there

  pub known_parameters : Known (with_parameters (open_scope t) 0 ps kinds) (length (parameter_locals ps kinds))
  known_parameters = record {
    names = with_statics;
    fits =
        fits_parameters with_statics (open_scope t) 0 ps kinds
        (λ name m there. meaning_fits (bodies_before t name) m (stand name m there)) types parameter_there;
    none = λ k high. ap local_shape (slice_get_past (parameter_locals ps kinds) k high);
  }
