-- The parameters of a function are its first objects, and stand in the scope of its body.
use Rattle.std.proofs.Common.{◌≡◌, ◌≤◌, ℕ, suc, true, List, [], ◌∷◌, ◌++◌, map, take, length}
use Rattle.std.proofs.Common.{Option, Some, None, refl, ap, sym, ◌∙◌, subst, inl, inr, length-append, arith}
use Rattle.std.specs.Prelude.{All, unwrap_or}
use Rattle.std.proofs.Math.Seq.{take-append_seam}
use Rattle.std.proofs.lemmas.List.Elements.{All-nil, All-cons, All-head, All-tail}
use Rattle.c_tree.specs.declared.program.ScalarType.{ScalarType}
use Rattle.c_tree.specs.declared.program.VarRef.TheVariants as refs
use Rattle.c_tree.specs.c_syntax.SyntaxTree.{ParameterTree}
use Rattle.c_rules.specs.declared.local.Naming.{Naming}
use Rattle.c_rules.specs.declared.meaning.Meaning.TheVariants as meanings
use Rattle.c_rules.specs.declared.meaning.ObjectType.TheVariants.{Single}
use Rattle.c_rules.specs.Outcome.{Is, ◌>>=◌}
use Rattle.c_rules.specs.Declarations.{parameter, parameters, with_single}
use Rattle.c_rules.specs.Programs.{is_single}
use Rattle.c_rules.specs.Scopes.{Scope}
use Rattle.c_rules.specs.Statements.{LocalTree}
use Rattle.c_rules.specs.Typing.{bodies_before}
use Rattle.c_rules.specs.Units.{with_parameters, parameter_locals}
use Rattle.c_tree.specs.Kinds.{IsScalarType}
use Rattle.c_tree.specs.WellFormed.{Names, IsInitial}
use Rattle.c_rules.proofs.Formed.Context.{Gives, is, behind, Fits, IsMeaning, IsLocal, shape_of, static_in}
use Rattle.c_rules.proofs.Formed.FileContext.{local_kind}
use Rattle.c_rules.proofs.Formed.OpenedNames.{AreThere}
use Rattle.c_rules.proofs.Formed.GivesLemmas.{anything, together}
use Rattle.c_rules.proofs.Formed.StatementTypes.{parameter_types}
use Rattle.c_rules.proofs.Formed.FileSoFar.{declared_or_old}

-- each parameter has a type
as_many : (s : Scope) (naming : Naming) (ps : List ParameterTree) → Gives (λ kinds. length kinds ≡ length ps) (parameters s naming ps)
as_many s naming [] = is [] refl
as_many s naming (p ∷ ps) =
    behind (parameter s naming p) (λ kind. parameters (with_single s p.name (refs.Local 0) kind) naming ps >>= λ kinds. Is (kind ∷ kinds)) (anything (parameter s naming p))
    (λ kind there. behind (parameters (with_single s p.name (refs.Local 0) kind) naming ps) (λ kinds. Is (kind ∷ kinds))
    (as_many (with_single s p.name (refs.Local 0) kind) naming ps) (λ kinds same. is (kind ∷ kinds) (ap suc same)))

pub typed_parameters : (s : Scope) (naming : Naming) (ps : List ParameterTree) → Gives (λ kinds. All IsScalarType kinds × (length kinds ≡ length ps)) (parameters s naming ps)
typed_parameters s naming ps = together (parameters s naming ps) (parameter_types s naming ps) (as_many s naming ps)

-- the objects that they are
abbrev local_of : ParameterTree → ScalarType → LocalTree
local_of p kind = record { name = unwrap_or p.name []; object_type = Single kind; values = [] }

pub length_locals : (ps : List ParameterTree) (kinds : List ScalarType) → length kinds ≡ length ps → length (parameter_locals ps kinds) ≡ length kinds
length_locals [] [] same = refl
length_locals [] (kind ∷ kinds) same = absurd (omega (arith, same))
length_locals (p ∷ ps) [] same = refl
length_locals (p ∷ ps) (kind ∷ kinds) same = ap suc (length_locals ps kinds (omega (arith, same)))

pub kinds_of_locals : (ps : List ParameterTree) (kinds : List ScalarType) → length kinds ≡ length ps → map local_kind (parameter_locals ps kinds) ≡ map Some kinds
kinds_of_locals [] [] same = refl
kinds_of_locals [] (kind ∷ kinds) same = absurd (omega (arith, same))
kinds_of_locals (p ∷ ps) [] same = refl
kinds_of_locals (p ∷ ps) (kind ∷ kinds) same = ap (λ ks. Some kind ∷ ks) (kinds_of_locals ps kinds (omega (arith, same)))

pub first_locals : (ps : List ParameterTree) (kinds : List ScalarType) (others : List LocalTree) → length kinds ≡ length ps
    → take (length kinds) (parameter_locals ps kinds ++ others) ≡ parameter_locals ps kinds
first_locals ps kinds others same =
    ap (λ n. take n (parameter_locals ps kinds ++ others)) (sym (length_locals ps kinds same)) ∙ take-append_seam (parameter_locals ps kinds) others

pub locals_within : (ps : List ParameterTree) (kinds : List ScalarType) (others : List LocalTree) → length kinds ≡ length ps
    → length kinds ≤ length (parameter_locals ps kinds ++ others)
locals_within ps kinds others same = omega (arith, length_locals ps kinds same, length-append (parameter_locals ps kinds) others)

pub single_locals : (ps : List ParameterTree) (kinds : List ScalarType) → All (λ l. is_single l.object_type ≡ true) (parameter_locals ps kinds)
single_locals [] kinds = All-nil (λ (l : LocalTree). is_single l.object_type ≡ true)
single_locals (p ∷ ps) [] = All-nil (λ (l : LocalTree). is_single l.object_type ≡ true)
single_locals (p ∷ ps) (kind ∷ kinds) =
    All-cons (λ (l : LocalTree). is_single l.object_type ≡ true) (local_of p kind) (parameter_locals ps kinds) refl (single_locals ps kinds)

pub right_locals : (names : Names) (ps : List ParameterTree) (kinds : List ScalarType) → All IsScalarType kinds → All (IsLocal names) (parameter_locals ps kinds)
right_locals names [] kinds types = All-nil (IsLocal names)
right_locals names (p ∷ ps) [] types = All-nil (IsLocal names)
right_locals names (p ∷ ps) (kind ∷ kinds) types =
    let right : IsLocal names (local_of p kind) = record {
      is_type = All-head IsScalarType kind kinds types;
      from_one = omega arith;
      most = omega arith;
      within = omega arith;
      starts = All-nil (IsInitial (static_in names) kind);
    } in
    All-cons (IsLocal names) (local_of p kind) (parameter_locals ps kinds) right (right_locals names ps kinds (All-tail IsScalarType kind kinds types))

-- the scope that they stand in
fits_single : (names : Names) (s : Scope) (name : Option (List ℕ)) (n : ℕ) (kind : ScalarType) → Fits names s → IsScalarType kind
    → names.object (refs.Local n) ≡ Some (shape_of (Single kind)) → Fits names (with_single s name (refs.Local n) kind)
fits_single names s None n kind fits type there = fits
fits_single names s (Some name) n kind fits type there = λ k m found.
    elim (declared_or_old s name (meanings.Object (refs.Local n) (Single kind)) k m found) [
      | inl new ↦ subst (IsMeaning names (bodies_before s k)) new (there, type, tt {0})
      | inr old ↦ fits k m old
    ]

pub fits_parameters : (names : Names) (s : Scope) (n : ℕ) (ps : List ParameterTree) (kinds : List ScalarType) → Fits names s → All IsScalarType kinds
    → AreThere names n (parameter_locals ps kinds) → Fits names (with_parameters s n ps kinds)
fits_parameters names s n [] kinds fits types there = fits
fits_parameters names s n (p ∷ ps) [] fits types there = fits
fits_parameters names s n (p ∷ ps) (kind ∷ kinds) fits types there =
    let first : names.object (refs.Local n) ≡ Some (shape_of (Single kind)) =
    subst (λ m. names.object (refs.Local m) ≡ Some (shape_of (Single kind))) (omega arith) (there 0 (local_of p kind) refl) in
    let more : AreThere names (suc n) (parameter_locals ps kinds) =
    λ k l found. subst (λ m. names.object (refs.Local m) ≡ Some (shape_of l.object_type)) (omega arith) (there (suc k) l found)
    in fits_parameters names (with_single s p.name (refs.Local n) kind) (suc n) ps kinds
    (fits_single names s p.name n kind fits (All-head IsScalarType kind kinds types) first) (All-tail IsScalarType kind kinds types) more
