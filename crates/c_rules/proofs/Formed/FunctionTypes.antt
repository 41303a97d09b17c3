-- What a function's objects and its type are once each object has its number among its own kind.
use Rattle.std.proofs.Common.{◌≡◌, ◌≤◌, ◌<◌, ◌⊎◌, inl, inr, ◌∷◌, [], ◌+◌, ℕ, suc, zero, true, false, ◌||◌, not, List, map, take, length, slice_get, Option, Some, None, ap, ◌∙◌, sym, refl, subst, true≢false, arith}
use Rattle.std.specs.Prelude.{All, AllPairs, ◌≢◌, unwrap_or, option_map, ◌==◌}
use Rattle.std.proofs.Math.Bool.{or-true}
use Rattle.std.proofs.Math.Seq.{take-length}
use Rattle.std.proofs.lemmas.Bool.{lt-ltb, eq-eqb}
use Rattle.std.proofs.lemmas.List.Elements.{All-cons, All-nil, All-head, All-tail}
use Rattle.std.proofs.lemmas.Option.{slice_get-map, slice_get_within, slice_get_past, get_or_from_slice_get}
use Rattle.c_tree.specs.declared.program.VarRef.{VarRef}
use Rattle.c_tree.specs.declared.program.VarRef.TheVariants as refs
use Rattle.c_rules.specs.declared.meaning.ObjectType.{ObjectType}
use Rattle.c_rules.specs.declared.meaning.ObjectType.TheVariants.{Single, Array}
use Rattle.c_tree.specs.declared.uses.Use.{Use}
use Rattle.c_tree.specs.declared.uses.Use.TheVariants.{Address, Call, Cases}
use Rattle.c_rules.specs.Programs.{frame, function_tree, program_tree, is_pointed, is_single, cell_kind, cell_count, local_object, object_tree}
use Rattle.c_rules.specs.Renumbering as by
use Rattle.c_rules.specs.Statements.{LocalTree}
use Rattle.c_rules.specs.Units.{StaticTree, TypedFunction, File}
use Rattle.c_tree.specs.Uses.{statement_uses}
use Rattle.c_tree.specs.WellFormed.{Shape, Names, IsAddressable, IsAutomatic, IsThere, opened}
use Rattle.c_tree.specs.WellFormedProgram as whole
use Rattle.c_tree.specs.WellFormedProgram.{IsParameter, kind_of_parameter, names_within, scalar_shape, object_shape, object_kind}
use Rattle.c_rules.proofs.Formed.Context.{shape_of, numbers_from}
use Rattle.c_rules.proofs.Formed.FileContext.{names_in, object_in, static_names, local_shape, static_shape, local_kind, signature, is_array}
use Rattle.c_rules.proofs.Formed.FrameTypes.{IsPlaced, placed_in, references_differ, references_length, same_taken}
use Rattle.c_rules.proofs.Formed.RenumberedNames.{Renumbers, Carries, opened_carries}
use Rattle.c_rules.proofs.Formed.RenumberedTypes.{HaveAddresses}

-- an object of a function as a frame scalar, and as an object in memory
record InFrame (f : TypedFunction) (k : ℕ) (l : LocalTree) : Type 0 where
  number : ℕ
  reference : slice_get (frame f) k ≡ Some (refs.Scalar number)
  kind : slice_get (function_tree f).scalars number ≡ Some (cell_kind l.object_type)
  single : is_single l.object_type ≡ true
  unpointed : is_pointed (statement_uses f.body) k ≡ false

record InMemory (f : TypedFunction) (k : ℕ) (l : LocalTree) : Type 0 where
  number : ℕ
  reference : slice_get (frame f) k ≡ Some (refs.Local number)
  object : slice_get (function_tree f).locals number ≡ Some (local_object l)

from_zero : (f : TypedFunction) (k : ℕ) (l : LocalTree) → IsPlaced (statement_uses f.body) 0 0 0 k (frame f) f.locals l → InFrame f k l ⊎ InMemory f k l
from_zero f k l (inl is) = inl (record {
  number = is.number;
  reference = is.reference ∙ ap (λ i. Some (refs.Scalar i)) (omega arith);
  kind = is.kind;
  single = is.single;
  unpointed = subst (λ i. is_pointed (statement_uses f.body) i ≡ false) (omega arith) is.unpointed;
})
from_zero f k l (inr is) = inr (record { number = is.number; reference = is.reference ∙ ap (λ i. Some (refs.Local i)) (omega arith); object = is.object })

object_of : (f : TypedFunction) (k : ℕ) (l : LocalTree) → slice_get f.locals k ≡ Some l → InFrame f k l ⊎ InMemory f k l
object_of f k l there = from_zero f k l (placed_in (statement_uses f.body) f.locals k l there)

-- a reference in the frame is what its object is called
called : (f : TypedFunction) (k : ℕ) (r : VarRef) → slice_get (frame f) k ≡ Some r → by.numbered (frame f) k ≡ r
called f k r there = ap (λ o. unwrap_or o (refs.Local k)) there

single_count : (t : ObjectType) → is_single t ≡ true → cell_count t ≡ 1
single_count (Single kind) single = refl
single_count (Array kind n) single = absurd (cc single)

static_carried : (o : Option StaticTree) → object_shape (option_map object_tree o) ≡ static_shape o
static_carried None = refl
static_carried (Some o) = refl

pub static_kept : (file : File) (n : ℕ) → whole.static_in (program_tree file) n ≡ static_shape (slice_get file.statics n)
static_kept file n = ap object_shape (slice_get-map object_tree file.statics n) ∙ static_carried (slice_get file.statics n)

-- no object is called what another is
one_place : (rs : List VarRef) → AllPairs (λ a b. a ≢ b) rs → (i j : ℕ) (r : VarRef) → slice_get rs i ≡ Some r → slice_get rs j ≡ Some r → i ≡ j
one_place [] differ i j r first second = absurd (cc first)
one_place (s ∷ rs) differ zero zero r first second = refl
one_place (s ∷ rs) differ zero (suc j) r first second =
    let same : s ≡ r = cc first
    in let below : j < length rs = slice_get_within rs j r second
    in absurd (differ 0 (suc j) r (omega arith) (omega (arith, below)) (same ∙ sym (get_or_from_slice_get rs j r r second)))
one_place (s ∷ rs) differ (suc i) zero r first second =
    let same : s ≡ r = cc second
    in let below : i < length rs = slice_get_within rs i r first
    in absurd (differ 0 (suc i) r (omega arith) (omega (arith, below)) (same ∙ sym (get_or_from_slice_get rs i r r first)))
one_place (s ∷ rs) differ (suc i) (suc j) r first second =
    ap suc (one_place rs (λ k l d less below. differ (suc k) (suc l) d (omega (arith, less)) (omega (arith, below))) i j r first second)

all_differ : (f : TypedFunction) → AllPairs (λ a b. a ≢ b) (frame f)
all_differ f = subst (AllPairs (λ a b. a ≢ b)) (take-length (frame f)) (references_differ (statement_uses f.body) (length (frame f)) f.locals)

module _ (f : TypedFunction) where
  named_in_frame : (k : ℕ) (l : LocalTree) → InFrame f k l ⊎ InMemory f k l → slice_get (frame f) k ≡ Some (by.numbered (frame f) k)
  named_in_frame k l (inl is) = is.reference ∙ ap Some (sym (called f k (refs.Scalar is.number) is.reference))
  named_in_frame k l (inr is) = is.reference ∙ ap Some (sym (called f k (refs.Local is.number) is.reference))

  -- what an object is called is automatic
  automatic_as : (k : ℕ) (l : LocalTree) → InFrame f k l ⊎ InMemory f k l → IsAutomatic (by.numbered (frame f) k)
  automatic_as k l (inl is) = subst IsAutomatic (sym (called f k (refs.Scalar is.number) is.reference)) tt
  automatic_as k l (inr is) = subst IsAutomatic (sym (called f k (refs.Local is.number) is.reference)) tt

  is_automatic : (k : ℕ) (o : Option LocalTree) → slice_get f.locals k ≡ o → IsThere (local_shape o) → IsAutomatic (by.numbered (frame f) k)
  is_automatic k None is there = absurd there
  is_automatic k (Some l) is there = automatic_as k l (object_of f k l is)

  one_local : (k m : ℕ) (o p : Option LocalTree) → slice_get f.locals k ≡ o → slice_get f.locals m ≡ p → IsThere (local_shape o) → IsThere (local_shape p)
      → by.numbered (frame f) k ≡ by.numbered (frame f) m → k ≡ m
  one_local k m None p first second there other same = absurd there
  one_local k m (Some l) None first second there other same = absurd other
  one_local k m (Some l) (Some n) first second there other same =
      one_place (frame f) (all_differ f) k m (by.numbered (frame f) m) (named_in_frame k l (object_of f k l first) ∙ ap Some same) (named_in_frame m n (object_of f m n second))

module _ (file : File) (f : TypedFunction) where
  abbrev objects : VarRef → Option Shape
  objects = object_in file f

  abbrev later : VarRef → Option Shape
  later = whole.object_in (program_tree file) (function_tree f)

  abbrev others : Names
  others = names_within (program_tree file) (function_tree f)

  -- an object in memory, and a frame scalar
  object_carried : (k : ℕ) (l : LocalTree) → InFrame f k l ⊎ InMemory f k l → later (by.numbered (frame f) k) ≡ Some (shape_of l.object_type)
  object_carried k l (inl is) =
      ap later (called f k (refs.Scalar is.number) is.reference) ∙ ap scalar_shape is.kind
      ∙ ap (λ n. Some (record { kind = cell_kind l.object_type; length = n })) (sym (single_count l.object_type is.single))
  object_carried k l (inr is) = ap later (called f k (refs.Local is.number) is.reference) ∙ ap object_shape is.object

  local_carried : (k : ℕ) (o : Option LocalTree) (shape : Shape) → slice_get f.locals k ≡ o → local_shape o ≡ Some shape
      → later (by.numbered (frame f) k) ≡ Some shape
  local_carried k None shape there is = absurd (cc is)
  local_carried k (Some l) shape there is = object_carried k l (object_of f k l there) ∙ is

  carried : (v : VarRef) (shape : Shape) → objects v ≡ Some shape → later (by.renumbered (frame f) v) ≡ Some shape
  carried (refs.Scalar n) shape is = absurd (cc is)
  carried (refs.Local n) shape is = local_carried n (slice_get f.locals n) shape refl is
  carried (refs.Static n) shape is = static_kept file n ∙ is

  still_automatic : (v : VarRef) → IsThere (objects v) → IsAutomatic v → IsAutomatic (by.renumbered (frame f) v)
  still_automatic (refs.Scalar n) there is = is
  still_automatic (refs.Local n) there is = is_automatic f n (slice_get f.locals n) refl there
  still_automatic (refs.Static n) there is = is

  no_static : (n : ℕ) (v : VarRef) → IsAutomatic v → v ≢ refs.Static n
  no_static n (refs.Scalar m) is = λ same. absurd (cc same)
  no_static n (refs.Local m) is = λ same. absurd (cc same)
  no_static n (refs.Static m) is = absurd is

  one_object : (v w : VarRef) → IsThere (objects v) → IsThere (objects w) → by.renumbered (frame f) v ≡ by.renumbered (frame f) w → v ≡ w
  one_object (refs.Scalar m) w there other same = absurd there
  one_object (refs.Local m) (refs.Scalar n) there other same = absurd other
  one_object (refs.Local m) (refs.Local n) there other same = ap refs.Local (one_local f m n (slice_get f.locals m) (slice_get f.locals n) refl refl there other same)
  one_object (refs.Local m) (refs.Static n) there other same = absurd (no_static n (by.numbered (frame f) m) (is_automatic f m (slice_get f.locals m) refl there) same)
  one_object (refs.Static m) (refs.Scalar n) there other same = absurd other
  one_object (refs.Static m) (refs.Local n) there other same =
      absurd (no_static m (by.numbered (frame f) n) (is_automatic f n (slice_get f.locals n) refl other) (sym same))
  one_object (refs.Static m) (refs.Static n) there other same = same

  pub renumbers : Renumbers (frame f) objects later
  renumbers = record { object = carried; automatic = still_automatic; one = one_object }

  -- an array is no frame scalar
  filled_as : (k : ℕ) (l : LocalTree) → InFrame f k l ⊎ InMemory f k l → not (is_single l.object_type) ≡ true
      → others.is_filled (by.number_in (by.numbered (frame f) k)) ≡ true
  filled_as k l (inl is) array = absurd (true≢false (sym array ∙ ap not is.single))
  filled_as k l (inr is) array =
      ap (λ r. others.is_filled (by.number_in r)) (called f k (refs.Local is.number) is.reference)
      ∙ lt-ltb is.number (length (function_tree f).locals) (slice_get_within (function_tree f).locals is.number (local_object l) is.object)

  array_carried : (k : ℕ) (o : Option LocalTree) → slice_get f.locals k ≡ o → is_array o ≡ true → others.is_filled (by.number_in (by.numbered (frame f) k)) ≡ true
  array_carried k None there array = absurd (true≢false (sym array))
  array_carried k (Some l) there array = filled_as k l (object_of f k l there) array

  in_memory_as : (k : ℕ) (l : LocalTree) → InFrame f k l ⊎ InMemory f k l → not (is_single l.object_type) ≡ true
      → by.numbered (frame f) k ≡ refs.Local (by.number_in (by.numbered (frame f) k))
  in_memory_as k l (inl is) array = absurd (true≢false (sym array ∙ ap not is.single))
  in_memory_as k l (inr is) array = subst (λ r. r ≡ refs.Local (by.number_in r)) (sym (called f k (refs.Local is.number) is.reference)) refl

  array_in_memory : (k : ℕ) (o : Option LocalTree) → slice_get f.locals k ≡ o → is_array o ≡ true
      → by.numbered (frame f) k ≡ refs.Local (by.number_in (by.numbered (frame f) k))
  array_in_memory k None there array = absurd (true≢false (sym array))
  array_in_memory k (Some l) there array = in_memory_as k l (object_of f k l there) array

  -- everywhere in a function its statics alone are known
  static_kept_as : (v : VarRef) (shape : Shape) → static_names file v ≡ Some shape → others.object (by.renumbered (frame f) v) ≡ Some shape
  static_kept_as (refs.Scalar n) shape is = absurd (cc is)
  static_kept_as (refs.Local n) shape is = absurd (cc is)
  static_kept_as (refs.Static n) shape is = static_kept file n ∙ is

  static_within : (v : VarRef) (shape : Shape) → static_names file v ≡ Some shape → objects v ≡ Some shape
  static_within (refs.Scalar n) shape is = absurd (cc is)
  static_within (refs.Local n) shape is = absurd (cc is)
  static_within (refs.Static n) shape is = is

  unknown : (v : VarRef) → IsAutomatic v → others.object v ≡ None
  unknown (refs.Scalar n) is = refl
  unknown (refs.Local n) is = refl
  unknown (refs.Static n) is = absurd is

  still_unknown : (v : VarRef) → IsThere (objects v) → static_names file v ≡ None → others.object (by.renumbered (frame f) v) ≡ None
  still_unknown (refs.Scalar n) there is = refl
  still_unknown (refs.Local n) there is = unknown (by.numbered (frame f) n) (is_automatic f n (slice_get f.locals n) refl there)
  still_unknown (refs.Static n) there is = static_kept file n ∙ is

-- the type of a function is that of its parameters
one_reference : (o : Option VarRef) (r s : VarRef) → o ≡ Some r → o ≡ Some s → r ≡ s
one_reference o r s first second = let same : Some r ≡ Some s = sym first ∙ second in cc same

kind_as : (f : TypedFunction) (k : ℕ) (r : VarRef) (l : LocalTree) → slice_get (frame f) k ≡ Some r → InFrame f k l ⊎ InMemory f k l
    → kind_of_parameter (function_tree f) r ≡ local_kind l
kind_as f k r l named (inl is) = ap (kind_of_parameter (function_tree f)) (one_reference _ r (refs.Scalar is.number) named is.reference) ∙ is.kind
kind_as f k r l named (inr is) = ap (kind_of_parameter (function_tree f)) (one_reference _ r (refs.Local is.number) named is.reference) ∙ ap object_kind is.object

parameter_carried : (f : TypedFunction) (k : ℕ) (r : VarRef) (l : LocalTree) → slice_get (frame f) k ≡ Some r → slice_get f.locals k ≡ Some l
    → kind_of_parameter (function_tree f) r ≡ local_kind l
parameter_carried f k r l named there = kind_as f k r l named (object_of f k l there)

same_signature : (o : Option TypedFunction) → whole.signature (option_map function_tree o) ≡ signature o
same_signature None = refl
same_signature (Some f) =
    ap (λ kinds. Some (record { parameters = kinds; result = f.result }))
    (same_taken (kind_of_parameter (function_tree f)) local_kind f.parameters (frame f) f.locals (references_length (statement_uses f.body) f.locals) (parameter_carried f))

all_carried : (file : File) (f : TypedFunction) → Carries (frame f) (object_in file f) (names_in file f) (names_within (program_tree file) (function_tree f))
all_carried file f = record {
  object = static_kept_as file f;
  function = λ n. ap whole.signature (slice_get-map function_tree file.functions n) ∙ same_signature (slice_get file.functions n);
  is_filled = λ n is. array_carried file f n (slice_get f.locals n) refl is;
  in_memory = λ n is. array_in_memory file f n (slice_get f.locals n) refl is;
  within = static_within file f;
  new = still_unknown file f;
}

-- the parameters are the first objects
first_named : (rs : List VarRef) (first m : ℕ) (rest : List VarRef) → ((k : ℕ) → slice_get rs (first + k) ≡ slice_get rest k) → m ≤ length rest
    → map (by.renumbered rs) (numbers_from first m) ≡ take m rest
first_named rs first zero rest each within = refl
first_named rs first (suc m) [] each within = absurd (omega (arith, within))
first_named rs first (suc m) (r ∷ rest) each within =
    let here : slice_get rs first ≡ Some r = subst (λ n. slice_get rs n ≡ Some r) (omega arith) (each 0)
    in let behind : (k : ℕ) → slice_get rs (suc first + k) ≡ slice_get rest k = λ k. subst (λ n. slice_get rs n ≡ slice_get rest k) (omega arith) (each (suc k))
    in ap (λ o. unwrap_or o (refs.Local first) ∷ map (by.renumbered rs) (numbers_from (suc first) m)) here
    ∙ ap (λ ts. r ∷ ts) (first_named rs (suc first) m rest behind (omega (arith, within)))

local_there : (ls : List LocalTree) (k : ℕ) → k < length ls → IsThere (local_shape (slice_get ls k))
local_there [] k below = absurd (omega (arith, below))
local_there (l ∷ ls) zero below = tt
local_there (l ∷ ls) (suc k) below = local_there ls k (omega (arith, below))

first_there : (file : File) (f : TypedFunction) (first m : ℕ) → first + m ≤ length f.locals → All (λ v. IsThere (object_in file f v)) (numbers_from first m)
first_there file f first zero within = All-nil (λ v. IsThere (object_in file f v))
first_there file f first (suc m) within =
    All-cons (λ v. IsThere (object_in file f v)) (refs.Local first) (numbers_from (suc first) m) (local_there f.locals first (omega (arith, within)))
    (first_there file f (suc first) m (omega (arith, within)))

-- the names in the body
pub body_carried : (file : File) (f : TypedFunction) → f.parameters ≤ length f.locals
    → Carries (frame f) (object_in file f) (opened (object_in file f) (numbers_from 0 f.parameters) (names_in file f))
    (opened (whole.object_in (program_tree file) (function_tree f)) (function_tree f).params (names_within (program_tree file) (function_tree f)))
body_carried file f few =
    let long = references_length (statement_uses f.body) f.locals
    in let params : map (by.renumbered (frame f)) (numbers_from 0 f.parameters) ≡ (function_tree f).params
    = first_named (frame f) 0 f.parameters (frame f) (λ k. ap (slice_get (frame f)) (omega arith)) (omega (arith, few, long))
    in subst (λ ps. Carries (frame f) (object_in file f) (opened (object_in file f) (numbers_from 0 f.parameters) (names_in file f))
    (opened (whole.object_in (program_tree file) (function_tree f)) ps (names_within (program_tree file) (function_tree f)))) params
    (opened_carries (frame f) (object_in file f) (whole.object_in (program_tree file) (function_tree f)) (renumbers file f) (names_in file f)
    (names_within (program_tree file) (function_tree f)) (all_carried file f) (numbers_from 0 f.parameters) (first_there file f 0 f.parameters (omega (arith, few))))

past_all : {A : Type 0} (xs : List A) (k : ℕ) → slice_get xs k ≡ None → length xs ≤ k
past_all [] k none = omega arith
past_all (x ∷ xs) zero none = absurd (cc none)
past_all (x ∷ xs) (suc k) none = let rest = past_all xs k none in omega (arith, rest)

-- the parameters are the first objects, each of one cell
taken_at : {A : Type 0} (P : A → Type 0) (m : ℕ) (xs : List A) → All P (take m xs) → (k : ℕ) (x : A) → k < m → slice_get xs k ≡ Some x → P x
taken_at P zero xs all k x less there = absurd (omega (arith, less))
taken_at P (suc m) [] all k x less there = absurd (cc there)
taken_at P (suc m) (y ∷ ys) all zero x less there = let same : y ≡ x = cc there in subst P same (All-head P y (take m ys) all)
taken_at P (suc m) (y ∷ ys) all (suc k) x less there = taken_at P m ys (All-tail P y (take m ys) all) k x (omega (arith, less)) there

all_taken : {A : Type 0} (P : A → Type 0) (m : ℕ) (xs : List A) → ((k : ℕ) (x : A) → k < m → slice_get xs k ≡ Some x → P x) → All P (take m xs)
all_taken P zero xs each = All-nil P
all_taken P (suc m) [] each = All-nil P
all_taken P (suc m) (x ∷ xs) each = All-cons P x (take m xs) (each 0 x (omega arith) refl) (all_taken P m xs (λ k y less there. each (suc k) y (omega (arith, less)) there))

module _ (f : TypedFunction) (single : All (λ l. is_single l.object_type ≡ true) (take f.parameters f.locals)) where
  one_cell : (k : ℕ) (r : VarRef) (l : LocalTree) → slice_get (frame f) k ≡ Some r → is_single l.object_type ≡ true → InFrame f k l ⊎ InMemory f k l
      → IsParameter (function_tree f) r
  one_cell k r l named one (inl is) =
      subst (IsParameter (function_tree f)) (sym (one_reference _ r (refs.Scalar is.number) named is.reference))
      (slice_get_within (function_tree f).scalars is.number (cell_kind l.object_type) is.kind)
  one_cell k r l named one (inr is) =
      subst (IsParameter (function_tree f)) (sym (one_reference _ r (refs.Local is.number) named is.reference))
      (local_object l, is.object, single_count l.object_type one)

  parameter_at : (k : ℕ) (r : VarRef) (o : Option LocalTree) → k < f.parameters → slice_get (frame f) k ≡ Some r → slice_get f.locals k ≡ o
      → IsParameter (function_tree f) r
  parameter_at k r None less named there =
      let within = slice_get_within (frame f) k r named
      in let past = past_all f.locals k there
      in absurd (omega (arith, within, past, references_length (statement_uses f.body) f.locals))
  parameter_at k r (Some l) less named there =
      one_cell k r l named (taken_at (λ x. is_single x.object_type ≡ true) f.parameters f.locals single k l less there) (object_of f k l there)

  pub all_parameters : All (IsParameter (function_tree f)) (function_tree f).params
  all_parameters = all_taken (IsParameter (function_tree f)) f.parameters (frame f) (λ k r less named. parameter_at k r (slice_get f.locals k) less named refl)

-- an object whose address is taken is none of the frame scalars
module _ (f : TypedFunction) where
  address_as : (n : ℕ) (l : LocalTree) → is_pointed (statement_uses f.body) n ≡ true → InFrame f n l ⊎ InMemory f n l → IsAddressable (by.numbered (frame f) n)
  address_as n l pointed (inl is) = absurd (true≢false (sym pointed ∙ is.unpointed))
  address_as n l pointed (inr is) = subst IsAddressable (sym (called f n (refs.Local is.number) is.reference)) tt

  address_kept : (n : ℕ) (o : Option LocalTree) → slice_get f.locals n ≡ o → is_pointed (statement_uses f.body) n ≡ true → IsAddressable (by.numbered (frame f) n)
  address_kept n None there pointed =
      let past = past_all f.locals n there
      in let behind : length (frame f) ≤ n = omega (arith, past, references_length (statement_uses f.body) f.locals)
      in subst IsAddressable (sym (ap (λ o. unwrap_or o (refs.Local n)) (slice_get_past (frame f) n behind))) tt
  address_kept n (Some l) there pointed = address_as n l pointed (object_of f n l there)

  have_all : (us : List Use) → ((n : ℕ) → is_pointed us n ≡ true → is_pointed (statement_uses f.body) n ≡ true) → HaveAddresses (frame f) us
  have_all [] among = tt
  have_all (Address (refs.Local n) ∷ us) among = (
    address_kept n (slice_get f.locals n) refl (among n (ap (λ b. b || is_pointed us n) (eq-eqb n n refl))),
    have_all us (λ m pointed. among m (ap (λ b. (n == m) || b) pointed ∙ or-true (n == m))),
  )
  have_all (Address (refs.Scalar n) ∷ us) among = (tt, have_all us among)
  have_all (Address (refs.Static n) ∷ us) among = (tt, have_all us among)
  have_all (Call g at ∷ us) among = (tt, have_all us among)
  have_all (Cases n ∷ us) among = (tt, have_all us among)

  pub all_addresses : HaveAddresses (frame f) (statement_uses f.body)
  all_addresses = have_all (statement_uses f.body) (λ n pointed. pointed)
