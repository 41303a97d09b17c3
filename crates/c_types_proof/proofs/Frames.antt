-- The declarations of a function are its frame, whose objects of each kind stand in order; and its arrays are filled by their own lists.
use Rattle.std.proofs.Common.{◌≡◌, ◌<◌, inl, inr, ◌+◌, ◌++◌, ◌∷◌, [], ◌&&◌, not, ℕ, zero, suc, Bool, true, false, if◌then◌else◌, List, map, take}
use Rattle.std.proofs.Common.{length, slice_get, Some, refl, ap, sym, subst, ◌∙◌, true≢false, arith, length-append}
use Rattle.std.specs.Prelude.{All, AllPairs, unwrap_or, ◌≢◌}
use Rattle.std.specs.List.{range_with_len}
use Rattle.std.proofs.Math.Seq.{take-append_seam, take-length}
use Rattle.std.proofs.lemmas.List.{map-append, length-map}
use Rattle.std.proofs.lemmas.List.Elements.{All-nil, All-cons}
use Rattle.std.proofs.lemmas.Option.{slice_get_within, get_or_from_slice_get}
use Rattle.c_tree.specs.declared.program.VarRef.{VarRef}
use Rattle.c_tree.specs.declared.program.VarRef.TheVariants as refs
use Rattle.c_tree.specs.declared.uses.Use.{Use}
use Rattle.c_tree.specs.TypedTree.{ObjectTree}
use Rattle.c_tree.specs.Uses.{statement_uses}
use Rattle.c_rules.specs.Programs.{in_frame, is_pointed, is_single, scalars_in, objects_in, local_object, frame, function_tree}
use Rattle.c_rules.specs.Renumbering as by
use Rattle.c_rules.specs.Renumbering.{numbered, renumbered, number_in}
use Rattle.c_rules.specs.Statements.{LocalTree}
use Rattle.c_rules.specs.Units.{TypedFunction}
use Rattle.c_rules.proofs.Formed.Context.{numbers_from}
use Rattle.c_rules.proofs.Formed.FrameTypes.{IsPlaced, placed_in, references_differ, references_length}
use Rattle.c_rules.proofs.FrameNumbers.{numbered_from, references_counted}
use Rattle.c_rules.proofs.PlaceLemmas.{place_kept, place_within}
use Rattle.c_tree.specs.Declarations.{declared_in, declared_in_function, scalar_numbers, local_numbers, occurrences, DeclaredOnce, DeclaredInOrder}
use Rattle.c_tree.specs.Fills.{filled_in, FillsOwn, FillsFirst, fills_of, HasNoList, FilledOnce, FilledIfListed, FilledAsListed}
use Rattle.c_tree.specs.Fills.{FilledWhereDeclared, FilledBeforeUse}
use Rattle.c_types_proof.proofs.Counting.{one_below, ObjectsFilled, no_more_objects, object_filled, object_bare, filled_once, filled_as_listed}
use Rattle.c_types_proof.proofs.Grown.{AreFilled, no_object, with_fill, without_fill, filled_behind, numbers_joined, Adds}
use Rattle.c_types_proof.proofs.Named.{Differs}
use Rattle.c_types_proof.proofs.Renumbered.{Each, place, IsKept, declared_kept, filled_kept, own_kept}

-- what objects stand for, where the first of them is a frame scalar or not
abbrev next_numbers : List Use → Bool → ℕ → ℕ → ℕ → List LocalTree → List VarRef
next_numbers us b n scalars objects ls =
    if b then refs.Scalar scalars ∷ numbered_from us (suc n) (suc scalars) objects ls
    else refs.Local objects ∷ numbered_from us (suc n) scalars (suc objects) ls

-- the frame scalars and the objects in memory stand in order
scalars_in_order : (us : List Use) (n scalars objects : ℕ) (ls : List LocalTree)
    → scalar_numbers (numbered_from us n scalars objects ls) ≡ range_with_len scalars (length (scalars_in (numbered_from us n scalars objects ls) ls))
scalars_in_order us n scalars objects [] = refl
scalars_in_order us n scalars objects (l ∷ ls) =
    let next : suc scalars ≡ scalars + 1 = omega arith in
    let count : ℕ = length (scalars_in (numbered_from us (suc n) (suc scalars) objects ls) ls) in
    elim (in_frame l (is_pointed us n)) as (λ b.
    scalar_numbers (next_numbers us b n scalars objects ls)
    ≡ range_with_len scalars (length (scalars_in (next_numbers us b n scalars objects ls) (l ∷ ls)))) [
      | true ↦ ap (λ ns. scalars ∷ ns) (scalars_in_order us (suc n) (suc scalars) objects ls ∙ ap (λ m. range_with_len m count) next)
      | false ↦ scalars_in_order us (suc n) scalars (suc objects) ls
    ]

objects_in_order : (us : List Use) (n scalars objects : ℕ) (ls : List LocalTree)
    → local_numbers (numbered_from us n scalars objects ls) ≡ range_with_len objects (length (objects_in (numbered_from us n scalars objects ls) ls))
objects_in_order us n scalars objects [] = refl
objects_in_order us n scalars objects (l ∷ ls) =
    let next : suc objects ≡ objects + 1 = omega arith in
    let count : ℕ = length (objects_in (numbered_from us (suc n) scalars (suc objects) ls) ls) in
    elim (in_frame l (is_pointed us n)) as (λ b.
    local_numbers (next_numbers us b n scalars objects ls)
    ≡ range_with_len objects (length (objects_in (next_numbers us b n scalars objects ls) (l ∷ ls)))) [
      | true ↦ objects_in_order us (suc n) (suc scalars) objects ls
      | false ↦ ap (λ ns. objects ∷ ns) (objects_in_order us (suc n) scalars (suc objects) ls ∙ ap (λ m. range_with_len m count) next)
    ]

-- all numbers of a frame stand for its references
named_from : (all : List VarRef) (first : ℕ) (rest : List VarRef) → ((k : ℕ) → slice_get all (first + k) ≡ slice_get rest k)
    → map (renumbered all) (numbers_from first (length rest)) ≡ rest
named_from all first [] each = refl
named_from all first (r ∷ rest) each =
    let here : slice_get all first ≡ Some r = subst (λ n. slice_get all n ≡ Some r) (omega arith) (each 0) in
    let behind : (k : ℕ) → slice_get all (suc first + k) ≡ slice_get rest k =
    λ k. subst (λ n. slice_get all n ≡ slice_get rest k) (omega arith) (each (suc k)) in
    ap (λ o. unwrap_or o (refs.Local first) ∷ map (renumbered all) (numbers_from (suc first) (length rest))) here
    ∙ ap (λ rs. r ∷ rs) (named_from all (suc first) rest behind)

all_named : (all : List VarRef) → map (renumbered all) (numbers_from 0 (length all)) ≡ all
all_named all = named_from all 0 all (λ k. ap (slice_get all) (omega arith))

length_numbers : (first count : ℕ) → length (numbers_from first count) ≡ count
length_numbers first zero = refl
length_numbers first (suc count) = ap suc (length_numbers (suc first) count)

-- the first of them, and the others
split : (all : List VarRef) (p q : ℕ) → length all ≡ p + q → take p all ++ map (renumbered all) (numbers_from p q) ≡ all
split all p q long =
    let front : List VarRef = map (renumbered all) (numbers_from 0 p) in
    let back : List VarRef = map (renumbered all) (numbers_from p q) in
    let from : 0 + p ≡ p = omega arith in
    let whole : all ≡ front ++ back =
    sym (all_named all) ∙ ap (λ n. map (renumbered all) (numbers_from 0 n)) long
    ∙ ap (map (renumbered all)) (sym (numbers_joined 0 p q) ∙ ap (λ n. numbers_from 0 p ++ numbers_from n q) from)
    ∙ map-append (renumbered all) (numbers_from 0 p) (numbers_from p q) in
    let many : length front ≡ p = length-map (numbers_from 0 p) (renumbered all) ∙ length_numbers 0 p in
    let first : take p all ≡ front = ap (take p) whole ∙ ap (λ n. take n (front ++ back)) (sym many) ∙ take-append_seam front back in
    ap (λ l. l ++ back) first ∙ sym whole

-- a function that is made of its parameters and its body
pub record IsMadeWhole (Given : Type 0) (f : TypedFunction) : Type 0 where
  pub first : List LocalTree
  pub many : length first ≡ f.parameters
  pub bare : (n : ℕ) → AreFilled Given n first []
  pub adds : Adds Given first f.locals (declared_in f.body) (filled_in f.body)
  pub own : FillsOwn [] f.body
  pub before_use : (numbers : List VarRef) → Differs numbers → Each (IsKept numbers) (filled_in f.body) → FillsFirst (by.statement numbers f.body)

-- arrays among objects lie in memory, and are filled there by their own lists
module _ (Given : Type 0) (us : List Use) (all : List VarRef) where
  abbrev StandsAt : ℕ → List VarRef → Type 0
  StandsAt n rs = (k : ℕ) → slice_get all (n + k) ≡ slice_get rs k

  stands_next : (n : ℕ) (r : VarRef) (rs : List VarRef) → StandsAt n (r ∷ rs) → StandsAt (suc n) rs
  stands_next n r rs stands k = subst (λ m. slice_get all m ≡ slice_get rs k) (omega arith) (stands (suc k))

  stands_here : (n : ℕ) (r : VarRef) (rs : List VarRef) → StandsAt n (r ∷ rs) → slice_get all n ≡ Some r
  stands_here n r rs stands = subst (λ m. slice_get all m ≡ Some r) (omega arith) (stands 0)

  called : (n : ℕ) (r : VarRef) → slice_get all n ≡ Some r → numbered all n ≡ r
  called n r there = ap (λ o. unwrap_or o (refs.Local n)) there

  array_in_memory : (l : LocalTree) (pointed : Bool) → is_single l.object_type ≡ false → in_frame l pointed ≡ false
  array_in_memory l pointed array = ap (λ b. b && not pointed) array

  -- one array, and those behind it
  module _ (n scalars objects : ℕ) (l : LocalTree) (ls : List LocalTree) (ks : List ℕ) where
    array_kept : (b : Bool) → b ≡ false
        → StandsAt n (next_numbers us b n scalars objects ls)
        → (StandsAt (suc n) (numbered_from us (suc n) scalars (suc objects) ls) → Each (IsKept all) ks)
        → Each (IsKept all) (n ∷ ks)
    array_kept true is stands later = absurd (true≢false is)
    array_kept false is stands later =
        let rs : List VarRef = numbered_from us (suc n) scalars (suc objects) ls in
        let here : slice_get all n ≡ Some (refs.Local objects) = stands_here n (refs.Local objects) rs stands in
        (here ∙ sym (ap (λ r. Some (refs.Local (number_in r))) (called n (refs.Local objects) here)), later (stands_next n (refs.Local objects) rs stands))

    array_filled : (b : Bool) → b ≡ false → (Given → l.values ≢ [])
        → StandsAt n (next_numbers us b n scalars objects ls)
        → (StandsAt (suc n) (numbered_from us (suc n) scalars (suc objects) ls)
        → ObjectsFilled Given (suc objects) (objects_in (numbered_from us (suc n) scalars (suc objects) ls) ls) (map (place all) ks))
        → ObjectsFilled Given objects
        (objects_in (next_numbers us b n scalars objects ls) (l ∷ ls))
        (map (place all) (n ∷ ks))
    array_filled true is listed stands later = absurd (true≢false is)
    array_filled false is listed stands later =
        let rs : List VarRef = numbered_from us (suc n) scalars (suc objects) ls in
        let here : place all n ≡ objects = ap number_in (called n (refs.Local objects) (stands_here n (refs.Local objects) rs stands)) in
        subst (λ m. ObjectsFilled Given objects (local_object l ∷ objects_in rs ls) (m ∷ map (place all) ks)) (sym here)
        (object_filled listed (later (stands_next n (refs.Local objects) rs stands)))

    -- and one object without a list
    bare_kept : (b : Bool)
        → StandsAt n (next_numbers us b n scalars objects ls)
        → (StandsAt (suc n) (numbered_from us (suc n) (suc scalars) objects ls) → Each (IsKept all) ks)
        → (StandsAt (suc n) (numbered_from us (suc n) scalars (suc objects) ls) → Each (IsKept all) ks)
        → Each (IsKept all) ks
    bare_kept true stands scalar memory = scalar (stands_next n (refs.Scalar scalars) (numbered_from us (suc n) (suc scalars) objects ls) stands)
    bare_kept false stands scalar memory = memory (stands_next n (refs.Local objects) (numbered_from us (suc n) scalars (suc objects) ls) stands)

    bare_filled : (b : Bool) → l.values ≡ []
        → StandsAt n (next_numbers us b n scalars objects ls)
        → (StandsAt (suc n) (numbered_from us (suc n) (suc scalars) objects ls)
        → ObjectsFilled Given objects (objects_in (numbered_from us (suc n) (suc scalars) objects ls) ls) (map (place all) ks))
        → (StandsAt (suc n) (numbered_from us (suc n) scalars (suc objects) ls)
        → ObjectsFilled Given (suc objects) (objects_in (numbered_from us (suc n) scalars (suc objects) ls) ls) (map (place all) ks))
        → ObjectsFilled Given objects
        (objects_in (next_numbers us b n scalars objects ls) (l ∷ ls))
        (map (place all) ks)
    bare_filled true bare stands scalar memory = scalar (stands_next n (refs.Scalar scalars) (numbered_from us (suc n) (suc scalars) objects ls) stands)
    bare_filled false bare stands scalar memory =
        object_bare bare (memory (stands_next n (refs.Local objects) (numbered_from us (suc n) scalars (suc objects) ls) stands))

  arrays_kept : (n scalars objects : ℕ) (ls : List LocalTree) (ks : List ℕ) → AreFilled Given n ls ks → StandsAt n (numbered_from us n scalars objects ls)
      → Each (IsKept all) ks
  arrays_kept n scalars objects ls ks no_object stands = tt
  arrays_kept n scalars objects ls ks (with_fill {l = l} {ls = rest} {ks = fills} listed others) stands =
      array_kept n scalars objects l rest fills (in_frame l (is_pointed us n)) (array_in_memory l (is_pointed us n) listed.array) stands
      (arrays_kept (suc n) scalars (suc objects) rest fills others)
  arrays_kept n scalars objects ls ks (without_fill {l = l} {ls = rest} bare others) stands =
      bare_kept n scalars objects l rest ks (in_frame l (is_pointed us n)) stands
      (arrays_kept (suc n) (suc scalars) objects rest ks others) (arrays_kept (suc n) scalars (suc objects) rest ks others)

  arrays_filled : (n scalars objects : ℕ) (ls : List LocalTree) (ks : List ℕ) → AreFilled Given n ls ks → StandsAt n (numbered_from us n scalars objects ls)
      → ObjectsFilled Given objects (objects_in (numbered_from us n scalars objects ls) ls) (map (place all) ks)
  arrays_filled n scalars objects ls ks no_object stands = no_more_objects
  arrays_filled n scalars objects ls ks (with_fill {l = l} {ls = rest} {ks = fills} listed others) stands =
      array_filled n scalars objects l rest fills (in_frame l (is_pointed us n)) (array_in_memory l (is_pointed us n) listed.array) listed.listed stands
      (arrays_filled (suc n) scalars (suc objects) rest fills others)
  arrays_filled n scalars objects ls ks (without_fill {l = l} {ls = rest} bare others) stands =
      bare_filled n scalars objects l rest ks (in_frame l (is_pointed us n)) bare stands
      (arrays_filled (suc n) (suc scalars) objects rest ks others) (arrays_filled (suc n) scalars (suc objects) rest ks others)

-- parameters have no lists
bare_list : (Given : Type 0) (n k : ℕ) (ls : List LocalTree) (ks : List ℕ) (l : LocalTree) → AreFilled Given n ls ks → ks ≡ [] → slice_get ls k ≡ Some l
    → l.values ≡ []
bare_list Given n k ls ks l no_object none there = absurd (cc there)
bare_list Given n k ls ks l (with_fill listed others) none there = absurd (cc none)
bare_list Given n zero ls ks l (without_fill {l = first} bare others) none there = let same : first ≡ l = cc there in ap (λ x. x.values) (sym same) ∙ bare
bare_list Given n (suc k) ls ks l (without_fill {ls = rest} bare others) none there = bare_list Given (suc n) k rest ks l others none there

all_taken : {A : Type 0} (P : A → Type 0) (m : ℕ) (xs : List A) → ((k : ℕ) (x : A) → k < m → slice_get xs k ≡ Some x → P x) → All P (take m xs)
all_taken P zero xs each = All-nil P
all_taken P (suc m) [] each = All-nil P
all_taken P (suc m) (x ∷ xs) each =
    All-cons P x (take m xs) (each 0 x (omega arith) refl) (all_taken P m xs (λ k y less there. each (suc k) y (omega (arith, less)) there))

module _ (Given : Type 0) (f : TypedFunction) (made : IsMadeWhole Given f) where
  abbrev us : List Use
  us = statement_uses f.body

  filled : AreFilled Given 0 f.locals (filled_in f.body)
  filled =
      let behind : length made.first ≡ 0 + length made.first = omega arith in
      subst (λ ls. AreFilled Given 0 ls (filled_in f.body)) (sym made.adds.grown)
      (filled_behind Given 0 made.first made.adds.others [] (filled_in f.body) (made.bare 0)
      (subst (λ n. AreFilled Given n made.adds.others (filled_in f.body)) behind made.adds.filled))

  -- what it declares is its frame
  declares_frame : declared_in_function (function_tree f) ≡ frame f
  declares_frame =
      let long : length (frame f) ≡ f.parameters + length made.adds.others =
      references_length us f.locals ∙ ap length made.adds.grown ∙ length-append made.first made.adds.others
      ∙ ap (λ n. n + length made.adds.others) made.many in
      let body : declared_in (function_tree f).body ≡ map (renumbered (frame f)) (numbers_from f.parameters (length made.adds.others)) =
      declared_kept (frame f) f.body ∙ ap (map (renumbered (frame f))) (made.adds.declared ∙ ap (λ n. numbers_from n (length made.adds.others)) made.many) in
      ap (λ l. take f.parameters (frame f) ++ l) body ∙ split (frame f) f.parameters (length made.adds.others) long

  pub in_order : DeclaredInOrder (function_tree f)
  in_order = record {
    scalars =
        ap scalar_numbers declares_frame
        ∙ subst (λ rs. scalar_numbers rs ≡ range_with_len 0 (length (scalars_in rs f.locals))) (sym (references_counted us f.locals))
        (scalars_in_order us 0 0 0 f.locals);
    locals =
        ap local_numbers declares_frame
        ∙ subst (λ rs. local_numbers rs ≡ range_with_len 0 (length (objects_in rs f.locals))) (sym (references_counted us f.locals))
        (objects_in_order us 0 0 0 f.locals);
  }

  pub declared_once : DeclaredOnce (function_tree f)
  declared_once = record {
    scalars = λ n less. ap (occurrences n) in_order.scalars ∙ one_below n (length (function_tree f).scalars) less;
    locals = λ n less. ap (occurrences n) in_order.locals ∙ one_below n (length (function_tree f).locals) less;
  }

  stands : StandsAt Given us (frame f) 0 (numbered_from us 0 0 0 f.locals)
  stands k =
      let place : 0 + k ≡ k = omega arith in
      ap (slice_get (frame f)) place ∙ ap (λ rs. slice_get rs k) (references_counted us f.locals)

  objects_filled : ObjectsFilled Given 0 (function_tree f).locals (filled_in (function_tree f).body)
  objects_filled =
      subst (ObjectsFilled Given 0 (function_tree f).locals) (sym (filled_kept (frame f) f.body))
      (subst (λ rs. ObjectsFilled Given 0 (objects_in rs f.locals) (map (place (frame f)) (filled_in f.body))) (sym (references_counted us f.locals))
      (arrays_filled Given us (frame f) 0 0 0 f.locals (filled_in f.body) filled stands))

  pub once : FilledOnce (function_tree f)
  once n = filled_once Given n 0 (function_tree f).locals (filled_in (function_tree f).body) objects_filled

  -- how often an object in memory is filled
  abbrev IsFilledRight : ObjectTree → ℕ → Type 0
  IsFilledRight o n =
      (o.initial ≢ [] → occurrences n (filled_in (function_tree f).body) ≡ 1) × (Given → occurrences n (filled_in (function_tree f).body) ≡ fills_of o.initial)

  at_place : (n : ℕ) (o : ObjectTree) → slice_get (function_tree f).locals n ≡ Some o → IsFilledRight o n
  at_place n o there =
      let place : 0 + n ≡ n = omega arith in
      subst (IsFilledRight o) place (filled_as_listed Given 0 n o (function_tree f).locals (filled_in (function_tree f).body) objects_filled there)

  -- a parameter is a frame scalar, or an object in memory without a list
  parameter_bare : (k : ℕ) (r : VarRef) (l : LocalTree) → slice_get (frame f) k ≡ Some r → l.values ≡ [] → IsPlaced us 0 0 0 k (frame f) f.locals l
      → HasNoList (function_tree f) r
  parameter_bare k r l named bare (inl is) =
      let same : r ≡ refs.Scalar (0 + is.number) = cc (sym named ∙ is.reference) in subst (HasNoList (function_tree f)) (sym same) tt
  parameter_bare k r l named bare (inr is) =
      let same : r ≡ refs.Local (0 + is.number) = cc (sym named ∙ is.reference) in
      let place : is.number ≡ 0 + is.number = omega arith in
      let object : slice_get (function_tree f).locals (0 + is.number) ≡ Some (local_object l) =
      subst (λ n. slice_get (function_tree f).locals n ≡ Some (local_object l)) place is.object in
      subst (HasNoList (function_tree f)) (sym same)
      (λ o there. let one : local_object l ≡ o = cc (sym object ∙ there) in ap (λ x. x.initial) (sym one) ∙ bare)

  parameter_at : (k : ℕ) (r : VarRef) → k < f.parameters → slice_get (frame f) k ≡ Some r → HasNoList (function_tree f) r
  parameter_at k r less named =
      let l = place_within made.first k (omega (arith, less, made.many)) in
      let there : slice_get f.locals k ≡ Some l.0 = ap (λ ls. slice_get ls k) made.adds.grown ∙ place_kept made.first made.adds.others k l.0 l.1 in
      parameter_bare k r l.0 named (bare_list Given 0 k made.first [] l.0 (made.bare 0) refl l.1) (placed_in us f.locals k l.0 there)

  pub filled_if_listed : FilledIfListed (function_tree f)
  filled_if_listed = record {
    locals = λ n o there some. (at_place n o there).0 some;
    parameters = all_taken (HasNoList (function_tree f)) f.parameters (frame f) parameter_at;
  }

  pub filled_by_lists : Given → FilledAsListed (function_tree f)
  filled_by_lists given n o there = (at_place n o there).1 given

  kept : Each (IsKept (frame f)) (filled_in f.body)
  kept = arrays_kept Given us (frame f) 0 0 0 f.locals (filled_in f.body) filled stands

  pub where_declared : FilledWhereDeclared (function_tree f)
  where_declared = own_kept (frame f) [] f.body kept made.own

  -- a frame calls no two objects the same
  all_differ : AllPairs (λ a b. a ≢ b) (frame f)
  all_differ = subst (AllPairs (λ a b. a ≢ b)) (take-length (frame f)) (references_differ us (length (frame f)) f.locals)

  frame_differs : Differs (frame f)
  frame_differs m n less is_kept same =
      let last : VarRef = refs.Local (place (frame f) n) in
      let below : n < length (frame f) = slice_get_within (frame f) n last is_kept in
      let r = place_within (frame f) m (omega (arith, less, below)) in
      let called : numbered (frame f) m ≡ r.0 = ap (λ o. unwrap_or o (refs.Local m)) r.1 in
      all_differ m n last less below
      (get_or_from_slice_get (frame f) m r.0 last r.1 ∙ sym called ∙ same ∙ sym (get_or_from_slice_get (frame f) n last last is_kept))

  pub before_use : FilledBeforeUse (function_tree f)
  before_use = made.before_use (frame f) frame_differs kept
