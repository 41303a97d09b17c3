-- The objects of a function by their numbers among their own kind.
use Rattle.std.proofs.Common.{◌≡◌, ◌≤◌, ◌⊎◌, inl, inr, ◌+◌, ◌∷◌, [], ℕ, suc, zero, Bool, true, false, if◌then◌else◌, ◌&&◌, not, List, map, take, length, slice_get, Some, ap, ◌∙◌, sym, refl, subst, arith}
use Rattle.std.specs.Prelude.{All, AllPairs, ◌≢◌}
use Rattle.std.proofs.lemmas.List.Elements.{All-cons, All-nil, All-take, All-head, All-tail}
use Rattle.std.proofs.lemmas.List.Kept.{AllPairs-cons}
use Rattle.c_tree.specs.declared.program.ScalarType.{ScalarType}
use Rattle.c_tree.specs.declared.program.VarRef.{VarRef}
use Rattle.c_tree.specs.declared.program.VarRef.TheVariants as refs
use Rattle.c_tree.specs.TypedTree.{ObjectTree}
use Rattle.c_tree.specs.declared.uses.Use.{Use}
use Rattle.c_rules.specs.Programs.{frame_scalars}
use Rattle.c_rules.specs.Programs.{is_pointed, is_single, scalars_in, objects_in, cell_kind, local_object, references}
use Rattle.c_rules.specs.Statements.{LocalTree}
use Rattle.c_rules.proofs.FrameNumbers.{numbered_from, references_counted}

-- an object is a frame scalar, or an object in memory
pub record IsScalar (us : List Use) (n first k : ℕ) (rs : List VarRef) (ls : List LocalTree) (l : LocalTree) : Type 0 where
  pub number : ℕ
  pub reference : slice_get rs k ≡ Some (refs.Scalar (first + number))
  pub kind : slice_get (scalars_in rs ls) number ≡ Some (cell_kind l.object_type)
  pub single : is_single l.object_type ≡ true
  pub unpointed : is_pointed us (n + k) ≡ false

pub record IsInMemory (first k : ℕ) (rs : List VarRef) (ls : List LocalTree) (l : LocalTree) : Type 0 where
  pub number : ℕ
  pub reference : slice_get rs k ≡ Some (refs.Local (first + number))
  pub object : slice_get (objects_in rs ls) number ≡ Some (local_object l)

-- what the first object is
module _ (us : List Use) (n scalars objects : ℕ) (l : LocalTree) (ls : List LocalTree) where
  first_scalar : is_single l.object_type ≡ true → is_pointed us n ≡ false
      → IsScalar us n scalars 0 (refs.Scalar scalars ∷ numbered_from us (suc n) (suc scalars) objects ls) (l ∷ ls) l
  first_scalar single unpointed = record {
    number = 0;
    reference = ap (λ m. Some (refs.Scalar m)) (omega arith);
    kind = refl;
    single = single;
    unpointed = subst (λ m. is_pointed us m ≡ false) (omega arith) unpointed;
  }

  first_object : IsInMemory objects 0 (refs.Local objects ∷ numbered_from us (suc n) scalars (suc objects) ls) (l ∷ ls) l
  first_object = record { number = 0; reference = ap (λ m. Some (refs.Local m)) (omega arith); object = refl }

-- what a later one is, behind a frame scalar and behind an object in memory
module _ (us : List Use) (n scalars objects k : ℕ) (rs : List VarRef) (l m : LocalTree) (ls : List LocalTree) where
  scalar_behind_scalar : IsScalar us (suc n) (suc scalars) k rs ls m → IsScalar us n scalars (suc k) (refs.Scalar scalars ∷ rs) (l ∷ ls) m
  scalar_behind_scalar is = record {
    number = suc is.number;
    reference = is.reference ∙ ap (λ i. Some (refs.Scalar i)) (omega arith);
    kind = is.kind;
    single = is.single;
    unpointed = subst (λ i. is_pointed us i ≡ false) (omega arith) is.unpointed;
  }

  scalar_behind_object : IsScalar us (suc n) scalars k rs ls m → IsScalar us n scalars (suc k) (refs.Local objects ∷ rs) (l ∷ ls) m
  scalar_behind_object is = record {
    number = is.number;
    reference = is.reference;
    kind = is.kind;
    single = is.single;
    unpointed = subst (λ i. is_pointed us i ≡ false) (omega arith) is.unpointed;
  }

  object_behind_scalar : IsInMemory objects k rs ls m → IsInMemory objects (suc k) (refs.Scalar scalars ∷ rs) (l ∷ ls) m
  object_behind_scalar is = record { number = is.number; reference = is.reference; object = is.object }

  object_behind_object : IsInMemory (suc objects) k rs ls m → IsInMemory objects (suc k) (refs.Local objects ∷ rs) (l ∷ ls) m
  object_behind_object is = record {
    number = suc is.number;
    reference = is.reference ∙ ap (λ i. Some (refs.Local i)) (omega arith);
    object = is.object;
  }

abbrev pub IsPlaced : List Use → ℕ → ℕ → ℕ → ℕ → List VarRef → List LocalTree → LocalTree → Type 0
IsPlaced us n scalars objects k rs ls l = IsScalar us n scalars k rs ls l ⊎ IsInMemory objects k rs ls l

module _ (us : List Use) (n scalars objects k : ℕ) (rs : List VarRef) (l m : LocalTree) (ls : List LocalTree) where
  behind_scalar : IsPlaced us (suc n) (suc scalars) objects k rs ls m → IsPlaced us n scalars objects (suc k) (refs.Scalar scalars ∷ rs) (l ∷ ls) m
  behind_scalar (inl is) = inl (scalar_behind_scalar us n scalars objects k rs l m ls is)
  behind_scalar (inr is) = inr (object_behind_scalar us n scalars objects k rs l m ls is)

  behind_object : IsPlaced us (suc n) scalars (suc objects) k rs ls m → IsPlaced us n scalars objects (suc k) (refs.Local objects ∷ rs) (l ∷ ls) m
  behind_object (inl is) = inl (scalar_behind_object us n scalars objects k rs l m ls is)
  behind_object (inr is) = inr (object_behind_object us n scalars objects k rs l m ls is)

both_true : (a b : Bool) → (a && not b) ≡ true → (a ≡ true) × (b ≡ false)
both_true true true is = absurd (cc is)
both_true true false is = (refl, refl)
both_true false b is = absurd (cc is)

placed : (us : List Use) (n scalars objects : ℕ) (ls : List LocalTree) (k : ℕ) (l : LocalTree) → slice_get ls k ≡ Some l
    → IsPlaced us n scalars objects k (numbered_from us n scalars objects ls) ls l
placed us n scalars objects [] k l there = absurd (cc there)
placed us n scalars objects (m ∷ ls) zero l there =
    let same : m ≡ l = cc there
    in let here : (b : Bool) → (is_single m.object_type && not (is_pointed us n)) ≡ b
    → IsPlaced us n scalars objects 0 (if b then refs.Scalar scalars ∷ numbered_from us (suc n) (suc scalars) objects ls else refs.Local objects ∷ numbered_from us (suc n) scalars (suc objects) ls) (m ∷ ls) m
    = λ b is. elim b as (λ b. (is_single m.object_type && not (is_pointed us n)) ≡ b
    → IsPlaced us n scalars objects 0 (if b then refs.Scalar scalars ∷ numbered_from us (suc n) (suc scalars) objects ls else refs.Local objects ∷ numbered_from us (suc n) scalars (suc objects) ls) (m ∷ ls) m) [
      | true ↦ (λ is. let both = both_true (is_single m.object_type) (is_pointed us n) is in inl (first_scalar us n scalars objects m ls both.0 both.1))
      | false ↦ (λ is. inr (first_object us n scalars objects m ls))
    ] is
    in subst (λ x. IsPlaced us n scalars objects 0 (numbered_from us n scalars objects (m ∷ ls)) (m ∷ ls) x) same (here (is_single m.object_type && not (is_pointed us n)) refl)
placed us n scalars objects (m ∷ ls) (suc k) l there =
    elim (is_single m.object_type && not (is_pointed us n)) as (λ b.
    IsPlaced us n scalars objects (suc k) (if b then refs.Scalar scalars ∷ numbered_from us (suc n) (suc scalars) objects ls else refs.Local objects ∷ numbered_from us (suc n) scalars (suc objects) ls) (m ∷ ls) l) [
      | true ↦ behind_scalar us n scalars objects k (numbered_from us (suc n) (suc scalars) objects ls) m l ls (placed us (suc n) (suc scalars) objects ls k l there)
      | false ↦ behind_object us n scalars objects k (numbered_from us (suc n) scalars (suc objects) ls) m l ls (placed us (suc n) scalars (suc objects) ls k l there)
    ]

-- a frame names each object once
no_pair : AllPairs {X = VarRef} (λ a b. a ≢ b) []
no_pair i j d less below = absurd (omega (arith, below))

abbrev IsFrom : ℕ → ℕ → VarRef → Type 0
IsFrom scalars objects (refs.Scalar m) = scalars ≤ m
IsFrom scalars objects (refs.Local m) = objects ≤ m
IsFrom scalars objects (refs.Static m) = ⊥

behind_scalars : (scalars objects : ℕ) (r : VarRef) → IsFrom (suc scalars) objects r → IsFrom scalars objects r
behind_scalars scalars objects (refs.Scalar m) from = omega (arith, from)
behind_scalars scalars objects (refs.Local m) from = from
behind_scalars scalars objects (refs.Static m) from = from

behind_objects : (scalars objects : ℕ) (r : VarRef) → IsFrom scalars (suc objects) r → IsFrom scalars objects r
behind_objects scalars objects (refs.Scalar m) from = from
behind_objects scalars objects (refs.Local m) from = omega (arith, from)
behind_objects scalars objects (refs.Static m) from = from

other_scalar : (scalars objects : ℕ) (r : VarRef) → IsFrom (suc scalars) objects r → refs.Scalar scalars ≢ r
other_scalar scalars objects (refs.Scalar m) from = λ same. let number : scalars ≡ m = cc same in absurd (omega (arith, from, number))
other_scalar scalars objects (refs.Local m) from = λ same. absurd (cc same)
other_scalar scalars objects (refs.Static m) from = absurd from

other_object : (scalars objects : ℕ) (r : VarRef) → IsFrom scalars (suc objects) r → refs.Local objects ≢ r
other_object scalars objects (refs.Scalar m) from = λ same. absurd (cc same)
other_object scalars objects (refs.Local m) from = λ same. let number : objects ≡ m = cc same in absurd (omega (arith, from, number))
other_object scalars objects (refs.Static m) from = absurd from

all_from : (us : List Use) (n scalars objects : ℕ) (ls : List LocalTree) → All (IsFrom scalars objects) (numbered_from us n scalars objects ls)
all_from us n scalars objects [] = All-nil (IsFrom scalars objects)
all_from us n scalars objects (l ∷ ls) =
    elim (is_single l.object_type && not (is_pointed us n)) as (λ b. All (IsFrom scalars objects)
    (if b then refs.Scalar scalars ∷ numbered_from us (suc n) (suc scalars) objects ls else refs.Local objects ∷ numbered_from us (suc n) scalars (suc objects) ls)) [
      | true ↦ All-cons (IsFrom scalars objects) (refs.Scalar scalars) (numbered_from us (suc n) (suc scalars) objects ls) (omega arith)
          (λ k d below. behind_scalars scalars objects _ (all_from us (suc n) (suc scalars) objects ls k d below))
      | false ↦ All-cons (IsFrom scalars objects) (refs.Local objects) (numbered_from us (suc n) scalars (suc objects) ls) (omega arith)
          (λ k d below. behind_objects scalars objects _ (all_from us (suc n) scalars (suc objects) ls k d below))
    ]

frame_differs : (us : List Use) (n scalars objects m : ℕ) (ls : List LocalTree) → AllPairs (λ a b. a ≢ b) (take m (numbered_from us n scalars objects ls))
frame_differs us n scalars objects zero ls = no_pair
frame_differs us n scalars objects (suc m) [] = no_pair
frame_differs us n scalars objects (suc m) (l ∷ ls) =
    elim (is_single l.object_type && not (is_pointed us n)) as (λ b. AllPairs (λ a b. a ≢ b)
    (take (suc m) (if b then refs.Scalar scalars ∷ numbered_from us (suc n) (suc scalars) objects ls else refs.Local objects ∷ numbered_from us (suc n) scalars (suc objects) ls))) [
      | true ↦ AllPairs-cons (λ a b. a ≢ b) (refs.Scalar scalars) (take m (numbered_from us (suc n) (suc scalars) objects ls))
          (All-take (λ r. refs.Scalar scalars ≢ r) m (numbered_from us (suc n) (suc scalars) objects ls)
          (λ k d below. other_scalar scalars objects _ (all_from us (suc n) (suc scalars) objects ls k d below)))
          (frame_differs us (suc n) (suc scalars) objects m ls)
      | false ↦ AllPairs-cons (λ a b. a ≢ b) (refs.Local objects) (take m (numbered_from us (suc n) scalars (suc objects) ls))
          (All-take (λ r. refs.Local objects ≢ r) m (numbered_from us (suc n) scalars (suc objects) ls)
          (λ k d below. other_object scalars objects _ (all_from us (suc n) scalars (suc objects) ls k d below)))
          (frame_differs us (suc n) scalars (suc objects) m ls)
    ]

frame_length : (us : List Use) (n scalars objects : ℕ) (ls : List LocalTree) → length (numbered_from us n scalars objects ls) ≡ length ls
frame_length us n scalars objects [] = refl
frame_length us n scalars objects (l ∷ ls) =
    elim (is_single l.object_type && not (is_pointed us n)) as (λ b.
    length (if b then refs.Scalar scalars ∷ numbered_from us (suc n) (suc scalars) objects ls else refs.Local objects ∷ numbered_from us (suc n) scalars (suc objects) ls) ≡ suc (length ls))
    [ true ↦ ap suc (frame_length us (suc n) (suc scalars) objects ls) | false ↦ ap suc (frame_length us (suc n) scalars (suc objects) ls) ]

-- the same of what a function's objects stand for
pub placed_in : (us : List Use) (ls : List LocalTree) (k : ℕ) (l : LocalTree) → slice_get ls k ≡ Some l → IsPlaced us 0 0 0 k (references us ls) ls l
placed_in us ls k l there = subst (λ rs. IsPlaced us 0 0 0 k rs ls l) (sym (references_counted us ls)) (placed us 0 0 0 ls k l there)

pub references_differ : (us : List Use) (m : ℕ) (ls : List LocalTree) → AllPairs (λ a b. a ≢ b) (take m (references us ls))
references_differ us m ls = subst (λ rs. AllPairs (λ a b. a ≢ b) (take m rs)) (sym (references_counted us ls)) (frame_differs us 0 0 0 m ls)

pub references_length : (us : List Use) (ls : List LocalTree) → length (references us ls) ≡ length ls
references_length us ls = ap length (references_counted us ls) ∙ frame_length us 0 0 0 ls

-- the types of the scalars and the other objects are those of the function's objects
pub scalar_count : (rs : List VarRef) (ls : List LocalTree) → length rs ≡ length ls → frame_scalars rs ≡ length (scalars_in rs ls)
scalar_count [] ls same = refl
scalar_count (r ∷ rs) [] same = absurd (omega (arith, same))
scalar_count (refs.Scalar m ∷ rs) (l ∷ ls) same = ap suc (scalar_count rs ls (omega (arith, same)))
scalar_count (refs.Local m ∷ rs) (l ∷ ls) same = scalar_count rs ls (omega (arith, same))
scalar_count (refs.Static m ∷ rs) (l ∷ ls) same = scalar_count rs ls (omega (arith, same))

module _ (P : LocalTree → Type 0) where
  module _ (Q : ScalarType → Type 0) (each : (l : LocalTree) → P l → Q (cell_kind l.object_type)) where
    pub all_scalars : (rs : List VarRef) (ls : List LocalTree) → All P ls → All Q (scalars_in rs ls)
    all_scalars [] ls all = All-nil Q
    all_scalars (refs.Scalar m ∷ rs) [] all = All-nil Q
    all_scalars (refs.Local m ∷ rs) [] all = All-nil Q
    all_scalars (refs.Static m ∷ rs) [] all = All-nil Q
    all_scalars (refs.Scalar m ∷ rs) (l ∷ ls) all =
        All-cons Q (cell_kind l.object_type) (scalars_in rs ls) (each l (All-head P l ls all)) (all_scalars rs ls (All-tail P l ls all))
    all_scalars (refs.Local m ∷ rs) (l ∷ ls) all = all_scalars rs ls (All-tail P l ls all)
    all_scalars (refs.Static m ∷ rs) (l ∷ ls) all = all_scalars rs ls (All-tail P l ls all)

  module _ (Q : ObjectTree → Type 0) (each : (l : LocalTree) → P l → Q (local_object l)) where
    pub all_objects : (rs : List VarRef) (ls : List LocalTree) → All P ls → All Q (objects_in rs ls)
    all_objects [] ls all = All-nil Q
    all_objects (refs.Scalar m ∷ rs) [] all = All-nil Q
    all_objects (refs.Local m ∷ rs) [] all = All-nil Q
    all_objects (refs.Static m ∷ rs) [] all = All-nil Q
    all_objects (refs.Scalar m ∷ rs) (l ∷ ls) all = all_objects rs ls (All-tail P l ls all)
    all_objects (refs.Local m ∷ rs) (l ∷ ls) all =
        All-cons Q (local_object l) (objects_in rs ls) (each l (All-head P l ls all)) (all_objects rs ls (All-tail P l ls all))
    all_objects (refs.Static m ∷ rs) (l ∷ ls) all = all_objects rs ls (All-tail P l ls all)

-- lists of which the elements agree place by place
pub same_taken : {A B C : Type 0} (g : A → C) (h : B → C) (m : ℕ) (xs : List A) (ys : List B) → length xs ≡ length ys
    → ((k : ℕ) (x : A) (y : B) → slice_get xs k ≡ Some x → slice_get ys k ≡ Some y → g x ≡ h y) → map g (take m xs) ≡ map h (take m ys)
same_taken g h zero xs ys long each = refl
same_taken g h (suc m) [] [] long each = refl
same_taken g h (suc m) [] (y ∷ ys) long each = absurd (omega (arith, long))
same_taken g h (suc m) (x ∷ xs) [] long each = absurd (omega (arith, long))
same_taken g h (suc m) (x ∷ xs) (y ∷ ys) long each =
    ap (λ z. z ∷ map g (take m xs)) (each 0 x y refl refl)
    ∙ ap (λ zs. h y ∷ zs) (same_taken g h m xs ys (omega (arith, long)) (λ k v w first last. each (suc k) v w first last))
