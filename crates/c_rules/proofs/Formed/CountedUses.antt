-- How many addresses a typed tree takes, and how many objects of a frame lie in memory.
use Rattle.std.proofs.Common.{◌≡◌, ap, ◌≤◌, ◌<◌, ◌+◌, ℕ, suc, ◌==◌, ◌&&◌, ◌||◌, not, Bool, true, false, if◌then◌else◌, List, [], ◌∷◌, ◌++◌, length, refl, arith}
use Rattle.std.proofs.lemmas.Bool.{eqb-true}
use Rattle.c_tree.specs.declared.program.VarRef.{VarRef}
use Rattle.c_tree.specs.declared.program.VarRef.TheVariants as refs
use Rattle.c_tree.specs.declared.uses.Use.{Use}
use Rattle.c_tree.specs.declared.uses.Use.TheVariants.{Address, Call, Cases}
use Rattle.c_rules.specs.declared.meaning.ObjectType.{ObjectType}
use Rattle.c_rules.specs.declared.meaning.ObjectType.TheVariants.{Single, Array}
use Rattle.c_rules.proofs.FrameNumbers.{numbered_from, references_counted}
use Rattle.c_rules.specs.Programs.{is_pointed, is_single, names_local, objects_in, references}
use Rattle.c_rules.specs.Statements.{LocalTree}

abbrev pub addresses : List Use → ℕ
addresses [] = 0
addresses (Address r ∷ us) = suc (addresses us)
addresses (Call f at ∷ us) = addresses us
addresses (Cases n ∷ us) = addresses us

pub addresses_joined : (us vs : List Use) → addresses (us ++ vs) ≡ addresses us + addresses vs
addresses_joined [] vs = omega arith
addresses_joined (Address r ∷ us) vs = omega (arith, addresses_joined us vs)
addresses_joined (Call f at ∷ us) vs = addresses_joined us vs
addresses_joined (Cases n ∷ us) vs = addresses_joined us vs

-- the objects that aren't single
abbrev pub array_in : ObjectType → ℕ
array_in (Single kind) = 0
array_in (Array kind n) = 1

abbrev pub arrays : List LocalTree → ℕ
arrays [] = 0
arrays (l ∷ ls) = array_in l.object_type + arrays ls

pub arrays_joined : (ls ms : List LocalTree) → arrays (ls ++ ms) ≡ arrays ls + arrays ms
arrays_joined [] ms = omega arith
arrays_joined (l ∷ ls) ms = omega (arith, arrays_joined ls ms)

-- how many of these numbers have a mark, from one on
abbrev bit : Bool → ℕ
bit true = 1
bit false = 0

abbrev marked : (ℕ → Bool) → ℕ → List LocalTree → ℕ
marked mark n [] = 0
marked mark n (l ∷ ls) = bit (mark n) + marked mark (suc n) ls

bit_either : (a b : Bool) → bit (a || b) ≤ bit a + bit b
bit_either true b = omega arith
bit_either false b = omega arith

marked_either : (f g : ℕ → Bool) (n : ℕ) (ls : List LocalTree) → marked (λ m. f m || g m) n ls ≤ marked f n ls + marked g n ls
marked_either f g n [] = omega arith
marked_either f g n (l ∷ ls) = omega (arith, bit_either (f n) (g n), marked_either f g (suc n) ls)

marked_none : (n : ℕ) (ls : List LocalTree) → marked (λ m. false) n ls ≡ 0
marked_none n [] = refl
marked_none n (l ∷ ls) = omega (arith, marked_none (suc n) ls)

-- one number is met at most once
bit_false : (b : Bool) → (b ≡ true → ⊥) → bit b ≡ 0
bit_false true never = absurd (never refl)
bit_false false never = refl

marked_before : (m n : ℕ) (ls : List LocalTree) → m < n → marked (λ k. m == k) n ls ≡ 0
marked_before m n [] below = refl
marked_before m n (l ∷ ls) below =
    let other : bit (m == n) ≡ 0 = bit_false (m == n) (λ same. let equal = eqb-true m n same in omega (arith, below, equal)) in
    omega (arith, other, marked_before m (suc n) ls (omega (arith, below)))

bit_once : (b : Bool) (rest : ℕ) → rest ≤ 1 → (b ≡ true → rest ≡ 0) → bit b + rest ≤ 1
bit_once true rest few none = let last = none refl in omega (arith, last)
bit_once false rest few none = omega (arith, few)

marked_once : (m n : ℕ) (ls : List LocalTree) → marked (λ k. m == k) n ls ≤ 1
marked_once m n [] = omega arith
marked_once m n (l ∷ ls) =
    bit_once (m == n) (marked (λ k. m == k) (suc n) ls) (marked_once m (suc n) ls)
    (λ same. let equal = eqb-true m n same in marked_before m (suc n) ls (omega (arith, equal)))

marked_reference : (r : VarRef) (n : ℕ) (ls : List LocalTree) → marked (names_local r) n ls ≤ 1
marked_reference (refs.Local m) n ls = marked_once m n ls
marked_reference (refs.Scalar m) n ls = omega (arith, marked_none n ls)
marked_reference (refs.Static m) n ls = omega (arith, marked_none n ls)

pointed_few : (us : List Use) (n : ℕ) (ls : List LocalTree) → marked (is_pointed us) n ls ≤ addresses us
pointed_few [] n ls = omega (arith, marked_none n ls)
pointed_few (Address r ∷ us) n ls =
    omega (arith, marked_either (names_local r) (is_pointed us) n ls, marked_reference r n ls, pointed_few us n ls)
pointed_few (Call f at ∷ us) n ls = pointed_few us n ls
pointed_few (Cases m ∷ us) n ls = pointed_few us n ls

-- an object in memory isn't single, or its address is taken
bit_in_memory : (type : ObjectType) (pointed : Bool) → (is_single type && not pointed) ≡ false → 1 ≤ array_in type + bit pointed
bit_in_memory (Single kind) true in_memory = omega arith
bit_in_memory (Single kind) false in_memory = absurd (cc in_memory)
bit_in_memory (Array kind n) pointed in_memory = omega arith

module _ (us : List Use) (n scalars objects : ℕ) (l : LocalTree) (ls : List LocalTree) where
  -- the numbers where the first object is a frame scalar, and where it isn't
  abbrev numbered_as : Bool → List VarRef
  numbered_as b =
      if b then refs.Scalar scalars ∷ numbered_from us (suc n) (suc scalars) objects ls
      else refs.Local objects ∷ numbered_from us (suc n) scalars (suc objects) ls

  first_marked : (b : Bool) → (is_single l.object_type && not (is_pointed us n)) ≡ b
      → ((i j : ℕ) → length (objects_in (numbered_from us (suc n) i j ls) ls) ≤ arrays ls + marked (is_pointed us) (suc n) ls)
      → length (objects_in (numbered_as b) (l ∷ ls)) ≤ arrays (l ∷ ls) + marked (is_pointed us) n (l ∷ ls)
  first_marked true scalar others = omega (arith, others (suc scalars) objects)
  first_marked false in_memory others = omega (arith, others scalars (suc objects), bit_in_memory l.object_type (is_pointed us n) in_memory)

objects_marked : (us : List Use) (n scalars objects : ℕ) (ls : List LocalTree)
    → length (objects_in (numbered_from us n scalars objects ls) ls) ≤ arrays ls + marked (is_pointed us) n ls
objects_marked us n scalars objects [] = omega arith
objects_marked us n scalars objects (l ∷ ls) =
    first_marked us n scalars objects l ls (is_single l.object_type && not (is_pointed us n)) refl (λ i j. objects_marked us (suc n) i j ls)

-- the objects of a frame
pub frame_objects_few : (us : List Use) (ls : List LocalTree) → length (objects_in (references us ls) ls) ≤ arrays ls + addresses us
frame_objects_few us ls =
    omega (arith, ap (λ rs. length (objects_in rs ls)) (references_counted us ls), objects_marked us 0 0 0 ls, pointed_few us 0 ls)
