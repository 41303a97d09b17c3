-- The names within a block, and within a function: they know the objects that it declares, which are numbered one behind another.
use Rattle.std.proofs.Common.{◌≡◌, ◌≤◌, ◌<◌, ◌==◌, ℕ, zero, suc, ◌+◌, ◌-◌, true, false, Bool, if◌then◌else◌, List, [], length, slice_get, Option, Some}
use Rattle.std.proofs.Common.{refl, sym, ap, ◌∙◌, subst, inl, inr, arith}
use Rattle.std.specs.Prelude.{All, AllPairs, ◌≢◌}
use Rattle.std.proofs.Math.Path.{fun_ext}
use Rattle.std.proofs.lemmas.Bool.{or_left, or_right, or_from}
use Rattle.std.proofs.lemmas.Bool.Decides.{eqb_tells}
use Rattle.std.proofs.lemmas.List.Elements.{All-nil, All-cons}
use Rattle.std.proofs.lemmas.List.Kept.{AllPairs-cons}
use Rattle.std.proofs.lemmas.Option.{slice_get_within}
use Rattle.c_tree.specs.declared.program.VarRef.{VarRef}
use Rattle.c_tree.specs.declared.program.VarRef.TheVariants as refs
use Rattle.c_rules.specs.declared.meaning.Meaning.{Meaning}
use Rattle.c_rules.specs.declared.meaning.Meaning.TheVariants as meanings
use Rattle.c_rules.specs.Programs.{is_single}
use Rattle.c_rules.specs.Scopes.{Scope}
use Rattle.c_rules.specs.Statements.{LocalTree}
use Rattle.c_rules.specs.Typing.{bodies_before}
use Rattle.c_tree.specs.WellFormed.{Shape, Names, IsThere, IsNew, AreNew, is_among, opened}
use Rattle.c_rules.proofs.Formed.Context.{shape_of, IsMeaning, Fits, Holds, Lies, numbers_from, static_in}
use Rattle.c_rules.proofs.PlaceLemmas.{place_within}

-- the numbers from one on
among : (first count k : ℕ) → first ≤ k → k < first + count → is_among (refs.Local k) (numbers_from first count) ≡ true
among first zero k low high = absurd (omega (arith, low, high))
among first (suc count) k low high =
    elim (eqb_tells first k) [
      | inl same ↦ or_left (first == k) (is_among (refs.Local k) (numbers_from (suc first) count)) same.0
      | inr other ↦
          or_right (first == k) (is_among (refs.Local k) (numbers_from (suc first) count)) (among (suc first) count k (omega (arith, low, other.1)) (omega (arith, high)))
    ]

unequal : (first k : ℕ) → first < k → (first == k) ≡ false
unequal first k less = elim (eqb_tells first k) [ inl same ↦ absurd (omega (arith, less, same.1)) | inr other ↦ other.0 ]

not_among : (first count k : ℕ) → first + count ≤ k → is_among (refs.Local k) (numbers_from first count) ≡ false
not_among first zero k high = refl
not_among first (suc count) k high =
    or_from (first == k) (is_among (refs.Local k) (numbers_from (suc first) count)) (unequal first k (omega (arith, high)))
    (not_among (suc first) count k (omega (arith, high)))

no_static : (first count v : ℕ) → is_among (refs.Static v) (numbers_from first count) ≡ false
no_static first zero v = refl
no_static first (suc count) v = no_static (suc first) count v

each_number : (P : VarRef → Type 0) (first count : ℕ) → ((k : ℕ) → first ≤ k → k < first + count → P (refs.Local k)) → All P (numbers_from first count)
each_number P first zero holds = All-nil P
each_number P first (suc count) holds =
    All-cons P (refs.Local first) (numbers_from (suc first) count) (holds first (omega arith) (omega arith))
    (each_number P (suc first) count (λ k low high. holds k (omega (arith, low)) (omega (arith, high))))

not_this : (first k : ℕ) → first < k → refs.Local first ≢ refs.Local k
not_this first k less same = let equal : first ≡ k = cc same in absurd (omega (arith, less, equal))

numbers_differ : (first count : ℕ) → AllPairs (λ a b. a ≢ b) (numbers_from first count)
numbers_differ first zero = λ i j d less within. absurd (omega (arith, within))
numbers_differ first (suc count) =
    AllPairs-cons (λ a b. a ≢ b) (refs.Local first) (numbers_from (suc first) count)
    (each_number (λ v. refs.Local first ≢ v) (suc first) count (λ k low high. not_this first k (omega (arith, low)))) (numbers_differ (suc first) count)

pub nothing_new : (objects : VarRef → Option Shape) (names : Names) → AreNew objects names []
nothing_new objects names = record { differ = λ i j d less within. absurd (omega (arith, within)); each = All-nil (IsNew objects names) }

-- objects of these numbers on
abbrev pub AreThere : Names → ℕ → List LocalTree → Type 0
AreThere names first ls = (k : ℕ) (l : LocalTree) → slice_get ls k ≡ Some l → names.object (refs.Local (first + k)) ≡ Some (shape_of l.object_type)

pub record Knows (names : Names) (first : ℕ) (ls : List LocalTree) : Type 0 where
  pub object : AreThere names first ls
  pub filled : (k : ℕ) (l : LocalTree) → slice_get ls k ≡ Some l → is_single l.object_type ≡ false → names.is_filled (first + k) ≡ true

-- names for a scope of a function, whose objects so far are these. The names know none from a number on.
pub record Suits (s : Scope) (all : List LocalTree) (first : ℕ) (objects : VarRef → Option Shape) (names : Names) : Type 0 where
  pub fits : Fits names s
  pub holds : Holds all objects names
  pub lies : Lies names objects first

-- these objects stand in a list from a number on
abbrev pub StandFrom : ℕ → List LocalTree → List LocalTree → Type 0
StandFrom first others all = (k : ℕ) (l : LocalTree) → slice_get others k ≡ Some l → slice_get all (first + k) ≡ Some l

-- what is so of a block that declares these
pub record Opening (s : Scope) (all others : List LocalTree) (first : ℕ) (objects : VarRef → Option Shape) (names : Names) (declared : List VarRef) : Type 0 where
  pub new : AreNew objects names declared
  pub suits : Suits s all (first + length others) objects (opened objects declared names)
  pub knows : Knows (opened objects declared names) first others
  -- the lists of objects speak of statics alone
  pub statics : static_in (opened objects declared names) ≡ static_in names

-- an object of the block, or one around it
module _ (objects names shape : Option Shape) where
  either_is : (b : Bool) → objects ≡ shape → names ≡ shape → (if b then objects else names) ≡ shape
  either_is true inside around = inside
  either_is false inside around = around

  from_either : (b : Bool) → (names ≡ shape → objects ≡ shape) → (if b then objects else names) ≡ shape → objects ≡ shape
  from_either true within there = there
  from_either false within there = within there

pub there_is : (objects : VarRef → Option Shape) (v : VarRef) (shape : Shape) → objects v ≡ Some shape → IsThere (objects v)
there_is objects v shape there = subst IsThere (sym there) tt

module _ (s : Scope) (all others : List LocalTree) (first : ℕ) (stand : StandFrom first others all) (objects : VarRef → Option Shape) (names : Names)
    (suits : Suits s all first objects names) where
  abbrev declared : List VarRef
  declared = numbers_from first (length others)

  abbrev inner : Names
  inner = opened objects declared names

  object_kept : (v : VarRef) (shape : Shape) → names.object v ≡ Some shape → inner.object v ≡ Some shape
  object_kept v shape there = either_is (objects v) (names.object v) (Some shape) (is_among v declared) (suits.lies.within v shape there) there

  meaning_kept : (n : ℕ) (m : Meaning) → IsMeaning names n m → IsMeaning inner n m
  meaning_kept n (meanings.Object r type) means = (object_kept r (shape_of type) means.0, means.1, means.2)
  meaning_kept n (meanings.Function type) means = means

  suits_inside : Suits s all (first + length others) objects inner
  suits_inside = record {
    fits = λ name m there. meaning_kept (bodies_before s name) m (suits.fits name m there);
    holds = record { object = suits.holds.object; filled = suits.holds.filled };
    lies = record {
      within = λ v shape there. from_either (objects v) (names.object v) (Some shape) (is_among v declared) (suits.lies.within v shape) there;
      below = λ k low. ap (λ b. if b then objects (refs.Local k) else names.object (refs.Local k)) (not_among first (length others) k low)
          ∙ suits.lies.below k (omega (arith, low));
    };
  }

  known_inside : (k : ℕ) (l : LocalTree) → slice_get others k ≡ Some l → inner.object (refs.Local (first + k)) ≡ Some (shape_of l.object_type)
  known_inside k l there =
      let below : k < length others = slice_get_within others k l there in
      let v : VarRef = refs.Local (first + k) in
      ap (λ b. if b then objects v else names.object v) (among first (length others) (first + k) (omega arith) (omega (arith, below)))
      ∙ suits.holds.object (first + k) l (stand k l there)

  new_at : (k : ℕ) → first ≤ k → k < first + length others → IsNew objects names (refs.Local k)
  new_at k low high =
      let i : ℕ = k - first in
      let same : first + i ≡ k = omega (arith, low) in
      let l = place_within others i (omega (arith, low, high)) in
      let there : objects (refs.Local (first + i)) ≡ Some (shape_of l.0.object_type) = suits.holds.object (first + i) l.0 (stand i l.0 l.1) in
      record {
        automatic = tt;
        there = subst (λ n. IsThere (objects (refs.Local n))) same (there_is objects (refs.Local (first + i)) (shape_of l.0.object_type) there);
        new = suits.lies.below k low;
      }

  opening_here : Opening s all others first objects names declared
  opening_here = record {
    new = record { differ = numbers_differ first (length others); each = each_number (IsNew objects names) first (length others) new_at };
    suits = suits_inside;
    knows = record { object = known_inside; filled = λ k l there array. suits.holds.filled (first + k) l (stand k l there) array };
    statics = fun_ext (λ v. ap (λ b. if b then objects (refs.Static v) else names.object (refs.Static v)) (no_static first (length others) v));
  }

  pub opening : (rs : List VarRef) → rs ≡ numbers_from first (length others) → Opening s all others first objects names rs
  opening rs numbered = subst (Opening s all others first objects names) (sym numbered) opening_here
