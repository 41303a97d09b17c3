-- The names that a statement knows, once each object of its function has its number among its own kind.
use Rattle.std.proofs.Common.{◌≡◌, ⊎_elim, ◌∷◌, [], ℕ, suc, Bool, true, false, if◌then◌else◌, List, map, Option, Some, None, sym, refl, subst, true≢false, arith}
use Rattle.std.specs.Prelude.{All, AllPairs, ◌≢◌}
use Rattle.std.proofs.lemmas.Bool.{or_cases, or_left, or_right}
use Rattle.std.proofs.lemmas.List.Elements.{All-map, All-head, All-tail}
use Rattle.std.proofs.lemmas.List.Kept.{AllPairs-cons}
use Rattle.c_tree.specs.declared.program.VarRef.{VarRef}
use Rattle.c_tree.specs.declared.program.VarRef.TheVariants as refs
use Rattle.c_rules.specs.Renumbering as by
use Rattle.c_tree.specs.WellFormed.{Shape, Names, IsThere, IsAutomatic, IsNew, AreNew, IsFilled, same_reference, is_among, opened}
use Rattle.c_rules.proofs.Formed.SameReferences.{equal_references, same_as_itself}

-- how the objects of a function are numbered: each is there behind it, none is taken for another, and none becomes a static
pub record Renumbers (frame : List VarRef) (objects later : VarRef → Option Shape) : Type 0 where
  pub object : (v : VarRef) (shape : Shape) → objects v ≡ Some shape → later (by.renumbered frame v) ≡ Some shape
  pub automatic : (v : VarRef) → IsThere (objects v) → IsAutomatic v → IsAutomatic (by.renumbered frame v)
  pub one : (v w : VarRef) → IsThere (objects v) → IsThere (objects w) → by.renumbered frame v ≡ by.renumbered frame w → v ≡ w

-- what a name stood for it stands for behind it, and an object that no name stood for has no name behind it
pub record Carries (frame : List VarRef) (objects : VarRef → Option Shape) (names others : Names) : Type 0 where
  pub object : (v : VarRef) (shape : Shape) → names.object v ≡ Some shape → others.object (by.renumbered frame v) ≡ Some shape
  pub function : (n : ℕ) → others.function n ≡ names.function n
  pub is_filled : (n : ℕ) → names.is_filled n ≡ true → others.is_filled (by.number_in (by.numbered frame n)) ≡ true
  pub in_memory : (n : ℕ) → names.is_filled n ≡ true → by.numbered frame n ≡ refs.Local (by.number_in (by.numbered frame n))
  pub within : (v : VarRef) (shape : Shape) → names.object v ≡ Some shape → objects v ≡ Some shape
  pub new : (v : VarRef) → IsThere (objects v) → names.object v ≡ None → others.object (by.renumbered frame v) ≡ None

there_as : (o p : Option Shape) → ((shape : Shape) → o ≡ Some shape → p ≡ Some shape) → IsThere o → IsThere p
there_as None p carries there = absurd there
there_as (Some shape) p carries there = subst IsThere (sym (carries shape refl)) tt

-- an array that lives keeps its list
pub kept_fill : (frame : List VarRef) (objects : VarRef → Option Shape) (names others : Names) → Carries frame objects names others → (n : ℕ)
    → IsFilled names n → IsFilled others (by.number_in (by.numbered frame n))
kept_fill frame objects names others carries n is = record {
  lives = subst (λ v. IsThere (others.object v)) (carries.in_memory n is.filled)
      (there_as (names.object (refs.Local n)) (others.object (by.numbered frame n)) (carries.object (refs.Local n)) is.lives);
  filled = carries.is_filled n is.filled;
}

-- what a name stands for in a block, by whether the block declares it
opened_within : (all known : Option Shape) (b : Bool) (shape : Shape) → (known ≡ Some shape → all ≡ Some shape) → (if b then all else known) ≡ Some shape
    → all ≡ Some shape
opened_within all known true shape within is = is
opened_within all known false shape within is = within is

module _ (all known later others : Option Shape) where
  opened_object : (b c : Bool) (shape : Shape) → (b ≡ true → c ≡ true) → (all ≡ Some shape → later ≡ Some shape) → (known ≡ Some shape → all ≡ Some shape)
      → (known ≡ Some shape → others ≡ Some shape) → (if b then all else known) ≡ Some shape → (if c then later else others) ≡ Some shape
  opened_object true true shape declared carries within kept is = carries is
  opened_object true false shape declared carries within kept is = absurd (true≢false (sym (declared refl)))
  opened_object false true shape declared carries within kept is = carries (within is)
  opened_object false false shape declared carries within kept is = kept is

  opened_new : (b c : Bool) → (c ≡ true → b ≡ true) → IsThere all → (known ≡ None → others ≡ None) → (if b then all else known) ≡ None
      → (if c then later else others) ≡ None
  opened_new true c declared there new is = absurd (subst IsThere is there)
  opened_new false true declared there new is = absurd (true≢false (sym (declared refl)))
  opened_new false false declared there new is = new is

module _ (frame : List VarRef) (objects later : VarRef → Option Shape) (renumbers : Renumbers frame objects later) where
  abbrev AreThere : List VarRef → Type 0
  AreThere = All (λ v. IsThere (objects v))

  same_before : (v w : VarRef) → IsThere (objects v) → IsThere (objects w) → same_reference (by.renumbered frame w) (by.renumbered frame v) ≡ true
      → same_reference w v ≡ true
  same_before v w there other same =
      subst (λ u. same_reference w u ≡ true) (renumbers.one w v other there (equal_references (by.renumbered frame w) (by.renumbered frame v) same)) (same_as_itself w)

  -- a block declares a name exactly if it does so behind it
  among_kept : (v : VarRef) (ws : List VarRef) → is_among v ws ≡ true → is_among (by.renumbered frame v) (map (by.renumbered frame) ws) ≡ true
  among_kept v [] among = absurd (true≢false (sym among))
  among_kept v (w ∷ ws) among =
      let here : Bool = same_reference (by.renumbered frame w) (by.renumbered frame v)
      in let rest : Bool = is_among (by.renumbered frame v) (map (by.renumbered frame) ws)
      in ⊎_elim
      (λ same. or_left here rest (subst (λ u. same_reference (by.renumbered frame w) (by.renumbered frame u) ≡ true) (equal_references w v same)
      (same_as_itself (by.renumbered frame w))))
      (λ later. or_right here rest (among_kept v ws later))
      (or_cases (same_reference w v) (is_among v ws) among)

  among_before : (v : VarRef) (ws : List VarRef) → IsThere (objects v) → AreThere ws → is_among (by.renumbered frame v) (map (by.renumbered frame) ws) ≡ true
      → is_among v ws ≡ true
  among_before v [] there all among = absurd (true≢false (sym among))
  among_before v (w ∷ ws) there all among =
      ⊎_elim
      (λ same. or_left (same_reference w v) (is_among v ws) (same_before v w there (All-head (λ u. IsThere (objects u)) w ws all) same))
      (λ later. or_right (same_reference w v) (is_among v ws) (among_before v ws there (All-tail (λ u. IsThere (objects u)) w ws all) later))
      (or_cases (same_reference (by.renumbered frame w) (by.renumbered frame v)) (is_among (by.renumbered frame v) (map (by.renumbered frame) ws)) among)

  -- the names in a block
  pub opened_carries : (names others : Names) → Carries frame objects names others → (declared : List VarRef) → AreThere declared
      → Carries frame objects (opened objects declared names) (opened later (map (by.renumbered frame) declared) others)
  opened_carries names others carries declared all = record {
    object = λ v shape is.
        opened_object (objects v) (names.object v) (later (by.renumbered frame v)) (others.object (by.renumbered frame v)) (is_among v declared)
        (is_among (by.renumbered frame v) (map (by.renumbered frame) declared)) shape (among_kept v declared) (renumbers.object v shape) (carries.within v shape)
        (carries.object v shape) is;
    function = carries.function;
    is_filled = carries.is_filled;
    in_memory = carries.in_memory;
    within = λ v shape is. opened_within (objects v) (names.object v) (is_among v declared) shape (carries.within v shape) is;
    new = λ v there is.
        opened_new (objects v) (names.object v) (later (by.renumbered frame v)) (others.object (by.renumbered frame v)) (is_among v declared)
        (is_among (by.renumbered frame v) (map (by.renumbered frame) declared)) (among_before v declared there all) there (carries.new v there) is;
  }

  -- the names that a block declares differ and are new
  still_differ : (declared : List VarRef) → AreThere declared → AllPairs (λ a b. a ≢ b) declared → AllPairs (λ a b. a ≢ b) (map (by.renumbered frame) declared)
  still_differ [] all differ = λ i j d less below. absurd (omega (arith, below))
  still_differ (v ∷ vs) all differ =
      AllPairs-cons (λ a b. a ≢ b) (by.renumbered frame v) (map (by.renumbered frame) vs)
      (All-map (λ w. by.renumbered frame v ≢ w) (by.renumbered frame) vs
      (λ k d below same. differ 0 (suc k) d (omega arith) (omega (arith, below))
      (renumbers.one v _ (All-head (λ u. IsThere (objects u)) v vs all) (All-tail (λ u. IsThere (objects u)) v vs all k d below) same)))
      (still_differ vs (All-tail (λ u. IsThere (objects u)) v vs all) (λ i j d less below. differ (suc i) (suc j) d (omega (arith, less)) (omega (arith, below))))

  still_new : (names others : Names) → Carries frame objects names others → (v : VarRef) → IsNew objects names v → IsNew later others (by.renumbered frame v)
  still_new names others carries v is = record {
    automatic = renumbers.automatic v is.there is.automatic;
    there = there_as (objects v) (later (by.renumbered frame v)) (renumbers.object v) is.there;
    new = carries.new v is.there is.new;
  }

  pub all_there : (names : Names) (declared : List VarRef) → AreNew objects names declared → AreThere declared
  all_there names declared new = λ k d below. (new.each k d below).there

  pub new_kept : (names others : Names) → Carries frame objects names others → (declared : List VarRef) → AreNew objects names declared
      → AreNew later others (map (by.renumbered frame) declared)
  new_kept names others carries declared new = record {
    differ = still_differ declared (all_there names declared new) new.differ;
    each = All-map (IsNew later others) (by.renumbered frame) declared (λ k d below. still_new names others carries _ (new.each k d below));
  }
