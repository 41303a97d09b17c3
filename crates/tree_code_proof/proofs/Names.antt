-- Names of objects: two are one where they agree, and the objects of one function and the static ones have places apart.
use Rattle.std.proofs.Common.{◌≡◌, ◌≢◌, suc, Bool, true, false, cond, List, [], ◌∷◌, Option, Some, None, refl, ap, ◌∙◌, arith}
use Rattle.std.specs.Prelude.{⊤, ◌||◌, if◌then◌else◌, All, AllPairs, slice_index_or}
use Rattle.std.proofs.lemmas.Bool.{eq-eqb, eqb-true}
use Rattle.std.proofs.lemmas.List.Elements.{All-head}
use mathlib.Core.Path.{fun_ext}
use Rattle.c_tree.specs.declared.program.VarRef.{VarRef}
use Rattle.c_tree.specs.declared.program.VarRef.TheVariants.{Scalar, Local, Static}
use Rattle.c_tree.specs.WellFormed.{Shape, Names, same_reference, is_among, IsAutomatic, IsThere, IsNew, AreNew}

pub same_is : (v u : VarRef) → same_reference v u ≡ true → v ≡ u
same_is (Scalar n) (Scalar m) e = ap Scalar (eqb-true n m e)
same_is (Scalar n) (Local m) e = absurd cc
same_is (Scalar n) (Static m) e = absurd cc
same_is (Local n) (Scalar m) e = absurd cc
same_is (Local n) (Local m) e = ap Local (eqb-true n m e)
same_is (Local n) (Static m) e = absurd cc
same_is (Static n) (Scalar m) e = absurd cc
same_is (Static n) (Local m) e = absurd cc
same_is (Static n) (Static m) e = ap Static (eqb-true n m e)

pub same_itself : (v : VarRef) → same_reference v v ≡ true
same_itself (Scalar n) = eq-eqb n n refl
same_itself (Local n) = eq-eqb n n refl
same_itself (Static n) = eq-eqb n n refl

differ_by : (v u : VarRef) (b : Bool) → same_reference v u ≡ b → v ≢ u → b ≡ false
differ_by v u true e ne = absurd (ne (same_is v u e))
differ_by v u false e ne = refl

pub differ_is : (v u : VarRef) → v ≢ u → same_reference v u ≡ false
differ_is v u ne = differ_by v u (same_reference v u) refl ne

-- names with the object of one more, and with those of a list, which is one more after another
abbrev pub with_name : (VarRef → Option Shape) → VarRef → (VarRef → Option Shape) → VarRef → Option Shape
with_name objects v names = λ u. if same_reference v u then objects u else names u

abbrev pub with_names : (VarRef → Option Shape) → List VarRef → (VarRef → Option Shape) → VarRef → Option Shape
with_names objects declared names = λ u. if is_among u declared then objects u else names u

one_more : (b c : Bool) (x y : Option Shape) → cond c x (cond b x y) ≡ cond (b || c) x y
one_more true true x y = refl
one_more true false x y = refl
one_more false true x y = refl
one_more false false x y = refl

pub with_names_more : (objects names : VarRef → Option Shape) (v : VarRef) (vs : List VarRef) → with_names objects vs (with_name objects v names) ≡ with_names objects (v ∷ vs) names
with_names_more objects names v vs = fun_ext (λ u. one_more (same_reference v u) (is_among u vs) (objects u) (names u))

-- a name that is new, and names that are so one after another
pub record IsFresh (objects names : VarRef → Option Shape) (v : VarRef) : Type 0 where
  pub automatic : IsAutomatic v
  pub shape : Shape
  pub there : objects v ≡ Some shape
  pub new : names v ≡ None

abbrev pub AreFresh : (VarRef → Option Shape) → List VarRef → (VarRef → Option Shape) → Type 0
AreFresh objects [] names = ⊤
AreFresh objects (v ∷ vs) names = IsFresh objects names v × AreFresh objects vs (with_name objects v names)

shape_there : (o : Option Shape) → IsThere o → (s : Shape) × (o ≡ Some s)
shape_there None h = absurd h
shape_there (Some s) h = (s, refl)

fresh_one : (objects : VarRef → Option Shape) (names : Names) (v : VarRef) → IsNew objects names v → IsFresh objects names.object v
fresh_one objects names v h = let t = shape_there (objects v) h.there in record { automatic = h.automatic; shape = t.0; there = t.1; new = h.new }

still_fresh : (objects names : VarRef → Option Shape) (v u : VarRef) → v ≢ u → IsFresh objects names u → IsFresh objects (with_name objects v names) u
still_fresh objects names v u ne h = record { automatic = h.automatic; shape = h.shape; there = h.there; new = ap (λ b. cond b (objects u) (names u)) (differ_is v u ne) ∙ h.new }

fresh_in_turn : (objects names : VarRef → Option Shape) (vs : List VarRef) → All (IsFresh objects names) vs → AllPairs (λ a b. a ≢ b) vs → AreFresh objects vs names
fresh_in_turn objects names [] all differ = tt
fresh_in_turn objects names (v ∷ vs) all differ = (
  All-head (IsFresh objects names) v vs all,
  fresh_in_turn objects (with_name objects v names) vs
      (λ k d less. still_fresh objects names v (slice_index_or vs k d) (differ 0 (suc k) d (omega arith) (omega (arith, less))) (all (suc k) d (omega (arith, less))))
      (λ i j d lt less. differ (suc i) (suc j) d (omega (arith, lt)) (omega (arith, less))),
)

pub new_are_fresh : (objects : VarRef → Option Shape) (names : Names) (declared : List VarRef) → AreNew objects names declared → AreFresh objects declared names.object
new_are_fresh objects names declared h = fresh_in_turn objects names.object declared (λ k d less. fresh_one objects names (slice_index_or declared k d) (h.each k d less)) h.differ
