-- The words of static objects.
use Rattle.std.proofs.Common.{◌≡◌, ◌<◌, ◌≤◌, ℕ, suc, ◌+◌, List, [], ◌∷◌, Some, refl, sym, subst}
use Rattle.std.specs.Prelude.{slice_get}
use Rattle.c_tree.specs.TypedTree.{ObjectTree}
use Rattle.mem_plan.specs.Plan.{statics_start}
use Rattle.mem_plan.specs.declared.data_plan.DataPlan.{DataPlan}
use Rattle.mem_plan.specs.Ranges.{range, StaticObject, object_range}
use Rattle.emit_proof.specs.Addressed.{AreWords}
use Rattle.image_proof.specs.Emissions.{Emission, IsEmission}
use Rattle.image_proof.proofs.FrameWords.{address_there, object_there}
use Rattle.image_proof.proofs.WordsOfSites.{WordOf}

module _ (e : Emission) (is : IsEmission e) where
  pub static_word : (n : ℕ) (o : ObjectTree) (x a : ℕ) → slice_get e.code.statics n ≡ Some o → slice_get e.plan.statics n ≡ Some x → x ≤ a → a < x + (o.length + 1) → WordOf e (StaticObject n) a
  static_word n o x a there at from to = record { range = range x (o.length + 1); is = λ i. object_range (at i) (there i); from = from; to = to }

  pub static_address : (n : ℕ) (o : ObjectTree) → slice_get e.code.statics n ≡ Some o → (x : ℕ) × (slice_get e.plan.statics n ≡ Some x)
  static_address n o there = subst (λ (plan : DataPlan). (x : ℕ) × (slice_get plan.statics n ≡ Some x)) (sym is.planned.is) (address_there statics_start e.code.statics n o there)

  pub static_object : (n x : ℕ) → slice_get e.plan.statics n ≡ Some x → (o : ObjectTree) × (slice_get e.code.statics n ≡ Some o)
  static_object n x at = object_there statics_start e.code.statics n x (subst (λ (plan : DataPlan). slice_get plan.statics n ≡ Some x) is.planned.is at)

-- a list of words, by each of them
pub are_words : (xs : List ℕ) → ((n a : ℕ) → slice_get xs n ≡ Some a → a < 65536) → AreWords xs
are_words [] each = tt
are_words (x ∷ xs) each = (each 0 x refl, are_words xs (λ n a at. each (suc n) a at))
