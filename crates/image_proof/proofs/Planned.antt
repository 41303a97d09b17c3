-- Static objects where a plan has them: one behind another, and emission and runs say the same of those that are there.
use Rattle.std.proofs.Common.{◌≡◌, ℕ, zero, suc, ◌+◌, ◌≤◌, List, [], ◌∷◌, Some, refl, ap, ◌∙◌, arith}
use Rattle.std.specs.Prelude.{slice_get}
use Rattle.std.proofs.lemmas.Option.{none-some}
use Rattle.std.proofs.lemmas.List.Sums.{sum_by-cons}
use Rattle.c_tree.specs.TypedTree.{ObjectTree}
use Rattle.tree_code.specs.WordTree.{ProgramCode}
use Rattle.mem_plan.specs.declared.data_plan.DataPlan.{DataPlan}
use Rattle.mem_plan.specs.DataNeeds.{object_words, objects_words}
use Rattle.mem_plan.specs.Plan.{object_addresses, statics_start, IsPlan}
use Rattle.emit_blocks.specs.Places.{address_in}
use Rattle.frame_emit.specs.Startup.{static_words}
use Rattle.ir_semantics.specs.Outside.{Places}
use Rattle.image_proof.specs.PlanPlaces.{address_or_start}
use Rattle.image_proof.proofs.Objects.{LieInOrder}

pub same_words : (os : List ObjectTree) → static_words os ≡ objects_words os
same_words [] = refl
same_words (o ∷ os) = sum_by-cons (λ (x : ObjectTree). x.length + 1) o os ∙ ap (λ n. o.length + 1 + n) (same_words os)

pub plan_has_room : (p : ProgramCode) (arrangements : List (List (List ℕ))) (plan : DataPlan) → IsPlan p arrangements plan → statics_start + objects_words p.statics ≤ 65536
plan_has_room p arrangements plan is =
    let used = ap (λ (x : DataPlan). x.used) is.is in
    omega (arith, used, is.fits)

pub same_address : (os : List ObjectTree) (a n : ℕ) (o : ObjectTree) → slice_get os n ≡ Some o → address_in (object_addresses a os) n ≡ address_or_start (slice_get (object_addresses a os) n)
same_address [] a n o is = absurd (none-some o is)
same_address (u ∷ us) a zero o is = refl
same_address (u ∷ us) a (suc n) o is = same_address us (a + object_words u) n o is

pub in_order : (statics : List ℕ) (q : Places) (os : List ObjectTree) (n a : ℕ) → ((i : ℕ) → q.static (n + i) ≡ address_or_start (slice_get (object_addresses a os) i)) → LieInOrder statics q n a os
in_order statics q [] n a at = tt
in_order statics q (o ∷ os) n a at = (
  (let e : n ≡ n + 0 = omega arith in ap q.static e) ∙ at 0,
  in_order statics q os (suc n) (a + object_words o) (λ i. (let e : suc n + i ≡ n + suc i = omega arith in ap q.static e) ∙ at (suc i)),
)
