-- An If, wherever its code stands.
use Rattle.std.proofs.Common.{◌≡◌, ℕ, ◌+◌, ◌<◌, ◌≤◌, Bool, true, false, List, Option, Some, None, refl, arith}
use Rattle.std.specs.Prelude.{◌==◌, if◌then◌else◌}
use Rattle.acc_code.specs.declared.operation.Test.{Test}
use Rattle.acc_code.specs.AccTree.{If, ItemList}
use Rattle.c25_code.specs.Work.{Work}
use Rattle.ir_semantics.specs.Parts.{after}
use Rattle.ir_semantics.specs.AccRows.{whole_of}
use Rattle.ir_semantics.specs.AccRun.{Machine, run, run_item, tested, forgetting, without_scratch}
use Rattle.emit_control.specs.declared.ways.Ways.{Ways}
use Rattle.emit_control.specs.Entries.{Entry}
use Rattle.emit_control.specs.Flow.{Part, target, if_code}
use Rattle.emit_proof.specs.Arrivals.{Begun}
use Rattle.emit_proof.proofs.Grounds.{Ground, Standing, Arrived, begun_at, exits, MeetsAt, Falls, is_reached, jump_to}
use Rattle.emit_proof.proofs.Arriving.{earlier, counted, scratch_forgotten, runs_here}
use Rattle.emit_proof.proofs.Choosing.{aims, choose_meets}
use Rattle.emit_proof.proofs.Between.{forgets}
use Rattle.emit_proof.proofs.Parts.{PartMeets}

pub jump_small : (k next : ℕ) → jump_to k next ≤ 1
jump_small k next = by (k == next)
  where
    by : (b : Bool) → (if b then 0 else 1) ≤ 1
    by true = omega arith
    by false = omega arith

module _ (g : Ground) where
  pub if_meets : (t : Test) (hit miss : ItemList) (ways : Ways) (ph pm : Part) (l next bound bound' pc least : ℕ) (rest : List Entry) (b : Begun) (v : Machine) (w : Work) → PartMeets g ways bound ph (run g.context hit) → PartMeets g ways bound' pm (run g.context miss) → l < bound → next < bound → next < bound'
      → Standing g pc (if_code t (target ways hit) (target ways miss) ph pm l next rest) → is_reached g.finished l ≡ true → Falls g next rest → Arrived g b pc v w → least ≤ 1 → MeetsAt g b (exits g ways) least 0 (run_item g.context (If t hit miss) v)
  if_meets t hit miss ways ph pm l next bound bound' pc least rest b v w mh mm lb nb nb' s inner begins h small = by (whole_of v.registers.acc) refl
    where
      counts : Machine
      counts = record v { work = v.work + 4 }

      u : Machine
      u = without_scratch counts

      here : Arrived g (begun_at b.steps counts) pc u w
      here = scratch_forgotten g (begun_at b.steps counts) pc counts w (counted g b pc 4 v w h)

      by : (o : Option ℕ) → whole_of v.registers.acc ≡ o → MeetsAt g b (exits g ways) least 0 (after (tested t o (run g.context hit) (run g.context miss) u) forgetting)
      by None e = runs_here g (begun_at b.steps counts) pc u w here
      by (Some z) e =
          forgets g b (begun_at b.steps counts) (exits g ways) least 0 6 (tested t (Some z) (run g.context hit) (run g.context miss) u) (omega arith) (omega (arith, h.work))
          (weaker (choose_meets g ways (run g.context hit) (run g.context miss) t z ph pm l next bound bound' pc rest (begun_at b.steps counts) u w inner begins here e (target ways hit) (target ways miss) (aims g ways hit) (aims g ways miss) mh mm lb nb nb' s))
        where
          weaker : MeetsAt g (begun_at b.steps counts) (exits g ways) 1 6 (tested t (Some z) (run g.context hit) (run g.context miss) u) → MeetsAt g (begun_at b.steps counts) (exits g ways) least 6 (tested t (Some z) (run g.context hit) (run g.context miss) u)
          weaker m = earlier g (begun_at b.steps counts) (begun_at b.steps counts) (exits g ways) least 1 6 6 _ (omega arith) (omega (arith, small)) (omega arith) m
