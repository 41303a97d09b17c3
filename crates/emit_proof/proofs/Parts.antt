-- What code comes to wherever it stands, before entries that begin at the label that is placed next.
use Rattle.std.proofs.Common.{◌≡◌, ℕ, ◌+◌, ◌<◌, ◌⊎◌, List, [], ◌∷◌}
use Rattle.acc_code.specs.AccTree.{ItemList}
use Rattle.acc_code.specs.Emittable.{cases_in}
use Rattle.c25_code.specs.Work.{Work}
use Rattle.ir_semantics.specs.Parts.{Does, after, Flow, in_order}
use Rattle.ir_semantics.specs.AccRun.{Machine, run, run_from}
use Rattle.emit_blocks.specs.Steps.{Operation}
use Rattle.emit_control.specs.declared.ways.Ways.{Ways}
use Rattle.emit_control.specs.Entries.{Entry}
use Rattle.emit_control.specs.Flow.{Part, emit}
use Rattle.emit_proof.specs.Arrivals.{Begun}
use Rattle.emit_proof.specs.Operations.{operate}
use Rattle.emit_proof.proofs.Grounds.{Ground, Standing, Somewhere, Arrived, exits, MeetsAt, Falls, jump_to}
use Rattle.emit_proof.proofs.ControlOperating.{AreFit}

pub record PartMeets (g : Ground) (ways : Ways) (bound : ℕ) (part : Part) (run : Does Machine Flow) : Type 0 where
  pub by : (next pc : ℕ) (rest : List Entry) (b : Begun) (v : Machine) (w : Work) → Standing g pc (part next rest) → Falls g next rest → next < bound → Arrived g b pc v w → MeetsAt g b (exits g ways) (jump_to ways.onward next) 4 (run v)
  pub behind : (next : ℕ) (rest : List Entry) → Somewhere g (part next rest) → Somewhere g rest

-- the number is among these
abbrev pub IsAmong : ℕ → List ℕ → Type 0
IsAmong i [] = ⊥
IsAmong i (n ∷ ns) = (n ≡ i) ⊎ IsAmong i ns

-- a list of items, behind operations of the same run, and from one of its labels on
pub record ListMeets (g : Ground) (xs : ItemList) : Type 0 where
  pub runs : (os : List Operation) (ways : Ways) (base next pc : ℕ) (rest : List Entry) (b : Begun) (v : Machine) (w : Work) → AreFit g os → Standing g pc (emit xs os ways base next rest) → Falls g next rest → next < base → Arrived g b pc v w
      → MeetsAt g b (exits g ways) (jump_to ways.onward next) 4 (after (operate g.context.at os v) (λ flow. in_order flow (run g.context xs)))
  pub from : (i : ℕ) (os : List Operation) (ways : Ways) (base next : ℕ) (rest : List Entry) (b : Begun) (v : Machine) (w : Work) → IsAmong i (cases_in xs) → Somewhere g (emit xs os ways base next rest) → Falls g next rest → next < base → Arrived g b (g.label (ways.cases + i)) v w
      → MeetsAt g b (exits g ways) (jump_to ways.onward next) 4 (run_from g.context i xs v)
