-- Items with marks that lead from one work to another wherever they stand.
use Rattle.std.specs.Prelude.{ℕ, ◌+◌, ◌<◌, Bool, List}
use Rattle.word_base.specs.Ports.{Outputs}
use Rattle.c25_isa.specs.declared.piece.PieceItem.{PieceItem}
use Rattle.c25_isa.specs.State.{Memory}
use Rattle.c25_isa.specs.Leads.{Leads}
use Rattle.c25_isa.specs.StretchRuns.{DataAccess}
use Rattle.c25_isa.specs.Pieces.{items_size, ItemsAt}
use Rattle.c25_code.specs.Work.{Work, calm}
use Rattle.c25_code.specs.Accesses.{Accesses, LeadsWithin}

-- from their first word to the address behind them, which is below 65,536, in so many steps, with these outputs
pub record ItemsRun (items : List PieceItem) (steps : ℕ) (w u : Work) (put : Outputs) : Type 0 where
  pub by : (program : Memory) (marks : ℕ → ℕ) (names : List ℕ → ℕ) (pc : ℕ) → ItemsAt program marks names pc items → pc + items_size items < 65536
      → Leads steps (calm program pc w) (calm program (pc + items_size items) u) put

-- so they do, and access data memory on the way only as they may
pub record ItemsRunWithin (may : DataAccess → Bool) (items : List PieceItem) (steps : ℕ) (w u : Work) (put : Outputs) : Type 0 where
  pub by : (program : Memory) (marks : ℕ → ℕ) (names : List ℕ → ℕ) (pc : ℕ) → ItemsAt program marks names pc items → pc + items_size items < 65536
      → LeadsWithin (Accesses may) steps (calm program pc w) (calm program (pc + items_size items) u) put
