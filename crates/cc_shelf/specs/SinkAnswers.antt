-- When a sink gives each refusal, and what it leaves (docs/COMMANDS.md, "Faults").
use Rattle.std.specs.Prelude.{◌≡◌, ℕ, Bool, IsTrue, List, ◌++◌, take}
use Rattle.cc_shelf.specs.Counts.{Rose}
use Rattle.cc_shelf.specs.Output.{Output}
use Rattle.cc_shelf.specs.declared.sink.SinkFault.{SinkFault}
use Rattle.cc_shelf.specs.declared.sink.SinkFault.TheVariants.{Failed, NoMemory}

-- when a put of this piece is refused so
abbrev pub PutRefused : Bool → List ℕ → Output → Output → SinkFault → Type 0
PutRefused tells piece before now Failed =
    Rose before.faults now.faults × (IsTrue tells → (n : ℕ) × (now.bytes ≡ before.bytes ++ take n piece)) × (now.wants ≡ before.wants)
PutRefused tells piece before now NoMemory =
    (IsTrue tells → now.bytes ≡ before.bytes) × (now.faults ≡ before.faults) × Rose before.wants now.wants
