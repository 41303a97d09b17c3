-- Entries: the code of items in the order of its words, where it isn't decided yet which labels are marks (docs/TRANSLATION.md, "Labels").
-- Labels are numbers.
use Rattle.std.specs.Prelude.{ℕ, List, [], ◌∷◌}
use Rattle.c_tree.specs.declared.program.VarRef.{VarRef}
use Rattle.acc_code.specs.declared.item.CaseLabel.{CaseLabel}
use Rattle.acc_code.specs.declared.operand.HelperName.{HelperName}
use Rattle.acc_code.specs.declared.operation.Test.{Test}
use Rattle.emit_blocks.specs.Steps.{Operation}

pub data Entry : Type 0 where
  -- operations one behind another
  Run : List Operation → Entry
  -- the head of a loop
  Head : ℕ → Entry
  -- the end of a block: a mark, with a jump to it before it where nothing else makes a cut, or nothing
  Place : ℕ → Entry
  -- the end of a loop, by its head and the label behind it: nothing, or jumps to both, so that the head is named
  Close : ℕ → ℕ → Entry
  -- a jump where a test holds, and one that is always taken
  Branch : Test → ℕ → Entry
  Goto : ℕ → Entry
  -- goes on at the label of the word in the accumulator: labels of cases are numbered from one on; without a default there is one behind
  Dispatch : List CaseLabel → ℕ → ℕ → Entry
  CallTo : ℕ → Entry
  CallHelper : HelperName → Entry
  -- clears the cells of an object from one on, with a label of its own
  Wipe : VarRef → ℕ → ℕ → Entry
  Ret : Entry
  -- the end of a body
  Finish : ℕ → Entry

-- a run of no operations is no entry
abbrev pub flushed : List Operation → List Entry → List Entry
flushed [] es = es
flushed (o ∷ os) es = Run (o ∷ os) ∷ es
