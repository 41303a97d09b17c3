-- The ranges of the numbers that are asked for.
use Rattle.std.specs.Prelude.{◌≤◌, ⊤, List, length, IfSome}
use Rattle.clap.specs.Words.{Text}
use Rattle.cc_words.specs.Asked.{Asked, ToBuild, ToRun, ToEvaluate, ToExecute, ToLayOut, ToCheck, ToAssemble}
use Rattle.cc_words.specs.Asked.{ToList, ToGenerate, ToDebug, ToExpand, ToJoin, ToPbuild}
use Rattle.cc_words.specs.Asked.{asked}
use Rattle.cc_words.specs.Commands.{greatest_budget, greatest_program, greatest_registers, greatest_step}
use Rattle.cc_words.specs.Commands.{greatest_steps, greatest_turns, most_sources}

-- a run is of 1 to 100,000,000 steps, a loop of an evaluation has 1 to 1,000,000 turns, a search for a
-- layout is for 1 to 4 registers within a budget of 1 to 1,000,000 nodes, and those of a build are so at
-- a step of 1 to 8; a program is made from a number of 1 to 200; 1 to 16 sources are joined; and layouts
-- for a recorded run are as those of `layout`, and the run as one of `run`
abbrev pub IsWithinBounds : Asked → Type 0
IsWithinBounds (ToBuild source image registers budget step) = (1 ≤ registers)
    × (registers ≤ greatest_registers) × (1 ≤ budget) × (budget ≤ greatest_budget)
    × (1 ≤ step) × (step ≤ greatest_step)
IsWithinBounds (ToRun image ports steps) = (1 ≤ steps) × (steps ≤ greatest_steps)
IsWithinBounds (ToEvaluate source ports turns) = (1 ≤ turns) × (turns ≤ greatest_turns)
IsWithinBounds (ToExecute source ports steps) = (1 ≤ steps) × (steps ≤ greatest_steps)
IsWithinBounds (ToLayOut sequence registers budget) = (1 ≤ registers)
    × (registers ≤ greatest_registers) × (1 ≤ budget) × (budget ≤ greatest_budget)
IsWithinBounds (ToCheck image certificate) = ⊤
IsWithinBounds (ToAssemble text image) = ⊤
IsWithinBounds (ToList image) = ⊤
IsWithinBounds (ToGenerate number) = (1 ≤ number) × (number ≤ greatest_program)
IsWithinBounds (ToDebug image ports script) = ⊤
IsWithinBounds (ToExpand source output) = ⊤
IsWithinBounds (ToJoin output sources) = (1 ≤ length sources) × (length sources ≤ most_sources)
IsWithinBounds (ToPbuild source first ports image registers budget steps) = (1 ≤ registers)
    × (registers ≤ greatest_registers) × (1 ≤ budget) × (budget ≤ greatest_budget)
    × (1 ≤ steps) × (steps ≤ greatest_steps)

-- and that holds of whatever is asked for
abbrev pub AsksWithin : Type 0
AsksWithin = (words : List Text) → IfSome (asked words) IsWithinBounds
