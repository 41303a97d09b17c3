-- The lines of ends and of traps (docs/COMMANDS.md, "run").
use Rattle.std.specs.Prelude.{ℕ, List, ◌++◌, codes, decimal}
use Rattle.word_base.specs.declared.outcome.Ending.{Ending}
use Rattle.word_base.specs.declared.outcome.Ending.TheVariants.{Returned, InputEnded}
use Rattle.c25_isa.specs.declared.trap.TrapKind.{TrapKind}
use Rattle.c25_isa.specs.declared.trap.TrapKind.TheVariants as trap
use Rattle.text_base.specs.Hex.{hex4}

abbrev pub trap_name : TrapKind → List ℕ
trap_name trap.BadWord = codes "bad-word"
trap_name trap.StackFull = codes "stack-full"
trap_name trap.StackEmpty = codes "stack-empty"
trap_name trap.Mode = codes "mode"
trap_name trap.Divide = codes "divide"
trap_name trap.Repeat = codes "repeat"
trap_name trap.SameRegister = codes "same-register"
trap_name trap.NoRam = codes "no-ram"

-- the line of an end
abbrev pub ending_line : Ending → List ℕ
ending_line (Returned word) = codes "returned " ++ hex4 word
ending_line (InputEnded port) = codes "input " ++ (decimal port ++ codes " ended")

-- the line of a trap at a program word
abbrev pub trap_line : TrapKind → ℕ → List ℕ
trap_line kind at = codes "trap " ++ (trap_name kind ++ (codes " at " ++ hex4 at))
