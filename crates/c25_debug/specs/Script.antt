-- Scripts, line by line (docs/FORMATS.md, "Scripts").
use Rattle.std.specs.Prelude.{◌≡◌, ◌≢◌, ◌⊎◌, ℕ, ◌+◌, ◌<◌, ◌^◌, List, [], ◌∷◌, ◌++◌, length, codes, decimal}
use Rattle.std.specs.List.{AllZip}
use Rattle.std.specs.Str.Lines.{lines}
use Rattle.word_base.specs.Name.{IsWithin}
use Rattle.text_base.specs.Hex.{hex4}
use Rattle.text_base.specs.FilledLines.{filled}
use Rattle.c25_debug.specs.declared.command.Command.{Command}
use Rattle.c25_debug.specs.declared.command.Command.TheVariants.{Break, Delete, Go, Regs, Mem, Stack}
use Rattle.c25_debug.specs.declared.fault.ScriptFault.{ScriptFault}
use Rattle.c25_debug.specs.declared.fault.ScriptFault.TheVariants as faults

-- the numbers of a command are in their ranges
abbrev pub InRange : Command → Type 0
InRange (Break at) = at < 2 ^ 16
InRange (Delete at) = at < 2 ^ 16
InRange (Go count) = IsWithin 1 100000 count
InRange Regs = Unit {0}
InRange (Mem at count) = (at < 2 ^ 16) × IsWithin 1 256 count
InRange Stack = Unit {0}

-- the line of a command
abbrev pub command_line : Command → List ℕ
command_line (Break at) = codes "break " ++ hex4 at
command_line (Delete at) = codes "delete " ++ hex4 at
command_line (Go count) = codes "go " ++ decimal count
command_line Regs = codes "regs"
command_line (Mem at count) = codes "mem " ++ (hex4 at ++ (codes " " ++ decimal count))
command_line Stack = codes "stack"

-- a line spells a command: `step` is `go 1`
pub record Spells (line : List ℕ) (command : Command) : Type 0 where
  pub in_range : InRange command
  pub text : (line ≡ command_line command) ⊎ ((line ≡ codes "step") × (command ≡ Go 1))

-- the bytes of a script, and the commands that its lines spell: blank lines are passed over
abbrev pub ScriptText : List ℕ → List Command → Type 0
ScriptText bytes script = AllZip Spells (filled (lines bytes)) script

-- the line of this number, from 1, is the first that spells no command and isn't blank
pub record IsFirstBad (bytes : List ℕ) (number : ℕ) : Type 0 where
  pub front : List (List ℕ)
  pub line : List ℕ
  pub back : List (List ℕ)
  pub cut : lines bytes ≡ front ++ line ∷ back
  pub counted : number ≡ length front + 1
  pub script : List Command
  pub good : AllZip Spells (filled front) script
  pub some : line ≢ []
  pub bad : (command : Command) → Spells line command → ⊥

-- no line is bad, and the commands are more than 1,000: this many
pub record IsTooLong (bytes : List ℕ) (count : ℕ) : Type 0 where
  pub script : List Command
  pub good : ScriptText bytes script
  pub many : 1000 < length script
  pub counted : count ≡ length script

-- what each fault says of the bytes
abbrev pub ScriptSays : List ℕ → ScriptFault → Type 0
ScriptSays bytes (faults.BadLine line) = IsFirstBad bytes line
ScriptSays bytes (faults.TooLong count) = IsTooLong bytes count
ScriptSays bytes faults.NoMemory = Unit {0}
