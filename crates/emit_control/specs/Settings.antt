-- What the code of a function is made with: where its words lie, and the names of what it calls (docs/TRANSLATION.md, "Pieces").
use Rattle.std.specs.Prelude.{ℕ, ◌+◌, ◌-◌, List, [], map, slice_get, Option, Some, None}
use Rattle.c_tree.specs.declared.program.VarRef.{VarRef}
use Rattle.c_tree.specs.declared.program.VarRef.TheVariants.{Scalar, Local, Static}
use Rattle.c25_isa.specs.declared.instruction.Instr.{Instr}
use Rattle.c25_isa.specs.Step.{wrap16}
use Rattle.acc_code.specs.declared.operand.HelperName.{HelperName}
use Rattle.acc_code.specs.declared.operand.HelperName.TheVariants as helper
use Rattle.c25_helper.specs.declared.routine.Routine.{Routine}
use Rattle.c25_helper.specs.declared.routine.Routine.TheVariants as routine
use Rattle.c25_helper.specs.Routines.{routine_name}
use Rattle.emit_blocks.specs.Places.{Places, places_of, address_in}
use Rattle.emit_control.specs.declared.setting.Setting as code
use Rattle.emit_control.specs.declared.setting.Words.{Words}
use Rattle.emit_blocks.specs.Steps.{Operation}
use Rattle.emit_blocks.specs.Runs.{run_code}

-- where its words lie, the lengths of its local objects, the word that keeps its return address, if it has one, and the names of the program's
-- functions
pub record Setting : Type 0 where
  pub places : Places
  pub lengths : List ℕ
  pub back : Option ℕ
  pub names : List (List ℕ)

-- that of a setting in memory
abbrev pub setting_of : code.Setting → Setting
setting_of s = record { places = places_of s.site; lengths = s.lengths.now; back = s.back; names = map (λ f. f.name) s.functions.now }

-- the words of a local object from a cell on
abbrev pub cells_of : Setting → VarRef → ℕ → Words
cells_of s (Local n) from = record { first = wrap16 (address_in s.places.locals n + from); count = address_in s.lengths n - from }
cells_of s v from = record { first = 0; count = 0 }

abbrev pub name_or_none : Option (List ℕ) → List ℕ
name_or_none None = []
name_or_none (Some name) = name

abbrev pub function_name : Setting → ℕ → List ℕ
function_name s f = name_or_none (slice_get s.names f)

abbrev pub code_in : Setting → List Operation → List Instr
code_in s os = run_code s.places os

-- the routine of a name
abbrev pub routine_of : HelperName → Routine
routine_of helper.DivInt = routine.DivInt
routine_of helper.DivUnsigned = routine.DivUnsigned
routine_of helper.RemInt = routine.RemInt
routine_of helper.RemUnsigned = routine.RemUnsigned
routine_of helper.ShrInt = routine.ShrInt
routine_of helper.ShrUnsigned = routine.ShrUnsigned

abbrev pub helper_name : HelperName → List ℕ
helper_name name = routine_name (routine_of name)
