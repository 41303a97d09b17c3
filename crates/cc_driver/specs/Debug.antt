-- What `debug` makes of its files (docs/COMMANDS.md, "debug").
use Rattle.std.specs.Prelude.{◌≡◌, ◌≢◌, ℕ, ◌≤◌, List, length, Some}
use Rattle.c25_isa.specs.Image.{Contents}
use Rattle.c25_image.specs.PortText.{PortText}
use Rattle.c25_debug.specs.declared.command.Command.{Command}
use Rattle.c25_debug.specs.declared.fault.ScriptFault.{ScriptFault}
use Rattle.c25_debug.specs.declared.fault.ScriptFault.TheVariants as script_faults
use Rattle.c25_debug.specs.Script.{ScriptText, ScriptSays}
use Rattle.c25_debug.specs.Session.{Session}
use Rattle.cc_answers.specs.Answers.{Answered}
use Rattle.cc_files.specs.cc_text.declared.refusal.FileFault.TheVariants.{Script}
use Rattle.cc_files.specs.cc_text.Refusals.{Why, OfFile}
use Rattle.cc_files.specs.Fetches.{Wanted, wanted}
use Rattle.cc_driver.specs.Run.{IsImageOf, IsImageRefused, ArePortsRefused}

-- a script, of at most 65,536 bytes
abbrev pub script_file : List ℕ → Wanted
script_file name = wanted name 65536

-- what a script shows is put
abbrev pub session_answer : List ℕ → Answered
session_answer shown = record { text = Some shown; status = 0 }

-- the commands of the script, at most 1,000, show this of the image, run on what the port lines give
pub record DebugsTo (image_bytes port_bytes script_bytes : List ℕ) (answer : Answered) : Type 0 where
  pub contents : Contents
  pub lines : List (ℕ × ℕ)
  pub script : List Command
  pub image : IsImageOf contents image_bytes
  pub ports : PortText port_bytes lines
  pub text : ScriptText script_bytes script
  pub few : length script ≤ 1000
  pub shown : List ℕ
  pub session : Session contents.words lines script shown
  pub is : answer ≡ session_answer shown

-- the bytes of a script are refused
pub record IsScriptRefused (name bytes : List ℕ) (why : Why) : Type 0 where
  pub fault : ScriptFault
  pub some : fault ≢ script_faults.NoMemory
  pub says : ScriptSays bytes fault
  pub is : why ≡ OfFile name (Script fault)

-- the image is refused, or else the ports, or else the script
pub data DebugRefused (image ports script image_bytes port_bytes script_bytes : List ℕ) (why : Why) : Type 0 where
  BadImage : IsImageRefused image image_bytes why → DebugRefused image ports script image_bytes port_bytes script_bytes why
  BadPorts : (contents : Contents) → IsImageOf contents image_bytes → ArePortsRefused ports port_bytes why
      → DebugRefused image ports script image_bytes port_bytes script_bytes why
  BadScript : (contents : Contents) (lines : List (ℕ × ℕ)) → IsImageOf contents image_bytes → PortText port_bytes lines
      → IsScriptRefused script script_bytes why → DebugRefused image ports script image_bytes port_bytes script_bytes why
