-- Why a command is refused, with the line and the status of each refusal (docs/COMMANDS.md, "Statuses and lines").
use Rattle.std.specs.Prelude.{ℕ, List, [], ◌++◌, codes, decimal}
use Rattle.c25_asm.specs.declared.fault.AsmFault.{AsmFault}
use Rattle.c25_asm.specs.declared.fault.AsmFault.TheVariants as assembly_faults
use Rattle.c25_debug.specs.declared.fault.ScriptFault.{ScriptFault}
use Rattle.c25_debug.specs.declared.fault.ScriptFault.TheVariants as script_faults
use Rattle.c25_image.specs.declared.fault.ImageFault.{ImageFault}
use Rattle.c25_image.specs.declared.fault.ImageFault.TheVariants as image_faults
use Rattle.c25_image.specs.declared.fault.PortFault.{PortFault}
use Rattle.c25_image.specs.declared.fault.PortFault.TheVariants as port_faults
use Rattle.lay_text.specs.declared.fault.SeqFault.{SeqFault}
use Rattle.lay_text.specs.declared.fault.SeqFault.TheVariants as sequence_faults
use Rattle.lay_profile.specs.cc_compile.lay_cert.declared.fault.CertFault.{CertFault}
use Rattle.lay_profile.specs.cc_compile.lay_cert.declared.fault.CertFault.TheVariants as certificate_faults
use Rattle.lay_profile.specs.cc_compile.declared.fault.BuildFault.{BuildFault}
use Rattle.lay_profile.specs.cc_compile.declared.fault.BuildFault.TheVariants as build_faults
use Rattle.lay_profile.specs.declared.fault.ProfileFault.{ProfileFault}
use Rattle.lay_profile.specs.declared.fault.ProfileFault.TheVariants as profile_faults
use Rattle.c_macro.specs.declared.fault.MacroFault.{MacroFault}
use Rattle.c_macro.specs.declared.fault.MacroFault.TheVariants as macro_faults
use Rattle.c_units.specs.declared.fault.UnitFault.{UnitFault}
use Rattle.c_units.specs.declared.fault.UnitFault.TheVariants as unit_faults
use Rattle.cc_text.specs.declared.refusal.FileFault.{FileFault}
use Rattle.cc_text.specs.declared.refusal.FileFault.TheVariants.{Read, TooLong, Image, Ports, Sequence, Certificate, Assembly, Script, OtherSource}
use Rattle.cc_text.specs.declared.refusal.Refusal.{Refusal}
use Rattle.cc_text.specs.declared.refusal.Refusal.TheVariants as refusal

-- a file of a name is refused, the source for its fault, the source for that of its macros and sections, sources for what keeps them from
-- being joined, the store failed, or memory was wanting
pub data Why : Type 0 where
  OfFile : List ℕ → FileFault → Why
  OfSource : BuildFault → Why
  OfMacros : MacroFault → Why
  OfUnits : UnitFault → Why
  OfStore : Why
  OfMemory : Why

-- a refusal in memory, as what it says
abbrev pub why_of : Refusal → Why
why_of (refusal.File name why) = OfFile name.now why
why_of (refusal.Source why) = OfSource why
why_of (refusal.Macros why) = OfMacros why
why_of (refusal.Units why) = OfUnits why
why_of refusal.Store = OfStore
why_of refusal.NoMemory = OfMemory

-- the refusal that a fault of a part leads to: want of memory in a part is want of memory
abbrev pub of_build_fault : BuildFault → Why
of_build_fault build_faults.NoMemory = OfMemory
of_build_fault why = OfSource why

abbrev pub of_macro_fault : MacroFault → Why
of_macro_fault macro_faults.NoMemory = OfMemory
of_macro_fault why = OfMacros why

abbrev pub of_unit_fault : UnitFault → Why
of_unit_fault unit_faults.NoMemory = OfMemory
of_unit_fault why = OfUnits why

abbrev pub of_image_fault : List ℕ → ImageFault → Why
of_image_fault name image_faults.NoMemory = OfMemory
of_image_fault name why = OfFile name (Image why)

abbrev pub of_port_fault : List ℕ → PortFault → Why
of_port_fault name port_faults.NoMemory = OfMemory
of_port_fault name why = OfFile name (Ports why)

abbrev pub of_sequence_fault : List ℕ → SeqFault → Why
of_sequence_fault name sequence_faults.NoMemory = OfMemory
of_sequence_fault name why = OfFile name (Sequence why)

abbrev pub of_certificate_fault : List ℕ → CertFault → Why
of_certificate_fault name certificate_faults.NoMemory = OfMemory
of_certificate_fault name why = OfFile name (Certificate why)

abbrev pub of_assembly_fault : List ℕ → AsmFault → Why
of_assembly_fault name assembly_faults.NoMemory = OfMemory
of_assembly_fault name why = OfFile name (Assembly why)

abbrev pub of_script_fault : List ℕ → ScriptFault → Why
of_script_fault name script_faults.NoMemory = OfMemory
of_script_fault name why = OfFile name (Script why)

-- of a source and of the recorded image of this name
abbrev pub of_profile_fault : List ℕ → ProfileFault → Why
of_profile_fault name (profile_faults.Lex why) = OfSource (build_faults.Lex why)
of_profile_fault name (profile_faults.Parse why) = OfSource (build_faults.Parse why)
of_profile_fault name (profile_faults.Types why) = OfSource (build_faults.Types why)
of_profile_fault name profile_faults.OtherSource = OfFile name OtherSource
of_profile_fault name (profile_faults.Plan why) = OfSource (build_faults.Plan why)
of_profile_fault name (profile_faults.Link why) = OfSource (build_faults.Link why)
of_profile_fault name profile_faults.NoMemory = OfMemory

-- the line that refuses an image; want of memory has none
abbrev pub image_line : List ℕ → ImageFault → List ℕ
image_line name (image_faults.BadLine line) = codes "file refused: " ++ (name ++ (codes " bad line " ++ (decimal line ++ codes "\n")))
image_line name (image_faults.TooLong count) = codes "file refused: " ++ (name ++ (codes " too long " ++ (decimal count ++ codes "\n")))
image_line name (image_faults.BadRange line) = codes "file refused: " ++ (name ++ (codes " bad range line " ++ (decimal line ++ codes "\n")))
image_line name image_faults.NoMemory = []

-- the line that refuses a port file; want of memory has none
abbrev pub port_line : List ℕ → PortFault → List ℕ
port_line name (port_faults.BadLine line) = codes "file refused: " ++ (name ++ (codes " bad line " ++ (decimal line ++ codes "\n")))
port_line name port_faults.NoMemory = []

-- the line that refuses a sequence file; want of memory has none
abbrev pub sequence_line : List ℕ → SeqFault → List ℕ
sequence_line name (sequence_faults.BadLine line) = codes "file refused: " ++ (name ++ (codes " bad line " ++ (decimal line ++ codes "\n")))
sequence_line name (sequence_faults.TooManyScalars count) = codes "file refused: " ++ (name ++ (codes " too many scalars " ++ (decimal count ++ codes "\n")))
sequence_line name sequence_faults.NoMemory = []

-- the line that refuses a certificate; want of memory has none
abbrev pub certificate_line : List ℕ → CertFault → List ℕ
certificate_line name (certificate_faults.BadLine line) = codes "file refused: " ++ (name ++ (codes " bad line " ++ (decimal line ++ codes "\n")))
certificate_line name (certificate_faults.Short frame) = codes "file refused: " ++ (name ++ (codes " short frame " ++ (decimal frame ++ codes "\n")))
certificate_line name (certificate_faults.Version found) = codes "file refused: " ++ (name ++ (codes " version " ++ (decimal found ++ codes "\n")))
certificate_line name certificate_faults.NoMemory = []

-- the line that refuses an assembler text; want of memory has none
abbrev pub assembly_line : List ℕ → AsmFault → List ℕ
assembly_line name (assembly_faults.BadLine line) = codes "file refused: " ++ (name ++ (codes " bad line " ++ (decimal line ++ codes "\n")))
assembly_line name (assembly_faults.UnknownLabel line) = codes "file refused: " ++ (name ++ (codes " unknown label line " ++ (decimal line ++ codes "\n")))
assembly_line name (assembly_faults.LabelTwice line) = codes "file refused: " ++ (name ++ (codes " label twice line " ++ (decimal line ++ codes "\n")))
assembly_line name (assembly_faults.OutOfRange line) = codes "file refused: " ++ (name ++ (codes " out of range line " ++ (decimal line ++ codes "\n")))
assembly_line name (assembly_faults.TooLong count) = codes "file refused: " ++ (name ++ (codes " too long " ++ (decimal count ++ codes "\n")))
assembly_line name assembly_faults.NoMemory = []

-- the line that refuses a script; want of memory has none
abbrev pub script_line : List ℕ → ScriptFault → List ℕ
script_line name (script_faults.BadLine line) = codes "file refused: " ++ (name ++ (codes " bad line " ++ (decimal line ++ codes "\n")))
script_line name (script_faults.TooLong count) = codes "file refused: " ++ (name ++ (codes " too long " ++ (decimal count ++ codes "\n")))
script_line name script_faults.NoMemory = []

-- the line that refuses a file
abbrev pub file_line : List ℕ → FileFault → List ℕ
file_line name Read = codes "read fault: " ++ (name ++ codes "\n")
file_line name TooLong = codes "file refused: " ++ (name ++ codes " too long\n")
file_line name (Image why) = image_line name why
file_line name (Ports why) = port_line name why
file_line name (Sequence why) = sequence_line name why
file_line name (Certificate why) = certificate_line name why
file_line name (Assembly why) = assembly_line name why
file_line name (Script why) = script_line name why
file_line name OtherSource = codes "file refused: " ++ (name ++ codes " other source\n")

-- 3 for a file that can't be read, and else 9
abbrev pub file_status : FileFault → ℕ
file_status Read = 3
file_status TooLong = 9
file_status (Image why) = 9
file_status (Ports why) = 9
file_status (Sequence why) = 9
file_status (Certificate why) = 9
file_status (Assembly why) = 9
file_status (Script why) = 9
file_status OtherSource = 9

abbrev pub refusal_status : Why → ℕ
refusal_status (OfFile name why) = file_status why
refusal_status (OfSource why) = 1
refusal_status (OfMacros why) = 1
refusal_status (OfUnits why) = 1
refusal_status OfStore = 4
refusal_status OfMemory = 5
