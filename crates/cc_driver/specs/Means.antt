-- What `means` makes of its files (docs/COMMANDS.md, "means").
use Rattle.std.specs.Prelude.{◌≡◌, ℕ, List}
use Rattle.word_base.specs.Ports.{input_of}
use Rattle.c_tree.specs.TypedTree.{ProgramTree}
use Rattle.c_tree.specs.SourceRun.{source_run}
use Rattle.c25_image.specs.PortText.{PortText}
use Rattle.cc_files.specs.cc_compile.declared.fault.BuildFault.{BuildFault}
use Rattle.cc_files.specs.cc_compile.SourceFaults.{HasProgram, HasNoProgramFor}
use Rattle.cc_answers.specs.Answers.{Answered}
use Rattle.cc_files.specs.cc_text.Refusals.{Why, OfSource}
use Rattle.cc_answers.specs.MeansText.{means_answer}
use Rattle.cc_driver.specs.Run.{ArePortsRefused}

-- the source has a typed program, whose run on what the port lines give is answered, with so many turns
pub record MeansTo (source_bytes port_bytes : List ℕ) (turns : ℕ) (answer : Answered) : Type 0 where
  pub program : ProgramTree
  pub lines : List (ℕ × ℕ)
  pub typed : HasProgram source_bytes program
  pub ports : PortText port_bytes lines
  pub is : answer ≡ means_answer turns (source_run program (input_of lines) turns)

-- the ports are refused for their format, or else the source for its first fault
pub data MeansRefused (ports source_bytes port_bytes : List ℕ) (why : Why) : Type 0 where
  PortsFirst : ArePortsRefused ports port_bytes why → MeansRefused ports source_bytes port_bytes why
  SourceThen : (lines : List (ℕ × ℕ)) → PortText port_bytes lines → (fault : BuildFault) → HasNoProgramFor fault source_bytes → why ≡ OfSource fault
      → MeansRefused ports source_bytes port_bytes why
