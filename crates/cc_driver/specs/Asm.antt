-- What `asm` makes of its file (docs/COMMANDS.md, "asm").
use Rattle.std.specs.Prelude.{◌≡◌, ◌≢◌, ℕ, List, [], Ok, Err}
use Rattle.c25_isa.specs.Image.{Contents}
use Rattle.c25_image.specs.ImageText.{image_text}
use Rattle.c25_image.specs.ImageFaults.{IsWhole}
use Rattle.c25_asm.specs.AssemblerText.{assembled}
use Rattle.c25_asm.specs.declared.fault.AsmFault.{AsmFault}
use Rattle.c25_asm.specs.declared.fault.AsmFault.TheVariants as assembly_faults
use Rattle.cc_files.specs.cc_text.declared.refusal.FileFault.TheVariants.{Assembly}
use Rattle.cc_answers.specs.Answers.{Answered}
use Rattle.cc_files.specs.cc_text.Refusals.{Why, OfFile}
use Rattle.cc_files.specs.Fetches.{Wanted, wanted}
use Rattle.cc_files.specs.Stores.{Stored}
use Rattle.cc_driver.specs.Texts.{one_text, silent_answer}

-- an assembler text, of at most 4,194,304 bytes
abbrev pub text_file : List ℕ → Wanted
text_file name = wanted name 4194304

-- an image of these words, in which no function is named
abbrev pub image_of_words : List ℕ → Contents
image_of_words words = record { words = words; functions = [] }

-- the bytes are assembled to words, and the text of their image is stored
pub record AssemblesTo (name bytes : List ℕ) (answer : Answered) (texts : List Stored) : Type 0 where
  pub words : List ℕ
  pub assembles : assembled bytes ≡ Ok words
  pub whole : IsWhole (image_of_words words)
  pub stored : texts ≡ one_text name (image_text (image_of_words words))
  pub is : answer ≡ silent_answer

-- the bytes are no assembler text
pub record AssembleRefused (name bytes : List ℕ) (why : Why) : Type 0 where
  pub fault : AsmFault
  pub some : fault ≢ assembly_faults.NoMemory
  pub says : assembled bytes ≡ Err fault
  pub is : why ≡ OfFile name (Assembly fault)
