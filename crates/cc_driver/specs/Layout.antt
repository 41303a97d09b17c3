-- What `layout` makes of its file (docs/COMMANDS.md, "layout").
use Rattle.std.specs.Prelude.{◌≡◌, ◌≢◌, ℕ, List}
use Rattle.lay_model.specs.Sequences.{Sequence}
use Rattle.lay_text.specs.SequenceReading.{Reads, Says}
use Rattle.lay_text.specs.declared.fault.SeqFault.{SeqFault}
use Rattle.lay_text.specs.declared.fault.SeqFault.TheVariants as sequence_faults
use Rattle.lay_tree.specs.Search.{search_answer}
use Rattle.cc_files.specs.cc_text.declared.refusal.FileFault.TheVariants.{Sequence as OfSequence}
use Rattle.cc_answers.specs.Answers.{Answered}
use Rattle.cc_answers.specs.LayoutText.{layout_answer}
use Rattle.cc_files.specs.cc_text.Refusals.{Why, OfFile}
use Rattle.cc_files.specs.Fetches.{Wanted, wanted}

-- a sequence file, of at most 16,777,216 bytes
abbrev pub sequence_file : List ℕ → Wanted
sequence_file name = wanted name 16777216

-- the bytes say a sequence, and what the search over so many registers and with so many nodes answers is answered
pub record LaysOutTo (bytes : List ℕ) (registers budget : ℕ) (answer : Answered) : Type 0 where
  pub sequence : Sequence
  pub reads : Reads bytes sequence
  pub is : answer ≡ layout_answer (search_answer registers sequence budget)

-- the bytes say none
pub record LayoutRefused (name bytes : List ℕ) (why : Why) : Type 0 where
  pub fault : SeqFault
  pub some : fault ≢ sequence_faults.NoMemory
  pub says : Says bytes fault
  pub is : why ≡ OfFile name (OfSequence fault)
