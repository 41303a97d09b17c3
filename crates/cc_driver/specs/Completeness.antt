-- When a command is sure to be done, and what it then answers (docs/COMMANDS.md, "Statuses and lines").
use Rattle.std.specs.Prelude.{◌≡◌, ◌<◌, ◌-◌, ◌^◌, ℕ, IsTrue, List, Contains, Ok}
use Rattle.c25_isa.specs.Image.{Contents}
use Rattle.c25_image.specs.PortText.{PortText}
use Rattle.c25_asm.specs.AssemblerText.{assembled}
use Rattle.c_tree.specs.TypedTree.{ProgramTree}
use Rattle.lay_model.specs.Sequences.{Sequence}
use Rattle.lay_text.specs.SequenceReading as sequence
use Rattle.cc_check.specs.lay_cert.Frames.{Frame}
use Rattle.cc_check.specs.lay_cert.CertReading as certificate
use Rattle.cc_shelf.specs.Counts.{FetchFailed, StoreFailed, Rose}
use Rattle.cc_words.specs.Asked.{Asked}
use Rattle.cc_answers.specs.Answers.{Answered}
use Rattle.cc_files.specs.cc_compile.SourceFaults.{HasProgram}
use Rattle.cc_files.specs.World.{Shelves, Sinks}
use Rattle.cc_files.specs.Stores.{Stored, AreStored}
use Rattle.cc_driver.specs.Run.{IsImageOf}
use Rattle.cc_driver.specs.Commands.{Comes}

-- the shelf tells its files, and no fetch, store or put failed
pub record NothingFails (shelf : Shelves) (sink : Sinks) : Type 0 where
  pub tells : IsTrue shelf.tells
  pub fetches : ¬ FetchFailed shelf.before.counts shelf.now.counts
  pub stores : ¬ StoreFailed shelf.before.counts shelf.now.counts
  pub puts : ¬ Rose sink.before.faults sink.now.faults

-- no call of the shelf and no put that comes can fail, and no count of failed ones is at its greatest value; so it is of those in memory that are new, and of
-- which no call is to fail
pub record AreReliable (shelf : Shelves) (sink : Sinks) : Type 0 where
  pub files : IsTrue shelf.before.reliable
  pub output : IsTrue sink.before.reliable
  pub fetch_faults : shelf.before.counts.fetch_faults < 2 ^ 64 - 1
  pub store_faults : shelf.before.counts.store_faults < 2 ^ 64 - 1
  pub put_faults : sink.before.faults < 2 ^ 64 - 1

-- files in their formats: a source that is typed, an image, ports, a sequence, a certificate and an assembler text
abbrev pub IsTypedSource : List ℕ → Type 0
IsTypedSource bytes = (program : ProgramTree) × HasProgram bytes program

abbrev pub IsImageText : List ℕ → Type 0
IsImageText bytes = (contents : Contents) × IsImageOf contents bytes

abbrev pub IsPortText : List ℕ → Type 0
IsPortText bytes = (lines : List (ℕ × ℕ)) × PortText bytes lines

abbrev pub IsSequenceText : List ℕ → Type 0
IsSequenceText bytes = (seq : Sequence) × sequence.Reads bytes seq

abbrev pub IsCertificateText : List ℕ → Type 0
IsCertificateText bytes = (frames : List Frame) × certificate.Reads bytes frames

abbrev pub IsAssemblerText : List ℕ → Type 0
IsAssemblerText bytes = (words : List ℕ) × (assembled bytes ≡ Ok words)

-- the command is done, or memory was wanting
pub data Completes (what : Asked) (statuses : List ℕ) (shelf : Shelves) (status : ℕ) : Type 0 where
  -- what its files come to is stored, and its status is answered, which is one of these
  EndsDone : (answer : Answered) (texts : List Stored) → Comes what shelf answer texts → AreStored texts shelf → Contains statuses answer.status → status ≡ answer.status
      → Completes what statuses shelf status
  EndsWanting : status ≡ 5 → Completes what statuses shelf status
