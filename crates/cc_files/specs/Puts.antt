-- What the puts of lines and answers make of a sink and of the status (docs/COMMANDS.md, "Statuses and lines").
use Rattle.std.specs.Prelude.{◌≡◌, ◌⊎◌, ℕ, IsTrue, List, [], ◌∷◌, ◌++◌, take, Contains, codes, Option, Some, None, Result, Ok, Err, String, string_bytes}
use Rattle.std.specs.declared.alloc.Global.{Global}
use Rattle.word_base.specs.declared.text.NoMemory.{NoMemory}
use Rattle.cc_shelf.specs.Counts.{Rose, raised}
use Rattle.cc_shelf.specs.Output.{Output}
use Rattle.cc_answers.specs.Answers.{Answered}
use Rattle.cc_text.specs.Refusals.{Why, OfFile, OfSource, OfMacros, OfUnits, OfStore, OfMemory, file_line, file_status}
use Rattle.cc_text.specs.SourceText.{source_line}
use Rattle.cc_text.specs.MacroText.{macro_line}
use Rattle.cc_text.specs.UnitText.{unit_line}
use Rattle.cc_files.specs.World.{Sinks}

-- what a put of a line made of a sink that tells
pub data LinePut (line : List ℕ) (before now : Output) : Type 0 where
  -- the whole line is there
  Whole : now.bytes ≡ before.bytes ++ line → now.faults ≡ before.faults → LinePut line before now
  -- the put failed, and a part of the line is there
  Part : Rose before.faults now.faults → (n : ℕ) → now.bytes ≡ before.bytes ++ take n line → LinePut line before now
  -- the sink found no memory for it, counted that, and is as it was
  Nothing : now.bytes ≡ before.bytes → now.faults ≡ before.faults → Rose before.wants now.wants → LinePut line before now

-- one put was asked for, of this line
pub record PutsLine (line : List ℕ) (sink : Sinks) : Type 0 where
  pub calls : sink.now.calls ≡ raised sink.before.calls 1
  pub put : IsTrue sink.tells → LinePut line sink.before sink.now

-- no put was asked for
abbrev pub PutsNothing : Sinks → Type 0
PutsNothing sink = sink.now ≡ sink.before

-- the line where memory was wanting
abbrev pub memory_line : List ℕ
memory_line = codes "want of memory\n"

-- one put was asked for, of a text: the first of these is the status where all of it was put, and the second one where the put failed
pub data TextPut (text : List ℕ) (ends fails : ℕ) (sink : Sinks) (status : ℕ) : Type 0 where
  -- all of it was
  PutWhole : status ≡ ends → sink.now.calls ≡ raised sink.before.calls 1 → sink.now.faults ≡ sink.before.faults → (IsTrue sink.tells → sink.now.bytes ≡ sink.before.bytes ++ text) → TextPut text ends fails sink status
  -- the put failed, and a part of it is there
  PutPart : status ≡ fails → sink.now.calls ≡ raised sink.before.calls 1 → Rose sink.before.faults sink.now.faults → (IsTrue sink.tells → (n : ℕ) × (sink.now.bytes ≡ sink.before.bytes ++ take n text))
      → TextPut text ends fails sink status
  -- the sink found no memory for it, and a second put was asked for, of the line that says so
  PutNothing : status ≡ 5 → sink.now.calls ≡ raised (raised sink.before.calls 1) 1 → (IsTrue sink.tells → LinePut memory_line sink.before sink.now)
      → TextPut text ends fails sink status

-- the text of an answer was put, or it has none and no put was asked for
abbrev pub PutsText : Option (List ℕ) → ℕ → Sinks → ℕ → Type 0
PutsText None ends sink status = (status ≡ ends) × PutsNothing sink
PutsText (Some text) ends sink status = TextPut text ends 4 sink status

abbrev pub AnswerPut : Answered → Sinks → ℕ → Type 0
AnswerPut answer sink status = PutsText answer.text answer.status sink status

-- it is said that memory was wanting
abbrev pub SaysWant : Sinks → ℕ → Type 0
SaysWant sink status = (status ≡ 5) × PutsLine memory_line sink

-- a line with this status was put, or a part of it where the put failed; or there was no memory for it, and that is said
abbrev pub SaysLine : List ℕ → ℕ → Sinks → ℕ → Type 0
SaysLine line ends sink status = TextPut line ends ends sink status ⊎ SaysWant sink status

-- so it is of a line that was made, as it is in memory
abbrev pub SaysMade : Result (String Global) NoMemory → ℕ → Sinks → ℕ → Type 0
SaysMade (Ok line) ends sink status = TextPut (string_bytes line) ends ends sink status
SaysMade (Err e) ends sink status = SaysWant sink status

-- the line of a refusal; a store that failed has none
abbrev pub line_of : Why → List ℕ
line_of (OfFile name why) = file_line name why
line_of (OfSource why) = source_line why
line_of (OfMacros why) = macro_line why
line_of (OfUnits why) = unit_line why
line_of OfStore = []
line_of OfMemory = memory_line

-- the line is there, or else the put failed, and a part of the line is there
pub data LineCame (line : List ℕ) (sink : Sinks) : Type 0 where
  CameWhole : sink.now.faults ≡ sink.before.faults → (IsTrue sink.tells → sink.now.bytes ≡ sink.before.bytes ++ line) → LineCame line sink
  CamePart : Rose sink.before.faults sink.now.faults → (IsTrue sink.tells → (n : ℕ) × (sink.now.bytes ≡ sink.before.bytes ++ take n line)) → LineCame line sink

-- what is said of a refusal, and with which status
abbrev pub Refused : Why → Sinks → ℕ → Type 0
Refused (OfFile name why) sink status = SaysLine (file_line name why) (file_status why) sink status
Refused (OfSource why) sink status = SaysLine (source_line why) 1 sink status
Refused (OfMacros why) sink status = SaysLine (macro_line why) 1 sink status
Refused (OfUnits why) sink status = SaysLine (unit_line why) 1 sink status
Refused OfStore sink status = (status ≡ 4) × PutsNothing sink
Refused OfMemory sink status = SaysWant sink status

-- the statuses that there are
abbrev pub IsStatus : ℕ → Type 0
IsStatus n = Contains (0 ∷ 1 ∷ 2 ∷ 3 ∷ 4 ∷ 5 ∷ 6 ∷ 7 ∷ 8 ∷ 9 ∷ 10 ∷ []) n
