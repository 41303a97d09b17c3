-- Where the startup calls `main`.
use Rattle.std.specs.Prelude.{ℕ, true, Option, Some, None}
use Rattle.word_base.specs.Ports.{Input}
use Rattle.ir_semantics.specs.Outside.{no_words, first_outside}
use Rattle.ir_semantics.specs.AccRows.{Gone}
use Rattle.ir_semantics.specs.AccRun.{Machine}
use Rattle.image_proof.specs.PlanPlaces.{places_of}
use Rattle.image_proof.specs.Emissions.{Emission}

abbrev pub nothing_kept : ℕ → Option ℕ
nothing_kept a = None

-- the state in which a run of accumulator code begins
abbrev pub first_state : Emission → Input → Machine
first_state e input = record {
  registers = record { acc = Gone; t = None; p = None; sxm = Some true; pointed = None };
  frame = no_words;
  scratch = no_words;
  given_to = 0;
  given = no_words;
  outside = first_outside (places_of e.plan) e.code.statics input;
  work = 0;
}
