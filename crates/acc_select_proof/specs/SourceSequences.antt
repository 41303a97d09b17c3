-- The access sequence of a typed function (docs/TRANSLATION.md, "Accesses of sources"): its frame's scalars, temporaries among them, and its blocks, each of
-- which counts once.
use Rattle.std.specs.Prelude.{ℕ, ◌+◌, length, map}
use Rattle.c_tree.specs.Temporaries.{statement_temporaries}
use Rattle.c_tree.specs.TypedTree.{FunctionTree}
use Rattle.acc_code.specs.AccSequence.{once, sequence_of}
use Rattle.acc_code.specs.AccTree.{FunctionItems}
use Rattle.lay_model.specs.Sequences.{Sequence}
use Rattle.acc_select_proof.specs.SourceAccesses.{function_blocks}

-- at a step by which moves may be free, beside those by 1
abbrev pub source_sequence : ℕ → FunctionTree → Sequence
source_sequence step f = record { scalars = length f.scalars + statement_temporaries f.body; step = step; blocks = map once (function_blocks f) }

-- that of accumulator code at a step
abbrev pub at_step : ℕ → FunctionItems → Sequence
at_step step g = record (sequence_of g) { step = step }
