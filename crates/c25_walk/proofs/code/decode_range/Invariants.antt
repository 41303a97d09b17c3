use Rattle.std.proofs.Common.{◌≡◌, ◌+◌, ◌-◌, ◌≤◌, drop, length, vec_len}
use Rattle.std.specs.Prelude.{All}
use Rattle.c25_isa.specs.Walk.{code_from}
use Rattle.c25_walk.specs.Decoding.{behind_placed}
use Rattle.c25_walk.specs.Marks.{IsInTable}
use Rattle.c25_walk.proofs.code.decode_range.Given as goal

abbrev pub invariant-loop-index : goal.invariant-loop-index
invariant-loop-index l = record {
  code : behind_placed l.placed.items (code_from (l.first + l.index) 0 (drop l.index l.words)) ≡ code_from l.first 0 l.words;
  within : All (IsInTable l.first (length l.words + 1)) l.placed.items;
  few : vec_len l.placed ≤ l.index;
  left : l.index ≤ length l.words;
}

abbrev pub decreases-loop-index : goal.decreases-loop-index
decreases-loop-index l = length l.words - l.index
