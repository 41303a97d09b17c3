use Rattle.std.proofs.Common.{◌≡◌, ◌<◌, ◌^◌, ◌++◌, drop, map}
use Rattle.std.specs.List.{AllWithin}
use Rattle.text_base.specs.Lines.{lines_text}
use Rattle.lay_lines.specs.BlockText.{block_line}
use Rattle.lay_lines.proofs.writing.push_blocks.Given as goal

abbrev pub invariant-loop-index : goal.invariant-loop-index
invariant-loop-index l = record {
  text : l.text.items ++ lines_text (map block_line (drop l.index l.blocks)) ≡ l.initial.text.items ++ lines_text (map block_line l.blocks);
  weights : AllWithin (λ b. b.weight < 2 ^ 32) l.blocks 0 l.index;
}
