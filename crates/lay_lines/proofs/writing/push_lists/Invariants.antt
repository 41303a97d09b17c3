use Rattle.std.proofs.Common.{◌≡◌, ◌<◌, ◌^◌, ◌++◌, drop}
use Rattle.std.specs.List.{AllWithin}
use Rattle.text_base.specs.Lines.{lines_text}
use Rattle.lay_lines.specs.ListText.{list_lines}
use Rattle.lay_lines.proofs.writing.push_lists.Given as goal

abbrev pub invariant-loop-index : goal.invariant-loop-index
invariant-loop-index l = record {
  text : l.text.items ++ lines_text (list_lines (drop l.index l.bases) (drop l.index l.lists)) ≡ l.initial.text.items ++ lines_text (list_lines l.bases l.lists);
  bases : AllWithin (λ base. base < 2 ^ 16) l.bases 0 l.index;
}
