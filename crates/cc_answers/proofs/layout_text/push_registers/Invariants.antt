use Rattle.std.proofs.Common.{◌≡◌, ◌++◌, drop}
use Rattle.cc_answers.specs.LayoutText.{register_lines}
use Rattle.cc_answers.proofs.layout_text.push_registers.Given as goal

abbrev pub invariant-loop-number : goal.invariant-loop-number
invariant-loop-number l = l.text.items ++ register_lines l.number (drop l.number l.lists) ≡ l.fn.text.items ++ register_lines 0 l.lists
