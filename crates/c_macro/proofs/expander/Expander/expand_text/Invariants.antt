use Rattle.std.proofs.Common.{◌≡◌, ◌+◌, ◌≤◌, length}
use Rattle.c_macro.specs.Expanding.{state_of, IsAtLine}
use Rattle.c_macro.proofs.TextLines.{Answered}
use Rattle.c_macro.proofs.expander.Expander.expand_text.Given as goal

abbrev pub invariant-loop-token : goal.invariant-loop-token
invariant-loop-token l = record {
  ready : IsAtLine l.self;
  bodies : l.self.replacer.macros.bodies ≡ l.initial.self.replacer.macros.bodies;
  sections : l.self.sections ≡ l.initial.self.sections;
  end : l.at + length l.line ≡ l.reader.end;
  placed : length l.reader.rest.now ≤ l.reader.end;
  answered : Answered l.initial.self.replacer.output (state_of l.initial.self).table l.at l.line l.reader.rest.now l.self.replacer.output;
}

abbrev pub decreases-loop-token : goal.decreases-loop-token
decreases-loop-token l = length l.reader.rest.now
