use Rattle.std.proofs.Common.{◌≡◌, ◌≤◌, [], length}
use Rattle.c_macro.proofs.ReadingLemmas.{Reads}
use Rattle.c_macro.proofs.reader.Reader.skip_blanks.Given as goal

abbrev pub invariant-loop-after : goal.invariant-loop-after
invariant-loop-after l = record {
  end : l.self.end ≡ l.initial.self.end;
  reads : Reads l.initial.self.end l.initial.self.rest.now l.self.rest.now [];
  shorter : length l.self.rest.now ≤ length l.initial.self.rest.now;
}

abbrev pub decreases-loop-after : goal.decreases-loop-after
decreases-loop-after l = length l.self.rest.now
