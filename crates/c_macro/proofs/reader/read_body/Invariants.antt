use Rattle.std.proofs.Common.{◌≡◌, ◌≤◌, length}
use Rattle.c_macro.proofs.ReadingLemmas.{HasRead}
use Rattle.c_macro.proofs.reader.read_body.Given as goal

abbrev pub invariant-loop-body : goal.invariant-loop-body
invariant-loop-body l = record {
  end : l.reader.end ≡ l.end;
  placed : length l.reader.rest.now ≤ l.reader.end;
  read : HasRead l.text l.end l.reader.rest.now l.body.items;
}

abbrev pub decreases-loop-body : goal.decreases-loop-body
decreases-loop-body l = length l.reader.rest.now
