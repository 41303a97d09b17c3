-- No row so far has the spelling.
use Rattle.std.proofs.Common.{◌≡◌, drop, map}
use Rattle.c_fixed_texts.specs.Keywords.{keyword_among, spelled}
use Rattle.c_fixed_texts.proofs.keywords.among.Given as goal

abbrev pub invariant-loop-row : goal.invariant-loop-row
invariant-loop-row l = keyword_among l.text (map spelled (drop l.row-index l.rows)) ≡ keyword_among l.text (map spelled l.rows)
