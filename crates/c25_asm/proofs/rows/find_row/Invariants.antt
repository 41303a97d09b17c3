-- No row so far has the mnemonic.
use Rattle.std.proofs.Common.{◌≡◌, drop}
use Rattle.std.specs.List.{find}
use Rattle.c25_asm.specs.Statements.{spells}
use Rattle.c25_asm.proofs.rows.find_row.Given as goal

abbrev pub invariant-loop-row : goal.invariant-loop-row
invariant-loop-row l = find (spells l.text) (drop l.row-index l.rows) ≡ find (spells l.text) l.rows
