-- The items that lines of code stand for (docs/MACHINE.md, "Pieces").
use Rattle.c25_isa.specs.declared.piece.PieceItem.{PieceItem}
use Rattle.c25_isa.specs.declared.piece.PieceItem.TheVariants as item
use Rattle.c25_helper.specs.declared.line.Line.{Line}
use Rattle.c25_helper.specs.declared.line.Line.TheVariants as line
use Rattle.c25_helper.specs.Routines.{no_change}

abbrev pub line_item : Line → PieceItem
line_item (line.Do i) = item.Do i
line_item (line.Mark mark) = item.Mark mark
line_item (line.Jump op to) = item.Jump op to no_change
