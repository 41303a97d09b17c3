use Rattle.std.proofs.Common.{rules, arith}
use Rattle.lay_lines.proofs.ArrangedLists.{not_few, not_filled, arranged}
use Rattle.lay_lines.proofs.list_lines.is_arrangement.Goals as goal

pub returns-then-scalars-gt-MOST_SCALARS : goal.returns-then-scalars-gt-MOST_SCALARS
returns-then-scalars-gt-MOST_SCALARS c = not_few c.args.scalars c.args.lists.now (omega arith)

pub returns-then-not-filled : goal.returns-then-not-filled
returns-then-not-filled c = not_filled c.args.scalars c.args.lists.now (search rules)

pub returns : goal.returns
returns c = arranged c.args.scalars c.args.all.now c.args.lists.now c.stand_once.result c.requires (omega arith) (search rules) (search rules) c.stand_once.ensures
