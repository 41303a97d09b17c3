-- By whether a line feed stands somewhere.
use Rattle.std.proofs.Common.{sym, ap, ◌∙◌}
use Rattle.std.specs.Prelude.{option_copied}
use Rattle.c25_asm.proofs.LineLemmas.{lines_front, lines_last, feed_shorter}
use Rattle.c25_asm.proofs.lines.next_line.Goals as goal

pub returns-in-Some-clause-lines : goal.returns-in-Some-clause-lines
returns-in-Some-clause-lines c =
    lines_front c.args.text.now c.cut.result.0.now c.without_return.result.now c.in-Some.rest.now c.cut.ensures.front (sym (ap option_copied c.in-Some.is) ∙ c.cut.ensures.back) c.without_return.ensures

pub returns-in-Some-clause-shorter : goal.returns-in-Some-clause-shorter
returns-in-Some-clause-shorter c = feed_shorter c.args.text.now c.in-Some.rest.now (sym (ap option_copied c.in-Some.is) ∙ c.cut.ensures.back)

pub returns-in-None-clause-lines : goal.returns-in-None-clause-lines
returns-in-None-clause-lines c = lines_last c.args.text.now c.cut.result.0.now c.requires c.cut.ensures.front (sym (ap option_copied c.in-None.is) ∙ c.cut.ensures.back)
