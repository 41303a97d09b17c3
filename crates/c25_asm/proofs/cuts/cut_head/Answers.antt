-- Behind the first word a blank stands, or nothing.
use Rattle.std.proofs.Common.{ap, ◌∙◌}
use Rattle.c25_asm.specs.Cuts.{is_blank, behind_blanks}
use Rattle.c25_asm.proofs.CutLemmas.{before_split, from_split}
use Rattle.c25_asm.proofs.cuts.cut_head.Goals as goal

pub returns-clause-head : goal.returns-clause-head
returns-clause-head c = before_split is_blank c.args.text.now c.front_until_blank.result.0.now c.front_until_blank.result.1.now c.front_until_blank.ensures.0 c.front_until_blank.ensures.1 c.front_until_blank.ensures.2

pub returns-clause-rest : goal.returns-clause-rest
returns-clause-rest c =
    c.behind_blanks.ensures
    ∙ ap behind_blanks (from_split is_blank c.args.text.now c.front_until_blank.result.0.now c.front_until_blank.result.1.now c.front_until_blank.ensures.0 c.front_until_blank.ensures.1 c.front_until_blank.ensures.2)
