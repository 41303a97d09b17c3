use Rattle.c_macro.proofs.DirectiveLemmas.{other_line}
use Rattle.c_macro.proofs.directives.read_directive.Goals as goal

pub returns-in_default : goal.returns-in_default
returns-in_default c = other_line c.args.line.now c.after_blanks-front.result.now c.after_blanks-front.ensures (rw c.in_default.is at c.behind.ensures)
