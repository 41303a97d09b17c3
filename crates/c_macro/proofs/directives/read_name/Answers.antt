use Rattle.c_macro.proofs.DirectiveLemmas.{no_name}
use Rattle.c_macro.proofs.directives.read_name.Goals as goal

pub returns-in_default : goal.returns-in_default
returns-in_default c =
    no_name c.args.text.now c.after_blanks-after.result.now c.name_run.result.0.now c.name_run.result.1.now
    c.after_blanks-after.ensures c.name_run.ensures (rw c.in_default.is at c.name_text.ensures)
