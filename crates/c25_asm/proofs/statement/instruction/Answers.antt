-- What is read as the operands of a row fits it.
use Rattle.c25_asm.specs.LabelView.{known}
use Rattle.c25_asm.proofs.FitLemmas.{fields_fit}
use Rattle.c25_asm.proofs.statement.instruction.Goals as goal

pub row_words-requires : goal.row_words-requires
row_words-requires c = fields_fit (known c.args.labels.now) c.requires c.in-Some.row c.cut_head.result.1.now c.in_ok-fields.fields c.in_ok-fields.ensures
