-- By whether the text is a number.
use Rattle.std.proofs.Common.{sym, ◌∙◌}
use Rattle.c25_asm.specs.LabelView.{known}
use Rattle.c25_asm.specs.Names.{is_name}
use Rattle.c25_asm.specs.Numbers.{number}
use Rattle.c25_asm.proofs.NumberLemmas.{word_number, word_named}
use Rattle.c25_asm.proofs.operands.word.Goals as goal

pub returns-in-Some : goal.returns-in-Some
returns-in-Some c =
    c.below.ensures
    ∙ word_number (number c.args.text.now) c.in-Some.number (is_name c.args.text.now) (known c.args.labels.now c.args.text.now) (sym c.in-Some.is ∙ c.number.ensures)

pub returns-in-None : goal.returns-in-None
returns-in-None c =
    c.label_number.ensures
    ∙ word_named (number c.args.text.now) (is_name c.args.text.now) (known c.args.labels.now c.args.text.now) (sym c.in-None.is ∙ c.number.ensures)
