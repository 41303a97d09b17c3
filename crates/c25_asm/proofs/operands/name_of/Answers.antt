-- By the test.
use Rattle.c25_asm.proofs.NameLemmas.{name_found}
use Rattle.c25_asm.proofs.operands.name_of.Goals as goal

pub returns : goal.returns
returns c = name_found c.args.text.now c.name_text.result c.name_text.ensures
