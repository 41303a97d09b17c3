use Rattle.word_base.proofs.NameLemmas.{name_utf8}
use Rattle.word_base.proofs.name.name_text.Goals as goal

pub returns-in-Err : goal.returns-in-Err
returns-in-Err c = λ name. c.in-Err.ensures.cases.0 (name_utf8 c.args.bytes.now name)
