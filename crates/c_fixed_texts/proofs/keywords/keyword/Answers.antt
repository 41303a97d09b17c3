use Rattle.c_fixed_texts.proofs.KeywordRows.{keyword_found}
use Rattle.c_fixed_texts.proofs.keywords.keyword.Goals as goal

pub returns : goal.returns
returns c = keyword_found c.args.text.now c.among.result c.among.ensures
