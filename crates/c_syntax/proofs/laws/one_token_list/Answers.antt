use Rattle.c_syntax.proofs.OneReading as reading
use Rattle.c_syntax.proofs.laws.one_token_list.Goals as goal

pub returns : goal.returns
returns c = reading.one_token_list
