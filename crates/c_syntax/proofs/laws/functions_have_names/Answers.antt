use Rattle.c_syntax.proofs.NamedFunctions.{all_named}
use Rattle.c_syntax.proofs.laws.functions_have_names.Goals as goal

pub returns : goal.returns
returns c = all_named
