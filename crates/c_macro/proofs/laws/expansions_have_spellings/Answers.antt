use Rattle.c_macro.proofs.SpelledExpansions.{expansion_spelled, expansion_few}
use Rattle.c_macro.proofs.laws.expansions_have_spellings.Goals as goal

pub returns-clause-spelled : goal.returns-clause-spelled
returns-clause-spelled c = expansion_spelled

pub returns-clause-few : goal.returns-clause-few
returns-clause-few c = expansion_few
