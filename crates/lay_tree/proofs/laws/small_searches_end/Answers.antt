use Rattle.lay_tree.proofs.SmallSearches.{few_are_certified, few_on_one, few_on_more}
use Rattle.lay_tree.proofs.laws.small_searches_end.Goals as goal

pub returns-clause-one_register : goal.returns-clause-one_register
returns-clause-one_register c = few_on_one

pub returns-clause-registers : goal.returns-clause-registers
returns-clause-registers c = few_on_more

pub returns-clause-certified : goal.returns-clause-certified
returns-clause-certified c = few_are_certified
