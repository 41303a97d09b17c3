-- Function by function.
use Rattle.c_types_proof.proofs.Units.{all_declared, all_ordered, all_filled, all_placed, all_before_use, all_listed, all_exact}
use Rattle.c_types_proof.proofs.laws.typed_programs_are_whole.Goals as goal

pub returns-clause-declared : goal.returns-clause-declared
returns-clause-declared c = all_declared

pub returns-clause-ordered : goal.returns-clause-ordered
returns-clause-ordered c = all_ordered

pub returns-clause-filled : goal.returns-clause-filled
returns-clause-filled c = all_filled

pub returns-clause-placed : goal.returns-clause-placed
returns-clause-placed c = all_placed

pub returns-clause-before_use : goal.returns-clause-before_use
returns-clause-before_use c = all_before_use

pub returns-clause-listed : goal.returns-clause-listed
returns-clause-listed c = all_listed

pub returns-clause-exact : goal.returns-clause-exact
returns-clause-exact c = all_exact
