-- Seats lie apart, and each has a spare word.
use Rattle.tree_code_proof.proofs.Pointers.{same_pointer, never_0, is_word, index_order, same_distance}
use Rattle.tree_code_proof.proofs.laws.addresses_tell_pointers.Goals as goal

pub returns-clause-same : goal.returns-clause-same
returns-clause-same c = same_pointer

pub returns-clause-never_0 : goal.returns-clause-never_0
returns-clause-never_0 c = never_0

pub returns-clause-words : goal.returns-clause-words
returns-clause-words c = is_word

pub returns-clause-order : goal.returns-clause-order
returns-clause-order c = index_order

pub returns-clause-distance : goal.returns-clause-distance
returns-clause-distance c = same_distance
