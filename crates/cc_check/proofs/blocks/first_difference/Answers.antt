use Rattle.cc_check.proofs.FindingLemmas.{difference_is}
use Rattle.cc_check.proofs.blocks.first_difference.Goals as goal

pub returns-clause-difference : goal.returns-clause-difference
returns-clause-difference c = difference_is c.args.frame.now c.seq-seq.result.now c.of.result.table c.blocks-2.result.now c.args.walked.now c.first_difference_by.result c.of.ensures c.seq-seq.ensures c.blocks-2.ensures c.scalars-few.ensures.sequence c.first_difference_by.ensures
