use Rattle.tree_code.proofs.KeptLemmas as kept
use Rattle.tree_code.proofs.laws.kept_by_lowering.Goals as goal

pub returns-clause-uses : goal.returns-clause-uses
returns-clause-uses c = kept.uses_kept

pub returns-clause-statement_uses : goal.returns-clause-statement_uses
returns-clause-statement_uses c = kept.statement_uses_kept

pub returns-clause-temporaries : goal.returns-clause-temporaries
returns-clause-temporaries c = kept.temporaries_kept

pub returns-clause-statement_temporaries : goal.returns-clause-statement_temporaries
returns-clause-statement_temporaries c = kept.statement_kept

pub returns-clause-labels : goal.returns-clause-labels
returns-clause-labels c = kept.repeats_label_kept
