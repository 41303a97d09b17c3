use Rattle.std.proofs.Common.{inl, inr}
use Rattle.c_cursor.proofs.TakesLemmas.{goes_on}
use Rattle.c_cursor.proofs.TakesLemmas.{took, gone, kept, not_there, not_true, not_false}
use Rattle.c_cursor.proofs.cursor.Cursor.list_goes_on.Goals as goal

pub returns-clause-tree : goal.returns-clause-tree
returns-clause-tree c = goes_on c.stands.result (took c.take.ensures.taken c.take.ensures.left c.if-not-take.false)

pub returns-then-not-take-clause-more : goal.returns-then-not-take-clause-more
returns-then-not-take-clause-more c = λ h. absurd cc

pub returns-then-not-take-clause-ended : goal.returns-then-not-take-clause-ended
returns-then-not-take-clause-ended c = λ h. inl (not_there c.take.ensures.taken c.if-not-take.true, kept c.take.ensures.left c.if-not-take.true)

pub returns-clause-more : goal.returns-clause-more
returns-clause-more c = λ h. (c.take.ensures.taken.0 c.if-not-take.false, gone c.args.self.now c.take.ensures.left c.if-not-take.false, not_there c.stands.ensures (not_true c.stands.result h))

pub returns-clause-ended : goal.returns-clause-ended
returns-clause-ended c = λ h. inr (c.take.ensures.taken.0 c.if-not-take.false, gone c.args.self.now c.take.ensures.left c.if-not-take.false, c.stands.ensures.0 (not_false c.stands.result h))
