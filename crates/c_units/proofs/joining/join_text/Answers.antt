use Rattle.std.proofs.Common.{map}
use Rattle.c_units.proofs.OneOutcome.{text_answered, text_refused}
use Rattle.c_units.proofs.joining.join_text.Goals as goal

pub returns-clause-joined : goal.returns-clause-joined
returns-clause-joined c = λ tokens joins. text_answered (map (λ s. s.items) c.args.sources.now) c.first_text.result tokens c.first_text.ensures.text c.first_text.ensures.fault joins

pub returns-clause-faulty : goal.returns-clause-faulty
returns-clause-faulty c = λ cause has. text_refused (map (λ s. s.items) c.args.sources.now) c.first_text.result cause c.first_text.ensures.text c.first_text.ensures.fault has
