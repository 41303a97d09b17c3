use Rattle.std.proofs.Common.{sym}
use Rattle.c_objects.proofs.AgreementLemmas.{unlike_lengths}
use Rattle.c_objects.proofs.agreement.same_types.Goals as goal

pub returns-then-a-b : goal.returns-then-a-b
returns-then-a-b c = sym (unlike_lengths c.args.a.now c.args.b.now c.if-a-b.true)
