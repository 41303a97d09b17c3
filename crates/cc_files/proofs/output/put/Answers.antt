use Rattle.std.proofs.Common.{ℕ, List, subst}
use Rattle.cc_files.specs.World.{sinks}
use Rattle.cc_files.specs.Puts.{TextPut}
use Rattle.cc_files.proofs.output.put.Goals as goal

pub returns-in-Some-clause-put : goal.returns-in-Some-clause-put
returns-in-Some-clause-put g c =
    rw c.in-Some.is (subst (λ (t : List ℕ). TextPut t c.args.answer.now.status 4 (sinks g.K.Sink.tells (g.K.Sink.output c.args.out.now) (g.K.Sink.output c.put_text.new.out)) c.put_text.result) c.deref.ensures.value c.put_text.ensures.put)
