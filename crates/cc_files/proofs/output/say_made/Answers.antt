use Rattle.std.proofs.Common.{ℕ, List, subst}
use Rattle.cc_files.specs.World.{sinks}
use Rattle.cc_files.specs.Puts.{TextPut}
use Rattle.cc_files.proofs.output.say_made.Goals as goal

pub returns-in-Ok-clause-put : goal.returns-in-Ok-clause-put
returns-in-Ok-clause-put g c = rw c.in-Ok.is
    (subst (λ (t : List ℕ). TextPut t c.args.status c.args.status (sinks g.K.Sink.tells (g.K.Sink.output c.args.out.now) (g.K.Sink.output c.put_text.new.out)) c.put_text.result) c.as_bytes.ensures.value c.put_text.ensures.put)
