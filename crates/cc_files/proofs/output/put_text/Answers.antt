use Rattle.std.proofs.Common.{◌∙◌, ap}
use Rattle.cc_shelf.specs.Counts.{raised}
use Rattle.cc_files.specs.Puts.{PutNothing}
use Rattle.cc_files.proofs.PutLemmas.{line_behind, puts_reliable}
use Rattle.cc_files.proofs.output.put_text.Goals as goal

pub returns-in-Err-NoMemory-clause-put : goal.returns-in-Err-NoMemory-clause-put
returns-in-Err-NoMemory-clause-put g c =
    let kept = rw c.in-Err-NoMemory.field-0-is at c.in-Err-NoMemory.ensures.refused in
    let said = c.say_want.ensures.put in
    PutNothing said.0 (said.1.calls ∙ ap (λ n. raised n 1) c.put.ensures.counted)
    (line_behind g.K.Sink.tells _ (g.K.Sink.output c.args.out.now) (g.K.Sink.output c.put.new.self) (g.K.Sink.output c.say_want.new.out) kept.0 kept.1 kept.2 said.1.put)

pub returns-in-Err-NoMemory-clause-reliable : goal.returns-in-Err-NoMemory-clause-reliable
returns-in-Err-NoMemory-clause-reliable g c =
    puts_reliable (g.K.Sink.output c.args.out.now) (g.K.Sink.output c.put.new.self) (g.K.Sink.output c.say_want.new.out) c.put.ensures.reliable c.say_want.ensures.reliable
