use Rattle.std.proofs.Common.{arith, lit<, refl, subst, rules}
use Rattle.cc_words.specs.Asked.{Asked, texts_of}
use Rattle.cc_files.specs.cc_text.Refusals.{OfMemory}
use Rattle.cc_files.specs.World.{shelves, sinks}
use Rattle.cc_driver.specs.Answers.{Answers, IsRefused}
use Rattle.cc_driver.proofs.DecidedLemmas.{answers_decide, answers_not_two, cause_named}
use Rattle.cc_driver.proofs.StatusLemmas.{not_named}
use Rattle.cc_driver.proofs.WorkLemmas.{bounded, one_asked, stopped_first}
use Rattle.cc_driver.proofs.command.c25cc.Goals as goal

pub answer-requires : goal.answer-requires
answer-requires g c =
    let this = rw c.in-Ok-Some.field-0-is at c.in-Ok-Some.ensures in
    let within = bounded (texts_of c.args.words.now) _ this in
    search (rules, within)

pub returns-in-Ok-None-clause-statuses : goal.returns-in-Ok-None-clause-statuses
returns-in-Ok-None-clause-statuses g c = (2, lit< tt, refl)

pub returns-in-Ok-Some-clause-answers : goal.returns-in-Ok-Some-clause-answers
returns-in-Ok-Some-clause-answers g c = λ what asks.
    let this = rw c.in-Ok-Some.field-0-is at c.in-Ok-Some.ensures in
    subst (λ (w : Asked). Answers w (shelves g.F.Shelf.tells (g.F.Shelf.stock c.args.shelf.now) (g.F.Shelf.stock c.answer.new.shelf)) (sinks g.K.Sink.tells (g.K.Sink.output c.args.out.now) (g.K.Sink.output c.answer.new.out)) c.answer.result)
    (one_asked _ _ _ this asks) c.answer.ensures.answers

pub returns-in-Ok-Some-clause-decided : goal.returns-in-Ok-Some-clause-decided
returns-in-Ok-Some-clause-decided g c = λ what asks. answers_decide what _ _ _ (returns-in-Ok-Some-clause-answers g c what asks)

pub returns-in-Err-clause-answers : goal.returns-in-Err-clause-answers
returns-in-Err-clause-answers g c = λ what asks. IsRefused OfMemory (stopped_first what g.F.Shelf.tells (g.F.Shelf.stock c.args.shelf.now)) c.refuse.ensures.put

pub returns-in-Ok-None-clause-lines : goal.returns-in-Ok-None-clause-lines
returns-in-Ok-None-clause-lines g c = λ what asks named. absurd (not_named 2 (λ e. omega (arith, e)) (λ e. omega (arith, e)) (λ e. omega (arith, e)) named)

pub returns-in-Ok-Some-clause-lines : goal.returns-in-Ok-Some-clause-lines
returns-in-Ok-Some-clause-lines g c = λ what asks. cause_named what _ _ _ (returns-in-Ok-Some-clause-answers g c what asks)

pub returns-in-Err-clause-lines : goal.returns-in-Err-clause-lines
returns-in-Err-clause-lines g c = λ what asks. cause_named what _ _ _ (returns-in-Err-clause-answers g c what asks)

pub returns-in-Ok-Some-clause-words : goal.returns-in-Ok-Some-clause-words
returns-in-Ok-Some-clause-words g c = λ two. absurd (answers_not_two _ _ _ _ c.answer.ensures.answers two)
