use Rattle.std.proofs.Common.{◌∙◌, sym}
use Rattle.c_macro.specs.Expanding.{state_of, out_of, sections_of}
use Rattle.c_macro.specs.Expands.{PassedText}
use Rattle.c_macro.proofs.ObeyLemmas.{on_ok, if_err, or_memory}
use Rattle.c_macro.proofs.LineDone.{on_both, kept_done, kept_fault, passed_done, passed_fault, text_done, text_fault}
use Rattle.c_macro.proofs.expander.Expander.take_line.Goals as goal

pub returns-in-Some-clause-taken : goal.returns-in-Some-clause-taken
returns-in-Some-clause-taken c =
    on_both c.obey.result (kept_done (state_of c.args.self.now) (out_of c.args.self.now) c.args.at c.args.line.now c.args.comment (sym c.are_kept-is_kept.ensures ∙ c.if-is_kept.true)
    c.in-Some.directive.hash c.in-Some.directive.word.now c.in-Some.directive.at c.in-Some.directive.rest.now c.in-Some.ensures
    (state_of c.obey.new.self) (out_of c.obey.new.self)) c.obey.ensures.obeyed c.obey.ensures.output

pub returns-in-Some-clause-fault : goal.returns-in-Some-clause-fault
returns-in-Some-clause-fault c =
    if_err c.obey.result (λ fault. or_memory (kept_fault (state_of c.args.self.now) (out_of c.args.self.now) c.args.at c.args.line.now c.args.comment (sym c.are_kept-is_kept.ensures ∙ c.if-is_kept.true)
    c.in-Some.directive.hash c.in-Some.directive.word.now c.in-Some.directive.at c.in-Some.directive.rest.now c.in-Some.ensures fault)) c.obey.ensures.fault

pub returns-in-Some-2-clause-taken : goal.returns-in-Some-2-clause-taken
returns-in-Some-2-clause-taken c =
    on_ok c.pass.result (passed_done (state_of c.args.self.now) (out_of c.args.self.now) c.args.at c.args.line.now c.args.comment (sym c.are_kept-is_kept.ensures ∙ c.if-is_kept.false)
    c.in-Some.directive.hash c.in-Some.directive.word.now c.in-Some.directive.at c.in-Some.directive.rest.now c.in-Some.ensures
    c.verb_of.result c.verb_of.ensures (sections_of c.pass.new.self)) c.pass.ensures.passed

pub returns-in-Some-2-clause-fault : goal.returns-in-Some-2-clause-fault
returns-in-Some-2-clause-fault c =
    if_err c.pass.result (λ fault. or_memory (passed_fault (state_of c.args.self.now) (out_of c.args.self.now) c.args.at c.args.line.now c.args.comment (sym c.are_kept-is_kept.ensures ∙ c.if-is_kept.false)
    c.in-Some.directive.hash c.in-Some.directive.word.now c.in-Some.directive.at c.in-Some.directive.rest.now c.in-Some.ensures
    c.verb_of.result c.verb_of.ensures fault)) c.pass.ensures.fault

pub returns-in-None-clause-taken : goal.returns-in-None-clause-taken
returns-in-None-clause-taken c =
    on_both c.expand_text.result (text_done c.args.self.now c.args.at c.args.line.now c.args.comment (sym c.are_kept-is_kept.ensures ∙ c.if-is_kept-2.true)
    c.in-None.ensures c.expand_text.new.self) c.expand_text.ensures.same c.expand_text.ensures.expanded

pub returns-in-None-clause-fault : goal.returns-in-None-clause-fault
returns-in-None-clause-fault c =
    if_err c.expand_text.result (text_fault c.args.self.now c.args.at c.args.line.now c.args.comment (sym c.are_kept-is_kept.ensures ∙ c.if-is_kept-2.true)
    c.in-None.ensures) c.expand_text.ensures.stopped

pub returns-in-None-2-clause-taken : goal.returns-in-None-2-clause-taken
returns-in-None-2-clause-taken c = PassedText (sym c.are_kept-is_kept.ensures ∙ c.if-is_kept-2.false) c.in-None.ensures
