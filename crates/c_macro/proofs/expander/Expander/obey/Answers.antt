use Rattle.std.proofs.Common.{◌≡◌, ◌∙◌, ◌+◌, sym, refl, inl, inr, Err}
use Rattle.std.specs.Prelude.{◌⊎◌}
use Rattle.std.proofs.lemmas.Result.{err_from_is_err_and}
use Rattle.c_macro.specs.declared.verb.Verb.TheVariants as verbs
use Rattle.c_macro.specs.declared.fault.MacroFault.TheVariants as faults
use Rattle.c_macro.specs.Expands.{Obeys}
use Rattle.c_macro.specs.Expanding.{state_of, sections_of}
use Rattle.c_macro.specs.Directives.{verb_of}
use Rattle.c_macro.proofs.ObeyLemmas.{on_ok, if_err, no_form, alone_done, pragma_done, ifdef_done, ifndef_done, else_done, else_fault, endif_done, endif_fault}
use Rattle.c_macro.proofs.expander.Expander.obey.Goals as goal

pub returns-in_err-is_defined-in-Ifdef-clause-fault : goal.returns-in_err-is_defined-in-Ifdef-clause-fault
returns-in_err-is_defined-in-Ifdef-clause-fault c =
    let p = err_from_is_err_and c.from_residual.result c.from_residual.ensures.1 in
    let fault = c.in_err-is_defined-in-Ifdef.ensures.fault in
    rw (p.1, p.2) (inr (no_form (state_of c.args.self.now) (c.args.at + c.args.directive.now.hash) (c.args.at + c.args.directive.now.at)
    c.args.directive.now.rest.now c.args.comment (verb_of c.args.directive.now.word.now)
    verbs.Ifdef c.in_err-is_defined-in-Ifdef.field-0.0 c.in-Ifdef.ensures fault.0 fault.1))

pub returns-in_err-is_defined-in-Ifndef-clause-fault : goal.returns-in_err-is_defined-in-Ifndef-clause-fault
returns-in_err-is_defined-in-Ifndef-clause-fault c =
    let p = err_from_is_err_and c.from_residual-in_err-is_defined-in-Ifndef.result c.from_residual-in_err-is_defined-in-Ifndef.ensures.1 in
    let fault = c.in_err-is_defined-in-Ifndef.ensures.fault in
    rw (p.1, p.2) (inr (no_form (state_of c.args.self.now) (c.args.at + c.args.directive.now.hash) (c.args.at + c.args.directive.now.at)
    c.args.directive.now.rest.now c.args.comment (verb_of c.args.directive.now.word.now)
    verbs.Ifndef c.in_err-is_defined-in-Ifndef.field-0.0 c.in-Ifndef.ensures fault.0 fault.1))

pub returns-in-Alone-clause-obeyed : goal.returns-in-Alone-clause-obeyed
returns-in-Alone-clause-obeyed c = on_ok c.obey_none.result (alone_done (state_of c.args.self.now) (c.args.at + c.args.directive.now.hash) (c.args.at + c.args.directive.now.at)
    c.args.directive.now.rest.now c.args.comment (verb_of c.args.directive.now.word.now)
    c.in-Alone.ensures) c.obey_none.ensures.none

pub returns-in-Alone-clause-fault : goal.returns-in-Alone-clause-fault
returns-in-Alone-clause-fault c = if_err c.obey_none.result (λ fault is. inr (no_form (state_of c.args.self.now) (c.args.at + c.args.directive.now.hash) (c.args.at + c.args.directive.now.at)
    c.args.directive.now.rest.now c.args.comment (verb_of c.args.directive.now.word.now)
    verbs.Alone fault c.in-Alone.ensures is.0 is.1)) c.obey_none.ensures.fault

pub returns-in-Pragma-clause-obeyed : goal.returns-in-Pragma-clause-obeyed
returns-in-Pragma-clause-obeyed c = pragma_done (state_of c.args.self.now) (c.args.at + c.args.directive.now.hash) (c.args.at + c.args.directive.now.at)
    c.args.directive.now.rest.now c.args.comment (verb_of c.args.directive.now.word.now)
    c.in-Pragma.ensures

pub returns-in_ok-is_defined-in-Ifdef-clause-obeyed : goal.returns-in_ok-is_defined-in-Ifdef-clause-obeyed
returns-in_ok-is_defined-in-Ifdef-clause-obeyed c =
    on_ok c.open.result (ifdef_done (state_of c.args.self.now) (c.args.at + c.args.directive.now.hash) (c.args.at + c.args.directive.now.at)
    c.args.directive.now.rest.now c.args.comment (verb_of c.args.directive.now.word.now)
    c.in_ok-is_defined-in-Ifdef.is_defined (sections_of c.open.new.self) c.in-Ifdef.ensures c.in_ok-is_defined-in-Ifdef.ensures.tested)
    c.open.ensures.opened

pub returns-in_ok-is_defined-in-Ifndef-clause-obeyed : goal.returns-in_ok-is_defined-in-Ifndef-clause-obeyed
returns-in_ok-is_defined-in-Ifndef-clause-obeyed c =
    on_ok c.open-in-Ifndef.result (ifndef_done (state_of c.args.self.now) (c.args.at + c.args.directive.now.hash) (c.args.at + c.args.directive.now.at)
    c.args.directive.now.rest.now c.args.comment (verb_of c.args.directive.now.word.now)
    c.in_ok-is_defined-in-Ifndef.is_defined (sections_of c.open-in-Ifndef.new.self) c.in-Ifndef.ensures c.in_ok-is_defined-in-Ifndef.ensures.tested)
    c.open-in-Ifndef.ensures.opened

pub returns-in-Else-clause-obeyed : goal.returns-in-Else-clause-obeyed
returns-in-Else-clause-obeyed c = on_ok c.turn.result (else_done (state_of c.args.self.now) (c.args.at + c.args.directive.now.hash) (c.args.at + c.args.directive.now.at)
    c.args.directive.now.rest.now c.args.comment (verb_of c.args.directive.now.word.now)
    (sections_of c.turn.new.self) c.in-Else.ensures) c.turn.ensures.turned

pub returns-in-Else-clause-fault : goal.returns-in-Else-clause-fault
returns-in-Else-clause-fault c = if_err c.turn.result (λ fault is. inr (else_fault (state_of c.args.self.now) (c.args.at + c.args.directive.now.hash) (c.args.at + c.args.directive.now.at)
    c.args.directive.now.rest.now c.args.comment (verb_of c.args.directive.now.word.now)
    fault c.in-Else.ensures is)) c.turn.ensures.fault

pub returns-in-Endif-clause-obeyed : goal.returns-in-Endif-clause-obeyed
returns-in-Endif-clause-obeyed c = on_ok c.close.result (endif_done (state_of c.args.self.now) (c.args.at + c.args.directive.now.hash) (c.args.at + c.args.directive.now.at)
    c.args.directive.now.rest.now c.args.comment (verb_of c.args.directive.now.word.now)
    (sections_of c.close.new.self) c.in-Endif.ensures) c.close.ensures.closed

pub returns-in-Endif-clause-fault : goal.returns-in-Endif-clause-fault
returns-in-Endif-clause-fault c = if_err c.close.result (λ fault is. inr (endif_fault (state_of c.args.self.now) (c.args.at + c.args.directive.now.hash) (c.args.at + c.args.directive.now.at)
    c.args.directive.now.rest.now c.args.comment (verb_of c.args.directive.now.word.now)
    fault c.in-Endif.ensures is)) c.close.ensures.fault

pub returns-in-If-clause-fault : goal.returns-in-If-clause-fault
returns-in-If-clause-fault c = inr (by c.in-If.is)
  where
    by : (c.verb_of.result ≡ verbs.If) ⊎ ((c.verb_of.result ≡ verbs.Elif) ⊎ (c.verb_of.result ≡ verbs.Unknown))
        → Obeys (state_of c.args.self.now) (c.args.at + c.args.directive.now.hash) (c.args.at + c.args.directive.now.at) c.args.directive.now.rest.now c.args.comment
        (verb_of c.args.directive.now.word.now) (Err (faults.Directive (c.args.at + c.args.directive.now.hash)))
    by (inl e) = no_form (state_of c.args.self.now) (c.args.at + c.args.directive.now.hash) (c.args.at + c.args.directive.now.at)
        c.args.directive.now.rest.now c.args.comment (verb_of c.args.directive.now.word.now)
        verbs.If _ (sym e ∙ c.verb_of.ensures) refl tt
    by (inr (inl e)) = no_form (state_of c.args.self.now) (c.args.at + c.args.directive.now.hash) (c.args.at + c.args.directive.now.at)
        c.args.directive.now.rest.now c.args.comment (verb_of c.args.directive.now.word.now)
        verbs.Elif _ (sym e ∙ c.verb_of.ensures) refl tt
    by (inr (inr e)) = no_form (state_of c.args.self.now) (c.args.at + c.args.directive.now.hash) (c.args.at + c.args.directive.now.at)
        c.args.directive.now.rest.now c.args.comment (verb_of c.args.directive.now.word.now)
        verbs.Unknown _ (sym e ∙ c.verb_of.ensures) refl tt
