use Rattle.std.proofs.Common.{inr, Err}
use Rattle.std.proofs.lemmas.Result.{err_from_is_err_and}
use Rattle.c_macro.specs.declared.verb.Verb.TheVariants as verbs
use Rattle.c_macro.specs.Expands.{OfNoForm}
use Rattle.c_macro.specs.Expanding.{state_of, sections_of}
use Rattle.c_macro.proofs.ObeyLemmas.{no_name_no_form, parenthesis_no_form, define_flawed, define_open, define_done, on_ok, if_err, or_memory}
use Rattle.c_macro.proofs.expander.Expander.define.Goals as goal

pub returns-in_default-clause-fault : goal.returns-in_default-clause-fault
returns-in_default-clause-fault c = inr (OfNoForm verbs.Define (no_name_no_form c.args.rest.now (rw c.in_default.is at c.read_name.ensures)))

pub returns-in-Some-behind-clause-fault : goal.returns-in-Some-behind-clause-fault
returns-in-Some-behind-clause-fault c =
    let found = c.in-Some.found in
    inr (OfNoForm verbs.Define (parenthesis_no_form c.args.rest.now found.at found.name.now found.rest.now c.in-Some.ensures (c.in-Some-behind.field-0.now, c.in-Some-behind.ensures)))

pub returns-in_err-body-clause-fault : goal.returns-in_err-body-clause-fault
returns-in_err-body-clause-fault c =
    let p = err_from_is_err_and c.from_residual.result c.from_residual.ensures.1 in
    let found = c.in-Some.found in
    rw (p.1, p.2) (define_flawed (state_of c.args.self.now) c.args.hash c.args.at c.args.rest.now found.at found.name.now found.rest.now c.in-Some.ensures
    (λ opens. (rw c.in_default-behind.is at c.behind.ensures) opens.0 opens.1) c.args.comment c.in_err-body.field-0.0 c.in_err-body.ensures.flawed)

pub returns-in-Some-comment-clause-fault : goal.returns-in-Some-comment-clause-fault
returns-in-Some-comment-clause-fault c =
    let found = c.in-Some.found in
    inr (define_open (state_of c.args.self.now) c.args.hash c.args.at c.args.rest.now found.at found.name.now found.rest.now c.in-Some.ensures
    (λ opens. (rw c.in_default-behind.is at c.behind.ensures) opens.0 opens.1) c.args.comment c.in_ok-body.body.items c.in-Some-comment.fault c.in-Some-comment.is
    c.in_ok-body.ensures.body)

pub returns-in-None-clause-obeyed : goal.returns-in-None-clause-obeyed
returns-in-None-clause-obeyed c =
    let found = c.in-Some.found in
    on_ok c.define.result (λ defined. define_done (state_of c.args.self.now) c.args.hash c.args.at c.args.rest.now found.at found.name.now found.rest.now c.in-Some.ensures
    (λ opens. (rw c.in_default-behind.is at c.behind.ensures) opens.0 opens.1) c.args.comment c.in_ok-body.body.items _ c.in-None.is
    c.in_ok-body.ensures.body (defined (sections_of c.args.self.now.sections))) c.define.ensures.defined

pub returns-in-None-clause-fault : goal.returns-in-None-clause-fault
returns-in-None-clause-fault c =
    let found = c.in-Some.found in
    if_err c.define.result (λ fault. or_memory (λ defined. define_done (state_of c.args.self.now) c.args.hash c.args.at c.args.rest.now found.at found.name.now found.rest.now c.in-Some.ensures
    (λ opens. (rw c.in_default-behind.is at c.behind.ensures) opens.0 opens.1) c.args.comment c.in_ok-body.body.items (Err fault) c.in-None.is
    c.in_ok-body.ensures.body (defined (sections_of c.args.self.now.sections)))) c.define.ensures.fault
