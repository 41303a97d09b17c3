use Rattle.std.proofs.Common.{rules, arith, ◌≡◌, ◌-◌, List, length, Result, Ok, Err}
use Rattle.std.specs.Prelude.{IfOk, IfErr}
use Rattle.std.proofs.lemmas.Result.{err_from_is_err_and}
use Rattle.std.proofs.lemmas.List.{nil_from_length}
use Rattle.c_syntax.specs.declared.token.Token.{Token}
use Rattle.c_macro.specs.declared.fault.MacroFault.{MacroFault}
use Rattle.c_macro.specs.Expands.{Outcome, AtEnd, at_end}
use Rattle.c_macro.specs.Expanding.{state_of, out_of}
use Rattle.c_macro.proofs.ObeyLemmas.{if_err, or_memory}
use Rattle.c_macro.proofs.ExpansionLemmas.{if_ok, memory_alone, cause_alone, end_expanded, end_faulty}
use Rattle.c_macro.proofs.expansion.expand.Goals as goal

pub returns-in_err-rest-clause-expanded : goal.returns-in_err-rest-clause-expanded
returns-in_err-rest-clause-expanded c = λ tokens expands.
    let p = err_from_is_err_and c.from_residual-in_err-rest.result c.from_residual-in_err-rest.ensures.1 in
    rw (p.1, p.2) (memory_alone c.args.bytes.now c.in_err-rest.field-0.0
    (or_memory (λ comes. c.loop-rest.invariant.leads (length c.args.bytes.now - length c.loop-rest.rest.now) (Err c.in_err-rest.field-0.0) (omega (arith, c.loop-rest.invariant.within)) comes) c.in_err-rest.ensures.fault) tokens expands)

pub returns-in_err-rest-clause-faulty : goal.returns-in_err-rest-clause-faulty
returns-in_err-rest-clause-faulty c = λ cause outcome.
    let p = err_from_is_err_and c.from_residual-in_err-rest.result c.from_residual-in_err-rest.ensures.1 in
    rw (p.1, p.2) (cause_alone c.args.bytes.now c.in_err-rest.field-0.0
    (or_memory (λ comes. c.loop-rest.invariant.leads (length c.args.bytes.now - length c.loop-rest.rest.now) (Err c.in_err-rest.field-0.0) (omega (arith, c.loop-rest.invariant.within)) comes) c.in_err-rest.ensures.fault) cause outcome)

-- at the end nothing is left, so what the end comes to is the outcome
ends : (c : goal.After-finish) (result : Result (List Token) MacroFault) → at_end (state_of c.loop-rest.expander) (out_of c.loop-rest.expander) ≡ result → Outcome c.args.bytes.now result
ends c result e =
    let nothing : length c.loop-rest.rest.now ≡ 0 = search rules in
    c.loop-rest.invariant.leads (length c.args.bytes.now) result (omega (arith, nothing)) (AtEnd (nil_from_length c.loop-rest.rest.now nothing) e)

ends_ok : (c : goal.After-finish) → IfOk c.finish.result (λ v. Outcome c.args.bytes.now (Ok v.items))
ends_ok c = if_ok c.finish.result (λ v e. ends c (Ok v.items) e) c.finish.ensures.tokens

ends_err : (c : goal.After-finish) → IfErr c.finish.result (λ f. Outcome c.args.bytes.now (Err f))
ends_err c = if_err c.finish.result (λ f e. ends c (Err f) e) c.finish.ensures.fault

pub returns-clause-tokens : goal.returns-clause-tokens
returns-clause-tokens c = ends_ok c

pub returns-clause-expanded : goal.returns-clause-expanded
returns-clause-expanded c = end_expanded c.args.bytes.now c.finish.result (ends_ok c) (ends_err c)

pub returns-clause-fault : goal.returns-clause-fault
returns-clause-fault c = if_err c.finish.result (λ f outcome some. outcome) (ends_err c)

pub returns-clause-faulty : goal.returns-clause-faulty
returns-clause-faulty c = end_faulty c.args.bytes.now c.finish.result (ends_ok c) (ends_err c)
