use Rattle.std.proofs.Common.{◌≡◌, ◌∙◌, true, map, sym, None}
use Rattle.c_rules.specs.declared.fault.LimitName.TheVariants as limit
use Rattle.c_rules.specs.Faults.{SaysOf}
use Rattle.c_rules.specs.Programs.{frame, has_main}
use Rattle.c_limits.specs.FunctionView.{typed_function_of}
use Rattle.c_rules.specs.Whole.{missing_body}
use Rattle.c_limits.proofs.WholeLemmas.{fault_says}
use Rattle.c_limits.proofs.WholeLemmas.{missing_is, none_missing, cases_is, over_same, recursion_is, says_functions, says_parameters, says_scalars, says_cases, all_whole, map_trees, cases_counted}
use Rattle.c_rules.proofs.MissingBodies.{bodies_met}
use Rattle.c_limits.proofs.whole.frames_of.Goals as goal

pub returns-in-Some-clause-refused : goal.returns-in-Some-clause-refused
returns-in-Some-clause-refused c = record {
  main = sym c.if-not-has_main.ensures;
  first = sym (missing_is c.args.functions.now c.in_ok-uses.uses.items c.deref.ensures.value c.in_ok-uses.ensures) ∙ sym c.missing_body.ensures ∙ c.in-Some.is;
}

pub no_recursion-requires-clause-bodies : goal.no_recursion-requires-clause-bodies
no_recursion-requires-clause-bodies c =
    let fs = map typed_function_of c.args.functions.now
    in let nothing : c.missing_body.result ≡ None = c.in_default.is
    in let none : missing_body fs ≡ None =
    none_missing c.args.functions.now c.in_ok-uses.uses.items c.missing_body.result c.deref.ensures.value c.in_ok-uses.ensures c.missing_body.ensures nothing
    in bodies_met fs none

pub returns-in_err-no_recursion-clause-refused : goal.returns-in_err-no_recursion-clause-refused
returns-in_err-no_recursion-clause-refused c =
    let fs = map typed_function_of c.args.functions.now
    in let main : has_main fs ≡ true = sym c.if-not-has_main.ensures
    in let nothing : c.missing_body.result ≡ None = c.in_default.is
    in let none : missing_body fs ≡ None =
    none_missing c.args.functions.now c.in_ok-uses.uses.items c.missing_body.result c.deref.ensures.value c.in_ok-uses.ensures c.missing_body.ensures nothing
    in fault_says (SaysOf fs) c.in_err-no_recursion.field-0.0 c.from_residual-in_err-no_recursion.result c.from_residual-in_err-no_recursion.ensures.1
    (recursion_is fs main none c.in_err-no_recursion.field-0.0 c.in_err-no_recursion.ensures.refused)

pub returns-in_err-few_functions-clause-refused : goal.returns-in_err-few_functions-clause-refused
returns-in_err-few_functions-clause-refused c =
    let fs = map typed_function_of c.args.functions.now
    in let main : has_main fs ≡ true = sym c.if-not-has_main.ensures
    in let nothing : c.missing_body.result ≡ None = c.in_default.is
    in let none : missing_body fs ≡ None =
    none_missing c.args.functions.now c.in_ok-uses.uses.items c.missing_body.result c.deref.ensures.value c.in_ok-uses.ensures c.missing_body.ensures nothing
    in fault_says (SaysOf fs) c.in_err-few_functions.field-0.0 c.from_residual-in_err-few_functions.result c.from_residual-in_err-few_functions.ensures.1
    (says_functions fs main none c.in_ok-no_recursion.ensures.no_cycle c.in_err-few_functions.field-0.0 c.in_err-few_functions.ensures.refused)

pub returns-in_err-few_parameters-clause-refused : goal.returns-in_err-few_parameters-clause-refused
returns-in_err-few_parameters-clause-refused c =
    let fs = map typed_function_of c.args.functions.now
    in let main : has_main fs ≡ true = sym c.if-not-has_main.ensures
    in let nothing : c.missing_body.result ≡ None = c.in_default.is
    in let none : missing_body fs ≡ None =
    none_missing c.args.functions.now c.in_ok-uses.uses.items c.missing_body.result c.deref.ensures.value c.in_ok-uses.ensures c.missing_body.ensures nothing
    in fault_says (SaysOf fs) c.in_err-few_parameters.field-0.0 c.from_residual-in_err-few_parameters.result c.from_residual-in_err-few_parameters.ensures.1
    (says_parameters fs main none c.in_ok-no_recursion.ensures.no_cycle c.in_ok-few_functions.ensures.few c.in_err-few_parameters.field-0.0 c.in_err-few_parameters.ensures.refused)

pub returns-in_err-frames-clause-refused : goal.returns-in_err-frames-clause-refused
returns-in_err-frames-clause-refused c =
    let fs = map typed_function_of c.args.functions.now
    in let main : has_main fs ≡ true = sym c.if-not-has_main.ensures
    in let nothing : c.missing_body.result ≡ None = c.in_default.is
    in let none : missing_body fs ≡ None =
    none_missing c.args.functions.now c.in_ok-uses.uses.items c.missing_body.result c.deref.ensures.value c.in_ok-uses.ensures c.missing_body.ensures nothing
    in fault_says (SaysOf fs) c.in_err-frames.field-0.0 c.from_residual-in_err-frames.result c.from_residual-in_err-frames.ensures.1
    (says_scalars fs main none c.in_ok-no_recursion.ensures.no_cycle c.in_ok-few_functions.ensures.few c.in_ok-few_parameters.ensures.few c.in_err-frames.field-0.0 c.in_err-frames.ensures.refused)

pub returns-in_err-few_cases-clause-refused : goal.returns-in_err-few_cases-clause-refused
returns-in_err-few_cases-clause-refused c =
    let fs = map typed_function_of c.args.functions.now
    in let main : has_main fs ≡ true = sym c.if-not-has_main.ensures
    in let nothing : c.missing_body.result ≡ None = c.in_default.is
    in let none : missing_body fs ≡ None =
    none_missing c.args.functions.now c.in_ok-uses.uses.items c.missing_body.result c.deref.ensures.value c.in_ok-uses.ensures c.missing_body.ensures nothing
    in fault_says (SaysOf fs) c.in_err-few_cases.field-0.0 c.from_residual-in_err-few_cases.result c.from_residual-in_err-few_cases.ensures.1
    (says_cases fs main none c.in_ok-no_recursion.ensures.no_cycle c.in_ok-few_functions.ensures.few c.in_ok-few_parameters.ensures.few c.in_ok-frames.ensures.small
    c.in_err-few_cases.field-0.0
    (over_same limit.Cases _ _ c.in_err-few_cases.field-0.0 (cases_is c.args.functions.now c.in_ok-uses.uses.items c.deref-4.ensures.value c.in_ok-uses.ensures) c.in_err-few_cases.ensures.refused))

pub returns-clause-whole : goal.returns-clause-whole
returns-clause-whole c =
    let fs = map typed_function_of c.args.functions.now
    in let main : has_main fs ≡ true = sym c.if-not-has_main.ensures
    in let nothing : c.missing_body.result ≡ None = c.in_default.is
    in let none : missing_body fs ≡ None =
    none_missing c.args.functions.now c.in_ok-uses.uses.items c.missing_body.result c.deref.ensures.value c.in_ok-uses.ensures c.missing_body.ensures nothing
    in all_whole fs main none c.in_ok-no_recursion.ensures.no_cycle c.in_ok-few_functions.ensures.few c.in_ok-few_parameters.ensures.few c.in_ok-frames.ensures.small
    (sym (cases_is c.args.functions.now c.in_ok-uses.uses.items c.deref-4.ensures.value c.in_ok-uses.ensures) ∙ c.in_ok-few_cases.ensures.few)

pub returns-clause-frames : goal.returns-clause-frames
returns-clause-frames c = c.in_ok-frames.ensures.frames ∙ sym (map_trees frame c.args.functions.now)

pub few_cases-requires : goal.few_cases-requires
few_cases-requires c = cases_counted c.args.functions.now c.in_ok-uses.uses.items c.deref-4.ensures.value c.in_ok-uses.ensures c.requires
