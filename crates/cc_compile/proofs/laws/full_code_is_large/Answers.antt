use Rattle.std.proofs.Common.{arith}
use Rattle.cc_compile.specs.Images.{source_jobs}
use Rattle.cc_compile.proofs.laws.full_code_is_large.Goals as goal

pub returns-clause-jobs : goal.returns-clause-jobs
returns-clause-jobs c = λ jobs bytes words h.
    let tokens = h.0 in
    let source = h.1 in
    let is = h.3 in
    let typed = h.4 in
    let code = typed.2 in
    let names = c.functions_have_names.ensures bytes tokens source h.2 is.derives in
    let limits = c.trees_are_small.ensures tokens source h.2.1 is.derives is.low in
    let whole = c.typed_is_well_formed.ensures source typed.0 typed.1 names limits in
    let bound = c.code_is_bounded.ensures.full (jobs typed.0) typed.0 words ∣ whole ∣₁ code in
    let few = c.programs_weigh_by_nodes.ensures source typed.0 typed.1 in
    (tokens, source, h.2, is, (code.over, omega (arith, bound, few)))

pub returns-clause-source : goal.returns-clause-source
returns-clause-source c = λ o bytes words h. returns-clause-jobs c (source_jobs o) bytes words h
