use Rattle.std.specs.Prelude.{All}
use Rattle.c_rules.specs.Counted.{most_counted}
use Rattle.std.proofs.Common.{◌≤◌, ◌∙◌, ap, map, sym, subst, vec_items}
use Rattle.c_rules.specs.declared.fault.LimitName.TheVariants as limit
use Rattle.c_rules.specs.Whole.{IsOver, first_above, case_counts, all_cases}
use Rattle.c_limits.proofs.WholeLemmas.{fault_says}
use Rattle.c_limits.proofs.WholeLemmas.{cases_further, cases_over, cases_at}
use Rattle.c_limits.proofs.whole.few_cases.Goals as goal
use Rattle.c_tree.specs.declared.limits.TheConstants.{MOST_CASES}

pub returns-in_err-few_cases_in-clause-refused : goal.returns-in_err-few_cases_in-clause-refused
returns-in_err-few_cases_in-clause-refused c =
    fault_says (IsOver limit.Cases (first_above MOST_CASES (all_cases (map vec_items c.args.uses.now)))) c.in_err-few_cases_in.field-0.0 c.from_residual.result c.from_residual.ensures.1
    (cases_over c.args.uses.now c.loop-list.list-index c.list-item.result c.in_err-few_cases_in.field-0.0 c.list-item.is c.loop-list-test.true c.loop-list.invariant
    (subst (λ l. IsOver limit.Cases (first_above MOST_CASES (case_counts l)) c.in_err-few_cases_in.field-0.0) c.deref.ensures.value c.in_err-few_cases_in.ensures.refused))

pub loop-list-preserved : goal.loop-list-preserved
loop-list-preserved c =
    cases_further c.args.uses.now c.loop-list.list-index c.list-item.result c.list-item.is c.loop-list-test.true c.loop-list.invariant
    (ap (λ l. first_above MOST_CASES (case_counts l)) (sym c.deref.ensures.value) ∙ c.in_ok-few_cases_in.ensures.few)

pub few_cases_in-requires : goal.few_cases_in-requires
few_cases_in-requires c =
    subst (λ l. All (λ n. n ≤ most_counted) (case_counts l)) (sym c.deref.ensures.value)
    (cases_at (λ n. n ≤ most_counted) c.args.uses.now c.loop-list.list-index c.list-item.result c.requires c.list-item.is c.loop-list-test.true)
