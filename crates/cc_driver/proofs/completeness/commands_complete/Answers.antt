use Rattle.std.proofs.Common.{refl}
use Rattle.cc_words.specs.Asked.{ToBuild, ToRun, ToEvaluate, ToExecute, ToLayOut, ToCheck, ToAssemble, ToList}
use Rattle.cc_driver.proofs.CompletenessLemmas as lemmas
use Rattle.cc_driver.proofs.completeness.commands_complete.Goals as goal

pub returns-clause-build : goal.returns-clause-build
returns-clause-build c = λ source image registers budget step shelf sink status answers fine good.
    lemmas.completes (ToBuild source image registers budget step) shelf sink status fine (lemmas.one_told shelf _ _ good) (lemmas.build_none shelf fine.tells c.sources_within_limits_have_no_fault.ensures.none source image registers budget step good) _
    (λ answer texts come. lemmas.done_status answer _ come.holds.reported refl) answers

pub returns-clause-exec : goal.returns-clause-exec
returns-clause-exec c = λ source ports steps shelf sink status answers fine good.
    lemmas.completes (ToExecute source ports steps) shelf sink status fine (lemmas.two_told shelf _ _ _ good) (lemmas.exec_none shelf fine.tells c.sources_within_limits_have_no_fault.ensures.none source ports steps good) _
    (λ answer texts come. lemmas.run_status _ _ steps answer come.0.holds.runs) answers

pub returns-clause-means : goal.returns-clause-means
returns-clause-means c = λ source ports turns shelf sink status answers fine good.
    lemmas.completes (ToEvaluate source ports turns) shelf sink status fine (lemmas.two_told shelf _ _ _ good) (lemmas.means_none shelf fine.tells c.sources_within_limits_have_no_fault.ensures.typed source ports turns good) _
    (λ answer texts come. lemmas.means_status _ _ turns answer come.0.holds) answers

pub returns-clause-run : goal.returns-clause-run
returns-clause-run c = λ image ports steps shelf sink status answers fine good.
    lemmas.completes (ToRun image ports steps) shelf sink status fine (lemmas.two_told shelf _ _ _ good) (lemmas.run_none shelf fine.tells image ports steps good) _
    (λ answer texts come. lemmas.run_status _ _ steps answer come.0.holds.runs) answers

pub returns-clause-layout : goal.returns-clause-layout
returns-clause-layout c = λ sequence registers budget shelf sink status answers fine good.
    lemmas.completes (ToLayOut sequence registers budget) shelf sink status fine (lemmas.one_told shelf _ _ good) (lemmas.layout_none shelf fine.tells sequence registers budget good) _
    (λ answer texts come. lemmas.done_status answer _ come.0.holds.is refl) answers

pub returns-clause-check : goal.returns-clause-check
returns-clause-check c = λ image certificate shelf sink status answers fine good.
    lemmas.completes (ToCheck image certificate) shelf sink status fine (lemmas.two_told shelf _ _ _ good) (lemmas.check_none shelf fine.tells image certificate good) _
    (λ answer texts come. lemmas.check_status come.0.holds.contents come.0.holds.frames answer come.0.holds.is) answers

pub returns-clause-asm : goal.returns-clause-asm
returns-clause-asm c = λ text image shelf sink status answers fine good.
    lemmas.completes (ToAssemble text image) shelf sink status fine (lemmas.one_told shelf _ _ good) (lemmas.asm_none shelf fine.tells text image good) _
    (λ answer texts come. lemmas.done_status answer _ come.holds.is refl) answers

pub returns-clause-dis : goal.returns-clause-dis
returns-clause-dis c = λ image shelf sink status answers fine good.
    lemmas.completes (ToList image) shelf sink status fine (lemmas.one_told shelf _ _ good) (lemmas.dis_none shelf fine.tells image good) _
    (λ answer texts come. lemmas.done_status answer _ come.0.holds.is refl) answers

pub returns-clause-reliable : goal.returns-clause-reliable
returns-clause-reliable c = λ shelf sink tells are stays puts. lemmas.reliable_fails_nothing shelf sink tells are stays puts
