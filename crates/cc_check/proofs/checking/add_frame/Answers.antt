use Rattle.std.proofs.Common.{◌≡◌, ◌∙◌, length, refl}
use Rattle.cc_check.specs.Findings.{number_of, finding_of}
use Rattle.cc_check.specs.Checks.{OptimalHolds}
use Rattle.cc_check.proofs.NumberLemmas.{number_within, number_is}
use Rattle.cc_check.proofs.FindingLemmas.{found_of}
use Rattle.cc_check.proofs.LineLemmas.{checked_more}
use Rattle.cc_check.proofs.checking.add_frame.Goals as goal

pub mark-requires : goal.mark-requires
mark-requires c =
    let image = c.args.image.now in
    let f = c.args.frame.now in
    number_within image.functions f.name c.number-function.result (length c.args.framed.now) (number_is image.functions c.args.numbers.now.numbers c.number-function.result c.name.result.now f.name c.number-function.ensures c.requires.numbers c.name.ensures.name) c.requires.marks

pub check_frame-requires-clause-function : goal.check_frame-requires-clause-function
check_frame-requires-clause-function c =
    let image = c.args.image.now in
    let f = c.args.frame.now in
    number_within image.functions f.name c.number-function.result (length image.functions) (number_is image.functions c.args.numbers.now.numbers c.number-function.result c.name.result.now f.name c.number-function.ensures c.requires.numbers c.name.ensures.name) refl

pub returns-clause-checked : goal.returns-clause-checked
returns-clause-checked c = λ fs h.
    let image = c.args.image.now in
    let f = c.args.frame.now in
    let numbered : c.number-function.result ≡ number_of image.functions f.name = number_is image.functions c.args.numbers.now.numbers c.number-function.result c.name.result.now f.name c.number-function.ensures c.requires.numbers c.name.ensures.name in
    let found : c.in_ok-finding.finding ≡ finding_of image f = found_of image f c.number-function.result c.in_ok-finding.finding numbered c.in_ok-finding.ensures.finding in
    let holds : OptimalHolds image f = record { by = λ cost e. c.optimal_means.ensures image f cost c.name.ensures.frame (c.in_ok-finding.ensures.sequence cost (found ∙ e)) e } in
    checked_more image fs f c.number-function.result c.in_ok-finding.finding _ _ _ _ _ _ _ h c.name-2.ensures.name numbered found c.in_ok-add.ensures.text c.in_ok-add.ensures.passes c.mark.ensures holds
