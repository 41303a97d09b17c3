use Rattle.std.proofs.Common.{◌≡◌, true, false, length, rules, tests}
use Rattle.std.proofs.lemmas.Iterator.{IsFirst-from_position, YieldsList-from_slice}
use Rattle.c_means.specs.Labels.{is_case, is_default}
use Rattle.c_means.proofs.LabelLemmas.{first_case, no_case, first_default, no_default, start_at, start_by_default}
use Rattle.c_means.proofs.labels.start_of.Goals as goal

pub returns-in-Some : goal.returns-in-Some
returns-in-Some c =
    let list = c.args.choices.now in
    let word = c.args.word in
    let first = IsFirst-from_position _ _ _ (λ x. is_case word x ≡ true) (λ x. is_case word x ≡ false) c.in-Some.ensures.ran (YieldsList-from_slice list (cc)) (λ x q h. search (rules, tests)) (λ x q h. search (rules, tests)) in
    start_at list word c.in-Some.place (first_case list word c.in-Some.place first.0 first.1 first.2)

pub returns-in-Some-position : goal.returns-in-Some-position
returns-in-Some-position c =
    let list = c.args.choices.now in
    let word = c.args.word in
    let place = c.in-Some-position.place in
    let none = IsFirst-from_position _ _ _ (λ x. is_case word x ≡ true) (λ x. is_case word x ≡ false) c.in-None.ensures.ran (YieldsList-from_slice list (cc)) (λ x q h. search (rules, tests)) (λ x q h. search (rules, tests)) in
    let first = IsFirst-from_position _ _ _ (λ x. is_default x ≡ true) (λ x. is_default x ≡ false) c.in-Some-position.ensures.ran (YieldsList-from_slice list (cc)) (λ x q h. search (rules, tests)) (λ x q h. search (rules, tests)) in
    start_by_default list word place (no_case list word none) (first_default list place first.0 first.1 first.2)

pub returns-in-None-position : goal.returns-in-None-position
returns-in-None-position c =
    let list = c.args.choices.now in
    let word = c.args.word in
    let none = IsFirst-from_position _ _ _ (λ x. is_case word x ≡ true) (λ x. is_case word x ≡ false) c.in-None.ensures.ran (YieldsList-from_slice list (cc)) (λ x q h. search (rules, tests)) (λ x q h. search (rules, tests)) in
    let others = IsFirst-from_position _ _ _ (λ x. is_default x ≡ true) (λ x. is_default x ≡ false) c.in-None-position.ensures.ran (YieldsList-from_slice list (cc)) (λ x q h. search (rules, tests)) (λ x q h. search (rules, tests)) in
    start_by_default list word (length list) (no_case list word none) (no_default list others)
