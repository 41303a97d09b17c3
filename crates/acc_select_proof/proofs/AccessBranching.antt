-- The accesses of conditions: those of the question, then those of both parts, each between cuts.
use Rattle.std.proofs.Common.{◌≡◌, refl, ap, ◌∙◌, Bool, true, false}
use Rattle.std.specs.Prelude.{not, if◌then◌else◌}
use Rattle.acc_code.specs.AccSequence.{Rest, cut, accesses}
use Rattle.acc_code.specs.AccTree.{If, ItemList, end, ◌▸◌}
use Rattle.acc_code.specs.declared.operation.Test.{Test}
use Rattle.acc_code.specs.declared.operation.Test.TheVariants.{Nz}
use Rattle.acc_select.specs.acc_operations.Comparisons.{Compared}
use Rattle.acc_select.specs.acc_operations.Kinds.{in_sense}
use Rattle.acc_select.specs.acc_operations.Words.{Word, load_clean}
use Rattle.acc_select.specs.Conditions.{Part, Nothing, One, Null, Breaks, Continues, Runs, part_items, is_short, Branch, tested, by_comparison, clean_items, by_word, negated, truth_items, where_both, where_either, by_number, joined, needs_both, needs_either, and_branch, or_branch}
use Rattle.acc_select_proof.specs.Listed.{Marks}
use Rattle.acc_select_proof.proofs.Marking.{Has, in_turn, accesses_of, WordHas, load_clean_has}

-- two parts, each between cuts
abbrev pub parts : Part → Part → Marks
parts hit miss κ = cut (accesses (part_items hit) (cut (accesses (part_items miss) (cut κ))))

-- the items that run one of two parts have the accesses of the condition before them
abbrev pub BranchHas : Branch → Marks → Type 0
BranchHas b f = (sense : Bool) (hit miss : Part) → Has (b sense hit miss) (λ κ. f (parts hit miss κ))

pub tested_has : (xs : ItemList) (t : Test) (f : Marks) → Has xs f → BranchHas (tested xs t) f
tested_has xs t f h sense hit miss = in_turn xs (If (in_sense sense t) (part_items hit) (part_items miss) ▸ end) f (parts hit miss) h (λ κ. refl)

pub by_comparison_has : (c : Compared) (f : Marks) → Has c.items f → BranchHas (by_comparison c) f
by_comparison_has c f h = tested_has c.items c.test f h

pub clean_items_has : (w : Word) (f : Marks) → WordHas w f → Has (clean_items w) f
clean_items_has w f h κ = accesses_of w.items (load_clean w.found) κ ∙ ap (accesses w.items) (load_clean_has w.found κ) ∙ h κ

pub by_word_has : (w : Word) (f : Marks) → WordHas w f → BranchHas (by_word w) f
by_word_has w f h = tested_has (clean_items w) Nz f (clean_items_has w f h)

-- a part that may stand twice has no access, and only cuts
twice : (p : Part) (κ : Rest) → is_short p ≡ true → cut (accesses (part_items p) (cut κ)) ≡ cut κ
twice Nothing κ is = refl
twice One κ is = refl
twice Null κ is = refl
twice Breaks κ is = refl
twice Continues κ is = refl
twice (Runs items) κ is = absurd cc

pub truth_has : (b : Branch) (f : Marks) → BranchHas b f → Has (truth_items b) (λ κ. f (cut κ))
truth_has b f h = h true One Null

-- the second condition stands between cuts
abbrev both_conditions : Marks → Marks → Marks
both_conditions f g κ = f (cut (g (cut κ)))

where_both_has : (sense : Bool) (a b : Branch) (f g : Marks) (hit miss : Part) → BranchHas a f → BranchHas b g → is_short miss ≡ true
    → Has (where_both sense a b hit miss) (λ κ. both_conditions f g (parts hit miss κ))
where_both_has sense a b f g hit miss ha hb is κ =
    ha sense (Runs (b sense hit miss)) miss κ ∙ ap (λ r. f (cut r)) (hb sense hit miss (cut (accesses (part_items miss) (cut κ))) ∙ ap (λ r. g (cut (accesses (part_items hit) (cut (accesses (part_items miss) r))))) (twice miss κ is))

where_either_has : (sense : Bool) (a b : Branch) (f g : Marks) (hit miss : Part) → BranchHas a f → BranchHas b g → is_short hit ≡ true
    → Has (where_either sense a b hit miss) (λ κ. both_conditions f g (parts hit miss κ))
where_either_has sense a b f g hit miss ha hb is κ =
    ha sense hit (Runs (b sense hit miss)) κ ∙ ap (λ r. f (cut (accesses (part_items hit) (cut r)))) (hb sense hit miss (cut κ)) ∙ ap f (twice hit (g (parts hit miss κ)) is)

joined_has : (sense : Bool) (a b : Branch) (f g : Marks) → BranchHas a f → BranchHas b g → Has (joined sense a b) (both_conditions f g)
joined_has true a b f g ha hb κ = where_both_has true a b f g One Null ha hb refl κ
joined_has false a b f g ha hb κ = where_either_has true a b f g One Null ha hb refl κ

by_number_has : (xs : ItemList) (f : Marks) → Has xs f → BranchHas (by_number xs) f
by_number_has xs f h = tested_has xs Nz f h

one_by : (b : Bool) (xs ys : ItemList) (f : Marks) → (b ≡ true → Has xs f) → Has ys f → Has (if b then xs else ys) f
one_by true xs ys f h k = h refl
one_by false xs ys f h k = k

needs_both_has : (a b : Branch) (f g : Marks) → BranchHas a f → BranchHas b g → BranchHas (needs_both a b) (both_conditions f g)
needs_both_has a b f g ha hb sense hit miss =
    one_by (is_short miss) (where_both sense a b hit miss) (by_number (joined sense a b) sense hit miss) (λ κ. both_conditions f g (parts hit miss κ)) (λ is. where_both_has sense a b f g hit miss ha hb is)
    (by_number_has (joined sense a b) (both_conditions f g) (joined_has sense a b f g ha hb) sense hit miss)

needs_either_has : (a b : Branch) (f g : Marks) → BranchHas a f → BranchHas b g → BranchHas (needs_either a b) (both_conditions f g)
needs_either_has a b f g ha hb sense hit miss =
    one_by (is_short hit) (where_either sense a b hit miss) (by_number (joined (not sense) a b) sense hit miss) (λ κ. both_conditions f g (parts hit miss κ)) (λ is. where_either_has sense a b f g hit miss ha hb is)
    (by_number_has (joined (not sense) a b) (both_conditions f g) (joined_has (not sense) a b f g ha hb) sense hit miss)

pub and_branch_has : (a b : Branch) (f g : Marks) → BranchHas a f → BranchHas b g → BranchHas (and_branch a b) (λ κ. f (cut (g (cut κ))))
and_branch_has a b f g ha hb true = needs_both_has a b f g ha hb true
and_branch_has a b f g ha hb false = needs_either_has a b f g ha hb false

pub or_branch_has : (a b : Branch) (f g : Marks) → BranchHas a f → BranchHas b g → BranchHas (or_branch a b) (λ κ. f (cut (g (cut κ))))
or_branch_has a b f g ha hb true = needs_either_has a b f g ha hb true
or_branch_has a b f g ha hb false = needs_both_has a b f g ha hb false

pub negated_has : (b : Branch) (f : Marks) → BranchHas b f → BranchHas (negated b) f
negated_has b f h sense hit miss = h (not sense) hit miss
