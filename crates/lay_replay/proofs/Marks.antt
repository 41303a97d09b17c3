-- What comes of a log by its next mark.
use Rattle.std.proofs.Common.{◌≡◌, ℕ, suc, ◌+◌, true, false, List, [], ◌∷◌, ◌++◌, drop, refl, ap, ◌∙◌, arith, append_assoc}
use Rattle.lay_model.specs.Sequences.{Sequence}
use Rattle.lay_cost.specs.Parts.{Node}
use Rattle.lay_tree.specs.declared.answer.Mark.{Mark}
use Rattle.lay_tree.specs.declared.answer.Mark.TheVariants.{Branched, Closed}
use Rattle.lay_tree.specs.Tree.{root, is_complete, children}
use Rattle.lay_tree.specs.Bound.{bound}
use Rattle.lay_tree.specs.Search.{reaches}
use Rattle.lay_tree.specs.Replays.{Fits, IsTooLow, HasNoShape, replay_from, replay}
use Rattle.lay_replay.specs.declared.verdict.Fault.{Fault}
use Rattle.lay_replay.specs.declared.verdict.Fault.TheVariants as faults
use Rattle.lay_replay.specs.Walks.{from_mark, FitTo, FailAt}

by_one : (n : ℕ) → suc n ≡ n + 1
by_one n = omega arith

-- ---- one mark

closed_at : (k : ℕ) (seq : Sequence) (c at : ℕ) (n : Node) (ns : List Node) (marks : List Mark) → reaches (bound k seq n) c ≡ true → replay_from k seq c at (n ∷ ns) (Closed ∷ marks) ≡ replay_from k seq c (suc at) ns marks
closed_at k seq c at n ns marks is = rw (is, replay_from) refl

low_at : (k : ℕ) (seq : Sequence) (c at : ℕ) (n : Node) (ns : List Node) (marks : List Mark) → reaches (bound k seq n) c ≡ false → replay_from k seq c at (n ∷ ns) (Closed ∷ marks) ≡ IsTooLow at (bound k seq n)
low_at k seq c at n ns marks is = rw (is, replay_from) refl

branched_at : (k : ℕ) (seq : Sequence) (c at : ℕ) (n : Node) (ns : List Node) (marks : List Mark) → is_complete seq n ≡ false → replay_from k seq c at (n ∷ ns) (Branched ∷ marks) ≡ replay_from k seq c (suc at) (children k seq n ++ ns) marks
branched_at k seq c at n ns marks is = rw (is, replay_from) refl

-- ---- by the mark that is read

pub closed_fits : (k : ℕ) (seq : Sequence) (c : ℕ) (marks : List Mark) (n : Node) (at : ℕ) → drop at marks ≡ Closed ∷ drop (at + 1) marks → reaches (bound k seq n) c ≡ true → FitTo k seq c marks (n ∷ []) at (at + 1)
closed_fits k seq c marks n at is reached rest =
    ap (replay_from k seq c at (n ∷ rest)) is ∙ closed_at k seq c at n rest (drop (at + 1) marks) reached ∙ ap (λ i. replay_from k seq c i rest (drop (at + 1) marks)) (by_one at)

pub closed_fails : (k : ℕ) (seq : Sequence) (c : ℕ) (marks : List Mark) (n : Node) (at : ℕ) → drop at marks ≡ Closed ∷ drop (at + 1) marks → reaches (bound k seq n) c ≡ false → FailAt k seq c marks (n ∷ []) at (faults.TooLow at (bound k seq n))
closed_fails k seq c marks n at is low rest = ap (replay_from k seq c at (n ∷ rest)) is ∙ low_at k seq c at n rest (drop (at + 1) marks) low

branched_on : (k : ℕ) (seq : Sequence) (c : ℕ) (marks : List Mark) (n : Node) (at : ℕ) (rest : List Node) → drop at marks ≡ Branched ∷ drop (at + 1) marks → is_complete seq n ≡ false → from_mark k seq c marks at (n ∷ rest) ≡ from_mark k seq c marks (at + 1) (children k seq n ++ rest)
branched_on k seq c marks n at rest is incomplete =
    ap (replay_from k seq c at (n ∷ rest)) is ∙ branched_at k seq c at n rest (drop (at + 1) marks) incomplete ∙ ap (λ i. replay_from k seq c i (children k seq n ++ rest) (drop (at + 1) marks)) (by_one at)

pub branched_fits : (k : ℕ) (seq : Sequence) (c : ℕ) (marks : List Mark) (n : Node) (at to : ℕ) → drop at marks ≡ Branched ∷ drop (at + 1) marks → is_complete seq n ≡ false → FitTo k seq c marks (children k seq n) (at + 1) to → FitTo k seq c marks (n ∷ []) at to
branched_fits k seq c marks n at to is incomplete below rest = branched_on k seq c marks n at rest is incomplete ∙ below rest

pub branched_fails : (k : ℕ) (seq : Sequence) (c : ℕ) (marks : List Mark) (n : Node) (at : ℕ) (fault : Fault) → drop at marks ≡ Branched ∷ drop (at + 1) marks → is_complete seq n ≡ false → FailAt k seq c marks (children k seq n) (at + 1) fault → FailAt k seq c marks (n ∷ []) at fault
branched_fails k seq c marks n at fault is incomplete below rest = branched_on k seq c marks n at rest is incomplete ∙ below rest

-- ---- nodes and others behind them

pub fit_then : (k : ℕ) (seq : Sequence) (c : ℕ) (marks : List Mark) (xs ys : List Node) (at middle to : ℕ) → FitTo k seq c marks xs at middle → FitTo k seq c marks ys middle to → FitTo k seq c marks (xs ++ ys) at to
fit_then k seq c marks xs ys at middle to first second rest = ap (from_mark k seq c marks at) (append_assoc xs ys rest) ∙ first (ys ++ rest) ∙ second rest

pub fail_then : (k : ℕ) (seq : Sequence) (c : ℕ) (marks : List Mark) (xs ys : List Node) (at middle : ℕ) (fault : Fault) → FitTo k seq c marks xs at middle → FailAt k seq c marks ys middle fault → FailAt k seq c marks (xs ++ ys) at fault
fail_then k seq c marks xs ys at middle fault first second rest = ap (from_mark k seq c marks at) (append_assoc xs ys rest) ∙ first (ys ++ rest) ∙ second rest

pub fail_before : (k : ℕ) (seq : Sequence) (c : ℕ) (marks : List Mark) (xs ys : List Node) (at : ℕ) (fault : Fault) → FailAt k seq c marks xs at fault → FailAt k seq c marks (xs ++ ys) at fault
fail_before k seq c marks xs ys at fault first rest = ap (from_mark k seq c marks at) (append_assoc xs ys rest) ∙ first (ys ++ rest)

-- ---- the whole log

pub all_fit : (k : ℕ) (seq : Sequence) (c : ℕ) (marks : List Mark) (to : ℕ) → FitTo k seq c marks (root ∷ []) 0 to → drop to marks ≡ [] → replay k seq c marks ≡ Fits
all_fit k seq c marks to fit none = fit [] ∙ ap (replay_from k seq c to []) none

pub left_over : (k : ℕ) (seq : Sequence) (c : ℕ) (marks : List Mark) (to : ℕ) (m : Mark) (ms : List Mark) → FitTo k seq c marks (root ∷ []) 0 to → drop to marks ≡ m ∷ ms → replay k seq c marks ≡ HasNoShape to
left_over k seq c marks to m ms fit more = fit [] ∙ ap (replay_from k seq c to []) more
