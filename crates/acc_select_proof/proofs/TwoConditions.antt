-- `&&` and `||`: the second condition is asked only where the first one doesn't settle it, and a part stands twice where it is short.
use Rattle.std.proofs.Common.{◌≡◌, ℕ, ◌+◌, ◌≤◌, Bool, true, false, List, length, refl, sym, ap, ◌∙◌, arith}
use Rattle.std.specs.Prelude.{not, ◌==◌, if◌then◌else◌}
use Rattle.word_base.specs.Words.{truth}
use Rattle.acc_code.specs.declared.operation.Test.TheVariants.{Nz}
use Rattle.acc_code.specs.AccTree.{ItemList, end}
use Rattle.acc_select.specs.acc_operations.declared.high_half.HighHalf.TheVariants.{Small}
use Rattle.acc_select.specs.Conditions.{Part, One, Null, Runs, part_items, is_short, Branch, where_both, where_either, by_number, joined, needs_both, needs_either, and_branch, or_branch}
use Rattle.ir_semantics.specs.Parts.{Does, after, ◌>>=◌, give, choose}
use Rattle.ir_semantics.specs.TreeRun.{Tree, and_does, or_does}
use Rattle.ir_semantics.specs.AccRun.{Machine}
use Rattle.acc_select_proof.proofs.Straights.{nothing_done}
use Rattle.acc_select_proof.proofs.Rules.{Ground, Post, AtEnd, Keeps, seq}
use Rattle.acc_select_proof.proofs.Sides.{Side, paid, spared}
use Rattle.acc_select_proof.proofs.Valuing.{after_after, after_same, of_sense, IsTest, Stable, same_meaning, sooner, Val, BranchKeeps}
use Rattle.acc_select_proof.proofs.SelectBranching.{branch_end, val_stable, number_keeps, truth_choice}

-- what the second one is asked for: in both the first one has to hold, in either it doesn't
abbrev second : Bool → Bool → Does Tree Bool → Does Tree Bool
second true t e = choose t e (give false)
second false t e = choose t (give true) e

both_is : {A : Type 0} (s t : Bool) (e : Does Tree Bool) (g l : Does Tree A) (w : Tree) → choose (of_sense s t) (e >>= λ u. choose (of_sense s u) g l) l w ≡ after (second s t e w) (λ u. choose (of_sense s u) g l)
both_is true true e g l w = refl
both_is true false e g l w = refl
both_is false true e g l w = refl
both_is false false e g l w = refl

either_is : {A : Type 0} (s t : Bool) (e : Does Tree Bool) (g l : Does Tree A) (w : Tree) → choose (of_sense s t) g (e >>= λ u. choose (of_sense s u) g l) w ≡ after (second (not s) t e w) (λ u. choose (of_sense s u) g l)
either_is true true e g l w = refl
either_is true false e g l w = refl
either_is false true e g l w = refl
either_is false false e g l w = refl

truth_again : (s t : Bool) → of_sense s (not (truth t == 0)) ≡ of_sense s t
truth_again true true = refl
truth_again true false = refl
truth_again false true = refl
truth_again false false = refl

module _ (n : Ground) (base : ℕ) (f e : Does Tree Bool) (c x : ℕ → Branch) (kf : BranchKeeps n base 6 0 f c) (ke : BranchKeeps n base 6 0 e x) where
  -- each gives r of what the form paid
  both_twice : {A : Type 0} (ts : List ℕ) (s r : ℕ) → r + 12 ≤ s → (b : Bool) (hit miss : Part) (g l : Does Tree A) (q : Post A) → Stable q → Keeps n (Side base ts r) g (part_items hit) q → Keeps n (Side base ts r) l (part_items miss) q
      → Keeps n (Side base ts s) ((f >>= λ t. second b t e) >>= λ t. choose (of_sense b t) g l) (where_both b (c (base + length ts)) (x (base + length ts)) hit miss) q
  both_twice ts s r le b hit miss g l q stable kg kl =
      same_meaning n base (λ w. after_same (f w) (λ t. choose (of_sense b t) (e >>= λ u. choose (of_sense b u) g l) l) (λ t w. after (second b t e w) (λ u. choose (of_sense b u) g l)) (λ t w. both_is b t e g l w) ∙ after_after (f w) (λ t. second b t e) (λ t. choose (of_sense b t) g l))
      (kf.by ts s (6 + r) (omega (arith, le)) b (Runs (x (base + length ts) b hit miss)) miss (e >>= λ u. choose (of_sense b u) g l) l q stable
      (ke.by ts (6 + r) r (omega arith) b hit miss g l q stable kg kl) (sooner n base (λ w v h. spared base ts (6 + r) r w v h (omega arith)) kl))

  either_twice : {A : Type 0} (ts : List ℕ) (s r : ℕ) → r + 12 ≤ s → (b : Bool) (hit miss : Part) (g l : Does Tree A) (q : Post A) → Stable q → Keeps n (Side base ts r) g (part_items hit) q → Keeps n (Side base ts r) l (part_items miss) q
      → Keeps n (Side base ts s) ((f >>= λ t. second (not b) t e) >>= λ t. choose (of_sense b t) g l) (where_either b (c (base + length ts)) (x (base + length ts)) hit miss) q
  either_twice ts s r le b hit miss g l q stable kg kl =
      same_meaning n base (λ w. after_same (f w) (λ t. choose (of_sense b t) g (e >>= λ u. choose (of_sense b u) g l)) (λ t w. after (second (not b) t e w) (λ u. choose (of_sense b u) g l)) (λ t w. either_is b t e g l w) ∙ after_after (f w) (λ t. second (not b) t e) (λ t. choose (of_sense b t) g l))
      (kf.by ts s (6 + r) (omega (arith, le)) b hit (Runs (x (base + length ts) b hit miss)) g (e >>= λ u. choose (of_sense b u) g l) q stable
      (sooner n base (λ w v h. spared base ts (6 + r) r w v h (omega arith)) kg) (ke.by ts (6 + r) r (omega arith) b hit miss g l q stable kg kl))

  -- as a number, of which the node hasn't paid yet
  joined_keeps : (k : Bool) (ts : List ℕ) (s r : ℕ) → r + 14 ≤ s → Keeps n (Side base ts s) ((f >>= λ t. second k t e) >>= λ t. give (truth t)) (joined k (c (base + length ts)) (x (base + length ts))) (AtEnd (Val n base Small ts r))
  joined_keeps true ts s r le =
      same_meaning n base (λ w. after_same (after (f w) (λ t. second true t e)) (λ t. choose (of_sense true t) (give 1) (give 0)) (λ t. give (truth t)) (truth_choice n base))
      (both_twice ts s (2 + r) (omega (arith, le)) true One Null (give 1) (give 0) (AtEnd (Val n base Small ts r)) (val_stable n base ts r) (number_keeps n base ts r 1 (omega arith)) (number_keeps n base ts r 0 (omega arith)))
  joined_keeps false ts s r le =
      same_meaning n base (λ w. after_same (after (f w) (λ t. second false t e)) (λ t. choose (of_sense true t) (give 1) (give 0)) (λ t. give (truth t)) (truth_choice n base))
      (either_twice ts s (2 + r) (omega (arith, le)) true One Null (give 1) (give 0) (AtEnd (Val n base Small ts r)) (val_stable n base ts r) (number_keeps n base ts r 1 (omega arith)) (number_keeps n base ts r 0 (omega arith)))

  -- the test of a truth that is a number
  number_branch : {A : Type 0} (k : Bool) (ts : List ℕ) (s r : ℕ) → r + 18 ≤ s → (b : Bool) (hit miss : Part) (g l : Does Tree A) (q : Post A) → Stable q → Keeps n (Side base ts r) g (part_items hit) q → Keeps n (Side base ts r) l (part_items miss) q
      → Keeps n (Side base ts s) ((f >>= λ t. second k t e) >>= λ t. choose (of_sense b t) g l) (by_number (joined k (c (base + length ts)) (x (base + length ts))) b hit miss) q
  number_branch k ts s r le b hit miss g l q stable kg kl =
      same_meaning n base
      (λ w. sym (after_after (after (f w) (λ t. second k t e)) (λ t. give (truth t)) (λ y. choose (of_sense b (not (y == 0))) g l))
      ∙ after_same (after (f w) (λ t. second k t e)) (λ t. choose (of_sense b (not (truth t == 0))) g l) (λ t. choose (of_sense b t) g l) (λ t w. ap (λ z. choose z g l w) (truth_again b t)))
      (seq n (joined_keeps k ts s (4 + r) (omega (arith, le))) (λ y. record {
        by = λ w v p.
            branch_end n base ts (4 + r) r 0 Nz (not (y == 0)) end (part_items hit) (part_items miss) g l q w v stable p.side (nothing_done n.context v 0 (λ u. IsTest Nz (not (y == 0)) u.registers.acc) p.side.sxm (record { z = y; is = p.has.has.0; holds_so = refl })) (omega arith) b kg kl;
      }))

  by_choice : {A : Type 0} (b : Bool) (xs ys : ItemList) (p : Tree → Machine → Type 0) (h : Does Tree A) (q : Post A) → Keeps n p h xs q → Keeps n p h ys q → Keeps n p h (if b then xs else ys) q
  by_choice true xs ys p h q a b = a
  by_choice false xs ys p h q a b = b

  needs_both_keep : {A : Type 0} (ts : List ℕ) (s r : ℕ) → r + 18 ≤ s → (b : Bool) (hit miss : Part) (g l : Does Tree A) (q : Post A) → Stable q → Keeps n (Side base ts r) g (part_items hit) q → Keeps n (Side base ts r) l (part_items miss) q
      → Keeps n (Side base ts s) ((f >>= λ t. second b t e) >>= λ t. choose (of_sense b t) g l) (needs_both (c (base + length ts)) (x (base + length ts)) b hit miss) q
  needs_both_keep ts s r le b hit miss g l q stable kg kl =
      by_choice (is_short miss) _ _ (Side base ts s) _ q (both_twice ts s r (omega (arith, le)) b hit miss g l q stable kg kl) (number_branch b ts s r le b hit miss g l q stable kg kl)

  needs_either_keep : {A : Type 0} (ts : List ℕ) (s r : ℕ) → r + 18 ≤ s → (b : Bool) (hit miss : Part) (g l : Does Tree A) (q : Post A) → Stable q → Keeps n (Side base ts r) g (part_items hit) q → Keeps n (Side base ts r) l (part_items miss) q
      → Keeps n (Side base ts s) ((f >>= λ t. second (not b) t e) >>= λ t. choose (of_sense b t) g l) (needs_either (c (base + length ts)) (x (base + length ts)) b hit miss) q
  needs_either_keep ts s r le b hit miss g l q stable kg kl =
      by_choice (is_short hit) _ _ (Side base ts s) _ q (either_twice ts s r (omega (arith, le)) b hit miss g l q stable kg kl) (number_branch (not b) ts s r le b hit miss g l q stable kg kl)

  and_by : {A : Type 0} (ts : List ℕ) (s r : ℕ) → r + 18 ≤ s → (b : Bool) (hit miss : Part) (g l : Does Tree A) (q : Post A) → Stable q → Keeps n (Side base ts r) g (part_items hit) q → Keeps n (Side base ts r) l (part_items miss) q
      → Keeps n (Side base ts s) ((f >>= λ t. second true t e) >>= λ t. choose (of_sense b t) g l) (and_branch (c (base + length ts)) (x (base + length ts)) b hit miss) q
  and_by ts s r le true hit miss g l q stable kg kl = needs_both_keep ts s r le true hit miss g l q stable kg kl
  and_by ts s r le false hit miss g l q stable kg kl = needs_either_keep ts s r le false hit miss g l q stable kg kl

  or_by : {A : Type 0} (ts : List ℕ) (s r : ℕ) → r + 18 ≤ s → (b : Bool) (hit miss : Part) (g l : Does Tree A) (q : Post A) → Stable q → Keeps n (Side base ts r) g (part_items hit) q → Keeps n (Side base ts r) l (part_items miss) q
      → Keeps n (Side base ts s) ((f >>= λ t. second false t e) >>= λ t. choose (of_sense b t) g l) (or_branch (c (base + length ts)) (x (base + length ts)) b hit miss) q
  or_by ts s r le true hit miss g l q stable kg kl = needs_either_keep ts s r le true hit miss g l q stable kg kl
  or_by ts s r le false hit miss g l q stable kg kl = needs_both_keep ts s r le false hit miss g l q stable kg kl

  pub and_keeps : BranchKeeps n base 0 2 (and_does f e) (λ t. and_branch (c t) (x t))
  and_keeps = record { by = λ ts s r le b hit miss g l q stable kg kl. record { by = λ w v p. (and_by ts (20 + s) r (omega (arith, le)) b hit miss g l q stable kg kl).by _ v (paid base ts s 20 w v p) } }

  pub or_keeps : BranchKeeps n base 0 2 (or_does f e) (λ t. or_branch (c t) (x t))
  or_keeps = record { by = λ ts s r le b hit miss g l q stable kg kl. record { by = λ w v p. (or_by ts (20 + s) r (omega (arith, le)) b hit miss g l q stable kg kl).by _ v (paid base ts s 20 w v p) } }
