-- Conditions: a part that may stand twice, and conditions of two.
use Rattle.std.proofs.Common.{◌≡◌, ℕ, ◌+◌, ◌<◌, ◌≤◌, Bool, true, false, List, length, refl, sym, ◌∙◌, subst, arith}
use Rattle.std.specs.Prelude.{not, ◌==◌}
use Rattle.word_base.specs.Words.{truth}
use Rattle.acc_code.specs.declared.operation.Test.{Test}
use Rattle.acc_code.specs.declared.operation.Test.TheVariants.{Nz}
use Rattle.acc_code.specs.AccTree.{If, ItemList, end, ◌▸◌, ◌⧺◌}
use Rattle.acc_select.proofs.acc_operations.ItemLemmas.{items_associate}
use Rattle.acc_select.specs.acc_operations.Kinds.{in_sense}
use Rattle.acc_select.specs.acc_operations.Words.{Word, load_clean}
use Rattle.acc_select.specs.acc_operations.declared.high_half.HighHalf.TheVariants.{Small}
use Rattle.acc_select.specs.Conditions.{Nothing, One, Null, part_items, Branch, by_word, negated, truth_items, number}
use Rattle.ir_semantics.specs.Parts.{Does, ◌>>=◌, give, choose, Next, Broke, Continued, Returned}
use Rattle.ir_semantics.specs.TreeRun.{Tree, not_does, as_word, as_truth, as_nothing}
use Rattle.ir_semantics.specs.AccRun.{Machine, run}
use Rattle.acc_select_proof.proofs.Straights.{Straight, found_weight}
use Rattle.acc_select_proof.proofs.Rules.{Ground, Post, Rel, AtEnd, Keeps, seq}
use Rattle.acc_select_proof.proofs.Sides.{Side, on, straight, paid, went}
use Rattle.acc_select_proof.proofs.Testing.{sense_too}
use Rattle.acc_select_proof.proofs.Comparing.{tested_clean}
use Rattle.acc_select_proof.proofs.Valuing.{after_after, after_same, of_sense, IsTest, Stable, same_meaning, Val, WordKeeps, BranchKeeps, EffectKeeps, if_keeps}

module _ (n : Ground) (base : ℕ) where
  -- the items of a question are straight; what they cost is paid
  pub branch_end : {A : Type 0} (ts : List ℕ) (s r k : ℕ) (t : Test) (b : Bool) (xs hit miss : ItemList) (g l : Does Tree A) (q : Post A) (w : Tree) (v : Machine) → Stable q → Side base ts s w v → Straight n.context xs v k (λ u. IsTest t b u.registers.acc) → k + (4 + r) ≤ s → (sense : Bool)
      → Keeps n (Side base ts r) g hit q → Keeps n (Side base ts r) l miss q → Rel q (choose (of_sense sense b) g l w) (run n.context (xs ⧺ If (in_sense sense t) hit miss ▸ end) v)
  branch_end ts s r k t b xs hit miss g l q w v stable h st le sense kg kl =
      on n q (choose (of_sense sense b) g l w) xs (If (in_sense sense t) hit miss ▸ end) v k (λ u. IsTest t b u.registers.acc) st
      (if_keeps n base ts (4 + r) r (in_sense sense t) (of_sense sense b) hit miss g l q w st.to stable kg kl (sense_too sense t b st.to.registers.acc st.then_so) (straight base n ts s (4 + r) k w v xs (λ u. IsTest t b u.registers.acc) h st le) (omega arith))

  -- a word that isn't a truth
  pub by_word_keeps : (f : Does Tree ℕ) (c : ℕ → Word) → WordKeeps n base f c → BranchKeeps n base 6 0 (as_truth f) (λ t. by_word (c t))
  by_word_keeps f c k = record {
    by = λ ts s r le sense hit miss g l q stable kg kl.
        same_meaning n base {xs = by_word (c (base + length ts)) sense hit miss} {q = q} (λ w. after_after (f w) (λ x. give (not (x == 0))) (λ t. choose (of_sense sense t) g l))
        (subst (λ xs. Keeps n (Side base ts s) (f >>= λ x. choose (of_sense sense (not (x == 0))) g l) xs q) (sym (associated (c (base + length ts)).items (load_clean (c (base + length ts)).found) (If (in_sense sense Nz) (part_items hit) (part_items miss) ▸ end)))
        (seq n (k.by ts s) (λ x. record {
          by = λ w v p.
              branch_end ts (found_weight (c (base + length ts)).found + s) r (found_weight (c (base + length ts)).found + 2) Nz (not (x == 0)) (load_clean (c (base + length ts)).found) (part_items hit) (part_items miss) g l q w v stable p.side
              (tested_clean n.context (c (base + length ts)).found x v p.found p.wide p.side.sxm p.word) (omega (arith, le)) sense kg kl;
        })));
  }
    where
      associated : (xs ys zs : ItemList) → (xs ⧺ ys) ⧺ zs ≡ xs ⧺ (ys ⧺ zs)
      associated = items_associate

  -- what costs less serves too
  pub looser : (f : Does Tree Bool) (c : ℕ → Branch) → BranchKeeps n base 0 2 f c → BranchKeeps n base 6 0 f c
  looser f c k = record { by = λ ts s r le. k.by ts s r (omega (arith, le)) }

  pub val_stable : (ts : List ℕ) (s : ℕ) → Stable (AtEnd (Val n base Small ts s))
  val_stable ts s a Next w v e = record { side = went base ts s s 0 w v _ e.side refl refl e.side.sxm (omega arith) (omega arith); has = e.has; word = e.word }
  val_stable ts s a Broke w v e = e
  val_stable ts s a Continued w v e = e
  val_stable ts s a Returned w v e = e

  -- a truth as a word
  pub number_keeps : (ts : List ℕ) (s x : ℕ) → x < 256 → Keeps n (Side base ts (2 + s)) (give x) (number x) (AtEnd (Val n base Small ts s))
  number_keeps ts s x lt = record {
    by = λ w v h. record {
      side = went base ts (2 + s) s 2 w v _ h refl refl h.sxm (omega arith) (omega arith);
      has = record { has = (refl, omega (arith, lt)); wide = let few : x < 4294967296 = omega (arith, lt) in few };
      word = omega (arith, lt);
    };
  }

  pub truth_choice : (t : Bool) (w : Tree) → choose (of_sense true t) (give 1) (give 0) w ≡ give (truth t) w
  truth_choice true w = refl
  truth_choice false w = refl

  pub truth_keeps : (f : Does Tree Bool) (c : ℕ → Branch) → BranchKeeps n base 0 2 f c → (ts : List ℕ) (s : ℕ) → Keeps n (Side base ts s) (as_word f) (truth_items (c (base + length ts))) (AtEnd (Val n base Small ts s))
  truth_keeps f c k ts s =
      same_meaning n base (λ w. after_same (f w) (λ t. choose (of_sense true t) (give 1) (give 0)) (λ t. give (truth t)) truth_choice)
      (k.by ts s (2 + s) (omega arith) true One Null (give 1) (give 0) (AtEnd (Val n base Small ts s)) (val_stable ts s) (number_keeps ts s 1 (omega arith)) (number_keeps ts s 0 (omega arith)))

  side_stable : {A : Type 0} (ts : List ℕ) (s : ℕ) → Stable {A = A} (AtEnd (λ _ w v. Side base ts s w v))
  side_stable ts s a Next w v e = went base ts s s 0 w v _ e refl refl e.sxm (omega arith) (omega arith)
  side_stable ts s a Broke w v e = e
  side_stable ts s a Continued w v e = e
  side_stable ts s a Returned w v e = e

  either : (t : Bool) (w : Tree) → choose (of_sense true t) (give (tt {0})) (give tt) w ≡ give tt w
  either true w = refl
  either false w = refl

  at_once : (ts : List ℕ) (s : ℕ) → Keeps n (Side base ts s) (give (tt {0})) end (AtEnd (λ _ w v. Side base ts s w v))
  at_once ts s = record { by = λ w v h. h }

  pub nothing_keeps : (f : Does Tree Bool) (c : ℕ → Branch) → BranchKeeps n base 0 2 f c → EffectKeeps n base (as_nothing f) (λ t. c t true Nothing Nothing)
  nothing_keeps f c k = record {
    by = λ ts s.
        same_meaning n base (λ w. after_same (f w) (λ t. choose (of_sense true t) (give tt) (give tt)) (λ t. give tt) either)
        (k.by ts s s (omega arith) true Nothing Nothing (give tt) (give tt) (AtEnd (λ _ w v. Side base ts s w v)) (side_stable ts s) (at_once ts s) (at_once ts s));
  }

  not_sense : {A : Type 0} (b t : Bool) (g l : Does Tree A) (w : Tree) → choose (of_sense (not b) t) g l w ≡ choose (of_sense b (not t)) g l w
  not_sense true true g l w = refl
  not_sense true false g l w = refl
  not_sense false true g l w = refl
  not_sense false false g l w = refl

  pub not_keeps : (f : Does Tree Bool) (c : ℕ → Branch) → BranchKeeps n base 6 0 f c → BranchKeeps n base 0 2 (not_does f) (λ t. negated (c t))
  not_keeps f c k = record {
    by = λ ts s r le sense hit miss g l q stable kg kl. record {
      by = λ w v p.
          (same_meaning n base {xs = c (base + length ts) (not sense) hit miss} {q = q} (λ w. after_same (f w) (λ t. choose (of_sense (not sense) t) g l) (λ t. choose (of_sense sense (not t)) g l) (λ t u. not_sense sense t g l u) ∙ after_after (f w) (λ t. give (not t)) (λ t. choose (of_sense sense t) g l))
          (k.by ts (10 + s) r (omega (arith, le)) (not sense) hit miss g l q stable kg kl)).by _ v (paid base ts s 10 w v p);
    };
  }
