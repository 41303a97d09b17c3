-- The code of operations on one word, of choices and of commas.
use Rattle.std.proofs.Common.{◌≡◌, ℕ, ◌+◌, ◌-◌, ◌%◌, ◌<◌, Bool, true, List, length, Some, refl, sym, ap, ◌∙◌, subst, arith, pos, ◌-ℤ◌}
use Rattle.std.proofs.lemmas.Int.{ints}
use Rattle.word_base.specs.Words.{Calc, Good, Bad, low16, unsigned_negate}
use Rattle.c_syntax.specs.declared.operator.UnaryOp.{UnaryOp}
use Rattle.c_syntax.specs.declared.operator.UnaryOp.TheVariants.{Minus, Plus, Complement}
use Rattle.acc_code.specs.declared.operand.AccOperand.TheVariants as operand
use Rattle.acc_code.specs.declared.operation.AccOp.TheVariants as row
use Rattle.acc_code.specs.AccTree.{ItemList, end, ◌▸◌, ◌⧺◌}
use Rattle.acc_select.specs.acc_operations.Words.{Word, next, in_accumulator, load, high, extend, bare}
use Rattle.acc_select.specs.acc_operations.declared.found.Found.{Found}
use Rattle.acc_select.specs.acc_operations.declared.found.Found.TheVariants.{Loaded}
use Rattle.acc_select.specs.acc_operations.declared.high_half.HighHalf.{HighHalf}
use Rattle.acc_select.specs.acc_operations.declared.high_half.HighHalf.TheVariants.{Any, Zero, Sign, Small}
use Rattle.acc_select.specs.Conditions.{Runs}
use Rattle.acc_select.specs.Forms.{Code, complement_high, signed_items, pick_code, comma_code}
use Rattle.c25_isa.specs.Step.{extended, wrap16}
use Rattle.ir_semantics.specs.Meanings.{of_one_word}
use Rattle.ir_semantics.specs.Parts.{Gives, Does, ◌>>=◌, choose, Next, Broke, Continued, Returned}
use Rattle.ir_semantics.specs.TreeRun.{Tree, tick, calc, pick_does, comma_does, as_truth}
use Rattle.ir_semantics.specs.AccRows.{Acc, Gone, Low, Whole, known, complemented, low_half, operand_weight}
use Rattle.ir_semantics.specs.AccRun.{Machine, Context, run}
use Rattle.acc_select_proof.proofs.Straights.{Has, FoundHas, found_weight, Straight, at_most}
use Rattle.acc_select_proof.proofs.Rules.{Ground, Rel, AtEnd, Keeps, seq, weaker}
use Rattle.acc_select_proof.proofs.Sides.{Side, straight, paid, spared, went, some_is}
use Rattle.acc_select_proof.proofs.Words.{ext_is, has_low}
use Rattle.acc_select_proof.proofs.Loading.{extended_word}
use Rattle.acc_select_proof.proofs.Arithmetics.{low16_is}
use Rattle.acc_select_proof.proofs.SelectOperating.{good_is}
use Rattle.acc_select_proof.proofs.Following.{wide_sign, IsWide, InAcc, IsFound, Becomes, Turns, brought, on_loaded}
use Rattle.acc_select_proof.proofs.Summing.{acts, negated}
use Rattle.acc_select_proof.proofs.Valuing.{of_sense, fails, arrives, seq_in, same_meaning, after_give, Stable, Val, FoundVal, WordKeeps, BranchKeeps, EffectKeeps, IntoKeeps, PointKeeps, CodeKeeps, loaded_keeps}
use Rattle.acc_select_proof.proofs.Coding.{word_code}

pub found_wide : (h : HighHalf) (v : Machine) → IsWide v.registers.acc → IsFound (Loaded h) v
found_wide Any v w = w
found_wide Zero v w = tt
found_wide Sign v w = tt
found_wide Small v w = tt

-- what straight items make of a word that was found
pub record Makes (c : Context) (z : ℕ → Calc) (w : Found → ItemList) (h : Found → HighHalf) (j : ℕ) : Type 0 where
  pub by : (g : Found) (x y : ℕ) (v : Machine) → FoundHas c.at g x v → IsFound g v → v.registers.sxm ≡ Some true → x < 65536 → z x ≡ Good y → Straight c (w g) v (found_weight g + j) (λ u. InAcc (h g) y u.registers.acc)
  pub word : (x y : ℕ) → x < 65536 → z x ≡ Good y → y < 65536

-- CMPL
complement_low : (a : Acc) (x : ℕ) → low_half a ≡ Some x → x < 65536 → IsWide a → Turns (known (complemented a)) (InAcc Any (65535 - x))
complement_low Gone x e lt w = absurd cc
complement_low (Low y) x e lt w = record { to = Low (65535 - y); by = refl; has = record { has = ap (λ i. Some (65535 - i)) (some_is e); wide = tt } }
complement_low (Whole z) x e lt w =
    let i = some_is e in
    let same : wrap16 (4294967295 - z) ≡ 65535 - x = omega (arith, i, w) in
    record { to = Whole (4294967295 - z); by = refl; has = record { has = ap Some same; wide = let few : 4294967295 - z < 4294967296 = omega arith in few } }

complement_sign : (a : Acc) (x : ℕ) → a ≡ Whole (extended true x) → x < 65536 → Turns (known (complemented a)) (InAcc Sign (65535 - x))
complement_sign a x e lt =
    let same : 4294967295 - extended true x ≡ extended true (65535 - x) = omega (arith, ext_is x, ext_is (65535 - x)) in
    record {
      to = Whole (4294967295 - extended true x);
      by = ap (λ b. known (complemented b)) e;
      has = record { has = ap Whole same; wide = let few : 4294967295 - extended true x < 4294967296 = omega arith in few };
    }

complements : (h : HighHalf) (a : Acc) (x : ℕ) → InAcc h x a → x < 65536 → Turns (known (complemented a)) (InAcc (complement_high h) (65535 - x))
complements Any a x i lt = complement_low a x i.has lt i.wide
complements Zero a x i lt = complement_low a x (has_low Zero x a lt i.has) lt i.wide
complements Sign a x i lt = complement_sign a x i.has lt
complements Small a x i lt = complement_sign a x (i.has.0 ∙ ap Whole (omega (arith, ext_is x, i.has.1))) lt

negate_is : (x y : ℕ) → x < 65536 → unsigned_negate x ≡ Good y → (65536 - x) % 65536 ≡ y
negate_is x y lt e = sym (low16_is (pos 0 -ℤ pos x) 1 (65536 - x) (omega (arith, ints))) ∙ good_is (low16 (pos 0 -ℤ pos x)) y e

abbrev pub unary_items : UnaryOp → Found → ItemList
unary_items Plus f = load f
unary_items Minus f = load f ⧺ bare row.Neg ▸ end
unary_items Complement f = load f ⧺ bare row.Cmpl ▸ end

abbrev pub unary_high : UnaryOp → Found → HighHalf
unary_high Plus f = high f
unary_high Minus f = Any
unary_high Complement f = complement_high (high f)

module _ (c : Context) where
  complement_there : (g : Found) (x : ℕ) (v : Machine) → FoundHas c.at g x v → IsFound g v → v.registers.sxm ≡ Some true → x < 65536
      → Straight c (load g ⧺ bare row.Cmpl ▸ end) v (found_weight g + 1) (λ u. InAcc (complement_high (high g)) (65535 - x) u.registers.acc)
  complement_there g x v e w s lt =
      on_loaded c g x v (bare row.Cmpl ▸ end) 1 1 (λ u. InAcc (complement_high (high g)) (65535 - x) u.registers.acc) e w s lt (omega arith)
      (λ u st i. acts c row.Cmpl operand.Nothing u 0 1 (InAcc (complement_high (high g)) (65535 - x)) (λ u. refl) refl st.sxm (omega arith)
      (record { combination = known (complemented u.registers.acc); is = refl; turns = complements (high g) u.registers.acc x i lt }))

  negative_there : (g : Found) (x y : ℕ) (v : Machine) → FoundHas c.at g x v → IsFound g v → v.registers.sxm ≡ Some true → x < 65536 → (65536 - x) % 65536 ≡ y
      → Straight c (load g ⧺ bare row.Neg ▸ end) v (found_weight g + 1) (λ u. InAcc Any y u.registers.acc)
  negative_there g x y v e w s lt is =
      on_loaded c g x v (bare row.Neg ▸ end) 1 1 (λ u. InAcc Any y u.registers.acc) e w s lt (omega arith)
      (λ u st i. subst (λ k. Straight c (bare row.Neg ▸ end) u 1 (λ u. InAcc Any k u.registers.acc)) is (negated c u x (has_low (high g) x u.registers.acc lt i.has) i.wide st.sxm lt))

  pub unary_makes : (o : UnaryOp) → Makes c (of_one_word o) (unary_items o) (unary_high o) 1
  unary_makes Plus = record {
    by = λ g x y v e w s lt is.
        at_most c (load g) v (found_weight g) (found_weight g + 1) (Becomes (InAcc (high g) x) v) (λ u. InAcc (high g) y u.registers.acc) (omega arith) (λ u b. subst (λ k. InAcc (high g) k u.registers.acc) (good_is x y is) b.acc) (brought c g x v e w s lt);
    word = λ x y lt is. subst (λ k. k < 65536) (good_is x y is) lt;
  }
  unary_makes Minus = record {
    by = λ g x y v e w s lt is. negative_there g x y v e w s lt (negate_is x y lt is);
    word = λ x y lt is. let same = negate_is x y lt is in omega (arith, same);
  }
  unary_makes Complement = record {
    by = λ g x y v e w s lt is. subst (λ k. Straight c (load g ⧺ bare row.Cmpl ▸ end) v (found_weight g + 1) (λ u. InAcc (complement_high (high g)) k u.registers.acc)) (good_is (65535 - x) y is) (complement_there g x v e w s lt);
    word = λ x y lt is. let same = good_is (65535 - x) y is in omega (arith, same);
  }

module _ (n : Ground) (base : ℕ) where
  made_by : (z : ℕ → Calc) (w : Found → ItemList) (h : Found → HighHalf) (j : ℕ) (k : Makes n.context z w h j) (g : Found) (ts : List ℕ) (s x : ℕ) (r : Calc) (t : Tree) (v : Machine) → z x ≡ r → FoundVal n base g ts (j + s) x t v
      → Rel (AtEnd (FoundVal n base (Loaded (h g)) ts s)) (calc r t) (run n.context (w g) v)
  made_by z w h j k g ts s x (Bad kind) t v is p = fails n base (AtEnd (FoundVal n base (Loaded (h g)) ts s)) (w g) t v p.side.outside
  made_by z w h j k g ts s x (Good y) t v is p =
      let r = k.by g x y v p.found p.wide p.side.sxm p.word is in
      arrives n base (FoundVal n base (Loaded (h g)) ts s) y t v (w g) (found_weight g + j) (λ u. InAcc (h g) y u.registers.acc) r
      (record {
        side = straight base n ts (found_weight g + (j + s)) (0 + s) (found_weight g + j) t v (w g) (λ u. InAcc (h g) y u.registers.acc) p.side r (omega arith);
        found = r.then_so.has;
        wide = found_wide (h g) r.to r.then_so.wide;
        word = k.word x y p.word is;
      })

  -- a word that is made of one
  pub made_keeps : (f : Does Tree ℕ) (c : ℕ → Word) (z : ℕ → Calc) (w : Found → ItemList) (h : Found → HighHalf) (j : ℕ) → Makes n.context z w h j → WordKeeps n base f c → WordKeeps n base (tick j >>= λ _. f >>= λ x. calc (z x)) (λ t. next (c t) (λ g. in_accumulator (w g) (h g)))
  made_keeps f c z w h j m k = record {
    by = λ ts s. record {
      by = λ u v p.
          (seq n (k.by ts (j + s)) (λ x. record { by = λ t v q. made_by z w h j m (c (base + length ts)).found ts s x (z x) t v refl q })).by (record u { work = u.work + j }) v (paid base ts s j u v p);
    };
  }

  -- a choice of two words
  any_stable : (h : HighHalf) (ts : List ℕ) (s : ℕ) → Stable (AtEnd (Val n base h ts s))
  any_stable h ts s a Next w v e = record { side = went base ts s s 0 w v _ e.side refl refl e.side.sxm (omega arith) (omega arith); has = e.has; word = e.word }
  any_stable h ts s a Broke w v e = e
  any_stable h ts s a Continued w v e = e
  any_stable h ts s a Returned w v e = e

  effect_stable : (ts : List ℕ) (s : ℕ) → Stable {A = Unit {0}} (AtEnd (λ _ w v. Side base ts s w v))
  effect_stable ts s a Next w v e = went base ts s s 0 w v _ e refl refl e.sxm (omega arith) (omega arith)
  effect_stable ts s a Broke w v e = e
  effect_stable ts s a Continued w v e = e
  effect_stable ts s a Returned w v e = e

  signed_val : (h : HighHalf) (ts : List ℕ) (s x : ℕ) (w : Tree) (v : Machine) → Val n base h ts (4 + s) x w v → Rel (AtEnd (Val n base Sign ts s)) (Gives x w) (run n.context (extend h) v)
  signed_val h ts s x w v p =
      let r = extended_word n.context h x v p.has.has p.side.sxm p.word in
      arrives n base (Val n base Sign ts s) x w v (extend h) 4 (λ u. Has Sign x u.registers.acc) r
      (record { side = straight base n ts (4 + s) s 4 w v (extend h) (λ u. Has Sign x u.registers.acc) p.side r (omega arith); has = record { has = r.then_so; wide = wide_sign x r.to.registers.acc p.word r.then_so }; word = p.word })

  pub signed_keeps : (f : Does Tree ℕ) (c : ℕ → Word) → WordKeeps n base f c → (ts : List ℕ) (s : ℕ) → Keeps n (Side base ts (4 + s)) f (signed_items (c (base + length ts))) (AtEnd (Val n base Sign ts s))
  signed_keeps f c k ts s = same_meaning n base (λ w. after_give (f w)) (seq n (loaded_keeps n base f c k ts (4 + s)) (λ x. record { by = λ w v p. signed_val (high (c (base + length ts)).found) ts s x w v p }))

  module _ (f : Does Tree Bool) (a b : Does Tree ℕ) (ea eb : Does Tree (Unit {0})) (cf ca cb : ℕ → Code) (kf : BranchKeeps n base 6 0 f (λ t. (cf t).branch)) (ka : WordKeeps n base a (λ t. (ca t).word)) (kb : WordKeeps n base b (λ t. (cb t).word)) (ja : EffectKeeps n base ea (λ t. (ca t).effect)) (jb : EffectKeeps n base eb (λ t. (cb t).effect)) where
    pick_word : WordKeeps n base (pick_does f a b) (λ t. (pick_code (cf t) (ca t) (cb t)).word)
    pick_word = record {
      by = λ ts s. record {
        by = λ u v p.
            (weaker n (λ x w v e. record { side = spared base ts s (0 + s) w v e.side (omega arith); found = e.has.has; wide = tt; word = e.word })
            (kf.by ts (14 + s) (4 + s) (omega arith) true (Runs (signed_items (ca (base + length ts)).word)) (Runs (signed_items (cb (base + length ts)).word)) a b (AtEnd (Val n base Sign ts s)) (any_stable Sign ts s)
            (signed_keeps a (λ t. (ca t).word) ka ts s) (signed_keeps b (λ t. (cb t).word) kb ts s))).by (record u { work = u.work + 14 }) v (paid base ts s 14 u v p);
      };
    }

    pick_effect : EffectKeeps n base (pick_does f ea eb) (λ t. (pick_code (cf t) (ca t) (cb t)).effect)
    pick_effect = record {
      by = λ ts s. record {
        by = λ u v p.
            (kf.by ts (14 + s) s (omega arith) true (Runs (ca (base + length ts)).effect) (Runs (cb (base + length ts)).effect) ea eb (AtEnd (λ _ w v. Side base ts s w v)) (effect_stable ts s)
            (ja.by ts s) (jb.by ts s)).by (record u { work = u.work + 14 }) v (paid base ts s 14 u v p);
      };
    }

    pub pick_keeps : CodeKeeps n base (as_truth (pick_does f a b)) (pick_does f a b) (pick_does f ea eb) (λ t. pick_code (cf t) (ca t) (cb t))
    pick_keeps =
        let made = word_code n base (pick_does f a b) (λ t. (pick_code (cf t) (ca t) (cb t)).word) pick_word in
        record { word = made.word; branch = made.branch; effect_too = pick_effect; into = made.into; point = made.point }

  -- one expression behind another
  module _ (e : Does Tree (Unit {0})) (tb : Does Tree Bool) (b : Does Tree ℕ) (eb : Does Tree (Unit {0})) (ca cb : ℕ → Code) (ka : EffectKeeps n base e (λ t. (ca t).effect)) (kb : CodeKeeps n base tb b eb cb) where
    comma_word : WordKeeps n base (comma_does e b) (λ t. (comma_code (ca t) (cb t)).word)
    comma_word = record { by = λ ts s. record { by = λ u v p. (seq n (ka.by ts s) (λ _. kb.word.by ts s)).by (record u { work = u.work + 1 }) v (spared base ts (1 + s) s (record u { work = u.work + 1 }) v (paid base ts s 1 u v p) (omega arith)) } }

    comma_effect : EffectKeeps n base (comma_does e eb) (λ t. (comma_code (ca t) (cb t)).effect)
    comma_effect = record { by = λ ts s. record { by = λ u v p. (seq n (ka.by ts s) (λ _. kb.effect_too.by ts s)).by (record u { work = u.work + 1 }) v (spared base ts (1 + s) s (record u { work = u.work + 1 }) v (paid base ts s 1 u v p) (omega arith)) } }

    comma_point : PointKeeps n base (comma_does e b) (λ t. (comma_code (ca t) (cb t)).point)
    comma_point = record { by = λ ts s. record { by = λ u v p. (seq n (ka.by ts (3 + s)) (λ _. kb.point.by ts s)).by (record u { work = u.work + 1 }) v (spared base ts (1 + (3 + s)) (3 + s) (record u { work = u.work + 1 }) v (paid base ts (3 + s) 1 u v p) (omega arith)) } }

    comma_branch : BranchKeeps n base 6 0 (comma_does e tb) (λ t. (comma_code (ca t) (cb t)).branch)
    comma_branch = record {
      by = λ ts s r le sense hit miss g l q stable kg kl. record {
        by = λ u v p.
            (seq_in n base {f = e} (λ _. tb) (λ t. choose (of_sense sense t) g l) (ka.by ts s) (λ _. kb.branch.by ts s r le sense hit miss g l q stable kg kl)).by (record u { work = u.work + 1 }) v (spared base ts (1 + s) s (record u { work = u.work + 1 }) v (paid base ts s 1 u v p) (omega arith));
      };
    }

    comma_into : IntoKeeps n base (comma_does e b) (λ t m. (comma_code (ca t) (cb t)).into m)
    comma_into = record {
      by = λ m ts s g q sure takes. record {
        by = λ u v p.
            (seq_in n base {f = e} (λ _. b) g (ka.by ts (operand_weight m + s)) (λ _. kb.into.by m ts s g q sure takes)).by (record u { work = u.work + 1 }) v (spared base ts (1 + (operand_weight m + s)) (operand_weight m + s) (record u { work = u.work + 1 }) v (paid base ts (operand_weight m + s) 1 u v p) (omega arith));
      };
    }

    pub comma_keeps : CodeKeeps n base (comma_does e tb) (comma_does e b) (comma_does e eb) (λ t. comma_code (ca t) (cb t))
    comma_keeps = record { word = comma_word; branch = comma_branch; effect_too = comma_effect; into = comma_into; point = comma_point }
