-- How statements are left: the tree's flow is the machine's. What follows a flow, jumps, returns, and expressions as statements.
use Rattle.std.proofs.Common.{◌≡◌, ℕ, ◌+◌, ◌<◌, ◌≤◌, Bool, true, [], length, Option, Some, None, refl, sym, subst, arith}
use Rattle.acc_code.specs.AccTree.{Break, Continue, Return, ItemList, end, ◌▸◌, ◌⧺◌}
use Rattle.acc_select.specs.acc_operations.Words.{Word, loaded, high}
use Rattle.acc_select.specs.Conditions.{Part, part_items, Branch}
use Rattle.ir_semantics.specs.Parts.{Does, after, ◌>>=◌, give, choose, Flow, Next, Broke, Continued, Returned, in_order}
use Rattle.ir_semantics.specs.TreeRun.{Tree, tick, returning}
use Rattle.ir_semantics.specs.AccRows.{low_half}
use Rattle.ir_semantics.specs.AccRun.{Machine, without_scratch, run}
use Rattle.acc_select_proof.proofs.Straights.{run_append}
use Rattle.acc_select_proof.proofs.Rules.{Ground, Post, Rel, AtEnd, Keeps, seq, followed, rel_after, in_order_grows, run_grows}
use Rattle.acc_select_proof.proofs.Sides.{Side, went, paid, spared, some_is}
use Rattle.acc_select_proof.proofs.Words.{has_low}
use Rattle.acc_select_proof.proofs.Valuing.{Stable, Val, WordKeeps, BranchKeeps, EffectKeeps, loaded_keeps}

module _ (base : ℕ) where
  -- where nothing is left but work to spare
  abbrev pub Onward : {A : Type 0} → ℕ → Post A
  Onward s = AtEnd (λ _ w v. Side base [] s w v)

  pub by_onward : {A B : Type 0} (r : ℕ) (q : Post B) (g : A → Does Tree B) (h : Flow → Does Machine Flow) → ((x : A) (w : Tree) (v : Machine) → Side base [] r w v → Rel q (g x w) (h Next v)) → (x : A) (flow : Flow) (w : Tree) (v : Machine) → Onward r x flow w v → Rel q (g x w) (h flow v)
  by_onward r q g h k x Next w v p = k x w v p
  by_onward r q g h k x Broke w v p = absurd p
  by_onward r q g h k x Continued w v p = absurd p
  by_onward r q g h k x Returned w v p = absurd p

  -- the word to return isn't among what both sides have
  with_result : (s : ℕ) (r : Option ℕ) (w : Tree) (v : Machine) → Side base [] s w v → Side base [] s (record w { result = r }) v
  with_result s r w v h = record { frame = h.frame; scalars = h.scalars; temps = h.temps; outside = h.outside; words = h.words; sxm = h.sxm; work = h.work }

module _ (base : ℕ) where
  -- the tree's flow is the machine's; where it returned a word, that word is the low half of the accumulator
  pub record FlowPost (s : ℕ) (a flow : Flow) (w : Tree) (v : Machine) : Type 0 where
    pub same : a ≡ flow
    pub side : Side base [] s w v
    pub result : a ≡ Returned → (x : ℕ) → w.result ≡ Some x → (low_half v.registers.acc ≡ Some x) × (x < 65536)

  -- what isn't a return has no word
  pub without_word : (s : ℕ) (a : Flow) (w : Tree) (v : Machine) → (a ≡ Returned → ⊥) → Side base [] s w v → FlowPost s a a w v
  without_word s a w v not h = record { same = refl; side = h; result = λ e. absurd (not e) }

  pub flow_stable : (s : ℕ) → Stable (FlowPost s)
  flow_stable s a flow w v p = record { same = p.same; side = went base [] s s 0 w v _ p.side refl refl p.side.sxm (omega arith) (omega arith); result = p.result }

  -- what follows the same flow on both sides
  pub by_flow : {A : Type 0} (r : ℕ) (q : Post A) (g : Flow → Does Tree A) (h : Flow → Does Machine Flow) → ((a : Flow) (w : Tree) (v : Machine) → FlowPost r a a w v → Rel q (g a w) (h a v)) → (a flow : Flow) (w : Tree) (v : Machine) → FlowPost r a flow w v → Rel q (g a w) (h flow v)
  by_flow r q g h k a flow w v p = subst (λ b. Rel q (g a w) (h b v)) p.same (k a w v (record { same = refl; side = p.side; result = p.result }))

  pub flow_spared : (r s : ℕ) → s ≤ r → (a flow : Flow) (w : Tree) (v : Machine) → FlowPost r a flow w v → FlowPost s a flow w v
  flow_spared r s le a flow w v p = record { same = p.same; side = spared base [] r s w v p.side le; result = p.result }

module _ (n : Ground) (base : ℕ) where
  -- a node pays for its part
  pub node : {A : Type 0} {f : Does Tree A} {xs : ItemList} {q : Post A} (k s t : ℕ) → t ≤ k + s → Keeps n (Side base [] t) f xs q → Keeps n (Side base [] s) (tick k >>= λ _. f) xs q
  node k s t le h = record { by = λ w v p. h.by _ v (spared base [] (k + s) t _ v (paid base [] s k w v p) le) }

  -- expressions of which no temporary is in use yet
  here : base + length {A = ℕ} [] ≡ base
  here = omega arith

  pub loaded_here : (f : Does Tree ℕ) (c : ℕ → Word) → WordKeeps n base f c → (s : ℕ) → Keeps n (Side base [] s) f (loaded (c base)) (AtEnd (Val n base (high (c base).found) [] s))
  loaded_here f c k s = subst (λ t. Keeps n (Side base [] s) f (loaded (c t)) (AtEnd (Val n base (high (c t).found) [] s))) here (loaded_keeps n base f c k [] s)

  pub branch_here : {A : Type 0} (f : Does Tree Bool) (c : ℕ → Branch) → BranchKeeps n base 6 0 f c → (s r : ℕ) → r + 6 ≤ s → (hit miss : Part) (g l : Does Tree A) (q : Post A) → Stable q
      → Keeps n (Side base [] r) g (part_items hit) q → Keeps n (Side base [] r) l (part_items miss) q → Keeps n (Side base [] s) (f >>= λ t. choose t g l) (c base true hit miss) q
  branch_here f c k s r le hit miss g l q stable kg kl =
      subst (λ t. Keeps n (Side base [] s) (f >>= λ t. choose t g l) (c t true hit miss) q) here (k.by [] s r (omega (arith, le)) true hit miss g l q stable kg kl)

  pub effect_here : (f : Does Tree (Unit {0})) (xs : ℕ → ItemList) → EffectKeeps n base f xs → (s : ℕ) → Keeps n (Side base [] s) f (xs base) (Onward base s)
  effect_here f xs k s = subst (λ t. Keeps n (Side base [] s) f (xs t) (Onward base s)) here (k.by [] s)

  -- an item that jumps
  jumped : (k s : ℕ) (w : Tree) (v : Machine) → Side base [] (k + s) w v → Side base [] s w (without_scratch (record v { work = v.work + k }))
  jumped k s w v h = went base [] (k + s) s k w v (without_scratch (record v { work = v.work + k })) h refl refl h.sxm (omega arith) (omega arith)

module _ (n : Ground) (base : ℕ) where
  -- one statement behind another
  order_step : (r s : ℕ) → s ≤ r → (g : Does Tree Flow) (ys : ItemList) → Keeps n (Side base [] r) g ys (FlowPost base s) → (a : Flow) (w : Tree) (v : Machine) → FlowPost base r a a w v → Rel (FlowPost base s) (in_order a g w) (in_order a (run n.context ys) v)
  order_step r s le g ys k Next w v p = k.by w v p.side
  order_step r s le g ys k Broke w v p = flow_spared base r s le Broke Broke w v p
  order_step r s le g ys k Continued w v p = flow_spared base r s le Continued Continued w v p
  order_step r s le g ys k Returned w v p = flow_spared base r s le Returned Returned w v p

  pub next : (r s : ℕ) → s ≤ r → (f g : Does Tree Flow) (xs ys : ItemList) → Keeps n (Side base [] r) f xs (FlowPost base r) → Keeps n (Side base [] r) g ys (FlowPost base s)
      → Keeps n (Side base [] r) (f >>= λ flow. in_order flow g) (xs ⧺ ys) (FlowPost base s)
  next r s le f g xs ys kf kg = record {
    by = λ w v h.
        subst (Rel (FlowPost base s) (after (f w) (λ flow. in_order flow g))) (sym (run_append n.context xs ys v))
        (rel_after (FlowPost base r) (FlowPost base s) (f w) (run n.context xs v) (λ flow. in_order flow g) (λ flow. in_order flow (run n.context ys)) (kf.by w v h)
        (λ flow. in_order_grows flow _ (run_grows n ys)) (by_flow base r (FlowPost base s) (λ flow. in_order flow g) (λ flow. in_order flow (run n.context ys)) (order_step r s le g ys kg)));
  }

  pub nothing_keeps : (s : ℕ) → Keeps n (Side base [] s) (give Next) end (FlowPost base s)
  nothing_keeps s = record { by = λ w v h. without_word base s Next w v (λ e. absurd cc) h }

  pub expression_keeps : (f : Does Tree (Unit {0})) (xs : ℕ → ItemList) → EffectKeeps n base f xs → (s : ℕ) → Keeps n (Side base [] s) (tick 1 >>= λ _. f >>= λ _. give Next) (xs base) (FlowPost base s)
  expression_keeps f xs k s = node n base 1 s s (omega arith) (followed n (λ _. give Next) (FlowPost base s) (effect_here n base f xs k s) (λ a w v h. without_word base s Next w v (λ e. absurd cc) h))

  -- jumps
  pub break_keeps : (s : ℕ) → Keeps n (Side base [] s) (tick 2 >>= λ _. give Broke) (Break ▸ end) (FlowPost base s)
  break_keeps s = node n base {f = give Broke} {xs = Break ▸ end} 2 s (2 + s) (omega arith) (record { by = λ w v h. without_word base s Broke w (without_scratch (record v { work = v.work + 2 })) (λ e. absurd cc) (jumped n base 2 s w v h) })

  pub continue_keeps : (s : ℕ) → Keeps n (Side base [] s) (tick 2 >>= λ _. give Continued) (Continue ▸ end) (FlowPost base s)
  continue_keeps s = node n base {f = give Continued} {xs = Continue ▸ end} 2 s (2 + s) (omega arith) (record { by = λ w v h. without_word base s Continued w (without_scratch (record v { work = v.work + 2 })) (λ e. absurd cc) (jumped n base 2 s w v h) })

  pub return_keeps : (s : ℕ) → Keeps n (Side base [] s) (tick 3 >>= λ _. returning None) (Return ▸ end) (FlowPost base s)
  return_keeps s = node n base {f = returning None} {xs = Return ▸ end} 3 s (3 + s) (omega arith) (record {
    by = λ w v h. record { same = refl; side = with_result base s None w (without_scratch (record v { work = v.work + 3 })) (jumped n base 3 s w v h); result = λ e x is. absurd cc };
  })

  pub return_word_keeps : (f : Does Tree ℕ) (c : ℕ → Word) → WordKeeps n base f c → (s : ℕ) → Keeps n (Side base [] s) (tick 3 >>= λ _. f >>= λ x. returning (Some x)) (loaded (c base) ⧺ Return ▸ end) (FlowPost base s)
  return_word_keeps f c k s = node n base 3 s (3 + s) (omega arith) (seq n (loaded_here n base f c k (3 + s)) (λ x. record {
    by = λ w v p. record {
      same = refl;
      side = with_result base s (Some x) w (without_scratch (record v { work = v.work + 3 })) (jumped n base 3 s w v p.side);
      result = λ e y is. subst (λ z. (low_half v.registers.acc ≡ Some z) × (z < 65536)) (some_is is) (has_low (high (c base).found) x v.registers.acc p.word p.has.has, p.word);
    };
  }))
