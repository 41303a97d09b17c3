-- How bodies of functions are left, and the end of `main`.
use Rattle.std.proofs.Common.{◌≡◌, ℕ, ◌+◌, ◌<◌, Bool, true, false, [], Some, refl, sym, ap, ◌∙◌, subst, arith}
use Rattle.std.specs.Prelude.{if◌then◌else◌}
use Rattle.acc_code.specs.AccTree.{Item, Op, If, Loop, Switch, Case, Clear, Call, Helper, Break, Continue, Return, ItemList, end, item, ◌▸◌, ◌⧺◌}
use Rattle.acc_select.specs.Conditions.{number}
use Rattle.acc_select.specs.Selected.{ends_with_return, closed_main}
use Rattle.ir_semantics.specs.Parts.{Res, Gives, Finished, TooMany, Fails, Does, after, give, Flow, Next, Broke, Continued, Returned, in_order}
use Rattle.ir_semantics.specs.TreeRun.{Tree}
use Rattle.ir_semantics.specs.AccRows.{low_half}
use Rattle.ir_semantics.specs.AccRun.{Machine, Context, run_item, run}
use Rattle.acc_select_proof.proofs.Straights.{run_append}
use Rattle.acc_select_proof.proofs.Rules.{Ground, Post, Rel, Keeps, rel_after, in_order_grows, run_grows}
use Rattle.acc_select_proof.proofs.Sides.{Side, went}
pub use Rattle.acc_select_proof.proofs.Flows.{FlowPost}
use Rattle.acc_select_proof.proofs.Valuing.{after_give}

-- the items of `main` return 0 where the tree comes to its end
abbrev pub Leaves : Bool → Flow → Flow → Machine → Type 0
Leaves false a flow v = a ≡ flow
Leaves true Next flow v = (Returned ≡ flow) × (low_half v.registers.acc ≡ Some 0)
Leaves true Broke flow v = Broke ≡ flow
Leaves true Continued flow v = Continued ≡ flow
Leaves true Returned flow v = Returned ≡ flow

pub record ClosedPost (closed : Bool) (base s : ℕ) (a flow : Flow) (w : Tree) (v : Machine) : Type 0 where
  pub leaves : Leaves closed a flow v
  pub side : Side base [] s w v
  pub result : a ≡ Returned → (x : ℕ) → w.result ≡ Some x → (low_half v.registers.acc ≡ Some x) × (x < 65536)

-- what is known besides of two runs
pub rel_also : {A : Type 0} {q r : Post A} (x : Res Tree A) (y : Res Machine Flow) → ((a : A) (flow : Flow) (w : Tree) (v : Machine) → x ≡ Gives a w → y ≡ Gives flow v → q a flow w v → r a flow w v) → Rel q x y → Rel r x y
rel_also (Gives a w) (Gives flow v) k h = k a flow w v refl refl h
rel_also (Gives a w) (Finished p o m) k h = absurd h
rel_also (Gives a w) (TooMany o) k h = absurd h
rel_also (Gives a w) (Fails o) k h = absurd h
rel_also (Finished p o m) (Gives flow v) k h = absurd h
rel_also (Finished p o m) (Finished p2 o2 m2) k h = h
rel_also (Finished p o m) (TooMany o2) k h = absurd h
rel_also (Finished p o m) (Fails o2) k h = absurd h
rel_also (TooMany o) (Gives flow v) k h = absurd h
rel_also (TooMany o) (Finished p o2 m) k h = absurd h
rel_also (TooMany o) (TooMany o2) k h = h
rel_also (TooMany o) (Fails o2) k h = absurd h
rel_also (Fails o) y k h = h

-- items that end with Return don't come to their end
not_last : (x y : Item) (ys : ItemList) → ends_with_return (item x (item y ys)) ≡ ends_with_return (item y ys)
not_last (Op o m) y ys = refl
not_last (If t hit miss) y ys = refl
not_last (Loop before inside third last) y ys = refl
not_last (Switch labels inside) y ys = refl
not_last (Case i) y ys = refl
not_last (Clear o from) y ys = refl
not_last (Call f) y ys = refl
not_last (Helper name) y ys = refl
not_last Break y ys = refl
not_last Continue y ys = refl
not_last Return y ys = refl

alone : (c : Context) (x : Item) → ends_with_return (x ▸ end) ≡ true → (v u : Machine) → run c (x ▸ end) v ≡ Gives Next u → ⊥
alone c (Op o m) e v u r = cc
alone c (If t hit miss) e v u r = cc
alone c (Loop before inside third last) e v u r = cc
alone c (Switch labels inside) e v u r = cc
alone c (Case i) e v u r = cc
alone c (Clear o from) e v u r = cc
alone c (Call f) e v u r = cc
alone c (Helper name) e v u r = cc
alone c Break e v u r = cc
alone c Continue e v u r = cc
alone c Return e v u r = cc

later : (c : Context) (xs : ItemList) (u : Machine) (r : Res Machine Flow) → ((v : Machine) → run c xs v ≡ Gives Next u → ⊥) → after r (λ flow. in_order flow (run c xs)) ≡ Gives Next u → ⊥
later c xs u (Gives Next v) k e = k v e
later c xs u (Gives Broke v) k e = cc
later c xs u (Gives Continued v) k e = cc
later c xs u (Gives Returned v) k e = cc
later c xs u (Finished p o m) k e = cc
later c xs u (TooMany o) k e = cc
later c xs u (Fails o) k e = cc

pub never_next : (c : Context) (xs : ItemList) → ends_with_return xs ≡ true → (v u : Machine) → run c xs v ≡ Gives Next u → ⊥
never_next c end e v u r = cc
never_next c (item x end) e v u r = alone c x e v u r
never_next c (item x (item y ys)) e v u r = later c (item y ys) u (run_item c x v) (λ m. never_next c (item y ys) (sym (not_last x y ys) ∙ e) m u) r

module _ (n : Ground) (base s : ℕ) where
  -- main's items end with Return
  ended : (a flow : Flow) (w : Tree) (v : Machine) → (flow ≡ Next → ⊥) → FlowPost base (5 + s) a flow w v → ClosedPost true base s a flow w v
  ended a flow w v other h = record { leaves = leaves a flow h.same other; side = went base [] (5 + s) s 0 w v v h.side refl refl h.side.sxm (omega arith) (omega arith); result = h.result }
    where
      leaves : (a flow : Flow) → a ≡ flow → (flow ≡ Next → ⊥) → Leaves true a flow v
      leaves Next flow e other = absurd (other (sym e))
      leaves Broke flow e other = e
      leaves Continued flow e other = e
      leaves Returned flow e other = e

  -- or they get one
  appended : (a flow : Flow) (w : Tree) (v : Machine) → FlowPost base (5 + s) a flow w v → Rel (ClosedPost true base s) (give a w) (in_order flow (run n.context (number 0 ⧺ Return ▸ end)) v)
  appended a Next w v h = by a h.same
    where
      by : (a : Flow) → a ≡ Next → Rel (ClosedPost true base s) (give a w) (run n.context (number 0 ⧺ Return ▸ end) v)
      by Next e = record { leaves = (refl, refl); side = went base [] (5 + s) s 5 w v _ h.side refl refl h.side.sxm (omega arith) (omega arith); result = λ e. absurd cc }
      by Broke e = absurd cc
      by Continued e = absurd cc
      by Returned e = absurd cc
  appended a Broke w v h = ended a Broke w v (λ e. cc) h
  appended a Continued w v h = ended a Continued w v (λ e. cc) h
  appended a Returned w v h = ended a Returned w v (λ e. cc) h

  closed_by : (f : Does Tree Flow) (xs : ItemList) (p : Tree → Machine → Type 0) (b : Bool) → ends_with_return xs ≡ b → Keeps n p f xs (FlowPost base (5 + s)) → Keeps n p f (if b then xs else xs ⧺ number 0 ⧺ Return ▸ end) (ClosedPost true base s)
  closed_by f xs p true e k = record {
    by = λ w v h. rel_also (f w) (run n.context xs v) (λ a flow u m x y post. ended a flow u m (λ is. never_next n.context xs e v m (y ∙ ap (λ z. Gives z m) is)) post) (k.by w v h);
  }
  closed_by f xs p false e k = record {
    by = λ w v h.
        subst (Rel (ClosedPost true base s) (f w)) (sym (run_append n.context xs (number 0 ⧺ Return ▸ end) v))
        (subst (λ r. Rel (ClosedPost true base s) r (after (run n.context xs v) (λ flow. in_order flow (run n.context (number 0 ⧺ Return ▸ end))))) (after_give (f w))
        (rel_after (FlowPost base (5 + s)) (ClosedPost true base s) (f w) (run n.context xs v) give (λ flow. in_order flow (run n.context (number 0 ⧺ Return ▸ end))) (k.by w v h)
        (λ flow. in_order_grows flow _ (run_grows n (number 0 ⧺ Return ▸ end))) appended));
  }

  -- the items of a function
  pub closed_keeps : (f : Does Tree Flow) (xs : ItemList) (p : Tree → Machine → Type 0) (closed : Bool) → Keeps n p f xs (FlowPost base (5 + s)) → Keeps n p f (if closed then closed_main xs else xs) (ClosedPost closed base s)
  closed_keeps f xs p true k = closed_by f xs p (ends_with_return xs) refl k
  closed_keeps f xs p false k = record {
    by = λ w v h. rel_also (f w) (run n.context xs v) (λ a flow u m x y post. record { leaves = post.same; side = went base [] (5 + s) s 0 u m m post.side refl refl post.side.sxm (omega arith) (omega arith); result = post.result }) (k.by w v h);
  }
