-- One of two arms, a comma and a conversion, in each of their uses.
use Rattle.std.proofs.Common.{◌≡◌, ℕ, ◌+◌, Bool, true, false, Option, None, sym, subst}
use Rattle.word_base.specs.declared.outcome.UndefinedKind.TheVariants.{NoValue}
use Rattle.c_tree.specs.Kinds.{IsValue}
use Rattle.c_tree.specs.TypedTree.{Kind}
use Rattle.tree_code_proof.specs.Counted as source
use Rattle.c_tree.specs.Store.{Value}
use Rattle.tree_code_proof.specs.Counted.{World}
use Rattle.tree_code_proof.specs.Evaluated as evaluation
use Rattle.c_tree.specs.Eval.{points}
use Rattle.ir_semantics.specs.Parts.{Res, Does, give, choose}
use Rattle.ir_semantics.specs.TreeRun as run
use Rattle.ir_semantics.specs.TreeRun.{Tree}
use Rattle.tree_code_proof.specs.Seats.{Seats}
use Rattle.tree_code_proof.proofs.Growing.{Grows, bind_grows, ticked, choose_grows, give_grows}
use Rattle.tree_code_proof.proofs.Rules.{Post, Rel, rel_after, rel_weaker}
use Rattle.tree_code_proof.proofs.Reading.{Valued, failing}
use Rattle.tree_code_proof.proofs.Forms.{Optional, Values, Later, followed, needed, some_kept, used, worked, worked_alone}
use Rattle.tree_code_proof.proofs.Truths.{Same, Tests, regrouped, value_tested}
use Rattle.tree_code_proof.proofs.Joining.{Nothing, Effects, chosen, pick_kept, pick_unused, comma_kept, comma_unused, convert_kept}
use Rattle.tree_code_proof.proofs.Using.{Kept, Dropped, Drops, Never, Loses, grouped, loses}

-- a test, one of two arms, and what follows
arms_followed : {A B C D E : Type 0} (r : Post D E) (x : source.Res A) (test : A → source.Does B) (arm : B → source.Does C) (g : C → source.Does D) (y : Res Tree E)
    → Rel r (source.after (source.after x test) (λ t. source.◌>>=◌ (arm t) g)) y → Rel r (source.after (source.after x (λ v. source.◌>>=◌ (test v) arm)) g) y
arms_followed r (source.Gives a w) test arm g y e = grouped r (test a w) arm g y e
arms_followed r (source.Finished p o most) test arm g y e = e
arms_followed r (source.TooMany o) test arm g y e = e
arms_followed r (source.Fails kind at o) test arm g y e = e

module _ (seats : Seats) where
  arm_chosen : {A B C : Type 0} (q : Post C B) (b c : Bool) (f h : source.Does A) (n : A → source.Does C) (g k : Does Tree B) (w : World) (t : Tree) → b ≡ c → Rel q (source.after (f w) n) (g t) → Rel q (source.after (h w) n) (k t)
      → Rel q (source.after (evaluation.choose b f h w) n) (choose c g k t)
  arm_chosen q true true f h n g k w t e x y = x
  arm_chosen q true false f h n g k w t e x y = absurd cc
  arm_chosen q false true f h n g k w t e x y = absurd cc
  arm_chosen q false false f h n g k w t e x y = y

  module _ {f : source.Does Value} {g : Does Tree Bool} (at : ℕ) (c : Tests seats f g) where
    pick_lost : {h l : source.Does (Option Value)} {k m : Does Tree ℕ} → Grows k → Grows m → Loses seats h k → Loses seats l m → Loses seats (source.ticked 14 (source.◌>>=◌ f (λ v. source.◌>>=◌ (evaluation.test_of v at) (λ t. evaluation.choose t h l)))) (run.pick_does g k m)
    pick_lost p q a b = record {
      by = λ fault hs w t s.
          arms_followed Never (f (record w { work = w.work + 14 })) (λ v. evaluation.test_of v at) _ _ _
          (rel_after (Same seats hs) Never _ (g (record t { work = t.work + 14 })) _ _ (c.by at hs _ _ (worked seats hs w t _ s)) (λ u. choose_grows u p q)
          (λ x y w t e. arm_chosen Never x y _ _ _ _ _ w t e.0 (a.by fault hs w t e.1) (b.by fault hs w t e.1)));
    }

    pick_dropped : {h l : source.Does Value} {k m : Does Tree (Unit {0})} → Grows k → Grows m → Drops seats h k → Drops seats l m → Drops seats (source.ticked 14 (source.◌>>=◌ f (λ v. source.◌>>=◌ (evaluation.test_of v at) (λ t. evaluation.choose t h l)))) (run.pick_does g k m)
    pick_dropped p q a b = record {
      by = λ hs w t s.
          regrouped (Dropped seats hs) (f (record w { work = w.work + 14 })) (λ v. evaluation.test_of v at) _ _
          (rel_after (Same seats hs) (Dropped seats hs) _ (g (record t { work = t.work + 14 })) _ _ (c.by at hs _ _ (worked seats hs w t _ s)) (λ u. choose_grows u p q)
          (λ x y w t e. chosen seats (Dropped seats hs) x y _ _ _ _ w t e.0 (a.by hs w t e.1) (b.by hs w t e.1)));
    }

    pub pick_form_kept : {h l : source.Does Value} {he le : source.Does (Option Value)} {hv lv : Does Tree ℕ} {ht lt : Does Tree Bool} {hn ln : Does Tree (Unit {0})} (j k kind : Kind) → j ≡ kind → k ≡ kind → Kept seats j h he hv ht hn → Kept seats k l le lv lt ln
        → Kept seats kind (source.ticked 14 (source.◌>>=◌ f (λ v. source.◌>>=◌ (evaluation.test_of v at) (λ t. evaluation.choose t h l)))) (source.ticked 14 (source.◌>>=◌ f (λ v. source.◌>>=◌ (evaluation.test_of v at) (λ t. evaluation.choose t he le)))) (run.pick_does g hv lv)
        (run.as_truth (run.pick_does g hv lv)) (run.pick_does g hn ln)
    pick_form_kept {h = h} {l = l} {hv = hv} {lv = lv} j k kind p q a b =
        let both = pick_kept seats at c (subst (λ i. Values seats (points i) h hv) p a.valued) (subst (λ i. Values seats (points i) l lv) q b.valued) in
        record {
          valued = both;
          tested = λ there. value_tested seats both;
          effect = pick_unused seats at c a.effect b.effect;
          dropped = pick_dropped a.effect.grows b.effect.grows a.dropped b.dropped;
          lost = pick_lost a.valued.grows b.valued.grows a.lost b.lost;
        }

  module _ {f : source.Does (Option Value)} {g : Does Tree (Unit {0})} (a : Effects seats f g) where
    comma_lost : {h : source.Does (Option Value)} {k : Does Tree ℕ} → Grows k → Loses seats h k → Loses seats (source.ticked 1 (source.◌>>=◌ f (λ _. h))) (run.comma_does g k)
    comma_lost grow b = record {
      by = λ fault hs w t s.
          grouped Never (f (record w { work = w.work + 1 })) _ _ _ (rel_after (Nothing seats hs) Never (f (record w { work = w.work + 1 })) (g (record t { work = t.work + 1 })) _ _ (a.by hs _ _ (worked seats hs w t _ s)) (λ _. grow) (λ v u w t e. b.by fault hs w t e));
    }

    comma_dropped : {h : source.Does Value} {k : Does Tree (Unit {0})} → Grows k → Drops seats h k → Drops seats (source.ticked 1 (source.◌>>=◌ f (λ _. h))) (run.comma_does g k)
    comma_dropped grow b = record { by = λ hs w t s. rel_after (Nothing seats hs) (Dropped seats hs) (f (record w { work = w.work + 1 })) (g (record t { work = t.work + 1 })) _ _ (a.by hs _ _ (worked seats hs w t _ s)) (λ _. grow) (λ v u w t e. b.by hs w t e) }

    comma_tested : {h : source.Does Value} {k : Does Tree Bool} → Tests seats h k → Tests seats (source.ticked 1 (source.◌>>=◌ f (λ _. h))) (run.comma_does g k)
    comma_tested b = record {
      by = λ at hs w t s.
          grouped (Same seats hs) (f (record w { work = w.work + 1 })) _ _ _ (rel_after (Nothing seats hs) (Same seats hs) (f (record w { work = w.work + 1 })) (g (record t { work = t.work + 1 })) _ _ (a.by hs _ _ (worked seats hs w t _ s)) (λ _. b.grows) (λ v u w t e. b.by at hs w t e));
      grows = bind_grows (ticked 1 (λ _. a.grows)) (λ _. b.grows);
    }

    pub comma_form_kept : {h : source.Does Value} {he : source.Does (Option Value)} {hv : Does Tree ℕ} {ht : Does Tree Bool} {hn : Does Tree (Unit {0})} (k kind : Kind) → k ≡ kind → Kept seats k h he hv ht hn
        → Kept seats kind (source.ticked 1 (source.◌>>=◌ f (λ _. h))) (source.ticked 1 (source.◌>>=◌ f (λ _. he))) (run.comma_does g hv) (run.comma_does g ht) (run.comma_does g hn)
    comma_form_kept {h = h} {hv = hv} k kind p b = record {
      valued = comma_kept seats a (subst (λ i. Values seats (points i) h hv) p b.valued);
      tested = λ there. comma_tested (b.tested (subst IsValue (sym p) there));
      effect = comma_unused seats a b.effect;
      dropped = comma_dropped b.effect.grows b.dropped;
      lost = comma_lost b.valued.grows b.lost;
    }

  -- what is converted to no type
  no_value : (r : Post Value ℕ) (at : ℕ) (x : source.Res (Option Value)) (y : Res Tree ℕ) → Rel r (source.after x (λ o. source.fail NoValue at)) y → Rel r (source.after (source.after x (λ _. source.give None)) (evaluation.need at)) y
  no_value r at (source.Gives a w) y e = e
  no_value r at (source.Finished p o most) y e = e
  no_value r at (source.TooMany o) y e = e
  no_value r at (source.Fails kind fault o) y e = e

  no_value_dropped : (r : Post Value (Unit {0})) (at : ℕ) (x : source.Res (Option Value)) (y : Res Tree (Unit {0})) → Rel r (source.after x (λ o. source.fail NoValue at)) y → Rel r (source.after (source.after x (λ _. source.give None)) (evaluation.need at)) y
  no_value_dropped r at (source.Gives a w) y e = e
  no_value_dropped r at (source.Finished p o most) y e = e
  no_value_dropped r at (source.TooMany o) y e = e
  no_value_dropped r at (source.Fails kind fault o) y e = e

  pub convert_away : {f : source.Does Value} {fe : source.Does (Option Value)} {fv : Does Tree ℕ} {ft : Does Tree Bool} {fn : Does Tree (Unit {0})} (k : Kind) (at : ℕ) → Kept seats k f fe fv ft fn
      → Kept seats None (source.◌>>=◌ (source.ticked 1 (source.◌>>=◌ fe (λ _. source.give None))) (evaluation.need at)) (source.ticked 1 (source.◌>>=◌ fe (λ _. source.give None))) fv ft fn
  convert_away {fe = fe} {fv = fv} {fn = fn} k at a = record {
    valued = record { by = λ hs w t s. no_value (Valued seats hs false) at (fe (record w { work = w.work + 1 })) (fv t) (rel_weaker (λ v x w t e. absurd e) (source.after (fe (record w { work = w.work + 1 })) (λ o. source.fail NoValue at)) (fv t) (a.lost.by at hs _ t (worked_alone seats hs w t 1 s))); grows = a.valued.grows };
    tested = λ there. absurd there;
    effect = record { by = λ hs w t s. followed (Nothing seats hs) (Nothing seats hs) (fe (record w { work = w.work + 1 })) (fn t) (λ _. source.give None) (a.effect.by hs _ t (worked_alone seats hs w t 1 s)) (λ v u w t e. e); grows = a.effect.grows };
    dropped = record {
      by = λ hs w t s.
          no_value_dropped (Dropped seats hs) at (fe (record w { work = w.work + 1 })) (fn t)
          (followed (Nothing seats hs) (Dropped seats hs) (fe (record w { work = w.work + 1 })) (fn t) (λ o. source.fail NoValue at) (a.effect.by hs _ t (worked_alone seats hs w t 1 s)) (λ v u w t e. failing seats hs (Dropped seats hs) NoValue at w t (give u) e (give_grows u)));
    };
    lost = record { by = λ fault hs w t s. grouped Never (fe (record w { work = w.work + 1 })) (λ _. source.give None) (λ o. source.fail NoValue fault) (fv t) (a.lost.by fault hs _ t (worked_alone seats hs w t 1 s)) };
  }

  -- a value of another type
  kept_value : {B D : Type 0} (r : Post B D) (at : ℕ) (x : source.Res Value) (g : Value → source.Does B) (y : Res Tree D) → Rel r (source.after x g) y → Rel r (source.after (source.after (source.after x evaluation.some) (evaluation.need at)) g) y
  kept_value r at (source.Gives a w) g y e = e
  kept_value r at (source.Finished p o most) g y e = e
  kept_value r at (source.TooMany o) g y e = e
  kept_value r at (source.Fails kind fault o) g y e = e

  value_again : {D : Type 0} (r : Post Value D) (at : ℕ) (x : source.Res Value) (y : Res Tree D) → Rel r x y → Rel r (source.after (source.after x evaluation.some) (evaluation.need at)) y
  value_again r at (source.Gives a w) y e = e
  value_again r at (source.Finished p o most) y e = e
  value_again r at (source.TooMany o) y e = e
  value_again r at (source.Fails kind fault o) y e = e

  -- either counts before its operand
  pub convert_away_later : {f : source.Does Value} {fe : source.Does (Option Value)} {fv : Does Tree ℕ} {ft : Does Tree Bool} {fn : Does Tree (Unit {0})} (k : Kind) (at : ℕ) → Kept seats k f fe fv ft fn
      → Later seats false (source.◌>>=◌ (source.ticked 1 (source.◌>>=◌ fe (λ _. source.give None))) (evaluation.need at)) fv
  convert_away_later {fe = fe} {fv = fv} k at a = record {
    by = λ hs w t s. no_value (Valued seats hs false) at (fe (record w { work = w.work + 1 })) (fv t) (rel_weaker (λ v x w t e. absurd e) (source.after (fe (record w { work = w.work + 1 })) (λ o. source.fail NoValue at)) (fv t) (a.lost.by at hs _ t s));
    grows = a.valued.grows;
  }

  pub convert_later : {f : source.Does Value} {fv : Does Tree ℕ} (pointing : Bool) (at : ℕ) → Values seats pointing f fv → Later seats pointing (source.◌>>=◌ (source.ticked 1 (source.◌>>=◌ f evaluation.some)) (evaluation.need at)) fv
  convert_later {f = f} {fv = fv} pointing at a = record {
    by = λ hs w t s. followed (Optional seats hs pointing) (Valued seats hs pointing) _ (fv t) (evaluation.need at) (some_kept seats hs pointing (f (record w { work = w.work + 1 })) (fv t) (a.by hs _ t s)) (needed seats hs pointing at);
    grows = a.grows;
  }

  pub convert_to : {f : source.Does Value} {fe : source.Does (Option Value)} {fv : Does Tree ℕ} {ft : Does Tree Bool} {fn : Does Tree (Unit {0})} (k kind : Kind) (at : ℕ) → points k ≡ points kind → (IsValue kind → IsValue k) → Kept seats k f fe fv ft fn
      → Kept seats kind (source.◌>>=◌ (source.ticked 1 (source.◌>>=◌ f evaluation.some)) (evaluation.need at)) (source.ticked 1 (source.◌>>=◌ f evaluation.some)) fv ft fn
  convert_to {f = f} {fv = fv} {ft = ft} {fn = fn} k kind at is there a =
      let value : Values seats (points kind) f fv = subst (λ b. Values seats b f fv) is a.valued in
      record {
        valued = used at (convert_kept seats value) a.valued.grows;
        tested = λ valued. record { by = λ place hs w t s. kept_value (Same seats hs) at (f (record w { work = w.work + 1 })) (λ v. evaluation.test_of v place) (ft t) ((a.tested (there valued)).by place hs _ t (worked_alone seats hs w t 1 s)); grows = (a.tested (there valued)).grows };
        effect = record { by = λ hs w t s. followed (Dropped seats hs) (Nothing seats hs) (f (record w { work = w.work + 1 })) (fn t) evaluation.some (a.dropped.by hs _ t (worked_alone seats hs w t 1 s)) (λ v u w t e. e); grows = a.effect.grows };
        dropped = record { by = λ hs w t s. value_again (Dropped seats hs) at (f (record w { work = w.work + 1 })) (fn t) (a.dropped.by hs _ t (worked_alone seats hs w t 1 s)) };
        lost = loses seats (points kind) (convert_kept seats value);
      }
