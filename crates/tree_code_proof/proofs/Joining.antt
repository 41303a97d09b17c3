-- And, or, one of two arms, a comma and a conversion.
use Rattle.std.proofs.Common.{◌≡◌, ℕ, ◌+◌, ◌<◌, Bool, true, false, List, Option, Some, None, refl, ap, arith}
use Rattle.word_base.specs.Words.{truth}
use Rattle.tree_code_proof.specs.Counted as source
use Rattle.c_tree.specs.Store.{Value, Word}
use Rattle.tree_code_proof.specs.Counted.{World}
use Rattle.tree_code_proof.specs.Evaluated as evaluation
use Rattle.ir_semantics.specs.Parts.{Does, choose}
use Rattle.ir_semantics.specs.TreeRun as run
use Rattle.ir_semantics.specs.TreeRun.{Tree}
use Rattle.tree_code_proof.specs.Seats.{Seats}
use Rattle.tree_code_proof.specs.Beside.{Held, Alike}
use Rattle.tree_code_proof.proofs.Growing.{Grows, give_grows, bind_grows, ticked, choose_grows}
use Rattle.tree_code_proof.proofs.Rules.{Post, Rel, rel_after}
use Rattle.tree_code_proof.proofs.Reading.{Valued, holding, let_go}
use Rattle.tree_code_proof.proofs.Forms.{Optional, Values, Forms, some_kept, followed, worked, worked_alone}
use Rattle.tree_code_proof.proofs.Truths.{Same, Deciding, Tests, Decides, regrouped, tree_followed}

-- what an expression keeps whose value isn't used
abbrev pub Nothing : Seats → List Held → Post (Option Value) (Unit {0})
Nothing seats hs v b w t = Alike seats hs w t

pub record Effects (seats : Seats) (f : source.Does (Option Value)) (g : Does Tree (Unit {0})) : Type 0 where
  pub by : (hs : List Held) (w : World) (t : Tree) → Alike seats hs w t → Rel (Nothing seats hs) (f w) (g t)
  pub grows : Grows g

module _ (seats : Seats) where
  few : (c : Bool) → truth c < 65536
  few true = omega arith
  few false = omega arith

  pub same_truth : (hs : List Held) (b c : Bool) (w : World) (t : Tree) → Same seats hs b c w t → Deciding seats hs (Some (Word (truth b))) c w t
  same_truth hs b c w t e = holding seats hs (record { pointing = false; value = Word (truth b); word = truth c }) w t e.1 (ap truth e.0, few c)

  pub chosen : {A B : Type 0} (q : Post A B) (b c : Bool) (f h : source.Does A) (g k : Does Tree B) (w : World) (t : Tree) → b ≡ c → Rel q (f w) (g t) → Rel q (h w) (k t) → Rel q (evaluation.choose b f h w) (choose c g k t)
  chosen q true true f h g k w t e x y = x
  chosen q true false f h g k w t e x y = absurd (true_false e)
    where
      true_false : true ≡ false → ⊥
      true_false e = cc
  chosen q false true f h g k w t e x y = absurd (false_true e)
    where
      false_true : false ≡ true → ⊥
      false_true e = cc
  chosen q false false f h g k w t e x y = y

  -- the second operand of an and or an or
  second : {f : source.Does Value} {g : Does Tree Bool} (at : ℕ) → Tests seats f g → (hs : List Held) (w : World) (t : Tree) → Alike seats hs w t
      → Rel (Deciding seats hs) (source.after (f w) (λ v. source.◌>>=◌ (evaluation.test_of v at) (λ u. evaluation.some (Word (truth u))))) (g t)
  second {f = f} {g = g} at h hs w t a =
      regrouped (Deciding seats hs) (f w) (λ v. evaluation.test_of v at) (λ u. evaluation.some (Word (truth u))) (g t)
      (followed (Same seats hs) (Deciding seats hs) _ (g t) (λ u. evaluation.some (Word (truth u))) (h.by at hs w t a) (same_truth hs))

  pub and_kept : {f h : source.Does Value} {g k : Does Tree Bool} (at : ℕ) → Tests seats f g → Tests seats h k
      → Decides seats (source.ticked 20 (source.◌>>=◌ f (λ v. source.◌>>=◌ (evaluation.test_of v at) (λ t. evaluation.choose t (source.◌>>=◌ h (λ v. source.◌>>=◌ (evaluation.test_of v at) (λ u. evaluation.some (Word (truth u))))) (evaluation.some (Word 0)))))) (run.and_does g k)
  and_kept {f = f} {g = g} at a b = record {
    by = λ hs w t s.
        regrouped (Deciding seats hs) (f (record w { work = w.work + 20 })) (λ v. evaluation.test_of v at) _ _
        (rel_after (Same seats hs) (Deciding seats hs) _ (g (record t { work = t.work + 20 })) _ _ (a.by at hs _ _ (worked seats hs w t _ s)) (λ c. choose_grows c b.grows (give_grows false))
        (λ x y w t e. chosen (Deciding seats hs) x y _ _ _ _ w t e.0 (second at b hs w t e.1) (same_truth hs false false w t (refl, e.1))));
  }

  pub or_kept : {f h : source.Does Value} {g k : Does Tree Bool} (at : ℕ) → Tests seats f g → Tests seats h k
      → Decides seats (source.ticked 20 (source.◌>>=◌ f (λ v. source.◌>>=◌ (evaluation.test_of v at) (λ t. evaluation.choose t (evaluation.some (Word 1)) (source.◌>>=◌ h (λ v. source.◌>>=◌ (evaluation.test_of v at) (λ u. evaluation.some (Word (truth u))))))))) (run.or_does g k)
  or_kept {f = f} {g = g} at a b = record {
    by = λ hs w t s.
        regrouped (Deciding seats hs) (f (record w { work = w.work + 20 })) (λ v. evaluation.test_of v at) _ _
        (rel_after (Same seats hs) (Deciding seats hs) _ (g (record t { work = t.work + 20 })) _ _ (a.by at hs _ _ (worked seats hs w t _ s)) (λ c. choose_grows c (give_grows true) b.grows)
        (λ x y w t e. chosen (Deciding seats hs) x y _ _ _ _ w t e.0 (same_truth hs true true w t (refl, e.1)) (second at b hs w t e.1)));
  }

  -- one of two arms, whose value is used or isn't
  pub pick_kept : {pointing : Bool} {f h l : source.Does Value} {g : Does Tree Bool} {k m : Does Tree ℕ} (at : ℕ) → Tests seats f g → Values seats pointing h k → Values seats pointing l m
      → Values seats pointing (source.ticked 14 (source.◌>>=◌ f (λ v. source.◌>>=◌ (evaluation.test_of v at) (λ t. evaluation.choose t h l)))) (run.pick_does g k m)
  pick_kept {pointing = pointing} {f = f} {g = g} at c a b = record {
    by = λ hs w t s.
        regrouped (Valued seats hs pointing) (f (record w { work = w.work + 14 })) (λ v. evaluation.test_of v at) _ _
        (rel_after (Same seats hs) (Valued seats hs pointing) _ (g (record t { work = t.work + 14 })) _ _ (c.by at hs _ _ (worked seats hs w t _ s)) (λ u. choose_grows u a.grows b.grows)
        (λ x y w t e. chosen (Valued seats hs pointing) x y _ _ _ _ w t e.0 (a.by hs w t e.1) (b.by hs w t e.1)));
    grows = bind_grows (ticked 14 (λ _. c.grows)) (λ u. choose_grows u a.grows b.grows);
  }

  pub pick_unused : {f : source.Does Value} {h l : source.Does (Option Value)} {g : Does Tree Bool} {k m : Does Tree (Unit {0})} (at : ℕ) → Tests seats f g → Effects seats h k → Effects seats l m
      → Effects seats (source.ticked 14 (source.◌>>=◌ f (λ v. source.◌>>=◌ (evaluation.test_of v at) (λ t. evaluation.choose t h l)))) (run.pick_does g k m)
  pick_unused {f = f} {g = g} at c a b = record {
    by = λ hs w t s.
        regrouped (Nothing seats hs) (f (record w { work = w.work + 14 })) (λ v. evaluation.test_of v at) _ _
        (rel_after (Same seats hs) (Nothing seats hs) _ (g (record t { work = t.work + 14 })) _ _ (c.by at hs _ _ (worked seats hs w t _ s)) (λ u. choose_grows u a.grows b.grows)
        (λ x y w t e. chosen (Nothing seats hs) x y _ _ _ _ w t e.0 (a.by hs w t e.1) (b.by hs w t e.1)));
    grows = bind_grows (ticked 14 (λ _. c.grows)) (λ u. choose_grows u a.grows b.grows);
  }

  -- a comma
  pub comma_kept : {pointing : Bool} {f : source.Does (Option Value)} {h : source.Does Value} {g : Does Tree (Unit {0})} {k : Does Tree ℕ} → Effects seats f g → Values seats pointing h k → Values seats pointing (source.ticked 1 (source.◌>>=◌ f (λ _. h))) (run.comma_does g k)
  comma_kept {pointing = pointing} {f = f} {g = g} a b = record {
    by = λ hs w t s. rel_after (Nothing seats hs) (Valued seats hs pointing) (f (record w { work = w.work + 1 })) (g (record t { work = t.work + 1 })) _ _ (a.by hs _ _ (worked seats hs w t _ s)) (λ _. b.grows) (λ v u w t e. b.by hs w t e);
    grows = bind_grows (ticked 1 (λ _. a.grows)) (λ _. b.grows);
  }

  pub comma_unused : {f h : source.Does (Option Value)} {g k : Does Tree (Unit {0})} → Effects seats f g → Effects seats h k → Effects seats (source.ticked 1 (source.◌>>=◌ f (λ _. h))) (run.comma_does g k)
  comma_unused {f = f} {g = g} a b = record {
    by = λ hs w t s. rel_after (Nothing seats hs) (Nothing seats hs) (f (record w { work = w.work + 1 })) (g (record t { work = t.work + 1 })) _ _ (a.by hs _ _ (worked seats hs w t _ s)) (λ _. b.grows) (λ v u w t e. b.by hs w t e);
    grows = bind_grows (ticked 1 (λ _. a.grows)) (λ _. b.grows);
  }

  -- a form whose value isn't used
  unheld : (hs : List Held) (pointing : Bool) (v : Option Value) (x : ℕ) (w : World) (t : Tree) → Optional seats hs pointing v x w t → Alike seats hs w t
  unheld hs pointing None x w t e = absurd e
  unheld hs pointing (Some v) x w t e = let_go seats hs _ w t e

  pub unused : {pointing : Bool} {f : source.Does (Option Value)} {g : Does Tree ℕ} → Forms seats pointing f g → Grows g → Effects seats f (run.as_nothing g)
  unused {pointing = pointing} {f = f} {g = g} h grow = record {
    by = λ hs w t a. tree_followed (Optional seats hs pointing) (Nothing seats hs) (f w) (g t) _ (h.by hs w t a) (λ x. give_grows _) (λ v x w t e. unheld hs pointing v x w t e);
    grows = bind_grows grow (λ x. give_grows _);
  }

  -- a value of another type, which is the same word
  pub convert_kept : {pointing : Bool} {f : source.Does Value} {g : Does Tree ℕ} → Values seats pointing f g → Forms seats pointing (source.ticked 1 (source.◌>>=◌ f evaluation.some)) g
  convert_kept {pointing = pointing} {f = f} {g = g} h = record { by = λ hs w t a. some_kept seats hs pointing (f (record w { work = w.work + 1 })) (g t) (h.by hs _ t (worked_alone seats hs w t 1 a)) }
