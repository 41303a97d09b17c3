-- Tests and truths: a value that isn't zero and isn't null has a word that isn't 0.
use Rattle.std.proofs.Common.{◌≡◌, ℕ, ◌+◌, ◌<◌, Bool, true, false, not, List, ◌∷◌, Option, Some, None, refl, sym, ap, subst, arith}
use Rattle.std.specs.Prelude.{◌==◌}
use Rattle.std.proofs.lemmas.Bool.{eq-eqb, ne_eqb}
use Rattle.word_base.specs.Words.{truth}
use Rattle.word_base.specs.declared.outcome.UndefinedKind.TheVariants.{BadPointer}
use Rattle.c_syntax.specs.declared.operator.BinaryOp.{BinaryOp}
use Rattle.c_tree.specs.TypedTree.{Kind}
use Rattle.c_tree.specs.WellFormed.{is_comparison}
use Rattle.tree_code_proof.specs.Counted as source
use Rattle.c_tree.specs.Store.{Value, Word, Pointer, Null, Obj}
use Rattle.tree_code_proof.specs.Counted.{World}
use Rattle.tree_code_proof.specs.Evaluated as evaluation
use Rattle.c_tree.specs.Store as store
use Rattle.c_tree.specs.Eval as plain
use Rattle.ir_semantics.specs.Parts.{Res, Gives, Finished, TooMany, Fails, Does, after, give}
use Rattle.ir_semantics.specs.TreeRun as run
use Rattle.ir_semantics.specs.TreeRun.{Tree}
use Rattle.tree_code_proof.specs.Seats.{Seats, PointsAt}
use Rattle.tree_code_proof.specs.Beside.{Held, Alike}
use Rattle.tree_code_proof.proofs.Growing.{Grows, behind, give_grows, as_truth_grows}
use Rattle.tree_code_proof.proofs.Rules.{Post, Rel, rel_after}
use Rattle.tree_code_proof.proofs.Pointers.{to_living, never_0}
use Rattle.tree_code_proof.proofs.Reading.{Valued, holding, let_go, failing}
use Rattle.tree_code_proof.proofs.Forms.{Optional, Values, Forms, followed, worked}
use Rattle.tree_code_proof.proofs.Assigning.{both_kept}
use Rattle.tree_code_proof.proofs.Comparing.{lives, asks, of_two_kept}

-- what follows on the side of the word tree alone
pub tree_followed : {A B C : Type 0} (q : Post A B) (r : Post A C) (x : source.Res A) (y : Res Tree B) (g : B → Does Tree C) → Rel q x y → ((b : B) → Grows (g b)) → ((a : A) (b : B) (w : World) (t : Tree) → q a b w t → Rel r (source.Gives a w) (g b t)) → Rel r x (after y g)
tree_followed q r (source.Gives a w) (Gives b t) g e grow next = next a b w t e
tree_followed q r (source.Gives a w) (Finished p o k) g e grow next = absurd e
tree_followed q r (source.Gives a w) (TooMany o) g e grow next = absurd e
tree_followed q r (source.Gives a w) (Fails o) g e grow next = absurd e
tree_followed q r (source.Finished p o most) (Gives b t) g e grow next = absurd e
tree_followed q r (source.Finished p o most) (Finished p2 o2 k) g e grow next = e
tree_followed q r (source.Finished p o most) (TooMany o2) g e grow next = absurd e
tree_followed q r (source.Finished p o most) (Fails o2) g e grow next = absurd e
tree_followed q r (source.TooMany o) (Gives b t) g e grow next = absurd e
tree_followed q r (source.TooMany o) (Finished p o2 k) g e grow next = absurd e
tree_followed q r (source.TooMany o) (TooMany o2) g e grow next = e
tree_followed q r (source.TooMany o) (Fails o2) g e grow next = absurd e
tree_followed q r (source.Fails kind at o) y g e grow next = behind o y g e grow

-- parts in another group
pub regrouped : {A B C D : Type 0} (r : Post C D) (x : source.Res A) (f : A → source.Does B) (g : B → source.Does C) (y : Res Tree D) → Rel r (source.after (source.after x f) g) y → Rel r (source.after x (λ a. source.◌>>=◌ (f a) g)) y
regrouped r (source.Gives a w) f g y e = e
regrouped r (source.Finished p o most) f g y e = e
regrouped r (source.TooMany o) f g y e = e
regrouped r (source.Fails kind at o) f g y e = e

-- the same truth
abbrev pub Same : Seats → List Held → Post Bool Bool
Same seats hs b c w t = (b ≡ c) × Alike seats hs w t

-- a truth that is a value of the typed program
abbrev pub Deciding : Seats → List Held → Post (Option Value) Bool
Deciding seats hs v b w t = Optional seats hs false v (truth b) w t

-- what an expression that is tested keeps, at any place; and a form that gives a truth
pub record Tests (seats : Seats) (f : source.Does Value) (g : Does Tree Bool) : Type 0 where
  pub by : (at : ℕ) (hs : List Held) (w : World) (t : Tree) → Alike seats hs w t → Rel (Same seats hs) (source.after (f w) (λ v. evaluation.test_of v at)) (g t)
  pub grows : Grows g

pub record Decides (seats : Seats) (f : source.Does (Option Value)) (g : Does Tree Bool) : Type 0 where
  pub by : (hs : List Held) (w : World) (t : Tree) → Alike seats hs w t → Rel (Deciding seats hs) (f w) (g t)

module _ (seats : Seats) where
  ask : (hs : List Held) (w : World) (t : Tree) (k i y at : ℕ) (p : Option Obj) → w.store.living k ≡ p → Alike seats hs w t → PointsAt (seats.seat k) i y → Rel (Same seats hs) (source.free (plain.if_living p at (store.give true)) w) (Gives (not (y == 0)) t)
  ask hs w t k i y at None e a p = failing seats hs (Same seats hs) BadPointer at w t (give (not (y == 0))) a (give_grows _)
  ask hs w t k i y at (Some o) e a p =
      let there = to_living seats k i y (seats.seat k) refl (lives seats w.store.made (seats.seat k) (w.store.living k) o t.outside.memory t.frame (a.objects k) e) p in
      (sym (ap not (ne_eqb y 0 (never_0 seats k i y a.seated there))), a)

  -- the test of a value
  pub tested : (hs : List Held) (pointing : Bool) (at : ℕ) (v : Value) (x : ℕ) (w : World) (t : Tree) → Valued seats hs pointing v x w t → Rel (Same seats hs) (evaluation.test_of v at w) (Gives (not (x == 0)) t)
  tested hs false at (Word z) x w t a = (ap (λ k. not (k == 0)) a.held.0.0, let_go seats hs _ w t a)
  tested hs false at (Pointer k i) x w t a = absurd a.held.0
  tested hs false at Null x w t a = absurd a.held.0
  tested hs true at (Word z) x w t a = absurd a.held.0
  tested hs true at (Pointer k i) x w t a = ask hs w t k i x at (w.store.living k) refl (let_go seats hs _ w t a) a.held.0.1.1
  tested hs true at Null x w t a = (sym (ap not (eq-eqb x 0 a.held.0)), let_go seats hs _ w t a)

  -- a value as a truth
  pub value_tested : {pointing : Bool} {f : source.Does Value} {g : Does Tree ℕ} → Values seats pointing f g → Tests seats f (run.as_truth g)
  value_tested {pointing = pointing} {f = f} {g = g} h = record {
    by = λ at hs w t a. rel_after (Valued seats hs pointing) (Same seats hs) (f w) (g t) (λ v. evaluation.test_of v at) _ (h.by hs w t a) (λ x. give_grows _) (tested hs pointing at);
    grows = as_truth_grows h.grows;
  }

  -- a truth as a word
  pub truth_valued : {f : source.Does (Option Value)} {g : Does Tree Bool} → Decides seats f g → Forms seats false f (run.as_word g)
  truth_valued {f = f} {g = g} h = record { by = λ hs w t a. tree_followed (Deciding seats hs) (Optional seats hs false) (f w) (g t) _ (h.by hs w t a) (λ b. give_grows _) (λ v b w t e. e) }

  word_of_truth : (b : Bool) → not (truth b == 0) ≡ b
  word_of_truth true = refl
  word_of_truth false = refl

  truth_asked : (hs : List Held) (at : ℕ) (v : Value) (b : Bool) (w : World) (t : Tree) → Valued seats hs false v (truth b) w t → Rel (Same seats hs) (evaluation.test_of v at w) (Gives b t)
  truth_asked hs at v b w t a = subst (λ c. Rel (Same seats hs) (evaluation.test_of v at w) (Gives c t)) (word_of_truth b) (tested hs false at v (truth b) w t a)

  truth_needed : (hs : List Held) (at place : ℕ) (v : Option Value) (b : Bool) (w : World) (t : Tree) → Deciding seats hs v b w t
      → Rel (Same seats hs) (source.after (evaluation.need place v w) (λ v. evaluation.test_of v at)) (Gives b t)
  truth_needed hs at place None b w t e = absurd e
  truth_needed hs at place (Some v) b w t e = truth_asked hs at v b w t e

  -- a form that gives a truth, where it is tested
  pub truth_tested : {f : source.Does (Option Value)} {g : Does Tree Bool} (place : ℕ) → Decides seats f g → Grows g → Tests seats (source.◌>>=◌ f (evaluation.need place)) g
  truth_tested {f = f} {g = g} place h grow = record {
    by = λ at hs w t a.
        grouped (f w) (evaluation.need place) (λ v. evaluation.test_of v at) (g t) hs
        (followed (Deciding seats hs) (Same seats hs) (f w) (g t) (λ o. source.◌>>=◌ (evaluation.need place o) (λ v. evaluation.test_of v at)) (h.by hs w t a) (truth_needed hs at place));
    grows = grow;
  }
    where
      grouped : (x : source.Res (Option Value)) (m : Option Value → source.Does Value) (n : Value → source.Does Bool) (y : Res Tree Bool) (hs : List Held) → Rel (Same seats hs) (source.after x (λ o. source.◌>>=◌ (m o) n)) y → Rel (Same seats hs) (source.after (source.after x m) n) y
      grouped (source.Gives a w) m n y hs e = e
      grouped (source.Finished p o most) m n y hs e = e
      grouped (source.TooMany o) m n y hs e = e
      grouped (source.Fails kind at o) m n y hs e = e

  -- pointers are compared
  pub compare_kept : {f h : source.Does Value} {g k : Does Tree ℕ} (o : BinaryOp) (m n : Kind) (at : ℕ) → is_comparison o ≡ true → Values seats true f g → Values seats true h k
      → Decides seats (source.ticked 24 (source.◌>>=◌ f (λ v. source.◌>>=◌ h (λ u. source.◌>>=◌ (evaluation.of_two o m n v u at) evaluation.some)))) (run.compare_does (asks o) g k)
  compare_kept o m n at is a b = record {
    by = λ hs w t s.
        both_kept (λ hs. Deciding seats hs) (λ v u. source.◌>>=◌ (evaluation.of_two o m n v u at) evaluation.some) (λ y z. give (asks o y z)) a b (λ y z. give_grows (asks o y z))
        (λ hs v y u z w t s. compared hs v y u z w t s) hs _ _ (worked seats hs w t _ s);
  }
    where
      truth_or_none : (hs : List Held) (c : Bool) (t : Tree) (x : source.Res (Option Value)) → Rel (Optional seats hs false) x (Gives (truth c) t) → Rel (Deciding seats hs) x (Gives c t)
      truth_or_none hs c t (source.Gives v w) e = e
      truth_or_none hs c t (source.Finished p o most) e = absurd e
      truth_or_none hs c t (source.TooMany o) e = absurd e
      truth_or_none hs c t (source.Fails kind at o) e = e

      compared : (hs : List Held) (v : Value) (y : ℕ) (u : Value) (z : ℕ) (w : World) (t : Tree) → Alike seats (record { pointing = true; value = u; word = z } ∷ record { pointing = true; value = v; word = y } ∷ hs) w t
          → Rel (Deciding seats hs) (source.after (evaluation.of_two o m n v u at w) evaluation.some) (Gives (asks o y z) t)
      compared hs v y u z w t s = truth_or_none hs (asks o y z) t _ (of_two_kept seats hs w t (let_go seats hs _ w t (let_go seats _ _ w t s)) at o m n v u y z is s.held.1.0 s.held.0)

  -- not
  pub not_kept : {f : source.Does Value} {g : Does Tree Bool} (at : ℕ) → Tests seats f g
      → Decides seats (source.ticked 10 (source.◌>>=◌ f (λ v. source.◌>>=◌ (evaluation.test_of v at) (λ t. evaluation.some (Word (truth (not t))))))) (run.not_does g)
  not_kept {f = f} {g = g} at h = record {
    by = λ hs w t a.
        regrouped (Deciding seats hs) (f (record w { work = w.work + 10 })) (λ v. evaluation.test_of v at) (λ b. evaluation.some (Word (truth (not b)))) _
        (rel_after (Same seats hs) (Deciding seats hs) _ (g (record t { work = t.work + 10 })) _ (λ c. give (not c)) (h.by at hs _ _ (worked seats hs w t _ a)) (λ c. give_grows (not c)) (inverted hs));
  }
    where
      few : (c : Bool) → truth c < 65536
      few true = omega arith
      few false = omega arith

      inverted : (hs : List Held) (b c : Bool) (w : World) (t : Tree) → Same seats hs b c w t → Deciding seats hs (Some (Word (truth (not b)))) (not c) w t
      inverted hs b c w t e = holding seats hs (record { pointing = false; value = Word (truth (not b)); word = truth (not c) }) w t e.1 (ap (λ x. truth (not x)) e.0, few (not c))
