-- Operators on one value. A minus on a converted constant has a plus between, which changes nothing.
use Rattle.std.proofs.Common.{◌≡◌, refl, ℕ, ◌+◌, Bool, true, false, List, sym, subst}
use Rattle.std.specs.Prelude.{◌&&◌, if◌then◌else◌}
use Rattle.word_base.specs.Words.{Good}
use Rattle.c_syntax.specs.declared.operator.UnaryOp.{UnaryOp}
use Rattle.c_syntax.specs.declared.operator.UnaryOp.TheVariants.{Plus}
use Rattle.c_tree.specs.TypedTree.{Kind}
use Rattle.tree_code_proof.specs.Counted as source
use Rattle.c_tree.specs.Store.{Value, Word, Pointer, Null}
use Rattle.tree_code_proof.specs.Counted.{World}
use Rattle.tree_code_proof.specs.Evaluated as evaluation
use Rattle.c_tree.specs.Eval.{points, is_unsigned}
use Rattle.tree_code.specs.WordTree as word
use Rattle.tree_code.specs.WordTree.{ExprCode, Node}
use Rattle.tree_code.specs.Lowered.{is_minus, is_number, lowered_unary}
use Rattle.ir_semantics.specs.Parts.{Does}
use Rattle.ir_semantics.specs.Meanings.{of_one_word}
use Rattle.ir_semantics.specs.TreeRun as run
use Rattle.ir_semantics.specs.TreeRun.{Tree, Addresses}
use Rattle.tree_code_proof.specs.Seats.{Seats}
use Rattle.tree_code_proof.specs.Beside.{Held, Alike}
use Rattle.tree_code_proof.proofs.Growing.{calc_grows, give_grows, bind_grows, ticked}
use Rattle.tree_code_proof.proofs.Rules.{Rel, rel_after}
use Rattle.tree_code_proof.proofs.Reading.{Valued, let_go}
use Rattle.tree_code_proof.proofs.Forms.{Optional, Values, Later, Forms, worked}
use Rattle.tree_code_proof.proofs.Truths.{tree_followed}
use Rattle.tree_code_proof.proofs.Using.{Kept, of_forms}
use Rattle.tree_code_proof.proofs.Binaries.{calculation}
use Rattle.c_tree.proofs.OperatorWords.{given_of, one_few}
use Rattle.tree_code_proof.proofs.Operators.{one_agrees}

module _ (seats : Seats) where
  one_kept : (hs : List Held) (w : World) (t : Tree) → Alike seats hs w t → (at : ℕ) (o : UnaryOp) (k : Kind) (v : Value) (x : ℕ) → Valued seats hs false v x w t
      → Rel (Optional seats hs false) (source.after (evaluation.of_one o k v at w) evaluation.some) (run.calc (of_one_word o x) t)
  one_kept hs w t a at o k (Word b) x s =
      subst (λ i. Rel (Optional seats hs false) (source.after (evaluation.of_one o k (Word i) at w) evaluation.some) (run.calc (of_one_word o x) t)) (sym s.held.0.0)
      (calculation seats hs w t a at (given_of o (is_unsigned k) x) (of_one_word o x) (λ z e. (one_agrees o (is_unsigned k) x z s.held.0.1 e, one_few o (is_unsigned k) x z s.held.0.1 e)))
  one_kept hs w t a at o k (Pointer object i) x s = absurd s.held.0
  one_kept hs w t a at o k Null x s = absurd s.held.0

  unary_kept : {f : source.Does Value} {g : Does Tree ℕ} (o : UnaryOp) (k : Kind) (at : ℕ) → Values seats false f g → Forms seats false (source.ticked 1 (source.◌>>=◌ f (λ v. source.◌>>=◌ (evaluation.of_one o k v at) evaluation.some))) (run.unary_does o g)
  unary_kept {f = f} {g = g} o k at h = record {
    by = λ hs w t a.
        rel_after (Valued seats hs false) (Optional seats hs false) (f (record w { work = w.work + 1 })) (g (record t { work = t.work + 1 })) _ (λ x. run.calc (of_one_word o x)) (h.by hs _ _ (worked seats hs w t _ a)) (λ x. calc_grows (of_one_word o x))
        (λ v x w t s. one_kept hs w t (let_go seats hs _ w t s) at o k v x s);
  }

  -- a plus changes nothing, and counts as the conversion that it stands for
  plus_kept : {f : source.Does Value} {g : Does Tree ℕ} → Later seats false f g → Values seats false f (run.unary_does Plus g)
  plus_kept {f = f} {g = g} h = record {
    by = λ hs w t a.
        tree_followed (Valued seats hs false) (Valued seats hs false) (f w) (g (record t { work = t.work + 1 })) (λ x. run.calc (Good x)) (h.by hs w _ (worked seats hs w t 1 a)) (λ x. give_grows x) (λ v x w t s. s);
    grows = bind_grows (ticked 1 (λ _. h.grows)) (λ x. give_grows x);
  }

  abbrev UnaryKept : run.Calls → Addresses → source.Does Value → UnaryOp → Kind → ℕ → ExprCode → Type 0
  UnaryKept calls addresses f o kind at c =
      Kept seats kind (source.◌>>=◌ (source.ticked 1 (source.◌>>=◌ f (λ v. source.◌>>=◌ (evaluation.of_one o kind v at) evaluation.some))) (evaluation.need at)) (source.ticked 1 (source.◌>>=◌ f (λ v. source.◌>>=◌ (evaluation.of_one o kind v at) evaluation.some))) (run.value calls addresses c)
      (run.decide calls addresses c) (run.effect calls addresses c)

  module _ (calls : run.Calls) (addresses : Addresses) {f : source.Does Value} (o : UnaryOp) (kind : Kind) (is : points kind ≡ false) (at : ℕ) where
    unary_of : (c : ExprCode) → Values seats false f (run.value calls addresses c) → UnaryKept calls addresses f o kind at (Node (word.Unary o c) at)
    unary_of c h = of_forms seats kind false is at (unary_kept o kind at h) (bind_grows (ticked 1 (λ _. h.grows)) (λ x. calc_grows (of_one_word o x)))

    by_plus : (c : ExprCode) (place : ℕ) (b : Bool) → Values seats false f (run.value calls addresses c) → (b ≡ true → Later seats false f (run.value calls addresses c)) → UnaryKept calls addresses f o kind at (if b then Node (word.Unary o (Node (word.Unary Plus c) place)) at else Node (word.Unary o c) at)
    by_plus c place true h later = unary_of (Node (word.Unary Plus c) place) (plus_kept (later refl))
    by_plus c place false h later = unary_of c h

    pub unary_form_kept : (converted : Bool) (c : ExprCode) → Values seats false f (run.value calls addresses c) → (converted ≡ true → Later seats false f (run.value calls addresses c)) → UnaryKept calls addresses f o kind at (lowered_unary o converted c at)
    unary_form_kept converted (Node form place) h later = by_plus (Node form place) place (is_minus o && (converted && is_number form)) h (λ e. later (all_true (is_minus o) converted (is_number form) e))
      where
        all_true : (a b c : Bool) → (a && (b && c)) ≡ true → b ≡ true
        all_true true true c e = refl
        all_true true false c e = e
        all_true false b c e = absurd cc
