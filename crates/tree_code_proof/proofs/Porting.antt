-- A word that a port gives, and one that it takes.
use Rattle.std.proofs.Common.{◌≡◌, ℕ, suc, ◌+◌, ◌<◌, Bool, true, false, List, [], ◌∷◌, ◌++◌, Option, Some, None, refl, sym, ap, subst, arith}
use Rattle.std.specs.Prelude.{All, ◌==◌, cond}
use Rattle.word_base.specs.Ports.{Input, IsInput}
use Rattle.word_base.specs.declared.outcome.UndefinedKind.TheVariants.{NoValue}
use Rattle.c_tree.specs.Kinds.{IsValue}
use Rattle.c_tree.specs.TypedTree.{Kind}
use Rattle.tree_code_proof.specs.Counted as source
use Rattle.c_tree.specs.Store.{Value, Word, Pointer, Null}
use Rattle.tree_code_proof.specs.Counted.{World}
use Rattle.tree_code_proof.specs.Evaluated as evaluation
use Rattle.c_tree.specs.Eval.{points}
use Rattle.ir_semantics.specs.Parts.{Does, ◌>>=◌}
use Rattle.ir_semantics.specs.Outside.{with_input, with_output}
use Rattle.ir_semantics.specs.TreeRun as run
use Rattle.ir_semantics.specs.TreeRun.{Tree}
use Rattle.tree_code_proof.specs.Seats.{Seats}
use Rattle.tree_code_proof.specs.Beside.{Held, Alike}
use Rattle.tree_code_proof.proofs.Growing.{Grows, fail_grows, bind_grows, ticked, take_grows, put_grows}
use Rattle.tree_code_proof.proofs.Rules.{Post, Rel, rel_after, rel_weaker}
use Rattle.tree_code_proof.proofs.Reading.{Valued, holding, let_go, failing}
use Rattle.tree_code_proof.proofs.Forms.{Optional, Values, Forms, worked}
use Rattle.tree_code_proof.proofs.Joining.{Nothing, Effects}
use Rattle.tree_code_proof.proofs.Using.{Kept, drops, loses_value}

-- the words that are left of an input are words
left_by : (input : Input) (port x : ℕ) (xs : List ℕ) → IsInput input → input port ≡ x ∷ xs → (q : ℕ) (b : Bool) → (q == port) ≡ b → All (λ w. w < 65536) (cond b xs (input q))
left_by input port x xs h is q true e = λ k d lt. (subst (All (λ w. w < 65536)) is (h port)) (suc k) d (omega (arith, lt))
left_by input port x xs h is q false e = h q

input_left : (input : Input) (port x : ℕ) (xs : List ℕ) → IsInput input → input port ≡ x ∷ xs → IsInput (λ q. cond (q == port) xs (input q))
input_left input port x xs h is = λ q. left_by input port x xs h is q (q == port) refl

first_word : (input : Input) (port x : ℕ) (xs : List ℕ) → IsInput input → input port ≡ x ∷ xs → x < 65536
first_word input port x xs h is = (subst (All (λ w. w < 65536)) is (h port)) 0 0 (omega arith)

module _ (seats : Seats) where
  took : (hs : List Held) (w : World) (t : Tree) → Alike seats hs w t → (port x : ℕ) (xs : List ℕ) → w.input port ≡ x ∷ xs → Alike seats hs (record w { input = λ q. cond (q == port) xs (w.input q) }) (record t { outside = with_input port xs t.outside })
  took hs w t a port x xs is = record {
    seated = a.seated;
    rooms = a.rooms;
    least = a.least;
    unmade = a.unmade;
    kinds = a.kinds;
    objects = a.objects;
    held = a.held;
    input = ap (λ i q. cond (q == port) xs (i q)) a.input;
    words = input_left w.input port x xs a.words is;
    outs = a.outs;
    work = a.work;
  }

  taken_kept : (hs : List Held) (w : World) (t : Tree) → Alike seats hs w t → (port : ℕ) (xs : List ℕ) → w.input port ≡ xs → Rel (Optional seats hs false) (source.after (source.taken xs port w) evaluation.some) (run.taken xs port t)
  taken_kept hs w t a port [] is = (refl, (sym a.outs, a.work))
  taken_kept hs w t a port (x ∷ xs) is = holding seats hs (record { pointing = false; value = Word x; word = x }) _ _ (took hs w t a port x xs is) (refl, first_word w.input port x xs a.words is)

  pub in_kept : (port : ℕ) → Forms seats false (source.ticked 4 (source.◌>>=◌ (source.take_word port) evaluation.some)) (run.in_does port)
  in_kept port = record {
    by = λ hs w t a.
        let s = worked seats hs w t 4 a in
        subst (λ i. Rel (Optional seats hs false) (source.after (source.taken (w.input port) port (record w { work = w.work + 4 })) evaluation.some) (run.taken (i port) port (record t { work = t.work + 4 }))) (sym a.input) (taken_kept hs _ _ s port (w.input port) refl);
  }

  pub in_grows : (port : ℕ) → Grows (run.in_does port)
  in_grows port = ticked 4 (λ _. take_grows port)

  -- no value is given
  abbrev Silent : List Held → Post (Option Value) (Unit {0})
  Silent hs None u w t = Alike seats hs w t
  Silent hs (Some v) u w t = ⊥

  put_word : (hs : List Held) (w : World) (t : Tree) → Alike seats hs w t → (port x : ℕ) → Alike seats hs (record w { outs = w.outs ++ (port, x) ∷ [] }) (record t { outside = with_output port x t.outside })
  put_word hs w t a port x = record {
    seated = a.seated;
    rooms = a.rooms;
    least = a.least;
    unmade = a.unmade;
    kinds = a.kinds;
    objects = a.objects;
    held = a.held;
    input = a.input;
    words = a.words;
    outs = ap (λ o. o ++ (port, x) ∷ []) a.outs;
    work = a.work;
  }

  emitted : (hs : List Held) (port at : ℕ) (v : Value) (x : ℕ) (w : World) (t : Tree) → Valued seats hs false v x w t → Rel (Silent hs) (evaluation.emit port v at w) (run.put port x t)
  emitted hs port at (Word b) x w t s = subst (λ i. Rel (Silent hs) (evaluation.emit port (Word i) at w) (run.put port x t)) (sym s.held.0.0) (put_word hs w t (let_go seats hs _ w t s) port x)
  emitted hs port at (Pointer object i) x w t s = absurd s.held.0
  emitted hs port at Null x w t s = absurd s.held.0

  module _ {f : source.Does Value} {g : Does Tree ℕ} (port at : ℕ) (h : Values seats false f g) where
    emits : (hs : List Held) (w : World) (t : Tree) → Alike seats hs w t → Rel (Silent hs) (source.ticked 4 (source.◌>>=◌ f (λ v. evaluation.emit port v at)) w) (run.out_does port g t)
    emits hs w t a = rel_after (Valued seats hs false) (Silent hs) (f (record w { work = w.work + 4 })) (g (record t { work = t.work + 4 })) _ (λ x. run.put port x) (h.by hs _ _ (worked seats hs w t _ a)) (λ x. put_grows port x) (emitted hs port at)

    out_grows : Grows (run.out_does port g)
    out_grows = bind_grows (ticked 4 (λ _. h.grows)) (λ x. put_grows port x)

    out_value : (pointing : Bool) → Values seats pointing (source.◌>>=◌ (source.ticked 4 (source.◌>>=◌ f (λ v. evaluation.emit port v at))) (evaluation.need at)) (run.out_does port g >>= λ _. run.fail)
    out_value pointing = record {
      by = λ hs w t a. rel_after (Silent hs) (Valued seats hs pointing) _ (run.out_does port g t) (evaluation.need at) (λ _. run.fail) (emits hs w t a) (λ _. fail_grows) (λ o u w t e. silent hs pointing o u w t e);
      grows = bind_grows out_grows (λ _. fail_grows);
    }
      where
        silent : (hs : List Held) (pointing : Bool) (o : Option Value) (u : Unit {0}) (w : World) (t : Tree) → Silent hs o u w t → Rel (Valued seats hs pointing) (evaluation.need at o w) (run.fail t)
        silent hs pointing None u w t e = failing seats hs (Valued seats hs pointing) NoValue at w t run.fail e fail_grows
        silent hs pointing (Some v) u w t e = absurd e

    gone : (hs : List Held) (o : Option Value) (u : Unit {0}) (w : World) (t : Tree) → Silent hs o u w t → Nothing seats hs o u w t
    gone hs None u w t e = e
    gone hs (Some v) u w t e = absurd e

    out_effect : Effects seats (source.ticked 4 (source.◌>>=◌ f (λ v. evaluation.emit port v at))) (run.out_does port g)
    out_effect = record { by = λ hs w t a. rel_weaker (gone hs) (source.ticked 4 (source.◌>>=◌ f (λ v. evaluation.emit port v at)) w) (run.out_does port g t) (emits hs w t a); grows = out_grows }

    pub out_kept : (kind : Kind) → kind ≡ None
        → Kept seats kind (source.◌>>=◌ (source.ticked 4 (source.◌>>=◌ f (λ v. evaluation.emit port v at))) (evaluation.need at)) (source.ticked 4 (source.◌>>=◌ f (λ v. evaluation.emit port v at))) (run.out_does port g >>= λ _. run.fail) (run.as_truth (run.out_does port g >>= λ _. run.fail))
        (run.out_does port g)
    out_kept kind none = record {
      valued = out_value (points kind);
      tested = λ there. absurd (subst IsValue none there);
      effect = out_effect;
      dropped = drops seats at out_effect;
      lost = loses_value seats (points kind) at (out_value (points kind));
    }
