-- Arguments, from left to right, and calls.
use Rattle.std.proofs.Common.{◌≡◌, ℕ, ◌+◌, Bool, List, [], ◌∷◌, ◌++◌, Option, Some, None, refl, sym, ap, subst}
use Rattle.std.specs.Prelude.{map}
use Rattle.word_base.specs.declared.outcome.UndefinedKind.TheVariants.{NoValue}
use Rattle.c_tree.specs.TypedTree.{Kind}
use Rattle.c_tree.specs.WellFormed.{Signature}
use Rattle.tree_code_proof.specs.Counted as source
use Rattle.c_tree.specs.Store.{Value}
use Rattle.tree_code_proof.specs.Counted.{World}
use Rattle.tree_code_proof.specs.Evaluated as evaluation
use Rattle.c_tree.specs.Eval.{points}
use Rattle.ir_semantics.specs.Parts.{Does, give, ◌>>=◌}
use Rattle.ir_semantics.specs.TreeRun as run
use Rattle.ir_semantics.specs.TreeRun.{Tree}
use Rattle.tree_code_proof.specs.Seats.{Seats}
use Rattle.tree_code_proof.specs.Beside.{Held, HeldAlike, Alike}
use Rattle.tree_code_proof.proofs.Growing.{Grows, give_grows, need_grows, bind_grows, ticked, as_nothing_grows}
use Rattle.tree_code_proof.proofs.Rules.{Rel, rel_after}
use Rattle.tree_code_proof.proofs.Reading.{Valued, let_go, failing}
use Rattle.tree_code_proof.proofs.Forms.{Values, worked}
use Rattle.tree_code_proof.proofs.Truths.{tree_followed, value_tested}
use Rattle.tree_code_proof.proofs.Joining.{Nothing, Effects}
use Rattle.tree_code_proof.proofs.Using.{Kept, drops, loses_value}
use Rattle.tree_code_proof.proofs.Interfaces.{Given, CallKeeps}

-- values that are passed, and their words
pub record Passed (seats : Seats) (kinds : List Kind) (hs : List Held) (vs : List Value) (xs : List ℕ) (w : World) (t : Tree) : Type 0 where
  pub args : List Held
  pub pointing : map (λ h. h.pointing) args ≡ map points kinds
  pub values : map (λ h. h.value) args ≡ vs
  pub words : map (λ h. h.word) args ≡ xs
  pub alike : Alike seats (args ++ hs) w t

pub record Lists (seats : Seats) (kinds : List Kind) (f : source.Does (List Value)) (g : Does Tree (List ℕ)) : Type 0 where
  pub by : (hs : List Held) (w : World) (t : Tree) → Alike seats hs w t → Rel (Passed seats kinds hs) (f w) (g t)
  pub grows : Grows g

-- a value that is held behind others may be held before them
held_first : (seats : Seats) (made : ℕ) (h : Held) (hs args : List Held) → HeldAlike seats made (args ++ (h ∷ hs)) → HeldAlike seats made (h ∷ (args ++ hs))
held_first seats made h hs [] e = e
held_first seats made h hs (g ∷ args) e = let r = held_first seats made h hs args e.1 in (r.0, (e.0, r.1))

first_held : (seats : Seats) (h : Held) (hs args : List Held) (w : World) (t : Tree) → Alike seats (args ++ (h ∷ hs)) w t → Alike seats (h ∷ (args ++ hs)) w t
first_held seats h hs args w t a = record { seated = a.seated; rooms = a.rooms; least = a.least; unmade = a.unmade; kinds = a.kinds; objects = a.objects; held = held_first seats w.store.made h hs args a.held; input = a.input; words = a.words; outs = a.outs; work = a.work }

module _ (seats : Seats) where
  pub none_passed : Lists seats [] (source.give []) (give [])
  none_passed = record {
    by = λ hs w t a. record { args = []; pointing = refl; values = refl; words = refl; alike = a };
    grows = give_grows [];
  }

  pub more_passed : {f : source.Does Value} {h : source.Does (List Value)} {g : Does Tree ℕ} {k : Does Tree (List ℕ)} (kind : Kind) (kinds : List Kind) → Values seats (points kind) f g → Lists seats kinds h k
      → Lists seats (kind ∷ kinds) (source.ticked 12 (source.◌>>=◌ f (λ v. source.◌>>=◌ h (λ vs. source.give (v ∷ vs))))) (run.argument_does g k)
  more_passed {f = f} {h = h} {g = g} {k = k} kind kinds a b = record {
    by = λ hs w t s.
        rel_after (Valued seats hs (points kind)) (Passed seats (kind ∷ kinds) hs) (f (record w { work = w.work + 12 })) (g (record t { work = t.work + 12 })) _ _ (a.by hs _ _ (worked seats hs w t _ s)) (λ x. bind_grows b.grows (λ xs. give_grows (x ∷ xs)))
        (λ v x w t s. rel_after (Passed seats kinds (record { pointing = points kind; value = v; word = x } ∷ hs)) (Passed seats (kind ∷ kinds) hs) (h w) (k t) _ _ (b.by _ w t s) (λ xs. give_grows (x ∷ xs))
        (λ vs xs w t e. joined hs v x vs xs w t e));
    grows = bind_grows (ticked 12 (λ _. a.grows)) (λ x. bind_grows b.grows (λ xs. give_grows (x ∷ xs)));
  }
    where
      joined : (hs : List Held) (v : Value) (x : ℕ) (vs : List Value) (xs : List ℕ) (w : World) (t : Tree) → Passed seats kinds (record { pointing = points kind; value = v; word = x } ∷ hs) vs xs w t → Passed seats (kind ∷ kinds) hs (v ∷ vs) (x ∷ xs) w t
      joined hs v x vs xs w t e = record {
        args = record { pointing = points kind; value = v; word = x } ∷ e.args;
        pointing = ap (λ l. points kind ∷ l) e.pointing;
        values = ap (λ l. v ∷ l) e.values;
        words = ap (λ l. x ∷ l) e.words;
        alike = first_held seats _ hs e.args w t e.alike;
      }

  -- a call, whose value is used or isn't
  module _ (calls : evaluation.Calls) (does : run.Calls) (f : ℕ) (s : Signature) (keep : CallKeeps seats calls does f s) (grow : (xs : List ℕ) → Grows (does f xs)) {vs : source.Does (List Value)} {xs : Does Tree (List ℕ)} (l : Lists seats s.parameters vs xs) where
    passed_on : (hs : List Held) (us : List Value) (ys : List ℕ) (w : World) (t : Tree) → Passed seats s.parameters hs us ys w t → Rel (Given seats hs (points s.result)) (calls f us w) (does f ys t)
    passed_on hs us ys w t e =
        subst (λ us. Rel (Given seats hs (points s.result)) (calls f us w) (does f ys t)) e.values
        (subst (λ ys. Rel (Given seats hs (points s.result)) (calls f (map (λ h. h.value) e.args) w) (does f ys t)) e.words (keep.by e.args e.pointing hs w t e.alike))

    called : (hs : List Held) (w : World) (t : Tree) → Alike seats hs w t → Rel (Given seats hs (points s.result)) (source.ticked 2 (source.◌>>=◌ vs (calls f)) w) (run.call_does (does f) xs t)
    called hs w t a = rel_after (Passed seats s.parameters hs) (Given seats hs (points s.result)) (vs (record w { work = w.work + 2 })) (xs (record t { work = t.work + 2 })) (calls f) (does f) (l.by hs _ _ (worked seats hs w t _ a)) grow (passed_on hs)

    call_grows : Grows (run.call_does (does f) xs)
    call_grows = bind_grows (ticked 2 (λ _. l.grows)) grow

    wanted : (hs : List Held) (pointing : Bool) (at : ℕ) (v : Option Value) (x : Option ℕ) (w : World) (t : Tree) → Given seats hs pointing v x w t → Rel (Valued seats hs pointing) (evaluation.need at v w) (run.need x t)
    wanted hs pointing at None None w t e = failing seats hs (Valued seats hs pointing) NoValue at w t (run.need None) e (need_grows None)
    wanted hs pointing at None (Some x) w t e = absurd e
    wanted hs pointing at (Some v) None w t e = absurd e
    wanted hs pointing at (Some v) (Some x) w t e = e

    unwanted : (hs : List Held) (pointing : Bool) (v : Option Value) (x : Option ℕ) (w : World) (t : Tree) → Given seats hs pointing v x w t → Alike seats hs w t
    unwanted hs pointing None None w t e = e
    unwanted hs pointing None (Some x) w t e = absurd e
    unwanted hs pointing (Some v) None w t e = absurd e
    unwanted hs pointing (Some v) (Some x) w t e = let_go seats hs _ w t e

    call_value : (at : ℕ) → Values seats (points s.result) (source.◌>>=◌ (source.ticked 2 (source.◌>>=◌ vs (calls f))) (evaluation.need at)) (run.call_does (does f) xs >>= run.need)
    call_value at = record {
      by = λ hs w t a. rel_after (Given seats hs (points s.result)) (Valued seats hs (points s.result)) _ (run.call_does (does f) xs t) (evaluation.need at) run.need (called hs w t a) need_grows (wanted hs (points s.result) at);
      grows = bind_grows call_grows need_grows;
    }

    call_effect : Effects seats (source.ticked 2 (source.◌>>=◌ vs (calls f))) (run.as_nothing (run.call_does (does f) xs))
    call_effect = record {
      by = λ hs w t a. tree_followed (Given seats hs (points s.result)) (Nothing seats hs) (source.ticked 2 (source.◌>>=◌ vs (calls f)) w) (run.call_does (does f) xs t) (λ x. give (tt {0})) (called hs w t a) (λ x. give_grows _) (unwanted hs (points s.result));
      grows = as_nothing_grows call_grows;
    }

    pub call_kept : (kind : Kind) (at : ℕ) → kind ≡ s.result
        → Kept seats kind (source.◌>>=◌ (source.ticked 2 (source.◌>>=◌ vs (calls f))) (evaluation.need at)) (source.ticked 2 (source.◌>>=◌ vs (calls f))) (run.call_does (does f) xs >>= run.need) (run.as_truth (run.call_does (does f) xs >>= run.need)) (run.as_nothing (run.call_does (does f) xs))
    call_kept kind at is = record {
      valued = subst (λ k. Values seats (points k) (source.◌>>=◌ (source.ticked 2 (source.◌>>=◌ vs (calls f))) (evaluation.need at)) (run.call_does (does f) xs >>= run.need)) (sym is) (call_value at);
      tested = λ there. value_tested seats (call_value at);
      effect = call_effect;
      dropped = drops seats at call_effect;
      lost = loses_value seats (points s.result) at (call_value at);
    }
