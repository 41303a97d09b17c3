-- The ways in which an expression is used: its value, its truth where its type has values, and neither. One of no type may stand where a value is
-- wanted: there the typed program is undefined behind it.
use Rattle.std.proofs.Common.{◌≡◌, ℕ, Bool, false, List, Option, Some, None, sym, subst}
use Rattle.word_base.specs.Words.{truth}
use Rattle.word_base.specs.declared.outcome.UndefinedKind.TheVariants.{NoValue}
use Rattle.c_tree.specs.Kinds.{IsValue}
use Rattle.c_tree.specs.TypedTree.{Kind}
use Rattle.tree_code_proof.specs.Counted as source
use Rattle.c_tree.specs.Store.{Value}
use Rattle.tree_code_proof.specs.Counted.{World}
use Rattle.tree_code_proof.specs.Evaluated as evaluation
use Rattle.c_tree.specs.Eval.{points}
use Rattle.ir_semantics.specs.Parts.{Res, Gives, Finished, TooMany, Fails, Does, give}
use Rattle.ir_semantics.specs.TreeRun as run
use Rattle.ir_semantics.specs.TreeRun.{Tree}
use Rattle.tree_code_proof.specs.Seats.{Seats}
use Rattle.tree_code_proof.specs.Beside.{Held, Alike}
use Rattle.tree_code_proof.proofs.Growing.{Grows, give_grows, as_word_grows, as_nothing_grows}
use Rattle.tree_code_proof.proofs.Rules.{Post, Rel}
use Rattle.tree_code_proof.proofs.Reading.{Valued, let_go, failing}
use Rattle.tree_code_proof.proofs.Forms.{Optional, Values, Forms, followed, used}
use Rattle.tree_code_proof.proofs.Truths.{Deciding, Tests, Decides, tree_followed, value_tested, truth_valued, truth_tested}
use Rattle.tree_code_proof.proofs.Joining.{Nothing, Effects, unused}

-- the other way round than `regrouped`
pub grouped : {A B C D : Type 0} (r : Post C D) (x : source.Res A) (f : A → source.Does B) (g : B → source.Does C) (y : Res Tree D) → Rel r (source.after x (λ a. source.◌>>=◌ (f a) g)) y → Rel r (source.after (source.after x f) g) y
grouped r (source.Gives a w) f g y e = e
grouped r (source.Finished p o most) f g y e = e
grouped r (source.TooMany o) f g y e = e
grouped r (source.Fails kind at o) f g y e = e

-- a value, where it is there
pub without_some : (seats : Seats) (hs : List Held) (pointing : Bool) (x : source.Res Value) (y : Res Tree ℕ) → Rel (Optional seats hs pointing) (source.after x evaluation.some) y → Rel (Valued seats hs pointing) x y
without_some seats hs pointing (source.Gives a w) (Gives b t) e = e
without_some seats hs pointing (source.Gives a w) (Finished p o k) e = absurd e
without_some seats hs pointing (source.Gives a w) (TooMany o) e = absurd e
without_some seats hs pointing (source.Gives a w) (Fails o) e = absurd e
without_some seats hs pointing (source.Finished p o most) (Gives b t) e = absurd e
without_some seats hs pointing (source.Finished p o most) (Finished p2 o2 k) e = e
without_some seats hs pointing (source.Finished p o most) (TooMany o2) e = absurd e
without_some seats hs pointing (source.Finished p o most) (Fails o2) e = absurd e
without_some seats hs pointing (source.TooMany o) (Gives b t) e = absurd e
without_some seats hs pointing (source.TooMany o) (Finished p o2 k) e = absurd e
without_some seats hs pointing (source.TooMany o) (TooMany o2) e = e
without_some seats hs pointing (source.TooMany o) (Fails o2) e = absurd e
without_some seats hs pointing (source.Fails kind at o) y e = e

-- no values
abbrev pub Never : Post Value ℕ
Never v x w t = ⊥

-- behind which the typed program is undefined
pub record Loses (seats : Seats) (f : source.Does (Option Value)) (g : Does Tree ℕ) : Type 0 where
  pub by : (at : ℕ) (hs : List Held) (w : World) (t : Tree) → Alike seats hs w t → Rel Never (source.after (f w) (λ o. source.fail NoValue at)) (g t)

-- a value that isn't used
abbrev pub Dropped : {B : Type 0} → Seats → List Held → Post Value B
Dropped seats hs v b w t = Alike seats hs w t

pub record Drops (seats : Seats) (f : source.Does Value) (g : Does Tree (Unit {0})) : Type 0 where
  pub by : (hs : List Held) (w : World) (t : Tree) → Alike seats hs w t → Rel (Dropped seats hs) (f w) (g t)

-- an expression of a type
pub record Kept (seats : Seats) (kind : Kind) (value : source.Does Value) (eval : source.Does (Option Value)) (word_does : Does Tree ℕ) (truth_does : Does Tree Bool) (nothing_does : Does Tree (Unit {0})) : Type 0 where
  pub valued : Values seats (points kind) value word_does
  pub tested : IsValue kind → Tests seats value truth_does
  pub effect : Effects seats eval nothing_does
  pub dropped : Drops seats value nothing_does
  pub lost : Loses seats eval word_does

module _ (seats : Seats) where
  pub let_value_go : (hs : List Held) (pointing : Bool) (o : Option Value) (b : ℕ) (w : World) (t : Tree) → Optional seats hs pointing o b w t → Alike seats hs w t
  let_value_go hs pointing None b w t e = absurd e
  let_value_go hs pointing (Some v) b w t e = let_go seats hs _ w t e

  lost_value : (hs : List Held) (pointing : Bool) (at : ℕ) (o : Option Value) (b : ℕ) (w : World) (t : Tree) → Optional seats hs pointing o b w t → Rel Never (source.fail NoValue at w) (Gives b t)
  lost_value hs pointing at o b w t e = failing seats hs Never NoValue at w t (give b) (let_value_go hs pointing o b w t e) (give_grows b)

  pub loses : {f : source.Does (Option Value)} {g : Does Tree ℕ} (pointing : Bool) → Forms seats pointing f g → Loses seats f g
  loses {f = f} {g = g} pointing h = record { by = λ at hs w t a. followed (Optional seats hs pointing) Never (f w) (g t) (λ o. source.fail NoValue at) (h.by hs w t a) (lost_value hs pointing at) }

  -- where a value may be missing
  missing : (hs : List Held) (pointing : Bool) (at place : ℕ) (x : source.Res (Option Value)) (y : Res Tree ℕ) → Rel (Valued seats hs pointing) (source.after x (evaluation.need place)) y → Rel Never (source.after x (λ o. source.fail NoValue at)) y
  missing hs pointing at place (source.Gives None w) y e = e
  missing hs pointing at place (source.Gives (Some v) w) (Gives b t) e = failing seats _ Never NoValue at w t (give b) e (give_grows b)
  missing hs pointing at place (source.Gives (Some v) w) (Finished p o k) e = absurd e
  missing hs pointing at place (source.Gives (Some v) w) (TooMany o) e = absurd e
  missing hs pointing at place (source.Gives (Some v) w) (Fails o) e = absurd e
  missing hs pointing at place (source.Finished p o most) (Gives b t) e = absurd e
  missing hs pointing at place (source.Finished p o most) (Finished p2 o2 k) e = e
  missing hs pointing at place (source.Finished p o most) (TooMany o2) e = absurd e
  missing hs pointing at place (source.Finished p o most) (Fails o2) e = absurd e
  missing hs pointing at place (source.TooMany o) (Gives b t) e = absurd e
  missing hs pointing at place (source.TooMany o) (Finished p o2 k) e = absurd e
  missing hs pointing at place (source.TooMany o) (TooMany o2) e = e
  missing hs pointing at place (source.TooMany o) (Fails o2) e = absurd e
  missing hs pointing at place (source.Fails kind fault o) y e = e

  pub loses_value : {f : source.Does (Option Value)} {g : Does Tree ℕ} (pointing : Bool) (place : ℕ) → Values seats pointing (source.◌>>=◌ f (evaluation.need place)) g → Loses seats f g
  loses_value {f = f} {g = g} pointing place h = record { by = λ at hs w t a. missing hs pointing at place (f w) (g t) (h.by hs w t a) }

  -- a value that may be missing, and isn't used
  needed_not : (hs : List Held) (at : ℕ) (o : Option Value) (u : Unit {0}) (w : World) (t : Tree) → Nothing seats hs o u w t → Rel (Dropped seats hs) (evaluation.need at o w) (Gives u t)
  needed_not hs at None u w t e = failing seats hs (Dropped seats hs) NoValue at w t (give u) e (give_grows u)
  needed_not hs at (Some v) u w t e = e

  pub drops : {f : source.Does (Option Value)} {g : Does Tree (Unit {0})} (at : ℕ) → Effects seats f g → Drops seats (source.◌>>=◌ f (evaluation.need at)) g
  drops {f = f} {g = g} at h = record { by = λ hs w t a. followed (Nothing seats hs) (Dropped seats hs) (f w) (g t) (evaluation.need at) (h.by hs w t a) (needed_not hs at) }

  -- a form that gives a word
  pub of_forms : {f : source.Does (Option Value)} {g : Does Tree ℕ} (kind : Kind) (pointing : Bool) → points kind ≡ pointing → (at : ℕ) → Forms seats pointing f g → Grows g
      → Kept seats kind (source.◌>>=◌ f (evaluation.need at)) f g (run.as_truth g) (run.as_nothing g)
  of_forms {f = f} {g = g} kind pointing is at h grow = record {
    valued = subst (λ b. Values seats b (source.◌>>=◌ f (evaluation.need at)) g) (sym is) (used at h grow);
    tested = λ there. value_tested seats (used at h grow);
    effect = unused seats h grow;
    dropped = drops at (unused seats h grow);
    lost = loses pointing h;
  }

  -- a form that gives a truth
  truth_unused : {f : source.Does (Option Value)} {g : Does Tree Bool} → Decides seats f g → Grows g → Effects seats f (run.as_nothing g)
  truth_unused {f = f} {g = g} h grow = record {
    by = λ hs w t a. tree_followed (Deciding seats hs) (Nothing seats hs) (f w) (g t) _ (h.by hs w t a) (λ b. give_grows _) (λ o b w t e. let_value_go hs false o (truth b) w t e);
    grows = as_nothing_grows grow;
  }

  pub of_decides : {f : source.Does (Option Value)} {g : Does Tree Bool} (kind : Kind) → points kind ≡ false → (at : ℕ) → Decides seats f g → Grows g
      → Kept seats kind (source.◌>>=◌ f (evaluation.need at)) f (run.as_word g) g (run.as_nothing g)
  of_decides {f = f} {g = g} kind is at h grow = record {
    valued = subst (λ b. Values seats b (source.◌>>=◌ f (evaluation.need at)) (run.as_word g)) (sym is) (used at (truth_valued seats h) (as_word_grows grow));
    tested = λ there. truth_tested seats at h grow;
    effect = truth_unused h grow;
    dropped = drops at (truth_unused h grow);
    lost = loses false (truth_valued seats h);
  }
