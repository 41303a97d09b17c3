-- What both runs come to: where `main` gives a word, or none, both return it, the word tree with at most as much work.
use Rattle.std.proofs.Common.{◌≡◌, ℕ, ◌+◌, ◌≤◌, false, [], Option, Some, None, sym, ap, ◌∙◌, subst, arith}
use Rattle.word_base.specs.declared.outcome.Ending.TheVariants as ending
use Rattle.word_base.specs.Ports.{Outputs, Prefix}
use Rattle.c_tree.specs.Store as plain
use Rattle.c_tree.specs.Store.{Value, Word, Pointer, Null}
use Rattle.c_tree.specs.SourceRun.{outcome_of}
use Rattle.ir_semantics.specs.Keeps.{WorkOutcome, Ended, More, Undefined, Keeps, outputs_of, tree_outcome}
use Rattle.ir_semantics.specs.Parts.{Res, Gives, Finished, TooMany, Fails}
use Rattle.ir_semantics.specs.SourceWork.{with_work}
use Rattle.ir_semantics.specs.TreeRun.{Tree}
use Rattle.tree_code_proof.specs.Counted.{World, at_work, without_work}
use Rattle.tree_code_proof.specs.Seats.{Seats}
use Rattle.tree_code_proof.proofs.Growing.{outs_of}
use Rattle.tree_code_proof.proofs.Rules.{Rel}
use Rattle.tree_code_proof.proofs.Interfaces.{Given}

-- an outcome and what it asks of another
abbrev EndsAs : WorkOutcome → WorkOutcome → Type 0
EndsAs y (Ended outs e work) = (less : ℕ) × (less ≤ work) × (y ≡ Ended outs e less)
EndsAs y (More outs) = y ≡ More outs
EndsAs y (Undefined outs) = Prefix outs (outputs_of y)

keeps : (x y : WorkOutcome) → EndsAs y x → Keeps x y
keeps x y h = record {
  ended = λ outs e work is. subst (EndsAs y) is h;
  more = λ outs is. subst (EndsAs y) is h;
  prefix = λ outs is. subst (EndsAs y) is h;
}

module _ (seats : Seats) where
  -- a value of an integer type, or none
  value_ends : (v : Option Value) (x : Option ℕ) (w : World) (t : Tree) → Given seats [] false v x w t → EndsAs (tree_outcome (Gives x t)) (with_work (outcome_of (plain.Gives v (without_work w))) w.work)
  value_ends None None w t a = (t.work, a.work, ap (λ o. Ended o (ending.Returned 0) t.work) a.outs)
  value_ends None (Some x) w t a = absurd a
  value_ends (Some v) None w t a = absurd a
  value_ends (Some (Word y)) (Some x) w t a = (t.work, a.work, ap (λ o. Ended o (ending.Returned x) t.work) a.outs ∙ ap (λ z. Ended w.outs (ending.Returned z) t.work) (sym a.held.0.0))
  value_ends (Some (Pointer object i)) (Some x) w t a = absurd a.held.0
  value_ends (Some Null) (Some x) w t a = absurd a.held.0

  prefix_kept : (outs : Outputs) (y : Res Tree (Option ℕ)) → Prefix outs (outs_of y) → Prefix outs (outputs_of (tree_outcome y))
  prefix_kept outs (Gives x t) h = h
  prefix_kept outs (Finished e o work) h = h
  prefix_kept outs (TooMany o) h = h
  prefix_kept outs (Fails o) h = h

  result_ends : (k : ℕ) (x : plain.Res (Option Value)) (y : Res Tree (Option ℕ)) → Rel (Given seats [] false) (at_work k x) y → EndsAs (tree_outcome y) (with_work (outcome_of x) k)
  result_ends k (plain.Gives v w) (Gives x t) h = value_ends v x (record { store = w.store; input = w.input; outs = w.outs; work = k }) t h
  result_ends k (plain.Gives v w) (Finished e o work) h = absurd h
  result_ends k (plain.Gives v w) (TooMany o) h = absurd h
  result_ends k (plain.Gives v w) (Fails o) h = absurd h
  result_ends k (plain.Finished e o) (Gives x t) h = absurd h
  result_ends k (plain.Finished e o) (Finished d r work) h = (work, h.1.1, ap (λ e. Ended r e work) (sym h.0) ∙ ap (λ o. Ended o e work) (sym h.1.0))
  result_ends k (plain.Finished e o) (TooMany r) h = absurd h
  result_ends k (plain.Finished e o) (Fails r) h = absurd h
  result_ends k (plain.TooMany o) (Gives x t) h = absurd h
  result_ends k (plain.TooMany o) (Finished d r work) h = absurd h
  result_ends k (plain.TooMany o) (TooMany r) h = ap More (sym h)
  result_ends k (plain.TooMany o) (Fails r) h = absurd h
  result_ends k (plain.Fails kind at o) y h = prefix_kept o y h

  -- a run whose work is counted from 0 on
  pub outcome_kept : (k : ℕ) (x : plain.Res (Option Value)) (y : Res Tree (Option ℕ)) → Rel (Given seats [] false) (at_work (0 + k) x) y → Keeps (with_work (outcome_of x) k) (tree_outcome y)
  outcome_kept k x y h =
      let same : 0 + k ≡ k = omega arith in
      keeps (with_work (outcome_of x) k) (tree_outcome y) (result_ends k x y (subst (λ m. Rel (Given seats [] false) (at_work m x) y) same h))
