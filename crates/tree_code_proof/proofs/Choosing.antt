-- A switch runs from the case of its word, on both sides, else from its default.
use Rattle.std.proofs.Common.{◌≡◌, ℕ, ◌+◌, Bool, true, false, List, Option, refl, sym, ap, subst}
use Rattle.std.specs.Prelude.{◌==◌, ◌||◌}
use Rattle.c_tree.specs.declared.enclosing.Enclosing.{Enclosing}
use Rattle.c_tree.specs.declared.enclosing.Enclosing.TheVariants as within
use Rattle.c_tree.specs.declared.program.VarRef.{VarRef}
use Rattle.c_tree.specs.TypedTree as tree
use Rattle.c_tree.specs.TypedTree.{Choices, ProgramTree}
use Rattle.tree_code_proof.specs.Counted as source
use Rattle.c_tree.specs.Store.{Value, Word, Pointer, Null}
use Rattle.tree_code_proof.specs.Counted.{World}
use Rattle.tree_code_proof.specs.Evaluated as evaluation
use Rattle.c_tree.specs.Eval.{Env}
use Rattle.tree_code_proof.specs.Executed as execution
use Rattle.c_tree.specs.Labels.{has_case, may_continue, in_switch}
use Rattle.c_tree.specs.WellFormed.{Shape, Names}
use Rattle.tree_code.specs.WordLabels.{has_word_case}
use Rattle.tree_code.specs.Lowered.{lowered_choices}
use Rattle.ir_semantics.specs.Outside.{Places}
use Rattle.ir_semantics.specs.Parts.{Does, after, Flow, Next, Broke, Continued, Returned, ◌>>=◌, choose, behind_switch}
use Rattle.ir_semantics.specs.TreeRun.{Tree, tick}
use Rattle.tree_code_proof.specs.Seats.{Seats}
use Rattle.tree_code_proof.specs.Beside.{Held}
use Rattle.tree_code_proof.specs.Surroundings.{Surrounds}
use Rattle.tree_code_proof.proofs.Growing.{Grows, bind_grows, ticked, choose_grows}
use Rattle.tree_code_proof.proofs.GrowingStatements.{switch_grows}
use Rattle.tree_code_proof.proofs.Rules.{Rel, rel_after}
use Rattle.tree_code_proof.proofs.Reading.{Valued, let_go}
use Rattle.tree_code_proof.proofs.Forms.{Values, worked}
use Rattle.tree_code_proof.proofs.Joining.{chosen}
use Rattle.tree_code_proof.proofs.Interfaces.{Left, Runs}

-- both have the same cases
same_case : (w : ℕ) (cs : Choices) → has_word_case w (lowered_choices cs) ≡ has_case w cs
same_case w tree.no_more = refl
same_case w (tree.case x rest) = ap (λ b. (w == x) || b) (same_case w rest)
same_case w (tree.default rest) = same_case w rest
same_case w (tree.body s rest) = same_case w rest

module _ (q : Places) (p : ProgramTree) (f : ℕ) (objects : VarRef → Option Shape) (pointing : Bool) (names : Names) where
  -- a break ends the switch alone
  broke_in : (c : Enclosing) → may_continue (in_switch c) ≡ true → may_continue c ≡ true
  broke_in within.Body e = e
  broke_in within.Switch e = e
  broke_in within.Loop e = e
  broke_in within.SwitchInLoop e = e

  switched : (seats : Seats) (hs : List Held) (c : Enclosing) (x : execution.Flow) (y : Flow) (w : World) (t : Tree) → Left seats hs pointing (in_switch c) x y w t → Rel (Left seats hs pointing c) (execution.behind_switch x w) (behind_switch y t)
  switched seats hs c execution.Next Next w t e = e
  switched seats hs c execution.Next Broke w t e = absurd e
  switched seats hs c execution.Next Continued w t e = absurd e
  switched seats hs c execution.Next Returned w t e = absurd e
  switched seats hs c execution.Broke Next w t e = absurd e
  switched seats hs c execution.Broke Broke w t e = e.1
  switched seats hs c execution.Broke Continued w t e = absurd e
  switched seats hs c execution.Broke Returned w t e = absurd e
  switched seats hs c execution.Continued Next w t e = absurd e
  switched seats hs c execution.Continued Broke w t e = absurd e
  switched seats hs c execution.Continued Continued w t e = (broke_in c e.0, e.1)
  switched seats hs c execution.Continued Returned w t e = absurd e
  switched seats hs c (execution.Returned v) Next w t e = absurd e
  switched seats hs c (execution.Returned v) Broke w t e = absurd e
  switched seats hs c (execution.Returned v) Continued w t e = absurd e
  switched seats hs c (execution.Returned v) Returned w t e = e

  -- what the statements of a switch do, from the case of a word on, from the default on, and from the first one on
  module _ {entry : ℕ → Env → source.Does execution.Flow} {other : Env → source.Does execution.Flow} {enters : ℕ → Does Tree Flow} {enters_other : Does Tree Flow} (c : Enclosing) (cs : Choices)
      (cases : (x : ℕ) → Runs q p f objects pointing names (in_switch c) (entry x) (enters x)) (others : Runs q p f objects pointing names (in_switch c) other enters_other) where
    selected : (env : Env) (seats : Seats) → Surrounds q p f objects names.object env seats → (hs : List Held) (v : Value) (x : ℕ) (w : World) (t : Tree) → Valued seats hs false v x w t
        → Rel (Left seats hs pointing c) (source.after (evaluation.choose (has_case (execution.word_or_zero v) cs) (entry (execution.word_or_zero v) env) (other env) w) execution.behind_switch)
        (after (choose (has_word_case x (lowered_choices cs)) (enters x) enters_other t) behind_switch)
    selected env seats around hs (Pointer k i) x w t e = absurd e.held.0
    selected env seats around hs Null x w t e = absurd e.held.0
    selected env seats around hs (Word z) x w t e =
        subst (λ y. Rel (Left seats hs pointing c) (source.after (evaluation.choose (has_case z cs) (entry z env) (other env) w) execution.behind_switch) (after (choose (has_word_case y (lowered_choices cs)) (enters y) enters_other t) behind_switch)) e.held.0.0
        (rel_after (Left seats hs pointing (in_switch c)) (Left seats hs pointing c) _ _ execution.behind_switch behind_switch
        (chosen seats (Left seats hs pointing (in_switch c)) (has_case z cs) (has_word_case z (lowered_choices cs)) (entry z env) (other env) (enters z) enters_other w t (sym (same_case z cs))
        ((cases z).by env seats around hs w t (let_go seats hs _ w t e)) (others.by env seats around hs w t (let_go seats hs _ w t e)))
        switch_grows (switched seats hs c))

    pub switch_runs : {s : Env → source.Does Value} {does : Does Tree ℕ} (k : ℕ) → ((env : Env) (seats : Seats) → Surrounds q p f objects names.object env seats → Values seats false (s env) does) → Grows does
        → Runs q p f objects pointing names c (λ env. source.ticked k (source.◌>>=◌ (s env) (λ v. source.◌>>=◌ (evaluation.choose (has_case (execution.word_or_zero v) cs) (entry (execution.word_or_zero v) env) (other env)) execution.behind_switch)))
        (tick k >>= λ _. does >>= λ x. choose (has_word_case x (lowered_choices cs)) (enters x) enters_other >>= behind_switch)
    switch_runs {s = s} {does = does} k values grow = record {
      by = λ env seats around hs w t a.
          rel_after (Valued seats hs false) (Left seats hs pointing c) (s env (record w { work = w.work + k })) (does (record t { work = t.work + k })) _ _ ((values env seats around).by hs _ _ (worked seats hs w t _ a))
          (λ x. bind_grows (choose_grows (has_word_case x (lowered_choices cs)) (cases x).grows others.grows) switch_grows) (selected env seats around hs);
      grows = ticked k (λ _. bind_grows grow (λ x. bind_grows (choose_grows (has_word_case x (lowered_choices cs)) (cases x).grows others.grows) switch_grows));
    }
