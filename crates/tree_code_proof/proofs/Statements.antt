-- All statements of a function keep what they do, from what its expressions keep.
use Rattle.std.proofs.Common.{◌≡◌, sym, ℕ, ◌+◌, Bool, true, false, cond, List, ◌∷◌, ◌++◌, Option, Some, None, refl, subst}
use Rattle.std.specs.Prelude.{◌==◌, slice_get}
use Rattle.std.specs.List.{AllByRecursion}
use Rattle.c_tree.specs.declared.enclosing.Enclosing.{Enclosing}
use Rattle.c_tree.specs.declared.enclosing.Enclosing.TheVariants as within
use Rattle.c_tree.specs.declared.program.VarRef.{VarRef}
use Rattle.c_tree.specs.declared.program.VarRef.TheVariants.{Static}
use Rattle.c_tree.specs.declared.uses.Use.TheVariants as use_of
use Rattle.c_tree.specs.TypedTree as tree
use Rattle.c_tree.specs.TypedTree.{Kind, Expr, Stmt, Stmts, Choices, ObjectTree, FunctionTree, ProgramTree}
use Rattle.tree_code_proof.specs.Counted as source
use Rattle.c_tree.specs.Store.{Value}
use Rattle.c_tree.specs.Eval as plain
use Rattle.ir_semantics.specs.SourceWork.{CallsWork}
use Rattle.tree_code_proof.specs.Evaluated as evaluation
use Rattle.tree_code_proof.proofs.CountedForms.{condition_counted}
use Rattle.tree_code_proof.proofs.CountedStatements.{third_counted, no_third_counted, no_test_counted, block_counted, do_counted, if_counted, while_counted, do_while_counted, for_counted, switch_counted, return_counted, return_value_counted, next_counted, both_counted, body_counted, case_counted}
use Rattle.c_tree.specs.Eval.{Env, kind_of, points}
use Rattle.tree_code_proof.specs.Executed as execution
use Rattle.c_tree.specs.Kinds.{IsInteger}
use Rattle.c_tree.specs.Labels.{in_switch}
use Rattle.c_tree.specs.Uses.{uses, optional_uses, statement_uses, statements_uses, choices_uses, case_count}
use Rattle.c_tree.specs.WellFormed.{Shape, Names, Signature, IsWellTyped, IsTest, IsOptional, IsOptionalTest, IsReturned, is_among, opened, IsWellFormed, AreWellFormed, HasChoices}
use Rattle.c_tree.specs.WellFormedProgram.{IsObject, object_in}
use Rattle.tree_code.specs.WordTree as word
use Rattle.tree_code.specs.Lowered.{lowered, lowered_optional, lowered_statement, lowered_statements, lowered_choices}
use Rattle.ir_semantics.specs.Outside.{Places, address_of}
use Rattle.ir_semantics.specs.Parts.{Gives, Res, Does, Flow, Next, ◌>>=◌, choose, give}
use Rattle.ir_semantics.specs.TreeRun as run
use Rattle.ir_semantics.specs.TreeRun.{Tree, label_weights}
use Rattle.c_tree.specs.TypedOfWords.{StartsWithWord, UsesWords, OptionalUsesWords, StatementUsesWords, StatementsUseWords, ChoicesUseWords}
use Rattle.tree_code_proof.specs.Seats.{Seats}
use Rattle.tree_code_proof.specs.Beside.{Held}
use Rattle.tree_code_proof.specs.Surroundings.{ArePlaces, Surrounds}
use Rattle.tree_code_proof.proofs.Growing.{Grows, give_grows, bind_grows}
use Rattle.tree_code_proof.proofs.Rules.{Rel, rel_after}
use Rattle.tree_code_proof.proofs.Forms.{Values, followed}
use Rattle.tree_code_proof.proofs.Truths.{Same, Tests}
use Rattle.tree_code_proof.proofs.Joining.{Nothing, Effects}
use Rattle.tree_code_proof.proofs.Interfaces.{CallsOf, calls_left, calls_right, Left, Runs}
use Rattle.tree_code_proof.proofs.Opening.{enter_keeps}
use Rattle.tree_code_proof.proofs.Leaving.{Asks, Acts, Still, next_runs, ticked_runs, in_order_runs, choose_runs, break_runs, continue_runs, return_runs, return_value_runs, block_runs}
use Rattle.tree_code_proof.proofs.Filled.{AreObjects, fill_keeps}
use Rattle.tree_code_proof.proofs.Looping.{loop_runs, loop_first_runs}
use Rattle.tree_code_proof.proofs.Choosing.{switch_runs}

pub opened_objects : (objects : VarRef → Option Shape) (declared : List VarRef) (names : Names) → AreObjects objects names.object → AreObjects objects (opened objects declared names).object
opened_objects objects declared names h = record {
  objects_of = λ v s is. by_among v s (is_among v declared) is;
  statics = λ n s is. static_among n s (is_among (Static n) declared) is;
}
  where
    by_among : (v : VarRef) (s : Shape) (b : Bool) → cond b (objects v) (names.object v) ≡ Some s → objects v ≡ Some s
    by_among v s true e = e
    by_among v s false e = h.objects_of v s e

    static_among : (n : ℕ) (s : Shape) (b : Bool) → objects (Static n) ≡ Some s → cond b (objects (Static n)) (names.object (Static n)) ≡ Some s
    static_among n s true e = e
    static_among n s false e = h.statics n s e

integer_points : (k : Kind) → IsInteger k → points k ≡ false
integer_points None h = absurd h
integer_points (Some kind) h = h

-- what the expressions of a function keep, wherever these functions are known
pub record ExpressionsKeep (q : Places) (p : ProgramTree) (f : ℕ) (objects : VarRef → Option Shape) (functions : ℕ → Option Signature) (calls : plain.Calls) (work : CallsWork) (does : run.Calls) : Type 0 where
  pub value : (names : Names) → names.function ≡ functions → (env : Env) (seats : Seats) → Surrounds q p f objects names.object env seats → (e : Expr) → IsWellTyped names e → UsesWords e → CallsOf p f (uses e)
      → Values seats (points (kind_of e)) (evaluation.value calls work env e) (run.value does (address_of q f) (lowered e))
  pub test : (names : Names) → names.function ≡ functions → (env : Env) (seats : Seats) → Surrounds q p f objects names.object env seats → (e : Expr) → IsTest names e → UsesWords e → CallsOf p f (uses e)
      → Tests seats (evaluation.value calls work env e) (run.decide does (address_of q f) (lowered e))
  pub effect : (names : Names) → names.function ≡ functions → (env : Env) (seats : Seats) → Surrounds q p f objects names.object env seats → (e : Expr) → IsWellTyped names e → UsesWords e → CallsOf p f (uses e)
      → Effects seats (evaluation.eval calls work env e) (run.effect does (address_of q f) (lowered e))
  pub value_grows : (e : Expr) → Grows (run.value does (address_of q f) (lowered e))
  pub test_grows : (e : Expr) → Grows (run.decide does (address_of q f) (lowered e))
  pub effect_grows : (e : Expr) → Grows (run.effect does (address_of q f) (lowered e))

module _ (q : Places) (p : ProgramTree) (f : ℕ) (g : FunctionTree) (function : slice_get p.functions f ≡ Some g) (places : ArePlaces q p) (functions : ℕ → Option Signature) (calls : plain.Calls) (work : CallsWork) (does : run.Calls) (n : ℕ)
    (keep : ExpressionsKeep q p f (object_in p g) functions calls work does)
    (locals : (n : ℕ) (o : ObjectTree) → slice_get g.locals n ≡ Some o → IsObject p o × AllByRecursion StartsWithWord o.initial) where
  -- in this function
  abbrev RunHere : Names → Enclosing → (Env → source.Does execution.Flow) → Does Tree Flow → Type 0
  RunHere names c s d = Runs q p f (object_in p g) (points g.result) names c s d

  abbrev Lowered : Stmt → Does Tree Flow
  Lowered s = run.exec does (address_of q f) q g.locals n (lowered_statement s)

  -- a statement, by what it does with what it costs
  counted_runs : {names : Names} {c : Enclosing} {s r : Env → source.Does execution.Flow} {d : Does Tree Flow} → ((env : Env) → r env ≡ s env) → RunHere names c s d → RunHere names c r d
  counted_runs {c = c} {d = d} is runs = record {
    by = λ env seats around hs w t a. subst (λ f. Rel (Left seats hs (points g.result) c) (f w) (d t)) (sym (is env)) (runs.by env seats around hs w t a);
    grows = runs.grows;
  }

  module _ (names : Names) (known : names.function ≡ functions) where
    asks : (e : Expr) → IsTest names e → UsesWords e → CallsOf p f (uses e) → Asks q p f (object_in p g) names.object (λ env. evaluation.condition calls work env e) (run.decide does (address_of q f) (lowered e))
    asks e typed words calling = record {
      by = λ env seats around hs w t a.
          subst (λ test. Rel (Same seats hs) (test w) (run.decide does (address_of q f) (lowered e) t)) (sym (condition_counted calls work env e)) ((keep.test names known env seats around e typed words calling).by (plain.expression_place e) hs w t a);
      grows = keep.test_grows e;
    }

    acts : (e : Expr) → IsWellTyped names e → UsesWords e → CallsOf p f (uses e) → Acts q p f (object_in p g) names.object (λ env. source.◌>>=◌ (evaluation.eval calls work env e) (λ _. source.give (tt {0}))) (run.effect does (address_of q f) (lowered e))
    acts e typed words calling = record {
      by = λ env seats around hs w t a.
          dropped seats hs (evaluation.eval calls work env e w) (run.effect does (address_of q f) (lowered e) t) ((keep.effect names known env seats around e typed words calling).by hs w t a);
      grows = keep.effect_grows e;
    }
      where
        dropped : (seats : Seats) (hs : List Held) (x : source.Res (Option Value)) (y : Res Tree (Unit {0})) → Rel (Nothing seats hs) x y → Rel (Still seats hs) (source.after x (λ _. source.give (tt {0}))) y
        dropped seats hs x y h = followed (Nothing seats hs) (Still seats hs) x y (λ _. source.give (tt {0})) h (λ a b w t e. e)

    optional_asks : (e : Option Expr) → IsOptionalTest names e → OptionalUsesWords e → CallsOf p f (optional_uses e)
        → Asks q p f (object_in p g) names.object (λ env. execution.test_or_true calls work env e) (run.optional_test does (address_of q f) q g.locals n (lowered_optional e))
    optional_asks None typed words calling = record {
      by = λ env seats around hs w t a. subst (λ test. Rel (Same seats hs) (test w) (Gives true t)) (sym (no_test_counted calls work env)) (refl, a);
      grows = give_grows true;
    }
    optional_asks (Some e) typed words calling = asks e typed words calling

    optional_acts : (e : Option Expr) → IsOptional names e → OptionalUsesWords e → CallsOf p f (optional_uses e)
        → Acts q p f (object_in p g) names.object (λ env. execution.third_of calls work env e) (run.optional_effect does (address_of q f) q g.locals n (lowered_optional e))
    optional_acts None typed words calling = record {
      by = λ env seats around hs w t a. subst (λ part. Rel (Still seats hs) (part w) (Gives (tt {0}) t)) (sym (no_third_counted calls work env)) a;
      grows = give_grows (tt {0});
    }
    optional_acts (Some e) typed words calling =
        let act = acts e typed words calling in
        record {
          by = λ env seats around hs w t a. subst (λ part. Rel (Still seats hs) (part w) (run.effect does (address_of q f) (lowered e) t)) (sym (third_counted calls work env e)) (act.by env seats around hs w t a);
          grows = act.grows;
        }

    nothing_acts : Acts q p f (object_in p g) names.object (λ env. source.give (tt {0})) (give (tt {0}))
    nothing_acts = record { by = λ env seats around hs w t a. a; grows = give_grows (tt {0}) }

    return_keeps : (c : Enclosing) (e : Option Expr) → IsReturned names g.result e → OptionalUsesWords e → CallsOf p f (optional_uses e)
        → RunHere names c (λ env. execution.exec calls work n (tree.Return e) env) (run.exec does (address_of q f) q g.locals n (word.Return (lowered_optional e)))
    return_keeps c None typed words calling = counted_runs (return_counted calls work n) (ticked_runs q p f (object_in p g) (points g.result) 3 (return_runs q p f (object_in p g) (points g.result) names c))
    return_keeps c (Some e) typed words calling =
        counted_runs (return_value_counted calls work n e)
        (ticked_runs q p f (object_in p g) (points g.result) 3
        (return_value_runs q p f (object_in p g) (points g.result) c
        (λ env seats around. subst (λ k. Values seats (points k) (evaluation.value calls work env e) (run.value does (address_of q f) (lowered e))) typed.1 (keep.value names known env seats around e typed.0.0 words calling)) (keep.value_grows e)))

    -- an expression whose value isn't used
    unused_keeps : (c : Enclosing) (e : Expr) → IsWellTyped names e → UsesWords e → CallsOf p f (uses e)
        → RunHere names c (λ env. source.◌>>=◌ (evaluation.eval calls work env e) (λ _. source.give execution.Next)) (run.effect does (address_of q f) (lowered e) >>= λ _. give Next)
    unused_keeps c e typed words calling = record {
      by = λ env seats around hs w t a.
          rel_after (Nothing seats hs) (Left seats hs (points g.result) c) (evaluation.eval calls work env e w) (run.effect does (address_of q f) (lowered e) t) _ _ ((keep.effect names known env seats around e typed words calling).by hs w t a) (λ _. give_grows Next)
          (λ x y w t e. e);
      grows = bind_grows (keep.effect_grows e) (λ _. give_grows Next);
    }

  module _ (names : Names) (c : Enclosing) where
    -- behind a part that gives nothing
    behind_act : {s : Env → source.Does (Unit {0})} {d : Does Tree (Unit {0})} {r : Env → source.Does execution.Flow} {e : Does Tree Flow} → Acts q p f (object_in p g) names.object s d → RunHere names c r e
        → RunHere names c (λ env. source.◌>>=◌ (s env) (λ _. r env)) (d >>= λ _. e)
    behind_act {s = s} {d = d} act next = record {
      by = λ env seats around hs w t a. rel_after (Still seats hs) (Left seats hs (points g.result) c) (s env w) (d t) _ _ (act.by env seats around hs w t a) (λ _. next.grows) (λ x y w t e. next.by env seats around hs w t e);
      grows = bind_grows act.grows (λ _. next.grows);
    }

    either_runs : {s r : Env → source.Does execution.Flow} {d e : Does Tree Flow} (b : Bool) → RunHere names c s d → RunHere names c r e → RunHere names c (λ env. evaluation.choose b (s env) (r env)) (choose b d e)
    either_runs true h k = h
    either_runs false h k = k

  mutual
    pub statement_keeps : (names : Names) → names.function ≡ functions → AreObjects (object_in p g) names.object → (c : Enclosing) (s : Stmt) → IsWellFormed (object_in p g) g.result names c s → StatementUsesWords s → CallsOf p f (statement_uses s)
        → RunHere names c (λ env. execution.exec calls work n s env) (Lowered s)
    statement_keeps names known objects c (tree.Block declared ss) formed words calling =
        counted_runs (block_counted calls work n declared ss)
        (ticked_runs q p f (object_in p g) (points g.result) 1
        (block_runs q p f (object_in p g) (points g.result) declared (λ env seats around hs w t a. enter_keeps q p f g function places names env seats hs w t declared formed.0 around a)
        (statements_keep (opened (object_in p g) declared names) known (opened_objects (object_in p g) declared names objects) c ss formed.1 words calling)))
    statement_keeps names known objects c (tree.Fill k) formed words calling = fill_keeps q p f g function places locals names c k objects formed
    statement_keeps names known objects c (tree.Do_expr e) formed words calling =
        counted_runs (do_counted calls work n e)
        (ticked_runs q p f (object_in p g) (points g.result) 1 (unused_keeps names known c e formed words calling))
    statement_keeps names known objects c (tree.If e a b) formed words calling =
        counted_runs (if_counted calls work n e a b)
        (ticked_runs q p f (object_in p g) (points g.result) 6
        (choose_runs q p f (object_in p g) (points g.result) (asks names known e formed.0 words.0 (calls_left p f (uses e) (statement_uses a ++ statement_uses b) calling))
        (statement_keeps names known objects c a formed.1 words.1 (calls_left p f (statement_uses a) (statement_uses b) (calls_right p f (uses e) (statement_uses a ++ statement_uses b) calling)))
        (statement_keeps names known objects c b formed.2 words.2 (calls_right p f (statement_uses a) (statement_uses b) (calls_right p f (uses e) (statement_uses a ++ statement_uses b) calling)))))
    statement_keeps names known objects c (tree.While e a) formed words calling =
        counted_runs (while_counted calls work n e a)
        (ticked_runs q p f (object_in p g) (points g.result) 14
        (loop_runs q p f (object_in p g) (points g.result) names c (asks names known e formed.0 words.0 (calls_left p f (uses e) (statement_uses a) calling))
        (statement_keeps names known objects within.Loop a formed.1 words.1 (calls_right p f (uses e) (statement_uses a) calling)) (nothing_acts names known) n))
    statement_keeps names known objects c (tree.Do_while a e) formed words calling =
        counted_runs (do_while_counted calls work n a e)
        (ticked_runs q p f (object_in p g) (points g.result) 14
        (loop_first_runs q p f (object_in p g) (points g.result) names c (asks names known e formed.1 words.1 (calls_right p f (statement_uses a) (uses e) calling))
        (statement_keeps names known objects within.Loop a formed.0 words.0 (calls_left p f (statement_uses a) (uses e) calling)) n))
    statement_keeps names known objects c (tree.For x y z a) formed words calling =
        let second = calls_right p f (optional_uses x) (optional_uses y ++ (optional_uses z ++ statement_uses a)) calling in
        let third = calls_right p f (optional_uses y) (optional_uses z ++ statement_uses a) second in
        counted_runs (for_counted calls work n x y z a)
        (ticked_runs q p f (object_in p g) (points g.result) 14
        (behind_act names c (optional_acts names known x formed.0 words.0 (calls_left p f (optional_uses x) (optional_uses y ++ (optional_uses z ++ statement_uses a)) calling))
        (loop_runs q p f (object_in p g) (points g.result) names c (optional_asks names known y formed.1 words.1 (calls_left p f (optional_uses y) (optional_uses z ++ statement_uses a) second))
        (statement_keeps names known objects within.Loop a formed.3 words.3 (calls_right p f (optional_uses z) (statement_uses a) third)) (optional_acts names known z formed.2 words.2 (calls_left p f (optional_uses z) (statement_uses a) third)) n)))
    statement_keeps names known objects c (tree.Switch e cs) formed words calling =
        let later : CallsOf p f (choices_uses cs) = calls_right p f (uses e) (use_of.Cases (case_count cs) ∷ choices_uses cs) calling in
        counted_runs (switch_counted calls work n e cs)
        (switch_runs q p f (object_in p g) (points g.result) names c cs
        (λ x. from_case_keeps names known objects (in_switch c) x cs formed.3 words.1 later) (from_default_keeps names known objects (in_switch c) cs formed.3 words.1 later)
        (8 + label_weights (lowered_choices cs))
        (λ env seats around. subst (λ b. Values seats b (evaluation.value calls work env e) (run.value does (address_of q f) (lowered e))) (integer_points (kind_of e) formed.1) (keep.value names known env seats around e formed.0 words.0 (calls_left p f (uses e) (use_of.Cases (case_count cs) ∷ choices_uses cs) calling)))
        (keep.value_grows e))
    statement_keeps names known objects c tree.Break formed words calling = ticked_runs q p f (object_in p g) (points g.result) 2 (break_runs q p f (object_in p g) (points g.result) names c formed)
    statement_keeps names known objects c tree.Continue formed words calling = ticked_runs q p f (object_in p g) (points g.result) 2 (continue_runs q p f (object_in p g) (points g.result) names c formed)
    statement_keeps names known objects c (tree.Return e) formed words calling = return_keeps names known c e formed words calling

    statements_keep : (names : Names) → names.function ≡ functions → AreObjects (object_in p g) names.object → (c : Enclosing) (ss : Stmts) → AreWellFormed (object_in p g) g.result names c ss → StatementsUseWords ss → CallsOf p f (statements_uses ss)
        → RunHere names c (λ env. execution.exec_all calls work n ss env) (run.exec_all does (address_of q f) q g.locals n (lowered_statements ss))
    statements_keep names known objects c tree.done formed words calling = counted_runs (λ env. next_counted calls work n) (next_runs q p f (object_in p g) (points g.result) names c)
    statements_keep names known objects c (tree.both s rest) formed words calling =
        counted_runs (both_counted calls work n s rest)
        (in_order_runs q p f (object_in p g) (points g.result) (statement_keeps names known objects c s formed.0 words.0 (calls_left p f (statement_uses s) (statements_uses rest) calling))
        (statements_keep names known objects c rest formed.1 words.1 (calls_right p f (statement_uses s) (statements_uses rest) calling)))

    from_case_keeps : (names : Names) → names.function ≡ functions → AreObjects (object_in p g) names.object → (c : Enclosing) (x : ℕ) (cs : Choices) → HasChoices (object_in p g) g.result names c cs → ChoicesUseWords cs → CallsOf p f (choices_uses cs)
        → RunHere names c (λ env. execution.from_case calls work n x cs env) (run.from_case does (address_of q f) q g.locals n x (lowered_choices cs))
    from_case_keeps names known objects c x tree.no_more formed words calling = counted_runs (λ env. next_counted calls work n) (next_runs q p f (object_in p g) (points g.result) names c)
    from_case_keeps names known objects c x (tree.case y rest) formed words calling =
        counted_runs (case_counted calls work n x y rest) (either_runs names c (x == y) (choices_keep names known objects c rest formed words.1 calling) (from_case_keeps names known objects c x rest formed words.1 calling))
    from_case_keeps names known objects c x (tree.default rest) formed words calling = from_case_keeps names known objects c x rest formed words calling
    from_case_keeps names known objects c x (tree.body s rest) formed words calling = from_case_keeps names known objects c x rest formed.1 words.1 (calls_right p f (statement_uses s) (choices_uses rest) calling)

    from_default_keeps : (names : Names) → names.function ≡ functions → AreObjects (object_in p g) names.object → (c : Enclosing) (cs : Choices) → HasChoices (object_in p g) g.result names c cs → ChoicesUseWords cs → CallsOf p f (choices_uses cs)
        → RunHere names c (λ env. execution.from_default calls work n cs env) (run.from_default does (address_of q f) q g.locals n (lowered_choices cs))
    from_default_keeps names known objects c tree.no_more formed words calling = counted_runs (λ env. next_counted calls work n) (next_runs q p f (object_in p g) (points g.result) names c)
    from_default_keeps names known objects c (tree.case y rest) formed words calling = from_default_keeps names known objects c rest formed words.1 calling
    from_default_keeps names known objects c (tree.default rest) formed words calling = choices_keep names known objects c rest formed words calling
    from_default_keeps names known objects c (tree.body s rest) formed words calling = from_default_keeps names known objects c rest formed.1 words.1 (calls_right p f (statement_uses s) (choices_uses rest) calling)

    choices_keep : (names : Names) → names.function ≡ functions → AreObjects (object_in p g) names.object → (c : Enclosing) (cs : Choices) → HasChoices (object_in p g) g.result names c cs → ChoicesUseWords cs → CallsOf p f (choices_uses cs)
        → RunHere names c (λ env. execution.run_choices calls work n cs env) (run.run_choices does (address_of q f) q g.locals n (lowered_choices cs))
    choices_keep names known objects c tree.no_more formed words calling = counted_runs (λ env. next_counted calls work n) (next_runs q p f (object_in p g) (points g.result) names c)
    choices_keep names known objects c (tree.case y rest) formed words calling = choices_keep names known objects c rest formed words.1 calling
    choices_keep names known objects c (tree.default rest) formed words calling = choices_keep names known objects c rest formed words calling
    choices_keep names known objects c (tree.body s rest) formed words calling =
        counted_runs (body_counted calls work n s rest)
        (in_order_runs q p f (object_in p g) (points g.result) (statement_keeps names known objects c s formed.0 words.0 (calls_left p f (statement_uses s) (choices_uses rest) calling))
        (choices_keep names known objects c rest formed.1 words.1 (calls_right p f (statement_uses s) (choices_uses rest) calling)))
