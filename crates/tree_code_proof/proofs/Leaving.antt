-- Statements one behind another, blocks, choices and returns, from what their parts keep.
use Rattle.std.proofs.Common.{◌≡◌, ℕ, Bool, true, List, Option, Some, None, refl, sym, subst}
use Rattle.c_tree.specs.declared.enclosing.Enclosing.{Enclosing}
use Rattle.c_tree.specs.declared.program.VarRef.{VarRef}
use Rattle.c_tree.specs.TypedTree.{ProgramTree}
use Rattle.tree_code_proof.specs.Counted as source
use Rattle.c_tree.specs.Store.{Value}
use Rattle.tree_code_proof.specs.Counted.{World}
use Rattle.tree_code_proof.specs.Evaluated as evaluation
use Rattle.c_tree.specs.Eval.{Env}
use Rattle.tree_code_proof.specs.Executed as execution
use Rattle.c_tree.specs.Labels.{may_break, may_continue}
use Rattle.c_tree.specs.WellFormed.{Shape, Names}
use Rattle.ir_semantics.specs.Outside.{Places}
use Rattle.ir_semantics.specs.Parts.{Does, Gives, Flow, Next, Broke, Continued, Returned, ◌>>=◌, give, choose, in_order}
use Rattle.ir_semantics.specs.TreeRun as run
use Rattle.ir_semantics.specs.TreeRun.{Tree, tick}
use Rattle.tree_code_proof.specs.Seats.{Seats}
use Rattle.tree_code_proof.specs.Beside.{Held, Alike}
use Rattle.tree_code_proof.specs.Surroundings.{Surrounds}
use Rattle.tree_code_proof.proofs.Growing.{Grows, give_grows, bind_grows, ticked, choose_grows}
use Rattle.tree_code_proof.proofs.GrowingStatements.{in_order_grows, returning_grows}
use Rattle.tree_code_proof.proofs.Rules.{Post, Rel, rel_after}
use Rattle.tree_code_proof.proofs.Reading.{Valued}
use Rattle.tree_code_proof.proofs.Forms.{Values, worked, followed}
use Rattle.tree_code_proof.proofs.Truths.{Same}
use Rattle.tree_code_proof.proofs.Joining.{chosen}
use Rattle.tree_code_proof.proofs.Interfaces.{Given, Left, Runs, Entered}

-- the word that a function returns is known
resulted : (seats : Seats) (hs : List Held) (w : World) (t : Tree) (r : Option ℕ) → Alike seats hs w t → Alike seats hs w (record t { result = r })
resulted seats hs w t r a = record { seated = a.seated; rooms = a.rooms; least = a.least; unmade = a.unmade; kinds = a.kinds; objects = a.objects; held = a.held; input = a.input; words = a.words; outs = a.outs; work = a.work }

-- a test, and a part whose value isn't used, wherever their function runs
pub record Asks (q : Places) (p : ProgramTree) (f : ℕ) (objects names : VarRef → Option Shape) (s : Env → source.Does Bool) (does : Does Tree Bool) : Type 0 where
  pub by : (env : Env) (seats : Seats) → Surrounds q p f objects names env seats → (hs : List Held) (w : World) (t : Tree) → Alike seats hs w t → Rel (Same seats hs) (s env w) (does t)
  pub grows : Grows does

abbrev pub Still : {A B : Type 0} → Seats → List Held → Post A B
Still seats hs a b w t = Alike seats hs w t

pub record Acts (q : Places) (p : ProgramTree) (f : ℕ) (objects names : VarRef → Option Shape) (s : Env → source.Does (Unit {0})) (does : Does Tree (Unit {0})) : Type 0 where
  pub by : (env : Env) (seats : Seats) → Surrounds q p f objects names env seats → (hs : List Held) (w : World) (t : Tree) → Alike seats hs w t → Rel (Still seats hs) (s env w) (does t)
  pub grows : Grows does

module _ (q : Places) (p : ProgramTree) (f : ℕ) (objects : VarRef → Option Shape) (pointing : Bool) where
  -- nothing is done
  pub next_runs : (names : Names) (c : Enclosing) → Runs q p f objects pointing names c (λ env. source.give execution.Next) (give Next)
  next_runs names c = record { by = λ env seats around hs w t a. a; grows = give_grows Next }

  -- a node counts
  pub ticked_runs : {names : Names} {c : Enclosing} {s : Env → source.Does execution.Flow} {does : Does Tree Flow} (k : ℕ) → Runs q p f objects pointing names c s does → Runs q p f objects pointing names c (λ env. source.ticked k (s env)) (tick k >>= λ _. does)
  ticked_runs k h = record { by = λ env seats around hs w t a. h.by env seats around hs _ _ (worked seats hs w t _ a); grows = ticked k (λ _. h.grows) }

  -- behind a statement of a list
  pub in_order_runs : {names : Names} {c : Enclosing} {s r : Env → source.Does execution.Flow} {does then_does : Does Tree Flow} → Runs q p f objects pointing names c s does → Runs q p f objects pointing names c r then_does
      → Runs q p f objects pointing names c (λ env. source.◌>>=◌ (s env) (λ flow. execution.in_order flow (r env))) (does >>= λ flow. in_order flow then_does)
  in_order_runs {names = names} {c = c} {s = s} {r = r} {does = does} {then_does = then_does} h k = record {
    by = λ env seats around hs w t a.
        rel_after (Left seats hs pointing c) (Left seats hs pointing c) (s env w) (does t) _ _ (h.by env seats around hs w t a) (λ flow. in_order_grows flow k.grows) (onward env seats around hs);
    grows = bind_grows h.grows (λ flow. in_order_grows flow k.grows);
  }
    where
      onward : (env : Env) (seats : Seats) → Surrounds q p f objects names.object env seats → (hs : List Held) (x : execution.Flow) (y : Flow) (w : World) (t : Tree) → Left seats hs pointing c x y w t
          → Rel (Left seats hs pointing c) (execution.in_order x (r env) w) (in_order y then_does t)
      onward env seats around hs execution.Next Next w t e = k.by env seats around hs w t e
      onward env seats around hs execution.Next Broke w t e = absurd e
      onward env seats around hs execution.Next Continued w t e = absurd e
      onward env seats around hs execution.Next Returned w t e = absurd e
      onward env seats around hs execution.Broke Next w t e = absurd e
      onward env seats around hs execution.Broke Broke w t e = e
      onward env seats around hs execution.Broke Continued w t e = absurd e
      onward env seats around hs execution.Broke Returned w t e = absurd e
      onward env seats around hs execution.Continued Next w t e = absurd e
      onward env seats around hs execution.Continued Broke w t e = absurd e
      onward env seats around hs execution.Continued Continued w t e = e
      onward env seats around hs execution.Continued Returned w t e = absurd e
      onward env seats around hs (execution.Returned v) Next w t e = absurd e
      onward env seats around hs (execution.Returned v) Broke w t e = absurd e
      onward env seats around hs (execution.Returned v) Continued w t e = absurd e
      onward env seats around hs (execution.Returned v) Returned w t e = e

  -- one of two statements
  pub choose_runs : {names : Names} {c : Enclosing} {test : Env → source.Does Bool} {decide : Does Tree Bool} {s r : Env → source.Does execution.Flow} {does other : Does Tree Flow} → Asks q p f objects names.object test decide
      → Runs q p f objects pointing names c s does → Runs q p f objects pointing names c r other
      → Runs q p f objects pointing names c (λ env. source.◌>>=◌ (test env) (λ t. evaluation.choose t (s env) (r env))) (decide >>= λ t. choose t does other)
  choose_runs {c = c} {test = test} {decide = decide} {s = s} {r = r} {does = does} {other = other} asks first second = record {
    by = λ env seats around hs w t a.
        rel_after (Same seats hs) (Left seats hs pointing c) (test env w) (decide t) _ _ (asks.by env seats around hs w t a) (λ b. choose_grows b first.grows second.grows)
        (λ x y w t e. chosen seats (Left seats hs pointing c) x y (s env) (r env) does other w t e.0 (first.by env seats around hs w t e.1) (second.by env seats around hs w t e.1));
    grows = bind_grows asks.grows (λ b. choose_grows b first.grows second.grows);
  }

  -- an expression
  pub act_runs : {names : Names} {s : Env → source.Does (Unit {0})} {does : Does Tree (Unit {0})} (c : Enclosing) → Acts q p f objects names.object s does
      → Runs q p f objects pointing names c (λ env. source.◌>>=◌ (s env) (λ _. source.give execution.Next)) (does >>= λ _. give Next)
  act_runs {s = s} {does = does} c act = record {
    by = λ env seats around hs w t a. rel_after (Still seats hs) (Left seats hs pointing c) (s env w) (does t) _ _ (act.by env seats around hs w t a) (λ _. give_grows Next) (λ x y w t e. e);
    grows = bind_grows act.grows (λ _. give_grows Next);
  }

  -- ways out
  pub break_runs : (names : Names) (c : Enclosing) → may_break c ≡ true → Runs q p f objects pointing names c (λ env. source.give execution.Broke) (give Broke)
  break_runs names c may = record { by = λ env seats around hs w t a. (may, a); grows = give_grows Broke }

  pub continue_runs : (names : Names) (c : Enclosing) → may_continue c ≡ true → Runs q p f objects pointing names c (λ env. source.give execution.Continued) (give Continued)
  continue_runs names c may = record { by = λ env seats around hs w t a. (may, a); grows = give_grows Continued }

  pub return_runs : (names : Names) (c : Enclosing) → Runs q p f objects pointing names c (λ env. source.give (execution.Returned None)) (run.returning None)
  return_runs names c = record { by = λ env seats around hs w t a. resulted seats hs w t None a; grows = returning_grows None }

  pub return_value_runs : {names : Names} {s : Env → source.Does Value} {does : Does Tree ℕ} (c : Enclosing) → ((env : Env) (seats : Seats) → Surrounds q p f objects names.object env seats → Values seats pointing (s env) does) → Grows does
      → Runs q p f objects pointing names c (λ env. source.◌>>=◌ (s env) (λ v. source.give (execution.Returned (Some v)))) (does >>= λ x. run.returning (Some x))
  return_value_runs {s = s} {does = does} c values grow = record {
    by = λ env seats around hs w t a.
        rel_after (Valued seats hs pointing) (Left seats hs pointing c) (s env w) (does t) _ _ ((values env seats around).by hs w t a) (λ x. returning_grows (Some x)) (λ v x w t e. resulted seats _ w t (Some x) e);
    grows = bind_grows grow (λ x. returning_grows (Some x));
  }

  -- the objects of a block end behind it
  ended : (seats : Seats) (hs : List Held) (c : Enclosing) (inner : Seats) (numbers : List ℕ)
      → ((kept : List Held) (v : World) (u : Tree) → Alike inner kept v u → (x : World) × ((execution.leave numbers v ≡ source.Gives (tt {0}) x) × Alike seats kept x u))
      → (x : execution.Flow) (y : Flow) (w : World) (t : Tree) → Left inner hs pointing c x y w t → Rel (Left seats hs pointing c) (source.after (execution.leave numbers w) (λ _. source.give x)) (Gives y t)
  ended seats hs c inner numbers back execution.Next Next w t e =
      let r = back hs w t e in subst (λ y. Rel (Left seats hs pointing c) (source.after y (λ _. source.give execution.Next)) (Gives Next t)) (sym r.1.0) r.1.1
  ended seats hs c inner numbers back execution.Next Broke w t e = absurd e
  ended seats hs c inner numbers back execution.Next Continued w t e = absurd e
  ended seats hs c inner numbers back execution.Next Returned w t e = absurd e
  ended seats hs c inner numbers back execution.Broke Next w t e = absurd e
  ended seats hs c inner numbers back execution.Broke Broke w t e =
      let r = back hs w t e.1 in subst (λ y. Rel (Left seats hs pointing c) (source.after y (λ _. source.give execution.Broke)) (Gives Broke t)) (sym r.1.0) (e.0, r.1.1)
  ended seats hs c inner numbers back execution.Broke Continued w t e = absurd e
  ended seats hs c inner numbers back execution.Broke Returned w t e = absurd e
  ended seats hs c inner numbers back execution.Continued Next w t e = absurd e
  ended seats hs c inner numbers back execution.Continued Broke w t e = absurd e
  ended seats hs c inner numbers back execution.Continued Continued w t e =
      let r = back hs w t e.1 in subst (λ y. Rel (Left seats hs pointing c) (source.after y (λ _. source.give execution.Continued)) (Gives Continued t)) (sym r.1.0) (e.0, r.1.1)
  ended seats hs c inner numbers back execution.Continued Returned w t e = absurd e
  ended seats hs c inner numbers back (execution.Returned v) Next w t e = absurd e
  ended seats hs c inner numbers back (execution.Returned v) Broke w t e = absurd e
  ended seats hs c inner numbers back (execution.Returned v) Continued w t e = absurd e
  ended seats hs c inner numbers back (execution.Returned v) Returned w t e = ended_with v t.result w t refl e
    where
      ended_with : (v : Option Value) (y : Option ℕ) (w : World) (t : Tree) → t.result ≡ y → Given inner hs pointing v y w t → Rel (Left seats hs pointing c) (source.after (execution.leave numbers w) (λ _. source.give (execution.Returned v))) (Gives Returned t)
      ended_with None None w t is e =
          let r = back hs w t e in
          subst (λ y. Rel (Left seats hs pointing c) (source.after y (λ _. source.give (execution.Returned None))) (Gives Returned t)) (sym r.1.0) (subst (λ z. Given seats hs pointing None z r.0 t) (sym is) r.1.1)
      ended_with None (Some y) w t is e = absurd e
      ended_with (Some v) None w t is e = absurd e
      ended_with (Some v) (Some x) w t is e =
          let r = back _ w t e in
          subst (λ y. Rel (Left seats hs pointing c) (source.after y (λ _. source.give (execution.Returned (Some v)))) (Gives Returned t)) (sym r.1.0) (subst (λ z. Given seats hs pointing (Some v) z r.0 t) (sym is) r.1.1)

  pub block_runs : {names inner : Names} {c : Enclosing} {s : Env → source.Does execution.Flow} {does : Does Tree Flow} (declared : List VarRef)
      → ((env : Env) (seats : Seats) → Surrounds q p f objects names.object env seats → (hs : List Held) (w : World) (t : Tree) → Alike seats hs w t → Entered q p f objects inner.object seats hs declared env w t)
      → Runs q p f objects pointing inner c s does
      → Runs q p f objects pointing names c (λ env. source.◌>>=◌ (execution.enter declared env) (λ e. source.◌>>=◌ (s e.0) (λ flow. source.◌>>=◌ (execution.leave e.1) (λ _. source.give flow)))) does
  block_runs {c = c} {s = s} {does = does} declared enter body = record {
    by = λ env seats around hs w t a.
        let e = enter env seats around hs w t a in
        subst (λ x. Rel (Left seats hs pointing c) (source.after x (λ e. source.◌>>=◌ (s e.0) (λ flow. source.◌>>=◌ (execution.leave e.1) (λ _. source.give flow)))) (does t)) (sym e.gives)
        (followed (Left e.seats hs pointing c) (Left seats hs pointing c) (s e.env e.world) (does t) _ (body.by e.env e.seats e.surrounds hs e.world t e.alike) (ended seats hs c e.seats e.numbers e.back));
    grows = body.grows;
  }
