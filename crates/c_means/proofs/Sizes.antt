-- The nodes of expressions and statements, by which an evaluation is seen to end.
use Rattle.std.proofs.Common.{◌≡◌, ◌≤◌, ◌<◌, ◌∙◌, sym, ap, subst, ℕ, suc, ◌+◌, ◌*◌, max, List, [], ◌∷◌, map, get_or, length, Option, Some, None, arith}
use Rattle.std.specs.Prelude.{slice_get, option_map}
use Rattle.std.proofs.lemmas.Option.{slice_get-map}
use Rattle.c_tree.proofs.Members.{member_got}
use Rattle.c_tree.proofs.Arguments.{argument_within}
use Rattle.c_tree.proofs.Statements.{statement_within}
use Rattle.c_tree.proofs.Choices.{choice_within}
use Rattle.c_tree.specs.declared.program.Program.{Program}
use Rattle.c_tree.specs.declared.program.Function.{Function}
use Rattle.c_tree.specs.declared.typed_expression.TypedExpr.{TypedExpr}
use Rattle.c_tree.specs.declared.typed_statement.TypedStmt.{TypedStmt}
use Rattle.c_tree.specs.declared.typed_statement.Choice.{Choice}
use Rattle.c_tree.specs.declared.typed_statement.Choice as choice
use Rattle.c_tree.specs.TypedTree as tree
use Rattle.c_tree.specs.TypedTree.{Expr, Node, Lvalue, Named, At, Form, Exprs, Stmt, Stmts, Choices, FunctionTree}
use Rattle.c_tree.specs.ProgramView.{program_of}
use Rattle.c_tree.specs.View.{function_of, expr_of, argument_list, stmt_of, statement_list, choice_list}
use Rattle.c_means.specs.declared.frame.Run.{Run}

abbrev mutual
  pub nodes : Expr → ℕ
  nodes (Node form kind at) = suc (form_nodes form)

  pub form_nodes : Form → ℕ
  form_nodes (tree.Const w) = 0
  form_nodes (tree.Read v) = 0
  form_nodes (tree.AddressOf v) = 0
  form_nodes (tree.Load e) = nodes e
  form_nodes (tree.Unary o e) = nodes e
  form_nodes (tree.Binary o a b) = nodes a + nodes b
  form_nodes (tree.And a b) = nodes a + nodes b
  form_nodes (tree.Or a b) = nodes a + nodes b
  form_nodes (tree.Not e) = nodes e
  form_nodes (tree.Pick c a b) = nodes c + (nodes a + nodes b)
  form_nodes (tree.Assign l e) = target_nodes l + nodes e
  form_nodes (tree.AssignOp o l e) = target_nodes l + nodes e
  form_nodes (tree.StepBefore up l) = target_nodes l
  form_nodes (tree.StepAfter up l) = target_nodes l
  form_nodes (tree.Call f es) = argument_nodes es
  form_nodes (tree.In port) = 0
  form_nodes (tree.Out port e) = nodes e
  form_nodes (tree.Comma a b) = nodes a + nodes b
  form_nodes (tree.Convert e) = nodes e

  pub target_nodes : Lvalue → ℕ
  target_nodes (Named v at) = 0
  target_nodes (At p at) = nodes p

  pub argument_nodes : Exprs → ℕ
  argument_nodes tree.none = 0
  argument_nodes (tree.more e es) = nodes e + argument_nodes es

abbrev pub option_nodes : Option Expr → ℕ
option_nodes None = 0
option_nodes (Some e) = nodes e

abbrev mutual
  pub statement_nodes : Stmt → ℕ
  statement_nodes (tree.Block declared ss) = suc (body_nodes ss)
  statement_nodes (tree.Fill n) = 1
  statement_nodes (tree.Do_expr e) = suc (nodes e)
  statement_nodes (tree.If e a b) = suc (nodes e + (statement_nodes a + statement_nodes b))
  statement_nodes (tree.While e a) = suc (nodes e + statement_nodes a)
  statement_nodes (tree.Do_while a e) = suc (nodes e + statement_nodes a)
  statement_nodes (tree.For x y z a) = suc (option_nodes x + (option_nodes y + (option_nodes z + statement_nodes a)))
  statement_nodes (tree.Switch e cs) = suc (nodes e + choice_nodes cs)
  statement_nodes tree.Break = 1
  statement_nodes tree.Continue = 1
  statement_nodes (tree.Return e) = suc (option_nodes e)

  pub body_nodes : Stmts → ℕ
  body_nodes tree.done = 0
  body_nodes (tree.both s rest) = statement_nodes s + body_nodes rest

  pub choice_nodes : Choices → ℕ
  choice_nodes tree.no_more = 0
  choice_nodes (tree.case w rest) = choice_nodes rest
  choice_nodes (tree.default rest) = choice_nodes rest
  choice_nodes (tree.body s rest) = statement_nodes s + choice_nodes rest

abbrev pub largest : List FunctionTree → ℕ
largest [] = 0
largest (f ∷ fs) = max (statement_nodes f.body) (largest fs)

-- more than a body takes
pub room : Program → ℕ
room p = 16 * largest (program_of p).functions + 32

-- what the calls may take that can still be nested
pub below : Run → ℕ
below r = r.depth * room r.program.now

pub get_mapped : {A B : Type 0} (f : A → B) (xs : List A) (k : ℕ) (x : A) → slice_get xs k ≡ Some x → slice_get (map f xs) k ≡ Some (f x)
get_mapped f xs k x at = slice_get-map f xs k ∙ ap (option_map f) at

pub get_missing : {A B : Type 0} (f : A → B) (xs : List A) (k : ℕ) → slice_get xs k ≡ None → slice_get (map f xs) k ≡ None
get_missing f xs k at = slice_get-map f xs k ∙ ap (option_map f) at

-- a body that is called is within the room of a call
within : (fs : List FunctionTree) (k : ℕ) (f : FunctionTree) → slice_get fs k ≡ Some f → statement_nodes f.body ≤ largest fs
within = member_got (λ f. statement_nodes f.body) largest (λ f fs. (omega arith, omega arith))

fits : (p : Program) (k : ℕ) (f : Function) → slice_get p.functions k ≡ Some f → 16 * statement_nodes (stmt_of f.body) + 1 < room p
unfolding room
fits p k f at = let small = within (map function_of p.functions) k (function_of f) (get_mapped function_of p.functions k f at) in omega (arith, small)

wider : (d n t : ℕ) → suc d * n ≡ t → n + d * n ≡ t
wider d n t is = grind (arith, is)

pub body_falls : (r next : Run) (k t : ℕ) → next.program ≡ r.program → r.depth ≡ suc next.depth → slice_get r.program.now.functions k ≡ Some next.function.now → below r ≡ t
    → below next + (16 * statement_nodes (stmt_of next.function.now.body) + 1) < t
unfolding below
body_falls r next k t same deep at now =
    let n = room r.program.now in
    let small = fits r.program.now k next.function.now at in
    let wide = wider next.depth n t (subst (λ d. d * n ≡ t) deep now) in
    subst (λ p. next.depth * room p.now + (16 * statement_nodes (stmt_of next.function.now.body) + 1) < t) (sym same) (omega (arith, small, wide))

-- an argument, a statement and a choice are within their lists
pub argument_in : (es : List TypedExpr) (k : ℕ) (e : TypedExpr) → e ≡ get_or es k e → k < length es → nodes (expr_of e) ≤ argument_nodes (argument_list es)
argument_in = argument_within nodes argument_nodes (λ e rest. (omega arith, omega arith))

pub statement_in : (ss : List TypedStmt) (k : ℕ) (s : TypedStmt) → s ≡ get_or ss k s → k < length ss → statement_nodes (stmt_of s) ≤ body_nodes (statement_list ss)
statement_in = statement_within statement_nodes body_nodes (λ s rest. (omega arith, omega arith))

pub choice_in : (cs : List Choice) (k : ℕ) (c : Choice) (s : TypedStmt) → c ≡ get_or cs k c → c ≡ choice.Body s → k < length cs → statement_nodes (stmt_of s) ≤ choice_nodes (choice_list cs)
choice_in = choice_within statement_nodes choice_nodes (λ w rest. omega arith) (λ rest. omega arith) (λ s rest. (omega arith, omega arith))
