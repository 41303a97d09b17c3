-- Statements in memory, one behind another, and blocks of them.
use Rattle.std.proofs.Common.{◌≡◌, ℕ, ◌+◌, ◌<◌, ◌≤◌, List, [], ◌∷◌, ◌++◌, map, drop, get_or, length, refl, ap, sym, ◌∙◌, Vec, Global, subst}
use Rattle.std.specs.Prelude.{Result, Option}
use Rattle.std.proofs.Math.ListN.{drop_of_length-le}
use Rattle.c_syntax.specs.declared.decl.Decl.{Decl}
use Rattle.c_syntax.specs.declared.stmt.Stmt.{Stmt}
use Rattle.c_syntax.specs.declared.stmt.StmtKind as kind
use Rattle.c_tree.specs.declared.typed_statement.TypedStmt as memory
use Rattle.c_tree.specs.declared.typed_statement.TypedStmt.{TypedStmt}
use Rattle.c_tree.specs.Eval.{kind_of}
use Rattle.c_syntax.specs.SyntaxTree as tree
use Rattle.c_syntax.specs.SyntaxTree.{DeclarationTree, Expression, Statement, Statements}
use Rattle.c_syntax.specs.SyntaxView.{statement_of, body_of, declaration_of}
use Rattle.c_tree.specs.TypedTree as typed
use Rattle.c_tree.specs.TypedTree.{Expr, Stmts, Block, Do_while, For, If, While, both, done}
use Rattle.c_tree.specs.declared.program.VarRef.{VarRef}
use Rattle.c_tree.specs.View.{option_expr_of, stmt_of, statement_list}
use Rattle.c_tree.proofs.Views.{block_of_list}
use Rattle.c_rules.proofs.Turns.{first_left}
use Rattle.c_types.specs.declared.blocks.Body.{Body}
use Rattle.c_types.specs.declared.blocks.Opening.{Opening}
use Rattle.c_rules.specs.declared.fault.Refusal.{Refusal}
use Rattle.c_rules.specs.declared.fault.Refusal.TheVariants as refusals
use Rattle.c_rules.specs.declared.fault.Rule.{Rule}
use Rattle.c_rules.specs.declared.fault.Rule.TheVariants.{Mismatch}
use Rattle.c_tree.specs.declared.enclosing.Enclosing.{Enclosing}
use Rattle.c_tree.specs.declared.enclosing.Enclosing.TheVariants as around
use Rattle.c_rules.specs.Answers.{Follows, Refuses}
use Rattle.c_types.specs.Bodies.{behind, block_in, else_in, for_in, statement_in, statements_in, tested_in}
use Rattle.c_types.specs.declared.statements.ForHead.{ForHead}
use Rattle.c_rules.specs.Kinds.{is_void}
use Rattle.c_rules.specs.Outcome.{Outcome, Is, Broken, ◌>>=◌, breaks}
use Rattle.c_rules.specs.Statements.{LocalTree, Opened, Typed, just, before, declarations, typed_statement, typed_statements, is_void_test, optional}
use Rattle.c_scopes.specs.Tables.{scope_of}
use Rattle.c_rules.specs.Typing.{typing}
use Rattle.c_types.specs.BodyView.{context_of, locals_of, opened_of, typed_in}
use Rattle.c_scopes.proofs.ScopesKept.{innermost}
use Rattle.c_types.proofs.SyntaxRows.{block_of}

-- what was typed of a list, what is left of it, and what stays as it was
pub record StatementsSoFar (first now : Body) (c : Enclosing) (all rest : List Stmt) (there so_far : List TypedStmt) : Type 0 where
  pub typed : behind there (statements_in first c (body_of all)) ≡ behind so_far (statements_in now c (body_of rest))
  pub kept : context_of now ≡ context_of first

before_more : (there : List TypedStmt) (t : TypedStmt) (rest : Stmts) → before (map stmt_of there) (both (stmt_of t) rest) ≡ before (map stmt_of (there ++ t ∷ [])) rest
before_more [] t rest = refl
before_more (x ∷ xs) t rest = ap (both (stmt_of x)) (before_more xs t rest)

before_done : (there : List TypedStmt) → before (map stmt_of there) done ≡ statement_list there
before_done [] = refl
before_done (x ∷ xs) = ap (both (stmt_of x)) (before_done xs)

one_more : (there : List TypedStmt) (t : TypedStmt) (o : Outcome (Typed Stmts)) → behind there (o >>= λ r. just (both (stmt_of t) r.tree) r.locals) ≡ behind (there ++ t ∷ []) o
one_more there t (Is r) = ap (λ b. just b r.locals) (before_more there t r.tree)
one_more there t (Broken rule at) = refl

unbroken : (there : List TypedStmt) (o : Outcome (Typed Stmts)) (rule : Rule) (at : ℕ) → behind there o ≡ Broken rule at → o ≡ Broken rule at
unbroken there (Is r) rule at h = cc
unbroken there (Broken other place) rule at h = h

-- an if, a while and a for behind their parts
pub if_rest : (b n : Body) (c : Enclosing) (e : Expression) (s : Statement) (at : ℕ) (x : Expr) (p : typed.Stmt) → typing (scope_of b.scopes) e ≡ Is x → statement_in b c s ≡ just p (locals_of n)
    → tested_in n at x (If x p (Block [] done)) ≡ statement_in b c (tree.If e s at)
if_rest b n c e s at x p test h = sym
    (ap (λ o. o >>= λ x. statement_in b c s >>= λ p. breaks (is_void (kind_of x)) Mismatch at (just (If x p.tree (Block [] done)) p.locals)) test
    ∙ ap (λ o. o >>= λ p. breaks (is_void (kind_of x)) Mismatch at (just (If x p.tree (Block [] done)) p.locals)) h)

pub while_rest : (b n : Body) (c : Enclosing) (e : Expression) (s : Statement) (at : ℕ) (x : Expr) (p : typed.Stmt) → typing (scope_of b.scopes) e ≡ Is x → statement_in b around.Loop s ≡ just p (locals_of n)
    → tested_in n at x (While x p) ≡ statement_in b c (tree.While e s at)
while_rest b n c e s at x p test h = sym
    (ap (λ o. o >>= λ x. statement_in b around.Loop s >>= λ p. breaks (is_void (kind_of x)) Mismatch at (just (While x p.tree) p.locals)) test
    ∙ ap (λ o. o >>= λ p. breaks (is_void (kind_of x)) Mismatch at (just (While x p.tree) p.locals)) h)

pub for_rest : (b n : Body) (c : Enclosing) (first test third : Option Expression) (s : Statement) (at : ℕ) (head : ForHead) (p : typed.Stmt)
    → optional (scope_of b.scopes) first ≡ Is (option_expr_of head.first.value) → optional (scope_of b.scopes) test ≡ Is (option_expr_of head.test.value)
    → optional (scope_of b.scopes) third ≡ Is (option_expr_of head.third.value) → statement_in b around.Loop s ≡ just p (locals_of n)
    → for_in n at head p ≡ statement_in b c (tree.For first test third s at)
for_rest b n c first test third s at head p begins tests steps h =
    let over = λ (x y z : Option Expr). statement_in b around.Loop s >>= λ p. breaks (is_void_test y) Mismatch at (just (For x y z p.tree) p.locals)
    in sym
    (ap (λ o. o >>= λ x. optional (scope_of b.scopes) test >>= λ y. optional (scope_of b.scopes) third >>= λ z. over x y z) begins
    ∙ ap (λ o. o >>= λ y. optional (scope_of b.scopes) third >>= λ z. over (option_expr_of head.first.value) y z) tests
    ∙ ap (λ o. o >>= λ z. over (option_expr_of head.first.value) (option_expr_of head.test.value) z) steps
    ∙ ap (λ o. o >>= λ p. breaks (is_void_test (option_expr_of head.test.value)) Mismatch at (just (For (option_expr_of head.first.value) (option_expr_of head.test.value) (option_expr_of head.third.value) p.tree) p.locals)) h)

-- the second arm of an if
pub arms_rest : (n m : Body) (c : Enclosing) (s : Statement) (at : ℕ) (x : Expr) (p q : typed.Stmt) → statement_in n c s ≡ just q (locals_of m)
    → tested_in m at x (If x p q) ≡ else_in n c at x p s
arms_rest n m c s at x p q h = sym (ap (λ o. o >>= λ q. breaks (is_void (kind_of x)) Mismatch at (just (If x p q.tree) q.locals)) h)

module _ (b n : Body) (kept : context_of n ≡ context_of b) where
  -- the test of a do behind its body
  pub do_rest : (c : Enclosing) (s : Statement) (e : Expression) (at : ℕ) (p : typed.Stmt) → statement_in b around.Loop s ≡ just p (locals_of n)
      → (typing (scope_of n.scopes) e >>= λ x. breaks (is_void (kind_of x)) Mismatch at (just (Do_while p x) (locals_of n))) ≡ statement_in b c (tree.DoWhile s e at)
  do_rest c s e at p h = sym
      (ap (λ o. o >>= λ q. typing (scope_of b.scopes) e >>= λ x. breaks (is_void (kind_of x)) Mismatch at (just (Do_while q.tree x) q.locals)) h
      ∙ (λ i. typing (innermost (sym kept i).scopes) e >>= λ x. breaks (is_void (kind_of x)) Mismatch at (just (Do_while p x) (locals_of n))))

  statements_kept : (c : Enclosing) (ls : List LocalTree) (ss : Statements) → typed_statements n.result (scope_of n.scopes) c ls ss ≡ typed_statements b.result (scope_of b.scopes) c ls ss
  statements_kept c ls ss = λ i. typed_statements (kept i).result (innermost (kept i).scopes) c ls ss

  statement_kept : (c : Enclosing) (ls : List LocalTree) (s : Statement) → typed_statement n.result (scope_of n.scopes) c ls s ≡ typed_statement b.result (scope_of b.scopes) c ls s
  statement_kept c ls s = λ i. typed_statement (kept i).result (innermost (kept i).scopes) c ls s

  -- the else of an if behind its first arm
  pub else_rest : (c : Enclosing) (e : Expression) (one other : Statement) (at : ℕ) (x : Expr) (p : typed.Stmt) → typing (scope_of b.scopes) e ≡ Is x → statement_in b c one ≡ just p (locals_of n)
      → (statement_in n c other >>= λ q. breaks (is_void (kind_of x)) Mismatch at (just (If x p q.tree) q.locals)) ≡ statement_in b c (tree.IfElse e one other at)
  else_rest c e one other at x p test h = sym
      (ap (λ o. o >>= λ x. statement_in b c one >>= λ p. typed_statement b.result (scope_of b.scopes) c p.locals other >>= λ q. breaks (is_void (kind_of x)) Mismatch at (just (If x p.tree q.tree) q.locals)) test
      ∙ ap (λ o. o >>= λ p. typed_statement b.result (scope_of b.scopes) c p.locals other >>= λ q. breaks (is_void (kind_of x)) Mismatch at (just (If x p.tree q.tree) q.locals)) h
      ∙ ap (λ o. o >>= λ q. breaks (is_void (kind_of x)) Mismatch at (just (If x p q.tree) q.locals)) (sym (statement_kept c (locals_of n) other)))

  -- one statement of a list
  pub turn : (c : Enclosing) (list : List Stmt) (i : ℕ) (s : Stmt) (there : List TypedStmt) (t : TypedStmt) → s ≡ get_or list i s → i < length list
      → statement_in b c (statement_of s.kind s.at) ≡ just (stmt_of t) (locals_of n)
      → behind there (statements_in b c (body_of (drop i list))) ≡ behind (there ++ t ∷ []) (statements_in n c (body_of (drop (i + 1) list)))
  turn c list i s there t is within h =
      ap (λ l. behind there (statements_in b c (body_of l))) (first_left list i s is within)
      ∙ ap (λ o. behind there (o >>= λ p. typed_statements b.result (scope_of b.scopes) c p.locals (body_of (drop (i + 1) list)) >>= λ r. just (both p.tree r.tree) r.locals)) h
      ∙ one_more there t (typed_statements b.result (scope_of b.scopes) c (locals_of n) (body_of (drop (i + 1) list)))
      ∙ ap (behind (there ++ t ∷ [])) (sym (statements_kept c (locals_of n) (body_of (drop (i + 1) list))))

-- the end of a list
pub ended : (n : Body) (c : Enclosing) (list : List Stmt) (i : ℕ) (so_far : List TypedStmt) → length list ≤ i
    → behind so_far (statements_in n c (body_of (drop i list))) ≡ just (statement_list so_far) (locals_of n)
ended n c list i so_far above =
    ap (λ l. behind so_far (statements_in n c (body_of l))) (drop_of_length-le list above)
    ∙ ap (λ b. just b (locals_of n)) (before_done so_far)

-- a statement that is refused
pub refused_here : (o : Outcome (Typed Stmts)) (n : Body) (c : Enclosing) (list : List Stmt) (i : ℕ) (s : Stmt) (there so_far : List TypedStmt) (f : Refusal) → s ≡ get_or list i s → i < length list
    → behind there o ≡ behind so_far (statements_in n c (body_of (drop i list))) → Refuses (statement_in n c (statement_of s.kind s.at)) f → Refuses o f
refused_here o n c list i s there so_far refusals.NoMemory is within before h = tt {0}
refused_here o n c list i s there so_far (refusals.Broken rule at) is within before h = unbroken there o rule at
    (before
    ∙ ap (λ l. behind so_far (statements_in n c (body_of l))) (first_left list i s is within)
    ∙ ap (λ o. behind so_far (o >>= λ p. typed_statements n.result (scope_of n.scopes) c p.locals (body_of (drop (i + 1) list)) >>= λ r. just (both p.tree r.tree) r.locals)) h)

-- statements that are put into a block
abbrev in_block : List VarRef → Outcome (Typed Stmts) → Outcome (Typed typed.Stmt)
in_block names o = o >>= λ r. just (Block names r.tree) r.locals

in_block_behind : (names : List VarRef) (there : List TypedStmt) (o : Outcome (Typed Stmts)) → (o >>= λ r. just (Block names (before (map stmt_of there) r.tree)) r.locals) ≡ in_block names (behind there o)
in_block_behind names there (Is r) = refl
in_block_behind names there (Broken rule at) = refl

-- a block of declarations and statements
pub block_typed : (b n m : Body) (start o : Opening) (l : Vec TypedStmt Global) (c : Enclosing) (ds : List DeclarationTree) (ss : Statements)
    → start.declared.items ≡ [] → start.statements.items ≡ [] → n.result ≡ b.result
    → declarations (opened_of b start) ds ≡ Is (opened_of n o)
    → behind o.statements.items (statements_in n c ss) ≡ just (statement_list l.items) (locals_of m)
    → block_in b c ds ss ≡ just (stmt_of (memory.Block o.declared l)) (locals_of m)
block_typed b n m start o l c ds ss no_name no_statement returned opened listed =
    let rest = λ (x : Opened). typed_statements b.result x.scope c x.locals ss >>= λ r. just (Block x.declared (before x.statements r.tree)) r.locals in
    (λ i. declarations (record { scope = scope_of b.scopes; locals = locals_of b; declared = sym no_name i; statements = map stmt_of (sym no_statement i) }) ds >>= rest)
    ∙ ap (λ x. x >>= rest) opened
    ∙ (λ i. typed_statements (sym returned i) (scope_of n.scopes) c (locals_of n) ss >>= λ r. just (Block o.declared.items (before (map stmt_of o.statements.items) r.tree)) r.locals)
    ∙ in_block_behind o.declared.items o.statements.items (statements_in n c ss)
    ∙ ap (in_block o.declared.items) listed
    ∙ ap (λ t. just t (locals_of m)) (sym (block_of_list o.declared l))

-- what is known of a block of lists is known of the statement
same_block : (s : Stmt) (ds : Vec Decl Global) (l : Vec Stmt Global) (dl : List Decl) (sl : List Stmt) → s.kind ≡ kind.Block ds l → dl ≡ ds.items → sl ≡ l.items
    → tree.Block (map declaration_of dl) (body_of sl) s.at ≡ statement_of s.kind s.at
same_block s ds l dl sl k p q = (λ i. tree.Block (map declaration_of (p i)) (body_of (q i)) s.at) ∙ sym (block_of ds l s.at) ∙ ap (λ x. statement_of x s.at) (sym k)

pub block_follows : (b n : Body) (c : Enclosing) (r : Result TypedStmt Refusal) (s : Stmt) (ds : Vec Decl Global) (l : Vec Stmt Global) (dl : List Decl) (sl : List Stmt) → s.kind ≡ kind.Block ds l → dl ≡ ds.items → sl ≡ l.items
    → Follows (λ t. typed_in n (stmt_of t)) (statement_in b c (tree.Block (map declaration_of dl) (body_of sl) s.at)) r → Follows (λ t. typed_in n (stmt_of t)) (statement_in b c (statement_of s.kind s.at)) r
block_follows b n c r s ds l dl sl k p q h =
    let P : Statement → Type 0 = λ f. Follows (λ t. typed_in n (stmt_of t)) (statement_in b c f) r in
    subst P (same_block s ds l dl sl k p q) h

-- what is known of a statement's form is known of the statement
pub form_follows : (b n : Body) (c : Enclosing) (r : Result TypedStmt Refusal) (s : Stmt) (f : Statement) → statement_of s.kind s.at ≡ f → Follows (λ t. typed_in n (stmt_of t)) (statement_in b c f) r → Follows (λ t. typed_in n (stmt_of t)) (statement_in b c (statement_of s.kind s.at)) r
form_follows b n c r s f same h =
    let P : Statement → Type 0 = λ f. Follows (λ t. typed_in n (stmt_of t)) (statement_in b c f) r in
    subst P (sym same) h

-- what is known of one outcome is known of the same
pub same_follows : (o p : Outcome (Typed typed.Stmt)) (n : Body) (r : Result TypedStmt Refusal) → o ≡ p → Follows (λ t. typed_in n (stmt_of t)) o r → Follows (λ t. typed_in n (stmt_of t)) p r
same_follows o p n r e h =
    let P : Outcome (Typed typed.Stmt) → Type 0 = λ x. Follows (λ t. typed_in n (stmt_of t)) x r in
    subst P e h
