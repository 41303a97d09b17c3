-- How many temporaries a body needs stays as it is once each object of its function has its number among its own kind.
use Rattle.std.proofs.Common.{◌≡◌, ◌+◌, ℕ, max, if◌then◌else◌, List, Option, Some, None, ap, ◌∙◌, refl}
use Rattle.c_tree.specs.c_syntax.declared.operator.UnaryOp.{UnaryOp}
use Rattle.c_tree.specs.c_syntax.declared.operator.UnaryOp.TheVariants as unary
use Rattle.c_tree.specs.declared.program.VarRef.{VarRef}
use Rattle.c_tree.specs.Temporaries.{is_constant, is_simple, unless_simple, temporaries, form_temporaries, target_temporaries, argument_temporaries, optional_temporaries, statement_temporaries, statements_temporaries, choices_temporaries}
use Rattle.c_tree.specs.TypedTree as tree
use Rattle.c_tree.specs.TypedTree.{Kind, Expr, Node, Lvalue, Named, At, Form, Exprs, Stmt, Stmts, Choices}
use Rattle.c_rules.specs.Renumbering as by

module _ (frame : List VarRef) where
  -- whether an operand is constant and whether it is simple
  abbrev IsAlike : Expr → Expr → Type 0
  IsAlike e f = (is_constant e ≡ is_constant f) × (is_simple e ≡ is_simple f)

  minus_alike : (form : Form) (k kind : Kind) (a at : ℕ)
      → IsAlike (Node (tree.Unary unary.Minus (Node (by.of_form frame form) k a)) kind at) (Node (tree.Unary unary.Minus (Node form k a)) kind at)
  minus_alike (tree.Const w) k kind place at = (refl, refl)
  minus_alike (tree.Read v) k kind place at = (refl, refl)
  minus_alike (tree.AddressOf v) k kind place at = (refl, refl)
  minus_alike (tree.Load e) k kind place at = (refl, refl)
  minus_alike (tree.Unary o e) k kind place at = (refl, refl)
  minus_alike (tree.Binary o a b) k kind place at = (refl, refl)
  minus_alike (tree.And a b) k kind place at = (refl, refl)
  minus_alike (tree.Or a b) k kind place at = (refl, refl)
  minus_alike (tree.Not e) k kind place at = (refl, refl)
  minus_alike (tree.Pick c a b) k kind place at = (refl, refl)
  minus_alike (tree.Assign l e) k kind place at = (refl, refl)
  minus_alike (tree.AssignOp o l e) k kind place at = (refl, refl)
  minus_alike (tree.StepBefore up l) k kind place at = (refl, refl)
  minus_alike (tree.StepAfter up l) k kind place at = (refl, refl)
  minus_alike (tree.Call f es) k kind place at = (refl, refl)
  minus_alike (tree.In port) k kind place at = (refl, refl)
  minus_alike (tree.Out port e) k kind place at = (refl, refl)
  minus_alike (tree.Comma a b) k kind place at = (refl, refl)
  minus_alike (tree.Convert e) k kind place at = (refl, refl)

  unary_alike : (o : UnaryOp) (e : Expr) (kind : Kind) (at : ℕ) → IsAlike (Node (tree.Unary o (by.expression frame e)) kind at) (Node (tree.Unary o e) kind at)
  unary_alike unary.Minus (Node form k a) kind at = minus_alike form k kind a at
  unary_alike unary.Plus (Node form k a) kind at = (refl, refl)
  unary_alike unary.Complement (Node form k a) kind at = (refl, refl)

  alike : (e : Expr) → IsAlike (by.expression frame e) e
  alike (Node (tree.Const w) kind at) = (refl, refl)
  alike (Node (tree.Read v) kind at) = (refl, refl)
  alike (Node (tree.AddressOf v) kind at) = (refl, refl)
  alike (Node (tree.Load e) kind at) = (refl, refl)
  alike (Node (tree.Unary o e) kind at) = unary_alike o e kind at
  alike (Node (tree.Binary o a b) kind at) = (refl, refl)
  alike (Node (tree.And a b) kind at) = (refl, refl)
  alike (Node (tree.Or a b) kind at) = (refl, refl)
  alike (Node (tree.Not e) kind at) = (refl, refl)
  alike (Node (tree.Pick c a b) kind at) = (refl, refl)
  alike (Node (tree.Assign l e) kind at) = (refl, refl)
  alike (Node (tree.AssignOp o l e) kind at) = (refl, refl)
  alike (Node (tree.StepBefore up l) kind at) = (refl, refl)
  alike (Node (tree.StepAfter up l) kind at) = (refl, refl)
  alike (Node (tree.Call f es) kind at) = (refl, refl)
  alike (Node (tree.In port) kind at) = (refl, refl)
  alike (Node (tree.Out port e) kind at) = (refl, refl)
  alike (Node (tree.Comma a b) kind at) = (refl, refl)
  alike (Node (tree.Convert e) kind at) = alike e

  both_most : {m n k l : ℕ} → m ≡ k → n ≡ l → max m n ≡ max k l
  both_most {n = n} {k = k} first last = ap (λ x. max x n) first ∙ ap (max k) last

  same_unless : (e : Expr) {m n : ℕ} → m ≡ n → unless_simple (by.expression frame e) m ≡ unless_simple e n
  same_unless e {n = n} same = ap (unless_simple (by.expression frame e)) same ∙ ap (λ b. if b then 0 else n) (alike e).1

  same_right : (a b : Expr) {m n : ℕ} → m ≡ n
      → (if is_constant (by.expression frame a) then m else unless_simple (by.expression frame b) (1 + m)) ≡ (if is_constant a then n else unless_simple b (1 + n))
  same_right a b {m = m} {n = n} same =
      ap (λ c. if c then m else unless_simple (by.expression frame b) (1 + m)) (alike a).0
      ∙ ap (λ k. if is_constant a then m else k) (same_unless b (ap (λ k. 1 + k) same))
      ∙ ap (λ k. if is_constant a then k else unless_simple b (1 + n)) same

  mutual
    same_needs : (e : Expr) → temporaries (by.expression frame e) ≡ temporaries e
    same_needs (Node form kind at) = form_needs form

    form_needs : (form : Form) → form_temporaries (by.of_form frame form) ≡ form_temporaries form
    form_needs (tree.Const w) = refl
    form_needs (tree.Read v) = refl
    form_needs (tree.AddressOf v) = refl
    form_needs (tree.Load e) = same_needs e
    form_needs (tree.Unary o e) = same_needs e
    form_needs (tree.Binary o a b) = both_most (same_needs a) (same_right a b (same_needs b))
    form_needs (tree.And a b) = both_most (same_needs a) (same_needs b)
    form_needs (tree.Or a b) = both_most (same_needs a) (same_needs b)
    form_needs (tree.Not e) = same_needs e
    form_needs (tree.Pick c a b) = both_most (same_needs c) (both_most (same_needs a) (same_needs b))
    form_needs (tree.Assign (Named v place) e) = same_needs e
    form_needs (tree.Assign (At p place) e) = both_most (same_needs p) (same_unless e (ap (λ n. 1 + n) (same_needs e)))
    form_needs (tree.AssignOp o (Named v place) e) = same_unless e (ap (λ n. 1 + n) (same_needs e))
    form_needs (tree.AssignOp o (At p place) e) = both_most (same_needs p) (same_unless e (ap (λ n. 2 + n) (same_needs e)))
    form_needs (tree.StepBefore up l) = target_needs l
    form_needs (tree.StepAfter up l) = target_needs l
    form_needs (tree.Call f es) = argument_needs es
    form_needs (tree.In port) = refl
    form_needs (tree.Out port e) = same_needs e
    form_needs (tree.Comma a b) = both_most (same_needs a) (same_needs b)
    form_needs (tree.Convert e) = same_needs e

    target_needs : (l : Lvalue) → target_temporaries (by.target frame l) ≡ target_temporaries l
    target_needs (Named v at) = refl
    target_needs (At p at) = same_needs p

    argument_needs : (es : Exprs) → argument_temporaries (by.arguments frame es) ≡ argument_temporaries es
    argument_needs tree.none = refl
    argument_needs (tree.more e tree.none) = same_needs e
    argument_needs (tree.more e (tree.more f rest)) = both_most (same_needs e) (ap (λ n. 1 + n) (argument_needs (tree.more f rest)))

  optional_needs : (e : Option Expr) → optional_temporaries (by.optional frame e) ≡ optional_temporaries e
  optional_needs None = refl
  optional_needs (Some e) = same_needs e

  mutual
    pub statement_needs : (s : Stmt) → statement_temporaries (by.statement frame s) ≡ statement_temporaries s
    statement_needs (tree.Block declared ss) = statements_needs ss
    statement_needs (tree.Fill n) = refl
    statement_needs (tree.Do_expr e) = same_needs e
    statement_needs (tree.If e a b) = both_most (same_needs e) (both_most (statement_needs a) (statement_needs b))
    statement_needs (tree.While e a) = both_most (same_needs e) (statement_needs a)
    statement_needs (tree.Do_while a e) = both_most (statement_needs a) (same_needs e)
    statement_needs (tree.For x y z a) = both_most (optional_needs x) (both_most (optional_needs y) (both_most (optional_needs z) (statement_needs a)))
    statement_needs (tree.Switch e cs) = both_most (same_needs e) (choices_needs cs)
    statement_needs tree.Break = refl
    statement_needs tree.Continue = refl
    statement_needs (tree.Return e) = optional_needs e

    statements_needs : (ss : Stmts) → statements_temporaries (by.statements frame ss) ≡ statements_temporaries ss
    statements_needs tree.done = refl
    statements_needs (tree.both s rest) = both_most (statement_needs s) (statements_needs rest)

    choices_needs : (cs : Choices) → choices_temporaries (by.choices frame cs) ≡ choices_temporaries cs
    choices_needs tree.no_more = refl
    choices_needs (tree.case w rest) = choices_needs rest
    choices_needs (tree.default rest) = choices_needs rest
    choices_needs (tree.body s rest) = both_most (statement_needs s) (choices_needs rest)
