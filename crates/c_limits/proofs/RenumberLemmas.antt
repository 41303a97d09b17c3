-- Forms and statements whose parts are renumbered.
use Rattle.std.proofs.Common.{◌≡◌, ℕ, List, map, ap, ◌∙◌, sym}
use Rattle.std.specs.Prelude.{Vec, Box}
use Rattle.std.specs.Global.{Global}
use Rattle.c_tree.specs.declared.program.VarRef.{VarRef}
use Rattle.c_tree.specs.declared.typed_expression.TypedExpr.{TypedExpr}
use Rattle.c_tree.specs.declared.typed_expression.ExprForm as form
use Rattle.c_tree.specs.declared.typed_expression.ExprForm.{ExprForm}
use Rattle.c_tree.specs.declared.typed_expression.Target.{Target}
use Rattle.c_tree.specs.declared.typed_statement.TypedStmt as stmt
use Rattle.c_tree.specs.declared.typed_statement.TypedStmt.{TypedStmt}
use Rattle.c_tree.specs.declared.typed_statement.Choice.{Choice}
use Rattle.c_tree.specs.TypedTree as tree
use Rattle.c_tree.specs.TypedTree.{Form, Stmt, Lvalue}
use Rattle.c_tree.specs.View.{expr_of, form_of, lvalue_of, argument_list, stmt_of, statement_list, choice_list}
use Rattle.c_tree.proofs.Views.{typed_call_form, block_of_list, switch_of_list}
use Rattle.c_rules.specs.Renumbering as by

-- a form of parts that are the same
pub alike : {A B C : Type 0} (node : A → B → C) {a c : A} {b d : B} → a ≡ c → b ≡ d → node a b ≡ node c d
alike node {c = c} {b = b} first second = ap (λ x. node x b) first ∙ ap (node c) second

module _ (frame : List VarRef) where
  -- a part of a form: what a box holds
  pub part : (new : TypedExpr) {old : TypedExpr} {held box : Box TypedExpr Global} → expr_of new ≡ by.expression frame (expr_of old) → old ≡ held.value → held ≡ box
      → expr_of new ≡ by.expression frame (expr_of box.value)
  part new made from is = made ∙ ap (λ e. by.expression frame (expr_of e)) (from ∙ ap (λ b. b.value) is)

  -- the place of a target
  pub goal_part : {lvalue : Lvalue} {held to : Target} → lvalue ≡ by.target frame (lvalue_of held.form held.at) → held ≡ to
      → lvalue ≡ by.target frame (lvalue_of to.form to.at)
  goal_part made is = made ∙ ap (λ to. by.target frame (lvalue_of to.form to.at)) is

  -- a form of which the parts are renumbered
  pub of_parts : {f g : ExprForm} {made : Form} → f ≡ g → made ≡ by.of_form frame (form_of g) → made ≡ by.of_form frame (form_of f)
  of_parts is made = made ∙ ap (λ h. by.of_form frame (form_of h)) (sym is)

  -- a statement of which the parts are renumbered, and one that a box holds
  pub of_statement_parts : {s t : TypedStmt} {made : Stmt} → s ≡ t → made ≡ by.statement frame (stmt_of t) → made ≡ by.statement frame (stmt_of s)
  of_statement_parts is made = made ∙ ap (λ u. by.statement frame (stmt_of u)) (sym is)

  pub body_part : (new : TypedStmt) {old : TypedStmt} {held box : Box TypedStmt Global} → stmt_of new ≡ by.statement frame (stmt_of old) → old ≡ held.value → held ≡ box
      → stmt_of new ≡ by.statement frame (stmt_of box.value)
  body_part new made from is = made ∙ ap (λ s. by.statement frame (stmt_of s)) (from ∙ ap (λ b. b.value) is)

  -- forms with lists
  pub call_renumbered : (f : ExprForm) (function : ℕ) (old new : Vec TypedExpr Global) → f ≡ form.Call function old
      → argument_list new.items ≡ by.arguments frame (argument_list old.items) → form_of (form.Call function new) ≡ by.of_form frame (form_of f)
  call_renumbered f function old new is made =
      typed_call_form function new ∙ ap (tree.Call function) made ∙ ap (by.of_form frame) (sym (ap form_of is ∙ typed_call_form function old))

  pub block_renumbered : (s : TypedStmt) (declared named : Vec VarRef Global) (old new : Vec TypedStmt Global) → s ≡ stmt.Block declared old
      → named.items ≡ map (by.renumbered frame) declared.items → statement_list new.items ≡ by.statements frame (statement_list old.items)
      → stmt_of (stmt.Block named new) ≡ by.statement frame (stmt_of s)
  block_renumbered s declared named old new is names made =
      block_of_list named new ∙ ap (λ l. tree.Block l (statement_list new.items)) names ∙ ap (tree.Block (map (by.renumbered frame) declared.items)) made
      ∙ ap (by.statement frame) (sym (ap stmt_of is ∙ block_of_list declared old))

  pub switch_renumbered : (s : TypedStmt) (value tested : TypedExpr) (old new : Vec Choice Global) → s ≡ stmt.Switch value old
      → expr_of tested ≡ by.expression frame (expr_of value) → choice_list new.items ≡ by.choices frame (choice_list old.items)
      → stmt_of (stmt.Switch tested new) ≡ by.statement frame (stmt_of s)
  switch_renumbered s value tested old new is test made =
      switch_of_list tested new ∙ ap (λ e. tree.Switch e (choice_list new.items)) test ∙ ap (tree.Switch (by.expression frame (expr_of value))) made
      ∙ ap (by.statement frame) (sym (ap stmt_of is ∙ switch_of_list value old))
