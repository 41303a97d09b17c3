-- What is of words stays so once each object of its function has its number among its own kind.
use Rattle.std.proofs.Common.{List, Option, Some, None}
use Rattle.c_tree.specs.declared.program.VarRef.{VarRef}
use Rattle.c_tree.specs.TypedTree as tree
use Rattle.c_tree.specs.TypedTree.{Expr, Node, Lvalue, Named, At, Form, Exprs, Stmt, Stmts, Choices}
use Rattle.c_rules.specs.Renumbering as by
use Rattle.c_tree.specs.TypedOfWords.{UsesWords, FormUsesWords, TargetUsesWords, AllUseWords, OptionalUsesWords, StatementUsesWords}
use Rattle.c_tree.specs.TypedOfWords.{StatementsUseWords, ChoicesUseWords}

module _ (frame : List VarRef) where
  mutual
    words_kept : (e : Expr) → UsesWords e → UsesWords (by.expression frame e)
    words_kept (Node form kind at) uses = form_kept form uses

    form_kept : (form : Form) → FormUsesWords form → FormUsesWords (by.of_form frame form)
    form_kept (tree.Const w) uses = uses
    form_kept (tree.Read v) uses = tt
    form_kept (tree.AddressOf v) uses = tt
    form_kept (tree.Load e) uses = words_kept e uses
    form_kept (tree.Unary o e) uses = words_kept e uses
    form_kept (tree.Binary o a b) uses = (words_kept a uses.0, words_kept b uses.1)
    form_kept (tree.And a b) uses = (words_kept a uses.0, words_kept b uses.1)
    form_kept (tree.Or a b) uses = (words_kept a uses.0, words_kept b uses.1)
    form_kept (tree.Not e) uses = words_kept e uses
    form_kept (tree.Pick c a b) uses = (words_kept c uses.0, words_kept a uses.1, words_kept b uses.2)
    form_kept (tree.Assign l e) uses = (target_kept l uses.0, words_kept e uses.1)
    form_kept (tree.AssignOp o l e) uses = (target_kept l uses.0, words_kept e uses.1)
    form_kept (tree.StepBefore up l) uses = target_kept l uses
    form_kept (tree.StepAfter up l) uses = target_kept l uses
    form_kept (tree.Call f es) uses = all_kept es uses
    form_kept (tree.In port) uses = tt
    form_kept (tree.Out port e) uses = words_kept e uses
    form_kept (tree.Comma a b) uses = (words_kept a uses.0, words_kept b uses.1)
    form_kept (tree.Convert e) uses = words_kept e uses

    target_kept : (l : Lvalue) → TargetUsesWords l → TargetUsesWords (by.target frame l)
    target_kept (Named v at) uses = tt
    target_kept (At e at) uses = words_kept e uses

    all_kept : (es : Exprs) → AllUseWords es → AllUseWords (by.arguments frame es)
    all_kept tree.none uses = tt
    all_kept (tree.more e rest) uses = (words_kept e uses.0, all_kept rest uses.1)

  optional_kept : (e : Option Expr) → OptionalUsesWords e → OptionalUsesWords (by.optional frame e)
  optional_kept None uses = tt
  optional_kept (Some e) uses = words_kept e uses

  mutual
    pub statement_kept : (s : Stmt) → StatementUsesWords s → StatementUsesWords (by.statement frame s)
    statement_kept (tree.Block declared ss) uses = statements_kept ss uses
    statement_kept (tree.Fill n) uses = tt
    statement_kept (tree.Do_expr e) uses = words_kept e uses
    statement_kept (tree.If e a b) uses = (words_kept e uses.0, statement_kept a uses.1, statement_kept b uses.2)
    statement_kept (tree.While e a) uses = (words_kept e uses.0, statement_kept a uses.1)
    statement_kept (tree.Do_while a e) uses = (statement_kept a uses.0, words_kept e uses.1)
    statement_kept (tree.For x y z a) uses = (optional_kept x uses.0, optional_kept y uses.1, optional_kept z uses.2, statement_kept a uses.3)
    statement_kept (tree.Switch e cs) uses = (words_kept e uses.0, choices_kept cs uses.1)
    statement_kept tree.Break uses = tt
    statement_kept tree.Continue uses = tt
    statement_kept (tree.Return e) uses = optional_kept e uses

    statements_kept : (ss : Stmts) → StatementsUseWords ss → StatementsUseWords (by.statements frame ss)
    statements_kept tree.done uses = tt
    statements_kept (tree.both s rest) uses = (statement_kept s uses.0, statements_kept rest uses.1)

    choices_kept : (cs : Choices) → ChoicesUseWords cs → ChoicesUseWords (by.choices frame cs)
    choices_kept tree.no_more uses = tt
    choices_kept (tree.case w rest) uses = (uses.0, choices_kept rest uses.1)
    choices_kept (tree.default rest) uses = choices_kept rest uses
    choices_kept (tree.body s rest) uses = (statement_kept s uses.0, choices_kept rest uses.1)
