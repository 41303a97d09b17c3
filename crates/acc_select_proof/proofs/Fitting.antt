-- Statements of well-formed word trees fit, where expressions do.
use Rattle.std.proofs.Common.{ℕ, List, Option, Some, None}
use Rattle.c_tree.specs.TypedTree.{ObjectTree}
use Rattle.c_tree.specs.Labels.{in_switch}
use Rattle.c_tree.specs.declared.enclosing.Enclosing.{Enclosing}
use Rattle.c_tree.specs.declared.enclosing.Enclosing.TheVariants as around
use Rattle.c_tree.specs.declared.program.VarRef.{VarRef}
use Rattle.tree_code.specs.WellFormedCode.{IsSound, IsSoundOptional, IsSoundStatement, AreSoundStatements, AreSoundChoices}
use Rattle.tree_code.specs.WordTree as tree
use Rattle.tree_code.specs.WordTree.{ExprCode, StmtCode, StmtsCode, ChoicesCode}
use Rattle.ir_semantics.specs.Outside.{Places}
use Rattle.ir_semantics.specs.TreeRun.{Addresses}
use Rattle.acc_select_proof.specs.FitStatements.{IsFitOptional, IsFitStatement, AreFitStatements, AreFitChoices}

-- where sound expressions of one kind are of another, so are statements
module _ (cells : VarRef → Option ℕ) (parameters : ℕ → Option ℕ) (at : Addresses) (q : Places) (locals : List ObjectTree) (A B : ExprCode → Type 0)
    (fits : (e : ExprCode) → IsSound cells parameters e → A e → B e) where
  optional_fits : (e : Option ExprCode) → IsSoundOptional cells parameters e → IsFitOptional A at q locals e → IsFitOptional B at q locals e
  optional_fits None s h = tt
  optional_fits (Some e) s h = fits e s h

  mutual
    pub statement_fits : (a : StmtCode) (c : Enclosing) → IsSoundStatement cells parameters c a → IsFitStatement A at q locals a → IsFitStatement B at q locals a
    statement_fits (tree.Block declared ss) c s h = statements_fit ss c s.1 h
    statement_fits (tree.Fill k) c s h = h
    statement_fits (tree.Do_expr e) c s h = fits e s h
    statement_fits (tree.If e a b) c s h = (fits e s.0 h.0, statement_fits a c s.1 h.1, statement_fits b c s.2 h.2)
    statement_fits (tree.While e a) c s h = (fits e s.0 h.0, statement_fits a around.Loop s.1 h.1)
    statement_fits (tree.Do_while a e) c s h = (statement_fits a around.Loop s.0 h.0, fits e s.1 h.1)
    statement_fits (tree.For x y z a) c s h = (optional_fits x s.0 h.0, optional_fits y s.1 h.1, optional_fits z s.2 h.2, statement_fits a around.Loop s.3 h.3)
    statement_fits (tree.Switch e cs) c s h = (fits e s.0 h.0, choices_fit cs (in_switch c) s.2 h.1)
    statement_fits tree.Break c s h = tt
    statement_fits tree.Continue c s h = tt
    statement_fits (tree.Return None) c s h = h
    statement_fits (tree.Return (Some e)) c s h = fits e s h

    statements_fit : (ss : StmtsCode) (c : Enclosing) → AreSoundStatements cells parameters c ss → AreFitStatements A at q locals ss → AreFitStatements B at q locals ss
    statements_fit tree.done c s h = tt
    statements_fit (tree.both a rest) c s h = (statement_fits a c s.0 h.0, statements_fit rest c s.1 h.1)

    choices_fit : (cs : ChoicesCode) (c : Enclosing) → AreSoundChoices cells parameters c cs → AreFitChoices A at q locals cs → AreFitChoices B at q locals cs
    choices_fit tree.no_more c s h = tt
    choices_fit (tree.case w rest) c s h = choices_fit rest c s h
    choices_fit (tree.default rest) c s h = choices_fit rest c s h
    choices_fit (tree.body a rest) c s h = (statement_fits a c s.0 h.0, choices_fit rest c s.1 h.1)
