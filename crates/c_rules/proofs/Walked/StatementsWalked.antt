-- The walk over statements finds what their rules find.
use Rattle.std.proofs.Common.{ℕ, not, List, [], ◌∷◌, ◌++◌, Option, Some, None, refl}
use Rattle.c_tree.specs.declared.enclosing.Enclosing.{Enclosing}
use Rattle.c_tree.specs.declared.enclosing.Enclosing.TheVariants as around
use Rattle.c_tree.specs.c_syntax.SyntaxTree as tree
use Rattle.c_tree.specs.c_syntax.SyntaxTree.{Expression, DeclarationTree, Statement, Statements, no_statement, statement, no_choice, case_label, default_label, chosen}
use Rattle.c_tree.specs.TypedTree.{Kind, Expr}
use Rattle.c_tree.specs.Eval.{kind_of, points}
use Rattle.c_rules.specs.declared.fault.Rule.TheVariants.{Mismatch, Misplaced}
use Rattle.c_rules.specs.Outcome.{Outcome, Is, ◌>>=◌}
use Rattle.c_rules.specs.Kinds.{is_void, class_of}
use Rattle.c_rules.specs.Operands.{is_integer}
use Rattle.c_rules.specs.Scopes.{Scope, open_scope}
use Rattle.c_rules.specs.Typing.{operand, typing, constant_typing, word_at}
use Rattle.c_rules.specs.Statements.{LocalTree, opened_in, declarations, may_break, may_continue, in_switch, repeats_label, optional, is_void_test, typed_return, behind_case, behind_default, behind_body, typed_statement, typed_statements, typed_choices, typed_body}
use Rattle.c_rules.specs.Visits.{visit, rule_of}
use Rattle.c_rules.specs.ExpressionWalk.{visits, constant_visits}
use Rattle.c_rules.specs.DeclarationWalk.{declarations_visits}
use Rattle.c_rules.specs.StatementWalk.{optional_visits, statement_visits, statements_visits, choices_visits, body_visits}
use Rattle.c_rules.proofs.Walked.Finding.{Finds, of_part}
use Rattle.c_rules.proofs.Walked.Mismatching.{Mismatches, finds_mismatch}
use Rattle.c_rules.proofs.Walked.MoreMismatching.{returned_only}
use Rattle.c_rules.proofs.Walked.Nodes.{mapped, followed_by, with_empty, one_rule}
use Rattle.c_rules.proofs.Walked.StatementNodes.{block_finds, test_before, test_behind, test_before_two, test_among, switch_finds, label_finds}
use Rattle.c_rules.proofs.Walked.ExpressionsWalked.{visits_find, constant_find}
use Rattle.c_rules.proofs.Walked.DeclarationsWalked.{declarations_find}

optional_find : (s : Scope) (e : Option Expression) → Finds (optional_visits s e) (optional s e)
optional_find s None = refl
optional_find s (Some e) = mapped (visits s e) (typing s e) _ (visits_find s e)

return_node : {A : Type 0} (at : ℕ) (o : Outcome Expr) (g : Expr → A) → Mismatches at o → Finds (visit at (rule_of o) ∷ []) (o >>= λ v. Is (g v))
return_node at o g only = mapped (visit at (rule_of o) ∷ []) o g (finds_mismatch o only)

module _ (result : Kind) where
  mutual
    pub statement_find : (s : Scope) (c : Enclosing) (ls : List LocalTree) (a : Statement) → Finds (statement_visits result s c ls a) (typed_statement result s c ls a)
    -- expressions and blocks
    statement_find s c ls (tree.Empty at) = refl
    statement_find s c ls (tree.Evaluate e at) = mapped (visits s e ++ visit at [] ∷ []) (typing s e) _ (with_empty at (visits s e) (typing s e) (visits_find s e))
    statement_find s c ls (tree.Block ds ss at) = block_finds at (declarations_visits (opened_in (open_scope s) ls) ds)
        (λ o. statements_visits result o.scope c o.locals ss) (declarations (opened_in (open_scope s) ls) ds) (λ o. typed_statements result o.scope c o.locals ss) _
        (declarations_find (opened_in (open_scope s) ls) ds) (λ o. statements_find o.scope c o.locals ss)
    -- jumps
    statement_find s c ls (tree.Break at) = one_rule at (not (may_break c)) Misplaced _
    statement_find s c ls (tree.Continue at) = one_rule at (not (may_continue c)) Misplaced _
    statement_find s c ls (tree.Return None at) = one_rule at (not (is_void result)) Mismatch _
    statement_find s c ls (tree.Return (Some e) at) = of_part at (visits s e) (typing s e) (λ x. rule_of (typed_return result at (operand e x))) _ (visits_find s e)
        (λ x. return_node at (typed_return result at (operand e x)) _ (returned_only at result (operand e x)))
    -- choices
    statement_find s c ls (tree.If e a at) = test_before at (λ x. is_void (kind_of x)) (visits s e) (statement_visits result s c ls a)
        (typing s e) (typed_statement result s c ls a) _ (visits_find s e) (statement_find s c ls a)
    statement_find s c ls (tree.IfElse e a b at) = test_before_two at (λ x. is_void (kind_of x)) (visits s e) (statement_visits result s c ls a)
        (λ p. statement_visits result s c p.locals b) (typing s e) (typed_statement result s c ls a) (λ p. typed_statement result s c p.locals b) _
        (visits_find s e) (statement_find s c ls a) (λ p. statement_find s c p.locals b)
    statement_find s c ls (tree.Switch e cs place at) = switch_finds place at (λ x. not (is_integer (class_of (kind_of x))))
        (λ r. repeats_label r.tree.choices) (λ r. r.tree.pointer) (visits s e) (choices_visits result s (in_switch c) ls cs)
        (typing s e) (typed_choices result s (in_switch c) ls cs) _ (visits_find s e) (choices_find s (in_switch c) ls cs)
    -- loops
    statement_find s c ls (tree.While e a at) = test_before at (λ x. is_void (kind_of x)) (visits s e) (statement_visits result s around.Loop ls a)
        (typing s e) (typed_statement result s around.Loop ls a) _ (visits_find s e) (statement_find s around.Loop ls a)
    statement_find s c ls (tree.DoWhile a e at) = test_behind at (λ x. is_void (kind_of x)) (visits s e) (statement_visits result s around.Loop ls a)
        (typing s e) (typed_statement result s around.Loop ls a) _ (visits_find s e) (statement_find s around.Loop ls a)
    statement_find s c ls (tree.For first test third a at) = test_among at is_void_test
        (optional_visits s first) (optional_visits s test) (optional_visits s third) (statement_visits result s around.Loop ls a)
        (optional s first) (optional s test) (optional s third) (typed_statement result s around.Loop ls a) _
        (optional_find s first) (optional_find s test) (optional_find s third) (statement_find s around.Loop ls a)

    pub statements_find : (s : Scope) (c : Enclosing) (ls : List LocalTree) (ss : Statements) → Finds (statements_visits result s c ls ss) (typed_statements result s c ls ss)
    statements_find s c ls no_statement = refl
    statements_find s c ls (statement a rest) = followed_by (statement_visits result s c ls a) (λ p. statements_visits result s c p.locals rest)
        (typed_statement result s c ls a) (λ p. typed_statements result s c p.locals rest) _ (statement_find s c ls a) (λ p. statements_find s c p.locals rest)

    pub choices_find : (s : Scope) (c : Enclosing) (ls : List LocalTree) (cs : tree.Choices) → Finds (choices_visits result s c ls cs) (typed_choices result s c ls cs)
    choices_find s c ls no_choice = refl
    choices_find s c ls (case_label e rest) = label_finds (constant_visits s e) (choices_visits result s c ls rest) (constant_typing s e) (word_at e)
        (typed_choices result s c ls rest) (λ x w r. behind_case w (points (kind_of x)) r) (constant_find s e) (choices_find s c ls rest)
    choices_find s c ls (default_label rest) = mapped (choices_visits result s c ls rest) (typed_choices result s c ls rest) behind_default (choices_find s c ls rest)
    choices_find s c ls (chosen a rest) = followed_by (statement_visits result s c ls a) (λ p. choices_visits result s c p.locals rest)
        (typed_statement result s c ls a) (λ p. typed_choices result s c p.locals rest) (λ p r. behind_body p.tree r) (statement_find s c ls a) (λ p. choices_find s c p.locals rest)

  -- a body, in the scope of the parameters
  pub body_find : (s : Scope) (ls : List LocalTree) (ds : List DeclarationTree) (ss : Statements) → Finds (body_visits result s ls ds ss) (typed_body result s ls ds ss)
  body_find s ls ds ss = followed_by (declarations_visits (opened_in s ls) ds) (λ o. statements_visits result o.scope around.Body o.locals ss)
      (declarations (opened_in s ls) ds) (λ o. typed_statements result o.scope around.Body o.locals ss) _
      (declarations_find (opened_in s ls) ds) (λ o. statements_find o.scope around.Body o.locals ss)
