-- The walk over statements: the rules that each of their nodes breaks, ISO 9899:1990 6.6. Whether a condition may be tested is asked of
-- its statement, so behind the nodes of its body.
use Rattle.std.specs.Prelude.{ℕ, not, List, [], ◌∷◌, ◌++◌, Option, Some, None}
use Rattle.c_tree.specs.declared.enclosing.Enclosing.{Enclosing}
use Rattle.c_tree.specs.declared.enclosing.Enclosing.TheVariants as around
use Rattle.c_tree.specs.c_syntax.SyntaxTree as tree
use Rattle.c_tree.specs.c_syntax.SyntaxTree.{Expression, DeclarationTree, Statement, Statements, no_statement, statement, no_choice, case_label, default_label, chosen}
use Rattle.c_tree.specs.TypedTree.{Kind, Expr}
use Rattle.c_tree.specs.Eval.{kind_of}
use Rattle.c_rules.specs.declared.fault.Rule.{Rule}
use Rattle.c_rules.specs.declared.fault.Rule.TheVariants.{Redeclared, Mismatch, Misplaced}
use Rattle.c_rules.specs.Outcome.{Outcome}
use Rattle.c_rules.specs.Kinds.{is_void, class_of}
use Rattle.c_rules.specs.Operands.{is_integer}
use Rattle.c_rules.specs.Scopes.{Scope, open_scope}
use Rattle.c_rules.specs.Typing.{operand, typing}
use Rattle.c_rules.specs.Statements.{LocalTree, Typed, Labelled, opened_in, declarations, may_break, may_continue, in_switch, repeats_label, optional, is_void_test, typed_return, typed_statement, typed_choices}
use Rattle.c_rules.specs.Visits.{Visit, visit, when, rule_of, by_one, visits_behind}
use Rattle.c_rules.specs.ExpressionWalk.{visits, constant_visits}
use Rattle.c_rules.specs.DeclarationWalk.{declarations_visits}

-- an expression that may be absent
abbrev pub optional_visits : Scope → Option Expression → List Visit
optional_visits s None = []
optional_visits s (Some e) = visits s e

-- a statement whose condition is this
abbrev pub test_visit : ℕ → Outcome Expr → Visit
test_visit at o = visit at (by_one o (λ x. when (is_void (kind_of x)) Mismatch))

-- the choices of a switch
abbrev pub label_rules : Typed Labelled → List Rule
label_rules r = when (repeats_label r.tree.choices) Redeclared ++ when r.tree.pointer Mismatch

module _ (result : Kind) where
  abbrev mutual
    pub statement_visits : Scope → Enclosing → List LocalTree → Statement → List Visit
    -- expressions and blocks: 6.6.2 and 6.6.3
    statement_visits s c ls (tree.Empty at) = visit at [] ∷ []
    statement_visits s c ls (tree.Evaluate e at) = visits s e ++ visit at [] ∷ []
    statement_visits s c ls (tree.Block ds ss at) = declarations_visits (opened_in (open_scope s) ls) ds
        ++ (visits_behind (declarations (opened_in (open_scope s) ls) ds) (λ o. statements_visits o.scope c o.locals ss) ++ visit at [] ∷ [])
    -- jumps: 6.6.6
    statement_visits s c ls (tree.Break at) = visit at (when (not (may_break c)) Misplaced) ∷ []
    statement_visits s c ls (tree.Continue at) = visit at (when (not (may_continue c)) Misplaced) ∷ []
    statement_visits s c ls (tree.Return None at) = visit at (when (not (is_void result)) Mismatch) ∷ []
    statement_visits s c ls (tree.Return (Some e) at) = visits s e ++ visit at (by_one (typing s e) (λ x. rule_of (typed_return result at (operand e x)))) ∷ []
    -- choices: 6.6.4
    statement_visits s c ls (tree.If e a at) = visits s e ++ (statement_visits s c ls a ++ test_visit at (typing s e) ∷ [])
    statement_visits s c ls (tree.IfElse e a b at) = visits s e ++ (statement_visits s c ls a
        ++ (visits_behind (typed_statement result s c ls a) (λ p. statement_visits s c p.locals b) ++ test_visit at (typing s e) ∷ []))
    statement_visits s c ls (tree.Switch e cs place at) = visits s e ++ (choices_visits s (in_switch c) ls cs
        ++ (visit place (by_one (typed_choices result s (in_switch c) ls cs) label_rules)
        ∷ visit at (by_one (typing s e) (λ x. when (not (is_integer (class_of (kind_of x)))) Mismatch)) ∷ []))
    -- loops: 6.6.5
    statement_visits s c ls (tree.While e a at) = visits s e ++ (statement_visits s around.Loop ls a ++ test_visit at (typing s e) ∷ [])
    statement_visits s c ls (tree.DoWhile a e at) = statement_visits s around.Loop ls a ++ (visits s e ++ test_visit at (typing s e) ∷ [])
    statement_visits s c ls (tree.For first test third a at) = optional_visits s first ++ (optional_visits s test ++ (optional_visits s third
        ++ (statement_visits s around.Loop ls a ++ visit at (by_one (optional s test) (λ y. when (is_void_test y) Mismatch)) ∷ [])))

    pub statements_visits : Scope → Enclosing → List LocalTree → Statements → List Visit
    statements_visits s c ls no_statement = []
    statements_visits s c ls (statement a rest) = statement_visits s c ls a
        ++ visits_behind (typed_statement result s c ls a) (λ p. statements_visits s c p.locals rest)

    pub choices_visits : Scope → Enclosing → List LocalTree → tree.Choices → List Visit
    choices_visits s c ls no_choice = []
    choices_visits s c ls (case_label e rest) = constant_visits s e ++ choices_visits s c ls rest
    choices_visits s c ls (default_label rest) = choices_visits s c ls rest
    choices_visits s c ls (chosen a rest) = statement_visits s c ls a
        ++ visits_behind (typed_statement result s c ls a) (λ p. choices_visits s c p.locals rest)

  -- a body, in the scope of the parameters
  abbrev pub body_visits : Scope → List LocalTree → List DeclarationTree → Statements → List Visit
  body_visits s ls ds ss = declarations_visits (opened_in s ls) ds
      ++ visits_behind (declarations (opened_in s ls) ds) (λ o. statements_visits o.scope around.Body o.locals ss)
