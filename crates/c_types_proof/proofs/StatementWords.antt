-- Statements that say words are of words, and so are the objects that they declare.
use Rattle.std.proofs.Common.{ℕ, not, List, [], ◌∷◌, Option, Some, None}
use Rattle.std.specs.List.{AllByRecursion}
use Rattle.c_syntax.specs.SyntaxTree as tree
use Rattle.c_syntax.specs.SyntaxTree.{Expression, DeclarationTree, Statement, Statements, no_statement}
use Rattle.c_syntax.specs.SyntaxTree.{statement, no_choice, case_label, default_label, chosen}
use Rattle.c_tree.specs.declared.enclosing.Enclosing.{Enclosing}
use Rattle.c_tree.specs.declared.enclosing.Enclosing.TheVariants as around
use Rattle.c_tree.specs.Eval.{kind_of}
use Rattle.c_tree.specs.TypedTree.{Kind, Stmt, Stmts}
use Rattle.c_rules.specs.declared.fault.Rule.TheVariants.{Mismatch}
use Rattle.c_rules.specs.Kinds.{is_void, class_of}
use Rattle.c_rules.specs.Operands.{Operand, is_integer}
use Rattle.c_rules.specs.Scopes.{Scope, open_scope}
use Rattle.c_rules.specs.Statements.{LocalTree, Typed, Labelled, opened_in, declarations, before, optional, is_void_test, typed_return}
use Rattle.c_rules.specs.Statements.{may_break, may_continue, in_switch, repeats_label, typed_statement, typed_statements, typed_choices, typed_body}
use Rattle.c_rules.specs.Typing.{typing, operand, constant_typing, word_at}
use Rattle.c_rules.proofs.Formed.Context.{Gives, is, broken, behind, unless}
use Rattle.c_tree.specs.TypedOfWords.{UsesWords, OptionalUsesWords, StatementUsesWords, StatementsUseWords, ChoicesUseWords}
use Rattle.c_syntax.specs.Characters.{OptionSaysWords, DeclarationsSayWords, StatementSaysWords, StatementsSayWords, ChoicesSayWords}
use Rattle.c_types_proof.proofs.ConstantWords.{word_there}
use Rattle.c_types_proof.proofs.OpenedWords.{LocalHasWords, OpensWords, declarations_words}
use Rattle.c_types_proof.proofs.OperandWords.{given_words}
use Rattle.c_types_proof.proofs.TypedWords.{KnowsShort, typed_words, constant_words}

-- a part of a function, and the objects up to it
abbrev LocalsHaveWords : List LocalTree → Type 0
LocalsHaveWords ls = AllByRecursion LocalHasWords ls

abbrev pub IsOfWords : Typed Stmt → Type 0
IsOfWords r = StatementUsesWords r.tree × LocalsHaveWords r.locals

abbrev AreOfWords : Typed Stmts → Type 0
AreOfWords r = StatementsUseWords r.tree × LocalsHaveWords r.locals

abbrev ChoicesAreOfWords : Typed Labelled → Type 0
ChoicesAreOfWords r = ChoicesUseWords r.tree.choices × LocalsHaveWords r.locals

before_words : (ss : List Stmt) (rest : Stmts) → AllByRecursion StatementUsesWords ss → StatementsUseWords rest → StatementsUseWords (before ss rest)
before_words [] rest first others = others
before_words (s ∷ ss) rest first others = (first.0, before_words ss rest first.1 others)

optional_words : (s : Scope) (e : Option Expression) → KnowsShort s → OptionSaysWords e → Gives OptionalUsesWords (optional s e)
optional_words s None short says = is _ tt
optional_words s (Some e) short says = behind (typing s e) _ (typed_words s short e says) λ x uses. is _ uses

returned_words : (result : Kind) (at : ℕ) (x : Operand) → UsesWords x.value → Gives UsesWords (typed_return result at x)
returned_words None at x uses = broken Mismatch at
returned_words (Some kind) at x uses = given_words kind at x uses

opened_words : (s : Scope) (ls : List LocalTree) → KnowsShort s → LocalsHaveWords ls → OpensWords (opened_in s ls)
opened_words s ls short locals = record { short = short; locals = locals; statements = tt }

module _ (result : Kind) where
  mutual
    statement_words : (s : Scope) (c : Enclosing) (ls : List LocalTree) (a : Statement) → KnowsShort s → LocalsHaveWords ls → StatementSaysWords a
        → Gives IsOfWords (typed_statement result s c ls a)
    -- expressions and blocks
    statement_words s c ls (tree.Empty at) short locals says = is _ (tt, locals)
    statement_words s c ls (tree.Evaluate e at) short locals says = behind (typing s e) _ (typed_words s short e says) λ x uses. is _ (uses, locals)
    statement_words s c ls (tree.Block ds ss at) short locals says =
        behind (declarations (opened_in (open_scope s) ls) ds) _
        (declarations_words (opened_in (open_scope s) ls) ds (opened_words (open_scope s) ls short locals) says.0) λ o opened.
        behind (typed_statements result o.scope c o.locals ss) _ (statements_words o.scope c o.locals ss opened.short opened.locals says.1) λ r inner.
        is _ (before_words o.statements r.tree opened.statements inner.0, inner.1)
    -- jumps
    statement_words s c ls (tree.Break at) short locals says = unless (not (may_break c)) _ _ _ λ may. is _ (tt, locals)
    statement_words s c ls (tree.Continue at) short locals says = unless (not (may_continue c)) _ _ _ λ may. is _ (tt, locals)
    statement_words s c ls (tree.Return None at) short locals says = unless (not (is_void result)) _ _ _ λ void. is _ (tt, locals)
    statement_words s c ls (tree.Return (Some e) at) short locals says =
        behind (typing s e) _ (typed_words s short e says) λ x uses.
        behind (typed_return result at (operand e x)) _ (returned_words result at (operand e x) uses) λ v returned. is _ (returned, locals)
    -- choices
    statement_words s c ls (tree.If e a at) short locals says =
        behind (typing s e) _ (typed_words s short e says.0) λ x uses.
        behind (typed_statement result s c ls a) _ (statement_words s c ls a short locals says.1) λ p inner.
        unless (is_void (kind_of x)) _ _ _ λ some. is _ ((uses, inner.0, tt), inner.1)
    statement_words s c ls (tree.IfElse e a b at) short locals says =
        behind (typing s e) _ (typed_words s short e says.0) λ x uses.
        behind (typed_statement result s c ls a) _ (statement_words s c ls a short locals says.1) λ p first.
        behind (typed_statement result s c p.locals b) _ (statement_words s c p.locals b short first.1 says.2) λ q second.
        unless (is_void (kind_of x)) _ _ _ λ some. is _ ((uses, first.0, second.0), second.1)
    statement_words s c ls (tree.Switch e cs place at) short locals says =
        behind (typing s e) _ (typed_words s short e says.0) λ x uses.
        behind (typed_choices result s (in_switch c) ls cs) _ (choices_words s (in_switch c) ls cs short locals says.1) λ r inner.
        unless (repeats_label r.tree.choices) _ _ _ λ once.
        unless r.tree.pointer _ _ _ λ words.
        unless (not (is_integer (class_of (kind_of x)))) _ _ _ λ integer. is _ ((uses, inner.0), inner.1)
    -- loops
    statement_words s c ls (tree.While e a at) short locals says =
        behind (typing s e) _ (typed_words s short e says.0) λ x uses.
        behind (typed_statement result s around.Loop ls a) _ (statement_words s around.Loop ls a short locals says.1) λ p inner.
        unless (is_void (kind_of x)) _ _ _ λ some. is _ ((uses, inner.0), inner.1)
    statement_words s c ls (tree.DoWhile a e at) short locals says =
        behind (typed_statement result s around.Loop ls a) _ (statement_words s around.Loop ls a short locals says.0) λ p inner.
        behind (typing s e) _ (typed_words s short e says.1) λ x uses.
        unless (is_void (kind_of x)) _ _ _ λ some. is _ ((inner.0, uses), inner.1)
    statement_words s c ls (tree.For first test third a at) short locals says =
        behind (optional s first) _ (optional_words s first short says.0) λ x one.
        behind (optional s test) _ (optional_words s test short says.1) λ y two.
        behind (optional s third) _ (optional_words s third short says.2) λ z three.
        behind (typed_statement result s around.Loop ls a) _ (statement_words s around.Loop ls a short locals says.3) λ p inner.
        unless (is_void_test y) _ _ _ λ some. is _ ((one, two, three, inner.0), inner.1)

    statements_words : (s : Scope) (c : Enclosing) (ls : List LocalTree) (ss : Statements) → KnowsShort s → LocalsHaveWords ls → StatementsSayWords ss
        → Gives AreOfWords (typed_statements result s c ls ss)
    statements_words s c ls no_statement short locals says = is _ (tt, locals)
    statements_words s c ls (statement a rest) short locals says =
        behind (typed_statement result s c ls a) _ (statement_words s c ls a short locals says.0) λ p first.
        behind (typed_statements result s c p.locals rest) _ (statements_words s c p.locals rest short first.1 says.1) λ r others.
        is _ ((first.0, others.0), others.1)

    choices_words : (s : Scope) (c : Enclosing) (ls : List LocalTree) (cs : tree.Choices) → KnowsShort s → LocalsHaveWords ls → ChoicesSayWords cs
        → Gives ChoicesAreOfWords (typed_choices result s c ls cs)
    choices_words s c ls no_choice short locals says = is _ (tt, locals)
    choices_words s c ls (case_label e rest) short locals says =
        behind (constant_typing s e) _ (constant_words s short e says.0) λ x uses.
        behind (word_at e x) _ (word_there e x uses) λ w few.
        behind (typed_choices result s c ls rest) _ (choices_words s c ls rest short locals says.1) λ r others.
        is _ ((few, others.0), others.1)
    choices_words s c ls (default_label rest) short locals says =
        behind (typed_choices result s c ls rest) _ (choices_words s c ls rest short locals says) λ r others. is _ others
    choices_words s c ls (chosen a rest) short locals says =
        behind (typed_statement result s c ls a) _ (statement_words s c ls a short locals says.0) λ p first.
        behind (typed_choices result s c p.locals rest) _ (choices_words s c p.locals rest short first.1 says.1) λ r others.
        is _ ((first.0, others.0), others.1)

  -- a body
  pub body_words : (s : Scope) (ls : List LocalTree) (ds : List DeclarationTree) (ss : Statements) → KnowsShort s → LocalsHaveWords ls
      → DeclarationsSayWords ds × StatementsSayWords ss
      → Gives IsOfWords (typed_body result s ls ds ss)
  body_words s ls ds ss short locals says =
      behind (declarations (opened_in s ls) ds) _ (declarations_words (opened_in s ls) ds (opened_words s ls short locals) says.0) λ o opened.
      behind (typed_statements result o.scope around.Body o.locals ss) _
      (statements_words o.scope around.Body o.locals ss opened.short opened.locals says.1) λ r inner.
      is _ (before_words o.statements r.tree opened.statements inner.0, inner.1)
