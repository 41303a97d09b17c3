-- A typed statement weighs at most 64 for each node and each declared item of the statement.
use Rattle.std.proofs.Common.{◌≡◌, ◌≤◌, ◌+◌, ◌*◌, ◌||◌, ℕ, suc, Bool, true, false, not, List, Option, Some, None, refl, arith}
use Rattle.c_syntax.specs.Counts.{optional_weight, statement_weight, statements_weight, choices_weight}
use Rattle.c_syntax.specs.SyntaxTree as tree
use Rattle.c_syntax.specs.SyntaxTree.{Expression, DeclarationTree, Statement, Statements, no_statement, statement}
use Rattle.c_syntax.specs.SyntaxTree.{no_choice, case_label, default_label, chosen}
use Rattle.c_tree.specs.declared.enclosing.Enclosing.{Enclosing}
use Rattle.c_tree.specs.declared.enclosing.Enclosing.TheVariants as around
use Rattle.c_tree.specs.Eval.{kind_of}
use Rattle.c_tree.specs.Labels.{has_case, has_default}
use Rattle.c_tree.specs.TypedTree.{Kind, Choices, no_more, case, default, body}
use Rattle.c_rules.specs.Kinds.{is_void, class_of}
use Rattle.c_rules.specs.Operands.{Operand, is_integer}
use Rattle.c_rules.specs.Renumbering as renumbering
use Rattle.c_rules.specs.Scopes.{Scope, open_scope}
use Rattle.c_rules.specs.Statements.{LocalTree, opened_in, declarations, optional, is_void_test, typed_return}
use Rattle.c_rules.specs.Statements.{may_break, may_continue, in_switch, repeats_label, typed_statement, typed_statements, typed_choices, typed_body}
use Rattle.c_rules.specs.Typing.{typing, operand, constant_typing, word_at}
use Rattle.c_rules.proofs.Formed.Context.{Gives, is, broken, behind, unless}
use Rattle.c_rules.proofs.Formed.GivesLemmas.{anything}
use Rattle.c_rules.proofs.Formed.CountedExpressions.{code}
use Rattle.ir_semantics.specs.SourceWeights.{source_optional_weight, source_choices_weight}
use Rattle.size_proof.proofs.Declarations.{weigh, weigh_all, before_weigh, IsBounded, declarations_light}
use Rattle.size_proof.proofs.NodeExpressions.{one_node, expression_light}
use Rattle.size_proof.proofs.Objects.{Frame}
use Rattle.size_proof.proofs.Operators.{weight, Weighs, given_weighs}
use Rattle.size_proof.proofs.Renumbered.{same_weight, same_optional}

-- a switch has one default at most
abbrev defaults : Choices → ℕ
defaults no_more = 0
defaults (case w rest) = defaults rest
defaults (default rest) = suc (defaults rest)
defaults (body a rest) = defaults rest

neither : (a b : Bool) → (a || b) ≡ false → (a ≡ false) × (b ≡ false)
neither true b is = absurd (cc is)
neither false b is = (refl, is)

no_default : (cs : Choices) → has_default cs ≡ false → defaults cs ≡ 0
no_default no_more none = refl
no_default (case w rest) none = no_default rest none
no_default (default rest) none = absurd (cc none)
no_default (body a rest) none = no_default rest none

one_default : (cs : Choices) → repeats_label cs ≡ false → defaults cs ≤ 1
one_default no_more once = omega arith
one_default (case w rest) once = one_default rest (neither (has_case w rest) (repeats_label rest) once).1
one_default (default rest) once = omega (arith, no_default rest (neither (has_default rest) (repeats_label rest) once).0)
one_default (body a rest) once = one_default rest once

-- expressions in statements
optional_light : (s : Scope) (e : Option Expression) → Gives (λ x. source_optional_weight x ≤ 64 * optional_weight code e) (optional s e)
optional_light s None = is _ (omega arith)
optional_light s (Some e) = behind (typing s e) _ (expression_light s e) λ x light. is _ (omega (arith, light))

returned_weighs : (result : Kind) (at : ℕ) (x : Operand) → Weighs (weight x.value + 2) (typed_return result at x)
returned_weighs None at x = broken _ _
returned_weighs (Some kind) at x = given_weighs kind at x

-- in a function of this type, whose objects have these numbers
module _ (frame : Frame) (result : Kind) where
  abbrev weigh_choices : Choices → ℕ
  weigh_choices cs = source_choices_weight frame.objects (renumbering.choices frame.numbers cs)

  -- with no objects of its own
  alone : (ls : List LocalTree) (weight most : ℕ) → weight ≤ most → IsBounded frame ls ls weight most
  alone ls weight most less = record { before = λ right. right; within = λ right. less }

  mutual
    statement_light : (s : Scope) (c : Enclosing) (ls : List LocalTree) (a : Statement)
        → Gives (λ r. IsBounded frame ls r.locals (weigh frame r.tree) (64 * statement_weight code a)) (typed_statement result s c ls a)
    -- expressions and blocks
    statement_light s c ls (tree.Empty at) = is _ (alone ls _ _ (omega arith))
    statement_light s c ls (tree.Evaluate e at) =
        behind (typing s e) _ (expression_light s e) λ x light. is _ (alone ls _ _ (omega (arith, light, same_weight frame.numbers x)))
    statement_light s c ls (tree.Block ds ss at) =
        behind (declarations (opened_in (open_scope s) ls) ds) _ (declarations_light frame (opened_in (open_scope s) ls) ds) λ o opened.
        behind (typed_statements result o.scope c o.locals ss) _ (statements_light o.scope c o.locals ss) λ r inner.
        is _ (record {
          before = λ right. opened.before (inner.before right);
          within = λ right. omega (arith, opened.within (inner.before right), inner.within right, before_weigh frame o.statements r.tree);
        })
    -- jumps
    statement_light s c ls (tree.Break at) = unless (not (may_break c)) _ _ _ λ may. is _ (alone ls _ _ (omega arith))
    statement_light s c ls (tree.Continue at) = unless (not (may_continue c)) _ _ _ λ may. is _ (alone ls _ _ (omega arith))
    statement_light s c ls (tree.Return None at) = unless (not (is_void result)) _ _ _ λ void. is _ (alone ls _ _ (omega arith))
    statement_light s c ls (tree.Return (Some e) at) =
        behind (typing s e) _ (expression_light s e) λ x light.
        behind (typed_return result at (operand e x)) _ (returned_weighs result at (operand e x)) λ v weighs.
        is _ (alone ls _ _ (omega (arith, light, weighs, same_weight frame.numbers v)))
    -- choices
    statement_light s c ls (tree.If e a at) =
        behind (typing s e) _ (expression_light s e) λ x test.
        behind (typed_statement result s c ls a) _ (statement_light s c ls a) λ p inner.
        unless (is_void (kind_of x)) _ _ _ λ some.
        is _ (record { before = inner.before; within = λ right. omega (arith, test, inner.within right, same_weight frame.numbers x) })
    statement_light s c ls (tree.IfElse e a b at) =
        behind (typing s e) _ (expression_light s e) λ x test.
        behind (typed_statement result s c ls a) _ (statement_light s c ls a) λ p first.
        behind (typed_statement result s c p.locals b) _ (statement_light s c p.locals b) λ q second.
        unless (is_void (kind_of x)) _ _ _ λ some.
        is _ (record {
          before = λ right. first.before (second.before right);
          within = λ right. omega (arith, test, first.within (second.before right), second.within right, same_weight frame.numbers x);
        })
    statement_light s c ls (tree.Switch e cs place at) =
        behind (typing s e) _ (expression_light s e) λ x value.
        behind (typed_choices result s (in_switch c) ls cs) _ (choices_light s (in_switch c) ls cs) λ r inner.
        unless (repeats_label r.tree.choices) _ _ _ λ once.
        unless r.tree.pointer _ _ _ λ words.
        unless (not (is_integer (class_of (kind_of x)))) _ _ _ λ integer.
        is _ (record {
          before = inner.before;
          within = λ right. omega (arith, value, inner.within right, one_default r.tree.choices once, same_weight frame.numbers x);
        })
    -- loops
    statement_light s c ls (tree.While e a at) =
        behind (typing s e) _ (expression_light s e) λ x test.
        behind (typed_statement result s around.Loop ls a) _ (statement_light s around.Loop ls a) λ p inner.
        unless (is_void (kind_of x)) _ _ _ λ some.
        is _ (record { before = inner.before; within = λ right. omega (arith, test, inner.within right, same_weight frame.numbers x) })
    statement_light s c ls (tree.DoWhile a e at) =
        behind (typed_statement result s around.Loop ls a) _ (statement_light s around.Loop ls a) λ p inner.
        behind (typing s e) _ (expression_light s e) λ x test.
        unless (is_void (kind_of x)) _ _ _ λ some.
        is _ (record { before = inner.before; within = λ right. omega (arith, test, inner.within right, same_weight frame.numbers x) })
    statement_light s c ls (tree.For first test third a at) =
        behind (optional s first) _ (optional_light s first) λ x one.
        behind (optional s test) _ (optional_light s test) λ y two.
        behind (optional s third) _ (optional_light s third) λ z three.
        behind (typed_statement result s around.Loop ls a) _ (statement_light s around.Loop ls a) λ p inner.
        unless (is_void_test y) _ _ _ λ some.
        is _ (record {
          before = inner.before;
          within = λ right. omega (
            arith,
            one,
            two,
            three,
            inner.within right,
            same_optional frame.numbers x,
            same_optional frame.numbers y,
            same_optional frame.numbers z,
          );
        })

    statements_light : (s : Scope) (c : Enclosing) (ls : List LocalTree) (ss : Statements)
        → Gives (λ r. IsBounded frame ls r.locals (weigh_all frame r.tree) (64 * statements_weight code ss)) (typed_statements result s c ls ss)
    statements_light s c ls no_statement = is _ (alone ls _ _ (omega arith))
    statements_light s c ls (statement a rest) =
        behind (typed_statement result s c ls a) _ (statement_light s c ls a) λ p first.
        behind (typed_statements result s c p.locals rest) _ (statements_light s c p.locals rest) λ r others.
        is _ (record {
          before = λ right. first.before (others.before right);
          within = λ right. omega (arith, first.within (others.before right), others.within right);
        })

    -- a default is no node
    choices_light : (s : Scope) (c : Enclosing) (ls : List LocalTree) (cs : tree.Choices)
        → Gives (λ r. IsBounded frame ls r.locals (weigh_choices r.tree.choices) (64 * choices_weight code cs + 2 * defaults r.tree.choices))
        (typed_choices result s c ls cs)
    choices_light s c ls no_choice = is _ (alone ls _ _ (omega arith))
    choices_light s c ls (case_label e rest) =
        behind (constant_typing s e) _ (anything _) λ x label.
        behind (word_at e x) _ (anything _) λ w word.
        behind (typed_choices result s c ls rest) _ (choices_light s c ls rest) λ r others.
        is _ (record { before = others.before; within = λ right. omega (arith, one_node e, others.within right) })
    choices_light s c ls (default_label rest) =
        behind (typed_choices result s c ls rest) _ (choices_light s c ls rest) λ r others.
        is _ (record { before = others.before; within = λ right. omega (arith, others.within right) })
    choices_light s c ls (chosen a rest) =
        behind (typed_statement result s c ls a) _ (statement_light s c ls a) λ p first.
        behind (typed_choices result s c p.locals rest) _ (choices_light s c p.locals rest) λ r others.
        is _ (record {
          before = λ right. first.before (others.before right);
          within = λ right. omega (arith, first.within (others.before right), others.within right);
        })

  -- a body, with the 10 of its function
  pub body_light : (s : Scope) (ls : List LocalTree) (ds : List DeclarationTree) (ss : Statements) (at : ℕ)
      → Gives (λ r. IsBounded frame ls r.locals (10 + weigh frame r.tree) (64 * statement_weight code (tree.Block ds ss at))) (typed_body result s ls ds ss)
  body_light s ls ds ss at =
      behind (declarations (opened_in s ls) ds) _ (declarations_light frame (opened_in s ls) ds) λ o opened.
      behind (typed_statements result o.scope around.Body o.locals ss) _ (statements_light o.scope around.Body o.locals ss) λ r inner.
      is _ (record {
        before = λ right. opened.before (inner.before right);
        within = λ right. omega (arith, opened.within (inner.before right), inner.within right, before_weigh frame o.statements r.tree);
      })
