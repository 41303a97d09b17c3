-- What a typed statement adds to the objects of its function, and that each array is filled in the block that declares it.
use Rattle.std.proofs.Common.{◌≡◌, ◌++◌, ℕ, not, List, [], length, Some, None, refl, sym, ap, subst, ◌∙◌, length-append, arith}
use Rattle.c_syntax.specs.SyntaxTree as tree
use Rattle.c_syntax.specs.SyntaxTree.{Expression, DeclarationTree, Statement, Statements, no_statement, statement}
use Rattle.c_syntax.specs.SyntaxTree.{no_choice, case_label, default_label, chosen}
use Rattle.c_tree.specs.declared.enclosing.Enclosing.{Enclosing}
use Rattle.c_tree.specs.declared.enclosing.Enclosing.TheVariants as around
use Rattle.c_tree.specs.declared.program.VarRef.{VarRef}
use Rattle.c_tree.specs.Eval.{kind_of}
use Rattle.c_tree.specs.TypedTree.{Kind, Stmt, Block, Stmts}
use Rattle.c_rules.specs.Kinds.{is_void, class_of}
use Rattle.c_rules.specs.Operands.{is_integer}
use Rattle.c_rules.specs.Renumbering as by
use Rattle.c_rules.specs.Scopes.{Scope, open_scope}
use Rattle.c_rules.specs.Statements.{LocalTree, Opened, Typed, Labelled, opened_in, declarations, before, optional, is_void_test, typed_return}
use Rattle.c_rules.specs.Statements.{may_break, may_continue, in_switch, repeats_label, typed_statement, typed_statements, typed_choices, typed_body}
use Rattle.c_rules.specs.Typing.{typing, operand, constant_typing, word_at}
use Rattle.c_rules.proofs.Formed.Context.{Gives, is, behind, unless}
use Rattle.c_rules.proofs.Formed.GivesLemmas.{anything}
use Rattle.c_tree.specs.Declarations.{declared_in, declared_among, declared_by_choices}
use Rattle.c_tree.specs.Fills.{filled_in, filled_among, filled_by_choices, FillsOwn, AllFillOwn, ChoicesFillOwn}
use Rattle.c_tree.specs.Fills.{fills_itself, filled_here, Avoids, FillsFirst, AllFillFirst, ChoicesFillFirst}
use Rattle.c_tree.specs.NamesUsed.{statement_names}
use Rattle.c_syntax.specs.Values.{HasValues, HaveValues, ChoicesHaveValues, DeclarationsHaveValues}
use Rattle.c_types_proof.proofs.Grown.{Adds, adds_nothing, adds_both}
use Rattle.c_types_proof.proofs.Named.{Differs}
use Rattle.c_types_proof.proofs.Openings.{Opens, opens_with_nothing, declarations_open}
use Rattle.c_types_proof.proofs.Renumbered.{Each, each_first, each_behind, IsKept}
use Rattle.c_types_proof.proofs.Scopes.{Known, known_later, known_inside}
use Rattle.c_types_proof.proofs.Starts.{first_filled, declared_before, filled_before, owned_before, first_before}

-- a statement, statements and choices behind these objects; none is a fill that stands alone
pub record IsMade (Given : Type 0) (ls : List LocalTree) (r : Typed Stmt) : Type 0 where
  pub adds : Adds Given ls r.locals (declared_in r.tree) (filled_in r.tree)
  pub own : (declared : List VarRef) → FillsOwn declared r.tree
  pub none : (frame : List VarRef) → fills_itself (by.statement frame r.tree) ≡ []
  pub first : (frame : List VarRef) → Differs frame → Each (IsKept frame) (filled_in r.tree) → FillsFirst (by.statement frame r.tree)

record AreMade (Given : Type 0) (ls : List LocalTree) (r : Typed Stmts) : Type 0 where
  adds : Adds Given ls r.locals (declared_among r.tree) (filled_among r.tree)
  own : (declared : List VarRef) → AllFillOwn declared r.tree
  none : (frame : List VarRef) → filled_here (by.statements frame r.tree) ≡ []
  first : (frame : List VarRef) → Differs frame → Each (IsKept frame) (filled_among r.tree) → AllFillFirst (by.statements frame r.tree)

record AreChosen (Given : Type 0) (ls : List LocalTree) (r : Typed Labelled) : Type 0 where
  adds : Adds Given ls r.locals (declared_by_choices r.tree.choices) (filled_by_choices r.tree.choices)
  own : ChoicesFillOwn r.tree.choices
  first : (frame : List VarRef) → Differs frame → Each (IsKept frame) (filled_by_choices r.tree.choices) → ChoicesFillFirst (by.choices frame r.tree.choices)

module _ (Given : Type 0) (result : Kind) where
  block_made : (ls : List LocalTree) (o : Opened) (r : Typed Stmts) → Opens Given ls o → AreMade Given o.locals r
      → IsMade Given ls (record { tree = Block o.declared (before o.statements r.tree); locals = r.locals })
  block_made ls o r opened inner = record {
    adds =
        subst (λ vs. Adds Given ls r.locals (o.declared ++ vs) (filled_among (before o.statements r.tree)))
        (sym (declared_before o.declared o.statements r.tree opened.starts))
        (subst (Adds Given ls r.locals (o.declared ++ declared_among r.tree)) (sym (filled_before o.statements r.tree))
        (adds_both Given ls o.locals r.locals o.declared (declared_among r.tree) (first_filled o.statements) (filled_among r.tree) opened.adds inner.adds));
    own = λ declared. owned_before o.declared o.statements r.tree opened.starts (inner.own o.declared);
    none = λ frame. refl;
    first = λ frame differs kept.
        let all : Each (IsKept frame) (first_filled o.statements ++ filled_among r.tree) =
        subst (Each (IsKept frame)) (filled_before o.statements r.tree) kept in
        first_before frame differs o.declared o.statements r.tree opened.starts opened.ordered (inner.none frame)
        (inner.first frame differs (each_behind (IsKept frame) (first_filled o.statements) (filled_among r.tree) all))
        (each_first (IsKept frame) (first_filled o.statements) (filled_among r.tree) all);
  }

  known_behind : (s : Scope) (ls later : List LocalTree) {ds : List VarRef} {ks : List ℕ} → Adds Given ls later ds ks → Known s (length ls)
      → Known s (length later)
  known_behind s ls later adds known = known_later s (length ls) (length later) (omega (arith, ap length adds.grown, length-append ls adds.others)) known

  mutual
    statement_made : (s : Scope) (c : Enclosing) (ls : List LocalTree) (a : Statement) → (Given → HasValues a) → Known s (length ls)
        → Gives (IsMade Given ls) (typed_statement result s c ls a)
    -- expressions and blocks
    statement_made s c ls (tree.Empty at) has known =
        is _ (record { adds = adds_nothing Given ls; own = λ vs. tt; none = λ frame. refl; first = λ frame differs kept. tt })
    statement_made s c ls (tree.Evaluate e at) has known =
        behind (typing s e) _ (anything _) λ x value.
        is _ (record { adds = adds_nothing Given ls; own = λ vs. tt; none = λ frame. refl; first = λ frame differs kept. tt })
    statement_made s c ls (tree.Block ds ss at) has known =
        behind (declarations (opened_in (open_scope s) ls) ds) _
        (declarations_open Given ls (opened_in (open_scope s) ls) ds (opens_with_nothing Given (open_scope s) ls (known_inside s (length ls) known))
        (λ given. (has given).0)) λ o opened.
        behind (typed_statements result o.scope c o.locals ss) _ (statements_made o.scope c o.locals ss (λ given. (has given).1) opened.known) λ r inner.
        is _ (block_made ls o r opened inner)
    -- jumps
    statement_made s c ls (tree.Break at) has known = unless (not (may_break c)) _ _ _ λ may.
        is _ (record { adds = adds_nothing Given ls; own = λ vs. tt; none = λ frame. refl; first = λ frame differs kept. tt })
    statement_made s c ls (tree.Continue at) has known = unless (not (may_continue c)) _ _ _ λ may.
        is _ (record { adds = adds_nothing Given ls; own = λ vs. tt; none = λ frame. refl; first = λ frame differs kept. tt })
    statement_made s c ls (tree.Return None at) has known = unless (not (is_void result)) _ _ _ λ void.
        is _ (record { adds = adds_nothing Given ls; own = λ vs. tt; none = λ frame. refl; first = λ frame differs kept. tt })
    statement_made s c ls (tree.Return (Some e) at) has known =
        behind (typing s e) _ (anything _) λ x value.
        behind (typed_return result at (operand e x)) _ (anything _) λ v returned.
        is _ (record { adds = adds_nothing Given ls; own = λ vs. tt; none = λ frame. refl; first = λ frame differs kept. tt })
    -- choices
    statement_made s c ls (tree.If e a at) has known =
        behind (typing s e) _ (anything _) λ x test.
        behind (typed_statement result s c ls a) _ (statement_made s c ls a has known) λ p inner.
        unless (is_void (kind_of x)) _ _ _ λ some.
        is _ (record {
          adds = adds_both Given ls p.locals p.locals (declared_in p.tree) [] (filled_in p.tree) [] inner.adds (adds_nothing Given p.locals);
          own = λ declared. (inner.own [], tt);
          none = λ frame. refl;
          first = λ frame differs kept. (inner.first frame differs (each_first (IsKept frame) (filled_in p.tree) [] kept), tt);
        })
    statement_made s c ls (tree.IfElse e a b at) has known =
        behind (typing s e) _ (anything _) λ x test.
        behind (typed_statement result s c ls a) _ (statement_made s c ls a (λ given. (has given).0) known) λ p first.
        behind (typed_statement result s c p.locals b) _
        (statement_made s c p.locals b (λ given. (has given).1) (known_behind s ls p.locals first.adds known)) λ q second.
        unless (is_void (kind_of x)) _ _ _ λ some.
        is _ (record {
          adds = adds_both Given ls p.locals q.locals (declared_in p.tree) (declared_in q.tree) (filled_in p.tree) (filled_in q.tree) first.adds second.adds;
          own = λ declared. (first.own [], second.own []);
          none = λ frame. refl;
          first = λ frame differs kept. (
            first.first frame differs (each_first (IsKept frame) (filled_in p.tree) (filled_in q.tree) kept),
            second.first frame differs (each_behind (IsKept frame) (filled_in p.tree) (filled_in q.tree) kept),
          );
        })
    statement_made s c ls (tree.Switch e cs place at) has known =
        behind (typing s e) _ (anything _) λ x value.
        behind (typed_choices result s (in_switch c) ls cs) _ (choices_made s (in_switch c) ls cs has known) λ r inner.
        unless (repeats_label r.tree.choices) _ _ _ λ once.
        unless r.tree.pointer _ _ _ λ words.
        unless (not (is_integer (class_of (kind_of x)))) _ _ _ λ integer.
        is _ (record { adds = inner.adds; own = λ declared. inner.own; none = λ frame. refl; first = inner.first })
    -- loops
    statement_made s c ls (tree.While e a at) has known =
        behind (typing s e) _ (anything _) λ x test.
        behind (typed_statement result s around.Loop ls a) _ (statement_made s around.Loop ls a has known) λ p inner.
        unless (is_void (kind_of x)) _ _ _ λ some.
        is _ (record { adds = inner.adds; own = λ declared. inner.own []; none = λ frame. refl; first = inner.first })
    statement_made s c ls (tree.DoWhile a e at) has known =
        behind (typed_statement result s around.Loop ls a) _ (statement_made s around.Loop ls a has known) λ p inner.
        behind (typing s e) _ (anything _) λ x test.
        unless (is_void (kind_of x)) _ _ _ λ some.
        is _ (record { adds = inner.adds; own = λ declared. inner.own []; none = λ frame. refl; first = inner.first })
    statement_made s c ls (tree.For first test third a at) has known =
        behind (optional s first) _ (anything _) λ x one.
        behind (optional s test) _ (anything _) λ y two.
        behind (optional s third) _ (anything _) λ z three.
        behind (typed_statement result s around.Loop ls a) _ (statement_made s around.Loop ls a has known) λ p inner.
        unless (is_void_test y) _ _ _ λ some.
        is _ (record { adds = inner.adds; own = λ declared. inner.own []; none = λ frame. refl; first = inner.first })

    statements_made : (s : Scope) (c : Enclosing) (ls : List LocalTree) (ss : Statements) → (Given → HaveValues ss) → Known s (length ls)
        → Gives (AreMade Given ls) (typed_statements result s c ls ss)
    statements_made s c ls no_statement has known =
        is _ (record { adds = adds_nothing Given ls; own = λ vs. tt; none = λ frame. refl; first = λ frame differs kept. tt })
    statements_made s c ls (statement a rest) has known =
        behind (typed_statement result s c ls a) _ (statement_made s c ls a (λ given. (has given).0) known) λ p first.
        behind (typed_statements result s c p.locals rest) _
        (statements_made s c p.locals rest (λ given. (has given).1) (known_behind s ls p.locals first.adds known)) λ r others.
        is _ (record {
          adds = adds_both Given ls p.locals r.locals (declared_in p.tree) (declared_among r.tree) (filled_in p.tree)
              (filled_among r.tree) first.adds others.adds;
          own = λ declared. (first.own declared, others.own declared);
          none = λ frame. ap (λ ns. ns ++ filled_here (by.statements frame r.tree)) (first.none frame) ∙ others.none frame;
          first = λ frame differs kept. (
            subst (Avoids (statement_names (by.statement frame p.tree))) (sym (others.none frame)) tt,
            first.first frame differs (each_first (IsKept frame) (filled_in p.tree) (filled_among r.tree) kept),
            others.first frame differs (each_behind (IsKept frame) (filled_in p.tree) (filled_among r.tree) kept),
          );
        })

    choices_made : (s : Scope) (c : Enclosing) (ls : List LocalTree) (cs : tree.Choices) → (Given → ChoicesHaveValues cs) → Known s (length ls)
        → Gives (AreChosen Given ls) (typed_choices result s c ls cs)
    choices_made s c ls no_choice has known = is _ (record { adds = adds_nothing Given ls; own = tt; first = λ frame differs kept. tt })
    choices_made s c ls (case_label e rest) has known =
        behind (constant_typing s e) _ (anything _) λ x label.
        behind (word_at e x) _ (anything _) λ w word.
        behind (typed_choices result s c ls rest) _ (choices_made s c ls rest has known) λ r others.
        is _ (record { adds = others.adds; own = others.own; first = others.first })
    choices_made s c ls (default_label rest) has known =
        behind (typed_choices result s c ls rest) _ (choices_made s c ls rest has known) λ r others.
        is _ (record { adds = others.adds; own = others.own; first = others.first })
    choices_made s c ls (chosen a rest) has known =
        behind (typed_statement result s c ls a) _ (statement_made s c ls a (λ given. (has given).0) known) λ p first.
        behind (typed_choices result s c p.locals rest) _
        (choices_made s c p.locals rest (λ given. (has given).1) (known_behind s ls p.locals first.adds known)) λ r others.
        is _ (record {
          adds =
              adds_both Given ls p.locals r.locals (declared_in p.tree) (declared_by_choices r.tree.choices) (filled_in p.tree)
              (filled_by_choices r.tree.choices)
              first.adds others.adds;
          own = (first.own [], others.own);
          first = λ frame differs kept. (
            first.first frame differs (each_first (IsKept frame) (filled_in p.tree) (filled_by_choices r.tree.choices) kept),
            others.first frame differs (each_behind (IsKept frame) (filled_in p.tree) (filled_by_choices r.tree.choices) kept),
          );
        })

  -- a body
  pub body_made : (s : Scope) (ls : List LocalTree) (ds : List DeclarationTree) (ss : Statements) → (Given → DeclarationsHaveValues ds × HaveValues ss)
      → Known s (length ls)
      → Gives (IsMade Given ls) (typed_body result s ls ds ss)
  body_made s ls ds ss has known =
      behind (declarations (opened_in s ls) ds) _
      (declarations_open Given ls (opened_in s ls) ds (opens_with_nothing Given s ls known) (λ given. (has given).0)) λ o opened.
      behind (typed_statements result o.scope around.Body o.locals ss) _
      (statements_made o.scope around.Body o.locals ss (λ given. (has given).1) opened.known) λ r inner.
      is _ (block_made ls o r opened inner)
