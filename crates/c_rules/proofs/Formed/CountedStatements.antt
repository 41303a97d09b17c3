-- The arrays and the addresses of a typed statement are at most as many as the statement has nodes and declared items.
use Rattle.std.proofs.Common.{◌≡◌, ◌≤◌, ◌+◌, ◌∷◌, [], ◌++◌, ℕ, Bool, true, false, not, List, length, is_some, Option, Some, None, arith, sum_by}
use Rattle.std.proofs.lemmas.List.Sums.{sum_by-cons}
use Rattle.c_tree.specs.c_syntax.Counts.{item_weight, declaration_weight, optional_weight, initial_weight, statement_weight, statements_weight, choices_weight}
use Rattle.c_tree.specs.declared.enclosing.Enclosing.{Enclosing}
use Rattle.c_tree.specs.declared.enclosing.Enclosing.TheVariants as around
use Rattle.c_tree.specs.declared.program.Base.{Base}
use Rattle.c_tree.specs.declared.program.VarRef.{VarRef}
use Rattle.c_tree.specs.declared.program.VarRef.TheVariants as refs
use Rattle.c_tree.specs.declared.uses.Use.TheVariants.{Cases}
use Rattle.c_tree.specs.c_syntax.SyntaxTree as tree
use Rattle.c_tree.specs.c_syntax.SyntaxTree.{Expression, ItemTree, InitialTree, DeclarationTree, Statement, Statements, no_statement, statement}
use Rattle.c_tree.specs.c_syntax.SyntaxTree.{no_choice, case_label, default_label, chosen}
use Rattle.c_tree.specs.TypedTree.{Kind, Stmt, Stmts}
use Rattle.c_tree.specs.Eval.{kind_of}
use Rattle.c_tree.specs.Uses.{uses, optional_uses, case_count, statement_uses, statements_uses, choices_uses}
use Rattle.c_rules.specs.declared.meaning.Declared.{Declared}
use Rattle.c_rules.specs.declared.meaning.Declared.TheVariants as declares
use Rattle.c_rules.specs.declared.meaning.ObjectType.{ObjectType}
use Rattle.c_rules.specs.declared.meaning.ObjectType.TheVariants.{Single, Array}
use Rattle.c_rules.specs.Kinds.{is_void, class_of}
use Rattle.c_rules.specs.Operands.{Operand, given, is_integer}
use Rattle.c_rules.specs.Scopes.{Scope, open_scope, is_taken}
use Rattle.c_rules.specs.Typing.{plain, typing, operand, constant_typing, word_at}
use Rattle.c_rules.specs.Declarations.{declarator, entries, array_list}
use Rattle.c_rules.specs.Statements.{LocalTree, Initialiser, Absent, Value, Listed, Misbraced, all_typed, initialiser, is_array, ObjectStart, started, Opened, opened_in}
use Rattle.c_rules.specs.Statements.{with_named_object, declared_as, block_item, block_items, declarations, before, optional, is_void_test, typed_return}
use Rattle.c_rules.specs.Statements.{may_break, may_continue, in_switch, repeats_label, Typed, Labelled, typed_statement, typed_statements, typed_choices, typed_body}
use Rattle.c_rules.proofs.Formed.Context.{Gives, is, broken, behind, unless}
use Rattle.c_rules.proofs.Formed.GivesLemmas.{anything, weaker}
use Rattle.c_rules.proofs.Formed.CountedUses.{addresses, addresses_joined, array_in, arrays, arrays_joined}
use Rattle.c_rules.proofs.Formed.CountedOperands.{taken, Takes, given_few}
use Rattle.c_rules.proofs.Formed.CountedExpressions.{code, expression_few}

-- statements that stand before others
abbrev first_taken : List Stmt → ℕ
first_taken [] = 0
first_taken (a ∷ rest) = addresses (statement_uses a) + first_taken rest

first_joined : (ss more : List Stmt) → first_taken (ss ++ more) ≡ first_taken ss + first_taken more
first_joined [] more = omega arith
first_joined (a ∷ ss) more = omega (arith, first_joined ss more)

before_taken : (ss : List Stmt) (rest : Stmts) → addresses (statements_uses (before ss rest)) ≡ first_taken ss + addresses (statements_uses rest)
before_taken [] rest = omega arith
before_taken (a ∷ ss) rest = omega (arith, before_taken ss rest, addresses_joined (statement_uses a) (statements_uses (before ss rest)))

-- the first value of an object
abbrev initialiser_taken : Initialiser → ℕ
initialiser_taken (Value x) = taken x.value
initialiser_taken Absent = 0
initialiser_taken (Listed es) = 0
initialiser_taken Misbraced = 0

all_typed_few : (n : ℕ) (s : Scope) (es : List Expression) → Gives (λ i. initialiser_taken i ≤ n) (all_typed s es)
all_typed_few n s [] = is _ (omega arith)
all_typed_few n s (e ∷ es) = behind (typing s e) _ (anything _) λ x value. all_typed_few n s es

initialiser_few : (s : Scope) (array : Bool) (i : Option InitialTree) → Gives (λ x. initialiser_taken x ≤ initial_weight code i) (initialiser s array i)
initialiser_few s array None = is _ (omega arith)
initialiser_few s array (Some (tree.One e)) = behind (typing s e) _ (expression_few s e) λ x few. is _ few
initialiser_few s true (Some (tree.Braced es at)) = behind (entries s es) _ (anything _) λ xs array_list. is _ (omega arith)
initialiser_few s false (Some (tree.Braced es at)) = all_typed_few _ s es

abbrev StartTakes : ℕ → ObjectStart → Type 0
StartTakes n start = first_taken start.statements ≤ n

started_few : (r : VarRef) (type : ObjectType) (at : ℕ) (i : Initialiser) → Gives (StartTakes (initialiser_taken i)) (started r type at i)
started_few r type at Absent = is _ (omega arith)
started_few r (Single kind) at (Value x) = behind (given kind at x) _ (given_few kind at x) λ v few. is _ (omega (arith, few))
started_few r (Single kind) at (Listed es) = broken _ _
started_few r (Single kind) at Misbraced = broken _ _
started_few r (Array kind n) at (Value x) = broken _ _
started_few r (Array kind n) at (Listed es) = behind (array_list kind n at es) _ (anything _) λ values right. is _ (omega arith)
started_few r (Array kind n) at Misbraced = broken _ _

-- what declarations make
abbrev opened_taken : Opened → ℕ
opened_taken o = arrays o.locals + first_taken o.statements

array_once : (type : ObjectType) → array_in type ≤ 1
array_once (Single kind) = omega arith
array_once (Array kind n) = omega arith

module _ (o : Opened) (item : ItemTree) where
  declared_few : (s : Scope) (r : VarRef) (d : Declared) (i : Initialiser)
      → Gives (λ p. opened_taken p ≤ opened_taken o + (1 + initialiser_taken i)) (declared_as o s r d item i)
  declared_few s r declares.Untyped i = broken _ _
  declared_few s r (declares.Function type) i = unless (is_some item.initial) _ _ _ λ none. broken _ _
  declared_few s r (declares.Object type) i =
      behind (started r type item.at i) _ (started_few r type item.at i) λ start few.
      is _ (omega (
        arith,
        few,
        array_once type,
        first_joined o.statements start.statements,
        arrays_joined o.locals (record { name = item.name; object_type = type; values = start.values } ∷ []),
      ))

  item_few : (b : Base) → Gives (λ p. opened_taken p ≤ opened_taken o + item_weight code item) (block_item o b item)
  item_few b =
      let r : VarRef = refs.Local (length o.locals) in
      behind (declarator o.scope b item.form item.stars item.initial) _ (anything _) λ d type.
      behind (initialiser (with_named_object o.scope item.name r d) (is_array item.form) item.initial) _
      (initialiser_few (with_named_object o.scope item.name r d) (is_array item.form) item.initial) λ i few.
      unless (is_taken o.scope item.name) _ _ _ λ free.
      weaker _ (declared_few (with_named_object o.scope item.name r d) r d i) λ p within. omega (arith, few, within)

items_few : (b : Base) (o : Opened) (items : List ItemTree) → Gives (λ p. opened_taken p ≤ opened_taken o + sum_by (item_weight code) items) (block_items o b items)
items_few b o [] = is _ (omega arith)
items_few b o (item ∷ items) =
    behind (block_item o b item) _ (item_few o item b) λ p first.
    weaker _ (items_few b p items) λ q others. omega (arith, first, others, sum_by-cons (item_weight code) item items)

declarations_few : (o : Opened) (ds : List DeclarationTree) → Gives (λ p. opened_taken p ≤ opened_taken o + sum_by (declaration_weight code) ds) (declarations o ds)
declarations_few o [] = is _ (omega arith)
declarations_few o (d ∷ ds) =
    behind (plain d.specs) _ (anything _) λ b base.
    behind (block_items o b d.items) _ (items_few b o d.items) λ p first.
    weaker _ (declarations_few p ds) λ q others. omega (arith, first, others, sum_by-cons (declaration_weight code) d ds)

-- expressions in statements
optional_few : (s : Scope) (e : Option Expression) → Gives (λ x. addresses (optional_uses x) ≤ optional_weight code e) (optional s e)
optional_few s None = is _ (omega arith)
optional_few s (Some e) = behind (typing s e) _ (expression_few s e) λ x few. is _ few

returned_few : (result : Kind) (at : ℕ) (x : Operand) → Takes (taken x.value) (typed_return result at x)
returned_few None at x = broken _ _
returned_few (Some kind) at x = given_few kind at x

-- trees with the objects of their function
abbrev statement_taken : Typed Stmt → ℕ
statement_taken r = arrays r.locals + addresses (statement_uses r.tree)

abbrev statements_taken : Typed Stmts → ℕ
statements_taken r = arrays r.locals + addresses (statements_uses r.tree)

abbrev choices_taken : Typed Labelled → ℕ
choices_taken r = arrays r.locals + addresses (choices_uses r.tree.choices)

module _ (result : Kind) where
  mutual
    statement_few : (s : Scope) (c : Enclosing) (ls : List LocalTree) (a : Statement)
        → Gives (λ r. statement_taken r ≤ arrays ls + statement_weight code a) (typed_statement result s c ls a)
    -- expressions and blocks
    statement_few s c ls (tree.Empty at) = is _ (omega arith)
    statement_few s c ls (tree.Evaluate e at) = behind (typing s e) _ (expression_few s e) λ x few. is _ (omega (arith, few))
    statement_few s c ls (tree.Block ds ss at) =
        behind (declarations (opened_in (open_scope s) ls) ds) _ (declarations_few (opened_in (open_scope s) ls) ds) λ o opened.
        behind (typed_statements result o.scope c o.locals ss) _ (statements_few o.scope c o.locals ss) λ r inner.
        is _ (omega (arith, opened, inner, before_taken o.statements r.tree))
    -- jumps
    statement_few s c ls (tree.Break at) = unless (not (may_break c)) _ _ _ λ may. is _ (omega arith)
    statement_few s c ls (tree.Continue at) = unless (not (may_continue c)) _ _ _ λ may. is _ (omega arith)
    statement_few s c ls (tree.Return None at) = unless (not (is_void result)) _ _ _ λ void. is _ (omega arith)
    statement_few s c ls (tree.Return (Some e) at) =
        behind (typing s e) _ (expression_few s e) λ x few.
        behind (typed_return result at (operand e x)) _ (returned_few result at (operand e x)) λ v less. is _ (omega (arith, few, less))
    -- choices
    statement_few s c ls (tree.If e a at) =
        behind (typing s e) _ (expression_few s e) λ x test.
        behind (typed_statement result s c ls a) _ (statement_few s c ls a) λ p inner.
        unless (is_void (kind_of x)) _ _ _ λ some.
        is _ (omega (arith, test, inner, addresses_joined (uses x) (statement_uses p.tree ++ []), addresses_joined (statement_uses p.tree) []))
    statement_few s c ls (tree.IfElse e a b at) =
        behind (typing s e) _ (expression_few s e) λ x test.
        behind (typed_statement result s c ls a) _ (statement_few s c ls a) λ p first.
        behind (typed_statement result s c p.locals b) _ (statement_few s c p.locals b) λ q second.
        unless (is_void (kind_of x)) _ _ _ λ some.
        is _ (omega (
          arith,
          test,
          first,
          second,
          addresses_joined (uses x) (statement_uses p.tree ++ statement_uses q.tree),
          addresses_joined (statement_uses p.tree) (statement_uses q.tree),
        ))
    statement_few s c ls (tree.Switch e cs place at) =
        behind (typing s e) _ (expression_few s e) λ x value.
        behind (typed_choices result s (in_switch c) ls cs) _ (choices_few s (in_switch c) ls cs) λ r inner.
        unless (repeats_label r.tree.choices) _ _ _ λ once.
        unless r.tree.pointer _ _ _ λ words.
        unless (not (is_integer (class_of (kind_of x)))) _ _ _ λ integer.
        is _ (omega (arith, value, inner, addresses_joined (uses x) (Cases (case_count r.tree.choices) ∷ choices_uses r.tree.choices)))
    -- loops
    statement_few s c ls (tree.While e a at) =
        behind (typing s e) _ (expression_few s e) λ x test.
        behind (typed_statement result s around.Loop ls a) _ (statement_few s around.Loop ls a) λ p inner.
        unless (is_void (kind_of x)) _ _ _ λ some.
        is _ (omega (arith, test, inner, addresses_joined (uses x) (statement_uses p.tree)))
    statement_few s c ls (tree.DoWhile a e at) =
        behind (typed_statement result s around.Loop ls a) _ (statement_few s around.Loop ls a) λ p inner.
        behind (typing s e) _ (expression_few s e) λ x test.
        unless (is_void (kind_of x)) _ _ _ λ some.
        is _ (omega (arith, test, inner, addresses_joined (statement_uses p.tree) (uses x)))
    statement_few s c ls (tree.For first test third a at) =
        behind (optional s first) _ (optional_few s first) λ x one.
        behind (optional s test) _ (optional_few s test) λ y two.
        behind (optional s third) _ (optional_few s third) λ z three.
        behind (typed_statement result s around.Loop ls a) _ (statement_few s around.Loop ls a) λ p inner.
        unless (is_void_test y) _ _ _ λ some.
        is _ (omega (
          arith,
          one,
          two,
          three,
          inner,
          addresses_joined (optional_uses x) (optional_uses y ++ (optional_uses z ++ statement_uses p.tree)),
          addresses_joined (optional_uses y) (optional_uses z ++ statement_uses p.tree),
          addresses_joined (optional_uses z) (statement_uses p.tree),
        ))

    statements_few : (s : Scope) (c : Enclosing) (ls : List LocalTree) (ss : Statements)
        → Gives (λ r. statements_taken r ≤ arrays ls + statements_weight code ss) (typed_statements result s c ls ss)
    statements_few s c ls no_statement = is _ (omega arith)
    statements_few s c ls (statement a rest) =
        behind (typed_statement result s c ls a) _ (statement_few s c ls a) λ p first.
        behind (typed_statements result s c p.locals rest) _ (statements_few s c p.locals rest) λ r others.
        is _ (omega (arith, first, others, addresses_joined (statement_uses p.tree) (statements_uses r.tree)))

    choices_few : (s : Scope) (c : Enclosing) (ls : List LocalTree) (cs : tree.Choices)
        → Gives (λ r. choices_taken r ≤ arrays ls + choices_weight code cs) (typed_choices result s c ls cs)
    choices_few s c ls no_choice = is _ (omega arith)
    choices_few s c ls (case_label e rest) =
        behind (constant_typing s e) _ (anything _) λ x label.
        behind (word_at e x) _ (anything _) λ w word.
        behind (typed_choices result s c ls rest) _ (choices_few s c ls rest) λ r others. is _ (omega (arith, others))
    choices_few s c ls (default_label rest) = behind (typed_choices result s c ls rest) _ (choices_few s c ls rest) λ r others. is _ others
    choices_few s c ls (chosen a rest) =
        behind (typed_statement result s c ls a) _ (statement_few s c ls a) λ p first.
        behind (typed_choices result s c p.locals rest) _ (choices_few s c p.locals rest) λ r others.
        is _ (omega (arith, first, others, addresses_joined (statement_uses p.tree) (choices_uses r.tree.choices)))

  pub body_few : (s : Scope) (ls : List LocalTree) (ds : List DeclarationTree) (ss : Statements) (at : ℕ)
      → Gives (λ r. statement_taken r ≤ arrays ls + statement_weight code (tree.Block ds ss at)) (typed_body result s ls ds ss)
  body_few s ls ds ss at =
      behind (declarations (opened_in s ls) ds) _ (declarations_few (opened_in s ls) ds) λ o opened.
      behind (typed_statements result o.scope around.Body o.locals ss) _ (statements_few o.scope around.Body o.locals ss) λ r inner.
      is _ (omega (arith, opened, inner, before_taken o.statements r.tree))
