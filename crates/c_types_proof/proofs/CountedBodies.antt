-- The objects, temporaries and cases of a typed statement are at most as many as the statement has nodes and declared items.
use Rattle.std.proofs.Common.{◌≡◌, ◌≤◌, ◌+◌, ◌∷◌, [], ◌++◌, ℕ, Bool, true, false, not, List, length, is_some, Option, Some, None, refl, arith, length-append, sum_by}
use Rattle.std.proofs.lemmas.List.Sums.{sum_by-cons}
use Rattle.c_syntax.specs.Counts.{expression_weight, item_weight, declaration_weight, optional_weight, initial_weight, statement_weight, statements_weight, choices_weight}
use Rattle.c_tree.specs.declared.enclosing.Enclosing.{Enclosing}
use Rattle.c_tree.specs.declared.enclosing.Enclosing.TheVariants as around
use Rattle.c_tree.specs.declared.program.Base.{Base}
use Rattle.c_tree.specs.declared.program.VarRef.{VarRef}
use Rattle.c_tree.specs.declared.program.VarRef.TheVariants as refs
use Rattle.c_tree.specs.declared.uses.Use.{Use}
use Rattle.c_tree.specs.declared.uses.Use.TheVariants.{Address, Call, Cases}
use Rattle.c_tree.specs.Temporaries.{temporaries, optional_temporaries, statement_temporaries, statements_temporaries, choices_temporaries}
use Rattle.c_syntax.specs.SyntaxTree as tree
use Rattle.c_syntax.specs.SyntaxTree.{Expression, ItemTree, InitialTree, DeclarationTree, Statement, Statements, no_statement, statement}
use Rattle.c_syntax.specs.SyntaxTree.{no_choice, case_label, default_label, chosen}
use Rattle.c_tree.specs.TypedTree as typed
use Rattle.c_tree.specs.TypedTree.{Kind, Expr, Node, Form, Lvalue, Named, At, Exprs, Stmt, Stmts, Choices}
use Rattle.c_tree.specs.Eval.{kind_of}
use Rattle.c_tree.specs.Uses.{uses, form_uses, target_uses, list_uses, optional_uses, case_count, statement_uses, statements_uses, choices_uses}
use Rattle.c_rules.specs.declared.meaning.Declared.{Declared}
use Rattle.c_rules.specs.declared.meaning.Declared.TheVariants as declares
use Rattle.c_rules.specs.declared.meaning.ObjectType.{ObjectType}
use Rattle.c_rules.specs.declared.meaning.ObjectType.TheVariants.{Single, Array}
use Rattle.c_rules.specs.Kinds.{is_void, class_of}
use Rattle.c_rules.specs.Operands.{Operand, given, is_integer}
use Rattle.c_rules.specs.Scopes.{Scope, open_scope, is_taken}
use Rattle.c_rules.specs.Typing.{plain, typing, operand, constant_typing, word_at}
use Rattle.c_rules.specs.Declarations.{declarator, entries, array_list}
use Rattle.c_rules.specs.Statements.{LocalTree, Initialiser, Absent, Value, Listed, Misbraced, all_typed, initialiser, is_array, ObjectStart, started, Opened, opened_in}
use Rattle.c_rules.specs.Statements.{with_named_object, declared_as, block_item, block_items, declarations, before, optional, is_void_test, typed_return}
use Rattle.c_rules.specs.Statements.{may_break, may_continue, in_switch, repeats_label, Typed, Labelled, typed_statement, typed_statements, typed_choices, typed_body}
use Rattle.c_rules.proofs.Formed.Context.{Gives, is, broken, behind, unless}
use Rattle.c_rules.proofs.Formed.GivesLemmas.{anything, weaker}
use Rattle.c_rules.proofs.Formed.CountedExpressions.{code}
use Rattle.c_types_proof.proofs.TemporaryOperands.{Needs, given_few}
use Rattle.c_types_proof.proofs.TemporaryExpressions.{expression_few}

-- the cases of switches
abbrev pub cases : List Use → ℕ
cases [] = 0
cases (Cases n ∷ us) = n + cases us
cases (Address r ∷ us) = cases us
cases (Call f at ∷ us) = cases us

cases_joined : (us vs : List Use) → cases (us ++ vs) ≡ cases us + cases vs
cases_joined [] vs = omega arith
cases_joined (Cases n ∷ us) vs = omega (arith, cases_joined us vs)
cases_joined (Address r ∷ us) vs = cases_joined us vs
cases_joined (Call f at ∷ us) vs = cases_joined us vs

no_more_cases : (us vs : List Use) → cases us ≡ 0 → cases vs ≡ 0 → cases (us ++ vs) ≡ 0
no_more_cases us vs none nor = omega (arith, none, nor, cases_joined us vs)

-- no expression has one
mutual
  no_cases : (e : Expr) → cases (uses e) ≡ 0
  no_cases (Node form kind at) = none_in form at

  none_in : (form : Form) (at : ℕ) → cases (form_uses form at) ≡ 0
  none_in (typed.Const w) at = refl
  none_in (typed.Read v) at = refl
  none_in (typed.AddressOf v) at = refl
  none_in (typed.Load e) at = no_cases e
  none_in (typed.Unary o e) at = no_cases e
  none_in (typed.Binary o a b) at = no_more_cases (uses a) (uses b) (no_cases a) (no_cases b)
  none_in (typed.And a b) at = no_more_cases (uses a) (uses b) (no_cases a) (no_cases b)
  none_in (typed.Or a b) at = no_more_cases (uses a) (uses b) (no_cases a) (no_cases b)
  none_in (typed.Not e) at = no_cases e
  none_in (typed.Pick c a b) at =
      no_more_cases (uses c) (uses a ++ uses b) (no_cases c) (no_more_cases (uses a) (uses b) (no_cases a) (no_cases b))
  none_in (typed.Assign l e) at = no_more_cases (target_uses l) (uses e) (none_written l) (no_cases e)
  none_in (typed.AssignOp o l e) at = no_more_cases (target_uses l) (uses e) (none_written l) (no_cases e)
  none_in (typed.StepBefore up l) at = none_written l
  none_in (typed.StepAfter up l) at = none_written l
  none_in (typed.Call f es) at = no_more_cases (list_uses es) (Call f at ∷ []) (none_passed es) refl
  none_in (typed.In port) at = refl
  none_in (typed.Out port e) at = no_cases e
  none_in (typed.Comma a b) at = no_more_cases (uses a) (uses b) (no_cases a) (no_cases b)
  none_in (typed.Convert e) at = no_cases e

  none_written : (l : Lvalue) → cases (target_uses l) ≡ 0
  none_written (Named v at) = refl
  none_written (At e at) = no_cases e

  none_passed : (es : Exprs) → cases (list_uses es) ≡ 0
  none_passed typed.none = refl
  none_passed (typed.more e rest) = no_more_cases (uses e) (list_uses rest) (no_cases e) (none_passed rest)

none_optional : (e : Option Expr) → cases (optional_uses e) ≡ 0
none_optional None = refl
none_optional (Some e) = no_cases e

-- what statements need: temporaries, and the cases of their switches
abbrev pub statement_need : Stmt → ℕ
statement_need s = statement_temporaries s + cases (statement_uses s)

abbrev statements_need : Stmts → ℕ
statements_need ss = statements_temporaries ss + cases (statements_uses ss)

abbrev choices_need : Choices → ℕ
choices_need cs = choices_temporaries cs + (cases (choices_uses cs) + case_count cs)

-- statements that stand before others
abbrev first_needed : List Stmt → ℕ
first_needed [] = 0
first_needed (a ∷ rest) = statement_need a + first_needed rest

first_joined : (ss more : List Stmt) → first_needed (ss ++ more) ≡ first_needed ss + first_needed more
first_joined [] more = omega arith
first_joined (a ∷ ss) more = omega (arith, first_joined ss more)

before_needed : (ss : List Stmt) (rest : Stmts) → statements_need (before ss rest) ≤ first_needed ss + statements_need rest
before_needed [] rest = omega arith
before_needed (a ∷ ss) rest = omega (arith, before_needed ss rest, cases_joined (statement_uses a) (statements_uses (before ss rest)))

-- the first value of an object
abbrev initialiser_needed : Initialiser → ℕ
initialiser_needed (Value x) = temporaries x.value
initialiser_needed Absent = 0
initialiser_needed (Listed es) = 0
initialiser_needed Misbraced = 0

all_typed_few : (n : ℕ) (s : Scope) (es : List Expression) → Gives (λ i. initialiser_needed i ≤ n) (all_typed s es)
all_typed_few n s [] = is _ (omega arith)
all_typed_few n s (e ∷ es) = behind (typing s e) _ (anything _) λ x value. all_typed_few n s es

initialiser_few : (s : Scope) (array : Bool) (i : Option InitialTree) → Gives (λ x. initialiser_needed x ≤ initial_weight code i) (initialiser s array i)
initialiser_few s array None = is _ (omega arith)
initialiser_few s array (Some (tree.One e)) = behind (typing s e) _ (expression_few s e) λ x few. is _ (omega (arith, few))
initialiser_few s true (Some (tree.Braced es at)) = behind (entries s es) _ (anything _) λ xs array_list. is _ (omega arith)
initialiser_few s false (Some (tree.Braced es at)) = all_typed_few _ s es

abbrev StartNeeds : ℕ → ObjectStart → Type 0
StartNeeds n start = first_needed start.statements ≤ n

started_few : (r : VarRef) (type : ObjectType) (at : ℕ) (i : Initialiser) → Gives (StartNeeds (initialiser_needed i)) (started r type at i)
started_few r type at Absent = is _ (omega arith)
started_few r (Single kind) at (Value x) = behind (given kind at x) _ (given_few kind at x) λ v few. is _ (omega (arith, few, no_cases v))
started_few r (Single kind) at (Listed es) = broken _ _
started_few r (Single kind) at Misbraced = broken _ _
started_few r (Array kind n) at (Value x) = broken _ _
started_few r (Array kind n) at (Listed es) = behind (array_list kind n at es) _ (anything _) λ values right. is _ (omega arith)
started_few r (Array kind n) at Misbraced = broken _ _

-- what declarations make
abbrev opened_needed : Opened → ℕ
opened_needed o = length o.locals + first_needed o.statements

module _ (o : Opened) (item : ItemTree) where
  declared_few : (s : Scope) (r : VarRef) (d : Declared) (i : Initialiser)
      → Gives (λ p. opened_needed p ≤ opened_needed o + (1 + initialiser_needed i)) (declared_as o s r d item i)
  declared_few s r declares.Untyped i = broken _ _
  declared_few s r (declares.Function type) i = unless (is_some item.initial) _ _ _ λ none. broken _ _
  declared_few s r (declares.Object type) i =
      behind (started r type item.at i) _ (started_few r type item.at i) λ start few.
      is _ (omega (
        arith,
        few,
        first_joined o.statements start.statements,
        length-append o.locals (record { name = item.name; object_type = type; values = start.values } ∷ []),
      ))

  item_few : (b : Base) → Gives (λ p. opened_needed p ≤ opened_needed o + item_weight code item) (block_item o b item)
  item_few b =
      let r : VarRef = refs.Local (length o.locals) in
      behind (declarator o.scope b item.form item.stars item.initial) _ (anything _) λ d type.
      behind (initialiser (with_named_object o.scope item.name r d) (is_array item.form) item.initial) _
      (initialiser_few (with_named_object o.scope item.name r d) (is_array item.form) item.initial) λ i few.
      unless (is_taken o.scope item.name) _ _ _ λ free.
      weaker _ (declared_few (with_named_object o.scope item.name r d) r d i) λ p within. omega (arith, few, within)

items_few : (b : Base) (o : Opened) (items : List ItemTree) → Gives (λ p. opened_needed p ≤ opened_needed o + sum_by (item_weight code) items) (block_items o b items)
items_few b o [] = is _ (omega arith)
items_few b o (item ∷ items) =
    behind (block_item o b item) _ (item_few o item b) λ p first.
    weaker _ (items_few b p items) λ q others. omega (arith, first, others, sum_by-cons (item_weight code) item items)

declarations_few : (o : Opened) (ds : List DeclarationTree) → Gives (λ p. opened_needed p ≤ opened_needed o + sum_by (declaration_weight code) ds) (declarations o ds)
declarations_few o [] = is _ (omega arith)
declarations_few o (d ∷ ds) =
    behind (plain d.specs) _ (anything _) λ b base.
    behind (block_items o b d.items) _ (items_few b o d.items) λ p first.
    weaker _ (declarations_few p ds) λ q others. omega (arith, first, others, sum_by-cons (declaration_weight code) d ds)

-- expressions in statements
optional_few : (s : Scope) (e : Option Expression) → Gives (λ x. optional_temporaries x ≤ optional_weight code e) (optional s e)
optional_few s None = is _ (omega arith)
optional_few s (Some e) = behind (typing s e) _ (expression_few s e) λ x few. is _ (omega (arith, few))

returned_few : (result : Kind) (at : ℕ) (x : Operand) → Needs (temporaries x.value) (typed_return result at x)
returned_few None at x = broken _ _
returned_few (Some kind) at x = given_few kind at x

-- trees with the objects of their function
abbrev pub statement_needed : Typed Stmt → ℕ
statement_needed r = length r.locals + statement_need r.tree

abbrev statements_needed : Typed Stmts → ℕ
statements_needed r = length r.locals + statements_need r.tree

abbrev choices_needed : Typed Labelled → ℕ
choices_needed r = length r.locals + choices_need r.tree.choices

-- a node counts one at least
expression_counts : (e : Expression) → 1 ≤ expression_weight code e
expression_counts (tree.Node form at) = omega arith

module _ (result : Kind) where
  mutual
    statement_few : (s : Scope) (c : Enclosing) (ls : List LocalTree) (a : Statement)
        → Gives (λ r. statement_needed r ≤ length ls + statement_weight code a) (typed_statement result s c ls a)
    -- expressions and blocks
    statement_few s c ls (tree.Empty at) = is _ (omega arith)
    statement_few s c ls (tree.Evaluate e at) = behind (typing s e) _ (expression_few s e) λ x few. is _ (omega (arith, few, no_cases x))
    statement_few s c ls (tree.Block ds ss at) =
        behind (declarations (opened_in (open_scope s) ls) ds) _ (declarations_few (opened_in (open_scope s) ls) ds) λ o opened.
        behind (typed_statements result o.scope c o.locals ss) _ (statements_few o.scope c o.locals ss) λ r inner.
        is _ (omega (arith, opened, inner, before_needed o.statements r.tree))
    -- jumps
    statement_few s c ls (tree.Break at) = unless (not (may_break c)) _ _ _ λ may. is _ (omega arith)
    statement_few s c ls (tree.Continue at) = unless (not (may_continue c)) _ _ _ λ may. is _ (omega arith)
    statement_few s c ls (tree.Return None at) = unless (not (is_void result)) _ _ _ λ void. is _ (omega arith)
    statement_few s c ls (tree.Return (Some e) at) =
        behind (typing s e) _ (expression_few s e) λ x few.
        behind (typed_return result at (operand e x)) _ (returned_few result at (operand e x)) λ v less. is _ (omega (arith, few, less, no_cases v))
    -- choices
    statement_few s c ls (tree.If e a at) =
        behind (typing s e) _ (expression_few s e) λ x test.
        behind (typed_statement result s c ls a) _ (statement_few s c ls a) λ p inner.
        unless (is_void (kind_of x)) _ _ _ λ some.
        is _ (omega (arith, test, inner, no_cases x, cases_joined (uses x) (statement_uses p.tree ++ []), cases_joined (statement_uses p.tree) []))
    statement_few s c ls (tree.IfElse e a b at) =
        behind (typing s e) _ (expression_few s e) λ x test.
        behind (typed_statement result s c ls a) _ (statement_few s c ls a) λ p first.
        behind (typed_statement result s c p.locals b) _ (statement_few s c p.locals b) λ q second.
        unless (is_void (kind_of x)) _ _ _ λ some.
        is _ (omega (
          arith,
          test,
          first,
          second,
          no_cases x,
          cases_joined (uses x) (statement_uses p.tree ++ statement_uses q.tree),
          cases_joined (statement_uses p.tree) (statement_uses q.tree),
        ))
    statement_few s c ls (tree.Switch e cs place at) =
        behind (typing s e) _ (expression_few s e) λ x value.
        behind (typed_choices result s (in_switch c) ls cs) _ (choices_few s (in_switch c) ls cs) λ r inner.
        unless (repeats_label r.tree.choices) _ _ _ λ once.
        unless r.tree.pointer _ _ _ λ words.
        unless (not (is_integer (class_of (kind_of x)))) _ _ _ λ integer.
        is _ (omega (arith, value, inner, no_cases x, cases_joined (uses x) (Cases (case_count r.tree.choices) ∷ choices_uses r.tree.choices)))
    -- loops
    statement_few s c ls (tree.While e a at) =
        behind (typing s e) _ (expression_few s e) λ x test.
        behind (typed_statement result s around.Loop ls a) _ (statement_few s around.Loop ls a) λ p inner.
        unless (is_void (kind_of x)) _ _ _ λ some.
        is _ (omega (arith, test, inner, no_cases x, cases_joined (uses x) (statement_uses p.tree)))
    statement_few s c ls (tree.DoWhile a e at) =
        behind (typed_statement result s around.Loop ls a) _ (statement_few s around.Loop ls a) λ p inner.
        behind (typing s e) _ (expression_few s e) λ x test.
        unless (is_void (kind_of x)) _ _ _ λ some.
        is _ (omega (arith, test, inner, no_cases x, cases_joined (statement_uses p.tree) (uses x)))
    statement_few s c ls (tree.For first test third a at) =
        behind (optional s first) _ (optional_few s first) λ x one.
        behind (optional s test) _ (optional_few s test) λ y two.
        behind (optional s third) _ (optional_few s third) λ z three.
        behind (typed_statement result s around.Loop ls a) _ (statement_few s around.Loop ls a) λ p inner.
        unless (is_void_test y) _ _ _ λ some.
        is _ (omega (
          arith,
          one,
          two,
          three,
          inner,
          none_optional x,
          none_optional y,
          none_optional z,
          cases_joined (optional_uses x) (optional_uses y ++ (optional_uses z ++ statement_uses p.tree)),
          cases_joined (optional_uses y) (optional_uses z ++ statement_uses p.tree),
          cases_joined (optional_uses z) (statement_uses p.tree),
        ))

    statements_few : (s : Scope) (c : Enclosing) (ls : List LocalTree) (ss : Statements)
        → Gives (λ r. statements_needed r ≤ length ls + statements_weight code ss) (typed_statements result s c ls ss)
    statements_few s c ls no_statement = is _ (omega arith)
    statements_few s c ls (statement a rest) =
        behind (typed_statement result s c ls a) _ (statement_few s c ls a) λ p first.
        behind (typed_statements result s c p.locals rest) _ (statements_few s c p.locals rest) λ r others.
        is _ (omega (arith, first, others, cases_joined (statement_uses p.tree) (statements_uses r.tree)))

    choices_few : (s : Scope) (c : Enclosing) (ls : List LocalTree) (cs : tree.Choices)
        → Gives (λ r. choices_needed r ≤ length ls + choices_weight code cs) (typed_choices result s c ls cs)
    choices_few s c ls no_choice = is _ (omega arith)
    choices_few s c ls (case_label e rest) =
        behind (constant_typing s e) _ (anything _) λ x label.
        behind (word_at e x) _ (anything _) λ w word.
        behind (typed_choices result s c ls rest) _ (choices_few s c ls rest) λ r others. is _ (omega (arith, others, expression_counts e))
    choices_few s c ls (default_label rest) = behind (typed_choices result s c ls rest) _ (choices_few s c ls rest) λ r others. is _ others
    choices_few s c ls (chosen a rest) =
        behind (typed_statement result s c ls a) _ (statement_few s c ls a) λ p first.
        behind (typed_choices result s c p.locals rest) _ (choices_few s c p.locals rest) λ r others.
        is _ (omega (arith, first, others, cases_joined (statement_uses p.tree) (choices_uses r.tree.choices)))

  pub body_few : (s : Scope) (ls : List LocalTree) (ds : List DeclarationTree) (ss : Statements) (at : ℕ)
      → Gives (λ r. statement_needed r ≤ length ls + statement_weight code (tree.Block ds ss at)) (typed_body result s ls ds ss)
  body_few s ls ds ss at =
      behind (declarations (opened_in s ls) ds) _ (declarations_few (opened_in s ls) ds) λ o opened.
      behind (typed_statements result o.scope around.Body o.locals ss) _ (statements_few o.scope around.Body o.locals ss) λ r inner.
      is _ (omega (arith, opened, inner, before_needed o.statements r.tree))
