-- The statements of a body are well-formed, and its objects have types and lists that fit.
use Rattle.std.proofs.Common.{◌≡◌, ℕ, false, true, Bool, not, if◌then◌else◌, List, [], ◌∷◌, Option, Some, None, refl, sym, subst, true≢false}
use Rattle.std.specs.Prelude.{All}
use Rattle.std.proofs.lemmas.Bool.{not-false}
use Rattle.std.proofs.lemmas.List.Elements.{All-head, All-tail}
use Rattle.c_tree.specs.declared.program.ScalarType.{ScalarType}
use Rattle.c_tree.specs.declared.program.VarRef.{VarRef}
use Rattle.c_tree.specs.c_syntax.SyntaxTree as tree
use Rattle.c_tree.specs.c_syntax.SyntaxTree.{Expression, DeclarationTree, Statement, Statements, no_statement, statement, no_choice, case_label, default_label, chosen}
use Rattle.c_tree.specs.TypedTree as typed
use Rattle.c_tree.specs.TypedTree.{Kind, Expr, Stmt, Stmts}
use Rattle.c_tree.specs.Store.{is_pointer}
use Rattle.c_tree.specs.Eval.{kind_of}
use Rattle.c_rules.specs.declared.fault.Rule.TheVariants.{Mismatch}
use Rattle.c_rules.specs.declared.class.Class.TheVariants.{Integer, Pointer}
use Rattle.c_tree.specs.declared.enclosing.Enclosing.{Enclosing}
use Rattle.c_tree.specs.declared.enclosing.Enclosing.TheVariants as around
use Rattle.c_rules.specs.Kinds.{class_of, is_void}
use Rattle.c_rules.specs.Operands.{Operand, given, is_integer}
use Rattle.c_rules.specs.Scopes.{Scope, open_scope}
use Rattle.c_rules.specs.Typing.{typing, operand, constant_typing, word_at}
use Rattle.c_rules.specs.Statements.{LocalTree, Opened, opened_in, declarations, before, optional, is_void_test, typed_return, may_break, may_continue, in_switch, repeats_label}
use Rattle.c_rules.specs.Statements.{Typed, Labelled, just, typed_statement, typed_statements, typed_choices, typed_body}
use Rattle.c_tree.specs.Kinds.{IsKind, IsInteger, IsValue}
use Rattle.c_tree.specs.WellFormed.{Shape, Names, IsWellTyped, IsTest, IsOptional, IsOptionalTest, IsReturned, IsWellFormed, AreWellFormed, HasChoices, opened}
use Rattle.c_rules.proofs.Formed.Context.{Gives, is, broken, behind, unless, Fits}
use Rattle.c_rules.proofs.Formed.ExpressionTypes.{typed_expression, given_value}
use Rattle.c_rules.proofs.Formed.GivesLemmas.{anything, for_all, weaker}
use Rattle.c_rules.proofs.Formed.OpenedNames.{nothing_new}
use Rattle.c_rules.proofs.Formed.BlockTypes.{Opens, opened_declarations}
use Rattle.c_rules.proofs.Formed.GrownLocals.{Grown, with_none, with_one, with_two, with_block}
pub use Rattle.c_rules.proofs.Formed.DeclarationTypes.{IsObjectType, IsDeclaredType, declared_type, parameter_types}

-- kinds of values
is_value : (kind : Kind) → is_void kind ≡ false → IsValue kind
is_value None some = absurd (true≢false some)
is_value (Some kind) some = tt

integer_as : (pointer : Bool) → is_integer (if pointer then Pointer else Integer) ≡ true → pointer ≡ false
integer_as true integer = absurd (true≢false (sym integer))
integer_as false integer = refl

integer_kind : (kind : Kind) → is_integer (class_of kind) ≡ true → IsInteger kind
integer_kind None integer = absurd (true≢false (sym integer))
integer_kind (Some kind) integer = integer_as (is_pointer kind) integer

no_result : (kind : Kind) → is_void kind ≡ true → kind ≡ None
no_result None void = refl
no_result (Some kind) void = absurd (true≢false (sym void))

-- expressions in statements
module _ (s : Scope) where
  expression : (e : Expression) → Gives (λ x. (names : Names) → Fits names s → IsWellTyped names x) (typing s e)
  expression e = for_all {F = λ names. Fits names s} (typing s e) (λ names fits. typed_expression names s fits e)

  optionally : (e : Option Expression) → Gives (λ x. (names : Names) → Fits names s → IsOptional names x) (optional s e)
  optionally None = is None (λ names fits. tt)
  optionally (Some e) = behind (typing s e) _ (expression e) λ x value. is (Some x) value

  tested : (names : Names) (x : Expr) → is_void (kind_of x) ≡ false → IsWellTyped names x → IsTest names x
  tested names x some value = (value, is_value (kind_of x) some)

  optional_test : (names : Names) (x : Option Expr) → is_void_test x ≡ false → IsOptional names x → IsOptionalTest names x
  optional_test names None some value = tt
  optional_test names (Some x) some value = tested names x some value

  return_as : (names : Names) (kind : ScalarType) (v : Expr) → IsWellTyped names v × (kind_of v ≡ Some kind) → IsReturned names (Some kind) (Some v)
  return_as names kind v value = ((value.0, subst IsValue (sym value.1) tt), value.1)

  return_value : (result : Kind) (at : ℕ) (x : Operand) → IsKind result → ((names : Names) → Fits names s → IsWellTyped names x.value)
      → Gives (λ v. (names : Names) → Fits names s → IsReturned names result (Some v)) (typed_return result at x)
  return_value None at x type value = broken Mismatch at
  return_value (Some kind) at x type value =
      for_all {F = λ names. Fits names s} (given kind at x) λ names fits.
      weaker (given kind at x) (given_value names kind at x type (value names fits)) (return_as names kind)

-- statements before others
module _ (objects : VarRef → Option Shape) (names : Names) (result : Kind) (c : Enclosing) where
  abbrev Right : Stmt → Type 0
  Right = IsWellFormed objects result names c

  all_before : (ss : List Stmt) (rest : Stmts) → All Right ss → AreWellFormed objects result names c rest → AreWellFormed objects result names c (before ss rest)
  all_before [] rest first others = others
  all_before (x ∷ xs) rest first others = (All-head Right x xs first, all_before xs rest (All-tail Right x xs first) others)

module _ (result : Kind) (type : IsKind result) where
  abbrev GrownStatement : Enclosing → Scope → List LocalTree → Typed Stmt → Type 0
  GrownStatement c = Grown (λ objects names. IsWellFormed objects result names c)

  abbrev GrownStatements : Enclosing → Scope → List LocalTree → Typed Stmts → Type 0
  GrownStatements c = Grown (λ objects names. AreWellFormed objects result names c)

  abbrev GrownChoices : Enclosing → Scope → List LocalTree → Typed Labelled → Type 0
  GrownChoices c = Grown (λ objects names (l : Labelled). HasChoices objects result names c l.choices)

  -- a block in the scope of its declarations
  block_grows : (s : Scope) (c : Enclosing) (ls : List LocalTree) (o : Opened) (r : Typed Stmts) → Opens s ls o → GrownStatements c o.scope o.locals r
      → Gives (GrownStatement c s ls) (just (typed.Block o.declared (before o.statements r.tree)) r.locals)
  block_grows s c ls o r begun inner =
      with_block s ls _ o r begun inner λ objects names others new made good.
      (new, all_before objects (opened objects o.declared names) result c o.statements r.tree (made.statements objects result c) good)

  mutual
    statement_grows : (s : Scope) (c : Enclosing) (ls : List LocalTree) (a : Statement) → Gives (GrownStatement c s ls) (typed_statement result s c ls a)
    -- expressions and blocks
    statement_grows s c ls (tree.Empty at) = with_none s ls _ λ objects names fits. (nothing_new objects names, tt)
    statement_grows s c ls (tree.Evaluate e at) = behind (typing s e) _ (expression s e) λ x value. with_none s ls _ (λ objects. value)
    statement_grows s c ls (tree.Block ds ss at) =
        behind (declarations (opened_in (open_scope s) ls) ds) _ (opened_declarations s (open_scope s) ls ds (λ names fits. fits)) λ o begun.
        behind (typed_statements result o.scope c o.locals ss) _ (statements_grow o.scope c o.locals ss) λ r inner.
        block_grows s c ls o r begun inner
    -- jumps
    statement_grows s c ls (tree.Break at) = unless (not (may_break c)) _ _ _ λ may. with_none s ls _ λ objects names fits. not-false (may_break c) may
    statement_grows s c ls (tree.Continue at) = unless (not (may_continue c)) _ _ _ λ may. with_none s ls _ λ objects names fits. not-false (may_continue c) may
    statement_grows s c ls (tree.Return None at) =
        unless (not (is_void result)) _ _ _ λ void. with_none s ls _ λ objects names fits. no_result result (not-false (is_void result) void)
    statement_grows s c ls (tree.Return (Some e) at) =
        behind (typing s e) _ (expression s e) λ x value.
        behind (typed_return result at (operand e x)) _ (return_value s result at (operand e x) type value) λ v good. with_none s ls _ (λ objects. good)
    -- choices
    statement_grows s c ls (tree.If e a at) =
        behind (typing s e) _ (expression s e) λ x test.
        behind (typed_statement result s c ls a) _ (statement_grows s c ls a) λ p inner.
        unless (is_void (kind_of x)) _ _ _ λ some.
        with_one s ls _ p inner λ objects names fits good. (tested s names x some (test names fits), good, (nothing_new objects names, tt))
    statement_grows s c ls (tree.IfElse e a b at) =
        behind (typing s e) _ (expression s e) λ x test.
        behind (typed_statement result s c ls a) _ (statement_grows s c ls a) λ p first.
        behind (typed_statement result s c p.locals b) _ (statement_grows s c p.locals b) λ q second.
        unless (is_void (kind_of x)) _ _ _ λ some.
        with_two s ls _ p q first second λ objects names fits good other. (tested s names x some (test names fits), good, other)
    statement_grows s c ls (tree.Switch e cs place at) =
        behind (typing s e) _ (expression s e) λ x value.
        behind (typed_choices result s (in_switch c) ls cs) _ (choices_grow s (in_switch c) ls cs) λ r inner.
        unless (repeats_label r.tree.choices) _ _ _ λ once.
        unless r.tree.pointer _ _ _ λ words.
        unless (not (is_integer (class_of (kind_of x)))) _ _ _ λ integer.
        with_one s ls _ r inner λ objects names fits good. (value names fits, integer_kind (kind_of x) (not-false _ integer), once, good)
    -- loops
    statement_grows s c ls (tree.While e a at) =
        behind (typing s e) _ (expression s e) λ x test.
        behind (typed_statement result s around.Loop ls a) _ (statement_grows s around.Loop ls a) λ p inner.
        unless (is_void (kind_of x)) _ _ _ λ some.
        with_one s ls _ p inner λ objects names fits good. (tested s names x some (test names fits), good)
    statement_grows s c ls (tree.DoWhile a e at) =
        behind (typed_statement result s around.Loop ls a) _ (statement_grows s around.Loop ls a) λ p inner.
        behind (typing s e) _ (expression s e) λ x test.
        unless (is_void (kind_of x)) _ _ _ λ some.
        with_one s ls _ p inner λ objects names fits good. (good, tested s names x some (test names fits))
    statement_grows s c ls (tree.For first test third a at) =
        behind (optional s first) _ (optionally s first) λ x one.
        behind (optional s test) _ (optionally s test) λ y two.
        behind (optional s third) _ (optionally s third) λ z three.
        behind (typed_statement result s around.Loop ls a) _ (statement_grows s around.Loop ls a) λ p inner.
        unless (is_void_test y) _ _ _ λ some.
        with_one s ls _ p inner λ objects names fits good. (one names fits, optional_test s names y some (two names fits), three names fits, good)

    statements_grow : (s : Scope) (c : Enclosing) (ls : List LocalTree) (ss : Statements) → Gives (GrownStatements c s ls) (typed_statements result s c ls ss)
    statements_grow s c ls no_statement = with_none s ls _ λ objects names fits. tt
    statements_grow s c ls (statement a rest) =
        behind (typed_statement result s c ls a) _ (statement_grows s c ls a) λ p first.
        behind (typed_statements result s c p.locals rest) _ (statements_grow s c p.locals rest) λ r others.
        with_two s ls _ p r first others λ objects names fits good good_rest. (good, good_rest)

    choices_grow : (s : Scope) (c : Enclosing) (ls : List LocalTree) (cs : tree.Choices) → Gives (GrownChoices c s ls) (typed_choices result s c ls cs)
    choices_grow s c ls no_choice = with_none s ls _ λ objects names fits. tt
    choices_grow s c ls (case_label e rest) =
        behind (constant_typing s e) _ (anything _) λ x label.
        behind (word_at e x) _ (anything _) λ w word.
        behind (typed_choices result s c ls rest) _ (choices_grow s c ls rest) λ r others.
        with_one s ls _ r others λ objects names fits good. good
    choices_grow s c ls (default_label rest) =
        behind (typed_choices result s c ls rest) _ (choices_grow s c ls rest) λ r others. with_one s ls _ r others λ objects names fits good. good
    choices_grow s c ls (chosen a rest) =
        behind (typed_statement result s c ls a) _ (statement_grows s c ls a) λ p first.
        behind (typed_choices result s c p.locals rest) _ (choices_grow s c p.locals rest) λ r others.
        with_two s ls _ p r first others λ objects names fits good good_rest. (good, good_rest)

-- the block of a body behind the parameters, which its names know already
abbrev pub IsBody : Kind → Scope → List LocalTree → Typed Stmt → Type 0
IsBody result = Grown (λ objects names. IsWellFormed objects result names around.Body)

pub well_formed_body : (result : Kind) (s : Scope) (ls : List LocalTree) (ds : List DeclarationTree) (ss : Statements) → IsKind result
    → Gives (IsBody result s ls) (typed_body result s ls ds ss)
well_formed_body result s ls ds ss type =
    behind (declarations (opened_in s ls) ds) _ (opened_declarations s s ls ds (λ names fits. fits)) λ o begun.
    behind (typed_statements result o.scope around.Body o.locals ss) _ (statements_grow result type o.scope around.Body o.locals ss) λ r inner.
    block_grows result type s around.Body ls o r begun inner
