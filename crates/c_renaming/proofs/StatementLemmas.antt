-- The rules of statements commute with renaming.
use Rattle.std.proofs.Common.{◌≡◌, ℕ, ◌||◌, ◌==◌, not, Bool, true, false, if◌then◌else◌, List, [], ◌∷◌, ◌++◌, length, map, is_some, option_map, Option, Some, None, refl, sym, ap, ◌∙◌, subst}
use Rattle.std.proofs.lemmas.List.{length-map, map-append}
use Rattle.c_tree.specs.declared.program.Base.{Base}
use Rattle.c_tree.specs.declared.program.VarRef.{VarRef}
use Rattle.c_tree.specs.declared.program.VarRef.TheVariants as refs
use Rattle.c_tree.specs.declared.enclosing.Enclosing.{Enclosing}
use Rattle.c_tree.specs.declared.enclosing.Enclosing.TheVariants as around
use Rattle.c_tree.specs.c_syntax.SyntaxTree as tree
use Rattle.c_tree.specs.c_syntax.SyntaxTree.{Expression, ItemTree, ItemForm, InitialTree, DeclarationTree, Statement, Statements, no_statement, statement, no_choice, case_label, default_label, chosen}
use Rattle.c_tree.specs.TypedTree.{Kind, Expr, Stmt, Stmts, Choices}
use Rattle.c_tree.specs.TypedTree as code
use Rattle.c_tree.specs.Eval.{kind_of, points}
use Rattle.c_tree.specs.Labels.{may_break, may_continue, in_switch, has_case, has_default, repeats_label}
use Rattle.c_rules.specs.declared.fault.Rule.TheVariants.{Redeclared, Mismatch, Misplaced}
use Rattle.c_rules.specs.declared.meaning.Declared.{Declared}
use Rattle.c_rules.specs.declared.meaning.Declared.TheVariants as declares
use Rattle.c_rules.specs.declared.meaning.Meaning.TheVariants as meanings
use Rattle.c_rules.specs.declared.meaning.ObjectType.{ObjectType}
use Rattle.c_rules.specs.declared.meaning.ObjectType.TheVariants.{Single, Array}
use Rattle.c_rules.specs.Outcome.{Is, breaks}
use Rattle.c_rules.specs.Kinds.{class_of, is_void}
use Rattle.c_rules.specs.Operands.{Operand, given, is_integer}
use Rattle.c_rules.specs.Scopes.{Scope, open_scope, declare, is_taken}
use Rattle.c_rules.specs.Typing.{plain, typing, operand, constant_typing, word_at}
use Rattle.c_rules.specs.Declarations.{declarator, entries, array_list}
use Rattle.c_rules.specs.Statements.{LocalTree, Initialiser, Absent, Value, Listed, Misbraced, all_typed, is_array, initialiser, ObjectStart, started, Opened, with_named_object, declared_as, item_as, block_item, block_items, declarations, Typed, just, before, optional, is_void_test, typed_return, Labelled, behind_case, opened_in, typed_statement, typed_statements, typed_choices, typed_body}
use Rattle.c_renaming.specs.Renaming.{Renaming, IsFaithful}
use Rattle.c_renaming.specs.RenamedTrees.{renamed_expression, renamed_item_form, renamed_initial, renamed_item, renamed_declaration, renamed_optional, renamed_statement, renamed_statements, renamed_choices}
use Rattle.c_renaming.specs.RenamedPrograms.{renamed_value, renamed_optional_value, renamed_code, renamed_codes, renamed_cases}
use Rattle.c_renaming.proofs.OutcomeLemmas.{renamed_outcome, IsScopeRenamed, renamed_operand, bind_follows}
use Rattle.c_renaming.proofs.RelatedOutcomes.{broken_renamed, AreRelated, then_related, equal_related, related_equal, broken_related, same_value}
use Rattle.c_renaming.proofs.OperandLemmas.{kind_renamed, given_renamed}
use Rattle.c_renaming.proofs.TypingLemmas.{operand_renamed, plain_renamed, word_at_renamed, open_renamed, declare_renamed, is_taken_renamed, typing_renamed, constant_typing_renamed}
use Rattle.c_renaming.proofs.DeclarationLemmas.{renamed_entry, array_list_renamed, entries_renamed, declarator_renamed}

abbrev pub renamed_local : Renaming → LocalTree → LocalTree
renamed_local r l = record { name = r.name l.name; object_type = l.object_type; values = l.values }

abbrev renamed_initialiser : Renaming → Initialiser → Initialiser
renamed_initialiser r Absent = Absent
renamed_initialiser r (Value x) = Value (renamed_operand r x)
renamed_initialiser r (Listed es) = Listed (map (renamed_entry r) es)
renamed_initialiser r Misbraced = Misbraced

abbrev renamed_start : Renaming → ObjectStart → ObjectStart
renamed_start r start = record { values = start.values; statements = map (renamed_code r) start.statements }

abbrev pub renamed_typed : {A B : Type 0} → Renaming → (A → B) → Typed A → Typed B
renamed_typed r f typed = record { tree = f typed.tree; locals = map (renamed_local r) typed.locals }

abbrev renamed_labelled : Renaming → Labelled → Labelled
renamed_labelled r l = record { choices = renamed_cases r l.choices; pointer = l.pointer }

-- what declarations make, in scopes that are one renamed
pub record IsOpenedRenamed (r : Renaming) (o q : Opened) : Type 0 where
  pub scope : IsScopeRenamed r o.scope q.scope
  pub locals : q.locals ≡ map (renamed_local r) o.locals
  pub declared : q.declared ≡ o.declared
  pub statements : q.statements ≡ map (renamed_code r) o.statements

module _ (r : Renaming) where
  -- ---- what needs no scope

  array_renamed : (form : ItemForm) → is_array (renamed_item_form r form) ≡ is_array form
  array_renamed tree.Plain = refl
  array_renamed (tree.Array length) = refl
  array_renamed (tree.Parameters ps) = refl

  pub given_initial : (i : Option InitialTree) → is_some (option_map (renamed_initial r) i) ≡ is_some i
  given_initial None = refl
  given_initial (Some i) = refl

  before_renamed : (ss : List Stmt) (rest : Stmts) → before (map (renamed_code r) ss) (renamed_codes r rest) ≡ renamed_codes r (before ss rest)
  before_renamed [] rest = refl
  before_renamed (s ∷ ss) rest = ap (code.both (renamed_code r s)) (before_renamed ss rest)

  void_test_renamed : (e : Option Expr) → is_void_test (renamed_optional_value r e) ≡ is_void_test e
  void_test_renamed None = refl
  void_test_renamed (Some e) = ap is_void (kind_renamed r e)

  has_case_renamed : (w : ℕ) (cs : Choices) → has_case w (renamed_cases r cs) ≡ has_case w cs
  has_case_renamed w code.no_more = refl
  has_case_renamed w (code.case v rest) = ap (λ b. w == v || b) (has_case_renamed w rest)
  has_case_renamed w (code.default rest) = has_case_renamed w rest
  has_case_renamed w (code.body s rest) = has_case_renamed w rest

  has_default_renamed : (cs : Choices) → has_default (renamed_cases r cs) ≡ has_default cs
  has_default_renamed code.no_more = refl
  has_default_renamed (code.case v rest) = has_default_renamed rest
  has_default_renamed (code.default rest) = refl
  has_default_renamed (code.body s rest) = has_default_renamed rest

  repeats_label_renamed : (cs : Choices) → repeats_label (renamed_cases r cs) ≡ repeats_label cs
  repeats_label_renamed code.no_more = refl
  repeats_label_renamed (code.case w rest) = λ i. has_case_renamed w rest i || repeats_label_renamed rest i
  repeats_label_renamed (code.default rest) = λ i. has_default_renamed rest i || repeats_label_renamed rest i
  repeats_label_renamed (code.body s rest) = repeats_label_renamed rest

  -- ---- starts of objects

  started_renamed : (v : VarRef) (type : ObjectType) (at : ℕ) (i : Initialiser) → started v type (r.place at) (renamed_initialiser r i) ≡ renamed_outcome r.place (renamed_start r) (started v type at i)
  started_renamed v type at Absent = refl
  started_renamed v (Single kind) at (Value x) =
      bind_follows r.place (renamed_value r) (renamed_start r) (given kind at x) (given kind (r.place at) (renamed_operand r x)) _ _ (given_renamed r kind at x) (λ w. refl)
  started_renamed v (Array kind n) at (Value x) = refl
  started_renamed v (Single kind) at (Listed es) = refl
  started_renamed v (Array kind n) at (Listed es) =
      bind_follows r.place same_value (renamed_start r) (array_list kind n at es) (array_list kind n (r.place at) (map (renamed_entry r) es)) _ _ (array_list_renamed r kind n at es) (λ is. refl)
  started_renamed v (Single kind) at Misbraced = refl
  started_renamed v (Array kind n) at Misbraced = refl

  typed_return_renamed : (result : Kind) (at : ℕ) (x : Operand) → typed_return result (r.place at) (renamed_operand r x) ≡ renamed_outcome r.place (renamed_value r) (typed_return result at x)
  typed_return_renamed None at x = refl
  typed_return_renamed (Some kind) at x = given_renamed r kind at x

  module _ (faithful : IsFaithful r) where
    all_typed_renamed : (s t : Scope) (es : List Expression) → IsScopeRenamed r s t → all_typed t (map (renamed_expression r) es) ≡ renamed_outcome r.place (renamed_initialiser r) (all_typed s es)
    all_typed_renamed s t [] same = refl
    all_typed_renamed s t (e ∷ es) same =
        bind_follows r.place (renamed_value r) (renamed_initialiser r) (typing s e) (typing t (renamed_expression r e)) _ _ (typing_renamed faithful same e) (λ x. all_typed_renamed s t es same)

    initialiser_renamed : (s t : Scope) (array : Bool) (i : Option InitialTree) → IsScopeRenamed r s t
        → initialiser t array (option_map (renamed_initial r) i) ≡ renamed_outcome r.place (renamed_initialiser r) (initialiser s array i)
    initialiser_renamed s t array None same = refl
    initialiser_renamed s t array (Some (tree.One e)) same =
        bind_follows r.place (renamed_value r) (renamed_initialiser r) (typing s e) (typing t (renamed_expression r e)) _ _ (typing_renamed faithful same e) (λ x.
        ap (λ o. Is (Value o)) (operand_renamed r e x))
    initialiser_renamed s t true (Some (tree.Braced es at)) same =
        bind_follows r.place (map (renamed_entry r)) (renamed_initialiser r) (entries s es) (entries t (map (renamed_expression r) es)) _ _ (entries_renamed r faithful s t same es) (λ xs. refl)
    initialiser_renamed s t false (Some (tree.Braced es at)) same = all_typed_renamed s t es same

    -- ---- declarations of blocks

    with_object_renamed : (s t : Scope) (name : List ℕ) (v : VarRef) (d : Declared) → IsScopeRenamed r s t → IsScopeRenamed r (with_named_object s name v d) (with_named_object t (r.name name) v d)
    with_object_renamed s t name v declares.Untyped same = same
    with_object_renamed s t name v (declares.Function type) same = same
    with_object_renamed s t name v (declares.Object type) same =
        subst (λ b. IsScopeRenamed r (with_named_object s name v (declares.Object type)) (if b then t else declare t (r.name name) (meanings.Object v type))) (sym (is_taken_renamed faithful same name)) (by (is_taken s name))
      where
        by : (b : Bool) → IsScopeRenamed r (if b then s else declare s name (meanings.Object v type)) (if b then t else declare t (r.name name) (meanings.Object v type))
        by true = same
        by false = declare_renamed faithful same name (meanings.Object v type)

    declared_as_renamed : (o q : Opened) (s t : Scope) (v : VarRef) (d : Declared) (item : ItemTree) (i : Initialiser) → IsOpenedRenamed r o q → IsScopeRenamed r s t
        → AreRelated r.place (IsOpenedRenamed r) (declared_as o s v d item i) (declared_as q t v d (renamed_item r item) (renamed_initialiser r i))
    declared_as_renamed o q s t v declares.Untyped item i opened same = (refl, refl)
    declared_as_renamed o q s t v (declares.Function type) item i opened same =
        broken_related r.place (IsOpenedRenamed r) Mismatch item.at (is_some item.initial) (is_some (option_map (renamed_initial r) item.initial)) _ _ (given_initial item.initial) (refl, refl)
    declared_as_renamed o q s t v (declares.Object type) item i opened same =
        equal_related r.place (renamed_start r) (IsOpenedRenamed r) (started v type item.at i) _ _ _ (started_renamed v type item.at i) (λ start. record {
          scope = same;
          locals = ap (λ l. l ++ record { name = r.name item.name; object_type = type; values = start.values } ∷ []) opened.locals
              ∙ sym (map-append (renamed_local r) o.locals (record { name = item.name; object_type = type; values = start.values } ∷ []));
          declared = ap (λ l. l ++ v ∷ []) opened.declared;
          statements = ap (λ l. l ++ map (renamed_code r) start.statements) opened.statements ∙ sym (map-append (renamed_code r) o.statements start.statements);
        })

    item_as_renamed : (o q : Opened) (v : VarRef) (b : Base) (item : ItemTree) → IsOpenedRenamed r o q
        → AreRelated r.place (IsOpenedRenamed r) (item_as o v b item) (item_as q v b (renamed_item r item))
    item_as_renamed o q v b item opened =
        equal_related r.place same_value (IsOpenedRenamed r) (declarator o.scope b item.form item.stars item.initial) _ _ _
        (declarator_renamed r faithful o.scope q.scope b item.form item.stars item.initial opened.scope) (λ d.
        let scope = with_object_renamed o.scope q.scope item.name v d opened.scope in
        equal_related r.place (renamed_initialiser r) (IsOpenedRenamed r) (initialiser (with_named_object o.scope item.name v d) (is_array item.form) item.initial) _ _ _
        (ap (λ a. initialiser (with_named_object q.scope (r.name item.name) v d) a (option_map (renamed_initial r) item.initial)) (array_renamed item.form)
        ∙ initialiser_renamed (with_named_object o.scope item.name v d) (with_named_object q.scope (r.name item.name) v d) (is_array item.form) item.initial scope)
        (λ i. broken_related r.place (IsOpenedRenamed r) Redeclared item.at (is_taken o.scope item.name) (is_taken q.scope (r.name item.name)) _ _
        (is_taken_renamed faithful opened.scope item.name)
        (declared_as_renamed o q (with_named_object o.scope item.name v d) (with_named_object q.scope (r.name item.name) v d) v d item i opened scope)))

    block_item_renamed : (o q : Opened) (b : Base) (item : ItemTree) → IsOpenedRenamed r o q
        → AreRelated r.place (IsOpenedRenamed r) (block_item o b item) (block_item q b (renamed_item r item))
    block_item_renamed o q b item opened =
        subst (λ n. AreRelated r.place (IsOpenedRenamed r) (block_item o b item) (item_as q (refs.Local n) b (renamed_item r item)))
        (sym (ap length opened.locals ∙ length-map o.locals (renamed_local r)))
        (item_as_renamed o q (refs.Local (length o.locals)) b item opened)

    block_items_renamed : (o q : Opened) (b : Base) (items : List ItemTree) → IsOpenedRenamed r o q
        → AreRelated r.place (IsOpenedRenamed r) (block_items o b items) (block_items q b (map (renamed_item r) items))
    block_items_renamed o q b [] opened = opened
    block_items_renamed o q b (item ∷ items) opened =
        then_related r.place (IsOpenedRenamed r) (IsOpenedRenamed r) (block_item o b item) _ _ _ (block_item_renamed o q b item opened) (λ p u opened. block_items_renamed p u b items opened)

    pub declarations_renamed : (o q : Opened) (ds : List DeclarationTree) → IsOpenedRenamed r o q
        → AreRelated r.place (IsOpenedRenamed r) (declarations o ds) (declarations q (map (renamed_declaration r) ds))
    declarations_renamed o q [] opened = opened
    declarations_renamed o q (d ∷ ds) opened =
        equal_related r.place same_value (IsOpenedRenamed r) (plain d.specs) _ _ _ (plain_renamed r d.specs) (λ b.
        then_related r.place (IsOpenedRenamed r) (IsOpenedRenamed r) (block_items o b d.items) _ _ _ (block_items_renamed o q b d.items opened) (λ p u opened.
        declarations_renamed p u ds opened))

    -- ---- statements

    optional_renamed : (s t : Scope) (e : Option Expression) → IsScopeRenamed r s t → optional t (renamed_optional r e) ≡ renamed_outcome r.place (renamed_optional_value r) (optional s e)
    optional_renamed s t None same = refl
    optional_renamed s t (Some e) same =
        bind_follows r.place (renamed_value r) (renamed_optional_value r) (typing s e) (typing t (renamed_expression r e)) _ _ (typing_renamed faithful same e) (λ x. refl)

    opened_in_renamed : (s t : Scope) (ls : List LocalTree) → IsScopeRenamed r s t → IsOpenedRenamed r (opened_in s ls) (opened_in t (map (renamed_local r) ls))
    opened_in_renamed s t ls same = record { scope = same; locals = refl; declared = refl; statements = refl }

    module _ (result : Kind) where
      block_renamed : (o q : Opened) → IsOpenedRenamed r o q → (ss : Typed Stmts)
          → just (code.Block q.declared (before q.statements (renamed_codes r ss.tree))) (map (renamed_local r) ss.locals)
          ≡ renamed_outcome r.place (renamed_typed r (renamed_code r)) (just (code.Block o.declared (before o.statements ss.tree)) ss.locals)
      block_renamed o q opened ss =
          ap (λ d. just (code.Block d (before q.statements (renamed_codes r ss.tree))) (map (renamed_local r) ss.locals)) opened.declared
          ∙ ap (λ c. just (code.Block o.declared (before c (renamed_codes r ss.tree))) (map (renamed_local r) ss.locals)) opened.statements
          ∙ ap (λ c. just (code.Block o.declared c) (map (renamed_local r) ss.locals)) (before_renamed o.statements ss.tree)

      tested : (x : Expr) (at : ℕ) (a : Stmt) (ls : List LocalTree)
          → breaks (is_void (kind_of (renamed_value r x))) Mismatch (r.place at) (just (renamed_code r a) (map (renamed_local r) ls))
          ≡ renamed_outcome r.place (renamed_typed r (renamed_code r)) (breaks (is_void (kind_of x)) Mismatch at (just a ls))
      tested x at a ls =
          broken_renamed r.place (renamed_typed r (renamed_code r)) Mismatch at (is_void (kind_of x)) (is_void (kind_of (renamed_value r x))) (just a ls) _ (ap is_void (kind_renamed r x)) refl

      mutual
        pub typed_statement_renamed : (s t : Scope) (c : Enclosing) (ls : List LocalTree) (a : Statement) → IsScopeRenamed r s t
            → typed_statement result t c (map (renamed_local r) ls) (renamed_statement r a) ≡ renamed_outcome r.place (renamed_typed r (renamed_code r)) (typed_statement result s c ls a)
        typed_statement_renamed s t c ls (tree.Empty at) same = refl
        typed_statement_renamed s t c ls (tree.Evaluate e at) same =
            bind_follows r.place (renamed_value r) (renamed_typed r (renamed_code r)) (typing s e) _ _ _ (typing_renamed faithful same e) (λ x. refl)
        typed_statement_renamed s t c ls (tree.Block ds ss at) same =
            related_equal r.place (IsOpenedRenamed r) (renamed_typed r (renamed_code r)) (declarations (opened_in (open_scope s) ls) ds) _ _ _
            (declarations_renamed (opened_in (open_scope s) ls) (opened_in (open_scope t) (map (renamed_local r) ls)) ds (opened_in_renamed (open_scope s) (open_scope t) ls (open_renamed same)))
            (λ o q opened.
            bind_follows r.place (renamed_typed r (renamed_codes r)) (renamed_typed r (renamed_code r)) (typed_statements result o.scope c o.locals ss) _ _ _
            (ap (λ l. typed_statements result q.scope c l (renamed_statements r ss)) opened.locals ∙ typed_statements_renamed o.scope q.scope c o.locals ss opened.scope)
            (λ p. block_renamed o q opened p))
        typed_statement_renamed s t c ls (tree.Break at) same = broken_renamed r.place (renamed_typed r (renamed_code r)) Misplaced at (not (may_break c)) (not (may_break c)) _ _ refl refl
        typed_statement_renamed s t c ls (tree.Continue at) same = broken_renamed r.place (renamed_typed r (renamed_code r)) Misplaced at (not (may_continue c)) (not (may_continue c)) _ _ refl refl
        typed_statement_renamed s t c ls (tree.Return None at) same = broken_renamed r.place (renamed_typed r (renamed_code r)) Mismatch at (not (is_void result)) (not (is_void result)) _ _ refl refl
        typed_statement_renamed s t c ls (tree.Return (Some e) at) same =
            bind_follows r.place (renamed_value r) (renamed_typed r (renamed_code r)) (typing s e) _ _ _ (typing_renamed faithful same e) (λ x.
            bind_follows r.place (renamed_value r) (renamed_typed r (renamed_code r)) (typed_return result at (operand e x)) _ _ _
            (ap (typed_return result (r.place at)) (operand_renamed r e x) ∙ typed_return_renamed result at (operand e x)) (λ v. refl))
        typed_statement_renamed s t c ls (tree.If e a at) same =
            bind_follows r.place (renamed_value r) (renamed_typed r (renamed_code r)) (typing s e) _ _ _ (typing_renamed faithful same e) (λ x.
            bind_follows r.place (renamed_typed r (renamed_code r)) (renamed_typed r (renamed_code r)) (typed_statement result s c ls a) _ _ _ (typed_statement_renamed s t c ls a same) (λ p.
            tested x at (code.If x p.tree (code.Block [] code.done)) p.locals))
        typed_statement_renamed s t c ls (tree.IfElse e a b at) same =
            bind_follows r.place (renamed_value r) (renamed_typed r (renamed_code r)) (typing s e) _ _ _ (typing_renamed faithful same e) (λ x.
            bind_follows r.place (renamed_typed r (renamed_code r)) (renamed_typed r (renamed_code r)) (typed_statement result s c ls a) _ _ _ (typed_statement_renamed s t c ls a same) (λ p.
            bind_follows r.place (renamed_typed r (renamed_code r)) (renamed_typed r (renamed_code r)) (typed_statement result s c p.locals b) _ _ _ (typed_statement_renamed s t c p.locals b same) (λ q.
            tested x at (code.If x p.tree q.tree) q.locals)))
        typed_statement_renamed s t c ls (tree.Switch e cs place at) same =
            bind_follows r.place (renamed_value r) (renamed_typed r (renamed_code r)) (typing s e) _ _ _ (typing_renamed faithful same e) (λ x.
            bind_follows r.place (renamed_typed r (renamed_labelled r)) (renamed_typed r (renamed_code r)) (typed_choices result s (in_switch c) ls cs) _ _ _ (typed_choices_renamed s t (in_switch c) ls cs same) (λ p.
            broken_renamed r.place (renamed_typed r (renamed_code r)) Redeclared place (repeats_label p.tree.choices) (repeats_label (renamed_cases r p.tree.choices)) _ _ (repeats_label_renamed p.tree.choices)
            (broken_renamed r.place (renamed_typed r (renamed_code r)) Mismatch place p.tree.pointer p.tree.pointer _ _ refl
            (broken_renamed r.place (renamed_typed r (renamed_code r)) Mismatch at (not (is_integer (class_of (kind_of x)))) (not (is_integer (class_of (kind_of (renamed_value r x))))) _ _
            (ap (λ k. not (is_integer (class_of k))) (kind_renamed r x)) refl))))
        typed_statement_renamed s t c ls (tree.While e a at) same =
            bind_follows r.place (renamed_value r) (renamed_typed r (renamed_code r)) (typing s e) _ _ _ (typing_renamed faithful same e) (λ x.
            bind_follows r.place (renamed_typed r (renamed_code r)) (renamed_typed r (renamed_code r)) (typed_statement result s around.Loop ls a) _ _ _ (typed_statement_renamed s t around.Loop ls a same) (λ p.
            tested x at (code.While x p.tree) p.locals))
        typed_statement_renamed s t c ls (tree.DoWhile a e at) same =
            bind_follows r.place (renamed_typed r (renamed_code r)) (renamed_typed r (renamed_code r)) (typed_statement result s around.Loop ls a) _ _ _ (typed_statement_renamed s t around.Loop ls a same) (λ p.
            bind_follows r.place (renamed_value r) (renamed_typed r (renamed_code r)) (typing s e) _ _ _ (typing_renamed faithful same e) (λ x.
            tested x at (code.Do_while p.tree x) p.locals))
        typed_statement_renamed s t c ls (tree.For first test third a at) same =
            bind_follows r.place (renamed_optional_value r) (renamed_typed r (renamed_code r)) (optional s first) _ _ _ (optional_renamed s t first same) (λ x.
            bind_follows r.place (renamed_optional_value r) (renamed_typed r (renamed_code r)) (optional s test) _ _ _ (optional_renamed s t test same) (λ y.
            bind_follows r.place (renamed_optional_value r) (renamed_typed r (renamed_code r)) (optional s third) _ _ _ (optional_renamed s t third same) (λ z.
            bind_follows r.place (renamed_typed r (renamed_code r)) (renamed_typed r (renamed_code r)) (typed_statement result s around.Loop ls a) _ _ _ (typed_statement_renamed s t around.Loop ls a same) (λ p.
            broken_renamed r.place (renamed_typed r (renamed_code r)) Mismatch at (is_void_test y) (is_void_test (renamed_optional_value r y)) _ _ (void_test_renamed y) refl))))

        pub typed_statements_renamed : (s t : Scope) (c : Enclosing) (ls : List LocalTree) (ss : Statements) → IsScopeRenamed r s t
            → typed_statements result t c (map (renamed_local r) ls) (renamed_statements r ss) ≡ renamed_outcome r.place (renamed_typed r (renamed_codes r)) (typed_statements result s c ls ss)
        typed_statements_renamed s t c ls no_statement same = refl
        typed_statements_renamed s t c ls (statement a rest) same =
            bind_follows r.place (renamed_typed r (renamed_code r)) (renamed_typed r (renamed_codes r)) (typed_statement result s c ls a) _ _ _ (typed_statement_renamed s t c ls a same) (λ p.
            bind_follows r.place (renamed_typed r (renamed_codes r)) (renamed_typed r (renamed_codes r)) (typed_statements result s c p.locals rest) _ _ _ (typed_statements_renamed s t c p.locals rest same) (λ q. refl))

        typed_choices_renamed : (s t : Scope) (c : Enclosing) (ls : List LocalTree) (cs : tree.Choices) → IsScopeRenamed r s t
            → typed_choices result t c (map (renamed_local r) ls) (renamed_choices r cs) ≡ renamed_outcome r.place (renamed_typed r (renamed_labelled r)) (typed_choices result s c ls cs)
        typed_choices_renamed s t c ls no_choice same = refl
        typed_choices_renamed s t c ls (case_label e rest) same =
            bind_follows r.place (renamed_value r) (renamed_typed r (renamed_labelled r)) (constant_typing s e) _ _ _ (constant_typing_renamed faithful same e) (λ x.
            bind_follows r.place same_value (renamed_typed r (renamed_labelled r)) (word_at e x) _ _ _ (word_at_renamed r e x) (λ w.
            bind_follows r.place (renamed_typed r (renamed_labelled r)) (renamed_typed r (renamed_labelled r)) (typed_choices result s c ls rest) _ _ _ (typed_choices_renamed s t c ls rest same) (λ p.
            ap (λ b. Is (behind_case w b (renamed_typed r (renamed_labelled r) p))) (ap points (kind_renamed r x)))))
        typed_choices_renamed s t c ls (default_label rest) same =
            bind_follows r.place (renamed_typed r (renamed_labelled r)) (renamed_typed r (renamed_labelled r)) (typed_choices result s c ls rest) _ _ _ (typed_choices_renamed s t c ls rest same) (λ p. refl)
        typed_choices_renamed s t c ls (chosen a rest) same =
            bind_follows r.place (renamed_typed r (renamed_code r)) (renamed_typed r (renamed_labelled r)) (typed_statement result s c ls a) _ _ _ (typed_statement_renamed s t c ls a same) (λ p.
            bind_follows r.place (renamed_typed r (renamed_labelled r)) (renamed_typed r (renamed_labelled r)) (typed_choices result s c p.locals rest) _ _ _ (typed_choices_renamed s t c p.locals rest same) (λ q. refl))

      pub typed_body_renamed : (s t : Scope) (ls : List LocalTree) (ds : List DeclarationTree) (ss : Statements) → IsScopeRenamed r s t
          → typed_body result t (map (renamed_local r) ls) (map (renamed_declaration r) ds) (renamed_statements r ss) ≡ renamed_outcome r.place (renamed_typed r (renamed_code r)) (typed_body result s ls ds ss)
      typed_body_renamed s t ls ds ss same =
          related_equal r.place (IsOpenedRenamed r) (renamed_typed r (renamed_code r)) (declarations (opened_in s ls) ds) _ _ _
          (declarations_renamed (opened_in s ls) (opened_in t (map (renamed_local r) ls)) ds (opened_in_renamed s t ls same))
          (λ o q opened.
          bind_follows r.place (renamed_typed r (renamed_codes r)) (renamed_typed r (renamed_code r)) (typed_statements result o.scope around.Body o.locals ss) _ _ _
          (ap (λ l. typed_statements result q.scope around.Body l (renamed_statements r ss)) opened.locals ∙ typed_statements_renamed o.scope q.scope around.Body o.locals ss opened.scope)
          (λ p. block_renamed o q opened p))
