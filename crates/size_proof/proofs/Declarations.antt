-- What declared objects start with weighs at most 64 for each item that declares one, and for each node of its initialiser.
use Rattle.std.proofs.Common.{◌≡◌, ◌≤◌, ◌+◌, ◌*◌, ◌∷◌, [], ◌++◌, ℕ, Bool, true, false, nat_lt, List, length, is_some, Option, Some, None, refl, arith, sum_by}
use Rattle.std.proofs.lemmas.List.Sums.{sum_by-cons}
use Rattle.c_syntax.specs.Counts.{expression_weight, item_weight, declaration_weight, initial_weight}
use Rattle.c_syntax.specs.SyntaxTree as tree
use Rattle.c_syntax.specs.SyntaxTree.{Expression, ItemTree, InitialTree, DeclarationTree}
use Rattle.c_tree.specs.declared.program.Base.{Base}
use Rattle.c_tree.specs.declared.program.ScalarType.{ScalarType}
use Rattle.c_tree.specs.declared.program.VarRef.{VarRef}
use Rattle.c_tree.specs.declared.program.VarRef.TheVariants as refs
use Rattle.c_tree.specs.TypedTree.{Stmt, Stmts}
use Rattle.c_rules.specs.declared.meaning.Declared.{Declared}
use Rattle.c_rules.specs.declared.meaning.Declared.TheVariants as declares
use Rattle.c_rules.specs.declared.meaning.ObjectType.{ObjectType}
use Rattle.c_rules.specs.declared.meaning.ObjectType.TheVariants.{Single, Array}
use Rattle.c_rules.specs.Declarations.{declarator, Entry, entry, entries, cell, cells, array_list}
use Rattle.c_rules.specs.Operands.{given}
use Rattle.c_rules.specs.Programs.{is_single}
use Rattle.c_rules.specs.Renumbering as renumbering
use Rattle.c_rules.specs.Renumbering.{number_in}
use Rattle.c_rules.specs.Scopes.{Scope, is_taken}
use Rattle.c_rules.specs.Statements.{LocalTree, Initialiser, Absent, Value, Listed, Misbraced, all_typed, initialiser, is_array, ObjectStart, started, Opened}
use Rattle.c_rules.specs.Statements.{with_named_object, declared_as, block_item, block_items, declarations, before}
use Rattle.c_rules.specs.Typing.{plain, typing}
use Rattle.c_rules.proofs.Formed.Context.{Gives, is, broken, behind, unless}
use Rattle.c_rules.proofs.Formed.GivesLemmas.{anything, weaker}
use Rattle.c_rules.proofs.Formed.CountedExpressions.{code}
use Rattle.ir_semantics.specs.SourceWeights.{source_statement_weight, source_statements_weight}
use Rattle.size_proof.proofs.NodeExpressions.{one_node, expression_light}
use Rattle.size_proof.proofs.Objects.{Frame, filling, AreFilled, first_filled, last_filled}
use Rattle.size_proof.proofs.Operators.{weight, given_weighs}
use Rattle.size_proof.proofs.Renumbered.{same_weight}

-- lists have as many values as their text
pub entries_counted : (s : Scope) (es : List Expression) → Gives (λ xs. length xs ≤ sum_by (expression_weight code) es) (entries s es)
entries_counted s [] = is _ (omega arith)
entries_counted s (e ∷ es) =
    behind (entry s e) _ (anything _) λ x first.
    behind (entries s es) _ (entries_counted s es) λ xs others. is _ (omega (arith, others, one_node e, sum_by-cons (expression_weight code) e es))

cells_counted : (kind : ScalarType) (at : ℕ) (es : List Entry) → Gives (λ values. length values ≡ length es) (cells kind at es)
cells_counted kind at [] = is _ refl
cells_counted kind at (e ∷ es) =
    behind (cell kind at e) _ (anything _) λ i first.
    behind (cells kind at es) _ (cells_counted kind at es) λ values others. is _ (omega (arith, others))

pub list_counted : (kind : ScalarType) (n at : ℕ) (es : List Entry) → Gives (λ values. length values ≡ length es) (array_list kind n at es)
list_counted kind n at es = unless (nat_lt n (length es)) _ _ _ λ within. cells_counted kind at es

-- what the start of an object may weigh by its initialiser: an assignment of a value 20 and its conversion 2, a list 9 and each of its values 9
abbrev start_weight : Initialiser → ℕ
start_weight Absent = 0
start_weight (Value x) = weight x.value + 22
start_weight (Listed es) = 9 + 9 * length es
start_weight Misbraced = 0

all_typed_light : (nodes : ℕ) (s : Scope) (es : List Expression) → Gives (λ i. start_weight i ≤ 64 * (1 + nodes)) (all_typed s es)
all_typed_light nodes s [] = is _ (omega arith)
all_typed_light nodes s (e ∷ es) = behind (typing s e) _ (anything _) λ x value. all_typed_light nodes s es

initialiser_light : (s : Scope) (array : Bool) (i : Option InitialTree) → Gives (λ x. start_weight x ≤ 64 * (1 + initial_weight code i)) (initialiser s array i)
initialiser_light s array None = is _ (omega arith)
initialiser_light s array (Some (tree.One e)) = behind (typing s e) _ (expression_light s e) λ x light. is _ (omega (arith, light))
initialiser_light s true (Some (tree.Braced es at)) = behind (entries s es) _ (entries_counted s es) λ xs counted. is _ (omega (arith, counted))
initialiser_light s false (Some (tree.Braced es at)) = all_typed_light _ s es

-- in a function whose objects have these numbers
module _ (frame : Frame) where
  -- what statements weigh there
  abbrev pub weigh : Stmt → ℕ
  weigh a = source_statement_weight frame.objects (renumbering.statement frame.numbers a)

  abbrev pub weigh_all : Stmts → ℕ
  weigh_all ss = source_statements_weight frame.objects (renumbering.statements frame.numbers ss)

  abbrev pub first_weigh : List Stmt → ℕ
  first_weigh [] = 0
  first_weigh (a ∷ rest) = weigh a + first_weigh rest

  first_joined : (ss more : List Stmt) → first_weigh (ss ++ more) ≡ first_weigh ss + first_weigh more
  first_joined [] more = omega arith
  first_joined (a ∷ ss) more = omega (arith, first_joined ss more)

  pub before_weigh : (ss : List Stmt) (rest : Stmts) → weigh_all (before ss rest) ≡ first_weigh ss + weigh_all rest
  before_weigh [] rest = omega arith
  before_weigh (a ∷ ss) rest = omega (arith, before_weigh ss rest)

  -- something of at most this weight, where the arrays up to it are filled by their lists; then so are those before it
  pub record IsBounded (earlier later : List LocalTree) (weight most : ℕ) : Type 0 where
    pub before : AreFilled frame later → AreFilled frame earlier
    pub within : AreFilled frame later → weight ≤ most

  -- the start of an object
  abbrev IsStart : VarRef → ObjectType → ℕ → ObjectStart → Type 0
  IsStart r type most start = (is_single type ≡ false → filling frame (number_in r) ≡ 9 + 9 * length start.values) → first_weigh start.statements ≤ most

  started_light : (r : VarRef) (type : ObjectType) (at : ℕ) (i : Initialiser) → Gives (IsStart r type (start_weight i)) (started r type at i)
  started_light r type at Absent = is _ (λ filled. omega arith)
  started_light r (Single kind) at (Value x) =
      behind (given kind at x) _ (given_weighs kind at x) λ v weighs. is _ (λ filled. omega (arith, weighs, same_weight frame.numbers v))
  started_light r (Single kind) at (Listed es) = broken _ _
  started_light r (Single kind) at Misbraced = broken _ _
  started_light r (Array kind n) at (Value x) = broken _ _
  started_light r (Array kind n) at (Listed es) =
      behind (array_list kind n at es) _ (list_counted kind n at es) λ values counted. is _ (λ filled. omega (arith, counted, filled refl))
  started_light r (Array kind n) at Misbraced = broken _ _

  -- what declarations make, of so many nodes
  abbrev pub Opens : Opened → ℕ → Opened → Type 0
  Opens o nodes p = IsBounded o.locals p.locals (first_weigh p.statements) (first_weigh o.statements + 64 * nodes)

  module _ (o : Opened) (item : ItemTree) where
    declared_light : (s : Scope) (d : Declared) (i : Initialiser)
        → Gives (λ p. IsBounded o.locals p.locals (first_weigh p.statements) (first_weigh o.statements + start_weight i))
        (declared_as o s (refs.Local (length o.locals)) d item i)
    declared_light s declares.Untyped i = broken _ _
    declared_light s (declares.Function type) i = unless (is_some item.initial) _ _ _ λ none. broken _ _
    declared_light s (declares.Object type) i =
        behind (started (refs.Local (length o.locals)) type item.at i) _ (started_light (refs.Local (length o.locals)) type item.at i) λ start light.
        let object : LocalTree = record { name = item.name; object_type = type; values = start.values } in
        is _ (record {
          before = first_filled frame o.locals (object ∷ []);
          within = λ right. omega (arith, light (last_filled frame o.locals object right), first_joined o.statements start.statements);
        })

    item_light : (b : Base) → Gives (Opens o (item_weight code item)) (block_item o b item)
    item_light b =
        let r : VarRef = refs.Local (length o.locals) in
        behind (declarator o.scope b item.form item.stars item.initial) _ (anything _) λ d type.
        behind (initialiser (with_named_object o.scope item.name r d) (is_array item.form) item.initial) _
        (initialiser_light (with_named_object o.scope item.name r d) (is_array item.form) item.initial) λ i light.
        unless (is_taken o.scope item.name) _ _ _ λ free.
        weaker _ (declared_light (with_named_object o.scope item.name r d) d i) λ p bounded.
        record { before = bounded.before; within = λ right. omega (arith, light, bounded.within right) }

  items_light : (b : Base) (o : Opened) (items : List ItemTree) → Gives (Opens o (sum_by (item_weight code) items)) (block_items o b items)
  items_light b o [] = is _ (record { before = λ right. right; within = λ right. omega arith })
  items_light b o (item ∷ items) =
      behind (block_item o b item) _ (item_light o item b) λ p first.
      weaker _ (items_light b p items) λ q others.
      record {
        before = λ right. first.before (others.before right);
        within = λ right. omega (arith, first.within (others.before right), others.within right, sum_by-cons (item_weight code) item items);
      }

  pub declarations_light : (o : Opened) (ds : List DeclarationTree) → Gives (Opens o (sum_by (declaration_weight code) ds)) (declarations o ds)
  declarations_light o [] = is _ (record { before = λ right. right; within = λ right. omega arith })
  declarations_light o (d ∷ ds) =
      behind (plain d.specs) _ (anything _) λ b base.
      behind (block_items o b d.items) _ (items_light b o d.items) λ p first.
      weaker _ (declarations_light p ds) λ q others.
      record {
        before = λ right. first.before (others.before right);
        within = λ right. omega (arith, first.within (others.before right), others.within right, sum_by-cons (declaration_weight code) d ds);
      }
