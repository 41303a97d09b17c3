-- The walk over declarations finds what their rules find.
use Rattle.std.proofs.Common.{ℕ, Bool, true, false, List, [], ◌∷◌, length, is_some, is_none, Option, Some, None, refl}
use Rattle.c_tree.specs.declared.program.Base.{Base}
use Rattle.c_tree.specs.declared.program.VarRef.{VarRef}
use Rattle.c_tree.specs.declared.program.VarRef.TheVariants as refs
use Rattle.c_tree.specs.c_syntax.SyntaxTree as tree
use Rattle.c_tree.specs.c_syntax.SyntaxTree.{Expression, ArrayMark, ParameterTree, ItemForm, InitialTree, ItemTree, DeclarationTree}
use Rattle.c_rules.specs.declared.fault.Rule.TheVariants.{Redeclared, NotConstant}
use Rattle.c_rules.specs.declared.local.Naming.{Naming}
use Rattle.c_rules.specs.declared.local.Naming.TheVariants.{Free}
use Rattle.c_rules.specs.declared.meaning.Declared.{Declared}
use Rattle.c_rules.specs.declared.meaning.Declared.TheVariants as declares
use Rattle.c_rules.specs.Outcome.{breaks, there_or}
use Rattle.c_rules.specs.Scopes.{Scope, open_scope, is_taken}
use Rattle.c_rules.specs.Typing.{plain, typing, constant_typing, word_at}
use Rattle.c_rules.specs.Declarations.{length_within, typed_length, parameter_kind, is_bad_length, is_name_taken, parameter, with_single, parameters, declarator, static_value, entry, entries}
use Rattle.c_rules.specs.Statements.{Initialiser, initialiser, all_typed, is_array, started, Opened, with_named_object, placed, declared_as, block_item, block_items, declarations}
use Rattle.c_rules.specs.Visits.{visit}
use Rattle.c_rules.specs.ExpressionWalk.{plain_rules, visits, constant_visits}
use Rattle.c_rules.specs.DeclarationWalk.{length_visits, parameter_rules, parameter_visits, parameters_visits, declarator_visits, entry_visits, entries_visits, values_visits, initial_visits, block_item_rules, block_declared_visits, block_item_visits, block_items_visits, declarations_visits}
use Rattle.c_rules.proofs.Walked.Finding.{Finds, joined, followed, of_part, of_parts}
use Rattle.c_rules.proofs.Walked.MoreMismatching.{started_only}
use Rattle.c_rules.proofs.Walked.Nodes.{mapped, mapped_both, followed_by, two_rules_or_none, untyped, misplaced, redeclared_or}
use Rattle.c_rules.proofs.Walked.ExpressionNodes.{plain_find}
use Rattle.c_rules.proofs.Walked.ExpressionsWalked.{visits_find, known_find, constant_find}

module _ (s : Scope) where
  typed_length_find : (e : Expression) → Finds (constant_visits s e) (typed_length s e)
  typed_length_find e = mapped_both (constant_visits s e) (constant_typing s e) (word_at e) (λ x w. length_within w) (constant_find s e)

  -- parameters
  length_find : (mark : ArrayMark) → Finds (length_visits s mark) (is_bad_length s mark)
  length_find None = refl
  length_find (Some None) = refl
  length_find (Some (Some e)) = mapped (constant_visits s e) (typed_length s e) is_none (typed_length_find e)

  pub parameter_find : (naming : Naming) (p : ParameterTree) → Finds (parameter_visits s naming p) (parameter s naming p)
  parameter_find naming p = of_parts p.specs.at (visit p.specs.at (plain_rules p.specs) ∷ []) (length_visits s p.array) (plain p.specs) (is_bad_length s p.array)
      (parameter_rules s naming p) _ (plain_find p.specs) (length_find p.array)
      (λ b bad. two_rules_or_none p.specs.at (is_name_taken s p.name) _ (parameter_kind b p))

pub parameters_find : (s : Scope) (naming : Naming) (ps : List ParameterTree) → Finds (parameters_visits s naming ps) (parameters s naming ps)
parameters_find s naming [] = refl
parameters_find s naming (p ∷ ps) = followed_by (parameter_visits s naming p)
    (λ kind. parameters_visits (with_single s p.name (refs.Local 0) kind) naming ps) (parameter s naming p)
    (λ kind. parameters (with_single s p.name (refs.Local 0) kind) naming ps) _ (parameter_find s naming p)
    (λ kind. parameters_find (with_single s p.name (refs.Local 0) kind) naming ps)

module _ (s : Scope) where
  -- declarators
  pub declarator_find : (b : Base) (form : ItemForm) (stars : ℕ) (i : Option InitialTree) → Finds (declarator_visits s form) (declarator s b form stars i)
  declarator_find b tree.Plain stars i = refl
  declarator_find b (tree.Array None) stars i = refl
  declarator_find b (tree.Array (Some e)) stars i = mapped (constant_visits s e) (typed_length s e) _ (typed_length_find s e)
  declarator_find b (tree.Parameters ps) stars i =
      mapped (parameters_visits (open_scope s) Free ps.list) (parameters (open_scope s) Free ps.list) _ (parameters_find (open_scope s) Free ps.list)

  -- static initialisers
  pub entry_find : (e : Expression) → Finds (entry_visits s e) (entry s e)
  entry_find (tree.Node form at) = mapped_both (entry_visits s (tree.Node form at)) (constant_typing s (tree.Node form at))
      (λ x. there_or NotConstant at (static_value s (tree.Node form at) x)) _
      (known_find s form at (static_value s (tree.Node form at)))

  pub entries_find : (es : List Expression) → Finds (entries_visits s es) (entries s es)
  entries_find [] = refl
  entries_find (e ∷ es) = joined (entry_visits s e) (entries_visits s es) (entry s e) _ (entry_find e)
      (λ x is. mapped (entries_visits s es) (entries s es) _ (entries_find es))

  -- initialisers in blocks
  values_find : (es : List Expression) → Finds (values_visits s es) (all_typed s es)
  values_find [] = refl
  values_find (e ∷ es) = joined (visits s e) (values_visits s es) (typing s e) _ (visits_find s e) (λ x is. values_find es)

  pub initial_find : (array : Bool) (i : Option InitialTree) → Finds (initial_visits s array i) (initialiser s array i)
  initial_find array None = refl
  initial_find array (Some (tree.One e)) = mapped (visits s e) (typing s e) _ (visits_find s e)
  initial_find true (Some (tree.Braced es at)) = mapped (entries_visits s es) (entries s es) _ (entries_find es)
  initial_find false (Some (tree.Braced es at)) = values_find es

-- an item of a block
item_node : (o : Opened) (r : VarRef) (item : ItemTree) (d : Declared) (i : Initialiser)
    → Finds (visit item.at (block_item_rules o.scope r item d i) ∷ [])
    (breaks (is_taken o.scope item.name) Redeclared item.at (declared_as o (with_named_object o.scope item.name r d) r d item i))
item_node o r item declares.Untyped i = untyped Opened item.at (is_taken o.scope item.name)
item_node o r item (declares.Function type) i = misplaced Opened item.at (is_taken o.scope item.name) (is_some item.initial)
item_node o r item (declares.Object type) i = redeclared_or item.at (is_taken o.scope item.name) (started r type item.at i)
    (placed o (with_named_object o.scope item.name r (declares.Object type)) item.name r type) (started_only item.at r type i)

pub item_find : (o : Opened) (b : Base) (item : ItemTree) → Finds (block_item_visits o.scope (refs.Local (length o.locals)) b item) (block_item o b item)
item_find o b item = followed (declarator_visits o.scope item.form) (block_declared_visits o.scope r item)
    (declarator o.scope b item.form item.stars item.initial) _ (declarator_find o.scope b item.form item.stars item.initial)
    (λ d. of_part item.at (initial_visits (within d) (is_array item.form) item.initial) (initialiser (within d) (is_array item.form) item.initial) _ _
    (initial_find (within d) (is_array item.form) item.initial) (item_node o r item d))
  where
    r : VarRef
    r = refs.Local (length o.locals)

    within : Declared → Scope
    within d = with_named_object o.scope item.name r d

pub items_find : (o : Opened) (b : Base) (items : List ItemTree) → Finds (block_items_visits o b items) (block_items o b items)
items_find o b [] = refl
items_find o b (item ∷ items) = followed (block_item_visits o.scope (refs.Local (length o.locals)) b item) _ (block_item o b item) _ (item_find o b item)
    (λ p. items_find p b items)

-- declarations
pub declarations_find : (o : Opened) (ds : List DeclarationTree) → Finds (declarations_visits o ds) (declarations o ds)
declarations_find o [] = refl
declarations_find o (d ∷ ds) = followed (visit d.specs.at (plain_rules d.specs) ∷ []) _ (plain d.specs) _ (plain_find d.specs) λ b.
    followed (block_items_visits o b d.items) _ (block_items o b d.items) _ (items_find o b d.items) (λ p. declarations_find p ds)
