-- The walk over a whole source finds what the rules of names and types find.
use Rattle.std.proofs.Common.{◌≡◌, ◌||◌, not, List, [], ◌∷◌, length, is_some, Option, Some, None, refl}
use Rattle.c_tree.specs.declared.program.Base.{Base}
use Rattle.c_tree.specs.c_syntax.SyntaxTree as tree
use Rattle.c_tree.specs.c_syntax.SyntaxTree.{SpecsTree, InitialTree, ItemTree, FunctionSyntax, ExternalTree, Defined, UnitTree}
use Rattle.c_rules.specs.declared.fault.Rule.TheVariants.{Redeclared, Mismatch}
use Rattle.c_rules.specs.declared.local.Naming.TheVariants.{Needed}
use Rattle.c_rules.specs.declared.meaning.FunctionType.{FunctionType}
use Rattle.c_rules.specs.declared.meaning.Declared.{Declared}
use Rattle.c_rules.specs.declared.meaning.Declared.TheVariants as declares
use Rattle.c_rules.specs.Outcome.{breaks}
use Rattle.c_rules.specs.Scopes.{Scope, open_scope}
use Rattle.c_rules.specs.Typing.{is_spelling, base_of, spelled}
use Rattle.c_rules.specs.Declarations.{parameters, declarator, entry, entries}
use Rattle.c_rules.specs.Statements.{LocalTree, typed_body}
use Rattle.c_rules.specs.Units.{File, Starts, with_declared, starts, static_list, may_declare, is_twice, declared_as, file_item, file_items, with_parameters, parameter_locals, is_defined, behind_name, function_as, file_function, external, externals, empty_file, typed_unit}
use Rattle.c_rules.specs.Visits.{visit, first, broken_in}
use Rattle.c_rules.specs.DeclarationWalk.{parameters_visits, declarator_visits, entry_visits, entries_visits}
use Rattle.c_rules.specs.StatementWalk.{body_visits}
use Rattle.c_rules.specs.Walk.{spelled_visit, starts_visits, item_rules, item_visits, items_visits, typed_as, defined_visits, function_visits, external_visits, externals_visits, walk}
use Rattle.c_rules.proofs.Walked.Finding.{Finds, followed, of_part}
use Rattle.c_rules.proofs.Walked.MoreMismatching.{static_list_only}
use Rattle.c_rules.proofs.Walked.Nodes.{mapped, followed_twice, named_behind, one_rule, two_rules, untyped, redeclared_or}
use Rattle.c_rules.proofs.Walked.DeclarationsWalked.{parameters_find, declarator_find, entry_find, entries_find}
use Rattle.c_rules.proofs.Walked.StatementsWalked.{body_find}

spelled_find : (specs : SpecsTree) → Finds (spelled_visit specs ∷ []) (spelled specs)
spelled_find specs = one_rule specs.at (not (is_spelling specs.words)) Mismatch (base_of specs.words)

-- an item of file scope
starts_find : (s : Scope) (i : Option InitialTree) → Finds (starts_visits s i) (starts s i)
starts_find s None = refl
starts_find s (Some (tree.One e)) = mapped (entry_visits s e) (entry s e) _ (entry_find s e)
starts_find s (Some (tree.Braced es at)) = mapped (entries_visits s es) (entries s es) _ (entries_find s es)

item_node : (f : File) (item : ItemTree) (d : Declared) (i : Starts)
    → Finds (visit item.at (item_rules f item d i) ∷ [])
    (breaks (not (may_declare f.scope item.name d) || is_twice f item) Redeclared item.at (declared_as f (with_declared f.scope item.name (length f.statics) d) d item i))
item_node f item declares.Untyped i = untyped File item.at (not (may_declare f.scope item.name declares.Untyped) || is_twice f item)
item_node f item (declares.Function type) i =
    two_rules item.at (not (may_declare f.scope item.name (declares.Function type)) || is_twice f item) (is_some item.initial) _
item_node f item (declares.Object type) i =
    redeclared_or item.at (not (may_declare f.scope item.name (declares.Object type)) || is_twice f item) (static_list type item.at i) _ (static_list_only item.at type i)

item_find : (f : File) (b : Base) (item : ItemTree) → Finds (item_visits f b item) (file_item f b item)
item_find f b item = followed (declarator_visits f.scope item.form) _ (declarator f.scope b item.form item.stars item.initial) _
    (declarator_find f.scope b item.form item.stars item.initial) λ d.
    of_part item.at (starts_visits (with_declared f.scope item.name (length f.statics) d) item.initial)
    (starts (with_declared f.scope item.name (length f.statics) d) item.initial) _ _
    (starts_find (with_declared f.scope item.name (length f.statics) d) item.initial) (item_node f item d)

items_find : (f : File) (b : Base) (items : List ItemTree) → Finds (items_visits f b items) (file_items f b items)
items_find f b [] = refl
items_find f b (item ∷ items) = followed (item_visits f b item) _ (file_item f b item) _ (item_find f b item) (λ g. items_find g b items)

-- a function with its body
module _ (file : File) (f : FunctionSyntax) where
  defined_find : (type : FunctionType) → Finds (defined_visits file f type) (function_as file f type)
  defined_find type = named_behind f.at (not (may_declare file.scope f.name (declares.Function type)) || is_defined file f.name)
      (body_visits type.result within locals f.declarations f.statements) (typed_body type.result within locals f.declarations f.statements) _
      (body_find type.result within locals f.declarations f.statements)
    where
      within : Scope
      within = with_parameters (open_scope (behind_name file f.name type).scope) 0 f.parameters.list type.parameters

      locals : List LocalTree
      locals = parameter_locals f.parameters.list type.parameters

  function_find : Finds (function_visits file f) (file_function file f)
  function_find = followed_twice (spelled_visit f.specs ∷ []) (parameters_visits (open_scope file.scope) Needed f.parameters.list)
      (λ b kinds. defined_visits file f (typed_as f b kinds)) (spelled f.specs) (parameters (open_scope file.scope) Needed f.parameters.list)
      (λ b kinds. function_as file f (typed_as f b kinds)) (spelled_find f.specs) (parameters_find (open_scope file.scope) Needed f.parameters.list)
      (λ b kinds. defined_find (typed_as f b kinds))

-- externals
external_find : (file : File) (x : ExternalTree) → Finds (external_visits file x) (external file x)
external_find file (Defined f) = function_find file f
external_find file (tree.Declared d) = followed (spelled_visit d.specs ∷ []) _ (spelled d.specs) _ (spelled_find d.specs) (λ b. items_find file b d.items)

externals_find : (file : File) (xs : UnitTree) → Finds (externals_visits file xs) (externals file xs)
externals_find file [] = refl
externals_find file (x ∷ xs) = followed (external_visits file x) _ (external file x) _ (external_find file x) (λ g. externals_find g xs)

-- a whole source
pub walk_finds : (unit : UnitTree) → first (walk unit) ≡ broken_in (typed_unit unit)
walk_finds unit = externals_find (empty_file unit) unit
