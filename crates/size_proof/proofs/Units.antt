-- The typed program of a source weighs at most 64 for each node of the source.
use Rattle.std.proofs.Common.{◌≡◌, ◌≤◌, ◌+◌, ◌*◌, ◌||◌, ℕ, zero, suc, not, List, [], ◌∷◌, ◌++◌, map, length, slice_get, is_some, Option, Some, None, refl, sym, ap, subst, arith, sum_by}
use Rattle.std.specs.Prelude.{unwrap_or, slice_set}
use Rattle.std.proofs.lemmas.List.Sums.{sum_by-cons}
use Rattle.c_syntax.specs.Counts.{item_weight, initial_weight, external_weight, unit_weight, unit_count}
use Rattle.c_syntax.specs.SyntaxTree as tree
use Rattle.c_syntax.specs.SyntaxTree.{ItemTree, InitialTree, FunctionSyntax, ExternalTree, Defined, UnitTree}
use Rattle.c_tree.specs.declared.program.Base.{Base}
use Rattle.c_tree.specs.declared.program.Initial.{Initial}
use Rattle.c_tree.specs.declared.program.ScalarType.{ScalarType}
use Rattle.c_tree.specs.TypedTree.{Kind, ProgramTree}
use Rattle.c_rules.specs.declared.local.Naming.TheVariants.{Needed}
use Rattle.c_rules.specs.declared.meaning.Declared.{Declared}
use Rattle.c_rules.specs.declared.meaning.Declared.TheVariants as declares
use Rattle.c_rules.specs.declared.meaning.FunctionType.{FunctionType}
use Rattle.c_rules.specs.declared.meaning.ObjectType.{ObjectType}
use Rattle.c_rules.specs.declared.meaning.ObjectType.TheVariants.{Single, Array}
use Rattle.c_rules.specs.Checked.{IsTyped}
use Rattle.c_rules.specs.Declarations.{declarator, parameters, entry, entries, cell, array_list}
use Rattle.c_rules.specs.Kinds.{starred}
use Rattle.c_rules.specs.Programs.{function_tree, object_tree}
use Rattle.c_rules.specs.Scopes.{Scope, open_scope}
use Rattle.c_rules.specs.Statements.{typed_body}
use Rattle.c_rules.specs.Typing.{spelled}
use Rattle.c_rules.specs.Units.{StaticTree, TypedFunction, File, Starts, NoStart, One, Braced, starts, static_list, static_number, with_list, set_list, with_static, may_declare}
use Rattle.c_rules.specs.Units.{with_declared, declared_as, is_twice, file_item, file_items, with_parameters, parameter_locals, with_body, is_defined, behind_name}
use Rattle.c_rules.specs.Units.{function_as, external, externals, empty_file, typed_unit}
use Rattle.c_rules.proofs.Formed.Context.{Gives, is, broken, behind, unless, of_is}
use Rattle.c_rules.proofs.Formed.GivesLemmas.{anything, weaker, of_each}
use Rattle.c_rules.proofs.Formed.CountedExpressions.{code}
use Rattle.ir_semantics.specs.SourceWeights.{source_function_weight, source_functions_weight, source_weight}
use Rattle.ir_semantics.specs.Weights.{statics_weight}
use Rattle.size_proof.proofs.Declarations.{entries_counted, list_counted}
use Rattle.size_proof.proofs.NodeExpressions.{one_node}
use Rattle.size_proof.proofs.Objects.{frame_of, frame_filled}
use Rattle.size_proof.proofs.NodeStatements.{body_light}

-- what the objects and the functions of a file weigh so far
abbrev statics_weigh : List StaticTree → ℕ
statics_weigh statics = statics_weight (map object_tree statics)

abbrev functions_weigh : List TypedFunction → ℕ
functions_weigh fs = source_functions_weight (map function_tree fs)

abbrev file_weighs : File → ℕ
file_weighs file = statics_weigh file.statics + functions_weigh file.functions

-- an object with its list, and a list
abbrev static_weighs : StaticTree → ℕ
static_weighs object = 2 + 3 * length (unwrap_or object.initial [])

abbrev list_weighs : Option (List Initial) → ℕ
list_weighs None = 0
list_weighs (Some values) = 3 * length values

-- one more object
static_added : (statics : List StaticTree) (object : StaticTree) → statics_weigh (statics ++ object ∷ []) ≡ statics_weigh statics + static_weighs object
static_added [] object = omega arith
static_added (first ∷ statics) object = omega (arith, static_added statics object)

new_static : (statics : List StaticTree) (name : List ℕ) (type : ObjectType) (list : Option (List Initial))
    → statics_weigh (with_static statics None name type list) ≡ statics_weigh statics + (2 + list_weighs list)
new_static statics name type None = omega (arith, static_added statics (record { name = name; object_type = type; initial = None }))
new_static statics name type (Some values) = omega (arith, static_added statics (record { name = name; object_type = type; initial = Some values }))

-- the list of an object that had none
static_written : (statics : List StaticTree) (n : ℕ) (old new : StaticTree) (more : ℕ) → slice_get statics n ≡ Some old
    → static_weighs new ≤ static_weighs old + more → statics_weigh (slice_set statics n new) ≤ statics_weigh statics + more
static_written [] n old new more there less = absurd (cc there)
static_written (object ∷ statics) zero old new more there less = let same : object ≡ old = cc there in omega (arith, less, ap static_weighs same)
static_written (object ∷ statics) (suc n) old new more there less = omega (arith, static_written statics n old new more there less)

with_list_weighs : (object : StaticTree) (list : Option (List Initial)) → static_weighs (with_list object list) ≤ static_weighs object + list_weighs list
with_list_weighs object None = omega arith
with_list_weighs object (Some values) = omega arith

set_list_weighs : (statics : List StaticTree) (n : ℕ) (object : Option StaticTree) (list : Option (List Initial)) → slice_get statics n ≡ object
    → statics_weigh (set_list statics n object list) ≤ statics_weigh statics + list_weighs list
set_list_weighs statics n None list there = omega arith
set_list_weighs statics n (Some object) list there =
    static_written statics n object (with_list object list) (list_weighs list) there (with_list_weighs object list)

with_static_weighs : (statics : List StaticTree) (n : Option ℕ) (name : List ℕ) (type : ObjectType) (list : Option (List Initial))
    → statics_weigh (with_static statics n name type list) ≤ statics_weigh statics + (2 + list_weighs list)
with_static_weighs statics None name type list = omega (arith, new_static statics name type list)
with_static_weighs statics (Some n) name type list = omega (arith, set_list_weighs statics n (slice_get statics n) list refl)

-- an initialiser of file scope has as many values as its text
abbrev values_in : Starts → ℕ
values_in NoStart = 0
values_in (One e) = 1
values_in (Braced es) = length es

starts_counted : (s : Scope) (i : Option InitialTree) → Gives (λ x. values_in x ≤ initial_weight code i) (starts s i)
starts_counted s None = is _ (omega arith)
starts_counted s (Some (tree.One e)) = behind (entry s e) _ (anything _) λ x value. is _ (one_node e)
starts_counted s (Some (tree.Braced es at)) = behind (entries s es) _ (entries_counted s es) λ xs counted. is _ counted

static_list_weighs : (type : ObjectType) (at : ℕ) (i : Starts) → Gives (λ list. list_weighs list ≤ 3 * values_in i) (static_list type at i)
static_list_weighs type at NoStart = is _ (omega arith)
static_list_weighs (Single kind) at (One e) = behind (cell kind at e) _ (anything _) λ i value. is _ (omega arith)
static_list_weighs (Single kind) at (Braced es) = broken _ _
static_list_weighs (Array kind n) at (One e) = broken _ _
static_list_weighs (Array kind n) at (Braced es) =
    behind (array_list kind n at es) _ (list_counted kind n at es) λ values counted. is _ (omega (arith, counted))

-- items of file scope
module _ (file : File) (item : ItemTree) where
  declared_weighs : (s : Scope) (d : Declared) (i : Starts)
      → Gives (λ g. file_weighs g ≤ file_weighs file + (2 + 3 * values_in i)) (declared_as file s d item i)
  declared_weighs s declares.Untyped i = broken _ _
  declared_weighs s (declares.Function type) i = unless (is_some item.initial) _ _ _ λ none. is _ (omega arith)
  declared_weighs s (declares.Object type) i =
      behind (static_list type item.at i) _ (static_list_weighs type item.at i) λ list weighs.
      is _ (omega (arith, weighs, with_static_weighs file.statics (static_number (file.scope.meaning item.name)) item.name type list))

  item_light : (b : Base) → Gives (λ g. file_weighs g ≤ file_weighs file + 64 * item_weight code item) (file_item file b item)
  item_light b =
      behind (declarator file.scope b item.form item.stars item.initial) _ (anything _) λ d type.
      behind (starts (with_declared file.scope item.name (length file.statics) d) item.initial) _
      (starts_counted (with_declared file.scope item.name (length file.statics) d) item.initial) λ i counted.
      unless (not (may_declare file.scope item.name d) || is_twice file item) _ _ _ λ may.
      weaker _ (declared_weighs (with_declared file.scope item.name (length file.statics) d) d i) λ g weighs. omega (arith, counted, weighs)

items_light : (b : Base) (file : File) (items : List ItemTree)
    → Gives (λ g. file_weighs g ≤ file_weighs file + 64 * sum_by (item_weight code) items) (file_items file b items)
items_light b file [] = is _ (omega arith)
items_light b file (item ∷ items) =
    behind (file_item file b item) _ (item_light file item b) λ g first.
    weaker _ (items_light b g items) λ h others. omega (arith, first, others, sum_by-cons (item_weight code) item items)

-- functions
function_joined : (fs : List TypedFunction) (f : TypedFunction) → functions_weigh (fs ++ f ∷ []) ≡ functions_weigh fs + source_function_weight (function_tree f)
function_joined [] f = omega arith
function_joined (first ∷ fs) f = omega (arith, function_joined fs f)

module _ (f : FunctionSyntax) where
  body_added : (file : File) (result : Kind) (kinds : List ScalarType)
      → Gives (λ g. file_weighs g ≤ file_weighs file + 64 * external_weight code (Defined f)) (with_body file f result kinds)
  body_added file result kinds =
      let s = with_parameters (open_scope file.scope) 0 f.parameters.list kinds in
      let ls = parameter_locals f.parameters.list kinds in
      behind (typed_body result s ls f.declarations f.statements) _
      (of_each _ λ frame. body_light frame result s ls f.declarations f.statements f.body_at) λ r light.
      is _ (omega (
        arith,
        (light (frame_of r.locals r.tree)).within (frame_filled r.locals r.tree),
        function_joined file.functions (record { name = f.name; result = result; parameters = length kinds; locals = r.locals; body = r.tree }),
      ))

  function_added : (file : File) (type : FunctionType)
      → Gives (λ g. file_weighs g ≤ file_weighs file + 64 * external_weight code (Defined f)) (function_as file f type)
  function_added file type =
      behind (with_body (behind_name file f.name type) f type.result type.parameters) _
      (body_added (behind_name file f.name type) type.result type.parameters) λ g light.
      unless (not (may_declare file.scope f.name (declares.Function type)) || is_defined file f.name) _ _ _ λ new. is _ light

-- externals
external_light : (file : File) (x : ExternalTree) → Gives (λ g. file_weighs g ≤ file_weighs file + 64 * external_weight code x) (external file x)
external_light file (Defined f) =
    behind (spelled f.specs) _ (anything _) λ b base.
    behind (parameters (open_scope file.scope) Needed f.parameters.list) _ (anything _) λ kinds types.
    function_added f file (record { result = starred b f.stars; parameters = kinds })
external_light file (tree.Declared d) = behind (spelled d.specs) _ (anything _) λ b base. items_light b file d.items

externals_light : (file : File) (unit : UnitTree) → Gives (λ g. file_weighs g ≤ file_weighs file + 64 * unit_weight code unit) (externals file unit)
externals_light file [] = is _ (omega arith)
externals_light file (x ∷ unit) =
    behind (external file x) _ (external_light file x) λ g first.
    weaker _ (externals_light g unit) λ h others. omega (arith, first, others, sum_by-cons (external_weight code) x unit)

pub program_by_nodes : (unit : UnitTree) (program : ProgramTree) → IsTyped unit program → source_weight program ≤ 64 * unit_count unit
program_by_nodes unit program typed =
    let light = of_is (typed_unit unit) typed.file (externals_light (empty_file unit) unit) typed.typed in
    subst (λ p. source_weight p ≤ 64 * unit_count unit) (sym typed.tree) (omega (arith, light))
