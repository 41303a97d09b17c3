-- A source within its limits gives a program within the limit of objects in memory.
use Rattle.std.proofs.Common.{◌≡◌, ◌≤◌, ◌+◌, ◌||◌, ℕ, not, List, [], ◌∷◌, map, length, slice_get, is_some, Option, Some, None, refl, arith, length-append, sum_by}
use Rattle.std.proofs.lemmas.List.{length-map, length-set}
use Rattle.std.proofs.lemmas.List.Sums.{sum_by-cons, sum_by_push}
use Rattle.c_tree.specs.c_syntax.Counts.{item_weight, external_weight, unit_weight, unit_count}
use Rattle.c_tree.specs.WellFormedProgram.{object_count}
use Rattle.c_tree.specs.declared.program.Base.{Base}
use Rattle.c_tree.specs.declared.program.Initial.{Initial}
use Rattle.c_tree.specs.declared.program.ScalarType.{ScalarType}
use Rattle.c_tree.specs.c_syntax.SyntaxTree as tree
use Rattle.c_tree.specs.c_syntax.SyntaxTree.{ParameterTree, ItemTree, FunctionSyntax, ExternalTree, Defined, UnitTree}
use Rattle.c_tree.specs.TypedTree.{Kind, FunctionTree}
use Rattle.c_tree.specs.Uses.{statement_uses}
use Rattle.c_rules.specs.declared.meaning.Declared.{Declared}
use Rattle.c_rules.specs.declared.meaning.Declared.TheVariants as declares
use Rattle.c_rules.specs.declared.local.Naming.TheVariants.{Needed}
use Rattle.c_rules.specs.declared.meaning.FunctionType.{FunctionType}
use Rattle.c_rules.specs.declared.meaning.ObjectType.{ObjectType}
use Rattle.c_rules.specs.Outcome.{Is}
use Rattle.c_rules.specs.Declarations.{declarator, parameters}
use Rattle.c_rules.specs.Kinds.{starred}
use Rattle.c_rules.specs.Programs.{function_tree, object_tree, program_tree}
use Rattle.c_rules.specs.Scopes.{Scope, open_scope}
use Rattle.c_rules.specs.Statements.{typed_body}
use Rattle.c_rules.specs.Typing.{spelled}
use Rattle.c_rules.specs.Units.{StaticTree, TypedFunction, File, Starts, starts, static_list, static_number, with_list, set_list, with_static, may_declare, with_declared}
use Rattle.c_rules.specs.Units.{declared_as, is_twice, file_item, file_items, with_parameters, parameter_locals, with_body, is_defined, behind_name}
use Rattle.c_rules.specs.Units.{function_as, external, externals, empty_file, typed_unit}
use Rattle.c_rules.proofs.Formed.Context.{Gives, is, broken, behind, unless, of_is}
use Rattle.c_rules.proofs.Formed.GivesLemmas.{anything, weaker}
use Rattle.c_rules.proofs.Formed.CountedUses.{addresses, arrays, frame_objects_few}
use Rattle.c_rules.proofs.Formed.CountedExpressions.{code}
use Rattle.c_rules.proofs.Formed.CountedStatements.{body_few}
use Rattle.c_tree.specs.declared.limits.TheConstants.{MOST_OBJECTS}
use Rattle.c_tree.specs.c_syntax.declared.limits.TheConstants.{MOST_NODES}

-- the objects of a file so far, and those of its functions that may lie in memory
abbrev function_objects : TypedFunction → ℕ
function_objects f = arrays f.locals + addresses (statement_uses f.body)

abbrev file_objects : File → ℕ
file_objects file = length file.statics + sum_by function_objects file.functions

-- items of file scope
set_list_few : (statics : List StaticTree) (n : ℕ) (o : Option StaticTree) (list : Option (List Initial)) → length (set_list statics n o list) ≤ length statics
set_list_few statics n None list = omega arith
set_list_few statics n (Some o) list = omega (arith, length-set statics n (with_list o list))

with_static_few : (statics : List StaticTree) (n : Option ℕ) (name : List ℕ) (type : ObjectType) (list : Option (List Initial))
    → length (with_static statics n name type list) ≤ length statics + 1
with_static_few statics None name type list = omega (arith, length-append statics (record { name = name; object_type = type; initial = list } ∷ []))
with_static_few statics (Some n) name type list = omega (arith, set_list_few statics n (slice_get statics n) list)

module _ (file : File) (item : ItemTree) where
  declared_few : (s : Scope) (d : Declared) (i : Starts) → Gives (λ g. file_objects g ≤ file_objects file + 1) (declared_as file s d item i)
  declared_few s declares.Untyped i = broken _ _
  declared_few s (declares.Function type) i = unless (is_some item.initial) _ _ _ λ none. is _ (omega arith)
  declared_few s (declares.Object type) i =
      behind (static_list type item.at i) _ (anything _) λ list right.
      is _ (omega (arith, with_static_few file.statics (static_number (file.scope.meaning item.name)) item.name type list))

  item_few : (b : Base) → Gives (λ g. file_objects g ≤ file_objects file + item_weight code item) (file_item file b item)
  item_few b =
      behind (declarator file.scope b item.form item.stars item.initial) _ (anything _) λ d type.
      behind (starts (with_declared file.scope item.name (length file.statics) d) item.initial) _ (anything _) λ i start.
      unless (not (may_declare file.scope item.name d) || is_twice file item) _ _ _ λ may.
      weaker _ (declared_few (with_declared file.scope item.name (length file.statics) d) d i) λ g few. omega (arith, few)

items_few : (b : Base) (file : File) (items : List ItemTree) → Gives (λ g. file_objects g ≤ file_objects file + sum_by (item_weight code) items) (file_items file b items)
items_few b file [] = is _ (omega arith)
items_few b file (item ∷ items) =
    behind (file_item file b item) _ (item_few file item b) λ g first.
    weaker _ (items_few b g items) λ h others. omega (arith, first, others, sum_by-cons (item_weight code) item items)

-- functions, whose parameters are single objects
no_arrays : (ps : List ParameterTree) (kinds : List ScalarType) → arrays (parameter_locals ps kinds) ≡ 0
no_arrays [] kinds = refl
no_arrays (p ∷ ps) [] = refl
no_arrays (p ∷ ps) (kind ∷ kinds) = omega (arith, no_arrays ps kinds)

module _ (f : FunctionSyntax) where
  body_added : (file : File) (result : Kind) (kinds : List ScalarType)
      → Gives (λ g. file_objects g ≤ file_objects file + external_weight code (Defined f)) (with_body file f result kinds)
  body_added file result kinds =
      let s = with_parameters (open_scope file.scope) 0 f.parameters.list kinds in
      let ls = parameter_locals f.parameters.list kinds in
      behind (typed_body result s ls f.declarations f.statements) _ (body_few result s ls f.declarations f.statements f.body_at) λ r few.
      is _ (omega (
        arith,
        few,
        no_arrays f.parameters.list kinds,
        sum_by_push function_objects file.functions (record { name = f.name; result = result; parameters = length kinds; locals = r.locals; body = r.tree }),
      ))

  function_added : (file : File) (type : FunctionType) → Gives (λ g. file_objects g ≤ file_objects file + external_weight code (Defined f)) (function_as file f type)
  function_added file type =
      behind (with_body (behind_name file f.name type) f type.result type.parameters) _
      (body_added (behind_name file f.name type) type.result type.parameters) λ g few.
      unless (not (may_declare file.scope f.name (declares.Function type)) || is_defined file f.name) _ _ _ λ new. is _ few

-- externals
external_few : (file : File) (x : ExternalTree) → Gives (λ g. file_objects g ≤ file_objects file + external_weight code x) (external file x)
external_few file (Defined f) =
    behind (spelled f.specs) _ (anything _) λ b base.
    behind (parameters (open_scope file.scope) Needed f.parameters.list) _ (anything _) λ kinds types.
    function_added f file (record { result = starred b f.stars; parameters = kinds })
external_few file (tree.Declared d) = behind (spelled d.specs) _ (anything _) λ b base. items_few b file d.items

externals_few : (file : File) (unit : UnitTree) → Gives (λ g. file_objects g ≤ file_objects file + unit_weight code unit) (externals file unit)
externals_few file [] = is _ (omega arith)
externals_few file (x ∷ unit) =
    behind (external file x) _ (external_few file x) λ g first.
    weaker _ (externals_few g unit) λ h others. omega (arith, first, others, sum_by-cons (external_weight code) x unit)

-- the objects that lie in memory
locals_few : (fs : List TypedFunction) → sum_by (λ f. length f.locals) (map function_tree fs) ≤ sum_by function_objects fs
locals_few [] = omega arith
locals_few (f ∷ fs) =
    omega (
      arith,
      locals_few fs,
      frame_objects_few (statement_uses f.body) f.locals,
      sum_by-cons (λ (g : FunctionTree). length g.locals) (function_tree f) (map function_tree fs),
      sum_by-cons function_objects f fs,
    )

pub few_objects : (unit : UnitTree) (file : File) → typed_unit unit ≡ Is file → unit_count unit ≤ MOST_NODES → object_count (program_tree file) ≤ MOST_OBJECTS
few_objects unit file same within =
    let few : file_objects file ≤ file_objects (empty_file unit) + unit_weight code unit = of_is (typed_unit unit) file (externals_few (empty_file unit) unit) same in
    omega (arith, few, within, locals_few file.functions, length-map file.statics object_tree)
