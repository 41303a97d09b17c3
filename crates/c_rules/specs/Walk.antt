-- The walk over a whole source: the rules that each of its nodes breaks, ISO 9899:1990 6.7 (docs/LANGUAGE.md, "Types").
use Rattle.std.specs.Prelude.{◌||◌, not, List, [], ◌∷◌, ◌++◌, length, is_some, Option, Some, None}
use Rattle.c_tree.specs.declared.program.Base.{Base}
use Rattle.c_tree.specs.declared.program.ScalarType.{ScalarType}
use Rattle.c_tree.specs.c_syntax.SyntaxTree as tree
use Rattle.c_tree.specs.c_syntax.SyntaxTree.{SpecsTree, InitialTree, ItemTree, FunctionSyntax, ExternalTree, Defined, UnitTree}
use Rattle.c_rules.specs.declared.fault.Rule.{Rule}
use Rattle.c_rules.specs.declared.fault.Rule.TheVariants.{Redeclared, Mismatch}
use Rattle.c_rules.specs.declared.local.Naming.TheVariants.{Needed}
use Rattle.c_rules.specs.declared.meaning.FunctionType.{FunctionType}
use Rattle.c_rules.specs.declared.meaning.Declared.{Declared}
use Rattle.c_rules.specs.declared.meaning.Declared.TheVariants as declares
use Rattle.c_rules.specs.Kinds.{starred}
use Rattle.c_rules.specs.Scopes.{Scope, open_scope}
use Rattle.c_rules.specs.Typing.{is_spelling, spelled}
use Rattle.c_rules.specs.Declarations.{parameters, declarator}
use Rattle.c_rules.specs.Units.{File, Starts, with_declared, starts, static_list, may_declare, is_twice, file_item, with_parameters, parameter_locals, is_defined, behind_name, external, empty_file}
use Rattle.c_rules.specs.Visits.{Visit, visit, when, rule_of, by_one, visits_behind}
use Rattle.c_rules.specs.DeclarationWalk.{parameters_visits, declarator_visits, entry_visits, entries_visits}
use Rattle.c_rules.specs.StatementWalk.{body_visits}

-- the words of a type, among which static may stand
abbrev pub spelled_visit : SpecsTree → Visit
spelled_visit specs = visit specs.at (when (not (is_spelling specs.words)) Mismatch)

-- an item of file scope
abbrev pub starts_visits : Scope → Option InitialTree → List Visit
starts_visits s None = []
starts_visits s (Some (tree.One e)) = entry_visits s e
starts_visits s (Some (tree.Braced es at)) = entries_visits s es

abbrev pub static_rules : ItemTree → Declared → Starts → List Rule
static_rules item declares.Untyped i = Mismatch ∷ []
static_rules item (declares.Function type) i = when (is_some item.initial) Mismatch
static_rules item (declares.Object type) i = rule_of (static_list type item.at i)

abbrev pub item_rules : File → ItemTree → Declared → Starts → List Rule
item_rules f item d i = when (not (may_declare f.scope item.name d) || is_twice f item) Redeclared ++ static_rules item d i

abbrev pub declared_visits : File → ItemTree → Declared → List Visit
declared_visits f item d = starts_visits (with_declared f.scope item.name (length f.statics) d) item.initial
    ++ visit item.at (by_one (starts (with_declared f.scope item.name (length f.statics) d) item.initial) (item_rules f item d)) ∷ []

abbrev pub item_visits : File → Base → ItemTree → List Visit
item_visits f b item = declarator_visits f.scope item.form
    ++ visits_behind (declarator f.scope b item.form item.stars item.initial) (declared_visits f item)

abbrev pub items_visits : File → Base → List ItemTree → List Visit
items_visits f b [] = []
items_visits f b (item ∷ items) = item_visits f b item ++ visits_behind (file_item f b item) (λ g. items_visits g b items)

-- a function with its body
abbrev pub typed_as : FunctionSyntax → Base → List ScalarType → FunctionType
typed_as f b kinds = record { result = starred b f.stars; parameters = kinds }

abbrev pub function_rules : File → FunctionSyntax → FunctionType → List Rule
function_rules file f type = when (not (may_declare file.scope f.name (declares.Function type)) || is_defined file f.name) Redeclared

abbrev pub defined_visits : File → FunctionSyntax → FunctionType → List Visit
defined_visits file f type =
    body_visits type.result (with_parameters (open_scope (behind_name file f.name type).scope) 0 f.parameters.list type.parameters)
    (parameter_locals f.parameters.list type.parameters) f.declarations f.statements
    ++ visit f.at (function_rules file f type) ∷ []

abbrev pub function_visits : File → FunctionSyntax → List Visit
function_visits file f = spelled_visit f.specs ∷ (parameters_visits (open_scope file.scope) Needed f.parameters.list
    ++ visits_behind (spelled f.specs) (λ b. visits_behind (parameters (open_scope file.scope) Needed f.parameters.list) (λ kinds. defined_visits file f (typed_as f b kinds))))

abbrev pub external_visits : File → ExternalTree → List Visit
external_visits file (Defined f) = function_visits file f
external_visits file (tree.Declared d) = spelled_visit d.specs ∷ visits_behind (spelled d.specs) (λ b. items_visits file b d.items)

abbrev pub externals_visits : File → UnitTree → List Visit
externals_visits file [] = []
externals_visits file (x ∷ xs) = external_visits file x ++ visits_behind (external file x) (λ g. externals_visits g xs)

-- the nodes of a source in walking order, all of them up to the first that breaks a rule
abbrev pub walk : UnitTree → List Visit
walk unit = externals_visits (empty_file unit) unit
