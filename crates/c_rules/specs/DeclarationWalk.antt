-- The walk over declarations: the rules that each of their nodes breaks, ISO 9899:1990 6.5.
use Rattle.std.specs.Prelude.{◌||◌, Bool, true, false, List, [], ◌∷◌, ◌++◌, length, is_some, is_none, Option, Some, None}
use Rattle.c_tree.specs.declared.program.Base.{Base}
use Rattle.c_tree.specs.declared.program.VarRef.{VarRef}
use Rattle.c_tree.specs.declared.program.VarRef.TheVariants as refs
use Rattle.c_tree.specs.c_syntax.SyntaxTree as tree
use Rattle.c_tree.specs.c_syntax.SyntaxTree.{Expression, ArrayMark, ParameterTree, ItemForm, InitialTree, ItemTree, DeclarationTree}
use Rattle.c_rules.specs.declared.fault.Rule.{Rule}
use Rattle.c_rules.specs.declared.fault.Rule.TheVariants.{Redeclared, Mismatch, Misplaced}
use Rattle.c_rules.specs.declared.local.Naming.{Naming}
use Rattle.c_rules.specs.declared.local.Naming.TheVariants.{Free}
use Rattle.c_rules.specs.declared.meaning.Declared.{Declared}
use Rattle.c_rules.specs.declared.meaning.Declared.TheVariants as declares
use Rattle.c_rules.specs.Scopes.{Scope, open_scope, is_taken}
use Rattle.c_rules.specs.Typing.{plain, typing}
use Rattle.c_rules.specs.Declarations.{parameter_kind, is_bad_length, is_name_taken, lacks_name, parameter, with_single, declarator, static_value}
use Rattle.c_rules.specs.Statements.{Initialiser, initialiser, is_array, started, Opened, with_named_object, block_item, block_items}
use Rattle.c_rules.specs.Visits.{Visit, visit, when, rule_of, by_one, by_two, visits_behind}
use Rattle.c_rules.specs.ExpressionWalk.{plain_rules, constant_rules, rules, part_visits, visits, constant_visits}

-- parameters
abbrev pub length_visits : Scope → ArrayMark → List Visit
length_visits s None = []
length_visits s (Some None) = []
length_visits s (Some (Some e)) = constant_visits s e

abbrev pub parameter_rules : Scope → Naming → ParameterTree → Base → Bool → List Rule
parameter_rules s naming p b bad =
    when (is_name_taken s p.name) Redeclared ++ when ((bad || lacks_name naming p.name) || is_none (parameter_kind b p)) Mismatch

abbrev pub parameter_visits : Scope → Naming → ParameterTree → List Visit
parameter_visits s naming p = visit p.specs.at (plain_rules p.specs) ∷ (length_visits s p.array
    ++ visit p.specs.at (by_two (plain p.specs) (is_bad_length s p.array) (parameter_rules s naming p)) ∷ [])

abbrev pub parameters_visits : Scope → Naming → List ParameterTree → List Visit
parameters_visits s naming [] = []
parameters_visits s naming (p ∷ ps) = parameter_visits s naming p
    ++ visits_behind (parameter s naming p) (λ kind. parameters_visits (with_single s p.name (refs.Local 0) kind) naming ps)

-- declarators
abbrev pub declarator_visits : Scope → ItemForm → List Visit
declarator_visits s tree.Plain = []
declarator_visits s (tree.Array None) = []
declarator_visits s (tree.Array (Some e)) = constant_visits s e
declarator_visits s (tree.Parameters ps) = parameters_visits (open_scope s) Free ps.list

-- static initialisers
abbrev pub entry_visits : Scope → Expression → List Visit
entry_visits s (tree.Node form at) =
    part_visits s form ++ visit at (rules s form at ++ constant_rules form (typing s (tree.Node form at)) (static_value s (tree.Node form at))) ∷ []

abbrev pub entries_visits : Scope → List Expression → List Visit
entries_visits s [] = []
entries_visits s (e ∷ es) = entry_visits s e ++ entries_visits s es

-- initialisers in blocks
abbrev pub values_visits : Scope → List Expression → List Visit
values_visits s [] = []
values_visits s (e ∷ es) = visits s e ++ values_visits s es

abbrev pub initial_visits : Scope → Bool → Option InitialTree → List Visit
initial_visits s array None = []
initial_visits s array (Some (tree.One e)) = visits s e
initial_visits s true (Some (tree.Braced es at)) = entries_visits s es
initial_visits s false (Some (tree.Braced es at)) = values_visits s es

-- an item of a block: a function can't be declared there
abbrev pub local_rules : VarRef → ItemTree → Declared → Initialiser → List Rule
local_rules r item declares.Untyped i = Mismatch ∷ []
local_rules r item (declares.Function type) i = when (is_some item.initial) Mismatch ++ Misplaced ∷ []
local_rules r item (declares.Object type) i = rule_of (started r type item.at i)

abbrev pub block_item_rules : Scope → VarRef → ItemTree → Declared → Initialiser → List Rule
block_item_rules s r item d i = when (is_taken s item.name) Redeclared ++ local_rules r item d i

-- an initialiser sees the name of its item, where that can be declared
abbrev pub block_declared_visits : Scope → VarRef → ItemTree → Declared → List Visit
block_declared_visits s r item d = initial_visits (with_named_object s item.name r d) (is_array item.form) item.initial
    ++ visit item.at (by_one (initialiser (with_named_object s item.name r d) (is_array item.form) item.initial) (block_item_rules s r item d)) ∷ []

abbrev pub block_item_visits : Scope → VarRef → Base → ItemTree → List Visit
block_item_visits s r b item = declarator_visits s item.form
    ++ visits_behind (declarator s b item.form item.stars item.initial) (block_declared_visits s r item)

abbrev pub block_items_visits : Opened → Base → List ItemTree → List Visit
block_items_visits o b [] = []
block_items_visits o b (item ∷ items) = block_item_visits o.scope (refs.Local (length o.locals)) b item
    ++ visits_behind (block_item o b item) (λ p. block_items_visits p b items)

-- declarations, one behind another
abbrev pub declarations_visits : Opened → List DeclarationTree → List Visit
declarations_visits o [] = []
declarations_visits o (d ∷ ds) = visit d.specs.at (plain_rules d.specs)
    ∷ visits_behind (plain d.specs) (λ b. block_items_visits o b d.items ++ visits_behind (block_items o b d.items) (λ p. declarations_visits p ds))
