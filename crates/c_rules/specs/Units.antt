-- Whole sources: ISO 9899:1990 6.7 (docs/LANGUAGE.md, "Types").
use Rattle.std.specs.Prelude.{ℕ, suc, ◌==◌, ◌&&◌, ◌||◌, not, nat_lt, Bool, true, false, if◌then◌else◌, List, [], ◌∷◌, ◌++◌, length, slice_get, slice_set, is_some, is_none, unwrap_or, Option, Some, None}
use Rattle.std.specs.Str.{bytes_eq}
use Rattle.c_tree.specs.declared.program.Base.{Base}
use Rattle.c_tree.specs.declared.program.ScalarType.{ScalarType}
use Rattle.c_tree.specs.declared.program.VarRef.TheVariants as refs
use Rattle.c_tree.specs.declared.program.Initial.{Initial}
use Rattle.c_tree.specs.c_syntax.SyntaxTree as tree
use Rattle.c_tree.specs.c_syntax.SyntaxTree.{ParameterTree, ItemTree, InitialTree, FunctionSyntax, ExternalTree, Defined, UnitTree}
use Rattle.c_tree.specs.TypedTree.{Kind, Stmt}
use Rattle.c_rules.specs.declared.fault.Rule.{Rule}
use Rattle.c_rules.specs.declared.fault.Rule.TheVariants.{Redeclared, Mismatch}
use Rattle.c_rules.specs.declared.local.Naming.TheVariants.{Needed}
use Rattle.c_rules.specs.declared.meaning.Meaning.{Meaning}
use Rattle.c_rules.specs.declared.meaning.Meaning.TheVariants as meanings
use Rattle.c_rules.specs.declared.meaning.FunctionType.{FunctionType}
use Rattle.c_rules.specs.declared.meaning.ObjectType.{ObjectType}
use Rattle.c_rules.specs.declared.meaning.ObjectType.TheVariants.{Single, Array}
use Rattle.c_rules.specs.declared.meaning.Declared.{Declared}
use Rattle.c_rules.specs.declared.meaning.Declared.TheVariants as declares
use Rattle.c_rules.specs.Outcome.{Outcome, Is, Broken, ◌>>=◌, breaks}
use Rattle.c_rules.specs.Kinds.{starred, same_type, same_kind}
use Rattle.c_rules.specs.Scopes.{Scope, no_names, open_scope, declare, is_in, is_out}
use Rattle.c_rules.specs.Typing.{spelled, bodies_before}
use Rattle.c_rules.specs.Declarations.{with_single, parameters, declarator, Entry, entry, entries, cell, array_list}
use Rattle.c_rules.specs.Statements.{LocalTree, Typed, typed_body}

-- an object of file scope: its name, its type, and its list where it is initialised
pub record StaticTree : Type 0 where
  pub name : List ℕ
  pub object_type : ObjectType
  pub initial : Option (List Initial)

-- a function: its first objects are its parameters
pub record TypedFunction : Type 0 where
  pub name : List ℕ
  pub result : Kind
  pub parameters : ℕ
  pub locals : List LocalTree
  pub body : Stmt

-- what stands before an external: the names, the objects in order of their first declarations, and the functions with bodies
pub record File : Type 0 where
  pub scope : Scope
  pub statics : List StaticTree
  pub functions : List TypedFunction

-- two types of objects and of functions are one: 6.1.2.6
abbrev pub same_object : ObjectType → ObjectType → Bool
same_object (Single a) (Single b) = same_type a b
same_object (Array a m) (Array b n) = same_type a b && m == n
same_object a b = false

abbrev pub same_result : Kind → Kind → Bool
same_result None None = true
same_result a b = same_kind a b

abbrev pub same_types : List ScalarType → List ScalarType → Bool
same_types [] [] = true
same_types (a ∷ others) (b ∷ rest) = same_type a b && same_types others rest
same_types a b = false

abbrev pub same_function : FunctionType → FunctionType → Bool
same_function a b = same_result a.result b.result && same_types a.parameters b.parameters

-- whether a name that stands for this may be declared as that
abbrev pub agrees : Option Meaning → Declared → Bool
agrees None d = true
agrees (Some (meanings.Object r a)) (declares.Object b) = same_object a b
agrees (Some (meanings.Function a)) (declares.Function b) = same_function a b
agrees m d = false

abbrev pub may_declare : Scope → List ℕ → Declared → Bool
may_declare s name d = not (is_in name || is_out name) && agrees (s.meaning name) d

-- what a name that is declared for the first time stands for, if the next object has this number
abbrev pub meaning_of : ℕ → Declared → Option Meaning
meaning_of n declares.Untyped = None
meaning_of n (declares.Object type) = Some (meanings.Object (refs.Static n) type)
meaning_of n (declares.Function type) = Some (meanings.Function type)

abbrev pub with_meaning : Scope → List ℕ → Option Meaning → Scope
with_meaning s name None = s
with_meaning s name (Some m) = declare s name m

-- the scope behind a declarator: what can't be declared isn't seen
abbrev pub with_declared : Scope → List ℕ → ℕ → Declared → Scope
with_declared s name n d =
    if may_declare s name d && is_none (s.meaning name) then with_meaning s name (meaning_of n d) else s

-- the initialiser of an object of file scope: 6.5.7
pub data Starts : Type 0 where
  NoStart : Starts
  One : Entry → Starts
  Braced : List Entry → Starts

abbrev pub starts : Scope → Option InitialTree → Outcome Starts
starts s None = Is NoStart
starts s (Some (tree.One e)) = entry s e >>= λ x. Is (One x)
starts s (Some (tree.Braced es at)) = entries s es >>= λ xs. Is (Braced xs)

abbrev pub static_list : ObjectType → ℕ → Starts → Outcome (Option (List Initial))
static_list type at NoStart = Is None
static_list (Single kind) at (One e) = cell kind at e >>= λ i. Is (Some (i ∷ []))
static_list (Array kind n) at (Braced es) = array_list kind n at es >>= λ is. Is (Some is)
static_list type at i = Broken Mismatch at

-- the number of an object that is declared already
abbrev pub static_number : Option Meaning → Option ℕ
static_number (Some (meanings.Object (refs.Static n) type)) = Some n
static_number m = None

abbrev pub has_list : Option StaticTree → Bool
has_list None = false
has_list (Some object) = is_some object.initial

abbrev pub is_initialised : List StaticTree → Option ℕ → Bool
is_initialised statics None = false
is_initialised statics (Some n) = has_list (slice_get statics n)

-- the objects with one more, or with the list of one that had none
abbrev pub with_list : StaticTree → Option (List Initial) → StaticTree
with_list object None = object
with_list object (Some is) = record { name = object.name; object_type = object.object_type; initial = Some is }

abbrev pub set_list : List StaticTree → ℕ → Option StaticTree → Option (List Initial) → List StaticTree
set_list statics n None is = statics
set_list statics n (Some object) is = slice_set statics n (with_list object is)

abbrev pub with_static : List StaticTree → Option ℕ → List ℕ → ObjectType → Option (List Initial) → List StaticTree
with_static statics None name type is = statics ++ record { name = name; object_type = type; initial = is } ∷ []
with_static statics (Some n) name type is = set_list statics n (slice_get statics n) is

-- an item of file scope: 6.7.2
abbrev pub declared_as : File → Scope → Declared → ItemTree → Starts → Outcome File
declared_as f s declares.Untyped item i = Broken Mismatch item.at
declared_as f s (declares.Function type) item i = breaks (is_some item.initial) Mismatch item.at
    (Is (record { scope = s; statics = f.statics; functions = f.functions }))
declared_as f s (declares.Object type) item i = static_list type item.at i >>= λ is.
    Is (record { scope = s; statics = with_static f.statics (static_number (f.scope.meaning item.name)) item.name type is; functions = f.functions })

abbrev pub is_twice : File → ItemTree → Bool
is_twice f item = is_some item.initial && is_initialised f.statics (static_number (f.scope.meaning item.name))

-- the rule that an item without a valid type breaks, whose initialiser breaks none
abbrev pub untyped_rule : Scope → List ℕ → Rule
untyped_rule s name = if (is_in name || is_out name) || is_some (s.meaning name) then Redeclared else Mismatch

-- an item whose declarator gives this
abbrev pub item_as : File → Declared → ItemTree → Outcome File
item_as f d item = starts (with_declared f.scope item.name (length f.statics) d) item.initial >>= λ i.
    breaks (not (may_declare f.scope item.name d) || is_twice f item) Redeclared item.at
    (declared_as f (with_declared f.scope item.name (length f.statics) d) d item i)

abbrev pub file_item : File → Base → ItemTree → Outcome File
file_item f b item = declarator f.scope b item.form item.stars item.initial >>= λ d. item_as f d item

abbrev pub file_items : File → Base → List ItemTree → Outcome File
file_items f b [] = Is f
file_items f b (item ∷ items) = file_item f b item >>= λ g. file_items g b items

-- the parameters of a function in the scope of its body, the first with this number
abbrev pub with_parameters : Scope → ℕ → List ParameterTree → List ScalarType → Scope
with_parameters s n (p ∷ ps) (kind ∷ kinds) = with_parameters (with_single s p.name (refs.Local n) kind) (suc n) ps kinds
with_parameters s n ps kinds = s

abbrev pub parameter_locals : List ParameterTree → List ScalarType → List LocalTree
parameter_locals (p ∷ ps) (kind ∷ kinds) = record { name = unwrap_or p.name []; object_type = Single kind; values = [] } ∷ parameter_locals ps kinds
parameter_locals ps kinds = []

-- a body, behind the name of its function and its parameters
abbrev pub with_function : File → List ℕ → Kind → List ScalarType → Typed Stmt → File
with_function file name result kinds r = record {
  scope = file.scope;
  statics = file.statics;
  functions = file.functions ++ record { name = name; result = result; parameters = length kinds; locals = r.locals; body = r.tree } ∷ [];
}

abbrev pub with_body : File → FunctionSyntax → Kind → List ScalarType → Outcome File
with_body file f result kinds =
    typed_body result (with_parameters (open_scope file.scope) 0 f.parameters.list kinds) (parameter_locals f.parameters.list kinds) f.declarations f.statements
    >>= λ r. Is (with_function file f.name result kinds r)

-- a function with its body: 6.7.1
abbrev pub is_defined : File → List ℕ → Bool
is_defined file name = nat_lt (bodies_before file.scope name) (length file.functions)

abbrev pub behind_name : File → List ℕ → FunctionType → File
behind_name file name type = record {
  scope = with_declared file.scope name 0 (declares.Function type);
  statics = file.statics;
  functions = file.functions;
}

abbrev pub function_as : File → FunctionSyntax → FunctionType → Outcome File
function_as file f type = with_body (behind_name file f.name type) f type.result type.parameters >>= λ g.
    breaks (not (may_declare file.scope f.name (declares.Function type)) || is_defined file f.name) Redeclared f.at (Is g)

abbrev pub file_function : File → FunctionSyntax → Outcome File
file_function file f = spelled f.specs >>= λ b. parameters (open_scope file.scope) Needed f.parameters.list >>= λ kinds.
    function_as file f (record { result = starred b f.stars; parameters = kinds })

abbrev pub external : File → ExternalTree → Outcome File
external file (Defined f) = file_function file f
external file (tree.Declared d) = spelled d.specs >>= λ b. file_items file b d.items

abbrev pub externals : File → UnitTree → Outcome File
externals file [] = Is file
externals file (x ∷ xs) = external file x >>= λ g. externals g xs

-- the names of the functions with bodies, each where it stands first
abbrev pub is_name_among : List ℕ → List (List ℕ) → Bool
is_name_among name [] = false
is_name_among name (n ∷ ns) = bytes_eq n name || is_name_among name ns

abbrev pub bodies_behind : List (List ℕ) → UnitTree → List (List ℕ)
bodies_behind names [] = names
bodies_behind names (Defined f ∷ xs) = bodies_behind (if is_name_among f.name names then names else names ++ f.name ∷ []) xs
bodies_behind names (tree.Declared d ∷ xs) = bodies_behind names xs

abbrev pub empty_file : UnitTree → File
empty_file unit = record { scope = no_names (bodies_behind [] unit); statics = []; functions = [] }

-- a whole source
abbrev pub typed_unit : UnitTree → Outcome File
typed_unit unit = externals (empty_file unit) unit
