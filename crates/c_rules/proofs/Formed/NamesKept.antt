-- The functions of a typed file are those that have bodies in the source, in order.
use Rattle.std.proofs.Common.{◌≡◌, ◌++◌, ◌∷◌, [], ℕ, ◌||◌, not, List, length, map, ap, ◌∙◌, sym, refl, append-nil, append_assoc}
use Rattle.std.specs.Prelude.{is_some}
use Rattle.std.proofs.lemmas.List.{map-append}
use Rattle.c_tree.specs.c_syntax.FunctionNames.{function_names}
use Rattle.c_tree.specs.c_syntax.SyntaxTree as tree
use Rattle.c_tree.specs.c_syntax.SyntaxTree.{ItemTree, FunctionSyntax, ExternalTree, Defined, UnitTree}
use Rattle.c_tree.specs.declared.program.Base.{Base}
use Rattle.c_rules.specs.declared.meaning.Declared.{Declared}
use Rattle.c_rules.specs.declared.meaning.Declared.TheVariants as declares
use Rattle.c_rules.specs.declared.fault.Rule.TheVariants.{Redeclared, Mismatch}
use Rattle.c_rules.specs.declared.meaning.FunctionType.{FunctionType}
use Rattle.c_rules.specs.Kinds.{starred}
use Rattle.c_rules.specs.Outcome.{Outcome, Is}
use Rattle.c_rules.specs.Scopes.{Scope, open_scope}
use Rattle.c_rules.specs.Statements.{Typed, typed_body}
use Rattle.c_rules.specs.Typing.{spelled}
use Rattle.c_rules.specs.Declarations.{parameters, declarator}
use Rattle.c_rules.specs.declared.local.Naming.TheVariants.{Needed}
use Rattle.c_tree.specs.TypedTree.{Kind, Stmt}
use Rattle.c_tree.specs.declared.program.ScalarType.{ScalarType}
use Rattle.c_rules.specs.Units.{File, Starts, starts, may_declare, with_declared, is_twice, static_list, with_static, static_number, declared_as, item_as, file_item, file_items, with_parameters, parameter_locals, with_function, with_body, behind_name, is_defined, function_as, file_function, external, externals, empty_file, typed_unit}
use Rattle.c_rules.proofs.Formed.Context.{Gives, broken, is, behind, unless, of_is}
use Rattle.c_rules.proofs.Formed.GivesLemmas.{anything, weaker}

abbrev names_of : File → List (List ℕ)
names_of file = map (λ f. f.name) file.functions

-- a file with these names behind those of another
abbrev Adds : List (List ℕ) → File → File → Type 0
Adds names file other = names_of other ≡ names_of file ++ names

adds_none : (file other : File) → other.functions ≡ file.functions → Adds [] file other
adds_none file other same = ap (map (λ f. f.name)) same ∙ sym (append-nil (names_of file))

adds_both : (xs ys : List (List ℕ)) (file other next : File) → Adds xs file other → Adds ys other next → Adds (xs ++ ys) file next
adds_both xs ys file other next first last = last ∙ ap (λ l. l ++ ys) first ∙ append_assoc (names_of file) xs ys

-- a declaration adds no function
declared_adds : (file : File) (s : Scope) (d : Declared) (item : ItemTree) (i : Starts) → Gives (Adds [] file) (declared_as file s d item i)
declared_adds file s declares.Untyped item i = broken Mismatch item.at
declared_adds file s (declares.Function type) item i = unless (is_some item.initial) Mismatch item.at _ (λ none.
    let other : File = record { scope = s; statics = file.statics; functions = file.functions } in is other (adds_none file other refl))
declared_adds file s (declares.Object type) item i = behind _ _ (anything (static_list type item.at i)) (λ list any.
    let other : File = record { scope = s; statics = with_static file.statics (static_number (file.scope.meaning item.name)) item.name type list; functions = file.functions }
    in is other (adds_none file other refl))

item_as_adds : (file : File) (d : Declared) (item : ItemTree) → Gives (Adds [] file) (item_as file d item)
item_as_adds file d item =
    let scope : Scope = with_declared file.scope item.name (length file.statics) d
    in behind (starts scope item.initial) _ (anything (starts scope item.initial)) (λ i any.
    unless (not (may_declare file.scope item.name d) || is_twice file item) Redeclared item.at (declared_as file scope d item i) (λ may. declared_adds file scope d item i))

item_adds : (file : File) (b : Base) (item : ItemTree) → Gives (Adds [] file) (file_item file b item)
item_adds file b item =
    let declares : Outcome Declared = declarator file.scope b item.form item.stars item.initial
    in behind declares _ (anything declares) (λ d any. item_as_adds file d item)

items_add : (b : Base) (items : List ItemTree) (file : File) → Gives (Adds [] file) (file_items file b items)
items_add b [] file = is file (adds_none file file refl)
items_add b (item ∷ items) file =
    behind (file_item file b item) _ (item_adds file b item) (λ g first. weaker (file_items g b items) (items_add b items g) (λ h last. adds_both [] [] file g h first last))

-- a function adds its name
body_adds : (file : File) (f : FunctionSyntax) (result : Kind) (kinds : List ScalarType) → Gives (Adds (f.name ∷ []) file) (with_body file f result kinds)
body_adds file f result kinds =
    let body : Outcome (Typed Stmt) =
    typed_body result (with_parameters (open_scope file.scope) 0 f.parameters.list kinds) (parameter_locals f.parameters.list kinds) f.declarations f.statements
    in behind body _ (anything body) (λ r any. is (with_function file f.name result kinds r) (map-append (λ g. g.name) file.functions _))

function_as_adds : (file : File) (f : FunctionSyntax) (type : FunctionType) → Gives (Adds (f.name ∷ []) file) (function_as file f type)
function_as_adds file f type =
    behind (with_body (behind_name file f.name type) f type.result type.parameters) _ (body_adds (behind_name file f.name type) f type.result type.parameters)
    (λ g added. unless (not (may_declare file.scope f.name (declares.Function type)) || is_defined file f.name) Redeclared f.at (Is g) (λ may. is g added))

function_adds : (file : File) (f : FunctionSyntax) → Gives (Adds (f.name ∷ []) file) (file_function file f)
function_adds file f =
    let kinds : Outcome (List ScalarType) = parameters (open_scope file.scope) Needed f.parameters.list
    in behind (spelled f.specs) _ (anything (spelled f.specs)) (λ b any. behind kinds _ (anything kinds)
    (λ types all. function_as_adds file f (record { result = starred b f.stars; parameters = types })))

-- the names of the functions with bodies among externals
external_adds : (x : ExternalTree) (file : File) → Gives (Adds (function_names (x ∷ [])) file) (external file x)
external_adds (Defined f) file = function_adds file f
external_adds (tree.Declared d) file = behind (spelled d.specs) _ (anything (spelled d.specs)) (λ b any. items_add b d.items file)

names_before : (x : ExternalTree) (xs : UnitTree) → function_names (x ∷ []) ++ function_names xs ≡ function_names (x ∷ xs)
names_before (Defined f) xs = refl
names_before (tree.Declared d) xs = refl

externals_add : (xs : UnitTree) (file : File) → Gives (Adds (function_names xs) file) (externals file xs)
externals_add [] file = is file (adds_none file file refl)
externals_add (x ∷ xs) file =
    behind (external file x) _ (external_adds x file) (λ g first. weaker (externals g xs) (externals_add xs g)
    (λ h last. adds_both (function_names (x ∷ [])) (function_names xs) file g h first last ∙ ap (λ l. names_of file ++ l) (names_before x xs)))

pub same_names : (unit : UnitTree) (file : File) → typed_unit unit ≡ Is file → map (λ f. f.name) file.functions ≡ function_names unit
same_names unit file typed = of_is (typed_unit unit) file (externals_add unit (empty_file unit)) typed
