-- Each function of a source declares its objects once, and fills its arrays.
use Rattle.std.proofs.Common.{◌≡◌, ◌||◌, ◌&&◌, ◌⊎◌, inl, inr, ◌∷◌, [], ℕ, Bool, true, false, if◌then◌else◌, not, List, length, is_some, is_none, Some}
use Rattle.std.proofs.Common.{refl, sym, subst, get_or}
use Rattle.std.specs.Prelude.{All}
use Rattle.std.proofs.lemmas.List.Elements.{All-nil, All-push, All-map}
use Rattle.c_syntax.specs.SyntaxTree as tree
use Rattle.c_syntax.specs.SyntaxTree.{ParameterTree, ItemTree, FunctionSyntax, ExternalTree, Defined, UnitTree}
use Rattle.c_tree.specs.declared.program.Base.{Base}
use Rattle.c_tree.specs.declared.program.ScalarType.{ScalarType}
use Rattle.c_tree.specs.Kinds.{IsScalarType, IsKind}
use Rattle.c_tree.specs.TypedTree.{Kind, FunctionTree, ProgramTree}
use Rattle.c_rules.specs.declared.local.Naming.TheVariants.{Needed}
use Rattle.c_rules.specs.declared.meaning.Declared.{Declared}
use Rattle.c_rules.specs.declared.meaning.Declared.TheVariants as declares
use Rattle.c_rules.specs.declared.meaning.FunctionType.{FunctionType}
use Rattle.c_rules.specs.declared.meaning.Meaning.{Meaning}
use Rattle.c_rules.specs.declared.meaning.Meaning.TheVariants as meanings
use Rattle.c_rules.specs.Checked.{IsTyped}
use Rattle.c_rules.specs.Declarations.{declarator, parameters}
use Rattle.c_rules.specs.Kinds.{starred}
use Rattle.c_rules.specs.Programs.{function_tree}
use Rattle.c_rules.specs.Scopes.{Scope, open_scope, declare}
use Rattle.c_rules.specs.Statements.{LocalTree, typed_body}
use Rattle.c_rules.specs.Typing.{spelled}
use Rattle.c_rules.specs.Units.{TypedFunction, File, Starts, starts, static_list, may_declare, with_declared, declared_as, is_twice, file_item, file_items}
use Rattle.c_rules.specs.Units.{with_parameters, parameter_locals, with_body, is_defined, behind_name, function_as, external, externals, empty_file}
use Rattle.c_rules.specs.Units.{typed_unit}
use Rattle.c_rules.proofs.Formed.Context.{Gives, is, broken, behind, unless, of_is}
use Rattle.c_rules.proofs.Formed.FileSoFar.{Stands, IsFileSoFar, so_far_at_start, declared_or_old}
use Rattle.c_rules.proofs.Formed.FunctionsSoFar.{typed_file_function}
use Rattle.c_rules.proofs.Formed.GivesLemmas.{anything, together}
use Rattle.c_rules.proofs.Formed.ItemsSoFar.{typed_items}
use Rattle.c_rules.proofs.Formed.OperandKinds.{starred_is_kind}
use Rattle.c_rules.proofs.Formed.ParametersAsLocals.{typed_parameters, length_locals}
use Rattle.c_tree.specs.Declarations.{DeclaredOnce, DeclaredInOrder}
use Rattle.c_tree.specs.Fills.{FilledOnce, FilledWhereDeclared, FilledBeforeUse, FilledAsListed, FilledIfListed}
use Rattle.c_syntax.specs.Values.{ExternalHasValues, UnitHasValues}
use Rattle.c_types_proof.proofs.Frames.{IsMadeWhole, in_order, declared_once, once, where_declared, before_use, filled_if_listed, filled_by_lists}
use Rattle.c_types_proof.proofs.Grown.{AreFilled, no_object, without_fill}
use Rattle.c_types_proof.proofs.Scopes.{known_parameters}
use Rattle.c_types_proof.proofs.Statements.{body_made}

-- the names of file scope stand for objects and functions of the file
abbrev HasNames : File → Type 0
HasNames file = (name : List ℕ) (m : Meaning) → file.scope.meaning name ≡ Some m → Stands file.statics m

-- behind the name of a function, and behind an external
module _ (file : File) (name : List ℕ) (type : FunctionType) (result : IsKind type.result) (types : All IsScalarType type.parameters)
    (stand : HasNames file) where
  new_or_old : (other : List ℕ) (m : Meaning) → (meanings.Function type ≡ m) ⊎ (file.scope.meaning other ≡ Some m) → Stands file.statics m
  new_or_old other m (inl new) = subst (Stands file.statics) new (result, types)
  new_or_old other m (inr old) = stand other m old

  named_either : (b : Bool) (other : List ℕ) (m : Meaning)
      → (if b then declare file.scope name (meanings.Function type) else file.scope).meaning other ≡ Some m
      → Stands file.statics m
  named_either true other m there = new_or_old other m (declared_or_old file.scope name (meanings.Function type) other m there)
  named_either false other m there = stand other m there

  named_function : HasNames (behind_name file name type)
  named_function other m there = named_either (may_declare file.scope name (declares.Function type) && is_none (file.scope.meaning name)) other m there

external_known : (x : ExternalTree) (file : File) (rest : UnitTree) → IsFileSoFar (x ∷ rest) file → Gives (IsFileSoFar rest) (external file x)
external_known (Defined f) file rest known = typed_file_function f file rest known
external_known (tree.Declared d) file rest known =
    behind (spelled d.specs) _ (anything _) λ b base.
    typed_items rest file b d.items (record {
      names = known.names;
      statics = known.statics;
      functions = known.functions;
      bodies = known.bodies;
      names_differ = known.names_differ;
    })

module _ (Given : Type 0) where
  abbrev AreWhole : File → Type 0
  AreWhole file = All (IsMadeWhole Given) file.functions

  -- objects of file scope are no functions
  declared_whole : (file : File) (s : Scope) (d : Declared) (item : ItemTree) (i : Starts) → AreWhole file → Gives AreWhole (declared_as file s d item i)
  declared_whole file s declares.Untyped item i whole = broken _ _
  declared_whole file s (declares.Function type) item i whole = unless (is_some item.initial) _ _ _ λ none. is _ whole
  declared_whole file s (declares.Object type) item i whole = behind (static_list type item.at i) _ (anything _) λ list started. is _ whole

  item_whole : (file : File) (b : Base) (item : ItemTree) → AreWhole file → Gives AreWhole (file_item file b item)
  item_whole file b item whole =
      behind (declarator file.scope b item.form item.stars item.initial) _ (anything _) λ d type.
      behind (starts (with_declared file.scope item.name (length file.statics) d) item.initial) _ (anything _) λ i started.
      unless (not (may_declare file.scope item.name d) || is_twice file item) _ _ _ λ may.
      declared_whole file (with_declared file.scope item.name (length file.statics) d) d item i whole

  items_whole : (file : File) (b : Base) (items : List ItemTree) → AreWhole file → Gives AreWhole (file_items file b items)
  items_whole file b [] whole = is _ whole
  items_whole file b (item ∷ items) whole = behind (file_item file b item) _ (item_whole file b item whole) λ g more. items_whole g b items more

  -- parameters are filled nowhere
  parameters_bare : (n : ℕ) (ps : List ParameterTree) (kinds : List ScalarType) → AreFilled Given n (parameter_locals ps kinds) []
  parameters_bare n [] kinds = no_object
  parameters_bare n (p ∷ ps) [] = no_object
  parameters_bare n (p ∷ ps) (kind ∷ kinds) = without_fill refl (parameters_bare _ ps kinds)

  -- a function with its body
  module _ (f : FunctionSyntax) (has : Given → ExternalHasValues (Defined f)) where
    body_whole : (file : File) (result : Kind) (kinds : List ScalarType) → All IsScalarType kinds → length kinds ≡ length f.parameters.list
        → HasNames file → AreWhole file
        → Gives AreWhole (with_body file f result kinds)
    body_whole file result kinds types many stand whole =
        let s : Scope = with_parameters (open_scope file.scope) 0 f.parameters.list kinds in
        let ls : List LocalTree = parameter_locals f.parameters.list kinds in
        behind (typed_body result s ls f.declarations f.statements) _
        (body_made Given result s ls f.declarations f.statements has (known_parameters file.scope file.statics stand f.parameters.list kinds types)) λ r made.
        is _ (All-push (IsMadeWhole Given) file.functions
        (record { name = f.name; result = result; parameters = length kinds; locals = r.locals; body = r.tree }) whole
        (record {
          first = ls;
          many = length_locals f.parameters.list kinds many;
          bare = λ n. parameters_bare n f.parameters.list kinds;
          adds = made.adds;
          own = made.own [];
          before_use = made.first;
        }))

    function_whole : (file : File) (type : FunctionType) → IsKind type.result → All IsScalarType type.parameters
        → length type.parameters ≡ length f.parameters.list
        → HasNames file → AreWhole file → Gives AreWhole (function_as file f type)
    function_whole file type result types many stand whole =
        behind (with_body (behind_name file f.name type) f type.result type.parameters) _
        (body_whole (behind_name file f.name type) type.result type.parameters types many
        (named_function file f.name type result types stand) whole) λ g more.
        unless (not (may_declare file.scope f.name (declares.Function type)) || is_defined file f.name) _ _ _ λ new. is _ more

  external_whole : (file : File) (x : ExternalTree) → (Given → ExternalHasValues x) → HasNames file → AreWhole file → Gives AreWhole (external file x)
  external_whole file (Defined f) has stand whole =
      behind (spelled f.specs) _ (anything _) λ b base.
      behind (parameters (open_scope file.scope) Needed f.parameters.list) _
      (typed_parameters (open_scope file.scope) Needed f.parameters.list) λ kinds types.
      function_whole f has file (record { result = starred b f.stars; parameters = kinds }) (starred_is_kind b f.stars) types.0 types.1 stand whole
  external_whole file (tree.Declared d) has stand whole = behind (spelled d.specs) _ (anything _) λ b base. items_whole file b d.items whole

  externals_whole : (file : File) (unit : UnitTree) → (Given → UnitHasValues unit) → IsFileSoFar unit file → AreWhole file
      → Gives AreWhole (externals file unit)
  externals_whole file [] has known whole = is _ whole
  externals_whole file (x ∷ unit) has known whole =
      behind (external file x) _
      (together (external file x) (external_whole file x (λ given. (has given).0) known.names whole) (external_known x file unit known)) λ g more.
      externals_whole g unit (λ given. (has given).1) more.1 more.0

  -- what is so of each function that is made so
  all_functions : (P : FunctionTree → Type 0) → ((f : TypedFunction) → IsMadeWhole Given f → P (function_tree f)) → (unit : UnitTree) (program : ProgramTree)
      → (Given → UnitHasValues unit) → IsTyped unit program → All P program.functions
  all_functions P each unit program has typed =
      let whole : AreWhole typed.file =
      of_is (typed_unit unit) typed.file (externals_whole (empty_file unit) unit has (so_far_at_start unit) (All-nil (IsMadeWhole Given))) typed.typed in
      subst (λ p. All P p.functions) (sym typed.tree)
      (All-map P function_tree typed.file.functions (λ k d below. each (get_or typed.file.functions k d) (whole k d below)))

-- where nothing is given
none_given : (unit : UnitTree) → ⊥ → UnitHasValues unit
none_given unit given = absurd given

pub all_declared : (unit : UnitTree) (program : ProgramTree) → IsTyped unit program → All DeclaredOnce program.functions
all_declared unit program typed = all_functions ⊥ DeclaredOnce (declared_once ⊥) unit program (none_given unit) typed

pub all_ordered : (unit : UnitTree) (program : ProgramTree) → IsTyped unit program → All DeclaredInOrder program.functions
all_ordered unit program typed = all_functions ⊥ DeclaredInOrder (in_order ⊥) unit program (none_given unit) typed

pub all_filled : (unit : UnitTree) (program : ProgramTree) → IsTyped unit program → All FilledOnce program.functions
all_filled unit program typed = all_functions ⊥ FilledOnce (once ⊥) unit program (none_given unit) typed

pub all_placed : (unit : UnitTree) (program : ProgramTree) → IsTyped unit program → All FilledWhereDeclared program.functions
all_placed unit program typed = all_functions ⊥ FilledWhereDeclared (where_declared ⊥) unit program (none_given unit) typed

pub all_before_use : (unit : UnitTree) (program : ProgramTree) → IsTyped unit program → All FilledBeforeUse program.functions
all_before_use unit program typed = all_functions ⊥ FilledBeforeUse (before_use ⊥) unit program (none_given unit) typed

pub all_listed : (unit : UnitTree) (program : ProgramTree) → IsTyped unit program → All FilledIfListed program.functions
all_listed unit program typed = all_functions ⊥ FilledIfListed (filled_if_listed ⊥) unit program (none_given unit) typed

pub all_exact : (unit : UnitTree) (program : ProgramTree) → UnitHasValues unit → IsTyped unit program → All FilledAsListed program.functions
all_exact unit program has typed =
    all_functions (UnitHasValues unit) FilledAsListed (λ f made. filled_by_lists (UnitHasValues unit) f made has) unit program (λ given. given) typed
