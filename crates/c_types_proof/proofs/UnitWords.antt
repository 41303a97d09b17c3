-- The typed program of a source that says words is of words.
use Rattle.std.proofs.Common.{◌≡◌, ◌||◌, ◌&&◌, not, ℕ, suc, List, [], ◌∷◌, map, length, slice_get, is_some, is_none, Option, Some, None}
use Rattle.std.proofs.Common.{refl, sym, subst, get_or, arith}
use Rattle.std.specs.Prelude.{⊤, All, unwrap_or}
use Rattle.std.specs.List.{AllByRecursion}
use Rattle.std.proofs.lemmas.List.Elements.{All-nil, All-push, All-set, All-map, All-head, All-tail}
use Rattle.c_syntax.specs.SyntaxTree as tree
use Rattle.c_syntax.specs.SyntaxTree.{ParameterTree, ItemTree, InitialTree, FunctionSyntax, ExternalTree, Defined, UnitTree}
use Rattle.c_tree.specs.declared.program.Base.{Base}
use Rattle.c_tree.specs.declared.program.Initial.{Initial}
use Rattle.c_tree.specs.declared.program.ScalarType.{ScalarType}
use Rattle.c_tree.specs.declared.program.VarRef.{VarRef}
use Rattle.c_tree.specs.declared.program.VarRef.TheVariants as refs
use Rattle.c_tree.specs.TypedTree.{Kind, ProgramTree}
use Rattle.c_rules.specs.declared.local.Naming.TheVariants.{Needed}
use Rattle.c_rules.specs.declared.meaning.Declared.{Declared}
use Rattle.c_rules.specs.declared.meaning.Declared.TheVariants as declares
use Rattle.c_rules.specs.declared.meaning.FunctionType.{FunctionType}
use Rattle.c_rules.specs.declared.meaning.Meaning.TheVariants as meanings
use Rattle.c_rules.specs.declared.meaning.ObjectType.{ObjectType}
use Rattle.c_rules.specs.declared.meaning.ObjectType.TheVariants.{Single, Array}
use Rattle.c_rules.specs.Checked.{IsTyped}
use Rattle.c_rules.specs.Declarations.{with_single, declarator, parameters, entry, entries, cell, array_list}
use Rattle.c_rules.specs.Kinds.{starred}
use Rattle.c_rules.specs.Programs.{objects_in, frame, function_tree, object_tree}
use Rattle.c_rules.specs.Scopes.{Scope, open_scope, declare}
use Rattle.c_rules.specs.Statements.{LocalTree, typed_body}
use Rattle.c_rules.specs.Typing.{spelled}
use Rattle.c_rules.specs.Units.{StaticTree, TypedFunction, File, Starts, NoStart, One, Braced, starts, static_list, static_number, with_list, set_list}
use Rattle.c_rules.specs.Units.{with_static, may_declare, meaning_of, with_meaning, with_declared, declared_as, is_twice, file_item, file_items}
use Rattle.c_rules.specs.Units.{with_parameters, parameter_locals, with_body, is_defined, behind_name}
use Rattle.c_rules.specs.Units.{function_as, external, externals, empty_file, typed_unit}
use Rattle.c_rules.proofs.Formed.Context.{Gives, is, broken, behind, unless, of_is}
use Rattle.c_rules.proofs.Formed.DeclarationTypes.{IsDeclaredType, declared_type}
use Rattle.c_rules.proofs.Formed.GivesLemmas.{anything}
use Rattle.std.proofs.lemmas.Option.{none-some}
use Rattle.c_rules.proofs.Formed.FileSoFar.{at_place}
use Rattle.c_tree.specs.TypedOfWords.{StartsWithWord, StartsWithWords, StatementUsesWords, FunctionHasWords, ProgramHasWords}
use Rattle.c_syntax.specs.Characters.{InitialSaysWords, ItemsSayWords, ExternalSaysWords, UnitSaysWords}
use Rattle.c_types_proof.proofs.InitialWords.{EntryHasWord, entry_words, entries_words, cell_words, list_words}
use Rattle.c_types_proof.proofs.OpenedWords.{either_short, declared_short, LocalHasWords}
use Rattle.c_types_proof.proofs.RenumberedWords.{statement_kept}
use Rattle.c_types_proof.proofs.StatementWords.{body_words}
use Rattle.c_types_proof.proofs.TypedWords.{KnowsShort}

-- objects of file scope
abbrev StaticHasWords : StaticTree → Type 0
StaticHasWords o = AllByRecursion StartsWithWord (unwrap_or o.initial [])

abbrev ListHasWords : Option (List Initial) → Type 0
ListHasWords list = AllByRecursion StartsWithWord (unwrap_or list [])

abbrev StartsHaveWords : Starts → Type 0
StartsHaveWords NoStart = ⊤
StartsHaveWords (One x) = EntryHasWord x
StartsHaveWords (Braced xs) = AllByRecursion EntryHasWord xs

starts_words : (s : Scope) (i : Option InitialTree) → KnowsShort s → InitialSaysWords i → Gives StartsHaveWords (starts s i)
starts_words s None short says = is NoStart tt
starts_words s (Some (tree.One e)) short says = behind (entry s e) _ (entry_words s short e says) λ x has. is (One x) has
starts_words s (Some (tree.Braced es at)) short says = behind (entries s es) _ (entries_words s short es says) λ xs has. is (Braced xs) has

static_words : (type : ObjectType) (at : ℕ) (i : Starts) → StartsHaveWords i → Gives ListHasWords (static_list type at i)
static_words type at NoStart has = is None tt
static_words (Single kind) at (One x) has = behind (cell kind at x) _ (cell_words kind at x has) λ i starts. is (Some (i ∷ [])) (starts, tt)
static_words (Array kind n) at (One x) has = broken _ at
static_words (Single kind) at (Braced xs) has = broken _ at
static_words (Array kind n) at (Braced xs) has = behind (array_list kind n at xs) _ (list_words kind at n xs has) λ list starts. is (Some list) starts

with_list_words : (o : StaticTree) (list : Option (List Initial)) → StaticHasWords o → ListHasWords list → StaticHasWords (with_list o list)
with_list_words o None has more = has
with_list_words o (Some list) has more = more

with_static_words : (statics : List StaticTree) (n : Option ℕ) (name : List ℕ) (type : ObjectType) (list : Option (List Initial))
    → All StaticHasWords statics → ListHasWords list → All StaticHasWords (with_static statics n name type list)
with_static_words statics None name type list all has = All-push StaticHasWords statics (record { name = name; object_type = type; initial = list }) all has
with_static_words statics (Some n) name type list all has = by (slice_get statics n) refl
  where
    by : (o : Option StaticTree) → slice_get statics n ≡ o → All StaticHasWords (set_list statics n o list)
    by None there = all
    by (Some o) there = All-set StaticHasWords statics n (with_list o list) (with_list_words o list (at_place StaticHasWords statics n o all there) has) all

-- functions
record TypedHasWords (f : TypedFunction) : Type 0 where
  locals : AllByRecursion LocalHasWords f.locals
  body : StatementUsesWords f.body

-- a file so far
record FileHasWords (file : File) : Type 0 where
  short : KnowsShort file.scope
  statics : All StaticHasWords file.statics
  functions : All TypedHasWords file.functions

-- scopes
with_declared_short : (s : Scope) (name : List ℕ) (n : ℕ) (d : Declared) → IsDeclaredType d → KnowsShort s → KnowsShort (with_declared s name n d)
with_declared_short s name n d type short =
    either_short (may_declare s name d && is_none (s.meaning name)) (with_meaning s name (meaning_of n d)) s (inner d type) short
  where
    inner : (d : Declared) → IsDeclaredType d → KnowsShort (with_meaning s name (meaning_of n d))
    inner declares.Untyped type = short
    inner (declares.Object o) type = declared_short s name (meanings.Object (refs.Static n) o) type.most short
    inner (declares.Function f) type = declared_short s name (meanings.Function f) tt short

function_short : (s : Scope) (name : List ℕ) (n : ℕ) (f : FunctionType) → KnowsShort s → KnowsShort (with_declared s name n (declares.Function f))
function_short s name n f short =
    either_short (may_declare s name (declares.Function f) && is_none (s.meaning name)) (declare s name (meanings.Function f)) s
    (declared_short s name (meanings.Function f) tt short) short

single_short : (s : Scope) (name : Option (List ℕ)) (r : VarRef) (kind : ScalarType) → KnowsShort s → KnowsShort (with_single s name r kind)
single_short s None r kind short = short
single_short s (Some name) r kind short = declared_short s name (meanings.Object r (Single kind)) (omega arith) short

parameters_short : (s : Scope) (n : ℕ) (ps : List ParameterTree) (kinds : List ScalarType) → KnowsShort s → KnowsShort (with_parameters s n ps kinds)
parameters_short s n [] kinds short = short
parameters_short s n (p ∷ ps) [] short = short
parameters_short s n (p ∷ ps) (kind ∷ kinds) short =
    parameters_short (with_single s p.name (refs.Local n) kind) (suc n) ps kinds (single_short s p.name (refs.Local n) kind short)

parameters_bare : (ps : List ParameterTree) (kinds : List ScalarType) → AllByRecursion LocalHasWords (parameter_locals ps kinds)
parameters_bare [] kinds = tt
parameters_bare (p ∷ ps) [] = tt
parameters_bare (p ∷ ps) (kind ∷ kinds) = (tt, parameters_bare ps kinds)

module _ (file : File) (has : FileHasWords file) where
  -- items of file scope
  as_words : (s : Scope) (d : Declared) (item : ItemTree) (i : Starts) → KnowsShort s → StartsHaveWords i → Gives FileHasWords (declared_as file s d item i)
  as_words s declares.Untyped item i short words = broken _ item.at
  as_words s (declares.Function type) item i short words = unless (is_some item.initial) _ _ _ λ none.
      is _ (record { short = short; statics = has.statics; functions = has.functions })
  as_words s (declares.Object type) item i short words =
      behind (static_list type item.at i) _ (static_words type item.at i words) λ list starts.
      is _ (record {
        short = short;
        statics = with_static_words file.statics (static_number (file.scope.meaning item.name)) item.name type list has.statics starts;
        functions = has.functions;
      })

  item_words : (b : Base) (item : ItemTree) → InitialSaysWords item.initial → Gives FileHasWords (file_item file b item)
  item_words b item says =
      behind (declarator file.scope b item.form item.stars item.initial) _ (declared_type file.scope b item.form item.stars item.initial) λ d type.
      let s : Scope = with_declared file.scope item.name (length file.statics) d in
      let short : KnowsShort s = with_declared_short file.scope item.name (length file.statics) d type has.short in
      behind (starts s item.initial) _ (starts_words s item.initial short says) λ i words.
      unless (not (may_declare file.scope item.name d) || is_twice file item) _ _ _ λ may. as_words s d item i short words

  -- a function with its body
  with_body_words : (f : FunctionSyntax) (result : Kind) (kinds : List ScalarType) → ExternalSaysWords (Defined f)
      → Gives FileHasWords (with_body file f result kinds)
  with_body_words f result kinds says =
      let s : Scope = with_parameters (open_scope file.scope) 0 f.parameters.list kinds in
      let ls : List LocalTree = parameter_locals f.parameters.list kinds in
      behind (typed_body result s ls f.declarations f.statements) _
      (body_words result s ls f.declarations f.statements
      (parameters_short (open_scope file.scope) 0 f.parameters.list kinds has.short) (parameters_bare f.parameters.list kinds) says) λ r inner.
      is _ (record {
        short = has.short;
        statics = has.statics;
        functions = All-push TypedHasWords file.functions
            (record { name = f.name; result = result; parameters = length kinds; locals = r.locals; body = r.tree }) has.functions
            (record { locals = inner.1; body = inner.0 });
      })

function_words : (file : File) (f : FunctionSyntax) (type : FunctionType) → FileHasWords file → ExternalSaysWords (Defined f)
    → Gives FileHasWords (function_as file f type)
function_words file f type has says =
    behind (with_body (behind_name file f.name type) f type.result type.parameters) _
    (with_body_words (behind_name file f.name type)
    (record { short = function_short file.scope f.name 0 type has.short; statics = has.statics; functions = has.functions })
    f type.result type.parameters says) λ g more.
    unless (not (may_declare file.scope f.name (declares.Function type)) || is_defined file f.name) _ _ _ λ new. is _ more

items_words : (file : File) (b : Base) (items : List ItemTree) → FileHasWords file → ItemsSayWords items → Gives FileHasWords (file_items file b items)
items_words file b [] has says = is _ has
items_words file b (item ∷ items) has says = behind (file_item file b item) _ (item_words file has b item says.0) λ g more. items_words g b items more says.1

external_words : (file : File) (x : ExternalTree) → FileHasWords file → ExternalSaysWords x → Gives FileHasWords (external file x)
external_words file (Defined f) has says =
    behind (spelled f.specs) _ (anything _) λ b base.
    behind (parameters (open_scope file.scope) Needed f.parameters.list) _ (anything _) λ kinds types.
    function_words file f (record { result = starred b f.stars; parameters = kinds }) has says
external_words file (tree.Declared d) has says = behind (spelled d.specs) _ (anything _) λ b base. items_words file b d.items has says

externals_words : (file : File) (unit : UnitTree) → FileHasWords file → UnitSaysWords unit → Gives FileHasWords (externals file unit)
externals_words file [] has says = is _ has
externals_words file (x ∷ unit) has says = behind (external file x) _ (external_words file x has says.0) λ g more. externals_words g unit more says.1

empty_words : (unit : UnitTree) → FileHasWords (empty_file unit)
empty_words unit = record { short = λ name m there. absurd (none-some m there); statics = All-nil StaticHasWords; functions = All-nil TypedHasWords }

-- programs
statics_start : (statics : List StaticTree) → All StaticHasWords statics → StartsWithWords (map object_tree statics)
statics_start [] all = tt
statics_start (o ∷ statics) all = (All-head StaticHasWords o statics all, statics_start statics (All-tail StaticHasWords o statics all))

objects_start : (rs : List VarRef) (ls : List LocalTree) → AllByRecursion LocalHasWords ls → StartsWithWords (objects_in rs ls)
objects_start [] ls all = tt
objects_start (refs.Scalar n ∷ rs) [] all = tt
objects_start (refs.Local n ∷ rs) [] all = tt
objects_start (refs.Static n ∷ rs) [] all = tt
objects_start (refs.Scalar n ∷ rs) (l ∷ ls) all = objects_start rs ls all.1
objects_start (refs.Local n ∷ rs) (l ∷ ls) all = (all.0, objects_start rs ls all.1)
objects_start (refs.Static n ∷ rs) (l ∷ ls) all = objects_start rs ls all.1

function_has : (f : TypedFunction) → TypedHasWords f → FunctionHasWords (function_tree f)
function_has f has = record { locals = objects_start (frame f) f.locals has.locals; body = statement_kept (frame f) f.body has.body }

pub program_words : (unit : UnitTree) (program : ProgramTree) → UnitSaysWords unit → IsTyped unit program → ProgramHasWords program
program_words unit program says typed =
    let has : FileHasWords typed.file =
    of_is (typed_unit unit) typed.file (externals_words (empty_file unit) unit (empty_words unit) says) typed.typed in
    subst ProgramHasWords (sym typed.tree) (record {
      statics = statics_start typed.file.statics has.statics;
      functions = All-map FunctionHasWords function_tree typed.file.functions
          (λ k d below. function_has (get_or typed.file.functions k d) (has.functions k d below));
    })
