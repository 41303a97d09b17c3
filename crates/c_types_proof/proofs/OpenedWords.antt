-- What the declarations of a block that say words open: objects that start with words, and statements of words.
use Rattle.std.proofs.Common.{◌≡◌, ◌⊎◌, inl, inr, ℕ, Bool, true, false, if◌then◌else◌, List, [], ◌∷◌, ◌++◌, length, is_some, Option, Some, None, subst}
use Rattle.std.specs.Prelude.{⊤}
use Rattle.std.specs.List.{AllByRecursion}
use Rattle.c_syntax.specs.SyntaxTree as tree
use Rattle.c_syntax.specs.SyntaxTree.{Expression, ItemTree, InitialTree, DeclarationTree}
use Rattle.c_tree.specs.declared.program.Base.{Base}
use Rattle.c_tree.specs.declared.program.VarRef.{VarRef}
use Rattle.c_tree.specs.declared.program.VarRef.TheVariants as refs
use Rattle.c_rules.specs.declared.meaning.Declared.{Declared}
use Rattle.c_rules.specs.declared.meaning.Declared.TheVariants as declares
use Rattle.c_rules.specs.declared.meaning.Meaning.{Meaning}
use Rattle.c_rules.specs.declared.meaning.Meaning.TheVariants as meanings
use Rattle.c_rules.specs.declared.meaning.ObjectType.{ObjectType}
use Rattle.c_rules.specs.declared.meaning.ObjectType.TheVariants.{Single, Array}
use Rattle.c_rules.specs.Declarations.{declarator, entries, array_list}
use Rattle.c_rules.specs.Operands.{given}
use Rattle.c_rules.specs.Scopes.{Scope, declare, is_taken}
use Rattle.c_rules.specs.Statements.{LocalTree, Initialiser, Absent, Value, Listed, Misbraced, all_typed, initialiser, is_array, ObjectStart, started, Opened}
use Rattle.c_rules.specs.Statements.{with_named_object, placed, declared_as, block_item, block_items, declarations}
use Rattle.c_rules.specs.Typing.{plain, typing}
use Rattle.c_rules.proofs.Formed.Context.{Gives, is, broken, behind, unless}
use Rattle.c_rules.proofs.Formed.DeclarationTypes.{IsDeclaredType, declared_type}
use Rattle.c_rules.proofs.Formed.FileSoFar.{declared_or_old}
use Rattle.c_rules.proofs.Formed.GivesLemmas.{anything}
use Rattle.c_tree.specs.TypedOfWords.{StartsWithWord, UsesWords, StatementUsesWords}
use Rattle.c_syntax.specs.Characters.{InitialSaysWords, ItemsSayWords, DeclarationsSayWords}
use Rattle.c_types_proof.proofs.InitialWords.{EntryHasWord, entries_words, list_words}
use Rattle.c_types_proof.proofs.OperandWords.{given_words}
use Rattle.c_types_proof.proofs.TypedWords.{IsShort, KnowsShort, typed_words}

pub all_joined : {A : Type 0} (P : A → Type 0) (xs ys : List A) → AllByRecursion P xs → AllByRecursion P ys → AllByRecursion P (xs ++ ys)
all_joined P [] ys first second = second
all_joined P (x ∷ xs) ys first second = (first.0, all_joined P xs ys first.1 second)

-- scopes with one more name
pub either_short : (b : Bool) (s t : Scope) → KnowsShort s → KnowsShort t → KnowsShort (if b then s else t)
either_short true s t first second = first
either_short false s t first second = second

pub declared_short : (s : Scope) (name : List ℕ) (m : Meaning) → IsShort m → KnowsShort s → KnowsShort (declare s name m)
declared_short s name m few short other x there = by (declared_or_old s name m other x there)
  where
    by : (m ≡ x) ⊎ (s.meaning other ≡ Some x) → IsShort x
    by (inl same) = subst IsShort same few
    by (inr old) = short other x old

named_short : (s : Scope) (name : List ℕ) (r : VarRef) (d : Declared) → IsDeclaredType d → KnowsShort s → KnowsShort (with_named_object s name r d)
named_short s name r declares.Untyped type short = short
named_short s name r (declares.Function f) type short = short
named_short s name r (declares.Object o) type short =
    either_short (is_taken s name) s (declare s name (meanings.Object r o)) short (declared_short s name (meanings.Object r o) type.most short)

-- initialisers
abbrev InitialiserHasWords : Initialiser → Type 0
InitialiserHasWords Absent = ⊤
InitialiserHasWords (Value x) = UsesWords x.value
InitialiserHasWords (Listed es) = AllByRecursion EntryHasWord es
InitialiserHasWords Misbraced = ⊤

module _ (s : Scope) (short : KnowsShort s) where
  braced_words : (es : List Expression) → Gives InitialiserHasWords (all_typed s es)
  braced_words [] = is Misbraced tt
  braced_words (e ∷ es) = behind (typing s e) _ (anything _) λ x value. braced_words es

  initialiser_words : (array : Bool) (i : Option InitialTree) → InitialSaysWords i → Gives InitialiserHasWords (initialiser s array i)
  initialiser_words array None says = is Absent tt
  initialiser_words array (Some (tree.One e)) says = behind (typing s e) _ (typed_words s short e says) λ x uses. is _ uses
  initialiser_words true (Some (tree.Braced es at)) says = behind (entries s es) _ (entries_words s short es says) λ xs has. is (Listed xs) has
  initialiser_words false (Some (tree.Braced es at)) says = braced_words es

-- the start of an object
record StartHasWords (start : ObjectStart) : Type 0 where
  values : AllByRecursion StartsWithWord start.values
  statements : AllByRecursion StatementUsesWords start.statements

start_words : (r : VarRef) (type : ObjectType) (at : ℕ) (i : Initialiser) → InitialiserHasWords i → Gives StartHasWords (started r type at i)
start_words r type at Absent has = is _ (record { values = tt; statements = tt })
start_words r (Single kind) at (Value x) has =
    behind (given kind at x) _ (given_words kind at x has) λ v uses. is _ (record { values = tt; statements = ((tt, uses), tt) })
start_words r (Single kind) at (Listed es) has = broken _ at
start_words r (Single kind) at Misbraced has = broken _ at
start_words r (Array kind n) at (Value x) has = broken _ at
start_words r (Array kind n) at (Listed es) has =
    behind (array_list kind n at es) _ (list_words kind at n es has) λ values starts. is _ (record { values = starts; statements = (tt, tt) })
start_words r (Array kind n) at Misbraced has = broken _ at

-- objects of a function
abbrev pub LocalHasWords : LocalTree → Type 0
LocalHasWords l = AllByRecursion StartsWithWord l.values

-- what declarations have made so far
pub record OpensWords (o : Opened) : Type 0 where
  pub short : KnowsShort o.scope
  pub locals : AllByRecursion LocalHasWords o.locals
  pub statements : AllByRecursion StatementUsesWords o.statements

placed_words : (o : Opened) (s : Scope) (name : List ℕ) (r : VarRef) (type : ObjectType) (start : ObjectStart) → OpensWords o → KnowsShort s
    → StartHasWords start → OpensWords (placed o s name r type start)
placed_words o s name r type start opened short begins = record {
  short = short;
  locals = all_joined LocalHasWords o.locals _ opened.locals (begins.values, tt);
  statements = all_joined StatementUsesWords o.statements start.statements opened.statements begins.statements;
}

module _ (o : Opened) (opened : OpensWords o) where
  as_words : (s : Scope) (r : VarRef) (d : Declared) (item : ItemTree) (i : Initialiser) → KnowsShort s → InitialiserHasWords i
      → Gives OpensWords (declared_as o s r d item i)
  as_words s r declares.Untyped item i short has = broken _ item.at
  as_words s r (declares.Function f) item i short has = unless (is_some item.initial) _ _ _ λ none. broken _ item.at
  as_words s r (declares.Object type) item i short has =
      behind (started r type item.at i) _ (start_words r type item.at i has) λ start begins.
      is _ (placed_words o s item.name r type start opened short begins)

  item_words : (b : Base) (item : ItemTree) → InitialSaysWords item.initial → Gives OpensWords (block_item o b item)
  item_words b item says =
      behind (declarator o.scope b item.form item.stars item.initial) _ (declared_type o.scope b item.form item.stars item.initial) λ d type.
      let r : VarRef = refs.Local (length o.locals) in
      let short : KnowsShort (with_named_object o.scope item.name r d) = named_short o.scope item.name r d type opened.short in
      behind (initialiser (with_named_object o.scope item.name r d) (is_array item.form) item.initial) _
      (initialiser_words (with_named_object o.scope item.name r d) short (is_array item.form) item.initial says) λ i has.
      unless (is_taken o.scope item.name) _ _ _ λ free. as_words (with_named_object o.scope item.name r d) r d item i short has

items_words : (o : Opened) (b : Base) (items : List ItemTree) → OpensWords o → ItemsSayWords items → Gives OpensWords (block_items o b items)
items_words o b [] opened says = is _ opened
items_words o b (item ∷ items) opened says = behind (block_item o b item) _ (item_words o opened b item says.0) λ p more. items_words p b items more says.1

pub declarations_words : (o : Opened) (ds : List DeclarationTree) → OpensWords o → DeclarationsSayWords ds → Gives OpensWords (declarations o ds)
declarations_words o [] opened says = is _ opened
declarations_words o (d ∷ ds) opened says =
    behind (plain d.specs) _ (anything _) λ b base.
    behind (block_items o b d.items) _ (items_words o b d.items opened says.0) λ p more. declarations_words p ds more says.1
