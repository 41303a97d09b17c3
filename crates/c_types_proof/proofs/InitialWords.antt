-- Static initialisers of words, and what objects start with.
use Rattle.std.proofs.Common.{◌<◌, nat_lt, if◌then◌else◌, ℕ, Bool, true, false, List, [], ◌∷◌, length, Option, Some, None}
use Rattle.std.specs.Prelude.{IfSome}
use Rattle.std.specs.List.{AllByRecursion}
use Rattle.c_syntax.specs.declared.operator.BinaryOp.TheVariants as op
use Rattle.c_syntax.specs.declared.syntax.PrefixOp.TheVariants as prefix
use Rattle.c_syntax.specs.SyntaxTree as syntax
use Rattle.c_syntax.specs.SyntaxTree.{Expression}
use Rattle.c_tree.specs.declared.program.ScalarType.{ScalarType}
use Rattle.c_tree.specs.declared.program.VarRef.TheVariants as refs
use Rattle.c_tree.specs.declared.program.Initial.{Initial}
use Rattle.c_tree.specs.declared.program.Initial.TheVariants as initial
use Rattle.c_tree.specs.TypedTree.{Kind, Expr}
use Rattle.c_tree.specs.Eval.{kind_of, points}
use Rattle.c_rules.specs.declared.fault.Rule.TheVariants.{Mismatch, NotConstant}
use Rattle.c_rules.specs.declared.meaning.Meaning.{Meaning}
use Rattle.c_rules.specs.declared.meaning.Meaning.TheVariants as meanings
use Rattle.c_rules.specs.declared.meaning.ObjectType.TheVariants.{Single, Array}
use Rattle.c_rules.specs.Constants.{constant}
use Rattle.c_rules.specs.Declarations.{static_cell, static_scalar, index_in, named_cell, address_of, static_address, initial_word, or_address, static_value}
use Rattle.c_rules.specs.Declarations.{Entry, entry, entries, cell_value, cell, cells, array_list}
use Rattle.c_rules.specs.Operands.{given}
use Rattle.c_rules.specs.Scopes.{Scope}
use Rattle.c_rules.specs.Typing.{place, constant_typing}
use Rattle.c_rules.proofs.Formed.Context.{Gives, is, behind, unless}
use Rattle.c_rules.proofs.Formed.GivesLemmas.{anything, if_there}
use Rattle.c_tree.specs.TypedOfWords.{StartsWithWord}
use Rattle.c_syntax.specs.Characters.{SaysWords}
use Rattle.c_types_proof.proofs.ConstantWords.{IsWord, constant_few}
use Rattle.c_types_proof.proofs.TypedWords.{KnowsShort, constant_words}

abbrev StartsIfThere : Option Initial → Type 0
StartsIfThere o = IfSome o StartsWithWord

-- an address is no word
cell_starts : (m : Option Meaning) (i : Option ℕ) → StartsIfThere (static_cell m i)
cell_starts (Some (meanings.Object (refs.Static v) (Array kind n))) (Some i) = by (nat_lt n i)
  where
    by : (b : Bool) → StartsIfThere (if b then None else Some (initial.Address v i))
    by true = tt
    by false = tt
cell_starts m i = tt

scalar_starts : (m : Option Meaning) → StartsIfThere (static_scalar m)
scalar_starts (Some (meanings.Object (refs.Static v) (Single kind))) = tt
scalar_starts m = tt

module _ (s : Scope) where
  named_starts : (e : Expression) (i : Option ℕ) → StartsIfThere (named_cell s e i)
  named_starts (syntax.Node (syntax.Name name) at) i = cell_starts (s.meaning name) i
  named_starts e i = tt

  taken_starts : (e : Expression) (x : Expr) → StartsIfThere (address_of s e x)
  taken_starts (syntax.Node (syntax.Name name) at) x = scalar_starts (s.meaning name)
  taken_starts (syntax.Node (syntax.Index a c) at) x = named_starts a (index_in c x)
  taken_starts e x = tt

  address_starts : (e : Expression) (x : Expr) → StartsIfThere (static_address s e x)
  address_starts (syntax.Node (syntax.Name name) at) x = cell_starts (s.meaning name) (Some 0)
  address_starts (syntax.Node (syntax.Binary op.Add a c) at) x = named_starts a (index_in c x)
  address_starts (syntax.Node (syntax.Prefix prefix.Address a) at) x = taken_starts a x
  address_starts e x = tt

word_starts : (kind : Kind) (w : ℕ) → w < 65536 → StartsWithWord (initial_word kind w)
word_starts kind w few = by (points kind)
  where
    by : (b : Bool) → StartsWithWord (if b then initial.Null else initial.Word w)
    by true = tt
    by false = few

either_starts : (w : Option ℕ) (kind : Kind) (a : Option Initial) → IsWord w → StartsIfThere a → StartsIfThere (or_address w kind a)
either_starts None kind a few starts = starts
either_starts (Some w) kind a few starts = word_starts kind w few

-- an entry of words
abbrev pub EntryHasWord : Entry → Type 0
EntryHasWord x = StartsWithWord x.initial

module _ (s : Scope) (short : KnowsShort s) where
  pub entry_words : (e : Expression) → SaysWords e → Gives EntryHasWord (entry s e)
  entry_words e says =
      behind (constant_typing s e) _ (constant_words s short e says) λ x uses.
      behind _ _ (if_there NotConstant (place e) (static_value s e x)
      (either_starts (constant e x) (kind_of x) (static_address s e x) (constant_few e x uses) (address_starts s e x))) λ i starts. is _ starts

  pub entries_words : (es : List Expression) → AllByRecursion SaysWords es → Gives (AllByRecursion EntryHasWord) (entries s es)
  entries_words [] says = is _ tt
  entries_words (e ∷ es) says =
      behind (entry s e) _ (entry_words e says.0) λ x first. behind (entries s es) _ (entries_words es says.1) λ xs others. is _ (first, others)

-- cells
value_starts : (kind : ScalarType) (i : Initial) → StartsWithWord i → StartsWithWord (cell_value kind i)
value_starts kind (initial.Word w) few = word_starts (Some kind) w few
value_starts kind (initial.Address v n) few = tt
value_starts kind initial.Null few = tt

module _ (kind : ScalarType) (at : ℕ) where
  pub cell_words : (x : Entry) → EntryHasWord x → Gives StartsWithWord (cell kind at x)
  cell_words x has = behind (given kind at x.operand) _ (anything _) λ v value. is _ (value_starts kind x.initial has)

  cells_words : (xs : List Entry) → AllByRecursion EntryHasWord xs → Gives (AllByRecursion StartsWithWord) (cells kind at xs)
  cells_words [] has = is _ tt
  cells_words (x ∷ xs) has =
      behind (cell kind at x) _ (cell_words x has.0) λ i first. behind (cells kind at xs) _ (cells_words xs has.1) λ others rest. is _ (first, rest)

  pub list_words : (n : ℕ) (xs : List Entry) → AllByRecursion EntryHasWord xs → Gives (AllByRecursion StartsWithWord) (array_list kind n at xs)
  list_words n xs has = unless (nat_lt n (length xs)) Mismatch at _ λ within. cells_words xs has
