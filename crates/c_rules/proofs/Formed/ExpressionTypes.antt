-- Expressions and initialisers are typed, and a static initialiser agrees with the type of its cell.
use Rattle.std.proofs.Common.{◌≡◌, ◌≤◌, ◌⊎◌, ℕ, suc, nat_lt, Bool, true, false, not, ◌||◌, if◌then◌else◌, List, [], ◌∷◌, length, Some, None, refl, sym, ap, ◌∙◌, subst, true≢false, inl, inr, ltb-false, arith}
use Rattle.std.specs.Prelude.{All}
use Rattle.std.proofs.lemmas.List.Elements.{All-nil, All-cons, All-head, All-tail}
use Rattle.c_tree.specs.declared.program.ScalarType.{ScalarType}
use Rattle.c_tree.specs.declared.program.Initial.{Initial}
use Rattle.c_tree.specs.declared.program.Initial.TheVariants as initial
use Rattle.c_tree.specs.c_syntax.SyntaxTree.{Expression}
use Rattle.c_tree.specs.TypedTree.{Kind}
use Rattle.c_tree.specs.Store.{is_pointer}
use Rattle.c_tree.specs.Eval.{kind_of, points}
use Rattle.c_rules.specs.declared.fault.Rule.TheVariants.{Mismatch, NotConstant}
use Rattle.c_rules.specs.declared.class.Class.{Class}
use Rattle.c_rules.specs.declared.class.Class.TheVariants.{Nothing, Integer, Pointer}
use Rattle.c_rules.specs.Outcome.{Is, ◌>>=◌, breaks}
use Rattle.c_rules.specs.Kinds.{void_pointer, same_kind, is_void_pointer, pointer_to}
use Rattle.c_rules.specs.Operands.{Operand, null_of, converted, given_as, given}
use Rattle.c_rules.specs.Scopes.{Scope}
use Rattle.c_rules.specs.Typing.{place, typing}
use Rattle.c_rules.specs.Declarations.{static_value, Entry, entry, entries, cell_value, cell, cells, array_list}
use Rattle.c_tree.specs.Kinds.{IsScalarType, IsPointer}
use Rattle.c_tree.specs.WellFormed.{Names, IsWellTyped, StartsAt, IsInitial}
use Rattle.c_rules.proofs.Formed.Context.{Gives, Fits, static_in, broken, is, behind, unless}
use Rattle.c_rules.proofs.Formed.GivesLemmas.{always, anything, weaker, together, if_there}
use Rattle.c_rules.proofs.Formed.OperandKinds.{OfClass, of_class, kinds_same, is_no_void_pointer, no_word, to_pointer}
use Rattle.c_rules.proofs.Formed.TypingLemmas.{constant_kept}
use Rattle.c_rules.proofs.Formed.EntryAddresses.{IsCellOf, Starts, known_value}
pub use Rattle.c_rules.proofs.Formed.OperandTypes.{given_value}
pub use Rattle.c_rules.proofs.Formed.TypingLemmas.{typed_expression}

-- a static initialiser: its operand is typed, and what it stands for agrees with the operand's type
pub record IsEntry (names : Names) (y : Entry) : Type 0 where
  pub typed : IsWellTyped names y.operand.value
  pub starts : Starts names y.operand y.initial

pointer_from : (kind : Kind) → points kind ≡ true → IsPointer kind
pointer_from None pointer = absurd (true≢false (sym pointer))
pointer_from (Some kind) pointer = pointer

module _ (names : Names) where
  module _ (s : Scope) (fits : Fits names s) where
    pub typed_entry : (e : Expression) → Gives (IsEntry names) (entry s e)
    typed_entry e =
        behind _ _ (constant_kept s e (together (typing s e) (typed_expression names s fits e) (known_value names s fits e)))
        (λ x known. behind _ _ (if_there NotConstant (place e) (static_value s e x) known.1) (λ i starts. is _ (record { typed = known.0; starts = starts })))

    pub typed_entries : (es : List Expression) → Gives (All (IsEntry names)) (entries s es)
    typed_entries [] = is _ (All-nil (IsEntry names))
    typed_entries (e ∷ es) = behind _ _ (typed_entry e) (λ x first. behind _ _ (typed_entries es) (λ xs rest. is _ (All-cons (IsEntry names) x xs first rest)))

  -- a cell of this type
  module _ (kind : ScalarType) (at : ℕ) where
    abbrev Fills : Initial → Type 0
    Fills i = IsInitial (static_in names) kind i

    word_fills : (w : ℕ) (b : Bool) → is_pointer kind ≡ b → Fills (if b then initial.Null else initial.Word w)
    word_fills w true pointer = pointer
    word_fills w false word = word

    module _ (x : Operand) where
      -- a pointer is given only where one is wanted
      null_fills : (c d : Class) → OfClass c (Some kind) → OfClass d (kind_of x.value) → IsPointer (kind_of x.value)
          → Gives (λ v. is_pointer kind ≡ true) (given_as c d kind at x)
      null_fills Pointer d wanted class pointer = always _ wanted
      null_fills Integer Integer wanted class pointer = no_word (kind_of x.value) class pointer
      null_fills c d wanted class pointer = broken Mismatch at

      -- the address of a cell of such an object
      module _ (v i : ℕ) (null : x.null ≡ false) (of : IsCellOf names v i (kind_of x.value)) where
        abbrev Agrees : Type 0
        Agrees = (kind ≡ void_pointer) ⊎ (kind ≡ pointer_to of.shape.kind)

        agrees_by : (no_value void void_given same : Bool) → no_value ≡ false → is_void_pointer (Some kind) ≡ void → is_void_pointer (kind_of x.value) ≡ void_given
            → same_kind (kind_of x.value) (Some kind) ≡ same
            → Gives (λ w. Agrees) (if no_value then Is (null_of kind x.value)
            else if void || void_given then Is (converted kind x.value)
            else breaks (not same) Mismatch at (Is x.value))
        agrees_by true void void_given same some is_void is_given is_same = absurd (true≢false some)
        agrees_by false true void_given same some is_void is_given is_same = is _ (inl (cc (kinds_same (Some kind) (Some void_pointer) is_void)))
        agrees_by false false true same some is_void is_given is_same =
            let kinds : Some (pointer_to of.shape.kind) ≡ Some void_pointer = sym of.pointer ∙ kinds_same (kind_of x.value) (Some void_pointer) is_given in
            absurd (is_no_void_pointer of.shape.kind of.type (cc kinds))
        agrees_by false false false true some is_void is_given is_same =
            let kinds : Some (pointer_to of.shape.kind) ≡ Some kind = sym of.pointer ∙ kinds_same (kind_of x.value) (Some kind) is_same in
            is _ (inr (sym (cc kinds)))
        agrees_by false false false false some is_void is_given is_same = broken Mismatch at

        address_given : (c d : Class) → OfClass d (kind_of x.value) → Gives (λ w. Agrees) (given_as c d kind at x)
        address_given c Integer class = no_word (kind_of x.value) class (to_pointer (kind_of x.value) of.shape.kind of.pointer)
        address_given Pointer Pointer class = agrees_by x.null _ _ _ null refl refl refl
        address_given Pointer Nothing class = broken Mismatch at
        address_given Integer d class = broken Mismatch at
        address_given Nothing d class = broken Mismatch at

        address_fills : Gives (λ w. Fills (initial.Address v i)) (given kind at x)
        address_fills =
            weaker _ (address_given _ _ (of_class (kind_of x.value))) (λ w agrees. subst (StartsAt kind i) (sym of.object) (of.within, agrees))

      entry_fills : (i : Initial) → Starts names x i → Gives Fills (given kind at x >>= λ v. Is (cell_value kind i))
      entry_fills (initial.Word w) starts = behind _ _ (anything (given kind at x)) (λ v there. is _ (word_fills w (is_pointer kind) refl))
      entry_fills initial.Null starts =
          behind _ _ (null_fills _ _ (of_class (Some kind)) (of_class (kind_of x.value)) (pointer_from (kind_of x.value) starts)) (λ v pointer. is _ pointer)
      entry_fills (initial.Address v i) starts = behind _ _ (address_fills v i starts.0 starts.1) (λ w fills. is _ fills)

  pub entry_cell : (kind : ScalarType) (at : ℕ) (y : Entry) → IsScalarType kind → IsEntry names y → Gives (IsInitial (static_in names) kind) (cell kind at y)
  entry_cell kind at y type known = entry_fills kind at y.operand y.initial known.starts

  -- the list of an array
  cells_fill : (kind : ScalarType) (at : ℕ) (ys : List Entry) → IsScalarType kind → All (IsEntry names) ys
      → Gives (λ is. (length is ≡ length ys) × All (IsInitial (static_in names) kind) is) (cells kind at ys)
  cells_fill kind at [] type known = is _ (refl, All-nil (IsInitial (static_in names) kind))
  cells_fill kind at (y ∷ ys) type known =
      behind _ _ (entry_cell kind at y type (All-head (IsEntry names) y ys known)) (λ i fills.
      behind _ _ (cells_fill kind at ys type (All-tail (IsEntry names) y ys known)) (λ others rest.
      is _ (ap suc rest.0, All-cons (IsInitial (static_in names) kind) i others fills rest.1)))

  pub typed_list : (kind : ScalarType) (n at : ℕ) (ys : List Entry) → IsScalarType kind → All (IsEntry names) ys
      → Gives (λ is. (length is ≤ n) × All (IsInitial (static_in names) kind) is) (array_list kind n at ys)
  typed_list kind n at ys type known = unless (nat_lt n (length ys)) Mismatch at _ (λ within.
      weaker _ (cells_fill kind at ys type known) (λ others fills. let most : length ys ≤ n = ltb-false n (length ys) within in (omega (arith, fills.0, most), fills.1)))
