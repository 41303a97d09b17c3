-- What a static initialiser stands for agrees with the type of its operand.
use Rattle.std.proofs.Common.{◌≡◌, ℕ, ◌≤◌, nat_lt, Bool, true, false, ◌||◌, if◌then◌else◌, List, Option, Some, None, IfSome, is_some, refl, ltb-false, arith}
use Rattle.std.specs.Prelude.{⊤}
use Rattle.c_tree.specs.declared.program.ScalarType.{ScalarType}
use Rattle.c_tree.specs.declared.program.VarRef.TheVariants as refs
use Rattle.c_tree.specs.declared.program.Initial.{Initial}
use Rattle.c_tree.specs.declared.program.Initial.TheVariants as initial
use Rattle.c_tree.specs.c_syntax.declared.operator.BinaryOp.TheVariants as op
use Rattle.c_tree.specs.c_syntax.declared.syntax.PrefixOp.TheVariants as prefix
use Rattle.c_tree.specs.c_syntax.SyntaxTree as tree
use Rattle.c_tree.specs.c_syntax.SyntaxTree.{Expression}
use Rattle.c_tree.specs.TypedTree.{Kind, Expr, Node, Load}
use Rattle.c_tree.specs.Eval.{kind_of, points}
use Rattle.c_rules.specs.declared.fault.Rule.TheVariants.{Undeclared, Mismatch}
use Rattle.c_rules.specs.declared.class.Class.{Class}
use Rattle.c_rules.specs.declared.class.Class.TheVariants.{Integer, Pointer}
use Rattle.c_rules.specs.declared.meaning.Meaning.{Meaning}
use Rattle.c_rules.specs.declared.meaning.Meaning.TheVariants as meanings
use Rattle.c_rules.specs.declared.meaning.ObjectType.TheVariants.{Single, Array}
use Rattle.c_rules.specs.Outcome.{◌>>=◌, breaks}
use Rattle.c_rules.specs.Kinds.{is_void, pointer_to}
use Rattle.c_rules.specs.Operands.{Operand, sum_as, sum, loaded_as, loaded, lvalue_of, address_of, address}
use Rattle.c_rules.specs.Scopes.{Scope, is_in, is_out, length_of_array}
use Rattle.c_rules.specs.Typing.{named_as, bodies_before, prefixed, of_object, operand, typing}
use Rattle.c_rules.specs.Declarations.{static_cell, static_scalar, index_in, static_address, or_address, static_value}
use Rattle.c_rules.specs.Constants.{constant}
use Rattle.c_tree.specs.Kinds.{IsScalarType}
use Rattle.c_tree.specs.WellFormed.{Shape, Names}
use Rattle.c_rules.proofs.Formed.Context.{Gives, Fits, IsMeaning, broken, is, behind, unless}
use Rattle.c_rules.proofs.Formed.GivesLemmas.{anything, weaker}
use Rattle.c_rules.proofs.Formed.OperandKinds.{OfClass, of_class, to_pointer, no_word}

-- what the name of an array is, and what this makes of a pointer to its cells
abbrev IsArray : Option Meaning → Kind → Type 0
IsArray (Some (meanings.Object r (Array kind n))) k = k ≡ Some (pointer_to kind)
IsArray m k = ⊤

abbrev LoadsArray : Option Meaning → Expr → Type 0
LoadsArray m (Node (Load e) kind at) = IsArray m (kind_of e)
LoadsArray m x = ⊥

sum_kept : (c d : Class) (at : ℕ) (x y : Expr) (kind : ScalarType) → OfClass c (kind_of x) → kind_of x ≡ Some (pointer_to kind)
    → Gives (λ z. kind_of z ≡ Some (pointer_to kind)) (sum_as c d at x y)
sum_kept Integer Integer at x y kind class same = no_word (kind_of x) class (to_pointer (kind_of x) kind same)
sum_kept Integer Pointer at x y kind class same = no_word (kind_of x) class (to_pointer (kind_of x) kind same)
sum_kept Pointer Integer at x y kind class same = is _ same
sum_kept c d at x y kind class same = broken Mismatch at

named_array : (m : Option Meaning) (at : ℕ) → Gives (λ x. IsArray m (kind_of x)) (named_as at m)
named_array None at = broken Undeclared at
named_array (Some (meanings.Object r (Single kind))) at = is _ (tt {0})
named_array (Some (meanings.Object r (Array kind n))) at = is _ refl
named_array (Some (meanings.Function type)) at = broken Mismatch at

sum_array : (m : Option Meaning) (at : ℕ) (x y : Expr) → IsArray m (kind_of x) → Gives (λ z. IsArray m (kind_of z)) (sum at x y)
sum_array (Some (meanings.Object r (Array kind n))) at x y array = sum_kept _ _ at x y kind (of_class (kind_of x)) array
sum_array m at x y array = anything (sum at x y)

load_kept : (m : Option Meaning) (target : Kind) (at : ℕ) (x : Expr) → IsArray m (kind_of x) → Gives (LoadsArray m) (loaded_as target at x)
load_kept m None at x array = broken Mismatch at
load_kept m (Some kind) at x array = is _ array

loaded_array : (m : Option Meaning) (at : ℕ) (x : Expr) → IsArray m (kind_of x) → Gives (LoadsArray m) (loaded at x)
loaded_array m at x array = load_kept m _ at x array

address_by : (m : Option Meaning) (at : ℕ) (x : Expr) → LoadsArray m x → Gives (λ y. IsArray m (kind_of y)) (address_of (lvalue_of x) (kind_of x) at)
address_by m at (Node (Load e) kind place) loads = is _ loads
address_by m at x loads = absurd loads

address_array : (m : Option Meaning) (is_array : Bool) (at : ℕ) (x : Expr) → LoadsArray m x → Gives (λ y. IsArray m (kind_of y)) (address is_array at x)
address_array m is_array at x loads = unless (is_array || is_void (kind_of x)) Mismatch at _ (λ object. address_by m at x loads)

-- the address of a cell of an object, or of the place behind its last, by a pointer to the object's type
pub record IsCellOf (names : Names) (v i : ℕ) (kind : Kind) : Type 0 where
  pub shape : Shape
  pub object : names.object (refs.Static v) ≡ Some shape
  pub type : IsScalarType shape.kind
  pub within : i ≤ shape.length
  pub pointer : kind ≡ Some (pointer_to shape.kind)

module _ (names : Names) where
  -- what this operand starts a cell with
  abbrev pub Starts : Operand → Initial → Type 0
  Starts x (initial.Word w) = points (kind_of x.value) ≡ false
  Starts x initial.Null = points (kind_of x.value) ≡ true
  Starts x (initial.Address v i) = (x.null ≡ false) × IsCellOf names v i (kind_of x.value)

  -- an operand that isn't null by its text
  abbrev not_null : Expr → Operand
  not_null x = record { value = x; null = false }

  -- a cell of an array
  cell_within : (x : Expr) (v n i : ℕ) (kind : ScalarType) (b : Bool) → nat_lt n i ≡ b → names.object (refs.Static v) ≡ Some (record { kind = kind; length = n })
      → IsScalarType kind → kind_of x ≡ Some (pointer_to kind) → IfSome (if b then None else Some (initial.Address v i)) (Starts (not_null x))
  cell_within x v n i kind true past object type same = tt {0}
  cell_within x v n i kind false within object type same =
      (refl, record { shape = record { kind = kind; length = n }; object = object; type = type; within = ltb-false n i within; pointer = same })

  -- what a name stands for
  abbrev Means : ℕ → Option Meaning → Type 0
  Means number m = (meaning : Meaning) → m ≡ Some meaning → IsMeaning names number meaning

  cell_starts : (number : ℕ) (m : Option Meaning) (i : Option ℕ) (x : Expr) → Means number m → IsArray m (kind_of x) → IfSome (static_cell m i) (Starts (not_null x))
  cell_starts number (Some (meanings.Object (refs.Static v) (Array kind n))) (Some i) x means array =
      let object = means (meanings.Object (refs.Static v) (Array kind n)) refl in cell_within x v n i kind (nat_lt n i) refl object.0 object.1 array
  cell_starts number m i x means array = tt {0}

  -- the address of a scalar
  scalar_starts : (number : ℕ) (m : Option Meaning) (port : Bool) (at place : ℕ) → Means number m → Gives (λ z. IfSome (static_scalar m) (Starts (not_null z)))
      (breaks port Mismatch place (named_as place m) >>= λ x. prefixed prefix.Address (is_some (length_of_array m)) at x >>= λ y. of_object false at y)
  scalar_starts number m true at place means = broken Mismatch place
  scalar_starts number (Some (meanings.Object (refs.Static v) (Single kind))) false at place means =
      let object = means (meanings.Object (refs.Static v) (Single kind)) refl in
      is _ (refl, record { shape = record { kind = kind; length = 1 }; object = object.0; type = object.1; within = omega arith; pointer = refl })
  scalar_starts number m false at place means = anything _

  -- an address that is known before the program runs
  module _ (s : Scope) (fits : Fits names s) where
    abbrev KnownAddress : Expression → Expr → Type 0
    KnownAddress e x = IfSome (static_address s e x) (Starts (operand e x))

    named_kind : (name : List ℕ) (at : ℕ) → Gives (λ x. IsArray (s.meaning name) (kind_of x)) (typing s (tree.Node (tree.Name name) at))
    named_kind name at = unless (is_in name || is_out name) Mismatch at _ (λ no_port. named_array (s.meaning name) at)

    sum_kind : (name : List ℕ) (c : Expression) (at place : ℕ)
        → Gives (λ z. IsArray (s.meaning name) (kind_of z)) (typing s (tree.Node (tree.Name name) place) >>= λ x. typing s c >>= λ y. sum at x y)
    sum_kind name c at place =
        behind _ _ (named_kind name place) (λ x array. behind _ _ (anything (typing s c)) (λ y there. sum_array (s.meaning name) at x y array))

    index_kind : (name : List ℕ) (c : Expression) (at place : ℕ)
        → Gives (LoadsArray (s.meaning name)) (typing s (tree.Node (tree.Index (tree.Node (tree.Name name) place) c) at))
    index_kind name c at place =
        behind _ _ (named_kind name place) (λ x array. behind _ _ (anything (typing s c)) (λ y there.
        behind _ _ (sum_array (s.meaning name) at x y array) (λ z sum. loaded_array (s.meaning name) at z sum)))

    known_address : (e : Expression) → Gives (KnownAddress e) (typing s e)
    known_address (tree.Node (tree.Name name) at) =
        weaker _ (named_kind name at) (λ x array. cell_starts (bodies_before s name) (s.meaning name) (Some 0) x (fits name) array)
    known_address (tree.Node (tree.Binary op.Add (tree.Node (tree.Name name) place) c) at) =
        weaker _ (sum_kind name c at place) (λ z array. cell_starts (bodies_before s name) (s.meaning name) (index_in c z) z (fits name) array)
    known_address (tree.Node (tree.Prefix prefix.Address (tree.Node (tree.Name name) place)) at) =
        scalar_starts (bodies_before s name) (s.meaning name) (is_in name || is_out name) at place (fits name)
    known_address (tree.Node (tree.Prefix prefix.Address (tree.Node (tree.Index (tree.Node (tree.Name name) p) c) place)) at) =
        weaker _ (behind _ _ (index_kind name c place p) (λ w loads. behind _ _ (address_array (s.meaning name) false at w loads) (λ y array. is y array)))
        (λ z array. cell_starts (bodies_before s name) (s.meaning name) (index_in c z) z (fits name) array)
    known_address e = anything (typing s e)

    -- what an initialiser stands for
    word_starts : (x : Operand) (w : ℕ) (b : Bool) → points (kind_of x.value) ≡ b → Starts x (if b then initial.Null else initial.Word w)
    word_starts x w true pointer = pointer
    word_starts x w false word = word

    or_starts : (x : Operand) (w : Option ℕ) (address : Option Initial) → IfSome address (Starts x) → IfSome (or_address w (kind_of x.value) address) (Starts x)
    or_starts x None address known = known
    or_starts x (Some w) address known = word_starts x w (points (kind_of x.value)) refl

    pub known_value : (e : Expression) → Gives (λ x. IfSome (static_value s e x) (Starts (operand e x))) (typing s e)
    known_value e = weaker (typing s e) (known_address e) (λ x known. or_starts (operand e x) (constant e x) (static_address s e x) known)
