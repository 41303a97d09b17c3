-- What each operator makes of its operands takes at most the addresses that they take, and `&` one more.
use Rattle.std.proofs.Common.{◌≤◌, ◌+◌, ◌&&◌, ◌||◌, ℕ, suc, not, nat_lt, Bool, true, false, if◌then◌else◌, List, [], ◌∷◌, ◌++◌, Option, Some, None, arith}
use Rattle.std.specs.Prelude.{⊤}
use Rattle.c_tree.specs.declared.program.ScalarType.{ScalarType}
use Rattle.c_tree.specs.c_syntax.declared.operator.UnaryOp.{UnaryOp}
use Rattle.c_tree.specs.c_syntax.declared.operator.BinaryOp.{BinaryOp}
use Rattle.c_tree.specs.c_syntax.declared.operator.BinaryOp.TheVariants as op
use Rattle.c_tree.specs.TypedTree as tree
use Rattle.c_tree.specs.TypedTree.{Kind, Expr, Node, Lvalue, Named, At, Exprs}
use Rattle.c_tree.specs.Eval.{kind_of}
use Rattle.c_tree.specs.Uses.{uses, target_uses, list_uses}
use Rattle.c_rules.specs.declared.class.Class.{Class}
use Rattle.c_rules.specs.declared.class.Class.TheVariants.{Nothing, Integer, Pointer}
use Rattle.c_rules.specs.Outcome.{Outcome, Is}
use Rattle.c_rules.specs.Operands as operands
use Rattle.c_rules.specs.Kinds.{same_kind, same_type, void_pointer, class_of, is_void, is_void_pointer}
use Rattle.c_rules.specs.Operands.{Operand, class_at, converted, typed_number, pointer_given, given_as, given, Pair, common_of, balanced}
use Rattle.c_rules.specs.Operands.{null_like, converted_like, pointers_met, met_as, met}
use Rattle.c_rules.specs.Operands.{product_as, sum_as, sum, pointers, difference_as, shift_as, order_as, typed_equality, binary_as, binary}
use Rattle.c_rules.specs.Operands.{unary_as, unary, negated, both_true, either_true}
use Rattle.c_rules.specs.Operands.{arms_as, picked, lvalue_of, written, assigned_as, assigned, assigned_by, stepped_before, stepped_after}
use Rattle.c_rules.specs.Operands.{address_of, address, loaded_as, target_of, loaded, indexed}
use Rattle.c_rules.specs.Operands.{cast_as, cast, sized, passed, no_more, input, sent, output, any_void, is_integer, is_word_first, takes}
use Rattle.c_rules.proofs.Formed.Context.{Gives, is, broken, behind, unless}
use Rattle.c_rules.proofs.Formed.GivesLemmas.{weaker, one_of}
use Rattle.c_rules.proofs.Formed.CountedUses.{addresses, addresses_joined}

-- the addresses that an expression takes, what is written, and arguments
abbrev pub taken : Expr → ℕ
taken x = addresses (uses x)

abbrev target_taken : Lvalue → ℕ
target_taken l = addresses (target_uses l)

abbrev list_taken : Exprs → ℕ
list_taken xs = addresses (list_uses xs)

abbrev pub all_taken : List Operand → ℕ
all_taken [] = 0
all_taken (x ∷ xs) = taken x.value + all_taken xs

abbrev pair_taken : Pair → ℕ
pair_taken p = taken p.left + taken p.right

-- an outcome that takes at most so many
abbrev pub Takes : ℕ → Outcome Expr → Type 0
Takes n o = Gives (λ x. taken x ≤ n) o

abbrev PairTakes : ℕ → Outcome Pair → Type 0
PairTakes n o = Gives (λ p. pair_taken p ≤ n) o

-- conversions
converted_by : (b : Bool) (e : Expr) (kind : Kind) (at : ℕ) → taken (if b then e else Node (tree.Convert e) kind at) ≤ taken e
converted_by true e kind at = omega arith
converted_by false e kind at = omega arith

converted_few : (kind : ScalarType) (e : Expr) → taken (converted kind e) ≤ taken e
converted_few kind e = converted_by (same_kind (kind_of e) (Some kind)) e _ _

null_like_few : (x y : Expr) → taken (null_like x y) ≤ taken y
null_like_few (Node form None at) y = omega arith
null_like_few (Node form (Some kind) at) y = omega arith

converted_like_few : (x y : Expr) → taken (converted_like x y) ≤ taken y
converted_like_few (Node form None at) y = omega arith
converted_like_few (Node form (Some kind) at) y = converted_few kind y

balanced_few : (x y : Expr) → pair_taken (balanced x y) ≤ taken x + taken y
balanced_few x y = let kind = common_of (kind_of x) (kind_of y) in omega (arith, converted_few kind x, converted_few kind y)

pointer_few : (kind : ScalarType) (at : ℕ) (x : Operand) → Takes (taken x.value) (pointer_given kind at x)
pointer_few kind at x =
    one_of x.null _ _ (is _ (omega arith))
    (one_of (is_void_pointer (Some kind) || is_void_pointer (kind_of x.value)) _ _ (is _ (converted_few kind x.value))
    (unless (not (same_kind (kind_of x.value) (Some kind))) _ _ _ λ same. is _ (omega arith)))

given_as_few : (c d : Class) (kind : ScalarType) (at : ℕ) (x : Operand) → Takes (taken x.value) (given_as c d kind at x)
given_as_few Integer Integer kind at x = is _ (converted_few kind x.value)
given_as_few Integer Pointer kind at x = broken _ _
given_as_few Integer Nothing kind at x = broken _ _
given_as_few Pointer Integer kind at x = unless (not x.null) _ _ _ λ null. is _ (omega arith)
given_as_few Pointer Pointer kind at x = pointer_few kind at x
given_as_few Pointer Nothing kind at x = broken _ _
given_as_few Nothing d kind at x = broken _ _

pub given_few : (kind : ScalarType) (at : ℕ) (x : Operand) → Takes (taken x.value) (given kind at x)
given_few kind at x = given_as_few (class_of (Some kind)) (class_at x) kind at x

-- two values of one type
module _ (at : ℕ) (x y : Operand) where
  abbrev both_taken : ℕ
  both_taken = taken x.value + taken y.value

  pointers_met_few : PairTakes both_taken (pointers_met at x y)
  pointers_met_few =
      one_of (same_kind (kind_of x.value) (kind_of y.value)) _ _ (is _ (omega arith))
      (one_of y.null _ _ (is _ (omega (arith, null_like_few x.value y.value)))
      (one_of x.null _ _ (is _ (omega (arith, null_like_few y.value x.value)))
      (one_of (is_void_pointer (kind_of x.value)) _ _ (is _ (omega (arith, converted_like_few x.value y.value)))
      (unless (not (is_void_pointer (kind_of y.value))) _ _ _ λ void. is _ (omega (arith, converted_like_few y.value x.value))))))

  met_as_few : (c d : Class) → PairTakes both_taken (met_as c d at x y)
  met_as_few Integer Integer = is _ (balanced_few x.value y.value)
  met_as_few Pointer Pointer = pointers_met_few
  met_as_few Pointer Integer = unless (not y.null) _ _ _ λ null. is _ (omega (arith, null_like_few x.value y.value))
  met_as_few Integer Pointer = unless (not x.null) _ _ _ λ null. is _ (omega (arith, null_like_few y.value x.value))
  met_as_few Nothing d = broken _ _
  met_as_few Integer Nothing = broken _ _
  met_as_few Pointer Nothing = broken _ _

  arms_as_few : (c d : Class) → PairTakes both_taken (arms_as c d at x y)
  arms_as_few Nothing Nothing = is _ (omega arith)
  arms_as_few Nothing Integer = broken _ _
  arms_as_few Nothing Pointer = broken _ _
  arms_as_few Integer d = met_as_few Integer d
  arms_as_few Pointer d = met_as_few Pointer d

-- operators between two operands
pair_few : (p : Pair) (n : ℕ) → pair_taken p ≤ n → addresses (uses p.left ++ uses p.right) ≤ n
pair_few p n few = omega (arith, few, addresses_joined (uses p.left) (uses p.right))

module _ (at : ℕ) (x y : Expr) where
  abbrev two : ℕ
  two = taken x + taken y

  joined : addresses (uses x ++ uses y) ≤ two
  joined = omega (arith, addresses_joined (uses x) (uses y))

  balanced_joined : addresses (uses (balanced x y).left ++ uses (balanced x y).right) ≤ two
  balanced_joined = pair_few (balanced x y) two (balanced_few x y)

  product_few : (o : BinaryOp) (c d : Class) → Takes two (product_as c d o at x y)
  product_few o Integer Integer = is _ balanced_joined
  product_few o Integer Pointer = broken _ _
  product_few o Integer Nothing = broken _ _
  product_few o Pointer d = broken _ _
  product_few o Nothing d = broken _ _

  sum_as_few : (c d : Class) → Takes two (sum_as c d at x y)
  sum_as_few Integer Integer = is _ balanced_joined
  sum_as_few Pointer Integer = is _ joined
  sum_as_few Integer Pointer = is _ joined
  sum_as_few Integer Nothing = broken _ _
  sum_as_few Pointer Pointer = broken _ _
  sum_as_few Pointer Nothing = broken _ _
  sum_as_few Nothing d = broken _ _

  pointers_few : (o : BinaryOp) → Takes two (pointers o at x y)
  pointers_few o = unless (not (same_kind (kind_of x) (kind_of y))) _ _ _ λ same. is _ joined

  difference_few : (c d : Class) → Takes two (difference_as c d at x y)
  difference_few Integer Integer = is _ balanced_joined
  difference_few Pointer Integer = is _ joined
  difference_few Pointer Pointer = pointers_few op.Sub
  difference_few Pointer Nothing = broken _ _
  difference_few Integer Pointer = broken _ _
  difference_few Integer Nothing = broken _ _
  difference_few Nothing d = broken _ _

  shift_few : (o : BinaryOp) (c d : Class) → Takes two (shift_as c d o at x y)
  shift_few o Integer Integer = is _ joined
  shift_few o Integer Pointer = broken _ _
  shift_few o Integer Nothing = broken _ _
  shift_few o Pointer d = broken _ _
  shift_few o Nothing d = broken _ _

  order_few : (o : BinaryOp) (c d : Class) → Takes two (order_as c d o at x y)
  order_few o Integer Integer = is _ balanced_joined
  order_few o Pointer Pointer = pointers_few o
  order_few o Integer Pointer = broken _ _
  order_few o Integer Nothing = broken _ _
  order_few o Pointer Integer = broken _ _
  order_few o Pointer Nothing = broken _ _
  order_few o Nothing d = broken _ _

  pub both_true_few : Takes two (both_true at x y)
  both_true_few = unless (is_void (kind_of x) || is_void (kind_of y)) _ _ _ λ some. is _ joined

  pub either_true_few : Takes two (either_true at x y)
  either_true_few = unless (is_void (kind_of x) || is_void (kind_of y)) _ _ _ λ some. is _ joined

  pub behind_few : Takes two (Is (operands.typed_comma at x y))
  behind_few = is _ joined

equality_few : (o : BinaryOp) (at : ℕ) (x y : Operand) → Takes (taken x.value + taken y.value) (typed_equality o at x y)
equality_few o at x y = behind (met at x y) _ (met_as_few at x y (class_at x) (class_at y)) λ p few. is _ (pair_few p _ few)

module _ (at : ℕ) (x y : Operand) where
  binary_as_few : (o : BinaryOp) (c d : Class) → Takes (taken x.value + taken y.value) (binary_as o c d at x y)
  binary_as_few op.Add c d = sum_as_few at x.value y.value c d
  binary_as_few op.Sub c d = difference_few at x.value y.value c d
  binary_as_few op.Mul c d = product_few at x.value y.value op.Mul c d
  binary_as_few op.Div c d = product_few at x.value y.value op.Div c d
  binary_as_few op.Rem c d = product_few at x.value y.value op.Rem c d
  binary_as_few op.And c d = product_few at x.value y.value op.And c d
  binary_as_few op.Or c d = product_few at x.value y.value op.Or c d
  binary_as_few op.Xor c d = product_few at x.value y.value op.Xor c d
  binary_as_few op.Shl c d = shift_few at x.value y.value op.Shl c d
  binary_as_few op.Shr c d = shift_few at x.value y.value op.Shr c d
  binary_as_few op.Eq c d = equality_few op.Eq at x y
  binary_as_few op.Ne c d = equality_few op.Ne at x y
  binary_as_few op.Lt c d = order_few at x.value y.value op.Lt c d
  binary_as_few op.Gt c d = order_few at x.value y.value op.Gt c d
  binary_as_few op.Le c d = order_few at x.value y.value op.Le c d
  binary_as_few op.Ge c d = order_few at x.value y.value op.Ge c d

  pub binary_few : (o : BinaryOp) → Takes (taken x.value + taken y.value) (binary o at x y)
  binary_few o = binary_as_few o (class_at x) (class_at y)

  pub picked_few : (test : Expr) → Takes (taken test + (taken x.value + taken y.value)) (picked at test x y)
  picked_few test =
      unless (is_void (kind_of test)) _ _ _ λ some.
      behind (arms_as (class_at x) (class_at y) at x y) _ (arms_as_few at x y (class_at x) (class_at y)) λ p few.
      is _ (omega (arith, few, addresses_joined (uses test) (uses p.left ++ uses p.right), addresses_joined (uses p.left) (uses p.right)))

-- operators on one operand
module _ (at : ℕ) (x : Expr) where
  unary_as_few : (c : Class) (o : UnaryOp) → Takes (taken x) (unary_as c o at x)
  unary_as_few Integer o = is _ (omega arith)
  unary_as_few Pointer o = broken _ _
  unary_as_few Nothing o = broken _ _

  pub unary_few : (o : UnaryOp) → Takes (taken x) (unary o at x)
  unary_few o = unary_as_few (class_of (kind_of x)) o

  pub negated_few : Takes (taken x) (negated at x)
  negated_few = unless (is_void (kind_of x)) _ _ _ λ some. is _ (omega arith)

  loaded_as_few : (kind : Kind) → Takes (taken x) (loaded_as kind at x)
  loaded_as_few None = broken _ _
  loaded_as_few (Some kind) = is _ (omega arith)

  pub loaded_few : Takes (taken x) (loaded at x)
  loaded_few = loaded_as_few (target_of (kind_of x) (class_of (kind_of x)))

  pub sized_few : (length : Option ℕ) → Takes 0 (sized length at x)
  sized_few (Some length) = is _ (omega arith)
  sized_few None = unless (is_void (kind_of x)) _ _ _ λ some. is _ (omega arith)

pub at_most : {o : Outcome Expr} (m n : ℕ) → m ≤ n → Takes m o → Takes n o
at_most {o} m n less few = weaker o few λ x within. omega (arith, less, within)

pub indexed_few : (at : ℕ) (x y : Expr) → Takes (taken x + taken y) (indexed at x y)
indexed_few at x y =
    behind (sum at x y) _ (sum_as_few at x y (class_of (kind_of x)) (class_of (kind_of y))) λ z few.
    at_most (taken z) (taken x + taken y) few (loaded_few at z)

-- what may be written
abbrev IsWithin : ℕ → Option Lvalue → Type 0
IsWithin n None = ⊤
IsWithin n (Some l) = target_taken l ≤ n

lvalue_few : (x : Expr) → IsWithin (taken x) (lvalue_of x)
lvalue_few (Node (tree.Read v) kind at) = omega arith
lvalue_few (Node (tree.Load e) kind at) = omega arith
lvalue_few (Node (tree.Const w) kind at) = tt {0}
lvalue_few (Node (tree.AddressOf v) kind at) = tt {0}
lvalue_few (Node (tree.Unary o e) kind at) = tt {0}
lvalue_few (Node (tree.Binary o a b) kind at) = tt {0}
lvalue_few (Node (tree.And a b) kind at) = tt {0}
lvalue_few (Node (tree.Or a b) kind at) = tt {0}
lvalue_few (Node (tree.Not e) kind at) = tt {0}
lvalue_few (Node (tree.Pick c a b) kind at) = tt {0}
lvalue_few (Node (tree.Assign l e) kind at) = tt {0}
lvalue_few (Node (tree.AssignOp o l e) kind at) = tt {0}
lvalue_few (Node (tree.StepBefore up l) kind at) = tt {0}
lvalue_few (Node (tree.StepAfter up l) kind at) = tt {0}
lvalue_few (Node (tree.Call f es) kind at) = tt {0}
lvalue_few (Node (tree.In port) kind at) = tt {0}
lvalue_few (Node (tree.Out port e) kind at) = tt {0}
lvalue_few (Node (tree.Comma a b) kind at) = tt {0}
lvalue_few (Node (tree.Convert e) kind at) = tt {0}

written_few : (at m n : ℕ) (l : Option Lvalue) (node : Lvalue → Expr) → IsWithin m l → ((l : Lvalue) → target_taken l ≤ m → taken (node l) ≤ n)
    → Takes n (written at l node)
written_few at m n None node within few = broken _ _
written_few at m n (Some l) node within few = is _ (few l within)

module _ (at : ℕ) (x : Expr) where
  assigned_as_few : (kind : Kind) (y : Operand) → Takes (taken x + taken y.value) (assigned_as kind at x y)
  assigned_as_few None y = broken _ _
  assigned_as_few (Some kind) y =
      behind (given kind at y) _ (given_few kind at y) λ v few.
      written_few at (taken x) _ (lvalue_of x) _ (lvalue_few x) λ l within. omega (arith, few, within, addresses_joined (target_uses l) (uses v))

  pub assigned_few : (y : Operand) → Takes (taken x + taken y.value) (assigned at x y)
  assigned_few y = assigned_as_few (kind_of x) y

  pub assigned_by_few : (o : BinaryOp) (y : Expr) → Takes (taken x + taken y) (assigned_by o at x y)
  assigned_by_few o y =
      unless (not (takes o (class_of (kind_of x)) (class_of (kind_of y)))) _ _ _ λ may.
      written_few at (taken x) _ (lvalue_of x) _ (lvalue_few x) λ l within. omega (arith, within, addresses_joined (target_uses l) (uses y))

  pub stepped_before_few : (up : Bool) → Takes (taken x) (stepped_before up at x)
  stepped_before_few up =
      unless (is_void (kind_of x)) _ _ _ λ some. written_few at (taken x) _ (lvalue_of x) _ (lvalue_few x) λ l within. within

  pub stepped_after_few : (up : Bool) → Takes (taken x) (stepped_after up at x)
  stepped_after_few up =
      unless (is_void (kind_of x)) _ _ _ λ some. written_few at (taken x) _ (lvalue_of x) _ (lvalue_few x) λ l within. within

  -- an address that a name gives is one more
  address_of_few : (l : Option Lvalue) (kind : Kind) → IsWithin (taken x) l → Takes (suc (taken x)) (address_of l kind at)
  address_of_few None kind within = broken _ _
  address_of_few (Some (Named v place)) kind within = is _ (omega arith)
  address_of_few (Some (At e place)) kind within = is _ (omega (arith, within))

  pub address_few : (is_array : Bool) → Takes (suc (taken x)) (address is_array at x)
  address_few is_array = unless (is_array || is_void (kind_of x)) _ _ _ λ may. address_of_few (lvalue_of x) (kind_of x) (lvalue_few x)

-- casts
module _ (at : ℕ) (x : Operand) where
  cast_as_few : (c d : Class) (kind : ScalarType) → Takes (taken x.value) (cast_as c d kind at x)
  cast_as_few Integer Integer kind = is _ (omega arith)
  cast_as_few Pointer Pointer kind = is _ (omega arith)
  cast_as_few Pointer Integer kind = unless (not (x.null && same_type kind void_pointer)) _ _ _ λ null. is _ (omega arith)
  cast_as_few Integer Pointer kind = broken _ _
  cast_as_few Integer Nothing kind = broken _ _
  cast_as_few Pointer Nothing kind = broken _ _
  cast_as_few Nothing d kind = broken _ _

  pub cast_few : (kind : Kind) → Takes (taken x.value) (cast kind at x)
  cast_few None = is _ (omega arith)
  cast_few (Some kind) = cast_as_few (class_of (Some kind)) (class_at x) kind

-- arguments, and ports
pub passed_few : (kinds : List ScalarType) (at : ℕ) (xs : List Operand) → Gives (λ es. list_taken es ≤ all_taken xs) (passed kinds at xs)
passed_few [] at [] = is _ (omega arith)
passed_few [] at (x ∷ xs) = unless (any_void (x ∷ xs)) _ _ _ λ some. broken _ _
passed_few (kind ∷ kinds) at [] = broken _ _
passed_few (kind ∷ kinds) at (x ∷ xs) =
    behind (given kind at x) _ (given_few kind at x) λ v first.
    behind (passed kinds at xs) _ (passed_few kinds at xs) λ vs others.
    is _ (omega (arith, first, others, addresses_joined (uses v) (list_uses vs)))

no_more_few : (n at : ℕ) (xs : List Operand) (next : Outcome Expr) → Takes n next → Takes n (no_more at xs next)
no_more_few n at [] next few = few
no_more_few n at (x ∷ xs) next few = broken _ _

pub input_few : (at : ℕ) (c : Class) (port : ℕ) (xs : List Operand) → Takes 0 (input at c port xs)
input_few at c port xs =
    unless (not (is_integer c) || any_void xs) _ _ _ λ integer.
    unless (nat_lt 15 port) _ _ _ λ right. no_more_few 0 at xs _ (is _ (omega arith))

sent_few : (at port : ℕ) (xs : List Operand) → Takes (all_taken xs) (sent at port xs)
sent_few at port [] = broken _ _
sent_few at port (x ∷ xs) = no_more_few _ at xs _ (is _ (omega arith))

pub output_few : (at : ℕ) (c : Class) (port : ℕ) (xs : List Operand) → Takes (all_taken xs) (output at c port xs)
output_few at c port xs =
    unless (not (is_integer c) || not (is_word_first xs) || any_void xs) _ _ _ λ integers.
    unless (nat_lt 15 port) _ _ _ λ right. sent_few at port xs

-- constants
pub number_few : (value : ℕ) (marked decimal : Bool) (at : ℕ) → Takes 0 (typed_number value marked decimal at)
number_few value marked decimal at =
    one_of (nat_lt 65535 value) _ _ (broken _ _)
    (one_of marked _ _ (is _ (omega arith))
    (one_of (nat_lt value 32768) _ _ (is _ (omega arith))
    (one_of decimal _ _ (broken _ _) (is _ (omega arith)))))
