-- What each operator makes of its operands needs at most the temporaries that they need, and one that keeps a value one or two more.
use Rattle.std.proofs.Common.{◌≤◌, ◌+◌, max, ◌&&◌, ◌||◌, ℕ, suc, not, nat_lt, Bool, true, false, if◌then◌else◌, List, [], ◌∷◌, ◌++◌, Option, Some, None, arith}
use Rattle.std.specs.Prelude.{⊤}
use Rattle.c_tree.specs.declared.program.ScalarType.{ScalarType}
use Rattle.c_syntax.specs.declared.operator.UnaryOp.{UnaryOp}
use Rattle.c_syntax.specs.declared.operator.BinaryOp.{BinaryOp}
use Rattle.c_syntax.specs.declared.operator.BinaryOp.TheVariants as op
use Rattle.c_tree.specs.TypedTree as tree
use Rattle.c_tree.specs.TypedTree.{Kind, Expr, Node, Lvalue, Named, At, Exprs}
use Rattle.c_tree.specs.Eval.{kind_of}
use Rattle.c_tree.specs.Temporaries.{is_constant, is_simple, unless_simple, temporaries, form_temporaries, target_temporaries, argument_temporaries}
use Rattle.c_rules.specs.declared.class.Class.{Class}
use Rattle.c_rules.specs.declared.class.Class.TheVariants.{Nothing, Integer, Pointer}
use Rattle.c_rules.specs.Outcome.{Outcome, Is}
use Rattle.c_rules.specs.Operands as operands
use Rattle.c_rules.specs.Kinds.{same_kind, same_type, void_pointer, class_of, is_void, is_void_pointer}
use Rattle.c_rules.specs.Operands.{Operand, class_at, converted, typed_number, pointer_given, given_as, given, Pair, common_of, balanced}
use Rattle.c_rules.specs.Operands.{null_like, converted_like, pointers_met, met_as, met}
use Rattle.c_rules.specs.Operands.{product_as, sum_as, sum, pointers, difference_as, shift_as, order_as, typed_equality, binary_as, binary}
use Rattle.c_rules.specs.Operands.{unary_as, unary, negated, both_true, either_true}
use Rattle.c_rules.specs.Operands.{arms_as, picked, lvalue_of, written, assigned_as, assigned, assigned_by, stepped_before, stepped_after}
use Rattle.c_rules.specs.Operands.{address_of, address, loaded_as, target_of, loaded, indexed}
use Rattle.c_rules.specs.Operands.{cast_as, cast, sized, passed, no_more, input, sent, output, any_void, is_integer, is_word_first, takes}
use Rattle.c_rules.proofs.Formed.Context.{Gives, is, broken, behind, unless}
use Rattle.c_rules.proofs.Formed.GivesLemmas.{weaker, one_of}

-- what operands need, with one for each that keeps it
abbrev pub all_needed : List Operand → ℕ
all_needed [] = 0
all_needed (x ∷ xs) = 1 + temporaries x.value + all_needed xs

abbrev pair_needed : Pair → ℕ
pair_needed p = temporaries p.left + temporaries p.right

-- an outcome that needs at most so many
abbrev pub Needs : ℕ → Outcome Expr → Type 0
Needs n o = Gives (λ x. temporaries x ≤ n) o

abbrev PairNeeds : ℕ → Outcome Pair → Type 0
PairNeeds n o = Gives (λ p. pair_needed p ≤ n) o

-- an operand that is evaluated while values are kept
unless_few : (e : Expr) (n : ℕ) → unless_simple e n ≤ n
unless_few e n = by (is_simple e)
  where
    by : (b : Bool) → (if b then 0 else n) ≤ n
    by true = omega arith
    by false = omega arith

-- conversions
converted_by : (b : Bool) (e : Expr) (kind : Kind) (at : ℕ) → temporaries (if b then e else Node (tree.Convert e) kind at) ≤ temporaries e
converted_by true e kind at = omega arith
converted_by false e kind at = omega arith

converted_few : (kind : ScalarType) (e : Expr) → temporaries (converted kind e) ≤ temporaries e
converted_few kind e = converted_by (same_kind (kind_of e) (Some kind)) e _ _

null_like_few : (x y : Expr) → temporaries (null_like x y) ≤ temporaries y
null_like_few (Node form None at) y = omega arith
null_like_few (Node form (Some kind) at) y = omega arith

converted_like_few : (x y : Expr) → temporaries (converted_like x y) ≤ temporaries y
converted_like_few (Node form None at) y = omega arith
converted_like_few (Node form (Some kind) at) y = converted_few kind y

balanced_few : (x y : Expr) → pair_needed (balanced x y) ≤ temporaries x + temporaries y
balanced_few x y = let kind = common_of (kind_of x) (kind_of y) in omega (arith, converted_few kind x, converted_few kind y)

pointer_few : (kind : ScalarType) (at : ℕ) (x : Operand) → Needs (temporaries x.value) (pointer_given kind at x)
pointer_few kind at x =
    one_of x.null _ _ (is _ (omega arith))
    (one_of (is_void_pointer (Some kind) || is_void_pointer (kind_of x.value)) _ _ (is _ (converted_few kind x.value))
    (unless (not (same_kind (kind_of x.value) (Some kind))) _ _ _ λ same. is _ (omega arith)))

given_as_few : (c d : Class) (kind : ScalarType) (at : ℕ) (x : Operand) → Needs (temporaries x.value) (given_as c d kind at x)
given_as_few Integer Integer kind at x = is _ (converted_few kind x.value)
given_as_few Integer Pointer kind at x = broken _ _
given_as_few Integer Nothing kind at x = broken _ _
given_as_few Pointer Integer kind at x = unless (not x.null) _ _ _ λ null. is _ (omega arith)
given_as_few Pointer Pointer kind at x = pointer_few kind at x
given_as_few Pointer Nothing kind at x = broken _ _
given_as_few Nothing d kind at x = broken _ _

pub given_few : (kind : ScalarType) (at : ℕ) (x : Operand) → Needs (temporaries x.value) (given kind at x)
given_few kind at x = given_as_few (class_of (Some kind)) (class_at x) kind at x

-- two values of one type
module _ (at : ℕ) (x y : Operand) where
  abbrev both_needed : ℕ
  both_needed = temporaries x.value + temporaries y.value

  pointers_met_few : PairNeeds both_needed (pointers_met at x y)
  pointers_met_few =
      one_of (same_kind (kind_of x.value) (kind_of y.value)) _ _ (is _ (omega arith))
      (one_of y.null _ _ (is _ (omega (arith, null_like_few x.value y.value)))
      (one_of x.null _ _ (is _ (omega (arith, null_like_few y.value x.value)))
      (one_of (is_void_pointer (kind_of x.value)) _ _ (is _ (omega (arith, converted_like_few x.value y.value)))
      (unless (not (is_void_pointer (kind_of y.value))) _ _ _ λ void. is _ (omega (arith, converted_like_few y.value x.value))))))

  met_as_few : (c d : Class) → PairNeeds both_needed (met_as c d at x y)
  met_as_few Integer Integer = is _ (balanced_few x.value y.value)
  met_as_few Pointer Pointer = pointers_met_few
  met_as_few Pointer Integer = unless (not y.null) _ _ _ λ null. is _ (omega (arith, null_like_few x.value y.value))
  met_as_few Integer Pointer = unless (not x.null) _ _ _ λ null. is _ (omega (arith, null_like_few y.value x.value))
  met_as_few Nothing d = broken _ _
  met_as_few Integer Nothing = broken _ _
  met_as_few Pointer Nothing = broken _ _

  arms_as_few : (c d : Class) → PairNeeds both_needed (arms_as c d at x y)
  arms_as_few Nothing Nothing = is _ (omega arith)
  arms_as_few Nothing Integer = broken _ _
  arms_as_few Nothing Pointer = broken _ _
  arms_as_few Integer d = met_as_few Integer d
  arms_as_few Pointer d = met_as_few Pointer d

-- operators between two operands
abbrev between : Expr → Expr → ℕ
between a b = form_temporaries (tree.Binary op.Add a b)

between_few : (a b : Expr) → between a b ≤ 1 + (temporaries a + temporaries b)
between_few a b = by (is_constant a)
  where
    by : (c : Bool) → max (temporaries a) (if c then temporaries b else unless_simple b (1 + temporaries b)) ≤ 1 + (temporaries a + temporaries b)
    by true = omega arith
    by false = omega (arith, unless_few b (1 + temporaries b))

pair_few : (p : Pair) (n : ℕ) → pair_needed p ≤ n → between p.left p.right ≤ 1 + n
pair_few p n few = omega (arith, few, between_few p.left p.right)

module _ (at : ℕ) (x y : Expr) where
  abbrev two : ℕ
  two = 1 + (temporaries x + temporaries y)

  joined : between x y ≤ two
  joined = between_few x y

  balanced_joined : between (balanced x y).left (balanced x y).right ≤ two
  balanced_joined = pair_few (balanced x y) (temporaries x + temporaries y) (balanced_few x y)

  product_few : (o : BinaryOp) (c d : Class) → Needs two (product_as c d o at x y)
  product_few o Integer Integer = is _ balanced_joined
  product_few o Integer Pointer = broken _ _
  product_few o Integer Nothing = broken _ _
  product_few o Pointer d = broken _ _
  product_few o Nothing d = broken _ _

  sum_as_few : (c d : Class) → Needs two (sum_as c d at x y)
  sum_as_few Integer Integer = is _ balanced_joined
  sum_as_few Pointer Integer = is _ joined
  sum_as_few Integer Pointer = is _ joined
  sum_as_few Integer Nothing = broken _ _
  sum_as_few Pointer Pointer = broken _ _
  sum_as_few Pointer Nothing = broken _ _
  sum_as_few Nothing d = broken _ _

  pointers_few : (o : BinaryOp) → Needs two (pointers o at x y)
  pointers_few o = unless (not (same_kind (kind_of x) (kind_of y))) _ _ _ λ same. is _ joined

  difference_few : (c d : Class) → Needs two (difference_as c d at x y)
  difference_few Integer Integer = is _ balanced_joined
  difference_few Pointer Integer = is _ joined
  difference_few Pointer Pointer = pointers_few op.Sub
  difference_few Pointer Nothing = broken _ _
  difference_few Integer Pointer = broken _ _
  difference_few Integer Nothing = broken _ _
  difference_few Nothing d = broken _ _

  shift_few : (o : BinaryOp) (c d : Class) → Needs two (shift_as c d o at x y)
  shift_few o Integer Integer = is _ joined
  shift_few o Integer Pointer = broken _ _
  shift_few o Integer Nothing = broken _ _
  shift_few o Pointer d = broken _ _
  shift_few o Nothing d = broken _ _

  order_few : (o : BinaryOp) (c d : Class) → Needs two (order_as c d o at x y)
  order_few o Integer Integer = is _ balanced_joined
  order_few o Pointer Pointer = pointers_few o
  order_few o Integer Pointer = broken _ _
  order_few o Integer Nothing = broken _ _
  order_few o Pointer Integer = broken _ _
  order_few o Pointer Nothing = broken _ _
  order_few o Nothing d = broken _ _

  pub both_true_few : Needs two (both_true at x y)
  both_true_few = unless (is_void (kind_of x) || is_void (kind_of y)) _ _ _ λ some. is _ (omega arith)

  pub either_true_few : Needs two (either_true at x y)
  either_true_few = unless (is_void (kind_of x) || is_void (kind_of y)) _ _ _ λ some. is _ (omega arith)

  pub behind_few : Needs two (Is (operands.typed_comma at x y))
  behind_few = is _ (omega arith)

equality_few : (o : BinaryOp) (at : ℕ) (x y : Operand) → Needs (1 + (temporaries x.value + temporaries y.value)) (typed_equality o at x y)
equality_few o at x y = behind (met at x y) _ (met_as_few at x y (class_at x) (class_at y)) λ p few. is _ (pair_few p _ few)

module _ (at : ℕ) (x y : Operand) where
  binary_as_few : (o : BinaryOp) (c d : Class) → Needs (1 + (temporaries x.value + temporaries y.value)) (binary_as o c d at x y)
  binary_as_few op.Add c d = sum_as_few at x.value y.value c d
  binary_as_few op.Sub c d = difference_few at x.value y.value c d
  binary_as_few op.Mul c d = product_few at x.value y.value op.Mul c d
  binary_as_few op.Div c d = product_few at x.value y.value op.Div c d
  binary_as_few op.Rem c d = product_few at x.value y.value op.Rem c d
  binary_as_few op.And c d = product_few at x.value y.value op.And c d
  binary_as_few op.Or c d = product_few at x.value y.value op.Or c d
  binary_as_few op.Xor c d = product_few at x.value y.value op.Xor c d
  binary_as_few op.Shl c d = shift_few at x.value y.value op.Shl c d
  binary_as_few op.Shr c d = shift_few at x.value y.value op.Shr c d
  binary_as_few op.Eq c d = equality_few op.Eq at x y
  binary_as_few op.Ne c d = equality_few op.Ne at x y
  binary_as_few op.Lt c d = order_few at x.value y.value op.Lt c d
  binary_as_few op.Gt c d = order_few at x.value y.value op.Gt c d
  binary_as_few op.Le c d = order_few at x.value y.value op.Le c d
  binary_as_few op.Ge c d = order_few at x.value y.value op.Ge c d

  pub binary_few : (o : BinaryOp) → Needs (1 + (temporaries x.value + temporaries y.value)) (binary o at x y)
  binary_few o = binary_as_few o (class_at x) (class_at y)

  pub picked_few : (test : Expr) → Needs (temporaries test + (temporaries x.value + temporaries y.value)) (picked at test x y)
  picked_few test =
      unless (is_void (kind_of test)) _ _ _ λ some.
      behind (arms_as (class_at x) (class_at y) at x y) _ (arms_as_few at x y (class_at x) (class_at y)) λ p few.
      is _ (omega (arith, few))

-- operators on one operand
module _ (at : ℕ) (x : Expr) where
  unary_as_few : (c : Class) (o : UnaryOp) → Needs (temporaries x) (unary_as c o at x)
  unary_as_few Integer o = is _ (omega arith)
  unary_as_few Pointer o = broken _ _
  unary_as_few Nothing o = broken _ _

  pub unary_few : (o : UnaryOp) → Needs (temporaries x) (unary o at x)
  unary_few o = unary_as_few (class_of (kind_of x)) o

  pub negated_few : Needs (temporaries x) (negated at x)
  negated_few = unless (is_void (kind_of x)) _ _ _ λ some. is _ (omega arith)

  loaded_as_few : (kind : Kind) → Needs (temporaries x) (loaded_as kind at x)
  loaded_as_few None = broken _ _
  loaded_as_few (Some kind) = is _ (omega arith)

  pub loaded_few : Needs (temporaries x) (loaded at x)
  loaded_few = loaded_as_few (target_of (kind_of x) (class_of (kind_of x)))

  pub sized_few : (length : Option ℕ) → Needs 0 (sized length at x)
  sized_few (Some length) = is _ (omega arith)
  sized_few None = unless (is_void (kind_of x)) _ _ _ λ some. is _ (omega arith)

pub at_most : {o : Outcome Expr} (m n : ℕ) → m ≤ n → Needs m o → Needs n o
at_most {o} m n less few = weaker o few λ x within. omega (arith, less, within)

pub indexed_few : (at : ℕ) (x y : Expr) → Needs (1 + (temporaries x + temporaries y)) (indexed at x y)
indexed_few at x y =
    behind (sum at x y) _ (sum_as_few at x y (class_of (kind_of x)) (class_of (kind_of y))) λ z few.
    at_most (temporaries z) (1 + (temporaries x + temporaries y)) few (loaded_few at z)

-- what may be written
abbrev IsWithin : ℕ → Option Lvalue → Type 0
IsWithin n None = ⊤
IsWithin n (Some l) = target_temporaries l ≤ n

lvalue_few : (x : Expr) → IsWithin (temporaries x) (lvalue_of x)
lvalue_few (Node (tree.Read v) kind at) = omega arith
lvalue_few (Node (tree.Load e) kind at) = omega arith
lvalue_few (Node (tree.Const w) kind at) = tt {0}
lvalue_few (Node (tree.AddressOf v) kind at) = tt {0}
lvalue_few (Node (tree.Unary o e) kind at) = tt {0}
lvalue_few (Node (tree.Binary o a b) kind at) = tt {0}
lvalue_few (Node (tree.And a b) kind at) = tt {0}
lvalue_few (Node (tree.Or a b) kind at) = tt {0}
lvalue_few (Node (tree.Not e) kind at) = tt {0}
lvalue_few (Node (tree.Pick c a b) kind at) = tt {0}
lvalue_few (Node (tree.Assign l e) kind at) = tt {0}
lvalue_few (Node (tree.AssignOp o l e) kind at) = tt {0}
lvalue_few (Node (tree.StepBefore up l) kind at) = tt {0}
lvalue_few (Node (tree.StepAfter up l) kind at) = tt {0}
lvalue_few (Node (tree.Call f es) kind at) = tt {0}
lvalue_few (Node (tree.In port) kind at) = tt {0}
lvalue_few (Node (tree.Out port e) kind at) = tt {0}
lvalue_few (Node (tree.Comma a b) kind at) = tt {0}
lvalue_few (Node (tree.Convert e) kind at) = tt {0}

written_few : (at m n : ℕ) (l : Option Lvalue) (node : Lvalue → Expr) → IsWithin m l → ((l : Lvalue) → target_temporaries l ≤ m → temporaries (node l) ≤ n)
    → Needs n (written at l node)
written_few at m n None node within few = broken _ _
written_few at m n (Some l) node within few = is _ (few l within)

module _ (at : ℕ) (x : Expr) where
  assigned_few_to : (l : Lvalue) (v : Expr) → target_temporaries l ≤ temporaries x → form_temporaries (tree.Assign l v) ≤ 1 + (temporaries x + temporaries v)
  assigned_few_to (Named r place) v within = omega arith
  assigned_few_to (At e place) v within = omega (arith, within, unless_few v (1 + temporaries v))

  assigned_as_few : (kind : Kind) (y : Operand) → Needs (1 + (temporaries x + temporaries y.value)) (assigned_as kind at x y)
  assigned_as_few None y = broken _ _
  assigned_as_few (Some kind) y =
      behind (given kind at y) _ (given_few kind at y) λ v few.
      written_few at (temporaries x) _ (lvalue_of x) _ (lvalue_few x) λ l within. omega (arith, few, assigned_few_to l v within)

  pub assigned_few : (y : Operand) → Needs (1 + (temporaries x + temporaries y.value)) (assigned at x y)
  assigned_few y = assigned_as_few (kind_of x) y

  updated_few : (o : BinaryOp) (l : Lvalue) (y : Expr) → target_temporaries l ≤ temporaries x → form_temporaries (tree.AssignOp o l y) ≤ 2 + (temporaries x + temporaries y)
  updated_few o (Named r place) y within = omega (arith, unless_few y (1 + temporaries y))
  updated_few o (At e place) y within = omega (arith, within, unless_few y (2 + temporaries y))

  pub assigned_by_few : (o : BinaryOp) (y : Expr) → Needs (2 + (temporaries x + temporaries y)) (assigned_by o at x y)
  assigned_by_few o y =
      unless (not (takes o (class_of (kind_of x)) (class_of (kind_of y)))) _ _ _ λ may.
      written_few at (temporaries x) _ (lvalue_of x) _ (lvalue_few x) λ l within. updated_few o l y within

  pub stepped_before_few : (up : Bool) → Needs (temporaries x) (stepped_before up at x)
  stepped_before_few up =
      unless (is_void (kind_of x)) _ _ _ λ some. written_few at (temporaries x) _ (lvalue_of x) _ (lvalue_few x) λ l within. within

  pub stepped_after_few : (up : Bool) → Needs (temporaries x) (stepped_after up at x)
  stepped_after_few up =
      unless (is_void (kind_of x)) _ _ _ λ some. written_few at (temporaries x) _ (lvalue_of x) _ (lvalue_few x) λ l within. within

  address_of_few : (l : Option Lvalue) (kind : Kind) → IsWithin (temporaries x) l → Needs (temporaries x) (address_of l kind at)
  address_of_few None kind within = broken _ _
  address_of_few (Some (Named v place)) kind within = is _ (omega arith)
  address_of_few (Some (At e place)) kind within = is _ (omega (arith, within))

  pub address_few : (is_array : Bool) → Needs (temporaries x) (address is_array at x)
  address_few is_array = unless (is_array || is_void (kind_of x)) _ _ _ λ may. address_of_few (lvalue_of x) (kind_of x) (lvalue_few x)

-- casts
module _ (at : ℕ) (x : Operand) where
  cast_as_few : (c d : Class) (kind : ScalarType) → Needs (temporaries x.value) (cast_as c d kind at x)
  cast_as_few Integer Integer kind = is _ (omega arith)
  cast_as_few Pointer Pointer kind = is _ (omega arith)
  cast_as_few Pointer Integer kind = unless (not (x.null && same_type kind void_pointer)) _ _ _ λ null. is _ (omega arith)
  cast_as_few Integer Pointer kind = broken _ _
  cast_as_few Integer Nothing kind = broken _ _
  cast_as_few Pointer Nothing kind = broken _ _
  cast_as_few Nothing d kind = broken _ _

  pub cast_few : (kind : Kind) → Needs (temporaries x.value) (cast kind at x)
  cast_few None = is _ (omega arith)
  cast_few (Some kind) = cast_as_few (class_of (Some kind)) (class_at x) kind

-- arguments, and ports
more_few : (v : Expr) (vs : Exprs) → argument_temporaries (tree.more v vs) ≤ 1 + temporaries v + argument_temporaries vs
more_few v tree.none = omega arith
more_few v (tree.more w ws) = omega arith

pub passed_few : (kinds : List ScalarType) (at : ℕ) (xs : List Operand) → Gives (λ es. argument_temporaries es ≤ all_needed xs) (passed kinds at xs)
passed_few [] at [] = is _ (omega arith)
passed_few [] at (x ∷ xs) = unless (any_void (x ∷ xs)) _ _ _ λ some. broken _ _
passed_few (kind ∷ kinds) at [] = broken _ _
passed_few (kind ∷ kinds) at (x ∷ xs) =
    behind (given kind at x) _ (given_few kind at x) λ v first.
    behind (passed kinds at xs) _ (passed_few kinds at xs) λ vs others.
    is _ (omega (arith, first, others, more_few v vs))

no_more_few : (n at : ℕ) (xs : List Operand) (next : Outcome Expr) → Needs n next → Needs n (no_more at xs next)
no_more_few n at [] next few = few
no_more_few n at (x ∷ xs) next few = broken _ _

pub input_few : (at : ℕ) (c : Class) (port : ℕ) (xs : List Operand) → Needs 0 (input at c port xs)
input_few at c port xs =
    unless (not (is_integer c) || any_void xs) _ _ _ λ integer.
    unless (nat_lt 15 port) _ _ _ λ right. no_more_few 0 at xs _ (is _ (omega arith))

sent_few : (at port : ℕ) (xs : List Operand) → Needs (all_needed xs) (sent at port xs)
sent_few at port [] = broken _ _
sent_few at port (x ∷ xs) = no_more_few (all_needed (x ∷ xs)) at xs _ (is _ (omega arith))

pub output_few : (at : ℕ) (c : Class) (port : ℕ) (xs : List Operand) → Needs (all_needed xs) (output at c port xs)
output_few at c port xs =
    unless (not (is_integer c) || not (is_word_first xs) || any_void xs) _ _ _ λ integers.
    unless (nat_lt 15 port) _ _ _ λ right. sent_few at port xs

-- constants
pub number_few : (value : ℕ) (marked decimal : Bool) (at : ℕ) → Needs 0 (typed_number value marked decimal at)
number_few value marked decimal at =
    one_of (nat_lt 65535 value) _ _ (broken _ _)
    (one_of marked _ _ (is _ (omega arith))
    (one_of (nat_lt value 32768) _ _ (is _ (omega arith))
    (one_of decimal _ _ (broken _ _) (is _ (omega arith)))))
