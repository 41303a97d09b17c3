-- What each operator makes of its operands weighs at most what they do and so much more. Where the rules ask for a conversion, it weighs 1, and a null
-- pointer that stands in the place of a value weighs 2, so what is made of an operand there weighs at most 2 more than it.
use Rattle.std.proofs.Common.{◌≡◌, ◌≤◌, ◌+◌, ◌&&◌, ◌||◌, ℕ, not, nat_lt, Bool, true, false, if◌then◌else◌, List, [], ◌∷◌, Option, Some, None, arith}
use Rattle.std.specs.Prelude.{⊤}
use Rattle.c_tree.specs.declared.program.ScalarType.{ScalarType}
use Rattle.c_syntax.specs.declared.operator.UnaryOp.{UnaryOp}
use Rattle.c_syntax.specs.declared.operator.BinaryOp.{BinaryOp}
use Rattle.c_syntax.specs.declared.operator.BinaryOp.TheVariants as op
use Rattle.c_tree.specs.TypedTree as tree
use Rattle.c_tree.specs.TypedTree.{Kind, Expr, Node, Lvalue, Named, At}
use Rattle.c_tree.specs.Eval.{kind_of}
use Rattle.c_rules.specs.declared.class.Class.{Class}
use Rattle.c_rules.specs.declared.class.Class.TheVariants.{Nothing, Integer, Pointer}
use Rattle.c_rules.specs.Outcome.{Outcome, Is}
use Rattle.c_rules.specs.Operands as operands
use Rattle.c_rules.specs.Kinds.{same_kind, same_type, void_pointer, class_of, is_void, is_void_pointer}
use Rattle.c_rules.specs.Operands.{Operand, class_at, converted, typed_number, pointer_given, given_as, given, Pair, common_of, balanced}
use Rattle.c_rules.specs.Operands.{null_like, converted_like, pointers_met, met_as, met}
use Rattle.c_rules.specs.Operands.{product_as, sum_as, sum, pointers, difference_as, shift_as, order_as, typed_equality, binary_as, binary}
use Rattle.c_rules.specs.Operands.{unary_as, unary, negated, both_true, either_true}
use Rattle.c_rules.specs.Operands.{arms_as, picked, lvalue_of, written, assigned_as, assigned, assigned_by, stepped_before, stepped_after}
use Rattle.c_rules.specs.Operands.{address_of, address, loaded_as, target_of, loaded, indexed}
use Rattle.c_rules.specs.Operands.{cast_as, cast, sized, passed, no_more, input, sent, output, any_void, is_integer, is_word_first, takes}
use Rattle.c_rules.proofs.Formed.Context.{Gives, is, broken, behind, unless}
use Rattle.c_rules.proofs.Formed.GivesLemmas.{weaker, one_of}
use Rattle.ir_semantics.specs.SourceWeights.{source_expression_weight, source_arguments_weight}

-- what an expression weighs, what is written, and two values of one type
abbrev pub weight : Expr → ℕ
weight x = source_expression_weight x

abbrev target_weight : Lvalue → ℕ
target_weight (Named v place) = 0
target_weight (At p place) = weight p

abbrev pair_weight : Pair → ℕ
pair_weight p = weight p.left + weight p.right

-- operands, each with what a use of it may add: 12 where it is an argument, and 2 where it is converted
abbrev pub operands_weight : List Operand → ℕ
operands_weight [] = 0
operands_weight (x ∷ xs) = (weight x.value + 14) + operands_weight xs

-- an outcome of at most this weight
abbrev pub Weighs : ℕ → Outcome Expr → Type 0
Weighs n o = Gives (λ x. weight x ≤ n) o

abbrev PairWeighs : ℕ → Outcome Pair → Type 0
PairWeighs n o = Gives (λ p. pair_weight p ≤ n) o

pub at_most : {o : Outcome Expr} (m n : ℕ) → m ≤ n → Weighs m o → Weighs n o
at_most {o} m n less weighs = weaker o weighs λ x within. omega (arith, less, within)

-- conversions
converted_by : (b : Bool) (e : Expr) (kind : Kind) (at : ℕ) → weight (if b then e else Node (tree.Convert e) kind at) ≤ weight e + 1
converted_by true e kind at = omega arith
converted_by false e kind at = omega arith

converted_weighs : (kind : ScalarType) (e : Expr) → weight (converted kind e) ≤ weight e + 1
converted_weighs kind e = converted_by (same_kind (kind_of e) (Some kind)) e _ _

null_like_weighs : (x y : Expr) → weight (null_like x y) ≤ weight y + 2
null_like_weighs (Node form None at) y = omega arith
null_like_weighs (Node form (Some kind) at) y = omega arith

converted_like_weighs : (x y : Expr) → weight (converted_like x y) ≤ weight y + 1
converted_like_weighs (Node form None at) y = omega arith
converted_like_weighs (Node form (Some kind) at) y = converted_weighs kind y

balanced_weighs : (x y : Expr) → pair_weight (balanced x y) ≤ (weight x + weight y) + 2
balanced_weighs x y = let kind = common_of (kind_of x) (kind_of y) in omega (arith, converted_weighs kind x, converted_weighs kind y)

pointer_weighs : (kind : ScalarType) (at : ℕ) (x : Operand) → Weighs (weight x.value + 2) (pointer_given kind at x)
pointer_weighs kind at x =
    one_of x.null _ _ (is _ (omega arith))
    (one_of (is_void_pointer (Some kind) || is_void_pointer (kind_of x.value)) _ _ (is _ (omega (arith, converted_weighs kind x.value)))
    (unless (not (same_kind (kind_of x.value) (Some kind))) _ _ _ λ same. is _ (omega arith)))

given_as_weighs : (c d : Class) (kind : ScalarType) (at : ℕ) (x : Operand) → Weighs (weight x.value + 2) (given_as c d kind at x)
given_as_weighs Integer Integer kind at x = is _ (omega (arith, converted_weighs kind x.value))
given_as_weighs Integer Pointer kind at x = broken _ _
given_as_weighs Integer Nothing kind at x = broken _ _
given_as_weighs Pointer Integer kind at x = unless (not x.null) _ _ _ λ null. is _ (omega arith)
given_as_weighs Pointer Pointer kind at x = pointer_weighs kind at x
given_as_weighs Pointer Nothing kind at x = broken _ _
given_as_weighs Nothing d kind at x = broken _ _

pub given_weighs : (kind : ScalarType) (at : ℕ) (x : Operand) → Weighs (weight x.value + 2) (given kind at x)
given_weighs kind at x = given_as_weighs (class_of (Some kind)) (class_at x) kind at x

-- two values of one type
module _ (at : ℕ) (x y : Operand) where
  abbrev met_weight : ℕ
  met_weight = (weight x.value + weight y.value) + 2

  pointers_met_weigh : PairWeighs met_weight (pointers_met at x y)
  pointers_met_weigh =
      one_of (same_kind (kind_of x.value) (kind_of y.value)) _ _ (is _ (omega arith))
      (one_of y.null _ _ (is _ (omega (arith, null_like_weighs x.value y.value)))
      (one_of x.null _ _ (is _ (omega (arith, null_like_weighs y.value x.value)))
      (one_of (is_void_pointer (kind_of x.value)) _ _ (is _ (omega (arith, converted_like_weighs x.value y.value)))
      (unless (not (is_void_pointer (kind_of y.value))) _ _ _ λ void. is _ (omega (arith, converted_like_weighs y.value x.value))))))

  met_as_weighs : (c d : Class) → PairWeighs met_weight (met_as c d at x y)
  met_as_weighs Integer Integer = is _ (balanced_weighs x.value y.value)
  met_as_weighs Pointer Pointer = pointers_met_weigh
  met_as_weighs Pointer Integer = unless (not y.null) _ _ _ λ null. is _ (omega (arith, null_like_weighs x.value y.value))
  met_as_weighs Integer Pointer = unless (not x.null) _ _ _ λ null. is _ (omega (arith, null_like_weighs y.value x.value))
  met_as_weighs Nothing d = broken _ _
  met_as_weighs Integer Nothing = broken _ _
  met_as_weighs Pointer Nothing = broken _ _

  arms_as_weigh : (c d : Class) → PairWeighs met_weight (arms_as c d at x y)
  arms_as_weigh Nothing Nothing = is _ (omega arith)
  arms_as_weigh Nothing Integer = broken _ _
  arms_as_weigh Nothing Pointer = broken _ _
  arms_as_weigh Integer d = met_as_weighs Integer d
  arms_as_weigh Pointer d = met_as_weighs Pointer d

-- operators between two operands
module _ (at : ℕ) (x y : Expr) where
  abbrev between_weight : ℕ
  between_weight = (weight x + weight y) + 26

  product_weighs : (o : BinaryOp) (c d : Class) → Weighs between_weight (product_as c d o at x y)
  product_weighs o Integer Integer = is _ (omega (arith, balanced_weighs x y))
  product_weighs o Integer Pointer = broken _ _
  product_weighs o Integer Nothing = broken _ _
  product_weighs o Pointer d = broken _ _
  product_weighs o Nothing d = broken _ _

  sum_as_weighs : (c d : Class) → Weighs between_weight (sum_as c d at x y)
  sum_as_weighs Integer Integer = is _ (omega (arith, balanced_weighs x y))
  sum_as_weighs Pointer Integer = is _ (omega arith)
  sum_as_weighs Integer Pointer = is _ (omega arith)
  sum_as_weighs Integer Nothing = broken _ _
  sum_as_weighs Pointer Pointer = broken _ _
  sum_as_weighs Pointer Nothing = broken _ _
  sum_as_weighs Nothing d = broken _ _

  pointers_weigh : (o : BinaryOp) → Weighs between_weight (pointers o at x y)
  pointers_weigh o = unless (not (same_kind (kind_of x) (kind_of y))) _ _ _ λ same. is _ (omega arith)

  difference_weighs : (c d : Class) → Weighs between_weight (difference_as c d at x y)
  difference_weighs Integer Integer = is _ (omega (arith, balanced_weighs x y))
  difference_weighs Pointer Integer = is _ (omega arith)
  difference_weighs Pointer Pointer = pointers_weigh op.Sub
  difference_weighs Pointer Nothing = broken _ _
  difference_weighs Integer Pointer = broken _ _
  difference_weighs Integer Nothing = broken _ _
  difference_weighs Nothing d = broken _ _

  shift_weighs : (o : BinaryOp) (c d : Class) → Weighs between_weight (shift_as c d o at x y)
  shift_weighs o Integer Integer = is _ (omega arith)
  shift_weighs o Integer Pointer = broken _ _
  shift_weighs o Integer Nothing = broken _ _
  shift_weighs o Pointer d = broken _ _
  shift_weighs o Nothing d = broken _ _

  order_weighs : (o : BinaryOp) (c d : Class) → Weighs between_weight (order_as c d o at x y)
  order_weighs o Integer Integer = is _ (omega (arith, balanced_weighs x y))
  order_weighs o Pointer Pointer = pointers_weigh o
  order_weighs o Integer Pointer = broken _ _
  order_weighs o Integer Nothing = broken _ _
  order_weighs o Pointer Integer = broken _ _
  order_weighs o Pointer Nothing = broken _ _
  order_weighs o Nothing d = broken _ _

  pub both_true_weigh : Weighs ((weight x + weight y) + 20) (both_true at x y)
  both_true_weigh = unless (is_void (kind_of x) || is_void (kind_of y)) _ _ _ λ some. is _ (omega arith)

  pub either_true_weighs : Weighs ((weight x + weight y) + 20) (either_true at x y)
  either_true_weighs = unless (is_void (kind_of x) || is_void (kind_of y)) _ _ _ λ some. is _ (omega arith)

  pub comma_weighs : Weighs ((weight x + weight y) + 1) (Is (operands.typed_comma at x y))
  comma_weighs = is _ (omega arith)

equality_weighs : (o : BinaryOp) (at : ℕ) (x y : Operand) → Weighs ((weight x.value + weight y.value) + 26) (typed_equality o at x y)
equality_weighs o at x y = behind (met at x y) _ (met_as_weighs at x y (class_at x) (class_at y)) λ p weighs. is _ (omega (arith, weighs))

module _ (at : ℕ) (x y : Operand) where
  binary_as_weighs : (o : BinaryOp) (c d : Class) → Weighs ((weight x.value + weight y.value) + 26) (binary_as o c d at x y)
  binary_as_weighs op.Add c d = sum_as_weighs at x.value y.value c d
  binary_as_weighs op.Sub c d = difference_weighs at x.value y.value c d
  binary_as_weighs op.Mul c d = product_weighs at x.value y.value op.Mul c d
  binary_as_weighs op.Div c d = product_weighs at x.value y.value op.Div c d
  binary_as_weighs op.Rem c d = product_weighs at x.value y.value op.Rem c d
  binary_as_weighs op.And c d = product_weighs at x.value y.value op.And c d
  binary_as_weighs op.Or c d = product_weighs at x.value y.value op.Or c d
  binary_as_weighs op.Xor c d = product_weighs at x.value y.value op.Xor c d
  binary_as_weighs op.Shl c d = shift_weighs at x.value y.value op.Shl c d
  binary_as_weighs op.Shr c d = shift_weighs at x.value y.value op.Shr c d
  binary_as_weighs op.Eq c d = equality_weighs op.Eq at x y
  binary_as_weighs op.Ne c d = equality_weighs op.Ne at x y
  binary_as_weighs op.Lt c d = order_weighs at x.value y.value op.Lt c d
  binary_as_weighs op.Gt c d = order_weighs at x.value y.value op.Gt c d
  binary_as_weighs op.Le c d = order_weighs at x.value y.value op.Le c d
  binary_as_weighs op.Ge c d = order_weighs at x.value y.value op.Ge c d

  pub binary_weighs : (o : BinaryOp) → Weighs ((weight x.value + weight y.value) + 26) (binary o at x y)
  binary_weighs o = binary_as_weighs o (class_at x) (class_at y)

  pub picked_weighs : (test : Expr) → Weighs ((weight test + (weight x.value + weight y.value)) + 16) (picked at test x y)
  picked_weighs test =
      unless (is_void (kind_of test)) _ _ _ λ some.
      behind (arms_as (class_at x) (class_at y) at x y) _ (arms_as_weigh at x y (class_at x) (class_at y)) λ p weighs. is _ (omega (arith, weighs))

-- operators on one operand
module _ (at : ℕ) (x : Expr) where
  unary_as_weighs : (c : Class) (o : UnaryOp) → Weighs (weight x + 1) (unary_as c o at x)
  unary_as_weighs Integer o = is _ (omega arith)
  unary_as_weighs Pointer o = broken _ _
  unary_as_weighs Nothing o = broken _ _

  pub unary_weighs : (o : UnaryOp) → Weighs (weight x + 1) (unary o at x)
  unary_weighs o = unary_as_weighs (class_of (kind_of x)) o

  pub negated_weighs : Weighs (weight x + 10) (negated at x)
  negated_weighs = unless (is_void (kind_of x)) _ _ _ λ some. is _ (omega arith)

  loaded_as_weighs : (kind : Kind) → Weighs (weight x + 5) (loaded_as kind at x)
  loaded_as_weighs None = broken _ _
  loaded_as_weighs (Some kind) = is _ (omega arith)

  pub loaded_weighs : Weighs (weight x + 5) (loaded at x)
  loaded_weighs = loaded_as_weighs (target_of (kind_of x) (class_of (kind_of x)))

  pub sized_weighs : (length : Option ℕ) → Weighs 2 (sized length at x)
  sized_weighs (Some length) = is _ (omega arith)
  sized_weighs None = unless (is_void (kind_of x)) _ _ _ λ some. is _ (omega arith)

-- an index: a sum and a load
pub indexed_weighs : (at : ℕ) (x y : Expr) → Weighs ((weight x + weight y) + 31) (indexed at x y)
indexed_weighs at x y =
    behind (sum at x y) _ (sum_as_weighs at x y (class_of (kind_of x)) (class_of (kind_of y))) λ z weighs.
    at_most (weight z + 5) _ (omega (arith, weighs)) (loaded_weighs at z)

-- what may be written
abbrev IsWithin : ℕ → Option Lvalue → Type 0
IsWithin n None = ⊤
IsWithin n (Some l) = target_weight l ≤ n

lvalue_weighs : (x : Expr) → IsWithin (weight x) (lvalue_of x)
lvalue_weighs (Node (tree.Read v) kind at) = omega arith
lvalue_weighs (Node (tree.Load e) kind at) = omega arith
lvalue_weighs (Node (tree.Const w) kind at) = tt {0}
lvalue_weighs (Node (tree.AddressOf v) kind at) = tt {0}
lvalue_weighs (Node (tree.Unary o e) kind at) = tt {0}
lvalue_weighs (Node (tree.Binary o a b) kind at) = tt {0}
lvalue_weighs (Node (tree.And a b) kind at) = tt {0}
lvalue_weighs (Node (tree.Or a b) kind at) = tt {0}
lvalue_weighs (Node (tree.Not e) kind at) = tt {0}
lvalue_weighs (Node (tree.Pick c a b) kind at) = tt {0}
lvalue_weighs (Node (tree.Assign l e) kind at) = tt {0}
lvalue_weighs (Node (tree.AssignOp o l e) kind at) = tt {0}
lvalue_weighs (Node (tree.StepBefore up l) kind at) = tt {0}
lvalue_weighs (Node (tree.StepAfter up l) kind at) = tt {0}
lvalue_weighs (Node (tree.Call f es) kind at) = tt {0}
lvalue_weighs (Node (tree.In port) kind at) = tt {0}
lvalue_weighs (Node (tree.Out port e) kind at) = tt {0}
lvalue_weighs (Node (tree.Comma a b) kind at) = tt {0}
lvalue_weighs (Node (tree.Convert e) kind at) = tt {0}

written_weighs : (at m n : ℕ) (l : Option Lvalue) (node : Lvalue → Expr) → IsWithin m l → ((l : Lvalue) → target_weight l ≤ m → weight (node l) ≤ n)
    → Weighs n (written at l node)
written_weighs at m n None node within rest = broken _ _
written_weighs at m n (Some l) node within rest = is _ (rest l within)

-- writes by what is written
module _ (kind : Kind) (at : ℕ) where
  pub assignment_weight : (l : Lvalue) (e : Expr) → weight (Node (tree.Assign l e) kind at) ≡ 19 + (target_weight l + weight e)
  assignment_weight (Named v place) e = omega arith
  assignment_weight (At p place) e = omega arith

  operation_weight : (o : BinaryOp) (l : Lvalue) (e : Expr) → weight (Node (tree.AssignOp o l e) kind at) ≡ 48 + (target_weight l + weight e)
  operation_weight o (Named v place) e = omega arith
  operation_weight o (At p place) e = omega arith

  before_weight : (up : Bool) (l : Lvalue) → weight (Node (tree.StepBefore up l) kind at) ≡ 14 + target_weight l
  before_weight up (Named v place) = omega arith
  before_weight up (At p place) = omega arith

  after_weight : (up : Bool) (l : Lvalue) → weight (Node (tree.StepAfter up l) kind at) ≡ 14 + target_weight l
  after_weight up (Named v place) = omega arith
  after_weight up (At p place) = omega arith

module _ (at : ℕ) (x : Expr) where
  assigned_as_weighs : (kind : Kind) (y : Operand) → Weighs ((weight x + weight y.value) + 21) (assigned_as kind at x y)
  assigned_as_weighs None y = broken _ _
  assigned_as_weighs (Some kind) y =
      behind (given kind at y) _ (given_weighs kind at y) λ v weighs.
      written_weighs at (weight x) _ (lvalue_of x) _ (lvalue_weighs x) λ l within. omega (arith, weighs, within, assignment_weight (Some kind) at l v)

  pub assigned_weighs : (y : Operand) → Weighs ((weight x + weight y.value) + 21) (assigned at x y)
  assigned_weighs y = assigned_as_weighs (kind_of x) y

  pub assigned_by_weighs : (o : BinaryOp) (y : Expr) → Weighs ((weight x + weight y) + 48) (assigned_by o at x y)
  assigned_by_weighs o y =
      unless (not (takes o (class_of (kind_of x)) (class_of (kind_of y)))) _ _ _ λ may.
      written_weighs at (weight x) _ (lvalue_of x) _ (lvalue_weighs x) λ l within. omega (arith, within, operation_weight (kind_of x) at o l y)

  pub stepped_before_weighs : (up : Bool) → Weighs (weight x + 14) (stepped_before up at x)
  stepped_before_weighs up =
      unless (is_void (kind_of x)) _ _ _ λ some.
      written_weighs at (weight x) _ (lvalue_of x) _ (lvalue_weighs x) λ l within. omega (arith, within, before_weight (kind_of x) at up l)

  pub stepped_after_weighs : (up : Bool) → Weighs (weight x + 14) (stepped_after up at x)
  stepped_after_weighs up =
      unless (is_void (kind_of x)) _ _ _ λ some.
      written_weighs at (weight x) _ (lvalue_of x) _ (lvalue_weighs x) λ l within. omega (arith, within, after_weight (kind_of x) at up l)

  address_of_weighs : (l : Option Lvalue) (kind : Kind) → IsWithin (weight x) l → Weighs (weight x + 2) (address_of l kind at)
  address_of_weighs None kind within = broken _ _
  address_of_weighs (Some (Named v place)) kind within = is _ (omega arith)
  address_of_weighs (Some (At e place)) kind within = is _ (omega (arith, within))

  pub address_weighs : (is_array : Bool) → Weighs (weight x + 2) (address is_array at x)
  address_weighs is_array = unless (is_array || is_void (kind_of x)) _ _ _ λ may. address_of_weighs (lvalue_of x) (kind_of x) (lvalue_weighs x)

-- casts
module _ (at : ℕ) (x : Operand) where
  cast_as_weighs : (c d : Class) (kind : ScalarType) → Weighs (weight x.value + 2) (cast_as c d kind at x)
  cast_as_weighs Integer Integer kind = is _ (omega arith)
  cast_as_weighs Pointer Pointer kind = is _ (omega arith)
  cast_as_weighs Pointer Integer kind = unless (not (x.null && same_type kind void_pointer)) _ _ _ λ null. is _ (omega arith)
  cast_as_weighs Integer Pointer kind = broken _ _
  cast_as_weighs Integer Nothing kind = broken _ _
  cast_as_weighs Pointer Nothing kind = broken _ _
  cast_as_weighs Nothing d kind = broken _ _

  pub cast_weighs : (kind : Kind) → Weighs (weight x.value + 2) (cast kind at x)
  cast_weighs None = is _ (omega arith)
  cast_weighs (Some kind) = cast_as_weighs (class_of (Some kind)) (class_at x) kind

-- arguments, and ports
pub passed_weigh : (kinds : List ScalarType) (at : ℕ) (xs : List Operand) → Gives (λ es. source_arguments_weight es ≤ operands_weight xs) (passed kinds at xs)
passed_weigh [] at [] = is _ (omega arith)
passed_weigh [] at (x ∷ xs) = unless (any_void (x ∷ xs)) _ _ _ λ some. broken _ _
passed_weigh (kind ∷ kinds) at [] = broken _ _
passed_weigh (kind ∷ kinds) at (x ∷ xs) =
    behind (given kind at x) _ (given_weighs kind at x) λ v first.
    behind (passed kinds at xs) _ (passed_weigh kinds at xs) λ vs others. is _ (omega (arith, first, others))

no_more_weighs : (n at : ℕ) (xs : List Operand) (next : Outcome Expr) → Weighs n next → Weighs n (no_more at xs next)
no_more_weighs n at [] next weighs = weighs
no_more_weighs n at (x ∷ xs) next weighs = broken _ _

pub input_weighs : (at : ℕ) (c : Class) (port : ℕ) (xs : List Operand) → Weighs 4 (input at c port xs)
input_weighs at c port xs =
    unless (not (is_integer c) || any_void xs) _ _ _ λ integer.
    unless (nat_lt 15 port) _ _ _ λ right. no_more_weighs 4 at xs _ (is _ (omega arith))

sent_weighs : (at port : ℕ) (xs : List Operand) → Weighs (operands_weight xs + 4) (sent at port xs)
sent_weighs at port [] = broken _ _
sent_weighs at port (x ∷ xs) = no_more_weighs _ at xs _ (is _ (omega arith))

pub output_weighs : (at : ℕ) (c : Class) (port : ℕ) (xs : List Operand) → Weighs (operands_weight xs + 4) (output at c port xs)
output_weighs at c port xs =
    unless (not (is_integer c) || not (is_word_first xs) || any_void xs) _ _ _ λ integers.
    unless (nat_lt 15 port) _ _ _ λ right. sent_weighs at port xs

-- constants
pub number_weighs : (value : ℕ) (marked decimal : Bool) (at : ℕ) → Weighs 2 (typed_number value marked decimal at)
number_weighs value marked decimal at =
    one_of (nat_lt 65535 value) _ _ (broken _ _)
    (one_of marked _ _ (is _ (omega arith))
    (one_of (nat_lt value 32768) _ _ (is _ (omega arith))
    (one_of decimal _ _ (broken _ _) (is _ (omega arith)))))
