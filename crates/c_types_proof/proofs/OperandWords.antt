-- What each operator makes of operands of words is of words.
use Rattle.std.proofs.Common.{◌≡◌, ◌<◌, ◌≤◌, ◌&&◌, ◌||◌, not, if◌then◌else◌, nat_lt, ℕ, Bool}
use Rattle.std.proofs.Common.{true, false, List, [], ◌∷◌, Option, Some, None, refl, arith, ltb-false}
use Rattle.std.specs.Prelude.{⊤}
use Rattle.c_tree.specs.declared.program.ScalarType.{ScalarType}
use Rattle.c_syntax.specs.declared.operator.UnaryOp.{UnaryOp}
use Rattle.c_syntax.specs.declared.operator.BinaryOp.{BinaryOp}
use Rattle.c_syntax.specs.declared.operator.BinaryOp.TheVariants as op
use Rattle.c_tree.specs.TypedTree.{Kind, Expr, Node, Lvalue, Named, At, Const, Read, Load, Assign, AssignOp, StepBefore, StepAfter, In, Out, Convert}
use Rattle.c_tree.specs.Eval.{kind_of, expression_place}
use Rattle.c_rules.specs.declared.fault.Rule.TheVariants.{Mismatch, NotLvalue, LongConstant, BadPort, ArgCount}
use Rattle.c_rules.specs.declared.class.Class.{Class}
use Rattle.c_rules.specs.declared.class.Class.TheVariants.{Nothing, Integer, Pointer}
use Rattle.c_rules.specs.Kinds.{int, unsigned, void_pointer, class_of, is_void, same_type, same_kind, is_void_pointer}
use Rattle.c_rules.specs.Outcome.{Is, Broken}
use Rattle.c_rules.specs.Operands.{Operand, class_at, converted, null_of, typed_number, pointer_given}
use Rattle.c_rules.specs.Operands.{given_as, given, Pair, common_of, balanced, null_like}
use Rattle.c_rules.specs.Operands.{converted_like, pointers_met, met_as, product_as, sum_as, pointers, difference_as, shift_as, order_as, typed_equality}
use Rattle.c_rules.specs.Operands.{binary_as, binary, unary_as, unary, negated, both_true}
use Rattle.c_rules.specs.Operands.{either_true, arms_as, picked, lvalue_of, written, assigned_as, assigned}
use Rattle.c_rules.specs.Operands.{takes, assigned_by, stepped_before, stepped_after, address_of, address}
use Rattle.c_rules.specs.Operands.{loaded_as, target_of, loaded, indexed, cast_as, cast, sized}
use Rattle.c_rules.specs.Operands.{any_void, passed, is_integer, no_more, input, is_word_first, sent, output}
use Rattle.c_rules.proofs.Formed.Context.{Gives, broken, is, behind, unless}
use Rattle.c_rules.proofs.Formed.GivesLemmas.{one_of}
use Rattle.c_tree.specs.TypedOfWords.{UsesWords, TargetUsesWords, AllUseWords}
use Rattle.c_types_proof.proofs.ConstantWords.{IsWord}

-- constants
number_by : (value at : ℕ) (long marked short decimal : Bool) → (long ≡ false → value < 65536)
    → Gives UsesWords (
    if long then Broken LongConstant at
    else if marked then Is (Node (Const value) (Some unsigned) at)
    else if short then Is (Node (Const value) (Some int) at)
    else if decimal then Broken LongConstant at
    else Is (Node (Const value) (Some unsigned) at))
number_by value at true marked short decimal few = broken LongConstant at
number_by value at false true short decimal few = is _ (few refl)
number_by value at false false true decimal few = is _ (few refl)
number_by value at false false false true few = broken LongConstant at
number_by value at false false false false few = is _ (few refl)

number_few : (value : ℕ) → nat_lt 65535 value ≡ false → value < 65536
number_few value short = let most : value ≤ 65535 = ltb-false 65535 value short in omega (arith, most)

pub number_words : (value : ℕ) (marked decimal : Bool) (at : ℕ) → Gives UsesWords (typed_number value marked decimal at)
number_words value marked decimal at = number_by value at (nat_lt 65535 value) marked (nat_lt value 32768) decimal (number_few value)

-- a value as one of this type
null_words : (kind : ScalarType) (e : Expr) → UsesWords (null_of kind e)
null_words kind e = omega arith

converted_words : (kind : ScalarType) (e : Expr) → UsesWords e → UsesWords (converted kind e)
converted_words kind e uses = by (same_kind (kind_of e) (Some kind))
  where
    by : (b : Bool) → UsesWords (if b then e else Node (Convert e) (Some kind) (expression_place e))
    by true = uses
    by false = uses

module _ (kind : ScalarType) (at : ℕ) (x : Operand) (uses : UsesWords x.value) where
  pointer_words : Gives UsesWords (pointer_given kind at x)
  pointer_words =
      one_of x.null _ _ (is _ (null_words kind x.value))
      (one_of (is_void_pointer (Some kind) || is_void_pointer (kind_of x.value)) _ _ (is _ (converted_words kind x.value uses))
      (unless (not (same_kind (kind_of x.value) (Some kind))) Mismatch at _ (λ same. is _ uses)))

  given_by : (c d : Class) → Gives UsesWords (given_as c d kind at x)
  given_by Integer Integer = is _ (converted_words kind x.value uses)
  given_by Pointer Integer = unless (not x.null) Mismatch at _ (λ null. is _ (null_words kind x.value))
  given_by Pointer Pointer = pointer_words
  given_by c d = broken Mismatch at

  pub given_words : Gives UsesWords (given kind at x)
  given_words = given_by (class_of (Some kind)) (class_at x)

-- two values of one type
abbrev PairUsesWords : Pair → Type 0
PairUsesWords p = UsesWords p.left × UsesWords p.right

balanced_words : (x y : Expr) → UsesWords x → UsesWords y → PairUsesWords (balanced x y)
balanced_words x y first second =
    (converted_words (common_of (kind_of x) (kind_of y)) x first, converted_words (common_of (kind_of x) (kind_of y)) y second)

null_alike : (x y : Expr) → UsesWords y → UsesWords (null_like x y)
null_alike (Node form None at) y uses = uses
null_alike (Node form (Some kind) at) y uses = null_words kind y

converted_alike : (x y : Expr) → UsesWords y → UsesWords (converted_like x y)
converted_alike (Node form None at) y uses = uses
converted_alike (Node form (Some kind) at) y uses = converted_words kind y uses

module _ (at : ℕ) (x y : Operand) (first : UsesWords x.value) (second : UsesWords y.value) where
  pointers_words : Gives PairUsesWords (pointers_met at x y)
  pointers_words =
      one_of (same_kind (kind_of x.value) (kind_of y.value)) _ _ (is _ (first, second))
      (one_of y.null _ _ (is _ (first, null_alike x.value y.value second))
      (one_of x.null _ _ (is _ (null_alike y.value x.value first, second))
      (one_of (is_void_pointer (kind_of x.value)) _ _ (is _ (first, converted_alike x.value y.value second))
      (unless (not (is_void_pointer (kind_of y.value))) Mismatch at _ (λ void. is _ (converted_alike y.value x.value first, second))))))

  met_words : (c d : Class) → Gives PairUsesWords (met_as c d at x y)
  met_words Integer Integer = is _ (balanced_words x.value y.value first second)
  met_words Pointer Pointer = pointers_words
  met_words Pointer Integer = unless (not y.null) Mismatch at _ (λ null. is _ (first, null_alike x.value y.value second))
  met_words Integer Pointer = unless (not x.null) Mismatch at _ (λ null. is _ (null_alike y.value x.value first, second))
  met_words c d = broken Mismatch at

  arms_words : (c d : Class) → Gives PairUsesWords (arms_as c d at x y)
  arms_words Nothing Nothing = is _ (first, second)
  arms_words c d = met_words c d

  pub picked_words : (test : Expr) → UsesWords test → Gives UsesWords (picked at test x y)
  picked_words test uses = unless (is_void (kind_of test)) Mismatch at _ (λ value.
      behind _ _ (arms_words (class_at x) (class_at y)) (λ p both. is _ (uses, both.0, both.1)))

-- between two operands
module _ (at : ℕ) (x y : Expr) (first : UsesWords x) (second : UsesWords y) where
  product_words : (o : BinaryOp) (c d : Class) → Gives UsesWords (product_as c d o at x y)
  product_words o Integer Integer = is _ (balanced_words x y first second)
  product_words o c d = broken Mismatch at

  sum_words : (c d : Class) → Gives UsesWords (sum_as c d at x y)
  sum_words Integer Integer = is _ (balanced_words x y first second)
  sum_words Pointer Integer = is _ (first, second)
  sum_words Integer Pointer = is _ (first, second)
  sum_words c d = broken Mismatch at

  like_pointers : (o : BinaryOp) → Gives UsesWords (pointers o at x y)
  like_pointers o = unless (not (same_kind (kind_of x) (kind_of y))) Mismatch at _ (λ same. is _ (first, second))

  difference_words : (c d : Class) → Gives UsesWords (difference_as c d at x y)
  difference_words Integer Integer = is _ (balanced_words x y first second)
  difference_words Pointer Integer = is _ (first, second)
  difference_words Pointer Pointer = like_pointers op.Sub
  difference_words c d = broken Mismatch at

  shift_words : (o : BinaryOp) (c d : Class) → Gives UsesWords (shift_as c d o at x y)
  shift_words o Integer Integer = is _ (first, second)
  shift_words o c d = broken Mismatch at

  order_words : (o : BinaryOp) (c d : Class) → Gives UsesWords (order_as c d o at x y)
  order_words o Integer Integer = is _ (balanced_words x y first second)
  order_words o Pointer Pointer = like_pointers o
  order_words o c d = broken Mismatch at

  pub both_words : Gives UsesWords (both_true at x y)
  both_words = unless (is_void (kind_of x) || is_void (kind_of y)) Mismatch at _ (λ values. is _ (first, second))

  pub either_words : Gives UsesWords (either_true at x y)
  either_words = unless (is_void (kind_of x) || is_void (kind_of y)) Mismatch at _ (λ values. is _ (first, second))

module _ (at : ℕ) (x y : Operand) (first : UsesWords x.value) (second : UsesWords y.value) where
  equality_words : (o : BinaryOp) → Gives UsesWords (typed_equality o at x y)
  equality_words o = behind _ _ (met_words at x y first second (class_at x) (class_at y)) (λ p both. is _ both)

  binary_by : (o : BinaryOp) (c d : Class) → Gives UsesWords (binary_as o c d at x y)
  binary_by op.Add c d = sum_words at x.value y.value first second c d
  binary_by op.Sub c d = difference_words at x.value y.value first second c d
  binary_by op.Mul c d = product_words at x.value y.value first second op.Mul c d
  binary_by op.Div c d = product_words at x.value y.value first second op.Div c d
  binary_by op.Rem c d = product_words at x.value y.value first second op.Rem c d
  binary_by op.And c d = product_words at x.value y.value first second op.And c d
  binary_by op.Or c d = product_words at x.value y.value first second op.Or c d
  binary_by op.Xor c d = product_words at x.value y.value first second op.Xor c d
  binary_by op.Shl c d = shift_words at x.value y.value first second op.Shl c d
  binary_by op.Shr c d = shift_words at x.value y.value first second op.Shr c d
  binary_by op.Eq c d = equality_words op.Eq
  binary_by op.Ne c d = equality_words op.Ne
  binary_by op.Lt c d = order_words at x.value y.value first second op.Lt c d
  binary_by op.Gt c d = order_words at x.value y.value first second op.Gt c d
  binary_by op.Le c d = order_words at x.value y.value first second op.Le c d
  binary_by op.Ge c d = order_words at x.value y.value first second op.Ge c d

  pub binary_words : (o : BinaryOp) → Gives UsesWords (binary o at x y)
  binary_words o = binary_by o (class_at x) (class_at y)

-- a node over what is written
written_words : (at : ℕ) (x : Expr) (node : Lvalue → Expr) → UsesWords x → ((l : Lvalue) → TargetUsesWords l → UsesWords (node l))
    → Gives UsesWords (written at (lvalue_of x) node)
written_words at (Node (Read v) kind place) node uses rest = is _ (rest (Named v place) tt)
written_words at (Node (Load e) kind place) node uses rest = is _ (rest (At e place) uses)
written_words at x node uses rest = broken NotLvalue at

-- of one operand
module _ (at : ℕ) (x : Expr) (uses : UsesWords x) where
  unary_by : (c : Class) (o : UnaryOp) → Gives UsesWords (unary_as c o at x)
  unary_by Integer o = is _ uses
  unary_by c o = broken Mismatch at

  pub unary_words : (o : UnaryOp) → Gives UsesWords (unary o at x)
  unary_words o = unary_by (class_of (kind_of x)) o

  pub negated_words : Gives UsesWords (negated at x)
  negated_words = unless (is_void (kind_of x)) Mismatch at _ (λ value. is _ uses)

  assigned_to : (kind : Kind) (y : Operand) → UsesWords y.value → Gives UsesWords (assigned_as kind at x y)
  assigned_to None y second = broken Mismatch at
  assigned_to (Some kind) y second =
      behind _ _ (given_words kind at y second) (λ v value. written_words at x (λ l. Node (Assign l v) (Some kind) at) uses (λ l target. (target, value)))

  pub assigned_words : (y : Operand) → UsesWords y.value → Gives UsesWords (assigned at x y)
  assigned_words y second = assigned_to (kind_of x) y second

  pub assigned_by_words : (o : BinaryOp) (y : Expr) → UsesWords y → Gives UsesWords (assigned_by o at x y)
  assigned_by_words o y second = unless (not (takes o (class_of (kind_of x)) (class_of (kind_of y)))) Mismatch at _ (λ taken.
      written_words at x (λ l. Node (AssignOp o l y) (kind_of x) at) uses (λ l target. (target, second)))

  pub before_words : (up : Bool) → Gives UsesWords (stepped_before up at x)
  before_words up = unless (is_void (kind_of x)) Mismatch at _ (λ value.
      written_words at x (λ l. Node (StepBefore up l) (kind_of x) at) uses (λ l target. target))

  pub after_words : (up : Bool) → Gives UsesWords (stepped_after up at x)
  after_words up = unless (is_void (kind_of x)) Mismatch at _ (λ value.
      written_words at x (λ l. Node (StepAfter up l) (kind_of x) at) uses (λ l target. target))

  loaded_by : (kind : Kind) → Gives UsesWords (loaded_as kind at x)
  loaded_by None = broken Mismatch at
  loaded_by (Some kind) = is _ uses

  pub loaded_words : Gives UsesWords (loaded at x)
  loaded_words = loaded_by (target_of (kind_of x) (class_of (kind_of x)))

  pub sized_words : (length : Option ℕ) → IsWord length → Gives UsesWords (sized length at x)
  sized_words (Some length) few = is _ few
  sized_words None few = unless (is_void (kind_of x)) Mismatch at _ (λ value. is _ (omega arith))

taken_words : (at : ℕ) (x : Expr) → UsesWords x → Gives UsesWords (address_of (lvalue_of x) (kind_of x) at)
taken_words at (Node (Read v) kind place) uses = is _ tt
taken_words at (Node (Load e) kind place) uses = is _ uses
taken_words at x uses = broken NotLvalue at

pub address_words : (is_array : Bool) (at : ℕ) (x : Expr) → UsesWords x → Gives UsesWords (address is_array at x)
address_words is_array at x uses = unless (is_array || is_void (kind_of x)) Mismatch at _ (λ object. taken_words at x uses)

pub indexed_words : (at : ℕ) (x y : Expr) → UsesWords x → UsesWords y → Gives UsesWords (indexed at x y)
indexed_words at x y first second =
    behind _ _ (sum_words at x y first second (class_of (kind_of x)) (class_of (kind_of y))) (λ z uses. loaded_words at z uses)

-- casts
cast_by : (kind : ScalarType) (at : ℕ) (x : Operand) → UsesWords x.value → (c d : Class) → Gives UsesWords (cast_as c d kind at x)
cast_by kind at x uses Integer Integer = is _ uses
cast_by kind at x uses Pointer Pointer = is _ uses
cast_by kind at x uses Pointer Integer = unless (not (x.null && same_type kind void_pointer)) Mismatch at _ (λ null. is _ (omega arith))
cast_by kind at x uses c d = broken Mismatch at

pub cast_words : (kind : Kind) (at : ℕ) (x : Operand) → UsesWords x.value → Gives UsesWords (cast kind at x)
cast_words None at x uses = is _ uses
cast_words (Some kind) at x uses = cast_by kind at x uses (class_of (Some kind)) (class_at x)

-- arguments, and ports
abbrev pub OperandsUseWords : List Operand → Type 0
OperandsUseWords [] = ⊤
OperandsUseWords (x ∷ xs) = UsesWords x.value × OperandsUseWords xs

pub passed_words : (kinds : List ScalarType) (at : ℕ) (xs : List Operand) → OperandsUseWords xs → Gives AllUseWords (passed kinds at xs)
passed_words [] at [] each = is _ tt
passed_words [] at (x ∷ xs) each = unless (any_void (x ∷ xs)) Mismatch at _ (λ values. broken ArgCount at)
passed_words (kind ∷ kinds) at [] each = broken ArgCount at
passed_words (kind ∷ kinds) at (x ∷ xs) each =
    behind _ _ (given_words kind at x each.0) (λ v value. behind _ _ (passed_words kinds at xs each.1) (λ vs others. is _ (value, others)))

module _ (at : ℕ) (class : Class) (port : ℕ) where
  received : (xs : List Operand) → Gives UsesWords (no_more at xs (Is (Node (In port) (Some int) at)))
  received [] = is _ tt
  received (x ∷ xs) = broken ArgCount at

  pub input_words : (xs : List Operand) → Gives UsesWords (input at class port xs)
  input_words xs = unless (not (is_integer class) || any_void xs) Mismatch at _ (λ values. unless (nat_lt 15 port) BadPort at _ (λ within. received xs))

  written_out : (x : Operand) (xs : List Operand) → UsesWords x.value → Gives UsesWords (no_more at xs (Is (Node (Out port x.value) None at)))
  written_out x [] uses = is _ uses
  written_out x (y ∷ ys) uses = broken ArgCount at

  sent_words : (xs : List Operand) → OperandsUseWords xs → Gives UsesWords (sent at port xs)
  sent_words [] each = broken ArgCount at
  sent_words (x ∷ xs) each = written_out x xs each.0

  pub output_words : (xs : List Operand) → OperandsUseWords xs → Gives UsesWords (output at class port xs)
  output_words xs each = unless (not (is_integer class) || not (is_word_first xs) || any_void xs) Mismatch at _ (λ values.
      unless (nat_lt 15 port) BadPort at _ (λ within. sent_words xs each))
