-- Nodes that break one rule alone: that types agree.
use Rattle.std.proofs.Common.{◌≡◌, ℕ, not, Bool, true, false, if◌then◌else◌, [], ◌∷◌, Option, Some, None, refl, sym, ap}
use Rattle.std.specs.Prelude.{⊤}
use Rattle.c_tree.specs.c_syntax.declared.operator.BinaryOp.{BinaryOp}
use Rattle.c_tree.specs.c_syntax.declared.operator.BinaryOp.TheVariants as op
use Rattle.c_tree.specs.c_syntax.declared.operator.UnaryOp.{UnaryOp}
use Rattle.c_tree.specs.declared.program.ScalarType.{ScalarType}
use Rattle.c_tree.specs.TypedTree.{Kind, Expr}
use Rattle.c_tree.specs.Eval.{kind_of}
use Rattle.c_rules.specs.declared.fault.Rule.TheVariants.{Mismatch}
use Rattle.c_rules.specs.declared.class.Class.{Class}
use Rattle.c_rules.specs.declared.class.Class.TheVariants.{Nothing, Integer, Pointer}
use Rattle.c_rules.specs.Outcome.{Outcome, Is, Broken, ◌>>=◌, breaks}
use Rattle.c_rules.specs.Kinds.{is_void_pointer, same_kind, class_of}
use Rattle.c_rules.specs.Operands.{Operand, given, given_as, pointers_met, met_as, product_as, sum_as, difference_as, shift_as, order_as, typed_equality, binary_as, binary, unary_as, unary, negated, both_true, either_true, arms_as, picked, loaded_as, loaded, indexed, cast_as, cast, sized}
use Rattle.c_rules.specs.Visits.{visit, rule_of}
use Rattle.c_rules.proofs.Walked.Finding.{Finds}

abbrev MayMismatch : {A : Type 0} → ℕ → Outcome A → Type 0
MayMismatch at (Is a) = ⊤
MayMismatch at (Broken rule place) = (rule ≡ Mismatch) × (place ≡ at)

-- at this place, types that don't agree are all that an outcome may break
pub record Mismatches {A : Type 0} (at : ℕ) (o : Outcome A) : Type 0 where
  pub holds : MayMismatch at o

module _ {A : Type 0} {at : ℕ} where
  pub typed : (a : A) → Mismatches at (Is a)
  typed a = record { holds = tt }

  pub mismatch : Mismatches {A = A} at (Broken Mismatch at)
  mismatch = record { holds = (refl, refl) }

  pub if_not : (b : Bool) (o : Outcome A) → Mismatches at o → Mismatches at (breaks b Mismatch at o)
  if_not true o only = mismatch
  if_not false o only = only

  pub one_of : (b : Bool) (o p : Outcome A) → Mismatches at o → Mismatches at p → Mismatches at (if b then o else p)
  one_of true o p first second = first
  one_of false o p first second = second

  pub behind : {B : Type 0} (o : Outcome A) (f : A → Outcome B) → Mismatches at o → ((a : A) → Mismatches at (f a)) → Mismatches at (o >>= f)
  behind (Is a) f first second = second a
  behind (Broken rule place) f first second = record { holds = first.holds }

  -- its node breaks what it breaks
  pub finds_mismatch : (o : Outcome A) → Mismatches at o → Finds (visit at (rule_of o) ∷ []) o
  finds_mismatch (Is a) only = refl
  finds_mismatch (Broken rule place) only = ap (λ n. Some (record { rule = rule; at = n })) (sym only.holds.1)

module _ (at : ℕ) where
  -- values as those of a type
  given_as_only : (c d : Class) (kind : ScalarType) (x : Operand) → Mismatches at (given_as c d kind at x)
  given_as_only Integer Integer kind x = typed _
  given_as_only Pointer Integer kind x = if_not _ _ (typed _)
  given_as_only Pointer Pointer kind x = one_of x.null _ _ (typed _) (one_of _ _ _ (typed _) (if_not _ _ (typed _)))
  given_as_only c d kind x = mismatch

  pub given_only : (kind : ScalarType) (x : Operand) → Mismatches at (given kind at x)
  given_only kind x = given_as_only (class_of (Some kind)) _ kind x

  -- two values as one type
  pointers_met_only : (x y : Operand) → Mismatches at (pointers_met at x y)
  pointers_met_only x y = one_of (same_kind (kind_of x.value) (kind_of y.value)) _ _ (typed _) (one_of y.null _ _ (typed _) (one_of x.null _ _ (typed _)
      (one_of (is_void_pointer (kind_of x.value)) _ _ (typed _) (if_not (not (is_void_pointer (kind_of y.value))) _ (typed _)))))

  met_as_only : (c d : Class) (x y : Operand) → Mismatches at (met_as c d at x y)
  met_as_only Integer Integer x y = typed _
  met_as_only Pointer Pointer x y = pointers_met_only x y
  met_as_only Pointer Integer x y = if_not _ _ (typed _)
  met_as_only Integer Pointer x y = if_not _ _ (typed _)
  met_as_only c d x y = mismatch

  -- operators
  product_only : (c d : Class) (o : BinaryOp) (x y : Expr) → Mismatches at (product_as c d o at x y)
  product_only Integer Integer o x y = typed _
  product_only c d o x y = mismatch

  sum_as_only : (c d : Class) (x y : Expr) → Mismatches at (sum_as c d at x y)
  sum_as_only Integer Integer x y = typed _
  sum_as_only Pointer Integer x y = typed _
  sum_as_only Integer Pointer x y = typed _
  sum_as_only c d x y = mismatch

  difference_only : (c d : Class) (x y : Expr) → Mismatches at (difference_as c d at x y)
  difference_only Integer Integer x y = typed _
  difference_only Pointer Integer x y = typed _
  difference_only Pointer Pointer x y = if_not _ _ (typed _)
  difference_only c d x y = mismatch

  shift_only : (c d : Class) (o : BinaryOp) (x y : Expr) → Mismatches at (shift_as c d o at x y)
  shift_only Integer Integer o x y = typed _
  shift_only c d o x y = mismatch

  order_only : (c d : Class) (o : BinaryOp) (x y : Expr) → Mismatches at (order_as c d o at x y)
  order_only Integer Integer o x y = typed _
  order_only Pointer Pointer o x y = if_not _ _ (typed _)
  order_only c d o x y = mismatch

  equality_only : (o : BinaryOp) (x y : Operand) → Mismatches at (typed_equality o at x y)
  equality_only o x y = behind _ _ (met_as_only _ _ x y) (λ p. typed _)

  binary_as_only : (o : BinaryOp) (c d : Class) (x y : Operand) → Mismatches at (binary_as o c d at x y)
  binary_as_only op.Add c d x y = sum_as_only c d x.value y.value
  binary_as_only op.Sub c d x y = difference_only c d x.value y.value
  binary_as_only op.Mul c d x y = product_only c d op.Mul x.value y.value
  binary_as_only op.Div c d x y = product_only c d op.Div x.value y.value
  binary_as_only op.Rem c d x y = product_only c d op.Rem x.value y.value
  binary_as_only op.And c d x y = product_only c d op.And x.value y.value
  binary_as_only op.Or c d x y = product_only c d op.Or x.value y.value
  binary_as_only op.Xor c d x y = product_only c d op.Xor x.value y.value
  binary_as_only op.Shl c d x y = shift_only c d op.Shl x.value y.value
  binary_as_only op.Shr c d x y = shift_only c d op.Shr x.value y.value
  binary_as_only op.Eq c d x y = equality_only op.Eq x y
  binary_as_only op.Ne c d x y = equality_only op.Ne x y
  binary_as_only op.Lt c d x y = order_only c d op.Lt x.value y.value
  binary_as_only op.Gt c d x y = order_only c d op.Gt x.value y.value
  binary_as_only op.Le c d x y = order_only c d op.Le x.value y.value
  binary_as_only op.Ge c d x y = order_only c d op.Ge x.value y.value

  pub binary_only : (o : BinaryOp) (x y : Operand) → Mismatches at (binary o at x y)
  binary_only o x y = binary_as_only o _ _ x y

  unary_as_only : (c : Class) (o : UnaryOp) (x : Expr) → Mismatches at (unary_as c o at x)
  unary_as_only Integer o x = typed _
  unary_as_only c o x = mismatch

  pub unary_only : (o : UnaryOp) (x : Expr) → Mismatches at (unary o at x)
  unary_only o x = unary_as_only (class_of (kind_of x)) o x

  pub negated_only : (x : Expr) → Mismatches at (negated at x)
  negated_only x = if_not _ _ (typed _)

  pub both_true_only : (x y : Expr) → Mismatches at (both_true at x y)
  both_true_only x y = if_not _ _ (typed _)

  pub either_true_only : (x y : Expr) → Mismatches at (either_true at x y)
  either_true_only x y = if_not _ _ (typed _)

  arms_only : (c d : Class) (x y : Operand) → Mismatches at (arms_as c d at x y)
  arms_only Nothing Nothing x y = typed _
  arms_only c d x y = met_as_only c d x y

  pub picked_only : (t : Expr) (x y : Operand) → Mismatches at (picked at t x y)
  picked_only t x y = if_not _ _ (behind _ _ (arms_only _ _ x y) (λ p. typed _))

  -- what a pointer points to
  loaded_as_only : (kind : Kind) (x : Expr) → Mismatches at (loaded_as kind at x)
  loaded_as_only None x = mismatch
  loaded_as_only (Some kind) x = typed _

  pub loaded_only : (x : Expr) → Mismatches at (loaded at x)
  loaded_only x = loaded_as_only _ x

  pub indexed_only : (x y : Expr) → Mismatches at (indexed at x y)
  indexed_only x y = behind _ _ (sum_as_only _ _ x y) loaded_only

  -- casts and sizeof
  cast_as_only : (c d : Class) (kind : ScalarType) (x : Operand) → Mismatches at (cast_as c d kind at x)
  cast_as_only Integer Integer kind x = typed _
  cast_as_only Pointer Pointer kind x = typed _
  cast_as_only Pointer Integer kind x = if_not _ _ (typed _)
  cast_as_only c d kind x = mismatch

  pub cast_only : (kind : Kind) (x : Operand) → Mismatches at (cast kind at x)
  cast_only None x = typed _
  cast_only (Some kind) x = cast_as_only _ _ kind x

  pub sized_only : (length : Option ℕ) (x : Expr) → Mismatches at (sized length at x)
  sized_only (Some n) x = typed _
  sized_only None x = if_not _ _ (typed _)
