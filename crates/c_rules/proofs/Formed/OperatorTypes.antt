-- Operators on values: what each makes of typed operands is typed.
use Rattle.std.proofs.Common.{◌≡◌, ℕ, true, false, not, ◌||◌, Some, refl, subst}
use Rattle.std.proofs.lemmas.Bool.{or_parts, not-false}
use Rattle.c_tree.specs.c_syntax.declared.operator.UnaryOp.{UnaryOp}
use Rattle.c_tree.specs.c_syntax.declared.operator.BinaryOp.{BinaryOp}
use Rattle.c_tree.specs.c_syntax.declared.operator.BinaryOp.TheVariants as op
use Rattle.c_tree.specs.TypedTree.{Expr}
use Rattle.c_tree.specs.Eval.{kind_of}
use Rattle.c_rules.specs.declared.fault.Rule.TheVariants.{Mismatch}
use Rattle.c_rules.specs.declared.class.Class.{Class}
use Rattle.c_rules.specs.declared.class.Class.TheVariants.{Integer, Pointer}
use Rattle.c_rules.specs.Kinds.{int, same_kind, is_void}
use Rattle.c_rules.specs.Operands.{Operand, Pair, balanced, on_pair, calculated, product_as, sum_as, pointers, difference_as, shift_as, order_as, typed_equality, binary_as, binary, unary_as, unary, negated, both_true, either_true}
use Rattle.c_tree.specs.Kinds.{IsInteger, IsPointer}
use Rattle.c_tree.specs.WellFormed.{Names, Takes, Calculates, Shifts, Compares, Moves, Moves_right, Subtracts, IsWellTyped, is_comparison, is_shift}
use Rattle.c_rules.proofs.Formed.Context.{Gives, broken, is, behind, unless}
use Rattle.c_rules.proofs.Formed.OperandKinds.{OfClass, of_class, pointer_is_value, value_unless_void, kinds_same}
use Rattle.c_rules.proofs.Formed.OperandTypes.{IsOperand, AreMet, kind_typed, balanced_met, balanced_integer, met_typed}

module _ (names : Names) where
  -- two values of one type
  compared : (o : BinaryOp) (at : ℕ) (p : Pair) → is_comparison o ≡ true → AreMet names p → IsOperand names (on_pair o at (Some int) p)
  compared o at p row met =
      let takes : Takes o (kind_of p.left) (kind_of p.right) (Some int) = subst (λ k. Takes o (kind_of p.left) k (Some int)) met.0.2 (Compares row met.1) in
      ((tt {0}, (met.0.0, met.0.1, takes)), tt {0})

  module _ (x y : Expr) (typed : IsWellTyped names x) (typed_other : IsWellTyped names y) (integer : IsInteger (kind_of x)) (other : IsInteger (kind_of y)) where
    calculated_typed : (o : BinaryOp) (at : ℕ) → is_comparison o ≡ false → is_shift o ≡ false → IsOperand names (calculated o at (balanced x y))
    calculated_typed o at row other_row =
        let p : Pair = balanced x y in
        let met : AreMet names p = balanced_met names x y typed typed_other integer other in
        let takes : Takes o (kind_of p.left) (kind_of p.right) (kind_of p.left) =
        subst (λ k. Takes o (kind_of p.left) k (kind_of p.left)) met.0.2 (Calculates row other_row (balanced_integer names x y typed typed_other integer other))
        in ((kind_typed names p.left met.0.0, (met.0.0, met.0.1, takes)), tt {0})

  module _ (at : ℕ) (x y : Expr) (typed : IsWellTyped names x) (typed_other : IsWellTyped names y) where
    product_typed : (o : BinaryOp) (c d : Class) → is_comparison o ≡ false → is_shift o ≡ false → OfClass c (kind_of x) → OfClass d (kind_of y)
        → Gives (IsOperand names) (product_as c d o at x y)
    product_typed o Integer Integer row other_row class other = is _ (calculated_typed x y typed typed_other class other o at row other_row)
    product_typed o c d row other_row class other = broken Mismatch at

    pub sum_typed : (c d : Class) → OfClass c (kind_of x) → OfClass d (kind_of y) → Gives (IsOperand names) (sum_as c d at x y)
    sum_typed Integer Integer class other = is _ (calculated_typed x y typed typed_other class other op.Add at refl refl)
    sum_typed Pointer Integer class other = is _ ((kind_typed names x typed, (typed, typed_other, Moves refl class other)), tt {0})
    sum_typed Integer Pointer class other = is _ ((kind_typed names y typed_other, (typed, typed_other, Moves_right class other)), tt {0})
    sum_typed c d class other = broken Mismatch at

    like_pointers : (o : BinaryOp) → IsPointer (kind_of x) → Takes o (kind_of x) (kind_of x) (Some int) → Gives (IsOperand names) (pointers o at x y)
    like_pointers o pointer takes = unless (not (same_kind (kind_of x) (kind_of y))) Mismatch at _ (λ unlike.
        let same : kind_of x ≡ kind_of y = kinds_same (kind_of x) (kind_of y) (not-false _ unlike) in
        is _ ((tt {0}, (typed, typed_other, subst (λ k. Takes o (kind_of x) k (Some int)) same takes)), tt {0}))

    difference_typed : (c d : Class) → OfClass c (kind_of x) → OfClass d (kind_of y) → Gives (IsOperand names) (difference_as c d at x y)
    difference_typed Integer Integer class other = is _ (calculated_typed x y typed typed_other class other op.Sub at refl refl)
    difference_typed Pointer Integer class other = is _ ((kind_typed names x typed, (typed, typed_other, Moves refl class other)), tt {0})
    difference_typed Pointer Pointer class other = like_pointers op.Sub class (Subtracts class)
    difference_typed c d class other = broken Mismatch at

    shift_typed : (o : BinaryOp) (c d : Class) → is_shift o ≡ true → OfClass c (kind_of x) → OfClass d (kind_of y) → Gives (IsOperand names) (shift_as c d o at x y)
    shift_typed o Integer Integer row class other = is _ ((kind_typed names x typed, (typed, typed_other, Shifts row class other)), tt {0})
    shift_typed o c d row class other = broken Mismatch at

    order_typed : (o : BinaryOp) (c d : Class) → is_comparison o ≡ true → OfClass c (kind_of x) → OfClass d (kind_of y) → Gives (IsOperand names) (order_as c d o at x y)
    order_typed o Integer Integer row class other = is _ (compared o at (balanced x y) row (balanced_met names x y typed typed_other class other))
    order_typed o Pointer Pointer row class other = like_pointers o class (Compares row (pointer_is_value (kind_of x) class))
    order_typed o c d row class other = broken Mismatch at

    pub both_typed : Gives (IsOperand names) (both_true at x y)
    both_typed = unless (is_void (kind_of x) || is_void (kind_of y)) Mismatch at _ (λ values.
        let parts = or_parts _ _ values in
        is _ ((tt {0}, (typed, typed_other, value_unless_void (kind_of x) parts.0, value_unless_void (kind_of y) parts.1, refl)), tt {0}))

    pub either_typed : Gives (IsOperand names) (either_true at x y)
    either_typed = unless (is_void (kind_of x) || is_void (kind_of y)) Mismatch at _ (λ values.
        let parts = or_parts _ _ values in
        is _ ((tt {0}, (typed, typed_other, value_unless_void (kind_of x) parts.0, value_unless_void (kind_of y) parts.1, refl)), tt {0}))

  module _ (at : ℕ) (x : Expr) (typed : IsWellTyped names x) where
    unary_by : (c : Class) (o : UnaryOp) → OfClass c (kind_of x) → Gives (IsOperand names) (unary_as c o at x)
    unary_by Integer o class = is _ ((kind_typed names x typed, (typed, class, refl)), tt {0})
    unary_by c o class = broken Mismatch at

    pub unary_typed : (o : UnaryOp) → Gives (IsOperand names) (unary o at x)
    unary_typed o = unary_by _ o (of_class (kind_of x))

    pub negated_typed : Gives (IsOperand names) (negated at x)
    negated_typed = unless (is_void (kind_of x)) Mismatch at _ (λ value. is _ ((tt {0}, (typed, value_unless_void (kind_of x) value, refl)), tt {0}))

  module _ (at : ℕ) (x y : Operand) (typed : IsWellTyped names x.value) (typed_other : IsWellTyped names y.value) where
    equality_typed : (o : BinaryOp) → is_comparison o ≡ true → Gives (IsOperand names) (typed_equality o at x y)
    equality_typed o row =
        behind _ _ (met_typed names at x y typed typed_other _ _ (of_class (kind_of x.value)) (of_class (kind_of y.value))) (λ p met. is _ (compared o at p row met))

    binary_by : (o : BinaryOp) (c d : Class) → OfClass c (kind_of x.value) → OfClass d (kind_of y.value) → Gives (IsOperand names) (binary_as o c d at x y)
    binary_by op.Add c d class other = sum_typed at x.value y.value typed typed_other c d class other
    binary_by op.Sub c d class other = difference_typed at x.value y.value typed typed_other c d class other
    binary_by op.Mul c d class other = product_typed at x.value y.value typed typed_other op.Mul c d refl refl class other
    binary_by op.Div c d class other = product_typed at x.value y.value typed typed_other op.Div c d refl refl class other
    binary_by op.Rem c d class other = product_typed at x.value y.value typed typed_other op.Rem c d refl refl class other
    binary_by op.And c d class other = product_typed at x.value y.value typed typed_other op.And c d refl refl class other
    binary_by op.Or c d class other = product_typed at x.value y.value typed typed_other op.Or c d refl refl class other
    binary_by op.Xor c d class other = product_typed at x.value y.value typed typed_other op.Xor c d refl refl class other
    binary_by op.Shl c d class other = shift_typed at x.value y.value typed typed_other op.Shl c d refl class other
    binary_by op.Shr c d class other = shift_typed at x.value y.value typed typed_other op.Shr c d refl class other
    binary_by op.Eq c d class other = equality_typed op.Eq refl
    binary_by op.Ne c d class other = equality_typed op.Ne refl
    binary_by op.Lt c d class other = order_typed at x.value y.value typed typed_other op.Lt c d refl class other
    binary_by op.Gt c d class other = order_typed at x.value y.value typed typed_other op.Gt c d refl class other
    binary_by op.Le c d class other = order_typed at x.value y.value typed typed_other op.Le c d refl class other
    binary_by op.Ge c d class other = order_typed at x.value y.value typed typed_other op.Ge c d refl class other

    pub binary_typed : (o : BinaryOp) → Gives (IsOperand names) (binary o at x y)
    binary_typed o = binary_by o _ _ (of_class (kind_of x.value)) (of_class (kind_of y.value))
