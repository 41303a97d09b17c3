-- What operators make of typed operands, where names and places are others.
use Rattle.std.proofs.Common.{◌≡◌, ℕ, ◌&&◌, ◌||◌, not, nat_lt, Bool, true, false, if◌then◌else◌, List, [], ◌∷◌, map, Option, option_map, Some, None, refl, ap, ◌∙◌}
use Rattle.c_tree.specs.declared.program.ScalarType.{ScalarType}
use Rattle.c_tree.specs.c_syntax.declared.operator.UnaryOp.{UnaryOp}
use Rattle.c_tree.specs.c_syntax.declared.operator.BinaryOp.{BinaryOp}
use Rattle.c_tree.specs.c_syntax.declared.operator.BinaryOp.TheVariants as op
use Rattle.c_tree.specs.TypedTree.{Kind, Expr, Node, Lvalue, Named, At, Read, Load, Unary, Binary, Pick, Assign, AssignOp, StepBefore, StepAfter, In, Out, Convert, Exprs}
use Rattle.c_tree.specs.TypedTree.{more}
use Rattle.c_tree.specs.Eval.{kind_of, expression_place}
use Rattle.c_rules.specs.declared.fault.Rule.{Rule}
use Rattle.c_rules.specs.declared.fault.Rule.TheVariants.{Mismatch, BadPort, ArgCount}
use Rattle.c_rules.specs.declared.class.Class.{Class}
use Rattle.c_rules.specs.declared.class.Class.TheVariants.{Nothing, Integer, Pointer}
use Rattle.c_rules.specs.Outcome.{Outcome, Is, Broken, ◌>>=◌, breaks}
use Rattle.c_rules.specs.Kinds.{int, void_pointer, class_of, is_void, same_type, same_kind, is_void_pointer}
use Rattle.c_rules.specs.Operands.{Operand, Pair, class_at, converted, null_of, typed_number, pointer_given, given_as, given, common_of, balanced, null_like, converted_like}
use Rattle.c_rules.specs.Operands.{pointers_met, met_as, met, on_pair, calculated, product_as, sum_as, sum, pointers, difference_as, shift_as, order_as, typed_equality, binary_as}
use Rattle.c_rules.specs.Operands.{binary, unary_as, unary, negated, both_true, either_true, arms_as, picked, lvalue_of, written, assigned_as, assigned, takes, assigned_by}
use Rattle.c_rules.specs.Operands.{stepped_before, stepped_after, address_of, address, loaded_as, target_of, loaded, indexed, cast_as, cast, typed_comma, sized, any_void, passed}
use Rattle.c_rules.specs.Operands.{is_integer, no_more, input, is_word_first, sent, output}
use Rattle.c_renaming.specs.Renaming.{Renaming}
use Rattle.c_renaming.specs.RenamedPrograms.{renamed_value, renamed_target, renamed_values}
use Rattle.c_renaming.proofs.OutcomeLemmas.{renamed_outcome, renamed_operand, bind_follows}

-- of two outcomes the one that a test picks, and a rule of a node
pub if_follows : {A B : Type 0} (place : ℕ → ℕ) (f : A → B) (b : Bool) (x y : Outcome A) (z w : Outcome B)
    → z ≡ renamed_outcome place f x → w ≡ renamed_outcome place f y
    → (if b then z else w) ≡ renamed_outcome place f (if b then x else y)
if_follows place f true x y z w p q = p
if_follows place f false x y z w p q = q

pub breaks_follows : {A B : Type 0} (place : ℕ → ℕ) (f : A → B) (b : Bool) (rule : Rule) (at : ℕ) (x : Outcome A) (z : Outcome B)
    → z ≡ renamed_outcome place f x
    → breaks b rule (place at) z ≡ renamed_outcome place f (breaks b rule at x)
breaks_follows place f true rule at x z p = refl
breaks_follows place f false rule at x z p = p

-- of two values the one that a test picks
if_mapped : {A B : Type 0} (f : A → B) (b : Bool) (x y : A) (z w : B) → z ≡ f x → w ≡ f y → (if b then z else w) ≡ f (if b then x else y)
if_mapped f true x y z w p q = p
if_mapped f false x y z w p q = q

abbrev operand_of : Expr → Bool → Operand
operand_of e b = record { value = e; null = b }

abbrev pair : Expr → Expr → Pair
pair x y = record { left = x; right = y }

module _ (r : Renaming) where
  -- two values with other places
  abbrev pub renamed_pair : Pair → Pair
  renamed_pair p = record { left = renamed_value r p.left; right = renamed_value r p.right }

  pub kind_renamed : (e : Expr) → kind_of (renamed_value r e) ≡ kind_of e
  kind_renamed (Node form kind at) = refl

  pub place_renamed : (e : Expr) → expression_place (renamed_value r e) ≡ r.place (expression_place e)
  place_renamed (Node form kind at) = refl

  pub class_at_renamed : (x : Operand) → class_at (renamed_operand r x) ≡ class_at x
  class_at_renamed x = ap class_of (kind_renamed x.value)

  -- conversions
  pub converted_renamed : (kind : ScalarType) (e : Expr) → converted kind (renamed_value r e) ≡ renamed_value r (converted kind e)
  converted_renamed kind (Node form k at) =
      if_mapped (renamed_value r) (same_kind k (Some kind)) (Node form k at) (Node (Convert (Node form k at)) (Some kind) at) _ _ refl refl

  pub null_of_renamed : (kind : ScalarType) (e : Expr) → null_of kind (renamed_value r e) ≡ renamed_value r (null_of kind e)
  null_of_renamed kind (Node form k at) = refl

  pub null_like_renamed : (x y : Expr) → null_like (renamed_value r x) (renamed_value r y) ≡ renamed_value r (null_like x y)
  null_like_renamed (Node form None at) y = refl
  null_like_renamed (Node form (Some kind) at) y = null_of_renamed kind y

  pub converted_like_renamed : (x y : Expr) → converted_like (renamed_value r x) (renamed_value r y) ≡ renamed_value r (converted_like x y)
  converted_like_renamed (Node form None at) y = refl
  converted_like_renamed (Node form (Some kind) at) y = converted_renamed kind y

  -- constants
  pub typed_number_renamed : (value : ℕ) (marked decimal : Bool) (at : ℕ)
      → typed_number value marked decimal (r.place at) ≡ renamed_outcome r.place (renamed_value r) (typed_number value marked decimal at)
  typed_number_renamed value marked decimal at =
      if_follows r.place (renamed_value r) (nat_lt 65535 value) _ _ _ _ refl
      (if_follows r.place (renamed_value r) marked _ _ _ _ refl
      (if_follows r.place (renamed_value r) (nat_lt value 32768) _ _ _ _ refl
      (if_follows r.place (renamed_value r) decimal _ _ _ _ refl refl)))

  -- what a value gives where one of a type is wanted
  pub pointer_given_renamed : (kind : ScalarType) (at : ℕ) (e : Expr) (null : Bool)
      → pointer_given kind (r.place at) (operand_of (renamed_value r e) null) ≡ renamed_outcome r.place (renamed_value r) (pointer_given kind at (operand_of e null))
  pointer_given_renamed kind at (Node form k p) null =
      if_follows r.place (renamed_value r) null _ _ _ _ refl
      (if_follows r.place (renamed_value r) (is_void_pointer (Some kind) || is_void_pointer k) _ _ _ _ (ap Is (converted_renamed kind (Node form k p)))
      (breaks_follows r.place (renamed_value r) (not (same_kind k (Some kind))) Mismatch at _ _ refl))

  given_as_renamed : (c d : Class) (kind : ScalarType) (at : ℕ) (x : Operand)
      → given_as c d kind (r.place at) (renamed_operand r x) ≡ renamed_outcome r.place (renamed_value r) (given_as c d kind at x)
  given_as_renamed Integer Integer kind at x = ap Is (converted_renamed kind x.value)
  given_as_renamed Pointer Integer kind at x =
      breaks_follows r.place (renamed_value r) (not x.null) Mismatch at (Is (null_of kind x.value)) (Is (null_of kind (renamed_value r x.value)))
      (ap Is (null_of_renamed kind x.value))
  given_as_renamed Pointer Pointer kind at x = pointer_given_renamed kind at x.value x.null
  given_as_renamed c d kind at x = refl

  pub given_renamed : (kind : ScalarType) (at : ℕ) (x : Operand)
      → given kind (r.place at) (renamed_operand r x) ≡ renamed_outcome r.place (renamed_value r) (given kind at x)
  given_renamed kind at x =
      ap (λ (c : Class). given_as (class_of (Some kind)) c kind (r.place at) (renamed_operand r x)) (class_at_renamed x)
      ∙ given_as_renamed (class_of (Some kind)) (class_at x) kind at x

  -- two values as one type
  pair_same : (a b c d : Expr) → a ≡ c → b ≡ d → pair a b ≡ pair c d
  pair_same a b c d p q = ap (λ (z : Expr). pair z b) p ∙ ap (λ (z : Expr). pair c z) q

  pub balanced_renamed : (x y : Expr) → balanced (renamed_value r x) (renamed_value r y) ≡ renamed_pair (balanced x y)
  balanced_renamed (Node f k p) (Node g l q) =
      pair_same _ _ _ _ (converted_renamed (common_of k l) (Node f k p)) (converted_renamed (common_of k l) (Node g l q))

  pointers_met_parts : (at : ℕ) (a b : Expr) (m n : Bool)
      → pointers_met (r.place at) (operand_of (renamed_value r a) m) (operand_of (renamed_value r b) n)
      ≡ renamed_outcome r.place renamed_pair (pointers_met at (operand_of a m) (operand_of b n))
  pointers_met_parts at (Node f k p) (Node g l q) m n =
      if_follows r.place renamed_pair (same_kind k l) _ _ _ _ refl
      (if_follows r.place renamed_pair n _ _ _ _ (ap (λ (z : Expr). Is (pair (renamed_value r (Node f k p)) z)) (null_like_renamed (Node f k p) (Node g l q)))
      (if_follows r.place renamed_pair m _ _ _ _ (ap (λ (z : Expr). Is (pair z (renamed_value r (Node g l q)))) (null_like_renamed (Node g l q) (Node f k p)))
      (if_follows r.place renamed_pair (is_void_pointer k) _ _ _ _
      (ap (λ (z : Expr). Is (pair (renamed_value r (Node f k p)) z)) (converted_like_renamed (Node f k p) (Node g l q)))
      (breaks_follows r.place renamed_pair (not (is_void_pointer l)) Mismatch at _ _
      (ap (λ (z : Expr). Is (pair z (renamed_value r (Node g l q)))) (converted_like_renamed (Node g l q) (Node f k p)))))))

  met_as_renamed : (c d : Class) (at : ℕ) (x y : Operand)
      → met_as c d (r.place at) (renamed_operand r x) (renamed_operand r y) ≡ renamed_outcome r.place renamed_pair (met_as c d at x y)
  met_as_renamed Integer Integer at x y = ap Is (balanced_renamed x.value y.value)
  met_as_renamed Pointer Pointer at x y = pointers_met_parts at x.value y.value x.null y.null
  met_as_renamed Pointer Integer at x y =
      breaks_follows r.place renamed_pair (not y.null) Mismatch at (Is (pair x.value (null_like x.value y.value))) _
      (ap (λ (z : Expr). Is (pair (renamed_value r x.value) z)) (null_like_renamed x.value y.value))
  met_as_renamed Integer Pointer at x y =
      breaks_follows r.place renamed_pair (not x.null) Mismatch at (Is (pair (null_like y.value x.value) y.value)) _
      (ap (λ (z : Expr). Is (pair z (renamed_value r y.value))) (null_like_renamed y.value x.value))
  met_as_renamed c d at x y = refl

  pub met_renamed : (at : ℕ) (x y : Operand)
      → met (r.place at) (renamed_operand r x) (renamed_operand r y) ≡ renamed_outcome r.place renamed_pair (met at x y)
  met_renamed at x y =
      ap (λ (c : Class). met_as c (class_at (renamed_operand r y)) (r.place at) (renamed_operand r x) (renamed_operand r y)) (class_at_renamed x)
      ∙ ap (λ (d : Class). met_as (class_at x) d (r.place at) (renamed_operand r x) (renamed_operand r y)) (class_at_renamed y)
      ∙ met_as_renamed (class_at x) (class_at y) at x y

  -- operators on two values
  calculated_renamed : (o : BinaryOp) (at : ℕ) (p : Pair) → calculated o (r.place at) (renamed_pair p) ≡ renamed_value r (calculated o at p)
  calculated_renamed o at p = ap (λ (k : Kind). Node (Binary o (renamed_value r p.left) (renamed_value r p.right)) k (r.place at)) (kind_renamed p.left)

  balanced_calculated : (o : BinaryOp) (at : ℕ) (x y : Expr)
      → calculated o (r.place at) (balanced (renamed_value r x) (renamed_value r y)) ≡ renamed_value r (calculated o at (balanced x y))
  balanced_calculated o at x y = ap (calculated o (r.place at)) (balanced_renamed x y) ∙ calculated_renamed o at (balanced x y)

  balanced_compared : (o : BinaryOp) (at : ℕ) (x y : Expr)
      → on_pair o (r.place at) (Some int) (balanced (renamed_value r x) (renamed_value r y)) ≡ renamed_value r (on_pair o at (Some int) (balanced x y))
  balanced_compared o at x y = ap (on_pair o (r.place at) (Some int)) (balanced_renamed x y)

  kind_on : (o : BinaryOp) (at : ℕ) (x y e : Expr)
      → Node (Binary o (renamed_value r x) (renamed_value r y)) (kind_of (renamed_value r e)) (r.place at) ≡ renamed_value r (Node (Binary o x y) (kind_of e) at)
  kind_on o at x y e = ap (λ (k : Kind). Node (Binary o (renamed_value r x) (renamed_value r y)) k (r.place at)) (kind_renamed e)

  product_as_renamed : (c d : Class) (o : BinaryOp) (at : ℕ) (x y : Expr)
      → product_as c d o (r.place at) (renamed_value r x) (renamed_value r y) ≡ renamed_outcome r.place (renamed_value r) (product_as c d o at x y)
  product_as_renamed Integer Integer o at x y = ap Is (balanced_calculated o at x y)
  product_as_renamed c d o at x y = refl

  sum_as_renamed : (c d : Class) (at : ℕ) (x y : Expr)
      → sum_as c d (r.place at) (renamed_value r x) (renamed_value r y) ≡ renamed_outcome r.place (renamed_value r) (sum_as c d at x y)
  sum_as_renamed Integer Integer at x y = ap Is (balanced_calculated op.Add at x y)
  sum_as_renamed Pointer Integer at x y = ap Is (kind_on op.Add at x y x)
  sum_as_renamed Integer Pointer at x y = ap Is (kind_on op.Add at x y y)
  sum_as_renamed c d at x y = refl

  pub sum_renamed : (at : ℕ) (x y : Expr)
      → sum (r.place at) (renamed_value r x) (renamed_value r y) ≡ renamed_outcome r.place (renamed_value r) (sum at x y)
  sum_renamed at (Node f k p) (Node g l q) = sum_as_renamed (class_of k) (class_of l) at (Node f k p) (Node g l q)

  pointers_renamed : (o : BinaryOp) (at : ℕ) (x y : Expr)
      → pointers o (r.place at) (renamed_value r x) (renamed_value r y) ≡ renamed_outcome r.place (renamed_value r) (pointers o at x y)
  pointers_renamed o at (Node f k p) (Node g l q) = breaks_follows r.place (renamed_value r) (not (same_kind k l)) Mismatch at _ _ refl

  difference_as_renamed : (c d : Class) (at : ℕ) (x y : Expr)
      → difference_as c d (r.place at) (renamed_value r x) (renamed_value r y) ≡ renamed_outcome r.place (renamed_value r) (difference_as c d at x y)
  difference_as_renamed Integer Integer at x y = ap Is (balanced_calculated op.Sub at x y)
  difference_as_renamed Pointer Integer at x y = ap Is (kind_on op.Sub at x y x)
  difference_as_renamed Pointer Pointer at x y = pointers_renamed op.Sub at x y
  difference_as_renamed c d at x y = refl

  shift_as_renamed : (c d : Class) (o : BinaryOp) (at : ℕ) (x y : Expr)
      → shift_as c d o (r.place at) (renamed_value r x) (renamed_value r y) ≡ renamed_outcome r.place (renamed_value r) (shift_as c d o at x y)
  shift_as_renamed Integer Integer o at x y = ap Is (kind_on o at x y x)
  shift_as_renamed c d o at x y = refl

  order_as_renamed : (c d : Class) (o : BinaryOp) (at : ℕ) (x y : Expr)
      → order_as c d o (r.place at) (renamed_value r x) (renamed_value r y) ≡ renamed_outcome r.place (renamed_value r) (order_as c d o at x y)
  order_as_renamed Integer Integer o at x y = ap Is (balanced_compared o at x y)
  order_as_renamed Pointer Pointer o at x y = pointers_renamed o at x y
  order_as_renamed c d o at x y = refl

  typed_equality_renamed : (o : BinaryOp) (at : ℕ) (x y : Operand)
      → typed_equality o (r.place at) (renamed_operand r x) (renamed_operand r y) ≡ renamed_outcome r.place (renamed_value r) (typed_equality o at x y)
  typed_equality_renamed o at x y =
      bind_follows r.place renamed_pair (renamed_value r) (met at x y) (met (r.place at) (renamed_operand r x) (renamed_operand r y))
      (λ p. Is (on_pair o at (Some int) p)) (λ p. Is (on_pair o (r.place at) (Some int) p)) (met_renamed at x y) (λ p. refl)

  binary_as_renamed : (o : BinaryOp) (c d : Class) (at : ℕ) (x y : Operand)
      → binary_as o c d (r.place at) (renamed_operand r x) (renamed_operand r y) ≡ renamed_outcome r.place (renamed_value r) (binary_as o c d at x y)
  binary_as_renamed op.Add c d at x y = sum_as_renamed c d at x.value y.value
  binary_as_renamed op.Sub c d at x y = difference_as_renamed c d at x.value y.value
  binary_as_renamed op.Mul c d at x y = product_as_renamed c d op.Mul at x.value y.value
  binary_as_renamed op.Div c d at x y = product_as_renamed c d op.Div at x.value y.value
  binary_as_renamed op.Rem c d at x y = product_as_renamed c d op.Rem at x.value y.value
  binary_as_renamed op.And c d at x y = product_as_renamed c d op.And at x.value y.value
  binary_as_renamed op.Or c d at x y = product_as_renamed c d op.Or at x.value y.value
  binary_as_renamed op.Xor c d at x y = product_as_renamed c d op.Xor at x.value y.value
  binary_as_renamed op.Shl c d at x y = shift_as_renamed c d op.Shl at x.value y.value
  binary_as_renamed op.Shr c d at x y = shift_as_renamed c d op.Shr at x.value y.value
  binary_as_renamed op.Eq c d at x y = typed_equality_renamed op.Eq at x y
  binary_as_renamed op.Ne c d at x y = typed_equality_renamed op.Ne at x y
  binary_as_renamed op.Lt c d at x y = order_as_renamed c d op.Lt at x.value y.value
  binary_as_renamed op.Gt c d at x y = order_as_renamed c d op.Gt at x.value y.value
  binary_as_renamed op.Le c d at x y = order_as_renamed c d op.Le at x.value y.value
  binary_as_renamed op.Ge c d at x y = order_as_renamed c d op.Ge at x.value y.value

  pub binary_renamed : (o : BinaryOp) (at : ℕ) (x y : Operand)
      → binary o (r.place at) (renamed_operand r x) (renamed_operand r y) ≡ renamed_outcome r.place (renamed_value r) (binary o at x y)
  binary_renamed o at x y =
      ap (λ (c : Class). binary_as o c (class_at (renamed_operand r y)) (r.place at) (renamed_operand r x) (renamed_operand r y)) (class_at_renamed x)
      ∙ ap (λ (d : Class). binary_as o (class_at x) d (r.place at) (renamed_operand r x) (renamed_operand r y)) (class_at_renamed y)
      ∙ binary_as_renamed o (class_at x) (class_at y) at x y

  -- operators on one value, and on values that are tested
  unary_as_renamed : (c : Class) (o : UnaryOp) (at : ℕ) (x : Expr)
      → unary_as c o (r.place at) (renamed_value r x) ≡ renamed_outcome r.place (renamed_value r) (unary_as c o at x)
  unary_as_renamed Integer o at x = ap (λ (k : Kind). Is (Node (Unary o (renamed_value r x)) k (r.place at))) (kind_renamed x)
  unary_as_renamed c o at x = refl

  pub unary_renamed : (o : UnaryOp) (at : ℕ) (x : Expr)
      → unary o (r.place at) (renamed_value r x) ≡ renamed_outcome r.place (renamed_value r) (unary o at x)
  unary_renamed o at (Node f k p) = unary_as_renamed (class_of k) o at (Node f k p)

  pub negated_renamed : (at : ℕ) (x : Expr)
      → negated (r.place at) (renamed_value r x) ≡ renamed_outcome r.place (renamed_value r) (negated at x)
  negated_renamed at (Node f k p) = breaks_follows r.place (renamed_value r) (is_void k) Mismatch at _ _ refl

  pub both_true_renamed : (at : ℕ) (x y : Expr)
      → both_true (r.place at) (renamed_value r x) (renamed_value r y) ≡ renamed_outcome r.place (renamed_value r) (both_true at x y)
  both_true_renamed at (Node f k p) (Node g l q) = breaks_follows r.place (renamed_value r) (is_void k || is_void l) Mismatch at _ _ refl

  pub either_true_renamed : (at : ℕ) (x y : Expr)
      → either_true (r.place at) (renamed_value r x) (renamed_value r y) ≡ renamed_outcome r.place (renamed_value r) (either_true at x y)
  either_true_renamed at (Node f k p) (Node g l q) = breaks_follows r.place (renamed_value r) (is_void k || is_void l) Mismatch at _ _ refl

  -- one of two arms
  arms_as_renamed : (c d : Class) (at : ℕ) (x y : Operand)
      → arms_as c d (r.place at) (renamed_operand r x) (renamed_operand r y) ≡ renamed_outcome r.place renamed_pair (arms_as c d at x y)
  arms_as_renamed Nothing Nothing at x y = refl
  arms_as_renamed c d at x y = met_as_renamed c d at x y

  arms_renamed : (at : ℕ) (x y : Operand)
      → arms_as (class_at (renamed_operand r x)) (class_at (renamed_operand r y)) (r.place at) (renamed_operand r x) (renamed_operand r y)
      ≡ renamed_outcome r.place renamed_pair (arms_as (class_at x) (class_at y) at x y)
  arms_renamed at x y =
      ap (λ (c : Class). arms_as c (class_at (renamed_operand r y)) (r.place at) (renamed_operand r x) (renamed_operand r y)) (class_at_renamed x)
      ∙ ap (λ (d : Class). arms_as (class_at x) d (r.place at) (renamed_operand r x) (renamed_operand r y)) (class_at_renamed y)
      ∙ arms_as_renamed (class_at x) (class_at y) at x y

  pub picked_renamed : (at : ℕ) (test : Expr) (x y : Operand)
      → picked (r.place at) (renamed_value r test) (renamed_operand r x) (renamed_operand r y) ≡ renamed_outcome r.place (renamed_value r) (picked at test x y)
  picked_renamed at (Node f k p) x y =
      breaks_follows r.place (renamed_value r) (is_void k) Mismatch at _ _
      (bind_follows r.place renamed_pair (renamed_value r) (arms_as (class_at x) (class_at y) at x y) _
      (λ (a : Pair). Is (Node (Pick (Node f k p) a.left a.right) (kind_of a.left) at))
      (λ (a : Pair). Is (Node (Pick (renamed_value r (Node f k p)) a.left a.right) (kind_of a.left) (r.place at)))
      (arms_renamed at x y)
      (λ a. ap (λ (l : Kind). Is (Node (Pick (renamed_value r (Node f k p)) (renamed_value r a.left) (renamed_value r a.right)) l (r.place at))) (kind_renamed a.left)))

  -- what may be written
  pub lvalue_renamed : (e : Expr) → lvalue_of (renamed_value r e) ≡ option_map (renamed_target r) (lvalue_of e)
  lvalue_renamed (Node (Read v) kind at) = refl
  lvalue_renamed (Node (Load e) kind at) = refl
  lvalue_renamed (Node form kind at) = refl

  written_renamed : (at : ℕ) (l : Option Lvalue) (node other : Lvalue → Expr) → ((v : Lvalue) → other (renamed_target r v) ≡ renamed_value r (node v))
      → written (r.place at) (option_map (renamed_target r) l) other ≡ renamed_outcome r.place (renamed_value r) (written at l node)
  written_renamed at None node other same = refl
  written_renamed at (Some l) node other same = ap Is (same l)

  written_to : (at : ℕ) (e : Expr) (node other : Lvalue → Expr) → ((v : Lvalue) → other (renamed_target r v) ≡ renamed_value r (node v))
      → written (r.place at) (lvalue_of (renamed_value r e)) other ≡ renamed_outcome r.place (renamed_value r) (written at (lvalue_of e) node)
  written_to at e node other same = ap (λ (l : Option Lvalue). written (r.place at) l other) (lvalue_renamed e) ∙ written_renamed at (lvalue_of e) node other same

  -- writes
  assigned_as_renamed : (kind : Kind) (at : ℕ) (x : Expr) (y : Operand)
      → assigned_as kind (r.place at) (renamed_value r x) (renamed_operand r y) ≡ renamed_outcome r.place (renamed_value r) (assigned_as kind at x y)
  assigned_as_renamed None at x y = refl
  assigned_as_renamed (Some kind) at x y =
      bind_follows r.place (renamed_value r) (renamed_value r) (given kind at y) _
      (λ (v : Expr). written at (lvalue_of x) (λ (l : Lvalue). Node (Assign l v) (Some kind) at))
      (λ (v : Expr). written (r.place at) (lvalue_of (renamed_value r x)) (λ (l : Lvalue). Node (Assign l v) (Some kind) (r.place at)))
      (given_renamed kind at y)
      (λ v. written_to at x _ _ (λ l. refl))

  pub assigned_renamed : (at : ℕ) (x : Expr) (y : Operand)
      → assigned (r.place at) (renamed_value r x) (renamed_operand r y) ≡ renamed_outcome r.place (renamed_value r) (assigned at x y)
  assigned_renamed at (Node f k p) y = assigned_as_renamed k at (Node f k p) y

  pub assigned_by_renamed : (o : BinaryOp) (at : ℕ) (x y : Expr)
      → assigned_by o (r.place at) (renamed_value r x) (renamed_value r y) ≡ renamed_outcome r.place (renamed_value r) (assigned_by o at x y)
  assigned_by_renamed o at (Node f k p) (Node g l q) =
      breaks_follows r.place (renamed_value r) (not (takes o (class_of k) (class_of l))) Mismatch at
      (written at (lvalue_of (Node f k p)) (λ (v : Lvalue). Node (AssignOp o v (Node g l q)) k at)) _
      (written_to at (Node f k p) _ _ (λ v. refl))

  pub stepped_before_renamed : (up : Bool) (at : ℕ) (x : Expr)
      → stepped_before up (r.place at) (renamed_value r x) ≡ renamed_outcome r.place (renamed_value r) (stepped_before up at x)
  stepped_before_renamed up at (Node f k p) =
      breaks_follows r.place (renamed_value r) (is_void k) Mismatch at (written at (lvalue_of (Node f k p)) (λ (v : Lvalue). Node (StepBefore up v) k at)) _
      (written_to at (Node f k p) _ _ (λ v. refl))

  pub stepped_after_renamed : (up : Bool) (at : ℕ) (x : Expr)
      → stepped_after up (r.place at) (renamed_value r x) ≡ renamed_outcome r.place (renamed_value r) (stepped_after up at x)
  stepped_after_renamed up at (Node f k p) =
      breaks_follows r.place (renamed_value r) (is_void k) Mismatch at (written at (lvalue_of (Node f k p)) (λ (v : Lvalue). Node (StepAfter up v) k at)) _
      (written_to at (Node f k p) _ _ (λ v. refl))

  -- addresses
  address_of_renamed : (l : Option Lvalue) (kind : Kind) (at : ℕ)
      → address_of (option_map (renamed_target r) l) kind (r.place at) ≡ renamed_outcome r.place (renamed_value r) (address_of l kind at)
  address_of_renamed None kind at = refl
  address_of_renamed (Some (Named v place)) kind at = refl
  address_of_renamed (Some (At e place)) kind at = refl

  pub address_renamed : (is_array : Bool) (at : ℕ) (x : Expr)
      → address is_array (r.place at) (renamed_value r x) ≡ renamed_outcome r.place (renamed_value r) (address is_array at x)
  address_renamed is_array at (Node f k p) =
      breaks_follows r.place (renamed_value r) (is_array || is_void k) Mismatch at (address_of (lvalue_of (Node f k p)) k at) _
      (ap (λ (l : Option Lvalue). address_of l k (r.place at)) (lvalue_renamed (Node f k p)) ∙ address_of_renamed (lvalue_of (Node f k p)) k at)

  loaded_as_renamed : (kind : Kind) (at : ℕ) (x : Expr)
      → loaded_as kind (r.place at) (renamed_value r x) ≡ renamed_outcome r.place (renamed_value r) (loaded_as kind at x)
  loaded_as_renamed None at x = refl
  loaded_as_renamed (Some kind) at x = refl

  pub loaded_renamed : (at : ℕ) (x : Expr) → loaded (r.place at) (renamed_value r x) ≡ renamed_outcome r.place (renamed_value r) (loaded at x)
  loaded_renamed at (Node f k p) = loaded_as_renamed (target_of k (class_of k)) at (Node f k p)

  pub indexed_renamed : (at : ℕ) (x y : Expr)
      → indexed (r.place at) (renamed_value r x) (renamed_value r y) ≡ renamed_outcome r.place (renamed_value r) (indexed at x y)
  indexed_renamed at x y =
      bind_follows r.place (renamed_value r) (renamed_value r) (sum at x y) _ (loaded at) (loaded (r.place at)) (sum_renamed at x y) (loaded_renamed at)

  -- casts, commas and sizes
  cast_as_renamed : (c d : Class) (kind : ScalarType) (at : ℕ) (x : Operand)
      → cast_as c d kind (r.place at) (renamed_operand r x) ≡ renamed_outcome r.place (renamed_value r) (cast_as c d kind at x)
  cast_as_renamed Integer Integer kind at x = refl
  cast_as_renamed Pointer Pointer kind at x = refl
  cast_as_renamed Pointer Integer kind at x = breaks_follows r.place (renamed_value r) (not (x.null && same_type kind void_pointer)) Mismatch at _ _ refl
  cast_as_renamed c d kind at x = refl

  pub cast_renamed : (kind : Kind) (at : ℕ) (x : Operand)
      → cast kind (r.place at) (renamed_operand r x) ≡ renamed_outcome r.place (renamed_value r) (cast kind at x)
  cast_renamed None at x = refl
  cast_renamed (Some kind) at x =
      ap (λ (c : Class). cast_as (class_of (Some kind)) c kind (r.place at) (renamed_operand r x)) (class_at_renamed x)
      ∙ cast_as_renamed (class_of (Some kind)) (class_at x) kind at x

  pub typed_comma_renamed : (at : ℕ) (x y : Expr)
      → typed_comma (r.place at) (renamed_value r x) (renamed_value r y) ≡ renamed_value r (typed_comma at x y)
  typed_comma_renamed at x (Node g l q) = refl

  pub sized_renamed : (length : Option ℕ) (at : ℕ) (x : Expr)
      → sized length (r.place at) (renamed_value r x) ≡ renamed_outcome r.place (renamed_value r) (sized length at x)
  sized_renamed (Some length) at x = refl
  sized_renamed None at (Node f k p) = breaks_follows r.place (renamed_value r) (is_void k) Mismatch at _ _ refl

  -- arguments
  void_renamed : (e : Expr) → is_void (kind_of (renamed_value r e)) ≡ is_void (kind_of e)
  void_renamed e = ap is_void (kind_renamed e)

  pub any_void_renamed : (xs : List Operand) → any_void (map (renamed_operand r) xs) ≡ any_void xs
  any_void_renamed [] = refl
  any_void_renamed (x ∷ xs) =
      ap (λ (b : Bool). b || any_void (map (renamed_operand r) xs)) (void_renamed x.value)
      ∙ ap (λ (b : Bool). is_void (kind_of x.value) || b) (any_void_renamed xs)

  breaks_any : {A : Type 0} (a b : Bool) (at : ℕ) (x : Outcome A) → a ≡ b → breaks a Mismatch at x ≡ breaks b Mismatch at x
  breaks_any a b at x same = ap (λ (c : Bool). breaks c Mismatch at x) same

  pub passed_renamed : (kinds : List ScalarType) (at : ℕ) (xs : List Operand)
      → passed kinds (r.place at) (map (renamed_operand r) xs) ≡ renamed_outcome r.place (renamed_values r) (passed kinds at xs)
  passed_renamed [] at [] = refl
  passed_renamed [] at (x ∷ xs) =
      breaks_any (any_void (map (renamed_operand r) (x ∷ xs))) (any_void (x ∷ xs)) (r.place at) (Broken ArgCount (r.place at)) (any_void_renamed (x ∷ xs))
      ∙ breaks_follows r.place (renamed_values r) (any_void (x ∷ xs)) Mismatch at (Broken ArgCount at) (Broken ArgCount (r.place at)) refl
  passed_renamed (kind ∷ kinds) at [] = refl
  passed_renamed (kind ∷ kinds) at (x ∷ xs) =
      bind_follows r.place (renamed_value r) (renamed_values r) (given kind at x) _
      (λ (v : Expr). passed kinds at xs >>= λ (vs : Exprs). Is (more v vs))
      (λ (v : Expr). passed kinds (r.place at) (map (renamed_operand r) xs) >>= λ (vs : Exprs). Is (more v vs))
      (given_renamed kind at x)
      (λ v. bind_follows r.place (renamed_values r) (renamed_values r) (passed kinds at xs) _
      (λ (vs : Exprs). Is (more v vs)) (λ (vs : Exprs). Is (more (renamed_value r v) vs)) (passed_renamed kinds at xs) (λ vs. refl))

  -- ports
  no_more_renamed : (at : ℕ) (xs : List Operand) (x z : Outcome Expr) → z ≡ renamed_outcome r.place (renamed_value r) x
      → no_more (r.place at) (map (renamed_operand r) xs) z ≡ renamed_outcome r.place (renamed_value r) (no_more at xs x)
  no_more_renamed at [] x z same = same
  no_more_renamed at (y ∷ ys) x z same = refl

  pub input_renamed : (at : ℕ) (class : Class) (port : ℕ) (xs : List Operand)
      → input (r.place at) class port (map (renamed_operand r) xs) ≡ renamed_outcome r.place (renamed_value r) (input at class port xs)
  input_renamed at class port xs =
      ap (λ (b : Bool). breaks (not (is_integer class) || b) Mismatch (r.place at)
      (breaks (nat_lt 15 port) BadPort (r.place at) (no_more (r.place at) (map (renamed_operand r) xs) (Is (Node (In port) (Some int) (r.place at))))))
      (any_void_renamed xs)
      ∙ breaks_follows r.place (renamed_value r) (not (is_integer class) || any_void xs) Mismatch at
      (breaks (nat_lt 15 port) BadPort at (no_more at xs (Is (Node (In port) (Some int) at)))) _
      (breaks_follows r.place (renamed_value r) (nat_lt 15 port) BadPort at (no_more at xs (Is (Node (In port) (Some int) at))) _
      (no_more_renamed at xs (Is (Node (In port) (Some int) at)) (Is (Node (In port) (Some int) (r.place at))) refl))

  word_first_renamed : (xs : List Operand) → is_word_first (map (renamed_operand r) xs) ≡ is_word_first xs
  word_first_renamed [] = refl
  word_first_renamed (x ∷ xs) = ap is_integer (class_at_renamed x)

  sent_renamed : (at port : ℕ) (xs : List Operand)
      → sent (r.place at) port (map (renamed_operand r) xs) ≡ renamed_outcome r.place (renamed_value r) (sent at port xs)
  sent_renamed at port [] = refl
  sent_renamed at port (x ∷ xs) = no_more_renamed at xs (Is (Node (Out port x.value) None at)) (Is (Node (Out port (renamed_value r x.value)) None (r.place at))) refl

  pub output_renamed : (at : ℕ) (class : Class) (port : ℕ) (xs : List Operand)
      → output (r.place at) class port (map (renamed_operand r) xs) ≡ renamed_outcome r.place (renamed_value r) (output at class port xs)
  output_renamed at class port xs =
      ap (λ (b : Bool). breaks (not (is_integer class) || not b || any_void (map (renamed_operand r) xs)) Mismatch (r.place at)
      (breaks (nat_lt 15 port) BadPort (r.place at) (sent (r.place at) port (map (renamed_operand r) xs))))
      (word_first_renamed xs)
      ∙ ap (λ (b : Bool). breaks (not (is_integer class) || not (is_word_first xs) || b) Mismatch (r.place at)
      (breaks (nat_lt 15 port) BadPort (r.place at) (sent (r.place at) port (map (renamed_operand r) xs))))
      (any_void_renamed xs)
      ∙ breaks_follows r.place (renamed_value r) (not (is_integer class) || not (is_word_first xs) || any_void xs) Mismatch at
      (breaks (nat_lt 15 port) BadPort at (sent at port xs)) _
      (breaks_follows r.place (renamed_value r) (nat_lt 15 port) BadPort at (sent at port xs) _ (sent_renamed at port xs))
