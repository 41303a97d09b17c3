-- Operators on integers: where the typed program's gives a word, the operation of the word tree gives that word.
use Rattle.std.proofs.Common.{◌≡◌, ◌⊎◌, inl, inr, ℕ, suc, ◌+◌, ◌-◌, ◌*◌, ◌%◌, ◌<◌, Bool, true, false, refl, sym, ap, ◌∙◌, arith, ℤ, pos, negsuc, ◌-ℤ◌, ◌*ℤ◌}
use Rattle.std.specs.Prelude.{◌||◌}
use Rattle.std.proofs.lemmas.Int.{ints}
use Rattle.word_base.specs.Words.{Good, signed_of, low16, int_multiply, int_negate, unsigned_multiply, unsigned_negate}
use Rattle.c_syntax.specs.declared.operator.BinaryOp.{BinaryOp}
use Rattle.c_syntax.specs.declared.operator.BinaryOp.TheVariants as op
use Rattle.c_syntax.specs.declared.operator.UnaryOp.{UnaryOp}
use Rattle.c_syntax.specs.declared.operator.UnaryOp.TheVariants.{Minus, Plus, Complement}
use Rattle.c_tree.proofs.OperatorWords.{given_by, given_of}
use Rattle.c_tree.specs.TypedTree.{Kind}
use Rattle.c_tree.specs.Eval.{is_unsigned, points, without_sign}
use Rattle.tree_code.specs.Operations.{one_of, word_op, is_ordered_unsigned}
use Rattle.tree_code.specs.declared.operator.WordOp.{WordOp}
use Rattle.tree_code.specs.declared.operator.WordOp.TheVariants as word
use Rattle.ir_semantics.specs.Meanings.{meaning_of, calculated, of_one_word}
use Rattle.tree_code_proof.proofs.Moving.{low16_is}
use Rattle.tree_code_proof.proofs.Integers.{signed_is, fits, sum_agrees, difference_agrees}

-- the operation of an operator on integers, with a sign or without
abbrev pub operation_by : BinaryOp → Bool → WordOp
operation_by op.Add u = word.Add
operation_by op.Sub u = word.Sub
operation_by op.Mul u = word.Mul
operation_by op.Div u = one_of u word.DivUnsigned word.DivInt
operation_by op.Rem u = one_of u word.RemUnsigned word.RemInt
operation_by op.And u = word.And
operation_by op.Or u = word.Or
operation_by op.Xor u = word.Xor
operation_by op.Shl u = word.Shl
operation_by op.Shr u = one_of u word.ShrUnsigned word.ShrInt
operation_by op.Eq u = word.Eq
operation_by op.Ne u = word.Ne
operation_by op.Lt u = one_of u word.LtUnsigned word.LtInt
operation_by op.Gt u = one_of u word.GtUnsigned word.GtInt
operation_by op.Le u = one_of u word.LeUnsigned word.LeInt
operation_by op.Ge u = one_of u word.GeUnsigned word.GeInt

or_none : (b : Bool) → (b || false) ≡ b
or_none true = refl
or_none false = refl

no_pointer : (k : Kind) → points k ≡ false → is_ordered_unsigned k ≡ is_unsigned k
no_pointer k e = ap (λ b. is_unsigned k || b) e ∙ or_none (is_unsigned k)

either : (k l : Kind) (f g : WordOp) → points k ≡ false → points l ≡ false → one_of (is_ordered_unsigned k || is_ordered_unsigned l) f g ≡ one_of (is_unsigned k || is_unsigned l) f g
either k l f g p q = ap (λ b. one_of (b || is_ordered_unsigned l) f g) (no_pointer k p) ∙ ap (λ b. one_of (is_unsigned k || b) f g) (no_pointer l q)

pub by_sign : (o : BinaryOp) (k l : Kind) → points k ≡ false → points l ≡ false → word_op o k l ≡ operation_by o (without_sign o k l)
by_sign op.Add k l p q = refl
by_sign op.Sub k l p q = refl
by_sign op.Mul k l p q = refl
by_sign op.Div k l p q = either k l word.DivUnsigned word.DivInt p q
by_sign op.Rem k l p q = either k l word.RemUnsigned word.RemInt p q
by_sign op.And k l p q = refl
by_sign op.Or k l p q = refl
by_sign op.Xor k l p q = refl
by_sign op.Shl k l p q = refl
by_sign op.Shr k l p q = refl
by_sign op.Eq k l p q = refl
by_sign op.Ne k l p q = refl
by_sign op.Lt k l p q = either k l word.LtUnsigned word.LtInt p q
by_sign op.Gt k l p q = either k l word.GtUnsigned word.GtInt p q
by_sign op.Le k l p q = either k l word.LeUnsigned word.LeInt p q
by_sign op.Ge k l p q = either k l word.GeUnsigned word.GeInt p q

-- a product, whose words are read with signs
spread : (a b c n : ℕ) → b + c ≡ n → a * b + a * c ≡ a * n
spread a b c n e = let f : a * (b + c) ≡ a * n = ap (λ i. a * i) e in omega (arith, f)

spread_right : (a b c n : ℕ) → b + c ≡ n → b * a + c * a ≡ n * a
spread_right a b c n e = let f : (b + c) * a ≡ n * a = ap (λ i. i * a) e in omega (arith, f)

negative : (x : ℕ) (m : ℤ) → x < 65536 → m ≡ pos x -ℤ pos 65536 → m ≡ negsuc (65535 - x)
negative x m lt e = e ∙ omega (arith, ints)

right_negative : (x y n : ℕ) → suc n + y ≡ 65536 → low16 (pos x *ℤ negsuc n) ≡ x * y % 65536
right_negative x y n e = let f = spread x (suc n) y 65536 e in low16_is (pos x *ℤ negsuc n) x (x * y) (omega (arith, ints, f))

left_negative : (x y n : ℕ) → suc n + x ≡ 65536 → low16 (negsuc n *ℤ pos y) ≡ x * y % 65536
left_negative x y n e = let f = spread_right y (suc n) x 65536 e in low16_is (negsuc n *ℤ pos y) y (x * y) (omega (arith, ints, f))

-- the product of both distances is as much more as the words are less
both_negative : (x y m n : ℕ) → suc m + x ≡ 65536 → suc n + y ≡ 65536 → low16 (negsuc m *ℤ negsuc n) ≡ x * y % 65536
both_negative x y m n e f =
    let g = spread x (suc n) y 65536 f in
    let h = spread_right (suc n) (suc m) x 65536 e in
    let i : suc m * suc n + x * 65536 ≡ suc n * 65536 + x * y = omega (arith, g, h) in
    let j : (suc m * suc n) % 65536 ≡ (x * y) % 65536 = omega (arith, i) in
    j

product_by : (x y : ℕ) (m n : ℤ) → x < 65536 → y < 65536 → (m ≡ pos x) ⊎ (m ≡ pos x -ℤ pos 65536) → (n ≡ pos y) ⊎ (n ≡ pos y -ℤ pos 65536) → low16 (m *ℤ n) ≡ x * y % 65536
product_by x y m n lx ly (inl p) (inl q) = ap low16 (ap (λ i. i *ℤ n) p ∙ ap (λ i. pos x *ℤ i) q) ∙ omega arith
product_by x y m n lx ly (inl p) (inr q) = ap low16 (ap (λ i. i *ℤ n) p ∙ ap (λ i. pos x *ℤ i) (negative y n ly q)) ∙ right_negative x y (65535 - y) (omega (arith, ly))
product_by x y m n lx ly (inr p) (inl q) = ap low16 (ap (λ i. i *ℤ n) (negative x m lx p) ∙ ap (λ i. negsuc (65535 - x) *ℤ i) q) ∙ left_negative x y (65535 - x) (omega (arith, lx))
product_by x y m n lx ly (inr p) (inr q) =
    ap low16 (ap (λ i. i *ℤ n) (negative x m lx p) ∙ ap (λ i. negsuc (65535 - x) *ℤ i) (negative y n ly q)) ∙ both_negative x y (65535 - x) (65535 - y) (omega (arith, lx)) (omega (arith, ly))

product_agrees : (x y z : ℕ) → x < 65536 → y < 65536 → int_multiply x y ≡ Good z → unsigned_multiply x y ≡ Good z
product_agrees x y z lx ly is =
    fits (signed_of x *ℤ signed_of y) (pos x *ℤ pos y) _ z (product_by x y (signed_of x) (signed_of y) lx ly (signed_is x) (signed_is y) ∙ sym (product_by x y (pos x) (pos y) lx ly (inl refl) (inl refl))) is

negation_by : (x : ℕ) (m : ℤ) → x < 65536 → (m ≡ pos x) ⊎ (m ≡ pos x -ℤ pos 65536) → low16 (pos 0 -ℤ m) ≡ (65536 - x) % 65536
negation_by x m lt (inl p) = low16_is (pos 0 -ℤ m) 1 (65536 - x) (omega (arith, ints, p, lt))
negation_by x m lt (inr p) = low16_is (pos 0 -ℤ m) 0 (65536 - x) (omega (arith, ints, p, lt))

pub negation_agrees : (x z : ℕ) → x < 65536 → int_negate x ≡ Good z → unsigned_negate x ≡ Good z
negation_agrees x z lt is = fits (pos 0 -ℤ signed_of x) (pos 0 -ℤ pos x) _ z (negation_by x (signed_of x) lt (signed_is x) ∙ sym (negation_by x (pos x) lt (inl refl))) is

-- with a sign a sum, a difference and a product alone are others
pub agrees : (o : BinaryOp) (u : Bool) (x y z : ℕ) → x < 65536 → y < 65536 → given_by o u x y ≡ Good z → calculated (meaning_of (operation_by o u)) x y ≡ Good z
agrees op.Add true x y z lx ly e = e
agrees op.Add false x y z lx ly e = sum_agrees x y z e
agrees op.Sub true x y z lx ly e = e
agrees op.Sub false x y z lx ly e = difference_agrees x y z ly e
agrees op.Mul true x y z lx ly e = e
agrees op.Mul false x y z lx ly e = product_agrees x y z lx ly e
agrees op.Div true x y z lx ly e = e
agrees op.Div false x y z lx ly e = e
agrees op.Rem true x y z lx ly e = e
agrees op.Rem false x y z lx ly e = e
agrees op.And true x y z lx ly e = e
agrees op.And false x y z lx ly e = e
agrees op.Or true x y z lx ly e = e
agrees op.Or false x y z lx ly e = e
agrees op.Xor true x y z lx ly e = e
agrees op.Xor false x y z lx ly e = e
agrees op.Shl true x y z lx ly e = e
agrees op.Shl false x y z lx ly e = e
agrees op.Shr true x y z lx ly e = e
agrees op.Shr false x y z lx ly e = e
agrees op.Eq true x y z lx ly e = e
agrees op.Eq false x y z lx ly e = e
agrees op.Ne true x y z lx ly e = e
agrees op.Ne false x y z lx ly e = e
agrees op.Lt true x y z lx ly e = e
agrees op.Lt false x y z lx ly e = e
agrees op.Gt true x y z lx ly e = e
agrees op.Gt false x y z lx ly e = e
agrees op.Le true x y z lx ly e = e
agrees op.Le false x y z lx ly e = e
agrees op.Ge true x y z lx ly e = e
agrees op.Ge false x y z lx ly e = e

-- an operator on one integer
pub one_agrees : (o : UnaryOp) (u : Bool) (x z : ℕ) → x < 65536 → given_of o u x ≡ Good z → of_one_word o x ≡ Good z
one_agrees Minus true x z lx e = e
one_agrees Minus false x z lx e = negation_agrees x z lx e
one_agrees Plus true x z lx e = e
one_agrees Plus false x z lx e = e
one_agrees Complement true x z lx e = e
one_agrees Complement false x z lx e = e
