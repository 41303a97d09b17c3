-- What operators of integers give is a word of 16 bits.
use Rattle.std.proofs.Common.{◌≡◌, ⊎_elim, ℕ, ◌-◌, ◌*◌, ◌/◌, ◌%◌, ◌^◌, ◌<◌, Bool, true, false, refl, subst, arith, ℤ, pos, negsuc, ◌+ℤ◌, ◌-ℤ◌, ◌*ℤ◌, int_lt, int_div, int_rem}
use Rattle.std.specs.Prelude.{nat_lt, ◌==◌, ◌||◌, not, if◌then◌else◌, bit_and, bit_or, bit_xor}
use Rattle.std.proofs.lemmas.Bool.{eqb-false, cond_below, cond_above, cases_lt}
use Rattle.std.proofs.lemmas.Nat.{or_lt, xor_lt, and_le_l, mod_below}
use native.Mathlib.Nat.{div-le_self}
use Rattle.c_syntax.specs.word_base.Words.{Calc, Good, Bad, signed_of, low16, fit, wrap, truth, where_good, int_quotient, equal, int_less, unsigned_less}
use Rattle.c_syntax.specs.word_base.declared.outcome.UndefinedKind.TheVariants.{Overflow, DivideByZero, ShiftCount}
use Rattle.c_syntax.specs.declared.operator.BinaryOp.{BinaryOp}
use Rattle.c_syntax.specs.declared.operator.BinaryOp.TheVariants as op
use Rattle.c_syntax.specs.declared.operator.UnaryOp.{UnaryOp}
use Rattle.c_syntax.specs.declared.operator.UnaryOp.TheVariants.{Minus, Plus, Complement}
use Rattle.c_tree.specs.Operators.{int_binary, int_unary, unsigned_binary, unsigned_unary}

low16_few : (z : ℤ) → low16 z < 65536
low16_few (pos n) = omega arith
low16_few (negsuc n) = omega arith

-- by operators without a sign and with one
abbrev pub given_by : BinaryOp → Bool → ℕ → ℕ → Calc
given_by o u x y = if u then unsigned_binary o x y else int_binary o x y

abbrev pub given_of : UnaryOp → Bool → ℕ → Calc
given_of o u x = if u then unsigned_unary o x else int_unary o x

good_is : (x y : ℕ) → Good x ≡ Good y → x ≡ y
good_is x y e = cc

few : (w z : ℕ) → w < 65536 → Good w ≡ Good z → z < 65536
few w z lt e = subst (λ i. i < 65536) (good_is w z e) lt

wrapped : (n : ℤ) (z : ℕ) → wrap n ≡ Good z → z < 65536
wrapped n z e = few (low16 n) z (low16_few n) e

fitted : (n : ℤ) (z : ℕ) (b : Bool) → (if b then Bad Overflow else Good (low16 n)) ≡ Good z → z < 65536
fitted n z true e = absurd cc
fitted n z false e = few (low16 n) z (low16_few n) e

divided : (c : Calc) (z : ℕ) (b : Bool) → (b ≡ false → c ≡ Good z → z < 65536) → (if b then Bad DivideByZero else c) ≡ Good z → z < 65536
divided c z true f e = absurd cc
divided c z false f e = f refl e

remains : (c : Calc) (n : ℤ) (z : ℕ) → where_good c (wrap n) ≡ Good z → z < 65536
remains (Good w) n z e = wrapped n z e
remains (Bad kind) n z e = absurd cc

counted : (w z : ℕ) (b : Bool) → w < 65536 → (if b then Good w else Bad ShiftCount) ≡ Good z → z < 65536
counted w z true lt e = few w z lt e
counted w z false lt e = absurd cc

truth_few : (b : Bool) (z : ℕ) → Good (truth b) ≡ Good z → z < 65536
truth_few true z e = few 1 z (omega arith) e
truth_few false z e = few 0 z (omega arith) e

moved_down : (x n : ℕ) → x < 65536 → (if nat_lt x 32768 then x / 2 ^ n else 65535 - (65535 - x) / 2 ^ n) < 65536
moved_down x n lx =
    ⊎_elim
    (λ lt. subst (λ i. i < 65536) (cond_below x 32768 (x / 2 ^ n) (65535 - (65535 - x) / 2 ^ n) lt) (let le = div-le_self x (2 ^ n) in omega (arith, le, lx)))
    (λ le. subst (λ i. i < 65536) (cond_above x 32768 (x / 2 ^ n) (65535 - (65535 - x) / 2 ^ n) (65535 - (65535 - x) / 2 ^ n) le refl) (below ((65535 - x) / 2 ^ n)))
    (cases_lt x 32768)
  where
    below : (a : ℕ) → 65535 - a < 65536
    below a = omega arith

pub difference_few : (x y z : ℕ) → int_binary op.Sub x y ≡ Good z → z < 65536
difference_few x y z e =
    fitted (signed_of x -ℤ signed_of y) z (int_lt (signed_of x -ℤ signed_of y) (negsuc 32767) || int_lt (pos 32767) (signed_of x -ℤ signed_of y)) e

quotient_few : (x y z : ℕ) → int_quotient x y ≡ Good z → z < 65536
quotient_few x y z e = divided (fit (int_div (signed_of x) (signed_of y))) z (y == 0) (λ p q. fitted (int_div (signed_of x) (signed_of y)) z (int_lt (int_div (signed_of x) (signed_of y)) (negsuc 32767) || int_lt (pos 32767) (int_div (signed_of x) (signed_of y))) q) e

rest_few : (x y z : ℕ) → y < 65536 → (y == 0) ≡ false → Good (x % y) ≡ Good z → z < 65536
rest_few x y z ly p q =
    few (x % y) z (let ne = eqb-false y 0 p in let positive : 0 < y = omega (arith, ne) in let below = mod_below x y positive in omega (arith, below, ly)) q

pub few_given : (o : BinaryOp) (u : Bool) (x y z : ℕ) → x < 65536 → y < 65536 → given_by o u x y ≡ Good z → z < 65536
few_given op.Add true x y z lx ly e = wrapped (pos x +ℤ pos y) z e
few_given op.Add false x y z lx ly e =
    fitted (signed_of x +ℤ signed_of y) z (int_lt (signed_of x +ℤ signed_of y) (negsuc 32767) || int_lt (pos 32767) (signed_of x +ℤ signed_of y)) e
few_given op.Sub true x y z lx ly e = wrapped (pos x -ℤ pos y) z e
few_given op.Sub false x y z lx ly e = difference_few x y z e
few_given op.Mul true x y z lx ly e = wrapped (pos x *ℤ pos y) z e
few_given op.Mul false x y z lx ly e =
    fitted (signed_of x *ℤ signed_of y) z (int_lt (signed_of x *ℤ signed_of y) (negsuc 32767) || int_lt (pos 32767) (signed_of x *ℤ signed_of y)) e
few_given op.Div true x y z lx ly e = divided (Good (x / y)) z (y == 0) (λ p q. few (x / y) z (let le = div-le_self x y in omega (arith, le, lx)) q) e
few_given op.Div false x y z lx ly e = quotient_few x y z e
few_given op.Rem true x y z lx ly e = divided (Good (x % y)) z (y == 0) (rest_few x y z ly) e
few_given op.Rem false x y z lx ly e = remains (int_quotient x y) (int_rem (signed_of x) (signed_of y)) z e
few_given op.And true x y z lx ly e = few (bit_and x y) z (omega (arith, lx, and_le_l x y)) e
few_given op.And false x y z lx ly e = few (bit_and x y) z (omega (arith, lx, and_le_l x y)) e
few_given op.Or true x y z lx ly e = few (bit_or x y) z (or_lt 16 x y lx ly) e
few_given op.Or false x y z lx ly e = few (bit_or x y) z (or_lt 16 x y lx ly) e
few_given op.Xor true x y z lx ly e = few (bit_xor x y) z (xor_lt 16 x y lx ly) e
few_given op.Xor false x y z lx ly e = few (bit_xor x y) z (xor_lt 16 x y lx ly) e
few_given op.Shl true x y z lx ly e = counted (x * 2 ^ y % 65536) z (nat_lt y 16) (omega arith) e
few_given op.Shl false x y z lx ly e = counted (x * 2 ^ y % 65536) z (nat_lt y 16) (omega arith) e
few_given op.Shr true x y z lx ly e = counted (x / 2 ^ y) z (nat_lt y 16) (let le = div-le_self x (2 ^ y) in omega (arith, le, lx)) e
few_given op.Shr false x y z lx ly e = counted (if nat_lt x 32768 then x / 2 ^ y else 65535 - (65535 - x) / 2 ^ y) z (nat_lt y 16) (moved_down x y lx) e
few_given op.Eq true x y z lx ly e = truth_few (equal x y) z e
few_given op.Eq false x y z lx ly e = truth_few (equal x y) z e
few_given op.Ne true x y z lx ly e = truth_few (not (equal x y)) z e
few_given op.Ne false x y z lx ly e = truth_few (not (equal x y)) z e
few_given op.Lt true x y z lx ly e = truth_few (unsigned_less x y) z e
few_given op.Lt false x y z lx ly e = truth_few (int_less x y) z e
few_given op.Gt true x y z lx ly e = truth_few (unsigned_less y x) z e
few_given op.Gt false x y z lx ly e = truth_few (int_less y x) z e
few_given op.Le true x y z lx ly e = truth_few (not (unsigned_less y x)) z e
few_given op.Le false x y z lx ly e = truth_few (not (int_less y x)) z e
few_given op.Ge true x y z lx ly e = truth_few (not (unsigned_less x y)) z e
few_given op.Ge false x y z lx ly e = truth_few (not (int_less x y)) z e

-- an operator on one integer
pub one_few : (o : UnaryOp) (u : Bool) (x z : ℕ) → x < 65536 → given_of o u x ≡ Good z → z < 65536
one_few Minus true x z lx e = wrapped (pos 0 -ℤ pos x) z e
one_few Minus false x z lx e = fitted (pos 0 -ℤ signed_of x) z (int_lt (pos 0 -ℤ signed_of x) (negsuc 32767) || int_lt (pos 32767) (pos 0 -ℤ signed_of x)) e
one_few Plus true x z lx e = few x z lx e
one_few Plus false x z lx e = few x z lx e
one_few Complement true x z lx e = few (65535 - x) z (omega arith) e
one_few Complement false x z lx e = few (65535 - x) z (omega arith) e
