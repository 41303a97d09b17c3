-- Numbers of 16 and of 32 bits: what rows make of accumulators, as facts about numbers.
use Rattle.std.proofs.Common.{◌≡◌, ℕ, ◌+◌, ◌-◌, ◌*◌, ◌%◌, ◌<◌, ◌≤◌, Bool, true, false, refl, sym, ap, ◌∙◌, ⊎_elim, inl, inr, arith, ℤ, pos, negsuc, ◌+ℤ◌, ◌-ℤ◌}
use Rattle.std.specs.Prelude.{◌⊎◌, nat_lt, ◌==◌, not, ◌||◌, bit_and, bit_or, bit_xor}
use Rattle.std.proofs.lemmas.Bool.{cases_lt, cases_eq, cond_below, cond_above, lt-ltb, le-ltb, eq-eqb, ne_eqb}
use Rattle.std.proofs.lemmas.Int.{ints}
use Rattle.std.proofs.lemmas.Nat.{xor_comm, or_mod, xor_mod, and_le_l}
use Rattle.std.proofs.lemmas.Grind.{and_numeral}
use Rattle.word_base.specs.Words.{signed_of, low16, equal, int_less, unsigned_less}
use Rattle.c25_isa.specs.Step.{extended, wrap16, low32, plus, minus}
use lib.Bits.{xor_self, xor_assoc, xor_zero_r}
use Rattle.ir_semantics.specs.AccRows.{is_negative}
use Rattle.acc_select_proof.proofs.Words.{ext_is}

-- the low 16 bits of a number that lies some multiples of 65536 below another one
pub low16_is : (z : ℤ) (k m : ℕ) → z +ℤ pos (k * 65536) ≡ pos m → low16 z ≡ m % 65536
low16_is (pos n) k m e = omega (arith, ints)
low16_is (negsuc n) k m e = omega (arith, ints)

pub low32_is : (z : ℤ) (k m : ℕ) → z +ℤ pos (k * 65536) ≡ pos m → wrap16 (low32 z) ≡ m % 65536
low32_is (pos n) k m e = omega (arith, ints)
low32_is (negsuc n) k m e = omega (arith, ints)

pub less_word : (x y : ℕ) → x < 65536 → y < 65536 → low16 (pos x -ℤ pos y) ≡ (x + (65536 - y)) % 65536
less_word x y lx ly = low16_is (pos x -ℤ pos y) 1 (x + (65536 - y)) (omega (arith, ints))

-- sums and differences, whose low halves are those of the low halves
pub plus_low : (z w x y : ℕ) → wrap16 z ≡ x → wrap16 w ≡ y → wrap16 (plus z w) ≡ (x + y) % 65536
plus_low z w x y e f = omega arith

pub minus_low : (z w x y : ℕ) → w ≤ 4294967296 → wrap16 z ≡ x → wrap16 w ≡ y → wrap16 (minus z w) ≡ (x + (65536 - y)) % 65536
minus_low z w x y le e f = omega arith

-- a word is extended by its sign
pub ext-lt : (x : ℕ) → x < 65536 → extended true x < 4294967296
ext-lt x lt = omega (arith, ext_is x)

-- the sign of a word, as a number
pub signed_is : (x : ℕ) → ((x < 32768) × (signed_of x ≡ pos x)) ⊎ ((32768 ≤ x) × (signed_of x ≡ pos x -ℤ pos 65536))
signed_is x =
    ⊎_elim
    (λ lt. inl (lt, sym (cond_below x 32768 (pos x) (pos x -ℤ pos 65536) lt)))
    (λ le. inr (le, sym (cond_above x 32768 (pos x) (pos x -ℤ pos 65536) (pos x -ℤ pos 65536) le refl)))
    (cases_lt x 32768)

lt_is : (a b c d : ℕ) → (a < b → c < d) → (b ≤ a → d ≤ c) → nat_lt a b ≡ nat_lt c d
lt_is a b c d f g = ⊎_elim (λ lt. lt-ltb a b lt ∙ sym (lt-ltb c d (f lt))) (λ le. le-ltb a b le ∙ sym (le-ltb c d (g le))) (cases_lt a b)

ge_is : (a b c d : ℕ) → (a < b → d ≤ c) → (b ≤ a → c < d) → not (nat_lt a b) ≡ nat_lt c d
ge_is a b c d f g =
    ⊎_elim
    (λ lt. ap not (lt-ltb a b lt) ∙ sym (le-ltb c d (f lt)))
    (λ le. ap not (le-ltb a b le) ∙ sym (lt-ltb c d (g le)))
    (cases_lt a b)

pub eq_is : (a b c d : ℕ) → (a ≡ b → c ≡ d) → (c ≡ d → a ≡ b) → (a == b) ≡ (c == d)
eq_is a b c d f g = ⊎_elim (λ e. eq-eqb a b e ∙ sym (eq-eqb c d (f e))) (λ ne. ne_eqb a b ne ∙ sym (ne_eqb c d (λ e. ne (g e)))) (cases_eq a b)

abbrev moved : ℕ → ℕ
moved x = (x + 32768) % 65536

module _ (x y : ℕ) (lx : x < 65536) (ly : y < 65536) where
  less_moved : (b : Bool) → int_less x y ≡ b → b ≡ nat_lt (moved x) (moved y)
  less_moved true e = sym (lt-ltb (moved x) (moved y) (omega (arith, ints, e, signed_is x, signed_is y)))
  less_moved false e = sym (le-ltb (moved x) (moved y) (omega (arith, ints, e, signed_is x, signed_is y)))

  pub int_less_is : int_less x y ≡ nat_lt (moved x) (moved y)
  int_less_is = less_moved (int_less x y) refl

-- what 32 bits tell of two words: which one is less, and whether they are equal
pub record Ordered (d : ℕ) (less : ℕ → ℕ → Bool) (x y : ℕ) : Type 0 where
  pub negative : is_negative d ≡ less x y
  pub zero : (d == 0) ≡ equal x y
  pub greater : not (less x y || equal x y) ≡ less y x

total : (x y : ℕ) → not (nat_lt x y || (x == y)) ≡ nat_lt y x
total x y =
    ⊎_elim
    (λ lt. ap (λ b. not (b || (x == y))) (lt-ltb x y lt) ∙ sym (le-ltb y x (omega (arith, lt))))
    (λ le. ⊎_elim
    (λ e. ap (λ b. not (nat_lt x y || b)) (eq-eqb x y e) ∙ ap (λ b. not (b || true)) (le-ltb x y le) ∙ sym (le-ltb y x (omega (arith, e))))
    (λ ne. ap (λ b. not (nat_lt x y || b)) (ne_eqb x y ne) ∙ ap (λ b. not (b || false)) (le-ltb x y le) ∙ sym (lt-ltb y x (omega (arith, le, ne))))
    (cases_eq x y))
    (cases_lt x y)

module _ (x y : ℕ) (lx : x < 65536) (ly : y < 65536) where
  pub signed_order : Ordered (minus (extended true x) (extended true y)) int_less x y
  signed_order = record {
    negative = ge_is (minus (extended true x) (extended true y)) 2147483648 (moved x) (moved y) (λ e. omega (arith, ext_is x, ext_is y)) (λ e. omega (arith, ext_is x, ext_is y)) ∙ sym (int_less_is x y lx ly);
    zero = eq_is (minus (extended true x) (extended true y)) 0 x y (λ e. omega (arith, ext_is x, ext_is y)) (λ e. omega (arith, ext_is x, ext_is y));
    greater = ap (λ b. not (b || equal x y)) (int_less_is x y lx ly) ∙ ap (λ b. not (nat_lt (moved x) (moved y) || b)) (eq_is x y (moved x) (moved y) (λ e. ap moved e) (λ e. omega arith)) ∙ total (moved x) (moved y) ∙ sym (int_less_is y x ly lx);
  }

  pub unsigned_order : Ordered (minus x y) unsigned_less x y
  unsigned_order = record {
    negative = ge_is (minus x y) 2147483648 x y (λ e. omega arith) (λ e. omega arith);
    zero = eq_is (minus x y) 0 x y (λ e. omega arith) (λ e. omega arith);
    greater = total x y;
  }

  -- a difference of 16 bits
  pub low_equal : ((x + (65536 - y)) % 65536 == 0) ≡ equal x y
  low_equal = eq_is ((x + (65536 - y)) % 65536) 0 x y (λ e. omega arith) (λ e. omega arith)

-- bits
pub mask_low : (x : ℕ) → x < 65536 → bit_and x 65535 ≡ x
mask_low x lt = and_numeral x 65534 refl ∙ omega arith

pub and-lt : (x y : ℕ) → x < 65536 → bit_and x y < 65536
and-lt x y lt = omega (arith, lt, and_le_l x y)

pub or_low : (z x y : ℕ) → y < 65536 → wrap16 z ≡ x → wrap16 (bit_or z y) ≡ bit_or x y
or_low z x y lt e = or_mod z y 16 ∙ ap (λ i. bit_or i (y % 65536)) e ∙ ap (bit_or x) (omega (arith, lt))

pub xor_low : (z x y : ℕ) → y < 65536 → wrap16 z ≡ x → wrap16 (bit_xor z y) ≡ bit_xor x y
xor_low z x y lt e = xor_mod z y 16 ∙ ap (λ i. bit_xor i (y % 65536)) e ∙ ap (bit_xor x) (omega (arith, lt))

xor_none : (x y : ℕ) → bit_xor x y ≡ 0 → x ≡ y
xor_none x y e = sym (xor_zero_r x) ∙ ap (bit_xor x) (sym (xor_self y)) ∙ sym (xor_assoc x y y) ∙ ap (λ i. bit_xor i y) e ∙ xor_comm 0 y ∙ xor_zero_r y

pub xor_equal : (x y : ℕ) → (bit_xor x y == 0) ≡ equal x y
xor_equal x y = eq_is (bit_xor x y) 0 x y (xor_none x y) (λ e. ap (λ i. bit_xor i y) e ∙ xor_self y)
