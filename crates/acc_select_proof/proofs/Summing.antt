-- Sums, differences and operations on bits leave their value, by what their operands are.
use Rattle.std.proofs.Common.{◌≡◌, ℕ, ◌+◌, ◌-◌, ◌%◌, ◌<◌, ◌≤◌, Bool, true, false, Option, Some, refl, sym, ap, ◌∙◌, subst, arith}
use Rattle.std.specs.Prelude.{nat_lt, ◌==◌, if◌then◌else◌, bit_and, bit_or, bit_xor}
use Rattle.std.proofs.lemmas.Bool.{ltb-true, eqb-true}
use Rattle.std.proofs.lemmas.Nat.{or_lt, xor_lt, and_le_r}
use Rattle.acc_code.specs.declared.operand.AccOperand.{AccOperand}
use Rattle.acc_code.specs.declared.operand.AccOperand.TheVariants as operand
use Rattle.acc_code.specs.declared.operation.AccOp.{AccOp}
use Rattle.acc_code.specs.declared.operation.AccOp.TheVariants as row
use Rattle.acc_code.specs.AccTree.{Op, end, ◌▸◌, ◌⧺◌}
use Rattle.acc_select.specs.acc_operations.Arithmetic.{row_on_place, row_on_constant, kept_zero, high_with_place, high_with_constant, masked_by}
use Rattle.acc_select.specs.acc_operations.Constants.{negative, constant_operand}
use Rattle.acc_select.specs.acc_operations.Sums.{plus, minus}
use Rattle.acc_select.specs.acc_operations.Words.{load, high, bare}
use Rattle.acc_select.specs.acc_operations.declared.constant.Constant.{Constant}
use Rattle.acc_select.specs.acc_operations.declared.constant.Constant.TheVariants.{Number, Address}
use Rattle.acc_select.specs.acc_operations.declared.found.Found.{Found}
use Rattle.acc_select.specs.acc_operations.declared.high_half.HighHalf.{HighHalf}
use Rattle.acc_select.specs.acc_operations.declared.high_half.HighHalf.TheVariants.{Any, Zero, Small}
use Rattle.acc_select.specs.acc_operations.declared.operation.Bitwise.{Bitwise}
use Rattle.acc_select.specs.acc_operations.declared.operation.Bitwise.TheVariants as bits
use Rattle.c25_isa.specs.Step as step
use Rattle.c25_isa.specs.Step.{extended, wrap16}
use Rattle.ir_semantics.specs.AccRows.{Acc, Whole, low_half, acted, acc_becomes, combined, masked, scaled, operand_weight, operation_weight}
use Rattle.ir_semantics.specs.AccRun.{Machine, Context, held}
use Rattle.acc_select_proof.proofs.Straights.{ConstantIs, FoundHas, found_weight, IsSteady, Straight, nothing_done, at_most, Acts}
use Rattle.acc_select_proof.proofs.Words.{ext_low, has_low, scaled_word}
use Rattle.acc_select_proof.proofs.Arithmetics.{ext-lt, and-lt, or_low, xor_low}
use Rattle.acc_select_proof.proofs.Following.{IsWide, InAcc, IsFound, Stands, Becomes, Turns, turns_by, turns_so, sums, differences, masks, OnBits, bits_turn, there, in_turn, row_turns, on_loaded}

-- what a row makes of the accumulator of a state
pub record Acted (o : AccOp) (y : ℕ) (u : Machine) (p : Acc → Type 0) : Type 0 where
  pub combination : Option Acc
  pub is : acted o y u.registers ≡ acc_becomes combination u.registers
  pub turns : Turns combination p

pub low_is : (h : HighHalf) (x : ℕ) (a : Acc) → x < 65536 → InAcc h x a → low_half a ≡ Some x
low_is h x a lt i = has_low h x a lt i.has

-- a word as SXM extends it, or as it stands, more or less
module _ (u : Machine) (x y : ℕ) (s : u.registers.sxm ≡ Some true) (low : low_half u.registers.acc ≡ Some x) (lt : y < 65536) where
  same : wrap16 y ≡ y
  same = omega (arith, lt)

  few : y < 4294967296
  few = omega (arith, lt)

  pub extended_sum : Turns (combined step.plus u.registers.acc (scaled u.registers.sxm y 0)) (InAcc Any ((x + y) % 65536))
  extended_sum =
      turns_by (combined step.plus u.registers.acc (scaled u.registers.sxm y 0)) (combined step.plus u.registers.acc (Whole (extended true y))) (InAcc Any ((x + y) % 65536))
      (ap (combined step.plus u.registers.acc) (scaled_word u.registers.sxm y s lt)) (sums u.registers.acc (Whole (extended true y)) x y low (ap Some (ext_low y lt)))

  pub exact_sum : Turns (combined step.plus u.registers.acc (Whole y)) (InAcc Any ((x + y) % 65536))
  exact_sum = sums u.registers.acc (Whole y) x y low (ap Some same)

  pub extended_difference : Turns (combined step.minus u.registers.acc (scaled u.registers.sxm y 0)) (InAcc Any ((x + (65536 - y)) % 65536))
  extended_difference =
      turns_by (combined step.minus u.registers.acc (scaled u.registers.sxm y 0)) (combined step.minus u.registers.acc (Whole (extended true y))) (InAcc Any ((x + (65536 - y)) % 65536))
      (ap (combined step.minus u.registers.acc) (scaled_word u.registers.sxm y s lt)) (differences u.registers.acc (Whole (extended true y)) x y low (ap Some (ext_low y lt)) lt (ext-lt y lt))

  pub exact_difference : Turns (combined step.minus u.registers.acc (Whole y)) (InAcc Any ((x + (65536 - y)) % 65536))
  exact_difference = differences u.registers.acc (Whole y) x y low (ap Some same) lt few

-- the negative of a word
pub negation : (a : Acc) (y : ℕ) → low_half a ≡ Some y → y < 65536 → IsWide a → Turns (combined step.minus (Whole 0) a) (InAcc Any ((65536 - y) % 65536))
negation a y low lt wide =
    let n : (0 + (65536 - y)) % 65536 ≡ (65536 - y) % 65536 = omega arith in
    subst (λ i. Turns (combined step.minus (Whole 0) a) (InAcc Any i)) n (differences (Whole 0) a 0 y refl low lt wide)

abbrev pub bits_of : Bitwise → ℕ → ℕ → ℕ
bits_of bits.And x y = bit_and x y
bits_of bits.Or x y = bit_or x y
bits_of bits.Xor x y = bit_xor x y

or_on_bits : OnBits bit_or
or_on_bits = record { low = or_low; few = λ x y lx ly. or_lt 16 x y lx ly; wide = λ x y lx ly. or_lt 32 x y lx ly }

xor_on_bits : OnBits bit_xor
xor_on_bits = record { low = xor_low; few = λ x y lx ly. xor_lt 16 x y lx ly; wide = λ x y lx ly. xor_lt 32 x y lx ly }

mask_zero : (x y : ℕ) → x < 65536 → (a : Acc) → a ≡ Whole (bit_and x y) → InAcc Zero (bit_and x y) a
mask_zero x y lx a e = record { has = e; wide = subst IsWide (sym e) (let l : bit_and x y < 4294967296 = let k = and-lt x y lx in omega (arith, k) in l) }

mask_number : (x w : ℕ) (b : Bool) → x < 65536 → nat_lt w 32768 ≡ b → (a : Acc) → a ≡ Whole (bit_and x w) → InAcc (if b then Small else Zero) (bit_and x w) a
mask_number x w true lx e a is = let l : bit_and x w < 32768 = let k = and_le_r x w in let j = ltb-true w 32768 e in omega (arith, k, j) in record { has = (is, l); wide = (mask_zero x w lx a is).wide }
mask_number x w false lx e a is = mask_zero x w lx a is

place_row : (o : Bitwise) (h : HighHalf) (x y : ℕ) (u : Machine) → InAcc h x u.registers.acc → x < 65536 → y < 65536 → Acted (row_on_place o) y u (InAcc (high_with_place o h) (bits_of o x y))
place_row bits.And h x y u i lx ly =
    let m = masks u.registers.acc x y (low_is h x u.registers.acc lx i) in
    record { combination = masked (low_half u.registers.acc) y; is = refl; turns = turns_so (masked (low_half u.registers.acc) y) (λ a. a ≡ Whole (bit_and x y)) (InAcc Zero (bit_and x y)) (mask_zero x y lx) m }
place_row bits.Or h x y u i lx ly = record { combination = combined bit_or u.registers.acc (Whole y); is = refl; turns = bits_turn bit_or or_on_bits h u.registers.acc x y i lx ly }
place_row bits.Xor h x y u i lx ly = record { combination = combined bit_xor u.registers.acc (Whole y); is = refl; turns = bits_turn bit_xor xor_on_bits h u.registers.acc x y i lx ly }

constant_mask : (k : Constant) (at : Rattle.ir_semantics.specs.TreeRun.Addresses) (x y : ℕ) → ConstantIs at k y → x < 65536 → (a : Acc) → a ≡ Whole (bit_and x y) → InAcc (masked_by k) (bit_and x y) a
constant_mask (Number w) at x y e lx a is = subst (λ i. InAcc (masked_by (Number w)) (bit_and x i) a) e (mask_number x w (nat_lt w 32768) lx refl a (is ∙ ap (λ i. Whole (bit_and x i)) (sym e)))
constant_mask (Address v n) at x y e lx a is = mask_zero x y lx a is

constant_row : (o : Bitwise) (k : Constant) (at : Rattle.ir_semantics.specs.TreeRun.Addresses) (h : HighHalf) (x y : ℕ) (u : Machine) → ConstantIs at k y → InAcc h x u.registers.acc → x < 65536 → y < 65536
    → Acted (row_on_constant o) y u (InAcc (high_with_constant o k h) (bits_of o x y))
constant_row bits.And k at h x y u e i lx ly =
    let m = masks u.registers.acc x y (low_is h x u.registers.acc lx i) in
    record { combination = masked (low_half u.registers.acc) y; is = refl; turns = turns_so (masked (low_half u.registers.acc) y) (λ a. a ≡ Whole (bit_and x y)) (InAcc (masked_by k) (bit_and x y)) (constant_mask k at x y e lx) m }
constant_row bits.Or k at h x y u e i lx ly = record { combination = combined bit_or u.registers.acc (Whole y); is = refl; turns = bits_turn bit_or or_on_bits h u.registers.acc x y i lx ly }
constant_row bits.Xor k at h x y u e i lx ly = record { combination = combined bit_xor u.registers.acc (Whole y); is = refl; turns = bits_turn bit_xor xor_on_bits h u.registers.acc x y i lx ly }

module _ (c : Context) where
  -- one row
  pub acts : (o : AccOp) (m : AccOperand) (v : Machine) (y k : ℕ) (p : Acc → Type 0) → Acts c o m → held c.at m v ≡ Some y → v.registers.sxm ≡ Some true → operation_weight o m ≤ k → Acted o y v p
      → Straight c (Op o m ▸ end) v k (λ u. p u.registers.acc)
  acts o m v y k p so e s le a = at_most c (Op o m ▸ end) v (operation_weight o m) k (Becomes p v) (λ u. p u.registers.acc) le (λ u b. b.acc) (row_turns c o m v y a.combination p so e a.is s a.turns)

  -- what operand of a constant holds
  pub constant_there : (k : Constant) (y : ℕ) (v : Machine) → ConstantIs c.at k y → held c.at (constant_operand k) v ≡ Some y
  constant_there (Number w) y v e = ap Some e
  constant_there (Address o n) y v e = e

  module _ (u : Machine) (x y : ℕ) (s : u.registers.sxm ≡ Some true) (low : low_half u.registers.acc ≡ Some x) (wide : IsWide u.registers.acc) (lx : x < 65536) (ly : y < 65536) where
    plus_number : (w : ℕ) (a b d : Bool) → w ≡ y → (w == 0) ≡ a → nat_lt w 256 ≡ b → nat_lt (negative w) 256 ≡ d
        → Straight c (if a then end else if b then Op row.Addk (operand.Number w) ▸ end else if d then Op row.Subk (operand.Number (negative w)) ▸ end else Op (row.Adlk 0) (operand.Number w) ▸ end) u 2 (λ v. InAcc Any ((x + y) % 65536) v.registers.acc)
    plus_number w true b d e p q r =
        let i = eqb-true w 0 p in let n : x ≡ (x + y) % 65536 = omega (arith, i, e, lx) in
        nothing_done c u 2 (λ v. InAcc Any ((x + y) % 65536) v.registers.acc) s (record { has = low ∙ ap Some n; wide = wide })
    plus_number w false true d e p q r =
        acts row.Addk (operand.Number w) u y 2 (InAcc Any ((x + y) % 65536)) (λ u. refl) (ap Some e) s (omega arith) (record { combination = combined step.plus u.registers.acc (Whole y); is = refl; turns = exact_sum u x y s low ly })
    plus_number w false false true e p q r =
        let n : (x + (65536 - negative w)) % 65536 ≡ (x + y) % 65536 = omega (arith, e, ly) in
        acts row.Subk (operand.Number (negative w)) u (negative w) 2 (InAcc Any ((x + y) % 65536)) (λ u. refl) refl s (omega arith)
        (record { combination = combined step.minus u.registers.acc (Whole (negative w)); is = refl; turns = subst (λ i. Turns (combined step.minus u.registers.acc (Whole (negative w))) (InAcc Any i)) n (exact_difference u x (negative w) s low (omega arith)) })
    plus_number w false false false e p q r =
        acts (row.Adlk 0) (operand.Number w) u y 2 (InAcc Any ((x + y) % 65536)) (λ u. refl) (ap Some e) s (omega arith) (record { combination = combined step.plus u.registers.acc (scaled u.registers.sxm y 0); is = refl; turns = extended_sum u x y s low ly })

    pub plus_constant : (k : Constant) → ConstantIs c.at k y → Straight c (plus k) u 2 (λ v. InAcc Any ((x + y) % 65536) v.registers.acc)
    plus_constant (Number w) e = plus_number w (w == 0) (nat_lt w 256) (nat_lt (negative w) 256) e refl refl refl
    plus_constant (Address o n) e =
        acts (row.Adlk 0) (operand.Address o n) u y 2 (InAcc Any ((x + y) % 65536)) (λ u. refl) e s (omega arith) (record { combination = combined step.plus u.registers.acc (scaled u.registers.sxm y 0); is = refl; turns = extended_sum u x y s low ly })

    minus_number : (w : ℕ) (a b d : Bool) → w ≡ y → (w == 0) ≡ a → nat_lt w 256 ≡ b → nat_lt (negative w) 256 ≡ d
        → Straight c (if a then end else if b then Op row.Subk (operand.Number w) ▸ end else if d then Op row.Addk (operand.Number (negative w)) ▸ end else Op (row.Sblk 0) (operand.Number w) ▸ end) u 2 (λ v. InAcc Any ((x + (65536 - y)) % 65536) v.registers.acc)
    minus_number w true b d e p q r =
        let i = eqb-true w 0 p in let n : x ≡ (x + (65536 - y)) % 65536 = omega (arith, i, e, lx) in
        nothing_done c u 2 (λ v. InAcc Any ((x + (65536 - y)) % 65536) v.registers.acc) s (record { has = low ∙ ap Some n; wide = wide })
    minus_number w false true d e p q r =
        acts row.Subk (operand.Number w) u y 2 (InAcc Any ((x + (65536 - y)) % 65536)) (λ u. refl) (ap Some e) s (omega arith) (record { combination = combined step.minus u.registers.acc (Whole y); is = refl; turns = exact_difference u x y s low ly })
    minus_number w false false true e p q r =
        let n : (x + negative w) % 65536 ≡ (x + (65536 - y)) % 65536 = omega (arith, e, ly) in
        acts row.Addk (operand.Number (negative w)) u (negative w) 2 (InAcc Any ((x + (65536 - y)) % 65536)) (λ u. refl) refl s (omega arith)
        (record { combination = combined step.plus u.registers.acc (Whole (negative w)); is = refl; turns = subst (λ i. Turns (combined step.plus u.registers.acc (Whole (negative w))) (InAcc Any i)) n (exact_sum u x (negative w) s low (omega arith)) })
    minus_number w false false false e p q r =
        acts (row.Sblk 0) (operand.Number w) u y 2 (InAcc Any ((x + (65536 - y)) % 65536)) (λ u. refl) (ap Some e) s (omega arith) (record { combination = combined step.minus u.registers.acc (scaled u.registers.sxm y 0); is = refl; turns = extended_difference u x y s low ly })

    pub minus_constant : (k : Constant) → ConstantIs c.at k y → Straight c (minus k) u 2 (λ v. InAcc Any ((x + (65536 - y)) % 65536) v.registers.acc)
    minus_constant (Number w) e = minus_number w (w == 0) (nat_lt w 256) (nat_lt (negative w) 256) e refl refl refl
    minus_constant (Address o n) e =
        acts (row.Sblk 0) (operand.Address o n) u y 2 (InAcc Any ((x + (65536 - y)) % 65536)) (λ u. refl) e s (omega arith) (record { combination = combined step.minus u.registers.acc (scaled u.registers.sxm y 0); is = refl; turns = extended_difference u x y s low ly })

  -- NEG
  pub negated : (v : Machine) (y : ℕ) → low_half v.registers.acc ≡ Some y → IsWide v.registers.acc → v.registers.sxm ≡ Some true → y < 65536
      → Straight c (bare row.Neg ▸ end) v 1 (λ u. InAcc Any ((65536 - y) % 65536) u.registers.acc)
  negated v y low wide s ly =
      acts row.Neg operand.Nothing v 0 1 (InAcc Any ((65536 - y) % 65536)) (λ u. refl) refl s (omega arith) (record { combination = combined step.minus (Whole 0) v.registers.acc; is = refl; turns = negation v.registers.acc y low ly wide })

  -- the word that is found, and the other one
  module _ (f : Found) (x y : ℕ) (v : Machine) (e : FoundHas c.at f x v) (w : IsFound f v) (s : v.registers.sxm ≡ Some true) (lx : x < 65536) (ly : y < 65536) where
    module _ (m : AccOperand) (steady : IsSteady m) (is : held c.at m v ≡ Some y) where
      pub added_place : Straight c (load f ⧺ Op (row.Add 0) m ▸ end) v (found_weight f + (operand_weight m + 12)) (λ u. InAcc Any ((x + y) % 65536) u.registers.acc)
      added_place =
          on_loaded c f x v (Op (row.Add 0) m ▸ end) (operand_weight m) (operand_weight m + 12) (λ u. InAcc Any ((x + y) % 65536) u.registers.acc) e w s lx (omega arith)
          (λ u st i. acts (row.Add 0) m u y (operand_weight m) (InAcc Any ((x + y) % 65536)) (λ u. refl) (there c m y v u steady st is) st.sxm (omega arith)
          (record { combination = combined step.plus u.registers.acc (scaled u.registers.sxm y 0); is = refl; turns = extended_sum u x y st.sxm (low_is (high f) x u.registers.acc lx i) ly }))

      pub less_place : Straight c (load f ⧺ Op (row.Sub 0) m ▸ end) v (found_weight f + (operand_weight m + 12)) (λ u. InAcc Any ((x + (65536 - y)) % 65536) u.registers.acc)
      less_place =
          on_loaded c f x v (Op (row.Sub 0) m ▸ end) (operand_weight m) (operand_weight m + 12) (λ u. InAcc Any ((x + (65536 - y)) % 65536) u.registers.acc) e w s lx (omega arith)
          (λ u st i. acts (row.Sub 0) m u y (operand_weight m) (InAcc Any ((x + (65536 - y)) % 65536)) (λ u. refl) (there c m y v u steady st is) st.sxm (omega arith)
          (record { combination = combined step.minus u.registers.acc (scaled u.registers.sxm y 0); is = refl; turns = extended_difference u x y st.sxm (low_is (high f) x u.registers.acc lx i) ly }))

      -- the place less the word that was found
      pub place_less : Straight c (load f ⧺ Op (row.Sub 0) m ▸ bare row.Neg ▸ end) v (found_weight f + (operand_weight m + 12)) (λ u. InAcc Any ((65536 - (x + (65536 - y)) % 65536) % 65536) u.registers.acc)
      place_less =
          let q : Machine → Type 0 = λ u. InAcc Any ((x + (65536 - y)) % 65536) u.registers.acc in
          on_loaded c f x v (Op (row.Sub 0) m ▸ bare row.Neg ▸ end) (operand_weight m + 1) (operand_weight m + 12) (λ u. InAcc Any ((65536 - (x + (65536 - y)) % 65536) % 65536) u.registers.acc) e w s lx (omega arith)
          (λ u st i. in_turn c (Op (row.Sub 0) m ▸ end) (bare row.Neg ▸ end) u (operand_weight m) 1 q (λ u. InAcc Any ((65536 - (x + (65536 - y)) % 65536) % 65536) u.registers.acc)
          (acts (row.Sub 0) m u y (operand_weight m) (InAcc Any ((x + (65536 - y)) % 65536)) (λ u. refl) (there c m y v u steady st is) st.sxm (omega arith)
          (record { combination = combined step.minus u.registers.acc (scaled u.registers.sxm y 0); is = refl; turns = extended_difference u x y st.sxm (low_is (high f) x u.registers.acc lx i) ly }))
          (λ t tt' j. negated t ((x + (65536 - y)) % 65536) j.has j.wide tt'.sxm (omega arith)))

      pub bits_place : (o : Bitwise) → Straight c (load f ⧺ Op (row_on_place o) m ▸ end) v (found_weight f + (operand_weight m + 12)) (λ u. InAcc (high_with_place o (high f)) (bits_of o x y) u.registers.acc)
      bits_place o =
          on_loaded c f x v (Op (row_on_place o) m ▸ end) (operand_weight m) (operand_weight m + 12) (λ u. InAcc (high_with_place o (high f)) (bits_of o x y) u.registers.acc) e w s lx (omega arith)
          (λ u st i. by o u st i)
        where
          by : (o : Bitwise) (u : Machine) → Stands v u → InAcc (high f) x u.registers.acc → Straight c (Op (row_on_place o) m ▸ end) u (operand_weight m) (λ u. InAcc (high_with_place o (high f)) (bits_of o x y) u.registers.acc)
          by bits.And u st i = acts row.And m u y (operand_weight m) (InAcc Zero (bits_of bits.And x y)) (λ u. refl) (there c m y v u steady st is) st.sxm (omega arith) (place_row bits.And (high f) x y u i lx ly)
          by bits.Or u st i = acts row.Or m u y (operand_weight m) (InAcc (kept_zero (high f)) (bits_of bits.Or x y)) (λ u. refl) (there c m y v u steady st is) st.sxm (omega arith) (place_row bits.Or (high f) x y u i lx ly)
          by bits.Xor u st i = acts row.Xor m u y (operand_weight m) (InAcc (kept_zero (high f)) (bits_of bits.Xor x y)) (λ u. refl) (there c m y v u steady st is) st.sxm (omega arith) (place_row bits.Xor (high f) x y u i lx ly)

    module _ (k : Constant) (is : ConstantIs c.at k y) where
      pub added_constant : Straight c (load f ⧺ plus k) v (found_weight f + 17) (λ u. InAcc Any ((x + y) % 65536) u.registers.acc)
      added_constant =
          on_loaded c f x v (plus k) 2 17 (λ u. InAcc Any ((x + y) % 65536) u.registers.acc) e w s lx (omega arith)
          (λ u st i. plus_constant u x y st.sxm (low_is (high f) x u.registers.acc lx i) i.wide lx ly k is)

      pub less_constant : Straight c (load f ⧺ minus k) v (found_weight f + 17) (λ u. InAcc Any ((x + (65536 - y)) % 65536) u.registers.acc)
      less_constant =
          on_loaded c f x v (minus k) 2 17 (λ u. InAcc Any ((x + (65536 - y)) % 65536) u.registers.acc) e w s lx (omega arith)
          (λ u st i. minus_constant u x y st.sxm (low_is (high f) x u.registers.acc lx i) i.wide lx ly k is)

      -- the constant less the word that was found
      pub constant_less : Straight c (load f ⧺ bare row.Neg ▸ plus k) v (found_weight f + 17) (λ u. InAcc Any (((65536 - x) % 65536 + y) % 65536) u.registers.acc)
      constant_less =
          on_loaded c f x v (bare row.Neg ▸ plus k) 3 17 (λ u. InAcc Any (((65536 - x) % 65536 + y) % 65536) u.registers.acc) e w s lx (omega arith)
          (λ u st i. in_turn c (bare row.Neg ▸ end) (plus k) u 1 2 (λ u. InAcc Any ((65536 - x) % 65536) u.registers.acc) (λ u. InAcc Any (((65536 - x) % 65536 + y) % 65536) u.registers.acc)
          (negated u x (low_is (high f) x u.registers.acc lx i) i.wide st.sxm lx)
          (λ t st' j. plus_constant t ((65536 - x) % 65536) y st'.sxm j.has j.wide (omega arith) ly k is))

      pub bits_constant : (o : Bitwise) → Straight c (load f ⧺ Op (row_on_constant o) (constant_operand k) ▸ end) v (found_weight f + 17) (λ u. InAcc (high_with_constant o k (high f)) (bits_of o x y) u.registers.acc)
      bits_constant o =
          on_loaded c f x v (Op (row_on_constant o) (constant_operand k) ▸ end) 2 17 (λ u. InAcc (high_with_constant o k (high f)) (bits_of o x y) u.registers.acc) e w s lx (omega arith)
          (λ u st i. by o u st i)
        where
          light : (k : Constant) → operand_weight (constant_operand k) ≤ 2
          light (Number n) = omega arith
          light (Address b n) = omega arith

          by : (o : Bitwise) (u : Machine) → Stands v u → InAcc (high f) x u.registers.acc → Straight c (Op (row_on_constant o) (constant_operand k) ▸ end) u 2 (λ u. InAcc (high_with_constant o k (high f)) (bits_of o x y) u.registers.acc)
          by bits.And u st i = acts row.Andk (constant_operand k) u y 2 (InAcc (masked_by k) (bits_of bits.And x y)) (λ u. refl) (constant_there k y u is) st.sxm (light k) (constant_row bits.And k c.at (high f) x y u is i lx ly)
          by bits.Or u st i = acts row.Ork (constant_operand k) u y 2 (InAcc (kept_zero (high f)) (bits_of bits.Or x y)) (λ u. refl) (constant_there k y u is) st.sxm (light k) (constant_row bits.Or k c.at (high f) x y u is i lx ly)
          by bits.Xor u st i = acts row.Xork (constant_operand k) u y 2 (InAcc (kept_zero (high f)) (bits_of bits.Xor x y)) (λ u. refl) (constant_there k y u is) st.sxm (light k) (constant_row bits.Xor k c.at (high f) x y u is i lx ly)
