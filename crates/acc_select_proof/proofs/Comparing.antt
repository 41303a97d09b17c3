-- Comparisons leave an accumulator that their test tells of.
use Rattle.std.proofs.Common.{◌≡◌, ℕ, ◌+◌, ◌-◌, ◌%◌, ◌<◌, ◌≤◌, Bool, true, false, Some, refl, sym, ap, ◌∙◌, subst, arith}
use Rattle.std.specs.Prelude.{nat_lt, ◌==◌, not, ◌||◌, if◌then◌else◌, bit_xor}
use Rattle.std.proofs.lemmas.Bool.{ltb-true, eqb-true, eqb-false}
use Rattle.word_base.specs.Words.{equal, int_less, unsigned_less}
use Rattle.acc_code.specs.declared.operand.AccOperand.{AccOperand}
use Rattle.acc_code.specs.declared.operand.AccOperand.TheVariants as operand
use Rattle.acc_code.specs.declared.operation.AccOp.TheVariants as row
use Rattle.acc_code.specs.declared.operation.Test.{Test}
use Rattle.acc_code.specs.declared.operation.Test.TheVariants as test
use Rattle.acc_code.specs.AccTree.{Op, ItemList, end, ◌▸◌, ◌⧺◌}
use Rattle.acc_select.specs.acc_operations.Comparisons.{subs, sub, exactly_less, exactly_less_number, exactly_less_constant}
use Rattle.acc_select.specs.acc_operations.Constants.{negative}
use Rattle.acc_select.specs.acc_operations.Kinds.{swapped}
use Rattle.acc_select.specs.acc_operations.Sums.{minus}
use Rattle.acc_select.specs.acc_operations.Words.{high, extend, clear_high, clean, load_signed, load_unsigned, load_clean}
use Rattle.acc_select.specs.acc_operations.declared.comparison.Order.{Order}
use Rattle.acc_select.specs.acc_operations.declared.comparison.Order.TheVariants.{Exact, Signed, Unsigned}
use Rattle.acc_select.specs.acc_operations.declared.constant.Constant.{Constant}
use Rattle.acc_select.specs.acc_operations.declared.constant.Constant.TheVariants.{Number, Address}
use Rattle.acc_select.specs.acc_operations.declared.found.Found.{Found}
use Rattle.acc_select.specs.acc_operations.declared.high_half.HighHalf.{HighHalf}
use Rattle.acc_select.specs.acc_operations.declared.high_half.HighHalf.TheVariants.{Any, Zero, Sign, Small}
use Rattle.c25_isa.specs.Step as step
use Rattle.c25_isa.specs.Step.{extended}
use Rattle.ir_semantics.specs.AccRows.{Acc, Whole, low_half, holds, combined, masked, scaled, operand_weight}
use Rattle.ir_semantics.specs.AccRun.{Machine, Context, held}
use Rattle.acc_select_proof.proofs.Straights.{ConstantIs, FoundHas, found_weight, Straight, nothing_done, at_most}
use Rattle.acc_select_proof.proofs.Loading.{extended_word}
use Rattle.acc_select_proof.proofs.Words.{ext_is, scaled_word, small_sign}
use Rattle.acc_select_proof.proofs.Meant.{tested_by, less_by, IsTold}
use Rattle.acc_select_proof.proofs.Testing.{IsTest}
use Rattle.acc_select_proof.proofs.Arithmetics.{Ordered, signed_order, unsigned_order, low_equal, xor_equal, mask_low, eq_is, ext-lt}
use Rattle.acc_select_proof.proofs.Following.{InAcc, IsFound, Stands, in_turn, on_loaded}
use Rattle.acc_select_proof.proofs.Summing.{Acted, low_is, acts, extended_difference, minus_constant}

not_not : (b : Bool) → b ≡ not (not b)
not_not true = refl
not_not false = refl

-- what 32 bits tell of two words in an order
abbrev pub Tells : Order → ℕ → ℕ → ℕ → Type 0
Tells Exact z x y = (z == 0) ≡ equal x y
Tells Signed z x y = Ordered z int_less x y
Tells Unsigned z x y = Ordered z unsigned_less x y

pub record Shows (o : Order) (x y : ℕ) (a : Acc) : Type 0 where
  pub z : ℕ
  pub is : a ≡ Whole z
  pub tells : Tells o z x y

ordered_holds : (t : Test) (z : ℕ) (less : ℕ → ℕ → Bool) (x y : ℕ) → Ordered z less x y → holds t z ≡ tested_by t less x y
ordered_holds test.Gz z less x y o = ap (λ b. not (b || (z == 0))) o.negative ∙ ap (λ b. not (less x y || b)) o.zero ∙ o.greater
ordered_holds test.Lez z less x y o = ap (λ b. b || (z == 0)) o.negative ∙ ap (λ b. less x y || b) o.zero ∙ not_not (less x y || equal x y) ∙ ap not o.greater
ordered_holds test.Lz z less x y o = o.negative
ordered_holds test.Gez z less x y o = ap not o.negative
ordered_holds test.Nz z less x y o = ap not o.zero
ordered_holds test.Z z less x y o = o.zero

exact_holds : (t : Test) (z : ℕ) (less : ℕ → ℕ → Bool) (x y : ℕ) → IsTold Exact t → (z == 0) ≡ equal x y → holds t z ≡ tested_by t less x y
exact_holds test.Z z less x y told e = e
exact_holds test.Nz z less x y told e = ap not e
exact_holds test.Gz z less x y told e = absurd told
exact_holds test.Lez z less x y told e = absurd told
exact_holds test.Lz z less x y told e = absurd told
exact_holds test.Gez z less x y told e = absurd told

pub shown : (o : Order) (t : Test) (x y : ℕ) (a : Acc) → IsTold o t → Shows o x y a → IsTest t (tested_by t (less_by o) x y) a
shown Exact t x y a told s = record { z = s.z; is = s.is; holds_so = exact_holds t s.z unsigned_less x y told s.tells }
shown Signed t x y a told s = record { z = s.z; is = s.is; holds_so = ordered_holds t s.z int_less x y s.tells }
shown Unsigned t x y a told s = record { z = s.z; is = s.is; holds_so = ordered_holds t s.z unsigned_less x y s.tells }

equal_turned : (x y : ℕ) → equal y x ≡ equal x y
equal_turned x y = eq_is y x x y (λ e. sym e) (λ e. sym e)

-- left and right have changed places
pub turned : (t : Test) (less : ℕ → ℕ → Bool) (x y : ℕ) → tested_by (swapped t) less y x ≡ tested_by t less x y
turned test.Gz less x y = refl
turned test.Lez less x y = refl
turned test.Lz less x y = refl
turned test.Gez less x y = refl
turned test.Nz less x y = ap not (equal_turned x y)
turned test.Z less x y = equal_turned x y

pub told_swapped : (o : Order) (t : Test) → IsTold o t → IsTold o (swapped t)
told_swapped Signed t told = tt
told_swapped Unsigned t told = tt
told_swapped Exact test.Z told = tt
told_swapped Exact test.Nz told = tt
told_swapped Exact test.Gz told = absurd told
told_swapped Exact test.Lez told = absurd told
told_swapped Exact test.Lz told = absurd told
told_swapped Exact test.Gez told = absurd told

pub shown_turned : (o : Order) (t : Test) (x y : ℕ) (a : Acc) → IsTold o t → Shows o y x a → IsTest (swapped t) (tested_by t (less_by o) x y) a
shown_turned o t x y a told s = subst (λ b. IsTest (swapped t) b a) (turned t (less_by o) x y) (shown o (swapped t) y x a (told_swapped o t told) s)

-- differences that are zero where words are equal
exact_sign : (x y : ℕ) (a : Acc) → x < 65536 → y < 65536 → a ≡ Whole (step.minus (extended true x) (extended true y)) → Shows Exact x y a
exact_sign x y a lx ly e = record { z = step.minus (extended true x) (extended true y); is = e; tells = (signed_order x y lx ly).zero }

exact_zero : (x y : ℕ) (a : Acc) → x < 65536 → y < 65536 → a ≡ Whole (step.minus x y) → Shows Exact x y a
exact_zero x y a lx ly e = record { z = step.minus x y; is = e; tells = (unsigned_order x y lx ly).zero }

exact_low : (x y : ℕ) (a : Acc) → x < 65536 → y < 65536 → a ≡ Whole ((x + (65536 - y)) % 65536) → Shows Exact x y a
exact_low x y a lx ly e = record { z = (x + (65536 - y)) % 65536; is = e; tells = low_equal x y lx ly }

pub signed_shows : (x y : ℕ) (a : Acc) → x < 65536 → y < 65536 → a ≡ Whole (step.minus (extended true x) (extended true y)) → Shows Signed x y a
signed_shows x y a lx ly e = record { z = step.minus (extended true x) (extended true y); is = e; tells = signed_order x y lx ly }

pub unsigned_shows : (x y : ℕ) (a : Acc) → x < 65536 → y < 65536 → a ≡ Whole (step.minus x y) → Shows Unsigned x y a
unsigned_shows x y a lx ly e = record { z = step.minus x y; is = e; tells = unsigned_order x y lx ly }

pub exact_turned : (x y : ℕ) (a : Acc) → Shows Exact y x a → Shows Exact x y a
exact_turned x y a s = record { z = s.z; is = s.is; tells = s.tells ∙ equal_turned x y }

-- rows on all 32 bits
pub sub_acted : (z y : ℕ) (u : Machine) → u.registers.sxm ≡ Some true → u.registers.acc ≡ Whole z → y < 65536 → Acted (row.Sub 0) y u (λ a. a ≡ Whole (step.minus z (extended true y)))
sub_acted z y u s e ly = record {
  combination = combined step.minus u.registers.acc (scaled u.registers.sxm y 0);
  is = refl;
  turns = record { to = Whole (step.minus z (extended true y)); by = ap (λ a. combined step.minus a (scaled u.registers.sxm y 0)) e ∙ ap (combined step.minus (Whole z)) (scaled_word u.registers.sxm y s ly); has = refl };
}

pub subs_acted : (z y : ℕ) (u : Machine) → u.registers.acc ≡ Whole z → Acted row.Subs y u (λ a. a ≡ Whole (step.minus z y))
subs_acted z y u e = record { combination = combined step.minus u.registers.acc (Whole y); is = refl; turns = record { to = Whole (step.minus z y); by = ap (λ a. combined step.minus a (Whole y)) e; has = refl } }

pub mask_acted : (x : ℕ) (u : Machine) → low_half u.registers.acc ≡ Some x → x < 65536 → Acted row.Andk 65535 u (λ a. a ≡ Whole x)
mask_acted x u low lx = record { combination = masked (low_half u.registers.acc) 65535; is = refl; turns = record { to = Whole x; by = ap (λ i. masked i 65535) low ∙ ap (λ i. Some (Whole i)) (mask_low x lx); has = refl } }

module _ (c : Context) where
  -- ANDK FFFFh
  pub low_left : (v : Machine) (x : ℕ) → low_half v.registers.acc ≡ Some x → v.registers.sxm ≡ Some true → x < 65536 → Straight c (Op row.Andk (operand.Number 65535) ▸ end) v 2 (λ u. u.registers.acc ≡ Whole x)
  low_left v x low s lx = acts c row.Andk (operand.Number 65535) v 65535 2 (λ a. a ≡ Whole x) (λ u. refl) refl s (omega arith) (mask_acted x v low lx)

  pub cleared_high : (h : HighHalf) (x : ℕ) (v : Machine) → InAcc h x v.registers.acc → v.registers.sxm ≡ Some true → x < 65536 → Straight c (clear_high h) v 2 (λ u. u.registers.acc ≡ Whole x)
  cleared_high Any x v i s lx = low_left v x i.has s lx
  cleared_high Zero x v i s lx = nothing_done c v 2 (λ u. u.registers.acc ≡ Whole x) s i.has
  cleared_high Sign x v i s lx = low_left v x (low_is Sign x v.registers.acc lx i) s lx
  cleared_high Small x v i s lx = nothing_done c v 2 (λ u. u.registers.acc ≡ Whole x) s i.has.0

  sign_zero : (x : ℕ) → x < 65536 → (extended true x == 0) ≡ (x == 0)
  sign_zero x lx = eq_is (extended true x) 0 x 0 (λ e. omega (arith, ext_is x)) (λ e. omega (arith, ext_is x))

  pub cleaned : (h : HighHalf) (x : ℕ) (v : Machine) → InAcc h x v.registers.acc → v.registers.sxm ≡ Some true → x < 65536 → Straight c (clean h) v 2 (λ u. Shows Exact x 0 u.registers.acc)
  cleaned Any x v i s lx = at_most c (Op row.Andk (operand.Number 65535) ▸ end) v 2 2 (λ u. u.registers.acc ≡ Whole x) (λ u. Shows Exact x 0 u.registers.acc) (omega arith) (λ u e. record { z = x; is = e; tells = refl }) (low_left v x i.has s lx)
  cleaned Zero x v i s lx = nothing_done c v 2 (λ u. Shows Exact x 0 u.registers.acc) s (record { z = x; is = i.has; tells = refl })
  cleaned Sign x v i s lx = nothing_done c v 2 (λ u. Shows Exact x 0 u.registers.acc) s (record { z = extended true x; is = i.has; tells = sign_zero x lx })
  cleaned Small x v i s lx = nothing_done c v 2 (λ u. Shows Exact x 0 u.registers.acc) s (record { z = x; is = i.has.0; tells = refl })

  -- one item behind another
  pub then_one : (xs ys : ItemList) (v : Machine) (k j n : ℕ) (p q : Machine → Type 0) → k + j ≤ n → Straight c xs v k p → ((u : Machine) → Stands v u → p u → Straight c ys u j q) → Straight c (xs ⧺ ys) v n q
  then_one xs ys v k j n p q le s f = at_most c (xs ⧺ ys) v (k + j) n q q le (λ u h. h) (in_turn c xs ys v k j p q s f)

  module _ (f : Found) (x : ℕ) (v : Machine) (e : FoundHas c.at f x v) (w : IsFound f v) (s : v.registers.sxm ≡ Some true) (lx : x < 65536) where
    pub signed_loaded : Straight c (load_signed f) v (found_weight f + 4) (λ u. u.registers.acc ≡ Whole (extended true x))
    signed_loaded = on_loaded c f x v (extend (high f)) 4 4 (λ u. u.registers.acc ≡ Whole (extended true x)) e w s lx (omega arith) (λ u st i. extended_word c (high f) x u i.has st.sxm lx)

    pub unsigned_loaded : Straight c (load_unsigned f) v (found_weight f + 2) (λ u. u.registers.acc ≡ Whole x)
    unsigned_loaded = on_loaded c f x v (clear_high (high f)) 2 2 (λ u. u.registers.acc ≡ Whole x) e w s lx (omega arith) (λ u st i. cleared_high (high f) x u i st.sxm lx)

    pub clean_loaded : Straight c (load_clean f) v (found_weight f + 2) (λ u. Shows Exact x 0 u.registers.acc)
    clean_loaded = on_loaded c f x v (clean (high f)) 2 2 (λ u. Shows Exact x 0 u.registers.acc) e w s lx (omega arith) (λ u st i. cleaned (high f) x u i st.sxm lx)

    -- a word against 0
    pub tested_clean : Straight c (load_clean f) v (found_weight f + 2) (λ u. IsTest test.Nz (not (x == 0)) u.registers.acc)
    tested_clean = at_most c (load_clean f) v (found_weight f + 2) (found_weight f + 2) (λ u. Shows Exact x 0 u.registers.acc) (λ u. IsTest test.Nz (not (x == 0)) u.registers.acc) (omega arith) (λ u h. shown Exact test.Nz x 0 u.registers.acc tt h) clean_loaded

  -- less a constant, on all 32 bits
  module _ (u : Machine) (z y : ℕ) (s : u.registers.sxm ≡ Some true) (is : u.registers.acc ≡ Whole z) (lz : z < 4294967296) (ly : y < 65536) where
    exactly_number : (w : ℕ) (a b d : Bool) → w ≡ y → (w == 0) ≡ a → nat_lt w 256 ≡ b → nat_lt (negative w) 256 ≡ d
        → Straight c (if a then end else if b then Op row.Subk (operand.Number w) ▸ end else if d then Op row.Addk (operand.Number (negative w)) ▸ end else Op (row.Sblk 0) (operand.Number w) ▸ end) u 2 (λ v. v.registers.acc ≡ Whole (step.minus z (extended true y)))
    exactly_number w true b d e p q r =
        let i = eqb-true w 0 p in let n : z ≡ step.minus z (extended true y) = omega (arith, i, e, lz, ext_is y) in
        nothing_done c u 2 (λ v. v.registers.acc ≡ Whole (step.minus z (extended true y))) s (is ∙ ap Whole n)
    exactly_number w false true d e p q r =
        let n : step.minus z y ≡ step.minus z (extended true y) = let i = ltb-true w 256 q in omega (arith, i, e, ext_is y) in
        acts c row.Subk (operand.Number w) u y 2 (λ a. a ≡ Whole (step.minus z (extended true y))) (λ u. refl) (ap Some e) s (omega arith)
        (record { combination = combined step.minus u.registers.acc (Whole y); is = refl; turns = record { to = Whole (step.minus z y); by = ap (λ a. combined step.minus a (Whole y)) is; has = ap Whole n } })
    exactly_number w false false true e p q r =
        let n : step.plus z (negative w) ≡ step.minus z (extended true y) = let i = ltb-true (negative w) 256 r in let j = eqb-false w 0 p in omega (arith, i, j, e, ly, ext_is y) in
        acts c row.Addk (operand.Number (negative w)) u (negative w) 2 (λ a. a ≡ Whole (step.minus z (extended true y))) (λ u. refl) refl s (omega arith)
        (record { combination = combined step.plus u.registers.acc (Whole (negative w)); is = refl; turns = record { to = Whole (step.plus z (negative w)); by = ap (λ a. combined step.plus a (Whole (negative w))) is; has = ap Whole n } })
    exactly_number w false false false e p q r =
        acts c (row.Sblk 0) (operand.Number w) u y 2 (λ a. a ≡ Whole (step.minus z (extended true y))) (λ u. refl) (ap Some e) s (omega arith) (long_acted)
      where
        long_acted : Acted (row.Sblk 0) y u (λ a. a ≡ Whole (step.minus z (extended true y)))
        long_acted = let a = sub_acted z y u s is ly in record { combination = a.combination; is = a.is; turns = a.turns }

    pub exactly_constant : (k : Constant) → ConstantIs c.at k y → Straight c (minus k) u 2 (λ v. v.registers.acc ≡ Whole (step.minus z (extended true y)))
    exactly_constant (Number w) e = exactly_number w (w == 0) (nat_lt w 256) (nat_lt (negative w) 256) e refl refl refl
    exactly_constant (Address o n) e =
        let a = sub_acted z y u s is ly in
        acts c (row.Sblk 0) (operand.Address o n) u y 2 (λ a. a ≡ Whole (step.minus z (extended true y))) (λ u. refl) e s (omega arith) (record { combination = a.combination; is = a.is; turns = a.turns })

  -- a word in the accumulator less another one, as far as whether they are equal
  module _ (u : Machine) (x y : ℕ) (s : u.registers.sxm ≡ Some true) (lx : x < 65536) (ly : y < 65536) where
    pub less_steady : (m : AccOperand) → held c.at m u ≡ Some y → u.registers.acc ≡ Whole (extended true x) → Straight c (sub m ▸ end) u (operand_weight m) (λ v. v.registers.acc ≡ Whole (step.minus (extended true x) (extended true y)))
    less_steady m e is = acts c (row.Sub 0) m u y (operand_weight m) (λ a. a ≡ Whole (step.minus (extended true x) (extended true y))) (λ u. refl) e s (omega arith) (sub_acted (extended true x) y u s is ly)

    pub less_plain : (m : AccOperand) → held c.at m u ≡ Some y → u.registers.acc ≡ Whole x → Straight c (subs m ▸ end) u (operand_weight m) (λ v. v.registers.acc ≡ Whole (step.minus x y))
    less_plain m e is = acts c row.Subs m u y (operand_weight m) (λ a. a ≡ Whole (step.minus x y)) (λ u. refl) e s (omega arith) (subs_acted x y u is)

    pub small_is : u.registers.acc ≡ Whole x → x < 32768 → u.registers.acc ≡ Whole (extended true x)
    small_is is lt = is ∙ ap Whole (small_sign x lt)

    sign_less : (m : AccOperand) → held c.at m u ≡ Some y → u.registers.acc ≡ Whole (extended true x) → Straight c (sub m ▸ end) u (operand_weight m + 2) (λ v. Shows Exact x y v.registers.acc)
    sign_less m e is = at_most c (sub m ▸ end) u (operand_weight m) (operand_weight m + 2) (λ v. v.registers.acc ≡ Whole (step.minus (extended true x) (extended true y))) (λ v. Shows Exact x y v.registers.acc) (omega arith) (λ v h. exact_sign x y v.registers.acc lx ly h) (less_steady m e is)

    pub exactly_less_place : (h : HighHalf) (m : AccOperand) → InAcc h x u.registers.acc → held c.at m u ≡ Some y → Straight c (exactly_less h m) u (operand_weight m + 2) (λ v. Shows Exact x y v.registers.acc)
    exactly_less_place Any m i e =
        in_turn c (sub m ▸ end) (Op row.Andk (operand.Number 65535) ▸ end) u (operand_weight m) 2 (λ v. InAcc Any ((x + (65536 - y)) % 65536) v.registers.acc) (λ v. Shows Exact x y v.registers.acc)
        (acts c (row.Sub 0) m u y (operand_weight m) (InAcc Any ((x + (65536 - y)) % 65536)) (λ u. refl) e s (omega arith)
        (record { combination = combined step.minus u.registers.acc (scaled u.registers.sxm y 0); is = refl; turns = extended_difference u x y s i.has ly }))
        (λ t st j. masked_shows t j.has st.sxm)
      where
        masked_shows : (t : Machine) → low_half t.registers.acc ≡ Some ((x + (65536 - y)) % 65536) → t.registers.sxm ≡ Some true → Straight c (Op row.Andk (operand.Number 65535) ▸ end) t 2 (λ v. Shows Exact x y v.registers.acc)
        masked_shows t low st = at_most c (Op row.Andk (operand.Number 65535) ▸ end) t 2 2 (λ v. v.registers.acc ≡ Whole ((x + (65536 - y)) % 65536)) (λ v. Shows Exact x y v.registers.acc) (omega arith) (λ v h. exact_low x y v.registers.acc lx ly h) (low_left t ((x + (65536 - y)) % 65536) low st (omega arith))
    exactly_less_place Zero m i e = at_most c (subs m ▸ end) u (operand_weight m) (operand_weight m + 2) (λ v. v.registers.acc ≡ Whole (step.minus x y)) (λ v. Shows Exact x y v.registers.acc) (omega arith) (λ v h. exact_zero x y v.registers.acc lx ly h) (less_plain m e i.has)
    exactly_less_place Sign m i e = sign_less m e i.has
    exactly_less_place Small m i e = sign_less m e (small_is i.has.0 i.has.1)

    -- less a constant
    low_less : (h : HighHalf) (k : Constant) → InAcc h x u.registers.acc → ConstantIs c.at k y → Straight c (minus k ⧺ Op row.Andk (operand.Number 65535) ▸ end) u 4 (λ v. Shows Exact x y v.registers.acc)
    low_less h k i e =
        in_turn c (minus k) (Op row.Andk (operand.Number 65535) ▸ end) u 2 2 (λ v. InAcc Any ((x + (65536 - y)) % 65536) v.registers.acc) (λ v. Shows Exact x y v.registers.acc)
        (minus_constant c u x y s (low_is h x u.registers.acc lx i) i.wide lx ly k e)
        (λ t st j. at_most c (Op row.Andk (operand.Number 65535) ▸ end) t 2 2 (λ v. v.registers.acc ≡ Whole ((x + (65536 - y)) % 65536)) (λ v. Shows Exact x y v.registers.acc) (omega arith) (λ v h. exact_low x y v.registers.acc lx ly h) (low_left t ((x + (65536 - y)) % 65536) j.has st.sxm (omega arith)))

    sign_less_constant : (k : Constant) → u.registers.acc ≡ Whole (extended true x) → ConstantIs c.at k y → Straight c (minus k) u 4 (λ v. Shows Exact x y v.registers.acc)
    sign_less_constant k is e =
        at_most c (minus k) u 2 4 (λ v. v.registers.acc ≡ Whole (step.minus (extended true x) (extended true y))) (λ v. Shows Exact x y v.registers.acc) (omega arith) (λ v h. exact_sign x y v.registers.acc lx ly h)
        (exactly_constant u (extended true x) y s is (ext-lt x lx) ly k e)

    zero_less_number : (w : ℕ) (b : Bool) → w ≡ y → nat_lt w 256 ≡ b → u.registers.acc ≡ Whole x → Straight c (if b then Op row.Subk (operand.Number w) ▸ end else Op row.Xork (operand.Number w) ▸ end) u 4 (λ v. Shows Exact x y v.registers.acc)
    zero_less_number w true e q is =
        acts c row.Subk (operand.Number w) u y 4 (Shows Exact x y) (λ u. refl) (ap Some e) s (omega arith)
        (record { combination = combined step.minus u.registers.acc (Whole y); is = refl; turns = record { to = Whole (step.minus x y); by = ap (λ a. combined step.minus a (Whole y)) is; has = exact_zero x y (Whole (step.minus x y)) lx ly refl } })
    zero_less_number w false e q is =
        acts c row.Xork (operand.Number w) u y 4 (Shows Exact x y) (λ u. refl) (ap Some e) s (omega arith)
        (record { combination = combined bit_xor u.registers.acc (Whole y); is = refl; turns = record { to = Whole (bit_xor x y); by = ap (λ a. combined bit_xor a (Whole y)) is; has = record { z = bit_xor x y; is = refl; tells = xor_equal x y } } })

    exactly_less_word : (h : HighHalf) (w : ℕ) → InAcc h x u.registers.acc → w ≡ y → Straight c (exactly_less_number h w) u 4 (λ v. Shows Exact x y v.registers.acc)
    exactly_less_word Any w i e = low_less Any (Number w) i e
    exactly_less_word Zero w i e = zero_less_number w (nat_lt w 256) e refl i.has
    exactly_less_word Sign w i e = sign_less_constant (Number w) i.has e
    exactly_less_word Small w i e = sign_less_constant (Number w) (small_is i.has.0 i.has.1) e

    pub exactly_less_fixed : (h : HighHalf) (k : Constant) → InAcc h x u.registers.acc → ConstantIs c.at k y → Straight c (exactly_less_constant h k) u 4 (λ v. Shows Exact x y v.registers.acc)
    exactly_less_fixed h (Number w) i e = exactly_less_word h w i e
    exactly_less_fixed Any (Address o n) i e = low_less Any (Address o n) i e
    exactly_less_fixed Zero (Address o n) i e = low_less Zero (Address o n) i e
    exactly_less_fixed Sign (Address o n) i e = sign_less_constant (Address o n) i.has e
    exactly_less_fixed Small (Address o n) i e = sign_less_constant (Address o n) (small_is i.has.0 i.has.1) e
