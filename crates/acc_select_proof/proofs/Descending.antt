-- Shifts to the right by a constant count leave their value.
use Rattle.std.proofs.Common.{◌≡◌, ℕ, zero, suc, ◌+◌, ◌-◌, ◌*◌, ◌/◌, ◌^◌, ◌<◌, ◌≤◌, Bool, true, false, cond, ◌&&◌, Some, refl, sym, ap, ◌∙◌, subst, ⊎_elim, inl, inr, arith}
use Rattle.std.specs.Prelude.{◌⊎◌, nat_lt, ◌==◌, if◌then◌else◌}
use Rattle.std.proofs.lemmas.Bool.{ltb-true, eqb-false, cases_eq, cases_lt, cond_below, cond_above, le-leb, lt-leb}
use Rattle.std.proofs.lemmas.Nat.{mul-mod_first, shr_le, shr-shr, pow-add}
use Rattle.std.proofs.lemmas.Grind.{pow_more}
use Rattle.acc_code.specs.declared.operand.AccOperand.{AccOperand}
use Rattle.acc_code.specs.declared.operand.AccOperand.TheVariants as operand
use Rattle.acc_code.specs.declared.operation.AccOp.TheVariants as row
use Rattle.acc_code.specs.AccTree.{Item, Op, end, ◌▸◌, ◌⧺◌}
use Rattle.acc_select.specs.acc_operations.Sums.{repeated, moved_right, moved_right_signed, shift_right_signed, shift_right_unsigned}
use Rattle.acc_select.specs.acc_operations.Words.{bare, lac, load_signed, load_unsigned, scratch}
use Rattle.acc_select.specs.acc_operations.declared.found.Found.{Found}
use Rattle.acc_select.specs.acc_operations.declared.found.Found.TheVariants.{Fixed, Held, Loaded}
use Rattle.acc_select.specs.acc_operations.declared.high_half.HighHalf.TheVariants.{Zero, Sign, Small}
use Rattle.c25_isa.specs.Step.{extended, wrap32, half}
use Rattle.ir_semantics.specs.Parts.{after, Next, in_order, give}
use Rattle.ir_semantics.specs.Outside.{with_scalar}
use Rattle.ir_semantics.specs.AccRows.{Acc, Whole, whole_of, high_stored, halved, known, doubled, scaled, operand_weight}
use Rattle.ir_semantics.specs.AccRun.{Machine, Context, held, store}
use Rattle.acc_select_proof.proofs.Straights.{FoundHas, found_weight, Straight, nothing_done, at_most}
use Rattle.acc_select_proof.proofs.Loading.{LoadedFrom, word_loaded}
use Rattle.acc_select_proof.proofs.Sides.{put_here}
use Rattle.acc_select_proof.proofs.Words.{ext_is}
use Rattle.acc_select_proof.proofs.Arithmetics.{ext-lt}
use Rattle.acc_select_proof.proofs.Following.{IsWide, InAcc, IsFound, in_turn}
use Rattle.acc_select_proof.proofs.Summing.{acts}
use Rattle.acc_select_proof.proofs.Comparing.{signed_loaded, unsigned_loaded}

-- a word that is moved to the right, with its sign
abbrev pub moved_down : ℕ → ℕ → ℕ
moved_down x n = if nat_lt x 32768 then x / 2 ^ n else 65535 - (65535 - x) / 2 ^ n

down_is : (x n : ℕ) → ((x < 32768) × (moved_down x n ≡ x / 2 ^ n)) ⊎ ((32768 ≤ x) × (moved_down x n ≡ 65535 - (65535 - x) / 2 ^ n))
down_is x n =
    ⊎_elim
    (λ lt. inl (lt, sym (cond_below x 32768 (x / 2 ^ n) (65535 - (65535 - x) / 2 ^ n) lt)))
    (λ le. inr (le, sym (cond_above x 32768 (x / 2 ^ n) (65535 - (65535 - x) / 2 ^ n) (65535 - (65535 - x) / 2 ^ n) le refl)))
    (cases_lt x 32768)

or_next : (P : ℕ → Type 0) (k n : ℕ) → P k → ((n ≡ k → ⊥) → P n) → P n
or_next P k n p f = ⊎_elim (λ e. subst P (sym e) p) f (cases_eq n k)

-- a fact of each count
below_16 : (P : ℕ → Type 0) → P 0 → P 1 → P 2 → P 3 → P 4 → P 5 → P 6 → P 7 → P 8 → P 9 → P 10 → P 11 → P 12 → P 13 → P 14 → P 15 → (n : ℕ) → n < 16 → P n
below_16 P p0 p1 p2 p3 p4 p5 p6 p7 p8 p9 p10 p11 p12 p13 p14 p15 n lt =
    or_next P 0 n p0 (λ n0. or_next P 1 n p1 (λ n1. or_next P 2 n p2 (λ n2. or_next P 3 n p3 (λ n3. or_next P 4 n p4 (λ n4. or_next P 5 n p5 (λ n5. or_next P 6 n p6 (λ n6. or_next P 7 n p7
    (λ n7. or_next P 8 n p8 (λ n8. or_next P 9 n p9 (λ n9. or_next P 10 n p10 (λ n10. or_next P 11 n p11 (λ n11. or_next P 12 n p12 (λ n12. or_next P 13 n p13 (λ n13. or_next P 14 n p14 (λ n14. or_next P 15 n p15
    (λ n15. absurd (omega (arith, lt, n0, n1, n2, n3, n4, n5, n6, n7, n8, n9, n10, n11, n12, n13, n14, n15))))))))))))))))))

module _ (x : ℕ) (lx : x < 65536) where
  -- the high half of a word that is moved to the left by the rest of 16
  pub high_signed : (n : ℕ) → n < 16 → wrap32 (extended true x * 2 ^ (16 - n)) / 65536 ≡ moved_down x n
  high_signed = below_16 (λ n. wrap32 (extended true x * 2 ^ (16 - n)) / 65536 ≡ moved_down x n)
      (omega (arith, lx, ext_is x, down_is x 0)) (omega (arith, lx, ext_is x, down_is x 1)) (omega (arith, lx, ext_is x, down_is x 2)) (omega (arith, lx, ext_is x, down_is x 3))
      (omega (arith, lx, ext_is x, down_is x 4)) (omega (arith, lx, ext_is x, down_is x 5)) (omega (arith, lx, ext_is x, down_is x 6)) (omega (arith, lx, ext_is x, down_is x 7))
      (omega (arith, lx, ext_is x, down_is x 8)) (omega (arith, lx, ext_is x, down_is x 9)) (omega (arith, lx, ext_is x, down_is x 10)) (omega (arith, lx, ext_is x, down_is x 11))
      (omega (arith, lx, ext_is x, down_is x 12)) (omega (arith, lx, ext_is x, down_is x 13)) (omega (arith, lx, ext_is x, down_is x 14)) (omega (arith, lx, ext_is x, down_is x 15))

  pub high_unsigned : (n : ℕ) → n < 16 → wrap32 (x * 2 ^ (16 - n)) / 65536 ≡ x / 2 ^ n
  high_unsigned = below_16 (λ n. wrap32 (x * 2 ^ (16 - n)) / 65536 ≡ x / 2 ^ n)
      (omega (arith, lx)) (omega (arith, lx)) (omega (arith, lx)) (omega (arith, lx)) (omega (arith, lx)) (omega (arith, lx)) (omega (arith, lx)) (omega (arith, lx))
      (omega (arith, lx)) (omega (arith, lx)) (omega (arith, lx)) (omega (arith, lx)) (omega (arith, lx)) (omega (arith, lx)) (omega (arith, lx)) (omega (arith, lx))

  pub half_below : (n : ℕ) → n < 16 → 0 < n → x / 2 ^ n < 32768
  half_below = below_16 (λ n. 0 < n → x / 2 ^ n < 32768)
      (λ p. omega (arith, p)) (λ p. omega (arith, lx)) (λ p. omega (arith, lx)) (λ p. omega (arith, lx)) (λ p. omega (arith, lx)) (λ p. omega (arith, lx)) (λ p. omega (arith, lx)) (λ p. omega (arith, lx))
      (λ p. omega (arith, lx)) (λ p. omega (arith, lx)) (λ p. omega (arith, lx)) (λ p. omega (arith, lx)) (λ p. omega (arith, lx)) (λ p. omega (arith, lx)) (λ p. omega (arith, lx)) (λ p. omega (arith, lx))

pub down-lt : (x n : ℕ) → x < 65536 → moved_down x n < 65536
down-lt x n lx = let le = shr_le x n in omega (arith, lx, le, down_is x n)

-- SFR on a word with its sign
half_sign : (x : ℕ) → x < 65536 → half true (extended true x) ≡ extended true (moved_down x 1)
half_sign x lx =
    ⊎_elim
    (λ lt. let e : extended true x / 2 ≡ extended true (moved_down x 1) = omega (arith, lt, ext_is x, down_is x 1, ext_is (moved_down x 1)) in
    ap (λ b. cond (true && b) (extended true x / 2 + 2147483648) (extended true x / 2)) (lt-leb 2147483648 (extended true x) (omega (arith, lt, ext_is x))) ∙ e)
    (λ le. let e : extended true x / 2 + 2147483648 ≡ extended true (moved_down x 1) = omega (arith, le, lx, ext_is x, down_is x 1, ext_is (moved_down x 1)) in
    ap (λ b. cond (true && b) (extended true x / 2 + 2147483648) (extended true x / 2)) (le-leb 2147483648 (extended true x) (omega (arith, le, ext_is x))) ∙ e)
    (cases_lt x 32768)

down_more : (x n : ℕ) → x < 65536 → moved_down (moved_down x 1) n ≡ moved_down x (suc n)
down_more x n lx =
    let s : x / 2 ^ 1 / 2 ^ n ≡ x / 2 ^ suc n = shr-shr x 1 n ∙ ap (λ i. x / 2 ^ i) (omega arith) in
    let t : (65535 - x) / 2 ^ 1 / 2 ^ n ≡ (65535 - x) / 2 ^ suc n = shr-shr (65535 - x) 1 n ∙ ap (λ i. (65535 - x) / 2 ^ i) (omega arith) in
    ⊎_elim
    (λ lt. let first : moved_down x 1 ≡ x / 2 ^ 1 = omega (arith, lt, down_is x 1) in
    let second : moved_down (x / 2 ^ 1) n ≡ x / 2 ^ 1 / 2 ^ n = omega (arith, lt, down_is (x / 2 ^ 1) n) in
    ap (λ i. moved_down i n) first ∙ second ∙ s ∙ omega (arith, lt, down_is x (suc n)))
    (λ le. let first : moved_down x 1 ≡ 65535 - (65535 - x) / 2 ^ 1 = omega (arith, le, down_is x 1) in
    let back : 65535 - (65535 - (65535 - x) / 2 ^ 1) ≡ (65535 - x) / 2 ^ 1 = omega (arith, le) in
    let large : 32768 ≤ 65535 - (65535 - x) / 2 ^ 1 = omega (arith, le) in
    let second : moved_down (65535 - (65535 - x) / 2 ^ 1) n ≡ 65535 - (65535 - (65535 - (65535 - x) / 2 ^ 1)) / 2 ^ n = omega (arith, large, down_is (65535 - (65535 - x) / 2 ^ 1) n) in
    ap (λ i. moved_down i n) first ∙ second ∙ ap (λ i. 65535 - i / 2 ^ n) back ∙ ap (λ i. 65535 - i) t ∙ omega (arith, le, down_is x (suc n)))
    (cases_lt x 32768)

-- and on a word without one
half_plain : (x : ℕ) → x < 65536 → half true x ≡ x / 2
half_plain x lx = ap (λ b. cond (true && b) (x / 2 + 2147483648) (x / 2)) (lt-leb 2147483648 x (omega (arith, lx)))

twice_more : (z n : ℕ) → wrap32 (wrap32 (2 * z) * 2 ^ n) ≡ wrap32 (z * 2 ^ suc n)
twice_more z n =
    let same : 2 * z * 2 ^ n ≡ z * 2 ^ suc n = let p = pow_more 2 n in grind (arith, p) in
    mul-mod_first (2 * z) (2 ^ n) 4294967296 ∙ ap wrap32 same

module _ (c : Context) where
  high_saved : (n shift z : ℕ) (v : Machine) → v.registers.acc ≡ Whole z → v.registers.sxm ≡ Some true → Straight c (Op (row.Sach shift) (scratch n) ▸ end) v 2 (λ u. u.scratch n ≡ Some (wrap32 (z * 2 ^ shift) / 65536))
  high_saved n shift z v is s =
      let u : Machine = record v { work = v.work + 2 } in
      record {
        to = record v { scratch = with_scalar n (wrap32 (z * 2 ^ shift) / 65536) v.scratch; work = v.work + 2 };
        runs = ap (λ a. after (store c.at (operand.Scratch n) (high_stored (whole_of a) shift) u) (λ flow. in_order flow (give Next))) is;
        frame = refl;
        given_to = refl;
        given = refl;
        outside = refl;
        pointed = refl;
        sxm = s;
        work = omega arith;
        then_so = put_here v.scratch n (wrap32 (z * 2 ^ shift) / 65536);
      }

  -- SFR so often
  halved_once : (z w : ℕ) (u : Machine) → u.registers.acc ≡ Whole z → u.registers.sxm ≡ Some true → half true z ≡ w → Straight c (bare row.Sfr ▸ end) u 1 (λ t. t.registers.acc ≡ Whole w)
  halved_once z w u is s e =
      acts c row.Sfr operand.Nothing u 0 1 (λ a. a ≡ Whole w) (λ u. refl) refl s (omega arith)
      (record { combination = halved u.registers.sxm (whole_of u.registers.acc); is = refl; turns = record { to = Whole w; by = ap (λ b. halved b (whole_of u.registers.acc)) s ∙ ap (λ a. halved (Some true) (whole_of a)) is ∙ ap (λ i. Some (Whole i)) e; has = refl } })

  sfr_signed : (n x : ℕ) (u : Machine) → u.registers.acc ≡ Whole (extended true x) → u.registers.sxm ≡ Some true → x < 65536 → Straight c (repeated n (bare row.Sfr)) u n (λ t. t.registers.acc ≡ Whole (extended true (moved_down x n)))
  sfr_signed zero x u is s lx =
      let same : x ≡ moved_down x 0 = omega (arith, lx, down_is x 0) in
      nothing_done c u 0 (λ t. t.registers.acc ≡ Whole (extended true (moved_down x 0))) s (is ∙ ap (λ i. Whole (extended true i)) same)
  sfr_signed (suc n) x u is s lx =
      at_most c (bare row.Sfr ▸ repeated n (bare row.Sfr)) u (1 + n) (suc n) (λ t. t.registers.acc ≡ Whole (extended true (moved_down x (suc n)))) (λ t. t.registers.acc ≡ Whole (extended true (moved_down x (suc n)))) (omega arith) (λ t h. h)
      (in_turn c (bare row.Sfr ▸ end) (repeated n (bare row.Sfr)) u 1 n (λ t. t.registers.acc ≡ Whole (extended true (moved_down x 1))) (λ t. t.registers.acc ≡ Whole (extended true (moved_down x (suc n))))
      (halved_once (extended true x) (extended true (moved_down x 1)) u is s (half_sign x lx))
      (λ t st e. subst (λ i. Straight c (repeated n (bare row.Sfr)) t n (λ t. t.registers.acc ≡ Whole (extended true i))) (down_more x n lx) (sfr_signed n (moved_down x 1) t e st.sxm (down-lt x 1 lx))))

  sfr_plain : (n x : ℕ) (u : Machine) → u.registers.acc ≡ Whole x → u.registers.sxm ≡ Some true → x < 65536 → Straight c (repeated n (bare row.Sfr)) u n (λ t. t.registers.acc ≡ Whole (x / 2 ^ n))
  sfr_plain zero x u is s lx =
      let same : x ≡ x / 2 ^ 0 = omega arith in
      nothing_done c u 0 (λ t. t.registers.acc ≡ Whole (x / 2 ^ 0)) s (is ∙ ap Whole same)
  sfr_plain (suc n) x u is s lx =
      let once : half true x ≡ x / 2 ^ 1 = half_plain x lx ∙ omega arith in
      let more : x / 2 ^ 1 / 2 ^ n ≡ x / 2 ^ suc n = shr-shr x 1 n ∙ ap (λ i. x / 2 ^ i) (omega arith) in
      at_most c (bare row.Sfr ▸ repeated n (bare row.Sfr)) u (1 + n) (suc n) (λ t. t.registers.acc ≡ Whole (x / 2 ^ suc n)) (λ t. t.registers.acc ≡ Whole (x / 2 ^ suc n)) (omega arith) (λ t h. h)
      (in_turn c (bare row.Sfr ▸ end) (repeated n (bare row.Sfr)) u 1 n (λ t. t.registers.acc ≡ Whole (x / 2 ^ 1)) (λ t. t.registers.acc ≡ Whole (x / 2 ^ suc n))
      (halved_once x (x / 2 ^ 1) u is s once)
      (λ t st e. subst (λ i. Straight c (repeated n (bare row.Sfr)) t n (λ t. t.registers.acc ≡ Whole i)) more (sfr_plain n (x / 2 ^ 1) t e st.sxm (omega (arith, lx)))))

  -- SFL so often, on all 32 bits
  sfl_whole : (n z : ℕ) (u : Machine) → u.registers.acc ≡ Whole z → z < 4294967296 → u.registers.sxm ≡ Some true → Straight c (repeated n (bare row.Sfl)) u n (λ t. t.registers.acc ≡ Whole (wrap32 (z * 2 ^ n)))
  sfl_whole zero z u is lz s =
      let same : z ≡ wrap32 (z * 2 ^ 0) = omega (arith, lz) in
      nothing_done c u 0 (λ t. t.registers.acc ≡ Whole (wrap32 (z * 2 ^ 0))) s (is ∙ ap Whole same)
  sfl_whole (suc n) z u is lz s =
      at_most c (bare row.Sfl ▸ repeated n (bare row.Sfl)) u (1 + n) (suc n) (λ t. t.registers.acc ≡ Whole (wrap32 (z * 2 ^ suc n))) (λ t. t.registers.acc ≡ Whole (wrap32 (z * 2 ^ suc n))) (omega arith) (λ t h. h)
      (in_turn c (bare row.Sfl ▸ end) (repeated n (bare row.Sfl)) u 1 n (λ t. t.registers.acc ≡ Whole (wrap32 (2 * z))) (λ t. t.registers.acc ≡ Whole (wrap32 (z * 2 ^ suc n)))
      (acts c row.Sfl operand.Nothing u 0 1 (λ a. a ≡ Whole (wrap32 (2 * z))) (λ u. refl) refl s (omega arith)
      (record { combination = known (doubled u.registers.acc); is = refl; turns = record { to = Whole (wrap32 (2 * z)); by = ap (λ a. known (doubled a)) is; has = refl } }))
      (λ t st e. subst (λ i. Straight c (repeated n (bare row.Sfl)) t n (λ t. t.registers.acc ≡ Whole i)) (twice_more z n) (sfl_whole n (wrap32 (2 * z)) t e (omega arith) st.sxm)))

  seven_more : (z n : ℕ) → n < 9 → wrap32 (wrap32 (z * 2 ^ (9 - n)) * 2 ^ 7) / 65536 ≡ wrap32 (z * 2 ^ (16 - n)) / 65536
  seven_more z n few =
      let p : 2 ^ (16 - n) ≡ 2 ^ (9 - n) * 2 ^ 7 = let sum : 16 - n ≡ (9 - n) + 7 = omega (arith, few) in ap (λ i. 2 ^ i) sum ∙ pow-add 2 (9 - n) 7 in
      let same : z * 2 ^ (9 - n) * 2 ^ 7 ≡ z * 2 ^ (16 - n) = let q : z * 2 ^ (16 - n) ≡ z * (2 ^ (9 - n) * 2 ^ 7) = ap (λ i. z * i) p in omega (arith, q) in
      ap (λ i. i / 65536) (mul-mod_first (z * 2 ^ (9 - n)) (2 ^ 7) 4294967296 ∙ ap wrap32 same)

  -- all 32 bits by a count, by ones or by a store of the high half
  moved_by : (a b : Bool) (reload : Item) (n z : ℕ) (u : Machine) (q : Machine → Type 0) → nat_lt n 6 ≡ a → nat_lt n 9 ≡ b → u.registers.acc ≡ Whole z → z < 4294967296 → u.registers.sxm ≡ Some true
      → Straight c (repeated n (bare row.Sfr)) u n q
      → ((t : Machine) → t.registers.sxm ≡ Some true → t.scratch 0 ≡ Some (wrap32 (z * 2 ^ (16 - n)) / 65536) → Straight c (reload ▸ end) t 2 q)
      → Straight c (if a then repeated n (bare row.Sfr) else if b then repeated (9 - n) (bare row.Sfl) ⧺ Op (row.Sach 7) (scratch 0) ▸ reload ▸ end else Op (row.Sach (16 - n)) (scratch 0) ▸ reload ▸ end) u 13 q
  moved_by true b reload n z u q few also is lz s ones back =
      let le = ltb-true n 6 few in at_most c (repeated n (bare row.Sfr)) u n 13 q q (omega (arith, le)) (λ t h. h) ones
  moved_by false true reload n z u q few also is lz s ones back =
      let le = ltb-true n 9 also in
      at_most c (repeated (9 - n) (bare row.Sfl) ⧺ Op (row.Sach 7) (scratch 0) ▸ reload ▸ end) u (9 - n + 4) 13 q q (omega arith) (λ t h. h)
      (in_turn c (repeated (9 - n) (bare row.Sfl)) (Op (row.Sach 7) (scratch 0) ▸ reload ▸ end) u (9 - n) 4 (λ t. t.registers.acc ≡ Whole (wrap32 (z * 2 ^ (9 - n)))) q
      (sfl_whole (9 - n) z u is lz s)
      (λ t st e. in_turn c (Op (row.Sach 7) (scratch 0) ▸ end) (reload ▸ end) t 2 2 (λ r. r.scratch 0 ≡ Some (wrap32 (wrap32 (z * 2 ^ (9 - n)) * 2 ^ 7) / 65536)) q
      (high_saved 0 7 (wrap32 (z * 2 ^ (9 - n))) t e st.sxm)
      (λ r sr h. back r sr.sxm (h ∙ ap Some (seven_more z n le)))))
  moved_by false false reload n z u q few also is lz s ones back =
      at_most c (Op (row.Sach (16 - n)) (scratch 0) ▸ reload ▸ end) u 4 13 q q (omega arith) (λ t h. h)
      (in_turn c (Op (row.Sach (16 - n)) (scratch 0) ▸ end) (reload ▸ end) u 2 2 (λ r. r.scratch 0 ≡ Some (wrap32 (z * 2 ^ (16 - n)) / 65536)) q (high_saved 0 (16 - n) z u is s) (λ r sr h. back r sr.sxm h))

  -- a word that is loaded again, with its sign or without
  sign_reloaded : (w : ℕ) (m : AccOperand) (u : Machine) → held c.at m u ≡ Some w → u.registers.sxm ≡ Some true → w < 65536 → Straight c (lac m ▸ end) u (operand_weight m) (λ t. InAcc Sign w t.registers.acc)
  sign_reloaded w m u e s lw =
      at_most c (lac m ▸ end) u (operand_weight m) (operand_weight m) (LoadedFrom Sign w u) (λ t. InAcc Sign w t.registers.acc) (omega arith) (λ t l. record { has = l.acc; wide = subst IsWide (sym l.acc) (ext-lt w lw) }) (word_loaded c m w u e s lw)

  plain_reloaded : (w : ℕ) (m : AccOperand) (u : Machine) → held c.at m u ≡ Some w → u.registers.sxm ≡ Some true → Straight c (Op row.Zals m ▸ end) u (operand_weight m) (λ t. t.registers.acc ≡ Whole w)
  plain_reloaded w m u e s =
      acts c row.Zals m u w (operand_weight m) (λ a. a ≡ Whole w) (λ u. refl) e s (omega arith) (record { combination = Some (Whole w); is = refl; turns = record { to = Whole w; by = refl; has = refl } })

  sign_word : (w : ℕ) (a : Acc) → w < 65536 → a ≡ Whole (extended true w) → InAcc Sign w a
  sign_word w a lw e = record { has = e; wide = subst IsWide (sym e) (ext-lt w lw) }

  right_signed : (n x : ℕ) (u : Machine) → u.registers.acc ≡ Whole (extended true x) → u.registers.sxm ≡ Some true → x < 65536 → n < 16 → Straight c (moved_right (lac (scratch 0)) n) u 13 (λ t. InAcc Sign (moved_down x n) t.registers.acc)
  right_signed n x u is s lx few =
      moved_by (nat_lt n 6) (nat_lt n 9) (lac (scratch 0)) n (extended true x) u (λ t. InAcc Sign (moved_down x n) t.registers.acc) refl refl is (ext-lt x lx) s
      (at_most c (repeated n (bare row.Sfr)) u n n (λ t. t.registers.acc ≡ Whole (extended true (moved_down x n))) (λ t. InAcc Sign (moved_down x n) t.registers.acc) (omega arith) (λ t e. sign_word (moved_down x n) t.registers.acc (down-lt x n lx) e) (sfr_signed n x u is s lx))
      (λ t st e. sign_reloaded (moved_down x n) (scratch 0) t (e ∙ ap Some (high_signed x lx n few)) st (down-lt x n lx))

  right_plain : (n x : ℕ) (u : Machine) → u.registers.acc ≡ Whole x → u.registers.sxm ≡ Some true → x < 65536 → n < 16 → Straight c (moved_right (Op row.Zals (scratch 0)) n) u 13 (λ t. t.registers.acc ≡ Whole (x / 2 ^ n))
  right_plain n x u is s lx few =
      moved_by (nat_lt n 6) (nat_lt n 9) (Op row.Zals (scratch 0)) n x u (λ t. t.registers.acc ≡ Whole (x / 2 ^ n)) refl refl is (omega (arith, lx)) s (sfr_plain n x u is s lx)
      (λ t st e. plain_reloaded (x / 2 ^ n) (scratch 0) t (e ∙ ap Some (high_unsigned x lx n few)) st)

  module _ (x n : ℕ) (v : Machine) (s : v.registers.sxm ≡ Some true) (lx : x < 65536) (few : n < 16) where
    signed_right : (f : Found) → FoundHas c.at f x v → IsFound f v → Straight c (moved_right_signed f n) v (found_weight f + 17) (λ t. InAcc Sign (moved_down x n) t.registers.acc)
    signed_right f e w =
        at_most c (moved_right_signed f n) v (found_weight f + 4 + 13) (found_weight f + 17) (λ t. InAcc Sign (moved_down x n) t.registers.acc) (λ t. InAcc Sign (moved_down x n) t.registers.acc) (omega arith) (λ t h. h)
        (in_turn c (load_signed f) (moved_right (lac (scratch 0)) n) v (found_weight f + 4) 13 (λ u. u.registers.acc ≡ Whole (extended true x)) (λ t. InAcc Sign (moved_down x n) t.registers.acc) (signed_loaded c f x v e w s lx)
        (λ u st is. right_signed n x u is st.sxm lx few))

    held_right : (m : AccOperand) (b : Bool) → held c.at m v ≡ Some x → Straight c (if b then moved_right_signed (Held m) n else Op (row.Lac (16 - n)) m ▸ Op (row.Sach 0) (scratch 0) ▸ lac (scratch 0) ▸ end) v (operand_weight m + 17) (λ t. InAcc Sign (moved_down x n) t.registers.acc)
    held_right m true e = signed_right (Held m) e tt
    held_right m false e =
        let value : wrap32 (wrap32 (extended true x * 2 ^ (16 - n)) * 2 ^ 0) / 65536 ≡ moved_down x n = let h = high_signed x lx n few in let same : wrap32 (wrap32 (extended true x * 2 ^ (16 - n)) * 2 ^ 0) ≡ wrap32 (extended true x * 2 ^ (16 - n)) = omega arith in ap (λ i. i / 65536) same ∙ h in
        at_most c (Op (row.Lac (16 - n)) m ▸ Op (row.Sach 0) (scratch 0) ▸ lac (scratch 0) ▸ end) v (operand_weight m + 4) (operand_weight m + 17) (λ t. InAcc Sign (moved_down x n) t.registers.acc) (λ t. InAcc Sign (moved_down x n) t.registers.acc) (omega arith) (λ t h. h)
        (in_turn c (Op (row.Lac (16 - n)) m ▸ end) (Op (row.Sach 0) (scratch 0) ▸ lac (scratch 0) ▸ end) v (operand_weight m) 4 (λ t. t.registers.acc ≡ Whole (wrap32 (extended true x * 2 ^ (16 - n)))) (λ t. InAcc Sign (moved_down x n) t.registers.acc)
        (acts c (row.Lac (16 - n)) m v x (operand_weight m) (λ a. a ≡ Whole (wrap32 (extended true x * 2 ^ (16 - n)))) (λ u. refl) e s (omega arith)
        (record { combination = Some (scaled v.registers.sxm x (16 - n)); is = refl; turns = record { to = scaled v.registers.sxm x (16 - n); by = refl; has = ap (λ b. scaled b x (16 - n)) s } }))
        (λ u st is. in_turn c (Op (row.Sach 0) (scratch 0) ▸ end) (lac (scratch 0) ▸ end) u 2 2 (λ r. r.scratch 0 ≡ Some (wrap32 (wrap32 (extended true x * 2 ^ (16 - n)) * 2 ^ 0) / 65536)) (λ t. InAcc Sign (moved_down x n) t.registers.acc)
        (high_saved 0 0 (wrap32 (extended true x * 2 ^ (16 - n))) u is st.sxm)
        (λ r sr h. sign_reloaded (moved_down x n) (scratch 0) r (h ∙ ap Some value) sr.sxm (down-lt x n lx))))

    pub shifted_down_signed : (f : Found) → FoundHas c.at f x v → IsFound f v → Straight c (shift_right_signed f n) v (found_weight f + 17) (λ t. InAcc Sign (moved_down x n) t.registers.acc)
    shifted_down_signed (Fixed k) e w = signed_right (Fixed k) e w
    shifted_down_signed (Held m) e w = held_right m (nat_lt n 3) e
    shifted_down_signed (Loaded h) e w = signed_right (Loaded h) e w

    known_high : (b : Bool) (a : Acc) → (n == 0) ≡ b → a ≡ Whole (x / 2 ^ n) → InAcc (if b then Zero else Small) (x / 2 ^ n) a
    known_high true a q e = record { has = e; wide = subst IsWide (sym e) (let l : x / 2 ^ n < 4294967296 = let le = shr_le x n in omega (arith, le, lx) in l) }
    known_high false a q e =
        let positive : 0 < n = let ne = eqb-false n 0 q in omega (arith, ne) in
        record { has = (e, half_below x lx n few positive); wide = subst IsWide (sym e) (let l : x / 2 ^ n < 4294967296 = let le = shr_le x n in omega (arith, le, lx) in l) }

    pub shifted_down_plain : (f : Found) → FoundHas c.at f x v → IsFound f v → Straight c (shift_right_unsigned f n) v (found_weight f + 17) (λ t. InAcc (if n == 0 then Zero else Small) (x / 2 ^ n) t.registers.acc)
    shifted_down_plain f e w =
        at_most c (shift_right_unsigned f n) v (found_weight f + 2 + 13) (found_weight f + 17) (λ t. t.registers.acc ≡ Whole (x / 2 ^ n)) (λ t. InAcc (if n == 0 then Zero else Small) (x / 2 ^ n) t.registers.acc) (omega arith) (λ t h. known_high (n == 0) t.registers.acc refl h)
        (in_turn c (load_unsigned f) (moved_right (Op row.Zals (scratch 0)) n) v (found_weight f + 2) 13 (λ u. u.registers.acc ≡ Whole x) (λ t. t.registers.acc ≡ Whole (x / 2 ^ n)) (unsigned_loaded c f x v e w s lx)
        (λ u st is. right_plain n x u is st.sxm lx few))
