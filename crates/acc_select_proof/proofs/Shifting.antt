-- Shifts to the left leave their value.
use Rattle.std.proofs.Common.{◌≡◌, ℕ, zero, suc, ◌+◌, ◌*◌, ◌%◌, ◌^◌, ◌<◌, Bool, true, false, Option, Some, refl, sym, ap, ◌∙◌, subst, arith}
use Rattle.std.specs.Prelude.{nat_lt, if◌then◌else◌}
use Rattle.std.proofs.lemmas.Bool.{ltb-true}
use Rattle.std.proofs.lemmas.Nat.{mul-mod_first}
use Rattle.std.proofs.lemmas.Grind.{pow_more}
use Rattle.word_base.specs.Words.{Good, Bad, with_count}
use Rattle.word_base.specs.declared.outcome.UndefinedKind.TheVariants.{ShiftCount}
use Rattle.acc_code.specs.declared.operand.AccOperand.{AccOperand}
use Rattle.acc_code.specs.declared.operand.AccOperand.TheVariants as operand
use Rattle.acc_code.specs.declared.operation.AccOp.TheVariants as row
use Rattle.acc_code.specs.AccTree.{Op, end, ◌▸◌, ◌⧺◌}
use Rattle.acc_select.specs.acc_operations.Constants.{load_constant, constant_high}
use Rattle.acc_select.specs.acc_operations.Sums.{repeated}
use Rattle.acc_select.specs.acc_operations.Sums as sum
use Rattle.acc_select.specs.acc_operations.Words.{bare, load, high, store, sacl, scratch}
use Rattle.acc_select.specs.acc_operations.declared.constant.Constant.{Constant}
use Rattle.acc_select.specs.acc_operations.declared.found.Found.{Found}
use Rattle.acc_select.specs.acc_operations.declared.found.Found.TheVariants.{Fixed, Held, Loaded}
use Rattle.acc_select.specs.acc_operations.declared.high_half.HighHalf.TheVariants.{Any}
use Rattle.c25_isa.specs.Step.{extended, wrap16, wrap32}
use Rattle.ir_semantics.specs.AccRows.{Acc, Gone, Low, Whole, with_acc, low_half, doubled, known, scaled, scaled_by_t, operand_weight}
use Rattle.ir_semantics.specs.AccRun.{Machine, Context, held}
use Rattle.acc_select_proof.proofs.Straights.{ConstantIs, FoundHas, found_weight, IsSteady, Straight, nothing_done, at_most}
use Rattle.acc_select_proof.proofs.Loading.{LoadedFrom, constant_loaded}
use Rattle.acc_select_proof.proofs.Sides.{some_is, put_here}
use Rattle.acc_select_proof.proofs.Words.{ext_low, has_low}
use Rattle.acc_select_proof.proofs.Following.{InAcc, IsFound, Turns, InT, Saves, stands_both, there, in_turn, word_in_t, saves, on_loaded, on_kept}
use Rattle.acc_select_proof.proofs.Summing.{low_is, acts}

-- a value by a count is there where the count is below 16
pub counted : (b w z : ℕ) → with_count b (Good w) ≡ Good z → (b < 16) × (w ≡ z)
counted b w z e = by (nat_lt b 16) refl e
  where
    by : (t : Bool) → nat_lt b 16 ≡ t → (if t then Good w else Bad ShiftCount) ≡ Good z → (b < 16) × (w ≡ z)
    by true p q = (ltb-true b 16 p, cc)
    by false p q = absurd cc

-- the low half of a word that is extended and moved
pub moved_low : (x n : ℕ) → x < 65536 → wrap16 (wrap32 (extended true x * 2 ^ n)) ≡ x * 2 ^ n % 65536
moved_low x n lt =
    let first : wrap16 (wrap32 (extended true x * 2 ^ n)) ≡ (extended true x * 2 ^ n) % 65536 = omega arith in
    first ∙ sym (mul-mod_first (extended true x) (2 ^ n) 65536) ∙ ap (λ i. (i * 2 ^ n) % 65536) (ext_low x lt)

pub moved_word : (s : Option Bool) (x n : ℕ) → s ≡ Some true → x < 65536 → InAcc Any (x * 2 ^ n % 65536) (scaled s x n)
moved_word s x n e lt =
    subst (λ b. InAcc Any (x * 2 ^ n % 65536) (scaled b x n)) (sym e)
    (record { has = ap Some (moved_low x n lt); wide = let l : wrap32 (extended true x * 2 ^ n) < 4294967296 = omega arith in l })

twice_more : (x n : ℕ) → (2 * x % 65536) * 2 ^ n % 65536 ≡ x * 2 ^ suc n % 65536
twice_more x n =
    let same : 2 * x * 2 ^ n ≡ x * 2 ^ suc n = let p = pow_more 2 n in grind (arith, p) in
    mul-mod_first (2 * x) (2 ^ n) 65536 ∙ ap (λ i. i % 65536) same

doubles : (a : Acc) (x : ℕ) → low_half a ≡ Some x → Turns (known (doubled a)) (InAcc Any (2 * x % 65536))
doubles Gone x e = absurd cc
doubles (Low w) x e = record { to = Low (wrap16 (2 * w)); by = refl; has = record { has = ap (λ i. Some (wrap16 (2 * i))) (some_is e); wide = tt } }
doubles (Whole z) x e = record { to = Whole (wrap32 (2 * z)); by = refl; has = record { has = ap Some (let i = some_is e in omega (arith, i)); wide = let l : wrap32 (2 * z) < 4294967296 = omega arith in l } }

module _ (c : Context) where
  pub sfl_repeated : (n x : ℕ) (u : Machine) → InAcc Any x u.registers.acc → u.registers.sxm ≡ Some true → x < 65536 → Straight c (repeated n (bare row.Sfl)) u n (λ t. InAcc Any (x * 2 ^ n % 65536) t.registers.acc)
  sfl_repeated zero x u i s lt =
      let same : x ≡ x * 2 ^ 0 % 65536 = omega (arith, lt) in
      nothing_done c u 0 (λ t. InAcc Any (x * 2 ^ 0 % 65536) t.registers.acc) s (subst (λ j. InAcc Any j u.registers.acc) same i)
  sfl_repeated (suc n) x u i s lt =
      at_most c (bare row.Sfl ▸ repeated n (bare row.Sfl)) u (1 + n) (suc n) (λ t. InAcc Any (x * 2 ^ suc n % 65536) t.registers.acc) (λ t. InAcc Any (x * 2 ^ suc n % 65536) t.registers.acc) (omega arith) (λ t h. h)
      (in_turn c (bare row.Sfl ▸ end) (repeated n (bare row.Sfl)) u 1 n (λ t. InAcc Any (2 * x % 65536) t.registers.acc) (λ t. InAcc Any (x * 2 ^ suc n % 65536) t.registers.acc)
      (acts c row.Sfl operand.Nothing u 0 1 (InAcc Any (2 * x % 65536)) (λ u. refl) refl s (omega arith) (record { combination = known (doubled u.registers.acc); is = refl; turns = doubles u.registers.acc x i.has }))
      (λ t st j. subst (λ k. Straight c (repeated n (bare row.Sfl)) t n (λ t. InAcc Any k t.registers.acc)) (twice_more x n) (sfl_repeated n (2 * x % 65536) t j st.sxm (omega arith))))

  -- LAC further left
  pub lac_moved : (n x : ℕ) (m : AccOperand) (u : Machine) → held c.at m u ≡ Some x → u.registers.sxm ≡ Some true → x < 65536 → Straight c (Op (row.Lac n) m ▸ end) u (operand_weight m) (λ t. InAcc Any (x * 2 ^ n % 65536) t.registers.acc)
  lac_moved n x m u e s lt =
      acts c (row.Lac n) m u x (operand_weight m) (InAcc Any (x * 2 ^ n % 65536)) (λ u. refl) e s (omega arith)
      (record { combination = Some (scaled u.registers.sxm x n); is = refl; turns = record { to = scaled u.registers.sxm x n; by = refl; has = moved_word u.registers.sxm x n s lt } })

  -- LACT
  pub lact_moved : (n x : ℕ) (m : AccOperand) (u : Machine) → held c.at m u ≡ Some x → u.registers.t ≡ Some n → u.registers.sxm ≡ Some true → n < 16 → x < 65536 → Straight c (Op row.Lact m ▸ end) u (operand_weight m) (λ t. InAcc Any (x * 2 ^ n % 65536) t.registers.acc)
  lact_moved n x m u e t s few lt =
      let same : n % 16 ≡ n = omega (arith, few) in
      acts c row.Lact m u x (operand_weight m) (InAcc Any (x * 2 ^ n % 65536)) (λ u. refl) e s (omega arith)
      (record { combination = Some (scaled u.registers.sxm x n); is = ap (λ i. scaled_by_t i x u.registers) t ∙ ap (λ i. Some (with_acc (scaled u.registers.sxm x i) u.registers)) same; turns = record { to = scaled u.registers.sxm x n; by = refl; has = moved_word u.registers.sxm x n s lt } })

  module _ (f : Found) (v : Machine) (s : v.registers.sxm ≡ Some true) (w : IsFound f v) where
    -- the right word is that of a place, or the left one
    pub shifted_with_place : (x y : ℕ) (m : AccOperand) → IsSteady m → FoundHas c.at f x v → held c.at m v ≡ Some y → x < 65536 → y < 16
        → Straight c (store (scratch 0) f ⧺ Op row.Lt m ▸ Op row.Lact (scratch 0) ▸ end) v (found_weight f + (operand_weight m + 12)) (λ t. InAcc Any (x * 2 ^ y % 65536) t.registers.acc)
    shifted_with_place x y m steady e is lx ly =
        on_kept c 0 f x v (Op row.Lt m ▸ Op row.Lact (scratch 0) ▸ end) (operand_weight m + 2) (operand_weight m + 12) (λ t. InAcc Any (x * 2 ^ y % 65536) t.registers.acc) e w s lx (omega arith)
        (λ u st kept_is. in_turn c (Op row.Lt m ▸ end) (Op row.Lact (scratch 0) ▸ end) u (operand_weight m) 2 (InT y u) (λ t. InAcc Any (x * 2 ^ y % 65536) t.registers.acc)
        (word_in_t c m u y (there c m y v u steady st is) st.sxm)
        (λ r sr g. lact_moved y x (scratch 0) r (ap (λ k. k 0) g.scratch ∙ kept_is) g.t sr.sxm ly lx))

    pub shifted_of_place : (x y : ℕ) (m : AccOperand) → IsSteady m → FoundHas c.at f y v → held c.at m v ≡ Some x → x < 65536 → y < 16
        → Straight c (store (scratch 0) f ⧺ Op row.Lt (scratch 0) ▸ Op row.Lact m ▸ end) v (found_weight f + (operand_weight m + 12)) (λ t. InAcc Any (x * 2 ^ y % 65536) t.registers.acc)
    shifted_of_place x y m steady e is lx ly =
        on_kept c 0 f y v (Op row.Lt (scratch 0) ▸ Op row.Lact m ▸ end) (2 + operand_weight m) (operand_weight m + 12) (λ t. InAcc Any (x * 2 ^ y % 65536) t.registers.acc) e w s (omega arith) (omega arith)
        (λ u st kept_is. in_turn c (Op row.Lt (scratch 0) ▸ end) (Op row.Lact m ▸ end) u 2 (operand_weight m) (InT y u) (λ t. InAcc Any (x * 2 ^ y % 65536) t.registers.acc)
        (word_in_t c (scratch 0) u y kept_is st.sxm)
        (λ r sr g. lact_moved y x m r (there c m x v r steady (stands_both c v u r st sr) is) g.t sr.sxm ly lx))

    -- the left word is a constant
    pub shifted_of_constant : (x y : ℕ) (k : Constant) → FoundHas c.at f y v → ConstantIs c.at k x → x < 65536 → y < 16
        → Straight c (store (scratch 0) f ⧺ Op row.Lt (scratch 0) ▸ load_constant k ▸ sacl (scratch 0) ▸ Op row.Lact (scratch 0) ▸ end) v (found_weight f + 17) (λ t. InAcc Any (x * 2 ^ y % 65536) t.registers.acc)
    shifted_of_constant x y k e is lx ly =
        on_kept c 0 f y v (Op row.Lt (scratch 0) ▸ load_constant k ▸ sacl (scratch 0) ▸ Op row.Lact (scratch 0) ▸ end) 8 17 (λ t. InAcc Any (x * 2 ^ y % 65536) t.registers.acc) e w s (omega arith) (omega arith)
        (λ u st kept_is. in_turn c (Op row.Lt (scratch 0) ▸ end) (load_constant k ▸ sacl (scratch 0) ▸ Op row.Lact (scratch 0) ▸ end) u 2 6 (InT y u) (λ t. InAcc Any (x * 2 ^ y % 65536) t.registers.acc)
        (word_in_t c (scratch 0) u y kept_is st.sxm)
        (λ r sr g. in_turn c (load_constant k ▸ end) (sacl (scratch 0) ▸ Op row.Lact (scratch 0) ▸ end) r 2 4 (LoadedFrom (constant_high k) x r) (λ t. InAcc Any (x * 2 ^ y % 65536) t.registers.acc)
        (constant_loaded c k x r is sr.sxm lx)
        (λ q sq l. in_turn c (sacl (scratch 0) ▸ end) (Op row.Lact (scratch 0) ▸ end) q 2 2 (Saves 0 x q) (λ t. InAcc Any (x * 2 ^ y % 65536) t.registers.acc)
        (saves c 0 x q (has_low (constant_high k) x q.registers.acc lx l.acc) sq.sxm lx)
        (λ p sp h. lact_moved y x (scratch 0) p (ap (λ i. i 0) h.scratch ∙ put_here q.scratch 0 x) (ap (λ i. i.t) h.registers ∙ l.t ∙ g.t) sp.sxm ly lx))))

    -- the right word is a constant count
    moved_by : (n x : ℕ) (b : Bool) → FoundHas c.at f x v → x < 65536 → nat_lt n 4 ≡ b
        → Straight c (if b then load f ⧺ repeated n (bare row.Sfl) else store (scratch 0) f ⧺ Op (row.Lac n) (scratch 0) ▸ end) v (found_weight f + 17) (λ t. InAcc Any (x * 2 ^ n % 65536) t.registers.acc)
    moved_by n x true e lx few =
        let le = ltb-true n 4 few in
        on_loaded c f x v (repeated n (bare row.Sfl)) n 17 (λ t. InAcc Any (x * 2 ^ n % 65536) t.registers.acc) e w s lx (omega (arith, le))
        (λ u st i. sfl_repeated n x u (record { has = low_is (high f) x u.registers.acc lx i; wide = i.wide }) st.sxm lx)
    moved_by n x false e lx few =
        on_kept c 0 f x v (Op (row.Lac n) (scratch 0) ▸ end) 2 17 (λ t. InAcc Any (x * 2 ^ n % 65536) t.registers.acc) e w s lx (omega arith)
        (λ u st kept_is. lac_moved n x (scratch 0) u kept_is st.sxm lx)

  pub shifted_with_constant : (f : Found) (v : Machine) (x n : ℕ) → v.registers.sxm ≡ Some true → IsFound f v → FoundHas c.at f x v → x < 65536
      → Straight c (sum.shift_left f n) v (found_weight f + 17) (λ t. InAcc Any (x * 2 ^ n % 65536) t.registers.acc)
  shifted_with_constant (Fixed k) v x n s w e lx = moved_by (Fixed k) v s w n x (nat_lt n 4) e lx refl
  shifted_with_constant (Held m) v x n s w e lx =
      at_most c (Op (row.Lac n) m ▸ end) v (operand_weight m) (operand_weight m + 17) (λ t. InAcc Any (x * 2 ^ n % 65536) t.registers.acc) (λ t. InAcc Any (x * 2 ^ n % 65536) t.registers.acc) (omega arith) (λ t h. h) (lac_moved n x m v e s lx)
  shifted_with_constant (Loaded h) v x n s w e lx = moved_by (Loaded h) v s w n x (nat_lt n 4) e lx refl
