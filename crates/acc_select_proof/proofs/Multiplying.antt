-- Products leave their value.
use Rattle.std.proofs.Common.{◌≡◌, ℕ, suc, ◌+◌, ◌-◌, ◌*◌, ◌%◌, ◌<◌, ◌≤◌, Bool, true, false, Some, refl, ap, ◌∙◌, subst, ⊎_elim, arith, ℤ, pos, negsuc, ◌-ℤ◌, ◌*ℤ◌}
use Rattle.std.specs.Prelude.{if◌then◌else◌}
use Rattle.std.proofs.lemmas.Int.{ints}
use Rattle.word_base.specs.Words.{signed_of}
use Rattle.acc_code.specs.Operands.{has_13_bits}
use Rattle.acc_code.specs.declared.operand.AccOperand.{AccOperand}
use Rattle.acc_code.specs.declared.operand.AccOperand.TheVariants as operand
use Rattle.acc_code.specs.declared.operation.AccOp.TheVariants as row
use Rattle.acc_code.specs.AccTree.{Op, end, ◌▸◌, ◌⧺◌}
use Rattle.acc_select.specs.acc_operations.Arithmetic.{times_place, times, multiply, product_with_place}
use Rattle.acc_select.specs.acc_operations.Constants.{load_constant, constant_high}
use Rattle.acc_select.specs.acc_operations.Words.{bare, load_t, sacl, scratch}
use Rattle.acc_select.specs.acc_operations.declared.constant.Constant.{Constant}
use Rattle.acc_select.specs.acc_operations.declared.constant.Constant.TheVariants.{Number, Address}
use Rattle.acc_select.specs.acc_operations.declared.found.Found.{Found}
use Rattle.acc_select.specs.acc_operations.declared.found.Found.TheVariants.{Fixed, Held, Loaded}
use Rattle.acc_select.specs.acc_operations.declared.high_half.HighHalf.TheVariants.{Any}
use Rattle.c25_isa.specs.Step.{wrap16, low32, product}
use Rattle.ir_semantics.specs.AccRows.{Whole, low_half, multiplied, with_product, operand_weight}
use Rattle.ir_semantics.specs.AccRun.{Machine, Context, held}
use Rattle.acc_select_proof.proofs.Straights.{ConstantIs, FoundHas, found_weight, IsSteady, Straight, at_most, operation}
use Rattle.acc_select_proof.proofs.Loading.{LoadedFrom, constant_loaded}
use Rattle.acc_select_proof.proofs.Sides.{put_here}
use Rattle.acc_select_proof.proofs.Words.{has_low}
use Rattle.acc_select_proof.proofs.Following.{InAcc, InT, Saves, there, in_turn, word_in_t, saves}
use Rattle.acc_select_proof.proofs.Summing.{acts}
use Rattle.acc_select_proof.proofs.Arithmetics.{low32_is, signed_is}

spread : (a b c n : ℕ) → b + c ≡ n → a * b + a * c ≡ a * n
spread a b c n e = let f : a * (b + c) ≡ a * n = ap (λ i. a * i) e in omega (arith, f)

spread_right : (a b c n : ℕ) → b + c ≡ n → b * a + c * a ≡ n * a
spread_right a b c n e = let f : (b + c) * a ≡ n * a = ap (λ i. i * a) e in omega (arith, f)

right_negative : (x y n : ℕ) → suc n + y ≡ 65536 → wrap16 (low32 (pos x *ℤ negsuc n)) ≡ x * y % 65536
right_negative x y n e = let f = spread x (suc n) y 65536 e in low32_is (pos x *ℤ negsuc n) x (x * y) (omega (arith, ints, f))

left_negative : (x y n : ℕ) → suc n + x ≡ 65536 → wrap16 (low32 (negsuc n *ℤ pos y)) ≡ x * y % 65536
left_negative x y n e = let f = spread_right y (suc n) x 65536 e in low32_is (negsuc n *ℤ pos y) y (x * y) (omega (arith, ints, f))

both_negative : (x y m n : ℕ) → suc m + x ≡ 65536 → suc n + y ≡ 65536 → 32768 ≤ x → 32768 ≤ y → wrap16 (low32 (negsuc m *ℤ negsuc n)) ≡ x * y % 65536
both_negative x y m n e f lx ly =
    let g = spread x (suc n) y 65536 f in
    let h = spread_right (suc n) (suc m) x 65536 e in
    low32_is (negsuc m *ℤ negsuc n) (65536 - (suc m + suc n)) (x * y) (omega (arith, ints, g, h, e, f, lx, ly))

signed_by : (x : ℕ) → x < 65536 → 32768 ≤ x → signed_of x ≡ pos x -ℤ pos 65536 → signed_of x ≡ negsuc (65535 - x)
signed_by x lt le e = e ∙ omega (arith, ints)

-- the low half of a product of words with signs is that of the words as they stand
pub product_low : (x y : ℕ) → x < 65536 → y < 65536 → wrap16 (product x (signed_of y)) ≡ x * y % 65536
product_low x y lx ly =
    ⊎_elim
    (λ p. ⊎_elim
    (λ q. ap (λ z. wrap16 (low32 z)) (ap (λ i. i *ℤ signed_of y) p.1 ∙ ap (λ i. pos x *ℤ i) q.1) ∙ omega arith)
    (λ q. ap (λ z. wrap16 (low32 z)) (ap (λ i. i *ℤ signed_of y) p.1 ∙ ap (λ i. pos x *ℤ i) (signed_by y ly q.0 q.1)) ∙ right_negative x y (65535 - y) (omega (arith, ly)))
    (signed_is y))
    (λ p. ⊎_elim
    (λ q. ap (λ z. wrap16 (low32 z)) (ap (λ i. i *ℤ signed_of y) (signed_by x lx p.0 p.1) ∙ ap (λ i. negsuc (65535 - x) *ℤ i) q.1) ∙ left_negative x y (65535 - x) (omega (arith, lx)))
    (λ q. ap (λ z. wrap16 (low32 z)) (ap (λ i. i *ℤ signed_of y) (signed_by x lx p.0 p.1) ∙ ap (λ i. negsuc (65535 - x) *ℤ i) (signed_by y ly q.0 q.1)) ∙ both_negative x y (65535 - x) (65535 - y) (omega (arith, lx)) (omega (arith, ly)) p.0 q.0)
    (signed_is y))
    (signed_is x)

low32-lt : (z : ℤ) → low32 z < 4294967296
low32-lt (pos n) = omega arith
low32-lt (negsuc n) = omega arith

pub product-lt : (x : ℕ) (n : ℤ) → product x n < 4294967296
product-lt x n = low32-lt (signed_of x *ℤ n)

module _ (c : Context) where
  -- a word in the accumulator goes to T, by a scratch word
  t_by_scratch : (x : ℕ) (v : Machine) → low_half v.registers.acc ≡ Some x → v.registers.sxm ≡ Some true → x < 65536 → Straight c (sacl (scratch 0) ▸ Op row.Lt (scratch 0) ▸ end) v 4 (λ u. u.registers.t ≡ Some x)
  t_by_scratch x v low s lx =
      in_turn c (sacl (scratch 0) ▸ end) (Op row.Lt (scratch 0) ▸ end) v 2 2 (Saves 0 x v) (λ u. u.registers.t ≡ Some x) (saves c 0 x v low s lx)
      (λ u st g. at_most c (Op row.Lt (scratch 0) ▸ end) u 2 2 (InT x u) (λ u. u.registers.t ≡ Some x) (omega arith) (λ t h. h.t) (word_in_t c (scratch 0) u x (ap (λ i. i 0) g.scratch ∙ put_here v.scratch 0 x) st.sxm))

  pub t_loaded : (f : Found) (x : ℕ) (v : Machine) → FoundHas c.at f x v → v.registers.sxm ≡ Some true → x < 65536 → Straight c (load_t f) v (found_weight f + 4) (λ u. u.registers.t ≡ Some x)
  t_loaded (Fixed k) x v e s lx =
      in_turn c (load_constant k ▸ end) (sacl (scratch 0) ▸ Op row.Lt (scratch 0) ▸ end) v 2 4 (LoadedFrom (constant_high k) x v) (λ u. u.registers.t ≡ Some x) (constant_loaded c k x v e s lx)
      (λ u st l. t_by_scratch x u (has_low (constant_high k) x u.registers.acc lx l.acc) st.sxm lx)
  t_loaded (Held m) x v e s lx = at_most c (Op row.Lt m ▸ end) v (operand_weight m) (operand_weight m + 4) (InT x v) (λ u. u.registers.t ≡ Some x) (omega arith) (λ t h. h.t) (word_in_t c m v x e s)
  t_loaded (Loaded h) x v e s lx = at_most c (sacl (scratch 0) ▸ Op row.Lt (scratch 0) ▸ end) v 4 4 (λ u. u.registers.t ≡ Some x) (λ u. u.registers.t ≡ Some x) (omega arith) (λ t h. h) (t_by_scratch x v (has_low h x v.registers.acc lx e) s lx)

  -- PAC
  product_left : (x y : ℕ) (u : Machine) → u.registers.p ≡ Some (product x (signed_of y)) → u.registers.sxm ≡ Some true → x < 65536 → y < 65536 → Straight c (bare row.Pac ▸ end) u 1 (λ t. InAcc Any (x * y % 65536) t.registers.acc)
  product_left x y u e s lx ly =
      acts c row.Pac operand.Nothing u 0 1 (InAcc Any (x * y % 65536)) (λ u. refl) refl s (omega arith)
      (record { combination = Some (Whole (product x (signed_of y))); is = ap (λ i. with_product (λ a p. Some p) i u.registers) e; turns = record { to = Whole (product x (signed_of y)); by = refl; has = record { has = ap Some (product_low x y lx ly); wide = product-lt x (signed_of y) } } })

  pub times_left : (m : AccOperand) (x y : ℕ) (u : Machine) → held c.at m u ≡ Some y → u.registers.t ≡ Some x → u.registers.sxm ≡ Some true → x < 65536 → y < 65536 → Straight c (times_place m) u (operand_weight m + 1) (λ t. InAcc Any (x * y % 65536) t.registers.acc)
  times_left m x y u e t s lx ly =
      in_turn c (Op row.Mpy m ▸ end) (bare row.Pac ▸ end) u (operand_weight m) 1 (λ r. r.registers.p ≡ Some (product x (signed_of y))) (λ t. InAcc Any (x * y % 65536) t.registers.acc)
      (operation c row.Mpy m u y (record u.registers { p = Some (product x (signed_of y)) }) (λ r. r.registers.p ≡ Some (product x (signed_of y))) (λ u. refl) e (ap (λ i. multiplied i y u.registers) t) refl s refl)
      (λ r sr p. product_left x y r p sr.sxm lx ly)

  -- T times a constant
  times_short : (w x y : ℕ) (u : Machine) → w ≡ y → u.registers.t ≡ Some x → u.registers.sxm ≡ Some true → x < 65536 → y < 65536 → Straight c (Op row.Mpyk (operand.Number w) ▸ bare row.Pac ▸ end) u 7 (λ t. InAcc Any (x * y % 65536) t.registers.acc)
  times_short w x y u e t s lx ly =
      at_most c (Op row.Mpyk (operand.Number w) ▸ bare row.Pac ▸ end) u 3 7 (λ t. InAcc Any (x * y % 65536) t.registers.acc) (λ t. InAcc Any (x * y % 65536) t.registers.acc) (omega arith) (λ t h. h)
      (in_turn c (Op row.Mpyk (operand.Number w) ▸ end) (bare row.Pac ▸ end) u 2 1 (λ r. r.registers.p ≡ Some (product x (signed_of y))) (λ t. InAcc Any (x * y % 65536) t.registers.acc)
      (operation c row.Mpyk (operand.Number w) u y (record u.registers { p = Some (product x (signed_of y)) }) (λ r. r.registers.p ≡ Some (product x (signed_of y))) (λ u. refl) (ap Some e) (ap (λ i. multiplied i y u.registers) t) refl s refl)
      (λ r sr p. product_left x y r p sr.sxm lx ly))

  times_long : (k : Constant) (x y : ℕ) (u : Machine) → ConstantIs c.at k y → u.registers.t ≡ Some x → u.registers.sxm ≡ Some true → x < 65536 → y < 65536 → Straight c (load_constant k ▸ sacl (scratch 0) ▸ times_place (scratch 0)) u 7 (λ t. InAcc Any (x * y % 65536) t.registers.acc)
  times_long k x y u e t s lx ly =
      in_turn c (load_constant k ▸ end) (sacl (scratch 0) ▸ times_place (scratch 0)) u 2 5 (LoadedFrom (constant_high k) y u) (λ t. InAcc Any (x * y % 65536) t.registers.acc) (constant_loaded c k y u e s ly)
      (λ r sr l. in_turn c (sacl (scratch 0) ▸ end) (times_place (scratch 0)) r 2 3 (Saves 0 y r) (λ t. InAcc Any (x * y % 65536) t.registers.acc) (saves c 0 y r (has_low (constant_high k) y r.registers.acc ly l.acc) sr.sxm ly)
      (λ q sq g. times_left (scratch 0) x y q (ap (λ i. i 0) g.scratch ∙ put_here r.scratch 0 y) (ap (λ i. i.t) g.registers ∙ l.t ∙ t) sq.sxm lx ly))

  times_number : (w x y : ℕ) (b : Bool) (u : Machine) → w ≡ y → u.registers.t ≡ Some x → u.registers.sxm ≡ Some true → x < 65536 → y < 65536
      → Straight c (if b then Op row.Mpyk (operand.Number w) ▸ bare row.Pac ▸ end else load_constant (Number w) ▸ sacl (scratch 0) ▸ times_place (scratch 0)) u 7 (λ t. InAcc Any (x * y % 65536) t.registers.acc)
  times_number w x y true u e t s lx ly = times_short w x y u e t s lx ly
  times_number w x y false u e t s lx ly = times_long (Number w) x y u e t s lx ly

  pub times_constant : (k : Constant) (x y : ℕ) (u : Machine) → ConstantIs c.at k y → u.registers.t ≡ Some x → u.registers.sxm ≡ Some true → x < 65536 → y < 65536 → Straight c (times k) u 7 (λ t. InAcc Any (x * y % 65536) t.registers.acc)
  times_constant (Number w) x y u e t s lx ly = times_number w x y (has_13_bits w) u e t s lx ly
  times_constant (Address o n) x y u e t s lx ly = times_long (Address o n) x y u e t s lx ly

  pub multiplied_constant : (f : Found) (k : Constant) (x y : ℕ) (v : Machine) → FoundHas c.at f x v → ConstantIs c.at k y → v.registers.sxm ≡ Some true → x < 65536 → y < 65536
      → Straight c (load_t f ⧺ times k) v (found_weight f + 17) (λ t. InAcc Any (x * y % 65536) t.registers.acc)
  multiplied_constant f k x y v e is s lx ly =
      at_most c (load_t f ⧺ times k) v (found_weight f + 4 + 7) (found_weight f + 17) (λ t. InAcc Any (x * y % 65536) t.registers.acc) (λ t. InAcc Any (x * y % 65536) t.registers.acc) (omega arith) (λ t h. h)
      (in_turn c (load_t f) (times k) v (found_weight f + 4) 7 (λ u. u.registers.t ≡ Some x) (λ t. InAcc Any (x * y % 65536) t.registers.acc) (t_loaded f x v e s lx) (λ u st t. times_constant k x y u is t st.sxm lx ly))

  module _ (m : AccOperand) (steady : IsSteady m) (y : ℕ) (v : Machine) (is : held c.at m v ≡ Some y) (s : v.registers.sxm ≡ Some true) (ly : y < 65536) where
    pub multiplied_place : (f : Found) (x : ℕ) → FoundHas c.at f x v → x < 65536 → Straight c (multiply f m) v (found_weight f + (operand_weight m + 12)) (λ t. InAcc Any (x * y % 65536) t.registers.acc)
    multiplied_place f x e lx =
        at_most c (multiply f m) v (found_weight f + 4 + (operand_weight m + 1)) (found_weight f + (operand_weight m + 12)) (λ t. InAcc Any (x * y % 65536) t.registers.acc) (λ t. InAcc Any (x * y % 65536) t.registers.acc) (omega arith) (λ t h. h)
        (in_turn c (load_t f) (times_place m) v (found_weight f + 4) (operand_weight m + 1) (λ u. u.registers.t ≡ Some x) (λ t. InAcc Any (x * y % 65536) t.registers.acc) (t_loaded f x v e s lx)
        (λ u st t. times_left m x y u (there c m y v u steady st is) t st.sxm lx ly))

    turned : (x : ℕ) → y * x % 65536 ≡ x * y % 65536
    turned x = omega arith

    number_by_place : (w x : ℕ) (b : Bool) → w ≡ x → x < 65536 → Straight c (if b then Op row.Lt m ▸ times (Number w) else multiply (Fixed (Number w)) m) v (2 + (operand_weight m + 12)) (λ t. InAcc Any (x * y % 65536) t.registers.acc)
    number_by_place w x true e lx =
        at_most c (Op row.Lt m ▸ times (Number w)) v (operand_weight m + 7) (2 + (operand_weight m + 12)) (λ t. InAcc Any (y * x % 65536) t.registers.acc) (λ t. InAcc Any (x * y % 65536) t.registers.acc) (omega arith) (λ t h. subst (λ i. InAcc Any i t.registers.acc) (turned x) h)
        (in_turn c (Op row.Lt m ▸ end) (times (Number w)) v (operand_weight m) 7 (InT y v) (λ t. InAcc Any (y * x % 65536) t.registers.acc) (word_in_t c m v y is s)
        (λ u st t. times_constant (Number w) y x u e t.t st.sxm ly lx))
    number_by_place w x false e lx = multiplied_place (Fixed (Number w)) x e lx

    pub product_place : (f : Found) (x : ℕ) → FoundHas c.at f x v → x < 65536 → Straight c (product_with_place f m) v (found_weight f + (operand_weight m + 12)) (λ t. InAcc Any (x * y % 65536) t.registers.acc)
    product_place (Fixed (Number w)) x e lx = number_by_place w x (has_13_bits w) e lx
    product_place (Fixed (Address o n)) x e lx = multiplied_place (Fixed (Address o n)) x e lx
    product_place (Held n) x e lx = multiplied_place (Held n) x e lx
    product_place (Loaded h) x e lx = multiplied_place (Loaded h) x e lx
