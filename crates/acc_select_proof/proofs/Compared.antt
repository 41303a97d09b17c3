-- Comparisons of a word that was found leave a test that holds where they do.
use Rattle.std.proofs.Common.{◌≡◌, ℕ, ◌+◌, ◌*◌, ◌/◌, ◌%◌, ◌^◌, ◌<◌, Bool, true, false, Some, refl, sym, ap, ◌∙◌, subst, arith}
use Rattle.std.specs.Prelude.{nat_lt, ◌==◌, if◌then◌else◌}
use Rattle.std.proofs.lemmas.Bool.{ltb-true, eqb-true, eqb-false}
use Rattle.acc_code.specs.declared.operand.AccOperand.{AccOperand}
use Rattle.acc_code.specs.declared.operand.AccOperand.TheVariants as operand
use Rattle.acc_code.specs.declared.operation.AccOp.TheVariants as row
use Rattle.acc_code.specs.declared.operation.Test.{Test}
use Rattle.acc_code.specs.AccTree.{Op, ItemList, end, ◌▸◌, ◌⧺◌}
use Rattle.acc_select.specs.acc_operations.Comparisons.{subs, sub, exactly_less, exactly_less_constant, exact_with, less_unsigned, items_with_place, items_with_constant, items_of_place, test_with_constant, test_of_place, compared_with_place, compared_with_constant, compared_of_constant, compared_of_place}
use Rattle.acc_select.specs.acc_operations.Kinds.{swapped, swapped_comparison}
use Rattle.acc_select.specs.acc_operations.Sums.{minus}
use Rattle.acc_select.specs.acc_operations.Words.{scratch, lac, load, high, store, load_signed, load_unsigned, load_clean}
use Rattle.acc_select.specs.acc_operations.declared.comparison.Comparison.{Comparison}
use Rattle.acc_select.specs.acc_operations.declared.comparison.Order.{Order}
use Rattle.acc_select.specs.acc_operations.declared.comparison.Order.TheVariants.{Exact, Signed, Unsigned}
use Rattle.acc_select.specs.acc_operations.declared.constant.Constant.{Constant}
use Rattle.acc_select.specs.acc_operations.declared.constant.Constant.TheVariants.{Number, Address}
use Rattle.acc_select.specs.acc_operations.declared.found.Found.{Found}
use Rattle.acc_select.specs.acc_operations.declared.high_half.HighHalf.{HighHalf}
use Rattle.acc_select.specs.acc_operations.declared.high_half.HighHalf.TheVariants.{Any, Zero, Sign, Small}
use Rattle.c25_isa.specs.Step as step
use Rattle.c25_isa.specs.Step.{extended, wrap32}
use Rattle.ir_semantics.specs.AccRows.{Whole, low_half, combined, scaled, operand_weight}
use Rattle.ir_semantics.specs.AccRun.{Machine, Context, held}
use Rattle.acc_select_proof.proofs.Straights.{ConstantIs, FoundHas, found_weight, IsSteady, Straight, nothing_done, at_most}
use Rattle.acc_select_proof.proofs.Loading.{LoadedFrom, word_loaded}
use Rattle.acc_select_proof.proofs.Words.{ext_is, ext_low, scaled_word, small_sign}
use Rattle.acc_select_proof.proofs.Meant.{tested_by, less_by, decides_of, IsTold}
use Rattle.acc_select_proof.proofs.Testing.{IsTest}
use Rattle.acc_select_proof.proofs.Arithmetics.{ext-lt}
use Rattle.acc_select_proof.proofs.Following.{InAcc, IsFound, Becomes, there, in_turn, row_turns, on_loaded, on_kept}
use Rattle.acc_select_proof.proofs.Summing.{acts}
use Rattle.acc_select_proof.proofs.Comparing.{Shows, shown, shown_turned, turned, told_swapped, signed_shows, unsigned_shows, exact_turned, sub_acted, mask_acted, then_one, signed_loaded, unsigned_loaded, clean_loaded, exactly_constant, less_steady, less_plain, exactly_less_place, exactly_less_fixed}

module _ (c : Context) where
  -- a word without a sign less a number
  module _ (u : Machine) (x y : ℕ) (s : u.registers.sxm ≡ Some true) (is : u.registers.acc ≡ Whole x) (lx : x < 65536) (ly : y < 65536) where
    less_one : (t : Machine) (z : ℕ) → t.registers.sxm ≡ Some true → t.registers.acc ≡ Whole z → step.minus z 1 ≡ step.minus x y → Straight c (Op row.Subk (operand.Number 1) ▸ end) t 2 (λ v. Shows Unsigned x y v.registers.acc)
    less_one t z st e n =
        acts c row.Subk (operand.Number 1) t 1 2 (Shows Unsigned x y) (λ u. refl) refl st (omega arith)
        (record { combination = combined step.minus t.registers.acc (Whole 1); is = refl; turns = record { to = Whole (step.minus z 1); by = ap (λ a. combined step.minus a (Whole 1)) e; has = unsigned_shows x y (Whole (step.minus z 1)) lx ly (ap Whole n) } })

    odd_too : (w : ℕ) (b : Bool) → w ≡ y → (w % 2 == 0) ≡ b → (t : Machine) → t.registers.sxm ≡ Some true → t.registers.acc ≡ Whole (step.minus x (w / 2 * 2))
        → Straight c (if b then end else Op row.Subk (operand.Number 1) ▸ end) t 2 (λ v. Shows Unsigned x y v.registers.acc)
    odd_too w true e q t st h =
        let n : step.minus x (w / 2 * 2) ≡ step.minus x y = let i = eqb-true (w % 2) 0 q in omega (arith, e, i) in
        nothing_done c t 2 (λ v. Shows Unsigned x y v.registers.acc) st (unsigned_shows x y t.registers.acc lx ly (h ∙ ap Whole n))
    odd_too w false e q t st h =
        let i = eqb-false (w % 2) 0 q in
        less_one t (step.minus x (w / 2 * 2)) st h (omega (arith, e, i, lx, ly))

    half_scaled : (w : ℕ) → w ≡ y → scaled u.registers.sxm (w / 2) 1 ≡ Whole (w / 2 * 2)
    half_scaled w e =
        let n : wrap32 (extended true (w / 2) * 2 ^ 1) ≡ w / 2 * 2 = omega (arith, e, ly, ext_is (w / 2)) in
        ap (λ b. scaled b (w / 2) 1) s ∙ ap Whole n

    less_large : (w : ℕ) → w ≡ y → Straight c (Op (row.Sblk 1) (operand.Number (w / 2)) ▸ (if w % 2 == 0 then end else Op row.Subk (operand.Number 1) ▸ end)) u 4 (λ v. Shows Unsigned x y v.registers.acc)
    less_large w e =
        in_turn c (Op (row.Sblk 1) (operand.Number (w / 2)) ▸ end) (if w % 2 == 0 then end else Op row.Subk (operand.Number 1) ▸ end) u 2 2 (λ v. v.registers.acc ≡ Whole (step.minus x (w / 2 * 2))) (λ v. Shows Unsigned x y v.registers.acc)
        (acts c (row.Sblk 1) (operand.Number (w / 2)) u (w / 2) 2 (λ a. a ≡ Whole (step.minus x (w / 2 * 2))) (λ u. refl) refl s (omega arith)
        (record { combination = combined step.minus u.registers.acc (scaled u.registers.sxm (w / 2) 1); is = refl; turns = record { to = Whole (step.minus x (w / 2 * 2)); by = ap (λ a. combined step.minus a (scaled u.registers.sxm (w / 2) 1)) is ∙ ap (combined step.minus (Whole x)) (half_scaled w e); has = refl } }))
        (λ t st h. odd_too w (w % 2 == 0) e refl t st.sxm h)

    less_number : (w : ℕ) (a b d : Bool) → w ≡ y → (w == 0) ≡ a → nat_lt w 256 ≡ b → nat_lt w 32768 ≡ d
        → Straight c (if a then end else if b then Op row.Subk (operand.Number w) ▸ end else if d then Op (row.Sblk 0) (operand.Number w) ▸ end else Op (row.Sblk 1) (operand.Number (w / 2)) ▸ (if w % 2 == 0 then end else Op row.Subk (operand.Number 1) ▸ end)) u 4 (λ v. Shows Unsigned x y v.registers.acc)
    less_number w true b d e p q r =
        let n : x ≡ step.minus x y = let i = eqb-true w 0 p in omega (arith, i, e, lx) in
        nothing_done c u 4 (λ v. Shows Unsigned x y v.registers.acc) s (unsigned_shows x y u.registers.acc lx ly (is ∙ ap Whole n))
    less_number w false true d e p q r =
        acts c row.Subk (operand.Number w) u y 4 (Shows Unsigned x y) (λ u. refl) (ap Some e) s (omega arith)
        (record { combination = combined step.minus u.registers.acc (Whole y); is = refl; turns = record { to = Whole (step.minus x y); by = ap (λ a. combined step.minus a (Whole y)) is; has = unsigned_shows x y (Whole (step.minus x y)) lx ly refl } })
    less_number w false false true e p q r =
        let same : extended true y ≡ y = let i = ltb-true w 32768 r in omega (arith, i, e, ext_is y) in
        acts c (row.Sblk 0) (operand.Number w) u y 4 (Shows Unsigned x y) (λ u. refl) (ap Some e) s (omega arith)
        (let a = sub_acted x y u s is ly in record {
          combination = combined step.minus u.registers.acc (scaled u.registers.sxm y 0);
          is = refl;
          turns = record { to = Whole (step.minus x (extended true y)); by = ap (λ a. combined step.minus a (scaled u.registers.sxm y 0)) is ∙ ap (combined step.minus (Whole x)) (scaled_word u.registers.sxm y s ly); has = unsigned_shows x y (Whole (step.minus x (extended true y))) lx ly (ap (λ i. Whole (step.minus x i)) same) };
        })
    less_number w false false false e p q r = less_large w e

    pub less_unsigned_number : (w : ℕ) → w ≡ y → Straight c (less_unsigned w) u 4 (λ v. Shows Unsigned x y v.registers.acc)
    less_unsigned_number w e = less_number w (w == 0) (nat_lt w 256) (nat_lt w 32768) e refl refl refl

  module _ (f : Found) (v : Machine) (s : v.registers.sxm ≡ Some true) where
    -- the left word was found
    module _ (x y : ℕ) (e : FoundHas c.at f x v) (w : IsFound f v) (lx : x < 65536) (ly : y < 65536) where
      module _ (m : AccOperand) (steady : IsSteady m) (is : held c.at m v ≡ Some y) where
        place_shows : (o : Order) → Straight c (items_with_place o f m) v (found_weight f + (operand_weight m + 4)) (λ u. Shows o x y u.registers.acc)
        place_shows Exact =
            on_loaded c f x v (exactly_less (high f) m) (operand_weight m + 2) (operand_weight m + 4) (λ u. Shows Exact x y u.registers.acc) e w s lx (omega arith)
            (λ u st i. exactly_less_place c u x y st.sxm lx ly (high f) m i (there c m y v u steady st is))
        place_shows Signed =
            then_one c (load_signed f) (sub m ▸ end) v (found_weight f + 4) (operand_weight m) (found_weight f + (operand_weight m + 4)) (λ u. u.registers.acc ≡ Whole (extended true x)) (λ u. Shows Signed x y u.registers.acc) (omega arith)
            (signed_loaded c f x v e w s lx)
            (λ u st i. at_most c (sub m ▸ end) u (operand_weight m) (operand_weight m) (λ t. t.registers.acc ≡ Whole (step.minus (extended true x) (extended true y))) (λ t. Shows Signed x y t.registers.acc) (omega arith) (λ t h. signed_shows x y t.registers.acc lx ly h)
            (less_steady c u x y st.sxm lx ly m (there c m y v u steady st is) i))
        place_shows Unsigned =
            then_one c (load_unsigned f) (subs m ▸ end) v (found_weight f + 2) (operand_weight m) (found_weight f + (operand_weight m + 4)) (λ u. u.registers.acc ≡ Whole x) (λ u. Shows Unsigned x y u.registers.acc) (omega arith)
            (unsigned_loaded c f x v e w s lx)
            (λ u st i. at_most c (subs m ▸ end) u (operand_weight m) (operand_weight m) (λ t. t.registers.acc ≡ Whole (step.minus x y)) (λ t. Shows Unsigned x y t.registers.acc) (omega arith) (λ t h. unsigned_shows x y t.registers.acc lx ly h)
            (less_plain c u x y st.sxm lx ly m (there c m y v u steady st is) i))

        place_tells : (o : Comparison) → IsTold o.order o.test → Straight c (compared_with_place o f m).items v (found_weight f + (operand_weight m + 4)) (λ u. IsTest (compared_with_place o f m).test (decides_of o x y) u.registers.acc)
        place_tells o told =
            at_most c (items_with_place o.order f m) v (found_weight f + (operand_weight m + 4)) (found_weight f + (operand_weight m + 4)) (λ u. Shows o.order x y u.registers.acc) (λ u. IsTest o.test (decides_of o x y) u.registers.acc) (omega arith)
            (λ u h. shown o.order o.test x y u.registers.acc told h) (place_shows o.order)

      exact_number : (n : ℕ) (b : Bool) → n ≡ y → (n == 0) ≡ b → Straight c (if b then load_clean f else load f ⧺ exactly_less_constant (high f) (Number n)) v (found_weight f + 8) (λ u. Shows Exact x y u.registers.acc)
      exact_number n true i q =
          let zero_is : 0 ≡ y = sym (eqb-true n 0 q) ∙ i in
          at_most c (load_clean f) v (found_weight f + 2) (found_weight f + 8) (λ u. Shows Exact x 0 u.registers.acc) (λ u. Shows Exact x y u.registers.acc) (omega arith) (λ u h. subst (λ j. Shows Exact x j u.registers.acc) zero_is h) (clean_loaded c f x v e w s lx)
      exact_number n false i q =
          on_loaded c f x v (exactly_less_constant (high f) (Number n)) 4 8 (λ u. Shows Exact x y u.registers.acc) e w s lx (omega arith)
          (λ u st j. exactly_less_fixed c u x y st.sxm lx ly (high f) (Number n) j i)

      exact_constant : (k : Constant) → ConstantIs c.at k y → Straight c (exact_with f k) v (found_weight f + 8) (λ u. Shows Exact x y u.registers.acc)
      exact_constant (Number n) i = exact_number n (n == 0) i refl
      exact_constant (Address o n) i =
          on_loaded c f x v (exactly_less_constant (high f) (Address o n)) 4 8 (λ u. Shows Exact x y u.registers.acc) e w s lx (omega arith)
          (λ u st j. exactly_less_fixed c u x y st.sxm lx ly (high f) (Address o n) j i)

      signed_constant : (k : Constant) → ConstantIs c.at k y → Straight c (load_signed f ⧺ minus k) v (found_weight f + 8) (λ u. Shows Signed x y u.registers.acc)
      signed_constant k i =
          then_one c (load_signed f) (minus k) v (found_weight f + 4) 2 (found_weight f + 8) (λ u. u.registers.acc ≡ Whole (extended true x)) (λ u. Shows Signed x y u.registers.acc) (omega arith)
          (signed_loaded c f x v e w s lx)
          (λ u st h. at_most c (minus k) u 2 2 (λ t. t.registers.acc ≡ Whole (step.minus (extended true x) (extended true y))) (λ t. Shows Signed x y t.registers.acc) (omega arith) (λ t h. signed_shows x y t.registers.acc lx ly h)
          (exactly_constant c u (extended true x) y st.sxm h (ext-lt x lx) ly k i))

      unsigned_number : (n : ℕ) → n ≡ y → Straight c (load_unsigned f ⧺ less_unsigned n) v (found_weight f + 8) (λ u. Shows Unsigned x y u.registers.acc)
      unsigned_number n i =
          then_one c (load_unsigned f) (less_unsigned n) v (found_weight f + 2) 4 (found_weight f + 8) (λ u. u.registers.acc ≡ Whole x) (λ u. Shows Unsigned x y u.registers.acc) (omega arith)
          (unsigned_loaded c f x v e w s lx) (λ u st h. less_unsigned_number u x y st.sxm h lx ly n i)

      -- an address is loaded behind the other word
      address_less : (k : AccOperand) (t : Machine) → operand_weight k ≡ 2 → held c.at k t ≡ Some y → t.registers.sxm ≡ Some true → t.scratch 0 ≡ Some x
          → Straight c (Op (row.Lalk 0) k ▸ Op row.Andk (operand.Number 65535) ▸ subs (scratch 0) ▸ end) t 6 (λ u. Shows Unsigned y x u.registers.acc)
      address_less k t light there_is st kept_is =
          in_turn c (Op (row.Lalk 0) k ▸ end) (Op row.Andk (operand.Number 65535) ▸ subs (scratch 0) ▸ end) t 2 4 (Becomes (λ a. a ≡ Whole (extended true y)) t) (λ u. Shows Unsigned y x u.registers.acc)
          (subst (λ n. Straight c (Op (row.Lalk 0) k ▸ end) t n (Becomes (λ a. a ≡ Whole (extended true y)) t)) light
          (row_turns c (row.Lalk 0) k t y (Some (scaled t.registers.sxm y 0)) (λ a. a ≡ Whole (extended true y)) (λ u. refl) there_is refl st (record { to = scaled t.registers.sxm y 0; by = refl; has = scaled_word t.registers.sxm y st ly })))
          (λ u su b. in_turn c (Op row.Andk (operand.Number 65535) ▸ end) (subs (scratch 0) ▸ end) u 2 2 (Becomes (λ a. a ≡ Whole y) u) (λ u. Shows Unsigned y x u.registers.acc)
          (let a = mask_acted y u (ap low_half b.acc ∙ ap Some (ext_low y ly)) ly in row_turns c row.Andk (operand.Number 65535) u 65535 a.combination (λ a. a ≡ Whole y) (λ u. refl) refl a.is su.sxm a.turns)
          (λ r sr d. at_most c (subs (scratch 0) ▸ end) r 2 2 (λ t. t.registers.acc ≡ Whole (step.minus y x)) (λ t. Shows Unsigned y x t.registers.acc) (omega arith) (λ t h. unsigned_shows y x t.registers.acc ly lx h)
          (less_plain c r y x sr.sxm ly lx (scratch 0) (ap (λ g. g 0) (d.scratch ∙ b.scratch) ∙ kept_is) d.acc)))

      constant_tells : (o : Comparison) (k : Constant) → IsTold o.order o.test → ConstantIs c.at k y
          → Straight c (compared_with_constant o f k).items v (found_weight f + 8) (λ u. IsTest (compared_with_constant o f k).test (decides_of o x y) u.registers.acc)
      constant_tells o k told i = by o.order o.test k told i
        where
          straight : (o : Order) (t : Test) (xs : ItemList) → IsTold o t → Straight c xs v (found_weight f + 8) (λ u. Shows o x y u.registers.acc) → Straight c xs v (found_weight f + 8) (λ u. IsTest t (tested_by t (less_by o) x y) u.registers.acc)
          straight o t xs told h = at_most c xs v (found_weight f + 8) (found_weight f + 8) (λ u. Shows o x y u.registers.acc) (λ u. IsTest t (tested_by t (less_by o) x y) u.registers.acc) (omega arith) (λ u j. shown o t x y u.registers.acc told j) h

          by : (o : Order) (t : Test) (k : Constant) → IsTold o t → ConstantIs c.at k y → Straight c (items_with_constant o f k) v (found_weight f + 8) (λ u. IsTest (test_with_constant o t k) (tested_by t (less_by o) x y) u.registers.acc)
          by Exact t k told i = straight Exact t (exact_with f k) told (exact_constant k i)
          by Signed t k told i = straight Signed t (load_signed f ⧺ minus k) told (signed_constant k i)
          by Unsigned t (Number n) told i = straight Unsigned t (load_unsigned f ⧺ less_unsigned n) told (unsigned_number n i)
          by Unsigned t (Address b n) told i =
              at_most c (items_with_constant Unsigned f (Address b n)) v (found_weight f + 8) (found_weight f + 8) (λ u. Shows Unsigned y x u.registers.acc) (λ u. IsTest (swapped t) (tested_by t (less_by Unsigned) x y) u.registers.acc) (omega arith)
              (λ u j. shown_turned Unsigned t x y u.registers.acc told j)
              (on_kept c 0 f x v (Op (row.Lalk 0) (operand.Address b n) ▸ Op row.Andk (operand.Number 65535) ▸ subs (scratch 0) ▸ end) 6 8 (λ u. Shows Unsigned y x u.registers.acc) e w s lx (omega arith)
              (λ u st kept_is. address_less (operand.Address b n) u refl i st.sxm kept_is))

      of_constant_tells : (o : Comparison) (k : Constant) → IsTold o.order o.test → ConstantIs c.at k y
          → Straight c (compared_of_constant o k f).items v (found_weight f + 8) (λ u. IsTest (compared_of_constant o k f).test (decides_of o y x) u.registers.acc)
      of_constant_tells o k told i =
          subst (λ b. Straight c (compared_of_constant o k f).items v (found_weight f + 8) (λ u. IsTest (compared_of_constant o k f).test b u.registers.acc)) (turned o.test (less_by o.order) y x)
          (constant_tells (swapped_comparison o) k (told_swapped o.order o.test told) i)

    -- the left word stands in a place, and the right one was found
    module _ (x y : ℕ) (e : FoundHas c.at f y v) (w : IsFound f v) (lx : x < 65536) (ly : y < 65536) (m : AccOperand) (steady : IsSteady m) (is : held c.at m v ≡ Some x) where
      exact_of : Straight c (load f ⧺ exactly_less (high f) m) v (found_weight f + (operand_weight m + 4)) (λ u. Shows Exact x y u.registers.acc)
      exact_of =
          on_loaded c f y v (exactly_less (high f) m) (operand_weight m + 2) (operand_weight m + 4) (λ u. Shows Exact x y u.registers.acc) e w s ly (omega arith)
          (λ u st i. at_most c (exactly_less (high f) m) u (operand_weight m + 2) (operand_weight m + 2) (λ t. Shows Exact y x t.registers.acc) (λ t. Shows Exact x y t.registers.acc) (omega arith) (λ t h. exact_turned x y t.registers.acc h)
          (exactly_less_place c u y x st.sxm ly lx (high f) m i (there c m x v u steady st is)))

      signed_kept : Straight c (store (scratch 0) f ⧺ lac m ▸ sub (scratch 0) ▸ end) v (found_weight f + (operand_weight m + 4)) (λ u. Shows Signed x y u.registers.acc)
      signed_kept =
          on_kept c 0 f y v (lac m ▸ sub (scratch 0) ▸ end) (operand_weight m + 2) (operand_weight m + 4) (λ u. Shows Signed x y u.registers.acc) e w s ly (omega arith)
          (λ u st kept_is. in_turn c (lac m ▸ end) (sub (scratch 0) ▸ end) u (operand_weight m) 2 (LoadedFrom Sign x u) (λ t. Shows Signed x y t.registers.acc)
          (word_loaded c m x u (there c m x v u steady st is) st.sxm lx)
          (λ r sr b. at_most c (sub (scratch 0) ▸ end) r 2 2 (λ t. t.registers.acc ≡ Whole (step.minus (extended true x) (extended true y))) (λ t. Shows Signed x y t.registers.acc) (omega arith) (λ t h. signed_shows x y t.registers.acc lx ly h)
          (less_steady c r x y sr.sxm lx ly (scratch 0) (ap (λ g. g 0) b.scratch ∙ kept_is) b.acc)))

      unsigned_kept : Straight c (store (scratch 0) f ⧺ Op row.Zals m ▸ subs (scratch 0) ▸ end) v (found_weight f + (operand_weight m + 4)) (λ u. Shows Unsigned x y u.registers.acc)
      unsigned_kept =
          on_kept c 0 f y v (Op row.Zals m ▸ subs (scratch 0) ▸ end) (operand_weight m + 2) (operand_weight m + 4) (λ u. Shows Unsigned x y u.registers.acc) e w s ly (omega arith)
          (λ u st kept_is. in_turn c (Op row.Zals m ▸ end) (subs (scratch 0) ▸ end) u (operand_weight m) 2 (Becomes (λ a. a ≡ Whole x) u) (λ t. Shows Unsigned x y t.registers.acc)
          (row_turns c row.Zals m u x (Some (Whole x)) (λ a. a ≡ Whole x) (λ u. refl) (there c m x v u steady st is) refl st.sxm (record { to = Whole x; by = refl; has = refl }))
          (λ r sr b. at_most c (subs (scratch 0) ▸ end) r 2 2 (λ t. t.registers.acc ≡ Whole (step.minus x y)) (λ t. Shows Unsigned x y t.registers.acc) (omega arith) (λ t h. unsigned_shows x y t.registers.acc lx ly h)
          (less_plain c r x y sr.sxm lx ly (scratch 0) (ap (λ g. g 0) b.scratch ∙ kept_is) b.acc)))

      -- the right word's high half is its sign, or is 0: it is compared with the left one
      signed_back : ((u : Machine) → InAcc (high f) y u.registers.acc → u.registers.acc ≡ Whole (extended true y)) → Straight c (load f ⧺ sub m ▸ end) v (found_weight f + (operand_weight m + 4)) (λ u. Shows Signed y x u.registers.acc)
      signed_back so =
          on_loaded c f y v (sub m ▸ end) (operand_weight m) (operand_weight m + 4) (λ u. Shows Signed y x u.registers.acc) e w s ly (omega arith)
          (λ u st i. at_most c (sub m ▸ end) u (operand_weight m) (operand_weight m) (λ t. t.registers.acc ≡ Whole (step.minus (extended true y) (extended true x))) (λ t. Shows Signed y x t.registers.acc) (omega arith) (λ t h. signed_shows y x t.registers.acc ly lx h)
          (less_steady c u y x st.sxm ly lx m (there c m x v u steady st is) (so u i)))

      unsigned_back : ((u : Machine) → InAcc (high f) y u.registers.acc → u.registers.acc ≡ Whole y) → Straight c (load f ⧺ subs m ▸ end) v (found_weight f + (operand_weight m + 4)) (λ u. Shows Unsigned y x u.registers.acc)
      unsigned_back so =
          on_loaded c f y v (subs m ▸ end) (operand_weight m) (operand_weight m + 4) (λ u. Shows Unsigned y x u.registers.acc) e w s ly (omega arith)
          (λ u st i. at_most c (subs m ▸ end) u (operand_weight m) (operand_weight m) (λ t. t.registers.acc ≡ Whole (step.minus y x)) (λ t. Shows Unsigned y x t.registers.acc) (omega arith) (λ t h. unsigned_shows y x t.registers.acc ly lx h)
          (less_plain c u y x st.sxm ly lx m (there c m x v u steady st is) (so u i)))

      of_place_tells : (o : Comparison) → IsTold o.order o.test → Straight c (compared_of_place o m f).items v (found_weight f + (operand_weight m + 4)) (λ u. IsTest (compared_of_place o m f).test (decides_of o x y) u.registers.acc)
      of_place_tells o told = by o.order o.test (high f) refl told
        where
          straight : (o : Order) (t : Test) (xs : ItemList) → IsTold o t → Straight c xs v (found_weight f + (operand_weight m + 4)) (λ u. Shows o x y u.registers.acc) → Straight c xs v (found_weight f + (operand_weight m + 4)) (λ u. IsTest t (tested_by t (less_by o) x y) u.registers.acc)
          straight o t xs told h = at_most c xs v (found_weight f + (operand_weight m + 4)) (found_weight f + (operand_weight m + 4)) (λ u. Shows o x y u.registers.acc) (λ u. IsTest t (tested_by t (less_by o) x y) u.registers.acc) (omega arith) (λ u j. shown o t x y u.registers.acc told j) h

          straight_turned : (o : Order) (t : Test) (xs : ItemList) → IsTold o t → Straight c xs v (found_weight f + (operand_weight m + 4)) (λ u. Shows o y x u.registers.acc) → Straight c xs v (found_weight f + (operand_weight m + 4)) (λ u. IsTest (swapped t) (tested_by t (less_by o) x y) u.registers.acc)
          straight_turned o t xs told h = at_most c xs v (found_weight f + (operand_weight m + 4)) (found_weight f + (operand_weight m + 4)) (λ u. Shows o y x u.registers.acc) (λ u. IsTest (swapped t) (tested_by t (less_by o) x y) u.registers.acc) (omega arith) (λ u j. shown_turned o t x y u.registers.acc told j) h

          by : (o : Order) (t : Test) (h : HighHalf) → high f ≡ h → IsTold o t → Straight c (items_of_place o m f h) v (found_weight f + (operand_weight m + 4)) (λ u. IsTest (test_of_place o t h) (tested_by t (less_by o) x y) u.registers.acc)
          by Exact t h q told = straight Exact t (load f ⧺ exactly_less h m) told (subst (λ i. Straight c (load f ⧺ exactly_less i m) v (found_weight f + (operand_weight m + 4)) (λ u. Shows Exact x y u.registers.acc)) q exact_of)
          by Signed t Any q told = straight Signed t (store (scratch 0) f ⧺ lac m ▸ sub (scratch 0) ▸ end) told signed_kept
          by Signed t Zero q told = straight Signed t (store (scratch 0) f ⧺ lac m ▸ sub (scratch 0) ▸ end) told signed_kept
          by Signed t Sign q told = straight_turned Signed t (load f ⧺ sub m ▸ end) told (signed_back (λ u i. has_sign u (subst (λ h. InAcc h y u.registers.acc) q i)))
            where
              has_sign : (u : Machine) → InAcc Sign y u.registers.acc → u.registers.acc ≡ Whole (extended true y)
              has_sign u i = i.has
          by Signed t Small q told = straight_turned Signed t (load f ⧺ sub m ▸ end) told (signed_back (λ u i. has_small u (subst (λ h. InAcc h y u.registers.acc) q i)))
            where
              has_small : (u : Machine) → InAcc Small y u.registers.acc → u.registers.acc ≡ Whole (extended true y)
              has_small u i = i.has.0 ∙ ap Whole (small_sign y i.has.1)
          by Unsigned t Any q told = straight Unsigned t (store (scratch 0) f ⧺ Op row.Zals m ▸ subs (scratch 0) ▸ end) told unsigned_kept
          by Unsigned t Zero q told = straight_turned Unsigned t (load f ⧺ subs m ▸ end) told (unsigned_back (λ u i. has_zero u (subst (λ h. InAcc h y u.registers.acc) q i)))
            where
              has_zero : (u : Machine) → InAcc Zero y u.registers.acc → u.registers.acc ≡ Whole y
              has_zero u i = i.has
          by Unsigned t Sign q told = straight Unsigned t (store (scratch 0) f ⧺ Op row.Zals m ▸ subs (scratch 0) ▸ end) told unsigned_kept
          by Unsigned t Small q told = straight_turned Unsigned t (load f ⧺ subs m ▸ end) told (unsigned_back (λ u i. has_small u (subst (λ h. InAcc h y u.registers.acc) q i)))
            where
              has_small : (u : Machine) → InAcc Small y u.registers.acc → u.registers.acc ≡ Whole y
              has_small u i = i.has.0

  -- comparisons of two words, by where the left one and the right one are
  pub with_place_compares : (o : Comparison) (f : Found) (m : AccOperand) (x y : ℕ) (v : Machine) → IsTold o.order o.test → IsSteady m → FoundHas c.at f x v → IsFound f v → held c.at m v ≡ Some y → v.registers.sxm ≡ Some true → x < 65536 → y < 65536
      → Straight c (compared_with_place o f m).items v (found_weight f + (operand_weight m + 4)) (λ u. IsTest (compared_with_place o f m).test (decides_of o x y) u.registers.acc)
  with_place_compares o f m x y v told steady e w is s lx ly = place_tells f v s x y e w lx ly m steady is o told

  pub with_constant_compares : (o : Comparison) (f : Found) (k : Constant) (x y : ℕ) (v : Machine) → IsTold o.order o.test → FoundHas c.at f x v → IsFound f v → ConstantIs c.at k y → v.registers.sxm ≡ Some true → x < 65536 → y < 65536
      → Straight c (compared_with_constant o f k).items v (found_weight f + 8) (λ u. IsTest (compared_with_constant o f k).test (decides_of o x y) u.registers.acc)
  with_constant_compares o f k x y v told e w is s lx ly = constant_tells f v s x y e w lx ly o k told is

  pub of_constant_compares : (o : Comparison) (k : Constant) (f : Found) (x y : ℕ) (v : Machine) → IsTold o.order o.test → ConstantIs c.at k x → FoundHas c.at f y v → IsFound f v → v.registers.sxm ≡ Some true → x < 65536 → y < 65536
      → Straight c (compared_of_constant o k f).items v (found_weight f + 8) (λ u. IsTest (compared_of_constant o k f).test (decides_of o x y) u.registers.acc)
  of_constant_compares o k f x y v told is e w s lx ly = of_constant_tells f v s y x e w ly lx o k told is

  pub of_place_compares : (o : Comparison) (m : AccOperand) (f : Found) (x y : ℕ) (v : Machine) → IsTold o.order o.test → IsSteady m → held c.at m v ≡ Some x → FoundHas c.at f y v → IsFound f v → v.registers.sxm ≡ Some true → x < 65536 → y < 65536
      → Straight c (compared_of_place o m f).items v (found_weight f + (operand_weight m + 4)) (λ u. IsTest (compared_of_place o m f).test (decides_of o x y) u.registers.acc)
  of_place_compares o m f x y v told steady is e w s lx ly = of_place_tells f v s x y e w lx ly m steady is o told
