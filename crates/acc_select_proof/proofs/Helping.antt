-- Operations by routines leave their value.
use Rattle.std.proofs.Common.{◌≡◌, ℕ, ◌+◌, ◌<◌, true, Some, None, refl, ap, ◌∙◌, arith}
use Rattle.word_base.specs.Words.{Good}
use Rattle.acc_code.specs.declared.operand.AccOperand.{AccOperand}
use Rattle.acc_code.specs.declared.operand.HelperName.{HelperName}
use Rattle.acc_code.specs.declared.operation.AccOp.TheVariants as row
use Rattle.acc_code.specs.AccTree.{Item, end, ◌▸◌}
use Rattle.acc_select.specs.acc_operations.Arithmetic.{helped, helped_behind}
use Rattle.acc_select.specs.acc_operations.Constants.{load_constant, constant_high}
use Rattle.acc_select.specs.acc_operations.Sums.{by_helper}
use Rattle.acc_select.specs.acc_operations.Words.{bare, lac, sacl, scratch}
use Rattle.acc_select.specs.acc_operations.declared.constant.Constant.{Constant}
use Rattle.acc_select.specs.acc_operations.declared.found.Found.{Found}
use Rattle.acc_select.specs.acc_operations.declared.high_half.HighHalf.{HighHalf}
use Rattle.acc_select.specs.acc_operations.declared.high_half.HighHalf.TheVariants.{Any, Sign}
use Rattle.ir_semantics.specs.Parts.{after, in_order}
use Rattle.ir_semantics.specs.Outside.{no_words}
use Rattle.ir_semantics.specs.AccRows.{Low, operand_weight}
use Rattle.ir_semantics.specs.AccRun.{Machine, Context, held, helper_value, run}
use Rattle.ir_semantics.specs.AccRun as acc
use Rattle.acc_select_proof.proofs.Straights.{ConstantIs, FoundHas, found_weight, IsSteady, Straight, at_most}
use Rattle.acc_select_proof.proofs.Loading.{LoadedFrom, constant_loaded, word_loaded}
use Rattle.acc_select_proof.proofs.Sides.{put_here}
use Rattle.acc_select_proof.proofs.Words.{has_low}
use Rattle.acc_select_proof.proofs.Following.{InAcc, IsFound, Stands, Saves, there, in_turn, saves, on_kept}

module _ (c : Context) where
  -- behind a routine words are extended by their sign again
  pub helper_left : (name : HelperName) (a b z : ℕ) (u : Machine) → u.scratch 0 ≡ Some a → u.scratch 1 ≡ Some b → helper_value name a b ≡ Good z → Straight c (by_helper name) u 8 (λ t. InAcc Any z t.registers.acc)
  helper_left name a b z u e f good =
      let w : Machine = record u { work = u.work + 7 } in
      record {
        to = record u { registers = record u.registers { acc = Low z; t = None; p = None; sxm = Some true }; scratch = no_words; work = u.work + 7 + 1 };
        runs = ap (λ i. after (acc.helped name i (u.scratch 1) w) (λ flow. in_order flow (run c (bare row.Ssxm ▸ end)))) e
            ∙ ap (λ i. after (acc.helped name (Some a) i w) (λ flow. in_order flow (run c (bare row.Ssxm ▸ end)))) f
            ∙ ap (λ r. after (acc.helped_with r w) (λ flow. in_order flow (run c (bare row.Ssxm ▸ end)))) good;
        frame = refl;
        given_to = refl;
        given = refl;
        outside = refl;
        pointed = refl;
        sxm = refl;
        work = omega arith;
        then_so = record { has = refl; wide = tt };
      }

  module _ (name : HelperName) (f : Found) (v : Machine) (s : v.registers.sxm ≡ Some true) (w : IsFound f v) (x y z : ℕ) (lx : x < 65536) (ly : y < 65536) (good : helper_value name x y ≡ Good z) where
    -- the left word was found, and an item loads the right one
    helped_keeps : (load_right : Item) (h : HighHalf) (j : ℕ) → FoundHas c.at f x v → ((u : Machine) → Stands v u → Straight c (load_right ▸ end) u j (LoadedFrom h y u))
        → Straight c (helped name f load_right).items v (found_weight f + (j + 12)) (λ u. InAcc Any z u.registers.acc)
    helped_keeps load_right h j e load =
        on_kept c 0 f x v (load_right ▸ sacl (scratch 1) ▸ by_helper name) (j + 10) (j + 12) (λ u. InAcc Any z u.registers.acc) e w s lx (omega arith)
        (λ u st kept_is. in_turn c (load_right ▸ end) (sacl (scratch 1) ▸ by_helper name) u j 10 (LoadedFrom h y u) (λ u. InAcc Any z u.registers.acc) (load u st)
        (λ r sr b. in_turn c (sacl (scratch 1) ▸ end) (by_helper name) r 2 8 (Saves 1 y r) (λ u. InAcc Any z u.registers.acc) (saves c 1 y r (has_low h y r.registers.acc ly b.acc) sr.sxm ly)
        (λ t st' g. helper_left name x y z t (ap (λ k. k 0) g.scratch ∙ ap (λ k. k 0) b.scratch ∙ kept_is) (ap (λ k. k 1) g.scratch ∙ put_here r.scratch 1 y) good)))

    -- the right word was found, and an item loads the left one
    behind_keeps : (load_left : Item) (h : HighHalf) (j : ℕ) → FoundHas c.at f y v → ((u : Machine) → Stands v u → Straight c (load_left ▸ end) u j (LoadedFrom h x u))
        → Straight c (helped_behind name f load_left).items v (found_weight f + (j + 12)) (λ u. InAcc Any z u.registers.acc)
    behind_keeps load_left h j e load =
        on_kept c 1 f y v (load_left ▸ sacl (scratch 0) ▸ by_helper name) (j + 10) (j + 12) (λ u. InAcc Any z u.registers.acc) e w s ly (omega arith)
        (λ u st kept_is. in_turn c (load_left ▸ end) (sacl (scratch 0) ▸ by_helper name) u j 10 (LoadedFrom h x u) (λ u. InAcc Any z u.registers.acc) (load u st)
        (λ r sr b. in_turn c (sacl (scratch 0) ▸ end) (by_helper name) r 2 8 (Saves 0 x r) (λ u. InAcc Any z u.registers.acc) (saves c 0 x r (has_low h x r.registers.acc lx b.acc) sr.sxm lx)
        (λ t st' g. helper_left name x y z t (ap (λ k. k 0) g.scratch ∙ put_here r.scratch 0 x) (ap (λ k. k 1) g.scratch ∙ ap (λ k. k 1) b.scratch ∙ kept_is) good)))

    module _ (m : AccOperand) (steady : IsSteady m) where
      pub helped_with_place : FoundHas c.at f x v → held c.at m v ≡ Some y → Straight c (helped name f (lac m)).items v (found_weight f + (operand_weight m + 12)) (λ u. InAcc Any z u.registers.acc)
      helped_with_place e is = helped_keeps (lac m) Sign (operand_weight m) e (λ u st. word_loaded c m y u (there c m y v u steady st is) st.sxm ly)

      pub helped_of_place : FoundHas c.at f y v → held c.at m v ≡ Some x → Straight c (helped_behind name f (lac m)).items v (found_weight f + (operand_weight m + 12)) (λ u. InAcc Any z u.registers.acc)
      helped_of_place e is = behind_keeps (lac m) Sign (operand_weight m) e (λ u st. word_loaded c m x u (there c m x v u steady st is) st.sxm lx)

    pub helped_with_constant : (k : Constant) → FoundHas c.at f x v → ConstantIs c.at k y → Straight c (helped name f (load_constant k)).items v (found_weight f + 17) (λ u. InAcc Any z u.registers.acc)
    helped_with_constant k e is =
        at_most c (helped name f (load_constant k)).items v (found_weight f + 14) (found_weight f + 17) (λ u. InAcc Any z u.registers.acc) (λ u. InAcc Any z u.registers.acc) (omega arith) (λ u h. h)
        (helped_keeps (load_constant k) (constant_high k) 2 e (λ u st. constant_loaded c k y u is st.sxm ly))

    pub helped_of_constant : (k : Constant) → FoundHas c.at f y v → ConstantIs c.at k x → Straight c (helped_behind name f (load_constant k)).items v (found_weight f + 17) (λ u. InAcc Any z u.registers.acc)
    helped_of_constant k e is =
        at_most c (helped_behind name f (load_constant k)).items v (found_weight f + 14) (found_weight f + 17) (λ u. InAcc Any z u.registers.acc) (λ u. InAcc Any z u.registers.acc) (omega arith) (λ u h. h)
        (behind_keeps (load_constant k) (constant_high k) 2 e (λ u st. constant_loaded c k x u is st.sxm lx))
