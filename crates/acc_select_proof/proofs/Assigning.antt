-- The code of assignments: to a name, to what a pointer points to at once, and through a temporary where the value has to be computed first.
use Rattle.std.proofs.Common.{◌≡◌, ℕ, suc, ◌+◌, ◌<◌, ◌≤◌, true, List, ◌∷◌, length, Option, Some, refl, sym, ap, ◌∙◌, subst, arith}
use Rattle.c_tree.specs.declared.program.VarRef.{VarRef}
use Rattle.c_tree.specs.declared.program.VarRef.TheVariants as name
use Rattle.acc_code.specs.declared.operand.AccOperand.{AccOperand}
use Rattle.acc_code.specs.declared.operand.AccOperand.TheVariants as operand
use Rattle.acc_code.specs.AccTree.{ItemList, end, ◌▸◌, ◌⧺◌}
use Rattle.acc_select.specs.acc_operations.Constants.{place_of}
use Rattle.acc_select.specs.acc_operations.Words.{Word, load, high, loaded, sacl, lac, scratch}
use Rattle.acc_select.specs.acc_operations.declared.constant.Shape.{Shape}
use Rattle.acc_select.specs.acc_operations.declared.constant.Shape.TheVariants as shape
use Rattle.acc_select.specs.acc_operations.declared.found.Found.{Found}
use Rattle.acc_select.specs.acc_operations.declared.found.Found.TheVariants.{Fixed, Held, Loaded}
use Rattle.acc_select.specs.acc_operations.declared.high_half.HighHalf.{HighHalf}
use Rattle.acc_select.specs.acc_operations.declared.high_half.HighHalf.TheVariants.{Sign}
use Rattle.acc_select.specs.Forms as form
use Rattle.acc_select.specs.Forms.{Code, stored, through, temporary, assign_name_code, assign_at_once, assign_through, assign_at_code}
use Rattle.ir_semantics.specs.Parts.{Does, after, ◌>>=◌, give, in_order}
use Rattle.ir_semantics.specs.TreeRun.{Tree, write_name, write_word, assign_name_does, assign_at_does, as_truth, as_nothing}
use Rattle.ir_semantics.specs.AccRows.{Registers, low_half, points_at, operand_weight}
use Rattle.ir_semantics.specs.AccRun.{Machine, held, registers_become, run}
use Rattle.acc_select_proof.proofs.Straights.{found_weight, IsSteady, Straight, steady_stays, at_most}
use Rattle.acc_select_proof.proofs.Rules.{Ground, Rel, AtEnd, Keeps, seq, weaker, rel_weaker}
use Rattle.acc_select_proof.proofs.Sides.{Side, on, straight, went, paid, spared, popped, put_here}
use Rattle.acc_select_proof.proofs.Words.{has_low}
use Rattle.acc_select_proof.proofs.Loading.{LoadedFrom, word_loaded}
use Rattle.acc_select_proof.proofs.Following.{wide_sign, InAcc, Becomes, Saves, brought, saves, in_turn, so_that}
use Rattle.acc_select_proof.proofs.Valuing.{after_after, after_give, same_meaning, Val, FoundVal, WordKeeps, EffectKeeps, IsSure, IntoKeeps, PointedAt, PointKeeps, CodeKeeps, loaded_keeps, loaded_val}
use Rattle.acc_select_proof.proofs.Coding.{IsInside, word_code}
use Rattle.acc_select_proof.proofs.SelectForming.{found_wide}
use Rattle.acc_select_proof.proofs.Places.{name_writes, pointed_writes, name_light, stored_val, writes_take, Still, on_still, ShapeKeeps, waits}

name_sure : (v : VarRef) → IsSure (place_of v)
name_sure (name.Scalar k) = λ port. refl
name_sure (name.Local k) = λ port. refl
name_sure (name.Static k) = λ port. refl

module _ (n : Ground) (base : ℕ) where
  -- a word in the accumulator is found there
  pub val_found : (h : HighHalf) (ts : List ℕ) (s x : ℕ) (w : Tree) (v : Machine) → Val n base h ts s x w v → FoundVal n base (Loaded h) ts s x w v
  val_found h ts s x w v p = record { side = spared base ts s (0 + s) w v p.side (omega arith); found = p.has.has; wide = found_wide h v p.has.wide; word = p.word }

  pub loaded_from : {p : Tree → Machine → Type 0} (f : Does Tree ℕ) (xs : ItemList) (g : Found) (ts : List ℕ) (s : ℕ) → Keeps n p f xs (AtEnd (FoundVal n base g ts s)) → Keeps n p f (xs ⧺ load g) (AtEnd (Val n base (high g) ts s))
  loaded_from f xs g ts s k = same_meaning n base (λ w. after_give (f w)) (seq n k (λ x. record { by = λ w v q. loaded_val n base g ts s x w v q }))

  -- to a name
  module _ (v : VarRef) (inside : IsInside n base v) (e : Does Tree ℕ) (c : ℕ → Code) (kw : WordKeeps n base e (λ t. (c t).word)) (ki : IntoKeeps n base e (λ t m. (c t).into m)) where
    assigned_word : WordKeeps n base (assign_name_does n.context.at v e) (λ t. stored (c t).word (place_of v))
    assigned_word = record {
      by = λ ts s. record {
        by = λ u m p.
            let light = name_light n base v in
            (seq n (loaded_keeps n base e (λ t. (c t).word) kw ts (operand_weight (place_of v) + s)) (λ x. record {
              by = λ w r q.
                  rel_weaker (λ y t z. val_found (high (c (base + length ts)).word.found) ts s y t z) (write_name n.context.at v x w) (run n.context (sacl (place_of v) ▸ end) r)
                  (stored_val n base (high (c (base + length ts)).word.found) r.registers.pointed (place_of v) (write_name n.context.at v) ts s x w r (name_writes n base r.registers.pointed v inside) refl q);
            })).by (record u { work = u.work + 19 }) m (spared base ts (19 + s) (operand_weight (place_of v) + s) (record u { work = u.work + 19 }) m (paid base ts s 19 u m p) (omega (arith, light)));
      };
    }

    assigned_effect : EffectKeeps n base (as_nothing (assign_name_does n.context.at v e)) (λ t. (c t).into (place_of v))
    assigned_effect = record {
      by = λ ts s. record {
        by = λ u m p.
            let light = name_light n base v in
            (same_meaning n base (λ w. after_after (e w) (write_name n.context.at v) (λ _. give tt))
            (ki.by (place_of v) ts s (λ x. write_name n.context.at v x >>= λ _. give tt) (AtEnd (λ _ w v. Side base ts s w v)) (name_sure v)
            (λ x w r lt h. writes_take n base r.registers.pointed (place_of v) (write_name n.context.at v) ts s x w r (name_writes n base r.registers.pointed v inside) refl lt h))).by
            (record u { work = u.work + 19 }) m (spared base ts (19 + s) (operand_weight (place_of v) + s) (record u { work = u.work + 19 }) m (paid base ts s 19 u m p) (omega (arith, light)));
      };
    }

    pub assign_name_keeps : CodeKeeps n base (as_truth (assign_name_does n.context.at v e)) (assign_name_does n.context.at v e) (as_nothing (assign_name_does n.context.at v e)) (λ t. assign_name_code (place_of v) (c t))
    assign_name_keeps =
        let made = word_code n base (assign_name_does n.context.at v e) (λ t. stored (c t).word (place_of v)) assigned_word in
        record { word = made.word; branch = made.branch; effect_too = assigned_effect; into = made.into; point = made.point }

  -- a word that needs no items goes where a pointer points
  still_stored : (e : Does Tree ℕ) (f : Found) (a : ℕ) (ts : List ℕ) (s : ℕ) → Still n base e f → Keeps n (PointedAt n base ts (2 + s) a) (e >>= λ x. write_word a x) (load f ⧺ sacl operand.Pointed ▸ end) (AtEnd (Val n base (high f) ts s))
  still_stored e f a ts s k = record {
    by = λ w v p.
        on_still n base (FoundVal n base f ts (2 + s)) (AtEnd (Val n base (high f) ts s)) v (e w) (load f ⧺ sacl operand.Pointed ▸ end) (write_word a) (k.by ts (2 + s) w v p.side) (λ x t q. put x t v p.pointed q);
  }
    where
      put : (x : ℕ) (t : Tree) (v : Machine) → v.registers.pointed ≡ Some a → FoundVal n base f ts (2 + s) x t v → Rel (AtEnd (Val n base (high f) ts s)) (write_word a x t) (run n.context (load f ⧺ sacl operand.Pointed ▸ end) v)
      put x t v at q =
          let r = brought n.context f x v q.found q.wide q.side.sxm q.word in
          on n (AtEnd (Val n base (high f) ts s)) (write_word a x t) (load f) (sacl operand.Pointed ▸ end) v (found_weight f) (Becomes (InAcc (high f) x) v) r
          (stored_val n base (high f) (Some a) operand.Pointed (write_word a) ts s x t r.to (pointed_writes n base a) (r.pointed ∙ at)
          (record { side = straight base n ts (found_weight f + (2 + s)) (2 + s) (found_weight f) t v (load f) (Becomes (InAcc (high f) x) v) q.side r (omega arith); has = r.then_so.acc; word = q.word }))

  -- the accumulator goes to the address that a temporary holds
  both_there : (m : AccOperand) (a x : ℕ) (v : Machine) → IsSteady m → held n.context.at m v ≡ Some a → low_half v.registers.acc ≡ Some x → v.registers.sxm ≡ Some true → a < 65536 → x < 65536 → operand_weight m ≤ 5
      → Straight n.context (sacl (scratch 0) ▸ lac m ▸ end) v 7 (λ u. InAcc Sign a u.registers.acc × (u.scratch 0 ≡ Some x))
  both_there m a x v steady there low s la lx light =
      at_most n.context (sacl (scratch 0) ▸ lac m ▸ end) v (2 + 5) 7 (λ u. InAcc Sign a u.registers.acc × (u.scratch 0 ≡ Some x)) (λ u. InAcc Sign a u.registers.acc × (u.scratch 0 ≡ Some x)) (omega arith) (λ u h. h)
      (in_turn n.context (sacl (scratch 0) ▸ end) (lac m ▸ end) v 2 5 (Saves 0 x v) (λ u. InAcc Sign a u.registers.acc × (u.scratch 0 ≡ Some x)) (saves n.context 0 x v low s lx)
      (λ u st b. so_that n.context (lac m ▸ end) u (operand_weight m) 5 (LoadedFrom Sign a u) (λ u. InAcc Sign a u.registers.acc × (u.scratch 0 ≡ Some x)) light
      (λ y sy h. (record { has = h.acc; wide = wide_sign a y.registers.acc la h.acc }, ap (λ g. g 0) h.scratch ∙ ap (λ g. g 0) b.scratch ∙ put_here v.scratch 0 x))
      (word_loaded n.context m a u (steady_stays n.context.at m v u steady st.frame st.outside st.pointed ∙ there) st.sxm la)))

  pub point_step : (a : ℕ) (ys : ItemList) (v : Machine) → low_half v.registers.acc ≡ Some a → run n.context (form.point ▸ ys) v ≡ run n.context ys (record v { registers = record v.registers { pointed = Some a }; work = v.work + 3 })
  point_step a ys v low = ap (λ y. after (registers_become (points y) (record v { work = v.work + 3 })) (λ flow. in_order flow (run n.context ys))) low
    where
      points : Option ℕ → Option Registers
      points y = points_at y v.registers

  pub through_val : (h : HighHalf) (a : ℕ) (ts : List ℕ) (s x : ℕ) (w : Tree) (v : Machine) → a < 65536 → Val n base h (a ∷ ts) (14 + s) x w v → Rel (AtEnd (Val n base Sign ts s)) (write_word a x w) (run n.context (through (temporary (base + length ts))) v)
  through_val h a ts s x w v la p =
      let m = temporary (base + length ts) in
      let first = both_there m a x v tt p.side.temps.0 (has_low h x v.registers.acc p.word p.has.has) p.side.sxm la p.word (omega arith) in
      let u : Machine = first.to in
      let z : Machine = record u { registers = record u.registers { pointed = Some a }; work = u.work + 3 } in
      let side : Side base ts (4 + s) w z =
      went base ts (4 + (3 + s)) (4 + s) 3 w u z (spared base ts (7 + s) (4 + (3 + s)) w u (popped base a ts (7 + s) w u (straight base n (a ∷ ts) (14 + s) (7 + s) 7 w v (sacl (scratch 0) ▸ lac m ▸ end) (λ u. InAcc Sign a u.registers.acc × (u.scratch 0 ≡ Some x)) p.side first (omega arith))) (omega arith)) refl refl first.sxm (omega arith) (omega arith) in
      let second = word_loaded n.context (scratch 0) x z first.then_so.1 first.sxm p.word in
      on n (AtEnd (Val n base Sign ts s)) (write_word a x w) (sacl (scratch 0) ▸ lac m ▸ end) (form.point ▸ lac (scratch 0) ▸ sacl operand.Pointed ▸ end) v 7 (λ u. InAcc Sign a u.registers.acc × (u.scratch 0 ≡ Some x)) first
      (subst (Rel (AtEnd (Val n base Sign ts s)) (write_word a x w)) (sym (point_step a (lac (scratch 0) ▸ sacl operand.Pointed ▸ end) u (has_low Sign a u.registers.acc la first.then_so.0.has)))
      (on n (AtEnd (Val n base Sign ts s)) (write_word a x w) (lac (scratch 0) ▸ end) (sacl operand.Pointed ▸ end) z 2 (LoadedFrom Sign x z) second
      (stored_val n base Sign (Some a) operand.Pointed (write_word a) ts s x w second.to (pointed_writes n base a) second.pointed
      (record { side = straight base n ts (4 + s) (2 + s) 2 w z (lac (scratch 0) ▸ end) (LoadedFrom Sign x z) side second (omega arith); has = record { has = second.then_so.acc; wide = wide_sign x second.to.registers.acc p.word second.then_so.acc }; word = p.word }))))

  module _ (p e : Does Tree ℕ) (cp ce : ℕ → Code) (kp : PointKeeps n base p (λ t. (cp t).point)) (ip : IntoKeeps n base p (λ t m. (cp t).into m)) (ke : WordKeeps n base e (λ t. (ce t).word)) where
    -- the value needs no items
    stored_at : (f : Found) → Still n base e f → (w : Word) → w ≡ record { items = end; found = f } → (a : ℕ) (ts : List ℕ) (s : ℕ) → Keeps n (PointedAt n base ts (2 + s) a) (e >>= λ x. write_word a x) (loaded w ⧺ sacl operand.Pointed ▸ end) (AtEnd (Val n base (high w.found) ts s))
    stored_at f k w is a ts s = subst (λ (y : Word). Keeps n (PointedAt n base ts (2 + s) a) (e >>= λ x. write_word a x) (loaded y ⧺ sacl operand.Pointed ▸ end) (AtEnd (Val n base (high y.found) ts s))) (sym is) (still_stored e f a ts s k)

    at_once : (f : Found) → Still n base e f → ((t : ℕ) → (ce t).word ≡ record { items = end; found = f }) → WordKeeps n base (assign_at_does p e) (λ t. assign_at_once (cp t) (ce t))
    at_once f k is = record {
      by = λ ts s. record {
        by = λ u m h.
            let w = (ce (base + length ts)).word in
            (weaker n (λ y t z. val_found (high w.found) ts s y t z)
            (seq n (kp.by ts (2 + s)) (λ a. stored_at f k w (is (base + length ts)) a ts s))).by
            (record u { work = u.work + 19 }) m (spared base ts (19 + s) (3 + (2 + s)) (record u { work = u.work + 19 }) m (paid base ts s 19 u m h) (omega arith));
      };
    }

    -- it is computed while the address waits
    value_behind : (a : ℕ) (ts : List ℕ) (s : ℕ) → a < 65536 → Keeps n (Side base (a ∷ ts) (14 + s)) (e >>= λ x. write_word a x) (loaded (ce (suc (base + length ts))).word ⧺ through (temporary (base + length ts))) (AtEnd (Val n base Sign ts s))
    value_behind a ts s la =
        let same : base + length (a ∷ ts) ≡ suc (base + length ts) = omega arith in
        subst (λ t. Keeps n (Side base (a ∷ ts) (14 + s)) (e >>= λ x. write_word a x) (loaded (ce t).word ⧺ through (temporary (base + length ts))) (AtEnd (Val n base Sign ts s))) same
        (seq n (loaded_keeps n base e (λ t. (ce t).word) ke (a ∷ ts) (14 + s)) (λ x. record { by = λ w v q. through_val (high (ce (base + length (a ∷ ts))).word.found) a ts s x w v la q }))

    by_temporary : WordKeeps n base (assign_at_does p e) (assign_through cp ce)
    by_temporary = record {
      by = λ ts s. record {
        by = λ u m h.
            (weaker n (λ y t z. val_found Sign ts s y t z)
            (seq n (waits n base p (λ t. (cp t).into) ip ts (14 + s)) (λ a. record { by = λ w v q. (value_behind a ts s q.1).by w v q.0 }))).by
            (record u { work = u.work + 19 }) m (spared base ts (19 + s) (5 + (14 + s)) (record u { work = u.work + 19 }) m (paid base ts s 19 u m h) (omega arith));
      };
    }

    assign_at_word : (r : Shape) → ShapeKeeps n base r e (λ t. (ce t).word) → WordKeeps n base (assign_at_does p e) (λ t. (assign_at_code r cp ce t).word)
    assign_at_word (shape.Constant k) h = at_once (Fixed k) h.0 h.2
    assign_at_word (shape.Named m) h = at_once (Held m) h.0 h.3
    assign_at_word shape.Computed h = by_temporary

    pub assign_at_keeps : (r : Shape) → ShapeKeeps n base r e (λ t. (ce t).word) → CodeKeeps n base (as_truth (assign_at_does p e)) (assign_at_does p e) (as_nothing (assign_at_does p e)) (assign_at_code r cp ce)
    assign_at_keeps r h = word_code n base (assign_at_does p e) (λ t. (assign_at_code r cp ce t).word) (assign_at_word r h)
