-- The code of assignments with an operation: the old word is read first, and the new one stored behind the operation.
use Rattle.std.proofs.Common.{◌≡◌, ℕ, suc, ◌+◌, ◌*◌, ◌^◌, ◌<◌, ◌≤◌, List, ◌∷◌, length, Option, Some, refl, sym, ap, ◌∙◌, subst, arith}
use Rattle.word_base.specs.Words.{Calc, Good, Bad}
use Rattle.c_tree.specs.declared.program.VarRef.{VarRef}
use Rattle.acc_code.specs.declared.operand.AccOperand.{AccOperand}
use Rattle.acc_code.specs.declared.operand.AccOperand.TheVariants as operand
use Rattle.acc_code.specs.AccTree.{ItemList, end, ◌▸◌, ◌⧺◌}
use Rattle.acc_select.proofs.acc_operations.ItemLemmas.{items_associate}
use Rattle.acc_select.specs.acc_operations.Arithmetic.{with_place, with_constant}
use Rattle.acc_select.specs.acc_operations.Constants.{place_of}
use Rattle.acc_select.specs.acc_operations.Words.{load, high, loaded, sacl}
use Rattle.acc_select.specs.acc_operations.Words as words
use Rattle.acc_select.specs.acc_operations.declared.constant.Constant.{Constant}
use Rattle.acc_select.specs.acc_operations.declared.constant.Shape.{Shape}
use Rattle.acc_select.specs.acc_operations.declared.constant.Shape.TheVariants as shape
use Rattle.acc_select.specs.acc_operations.declared.found.Found.{Found}
use Rattle.acc_select.specs.acc_operations.declared.found.Found.TheVariants.{Fixed, Held}
use Rattle.acc_select.specs.acc_operations.declared.high_half.HighHalf.{HighHalf}
use Rattle.acc_select.specs.acc_operations.declared.high_half.HighHalf.TheVariants.{Sign}
use Rattle.acc_select.specs.acc_operations.declared.operation.Arithmetic.{Arithmetic}
use Rattle.acc_select.specs.acc_operations.declared.operation.Operation.TheVariants as operation
use Rattle.acc_select.specs.Forms as form
use Rattle.acc_select.specs.Forms.{Code, of_word, updated, through, temporary, update_name_code, update_at_code, update_at_once, update_through}
use Rattle.c25_isa.specs.Step.{wrap16}
use Rattle.ir_semantics.specs.Parts.{Gives, Does, after, ◌>>=◌, give, Next, in_order}
use Rattle.ir_semantics.specs.Outside.{with_scalar}
use Rattle.ir_semantics.specs.TreeRun.{Tree, calc, read_name, write_name, read_word, write_word, update_name_does, update_at_does, as_truth, as_nothing}
use Rattle.ir_semantics.specs.AccRows.{low_half, low_stored, operand_weight}
use Rattle.ir_semantics.specs.AccRun.{Machine, store, run}
use Rattle.acc_select_proof.proofs.Straights.{found_weight, IsSteady, Straight}
use Rattle.acc_select_proof.proofs.Rules.{Ground, Rel, AtEnd, Keeps, seq, weaker}
use Rattle.acc_select_proof.proofs.Sides.{Side, on, straight, went, paid, spared, pushed}
use Rattle.acc_select_proof.proofs.Words.{has_low}
use Rattle.acc_select_proof.proofs.Following.{InAcc, Becomes, brought}
use Rattle.acc_select_proof.proofs.Meant.{calc_of}
use Rattle.acc_select_proof.proofs.SelectOperating.{Finds, with_place_keeps, with_constant_keeps}
use Rattle.acc_select_proof.proofs.Valuing.{after_after, after_same, after_give, fails, arrives, same_meaning, Val, FoundVal, WordKeeps, PointedAt, PointKeeps, CodeKeeps, loaded_keeps, sacl_takes}
use Rattle.acc_select_proof.proofs.Coding.{IsInside, name_read, pointed_read, word_code}
use Rattle.acc_select_proof.proofs.Places.{name_writes, pointed_writes, name_light, stored_val, Still, still_by, on_still, ShapeKeeps}
use Rattle.acc_select_proof.proofs.Operands.{Operands, found_light, computed_keeps}
use Rattle.acc_select_proof.proofs.Assigning.{val_found, loaded_from, point_step, through_val}

-- two values, what is made of them, and what follows
pub both_after : {A B : Type 0} (va vb : Does Tree ℕ) (k : ℕ → ℕ → Does Tree A) (g : A → Does Tree B) (w : Tree) → after (after (va w) (λ x. vb >>= λ y. k x y)) g ≡ after (va w) (λ x. vb >>= λ y. k x y >>= g)
both_after va vb k g w =
    sym (after_after (va w) (λ x. vb >>= λ y. k x y) g)
    ∙ after_same (va w) (λ x u. after (after (vb u) (λ y. k x y)) g) (λ x. vb >>= λ y. k x y >>= g) (λ x u. sym (after_after (vb u) (λ y. k x y) g))

module _ (n : Ground) (base : ℕ) where
  pub sacl_step : (k x : ℕ) (ys : ItemList) (v : Machine) → low_half v.registers.acc ≡ Some x → x < 65536 → run n.context (sacl (operand.Scalar k) ▸ ys) v ≡ run n.context ys (record v { frame = with_scalar k x v.frame; work = v.work + 5 })
  sacl_step k x ys v low lt =
      let word : wrap16 (x * 2 ^ 0) ≡ x = omega (arith, lt) in
      ap (λ y. after (store n.context.at (operand.Scalar k) y (record v { work = v.work + 5 })) (λ flow. in_order flow (run n.context ys))) (ap (λ y. low_stored y 0) low ∙ ap Some word)

  -- a word that was found waits
  waits_from : {p : Tree → Machine → Type 0} (f : Does Tree ℕ) (xs : ItemList) (g : Found) (ts : List ℕ) (s : ℕ) → Keeps n p f xs (AtEnd (FoundVal n base g ts (5 + s))) → Keeps n p f ((xs ⧺ load g) ⧺ sacl (temporary (base + length ts)) ▸ end) (AtEnd (λ x w v. Side base (x ∷ ts) s w v × (x < 65536)))
  waits_from f xs g ts s k =
      same_meaning n base (λ w. after_give (f w))
      (seq n (loaded_from n base f xs g ts (5 + s) k) (λ x. record {
        by = λ w v q. sacl_takes n base (high g) (temporary (base + length ts)) ts s x give (AtEnd (λ x w v. Side base (x ∷ ts) s w v × (x < 65536))) (λ y t u lt h. (pushed base ts s y t u h, lt)) w v q;
      }))

  -- to a name
  module _ (o : Arithmetic) (v : VarRef) (inside : IsInside n base v) (e : Does Tree ℕ) (r : Shape) (ce : ℕ → Code) (ke : WordKeeps n base e (λ t. (ce t).word)) (he : ShapeKeeps n base r e (λ t. (ce t).word)) where
    name_operands : Operands n base (λ ts s. Side base ts (5 + s)) (read_name n.context.at v) e shape.Computed r (λ t. of_word (words.held end (place_of v))) ce
    name_operands = record {
      sides = λ ts s w m h. spared base ts (5 + s) s w m h (omega arith);
      left = tt;
      right = he;
      left_word = λ ts s. name_read n base v inside ts s;
      left_waits = λ ts s. waits_from (read_name n.context.at v) end (Held (place_of v)) ts s (name_read n base v inside ts (5 + s));
      right_word = ke;
    }

    updated_name : WordKeeps n base (update_name_does n.context.at (calc_of o) v e) (λ t. (update_name_code (operation.Word o) r (place_of v) ce t).word)
    updated_name = record {
      by = λ ts s. record {
        by = λ u m p.
            let light = name_light n base v in
            let j = operand_weight (place_of v) + s in
            let w = updated (operation.Word o) r (place_of v) ce (base + length ts) in
            (weaker n (λ y t z. val_found n base (high w.found) ts s y t z)
            (same_meaning n base (both_after (read_name n.context.at v) e (λ x y. calc (calc_of o x y)) (write_name n.context.at v))
            (seq n (loaded_from n base (read_name n.context.at v >>= λ x. e >>= λ y. calc (calc_of o x y)) w.items w.found ts j (computed_keeps n base (λ ts s. Side base ts (5 + s)) (read_name n.context.at v) e (λ t. of_word (words.held end (place_of v))) ce o shape.Computed r name_operands ts j)) (λ x. record {
              by = λ t z q. stored_val n base (high w.found) z.registers.pointed (place_of v) (write_name n.context.at v) ts s x t z (name_writes n base z.registers.pointed v inside) refl q;
            })))).by
            (record u { work = u.work + 48 }) m (spared base ts (48 + s) (5 + (24 + j)) (record u { work = u.work + 48 }) m (paid base ts s 48 u m p) (omega (arith, light)));
      };
    }

    pub update_name_keeps : CodeKeeps n base (as_truth (update_name_does n.context.at (calc_of o) v e)) (update_name_does n.context.at (calc_of o) v e) (as_nothing (update_name_does n.context.at (calc_of o) v e)) (update_name_code (operation.Word o) r (place_of v) ce)
    update_name_keeps = word_code n base (update_name_does n.context.at (calc_of o) v e) (λ t. (update_name_code (operation.Word o) r (place_of v) ce t).word) updated_name

  -- a value that a calculation has, or none; what is pointed to stays
  pub record KeptVal (f : Found) (p : Option ℕ) (ts : List ℕ) (s x : ℕ) (w : Tree) (v : Machine) : Type 0 where
    pub val : FoundVal n base f ts s x w v
    pub pointed : v.registers.pointed ≡ p

  calc_kept : (r : Calc) (g : Found) (ts : List ℕ) (s : ℕ) (w : Tree) (v : Machine) (xs : ItemList) (k : ℕ) (all : ℕ) (p : Option ℕ) → v.registers.pointed ≡ p → Side base ts all w v → ((y : ℕ) → r ≡ Good y → Straight n.context xs v k (Finds n.context g y) × (y < 65536)) → k + (found_weight g + s) ≤ all
      → Rel (AtEnd (KeptVal g p ts s)) (calc r w) (run n.context xs v)
  calc_kept (Bad kind) g ts s w v xs k all p at h by le = fails n base (AtEnd (KeptVal g p ts s)) xs w v h.outside
  calc_kept (Good y) g ts s w v xs k all p at h by le =
      let r = by y refl in
      arrives n base (KeptVal g p ts s) y w v xs k (Finds n.context g y) r.0
      (record {
        val = record { side = straight base n ts all (found_weight g + s) k w v xs (Finds n.context g y) h r.0 le; found = r.0.then_so.0; wide = r.0.then_so.1; word = r.1 };
        pointed = r.0.pointed ∙ at;
      })

  kept_loaded : {p : Tree → Machine → Type 0} (f : Does Tree ℕ) (xs : ItemList) (g : Found) (a : ℕ) (ts : List ℕ) (s : ℕ) → Keeps n p f xs (AtEnd (KeptVal g (Some a) ts (2 + s))) → Keeps n p (f >>= write_word a) ((xs ⧺ load g) ⧺ sacl operand.Pointed ▸ end) (AtEnd (Val n base (high g) ts s))
  kept_loaded {p = p} f xs g a ts s k =
      subst (λ ys. Keeps n p (f >>= write_word a) ys (AtEnd (Val n base (high g) ts s))) (sym (items_associate xs (load g) (sacl operand.Pointed ▸ end)))
      (seq n k (λ x. record { by = λ w v q. put x w v q.pointed q.val }))
    where
      put : (x : ℕ) (t : Tree) (v : Machine) → v.registers.pointed ≡ Some a → FoundVal n base g ts (2 + s) x t v → Rel (AtEnd (Val n base (high g) ts s)) (write_word a x t) (run n.context (load g ⧺ sacl operand.Pointed ▸ end) v)
      put x t v at q =
          let r = brought n.context g x v q.found q.wide q.side.sxm q.word in
          on n (AtEnd (Val n base (high g) ts s)) (write_word a x t) (load g) (sacl operand.Pointed ▸ end) v (found_weight g) (Becomes (InAcc (high g) x) v) r
          (stored_val n base (high g) (Some a) operand.Pointed (write_word a) ts s x t r.to (pointed_writes n base a) (r.pointed ∙ at)
          (record { side = straight base n ts (found_weight g + (2 + s)) (2 + s) (found_weight g) t v (load g) (Becomes (InAcc (high g) x) v) q.side r (omega arith); has = r.then_so.acc; word = q.word }))

  -- where a pointer points
  module _ (o : Arithmetic) (p e : Does Tree ℕ) (cp ce : ℕ → Code) (kw : WordKeeps n base p (λ t. (cp t).word)) (kp : PointKeeps n base p (λ t. (cp t).point)) (ke : WordKeeps n base e (λ t. (ce t).word)) where
    abbrev new_word : ℕ → Does Tree ℕ
    new_word a = read_word a >>= λ x. e >>= λ y. calc (calc_of o x y)

    old_there : (a : ℕ) (ts : List ℕ) (s : ℕ) (w : Tree) (v : Machine) → PointedAt n base ts (2 + s) a w v → Rel (AtEnd (λ x t u. FoundVal n base (Held operand.Pointed) ts s x t u × (u ≡ v))) (read_word a w) (Gives Next v)
    old_there a ts s w v h = still_by n base (Held operand.Pointed) ts s v (read_word a w) ((pointed_read n base a ts s).by w v h)

    by_place : (m : AccOperand) → Still n base e (Held m) → IsSteady m → (a : ℕ) (ts : List ℕ) (s : ℕ) → Keeps n (PointedAt n base ts (2 + (24 + s)) a) (new_word a) (with_place o (Held operand.Pointed) m).items (AtEnd (KeptVal (with_place o (Held operand.Pointed) m).found (Some a) ts s))
    by_place m k steady a ts s = record {
      by = λ w v h.
          let g = (with_place o (Held operand.Pointed) m).found in
          let light = found_light g in
          on_still n base (FoundVal n base (Held operand.Pointed) ts (24 + s)) (AtEnd (KeptVal g (Some a) ts s)) v (read_word a w) (with_place o (Held operand.Pointed) m).items (λ x. e >>= λ y. calc (calc_of o x y)) (old_there a ts (24 + s) w v h)
          (λ x t q. on_still n base (FoundVal n base (Held m) ts (2 + (24 + s))) (AtEnd (KeptVal g (Some a) ts s)) v (e t) (with_place o (Held operand.Pointed) m).items (λ y. calc (calc_of o x y)) (k.by ts (2 + (24 + s)) t v q.side)
          (λ y r z. calc_kept (calc_of o x y) g ts s r v (with_place o (Held operand.Pointed) m).items (2 + (operand_weight m + 12)) (operand_weight m + (2 + (24 + s))) (Some a) h.pointed z.side
          (λ i good. with_place_keeps n.context o (Held operand.Pointed) m x y i v steady q.found q.wide z.found z.side.sxm q.word z.word good) (omega (arith, light))));
    }

    by_constant : (c : Constant) → ShapeKeeps n base (shape.Constant c) e (λ t. (ce t).word) → (a : ℕ) (ts : List ℕ) (s : ℕ) → Keeps n (PointedAt n base ts (2 + (24 + s)) a) (new_word a) (with_constant o (Held operand.Pointed) c).items (AtEnd (KeptVal (with_constant o (Held operand.Pointed) c).found (Some a) ts s))
    by_constant c k a ts s = record {
      by = λ w v h.
          let g = (with_constant o (Held operand.Pointed) c).found in
          let light = found_light g in
          on_still n base (FoundVal n base (Held operand.Pointed) ts (24 + s)) (AtEnd (KeptVal g (Some a) ts s)) v (read_word a w) (with_constant o (Held operand.Pointed) c).items (λ x. e >>= λ y. calc (calc_of o x y)) (old_there a ts (24 + s) w v h)
          (λ x t q. on_still n base (FoundVal n base (Fixed c) ts (2 + (24 + s))) (AtEnd (KeptVal g (Some a) ts s)) v (e t) (with_constant o (Held operand.Pointed) c).items (λ y. calc (calc_of o x y)) (k.0.by ts (2 + (24 + s)) t v q.side)
          (λ y r z. calc_kept (calc_of o x y) g ts s r v (with_constant o (Held operand.Pointed) c).items (2 + 17) (2 + (2 + (24 + s))) (Some a) h.pointed z.side
          (λ i good. with_constant_keeps n.context o (Held operand.Pointed) c x y i v q.found q.wide z.found (k.1 y z.found) z.side.sxm q.word z.word good) (omega (arith, light))));
    }

    at_once_by : (r : Shape) → ((a : ℕ) (ts : List ℕ) (s : ℕ) → Keeps n (PointedAt n base ts (2 + (24 + s)) a) (new_word a) (updated (operation.Word o) r operand.Pointed ce (base + length ts)).items (AtEnd (KeptVal (updated (operation.Word o) r operand.Pointed ce (base + length ts)).found (Some a) ts s)))
        → WordKeeps n base (update_at_does (calc_of o) p e) (update_at_once (operation.Word o) r cp ce)
    at_once_by r k = record {
      by = λ ts s. record {
        by = λ u m h.
            let w = updated (operation.Word o) r operand.Pointed ce (base + length ts) in
            (weaker n (λ y t z. val_found n base (high w.found) ts s y t z)
            (seq n (kp.by ts (2 + (24 + (2 + s)))) (λ a.
            same_meaning n base (both_after (read_word a) e (λ x y. calc (calc_of o x y)) (write_word a))
            (kept_loaded (new_word a) w.items w.found a ts s (k a ts (2 + s)))))).by
            (record u { work = u.work + 48 }) m (spared base ts (48 + s) (3 + (2 + (24 + (2 + s)))) (record u { work = u.work + 48 }) m (paid base ts s 48 u m h) (omega arith));
      };
    }

    pointed_operands : (a : ℕ) → Operands n base (λ ts s. PointedAt n base ts (2 + s) a) (read_word a) e shape.Computed shape.Computed (λ t. of_word (words.held end operand.Pointed)) ce
    pointed_operands a = record {
      sides = λ ts s w m h. spared base ts (2 + s) s w m h.side (omega arith);
      left = tt;
      right = tt;
      left_word = λ ts s. pointed_read n base a ts s;
      left_waits = λ ts s. waits_from (read_word a) end (Held operand.Pointed) ts s (pointed_read n base a ts (5 + s));
      right_word = ke;
    }

    -- behind the word of the pointer
    behind_pointer : (a : ℕ) (ts : List ℕ) (s : ℕ) → a < 65536 → Keeps n (PointedAt n base (a ∷ ts) (2 + (24 + (14 + s))) a) (new_word a >>= write_word a) (loaded (updated (operation.Word o) shape.Computed operand.Pointed ce (suc (base + length ts))) ⧺ through (temporary (base + length ts))) (AtEnd (Val n base Sign ts s))
    behind_pointer a ts s la =
        let same : base + length (a ∷ ts) ≡ suc (base + length ts) = omega arith in
        let w = updated (operation.Word o) shape.Computed operand.Pointed ce (base + length (a ∷ ts)) in
        subst (λ t. Keeps n (PointedAt n base (a ∷ ts) (2 + (24 + (14 + s))) a) (new_word a >>= write_word a) (loaded (updated (operation.Word o) shape.Computed operand.Pointed ce t) ⧺ through (temporary (base + length ts))) (AtEnd (Val n base Sign ts s))) same
        (seq n (loaded_from n base (new_word a) w.items w.found (a ∷ ts) (14 + s) (computed_keeps n base (λ ts s. PointedAt n base ts (2 + s) a) (read_word a) e (λ t. of_word (words.held end operand.Pointed)) ce o shape.Computed shape.Computed (pointed_operands a) (a ∷ ts) (14 + s)))
        (λ x. record { by = λ t v q. through_val n base (high w.found) a ts s x t v la q }))

    pointer_waits : (h : HighHalf) (a : ℕ) (ts : List ℕ) (s : ℕ) (w : Tree) (v : Machine) → Val n base h ts (48 + s) a w v
        → Rel (AtEnd (Val n base Sign ts s)) (after (new_word a w) (write_word a)) (run n.context (sacl (temporary (base + length ts)) ▸ form.point ▸ loaded (updated (operation.Word o) shape.Computed operand.Pointed ce (suc (base + length ts))) ⧺ through (temporary (base + length ts))) v)
    pointer_waits h a ts s w v q =
        let t = base + length ts in
        let rest = loaded (updated (operation.Word o) shape.Computed operand.Pointed ce (suc t)) ⧺ through (temporary t) in
        let low = has_low h a v.registers.acc q.word q.has.has in
        let u : Machine = record v { frame = with_scalar t a v.frame; work = v.work + 5 } in
        let z : Machine = record u { registers = record u.registers { pointed = Some a }; work = u.work + 3 } in
        let spent : Side base ts (43 + s) w (record v { work = v.work + 5 }) = went base ts (48 + s) (43 + s) 5 w v (record v { work = v.work + 5 }) q.side refl refl q.side.sxm (omega arith) (omega arith) in
        let held_now : Side base (a ∷ ts) (43 + s) w u = pushed base ts (43 + s) a w (record v { work = v.work + 5 }) spent in
        let pointing : Side base (a ∷ ts) (2 + (24 + (14 + s))) w z = went base (a ∷ ts) (43 + s) (2 + (24 + (14 + s))) 3 w u z held_now refl refl q.side.sxm (omega arith) (omega arith) in
        subst (Rel (AtEnd (Val n base Sign ts s)) (after (new_word a w) (write_word a))) (sym (sacl_step t a (form.point ▸ rest) v low q.word))
        (subst (Rel (AtEnd (Val n base Sign ts s)) (after (new_word a w) (write_word a))) (sym (point_step n base a rest u low))
        ((behind_pointer a ts s q.word).by w z (record { side = pointing; pointed = refl; word = q.word })))

    through_temporary : WordKeeps n base (update_at_does (calc_of o) p e) (update_through (operation.Word o) shape.Computed cp ce)
    through_temporary = record {
      by = λ ts s. record {
        by = λ u m h.
            (weaker n (λ y t z. val_found n base Sign ts s y t z)
            (seq n (loaded_keeps n base p (λ t. (cp t).word) kw ts (48 + s)) (λ a.
            same_meaning n base (both_after (read_word a) e (λ x y. calc (calc_of o x y)) (write_word a))
            (record { by = λ w v q. pointer_waits (high (cp (base + length ts)).word.found) a ts s w v q })))).by
            (record u { work = u.work + 48 }) m (paid base ts s 48 u m h);
      };
    }

    update_at_word : (r : Shape) → ShapeKeeps n base r e (λ t. (ce t).word) → WordKeeps n base (update_at_does (calc_of o) p e) (λ t. (update_at_code (operation.Word o) r cp ce t).word)
    update_at_word (shape.Constant c) k = at_once_by (shape.Constant c) (by_constant c k)
    update_at_word (shape.Named m) k = at_once_by (shape.Named m) (by_place m k.0 k.1)
    update_at_word shape.Computed k = through_temporary

    pub update_at_keeps : (r : Shape) → ShapeKeeps n base r e (λ t. (ce t).word) → CodeKeeps n base (as_truth (update_at_does (calc_of o) p e)) (update_at_does (calc_of o) p e) (as_nothing (update_at_does (calc_of o) p e)) (update_at_code (operation.Word o) r cp ce)
    update_at_keeps r k = word_code n base (update_at_does (calc_of o) p e) (λ t. (update_at_code (operation.Word o) r cp ce t).word) (update_at_word r k)
