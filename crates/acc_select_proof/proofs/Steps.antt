-- The code of `++` and `--`, on a name and on what is pointed to.
use Rattle.std.proofs.Common.{◌≡◌, ℕ, ◌+◌, ◌<◌, Bool, true, List, length, Option, Some, refl, sym, ap, ◌∙◌, subst, arith}
use Rattle.word_base.specs.Words.{Calc, Good, Bad}
use Rattle.c_tree.specs.declared.program.VarRef.{VarRef}
use Rattle.acc_code.specs.declared.operand.AccOperand.{AccOperand}
use Rattle.acc_code.specs.declared.operand.AccOperand.TheVariants as operand
use Rattle.acc_code.specs.AccTree.{ItemList, end, ◌▸◌, ◌⧺◌}
use Rattle.acc_select.proofs.acc_operations.ItemLemmas.{items_associate}
use Rattle.acc_select.specs.acc_operations.Constants.{place_of}
use Rattle.acc_select.specs.acc_operations.Words.{lac, sacl}
use Rattle.acc_select.specs.acc_operations.declared.found.Found.TheVariants.{Held, Loaded}
use Rattle.acc_select.specs.acc_operations.declared.high_half.HighHalf.TheVariants.{Any, Sign}
use Rattle.acc_select.specs.Forms as form
use Rattle.acc_select.specs.Forms.{Code, step_row, undo_row, step_before_code, step_after_code, step_name_after_code}
use Rattle.ir_semantics.specs.Parts.{Gives, Does, after, ◌>>=◌, give, Next}
use Rattle.ir_semantics.specs.TreeRun.{Tree, calc, stepped, read_name, write_name, read_word, write_word, step_name_does, step_at_does, before, behind, as_truth, as_nothing}
use Rattle.ir_semantics.specs.AccRows.{Registers, operand_weight}
use Rattle.ir_semantics.specs.AccRun.{Machine, held, run}
use Rattle.acc_select_proof.proofs.Straights.{Straight}
use Rattle.acc_select_proof.proofs.Rules.{Ground, Rel, AtEnd, Keeps, seq, weaker, rel_weaker, followed}
use Rattle.acc_select_proof.proofs.Sides.{Side, on, straight, went, paid, spared}
use Rattle.acc_select_proof.proofs.Words.{has_low}
use Rattle.acc_select_proof.proofs.Loading.{LoadedFrom, word_loaded}
use Rattle.acc_select_proof.proofs.Following.{InAcc, in_turn}
use Rattle.acc_select_proof.proofs.Stepping.{step-lt, step_left, step_undone}
use Rattle.acc_select_proof.proofs.Valuing.{after_after, fails, arrives, same_meaning, Val, FoundVal, WordKeeps, EffectKeeps, PointedAt, PointKeeps, CodeKeeps}
use Rattle.acc_select_proof.proofs.Coding.{IsInside, name_read, pointed_read, word_code}
use Rattle.acc_select_proof.proofs.Places.{Writes, name_writes, pointed_writes, name_light, stored_then, still_by}
use Rattle.acc_select_proof.proofs.Assigning.{val_found, point_step}

module _ (n : Ground) (base : ℕ) where
  -- the word before the step and the one behind it, which the accumulator holds
  pub record StepVal (up : Bool) (ts : List ℕ) (s : ℕ) (d : ℕ × ℕ) (w : Tree) (v : Machine) : Type 0 where
    pub val : Val n base Any ts s d.1 w v
    pub step : stepped up d.0 ≡ Good d.1
    pub before : d.0 < 65536

  one_step : (up : Bool) (m : AccOperand) (x z : ℕ) (v : Machine) → held n.context.at m v ≡ Some x → v.registers.sxm ≡ Some true → x < 65536 → stepped up x ≡ Good z → Straight n.context (lac m ▸ step_row up ▸ end) v (operand_weight m + 2) (λ u. InAcc Any z u.registers.acc)
  one_step up m x z v there s lt e =
      in_turn n.context (lac m ▸ end) (step_row up ▸ end) v (operand_weight m) 2 (LoadedFrom Sign x v) (λ u. InAcc Any z u.registers.acc) (word_loaded n.context m x v there s lt)
      (λ u st b. step_left n.context up x z u (has_low Sign x u.registers.acc lt b.acc) st.sxm lt e)

  stepped_by : (up : Bool) (p : Option ℕ) (m : AccOperand) (g : ℕ → Does Tree ℕ) (ts : List ℕ) (s x : ℕ) (r : Calc) (w : Tree) (v : Machine) → stepped up x ≡ r → Writes n base p m g → v.registers.pointed ≡ p → FoundVal n base (Held m) ts (2 + (operand_weight m + s)) x w v
      → Rel (AtEnd (StepVal up ts s)) (after (calc r w) (λ z. g z >>= λ _. give (x, z))) (run n.context (form.stepped up m) v)
  stepped_by up p m g ts s x (Bad kind) w v e writes at q = fails n base (AtEnd (StepVal up ts s)) (form.stepped up m) w v q.side.outside
  stepped_by up p m g ts s x (Good z) w v e writes at q =
      let r = one_step up m x z v q.found q.side.sxm q.word e in
      on n (AtEnd (StepVal up ts s)) (after (g z w) (λ _. give (x, z))) (lac m ▸ step_row up ▸ end) (sacl m ▸ end) v (operand_weight m + 2) (λ u. InAcc Any z u.registers.acc) r
      (stored_then n base (StepVal up ts s) (x, z) Any p m g ts s z w r.to writes (r.pointed ∙ at)
      (record { side = straight base n ts (operand_weight m + (2 + (operand_weight m + s))) (operand_weight m + s) (operand_weight m + 2) w v (lac m ▸ step_row up ▸ end) (λ u. InAcc Any z u.registers.acc) q.side r (omega arith); has = r.then_so; word = step-lt up x z q.word e })
      (λ t u k same. record { val = k; step = e; before = q.word }))

  -- from what a step does to the code of its two forms
  module _ (up : Bool) (m : AccOperand) (d : Does Tree (ℕ × ℕ)) (xs : ℕ → ItemList) (k : (ts : List ℕ) (s : ℕ) → Keeps n (Side base ts s) d (xs (base + length ts) ⧺ form.stepped up m) (AtEnd (StepVal up ts (2 + s)))) where
    undone : (ts : List ℕ) (s : ℕ) (e : ℕ × ℕ) (w : Tree) (v : Machine) → StepVal up ts (2 + s) e w v → Rel (AtEnd (Val n base Any ts s)) (before e w) (run n.context (undo_row up ▸ end) v)
    undone ts s e w v q =
        let r = step_undone n.context up e.0 e.1 v (has_low Any e.1 v.registers.acc q.val.word q.val.has.has) q.val.side.sxm q.before q.step in
        arrives n base (Val n base Any ts s) e.0 w v (undo_row up ▸ end) 2 (λ u. InAcc Any e.0 u.registers.acc) r
        (record { side = straight base n ts (2 + s) s 2 w v (undo_row up ▸ end) (λ u. InAcc Any e.0 u.registers.acc) q.val.side r (omega arith); has = r.then_so; word = q.before })

    before_word : WordKeeps n base (d >>= behind) (λ t. (step_before_code up (xs t) m).word)
    before_word = record {
      by = λ ts s. followed n behind (AtEnd (FoundVal n base (Loaded Any) ts s)) (k ts s) (λ e w v q. val_found n base Any ts s e.1 w v (record { side = spared base ts (2 + s) s w v q.val.side (omega arith); has = q.val.has; word = q.val.word }));
    }

    after_word : WordKeeps n base (d >>= before) (λ t. (step_after_code up (xs t) m).word)
    after_word = record {
      by = λ ts s.
          subst (λ ys. Keeps n (Side base ts s) (d >>= before) ys (AtEnd (FoundVal n base (Loaded Any) ts s))) (items_associate (xs (base + length ts)) (form.stepped up m) (undo_row up ▸ end))
          (weaker n (λ y t z. val_found n base Any ts s y t z) (seq n (k ts s) (λ e. record { by = λ w v q. undone ts s e w v q })));
    }

    step_effect : EffectKeeps n base (as_nothing d) (λ t. xs t ⧺ form.stepped up m)
    step_effect = record { by = λ ts s. followed n (λ _. give tt) (AtEnd (λ _ w v. Side base ts s w v)) (k ts s) (λ e w v q. spared base ts (2 + s) s w v q.val.side (omega arith)) }

    pub step_after_keeps : CodeKeeps n base (as_truth (d >>= before)) (d >>= before) (as_nothing d) (λ t. step_after_code up (xs t) m)
    step_after_keeps =
        let made = word_code n base (d >>= before) (λ t. (step_after_code up (xs t) m).word) after_word in
        record { word = made.word; branch = made.branch; effect_too = step_effect; into = made.into; point = made.point }

    pub step_before_keeps : CodeKeeps n base (as_truth (d >>= behind)) (d >>= behind) (as_nothing d) (λ t. step_before_code up (xs t) m)
    step_before_keeps =
        let made = word_code n base (d >>= behind) (λ t. (step_before_code up (xs t) m).word) before_word in
        record {
          word = made.word;
          branch = made.branch;
          effect_too = record { by = λ ts s. same_meaning n base (λ w. sym (after_after (d w) behind (λ _. give tt))) (made.effect_too.by ts s) };
          into = made.into;
          point = made.point;
        }

  -- of a name
  module _ (up : Bool) (v : VarRef) (inside : IsInside n base v) where
    name_stepped : (ts : List ℕ) (s : ℕ) → Keeps n (Side base ts s) (step_name_does n.context.at up v) (end ⧺ form.stepped up (place_of v)) (AtEnd (StepVal up ts (2 + s)))
    name_stepped ts s = record {
      by = λ u m h.
          let light = name_light n base v in
          (seq n {ys = form.stepped up (place_of v)} (name_read n base v inside ts (2 + (operand_weight (place_of v) + (2 + s)))) (λ x. record {
            by = λ w r q. stepped_by up r.registers.pointed (place_of v) (write_name n.context.at v) ts (2 + s) x (stepped up x) w r refl (name_writes n base r.registers.pointed v inside) refl q;
          })).by (record u { work = u.work + 14 }) m (spared base ts (14 + s) (5 + (2 + (operand_weight (place_of v) + (2 + s)))) (record u { work = u.work + 14 }) m (paid base ts s 14 u m h) (omega (arith, light)));
    }

    pub name_before_keeps : CodeKeeps n base (as_truth (step_name_does n.context.at up v >>= behind)) (step_name_does n.context.at up v >>= behind) (as_nothing (step_name_does n.context.at up v)) (λ t. step_before_code up end (place_of v))
    name_before_keeps = step_before_keeps up (place_of v) (step_name_does n.context.at up v) (λ t. end) name_stepped

    -- a pointer that steps behind its use points first
    pointed_first : (ts : List ℕ) (s x : ℕ) (r : Calc) (w : Tree) (m : Machine) → stepped up x ≡ r → FoundVal n base (Held (place_of v)) ts (3 + (2 + (operand_weight (place_of v) + s))) x w m
        → Rel (AtEnd (PointedAt n base ts s)) (after (after (calc r w) (λ z. write_name n.context.at v z >>= λ _. give (x, z))) before) (run n.context (lac (place_of v) ▸ form.point ▸ step_row up ▸ sacl (place_of v) ▸ end) m)
    pointed_first ts s x (Bad kind) w m e q = fails n base (AtEnd (PointedAt n base ts s)) (lac (place_of v) ▸ form.point ▸ step_row up ▸ sacl (place_of v) ▸ end) w m q.side.outside
    pointed_first ts s x (Good z) w m e q =
        let o = place_of v in
        let i = operand_weight o in
        let first = word_loaded n.context o x m q.found q.side.sxm q.word in
        let u : Machine = record first.to { registers = record first.to.registers { pointed = Some x }; work = first.to.work + 3 } in
        let low = has_low Sign x first.to.registers.acc q.word first.then_so.acc in
        let loaded : Side base ts (3 + (2 + (i + s))) w first.to = straight base n ts (i + (3 + (2 + (i + s)))) (3 + (2 + (i + s))) i w m (lac o ▸ end) (LoadedFrom Sign x m) q.side first (omega arith) in
        let pointing : Side base ts (2 + (i + s)) w u = went base ts (3 + (2 + (i + s))) (2 + (i + s)) 3 w first.to u loaded refl refl first.sxm (omega arith) (omega arith) in
        let second = step_left n.context up x z u low first.sxm q.word e in
        let p = AtEnd (PointedAt n base ts s) in
        let f = after (after (write_name n.context.at v z w) (λ _. give (x, z))) before in
        on n p f (lac o ▸ end) (form.point ▸ step_row up ▸ sacl o ▸ end) m i (LoadedFrom Sign x m) first
        (subst (Rel p f) (sym (point_step n base x (step_row up ▸ sacl o ▸ end) first.to low))
        (on n p f (step_row up ▸ end) (sacl o ▸ end) u 2 (λ y. InAcc Any z y.registers.acc) second
        (subst (λ r. Rel p r (run n.context (sacl o ▸ end) second.to)) (after_after (write_name n.context.at v z w) (λ _. give (x, z)) before)
        (stored_then n base (PointedAt n base ts s) x Any (Some x) o (write_name n.context.at v) ts s z w second.to (name_writes n base (Some x) v inside) second.pointed
        (record { side = straight base n ts (2 + (i + s)) (i + s) 2 w u (step_row up ▸ end) (λ y. InAcc Any z y.registers.acc) pointing second (omega arith); has = second.then_so; word = step-lt up x z q.word e })
        (λ t y k same. record { side = k.side; pointed = ap (λ (r : Registers). r.pointed) same ∙ second.pointed; word = q.word })))))

    name_points : PointKeeps n base (step_name_does n.context.at up v >>= before) (λ t. (step_name_after_code up (place_of v)).point)
    name_points = record {
      by = λ ts s. record {
        by = λ u m h.
            let light = name_light n base v in
            (same_meaning n base (λ w. after_after (read_name n.context.at v w) (λ x. calc (stepped up x) >>= λ z. write_name n.context.at v z >>= λ _. give (x, z)) before)
            (seq n {xs = end} {ys = lac (place_of v) ▸ form.point ▸ step_row up ▸ sacl (place_of v) ▸ end} (name_read n base v inside ts (3 + (2 + (operand_weight (place_of v) + s)))) (λ x. record { by = λ w r q. pointed_first ts s x (stepped up x) w r refl q }))).by
            (record u { work = u.work + 14 }) m (spared base ts (14 + (3 + s)) (5 + (3 + (2 + (operand_weight (place_of v) + s)))) (record u { work = u.work + 14 }) m (paid base ts (3 + s) 14 u m h) (omega (arith, light)));
      };
    }

    pub name_after_keeps : CodeKeeps n base (as_truth (step_name_does n.context.at up v >>= before)) (step_name_does n.context.at up v >>= before) (as_nothing (step_name_does n.context.at up v)) (λ t. step_name_after_code up (place_of v))
    name_after_keeps =
        let made = step_after_keeps up (place_of v) (step_name_does n.context.at up v) (λ t. end) name_stepped in
        record { word = made.word; branch = made.branch; effect_too = made.effect_too; into = made.into; point = name_points }

  -- of what is pointed to
  module _ (up : Bool) (p : Does Tree ℕ) (cp : ℕ → Code) (kp : PointKeeps n base p (λ t. (cp t).point)) where
    pointed_stepped : (ts : List ℕ) (s : ℕ) → Keeps n (Side base ts s) (step_at_does up p) ((cp (base + length ts)).point ⧺ form.stepped up operand.Pointed) (AtEnd (StepVal up ts (2 + s)))
    pointed_stepped ts s = record {
      by = λ u m h.
          (seq n (kp.by ts (2 + (2 + (2 + (2 + s))))) (λ a. record {
            by = λ w r q.
                (seq n {xs = end} {ys = form.stepped up operand.Pointed} (still_pointed a ts s) (λ x. record { by = λ t z i. stepped_by up (Some a) operand.Pointed (write_word a) ts (2 + s) x (stepped up x) t z refl (pointed_writes n base a) i.1 i.0 })).by w r q;
          })).by (record u { work = u.work + 14 }) m (spared base ts (14 + s) (3 + (2 + (2 + (2 + (2 + s))))) (record u { work = u.work + 14 }) m (paid base ts s 14 u m h) (omega arith));
    }
      where
        still_pointed : (a : ℕ) (ts : List ℕ) (s : ℕ) → Keeps n (PointedAt n base ts (2 + (2 + (2 + (2 + s)))) a) (read_word a) end (AtEnd (λ x t z. FoundVal n base (Held operand.Pointed) ts (2 + (2 + (2 + s))) x t z × (z.registers.pointed ≡ Some a)))
        still_pointed a ts s = record {
          by = λ w r q. rel_weaker (λ x t z i. (i.0, ap (λ (y : Machine). y.registers.pointed) i.1 ∙ q.pointed)) (read_word a w) (Gives Next r)
              (still_by n base (Held operand.Pointed) ts (2 + (2 + (2 + s))) r (read_word a w) ((pointed_read n base a ts (2 + (2 + (2 + s)))).by w r q));
        }

    pub at_before_keeps : CodeKeeps n base (as_truth (step_at_does up p >>= behind)) (step_at_does up p >>= behind) (as_nothing (step_at_does up p)) (λ t. step_before_code up (cp t).point operand.Pointed)
    at_before_keeps = step_before_keeps up operand.Pointed (step_at_does up p) (λ t. (cp t).point) pointed_stepped

    pub at_after_keeps : CodeKeeps n base (as_truth (step_at_does up p >>= before)) (step_at_does up p >>= before) (as_nothing (step_at_does up p)) (λ t. step_after_code up (cp t).point operand.Pointed)
    at_after_keeps = step_after_keeps up operand.Pointed (step_at_does up p) (λ t. (cp t).point) pointed_stepped
