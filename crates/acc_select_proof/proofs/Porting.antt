-- The code of ports: a word is taken from one, and put to one.
use Rattle.std.proofs.Common.{◌≡◌, ℕ, suc, ◌+◌, ◌<◌, Bool, true, false, List, [], ◌∷◌, length, Some, refl, sym, ap, ◌∙◌, subst, append-nil, arith}
use Rattle.std.specs.Prelude.{All, ◌==◌, cond}
use Rattle.word_base.specs.Ports.{Input, IsInput}
use Rattle.acc_code.specs.declared.operand.AccOperand.{AccOperand}
use Rattle.acc_code.specs.declared.operation.AccOp.TheVariants as row
use Rattle.acc_code.specs.AccTree.{Op, ItemList, end, item, ◌▸◌, ◌⧺◌}
use Rattle.acc_select.specs.acc_operations.Words.{scratch, store}
use Rattle.acc_select.specs.acc_operations.declared.found.Found.{Found}
use Rattle.acc_select.specs.acc_operations.declared.found.Found.TheVariants.{Fixed, Held, Loaded}
use Rattle.acc_select.specs.acc_operations.declared.high_half.HighHalf.TheVariants.{Any}
use Rattle.acc_select.specs.Forms.{Code, in_code, out_code, out_items}
use Rattle.ir_semantics.specs.Parts.{Does, after, ◌>>=◌, give, Flow, Next, in_order}
use Rattle.ir_semantics.specs.Outside.{Outside, with_input, with_output, with_scalar}
use Rattle.ir_semantics.specs.TreeRun as tree
use Rattle.ir_semantics.specs.TreeRun.{Tree, fail, in_does, out_does, as_truth, as_nothing}
use Rattle.ir_semantics.specs.AccRows.{operand_weight}
use Rattle.ir_semantics.specs.AccRun as machine
use Rattle.ir_semantics.specs.AccRun.{Machine, held, run}
use Rattle.acc_select_proof.proofs.Straights.{found_weight, held_by_now}
use Rattle.acc_select_proof.proofs.Rules.{Ground, Post, Rel, AtEnd, Keeps, seq, followed}
use Rattle.acc_select_proof.proofs.Sides.{Side, on, straight, went, paid, spared, put_here}
use Rattle.acc_select_proof.proofs.Following.{kept}
use Rattle.acc_select_proof.proofs.Valuing.{after_give, FoundVal, WordKeeps, EffectKeeps, IntoKeeps, IsSure, Takes, CodeKeeps}
use Rattle.acc_select_proof.proofs.Coding.{word_code}

-- the words that are left of an input are words
left_by : (input : Input) (port x : ℕ) (xs : List ℕ) → IsInput input → input port ≡ x ∷ xs → (q : ℕ) (b : Bool) → (q == port) ≡ b → All (λ w. w < 65536) (cond b xs (input q))
left_by input port x xs h is q true e = λ k d lt. (subst (All (λ w. w < 65536)) is (h port)) (suc k) d (omega (arith, lt))
left_by input port x xs h is q false e = h q

input_left : (input : Input) (port x : ℕ) (xs : List ℕ) → IsInput input → input port ≡ x ∷ xs → IsInput (λ q. cond (q == port) xs (input q))
input_left input port x xs h is = λ q. left_by input port x xs h is q (q == port) refl

first_word : (input : Input) (port x : ℕ) (xs : List ℕ) → IsInput input → input port ≡ x ∷ xs → x < 65536
first_word input port x xs h is = (subst (All (λ w. w < 65536)) is (h port)) 0 0 (omega arith)

module _ (n : Ground) (base : ℕ) where
  -- both have taken a word
  input_taken : (port x : ℕ) (xs : List ℕ) (ts : List ℕ) (s : ℕ) (w : Tree) (v : Machine) → w.outside.input port ≡ x ∷ xs → Side base ts s w v → Side base ts s (record w { outside = with_input port xs w.outside }) (record v { outside = with_input port xs v.outside })
  input_taken port x xs ts s w v is h = record {
    frame = h.frame;
    scalars = h.scalars;
    temps = h.temps;
    outside = ap (with_input port xs) h.outside;
    words = record { memory = h.words.memory; input = input_left w.outside.input port x xs h.words.input is };
    sxm = h.sxm;
    work = h.work;
  }

  taken_by : {B : Type 0} (port : ℕ) (m : AccOperand) (ts : List ℕ) (s : ℕ) (g : ℕ → Does Tree B) (q : Post B) (xs : List ℕ) (w : Tree) (v : Machine) → w.outside.input port ≡ xs → IsSure m → Takes n base m g q ts s → Side base ts s w v
      → Rel q (after (tree.taken xs port w) g) (after (machine.taken n.context.at xs port m v) (λ flow. in_order flow (give Next)))
  taken_by port m ts s g q [] w v is sure takes h =
      subst (λ (d : Does Machine Flow). Rel q (after (tree.taken [] port w) g) (after (d v) (λ flow. in_order flow (give Next)))) (sym (sure port)) (refl, sym (ap (λ (o : Outside). o.outs) h.outside), omega (arith, h.work))
  taken_by port m ts s g q (x ∷ xs) w v is sure takes h = takes x (record w { outside = with_input port xs w.outside }) (record v { outside = with_input port xs v.outside }) (first_word w.outside.input port x xs h.words.input is) (input_taken port x xs ts s w v is h)

  -- a word is taken to a place
  take_rel : {B : Type 0} (port : ℕ) (m : AccOperand) (ts : List ℕ) (s : ℕ) (g : ℕ → Does Tree B) (q : Post B) → IsSure m → Takes n base m g q ts s → (w : Tree) (v : Machine) → Side base ts (operand_weight m + s) w v
      → Rel q (after (tree.take port w) g) (run n.context (Op (row.In port) m ▸ end) v)
  take_rel port m ts s g q sure takes w v h =
      let u : Machine = record v { work = v.work + operand_weight m } in
      subst (λ xs. Rel q (after (tree.take port w) g) (after (machine.taken n.context.at xs port m u) (λ flow. in_order flow (give Next)))) (sym (ap (λ (o : Outside). o.input port) h.outside))
      (taken_by port m ts s g q (w.outside.input port) w u refl sure takes (went base ts (operand_weight m + s) s (operand_weight m) w v u h refl refl h.sxm (omega arith) (omega arith)))

  module _ (port : ℕ) where
    in_word : WordKeeps n base (in_does port) (λ t. (in_code port).word)
    in_word = record {
      by = λ ts s. record {
        by = λ u v h.
            subst (λ r. Rel (AtEnd (FoundVal n base (Held (scratch 0)) ts s)) r (run n.context (Op (row.In port) (scratch 0) ▸ end) v)) (after_give (tree.take port (record u { work = u.work + 4 })))
            (take_rel port (scratch 0) ts (2 + s) give (AtEnd (FoundVal n base (Held (scratch 0)) ts s)) (λ port. refl)
            (λ x w m lt side. record { side = went base ts (2 + s) (2 + s) 0 w m (record m { scratch = with_scalar 0 x m.scratch }) side refl refl side.sxm (omega arith) (omega arith); found = put_here m.scratch 0 x; wide = tt; word = lt })
            (record u { work = u.work + 4 }) v (spared base ts (4 + s) (2 + (2 + s)) (record u { work = u.work + 4 }) v (paid base ts s 4 u v h) (omega arith)));
      };
    }

    in_effect : EffectKeeps n base (as_nothing (in_does port)) (λ t. (in_code port).effect)
    in_effect = record {
      by = λ ts s. record {
        by = λ u v h.
            take_rel port (scratch 0) ts s (λ _. give tt) (AtEnd (λ _ w v. Side base ts s w v)) (λ port. refl)
            (λ x w m lt side. went base ts s s 0 w m (record m { scratch = with_scalar 0 x m.scratch }) side refl refl side.sxm (omega arith) (omega arith))
            (record u { work = u.work + 4 }) v (spared base ts (4 + s) (2 + s) (record u { work = u.work + 4 }) v (paid base ts s 4 u v h) (omega arith));
      };
    }

    in_into : IntoKeeps n base (in_does port) (λ t m. (in_code port).into m)
    in_into = record {
      by = λ m ts s g q sure takes. record {
        by = λ u v h. take_rel port m ts s g q sure takes (record u { work = u.work + 4 }) v (spared base ts (4 + (operand_weight m + s)) (operand_weight m + s) (record u { work = u.work + 4 }) v (paid base ts (operand_weight m + s) 4 u v h) (omega arith));
      };
    }

    pub in_keeps : CodeKeeps n base (as_truth (in_does port)) (in_does port) (as_nothing (in_does port)) (λ t. in_code port)
    in_keeps =
        let made = word_code n base (in_does port) (λ t. (in_code port).word) in_word in
        record { word = made.word; branch = made.branch; effect_too = in_effect; into = in_into; point = made.point }

  -- both have put a word
  output_put : (port x : ℕ) (ts : List ℕ) (s : ℕ) (w : Tree) (v : Machine) → Side base ts s w v → Side base ts s (record w { outside = with_output port x w.outside }) (record v { outside = with_output port x v.outside })
  output_put port x ts s w v h = record {
    frame = h.frame;
    scalars = h.scalars;
    temps = h.temps;
    outside = ap (with_output port x) h.outside;
    words = record { memory = h.words.memory; input = h.words.input };
    sxm = h.sxm;
    work = h.work;
  }

  -- a word of a place is put
  put_rel : (port : ℕ) (m : AccOperand) (ts : List ℕ) (s x : ℕ) (w : Tree) (v : Machine) → held n.context.at m v ≡ Some x → Side base ts (operand_weight m + s) w v → Rel (AtEnd (λ _ w v. Side base ts s w v)) (tree.put port x w) (run n.context (Op (row.Out port) m ▸ end) v)
  put_rel port m ts s x w v there h =
      let u : Machine = record v { work = v.work + operand_weight m } in
      subst (λ y. Rel (AtEnd (λ _ w v. Side base ts s w v)) (tree.put port x w) (after (machine.put port y u) (λ flow. in_order flow (give Next)))) (sym (held_by_now n.context.at m v (v.work + operand_weight m) ∙ there))
      (output_put port x ts s w u (went base ts (operand_weight m + s) s (operand_weight m) w v u h refl refl h.sxm (omega arith) (omega arith)))

  -- a word that was found is put, by way of a scratch word where it stands in none
  saved_put : (port : ℕ) (f : Found) (ts : List ℕ) (s x : ℕ) (w : Tree) (v : Machine) → FoundVal n base f ts (4 + s) x w v → Rel (AtEnd (λ _ w v. Side base ts s w v)) (tree.put port x w) (run n.context (store (scratch 0) f ⧺ Op (row.Out port) (scratch 0) ▸ end) v)
  saved_put port f ts s x w v q =
      let r = kept n.context 0 f x v q.found q.wide q.side.sxm q.word in
      on n (AtEnd (λ _ w v. Side base ts s w v)) (tree.put port x w) (store (scratch 0) f) (Op (row.Out port) (scratch 0) ▸ end) v (found_weight f + 2) (λ u. (u.scratch ≡ with_scalar 0 x v.scratch) × (u.registers.t ≡ v.registers.t)) r
      (put_rel port (scratch 0) ts s x w r.to (ap (λ g. g 0) r.then_so.0 ∙ put_here v.scratch 0 x)
      (straight base n ts (found_weight f + (4 + s)) (2 + s) (found_weight f + 2) w v (store (scratch 0) f) (λ u. (u.scratch ≡ with_scalar 0 x v.scratch) × (u.registers.t ≡ v.registers.t)) q.side r (omega arith)))

  found_put : (port : ℕ) (f : Found) (ts : List ℕ) (s x : ℕ) (w : Tree) (v : Machine) → FoundVal n base f ts (4 + s) x w v → Rel (AtEnd (λ _ w v. Side base ts s w v)) (tree.put port x w) (run n.context (out_items port f) v)
  found_put port (Fixed k) ts s x w v q = saved_put port (Fixed k) ts s x w v q
  found_put port (Held m) ts s x w v q = put_rel port m ts s x w v q.found (spared base ts (operand_weight m + (4 + s)) (operand_weight m + s) w v q.side (omega arith))
  found_put port (Loaded h) ts s x w v q = saved_put port (Loaded h) ts s x w v q

  module _ (port : ℕ) (e : Does Tree ℕ) (c : ℕ → Code) (k : WordKeeps n base e (λ t. (c t).word)) where
    out_effect : (ts : List ℕ) (s : ℕ) → Keeps n (Side base ts s) (out_does port e) (out_code port (c (base + length ts))).word.items (AtEnd (λ _ w v. Side base ts s w v))
    out_effect ts s = record {
      by = λ u v h. (seq n (k.by ts (4 + s)) (λ x. record { by = λ w m q. found_put port (c (base + length ts)).word.found ts s x w m q })).by (record u { work = u.work + 4 }) v (paid base ts s 4 u v h);
    }

    -- it has no value
    out_word : WordKeeps n base (out_does port e >>= λ _. fail) (λ t. (out_code port (c t)).word)
    out_word = record { by = λ ts s. followed n (λ _. fail) (AtEnd (FoundVal n base (Loaded Any) ts s)) (out_effect ts s) (λ y w v h. record { rest = []; is = ap (λ (o : Outside). o.outs) h.outside ∙ sym (append-nil w.outside.outs) }) }

    pub out_keeps : CodeKeeps n base (as_truth (out_does port e >>= λ _. fail)) (out_does port e >>= λ _. fail) (out_does port e) (λ t. out_code port (c t))
    out_keeps =
        let made = word_code n base (out_does port e >>= λ _. fail) (λ t. (out_code port (c t)).word) out_word in
        record {
          word = made.word;
          branch = made.branch;
          effect_too = record { by = λ ts s. subst (λ xs. Keeps n (Side base ts s) (out_does port e) xs (AtEnd (λ _ w v. Side base ts s w v))) (sym (items_end (out_code port (c (base + length ts))).word.items)) (out_effect ts s) };
          into = made.into;
          point = made.point;
        }
      where
        items_end : (xs : ItemList) → xs ⧺ end ≡ xs
        items_end end = refl
        items_end (item x xs) = ap (item x) (items_end xs)
