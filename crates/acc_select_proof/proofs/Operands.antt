-- Two operands: the items of both by what their expressions are, and operations and comparisons on them.
use Rattle.std.proofs.Common.{◌≡◌, ℕ, suc, ◌+◌, ◌<◌, ◌≤◌, Bool, List, ◌∷◌, length, Some, refl, sym, ◌∙◌, subst, arith}
use Rattle.word_base.specs.Words.{Calc, Good, Bad}
use Rattle.acc_code.specs.declared.operand.AccOperand.{AccOperand}
use Rattle.acc_code.specs.declared.operand.AccOperand.TheVariants as operand
use Rattle.acc_code.specs.AccTree.{If, ItemList, end, ◌▸◌, ◌⧺◌}
use Rattle.acc_select.proofs.acc_operations.ItemLemmas.{items_associate}
use Rattle.acc_select.specs.acc_operations.Arithmetic.{with_place, with_constant, of_constant, of_place}
use Rattle.acc_select.specs.acc_operations.Comparisons.{Compared, compared_with_place, compared_with_constant, compared_of_constant, compared_of_place}
use Rattle.acc_select.specs.acc_operations.Kinds.{in_sense}
use Rattle.acc_select.specs.acc_operations.Words.{Word}
use Rattle.acc_select.specs.acc_operations.Words as words
use Rattle.acc_select.specs.acc_operations.declared.comparison.Comparison.{Comparison}
use Rattle.acc_select.specs.acc_operations.declared.constant.Constant.{Constant}
use Rattle.acc_select.specs.acc_operations.declared.constant.Shape.{Shape}
use Rattle.acc_select.specs.acc_operations.declared.constant.Shape.TheVariants as shape
use Rattle.acc_select.specs.acc_operations.declared.found.Found.{Found}
use Rattle.acc_select.specs.acc_operations.declared.found.Found.TheVariants.{Fixed, Held, Loaded}
use Rattle.acc_select.specs.acc_operations.declared.operation.Arithmetic.{Arithmetic}
use Rattle.acc_select.specs.acc_operations.declared.operation.Arithmetic.TheVariants as arithmetic
use Rattle.acc_select.specs.acc_operations.declared.operation.Operation.{Operation}
use Rattle.acc_select.specs.acc_operations.declared.operation.Operation.TheVariants as operation
use Rattle.acc_select.specs.Conditions.{part_items, by_comparison}
use Rattle.acc_select.specs.Forms.{Code, temporary, computed, compared, binary_code}
use Rattle.ir_semantics.specs.Meanings.{Calculates, Decides}
use Rattle.ir_semantics.specs.Parts.{Does, after, ◌>>=◌, give, choose}
use Rattle.ir_semantics.specs.TreeRun.{Tree, calc, binary_does, compare_does, operation_truth, operation_word, operation_effect}
use Rattle.ir_semantics.specs.AccRows.{operand_weight}
use Rattle.ir_semantics.specs.AccRun.{Machine, held, run}
use Rattle.acc_select_proof.proofs.Straights.{ConstantIs, FoundHas, found_weight, Straight}
use Rattle.acc_select_proof.proofs.Rules.{Ground, Post, Rel, AtEnd, Keeps, seq, rel_weaker}
use Rattle.acc_select_proof.proofs.Sides.{Side, straight, paid, popped}
use Rattle.acc_select_proof.proofs.Meant.{calc_of, decides_of, meant, IsTellable, IsTold}
use Rattle.acc_select_proof.proofs.Following.{IsFound}
use Rattle.acc_select_proof.proofs.Testing.{of_sense}
use Rattle.acc_select_proof.proofs.Compared.{with_place_compares, with_constant_compares, of_constant_compares, of_place_compares}
use Rattle.acc_select_proof.proofs.SelectOperating.{Finds, with_place_keeps, with_constant_keeps, of_constant_keeps, of_place_keeps}
use Rattle.acc_select_proof.proofs.Valuing.{after_after, after_same, fails, arrives, same_meaning, sooner, Stable, FoundVal, WordKeeps, BranchKeeps, CodeKeeps}
use Rattle.acc_select_proof.proofs.SelectBranching.{branch_end}
use Rattle.acc_select_proof.proofs.Coding.{word_code, branch_code}
use Rattle.acc_select_proof.proofs.Places.{Still, on_still, ShapeKeeps}

-- no word takes more than this to load
pub found_light : (f : Found) → found_weight f ≤ 5
found_light (Fixed k) = omega arith
found_light (Loaded h) = omega arith
found_light (Held m) = light m
  where
    light : (m : AccOperand) → operand_weight m ≤ 5
    light operand.Nothing = omega arith
    light (operand.Scalar k) = omega arith
    light (operand.Direct o) = omega arith
    light (operand.Param f k) = omega arith
    light (operand.Scratch k) = omega arith
    light (operand.Number k) = omega arith
    light (operand.Address o i) = omega arith
    light operand.Pointed = omega arith

module _ (n : Ground) (base : ℕ) where
  -- a value that a calculation has, or none
  pub calc_by : (r : Calc) (g : Found) (ts : List ℕ) (s : ℕ) (w : Tree) (v : Machine) (xs : ItemList) (k : ℕ) (all : ℕ) → Side base ts all w v → ((y : ℕ) → r ≡ Good y → Straight n.context xs v k (Finds n.context g y) × (y < 65536)) → k + (found_weight g + s) ≤ all
      → Rel (AtEnd (FoundVal n base g ts s)) (calc r w) (run n.context xs v)
  calc_by (Bad kind) g ts s w v xs k all h by le = fails n base (AtEnd (FoundVal n base g ts s)) xs w v h.outside
  calc_by (Good y) g ts s w v xs k all h by le =
      let r = by y refl in
      arrives n base (FoundVal n base g ts s) y w v xs k (Finds n.context g y) r.0
      (record { side = straight base n ts all (found_weight g + s) k w v xs (Finds n.context g y) h r.0 le; found = r.0.then_so.0; wide = r.0.then_so.1; word = r.1 })

  module _ {B : Type 0} (p : Tree → Machine → Type 0) (va vb : Does Tree ℕ) (ts : List ℕ) (s : ℕ) (after_both : ℕ → ℕ → Does Tree B) (post : Post B) where
    -- the right operand is a place
    pub on_place : (wa : ℕ → Word) (m : AccOperand) (xs : ItemList) → Keeps n p va (wa (base + length ts)).items (AtEnd (FoundVal n base (wa (base + length ts)).found ts s)) → Still n base vb (Held m)
        → ((x y : ℕ) (w : Tree) (v : Machine) → FoundHas n.context.at (wa (base + length ts)).found x v → IsFound (wa (base + length ts)).found v → held n.context.at m v ≡ Some y → x < 65536 → y < 65536 → Side base ts (operand_weight m + (found_weight (wa (base + length ts)).found + s)) w v → Rel post (after_both x y w) (run n.context xs v))
        → Keeps n p (va >>= λ x. vb >>= λ y. after_both x y) ((wa (base + length ts)).items ⧺ xs) post
    on_place wa m xs ka kb step =
        seq n ka (λ x. record {
          by = λ w v q.
              on_still n base (FoundVal n base (Held m) ts (found_weight (wa (base + length ts)).found + s)) post v (vb w) xs (λ y. after_both x y) (kb.by ts (found_weight (wa (base + length ts)).found + s) w v q.side)
              (λ y t e. step x y t v q.found q.wide e.found q.word e.word e.side);
        })

    -- it is a constant
    pub on_constant : (wa : ℕ → Word) (k : Constant) (xs : ItemList) → Keeps n p va (wa (base + length ts)).items (AtEnd (FoundVal n base (wa (base + length ts)).found ts s)) → Still n base vb (Fixed k)
        → ((x y : ℕ) (w : Tree) (v : Machine) → FoundHas n.context.at (wa (base + length ts)).found x v → IsFound (wa (base + length ts)).found v → ConstantIs n.context.at k y → x < 65536 → y < 65536 → Side base ts (2 + (found_weight (wa (base + length ts)).found + s)) w v → Rel post (after_both x y w) (run n.context xs v))
        → Keeps n p (va >>= λ x. vb >>= λ y. after_both x y) ((wa (base + length ts)).items ⧺ xs) post
    on_constant wa k xs ka kb step =
        seq n ka (λ x. record {
          by = λ w v q.
              on_still n base (FoundVal n base (Fixed k) ts (found_weight (wa (base + length ts)).found + s)) post v (vb w) xs (λ y. after_both x y) (kb.by ts (found_weight (wa (base + length ts)).found + s) w v q.side)
              (λ y t e. step x y t v q.found q.wide e.found q.word e.word e.side);
        })

    -- the left operand is a constant, and the right one is computed
    pub constant_waits : (k : Constant) (wb : ℕ → Word) (xs : ItemList) → Still n base va (Fixed k) → WordKeeps n base vb wb
        → ((x y : ℕ) (w : Tree) (v : Machine) → ConstantIs n.context.at k x → FoundHas n.context.at (wb (base + length ts)).found y v → IsFound (wb (base + length ts)).found v → x < 65536 → y < 65536 → Side base ts (found_weight (wb (base + length ts)).found + (2 + s)) w v → Rel post (after_both x y w) (run n.context xs v))
        → Keeps n (Side base ts s) (va >>= λ x. vb >>= λ y. after_both x y) ((wb (base + length ts)).items ⧺ xs) post
    constant_waits k wb xs ka kb step = record {
      by = λ w v h.
          on_still n base (FoundVal n base (Fixed k) ts s) post v (va w) ((wb (base + length ts)).items ⧺ xs) (λ x. vb >>= λ y. after_both x y) (ka.by ts s w v h)
          (λ x t e. (seq n (kb.by ts (2 + s)) (λ y. record { by = λ u z p. step x y u z e.found p.found p.wide e.word p.word p.side })).by t v e.side);
    }

    -- both are computed: the left one waits in a temporary
    pub both_computed : (ia : ℕ → AccOperand → ItemList) (wb : ℕ → Word) (xs : ItemList) → Keeps n p va (ia (base + length ts) (temporary (base + length ts))) (AtEnd (λ x w v. Side base (x ∷ ts) s w v × (x < 65536))) → WordKeeps n base vb wb
        → ((x y : ℕ) (w : Tree) (v : Machine) → held n.context.at (temporary (base + length ts)) v ≡ Some x → FoundHas n.context.at (wb (suc (base + length ts))).found y v → IsFound (wb (suc (base + length ts))).found v → x < 65536 → y < 65536 → Side base (x ∷ ts) (found_weight (wb (suc (base + length ts))).found + s) w v → Rel post (after_both x y w) (run n.context xs v))
        → Keeps n p (va >>= λ x. vb >>= λ y. after_both x y) ((ia (base + length ts) (temporary (base + length ts)) ⧺ (wb (suc (base + length ts))).items) ⧺ xs) post
    both_computed ia wb xs ka kb step =
        subst (λ ys. Keeps n p (va >>= λ x. vb >>= λ y. after_both x y) ys post) (sym (items_associate (ia (base + length ts) (temporary (base + length ts))) (wb (suc (base + length ts))).items xs))
        (seq n ka (λ x. record {
          by = λ w v h.
              (seq n (next_word x) (λ y. record { by = λ u z q. step x y u z q.side.temps.0 q.found q.wide h.1 q.word q.side })).by w v h.0;
        }))
      where
        next_word : (x : ℕ) → Keeps n (Side base (x ∷ ts) s) vb (wb (suc (base + length ts))).items (AtEnd (FoundVal n base (wb (suc (base + length ts))).found (x ∷ ts) s))
        next_word x =
            let same : base + length (x ∷ ts) ≡ suc (base + length ts) = omega arith in
            subst (λ t. Keeps n (Side base (x ∷ ts) s) vb (wb t).items (AtEnd (FoundVal n base (wb t).found (x ∷ ts) s))) same (kb.by (x ∷ ts) s)

  -- what is known of two operands, where the left one begins with this
  pub record Operands (p : List ℕ → ℕ → Tree → Machine → Type 0) (va vb : Does Tree ℕ) (ra rb : Shape) (ca cb : ℕ → Code) : Type 1 where
    pub sides : (ts : List ℕ) (s : ℕ) (w : Tree) (v : Machine) → p ts s w v → Side base ts s w v
    pub left : ShapeKeeps n base ra va (λ t. (ca t).word)
    pub right : ShapeKeeps n base rb vb (λ t. (cb t).word)
    pub left_word : (ts : List ℕ) (s : ℕ) → Keeps n (p ts s) va (ca (base + length ts)).word.items (AtEnd (FoundVal n base (ca (base + length ts)).word.found ts s))
    pub left_waits : (ts : List ℕ) (s : ℕ) → Keeps n (p ts (5 + s)) va ((ca (base + length ts)).into (temporary (base + length ts))) (AtEnd (λ x w v. Side base (x ∷ ts) s w v × (x < 65536)))
    pub right_word : WordKeeps n base vb (λ t. (cb t).word)

  temp_val : (g : Found) (x : ℕ) (ts : List ℕ) (s y : ℕ) (w : Tree) (v : Machine) → FoundVal n base g (x ∷ ts) s y w v → FoundVal n base g ts s y w v
  temp_val g x ts s y w v p = record { side = popped base x ts (found_weight g + s) w v p.side; found = p.found; wide = p.wide; word = p.word }

  of_place_light : (o : Arithmetic) (m : AccOperand) (f : Found) → found_weight (of_place o m f).found ≡ 0
  of_place_light arithmetic.Sum m f = refl
  of_place_light o m f = refl

  module _ (p : List ℕ → ℕ → Tree → Machine → Type 0) (va vb : Does Tree ℕ) (ca cb : ℕ → Code) where
    waited : (o : Arithmetic) (ra rb : Shape) → Operands p va vb ra rb ca cb → (ts : List ℕ) (s : ℕ)
        → Keeps n (p ts (24 + s)) (va >>= λ x. vb >>= λ y. calc (calc_of o x y)) (computed o shape.Computed shape.Computed ca cb (base + length ts)).items (AtEnd (FoundVal n base (computed o shape.Computed shape.Computed ca cb (base + length ts)).found ts s))
    waited o ra rb ks ts s =
        let t = base + length ts in
        let f = (cb (suc t)).word.found in
        let same : 5 + (19 + s) ≡ 24 + s = omega arith in
        subst (λ j. Keeps n (p ts j) (va >>= λ x. vb >>= λ y. calc (calc_of o x y)) (computed o shape.Computed shape.Computed ca cb t).items (AtEnd (FoundVal n base (of_place o (temporary t) f).found ts s))) same
        (both_computed (p ts (5 + (19 + s))) va vb ts (19 + s) (λ x y. calc (calc_of o x y)) (AtEnd (FoundVal n base (of_place o (temporary t) f).found ts s)) (λ t. (ca t).into) (λ t. (cb t).word) (of_place o (temporary t) f).items (ks.left_waits ts (19 + s)) ks.right_word
        (λ x y w v is e wide lx ly h.
        let light = of_place_light o (temporary t) f in
        rel_weaker (λ z u r p. temp_val (of_place o (temporary t) f).found x ts s z u r p) (calc (calc_of o x y) w) (run n.context (of_place o (temporary t) f).items v)
        (calc_by (calc_of o x y) (of_place o (temporary t) f).found (x ∷ ts) s w v (of_place o (temporary t) f).items (found_weight f + (5 + 12)) (found_weight f + (19 + s)) h
        (λ z g. of_place_keeps n.context o (temporary t) f x y z v tt is e wide h.sxm lx ly g) (omega (arith, light)))))

    -- a word that is calculated of two; the form has paid 24
    pub computed_keeps : (o : Arithmetic) (ra rb : Shape) → Operands p va vb ra rb ca cb → (ts : List ℕ) (s : ℕ)
        → Keeps n (p ts (24 + s)) (va >>= λ x. vb >>= λ y. calc (calc_of o x y)) (computed o ra rb ca cb (base + length ts)).items (AtEnd (FoundVal n base (computed o ra rb ca cb (base + length ts)).found ts s))
    computed_keeps o ra (shape.Named m) k ts s =
        let f = (ca (base + length ts)).word.found in
        on_place (p ts (24 + s)) va vb ts (24 + s) (λ x y. calc (calc_of o x y)) (AtEnd (FoundVal n base (with_place o f m).found ts s)) (λ t. (ca t).word) m (with_place o f m).items (k.left_word ts (24 + s)) k.right.0
        (λ x y w v e wide is lx ly h.
        let light = found_light (with_place o f m).found in
        calc_by (calc_of o x y) (with_place o f m).found ts s w v (with_place o f m).items (found_weight f + (operand_weight m + 12)) (operand_weight m + (found_weight f + (24 + s))) h
        (λ z g. with_place_keeps n.context o f m x y z v k.right.1 e wide is h.sxm lx ly g) (omega (arith, light)))
    computed_keeps o ra (shape.Constant c) k ts s =
        let f = (ca (base + length ts)).word.found in
        on_constant (p ts (24 + s)) va vb ts (24 + s) (λ x y. calc (calc_of o x y)) (AtEnd (FoundVal n base (with_constant o f c).found ts s)) (λ t. (ca t).word) c (with_constant o f c).items (k.left_word ts (24 + s)) k.right.0
        (λ x y w v e wide is lx ly h.
        let light = found_light (with_constant o f c).found in
        calc_by (calc_of o x y) (with_constant o f c).found ts s w v (with_constant o f c).items (found_weight f + 17) (2 + (found_weight f + (24 + s))) h
        (λ z g. with_constant_keeps n.context o f c x y z v e wide is (k.right.1 y is) h.sxm lx ly g) (omega (arith, light)))
    computed_keeps o (shape.Constant c) shape.Computed k ts s =
        let f = (cb (base + length ts)).word.found in
        sooner n base (k.sides ts (24 + s))
        (constant_waits (p ts (24 + s)) va vb ts (24 + s) (λ x y. calc (calc_of o x y)) (AtEnd (FoundVal n base (of_constant o c f).found ts s)) c (λ t. (cb t).word) (of_constant o c f).items k.left.0 k.right_word
        (λ x y w v is e wide lx ly h.
        let light = found_light (of_constant o c f).found in
        calc_by (calc_of o x y) (of_constant o c f).found ts s w v (of_constant o c f).items (found_weight f + 17) (found_weight f + (2 + (24 + s))) h
        (λ z g. of_constant_keeps n.context o c f x y z v is e wide h.sxm lx ly g) (omega (arith, light))))
    computed_keeps o (shape.Named m) shape.Computed k ts s = waited o (shape.Named m) shape.Computed k ts s
    computed_keeps o shape.Computed shape.Computed k ts s = waited o shape.Computed shape.Computed k ts s

    -- a comparison, and one of two parts
    module _ {A : Type 0} (c : Comparison) (told : IsTold c.order c.test) (ts : List ℕ) (s r : ℕ) (le : r ≤ s + 2) (sense : Bool) (hit miss : ItemList) (g l : Does Tree A) (q : Post A) (stable : Stable q) (kg : Keeps n (Side base ts r) g hit q) (kl : Keeps n (Side base ts r) l miss q) where
      abbrev chosen : ℕ → ℕ → Does Tree A
      chosen x y = choose (of_sense sense (decides_of c x y)) g l

      abbrev question : Compared → ItemList
      question d = d.items ⧺ If (in_sense sense d.test) hit miss ▸ end

      asked_so : (w : Word) (d : Compared) → Keeps n (p ts (24 + s)) (va >>= λ x. vb >>= λ y. chosen x y) (w.items ⧺ question d) q → Keeps n (p ts (24 + s)) (va >>= λ x. vb >>= λ y. chosen x y) (question (record { items = w.items ⧺ d.items; test = d.test })) q
      asked_so w d k = subst (λ xs. Keeps n (p ts (24 + s)) (va >>= λ x. vb >>= λ y. chosen x y) xs q) (sym (items_associate w.items d.items (If (in_sense sense d.test) hit miss ▸ end))) k

      compared_waits : (ra rb : Shape) → Operands p va vb ra rb ca cb → Keeps n (p ts (24 + s)) (va >>= λ x. vb >>= λ y. chosen x y) (question (compared c shape.Computed shape.Computed ca cb (base + length ts))) q
      compared_waits ra rb ks =
          let same : 5 + (19 + s) ≡ 24 + s = omega arith in
          let t = base + length ts in
          let f = (cb (suc t)).word.found in
          let d = compared_of_place c (temporary t) f in
          asked_so (words.behind ((ca t).into (temporary t)) (cb (suc t)).word) d
          (subst (λ j. Keeps n (p ts j) (va >>= λ x. vb >>= λ y. chosen x y) (((ca t).into (temporary t) ⧺ (cb (suc t)).word.items) ⧺ question d) q) same
          (both_computed (p ts (5 + (19 + s))) va vb ts (19 + s) chosen q (λ t. (ca t).into) (λ t. (cb t).word) (question d) (ks.left_waits ts (19 + s)) ks.right_word
          (λ x y w v is e wide lx ly h.
          branch_end n base (x ∷ ts) (found_weight f + (19 + s)) r (found_weight f + (5 + 4)) d.test (decides_of c x y) d.items hit miss g l q w v stable h (of_place_compares n.context c (temporary t) f x y v told tt is e wide h.sxm lx ly) (omega (arith, le)) sense
          (sooner n base (λ w v h. popped base x ts r w v h) kg) (sooner n base (λ w v h. popped base x ts r w v h) kl))))

      pub compared_by : (ra rb : Shape) → Operands p va vb ra rb ca cb → Keeps n (p ts (24 + s)) (va >>= λ x. vb >>= λ y. chosen x y) (question (compared c ra rb ca cb (base + length ts))) q
      compared_by ra (shape.Named m) k =
          let w1 = (ca (base + length ts)).word in
          let d = compared_with_place c w1.found m in
          asked_so w1 d
          (on_place (p ts (24 + s)) va vb ts (24 + s) chosen q (λ t. (ca t).word) m (question d) (k.left_word ts (24 + s)) k.right.0
          (λ x y w v e wide is lx ly h.
          branch_end n base ts (operand_weight m + (found_weight w1.found + (24 + s))) r (found_weight w1.found + (operand_weight m + 4)) d.test (decides_of c x y) d.items hit miss g l q w v stable h (with_place_compares n.context c w1.found m x y v told k.right.1 e wide is h.sxm lx ly) (omega (arith, le)) sense kg kl))
      compared_by ra (shape.Constant a) k =
          let w1 = (ca (base + length ts)).word in
          let d = compared_with_constant c w1.found a in
          asked_so w1 d
          (on_constant (p ts (24 + s)) va vb ts (24 + s) chosen q (λ t. (ca t).word) a (question d) (k.left_word ts (24 + s)) k.right.0
          (λ x y w v e wide is lx ly h.
          branch_end n base ts (2 + (found_weight w1.found + (24 + s))) r (found_weight w1.found + 8) d.test (decides_of c x y) d.items hit miss g l q w v stable h (with_constant_compares n.context c w1.found a x y v told e wide is h.sxm lx ly) (omega (arith, le)) sense kg kl))
      compared_by (shape.Constant a) shape.Computed k =
          let w1 = (cb (base + length ts)).word in
          let d = compared_of_constant c a w1.found in
          asked_so w1 d
          (sooner n base (k.sides ts (24 + s))
          (constant_waits (p ts (24 + s)) va vb ts (24 + s) chosen q a (λ t. (cb t).word) (question d) k.left.0 k.right_word
          (λ x y w v is e wide lx ly h.
          branch_end n base ts (found_weight w1.found + (2 + (24 + s))) r (found_weight w1.found + 8) d.test (decides_of c x y) d.items hit miss g l q w v stable h (of_constant_compares n.context c a w1.found x y v told is e wide h.sxm lx ly) (omega (arith, le)) sense kg kl)))
      compared_by (shape.Named m) shape.Computed k = compared_waits (shape.Named m) shape.Computed k
      compared_by shape.Computed shape.Computed k = compared_waits shape.Computed shape.Computed k

  module _ (va vb : Does Tree ℕ) (ca cb : ℕ → Code) where
    -- an operation's code
    pub word_operation : (o : Arithmetic) (ra rb : Shape) → Operands (λ ts s. Side base ts s) va vb ra rb ca cb → CodeKeeps n base (operation_truth (Calculates (calc_of o)) va vb) (operation_word (Calculates (calc_of o)) va vb) (operation_effect (Calculates (calc_of o)) va vb) (λ t. binary_code (operation.Word o) ra rb ca cb t)
    word_operation o ra rb k =
        word_code n base (binary_does (calc_of o) va vb) (λ t. computed o ra rb ca cb t)
        (record { by = λ ts s. record { by = λ u v p. (computed_keeps (λ ts s. Side base ts s) va vb ca cb o ra rb k ts s).by (record u { work = u.work + 24 }) v (paid base ts s 24 u v p) } })

    chosen_after : {A : Type 0} (c : Comparison) (sense : Bool) (g l : Does Tree A) (w : Tree)
        → after (va w) (λ x. vb >>= λ y. choose (of_sense sense (decides_of c x y)) g l) ≡ after (after (va w) (λ x. vb >>= λ y. give (decides_of c x y))) (λ t. choose (of_sense sense t) g l)
    chosen_after c sense g l w =
        after_same (va w) (λ x. vb >>= λ y. choose (of_sense sense (decides_of c x y)) g l) (λ x u. after (after (vb u) (λ y. give (decides_of c x y))) (λ t. choose (of_sense sense t) g l)) (λ x u. after_after (vb u) (λ y. give (decides_of c x y)) (λ t. choose (of_sense sense t) g l))
        ∙ after_after (va w) (λ x. vb >>= λ y. give (decides_of c x y)) (λ t. choose (of_sense sense t) g l)

    compared_keeps : (c : Comparison) → IsTold c.order c.test → (ra rb : Shape) → Operands (λ ts s. Side base ts s) va vb ra rb ca cb → BranchKeeps n base 0 2 (compare_does (decides_of c) va vb) (λ t. by_comparison (compared c ra rb ca cb t))
    compared_keeps c told ra rb k = record {
      by = λ ts s r le sense hit miss g l q stable kg kl. record {
        by = λ u v p.
            (same_meaning n base {xs = question (λ ts s. Side base ts s) va vb ca cb c told ts s r (omega (arith, le)) sense (part_items hit) (part_items miss) g l q stable kg kl (compared c ra rb ca cb (base + length ts))} {q = q} (chosen_after c sense g l)
            (compared_by (λ ts s. Side base ts s) va vb ca cb c told ts s r (omega (arith, le)) sense (part_items hit) (part_items miss) g l q stable kg kl ra rb k)).by (record u { work = u.work + 24 }) v (paid base ts s 24 u v p);
      };
    }

    pub truth_operation : (c : Comparison) → IsTold c.order c.test → (ra rb : Shape) → Operands (λ ts s. Side base ts s) va vb ra rb ca cb
        → CodeKeeps n base (operation_truth (Decides (decides_of c)) va vb) (operation_word (Decides (decides_of c)) va vb) (operation_effect (Decides (decides_of c)) va vb) (λ t. binary_code (operation.Truth c) ra rb ca cb t)
    truth_operation c told ra rb k = branch_code n base (compare_does (decides_of c) va vb) (λ t. by_comparison (compared c ra rb ca cb t)) (compared_keeps c told ra rb k)

    pub operation_keeps : (o : Operation) → IsTellable o → (ra rb : Shape) → Operands (λ ts s. Side base ts s) va vb ra rb ca cb → CodeKeeps n base (operation_truth (meant o) va vb) (operation_word (meant o) va vb) (operation_effect (meant o) va vb) (λ t. binary_code o ra rb ca cb t)
    operation_keeps (operation.Word o) told ra rb k = word_operation o ra rb k
    operation_keeps (operation.Truth c) told ra rb k = truth_operation c told ra rb k
