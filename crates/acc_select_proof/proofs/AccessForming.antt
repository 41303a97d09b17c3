-- The accesses of the code of each form, from those of the code of its parts.
use Rattle.std.proofs.Common.{◌≡◌, refl, ap, ◌∙◌, sym, ℕ, suc, Bool, true, false}
use Rattle.std.specs.Prelude.{⊤}
use Rattle.c_syntax.specs.declared.operator.UnaryOp.{UnaryOp}
use Rattle.c_syntax.specs.declared.operator.UnaryOp.TheVariants.{Minus, Plus, Complement}
use Rattle.acc_code.specs.AccSequence.{Rest, access, cut, operand_accesses, accesses}
use Rattle.acc_code.specs.AccTree.{ItemList, end, ◌▸◌}
use Rattle.acc_code.specs.declared.operand.AccOperand.{AccOperand}
use Rattle.acc_code.specs.declared.operation.AccOp.TheVariants as row
use Rattle.acc_select.specs.acc_operations.Arithmetic.{with_place, with_constant, of_constant, of_place}
use Rattle.acc_select.specs.acc_operations.Comparisons.{Compared, compared_with_place, compared_with_constant, compared_of_constant, compared_of_place}
use Rattle.acc_select.specs.acc_operations.Words.{Word, behind, in_accumulator, fixed, next, load, loaded, sacl, bare}
use Rattle.acc_select.specs.acc_operations.declared.comparison.Comparison.{Comparison}
use Rattle.acc_select.specs.acc_operations.declared.constant.Constant.{Constant}
use Rattle.acc_select.specs.acc_operations.declared.constant.Shape.{Shape}
use Rattle.acc_select.specs.acc_operations.declared.constant.Shape.TheVariants as shape
use Rattle.acc_select.specs.acc_operations.declared.found.Found.{Found}
use Rattle.acc_select.specs.acc_operations.declared.high_half.HighHalf.TheVariants.{Small}
use Rattle.acc_select.specs.acc_operations.declared.operation.Arithmetic.{Arithmetic}
use Rattle.acc_select.specs.acc_operations.declared.operation.Operation.{Operation}
use Rattle.acc_select.specs.acc_operations.declared.operation.Operation.TheVariants as operation
use Rattle.acc_select.specs.Conditions.{Nothing, Branch, by_comparison, truth_items}
use Rattle.acc_select.specs.Forms as form
use Rattle.acc_select.specs.Forms.{Code, Part_code, of_word, of_branch, unary_word, unary_code, temporary, computed, asked, compared, binary_code}
use Rattle.acc_select_proof.specs.Listed.{Marks, Listed, of_value, of_condition, cut_where, of_operands}
use Rattle.acc_select_proof.proofs.Marking.{Has, in_turn, nothing, accesses_of, found_accesses, load_has, WordHas, loaded_has}
use Rattle.acc_select_proof.proofs.AccessOperating.{routine, with_place_has, with_constant_has, of_constant_has, of_place_has, with_place_compared, with_constant_compared, of_constant_compared, of_place_compared}
use Rattle.acc_select_proof.proofs.AccessBranching.{BranchHas, by_comparison_has, by_word_has, truth_has}

-- the code of an expression has these accesses, whatever is wanted of it
pub record CodeHas (c : Code) (l : Listed) : Type 0 where
  pub word : WordHas c.word l.value
  pub branch : BranchHas c.branch l.condition
  pub effect : Has c.effect l.value
  pub into : (m : AccOperand) → Has (c.into m) (λ κ. l.value (operand_accesses m κ))
  pub point : Has c.point l.value

pub of_word_has : (w : Word) (f : Marks) → WordHas w f → CodeHas (of_word w) (of_value f)
of_word_has w f h = record {
  word = h;
  branch = by_word_has w f h;
  effect = loaded_has w f h;
  into = λ m. in_turn (loaded w) (sacl m ▸ end) f (operand_accesses m) (loaded_has w f h) (λ κ. refl);
  point = in_turn (loaded w) (form.point ▸ end) f nothing (loaded_has w f h) (λ κ. refl);
}

pub of_branch_has : (b : Branch) (f : Marks) → BranchHas b f → CodeHas (of_branch b) (of_condition f)
of_branch_has b f h =
    let c = of_word_has (in_accumulator (truth_items b) Small) (λ κ. f (cut κ)) (truth_has b f h) in
    record { word = c.word; branch = h; effect = h true Nothing Nothing; into = c.into; point = c.point }

-- other items where the value isn't used
pub with_effect : (c : Code) (l : Listed) (xs : ItemList) → CodeHas c l → Has xs l.value → CodeHas (record c { effect = xs }) l
with_effect c l xs h effect = record { word = h.word; branch = h.branch; effect = effect; into = h.into; point = h.point }

-- a word behind items
pub behind_has : (xs : ItemList) (w : Word) (f g : Marks) → Has xs f → WordHas w g → WordHas (behind xs w) (λ κ. f (g κ))
behind_has xs w f g h k κ = accesses_of xs w.items (found_accesses w.found κ) ∙ h _ ∙ ap f (k κ)

-- a word that is made of one that was found
next_has : (w : Word) (n : Found → Word) (f g : Marks) → WordHas w f → WordHas (n w.found) (λ κ. found_accesses w.found (g κ)) → WordHas (next w n) (λ κ. f (g κ))
next_has w n f g h k κ = accesses_of w.items (n w.found).items _ ∙ ap (accesses w.items) (k κ) ∙ h (g κ)

pub unary_has : (s : Shape) (o : UnaryOp) (e : Code) (f : Marks) → WordHas e.word f → ((k : Constant) → s ≡ shape.Constant k → (κ : Rest) → f κ ≡ κ) → CodeHas (unary_code s o e) (of_value f)
unary_has s o e f h simple = by s refl
  where
    one : (o : UnaryOp) (g : Found) → WordHas (unary_word o g) (found_accesses g)
    one Plus g κ = load_has g κ
    one Minus g κ = in_turn (load g) (bare row.Neg ▸ end) (found_accesses g) nothing (load_has g) (λ κ. refl) κ
    one Complement g κ = in_turn (load g) (bare row.Cmpl ▸ end) (found_accesses g) nothing (load_has g) (λ κ. refl) κ

    computed_one : CodeHas (of_word (next e.word (unary_word o))) (of_value f)
    computed_one = of_word_has (next e.word (unary_word o)) f (next_has e.word (unary_word o) f nothing h (one o e.word.found))

    by : (r : Shape) → s ≡ r → CodeHas (unary_code r o e) (of_value f)
    by (shape.Constant k) is = of_word_has (fixed k) f (λ κ. sym (simple k is κ))
    by (shape.Named m) is = computed_one
    by shape.Computed is = computed_one

-- what a shape says of an operand's accesses
abbrev pub ShapeSays : Shape → Marks → Type 0
ShapeSays (shape.Constant k) f = (κ : Rest) → f κ ≡ κ
ShapeSays (shape.Named m) f = (κ : Rest) → f κ ≡ operand_accesses m κ
ShapeSays shape.Computed f = ⊤

abbrev pub is_constant_shape : Shape → Bool
is_constant_shape (shape.Constant k) = true
is_constant_shape (shape.Named m) = false
is_constant_shape shape.Computed = false

abbrev pub is_simple_shape : Shape → Bool
is_simple_shape (shape.Constant k) = true
is_simple_shape (shape.Named m) = true
is_simple_shape shape.Computed = false

-- the left operand waits in a temporary while the right one is found, one temporary deeper
waiting_has : (t : ℕ) (a : Code) (b : Word) (va vd : Marks) → Has (a.into (temporary t)) (λ κ. va (access t κ)) → WordHas b vd
    → WordHas (behind (a.into (temporary t)) b) (λ κ. va (access t (vd κ)))
waiting_has t a b va vd ha hb = behind_has (a.into (temporary t)) b (λ κ. va (access t κ)) vd ha hb

-- both operands, as far as an operation on them needs them
pub record OperandsHave (r s : Shape) (a b : Part_code) (t : ℕ) (va vb vd : Marks) : Type 0 where
  pub left : WordHas (a t).word va
  pub kept : Has ((a t).into (temporary t)) (λ κ. va (access t κ))
  pub right : WordHas (b t).word vb
  pub deeper : WordHas (b (suc t)).word vd
  pub says : ShapeSays s vb

pub computed_has : (o : Arithmetic) (r s : Shape) (a b : Part_code) (t : ℕ) (va vb vd : Marks) → OperandsHave r s a b t va vb vd
    → WordHas (computed o r s a b t) (λ κ. of_operands (is_simple_shape s) (is_constant_shape r) t va vb vd (cut_where (routine o (is_constant_shape s)) κ))
computed_has o r s a b t va vb vd h = by r s h.says
  where
    deep : WordHas (next (behind ((a t).into (temporary t)) (b (suc t)).word) (of_place o (temporary t))) (λ κ. va (access t (vd (access t (cut_where (routine o false) κ)))))
    deep = next_has (behind ((a t).into (temporary t)) (b (suc t)).word) (of_place o (temporary t)) (λ κ. va (access t (vd κ))) (λ κ. access t (cut_where (routine o false) κ))
        (waiting_has t (a t) (b (suc t)).word va vd h.kept h.deeper) (of_place_has o (temporary t) (b (suc t)).word.found)

    by : (r s : Shape) → ShapeSays s vb → WordHas (computed o r s a b t) (λ κ. of_operands (is_simple_shape s) (is_constant_shape r) t va vb vd (cut_where (routine o (is_constant_shape s)) κ))
    by r (shape.Named m) says κ =
        next_has (a t).word (λ f. with_place o f m) va (λ κ. operand_accesses m (cut_where (routine o false) κ)) h.left (with_place_has o (a t).word.found m) κ ∙ ap va (sym (says _))
    by r (shape.Constant k) says κ =
        next_has (a t).word (λ f. with_constant o f k) va (cut_where (routine o true)) h.left (with_constant_has o (a t).word.found k) κ ∙ ap va (sym (says _))
    by (shape.Constant k) shape.Computed says κ = next_has (b t).word (of_constant o k) vb (cut_where (routine o false)) h.right (of_constant_has o k (b t).word.found) κ
    by (shape.Named m) shape.Computed says κ = deep κ
    by shape.Computed shape.Computed says κ = deep κ

-- a comparison behind the items that find an operand
asked_has : (w : Word) (c : Found → Compared) (f g : Marks) → WordHas w f → Has (c w.found).items (λ κ. found_accesses w.found (g κ)) → Has (asked w c).items (λ κ. f (g κ))
asked_has w c f g h k κ = accesses_of w.items (c w.found).items κ ∙ ap (accesses w.items) (k κ) ∙ h (g κ)

pub compared_has : (c : Comparison) (r s : Shape) (a b : Part_code) (t : ℕ) (va vb vd : Marks) → OperandsHave r s a b t va vb vd
    → Has (compared c r s a b t).items (λ κ. of_operands (is_simple_shape s) (is_constant_shape r) t va vb vd κ)
compared_has c r s a b t va vb vd h = by r s h.says
  where
    deep : Has (asked (behind ((a t).into (temporary t)) (b (suc t)).word) (compared_of_place c (temporary t))).items (λ κ. va (access t (vd (access t κ))))
    deep = asked_has (behind ((a t).into (temporary t)) (b (suc t)).word) (compared_of_place c (temporary t)) (λ κ. va (access t (vd κ))) (access t)
        (waiting_has t (a t) (b (suc t)).word va vd h.kept h.deeper) (of_place_compared c (temporary t) (b (suc t)).word.found)

    by : (r s : Shape) → ShapeSays s vb → Has (compared c r s a b t).items (λ κ. of_operands (is_simple_shape s) (is_constant_shape r) t va vb vd κ)
    by r (shape.Named m) says κ = asked_has (a t).word (λ f. compared_with_place c f m) va (operand_accesses m) h.left (with_place_compared c (a t).word.found m) κ ∙ ap va (sym (says κ))
    by r (shape.Constant k) says κ = asked_has (a t).word (λ f. compared_with_constant c f k) va nothing h.left (with_constant_compared c (a t).word.found k) κ ∙ ap va (sym (says κ))
    by (shape.Constant k) shape.Computed says κ = asked_has (b t).word (compared_of_constant c k) vb nothing h.right (of_constant_compared c k (b t).word.found) κ
    by (shape.Named m) shape.Computed says κ = deep κ
    by shape.Computed shape.Computed says κ = deep κ

-- whether an operation ends a block: a comparison does
abbrev pub ends : Operation → Bool → Bool
ends (operation.Word o) constant = routine o constant
ends (operation.Truth c) constant = true

pub binary_has : (o : Operation) (r s : Shape) (a b : Part_code) (t : ℕ) (va vb vd : Marks) → OperandsHave r s a b t va vb vd
    → CodeHas (binary_code o r s a b t) (of_value (λ κ. of_operands (is_simple_shape s) (is_constant_shape r) t va vb vd (cut_where (ends o (is_constant_shape s)) κ)))
binary_has (operation.Word o) r s a b t va vb vd h = of_word_has (computed o r s a b t) _ (computed_has o r s a b t va vb vd h)
binary_has (operation.Truth c) r s a b t va vb vd h =
    let f : Marks = of_operands (is_simple_shape s) (is_constant_shape r) t va vb vd in
    let made = of_branch_has (by_comparison (compared c r s a b t)) f (by_comparison_has (compared c r s a b t) f (compared_has c r s a b t va vb vd h)) in
    record { word = made.word; branch = made.branch; effect = made.effect; into = made.into; point = made.point }
