-- What the code of each form weighs, from what the code of its parts does.
use Rattle.std.proofs.Common.{ℕ, suc, ◌+◌, ◌≤◌, true, false, arith}
use Rattle.std.specs.Prelude.{not}
use Rattle.c_syntax.specs.declared.operator.UnaryOp.{UnaryOp}
use Rattle.c_syntax.specs.declared.operator.UnaryOp.TheVariants.{Minus, Plus, Complement}
use Rattle.acc_code.specs.AccTree.{ItemList, end, ◌▸◌}
use Rattle.acc_code.specs.declared.operand.AccOperand.{AccOperand}
use Rattle.acc_code.specs.declared.operation.AccOp.TheVariants as row
use Rattle.acc_select.specs.acc_operations.Arithmetic.{with_place, with_constant, of_constant, of_place}
use Rattle.acc_select.specs.acc_operations.Comparisons.{Compared, compared_with_place, compared_with_constant, compared_of_constant, compared_of_place}
use Rattle.acc_select.specs.acc_operations.Words.{Word, behind, in_accumulator, fixed, next, load, loaded, sacl, bare}
use Rattle.acc_select.specs.acc_operations.declared.comparison.Comparison.{Comparison}
use Rattle.acc_select.specs.acc_operations.declared.constant.Shape.{Shape}
use Rattle.acc_select.specs.acc_operations.declared.constant.Shape.TheVariants as shape
use Rattle.acc_select.specs.acc_operations.declared.found.Found.{Found}
use Rattle.acc_select.specs.acc_operations.declared.high_half.HighHalf.TheVariants.{Small}
use Rattle.acc_select.specs.acc_operations.declared.operation.Arithmetic.{Arithmetic}
use Rattle.acc_select.specs.acc_operations.declared.operation.Operation.{Operation}
use Rattle.acc_select.specs.acc_operations.declared.operation.Operation.TheVariants as operation
use Rattle.acc_select.specs.Conditions.{Nothing, One, Null, Branch, by_comparison, negated, truth_items, and_branch, or_branch}
use Rattle.acc_select.specs.Forms as form
use Rattle.acc_select.specs.Forms.{Code, Part_code, of_word, of_branch, unary_word, unary_code, temporary, computed, asked, compared, binary_code, not_code}
use Rattle.ir_semantics.specs.AccRows.{operand_weight}
use Rattle.size_proof.proofs.Weighing.{Weighs, weight_of, found_weight, load_weighs, WordWeighs, loaded_weighs}
use Rattle.size_proof.proofs.Operating.{with_place_weighs, with_constant_weighs, of_constant_weighs, of_place_weighs, with_place_compared, with_constant_compared, of_constant_compared, of_place_compared}
use Rattle.size_proof.proofs.Branching.{BranchWeighs, by_comparison_weighs, by_word_weighs, and_weighs, or_weighs, and_number, or_number, and_nothing, or_nothing}

-- the code of an expression of this weight, whatever is wanted of it
pub record CodeWeighs (c : Code) (n : ℕ) : Type 0 where
  pub word : WordWeighs c.word n
  pub branch : BranchWeighs c.branch (n + 6)
  pub effect : Weighs c.effect n
  pub into : (m : AccOperand) → Weighs (c.into m) (n + operand_weight m)
  pub point : Weighs c.point (n + 3)

pub of_word_weighs : (w : Word) (n : ℕ) → WordWeighs w n → CodeWeighs (of_word w) n
of_word_weighs w n h = record {
  word = h;
  branch = by_word_weighs w n h;
  effect = loaded_weighs w n h;
  into = λ m. let l = loaded_weighs w n h in let e = weight_of (loaded w) (sacl m ▸ end) in omega (arith, l, e);
  point = let l = loaded_weighs w n h in let e = weight_of (loaded w) (form.point ▸ end) in omega (arith, l, e);
}

-- what is done by its truth: as a branch, as a number, and where nothing is done
pub of_branch_weighs : (b : Branch) (n : ℕ) → BranchWeighs b (n + 6) → Weighs (truth_items b) n → Weighs (b true Nothing Nothing) n → CodeWeighs (of_branch b) n
of_branch_weighs b n h number nothing =
    let c = of_word_weighs (in_accumulator (truth_items b) Small) n (omega (arith, number)) in
    record { word = c.word; branch = h; effect = nothing; into = c.into; point = c.point }

pub with_effect : (c : Code) (n : ℕ) (xs : ItemList) → CodeWeighs c n → Weighs xs n → CodeWeighs (record c { effect = xs }) n
with_effect c n xs h effect = record { word = h.word; branch = h.branch; effect = effect; into = h.into; point = h.point }

pub behind_weighs : (xs : ItemList) (w : Word) (n m : ℕ) → Weighs xs n → WordWeighs w m → WordWeighs (behind xs w) (n + m)
behind_weighs xs w n m h k = let e = weight_of xs w.items in omega (arith, e, h, k)

-- a word that is made of one that was found, and weighs so much more
next_weighs : (w : Word) (f : Found → Word) (n k : ℕ) → WordWeighs w n → WordWeighs (f w.found) (found_weight w.found + k) → WordWeighs (next w f) (n + k)
next_weighs w f n k h j = let e = weight_of w.items (f w.found).items in omega (arith, e, h, j)

unary_more : (o : UnaryOp) (g : Found) → WordWeighs (unary_word o g) (found_weight g + 1)
unary_more Plus g = let l = load_weighs g in omega (arith, l)
unary_more Minus g = let l = load_weighs g in let e = weight_of (load g) (bare row.Neg ▸ end) in omega (arith, l, e)
unary_more Complement g = let l = load_weighs g in let e = weight_of (load g) (bare row.Cmpl ▸ end) in omega (arith, l, e)

pub unary_weighs : (s : Shape) (o : UnaryOp) (e : Code) (n : ℕ) → WordWeighs e.word n → 1 ≤ n → CodeWeighs (unary_code s o e) (1 + n)
unary_weighs (shape.Constant k) o e n h some = of_word_weighs (fixed k) (1 + n) (omega (arith, some))
unary_weighs (shape.Named m) o e n h some = let w = next_weighs e.word (unary_word o) n 1 h (unary_more o e.word.found) in of_word_weighs (next e.word (unary_word o)) (1 + n) (omega (arith, w))
unary_weighs shape.Computed o e n h some = let w = next_weighs e.word (unary_word o) n 1 h (unary_more o e.word.found) in of_word_weighs (next e.word (unary_word o)) (1 + n) (omega (arith, w))

-- what a shape says of an operand's weight: a name is loaded where it stands
abbrev pub ShapeWeighs : Shape → ℕ → Type 0
ShapeWeighs (shape.Constant k) m = 2 ≤ m
ShapeWeighs (shape.Named p) m = operand_weight p ≤ m
ShapeWeighs shape.Computed m = Unit {0}

-- both operands, as far as an operation on them needs them
pub record OperandsWeigh (r s : Shape) (a b : Part_code) (t n m : ℕ) : Type 0 where
  pub left : WordWeighs (a t).word n
  pub kept : Weighs ((a t).into (temporary t)) (n + 5)
  pub right : WordWeighs (b t).word m
  pub deeper : WordWeighs (b (suc t)).word m
  pub says : ShapeWeighs s m

waiting_weighs : (t : ℕ) (a : Code) (b : Word) (n m : ℕ) → Weighs (a.into (temporary t)) (n + 5) → WordWeighs b m → WordWeighs (behind (a.into (temporary t)) b) (n + 5 + m)
waiting_weighs t a b n m ha hb = behind_weighs (a.into (temporary t)) b (n + 5) m ha hb

pub computed_weighs : (o : Arithmetic) (r s : Shape) (a b : Part_code) (t n m : ℕ) → OperandsWeigh r s a b t n m → WordWeighs (computed o r s a b t) (n + m + 22)
computed_weighs o r s a b t n m h = by r s h.says
  where
    deep : WordWeighs (next (behind ((a t).into (temporary t)) (b (suc t)).word) (of_place o (temporary t))) (n + m + 22)
    deep =
        let w = next_weighs (behind ((a t).into (temporary t)) (b (suc t)).word) (of_place o (temporary t)) (n + 5 + m) 17 (waiting_weighs t (a t) (b (suc t)).word n m h.kept h.deeper) (of_place_weighs o (temporary t) (b (suc t)).word.found) in
        omega (arith, w)

    by : (r s : Shape) → ShapeWeighs s m → WordWeighs (computed o r s a b t) (n + m + 22)
    by r (shape.Named p) says = let w = next_weighs (a t).word (λ f. with_place o f p) n (operand_weight p + 12) h.left (with_place_weighs o (a t).word.found p) in omega (arith, w, says)
    by r (shape.Constant k) says = let w = next_weighs (a t).word (λ f. with_constant o f k) n 17 h.left (with_constant_weighs o (a t).word.found k) in omega (arith, w)
    by (shape.Constant k) shape.Computed says = let w = next_weighs (b t).word (of_constant o k) m 17 h.right (of_constant_weighs o k (b t).word.found) in omega (arith, w)
    by (shape.Named p) shape.Computed says = deep
    by shape.Computed shape.Computed says = deep

asked_weighs : (w : Word) (c : Found → Compared) (n k : ℕ) → WordWeighs w n → Weighs (c w.found).items (found_weight w.found + k) → Weighs (asked w c).items (n + k)
asked_weighs w c n k h j = let e = weight_of w.items (c w.found).items in omega (arith, e, h, j)

pub compared_weighs : (c : Comparison) (r s : Shape) (a b : Part_code) (t n m : ℕ) → OperandsWeigh r s a b t n m → Weighs (compared c r s a b t).items (n + m + 14)
compared_weighs c r s a b t n m h = by r s h.says
  where
    deep : Weighs (asked (behind ((a t).into (temporary t)) (b (suc t)).word) (compared_of_place c (temporary t))).items (n + m + 14)
    deep =
        let w = asked_weighs (behind ((a t).into (temporary t)) (b (suc t)).word) (compared_of_place c (temporary t)) (n + 5 + m) 9 (waiting_weighs t (a t) (b (suc t)).word n m h.kept h.deeper) (of_place_compared c (temporary t) (b (suc t)).word.found) in
        omega (arith, w)

    by : (r s : Shape) → ShapeWeighs s m → Weighs (compared c r s a b t).items (n + m + 14)
    by r (shape.Named p) says = let w = asked_weighs (a t).word (λ f. compared_with_place c f p) n (operand_weight p + 4) h.left (with_place_compared c (a t).word.found p) in omega (arith, w, says)
    by r (shape.Constant k) says = let w = asked_weighs (a t).word (λ f. compared_with_constant c f k) n 8 h.left (with_constant_compared c (a t).word.found k) in omega (arith, w)
    by (shape.Constant k) shape.Computed says = let w = asked_weighs (b t).word (compared_of_constant c k) m 8 h.right (of_constant_compared c k (b t).word.found) in omega (arith, w)
    by (shape.Named p) shape.Computed says = deep
    by shape.Computed shape.Computed says = deep

pub binary_weighs : (o : Operation) (r s : Shape) (a b : Part_code) (t n m : ℕ) → OperandsWeigh r s a b t n m → CodeWeighs (binary_code o r s a b t) (24 + (n + m))
binary_weighs (operation.Word o) r s a b t n m h = let w = computed_weighs o r s a b t n m h in of_word_weighs (computed o r s a b t) (24 + (n + m)) (omega (arith, w))
binary_weighs (operation.Truth c) r s a b t n m h =
    let branch = by_comparison_weighs (compared c r s a b t) (n + m + 14) (compared_weighs c r s a b t n m h) in
    let one = branch true One Null in
    let none = branch true Nothing Nothing in
    of_branch_weighs (by_comparison (compared c r s a b t)) (24 + (n + m)) (λ sense hit miss. let e = branch sense hit miss in omega (arith, e)) (omega (arith, one)) (omega (arith, none))

pub and_code_weighs : (a b : Code) (n m : ℕ) → CodeWeighs a n → CodeWeighs b m → CodeWeighs (form.and_code a b) (20 + (n + m))
and_code_weighs a b n m ha hb =
    let branch = and_weighs a.branch b.branch (n + 6) (m + 6) ha.branch hb.branch in
    let one = and_number a.branch b.branch (n + 6) (m + 6) ha.branch hb.branch in
    let none = and_nothing a.branch b.branch (n + 6) (m + 6) ha.branch hb.branch in
    of_branch_weighs (and_branch a.branch b.branch) (20 + (n + m)) (λ sense hit miss. let e = branch sense hit miss in omega (arith, e)) (omega (arith, one)) (omega (arith, none))

pub or_code_weighs : (a b : Code) (n m : ℕ) → CodeWeighs a n → CodeWeighs b m → CodeWeighs (form.or_code a b) (20 + (n + m))
or_code_weighs a b n m ha hb =
    let branch = or_weighs a.branch b.branch (n + 6) (m + 6) ha.branch hb.branch in
    let one = or_number a.branch b.branch (n + 6) (m + 6) ha.branch hb.branch in
    let none = or_nothing a.branch b.branch (n + 6) (m + 6) ha.branch hb.branch in
    of_branch_weighs (or_branch a.branch b.branch) (20 + (n + m)) (λ sense hit miss. let e = branch sense hit miss in omega (arith, e)) (omega (arith, one)) (omega (arith, none))

pub not_weighs : (a : Code) (n : ℕ) → CodeWeighs a n → CodeWeighs (not_code a) (10 + n)
not_weighs a n h =
    let one = h.branch false One Null in
    let none = h.branch false Nothing Nothing in
    of_branch_weighs (negated a.branch) (10 + n) (λ sense hit miss. let e = h.branch (not sense) hit miss in omega (arith, e)) (omega (arith, one)) (omega (arith, none))
