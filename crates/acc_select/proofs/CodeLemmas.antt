-- The code of an expression, where no other one was made for its form, and words of operations.
use Rattle.std.proofs.Common.{◌≡◌, ◌≢◌, refl, ap, ◌∙◌, sym, ℕ, suc, Bool, List}
use Rattle.std.specs.Prelude.{Box, Vec}
use Rattle.std.specs.Global.{Global}
use Rattle.c_syntax.specs.declared.operator.UnaryOp.{UnaryOp}
use Rattle.tree_code.specs.declared.operator.WordOp.{WordOp}
use Rattle.tree_code.specs.declared.operator.WordOp.TheVariants as binary
use Rattle.tree_code.specs.declared.word_expression.WordExpr.{WordExpr}
use Rattle.tree_code.specs.declared.word_expression.WordForm as coded
use Rattle.tree_code.specs.declared.word_expression.WordForm.{WordForm}
use Rattle.tree_code.specs.declared.word_expression.WordTarget.{WordTarget}
use Rattle.tree_code.specs.declared.word_expression.WordTargetForm as target
use Rattle.tree_code.specs.WordTree as tree
use Rattle.tree_code.specs.WordTree.{ExprCode, Node, LvalueCode, Named, At}
use Rattle.tree_code.specs.WordView.{word_expr_of, word_form_of, word_lvalue_of, word_argument_list}
use Rattle.tree_code.proofs.Views.{word_call_form}
use Rattle.acc_code.specs.declared.operand.AccOperand.{AccOperand}
use Rattle.acc_code.specs.declared.operand.AccOperand.TheVariants as operand
use Rattle.acc_code.specs.AccTree.{end, ◌▸◌, ◌⧺◌}
use Rattle.acc_operations.specs.declared.found.Found.{Found}
use Rattle.acc_operations.specs.declared.constant.Shape.{Shape}
use Rattle.acc_operations.specs.declared.constant.Shape.TheVariants as shape
use Rattle.acc_operations.specs.declared.high_half.HighHalf.TheVariants.{Small, Sign}
use Rattle.acc_operations.specs.declared.operation.Operation.{Operation}
use Rattle.acc_operations.specs.declared.operation.Operation.TheVariants as operation
use Rattle.acc_operations.specs.Comparisons.{Compared, compared_with_place, compared_with_constant, compared_of_constant, compared_of_place}
use Rattle.acc_select.specs.Conditions.{by_comparison}
use Rattle.acc_operations.specs.Constants.{place_of, shape_of}
use Rattle.acc_select.specs.Forms as form
use Rattle.acc_select.specs.Forms.{Code, Part_code, of_word, asked}
use Rattle.acc_operations.specs.Kinds.{operation_of}
use Rattle.acc_select.specs.OperationWords as words
use Rattle.acc_select.specs.Selected.{code_of, arguments, waiting, question_of, update_word}
use Rattle.acc_operations.specs.Words.{Word, in_accumulator, next, behind, loaded, sacl}
use Rattle.acc_operations.proofs.ItemLemmas.{items_associate}

-- a number of a truth, behind the items that find an operand
number_behind : (w : Word) (f : Found → Compared) → in_accumulator ((asked w f).items ⧺ words.number_items (asked w f).test) Small ≡ next w (λ x. words.number_of (f x))
number_behind w f = ap (λ xs. in_accumulator xs Small) (items_associate w.items (f w.found).items (words.number_items (f w.found).test))

-- the word of an operator
pub operated_word : (o : Operation) (r s : Shape) (a b : Part_code) (t : ℕ) → words.operated o r s a b t ≡ (form.binary_code o r s a b t).word
operated_word (operation.Word o) (shape.Constant j) (shape.Constant k) a b t = refl
operated_word (operation.Word o) (shape.Constant j) (shape.Named m) a b t = refl
operated_word (operation.Word o) (shape.Constant j) shape.Computed a b t = refl
operated_word (operation.Word o) (shape.Named n) (shape.Constant k) a b t = refl
operated_word (operation.Word o) (shape.Named n) (shape.Named m) a b t = refl
operated_word (operation.Word o) (shape.Named n) shape.Computed a b t = refl
operated_word (operation.Word o) shape.Computed (shape.Constant k) a b t = refl
operated_word (operation.Word o) shape.Computed (shape.Named m) a b t = refl
operated_word (operation.Word o) shape.Computed shape.Computed a b t = refl
operated_word (operation.Truth c) (shape.Constant j) (shape.Constant k) a b t = sym (number_behind (a t).word (λ f. compared_with_constant c f k))
operated_word (operation.Truth c) (shape.Constant j) (shape.Named m) a b t = sym (number_behind (a t).word (λ f. compared_with_place c f m))
operated_word (operation.Truth c) (shape.Constant j) shape.Computed a b t = sym (number_behind (b t).word (compared_of_constant c j))
operated_word (operation.Truth c) (shape.Named n) (shape.Constant k) a b t = sym (number_behind (a t).word (λ f. compared_with_constant c f k))
operated_word (operation.Truth c) (shape.Named n) (shape.Named m) a b t = sym (number_behind (a t).word (λ f. compared_with_place c f m))
operated_word (operation.Truth c) (shape.Named n) shape.Computed a b t = sym (number_behind (behind ((a t).into (form.temporary t)) (b (suc t)).word) (compared_of_place c (form.temporary t)))
operated_word (operation.Truth c) shape.Computed (shape.Constant k) a b t = sym (number_behind (a t).word (λ f. compared_with_constant c f k))
operated_word (operation.Truth c) shape.Computed (shape.Named m) a b t = sym (number_behind (a t).word (λ f. compared_with_place c f m))
operated_word (operation.Truth c) shape.Computed shape.Computed a b t = sym (number_behind (behind ((a t).into (form.temporary t)) (b (suc t)).word) (compared_of_place c (form.temporary t)))

pub updated_word : (o : Operation) (s : Shape) (m : AccOperand) (e : Part_code) (t : ℕ) → words.updated o s m e t ≡ form.updated o s m e t
updated_word o s m e t = operated_word o shape.Computed s _ e t

-- the word of an operation on what is assigned to
update_through_word : (o : Operation) (s : Shape) (p e : Part_code) (t : ℕ) → words.update_through o s p e t ≡ form.update_through o s p e t
update_through_word o s p e t =
    ap (λ w. words.update_through_of p w t) (updated_word o s _ e (suc t))
    ∙ ap (λ xs. in_accumulator xs Sign) (items_associate (loaded (p t).word) (sacl (form.temporary t) ▸ form.point ▸ end) (loaded (form.updated o s _ e (suc t)) ⧺ form.through (form.temporary t)))

update_at_word : (o : Operation) (s : Shape) (p e : Part_code) (t : ℕ) → words.update_at o s p e t ≡ (form.update_at_code o s p e t).word
update_at_word o (shape.Constant k) p e t = ap (λ w. behind (p t).point (form.stored w operand.Pointed)) (updated_word o (shape.Constant k) _ e t)
update_at_word o (shape.Named n) p e t = ap (λ w. behind (p t).point (form.stored w operand.Pointed)) (updated_word o (shape.Named n) _ e t)
update_at_word o shape.Computed p e t = update_through_word o shape.Computed p e t

pub update_word_same : (o : Operation) (l : LvalueCode) (e : ExprCode) (t : ℕ) → words.update_word o l e t ≡ update_word o l e t
update_word_same o (Named v at) e t = ap (λ w. form.stored w (place_of v)) (updated_word o (shape_of e) (place_of v) (code_of e) t)
update_word_same o (At p at) e t = update_at_word o (shape_of e) (code_of p) (code_of e) t

-- what an operator does whose value isn't used
operation_effect_same : (o : Operation) (r s : Shape) (a b : Part_code) (t : ℕ) → words.operation_effect o r s a b t ≡ (form.binary_code o r s a b t).effect
operation_effect_same (operation.Word o) r s a b t = ap loaded (operated_word (operation.Word o) r s a b t)
operation_effect_same (operation.Truth c) r s a b t = refl

-- an operator as a question
operation_question_same : (o : WordOp) (a b : ExprCode) (at t : ℕ) → words.operation_question (operation_of o) (shape_of a) (shape_of b) (code_of a) (code_of b) t ≡ question_of (Node (tree.Binary o a b) at) t
operation_question_same binary.Add a b at t = ap words.not_zero (operated_word (operation_of binary.Add) (shape_of a) (shape_of b) (code_of a) (code_of b) t)
operation_question_same binary.Sub a b at t = ap words.not_zero (operated_word (operation_of binary.Sub) (shape_of a) (shape_of b) (code_of a) (code_of b) t)
operation_question_same binary.Mul a b at t = ap words.not_zero (operated_word (operation_of binary.Mul) (shape_of a) (shape_of b) (code_of a) (code_of b) t)
operation_question_same binary.DivInt a b at t = ap words.not_zero (operated_word (operation_of binary.DivInt) (shape_of a) (shape_of b) (code_of a) (code_of b) t)
operation_question_same binary.DivUnsigned a b at t = ap words.not_zero (operated_word (operation_of binary.DivUnsigned) (shape_of a) (shape_of b) (code_of a) (code_of b) t)
operation_question_same binary.RemInt a b at t = ap words.not_zero (operated_word (operation_of binary.RemInt) (shape_of a) (shape_of b) (code_of a) (code_of b) t)
operation_question_same binary.RemUnsigned a b at t = ap words.not_zero (operated_word (operation_of binary.RemUnsigned) (shape_of a) (shape_of b) (code_of a) (code_of b) t)
operation_question_same binary.And a b at t = ap words.not_zero (operated_word (operation_of binary.And) (shape_of a) (shape_of b) (code_of a) (code_of b) t)
operation_question_same binary.Or a b at t = ap words.not_zero (operated_word (operation_of binary.Or) (shape_of a) (shape_of b) (code_of a) (code_of b) t)
operation_question_same binary.Xor a b at t = ap words.not_zero (operated_word (operation_of binary.Xor) (shape_of a) (shape_of b) (code_of a) (code_of b) t)
operation_question_same binary.Shl a b at t = ap words.not_zero (operated_word (operation_of binary.Shl) (shape_of a) (shape_of b) (code_of a) (code_of b) t)
operation_question_same binary.ShrInt a b at t = ap words.not_zero (operated_word (operation_of binary.ShrInt) (shape_of a) (shape_of b) (code_of a) (code_of b) t)
operation_question_same binary.ShrUnsigned a b at t = ap words.not_zero (operated_word (operation_of binary.ShrUnsigned) (shape_of a) (shape_of b) (code_of a) (code_of b) t)
operation_question_same binary.Eq a b at t = refl
operation_question_same binary.Ne a b at t = refl
operation_question_same binary.LtInt a b at t = refl
operation_question_same binary.LtUnsigned a b at t = refl
operation_question_same binary.GtInt a b at t = refl
operation_question_same binary.GtUnsigned a b at t = refl
operation_question_same binary.LeInt a b at t = refl
operation_question_same binary.LeUnsigned a b at t = refl
operation_question_same binary.GeInt a b at t = refl
operation_question_same binary.GeUnsigned a b at t = refl

operation_branch : (o : WordOp) (a b : ExprCode) (at t : ℕ) → by_comparison (question_of (Node (tree.Binary o a b) at) t) ≡ (code_of (Node (tree.Binary o a b) at) t).branch
operation_branch binary.Add a b at t = refl
operation_branch binary.Sub a b at t = refl
operation_branch binary.Mul a b at t = refl
operation_branch binary.DivInt a b at t = refl
operation_branch binary.DivUnsigned a b at t = refl
operation_branch binary.RemInt a b at t = refl
operation_branch binary.RemUnsigned a b at t = refl
operation_branch binary.And a b at t = refl
operation_branch binary.Or a b at t = refl
operation_branch binary.Xor a b at t = refl
operation_branch binary.Shl a b at t = refl
operation_branch binary.ShrInt a b at t = refl
operation_branch binary.ShrUnsigned a b at t = refl
operation_branch binary.Eq a b at t = refl
operation_branch binary.Ne a b at t = refl
operation_branch binary.LtInt a b at t = refl
operation_branch binary.LtUnsigned a b at t = refl
operation_branch binary.GtInt a b at t = refl
operation_branch binary.GtUnsigned a b at t = refl
operation_branch binary.LeInt a b at t = refl
operation_branch binary.LeUnsigned a b at t = refl
operation_branch binary.GeInt a b at t = refl
operation_branch binary.GeUnsigned a b at t = refl

unary_by_word : (s : Shape) (o : UnaryOp) (c : Code) → of_word (form.unary_code s o c).word ≡ form.unary_code s o c
unary_by_word (shape.Constant k) o c = refl
unary_by_word (shape.Named m) o c = refl
unary_by_word shape.Computed o c = refl

binary_into : (o : Operation) (r s : Shape) (a b : Part_code) (t : ℕ) → (of_word (form.binary_code o r s a b t).word).into ≡ (form.binary_code o r s a b t).into
binary_into (operation.Word o) r s a b t = refl
binary_into (operation.Truth o) r s a b t = refl

binary_point : (o : Operation) (r s : Shape) (a b : Part_code) (t : ℕ) → (of_word (form.binary_code o r s a b t).word).point ≡ (form.binary_code o r s a b t).point
binary_point (operation.Word o) r s a b t = refl
binary_point (operation.Truth o) r s a b t = refl

-- a word that is stored to a place is loaded first, but for these forms
pub into_plain : (shape : WordForm) (at t : ℕ) (m : AccOperand)
    → ((port : ℕ) → shape ≢ coded.In port)
    → ((x y : Box WordExpr Global) → shape ≢ coded.Comma x y)
    → (form.stored (code_of (Node (word_form_of shape) at) t).word m).items ≡ (code_of (Node (word_form_of shape) at) t).into m
into_plain (coded.Const w) at t m h0 h1 = refl
into_plain (coded.Read v) at t m h0 h1 = refl
into_plain (coded.AddressOf v) at t m h0 h1 = refl
into_plain (coded.Load' p f l) at t m h0 h1 = refl
into_plain (coded.Unary' o p f l) at t m h0 h1 = ap (λ c. c.into m) (unary_by_word (shape_of (Node (tree.Unary o (Node (word_form_of f) l)) at)) o (code_of (Node (word_form_of f) l) t))
into_plain (coded.Binary' o p f l q g n) at t m h0 h1 = ap (λ into. into m) (binary_into (operation_of o) (shape_of (Node (word_form_of f) l)) (shape_of (Node (word_form_of g) n)) (code_of (Node (word_form_of f) l)) (code_of (Node (word_form_of g) n)) t)
into_plain (coded.And' p f l q g n) at t m h0 h1 = refl
into_plain (coded.Or' p f l q g n) at t m h0 h1 = refl
into_plain (coded.Not' p f l) at t m h0 h1 = refl
into_plain (coded.Pick' p f l q g n r h i) at t m h0 h1 = refl
into_plain (coded.Assign' (target.Named v) k p f l) at t m h0 h1 = refl
into_plain (coded.Assign' (target.At' q g n) k p f l) at t m h0 h1 = refl
into_plain (coded.AssignOp' o (target.Named v) k p f l) at t m h0 h1 = refl
into_plain (coded.AssignOp' o (target.At' q g n) k p f l) at t m h0 h1 = refl
into_plain (coded.StepBefore' up (target.Named v) k) at t m h0 h1 = refl
into_plain (coded.StepBefore' up (target.At' q g n) k) at t m h0 h1 = refl
into_plain (coded.StepAfter' up (target.Named v) k) at t m h0 h1 = refl
into_plain (coded.StepAfter' up (target.At' q g n) k) at t m h0 h1 = refl
into_plain (coded.Call' callee row es) at t m h0 h1 = refl
into_plain (coded.In port) at t m h0 h1 = absurd (h0 port refl)
into_plain (coded.Out' port p f l) at t m h0 h1 = refl
into_plain (coded.Comma' p f l q g n) at t m h0 h1 = absurd (h1 (record { ptr = p.ptr; alloc = p.alloc; value = record { form = f; at = l } }) (record { ptr = q.ptr; alloc = q.alloc; value = record { form = g; at = n } }) refl)

-- and so is one that is an address
pub point_plain : (shape : WordForm) (at t : ℕ)
    → ((up : Bool) (to : WordTarget) → shape ≢ coded.StepAfter up to)
    → ((x y : Box WordExpr Global) → shape ≢ coded.Comma x y)
    → (of_word (code_of (Node (word_form_of shape) at) t).word).point ≡ (code_of (Node (word_form_of shape) at) t).point
point_plain (coded.Const w) at t h0 h1 = refl
point_plain (coded.Read v) at t h0 h1 = refl
point_plain (coded.AddressOf v) at t h0 h1 = refl
point_plain (coded.Load' p f l) at t h0 h1 = refl
point_plain (coded.Unary' o p f l) at t h0 h1 = ap (λ c. c.point) (unary_by_word (shape_of (Node (tree.Unary o (Node (word_form_of f) l)) at)) o (code_of (Node (word_form_of f) l) t))
point_plain (coded.Binary' o p f l q g n) at t h0 h1 = binary_point (operation_of o) (shape_of (Node (word_form_of f) l)) (shape_of (Node (word_form_of g) n)) (code_of (Node (word_form_of f) l)) (code_of (Node (word_form_of g) n)) t
point_plain (coded.And' p f l q g n) at t h0 h1 = refl
point_plain (coded.Or' p f l q g n) at t h0 h1 = refl
point_plain (coded.Not' p f l) at t h0 h1 = refl
point_plain (coded.Pick' p f l q g n r h i) at t h0 h1 = refl
point_plain (coded.Assign' (target.Named v) k p f l) at t h0 h1 = refl
point_plain (coded.Assign' (target.At' q g n) k p f l) at t h0 h1 = refl
point_plain (coded.AssignOp' o (target.Named v) k p f l) at t h0 h1 = refl
point_plain (coded.AssignOp' o (target.At' q g n) k p f l) at t h0 h1 = refl
point_plain (coded.StepBefore' up (target.Named v) k) at t h0 h1 = refl
point_plain (coded.StepBefore' up (target.At' q g n) k) at t h0 h1 = refl
point_plain (coded.StepAfter' up to k) at t h0 h1 = absurd (h0 up (record { form = to; at = k }) refl)
point_plain (coded.Call' callee row es) at t h0 h1 = refl
point_plain (coded.In port) at t h0 h1 = refl
point_plain (coded.Out' port p f l) at t h0 h1 = refl
point_plain (coded.Comma' p f l q g n) at t h0 h1 = absurd (h1 (record { ptr = p.ptr; alloc = p.alloc; value = record { form = f; at = l } }) (record { ptr = q.ptr; alloc = q.alloc; value = record { form = g; at = n } }) refl)

-- and one that isn't used
pub effect_plain : (shape : WordForm) (at t : ℕ)
    → ((o : WordOp) (x y : Box WordExpr Global) → shape ≢ coded.Binary o x y)
    → ((x y : Box WordExpr Global) → shape ≢ coded.And x y)
    → ((x y : Box WordExpr Global) → shape ≢ coded.Or x y)
    → ((x : Box WordExpr Global) → shape ≢ coded.Not x)
    → ((x y z : Box WordExpr Global) → shape ≢ coded.Pick x y z)
    → ((to : WordTarget) (x : Box WordExpr Global) → shape ≢ coded.Assign to x)
    → ((up : Bool) (to : WordTarget) → shape ≢ coded.StepAfter up to)
    → ((port : ℕ) → shape ≢ coded.In port)
    → ((x y : Box WordExpr Global) → shape ≢ coded.Comma x y)
    → loaded (code_of (Node (word_form_of shape) at) t).word ≡ (code_of (Node (word_form_of shape) at) t).effect
effect_plain (coded.Const w) at t h0 h1 h2 h3 h4 h5 h6 h7 h8 = refl
effect_plain (coded.Read v) at t h0 h1 h2 h3 h4 h5 h6 h7 h8 = refl
effect_plain (coded.AddressOf v) at t h0 h1 h2 h3 h4 h5 h6 h7 h8 = refl
effect_plain (coded.Load' p f l) at t h0 h1 h2 h3 h4 h5 h6 h7 h8 = refl
effect_plain (coded.Unary' o p f l) at t h0 h1 h2 h3 h4 h5 h6 h7 h8 = ap (λ c. c.effect) (unary_by_word (shape_of (Node (tree.Unary o (Node (word_form_of f) l)) at)) o (code_of (Node (word_form_of f) l) t))
effect_plain (coded.Binary' o p f l q g n) at t h0 h1 h2 h3 h4 h5 h6 h7 h8 = absurd (h0 o (record { ptr = p.ptr; alloc = p.alloc; value = record { form = f; at = l } }) (record { ptr = q.ptr; alloc = q.alloc; value = record { form = g; at = n } }) refl)
effect_plain (coded.And' p f l q g n) at t h0 h1 h2 h3 h4 h5 h6 h7 h8 = absurd (h1 (record { ptr = p.ptr; alloc = p.alloc; value = record { form = f; at = l } }) (record { ptr = q.ptr; alloc = q.alloc; value = record { form = g; at = n } }) refl)
effect_plain (coded.Or' p f l q g n) at t h0 h1 h2 h3 h4 h5 h6 h7 h8 = absurd (h2 (record { ptr = p.ptr; alloc = p.alloc; value = record { form = f; at = l } }) (record { ptr = q.ptr; alloc = q.alloc; value = record { form = g; at = n } }) refl)
effect_plain (coded.Not' p f l) at t h0 h1 h2 h3 h4 h5 h6 h7 h8 = absurd (h3 (record { ptr = p.ptr; alloc = p.alloc; value = record { form = f; at = l } }) refl)
effect_plain (coded.Pick' p f l q g n r h i) at t h0 h1 h2 h3 h4 h5 h6 h7 h8 = absurd (h4 (record { ptr = p.ptr; alloc = p.alloc; value = record { form = f; at = l } }) (record { ptr = q.ptr; alloc = q.alloc; value = record { form = g; at = n } }) (record { ptr = r.ptr; alloc = r.alloc; value = record { form = h; at = i } }) refl)
effect_plain (coded.Assign' to k p f l) at t h0 h1 h2 h3 h4 h5 h6 h7 h8 = absurd (h5 (record { form = to; at = k }) (record { ptr = p.ptr; alloc = p.alloc; value = record { form = f; at = l } }) refl)
effect_plain (coded.AssignOp' o (target.Named v) k p f l) at t h0 h1 h2 h3 h4 h5 h6 h7 h8 = refl
effect_plain (coded.AssignOp' o (target.At' q g n) k p f l) at t h0 h1 h2 h3 h4 h5 h6 h7 h8 = refl
effect_plain (coded.StepBefore' up (target.Named v) k) at t h0 h1 h2 h3 h4 h5 h6 h7 h8 = refl
effect_plain (coded.StepBefore' up (target.At' q g n) k) at t h0 h1 h2 h3 h4 h5 h6 h7 h8 = refl
effect_plain (coded.StepAfter' up to k) at t h0 h1 h2 h3 h4 h5 h6 h7 h8 = absurd (h6 up (record { form = to; at = k }) refl)
effect_plain (coded.Call' callee row es) at t h0 h1 h2 h3 h4 h5 h6 h7 h8 = refl
effect_plain (coded.In port) at t h0 h1 h2 h3 h4 h5 h6 h7 h8 = absurd (h7 port refl)
effect_plain (coded.Out' port p f l) at t h0 h1 h2 h3 h4 h5 h6 h7 h8 = refl
effect_plain (coded.Comma' p f l q g n) at t h0 h1 h2 h3 h4 h5 h6 h7 h8 = absurd (h8 (record { ptr = p.ptr; alloc = p.alloc; value = record { form = f; at = l } }) (record { ptr = q.ptr; alloc = q.alloc; value = record { form = g; at = n } }) refl)

-- a condition that has no conditions in it is one question
pub branch_plain : (shape : WordForm) (at t : ℕ)
    → ((x y : Box WordExpr Global) → shape ≢ coded.And x y)
    → ((x y : Box WordExpr Global) → shape ≢ coded.Or x y)
    → ((x : Box WordExpr Global) → shape ≢ coded.Not x)
    → ((x y : Box WordExpr Global) → shape ≢ coded.Comma x y)
    → by_comparison (question_of (Node (word_form_of shape) at) t) ≡ (code_of (Node (word_form_of shape) at) t).branch
branch_plain (coded.Const w) at t h0 h1 h2 h3 = refl
branch_plain (coded.Read v) at t h0 h1 h2 h3 = refl
branch_plain (coded.AddressOf v) at t h0 h1 h2 h3 = refl
branch_plain (coded.Load' p f l) at t h0 h1 h2 h3 = refl
branch_plain (coded.Unary' o p f l) at t h0 h1 h2 h3 = ap (λ c. c.branch) (unary_by_word (shape_of (Node (tree.Unary o (Node (word_form_of f) l)) at)) o (code_of (Node (word_form_of f) l) t))
branch_plain (coded.Binary' o p f l q g n) at t h0 h1 h2 h3 = operation_branch o (Node (word_form_of f) l) (Node (word_form_of g) n) at t
branch_plain (coded.And' p f l q g n) at t h0 h1 h2 h3 = absurd (h0 (record { ptr = p.ptr; alloc = p.alloc; value = record { form = f; at = l } }) (record { ptr = q.ptr; alloc = q.alloc; value = record { form = g; at = n } }) refl)
branch_plain (coded.Or' p f l q g n) at t h0 h1 h2 h3 = absurd (h1 (record { ptr = p.ptr; alloc = p.alloc; value = record { form = f; at = l } }) (record { ptr = q.ptr; alloc = q.alloc; value = record { form = g; at = n } }) refl)
branch_plain (coded.Not' p f l) at t h0 h1 h2 h3 = absurd (h2 (record { ptr = p.ptr; alloc = p.alloc; value = record { form = f; at = l } }) refl)
branch_plain (coded.Pick' p f l q g n r h i) at t h0 h1 h2 h3 = refl
branch_plain (coded.Assign' (target.Named v) k p f l) at t h0 h1 h2 h3 = refl
branch_plain (coded.Assign' (target.At' q g n) k p f l) at t h0 h1 h2 h3 = refl
branch_plain (coded.AssignOp' o (target.Named v) k p f l) at t h0 h1 h2 h3 = refl
branch_plain (coded.AssignOp' o (target.At' q g n) k p f l) at t h0 h1 h2 h3 = refl
branch_plain (coded.StepBefore' up (target.Named v) k) at t h0 h1 h2 h3 = refl
branch_plain (coded.StepBefore' up (target.At' q g n) k) at t h0 h1 h2 h3 = refl
branch_plain (coded.StepAfter' up (target.Named v) k) at t h0 h1 h2 h3 = refl
branch_plain (coded.StepAfter' up (target.At' q g n) k) at t h0 h1 h2 h3 = refl
branch_plain (coded.Call' callee row es) at t h0 h1 h2 h3 = refl
branch_plain (coded.In port) at t h0 h1 h2 h3 = refl
branch_plain (coded.Out' port p f l) at t h0 h1 h2 h3 = refl
branch_plain (coded.Comma' p f l q g n) at t h0 h1 h2 h3 = absurd (h3 (record { ptr = p.ptr; alloc = p.alloc; value = record { form = f; at = l } }) (record { ptr = q.ptr; alloc = q.alloc; value = record { form = g; at = n } }) refl)

-- which is whether its word is 0, unless it is an operator's
pub question_plain : (shape : WordForm) (at t : ℕ)
    → ((o : WordOp) (x y : Box WordExpr Global) → shape ≢ coded.Binary o x y)
    → words.not_zero (code_of (Node (word_form_of shape) at) t).word ≡ question_of (Node (word_form_of shape) at) t
question_plain (coded.Const w) at t h0 = refl
question_plain (coded.Read v) at t h0 = refl
question_plain (coded.AddressOf v) at t h0 = refl
question_plain (coded.Load' p f l) at t h0 = refl
question_plain (coded.Unary' o p f l) at t h0 = refl
question_plain (coded.Binary' o p f l q g n) at t h0 = absurd (h0 o (record { ptr = p.ptr; alloc = p.alloc; value = record { form = f; at = l } }) (record { ptr = q.ptr; alloc = q.alloc; value = record { form = g; at = n } }) refl)
question_plain (coded.And' p f l q g n) at t h0 = refl
question_plain (coded.Or' p f l q g n) at t h0 = refl
question_plain (coded.Not' p f l) at t h0 = refl
question_plain (coded.Pick' p f l q g n r h i) at t h0 = refl
question_plain (coded.Assign' (target.Named v) k p f l) at t h0 = refl
question_plain (coded.Assign' (target.At' q g n) k p f l) at t h0 = refl
question_plain (coded.AssignOp' o (target.Named v) k p f l) at t h0 = refl
question_plain (coded.AssignOp' o (target.At' q g n) k p f l) at t h0 = refl
question_plain (coded.StepBefore' up (target.Named v) k) at t h0 = refl
question_plain (coded.StepBefore' up (target.At' q g n) k) at t h0 = refl
question_plain (coded.StepAfter' up (target.Named v) k) at t h0 = refl
question_plain (coded.StepAfter' up (target.At' q g n) k) at t h0 = refl
question_plain (coded.Call' callee row es) at t h0 = refl
question_plain (coded.In port) at t h0 = refl
question_plain (coded.Out' port p f l) at t h0 = refl
question_plain (coded.Comma' p f l q g n) at t h0 = refl

-- the word of an assignment by an operator
assigned : (o : WordOp) (l : LvalueCode) (e : ExprCode) (at t : ℕ) → update_word (operation_of o) l e t ≡ (code_of (Node (tree.AssignOp o l e) at) t).word
assigned o (Named v k) e at t = refl
assigned o (At p k) e at t = refl

-- an operator whose operands stand in memory, for its word, where it isn't used, and as a question
pub binary_found : (shape : WordForm) (at t : ℕ) (o : WordOp) (x y : Box WordExpr Global) {p : Operation} {l r : WordExpr}
    → shape ≡ coded.Binary o x y → p ≡ operation_of o → l ≡ x.value → r ≡ y.value
    → words.operated p (shape_of (word_expr_of l)) (shape_of (word_expr_of r)) (code_of (word_expr_of l)) (code_of (word_expr_of r)) t ≡ (code_of (Node (word_form_of shape) at) t).word
binary_found shape at t o x y is same first second =
    rw (is, same, first, second, operated_word (operation_of o) (shape_of (word_expr_of x.value)) (shape_of (word_expr_of y.value)) (code_of (word_expr_of x.value)) (code_of (word_expr_of y.value)) t)

pub binary_done : (shape : WordForm) (at t : ℕ) (o : WordOp) (x y : Box WordExpr Global) {p : Operation} {l r : WordExpr}
    → shape ≡ coded.Binary o x y → p ≡ operation_of o → l ≡ x.value → r ≡ y.value
    → words.operation_effect p (shape_of (word_expr_of l)) (shape_of (word_expr_of r)) (code_of (word_expr_of l)) (code_of (word_expr_of r)) t ≡ (code_of (Node (word_form_of shape) at) t).effect
binary_done shape at t o x y is same first second =
    rw (is, same, first, second, operation_effect_same (operation_of o) (shape_of (word_expr_of x.value)) (shape_of (word_expr_of y.value)) (code_of (word_expr_of x.value)) (code_of (word_expr_of y.value)) t)

pub binary_asked : (shape : WordForm) (at t : ℕ) (o : WordOp) (x y : Box WordExpr Global) {p : Operation} {l r : WordExpr}
    → shape ≡ coded.Binary o x y → p ≡ operation_of o → l ≡ x.value → r ≡ y.value
    → words.operation_question p (shape_of (word_expr_of l)) (shape_of (word_expr_of r)) (code_of (word_expr_of l)) (code_of (word_expr_of r)) t ≡ question_of (Node (word_form_of shape) at) t
binary_asked shape at t o x y is same first second =
    rw (is, same, first, second, operation_question_same o (word_expr_of x.value) (word_expr_of y.value) at t)

-- and an operation on what is assigned to
pub update_found : (shape : WordForm) (at t : ℕ) (o : WordOp) (to : WordTarget) (x : Box WordExpr Global) {p : Operation} {e : WordExpr}
    → shape ≡ coded.AssignOp o to x → p ≡ operation_of o → e ≡ x.value
    → words.update_word p (word_lvalue_of to.form to.at) (word_expr_of e) t ≡ (code_of (Node (word_form_of shape) at) t).word
update_found shape at t o to x is same value =
    rw (is, same, value, update_word_same (operation_of o) (word_lvalue_of to.form to.at) (word_expr_of x.value) t ∙ assigned o (word_lvalue_of to.form to.at) (word_expr_of x.value) at t)

-- a call of a list of arguments
pub call_found : (shape : WordForm) (at t f : ℕ) (l : Vec WordExpr Global) {items : List WordExpr} → shape ≡ coded.Call f l → items ≡ l.items
    → (form.call_code f (arguments f 0 (word_argument_list items) t) (form.parameter_items f 0 t (waiting (word_argument_list items)))).word ≡ (code_of (Node (word_form_of shape) at) t).word
call_found shape at t f l is listed =
    ap (λ items. (form.call_code f (arguments f 0 (word_argument_list items) t) (form.parameter_items f 0 t (waiting (word_argument_list items)))).word) listed
    ∙ ap (λ g. (code_of (Node g at) t).word) (sym (ap word_form_of is ∙ word_call_form f l))
