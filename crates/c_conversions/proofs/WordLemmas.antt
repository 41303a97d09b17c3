-- Expressions without a word.
use Rattle.std.proofs.Common.{◌≡◌, ◌≢◌, ℕ, Option, Some, None, ap, sym, ◌∙◌, refl}
use Rattle.std.specs.Prelude.{Box}
use Rattle.std.specs.Global.{Global}
use Rattle.c_syntax.specs.declared.operator.UnaryOp.{UnaryOp}
use Rattle.c_syntax.specs.declared.operator.BinaryOp.{BinaryOp}
use Rattle.c_tree.specs.declared.typed_expression.TypedExpr.{TypedExpr}
use Rattle.c_tree.specs.declared.typed_expression.ExprForm as form
use Rattle.c_tree.specs.declared.typed_expression.ExprForm.{ExprForm}
use Rattle.c_tree.specs.TypedTree.{Expr, Kind, Node, Convert}
use Rattle.c_tree.specs.View.{expr_of, form_of}
use Rattle.c_rules.specs.Constants.{word_of}
use Rattle.c_conversions.specs.ConstantWords.{valued}

abbrev Held : Type 0
Held = Box TypedExpr Global

-- a form that is of no constant and none of those that compute from the words below them
pub wordless : (shape : ExprForm) (kind : Kind) (at : ℕ) → ((w : ℕ) → shape ≢ form.Const w) → ((o : UnaryOp) (a : Held) → shape ≢ form.Unary o a)
    → ((o : BinaryOp) (a b : Held) → shape ≢ form.Binary o a b) → ((a b : Held) → shape ≢ form.And a b) → ((a b : Held) → shape ≢ form.Or a b)
    → ((a : Held) → shape ≢ form.Not a) → ((a b c : Held) → shape ≢ form.Pick a b c) → ((a : Held) → shape ≢ form.Convert a)
    → None ≡ word_of (Node (form_of shape) kind at)
wordless (form.Const w) kind at not_const _ _ _ _ _ _ _ = absurd (not_const w refl)
wordless (form.Read v) kind at _ _ _ _ _ _ _ _ = refl
wordless (form.AddressOf v) kind at _ _ _ _ _ _ _ _ = refl
wordless (form.Load' p f m l) kind at _ _ _ _ _ _ _ _ = refl
wordless (form.Unary' o p f m l) kind at _ not_unary _ _ _ _ _ _ = absurd (not_unary o (record { ptr = p.ptr; alloc = p.alloc; value = record { form = f; kind = m; at = l } }) refl)
wordless (form.Binary' o p f m l q g n i) kind at _ _ not_binary _ _ _ _ _ = absurd (not_binary o (record { ptr = p.ptr; alloc = p.alloc; value = record { form = f; kind = m; at = l } }) (record { ptr = q.ptr; alloc = q.alloc; value = record { form = g; kind = n; at = i } }) refl)
wordless (form.And' p f m l q g n i) kind at _ _ _ not_and _ _ _ _ = absurd (not_and (record { ptr = p.ptr; alloc = p.alloc; value = record { form = f; kind = m; at = l } }) (record { ptr = q.ptr; alloc = q.alloc; value = record { form = g; kind = n; at = i } }) refl)
wordless (form.Or' p f m l q g n i) kind at _ _ _ _ not_or _ _ _ = absurd (not_or (record { ptr = p.ptr; alloc = p.alloc; value = record { form = f; kind = m; at = l } }) (record { ptr = q.ptr; alloc = q.alloc; value = record { form = g; kind = n; at = i } }) refl)
wordless (form.Not' p f m l) kind at _ _ _ _ _ not_not _ _ = absurd (not_not (record { ptr = p.ptr; alloc = p.alloc; value = record { form = f; kind = m; at = l } }) refl)
wordless (form.Pick' p f m l q g n i r h s j) kind at _ _ _ _ _ _ not_pick _ = absurd (not_pick (record { ptr = p.ptr; alloc = p.alloc; value = record { form = f; kind = m; at = l } }) (record { ptr = q.ptr; alloc = q.alloc; value = record { form = g; kind = n; at = i } }) (record { ptr = r.ptr; alloc = r.alloc; value = record { form = h; kind = s; at = j } }) refl)
wordless (form.Assign' to l p f m i) kind at _ _ _ _ _ _ _ _ = refl
wordless (form.AssignOp' o to l p f m i) kind at _ _ _ _ _ _ _ _ = refl
wordless (form.StepBefore' up to l) kind at _ _ _ _ _ _ _ _ = refl
wordless (form.StepAfter' up to l) kind at _ _ _ _ _ _ _ _ = refl
wordless (form.Call' n shape es) kind at _ _ _ _ _ _ _ _ = refl
wordless (form.In port) kind at _ _ _ _ _ _ _ _ = refl
wordless (form.Out' port p f m l) kind at _ _ _ _ _ _ _ _ = refl
wordless (form.Comma' p f m l q g n i) kind at _ _ _ _ _ _ _ _ = refl
wordless (form.Convert' p f m l) kind at _ _ _ _ _ _ _ not_convert = absurd (not_convert (record { ptr = p.ptr; alloc = p.alloc; value = record { form = f; kind = m; at = l } }) refl)

-- the word of a form that is this one, and that of an expression that is this one
pub of_shape : {f g : ExprForm} (kind : Kind) (at : ℕ) {word : Option ℕ} → f ≡ g → word ≡ word_of (Node (form_of g) kind at) → word ≡ word_of (Node (form_of f) kind at)
of_shape kind at is found = found ∙ ap (λ shape. word_of (Node (form_of shape) kind at)) (sym is)

pub held : {word : Option ℕ} {a b : TypedExpr} → word ≡ word_of (expr_of a) → a ≡ b → word ≡ word_of (expr_of b)
held found is = found ∙ ap (λ e. word_of (expr_of e)) is

-- a word by those of two and of three parts
pub by_two : (f : Option ℕ → Option ℕ → Option ℕ) {a b c d : Option ℕ} → a ≡ c → b ≡ d → f a b ≡ f c d
by_two f {b = b} {c = c} first second = ap (λ x. f x b) first ∙ ap (f c) second

pub by_three : (f : Option ℕ → Option ℕ → Option ℕ → Option ℕ) {a b c x y z : Option ℕ} → a ≡ x → b ≡ y → c ≡ z → f a b c ≡ f x y z
by_three f {c = c} {x = x} {y = y} first second third = by_two (λ p q. f p q c) first second ∙ ap (f x y) third

-- that of a conversion
pub of_conversion : (kind : Kind) (at : ℕ) (e : Expr) → valued kind (word_of e) ≡ word_of (Node (Convert e) kind at)
of_conversion None at e = refl
of_conversion (Some kind) at e = refl
