-- Constant expressions, and what the text of an expression tells, where names and places are others.
use Rattle.std.proofs.Common.{◌≡◌, ℕ, ◌==◌, ◌&&◌, Bool, if◌then◌else◌, Option, Some, None, refl, ap, ◌∙◌}
use Rattle.c_tree.specs.c_syntax.declared.operator.BinaryOp.{BinaryOp}
use Rattle.c_tree.specs.c_syntax.declared.syntax.PrefixOp.TheVariants as prefix
use Rattle.c_tree.specs.c_syntax.declared.syntax.SpecWord.TheVariants as words
use Rattle.c_tree.specs.c_syntax.SyntaxTree as tree
use Rattle.c_tree.specs.c_syntax.SyntaxTree.{Expression, ExpressionForm}
use Rattle.c_tree.specs.TypedTree.{Kind, Expr, Node, Const, Unary, Binary, And, Or, Not, Pick, Convert}
use Rattle.c_rules.specs.Constants.{is_fixed, is_fixed_form, word_of_one, word_of_two, truth_of, tested, word_of, constant}
use Rattle.c_rules.specs.Typing.{has, is_zero, is_null, is_address, place}
use Rattle.c_renaming.specs.Renaming.{Renaming}
use Rattle.c_renaming.specs.RenamedTrees.{renamed_expression, renamed_form}
use Rattle.c_renaming.specs.RenamedPrograms.{renamed_value}
use Rattle.c_renaming.proofs.OperandLemmas.{kind_renamed}

both_same : (a b c d : Bool) → a ≡ c → b ≡ d → (a && b) ≡ (c && d)
both_same a b c d p q = ap (λ (z : Bool). z && b) p ∙ ap (λ (z : Bool). c && z) q

module _ (r : Renaming) where
  pub place_of_renamed : (e : Expression) → place (renamed_expression r e) ≡ r.place (place e)
  place_of_renamed (tree.Node form at) = refl

  pub is_zero_renamed : (e : Expression) → is_zero (renamed_expression r e) ≡ is_zero e
  is_zero_renamed (tree.Node (tree.Number v m d) at) = refl
  is_zero_renamed (tree.Node form at) = refl

  pub is_null_renamed : (e : Expression) → is_null (renamed_expression r e) ≡ is_null e
  is_null_renamed (tree.Node (tree.Cast t e) at) = ap (λ (b : Bool). b && has words.Void t.specs.words && t.stars == 1) (is_zero_renamed e)
  is_null_renamed (tree.Node form at) = refl

  pub is_address_renamed : (e : Expression) → is_address (renamed_expression r e) ≡ is_address e
  is_address_renamed (tree.Node (tree.Prefix prefix.Address e) at) = refl
  is_address_renamed (tree.Node (tree.Prefix o e) at) = refl
  is_address_renamed (tree.Node form at) = refl

  mutual
    pub is_fixed_renamed : (e : Expression) → is_fixed (renamed_expression r e) ≡ is_fixed e
    is_fixed_renamed (tree.Node form at) = is_fixed_form_renamed form

    pub is_fixed_form_renamed : (form : ExpressionForm) → is_fixed_form (renamed_form r form) ≡ is_fixed_form form
    is_fixed_form_renamed (tree.Name n) = refl
    is_fixed_form_renamed (tree.Number v m d) = refl
    is_fixed_form_renamed (tree.Character v) = refl
    is_fixed_form_renamed (tree.Index a b) = both_same _ _ _ _ (is_fixed_renamed a) (is_fixed_renamed b)
    is_fixed_form_renamed (tree.Call n arguments) = refl
    is_fixed_form_renamed (tree.StepAfter up e) = refl
    is_fixed_form_renamed (tree.StepBefore up e) = refl
    is_fixed_form_renamed (tree.Prefix o e) = is_fixed_renamed e
    is_fixed_form_renamed (tree.SizeofValue e) = is_fixed_renamed e
    is_fixed_form_renamed (tree.SizeofType t) = refl
    is_fixed_form_renamed (tree.Cast t e) = is_fixed_renamed e
    is_fixed_form_renamed (tree.Binary o a b) = both_same _ _ _ _ (is_fixed_renamed a) (is_fixed_renamed b)
    is_fixed_form_renamed (tree.And a b) = both_same _ _ _ _ (is_fixed_renamed a) (is_fixed_renamed b)
    is_fixed_form_renamed (tree.Or a b) = both_same _ _ _ _ (is_fixed_renamed a) (is_fixed_renamed b)
    is_fixed_form_renamed (tree.Conditional c a b) =
        both_same _ _ _ _ (both_same _ _ _ _ (is_fixed_renamed c) (is_fixed_renamed a)) (is_fixed_renamed b)
    is_fixed_form_renamed (tree.Assign a b) = refl
    is_fixed_form_renamed (tree.AssignOp o a b) = refl
    is_fixed_form_renamed (tree.Comma a b) = refl

  two_words : (o : BinaryOp) (k l m n : Kind) (a b c d : Option ℕ) → k ≡ m → l ≡ n → a ≡ c → b ≡ d → word_of_two o k l a b ≡ word_of_two o m n c d
  two_words o k l m n a b c d p q x y =
      ap (λ (z : Kind). word_of_two o z l a b) p ∙ ap (λ (z : Kind). word_of_two o m z a b) q
      ∙ ap (λ (z : Option ℕ). word_of_two o m n z b) x ∙ ap (λ (z : Option ℕ). word_of_two o m n c z) y

  tests : (a b c d e f : Option ℕ) → a ≡ d → b ≡ e → c ≡ f → tested a b c ≡ tested d e f
  tests a b c d e f p q x =
      ap (λ (z : Option ℕ). tested z b c) p ∙ ap (λ (z : Option ℕ). tested d z c) q ∙ ap (λ (z : Option ℕ). tested d e z) x

  pub word_of_renamed : (x : Expr) → word_of (renamed_value r x) ≡ word_of x
  word_of_renamed (Node (Const w) kind at) = refl
  word_of_renamed (Node (Unary o e) kind at) = ap (word_of_one o kind) (word_of_renamed e)
  word_of_renamed (Node (Binary o a b) kind at) =
      two_words o _ _ _ _ _ _ _ _ (kind_renamed r a) (kind_renamed r b) (word_of_renamed a) (word_of_renamed b)
  word_of_renamed (Node (And a b) kind at) = tests _ _ _ _ _ _ (word_of_renamed a) (ap truth_of (word_of_renamed b)) refl
  word_of_renamed (Node (Or a b) kind at) = tests _ _ _ _ _ _ (word_of_renamed a) refl (ap truth_of (word_of_renamed b))
  word_of_renamed (Node (Not a) kind at) = tests _ _ _ _ _ _ (word_of_renamed a) refl refl
  word_of_renamed (Node (Pick c a b) kind at) = tests _ _ _ _ _ _ (word_of_renamed c) (word_of_renamed a) (word_of_renamed b)
  word_of_renamed (Node (Convert e) None at) = refl
  word_of_renamed (Node (Convert e) (Some kind) at) = word_of_renamed e
  word_of_renamed (Node form kind at) = refl

  pub constant_renamed : (e : Expression) (x : Expr) → constant (renamed_expression r e) (renamed_value r x) ≡ constant e x
  constant_renamed e x =
      ap (λ (b : Bool). if b then word_of (renamed_value r x) else None) (is_fixed_renamed e)
      ∙ ap (λ (w : Option ℕ). if is_fixed e then w else None) (word_of_renamed x)
