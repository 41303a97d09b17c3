-- The temporaries that a typed tree with other places wants are as many.
use Rattle.std.proofs.Common.{◌≡◌, ℕ, ◌+◌, max, if◌then◌else◌, Option, Some, None, refl, ap}
use Rattle.c_tree.specs.c_syntax.declared.operator.UnaryOp.TheVariants.{Minus}
use Rattle.c_tree.specs.TypedTree.{Expr, Lvalue, Named, At, Form, Node, Exprs, Stmt, Stmts, Choices}
use Rattle.c_tree.specs.TypedTree as tree
use Rattle.c_tree.specs.Temporaries.{temporaries, form_temporaries, target_temporaries, argument_temporaries, optional_temporaries, statement_temporaries, statements_temporaries, choices_temporaries, is_simple, is_constant, unless_simple}
use Rattle.c_renaming.specs.Renaming.{Renaming}
use Rattle.c_renaming.specs.RenamedPrograms.{renamed_value, renamed_target, renamed_value_form, renamed_values, renamed_optional_value, renamed_code, renamed_codes, renamed_cases}

module _ (r : Renaming) where
  constant_renamed : (e : Expr) → is_constant (renamed_value r e) ≡ is_constant e
  constant_renamed (Node (tree.Unary Minus (Node (tree.Const w) k a)) kind at) = refl
  constant_renamed (Node (tree.Convert e) kind at) = constant_renamed e
  constant_renamed (Node form kind at) = refl

  simple_renamed : (e : Expr) → is_simple (renamed_value r e) ≡ is_simple e
  simple_renamed (Node (tree.Unary Minus (Node (tree.Const w) k a)) kind at) = refl
  simple_renamed (Node (tree.Convert e) kind at) = simple_renamed e
  simple_renamed (Node form kind at) = refl

  unless_renamed : (e : Expr) (n m : ℕ) → n ≡ m → unless_simple (renamed_value r e) n ≡ unless_simple e m
  unless_renamed e n m same = λ i. if simple_renamed e i then 0 else same i

  mutual
    temporaries_renamed : (e : Expr) → temporaries (renamed_value r e) ≡ temporaries e
    temporaries_renamed (Node form kind at) = form_temporaries_renamed form

    form_temporaries_renamed : (form : Form) → form_temporaries (renamed_value_form r form) ≡ form_temporaries form
    form_temporaries_renamed (tree.Const w) = refl
    form_temporaries_renamed (tree.Read v) = refl
    form_temporaries_renamed (tree.AddressOf v) = refl
    form_temporaries_renamed (tree.Load e) = temporaries_renamed e
    form_temporaries_renamed (tree.Unary o e) = temporaries_renamed e
    form_temporaries_renamed (tree.Binary o a b) =
        λ i. max (temporaries_renamed a i) (if constant_renamed a i then temporaries_renamed b i else unless_renamed b _ _ (ap (λ n. 1 + n) (temporaries_renamed b)) i)
    form_temporaries_renamed (tree.And a b) = λ i. max (temporaries_renamed a i) (temporaries_renamed b i)
    form_temporaries_renamed (tree.Or a b) = λ i. max (temporaries_renamed a i) (temporaries_renamed b i)
    form_temporaries_renamed (tree.Not e) = temporaries_renamed e
    form_temporaries_renamed (tree.Pick c a b) = λ i. max (temporaries_renamed c i) (max (temporaries_renamed a i) (temporaries_renamed b i))
    form_temporaries_renamed (tree.Assign (Named v place) e) = temporaries_renamed e
    form_temporaries_renamed (tree.Assign (At p place) e) = λ i. max (temporaries_renamed p i) (unless_renamed e _ _ (ap (λ n. 1 + n) (temporaries_renamed e)) i)
    form_temporaries_renamed (tree.AssignOp o (Named v place) e) = unless_renamed e _ _ (ap (λ n. 1 + n) (temporaries_renamed e))
    form_temporaries_renamed (tree.AssignOp o (At p place) e) = λ i. max (temporaries_renamed p i) (unless_renamed e _ _ (ap (λ n. 2 + n) (temporaries_renamed e)) i)
    form_temporaries_renamed (tree.StepBefore up l) = target_temporaries_renamed l
    form_temporaries_renamed (tree.StepAfter up l) = target_temporaries_renamed l
    form_temporaries_renamed (tree.Call f es) = argument_temporaries_renamed es
    form_temporaries_renamed (tree.In port) = refl
    form_temporaries_renamed (tree.Out port e) = temporaries_renamed e
    form_temporaries_renamed (tree.Comma a b) = λ i. max (temporaries_renamed a i) (temporaries_renamed b i)
    form_temporaries_renamed (tree.Convert e) = temporaries_renamed e

    target_temporaries_renamed : (l : Lvalue) → target_temporaries (renamed_target r l) ≡ target_temporaries l
    target_temporaries_renamed (Named v at) = refl
    target_temporaries_renamed (At p at) = temporaries_renamed p

    argument_temporaries_renamed : (es : Exprs) → argument_temporaries (renamed_values r es) ≡ argument_temporaries es
    argument_temporaries_renamed tree.none = refl
    argument_temporaries_renamed (tree.more e tree.none) = temporaries_renamed e
    argument_temporaries_renamed (tree.more e (tree.more f rest)) = λ i. max (temporaries_renamed e i) (1 + argument_temporaries_renamed (tree.more f rest) i)

  optional_temporaries_renamed : (e : Option Expr) → optional_temporaries (renamed_optional_value r e) ≡ optional_temporaries e
  optional_temporaries_renamed None = refl
  optional_temporaries_renamed (Some e) = temporaries_renamed e

  mutual
    pub statement_temporaries_renamed : (s : Stmt) → statement_temporaries (renamed_code r s) ≡ statement_temporaries s
    statement_temporaries_renamed (tree.Block declared ss) = statements_temporaries_renamed ss
    statement_temporaries_renamed (tree.Fill n) = refl
    statement_temporaries_renamed (tree.Do_expr e) = temporaries_renamed e
    statement_temporaries_renamed (tree.If e a b) = λ i. max (temporaries_renamed e i) (max (statement_temporaries_renamed a i) (statement_temporaries_renamed b i))
    statement_temporaries_renamed (tree.While e a) = λ i. max (temporaries_renamed e i) (statement_temporaries_renamed a i)
    statement_temporaries_renamed (tree.Do_while a e) = λ i. max (statement_temporaries_renamed a i) (temporaries_renamed e i)
    statement_temporaries_renamed (tree.For x y z a) =
        λ i. max (optional_temporaries_renamed x i) (max (optional_temporaries_renamed y i) (max (optional_temporaries_renamed z i) (statement_temporaries_renamed a i)))
    statement_temporaries_renamed (tree.Switch e cs) = λ i. max (temporaries_renamed e i) (choices_temporaries_renamed cs i)
    statement_temporaries_renamed tree.Break = refl
    statement_temporaries_renamed tree.Continue = refl
    statement_temporaries_renamed (tree.Return e) = optional_temporaries_renamed e

    statements_temporaries_renamed : (ss : Stmts) → statements_temporaries (renamed_codes r ss) ≡ statements_temporaries ss
    statements_temporaries_renamed tree.done = refl
    statements_temporaries_renamed (tree.both s rest) = λ i. max (statement_temporaries_renamed s i) (statements_temporaries_renamed rest i)

    choices_temporaries_renamed : (cs : Choices) → choices_temporaries (renamed_cases r cs) ≡ choices_temporaries cs
    choices_temporaries_renamed tree.no_more = refl
    choices_temporaries_renamed (tree.case w rest) = choices_temporaries_renamed rest
    choices_temporaries_renamed (tree.default rest) = choices_temporaries_renamed rest
    choices_temporaries_renamed (tree.body s rest) = λ i. max (statement_temporaries_renamed s i) (choices_temporaries_renamed rest i)
