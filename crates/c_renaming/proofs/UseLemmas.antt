-- What a typed tree with other places uses and wants is the same but for places.
use Rattle.std.proofs.Common.{◌≡◌, ℕ, suc, ◌||◌, nat_lt, Bool, true, false, if◌then◌else◌, List, [], ◌∷◌, ◌++◌, map, Option, Some, None, refl, sym, ap, ◌∙◌}
use Rattle.std.proofs.lemmas.List.{map-append}
use Rattle.c_tree.specs.declared.program.VarRef.{VarRef}
use Rattle.c_tree.specs.declared.uses.Use.{Use}
use Rattle.c_tree.specs.declared.uses.Use.TheVariants.{Address, Call, Cases}
use Rattle.c_tree.specs.TypedTree.{Expr, Lvalue, Named, At, Form, Node, Exprs, Stmt, Stmts, Choices}
use Rattle.c_tree.specs.TypedTree as tree
use Rattle.c_tree.specs.Uses.{called, uses, form_uses, target_uses, list_uses, optional_uses, case_count, statement_uses, statements_uses, choices_uses, case_counts}
use Rattle.c_rules.specs.Programs.{names_local, is_pointed}
use Rattle.c_rules.specs.Renumbering as numbers
use Rattle.c_rules.specs.Whole.{earlier, first_without}
use Rattle.c_renaming.specs.Renaming.{Renaming}
use Rattle.c_renaming.specs.RenamedPrograms.{renamed_value, renamed_target, renamed_value_form, renamed_values, renamed_optional_value, renamed_code, renamed_codes, renamed_cases}

abbrev pub renamed_use : Renaming → Use → Use
renamed_use r (Address v) = Address v
renamed_use r (Call f at) = Call f (r.place at)
renamed_use r (Cases n) = Cases n

-- ---- places that may be absent

abbrev pub is_absent : Option ℕ → Bool
is_absent None = true
is_absent (Some at) = false

pub earlier_absent : (a b c d : Option ℕ) → is_absent a ≡ is_absent c → is_absent b ≡ is_absent d → is_absent (earlier a b) ≡ is_absent (earlier c d)
earlier_absent None b None d e f = f
earlier_absent None b (Some y) d e f = absurd cc
earlier_absent (Some x) b None d e f = absurd cc
earlier_absent (Some x) None (Some y) None e f = refl
earlier_absent (Some x) None (Some y) (Some w) e f = refl
earlier_absent (Some x) (Some z) (Some y) None e f = refl
earlier_absent (Some x) (Some z) (Some y) (Some w) e f = refl

module _ (r : Renaming) where
  -- ---- uses

  joined : (us vs xs ys : List Use) → us ≡ map (renamed_use r) xs → vs ≡ map (renamed_use r) ys → us ++ vs ≡ map (renamed_use r) (xs ++ ys)
  joined us vs xs ys e f = (λ i. e i ++ f i) ∙ sym (map-append (renamed_use r) xs ys)

  mutual
    uses_renamed : (e : Expr) → uses (renamed_value r e) ≡ map (renamed_use r) (uses e)
    uses_renamed (Node form kind at) = form_uses_renamed form at

    form_uses_renamed : (form : Form) (at : ℕ) → form_uses (renamed_value_form r form) (r.place at) ≡ map (renamed_use r) (form_uses form at)
    form_uses_renamed (tree.Const w) at = refl
    form_uses_renamed (tree.Read v) at = refl
    form_uses_renamed (tree.AddressOf v) at = refl
    form_uses_renamed (tree.Load e) at = uses_renamed e
    form_uses_renamed (tree.Unary o e) at = uses_renamed e
    form_uses_renamed (tree.Binary o a b) at = joined _ _ (uses a) (uses b) (uses_renamed a) (uses_renamed b)
    form_uses_renamed (tree.And a b) at = joined _ _ (uses a) (uses b) (uses_renamed a) (uses_renamed b)
    form_uses_renamed (tree.Or a b) at = joined _ _ (uses a) (uses b) (uses_renamed a) (uses_renamed b)
    form_uses_renamed (tree.Not e) at = uses_renamed e
    form_uses_renamed (tree.Pick c a b) at = joined _ _ (uses c) (uses a ++ uses b) (uses_renamed c) (joined _ _ (uses a) (uses b) (uses_renamed a) (uses_renamed b))
    form_uses_renamed (tree.Assign l e) at = joined _ _ (target_uses l) (uses e) (target_uses_renamed l) (uses_renamed e)
    form_uses_renamed (tree.AssignOp o l e) at = joined _ _ (target_uses l) (uses e) (target_uses_renamed l) (uses_renamed e)
    form_uses_renamed (tree.StepBefore up l) at = target_uses_renamed l
    form_uses_renamed (tree.StepAfter up l) at = target_uses_renamed l
    form_uses_renamed (tree.Call f es) at = joined _ _ (list_uses es) (Call f at ∷ []) (list_uses_renamed es) refl
    form_uses_renamed (tree.In port) at = refl
    form_uses_renamed (tree.Out port e) at = uses_renamed e
    form_uses_renamed (tree.Comma a b) at = joined _ _ (uses a) (uses b) (uses_renamed a) (uses_renamed b)
    form_uses_renamed (tree.Convert e) at = uses_renamed e

    target_uses_renamed : (l : Lvalue) → target_uses (renamed_target r l) ≡ map (renamed_use r) (target_uses l)
    target_uses_renamed (Named v at) = refl
    target_uses_renamed (At e at) = uses_renamed e

    list_uses_renamed : (es : Exprs) → list_uses (renamed_values r es) ≡ map (renamed_use r) (list_uses es)
    list_uses_renamed tree.none = refl
    list_uses_renamed (tree.more e rest) = joined _ _ (uses e) (list_uses rest) (uses_renamed e) (list_uses_renamed rest)

  optional_uses_renamed : (e : Option Expr) → optional_uses (renamed_optional_value r e) ≡ map (renamed_use r) (optional_uses e)
  optional_uses_renamed None = refl
  optional_uses_renamed (Some e) = uses_renamed e

  case_count_renamed : (cs : Choices) → case_count (renamed_cases r cs) ≡ case_count cs
  case_count_renamed tree.no_more = refl
  case_count_renamed (tree.case w rest) = ap suc (case_count_renamed rest)
  case_count_renamed (tree.default rest) = case_count_renamed rest
  case_count_renamed (tree.body s rest) = case_count_renamed rest

  mutual
    pub statement_uses_renamed : (s : Stmt) → statement_uses (renamed_code r s) ≡ map (renamed_use r) (statement_uses s)
    statement_uses_renamed (tree.Block declared ss) = statements_uses_renamed ss
    statement_uses_renamed (tree.Fill n) = refl
    statement_uses_renamed (tree.Do_expr e) = uses_renamed e
    statement_uses_renamed (tree.If e a b) =
        joined _ _ (uses e) (statement_uses a ++ statement_uses b) (uses_renamed e) (joined _ _ (statement_uses a) (statement_uses b) (statement_uses_renamed a) (statement_uses_renamed b))
    statement_uses_renamed (tree.While e a) = joined _ _ (uses e) (statement_uses a) (uses_renamed e) (statement_uses_renamed a)
    statement_uses_renamed (tree.Do_while a e) = joined _ _ (statement_uses a) (uses e) (statement_uses_renamed a) (uses_renamed e)
    statement_uses_renamed (tree.For x y z a) =
        joined _ _ (optional_uses x) (optional_uses y ++ (optional_uses z ++ statement_uses a)) (optional_uses_renamed x)
        (joined _ _ (optional_uses y) (optional_uses z ++ statement_uses a) (optional_uses_renamed y)
        (joined _ _ (optional_uses z) (statement_uses a) (optional_uses_renamed z) (statement_uses_renamed a)))
    statement_uses_renamed (tree.Switch e cs) =
        joined _ _ (uses e) (Cases (case_count cs) ∷ choices_uses cs) (uses_renamed e) (λ i. Cases (case_count_renamed cs i) ∷ choices_uses_renamed cs i)
    statement_uses_renamed tree.Break = refl
    statement_uses_renamed tree.Continue = refl
    statement_uses_renamed (tree.Return e) = optional_uses_renamed e

    statements_uses_renamed : (ss : Stmts) → statements_uses (renamed_codes r ss) ≡ map (renamed_use r) (statements_uses ss)
    statements_uses_renamed tree.done = refl
    statements_uses_renamed (tree.both s rest) = joined _ _ (statement_uses s) (statements_uses rest) (statement_uses_renamed s) (statements_uses_renamed rest)

    choices_uses_renamed : (cs : Choices) → choices_uses (renamed_cases r cs) ≡ map (renamed_use r) (choices_uses cs)
    choices_uses_renamed tree.no_more = refl
    choices_uses_renamed (tree.case w rest) = choices_uses_renamed rest
    choices_uses_renamed (tree.default rest) = choices_uses_renamed rest
    choices_uses_renamed (tree.body s rest) = joined _ _ (statement_uses s) (choices_uses rest) (statement_uses_renamed s) (choices_uses_renamed rest)

  pub called_renamed : (us : List Use) → called (map (renamed_use r) us) ≡ called us
  called_renamed [] = refl
  called_renamed (Address v ∷ us) = called_renamed us
  called_renamed (Cases n ∷ us) = called_renamed us
  called_renamed (Call f at ∷ us) = ap (λ l. f ∷ l) (called_renamed us)

  pub case_counts_renamed : (us : List Use) → case_counts (map (renamed_use r) us) ≡ case_counts us
  case_counts_renamed [] = refl
  case_counts_renamed (Address v ∷ us) = case_counts_renamed us
  case_counts_renamed (Cases n ∷ us) = ap (λ l. n ∷ l) (case_counts_renamed us)
  case_counts_renamed (Call f at ∷ us) = case_counts_renamed us

  pub is_pointed_renamed : (us : List Use) (n : ℕ) → is_pointed (map (renamed_use r) us) n ≡ is_pointed us n
  is_pointed_renamed [] n = refl
  is_pointed_renamed (Address v ∷ us) n = ap (λ b. names_local v n || b) (is_pointed_renamed us n)
  is_pointed_renamed (Cases m ∷ us) n = is_pointed_renamed us n
  is_pointed_renamed (Call f at ∷ us) n = is_pointed_renamed us n

  -- ---- renumbering

  module _ (frame : List VarRef) where
    mutual
      number_value : (e : Expr) → numbers.expression frame (renamed_value r e) ≡ renamed_value r (numbers.expression frame e)
      number_value (Node form kind at) = ap (λ f. Node f kind (r.place at)) (number_form form)

      number_form : (form : Form) → numbers.of_form frame (renamed_value_form r form) ≡ renamed_value_form r (numbers.of_form frame form)
      number_form (tree.Const w) = refl
      number_form (tree.Read v) = refl
      number_form (tree.AddressOf v) = refl
      number_form (tree.Load e) = ap tree.Load (number_value e)
      number_form (tree.Unary o e) = ap (tree.Unary o) (number_value e)
      number_form (tree.Binary o a b) = λ i. tree.Binary o (number_value a i) (number_value b i)
      number_form (tree.And a b) = λ i. tree.And (number_value a i) (number_value b i)
      number_form (tree.Or a b) = λ i. tree.Or (number_value a i) (number_value b i)
      number_form (tree.Not e) = ap tree.Not (number_value e)
      number_form (tree.Pick c a b) = λ i. tree.Pick (number_value c i) (number_value a i) (number_value b i)
      number_form (tree.Assign l e) = λ i. tree.Assign (number_target l i) (number_value e i)
      number_form (tree.AssignOp o l e) = λ i. tree.AssignOp o (number_target l i) (number_value e i)
      number_form (tree.StepBefore up l) = ap (tree.StepBefore up) (number_target l)
      number_form (tree.StepAfter up l) = ap (tree.StepAfter up) (number_target l)
      number_form (tree.Call f es) = ap (tree.Call f) (number_values es)
      number_form (tree.In port) = refl
      number_form (tree.Out port e) = ap (tree.Out port) (number_value e)
      number_form (tree.Comma a b) = λ i. tree.Comma (number_value a i) (number_value b i)
      number_form (tree.Convert e) = ap tree.Convert (number_value e)

      number_target : (l : Lvalue) → numbers.target frame (renamed_target r l) ≡ renamed_target r (numbers.target frame l)
      number_target (Named v at) = refl
      number_target (At e at) = ap (λ x. At x (r.place at)) (number_value e)

      number_values : (es : Exprs) → numbers.arguments frame (renamed_values r es) ≡ renamed_values r (numbers.arguments frame es)
      number_values tree.none = refl
      number_values (tree.more e rest) = λ i. tree.more (number_value e i) (number_values rest i)

    number_optional : (e : Option Expr) → numbers.optional frame (renamed_optional_value r e) ≡ renamed_optional_value r (numbers.optional frame e)
    number_optional None = refl
    number_optional (Some e) = ap Some (number_value e)

    mutual
      pub number_code : (s : Stmt) → numbers.statement frame (renamed_code r s) ≡ renamed_code r (numbers.statement frame s)
      number_code (tree.Block declared ss) = ap (tree.Block (map (numbers.renumbered frame) declared)) (number_codes ss)
      number_code (tree.Fill n) = refl
      number_code (tree.Do_expr e) = ap tree.Do_expr (number_value e)
      number_code (tree.If e a b) = λ i. tree.If (number_value e i) (number_code a i) (number_code b i)
      number_code (tree.While e a) = λ i. tree.While (number_value e i) (number_code a i)
      number_code (tree.Do_while a e) = λ i. tree.Do_while (number_code a i) (number_value e i)
      number_code (tree.For x y z a) = λ i. tree.For (number_optional x i) (number_optional y i) (number_optional z i) (number_code a i)
      number_code (tree.Switch e cs) = λ i. tree.Switch (number_value e i) (number_cases cs i)
      number_code tree.Break = refl
      number_code tree.Continue = refl
      number_code (tree.Return e) = ap tree.Return (number_optional e)

      number_codes : (ss : Stmts) → numbers.statements frame (renamed_codes r ss) ≡ renamed_codes r (numbers.statements frame ss)
      number_codes tree.done = refl
      number_codes (tree.both s rest) = λ i. tree.both (number_code s i) (number_codes rest i)

      number_cases : (cs : Choices) → numbers.choices frame (renamed_cases r cs) ≡ renamed_cases r (numbers.choices frame cs)
      number_cases tree.no_more = refl
      number_cases (tree.case w rest) = ap (tree.case w) (number_cases rest)
      number_cases (tree.default rest) = ap tree.default (number_cases rest)
      number_cases (tree.body s rest) = λ i. tree.body (number_code s i) (number_cases rest i)

  -- ---- calls without a body

  first_behind : (bodies at : ℕ) (us : List Use) (b : Bool) → is_absent (first_without bodies (map (renamed_use r) us)) ≡ is_absent (first_without bodies us)
      → is_absent (if b then first_without bodies (map (renamed_use r) us) else earlier (Some (r.place at)) (first_without bodies (map (renamed_use r) us)))
      ≡ is_absent (if b then first_without bodies us else earlier (Some at) (first_without bodies us))
  first_behind bodies at us true e = e
  first_behind bodies at us false e = earlier_absent (Some (r.place at)) (first_without bodies (map (renamed_use r) us)) (Some at) (first_without bodies us) refl e

  pub first_without_renamed : (bodies : ℕ) (us : List Use) → is_absent (first_without bodies (map (renamed_use r) us)) ≡ is_absent (first_without bodies us)
  first_without_renamed bodies [] = refl
  first_without_renamed bodies (Address v ∷ us) = first_without_renamed bodies us
  first_without_renamed bodies (Cases n ∷ us) = first_without_renamed bodies us
  first_without_renamed bodies (Call f at ∷ us) = first_behind bodies at us (nat_lt f bodies) (first_without_renamed bodies us)
