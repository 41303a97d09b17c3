-- What a body uses and how many temporaries it needs, once each object of its function has its number among its own kind.
use Rattle.std.proofs.Common.{◌≡◌, ◌++◌, ◌∷◌, [], ℕ, suc, List, map, Option, Some, None, ap, ◌∙◌, sym, refl}
use Rattle.std.proofs.lemmas.List.{map-append}
use Rattle.c_tree.specs.declared.program.VarRef.{VarRef}
use Rattle.c_tree.specs.TypedTree as tree
use Rattle.c_tree.specs.TypedTree.{Kind, Expr, Node, Lvalue, Named, At, Form, Exprs, Stmt, Stmts, Choices}
use Rattle.c_tree.specs.declared.uses.Use.{Use}
use Rattle.c_tree.specs.declared.uses.Use.TheVariants.{Address, Call, Cases}
use Rattle.c_rules.specs.Renumbering as by
use Rattle.c_tree.specs.Uses.{called, uses, form_uses, target_uses, list_uses, optional_uses, statement_uses, statements_uses, choices_uses, case_count}
use Rattle.c_rules.specs.Whole.{case_counts}

-- an address is that of the object by its new number
abbrev pub use_by : List VarRef → Use → Use
use_by frame (Address r) = Address (by.renumbered frame r)
use_by frame (Call f at) = Call f at
use_by frame (Cases n) = Cases n

module _ (frame : List VarRef) where
  abbrev uses_by : List Use → List Use
  uses_by us = map (use_by frame) us

  -- two parts, and three
  both_by : {us vs : List Use} (ws xs : List Use) → us ≡ uses_by ws → vs ≡ uses_by xs → us ++ vs ≡ uses_by (ws ++ xs)
  both_by {us = us} {vs = vs} ws xs first last = ap (λ l. l ++ vs) first ∙ ap (λ l. uses_by ws ++ l) last ∙ sym (map-append (use_by frame) ws xs)

  same_count : (cs : Choices) → case_count (by.choices frame cs) ≡ case_count cs
  same_count tree.no_more = refl
  same_count (tree.case w rest) = ap suc (same_count rest)
  same_count (tree.default rest) = same_count rest
  same_count (tree.body s rest) = same_count rest

  mutual
    uses_kept : (e : Expr) → uses (by.expression frame e) ≡ uses_by (uses e)
    uses_kept (Node form kind at) = form_kept form at

    form_kept : (form : Form) (at : ℕ) → form_uses (by.of_form frame form) at ≡ uses_by (form_uses form at)
    form_kept (tree.Const w) at = refl
    form_kept (tree.Read v) at = refl
    form_kept (tree.AddressOf v) at = refl
    form_kept (tree.Load e) at = uses_kept e
    form_kept (tree.Unary o e) at = uses_kept e
    form_kept (tree.Binary o a b) at = both_by _ _ (uses_kept a) (uses_kept b)
    form_kept (tree.And a b) at = both_by _ _ (uses_kept a) (uses_kept b)
    form_kept (tree.Or a b) at = both_by _ _ (uses_kept a) (uses_kept b)
    form_kept (tree.Not e) at = uses_kept e
    form_kept (tree.Pick c a b) at = both_by _ _ (uses_kept c) (both_by _ _ (uses_kept a) (uses_kept b))
    form_kept (tree.Assign l e) at = both_by _ _ (target_kept l) (uses_kept e)
    form_kept (tree.AssignOp o l e) at = both_by _ _ (target_kept l) (uses_kept e)
    form_kept (tree.StepBefore up l) at = target_kept l
    form_kept (tree.StepAfter up l) at = target_kept l
    form_kept (tree.Call f es) at = both_by _ _ (list_kept es) refl
    form_kept (tree.In port) at = refl
    form_kept (tree.Out port e) at = uses_kept e
    form_kept (tree.Comma a b) at = both_by _ _ (uses_kept a) (uses_kept b)
    form_kept (tree.Convert e) at = uses_kept e

    target_kept : (l : Lvalue) → target_uses (by.target frame l) ≡ uses_by (target_uses l)
    target_kept (Named v at) = refl
    target_kept (At e at) = uses_kept e

    list_kept : (es : Exprs) → list_uses (by.arguments frame es) ≡ uses_by (list_uses es)
    list_kept tree.none = refl
    list_kept (tree.more e rest) = both_by _ _ (uses_kept e) (list_kept rest)

  optional_kept : (e : Option Expr) → optional_uses (by.optional frame e) ≡ uses_by (optional_uses e)
  optional_kept None = refl
  optional_kept (Some e) = uses_kept e

  mutual
    pub statement_kept : (s : Stmt) → statement_uses (by.statement frame s) ≡ uses_by (statement_uses s)
    statement_kept (tree.Block declared ss) = statements_kept ss
    statement_kept (tree.Fill n) = refl
    statement_kept (tree.Do_expr e) = uses_kept e
    statement_kept (tree.If e a b) = both_by _ _ (uses_kept e) (both_by _ _ (statement_kept a) (statement_kept b))
    statement_kept (tree.While e a) = both_by _ _ (uses_kept e) (statement_kept a)
    statement_kept (tree.Do_while a e) = both_by _ _ (statement_kept a) (uses_kept e)
    statement_kept (tree.For x y z a) = both_by _ _ (optional_kept x) (both_by _ _ (optional_kept y) (both_by _ _ (optional_kept z) (statement_kept a)))
    statement_kept (tree.Switch e cs) = both_by _ _ (uses_kept e) (ap (λ n. Cases n ∷ choices_uses (by.choices frame cs)) (same_count cs) ∙ ap (λ us. Cases (case_count cs) ∷ us) (choices_kept cs))
    statement_kept tree.Break = refl
    statement_kept tree.Continue = refl
    statement_kept (tree.Return e) = optional_kept e

    statements_kept : (ss : Stmts) → statements_uses (by.statements frame ss) ≡ uses_by (statements_uses ss)
    statements_kept tree.done = refl
    statements_kept (tree.both s rest) = both_by _ _ (statement_kept s) (statements_kept rest)

    choices_kept : (cs : Choices) → choices_uses (by.choices frame cs) ≡ uses_by (choices_uses cs)
    choices_kept tree.no_more = refl
    choices_kept (tree.case w rest) = choices_kept rest
    choices_kept (tree.default rest) = choices_kept rest
    choices_kept (tree.body s rest) = both_by _ _ (statement_kept s) (choices_kept rest)

  same_counts : (us : List Use) → case_counts (uses_by us) ≡ case_counts us
  same_counts [] = refl
  same_counts (Address r ∷ us) = same_counts us
  same_counts (Call f at ∷ us) = same_counts us
  same_counts (Cases n ∷ us) = ap (λ ns. n ∷ ns) (same_counts us)

  -- the cases of the switches of a body
  pub counts_kept : (s : Stmt) → case_counts (statement_uses (by.statement frame s)) ≡ case_counts (statement_uses s)
  counts_kept s = ap case_counts (statement_kept s) ∙ same_counts (statement_uses s)

  -- what is called stays
  pub same_calls : (us : List Use) → called (uses_by us) ≡ called us
  same_calls [] = refl
  same_calls (Address r ∷ us) = same_calls us
  same_calls (Cases n ∷ us) = same_calls us
  same_calls (Call f at ∷ us) = ap (λ ms. f ∷ ms) (same_calls us)
