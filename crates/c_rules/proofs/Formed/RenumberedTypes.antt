-- A well-formed body stays well-formed once each object of its function has its number among its own kind.
use Rattle.std.proofs.Common.{◌≡◌, ◌++◌, ◌∷◌, [], ℕ, List, map, Option, Some, None, ap, ◌∙◌, sym, refl, subst}
use Rattle.std.specs.Prelude.{⊤, ◌==◌, ◌||◌}
use Rattle.c_tree.specs.declared.program.VarRef.{VarRef}
use Rattle.c_tree.specs.declared.program.VarRef.TheVariants as refs
use Rattle.c_tree.specs.TypedTree as tree
use Rattle.c_tree.specs.TypedTree.{Kind, Expr, Node, Lvalue, Named, At, Form, Exprs, Stmt, Stmts, Choices}
use Rattle.c_tree.specs.declared.enclosing.Enclosing.{Enclosing}
use Rattle.c_tree.specs.declared.enclosing.Enclosing.TheVariants as around
use Rattle.c_tree.specs.declared.uses.Use.{Use}
use Rattle.c_tree.specs.declared.uses.Use.TheVariants.{Address, Call, Cases}
use Rattle.c_rules.specs.Renumbering as by
use Rattle.c_rules.specs.Statements.{has_case, has_default, repeats_label, in_switch}
use Rattle.c_tree.specs.Uses.{uses, form_uses, target_uses, list_uses, optional_uses, statement_uses, statements_uses, choices_uses, case_count}
use Rattle.c_tree.specs.WellFormed.{Shape, Names, IsCell, IsAddressable, PointsTo, IsCall, kinds_of, IsWellTyped, HasForm, IsTarget, AreWellTyped, IsTest, IsOptional, IsOptionalTest, IsReturned, IsWellFormed, AreWellFormed, HasChoices, opened}
use Rattle.c_rules.proofs.Formed.RenumberedNames.{Renumbers, Carries, opened_carries, all_there, new_kept, kept_fill}

-- labels are kept
module _ (frame : List VarRef) where
  same_case : (w : ℕ) (cs : Choices) → has_case w (by.choices frame cs) ≡ has_case w cs
  same_case w tree.no_more = refl
  same_case w (tree.case v rest) = ap (λ b. w == v || b) (same_case w rest)
  same_case w (tree.default rest) = same_case w rest
  same_case w (tree.body s rest) = same_case w rest

  same_default : (cs : Choices) → has_default (by.choices frame cs) ≡ has_default cs
  same_default tree.no_more = refl
  same_default (tree.case v rest) = same_default rest
  same_default (tree.default rest) = refl
  same_default (tree.body s rest) = same_default rest

  same_labels : (cs : Choices) → repeats_label (by.choices frame cs) ≡ repeats_label cs
  same_labels tree.no_more = refl
  same_labels (tree.case w rest) = ap (λ b. b || repeats_label (by.choices frame rest)) (same_case w rest) ∙ ap (λ b. has_case w rest || b) (same_labels rest)
  same_labels (tree.default rest) = ap (λ b. b || repeats_label (by.choices frame rest)) (same_default rest) ∙ ap (λ b. has_default rest || b) (same_labels rest)
  same_labels (tree.body s rest) = same_labels rest

  same_kinds : (es : Exprs) → kinds_of (by.arguments frame es) ≡ kinds_of es
  same_kinds tree.none = refl
  same_kinds (tree.more (Node form kind at) rest) = ap (λ ks. kind ∷ ks) (same_kinds rest)

-- an object whose address is taken keeps one
abbrev pub HasAddress : List VarRef → Use → Type 0
HasAddress frame (Address (refs.Local n)) = IsAddressable (by.numbered frame n)
HasAddress frame (Address (refs.Scalar n)) = ⊤
HasAddress frame (Address (refs.Static n)) = ⊤
HasAddress frame (Call f at) = ⊤
HasAddress frame (Cases n) = ⊤

abbrev pub HaveAddresses : List VarRef → List Use → Type 0
HaveAddresses frame [] = ⊤
HaveAddresses frame (u ∷ us) = HasAddress frame u × HaveAddresses frame us

module _ (frame : List VarRef) where
  first_have : (us vs : List Use) → HaveAddresses frame (us ++ vs) → HaveAddresses frame us
  first_have [] vs have = tt
  first_have (u ∷ us) vs have = (have.0, first_have us vs have.1)

  last_have : (us vs : List Use) → HaveAddresses frame (us ++ vs) → HaveAddresses frame vs
  last_have [] vs have = have
  last_have (u ∷ us) vs have = last_have us vs have.1

same_cell : (o p : Option Shape) (kind : Kind) → ((shape : Shape) → o ≡ Some shape → p ≡ Some shape) → IsCell o kind → IsCell p kind
same_cell o p None carries cell = cell
same_cell o p (Some kind) carries cell = carries (record { kind = kind; length = 1 }) cell

same_pointer : (o p : Option Shape) (kind : Kind) → ((shape : Shape) → o ≡ Some shape → p ≡ Some shape) → PointsTo o kind → PointsTo p kind
same_pointer None p kind carries points = absurd points
same_pointer (Some shape) p kind carries points = subst (λ q. PointsTo q kind) (sym (carries shape refl)) points

kept_address : (frame : List VarRef) (v : VarRef) → HasAddress frame (Address v) → IsAddressable v → IsAddressable (by.renumbered frame v)
kept_address frame (refs.Local n) have is = have
kept_address frame (refs.Scalar n) have is = is
kept_address frame (refs.Static n) have is = is

module _ (frame : List VarRef) (objects : VarRef → Option Shape) (names others : Names) (carries : Carries frame objects names others) where
  kept_call : (f : ℕ) (es : Exprs) (kind : Kind) → IsCall (names.function f) (kinds_of es) kind → IsCall (others.function f) (kinds_of (by.arguments frame es)) kind
  kept_call f es kind call =
      subst (λ ks. IsCall (others.function f) ks kind) (sym (same_kinds frame es)) (subst (λ s. IsCall s (kinds_of es) kind) (sym (carries.function f)) call)

  mutual
    kept_expression : (e : Expr) → HaveAddresses frame (uses e) → IsWellTyped names e → IsWellTyped others (by.expression frame e)
    kept_expression (Node form kind at) have typed = (typed.0, kept_form form kind at have typed.1)

    kept_form : (form : Form) (kind : Kind) (at : ℕ) → HaveAddresses frame (form_uses form at) → HasForm names form kind → HasForm others (by.of_form frame form) kind
    kept_form (tree.Const w) kind at have typed = typed
    kept_form (tree.Read v) kind at have typed = same_cell (names.object v) (others.object (by.renumbered frame v)) kind (carries.object v) typed
    kept_form (tree.AddressOf v) kind at have typed =
        (kept_address frame v have.0 typed.0, same_pointer (names.object v) (others.object (by.renumbered frame v)) kind (carries.object v) typed.1)
    kept_form (tree.Load (Node f k x)) kind at have typed = (kept_expression (Node f k x) have typed.0, typed.1)
    kept_form (tree.Unary o (Node f k x)) kind at have typed = (kept_expression (Node f k x) have typed.0, typed.1, typed.2)
    kept_form (tree.Binary o (Node f k x) (Node g l y)) kind at have typed = (
      kept_expression (Node f k x) (first_have frame (form_uses f x) (form_uses g y) have) typed.0,
      kept_expression (Node g l y) (last_have frame (form_uses f x) (form_uses g y) have) typed.1,
      typed.2,
    )
    kept_form (tree.And (Node f k x) (Node g l y)) kind at have typed = (
      kept_expression (Node f k x) (first_have frame (form_uses f x) (form_uses g y) have) typed.0,
      kept_expression (Node g l y) (last_have frame (form_uses f x) (form_uses g y) have) typed.1,
      typed.2,
      typed.3,
      typed.4,
    )
    kept_form (tree.Or (Node f k x) (Node g l y)) kind at have typed = (
      kept_expression (Node f k x) (first_have frame (form_uses f x) (form_uses g y) have) typed.0,
      kept_expression (Node g l y) (last_have frame (form_uses f x) (form_uses g y) have) typed.1,
      typed.2,
      typed.3,
      typed.4,
    )
    kept_form (tree.Not (Node f k x)) kind at have typed = (kept_expression (Node f k x) have typed.0, typed.1, typed.2)
    kept_form (tree.Pick (Node f k x) (Node g l y) (Node h m z)) kind at have typed =
        let rest = last_have frame (form_uses f x) (form_uses g y ++ form_uses h z) have
        in (
          kept_expression (Node f k x) (first_have frame (form_uses f x) (form_uses g y ++ form_uses h z) have) typed.0,
          kept_expression (Node g l y) (first_have frame (form_uses g y) (form_uses h z) rest) typed.1,
          kept_expression (Node h m z) (last_have frame (form_uses g y) (form_uses h z) rest) typed.2,
          typed.3,
          typed.4,
          typed.5,
        )
    kept_form (tree.Assign l (Node f k x)) kind at have typed = (
      kept_target l kind (first_have frame (target_uses l) (form_uses f x) have) typed.0,
      kept_expression (Node f k x) (last_have frame (target_uses l) (form_uses f x) have) typed.1,
      typed.2,
    )
    kept_form (tree.AssignOp o l (Node f k x)) kind at have typed = (
      kept_target l kind (first_have frame (target_uses l) (form_uses f x) have) typed.0,
      kept_expression (Node f k x) (last_have frame (target_uses l) (form_uses f x) have) typed.1,
      typed.2,
    )
    kept_form (tree.StepBefore up l) kind at have typed = kept_target l kind have typed
    kept_form (tree.StepAfter up l) kind at have typed = kept_target l kind have typed
    kept_form (tree.Call f es) kind at have typed =
        (kept_arguments es (first_have frame (list_uses es) (Call f at ∷ []) have) typed.0, kept_call f es kind typed.1)
    kept_form (tree.In port) kind at have typed = typed
    kept_form (tree.Out port (Node f k x)) kind at have typed = (kept_expression (Node f k x) have typed.0, typed.1, typed.2, typed.3)
    kept_form (tree.Comma (Node f k x) (Node g l y)) kind at have typed = (
      kept_expression (Node f k x) (first_have frame (form_uses f x) (form_uses g y) have) typed.0,
      kept_expression (Node g l y) (last_have frame (form_uses f x) (form_uses g y) have) typed.1,
      typed.2,
    )
    kept_form (tree.Convert (Node f k x)) kind at have typed = (kept_expression (Node f k x) have typed.0, typed.1)

    kept_target : (l : Lvalue) (kind : Kind) → HaveAddresses frame (target_uses l) → IsTarget names l kind → IsTarget others (by.target frame l) kind
    kept_target (Named v at) kind have typed = same_cell (names.object v) (others.object (by.renumbered frame v)) kind (carries.object v) typed
    kept_target (At (Node f k x) at) kind have typed = (kept_expression (Node f k x) have typed.0, typed.1)

    kept_arguments : (es : Exprs) → HaveAddresses frame (list_uses es) → AreWellTyped names es → AreWellTyped others (by.arguments frame es)
    kept_arguments tree.none have typed = tt
    kept_arguments (tree.more e rest) have typed =
        (kept_expression e (first_have frame (uses e) (list_uses rest) have) typed.0, kept_arguments rest (last_have frame (uses e) (list_uses rest) have) typed.1)

  kept_test : (e : Expr) → HaveAddresses frame (uses e) → IsTest names e → IsTest others (by.expression frame e)
  kept_test (Node f k x) have test = (kept_expression (Node f k x) have test.0, test.1)

  kept_optional : (e : Option Expr) → HaveAddresses frame (optional_uses e) → IsOptional names e → IsOptional others (by.optional frame e)
  kept_optional None have typed = tt
  kept_optional (Some e) have typed = kept_expression e have typed

  kept_optional_test : (e : Option Expr) → HaveAddresses frame (optional_uses e) → IsOptionalTest names e → IsOptionalTest others (by.optional frame e)
  kept_optional_test None have test = tt
  kept_optional_test (Some e) have test = kept_test e have test

  kept_returned : (result : Kind) (e : Option Expr) → HaveAddresses frame (optional_uses e) → IsReturned names result e → IsReturned others result (by.optional frame e)
  kept_returned result None have returned = returned
  kept_returned result (Some (Node f k x)) have returned = (kept_test (Node f k x) have returned.0, returned.1)

-- the statements of a function
module _ (frame : List VarRef) (objects later : VarRef → Option Shape) (renumbers : Renumbers frame objects later) (result : Kind) where
  mutual
    pub kept_statement : (names others : Names) → Carries frame objects names others → (c : Enclosing) (s : Stmt) → HaveAddresses frame (statement_uses s)
        → IsWellFormed objects result names c s → IsWellFormed later result others c (by.statement frame s)
    kept_statement names others carries c (tree.Block declared ss) have formed = (
      new_kept frame objects later renumbers names others carries declared formed.0,
      kept_statements (opened objects declared names) (opened later (map (by.renumbered frame) declared) others)
          (opened_carries frame objects later renumbers names others carries declared (all_there frame objects later renumbers names declared formed.0)) c ss have formed.1,
    )
    kept_statement names others carries c (tree.Fill n) have formed = kept_fill frame objects names others carries n formed
    kept_statement names others carries c (tree.Do_expr e) have formed = kept_expression frame objects names others carries e have formed
    kept_statement names others carries c (tree.If e a b) have formed =
        let rest = last_have frame (uses e) (statement_uses a ++ statement_uses b) have
        in (
          kept_test frame objects names others carries e (first_have frame (uses e) (statement_uses a ++ statement_uses b) have) formed.0,
          kept_statement names others carries c a (first_have frame (statement_uses a) (statement_uses b) rest) formed.1,
          kept_statement names others carries c b (last_have frame (statement_uses a) (statement_uses b) rest) formed.2,
        )
    kept_statement names others carries c (tree.While e a) have formed = (
      kept_test frame objects names others carries e (first_have frame (uses e) (statement_uses a) have) formed.0,
      kept_statement names others carries around.Loop a (last_have frame (uses e) (statement_uses a) have) formed.1,
    )
    kept_statement names others carries c (tree.Do_while a e) have formed = (
      kept_statement names others carries around.Loop a (first_have frame (statement_uses a) (uses e) have) formed.0,
      kept_test frame objects names others carries e (last_have frame (statement_uses a) (uses e) have) formed.1,
    )
    kept_statement names others carries c (tree.For x y z a) have formed =
        let behind_first = last_have frame (optional_uses x) (optional_uses y ++ (optional_uses z ++ statement_uses a)) have
        in let behind_test = last_have frame (optional_uses y) (optional_uses z ++ statement_uses a) behind_first
        in (
          kept_optional frame objects names others carries x (first_have frame (optional_uses x) (optional_uses y ++ (optional_uses z ++ statement_uses a)) have) formed.0,
          kept_optional_test frame objects names others carries y (first_have frame (optional_uses y) (optional_uses z ++ statement_uses a) behind_first) formed.1,
          kept_optional frame objects names others carries z (first_have frame (optional_uses z) (statement_uses a) behind_test) formed.2,
          kept_statement names others carries around.Loop a (last_have frame (optional_uses z) (statement_uses a) behind_test) formed.3,
        )
    kept_statement names others carries c (tree.Switch (Node f k x) cs) have formed =
        let counted : List Use = Cases (case_count cs) ∷ choices_uses cs
        in (
          kept_expression frame objects names others carries (Node f k x) (first_have frame (form_uses f x) counted have) formed.0,
          formed.1,
          same_labels frame cs ∙ formed.2,
          kept_choices names others carries (in_switch c) cs (last_have frame (form_uses f x) counted have).1 formed.3,
        )
    kept_statement names others carries c tree.Break have formed = formed
    kept_statement names others carries c tree.Continue have formed = formed
    kept_statement names others carries c (tree.Return e) have formed = kept_returned frame objects names others carries result e have formed

    kept_statements : (names others : Names) → Carries frame objects names others → (c : Enclosing) (ss : Stmts) → HaveAddresses frame (statements_uses ss)
        → AreWellFormed objects result names c ss → AreWellFormed later result others c (by.statements frame ss)
    kept_statements names others carries c tree.done have formed = tt
    kept_statements names others carries c (tree.both s rest) have formed = (
      kept_statement names others carries c s (first_have frame (statement_uses s) (statements_uses rest) have) formed.0,
      kept_statements names others carries c rest (last_have frame (statement_uses s) (statements_uses rest) have) formed.1,
    )

    kept_choices : (names others : Names) → Carries frame objects names others → (c : Enclosing) (cs : Choices) → HaveAddresses frame (choices_uses cs)
        → HasChoices objects result names c cs → HasChoices later result others c (by.choices frame cs)
    kept_choices names others carries c tree.no_more have formed = tt
    kept_choices names others carries c (tree.case w rest) have formed = kept_choices names others carries c rest have formed
    kept_choices names others carries c (tree.default rest) have formed = kept_choices names others carries c rest have formed
    kept_choices names others carries c (tree.body s rest) have formed = (
      kept_statement names others carries c s (first_have frame (statement_uses s) (choices_uses rest) have) formed.0,
      kept_choices names others carries c rest (last_have frame (statement_uses s) (choices_uses rest) have) formed.1,
    )
