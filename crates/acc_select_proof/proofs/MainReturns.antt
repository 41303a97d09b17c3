-- The word tree of a well-formed program returns a value wherever its main returns, since `int main(void)` has a value.
use Rattle.std.proofs.Common.{◌≡◌, ℕ, true, Option, Some, None, refl, sym, ap, ◌∙◌, subst}
use Rattle.std.specs.Prelude.{slice_get, option_map}
use Rattle.std.proofs.lemmas.Option.{slice_get-map}
use Rattle.c_tree.specs.declared.enclosing.Enclosing.{Enclosing}
use Rattle.c_tree.specs.declared.enclosing.Enclosing.TheVariants as around
use Rattle.c_tree.specs.declared.program.ScalarType.{ScalarType}
use Rattle.c_tree.specs.declared.program.VarRef.{VarRef}
use Rattle.c_tree.specs.Labels.{in_switch}
use Rattle.c_tree.specs.SourceRun.{main_name}
use Rattle.c_tree.specs.TypedTree as tree
use Rattle.c_tree.specs.TypedTree.{Stmt, Stmts, Choices, FunctionTree, ProgramTree}
use Rattle.c_tree.specs.WellFormed.{Shape, Names, opened, IsReturned, IsWellFormed, AreWellFormed, HasChoices}
use Rattle.c_tree.specs.WellFormedProgram.{IsFunction, IsMain, IsProgram, object_in, names_within}
use Rattle.tree_code.specs.Lowered.{lowered_statement, lowered_statements, lowered_choices, lowered_optional, lowered_function, lowered_program}
use Rattle.tree_code.specs.WordTree as word
use Rattle.tree_code.specs.WordTree.{FunctionCode}
use Rattle.acc_select.specs.Selected.{is_main}
use Rattle.acc_select_proof.proofs.Mains.{any_named, element_of, main_is_named}
use Rattle.acc_select_proof.proofs.Returning.{ReturnsValues, AllReturnValues, ChoicesReturnValues}

module _ (objects : VarRef → Option Shape) (kind : ScalarType) where
  value_returned : (names : Names) (e : Option tree.Expr) → IsReturned names (Some kind) e → ReturnsValues (word.Return (lowered_optional e))
  value_returned names None h = absurd cc
  value_returned names (Some e) h = tt

  mutual
    pub typed_returns : (names : Names) (c : Enclosing) (s : Stmt) → IsWellFormed objects (Some kind) names c s → ReturnsValues (lowered_statement s)
    typed_returns names c (tree.Block declared ss) h = all_typed (opened objects declared names) c ss h.1
    typed_returns names c (tree.Fill n) h = tt
    typed_returns names c (tree.Do_expr e) h = tt
    typed_returns names c (tree.If e a b) h = (typed_returns names c a h.1, typed_returns names c b h.2)
    typed_returns names c (tree.While e a) h = typed_returns names around.Loop a h.1
    typed_returns names c (tree.Do_while a e) h = typed_returns names around.Loop a h.0
    typed_returns names c (tree.For x y z a) h = typed_returns names around.Loop a h.3
    typed_returns names c (tree.Switch e cs) h = choices_typed names (in_switch c) cs h.3
    typed_returns names c tree.Break h = tt
    typed_returns names c tree.Continue h = tt
    typed_returns names c (tree.Return e) h = value_returned names e h

    all_typed : (names : Names) (c : Enclosing) (ss : Stmts) → AreWellFormed objects (Some kind) names c ss → AllReturnValues (lowered_statements ss)
    all_typed names c tree.done h = tt
    all_typed names c (tree.both s rest) h = (typed_returns names c s h.0, all_typed names c rest h.1)

    choices_typed : (names : Names) (c : Enclosing) (cs : Choices) → HasChoices objects (Some kind) names c cs → ChoicesReturnValues (lowered_choices cs)
    choices_typed names c tree.no_more h = tt
    choices_typed names c (tree.case w rest) h = choices_typed names c rest h
    choices_typed names c (tree.default rest) h = choices_typed names c rest h
    choices_typed names c (tree.body s rest) h = (typed_returns names c s h.0, choices_typed names c rest h.1)

module _ (p : ProgramTree) (is : IsProgram p) where
  from_slot : (f : ℕ) (slot : Option FunctionTree) (g : FunctionCode) → slice_get p.functions f ≡ slot → option_map lowered_function slot ≡ Some g → is_main g.name ≡ true → ReturnsValues g.body
  from_slot f None g at e named = absurd cc
  from_slot f (Some t) g at e named =
      let same : lowered_function t ≡ g = cc in
      let here : t.name ≡ main_name = main_is_named t.name (ap (λ (h : FunctionCode). is_main h.name) same ∙ named) in
      let main : IsMain t = any_named (λ (h : FunctionTree). h.name) p.functions is.differ IsMain main_name (λ h i. i.name) is.main f t at here in
      let body = (element_of (IsFunction p) p.functions is.functions f t at).body in
      subst (λ (h : FunctionCode). ReturnsValues h.body) same
      (typed_returns (object_in p t) _ (opened (object_in p t) t.params (names_within p t)) around.Body t.body (subst (λ r. IsWellFormed (object_in p t) r (opened (object_in p t) t.params (names_within p t)) around.Body t.body) main.result body))

  -- as selection wants it
  pub main_returns_values : (f : ℕ) (g : FunctionCode) → slice_get (lowered_program p).functions f ≡ Some g → is_main g.name ≡ true → ReturnsValues g.body
  main_returns_values f g at named = from_slot f (slice_get p.functions f) g refl (sym (slice_get-map lowered_function p.functions f) ∙ at) named
