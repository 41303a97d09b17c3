-- The word tree of a well-formed program of words is one whose runs selection keeps.
use Rattle.std.proofs.Common.{◌≡◌, ℕ, zero, suc, List, [], ◌∷◌, Option, Some, None, refl, sym, ◌∙◌, subst}
use Rattle.std.specs.Prelude.{slice_get, option_map}
use Rattle.std.specs.List.{AllByRecursion}
use Rattle.std.proofs.lemmas.Option.{slice_get-map}
use Rattle.word_base.specs.Ports.{Input, IsInput}
use Rattle.c_tree.specs.declared.enclosing.Enclosing.{Enclosing}
use Rattle.c_tree.specs.declared.enclosing.Enclosing.TheVariants as around
use Rattle.c_tree.specs.declared.program.Initial.{Initial}
use Rattle.c_tree.specs.declared.program.Initial.TheVariants as initial
use Rattle.c_tree.specs.declared.program.VarRef.{VarRef}
use Rattle.c_tree.specs.Labels.{in_switch}
use Rattle.c_tree.specs.TypedTree as tree
use Rattle.c_tree.specs.TypedTree.{Kind, Expr, Stmt, Stmts, Choices, ObjectTree, FunctionTree, ProgramTree}
use Rattle.c_tree.specs.WellFormed.{Shape, Names, opened, IsOptional, IsOptionalTest, IsReturned, IsWellFormed, AreWellFormed, HasChoices}
use Rattle.c_tree.specs.WellFormedProgram.{IsFunction, IsProgram, object_in, names_within}
use Rattle.tree_code.specs.Lowered.{lowered_statement, lowered_statements, lowered_choices, lowered_optional, lowered_function, lowered_program}
use Rattle.tree_code.specs.WordTree as word
use Rattle.tree_code.specs.WordTree.{FunctionCode}
use Rattle.tree_code.proofs.CodeLemmas.{well_formed_code}
use Rattle.acc_select.specs.Selected.{selected}
use Rattle.ir_semantics.specs.Keeps.{Keeps, tree_run, acc_run}
use Rattle.ir_semantics.specs.Outside.{Places, address_of}
use Rattle.acc_select_proof.specs.FitStatements.{IsFitInitial, IsFitObject, IsFitOptional, IsFitStatement, AreFitStatements, AreFitChoices}
use Rattle.acc_select_proof.specs.OfWords.{IsOfWords}
use Rattle.acc_select_proof.specs.Selecting.{AreFar, IsWordProgram}
use Rattle.c_tree.specs.TypedOfWords.{StartsWithWord, StartsWithWords}
use Rattle.c_tree.specs.TypedOfWords.{OptionalUsesWords, StatementUsesWords, StatementsUseWords, ChoicesUseWords, FunctionHasWords, ProgramHasWords}
use Rattle.acc_select_proof.proofs.Mains.{element_of}
use Rattle.acc_select_proof.proofs.MainReturns.{main_returns_values}
use Rattle.acc_select_proof.proofs.Selection.{word_programs_keep}
use Rattle.acc_select_proof.proofs.TypedWords.{expression_of_words}

-- the lists of local arrays, in a function at these places: an address in a list is that of a static object, which lies where the places say
module _ (q : Places) (f : ℕ) where
  initial_fits : (x : Initial) → StartsWithWord x → IsFitInitial (address_of q f) q x
  initial_fits (initial.Word w) h = h
  initial_fits (initial.Address object index) h = refl
  initial_fits initial.Null h = tt

  list_fits : (xs : List Initial) → AllByRecursion StartsWithWord xs → AllByRecursion (IsFitInitial (address_of q f) q) xs
  list_fits [] h = tt
  list_fits (x ∷ xs) h = (initial_fits x h.0, list_fits xs h.1)

  object_fits : (objects : List ObjectTree) → StartsWithWords objects → (k : ℕ) → IsFitObject (address_of q f) q (slice_get objects k)
  object_fits [] h k = tt
  object_fits (o ∷ objects) h zero = list_fits o.initial h.0
  object_fits (o ∷ objects) h (suc k) = object_fits objects h.1 k

module _ (q : Places) (f : ℕ) (locals : List ObjectTree) (starts : StartsWithWords locals) (objects : VarRef → Option Shape) (result : Kind) where
  optional_typed : (names : Names) (e : Option Expr) → IsOptional names e → OptionalUsesWords e → IsFitOptional IsOfWords (address_of q f) q locals (lowered_optional e)
  optional_typed names None t h = tt
  optional_typed names (Some e) t h = expression_of_words names e t h

  test_typed : (names : Names) (e : Option Expr) → IsOptionalTest names e → OptionalUsesWords e → IsFitOptional IsOfWords (address_of q f) q locals (lowered_optional e)
  test_typed names None t h = tt
  test_typed names (Some e) t h = expression_of_words names e t.0 h

  return_typed : (names : Names) (e : Option Expr) → IsReturned names result e → OptionalUsesWords e → IsFitStatement IsOfWords (address_of q f) q locals (word.Return (lowered_optional e))
  return_typed names None t h = tt
  return_typed names (Some e) t h = expression_of_words names e t.0.0 h

  mutual
    pub statement_typed : (names : Names) (c : Enclosing) (s : Stmt) → IsWellFormed objects result names c s → StatementUsesWords s → IsFitStatement IsOfWords (address_of q f) q locals (lowered_statement s)
    statement_typed names c (tree.Block declared ss) t h = statements_typed (opened objects declared names) c ss t.1 h
    statement_typed names c (tree.Fill n) t h = object_fits q f locals starts n
    statement_typed names c (tree.Do_expr e) t h = expression_of_words names e t h
    statement_typed names c (tree.If e a b) t h = (expression_of_words names e t.0.0 h.0, statement_typed names c a t.1 h.1, statement_typed names c b t.2 h.2)
    statement_typed names c (tree.While e a) t h = (expression_of_words names e t.0.0 h.0, statement_typed names around.Loop a t.1 h.1)
    statement_typed names c (tree.Do_while a e) t h = (statement_typed names around.Loop a t.0 h.0, expression_of_words names e t.1.0 h.1)
    statement_typed names c (tree.For x y z a) t h = (optional_typed names x t.0 h.0, test_typed names y t.1 h.1, optional_typed names z t.2 h.2, statement_typed names around.Loop a t.3 h.3)
    statement_typed names c (tree.Switch e cs) t h = (expression_of_words names e t.0 h.0, choices_typed names (in_switch c) cs t.3 h.1)
    statement_typed names c tree.Break t h = tt
    statement_typed names c tree.Continue t h = tt
    statement_typed names c (tree.Return e) t h = return_typed names e t h

    statements_typed : (names : Names) (c : Enclosing) (ss : Stmts) → AreWellFormed objects result names c ss → StatementsUseWords ss → AreFitStatements IsOfWords (address_of q f) q locals (lowered_statements ss)
    statements_typed names c tree.done t h = tt
    statements_typed names c (tree.both s rest) t h = (statement_typed names c s t.0 h.0, statements_typed names c rest t.1 h.1)

    choices_typed : (names : Names) (c : Enclosing) (cs : Choices) → HasChoices objects result names c cs → ChoicesUseWords cs → AreFitChoices IsOfWords (address_of q f) q locals (lowered_choices cs)
    choices_typed names c tree.no_more t h = tt
    choices_typed names c (tree.case w rest) t h = choices_typed names c rest t h.1
    choices_typed names c (tree.default rest) t h = choices_typed names c rest t h
    choices_typed names c (tree.body s rest) t h = (statement_typed names c s t.0 h.0, choices_typed names c rest t.1 h.1)

module _ (q : Places) (p : ProgramTree) (is : IsProgram p) (words : ProgramHasWords p) where
  from_slot : (f : ℕ) (slot : Option FunctionTree) (g : FunctionCode) → slice_get p.functions f ≡ slot → option_map lowered_function slot ≡ Some g → IsFitStatement IsOfWords (address_of q f) q g.locals g.body
  from_slot f None g at e = absurd cc
  from_slot f (Some t) g at e =
      let same : lowered_function t ≡ g = cc in
      let typed = (element_of (IsFunction p) p.functions is.functions f t at).body in
      let uses = element_of FunctionHasWords p.functions words.functions f t at in
      subst (λ (h : FunctionCode). IsFitStatement IsOfWords (address_of q f) q h.locals h.body) same
      (statement_typed q f t.locals uses.locals (object_in p t) t.result (opened (object_in p t) t.params (names_within p t)) around.Body t.body typed uses.body)

  bodies_fit : (f : ℕ) (g : FunctionCode) → slice_get (lowered_program p).functions f ≡ Some g → IsFitStatement IsOfWords (address_of q f) q g.locals g.body
  bodies_fit f g at = from_slot f (slice_get p.functions f) g refl (sym (slice_get-map lowered_function p.functions f) ∙ at)

  pub typed_is_of_words : ((f : ℕ) → AreFar (address_of q f)) → IsWordProgram q (lowered_program p)
  typed_is_of_words far = record { code = well_formed_code p is; addresses = far; statics = words.statics; bodies = bodies_fit; main = main_returns_values p is }

  -- selection keeps the runs of its word tree
  pub typed_programs_keep : ((f : ℕ) → AreFar (address_of q f)) → (input : Input) (n : ℕ) → IsInput input → Keeps (tree_run q (lowered_program p) input n) (acc_run q (lowered_program p) (selected (lowered_program p)) input n)
  typed_programs_keep far input n is_input = word_programs_keep q (lowered_program p) n (typed_is_of_words far) input is_input
