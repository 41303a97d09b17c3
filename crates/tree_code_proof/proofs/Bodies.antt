-- Bodies of functions keep what they do, so lowering keeps the runs of typed programs of words.
use Rattle.std.proofs.Common.{◌≡◌, ℕ, Option, Some, refl, sym, ap, ◌∙◌, subst}
use Rattle.std.specs.Prelude.{option_map, slice_get}
use Rattle.std.specs.List.{AllByRecursion}
use Rattle.std.proofs.lemmas.Option.{none-some, slice_get-map}
use Rattle.word_base.specs.Ports.{Input, IsInput}
use Rattle.c_tree.specs.declared.enclosing.Enclosing.TheVariants as within
use Rattle.c_tree.specs.declared.program.VarRef.{VarRef}
use Rattle.c_tree.specs.declared.program.VarRef.TheVariants.{Scalar, Local, Static}
use Rattle.c_tree.specs.TypedTree.{ObjectTree, FunctionTree, ProgramTree}
use Rattle.c_tree.specs.Eval as plain
use Rattle.ir_semantics.specs.SourceWork.{CallsWork, worked_run}
use Rattle.tree_code_proof.specs.Evaluated as evaluation
use Rattle.c_tree.specs.Uses.{called, statement_uses}
use Rattle.c_tree.specs.WellFormed.{Shape, Signature, opened}
use Rattle.c_tree.specs.WellFormedProgram.{IsObject, IsFunction, IsProgram, static_names, names_within, object_in}
use Rattle.tree_code.specs.Lowered.{lowered, lowered_program}
use Rattle.ir_semantics.specs.Keeps.{Keeps, tree_run}
use Rattle.ir_semantics.specs.Outside.{Places, address_of}
use Rattle.ir_semantics.specs.TreeRun as run
use Rattle.c_tree.specs.TypedOfWords.{StartsWithWord, FunctionHasWords, ProgramHasWords}
use Rattle.tree_code_proof.specs.Surroundings.{ArePlaces}
use Rattle.tree_code_proof.proofs.Growing.{value_grows, decide_grows, effect_grows}
use Rattle.tree_code_proof.proofs.Interfaces.{CallsKeep, CallsOf}
use Rattle.tree_code_proof.proofs.Depths.{BodiesKeep, element_of}
use Rattle.tree_code_proof.proofs.Expressions.{value_keeps, test_keeps, effect_keeps}
use Rattle.tree_code_proof.proofs.Filled.{AreObjects}
use Rattle.tree_code_proof.proofs.Initials.{words_listed}
use Rattle.tree_code_proof.proofs.Statements.{ExpressionsKeep, opened_objects, statement_keeps}
use Rattle.tree_code_proof.proofs.Whole as whole

-- expressions where other names are known too
expressions_keep : (q : Places) (p : ProgramTree) (f : ℕ) (objects : VarRef → Option Shape) (functions : ℕ → Option Signature) (calls : plain.Calls) (work : CallsWork) (does : run.Calls) → CallsKeep q p f functions (evaluation.calling calls work) does → ExpressionsKeep q p f objects functions calls work does
expressions_keep q p f objects functions calls work does keep = record {
  value = λ names known env seats around e typed words calling. value_keeps q p f objects names env seats around calls work does (subst (λ s. CallsKeep q p f s (evaluation.calling calls work) does) (sym known) keep) e typed words calling;
  test = λ names known env seats around e typed words calling. test_keeps q p f objects names env seats around calls work does (subst (λ s. CallsKeep q p f s (evaluation.calling calls work) does) (sym known) keep) e typed.0 typed.1 words calling;
  effect = λ names known env seats around e typed words calling. effect_keeps q p f objects names env seats around calls work does (subst (λ s. CallsKeep q p f s (evaluation.calling calls work) does) (sym known) keep) e typed words calling;
  value_grows = λ e. value_grows does (address_of q f) keep.grow (lowered e);
  test_grows = λ e. decide_grows does (address_of q f) keep.grow (lowered e);
  effect_grows = λ e. effect_grows does (address_of q f) keep.grow (lowered e);
}

-- the names of file scope
static_objects : (p : ProgramTree) (g : FunctionTree) → AreObjects (object_in p g) (static_names p)
static_objects p g = record { objects_of = of_static; statics = λ n s is. is }
  where
    of_static : (v : VarRef) (s : Shape) → static_names p v ≡ Some s → object_in p g v ≡ Some s
    of_static (Scalar n) s e = absurd (none-some s e)
    of_static (Local n) s e = absurd (none-some s e)
    of_static (Static n) s e = e

module _ (q : Places) (p : ProgramTree) (is : IsProgram p) (has : ProgramHasWords p) (places : ArePlaces q p) (n : ℕ) where
  function_is : (f : ℕ) (g : FunctionTree) → slice_get p.functions f ≡ Some g → IsFunction p g
  function_is f g get = element_of (IsFunction p) p.functions is.functions f g get

  -- what a body calls its function calls
  calls_of_body : (f : ℕ) (g : FunctionTree) → slice_get p.functions f ≡ Some g → CallsOf p f (statement_uses g.body)
  calls_of_body f g get h among =
      (called (statement_uses g.body), slice_get-map (λ (f : FunctionTree). called (statement_uses f.body)) p.functions f ∙ ap (option_map (λ (f : FunctionTree). called (statement_uses f.body))) get, among)

  locals_are : (f : ℕ) (g : FunctionTree) → slice_get p.functions f ≡ Some g → (k : ℕ) (o : ObjectTree) → slice_get g.locals k ≡ Some o → IsObject p o × AllByRecursion StartsWithWord o.initial
  locals_are f g get k o at = (
    element_of (IsObject p) g.locals (function_is f g get).locals k o at,
    words_listed g.locals (element_of FunctionHasWords p.functions has.functions f g get).locals k o at,
  )

  bodies_keep : BodiesKeep q p n
  bodies_keep f g get calls work does keep =
      statement_keeps q p f g get places (names_within p g).function calls work does n (expressions_keep q p f (object_in p g) (names_within p g).function calls work does keep) (locals_are f g get)
      (opened (object_in p g) g.params (names_within p g)) refl (opened_objects (object_in p g) g.params (names_within p g) (static_objects p g)) within.Body g.body (function_is f g get).body
      (element_of FunctionHasWords p.functions has.functions f g get).body (calls_of_body f g get)

  pub lowering_keeps : (input : Input) → IsInput input → Keeps (worked_run p input n) (tree_run q (lowered_program p) input n)
  lowering_keeps input inputs = whole.lowering_keeps q p is has places n bodies_keep input inputs
