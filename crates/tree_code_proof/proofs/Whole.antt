-- Whole programs: `main` is found in both at one number, and is called where static objects alone are there.
use Rattle.std.proofs.Common.{◌≡◌, ℕ, zero, suc, ◌+◌, ◌<◌, true, false, cond, List, [], ◌∷◌, length, Option, Some, None, sym, ap, ◌∙◌, subst, arith}
use Rattle.std.specs.Prelude.{◌≢◌, AllPairs, map, option_map, slice_get}
use Rattle.std.specs.Str.{bytes_eq}
use Rattle.std.proofs.lemmas.Bool.{false_from_ne_true}
use Rattle.std.proofs.lemmas.List.{length-map}
use Rattle.std.proofs.lemmas.Option.{same_Some, slice_get-map, slice_get_within, slice_get-get_or, get_or_from_slice_get}
use Rattle.std.proofs.lemmas.Slice.Eq.{bytes_eq-Decides}
use Rattle.word_base.specs.Ports.{Input, IsInput}
use Rattle.c_tree.specs.TypedTree.{FunctionTree, ProgramTree}
use Rattle.c_tree.specs.Eval.{points}
use Rattle.c_tree.specs.SourceRun as source_run
use Rattle.c_tree.specs.SourceRun.{main_name, main_of}
use Rattle.c_tree.specs.WellFormedProgram.{IsMain, IsProgram, kind_of_parameter}
use Rattle.tree_code.specs.Lowered.{lowered_function, lowered_program}
use Rattle.tree_code.specs.WordTree.{FunctionCode}
use Rattle.ir_semantics.specs.Keeps.{Keeps, tree_run}
use Rattle.ir_semantics.specs.SourceWork.{call_within_work, source_work, worked_run}
use Rattle.tree_code_proof.specs.Executed as execution
use Rattle.ir_semantics.specs.Outside.{Places, no_words, first_outside}
use Rattle.ir_semantics.specs.TreeRun as run
use Rattle.ir_semantics.specs.TreeRun.{Tree, main_from}
use Rattle.c_tree.specs.TypedOfWords.{ProgramHasWords}
use Rattle.tree_code_proof.specs.Seats.{Seats}
use Rattle.tree_code_proof.specs.Surroundings.{ArePlaces}
use Rattle.tree_code_proof.proofs.Rules.{Rel}
use Rattle.tree_code_proof.proofs.Interfaces.{Given}
use Rattle.tree_code_proof.proofs.Depths.{BodiesKeep, calls_kept, function_called}
use Rattle.tree_code_proof.proofs.Outcomes.{outcome_kept}
use Rattle.tree_code_proof.proofs.Starting.{starts, first_seats, first_alike, first_call}

-- the function named main, of those whose names differ
abbrev names : List FunctionTree → List (List ℕ)
names fs = map (λ f. f.name) fs

main_found : (fs : List FunctionTree) (k i : ℕ) (g : FunctionTree) → AllPairs (λ a b. a ≢ b) (names fs) → slice_get fs i ≡ Some g → g.name ≡ main_name → (main_of fs ≡ Some g) × (main_from k (map lowered_function fs) ≡ k + i)
main_found [] k i g differ get named = absurd cc
main_found (f ∷ fs) k zero g differ get named =
    let same : f ≡ g = same_Some f g get in
    let e : bytes_eq f.name main_name ≡ true = (bytes_eq-Decides f.name main_name).1 (ap (λ (h : FunctionTree). h.name) same ∙ named) in
    (ap (λ b. cond b (Some f) (main_of fs)) e ∙ get, ap (λ b. cond b k (main_from (suc k) (map lowered_function fs))) e ∙ omega arith)
main_found (f ∷ fs) k (suc i) g differ get named =
    let there : slice_get (names fs) i ≡ Some g.name = slice_get-map (λ (h : FunctionTree). h.name) fs i ∙ ap (option_map (λ (h : FunctionTree). h.name)) get in
    let within : i < length (names fs) = slice_get_within (names fs) i g.name there in
    let other : f.name ≢ g.name = λ e. differ 0 (suc i) [] (omega arith) (omega (arith, within)) (e ∙ sym (get_or_from_slice_get (names fs) i g.name [] there)) in
    let e : bytes_eq f.name main_name ≡ false = false_from_ne_true (bytes_eq f.name main_name) (λ t. other ((bytes_eq-Decides f.name main_name).0 t ∙ sym named)) in
    let rest = main_found fs (suc k) i g (λ i j d lt more. differ (suc i) (suc j) d (omega (arith, lt)) (omega (arith, more))) get named in
    let number = rest.1 in
    (ap (λ b. cond b (Some f) (main_of fs)) e ∙ rest.0, ap (λ b. cond b k (main_from (suc k) (map lowered_function fs))) e ∙ omega (arith, number))

module _ (q : Places) (p : ProgramTree) (is : IsProgram p) (has : ProgramHasWords p) (places : ArePlaces q p) (n : ℕ) (bodies : BodiesKeep q p n) (input : Input) (inputs : IsInput input) where
  abbrev functions : List FunctionCode
  functions = map lowered_function p.functions

  abbrev seats : Seats
  seats = first_seats q p.statics

  abbrev start : Tree
  start = record { frame = no_words; result = None; outside = first_outside q p.statics input; work = 0 }

  main_kept : (k : ℕ) (g : FunctionTree) → slice_get p.functions k ≡ Some g → IsMain g
      → Rel (Given seats [] false) (execution.call_function (source_run.call_within p n (length p.functions)) (call_within_work p n (length p.functions)) n (main_of p.functions) [] (starts p input)) (run.run_tree q (lowered_program p) n start)
  main_kept k g get main =
      let found = main_found p.functions 0 k g is.differ get main.name in
      let number = found.1 in
      let at : main_from 0 functions ≡ k = omega (arith, number) in
      let slot : slice_get functions k ≡ Some (lowered_function g) = slice_get-map lowered_function p.functions k ∙ ap (option_map lowered_function) get in
      let source = λ (m : Option FunctionTree). execution.call_function (source_run.call_within p n (length p.functions)) (call_within_work p n (length p.functions)) n m [] (starts p input) in
      subst (λ d. Rel (Given seats [] false) (source (main_of p.functions)) (run.called (run.call_within q functions n d) q n (main_from 0 functions) (slice_get functions (main_from 0 functions)) [] start)) (sym (length-map p.functions lowered_function))
      (subst (λ m. Rel (Given seats [] false) (source (main_of p.functions)) (run.called (run.call_within q functions n (length p.functions)) q n m (slice_get functions m) [] start)) (sym at)
      (subst (λ m. Rel (Given seats [] false) (source (main_of p.functions)) (run.called (run.call_within q functions n (length p.functions)) q n k m [] start)) (sym slot)
      (subst (λ m. Rel (Given seats [] false) (source m) (run.called (run.call_within q functions n (length p.functions)) q n k (Some (lowered_function g)) [] start)) (sym found.0)
      (subst (λ b. Rel (Given seats [] b) (source (Some g)) (run.called (run.call_within q functions n (length p.functions)) q n k (Some (lowered_function g)) [] start)) (ap points main.result)
      (function_called q p places is n bodies (length p.functions) (calls_kept q p places is n bodies (length p.functions)) k g get seats (first_call q p places is has k) [] (sym (ap (λ ps. map points (map (kind_of_parameter g) ps)) main.parameters)) [] (starts p input) start
      (first_alike q p places is has input inputs))))))

  pub lowering_keeps : Keeps (worked_run p input n) (tree_run q (lowered_program p) input n)
  lowering_keeps =
      let m = is.main in
      let calls = source_run.call_within p n (length p.functions) in
      outcome_kept seats (source_work p input n) (source_run.call_function calls n (main_of p.functions) [] (source_run.first_world p input)) (run.run_tree q (lowered_program p) n start)
      (main_kept m.0 m.1 (slice_get-get_or p.functions m.0 m.1 m.2 ∙ ap Some m.3) m.4)
