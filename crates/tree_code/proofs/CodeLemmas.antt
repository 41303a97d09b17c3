-- A well-formed program is lowered to a well-formed word tree.
use Rattle.std.proofs.Common.{◌≡◌, ◌<◌, ◌≤◌, refl, ap, ◌∙◌, sym, subst, ℕ, zero, suc, ◌+◌, Bool, true, false, if◌then◌else◌, List, [], ◌∷◌, length, map, All, get_or, Option, Some, None, arith}
use Rattle.std.specs.Prelude.{◌≢◌, AllPairs, slice_get, nat_lt, option_map}
use Rattle.std.specs.List.{Any, sum_by, fold}
use Rattle.std.proofs.Math.Bridge.{le_prop}
use Rattle.std.proofs.Math.Logic.{∥∥₁_elim, ∥∥₁_map}
use Rattle.std.proofs.lemmas.Bool.{lt-ltb}
use Rattle.std.proofs.lemmas.List.{get_or-map, length-map}
use Rattle.std.proofs.lemmas.List.Elements.{All-map}
use Rattle.std.proofs.lemmas.Option.{slice_get_within, slice_get-map}
use Rattle.word_base.specs.Name.{IsName}
use Rattle.c_tree.specs.declared.enclosing.Enclosing.TheVariants as around
use Rattle.c_tree.specs.declared.program.Function.{Function}
use Rattle.c_tree.specs.declared.program.VarRef.{VarRef}
use Rattle.c_tree.specs.declared.program.VarRef.TheVariants.{Scalar, Local, Static}
use Rattle.c_tree.specs.declared.limits.TheConstants.{MOST_CASES, MOST_FRAME_SCALARS, MOST_PARAMETERS}
use Rattle.c_tree.specs.Rounds.{CallsAmong, HasNoRound}
use Rattle.c_tree.specs.TypedTree.{Kind, ObjectTree, FunctionTree, ProgramTree}
use Rattle.c_tree.specs.Temporaries as source_counts
use Rattle.c_tree.specs.Uses.{called, case_counts}
use Rattle.c_tree.specs.Uses as source_uses
use Rattle.c_tree.specs.View.{function_of}
use Rattle.c_tree.specs.WellFormed.{Shape, opened}
use Rattle.c_tree.specs.WellFormedProgram as source
use Rattle.c_tree.specs.WellFormedProgram.{IsObject, IsFunction, IsProgram, object_in, static_names, names_within, object_shape, scalar_shape, signature, kind_of_parameter, program_calls}
use Rattle.tree_code.specs.WordTree.{code, FunctionCode}
use Rattle.tree_code.specs.WordTemporaries.{word_statement_temporaries}
use Rattle.tree_code.specs.Lowered.{HasFewScalars, lowered_statement, lowered_function, lowered_program}
use Rattle.tree_code.specs.WellFormedCode.{IsObjectAmong, IsCodeParameter, IsFunctionCode, IsMainCode, IsCode, cells_in, length_of, parameter_count, code_calls}
use Rattle.tree_code.proofs.KeptLemmas.{statement_kept, statement_uses_kept}
use Rattle.tree_code.proofs.SoundLemmas.{arity, Knows, opened_known, sound_statement}

object_among : (p : ProgramTree) (o : ObjectTree) → IsObject p o → IsObjectAmong p.statics o
object_among p o is = record { is_type = is.is_type; from_one = is.from_one; most = is.most; within = is.within; starts = is.starts }

shape_length : (o : Option ObjectTree) (s : Shape) → object_shape o ≡ Some s → length_of o ≡ Some s.length
shape_length None s is = absurd (cc is)
shape_length (Some o) s is = let same : record { kind = o.kind; length = o.length } ≡ s = cc is in ap (λ t. Some t.length) same

scalar_cell : (b : Bool) → b ≡ true → if◌then◌else◌ {A = Option ℕ} b (Some 1) None ≡ Some 1
scalar_cell true is = refl
scalar_cell false is = absurd (cc is)

arity_of : (o : Option FunctionTree) (c : Option FunctionCode) → c ≡ option_map lowered_function o → parameter_count c ≡ arity (signature o)
arity_of None c is = ap parameter_count is
arity_of (Some f) c is = ap parameter_count is ∙ ap Some (sym (length-map f.params (kind_of_parameter f)))

module _ (p : ProgramTree) (f : FunctionTree) where
  abbrev cells : VarRef → Option ℕ
  cells = cells_in (lowered_program p) (lowered_function f)

  scalar_there : (n : ℕ) → n < length f.scalars → cells (Scalar n) ≡ Some 1
  scalar_there n within =
      let t : ℕ = word_statement_temporaries (lowered_statement f.body) in
      scalar_cell (nat_lt (n + t) (length f.scalars + t)) (lt-ltb (n + t) (length f.scalars + t) (omega (arith, within)))

  scalar_known : (n : ℕ) (k : Kind) (s : Shape) → slice_get f.scalars n ≡ k → scalar_shape k ≡ Some s → cells (Scalar n) ≡ Some s.length
  scalar_known n None s found is = absurd (cc is)
  scalar_known n (Some kind) s found is =
      let same : record { kind = kind; length = 1 } ≡ s = cc is in
      scalar_there n (slice_get_within f.scalars n kind found) ∙ ap (λ t. Some t.length) same

  all_known : Knows (object_in p f) cells
  all_known (Scalar n) s is = scalar_known n (slice_get f.scalars n) s refl is
  all_known (Local n) s is = shape_length (slice_get f.locals n) s is
  all_known (Static n) s is = shape_length (slice_get p.statics n) s is

  static_known : Knows (static_names p) cells
  static_known (Scalar n) s is = absurd (cc is)
  static_known (Local n) s is = absurd (cc is)
  static_known (Static n) s is = shape_length (slice_get p.statics n) s is

  takes : (n : ℕ) → parameter_count (slice_get (map lowered_function p.functions) n) ≡ arity (signature (slice_get p.functions n))
  takes n = arity_of (slice_get p.functions n) (slice_get (map lowered_function p.functions) n) (slice_get-map lowered_function p.functions n)

  parameter_sound : (v : VarRef) → source.IsParameter f v → IsCodeParameter (lowered_program p) (lowered_function f) v
  parameter_sound (Scalar n) is = record { automatic = tt; cell = scalar_there n is }
  parameter_sound (Local n) is = record { automatic = tt; cell = ap length_of is.1 ∙ ap Some is.2 }
  parameter_sound (Static n) is = absurd is

  function_sound : IsFunction p f → length f.params ≤ MOST_PARAMETERS → length f.scalars + source_counts.statement_temporaries f.body ≤ MOST_FRAME_SCALARS
      → All (λ n. n ≤ MOST_CASES) (case_counts (source_uses.statement_uses f.body)) → IsFunctionCode (lowered_program p) (lowered_function f)
  function_sound is parameters scalars cases = record {
    most_scalars = omega (arith, statement_kept f.body, scalars);
    temporaries = omega arith;
    most_parameters = parameters;
    locals = λ k d within. object_among p _ (is.locals k d within);
    parameters = λ k d within. parameter_sound _ (is.parameters k d within);
    differ = is.differ;
    cases = subst (λ us. All (λ n. n ≤ MOST_CASES) (case_counts us)) (sym (statement_uses_kept f.body)) cases;
    body = sound_statement cells (λ n. parameter_count (slice_get (map lowered_function p.functions) n)) (object_in p f) all_known f.result
        (opened (object_in p f) f.params (names_within p f)) (opened_known cells (λ n. parameter_count (slice_get (map lowered_function p.functions) n)) (object_in p f) all_known f.result f.params (names_within p f) static_known)
        takes around.Body f.body is.body;
  }

names_kept : (fs : List FunctionTree) → map (λ f. f.name) (map lowered_function fs) ≡ map (λ f. f.name) fs
names_kept [] = refl
names_kept (f ∷ fs) = ap (λ ns. f.name ∷ ns) (names_kept fs)

calls_kept : (fs : List FunctionTree) → code_calls (map lowered_function fs) ≡ program_calls fs
calls_kept [] = refl
calls_kept (f ∷ fs) =
    ap (λ us. called us ∷ code_calls (map lowered_function fs)) (statement_uses_kept f.body)
    ∙ ap (λ calls. called (source_uses.statement_uses f.body) ∷ calls) (calls_kept fs)

locals_from : (n : ℕ) (fs : List FunctionTree) → fold (λ a f. a + length f.locals) n (map lowered_function fs) ≡ fold (λ a f. a + length f.locals) n fs
locals_from n [] = refl
locals_from n (f ∷ fs) = locals_from (n + length f.locals) fs

locals_kept : (fs : List FunctionTree) → sum_by (λ f. length f.locals) (map lowered_function fs) ≡ sum_by (λ f. length f.locals) fs
locals_kept fs = locals_from 0 fs

one_further : {X : Type 0} (P : X → Type 0) (y : X) (l : List X) → Any P l → Any P (y ∷ l)
one_further P y l a = (suc a.0, a.1, omega (arith, a.2), a.3, a.4)

main_at : (fs : List FunctionTree) (k : ℕ) (f : FunctionTree) → k < length fs → get_or fs k f ≡ f → source.IsMain f → Any IsMainCode (map lowered_function fs)
main_at [] k f within found is = absurd (omega (arith, within))
main_at (g ∷ gs) zero f within found is = (0, lowered_function f, omega arith, ap lowered_function found, record { name = is.name; parameters = is.parameters })
main_at (g ∷ gs) (suc k) f within found is = one_further IsMainCode (lowered_function g) (map lowered_function gs) (main_at gs k f (omega (arith, within)) found is)

pub well_formed_code : (p : ProgramTree) → IsProgram p → IsCode (lowered_program p)
well_formed_code p is = record {
  statics = λ k d within. object_among p _ (is.statics k d within);
  functions = All-map (IsFunctionCode (lowered_program p)) lowered_function p.functions
      (λ k d within. function_sound p (get_or p.functions k d) (is.functions k d within) (is.limits.parameters k d within) (is.limits.scalars k d within) (is.limits.cases k d within));
  names = subst (All IsName) (sym (names_kept p.functions)) is.names;
  differ = subst (AllPairs (λ a b. a ≢ b)) (sym (names_kept p.functions)) is.differ;
  main = main_at p.functions is.main.0 is.main.1 is.main.2 is.main.3 is.main.4;
  bodies = λ n m calls. omega (arith, length-map p.functions lowered_function, is.bodies n m (subst (λ lists. CallsAmong lists n m) (calls_kept p.functions) calls));
  no_cycle = subst (λ lists. HasNoRound (CallsAmong lists)) (sym (calls_kept p.functions)) is.no_cycle;
  most_functions = omega (arith, length-map p.functions lowered_function, is.limits.functions);
  objects = omega (arith, locals_kept p.functions, is.objects);
}

pub code_of : (p : ProgramTree) (statics : List ObjectTree) (functions : List FunctionCode) → statics ≡ p.statics → functions ≡ map lowered_function p.functions
    → ∥ IsProgram p ∥₁ → ∥ IsCode (code statics functions) ∥₁
code_of p statics functions same alike known =
    ∥∥₁_map known (λ is. subst (λ s. IsCode (code s functions)) (sym same) (subst (λ f. IsCode (code p.statics f)) (sym alike) (well_formed_code p is)))

few : (fs : List Function) → All HasFewScalars (map function_of fs) → All (λ f. HasFewScalars (function_of f)) fs
few fs all = λ k d within. subst HasFewScalars (get_or-map function_of fs k d (function_of d) within) (all k (function_of d) (omega (arith, length-map fs function_of, within)))

-- the functions of a program have few scalars
pub few_scalars : (p : ProgramTree) (fs list : List Function) → p.functions ≡ map function_of fs → list ≡ fs → ∥ IsProgram p ∥₁ → All (λ f. HasFewScalars (function_of f)) list
few_scalars p fs list same alike known =
    ∥∥₁_elim known (hlevel le_prop) (λ is. subst (λ l. All (λ f. HasFewScalars (function_of f)) l) (sym alike) (few fs (subst (All HasFewScalars) same is.limits.scalars)))
