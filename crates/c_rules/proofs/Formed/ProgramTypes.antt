-- The typed program of a file of which no node breaks a rule, and which is whole, is well-formed.
use Rattle.std.proofs.Common.{◌≡◌, ◌≤◌, ◌∷◌, [], ◌++◌, ◌+◌, ℕ, suc, Bool, true, false, ◌||◌, ◌&&◌, if◌then◌else◌, nat_lt, List, map, take, length, slice_get, get_or, Option, Some, None, ap, ◌∙◌, sym, refl, subst, true≢false, arith}
use Rattle.std.specs.Prelude.{All, AllPairs, ◌≢◌, ◌==◌, codes}
use Rattle.std.specs.List.{Any}
use Rattle.std.specs.Str.{bytes_eq}
use Rattle.std.proofs.lemmas.Bool.{eqb-true, ltb-false}
use Rattle.std.proofs.lemmas.List.{length-map, length-take}
use Rattle.std.proofs.lemmas.List.Elements.{All-cons, All-nil, All-map, All-head, All-tail}
use Rattle.std.proofs.lemmas.Slice.Eq.{bytes_eq-Decides}
use Rattle.word_base.specs.Name.{IsName}
use Rattle.c_tree.specs.declared.program.Base.{Base}
use Rattle.c_tree.specs.declared.program.Base.TheVariants as base
use Rattle.c_tree.specs.declared.program.Initial.{Initial}
use Rattle.c_tree.specs.declared.program.Initial.TheVariants as initial
use Rattle.c_tree.specs.declared.program.ScalarType.{ScalarType}
use Rattle.c_tree.specs.SourceRun.{main_name}
use Rattle.c_tree.specs.Temporaries.{statement_temporaries}
use Rattle.c_tree.specs.TypedTree.{Kind, FunctionTree}
use Rattle.c_rules.specs.declared.fault.LimitName.TheVariants as limit
use Rattle.c_tree.specs.declared.enclosing.Enclosing.TheVariants as around
use Rattle.c_rules.specs.Checked.{AreWhole}
use Rattle.c_rules.specs.Kinds.{int, same_base, same_kind}
use Rattle.c_rules.specs.Programs.{frame, function_tree, program_tree, cell_kind, local_object, object_tree, is_main, has_main, calls_of}
use Rattle.c_rules.specs.Statements.{LocalTree}
use Rattle.c_rules.specs.Units.{StaticTree, TypedFunction, File}
use Rattle.c_tree.specs.Rounds.{CallsAmong, HasNoRound}
use Rattle.c_tree.specs.Uses.{called, statement_uses}
use Rattle.c_tree.specs.Kinds.{IsScalarType}
use Rattle.c_tree.specs.WellFormed.{Shape, IsInitial, StartsAt, opened}
use Rattle.c_tree.specs.WellFormedProgram as whole
use Rattle.c_tree.specs.WellFormedProgram.{IsObject, IsFunction, IsLimited, IsMain, IsProgram, object_count, names_within}
use Rattle.c_rules.specs.Whole.{uses_of, case_counts, all_cases, first_above, frame_size}
use Rattle.c_rules.proofs.Formed.Context.{IsLocal, numbers_from}
use Rattle.c_rules.proofs.Formed.FileContext.{names_in, object_in, static_shape, IsTypedFunction, IsStatic, IsTypedFile}
use Rattle.c_rules.proofs.Formed.FrameTypes.{references_length, references_differ, scalar_count, all_scalars, all_objects}
use Rattle.c_rules.proofs.Formed.FunctionTypes.{static_kept, renumbers, body_carried, all_parameters, all_addresses}
use Rattle.c_rules.proofs.Formed.RenumberedTypes.{kept_statement}
use Rattle.c_rules.proofs.Formed.RenumberedUses.{statement_kept, counts_kept, same_calls}
use Rattle.c_rules.proofs.Formed.RenumberedTemporaries.{statement_needs}
use Rattle.c_rules.proofs.MissingBodies.{bodies_met}
use Rattle.c_tree.specs.declared.limits.TheConstants.{MOST_CASES, MOST_FRAME_SCALARS, MOST_FUNCTIONS, MOST_OBJECTS, MOST_PARAMETERS}

-- objects start with the same where the statics are the same
same_initial : (s t : ℕ → Option Shape) → ((n : ℕ) → s n ≡ t n) → (kind : ScalarType) (i : Initial) → IsInitial s kind i → IsInitial t kind i
same_initial s t same kind (initial.Word w) is = is
same_initial s t same kind initial.Null is = is
same_initial s t same kind (initial.Address v k) is = subst (StartsAt kind k) (same v) is

module _ (file : File) where
  abbrev statics : ℕ → Option Shape
  statics n = static_shape (slice_get file.statics n)

  same_statics : (n : ℕ) → statics n ≡ whole.static_in (program_tree file) n
  same_statics n = sym (static_kept file n)

  static_formed : (o : StaticTree) → IsStatic file o → IsObject (program_tree file) (object_tree o)
  static_formed o is = record {
    is_type = is.is_type;
    from_one = is.from_one;
    most = is.most;
    within = is.within;
    starts = λ k d below. same_initial statics (whole.static_in (program_tree file)) same_statics (cell_kind o.object_type) _ (is.starts k d below);
  }

  module _ (f : TypedFunction) (typed : IsTypedFunction file f) where
    local_formed : (l : LocalTree) → IsLocal (names_in file f) l → IsObject (program_tree file) (local_object l)
    local_formed l is = record {
      is_type = is.is_type;
      from_one = is.from_one;
      most = is.most;
      within = is.within;
      starts = λ k d below. same_initial statics (whole.static_in (program_tree file)) same_statics (cell_kind l.object_type) _ (is.starts k d below);
    }

    function_formed : IsFunction (program_tree file) (function_tree f)
    function_formed = record {
      result = typed.result;
      scalars = all_scalars (IsLocal (names_in file f)) IsScalarType (λ l is. is.is_type) (frame f) f.locals typed.locals;
      locals = all_objects (IsLocal (names_in file f)) (IsObject (program_tree file)) local_formed (frame f) f.locals typed.locals;
      parameters = all_parameters f typed.single;
      differ = references_differ (statement_uses f.body) f.parameters f.locals;
      body = kept_statement (frame f) (object_in file f) (whole.object_in (program_tree file) (function_tree f)) (renumbers file f) f.result
          (opened (object_in file f) (numbers_from 0 f.parameters) (names_in file f))
          (opened (whole.object_in (program_tree file) (function_tree f)) (function_tree f).params (names_within (program_tree file) (function_tree f)))
          (body_carried file f typed.parameters) around.Body f.body (all_addresses f) typed.tree;
    }

-- the names of functions stay
same_names : (fs : List TypedFunction) → map (λ f. f.name) (map function_tree fs) ≡ map (λ f. f.name) fs
same_names [] = refl
same_names (f ∷ fs) = ap (λ ns. f.name ∷ ns) (same_names fs)

-- `int main(void)`
both_hold : (a b : Bool) → (a && b) ≡ true → (a ≡ true) × (b ≡ true)
both_hold true b is = (refl, is)
both_hold false b is = absurd (true≢false (sym is))

base_is : (b : Base) → same_base b base.Int ≡ true → b ≡ base.Int
base_is base.Void is = absurd (true≢false (sym is))
base_is base.Int is = refl
base_is base.Unsigned is = absurd (true≢false (sym is))

kind_is : (k : Kind) → same_kind k (Some int) ≡ true → k ≡ Some int
kind_is None is = absurd (true≢false (sym is))
kind_is (Some kind) is =
    let both = both_hold (same_base kind.base base.Int) (kind.stars == 0) is
    in ap Some (λ i. record { base = base_is kind.base both.0 i; stars = eqb-true kind.stars 0 both.1 i })

main_formed : (f : TypedFunction) → is_main f ≡ true → IsMain (function_tree f)
main_formed f is =
    let first = both_hold (bytes_eq f.name (codes "main")) (same_kind f.result (Some int) && f.parameters == 0) is
    in let rest = both_hold (same_kind f.result (Some int)) (f.parameters == 0) first.1
    in record {
      name = (bytes_eq-Decides f.name main_name).0 first.0;
      result = kind_is f.result rest.0;
      parameters = ap (λ n. take n (frame f)) (eqb-true f.parameters 0 rest.1);
    }

any_first : {A : Type 0} (P : A → Type 0) (x : A) (xs : List A) → P x → Any P (x ∷ xs)
any_first P x xs holds = (0, x, omega arith, refl, holds)

any_later : {A : Type 0} (P : A → Type 0) (x : A) (xs : List A) → Any P xs → Any P (x ∷ xs)
any_later P x xs any = (suc any.0, any.1, omega (arith, any.2), any.3, any.4)

main_here : (f : TypedFunction) (fs : List TypedFunction) (b : Bool) → is_main f ≡ b → (b || has_main fs) ≡ true
    → (has_main fs ≡ true → Any IsMain (map function_tree fs)) → Any IsMain (map function_tree (f ∷ fs))
main_here f fs true is has later = any_first IsMain (function_tree f) (map function_tree fs) (main_formed f is)
main_here f fs false is has later = any_later IsMain (function_tree f) (map function_tree fs) (later has)

main_among : (fs : List TypedFunction) → has_main fs ≡ true → Any IsMain (map function_tree fs)
main_among [] has = absurd (true≢false (sym has))
main_among (f ∷ fs) has = main_here f fs (is_main f) refl has (main_among fs)

-- calls stay
calls_kept : (fs : List TypedFunction) → whole.program_calls (map function_tree fs) ≡ calls_of fs
calls_kept [] = refl
calls_kept (f ∷ fs) =
    ap (λ ls. called (statement_uses (function_tree f).body) ∷ ls) (calls_kept fs)
    ∙ ap (λ l. l ∷ calls_of fs) (ap called (statement_kept (frame f) f.body) ∙ same_calls (frame f) (statement_uses f.body))

-- limits
not_above : (limit n : ℕ) (b : Bool) (o : Option ℕ) → nat_lt limit n ≡ b → (if b then Some n else o) ≡ None → (n ≤ limit) × (o ≡ None)
not_above limit n true o is none = absurd (cc none)
not_above limit n false o is none = (ltb-false limit n is, none)

none_above : (limit : ℕ) (ns : List ℕ) → first_above limit ns ≡ None → All (λ n. n ≤ limit) ns
none_above limit [] none = All-nil (λ n. n ≤ limit)
none_above limit (n ∷ ns) none =
    let both = not_above limit n (nat_lt limit n) (first_above limit ns) refl none
    in All-cons (λ n. n ≤ limit) n ns both.0 (none_above limit ns both.1)

-- what is so of the count of each function
each_limited : (count : TypedFunction → ℕ) (limit : ℕ) (P : FunctionTree → Type 0) → ((f : TypedFunction) → count f ≤ limit → P (function_tree f))
    → (fs : List TypedFunction) → All (λ n. n ≤ limit) (map count fs) → All P (map function_tree fs)
each_limited count limit P each [] all = All-nil P
each_limited count limit P each (f ∷ fs) all =
    All-cons P (function_tree f) (map function_tree fs) (each f (All-head (λ n. n ≤ limit) (count f) (map count fs) all))
    (each_limited count limit P each fs (All-tail (λ n. n ≤ limit) (count f) (map count fs) all))

all_left : (limit : ℕ) (xs ys : List ℕ) → All (λ n. n ≤ limit) (xs ++ ys) → All (λ n. n ≤ limit) xs
all_left limit [] ys all = All-nil (λ n. n ≤ limit)
all_left limit (x ∷ xs) ys all =
    All-cons (λ n. n ≤ limit) x xs (All-head (λ n. n ≤ limit) x (xs ++ ys) all) (all_left limit xs ys (All-tail (λ n. n ≤ limit) x (xs ++ ys) all))

all_right : (limit : ℕ) (xs ys : List ℕ) → All (λ n. n ≤ limit) (xs ++ ys) → All (λ n. n ≤ limit) ys
all_right limit [] ys all = all
all_right limit (x ∷ xs) ys all = all_right limit xs ys (All-tail (λ n. n ≤ limit) x (xs ++ ys) all)

abbrev HasFewParameters : FunctionTree → Type 0
HasFewParameters f = length f.params ≤ MOST_PARAMETERS

abbrev HasFewScalars : FunctionTree → Type 0
HasFewScalars f = length f.scalars + statement_temporaries f.body ≤ MOST_FRAME_SCALARS

abbrev HasFewCases : FunctionTree → Type 0
HasFewCases f = All (λ n. n ≤ MOST_CASES) (case_counts (statement_uses f.body))

cases_limited : (fs : List TypedFunction) → All (λ n. n ≤ MOST_CASES) (all_cases (map uses_of fs)) → All HasFewCases (map function_tree fs)
cases_limited [] all = All-nil HasFewCases
cases_limited (f ∷ fs) all =
    All-cons HasFewCases (function_tree f) (map function_tree fs)
    (subst (All (λ n. n ≤ MOST_CASES)) (sym (counts_kept (frame f) f.body)) (all_left MOST_CASES (case_counts (uses_of f)) (all_cases (map uses_of fs)) all))
    (cases_limited fs (all_right MOST_CASES (case_counts (uses_of f)) (all_cases (map uses_of fs)) all))

parameters_limited : (f : TypedFunction) → f.parameters ≤ MOST_PARAMETERS → HasFewParameters (function_tree f)
parameters_limited f few = let taken = length-take f.parameters (frame f) in omega (arith, few, taken)

scalars_limited : (f : TypedFunction) → frame_size f ≤ MOST_FRAME_SCALARS → HasFewScalars (function_tree f)
scalars_limited f few =
    let scalars = scalar_count (frame f) f.locals (references_length (statement_uses f.body) f.locals)
    in let needs = statement_needs (frame f) f.body
    in omega (arith, few, scalars, needs)

limits_hold : (fs : List TypedFunction) → AreWhole fs → IsLimited (map function_tree fs)
limits_hold fs is = record {
  functions =
      let count = All-head (λ n. n ≤ MOST_FUNCTIONS) (length fs) [] (none_above MOST_FUNCTIONS (length fs ∷ []) (is.limits limit.Functions))
      in omega (arith, count, length-map fs function_tree);
  parameters = each_limited (λ f. f.parameters) MOST_PARAMETERS HasFewParameters parameters_limited fs (none_above MOST_PARAMETERS (map (λ f. f.parameters) fs) (is.limits limit.Parameters));
  scalars = each_limited frame_size MOST_FRAME_SCALARS HasFewScalars scalars_limited fs (none_above MOST_FRAME_SCALARS (map frame_size fs) (is.limits limit.Scalars));
  cases = cases_limited fs (none_above MOST_CASES (all_cases (map uses_of fs)) (is.limits limit.Cases));
}

pub well_formed_program : (file : File) → IsTypedFile file → AreWhole file.functions → All IsName (map (λ f. f.name) file.functions)
    → object_count (program_tree file) ≤ MOST_OBJECTS → IsProgram (program_tree file)
well_formed_program file typed is names few = record {
  statics = All-map (IsObject (program_tree file)) object_tree file.statics (λ k d below. static_formed file (get_or file.statics k d) (typed.statics k d below));
  functions = All-map (IsFunction (program_tree file)) function_tree file.functions (λ k d below. function_formed file _ (typed.functions k d below));
  names = subst (All IsName) (sym (same_names file.functions)) names;
  differ = subst (AllPairs (λ a b. a ≢ b)) (sym (same_names file.functions)) typed.names_differ;
  main = main_among file.functions is.main;
  bodies = λ n m calls.
      let below = bodies_met file.functions is.bodies n m (subst (λ lists. CallsAmong lists n m) (calls_kept file.functions) calls)
      in omega (arith, below, length-map file.functions function_tree);
  no_cycle = subst (λ lists. HasNoRound (CallsAmong lists)) (sym (calls_kept file.functions)) is.no_cycle;
  limits = limits_hold file.functions is;
  objects = few;
}
