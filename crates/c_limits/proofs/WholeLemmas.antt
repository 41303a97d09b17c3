-- What is wanted of a whole source, from what its parts are tested for.
use Rattle.std.proofs.Common.{◌≡◌, ◌<◌, ◌≤◌, ◌⊎◌, inl, inr, ◌++◌, ◌∷◌, [], ℕ, zero, suc, Bool, true, false, List, length, map, get_or, take, drop, ap, ◌∙◌, sym, refl, subst, vec_items, ◌+◌, nat_lt, if◌then◌else◌, Option, Some, None, arith}
use Rattle.std.specs.Prelude.{Vec, Result, Ok, Err, IfErr, All}
use Rattle.std.proofs.lemmas.List.Elements.{All-nil, All-cons, All-head, All-tail}
use Rattle.std.specs.Result.{IsErrAnd}
use Rattle.std.specs.Global.{Global}
use Rattle.std.proofs.lemmas.List.{length-map, map-append, map_more}
use Rattle.c_tree.specs.declared.program.VarRef.{VarRef}
use Rattle.c_tree.specs.View.{stmt_of}
use Rattle.c_rules.specs.declared.fault.LimitName.{LimitName}
use Rattle.c_rules.specs.declared.fault.LimitName.TheVariants as limit
use Rattle.c_rules.specs.declared.fault.TypeFault.{TypeFault}
use Rattle.c_rules.specs.declared.fault.TypeFault.TheVariants as faults
use Rattle.c_limits.specs.declared.functions.TypedFunction as memory
use Rattle.c_tree.specs.declared.uses.Use.{Use}
use Rattle.c_tree.specs.declared.uses.Use.TheVariants as kind
use Rattle.c_rules.specs.Checked.{AreWhole}
use Rattle.c_rules.specs.Counted.{IsCounted, AreCounted, most_counted}
use Rattle.c_rules.specs.Faults.{SaysOf}
use Rattle.c_rules.specs.Programs.{frame, has_main, HasNoCycle}
use Rattle.c_rules.specs.Units.{TypedFunction}
use Rattle.c_tree.specs.Uses.{statement_uses}
use Rattle.c_limits.specs.FunctionView.{frame_lists, typed_function_of}
use Rattle.c_rules.specs.Whole.{uses_of, earlier, first_among, missing_body, case_counts, all_cases, first_above, passed, IsOver}
use Rattle.c_rules.specs.Chains.{IsRecursion}
use Rattle.c_rules.proofs.Turns.{first_left}
use Rattle.c_tree.specs.declared.limits.TheConstants.{MOST_CASES}

-- the uses of each function, by its place
pub uses_at : (fs : List memory.TypedFunction) (lists : List (Vec Use Global)) (n : ℕ) (f : memory.TypedFunction) (us : Vec Use Global)
    → map vec_items lists ≡ map (λ g. statement_uses (stmt_of g.body.value)) fs → n < length fs → f ≡ get_or fs n f → us ≡ get_or lists n us
    → us.items ≡ statement_uses (stmt_of f.body.value)
uses_at [] lists n f us all within there listed = absurd (omega arith)
uses_at (g ∷ fs) [] n f us all within there listed = absurd (cc all)
uses_at (g ∷ fs) (vs ∷ lists) zero f us all within there listed =
    let head : vs.items ≡ statement_uses (stmt_of g.body.value) = cc all
    in ap (λ l. l.items) listed ∙ head ∙ ap (λ h. statement_uses (stmt_of h.body.value)) (sym there)
uses_at (g ∷ fs) (vs ∷ lists) (suc n) f us all within there listed =
    let rest : map vec_items lists ≡ map (λ g. statement_uses (stmt_of g.body.value)) fs = cc all
    in uses_at fs lists n f us rest (omega arith) there listed

-- a turn of the loop over functions that makes their frames
pub frame_further : (fs : List memory.TypedFunction) (i : ℕ) (f : memory.TypedFunction) (known : List (Vec VarRef Global)) {more : List (Vec VarRef Global)} (references : Vec VarRef Global)
    → i < length fs → f ≡ get_or fs i f → frame_lists known ≡ map (λ g. frame (typed_function_of g)) (take i fs) → more ≡ known ++ references ∷ []
    → references.items ≡ frame (typed_function_of f) → frame_lists more ≡ map (λ g. frame (typed_function_of g)) (take (i + 1) fs)
frame_further fs i f known references within is so_far added made =
    ap frame_lists added ∙ map-append (λ v. v.items) known (references ∷ [])
    ∙ ap (λ l. l ++ references.items ∷ []) so_far ∙ ap (λ r. map (λ g. frame (typed_function_of g)) (take i fs) ++ r ∷ []) (made ∙ ap (λ g. frame (typed_function_of g)) is)
    ∙ sym (map_more (λ g. frame (typed_function_of g)) fs i f within)

pub map_trees : {X : Type 0} (of : TypedFunction → X) → (fs : List memory.TypedFunction) → map of (map typed_function_of fs) ≡ map (λ f. of (typed_function_of f)) fs
map_trees of [] = refl
map_trees of (f ∷ fs) = ap (λ xs. of (typed_function_of f) ∷ xs) (map_trees of fs)

-- the uses of each function, as the code has them
uses_of_trees : (fs : List memory.TypedFunction) {lists : List (List Use)} → lists ≡ map (λ f. statement_uses (stmt_of f.body.value)) fs
    → lists ≡ map uses_of (map typed_function_of fs)
uses_of_trees fs listed = listed ∙ sym (map_trees uses_of fs)

pub earlier_alone : (a : Option ℕ) → earlier a None ≡ a
earlier_alone None = refl
earlier_alone (Some a) = refl

pub earlier_grouped : (a b c : Option ℕ) → earlier (earlier a b) c ≡ earlier a (earlier b c)
earlier_grouped None b c = refl
earlier_grouped (Some a) None c = refl
earlier_grouped (Some a) (Some b) None = refl
earlier_grouped (Some a) (Some b) (Some c) = ap Some (omega arith)

pub missing_same : (fs : List memory.TypedFunction) (lists : List (Vec Use Global)) → map vec_items lists ≡ map (λ f. statement_uses (stmt_of f.body.value)) fs
    → first_among (length lists) (map vec_items lists) ≡ missing_body (map typed_function_of fs)
missing_same fs lists listed =
    let long : length lists ≡ length (map typed_function_of fs) =
    sym (length-map lists vec_items) ∙ ap length listed ∙ length-map fs (λ f. statement_uses (stmt_of f.body.value)) ∙ sym (length-map fs typed_function_of)
    in ap (λ n. first_among n (map vec_items lists)) long ∙ ap (first_among (length (map typed_function_of fs))) (uses_of_trees fs listed)

-- where the uses are lent meanwhile
pub missing_is : (fs : List memory.TypedFunction) (lists : List (Vec Use Global)) {lent : List (Vec Use Global)} → lent ≡ lists
    → map vec_items lists ≡ map (λ f. statement_uses (stmt_of f.body.value)) fs → first_among (length lent) (map vec_items lent) ≡ missing_body (map typed_function_of fs)
missing_is fs lists same listed = ap (λ l. first_among (length l) (map vec_items l)) same ∙ missing_same fs lists listed

pub none_missing : (fs : List memory.TypedFunction) (lists : List (Vec Use Global)) {lent : List (Vec Use Global)} (found : Option ℕ) → lent ≡ lists
    → map vec_items lists ≡ map (λ f. statement_uses (stmt_of f.body.value)) fs → found ≡ first_among (length lent) (map vec_items lent) → found ≡ None
    → missing_body (map typed_function_of fs) ≡ None
none_missing fs lists found same listed is none = sym (missing_is fs lists same listed) ∙ sym is ∙ none

pub cases_is : (fs : List memory.TypedFunction) (lists : List (Vec Use Global)) {lent : List (Vec Use Global)} → lent ≡ lists
    → map vec_items lists ≡ map (λ f. statement_uses (stmt_of f.body.value)) fs → first_above MOST_CASES (all_cases (map vec_items lent)) ≡ passed limit.Cases (map typed_function_of fs)
cases_is fs lists same listed =
    ap (λ l. first_above MOST_CASES (all_cases (map vec_items l))) same ∙ ap (λ l. first_above MOST_CASES (all_cases l)) (uses_of_trees fs listed)

-- counts
pub above_behind : (limit : ℕ) (a b : List ℕ) → first_above limit a ≡ None → first_above limit (a ++ b) ≡ first_above limit b
above_behind limit [] b none = refl
above_behind limit (n ∷ ns) b none = behind (nat_lt limit n) (first_above limit ns) (first_above limit (ns ++ b)) (above_behind limit ns b) none
  where
    behind : (over : Bool) (o p : Option ℕ) → (o ≡ None → p ≡ first_above limit b) → (if over then Some n else o) ≡ None → (if over then Some n else p) ≡ first_above limit b
    behind true o p rest none = absurd (cc none)
    behind false o p rest none = rest none

pub above_first : (limit : ℕ) (a b : List ℕ) (m : ℕ) → first_above limit a ≡ Some m → first_above limit (a ++ b) ≡ Some m
above_first limit [] b m some = absurd (cc some)
above_first limit (n ∷ ns) b m some = first (nat_lt limit n) (first_above limit ns) (first_above limit (ns ++ b)) (above_first limit ns b m) some
  where
    first : (over : Bool) (o p : Option ℕ) → (o ≡ Some m → p ≡ Some m) → (if over then Some n else o) ≡ Some m → (if over then Some n else p) ≡ Some m
    first true o p rest some = some
    first false o p rest some = rest some

-- what a fault says of a count
over_is : (which : LimitName) (found : Option ℕ) (f : TypeFault) → IsOver which found f → (f ≡ faults.NoMemory) ⊎ ((n : ℕ) × (f ≡ faults.Limit which n) × (found ≡ Some n))
over_is which found (faults.Undeclared at) over = absurd over
over_is which found (faults.Redeclared at) over = absurd over
over_is which found (faults.Mismatch at) over = absurd over
over_is which found (faults.NotLvalue at) over = absurd over
over_is which found (faults.NotConstant at) over = absurd over
over_is which found (faults.LongConstant at) over = absurd over
over_is which found (faults.BadPort at) over = absurd over
over_is which found (faults.ArgCount at) over = absurd over
over_is which found (faults.Misplaced at) over = absurd over
over_is which found (faults.MissingMain at) over = absurd over
over_is which found (faults.MissingBody at) over = absurd over
over_is which found (faults.Recursion chain) over = absurd over
over_is which found (faults.Limit name count) over = inr (count, ap (λ w. faults.Limit w count) over.0, over.1)
over_is which found faults.NoMemory over = inl refl

pub over_same : (which : LimitName) (found other : Option ℕ) (f : TypeFault) → found ≡ other → IsOver which found f → IsOver which other f
over_same which found other f same over = subst (λ o. IsOver which o f) same over

pub over_further : (which : LimitName) (limit : ℕ) (a b : List ℕ) (f : TypeFault) → IsOver which (first_above limit a) f → IsOver which (first_above limit (a ++ b)) f
over_further which limit a b f over = elim (over_is which (first_above limit a) f over) [
  | inl none ↦ subst (IsOver which (first_above limit (a ++ b))) (sym none) (tt {0})
  | inr found ↦ subst (IsOver which (first_above limit (a ++ b))) (sym found.1) (refl, above_first limit a b found.0 found.2)
]

-- a turn of the loop over the uses of functions, whose cases are counted
pub cases_further : {whole : Option ℕ} (lists : List (Vec Use Global)) (i : ℕ) (us : Vec Use Global) → us ≡ get_or lists i us → i < length lists
    → first_above MOST_CASES (all_cases (map vec_items (drop i lists))) ≡ whole → first_above MOST_CASES (case_counts us.items) ≡ None
    → first_above MOST_CASES (all_cases (map vec_items (drop (i + 1) lists))) ≡ whole
cases_further lists i us is below so_far none =
    sym (above_behind MOST_CASES (case_counts us.items) (all_cases (map vec_items (drop (i + 1) lists))) none)
    ∙ ap (λ l. first_above MOST_CASES (all_cases (map vec_items l))) (sym (first_left lists i us is below)) ∙ so_far

pub cases_over : {whole : Option ℕ} (lists : List (Vec Use Global)) (i : ℕ) (us : Vec Use Global) (f : TypeFault) → us ≡ get_or lists i us → i < length lists
    → first_above MOST_CASES (all_cases (map vec_items (drop i lists))) ≡ whole → IsOver limit.Cases (first_above MOST_CASES (case_counts us.items)) f → IsOver limit.Cases whole f
cases_over {whole = whole} lists i us f is below so_far over =
    over_same limit.Cases _ whole f (ap (λ l. first_above MOST_CASES (all_cases (map vec_items l))) (sym (first_left lists i us is below)) ∙ so_far)
    (over_further limit.Cases MOST_CASES (case_counts us.items) (all_cases (map vec_items (drop (i + 1) lists))) f over)

-- what a fault says of the functions, by what was tested before
module _ (fs : List TypedFunction) (main : has_main fs ≡ true) (bodies : missing_body fs ≡ None) where
  pub recursion_is : (f : TypeFault) → IsRecursion fs f → SaysOf fs f
  recursion_is (faults.Undeclared at) found = absurd found
  recursion_is (faults.Redeclared at) found = absurd found
  recursion_is (faults.Mismatch at) found = absurd found
  recursion_is (faults.NotLvalue at) found = absurd found
  recursion_is (faults.NotConstant at) found = absurd found
  recursion_is (faults.LongConstant at) found = absurd found
  recursion_is (faults.BadPort at) found = absurd found
  recursion_is (faults.ArgCount at) found = absurd found
  recursion_is (faults.Misplaced at) found = absurd found
  recursion_is (faults.MissingMain at) found = absurd found
  recursion_is (faults.MissingBody at) found = absurd found
  recursion_is (faults.Recursion chain) found = record { main = main; bodies = bodies; is_chain = found }
  recursion_is (faults.Limit which count) found = absurd found
  recursion_is faults.NoMemory found = tt {0}

  module _ (no_cycle : HasNoCycle fs) where
    says_over : (which : LimitName) (f : TypeFault) → ((n : ℕ) → passed which fs ≡ Some n → SaysOf fs (faults.Limit which n)) → IsOver which (passed which fs) f → SaysOf fs f
    says_over which f says over = elim (over_is which (passed which fs) f over) [
      | inl none ↦ subst (SaysOf fs) (sym none) (tt {0})
      | inr found ↦ subst (SaysOf fs) (sym found.1) (says found.0 found.2)
    ]

    pub says_functions : (f : TypeFault) → IsOver limit.Functions (passed limit.Functions fs) f → SaysOf fs f
    says_functions f = says_over limit.Functions f (λ n is. record { main = main; bodies = bodies; no_cycle = no_cycle; passed = is })

    module _ (functions : passed limit.Functions fs ≡ None) where
      pub says_parameters : (f : TypeFault) → IsOver limit.Parameters (passed limit.Parameters fs) f → SaysOf fs f
      says_parameters f = says_over limit.Parameters f (λ n is. record { main = main; bodies = bodies; no_cycle = no_cycle; passed = (functions, is) })

      module _ (parameters : passed limit.Parameters fs ≡ None) where
        pub says_scalars : (f : TypeFault) → IsOver limit.Scalars (passed limit.Scalars fs) f → SaysOf fs f
        says_scalars f = says_over limit.Scalars f (λ n is. record { main = main; bodies = bodies; no_cycle = no_cycle; passed = (functions, parameters, is) })

        module _ (scalars : passed limit.Scalars fs ≡ None) where
          pub says_cases : (f : TypeFault) → IsOver limit.Cases (passed limit.Cases fs) f → SaysOf fs f
          says_cases f = says_over limit.Cases f (λ n is. record { main = main; bodies = bodies; no_cycle = no_cycle; passed = (functions, parameters, scalars, is) })

          pub all_whole : passed limit.Cases fs ≡ None → AreWhole fs
          all_whole cases = record { main = main; bodies = bodies; no_cycle = no_cycle; limits = each }
            where
              each : (which : LimitName) → passed which fs ≡ None
              each limit.Functions = functions
              each limit.Parameters = parameters
              each limit.Scalars = scalars
              each limit.Cases = cases

-- what is known of the fault that a result holds
pub fault_says : {A : Type 0} (P : TypeFault → Type 0) → (f : TypeFault) (result : Result A TypeFault) → IsErrAnd result (λ e. e ≡ f) → P f → IfErr result P
fault_says P f (Ok a) given known = absurd given
fault_says P f (Err e) given known = subst P (sym given) known

-- what is counted of each function, and of each switch
pub counted_at : (fs : List memory.TypedFunction) (i : ℕ) (f : memory.TypedFunction) → AreCounted (map typed_function_of fs) → f ≡ get_or fs i f → i < length fs
    → IsCounted (typed_function_of f)
counted_at fs i f counted is below = at fs i counted.each below is
  where
    at : (gs : List memory.TypedFunction) (k : ℕ) → All IsCounted (map typed_function_of gs) → k < length gs → f ≡ get_or gs k f → IsCounted (typed_function_of f)
    at [] k all within there = absurd (omega arith)
    at (g ∷ gs) zero all within there =
        subst (λ h. IsCounted (typed_function_of h)) (sym there) (All-head IsCounted (typed_function_of g) (map typed_function_of gs) all)
    at (g ∷ gs) (suc k) all within there = at gs k (All-tail IsCounted (typed_function_of g) (map typed_function_of gs) all) (omega arith) there

module _ (P : ℕ → Type 0) where
  first_all : (xs ys : List ℕ) → All P (xs ++ ys) → All P xs
  first_all [] ys all = All-nil P
  first_all (x ∷ xs) ys all = All-cons P x xs (All-head P x (xs ++ ys) all) (first_all xs ys (All-tail P x (xs ++ ys) all))

  last_all : (xs ys : List ℕ) → All P (xs ++ ys) → All P ys
  last_all [] ys all = all
  last_all (x ∷ xs) ys all = last_all xs ys (All-tail P x (xs ++ ys) all)

  pub cases_at : (lists : List (Vec Use Global)) (i : ℕ) (us : Vec Use Global) → All P (all_cases (map vec_items lists)) → us ≡ get_or lists i us → i < length lists
      → All P (case_counts us.items)
  cases_at [] i us all is below = absurd (omega arith)
  cases_at (vs ∷ lists) zero us all is below =
      subst (λ ws. All P (case_counts ws.items)) (sym is) (first_all (case_counts vs.items) (all_cases (map vec_items lists)) all)
  cases_at (vs ∷ lists) (suc i) us all is below = cases_at lists i us (last_all (case_counts vs.items) (all_cases (map vec_items lists)) all) is (omega arith)

  pub case_at : (us : List Use) (i : ℕ) (other : Use) (n : ℕ) → All P (case_counts us) → i < length us → get_or us i other ≡ kind.Cases n → P n
  case_at [] i other n all below case = absurd (omega arith)
  case_at (kind.Cases m ∷ us) zero other n all below case = let same : m ≡ n = cc case in subst P same (All-head P m (case_counts us) all)
  case_at (kind.Call f at ∷ us) zero other n all below case = absurd (cc case)
  case_at (kind.Address r ∷ us) zero other n all below case = absurd (cc case)
  case_at (kind.Cases m ∷ us) (suc i) other n all below case = case_at us i other n (All-tail P m (case_counts us) all) (omega arith) case
  case_at (kind.Call f at ∷ us) (suc i) other n all below case = case_at us i other n all (omega arith) case
  case_at (kind.Address r ∷ us) (suc i) other n all below case = case_at us i other n all (omega arith) case

  all_appended : (xs ys : List ℕ) → All P xs → All P ys → All P (xs ++ ys)
  all_appended [] ys first second = second
  all_appended (x ∷ xs) ys first second = All-cons P x (xs ++ ys) (All-head P x xs first) (all_appended xs ys (All-tail P x xs first) second)

-- all switches, where the uses are lent meanwhile
counted_cases : (fs : List TypedFunction) → All IsCounted fs → All (λ n. n ≤ most_counted) (all_cases (map uses_of fs))
counted_cases [] all = All-nil (λ n. n ≤ most_counted)
counted_cases (f ∷ fs) all =
    all_appended (λ n. n ≤ most_counted) (case_counts (uses_of f)) (all_cases (map uses_of fs)) (All-head IsCounted f fs all).cases (counted_cases fs (All-tail IsCounted f fs all))

pub cases_counted : (fs : List memory.TypedFunction) (lists : List (Vec Use Global)) {lent : List (Vec Use Global)} → lent ≡ lists
    → map vec_items lists ≡ map (λ f. statement_uses (stmt_of f.body.value)) fs → AreCounted (map typed_function_of fs)
    → All (λ n. n ≤ most_counted) (all_cases (map vec_items lent))
cases_counted fs lists same listed counted =
    subst (λ l. All (λ n. n ≤ most_counted) (all_cases (map vec_items l))) (sym same)
    (subst (λ l. All (λ n. n ≤ most_counted) (all_cases l)) (sym (uses_of_trees fs listed)) (counted_cases (map typed_function_of fs) counted.each))
