-- Steps of a run that are counted one after another.
use Rattle.std.proofs.Common.{◌≡◌, ℕ, zero, suc, ◌+◌, ◌-◌, ◌<◌, ◌≤◌, Bool, true, false, cond, List, [], ◌∷◌, ◌++◌, length, get_or, set, replicate, refl, sym, ap, ◌∙◌, subst, arith, eqb-true, get_or-set_same, get_or-set_other}
use Rattle.std.specs.Prelude.{◌==◌, ◌&&◌, not, count_by}
use Rattle.std.specs.List.{range_with_len}
use Rattle.std.proofs.lemmas.Bool.{eqb-false, eq-eqb, ne_eqb}
use Rattle.std.proofs.lemmas.List.{get_or-replicate}
use Rattle.std.proofs.lemmas.List.FromFn.{length-range_with_len}
use Rattle.std.proofs.lemmas.List.Sums.{sum_by-cons, count_by-le-length}
use Rattle.word_base.specs.Ports.{Outputs}
use Rattle.c25_isa.specs.State.{State}
use Rattle.c25_isa.specs.Step.{Event, Ran, Put, Over, Trapped, step}
use Rattle.c25_isa.specs.MachineRun.{go_on, run_from}
use Rattle.c25_sim.specs.Answers.{behind, state_after}
use Rattle.c25_sim.proofs.Steps.{after_more}
use Rattle.lay_profile.specs.Entries.{still_runs, is_at, times_at}
use Rattle.lay_profile.specs.Counting.{goes_on, AreTimes}

-- ---- runs that go on

-- whatever was put before
free : (n : ℕ) (s : State) (outs more : Outputs) → still_runs (run_from n s outs) ≡ still_runs (run_from n s more)
free zero s outs more = refl
free (suc n) s outs more = by (step s) (λ t first second. free n t first second)
  where
    by : (event : Event) → ((t : State) (first second : Outputs) → still_runs (run_from n t first) ≡ still_runs (run_from n t second))
        → still_runs (go_on event (run_from n) outs) ≡ still_runs (go_on event (run_from n) more)
    by (Ran t) later = later t outs more
    by (Put word t) later = later t (outs ++ word ∷ []) (more ++ word ∷ [])
    by (Over ending) later = refl
    by (Trapped kind at) later = refl

-- steps behind steps
both : (m n : ℕ) (s : State) (outs : Outputs) → still_runs (run_from (m + n) s outs) ≡ (still_runs (run_from m s outs) && still_runs (run_from n (state_after m s) []))
both zero n s outs = let e : 0 + n ≡ n = omega arith in ap (λ k. still_runs (run_from k s outs)) e ∙ free n s outs []
both (suc m) n s outs = let e : suc m + n ≡ suc (m + n) = omega arith in ap (λ k. still_runs (run_from k s outs)) e ∙ by (step s) (λ t put. both m n t put)
  where
    by : (event : Event) → ((t : State) (put : Outputs) → still_runs (run_from (m + n) t put) ≡ (still_runs (run_from m t put) && still_runs (run_from n (state_after m t) [])))
        → still_runs (go_on event (run_from (m + n)) outs) ≡ (still_runs (go_on event (run_from m) outs) && still_runs (run_from n (state_after m (behind event s)) []))
    by (Ran t) later = later t outs
    by (Put word t) later = later t (outs ++ word ∷ [])
    by (Over ending) later = refl
    by (Trapped kind at) later = refl

one : (s : State) → still_runs (run_from 1 s []) ≡ goes_on (step s)
one s = by (step s)
  where
    by : (event : Event) → still_runs (go_on event (run_from 0) []) ≡ goes_on event
    by (Ran t) = refl
    by (Put word t) = refl
    by (Over ending) = refl
    by (Trapped kind at) = refl

-- behind one step more
pub runs_more : (i : ℕ) (s : State) → still_runs (run_from i s []) ≡ true → still_runs (run_from (i + 1) s []) ≡ goes_on (step (state_after i s))
runs_more i s runs =
    both i 1 s []
    ∙ ap (λ b. b && still_runs (run_from 1 (state_after i s) [])) runs
    ∙ one (state_after i s)

-- ---- how often it is somewhere

abbrev pub one_if : Bool → ℕ
one_if b = cond b 1 0

count_more : (P : ℕ → Bool) (a n : ℕ) → count_by P (range_with_len a (suc n)) ≡ count_by P (range_with_len a n) + one_if (P (a + n))
count_more P a zero = let e : a + 0 ≡ a = omega arith in ap (λ k. 0 + one_if (P k)) (sym e)
count_more P a (suc n) =
    let e : (a + 1) + n ≡ a + suc n = omega arith in
    sum_by-cons (λ x. one_if (P x)) a (range_with_len (a + 1) (suc n))
    ∙ ap (λ m. one_if (P a) + m) (count_more P (a + 1) n ∙ ap (λ k. count_by P (range_with_len (a + 1) n) + one_if (P k)) e)
    ∙ sums (one_if (P a)) (count_by P (range_with_len (a + 1) n)) (one_if (P (a + suc n)))
    ∙ ap (λ m. m + one_if (P (a + suc n))) (sym (sum_by-cons (λ x. one_if (P x)) a (range_with_len (a + 1) n)))
  where
    sums : (x y z : ℕ) → x + (y + z) ≡ x + y + z
    sums x y z = omega arith

pub times_more : (s : State) (i place : ℕ) → times_at s (i + 1) place ≡ times_at s i place + one_if (is_at s place i)
times_more s i place =
    let e : i + 1 ≡ suc i = omega arith in
    let z : 0 + i ≡ i = omega arith in
    ap (λ k. times_at s k place) e
    ∙ count_more (is_at s place) 0 i
    ∙ ap (λ k. times_at s i place + one_if (is_at s place k)) z

pub times_few : (s : State) (i place : ℕ) → times_at s i place ≤ i
times_few s i place =
    subst (λ n. times_at s i place ≤ n) (length-range_with_len 0 i) (count_by-le-length (is_at s place) (range_with_len 0 i))

-- a run that has stopped is nowhere any more
times_stopped : (s : State) (m n place : ℕ) → still_runs (run_from m s []) ≡ false → times_at s (m + n) place ≡ times_at s m place
times_stopped s m zero place stopped = let e : m + 0 ≡ m = omega arith in ap (λ k. times_at s k place) e
times_stopped s m (suc n) place stopped =
    let e : m + suc n ≡ (m + n) + 1 = omega arith in
    let nowhere : is_at s place (m + n) ≡ false =
    ap (λ b. b && ((state_after (m + n) s).pc == place)) (both m n s [] ∙ ap (λ b. b && still_runs (run_from n (state_after m s) [])) stopped) in
    let none : one_if (is_at s place (m + n)) ≡ 0 = ap one_if nowhere in
    let here : times_at s (m + suc n) place ≡ times_at s ((m + n) + 1) place = ap (λ k. times_at s k place) e in
    omega (arith, here, times_more s (m + n) place, none, times_stopped s m n place stopped)

-- ---- the table

-- no step is done
pub none_counted : (s : State) (table : List ℕ) → table ≡ replicate 65536 0 → AreTimes s 0 table
none_counted s table is = λ place lt. ap (λ l. get_or l place 0) is ∙ get_or-replicate 65536 place 0 0 lt

-- one more step
pub one_counted : (s now : State) (i at value : ℕ) (table : List ℕ) → length table ≡ 65536 → at ≡ now.pc → at < 65536 → value ≡ get_or table at 0 → now ≡ state_after i s → still_runs (run_from i s []) ≡ true
    → AreTimes s i table → AreTimes s (i + 1) (set table at (value + 1))
one_counted s now i at value table long pc below is stands runs times = λ place fits. by place fits (place == at) refl
  where
    there : (place : ℕ) → is_at s place i ≡ (at == place)
    there place = ap (λ b. b && ((state_after i s).pc == place)) runs ∙ ap (λ n. n == place) (ap (λ (t : State). t.pc) (sym stands) ∙ sym pc)

    by : (place : ℕ) → place < 65536 → (b : Bool) → (place == at) ≡ b → get_or (set table at (value + 1)) place 0 ≡ times_at s (i + 1) place
    by place fits true e =
        let same : place ≡ at = eqb-true place at e in
        let more : one_if (is_at s place i) ≡ 1 = ap one_if (there place ∙ eq-eqb at place (sym same)) in
        let here : get_or (set table at (value + 1)) place 0 ≡ value + 1 = ap (λ p. get_or (set table at (value + 1)) p 0) same ∙ get_or-set_same table at (value + 1) 0 (omega (arith, long, below)) in
        let before : value ≡ times_at s i place = is ∙ ap (λ p. get_or table p 0) (sym same) ∙ times place fits in
        omega (arith, here, before, more, times_more s i place)
    by place fits false e =
        let none : one_if (is_at s place i) ≡ 0 = ap one_if (there place ∙ ne_eqb at place (λ q. eqb-false place at e (sym q))) in
        let here : get_or (set table at (value + 1)) place 0 ≡ get_or table place 0 = get_or-set_other table at place (value + 1) 0 (eqb-false place at e) in
        omega (arith, here, times place fits, none, times_more s i place)

-- the run stopped there
pub all_counted : (s : State) (i steps : ℕ) (table : List ℕ) → i < steps → still_runs (run_from (i + 1) s []) ≡ false → AreTimes s (i + 1) table → AreTimes s steps table
all_counted s i steps table lt stopped times = λ place below.
    let parts : (i + 1) + (steps - (i + 1)) ≡ steps = omega (arith, lt) in
    times place below ∙ sym (times_stopped s (i + 1) (steps - (i + 1)) place stopped) ∙ ap (λ k. times_at s k place) parts

-- a count fits
pub count_fits : (s : State) (i steps at value : ℕ) (table : List ℕ) → i < steps → at < 65536 → value ≡ get_or table at 0 → AreTimes s i table → value < steps
count_fits s i steps at value table lt below is times = omega (arith, lt, is, times at below, times_few s i at)

-- whether a step is the last one
pub last_step : (s now : State) (i : ℕ) (last : Bool) (event : Event) → now ≡ state_after i s → still_runs (run_from i s []) ≡ true → step now ≡ event → last ≡ not (goes_on event)
    → still_runs (run_from (i + 1) s []) ≡ not last
last_step s now i last event stands runs is tells =
    runs_more i s runs ∙ ap (λ t. goes_on (step t)) (sym stands) ∙ ap goes_on is ∙ sym (twice (goes_on event)) ∙ sym (ap not tells)
  where
    twice : (b : Bool) → not (not b) ≡ b
    twice true = refl
    twice false = refl

-- the machine behind it
pub one_behind : (s now next : State) (i : ℕ) → now ≡ state_after i s → next ≡ behind (step now) now → next ≡ state_after (i + 1) s
one_behind s now next i stands is = is ∙ ap (λ t. behind (step t) t) stands ∙ sym (after_more i s)
