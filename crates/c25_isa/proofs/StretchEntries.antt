-- Where stretches begin: at the first word of a range, behind each stretch, and wherever a jump leads to the first word of an instruction.
use Rattle.std.proofs.Common.{◌≡◌, ◌⊎◌, ℕ, ◌<◌, ◌≤◌, Bool, true, false, List, [], ◌∷◌, Option, Some, None, inl, inr, refl, sym, ap, ◌∙◌, subst, eq-eqb, eqb-true, lt-ltb, le-leb, arith}
use Rattle.std.specs.Prelude.{◌==◌, ◌&&◌, ◌||◌, nat_lt, nat_le, filter_map}
use Rattle.std.specs.List.{list_any, AllByRecursion}
use Rattle.std.proofs.lemmas.Bool.{cases_lt, false≢true}
use Rattle.std.proofs.lemmas.Bool.Decides.{nat_tests}
use Rattle.c25_isa.specs.Step.{wrap16}
use Rattle.c25_isa.specs.Walk.{Placed, Code, jump_target, ends_stretch, is_cut_behind, onto_stretches, cut_at}
use Rattle.c25_isa.specs.StretchRuns.{begins, IsEntry}

-- instructions of some words stand one behind another from an address on
abbrev pub AreInRow : ℕ → List Placed → Type 0
AreInRow a [] = Unit {0}
AreInRow a (p ∷ ps) = (p.at ≡ a) × (p.at < p.behind) × AreInRow p.behind ps

abbrev pub has_at : ℕ → List Placed → Bool
has_at a ps = list_any (λ p. p.at == a) ps

-- behind the last of some instructions
abbrev pub end_of : List Placed → ℕ
end_of [] = 0
end_of (p ∷ []) = p.behind
end_of (p ∷ q ∷ ps) = end_of (q ∷ ps)

-- the first stretch has an instruction there
abbrev pub StartsAt : ℕ → List Placed → Type 0
StartsAt a [] = ⊥
StartsAt a (p ∷ ps) = p.at ≡ a

abbrev pub FirstStartsAt : ℕ → List (List Placed) → Type 0
FirstStartsAt a [] = Unit {0}
FirstStartsAt a (f ∷ r) = StartsAt a f

onto_starts : (c : Bool) (p : Placed) (rest : List (List Placed)) (a : ℕ) → p.at ≡ a → FirstStartsAt a (onto_stretches c p rest)
onto_starts true p rest a is = is
onto_starts false p [] a is = is
onto_starts false p (f ∷ r) a is = is

pub first_starts : (targets : List ℕ) (a : ℕ) (ps : List Placed) → AreInRow a ps → FirstStartsAt a (cut_at targets ps)
first_starts targets a [] placed = tt
first_starts targets a (p ∷ ps) placed = onto_starts (is_cut_behind targets p) p (cut_at targets ps) a placed.0

-- the first of some instructions begins a stretch
first_begins : (c : Bool) (p : Placed) (rest : List (List Placed)) (a : ℕ) → (p.at == a) ≡ true → list_any (begins a) (onto_stretches c p rest) ≡ true
first_begins true p rest a is = ap (λ b. b || list_any (begins a) rest) is
first_begins false p [] a is = ap (λ b. b || false) is
first_begins false p (f ∷ r) a is = ap (λ b. b || list_any (begins a) r) is

or_true : (b : Bool) → (b || true) ≡ true
or_true true = refl
or_true false = refl

or_right : (b c : Bool) → b ≡ false → (b || c) ≡ true → c ≡ true
or_right true c fails e = absurd (false≢true (sym fails))
or_right false c fails e = e

not_equal : (a b : ℕ) → a < b → (a == b) ≡ false
not_equal a b lt = grind (arith, nat_tests)

starts_before : (a e : ℕ) (f : List Placed) → StartsAt a f → a < e → begins e f ≡ false
starts_before a e [] starts lt = absurd starts
starts_before a e (p ∷ ps) starts lt = not_equal p.at e (omega (arith, starts, lt))

-- a stretch that begins behind an instruction still does with that one in front, or a cut is between
onto_any : (c : Bool) (p : Placed) (rest : List (List Placed)) (a e : ℕ) → FirstStartsAt a rest → (c ≡ false → a < e) → list_any (begins e) rest ≡ true → list_any (begins e) (onto_stretches c p rest) ≡ true
onto_any true p rest a e starts later found = ap (λ b. (p.at == e) || b) found ∙ or_true (p.at == e)
onto_any false p [] a e starts later found = absurd (false≢true found)
onto_any false p (f ∷ r) a e starts later found =
    ap (λ b. (p.at == e) || b) (or_right (begins e f) (list_any (begins e) r) (starts_before a e f starts (later refl)) found) ∙ or_true (p.at == e)

-- an instruction at an address stands from there on
has_from : (a e : ℕ) (ps : List Placed) → AreInRow a ps → has_at e ps ≡ true → a ≤ e
has_from a e [] placed found = absurd (false≢true found)
has_from a e (p ∷ ps) placed found = by (p.at == e) refl found (has_from p.behind e ps placed.2)
  where
    by : (b : Bool) → (p.at == e) ≡ b → (b || has_at e ps) ≡ true → (has_at e ps ≡ true → p.behind ≤ e) → a ≤ e
    by true is found more = let same : p.at ≡ e = eqb-true p.at e is in omega (arith, same, placed.0)
    by false is found more = let from : p.behind ≤ e = more found in omega (arith, from, placed.0, placed.1)

-- jumps

-- each test that a target passes is passed by one of these
abbrev pub IsTarget : List ℕ → ℕ → Type 0
IsTarget targets to = (test : ℕ → Bool) → test to ≡ true → list_any test targets ≡ true

cut_before : (targets : List ℕ) (p : Placed) (to : ℕ) → IsTarget targets to → p.at < to → to ≤ p.behind → is_cut_behind targets p ≡ true
cut_before targets p to target from till =
    ap (λ b. ends_stretch p.instr || b)
    (target (λ t. nat_lt p.at t && nat_le t p.behind) (ap (λ b. b && nat_le to p.behind) (lt-ltb p.at to from) ∙ le-leb to p.behind till))
    ∙ or_true (ends_stretch p.instr)

pub target_begins : (targets : List ℕ) (a to : ℕ) (ps : List Placed) → AreInRow a ps → IsTarget targets to → has_at to ps ≡ true → list_any (begins to) (cut_at targets ps) ≡ true
target_begins targets a to [] placed target found = absurd (false≢true found)
target_begins targets a to (p ∷ ps) placed target found = by (p.at == to) refl found (target_begins targets p.behind to ps placed.2 target)
  where
    further : p.behind ≤ to → is_cut_behind targets p ≡ false → p.behind < to
    further from goes_on = by_size (cases_lt p.behind to)
      where
        by_size : (p.behind < to) ⊎ (to ≤ p.behind) → p.behind < to
        by_size (inl lt) = lt
        by_size (inr le) = absurd (false≢true (sym goes_on ∙ cut_before targets p to target (omega (arith, from, placed.1)) le))

    by : (b : Bool) → (p.at == to) ≡ b → (b || has_at to ps) ≡ true → (has_at to ps ≡ true → list_any (begins to) (cut_at targets ps) ≡ true)
        → list_any (begins to) (onto_stretches (is_cut_behind targets p) p (cut_at targets ps)) ≡ true
    by true is found more = first_begins (is_cut_behind targets p) p (cut_at targets ps) to is
    by false is found more =
        onto_any (is_cut_behind targets p) p (cut_at targets ps) p.behind to (first_starts targets p.behind ps placed.2)
        (further (has_from p.behind to ps placed.2 found)) (more found)

-- words behind stretches

-- each stretch ends behind an address from which on the instructions stand
ends_later : (targets : List ℕ) (a : ℕ) (ps : List Placed) → AreInRow a ps → AllByRecursion (λ stretch. a < end_of stretch) (cut_at targets ps)
ends_later targets a [] placed = tt
ends_later targets a (p ∷ ps) placed =
    onto (is_cut_behind targets p) (cut_at targets ps) (first_starts targets p.behind ps placed.2) (later (cut_at targets ps) (ends_later targets p.behind ps placed.2))
  where
    later : (ss : List (List Placed)) → AllByRecursion (λ stretch. p.behind < end_of stretch) ss → AllByRecursion (λ stretch. a < end_of stretch) ss
    later [] all = tt
    later (s ∷ ss) all = (omega (arith, all.0, placed.0, placed.1), later ss all.1)

    longer : (f : List Placed) → StartsAt p.behind f → a < end_of f → a < end_of (p ∷ f)
    longer [] starts lt = absurd starts
    longer (q ∷ qs) starts lt = lt

    onto : (c : Bool) (ss : List (List Placed)) → FirstStartsAt p.behind ss → AllByRecursion (λ stretch. a < end_of stretch) ss → AllByRecursion (λ stretch. a < end_of stretch) (onto_stretches c p ss)
    onto true ss starts all = (omega (arith, placed.0, placed.1), all)
    onto false [] starts all = (omega (arith, placed.0, placed.1), tt)
    onto false (f ∷ r) starts all = (longer f starts all.0, all.1)

-- where an instruction stands behind a stretch, another stretch begins there
abbrev pub IsFollowed : List ℕ → List Placed → List Placed → Type 0
IsFollowed targets ps stretch = has_at (end_of stretch) ps ≡ true → list_any (begins (end_of stretch)) (cut_at targets ps) ≡ true

pub followed : (targets : List ℕ) (a : ℕ) (ps : List Placed) → AreInRow a ps → AllByRecursion (IsFollowed targets ps) (cut_at targets ps)
followed targets a [] placed = tt
followed targets a (p ∷ ps) placed =
    onto (is_cut_behind targets p) (cut_at targets ps) refl refl starts (followed targets p.behind ps placed.2) (ends_later targets p.behind ps placed.2)
  where
    starts : FirstStartsAt p.behind (cut_at targets ps)
    starts = first_starts targets p.behind ps placed.2

    rest_has : (e : ℕ) → p.at < e → has_at e (p ∷ ps) ≡ true → has_at e ps ≡ true
    rest_has e lt found = or_right (p.at == e) (has_at e ps) (not_equal p.at e lt) found

    further : (stretch : List Placed) → p.behind < end_of stretch → IsFollowed targets ps stretch → IsFollowed targets (p ∷ ps) stretch
    further stretch lt so found =
        onto_any (is_cut_behind targets p) p (cut_at targets ps) p.behind (end_of stretch) starts (λ goes_on. lt)
        (so (rest_has (end_of stretch) (omega (arith, lt, placed.1)) found))

    all_further : (ss : List (List Placed)) → AllByRecursion (IsFollowed targets ps) ss → AllByRecursion (λ stretch. p.behind < end_of stretch) ss → AllByRecursion (IsFollowed targets (p ∷ ps)) ss
    all_further [] all later = tt
    all_further (s ∷ ss) all later = (further s later.0 all.0, all_further ss all.1 later.1)

    -- behind this instruction
    begins_next : (qs : List Placed) → AreInRow p.behind qs → has_at p.behind qs ≡ true → list_any (begins p.behind) (cut_at targets qs) ≡ true
    begins_next [] in_row found = absurd (false≢true found)
    begins_next (q ∷ qs) in_row found = first_begins (is_cut_behind targets q) q (cut_at targets qs) p.behind (eq-eqb q.at p.behind in_row.0)

    alone : (c : Bool) → is_cut_behind targets p ≡ c → (c ≡ true) ⊎ (cut_at targets ps ≡ []) → IsFollowed targets (p ∷ ps) (p ∷ [])
    alone c is (inl cut) found =
        onto_any (is_cut_behind targets p) p (cut_at targets ps) p.behind p.behind starts
        (λ goes_on. absurd (false≢true (sym goes_on ∙ is ∙ cut))) (begins_next ps placed.2 (rest_has p.behind placed.1 found))
    alone c is (inr none) found =
        absurd (false≢true (ap (list_any (begins p.behind)) (sym none) ∙ begins_next ps placed.2 (rest_has p.behind placed.1 found)))

    longer : (f : List Placed) → StartsAt p.behind f → IsFollowed targets (p ∷ ps) f → IsFollowed targets (p ∷ ps) (p ∷ f)
    longer [] start so = absurd start
    longer (q ∷ qs) start so = so

    onto : (c : Bool) (ss : List (List Placed)) → is_cut_behind targets p ≡ c → cut_at targets ps ≡ ss → FirstStartsAt p.behind ss → AllByRecursion (IsFollowed targets ps) ss → AllByRecursion (λ stretch. p.behind < end_of stretch) ss
        → AllByRecursion (IsFollowed targets (p ∷ ps)) (onto_stretches c p ss)
    onto true ss is rest start all later = (alone true is (inl refl), all_further ss all later)
    onto false [] is rest start all later = (alone false is (inr rest), tt)
    onto false (f ∷ r) is rest start all later = let more = all_further (f ∷ r) all later in (longer f start more.0, more.1)

-- the targets of the jumps of some instructions
abbrev targets_in : List Placed → List ℕ
targets_in ps = filter_map (λ p. jump_target p.instr) ps

abbrev pub TargetsAmong : List ℕ → Placed → Type 0
TargetsAmong targets p = (to : ℕ) → jump_target p.instr ≡ Some to → IsTarget targets to

more_target : (o : Option ℕ) (p : Placed) (ps : List Placed) → jump_target p.instr ≡ o → (to : ℕ) → IsTarget (targets_in ps) to → IsTarget (targets_in (p ∷ ps)) to
more_target None p ps is to target = rw is target
more_target (Some t) p ps is to target = rw is (λ test so. ap (λ b. test t || b) (target test so) ∙ or_true (test t))

pub are_targets : (ps : List Placed) → AllByRecursion (TargetsAmong (targets_in ps)) ps
are_targets [] = tt
are_targets (p ∷ ps) = (λ to is. rw is (λ test so. ap (λ b. b || list_any test (targets_in ps)) so), more ps (are_targets ps))
  where
    more : (qs : List Placed) → AllByRecursion (TargetsAmong (targets_in ps)) qs → AllByRecursion (TargetsAmong (targets_in (p ∷ ps))) qs
    more [] all = tt
    more (q ∷ qs) all = (λ to is. more_target (jump_target p.instr) p ps refl to (all.0 to is), more qs all.1)

-- what is so of each instruction is so of each in each stretch
pub in_each : (P : Placed → Type 0) (targets : List ℕ) (ps : List Placed) → AllByRecursion P ps → AllByRecursion (AllByRecursion P) (cut_at targets ps)
in_each P targets [] all = tt
in_each P targets (p ∷ ps) all = onto (is_cut_behind targets p) (cut_at targets ps) (in_each P targets ps all.1)
  where
    onto : (c : Bool) (ss : List (List Placed)) → AllByRecursion (AllByRecursion P) ss → AllByRecursion (AllByRecursion P) (onto_stretches c p ss)
    onto true ss so = ((all.0, tt), so)
    onto false [] so = ((all.0, tt), tt)
    onto false (f ∷ r) so = ((all.0, so.0), so.1)

-- entries of code

-- the first of its instructions is there
abbrev pub BeginsAt : ℕ → List Placed → Type 0
BeginsAt a [] = Unit {0}
BeginsAt a (p ∷ ps) = p.at ≡ a

row_begins : (a : ℕ) (ps : List Placed) → AreInRow a ps → BeginsAt a ps
row_begins a [] placed = tt
row_begins a (p ∷ ps) placed = placed.0

-- and begins a stretch
pub first_is_entry : (code : Code) (first : ℕ) → BeginsAt first code.placed → IsEntry code first
first_is_entry code first there found = by code.placed there found
  where
    targets : List ℕ
    targets = targets_in code.placed

    by : (ps : List Placed) → BeginsAt first ps → has_at first ps ≡ true → list_any (begins first) (cut_at targets ps) ≡ true
    by [] there found = absurd (false≢true found)
    by (p ∷ ps) there found = first_begins (is_cut_behind targets p) p (cut_at targets ps) first (eq-eqb p.at first there)

-- PC wraps behind the last word of program memory, to the first one
pub wrapped_entry : (code : Code) (first a : ℕ) → AreInRow first code.placed → a ≤ 65536 → IsEntry code a → IsEntry code (wrap16 a)
wrapped_entry code first a placed room entry = by (cases_lt a 65536)
  where
    zero_entry : 65536 ≤ a → IsEntry code (wrap16 a)
    zero_entry past found =
        let zero_is : wrap16 a ≡ 0 = omega (arith, room, past) in
        let from : first ≤ wrap16 a = has_from first (wrap16 a) code.placed placed found in
        let same : first ≡ wrap16 a = omega (arith, zero_is, from) in
        subst (IsEntry code) same (first_is_entry code first (row_begins first code.placed placed)) found

    by : (a < 65536) ⊎ (65536 ≤ a) → IsEntry code (wrap16 a)
    by (inl below) = let same : a ≡ wrap16 a = omega (arith, below) in subst (IsEntry code) same entry
    by (inr past) = zero_entry past
