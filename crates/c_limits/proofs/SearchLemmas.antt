-- What holds of a search at a place, over its steps and the lists of callees.
use Rattle.std.proofs.Common.{◌≡◌, ◌<◌, ◌≤◌, ◌≢◌, ℕ, ◌+◌, Bool, true, false, List, [], ◌∷◌, ◌++◌, length, map, vec_items, ap, ◌∙◌, sym, refl, subst, inl, inr, arith, Some, get_or, set, slice_index, Vec, Global}
use Rattle.std.specs.Prelude.{slice_get, option_map}
use Rattle.std.proofs.lemmas.Bool.{cases_lt}
use Rattle.std.proofs.lemmas.Option.{slice_get_within, slice_get_read, slice_get-map}
use Rattle.std.specs.List.{Contains}
use Rattle.std.proofs.lemmas.List.{get_or_default, length-set, length-append, length-map}
use Rattle.c_limits.specs.declared.recursion.Search.{Search}
use Rattle.c_limits.specs.declared.recursion.Step.{Step}
use Rattle.c_tree.specs.Rounds.{CallsAmong}
use Rattle.c_limits.specs.Calls.{AreOrdered}
use Rattle.c_rules.specs.Rounds.{IsWay, IsRound, IsFirstRound, IsFirstChain, NoneBelow}
use Rattle.c_limits.specs.Trails.{Reached, IsLinked, HasSearched, way_at, reached_by, trail_of}
use Rattle.c_limits.proofs.FollowLemmas.{before_place, follow_none, followed}
use Rattle.c_limits.proofs.LinkLemmas.{step_there, way_there, trail_push, length_trail, linked_more}
use Rattle.c_limits.proofs.TrailLemmas.{IsFollowed, AreBefore, reached, entered, passed, some_same}
use Rattle.c_limits.proofs.WayLemmas.{no_round, first_round}

-- a function that is reached is one of those that call
pub function_within : (lists : List (List ℕ)) (first place : ℕ) (start : Search) (step : Step) → HasSearched lists first start place → first < length lists → place < length start.steps.items
    → step ≡ get_or start.steps.items place step → step.function < length lists
function_within lists first place start step state low within read =
    let trail = trail_of start.steps.items in
    let there : slice_get trail place ≡ Some (reached_by trail step) =
    step_there first start.steps.items place step state.linked (slice_get_read start.steps.items (length start.steps.items) place step refl within read)
    in elim (cases_lt 0 place) [
      | inl later ↦
          let mark = slice_get_within start.entered.items step.function true (state.trail.all_marked place (reached_by trail step) later there) in omega (arith, mark, state.size)
      | inr at_start ↦
          let first_there : slice_get trail 0 ≡ Some (reached_by trail step) = subst (λ n. slice_get trail n ≡ Some (reached_by trail step)) (omega arith) there in
          let same = ap (λ (e : Reached). e.function) (some_same (reached_by trail step) (record { function = first; way = [] }) (sym first_there ∙ state.trail.start))
          in omega (arith, same, low)
    ]

-- the place at which a search stands
pub record AtPlace (lists : List (List ℕ)) (first place : ℕ) (start : Search) (step : Step) (callees : List ℕ) : Type 0 where
  pub ordered : AreOrdered lists
  pub state : HasSearched lists first start place
  pub there : slice_get start.steps.items place ≡ Some step
  pub list : slice_get lists step.function ≡ Some callees

-- the state behind the first so many of its callees
pub record Following (lists : List (List ℕ)) (first place : ℕ) (old : List Step) (callees : List ℕ) (i : ℕ) (s : Search) : Type 0 where
  pub size : length s.entered.items ≡ length lists
  pub linked : IsLinked first s.steps.items
  pub within : place < length s.steps.items
  pub followed : IsFollowed (CallsAmong lists) first (trail_of old) (way_at (trail_of old) place) callees i (trail_of s.steps.items) s.entered.items

pub entry_at : {lists : List (List ℕ)} {first place : ℕ} {start : Search} {step : Step} {callees : List ℕ} → AtPlace lists first place start step callees
    → slice_get (trail_of start.steps.items) place ≡ Some (reached_by (trail_of start.steps.items) step)
entry_at {first = first} {place = place} {start = start} {step = step} at = step_there first start.steps.items place step at.state.linked at.there

way_here : {lists : List (List ℕ)} {first place : ℕ} {start : Search} {step : Step} {callees : List ℕ} → AtPlace lists first place start step callees
    → way_at (trail_of start.steps.items) place ≡ (reached_by (trail_of start.steps.items) step).way
way_here {place = place} {start = start} {step = step} at = way_there (trail_of start.steps.items) place (reached_by (trail_of start.steps.items) step) (entry_at at)

all_before : {lists : List (List ℕ)} {first place : ℕ} {start : Search} {step : Step} {callees : List ℕ} → AtPlace lists first place start step callees
    → AreBefore (trail_of start.steps.items) (way_at (trail_of start.steps.items) place)
all_before {lists = lists} {first = first} {place = place} {start = start} {step = step} at =
    subst (λ w. AreBefore (trail_of start.steps.items) w) (sym (way_here at))
    (before_place (CallsAmong lists) first (trail_of start.steps.items) start.entered.items place (reached_by (trail_of start.steps.items) step) at.state.trail at.state.searched (entry_at at))

-- a function's callee is called by it, and has marks
pub is_called : (lists : List (List ℕ)) (n i : ℕ) (callees : List ℕ) → slice_get lists n ≡ Some callees → i < length callees → CallsAmong lists n (slice_index callees i)
is_called lists n i callees list less = (callees, list, (i, less, get_or_default callees i (slice_index callees i) 0 less))

pub callee_within : (lists : List (List ℕ)) (n i : ℕ) (callees : List ℕ) → AreOrdered lists → slice_get lists n ≡ Some callees → i < length callees → slice_index callees i < length lists
callee_within lists n i callees ordered list less = ordered.bodies n (slice_index callees i) (is_called lists n i callees list less)

-- the next callee is entered
pub next_entered : {lists : List (List ℕ)} {first place : ℕ} {start : Search} {step : Step} {callees : List ℕ} (i : ℕ) (s t : Search)
    → AtPlace lists first place start step callees → Following lists first place start.steps.items callees i s → i < length callees → slice_get s.entered.items (slice_index callees i) ≡ Some false
    → t.steps.items ≡ s.steps.items ++ record { function = slice_index callees i; from = Some place } ∷ [] → t.entered.items ≡ set s.entered.items (slice_index callees i) true
    → Following lists first place start.steps.items callees (i + 1) t
next_entered {lists = lists} {first = first} {place = place} {start = start} {step = step} {callees = callees} i s t at known less unmarked pushed written =
    let calls = CallsAmong lists in
    let way = way_at (trail_of start.steps.items) place in
    let y = slice_index callees i in
    let reach : IsWay calls first way step.function =
    subst (λ w. IsWay calls first w step.function) (sym (way_here at)) (at.state.trail.ways place (reached_by (trail_of start.steps.items) step) (entry_at at)) in
    let more = entered calls first (trail_of start.steps.items) way callees i step.function (trail_of s.steps.items) s.entered.items known.followed (at.ordered.rising step.function callees at.list) less
    (all_before at) reach (is_called lists step.function i callees at.list less) unmarked in
    let same_way : way_at (trail_of s.steps.items) place ≡ way =
    way_there (trail_of s.steps.items) place (reached_by (trail_of start.steps.items) step) (known.followed.kept place (reached_by (trail_of start.steps.items) step) (entry_at at)) ∙ sym (way_here at) in
    let grown : trail_of t.steps.items ≡ trail_of s.steps.items ++ reached way y ∷ [] =
    ap trail_of pushed ∙ trail_push [] s.steps.items (record { function = y; from = Some place }) ∙ ap (λ w. trail_of s.steps.items ++ reached w y ∷ []) same_way in
    let P : List Reached → Type 0 = λ trail. IsFollowed calls first (trail_of start.steps.items) way callees (i + 1) trail t.entered.items in
    let Q : List Bool → Type 0 = λ marks. IsFollowed calls first (trail_of start.steps.items) way callees (i + 1) (trail_of s.steps.items ++ reached way y ∷ []) marks in
    let L : List Step → Type 0 = λ steps. IsLinked first steps in
    record {
      size = ap length written ∙ length-set s.entered.items y true ∙ known.size;
      linked = subst L (sym pushed) (linked_more first s.steps.items place y known.linked known.within);
      within = omega (arith, ap length pushed, length-append s.steps.items (record { function = y; from = Some place } ∷ []), known.within);
      followed = subst P (sym grown) (subst Q (sym written) more);
    }

-- the next callee is left
pub next_passed : {lists : List (List ℕ)} {first place : ℕ} {start : Search} {step : Step} {callees : List ℕ} (i : ℕ) (s : Search)
    → AtPlace lists first place start step callees → Following lists first place start.steps.items callees i s → i < length callees
    → (first ≤ slice_index callees i → slice_get s.entered.items (slice_index callees i) ≡ Some true) → Following lists first place start.steps.items callees (i + 1) s
next_passed {lists = lists} {first = first} {place = place} {start = start} {step = step} {callees = callees} i s at known less marked = record {
  size = known.size;
  linked = known.linked;
  within = known.within;
  followed =
      passed (CallsAmong lists) first (trail_of start.steps.items) (way_at (trail_of start.steps.items) place) callees i (trail_of s.steps.items) s.entered.items known.followed
      (at.ordered.rising step.function callees at.list) less (all_before at) marked;
}

pub following_none : {lists : List (List ℕ)} {first place : ℕ} {start : Search} {step : Step} {callees : List ℕ} → AtPlace lists first place start step callees
    → Following lists first place start.steps.items callees 0 start
following_none {lists = lists} {first = first} {place = place} {start = start} {step = step} {callees = callees} at = record {
  size = at.state.size;
  linked = at.state.linked;
  within = slice_get_within start.steps.items place step at.there;
  followed = follow_none (CallsAmong lists) first (trail_of start.steps.items) start.entered.items (way_at (trail_of start.steps.items) place) callees at.state.trail;
}

-- behind all callees the place is worked off
pub place_done : {lists : List (List ℕ)} {first place : ℕ} {start : Search} {step : Step} {callees : List ℕ} (i : ℕ) (s : Search) → AtPlace lists first place start step callees
    → (0 < place → step.function ≢ first) → i ≡ length callees → Following lists first place start.steps.items callees i s → HasSearched lists first s (place + 1)
place_done {lists = lists} {first = first} {place = place} {start = start} {step = step} {callees = callees} i s at apart end known =
    let old = trail_of start.steps.items in
    let r = reached_by old step in
    let P : List ℕ → Type 0 = λ w. IsFollowed (CallsAmong lists) first old w callees (length callees) (trail_of s.steps.items) s.entered.items in
    let Q : ℕ → Type 0 = λ n. IsFollowed (CallsAmong lists) first old (way_at old place) callees n (trail_of s.steps.items) s.entered.items in
    let all : P r.way = subst P (way_here at) (subst Q end known.followed) in
    let among : (y : ℕ) → CallsAmong lists step.function y → Contains callees y =
    λ y call. subst (λ list. Contains list y) (some_same call.0 callees (sym call.1 ∙ at.list)) call.2 in
    record {
      size = known.size;
      linked = known.linked;
      trail = known.followed.is_trail;
      searched =
          followed (CallsAmong lists) first old (trail_of s.steps.items) s.entered.items place r callees at.state.searched (entry_at at) apart among all;
    }

-- where all places are worked off
pub all_worked : (lists : List (List ℕ)) (first place : ℕ) (s : Search) → HasSearched lists first s place → NoneBelow (CallsAmong lists) first → length s.steps.items ≤ place
    → NoneBelow (CallsAmong lists) (first + 1)
all_worked lists first place s state none all k vs below round =
    let trail = trail_of s.steps.items in
    let long : length trail ≡ length s.steps.items = omega (arith, length_trail [] s.steps.items) in
    let some : 0 < length trail = slice_get_within trail 0 (record { function = first; way = [] }) state.trail.start in
    elim (cases_lt k first) [
      | inl earlier ↦ none k vs earlier round
      | inr last ↦
          no_round (CallsAmong lists) first trail s.entered.items place state.trail state.searched none (omega (arith, all, long, some)) (omega (arith, all, long)) vs
          (subst (λ n. IsRound (CallsAmong lists) n vs) (omega arith) round)
    ]

-- where the first function is met again
pub round_found : (lists : List (List ℕ)) (first place : ℕ) (s : Search) (step : Step) (numbers : List ℕ) → HasSearched lists first s place → NoneBelow (CallsAmong lists) first → 0 < place
    → place < length s.steps.items → step ≡ get_or s.steps.items place step → step.function ≡ first → numbers ≡ first ∷ way_at (trail_of s.steps.items) place
    → IsFirstChain (CallsAmong lists) numbers
round_found lists first place s step numbers state none later within read same is =
    let trail = trail_of s.steps.items in
    let r = reached_by trail step in
    let there : slice_get trail place ≡ Some r =
    step_there first s.steps.items place step state.linked (slice_get_read s.steps.items (length s.steps.items) place step refl within read) in
    let found = first_round (CallsAmong lists) first trail s.entered.items place r state.trail state.searched none later there same in
    record {
      number = first;
      over = way_at trail place;
      is = is;
      is_first = subst (λ w. IsFirstRound (CallsAmong lists) first w) (sym (way_there trail place r there)) found;
    }

pub caller_within : (lists : List (Vec ℕ Global)) (first place : ℕ) (start : Search) (step : Step) → HasSearched (map vec_items lists) first start place → first < length lists
    → place < length start.steps.items → step ≡ get_or start.steps.items place step → step.function < length lists
caller_within lists first place start step state low within read =
    let same = length-map lists vec_items in
    let known = function_within (map vec_items lists) first place start step state (omega (arith, low, same)) within read in omega (arith, known, same)

-- the place and its list as the code reads them
pub at_place : (lists : List (Vec ℕ Global)) (first place : ℕ) (start : Search) (step : Step) (v : Vec ℕ Global) (callees : List ℕ) → AreOrdered (map vec_items lists)
    → HasSearched (map vec_items lists) first start place → place < length start.steps.items → step ≡ get_or start.steps.items place step → step.function < length lists
    → v ≡ get_or lists step.function v → callees ≡ v.items → AtPlace (map vec_items lists) first place start step callees
at_place lists first place start step v callees ordered state within read low is same = record {
  ordered = ordered;
  state = state;
  there = slice_get_read start.steps.items (length start.steps.items) place step refl within read;
  list = slice_get-map vec_items lists step.function ∙ ap (option_map vec_items) (slice_get_read lists (length lists) step.function v refl low is) ∙ ap (λ l. Some l) (sym same);
}

-- what a read of a mark gives
pub mark_read : (marks : List Bool) (y : ℕ) (mark value : Bool) → y < length marks → mark ≡ get_or marks y mark → mark ≡ value → slice_get marks y ≡ Some value
mark_read marks y mark value less read is = slice_get_read marks (length marks) y mark refl less read ∙ ap (λ m. Some m) is

pub apart_by : (first : ℕ) (steps : List Step) (place : ℕ) (step : Step) → IsLinked first steps → place < length steps → step ≡ get_or steps place step → step.function ≢ first
    → (r : Reached) → slice_get (trail_of steps) place ≡ Some r → r.function ≢ first
apart_by first steps place step linked within read apart r there =
    let known : slice_get (trail_of steps) place ≡ Some (reached_by (trail_of steps) step) = step_there first steps place step linked (slice_get_read steps (length steps) place step refl within read) in
    subst (λ (e : Reached). e.function ≢ first) (some_same (reached_by (trail_of steps) step) r (sym known ∙ there)) apart
