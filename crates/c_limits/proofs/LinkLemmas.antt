-- The trail of steps, at each place and behind one step more.
use Rattle.std.proofs.Common.{◌≡◌, ◌<◌, ℕ, zero, suc, ◌+◌, List, [], ◌∷◌, ◌++◌, length, ap, ◌∙◌, sym, refl, subst, inl, inr, length-append, append_assoc, arith, Option, Some, None, get_or}
use Rattle.std.specs.Prelude.{slice_get, IfSome}
use Rattle.std.proofs.lemmas.List.{append-nil}
use Rattle.std.proofs.lemmas.Option.{slice_get_read}
use Rattle.c_limits.specs.declared.recursion.Step.{Step}
use Rattle.c_limits.specs.Trails.{Reached, IsLinked, way_at, way_over, reached_by, trail_behind, trail_of}
use Rattle.c_rules.proofs.PlaceLemmas.{place_kept, place_last, pushed_place}

pub way_there : (trail : List Reached) (p : ℕ) (r : Reached) → slice_get trail p ≡ Some r → way_at trail p ≡ r.way
way_there [] p r there = absurd (cc there)
way_there (t ∷ trail) zero r there = let same : t ≡ r = cc there in ap (λ (e : Reached). e.way) same
way_there (t ∷ trail) (suc p) r there = way_there trail p r there

way_kept : (trail more : List Reached) (p : ℕ) → p < length trail → way_at (trail ++ more) p ≡ way_at trail p
way_kept [] more p less = absurd (omega (arith, less))
way_kept (t ∷ trail) more zero less = refl
way_kept (t ∷ trail) more (suc p) less = way_kept trail more p (omega (arith, less))

over_kept : (trail more : List Reached) (from : Option ℕ) (u : ℕ) → ((q : ℕ) → from ≡ Some q → q < length trail) → way_over trail from u ≡ way_over (trail ++ more) from u
over_kept trail more None u within = refl
over_kept trail more (Some q) u within = ap (λ w. w ++ u ∷ []) (sym (way_kept trail more q (within q refl)))

pub trail_push : (trail : List Reached) (steps : List Step) (s : Step) → trail_behind trail (steps ++ s ∷ []) ≡ trail_behind trail steps ++ reached_by (trail_behind trail steps) s ∷ []
trail_push trail [] s = refl
trail_push trail (z ∷ steps) s = trail_push (trail ++ reached_by trail z ∷ []) steps s

pub length_trail : (trail : List Reached) (steps : List Step) → length (trail_behind trail steps) ≡ length trail + length steps
length_trail trail [] = omega arith
length_trail trail (z ∷ steps) = omega (arith, length_trail (trail ++ reached_by trail z ∷ []) steps, length-append trail (reached_by trail z ∷ []))

trail_grows : (trail : List Reached) (steps : List Step) → (more : List Reached) × (trail_behind trail steps ≡ trail ++ more)
trail_grows trail [] = ([], sym (append-nil trail))
trail_grows trail (z ∷ steps) =
    let rest = trail_grows (trail ++ reached_by trail z ∷ []) steps in
    (reached_by trail z ∷ rest.0, rest.1 ∙ append_assoc trail (reached_by trail z ∷ []) rest.0)

head_place : (trail : List Reached) (z : Step) (steps : List Step) → ((q : ℕ) → z.from ≡ Some q → q < length trail)
    → slice_get (trail_behind trail (z ∷ steps)) (length trail) ≡ Some (reached_by (trail_behind trail (z ∷ steps)) z)
head_place trail z steps within =
    let new = trail ++ reached_by trail z ∷ [] in
    let grown = trail_grows new steps in
    let P : List Reached → Type 0 = λ whole. slice_get whole (length trail) ≡ Some (reached_by whole z) in
    let there : slice_get (new ++ grown.0) (length trail) ≡ Some (reached_by trail z) =
    place_kept new grown.0 (length trail) (reached_by trail z) (place_last trail (reached_by trail z)) in
    let over : way_over trail z.from z.function ≡ way_over (trail ++ (reached_by trail z ∷ grown.0)) z.from z.function =
    over_kept trail (reached_by trail z ∷ grown.0) z.from z.function within in
    let over_all : way_over trail z.from z.function ≡ way_over (new ++ grown.0) z.from z.function =
    over ∙ ap (λ (t : List Reached). way_over t z.from z.function) (sym (append_assoc trail (reached_by trail z ∷ []) grown.0)) in
    let same : reached_by trail z ≡ reached_by (new ++ grown.0) z = ap (λ (w : List ℕ). record { function = z.function; way = w }) over_all
    in subst P (sym grown.1) (there ∙ ap (λ (r : Reached). Some r) same)

place_behind : (trail : List Reached) (steps : List Step) (i : ℕ) (s : Step) → slice_get steps i ≡ Some s → ((q : ℕ) → s.from ≡ Some q → q < length trail + i)
    → slice_get (trail_behind trail steps) (length trail + i) ≡ Some (reached_by (trail_behind trail steps) s)
place_behind trail [] i s there within = absurd (cc there)
place_behind trail (z ∷ steps) zero s there within =
    let same : z ≡ s = cc there in
    let P : Step → Type 0 = λ e. slice_get (trail_behind trail (z ∷ steps)) (length trail + 0) ≡ Some (reached_by (trail_behind trail (z ∷ steps)) e) in
    let Q : ℕ → Type 0 = λ n. slice_get (trail_behind trail (z ∷ steps)) n ≡ Some (reached_by (trail_behind trail (z ∷ steps)) z) in
    let bound : (q : ℕ) → z.from ≡ Some q → q < length trail = λ q is. omega (arith, within q (subst (λ (e : Step). e.from ≡ Some q) same is))
    in subst P same (subst Q (omega arith) (head_place trail z steps bound))
place_behind trail (z ∷ steps) (suc i) s there within =
    let new = trail ++ reached_by trail z ∷ [] in
    let longer : length new ≡ length trail + 1 = length-append trail (reached_by trail z ∷ []) in
    let Q : ℕ → Type 0 = λ n. slice_get (trail_behind new steps) n ≡ Some (reached_by (trail_behind new steps) s)
    in subst Q (omega (arith, longer)) (place_behind new steps i s there (λ q is. omega (arith, longer, within q is)))

-- what the step at a place becomes
pub step_there : (first : ℕ) (steps : List Step) (p : ℕ) (s : Step) → IsLinked first steps → slice_get steps p ≡ Some s
    → slice_get (trail_of steps) p ≡ Some (reached_by (trail_of steps) s)
step_there first steps p s linked there =
    let Q : ℕ → Type 0 = λ n. slice_get (trail_of steps) n ≡ Some (reached_by (trail_of steps) s)
    in subst Q (omega arith) (place_behind [] steps p s there (λ q is. omega (arith, linked.earlier p q s there is)))

pub linked_start : (first : ℕ) → IsLinked first (record { function = first; from = None } ∷ [])
linked_start first = record {
  earlier = λ p q s there is. elim (pushed_place [] (record { function = first; from = None }) p s there) [
    | inl none ↦ absurd (cc none)
    | inr new ↦ absurd (cc (ap (λ (e : Step). e.from) new.1, is))
  ];
  start = λ p s there is. elim (pushed_place [] (record { function = first; from = None }) p s there) [
    | inl none ↦ absurd (cc none)
    | inr new ↦ sym (ap (λ (e : Step). e.function) new.1)
  ];
}

some_same_number : (x y : ℕ) → Some x ≡ Some y → x ≡ y
some_same_number x y same = cc same

pub linked_more : (first : ℕ) (steps : List Step) (place y : ℕ) → IsLinked first steps → place < length steps → IsLinked first (steps ++ record { function = y; from = Some place } ∷ [])
linked_more first steps place y linked within = record {
  earlier = λ p q s there is. elim (pushed_place steps (record { function = y; from = Some place }) p s there) [
    | inl old ↦ linked.earlier p q s old is
    | inr new ↦ let same : place ≡ q = some_same_number place q (ap (λ (e : Step). e.from) new.1 ∙ is) in omega (arith, new.0)
  ];
  start = λ p s there is. elim (pushed_place steps (record { function = y; from = Some place }) p s there) [
    | inl old ↦ linked.start p s old is
    | inr new ↦ absurd (cc (ap (λ (e : Step). e.from) new.1, is))
  ];
}

-- the way to the place that a step comes from, with the first function before it
abbrev pub before : List Reached → ℕ → Option ℕ → List ℕ
before trail first None = []
before trail first (Some p) = first ∷ way_at trail p

abbrev pub rank : Option ℕ → ℕ
rank None = 0
rank (Some p) = p + 1

pub rank_falls : (from : Option ℕ) (p : ℕ) → ((q : ℕ) → from ≡ Some q → q < p) → rank from < p + 1
rank_falls None p earlier = omega arith
rank_falls (Some q) p earlier = omega (arith, earlier q refl)

within_by : (steps : List Step) (from : Option ℕ) (p : ℕ) → p < length steps → ((q : ℕ) → from ≡ Some q → q < p) → IfSome from (λ q. q < length steps)
within_by steps None p within earlier = tt {0}
within_by steps (Some q) p within earlier = omega (arith, earlier q refl)

before_by : (trail : List Reached) (first : ℕ) (from : Option ℕ) (u p : ℕ) → way_at trail p ≡ way_over trail from u → (from ≡ None → u ≡ first) → before trail first (Some p) ≡ before trail first from ++ u ∷ []
before_by trail first None u p is start = ap (λ w. first ∷ w) is ∙ ap (λ n. n ∷ []) (sym (start refl))
before_by trail first (Some q) u p is start = ap (λ w. first ∷ w) is

-- one step back
pub step_back : (first : ℕ) (steps : List Step) (p : ℕ) (s : Step) (tail done : List ℕ) → IsLinked first steps → p < length steps → s ≡ get_or steps p s
    → before (trail_of steps) first (Some p) ++ tail ≡ done → before (trail_of steps) first s.from ++ s.function ∷ tail ≡ done
step_back first steps p s tail done linked within read rest =
    let there : slice_get steps p ≡ Some s = slice_get_read steps (length steps) p s refl within read in
    let is : way_at (trail_of steps) p ≡ way_over (trail_of steps) s.from s.function =
    way_there (trail_of steps) p (reached_by (trail_of steps) s) (step_there first steps p s linked there) in
    let longer : before (trail_of steps) first (Some p) ≡ before (trail_of steps) first s.from ++ s.function ∷ [] =
    before_by (trail_of steps) first s.from s.function p is (linked.start p s there)
    in sym (append_assoc (before (trail_of steps) first s.from) (s.function ∷ []) tail) ∙ ap (λ w. w ++ tail) (sym longer) ∙ rest

pub next_within : (first : ℕ) (steps : List Step) (p : ℕ) (s : Step) → IsLinked first steps → p < length steps → s ≡ get_or steps p s → IfSome s.from (λ q. q < length steps)
next_within first steps p s linked within read = within_by steps s.from p within (λ q is. linked.earlier p q s (slice_get_read steps (length steps) p s refl within read) is)

pub next_earlier : (first : ℕ) (steps : List Step) (p : ℕ) (s : Step) → IsLinked first steps → p < length steps → s ≡ get_or steps p s → rank s.from < p + 1
next_earlier first steps p s linked within read = rank_falls s.from p (λ q is. linked.earlier p q s (slice_get_read steps (length steps) p s refl within read) is)
