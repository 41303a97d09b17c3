-- Ways by calls, and what a search by them finds.
use Rattle.std.proofs.Common.{◌≡◌, ◌<◌, ◌≤◌, ℕ, Bool, List, [], ◌∷◌, ◌++◌, length, ◌∙◌, sym, refl, subst, inl, inr, length-append, append_assoc, arith, Some}
use Rattle.std.specs.Prelude.{slice_get}
use Rattle.std.proofs.lemmas.Bool.{cases_lt}
use Rattle.std.proofs.lemmas.Option.{slice_get_within}
use Rattle.std.proofs.Math.Nat.{eq-or-lt_of_le}
use Rattle.c_rules.specs.Rounds.{IsWay, IsRound, IsNotAfter, IsBefore, IsFirstRound, NoneBelow}
use Rattle.c_limits.specs.Trails.{Reached, IsIn, IsTrail, IsSearched}
use Rattle.c_rules.proofs.OrderLemmas.{not_after-trans, not_after-more, not_after-front}

pub way-append : (calls : ℕ → ℕ → Type 0) (a b c : ℕ) (xs ys : List ℕ) → IsWay calls a xs b → IsWay calls b ys c → IsWay calls a (xs ++ ys) c
way-append calls a b c [] ys first rest = subst (λ n. IsWay calls n ys c) (sym first) rest
way-append calls a b c (x ∷ xs) ys first rest = (first.0, way-append calls x b c xs ys first.1 rest)

-- a search has reached, behind all places that are worked off, a function on each way round
pub record Standing (trail : List Reached) (done : ℕ) (v : List ℕ) : Type 0 where
  pub place : ℕ
  pub entry : Reached
  pub behind : done ≤ place
  pub there : slice_get trail place ≡ Some entry
  pub early : IsNotAfter entry.way v

-- one call further: where the function called is reached
further : (calls : ℕ → ℕ → Type 0) (first : ℕ) (trail : List Reached) (done : ℕ) → IsSearched calls first trail done → (u m : ℕ) (v : List ℕ) (found : IsIn trail u v) → found.place < done
    → first ≤ m → calls u m → IsIn trail m (v ++ m ∷ [])
further calls first trail done searched u m v found near above called =
    let next : IsIn trail m (found.entry.way ++ m ∷ []) =
    searched.closed found.place found.entry m near found.there above (subst (λ n. calls n m) (sym found.same) called)
    in record {
      place = next.place;
      entry = next.entry;
      by_call = next.by_call;
      there = next.there;
      same = next.same;
      early = not_after-trans next.entry.way (found.entry.way ++ m ∷ []) (v ++ m ∷ []) next.early (not_after-more found.entry.way v m found.early);
    }

standing : (trail : List Reached) (done u : ℕ) (v ms : List ℕ) (found : IsIn trail u v) → done ≤ found.place → Standing trail done (v ++ ms)
standing trail done u v ms found far = record {
  place = found.place;
  entry = found.entry;
  behind = far;
  there = found.there;
  early = not_after-front found.entry.way v ms found.early;
}

-- from an entry that isn't after a way to its function, onward over the rest of a way round
onward : (calls : ℕ → ℕ → Type 0) (first : ℕ) (trail : List Reached) (done : ℕ) → IsSearched calls first trail done → NoneBelow calls first
    → (ms : List ℕ) (u : ℕ) (v : List ℕ) → IsWay calls first v u → IsIn trail u v → IsWay calls u ms first → Standing trail done (v ++ ms)
onward calls first trail done searched none [] u v before found rest =
    elim (cases_lt found.place done) [
      | inl near ↦ absurd (searched.apart found.place found.entry found.by_call near found.there (found.same ∙ rest))
      | inr far ↦ standing trail done u v [] found far
    ]
onward calls first trail done searched none (m ∷ ms) u v before found rest =
    let longer : IsWay calls first (v ++ m ∷ []) m = way-append calls first u m v (m ∷ []) before (rest.0, refl)
    in elim (cases_lt found.place done) [
      | inr far ↦ standing trail done u v (m ∷ ms) found far
      | inl near ↦ elim (cases_lt m first) [
        | inl below ↦ absurd (none m (ms ++ (v ++ m ∷ [])) below (omega (arith, length-append ms (v ++ m ∷ []), length-append v (m ∷ [])), way-append calls m first m ms (v ++ m ∷ []) rest.1 longer))
        | inr above ↦
            let P : List ℕ → Type 0 = λ ws. Standing trail done ws in
            let ends : Standing trail done ((v ++ m ∷ []) ++ ms) =
            onward calls first trail done searched none ms m (v ++ m ∷ []) longer (further calls first trail done searched u m v found near above rest.0) rest.1
            in subst P (append_assoc v (m ∷ []) ms) ends
      ]
    ]

-- a way round from the first function goes through one that isn't worked off, and is reached by a way that isn't after it
pub round_stands : (calls : ℕ → ℕ → Type 0) (first : ℕ) (trail : List Reached) (marks : List Bool) (done : ℕ) → IsTrail calls first trail marks → IsSearched calls first trail done
    → NoneBelow calls first → 0 < done → (vs : List ℕ) → IsRound calls first vs → Standing trail done vs
round_stands calls first trail marks done known searched none begun [] round = absurd (omega (arith, round.0))
round_stands calls first trail marks done known searched none begun (m ∷ ms) round =
    elim (cases_lt m first) [
      | inl below ↦ absurd (none m (ms ++ m ∷ []) below (omega (arith, length-append ms (m ∷ [])), way-append calls m first m ms (m ∷ []) round.1.1 (round.1.0, refl)))
      | inr above ↦
          onward calls first trail done searched none ms m (m ∷ []) (round.1.0, refl)
          (searched.closed 0 (record { function = first; way = [] }) m begun known.start above round.1.0) round.1.1
    ]

-- where all is worked off, the first function doesn't reach itself
pub no_round : (calls : ℕ → ℕ → Type 0) (first : ℕ) (trail : List Reached) (marks : List Bool) (done : ℕ) → IsTrail calls first trail marks → IsSearched calls first trail done
    → NoneBelow calls first → 0 < done → length trail ≤ done → (vs : List ℕ) → ¬ IsRound calls first vs
no_round calls first trail marks done known searched none begun all vs round =
    let met : Standing trail done vs = round_stands calls first trail marks done known searched none begun vs round in
    let within : met.place < length trail = slice_get_within trail met.place met.entry met.there
    in omega (arith, within, met.behind)

longer_than_none : (w : List ℕ) → IsBefore [] w → 0 < length w
longer_than_none w (inl less) = less
longer_than_none w (inr less) = absurd less.1

abbrev Rises : List Reached → Type 0
Rises trail = (p q : ℕ) (r s : Reached) → p < q → slice_get trail p ≡ Some r → slice_get trail q ≡ Some s → IsBefore r.way s.way

least_by : (trail : List Reached) (done : ℕ) (r : Reached) (vs : List ℕ) → Rises trail → slice_get trail done ≡ Some r → Standing trail done vs → IsNotAfter r.way vs
least_by trail done r vs rises there met =
    elim (eq-or-lt_of_le met.behind) [
      | inl same ↦
          let one : r ≡ met.entry = cc (there, met.there, same) in subst (λ (e : Reached). IsNotAfter e.way vs) (sym one) met.early
      | inr later ↦ not_after-trans r.way met.entry.way vs (inr (rises done met.place r met.entry later there met.there)) met.early
    ]

-- where the first function is the next to be worked off, its way is the first round
pub first_round : (calls : ℕ → ℕ → Type 0) (first : ℕ) (trail : List Reached) (marks : List Bool) (done : ℕ) (r : Reached) → IsTrail calls first trail marks
    → IsSearched calls first trail done → NoneBelow calls first → 0 < done → slice_get trail done ≡ Some r → r.function ≡ first → IsFirstRound calls first r.way
first_round calls first trail marks done r known searched none begun there same =
    let way : IsWay calls first r.way first = subst (λ n. IsWay calls first r.way n) same (known.ways done r there) in
    record {
      round = (longer_than_none r.way (known.rising 0 done (record { function = first; way = [] }) r begun known.start there), way);
      first = none;
      least = λ vs round. least_by trail done r vs known.rising there (round_stands calls first trail marks done known searched none begun vs round);
    }
