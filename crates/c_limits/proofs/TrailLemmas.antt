-- One function more on the trail of a search, or one that is there already.
use Rattle.std.proofs.Common.{◌≡◌, ◌<◌, ◌≤◌, ℕ, ◌+◌, Bool, true, false, List, [], ◌∷◌, ◌++◌, length, set, ap, ◌∙◌, sym, refl, subst, inl, inr, length-append, arith, ◌⊎◌, Some, slice_index}
use Rattle.std.specs.Prelude.{slice_get}
use Rattle.std.specs.List.Sorted.{IsNonDecreasing}
use Rattle.std.proofs.lemmas.Bool.{cases_lt, cases_order}
use Rattle.std.proofs.lemmas.Option.{slice_get_within}
use Rattle.c_rules.specs.Rounds.{IsWay, IsNotAfter, IsBefore}
use Rattle.c_limits.specs.Trails.{Reached, IsIn, IsTrail}
use Rattle.c_rules.proofs.OrderLemmas.{before-last}
use Rattle.c_limits.proofs.WayLemmas.{way-append}
use Rattle.c_rules.proofs.PlaceLemmas.{place_kept, place_last, pushed_place, written_place, still_there, written_or_old}

-- what a function called at a place by a way becomes
abbrev pub reached : List ℕ → ℕ → Reached
reached way y = record { function = y; way = way ++ y ∷ [] }

-- a trail, behind the first so many calls of the function at the end of a way
pub record IsFollowed (calls : ℕ → ℕ → Type 0) (first : ℕ) (old : List Reached) (way callees : List ℕ) (i : ℕ) (trail : List Reached) (marks : List Bool) : Type 0 where
  pub is_trail : IsTrail calls first trail marks
  pub kept : (q : ℕ) (r : Reached) → slice_get old q ≡ Some r → slice_get trail q ≡ Some r
  pub here : (k : ℕ) → k < i → first ≤ slice_index callees k → IsIn trail (slice_index callees k) (way ++ slice_index callees k ∷ [])
  pub whence : (q : ℕ) (s : Reached) → slice_get trail q ≡ Some s → (slice_get old q ≡ Some s) ⊎ ((s.way ≡ way ++ s.function ∷ []) × ((k : ℕ) × (k < i) × (s.function ≡ slice_index callees k)))

-- the ways so far aren't after those from the place at which the search stands
abbrev pub AreBefore : List Reached → List ℕ → Type 0
AreBefore old way = (q : ℕ) (s : Reached) (z : ℕ) → slice_get old q ≡ Some s → IsBefore s.way (way ++ z ∷ [])

-- an entry is before the next, or it is the next
earlier_or_same : (way : List ℕ) (s : Reached) (y : ℕ) → s.way ≡ way ++ s.function ∷ [] → s.function ≤ y
    → IsBefore s.way (way ++ y ∷ []) ⊎ ((s.way ≡ way ++ y ∷ []) × (s.function ≡ y))
earlier_or_same way s y is most =
    elim (cases_order s.function y) [
      | inl same ↦ inr (is ∙ ap (λ n. way ++ n ∷ []) same, same)
      | inr (inl less) ↦ inl (subst (λ v. IsBefore v (way ++ y ∷ [])) (sym is) (before-last way s.function y less))
      | inr (inr more) ↦ absurd (omega (arith, more, most))
    ]

entry_before : (calls : ℕ → ℕ → Type 0) (first : ℕ) (old : List Reached) (way callees : List ℕ) (i : ℕ) (trail : List Reached) (marks : List Bool)
    → IsFollowed calls first old way callees i trail marks → IsNonDecreasing callees → i < length callees → AreBefore old way → (q : ℕ) (s : Reached) → slice_get trail q ≡ Some s
    → IsBefore s.way (way ++ slice_index callees i ∷ []) ⊎ ((s.way ≡ way ++ slice_index callees i ∷ []) × (s.function ≡ slice_index callees i))
entry_before calls first old way callees i trail marks known rising within before q s there =
    elim (known.whence q s there) [
      | inl past ↦ inl (before q s (slice_index callees i) past)
      | inr new ↦
          let lower : slice_index callees new.1.0 ≤ slice_index callees i = rising new.1.0 i 0 (omega (arith, new.1.1)) within
          in earlier_or_same way s (slice_index callees i) new.0 (omega (arith, lower, new.1.2))
    ]

in_longer : (trail more : List Reached) (y : ℕ) (w : List ℕ) → IsIn trail y w → IsIn (trail ++ more) y w
in_longer trail more y w found = record {
  place = found.place;
  entry = found.entry;
  by_call = found.by_call;
  there = place_kept trail more found.place found.entry found.there;
  same = found.same;
  early = found.early;
}

pub some_same : {A : Type 0} (x y : A) → Some x ≡ Some y → x ≡ y
some_same x y same = cc same

-- an entry before another stands in the trail without the last
older_place : (trail : List Reached) (last : Reached) (p q : ℕ) (r : Reached) → p < q → q ≤ length trail → slice_get (trail ++ last ∷ []) p ≡ Some r → slice_get trail p ≡ Some r
older_place trail last p q r less most there =
    elim (pushed_place trail last p r there) [ inl old ↦ old | inr new ↦ absurd (omega (arith, new.0, less, most)) ]

-- an entry that isn't marked isn't there
not_met : (calls : ℕ → ℕ → Type 0) (first : ℕ) (trail : List Reached) (marks : List Bool) (way : List ℕ) (y : ℕ) → IsTrail calls first trail marks → slice_get marks y ≡ Some false
    → (q : ℕ) (s : Reached) → slice_get trail q ≡ Some s → s.way ≡ way ++ y ∷ [] → s.function ≡ y → ⊥
not_met calls first trail marks way y known unmarked q s there is same =
    elim (cases_lt 0 q) [
      | inl later ↦
          let mark : slice_get marks s.function ≡ Some true = known.all_marked q s later there in
          let one : slice_get marks y ≡ Some true = subst (λ n. slice_get marks n ≡ Some true) same mark in absurd (cc (one, unmarked))
      | inr start ↦
          let at_start : slice_get trail 0 ≡ Some s = subst (λ n. slice_get trail n ≡ Some s) (omega arith) there in
          let empty : s.way ≡ [] = ap (λ (r : Reached). r.way) (some_same s (record { function = first; way = [] }) (sym at_start ∙ known.start))
          in absurd (omega (arith, ap length (sym is ∙ empty), length-append way (y ∷ [])))
    ]

before_new : (calls : ℕ → ℕ → Type 0) (first : ℕ) (trail : List Reached) (marks : List Bool) (way : List ℕ) (y : ℕ) → IsTrail calls first trail marks → slice_get marks y ≡ Some false
    → (q : ℕ) (s : Reached) → slice_get trail q ≡ Some s → IsBefore s.way (way ++ y ∷ []) ⊎ ((s.way ≡ way ++ y ∷ []) × (s.function ≡ y)) → IsBefore s.way (way ++ y ∷ [])
before_new calls first trail marks way y known unmarked q s there (inl before) = before
before_new calls first trail marks way y known unmarked q s there (inr same) = absurd (not_met calls first trail marks way y known unmarked q s there same.0 same.1)

-- a function that is called and isn't marked comes behind the trail
pub with_one : (calls : ℕ → ℕ → Type 0) (first : ℕ) (trail : List Reached) (marks : List Bool) (way : List ℕ) (u y : ℕ) → IsTrail calls first trail marks → IsWay calls first way u → calls u y
    → slice_get marks y ≡ Some false
    → ((q : ℕ) (s : Reached) → slice_get trail q ≡ Some s → IsBefore s.way (way ++ y ∷ []) ⊎ ((s.way ≡ way ++ y ∷ []) × (s.function ≡ y)))
    → IsTrail calls first (trail ++ reached way y ∷ []) (set marks y true)
with_one calls first trail marks way u y known reach called unmarked order =
    let new = trail ++ reached way y ∷ [] in
    let nonempty : 0 < length trail = slice_get_within trail 0 (record { function = first; way = [] }) known.start in
    record {
      start = place_kept trail (reached way y ∷ []) 0 (record { function = first; way = [] }) known.start;
      ways = λ p r there. elim (pushed_place trail (reached way y) p r there) [
        | inl old ↦ known.ways p r old
        | inr last ↦ subst (λ (e : Reached). IsWay calls first e.way e.function) last.1 (way-append calls first u y way (y ∷ []) reach (called, refl))
      ];
      rising = λ p q r s less one other. elim (pushed_place trail (reached way y) q s other) [
        | inl old ↦ known.rising p q r s less (older_place trail (reached way y) p q r less (omega (arith, slice_get_within trail q s old)) one) old
        | inr last ↦
            let here : slice_get trail p ≡ Some r = older_place trail (reached way y) p q r less (omega (arith, last.0)) one in
            subst (λ (e : Reached). IsBefore r.way e.way) last.1 (before_new calls first trail marks way y known unmarked p r here (order p r here))
      ];
      marked = λ z mark. elim (written_or_old marks y z true true mark) [
        | inl old ↦
            let found = known.marked z old in
            (found.0, found.1, found.2, place_kept trail (reached way y ∷ []) found.0 found.1 found.3, found.4)
        | inr here ↦ (length trail, reached way y, nonempty, place_last trail (reached way y), sym here)
      ];
      all_marked = λ p r later there. elim (pushed_place trail (reached way y) p r there) [
        | inl old ↦ still_there marks y r.function true (known.all_marked p r later old)
        | inr last ↦
            let mark : slice_get (set marks y true) y ≡ Some true = written_place marks y true (slice_get_within marks y false unmarked) in
            subst (λ (e : Reached). slice_get (set marks y true) e.function ≡ Some true) last.1 mark
      ];
    }

further_from : (old : List Reached) (way callees : List ℕ) (i q : ℕ) (s : Reached)
    → (slice_get old q ≡ Some s) ⊎ ((s.way ≡ way ++ s.function ∷ []) × ((k : ℕ) × (k < i) × (s.function ≡ slice_index callees k)))
    → (slice_get old q ≡ Some s) ⊎ ((s.way ≡ way ++ s.function ∷ []) × ((k : ℕ) × (k < i + 1) × (s.function ≡ slice_index callees k)))
further_from old way callees i q s (inl past) = inl past
further_from old way callees i q s (inr new) = inr (new.0, (new.1.0, omega (arith, new.1.1), new.1.2))

not_after_new : (s : Reached) (w : List ℕ) (y : ℕ) → IsBefore s.way w ⊎ ((s.way ≡ w) × (s.function ≡ y)) → IsNotAfter s.way w
not_after_new s w y (inl before) = inr before
not_after_new s w y (inr same) = inl same.0

-- a marked function is reached by a way that isn't after one from here
met : (calls : ℕ → ℕ → Type 0) (first : ℕ) (old : List Reached) (way callees : List ℕ) (i : ℕ) (trail : List Reached) (marks : List Bool)
    → IsFollowed calls first old way callees i trail marks → IsNonDecreasing callees → i < length callees → AreBefore old way
    → slice_get marks (slice_index callees i) ≡ Some true → IsIn trail (slice_index callees i) (way ++ slice_index callees i ∷ [])
met calls first old way callees i trail marks known rising within before mark =
    let found = known.is_trail.marked (slice_index callees i) mark in
    record {
      place = found.0;
      entry = found.1;
      by_call = found.2;
      there = found.3;
      same = found.4;
      early =
          not_after_new found.1 (way ++ slice_index callees i ∷ []) (slice_index callees i)
          (entry_before calls first old way callees i trail marks known rising within before found.0 found.1 found.3);
    }

-- the same for what stands in the trail by a function's calls so far
pub entered : (calls : ℕ → ℕ → Type 0) (first : ℕ) (old : List Reached) (way callees : List ℕ) (i u : ℕ) (trail : List Reached) (marks : List Bool)
    → IsFollowed calls first old way callees i trail marks → IsNonDecreasing callees → i < length callees → AreBefore old way → IsWay calls first way u
    → calls u (slice_index callees i) → slice_get marks (slice_index callees i) ≡ Some false
    → IsFollowed calls first old way callees (i + 1) (trail ++ reached way (slice_index callees i) ∷ []) (set marks (slice_index callees i) true)
entered calls first old way callees i u trail marks known rising within before reach called unmarked =
    let y = slice_index callees i in
    let nonempty : 0 < length trail = slice_get_within trail 0 (record { function = first; way = [] }) known.is_trail.start in
    record {
      is_trail = with_one calls first trail marks way u y known.is_trail reach called unmarked (entry_before calls first old way callees i trail marks known rising within before);
      kept = λ q r there. place_kept trail (reached way y ∷ []) q r (known.kept q r there);
      here = λ k less above. elim (cases_lt k i) [
        | inl past ↦ in_longer trail (reached way y ∷ []) (slice_index callees k) (way ++ slice_index callees k ∷ []) (known.here k past above)
        | inr now ↦
            let P : ℕ → Type 0 = λ n. IsIn (trail ++ reached way y ∷ []) (slice_index callees n) (way ++ slice_index callees n ∷ []) in
            let new : P i = record {
              place = length trail;
              entry = reached way y;
              by_call = nonempty;
              there = place_last trail (reached way y);
              same = refl;
              early = inl refl;
            } in subst P (omega arith) new
      ];
      whence = λ q s there. elim (pushed_place trail (reached way y) q s there) [
        | inl past ↦ further_from old way callees i q s (known.whence q s past)
        | inr last ↦
            let P : Reached → Type 0 = λ s. (s.way ≡ way ++ s.function ∷ []) × ((k : ℕ) × (k < i + 1) × (s.function ≡ slice_index callees k)) in
            let new : P (reached way y) = (refl, (i, omega arith, refl)) in inr (subst P last.1 new)
      ];
    }

-- a function that is called, and is before the first or marked, changes nothing
pub passed : (calls : ℕ → ℕ → Type 0) (first : ℕ) (old : List Reached) (way callees : List ℕ) (i : ℕ) (trail : List Reached) (marks : List Bool)
    → IsFollowed calls first old way callees i trail marks → IsNonDecreasing callees → i < length callees → AreBefore old way
    → (first ≤ slice_index callees i → slice_get marks (slice_index callees i) ≡ Some true) → IsFollowed calls first old way callees (i + 1) trail marks
passed calls first old way callees i trail marks known rising within before mark = record {
  is_trail = known.is_trail;
  kept = known.kept;
  here = λ k less above. elim (cases_lt k i) [
    | inl past ↦ known.here k past above
    | inr now ↦
        let P : ℕ → Type 0 = λ n. first ≤ slice_index callees n → IsIn trail (slice_index callees n) (way ++ slice_index callees n ∷ []) in
        let same : i ≡ k = omega arith in subst P same (λ high. met calls first old way callees i trail marks known rising within before (mark high)) above
  ];
  whence = λ q s there. further_from old way callees i q s (known.whence q s there);
}
