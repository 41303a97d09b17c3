-- A place of a search, before and after all calls of its function.
use Rattle.std.proofs.Common.{◌≡◌, ◌<◌, ◌≤◌, ◌≢◌, ℕ, ◌+◌, Bool, List, [], ◌∷◌, ◌++◌, length, ap, ◌∙◌, sym, subst, inl, inr, length-append, arith, Some, slice_index}
use Rattle.std.specs.Prelude.{slice_get}
use Rattle.std.specs.List.{Contains}
use Rattle.std.proofs.lemmas.Bool.{cases_lt}
use Rattle.std.proofs.lemmas.List.{get_or_default}
use Rattle.std.proofs.lemmas.Option.{slice_get_within}
use Rattle.c_rules.specs.Rounds.{IsBefore}
use Rattle.c_limits.specs.Trails.{Reached, IsIn, IsTrail, IsSearched}
use Rattle.c_rules.proofs.OrderLemmas.{before-more}
use Rattle.c_rules.proofs.PlaceLemmas.{place_within}
use Rattle.c_limits.proofs.TrailLemmas.{IsFollowed, AreBefore, some_same}

pub before_place : (calls : ℕ → ℕ → Type 0) (first : ℕ) (old : List Reached) (marks : List Bool) (done : ℕ) (r : Reached) → IsTrail calls first old marks → IsSearched calls first old done
    → slice_get old done ≡ Some r → AreBefore old r.way
before_place calls first old marks done r known searched there q s z entry =
    elim (cases_lt 0 q) [
      | inl later ↦
          let from = searched.whence q s later entry in
          subst (λ w. IsBefore w (r.way ++ z ∷ [])) (sym from.4) (before-more from.1.way r.way s.function z (known.rising from.0 done from.1 r from.2 from.3 there))
      | inr start ↦
          let at_start : slice_get old 0 ≡ Some s = subst (λ n. slice_get old n ≡ Some s) (omega arith) entry in
          let empty : s.way ≡ [] = ap (λ (e : Reached). e.way) (some_same s (record { function = first; way = [] }) (sym at_start ∙ known.start))
          in subst (λ w. IsBefore w (r.way ++ z ∷ [])) (sym empty) (inl (omega (arith, length-append r.way (z ∷ []))))
    ]

pub follow_none : (calls : ℕ → ℕ → Type 0) (first : ℕ) (old : List Reached) (marks : List Bool) (way callees : List ℕ) → IsTrail calls first old marks
    → IsFollowed calls first old way callees 0 old marks
follow_none calls first old marks way callees known = record {
  is_trail = known;
  kept = λ q r there. there;
  here = λ k less above. absurd (omega (arith, less));
  whence = λ q s there. inl there;
}

kept_in : (old trail : List Reached) (y : ℕ) (w : List ℕ) → ((q : ℕ) (r : Reached) → slice_get old q ≡ Some r → slice_get trail q ≡ Some r) → IsIn old y w → IsIn trail y w
kept_in old trail y w kept found = record {
  place = found.place;
  entry = found.entry;
  by_call = found.by_call;
  there = kept found.place found.entry found.there;
  same = found.same;
  early = found.early;
}

-- an entry of the longer trail before its end stood there already
older : (old trail : List Reached) (p : ℕ) (r : Reached) → ((q : ℕ) (s : Reached) → slice_get old q ≡ Some s → slice_get trail q ≡ Some s) → p < length old
    → slice_get trail p ≡ Some r → slice_get old p ≡ Some r
older old trail p r kept less there =
    let before = place_within old p less in
    let same : before.0 ≡ r = some_same before.0 r (sym (kept p before.0 before.1) ∙ there) in subst (λ (e : Reached). slice_get old p ≡ Some e) same before.1

called_in : (first : ℕ) (trail : List Reached) (way callees : List ℕ) (y : ℕ) → Contains callees y
    → ((k : ℕ) → k < length callees → first ≤ slice_index callees k → IsIn trail (slice_index callees k) (way ++ slice_index callees k ∷ [])) → first ≤ y → IsIn trail y (way ++ y ∷ [])
called_in first trail way callees y found here above =
    let same : slice_index callees found.0 ≡ y = get_or_default callees found.0 0 y found.1 ∙ found.2 in
    let P : ℕ → Type 0 = λ n. first ≤ n → IsIn trail n (way ++ n ∷ []) in subst P same (here found.0 found.1) above

-- where each function that the one at a place calls is followed, that place is worked off too
pub followed : (calls : ℕ → ℕ → Type 0) (first : ℕ) (old trail : List Reached) (marks : List Bool) (done : ℕ) (r : Reached) (callees : List ℕ) → IsSearched calls first old done
    → slice_get old done ≡ Some r → (0 < done → r.function ≢ first) → ((y : ℕ) → calls r.function y → Contains callees y)
    → IsFollowed calls first old r.way callees (length callees) trail marks → IsSearched calls first trail (done + 1)
followed calls first old trail marks done r callees searched there apart among known =
    let within : done < length old = slice_get_within old done r there in
    let past : (p : ℕ) (e : Reached) → p < done + 1 → slice_get trail p ≡ Some e → slice_get old p ≡ Some e =
    λ p e less one. older old trail p e known.kept (omega (arith, less)) one in
    let the_last : (p : ℕ) (e : Reached) → p < done + 1 → done ≤ p → slice_get trail p ≡ Some e → r ≡ e =
    λ p e less most one.
    let at : slice_get old done ≡ Some e = subst (λ n. slice_get old n ≡ Some e) (omega (arith, less, most)) (past p e less one)
    in some_same r e (sym there ∙ at) in
    record {
      closed = λ p e y less one above called. elim (cases_lt p done) [
        | inl before ↦ kept_in old trail y (e.way ++ y ∷ []) known.kept (searched.closed p e y before (past p e less one) above called)
        | inr now ↦
            let P : Reached → Type 0 = λ e. calls e.function y → IsIn trail y (e.way ++ y ∷ []) in
            subst P (the_last p e less now one) (λ here. called_in first trail r.way callees y (among y here) known.here above) called
      ];
      apart = λ p e later less one. elim (cases_lt p done) [
        | inl before ↦ searched.apart p e later before (past p e less one)
        | inr now ↦ subst (λ (e : Reached). e.function ≢ first) (the_last p e less now one) (apart (omega (arith, later, less, now)))
      ];
      whence = λ q s later one. elim (known.whence q s one) [
        | inl old_one ↦
            let from = searched.whence q s later old_one in (from.0, from.1, omega (arith, from.2), known.kept from.0 from.1 from.3, from.4)
        | inr new ↦ (done, r, omega arith, known.kept done r there, new.0)
      ];
    }
