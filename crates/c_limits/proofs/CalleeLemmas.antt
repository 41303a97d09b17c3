-- The lists of callees, and the calls that they stand for.
use Rattle.std.proofs.Common.{◌≡◌, ◌<◌, ◌≤◌, ℕ, zero, suc, ◌+◌, List, [], ◌∷◌, ◌++◌, length, map, take, vec_items, ap, ◌∙◌, sym, refl, subst, arith, Some, get_or, Vec, Global}
use Rattle.std.specs.Prelude.{slice_get}
use Rattle.std.specs.List.{AllZip}
use Rattle.std.proofs.lemmas.List.{map_push, take_more}
use Rattle.std.proofs.lemmas.List.Elements.{AllZip-push}
use Rattle.std.proofs.lemmas.Option.{slice_get_within}
use Rattle.c_tree.specs.declared.uses.Use.{Use}
use Rattle.c_tree.specs.Uses.{called}
use Rattle.c_tree.specs.Rounds.{CallsAmong}
use Rattle.c_limits.specs.Calls.{IsOrdered, AreOrdered}

pub lists_further : (uses : List (Vec Use Global)) (i : ℕ) (item : Vec Use Global) (lists new : List (Vec ℕ Global)) (made : Vec ℕ Global) → i < length uses → item ≡ get_or uses i item
    → AllZip IsOrdered (map vec_items lists) (map called (map vec_items (take i uses))) → new ≡ lists ++ made ∷ [] → IsOrdered made.items (called item.items)
    → AllZip IsOrdered (map vec_items new) (map called (map vec_items (take (i + 1) uses)))
lists_further uses i item lists new made less read known pushed one =
    let made_lists : map vec_items new ≡ map vec_items lists ++ made.items ∷ [] = ap (map vec_items) pushed ∙ map_push vec_items lists made in
    let more : take (i + 1) uses ≡ take i uses ++ item ∷ [] = take_more uses i item less ∙ ap (λ u. take i uses ++ u ∷ []) (sym read) in
    let numbers : map called (map vec_items (take (i + 1) uses)) ≡ map called (map vec_items (take i uses)) ++ called item.items ∷ [] =
    ap (λ us. map called (map vec_items us)) more ∙ ap (map called) (map_push vec_items (take i uses) item) ∙ map_push called (map vec_items (take i uses)) item.items in
    let P : List (List ℕ) → Type 0 = λ xs. AllZip IsOrdered xs (map called (map vec_items (take (i + 1) uses))) in
    let Q : List (List ℕ) → Type 0 = λ ys. AllZip IsOrdered (map vec_items lists ++ made.items ∷ []) ys
    in subst P (sym made_lists) (subst Q (sym numbers) (AllZip-push IsOrdered (map vec_items lists) (map called (map vec_items (take i uses))) made.items (called item.items) known one))

-- a list and the one that it orders stand at one place
same_place : (lists originals : List (List ℕ)) (n : ℕ) (list : List ℕ) → AllZip IsOrdered lists originals → slice_get lists n ≡ Some list
    → (original : List ℕ) × (slice_get originals n ≡ Some original) × IsOrdered list original
same_place [] originals n list all there = absurd (cc there)
same_place (x ∷ lists) [] n list all there = absurd all
same_place (x ∷ lists) (y ∷ originals) zero list all there = let same : x ≡ list = cc there in (y, refl, subst (λ v. IsOrdered v y) same all.0)
same_place (x ∷ lists) (y ∷ originals) (suc n) list all there = same_place lists originals n list all.1 there

same_place_back : (lists originals : List (List ℕ)) (n : ℕ) (original : List ℕ) → AllZip IsOrdered lists originals → slice_get originals n ≡ Some original
    → (list : List ℕ) × (slice_get lists n ≡ Some list) × IsOrdered list original
same_place_back [] [] n original all there = absurd (cc there)
same_place_back [] (y ∷ originals) n original all there = absurd all
same_place_back (x ∷ lists) [] n original all there = absurd all
same_place_back (x ∷ lists) (y ∷ originals) zero original all there = let same : y ≡ original = cc there in (x, refl, subst (λ v. IsOrdered x v) same all.0)
same_place_back (x ∷ lists) (y ∷ originals) (suc n) original all there = same_place_back lists originals n original all.1 there

pub same_length : (lists originals : List (List ℕ)) → AllZip IsOrdered lists originals → length lists ≡ length originals
same_length [] [] all = refl
same_length [] (y ∷ originals) all = absurd all
same_length (x ∷ lists) [] all = absurd all
same_length (x ∷ lists) (y ∷ originals) all = ap suc (same_length lists originals all.1)

-- the calls are the same
pub calls_from : (lists originals : List (List ℕ)) → AllZip IsOrdered lists originals → (n m : ℕ) → CallsAmong lists n m → CallsAmong originals n m
calls_from lists originals all n m call =
    let there = same_place lists originals n call.0 all call.1 in (there.0, there.1, (there.2.same m).0 call.2)

pub calls_to : (lists originals : List (List ℕ)) → AllZip IsOrdered lists originals → (n m : ℕ) → CallsAmong originals n m → CallsAmong lists n m
calls_to lists originals all n m call =
    let there = same_place_back lists originals n call.0 all call.1 in (there.0, there.1, (there.2.same m).1 call.2)

pub ordered_by : (lists originals : List (List ℕ)) → AllZip IsOrdered lists originals → ((n m : ℕ) → CallsAmong originals n m → m < length originals) → AreOrdered lists
ordered_by lists originals all bodies = record {
  rising = λ n list there. (same_place lists originals n list all there).2.rising;
  bodies = λ n m call. let within = bodies n m (calls_from lists originals all n m call) in omega (arith, within, same_length lists originals all);
}

-- a function that isn't there calls none
pub no_calls_past : (lists : List (List ℕ)) (n m : ℕ) → length lists ≤ n → ¬ CallsAmong lists n m
no_calls_past lists n m past call = omega (arith, slice_get_within lists n call.0 call.1)
