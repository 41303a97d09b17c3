-- One scalar more is put where it costs least.
use Rattle.std.proofs.Common.{◌≡◌, ◌<◌, ◌≤◌, ◌+◌, ◌∙◌, ◌++◌, ℕ, zero, suc, List, [], ◌∷◌, refl, length, get_or, take, replicate, fold, ap, ap₂, sym, subst, inl, inr, arith}
use Rattle.std.specs.Prelude.{◌==◌, nat_lt, All, if◌then◌else◌}
use Rattle.std.specs.List.{concat, range_with_len}
use Rattle.std.proofs.lemmas.Bool.{eqb-true, cond-true, cond-false, lt-ltb, le-ltb}
use Rattle.std.proofs.lemmas.List.{map-id, length-map, length-set, length-take, get_or-map, get_or-set_same, get_or-set_other, take_more, take_all}
use Rattle.std.proofs.lemmas.List.Elements.{All-nil, All-cons}
use Rattle.std.proofs.lemmas.List.Sums.{fold_push}
use Rattle.std.proofs.lemmas.List.FromFn.{map-range_with_len_more}
use Rattle.lay_model.specs.Sequences.{Sequence}
use Rattle.lay_cost.specs.Parts.{StandOnce, part_cost_of}
use Rattle.lay_tree.specs.Tree.{all_scalars}
use Rattle.lay_tree.specs.Greedy.{filled, with_one_more, cheapest_of, with_scalar_placed, spread}
use Rattle.lay_tree.proofs.Members.{IsIn, IsOnce, of_range}
use Rattle.lay_tree.proofs.Pairs.{one_picked}
use Rattle.lay_tree.proofs.Bounds.{once_range, all_in}
use Rattle.lay_tree.proofs.Arranged.{once_counted}
use Rattle.lay_tree.proofs.StartLists.{HasOneMore, each_has_one_more, at_place, IsSpread, all_spread, empty_lists, spread_all}
use Rattle.lay_greedy.specs.Spread.{with_scalar_at, IsNext}

pub each_all : (P : ℕ → Type 0) (xs : List ℕ) → ((s : ℕ) → IsIn s xs → P s) → All P xs
each_all P [] h = All-nil P
each_all P (x ∷ xs) h = All-cons P x xs (h x (inl refl)) (each_all P xs (λ s i. h s (inr i)))

each_once : (xs : List ℕ) → IsOnce xs → StandOnce xs
each_once xs once s = one_picked (λ t. t == s) s xs (λ t e. eqb-true t s e) once

-- a copy of the lists with a scalar more, list by list
pub here_more : (s : ℕ) (lists state : List (List ℕ)) (r p : ℕ) (list : List ℕ) → p < length lists → p ≡ r → state ≡ take p (with_scalar_at s lists r) → list ≡ get_or lists p [] ++ (s ∷ []) → state ++ (list ∷ []) ≡ take (p + 1) (with_scalar_at s lists r)
here_more s lists state r p list lt same so_far is =
    let more = with_scalar_at s lists r in
    let long : p < length more = omega (arith, lt, length-set lists r (get_or lists r [] ++ (s ∷ []))) in
    let read : get_or more p [] ≡ list = ap (λ q. get_or more q []) same ∙ (get_or-set_same lists r (get_or lists r [] ++ (s ∷ [])) [] (omega (arith, lt, same)) ∙ (ap (λ q. get_or lists q [] ++ (s ∷ [])) (sym same) ∙ sym is))
    in ap₂ (λ front l. front ++ (l ∷ [])) so_far (sym read) ∙ sym (take_more more p [] long)

pub other_more : (s : ℕ) (lists state : List (List ℕ)) (r p : ℕ) (list : List ℕ) → p < length lists → (p ≡ r → ⊥) → state ≡ take p (with_scalar_at s lists r) → list ≡ get_or lists p [] → state ++ (list ∷ []) ≡ take (p + 1) (with_scalar_at s lists r)
other_more s lists state r p list lt differ so_far is =
    let more = with_scalar_at s lists r in
    let long : p < length more = omega (arith, lt, length-set lists r (get_or lists r [] ++ (s ∷ []))) in
    let read : get_or more p [] ≡ list = get_or-set_other lists r p (get_or lists r [] ++ (s ∷ [])) [] differ ∙ sym is
    in ap₂ (λ front l. front ++ (l ∷ [])) so_far (sym read) ∙ sym (take_more more p [] long)

-- the choices, in order
pub long_more : (s : ℕ) (lists : List (List ℕ)) → length (with_one_more s lists) ≡ length lists
long_more s [] = refl
long_more s (l ∷ ls) = ap suc (length-map (with_one_more s ls) (λ rest. l ∷ rest) ∙ long_more s ls)

pub more_at : (s : ℕ) (lists : List (List ℕ)) (r : ℕ) → r < length lists → get_or (with_one_more s lists) r [] ≡ with_scalar_at s lists r
more_at s [] r lt = absurd (omega (arith, lt))
more_at s (l ∷ ls) zero lt = refl
more_at s (l ∷ ls) (suc r) lt =
    let within : r < length (with_one_more s ls) = omega (arith, lt, long_more s ls)
    in get_or-map (λ rest. l ∷ rest) (with_one_more s ls) r [] [] within ∙ ap (λ rest. l ∷ rest) (more_at s ls r (omega (arith, lt)))

abbrev pub cost_placed : Sequence → List (List ℕ) → ℕ
cost_placed seq lists = part_cost_of seq (filled lists)

cheapest_more : (seq : Sequence) (cs : List (List (List ℕ))) (c : List (List ℕ)) → 1 ≤ length cs → cheapest_of seq (cs ++ (c ∷ [])) ≡ (if nat_lt (cost_placed seq c) (cost_placed seq (cheapest_of seq cs)) then c else cheapest_of seq cs)
cheapest_more seq [] c some = absurd (omega (arith, some))
cheapest_more seq (d ∷ ds) c some = fold_push (λ best x. if nat_lt (cost_placed seq x) (cost_placed seq best) then x else best) d ds c

-- the cheapest of the choices before a register
pub record IsBest (seq : Sequence) (lists : List (List ℕ)) (s next best : ℕ) : Type 0 where
  pub below : best < length lists
  pub some : 1 ≤ next
  pub is : cheapest_of seq (take next (with_one_more s lists)) ≡ with_scalar_at s lists best

pub first_best : (seq : Sequence) (lists : List (List ℕ)) (s : ℕ) → 1 ≤ length lists → IsBest seq lists s 1 0
first_best seq [] s some = absurd (omega (arith, some))
first_best seq (l ∷ ls) s some = record { below = omega arith; some = omega arith; is = refl }

taken_more : (lists : List (List ℕ)) (s next : ℕ) → next < length lists → take (next + 1) (with_one_more s lists) ≡ take next (with_one_more s lists) ++ (with_scalar_at s lists next ∷ [])
taken_more lists s next lt = take_more (with_one_more s lists) next [] (omega (arith, lt, long_more s lists)) ∙ ap (λ c. take next (with_one_more s lists) ++ (c ∷ [])) (more_at s lists next lt)

long_taken : (lists : List (List ℕ)) (s next : ℕ) → 1 ≤ next → next < length lists → 1 ≤ length (take next (with_one_more s lists))
long_taken lists s next some lt = omega (arith, some, lt, long_more s lists, length-take next (with_one_more s lists))

step : (seq : Sequence) (lists : List (List ℕ)) (s next best : ℕ) → next < length lists → IsBest seq lists s next best → cheapest_of seq (take (next + 1) (with_one_more s lists)) ≡ (if nat_lt (cost_placed seq (with_scalar_at s lists next)) (cost_placed seq (with_scalar_at s lists best)) then with_scalar_at s lists next else with_scalar_at s lists best)
step seq lists s next best lt h =
    ap (cheapest_of seq) (taken_more lists s next lt)
    ∙ (cheapest_more seq (take next (with_one_more s lists)) (with_scalar_at s lists next) (long_taken lists s next h.some lt)
    ∙ ap (λ b. if nat_lt (cost_placed seq (with_scalar_at s lists next)) (cost_placed seq b) then with_scalar_at s lists next else b) h.is)

pub better : (seq : Sequence) (lists : List (List ℕ)) (s next best : ℕ) → next < length lists → IsBest seq lists s next best → cost_placed seq (with_scalar_at s lists next) < cost_placed seq (with_scalar_at s lists best) → IsBest seq lists s (next + 1) next
better seq lists s next best lt h less = record { below = lt; some = omega arith; is = step seq lists s next best lt h ∙ cond-true _ _ _ (lt-ltb (cost_placed seq (with_scalar_at s lists next)) (cost_placed seq (with_scalar_at s lists best)) less) }

pub no_better : (seq : Sequence) (lists : List (List ℕ)) (s next best : ℕ) → next < length lists → IsBest seq lists s next best → cost_placed seq (with_scalar_at s lists best) ≤ cost_placed seq (with_scalar_at s lists next) → IsBest seq lists s (next + 1) best
no_better seq lists s next best lt h more = record { below = h.below; some = omega arith; is = step seq lists s next best lt h ∙ cond-false _ _ _ (le-ltb (cost_placed seq (with_scalar_at s lists next)) (cost_placed seq (with_scalar_at s lists best)) more) }

pub best_of_all : (seq : Sequence) (lists : List (List ℕ)) (s next best : ℕ) → length lists ≤ next → IsBest seq lists s next best → with_scalar_at s lists best ≡ with_scalar_placed seq lists s
best_of_all seq lists s next best le h = sym (ap (cheapest_of seq) (sym (take_all next (with_one_more s lists) (omega (arith, le, long_more s lists)))) ∙ h.is)

-- one scalar more
pub record AreMore (scalars : ℕ) (lists : List (List ℕ)) : Type 0 where
  pub below : All (λ s. s < scalars) (concat lists)
  pub some : 1 ≤ length (concat lists)
  pub once : StandOnce (concat lists)

some_in : (s : ℕ) (xs : List ℕ) → IsIn s xs → 1 ≤ length xs
some_in s [] i = absurd i
some_in s (x ∷ xs) i = omega arith

pub are_more : (scalars s r : ℕ) (lists : List (List ℕ)) → r < length lists → IsNext lists s → s < scalars → AreMore scalars (with_scalar_at s lists r)
are_more scalars s r lists lt next below =
    let one = subst (λ more. HasOneMore s lists more) (more_at s lists r lt) (each_has_one_more s lists (get_or (with_one_more s lists) r []) (at_place (with_one_more s lists) r [] (omega (arith, lt, long_more s lists)))) in
    let once = once_counted (concat lists) (λ t i. next.once t) in
    let placed : (t : ℕ) → IsIn t (concat lists) → t < s = λ t i. all_in (λ u. u < s) (concat lists) t next.below i in
    record {
      below = each_all (λ t. t < scalars) (concat (with_scalar_at s lists r)) (λ t i. elim (one.of t i) [ inl same ↦ omega (arith, same, below) | inr old ↦ omega (arith, placed t old, below) ]);
      some = some_in s (concat (with_scalar_at s lists r)) one.new;
      once = each_once (concat (with_scalar_at s lists r)) (one.once once (λ i. absurd (omega (arith, placed s i))));
    }

-- the scalars before one are spread
pub spread_so_far : (k : ℕ) (seq : Sequence) (i : ℕ) → 1 ≤ k → IsSpread k (range_with_len 0 i) (fold (with_scalar_placed seq) (replicate k []) (range_with_len 0 i))
spread_so_far k seq i some = all_spread seq k (range_with_len 0 i) [] (replicate k []) some (once_range 0 i) (empty_lists k)

pub range_more : (i : ℕ) → range_with_len 0 (i + 1) ≡ range_with_len 0 i ++ (i ∷ [])
range_more i = sym (map-id (range_with_len 0 (i + 1))) ∙ (map-range_with_len_more (λ (s : ℕ). s) 0 i i (omega arith) ∙ ap (λ l. l ++ (i ∷ [])) (map-id (range_with_len 0 i)))

pub spread_more : (k : ℕ) (seq : Sequence) (i : ℕ) (lists more : List (List ℕ)) → lists ≡ fold (with_scalar_placed seq) (replicate k []) (range_with_len 0 i) → more ≡ with_scalar_placed seq lists i → more ≡ fold (with_scalar_placed seq) (replicate k []) (range_with_len 0 (i + 1))
spread_more k seq i lists more e is = is ∙ (ap (λ ls. with_scalar_placed seq ls i) e ∙ (sym (fold_push (with_scalar_placed seq) (replicate k []) (range_with_len 0 i) i) ∙ ap (fold (with_scalar_placed seq) (replicate k [])) (sym (range_more i))))

pub next_scalar : (k : ℕ) (seq : Sequence) (i : ℕ) (lists : List (List ℕ)) → 1 ≤ k → lists ≡ fold (with_scalar_placed seq) (replicate k []) (range_with_len 0 i) → (1 ≤ length lists) × IsNext lists i
next_scalar k seq i lists some e =
    let h = subst (λ ls. IsSpread k (range_with_len 0 i) ls) (sym e) (spread_so_far k seq i some) in (
      omega (arith, h.long, some),
      record {
        below = each_all (λ s. s < i) (concat lists) (λ s j. omega (arith, (of_range s 0 i (h.same.of s j)).1));
        once = each_once (concat lists) h.same.once;
      },
    )

-- all scalars are below their number
pub spread_small : (k : ℕ) (seq : Sequence) → 1 ≤ k → seq.scalars ≤ 64 → All (λ s. s < 64) (concat (spread k seq))
spread_small k seq some few = each_all (λ s. s < 64) (concat (spread k seq)) (λ s i. omega (arith, few, (of_range s 0 seq.scalars ((spread_all k seq some).same.of s i)).1))

pub all_small : (seq : Sequence) → seq.scalars ≤ 64 → All (λ s. s < 64) (all_scalars seq)
all_small seq few = each_all (λ s. s < 64) (all_scalars seq) (λ s i. omega (arith, few, (of_range s 0 seq.scalars i).1))
