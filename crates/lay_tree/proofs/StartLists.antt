-- The starting layout is an arrangement of the scalars in at most k lists.
use Rattle.std.proofs.Common.{◌≡◌, ◌<◌, ◌≤◌, ◌∙◌, ◌++◌, ℕ, zero, suc, List, [], ◌∷◌, Bool, true, false, not, refl, length, map, replicate, ap, sym, subst, inl, inr, arith, append_assoc, append-nil}
use Rattle.std.specs.Prelude.{◌⊎◌, ◌==◌, filter, fold, sum_by, nat_lt, if◌then◌else◌}
use Rattle.std.specs.List.{concat, range_with_len, slice_index_or}
use Rattle.std.proofs.lemmas.Bool.{cases_Bool, both_ways, not-true, not_from_false, le-ltb, eqb-true, cond-true, cond-false}
use Rattle.std.proofs.lemmas.List.{length-map}
use Rattle.std.proofs.lemmas.List.FromFn.{length-range_with_len}
use Rattle.std.proofs.lemmas.List.Sums.{sum_by-cons}
use Rattle.lay_model.specs.Sequences.{Sequence, IsSequence}
use Rattle.lay_model.specs.Arrangements.{Arranges}
use Rattle.lay_cost.specs.Cost.{arranged_cost, IsArranged}
use Rattle.lay_cost.specs.Parts.{part_cost_of}
use Rattle.lay_tree.specs.Tree.{is_empty, all_scalars}
use Rattle.lay_tree.specs.Greedy.{cheapest, greedy_list, filled, with_one_more, cheapest_of, with_scalar_placed, spread, starting_lists}
use Rattle.lay_tree.proofs.Members.{IsIn, IsOnce, in_front, in_back, in_either, of_map, of_filter, in_range}
use Rattle.lay_tree.proofs.Sums.{sum_within}
use Rattle.lay_tree.proofs.Pairs.{one_picked}
use Rattle.lay_tree.proofs.Bounds.{once_range}
use Rattle.lay_tree.proofs.Arranged.{at_least_one}
use Rattle.lay_tree.proofs.Least.{costs_nothing}
use Rattle.lay_tree.proofs.Permuted.{Permutes, permutes_itself, once_append, parts_of_once}
use Rattle.lay_tree.proofs.GreedyLists.{greedy_permutes}
use Rattle.lay_tree.proofs.Cheapest.{cheapest_is}

-- one scalar more at the end of one of some lists
pub record HasOneMore (s : ℕ) (lists more : List (List ℕ)) : Type 0 where
  pub long : length more ≡ length lists
  pub of : (t : ℕ) → IsIn t (concat more) → (t ≡ s) ⊎ IsIn t (concat lists)
  pub all : (t : ℕ) → IsIn t (concat lists) → IsIn t (concat more)
  pub new : IsIn s (concat more)
  pub once : IsOnce (concat lists) → (IsIn s (concat lists) → ⊥) → IsOnce (concat more)

in_first : (s : ℕ) (l : List ℕ) (ls : List (List ℕ)) → HasOneMore s (l ∷ ls) ((l ++ (s ∷ [])) ∷ ls)
in_first s l ls = record {
  long = refl;
  of = λ t i. elim (in_either t (l ++ (s ∷ [])) (concat ls) i) [
    | inl h ↦ elim (in_either t l (s ∷ []) h) [ inl old ↦ inr (in_front t l (concat ls) old) | inr now ↦ elim now [ inl same ↦ inl same | inr none ↦ absurd none ] ]
    | inr h ↦ inr (in_back t l (concat ls) h)
  ];
  all = λ t i. elim (in_either t l (concat ls) i) [
    | inl h ↦ in_front t (l ++ (s ∷ [])) (concat ls) (in_front t l (s ∷ []) h)
    | inr h ↦ in_back t (l ++ (s ∷ [])) (concat ls) h
  ];
  new = in_front s (l ++ (s ∷ [])) (concat ls) (in_back s l (s ∷ []) (inl refl));
  once = λ once absent.
      let parts = parts_of_once l (concat ls) once in
      let longer = once_append l (s ∷ []) parts.0 ((λ i. i), tt) (λ t i j. elim j [ inl same ↦ absent (in_front s l (concat ls) (subst (λ v. IsIn v l) same i)) | inr none ↦ none ])
      in once_append (l ++ (s ∷ [])) (concat ls) longer parts.1.0 (λ t i j. elim (in_either t l (s ∷ []) i) [
        | inl old ↦ parts.1.1 t old j
        | inr now ↦ elim now [ inl same ↦ absent (in_back s l (concat ls) (subst (λ v. IsIn v (concat ls)) same j)) | inr none ↦ none ]
      ]);
}

in_later : (s : ℕ) (l : List ℕ) (ls rest : List (List ℕ)) → HasOneMore s ls rest → HasOneMore s (l ∷ ls) (l ∷ rest)
in_later s l ls rest h = record {
  long = ap suc h.long;
  of = λ t i. elim (in_either t l (concat rest) i) [
    | inl old ↦ inr (in_front t l (concat ls) old)
    | inr j ↦ elim (h.of t j) [ inl same ↦ inl same | inr old ↦ inr (in_back t l (concat ls) old) ]
  ];
  all = λ t i. elim (in_either t l (concat ls) i) [ inl old ↦ in_front t l (concat rest) old | inr j ↦ in_back t l (concat rest) (h.all t j) ];
  new = in_back s l (concat rest) h.new;
  once = λ once absent.
      let parts = parts_of_once l (concat ls) once
      in once_append l (concat rest) parts.0 (h.once parts.1.0 (λ i. absent (in_back s l (concat ls) i))) (λ t i j. elim (h.of t j) [
        | inl same ↦ absent (in_front s l (concat ls) (subst (λ v. IsIn v l) same i))
        | inr old ↦ parts.1.1 t i old
      ]);
}

pub each_has_one_more : (s : ℕ) (lists more : List (List ℕ)) → IsIn more (with_one_more s lists) → HasOneMore s lists more
each_has_one_more s [] more i = absurd i
each_has_one_more s (l ∷ ls) more (inl same) = subst (λ m. HasOneMore s (l ∷ ls) m) (sym same) (in_first s l ls)
each_has_one_more s (l ∷ ls) more (inr i) =
    let o = of_map (λ rest. l ∷ rest) more (with_one_more s ls) i
    in subst (λ m. HasOneMore s (l ∷ ls) m) (sym o.is) (in_later s l ls o.from (each_has_one_more s ls o.from o.inside))

one_of : (seq : Sequence) (first : List (List ℕ)) (more : List (List (List ℕ))) → IsIn (cheapest_of seq (first ∷ more)) (first ∷ more)
one_of seq first more = cheapest_is (λ placed. part_cost_of seq (filled placed)) first more

placed_has_one_more : (seq : Sequence) (s : ℕ) (l : List ℕ) (ls : List (List ℕ)) → HasOneMore s (l ∷ ls) (with_scalar_placed seq (l ∷ ls) s)
placed_has_one_more seq s l ls = each_has_one_more s (l ∷ ls) _ (one_of seq ((l ++ (s ∷ [])) ∷ ls) (map (λ rest. l ∷ rest) (with_one_more s ls)))

-- the scalars spread so far
pub record IsSpread (k : ℕ) (done : List ℕ) (lists : List (List ℕ)) : Type 0 where
  pub long : length lists ≡ k
  pub same : Permutes done (concat lists)

one_spread : (seq : Sequence) (k : ℕ) (done : List ℕ) (s : ℕ) (lists : List (List ℕ)) → 1 ≤ k → (IsIn s done → ⊥) → IsSpread k done lists → IsSpread k (done ++ (s ∷ [])) (with_scalar_placed seq lists s)
one_spread seq k done s [] some absent h = absurd (omega (arith, some, h.long))
one_spread seq k done s (l ∷ ls) some absent h =
    let more = placed_has_one_more seq s l ls in
    record {
      long = more.long ∙ h.long;
      same = record {
        once = more.once h.same.once (λ i. absent (h.same.of s i));
        of = λ t i. elim (more.of t i) [ inl now ↦ in_back t done (s ∷ []) (inl now) | inr old ↦ in_front t done (s ∷ []) (h.same.of t old) ];
        all = λ t i. elim (in_either t done (s ∷ []) i) [
          | inl old ↦ more.all t (h.same.all t old)
          | inr now ↦ elim now [ inl e ↦ subst (λ v. IsIn v (concat (with_scalar_placed seq (l ∷ ls) s))) (sym e) more.new | inr none ↦ absurd none ]
        ];
      };
    }

pub all_spread : (seq : Sequence) (k : ℕ) (rest done : List ℕ) (lists : List (List ℕ)) → 1 ≤ k → IsOnce (done ++ rest) → IsSpread k done lists → IsSpread k (done ++ rest) (fold (with_scalar_placed seq) lists rest)
all_spread seq k [] done lists some once h = subst (λ d. IsSpread k d lists) (sym (append-nil done)) h
all_spread seq k (s ∷ rest) done lists some once h =
    let regrouped = append_assoc done (s ∷ []) rest in
    let absent : IsIn s done → ⊥ = λ i. (parts_of_once done (s ∷ rest) once).1.1 s i (inl refl)
    in subst (λ d. IsSpread k d (fold (with_scalar_placed seq) (with_scalar_placed seq lists s) rest)) regrouped
    (all_spread seq k rest (done ++ (s ∷ [])) (with_scalar_placed seq lists s) some (subst (λ d. IsOnce d) (sym regrouped) once) (one_spread seq k done s lists some absent h))

pub empty_lists : (k : ℕ) → IsSpread k [] (replicate k [])
empty_lists zero = record { long = refl; same = permutes_itself [] tt }
empty_lists (suc k) = let h = empty_lists k in record { long = ap suc h.long; same = h.same }

pub spread_all : (k : ℕ) (seq : Sequence) → 1 ≤ k → IsSpread k (all_scalars seq) (spread k seq)
spread_all k seq some = all_spread seq k (all_scalars seq) [] (replicate k []) some (once_range 0 seq.scalars) (empty_lists k)

-- without empty lists, and each in a greedy list
abbrev is_some_list : List ℕ → Bool
is_some_list list = not (is_empty list)

pub without_empty : (lists : List (List ℕ)) → concat (filter is_some_list lists) ≡ concat lists
without_empty [] = refl
without_empty ([] ∷ ls) = without_empty ls
without_empty ((s ∷ ss) ∷ ls) = ap (λ rest. (s ∷ ss) ++ rest) (without_empty ls)

fewer : (lists : List (List ℕ)) → length (filter is_some_list lists) ≤ length lists
fewer [] = omega arith
fewer ([] ∷ ls) = omega (arith, fewer ls)
fewer ((s ∷ ss) ∷ ls) = omega (arith, fewer ls)

each_greedy : (seq : Sequence) (lists : List (List ℕ)) → IsOnce (concat lists) → Permutes (concat lists) (concat (map (greedy_list seq) lists))
each_greedy seq [] once = permutes_itself [] tt
each_greedy seq (l ∷ ls) once =
    let parts = parts_of_once l (concat ls) once in
    let first = greedy_permutes seq l parts.0 in
    let rest = each_greedy seq ls parts.1.0 in
    record {
      once = once_append (greedy_list seq l) (concat (map (greedy_list seq) ls)) first.once rest.once (λ s i j. parts.1.1 s (first.of s i) (rest.of s j));
      of = λ s i. elim (in_either s (greedy_list seq l) (concat (map (greedy_list seq) ls)) i) [ inl h ↦ in_front s l (concat ls) (first.of s h) | inr h ↦ in_back s l (concat ls) (rest.of s h) ];
      all = λ s i. elim (in_either s l (concat ls) i) [ inl h ↦ in_front s (greedy_list seq l) _ (first.all s h) | inr h ↦ in_back s (greedy_list seq l) _ (rest.all s h) ];
    }

-- a list with an element isn't empty
pub has_some : (s : ℕ) (list : List ℕ) → IsIn s list → is_empty list ≡ false
has_some s [] i = absurd i
has_some s (t ∷ ts) i = refl

some_greedy : (seq : Sequence) (list : List ℕ) → IsOnce list → is_empty list ≡ false → is_empty (greedy_list seq list) ≡ false
some_greedy seq [] once some = absurd (both_ways true some refl)
some_greedy seq (s ∷ ss) once some = has_some s (greedy_list seq (s ∷ ss)) ((greedy_permutes seq (s ∷ ss) once).all s (inl refl))

once_among : (list : List ℕ) (lists : List (List ℕ)) → IsOnce (concat lists) → IsIn list lists → IsOnce list
once_among list [] once i = absurd i
once_among list (l ∷ ls) once (inl same) = subst (λ v. IsOnce v) (sym same) (parts_of_once l (concat ls) once).0
once_among list (l ∷ ls) once (inr i) = once_among list ls (parts_of_once l (concat ls) once).1.0 i

-- what makes an arrangement
pub at_place : {X : Type 0} (xs : List X) (k : ℕ) (d : X) → k < length xs → IsIn (slice_index_or xs k d) xs
at_place [] k d lt = absurd (omega (arith, lt))
at_place (x ∷ xs) zero d lt = inl refl
at_place (x ∷ xs) (suc k) d lt = inr (at_place xs k d (omega (arith, lt)))

sum_of_length : (xs : List ℕ) → sum_by (λ s. 1) xs ≡ length xs
sum_of_length [] = refl
sum_of_length (x ∷ xs) = omega (arith, sum_by-cons (λ s. 1) x xs, sum_of_length xs)

not_none : (list : List ℕ) → is_empty list ≡ false → 1 ≤ length list
not_none [] e = absurd (both_ways true e refl)
not_none (s ∷ ss) e = omega arith

pub arranges_from : (count : ℕ) (lists : List (List ℕ)) → count ≤ 64 → ((list : List ℕ) → IsIn list lists → is_empty list ≡ false) → Permutes (range_with_len 0 count) (concat lists) → Arranges count lists
arranges_from count lists few some same =
    let range = range_with_len 0 count in
    let up = sum_within (λ s. 1) (concat lists) range same.once same.of in
    let down = sum_within (λ s. 1) range (concat lists) (once_range 0 count) same.all in
    record {
      few = few;
      some = λ k d lt. not_none (slice_index_or lists k d) (some (slice_index_or lists k d) (at_place lists k d lt));
      all = omega (arith, up, down, sum_of_length (concat lists), sum_of_length range, length-range_with_len 0 count);
      once = λ s lt.
          let one = one_picked (λ t. t == s) s (concat lists) (λ t e. eqb-true t s e) same.once in
          let some = at_least_one (concat lists) s (same.all s (in_range s 0 count (omega arith) (omega (arith, lt))))
          in omega (arith, one, some);
    }

-- the three layouts
pub spread_arranged : (k : ℕ) (seq : Sequence) → IsSequence seq → 1 ≤ k → IsArranged seq k (map (greedy_list seq) (filter is_some_list (spread k seq)))
spread_arranged k seq sequence some =
    let h = spread_all k seq some in
    let lists = filter is_some_list (spread k seq) in
    let kept = without_empty (spread k seq) in
    let once : IsOnce (concat lists) = subst (λ list. IsOnce list) (sym kept) h.same.once in
    let greedy = each_greedy seq lists once in
    record {
      arranges = arranges_from seq.scalars (map (greedy_list seq) lists) sequence.few
          (λ list i. let o = of_map (greedy_list seq) list lists i in subst (λ v. is_empty v ≡ false) (sym o.is)
          (some_greedy seq o.from (once_among o.from lists once o.inside) (not-true _ (of_filter is_some_list o.from (spread k seq) o.inside).1)))
          (record {
            once = greedy.once;
            of = λ s i. h.same.of s (subst (λ list. IsIn s list) kept (greedy.of s i));
            all = λ s i. greedy.all s (subst (λ list. IsIn s list) (sym kept) (h.same.all s i));
          });
      few = omega (arith, length-map lists (greedy_list seq), fewer (spread k seq), h.long);
    }

pub one_list_arranged : (k : ℕ) (seq : Sequence) (list : List ℕ) → IsSequence seq → 1 ≤ k → 1 ≤ seq.scalars → Permutes (all_scalars seq) list → IsArranged seq k (list ∷ [])
one_list_arranged k seq list sequence some scalars same =
    let whole : list ++ [] ≡ list = append-nil list in
    record {
      arranges = arranges_from seq.scalars (list ∷ []) sequence.few
          (λ l i. elim i [ inl e ↦ subst (λ v. is_empty v ≡ false) (sym e) (has_some 0 list (same.all 0 (in_range 0 0 seq.scalars (omega arith) (omega (arith, scalars))))) | inr none ↦ absurd none ])
          (subst (λ l. Permutes (all_scalars seq) l) (sym whole) same);
      few = omega (arith, some);
    }

-- without scalars the first one stays
pub cheapest_stays : {X : Type 0} (cost : X → ℕ) (x : X) (more : List X) → ((z : X) → cost x ≤ cost z) → cheapest cost x more ≡ x
cheapest_stays cost x [] h = refl
cheapest_stays {X} cost x (y ∷ ys) h =
    let kept : (if nat_lt (cost y) (cost x) then y else x) ≡ x = cond-false (nat_lt (cost y) (cost x)) y x (le-ltb (cost y) (cost x) (h y))
    in ap (λ z. cheapest cost z ys) kept ∙ cheapest_stays cost x ys h

pub start_arranged : (k : ℕ) (seq : Sequence) → IsSequence seq → 1 ≤ k → IsArranged seq k (starting_lists k seq)
start_arranged k seq sequence some = elim (Rattle.std.proofs.lemmas.Bool.cases_lt 0 seq.scalars) [
  | inl scalars ↦ elim (cheapest_is (arranged_cost seq) first (second ∷ third ∷ [])) [
    | inl is ↦ subst (λ lists. IsArranged seq k lists) (sym is) (spread_arranged k seq sequence some)
    | inr i ↦ elim i [
      | inl is ↦ subst (λ lists. IsArranged seq k lists) (sym is) (one_list_arranged k seq _ sequence some scalars (greedy_permutes seq (all_scalars seq) (once_range 0 seq.scalars)))
      | inr j ↦ elim j [
        | inl is ↦ subst (λ lists. IsArranged seq k lists) (sym is) (one_list_arranged k seq _ sequence some scalars (permutes_itself (all_scalars seq) (once_range 0 seq.scalars)))
        | inr none ↦ absurd none
      ]
    ]
  ]
  | inr none ↦
      let nothing : (lists : List (List ℕ)) → arranged_cost seq lists ≡ 0 = λ lists. costs_nothing seq lists sequence (omega (arith, none)) in
      let stays = cheapest_stays (arranged_cost seq) first (second ∷ third ∷ []) (λ z. omega (arith, nothing first, nothing z))
      in subst (λ lists. IsArranged seq k lists) (sym stays) (spread_arranged k seq sequence some)
]
  where
    first : List (List ℕ)
    first = map (greedy_list seq) (filter is_some_list (spread k seq))

    second : List (List ℕ)
    second = greedy_list seq (all_scalars seq) ∷ []

    third : List (List ℕ)
    third = all_scalars seq ∷ []
