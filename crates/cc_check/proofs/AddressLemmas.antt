-- The table that lists of scalars make has the address of each scalar.
use Rattle.std.proofs.Common.{◌≡◌, ℕ, suc, ◌+◌, ◌<◌, Bool, true, false, ◌||◌, ◌==◌, List, [], ◌∷◌, ◌++◌, length, set, count_by, slice_index, get_or, drop, replicate, refl, ap, ap₂, sym, ◌∙◌, ◌≤◌, arith, if◌then◌else◌, true≢false, eq-eqb, eqb-true}
use Rattle.std.specs.Prelude.{All}
use Rattle.std.specs.List.{concat}
use Rattle.std.proofs.lemmas.Bool.{or_parts, both_ways}
use Rattle.std.proofs.lemmas.List.{length-set, get_or-set_same, get_or-set_other, at_drop_more, drop_all}
use Rattle.std.proofs.lemmas.List.Elements.{All-head, All-tail}
use Rattle.std.proofs.lemmas.List.Folds.{list_any-append}
use Rattle.std.proofs.lemmas.List.Sums.{sum_by-append}
use Rattle.lay_model.specs.Arrangements.{Arranges}
use Rattle.lay_cost.specs.Placements.{has, list_of, place_in, position_in}
use Rattle.lay_cost.specs.Parts.{StandOnce}
use Rattle.lay_cost.proofs.Arranged.{scalar_there, once_at_most, small_lists}
use Rattle.lay_cost.proofs.Counts.{not_there, count_first, count_cons}
use Rattle.lay_cost.proofs.Listed.{counted}
use Rattle.lay_cost.proofs.PlaceLemmas.{apart_of}
use Rattle.lay_cert.specs.Frames.{Frame}
use Rattle.cc_check.specs.Findings.{address_of}
use Rattle.cc_check.specs.Memory.{with_list, with_lists}

abbrev AreSmall : List ℕ → Type 0
AreSmall list = All (λ s. s < 64) list

-- other scalars stay where they are
list_others : (table : List ℕ) (base : ℕ) (list : List ℕ) (s : ℕ) → has list s ≡ false → slice_index (with_list table base list) s ≡ slice_index table s
list_others table base [] s e = refl
list_others table base (x ∷ xs) s e =
    let parts = or_parts (x == s) (has xs s) e in
    list_others (set table x base) (base + 1) xs s parts.1 ∙ get_or-set_other table x s base 0 (λ same. both_ways (x == s) parts.0 (eq-eqb x s (sym same)))

pub list_length : (table : List ℕ) (base : ℕ) (list : List ℕ) → length (with_list table base list) ≡ length table
list_length table base [] = refl
list_length table base (x ∷ xs) = list_length (set table x base) (base + 1) xs ∙ length-set table x base

-- behind the first of its scalars a list has each once at most too
once_behind : (x : ℕ) (xs : List ℕ) → StandOnce (x ∷ xs) → StandOnce xs
once_behind x xs once s = omega (arith, once s, count_cons (λ t. t == s) x xs)

list_places : (table : List ℕ) (base : ℕ) (list : List ℕ) (s : ℕ) → AreSmall list → length table ≡ 64 → StandOnce list → has list s ≡ true → slice_index (with_list table base list) s ≡ base + position_in list s
list_places table base [] s small size once e = absurd (true≢false (sym e))
list_places table base (x ∷ xs) s small size once e = by (x == s) refl (list_places (set table x base) (base + 1) xs s (All-tail (λ t. t < 64) x xs small) (length-set table x base ∙ size) (once_behind x xs once))
  where
    first : x ≡ s → slice_index (with_list (set table x base) (base + 1) xs) s ≡ base
    first same =
        list_others (set table x base) (base + 1) xs s (not_there s xs (omega (arith, once s, count_first (λ t. t == s) x xs true (eq-eqb x s same))))
        ∙ ap (slice_index (set table x base)) (sym same)
        ∙ get_or-set_same table x base 0 (omega (arith, size, All-head (λ t. t < 64) x xs small))

    by : (t : Bool) → (x == s) ≡ t → (has xs s ≡ true → slice_index (with_list (set table x base) (base + 1) xs) s ≡ base + 1 + position_in xs s) → slice_index (with_list (set table x base) (base + 1) xs) s ≡ base + (if t then 0 else suc (position_in xs s))
    by true is rest = omega (arith, first (eqb-true x s is))
    by false is rest = let later : has xs s ≡ true = ap (λ b. b || has xs s) (sym is) ∙ e in omega (arith, rest later)

-- lists of other scalars leave one where it is
lists_others : (table bases : List ℕ) (lists : List (List ℕ)) (s : ℕ) → has (concat lists) s ≡ false → slice_index (with_lists table bases lists) s ≡ slice_index table s
lists_others table [] lists s e = refl
lists_others table (b ∷ bs) [] s e = refl
lists_others table (b ∷ bs) (l ∷ ls) s e =
    let parts = apart_of l (concat ls) s e in
    lists_others (with_list table b l) bs ls s parts.1 ∙ list_others table b l s parts.0

lists_place : (table bases : List ℕ) (lists : List (List ℕ)) (s : ℕ) → All AreSmall lists → length table ≡ 64 → StandOnce (concat lists) → length bases ≡ length lists → has (concat lists) s ≡ true → slice_index (with_lists table bases lists) s ≡ slice_index bases (list_of lists s) + place_in lists s
lists_place table [] [] s small size once based e = absurd (true≢false (sym e))
lists_place table [] (l ∷ ls) s small size once based e = absurd (omega (arith, based))
lists_place table (b ∷ bs) [] s small size once based e = absurd (omega (arith, based))
lists_place table (b ∷ bs) (l ∷ ls) s small size once based e = by (has l s) refl (lists_place (with_list table b l) bs ls s (All-tail AreSmall l ls small) (list_length table b l ∙ size) once_last (omega (arith, based)))
  where
    parts : (t : ℕ) → count_by (λ x. x == t) (l ++ concat ls) ≡ count_by (λ x. x == t) l + count_by (λ x. x == t) (concat ls)
    parts t = sum_by-append (λ x. if x == t then 1 else 0) l (concat ls)

    once_first : StandOnce l
    once_first t = omega (arith, once t, parts t)

    once_last : StandOnce (concat ls)
    once_last t = omega (arith, once t, parts t)

    first : has l s ≡ true → slice_index (with_lists (with_list table b l) bs ls) s ≡ b + position_in l s
    first here =
        lists_others (with_list table b l) bs ls s (not_there s (concat ls) (omega (arith, once s, parts s, counted l s here)))
        ∙ list_places table b l s (All-head AreSmall l ls small) size once_first here

    by : (t : Bool) → has l s ≡ t → (has (concat ls) s ≡ true → slice_index (with_lists (with_list table b l) bs ls) s ≡ slice_index bs (list_of ls s) + place_in ls s) → slice_index (with_lists (with_list table b l) bs ls) s ≡ slice_index (b ∷ bs) (if t then 0 else suc (list_of ls s)) + (if t then position_in l s else place_in ls s)
    by true is rest = first is
    by false is rest = rest (ap (λ c. c || has (concat ls) s) (sym is) ∙ sym (list_any-append (λ x. x == s) l (concat ls)) ∙ e)

-- one list more
pub lists_more : (table bases : List ℕ) (lists : List (List ℕ)) (i base : ℕ) (item xs new : List ℕ) → i < length bases → i < length lists → base ≡ get_or bases i 0 → item ≡ get_or lists i item → xs ≡ item → new ≡ with_list table base xs
    → with_lists new (drop (i + 1) bases) (drop (i + 1) lists) ≡ with_lists table (drop i bases) (drop i lists)
lists_more table bases lists i base item xs new l m is_base is same added =
    let bs = drop (i + 1) bases in
    let ls = drop (i + 1) lists in
    ap (λ t. with_lists t bs ls) added
    ∙ ap₂ (λ b k. with_lists (with_list table b k) bs ls) is_base (same ∙ is)
    ∙ sym (at_drop_more (λ all. with_lists table all (drop i lists)) bases i 0 l ∙ at_drop_more (with_lists table (get_or bases i 0 ∷ bs)) lists i item m)

pub lists_end : (table bases : List ℕ) (lists : List (List ℕ)) (i : ℕ) → length bases ≤ i → table ≡ with_lists table (drop i bases) (drop i lists)
lists_end table bases lists i le = sym (ap (λ bs. with_lists table bs (drop i lists)) (drop_all i bases le))

-- the table of a frame
pub table_is : (f : Frame) (table bases : List ℕ) (lists : List (List ℕ)) → bases ≡ f.bases → lists ≡ f.arr → Arranges f.seq.scalars lists → length bases ≡ length lists → table ≡ with_lists (replicate 64 0) bases lists
    → (s : ℕ) → s < f.seq.scalars → slice_index table s ≡ address_of f s
table_is f table bases lists is_bases is_arr arranges based is s lt =
    ap (λ t. slice_index t s) is
    ∙ lists_place (replicate 64 0) bases lists s (small_lists f.seq.scalars lists arranges) refl (once_at_most f.seq.scalars lists arranges) based (scalar_there f.seq.scalars lists s arranges lt)
    ∙ ap₂ (λ bs ls. slice_index bs (list_of ls s) + place_in ls s) is_bases is_arr
