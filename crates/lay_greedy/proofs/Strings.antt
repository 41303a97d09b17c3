-- The string of some lists has these lists.
use Rattle.std.proofs.Common.{◌≡◌, ◌≢◌, ◌<◌, ◌≤◌, ◌+◌, ◌-◌, ◌∙◌, ◌++◌, ℕ, suc, List, [], ◌∷◌, Bool, true, false, cond, refl, length, get_or, fold, ap, sym, subst, inl, inr, arith, append_assoc, append-nil, length-append}
use Rattle.std.specs.Prelude.{◌==◌, All, slice_index}
use Rattle.std.specs.List.{concat, slice_split, onto_first}
use Rattle.std.proofs.lemmas.Bool.{cases_lt, cases_eq, ne_eqb}
use Rattle.std.proofs.lemmas.List.{get_or_append_left, get_or-append_right}
use Rattle.std.proofs.lemmas.List.Elements.{All-head, All-tail, All-nil, All-cons, All-weaker, All-get_or}
use Rattle.std.proofs.lemmas.List.Splits.{slice_split_none}
use Rattle.lay_cost.specs.Parts.{close, lists_of, StandOnce, IsString}
use Rattle.lay_tree.specs.Greedy.{filled}
use Rattle.lay_tree.proofs.StartLists.{without_empty}
use Rattle.lay_greedy.specs.Spread.{with_list, string_of}

abbrev IsSmall : ℕ → Type 0
IsSmall s = s < 64

abbrev closes : ℕ → Bool
closes c = c == close

-- a split has a first part
record HasFirst (ls : List (List ℕ)) : Type 0 where
  first : List ℕ
  rest : List (List ℕ)
  is : ls ≡ first ∷ rest

split_first : (xs : List ℕ) → HasFirst (slice_split closes xs)
split_first [] = record { first = []; rest = []; is = refl }
split_first (x ∷ xs) = by (closes x) (split_first xs)
  where
    by : (t : Bool) → HasFirst (slice_split closes xs) → HasFirst (cond t ([] ∷ slice_split closes xs) (onto_first x (slice_split closes xs)))
    by true h = record { first = []; rest = slice_split closes xs; is = refl }
    by false h = record { first = x ∷ h.first; rest = h.rest; is = ap (onto_first x) h.is }

first_onto : (x : ℕ) (front back : List (List ℕ)) → HasFirst front → onto_first x (front ++ back) ≡ onto_first x front ++ back
first_onto x front back h = subst (λ ls. onto_first x (ls ++ back) ≡ onto_first x ls ++ back) (sym h.is) refl

-- a close parts the lists before it from those behind it
split_at_close : (xs ys : List ℕ) → lists_of (xs ++ (close ∷ ys)) ≡ lists_of xs ++ lists_of ys
split_at_close [] ys = refl
split_at_close (x ∷ xs) ys = by (closes x) (split_first xs) (split_at_close xs ys)
  where
    by : (t : Bool) → HasFirst (lists_of xs) → lists_of (xs ++ (close ∷ ys)) ≡ lists_of xs ++ lists_of ys → cond t ([] ∷ lists_of (xs ++ (close ∷ ys))) (onto_first x (lists_of (xs ++ (close ∷ ys)))) ≡ cond t ([] ∷ lists_of xs) (onto_first x (lists_of xs)) ++ lists_of ys
    by true h e = ap (λ ls. [] ∷ ls) e
    by false h e = ap (onto_first x) e ∙ first_onto x (lists_of xs) (lists_of ys) h

small_no_close : (s : ℕ) → s < 64 → closes s ≡ false
small_no_close s lt = ne_eqb s close (λ e. absurd (omega (arith, e, lt)))

one_list : (list : List ℕ) → All IsSmall list → lists_of list ≡ list ∷ []
one_list list all = slice_split_none closes list (All-weaker IsSmall (λ s. closes s ≡ false) small_no_close list all)

-- a string that ends with a scalar, where each close stands directly behind one
record IsTidy (string : List ℕ) : Type 0 where
  some : 1 ≤ length string
  ends : slice_index string (length string - 1) ≢ close
  behind : (i : ℕ) → i < length string → slice_index string i ≡ close → (1 ≤ i) × (slice_index string (i - 1) ≢ close)

small_at : (list : List ℕ) (i : ℕ) → All IsSmall list → i < length list → slice_index list i ≢ close
small_at list i all lt e = let small = All-get_or IsSmall list i 0 lt all in absurd (omega (arith, e, small))

tidy_list : (x : ℕ) (xs : List ℕ) → All IsSmall (x ∷ xs) → IsTidy (x ∷ xs)
tidy_list x xs all = record {
  some = omega arith;
  ends = small_at (x ∷ xs) (length (x ∷ xs) - 1) all (omega arith);
  behind = λ i lt e. absurd (small_at (x ∷ xs) i all lt e);
}

tidy_more : (string : List ℕ) (x : ℕ) (xs : List ℕ) → All IsSmall (x ∷ xs) → IsTidy string → IsTidy (string ++ (close ∷ x ∷ xs))
tidy_more string x xs all h = record {
  some = omega (arith, length-append string (close ∷ x ∷ xs));
  ends = λ e. later (length string + suc (length xs)) (omega arith) (omega arith) (sym (ap (slice_index (string ++ (close ∷ x ∷ xs))) (omega (arith, length-append string (close ∷ x ∷ xs)))) ∙ e);
  behind = λ i lt e. elim (cases_lt i (length string)) [
    | inl before ↦
        let b = h.behind i before (sym (get_or_append_left string (close ∷ x ∷ xs) 0 i before) ∙ e) in
        let lower : i - 1 < length string = omega (arith, before) in
        (b.0, λ f. b.1 (sym (get_or_append_left string (close ∷ x ∷ xs) 0 (i - 1) lower) ∙ f))
    | inr not_before ↦ elim (cases_eq i (length string)) [
      | inl here ↦
          let lower : i - 1 < length string = omega (arith, here, h.some) in
          (omega (arith, here, h.some), λ f. h.ends (ap (slice_index string) (omega (arith, here)) ∙ (sym (get_or_append_left string (close ∷ x ∷ xs) 0 (i - 1) lower) ∙ f)))
      | inr behind ↦ absurd (later i (omega (arith, not_before, behind)) (omega (arith, lt, length-append string (close ∷ x ∷ xs))) e)
    ]
  ];
}
  where
    later : (i : ℕ) → length string < i → i < length string + suc (suc (length xs)) → slice_index (string ++ (close ∷ x ∷ xs)) i ≢ close
    later i low high e =
        let at : slice_index (string ++ (close ∷ x ∷ xs)) i ≡ get_or (close ∷ x ∷ xs) (i - length string) 0 = get_or-append_right string (close ∷ x ∷ xs) (length string) i 0 refl (omega (arith, low)) in
        let next : i - length string ≡ suc (i - length string - 1) = omega (arith, low)
        in small_at (x ∷ xs) (i - length string - 1) all (omega (arith, low, high)) (sym (at ∙ ap (λ k. get_or (close ∷ x ∷ xs) k 0) next) ∙ e)

-- a string so far, and the lists that it has
record HasLists (string : List ℕ) (lists : List (List ℕ)) : Type 0 where
  tidy : IsTidy string
  are : lists_of string ≡ lists

head_of : (P : ℕ → Type 0) (xs ys : List ℕ) → All P (xs ++ ys) → All P xs
head_of P [] ys all = All-nil P
head_of P (x ∷ xs) ys all = All-cons P x xs (All-head P x (xs ++ ys) all) (head_of P xs ys (All-tail P x (xs ++ ys) all))

tail_of : (P : ℕ → Type 0) (xs ys : List ℕ) → All P (xs ++ ys) → All P ys
tail_of P [] ys all = all
tail_of P (x ∷ xs) ys all = tail_of P xs ys (All-tail P x (xs ++ ys) all)

later_lists : (s : ℕ) (ss : List ℕ) (front lists : List (List ℕ)) → All IsSmall (concat lists) → HasLists (s ∷ ss) front → HasLists (fold with_list (s ∷ ss) lists) (front ++ filled lists)
later_lists s ss front [] all h = subst (λ ls. HasLists (s ∷ ss) ls) (sym (append-nil front)) h
later_lists s ss front ([] ∷ ls) all h = later_lists s ss front ls all h
later_lists s ss front ((x ∷ xs) ∷ ls) all h =
    let small = head_of IsSmall (x ∷ xs) (concat ls) all in
    let next : HasLists ((s ∷ ss) ++ (close ∷ x ∷ xs)) (front ++ ((x ∷ xs) ∷ [])) = record {
      tidy = tidy_more (s ∷ ss) x xs small h.tidy;
      are = split_at_close (s ∷ ss) (x ∷ xs) ∙ (ap (λ ls. ls ++ lists_of (x ∷ xs)) h.are ∙ ap (λ ls. front ++ ls) (one_list (x ∷ xs) small));
    } in
    subst (λ all_lists. HasLists (fold with_list ((s ∷ ss) ++ (close ∷ x ∷ xs)) ls) all_lists) (append_assoc front ((x ∷ xs) ∷ []) (filled ls))
    (later_lists s (ss ++ (close ∷ x ∷ xs)) (front ++ ((x ∷ xs) ∷ [])) ls (tail_of IsSmall (x ∷ xs) (concat ls) all) next)

has_lists : (lists : List (List ℕ)) → All IsSmall (concat lists) → 1 ≤ length (concat lists) → HasLists (string_of lists) (filled lists)
has_lists [] all some = absurd (omega (arith, some))
has_lists ([] ∷ ls) all some = has_lists ls all some
has_lists ((x ∷ xs) ∷ ls) all some =
    let small = head_of IsSmall (x ∷ xs) (concat ls) all
    in later_lists x xs ((x ∷ xs) ∷ []) ls (tail_of IsSmall (x ∷ xs) (concat ls) all) (record { tidy = tidy_list x xs small; are = one_list (x ∷ xs) small })

pub string_lists : (lists : List (List ℕ)) → All (λ s. s < 64) (concat lists) → 1 ≤ length (concat lists) → lists_of (string_of lists) ≡ filled lists
string_lists lists all some = (has_lists lists all some).are

pub string_is : (scalars : ℕ) (lists : List (List ℕ)) → scalars ≤ 64 → All (λ s. s < scalars) (concat lists) → 1 ≤ length (concat lists) → StandOnce (concat lists) → IsString scalars (string_of lists)
string_is scalars lists few all some once =
    let h = has_lists lists (All-weaker (λ s. s < scalars) IsSmall (λ s lt. omega (arith, lt, few)) (concat lists) all) some in
    let same : concat (lists_of (string_of lists)) ≡ concat lists = ap concat h.are ∙ without_empty lists in
    record {
      few = subst (λ xs. All (λ s. s < scalars) xs) (sym same) all;
      once = subst (λ xs. StandOnce xs) (sym same) once;
      closes = h.tidy.behind;
    }
