-- Strings of scalars and closes, one sign more at a time.
use Rattle.std.proofs.Common.{◌≡◌, ◌≢◌, ℕ, zero, suc, ◌-◌, ◌<◌, ◌≤◌, Bool, true, false, cond, not, List, [], ◌∷◌, ◌++◌, fold, length, refl, ap, sym, subst, ◌∙◌, arith, inl, inr, append-nil, append_assoc, ne_eqb, eq-eqb, length-append}
use Rattle.std.specs.Prelude.{◌==◌, ◌⊎◌, All, count_by, slice_index}
use Rattle.std.specs.List.{concat, slice_split, onto_first}
use Rattle.std.proofs.lemmas.Bool.{both_ways, cases_eq}
use Rattle.std.proofs.lemmas.List.{get_or_append_left, get_or_push}
use Rattle.std.proofs.lemmas.List.Elements.{filter-append, All-push, All-weaker}
use Rattle.std.proofs.lemmas.List.Sums.{fold_push, sum_by_push}
use Rattle.lay_cost.specs.Placements.{has}
use Rattle.lay_cost.specs.Parts.{Node, node_lists, close, lists_of, IsString}
use Rattle.lay_cost.proofs.Strings.{scalars_in, concat_lists_of}
use Rattle.lay_cost.proofs.Counts.{is_there}
use Rattle.lay_tree.specs.Tree.{root, with_scalar, with_close, is_empty}
use Rattle.lay_node.specs.Strings.{with_sign, node_of}

pub no_close : (l : List ℕ) → All (λ s. s < 64) l → All (λ s. (s == close) ≡ false) l
no_close l all = All-weaker (λ s. s < 64) (λ s. (s == close) ≡ false) (λ s lt. ne_eqb s close (λ e. absurd (omega (arith, e, lt)))) l all

-- the lists of a string are those of its node
abbrev onto : List ℕ → List (List ℕ) → List (List ℕ)
onto l [] = l ∷ []
onto l (k ∷ ks) = (l ++ k) ∷ ks

onto_more : (l : List ℕ) (x : ℕ) (ls : List (List ℕ)) → onto (l ++ (x ∷ [])) ls ≡ onto l (onto_first x ls)
onto_more l x [] = refl
onto_more l x (k ∷ ks) = ap (λ m. m ∷ ks) (append_assoc l (x ∷ []) k)

record IsSome (ls : List (List ℕ)) : Type 0 where
  first : List ℕ
  rest : List (List ℕ)
  is : ls ≡ first ∷ rest

split_some : (p : ℕ → Bool) (xs : List ℕ) → IsSome (slice_split p xs)
split_some p [] = record { first = []; rest = []; is = refl }
split_some p (x ∷ xs) = by (p x) (split_some p xs)
  where
    by : (b : Bool) → IsSome (slice_split p xs) → IsSome (cond b ([] ∷ slice_split p xs) (onto_first x (slice_split p xs)))
    by true h = record { first = []; rest = slice_split p xs; is = refl }
    by false h = record { first = x ∷ h.first; rest = h.rest; is = ap (onto_first x) h.is }

onto_none : (ls : List (List ℕ)) → IsSome ls → onto [] ls ≡ ls
onto_none ls h = subst (λ ks. onto [] ks ≡ ks) (sym h.is) refl

lists_from : (n : Node) (xs : List ℕ) → node_lists (fold with_sign n xs) ≡ n.closed ++ onto n.open_list (lists_of xs)
lists_from n [] = ap (λ l. n.closed ++ (l ∷ [])) (sym (append-nil n.open_list))
lists_from n (x ∷ xs) = by (x == close) (lists_from (with_close n) xs) (lists_from (with_scalar n x) xs)
  where
    by : (b : Bool) → node_lists (fold with_sign (with_close n) xs) ≡ (n.closed ++ (n.open_list ∷ [])) ++ onto [] (lists_of xs)
        → node_lists (fold with_sign (with_scalar n x) xs) ≡ n.closed ++ onto (n.open_list ++ (x ∷ [])) (lists_of xs)
        → node_lists (fold with_sign (cond b (with_close n) (with_scalar n x)) xs) ≡ n.closed ++ onto n.open_list (cond b ([] ∷ lists_of xs) (onto_first x (lists_of xs)))
    by true c s =
        c ∙ ap (λ ls. (n.closed ++ (n.open_list ∷ [])) ++ ls) (onto_none (lists_of xs) (split_some (λ d. d == close) xs))
        ∙ append_assoc n.closed (n.open_list ∷ []) (lists_of xs) ∙ ap (λ l. n.closed ++ (l ∷ lists_of xs)) (sym (append-nil n.open_list))
    by false c s = s ∙ ap (λ ls. n.closed ++ ls) (onto_more n.open_list x (lists_of xs))

pub lists_are : (string : List ℕ) → lists_of string ≡ node_lists (node_of string)
lists_are string = sym (lists_from root string ∙ onto_none (lists_of string) (split_some (λ d. d == close) string))

pub node_push : (string : List ℕ) (sign : ℕ) → node_of (string ++ (sign ∷ [])) ≡ with_sign (node_of string) sign
node_push string sign = fold_push with_sign root string sign

pub node_scalar : (string : List ℕ) (s : ℕ) → s < 64 → node_of (string ++ (s ∷ [])) ≡ with_scalar (node_of string) s
node_scalar string s lt =
    let no : (s == close) ≡ false = ne_eqb s close (λ e. absurd (omega (arith, e, lt))) in
    node_push string s ∙ ap (λ b. cond b (with_close (node_of string)) (with_scalar (node_of string) s)) no

pub node_close : (string : List ℕ) → node_of (string ++ (close ∷ [])) ≡ with_close (node_of string)
node_close string = node_push string close

-- one more scalar
scalars_push : (string : List ℕ) (s : ℕ) → s < 64 → scalars_in (string ++ (s ∷ [])) ≡ scalars_in string ++ (s ∷ [])
scalars_push string s lt =
    let no : (s == close) ≡ false = ne_eqb s close (λ e. absurd (omega (arith, e, lt))) in
    filter-append (λ c. not (c == close)) string (s ∷ []) ∙ ap (λ b. scalars_in string ++ cond (not b) (s ∷ []) []) no

scalars_push_close : (string : List ℕ) → scalars_in (string ++ (close ∷ [])) ≡ scalars_in string
scalars_push_close string = filter-append (λ c. not (c == close)) string (close ∷ []) ∙ append-nil (scalars_in string)

concat_scalar : (string : List ℕ) (s : ℕ) → s < 64 → concat (lists_of (string ++ (s ∷ []))) ≡ concat (lists_of string) ++ (s ∷ [])
concat_scalar string s lt = concat_lists_of (string ++ (s ∷ [])) ∙ scalars_push string s lt ∙ ap (λ l. l ++ (s ∷ [])) (sym (concat_lists_of string))

concat_close : (string : List ℕ) → concat (lists_of (string ++ (close ∷ []))) ≡ concat (lists_of string)
concat_close string = concat_lists_of (string ++ (close ∷ [])) ∙ scalars_push_close string ∙ sym (concat_lists_of string)

not_counted : (s : ℕ) (xs : List ℕ) → has xs s ≡ false → count_by (λ t. t == s) xs ≡ 0
not_counted s xs e = by (count_by (λ t. t == s) xs) (is_there s xs)
  where
    by : (c : ℕ) → (1 ≤ c → has xs s ≡ true) → c ≡ 0
    by zero h = refl
    by (suc c) h = absurd (both_ways (has xs s) e (h (omega arith)))

abbrev ClosesBehind : List ℕ → Type 0
ClosesBehind string = (i : ℕ) → i < length string → slice_index string i ≡ close → (1 ≤ i) × (slice_index string (i - 1) ≢ close)

closes_push : (string : List ℕ) (sign : ℕ) → ClosesBehind string → (sign ≡ close → (1 ≤ length string) × (slice_index string (length string - 1) ≢ close)) → ClosesBehind (string ++ (sign ∷ []))
closes_push string sign before last i lt is = elim (cases_eq i (length string)) [
  | inl same ↦
      let e : sign ≡ close = sym (get_or_push string sign 0 i (sym same)) ∙ is in
      let h = last e in
      (omega (arith, h.0, same), λ again. h.1 (sym (get_or_append_left string (sign ∷ []) 0 (length string - 1) (omega (arith, h.0))) ∙ ap (λ j. slice_index (string ++ (sign ∷ [])) (j - 1)) (sym same) ∙ again))
  | inr differ ↦
      let less : i < length string = omega (arith, lt, differ, length-append string (sign ∷ [])) in
      let h = before i less (sym (get_or_append_left string (sign ∷ []) 0 i less) ∙ is) in
      (h.0, λ again. h.1 (sym (get_or_append_left string (sign ∷ []) 0 (i - 1) (omega (arith, less))) ∙ again))
]

pub push_string : (n : ℕ) (string : List ℕ) (s : ℕ) → n ≤ 64 → IsString n string → s < n → has (concat (node_lists (node_of string))) s ≡ false → IsString n (string ++ (s ∷ []))
push_string n string s few h lt lacks =
    let small : s < 64 = omega (arith, lt, few) in
    let all = concat_scalar string s small in
    let out : has (concat (lists_of string)) s ≡ false = ap (λ ls. has (concat ls) s) (lists_are string) ∙ lacks in
    record {
      few = subst (λ xs. All (λ t. t < n) xs) (sym all) (All-push (λ t. t < n) (concat (lists_of string)) s h.few lt);
      once = λ t. subst (λ xs. count_by (λ x. x == t) xs ≤ 1) (sym all) (elim (cases_eq s t) [
        | inl same ↦ omega (arith, sum_by_push (λ x. cond (x == t) 1 0) (concat (lists_of string)) s, not_counted t (concat (lists_of string)) (subst (λ u. has (concat (lists_of string)) u ≡ false) same out), bit_le (s == t))
        | inr differ ↦ omega (arith, sum_by_push (λ x. cond (x == t) 1 0) (concat (lists_of string)) s, h.once t, bit_none (s == t) (ne_eqb s t differ))
      ]);
      closes = closes_push string s h.closes (λ e. absurd (omega (arith, e, small)));
    }
  where
    bit_le : (b : Bool) → cond b 1 0 ≤ 1
    bit_le true = omega arith
    bit_le false = omega arith

    bit_none : (b : Bool) → b ≡ false → cond b 1 0 ≤ 0
    bit_none true e = absurd (both_ways true e refl)
    bit_none false e = omega arith

-- where the open list isn't empty, the last sign is a scalar
abbrev EndsInScalar : List ℕ → Type 0
EndsInScalar xs = (1 ≤ length xs) × (slice_index xs (length xs - 1) ≢ close)

ends : (n : Node) (xs : List ℕ) → is_empty (fold with_sign n xs).open_list ≡ false → (xs ≡ []) ⊎ EndsInScalar xs
ends n [] e = inl refl
ends n (x ∷ []) e = inr (omega arith, λ is. both_ways false refl (sym e ∙ ap (λ b. is_empty (cond b (with_close n) (with_scalar n x)).open_list) (eq-eqb x close is)))
ends n (x ∷ y ∷ ys) e = elim (ends (with_sign n x) (y ∷ ys) e) [
  | inl none ↦ absurd (omega (arith, ap length none))
  | inr h ↦ inr (omega arith, λ is. h.1 (ap (λ j. slice_index (x ∷ y ∷ ys) j) (shift (length ys)) ∙ is))
]
  where
    shift : (l : ℕ) → suc (suc l - 1) ≡ suc (suc l) - 1
    shift l = omega arith

pub ends_in_scalar : (string : List ℕ) → is_empty (node_of string).open_list ≡ false → EndsInScalar string
ends_in_scalar string e = elim (ends root string e) [
  | inl none ↦ absurd (both_ways (is_empty (node_of string).open_list) e (ap (λ xs. is_empty (node_of xs).open_list) none))
  | inr h ↦ h
]

pub push_close : (n : ℕ) (string : List ℕ) → IsString n string → is_empty (node_of string).open_list ≡ false → IsString n (string ++ (close ∷ []))
push_close n string h some = record {
  few = subst (λ xs. All (λ t. t < n) xs) (sym (concat_close string)) h.few;
  once = λ t. subst (λ xs. count_by (λ x. x == t) xs ≤ 1) (sym (concat_close string)) (h.once t);
  closes = closes_push string close h.closes (λ _. ends_in_scalar string some);
}
