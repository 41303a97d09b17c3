-- The places of a string's scalars, sign by sign.
use Rattle.std.proofs.Common.{◌≡◌, ◌≢◌, ℕ, suc, ◌+◌, ◌-◌, ◌<◌, ◌≤◌, Bool, true, false, cond, not, nat_lt, ◌==◌, List, [], ◌∷◌, ◌++◌, length, take, drop, filter, count_by, refl, ap, sym, subst, ◌∙◌, arith, if◌then◌else◌, eq-eqb, length-append, lt_of_lt_of_le, lt-ltb}
use Rattle.std.specs.Prelude.{All, slice_index}
use Rattle.std.specs.List.{concat, slice_split, onto_first}
use Rattle.std.proofs.Common.{take-append-drop, drop-cons}
use Rattle.std.proofs.lemmas.List.{take_more, take_all}
use Rattle.std.proofs.lemmas.List.Elements.{filter-append}
use Rattle.std.proofs.lemmas.List.Elements.{All-head, All-nil, All-weaker, All-push}
use Rattle.lay_cost.specs.declared.places.Places.{Places}
use Rattle.lay_cost.specs.Placements.{has}
use Rattle.lay_cost.specs.Parts.{close, lists_of, IsString}
use Rattle.lay_cost.specs.Memory.{with_scalar, with_close, no_places, ArePlaces, AreNear, placed}
use Rattle.lay_cost.proofs.Counts.{count_below_le, count_all}
use Rattle.lay_cost.proofs.PlaceLemmas.{Once, IsTable, Fit, lists_fit, open_fits, push_places, close_places, none_placed, table_near, few_lists, front_lacks, apart_of, concat_push}
use Rattle.lay_cost.proofs.Arranged.{back_of}

-- one more element at the end of the last list
abbrev pub onto_last : ℕ → List (List ℕ) → List (List ℕ)
onto_last c [] = (c ∷ []) ∷ []
onto_last c (l ∷ []) = (l ++ (c ∷ [])) ∷ []
onto_last c (l ∷ k ∷ ks) = l ∷ onto_last c (k ∷ ks)

-- a split has a first part
record HasFirst (ls : List (List ℕ)) : Type 0 where
  first : List ℕ
  rest : List (List ℕ)
  is : ls ≡ first ∷ rest

split_first : (p : ℕ → Bool) (xs : List ℕ) → HasFirst (slice_split p xs)
split_first p [] = record { first = []; rest = []; is = refl }
split_first p (x ∷ xs) = by (p x) (split_first p xs)
  where
    by : (t : Bool) → HasFirst (slice_split p xs) → HasFirst (cond t ([] ∷ slice_split p xs) (onto_first x (slice_split p xs)))
    by true h = record { first = []; rest = slice_split p xs; is = refl }
    by false h = record { first = x ∷ h.first; rest = h.rest; is = ap (onto_first x) h.is }

later_last : (c : ℕ) (l : List ℕ) (ls : List (List ℕ)) → HasFirst ls → onto_last c (l ∷ ls) ≡ l ∷ onto_last c ls
later_last c l ls h = subst (λ ks. onto_last c (l ∷ ks) ≡ l ∷ onto_last c ks) (sym h.is) refl

first_and_last : (x c : ℕ) (f : List ℕ) (r : List (List ℕ)) → onto_first x (onto_last c (f ∷ r)) ≡ onto_last c (onto_first x (f ∷ r))
first_and_last x c f [] = refl
first_and_last x c f (k ∷ ks) = refl

first_onto_last : (x c : ℕ) (ls : List (List ℕ)) → HasFirst ls → onto_first x (onto_last c ls) ≡ onto_last c (onto_first x ls)
first_onto_last x c ls h = subst (λ ks. onto_first x (onto_last c ks) ≡ onto_last c (onto_first x ks)) (sym h.is) (first_and_last x c h.first h.rest)

first_onto_more : (x : ℕ) (ls : List (List ℕ)) → HasFirst ls → onto_first x (ls ++ ([] ∷ [])) ≡ onto_first x ls ++ ([] ∷ [])
first_onto_more x ls h = subst (λ ks. onto_first x (ks ++ ([] ∷ [])) ≡ onto_first x ks ++ ([] ∷ [])) (sym h.is) refl

split_push : (p : ℕ → Bool) (xs : List ℕ) (c : ℕ) (t : Bool) → p c ≡ t → slice_split p (xs ++ (c ∷ [])) ≡ (if t then slice_split p xs ++ ([] ∷ []) else onto_last c (slice_split p xs))
split_push p [] c true e = rw e refl
split_push p [] c false e = rw e refl
split_push p (x ∷ xs) c t e = by (p x) t (split_first p xs) (split_push p xs c t e)
  where
    by : (a t : Bool) → HasFirst (slice_split p xs) → slice_split p (xs ++ (c ∷ [])) ≡ (if t then slice_split p xs ++ ([] ∷ []) else onto_last c (slice_split p xs)) → cond a ([] ∷ slice_split p (xs ++ (c ∷ []))) (onto_first x (slice_split p (xs ++ (c ∷ [])))) ≡ (if t then cond a ([] ∷ slice_split p xs) (onto_first x (slice_split p xs)) ++ ([] ∷ []) else onto_last c (cond a ([] ∷ slice_split p xs) (onto_first x (slice_split p xs))))
    by true true h rest = ap (λ ls. [] ∷ ls) rest
    by true false h rest = ap (λ ls. [] ∷ ls) rest ∙ sym (later_last c [] (slice_split p xs) h)
    by false true h rest = ap (onto_first x) rest ∙ first_onto_more x (slice_split p xs) h
    by false false h rest = ap (onto_first x) rest ∙ first_onto_last x c (slice_split p xs) h

last_of_closed : (c : ℕ) (closed : List (List ℕ)) (l : List ℕ) → onto_last c (closed ++ (l ∷ [])) ≡ closed ++ ((l ++ (c ∷ [])) ∷ [])
last_of_closed c [] l = refl
last_of_closed c (k ∷ []) l = refl
last_of_closed c (k ∷ j ∷ js) l = ap (λ ls. k ∷ ls) (last_of_closed c (j ∷ js) l)

-- the scalars of a split are what doesn't split
abbrev pub scalars_in : List ℕ → List ℕ
scalars_in xs = filter (λ c. not (c == close)) xs

concat_onto_first : (x : ℕ) (ls : List (List ℕ)) → concat (onto_first x ls) ≡ x ∷ concat ls
concat_onto_first x [] = refl
concat_onto_first x (l ∷ ls) = refl

pub concat_lists_of : (xs : List ℕ) → concat (lists_of xs) ≡ scalars_in xs
concat_lists_of [] = refl
concat_lists_of (x ∷ xs) = by (x == close) (concat_lists_of xs)
  where
    by : (t : Bool) → concat (lists_of xs) ≡ scalars_in xs → concat (cond t ([] ∷ lists_of xs) (onto_first x (lists_of xs))) ≡ cond (not t) (x ∷ scalars_in xs) (scalars_in xs)
    by true rest = rest
    by false rest = concat_onto_first x (lists_of xs) ∙ ap (λ l. x ∷ l) rest

-- a string with scalars below 64, each once
pub record IsSmall (node : List ℕ) : Type 0 where
  pub few : All (λ s. s < 64) (scalars_in node)
  pub once : Once (scalars_in node)
  pub closes : (i : ℕ) → i < length node → slice_index node i ≡ close → (1 ≤ i) × (slice_index node (i - 1) ≢ close)

pub string_small : (n : ℕ) (node : List ℕ) → n ≤ 64 → IsString n node → IsSmall node
string_small n node few h = record {
  few = rw (concat_lists_of node) at (All-weaker (λ s. s < n) (λ s. s < 64) (λ s lt. lt_of_lt_of_le lt few) (concat (lists_of node)) h.few);
  once = λ s. rw (concat_lists_of node) at (h.once s);
  closes = h.closes;
}

-- the lists and the places of the signs before one
pub record State (node : List ℕ) (i : ℕ) (p : Places) : Type 0 where
  pub closed : List (List ℕ)
  pub open_list : List ℕ
  pub are : ArePlaces closed open_list p
  pub is : lists_of (take i node) ≡ closed ++ (open_list ∷ [])
  pub some : All (λ l. 1 ≤ length l) closed
  pub ends : 1 ≤ i → slice_index node (i - 1) ≢ close → 1 ≤ length open_list

pub first_state : (node : List ℕ) → State node 0 no_places
first_state node = record { closed = []; open_list = []; are = none_placed; is = refl; some = All-nil (λ l. 1 ≤ length l); ends = λ h _. absurd (omega (arith, h)) }

-- a string is the signs before one, it, and the rest
parted : (node : List ℕ) (i : ℕ) → i < length node → node ≡ take i node ++ (slice_index node i ∷ drop (suc i) node)
parted node i lt = sym (take-append-drop i node) ∙ ap (λ rest. take i node ++ rest) (drop-cons node i 0 lt)

scalars_parted : (node : List ℕ) (i : ℕ) → i < length node → (slice_index node i == close) ≡ false → scalars_in node ≡ scalars_in (take i node) ++ (slice_index node i ∷ scalars_in (drop (suc i) node))
scalars_parted node i lt e = ap scalars_in (parted node i lt) ∙ filter-append (λ c. not (c == close)) (take i node) (slice_index node i ∷ drop (suc i) node) ∙ ap (λ b. scalars_in (take i node) ++ cond (not b) (slice_index node i ∷ scalars_in (drop (suc i) node)) (scalars_in (drop (suc i) node))) e

-- 64 scalars at most
small_length : (node : List ℕ) → IsSmall node → length (scalars_in node) ≤ 64
small_length node h = omega (arith, count_below_le 64 (scalars_in node) h.once, count_all (λ s. nat_lt s 64) (scalars_in node) (All-weaker (λ s. s < 64) (λ s. nat_lt s 64 ≡ true) (λ s lt. lt-ltb s 64 lt) (scalars_in node) h.few))

prefix_length : (node : List ℕ) (i : ℕ) → IsSmall node → length (scalars_in (take i node)) ≤ 64
prefix_length node i h = omega (arith, small_length node h, ap length (ap scalars_in (take-append-drop i node)), ap length (filter-append (λ c. not (c == close)) (take i node) (drop i node)), length-append (scalars_in (take i node)) (scalars_in (drop i node)))

state_scalars : (node : List ℕ) (i : ℕ) (p : Places) (st : State node i p) → scalars_in (take i node) ≡ concat st.closed ++ st.open_list
state_scalars node i p st = sym (concat_lists_of (take i node)) ∙ ap concat st.is ∙ concat_push st.closed st.open_list

state_length : (node : List ℕ) (i : ℕ) (p : Places) (st : State node i p) → length (scalars_in (take i node)) ≡ length (concat st.closed) + length st.open_list
state_length node i p st = ap length (state_scalars node i p st) ∙ length-append (concat st.closed) st.open_list

-- there is room for one more scalar
pub scalar_fits : (node : List ℕ) (i : ℕ) (p : Places) → IsSmall node → State node i p → i < length node → (slice_index node i == close) ≡ false → p.length < 64
scalar_fits node i p h st lt e = omega (arith, small_length node h, ap length (scalars_parted node i lt e), length-append (scalars_in (take i node)) (slice_index node i ∷ scalars_in (drop (suc i) node)), state_length node i p st, st.are.length)

pub scalar_small : (node : List ℕ) (i : ℕ) → IsSmall node → i < length node → (slice_index node i == close) ≡ false → slice_index node i < 64
scalar_small node i h lt e = All-head (λ s. s < 64) (slice_index node i) (scalars_in (drop (suc i) node)) (back_of (λ s. s < 64) (scalars_in (take i node)) (slice_index node i ∷ scalars_in (drop (suc i) node)) (rw (scalars_parted node i lt e) at h.few))

-- a list that is closed has a scalar
close_follows : (node : List ℕ) (i : ℕ) (p : Places) (st : State node i p) → IsSmall node → i < length node → slice_index node i ≡ close → 1 ≤ length st.open_list
close_follows node i p st h lt e = let before = h.closes i lt e in st.ends before.0 before.1

-- so there is a register for one more list
pub close_fits : (node : List ℕ) (i : ℕ) (p : Places) → IsSmall node → State node i p → i < length node → slice_index node i ≡ close → p.register < 64
close_fits node i p h st lt e = omega (arith, close_follows node i p st h lt e, few_lists st.closed st.some, state_length node i p st, prefix_length node i h, st.are.register)

pub scalar_state : (node : List ℕ) (i : ℕ) (p : Places) → IsSmall node → State node i p → i < length node → (slice_index node i == close) ≡ false → State node (i + 1) (with_scalar p (slice_index node i))
scalar_state node i p h st lt e =
    let c = slice_index node i in
    let once : count_by (λ s. s == c) (scalars_in (take i node) ++ (c ∷ scalars_in (drop (suc i) node))) ≤ 1 = rw (scalars_parted node i lt e) at (h.once c) in
    let lacks : has (scalars_in (take i node)) c ≡ false = front_lacks (scalars_in (take i node)) c (scalars_in (drop (suc i) node)) once in
    let apart = apart_of (concat st.closed) st.open_list c (sym (ap (λ l. has l c) (state_scalars node i p st)) ∙ lacks) in
    record {
      closed = st.closed;
      open_list = st.open_list ++ (c ∷ []);
      are = push_places st.closed st.open_list p c st.are (scalar_small node i h lt e) apart.0 apart.1;
      is = ap lists_of (take_more node i 0 lt) ∙ split_push (λ d. d == close) (take i node) c false e ∙ ap (onto_last c) st.is ∙ last_of_closed c st.closed st.open_list;
      some = st.some;
      ends = λ _ _. omega (arith, length-append st.open_list (c ∷ []));
    }

pub close_state : (node : List ℕ) (i : ℕ) (p : Places) → IsSmall node → State node i p → i < length node → slice_index node i ≡ close → State node (i + 1) (with_close p)
close_state node i p h st lt e = record {
  closed = st.closed ++ (st.open_list ∷ []);
  open_list = [];
  are = close_places st.closed st.open_list p st.are;
  is = ap lists_of (take_more node i 0 lt) ∙ split_push (λ d. d == close) (take i node) (slice_index node i) true (eq-eqb (slice_index node i) close e) ∙ ap (λ ls. ls ++ ([] ∷ [])) st.is;
  some = All-push (λ l. 1 ≤ length l) st.closed st.open_list st.some (close_follows node i p st h lt e);
  ends = λ _ n. absurd (n (ap (slice_index node) (omega arith) ∙ e));
}

-- in the end all scalars have their places
pub state_table : (node : List ℕ) (i : ℕ) (p : Places) → State node i p → length node ≤ i → IsTable (lists_of node) p.places
state_table node i p st le s = st.are.places s ∙ ap (λ ls. placed ls s) (sym st.is ∙ ap lists_of (take_all i node le))

fit_of : (closed : List (List ℕ)) (l : List ℕ) → length closed + length l ≤ 64 → length (concat closed) + length l ≤ 64 → Fit (closed ++ (l ∷ []))
fit_of closed [] few small = open_fits closed (lists_fit closed (omega (arith, few)) (omega (arith, small)))
fit_of closed (x ∷ xs) few small = lists_fit (closed ++ ((x ∷ xs) ∷ [])) (omega (arith, few, length-append closed ((x ∷ xs) ∷ []))) (omega (arith, small, ap length (concat_push closed (x ∷ xs)), length-append (concat closed) (x ∷ xs)))

state_fit : (node : List ℕ) (i : ℕ) (p : Places) → IsSmall node → (st : State node i p) → Fit (st.closed ++ (st.open_list ∷ []))
state_fit node i p h st = fit_of st.closed st.open_list (omega (arith, few_lists st.closed st.some, state_length node i p st, prefix_length node i h)) (omega (arith, state_length node i p st, prefix_length node i h))

pub state_near : (node : List ℕ) (i : ℕ) (p : Places) → IsSmall node → State node i p → AreNear p.places
state_near node i p h st = table_near (st.closed ++ (st.open_list ∷ [])) p.places st.are.places (state_fit node i p h st)

pub node_fits : (node : List ℕ) (i : ℕ) (p : Places) → IsSmall node → State node i p → length node ≤ i → Fit (lists_of node)
node_fits node i p h st le = subst Fit (sym st.is ∙ ap lists_of (take_all i node le)) (state_fit node i p h st)
