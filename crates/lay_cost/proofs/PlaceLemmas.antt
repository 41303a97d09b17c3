-- Places in memory are those of the lists.
use Rattle.std.proofs.Common.{◌≡◌, ℕ, suc, ◌+◌, ◌<◌, ◌≤◌, Bool, true, false, ◌||◌, ◌==◌, not, pos, List, [], ◌∷◌, ◌++◌, length, set, fold, count_by, refl, ap, sym, ◌∙◌, ⊎_elim, arith, if◌then◌else◌, append_assoc, eq-eqb, ne_eqb, length-append}
use Rattle.std.specs.Prelude.{All}
use Rattle.std.specs.List.{concat}
use Rattle.std.proofs.Math.Path.{fun_ext}
use Rattle.std.proofs.lemmas.Bool.{cases_eq}
use Rattle.std.proofs.lemmas.List.{length-set, get_or-set_same, get_or-set_other}
use Rattle.std.proofs.lemmas.List.Folds.{list_any-append, concat-append}
use Rattle.lay_model.specs.Sequences.{Sequence}
use Rattle.lay_cost.specs.declared.places.Place.{Place}
use Rattle.lay_cost.specs.declared.places.Places.{Places}
use Rattle.lay_cost.specs.Placements.{has, list_of, place_in, position_in, placement_of}
use Rattle.lay_cost.specs.Cost.{cost_of}
use Rattle.lay_cost.specs.Restricted.{restricted}
use Rattle.lay_cost.specs.Parts.{part_cost_of, StandOnce}
use Rattle.lay_cost.specs.Memory.{spare, nowhere, placed, place_at, is_somewhere, is_placed, placement_in, IsNear, AreNear, with_scalar, with_close, with_list, no_places, ArePlaces}
use Rattle.std.proofs.Common.{append-nil, cond, true≢false}
use Rattle.std.proofs.lemmas.Bool.{or_parts}
use Rattle.std.proofs.lemmas.List.Elements.{All-head, All-tail}
use Rattle.std.proofs.lemmas.List.Sums.{sum_by-append}
use Rattle.lay_cost.proofs.Blocks.{get_or_same}
use Rattle.lay_cost.proofs.Counts.{not_there, count_first}
use Rattle.lay_cost.proofs.Tables.{placed_push, placed_open}
use Rattle.lay_cost.proofs.Follows.{cost_of_same}
use Rattle.lay_cost.proofs.Restrictions.{Passes, restricted_passes}

at_set : (table : List Place) (c s : ℕ) (v : Place) → c < length table → place_at (set table c v) s ≡ (if s == c then v else place_at table s)
at_set table c s v lt = ⊎_elim same other (cases_eq s c)
  where
    same : s ≡ c → place_at (set table c v) s ≡ (if s == c then v else place_at table s)
    same e = rw (eq-eqb s c e) (ap (place_at (set table c v)) e ∙ get_or-set_same table c v nowhere lt)

    other : (s ≡ c → ⊥) → place_at (set table c v) s ≡ (if s == c then v else place_at table s)
    other n = rw (ne_eqb s c n) (get_or-set_other table c s v nowhere n)

pub push_places : (closed : List (List ℕ)) (l : List ℕ) (p : Places) (c : ℕ) → ArePlaces closed l p → c < 64 → has (concat closed) c ≡ false → has l c ≡ false → ArePlaces closed (l ++ (c ∷ [])) (with_scalar p c)
push_places closed l p c h lt new last = record {
  size = length-set p.places c _ ∙ h.size;
  places = λ s. at_set p.places c s (record { register = p.register; offset = p.length }) (omega (arith, h.size)) ∙ rw (h.places s, h.register, h.length) (sym (placed_push closed l c s new last));
  register = h.register;
  length = omega (arith, h.length, length-append l (c ∷ []));
}

pub close_places : (closed : List (List ℕ)) (l : List ℕ) (p : Places) → ArePlaces closed l p → ArePlaces (closed ++ (l ∷ [])) [] (with_close p)
close_places closed l p h = record {
  size = h.size;
  places = λ s. h.places s ∙ sym (placed_open (closed ++ (l ∷ [])) s);
  register = omega (arith, h.register, length-append closed (l ∷ []));
  length = refl;
}

-- a scalar that stands no more than once stands at one place alone
pub front_lacks : (front : List ℕ) (c : ℕ) (rest : List ℕ) → count_by (λ s. s == c) (front ++ (c ∷ rest)) ≤ 1 → has front c ≡ false
front_lacks front c rest once = not_there c front (omega (arith, once, sum_by-append (λ s. cond (s == c) 1 0) front (c ∷ rest), count_first (λ s. s == c) c rest true (eq-eqb c c refl)))

pub apart_of : (front l : List ℕ) (c : ℕ) → has (front ++ l) c ≡ false → (has front c ≡ false) × (has l c ≡ false)
apart_of front l c e = or_parts (has front c) (has l c) (sym (list_any-append (λ s. s == c) front l) ∙ e)

abbrev pub Once : List ℕ → Type 0
Once xs = StandOnce xs

-- scalars put into the open list one by one
pub list_places : (closed : List (List ℕ)) (l : List ℕ) (p : Places) (xs : List ℕ) → ArePlaces closed l p → All (λ s. s < 64) xs → Once (concat closed ++ (l ++ xs)) → ArePlaces closed (l ++ xs) (fold with_scalar p xs)
list_places closed l p [] h small once = rw (append-nil l) h
list_places closed l p (x ∷ xs) h small once =
    let lacks = apart_of (concat closed) l x (front_lacks (concat closed ++ l) x xs (rw (append_assoc (concat closed) l (x ∷ xs)) (once x))) in
    let next : ArePlaces closed (l ++ (x ∷ [])) (with_scalar p x) = push_places closed l p x h (All-head (λ s. s < 64) x xs small) lacks.0 lacks.1 in
    let all = list_places closed (l ++ (x ∷ [])) (with_scalar p x) xs next (All-tail (λ s. s < 64) x xs small) (λ s. rw (append_assoc l (x ∷ []) xs) (once s)) in
    rw (append_assoc l (x ∷ []) xs) at all

pub concat_push : (front : List (List ℕ)) (l : List ℕ) → concat (front ++ (l ∷ [])) ≡ concat front ++ l
concat_push front l = concat-append front (l ∷ []) ∙ ap (λ xs. concat front ++ xs) (append-nil l)

-- lists put there one by one, each of them closed
pub lists_places : (front : List (List ℕ)) (p : Places) (ls : List (List ℕ)) → ArePlaces front [] p → All (λ l. All (λ s. s < 64) l) ls → Once (concat (front ++ ls)) → ArePlaces (front ++ ls) [] (fold with_list p ls)
lists_places front p [] h small once = rw (append-nil front) h
lists_places front p (l ∷ ls) h small once =
    let whole : concat (front ++ (l ∷ ls)) ≡ (concat front ++ l) ++ concat ls = concat-append front (l ∷ ls) ∙ sym (append_assoc (concat front) l (concat ls)) in
    let listed : ArePlaces front l (fold with_scalar p l) = list_places front [] p l h (All-head (λ l. All (λ s. s < 64) l) l ls small) (λ s. omega (arith, once s, ap (count_by (λ t. t == s)) whole, sum_by-append (λ t. cond (t == s) 1 0) (concat front ++ l) (concat ls))) in
    let closed = close_places front l (fold with_scalar p l) listed in
    let all = lists_places (front ++ (l ∷ [])) (with_list p l) ls closed (All-tail (λ l. All (λ s. s < 64) l) l ls small) (λ s. rw (append_assoc front (l ∷ []) ls) (once s)) in
    rw (append_assoc front (l ∷ []) ls) at all

pub none_placed : ArePlaces [] [] no_places
none_placed = record { size = refl; places = λ s. get_or_same nowhere 64 s; register = refl; length = refl }

-- a table of the places of lists, whether the last one is open or not
abbrev pub IsTable : List (List ℕ) → List Place → Type 0
IsTable lists table = (s : ℕ) → place_at table s ≡ placed lists s

-- where a scalar has a place it is that in the lists
at_table : (lists : List (List ℕ)) (table : List Place) (s : ℕ) → IsTable lists table → has (concat lists) s ≡ true → place_at table s ≡ record { register = list_of lists s; offset = place_in lists s }
at_table lists table s h e = h s ∙ rw e refl

pub list_of_lt : (lists : List (List ℕ)) (s : ℕ) → has (concat lists) s ≡ true → list_of lists s < length lists
list_of_lt [] s e = absurd (true≢false (sym e))
list_of_lt (l ∷ ls) s e = by (has l s) refl (list_of_lt ls s)
  where
    either : (has l s || has (concat ls) s) ≡ true
    either = sym (list_any-append (λ x. x == s) l (concat ls)) ∙ e

    by : (t : Bool) → has l s ≡ t → (has (concat ls) s ≡ true → list_of ls s < length ls) → (if t then 0 else suc (list_of ls s)) < suc (length ls)
    by true is rest = omega arith
    by false is rest = let later : has (concat ls) s ≡ true = ap (λ b. b || has (concat ls) s) (sym is) ∙ either in omega (arith, rest later)

position_lt : (l : List ℕ) (s : ℕ) → has l s ≡ true → position_in l s < length l
position_lt [] s e = absurd (true≢false (sym e))
position_lt (x ∷ xs) s e = by (x == s) refl (position_lt xs s)
  where
    by : (t : Bool) → (x == s) ≡ t → (has xs s ≡ true → position_in xs s < length xs) → (if t then 0 else suc (position_in xs s)) < suc (length xs)
    by true is rest = omega arith
    by false is rest = let later : has xs s ≡ true = ap (λ b. b || has xs s) (sym is) ∙ e in omega (arith, rest later)

place_in_lt : (lists : List (List ℕ)) (s : ℕ) → has (concat lists) s ≡ true → place_in lists s < length (concat lists)
place_in_lt [] s e = absurd (true≢false (sym e))
place_in_lt (l ∷ ls) s e = rw (length-append l (concat ls)) (by (has l s) refl (place_in_lt ls s))
  where
    either : (has l s || has (concat ls) s) ≡ true
    either = sym (list_any-append (λ x. x == s) l (concat ls)) ∙ e

    by : (t : Bool) → has l s ≡ t → (has (concat ls) s ≡ true → place_in ls s < length (concat ls)) → (if t then position_in l s else place_in ls s) < length l + length (concat ls)
    by true is rest = omega (arith, position_lt l s is)
    by false is rest = let later : has (concat ls) s ≡ true = ap (λ b. b || has (concat ls) s) (sym is) ∙ either in omega (arith, rest later)

-- 64 registers and 64 offsets are enough for lists, and no scalar of them stands on the spare register
pub record Fit (lists : List (List ℕ)) : Type 0 where
  pub near : (s : ℕ) → IsNear (placed lists s)
  pub somewhere : (s : ℕ) → is_somewhere (placed lists s) ≡ has (concat lists) s

pub lists_fit : (lists : List (List ℕ)) → length lists ≤ 64 → length (concat lists) ≤ 64 → Fit lists
lists_fit lists few small = record { near = λ s. near s (has (concat lists) s) refl; somewhere = λ s. somewhere s (has (concat lists) s) refl }
  where
    near : (s : ℕ) (t : Bool) → has (concat lists) s ≡ t → IsNear (if t then record { register = list_of lists s; offset = place_in lists s } else nowhere)
    near s true e = record { register = omega (arith, few, list_of_lt lists s e); offset = omega (arith, small, place_in_lt lists s e); spare_offset = λ is. absurd (omega (arith, is, few, list_of_lt lists s e)) }
    near s false e = record { register = omega arith; offset = omega arith; spare_offset = λ is. refl }

    somewhere : (s : ℕ) (t : Bool) → has (concat lists) s ≡ t → is_somewhere (if t then record { register = list_of lists s; offset = place_in lists s } else nowhere) ≡ t
    somewhere s true e = ap not (ne_eqb (list_of lists s) spare (λ is. absurd (omega (arith, is, few, list_of_lt lists s e))))
    somewhere s false e = refl

-- with an open list that has no scalar
pub open_fits : (closed : List (List ℕ)) → Fit closed → Fit (closed ++ ([] ∷ []))
open_fits closed h = record {
  near = λ s. rw (placed_open closed s) (h.near s);
  somewhere = λ s. ap is_somewhere (placed_open closed s) ∙ h.somewhere s ∙ ap (λ xs. has xs s) (sym (concat_push closed [] ∙ append-nil (concat closed)));
}

-- the scalars with places are those of the lists
pub table_set : (lists : List (List ℕ)) (table : List Place) → IsTable lists table → Fit lists → is_placed table ≡ has (concat lists)
table_set lists table h fit = fun_ext (λ s. ap is_somewhere (h s) ∙ fit.somewhere s)

-- what the scalars of a table cost is what their lists cost
pub table_cost : (seq : Sequence) (lists : List (List ℕ)) (table : List Place) → IsTable lists table → Fit lists → cost_of (restricted seq (is_placed table)) (placement_in table) ≡ part_cost_of seq lists
table_cost seq lists table h fit =
    let set = has (concat lists) in
    ap (λ (kept : ℕ → Bool). cost_of (restricted seq kept) (placement_in table)) (table_set lists table h fit)
    ∙ cost_of_same (restricted seq set) (Passes set) (placement_of lists) (placement_in table) (λ s e. ap (λ (p : Place). p.register) (at_table lists table s h e)) (λ s e. ap (λ (p : Place). pos p.offset) (at_table lists table s h e)) (restricted_passes seq set)

pub table_near : (lists : List (List ℕ)) (table : List Place) → IsTable lists table → Fit lists → AreNear table
table_near lists table h fit s = rw (h s) (fit.near s)

-- lists that aren't empty are as many as their scalars at most
pub few_lists : (lists : List (List ℕ)) → All (λ l. 1 ≤ length l) lists → length lists ≤ length (concat lists)
few_lists [] some = omega arith
few_lists (l ∷ ls) some = omega (arith, All-head (λ k. 1 ≤ length k) l ls some, few_lists ls (All-tail (λ k. 1 ≤ length k) l ls some), length-append l (concat ls))
