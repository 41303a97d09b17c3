-- Last offsets and tallies in memory are those of a block's accesses that have places.
use Rattle.std.proofs.Common.{◌≡◌, ℕ, ◌+◌, ◌-◌, ◌<◌, ◌≤◌, Bool, true, false, not, ◌&&◌, ◌||◌, nat_lt, nat_le, ◌==◌, ℤ, pos, List, length, get_or, take, filter, fold, set, replicate, Option, Some, None, option_map, refl, ap, ap₂, sym, ◌∙◌, ⊎_elim, arith, if◌then◌else◌, eq-eqb, ne_eqb, lt-ltb, true≢false, ◌⊎◌, inl, inr}
use Rattle.std.specs.Int.{abs_diff}
use Rattle.std.proofs.Math.Path.{fun_ext}
use Rattle.std.proofs.Math.Bool.{or-false, or-true, and-false}
use Rattle.std.proofs.lemmas.Int.{ints}
use Rattle.std.proofs.lemmas.Bool.{cases_eq, cases_lt}
use Rattle.std.proofs.lemmas.Bool.Decides.{nat_tests}
use Rattle.std.proofs.lemmas.List.{get_or-set_same, get_or-set_other, length-set, length-replicate, take_all}
use Rattle.lay_cost.specs.declared.places.Place.{Place}
use Rattle.lay_cost.specs.declared.tally.Tally as memory
use Rattle.lay_cost.specs.Placements.{Placement}
use Rattle.lay_cost.specs.Cost.{Tally, access_cost, steps, distance, move_cost, is_by_step, no_access, tally_behind, with_access, with_step_load, block_cost}
use Rattle.lay_cost.specs.Memory.{spare, not_loaded, not_loaded_anywhere, last_of, loaded, last_in, is_somewhere, is_placed, place_at, placement_in, IsNear, IsSpareKept, tally_of, tally_behind_place}
use Rattle.lay_cost.proofs.Blocks.{get_or_same, fold_filter_more}

abbrev pub bit : Bool → ℕ
bit t = if t then 1 else 0

abbrev lasts : List ℕ → ℕ → Option ℤ
lasts last r = option_map pos (last_in last r)

-- no register has a last offset at first
pub none_last : lasts not_loaded_anywhere ≡ no_access.last
none_last = fun_ext (λ r. by r (r == spare) refl)
  where
    by : (r : ℕ) (t : Bool) → (r == spare) ≡ t → option_map pos (if t then None else loaded (last_of not_loaded_anywhere r)) ≡ None
    by r true e = refl
    by r false e = ap (λ o. option_map pos (loaded o)) (get_or-set_other (replicate 65 not_loaded) spare r 0 not_loaded (λ is. absurd (true≢false (sym (eq-eqb r spare is) ∙ e))) ∙ get_or_same not_loaded 65 r)

pub spare_first : IsSpareKept not_loaded_anywhere
spare_first = record {
  size = length-set (replicate 65 not_loaded) spare 0 ∙ length-replicate {A = ℕ} 65 not_loaded;
  offset = get_or-set_same (replicate 65 not_loaded) spare 0 not_loaded (omega (arith, length-replicate {A = ℕ} 65 not_loaded));
}

-- an offset is none that stands for another thing
is_loaded : (offset : ℕ) → offset < 64 → loaded offset ≡ Some offset
is_loaded offset lt = rw (ne_eqb offset not_loaded (λ is. absurd (omega (arith, is, lt)))) refl

-- on a register that lists lie on: it has this last offset from then on, and the others have theirs
pub gone : (last : List ℕ) (register offset : ℕ) → length last ≡ 65 → register < 64 → offset < 64 → lasts (set last register offset) ≡ (λ r. if r == register then Some (pos offset) else lasts last r)
gone last register offset size lt small = fun_ext (λ r. ⊎_elim (same r) (other r) (cases_eq r register))
  where
    same : (r : ℕ) → r ≡ register → lasts (set last register offset) r ≡ (if r == register then Some (pos offset) else lasts last r)
    same r is =
        let apart : (r == spare) ≡ false = ne_eqb r spare (λ e. absurd (omega (arith, e, is, lt))) in
        rw (apart, eq-eqb r register is) (ap (λ o. option_map pos (loaded o)) (ap (last_of (set last register offset)) is ∙ get_or-set_same last register offset not_loaded (omega (arith, size, lt))) ∙ ap (option_map pos) (is_loaded offset small))

    other : (r : ℕ) → (r ≡ register → ⊥) → lasts (set last register offset) r ≡ (if r == register then Some (pos offset) else lasts last r)
    other r n = rw (ne_eqb r register n) (ap (λ o. option_map pos (if r == spare then None else loaded o)) (get_or-set_other last register r offset not_loaded n))

-- on the spare one: nothing changes
pub stayed : (last : List ℕ) (offset : ℕ) → lasts (set last spare offset) ≡ lasts last
stayed last offset = fun_ext (λ r. by r (cases_eq r spare))
  where
    by : (r : ℕ) → (r ≡ spare) ⊎ (r ≡ spare → ⊥) → lasts (set last spare offset) r ≡ lasts last r
    by r (inl is) = rw (eq-eqb r spare is) refl
    by r (inr n) = ap (λ o. option_map pos (if r == spare then None else loaded o)) (get_or-set_other last spare r offset not_loaded n)

pub spare_kept : (last : List ℕ) (p : Place) → IsNear p → IsSpareKept last → IsSpareKept (set last p.register p.offset)
spare_kept last p near kept = record { size = length-set last p.register p.offset ∙ kept.size; offset = ⊎_elim same other (cases_eq spare p.register) }
  where
    same : spare ≡ p.register → last_of (set last p.register p.offset) spare ≡ 0
    same is = ap (last_of (set last p.register p.offset)) is ∙ get_or-set_same last p.register p.offset not_loaded (omega (arith, kept.size, is)) ∙ near.spare_offset (sym is)

    other : (spare ≡ p.register → ⊥) → last_of (set last p.register p.offset) spare ≡ 0
    other n = get_or-set_other last p.register spare p.offset not_loaded n ∙ kept.offset

near_or_far : (far : ℕ) → nat_le far 1 ≡ not (nat_lt 1 far)
near_or_far far = grind (arith, nat_tests)

-- a move by the step is further than 1
by_step_is_far : (step far : ℕ) → is_by_step step far ≡ true → nat_lt 1 far ≡ true
by_step_is_far step far e = grind (arith, nat_tests)

pub by_step_le : (step far f k : ℕ) → k ≤ f → k + bit (is_by_step step far) ≤ f + bit (nat_lt 1 far)
by_step_le step far f k le = by (nat_lt 1 far) (is_by_step step far) (by_step_is_far step far)
  where
    by : (t u : Bool) → (u ≡ true → t ≡ true) → k + bit u ≤ f + bit t
    by true true h = omega (arith, le)
    by true false h = omega (arith, le)
    by false true h = absurd (true≢false (sym (h refl)))
    by false false h = omega (arith, le)

-- so what is paid is the far moves but those
paid_move : (step far f k : ℕ) → k ≤ f → (f + bit (nat_lt 1 far)) - (k + bit (is_by_step step far)) ≡ (f - k) + move_cost step far
paid_move step far f k le = rw (near_or_far far) (by (nat_lt 1 far) (is_by_step step far) (by_step_is_far step far))
  where
    by : (t u : Bool) → (u ≡ true → t ≡ true) → (f + bit t) - (k + bit u) ≡ (f - k) + (if not t || u then 0 else 1)
    by true true h = omega arith
    by true false h = omega (arith, le)
    by false true h = absurd (true≢false (sym (h refl)))
    by false false h = omega arith

any_step : (k : ℕ) (t : Bool) → nat_lt 0 (k + bit t) ≡ (nat_lt 0 k || t)
any_step k true = lt-ltb 0 (k + 1) (omega arith) ∙ sym (or-true (nat_lt 0 k))
any_step k false = ap (nat_lt 0) (omega arith) ∙ sym (or-false (nat_lt 0 k))

far_apart : (b o : ℕ) → abs_diff b o ≡ distance (pos b) (pos o)
far_apart b o = omega (arith, ints)

-- from a register that isn't loaded all is further than the step
far_off : (far : ℕ) → 100 ≤ far → nat_lt 1 far ≡ true
far_off far le = lt-ltb 1 far (omega (arith, le))

past_step : (step far : ℕ) → step ≤ 8 → 100 ≤ far → is_by_step step far ≡ false
past_step step far short le = rw (ne_eqb far step (λ is. absurd (omega (arith, is, short, le)))) (and-false (nat_lt 1 step))

-- what an access costs, by the last offset as it stands in memory
record Counts (step b o : ℕ) : Type 0 where
  paid : (f k : ℕ) → k ≤ f → (f + bit (nat_lt 1 (abs_diff b o))) - (k + bit (is_by_step step (abs_diff b o))) ≡ (f - k) + access_cost step (option_map pos (loaded b)) (pos o)
  stepped : (k : ℕ) → nat_lt 0 (k + bit (is_by_step step (abs_diff b o))) ≡ (nat_lt 0 k || steps step (option_map pos (loaded b)) (pos o))

counts : (step b o : ℕ) → step ≤ 8 → o < 64 → Counts step b o
counts step b o short small = ⊎_elim first later (cases_eq b not_loaded)
  where
    first : b ≡ not_loaded → Counts step b o
    first is =
        let far : 100 ≤ abs_diff b o = omega (arith, is, small) in
        let none : option_map pos (loaded b) ≡ None = ap (λ t. option_map pos (if t then None else Some b)) (eq-eqb b not_loaded is) in
        record {
          paid = λ f k le. rw (far_off (abs_diff b o) far, past_step step (abs_diff b o) short far, none) (omega (arith, le));
          stepped = λ k. any_step k (is_by_step step (abs_diff b o)) ∙ rw (past_step step (abs_diff b o) short far, none) refl;
        }

    later : (b ≡ not_loaded → ⊥) → Counts step b o
    later n =
        let there : option_map pos (loaded b) ≡ Some (pos b) = ap (λ t. option_map pos (if t then None else Some b)) (ne_eqb b not_loaded n) in
        record {
          paid = λ f k le. paid_move step (abs_diff b o) f k le ∙ ap (λ far. (f - k) + move_cost step far) (far_apart b o) ∙ sym (ap (λ l. (f - k) + access_cost step l (pos o)) there);
          stepped = λ k. any_step k (is_by_step step (abs_diff b o)) ∙ ap (λ far. nat_lt 0 k || is_by_step step far) (far_apart b o) ∙ sym (ap (λ l. nat_lt 0 k || steps step l (pos o)) there);
        }

no_step : (step : ℕ) → is_by_step step 0 ≡ false
no_step step = grind (arith, nat_tests)

abbrev tally : (ℕ → Option ℤ) → Bool → ℕ → Tally
tally last stepped paid = record { last = last; stepped = stepped; paid = paid }

tallies : (l m : ℕ → Option ℤ) (s t : Bool) (p q : ℕ) → l ≡ m → s ≡ t → p ≡ q → tally l s p ≡ tally m t q
tallies l m s t p q e f g = ap (λ (k : ℕ → Option ℤ). tally k s p) e ∙ ap₂ (λ a b. tally m a b) f g

-- one more access, of a scalar at a place or nowhere
behind_place : (step : ℕ) (last : List ℕ) (f k : ℕ) (p : Place) (far : ℕ) → IsNear p → step ≤ 8 → IsSpareKept last → k ≤ f → far ≡ abs_diff (last_of last p.register) p.offset →
    tally (lasts (set last p.register p.offset)) (nat_lt 0 (k + bit (is_by_step step far))) ((f + bit (nat_lt 1 far)) - (k + bit (is_by_step step far)))
    ≡ tally_behind_place step (tally (lasts last) (nat_lt 0 k) (f - k)) p
behind_place step last f k p far near short kept le is_far = ⊎_elim nowhere there (cases_eq p.register spare)
  where
    before : Tally
    before = tally (lasts last) (nat_lt 0 k) (f - k)

    stepped : Bool
    stepped = nat_lt 0 (k + bit (is_by_step step far))

    paid : ℕ
    paid = (f + bit (nat_lt 1 far)) - (k + bit (is_by_step step far))

    behind : Tally
    behind = tally (lasts (set last p.register p.offset)) stepped paid

    nowhere : p.register ≡ spare → behind ≡ tally_behind_place step before p
    nowhere is =
        let still : far ≡ 0 = is_far ∙ ap₂ abs_diff (ap (last_of last) is ∙ kept.offset) (near.spare_offset is) in
        let out : is_somewhere p ≡ false = ap not (eq-eqb p.register spare is) in
        tallies (lasts (set last p.register p.offset)) (lasts last) stepped (nat_lt 0 k) paid (f - k)
        (ap (λ r. lasts (set last r p.offset)) is ∙ stayed last p.offset)
        (ap (λ d. nat_lt 0 (k + bit (is_by_step step d))) still ∙ ap (λ t. nat_lt 0 (k + bit t)) (no_step step) ∙ any_step k false ∙ or-false (nat_lt 0 k))
        (ap (λ d. (f + bit (nat_lt 1 d)) - (k + bit (is_by_step step d))) still ∙ ap (λ t. (f + 0) - (k + bit t)) (no_step step) ∙ omega arith)
        ∙ sym (ap (λ t. if t then tally_behind step before p.register (pos p.offset) else before) out)

    there : (p.register ≡ spare → ⊥) → behind ≡ tally_behind_place step before p
    there n =
        let on : is_somewhere p ≡ true = ap not (ne_eqb p.register spare n) in
        let lt : p.register < 64 = ⊎_elim (λ (l : p.register < 64). l) (λ (l : 64 ≤ p.register). absurd (n (omega (arith, l, near.register)))) (cases_lt p.register 64) in
        let at : lasts last p.register ≡ option_map pos (loaded (last_of last p.register)) = ap (λ t. option_map pos (if t then None else loaded (last_of last p.register))) (ne_eqb p.register spare n) in
        let count = counts step (last_of last p.register) p.offset short near.offset in
        tallies (lasts (set last p.register p.offset)) (λ r. if r == p.register then Some (pos p.offset) else lasts last r) stepped (nat_lt 0 k || steps step (lasts last p.register) (pos p.offset)) paid ((f - k) + access_cost step (lasts last p.register) (pos p.offset))
        (gone last p.register p.offset kept.size lt near.offset)
        (ap (λ d. nat_lt 0 (k + bit (is_by_step step d))) is_far ∙ count.stepped k ∙ sym (ap (λ l. nat_lt 0 k || steps step l (pos p.offset)) at))
        (ap (λ d. (f + bit (nat_lt 1 d)) - (k + bit (is_by_step step d))) is_far ∙ count.paid f k le ∙ sym (ap (λ l. (f - k) + access_cost step l (pos p.offset)) at))
        ∙ sym (ap (λ t. if t then tally_behind step before p.register (pos p.offset) else before) on)

pub behind_access : (step : ℕ) (last new : List ℕ) (f k g l : ℕ) (p : Place) (far : ℕ) → IsNear p → step ≤ 8 → IsSpareKept last → k ≤ f → far ≡ abs_diff (last_of last p.register) p.offset → new ≡ set last p.register p.offset → g ≡ f + bit (nat_lt 1 far) → l ≡ k + bit (is_by_step step far) → tally (lasts new) (nat_lt 0 l) (g - l) ≡ tally_behind_place step (tally (lasts last) (nat_lt 0 k) (f - k)) p
behind_access step last new f k g l p far near short kept le is_far is more steps_more =
    ap (λ o. tally (lasts o) (nat_lt 0 l) (g - l)) is
    ∙ ap₂ (λ h m. tally (lasts (set last p.register p.offset)) (nat_lt 0 m) (h - m)) more steps_more
    ∙ behind_place step last f k p far near short kept le is_far

-- before the first access
pub first_tally : (last : List ℕ) (t : memory.Tally) → last ≡ not_loaded_anywhere → t ≡ record { far = 0; by_step = 0 } → tally_of last t ≡ no_access
first_tally last t e f = ap₂ tally_of e f ∙ tallies (lasts not_loaded_anywhere) no_access.last false false 0 0 none_last refl refl

-- at a step above 1 a move as far as it is by the step
pub at_step : (step far : ℕ) → 1 < step → is_by_step step far ≡ (far == step)
at_step step far lt = ap (λ t. t && (far == step)) (lt-ltb 1 step lt)

-- behind all of them
pub walked_all : (step : ℕ) (p : Placement) (set : ℕ → Bool) (xs : List ℕ) (i cost : ℕ) (t : Tally) → length xs ≤ i → cost ≡ with_step_load t → t ≡ fold (with_access step p) no_access (filter set (take i xs)) → cost ≡ block_cost step p (filter set xs)
walked_all step p set xs i cost t all is walked = is ∙ ap with_step_load walked ∙ ap (λ ys. block_cost step p (filter set ys)) (take_all i xs all)

-- behind one more of a block's accesses
pub walked_more : (step : ℕ) (table : List Place) (xs : List ℕ) (i d : ℕ) (t u : Tally) (p : Place) → i < length xs → t ≡ fold (with_access step (placement_in table)) no_access (filter (is_placed table) (take i xs)) → p ≡ place_at table (get_or xs i d) → u ≡ tally_behind_place step t p → u ≡ fold (with_access step (placement_in table)) no_access (filter (is_placed table) (take (i + 1) xs))
walked_more step table xs i d t u p lt walked at next = next ∙ ap₂ (tally_behind_place step) walked at ∙ sym (fold_filter_more (with_access step (placement_in table)) no_access (is_placed table) xs i d lt)
