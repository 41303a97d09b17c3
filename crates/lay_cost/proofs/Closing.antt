-- A placement is closed up: each register has a list of its scalars by rising offsets.
use Rattle.std.proofs.Common.{◌≡◌, ℕ, zero, suc, ◌+◌, ◌<◌, ◌≤◌, Bool, true, false, cond, nat_le, nat_lt, ◌==◌, ◌||◌, ◌&&◌, pos, ◌-ℤ◌, nat_abs, List, [], ◌∷◌, ◌++◌, length, get_or, count_by, refl, ap, ap₂, sym, ◌∙◌, ⊎_elim, arith, if◌then◌else◌, eq-eqb, ne_eqb, true≢false, le_refl, lt-ltb, le-ltb, le_of_eq, zero-le, not}
use Rattle.std.specs.Prelude.{All}
use Rattle.std.specs.List.{concat}
use Rattle.std.proofs.lemmas.Bool.{cases_lt, cases_eq}
use Rattle.std.proofs.lemmas.Bool.Decides.{nat_tests}
use Rattle.std.proofs.lemmas.List.Elements.{All-nil, All-cons, All-weaker, All-append}
use Rattle.std.proofs.lemmas.List.Folds.{list_any-append}
use Rattle.std.proofs.lemmas.List.Sums.{sum_by-append}
use Rattle.lay_model.specs.Sequences.{Sequence, IsSequence}
use Rattle.lay_model.specs.Arrangements.{Arranges}
use Rattle.lay_cost.specs.Placements.{Placement, IsPlacement, has, list_of, place_in, position_in, placement_of, scalars_on}
use Rattle.lay_cost.specs.Cost.{move_cost, is_by_step, distance, cost_of, arranged_cost}
use Rattle.std.proofs.Math.Bool.{or-false}
use Rattle.std.proofs.lemmas.Bool.{lt-leb, le-leb}
use Rattle.lay_cost.proofs.Counts.{is_there, not_there, count_below, count_all}
use Rattle.lay_cost.proofs.Follows.{Follows, cost_of_follows}
use Rattle.lay_cost.proofs.Rising.{rising, IsOn, Between, on_register, rising_rises, count_rising, length_rising, near_in_list, dense_is_position}

-- the lists of k registers from one on, with those that have no scalar
abbrev pub lists_from : Placement → ℕ → ℕ → ℕ → List (List ℕ)
lists_from p n r zero = []
lists_from p n r (suc k) = rising p r n ∷ lists_from p n (suc r) k

-- a scalar stands in the list of its register alone
on_it : (p : Placement) (r n s : ℕ) → s < n → p.register s ≡ r → has (rising p r n) s ≡ true
on_it p r n s lt e = is_there s (rising p r n) (le_of_eq (sym (count_rising p r n s ∙ ap₂ (λ a b. if a && b then 1 else 0) (lt-ltb s n lt) (eq-eqb (p.register s) r e))))

not_on_it : (p : Placement) (r n s : ℕ) → s < n → (p.register s ≡ r → ⊥) → has (rising p r n) s ≡ false
not_on_it p r n s lt e = not_there s (rising p r n) (count_rising p r n s ∙ ap₂ (λ a b. if a && b then 1 else 0) (lt-ltb s n lt) (ne_eqb (p.register s) r e))

register_is : (p : Placement) (n r k s : ℕ) → s < n → r ≤ p.register s → p.register s < r + k → r + list_of (lists_from p n r k) s ≡ p.register s
register_is p n r zero s lt from below = absurd (omega arith)
register_is p n r (suc k) s lt from below = ⊎_elim here (later (register_is p n (suc r) k s lt)) (cases_eq (p.register s) r)
  where
    here : p.register s ≡ r → r + (if has (rising p r n) s then 0 else suc (list_of (lists_from p n (suc r) k) s)) ≡ p.register s
    here e = rw (on_it p r n s lt e) (omega arith)

    later : (suc r ≤ p.register s → p.register s < suc r + k → suc r + list_of (lists_from p n (suc r) k) s ≡ p.register s) → (p.register s ≡ r → ⊥) → r + (if has (rising p r n) s then 0 else suc (list_of (lists_from p n (suc r) k) s)) ≡ p.register s
    later rest e = rw (not_on_it p r n s lt e) (omega (arith, rest (omega arith) (omega arith)))

place_is : (p : Placement) (n r k s : ℕ) → s < n → r ≤ p.register s → p.register s < r + k → place_in (lists_from p n r k) s ≡ position_in (rising p (p.register s) n) s
place_is p n r zero s lt from below = absurd (omega arith)
place_is p n r (suc k) s lt from below = ⊎_elim here (later (place_is p n (suc r) k s lt)) (cases_eq (p.register s) r)
  where
    here : p.register s ≡ r → (if has (rising p r n) s then position_in (rising p r n) s else place_in (lists_from p n (suc r) k) s) ≡ position_in (rising p (p.register s) n) s
    here e = rw (on_it p r n s lt e) (ap (λ q. position_in (rising p q n) s) (sym e))

    later : (suc r ≤ p.register s → p.register s < suc r + k → place_in (lists_from p n (suc r) k) s ≡ position_in (rising p (p.register s) n) s) → (p.register s ≡ r → ⊥) → (if has (rising p r n) s then position_in (rising p r n) s else place_in (lists_from p n (suc r) k) s) ≡ position_in (rising p (p.register s) n) s
    later rest e = rw (not_on_it p r n s lt e) (rest (omega arith) (omega arith))

-- the lists that have a scalar
abbrev pub filled : List (List ℕ) → List (List ℕ)
filled [] = []
filled ([] ∷ ls) = filled ls
filled ((x ∷ xs) ∷ ls) = (x ∷ xs) ∷ filled ls

concat_filled : (ls : List (List ℕ)) → concat (filled ls) ≡ concat ls
concat_filled [] = refl
concat_filled ([] ∷ ls) = concat_filled ls
concat_filled ((x ∷ xs) ∷ ls) = ap (λ l. (x ∷ xs) ++ l) (concat_filled ls)

place_filled : (ls : List (List ℕ)) (s : ℕ) → place_in (filled ls) s ≡ place_in ls s
place_filled [] s = refl
place_filled ([] ∷ ls) s = place_filled ls s
place_filled ((x ∷ xs) ∷ ls) s = ap (λ i. if has (x ∷ xs) s then position_in (x ∷ xs) s else i) (place_filled ls s)

length_filled : (ls : List (List ℕ)) → length (filled ls) ≤ length ls
length_filled [] = le_refl 0
length_filled ([] ∷ ls) = omega (arith, length_filled ls)
length_filled ((x ∷ xs) ∷ ls) = omega (arith, length_filled ls)

some_filled : (ls : List (List ℕ)) → All (λ l. 1 ≤ length l) (filled ls)
some_filled [] = All-nil (λ l. 1 ≤ length l)
some_filled ([] ∷ ls) = some_filled ls
some_filled ((x ∷ xs) ∷ ls) = All-cons (λ l. 1 ≤ length l) (x ∷ xs) (filled ls) (omega arith) (some_filled ls)

eqb_suc : (a b : ℕ) → (a == b) ≡ (suc a == suc b)
eqb_suc a b = grind (arith, nat_tests)

zero_suc : (a b : ℕ) → (0 == suc a) ≡ (0 == suc b)
zero_suc a b = grind (arith, nat_tests)

suc_zero : (a b : ℕ) → (suc a == 0) ≡ (suc b == 0)
suc_zero a b = grind (arith, nat_tests)

-- scalars share a list as before
same_filled : (ls : List (List ℕ)) (s t : ℕ) → has (concat ls) s ≡ true → has (concat ls) t ≡ true → (list_of (filled ls) s == list_of (filled ls) t) ≡ (list_of ls s == list_of ls t)
same_filled [] s t has_s has_t = absurd (true≢false (sym has_s))
same_filled ([] ∷ ls) s t has_s has_t = same_filled ls s t has_s has_t ∙ eqb_suc (list_of ls s) (list_of ls t)
same_filled ((x ∷ xs) ∷ ls) s t has_s has_t = by (has (x ∷ xs) s) (has (x ∷ xs) t) refl refl (same_filled ls s t)
  where
    rest_of : (u : ℕ) → has (concat ((x ∷ xs) ∷ ls)) u ≡ true → has (x ∷ xs) u ≡ false → has (concat ls) u ≡ true
    rest_of u h e = ap (λ b. b || has (concat ls) u) (sym e) ∙ sym (list_any-append (λ y. y == u) (x ∷ xs) (concat ls)) ∙ h

    by : (a b : Bool) → has (x ∷ xs) s ≡ a → has (x ∷ xs) t ≡ b → (has (concat ls) s ≡ true → has (concat ls) t ≡ true → (list_of (filled ls) s == list_of (filled ls) t) ≡ (list_of ls s == list_of ls t)) → ((if a then 0 else suc (list_of (filled ls) s)) == (if b then 0 else suc (list_of (filled ls) t))) ≡ ((if a then 0 else suc (list_of ls s)) == (if b then 0 else suc (list_of ls t)))
    by true true e f rest = refl
    by true false e f rest = zero_suc (list_of (filled ls) t) (list_of ls t)
    by false true e f rest = suc_zero (list_of (filled ls) s) (list_of ls s)
    by false false e f rest = sym (eqb_suc (list_of (filled ls) s) (list_of (filled ls) t)) ∙ rest (rest_of s has_s e) (rest_of t has_t f) ∙ eqb_suc (list_of ls s) (list_of ls t)

abbrev one : Bool → ℕ
one b = if b then 1 else 0

neither : (b : Bool) → one (b && false) ≡ 0
neither true = refl
neither false = refl

not_counted : (p : Placement) (r n s : ℕ) → (p.register s ≡ r → ⊥) → count_by (λ t. t == s) (rising p r n) ≡ 0
not_counted p r n s e = count_rising p r n s ∙ ap (λ b. one (nat_lt s n && b)) (ne_eqb (p.register s) r e) ∙ neither (nat_lt s n)

counted_once : (p : Placement) (r n s : ℕ) → s < n → p.register s ≡ r → count_by (λ t. t == s) (rising p r n) ≡ 1
counted_once p r n s lt e = count_rising p r n s ∙ ap₂ (λ a b. one (a && b)) (lt-ltb s n lt) (eq-eqb (p.register s) r e)

-- a scalar of an earlier register doesn't stand in the lists
count_before : (p : Placement) (n r k s : ℕ) → p.register s < r → count_by (λ t. t == s) (concat (lists_from p n r k)) ≡ 0
count_before p n r zero s before = refl
count_before p n r (suc k) s before = omega (arith, sum_by-append (λ t. cond (t == s) 1 0) (rising p r n) (concat (lists_from p n (suc r) k)), not_counted p r n s (λ e. absurd (omega (arith, e, before))), count_before p n (suc r) k s (omega (arith, before)))

-- one of theirs stands there once
count_within : (p : Placement) (n r k s : ℕ) → s < n → r ≤ p.register s → p.register s < r + k → count_by (λ t. t == s) (concat (lists_from p n r k)) ≡ 1
count_within p n r zero s lt from below = absurd (omega (arith, from, below))
count_within p n r (suc k) s lt from below = ⊎_elim here (later (count_within p n (suc r) k s lt)) (cases_eq (p.register s) r)
  where
    both : count_by (λ t. t == s) (concat (lists_from p n r (suc k))) ≡ count_by (λ t. t == s) (rising p r n) + count_by (λ t. t == s) (concat (lists_from p n (suc r) k))
    both = sum_by-append (λ t. cond (t == s) 1 0) (rising p r n) (concat (lists_from p n (suc r) k))

    here : p.register s ≡ r → count_by (λ t. t == s) (concat (lists_from p n r (suc k))) ≡ 1
    here e = omega (arith, both, counted_once p r n s lt e, count_before p n (suc r) k s (omega (arith, e)))

    later : (suc r ≤ p.register s → p.register s < suc r + k → count_by (λ t. t == s) (concat (lists_from p n (suc r) k)) ≡ 1) → (p.register s ≡ r → ⊥) → count_by (λ t. t == s) (concat (lists_from p n r (suc k))) ≡ 1
    later rest e = omega (arith, both, not_counted p r n s e, rest (omega (arith, from, e)) (omega (arith, below)))

-- and they are scalars below n
all_below : (p : Placement) (n r k : ℕ) → All (λ s. nat_lt s n ≡ true) (concat (lists_from p n r k))
all_below p n r zero = All-nil (λ s. nat_lt s n ≡ true)
all_below p n r (suc k) = All-append (λ s. nat_lt s n ≡ true) (rising p r n) (concat (lists_from p n (suc r) k)) (All-weaker (IsOn p r n) (λ s. nat_lt s n ≡ true) (λ s on. lt-ltb s n on.below) (rising p r n) (on_register p r n)) (all_below p n (suc r) k)

length_lists_from : (p : Placement) (n r k : ℕ) → length (lists_from p n r k) ≡ k
length_lists_from p n r zero = refl
length_lists_from p n r (suc k) = ap suc (length_lists_from p n (suc r) k)

-- the lists of a placement
abbrev pub closed_up : Placement → ℕ → ℕ → List (List ℕ)
closed_up p n k = filled (lists_from p n 0 k)

pub closed_up_arranges : (p : Placement) (n k : ℕ) → n ≤ 64 → ((s : ℕ) → s < n → p.register s < k) → Arranges n (closed_up p n k)
closed_up_arranges p n k few registers =
    let lists = lists_from p n 0 k in
    let same = concat_filled lists in
    let once : (s : ℕ) → s < n → count_by (λ t. t == s) (concat lists) ≡ 1 = λ s lt. count_within p n 0 k s lt (omega arith) (omega (arith, registers s lt)) in
    record {
      few = few;
      some = some_filled lists;
      all = ap length same ∙ sym (count_all (λ s. nat_lt s n) (concat lists) (all_below p n 0 k)) ∙ count_below n (concat lists) once;
      once = λ s lt. ap (count_by (λ t. t == s)) same ∙ once s lt;
    }

pub closed_up_few : (p : Placement) (n k : ℕ) → length (closed_up p n k) ≤ k
closed_up_few p n k = omega (arith, length_filled (lists_from p n 0 k), length_lists_from p n 0 k)

-- where a scalar lies in them
position_is : (p : Placement) (n k s : ℕ) → s < n → p.register s < k → place_in (closed_up p n k) s ≡ position_in (rising p (p.register s) n) s
position_is p n k s lt below = place_filled (lists_from p n 0 k) s ∙ place_is p n 0 k s lt (omega arith) (omega (arith, below))

stands : (p : Placement) (n k s : ℕ) → s < n → p.register s < k → has (concat (lists_from p n 0 k)) s ≡ true
stands p n k s lt below = is_there s (concat (lists_from p n 0 k)) (le_of_eq (sym (count_within p n 0 k s lt (omega arith) (omega (arith, below)))))

register_of_list : (p : Placement) (n k s : ℕ) → s < n → p.register s < k → list_of (lists_from p n 0 k) s ≡ p.register s
register_of_list p n k s lt below = omega (arith, register_is p n 0 k s lt (omega arith) (omega (arith, below)))

same_register : (p : Placement) (n k s t : ℕ) → s < n → t < n → p.register s < k → p.register t < k → (list_of (closed_up p n k) s == list_of (closed_up p n k) t) ≡ (p.register s == p.register t)
same_register p n k s t lt_s lt_t in_s in_t = same_filled (lists_from p n 0 k) s t (stands p n k s lt_s in_s) (stands p n k t lt_t in_t) ∙ ap₂ (λ a b. a == b) (register_of_list p n k s lt_s in_s) (register_of_list p n k t lt_t in_t)

-- moves that are by 1 at most where others are cost no more, at a step of 1
at_most_one : (t : Bool) → one (not t) ≤ 1
at_most_one true = zero-le
at_most_one false = le_refl 1

no_step : (step far : ℕ) → step ≤ 1 → is_by_step step far ≡ false
no_step step far h = ap (λ b. b && (far == step)) (le-ltb 1 step h)

plain_move : (step far : ℕ) → step ≤ 1 → move_cost step far ≡ (if nat_le far 1 then 0 else 1)
plain_move step far h = ap (λ b. if nat_le far 1 || b then 0 else 1) (no_step step far h) ∙ ap (λ b. if b then 0 else 1) (or-false (nat_le far 1))

no_farther : (near far : ℕ) → (far ≤ 1 → near ≤ 1) → (if nat_le near 1 then 0 else 1) ≤ (if nat_le far 1 then 0 else 1)
no_farther near far h = ⊎_elim (λ lt. rw (lt-leb far 1 lt) (most (nat_le near 1))) (λ le. rw (le-leb near 1 (h le)) zero-le) (cases_lt 1 far)
  where
    most : (t : Bool) → (if t then 0 else 1) ≤ 1
    most true = zero-le
    most false = le_refl 1

-- without gaps the offsets stay
offset_is : (seq : Sequence) (k : ℕ) (p : Placement) (s : ℕ) → IsPlacement seq k p → 1 < seq.step → s < seq.scalars → pos (place_in (closed_up p seq.scalars k) s) ≡ p.offset s
offset_is seq k p s h step lt =
    let n = seq.scalars in
    let r = p.register s in
    let l = rising p r n in
    let between : All (Between p 0 (0 + length l)) l = λ i d at. on_list (get_or l i d) (on_register p r n i d at) in
    ap pos (position_is p n k s lt (h.registers s lt)) ∙ sym (dense_is_position p 0 l (rising_rises p r n h.apart) between s (on_it p r n s lt refl) ∙ ap pos (omega arith))
  where
    on_list : (t : ℕ) → IsOn p (p.register s) seq.scalars t → Between p 0 (0 + length (rising p (p.register s) seq.scalars)) t
    on_list t on =
        let d = h.dense step t on.below in
        let many = ap (scalars_on seq.scalars p) on.register in
        record { at = d.at; is = d.is; from = zero-le; below = omega (arith, d.below, many, length_rising p (p.register s) seq.scalars) }

position_of_other : (seq : Sequence) (k : ℕ) (p : Placement) (s t : ℕ) → IsPlacement seq k p → t < seq.scalars → p.register s ≡ p.register t → place_in (closed_up p seq.scalars k) t ≡ position_in (rising p (p.register s) seq.scalars) t
position_of_other seq k p s t h lt same = position_is p seq.scalars k t lt (h.registers t lt) ∙ ap (λ r. position_in (rising p r seq.scalars) t) (sym same)

near_closed : (seq : Sequence) (k : ℕ) (p : Placement) (s t : ℕ) → IsPlacement seq k p → s < seq.scalars → t < seq.scalars → p.register s ≡ p.register t → nat_abs (p.offset s -ℤ p.offset t) ≤ 1 → nat_abs (pos (place_in (closed_up p seq.scalars k) s) -ℤ pos (place_in (closed_up p seq.scalars k) t)) ≤ 1
near_closed seq k p s t h lt_s lt_t same near =
    let n = seq.scalars in
    let r = p.register s in
    rw (position_of_other seq k p s s h lt_s refl, position_of_other seq k p s t h lt_t same) (near_in_list p (rising p r n) s t (rising_rises p r n h.apart) (on_it p r n s lt_s refl) (on_it p r n t lt_t (sym same)) near)

same_distance : (seq : Sequence) (k : ℕ) (p : Placement) (s t : ℕ) → IsPlacement seq k p → 1 < seq.step → s < seq.scalars → t < seq.scalars → distance (pos (place_in (closed_up p seq.scalars k) s)) (pos (place_in (closed_up p seq.scalars k) t)) ≡ distance (p.offset s) (p.offset t)
same_distance seq k p s t h step lt_s lt_t = ap₂ distance (offset_is seq k p s h step lt_s) (offset_is seq k p t h step lt_t)

-- its lists follow a placement
pub lists_follow : (seq : Sequence) (k : ℕ) (p : Placement) → IsPlacement seq k p → Follows seq.step (λ s. s < seq.scalars) p (placement_of (closed_up p seq.scalars k))
lists_follow seq k p h = record {
  same = λ s t lt_s lt_t. same_register p seq.scalars k s t lt_s lt_t (h.registers s lt_s) (h.registers t lt_t);
  near = λ s t lt_s lt_t same. ⊎_elim
      (λ step. le_of_eq (ap (move_cost seq.step) (same_distance seq k p s t h step lt_s lt_t)))
      (λ plain. rw (plain_move seq.step (distance (p.offset s) (p.offset t)) plain, plain_move seq.step (distance (pos (place_in (closed_up p seq.scalars k) s)) (pos (place_in (closed_up p seq.scalars k) t))) plain) (no_farther (distance (pos (place_in (closed_up p seq.scalars k) s)) (pos (place_in (closed_up p seq.scalars k) t))) (distance (p.offset s) (p.offset t)) (near_closed seq k p s t h lt_s lt_t same)))
      (cases_lt 1 seq.step);
  by_step = λ s t lt_s lt_t same. ⊎_elim
      (λ step. ap (is_by_step seq.step) (same_distance seq k p s t h step lt_s lt_t))
      (λ plain. no_step seq.step (distance (pos (place_in (closed_up p seq.scalars k) s)) (pos (place_in (closed_up p seq.scalars k) t))) plain ∙ sym (no_step seq.step (distance (p.offset s) (p.offset t)) plain))
      (cases_lt 1 seq.step);
}

pub closed_up_costs : (seq : Sequence) (k : ℕ) (p : Placement) → IsSequence seq → IsPlacement seq k p → arranged_cost seq (closed_up p seq.scalars k) ≤ cost_of seq p
closed_up_costs seq k p is h = cost_of_follows seq (λ s. s < seq.scalars) p (placement_of (closed_up p seq.scalars k)) (lists_follow seq k p h) is.scalars
