-- Closed lists cost what they do over their own accesses, and each block that holds another scalar loads a register more.
use Rattle.std.proofs.Common.{◌≡◌, ℕ, ◌+◌, ◌*◌, ◌<◌, ◌≤◌, Bool, true, false, ◌||◌, ℤ, pos, List, [], ◌∷◌, ◌++◌, length, filter, fold, Option, Some, None, refl, ◌∙◌, arith, if◌then◌else◌, true≢false, le_refl}
use Rattle.std.specs.List.{concat, list_any}
use Rattle.std.proofs.Math.Nat.{mul-le-mul_left}
use Rattle.std.proofs.Math.Bool.{or-false}
use Rattle.std.proofs.lemmas.List.Sums.{sum_by-le-sum_by}
use Rattle.lay_model.specs.Sequences.{Sequence, Block}
use Rattle.lay_cost.specs.Placements.{has, list_of, place_in, placement_of}
use Rattle.lay_cost.specs.Cost.{Tally, no_access, with_access, access_cost, steps, block_cost, arranged_cost}
use Rattle.lay_cost.specs.Restricted.{loads}
use Rattle.lay_cost.specs.Parts.{part_cost_of, is_outside}
use Rattle.lay_cost.proofs.PlaceLemmas.{list_of_lt}
use Rattle.lay_cost.proofs.Adding.{front_list, back_list, no_match, sum_adds, part_by_blocks}

abbrev bit : Bool → ℕ
bit t = if t then 1 else 0

-- what is kept of all lists, and of the front ones alone, where an access of another scalar was seen or not
record Under (front : ℕ) (seen : Bool) (t u : Tally) : Type 0 where
  first : (r : ℕ) → r < front → t.last r ≡ u.last r
  behind : seen ≡ false → (r : ℕ) → front ≤ r → t.last r ≡ None
  stepped : u.stepped ≡ true → t.stepped ≡ true
  paid : u.paid + bit seen ≤ t.paid

or_implied : (a b c : Bool) → (a ≡ true → b ≡ true) → (a || c) ≡ true → (b || c) ≡ true
or_implied true b c h e = rw (h refl) refl
or_implied false true c h e = refl
or_implied false false c h e = e

or_left_true : (b c : Bool) → b ≡ true → (b || c) ≡ true
or_left_true b c e = rw e refl

under_front : (cs os : List (List ℕ)) (step s : ℕ) (seen : Bool) (t u : Tally) → has (concat cs) s ≡ true → Under (length cs) seen t u → Under (length cs) seen (with_access step (placement_of (cs ++ os)) t s) (with_access step (placement_of cs) u s)
under_front cs os step s seen t u e h =
    let at = front_list cs os s e in
    let small = list_of_lt cs s e in
    record {
      first = λ r lt. rw (at.0, at.1, h.first r lt) refl;
      behind = λ none r le. rw at.0 (no_match r (list_of cs s) (Some (pos (place_in (cs ++ os) s))) (t.last r) (λ is. absurd (omega (arith, is, small, le))) ∙ h.behind none r le);
      stepped = rw (at.0, at.1, h.first (list_of cs s) small) (or_implied u.stepped t.stepped (steps step (u.last (list_of cs s)) (pos (place_in cs s))) h.stepped);
      paid = rw (at.0, at.1, h.first (list_of cs s) small) (omega (arith, h.paid));
    }

first_cost : (step : ℕ) (seen : Bool) (last : Option ℤ) (offset : ℤ) → (seen ≡ false → last ≡ None) → 1 ≤ access_cost step last offset + bit seen
first_cost step true last offset h = omega arith
first_cost step false last offset h = rw (h refl) (omega arith)

under_other : (cs os : List (List ℕ)) (step s : ℕ) (seen : Bool) (t u : Tally) → has (concat cs) s ≡ false → Under (length cs) seen t u → Under (length cs) true (with_access step (placement_of (cs ++ os)) t s) u
under_other cs os step s seen t u e h =
    let at = back_list cs os s e in
    let none = λ (n : seen ≡ false). h.behind n (list_of (cs ++ os) s) (omega (arith, at.0)) in
    record {
      first = λ r lt. no_match r (list_of (cs ++ os) s) (Some (pos (place_in (cs ++ os) s))) (t.last r) (λ is. absurd (omega (arith, is, at.0, lt))) ∙ h.first r lt;
      behind = λ n. absurd (true≢false n);
      stepped = λ yes. or_left_true t.stepped (steps step (t.last (list_of (cs ++ os) s)) (pos (place_in (cs ++ os) s))) (h.stepped yes);
      paid = omega (arith, h.paid, first_cost step seen (t.last (list_of (cs ++ os) s)) (pos (place_in (cs ++ os) s)) none);
    }

abbrev front_tally : List (List ℕ) → ℕ → Tally → List ℕ → Tally
front_tally cs step u xs = fold (with_access step (placement_of cs)) u (filter (has (concat cs)) xs)

abbrev whole_tally : List (List ℕ) → ℕ → Tally → List ℕ → Tally
whole_tally ls step t xs = fold (with_access step (placement_of ls)) t xs

under_along : (cs os : List (List ℕ)) (step : ℕ) (xs : List ℕ) (seen : Bool) (t u : Tally) → Under (length cs) seen t u → Under (length cs) (seen || list_any (is_outside cs) xs) (whole_tally (cs ++ os) step t xs) (front_tally cs step u xs)
under_along cs os step [] seen t u h = rw (or-false seen) h
under_along cs os step (s ∷ xs) seen t u h = by (has (concat cs) s) seen refl h (λ seen2 t2 u2 k. under_along cs os step xs seen2 t2 u2 k)
  where
    by : (a seen : Bool) → has (concat cs) s ≡ a → Under (length cs) seen t u → ((seen2 : Bool) (t2 u2 : Tally) → Under (length cs) seen2 t2 u2 → Under (length cs) (seen2 || list_any (is_outside cs) xs) (whole_tally (cs ++ os) step t2 xs) (front_tally cs step u2 xs)) → Under (length cs) (seen || (is_outside cs s || list_any (is_outside cs) xs)) (whole_tally (cs ++ os) step t (s ∷ xs)) (front_tally cs step u (s ∷ xs))
    by true seen e k rest = rw e (rest seen (with_access step (placement_of (cs ++ os)) t s) (with_access step (placement_of cs) u s) (under_front cs os step s seen t u e k))
    by false true e k rest = rw e (rest true (with_access step (placement_of (cs ++ os)) t s) u (under_other cs os step s true t u e k))
    by false false e k rest = rw e (rest true (with_access step (placement_of (cs ++ os)) t s) u (under_other cs os step s false t u e k))

bit_le : (a b : Bool) → (a ≡ true → b ≡ true) → bit a ≤ bit b
bit_le true b h = rw (h refl) (le_refl 1)
bit_le false b h = omega arith

-- one block
others_in_block : (cs os : List (List ℕ)) (step : ℕ) (xs : List ℕ) → block_cost step (placement_of cs) (filter (has (concat cs)) xs) + bit (list_any (is_outside cs) xs) ≤ block_cost step (placement_of (cs ++ os)) xs
others_in_block cs os step xs =
    let h = under_along cs os step xs false no_access no_access (record { first = λ r lt. refl; behind = λ n r le. refl; stepped = λ n. n; paid = le_refl 0 }) in
    omega (arith, h.paid, bit_le (front_tally cs step no_access xs).stepped (whole_tally (cs ++ os) step no_access xs).stepped h.stepped)

weighed_le : (w a c : ℕ) (t : Bool) → a + bit t ≤ c → w * a + (if t then w else 0) ≤ w * c
weighed_le w a c true h = omega (arith, mul-le-mul_left w h)
weighed_le w a c false h = omega (arith, mul-le-mul_left w h)

pub others_load : (seq : Sequence) (cs os : List (List ℕ)) → part_cost_of seq cs + loads seq (is_outside cs) ≤ arranged_cost seq (cs ++ os)
others_load seq cs os =
    let kept = λ (b : Block). b.weight * block_cost seq.step (placement_of cs) (filter (has (concat cs)) b.accesses) in
    let loaded = λ (b : Block). if list_any (is_outside cs) b.accesses then b.weight else 0 in
    let whole = λ (b : Block). b.weight * block_cost seq.step (placement_of (cs ++ os)) b.accesses in
    omega (
      arith,
      part_by_blocks seq cs,
      sum_adds (λ b. kept b + loaded b) kept loaded seq.blocks (λ b. refl),
      sum_by-le-sum_by (λ b. kept b + loaded b) whole seq.blocks (λ b. weighed_le b.weight (block_cost seq.step (placement_of cs) (filter (has (concat cs)) b.accesses)) (block_cost seq.step (placement_of (cs ++ os)) b.accesses) (list_any (is_outside cs) b.accesses) (others_in_block cs os seq.step b.accesses)),
    )
