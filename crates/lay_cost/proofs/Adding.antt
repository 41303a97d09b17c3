-- At a step of 1 the costs of lists add up.
use Rattle.std.proofs.Common.{◌≡◌, ℕ, suc, ◌+◌, ◌*◌, ◌<◌, Bool, true, false, cond, ◌==◌, ◌||◌, ℤ, pos, List, [], ◌∷◌, ◌++◌, length, filter, fold, sum_by, count_by, Option, Some, refl, ap, ap₂, sym, ◌∙◌, arith, if◌then◌else◌, true≢false, ne_eqb}
use Rattle.std.specs.List.{concat}
use Rattle.std.proofs.lemmas.Bool.{or_parts}
use Rattle.std.proofs.lemmas.Bool.Decides.{nat_tests}
use Rattle.std.proofs.lemmas.List.Folds.{list_any-append, concat-append}
use Rattle.std.proofs.lemmas.List.Sums.{sum_by-cons, sum_by-append}
use Rattle.lay_model.specs.Sequences.{Sequence, Block}
use Rattle.lay_cost.specs.Placements.{Placement, has, list_of, place_in, position_in, placement_of}
use Rattle.lay_cost.specs.Cost.{Tally, no_access, with_access, with_step_load, block_cost}
use Rattle.lay_cost.specs.Parts.{part_cost_of}
use Rattle.lay_cost.proofs.Bounds.{cost_of_restricted, no_step_at_1}
use Rattle.lay_cost.proofs.PlaceLemmas.{Once, list_of_lt}
use Rattle.lay_cost.proofs.Listed.{counted}

-- a scalar of the front lists lies where it did
pub front_list : (cs os : List (List ℕ)) (s : ℕ) → has (concat cs) s ≡ true → (list_of (cs ++ os) s ≡ list_of cs s) × (place_in (cs ++ os) s ≡ place_in cs s)
front_list [] os s e = absurd (true≢false (sym e))
front_list (c ∷ cs) os s e = by (has c s) refl (front_list cs os s)
  where
    by : (t : Bool) → has c s ≡ t → (has (concat cs) s ≡ true → (list_of (cs ++ os) s ≡ list_of cs s) × (place_in (cs ++ os) s ≡ place_in cs s)) → ((if t then 0 else suc (list_of (cs ++ os) s)) ≡ (if t then 0 else suc (list_of cs s))) × ((if t then position_in c s else place_in (cs ++ os) s) ≡ (if t then position_in c s else place_in cs s))
    by true is rest = (refl, refl)
    by false is rest = let r = rest (ap (λ b. b || has (concat cs) s) (sym is) ∙ sym (list_any-append (λ y. y == s) c (concat cs)) ∙ e) in (ap suc r.0, r.1)

-- another one lies behind them
pub back_list : (cs os : List (List ℕ)) (s : ℕ) → has (concat cs) s ≡ false → (list_of (cs ++ os) s ≡ length cs + list_of os s) × (place_in (cs ++ os) s ≡ place_in os s)
back_list [] os s e = (omega arith, refl)
back_list (c ∷ cs) os s e =
    let parts = or_parts (has c s) (has (concat cs) s) (sym (list_any-append (λ y. y == s) c (concat cs)) ∙ e) in
    let rest = back_list cs os s parts.1 in
    (rw parts.0 (omega (arith, rest.0)), rw parts.0 rest.1)

-- what is kept of all the lists, of the front ones and of those behind
record Adds (front : ℕ) (t u v : Tally) : Type 0 where
  first : (r : ℕ) → r < front → t.last r ≡ u.last r
  second : (r : ℕ) → t.last (front + r) ≡ v.last r
  paid : t.paid ≡ u.paid + v.paid

pub no_match : (r s : ℕ) (new old : Option ℤ) → (r ≡ s → ⊥) → (if r == s then new else old) ≡ old
no_match r s new old n = ap (λ b. if b then new else old) (ne_eqb r s n)

same_shift : (front r s : ℕ) → (front + r == front + s) ≡ (r == s)
same_shift front r s = grind (arith, nat_tests)

adds_front : (cs os : List (List ℕ)) (s : ℕ) (t u v : Tally) → has (concat cs) s ≡ true → Adds (length cs) t u v → Adds (length cs) (with_access 1 (placement_of (cs ++ os)) t s) (with_access 1 (placement_of cs) u s) v
adds_front cs os s t u v e h =
    let at = front_list cs os s e in
    let small = list_of_lt cs s e in
    record {
      first = λ r lt. rw (at.0, at.1, h.first r lt) refl;
      second = λ r. rw at.0 (no_match (length cs + r) (list_of cs s) (Some (pos (place_in (cs ++ os) s))) (t.last (length cs + r)) (λ is. absurd (omega (arith, is, small))) ∙ h.second r);
      paid = rw (at.0, at.1, h.first (list_of cs s) small) (omega (arith, h.paid));
    }

adds_back : (cs os : List (List ℕ)) (s : ℕ) (t u v : Tally) → has (concat cs) s ≡ false → Adds (length cs) t u v → Adds (length cs) (with_access 1 (placement_of (cs ++ os)) t s) u (with_access 1 (placement_of os) v s)
adds_back cs os s t u v e h =
    let at = back_list cs os s e in
    record {
      first = λ r lt. rw at.0 (no_match r (length cs + list_of os s) (Some (pos (place_in (cs ++ os) s))) (t.last r) (λ is. absurd (omega (arith, is, lt))) ∙ h.first r lt);
      second = λ r. rw (at.0, at.1, same_shift (length cs) r (list_of os s), h.second r) refl;
      paid = rw (at.0, at.1, h.second (list_of os s)) (omega (arith, h.paid));
    }

abbrev along : List (List ℕ) → Tally → List ℕ → Tally
along ls t xs = fold (with_access 1 (placement_of ls)) t (filter (has (concat ls)) xs)

pub apart_from : (cs os : List (List ℕ)) (s : ℕ) → Once (concat (cs ++ os)) → has (concat cs) s ≡ true → has (concat os) s ≡ false
apart_from cs os s once e = by (has (concat os) s) refl
  where
    by : (t : Bool) → has (concat os) s ≡ t → t ≡ false
    by true is = absurd (omega (arith, once s, ap (count_by (λ x. x == s)) (concat-append cs os), sum_by-append (λ x. cond (x == s) 1 0) (concat cs) (concat os), counted (concat cs) s e, counted (concat os) s is))
    by false is = refl

pub in_both : (cs os : List (List ℕ)) (s : ℕ) → has (concat (cs ++ os)) s ≡ (has (concat cs) s || has (concat os) s)
in_both cs os s = ap (λ l. has l s) (concat-append cs os) ∙ list_any-append (λ y. y == s) (concat cs) (concat os)

adds_along : (cs os : List (List ℕ)) (xs : List ℕ) (t u v : Tally) → Once (concat (cs ++ os)) → Adds (length cs) t u v → Adds (length cs) (along (cs ++ os) t xs) (along cs u xs) (along os v xs)
adds_along cs os [] t u v once h = h
adds_along cs os (s ∷ xs) t u v once h = by (has (concat cs) s) (has (concat os) s) refl refl (λ t2 u2 v2 k. adds_along cs os xs t2 u2 v2 once k)
  where
    by : (a b : Bool) → has (concat cs) s ≡ a → has (concat os) s ≡ b → ((t2 u2 v2 : Tally) → Adds (length cs) t2 u2 v2 → Adds (length cs) (along (cs ++ os) t2 xs) (along cs u2 xs) (along os v2 xs)) → Adds (length cs) (along (cs ++ os) t (s ∷ xs)) (along cs u (s ∷ xs)) (along os v (s ∷ xs))
    by true true e f rest = absurd (true≢false (sym f ∙ apart_from cs os s once e))
    by true false e f rest = rw (in_both cs os s, e, f) (rest (with_access 1 (placement_of (cs ++ os)) t s) (with_access 1 (placement_of cs) u s) v (adds_front cs os s t u v e h))
    by false true e f rest = rw (in_both cs os s, e, f) (rest (with_access 1 (placement_of (cs ++ os)) t s) u (with_access 1 (placement_of os) v s) (adds_back cs os s t u v e h))
    by false false e f rest = rw (in_both cs os s, e, f) (rest t u v h)

-- at a step of 1 no step is loaded
pub level : (p : Placement) (xs : List ℕ) (t : Tally) → t.stepped ≡ false → with_step_load (fold (with_access 1 p) t xs) ≡ (fold (with_access 1 p) t xs).paid
level p [] t e = rw e (omega arith)
level p (x ∷ xs) t e = level p xs (with_access 1 p t x) (rw (e, no_step_at_1 (t.last (p.register x)) (p.offset x)) refl)

adds_in_block : (cs os : List (List ℕ)) (xs : List ℕ) → Once (concat (cs ++ os)) → block_cost 1 (placement_of (cs ++ os)) (filter (has (concat (cs ++ os))) xs) ≡ block_cost 1 (placement_of cs) (filter (has (concat cs)) xs) + block_cost 1 (placement_of os) (filter (has (concat os)) xs)
adds_in_block cs os xs once =
    let h = adds_along cs os xs no_access no_access no_access once (record { first = λ r lt. refl; second = λ r. refl; paid = refl }) in
    level (placement_of (cs ++ os)) (filter (has (concat (cs ++ os))) xs) no_access refl
    ∙ h.paid
    ∙ sym (ap₂ (λ a b. a + b) (level (placement_of cs) (filter (has (concat cs)) xs) no_access refl) (level (placement_of os) (filter (has (concat os)) xs) no_access refl))

-- a sum of sums
pub sum_adds : {X : Type 0} (f g h : X → ℕ) (xs : List X) → ((x : X) → f x ≡ g x + h x) → sum_by f xs ≡ sum_by g xs + sum_by h xs
sum_adds f g h [] e = refl
sum_adds f g h (x ∷ xs) e = omega (arith, sum_by-cons f x xs, sum_by-cons g x xs, sum_by-cons h x xs, e x, sum_adds f g h xs e)

times_adds : (w a b c : ℕ) → a ≡ b + c → w * a ≡ w * b + w * c
times_adds w a b c e = rw e (omega arith)

abbrev kept : ℕ → List (List ℕ) → Block → ℕ
kept step ls b = b.weight * block_cost step (placement_of ls) (filter (has (concat ls)) b.accesses)

pub part_by_blocks : (seq : Sequence) (ls : List (List ℕ)) → part_cost_of seq ls ≡ sum_by (λ b. b.weight * block_cost seq.step (placement_of ls) (filter (has (concat ls)) b.accesses)) seq.blocks
part_by_blocks seq ls = cost_of_restricted seq (has (concat ls)) (placement_of ls)

adds_at : (step : ℕ) (cs os : List (List ℕ)) (bs : List Block) → step ≡ 1 → Once (concat (cs ++ os)) → sum_by (kept step (cs ++ os)) bs ≡ sum_by (kept step cs) bs + sum_by (kept step os) bs
adds_at step cs os bs one once = sum_adds (kept step (cs ++ os)) (kept step cs) (kept step os) bs (λ b. times_adds b.weight (block_cost step (placement_of (cs ++ os)) (filter (has (concat (cs ++ os))) b.accesses)) (block_cost step (placement_of cs) (filter (has (concat cs)) b.accesses)) (block_cost step (placement_of os) (filter (has (concat os)) b.accesses)) (rw one (adds_in_block cs os b.accesses once)))

-- lists of different scalars cost what they cost by themselves
pub parts_add : (seq : Sequence) (cs os : List (List ℕ)) → seq.step ≡ 1 → Once (concat (cs ++ os)) → part_cost_of seq (cs ++ os) ≡ part_cost_of seq cs + part_cost_of seq os
parts_add seq cs os one once = part_by_blocks seq (cs ++ os) ∙ adds_at seq.step cs os seq.blocks one once ∙ sym (ap₂ (λ a b. a + b) (part_by_blocks seq cs) (part_by_blocks seq os))
