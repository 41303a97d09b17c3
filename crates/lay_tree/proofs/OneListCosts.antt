-- At step 1 the scalars outside of closed lists, which stand in one list, cost a load for each block that has one, and each two neighbours that aren't beside one another
-- in it.
use Rattle.std.proofs.Common.{◌≡◌, ◌<◌, ◌≤◌, ◌+◌, ◌*◌, ◌∙◌, ◌++◌, ℕ, suc, List, [], ◌∷◌, Bool, true, false, refl, length, map, ap, sym, subst, inl, inr, arith}
use Rattle.std.specs.Prelude.{◌⊎◌, ◌==◌, ℤ, pos, negsuc, ◌-ℤ◌, nat_abs, nat_le, Option, Some, None, is_some, fold, filter, sum_by, if◌then◌else◌}
use Rattle.std.specs.List.{concat, list_any}
use Rattle.std.proofs.lemmas.Bool.{cases_eq, or_cases, or_from, both_ways, cond-true, eqb-true, eq-eqb, eqb-false, leb-true}
use Rattle.std.proofs.lemmas.Int.{ints}
use Rattle.std.proofs.lemmas.List.Sums.{sum_by-cons}
use Rattle.lay_model.specs.Sequences.{Sequence, Block}
use Rattle.lay_cost.specs.Placements.{has, list_of, position_in, placement_of}
use Rattle.lay_cost.specs.Cost.{Tally, no_access, with_access, with_step_load, block_cost, access_cost, steps, distance, move_cost, arranged_cost}
use Rattle.lay_tree.proofs.Members.{IsIn, IsOnce}
use Rattle.lay_tree.proofs.Registers.{placed_in_front, placed_last}
use Rattle.lay_tree.proofs.ClosedCosts.{at_register, out, due, due_none, times_le, weighed}
use Rattle.lay_tree.proofs.Pairs.{pairs_in, adjacent_in, once_beside, all_beside, all_beside_more, all_beside_one, all_beside_none, at_most_once, not_beside_itself, pair_from, bit, of_pairs, of_adjacent}
use Rattle.lay_cost.specs.Weights.{is_pair, times_beside, weight_between}
use Rattle.lay_cost.specs.Restricted.{restricted_block, loads}
use Rattle.lay_cost.specs.Parts.{part_cost_of}
use Rattle.lay_tree.specs.Bound.{sum_of_pairs, sum_of_adjacent}
use Rattle.lay_tree.proofs.Sums.{sum_swap, sum_same, sum_times}

near_by : (i j : ℕ) (z : ℤ) → pos i -ℤ pos j ≡ z → nat_abs z ≤ 1 → (i ≤ j + 1) × (j ≤ i + 1)
near_by i j (pos n) e h = omega (arith, ints, e)
near_by i j (negsuc n) e h = omega (arith, ints, e)

near : (i j : ℕ) → nat_abs (pos i -ℤ pos j) ≤ 1 → (i ≤ j + 1) × (j ≤ i + 1)
near i j h = near_by i j (pos i -ℤ pos j) refl h

more_has : (s : ℕ) (ss : List ℕ) (y : ℕ) → s == y ≡ false → has (s ∷ ss) y ≡ true → has ss y ≡ true
more_has s ss y other e = elim (or_cases (s == y) (has ss y) e) [ inl same ↦ absurd (both_ways (s == y) other same) | inr more ↦ more ]

record BeginsWith (y : ℕ) (ss : List ℕ) : Type 0 where
  rest : List ℕ
  is : ss ≡ y ∷ rest

begins_with : (y : ℕ) (ss : List ℕ) → has ss y ≡ true → position_in ss y ≡ 0 → BeginsWith y ss
begins_with y [] h e = absurd (both_ways false refl h)
begins_with y (s ∷ ss) h e = go (s == y) refl
  where
    go : (b : Bool) → s == y ≡ b → BeginsWith y (s ∷ ss)
    go true is = record { rest = ss; is = ap (λ z. z ∷ ss) (eqb-true s y is) }
    go false is = let later : position_in (s ∷ ss) y ≡ suc (position_in ss y) = rw (is) refl in absurd (omega (arith, e, later))

head_pair : (s t x y : ℕ) (rest : List ℕ) → is_pair s t x y ≡ true → 1 ≤ once_beside (adjacent_in (s ∷ t ∷ rest)) x y
head_pair s t x y rest e =
    let first : bit (is_pair s t x y) ≡ 1 = rw (e) refl
    in omega (arith, sum_by-cons (λ (p : ℕ × ℕ). if is_pair p.0 p.1 x y then 1 else 0) (s, t) (adjacent_in (t ∷ rest)), first)

tail_pair : (s x y : ℕ) (ss : List ℕ) → once_beside (adjacent_in ss) x y ≤ once_beside (adjacent_in (s ∷ ss)) x y
tail_pair s x y [] = omega arith
tail_pair s x y (t ∷ ss) = omega (arith, sum_by-cons (λ (p : ℕ × ℕ). if is_pair p.0 p.1 x y then 1 else 0) (s, t) (adjacent_in (t ∷ ss)))

-- two scalars that differ and whose positions don't differ by more than 1 stand beside one another
beside_of_near : (x y : ℕ) (list : List ℕ) → has list x ≡ true → has list y ≡ true → (x ≡ y → ⊥) → position_in list x ≤ position_in list y + 1 → position_in list y ≤ position_in list x + 1
    → 1 ≤ once_beside (adjacent_in list) x y
beside_of_near x y [] hx hy differ le ge = absurd (both_ways false refl hx)
beside_of_near x y (s ∷ ss) hx hy differ le ge = go (s == x) refl (s == y) refl (λ hx2 hy2 le2 ge2. beside_of_near x y ss hx2 hy2 differ le2 ge2)
  where
    behind : (z : ℕ) → s == z ≡ false → position_in (s ∷ ss) z ≡ suc (position_in ss z)
    behind z e = rw (e) refl

    first : (z : ℕ) → s == z ≡ true → position_in (s ∷ ss) z ≡ 0
    first z e = rw (e) refl

    go : (a : Bool) → s == x ≡ a → (b : Bool) → s == y ≡ b
        → (has ss x ≡ true → has ss y ≡ true → position_in ss x ≤ position_in ss y + 1 → position_in ss y ≤ position_in ss x + 1 → 1 ≤ once_beside (adjacent_in ss) x y)
        → 1 ≤ once_beside (adjacent_in (s ∷ ss)) x y
    go true is_x true is_y more = absurd (differ (sym (eqb-true s x is_x) ∙ eqb-true s y is_y))
    go true is_x false is_y more =
        let next = begins_with y ss (more_has s ss y is_y hy) (omega (arith, ge, first x is_x, behind y is_y))
        in subst (λ ts. 1 ≤ once_beside (adjacent_in (s ∷ ts)) x y) (sym next.is) (head_pair s y x y next.rest (pair_from s y x y (eqb-false s y is_y) (inl (sym (eqb-true s x is_x), refl))))
    go false is_x true is_y more =
        let next = begins_with x ss (more_has s ss x is_x hx) (omega (arith, le, first y is_y, behind x is_x))
        in subst (λ ts. 1 ≤ once_beside (adjacent_in (s ∷ ts)) x y) (sym next.is) (head_pair s x x y next.rest (pair_from s x x y (eqb-false s x is_x) (inr (refl, sym (eqb-true s y is_y)))))
    go false is_x false is_y more =
        let h = more (more_has s ss x is_x hx) (more_has s ss y is_y hy) (omega (arith, le, behind x is_x, behind y is_y)) (omega (arith, ge, behind x is_x, behind y is_y))
        in omega (arith, h, tail_pair s x y ss)

-- a move from x to y costs 1, or x and y are the same, or they stand beside one another
one_move : (list ms : List ℕ) (x y : ℕ) → IsOnce ms → has list x ≡ true → has list y ≡ true
    → once_beside (pairs_in ms) x y ≤ move_cost 1 (distance (pos (position_in list x)) (pos (position_in list y))) + once_beside (adjacent_in list) x y
one_move list ms x y once hx hy = go (cases_eq x y) (nat_le (distance (pos (position_in list x)) (pos (position_in list y))) 1) refl
  where
    go : (x ≡ y) ⊎ (x ≡ y → ⊥) → (b : Bool) → nat_le (distance (pos (position_in list x)) (pos (position_in list y))) 1 ≡ b
        → once_beside (pairs_in ms) x y ≤ move_cost 1 (distance (pos (position_in list x)) (pos (position_in list y))) + once_beside (adjacent_in list) x y
    go (inl same) b is = omega (arith, not_beside_itself (pairs_in ms) x y same)
    go (inr differ) true is =
        let close = near (position_in list x) (position_in list y) (leb-true _ 1 is) in
        let beside = beside_of_near x y list hx hy differ close.0 close.1
        in omega (arith, at_most_once x y ms once, beside)
    go (inr differ) false is =
        let far : move_cost 1 (distance (pos (position_in list x)) (pos (position_in list y))) ≡ 1 = rw (is) refl
        in omega (arith, at_most_once x y ms once, far)

-- the registers of the closed lists are alike, and the next one stands where the last scalar o outside of them stands
abbrev stands : List ℕ → Option ℕ → Option ℤ
stands list None = None
stands list (Some s) = Some (pos (position_in list s))

abbrev IsInList : List ℕ → Option ℕ → Type 0
IsInList list None = Unit {0}
IsInList list (Some s) = has list s ≡ true

record IsWith (many : ℕ) (list : List ℕ) (o : Option ℕ) (t u : Tally) : Type 0 where
  last : (r : ℕ) → r < many → t.last r ≡ u.last r
  level : u.stepped ≡ false
  own : t.last many ≡ stands list o
  inside : IsInList list o

no_steps : (last : Option ℤ) (offset : ℤ) → steps 1 last offset ≡ false
no_steps None offset = refl
no_steps (Some at) offset = refl

with_closed : (cs : List (List ℕ)) (list : List ℕ) (o : Option ℕ) (t u : Tally) (s : ℕ) → has (concat cs) s ≡ true → IsWith (length cs) list o t u
    → IsWith (length cs) list o (with_access 1 (placement_of (cs ++ (list ∷ []))) t s) (with_access 1 (placement_of cs) u s)
with_closed cs list o t u s inside with_it =
    let at = placed_in_front cs (list ∷ []) s inside in
    record {
      last = λ r lt. rw (at.register, at.place, with_it.last r lt) refl;
      level = or_from u.stepped _ with_it.level (no_steps (u.last (list_of cs s)) ((placement_of cs).offset s));
      own = at_register (length cs) (list_of (cs ++ (list ∷ [])) s) _ _ (λ same. absurd (omega (arith, same, at.register, at.below))) ∙ with_it.own;
      inside = with_it.inside;
    }

with_other : (cs : List (List ℕ)) (list : List ℕ) (o : Option ℕ) (t u : Tally) (s : ℕ) → has (concat cs) s ≡ false → has list s ≡ true → IsWith (length cs) list o t u
    → IsWith (length cs) list (Some s) (with_access 1 (placement_of (cs ++ (list ∷ []))) t s) u
with_other cs list o t u s outside inside with_it =
    let at = placed_last cs list s outside inside in
    record {
      last = λ r lt. at_register r (list_of (cs ++ (list ∷ [])) s) _ _ (λ same. absurd (omega (arith, same, at.0, lt))) ∙ with_it.last r lt;
      level = with_it.level;
      own = rw (at.0, at.1) (cond-true (length cs == length cs) _ _ (eq-eqb (length cs) (length cs) refl));
      inside = inside;
    }

-- the last scalar outside, and those that come
abbrev from_last : Option ℕ → List ℕ → List ℕ
from_last None a = a
from_last (Some s) a = s ∷ a

beside_last : (ps : List (ℕ × ℕ)) (o : Option ℕ) → all_beside ps (from_last o []) ≡ 0
beside_last ps None = all_beside_none ps
beside_last ps (Some s) = all_beside_one ps s

-- what is owed along a block: a load where no scalar outside was accessed yet, and each two neighbours outside
abbrev owed : List (List ℕ) → List ℕ → Option ℕ → List ℕ → ℕ
owed cs ms o a = due (is_some o) (list_any (out cs) a) + all_beside (pairs_in ms) (from_last o (filter (out cs) a))

abbrev spared : List (List ℕ) → List ℕ → Option ℕ → List ℕ → ℕ
spared cs list o a = all_beside (adjacent_in list) (from_last o (filter (out cs) a))

abbrev Holds : (cs : List (List ℕ)) (list ms : List ℕ) (o : Option ℕ) (t u : Tally) (a : List ℕ) → Type 0
Holds cs list ms o t u a = with_step_load (fold (with_access 1 (placement_of cs)) u (filter (has (concat cs)) a)) + t.paid + owed cs ms o a ≤ with_step_load (fold (with_access 1 (placement_of (cs ++ (list ∷ [])))) t a) + u.paid + spared cs list o a

-- an access outside pays for the move to it, or the move is spared
pays : (cs : List (List ℕ)) (list ms : List ℕ) (o : Option ℕ) (s : ℕ) (a : List ℕ) → IsOnce ms → IsInList list o → has list s ≡ true
    → due (is_some o) true + all_beside (pairs_in ms) (from_last o (s ∷ a)) + all_beside (adjacent_in list) (s ∷ a) ≤ access_cost 1 (stands list o) (pos (position_in list s)) + all_beside (pairs_in ms) (s ∷ a) + all_beside (adjacent_in list) (from_last o (s ∷ a))
pays cs list ms None s a once before now = omega arith
pays cs list ms (Some x) s a once before now = omega (arith, one_move list ms x s once before now, all_beside_more (pairs_in ms) x s a, all_beside_more (adjacent_in list) x s a)

one_list_along : (cs : List (List ℕ)) (list ms : List ℕ) (o : Option ℕ) (t u : Tally) (a : List ℕ) → IsOnce ms → IsWith (length cs) list o t u
    → ((s : ℕ) → IsIn s a → has (concat cs) s ≡ false → has list s ≡ true) → Holds cs list ms o t u a
one_list_along cs list ms o t u [] once with_it all =
    let level : with_step_load u ≡ u.paid + 0 = rw (with_it.level) refl
    in omega (arith, due_none (is_some o), beside_last (pairs_in ms) o, beside_last (adjacent_in list) o, level)
one_list_along cs list ms o t u (s ∷ a) once with_it all = go (has (concat cs) s) refl (λ o2 t2 u2 h. one_list_along cs list ms o2 t2 u2 a once h (λ r i. all r (inr i)))
  where
    go : (b : Bool) → has (concat cs) s ≡ b → ((o2 : Option ℕ) (t2 u2 : Tally) → IsWith (length cs) list o2 t2 u2 → Holds cs list ms o2 t2 u2 a) → Holds cs list ms o t u (s ∷ a)
    go true is more =
        let at = placed_in_front cs (list ∷ []) s is in
        let t1 = with_access 1 (placement_of (cs ++ (list ∷ []))) t s in
        let u1 = with_access 1 (placement_of cs) u s in
        let paid : t1.paid ≡ t.paid + access_cost 1 (u.last (list_of cs s)) ((placement_of cs).offset s) = rw (at.register, at.place, with_it.last (list_of cs s) at.below) refl in
        let h = more o t1 u1 (with_closed cs list o t u s is with_it)
        in rw (is) (omega (arith, h, paid))
    go false is more =
        let inside = all s (inl refl) is in
        let at = placed_last cs list s is inside in
        let t1 = with_access 1 (placement_of (cs ++ (list ∷ []))) t s in
        let paid : t1.paid ≡ t.paid + access_cost 1 (stands list o) (pos (position_in list s)) = rw (at.0, at.1, with_it.own) refl in
        let h = more (Some s) t1 u (with_other cs list o t u s is inside with_it)
        in rw (is) (omega (arith, h, paid, pays cs list ms o s (filter (out cs) a) once with_it.inside inside))

with_before : (cs : List (List ℕ)) (list : List ℕ) → IsWith (length cs) list None no_access no_access
with_before cs list = record { last = λ r lt. refl; level = refl; own = refl; inside = tt }

pub one_list_block : (cs : List (List ℕ)) (list ms a : List ℕ) → IsOnce ms → ((s : ℕ) → IsIn s a → has (concat cs) s ≡ false → has list s ≡ true)
    → block_cost 1 (placement_of cs) (filter (has (concat cs)) a) + (bit (list_any (out cs) a) + all_beside (pairs_in ms) (filter (out cs) a)) ≤ block_cost 1 (placement_of (cs ++ (list ∷ []))) a + all_beside (adjacent_in list) (filter (out cs) a)
one_list_block cs list ms a once all = omega (arith, one_list_along cs list ms None no_access no_access a once (with_before cs list) all)

-- the sums over pairs, block by block
by_blocks : (set : ℕ → Bool) (ps : List (ℕ × ℕ)) (bs : List Block)
    → sum_by (λ (p : ℕ × ℕ). sum_by (λ b. b.weight * times_beside p.0 p.1 (filter set b.accesses)) bs) ps ≡ sum_by (λ b. b.weight * all_beside ps (filter set b.accesses)) bs
by_blocks set ps bs =
    sum_swap (λ (p : ℕ × ℕ) b. b.weight * times_beside p.0 p.1 (filter set b.accesses)) ps bs
    ∙ sum_same (λ b. sum_by (λ (p : ℕ × ℕ). b.weight * times_beside p.0 p.1 (filter set b.accesses)) ps) (λ b. b.weight * all_beside ps (filter set b.accesses)) bs (λ b. sum_times b.weight (λ (p : ℕ × ℕ). times_beside p.0 p.1 (filter set b.accesses)) ps)

pub pairs_by_blocks : (seq : Sequence) (set : ℕ → Bool) (ms : List ℕ) → sum_of_pairs (weight_between seq set) ms ≡ sum_by (λ b. b.weight * all_beside (pairs_in ms) (filter set b.accesses)) seq.blocks
pairs_by_blocks seq set ms = of_pairs (weight_between seq set) ms ∙ by_blocks set (pairs_in ms) seq.blocks

pub adjacent_by_blocks : (seq : Sequence) (set : ℕ → Bool) (list : List ℕ) → sum_of_adjacent (weight_between seq set) list ≡ sum_by (λ b. b.weight * all_beside (adjacent_in list) (filter set b.accesses)) seq.blocks
adjacent_by_blocks seq set list = of_adjacent (weight_between seq set) list ∙ by_blocks set (adjacent_in list) seq.blocks

-- w times each side
four_scaled : (w a d p c q : ℕ) → a + (d + p) ≤ c + q → w * a + (w * d + w * p) ≤ w * c + w * q
four_scaled w a d p c q h = omega (arith, times_le w (a + (d + p)) (c + q) h)

-- an access of the blocks
abbrev pub AreIn : List ℕ → List (List ℕ) → List Block → Type 0
AreIn list cs bs = (b : Block) → IsIn b bs → (s : ℕ) → IsIn s b.accesses → has (concat cs) s ≡ false → has list s ≡ true

one_list_blocks : (cs : List (List ℕ)) (list ms : List ℕ) (bs : List Block) → IsOnce ms → AreIn list cs bs
    → sum_by (λ b. b.weight * block_cost 1 (placement_of cs) b.accesses) (map (restricted_block (has (concat cs))) bs) + (sum_by (λ b. if list_any (out cs) b.accesses then b.weight else 0) bs + sum_by (λ b. b.weight * all_beside (pairs_in ms) (filter (out cs) b.accesses)) bs)
    ≤ sum_by (λ b. b.weight * block_cost 1 (placement_of (cs ++ (list ∷ []))) b.accesses) bs + sum_by (λ b. b.weight * all_beside (adjacent_in list) (filter (out cs) b.accesses)) bs
one_list_blocks cs list ms [] once all = omega arith
one_list_blocks cs list ms (b ∷ bs) once all =
    let first = four_scaled b.weight _ _ _ _ _ (one_list_block cs list ms b.accesses once (all b (inl refl))) in
    let more = one_list_blocks cs list ms bs once (λ c i. all c (inr i))
    in omega (
      arith,
      first,
      more,
      weighed b.weight (list_any (out cs) b.accesses),
      sum_by-cons (λ c. c.weight * block_cost 1 (placement_of cs) c.accesses) (restricted_block (has (concat cs)) b) (map (restricted_block (has (concat cs))) bs),
      sum_by-cons (λ c. if list_any (out cs) c.accesses then c.weight else 0) b bs,
      sum_by-cons (λ c. c.weight * all_beside (pairs_in ms) (filter (out cs) c.accesses)) b bs,
      sum_by-cons (λ c. c.weight * all_beside (adjacent_in list) (filter (out cs) c.accesses)) b bs,
      sum_by-cons (λ c. c.weight * block_cost 1 (placement_of (cs ++ (list ∷ []))) c.accesses) b bs,
    )

at_step : (step : ℕ) (cs : List (List ℕ)) (list ms : List ℕ) (bs : List Block) → step ≡ 1 → IsOnce ms → AreIn list cs bs
    → sum_by (λ b. b.weight * block_cost step (placement_of cs) b.accesses) (map (restricted_block (has (concat cs))) bs) + (sum_by (λ b. if list_any (out cs) b.accesses then b.weight else 0) bs + sum_by (λ b. b.weight * all_beside (pairs_in ms) (filter (out cs) b.accesses)) bs)
    ≤ sum_by (λ b. b.weight * block_cost step (placement_of (cs ++ (list ∷ []))) b.accesses) bs + sum_by (λ b. b.weight * all_beside (adjacent_in list) (filter (out cs) b.accesses)) bs
at_step step cs list ms bs one once all = rw (one) (one_list_blocks cs list ms bs once all)

pub one_list : (seq : Sequence) (cs : List (List ℕ)) (list ms : List ℕ) → seq.step ≡ 1 → IsOnce ms → AreIn list cs seq.blocks
    → part_cost_of seq cs + (loads seq (out cs) + sum_of_pairs (weight_between seq (out cs)) ms) ≤ arranged_cost seq (cs ++ (list ∷ [])) + sum_of_adjacent (weight_between seq (out cs)) list
one_list seq cs list ms one once all = omega (arith, at_step seq.step cs list ms seq.blocks one once all, pairs_by_blocks seq (out cs) ms, adjacent_by_blocks seq (out cs) list)
