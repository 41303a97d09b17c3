-- What closed lists cost by themselves, and a load for each block that has another scalar, is at most what they cost together with other lists.
use Rattle.std.proofs.Common.{◌≡◌, ◌<◌, ◌≤◌, ◌+◌, ◌*◌, ◌∙◌, ◌++◌, ℕ, List, [], ◌∷◌, Bool, true, false, not, refl, length, map, inl, inr, arith}
use Rattle.std.specs.Prelude.{◌==◌, ℤ, Option, None, fold, filter, sum_by, if◌then◌else◌}
use Rattle.std.specs.List.{concat, list_any}
use Rattle.std.proofs.lemmas.Bool.{or_cases, or_left, or_right, both_ways, cond-false, ne_eqb}
use Rattle.std.proofs.lemmas.List.Sums.{sum_by-cons}
use Rattle.lay_model.specs.Sequences.{Sequence, Block}
use Rattle.lay_cost.specs.Placements.{has, list_of, placement_of}
use Rattle.lay_cost.specs.Cost.{Tally, no_access, with_access, with_step_load, block_cost, access_cost, steps, arranged_cost}
use Rattle.lay_cost.specs.Restricted.{restricted_block, loads}
use Rattle.lay_cost.specs.Parts.{part_cost_of}
use Rattle.lay_tree.proofs.Registers.{placed_in_front, placed_behind}

-- the registers of the first lists are alike, and those of the others are untouched as long as no other scalar was accessed
record IsAlike (many : ℕ) (seen : Bool) (t u : Tally) : Type 0 where
  last : (r : ℕ) → r < many → t.last r ≡ u.last r
  stepped : u.stepped ≡ true → t.stepped ≡ true
  untouched : seen ≡ false → (r : ℕ) → many ≤ r → t.last r ≡ None

alike_before : (many : ℕ) → IsAlike many false no_access no_access
alike_before many = record { last = λ r lt. refl; stepped = λ e. e; untouched = λ e r le. refl }

pub at_register : (q r : ℕ) (new old : Option ℤ) → (q ≡ r → ⊥) → (if q == r then new else old) ≡ old
at_register q r new old differ = cond-false (q == r) new old (ne_eqb q r differ)

-- behind an access of one of the first lists
behind_closed : (cs os : List (List ℕ)) (step : ℕ) (seen : Bool) (t u : Tally) (s : ℕ) → has (concat cs) s ≡ true → IsAlike (length cs) seen t u
    → IsAlike (length cs) seen (with_access step (placement_of (cs ++ os)) t s) (with_access step (placement_of cs) u s)
behind_closed cs os step seen t u s inside alike =
    let at = placed_in_front cs os s inside in
    record {
      last = λ r lt. rw (at.register, at.place, alike.last r lt) refl;
      stepped = λ e. rw (at.register, at.place, alike.last (list_of cs s) at.below) (elim (or_cases u.stepped (steps step (u.last (list_of cs s)) ((placement_of cs).offset s)) e) [
        | inl before ↦ or_left t.stepped _ (alike.stepped before)
        | inr now ↦ or_right t.stepped _ now
      ]);
      untouched = λ e r le. at_register r (list_of (cs ++ os) s) _ _ (λ same. absurd (omega (arith, same, at.register, at.below, le))) ∙ alike.untouched e r le;
    }

-- behind another one
behind_other : (cs os : List (List ℕ)) (step : ℕ) (seen : Bool) (t u : Tally) (s : ℕ) → has (concat cs) s ≡ false → IsAlike (length cs) seen t u
    → IsAlike (length cs) true (with_access step (placement_of (cs ++ os)) t s) u
behind_other cs os step seen t u s out alike =
    let at = placed_behind cs os s out in
    record {
      last = λ r lt. at_register r (list_of (cs ++ os) s) _ _ (λ same. absurd (omega (arith, same, at.register, lt))) ∙ alike.last r lt;
      stepped = λ e. or_left t.stepped _ (alike.stepped e);
      untouched = λ e r le. absurd (both_ways true e refl);
    }

-- whether a scalar stands outside of the first lists
abbrev pub out : List (List ℕ) → ℕ → Bool
out cs s = not (has (concat cs) s)

abbrev pub load_of : Bool → ℕ
load_of touched = if touched then 1 else 0

-- a load that isn't paid yet
abbrev pub due : Bool → Bool → ℕ
due true touched = 0
due false touched = load_of touched

pub due_none : (seen : Bool) → due seen false ≡ 0
due_none true = refl
due_none false = refl

load_le : (s t : Bool) → (s ≡ true → t ≡ true) → (if s then 1 else 0) ≤ (if t then 1 else 0)
load_le true t h = rw (h refl) (omega arith)
load_le false t h = omega arith

-- along a block
along : (cs os : List (List ℕ)) (step : ℕ) (seen : Bool) (t u : Tally) (a : List ℕ) → IsAlike (length cs) seen t u
    → with_step_load (fold (with_access step (placement_of cs)) u (filter (has (concat cs)) a)) + t.paid + due seen (list_any (out cs) a) ≤ with_step_load (fold (with_access step (placement_of (cs ++ os))) t a) + u.paid
along cs os step seen t u [] alike = omega (arith, due_none seen, load_le u.stepped t.stepped alike.stepped)
along cs os step seen t u (s ∷ a) alike = go (has (concat cs) s) refl seen refl (λ seen2 t2 u2 h. along cs os step seen2 t2 u2 a h)
  where
    go : (b : Bool) → has (concat cs) s ≡ b → (seen1 : Bool) → seen ≡ seen1
        → ((seen2 : Bool) (t2 u2 : Tally) → IsAlike (length cs) seen2 t2 u2 → with_step_load (fold (with_access step (placement_of cs)) u2 (filter (has (concat cs)) a)) + t2.paid + due seen2 (list_any (out cs) a) ≤ with_step_load (fold (with_access step (placement_of (cs ++ os))) t2 a) + u2.paid)
        → with_step_load (fold (with_access step (placement_of cs)) u (filter (has (concat cs)) (s ∷ a))) + t.paid + due seen (list_any (out cs) (s ∷ a)) ≤ with_step_load (fold (with_access step (placement_of (cs ++ os))) t (s ∷ a)) + u.paid
    go true is seen1 seen_is more =
        let at = placed_in_front cs os s is in
        let t1 = with_access step (placement_of (cs ++ os)) t s in
        let u1 = with_access step (placement_of cs) u s in
        let paid : t1.paid ≡ t.paid + access_cost step (u.last (list_of cs s)) ((placement_of cs).offset s) = rw (at.register, at.place, alike.last (list_of cs s) at.below) refl in
        let h = more seen t1 u1 (behind_closed cs os step seen t u s is alike)
        in rw (is) (omega (arith, h, paid))
    go false is true seen_is more =
        let t1 = with_access step (placement_of (cs ++ os)) t s in
        let h = more true t1 u (behind_other cs os step seen t u s is alike)
        in rw (is, seen_is) (omega (arith, h))
    go false is false seen_is more =
        let at = placed_behind cs os s is in
        let t1 = with_access step (placement_of (cs ++ os)) t s in
        let none : t.last (list_of (cs ++ os) s) ≡ None = alike.untouched seen_is (list_of (cs ++ os) s) (omega (arith, at.register)) in
        let paid : t1.paid ≡ t.paid + 1 = rw (none) refl in
        let h = more true t1 u (behind_other cs os step seen t u s is alike)
        in rw (is, seen_is) (omega (arith, h, paid))

-- a block
pub closed_block : (cs os : List (List ℕ)) (step : ℕ) (a : List ℕ) → block_cost step (placement_of cs) (filter (has (concat cs)) a) + load_of (list_any (out cs) a) ≤ block_cost step (placement_of (cs ++ os)) a
closed_block cs os step a = omega (arith, along cs os step false no_access no_access a (alike_before (length cs)))

pub times_le : (w m y : ℕ) → m ≤ y → m * w ≤ y * w
times_le w m y h = grind arith

pub scaled : (w x d y : ℕ) → x + d ≤ y → w * x + w * d ≤ w * y
scaled w x d y h = omega (arith, times_le w (x + d) y h)

pub weighed : (w : ℕ) (touched : Bool) → (if touched then w else 0) ≡ w * load_of touched
weighed w true = omega arith
weighed w false = omega arith

closed_blocks : (cs os : List (List ℕ)) (step : ℕ) (bs : List Block)
    → sum_by (λ b. b.weight * block_cost step (placement_of cs) b.accesses) (map (restricted_block (has (concat cs))) bs) + sum_by (λ b. if list_any (out cs) b.accesses then b.weight else 0) bs
    ≤ sum_by (λ b. b.weight * block_cost step (placement_of (cs ++ os)) b.accesses) bs
closed_blocks cs os step [] = omega arith
closed_blocks cs os step (b ∷ bs) =
    let first = scaled b.weight _ _ _ (closed_block cs os step b.accesses) in
    let more = closed_blocks cs os step bs
    in omega (
      arith,
      first,
      more,
      weighed b.weight (list_any (out cs) b.accesses),
      sum_by-cons (λ c. c.weight * block_cost step (placement_of cs) c.accesses) (restricted_block (has (concat cs)) b) (map (restricted_block (has (concat cs))) bs),
      sum_by-cons (λ c. if list_any (out cs) c.accesses then c.weight else 0) b bs,
      sum_by-cons (λ c. c.weight * block_cost step (placement_of (cs ++ os)) c.accesses) b bs,
    )

pub closed_lists : (seq : Sequence) (cs os : List (List ℕ)) → part_cost_of seq cs + loads seq (out cs) ≤ arranged_cost seq (cs ++ os)
closed_lists seq cs os = closed_blocks cs os seq.step seq.blocks
