-- A placement with the same scalars on a register, moves of which cost no more, costs no more.
use Rattle.std.proofs.Common.{◌≡◌, ℕ, ◌*◌, ◌≤◌, ◌⊎◌, inl, inr, Bool, true, false, ◌||◌, ◌==◌, ℤ, List, [], ◌∷◌, Option, Some, None, fold, sum_by, refl, ap, ap₂, sym, ◌∙◌, if◌then◌else◌, le_refl, add-le-add, eqb-true, eq-eqb, ne_eqb, ⊎_elim}
use Rattle.std.proofs.lemmas.Bool.{cases_eq}
use Rattle.std.proofs.Math.Nat.{mul-le-mul_left, le_antisymm}
use Rattle.std.specs.Prelude.{All}
use Rattle.std.proofs.lemmas.List.Elements.{All-head, All-tail}
use Rattle.std.proofs.lemmas.List.Sums.{sum_by-cons}
use Rattle.lay_model.specs.Sequences.{Sequence, Block}
use Rattle.lay_cost.specs.Placements.{Placement}
use Rattle.lay_cost.specs.Cost.{Tally, access_cost, move_cost, is_by_step, distance, steps, no_access, with_access, block_cost, cost_of}

-- of the scalars of a set: q has the same ones on a register, and its moves cost no more
pub record Follows (step : ℕ) (In : ℕ → Type 0) (p q : Placement) : Type 0 where
  pub same : (s t : ℕ) → In s → In t → (q.register s == q.register t) ≡ (p.register s == p.register t)
  pub near : (s t : ℕ) → In s → In t → p.register s ≡ p.register t → move_cost step (distance (q.offset s) (q.offset t)) ≤ move_cost step (distance (p.offset s) (p.offset t))
  pub by_step : (s t : ℕ) → In s → In t → p.register s ≡ p.register t → is_by_step step (distance (q.offset s) (q.offset t)) ≡ is_by_step step (distance (p.offset s) (p.offset t))

-- one scalar was the last one of a register
record IsLast (In : ℕ → Type 0) (p q : Placement) (s : ℕ) (t u : Option ℤ) : Type 0 where
  scalar : ℕ
  is_in : In scalar
  register : p.register scalar ≡ p.register s
  first : t ≡ Some (p.offset scalar)
  second : u ≡ Some (q.offset scalar)

record AreNone (t u : Option ℤ) : Type 0 where
  first : t ≡ None
  second : u ≡ None

abbrev Alike : (ℕ → Type 0) → Placement → Placement → ℕ → Option ℤ → Option ℤ → Type 0
Alike In p q s t u = AreNone t u ⊎ IsLast In p q s t u

record Along (In : ℕ → Type 0) (p q : Placement) (t u : Tally) : Type 0 where
  lasts : (s : ℕ) → In s → Alike In p q s (t.last (p.register s)) (u.last (q.register s))
  stepped : u.stepped ≡ t.stepped
  paid : u.paid ≤ t.paid

accessed : (In : ℕ → Type 0) (p q : Placement) (s x : ℕ) (b : Bool) (t u : Option ℤ) → (p.register s == p.register x) ≡ b → In x → Alike In p q s t u → Alike In p q s (if b then Some (p.offset x) else t) (if b then Some (q.offset x) else u)
accessed In p q s x true t u e in_x h = inr (record { scalar = x; is_in = in_x; register = sym (eqb-true (p.register s) (p.register x) e); first = refl; second = refl })
accessed In p q s x false t u e in_x h = h

cost_follows : (step : ℕ) (In : ℕ → Type 0) (p q : Placement) (x : ℕ) (t u : Option ℤ) → Follows step In p q → In x → Alike In p q x t u → access_cost step u (q.offset x) ≤ access_cost step t (p.offset x)
cost_follows step In p q x t u f in_x (inl none) = rw (none.first, none.second) (le_refl 1)
cost_follows step In p q x t u f in_x (inr last) = rw (last.first, last.second) (f.near last.scalar x last.is_in in_x last.register)

steps_follow : (step : ℕ) (In : ℕ → Type 0) (p q : Placement) (x : ℕ) (t u : Option ℤ) → Follows step In p q → In x → Alike In p q x t u → steps step u (q.offset x) ≡ steps step t (p.offset x)
steps_follow step In p q x t u f in_x (inl none) = rw (none.first, none.second) refl
steps_follow step In p q x t u f in_x (inr last) = rw (last.first, last.second) (f.by_step last.scalar x last.is_in in_x last.register)

along : (step : ℕ) (In : ℕ → Type 0) (p q : Placement) (x : ℕ) (t u : Tally) → Follows step In p q → In x → Along In p q t u → Along In p q (with_access step p t x) (with_access step q u x)
along step In p q x t u f in_x h = record {
  lasts = λ s in_s. rw (f.same s x in_s in_x) (accessed In p q s x (p.register s == p.register x) (t.last (p.register s)) (u.last (q.register s)) refl in_x (h.lasts s in_s));
  stepped = ap₂ (λ a b. a || b) h.stepped (steps_follow step In p q x (t.last (p.register x)) (u.last (q.register x)) f in_x (h.lasts x in_x));
  paid = add-le-add h.paid (cost_follows step In p q x (t.last (p.register x)) (u.last (q.register x)) f in_x (h.lasts x in_x));
}

along_fold : (step : ℕ) (In : ℕ → Type 0) (p q : Placement) (xs : List ℕ) (t u : Tally) → Follows step In p q → All In xs → Along In p q t u → Along In p q (fold (with_access step p) t xs) (fold (with_access step q) u xs)
along_fold step In p q [] t u f all h = h
along_fold step In p q (x ∷ xs) t u f all h = along_fold step In p q xs (with_access step p t x) (with_access step q u x) f (All-tail In x xs all) (along step In p q x t u f (All-head In x xs all) h)

pub block_follows : (step : ℕ) (In : ℕ → Type 0) (p q : Placement) (xs : List ℕ) → Follows step In p q → All In xs → block_cost step q xs ≤ block_cost step p xs
block_follows step In p q xs f all = let h = along_fold step In p q xs no_access no_access f all (record { lasts = λ s in_s. inl (record { first = refl; second = refl }); stepped = refl; paid = le_refl 0 }) in rw h.stepped (add-le-add h.paid (le_refl _))

-- a sum of terms that are no more
pub sum_le : {X : Type 0} (f g : X → ℕ) (xs : List X) → All (λ x. f x ≤ g x) xs → sum_by f xs ≤ sum_by g xs
sum_le f g [] all = le_refl 0
sum_le f g (x ∷ xs) all = rw (sum_by-cons f x xs, sum_by-cons g x xs) (add-le-add (All-head (λ x. f x ≤ g x) x xs all) (sum_le f g xs (All-tail (λ x. f x ≤ g x) x xs all)))

blocks_follow : (step : ℕ) (In : ℕ → Type 0) (p q : Placement) (bs : List Block) → Follows step In p q → All (λ b. All In b.accesses) bs → sum_by (λ b. b.weight * block_cost step q b.accesses) bs ≤ sum_by (λ b. b.weight * block_cost step p b.accesses) bs
blocks_follow step In p q [] f all = le_refl 0
blocks_follow step In p q (b ∷ bs) f all = rw (sum_by-cons (λ b. b.weight * block_cost step q b.accesses) b bs, sum_by-cons (λ b. b.weight * block_cost step p b.accesses) b bs) (add-le-add (mul-le-mul_left b.weight (block_follows step In p q b.accesses f (All-head (λ b. All In b.accesses) b bs all))) (blocks_follow step In p q bs f (All-tail (λ b. All In b.accesses) b bs all)))

-- so it costs no more over a sequence of scalars of the set
pub cost_of_follows : (seq : Sequence) (In : ℕ → Type 0) (p q : Placement) → Follows seq.step In p q → All (λ b. All In b.accesses) seq.blocks → cost_of seq q ≤ cost_of seq p
cost_of_follows seq In p q f all = blocks_follow seq.step In p q seq.blocks f all

pub follows_same : (step : ℕ) (In : ℕ → Type 0) (p q : Placement) → ((s : ℕ) → In s → q.register s ≡ p.register s) → ((s : ℕ) → In s → q.offset s ≡ p.offset s) → Follows step In p q
follows_same step In p q registers offsets = record {
  same = λ s t in_s in_t. rw (registers s in_s, registers t in_t) refl;
  near = λ s t in_s in_t e. rw (offsets s in_s, offsets t in_t) (le_refl _);
  by_step = λ s t in_s in_t e. rw (offsets s in_s, offsets t in_t) refl;
}

-- placements that are the same at the scalars of a sequence cost the same
pub cost_of_same : (seq : Sequence) (In : ℕ → Type 0) (p q : Placement) → ((s : ℕ) → In s → q.register s ≡ p.register s) → ((s : ℕ) → In s → q.offset s ≡ p.offset s) → All (λ b. All In b.accesses) seq.blocks → cost_of seq q ≡ cost_of seq p
cost_of_same seq In p q registers offsets all = le_antisymm (cost_of_follows seq In p q (follows_same seq.step In p q registers offsets) all) (cost_of_follows seq In q p (follows_same seq.step In q p (λ s in_s. sym (registers s in_s)) (λ s in_s. sym (offsets s in_s))) all)

-- however the registers are numbered
pub renumbered : (seq : Sequence) (p : Placement) (number : ℕ → ℕ) → ((r s : ℕ) → number r ≡ number s → r ≡ s) → cost_of seq (record { register = λ s. number (p.register s); offset = p.offset }) ≡ cost_of seq p
renumbered seq p number apart = le_antisymm (cost_of_follows seq (λ s. Unit {0}) p q (record { same = λ s t _ _. same s t; near = λ s t _ _ e. le_refl _; by_step = λ s t _ _ e. refl }) any) (cost_of_follows seq (λ s. Unit {0}) q p (record { same = λ s t _ _. sym (same s t); near = λ s t _ _ e. le_refl _; by_step = λ s t _ _ e. refl }) any)
  where
    q : Placement
    q = record { register = λ s. number (p.register s); offset = p.offset }

    same : (s t : ℕ) → (number (p.register s) == number (p.register t)) ≡ (p.register s == p.register t)
    same s t = ⊎_elim (λ e. eq-eqb (number (p.register s)) (number (p.register t)) (ap number e) ∙ sym (eq-eqb (p.register s) (p.register t) e)) (λ n. ne_eqb (number (p.register s)) (number (p.register t)) (λ e. n (apart (p.register s) (p.register t) e)) ∙ sym (ne_eqb (p.register s) (p.register t) n)) (cases_eq (p.register s) (p.register t))

    any : All (λ b. All (λ s. Unit {0}) b.accesses) seq.blocks
    any i b lt j s in_b = tt
