-- Cells of a function's objects: while it is active they live, and behind it they don't.
use Rattle.std.proofs.Common.{◌≡◌, ◌<◌, ◌≤◌, ◌⊎◌, ℕ, zero, suc, ◌+◌, ◌&&◌, ◌||◌, Bool, true, false, true≢false, cond, List, [], ◌∷◌, Some, refl, sym, ap, ◌∙◌, subst, inl, inr, ⊎_elim, ltb-true, lt-ltb, leb-true, le-leb, arith}
use Rattle.std.specs.Prelude.{slice_get, nat_le, nat_lt}
use Rattle.std.proofs.lemmas.Option.{none-some, same_Some}
use Rattle.c_tree.specs.TypedTree.{ObjectTree}
use Rattle.ir_semantics.specs.Outside.{Cell, Nowhere, Holds, Memory, Places, with_objects}
use Rattle.image_proof.specs.ActiveSites.{has_cell, in_objects}

-- parts of truths
pub or_false : (a b : Bool) → (a || b) ≡ false → (a ≡ false) × (b ≡ false)
or_false true b e = absurd (true≢false e)
or_false false b e = (refl, e)

pub or_true : (a b : Bool) → (a || b) ≡ true → (a ≡ true) ⊎ (b ≡ true)
or_true true b e = inl refl
or_true false b e = inr e

pub not_true : (b : Bool) → (b ≡ true → ⊥) → b ≡ false
not_true true never = absurd (never refl)
not_true false never = refl

and_parts : (a b : Bool) → (a && b) ≡ true → (a ≡ true) × (b ≡ true)
and_parts true b e = (refl, e)
and_parts false b e = absurd (true≢false (sym e))

pub and_so : (a b : Bool) → a ≡ true → b ≡ true → (a && b) ≡ true
and_so true b first second = second
and_so false b first second = first

-- a cell of a list of objects, the first of which has this number
pub record ObjectCell (at : ℕ → ℕ) (n : ℕ) (os : List ObjectTree) (a : ℕ) : Type 0 where
  pub further : ℕ
  pub object : ObjectTree
  pub there : slice_get os further ≡ Some object
  pub from : at (n + further) ≤ a
  pub to : a < at (n + further) + object.length

module _ (at : ℕ → ℕ) (a : ℕ) where
  first_cell : (n : ℕ) (o : ObjectTree) (os : List ObjectTree) → has_cell (at n) o.length a ≡ true → ObjectCell at n (o ∷ os) a
  first_cell n o os has =
      let here : n ≡ n + 0 = omega arith in
      let parts = and_parts (nat_le (at n) a) (nat_lt a (at n + o.length)) has in
      record {
        further = 0;
        object = o;
        there = refl;
        from = subst (λ k. at k ≤ a) here (leb-true (at n) a parts.0);
        to = subst (λ k. a < at k + o.length) here (ltb-true a (at n + o.length) parts.1);
      }

  further_cell : (n : ℕ) (o : ObjectTree) (os : List ObjectTree) → ObjectCell at (suc n) os a → ObjectCell at n (o ∷ os) a
  further_cell n o os h =
      let further : suc n + h.further ≡ n + suc h.further = omega arith in
      record {
        further = suc h.further;
        object = h.object;
        there = h.there;
        from = subst (λ k. at k ≤ a) further h.from;
        to = subst (λ k. a < at k + (h.object).length) further h.to;
      }

  pub object_cell : (n : ℕ) (os : List ObjectTree) → in_objects at n os a ≡ true → ObjectCell at n os a
  object_cell n [] lives = absurd (true≢false (sym lives))
  object_cell n (o ∷ os) lives =
      ⊎_elim (first_cell n o os) (λ rest. further_cell n o os (object_cell (suc n) os rest)) (or_true (has_cell (at n) o.length a) (in_objects at (suc n) os a) lives)

  has_so : (n : ℕ) (o : ObjectTree) → at n ≤ a → a < at n + o.length → has_cell (at n) o.length a ≡ true
  has_so n o from to = and_so (nat_le (at n) a) (nat_lt a (at n + o.length)) (le-leb (at n) a from) (lt-ltb a (at n + o.length) to)

  or_later : (b c : Bool) → c ≡ true → (b || c) ≡ true
  or_later true c e = refl
  or_later false c e = e

  pub lives_so : (n : ℕ) (os : List ObjectTree) (k : ℕ) (o : ObjectTree) → slice_get os k ≡ Some o → at (n + k) ≤ a → a < at (n + k) + o.length → in_objects at n os a ≡ true
  lives_so n [] k o there from to = absurd (none-some o there)
  lives_so n (u ∷ us) zero o there from to =
      let here : n + 0 ≡ n = omega arith in
      let same : o ≡ u = sym (same_Some u o there) in
      ap (λ b. b || in_objects at (suc n) us a)
      (has_so n u (subst (λ k. at k ≤ a) here from) (subst (λ (v : ObjectTree). a < at n + v.length) same (subst (λ k. a < at k + o.length) here to)))
  lives_so n (u ∷ us) (suc k) o there from to =
      let further : n + suc k ≡ suc n + k = omega arith in
      or_later (has_cell (at n) u.length a) (in_objects at (suc n) us a)
      (lives_so (suc n) us k o there (subst (λ k. at k ≤ a) further from) (subst (λ k. a < at k + o.length) further to))

-- memory where the cells of a function's objects are alike
module _ (cell : Cell) (q : Places) (f : ℕ) (m : Memory) (a : ℕ) where
  pub outside_objects : (n : ℕ) (os : List ObjectTree) → in_objects (q.local f) n os a ≡ false → with_objects cell q f n os m a ≡ m a
  outside_objects n [] out = refl
  outside_objects n (o ∷ os) out =
      let parts = or_false (has_cell (q.local f n) o.length a) (in_objects (q.local f) (suc n) os a) out in
      ap (λ b. cond b cell (with_objects cell q f (suc n) os m a)) parts.0 ∙ outside_objects (suc n) os parts.1

  cell_by : (b r : Bool) (rest : Cell) → (b || r) ≡ true → (r ≡ true → rest ≡ cell) → cond b cell rest ≡ cell
  cell_by true r rest lives later = refl
  cell_by false r rest lives later = later lives

  pub inside_objects : (n : ℕ) (os : List ObjectTree) → in_objects (q.local f) n os a ≡ true → with_objects cell q f n os m a ≡ cell
  inside_objects n [] lives = absurd (true≢false (sym lives))
  inside_objects n (o ∷ os) lives =
      cell_by (has_cell (q.local f n) o.length a) (in_objects (q.local f) (suc n) os a) (with_objects cell q f (suc n) os m a) lives (inside_objects (suc n) os)

  holds_by : (x : ℕ) (b : Bool) (rest : Cell) → (cell ≡ Holds x → ⊥) → cond b cell rest ≡ Holds x → rest ≡ Holds x
  holds_by x true rest never is = absurd (never is)
  holds_by x false rest never is = is

  -- a word that is there was there
  pub held_before : (x n : ℕ) (os : List ObjectTree) → (cell ≡ Holds x → ⊥) → with_objects cell q f n os m a ≡ Holds x → m a ≡ Holds x
  held_before x n [] never is = is
  held_before x n (o ∷ os) never is =
      held_before x (suc n) os never (holds_by x (has_cell (q.local f n) o.length a) (with_objects cell q f (suc n) os m a) never is)

module _ (q : Places) (f : ℕ) (m : Memory) (a : ℕ) where
  nowhere_by : (b : Bool) (rest : Cell) → rest ≡ Nowhere → cond b Nowhere rest ≡ Nowhere
  nowhere_by true rest is = refl
  nowhere_by false rest is = is

  pub nowhere_stays : (n : ℕ) (os : List ObjectTree) → m a ≡ Nowhere → with_objects Nowhere q f n os m a ≡ Nowhere
  nowhere_stays n [] is = is
  nowhere_stays n (o ∷ os) is = nowhere_by (has_cell (q.local f n) o.length a) (with_objects Nowhere q f (suc n) os m a) (nowhere_stays (suc n) os is)
