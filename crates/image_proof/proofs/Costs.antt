-- What moves between accesses of a register cost, and what their changes and instructions do about it.
use Rattle.std.proofs.Common.{◌≡◌, ◌≢◌, ℕ, ◌+◌, ◌<◌, ◌≤◌, Bool, true, false, ◌||◌, if◌then◌else◌, Option, Some, None, refl, sym, ap, ◌∙◌, arith, eqb-true, eq-eqb, ltb-true}
use Rattle.std.specs.Prelude.{nat_lt, nat_le, ◌==◌, pos, option_map}
use Rattle.std.proofs.lemmas.Bool.{cond_both, and_right, and_left, and_from, or_left, or_right, or_from, eqb-false, leb-true, leb-false, le-leb, lt-ltb, lt-leb, ne_eqb}
use Rattle.std.proofs.lemmas.Int.{ints}
use Rattle.c25_isa.specs.declared.operand.Change.{Change}
use Rattle.c25_isa.specs.declared.operand.Change.TheVariants.{Stay, Down, Up, DownIndex, UpIndex}
use Rattle.emit_blocks.specs.Moves.{change_by_index, change_to, is_by_index, address_behind}
use Rattle.lay_cost.specs.Cost.{distance, is_by_step, move_cost, access_cost}
use Rattle.image_proof.proofs.Parts.{one_if}
use Rattle.image_proof.proofs.Moving.{move_count}

-- a move between two accesses of a register costs what its instruction counts, and is by the step where its change is
pub record CostsAs (d l a : ℕ) (c : Change) : Type 0 where
  pub cost : one_if (if address_behind d l c == a then false else true) ≡ move_cost d (distance (pos l) (pos a))
  pub by_step : is_by_index c ≡ is_by_step d (distance (pos l) (pos a))

counted_if : (b t : Bool) → b ≡ t → one_if (if b then false else true) ≡ (if t then 0 else 1)
counted_if true t e = ap (λ u. if u then 0 else 1) e
counted_if false t e = ap (λ u. if u then 0 else 1) e

-- no step moves by 1 at most
not_by_step : (d far : ℕ) → far ≤ 1 → is_by_step d far ≡ false
not_by_step d far near = by (nat_lt 1 d) refl
  where
    by : (b : Bool) → nat_lt 1 d ≡ b → is_by_step d far ≡ false
    by true e = let less : 1 < d = ltb-true 1 d e in and_right (nat_lt 1 d) (far == d) (ne_eqb far d (λ same. omega (arith, near, less, same)))
    by false e = and_left (nat_lt 1 d) (far == d) e

module _ (d l a : ℕ) (c : Change) where
  abbrev far : ℕ
  far = distance (pos l) (pos a)

  by_one : far ≤ 1 → address_behind d l c ≡ a → is_by_index c ≡ false → CostsAs d l a c
  by_one near here plain = record {
    cost = counted_if (address_behind d l c == a) (nat_le far 1 || is_by_step d far) (eq-eqb (address_behind d l c) a here ∙ sym (or_left (nat_le far 1) (is_by_step d far) (le-leb far 1 near)));
    by_step = plain ∙ sym (not_by_step d far near);
  }

  by_steps : 1 < d → far ≡ d → address_behind d l c ≡ a → is_by_index c ≡ true → CostsAs d l a c
  by_steps more same here index =
      let yes : is_by_step d far ≡ true = and_from (nat_lt 1 d) (far == d) (lt-ltb 1 d more) (eq-eqb far d same) in
      record {
        cost = counted_if (address_behind d l c == a) (nat_le far 1 || is_by_step d far) (eq-eqb (address_behind d l c) a here ∙ sym (or_right (nat_le far 1) (is_by_step d far) yes));
        by_step = index ∙ sym yes;
      }

  by_more : 1 < far → is_by_step d far ≡ false → address_behind d l c ≢ a → is_by_index c ≡ false → CostsAs d l a c
  by_more off plain_move apart plain = record {
    cost = counted_if (address_behind d l c == a) (nat_le far 1 || is_by_step d far) (ne_eqb (address_behind d l c) a apart ∙ sym (or_from (nat_le far 1) (is_by_step d far) (lt-leb far 1 off) plain_move));
    by_step = plain ∙ sym plain_move;
  }

-- a register that stays is there or far off
stays_there : (d l a : ℕ) → a ≢ l + 1 → l ≢ a + 1 → (1 < distance (pos l) (pos a) → is_by_step d (distance (pos l) (pos a)) ≡ false) → CostsAs d l a Stay
stays_there d l a up down plain_move = by (l == a) refl
  where
    by : (b : Bool) → (l == a) ≡ b → CostsAs d l a Stay
    by true e = let same : l ≡ a = eqb-true l a e in by_one d l a Stay (omega (arith, ints, same)) same refl
    by false e =
        let other : l ≢ a = eqb-false l a e in
        let off : 1 < distance (pos l) (pos a) = omega (arith, ints, other, up, down) in
        by_more d l a Stay off (plain_move off) other refl

pub move_costs : (d l a : ℕ) → CostsAs d l a (change_to d l (Some a))
move_costs d l a =
    cond_both (a == l + 1) Up (if l == a + 1 then Down else change_by_index d l a) (CostsAs d l a)
    (λ e. let up : a ≡ l + 1 = eqb-true a (l + 1) e in by_one d l a Up (omega (arith, ints, up)) (sym up) refl)
    (λ e. cond_both (l == a + 1) Down (change_by_index d l a) (CostsAs d l a)
    (λ f. let down : l ≡ a + 1 = eqb-true l (a + 1) f in by_one d l a Down (omega (arith, ints, down)) (omega (arith, down)) refl)
    (λ f.
    let not_up : a ≢ l + 1 = eqb-false a (l + 1) e in
    let not_down : l ≢ a + 1 = eqb-false l (a + 1) f in
    cond_both (nat_le d 1) Stay (if a == l + d then UpIndex else (if l == a + d then DownIndex else Stay)) (CostsAs d l a)
    (λ g. let few : d ≤ 1 = leb-true d 1 g in stays_there d l a not_up not_down (λ off. and_left (nat_lt 1 d) (distance (pos l) (pos a) == d) (lt-leb 2 d (omega (arith, few)))))
    (λ g. let more : 1 < d = leb-false d 1 g in
    cond_both (a == l + d) UpIndex (if l == a + d then DownIndex else Stay) (CostsAs d l a)
    (λ t. let up : a ≡ l + d = eqb-true a (l + d) t in by_steps d l a UpIndex more (omega (arith, ints, up)) (sym up) refl)
    (λ t. cond_both (l == a + d) DownIndex Stay (CostsAs d l a)
    (λ u. let down : l ≡ a + d = eqb-true l (a + d) u in by_steps d l a DownIndex more (omega (arith, ints, down)) (omega (arith, down)) refl)
    (λ u.
    let no_up : a ≢ l + d = eqb-false a (l + d) t in
    let no_down : l ≢ a + d = eqb-false l (a + d) u in
    stays_there d l a not_up not_down (λ off. and_right (nat_lt 1 d) (distance (pos l) (pos a) == d) (ne_eqb (distance (pos l) (pos a)) d (λ same. omega (arith, ints, same, no_up, no_down)))))))))

-- where a register stands, by the last access through it and the next one
abbrev pub left_at : ℕ → Option ℕ → Option ℕ → Option ℕ
left_at d next last = option_map (λ l. address_behind d l (change_to d l next)) last

-- the instruction before an access is counted where the access costs
pub access_costs : (d a : ℕ) (last : Option ℕ) → move_count (left_at d (Some a) last) a ≡ access_cost d (option_map pos last) (pos a)
access_costs d a None = refl
access_costs d a (Some l) = (move_costs d l a).cost
