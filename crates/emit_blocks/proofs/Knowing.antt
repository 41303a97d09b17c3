-- How accesses leave their registers.
use Rattle.std.proofs.Common.{◌≡◌, ℕ, ◌+◌, ◌≤◌, Bool, true, false, nat_le, ◌==◌, List, [], ◌∷◌, Option, Some, None, refl, ap, rules, if◌then◌else◌}
use Rattle.c25_isa.specs.declared.operand.Change.{Change}
use Rattle.c25_isa.specs.declared.operand.Change.TheVariants.{Stay, Down, Up}
use Rattle.emit_blocks.specs.declared.step.Reach.{Reach}
use Rattle.emit_blocks.specs.declared.step.Reach.TheVariants as reach
use Rattle.emit_blocks.specs.declared.step.Step.{Step}
use Rattle.emit_blocks.specs.Moves.{next_address, change_to, change_by_index, is_by_index, change_of_step, moves_by_index}

by_no_index : (d a b : ℕ) → nat_le d 1 ≡ true → change_by_index d a b ≡ Stay
by_no_index d a b few = rw few refl

to_next : (up down : Bool) (c : Change) → is_by_index c ≡ false → is_by_index (if up then Up else (if down then Down else c)) ≡ false
to_next true down c e = refl
to_next false true c e = refl
to_next false false c e = e

no_index_to : (d a : ℕ) (next : Option ℕ) → nat_le d 1 ≡ true → is_by_index (change_to d a next) ≡ false
no_index_to d a None few = refl
no_index_to d a (Some b) few = to_next (b == a + 1) (a == b + 1) (change_by_index d a b) (ap is_by_index (by_no_index d a b few))

no_index_of_step : (d : ℕ) (r : Reach) (xs : List Step) → nat_le d 1 ≡ true → is_by_index (change_of_step d r xs) ≡ false
no_index_of_step d (reach.Scalar p) xs few = no_index_to d p.address (next_address p.register xs) few
no_index_of_step d reach.Pointer xs few = refl
no_index_of_step d (reach.Word a) xs few = refl
no_index_of_step d (reach.Constant w) xs few = refl

-- at a step of 1 AR0 isn't used
none_by_index : (d : ℕ) (xs : List Step) → nat_le d 1 ≡ true → moves_by_index d xs ≡ false
none_by_index d [] few = refl
none_by_index d (x ∷ xs) few = rw (no_index_of_step d x.reach xs few) (none_by_index d xs few)

pub no_index : (d : ℕ) (xs : List Step) → d ≤ 1 → moves_by_index d xs ≡ false
no_index d xs few = none_by_index d xs (search rules)
