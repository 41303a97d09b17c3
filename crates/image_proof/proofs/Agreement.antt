-- A placement that agrees with a site costs what scalars cost as they lie there.
use Rattle.std.proofs.Common.{◌≡◌, ℕ, ◌<◌, List, length, sym, ap, eqb-true, eq-eqb, le_of_eq}
use Rattle.std.specs.Prelude.{◌==◌, All}
use Rattle.std.specs.Cmp.{both_ways}
use Rattle.std.proofs.Math.Nat.{le_antisymm}
use Rattle.emit_blocks.specs.Places.{Places}
use Rattle.lay_cost.specs.Cost.{is_by_step, move_cost, block_cost}
use Rattle.lay_cost.specs.Placements.{Placement}
use Rattle.lay_cost.proofs.Follows.{Follows, block_follows}
use Rattle.image_proof.specs.AgreeingWalks.{register_of, AgreesWith}
use Rattle.image_proof.proofs.Tallies.{as_they_lie}

module _ (s : Places) (p : Placement) (d : ℕ) (agrees : AgreesWith s p) where
  abbrev IsThere : ℕ → Type 0
  IsThere n = n < length s.scalars

  same_registers : (n m : ℕ) → IsThere n → IsThere m → (register_of s n == register_of s m) ≡ (p.register n == p.register m)
  same_registers n m first second =
      both_ways (register_of s n == register_of s m) (p.register n == p.register m)
      (λ e. eq-eqb (p.register n) (p.register m) (agrees.together n m first second (eqb-true (register_of s n) (register_of s m) e)))
      (λ e. eq-eqb (register_of s n) (register_of s m) (agrees.apart n m first second (eqb-true (p.register n) (p.register m) e)))

  follows : Follows d IsThere p (as_they_lie s)
  follows = record {
    same = same_registers;
    near = λ n m first second together. le_of_eq (ap (move_cost d) (sym (agrees.distances n m first second (agrees.apart n m first second together))));
    by_step = λ n m first second together. ap (is_by_step d) (sym (agrees.distances n m first second (agrees.apart n m first second together)));
  }

  follows_back : Follows d IsThere (as_they_lie s) p
  follows_back = record {
    same = λ n m first second. sym (same_registers n m first second);
    near = λ n m first second together. le_of_eq (ap (move_cost d) (agrees.distances n m first second together));
    by_step = λ n m first second together. ap (is_by_step d) (agrees.distances n m first second together);
  }

  pub agreeing_cost : (ns : List ℕ) → All IsThere ns → block_cost d p ns ≡ block_cost d (as_they_lie s) ns
  agreeing_cost ns all = le_antisymm (block_follows d IsThere (as_they_lie s) p ns follows_back all) (block_follows d IsThere p (as_they_lie s) ns follows all)
