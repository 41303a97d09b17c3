-- A placement of scalars that is as their lists lie in memory.
use Rattle.std.specs.Prelude.{◌≡◌, ◌<◌, ℕ, ◌+◌, pos, List, length, slice_get}
use Rattle.emit_blocks.specs.Places.{Places, scalar_or_zero}
use Rattle.lay_cost.specs.Cost.{distance}
use Rattle.lay_cost.specs.Placements.{Placement, list_of, place_in}
use Rattle.image_proof.specs.RunWalks.{address_of}

-- the address register that goes over a scalar's list
abbrev pub register_of : Places → ℕ → ℕ
register_of s n = (scalar_or_zero (slice_get s.scalars n)).register

-- two scalars are on the same register where one goes over them at the site, and there their offsets are so far apart as their addresses
pub record AgreesWith (s : Places) (p : Placement) : Type 0 where
  pub together : (n m : ℕ) → n < length s.scalars → m < length s.scalars → register_of s n ≡ register_of s m → p.register n ≡ p.register m
  pub apart : (n m : ℕ) → n < length s.scalars → m < length s.scalars → p.register n ≡ p.register m → register_of s n ≡ register_of s m
  pub distances : (n m : ℕ) → n < length s.scalars → m < length s.scalars → register_of s n ≡ register_of s m → distance (p.offset n) (p.offset m) ≡ distance (pos (address_of s n)) (pos (address_of s m))

-- lists lie in memory word by word, each from a base of its own, and registers from a first one go over them
pub record LieAs (s : Places) (lists : List (List ℕ)) (first : ℕ) (base : ℕ → ℕ) : Type 0 where
  pub registers : (n : ℕ) → n < length s.scalars → register_of s n ≡ first + list_of lists n
  pub addresses : (n : ℕ) → n < length s.scalars → address_of s n ≡ base (list_of lists n) + place_in lists n
