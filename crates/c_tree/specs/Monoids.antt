-- Monoids: values that are joined, as lists that stand one behind another, numbers that are added, or the larger of two numbers.
use Rattle.std.specs.Prelude.{◌≡◌}

pub record IsMonoid {V : Type 0} (unit : V) (join : V → V → V) : Type 0 where
  pub left_identity : (v : V) → join unit v ≡ v
  pub right_identity : (v : V) → join v unit ≡ v
  pub associative : (a b c : V) → join (join a b) c ≡ join a (join b c)
