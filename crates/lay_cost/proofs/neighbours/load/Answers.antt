-- A block in which some scalar is of the set isn't empty.
use Rattle.std.proofs.Common.{◌≡◌, ◌≤◌, ◌*◌, ℕ, suc, Bool, true, List, [], ◌∷◌, length, true≢false, sym, ◌∙◌, arith}
use Rattle.std.specs.List.{list_any}
use Rattle.lay_cost.specs.Restricted.{in_bits}
use Rattle.lay_cost.proofs.neighbours.load.Goals as goal

some_in : (p : ℕ → Bool) (xs : List ℕ) (w : ℕ) → list_any p xs ≡ true → w ≤ w * length xs
some_in p [] w e = absurd (true≢false (sym e))
some_in p (x ∷ xs) w e = times (length xs)
  where
    times : (n : ℕ) → w ≤ w * suc n
    times n = omega arith

pub returns-then-holds_some-clause-few : goal.returns-then-holds_some-clause-few
returns-then-holds_some-clause-few c =
    omega (arith, c.from.ensures, some_in (in_bits c.args.set) c.args.accesses.now c.args.weight (sym c.holds_some.ensures ∙ c.if-holds_some.true))
