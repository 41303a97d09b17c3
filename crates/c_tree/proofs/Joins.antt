-- The monoids that passes join by: lists, sums and maxima.
use Rattle.std.proofs.Common.{◌+◌, max, ◌++◌, [], List, append_assoc, append-nil, refl, arith}
use Rattle.c_tree.specs.Monoids.{IsMonoid}

pub lists : {A : Type 0} → IsMonoid [] (λ (xs ys : List A). xs ++ ys)
lists = record { left_identity = λ xs. refl; right_identity = append-nil; associative = append_assoc }

pub sums : IsMonoid 0 (λ m n. m + n)
sums = record { left_identity = λ n. omega arith; right_identity = λ n. omega arith; associative = λ a b c. omega arith }

pub maxima : IsMonoid 0 (λ m n. max m n)
maxima = record { left_identity = λ n. omega arith; right_identity = λ n. omega arith; associative = λ a b c. omega arith }
