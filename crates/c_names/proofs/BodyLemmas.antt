-- The place of a function's body among all bodies.
use Rattle.std.proofs.Common.{◌≡◌, ℕ, Bool, cond, not, List, [], ◌∷◌, ◌+◌, length, Bor, Option, Some, None, unwrap_or, refl, ap, ◌∙◌, arith}
use Rattle.std.specs.Str.{bytes_eq}
use Rattle.std.specs.List.{position, position_or_len}
use Rattle.std.proofs.lemmas.Cmp.{nat_list_eq_equiv}
use Rattle.std.proofs.lemmas.List.Sums.{prefix_len-le-length}
use Rattle.c_names.specs.Tables.{key_names}

-- whichever way round the names are compared
pub place_of_name : (name : List ℕ) (keys : List (Bor (List ℕ))) → position_or_len (λ k. bytes_eq name k.now) keys ≡ position_or_len (λ body. bytes_eq body name) (key_names keys)
place_of_name name [] = refl
place_of_name name (k ∷ keys) =
    ap (λ b. cond (not b) (1 + position_or_len (λ k'. bytes_eq name k'.now) keys) 0) (nat_list_eq_equiv.symm name k.now)
    ∙ ap (λ n. cond (not (bytes_eq k.now name)) (1 + n) 0) (place_of_name name keys)

-- the place that a search answers, or the length where it finds none
pub place_or_len : {A : Type 0} (p : A → Bool) (xs : List A) (found : Option ℕ) → found ≡ position p xs → unwrap_or found (length xs) ≡ position_or_len p xs
place_or_len p xs None none = grind (arith, prefix_len-le-length (λ x. not (p x)) xs)
place_or_len p xs (Some i) is = grind arith
