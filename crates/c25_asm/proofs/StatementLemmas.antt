-- What lines say.
use Rattle.std.proofs.Common.{◌≡◌, ℕ, ◌==◌, false, List, [], ◌∷◌, length, refl}
use Rattle.c25_asm.specs.Cuts.{before_colon}
use Rattle.c25_asm.specs.Names.{Labels}
use Rattle.c25_asm.specs.Statements.{filled_by, statement_words}

pub filled : (labels : Labels) (number : ℕ) (text : List ℕ) → false ≡ (length text == 0) → statement_words labels number text ≡ filled_by (before_colon text) labels number text
filled labels number [] some = absurd cc
filled labels number (b ∷ bs) some = refl
