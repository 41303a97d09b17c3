-- How long marks are.
use Rattle.std.proofs.Common.{arith, ◌≡◌, length}
use Rattle.std.specs.Prelude.{◌⊎◌}
use Rattle.c_syntax.specs.declared.token.Punct.{Punct}
use Rattle.c_syntax.specs.FixedTexts.{mark_text}

-- a mark has one, two or three characters
pub mark_size : (p : Punct) → (length (mark_text p) ≡ 1) ⊎ (length (mark_text p) ≡ 2) ⊎ (length (mark_text p) ≡ 3)
mark_size p = grind arith
