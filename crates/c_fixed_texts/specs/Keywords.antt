-- The keyword that a text is, by rows of spellings.
use Rattle.std.specs.Prelude.{ℕ, List, [], ◌∷◌, Option, Some, None, cond}
use Rattle.std.specs.Borrow.{Bor}
use Rattle.std.specs.Str.{bytes_eq}
use Rattle.c_syntax.specs.declared.token.Keyword.{Keyword}

-- a keyword behind its spelling
abbrev pub Row : Type 0
Row = List ℕ × Keyword

abbrev pub spelled : Bor (List ℕ) × Keyword → Row
spelled r = (r.0.now, r.1)

-- the keyword of the first row with this spelling
abbrev pub keyword_among : List ℕ → List Row → Option Keyword
keyword_among text [] = None
keyword_among text (r ∷ rows) = cond (bytes_eq text r.0) (Some r.1) (keyword_among text rows)
