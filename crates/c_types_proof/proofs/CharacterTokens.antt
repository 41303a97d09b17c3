-- The character constants of a text are words.
use Rattle.std.proofs.Common.{◌≡◌, ◌<◌, ◌==◌, if◌then◌else◌, ℕ, ◌+◌, Bool, true, false, List, [], ◌∷◌, length, Option, Some, sym, subst, arith}
use Rattle.std.specs.Prelude.{⊤}
use Rattle.std.specs.List.{AllByRecursion}
use Rattle.c_syntax.specs.Constants.{beside, escapes, number_of, IsItem, Plain, Escape, OctalEscape, HexEscape}
use Rattle.c_syntax.specs.Lexes.{Piece, Blank, Spelled, AllStand, tokens_from, Lexes}
use Rattle.c_syntax.specs.Spelling.{Means}
use Rattle.c_syntax.specs.declared.token.Token.{Token}
use Rattle.c_syntax.specs.declared.token.TokenKind.{TokenKind}
use Rattle.c_syntax.specs.declared.token.TokenKind.TheVariants as token
use Rattle.c_syntax.proofs.Spoken.{KindIsWord, AreWords}
use Rattle.c_lexer.proofs.CharacterLemmas.{number_below}

-- signs, each with a character that is a word, as escapes are
abbrev AreFew : List (ℕ × ℕ) → Type 0
AreFew pairs = AllByRecursion (λ (pair : ℕ × ℕ). pair.1 < 65536) pairs

either_few : (first value : ℕ) (other : Option ℕ) (b : Bool) → first < 65536 → (other ≡ Some value → value < 65536)
    → (if b then Some first else other) ≡ Some value → value < 65536
either_few first value other true few rest is = let same : first ≡ value = cc is in subst (λ n. n < 65536) same few
either_few first value other false few rest is = rest is

beside_few : (key value : ℕ) (pairs : List (ℕ × ℕ)) → AreFew pairs → beside key pairs ≡ Some value → value < 65536
beside_few key value [] few there = absurd (cc there)
beside_few key value (pair ∷ pairs) few there =
    either_few pair.1 value (beside key pairs) (key == pair.0) few.0 (λ is. beside_few key value pairs few.1 is) there

escapes_few : AreFew escapes
escapes_few = (omega arith, (omega arith, (omega arith, (omega arith, (omega arith, letters)))))
  where
    letters : AreFew ((98, 8) ∷ (102, 12) ∷ (110, 10) ∷ (114, 13) ∷ (116, 9) ∷ (118, 11) ∷ [])
    letters = (omega arith, (omega arith, (omega arith, (omega arith, (omega arith, (omega arith, tt))))))

item_few : (text : List ℕ) (value : ℕ) → IsItem text value → value < 65536
item_few text value (Plain is within no_quote no_backslash) = omega (arith, within.1)
item_few text value (Escape sign is stands) = beside_few sign value escapes escapes_few stands
item_few text value (OctalEscape digits is all short same) =
    let few : number_of 8 digits < 65536 = number_below 8 3 digits (omega arith) (omega arith) all short in subst (λ n. n < 65536) (sym same) few
item_few text value (HexEscape digits is all short same) =
    let few : number_of 16 digits < 65536 = number_below 16 4 digits (omega arith) (omega arith) all short in subst (λ n. n < 65536) (sym same) few

kind_few : (text : List ℕ) (kind : TokenKind) → Means text kind → KindIsWord kind
kind_few text (token.Word keyword) means = tt
kind_few text (token.Name name) means = tt
kind_few text (token.Number value marked decimal) means = tt
kind_few text (token.Char value) means = item_few means.item value means.stands
kind_few text (token.Mark mark) means = tt

pieces_few : (at : ℕ) (pieces : List Piece) (rest : List ℕ) → AllStand pieces rest → AreWords (tokens_from at pieces)
pieces_few at [] rest stand = tt
pieces_few at (Blank text ∷ pieces) rest stand = pieces_few (at + length text) pieces rest stand.1
pieces_few at (Spelled text kind ∷ pieces) rest stand = (kind_few text kind stand.0.1, pieces_few (at + length text) pieces rest stand.1)

pub tokens_few : (text : List ℕ) (tokens : List Token) → Lexes text tokens → AreWords tokens
tokens_few text tokens lexes = subst AreWords (sym lexes.0.are) (pieces_few 0 lexes.0.pieces [] lexes.0.stand)
