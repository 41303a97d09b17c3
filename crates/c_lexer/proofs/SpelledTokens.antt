-- The tokens of a text are such as can be spelled.
use Rattle.std.proofs.Common.{◌≡◌, ◌≢◌, ℕ, ◌+◌, ◌*◌, ◌<◌, ◌≤◌, ◌^◌, Bool, true, false, cond, List, [], ◌∷◌, length, Some, sym, ap, subst, ◌∙◌, arith}
use Rattle.std.specs.Prelude.{◌==◌, fold, All}
use Rattle.std.specs.List.{AllByRecursion}
use Rattle.std.specs.Char.{digit_value}
use Rattle.std.proofs.lemmas.Bool.Decides.{nat_tests}
use Rattle.std.proofs.lemmas.List.Elements.{All-from_recursion}
use Rattle.word_base.specs.Name.{IsName}
use Rattle.c_syntax.specs.declared.token.Token.{Token}
use Rattle.c_syntax.specs.declared.token.TokenKind.{TokenKind}
use Rattle.c_syntax.specs.declared.token.TokenKind.TheVariants.{Word, Name, Number, Char, Mark}
use Rattle.c_syntax.specs.Constants.{number_of, Radix, Decimal, Octal, Hexadecimal, IsBare, is_decimal, beside, escapes, IsItem, Plain, Escape, OctalEscape, HexEscape}
use Rattle.c_syntax.specs.Spelling.{Means}
use Rattle.c_syntax.specs.Lexes.{Piece, Blank, Spelled, AllStand, tokens_from, Lexes}
use Rattle.c_lexer.specs.TokenText.{HasSpelling}
use Rattle.c_lexer.proofs.CharacterLemmas.{number_below}

-- ---- numbers

grows : (a : ℕ) (text : List ℕ) → a ≤ fold (λ n c. n * 10 + digit_value c) a text
grows a [] = omega arith
grows a (c ∷ text) = let more = grows (a * 10 + digit_value c) text in omega (arith, more)

-- a decimal number that doesn't begin with 0 isn't 0
decimal_some : (c : ℕ) (rest : List ℕ) → c ≢ 48 → digit_value c < 10 → number_of 10 (c ∷ rest) ≢ 0
decimal_some c rest other digit e =
    let some : 0 < digit_value c = grind (arith, nat_tests, other, digit) in
    omega (arith, e, some, grows (0 * 10 + digit_value c) rest)

number_some : (radix : Radix) (text : List ℕ) (n : ℕ) → IsBare radix text n → is_decimal radix ≡ true → n ≢ 0
number_some Decimal text n r is e =
    let first = r.0 in
    decimal_some first.0 first.1 first.3 (subst (AllByRecursion (λ c. digit_value c < 10)) first.2 r.1.each).0 (sym (ap (number_of 10) first.2) ∙ sym r.2 ∙ e)
number_some Octal text n r is e = cc
number_some Hexadecimal text n r is e = cc

-- ---- characters

beside_small : (key value : ℕ) (pairs : List (ℕ × ℕ)) → AllByRecursion (λ p. p.1 < 65536) pairs → beside key pairs ≡ Some value → value < 65536
beside_small key value [] small e = absurd cc
beside_small key value (pair ∷ pairs) small e = by (key == pair.0) e (beside_small key value pairs small.1)
  where
    by : (b : Bool) → cond b (Some pair.1) (beside key pairs) ≡ Some value → (beside key pairs ≡ Some value → value < 65536) → value < 65536
    by true f later = let same : pair.1 ≡ value = cc in subst (λ v. v < 65536) same small.0
    by false f later = later f

item_small : (text : List ℕ) (value : ℕ) → IsItem text value → value < 2 ^ 16
item_small text value (Plain is within a b) = omega (arith, within.1)
item_small text value (Escape sign is at) = beside_small sign value escapes (grind arith) at
item_small text value (OctalEscape digits is are few e) = omega (arith, e, number_below 8 3 digits (omega arith) (omega arith) are few)
item_small text value (HexEscape digits is are few e) = omega (arith, e, number_below 16 4 digits (omega arith) (omega arith) are few)

-- ---- each kind

means_spelled : (text : List ℕ) (kind : TokenKind) → Means text kind → HasSpelling kind
means_spelled text (Word keyword) m = tt {0}
means_spelled text (Name name) m = (subst IsName (sym m.0) m.1, λ keyword e. m.2 keyword (sym m.0 ∙ e))
means_spelled text (Number value marked decimal) m = (
  omega (arith, m.kept),
  λ is e. number_some m.radix m.bare m.number m.reads (sym m.based ∙ is) (omega (arith, m.kept, e)),
)
means_spelled text (Char value) m = item_small m.item value m.stands
means_spelled text (Mark mark) m = tt {0}

pub pieces_spelled : (pieces : List Piece) (at : ℕ) (rest : List ℕ) → AllStand pieces rest → AllByRecursion (λ t. HasSpelling t.kind) (tokens_from at pieces)
pieces_spelled [] at rest stand = tt {0}
pieces_spelled (Blank text ∷ pieces) at rest stand = pieces_spelled pieces (at + length text) rest stand.1
pieces_spelled (Spelled text kind ∷ pieces) at rest stand = (means_spelled text kind stand.0.1, pieces_spelled pieces (at + length text) rest stand.1)

pub lexed_spelled : (text : List ℕ) (tokens : List Token) → Lexes text tokens → All (λ t. HasSpelling t.kind) tokens
lexed_spelled text tokens l =
    All-from_recursion (λ t. HasSpelling t.kind) tokens (subst (AllByRecursion (λ t. HasSpelling t.kind)) (sym l.0.are) (pieces_spelled l.0.pieces 0 [] l.0.stand))
