-- The definitions at worked examples.
use Rattle.std.proofs.Common.{◌≡◌, ℕ, suc, true, false, List, [], ◌∷◌, ◌++◌, map, refl, ap, ◌∙◌, arith}
use Rattle.std.specs.Prelude.{codes}
use Rattle.std.proofs.lemmas.Fmt.{decimal_digit, decimal_step}
use Rattle.c_tree.specs.c_syntax.declared.token.Token.{Token}
use Rattle.c_tree.specs.c_syntax.declared.token.TokenKind.{TokenKind}
use Rattle.c_tree.specs.c_syntax.declared.token.TokenKind.TheVariants.{Word, Name, Mark}
use Rattle.c_tree.specs.c_syntax.declared.token.Keyword.TheVariants.{Extern, Int}
use Rattle.c_tree.specs.c_syntax.declared.token.Punct.TheVariants.{OpenBracket, CloseBracket, OpenParen, CloseParen, OpenBrace, CloseBrace, Semicolon, Assign}
use Rattle.c_units.specs.Externs.{AtStart, without_externs, extern_places}
use Rattle.c_units.specs.Statics.{static_name, ends_in_number}

-- ---- names

name_of_first : static_name 1 (codes "n") ≡ codes "n__1"
name_of_first = ap (λ digits. codes "n__" ++ digits) (decimal_digit 1 (omega arith))

name_of_twelfth : static_name 12 (codes "main") ≡ codes "main__12"
name_of_twelfth =
    ap (λ digits. codes "main__" ++ digits) (decimal_step 12 (omega arith) (omega arith))
    ∙ ap (λ digits. codes "main__" ++ (digits ++ codes "2")) (decimal_digit 1 (omega arith))

number_alone : ends_in_number (codes "__1") ≡ true
number_alone = refl

three_lines : ends_in_number (codes "a___12") ≡ true
three_lines = refl

zero_counts : ends_in_number (codes "x__0") ≡ true
zero_counts = refl

no_digit : ends_in_number (codes "a__") ≡ false
no_digit = refl

one_line : ends_in_number (codes "a_1") ≡ false
one_line = refl

letter_last : ends_in_number (codes "a__1b") ≡ false
letter_last = refl

later_number : ends_in_number (codes "a__1_2") ≡ false
later_number = refl

digits_alone : ends_in_number (codes "a12") ≡ false
digits_alone = refl

-- ---- externs

abbrev numbered : ℕ → List TokenKind → List Token
numbered at [] = []
numbered at (kind ∷ kinds) = record { kind = kind; at = at; len = 1 } ∷ numbered (suc at) kinds

abbrev left : List TokenKind → List TokenKind
left kinds = map (λ t. t.kind) (without_externs (numbered 0 kinds))

abbrev a : TokenKind
a = Name (codes "a")

-- `extern int a;`
one_dropped : left (Word Extern ∷ Word Int ∷ a ∷ Mark Semicolon ∷ []) ≡ Word Int ∷ a ∷ Mark Semicolon ∷ []
one_dropped = refl

its_place : extern_places AtStart (numbered 0 (Word Extern ∷ Word Int ∷ a ∷ Mark Semicolon ∷ [])) ≡ 1 ∷ []
its_place = refl

-- `extern extern int a;`
second_stays : left (Word Extern ∷ Word Extern ∷ Word Int ∷ a ∷ Mark Semicolon ∷ []) ≡ Word Extern ∷ Word Int ∷ a ∷ Mark Semicolon ∷ []
second_stays = refl

-- `extern`
alone_stays : left (Word Extern ∷ []) ≡ Word Extern ∷ []
alone_stays = refl

-- `int a; extern`
last_stays : left (Word Int ∷ a ∷ Mark Semicolon ∷ Word Extern ∷ []) ≡ Word Int ∷ a ∷ Mark Semicolon ∷ Word Extern ∷ []
last_stays = refl

-- `int a[] = {a} extern ;`
after_list : left (Word Int ∷ a ∷ Mark OpenBracket ∷ Mark CloseBracket ∷ Mark Assign ∷ Mark OpenBrace ∷ a ∷ Mark CloseBrace ∷ Word Extern ∷ Mark Semicolon ∷ [])
    ≡ Word Int ∷ a ∷ Mark OpenBracket ∷ Mark CloseBracket ∷ Mark Assign ∷ Mark OpenBrace ∷ a ∷ Mark CloseBrace ∷ Word Extern ∷ Mark Semicolon ∷ []
after_list = refl

-- `int a() {{a;} extern a;} extern int a;`
after_body : left (Word Int ∷ a ∷ Mark OpenParen ∷ Mark CloseParen ∷ Mark OpenBrace ∷ Mark OpenBrace ∷ a ∷ Mark Semicolon ∷ Mark CloseBrace ∷ Word Extern ∷ a ∷ Mark Semicolon ∷ Mark CloseBrace
    ∷ Word Extern ∷ Word Int ∷ a ∷ Mark Semicolon ∷ [])
    ≡ Word Int ∷ a ∷ Mark OpenParen ∷ Mark CloseParen ∷ Mark OpenBrace ∷ Mark OpenBrace ∷ a ∷ Mark Semicolon ∷ Mark CloseBrace ∷ Word Extern ∷ a ∷ Mark Semicolon ∷ Mark CloseBrace
    ∷ Word Int ∷ a ∷ Mark Semicolon ∷ []
after_body = refl
