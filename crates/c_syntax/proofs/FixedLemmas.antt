-- No two keywords and no two marks have one spelling.
use Rattle.std.proofs.Common.{◌≡◌, ℕ, cond, List, [], ◌∷◌, length, ◌≤◌, refl, sym, ap, ◌∙◌, arith}
use Rattle.std.specs.Str.{bytes_eq}
use Rattle.c_syntax.specs.declared.token.Keyword.{Keyword}
use Rattle.c_syntax.specs.declared.token.Keyword.TheVariants as keyword
use Rattle.c_syntax.specs.declared.token.Punct.{Punct}
use Rattle.c_syntax.specs.declared.token.Punct.TheVariants as mark
use Rattle.c_syntax.specs.FixedTexts.{keyword_text, mark_text}

-- the first of some items that has a text
abbrev first_with : {A : Type 0} → (A → List ℕ) → List ℕ → A → List A → A
first_with text_of text other [] = other
first_with text_of text other (x ∷ xs) = cond (bytes_eq (text_of x) text) x (first_with text_of text other xs)

abbrev keywords : List Keyword
keywords =
    keyword.Auto ∷ keyword.Break ∷ keyword.Case ∷ keyword.Char ∷ keyword.Const ∷ keyword.Continue ∷ keyword.Default ∷ keyword.Do ∷ keyword.Double ∷ keyword.Else ∷ keyword.Enum ∷ keyword.Extern
    ∷ keyword.Float ∷ keyword.For ∷ keyword.Goto ∷ keyword.If ∷ keyword.Int ∷ keyword.Long ∷ keyword.Register ∷ keyword.Return ∷ keyword.Short ∷ keyword.Signed ∷ keyword.Sizeof ∷ keyword.Static
    ∷ keyword.Struct ∷ keyword.Switch ∷ keyword.Typedef ∷ keyword.Union ∷ keyword.Unsigned ∷ keyword.Void ∷ keyword.Volatile ∷ keyword.While ∷ []

abbrev marks : List Punct
marks =
    mark.OpenBracket ∷ mark.CloseBracket ∷ mark.OpenParen ∷ mark.CloseParen ∷ mark.OpenBrace ∷ mark.CloseBrace ∷ mark.Comma ∷ mark.Semicolon ∷ mark.Colon ∷ mark.Question ∷ mark.Tilde ∷ mark.Dot ∷ mark.Arrow
    ∷ mark.Ellipsis ∷ mark.Plus ∷ mark.Minus ∷ mark.Star ∷ mark.Slash ∷ mark.Percent ∷ mark.Ampersand ∷ mark.Bar ∷ mark.Caret ∷ mark.Exclamation ∷ mark.Less ∷ mark.Greater ∷ mark.Assign ∷ mark.PlusPlus
    ∷ mark.MinusMinus ∷ mark.ShiftLeft ∷ mark.ShiftRight ∷ mark.LessEqual ∷ mark.GreaterEqual ∷ mark.EqualEqual ∷ mark.NotEqual ∷ mark.AndAnd ∷ mark.OrOr ∷ mark.PlusAssign ∷ mark.MinusAssign ∷ mark.StarAssign
    ∷ mark.SlashAssign ∷ mark.PercentAssign ∷ mark.AmpersandAssign ∷ mark.BarAssign ∷ mark.CaretAssign ∷ mark.ShiftLeftAssign ∷ mark.ShiftRightAssign ∷ []

keyword_back : (k : Keyword) → first_with keyword_text (keyword_text k) keyword.Auto keywords ≡ k
keyword_back keyword.Auto = refl
keyword_back k = refl

mark_back : (m : Punct) → first_with mark_text (mark_text m) mark.OpenBracket marks ≡ m
mark_back mark.OpenBracket = refl
mark_back m = refl

pub keyword_one : (j k : Keyword) → keyword_text j ≡ keyword_text k → j ≡ k
keyword_one j k e = sym (keyword_back j) ∙ ap (λ t. first_with keyword_text t keyword.Auto keywords) e ∙ keyword_back k

pub mark_one : (m n : Punct) → mark_text m ≡ mark_text n → m ≡ n
mark_one m n e = sym (mark_back m) ∙ ap (λ t. first_with mark_text t mark.OpenBracket marks) e ∙ mark_back n

pub keyword_short : (k : Keyword) → length (keyword_text k) ≤ 8
keyword_short keyword.Auto = omega arith
keyword_short k = omega arith
