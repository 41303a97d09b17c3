-- Words of a type and stars at the front of a text are the same, where none of their sort stands behind.
use Rattle.std.proofs.Common.{◌≡◌, ◌≢◌, ℕ, suc, List, ◌∷◌, ◌++◌, Option, Some, None, refl, sym, ap, ◌∙◌}
use Rattle.c_syntax.specs.declared.token.Token.{Token}
use Rattle.c_syntax.specs.declared.token.Keyword.{Keyword}
use Rattle.c_syntax.specs.declared.token.Keyword.TheVariants as keyword
use Rattle.c_syntax.specs.declared.token.Punct.TheVariants as mark
use Rattle.c_syntax.specs.declared.syntax.SpecWord.{SpecWord}
use Rattle.c_syntax.specs.declared.syntax.SpecWord.TheVariants as word
use Rattle.c_syntax.specs.Grammar.{IsMark, IsKeyword, spec_keyword, AreSpecs, LastSpec, MoreSpecs, AreStars, NoStar, MoreStars}
use Rattle.c_syntax.proofs.Rows.Fronts.{TypeWord, StarMark, keyword_sort, kind_sort, first, Agree, same_head, same_tail}

abbrev word_of : Keyword → Option SpecWord
word_of keyword.Static = Some word.Static
word_of keyword.Void = Some word.Void
word_of keyword.Char = Some word.Char
word_of keyword.Short = Some word.Short
word_of keyword.Int = Some word.Int
word_of keyword.Signed = Some word.Signed
word_of keyword.Unsigned = Some word.Unsigned
word_of k = None

word_back : (w : SpecWord) → word_of (spec_keyword w) ≡ Some w
word_back word.Static = refl
word_back w = refl

word_sort : (w : SpecWord) → keyword_sort (spec_keyword w) ≡ TypeWord
word_sort word.Static = refl
word_sort w = refl

one_word : (t : Token) (w v : SpecWord) → IsKeyword (spec_keyword w) t → IsKeyword (spec_keyword v) t → w ≡ v
one_word t w v g h = let same : spec_keyword w ≡ spec_keyword v = cc in let found = ap word_of same in cc (word_back w, word_back v)

type_word : (t : Token) (more : List Token) (w : SpecWord) → IsKeyword (spec_keyword w) t → first (t ∷ more) ≡ TypeWord
type_word t more w g = ap kind_sort g ∙ word_sort w

pub specs_first : (a r : List Token) (words : List SpecWord) → AreSpecs a words → first (a ++ r) ≡ TypeWord
specs_first _ r _ (LastSpec {t = t} {w = w} g) = type_word t r w g
specs_first _ r _ (MoreSpecs {t = t} {tokens = tokens} {w = w} g more) = type_word t (tokens ++ r) w g

pub specs_one : (a b r s : List Token) (ws vs : List SpecWord) → AreSpecs a ws → AreSpecs b vs → first r ≢ TypeWord → first s ≢ TypeWord → a ++ r ≡ b ++ s → Agree a b r s ws vs
specs_one _ _ r s _ _ (LastSpec {t = t} {w = w} g) (LastSpec {t = u} {w = v} h) n m e =
    let same = same_head t u r s e in
    let words = one_word t w v g (ap (λ (x : Token). x.kind) same ∙ h) in
    record { front = cc; rest = same_tail t u r s e; tree = cc }
specs_one _ _ r s _ _ (LastSpec {t = t} {w = w} g) (MoreSpecs {t = u} {tokens = b} {w = v} {words = vs} h more) n m e =
    absurd (n (ap first (same_tail t u r (b ++ s) e) ∙ specs_first b s vs more))
specs_one _ _ r s _ _ (MoreSpecs {t = t} {tokens = a} {w = w} {words = ws} g more) (LastSpec {t = u} {w = v} h) n m e =
    absurd (m (sym (ap first (same_tail t u (a ++ r) s e)) ∙ specs_first a r ws more))
specs_one _ _ r s _ _ (MoreSpecs {t = t} {tokens = a} {w = w} {words = ws} g more) (MoreSpecs {t = u} {tokens = b} {w = v} {words = vs} h also) n m e =
    let same = same_head t u (a ++ r) (b ++ s) e in
    let words = one_word t w v g (ap (λ (x : Token). x.kind) same ∙ h) in
    let found = specs_one a b r s ws vs more also n m (same_tail t u (a ++ r) (b ++ s) e) in
    record { front = cc (found.front, same); rest = found.rest; tree = cc (found.tree, words) }

-- stars

pub star_first : (t : Token) (more : List Token) → IsMark mark.Star t → first (t ∷ more) ≡ StarMark
star_first t more g = ap kind_sort g

pub stars_one : (a b r s : List Token) (n m : ℕ) → AreStars a n → AreStars b m → first r ≢ StarMark → first s ≢ StarMark → a ++ r ≡ b ++ s → Agree a b r s n m
stars_one _ _ r s _ _ NoStar NoStar p q e = record { front = refl; rest = e; tree = refl }
stars_one _ _ r s _ _ NoStar (MoreStars {t = u} {tokens = b} h more) p q e = absurd (p (ap first e ∙ star_first u (b ++ s) h))
stars_one _ _ r s _ _ (MoreStars {t = t} {tokens = a} g more) NoStar p q e = absurd (q (sym (ap first e) ∙ star_first t (a ++ r) g))
stars_one _ _ r s _ _ (MoreStars {t = t} {tokens = a} {n = n} g more) (MoreStars {t = u} {tokens = b} {n = m} h also) p q e =
    let same = same_head t u (a ++ r) (b ++ s) e in
    let found = stars_one a b r s n m more also p q (same_tail t u (a ++ r) (b ++ s) e) in
    record { front = cc (found.front, same); rest = found.rest; tree = ap suc found.tree }
