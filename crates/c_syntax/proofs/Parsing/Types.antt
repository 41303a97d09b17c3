-- The words and the stars of a type are read in one way.
use Rattle.std.proofs.Common.{◌≡◌, ℕ, suc, List, ◌∷◌, ◌++◌, Some, None, refl, sym, ap, ◌∙◌, append_assoc}
use Rattle.c_syntax.specs.declared.token.Token.{Token}
use Rattle.c_syntax.specs.declared.token.Punct.TheVariants as mark
use Rattle.c_syntax.specs.declared.operator.BinaryOp.TheVariants as binary
use Rattle.c_syntax.specs.declared.syntax.SpecWord.{SpecWord}
use Rattle.c_syntax.specs.SyntaxTree.{TypeTree}
use Rattle.c_syntax.specs.Grammar.{spec_keyword, IsKeyword, IsMark, place_of, AreSpecs, LastSpec, MoreSpecs, AreStars, NoStar, MoreStars, IsType}
use Rattle.c_syntax.specs.Lookahead.{BinaryNext, EndNext, next_of, kind_spec, spec_of}
use Rattle.c_syntax.proofs.Parsing.Lookahead.{is_next, is_spec}

-- no word of a type stands at the front
abbrev pub NoSpec : List Token → Type 0
NoSpec rest = spec_of rest ≡ None

-- no star stands at the front
abbrev pub NoStarNext : List Token → Type 0
NoStarNext rest = ¬ (next_of rest ≡ BinaryNext binary.Mul)

pub no_star_other : (rest : List Token) → next_of rest ≡ EndNext → NoStarNext rest
no_star_other rest e star = let k : EndNext ≡ BinaryNext binary.Mul = sym e ∙ star in absurd cc

-- the words of a type begin with one
pub specs_begin : (a r : List Token) (words : List SpecWord) → AreSpecs a words → (w : SpecWord) × (spec_of (a ++ r) ≡ Some w)
specs_begin a r words (LastSpec {t = t} {w = w} e) = (w, is_spec w t e)
specs_begin a r words (MoreSpecs {t = t} {w = w} e more) = (w, is_spec w t e)

same_word : (t u : Token) (w v : SpecWord) → IsKeyword (spec_keyword w) t → IsKeyword (spec_keyword v) u → t ≡ u → w ≡ v
same_word t u w v e f same =
    let k : Some w ≡ Some v = sym (is_spec w t e) ∙ ap (λ (x : Token). kind_spec x.kind) same ∙ is_spec v u f in
    cc

-- what stands behind the words of a type is no word
pub specs_one : (a b r s : List Token) (v w : List SpecWord) → AreSpecs a v → AreSpecs b w → NoSpec r → NoSpec s → a ++ r ≡ b ++ s → (a ≡ b) × (v ≡ w) × (r ≡ s)
specs_one a b r s v w (LastSpec {t = t} {w = x} e) (LastSpec {t = u} {w = y} f) g h same =
    let first : t ≡ u = cc in
    let words = same_word t u x y e f first in
    (cc first, cc words, cc)
specs_one a b r s v w (LastSpec {t = t} {w = x} e) (MoreSpecs {t = u} {tokens = ys} {w = y} f more) g h same =
    let begin = specs_begin ys s _ more in
    let back : r ≡ ys ++ s = cc in
    let k : Some begin.0 ≡ None = sym begin.1 ∙ sym (ap spec_of back) ∙ g in
    absurd cc
specs_one a b r s v w (MoreSpecs {t = t} {tokens = xs} {w = x} e more) (LastSpec {t = u} {w = y} f) g h same =
    let begin = specs_begin xs r _ more in
    let back : s ≡ xs ++ r = cc in
    let k : Some begin.0 ≡ None = sym begin.1 ∙ sym (ap spec_of back) ∙ h in
    absurd cc
specs_one a b r s v w (MoreSpecs {t = t} {tokens = xs} {w = x} {words = vs} e more) (MoreSpecs {t = u} {tokens = ys} {w = y} {words = ws} f more') g h same =
    let first : t ≡ u = cc in
    let words = same_word t u x y e f first in
    let f = specs_one xs ys r s vs ws more more' g h cc in
    (cc (first, f.0), cc (words, f.1), f.2)

star_begins : (t : Token) (rest : List Token) → IsMark mark.Star t → next_of (t ∷ rest) ≡ BinaryNext binary.Mul
star_begins t rest e = is_next mark.Star t e

pub stars_one : (a b r s : List Token) (n m : ℕ) → AreStars a n → AreStars b m → NoStarNext r → NoStarNext s → a ++ r ≡ b ++ s → (a ≡ b) × (n ≡ m) × (r ≡ s)
stars_one a b r s n m NoStar NoStar g h same = (refl, refl, same)
stars_one a b r s n m NoStar (MoreStars {t = u} {tokens = ys} f more) g h same = absurd (g (ap next_of same ∙ star_begins u (ys ++ s) f))
stars_one a b r s n m (MoreStars {t = t} {tokens = xs} e more) NoStar g h same = absurd (h (sym (ap next_of same) ∙ star_begins t (xs ++ r) e))
stars_one a b r s n m (MoreStars {t = t} {tokens = xs} {n = i} e more) (MoreStars {t = u} {tokens = ys} {n = j} f more') g h same =
    let first : t ≡ u = cc in
    let f = stars_one xs ys r s i j more more' g h cc in
    (cc (first, f.0), ap suc f.1, f.2)

-- stars are no words
stars_no_spec : (a r : List Token) (n : ℕ) → AreStars a n → NoSpec r → NoSpec (a ++ r)
stars_no_spec a r n NoStar g = g
stars_no_spec a r n (MoreStars e more) g = ap kind_spec e

abbrev type_of : List SpecWord → ℕ → ℕ → TypeTree
type_of words at stars = record { specs = record { words = words; at = at }; stars = stars }

same_type : (x y : TypeTree) → x.specs.words ≡ y.specs.words → x.specs.at ≡ y.specs.at → x.stars ≡ y.stars → x ≡ y
same_type x y words at stars =
    ap (λ l. type_of l x.specs.at x.stars) words ∙ ap (λ n. type_of y.specs.words n x.stars) at ∙ ap (type_of y.specs.words y.specs.at) stars

pub type_one : (a b r s : List Token) (x y : TypeTree) → IsType a x → IsType b y → NoSpec r → NoSpec s → NoStarNext r → NoStarNext s → a ++ r ≡ b ++ s → (a ≡ b) × (x ≡ y) × (r ≡ s)
type_one a b r s x y d e g h i j same =
    let k : d.words ++ (d.stars ++ r) ≡ e.words ++ (e.stars ++ s) =
    sym (append_assoc d.words d.stars r) ∙ sym (ap (λ l. l ++ r) d.cut) ∙ same ∙ ap (λ l. l ++ s) e.cut ∙ append_assoc e.words e.stars s in
    let f = specs_one d.words e.words (d.stars ++ r) (e.stars ++ s) x.specs.words y.specs.words d.are_specs e.are_specs (stars_no_spec d.stars r x.stars d.are_stars g) (stars_no_spec e.stars s y.stars e.are_stars h) k in
    let p = stars_one d.stars e.stars r s x.stars y.stars d.are_stars e.are_stars i j f.2 in (
      d.cut ∙ ap (λ l. l ++ d.stars) f.0 ∙ ap (λ l. e.words ++ l) p.0 ∙ sym e.cut,
      same_type x y f.1 (d.place ∙ ap place_of f.0 ∙ sym e.place) p.1,
      p.2,
    )
