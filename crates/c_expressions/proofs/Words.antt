-- The words and stars of a type, taken one by one.
use Rattle.std.proofs.Common.{◌≡◌, ◌≢◌, ℕ, ◌+◌, ◌-◌, ◌<◌, ◌≤◌, zero, suc, List, [], ◌∷◌, ◌++◌, length, Option, Some, None, refl, sym, ap, ◌∙◌, subst, arith, append_assoc}
use Rattle.c_syntax.specs.declared.token.Token.{Token}
use Rattle.c_syntax.specs.declared.token.TokenKind.{TokenKind}
use Rattle.c_syntax.specs.declared.token.TokenKind.TheVariants as token
use Rattle.c_syntax.specs.declared.token.Keyword.{Keyword}
use Rattle.c_syntax.specs.declared.token.Keyword.TheVariants as keyword
use Rattle.c_syntax.specs.declared.token.Punct.{Punct}
use Rattle.c_syntax.specs.declared.token.Punct.TheVariants as mark
use Rattle.c_syntax.specs.declared.syntax.SpecWord.{SpecWord}
use Rattle.c_syntax.specs.SyntaxTree.{SpecsTree, TypeTree}
use Rattle.c_syntax.specs.Grammar.{spec_keyword, IsMark, IsKeyword, place_of, AreSpecs, LastSpec, MoreSpecs, AreStars, NoStar, MoreStars}
use Rattle.c_syntax.specs.Lookahead.{keyword_spec, kind_spec, spec_of}
use Rattle.c_cursor.specs.Front.{behind, mark_at}
use Rattle.c_expressions.specs.Parses.{ReadsSpecs, ReadsStars, ReadsType}
use Rattle.c_cursor.proofs.TakesLemmas.{kind_marked}

-- ---- what stands first

abbrev word_back : Option SpecWord → Keyword
word_back (Some w) = spec_keyword w
word_back None = keyword.Auto

keyword_back : (k : Keyword) (w : SpecWord) → keyword_spec k ≡ Some w → k ≡ spec_keyword w
keyword_back keyword.Static w e = ap word_back e
keyword_back keyword.Void w e = ap word_back e
keyword_back keyword.Char w e = ap word_back e
keyword_back keyword.Short w e = ap word_back e
keyword_back keyword.Int w e = ap word_back e
keyword_back keyword.Signed w e = ap word_back e
keyword_back keyword.Unsigned w e = ap word_back e
keyword_back k w e = absurd cc

kind_word_back : (kind : TokenKind) (w : SpecWord) → kind_spec kind ≡ Some w → kind ≡ token.Word (spec_keyword w)
kind_word_back (token.Word k) w e = ap token.Word (keyword_back k w e)
kind_word_back kind w e = absurd cc

-- a mark that stands first
pub is_first : (t : Token) (more : List Token) (m : Punct) → mark_at (t ∷ more) ≡ Some m → IsMark m t
is_first t more m e = kind_marked t.kind m e

pub mark_some : (tokens : List Token) (m : Punct) → mark_at tokens ≡ Some m → 0 < length tokens
mark_some [] m e = absurd cc
mark_some (t ∷ more) m e = omega arith

pub spec_some : (tokens : List Token) (w : SpecWord) → spec_of tokens ≡ Some w → 0 < length tokens
spec_some [] w e = absurd cc
spec_some (t ∷ more) w e = omega arith

-- ---- words

pub data SpecsTaken (before : List Token) : List SpecWord → List Token → Type 0 where
  NoSpec : SpecsTaken before [] before
  SomeSpecs : {words : List SpecWord} {after : List Token} (taken : List Token) → before ≡ taken ++ after → AreSpecs taken words → SpecsTaken before words after

specs_behind : (taken : List Token) (words : List SpecWord) (t : Token) (w : SpecWord) → AreSpecs taken words → IsKeyword (spec_keyword w) t → AreSpecs (taken ++ t ∷ []) (words ++ w ∷ [])
specs_behind taken words t w (LastSpec k) e = MoreSpecs k (LastSpec e)
specs_behind taken words t w (MoreSpecs {tokens = l} {words = ws} k more) e = MoreSpecs k (specs_behind l ws t w more e)

specs_next : (before : List Token) (words : List SpecWord) (t : Token) (more : List Token) (w : SpecWord) → SpecsTaken before words (t ∷ more) → IsKeyword (spec_keyword w) t → SpecsTaken before (words ++ w ∷ []) more
specs_next before words t more w NoSpec e = SomeSpecs (t ∷ []) refl (LastSpec e)
specs_next before words t more w (SomeSpecs taken cut are) e = SomeSpecs (taken ++ t ∷ []) (cut ∙ sym (append_assoc taken (t ∷ []) more)) (specs_behind taken words t w are e)

pub specs_more : (before : List Token) (words : List SpecWord) (after : List Token) (w : SpecWord) → SpecsTaken before words after → spec_of after ≡ Some w → SpecsTaken before (words ++ w ∷ []) (behind after)
specs_more before words [] w s e = absurd cc
specs_more before words (t ∷ more) w s e = specs_next before words t more w s (kind_word_back t.kind w e)

specs_place : (taken more : List Token) (words : List SpecWord) → AreSpecs taken words → place_of (taken ++ more) ≡ place_of taken
specs_place taken more words (LastSpec k) = refl
specs_place taken more words (MoreSpecs k rest) = refl

specs_length : (taken more : List Token) (words : List SpecWord) → AreSpecs taken words → 0 < length (taken ++ more)
specs_length taken more words (LastSpec k) = omega arith
specs_length taken more words (MoreSpecs k rest) = omega arith

specs_so : (before : List Token) (words : List SpecWord) (at : ℕ) (after : List Token) → SpecsTaken before words after → 0 < length words → (0 < length before → at ≡ place_of before) → spec_of after ≡ None → ReadsSpecs before (record { words = words; at = at }) after
specs_so before words at after NoSpec some place ends = absurd (omega (arith, some))
specs_so before words at after (SomeSpecs taken cut are) some place ends = record {
  taken = taken;
  cut = cut;
  are = are;
  place = place (subst (λ l. 0 < length l) (sym cut) (specs_length taken after words are)) ∙ ap place_of cut ∙ specs_place taken after words are;
  ends = ends;
}

pub specs_done : (before : List Token) (tree : SpecsTree) (after : List Token) → SpecsTaken before tree.words after → 0 < length tree.words → (0 < length before → tree.at ≡ place_of before) → spec_of after ≡ None → ReadsSpecs before tree after
specs_done before tree after s some place ends = specs_so before tree.words tree.at after s some place ends

-- ---- stars

pub record StarsTaken (before after : List Token) : Type 0 where
  pub count : ℕ
  pub taken : List Token
  pub cut : before ≡ taken ++ after
  pub are : AreStars taken count
  pub counts : count + length after ≡ length before

pub no_stars : (before : List Token) → StarsTaken before before
no_stars before = record { count = zero; taken = []; cut = refl; are = NoStar; counts = omega arith }

stars_behind : (taken : List Token) (n : ℕ) (t : Token) → AreStars taken n → IsMark mark.Star t → AreStars (taken ++ t ∷ []) (suc n)
stars_behind taken n t NoStar e = MoreStars e NoStar
stars_behind taken n t (MoreStars {tokens = l} {n = k} m more) e = MoreStars m (stars_behind l k t more e)

pub stars_more : (before after : List Token) → StarsTaken before after → mark_at after ≡ Some mark.Star → StarsTaken before (behind after)
stars_more before [] s e = absurd cc
stars_more before (t ∷ more) s e = record {
  count = suc s.count;
  taken = s.taken ++ t ∷ [];
  cut = s.cut ∙ sym (append_assoc s.taken (t ∷ []) more);
  are = stars_behind s.taken s.count t s.are (kind_marked t.kind mark.Star e);
  counts = omega (arith, s.counts);
}

pub stars_done : (before after : List Token) (n : ℕ) → StarsTaken before after → n ≡ length before - length after → mark_at after ≢ Some mark.Star → ReadsStars before n after
stars_done before after n s e ends = record {
  taken = s.taken;
  cut = s.cut;
  are = let same : s.count ≡ n = omega (arith, s.counts) in subst (AreStars s.taken) same s.are;
  ends = ends;
}

pub type_read : (before mid after : List Token) (type : TypeTree) → ReadsSpecs before type.specs mid → ReadsStars mid type.stars after → ReadsType before type after
type_read before mid after type s r = record {
  taken = s.taken ++ r.taken;
  cut = s.cut ∙ ap (λ l. s.taken ++ l) r.cut ∙ sym (append_assoc s.taken r.taken after);
  is = record { words = s.taken; stars = r.taken; cut = refl; are_specs = s.are; place = s.place; are_stars = r.are };
  whole = sym (ap spec_of r.cut) ∙ s.ends;
  ends = r.ends;
}

-- ---- one token fewer

pub behind_shorter : (tokens : List Token) → length (behind tokens) ≤ length tokens
behind_shorter [] = omega arith
behind_shorter (t ∷ more) = omega arith
