-- What a token at the front tells of the sort of the first token.
use Rattle.std.proofs.Common.{◌≡◌, ◌≢◌, List, [], ◌∷◌, Some, None, refl, sym, ap, ◌∙◌}
use Rattle.c_syntax.specs.declared.token.Token.{Token}
use Rattle.c_syntax.specs.declared.token.TokenKind.{TokenKind}
use Rattle.c_syntax.specs.declared.token.TokenKind.TheVariants as token
use Rattle.c_syntax.specs.declared.token.Keyword.{Keyword}
use Rattle.c_syntax.specs.declared.token.Keyword.TheVariants as keyword
use Rattle.c_syntax.specs.declared.token.Punct.{Punct}
use Rattle.c_syntax.specs.Grammar.{IsMark, IsKeyword}
use Rattle.c_syntax.specs.Lookahead.{keyword_spec, kind_spec, spec_of}
use Rattle.c_syntax.proofs.Rows.Fronts.{TypeWord, keyword_sort, mark_sort, kind_sort, first}
use Rattle.c_cursor.specs.Front.{mark_at, word_at}
use Rattle.c_cursor.proofs.TakesLemmas.{kind_marked, kind_worded}

pub mark_sorted : (m : Punct) (r : List Token) → mark_at r ≡ Some m → first r ≡ mark_sort m
mark_sorted m [] e = absurd cc
mark_sorted m (t ∷ r) e = ap kind_sort (kind_marked t.kind m e)

pub word_sorted : (w : Keyword) (r : List Token) → word_at r ≡ Some w → first r ≡ keyword_sort w
word_sorted w [] e = absurd cc
word_sorted w (t ∷ r) e = ap kind_sort (kind_worded t.kind w e)

-- the token itself
pub mark_is : {m : Punct} {b more : List Token} {t : Token} → mark_at b ≡ Some m → b ≡ t ∷ more → IsMark m t
mark_is {m = m} {t = t} e cut = kind_marked t.kind m (sym (ap mark_at cut) ∙ e)

pub word_is : {w : Keyword} {b more : List Token} {t : Token} → word_at b ≡ Some w → b ≡ t ∷ more → IsKeyword w t
word_is {w = w} {t = t} e cut = kind_worded t.kind w (sym (ap word_at cut) ∙ e)

-- a word of a type
keyword_no_spec : (w : Keyword) → keyword_sort w ≢ TypeWord → keyword_spec w ≡ None
keyword_no_spec keyword.Static n = absurd (n refl)
keyword_no_spec keyword.Void n = absurd (n refl)
keyword_no_spec keyword.Char n = absurd (n refl)
keyword_no_spec keyword.Short n = absurd (n refl)
keyword_no_spec keyword.Int n = absurd (n refl)
keyword_no_spec keyword.Signed n = absurd (n refl)
keyword_no_spec keyword.Unsigned n = absurd (n refl)
keyword_no_spec w n = refl

kind_no_spec : (k : TokenKind) → kind_sort k ≢ TypeWord → kind_spec k ≡ None
kind_no_spec (token.Word w) n = keyword_no_spec w n
kind_no_spec k n = refl

pub no_spec : (r : List Token) → first r ≢ TypeWord → spec_of r ≡ None
no_spec [] n = refl
no_spec (t ∷ r) n = kind_no_spec t.kind n
