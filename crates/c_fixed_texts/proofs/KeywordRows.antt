-- The rows of all keywords.
use Rattle.std.proofs.Common.{◌≡◌, ◌≢◌, ℕ, Bool, true, false, List, [], ◌∷◌, Option, Some, None, cond, map, refl}
use Rattle.std.specs.Prelude.{⊤, MatchOption}
use Rattle.std.specs.Str.{bytes_eq}
use Rattle.std.specs.Bool.{Decides}
use Rattle.std.proofs.lemmas.Slice.Eq.{bytes_eq-Decides}
use Rattle.c_syntax.specs.declared.token.Keyword.{Keyword}
use Rattle.c_syntax.specs.declared.token.Keyword.TheVariants as keyword
use Rattle.c_syntax.specs.FixedTexts.{keyword_text}
use Rattle.c_fixed_texts.specs.Keywords.{Row, keyword_among}

abbrev row_of : Keyword → Row
row_of k = (keyword_text k, k)

-- a text is the spelling of none of these
abbrev IsNone : List ℕ → List Keyword → Type 0
IsNone text [] = ⊤
IsNone text (k ∷ ks) = (text ≢ keyword_text k) × IsNone text ks

abbrev Answers : List ℕ → List Keyword → Option Keyword → Type 0
Answers text ks o = MatchOption o (IsNone text ks) (λ k. text ≡ keyword_text k)

further : (text : List ℕ) (k : Keyword) (ks : List Keyword) (o : Option Keyword) → text ≢ keyword_text k → Answers text ks o → Answers text (k ∷ ks) o
further text k ks None n h = (n, h)
further text k ks (Some found) n h = h

here : (b : Bool) (text : List ℕ) (k : Keyword) (ks : List Keyword) (o : Option Keyword) → Decides b (text ≡ keyword_text k) → Answers text ks o → Answers text (k ∷ ks) (cond b (Some k) o)
here true text k ks o d h = d.0 refl
here false text k ks o d h = further text k ks o (λ same. let t : false ≡ true = d.1 same in cc) h

found : (text : List ℕ) (ks : List Keyword) → Answers text ks (keyword_among text (map row_of ks))
found text [] = tt
found text (k ∷ ks) = here (bytes_eq text (keyword_text k)) text k ks (keyword_among text (map row_of ks)) (bytes_eq-Decides text (keyword_text k)) (found text ks)

abbrev all_keywords : List Keyword
all_keywords = keyword.Auto ∷ keyword.Break ∷ keyword.Case ∷ keyword.Char ∷ keyword.Const ∷ keyword.Continue ∷
    keyword.Default ∷ keyword.Do ∷ keyword.Double ∷ keyword.Else ∷ keyword.Enum ∷ keyword.Extern ∷ keyword.Float ∷
    keyword.For ∷ keyword.Goto ∷ keyword.If ∷ keyword.Int ∷ keyword.Long ∷ keyword.Register ∷ keyword.Return ∷
    keyword.Short ∷ keyword.Signed ∷ keyword.Sizeof ∷ keyword.Static ∷ keyword.Struct ∷ keyword.Switch ∷
    keyword.Typedef ∷ keyword.Union ∷ keyword.Unsigned ∷ keyword.Void ∷ keyword.Volatile ∷ keyword.While ∷ []

none_is : (text : List ℕ) → IsNone text all_keywords → (k : Keyword) → text ≢ keyword_text k
none_is text n keyword.Auto = n.0
none_is text n keyword.Break = n.1.0
none_is text n keyword.Case = n.1.1.0
none_is text n keyword.Char = n.1.1.1.0
none_is text n keyword.Const = n.1.1.1.1.0
none_is text n keyword.Continue = n.1.1.1.1.1.0
none_is text n keyword.Default = n.1.1.1.1.1.1.0
none_is text n keyword.Do = n.1.1.1.1.1.1.1.0
none_is text n keyword.Double = n.1.1.1.1.1.1.1.1.0
none_is text n keyword.Else = n.1.1.1.1.1.1.1.1.1.0
none_is text n keyword.Enum = n.1.1.1.1.1.1.1.1.1.1.0
none_is text n keyword.Extern = n.1.1.1.1.1.1.1.1.1.1.1.0
none_is text n keyword.Float = n.1.1.1.1.1.1.1.1.1.1.1.1.0
none_is text n keyword.For = n.1.1.1.1.1.1.1.1.1.1.1.1.1.0
none_is text n keyword.Goto = n.1.1.1.1.1.1.1.1.1.1.1.1.1.1.0
none_is text n keyword.If = n.1.1.1.1.1.1.1.1.1.1.1.1.1.1.1.0
none_is text n keyword.Int = n.1.1.1.1.1.1.1.1.1.1.1.1.1.1.1.1.0
none_is text n keyword.Long = n.1.1.1.1.1.1.1.1.1.1.1.1.1.1.1.1.1.0
none_is text n keyword.Register = n.1.1.1.1.1.1.1.1.1.1.1.1.1.1.1.1.1.1.0
none_is text n keyword.Return = n.1.1.1.1.1.1.1.1.1.1.1.1.1.1.1.1.1.1.1.0
none_is text n keyword.Short = n.1.1.1.1.1.1.1.1.1.1.1.1.1.1.1.1.1.1.1.1.0
none_is text n keyword.Signed = n.1.1.1.1.1.1.1.1.1.1.1.1.1.1.1.1.1.1.1.1.1.0
none_is text n keyword.Sizeof = n.1.1.1.1.1.1.1.1.1.1.1.1.1.1.1.1.1.1.1.1.1.1.0
none_is text n keyword.Static = n.1.1.1.1.1.1.1.1.1.1.1.1.1.1.1.1.1.1.1.1.1.1.1.0
none_is text n keyword.Struct = n.1.1.1.1.1.1.1.1.1.1.1.1.1.1.1.1.1.1.1.1.1.1.1.1.0
none_is text n keyword.Switch = n.1.1.1.1.1.1.1.1.1.1.1.1.1.1.1.1.1.1.1.1.1.1.1.1.1.0
none_is text n keyword.Typedef = n.1.1.1.1.1.1.1.1.1.1.1.1.1.1.1.1.1.1.1.1.1.1.1.1.1.1.0
none_is text n keyword.Union = n.1.1.1.1.1.1.1.1.1.1.1.1.1.1.1.1.1.1.1.1.1.1.1.1.1.1.1.0
none_is text n keyword.Unsigned = n.1.1.1.1.1.1.1.1.1.1.1.1.1.1.1.1.1.1.1.1.1.1.1.1.1.1.1.1.0
none_is text n keyword.Void = n.1.1.1.1.1.1.1.1.1.1.1.1.1.1.1.1.1.1.1.1.1.1.1.1.1.1.1.1.1.0
none_is text n keyword.Volatile = n.1.1.1.1.1.1.1.1.1.1.1.1.1.1.1.1.1.1.1.1.1.1.1.1.1.1.1.1.1.1.0
none_is text n keyword.While = n.1.1.1.1.1.1.1.1.1.1.1.1.1.1.1.1.1.1.1.1.1.1.1.1.1.1.1.1.1.1.1.0

named : (text : List ℕ) (o : Option Keyword) → Answers text all_keywords o → MatchOption o ((k : Keyword) → text ≢ keyword_text k) (λ k. text ≡ keyword_text k)
named text None h = none_is text h
named text (Some k) h = h

-- the answer of the rows of all keywords
pub keyword_found : (text : List ℕ) (o : Option Keyword) → o ≡ keyword_among text (map row_of all_keywords) → MatchOption o ((k : Keyword) → text ≢ keyword_text k) (λ k. text ≡ keyword_text k)
keyword_found text o e = rw e (named text (keyword_among text (map row_of all_keywords)) (found text all_keywords))
