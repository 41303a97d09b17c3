-- What the first token tells of the statement that it begins, and of an `else`.
use Rattle.std.proofs.Common.{◌≡◌, ◌≢◌, Bool, true, false, List, [], ◌∷◌, Option, Some, None, refl, sym, ap, ◌∙◌}
use Rattle.std.specs.Option.{is_some}
use Rattle.c_syntax.specs.declared.syntax.SpecWord.{SpecWord}
use Rattle.c_syntax.specs.declared.token.Token.{Token}
use Rattle.c_syntax.specs.declared.token.TokenKind.{TokenKind}
use Rattle.c_syntax.specs.declared.token.TokenKind.TheVariants as token
use Rattle.c_syntax.specs.declared.token.Keyword.{Keyword}
use Rattle.c_syntax.specs.declared.token.Keyword.TheVariants as keyword
use Rattle.c_syntax.specs.declared.token.Punct.{Punct}
use Rattle.c_syntax.specs.declared.token.Punct.TheVariants as mark
use Rattle.c_syntax.specs.Derives.{Closing, Closed, Open}
use Rattle.c_syntax.specs.Lookahead.{spec_of}
use Rattle.c_syntax.proofs.Rows.Fronts.{Sort, ElseWord, BreakWord, ContinueWord, ReturnWord, DoWord, IfWord, WhileWord, ForWord, SwitchWord, BraceOpens, SemicolonMark, keyword_sort, mark_sort, kind_sort, first}
use Rattle.c_syntax.proofs.Rows.Statements.{Fits}
use Rattle.c_cursor.specs.Front.{kind_mark, kind_word, mark_at, word_at}
use Rattle.c_statements.specs.StatementRows.{EndsStatement}
use Rattle.c_statements.specs.StatementFronts.{begins_statement}
use Rattle.c_declarations.proofs.FrontTokens.{word_sorted}

-- `else`
keyword_else : (w : Keyword) → keyword_sort w ≡ ElseWord → w ≡ keyword.Else
keyword_else keyword.Else e = refl
keyword_else w e = absurd cc

mark_no_else : (m : Punct) → mark_sort m ≢ ElseWord
mark_no_else mark.Star e = cc
mark_no_else m e = cc

kind_else : (k : TokenKind) → kind_sort k ≡ ElseWord → kind_word k ≡ Some keyword.Else
kind_else (token.Word w) e = ap Some (keyword_else w e)
kind_else (token.Mark m) e = absurd (mark_no_else m e)
kind_else k e = absurd cc

pub no_else : (r : List Token) → word_at r ≢ Some keyword.Else → first r ≢ ElseWord
no_else [] n e = cc
no_else (t ∷ r) n e = n (kind_else t.kind e)

pub no_else_word : (r : List Token) → first r ≢ ElseWord → word_at r ≢ Some keyword.Else
no_else_word r n e = n (word_sorted keyword.Else r e)

-- what may stand behind a statement
pub fits_ends : (c : Closing) (r : List Token) → EndsStatement c r → Fits c r
fits_ends Closed r h = tt
fits_ends Open r h = no_else r h

pub ends_fitting : (c : Closing) (r : List Token) → word_at r ≢ Some keyword.Else → EndsStatement c r
ends_fitting Closed r n = tt {0}
ends_fitting Open r n = n

-- what `is_some` says of a word of a type
pub spec_stands : {r : Bool} {o : Option SpecWord} (b : List Token) → r ≡ is_some o → o ≡ spec_of b → r ≡ true → spec_of b ≢ None
spec_stands b h s k n = let both : true ≡ false = sym k ∙ h ∙ ap is_some (s ∙ n) in cc

no_some : (o : Option SpecWord) → is_some o ≡ false → o ≡ None
no_some (Some w) e = absurd cc
no_some None e = refl

pub spec_wanting : {r : Bool} {o : Option SpecWord} (b : List Token) → r ≡ is_some o → o ≡ spec_of b → r ≡ false → spec_of b ≡ None
spec_wanting {o = o} b h s k = sym s ∙ no_some o (sym h ∙ k)

-- marks that statements begin with
mark_semicolon : (m : Punct) → mark_sort m ≡ SemicolonMark → m ≡ mark.Semicolon
mark_semicolon mark.Semicolon e = refl
mark_semicolon m e = absurd cc

mark_brace : (m : Punct) → mark_sort m ≡ BraceOpens → m ≡ mark.OpenBrace
mark_brace mark.OpenBrace e = refl
mark_brace m e = absurd cc

keyword_no_mark : (w : Keyword) → (keyword_sort w ≢ SemicolonMark) × (keyword_sort w ≢ BraceOpens)
keyword_no_mark keyword.Do = ((λ e. cc), (λ e. cc))
keyword_no_mark w = ((λ e. cc), (λ e. cc))

kind_semicolon : (k : TokenKind) → kind_sort k ≡ SemicolonMark → kind_mark k ≡ Some mark.Semicolon
kind_semicolon (token.Mark m) e = ap Some (mark_semicolon m e)
kind_semicolon (token.Word w) e = absurd ((keyword_no_mark w).0 e)
kind_semicolon k e = absurd cc

kind_brace : (k : TokenKind) → kind_sort k ≡ BraceOpens → kind_mark k ≡ Some mark.OpenBrace
kind_brace (token.Mark m) e = ap Some (mark_brace m e)
kind_brace (token.Word w) e = absurd ((keyword_no_mark w).1 e)
kind_brace k e = absurd cc

pub no_semicolon : (r : List Token) → mark_at r ≢ Some mark.Semicolon → first r ≢ SemicolonMark
no_semicolon [] n e = cc
no_semicolon (t ∷ r) n e = n (kind_semicolon t.kind e)

pub no_brace : (r : List Token) → mark_at r ≢ Some mark.OpenBrace → first r ≢ BraceOpens
no_brace [] n e = cc
no_brace (t ∷ r) n e = n (kind_brace t.kind e)

-- keywords that statements begin with
abbrev pub leads : Sort → Bool
leads BreakWord = true
leads ContinueWord = true
leads ReturnWord = true
leads DoWord = true
leads IfWord = true
leads WhileWord = true
leads ForWord = true
leads SwitchWord = true
leads sort = false

keyword_leads : (w : Keyword) → leads (keyword_sort w) ≡ begins_statement (Some w)
keyword_leads keyword.Do = refl
keyword_leads w = refl

mark_leads : (m : Punct) → leads (mark_sort m) ≡ false
mark_leads mark.Star = refl
mark_leads m = refl

kind_leads : (k : TokenKind) → leads (kind_sort k) ≡ begins_statement (kind_word k)
kind_leads (token.Word w) = keyword_leads w
kind_leads (token.Mark m) = mark_leads m
kind_leads k = refl

pub word_leads : (r : List Token) → leads (first r) ≡ begins_statement (word_at r)
word_leads [] = refl
word_leads (t ∷ r) = kind_leads t.kind
