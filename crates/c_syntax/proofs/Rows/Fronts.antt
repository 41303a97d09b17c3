-- What a list of tokens begins with, and when two fronts of one text are the same.
use Rattle.std.proofs.Common.{◌≡◌, List, [], ◌∷◌, ◌++◌, sym, ap, ◌∙◌}
use Rattle.std.proofs.lemmas.List.{append_cancel_left}
use Rattle.c_syntax.specs.declared.token.Token.{Token}
use Rattle.c_syntax.specs.declared.token.TokenKind.{TokenKind}
use Rattle.c_syntax.specs.declared.token.TokenKind.TheVariants as token
use Rattle.c_syntax.specs.declared.token.Keyword.{Keyword}
use Rattle.c_syntax.specs.declared.token.Keyword.TheVariants as keyword
use Rattle.c_syntax.specs.declared.token.Punct.{Punct}
use Rattle.c_syntax.specs.declared.token.Punct.TheVariants as mark

-- the sorts of tokens that the rows tell apart by the first one
pub data Sort : Type 0 where
  NoToken : Sort
  TypeWord : Sort
  ElseWord : Sort
  CaseWord : Sort
  DefaultWord : Sort
  BreakWord : Sort
  ContinueWord : Sort
  ReturnWord : Sort
  DoWord : Sort
  IfWord : Sort
  WhileWord : Sort
  ForWord : Sort
  SwitchWord : Sort
  OtherWord : Sort
  AnyName : Sort
  StarMark : Sort
  ParenOpens : Sort
  ParenCloses : Sort
  BracketOpens : Sort
  BracketCloses : Sort
  BraceOpens : Sort
  BraceCloses : Sort
  CommaMark : Sort
  SemicolonMark : Sort
  ColonMark : Sort
  AssignMark : Sort
  QuestionMark : Sort
  -- constants, `sizeof` and the other marks
  Others : Sort

abbrev pub keyword_sort : Keyword → Sort
keyword_sort keyword.Static = TypeWord
keyword_sort keyword.Void = TypeWord
keyword_sort keyword.Char = TypeWord
keyword_sort keyword.Short = TypeWord
keyword_sort keyword.Int = TypeWord
keyword_sort keyword.Signed = TypeWord
keyword_sort keyword.Unsigned = TypeWord
keyword_sort keyword.Else = ElseWord
keyword_sort keyword.Case = CaseWord
keyword_sort keyword.Default = DefaultWord
keyword_sort keyword.Break = BreakWord
keyword_sort keyword.Continue = ContinueWord
keyword_sort keyword.Return = ReturnWord
keyword_sort keyword.Do = DoWord
keyword_sort keyword.If = IfWord
keyword_sort keyword.While = WhileWord
keyword_sort keyword.For = ForWord
keyword_sort keyword.Switch = SwitchWord
keyword_sort keyword.Sizeof = Others
keyword_sort k = OtherWord

abbrev pub mark_sort : Punct → Sort
mark_sort mark.Star = StarMark
mark_sort mark.OpenParen = ParenOpens
mark_sort mark.CloseParen = ParenCloses
mark_sort mark.OpenBracket = BracketOpens
mark_sort mark.CloseBracket = BracketCloses
mark_sort mark.OpenBrace = BraceOpens
mark_sort mark.CloseBrace = BraceCloses
mark_sort mark.Comma = CommaMark
mark_sort mark.Semicolon = SemicolonMark
mark_sort mark.Colon = ColonMark
mark_sort mark.Assign = AssignMark
mark_sort mark.Question = QuestionMark
mark_sort m = Others

abbrev pub kind_sort : TokenKind → Sort
kind_sort (token.Word k) = keyword_sort k
kind_sort (token.Name name) = AnyName
kind_sort (token.Mark m) = mark_sort m
kind_sort kind = Others

-- what a list begins with
abbrev pub first : List Token → Sort
first [] = NoToken
first (t ∷ more) = kind_sort t.kind

-- two fronts of one text are the same, and have the same tree
pub record Agree {X : Type 0} (a b r s : List Token) (x y : X) : Type 0 where
  pub front : a ≡ b
  pub rest : r ≡ s
  pub tree : x ≡ y

pub same_rest : (a b r s : List Token) → a ≡ b → a ++ r ≡ b ++ s → r ≡ s
same_rest a b r s same e = append_cancel_left b r s (ap (λ l. l ++ r) (sym same) ∙ e)

pub agree : {X : Type 0} (a b r s : List Token) (x y : X) → a ≡ b → x ≡ y → a ++ r ≡ b ++ s → Agree a b r s x y
agree a b r s x y same tree e = record { front = same; rest = same_rest a b r s same e; tree = tree }

-- the same text, cut further
pub cut_both : (a b p q r s : List Token) → a ≡ p → b ≡ q → a ++ r ≡ b ++ s → p ++ r ≡ q ++ s
cut_both a b p q r s c d e = sym (ap (λ l. l ++ r) c) ∙ e ∙ ap (λ l. l ++ s) d

abbrev pub tail_of : List Token → List Token
tail_of [] = []
tail_of (t ∷ more) = more

pub same_head : (t u : Token) (r s : List Token) → t ∷ r ≡ u ∷ s → t ≡ u
same_head t u r s e = cc

pub same_tail : (t u : Token) (r s : List Token) → t ∷ r ≡ u ∷ s → r ≡ s
same_tail t u r s e = cc
