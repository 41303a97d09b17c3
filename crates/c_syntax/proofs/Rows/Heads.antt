-- The first token of a statement tells which rule made it.
use Rattle.std.proofs.Common.{◌≡◌, ◌≢◌, true, List, [], ◌∷◌, ◌++◌, Option, refl, sym, ap, ◌∙◌, subst, inl, inr, append_assoc}
use Rattle.std.specs.Prelude.{◌⊎◌}
use Rattle.c_syntax.specs.declared.token.Token.{Token}
use Rattle.c_syntax.specs.declared.token.Keyword.{Keyword}
use Rattle.c_syntax.specs.declared.token.Keyword.TheVariants as keyword
use Rattle.c_syntax.specs.declared.token.Punct.TheVariants as mark
use Rattle.c_syntax.specs.SyntaxTree.{Expression, DeclarationTree, Statement, Empty, Evaluate, Block, Break, Continue, Return, DoWhile, If, IfElse, While, For, Switch, Statements, Choices}
use Rattle.c_syntax.specs.Grammar.{ExpressionRow, IsMark, IsKeyword, place_of, Derives}
use Rattle.c_syntax.specs.Derives.{DerivesOptional, DerivesDeclarations, Closing, Closed, Open, IsTested, IsForHead, DerivesStatement, EmptyRule, EvaluateRule, BlockRule, BreakRule, ContinueRule, ReturnRule, DoRule, IfRule, IfElseRule, WhileRule, ForRule, SwitchRule, DerivesStatements, DerivesChoices}
use Rattle.c_syntax.proofs.Rows.Fronts.{Sort, BreakWord, ContinueWord, ReturnWord, DoWord, IfWord, WhileWord, ForWord, SwitchWord, AnyName, StarMark, ParenOpens, BracketOpens, BraceOpens, SemicolonMark, Others, keyword_sort, kind_sort, first}
use Rattle.c_syntax.proofs.Rows.Given.{may_begin, OneExpression, mark_first, word_first, begins_front}

pub record EmptyHead (tokens : List Token) (x : Statement) : Type 0 where
  pub t : Token
  pub cut : tokens ≡ t ∷ []
  pub tree : x ≡ Empty t.at

pub record EvaluateHead (tokens : List Token) (x : Statement) : Type 0 where
  pub a : List Token
  pub t : Token
  pub value : Expression
  pub cut : tokens ≡ a ++ t ∷ []
  pub derives : Derives ExpressionRow a value
  pub ends : IsMark mark.Semicolon t
  pub tree : x ≡ Evaluate value (place_of tokens)

pub record BlockHead (tokens : List Token) (x : Statement) : Type 0 where
  pub a : List Token
  pub b : List Token
  pub t : Token
  pub u : Token
  pub declarations : List DeclarationTree
  pub statements : Statements
  pub cut : tokens ≡ t ∷ a ++ b ++ u ∷ []
  pub declared : DerivesDeclarations a declarations
  pub stated : DerivesStatements b statements
  pub ends : IsMark mark.CloseBrace u
  pub tree : x ≡ Block declarations statements t.at

pub record BreakHead (tokens : List Token) (x : Statement) : Type 0 where
  pub t : Token
  pub u : Token
  pub cut : tokens ≡ t ∷ u ∷ []
  pub ends : IsMark mark.Semicolon u
  pub tree : x ≡ Break t.at

pub record ContinueHead (tokens : List Token) (x : Statement) : Type 0 where
  pub t : Token
  pub u : Token
  pub cut : tokens ≡ t ∷ u ∷ []
  pub ends : IsMark mark.Semicolon u
  pub tree : x ≡ Continue t.at

pub record ReturnHead (tokens : List Token) (x : Statement) : Type 0 where
  pub a : List Token
  pub t : Token
  pub u : Token
  pub value : Option Expression
  pub cut : tokens ≡ t ∷ a ++ u ∷ []
  pub derives : DerivesOptional ExpressionRow a value
  pub ends : IsMark mark.Semicolon u
  pub tree : x ≡ Return value t.at

pub record DoHead (tokens : List Token) (x : Statement) : Type 0 where
  pub closing : Closing
  pub a : List Token
  pub b : List Token
  pub t : Token
  pub u : Token
  pub v : Token
  pub body : Statement
  pub test : Expression
  pub cut : tokens ≡ t ∷ a ++ b ++ v ∷ []
  pub derives : DerivesStatement closing a body
  pub word : IsKeyword keyword.While u
  pub tested : IsTested (u ∷ []) b test
  pub ends : IsMark mark.Semicolon v
  pub tree : x ≡ DoWhile body test t.at

pub record IfHead (c : Closing) (tokens : List Token) (x : Statement) : Type 0 where
  pub closing : Closing
  pub a : List Token
  pub b : List Token
  pub t : Token
  pub test : Expression
  pub yes : Statement
  pub open_end : c ≡ Open
  pub cut : tokens ≡ a ++ b
  pub tested : IsTested (t ∷ []) a test
  pub derives : DerivesStatement closing b yes
  pub tree : x ≡ If test yes t.at

pub record IfElseHead (c : Closing) (tokens : List Token) (x : Statement) : Type 0 where
  pub a : List Token
  pub b : List Token
  pub d : List Token
  pub t : Token
  pub u : Token
  pub test : Expression
  pub yes : Statement
  pub other : Statement
  pub cut : tokens ≡ a ++ b ++ u ∷ d
  pub tested : IsTested (t ∷ []) a test
  pub derives : DerivesStatement Closed b yes
  pub word : IsKeyword keyword.Else u
  pub otherwise : DerivesStatement c d other
  pub tree : x ≡ IfElse test yes other t.at

pub record WhileHead (c : Closing) (tokens : List Token) (x : Statement) : Type 0 where
  pub a : List Token
  pub b : List Token
  pub t : Token
  pub test : Expression
  pub body : Statement
  pub cut : tokens ≡ a ++ b
  pub tested : IsTested (t ∷ []) a test
  pub derives : DerivesStatement c b body
  pub tree : x ≡ While test body t.at

pub record ForHead (c : Closing) (tokens : List Token) (x : Statement) : Type 0 where
  pub a : List Token
  pub b : List Token
  pub start : Option Expression
  pub test : Option Expression
  pub step : Option Expression
  pub body : Statement
  pub cut : tokens ≡ a ++ b
  pub head : IsForHead a start test step
  pub derives : DerivesStatement c b body
  pub tree : x ≡ For start test step body (place_of tokens)

pub record SwitchHead (tokens : List Token) (x : Statement) : Type 0 where
  pub a : List Token
  pub b : List Token
  pub t : Token
  pub u : Token
  pub v : Token
  pub value : Expression
  pub choices : Choices
  pub cut : tokens ≡ a ++ u ∷ b ++ v ∷ []
  pub tested : IsTested (t ∷ []) a value
  pub opens : IsMark mark.OpenBrace u
  pub derives : DerivesChoices b choices
  pub ends : IsMark mark.CloseBrace v
  pub tree : x ≡ Switch value choices u.at t.at

-- what a statement is whose first token is of a sort: none begins with the sorts that aren't named
abbrev pub Head : Sort → Closing → List Token → Statement → Type 0
Head SemicolonMark c tokens x = EmptyHead tokens x
Head BraceOpens c tokens x = BlockHead tokens x
Head BreakWord c tokens x = BreakHead tokens x
Head ContinueWord c tokens x = ContinueHead tokens x
Head ReturnWord c tokens x = ReturnHead tokens x
Head DoWord c tokens x = DoHead tokens x
Head IfWord c tokens x = IfHead c tokens x ⊎ IfElseHead c tokens x
Head WhileWord c tokens x = WhileHead c tokens x
Head ForWord c tokens x = ForHead c tokens x
Head SwitchWord c tokens x = SwitchHead tokens x
Head AnyName c tokens x = EvaluateHead tokens x
Head StarMark c tokens x = EvaluateHead tokens x
Head ParenOpens c tokens x = EvaluateHead tokens x
Head BracketOpens c tokens x = EvaluateHead tokens x
Head Others c tokens x = EvaluateHead tokens x
Head sort c tokens x = ⊥

expression_head : (k : Sort) (c : Closing) (tokens : List Token) (x : Statement) → may_begin k ≡ true → EvaluateHead tokens x → Head k c tokens x
expression_head AnyName c tokens x h v = v
expression_head StarMark c tokens x h v = v
expression_head ParenOpens c tokens x h v = v
expression_head BracketOpens c tokens x h v = v
expression_head Others c tokens x h v = v
expression_head k c tokens x h v = absurd cc

head_evaluates : (k : Sort) (c : Closing) (tokens : List Token) (x : Statement) → may_begin k ≡ true → Head k c tokens x → EvaluateHead tokens x
head_evaluates AnyName c tokens x h v = v
head_evaluates StarMark c tokens x h v = v
head_evaluates ParenOpens c tokens x h v = v
head_evaluates BracketOpens c tokens x h v = v
head_evaluates Others c tokens x h v = v
head_evaluates k c tokens x h v = absurd cc

of_sort : (j k : Sort) (c : Closing) (tokens : List Token) (x : Statement) → j ≡ k → Head k c tokens x → Head j c tokens x
of_sort j k c tokens x e v = subst (λ i. Head i c tokens x) (sym e) v

pub tested_first : (w : Keyword) (t : Token) (a r : List Token) (x : Expression) → IsKeyword w t → IsTested (t ∷ []) a x → first (a ++ r) ≡ keyword_sort w
tested_first w t a r x g h = ap (λ l. first (l ++ r)) h.cut ∙ ap kind_sort g

pub for_first : (a r : List Token) (x y z : Option Expression) → IsForHead a x y z → first (a ++ r) ≡ ForWord
for_first a r x y z h = ap (λ l. first (l ++ r)) h.cut ∙ ap kind_sort h.for

-- the first token of a front is that of its first part
pub front_first : (tokens a b r : List Token) → tokens ≡ a ++ b → first (tokens ++ r) ≡ first (a ++ (b ++ r))
front_first tokens a b r cut = ap (λ l. first (l ++ r)) cut ∙ ap first (append_assoc a b r)

module _ (known : OneExpression) where
  pub head_of_statement : (r : List Token) {c : Closing} {tokens : List Token} {x : Statement} → DerivesStatement c tokens x → Head (first (tokens ++ r)) c tokens x
  head_of_statement r (EmptyRule {t = t} g) = of_sort _ SemicolonMark _ _ _ (mark_first mark.Semicolon t r g) (record { t = t; cut = refl; tree = refl })
  head_of_statement r (EvaluateRule {tokens = tokens} a t {tree = x} cut g h) =
      expression_head (first (tokens ++ r)) _ _ _
      (ap may_begin (front_first tokens a (t ∷ []) r cut) ∙ begins_front a (t ∷ r) (known.begins ExpressionRow a x g))
      (record { a = a; t = t; value = x; cut = cut; derives = g; ends = h; tree = refl })
  head_of_statement r (BlockRule {tokens = tokens} a b t u {declarations = xs} {statements = ys} cut opens g h closes) =
      of_sort _ BraceOpens _ _ _ (ap (λ l. first (l ++ r)) cut ∙ ap kind_sort opens)
      (record { a = a; b = b; t = t; u = u; declarations = xs; statements = ys; cut = cut; declared = g; stated = h; ends = closes; tree = refl })
  head_of_statement r (BreakRule {t = t} {u = u} g h) = of_sort _ BreakWord _ _ _ (word_first keyword.Break t (u ∷ r) g) (record { t = t; u = u; cut = refl; ends = h; tree = refl })
  head_of_statement r (ContinueRule {t = t} {u = u} g h) = of_sort _ ContinueWord _ _ _ (word_first keyword.Continue t (u ∷ r) g) (record { t = t; u = u; cut = refl; ends = h; tree = refl })
  head_of_statement r (ReturnRule {tokens = tokens} a t u {value = x} cut word g h) =
      of_sort _ ReturnWord _ _ _ (ap (λ l. first (l ++ r)) cut ∙ ap kind_sort word)
      (record { a = a; t = t; u = u; value = x; cut = cut; derives = g; ends = h; tree = refl })
  head_of_statement r (DoRule {tokens = tokens} closing a b t u v {body = x} {test = y} cut word g while h ends) =
      of_sort _ DoWord _ _ _ (ap (λ l. first (l ++ r)) cut ∙ ap kind_sort word)
      (record { closing = closing; a = a; b = b; t = t; u = u; v = v; body = x; test = y; cut = cut; derives = g; word = while; tested = h; ends = ends; tree = refl })
  head_of_statement r (IfRule {tokens = tokens} closing a b t {test = x} {yes = y} cut word g h) =
      of_sort _ IfWord _ _ _ (front_first tokens a b r cut ∙ tested_first keyword.If t a (b ++ r) x word g)
      (inl (record { closing = closing; a = a; b = b; t = t; test = x; yes = y; open_end = refl; cut = cut; tested = g; derives = h; tree = refl }))
  head_of_statement r (IfElseRule {tokens = tokens} a b d t u {test = x} {yes = y} {no = z} cut word g h else i) =
      of_sort _ IfWord _ _ _ (front_first tokens a (b ++ u ∷ d) r (cut ∙ append_assoc a b (u ∷ d)) ∙ tested_first keyword.If t a ((b ++ u ∷ d) ++ r) x word g)
      (inr (record { a = a; b = b; d = d; t = t; u = u; test = x; yes = y; other = z; cut = cut; tested = g; derives = h; word = else; otherwise = i; tree = refl }))
  head_of_statement r (WhileRule {tokens = tokens} a b t {test = x} {body = y} cut word g h) =
      of_sort _ WhileWord _ _ _ (front_first tokens a b r cut ∙ tested_first keyword.While t a (b ++ r) x word g)
      (record { a = a; b = b; t = t; test = x; body = y; cut = cut; tested = g; derives = h; tree = refl })
  head_of_statement r (ForRule {tokens = tokens} a b {first = x} {test = y} {third = z} {body = w} cut g h) =
      of_sort _ ForWord _ _ _ (front_first tokens a b r cut ∙ for_first a (b ++ r) x y z g)
      (record { a = a; b = b; start = x; test = y; step = z; body = w; cut = cut; head = g; derives = h; tree = refl })
  head_of_statement r (SwitchRule {tokens = tokens} a b t u v {value = x} {choices = y} cut word g opens h closes) =
      of_sort _ SwitchWord _ _ _ (front_first tokens a (u ∷ b ++ v ∷ []) r (cut ∙ append_assoc a (u ∷ b) (v ∷ [])) ∙ tested_first keyword.Switch t a ((u ∷ b ++ v ∷ []) ++ r) x word g)
      (record { a = a; b = b; t = t; u = u; v = v; value = x; choices = y; cut = cut; tested = g; opens = opens; derives = h; ends = closes; tree = refl })

  -- no statement begins with a token of a sort that has no rule
  pub statement_other : (a r : List Token) (c : Closing) (x : Statement) (k : Sort) → DerivesStatement c a x → (Head k c a x → ⊥) → first (a ++ r) ≢ k
  statement_other a r c x k g never e = never (subst (λ i. Head i c a x) e (head_of_statement r g))

  -- the head where the sort of the text's first token is known
  pub head_at : (k : Sort) (a r : List Token) (c : Closing) (x : Statement) → DerivesStatement c a x → first (a ++ r) ≡ k → Head k c a x
  head_at k a r c x g e = subst (λ i. Head i c a x) e (head_of_statement r g)

  pub evaluates_at : (a r : List Token) (c : Closing) (x : Statement) → DerivesStatement c a x → may_begin (first (a ++ r)) ≡ true → EvaluateHead a x
  evaluates_at a r c x g h = head_evaluates (first (a ++ r)) c a x h (head_of_statement r g)
