-- The rows of statements from their parts.
use Rattle.std.proofs.Common.{◌≡◌, ℕ, ◌<◌, max, List, [], ◌∷◌, ◌++◌, Option, Some, None, length, refl, sym, ap, subst, ◌∙◌, append_assoc, arith}
use Rattle.std.proofs.lemmas.List.{append-nil}
use Rattle.c_syntax.specs.declared.token.Token.{Token}
use Rattle.c_syntax.specs.declared.token.Keyword.TheVariants as keyword
use Rattle.c_syntax.specs.declared.token.Punct.{Punct}
use Rattle.c_syntax.specs.declared.token.Punct.TheVariants as mark
use Rattle.c_syntax.specs.declared.stmt.Stmt.{Stmt}
use Rattle.c_syntax.specs.declared.stmt.SwitchPart as part
use Rattle.c_syntax.specs.declared.stmt.SwitchPart.{SwitchPart}
use Rattle.c_syntax.specs.SyntaxTree.{Expression, DeclarationTree, Statement, Empty, Evaluate, Block, Break, Continue, Return, DoWhile, If, IfElse, While, For, Switch, Statements, no_statement, statement, Choices, no_choice, case_label, default_label, chosen}
use Rattle.c_syntax.specs.Grammar.{ExpressionRow, ConditionalRow, IsMark, IsKeyword, place_of, Derives}
use Rattle.c_syntax.specs.Derives.{DerivesOptional, Closing, Closed, Open, IsTested, IsForHead, DerivesStatement, EmptyRule, EvaluateRule, BlockRule, BreakRule, ContinueRule, ReturnRule, DoRule, IfRule, IfElseRule, WhileRule, ForRule, SwitchRule, DerivesStatements, NoStatement, MoreStatements, DerivesChoices, NoChoice, CaseRule, DefaultRule, ChosenRule}
use Rattle.c_syntax.specs.Measures.{statement_height, statements_height, choices_height}
use Rattle.c_syntax.specs.SyntaxView.{body_of, part_before}
use Rattle.c_cursor.specs.Front.{word_at}
use Rattle.c_cursor.specs.Takes.{Takes, IsOne, Both}
use Rattle.c_statements.specs.StatementRows.{EndsStatement, IsStatement, tree_of, parts_of, IsBody, IsDoEnd}
use Rattle.c_cursor.proofs.TakesLemmas.{place_taken, one_before, one_behind, one_place}

-- a statement that stands at the place of its tokens
pub stated : (c : Closing) (f : ℕ → Statement) {R : List Token → Type 0} {k l : List Token} {at : ℕ} (r : Takes R k l) → length l < length k → at ≡ place_of k → EndsStatement c l
    → ((all : List Token) → R all → DerivesStatement c all (f (place_of all))) → Takes (IsStatement (f at) l) k l
stated c f r h p e d = record {
  taken = r.taken;
  cut = r.cut;
  is = record { closing = c; derives = subst (λ v. DerivesStatement c r.taken (f v)) (place_taken r h ∙ sym p) (d r.taken r.is); ends = e };
}

-- the same of one whose rule names its first token
at_first : (c : Closing) (f : ℕ → Statement) {all : List Token} (rest : List Token) (t : Token) → all ≡ t ∷ rest → DerivesStatement c all (f t.at) → DerivesStatement c all (f (place_of all))
at_first c f {all = all} rest t e d = subst (λ v. DerivesStatement c all (f v)) (sym (ap place_of e)) d

pub empty_row : (all : List Token) → IsOne (IsMark mark.Semicolon) all → DerivesStatement Closed all (Empty (place_of all))
empty_row all r = subst (λ v. DerivesStatement Closed v (Empty (place_of v))) (sym r.alone) (EmptyRule r.is)

two_tokens : {P Q : Token → Type 0} {all : List Token} (r : Both (IsOne P) (IsOne Q) all) → all ≡ r.first.t ∷ r.second.t ∷ []
two_tokens r = one_before r ∙ ap (λ l. r.first.t ∷ l) r.second.alone

pub break_row : (all : List Token) → Both (IsOne (IsKeyword keyword.Break)) (IsOne (IsMark mark.Semicolon)) all → DerivesStatement Closed all (Break (place_of all))
break_row all r = subst (λ v. DerivesStatement Closed v (Break (place_of v))) (sym (two_tokens r)) (BreakRule r.first.is r.second.is)

pub continue_row : (all : List Token) → Both (IsOne (IsKeyword keyword.Continue)) (IsOne (IsMark mark.Semicolon)) all → DerivesStatement Closed all (Continue (place_of all))
continue_row all r = subst (λ v. DerivesStatement Closed v (Continue (place_of v))) (sym (two_tokens r)) (ContinueRule r.first.is r.second.is)

pub return_row : (x : Option Expression) (all : List Token) → Both (IsOne (IsKeyword keyword.Return)) (Both (λ a. DerivesOptional ExpressionRow a x) (IsOne (IsMark mark.Semicolon))) all → DerivesStatement Closed all (Return x (place_of all))
return_row x all r = at_first Closed (Return x) r.rest r.first.t (one_before r) (ReturnRule r.second.front r.first.t r.second.second.t (one_before r ∙ ap (λ l. r.first.t ∷ l) (one_behind r.second)) r.first.is r.second.first r.second.second.is)

pub evaluate_row : (x : Expression) (all : List Token) → Both (λ a. Derives ExpressionRow a x) (IsOne (IsMark mark.Semicolon)) all → DerivesStatement Closed all (Evaluate x (place_of all))
evaluate_row x all r = EvaluateRule r.front r.second.t (one_behind r) r.first r.second.is

-- a test behind its keyword
tested_behind : {a : List Token} {x : Expression} (w : Token) → IsTested [] a x → IsTested (w ∷ []) (w ∷ a) x
tested_behind w r = record { t = r.t; a = r.a; u = r.u; cut = ap (λ l. w ∷ l) r.cut; opens = r.opens; test = r.test; closes = r.closes }

pub tested_row : (x : Expression) (all : List Token) → Both (IsOne (IsMark mark.OpenParen)) (Both (λ a. Derives ExpressionRow a x) (IsOne (IsMark mark.CloseParen))) all → IsTested [] all x
tested_row x all r = record { t = r.first.t; a = r.second.front; u = r.second.second.t; cut = one_before r ∙ ap (λ l. r.first.t ∷ l) (one_behind r.second); opens = r.first.is; test = r.second.first; closes = r.second.second.is }

pub do_row : (x : Statement) (e : Expression) (m : List Token) (all : List Token) → Both (IsOne (IsKeyword keyword.Do)) (Both (IsStatement x m) (IsDoEnd e)) all → DerivesStatement Closed all (DoWhile x e (place_of all))
do_row x e m all r =
    let s = r.second in
    let n = s.second in
    at_first Closed (DoWhile x e) r.rest r.first.t (one_before r)
    (DoRule s.first.closing s.front (n.first.t ∷ n.second.front) r.first.t n.first.t n.second.second.t
    (one_before r ∙ ap (λ l. r.first.t ∷ l) (s.cut ∙ ap (λ l. s.front ++ l) (one_before n ∙ ap (λ l. n.first.t ∷ l) (one_behind n.second)) ∙ sym (append_assoc s.front (n.first.t ∷ n.second.front) (n.second.second.t ∷ []))))
    r.first.is s.first.derives n.first.is (tested_behind n.first.t n.second.first) n.second.second.is)

pub if_row : (e : Expression) (x : Statement) (m : List Token) (all : List Token) → Both (IsOne (IsKeyword keyword.If)) (Both (λ a. IsTested [] a e) (IsStatement x m)) all → DerivesStatement Open all (If e x (place_of all))
if_row e x m all r =
    let s = r.second in
    at_first Open (If e x) r.rest r.first.t (one_before r)
    (IfRule s.second.closing (r.first.t ∷ s.front) s.rest r.first.t (one_before r ∙ ap (λ l. r.first.t ∷ l) s.cut) r.first.is (tested_behind r.first.t s.first) s.second.derives)

-- before `else` stands a closed statement
closed_by : (c : Closing) (x : Statement) (m a : List Token) → DerivesStatement c a x → EndsStatement c m → word_at m ≡ Some keyword.Else → DerivesStatement Closed a x
closed_by Closed x m a d e w = d
closed_by Open x m a d e w = absurd (e w)

pub if_else_row : (e : Expression) (x y : Statement) (m n : List Token) → word_at m ≡ Some keyword.Else → (c : Closing) (all : List Token)
    → (r : Both (IsOne (IsKeyword keyword.If)) (Both (λ a. IsTested [] a e) (Both (IsStatement x m) (Both (IsOne (IsKeyword keyword.Else)) (λ a. DerivesStatement c a y)))) all) → DerivesStatement c all (IfElse e x y (place_of all))
if_else_row e x y m n w c all r =
    let s = r.second in
    let u = s.second in
    let v = u.second in
    at_first c (IfElse e x y) r.rest r.first.t (one_before r)
    (IfElseRule (r.first.t ∷ s.front) u.front v.rest r.first.t v.first.t
    (one_before r ∙ ap (λ l. r.first.t ∷ l) (s.cut ∙ ap (λ l. s.front ++ l) (u.cut ∙ ap (λ l. u.front ++ l) (one_before v)) ∙ sym (append_assoc s.front u.front (v.first.t ∷ v.rest))))
    r.first.is (tested_behind r.first.t s.first) (closed_by u.first.closing x m u.front u.first.derives u.first.ends w) v.first.is v.second)

pub while_row : (e : Expression) (x : Statement) (c : Closing) (all : List Token) → Both (IsOne (IsKeyword keyword.While)) (Both (λ a. IsTested [] a e) (λ a. DerivesStatement c a x)) all → DerivesStatement c all (While e x (place_of all))
while_row e x c all r =
    let s = r.second in
    at_first c (While e x) r.rest r.first.t (one_before r)
    (WhileRule (r.first.t ∷ s.front) s.rest r.first.t (one_before r ∙ ap (λ l. r.first.t ∷ l) s.cut) r.first.is (tested_behind r.first.t s.first) s.second)

pub for_row : (e f g : Option Expression) (x : Statement) (c : Closing) (all : List Token) → Both (λ a. IsForHead a e f g) (λ a. DerivesStatement c a x) all → DerivesStatement c all (For e f g x (place_of all))
for_row e f g x c all r = ForRule r.front r.rest r.cut r.first r.second

for_grouped : (a b r : List Token) (u v : Token) → (a ++ u ∷ []) ++ ((b ++ v ∷ []) ++ r) ≡ (a ++ u ∷ b) ++ v ∷ r
for_grouped a b r u v = append_assoc a (u ∷ []) ((b ++ v ∷ []) ++ r) ∙ ap (λ l. a ++ u ∷ l) (append_assoc b (v ∷ []) r) ∙ sym (append_assoc a (u ∷ b) (v ∷ r))

pub for_head_row : (e f g : Option Expression) (all : List Token) → Both (IsOne (IsKeyword keyword.For)) (Both (IsOne (IsMark mark.OpenParen)) (Both (Both (λ a. DerivesOptional ExpressionRow a e) (IsOne (IsMark mark.Semicolon)))
    (Both (Both (λ a. DerivesOptional ExpressionRow a f) (IsOne (IsMark mark.Semicolon))) (Both (λ a. DerivesOptional ExpressionRow a g) (IsOne (IsMark mark.CloseParen)))))) all → IsForHead all e f g
for_head_row e f g all r =
    let s = r.second in
    let p = s.second.first in
    let q = s.second.second.first in
    let o = s.second.second.second in
    record {
      k = r.first.t;
      t = s.first.t;
      a = p.front;
      u = p.second.t;
      b = q.front;
      v = q.second.t;
      c = o.front;
      w = o.second.t;
      cut = one_before r ∙ ap (λ l. r.first.t ∷ l) (one_before s ∙ ap (λ l. s.first.t ∷ l)
          (s.second.cut ∙ ap (λ l. l ++ s.second.rest) (one_behind p) ∙ ap (λ l. (p.front ++ p.second.t ∷ []) ++ l) (s.second.second.cut ∙ ap (λ l. l ++ s.second.second.rest) (one_behind q) ∙ ap (λ l. (q.front ++ q.second.t ∷ []) ++ l) (one_behind o))
          ∙ for_grouped p.front q.front (o.front ++ o.second.t ∷ []) p.second.t q.second.t ∙ sym (append_assoc (p.front ++ p.second.t ∷ q.front) (q.second.t ∷ o.front) (o.second.t ∷ []))));
      for = r.first.is;
      opens = s.first.is;
      first_part = p.first;
      first_ends = p.second.is;
      test_part = q.first;
      test_ends = q.second.is;
      third_part = o.first;
      closes = o.second.is;
    }

pub switch_row : (e : Expression) (x : Choices) (at : ℕ) (all : List Token) → Both (IsOne (IsKeyword keyword.Switch)) (Both (λ a. IsTested [] a e) (Both (IsOne (λ t. IsMark mark.OpenBrace t × (at ≡ t.at))) (Both (λ a. DerivesChoices a x) (IsOne (IsMark mark.CloseBrace))))) all
    → DerivesStatement Closed all (Switch e x at (place_of all))
switch_row e x at all r =
    let s = r.second in
    let u = s.second in
    let v = u.second in
    subst (λ p. DerivesStatement Closed all (Switch e x p (place_of all))) (sym u.first.is.1)
    (at_first Closed (Switch e x u.first.t.at) r.rest r.first.t (one_before r)
    (SwitchRule (r.first.t ∷ s.front) v.front r.first.t u.first.t v.second.t
    (one_before r ∙ ap (λ l. r.first.t ∷ l) (s.cut ∙ ap (λ l. s.front ++ l) (one_before u ∙ ap (λ l. u.first.t ∷ l) (one_behind v)) ∙ sym (append_assoc s.front (u.first.t ∷ v.front) (v.second.t ∷ []))))
    r.first.is (tested_behind r.first.t s.first) u.first.is.0 v.first v.second.is))

pub block_row : (xs : List DeclarationTree) (ys : Statements) (all : List Token) → Both (IsOne (IsMark mark.OpenBrace)) (IsBody xs ys) all → DerivesStatement Closed all (Block xs ys (place_of all))
block_row xs ys all r =
    let s = r.second in
    at_first Closed (Block xs ys) r.rest r.first.t (one_before r)
    (BlockRule s.front s.second.front r.first.t s.second.second.t
    (one_before r ∙ ap (λ l. r.first.t ∷ l) (s.cut ∙ ap (λ l. s.front ++ l) (one_behind s.second) ∙ sym (append_assoc s.front s.second.front (s.second.second.t ∷ []))))
    r.first.is s.first s.second.first s.second.second.is)

-- a token with its place
pub placed : {P : Token → Type 0} {k l : List Token} {at : ℕ} → Takes (IsOne P) k l → at ≡ place_of k → Takes (IsOne (λ t. P t × (at ≡ t.at))) k l
placed r e = record { taken = r.taken; cut = r.cut; is = record { t = r.is.t; alone = r.is.alone; is = (r.is.is, e ∙ one_place r) } }

pub no_expression : (m : Punct) (all : List Token) → IsOne (IsMark m) all → Both (λ a. DerivesOptional ExpressionRow a None) (IsOne (IsMark m)) all
no_expression m all r = record { front = []; rest = all; cut = refl; first = refl; second = r }

-- statements with one more
abbrev pub add : Statements → Statement → Statements
add no_statement y = statement y no_statement
add (statement x xs) y = statement x (add xs y)

pub body_more : (xs : List Stmt) (y : Stmt) → body_of (xs ++ y ∷ []) ≡ add (body_of xs) (tree_of y)
body_more [] y = refl
body_more (x ∷ xs) y = ap (λ v. statement (tree_of x) v) (body_more xs y)

pub statements_more : (c : Closing) (a b : List Token) (xs : Statements) (y : Statement) → DerivesStatements a xs → DerivesStatement c b y → DerivesStatements (a ++ b) (add xs y)
statements_more c a b xs y NoStatement e = MoreStatements c b [] (sym (append-nil b)) e NoStatement
statements_more c a b xs y (MoreStatements d f g {trees = rest} cut h more) e = MoreStatements d f (g ++ b) (ap (λ l. l ++ b) cut ∙ append_assoc f g b) h (statements_more c g b rest y more e)

pub height_add : (xs : Statements) (y : Statement) → statements_height (add xs y) ≡ max (statements_height xs) (statement_height y)
height_add no_statement y = omega arith
height_add (statement x xs) y = omega (arith, height_add xs y)

-- what stands in a switch, with one part more
abbrev pub join : Choices → Choices → Choices
join no_choice y = y
join (case_label e xs) y = case_label e (join xs y)
join (default_label xs) y = default_label (join xs y)
join (chosen x xs) y = chosen x (join xs y)

part_join : (p : SwitchPart) (xs ys : Choices) → part_before p (join xs ys) ≡ join (part_before p xs) ys
part_join (part.Case e) xs ys = refl
part_join part.Default xs ys = refl
part_join (part.Body' k a) xs ys = refl

pub parts_more : (xs : List SwitchPart) (p : SwitchPart) → parts_of (xs ++ p ∷ []) ≡ join (parts_of xs) (part_before p no_choice)
parts_more [] p = refl
parts_more (q ∷ xs) p = ap (λ v. part_before q v) (parts_more xs p) ∙ part_join q (parts_of xs) (part_before p no_choice)

pub choices_more : (a b : List Token) (xs ys : Choices) → DerivesChoices a xs → DerivesChoices b ys → DerivesChoices (a ++ b) (join xs ys)
choices_more a b xs ys NoChoice e = e
choices_more a b xs ys (CaseRule f g t u {choices = rest} cut k d m more) e = CaseRule f (g ++ b) t u (ap (λ l. l ++ b) cut ∙ append_assoc (t ∷ f) (u ∷ g) b) k d m (choices_more g b rest ys more e)
choices_more a b xs ys (DefaultRule f t u {choices = rest} cut k m more) e = DefaultRule (f ++ b) t u (ap (λ l. l ++ b) cut) k m (choices_more f b rest ys more e)
choices_more a b xs ys (ChosenRule c f g {choices = rest} cut d more) e = ChosenRule c f (g ++ b) (ap (λ l. l ++ b) cut ∙ append_assoc f g b) d (choices_more g b rest ys more e)

pub height_join : (xs ys : Choices) → choices_height (join xs ys) ≡ max (choices_height xs) (choices_height ys)
height_join no_choice ys = omega arith
height_join (case_label e xs) ys = omega (arith, height_join xs ys)
height_join (default_label xs) ys = height_join xs ys
height_join (chosen x xs) ys = omega (arith, height_join xs ys)

-- one label or statement
pub case_row : (e : Expression) (all : List Token) → Both (IsOne (IsKeyword keyword.Case)) (Both (λ a. Derives ConditionalRow a e) (IsOne (IsMark mark.Colon))) all → DerivesChoices all (case_label e no_choice)
case_row e all r = CaseRule r.second.front [] r.first.t r.second.second.t (one_before r ∙ ap (λ l. r.first.t ∷ l) (one_behind r.second)) r.first.is r.second.first r.second.second.is NoChoice

pub default_row : (all : List Token) → Both (IsOne (IsKeyword keyword.Default)) (IsOne (IsMark mark.Colon)) all → DerivesChoices all (default_label no_choice)
default_row all r = DefaultRule [] r.first.t r.second.t (two_tokens r) r.first.is r.second.is NoChoice

pub chosen_row : (x : Statement) (m all : List Token) → IsStatement x m all → DerivesChoices all (chosen x no_choice)
chosen_row x m all r = ChosenRule r.closing all [] (sym (append-nil all)) r.derives NoChoice
