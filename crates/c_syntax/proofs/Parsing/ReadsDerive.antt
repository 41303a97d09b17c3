-- What is read derives: the tokens that were taken have the tree by the row.
use Rattle.std.proofs.Common.{◌≡◌, ℕ, Bool, true, false, List, [], ◌∷◌, ◌++◌, Some, refl, sym, ap, ◌∙◌, subst, append_assoc}
use Rattle.c_syntax.specs.declared.token.Token.{Token}
use Rattle.c_syntax.specs.declared.token.Punct.TheVariants as mark
use Rattle.c_syntax.specs.declared.operator.BinaryOp.{BinaryOp}
use Rattle.c_syntax.specs.declared.operator.BinaryOp.TheVariants as binary
use Rattle.c_syntax.specs.SyntaxTree.{Expression, Node, Index, StepAfter, Binary, And, Or, Conditional, Assign, AssignOp, Comma, argument}
use Rattle.c_syntax.specs.Grammar.{Row, ExpressionRow, AssignmentRow, ConditionalRow, OrRow, AndRow, BitOrRow, CastRow, UnaryRow, PostfixRow, PrimaryRow, tighter, level_of, IsMark, place_of, Derives, Passes, CommaRule, AssignRule, AssignOpRule, ConditionalRule, OrRule, AndRule, BinaryRule, CastRule, StepBeforeRule, PrefixRule, SizeofValueRule, SizeofTypeRule, IndexRule, StepAfterRule, CallRule, NameRule, NumberRule, CharacterRule, ParenRule, AreArguments, NoArgument, SomeArguments, AreSome, LastArgument, MoreArguments}
use Rattle.c_syntax.specs.Lookahead.{next_of, Going, going_of, start_of}
use Rattle.c_syntax.proofs.Parsing.Begins.{begins}
use Rattle.c_syntax.proofs.Parsing.Joins.{begins_place}
use Rattle.c_syntax.specs.Reads.{Reading, reading, or_primary, tight, First, first_of, ArgumentsReading, listed, Separator, separator_of, Reads, Both, Starts, PassFirst, NameFirst, NumberFirst, CharacterFirst, ParenFirst, CallFirst, StepFirst, PrefixFirst, SizeofValueFirst, SizeofTypeFirst, CastFirst, More, Stop, CommaMore, AssignMore, AssignOpMore, QuestionMore, OrMore, AndMore, BinaryMore, IndexMore, StepMore, ReadsArguments, NoneRead, SomeRead, ReadsSome, OneRead, ReadsRest, LastRead, MoreRead}

pub record IsDerived (row : Row) (input : List Token) (o : Reading) : Type 0 where
  pub taken : List Token
  pub cut : input ≡ taken ++ o.rest
  pub derives : Derives row taken o.tree
  pub unary : o.unary ≡ true → Derives UnaryRow taken o.tree

-- arguments up to behind their `)`
pub record AreDerived (input : List Token) (o : ArgumentsReading) : Type 0 where
  pub taken : List Token
  pub close : Token
  pub cut : input ≡ taken ++ close ∷ o.rest
  pub closes : IsMark mark.CloseParen close
  pub are : AreArguments taken o.trees

record SomeAreDerived (input : List Token) (o : ArgumentsReading) : Type 0 where
  pub taken : List Token
  pub close : Token
  pub cut : input ≡ taken ++ close ∷ o.rest
  pub closes : IsMark mark.CloseParen close
  pub are : AreSome taken o.trees

-- the row of what stands first in a row
abbrev left_row : Row → Row
left_row ConditionalRow = OrRow
left_row row = row

from_left : (row : Row) (tokens : List Token) (tree : Expression) → Derives (left_row row) tokens tree → Derives row tokens tree
from_left ConditionalRow tokens tree d = Passes OrRow refl d
from_left row tokens tree d = d

pass_left : (row next : Row) (tokens : List Token) (tree : Expression) → tighter row ≡ Some next → Derives next tokens tree → Derives (left_row row) tokens tree
pass_left ConditionalRow next tokens tree e d = subst (λ r. Derives r tokens tree) (sym (ap or_primary e)) d
pass_left row next tokens tree e d = Passes next e d

level_left : (operator : BinaryOp) → left_row (level_of operator) ≡ level_of operator
level_left binary.Or = refl
level_left operator = refl

level_tight : (operator : BinaryOp) → tighter (level_of operator) ≡ Some (tight (level_of operator))
level_tight binary.Or = refl
level_tight operator = refl

postfix_unary : (tokens : List Token) (tree : Expression) → Derives PostfixRow tokens tree → Derives UnaryRow tokens tree
postfix_unary tokens tree d = Passes PostfixRow refl d

primary_unary : (tokens : List Token) (tree : Expression) → Derives PrimaryRow tokens tree → Derives UnaryRow tokens tree
primary_unary tokens tree d = Passes PostfixRow refl (Passes PrimaryRow refl d)

no_unary : {A : Type 0} → false ≡ true → A
no_unary e = absurd cc

-- what stands behind a token, in two parts
cut_one : (a b l rest : List Token) (t : Token) → l ≡ b ++ rest → a ++ t ∷ l ≡ (a ++ t ∷ b) ++ rest
cut_one a b l rest t e = ap (λ k. a ++ t ∷ k) e ∙ sym (append_assoc a (t ∷ b) rest)

cut_two : (a b c l k rest : List Token) (t u : Token) → l ≡ b ++ u ∷ k → k ≡ c ++ rest → a ++ t ∷ l ≡ ((a ++ t ∷ b) ++ u ∷ c) ++ rest
cut_two a b c l k rest t u e f = cut_one a b l (u ∷ k) t e ∙ cut_one (a ++ t ∷ b) c k rest u f

-- the place of tokens is that of the first of them
module _ (row : Row) (a : List Token) (left : Expression) (d : Derives row a left) (at : ℕ) (place : at ≡ place_of a) where
  placed : (back : List Token) → at ≡ place_of (a ++ back)
  placed back = place ∙ sym (begins_place row a (begins row a left d) back)

  -- a tree at that place
  at_place : (wider : Row) (make : ℕ → Expression) (tokens back : List Token) → tokens ≡ a ++ back → Derives wider tokens (make (place_of tokens)) → Derives wider tokens (make at)
  at_place wider make tokens back e = subst (λ p. Derives wider tokens (make p)) (sym (placed back ∙ ap place_of (sym e)))

mutual
  pub reads_derived : (row : Row) (input : List Token) (o : Reading) → Reads row input o → IsDerived row input o
  reads_derived row input o (Both {first = x} s m) =
      let d = start_derived row (first_of row (start_of input)) input x s in
      let place = ap place_of d.cut ∙ begins_place (left_row row) d.taken (begins (left_row row) d.taken x.tree d.derives) x.rest in
      subst (λ l. IsDerived row l o) (sym d.cut) (more_derived row (place_of input) (going_of row (next_of x.rest)) x.tree x.unary x.rest o m d.taken place d.derives d.unary)

  start_derived : (row : Row) (first : First) (input : List Token) (o : Reading) → Starts row first input o → IsDerived (left_row row) input o
  start_derived row first input o (PassFirst {next = next} {input = l} e r) =
      let d = reads_derived next l o r in
      record { taken = d.taken; cut = d.cut; derives = pass_left row next d.taken o.tree e d.derives; unary = d.unary }
  start_derived row first input o (NameFirst {t = t} k) = record { taken = t ∷ []; cut = refl; derives = NameRule k; unary = λ _. primary_unary _ _ (NameRule k) }
  start_derived row first input o (NumberFirst {t = t} k) = record { taken = t ∷ []; cut = refl; derives = NumberRule k; unary = λ _. primary_unary _ _ (NumberRule k) }
  start_derived row first input o (CharacterFirst {t = t} k) = record { taken = t ∷ []; cut = refl; derives = CharacterRule k; unary = λ _. primary_unary _ _ (CharacterRule k) }
  start_derived row first input o (ParenFirst {t = t} {u = u} {input = l} {rest = rest} {tree = tree} {unary = unary} m r n) =
      let d = reads_derived ExpressionRow l (reading tree unary (u ∷ rest)) r in
      let all : Derives PrimaryRow (t ∷ d.taken ++ u ∷ []) tree = ParenRule d.taken t u refl m d.derives n in
      record { taken = t ∷ d.taken ++ u ∷ []; cut = cut_two [] d.taken [] l rest rest t u d.cut refl; derives = all; unary = λ _. primary_unary _ _ all }
  start_derived row first input o (CallFirst {t = t} {u = u} {input = l} {name = name} {o = x} k m r) =
      let d = arguments_derived (separator_of l) l x r in
      let all : Derives PostfixRow (t ∷ u ∷ d.taken ++ d.close ∷ []) o.tree = CallRule d.taken t u d.close refl k m d.are d.closes in
      record { taken = t ∷ u ∷ d.taken ++ d.close ∷ []; cut = cut_two (t ∷ []) d.taken [] l x.rest x.rest u d.close d.cut refl; derives = all; unary = λ _. postfix_unary _ _ all }
  start_derived row first input o (StepFirst {t = t} {input = l} {o = x} m r) =
      let d = reads_derived UnaryRow l x r in
      let all : Derives UnaryRow (t ∷ d.taken) o.tree = StepBeforeRule d.taken t refl m d.derives in
      record { taken = t ∷ d.taken; cut = ap (λ k. t ∷ k) d.cut; derives = all; unary = λ _. all }
  start_derived row first input o (PrefixFirst {t = t} {input = l} {o = x} m r) =
      let d = reads_derived CastRow l x r in
      let all : Derives UnaryRow (t ∷ d.taken) o.tree = PrefixRule d.taken t refl m d.derives in
      record { taken = t ∷ d.taken; cut = ap (λ k. t ∷ k) d.cut; derives = all; unary = λ _. all }
  start_derived row first input o (SizeofValueFirst {t = t} {input = l} {o = x} k r) =
      let d = reads_derived UnaryRow l x r in
      let all : Derives UnaryRow (t ∷ d.taken) o.tree = SizeofValueRule d.taken t refl k d.derives in
      record { taken = t ∷ d.taken; cut = ap (λ k. t ∷ k) d.cut; derives = all; unary = λ _. all }
  start_derived row first input o (SizeofTypeFirst {t = t} {u = u} {input = l} a rest v k m e h n) =
      let all : Derives UnaryRow (t ∷ u ∷ a ++ v ∷ []) o.tree = SizeofTypeRule a t u v refl k m h n in
      record { taken = t ∷ u ∷ a ++ v ∷ []; cut = cut_two (t ∷ []) a [] l rest rest u v e refl; derives = all; unary = λ _. all }
  start_derived row first input o (CastFirst {t = t} {input = l} a rest u {o = x} m e h n r) =
      let d = reads_derived CastRow rest x r in
      record { taken = t ∷ a ++ u ∷ d.taken; cut = cut_two [] a d.taken l rest x.rest t u e d.cut; derives = CastRule a d.taken t u refl m h n d.derives; unary = no_unary }

  more_derived : (row : Row) (at : ℕ) (going : Going) (left : Expression) (unary : Bool) (input : List Token) (o : Reading) → More row at going left unary input o
      → (a : List Token) → at ≡ place_of a → Derives (left_row row) a left → (unary ≡ true → Derives UnaryRow a left) → IsDerived row (a ++ input) o
  more_derived row at going left unary input o Stop a place d u = record { taken = a; cut = refl; derives = from_left row a left d; unary = u }
  more_derived row at going left unary input o (CommaMore {t = t} {input = l} {o = x} m r n) a place d u =
      let e = reads_derived AssignmentRow l x r in
      let b = e.taken in
      let all = at_place ExpressionRow a left d at place ExpressionRow (λ p. Node (Comma left x.tree) p) (a ++ t ∷ b) (t ∷ b) refl (CommaRule a b t refl d m e.derives) in
      subst (λ k. IsDerived ExpressionRow k o) (sym (cut_one a b l x.rest t e.cut))
      (more_derived ExpressionRow at (going_of ExpressionRow (next_of x.rest)) (Node (Comma left x.tree) at) false x.rest o n (a ++ t ∷ b) (placed ExpressionRow a left d at place (t ∷ b)) all no_unary)
  more_derived row at going left unary input o (AssignMore {t = t} {input = l} {o = x} m r) a place d u =
      let e = reads_derived AssignmentRow l x r in
      let b = e.taken in
      record {
        taken = a ++ t ∷ b;
        cut = cut_one a b l x.rest t e.cut;
        derives = at_place AssignmentRow a left d at place AssignmentRow (λ p. Node (Assign left x.tree) p) (a ++ t ∷ b) (t ∷ b) refl (AssignRule a b t refl (u refl) m e.derives);
        unary = no_unary;
      }
  more_derived row at going left unary input o (AssignOpMore {t = t} {input = l} {operator = operator} {o = x} p is m r) a place d u =
      let e = reads_derived AssignmentRow l x r in
      let b = e.taken in
      record {
        taken = a ++ t ∷ b;
        cut = cut_one a b l x.rest t e.cut;
        derives = at_place AssignmentRow a left d at place AssignmentRow (λ q. Node (AssignOp operator left x.tree) q) (a ++ t ∷ b) (t ∷ b) refl (AssignOpRule a b t p refl (u refl) is m e.derives);
        unary = no_unary;
      }
  more_derived row at going left unary input o (QuestionMore {chosen = chosen} {same = same} {t = t} {u = v} {input = l} {more = k} {o = x} m r n s) a place d u =
      let e = reads_derived ExpressionRow l (reading chosen same (v ∷ k)) r in
      let f = reads_derived ConditionalRow k x s in
      let b = e.taken in
      let c = f.taken in
      record {
        taken = (a ++ t ∷ b) ++ v ∷ c;
        cut = cut_two a b c l k x.rest t v e.cut f.cut;
        derives = at_place OrRow a left d at place ConditionalRow (λ p. Node (Conditional left chosen x.tree) p) ((a ++ t ∷ b) ++ v ∷ c) (t ∷ b ++ v ∷ c) (append_assoc a (t ∷ b) (v ∷ c))
            (ConditionalRule a b c t v refl d m e.derives n f.derives);
        unary = no_unary;
      }
  more_derived row at going left unary input o (OrMore {t = t} {input = l} {o = x} m r n) a place d u =
      let e = reads_derived AndRow l x r in
      let b = e.taken in
      let all = at_place OrRow a left d at place OrRow (λ p. Node (Or left x.tree) p) (a ++ t ∷ b) (t ∷ b) refl (OrRule a b t refl d m e.derives) in
      subst (λ k. IsDerived OrRow k o) (sym (cut_one a b l x.rest t e.cut))
      (more_derived OrRow at (going_of OrRow (next_of x.rest)) (Node (Or left x.tree) at) false x.rest o n (a ++ t ∷ b) (placed OrRow a left d at place (t ∷ b)) all no_unary)
  more_derived row at going left unary input o (AndMore {t = t} {input = l} {o = x} m r n) a place d u =
      let e = reads_derived BitOrRow l x r in
      let b = e.taken in
      let all = at_place AndRow a left d at place AndRow (λ p. Node (And left x.tree) p) (a ++ t ∷ b) (t ∷ b) refl (AndRule a b t refl d m e.derives) in
      subst (λ k. IsDerived AndRow k o) (sym (cut_one a b l x.rest t e.cut))
      (more_derived AndRow at (going_of AndRow (next_of x.rest)) (Node (And left x.tree) at) false x.rest o n (a ++ t ∷ b) (placed AndRow a left d at place (t ∷ b)) all no_unary)
  more_derived row at going left unary input o (BinaryMore {t = t} {input = l} {operator = operator} {o = x} level m r n) a place d u =
      let e = reads_derived (tight row) l x r in
      let b = e.taken in
      let same = sym (ap left_row level) ∙ level_left operator ∙ level in
      let next = subst (λ k. tighter k ≡ Some (tight k)) level (level_tight operator) in
      let d' = subst (λ k. Derives k a left) same d in
      let all = at_place row a left d' at place row (λ p. Node (Binary operator left x.tree) p) (a ++ t ∷ b) (t ∷ b) refl (BinaryRule a b t (tight row) refl level next d' m e.derives) in
      subst (λ k. IsDerived row k o) (sym (cut_one a b l x.rest t e.cut))
      (more_derived row at (going_of row (next_of x.rest)) (Node (Binary operator left x.tree) at) false x.rest o n (a ++ t ∷ b) (placed row a left d' at place (t ∷ b))
      (subst (λ k. Derives k (a ++ t ∷ b) (Node (Binary operator left x.tree) at)) (sym same) all) no_unary)
  more_derived row at going left unary input o (IndexMore {index = i} {same = same} {t = t} {u = v} {input = l} {more = k} m r n w) a place d u =
      let e = reads_derived ExpressionRow l (reading i same (v ∷ k)) r in
      let b = e.taken in
      let cut = append_assoc a (t ∷ b) (v ∷ []) in
      let all = at_place PostfixRow a left d at place PostfixRow (λ p. Node (Index left i) p) ((a ++ t ∷ b) ++ v ∷ []) (t ∷ b ++ v ∷ []) cut (IndexRule a b t v refl d m e.derives n) in
      subst (λ k. IsDerived PostfixRow k o) (sym (cut_two a b [] l k k t v e.cut refl))
      (more_derived PostfixRow at (going_of PostfixRow (next_of k)) (Node (Index left i) at) true k o w ((a ++ t ∷ b) ++ v ∷ []) (placed PostfixRow a left d at place (t ∷ b ++ v ∷ []) ∙ ap place_of (sym cut)) all (λ _. postfix_unary _ _ all))
  more_derived row at going left unary input o (StepMore {up = up} {t = t} {input = l} m w) a place d u =
      let all = at_place PostfixRow a left d at place PostfixRow (λ p. Node (StepAfter up left) p) (a ++ t ∷ []) (t ∷ []) refl (StepAfterRule a t refl d m) in
      subst (λ k. IsDerived PostfixRow k o) (sym (cut_one a [] l l t refl))
      (more_derived PostfixRow at (going_of PostfixRow (next_of l)) (Node (StepAfter up left) at) true l o w (a ++ t ∷ []) (placed PostfixRow a left d at place (t ∷ [])) all (λ _. postfix_unary _ _ all))

  arguments_derived : (separator : Separator) (input : List Token) (o : ArgumentsReading) → ReadsArguments separator input o → AreDerived input o
  arguments_derived separator input o (NoneRead {t = t} m) = record { taken = []; close = t; cut = refl; closes = m; are = NoArgument }
  arguments_derived separator input o (SomeRead r) =
      let d = some_derived input o r in
      record { taken = d.taken; close = d.close; cut = d.cut; closes = d.closes; are = SomeArguments d.are }

  some_derived : (input : List Token) (o : ArgumentsReading) → ReadsSome input o → SomeAreDerived input o
  some_derived input o (OneRead {o = x} {all = all} r s) =
      let d = reads_derived AssignmentRow input x r in
      subst (λ l. SomeAreDerived l (listed (argument x.tree all.trees) all.rest)) (sym d.cut) (rest_derived (separator_of x.rest) x.rest all s d.taken x.tree d.derives)

  rest_derived : (separator : Separator) (input : List Token) (o : ArgumentsReading) → ReadsRest separator input o
      → (a : List Token) (tree : Expression) → Derives AssignmentRow a tree → SomeAreDerived (a ++ input) (listed (argument tree o.trees) o.rest)
  rest_derived separator input o (LastRead {t = t} m) a tree d = record { taken = a; close = t; cut = refl; closes = m; are = LastArgument d }
  rest_derived separator input o (MoreRead {t = t} {input = l} m r) a tree d =
      let f = some_derived l o r in
      record { taken = a ++ t ∷ f.taken; close = f.close; cut = cut_one a f.taken l (f.close ∷ o.rest) t f.cut; closes = f.closes; are = MoreArguments a f.taken t refl d m f.are }
