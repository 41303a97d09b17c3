-- A row is read from the front of an input in one way.
use Rattle.std.proofs.Common.{◌≡◌, ℕ, Bool, true, false, List, [], ◌∷◌, ◌++◌, refl, sym, ap, ◌∙◌, subst}
use Rattle.c_syntax.specs.declared.token.Token.{Token}
use Rattle.c_syntax.specs.declared.token.Punct.TheVariants as mark
use Rattle.c_syntax.specs.SyntaxTree.{TypeTree, Expression, Node, Index, Call, StepAfter, StepBefore, Prefix, SizeofValue, SizeofType, Cast, Binary, And, Or, Conditional, Assign, AssignOp, Comma, argument}
use Rattle.c_syntax.specs.Grammar.{Row, ExpressionRow, AssignmentRow, ConditionalRow, OrRow, AndRow, BitOrRow, CastRow, UnaryRow, PostfixRow, IsMark, place_of, IsType}
use Rattle.c_syntax.specs.Lookahead.{next_of, kind_spec, Going, going_of, start_of}
use Rattle.c_syntax.proofs.Parsing.Lookahead.{is_next}
use Rattle.c_syntax.proofs.Parsing.Types.{NoSpec, NoStarNext, no_star_other, type_one}
use Rattle.c_syntax.specs.Reads.{Reading, reading, tight, First, first_of, ArgumentsReading, listed, Separator, separator_of, Reads, Both, Starts, PassFirst, NameFirst, NumberFirst, CharacterFirst, ParenFirst, CallFirst, StepFirst, PrefixFirst, SizeofValueFirst, SizeofTypeFirst, CastFirst, More, Stop, CommaMore, AssignMore, AssignOpMore, QuestionMore, OrMore, AndMore, BinaryMore, IndexMore, StepMore, ReadsArguments, NoneRead, SomeRead, ReadsSome, OneRead, ReadsRest, LastRead, MoreRead}

abbrev behind : List Token → List Token
behind [] = []
behind (t ∷ rest) = rest

-- no type goes on with `)`
close_no_spec : (u : Token) (rest : List Token) → IsMark mark.CloseParen u → NoSpec (u ∷ rest)
close_no_spec u rest m = ap kind_spec m

close_no_star : (u : Token) (rest : List Token) → IsMark mark.CloseParen u → NoStarNext (u ∷ rest)
close_no_star u rest m = no_star_other (u ∷ rest) (is_next mark.CloseParen u m)

-- a type before `)`: the type with what stands behind
record TypeReading : Type 0 where
  pub type : TypeTree
  pub rest : List Token

type_before : (input a b r s : List Token) (u v : Token) (x y : TypeTree) → input ≡ a ++ u ∷ r → input ≡ b ++ v ∷ s → IsType a x → IsType b y → IsMark mark.CloseParen u → IsMark mark.CloseParen v
    → ◌≡◌ {A = TypeReading} (record { type = x; rest = r }) (record { type = y; rest = s })
type_before input a b r s u v x y e f g h m n =
    let same = type_one a b (u ∷ r) (v ∷ s) x y g h (close_no_spec u r m) (close_no_spec v s n) (close_no_star u r m) (close_no_star v s n) (sym e ∙ f) in
    ap (λ t. record { type = t; rest = r }) same.1 ∙ ap (λ l. record { type = y; rest = behind l }) same.2

mutual
  pub one_reading : (row : Row) (input : List Token) (o p : Reading) → Reads row input o → Reads row input p → o ≡ p
  one_reading row input o p (Both {first = x} s m) (Both {first = y} s' m') =
      one_more row (place_of input) (going_of row (next_of x.rest)) x.tree x.unary x.rest o p m
      (subst (λ z. More row (place_of input) (going_of row (next_of z.rest)) z.tree z.unary z.rest p) (sym (one_start row (first_of row (start_of input)) input x y s s')) m')

  pub one_start : (row : Row) (first : First) (input : List Token) (o p : Reading) → Starts row first input o → Starts row first input p → o ≡ p
  one_start row first input o p (PassFirst {next = next} {input = l} _ r) (PassFirst _ r') = one_reading next l o p r r'
  one_start row first input o p (NameFirst _) (NameFirst _) = refl
  one_start row first input o p (NumberFirst _) (NumberFirst _) = refl
  one_start row first input o p (CharacterFirst _) (CharacterFirst _) = refl
  one_start row first input o p (ParenFirst {u = u} {input = l} {rest = rest} {tree = tree} {unary = unary} _ r m) (ParenFirst {u = u'} {rest = rest'} {tree = tree'} {unary = unary'} _ r' m') =
      ap (λ z. reading z.tree true (behind z.rest)) (one_reading ExpressionRow l (reading tree unary (u ∷ rest)) (reading tree' unary' (u' ∷ rest')) r r')
  one_start row first input o p (CallFirst {t = t} {input = l} {name = name} {o = x} _ _ r) (CallFirst {o = y} _ _ r') =
      ap (λ z. reading (Node (Call name z.trees) t.at) true z.rest) (one_arguments (separator_of l) l x y r r')
  one_start row first input o p (StepFirst {t = t} {input = l} {up = up} {o = x} _ r) (StepFirst {o = y} _ r') =
      ap (λ z. reading (Node (StepBefore up z.tree) t.at) true z.rest) (one_reading UnaryRow l x y r r')
  one_start row first input o p (PrefixFirst {t = t} {input = l} {operator = operator} {o = x} _ r) (PrefixFirst {o = y} _ r') =
      ap (λ z. reading (Node (Prefix operator z.tree) t.at) true z.rest) (one_reading CastRow l x y r r')
  one_start row first input o p (SizeofValueFirst {t = t} {input = l} {o = x} _ r) (SizeofValueFirst {o = y} _ r') =
      ap (λ z. reading (Node (SizeofValue z.tree) t.at) true z.rest) (one_reading UnaryRow l x y r r')
  one_start row first input o p (SizeofTypeFirst {t = t} {input = l} a rest v {type = type} _ _ e g m) (SizeofTypeFirst b rest' v' {type = type'} _ _ e' g' m') =
      ap (λ z. reading (Node (SizeofType z.type) t.at) true z.rest) (type_before l a b rest rest' v v' type type' e e' g g' m m')
  one_start row first input o p (CastFirst {t = t} {input = l} a rest v {type = type} {o = x} _ e g m r) (CastFirst b rest' v' {type = type'} {o = y} _ e' g' m' r') =
      let same = type_before l a b rest rest' v v' type type' e e' g g' m m' in
      ap (λ z. reading (Node (Cast z.type x.tree) t.at) false x.rest) same
      ∙ ap (λ z. reading (Node (Cast type' z.tree) t.at) false z.rest) (one_reading CastRow rest x y r (subst (λ z. Reads CastRow z.rest y) (sym same) r'))

  pub one_more : (row : Row) (at : ℕ) (going : Going) (left : Expression) (unary : Bool) (input : List Token) (o p : Reading) → More row at going left unary input o → More row at going left unary input p → o ≡ p
  one_more row at going left unary input o p Stop Stop = refl
  one_more row at going left unary input o p (CommaMore {input = l} {o = x} _ r m) (CommaMore {o = y} _ r' m') =
      one_more ExpressionRow at (going_of ExpressionRow (next_of x.rest)) (Node (Comma left x.tree) at) false x.rest o p m
      (subst (λ z. More ExpressionRow at (going_of ExpressionRow (next_of z.rest)) (Node (Comma left z.tree) at) false z.rest p) (sym (one_reading AssignmentRow l x y r r')) m')
  one_more row at going left unary input o p (AssignMore {input = l} {o = x} _ r) (AssignMore {o = y} _ r') =
      ap (λ z. reading (Node (Assign left z.tree) at) false z.rest) (one_reading AssignmentRow l x y r r')
  one_more row at going left unary input o p (AssignOpMore {input = l} {operator = operator} {o = x} _ _ _ r) (AssignOpMore {o = y} _ _ _ r') =
      ap (λ z. reading (Node (AssignOp operator left z.tree) at) false z.rest) (one_reading AssignmentRow l x y r r')
  one_more row at going left unary input o p (QuestionMore {chosen = chosen} {same = b} {u = u} {input = l} {more = k} {o = x} _ r m n) (QuestionMore {chosen = chosen'} {same = b'} {u = u'} {more = k'} {o = y} _ r' m' n') =
      let same = one_reading ExpressionRow l (reading chosen b (u ∷ k)) (reading chosen' b' (u' ∷ k')) r r' in
      ap (λ z. reading (Node (Conditional left z.tree x.tree) at) false x.rest) same
      ∙ ap (λ z. reading (Node (Conditional left chosen' z.tree) at) false z.rest) (one_reading ConditionalRow k x y n (subst (λ z. Reads ConditionalRow (behind z.rest) y) (sym same) n'))
  one_more row at going left unary input o p (OrMore {input = l} {o = x} _ r m) (OrMore {o = y} _ r' m') =
      one_more OrRow at (going_of OrRow (next_of x.rest)) (Node (Or left x.tree) at) false x.rest o p m
      (subst (λ z. More OrRow at (going_of OrRow (next_of z.rest)) (Node (Or left z.tree) at) false z.rest p) (sym (one_reading AndRow l x y r r')) m')
  one_more row at going left unary input o p (AndMore {input = l} {o = x} _ r m) (AndMore {o = y} _ r' m') =
      one_more AndRow at (going_of AndRow (next_of x.rest)) (Node (And left x.tree) at) false x.rest o p m
      (subst (λ z. More AndRow at (going_of AndRow (next_of z.rest)) (Node (And left z.tree) at) false z.rest p) (sym (one_reading BitOrRow l x y r r')) m')
  one_more row at going left unary input o p (BinaryMore {input = l} {operator = operator} {o = x} _ _ r m) (BinaryMore {o = y} _ _ r' m') =
      one_more row at (going_of row (next_of x.rest)) (Node (Binary operator left x.tree) at) false x.rest o p m
      (subst (λ z. More row at (going_of row (next_of z.rest)) (Node (Binary operator left z.tree) at) false z.rest p) (sym (one_reading (tight row) l x y r r')) m')
  one_more row at going left unary input o p (IndexMore {index = i} {same = b} {u = u} {input = l} {more = k} _ r n m) (IndexMore {index = i'} {same = b'} {u = u'} {more = k'} _ r' n' m') =
      one_more PostfixRow at (going_of PostfixRow (next_of k)) (Node (Index left i) at) true k o p m
      (subst (λ z. More PostfixRow at (going_of PostfixRow (next_of (behind z.rest))) (Node (Index left z.tree) at) true (behind z.rest) p)
      (sym (one_reading ExpressionRow l (reading i b (u ∷ k)) (reading i' b' (u' ∷ k')) r r')) m')
  one_more row at going left unary input o p (StepMore {up = up} {input = l} _ m) (StepMore _ m') =
      one_more PostfixRow at (going_of PostfixRow (next_of l)) (Node (StepAfter up left) at) true l o p m m'

  one_arguments : (separator : Separator) (input : List Token) (o p : ArgumentsReading) → ReadsArguments separator input o → ReadsArguments separator input p → o ≡ p
  one_arguments separator input o p (NoneRead _) (NoneRead _) = refl
  one_arguments separator input o p (SomeRead r) (SomeRead r') = one_some input o p r r'

  one_some : (input : List Token) (o p : ArgumentsReading) → ReadsSome input o → ReadsSome input p → o ≡ p
  one_some input o p (OneRead {o = x} {all = a} r s) (OneRead {o = y} {all = b} r' s') =
      let same = one_reading AssignmentRow input x y r r' in
      ap (λ z. listed (argument z.tree a.trees) a.rest) same
      ∙ ap (λ z. listed (argument y.tree z.trees) z.rest) (one_rest (separator_of x.rest) x.rest a b s (subst (λ z. ReadsRest (separator_of z.rest) z.rest b) (sym same) s'))

  one_rest : (separator : Separator) (input : List Token) (o p : ArgumentsReading) → ReadsRest separator input o → ReadsRest separator input p → o ≡ p
  one_rest separator input o p (LastRead _) (LastRead _) = refl
  one_rest separator input o p (MoreRead {input = l} _ r) (MoreRead _ r') = one_some l o p r r'
