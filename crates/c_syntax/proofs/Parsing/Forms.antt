-- What each form of the grammar derives is read, if its parts are.
use Rattle.std.proofs.Common.{◌≡◌, ℕ, ◌<◌, ◌≤◌, Bool, true, false, List, [], ◌∷◌, ◌++◌, Option, Some, refl, sym, ap, ◌∙◌, subst, arith, append_assoc}
use Rattle.c_syntax.specs.declared.token.Token.{Token}
use Rattle.c_syntax.specs.declared.token.TokenKind.{TokenKind}
use Rattle.c_syntax.specs.declared.token.TokenKind.TheVariants as token
use Rattle.c_syntax.specs.declared.token.Keyword.TheVariants as keyword
use Rattle.c_syntax.specs.declared.token.Punct.{Punct}
use Rattle.c_syntax.specs.declared.token.Punct.TheVariants as mark
use Rattle.c_syntax.specs.declared.operator.BinaryOp.{BinaryOp}
use Rattle.c_syntax.specs.declared.operator.BinaryOp.TheVariants as binary
use Rattle.c_syntax.specs.declared.syntax.PrefixOp.{PrefixOp}
use Rattle.c_syntax.specs.declared.syntax.SpecWord.{SpecWord}
use Rattle.c_syntax.specs.SyntaxTree.{TypeTree, Expression, Node, Name, Number, Character, Index, Call, StepAfter, StepBefore, Prefix, SizeofValue, SizeofType, Cast, Binary, And, Or, Conditional, Assign, AssignOp, Comma, Expressions, no_argument, argument}
use Rattle.c_syntax.specs.Grammar.{Row, ExpressionRow, AssignmentRow, ConditionalRow, OrRow, AndRow, BitOrRow, CastRow, UnaryRow, PostfixRow, PrimaryRow, tighter, level_of, operator_mark, assignment_mark, prefix_mark, step_mark, IsMark, IsKeyword, place_of, IsType}
use Rattle.c_syntax.specs.Lookahead.{row_rank, Next, CommaNext, AssignNext, AssignOpNext, QuestionNext, OrNext, AndNext, BinaryNext, IndexNext, StepNext, CallNext, EndNext, next_mark, next_of, next_rank, Ends, going_of, Start, NameStart, CallStart, NumberStart, CharacterStart, ParenStart, CastStart, StepStart, PrefixStart, SizeofValueStart, SizeofTypeStart, mark_start, kind_start, spec_of, start_of, start_rank}
use Rattle.c_syntax.proofs.Parsing.Lookahead.{is_next, operator_next, step_next, assignment_next, start_no_spec, name_starts, call_starts, number_starts, character_starts, paren_starts, step_starts, prefix_starts, sizeof_value_starts}
use Rattle.c_syntax.proofs.Parsing.Begins.{Begins, begins_wider, level_bound, type_starts, sizeof_starts}
use Rattle.c_syntax.specs.Reads.{Reading, reading, or_primary, Takes, first_of, listed, OtherHere, separator_mark, separator_kind, separator_of, Reads, Starts, NameFirst, NumberFirst, CharacterFirst, ParenFirst, CallFirst, StepFirst, PrefixFirst, SizeofValueFirst, SizeofTypeFirst, CastFirst, More, CommaMore, AssignMore, AssignOpMore, QuestionMore, OrMore, AndMore, BinaryMore, IndexMore, StepMore, ReadsArguments, NoneRead, SomeRead, ReadsSome, OneRead, ReadsRest, LastRead, MoreRead}
use Rattle.c_syntax.proofs.Parsing.Joins.{IsRead, joins_left, stop_more, tighter_rank, taken, unary_left, join_read, tail_read}

-- ---- joined to the left

module _ (a b : List Token) (t : Token) (left right : Expression) where
  pub comma_read : Begins ExpressionRow a → IsRead ExpressionRow a left → IsMark mark.Comma t → IsRead AssignmentRow b right → IsRead ExpressionRow (a ++ t ∷ b) (Node (Comma left right) (place_of (a ++ t ∷ b)))
  comma_read g l m r =
      join_read ExpressionRow a b t CommaNext left (λ at. Node (Comma left right) at) g (is_next mark.Comma t m) refl false (λ le. absurd (omega arith)) l refl
      (λ at before rest all h n. CommaMore m (r.ends rest (omega arith)) n)

  pub or_read : Begins OrRow a → IsRead OrRow a left → IsMark mark.OrOr t → IsRead AndRow b right → IsRead OrRow (a ++ t ∷ b) (Node (Or left right) (place_of (a ++ t ∷ b)))
  or_read g l m r =
      join_read OrRow a b t OrNext left (λ at. Node (Or left right) at) g (is_next mark.OrOr t m) refl false (λ le. absurd (omega arith)) l refl
      (λ at before rest all h n. OrMore m (r.ends rest (omega arith)) n)

  pub and_read : Begins AndRow a → IsRead AndRow a left → IsMark mark.AndAnd t → IsRead BitOrRow b right → IsRead AndRow (a ++ t ∷ b) (Node (And left right) (place_of (a ++ t ∷ b)))
  and_read g l m r =
      join_read AndRow a b t AndNext left (λ at. Node (And left right) at) g (is_next mark.AndAnd t m) refl false (λ le. absurd (omega arith)) l refl
      (λ at before rest all h n. AndMore m (r.ends rest (omega arith)) n)

-- a mark that goes on with nothing
ends_at : (row : Row) (m : Punct) (u : Token) (rest : List Token) → IsMark m u → next_mark m ≡ EndNext → 1 ≤ row_rank row → Ends row (u ∷ rest)
ends_at row m u rest e is le = subst (λ n. next_rank n < row_rank row) (sym (is_next m u e ∙ is)) le

-- an expression before such a mark
closed : (m : Punct) (b more : List Token) (u : Token) (rest : List Token) (tree : Expression) → (r : IsRead ExpressionRow b tree) → IsMark m u → next_mark m ≡ EndNext
    → Reads ExpressionRow ((b ++ u ∷ more) ++ rest) (reading tree r.unary (u ∷ more ++ rest))
closed m b more u rest tree r e is =
    subst (λ l. Reads ExpressionRow l (reading tree r.unary (u ∷ more ++ rest))) (sym (append_assoc b (u ∷ more) rest)) (r.ends (u ∷ more ++ rest) (ends_at ExpressionRow m u (more ++ rest) e is (omega arith)))

level_joins : (operator : BinaryOp) → joins_left (level_of operator) ≡ true
level_joins binary.Or = refl
level_joins operator = refl

pub binary_read : (a b : List Token) (t : Token) (row next : Row) (operator : BinaryOp) (left right : Expression) → level_of operator ≡ row → tighter row ≡ Some next
    → Begins row a → IsRead row a left → IsMark (operator_mark operator) t → IsRead next b right → IsRead row (a ++ t ∷ b) (Node (Binary operator left right) (place_of (a ++ t ∷ b)))
binary_read a b t row next operator left right level e g l m r =
    let bound = level_bound operator in
    let same = ap row_rank level in
    let rank = tighter_rank row next e in
    join_read row a b t (BinaryNext operator) left (λ at. Node (Binary operator left right) at) g (is_next (operator_mark operator) t m ∙ operator_next operator) same
    false (λ le. absurd (omega arith)) l (sym (ap joins_left level) ∙ level_joins operator)
    (λ at before rest all h n. BinaryMore level m (subst (λ k. Reads k (b ++ rest) (reading right r.unary rest)) (sym (ap or_primary e)) (r.ends rest (omega arith))) n)

pub index_read : (a b : List Token) (t u : Token) (left index : Expression) → Begins PostfixRow a → IsRead PostfixRow a left → IsMark mark.OpenBracket t → IsRead ExpressionRow b index → IsMark mark.CloseBracket u
    → IsRead PostfixRow (a ++ t ∷ (b ++ u ∷ [])) (Node (Index left index) (place_of (a ++ t ∷ (b ++ u ∷ []))))
index_read a b t u left index g l m r n =
    join_read PostfixRow a (b ++ u ∷ []) t IndexNext left (λ at. Node (Index left index) at) g (is_next mark.OpenBracket t m) refl true (λ _. refl) l refl
    (λ at before rest all h k. IndexMore m (closed mark.CloseBracket b [] u rest index r n refl) n k)

pub step_after_read : (a : List Token) (t : Token) (up : Bool) (left : Expression) → Begins PostfixRow a → IsRead PostfixRow a left → IsMark (step_mark up) t
    → IsRead PostfixRow (a ++ t ∷ []) (Node (StepAfter up left) (place_of (a ++ t ∷ [])))
step_after_read a t up left g l m =
    join_read PostfixRow a [] t (StepNext up) left (λ at. Node (StepAfter up left) at) g (is_next (step_mark up) t m ∙ step_next up) refl true (λ _. refl) l refl
    (λ at before rest all h k. StepMore m k)

-- ---- read to the end on the right

module _ (a b : List Token) (t : Token) (left right : Expression) (g : Begins UnaryRow a) (l : IsRead UnaryRow a left) (r : IsRead AssignmentRow b right) where
  assigned : (next : Next) → next_of (t ∷ b) ≡ next → next_rank next ≡ 2 → (rest : List Token) → Reads ConditionalRow (a ++ (t ∷ b ++ rest)) (reading left true (t ∷ b ++ rest))
  assigned next k e rest =
      let rank : next_rank (next_of (t ∷ b ++ rest)) ≡ 2 = ap next_rank k ∙ e in
      unary_left (a ++ (t ∷ b ++ rest)) left true (t ∷ b ++ rest) (g.start (t ∷ b ++ rest) (omega arith)) (omega arith)
      (subst (λ u. Reads UnaryRow (a ++ (t ∷ b ++ rest)) (reading left u (t ∷ b ++ rest))) (l.is_unary (omega arith)) (l.ends (t ∷ b ++ rest) (omega arith)))

  pub assign_read : IsMark mark.Assign t → IsRead AssignmentRow (a ++ t ∷ b) (Node (Assign left right) (place_of (a ++ t ∷ b)))
  assign_read m =
      tail_read AssignmentRow ConditionalRow a b t AssignNext left true (λ at. Node (Assign left right) at) refl (begins_wider a UnaryRow ConditionalRow g (omega arith)) (is_next mark.Assign t m) refl (omega arith)
      (λ rest _. assigned AssignNext (is_next mark.Assign t m) refl rest) (λ at rest h. AssignMore m (r.ends rest h)) refl

  pub assign_op_read : (p : Punct) (operator : BinaryOp) → assignment_mark operator ≡ Some p → IsMark p t → IsRead AssignmentRow (a ++ t ∷ b) (Node (AssignOp operator left right) (place_of (a ++ t ∷ b)))
  assign_op_read p operator is m =
      let k = is_next p t m ∙ assignment_next operator p is in
      tail_read AssignmentRow ConditionalRow a b t (AssignOpNext operator) left true (λ at. Node (AssignOp operator left right) at) refl (begins_wider a UnaryRow ConditionalRow g (omega arith)) k refl (omega arith)
      (λ rest _. assigned (AssignOpNext operator) k refl rest) (λ at rest h. AssignOpMore p is m (r.ends rest h)) refl

pub conditional_read : (a b c : List Token) (t u : Token) (test chosen other : Expression) → Begins OrRow a → IsRead OrRow a test → IsMark mark.Question t → IsRead ExpressionRow b chosen → IsMark mark.Colon u → IsRead ConditionalRow c other
    → IsRead ConditionalRow (a ++ t ∷ (b ++ u ∷ c)) (Node (Conditional test chosen other) (place_of (a ++ t ∷ (b ++ u ∷ c))))
conditional_read a b c t u test chosen other g l m x n y =
    let k = is_next mark.Question t m in
    let rank : next_rank (next_of (t ∷ b)) ≡ 3 = ap next_rank k in
    tail_read ConditionalRow OrRow a (b ++ u ∷ c) t QuestionNext test l.unary (λ at. Node (Conditional test chosen other) at) refl g k refl (omega arith)
    (λ rest _. l.ends (t ∷ (b ++ u ∷ c) ++ rest) (omega arith))
    (λ at rest h. QuestionMore m (closed mark.Colon b c u rest chosen x n refl) n (y.ends rest h)) refl

-- ---- forms of one row's own

own_read : (row : Row) (tokens : List Token) (start : Start) (tree : Expression) (unary : Bool) → (15 ≤ row_rank row → unary ≡ true) → joins_left row ≡ false
    → ((rest : List Token) → Ends row rest → start_of (tokens ++ rest) ≡ start) → first_of row start ≡ Takes start
    → ((rest : List Token) → Ends row rest → Starts row (Takes start) (tokens ++ rest) (reading tree unary rest)) → IsRead row tokens tree
own_read row tokens start tree unary u no_left e f s = record {
  unary = unary;
  is_unary = u;
  ends = λ rest h. taken row (tokens ++ rest) start (reading tree unary rest) (reading tree unary rest) (e rest h) f (s rest h) (stop_more row (place_of (tokens ++ rest)) tree unary rest h);
  goes = λ is. let no : false ≡ true = sym no_left ∙ is in absurd cc;
}

-- nothing goes on with a unary that goes on with no cast
no_cast_next : (next : Next) → next_rank next < 15 → next_rank next < 14
no_cast_next (BinaryNext operator) lt = let bound = level_bound operator in omega arith
no_cast_next IndexNext lt = absurd (omega arith)
no_cast_next (StepNext up) lt = absurd (omega arith)
no_cast_next CallNext lt = absurd (omega arith)
no_cast_next next lt = omega arith

pub cast_read : (a b : List Token) (t u : Token) (type : TypeTree) (operand : Expression) → IsMark mark.OpenParen t → IsType a type → IsMark mark.CloseParen u → IsRead CastRow b operand
    → IsRead CastRow (t ∷ a ++ u ∷ b) (Node (Cast type operand) (place_of (t ∷ a ++ u ∷ b)))
cast_read a b t u type operand m h n r =
    own_read CastRow (t ∷ a ++ u ∷ b) CastStart (Node (Cast type operand) t.at) false (λ le. absurd (omega arith)) refl
    (λ rest _. ap (λ l. start_of (t ∷ l)) (append_assoc a (u ∷ b) rest) ∙ type_starts t a (u ∷ b ++ rest) type m h) refl
    (λ rest e. CastFirst a (b ++ rest) u m (append_assoc a (u ∷ b) rest) h n (r.ends rest e))

pub step_before_read : (a : List Token) (t : Token) (up : Bool) (operand : Expression) → IsMark (step_mark up) t → IsRead UnaryRow a operand → IsRead UnaryRow (t ∷ a) (Node (StepBefore up operand) (place_of (t ∷ a)))
step_before_read a t up operand m r =
    own_read UnaryRow (t ∷ a) (StepStart up) (Node (StepBefore up operand) t.at) true (λ _. refl) refl (λ rest _. step_starts t (a ++ rest) up m) refl (λ rest e. StepFirst m (r.ends rest e))

pub prefix_read : (a : List Token) (t : Token) (operator : PrefixOp) (operand : Expression) → IsMark (prefix_mark operator) t → IsRead CastRow a operand → IsRead UnaryRow (t ∷ a) (Node (Prefix operator operand) (place_of (t ∷ a)))
prefix_read a t operator operand m r =
    own_read UnaryRow (t ∷ a) (PrefixStart operator) (Node (Prefix operator operand) t.at) true (λ _. refl) refl (λ rest _. prefix_starts t (a ++ rest) operator m) refl
    (λ rest e. PrefixFirst m (r.ends rest (no_cast_next (next_of rest) e)))

pub sizeof_value_read : (a : List Token) (t : Token) (operand : Expression) → IsKeyword keyword.Sizeof t → Begins UnaryRow a → IsRead UnaryRow a operand → IsRead UnaryRow (t ∷ a) (Node (SizeofValue operand) (place_of (t ∷ a)))
sizeof_value_read a t operand k g r =
    own_read UnaryRow (t ∷ a) SizeofValueStart (Node (SizeofValue operand) t.at) true (λ _. refl) refl (λ rest e. sizeof_value_starts t (a ++ rest) k (g.start rest (omega arith))) refl
    (λ rest e. SizeofValueFirst k (r.ends rest e))

pub sizeof_type_read : (a : List Token) (t u v : Token) (type : TypeTree) → IsKeyword keyword.Sizeof t → IsMark mark.OpenParen u → IsType a type → IsMark mark.CloseParen v
    → IsRead UnaryRow (t ∷ u ∷ a ++ v ∷ []) (Node (SizeofType type) (place_of (t ∷ u ∷ a ++ v ∷ [])))
sizeof_type_read a t u v type k m h n =
    own_read UnaryRow (t ∷ u ∷ a ++ v ∷ []) SizeofTypeStart (Node (SizeofType type) t.at) true (λ _. refl) refl
    (λ rest _. ap (λ l. start_of (t ∷ u ∷ l)) (append_assoc a (v ∷ []) rest) ∙ sizeof_starts t u a (v ∷ rest) type k m h) refl
    (λ rest e. SizeofTypeFirst a rest v k m (append_assoc a (v ∷ []) rest) h n)

pub name_read : (t : Token) (name : List ℕ) → t.kind ≡ token.Name name → IsRead PrimaryRow (t ∷ []) (Node (Name name) t.at)
name_read t name k = own_read PrimaryRow (t ∷ []) (NameStart name) (Node (Name name) t.at) true (λ _. refl) refl (λ rest e. name_starts t rest name k (omega arith)) refl (λ rest e. NameFirst k)

pub number_read : (t : Token) (value : ℕ) (marked decimal : Bool) → t.kind ≡ token.Number value marked decimal → IsRead PrimaryRow (t ∷ []) (Node (Number value marked decimal) t.at)
number_read t value marked decimal k =
    own_read PrimaryRow (t ∷ []) (NumberStart value marked decimal) (Node (Number value marked decimal) t.at) true (λ _. refl) refl (λ rest e. number_starts t rest value marked decimal k) refl (λ rest e. NumberFirst k)

pub character_read : (t : Token) (value : ℕ) → t.kind ≡ token.Char value → IsRead PrimaryRow (t ∷ []) (Node (Character value) t.at)
character_read t value k = own_read PrimaryRow (t ∷ []) (CharacterStart value) (Node (Character value) t.at) true (λ _. refl) refl (λ rest e. character_starts t rest value k) refl (λ rest e. CharacterFirst k)

pub paren_read : (a : List Token) (t u : Token) (tree : Expression) → IsMark mark.OpenParen t → Begins ExpressionRow a → IsRead ExpressionRow a tree → IsMark mark.CloseParen u → IsRead PrimaryRow (t ∷ a ++ u ∷ []) tree
paren_read a t u tree m g r n =
    own_read PrimaryRow (t ∷ a ++ u ∷ []) ParenStart tree true (λ _. refl) refl
    (λ rest e. let end = ends_at PrimaryRow mark.CloseParen u rest n refl (omega arith) in
    ap (λ l. start_of (t ∷ l)) (append_assoc a (u ∷ []) rest) ∙ paren_starts t (a ++ u ∷ rest) m (start_no_spec (a ++ u ∷ rest) (g.start (u ∷ rest) (omega arith))))
    refl
    (λ rest e. ParenFirst m (closed mark.CloseParen a [] u rest tree r n refl) n)

-- ---- arguments

-- no argument begins with a comma or `)`
mark_other : (m : Punct) (spec : Option SpecWord) → start_rank (mark_start m spec) ≤ 3 → separator_mark m ≡ OtherHere
mark_other mark.Comma spec le = absurd (omega arith)
mark_other mark.CloseParen spec le = absurd (omega arith)
mark_other m spec le = refl

kind_other : (kind : TokenKind) (next : Next) (spec : Option SpecWord) (behind : Start) → start_rank (kind_start kind next spec behind) ≤ 3 → separator_kind kind ≡ OtherHere
kind_other (token.Mark m) next spec behind le = mark_other m spec le
kind_other kind next spec behind le = refl

start_other : (tokens : List Token) → start_rank (start_of tokens) ≤ 3 → separator_of tokens ≡ OtherHere
start_other [] le = refl
start_other (t ∷ more) le = kind_other t.kind (next_of more) (spec_of more) (start_of more) le

-- tokens are read as arguments before `)`
pub record AreRead (tokens : List Token) (trees : Expressions) : Type 0 where
  pub by : (v : Token) (rest : List Token) → IsMark mark.CloseParen v → ReadsArguments (separator_of (tokens ++ v ∷ rest)) (tokens ++ v ∷ rest) (listed trees rest)

pub record SomeAreRead (tokens : List Token) (trees : Expressions) : Type 0 where
  pub begins : (v : Token) (rest : List Token) → IsMark mark.CloseParen v → separator_of (tokens ++ v ∷ rest) ≡ OtherHere
  pub by : (v : Token) (rest : List Token) → IsMark mark.CloseParen v → ReadsSome (tokens ++ v ∷ rest) (listed trees rest)

pub none_read : AreRead [] no_argument
none_read = record { by = λ v rest m. subst (λ s. ReadsArguments s (v ∷ rest) (listed no_argument rest)) (sym (ap separator_kind m)) (NoneRead m) }

pub some_read : (tokens : List Token) (trees : Expressions) → SomeAreRead tokens trees → AreRead tokens trees
some_read tokens trees r = record {
  by = λ v rest m. subst (λ s. ReadsArguments s (tokens ++ v ∷ rest) (listed trees rest)) (sym (r.begins v rest m)) (SomeRead (r.by v rest m));
}

pub last_read : (a : List Token) (tree : Expression) → Begins AssignmentRow a → IsRead AssignmentRow a tree → SomeAreRead a (argument tree no_argument)
last_read a tree g r = record {
  begins = λ v rest m. let end = ends_at PrimaryRow mark.CloseParen v rest m refl (omega arith) in start_other (a ++ v ∷ rest) (g.start (v ∷ rest) (omega arith));
  by = λ v rest m. OneRead (r.ends (v ∷ rest) (ends_at AssignmentRow mark.CloseParen v rest m refl (omega arith)))
      (subst (λ s. ReadsRest s (v ∷ rest) (listed no_argument rest)) (sym (ap separator_kind m)) (LastRead m));
}

pub more_read : (a b : List Token) (t : Token) (tree : Expression) (trees : Expressions) → Begins AssignmentRow a → IsRead AssignmentRow a tree → IsMark mark.Comma t → SomeAreRead b trees
    → SomeAreRead (a ++ t ∷ b) (argument tree trees)
more_read a b t tree trees g r m s = record {
  begins = λ v rest n.
      let rank : next_rank (next_of (t ∷ b ++ v ∷ rest)) ≡ 1 = ap next_rank (is_next mark.Comma t m) in
      ap separator_of (append_assoc a (t ∷ b) (v ∷ rest)) ∙ start_other (a ++ (t ∷ b ++ v ∷ rest)) (g.start (t ∷ b ++ v ∷ rest) (omega arith));
  by = λ v rest n.
      let rank : next_rank (next_of (t ∷ b ++ v ∷ rest)) ≡ 1 = ap next_rank (is_next mark.Comma t m) in
      subst (λ l. ReadsSome l (listed (argument tree trees) rest)) (sym (append_assoc a (t ∷ b) (v ∷ rest)))
      (OneRead (r.ends (t ∷ b ++ v ∷ rest) (omega arith)) (subst (λ s. ReadsRest s (t ∷ b ++ v ∷ rest) (listed trees rest)) (sym (ap separator_kind m)) (MoreRead m (s.by v rest n))));
}

module _ (a : List Token) (t u v : Token) (name : List ℕ) (arguments : Expressions) (k : t.kind ≡ token.Name name) (m : IsMark mark.OpenParen u) (s : AreRead a arguments) (n : IsMark mark.CloseParen v) where
  call_first : (rest : List Token) → Starts PostfixRow (Takes (CallStart name)) (t ∷ u ∷ (a ++ v ∷ []) ++ rest) (reading (Node (Call name arguments) t.at) true rest)
  call_first rest = CallFirst k m (subst (λ l. ReadsArguments (separator_of l) l (listed arguments rest)) (sym (append_assoc a (v ∷ []) rest)) (s.by v rest n))

  call_goes : (rest : List Token) (all : Reading) → More PostfixRow t.at (going_of PostfixRow (next_of rest)) (Node (Call name arguments) t.at) true rest all → Reads PostfixRow (t ∷ u ∷ (a ++ v ∷ []) ++ rest) all
  call_goes rest all k' =
      taken PostfixRow (t ∷ u ∷ (a ++ v ∷ []) ++ rest) (CallStart name) (reading (Node (Call name arguments) t.at) true rest) all
      (call_starts t (u ∷ (a ++ v ∷ []) ++ rest) name k (is_next mark.OpenParen u m)) refl (call_first rest) k'

  pub call_read : IsRead PostfixRow (t ∷ u ∷ a ++ v ∷ []) (Node (Call name arguments) (place_of (t ∷ u ∷ a ++ v ∷ [])))
  call_read = record {
    unary = true;
    is_unary = λ _. refl;
    ends = λ rest h. call_goes rest (reading (Node (Call name arguments) t.at) true rest) (stop_more PostfixRow t.at (Node (Call name arguments) t.at) true rest h);
    goes = λ _ rest all _ k'. call_goes rest all k';
  }
