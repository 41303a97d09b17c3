-- What a mark that stands next makes of a row.
use Rattle.std.proofs.Common.{◌≡◌, ◌≢◌, ℕ, ◌<◌, ◌≤◌, Bool, true, false, List, [], ◌∷◌, Option, Some, None, refl, sym, ap, ◌∙◌, subst, arith}
use Rattle.std.proofs.lemmas.Bool.Decides.{nat_tests}
use Rattle.c_syntax.specs.declared.token.Token.{Token}
use Rattle.c_syntax.specs.declared.token.TokenKind.{TokenKind}
use Rattle.c_syntax.specs.declared.token.TokenKind.TheVariants as token
use Rattle.c_syntax.specs.declared.token.Punct.{Punct}
use Rattle.c_syntax.specs.declared.token.Punct.TheVariants as mark
use Rattle.c_syntax.specs.declared.operator.BinaryOp.{BinaryOp}
use Rattle.c_syntax.specs.declared.operator.BinaryOp.TheVariants as binary
use Rattle.c_syntax.specs.SyntaxTree.{Expression, Node, Index, StepAfter, Conditional, Comma}
use Rattle.c_syntax.specs.Grammar.{Row, ExpressionRow, AssignmentRow, ConditionalRow, CastRow, UnaryRow, PostfixRow, PrimaryRow, tighter, level_of, operator_mark, assignment_mark, step_mark, IsMark}
use Rattle.c_syntax.specs.Lookahead.{row_rank, Next, CommaNext, AssignNext, AssignOpNext, QuestionNext, OrNext, AndNext, BinaryNext, IndexNext, StepNext, CallNext, EndNext, next_mark, next_kind, next_of, next_rank, Stops, Goes, going_of, Start}
use Rattle.c_syntax.specs.Reads.{Reading, reading, tight, PassTo, first_of, Reads, More, CommaMore, AssignMore, AssignOpMore, QuestionMore, OrMore, AndMore, BinaryMore, IndexMore, StepMore}
use Rattle.c_expressions.specs.declared.operators.Level.{Level}
use Rattle.c_expressions.specs.declared.operators.Level.TheVariants as level
use Rattle.c_expressions.specs.declared.operators.Infix.{Infix}
use Rattle.c_expressions.specs.declared.operators.Infix.TheVariants as between
use Rattle.c_expressions.specs.declared.operators.Assignment.{Assignment}
use Rattle.c_expressions.specs.declared.operators.Assignment.TheVariants as assignment
use Rattle.c_cursor.specs.Front.{behind, kind_mark, mark_at}
use Rattle.c_expressions.specs.Operators.{level_row, binary_level, next_infix, infix_form, next_assignment, assignment_form, IsInfix, step_at}
use Rattle.c_expressions.proofs.Words.{is_first}

-- what goes on by a mark
abbrev pub next_at : Option Punct → Next
next_at (Some m) = next_mark m
next_at None = EndNext

next_kind_at : (kind : TokenKind) → next_kind kind ≡ next_at (kind_mark kind)
next_kind_at (token.Mark m) = refl
next_kind_at kind = refl

pub next_is : (tokens : List Token) → next_of tokens ≡ next_at (mark_at tokens)
next_is [] = refl
next_is (t ∷ more) = next_kind_at t.kind

-- the mark that goes on so
abbrev next_back : Next → Option Punct
next_back CommaNext = Some mark.Comma
next_back AssignNext = Some mark.Assign
next_back (AssignOpNext op) = assignment_mark op
next_back QuestionNext = Some mark.Question
next_back OrNext = Some mark.OrOr
next_back AndNext = Some mark.AndAnd
next_back (BinaryNext op) = Some (operator_mark op)
next_back IndexNext = Some mark.OpenBracket
next_back (StepNext up) = Some (step_mark up)
next_back CallNext = Some mark.OpenParen
next_back EndNext = None

abbrev goes_on : Next → Bool
goes_on EndNext = false
goes_on next = true

back : (m : Punct) → goes_on (next_mark m) ≡ true → next_back (next_mark m) ≡ Some m
back mark.Comma e = refl
back mark.Assign e = refl
back mark.BarAssign e = refl
back mark.CaretAssign e = refl
back mark.AmpersandAssign e = refl
back mark.ShiftLeftAssign e = refl
back mark.ShiftRightAssign e = refl
back mark.PlusAssign e = refl
back mark.MinusAssign e = refl
back mark.StarAssign e = refl
back mark.SlashAssign e = refl
back mark.PercentAssign e = refl
back mark.Question e = refl
back mark.OrOr e = refl
back mark.AndAnd e = refl
back mark.Bar e = refl
back mark.Caret e = refl
back mark.Ampersand e = refl
back mark.EqualEqual e = refl
back mark.NotEqual e = refl
back mark.Less e = refl
back mark.Greater e = refl
back mark.LessEqual e = refl
back mark.GreaterEqual e = refl
back mark.ShiftLeft e = refl
back mark.ShiftRight e = refl
back mark.Plus e = refl
back mark.Minus e = refl
back mark.Star e = refl
back mark.Slash e = refl
back mark.Percent e = refl
back mark.OpenBracket e = refl
back mark.PlusPlus e = refl
back mark.MinusMinus e = refl
back mark.OpenParen e = refl
back m e = absurd cc

back_at : (o : Option Punct) → goes_on (next_at o) ≡ true → next_back (next_at o) ≡ o
back_at (Some m) e = back m e
back_at None e = absurd cc

-- the mark that stands first, by what goes on
pub stands_by : (tokens : List Token) (n : Next) → next_of tokens ≡ n → goes_on n ≡ true → mark_at tokens ≡ next_back n
stands_by tokens n e goes =
    let is : next_at (mark_at tokens) ≡ n = sym (next_is tokens) ∙ e in
    sym (back_at (mark_at tokens) (ap goes_on is ∙ goes)) ∙ ap next_back is

-- ---- what stops

no_comma_at : (o : Option Punct) → o ≢ Some mark.Comma → going_of ExpressionRow (next_at o) ≡ Stops
no_comma_at None h = refl
no_comma_at (Some mark.Comma) h = absurd (h refl)
no_comma_at (Some m) h = refl

pub no_comma : (tokens : List Token) → mark_at tokens ≢ Some mark.Comma → going_of ExpressionRow (next_of tokens) ≡ Stops
no_comma tokens h = ap (going_of ExpressionRow) (next_is tokens) ∙ no_comma_at (mark_at tokens) h

no_question_at : (o : Option Punct) → o ≢ Some mark.Question → going_of ConditionalRow (next_at o) ≡ Stops
no_question_at None h = refl
no_question_at (Some mark.Question) h = absurd (h refl)
no_question_at (Some m) h = refl

pub no_question : (tokens : List Token) → mark_at tokens ≢ Some mark.Question → going_of ConditionalRow (next_of tokens) ≡ Stops
no_question tokens h = ap (going_of ConditionalRow) (next_is tokens) ∙ no_question_at (mark_at tokens) h

no_postfix_at : (o : Option Punct) → o ≢ Some mark.OpenBracket → step_at o ≡ None → going_of PostfixRow (next_at o) ≡ Stops
no_postfix_at None h e = refl
no_postfix_at (Some mark.OpenBracket) h e = absurd (h refl)
no_postfix_at (Some mark.PlusPlus) h e = absurd cc
no_postfix_at (Some mark.MinusMinus) h e = absurd cc
no_postfix_at (Some m) h e = refl

pub no_postfix : (tokens : List Token) → mark_at tokens ≢ Some mark.OpenBracket → step_at (mark_at tokens) ≡ None → going_of PostfixRow (next_of tokens) ≡ Stops
no_postfix tokens h e = ap (going_of PostfixRow) (next_is tokens) ∙ no_postfix_at (mark_at tokens) h e

binary_no_assignment : (op : BinaryOp) → going_of AssignmentRow (BinaryNext op) ≡ Stops
binary_no_assignment binary.Or = refl
binary_no_assignment op = refl

pub no_assignment : (n : Next) → next_assignment n ≡ None → going_of AssignmentRow n ≡ Stops
no_assignment AssignNext e = absurd cc
no_assignment (AssignOpNext op) e = absurd cc
no_assignment (BinaryNext op) e = binary_no_assignment op
no_assignment n e = refl

binary_no_cast : (op : BinaryOp) → going_of CastRow (BinaryNext op) ≡ Stops
binary_no_cast binary.Or = refl
binary_no_cast op = refl

pub no_cast : (n : Next) → going_of CastRow n ≡ Stops
no_cast (BinaryNext op) = binary_no_cast op
no_cast n = refl

binary_no_unary : (op : BinaryOp) → going_of UnaryRow (BinaryNext op) ≡ Stops
binary_no_unary binary.Or = refl
binary_no_unary op = refl

pub no_unary : (n : Next) → going_of UnaryRow n ≡ Stops
no_unary (BinaryNext op) = binary_no_unary op
no_unary n = refl

binary_no_primary : (op : BinaryOp) → going_of PrimaryRow (BinaryNext op) ≡ Stops
binary_no_primary binary.Or = refl
binary_no_primary op = refl

pub no_primary : (n : Next) → going_of PrimaryRow n ≡ Stops
no_primary (BinaryNext op) = binary_no_primary op
no_primary n = refl

-- ---- levels

pub level_tight : (l : Level) → tighter (level_row l) ≡ Some (tight (level_row l))
level_tight level.Or = refl
level_tight l = refl

pub level_passes : (l : Level) (s : Start) → first_of (level_row l) s ≡ PassTo (tight (level_row l))
level_passes level.Or s = refl
level_passes l s = refl

level_low : (l : Level) → 4 ≤ row_rank (level_row l)
level_low level.Or = omega arith
level_low l = omega arith

level_high : (l : Level) → row_rank (level_row l) ≤ 13
level_high level.Or = omega arith
level_high l = omega arith

going_off : (row : Row) (n : Next) → next_rank n ≢ row_rank row → going_of row n ≡ Stops
going_off row n h = grind (arith, nat_tests)

off_low : (l : Level) (n : Next) → next_rank n < 4 → going_of (level_row l) n ≡ Stops
off_low l n h = going_off (level_row l) n (λ e. omega (arith, level_low l))

off_high : (l : Level) (n : Next) → 13 < next_rank n → going_of (level_row l) n ≡ Stops
off_high l n h = going_off (level_row l) n (λ e. omega (arith, level_high l))

pub level_none : (l : Level) (n : Next) → next_infix n ≡ None → going_of (level_row l) n ≡ Stops
level_none l CommaNext e = off_low l CommaNext (omega arith)
level_none l AssignNext e = off_low l AssignNext (omega arith)
level_none l (AssignOpNext op) e = off_low l (AssignOpNext op) (omega arith)
level_none l QuestionNext e = off_low l QuestionNext (omega arith)
level_none l OrNext e = absurd cc
level_none l AndNext e = absurd cc
level_none l (BinaryNext op) e = absurd cc
level_none l IndexNext e = off_high l IndexNext (omega arith)
level_none l (StepNext up) e = off_high l (StepNext up) (omega arith)
level_none l CallNext e = off_high l CallNext (omega arith)
level_none l EndNext e = off_low l EndNext (omega arith)

pub same_level : (k l : Level) → row_rank (level_row k) ≡ row_rank (level_row l) → k ≡ l
same_level level.Or level.Or e = refl
same_level level.And level.And e = refl
same_level level.BitOr level.BitOr e = refl
same_level level.BitXor level.BitXor e = refl
same_level level.BitAnd level.BitAnd e = refl
same_level level.Equality level.Equality e = refl
same_level level.Relation level.Relation e = refl
same_level level.Shift level.Shift e = refl
same_level level.Sum level.Sum e = refl
same_level level.Product level.Product e = refl
same_level k l e = absurd (omega (arith, e))

pub binary_row : (op : BinaryOp) → level_of op ≡ level_row (binary_level op)
binary_row binary.Or = refl
binary_row op = refl

abbrev pub pair_of : Option (Level × Infix) → Level × Infix
pair_of (Some p) = p
pair_of None = (level.Or, between.Or)

pub level_other : (l k : Level) (i : Infix) (n : Next) → next_infix n ≡ Some (k, i) → k ≢ l → going_of (level_row l) n ≡ Stops
level_other l k i OrNext e h = going_off (level_row l) OrNext (λ r. h (sym (ap (λ o. (pair_of o).0) e) ∙ same_level level.Or l r))
level_other l k i AndNext e h = going_off (level_row l) AndNext (λ r. h (sym (ap (λ o. (pair_of o).0) e) ∙ same_level level.And l r))
level_other l k i (BinaryNext op) e h =
    going_off (level_row l) (BinaryNext op) (λ r. h (sym (ap (λ o. (pair_of o).0) e) ∙ same_level (binary_level op) l (sym (ap row_rank (binary_row op)) ∙ r)))
level_other l k i n e h = absurd cc

pub level_found : (l k : Level) (i : Infix) (n : Next) → next_infix n ≡ Some (k, i) → k ≡ l → IsInfix l n i
level_found l k i n e h = e ∙ ap (λ r. Some (r, i)) h

abbrev step_back : Option Bool → Option Punct
step_back (Some up) = Some (step_mark up)
step_back None = None

pub step_stands : (o : Option Punct) (up : Bool) → step_at o ≡ Some up → o ≡ Some (step_mark up)
step_stands (Some mark.PlusPlus) up e = ap step_back e
step_stands (Some mark.MinusMinus) up e = ap step_back e
step_stands o up e = absurd cc

-- ---- what goes on

module _ (at : ℕ) (left : Expression) (unary : Bool) where
  -- by the mark that stands first
  at_next : (row : Row) (t : Token) (more : List Token) (m : Punct) (all : Reading) → IsMark m t
      → More row at (going_of row (next_mark m)) left unary (t ∷ more) all → More row at (going_of row (next_of (t ∷ more))) left unary (t ∷ more) all
  at_next row t more m all e = subst (λ n. More row at (going_of row n) left unary (t ∷ more) all) (sym (ap next_kind e))

  pub comma_goes : (tokens : List Token) (o all : Reading) → mark_at tokens ≡ Some mark.Comma → Reads AssignmentRow (behind tokens) o
      → More ExpressionRow at (going_of ExpressionRow (next_of o.rest)) (Node (Comma left o.tree) at) false o.rest all → More ExpressionRow at (going_of ExpressionRow (next_of tokens)) left unary tokens all
  comma_goes [] o all e r m = absurd cc
  comma_goes (t ∷ more) o all e r m = let is = is_first t more mark.Comma e in at_next ExpressionRow t more mark.Comma all is (CommaMore is r m)

  pub question_goes : (tokens mid : List Token) (chosen : Expression) (same : Bool) (o : Reading) → mark_at tokens ≡ Some mark.Question → Reads ExpressionRow (behind tokens) (reading chosen same mid)
      → mark_at mid ≡ Some mark.Colon → Reads ConditionalRow (behind mid) o
      → More ConditionalRow at (going_of ConditionalRow (next_of tokens)) left unary tokens (reading (Node (Conditional left chosen o.tree) at) false o.rest)
  question_goes [] mid chosen same o e r f n = absurd cc
  question_goes tokens [] chosen same o e r f n = absurd cc
  question_goes (t ∷ more) (u ∷ rest) chosen same o e r f n =
      let is = is_first t more mark.Question e in
      at_next ConditionalRow t more mark.Question _ is (QuestionMore is r (is_first u rest mark.Colon f) n)

  pub index_goes : (tokens mid : List Token) (index : Expression) (same : Bool) (all : Reading) → mark_at tokens ≡ Some mark.OpenBracket → Reads ExpressionRow (behind tokens) (reading index same mid)
      → mark_at mid ≡ Some mark.CloseBracket → More PostfixRow at (going_of PostfixRow (next_of (behind mid))) (Node (Index left index) at) true (behind mid) all
      → More PostfixRow at (going_of PostfixRow (next_of tokens)) left unary tokens all
  index_goes [] mid index same all e r f m = absurd cc
  index_goes tokens [] index same all e r f m = absurd cc
  index_goes (t ∷ more) (u ∷ rest) index same all e r f m =
      let is = is_first t more mark.OpenBracket e in
      at_next PostfixRow t more mark.OpenBracket all is (IndexMore is r (is_first u rest mark.CloseBracket f) m)

  step_going : (up : Bool) → going_of PostfixRow (next_mark (step_mark up)) ≡ Goes (StepNext up)
  step_going true = refl
  step_going false = refl

  pub step_goes : (tokens : List Token) (up : Bool) (all : Reading) → step_at (mark_at tokens) ≡ Some up
      → More PostfixRow at (going_of PostfixRow (next_of (behind tokens))) (Node (StepAfter up left) at) true (behind tokens) all → More PostfixRow at (going_of PostfixRow (next_of tokens)) left unary tokens all
  step_goes [] up all e m = absurd cc
  step_goes (t ∷ more) up all e m =
      let is = is_first t more (step_mark up) (step_stands (mark_at (t ∷ more)) up e) in
      at_next PostfixRow t more (step_mark up) all is (subst (λ g. More PostfixRow at g left unary (t ∷ more) all) (sym (step_going up)) (StepMore is m))

  binary_goes : (op : BinaryOp) → going_of (level_row (binary_level op)) (BinaryNext op) ≡ Goes (BinaryNext op)
  binary_goes binary.Or = refl
  binary_goes op = refl

  level_next : (t : Token) (more : List Token) (l : Level) (i : Infix) (o all : Reading) (n : Next) → next_of (t ∷ more) ≡ n → IsInfix l n i → Reads (tight (level_row l)) more o
      → More (level_row l) at (going_of (level_row l) (next_of o.rest)) (Node (infix_form i left o.tree) at) false o.rest all → More (level_row l) at (going_of (level_row l) n) left unary (t ∷ more) all
  level_next t more l i o all OrNext e is =
      let P : Level × Infix → Type 0 = λ p. Reads (tight (level_row p.0)) more o → More (level_row p.0) at (going_of (level_row p.0) (next_of o.rest)) (Node (infix_form p.1 left o.tree) at) false o.rest all
      → More (level_row p.0) at (going_of (level_row p.0) OrNext) left unary (t ∷ more) all in
      let one : P (level.Or, between.Or) = λ r m. OrMore (is_first t more mark.OrOr (stands_by (t ∷ more) OrNext e refl)) r m in
      subst P (ap pair_of is) one
  level_next t more l i o all AndNext e is =
      let P : Level × Infix → Type 0 = λ p. Reads (tight (level_row p.0)) more o → More (level_row p.0) at (going_of (level_row p.0) (next_of o.rest)) (Node (infix_form p.1 left o.tree) at) false o.rest all
      → More (level_row p.0) at (going_of (level_row p.0) AndNext) left unary (t ∷ more) all in
      let one : P (level.And, between.And) = λ r m. AndMore (is_first t more mark.AndAnd (stands_by (t ∷ more) AndNext e refl)) r m in
      subst P (ap pair_of is) one
  level_next t more l i o all (BinaryNext op) e is =
      let P : Level × Infix → Type 0 = λ p. Reads (tight (level_row p.0)) more o → More (level_row p.0) at (going_of (level_row p.0) (next_of o.rest)) (Node (infix_form p.1 left o.tree) at) false o.rest all
      → More (level_row p.0) at (going_of (level_row p.0) (BinaryNext op)) left unary (t ∷ more) all in
      let one : P (binary_level op, between.Value op) = λ r m.
      subst (λ g. More (level_row (binary_level op)) at g left unary (t ∷ more) all) (sym (binary_goes op))
      (BinaryMore (binary_row op) (is_first t more (operator_mark op) (stands_by (t ∷ more) (BinaryNext op) e refl)) r m) in
      subst P (ap pair_of is) one
  level_next t more l i o all n e is = absurd cc

  pub level_goes : (tokens : List Token) (l : Level) (i : Infix) (o all : Reading) → IsInfix l (next_of tokens) i → Reads (tight (level_row l)) (behind tokens) o
      → More (level_row l) at (going_of (level_row l) (next_of o.rest)) (Node (infix_form i left o.tree) at) false o.rest all → More (level_row l) at (going_of (level_row l) (next_of tokens)) left unary tokens all
  level_goes [] l i o all is r m = absurd cc
  level_goes (t ∷ more) l i o all is r m = level_next t more l i o all (next_of (t ∷ more)) refl is r m

abbrev pub assignment_back : Option Assignment → Assignment
assignment_back (Some a) = a
assignment_back None = assignment.Plain

-- only a unary is assigned to
module _ (at : ℕ) (left : Expression) where
  assign_op : (t : Token) (more : List Token) (o : Reading) (op : BinaryOp) (p : Option Punct) → next_of (t ∷ more) ≡ AssignOpNext op → mark_at (t ∷ more) ≡ p → mark_at (t ∷ more) ≡ assignment_mark op → Reads AssignmentRow more o
      → More AssignmentRow at (Goes (AssignOpNext op)) left true (t ∷ more) (reading (Node (assignment_form (assignment.With op) left o.tree) at) false o.rest)
  assign_op t more o op (Some m) e h k r = AssignOpMore m (sym k ∙ h) (is_first t more m h) r
  assign_op t more o op None e h k r = let bad : EndNext ≡ AssignOpNext op = ap next_at (sym h) ∙ sym (next_is (t ∷ more)) ∙ e in absurd cc

  assign_next : (t : Token) (more : List Token) (a : Assignment) (o : Reading) (n : Next) → next_of (t ∷ more) ≡ n → next_assignment n ≡ Some a → Reads AssignmentRow more o
      → More AssignmentRow at (going_of AssignmentRow n) left true (t ∷ more) (reading (Node (assignment_form a left o.tree) at) false o.rest)
  assign_next t more a o AssignNext e is r =
      subst (λ b. More AssignmentRow at (Goes AssignNext) left true (t ∷ more) (reading (Node (assignment_form b left o.tree) at) false o.rest)) (ap assignment_back is)
      (AssignMore (is_first t more mark.Assign (stands_by (t ∷ more) AssignNext e refl)) r)
  assign_next t more a o (AssignOpNext op) e is r =
      subst (λ b. More AssignmentRow at (Goes (AssignOpNext op)) left true (t ∷ more) (reading (Node (assignment_form b left o.tree) at) false o.rest)) (ap assignment_back is)
      (assign_op t more o op (mark_at (t ∷ more)) e refl (stands_by (t ∷ more) (AssignOpNext op) e refl) r)
  assign_next t more a o n e is r = absurd cc

  pub assign_goes : (tokens : List Token) (a : Assignment) (o : Reading) → next_assignment (next_of tokens) ≡ Some a → Reads AssignmentRow (behind tokens) o
      → More AssignmentRow at (going_of AssignmentRow (next_of tokens)) left true tokens (reading (Node (assignment_form a left o.tree) at) false o.rest)
  assign_goes [] a o is r = absurd cc
  assign_goes (t ∷ more) a o is r = assign_next t more a o (next_of (t ∷ more)) refl is r
