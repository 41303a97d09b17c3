-- What lookahead tells, of each form.
use Rattle.std.proofs.Common.{◌≡◌, ℕ, ◌<◌, ◌≤◌, Bool, true, false, List, [], ◌∷◌, Option, Some, None, refl, sym, ap, ◌∙◌, arith}
use Rattle.std.proofs.lemmas.Bool.Decides.{nat_tests}
use Rattle.c_syntax.specs.declared.token.Token.{Token}
use Rattle.c_syntax.specs.declared.token.TokenKind.{TokenKind}
use Rattle.c_syntax.specs.declared.token.TokenKind.TheVariants as token
use Rattle.c_syntax.specs.declared.token.Keyword.{Keyword}
use Rattle.c_syntax.specs.declared.token.Keyword.TheVariants as keyword
use Rattle.c_syntax.specs.declared.token.Punct.{Punct}
use Rattle.c_syntax.specs.declared.token.Punct.TheVariants as mark
use Rattle.c_syntax.specs.declared.operator.BinaryOp.{BinaryOp}
use Rattle.c_syntax.specs.declared.operator.BinaryOp.TheVariants as binary
use Rattle.c_syntax.specs.declared.syntax.SpecWord.{SpecWord}
use Rattle.c_syntax.specs.declared.syntax.SpecWord.TheVariants as word
use Rattle.c_syntax.specs.declared.syntax.PrefixOp.{PrefixOp}
use Rattle.c_syntax.specs.declared.syntax.PrefixOp.TheVariants as prefix
use Rattle.c_syntax.specs.Grammar.{Row, spec_keyword, IsKeyword, operator_mark, assignment_mark, prefix_mark, step_mark, IsMark}
use Rattle.c_syntax.specs.Lookahead.{AssignOpNext, BinaryNext, CallNext, CallStart, CastStart, CharacterStart, EndNext, Goes, NameStart, Next, NumberStart, ParenStart, PrefixStart, SizeofTypeStart, SizeofValueStart, Start, StepNext, StepStart, Stops, going_of, keyword_spec, keyword_start, kind_spec, kind_start, mark_start, name_start, next_kind, next_mark, next_of, next_rank, paren_start, row_rank, sizeof_start, spec_of, start_of, start_rank}

pub going_stops : (row : Row) (next : Next) → next_rank next < row_rank row → going_of row next ≡ Stops
going_stops row next lt = grind (arith, nat_tests)

pub going_goes : (row : Row) (next : Next) → next_rank next ≡ row_rank row → going_of row next ≡ Goes next
going_goes row next e = grind (arith, nat_tests)

pub is_next : (m : Punct) (t : Token) → IsMark m t → next_kind t.kind ≡ next_mark m
is_next m t e = ap next_kind e

pub operator_next : (operator : BinaryOp) → next_mark (operator_mark operator) ≡ BinaryNext operator
operator_next binary.Or = refl
operator_next operator = refl

pub step_next : (up : Bool) → next_mark (step_mark up) ≡ StepNext up
step_next true = refl
step_next false = refl

abbrev some_next : Option Punct → Next
some_next (Some m) = next_mark m
some_next None = EndNext

pub assignment_next : (operator : BinaryOp) (m : Punct) → assignment_mark operator ≡ Some m → next_mark m ≡ AssignOpNext operator
assignment_next binary.Or m e = sym (ap some_next e)
assignment_next binary.Xor m e = sym (ap some_next e)
assignment_next binary.And m e = sym (ap some_next e)
assignment_next binary.Shl m e = sym (ap some_next e)
assignment_next binary.Shr m e = sym (ap some_next e)
assignment_next binary.Add m e = sym (ap some_next e)
assignment_next binary.Sub m e = sym (ap some_next e)
assignment_next binary.Mul m e = sym (ap some_next e)
assignment_next binary.Div m e = sym (ap some_next e)
assignment_next binary.Rem m e = sym (ap some_next e)
assignment_next operator m e = absurd cc

-- behind a name that isn't called
pub name_start-name : (next : Next) (name : List ℕ) → next_rank next ≤ 17 → name_start next name ≡ NameStart name
name_start-name CallNext name le = absurd (omega arith)
name_start-name next name le = refl

pub sizeof_start-value : (start : Start) → start_rank start ≤ 2 → sizeof_start start ≡ SizeofValueStart
sizeof_start-value CastStart le = absurd (omega arith)
sizeof_start-value start le = refl

-- what may begin an expression is no word of a type
keyword_no_spec : (k : Keyword) (behind : Start) → start_rank (keyword_start k behind) ≤ 3 → keyword_spec k ≡ None
keyword_no_spec keyword.Sizeof behind le = refl
keyword_no_spec k behind le = absurd (omega arith)

kind_no_spec : (kind : TokenKind) (next : Next) (spec : Option SpecWord) (behind : Start) → start_rank (kind_start kind next spec behind) ≤ 3 → kind_spec kind ≡ None
kind_no_spec (token.Word k) next spec behind le = keyword_no_spec k behind le
kind_no_spec kind next spec behind le = refl

pub start_no_spec : (tokens : List Token) → start_rank (start_of tokens) ≤ 3 → spec_of tokens ≡ None
start_no_spec [] le = refl
start_no_spec (t ∷ more) le = kind_no_spec t.kind (next_of more) (spec_of more) (start_of more) le

pub spec_keyword-spec : (w : SpecWord) → keyword_spec (spec_keyword w) ≡ Some w
spec_keyword-spec word.Static = refl
spec_keyword-spec w = refl

-- a word of a type stands there
pub is_spec : (w : SpecWord) (t : Token) → IsKeyword (spec_keyword w) t → kind_spec t.kind ≡ Some w
is_spec w t e = ap kind_spec e ∙ spec_keyword-spec w

pub prefix_start : (operator : PrefixOp) (spec : Option SpecWord) → mark_start (prefix_mark operator) spec ≡ PrefixStart operator
prefix_start prefix.Address spec = refl
prefix_start operator spec = refl

pub step_start : (up : Bool) (spec : Option SpecWord) → mark_start (step_mark up) spec ≡ StepStart up
step_start true spec = refl
step_start false spec = refl

module _ (t : Token) (more : List Token) where
  pub name_starts : (name : List ℕ) → t.kind ≡ token.Name name → next_rank (next_of more) ≤ 17 → start_of (t ∷ more) ≡ NameStart name
  name_starts name e le = ap (λ k. kind_start k (next_of more) (spec_of more) (start_of more)) e ∙ name_start-name (next_of more) name le

  pub call_starts : (name : List ℕ) → t.kind ≡ token.Name name → next_of more ≡ CallNext → start_of (t ∷ more) ≡ CallStart name
  call_starts name e next = ap (λ k. kind_start k (next_of more) (spec_of more) (start_of more)) e ∙ ap (λ n. name_start n name) next

  pub number_starts : (value : ℕ) (marked decimal : Bool) → t.kind ≡ token.Number value marked decimal → start_of (t ∷ more) ≡ NumberStart value marked decimal
  number_starts value marked decimal e = ap (λ k. kind_start k (next_of more) (spec_of more) (start_of more)) e

  pub character_starts : (value : ℕ) → t.kind ≡ token.Char value → start_of (t ∷ more) ≡ CharacterStart value
  character_starts value e = ap (λ k. kind_start k (next_of more) (spec_of more) (start_of more)) e

  pub paren_starts : IsMark mark.OpenParen t → spec_of more ≡ None → start_of (t ∷ more) ≡ ParenStart
  paren_starts e none = ap (λ k. kind_start k (next_of more) (spec_of more) (start_of more)) e ∙ ap paren_start none

  pub cast_starts : (w : SpecWord) → IsMark mark.OpenParen t → spec_of more ≡ Some w → start_of (t ∷ more) ≡ CastStart
  cast_starts w e some = ap (λ k. kind_start k (next_of more) (spec_of more) (start_of more)) e ∙ ap paren_start some

  pub step_starts : (up : Bool) → IsMark (step_mark up) t → start_of (t ∷ more) ≡ StepStart up
  step_starts up e = ap (λ k. kind_start k (next_of more) (spec_of more) (start_of more)) e ∙ step_start up (spec_of more)

  pub prefix_starts : (operator : PrefixOp) → IsMark (prefix_mark operator) t → start_of (t ∷ more) ≡ PrefixStart operator
  prefix_starts operator e = ap (λ k. kind_start k (next_of more) (spec_of more) (start_of more)) e ∙ prefix_start operator (spec_of more)

  pub sizeof_value_starts : IsKeyword keyword.Sizeof t → start_rank (start_of more) ≤ 2 → start_of (t ∷ more) ≡ SizeofValueStart
  sizeof_value_starts e le = ap (λ k. kind_start k (next_of more) (spec_of more) (start_of more)) e ∙ sizeof_start-value (start_of more) le

  pub sizeof_type_starts : IsKeyword keyword.Sizeof t → start_of more ≡ CastStart → start_of (t ∷ more) ≡ SizeofTypeStart
  sizeof_type_starts e cast = ap (λ k. kind_start k (next_of more) (spec_of more) (start_of more)) e ∙ ap sizeof_start cast
