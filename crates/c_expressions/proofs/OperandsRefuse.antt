-- Where the rows of operands refuse, no reading has a tree that fits.
use Rattle.std.proofs.Common.{◌≡◌, ◌≢◌, ℕ, ◌+◌, ◌<◌, ◌≤◌, max, Bool, true, false, List, [], ◌∷◌, ◌++◌, length, Option, Some, None, refl, sym, ap, ◌∙◌, subst, arith, append_assoc}
use Rattle.std.specs.Prelude.{IsSome}
use Rattle.c_syntax.specs.declared.token.Token.{Token}
use Rattle.c_syntax.specs.declared.token.TokenKind.{TokenKind}
use Rattle.c_syntax.specs.declared.token.TokenKind.TheVariants as token
use Rattle.c_syntax.specs.declared.token.Keyword.{Keyword}
use Rattle.c_syntax.specs.declared.token.Keyword.TheVariants as keyword
use Rattle.c_syntax.specs.declared.token.Punct.{Punct}
use Rattle.c_syntax.specs.declared.token.Punct.TheVariants as mark
use Rattle.c_syntax.specs.declared.operator.BinaryOp.TheVariants as binary
use Rattle.c_syntax.specs.declared.syntax.SpecWord.{SpecWord}
use Rattle.c_syntax.specs.declared.syntax.PrefixOp.{PrefixOp}
use Rattle.c_syntax.specs.SyntaxTree.{TypeTree, Node, Index, StepAfter}
use Rattle.c_syntax.specs.Grammar.{Row, ExpressionRow, AssignmentRow, CastRow, UnaryRow, PostfixRow, PrimaryRow, step_mark, prefix_mark, IsMark, IsType, AreStars, NoStar, MoreStars, place_of}
use Rattle.c_syntax.specs.Lookahead.{Next, BinaryNext, next_of, next_kind, going_of, kind_spec, spec_of, Start, ParenStart, CastStart, StepStart, PrefixStart, SizeofValueStart, SizeofTypeStart, CallStart, sizeof_start, keyword_start, mark_start, kind_start, start_of}
use Rattle.c_syntax.specs.Reads.{Reading, reading, First, PassTo, Takes, Fails, first_of, primary_first, postfix_first, unary_first, Reads, Both, Starts, PassFirst, NameFirst, NumberFirst, CharacterFirst, ParenFirst, CallFirst, StepFirst, PrefixFirst, SizeofValueFirst, SizeofTypeFirst, CastFirst, More, ArgumentsReading, separator_of, ReadsArguments, NoneRead, SomeRead, ReadsSome, ReadsRest, LastRead, MoreRead}
use Rattle.c_syntax.specs.Measures.{expression_height, arguments_height, greatest_height}
use Rattle.c_syntax.specs.SyntaxView.{expression_of}
use Rattle.c_syntax.proofs.Parsing.Lookahead.{is_next, call_starts, paren_starts, step_starts, prefix_starts}
use Rattle.c_syntax.proofs.Parsing.Types.{NoStarNext, no_star_other, specs_one, stars_one}
use Rattle.c_syntax.proofs.Parsing.ReadsOne.{one_reading, one_start}
use Rattle.c_expressions.specs.declared.parser.Parsed.{Parsed}
use Rattle.c_cursor.specs.Front.{behind, kind_mark, kind_name, mark_at, word_at, name_at, opens_type}
use Rattle.c_expressions.specs.Operators.{step_at, prefix_at}
use Rattle.c_expressions.specs.Parses.{Climbs, AtPrimary, Up, read, IsMeasured, IsParsed, IsOperand, constant_form, constant_at, ReadsType, ReadsClosed, Opened, NoneOpened, OneOpened, NoReading, NoOperand, NoneBehind, NoArguments, NotClosed}
use Rattle.c_expressions.proofs.Words.{is_first}
use Rattle.c_expressions.proofs.Nexts.{no_unary, no_primary, step_stands, stands_by}
use Rattle.c_expressions.proofs.Firsts.{opens_cast, cast_is, sizeof_value_by, starts_by, prefix_stands, unary_passes_by}
use Rattle.c_expressions.proofs.Rows.{BehindSoFar}
use Rattle.c_expressions.proofs.Insides.{expression_some, more_higher, alone_same, stands_alone, passes_to, Indexed, index_inside, step_inside}
use Rattle.c_expressions.proofs.Parens.{last_opened, some_not_none, ParenState, Inside, Closed, closed_by}
use Rattle.c_expressions.proofs.Arguments.{ArgumentsSoFar, ArgumentsFrom, first_argument}
use Rattle.c_cursor.proofs.TakesLemmas.{kind_named, kind_worded}

-- ---- one part behind the first token

pub record HasPart (row : Row) (before : List Token) (all : Reading) : Type 0 where
  pub part : Reading
  pub reads : Reads row (behind before) part
  pub high : expression_height part.tree + 1 ≤ expression_height all.tree

module _ (row inner : Row) (depth : ℕ) (before : List Token) (has : (all : Reading) → Reads row before all → HasPart inner before all) where
  pub part_too_high : greatest_height < depth + 1 + 1 → NoReading row None depth before
  part_too_high h = record { never = λ all r f. let p = has all r in omega (arith, h, f, p.high, expression_some p.part.tree) }

  pub part_refused : NoReading inner None (depth + 1) (behind before) → NoReading row None depth before
  part_refused n = record { never = λ all r f. let p = has all r in n.never p.part p.reads (omega (arith, f, p.high)) }

step_first : (before : List Token) (up : Bool) (all : Reading) → Starts UnaryRow (Takes (StepStart up)) before all → HasPart UnaryRow before all
step_first before up all (StepFirst {o = o} m r) = record { part = o; reads = r; high = omega arith }

pub step_part : (before : List Token) (up : Bool) → step_at (mark_at before) ≡ Some up → (all : Reading) → Reads UnaryRow before all → HasPart UnaryRow before all
step_part [] up e all r = absurd cc
step_part (t ∷ more) up e all r =
    let is : IsMark (step_mark up) t = is_first t more (step_mark up) (step_stands (mark_at (t ∷ more)) up e) in
    step_first (t ∷ more) up all (subst (λ f. Starts UnaryRow f (t ∷ more) all) (ap unary_first (step_starts t more up is)) (stands_alone UnaryRow (t ∷ more) all no_unary r))

prefix_first : (before : List Token) (op : PrefixOp) (all : Reading) → Starts UnaryRow (Takes (PrefixStart op)) before all → HasPart CastRow before all
prefix_first before op all (PrefixFirst {o = o} m r) = record { part = o; reads = r; high = omega arith }

pub prefix_part : (before : List Token) (op : PrefixOp) → prefix_at (mark_at before) ≡ Some op → (all : Reading) → Reads UnaryRow before all → HasPart CastRow before all
prefix_part [] op e all r = absurd cc
prefix_part (t ∷ more) op e all r =
    let is : IsMark (prefix_mark op) t = is_first t more (prefix_mark op) (prefix_stands (mark_at (t ∷ more)) op e) in
    prefix_first (t ∷ more) op all (subst (λ f. Starts UnaryRow f (t ∷ more) all) (ap unary_first (prefix_starts t more op is)) (stands_alone UnaryRow (t ∷ more) all no_unary r))

-- ---- sizeof

value_first : (before : List Token) (all : Reading) → Starts UnaryRow (Takes SizeofValueStart) before all → HasPart UnaryRow before all
value_first before all (SizeofValueFirst {o = o} m r) = record { part = o; reads = r; high = omega arith }

-- sizeof of a type
record OfType (before : List Token) (all : Reading) : Type 0 where
  pub type : TypeTree
  pub closed : ReadsClosed (behind before) type all.rest
  pub high : 2 ≤ expression_height all.tree

type_first : (before : List Token) (all : Reading) → Starts UnaryRow (Takes SizeofTypeStart) before all → OfType before all
type_first before all (SizeofTypeFirst {u = u} a rest v {type = type} k m cut h n) = record {
  type = type;
  closed = record { opening = u; taken = a; close = v; cut = ap (λ l. u ∷ l) cut; opens = m; is = h; closes = n };
  high = omega arith;
}

sizeof_starts : (t : Token) (more : List Token) → word_at (t ∷ more) ≡ Some keyword.Sizeof → start_of (t ∷ more) ≡ sizeof_start (start_of more)
sizeof_starts t more e = starts_by t more (token.Word keyword.Sizeof) (kind_worded t.kind keyword.Sizeof e)

pub size_part : (before : List Token) → word_at before ≡ Some keyword.Sizeof → opens_type (behind before) ≡ false → (all : Reading) → Reads UnaryRow before all → HasPart UnaryRow before all
size_part [] e o all r = absurd cc
size_part (t ∷ more) e o all r =
    value_first (t ∷ more) all
    (subst (λ f. Starts UnaryRow f (t ∷ more) all) (ap unary_first (sizeof_starts t more e ∙ sizeof_value_by (start_of more) (opens_cast more ∙ o))) (stands_alone UnaryRow (t ∷ more) all no_unary r))

size_of_type : (before : List Token) → word_at before ≡ Some keyword.Sizeof → opens_type (behind before) ≡ true → (all : Reading) → Reads UnaryRow before all → OfType before all
size_of_type [] e o all r = absurd cc
size_of_type (t ∷ more) e o all r =
    type_first (t ∷ more) all
    (subst (λ f. Starts UnaryRow f (t ∷ more) all) (ap unary_first (sizeof_starts t more e ∙ ap sizeof_start (cast_is (start_of more) (opens_cast more ∙ o)))) (stands_alone UnaryRow (t ∷ more) all no_unary r))

size_high : (before : List Token) (b : Bool) → opens_type (behind before) ≡ b → word_at before ≡ Some keyword.Sizeof → (all : Reading) → Reads UnaryRow before all → 2 ≤ expression_height all.tree
size_high before true o e all r = (size_of_type before e o all r).high
size_high before false o e all r = let p = size_part before e o all r in omega (arith, p.high, expression_some p.part.tree)

pub size_too_high : (depth : ℕ) (before : List Token) → word_at before ≡ Some keyword.Sizeof → greatest_height < depth + 1 + 1 → NoReading UnaryRow None depth before
size_too_high depth before e h = record { never = λ all r f. omega (arith, h, f, size_high before (opens_type (behind before)) refl e all r) }

pub size_type_refused : (depth : ℕ) (before : List Token) → word_at before ≡ Some keyword.Sizeof → opens_type (behind before) ≡ true → NotClosed (behind before) → NoReading UnaryRow None depth before
size_type_refused depth before e o n = record { never = λ all r f. let p = size_of_type before e o all r in n.never p.type all.rest p.closed }

-- ---- a type in parentheses

stars_no_spec : (a r : List Token) (n : ℕ) → AreStars a n → spec_of r ≡ None → spec_of (a ++ r) ≡ None
stars_no_spec a r n NoStar g = g
stars_no_spec a r n (MoreStars e more) g = ap kind_spec e

no_star : (tokens : List Token) → mark_at tokens ≢ Some mark.Star → NoStarNext tokens
no_star tokens h e = h (stands_by tokens (BinaryNext binary.Mul) e refl)

type_ends : (before taken mid after : List Token) (tree other : TypeTree) (close : Token) → before ≡ taken ++ close ∷ after → IsType taken tree → IsMark mark.CloseParen close → ReadsType before other mid → mid ≡ close ∷ after
type_ends before taken mid after tree other close cut e closes r =
    let d = r.is in
    let k : d.words ++ (d.stars ++ mid) ≡ e.words ++ (e.stars ++ close ∷ after) =
    sym (append_assoc d.words d.stars mid) ∙ sym (ap (λ l. l ++ mid) d.cut) ∙ sym r.cut ∙ cut ∙ ap (λ l. l ++ close ∷ after) e.cut ∙ append_assoc e.words e.stars (close ∷ after) in
    let f = specs_one d.words e.words (d.stars ++ mid) (e.stars ++ close ∷ after) other.specs.words tree.specs.words d.are_specs e.are_specs r.whole (stars_no_spec e.stars (close ∷ after) tree.stars e.are_stars (ap kind_spec closes)) k in
    (stars_one d.stars e.stars mid (close ∷ after) other.stars tree.stars d.are_stars e.are_stars (no_star mid r.ends) (no_star_other (close ∷ after) (is_next mark.CloseParen close closes)) f.2).2

pub type_not_closed : (before mid : List Token) (tree : TypeTree) → ReadsType (behind before) tree mid → mark_at mid ≢ Some mark.CloseParen → NotClosed before
type_not_closed before mid tree r h = record {
  never = λ other after c. h (ap mark_at (type_ends (behind before) c.taken mid after other tree c.close (ap behind c.cut) c.is c.closes r) ∙ ap kind_mark c.closes);
}

-- ---- behind an operand

module _ (depth : ℕ) (left : Parsed) (before : List Token) where
  pub step_too_high : (up : Bool) → IsMeasured depth left → step_at (mark_at before) ≡ Some up → greatest_height < depth + left.height + 1 → NoneBehind left depth before
  step_too_high up m e h = record {
    never = λ all k f.
        let high = more_higher PostfixRow left.at (going_of PostfixRow (next_of (behind before))) (Node (StepAfter up (expression_of left.tree.value)) left.at) true (behind before) all (step_inside left.at (expression_of left.tree.value) left.is_unary before up all e k) in
        omega (arith, h, m.height, f, high);
  }

  index_high : (all : Reading) (i : Indexed left.at (expression_of left.tree.value) before all) → 1 + max (expression_height (expression_of left.tree.value)) (expression_height i.index.tree) ≤ expression_height all.tree
  index_high all i = more_higher PostfixRow left.at (going_of PostfixRow (next_of (behind i.index.rest))) (Node (Index (expression_of left.tree.value) i.index.tree) left.at) true (behind i.index.rest) all i.goes

  module _ (e : mark_at before ≡ Some mark.OpenBracket) where
    pub index_too_high : IsMeasured depth left → greatest_height < depth + left.height + 1 → NoneBehind left depth before
    index_too_high m h = record {
      never = λ all k f. let i = index_inside left.at (expression_of left.tree.value) left.is_unary before all e k in omega (arith, h, m.height, f, index_high all i);
    }

    pub index_refused : NoReading ExpressionRow None (depth + 1) (behind before) → NoneBehind left depth before
    index_refused n = record {
      never = λ all k f. let i = index_inside left.at (expression_of left.tree.value) left.is_unary before all e k in n.never i.index i.reads (let high = index_high all i in omega (arith, f, high));
    }

    pub index_not_closed : (index : Parsed) (mid : List Token) → IsParsed ExpressionRow None (behind before) (depth + 1) index mid → mark_at mid ≢ Some mark.CloseBracket → NoneBehind left depth before
    index_not_closed index mid r h = record {
      never = λ all k f.
          let i = index_inside left.at (expression_of left.tree.value) left.is_unary before all e k in
          h (sym (ap (λ o. mark_at o.rest) (one_reading ExpressionRow (behind before) i.index (read index mid) i.reads r.reads)) ∙ i.closes);
    }

pub behind_refused : (start : Parsed) (before : List Token) (depth : ℕ) (left : Parsed) (after : List Token) → BehindSoFar start before depth left after → NoneBehind left depth after → NoneBehind start depth before
behind_refused start before depth left after s n = record { never = λ all k f. n.never all (s.only all k) f }

-- ---- the row `unary`

climbs_primary : (at : ℕ) (first all : Reading) → Climbs PrimaryRow at first all → first ≡ all
climbs_primary at first all AtPrimary = refl
climbs_primary at first all (Up e c m) = absurd cc

climbs_postfix : (at : ℕ) (first all : Reading) → Climbs PostfixRow at first all → More PostfixRow at (going_of PostfixRow (next_of first.rest)) first.tree first.unary first.rest all
climbs_postfix at first all (Up {next = next} {mid = mid} e c m) =
    let row : next ≡ PrimaryRow = cc in
    subst (λ o. More PostfixRow at (going_of PostfixRow (next_of o.rest)) o.tree o.unary o.rest all) (sym (climbs_primary at first mid (subst (λ r. Climbs r at first mid) row c))) m

climbs_unary : (at : ℕ) (first all : Reading) → Climbs UnaryRow at first all → More PostfixRow at (going_of PostfixRow (next_of first.rest)) first.tree first.unary first.rest all
climbs_unary at first all (Up {next = next} {mid = mid} e c m) =
    let row : next ≡ PostfixRow = cc in
    subst (λ o. More PostfixRow at (going_of PostfixRow (next_of first.rest)) first.tree first.unary first.rest o) (alone_same UnaryRow at mid all no_unary m)
    (climbs_postfix at first mid (subst (λ r. Climbs r at first mid) row c))

-- from a primary that was read
pub unary_start_refused : (depth : ℕ) (start : Parsed) (before : List Token) → NoneBehind start depth before → NoReading UnaryRow (Some start) depth before
unary_start_refused depth start before n = record { never = λ all r f. n.never all (climbs_unary start.at (read start before) all r) f }

-- what stands first in the row `postfix`, and what goes on with it
record Operand (before : List Token) (all : Reading) : Type 0 where
  pub first : Reading
  pub starts : Starts PostfixRow (first_of PostfixRow (start_of before)) before first
  pub goes : More PostfixRow (place_of before) (going_of PostfixRow (next_of first.rest)) first.tree first.unary first.rest all
  pub high : expression_height first.tree ≤ expression_height all.tree

operand_of : (before : List Token) (all : Reading) → Reads PostfixRow before all → Operand before all
operand_of before all (Both {first = x} s m) = record { first = x; starts = s; goes = m; high = more_higher PostfixRow (place_of before) (going_of PostfixRow (next_of x.rest)) x.tree x.unary x.rest all m }

module _ (depth : ℕ) (before : List Token) (h : word_at before ≢ Some keyword.Sizeof) (e : step_at (mark_at before) ≡ None) (g : prefix_at (mark_at before) ≡ None) where
  unary_operand : (all : Reading) → Reads UnaryRow before all → Operand before all
  unary_operand all r = operand_of before all (passes_to UnaryRow PostfixRow before all (subst (λ f. Starts UnaryRow f before all) (unary_passes_by before h e g) (stands_alone UnaryRow before all no_unary r)))

  pub unary_no_operand : NoOperand depth before → NoReading UnaryRow None depth before
  unary_no_operand n = record { never = λ all r f. let o = unary_operand all r in n.never o.first o.starts (omega (arith, f, o.high)) }

  pub unary_none_behind : (start : Parsed) (mid : List Token) → IsOperand before depth start mid → NoneBehind start depth mid → NoReading UnaryRow None depth before
  unary_none_behind start mid s n = record {
    never = λ all r f.
        let o = unary_operand all r in
        let same = one_start PostfixRow (first_of PostfixRow (start_of before)) before o.first (read start mid) o.starts s.starts in
        n.never all
        (subst (λ a. More PostfixRow a (going_of PostfixRow (next_of mid)) (expression_of start.tree.value) start.is_unary mid all) (sym s.place)
        (subst (λ x. More PostfixRow (place_of before) (going_of PostfixRow (next_of x.rest)) x.tree x.unary x.rest all) same o.goes))
        f;
  }

-- ---- what is no primary

fails_not : (row : Row) (first : First) (before : List Token) (o : Reading) → Starts row first before o → first ≢ Fails
fails_not row first before o (PassFirst k r) e = absurd cc
fails_not row first before o (NameFirst k) e = absurd cc
fails_not row first before o (NumberFirst k) e = absurd cc
fails_not row first before o (CharacterFirst k) e = absurd cc
fails_not row first before o (ParenFirst m r n) e = absurd cc
fails_not row first before o (CallFirst k m r) e = absurd cc
fails_not row first before o (StepFirst m r) e = absurd cc
fails_not row first before o (PrefixFirst m r) e = absurd cc
fails_not row first before o (SizeofValueFirst k r) e = absurd cc
fails_not row first before o (SizeofTypeFirst a rest v k m c h n) e = absurd cc
fails_not row first before o (CastFirst a rest u m c h n r) e = absurd cc

-- no operand begins so
record NoneBegins (s : Start) : Type 0 where
  pub passes : postfix_first s ≡ PassTo PrimaryRow
  pub fails : primary_first s ≡ Fails

none_begins : (depth : ℕ) (before : List Token) → NoneBegins (start_of before) → NoOperand depth before
none_begins depth before n = record {
  never = λ all s f.
      let r = passes_to PostfixRow PrimaryRow before all (subst (λ k. Starts PostfixRow k before all) n.passes s) in
      fails_not PrimaryRow (primary_first (start_of before)) before all (stands_alone PrimaryRow before all no_primary r) n.fails;
}

pub cast_no_operand : (depth : ℕ) (before : List Token) → opens_type before ≡ true → NoOperand depth before
cast_no_operand depth before o = none_begins depth before (subst NoneBegins (sym (cast_is (start_of before) (opens_cast before ∙ o))) (record { passes = refl; fails = refl }))

sizeof_begins : (s : Start) → NoneBegins (sizeof_start s)
sizeof_begins CastStart = record { passes = refl; fails = refl }
sizeof_begins s = record { passes = refl; fails = refl }

word_begins : (k : Keyword) (s : Start) → NoneBegins (keyword_start k s)
word_begins keyword.Sizeof s = sizeof_begins s
word_begins k s = record { passes = refl; fails = refl }

mark_begins : (m : Punct) (spec : Option SpecWord) → Some m ≢ Some mark.OpenParen → NoneBegins (mark_start m spec)
mark_begins mark.OpenParen spec h = absurd (h refl)
mark_begins m spec h = record { passes = refl; fails = refl }

kind_begins : (k : TokenKind) (next : Next) (spec : Option SpecWord) (s : Start) → kind_mark k ≢ Some mark.OpenParen → kind_name k ≡ None → constant_form k ≡ None → NoneBegins (kind_start k next spec s)
kind_begins (token.Name name) next spec s h e c = absurd cc
kind_begins (token.Number value marked decimal) next spec s h e c = absurd cc
kind_begins (token.Char value) next spec s h e c = absurd cc
kind_begins (token.Word k) next spec s h e c = word_begins k s
kind_begins (token.Mark m) next spec s h e c = mark_begins m spec h

other_begins : (before : List Token) → mark_at before ≢ Some mark.OpenParen → name_at before ≡ None → constant_at before ≡ None → NoneBegins (start_of before)
other_begins [] h e c = record { passes = refl; fails = refl }
other_begins (t ∷ more) h e c = kind_begins t.kind (next_of more) (spec_of more) (start_of more) h e c

pub other_no_operand : (depth : ℕ) (before : List Token) → mark_at before ≢ Some mark.OpenParen → name_at before ≡ None → constant_at before ≡ None → NoOperand depth before
other_no_operand depth before h e c = none_begins depth before (other_begins before h e c)

-- ---- names and calls

some_not : (o : Option (List ℕ)) → IsSome o → o ≢ None
some_not (Some name) h e = absurd cc
some_not None h e = absurd cc

pub named_not : (depth : ℕ) (before : List Token) → IsSome (name_at before) → name_at before ≡ None → NoOperand depth before
named_not depth before h e = absurd (some_not (name_at before) h e)

-- the arguments of a call
record Called (before : List Token) (all : Reading) : Type 0 where
  pub arguments : ArgumentsReading
  pub reads : ReadsArguments (separator_of (behind (behind before))) (behind (behind before)) arguments
  pub high : arguments_height arguments.trees + 1 ≤ expression_height all.tree

call_first : (before : List Token) (name : List ℕ) (all : Reading) → Starts PostfixRow (Takes (CallStart name)) before all → Called before all
call_first before name all (CallFirst {o = o} k m r) = record { arguments = o; reads = r; high = omega arith }

called : (before : List Token) (name : List ℕ) (all : Reading) → name_at before ≡ Some name → mark_at (behind before) ≡ Some mark.OpenParen → Starts PostfixRow (first_of PostfixRow (start_of before)) before all → Called before all
called [] name all e h s = absurd cc
called (t ∷ []) name all e h s = absurd cc
called (t ∷ u ∷ more) name all e h s =
    let start = call_starts t (u ∷ more) name (kind_named t.kind name e) (ap next_kind (is_first u more mark.OpenParen h)) in
    call_first (t ∷ u ∷ more) name all (subst (λ f. Starts PostfixRow f (t ∷ u ∷ more) all) (ap postfix_first start) s)

pub call_refused : (depth : ℕ) (before : List Token) (name : List ℕ) → name_at before ≡ Some name → mark_at (behind before) ≡ Some mark.OpenParen → NoArguments depth (behind (behind before)) → NoOperand depth before
call_refused depth before name e h n = record { never = λ all s f. let c = called before name all e h s in n.never c.arguments c.reads (omega (arith, f, c.high)) }

-- ---- arguments

some_by : (separator : _) (before : List Token) (all : ArgumentsReading) → ReadsArguments separator before all → mark_at before ≢ Some mark.CloseParen → ReadsSome before all
some_by separator before all (NoneRead m) h = absurd (h (ap kind_mark m))
some_by separator before all (SomeRead r) h = r

rest_marked : (separator : _) (mid : List Token) (all : ArgumentsReading) → ReadsRest separator mid all → mark_at mid ≢ Some mark.Comma → mark_at mid ≢ Some mark.CloseParen → ⊥
rest_marked separator mid all (LastRead m) a b = b (ap kind_mark m)
rest_marked separator mid all (MoreRead m r) a b = a (ap kind_mark m)

module _ (depth : ℕ) (before : List Token) (h : mark_at before ≢ Some mark.CloseParen) where
  pub arguments_too_high : greatest_height < depth + 1 + 1 → NoArguments depth before
  arguments_too_high le = record {
    never = λ all r f.
        let a = first_argument before all.trees all.rest (some_by (separator_of before) before all r h) in
        omega (arith, le, f, a.high, expression_some a.first.tree);
  }

  module _ (list : _) (height : ℕ) (cursor : List Token) (s : ArgumentsSoFar before depth list height cursor) where
    next_of_all : (all : ArgumentsReading) → ReadsArguments (separator_of before) before all → ArgumentsFrom cursor all
    next_of_all all r = s.only all (some_by (separator_of before) before all r h)

    pub argument_refused : NoReading AssignmentRow None (depth + 1) cursor → NoArguments depth before
    argument_refused n = record {
      never = λ all r f.
          let from = next_of_all all r in
          let a = first_argument cursor from.trees all.rest from.reads in
          n.never a.first a.reads (omega (arith, f, from.high, a.high));
    }

    pub arguments_not_closed : (p : Parsed) (mid : List Token) → IsParsed AssignmentRow None cursor (depth + 1) p mid → mark_at mid ≢ Some mark.Comma → mark_at mid ≢ Some mark.CloseParen → NoArguments depth before
    arguments_not_closed p mid q comma close = record {
      never = λ all r f.
          let from = next_of_all all r in
          let a = first_argument cursor from.trees all.rest from.reads in
          let rest = subst (λ z. ReadsRest (separator_of z.rest) z.rest a.others) (one_reading AssignmentRow cursor a.first (read p mid) a.reads q.reads) a.behind_it in
          rest_marked (separator_of mid) mid a.others rest comma close;
    }

-- ---- parentheses

-- what stands in parentheses
record InParens (before : List Token) (all : Reading) : Type 0 where
  pub inner : Reading
  pub reads : Reads ExpressionRow (behind before) inner
  pub closes : mark_at inner.rest ≡ Some mark.CloseParen
  pub is : all ≡ reading inner.tree true (behind inner.rest)

paren_first_in : (before : List Token) (all : Reading) → Starts PrimaryRow (Takes ParenStart) before all → InParens before all
paren_first_in before all (ParenFirst {u = u} {rest = rest} {tree = tree} {unary = unary} m r n) = record { inner = reading tree unary (u ∷ rest); reads = r; closes = ap kind_mark n; is = refl }

-- a row that begins with a parenthesis begins with a primary in them
record FromParens (row : Row) (before : List Token) (all : Reading) : Type 0 where
  pub first : Reading
  pub in_parens : InParens before first
  pub climbs : Climbs row (place_of before) first all
  pub high : expression_height first.tree ≤ expression_height all.tree

mutual
  from_parens : (row : Row) (before : List Token) (all : Reading) → start_of before ≡ ParenStart → Reads row before all → FromParens row before all
  from_parens row before all e (Both {first = x} s m) = from_first row (first_of row (start_of before)) before x all e (ap (first_of row) e) s m

  from_first : (row : Row) (first : First) (before : List Token) (x all : Reading) → start_of before ≡ ParenStart → first ≡ first_of row ParenStart → Starts row first before x
      → More row (place_of before) (going_of row (next_of x.rest)) x.tree x.unary x.rest all → FromParens row before all
  from_first row first before x all e is (PassFirst {next = next} k r) m =
      let f = from_parens next before x e r in
      let high = more_higher row (place_of before) (going_of row (next_of x.rest)) x.tree x.unary x.rest all m in
      record { first = f.first; in_parens = f.in_parens; climbs = Up k f.climbs m; high = omega (arith, f.high, high) }
  from_first row first before x all e is (ParenFirst k r n) m = record {
    first = x;
    in_parens = paren_first_in before x (ParenFirst k r n);
    climbs = subst (λ o. Climbs PrimaryRow (place_of before) x o) (alone_same PrimaryRow (place_of before) x all no_primary m) AtPrimary;
    high = more_higher PrimaryRow (place_of before) (going_of PrimaryRow (next_of x.rest)) x.tree x.unary x.rest all m;
  }
  from_first row first before x all e is (NameFirst k) m = absurd cc
  from_first row first before x all e is (NumberFirst k) m = absurd cc
  from_first row first before x all e is (CharacterFirst k) m = absurd cc
  from_first row first before x all e is (CallFirst k n r) m = absurd cc
  from_first row first before x all e is (StepFirst k r) m = absurd cc
  from_first row first before x all e is (PrefixFirst k r) m = absurd cc
  from_first row first before x all e is (SizeofValueFirst k r) m = absurd cc
  from_first row first before x all e is (SizeofTypeFirst a rest v k n c h l) m = absurd cc
  from_first row first before x all e is (CastFirst a rest u k c h n r) m = absurd cc

-- each reading of the operand goes through one of the expression within its parentheses
record Within (input : List Token) (all : Reading) : Type 0 where
  pub inner : Reading
  pub reads : Reads ExpressionRow input inner
  pub closes : mark_at inner.rest ≡ Some mark.CloseParen
  pub high : expression_height inner.tree ≤ expression_height all.tree

within_parens : (row : Row) (t : Token) (input : List Token) (all : Reading) → IsMark mark.OpenParen t → spec_of input ≡ None → Reads row (t ∷ input) all → Within input all
within_parens row t input all m none r =
    let f = from_parens row (t ∷ input) all (paren_starts t input m none) r in
    record { inner = f.in_parens.inner; reads = f.in_parens.reads; closes = f.in_parens.closes; high = omega (arith, f.high, ap (λ o. expression_height o.tree) f.in_parens.is) }

paren_passes : (t : Token) (input : List Token) (all : Reading) → IsMark mark.OpenParen t → spec_of input ≡ None → Starts PostfixRow (first_of PostfixRow (start_of (t ∷ input))) (t ∷ input) all → Reads PrimaryRow (t ∷ input) all
paren_passes t input all m none s = passes_to PostfixRow PrimaryRow (t ∷ input) all (subst (λ f. Starts PostfixRow f (t ∷ input) all) (ap postfix_first (paren_starts t input m none)) s)

mutual
  within : (before : List Token) (places : List ℕ) (input : List Token) (all : Reading) → Opened before places input → 0 < length places → Starts PostfixRow (first_of PostfixRow (start_of before)) before all → Within input all
  within before places input all NoneOpened some s = absurd (omega (arith, some))
  within before places input all (OneOpened {places = outer} {t = t} {rest = rest} o m none) some s = within_last before outer t rest all o m none s

  within_last : (before : List Token) (places : List ℕ) (t : Token) (input : List Token) (all : Reading) → Opened before places (t ∷ input) → IsMark mark.OpenParen t → spec_of input ≡ None
      → Starts PostfixRow (first_of PostfixRow (start_of before)) before all → Within input all
  within_last before places t input all NoneOpened m none s = within_parens PrimaryRow t input all m none (paren_passes t input all m none s)
  within_last before places t input all (OneOpened {places = outer} {t = u} {rest = rest} o k spec) m none s =
      let w = within_last before outer u rest all o k spec s in
      let v = within_parens ExpressionRow t input w.inner m none w.reads in
      record { inner = v.inner; reads = v.reads; closes = v.closes; high = omega (arith, v.high, w.high) }

pub parens_refused : (depth : ℕ) (before : List Token) (places : List ℕ) (input : List Token) → Opened before places input → 0 < length places → NoReading ExpressionRow None depth input → NoOperand depth before
parens_refused depth before places input o some n = record { never = λ all s f. let w = within before places input all o some s in n.never w.inner w.reads (omega (arith, f, w.high)) }

pub parens_not_closed : (depth : ℕ) (before : List Token) (places left : List ℕ) (at : ℕ) (inner : Parsed) (cursor : List Token) → ParenState before depth places inner cursor → places ≡ left ++ at ∷ []
    → mark_at cursor ≢ Some mark.CloseParen → NoOperand depth before
parens_not_closed depth before places left at inner cursor (Inside input o some r m le) cut h = record {
  never = λ all s f.
      let w = within before places input all o some s in
      h (sym (ap (λ x. mark_at x.rest) (one_reading ExpressionRow input w.inner (read inner cursor) w.reads r)) ∙ w.closes);
}
parens_not_closed depth before places left at inner cursor (Closed o) cut h = absurd (some_not_none left at cut)

-- what goes on behind a closed parenthesis, within the next
pub parens_behind_refused : (depth : ℕ) (before : List Token) (places left : List ℕ) (at : ℕ) (inner : Parsed) (cursor : List Token) → ParenState before depth places inner cursor → places ≡ left ++ at ∷ []
    → 0 < length left → NoReading ExpressionRow (Some (closed_by inner at)) depth (behind cursor) → NoOperand depth before
parens_behind_refused depth before places left at inner cursor (Inside input o some r m le) cut more n = record {
  never = λ all s f.
      let l = last_opened before places input o left at cut in
      let w = within before left (l.token ∷ input) all l.opened more s in
      let p = from_parens ExpressionRow (l.token ∷ input) w.inner (paren_starts l.token input l.is l.spec) w.reads in
      let i = p.in_parens in
      let first : p.first ≡ read (closed_by inner at) (behind cursor) = i.is ∙ ap (λ x. reading x.tree true (behind x.rest)) (one_reading ExpressionRow input i.inner (read inner cursor) i.reads r) in
      n.never w.inner
      (subst (λ a. Climbs ExpressionRow a (read (closed_by inner at) (behind cursor)) w.inner) (sym l.place) (subst (λ x. Climbs ExpressionRow l.token.at x w.inner) first p.climbs))
      (omega (arith, f, w.high));
}
parens_behind_refused depth before places left at inner cursor (Closed o) cut more n = absurd (some_not_none left at cut)
