-- The arguments of a call, read one by one.
use Rattle.std.proofs.Common.{◌≡◌, ◌≢◌, ℕ, ◌+◌, ◌<◌, ◌≤◌, max, List, [], ◌∷◌, ◌++◌, length, Some, None, refl, sym, ap, ◌∙◌, subst, arith}
use Rattle.c_syntax.specs.declared.token.Token.{Token}
use Rattle.c_syntax.specs.declared.token.TokenKind.{TokenKind}
use Rattle.c_syntax.specs.declared.token.TokenKind.TheVariants as token
use Rattle.c_syntax.specs.declared.token.Punct.TheVariants as mark
use Rattle.c_syntax.specs.declared.expr.Expr.{Expr}
use Rattle.c_syntax.specs.SyntaxTree.{Expressions, no_argument, argument}
use Rattle.c_syntax.specs.Grammar.{Row, AssignmentRow, CastRow, UnaryRow, PostfixRow, PrimaryRow, IsMark}
use Rattle.c_syntax.specs.Lookahead.{NoStart, next_of, spec_of, kind_start, start_of}
use Rattle.c_syntax.specs.Reads.{Reading, First, first_of, Reads, Both, Starts, PassFirst, NameFirst, NumberFirst, CharacterFirst, ParenFirst, CallFirst, StepFirst, PrefixFirst, SizeofValueFirst, SizeofTypeFirst, CastFirst, ArgumentsReading, listed, CommaHere, CloseHere, OtherHere, separator_kind, separator_of, ReadsArguments, NoneRead, SomeRead, ReadsSome, OneRead, ReadsRest, LastRead, MoreRead}
use Rattle.c_syntax.specs.Measures.{expression_height, arguments_height, greatest_height}
use Rattle.c_syntax.specs.SyntaxView.{expression_of, trees_of}
use Rattle.c_syntax.proofs.Parsing.ReadsOne.{one_reading}
use Rattle.c_expressions.specs.declared.parser.Parsed.{Parsed}
use Rattle.c_expressions.specs.declared.parser.Arguments.{Arguments}
use Rattle.c_cursor.specs.Front.{behind, kind_mark, mark_at}
use Rattle.c_expressions.specs.Parses.{read, IsParsed, AreRead}
use Rattle.c_expressions.proofs.Words.{is_first, behind_shorter}

-- ---- nothing is read where nothing begins

mutual
  nothing_read : (row : Row) (input : List Token) (o : Reading) → Reads row input o → start_of input ≡ NoStart → ⊥
  nothing_read row input o (Both {first = x} s m) e = nothing_starts row (first_of row (start_of input)) input x s e refl

  nothing_starts : (row : Row) (first : First) (input : List Token) (o : Reading) → Starts row first input o → start_of input ≡ NoStart → first ≡ first_of row (start_of input) → ⊥
  nothing_starts row first input o (PassFirst {next = next} k r) e is = nothing_read next input o r e
  nothing_starts row first input o (NameFirst k) e is = let bad = is ∙ ap (first_of PrimaryRow) e in absurd cc
  nothing_starts row first input o (NumberFirst k) e is = let bad = is ∙ ap (first_of PrimaryRow) e in absurd cc
  nothing_starts row first input o (CharacterFirst k) e is = let bad = is ∙ ap (first_of PrimaryRow) e in absurd cc
  nothing_starts row first input o (ParenFirst m r n) e is = let bad = is ∙ ap (first_of PrimaryRow) e in absurd cc
  nothing_starts row first input o (CallFirst k m r) e is = let bad = is ∙ ap (first_of PostfixRow) e in absurd cc
  nothing_starts row first input o (StepFirst m r) e is = let bad = is ∙ ap (first_of UnaryRow) e in absurd cc
  nothing_starts row first input o (PrefixFirst m r) e is = let bad = is ∙ ap (first_of UnaryRow) e in absurd cc
  nothing_starts row first input o (SizeofValueFirst k r) e is = let bad = is ∙ ap (first_of UnaryRow) e in absurd cc
  nothing_starts row first input o (SizeofTypeFirst a rest v k m c h n) e is = let bad = is ∙ ap (first_of UnaryRow) e in absurd cc
  nothing_starts row first input o (CastFirst a rest u m c h n r) e is = let bad = is ∙ ap (first_of CastRow) e in absurd cc

-- ---- what stands where an argument has ended

separator_closes : (tokens : List Token) → mark_at tokens ≡ Some mark.CloseParen → separator_of tokens ≡ CloseHere
separator_closes [] e = absurd cc
separator_closes (t ∷ more) e = ap separator_kind (is_first t more mark.CloseParen e)

separator_goes : (tokens : List Token) → mark_at tokens ≡ Some mark.Comma → separator_of tokens ≡ CommaHere
separator_goes [] e = absurd cc
separator_goes (t ∷ more) e = ap separator_kind (is_first t more mark.Comma e)

comma_starts : (t : Token) (more : List Token) → IsMark mark.Comma t → start_of (t ∷ more) ≡ NoStart
comma_starts t more e = ap (λ k. kind_start k (next_of more) (spec_of more) (start_of more)) e

-- an argument begins with neither
other_kind : (k : TokenKind) → kind_mark k ≢ Some mark.CloseParen → kind_mark k ≢ Some mark.Comma → separator_kind k ≡ OtherHere
other_kind (token.Mark mark.CloseParen) a b = absurd (a refl)
other_kind (token.Mark mark.Comma) a b = absurd (b refl)
other_kind (token.Mark m) a b = refl
other_kind k a b = refl

separator_other : (tokens : List Token) (o : Reading) → Reads AssignmentRow tokens o → mark_at tokens ≢ Some mark.CloseParen → separator_of tokens ≡ OtherHere
separator_other [] o r h = refl
separator_other (t ∷ more) o r h = other_kind t.kind h (λ e. nothing_read AssignmentRow (t ∷ more) o r (comma_starts t more (is_first t more mark.Comma e)))

-- ---- arguments in a row

abbrev pub onto : List Expr → Expressions → Expressions
onto [] trees = trees
onto (e ∷ more) trees = argument (expression_of e) (onto more trees)

onto_none : (list : List Expr) → onto list no_argument ≡ trees_of list
onto_none [] = refl
onto_none (e ∷ more) = ap (argument (expression_of e)) (onto_none more)

onto_more : (list : List Expr) (e : Expr) (trees : Expressions) → onto (list ++ e ∷ []) trees ≡ onto list (argument (expression_of e) trees)
onto_more [] e trees = refl
onto_more (x ∷ more) e trees = ap (argument (expression_of x)) (onto_more more e trees)

height_more : (list : List Expr) (e : Expr) → arguments_height (trees_of (list ++ e ∷ [])) ≡ max (arguments_height (trees_of list)) (expression_height (expression_of e))
height_more [] e = omega arith
height_more (x ∷ more) e = let k = height_more more e in omega (arith, k)

-- the arguments of which some are read, with those that are left
pub record ArgumentsFrom (cursor : List Token) (all : ArgumentsReading) : Type 0 where
  pub trees : Expressions
  pub reads : ReadsSome cursor (listed trees all.rest)
  pub high : arguments_height trees ≤ arguments_height all.trees

-- what was read of a call's arguments before the next one
pub record ArgumentsSoFar (before : List Token) (depth : ℕ) (list : List Expr) (height : ℕ) (cursor : List Token) : Type 0 where
  pub goes : (trees : Expressions) (rest : List Token) → ReadsSome cursor (listed trees rest) → ReadsSome before (listed (onto list trees) rest)
  pub only : (all : ArgumentsReading) → ReadsSome before all → ArgumentsFrom cursor all
  pub height_is : height ≡ arguments_height (trees_of list)
  pub fits : depth + height + 1 ≤ greatest_height
  pub shorter : length cursor ≤ length before

pub arguments_begin : (before : List Token) (depth : ℕ) → depth + 1 ≤ greatest_height → ArgumentsSoFar before depth [] 0 before
arguments_begin before depth le = record { goes = λ trees rest r. r; only = λ all r. record { trees = all.trees; reads = r; high = omega arith }; height_is = refl; fits = omega arith; shorter = omega arith }

-- one more, before a comma
rest_goes : (mid : List Token) (all : ArgumentsReading) → mark_at mid ≡ Some mark.Comma → ReadsSome (behind mid) all → ReadsRest (separator_of mid) mid all
rest_goes [] all e r = absurd cc
rest_goes (t ∷ more) all e r = subst (λ s. ReadsRest s (t ∷ more) all) (sym (separator_goes (t ∷ more) e)) (MoreRead (is_first t more mark.Comma e) r)

rest_ends : (mid : List Token) → mark_at mid ≡ Some mark.CloseParen → ReadsRest (separator_of mid) mid (listed no_argument (behind mid))
rest_ends [] e = absurd cc
rest_ends (t ∷ more) e = subst (λ s. ReadsRest s (t ∷ more) (listed no_argument more)) (sym (separator_closes (t ∷ more) e)) (LastRead (is_first t more mark.CloseParen e))

-- an argument, and what stands behind it
pub record FirstArgument (cursor : List Token) (trees : Expressions) (rest : List Token) : Type 0 where
  pub first : Reading
  pub others : ArgumentsReading
  pub reads : Reads AssignmentRow cursor first
  pub behind_it : ReadsRest (separator_of first.rest) first.rest others
  pub high : expression_height first.tree ≤ arguments_height trees
  pub others_high : arguments_height others.trees ≤ arguments_height trees
  pub same_rest : others.rest ≡ rest

pub first_argument : (cursor : List Token) (trees : Expressions) (rest : List Token) → ReadsSome cursor (listed trees rest) → FirstArgument cursor trees rest
first_argument cursor trees rest (OneRead {o = o} {all = others} r s) = record { first = o; others = others; reads = r; behind_it = s; high = omega arith; others_high = omega arith; same_rest = refl }

rest_some : (mid : List Token) (others : ArgumentsReading) → ReadsRest CommaHere mid others → ReadsSome (behind mid) others
rest_some mid others (MoreRead m r) = r

arguments_behind : (cursor : List Token) (o : Reading) (trees : Expressions) (all : ArgumentsReading) → Reads AssignmentRow cursor o → ReadsSome cursor (listed trees all.rest) → arguments_height trees ≤ arguments_height all.trees
    → mark_at o.rest ≡ Some mark.Comma → ArgumentsFrom (behind o.rest) all
arguments_behind cursor o trees all q r high e =
    let f = first_argument cursor trees all.rest r in
    let here = subst (λ z. ReadsRest (separator_of z.rest) z.rest f.others) (one_reading AssignmentRow cursor f.first o f.reads q) f.behind_it in
    let some = rest_some o.rest f.others (subst (λ s. ReadsRest s o.rest f.others) (separator_goes o.rest e) here) in
    record { trees = f.others.trees; reads = subst (λ l. ReadsSome (behind o.rest) (listed f.others.trees l)) f.same_rest some; high = omega (arith, high, f.others_high) }

module _ (before : List Token) (depth : ℕ) (list : List Expr) (height : ℕ) (cursor : List Token) (p : Parsed) (mid : List Token) (s : ArgumentsSoFar before depth list height cursor) (q : IsParsed AssignmentRow None cursor (depth + 1) p mid) where
  more_height : max height p.height ≡ arguments_height (trees_of (list ++ p.tree.value ∷ []))
  more_height = ap (λ h. max h p.height) s.height_is ∙ ap (λ h. max (arguments_height (trees_of list)) h) q.measured.height ∙ sym (height_more list p.tree.value)

  more_fits : depth + max height p.height + 1 ≤ greatest_height
  more_fits = let k = s.fits in let j = q.measured.fits in omega arith

  pub arguments_more : mark_at mid ≡ Some mark.Comma → ArgumentsSoFar before depth (list ++ p.tree.value ∷ []) (max height p.height) (behind mid)
  arguments_more e = record {
    goes = λ trees rest r. subst (λ t. ReadsSome before (listed t rest)) (sym (onto_more list p.tree.value trees)) (s.goes (argument (expression_of p.tree.value) trees) rest (OneRead q.reads (rest_goes mid (listed trees rest) e r)));
    only = λ all r. let from = s.only all r in arguments_behind cursor (read p mid) from.trees all q.reads from.reads from.high e;
    height_is = more_height;
    fits = more_fits;
    shorter = let k = s.shorter in let j = q.shorter in omega (arith, behind_shorter mid);
  }

  arguments_some : mark_at mid ≡ Some mark.CloseParen → ReadsSome before (listed (trees_of (list ++ p.tree.value ∷ [])) (behind mid))
  arguments_some e =
      subst (λ t. ReadsSome before (listed t (behind mid))) (sym (onto_more list p.tree.value no_argument) ∙ onto_none (list ++ p.tree.value ∷ []))
      (s.goes (argument (expression_of p.tree.value) no_argument) (behind mid) (OneRead q.reads (rest_ends mid e)))

  pub arguments_end : (a : Arguments) → a.list.items ≡ list ++ p.tree.value ∷ [] → a.height ≡ max height p.height → mark_at mid ≡ Some mark.CloseParen → separator_of before ≡ OtherHere → AreRead before depth a (behind mid)
  arguments_end a items high e other = record {
    reads = subst (λ g. ReadsArguments g before (listed (trees_of a.list.items) (behind mid))) (sym other)
        (SomeRead (subst (λ l. ReadsSome before (listed (trees_of l) (behind mid))) (sym items) (arguments_some e)));
    height = high ∙ more_height ∙ ap (λ l. arguments_height (trees_of l)) (sym items);
    fits = let k = more_fits in omega (arith, high);
    shorter = let k = s.shorter in let j = q.shorter in omega (arith, behind_shorter mid);
  }

some_other : (before : List Token) (o : ArgumentsReading) → ReadsSome before o → mark_at before ≢ Some mark.CloseParen → separator_of before ≡ OtherHere
some_other before o (OneRead {o = x} r s) h = separator_other before x r h

pub arguments_done : (before : List Token) (depth : ℕ) (list : List Expr) (height : ℕ) (cursor : List Token) (p : Parsed) (mid : List Token) (a : Arguments) → ArgumentsSoFar before depth list height cursor
    → IsParsed AssignmentRow None cursor (depth + 1) p mid → mark_at before ≢ Some mark.CloseParen → mark_at mid ≡ Some mark.CloseParen → a.list.items ≡ list ++ p.tree.value ∷ [] → a.height ≡ max height p.height → AreRead before depth a (behind mid)
arguments_done before depth list height cursor p mid a s q h e items high =
    arguments_end before depth list height cursor p mid s q a items high e (some_other before _ (arguments_some before depth list height cursor p mid s q e) h)

pub arguments_none : (before : List Token) (depth : ℕ) (a : Arguments) → mark_at before ≡ Some mark.CloseParen → a.list.items ≡ [] → a.height ≡ 0 → depth < greatest_height → AreRead before depth a (behind before)
arguments_none [] depth a e items high le = absurd cc
arguments_none (t ∷ more) depth a e items high le = record {
  reads = subst (λ l. ReadsArguments (separator_of (t ∷ more)) (t ∷ more) (listed (trees_of l) more)) (sym items)
      (subst (λ s. ReadsArguments s (t ∷ more) (listed no_argument more)) (sym (separator_closes (t ∷ more) e)) (NoneRead (is_first t more mark.CloseParen e)));
  height = high ∙ ap (λ l. arguments_height (trees_of l)) (sym items);
  fits = omega (arith, high);
  shorter = omega arith;
}
