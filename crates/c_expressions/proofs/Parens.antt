-- Parentheses, opened one behind another and closed one by one.
use Rattle.std.proofs.Common.{◌≡◌, ℕ, ◌+◌, ◌<◌, ◌≤◌, Bool, true, false, List, [], ◌∷◌, ◌++◌, length, Option, Some, None, refl, sym, ap, ◌∙◌, subst, arith, length-append}
use Rattle.c_syntax.specs.declared.token.Token.{Token}
use Rattle.c_syntax.specs.declared.token.TokenKind.{TokenKind}
use Rattle.c_syntax.specs.declared.token.Punct.TheVariants as mark
use Rattle.c_syntax.specs.declared.syntax.SpecWord.{SpecWord}
use Rattle.c_syntax.specs.SyntaxTree.{Expression}
use Rattle.c_syntax.specs.Grammar.{Row, ExpressionRow, CastRow, UnaryRow, PostfixRow, PrimaryRow, tighter, IsMark, place_of}
use Rattle.c_syntax.specs.Lookahead.{next_of, going_of, spec_of, Start, ParenStart, paren_start, kind_start, start_of}
use Rattle.c_syntax.specs.Reads.{Reading, reading, or_primary, PassTo, Takes, first_of, postfix_first, primary_first, Reads, Both, Starts, PassFirst, ParenFirst, More, Stop}
use Rattle.c_syntax.specs.SyntaxView.{expression_of}
use Rattle.c_expressions.specs.declared.parser.Parsed.{Parsed}
use Rattle.c_cursor.specs.Front.{behind, kind_mark, mark_at, is_open, is_there, opens, opens_type}
use Rattle.c_expressions.specs.Parses.{Climbs, AtPrimary, Up, read, IsMeasured, IsParsed, IsOperand, Opened, NoneOpened, OneOpened}
use Rattle.c_expressions.proofs.Words.{is_first, behind_shorter}
use Rattle.c_expressions.proofs.Nexts.{no_primary}

-- ---- what stands first alone

pub alone : (row : Row) (before : List Token) (o : Reading) → Starts row (first_of row (start_of before)) before o → going_of row (next_of o.rest) ≡ going_of PrimaryRow (next_of o.rest) → Reads row before o
alone row before o s e = Both s (subst (λ g. More row (place_of before) g o.tree o.unary o.rest o) (sym (e ∙ no_primary (next_of o.rest))) Stop)

-- a primary at the front of the row `postfix`
pub operand_by : (before : List Token) (s : Start) (o : Reading) → start_of before ≡ s → postfix_first s ≡ PassTo PrimaryRow → primary_first s ≡ Takes s → Starts PrimaryRow (Takes s) before o
    → Starts PostfixRow (first_of PostfixRow (start_of before)) before o
operand_by before s o e p q r =
    subst (λ f. Starts PostfixRow f before o) (sym (ap postfix_first e ∙ p))
    (PassFirst refl (alone PrimaryRow before o (subst (λ f. Starts PrimaryRow f before o) (sym (ap primary_first e ∙ q)) r) refl))

-- ---- rows round a parenthesis

paren_first : (row next : Row) → tighter row ≡ Some next → first_of row ParenStart ≡ PassTo next
paren_first CastRow next e = ap PassTo (ap or_primary e)
paren_first UnaryRow next e = ap PassTo (ap or_primary e)
paren_first PostfixRow next e = ap PassTo (ap or_primary e)
paren_first PrimaryRow next e = absurd cc
paren_first row next e = ap PassTo (ap or_primary e)

-- what a primary in parentheses goes on to is read
pub climbs_reads : (row : Row) (input : List Token) (at : ℕ) (first all : Reading) → start_of input ≡ ParenStart → at ≡ place_of input → Reads PrimaryRow input first → Climbs row at first all → Reads row input all
climbs_reads row input at first all start place r AtPrimary = r
climbs_reads row input at first all start place r (Up {next = next} {mid = mid} e c m) =
    Both (subst (λ f. Starts row f input mid) (sym (ap (first_of row) start ∙ paren_first row next e)) (PassFirst e (climbs_reads next input at first mid start place r c)))
    (subst (λ p. More row p (going_of row (next_of mid.rest)) mid.tree mid.unary mid.rest all) place m)

-- ---- opening

no_spec : (o : Option SpecWord) → is_there o ≡ false → o ≡ None
no_spec (Some w) e = absurd cc
no_spec None e = refl

no_type : (kind : TokenKind) (spec : Option SpecWord) → kind_mark kind ≡ Some mark.OpenParen → opens (is_open (kind_mark kind)) (is_there spec) ≡ false → spec ≡ None
no_type kind spec m e = no_spec spec (ap (λ o. opens (is_open o) (is_there spec)) (sym m) ∙ e)

pub opened_more : (before : List Token) (places : List ℕ) (tokens : List Token) (at : ℕ) → Opened before places tokens → mark_at tokens ≡ Some mark.OpenParen → opens_type tokens ≡ false → (0 < length tokens → at ≡ place_of tokens)
    → Opened before (places ++ at ∷ []) (behind tokens)
opened_more before places [] at o m e p = absurd cc
opened_more before places (t ∷ more) at o m e p =
    subst (λ a. Opened before (places ++ a ∷ []) more) (sym (p (omega arith))) (OneOpened o (is_first t more mark.OpenParen m) (no_type t.kind (spec_of more) m e))

pub opened_length : (before : List Token) (places : List ℕ) (after : List Token) → Opened before places after → length places + length after ≡ length before
opened_length before places after NoneOpened = omega arith
opened_length before places after (OneOpened {places = qs} {t = t} {rest = rest} o m e) = omega (arith, opened_length before qs (t ∷ rest) o, length-append qs (t.at ∷ []))

pub some_not_none : (b : List ℕ) (y : ℕ) → [] ≡ b ++ y ∷ [] → ⊥
some_not_none [] y e = absurd cc
some_not_none (b ∷ bs) y e = absurd cc

snoc_same : (a b : List ℕ) (x y : ℕ) → a ++ x ∷ [] ≡ b ++ y ∷ [] → (a ≡ b) × (x ≡ y)
snoc_same [] [] x y e = (refl, cc)
snoc_same [] (b ∷ bs) x y e = let k : [] ≡ bs ++ y ∷ [] = cc in absurd (some_not_none bs y k)
snoc_same (a ∷ as_) [] x y e = let k : [] ≡ as_ ++ x ∷ [] = cc in absurd (some_not_none as_ x k)
snoc_same (a ∷ as_) (b ∷ bs) x y e =
    let k : as_ ++ x ∷ [] ≡ bs ++ y ∷ [] = cc in
    let h : a ≡ b = cc in
    let r = snoc_same as_ bs x y k in
    (ap (λ z. z ∷ as_) h ∙ ap (λ l. b ∷ l) r.0, r.1)

pub record LastOpened (before : List Token) (places : List ℕ) (at : ℕ) (after : List Token) : Type 0 where
  pub token : Token
  pub opened : Opened before places (token ∷ after)
  pub is : IsMark mark.OpenParen token
  pub spec : spec_of after ≡ None
  pub place : at ≡ token.at

pub last_opened : (before : List Token) (all : List ℕ) (after : List Token) → Opened before all after → (places : List ℕ) (at : ℕ) → all ≡ places ++ at ∷ [] → LastOpened before places at after
last_opened before all after NoneOpened places at e = absurd (some_not_none places at e)
last_opened before all after (OneOpened {places = qs} {t = t} o m s) places at e =
    let k = snoc_same qs places t.at at e in
    record { token = t; opened = subst (λ l. Opened before l (t ∷ after)) k.0 o; is = m; spec = s; place = sym k.1 }

-- ---- closing

-- some are open round what was read, or all are closed
pub data ParenState (before : List Token) (depth : ℕ) : List ℕ → Parsed → List Token → Type 0 where
  Inside : {places : List ℕ} {inner : Parsed} {cursor : List Token} (input : List Token) → Opened before places input → 0 < length places → Reads ExpressionRow input (read inner cursor) → IsMeasured depth inner
      → length cursor ≤ length input → ParenState before depth places inner cursor
  Closed : {inner : Parsed} {cursor : List Token} → IsOperand before depth inner cursor → ParenState before depth [] inner cursor

pub parens_begin : (before : List Token) (depth : ℕ) (places : List ℕ) (input : List Token) (inner : Parsed) (cursor : List Token) → Opened before places input → 0 < length places → IsParsed ExpressionRow None input depth inner cursor
    → ParenState before depth places inner cursor
parens_begin before depth places input inner cursor o some r = Inside input o some r.reads r.measured r.shorter

pub parens_measured : (before : List Token) (depth : ℕ) (places : List ℕ) (inner : Parsed) (cursor : List Token) → ParenState before depth places inner cursor → IsMeasured depth inner
parens_measured before depth places inner cursor (Inside input o some r m le) = m
parens_measured before depth places inner cursor (Closed o) = o.measured

pub parens_fewer : (before : List Token) (depth : ℕ) (places : List ℕ) (inner : Parsed) (cursor : List Token) → ParenState before depth places inner cursor → 0 < length places → length cursor < length before
parens_fewer before depth places inner cursor (Inside input o some r m le) h = omega (arith, opened_length before places input o, le, some)
parens_fewer before depth places inner cursor (Closed o) h = absurd (omega (arith, h))

pub parens_done : (before : List Token) (depth : ℕ) (places : List ℕ) (inner : Parsed) (cursor : List Token) → ParenState before depth places inner cursor → length places ≡ 0 → IsOperand before depth inner cursor
parens_done before depth places inner cursor (Inside input o some r m le) h = absurd (omega (arith, some, h))
parens_done before depth places inner cursor (Closed o) h = o

-- what stands in parentheses, as it is closed
abbrev pub closed_by : Parsed → ℕ → Parsed
closed_by inner at = record { tree = inner.tree; height = inner.height; at = at; is_unary = true }

paren_start_at : (t : Token) (more : List Token) → IsMark mark.OpenParen t → spec_of more ≡ None → start_of (t ∷ more) ≡ ParenStart
paren_start_at t more e none = ap (λ k. kind_start k (next_of more) (spec_of more) (start_of more)) e ∙ ap paren_start none

paren_takes : (t : Token) (input cursor : List Token) (tree : Expression) (unary : Bool) → IsMark mark.OpenParen t → Reads ExpressionRow input (reading tree unary cursor) → mark_at cursor ≡ Some mark.CloseParen
    → Starts PrimaryRow (Takes ParenStart) (t ∷ input) (reading tree true (behind cursor))
paren_takes t input [] tree unary m r e = absurd cc
paren_takes t input (u ∷ rest) tree unary m r e = ParenFirst m r (is_first u rest mark.CloseParen e)

-- with more of them open
goes_on : (before : List Token) (depth : ℕ) (places : List ℕ) (at : ℕ) (inner : Parsed) (input cursor : List Token) (p : Parsed) (after : List Token) → LastOpened before places at input → Reads ExpressionRow input (read inner cursor)
    → mark_at cursor ≡ Some mark.CloseParen → 0 < length places → length cursor ≤ length input → IsParsed ExpressionRow (Some (closed_by inner at)) (behind cursor) depth p after → ParenState before depth places p after
goes_on before depth places at inner input cursor p after l r e some le q =
    let start = paren_start_at l.token input l.is l.spec in
    let takes = paren_takes l.token input cursor (expression_of inner.tree.value) inner.is_unary l.is r e in
    let primary = alone PrimaryRow (l.token ∷ input) (reading (expression_of inner.tree.value) true (behind cursor)) (subst (λ f. Starts PrimaryRow f (l.token ∷ input) (reading (expression_of inner.tree.value) true (behind cursor))) (sym (ap primary_first start)) takes) refl in
    Inside (l.token ∷ input) l.opened some (climbs_reads ExpressionRow (l.token ∷ input) at (reading (expression_of inner.tree.value) true (behind cursor)) (read p after) start l.place primary q.reads) q.measured
    (let k = q.shorter in omega (arith, le, behind_shorter cursor))

pub parens_more : (before : List Token) (depth : ℕ) (all places : List ℕ) (at : ℕ) (inner : Parsed) (cursor : List Token) (p : Parsed) (after : List Token) → ParenState before depth all inner cursor → all ≡ places ++ at ∷ []
    → mark_at cursor ≡ Some mark.CloseParen → 0 < length places → IsParsed ExpressionRow (Some (closed_by inner at)) (behind cursor) depth p after → ParenState before depth places p after
parens_more before depth all places at inner cursor p after (Inside input o some r m le) cut e h q = goes_on before depth places at inner input cursor p after (last_opened before all input o places at cut) r e h le q
parens_more before depth all places at inner cursor p after (Closed o) cut e h q = absurd (some_not_none places at cut)

-- with none
closes : (before : List Token) (depth : ℕ) (places : List ℕ) (at : ℕ) (inner : Parsed) (input cursor : List Token) (t : Token) → Opened before places (t ∷ input) → IsMark mark.OpenParen t → spec_of input ≡ None → at ≡ t.at
    → Reads ExpressionRow input (read inner cursor) → mark_at cursor ≡ Some mark.CloseParen → length places ≡ 0 → length cursor ≤ length input → IsMeasured depth inner → IsOperand before depth (closed_by inner at) (behind cursor)
closes before depth places at inner input cursor t NoneOpened is spec place r e none le m =
    let start = paren_start_at t input is spec in
    record {
      starts = operand_by (t ∷ input) ParenStart (reading (expression_of inner.tree.value) true (behind cursor)) start refl refl (paren_takes t input cursor (expression_of inner.tree.value) inner.is_unary is r e);
      place = place;
      measured = record { height = m.height; fits = m.fits };
      shorter = omega (arith, le, behind_shorter cursor);
    }
closes before depth places at inner input cursor t (OneOpened {places = qs} {t = u} o k s) is spec place r e none le m = absurd (omega (arith, none, length-append qs (u.at ∷ [])))

none_left : (places : List ℕ) → length places ≡ 0 → places ≡ []
none_left [] e = refl
none_left (p ∷ places) e = absurd (omega (arith, e))

pub parens_close : (before : List Token) (depth : ℕ) (all places : List ℕ) (at : ℕ) (inner : Parsed) (cursor : List Token) → ParenState before depth all inner cursor → all ≡ places ++ at ∷ []
    → mark_at cursor ≡ Some mark.CloseParen → length places ≡ 0 → ParenState before depth places (closed_by inner at) (behind cursor)
parens_close before depth all places at inner cursor (Inside input o some r m le) cut e none =
    let l = last_opened before all input o places at cut in
    subst (λ ps. ParenState before depth ps (closed_by inner at) (behind cursor)) (sym (none_left places none)) (Closed (closes before depth places at inner input cursor l.token l.opened l.is l.spec l.place r e none le m))
parens_close before depth all places at inner cursor (Closed o) cut e none = absurd (some_not_none places at cut)
