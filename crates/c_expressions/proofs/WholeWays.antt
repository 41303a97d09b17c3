-- Types and expressions that were read: what they take, and that nothing else stands there.
use Rattle.std.proofs.Common.{◌≡◌, ◌≢◌, ◌<◌, ◌≤◌, ◌∷◌, [], ℕ, List, Some, None, length, refl, sym, ap, ◌∙◌, subst, arith, length-append}
use Rattle.c_syntax.specs.declared.token.Token.{Token}
use Rattle.c_syntax.specs.declared.token.TokenKind.{TokenKind}
use Rattle.c_syntax.specs.declared.token.TokenKind.TheVariants as token
use Rattle.c_syntax.specs.declared.token.Keyword.{Keyword}
use Rattle.c_syntax.specs.declared.token.Keyword.TheVariants as keyword
use Rattle.c_syntax.specs.declared.token.Punct.{Punct}
use Rattle.c_syntax.specs.declared.token.Punct.TheVariants as mark
use Rattle.c_syntax.specs.SyntaxTree.{SpecsTree}
use Rattle.c_syntax.specs.Grammar.{Row, Derives, AreSpecs, LastSpec, MoreSpecs, AreStars}
use Rattle.c_syntax.specs.Derives.{DerivesSpecs}
use Rattle.c_syntax.specs.Lookahead.{keyword_spec, kind_spec, spec_of}
use Rattle.c_syntax.specs.Reads.{reading, Reads}
use Rattle.c_syntax.specs.SyntaxView.{expression_of}
use Rattle.c_syntax.proofs.Parsing.Begins.{expression_begins}
use Rattle.c_syntax.proofs.Parsing.ExpressionReads.{derives_read}
use Rattle.c_syntax.proofs.Parsing.ReadsDerive.{reads_derived}
use Rattle.c_syntax.proofs.Parsing.ReadsOne.{one_reading}
use Rattle.c_syntax.proofs.Parsing.Types.{specs_one}
use Rattle.c_syntax.proofs.Rows.Fronts.{StarMark, TypeWord, mark_sort, keyword_sort, kind_sort, first}
use Rattle.c_syntax.proofs.Rows.SpecsAndStars.{specs_first, stars_one}
use Rattle.c_expressions.specs.declared.parser.Parsed.{Parsed}
use Rattle.c_cursor.specs.Front.{kind_mark, mark_at}
use Rattle.c_expressions.specs.Parses.{IsParsed, NoReading, ReadsSpecs, ReadsStars, read}
use Rattle.c_cursor.specs.Takes.{Takes}
use Rattle.c_expressions.specs.Fronts.{NoFront, OnlyTo, ExpressionFront, SpecsFront, StarsFront}

-- ---- the words of a type

keyword_spec_none : (w : Keyword) → keyword_spec w ≡ None → keyword_sort w ≢ TypeWord
keyword_spec_none keyword.Static h e = cc
keyword_spec_none keyword.Void h e = cc
keyword_spec_none keyword.Char h e = cc
keyword_spec_none keyword.Short h e = cc
keyword_spec_none keyword.Int h e = cc
keyword_spec_none keyword.Signed h e = cc
keyword_spec_none keyword.Unsigned h e = cc
keyword_spec_none w h e = cc

mark_no_type : (m : Punct) → mark_sort m ≢ TypeWord
mark_no_type mark.Star e = cc
mark_no_type m e = cc

kind_spec_none : (k : TokenKind) → kind_spec k ≡ None → kind_sort k ≢ TypeWord
kind_spec_none (token.Word w) h e = keyword_spec_none w h e
kind_spec_none (token.Mark m) h e = mark_no_type m e
kind_spec_none k h e = cc

pub no_type : (r : List Token) → spec_of r ≡ None → first r ≢ TypeWord
no_type [] h e = cc
no_type (t ∷ r) h e = kind_spec_none t.kind h e

pub specs_taken : {before after : List Token} {tree : SpecsTree} → ReadsSpecs before tree after → Takes (λ taken. DerivesSpecs taken tree) before after
specs_taken r = record { taken = r.taken; cut = r.cut; is = record { words = r.are; place = r.place } }

specs_some : (tokens : List Token) (words : _) → AreSpecs tokens words → 0 < length tokens
specs_some _ _ (LastSpec h) = omega arith
specs_some _ _ (MoreSpecs h more) = omega arith

pub specs_fewer : {before after : List Token} {tree : SpecsTree} → ReadsSpecs before tree after → length after < length before
specs_fewer {after = after} {tree = tree} r = let n = ap length r.cut ∙ length-append r.taken after in let some = specs_some r.taken tree.words r.are in omega (arith, n, some)

pub specs_only : {before after : List Token} {tree : SpecsTree} → ReadsSpecs before tree after → OnlyTo SpecsFront before after
specs_only {after = after} {tree = tree} r = record { same = λ other f. (specs_one f.taken r.taken other after f.tree.words tree.words f.derives.words r.are f.follows r.ends (sym f.cut ∙ r.cut)).2 }

pub no_specs : {before : List Token} → spec_of before ≡ None → NoFront SpecsFront before
no_specs {before = before} e = record { never = λ after f. no_type before e (ap first f.cut ∙ specs_first f.taken after f.tree.words f.derives.words) }

-- ---- stars

mark_star : (m : Punct) → mark_sort m ≡ StarMark → m ≡ mark.Star
mark_star mark.Star h = refl
mark_star m h = absurd cc

no_star_word : (w : Keyword) → keyword_sort w ≡ StarMark → ⊥
no_star_word keyword.Auto h = cc
no_star_word w h = cc

kind_star : (kind : TokenKind) → kind_sort kind ≡ StarMark → kind_mark kind ≡ Some mark.Star
kind_star (token.Mark m) h = ap Some (mark_star m h)
kind_star (token.Word w) h = absurd (no_star_word w h)
kind_star (token.Name name) h = absurd cc
kind_star (token.Char value) h = absurd cc
kind_star (token.Number value marked decimal) h = absurd cc

no_star : (r : List Token) → mark_at r ≢ Some mark.Star → first r ≢ StarMark
no_star [] n e = cc
no_star (t ∷ more) n e = n (kind_star t.kind e)

pub stars_taken : {before after : List Token} {n : ℕ} → ReadsStars before n after → Takes (λ taken. AreStars taken n) before after
stars_taken r = record { taken = r.taken; cut = r.cut; is = r.are }

pub stars_fewer : {before after : List Token} {n : ℕ} → ReadsStars before n after → length after ≤ length before
stars_fewer {after = after} r = let n = ap length r.cut ∙ length-append r.taken after in omega (arith, n)

pub stars_only : {before after : List Token} {n : ℕ} → ReadsStars before n after → OnlyTo StarsFront before after
stars_only {after = after} {n = n} r = record {
  same = λ other f. (stars_one f.taken r.taken other after f.tree n f.derives r.are (no_star other f.follows) (no_star after r.ends) (sym f.cut ∙ r.cut)).rest;
}

-- ---- expressions

pub read_taken : {row : Row} {before after : List Token} {depth : ℕ} {p : Parsed} → IsParsed row None before depth p after → Takes (λ taken. Derives row taken (expression_of p.tree.value)) before after
read_taken {row = row} {before = before} {after = after} {p = p} r =
    let d = reads_derived row before (read p after) r.reads in
    record { taken = d.taken; cut = d.cut; is = d.derives }

pub read_fewer : {row : Row} {before after : List Token} {depth : ℕ} {p : Parsed} → IsParsed row None before depth p after → length after < length before
read_fewer {row = row} {before = before} {after = after} {p = p} r =
    let d = reads_derived row before (read p after) r.reads in
    let (t, more, is, h) = expression_begins row d.taken (expression_of p.tree.value) d.derives in
    let n = ap length d.cut ∙ length-append d.taken after in
    let m = ap length is in
    omega (arith, n, m)

pub read_only : {row : Row} {before after : List Token} {depth : ℕ} {p : Parsed} → IsParsed row None before depth p after → OnlyTo (ExpressionFront row depth) before after
read_only {row = row} {before = before} {after = after} {p = p} r = record {
  same = λ other f.
      let left = derives_read row f.taken f.tree f.derives in
      let reads = subst (λ l. Reads row l (reading f.tree left.unary other)) (sym f.cut) (left.ends other f.follows) in
      ap (λ o. o.rest) (one_reading row before (reading f.tree left.unary other) (read p after) reads r.reads);
}

pub not_read : {row : Row} {before : List Token} {depth : ℕ} → NoReading row None depth before → NoFront (ExpressionFront row depth) before
not_read {row = row} n = record {
  never = λ after f.
      let left = derives_read row f.taken f.tree f.derives in
      n.never (reading f.tree left.unary after) (subst (λ l. Reads row l (reading f.tree left.unary after)) (sym f.cut) (left.ends after f.follows)) f.low;
}
