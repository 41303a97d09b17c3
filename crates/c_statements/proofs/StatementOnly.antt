-- Parts that end by themselves are the only ones at their front.
use Rattle.std.proofs.Common.{◌≡◌, ◌++◌, ◌∷◌, [], ℕ, List, Option, refl, inl, inr, sym, ap, ◌∙◌, append_assoc}
use Rattle.std.specs.Prelude.{◌⊎◌, true, false}
use Rattle.c_syntax.specs.declared.token.Token.{Token}
use Rattle.c_syntax.specs.declared.token.Punct.{Punct}
use Rattle.c_syntax.specs.declared.token.Punct.TheVariants as mark
use Rattle.c_syntax.specs.SyntaxTree.{Expression, DeclarationTree, Statement}
use Rattle.c_syntax.specs.Grammar.{ExpressionRow, IsMark}
use Rattle.c_syntax.specs.Derives.{DerivesOptional, IsForHead, DerivesDeclaration}
use Rattle.c_syntax.proofs.Rows.Fronts.{mark_sort, same_tail}
use Rattle.c_syntax.proofs.Rows.Given.{may_begin, may_end, optional_one, mark_first}
use Rattle.c_syntax.proofs.Rows.Declarations.{declaration_one}
use Rattle.c_syntax.proofs.Rows.Statements.{for_head_one}
use Rattle.c_syntax.proofs.Rows.Blocks.{statement_one}
use Rattle.c_syntax.proofs.Rows.UnitOne.{known}
use Rattle.c_cursor.specs.Takes.{Takes, IsOne, Both}
use Rattle.c_statements.specs.StatementRows.{IsStatement}
use Rattle.c_expressions.specs.Fronts.{OnlyTo}
use Rattle.c_declarations.specs.DeclarationFronts.{DeclarationFront}
use Rattle.c_statements.specs.StatementFronts.{StatementFront, OptionalFront, ForHeadFront}
use Rattle.c_cursor.proofs.TakesLemmas.{one_behind}
use Rattle.c_statements.proofs.StatementTokens.{fits_ends}

pub statement_only : {depth : ℕ} {x : Statement} {b e : List Token} → Takes (IsStatement x e) b e → OnlyTo (StatementFront depth) b e
statement_only {x = x} {e = e} r = record {
  same = λ after f. ((statement_one known f.front.derives).same r.is.closing r.taken after e x r.is.derives
      (fits_ends f.closing after f.front.follows) (fits_ends r.is.closing e r.is.ends) (sym f.front.cut ∙ r.cut)).rest;
}

pub declaration_only : {depth : ℕ} {x : DeclarationTree} {b e : List Token} → Takes (λ all. DerivesDeclaration all x) b e → OnlyTo (DeclarationFront depth) b e
declaration_only {x = x} {e = e} r = record { same = λ after f. (declaration_one known f.taken r.taken after e f.tree x f.derives r.is (sym f.cut ∙ r.cut)).rest }

-- a mark that an optional expression may stand before
abbrev pub Stops : Punct → Type 0
Stops m = (may_begin (mark_sort m) ≡ false) × (may_end ExpressionRow (mark_sort m) ≡ true)

pub stops : (m : Punct) → (m ≡ mark.Semicolon) ⊎ (m ≡ mark.CloseParen) → Stops m
stops m (inl e) = (ap (λ k. may_begin (mark_sort k)) e, ap (λ k. may_end ExpressionRow (mark_sort k)) e)
stops m (inr e) = (ap (λ k. may_begin (mark_sort k)) e, ap (λ k. may_end ExpressionRow (mark_sort k)) e)

-- the expression before the mark, and the mark
marked : (x : Option Expression) {m : Punct} {b a : List Token} (after : List Token) (r : Both (λ l. DerivesOptional ExpressionRow l x) (IsOne (IsMark m)) a) → b ≡ a ++ after → b ≡ r.front ++ (r.second.t ∷ after)
marked x after r cut = cut ∙ ap (λ l. l ++ after) (one_behind r) ∙ append_assoc r.front (r.second.t ∷ []) after

pub optional_only : {depth : ℕ} (x : Option Expression) {m : Punct} {b e : List Token} → (m ≡ mark.Semicolon) ⊎ (m ≡ mark.CloseParen)
    → Takes (Both (λ a. DerivesOptional ExpressionRow a x) (IsOne (IsMark m))) b e → OnlyTo (OptionalFront m depth) b e
optional_only x {m = m} {e = e} is r = record {
  same = λ after f.
      let g = f.derives in
      let h = r.is in
      let s = stops m is in
      let found = optional_one known ExpressionRow (mark_sort m) g.front h.front (g.second.t ∷ after) (h.second.t ∷ e) f.tree x refl s.0 s.1 g.first h.first
      (mark_first m g.second.t after g.second.is) (mark_first m h.second.t e h.second.is) (sym (marked f.tree after g f.cut) ∙ marked x e h r.cut) in
      same_tail g.second.t h.second.t after e found.rest;
}

pub for_head_only : {depth : ℕ} (x y z : Option Expression) {b e : List Token} → Takes (λ a. IsForHead a x y z) b e → OnlyTo (ForHeadFront depth) b e
for_head_only x y z {e = e} r = record { same = λ after f. (for_head_one known f.taken r.taken after e f.tree.first f.tree.test f.tree.third x y z f.derives r.is (sym f.cut ∙ r.cut)).rest }
