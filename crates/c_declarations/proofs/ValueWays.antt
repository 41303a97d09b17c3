-- What values in braces lead to.
use Rattle.std.proofs.Common.{◌≡◌, ◌≢◌, ◌≤◌, ◌+◌, ◌++◌, ◌∷◌, [], ℕ, List, Some, map, inl, inr, refl, sym, ap, ◌∙◌, subst, arith, append_assoc}
use Rattle.std.specs.Prelude.{◌⊎◌}
use Rattle.c_syntax.specs.declared.token.Token.{Token}
use Rattle.c_syntax.specs.declared.token.Punct.TheVariants as mark
use Rattle.c_syntax.specs.Grammar.{AssignmentRow}
use Rattle.c_syntax.specs.Derives.{IsLastComma, DerivesList, LastOfList, MoreOfList}
use Rattle.c_syntax.specs.Lookahead.{Ends}
use Rattle.c_syntax.specs.SyntaxTree.{Expression}
use Rattle.c_syntax.specs.Measures.{greatest, expression_height, greatest_height}
use Rattle.c_syntax.proofs.Parsing.ExpressionOne.{ends_mark}
use Rattle.c_syntax.proofs.Rows.Fronts.{BraceCloses, first}
use Rattle.c_syntax.proofs.Rows.Given.{expression_first}
use Rattle.c_syntax.proofs.Rows.UnitOne.{known}
use Rattle.c_cursor.specs.Front.{behind, mark_at}
use Rattle.c_expressions.specs.Fronts.{NoFront, OnlyTo, Then, ExpressionFront}
use Rattle.c_declarations.specs.DeclarationFronts.{ValuesFront, BracedFront, Ended, GoesOn, EndsValues, MoreValues}
use Rattle.c_declarations.proofs.FrontLemmas.{one_leads, only_stays}
use Rattle.c_cursor.proofs.TakesLemmas.{greatest_first}
use Rattle.c_declarations.proofs.FrontTokens.{mark_sorted}
use Rattle.c_declarations.proofs.FrontMarks.{first_low, others_low, mark_here, other_mark, ends_at_mark}
use Rattle.c_declarations.proofs.ListWays.{no_comma_ends}
use Rattle.c_expressions.proofs.Insides.{expression_some}

last_ends : (last after : List Token) → IsLastComma last → mark_at after ≡ Some mark.CloseBrace → Ends AssignmentRow (last ++ after)
last_ends last after (inl e) ends = subst (λ l. Ends AssignmentRow (l ++ after)) (sym e) (ends_at_mark AssignmentRow mark.CloseBrace after ends (omega arith))
last_ends last after (inr (t, e, m)) ends = subst (λ l. Ends AssignmentRow (l ++ after)) (sym e) (ends_mark AssignmentRow t after mark.Comma m (omega arith))

values_cut : (depth : ℕ) (b list last after : List Token) (xs : List Expression) → DerivesList list xs → IsLastComma last → b ≡ list ++ (last ++ after) → mark_at after ≡ Some mark.CloseBrace → depth + greatest (map expression_height xs) ≤ greatest_height
    → Then (ExpressionFront AssignmentRow depth) (MoreValues depth) b after
values_cut depth b list last after _ (LastOfList {tree = x} d) comma is ends low = record {
  middle = last ++ after;
  first = record { taken = list; tree = x; cut = is; derives = d; follows = last_ends last after comma ends; low = first_low expression_height x [] depth greatest_height low };
  second = Ended (record { last = last; cut = refl; comma = comma; ends = ends });
}
values_cut depth b list last after _ (MoreOfList a c t {tree = x} {trees = xs} cut d m more) comma is ends low = record {
  middle = t ∷ (c ++ (last ++ after));
  first = record { taken = a; tree = x; cut = is ∙ simp append_assoc at (ap (λ l. l ++ (last ++ after)) cut); derives = d; follows = ends_mark AssignmentRow t (c ++ (last ++ after)) mark.Comma m (omega arith); low = first_low expression_height x xs depth greatest_height low };
  second = GoesOn (record {
    middle = c ++ (last ++ after);
    first = record { t = t; cut = refl; is = m };
    second = record {
      taken = c ++ last;
      tree = xs;
      cut = sym (append_assoc c last after);
      derives = record { list = c; last = last; cut = refl; derives = more; comma = comma };
      follows = ends;
      low = others_low expression_height x xs depth greatest_height low;
    };
  });
}

pub values_ways : (depth : ℕ) (b after : List Token) → ValuesFront depth b after → Then (ExpressionFront AssignmentRow depth) (MoreValues depth) b after
values_ways depth b after f =
    let d = f.derives in
    values_cut depth b d.list d.last after f.tree d.derives d.comma (f.cut ∙ ap (λ l. l ++ after) d.cut ∙ append_assoc d.list d.last after) f.follows f.low

-- values that end at a comma or before one
values_end_none : {n after : List Token} → mark_at n ≢ Some mark.Comma → (last : List Token) → n ≡ last ++ after → IsLastComma last → after ≡ n
values_end_none {after = after} h last cut (inl e) = sym (cut ∙ ap (λ l. l ++ after) e)
values_end_none {after = after} h last cut (inr (t, e, m)) = absurd (h (ap mark_at (cut ∙ ap (λ l. l ++ after) e) ∙ mark_here t after m))

pub values_end : {depth : ℕ} {n : List Token} → mark_at n ≢ Some mark.Comma → OnlyTo (MoreValues depth) n n
values_end h = record { same = no_comma_ends h (λ after e. values_end_none h e.last e.cut e.comma) }

values_end_one : {n after : List Token} → mark_at n ≡ Some mark.Comma → mark_at after ≡ Some mark.CloseBrace → (last : List Token) → n ≡ last ++ after → IsLastComma last → after ≡ behind n
values_end_one {after = after} h ends last cut (inl e) = absurd (other_mark _ mark.Comma mark.CloseBrace (λ k. cc) h (ap mark_at (cut ∙ ap (λ l. l ++ after) e) ∙ ends))
values_end_one {after = after} h ends last cut (inr (t, e, m)) = sym (ap behind (cut ∙ ap (λ l. l ++ after) e))

no_value : {depth : ℕ} {b : List Token} → mark_at b ≡ Some mark.CloseBrace → NoFront (ExpressionFront AssignmentRow depth) b
no_value {b = b} e = record { never = λ after f. expression_first known AssignmentRow f.taken after f.tree BraceCloses f.derives refl (sym (ap first f.cut) ∙ mark_sorted mark.CloseBrace b e) }

last_comma_cut : {depth : ℕ} {n m : List Token} → mark_at n ≡ Some mark.Comma → m ≡ behind n → mark_at m ≡ Some mark.CloseBrace → (after : List Token) → MoreValues depth n after → after ≡ m
last_comma_cut h b ends after (Ended e) = values_end_one h e.ends e.last e.cut e.comma ∙ sym b
last_comma_cut {depth = depth} {m = m} h b ends after (GoesOn t) =
    let v = values_ways depth m after (subst (λ l. ValuesFront depth l after) ((one_leads b).same t.middle t.first) t.second) in
    absurd ((no_value {depth = depth} ends).never v.middle v.first)

pub last_comma_end : {depth : ℕ} {n m : List Token} → mark_at n ≡ Some mark.Comma → m ≡ behind n → mark_at m ≡ Some mark.CloseBrace → OnlyTo (MoreValues depth) n m
last_comma_end {depth = depth} h b ends = record { same = last_comma_cut {depth = depth} h b ends }

-- where `list_goes_on` says that no value follows
pub values_over : {depth : ℕ} {n m : List Token} → ((mark_at n ≢ Some mark.Comma) × (m ≡ n)) ⊎ ((mark_at n ≡ Some mark.Comma) × (m ≡ behind n) × (mark_at m ≡ Some mark.CloseBrace)) → OnlyTo (MoreValues depth) n m
values_over (inl (h, e)) = only_stays e (values_end h)
values_over (inr (h, b, ends)) = last_comma_end h b ends

-- at a comma before another token than a closing brace they don't end
pub values_go : {n m : List Token} → mark_at n ≡ Some mark.Comma → m ≡ behind n → mark_at m ≢ Some mark.CloseBrace → (a : List Token) → EndsValues n a → ⊥
values_go h b d a e = d (ap mark_at (b ∙ sym (values_end_one h e.ends e.last e.cut e.comma)) ∙ e.ends)

-- heights
value_some : (xs : List Token) (trees : List Expression) → DerivesList xs trees → 1 ≤ greatest (map expression_height trees)
value_some _ _ (LastOfList {tree = x} d) = let e = greatest_first (expression_height x) [] in let k = expression_some x in omega (arith, e, k)
value_some _ _ (MoreOfList a b t {tree = x} {trees = xs} cut d m more) = let e = greatest_first (expression_height x) (map expression_height xs) in let k = expression_some x in omega (arith, e, k)

pub braced_too_high : (depth : ℕ) {b : List Token} → greatest_height ≤ depth + 1 → NoFront (BracedFront depth) b
braced_too_high depth h = record {
  never = λ after t.
      let f = t.second.first in
      let some = value_some f.derives.list f.tree f.derives.derives in
      omega (arith, h, f.low, some);
}
