-- Lists of assignments, initialisers and lengths in brackets have one tree.
use Rattle.std.proofs.Common.{◌≡◌, ◌≢◌, Bool, true, false, List, [], ◌∷◌, ◌++◌, Option, Some, None, refl, sym, ap, ◌∙◌, inl, inr, append_assoc}
use Rattle.std.specs.Prelude.{◌⊎◌}
use Rattle.c_syntax.specs.declared.token.Token.{Token}
use Rattle.c_syntax.specs.declared.token.Punct.TheVariants as mark
use Rattle.c_syntax.specs.SyntaxTree.{Expression, ArrayMark, InitialTree, One}
use Rattle.c_syntax.specs.Grammar.{AssignmentRow, ConditionalRow, IsMark}
use Rattle.c_syntax.specs.Derives.{DerivesList, LastOfList, MoreOfList, IsLastComma, DerivesInitial, OneRule, BracedRule, DerivesArray, ArrayRule, DerivesArrayMark, DerivesInitialiser}
use Rattle.c_syntax.proofs.Rows.Fronts.{Sort, BracketOpens, BracketCloses, BraceOpens, BraceCloses, CommaMark, SemicolonMark, AssignMark, first, Agree, agree, same_rest, cut_both, same_head, same_tail, tail_of}
use Rattle.c_syntax.proofs.Rows.Given.{may_begin, may_end, OneExpression, differs, ends_at, mark_first, begins_front, expression_first, expression_one, optional_one}

-- what may stand behind a list: the closing brace, and a comma before it
abbrev pub EndsList : List Token → Type 0
EndsList r = (first r ≡ BraceCloses) ⊎ ((first r ≡ CommaMark) × (first (tail_of r) ≡ BraceCloses))

list_ends : (r : List Token) → EndsList r → may_end AssignmentRow (first r) ≡ true
list_ends r (inl h) = ends_at AssignmentRow r BraceCloses h refl
list_ends r (inr h) = ends_at AssignmentRow r CommaMark h.0 refl

-- what may stand behind an item
abbrev pub ends_item : Sort → Bool
ends_item CommaMark = true
ends_item SemicolonMark = true
ends_item sort = false

item_ends : (sort : Sort) → ends_item sort ≡ true → may_end AssignmentRow sort ≡ true
item_ends CommaMark h = refl
item_ends SemicolonMark h = refl
item_ends sort h = absurd cc

comma_ends : (t : Token) (more : List Token) → IsMark mark.Comma t → may_end AssignmentRow (first (t ∷ more)) ≡ true
comma_ends t more g = ends_at AssignmentRow (t ∷ more) CommaMark (mark_first mark.Comma t more g) refl

last_comma_ends : (b : List Token) (u : Token) (r : List Token) → IsLastComma b → IsMark mark.CloseBrace u → EndsList (b ++ (u ∷ r))
last_comma_ends b u r (inl e) g = inl (ap (λ l. first (l ++ (u ∷ r))) e ∙ mark_first mark.CloseBrace u r g)
last_comma_ends b u r (inr (t, e, h)) g =
    inr (ap (λ l. first (l ++ (u ∷ r))) e ∙ mark_first mark.Comma t (u ∷ r) h, ap (λ l. first (tail_of (l ++ (u ∷ r)))) e ∙ mark_first mark.CloseBrace u r g)

last_comma_one : (a b r s : List Token) → IsLastComma a → IsLastComma b → first r ≡ BraceCloses → first s ≡ BraceCloses → a ++ r ≡ b ++ s → a ≡ b
last_comma_one a b r s (inl g) (inl h) p q e = g ∙ sym h
last_comma_one a b r s (inl g) (inr (u, h, k)) p q e =
    let is : r ≡ u ∷ s = sym (ap (λ l. l ++ r) g) ∙ e ∙ ap (λ l. l ++ s) h in
    absurd (differs ends_item CommaMark BraceCloses refl refl (sym (ap first is ∙ mark_first mark.Comma u s k) ∙ p))
last_comma_one a b r s (inr (t, g, k)) (inl h) p q e =
    let is : t ∷ r ≡ s = sym (ap (λ l. l ++ r) g) ∙ e ∙ ap (λ l. l ++ s) h in
    absurd (differs ends_item CommaMark BraceCloses refl refl (sym (mark_first mark.Comma t r k) ∙ ap first is ∙ q))
last_comma_one a b r s (inr (t, g, j)) (inr (u, h, k)) p q e =
    let is : t ∷ r ≡ u ∷ s = sym (ap (λ l. l ++ r) g) ∙ e ∙ ap (λ l. l ++ s) h in
    g ∙ ap (λ x. x ∷ []) (same_head t u r s is) ∙ sym h

module _ (known : OneExpression) where
  list_begins : (a r : List Token) (xs : List Expression) → DerivesList a xs → may_begin (first (a ++ r)) ≡ true
  list_begins a r _ (LastOfList {tree = x} g) = begins_front a r (known.begins AssignmentRow a x g)
  list_begins _ r _ (MoreOfList {tokens = tokens} a b t {tree = x} cut g comma more) =
      begins_front tokens r (ap (λ l. may_begin (first l)) cut ∙ begins_front a (t ∷ b) (known.begins AssignmentRow a x g))

  -- where a list has ended, it can't go on
  list_goes : (t : Token) (b r s : List Token) (ys : List Expression) → IsMark mark.Comma t → DerivesList b ys → EndsList r → r ≡ t ∷ (b ++ s) → ⊥
  list_goes t b r s ys comma more (inl h) e =
      differs ends_item CommaMark BraceCloses refl refl (sym (ap first e ∙ mark_first mark.Comma t (b ++ s) comma) ∙ h)
  list_goes t b r s ys comma more (inr h) e =
      differs may_begin (first (b ++ s)) BraceCloses (list_begins b s ys more) refl (sym (ap (λ l. first (tail_of l)) e) ∙ h.1)

  pub list_one : (a b r s : List Token) (xs ys : List Expression) → DerivesList a xs → DerivesList b ys → EndsList r → EndsList s → a ++ r ≡ b ++ s → Agree a b r s xs ys
  list_one a b r s _ _ (LastOfList {tree = x} g) (LastOfList {tree = y} h) p q e =
      let found = expression_one known AssignmentRow a b r s x y refl g h (list_ends r p) (list_ends s q) e in
      agree a b r s _ _ found.front (ap (λ z. z ∷ []) found.tree) e
  list_one a _ r s _ _ (LastOfList {tree = x} g) (MoreOfList c d u {tree = y} {trees = ys} cut h comma more) p q e =
      let is : a ++ r ≡ c ++ (u ∷ (d ++ s)) = simp append_assoc at (cut_both a _ a (c ++ u ∷ d) r s refl cut e) in
      let found = expression_one known AssignmentRow a c r (u ∷ (d ++ s)) x y refl g h (list_ends r p) (comma_ends u (d ++ s) comma) is in
      absurd (list_goes u d r s ys comma more p found.rest)
  list_one _ b r s _ _ (MoreOfList a c t {tree = x} {trees = xs} cut g comma more) (LastOfList {tree = y} h) p q e =
      let is : a ++ (t ∷ (c ++ r)) ≡ b ++ s = simp append_assoc at (cut_both _ b (a ++ t ∷ c) b r s cut refl e) in
      let found = expression_one known AssignmentRow a b (t ∷ (c ++ r)) s x y refl g h (comma_ends t (c ++ r) comma) (list_ends s q) is in
      absurd (list_goes t c s r xs comma more q (sym found.rest))
  list_one _ _ r s _ _ (MoreOfList a c t {tree = x} {trees = xs} cut g comma more) (MoreOfList b d u {tree = y} {trees = ys} cut' h comma' also) p q e =
      let is : a ++ (t ∷ (c ++ r)) ≡ b ++ (u ∷ (d ++ s)) = simp append_assoc at (cut_both _ _ (a ++ t ∷ c) (b ++ u ∷ d) r s cut cut' e) in
      let found = expression_one known AssignmentRow a b (t ∷ (c ++ r)) (u ∷ (d ++ s)) x y refl g h (comma_ends t (c ++ r) comma) (comma_ends u (d ++ s) comma') is in
      let same = same_head t u (c ++ r) (d ++ s) found.rest in
      let others = list_one c d r s xs ys more also p q (same_tail t u (c ++ r) (d ++ s) found.rest) in
      agree _ _ r s _ _ (cc (cut, cut', found.front, same, others.front)) (cc (found.tree, others.tree)) e

  pub initial_one : (a b r s : List Token) (x y : InitialTree) → DerivesInitial a x → DerivesInitial b y → ends_item (first r) ≡ true → ends_item (first s) ≡ true → a ++ r ≡ b ++ s → Agree a b r s x y
  initial_one a b r s _ _ (OneRule {tree = x} g) (OneRule {tree = y} h) p q e =
      let found = expression_one known AssignmentRow a b r s x y refl g h (item_ends (first r) p) (item_ends (first s) q) e in
      agree a b r s _ _ found.front (ap One found.tree) e
  initial_one a _ r s _ _ (OneRule {tree = x} g) (BracedRule c d t u cut opens h comma closes) p q e =
      let is = simp append_assoc at (cut_both a _ a (t ∷ c ++ d ++ u ∷ []) r s refl cut e) in
      absurd (expression_first known AssignmentRow a r x BraceOpens g refl (ap first is ∙ mark_first mark.OpenBrace t (c ++ (d ++ (u ∷ s))) opens))
  initial_one _ b r s _ _ (BracedRule c d t u cut opens h comma closes) (OneRule {tree = y} g) p q e =
      let is = simp append_assoc at (cut_both _ b (t ∷ c ++ d ++ u ∷ []) b r s cut refl e) in
      absurd (expression_first known AssignmentRow b s y BraceOpens g refl (ap first (sym is) ∙ mark_first mark.OpenBrace t (c ++ (d ++ (u ∷ r))) opens))
  initial_one _ _ r s _ _ (BracedRule a c t u {trees = xs} cut opens g comma closes) (BracedRule b d v w {trees = ys} cut' opens' h comma' closes') p q e =
      let is : t ∷ (a ++ (c ++ (u ∷ r))) ≡ v ∷ (b ++ (d ++ (w ∷ s))) = simp append_assoc at (cut_both _ _ (t ∷ a ++ c ++ u ∷ []) (v ∷ b ++ d ++ w ∷ []) r s cut cut' e) in
      let same = same_head t v (a ++ (c ++ (u ∷ r))) (b ++ (d ++ (w ∷ s))) is in
      let found = list_one a b (c ++ (u ∷ r)) (d ++ (w ∷ s)) xs ys g h (last_comma_ends c u r comma closes) (last_comma_ends d w s comma' closes') (same_tail t v (a ++ (c ++ (u ∷ r))) (b ++ (d ++ (w ∷ s))) is) in
      let commas = last_comma_one c d (u ∷ r) (w ∷ s) comma comma' (mark_first mark.CloseBrace u r closes) (mark_first mark.CloseBrace w s closes') found.rest in
      let closed = same_head u w r s (same_rest c d (u ∷ r) (w ∷ s) commas found.rest) in
      agree _ _ r s _ _ (cc (cut, cut', same, found.front, commas, closed)) (cc (found.tree, same)) e

  -- = and the initialiser, where there is one
  pub initialiser_one : (a b r s : List Token) (x y : Option InitialTree) → DerivesInitialiser a x → DerivesInitialiser b y → ends_item (first r) ≡ true → ends_item (first s) ≡ true → a ++ r ≡ b ++ s → Agree a b r s x y
  initialiser_one a b r s None None g h p q e = agree a b r s None None (g ∙ sym h) refl e
  initialiser_one a b r s None (Some y) g (u, d, cut, h, i) p q e =
      let is = cut_both a b [] (u ∷ d) r s g cut e in
      absurd (differs ends_item (first r) AssignMark p refl (ap first is ∙ mark_first mark.Assign u (d ++ s) h))
  initialiser_one a b r s (Some x) None (t, c, cut, g, i) h p q e =
      let is = cut_both a b (t ∷ c) [] r s cut h e in
      absurd (differs ends_item (first s) AssignMark q refl (sym (ap first is) ∙ mark_first mark.Assign t (c ++ r) g))
  initialiser_one a b r s (Some x) (Some y) (t, c, cut, g, i) (u, d, cut', h, j) p q e =
      let is = cut_both a b (t ∷ c) (u ∷ d) r s cut cut' e in
      let same = same_head t u (c ++ r) (d ++ s) is in
      let found = initial_one c d r s x y i j p q (same_tail t u (c ++ r) (d ++ s) is) in
      agree a b r s (Some x) (Some y) (cc (cut, cut', same, found.front)) (ap Some found.tree) e

  -- a length in brackets, which ends by itself
  pub array_one : (a b r s : List Token) (x y : Option Expression) → DerivesArray a x → DerivesArray b y → a ++ r ≡ b ++ s → Agree a b r s x y
  array_one _ _ r s x y (ArrayRule a t u cut opens g closes) (ArrayRule b v w cut' opens' h closes') e =
      let is : t ∷ (a ++ (u ∷ r)) ≡ v ∷ (b ++ (w ∷ s)) = simp append_assoc at (cut_both _ _ (t ∷ a ++ u ∷ []) (v ∷ b ++ w ∷ []) r s cut cut' e) in
      let same = same_head t v (a ++ (u ∷ r)) (b ++ (w ∷ s)) is in
      let found = optional_one known ConditionalRow BracketCloses a b (u ∷ r) (w ∷ s) x y refl refl refl g h (mark_first mark.CloseBracket u r closes) (mark_first mark.CloseBracket w s closes') (same_tail t v (a ++ (u ∷ r)) (b ++ (w ∷ s)) is) in
      let closed = same_head u w r s found.rest in
      agree _ _ r s x y (cc (cut, cut', same, found.front, closed)) found.tree e

pub array_first : (a r : List Token) (x : Option Expression) → DerivesArray a x → first (a ++ r) ≡ BracketOpens
array_first _ r x (ArrayRule {tokens = tokens} a t u cut opens g closes) = ap (λ l. first (l ++ r)) cut ∙ mark_first mark.OpenBracket t (a ++ u ∷ [] ++ r) opens

module _ (known : OneExpression) where
  pub array_mark_one : (a b r s : List Token) (x y : ArrayMark) → DerivesArrayMark a x → DerivesArrayMark b y → first r ≢ BracketOpens → first s ≢ BracketOpens → a ++ r ≡ b ++ s → Agree a b r s x y
  array_mark_one a b r s None None g h p q e = agree a b r s None None (g ∙ sym h) refl e
  array_mark_one a b r s None (Some y) g h p q e = absurd (p (ap first (sym (ap (λ l. l ++ r) g) ∙ e) ∙ array_first b s y h))
  array_mark_one a b r s (Some x) None g h p q e = absurd (q (ap first (sym (ap (λ l. l ++ s) h) ∙ sym e) ∙ array_first a r x g))
  array_mark_one a b r s (Some x) (Some y) g h p q e =
      let found = array_one known a b r s x y g h e in
      agree a b r s (Some x) (Some y) found.front (ap Some found.tree) e
