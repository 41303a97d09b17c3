-- Items and declarations have one tree.
use Rattle.std.proofs.Common.{◌≡◌, ◌≢◌, true, List, [], ◌∷◌, ◌++◌, Option, Some, None, refl, sym, ap, ◌∙◌, append_assoc}
use Rattle.c_syntax.specs.declared.token.Token.{Token}
use Rattle.c_syntax.specs.declared.token.Punct.TheVariants as mark
use Rattle.c_syntax.specs.SyntaxTree.{ItemForm, Parameters, Array, InitialTree, ItemTree, DeclarationTree}
use Rattle.c_syntax.specs.Grammar.{IsMark, place_of}
use Rattle.c_syntax.specs.Derives.{DerivesForm, PlainRule, FunctionRule, ArrayFormRule, DerivesInitialiser, DerivesItem, DerivesItems, LastItem, MoreItems, DerivesDeclaration, DerivesDeclarations, NoDeclaration, MoreDeclarations}
use Rattle.c_syntax.proofs.Rows.Fronts.{Sort, TypeWord, AnyName, StarMark, ParenOpens, BracketOpens, CommaMark, SemicolonMark, AssignMark, first, Agree, agree, cut_both, same_head, same_tail}
use Rattle.c_syntax.proofs.Rows.SpecsAndStars.{specs_first, stars_one}
use Rattle.c_syntax.proofs.Rows.Given.{OneExpression, differs, mark_first}
use Rattle.c_syntax.proofs.Rows.Initialisers.{ends_item, array_first, array_one, initialiser_one}
use Rattle.c_syntax.proofs.Rows.Parameters.{type_words_one, stars_other, name_first, same_name, parameters_one}

function_first : (tokens a r : List Token) (t u : Token) → tokens ≡ t ∷ a ++ u ∷ [] → IsMark mark.OpenParen t → first (tokens ++ r) ≡ ParenOpens
function_first tokens a r t u cut opens = ap (λ l. first (l ++ r)) cut ∙ mark_first mark.OpenParen t (a ++ u ∷ [] ++ r) opens

pub initialiser_other : (a r : List Token) (x : Option InitialTree) (k : Sort) → DerivesInitialiser a x → k ≢ AssignMark → first r ≢ k → first (a ++ r) ≢ k
initialiser_other a r None k g other p = λ e. p (ap first (sym (ap (λ l. l ++ r) g)) ∙ e)
initialiser_other a r (Some x) k (t, b, cut, g, i) other p = λ e. other (sym e ∙ ap (λ l. first (l ++ r)) cut ∙ mark_first mark.Assign t (b ++ r) g)

pub item_other : (a r : List Token) (x : ItemTree) (k : Sort) → DerivesItem a x → k ≢ StarMark → k ≢ AnyName → first (a ++ r) ≢ k
item_other a r x k g other also =
    let is : a ++ r ≡ g.a ++ (g.t ∷ (g.b ++ (g.c ++ r))) = simp append_assoc at (ap (λ l. l ++ r) g.cut) in
    λ e. stars_other g.a (g.t ∷ (g.b ++ (g.c ++ r))) x.stars k g.stars other (λ d. also (sym d ∙ name_first g.t (g.b ++ (g.c ++ r)) x.name g.name)) (sym (ap first is) ∙ e)

pub items_other : (a r : List Token) (xs : List ItemTree) (k : Sort) → DerivesItems a xs → k ≢ StarMark → k ≢ AnyName → first (a ++ r) ≢ k
items_other a r _ k (LastItem {tree = x} g) other also = item_other a r x k g other also
items_other _ r _ k (MoreItems {tokens = tokens} a b t {tree = x} cut g comma more) other also =
    let is : tokens ++ r ≡ a ++ (t ∷ (b ++ r)) = simp append_assoc at (ap (λ l. l ++ r) cut) in
    λ e. item_other a (t ∷ (b ++ r)) x k g other also (sym (ap first is) ∙ e)

pub declaration_first : (a r : List Token) (x : DeclarationTree) → DerivesDeclaration a x → first (a ++ r) ≡ TypeWord
declaration_first a r x g =
    let is : a ++ r ≡ g.a ++ (g.b ++ (g.t ∷ r)) = simp append_assoc at (ap (λ l. l ++ r) g.cut) in
    ap first is ∙ specs_first g.a (g.b ++ (g.t ∷ r)) x.specs.words g.specs.words

same_item : (x y : ItemTree) → x.stars ≡ y.stars → x.name ≡ y.name → x.form ≡ y.form → x.initial ≡ y.initial → x.at ≡ y.at → x ≡ y
same_item x y p q r s t = λ i. record { stars = p i; name = q i; form = r i; initial = s i; at = t i }

same_declaration : (x y : DeclarationTree) → x.specs ≡ y.specs → x.items ≡ y.items → x.at ≡ y.at → x ≡ y
same_declaration x y p q r = λ i. record { specs = p i; items = q i; at = r i }

module _ (known : OneExpression) where
  pub form_one : (a b r s : List Token) (x y : ItemForm) → DerivesForm a x → DerivesForm b y → first r ≢ ParenOpens → first r ≢ BracketOpens → first s ≢ ParenOpens → first s ≢ BracketOpens
      → a ++ r ≡ b ++ s → Agree a b r s x y
  form_one _ _ r s _ _ PlainRule PlainRule p j q k e = record { front = refl; rest = e; tree = refl }
  form_one _ b r s _ _ PlainRule (FunctionRule d v w cut h i l) p j q k e = absurd (p (ap first e ∙ function_first b d s v w cut h))
  form_one _ b r s _ _ PlainRule (ArrayFormRule {length = y} h) p j q k e = absurd (j (ap first e ∙ array_first b s y h))
  form_one a _ r s _ _ (FunctionRule c t u cut g i l) PlainRule p j q k e = absurd (q (ap first (sym e) ∙ function_first a c r t u cut g))
  form_one a _ r s _ _ (ArrayFormRule {length = x} g) PlainRule p j q k e = absurd (k (ap first (sym e) ∙ array_first a r x g))
  form_one a b r s _ _ (FunctionRule c t u cut g i l) (ArrayFormRule {length = y} h) p j q k e =
      let both : ParenOpens ≡ BracketOpens = sym (function_first a c r t u cut g) ∙ ap first e ∙ array_first b s y h in
      absurd cc
  form_one a b r s _ _ (ArrayFormRule {length = x} g) (FunctionRule d v w cut h i l) p j q k e =
      let both : BracketOpens ≡ ParenOpens = sym (array_first a r x g) ∙ ap first e ∙ function_first b d s v w cut h in
      absurd cc
  form_one a b r s _ _ (ArrayFormRule {length = x} g) (ArrayFormRule {length = y} h) p j q k e =
      let found = array_one known a b r s x y g h e in
      agree a b r s _ _ found.front (ap Array found.tree) e
  form_one a b r s _ _ (FunctionRule c t u {tree = x} cut g i l) (FunctionRule d v w {tree = y} cut' h i' l') p j q k e =
      let is : t ∷ (c ++ (u ∷ r)) ≡ v ∷ (d ++ (w ∷ s)) = simp append_assoc at (cut_both a b (t ∷ c ++ u ∷ []) (v ∷ d ++ w ∷ []) r s cut cut' e) in
      let same = same_head t v (c ++ (u ∷ r)) (d ++ (w ∷ s)) is in
      let found = parameters_one known c d (u ∷ r) (w ∷ s) x y i i' (mark_first mark.CloseParen u r l) (mark_first mark.CloseParen w s l') (same_tail t v (c ++ (u ∷ r)) (d ++ (w ∷ s)) is) in
      let closed = same_head u w r s found.rest in
      agree a b r s _ _ (cc (cut, cut', same, found.front, closed)) (ap Parameters found.tree) e

  pub item_one : (a b r s : List Token) (x y : ItemTree) → DerivesItem a x → DerivesItem b y → ends_item (first r) ≡ true → ends_item (first s) ≡ true → a ++ r ≡ b ++ s → Agree a b r s x y
  item_one a b r s x y g h p q e =
      let is : g.a ++ (g.t ∷ (g.b ++ (g.c ++ r))) ≡ h.a ++ (h.t ∷ (h.b ++ (h.c ++ s))) = simp append_assoc at (cut_both a b (g.a ++ g.t ∷ g.b ++ g.c) (h.a ++ h.t ∷ h.b ++ h.c) r s g.cut h.cut e) in
      let named = name_first g.t (g.b ++ (g.c ++ r)) x.name g.name in
      let named' = name_first h.t (h.b ++ (h.c ++ s)) y.name h.name in
      let stars = stars_one g.a h.a (g.t ∷ (g.b ++ (g.c ++ r))) (h.t ∷ (h.b ++ (h.c ++ s))) x.stars y.stars g.stars h.stars (λ d. let both : AnyName ≡ StarMark = sym named ∙ d in cc) (λ d. let both : AnyName ≡ StarMark = sym named' ∙ d in cc) is in
      let same = same_head g.t h.t (g.b ++ (g.c ++ r)) (h.b ++ (h.c ++ s)) stars.rest in
      let form = form_one g.b h.b (g.c ++ r) (h.c ++ s) x.form y.form g.form h.form
      (initialiser_other g.c r x.initial ParenOpens g.initial (λ e. cc) (differs ends_item (first r) ParenOpens p refl))
      (initialiser_other g.c r x.initial BracketOpens g.initial (λ e. cc) (differs ends_item (first r) BracketOpens p refl))
      (initialiser_other h.c s y.initial ParenOpens h.initial (λ e. cc) (differs ends_item (first s) ParenOpens q refl))
      (initialiser_other h.c s y.initial BracketOpens h.initial (λ e. cc) (differs ends_item (first s) BracketOpens q refl))
      (same_tail g.t h.t (g.b ++ (g.c ++ r)) (h.b ++ (h.c ++ s)) stars.rest) in
      let initial = initialiser_one known g.c h.c r s x.initial y.initial g.initial h.initial p q form.rest in
      let front : a ≡ b = cc (g.cut, h.cut, stars.front, same, form.front, initial.front) in
      agree a b r s x y front (same_item x y stars.tree (same_name g.t h.t x.name y.name g.name h.name same) form.tree initial.tree (g.place ∙ ap place_of front ∙ sym h.place)) e

  semicolon_ends : (r : List Token) → first r ≡ SemicolonMark → ends_item (first r) ≡ true
  semicolon_ends r p = ap ends_item p

  comma_ends : (t : Token) (more : List Token) → IsMark mark.Comma t → ends_item (first (t ∷ more)) ≡ true
  comma_ends t more g = ap ends_item (mark_first mark.Comma t more g)

  -- where the items have ended, they can't go on
  items_go : (t : Token) (b r s : List Token) → IsMark mark.Comma t → first r ≡ SemicolonMark → r ≡ t ∷ (b ++ s) → ⊥
  items_go t b r s comma p e = let both : CommaMark ≡ SemicolonMark = sym (ap first e ∙ mark_first mark.Comma t (b ++ s) comma) ∙ p in cc

  pub items_one : (a b r s : List Token) (xs ys : List ItemTree) → DerivesItems a xs → DerivesItems b ys → first r ≡ SemicolonMark → first s ≡ SemicolonMark → a ++ r ≡ b ++ s → Agree a b r s xs ys
  items_one a b r s _ _ (LastItem {tree = x} g) (LastItem {tree = y} h) p q e =
      let found = item_one a b r s x y g h (semicolon_ends r p) (semicolon_ends s q) e in
      agree a b r s _ _ found.front (ap (λ z. z ∷ []) found.tree) e
  items_one a _ r s _ _ (LastItem {tree = x} g) (MoreItems c d u {tree = y} {trees = ys} cut h comma more) p q e =
      let is : a ++ r ≡ c ++ (u ∷ (d ++ s)) = simp append_assoc at (cut_both a _ a (c ++ u ∷ d) r s refl cut e) in
      let found = item_one a c r (u ∷ (d ++ s)) x y g h (semicolon_ends r p) (comma_ends u (d ++ s) comma) is in
      absurd (items_go u d r s comma p found.rest)
  items_one _ b r s _ _ (MoreItems a c t {tree = x} {trees = xs} cut g comma more) (LastItem {tree = y} h) p q e =
      let is : a ++ (t ∷ (c ++ r)) ≡ b ++ s = simp append_assoc at (cut_both _ b (a ++ t ∷ c) b r s cut refl e) in
      let found = item_one a b (t ∷ (c ++ r)) s x y g h (comma_ends t (c ++ r) comma) (semicolon_ends s q) is in
      absurd (items_go t c s r comma q (sym found.rest))
  items_one _ _ r s _ _ (MoreItems a c t {tree = x} {trees = xs} cut g comma more) (MoreItems b d u {tree = y} {trees = ys} cut' h comma' also) p q e =
      let is : a ++ (t ∷ (c ++ r)) ≡ b ++ (u ∷ (d ++ s)) = simp append_assoc at (cut_both _ _ (a ++ t ∷ c) (b ++ u ∷ d) r s cut cut' e) in
      let found = item_one a b (t ∷ (c ++ r)) (u ∷ (d ++ s)) x y g h (comma_ends t (c ++ r) comma) (comma_ends u (d ++ s) comma') is in
      let same = same_head t u (c ++ r) (d ++ s) found.rest in
      let others = items_one c d r s xs ys more also p q (same_tail t u (c ++ r) (d ++ s) found.rest) in
      agree _ _ r s _ _ (cc (cut, cut', found.front, same, others.front)) (cc (found.tree, others.tree)) e

  -- a declaration ends by itself
  pub declaration_one : (a b r s : List Token) (x y : DeclarationTree) → DerivesDeclaration a x → DerivesDeclaration b y → a ++ r ≡ b ++ s → Agree a b r s x y
  declaration_one a b r s x y g h e =
      let is : g.a ++ (g.b ++ (g.t ∷ r)) ≡ h.a ++ (h.b ++ (h.t ∷ s)) = simp append_assoc at (cut_both a b (g.a ++ g.b ++ g.t ∷ []) (h.a ++ h.b ++ h.t ∷ []) r s g.cut h.cut e) in
      let specs = type_words_one g.a h.a (g.b ++ (g.t ∷ r)) (h.b ++ (h.t ∷ s)) x.specs y.specs g.specs h.specs
      (items_other g.b (g.t ∷ r) x.items TypeWord g.items (λ e. cc) (λ e. cc))
      (items_other h.b (h.t ∷ s) y.items TypeWord h.items (λ e. cc) (λ e. cc))
      is in
      let items = items_one g.b h.b (g.t ∷ r) (h.t ∷ s) x.items y.items g.items h.items (mark_first mark.Semicolon g.t r g.ends) (mark_first mark.Semicolon h.t s h.ends) specs.rest in
      let ended = same_head g.t h.t r s items.rest in
      let front : a ≡ b = cc (g.cut, h.cut, specs.front, items.front, ended) in
      agree a b r s x y front (same_declaration x y specs.tree items.tree (g.place ∙ ap place_of front ∙ sym h.place)) e

  pub declarations_one : (a b r s : List Token) (xs ys : List DeclarationTree) → DerivesDeclarations a xs → DerivesDeclarations b ys → first r ≢ TypeWord → first s ≢ TypeWord → a ++ r ≡ b ++ s → Agree a b r s xs ys
  declarations_one _ _ r s _ _ NoDeclaration NoDeclaration p q e = record { front = refl; rest = e; tree = refl }
  declarations_one _ b r s _ _ NoDeclaration (MoreDeclarations c d {tree = y} cut h more) p q e =
      let is : r ≡ c ++ (d ++ s) = e ∙ ap (λ l. l ++ s) cut ∙ append_assoc c d s in
      absurd (p (ap first is ∙ declaration_first c (d ++ s) y h))
  declarations_one a _ r s _ _ (MoreDeclarations c d {tree = x} cut g more) NoDeclaration p q e =
      let is : s ≡ c ++ (d ++ r) = sym e ∙ ap (λ l. l ++ r) cut ∙ append_assoc c d r in
      absurd (q (ap first is ∙ declaration_first c (d ++ r) x g))
  declarations_one _ _ r s _ _ (MoreDeclarations a c {tree = x} {trees = xs} cut g more) (MoreDeclarations b d {tree = y} {trees = ys} cut' h also) p q e =
      let is : a ++ (c ++ r) ≡ b ++ (d ++ s) = simp append_assoc at (cut_both _ _ (a ++ c) (b ++ d) r s cut cut' e) in
      let found = declaration_one a b (c ++ r) (d ++ s) x y g h is in
      let others = declarations_one c d r s xs ys more also p q found.rest in
      agree _ _ r s _ _ (cc (cut, cut', found.front, others.front)) (cc (found.tree, others.tree)) e
