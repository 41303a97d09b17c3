-- Functions, externals and units have one tree.
use Rattle.std.proofs.Common.{◌≡◌, ◌≢◌, ℕ, true, List, [], ◌∷◌, ◌++◌, refl, sym, ap, ◌∙◌, append_assoc}
use Rattle.c_syntax.specs.declared.token.Token.{Token}
use Rattle.c_syntax.specs.declared.token.Punct.TheVariants as mark
use Rattle.c_syntax.specs.SyntaxTree.{ParametersTree, Parameters, ItemTree, DeclarationTree, Block, Statements, FunctionSyntax, ExternalTree, Defined, Declared, UnitTree}
use Rattle.c_syntax.specs.Grammar.{IsMark, place_of, AreStars}
use Rattle.c_syntax.specs.Derives.{IsNameToken, DerivesParameters, FunctionRule, DerivesItem, DerivesItems, LastItem, MoreItems, DerivesDeclaration, Closing, Closed, DerivesStatement, BlockRule, DerivesFunction, DerivesExternal, DerivesUnit, LastExternal, MoreExternals}
use Rattle.c_syntax.proofs.Rows.Fronts.{TypeWord, AnyName, StarMark, ParenOpens, BracketOpens, BraceOpens, SemicolonMark, kind_sort, first, Agree, agree, cut_both, same_head, same_tail}
use Rattle.c_syntax.proofs.Rows.SpecsAndStars.{specs_first, stars_one}
use Rattle.c_syntax.proofs.Rows.Given.{OneExpression, differs, mark_first}
use Rattle.c_syntax.proofs.Rows.Initialisers.{ends_item}
use Rattle.c_syntax.proofs.Rows.Parameters.{type_words_one, stars_other, name_first, same_name}
use Rattle.c_syntax.proofs.Rows.Declarations.{initialiser_other, items_other, declaration_first, form_one, declaration_one}
use Rattle.c_syntax.proofs.Rows.Blocks.{statement_one}

body_first : (r : List Token) {c : Closing} {tokens : List Token} {xs : List DeclarationTree} {ys : Statements} {at : ℕ} → DerivesStatement c tokens (Block xs ys at) → first (tokens ++ r) ≡ BraceOpens
body_first r (BlockRule a b t u cut opens g h ends) = ap (λ l. first (l ++ r)) cut ∙ ap kind_sort opens

-- the text of a function, cut
function_text : (tokens a b c d r : List Token) (n t u : Token) → tokens ≡ a ++ b ++ n ∷ t ∷ c ++ u ∷ d → tokens ++ r ≡ a ++ (b ++ (n ∷ t ∷ (c ++ (u ∷ (d ++ r)))))
function_text tokens a b c d r n t u cut = simp append_assoc at (ap (λ l. l ++ r) cut)

function_first : (a r : List Token) (x : FunctionSyntax) → DerivesFunction a x → first (a ++ r) ≡ TypeWord
function_first a r x g = ap first (function_text a g.a g.b g.c g.d r g.n g.t g.u g.cut) ∙ specs_first g.a (g.b ++ (g.n ∷ g.t ∷ (g.c ++ (g.u ∷ (g.d ++ r))))) x.specs.words g.specs.words

external_first : (a r : List Token) (x : ExternalTree) → DerivesExternal a x → first (a ++ r) ≡ TypeWord
external_first a r (Defined x) g = function_first a r x g
external_first a r (Declared x) g = declaration_first a r x g

-- behind the words of a type stand stars or a name
pub name_other : (b more : List Token) (n : Token) (stars : ℕ) (name : List ℕ) → AreStars b stars → IsNameToken name n → first (b ++ (n ∷ more)) ≢ TypeWord
name_other b more n stars name g h = stars_other b (n ∷ more) stars TypeWord g (λ e. cc) (λ e. let both : AnyName ≡ TypeWord = sym (name_first n more name h) ∙ e in cc)

name_no_star : (more : List Token) (n : Token) (name : List ℕ) → IsNameToken name n → first (n ∷ more) ≢ StarMark
name_no_star more n name h e = let both : AnyName ≡ StarMark = sym (name_first n more name h) ∙ e in cc

same_function : (x y : FunctionSyntax) → x.specs ≡ y.specs → x.stars ≡ y.stars → x.name ≡ y.name → x.parameters ≡ y.parameters → x.declarations ≡ y.declarations → x.statements ≡ y.statements → x.body_at ≡ y.body_at → x.at ≡ y.at → x ≡ y
same_function x y p q r s t u v w = λ i. record { specs = p i; stars = q i; name = r i; parameters = s i; declarations = t i; statements = u i; body_at = v i; at = w i }

no_form_begins : (r : List Token) → first r ≡ BraceOpens → (first r ≢ ParenOpens) × (first r ≢ BracketOpens)
no_form_begins r e = (λ h. let both : BraceOpens ≡ ParenOpens = sym e ∙ h in cc, λ h. let both : BraceOpens ≡ BracketOpens = sym e ∙ h in cc)

module _ (known : OneExpression) where
  -- the head of a function, as a form of an item, with the brace behind it
  heads_one : (c f r s : List Token) (t u v w : Token) (x y : ParametersTree) → IsMark mark.OpenParen t → DerivesParameters c x → IsMark mark.CloseParen u → IsMark mark.OpenParen v → DerivesParameters f y → IsMark mark.CloseParen w
      → first r ≡ BraceOpens → first s ≡ BraceOpens → t ∷ (c ++ (u ∷ r)) ≡ v ∷ (f ++ (w ∷ s)) → Agree (t ∷ c ++ u ∷ []) (v ∷ f ++ w ∷ []) r s (Parameters x) (Parameters y)
  heads_one c f r s t u v w x y opens g closes opens' h closes' p q e =
      let is : (t ∷ c ++ u ∷ []) ++ r ≡ (v ∷ f ++ w ∷ []) ++ s = simp append_assoc e in
      form_one known _ _ r s _ _ (FunctionRule c t u refl opens g closes) (FunctionRule f v w refl opens' h closes') (no_form_begins r p).0 (no_form_begins r p).1 (no_form_begins s q).0 (no_form_begins s q).1 is

  -- a function ends by itself
  pub function_one : (a b r s : List Token) (x y : FunctionSyntax) → DerivesFunction a x → DerivesFunction b y → a ++ r ≡ b ++ s → Agree a b r s x y
  function_one a b r s x y g h e =
      let is = sym (function_text a g.a g.b g.c g.d r g.n g.t g.u g.cut) ∙ e ∙ function_text b h.a h.b h.c h.d s h.n h.t h.u h.cut in
      let specs = type_words_one g.a h.a (g.b ++ (g.n ∷ g.t ∷ (g.c ++ (g.u ∷ (g.d ++ r))))) (h.b ++ (h.n ∷ h.t ∷ (h.c ++ (h.u ∷ (h.d ++ s))))) x.specs y.specs g.specs h.specs
      (name_other g.b (g.t ∷ (g.c ++ (g.u ∷ (g.d ++ r)))) g.n x.stars x.name g.stars g.name)
      (name_other h.b (h.t ∷ (h.c ++ (h.u ∷ (h.d ++ s)))) h.n y.stars y.name h.stars h.name)
      is in
      let stars = stars_one g.b h.b (g.n ∷ g.t ∷ (g.c ++ (g.u ∷ (g.d ++ r)))) (h.n ∷ h.t ∷ (h.c ++ (h.u ∷ (h.d ++ s)))) x.stars y.stars g.stars h.stars
      (name_no_star (g.t ∷ (g.c ++ (g.u ∷ (g.d ++ r)))) g.n x.name g.name)
      (name_no_star (h.t ∷ (h.c ++ (h.u ∷ (h.d ++ s)))) h.n y.name h.name)
      specs.rest in
      let named = same_head g.n h.n (g.t ∷ (g.c ++ (g.u ∷ (g.d ++ r)))) (h.t ∷ (h.c ++ (h.u ∷ (h.d ++ s)))) stars.rest in
      let heads = heads_one g.c h.c (g.d ++ r) (h.d ++ s) g.t g.u h.t h.u x.parameters y.parameters g.opens g.parameters g.closes h.opens h.parameters h.closes (body_first r g.body) (body_first s h.body)
      (same_tail g.n h.n (g.t ∷ (g.c ++ (g.u ∷ (g.d ++ r)))) (h.t ∷ (h.c ++ (h.u ∷ (h.d ++ s)))) stars.rest) in
      let body = (statement_one known g.body).same Closed h.d r s (Block y.declarations y.statements y.body_at) h.body tt tt heads.rest in
      let whole : g.a ++ (g.b ++ (g.n ∷ ((g.t ∷ g.c ++ g.u ∷ []) ++ g.d))) ≡ h.a ++ (h.b ++ (h.n ∷ ((h.t ∷ h.c ++ h.u ∷ []) ++ h.d))) = cc (specs.front, stars.front, named, heads.front, body.front) in
      let front : a ≡ b = g.cut ∙ simp append_assoc (simp append_assoc at whole) ∙ sym h.cut in
      agree a b r s x y front
      (same_function x y specs.tree stars.tree (same_name g.n h.n x.name y.name g.name h.name named) (cc (heads.tree)) (cc (body.tree)) (cc (body.tree)) (cc (body.tree)) (g.place ∙ ap place_of front ∙ sym h.place)) e

  -- no item has a brace behind its parameters
  no_item : (b c i r s : List Token) (n t u : Token) (stars : ℕ) (name : List ℕ) (x : ParametersTree) (y : ItemTree) → AreStars b stars → IsNameToken name n → IsMark mark.OpenParen t → DerivesParameters c x → IsMark mark.CloseParen u
      → first r ≡ BraceOpens → DerivesItem i y → ends_item (first s) ≡ true → b ++ (n ∷ t ∷ (c ++ (u ∷ r))) ≡ i ++ s → ⊥
  no_item b c i r s n t u stars name x y g named opens parameters closes p h q e =
      let is : b ++ (n ∷ t ∷ (c ++ (u ∷ r))) ≡ h.a ++ (h.t ∷ (h.b ++ (h.c ++ s))) = e ∙ simp append_assoc at (ap (λ l. l ++ s) h.cut) in
      let found = stars_one b h.a (n ∷ t ∷ (c ++ (u ∷ r))) (h.t ∷ (h.b ++ (h.c ++ s))) stars y.stars g h.stars (name_no_star (t ∷ (c ++ (u ∷ r))) n name named) (name_no_star (h.b ++ (h.c ++ s)) h.t y.name h.name) is in
      let form : (t ∷ c ++ u ∷ []) ++ r ≡ h.b ++ (h.c ++ s) = simp append_assoc (same_tail n h.t (t ∷ (c ++ (u ∷ r))) (h.b ++ (h.c ++ s)) found.rest) in
      let same = form_one known (t ∷ c ++ u ∷ []) h.b r (h.c ++ s) (Parameters x) y.form (FunctionRule c t u refl opens parameters closes) h.form (no_form_begins r p).0 (no_form_begins r p).1
      (initialiser_other h.c s y.initial ParenOpens h.initial (λ e. cc) (differs ends_item (first s) ParenOpens q refl))
      (initialiser_other h.c s y.initial BracketOpens h.initial (λ e. cc) (differs ends_item (first s) BracketOpens q refl))
      form in
      initialiser_other h.c s y.initial BraceOpens h.initial (λ e. cc) (differs ends_item (first s) BraceOpens q refl) (sym (ap first same.rest) ∙ p)

  no_items : (b c i r s : List Token) (n t u : Token) (stars : ℕ) (name : List ℕ) (x : ParametersTree) (ys : List ItemTree) → AreStars b stars → IsNameToken name n → IsMark mark.OpenParen t → DerivesParameters c x → IsMark mark.CloseParen u
      → first r ≡ BraceOpens → DerivesItems i ys → first s ≡ SemicolonMark → b ++ (n ∷ t ∷ (c ++ (u ∷ r))) ≡ i ++ s → ⊥
  no_items b c i r s n t u stars name x _ g named opens parameters closes p (LastItem {tree = y} h) q e = no_item b c i r s n t u stars name x y g named opens parameters closes p h (ap ends_item q) e
  no_items b c _ r s n t u stars name x _ g named opens parameters closes p (MoreItems f k v {tree = y} cut h comma more) q e =
      no_item b c f r (v ∷ (k ++ s)) n t u stars name x y g named opens parameters closes p h (ap ends_item (mark_first mark.Comma v (k ++ s) comma)) (e ∙ simp append_assoc at (ap (λ l. l ++ s) cut))

  -- a function is no declaration
  not_both : (a b r s : List Token) (x : FunctionSyntax) (y : DeclarationTree) → DerivesFunction a x → DerivesDeclaration b y → a ++ r ≡ b ++ s → ⊥
  not_both a b r s x y g h e =
      let is : g.a ++ (g.b ++ (g.n ∷ g.t ∷ (g.c ++ (g.u ∷ (g.d ++ r))))) ≡ h.a ++ (h.b ++ (h.t ∷ s)) = sym (function_text a g.a g.b g.c g.d r g.n g.t g.u g.cut) ∙ e ∙ simp append_assoc at (ap (λ l. l ++ s) h.cut) in
      let specs = type_words_one g.a h.a (g.b ++ (g.n ∷ g.t ∷ (g.c ++ (g.u ∷ (g.d ++ r))))) (h.b ++ (h.t ∷ s)) x.specs y.specs g.specs h.specs
      (name_other g.b (g.t ∷ (g.c ++ (g.u ∷ (g.d ++ r)))) g.n x.stars x.name g.stars g.name)
      (items_other h.b (h.t ∷ s) y.items TypeWord h.items (λ e. cc) (λ e. cc))
      is in
      no_items g.b g.c h.b (g.d ++ r) (h.t ∷ s) g.n g.t g.u x.stars x.name x.parameters y.items g.stars g.name g.opens g.parameters g.closes (body_first r g.body) h.items (mark_first mark.Semicolon h.t s h.ends) specs.rest

  -- an external ends by itself
  pub external_one : (a b r s : List Token) (x y : ExternalTree) → DerivesExternal a x → DerivesExternal b y → a ++ r ≡ b ++ s → Agree a b r s x y
  external_one a b r s (Defined x) (Defined y) g h e = let found = function_one a b r s x y g h e in agree a b r s (Defined x) (Defined y) found.front (ap Defined found.tree) e
  external_one a b r s (Defined x) (Declared y) g h e = absurd (not_both a b r s x y g h e)
  external_one a b r s (Declared x) (Defined y) g h e = absurd (not_both b a s r y x h g (sym e))
  external_one a b r s (Declared x) (Declared y) g h e = let found = declaration_one known a b r s x y g h e in agree a b r s (Declared x) (Declared y) found.front (ap Declared found.tree) e

  unit_first : (a r : List Token) (xs : UnitTree) → DerivesUnit a xs → first (a ++ r) ≡ TypeWord
  unit_first a r _ (LastExternal {tree = x} g) = external_first a r x g
  unit_first _ r _ (MoreExternals {tokens = tokens} a b {tree = x} cut g more) = ap first (ap (λ l. l ++ r) cut ∙ append_assoc a b r) ∙ external_first a (b ++ r) x g

  pub unit_one : (a b r s : List Token) (xs ys : UnitTree) → DerivesUnit a xs → DerivesUnit b ys → first r ≢ TypeWord → first s ≢ TypeWord → a ++ r ≡ b ++ s → Agree a b r s xs ys
  unit_one a b r s _ _ (LastExternal {tree = x} g) (LastExternal {tree = y} h) p q e =
      let found = external_one a b r s x y g h e in
      agree a b r s _ _ found.front (ap (λ z. z ∷ []) found.tree) e
  unit_one a _ r s _ _ (LastExternal {tree = x} g) (MoreExternals {tokens = tokens} c d {tree = y} {trees = ys} cut h more) p q e =
      let found = external_one a c r (d ++ s) x y g h (e ∙ ap (λ l. l ++ s) cut ∙ append_assoc c d s) in
      absurd (p (ap first found.rest ∙ unit_first d s ys more))
  unit_one _ b r s _ _ (MoreExternals {tokens = tokens} a c {tree = x} {trees = xs} cut g more) (LastExternal {tree = y} h) p q e =
      let found = external_one a b (c ++ r) s x y g h (sym (ap (λ l. l ++ r) cut ∙ append_assoc a c r) ∙ e) in
      absurd (q (sym (ap first found.rest) ∙ unit_first c r xs more))
  unit_one _ _ r s _ _ (MoreExternals a c {tree = x} {trees = xs} cut g more) (MoreExternals b d {tree = y} {trees = ys} cut' h also) p q e =
      let is : a ++ (c ++ r) ≡ b ++ (d ++ s) = simp append_assoc at (cut_both _ _ (a ++ c) (b ++ d) r s cut cut' e) in
      let found = external_one a b (c ++ r) (d ++ s) x y g h is in
      let others = unit_one c d r s xs ys more also p q found.rest in
      agree _ _ r s _ _ (cc (cut, cut', found.front, others.front)) (cc (found.tree, others.tree)) e
