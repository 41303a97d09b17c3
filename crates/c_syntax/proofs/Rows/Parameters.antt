-- Parameters have one tree.
use Rattle.std.proofs.Common.{◌≡◌, ◌≢◌, ℕ, Bool, true, false, List, [], ◌∷◌, ◌++◌, Option, Some, None, refl, sym, ap, ◌∙◌, append_assoc}
use Rattle.c_syntax.specs.declared.token.Token.{Token}
use Rattle.c_syntax.specs.declared.token.TokenKind.TheVariants as token
use Rattle.c_syntax.specs.declared.token.Keyword.TheVariants as keyword
use Rattle.c_syntax.specs.declared.token.Punct.TheVariants as mark
use Rattle.c_syntax.specs.declared.syntax.SpecWord.TheVariants as word
use Rattle.c_syntax.specs.SyntaxTree.{SpecsTree, ArrayMark, ParameterTree, ParametersTree}
use Rattle.c_syntax.specs.Grammar.{IsMark, IsKeyword, place_of, LastSpec, AreStars, NoStar, MoreStars}
use Rattle.c_syntax.specs.Derives.{IsNameToken, DerivesSpecs, DerivesArrayMark, DerivesName, DerivesParameter, DerivesParameterList, LastParameter, MoreParameters, DerivesParameters, VoidRule, ParametersRule}
use Rattle.c_syntax.proofs.Rows.Fronts.{Sort, TypeWord, AnyName, StarMark, BracketOpens, ParenCloses, CommaMark, kind_sort, first, Agree, agree, cut_both, same_head, same_tail}
use Rattle.c_syntax.proofs.Rows.SpecsAndStars.{star_first, specs_one, stars_one}
use Rattle.c_syntax.proofs.Rows.Given.{OneExpression, differs, mark_first}
use Rattle.c_syntax.proofs.Rows.Initialisers.{array_first, array_mark_one}

-- words of a type with their place
pub type_words_one : (a b r s : List Token) (x y : SpecsTree) → DerivesSpecs a x → DerivesSpecs b y → first r ≢ TypeWord → first s ≢ TypeWord → a ++ r ≡ b ++ s → Agree a b r s x y
type_words_one a b r s x y g h p q e =
    let found = specs_one a b r s x.words y.words g.words h.words p q e in
    let place : x.at ≡ y.at = g.place ∙ ap place_of found.front ∙ sym h.place in
    agree a b r s x y found.front (same_words x y found.tree place) e
  where
    same_words : (x y : SpecsTree) → x.words ≡ y.words → x.at ≡ y.at → x ≡ y
    same_words x y p q = λ i. record { words = p i; at = q i }

-- what a part may begin with is what it or the rest begins with
pub stars_other : (a r : List Token) (n : ℕ) (k : Sort) → AreStars a n → k ≢ StarMark → first r ≢ k → first (a ++ r) ≢ k
stars_other _ r _ k NoStar other p = p
stars_other _ r _ k (MoreStars {t = t} {tokens = a} g more) other p = λ e. other (sym e ∙ star_first t (a ++ r) g)

pub name_first : (t : Token) (more : List Token) (name : List ℕ) → IsNameToken name t → first (t ∷ more) ≡ AnyName
name_first t more name g = ap kind_sort g

name_other : (a r : List Token) (name : Option (List ℕ)) (k : Sort) → DerivesName a name → k ≢ AnyName → first r ≢ k → first (a ++ r) ≢ k
name_other a r None k g other p = λ e. p (ap first (sym (ap (λ l. l ++ r) g)) ∙ e)
name_other a r (Some name) k (t, g, h) other p = λ e. other (sym e ∙ ap (λ l. first (l ++ r)) g ∙ name_first t r name h)

array_other : (a r : List Token) (x : ArrayMark) (k : Sort) → DerivesArrayMark a x → k ≢ BracketOpens → first r ≢ k → first (a ++ r) ≢ k
array_other a r None k g other p = λ e. p (ap first (sym (ap (λ l. l ++ r) g)) ∙ e)
array_other a r (Some x) k g other p = λ e. other (sym e ∙ array_first a r x g)

pub same_name : (t u : Token) (m n : List ℕ) → IsNameToken m t → IsNameToken n u → t ≡ u → m ≡ n
same_name t u m n g h e = let both : token.Name m ≡ token.Name n = sym g ∙ ap (λ (x : Token). x.kind) e ∙ h in cc

name_one : (a b r s : List Token) (x y : Option (List ℕ)) → DerivesName a x → DerivesName b y → first r ≢ AnyName → first s ≢ AnyName → a ++ r ≡ b ++ s → Agree a b r s x y
name_one a b r s None None g h p q e = agree a b r s None None (g ∙ sym h) refl e
name_one a b r s None (Some y) g (u, cut, h) p q e = absurd (p (ap first (cut_both a b [] (u ∷ []) r s g cut e) ∙ name_first u s y h))
name_one a b r s (Some x) None (t, cut, g) h p q e = absurd (q (sym (ap first (cut_both a b (t ∷ []) [] r s cut h e)) ∙ name_first t r x g))
name_one a b r s (Some x) (Some y) (t, cut, g) (u, cut', h) p q e =
    let same = same_head t u r s (cut_both a b (t ∷ []) (u ∷ []) r s cut cut' e) in
    agree a b r s (Some x) (Some y) (cut ∙ ap (λ z. z ∷ []) same ∙ sym cut') (ap Some (same_name t u x y g h same)) e

-- what may stand behind a parameter
abbrev pub ends_parameter : Sort → Bool
ends_parameter CommaMark = true
ends_parameter ParenCloses = true
ends_parameter sort = false

-- a parameter, or the one word `void`
record IsLike (tokens : List Token) (tree : ParameterTree) : Type 0 where
  pub a : List Token
  pub b : List Token
  pub c : List Token
  pub d : List Token
  pub cut : tokens ≡ a ++ b ++ c ++ d
  pub specs : DerivesSpecs a tree.specs
  pub stars : AreStars b tree.stars
  pub name : DerivesName c tree.name
  pub array : DerivesArrayMark d tree.array
  pub place : tree.at ≡ place_of tokens

is_like : (tokens : List Token) (tree : ParameterTree) → DerivesParameter tokens tree → IsLike tokens tree
is_like tokens tree g = record { a = g.a; b = g.b; c = g.c; d = g.d; cut = g.cut; specs = g.specs; stars = g.stars; name = g.name; array = g.array; place = g.place }

abbrev void_tree : Token → ParameterTree
void_tree t = record { specs = record { words = word.Void ∷ []; at = t.at }; stars = 0; name = None; array = None; at = t.at }

void_like : (t : Token) → IsKeyword keyword.Void t → IsLike (t ∷ []) (void_tree t)
void_like t g = record {
  a = t ∷ [];
  b = [];
  c = [];
  d = [];
  cut = refl;
  specs = record { words = LastSpec {w = word.Void} g; place = refl };
  stars = NoStar;
  name = refl;
  array = refl;
  place = refl;
}

same_parameter : (x y : ParameterTree) → x.specs ≡ y.specs → x.stars ≡ y.stars → x.name ≡ y.name → x.array ≡ y.array → x.at ≡ y.at → x ≡ y
same_parameter x y p q r s t = λ i. record { specs = p i; stars = q i; name = r i; array = s i; at = t i }

module _ (known : OneExpression) where
  like_one : (a b r s : List Token) (x y : ParameterTree) → IsLike a x → IsLike b y → ends_parameter (first r) ≡ true → ends_parameter (first s) ≡ true → a ++ r ≡ b ++ s → Agree a b r s x y
  like_one a b r s x y g h p q e =
      let is : g.a ++ (g.b ++ (g.c ++ (g.d ++ r))) ≡ h.a ++ (h.b ++ (h.c ++ (h.d ++ s))) = simp append_assoc at (cut_both a b (g.a ++ g.b ++ g.c ++ g.d) (h.a ++ h.b ++ h.c ++ h.d) r s g.cut h.cut e) in
      let specs = type_words_one g.a h.a _ _ x.specs y.specs g.specs h.specs
      (stars_other g.b _ x.stars TypeWord g.stars (λ e. cc) (name_other g.c _ x.name TypeWord g.name (λ e. cc) (array_other g.d r x.array TypeWord g.array (λ e. cc) (differs ends_parameter (first r) TypeWord p refl))))
      (stars_other h.b _ y.stars TypeWord h.stars (λ e. cc) (name_other h.c _ y.name TypeWord h.name (λ e. cc) (array_other h.d s y.array TypeWord h.array (λ e. cc) (differs ends_parameter (first s) TypeWord q refl))))
      is in
      let stars = stars_one g.b h.b _ _ x.stars y.stars g.stars h.stars
      (name_other g.c _ x.name StarMark g.name (λ e. cc) (array_other g.d r x.array StarMark g.array (λ e. cc) (differs ends_parameter (first r) StarMark p refl)))
      (name_other h.c _ y.name StarMark h.name (λ e. cc) (array_other h.d s y.array StarMark h.array (λ e. cc) (differs ends_parameter (first s) StarMark q refl)))
      specs.rest in
      let name = name_one g.c h.c _ _ x.name y.name g.name h.name
      (array_other g.d r x.array AnyName g.array (λ e. cc) (differs ends_parameter (first r) AnyName p refl))
      (array_other h.d s y.array AnyName h.array (λ e. cc) (differs ends_parameter (first s) AnyName q refl))
      stars.rest in
      let array = array_mark_one known g.d h.d r s x.array y.array g.array h.array (differs ends_parameter (first r) BracketOpens p refl) (differs ends_parameter (first s) BracketOpens q refl) name.rest in
      let same : a ≡ b = cc (g.cut, h.cut, specs.front, stars.front, name.front, array.front) in
      agree a b r s x y same (same_parameter x y specs.tree stars.tree name.tree array.tree (g.place ∙ ap place_of same ∙ sym h.place)) e

  pub parameter_one : (a b r s : List Token) (x y : ParameterTree) → DerivesParameter a x → DerivesParameter b y → ends_parameter (first r) ≡ true → ends_parameter (first s) ≡ true → a ++ r ≡ b ++ s → Agree a b r s x y
  parameter_one a b r s x y g h p q e = like_one a b r s x y (is_like a x g) (is_like b y h) p q e

  -- the one word `void` is no parameter
  no_void : (t : Token) (b r s : List Token) (y : ParameterTree) → IsKeyword keyword.Void t → DerivesParameter b y → ends_parameter (first r) ≡ true → ends_parameter (first s) ≡ true → t ∷ r ≡ b ++ s → ⊥
  no_void t b r s y g h p q e =
      let found = like_one (t ∷ []) b r s (void_tree t) y (void_like t g) (is_like b y h) p q e in
      h.not_void t (sym found.front) g

  closes_parameter : (r : List Token) (k : Sort) → first r ≡ k → ends_parameter k ≡ true → ends_parameter (first r) ≡ true
  closes_parameter r k e h = ap ends_parameter e ∙ h

  comma_parameter : (t : Token) (more : List Token) → IsMark mark.Comma t → ends_parameter (first (t ∷ more)) ≡ true
  comma_parameter t more g = closes_parameter (t ∷ more) CommaMark (mark_first mark.Comma t more g) refl

  -- where the parameters have ended, they can't go on
  parameters_go : (t : Token) (b r s : List Token) → IsMark mark.Comma t → first r ≡ ParenCloses → r ≡ t ∷ (b ++ s) → ⊥
  parameters_go t b r s comma p e = let both : CommaMark ≡ ParenCloses = sym (ap first e ∙ mark_first mark.Comma t (b ++ s) comma) ∙ p in cc

  pub parameter_list_one : (a b r s : List Token) (xs ys : List ParameterTree) → DerivesParameterList a xs → DerivesParameterList b ys → first r ≡ ParenCloses → first s ≡ ParenCloses → a ++ r ≡ b ++ s → Agree a b r s xs ys
  parameter_list_one a b r s _ _ (LastParameter {tree = x} g) (LastParameter {tree = y} h) p q e =
      let found = parameter_one a b r s x y g h (closes_parameter r ParenCloses p refl) (closes_parameter s ParenCloses q refl) e in
      agree a b r s _ _ found.front (ap (λ z. z ∷ []) found.tree) e
  parameter_list_one a _ r s _ _ (LastParameter {tree = x} g) (MoreParameters c d u {tree = y} {trees = ys} cut h comma more) p q e =
      let is : a ++ r ≡ c ++ (u ∷ (d ++ s)) = simp append_assoc at (cut_both a _ a (c ++ u ∷ d) r s refl cut e) in
      let found = parameter_one a c r (u ∷ (d ++ s)) x y g h (closes_parameter r ParenCloses p refl) (comma_parameter u (d ++ s) comma) is in
      absurd (parameters_go u d r s comma p found.rest)
  parameter_list_one _ b r s _ _ (MoreParameters a c t {tree = x} {trees = xs} cut g comma more) (LastParameter {tree = y} h) p q e =
      let is : a ++ (t ∷ (c ++ r)) ≡ b ++ s = simp append_assoc at (cut_both _ b (a ++ t ∷ c) b r s cut refl e) in
      let found = parameter_one a b (t ∷ (c ++ r)) s x y g h (comma_parameter t (c ++ r) comma) (closes_parameter s ParenCloses q refl) is in
      absurd (parameters_go t c s r comma q (sym found.rest))
  parameter_list_one _ _ r s _ _ (MoreParameters a c t {tree = x} {trees = xs} cut g comma more) (MoreParameters b d u {tree = y} {trees = ys} cut' h comma' also) p q e =
      let is : a ++ (t ∷ (c ++ r)) ≡ b ++ (u ∷ (d ++ s)) = simp append_assoc at (cut_both _ _ (a ++ t ∷ c) (b ++ u ∷ d) r s cut cut' e) in
      let found = parameter_one a b (t ∷ (c ++ r)) (u ∷ (d ++ s)) x y g h (comma_parameter t (c ++ r) comma) (comma_parameter u (d ++ s) comma') is in
      let same = same_head t u (c ++ r) (d ++ s) found.rest in
      let others = parameter_list_one c d r s xs ys more also p q (same_tail t u (c ++ r) (d ++ s) found.rest) in
      agree _ _ r s _ _ (cc (cut, cut', found.front, same, others.front)) (cc (found.tree, others.tree)) e

  no_void_list : (t : Token) (b r s : List Token) (ys : List ParameterTree) → IsKeyword keyword.Void t → DerivesParameterList b ys → first r ≡ ParenCloses → first s ≡ ParenCloses → t ∷ r ≡ b ++ s → ⊥
  no_void_list t b r s _ g (LastParameter {tree = y} h) p q e = no_void t b r s y g h (closes_parameter r ParenCloses p refl) (closes_parameter s ParenCloses q refl) e
  no_void_list t _ r s _ g (MoreParameters c d u {tree = y} cut h comma more) p q e =
      let is : t ∷ r ≡ c ++ (u ∷ (d ++ s)) = e ∙ simp append_assoc at (ap (λ l. l ++ s) cut) in
      no_void t c r (u ∷ (d ++ s)) y g h (closes_parameter r ParenCloses p refl) (comma_parameter u (d ++ s) comma) is

  pub parameters_one : (a b r s : List Token) (x y : ParametersTree) → DerivesParameters a x → DerivesParameters b y → first r ≡ ParenCloses → first s ≡ ParenCloses → a ++ r ≡ b ++ s → Agree a b r s x y
  parameters_one _ _ r s _ _ (VoidRule {t = t} g) (VoidRule {t = u} h) p q e =
      let same = same_head t u r s e in
      agree _ _ r s _ _ (ap (λ z. z ∷ []) same) (ap (λ (z : Token). record { list = []; at = z.at }) same) e
  parameters_one _ b r s _ _ (VoidRule {t = t} g) (ParametersRule {trees = ys} h) p q e = absurd (no_void_list t b r s ys g h p q e)
  parameters_one a _ r s _ _ (ParametersRule {trees = xs} g) (VoidRule {t = u} h) p q e = absurd (no_void_list u a s r xs h g q p (sym e))
  parameters_one a b r s _ _ (ParametersRule {trees = xs} g) (ParametersRule {trees = ys} h) p q e =
      let found = parameter_list_one a b r s xs ys g h p q e in
      agree a b r s _ _ found.front (cc (found.front, found.tree)) e
