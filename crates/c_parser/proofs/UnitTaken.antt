-- An external, from what was taken of its parts.
use Rattle.std.proofs.Common.{◌≡◌, ◌<◌, ◌++◌, ◌∷◌, [], ℕ, List, length, refl, sym, ap, ◌∙◌, subst, append_assoc}
use Rattle.c_syntax.specs.declared.token.Token.{Token}
use Rattle.c_syntax.specs.declared.token.Punct.TheVariants as mark
use Rattle.c_syntax.specs.SyntaxTree.{SpecsTree, ParametersTree, ItemForm, ItemTree, DeclarationTree, Statements, Block, FunctionSyntax, Defined, Declared}
use Rattle.c_syntax.specs.Grammar.{IsMark, AreSpecs, LastSpec, MoreSpecs, AreStars, place_of}
use Rattle.c_syntax.specs.Derives.{IsNameToken, DerivesSpecs, FunctionRule, DerivesItem, DerivesDeclaration, Closed, DerivesStatement, BlockRule, DerivesFunction, DerivesExternal}
use Rattle.c_cursor.specs.Takes.{Takes, IsOne, Both, Behind}
use Rattle.c_declarations.specs.DeclarationRows.{IsItemFront}
use Rattle.c_statements.specs.StatementRows.{IsBody}
use Rattle.c_parser.specs.UnitFronts.{IsListed, IsFunctionHead}
use Rattle.c_cursor.proofs.TakesLemmas.{joined}
use Rattle.c_statements.proofs.StatementTaken.{block_taken}

-- ---- a declaration, behind the front of its first item

pub declared_taken : (specs : SpecsTree) (first : ItemTree) (x : DeclarationTree) (stars : ℕ) (name : List ℕ) (form : ItemForm) (at : ℕ) {k l m : List Token}
    → Takes (Behind (IsItemFront stars name form at) (λ all. DerivesItem all first)) k l → Takes (Behind (Both (λ a. DerivesSpecs a specs) (λ a. DerivesItem a first)) (λ all. DerivesDeclaration all x)) l m
    → Takes (Behind (Both (λ a. DerivesSpecs a specs) (IsItemFront stars name form at)) (λ all. DerivesExternal all (Declared x))) k m
declared_taken specs first x stars name form at {m = m} p q = record {
  taken = p.taken ++ q.taken;
  cut = p.cut ∙ ap (λ l. p.taken ++ l) q.cut ∙ sym (append_assoc p.taken q.taken m);
  is = λ front b.
      let item = p.is b.rest b.second in
      let all = q.is (b.front ++ (b.rest ++ p.taken)) (record { front = b.front; rest = b.rest ++ p.taken; cut = refl; first = b.first; second = item }) in
      let same : (b.front ++ (b.rest ++ p.taken)) ++ q.taken ≡ front ++ (p.taken ++ q.taken) =
      simp append_assoc (simp append_assoc at (ap (λ l. l ++ (p.taken ++ q.taken)) (sym b.cut))) in
      subst (λ l. DerivesDeclaration l x) same all;
}

-- ---- a function, behind its parameters

no_words : {words : _} → AreSpecs [] words → ⊥
no_words d = words_some d refl
  where
    words_some : {tokens : List Token} {words : _} → AreSpecs tokens words → tokens ≡ [] → ⊥
    words_some (LastSpec h) e = cc
    words_some (MoreSpecs h more) e = cc

pub head_taken : {k l m n o : List Token} (specs : SpecsTree) (stars : ℕ) (name : List ℕ) (parameters : ParametersTree)
    → Takes (λ a. DerivesSpecs a specs) k l → Takes (λ a. AreStars a stars) l m → Takes (IsOne (IsNameToken name)) m n → Takes (λ a. IsListed a parameters) n o → Takes (IsFunctionHead specs stars name parameters) k o
head_taken specs stars name parameters p q r s =
    let all = joined p (joined q (joined r s)) in
    let x = all.is in
    let y = x.second in
    let z = y.second in
    record {
      taken = all.taken;
      cut = all.cut;
      is = record {
        a = x.front;
        b = y.front;
        n = z.first.t;
        c = z.rest;
        cut = x.cut ∙ ap (λ l. x.front ++ l) (y.cut ∙ ap (λ l. y.front ++ l) (z.cut ∙ ap (λ l. l ++ z.rest) z.first.alone)) ∙ sym (append_assoc x.front y.front (z.first.t ∷ z.rest));
        are_specs = x.first;
        are_stars = y.first;
        is_name = z.first.is;
        listed = z.second;
      };
    }

block_closed : {c : _} {tokens : List Token} {xs : List DeclarationTree} {ys : Statements} {at : ℕ} → DerivesStatement c tokens (Block xs ys at) → DerivesStatement Closed tokens (Block xs ys at)
block_closed (BlockRule a b t u cut g h i j) = BlockRule a b t u cut g h i j

function_cut : (a b c d tokens head : List Token) (n t u : Token) (p : List Token) → tokens ≡ head ++ d → head ≡ a ++ b ++ n ∷ c → c ≡ t ∷ p ++ u ∷ [] → tokens ≡ a ++ b ++ n ∷ t ∷ p ++ u ∷ d
function_cut a b c d tokens head n t u p e f g = e ∙ ap (λ l. l ++ d) (f ∙ ap (λ l. a ++ b ++ n ∷ l) g) ∙ simp append_assoc refl

specs_place : (a more : List Token) (x : SpecsTree) → DerivesSpecs a x → (b : List Token) → b ≡ a ++ more → x.at ≡ place_of b
specs_place a more x d b cut = d.place ∙ first_specs a more x d ∙ sym (ap place_of cut)
  where
    first_specs : (a more : List Token) (x : SpecsTree) → DerivesSpecs a x → place_of a ≡ place_of (a ++ more)
    first_specs [] more x d = absurd (no_words d.words)
    first_specs (t ∷ a) more x d = refl

of_function : (x : FunctionSyntax) (head d : List Token) → IsFunctionHead x.specs x.stars x.name x.parameters head → x.at ≡ x.specs.at → DerivesStatement Closed d (Block x.declarations x.statements x.body_at) → DerivesFunction (head ++ d) x
of_function x head d h e body = by_list h.c h.cut h.listed
  where
    by_list : (c : List Token) → head ≡ h.a ++ h.b ++ h.n ∷ c → IsListed c x.parameters → DerivesFunction (head ++ d) x
    by_list c cut (FunctionRule p t u is m g l) =
        let whole = function_cut h.a h.b c d (head ++ d) head h.n t u p refl cut is in
        record {
          a = h.a;
          b = h.b;
          n = h.n;
          t = t;
          c = p;
          u = u;
          d = d;
          cut = whole;
          specs = h.are_specs;
          stars = h.are_stars;
          name = h.is_name;
          opens = m;
          parameters = g;
          closes = l;
          body = body;
          place = e ∙ specs_place h.a (h.b ++ (h.n ∷ t ∷ (p ++ (u ∷ d)))) x.specs h.are_specs (head ++ d) (whole ∙ simp append_assoc refl);
        }

pub function_body : (x : FunctionSyntax) {k l m : List Token} → x.at ≡ x.specs.at → (0 < length k → x.body_at ≡ place_of k) → Takes (IsOne (IsMark mark.OpenBrace)) k l → Takes (IsBody x.declarations x.statements) l m → length m < length l
    → Takes (Behind (IsFunctionHead x.specs x.stars x.name x.parameters) (λ all. DerivesExternal all (Defined x))) k m
function_body x e at p q fewer =
    let block = block_taken refl at p q fewer in
    record { taken = block.taken; cut = block.cut; is = λ head h. of_function x head block.taken h e (block_closed block.is.derives) }
