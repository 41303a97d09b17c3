-- The rows of declarations from their parts.
use Rattle.std.proofs.Common.{◌≡◌, ℕ, ◌<◌, ◌&&◌, Bool, true, false, not, List, [], ◌∷◌, ◌++◌, Option, Some, length, inr, refl, sym, ap, subst, ◌∙◌, append_assoc}
use Rattle.c_syntax.specs.declared.token.Token.{Token}
use Rattle.c_syntax.specs.declared.token.TokenKind.{TokenKind}
use Rattle.c_syntax.specs.declared.token.TokenKind.TheVariants as token
use Rattle.c_syntax.specs.declared.token.Keyword.TheVariants as keyword
use Rattle.c_syntax.specs.declared.token.Punct.TheVariants as mark
use Rattle.c_syntax.specs.declared.syntax.SpecWord.{SpecWord}
use Rattle.c_syntax.specs.SyntaxTree.{Expression, InitialTree, Braced, ItemTree, ItemForm, Parameters, DeclarationTree, ParameterTree, ParametersTree}
use Rattle.c_syntax.specs.Grammar.{ConditionalRow, IsMark, IsKeyword, place_of, AreSpecs, LastSpec, MoreSpecs, AreStars}
use Rattle.c_syntax.specs.Derives.{IsNameToken, IsLastComma, DerivesSpecs, DerivesOptional, DerivesList, DerivesInitial, BracedRule, DerivesInitialiser, DerivesArray, ArrayRule, DerivesArrayMark, DerivesName, DerivesParameter, DerivesParameterList, DerivesParameters, VoidRule, ParametersRule, DerivesForm, FunctionRule, DerivesItem, DerivesItems, DerivesDeclaration}
use Rattle.c_cursor.specs.Front.{behind, is_void_word, is_void_alone, is_separator_at, is_separator_kind, is_close_kind, is_void_kind}
use Rattle.c_cursor.specs.Takes.{Takes, IsOne, Both, Behind}
use Rattle.c_declarations.specs.DeclarationRows.{IsItemFront}
use Rattle.c_cursor.proofs.TakesLemmas.{mapped, joined, place_taken, one_before, one_behind, one_place}

-- a length in brackets
array_row : (x : Option Expression) (all : List Token) → Both (IsOne (IsMark mark.OpenBracket)) (Both (λ a. DerivesOptional ConditionalRow a x) (IsOne (IsMark mark.CloseBracket))) all → DerivesArray all x
array_row x all r = ArrayRule r.second.front r.first.t r.second.second.t (one_before r ∙ ap (λ l. r.first.t ∷ l) (one_behind r.second)) r.first.is r.second.first r.second.second.is

pub array_taken : (x : Option Expression) {k l m n : List Token} → Takes (IsOne (IsMark mark.OpenBracket)) k l → Takes (λ a. DerivesOptional ConditionalRow a x) l m → Takes (IsOne (IsMark mark.CloseBracket)) m n → Takes (λ all. DerivesArray all x) k n
array_taken x p q r = mapped (array_row x) (joined p (joined q r))

grouped : (a b c d : List Token) → a ++ (b ++ (c ++ d)) ≡ a ++ b ++ c ++ d
grouped a b c d = simp append_assoc

-- the one word `void` stands before no separator
void_alone : (t : Token) (k l : List Token) → k ≡ t ∷ l → IsKeyword keyword.Void t → is_void_word k ≡ false → is_separator_at l ≡ true → ⊥
void_alone t k [] e w v s = cc
void_alone t k (u ∷ l) e w v s =
    let word : is_void_kind t.kind ≡ true = ap is_void_kind w in
    let both : is_void_word k ≡ (is_void_kind t.kind && is_separator_kind u.kind) = ap is_void_word e in
    cc (both, word, s, v, ap (λ b. b && is_separator_kind u.kind) word)

-- a parameter: what is left begins with , or )
pub is_parameter : (x : ParameterTree) {k l : List Token} → is_void_word k ≡ false → is_separator_at l ≡ true → x.at ≡ place_of k → length l < length k
    → (r : Takes (Both (λ a. DerivesSpecs a x.specs) (Both (λ a. AreStars a x.stars) (Both (λ a. DerivesName a x.name) (λ a. DerivesArrayMark a x.array)))) k l) → DerivesParameter r.taken x
is_parameter x {k = k} {l = l} v s p h r = record {
  a = r.is.front;
  b = r.is.second.front;
  c = r.is.second.second.front;
  d = r.is.second.second.rest;
  cut = r.is.cut ∙ ap (λ l. r.is.front ++ l) (r.is.second.cut ∙ ap (λ l. r.is.second.front ++ l) r.is.second.second.cut) ∙ grouped r.is.front r.is.second.front r.is.second.second.front r.is.second.second.rest;
  specs = r.is.first;
  stars = r.is.second.first;
  name = r.is.second.second.first;
  array = r.is.second.second.second;
  not_void = λ t alone is_void. void_alone t k l (r.cut ∙ ap (λ a. a ++ l) alone) is_void v s;
  place = p ∙ sym (place_taken r h);
}

-- parameters, or `void` alone
void_kind : (k : TokenKind) (b : Bool) → (is_void_kind k && b) ≡ true → k ≡ token.Word keyword.Void
void_kind (token.Word keyword.Void) b e = refl
void_kind k b e = absurd cc

pub void_taken : (k l : List Token) → is_void_alone k ≡ true → l ≡ behind k → Takes (IsOne (IsKeyword keyword.Void)) k l
void_taken [] l e h = absurd cc
void_taken (t ∷ []) l e h = absurd cc
void_taken (t ∷ u ∷ k) l e h = record { taken = t ∷ []; cut = ap (λ v. t ∷ v) (sym h); is = record { t = t; alone = refl; is = void_kind t.kind (is_close_kind u.kind) e } }

void_row : (at : ℕ) (list : List ParameterTree) (all : List Token) (r : IsOne (IsKeyword keyword.Void) all) → at ≡ r.t.at → list ≡ [] → DerivesParameters all (record { list = list; at = at })
void_row at list all r p n = subst (λ v. DerivesParameters v (record { list = list; at = at })) (sym r.alone)
    (subst (λ v. DerivesParameters (r.t ∷ []) (record { list = v; at = at })) (sym n)
    (subst (λ v. DerivesParameters (r.t ∷ []) (record { list = []; at = v })) (sym p) (VoidRule r.is)))

pub no_parameters : {k l : List Token} {at : ℕ} {list : List ParameterTree} → Takes (IsOne (IsKeyword keyword.Void)) k l → at ≡ place_of k → list ≡ [] → Takes (λ all. DerivesParameters all (record { list = list; at = at })) k l
no_parameters {at = at} {list = list} r p n = record { taken = r.taken; cut = r.cut; is = void_row at list r.taken r.is (p ∙ one_place r) n }

pub parameters_taken : {k l : List Token} {at : ℕ} {list : List ParameterTree} → (r : Takes (λ all. DerivesParameterList all list) k l) → length l < length k → at ≡ place_of k → Takes (λ all. DerivesParameters all (record { list = list; at = at })) k l
parameters_taken {list = list} r h p = record { taken = r.taken; cut = r.cut; is = subst (λ v. DerivesParameters r.taken (record { list = list; at = v })) (place_taken r h ∙ sym p) (ParametersRule r.is) }

-- what stands behind the name of an item
function_row : (x : ParametersTree) (all : List Token) → Both (IsOne (IsMark mark.OpenParen)) (Both (λ a. DerivesParameters a x) (IsOne (IsMark mark.CloseParen))) all → DerivesForm all (Parameters x)
function_row x all r = FunctionRule r.second.front r.first.t r.second.second.t (one_before r ∙ ap (λ l. r.first.t ∷ l) (one_behind r.second)) r.first.is r.second.first r.second.second.is

pub function_taken : (x : ParametersTree) {k l m n : List Token} → Takes (IsOne (IsMark mark.OpenParen)) k l → Takes (λ a. DerivesParameters a x) l m → Takes (IsOne (IsMark mark.CloseParen)) m n → Takes (λ all. DerivesForm all (Parameters x)) k n
function_taken x p q r = mapped (function_row x) (joined p (joined q r))

-- initialisers
pub initial_taken : {x : InitialTree} {k l m : List Token} → Takes (IsOne (IsMark mark.Assign)) k l → Takes (λ a. DerivesInitial a x) l m → Takes (λ all. DerivesInitialiser all (Some x)) k m
initial_taken p q = mapped (λ a r. (r.first.t, r.rest, one_before r, r.first.is, r.second)) (joined p q)

braced_row : (xs : List Expression) (at : ℕ) (all : List Token) → (r : Both (IsOne (IsMark mark.OpenBrace)) (Both (Both (λ a. DerivesList a xs) IsLastComma) (IsOne (IsMark mark.CloseBrace))) all) → at ≡ r.first.t.at → DerivesInitial all (Braced xs at)
braced_row xs at all r p = subst (λ v. DerivesInitial all (Braced xs v)) (sym p)
    (BracedRule r.second.first.front r.second.first.rest r.first.t r.second.second.t (one_before r ∙ ap (λ l. r.first.t ∷ l) (one_behind r.second ∙ ap (λ l. l ++ r.second.second.t ∷ []) r.second.first.cut)) r.first.is r.second.first.first r.second.first.second r.second.second.is)

pub braced_taken : (xs : List Expression) {k l m n : List Token} → Takes (IsOne (IsMark mark.OpenBrace)) k l → Takes (Both (λ a. DerivesList a xs) IsLastComma) l m → Takes (IsOne (IsMark mark.CloseBrace)) m n → Takes (λ all. DerivesInitial all (Braced xs (place_of k))) k n
braced_taken xs {k = k} {n = n} p q r = let all = joined p (joined q r) in
    record { taken = all.taken; cut = all.cut; is = braced_row xs (place_of k) all.taken all.is (ap place_of (all.cut ∙ ap (λ l. l ++ n) (one_before all.is))) }

front_place : (a : List Token) (t : Token) (b c : List Token) → place_of (a ++ t ∷ b ++ c) ≡ place_of (a ++ t ∷ b)
front_place [] t b c = refl
front_place (u ∷ a) t b c = refl

-- an item from its front
item_row : (x : ItemTree) (front taken : List Token) → IsItemFront x.stars x.name x.form x.at front → DerivesInitialiser taken x.initial → DerivesItem (front ++ taken) x
item_row x front taken f i = record {
  a = f.a;
  t = f.t;
  b = f.b;
  c = taken;
  cut = ap (λ l. l ++ taken) f.cut;
  stars = f.are_stars;
  name = f.is_name;
  form = f.is_form;
  initial = i;
  place = f.place ∙ ap place_of f.cut ∙ sym (front_place f.a f.t f.b taken) ∙ sym (ap (λ l. place_of (l ++ taken)) f.cut);
}

pub item_behind : (x : ItemTree) {k l : List Token} → Takes (λ taken. DerivesInitialiser taken x.initial) k l → Takes (Behind (IsItemFront x.stars x.name x.form x.at) (λ all. DerivesItem all x)) k l
item_behind x r = mapped (λ taken i front f. item_row x front taken f i) r

pub item_front : (stars : ℕ) (name : List ℕ) (form : ItemForm) (at : ℕ) {k l m n : List Token} → Takes (λ a. AreStars a stars) k l → Takes (IsOne (IsNameToken name)) l m → Takes (λ a. DerivesForm a form) m n
    → length n < length k → at ≡ place_of k → Takes (IsItemFront stars name form at) k n
item_front stars name form at p q r h e = let all = joined p (joined q r) in record {
  taken = all.taken;
  cut = all.cut;
  is = record {
    a = all.is.front;
    t = all.is.second.first.t;
    b = all.is.second.rest;
    cut = all.is.cut ∙ ap (λ l. all.is.front ++ l) (one_before all.is.second);
    are_stars = all.is.first;
    is_name = all.is.second.first.is;
    is_form = all.is.second.second;
    place = e ∙ sym (place_taken all h);
  };
}

-- a declaration from its specs and its first item
specs_place : (a r : List Token) (words : List SpecWord) → AreSpecs a words → place_of (a ++ r) ≡ place_of a
specs_place a r words (LastSpec e) = refl
specs_place a r words (MoreSpecs e more) = refl

pub declaration_behind : (x : DeclarationTree) (first : ItemTree) {k l m : List Token} → x.at ≡ x.specs.at → Takes (Behind (λ a. DerivesItem a first) (λ all. DerivesItems all x.items)) k l → Takes (IsOne (IsMark mark.Semicolon)) l m
    → Takes (Behind (Both (λ a. DerivesSpecs a x.specs) (λ a. DerivesItem a first)) (λ all. DerivesDeclaration all x)) k m
declaration_behind x first e p q = mapped (λ a r front f. record {
  a = f.front;
  b = f.rest ++ r.front;
  t = r.second.t;
  cut = ap (λ l. l ++ a) f.cut ∙ ap (λ l. (f.front ++ f.rest) ++ l) (one_behind r) ∙ simp append_assoc;
  specs = f.first;
  items = r.first f.rest f.second;
  ends = r.second.is;
  place = e ∙ f.first.place ∙ sym (specs_place f.front (f.rest ++ a) x.specs.words f.first.words) ∙ ap place_of (sym (append_assoc f.front f.rest a)) ∙ sym (ap (λ l. place_of (l ++ a)) f.cut);
}) (joined p q)
