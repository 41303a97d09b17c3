-- One more part at the end of a list of parts.
use Rattle.std.proofs.Common.{◌≡◌, ℕ, max, List, [], ◌∷◌, ◌++◌, map, refl, sym, ap, subst, ◌∙◌, append_assoc, arith}
use Rattle.std.proofs.lemmas.List.{append-nil, map-append}
use Rattle.c_syntax.specs.declared.token.Token.{Token}
use Rattle.c_syntax.specs.declared.token.Punct.TheVariants as mark
use Rattle.c_syntax.specs.SyntaxTree.{Expression, ItemTree, ParameterTree, DeclarationTree, ExternalTree, UnitTree}
use Rattle.c_syntax.specs.Grammar.{AssignmentRow, IsMark, Derives}
use Rattle.c_syntax.specs.Derives.{DerivesList, LastOfList, MoreOfList, DerivesItem, DerivesItems, LastItem, MoreItems, DerivesParameter, DerivesParameterList, LastParameter, MoreParameters, DerivesDeclaration, DerivesDeclarations, NoDeclaration, MoreDeclarations, DerivesExternal, DerivesUnit, LastExternal, MoreExternals}
use Rattle.c_syntax.specs.Measures.{greatest}
use Rattle.c_cursor.specs.Takes.{Takes, IsOne, Behind}
use Rattle.c_cursor.proofs.TakesLemmas.{mapped, joined, greatest_more, one_before}

-- more tokens behind those of a list with a comma in it
cut_more : (tokens a b c : List Token) (t : Token) → tokens ≡ a ++ t ∷ b → tokens ++ c ≡ a ++ t ∷ (b ++ c)
cut_more tokens a b c t e = ap (λ l. l ++ c) e ∙ append_assoc a (t ∷ b) c

cut_next : (tokens a b c : List Token) → tokens ≡ a ++ b → tokens ++ c ≡ a ++ (b ++ c)
cut_next tokens a b c e = ap (λ l. l ++ c) e ∙ append_assoc a b c

pub list_more : (a b : List Token) (t : Token) (xs : List Expression) (y : Expression) → DerivesList a xs → IsMark mark.Comma t → Derives AssignmentRow b y → DerivesList (a ++ t ∷ b) (xs ++ y ∷ [])
list_more a b t xs y (LastOfList d) m e = MoreOfList a b t refl d m (LastOfList e)
list_more a b t xs y (MoreOfList c f u {trees = rest} cut d n ds) m e = MoreOfList c (f ++ t ∷ b) u (cut_more a c f (t ∷ b) u cut) d n (list_more f b t rest y ds m e)

pub items_more : (a b : List Token) (t : Token) (xs : List ItemTree) (y : ItemTree) → DerivesItems a xs → IsMark mark.Comma t → DerivesItem b y → DerivesItems (a ++ t ∷ b) (xs ++ y ∷ [])
items_more a b t xs y (LastItem d) m e = MoreItems a b t refl d m (LastItem e)
items_more a b t xs y (MoreItems c f u {trees = rest} cut d n ds) m e = MoreItems c (f ++ t ∷ b) u (cut_more a c f (t ∷ b) u cut) d n (items_more f b t rest y ds m e)

pub parameters_more : (a b : List Token) (t : Token) (xs : List ParameterTree) (y : ParameterTree) → DerivesParameterList a xs → IsMark mark.Comma t → DerivesParameter b y → DerivesParameterList (a ++ t ∷ b) (xs ++ y ∷ [])
parameters_more a b t xs y (LastParameter d) m e = MoreParameters a b t refl d m (LastParameter e)
parameters_more a b t xs y (MoreParameters c f u {trees = rest} cut d n ds) m e = MoreParameters c (f ++ t ∷ b) u (cut_more a c f (t ∷ b) u cut) d n (parameters_more f b t rest y ds m e)

pub declarations_more : (a b : List Token) (xs : List DeclarationTree) (y : DeclarationTree) → DerivesDeclarations a xs → DerivesDeclaration b y → DerivesDeclarations (a ++ b) (xs ++ y ∷ [])
declarations_more a b xs y NoDeclaration e = MoreDeclarations b [] (sym (append-nil b)) e NoDeclaration
declarations_more a b xs y (MoreDeclarations c f {trees = rest} cut d ds) e = MoreDeclarations c (f ++ b) (cut_next a c f b cut) d (declarations_more f b rest y ds e)

pub externals_more : (a b : List Token) (xs : UnitTree) (y : ExternalTree) → DerivesUnit a xs → DerivesExternal b y → DerivesUnit (a ++ b) (xs ++ y ∷ [])
externals_more a b xs y (LastExternal d) e = MoreExternals a b refl d (LastExternal e)
externals_more a b xs y (MoreExternals c f {trees = rest} cut d ds) e = MoreExternals c (f ++ b) (cut_next a c f b cut) d (externals_more f b rest y ds e)

-- a list that grows at its end, and its height
pub begun : {A T : Type 0} (f : A → T) (Many : List Token → List T → Type 0) {k l : List Token} {x : A} {none items : List A}
    → none ≡ [] → items ≡ none ++ x ∷ [] → Takes (λ all. Many all (f x ∷ [])) k l → Takes (λ all. Many all (map f items)) k l
begun f Many {k = k} {l = l} {x = x} e h r = subst (λ v. Takes (λ all. Many all (map f v)) k l) (sym (h ∙ ap (λ v. v ++ x ∷ []) e)) r

pub grown : {A T : Type 0} (f : A → T) (Many : List Token → List T → Type 0) {k l : List Token} (x : A) (items : List A) {more : List A}
    → more ≡ items ++ x ∷ [] → Takes (λ all. Many all (map f items ++ f x ∷ [])) k l → Takes (λ all. Many all (map f more)) k l
grown f Many {k = k} {l = l} x items h r =
    subst (λ v. Takes (λ all. Many all v) k l) (sym (map-append f items (x ∷ [])) ∙ ap (map f) (sym h)) r

pub height_begun : {A T : Type 0} (f : A → T) (h : T → ℕ) {x : A} {none items : List A} {n : ℕ}
    → none ≡ [] → items ≡ none ++ x ∷ [] → n ≡ h (f x) → n ≡ greatest (map h (map f items))
height_begun f h {x = x} {items = items} {n = n} e g m =
    let same : items ≡ x ∷ [] = g ∙ ap (λ v. v ++ x ∷ []) e in
    let all : greatest (map h (map f items)) ≡ max 0 (h (f x)) = ap (λ v. greatest (map h (map f v))) same in
    omega (arith, all)

pub height_grown : {A T : Type 0} (f : A → T) (h : T → ℕ) (x : A) (items : List A) {more : List A} {m n r : ℕ}
    → more ≡ items ++ x ∷ [] → m ≡ greatest (map h (map f items)) → n ≡ h (f x) → r ≡ max m n → r ≡ greatest (map h (map f more))
height_grown f h x items {more = more} {m = m} {n = n} {r = r} g e k d =
    let same : map h (map f more) ≡ map h (map f items) ++ h (f x) ∷ [] = ap (λ v. map h (map f v)) g ∙ ap (map h) (map-append f items (x ∷ [])) ∙ map-append h (map f items) (f x ∷ []) in
    let all : greatest (map h (map f more)) ≡ max (greatest (map h (map f items))) (h (f x)) = ap greatest same ∙ greatest_more (map h (map f items)) (h (f x)) in
    d ∙ ap (λ v. max v n) e ∙ ap (λ v. max (greatest (map h (map f items))) v) k ∙ sym all

-- a comma and one more part, or one more part alone
pub with_comma : {L R S : List Token → Type 0} {k l m n : List Token} → ((a b : List Token) (t : Token) → L a → IsMark mark.Comma t → R b → S (a ++ t ∷ b))
    → Takes L k l → Takes (IsOne (IsMark mark.Comma)) l m → Takes R m n → Takes S k n
with_comma {S = S} f p q r = mapped (λ a x. subst S (sym (x.cut ∙ ap (λ v. x.front ++ v) (one_before x.second))) (f x.front x.second.rest x.second.first.t x.first x.second.first.is x.second.second)) (joined p (joined q r))

pub with_next : {L R S : List Token → Type 0} {k l m : List Token} → ((a b : List Token) → L a → R b → S (a ++ b)) → Takes L k l → Takes R l m → Takes S k m
with_next {S = S} f p q = mapped (λ a x. subst S (sym x.cut) (f x.front x.rest x.first x.second)) (joined p q)

-- the same behind tokens that were taken before
pub behind_comma : (First Many R More : List Token → Type 0) → ((a b : List Token) (t : Token) → Many a → IsMark mark.Comma t → R b → More (a ++ t ∷ b))
    → (a b : List Token) (t : Token) → Behind First Many a → IsMark mark.Comma t → R b → Behind First More (a ++ t ∷ b)
behind_comma First Many R More f a b t p m r front first = subst More (append_assoc front a (t ∷ b)) (f (front ++ a) b t (p front first) m r)
