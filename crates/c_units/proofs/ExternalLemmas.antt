-- The tokens of an external lead from its start, or from behind an `extern`, to the start of the next.
use Rattle.std.proofs.Common.{◌≡◌, ◌∙◌, ℕ, Bool, false, List, [], ◌∷◌, ◌++◌, Option, Some, None, refl, sym, ap, subst, inl, inr, append_assoc}
use Rattle.c_tree.specs.c_syntax.declared.token.Token.{Token}
use Rattle.c_tree.specs.c_syntax.declared.token.TokenKind.TheVariants.{Word, Name, Mark}
use Rattle.c_tree.specs.c_syntax.declared.token.Punct.TheVariants as mark
use Rattle.c_tree.specs.c_syntax.declared.syntax.SpecWord.{SpecWord}
use Rattle.c_tree.specs.c_syntax.declared.syntax.SpecWord.TheVariants as word
use Rattle.c_tree.specs.c_syntax.SyntaxTree as tree
use Rattle.c_tree.specs.c_syntax.SyntaxTree.{Expression, ArrayMark, ParameterTree, ParametersTree, ItemForm, InitialTree, ItemTree, DeclarationTree, Statement, Statements, Choices, FunctionSyntax, ExternalTree, Defined, Declared}
use Rattle.c_tree.specs.c_syntax.Grammar.{Row, IsMark, IsKeyword, spec_keyword, AreSpecs, LastSpec, MoreSpecs}
use Rattle.c_tree.specs.c_syntax.Derives.{DerivesOptional, DerivesList, LastOfList, MoreOfList, IsLastComma, DerivesInitial, OneRule, BracedRule, DerivesArray, ArrayRule, DerivesArrayMark, DerivesName, DerivesParameter, DerivesParameterList, LastParameter, MoreParameters, DerivesParameters, VoidRule, ParametersRule, DerivesForm, PlainRule, FunctionRule, ArrayFormRule, DerivesInitialiser, DerivesItem, DerivesItems, LastItem, MoreItems, DerivesDeclaration, DerivesDeclarations, NoDeclaration, MoreDeclarations}
use Rattle.c_tree.specs.c_syntax.Derives.{Closing, Closed, IsTested, IsForHead, DerivesStatement, EmptyRule, EvaluateRule, BlockRule, BreakRule, ContinueRule, ReturnRule, DoRule, IfRule, IfElseRule, WhileRule, ForRule, SwitchRule, DerivesStatements, NoStatement, MoreStatements, DerivesChoices, NoChoice, CaseRule, DefaultRule, ChosenRule, DerivesFunction, DerivesExternal}
use Rattle.c_units.specs.Externs.{AtStart, Within, Braced, outside, inside, is_extern}
use Rattle.c_units.proofs.ListLemmas.{all_joined}
use Rattle.c_units.proofs.CalmLemmas.{IsCalm, AreCalm, calm, between, stars_calm, specs_calm, expression_calm}
use Rattle.c_units.proofs.PositionLemmas.{Leads, one, join, Stays, stay_nothing, stay_both, stay_one, calm_stays, stay_braced, Passes, pass_nothing, pass_both, pass_one, calm_passes, pass_listed}

-- ---- tokens with no brace and no `;`

optional_calm : (row : Row) (tokens : List Token) (e : Option Expression) → DerivesOptional row tokens e → AreCalm tokens
optional_calm row tokens None d = subst AreCalm (sym d) (tt {0})
optional_calm row tokens (Some e) d = expression_calm row tokens e d

array_calm : (tokens : List Token) (size : Option Expression) → DerivesArray tokens size → AreCalm tokens
array_calm tokens size (ArrayRule a t u cut m d n) = subst AreCalm (sym cut) (all_joined IsCalm (t ∷ a) (u ∷ []) (calm t _ m refl, optional_calm _ a size d) (calm u _ n refl, tt {0}))

array_mark_calm : (tokens : List Token) (m : ArrayMark) → DerivesArrayMark tokens m → AreCalm tokens
array_mark_calm tokens None d = subst AreCalm (sym d) (tt {0})
array_mark_calm tokens (Some size) d = array_calm tokens size d

name_calm : (tokens : List Token) (name : Option (List ℕ)) → DerivesName tokens name → AreCalm tokens
name_calm tokens None d = subst AreCalm (sym d) (tt {0})
name_calm tokens (Some name) d = subst AreCalm (sym d.1) (calm d.0 (Name name) d.2 refl, tt {0})

parameter_calm : (tokens : List Token) (p : ParameterTree) → DerivesParameter tokens p → AreCalm tokens
parameter_calm tokens p d =
    subst AreCalm (sym d.cut)
    (all_joined IsCalm (d.a ++ d.b ++ d.c) d.d (all_joined IsCalm (d.a ++ d.b) d.c (all_joined IsCalm d.a d.b (specs_calm d.a _ d.specs.words) (stars_calm d.b p.stars d.stars)) (name_calm d.c p.name d.name)) (array_mark_calm d.d p.array d.array))

parameter_list_calm : (tokens : List Token) (ps : List ParameterTree) → DerivesParameterList tokens ps → AreCalm tokens
parameter_list_calm tokens _ (LastParameter {tree = p} d) = parameter_calm tokens p d
parameter_list_calm tokens _ (MoreParameters a b t {tree = p} {trees = ps} cut d m more) = between tokens a b t cut (parameter_calm a p d) (calm t _ m refl) (parameter_list_calm b ps more)

parameters_calm : (tokens : List Token) (p : ParametersTree) → DerivesParameters tokens p → AreCalm tokens
parameters_calm _ _ (VoidRule {t = t} k) = (calm t _ k refl, tt {0})
parameters_calm tokens _ (ParametersRule {trees = ps} d) = parameter_list_calm tokens ps d

form_calm : (tokens : List Token) (f : ItemForm) → DerivesForm tokens f → AreCalm tokens
form_calm tokens f PlainRule = tt {0}
form_calm tokens f (FunctionRule a t u {tree = p} cut m d n) = subst AreCalm (sym cut) (all_joined IsCalm (t ∷ a) (u ∷ []) (calm t _ m refl, parameters_calm a p d) (calm u _ n refl, tt {0}))
form_calm tokens f (ArrayFormRule {length = size} d) = array_calm tokens size d

list_calm : (tokens : List Token) (es : List Expression) → DerivesList tokens es → AreCalm tokens
list_calm tokens _ (LastOfList {tree = e} d) = expression_calm _ tokens e d
list_calm tokens _ (MoreOfList a b t {tree = e} {trees = es} cut d m more) = between tokens a b t cut (expression_calm _ a e d) (calm t _ m refl) (list_calm b es more)

comma_calm : (tokens : List Token) → IsLastComma tokens → AreCalm tokens
comma_calm tokens (inl none) = subst AreCalm (sym none) (tt {0})
comma_calm tokens (inr some) = subst AreCalm (sym some.1) (calm some.0 _ some.2 refl, tt {0})

-- ---- initialisers and items

initialiser_passes : (tokens : List Token) (i : Option InitialTree) → DerivesInitialiser tokens i → Passes tokens
initialiser_passes tokens None d = subst Passes (sym d) pass_nothing
initialiser_passes tokens (Some i) d = by d.1 i d.4 d.2
  where
    by : (a : List Token) (i : InitialTree) → DerivesInitial a i → tokens ≡ d.0 ∷ a → Passes tokens
    by a _ (OneRule {tree = e} derives) is = subst Passes (sym is) (calm_passes (d.0 ∷ a) (calm d.0 _ d.3 refl, expression_calm _ a e derives))
    by a _ (BracedRule l c t u {trees = es} cut opens list last closes) is =
        let inner = calm_stays (l ++ c) (all_joined IsCalm l c (list_calm l es list) (comma_calm c last)) in
        subst Passes (sym (is ∙ ap (λ x. d.0 ∷ x) cut)) (pass_listed d.0 t u (l ++ c) d.3 opens inner closes)

initialiser_stays : (tokens : List Token) (i : Option InitialTree) → DerivesInitialiser tokens i → Stays tokens
initialiser_stays tokens None d = subst Stays (sym d) stay_nothing
initialiser_stays tokens (Some i) d = by d.1 i d.4 d.2
  where
    by : (a : List Token) (i : InitialTree) → DerivesInitial a i → tokens ≡ d.0 ∷ a → Stays tokens
    by a _ (OneRule {tree = e} derives) is = subst Stays (sym is) (calm_stays (d.0 ∷ a) (calm d.0 _ d.3 refl, expression_calm _ a e derives))
    by a _ (BracedRule l c t u {trees = es} cut opens list last closes) is =
        let inner = calm_stays (l ++ c) (all_joined IsCalm l c (list_calm l es list) (comma_calm c last)) in
        subst Stays (sym (is ∙ ap (λ x. d.0 ∷ x) cut)) (stay_both (d.0 ∷ []) (t ∷ l ++ c ++ u ∷ []) (calm_stays (d.0 ∷ []) (calm d.0 _ d.3 refl, tt {0})) (stay_braced t u (l ++ c) opens inner closes))

item_front_calm : (tokens : List Token) (i : ItemTree) (d : DerivesItem tokens i) → AreCalm (d.a ++ d.t ∷ d.b)
item_front_calm tokens i d = all_joined IsCalm d.a (d.t ∷ d.b) (stars_calm d.a i.stars d.stars) (calm d.t (Name i.name) d.name refl, form_calm d.b i.form d.form)

item_passes : (tokens : List Token) (i : ItemTree) → DerivesItem tokens i → Passes tokens
item_passes tokens i d = subst Passes (sym d.cut) (pass_both (d.a ++ d.t ∷ d.b) d.c (calm_passes (d.a ++ d.t ∷ d.b) (item_front_calm tokens i d)) (initialiser_passes d.c i.initial d.initial))

item_stays : (tokens : List Token) (i : ItemTree) → DerivesItem tokens i → Stays tokens
item_stays tokens i d = subst Stays (sym d.cut) (stay_both (d.a ++ d.t ∷ d.b) d.c (calm_stays (d.a ++ d.t ∷ d.b) (item_front_calm tokens i d)) (initialiser_stays d.c i.initial d.initial))

items_pass : (tokens : List Token) (is : List ItemTree) → DerivesItems tokens is → Passes tokens
items_pass tokens _ (LastItem {tree = i} d) = item_passes tokens i d
items_pass tokens _ (MoreItems a b t {tree = i} {trees = is} cut d m more) =
    subst Passes (sym cut) (pass_both a (t ∷ b) (item_passes a i d) (pass_both (t ∷ []) b (pass_one t (calm t _ m refl)) (items_pass b is more)))

items_stay : (tokens : List Token) (is : List ItemTree) → DerivesItems tokens is → Stays tokens
items_stay tokens _ (LastItem {tree = i} d) = item_stays tokens i d
items_stay tokens _ (MoreItems a b t {tree = i} {trees = is} cut d m more) =
    subst Stays (sym cut) (stay_both a (t ∷ b) (item_stays a i d) (stay_both (t ∷ []) b (calm_stays (t ∷ []) (calm t _ m refl, tt {0})) (items_stay b is more)))

-- ---- within a body

semicolon_stays : (t : Token) → IsMark mark.Semicolon t → Stays (t ∷ [])
semicolon_stays t is = stay_one t (Mark mark.Semicolon) is (λ list depth. refl)

calm_one : (t : Token) → IsCalm t → Stays (t ∷ [])
calm_one t is = calm_stays (t ∷ []) (is, tt {0})

declarations_stay : (tokens : List Token) (ds : List DeclarationTree) → DerivesDeclarations tokens ds → Stays tokens
declarations_stay tokens _ NoDeclaration = stay_nothing
declarations_stay tokens _ (MoreDeclarations a b {tree = d} {trees = ds} cut h more) = subst Stays (sym cut) (stay_both a b declaration (declarations_stay b ds more))
  where
    declaration : Stays a
    declaration = subst Stays (sym h.cut) (stay_both (h.a ++ h.b) (h.t ∷ []) (stay_both h.a h.b (calm_stays h.a (specs_calm h.a _ h.specs.words)) (items_stay h.b d.items h.items)) (semicolon_stays h.t h.ends))

tested_stays : (ks tokens : List Token) (e : Expression) → Stays ks → IsTested ks tokens e → Stays tokens
tested_stays ks tokens e first h =
    subst Stays (sym h.cut)
    (stay_both (ks ++ h.t ∷ h.a) (h.u ∷ []) (stay_both ks (h.t ∷ h.a) first (calm_stays (h.t ∷ h.a) (calm h.t _ h.opens refl, expression_calm _ h.a e h.test))) (calm_one h.u (calm h.u _ h.closes refl)))

for_stays : (tokens : List Token) (x y z : Option Expression) → IsForHead tokens x y z → Stays tokens
for_stays tokens x y z h =
    subst Stays (sym h.cut)
    (stay_both (h.k ∷ h.t ∷ h.a ++ h.u ∷ h.b ++ h.v ∷ h.c) (h.w ∷ [])
    (stay_both (h.k ∷ h.t ∷ h.a ++ h.u ∷ h.b) (h.v ∷ h.c)
    (stay_both (h.k ∷ h.t ∷ h.a) (h.u ∷ h.b) (calm_stays (h.k ∷ h.t ∷ h.a) (calm h.k _ h.for refl, (calm h.t _ h.opens refl, optional_calm _ h.a x h.first_part)))
    (stay_both (h.u ∷ []) h.b (semicolon_stays h.u h.first_ends) (calm_stays h.b (optional_calm _ h.b y h.test_part))))
    (stay_both (h.v ∷ []) h.c (semicolon_stays h.v h.test_ends) (calm_stays h.c (optional_calm _ h.c z h.third_part)))) (calm_one h.w (calm h.w _ h.closes refl)))

mutual
  statement_stays : (closing : Closing) (tokens : List Token) (s : Statement) → DerivesStatement closing tokens s → Stays tokens
  statement_stays closing _ _ (EmptyRule {t = t} m) = semicolon_stays t m
  statement_stays closing tokens _ (EvaluateRule a t {tree = e} cut d m) = subst Stays (sym cut) (stay_both a (t ∷ []) (calm_stays a (expression_calm _ a e d)) (semicolon_stays t m))
  statement_stays closing tokens _ (BlockRule a b t u {declarations = ds} {statements = ss} cut m d r n) =
      subst Stays (sym cut) (stay_braced t u (a ++ b) m (stay_both a b (declarations_stay a ds d) (statements_stay b ss r)) n)
  statement_stays closing _ _ (BreakRule {t = t} {u = u} k m) = stay_both (t ∷ []) (u ∷ []) (calm_one t (calm t _ k refl)) (semicolon_stays u m)
  statement_stays closing _ _ (ContinueRule {t = t} {u = u} k m) = stay_both (t ∷ []) (u ∷ []) (calm_one t (calm t _ k refl)) (semicolon_stays u m)
  statement_stays closing tokens _ (ReturnRule a t u {value = e} cut k d m) = subst Stays (sym cut) (stay_both (t ∷ a) (u ∷ []) (calm_stays (t ∷ a) (calm t _ k refl, optional_calm _ a e d)) (semicolon_stays u m))
  statement_stays closing tokens _ (DoRule inner a b t u v {body = s} {test = e} cut k d l h m) =
      subst Stays (sym cut)
      (stay_both (t ∷ a ++ b) (v ∷ []) (stay_both (t ∷ a) b (stay_both (t ∷ []) a (calm_one t (calm t _ k refl)) (statement_stays inner a s d)) (tested_stays (u ∷ []) b e (calm_one u (calm u _ l refl)) h)) (semicolon_stays v m))
  statement_stays closing tokens _ (IfRule inner a b t {test = e} {yes = s} cut k h d) = subst Stays (sym cut) (stay_both a b (tested_stays (t ∷ []) a e (calm_one t (calm t _ k refl)) h) (statement_stays inner b s d))
  statement_stays closing tokens _ (IfElseRule a b c t u {test = e} {yes = x} {no = y} cut k h d l r) =
      subst Stays (sym cut)
      (stay_both (a ++ b) (u ∷ c) (stay_both a b (tested_stays (t ∷ []) a e (calm_one t (calm t _ k refl)) h) (statement_stays Closed b x d)) (stay_both (u ∷ []) c (calm_one u (calm u _ l refl)) (statement_stays closing c y r)))
  statement_stays closing tokens _ (WhileRule a b t {test = e} {body = s} cut k h d) = subst Stays (sym cut) (stay_both a b (tested_stays (t ∷ []) a e (calm_one t (calm t _ k refl)) h) (statement_stays closing b s d))
  statement_stays closing tokens _ (ForRule a b {first = x} {test = y} {third = z} {body = s} cut h d) = subst Stays (sym cut) (stay_both a b (for_stays a x y z h) (statement_stays closing b s d))
  statement_stays closing tokens _ (SwitchRule a b t u v {value = e} {choices = cs} cut k h m d n) =
      subst Stays (sym (cut ∙ append_assoc a (u ∷ b) (v ∷ []))) (stay_both a (u ∷ b ++ v ∷ []) (tested_stays (t ∷ []) a e (calm_one t (calm t _ k refl)) h) (stay_braced u v b m (choices_stay b cs d) n))

  statements_stay : (tokens : List Token) (ss : Statements) → DerivesStatements tokens ss → Stays tokens
  statements_stay tokens _ NoStatement = stay_nothing
  statements_stay tokens _ (MoreStatements closing a b {tree = s} {trees = ss} cut d r) = subst Stays (sym cut) (stay_both a b (statement_stays closing a s d) (statements_stay b ss r))

  choices_stay : (tokens : List Token) (cs : Choices) → DerivesChoices tokens cs → Stays tokens
  choices_stay tokens _ NoChoice = stay_nothing
  choices_stay tokens _ (CaseRule a b t u {value = e} {choices = cs} cut k d m r) =
      subst Stays (sym cut) (stay_both (t ∷ a) (u ∷ b) (calm_stays (t ∷ a) (calm t _ k refl, expression_calm _ a e d)) (stay_both (u ∷ []) b (calm_one u (calm u _ m refl)) (choices_stay b cs r)))
  choices_stay tokens _ (DefaultRule a t u {choices = cs} cut k m r) = subst Stays (sym cut) (stay_both (t ∷ u ∷ []) a (calm_stays (t ∷ u ∷ []) (calm t _ k refl, (calm u _ m refl, tt {0}))) (choices_stay a cs r))
  choices_stay tokens _ (ChosenRule closing a b {tree = s} {choices = cs} cut d r) = subst Stays (sym cut) (stay_both a b (statement_stays closing a s d) (choices_stay b cs r))

-- ---- externals

pub spec_calm : (w : SpecWord) → is_extern (Word (spec_keyword w)) ≡ false
spec_calm word.Static = refl
spec_calm w = refl

-- an external is the word of a type, and tokens that lead from it to the start of the next
pub record IsExternal (tokens : List Token) : Type 0 where
  pub first : Token
  pub following : List Token
  pub is : tokens ≡ first ∷ following
  pub first_word : SpecWord
  pub word : IsKeyword (spec_keyword first_word) first
  pub leads : Leads (Within false) following AtStart

abbrev pub Ends : List Token → Type 0
Ends tokens = (assigned : Bool) → Leads (Within assigned) tokens AtStart

specs_first : (a rest : List Token) (words : _) → AreSpecs a words → Ends rest → IsExternal (a ++ rest)
specs_first _ rest _ (LastSpec {t = t} {w = w} h) ends = record { first = t; following = rest; is = refl; first_word = w; word = h; leads = ends false }
specs_first _ rest _ (MoreSpecs {t = t} {tokens = tokens} {w = w} h more) ends =
    let passed = calm_passes tokens (specs_calm tokens _ more) false in
    record { first = t; following = tokens ++ rest; is = refl; first_word = w; word = h; leads = join (Within false) (Within passed.0) AtStart tokens rest passed.1 (ends passed.0) }

declaration_is : (tokens : List Token) (d : DeclarationTree) → DerivesDeclaration tokens d → IsExternal tokens
declaration_is tokens d h =
    subst IsExternal (sym (h.cut ∙ append_assoc h.a h.b (h.t ∷ [])))
    (specs_first h.a (h.b ++ h.t ∷ []) _ h.specs.words
    (λ assigned.
    let passed = items_pass h.b d.items h.items assigned in
    join (Within assigned) (Within passed.0) AtStart h.b (h.t ∷ []) passed.1 (one (Within passed.0) h.t AtStart refl (ap (outside passed.0) h.ends))))

block_ends : (tokens : List Token) (ds : List DeclarationTree) (ss : Statements) (at : ℕ) → DerivesStatement Closed tokens (tree.Block ds ss at) → Leads (Within false) tokens AtStart
block_ends tokens ds ss _ (BlockRule a b t u cut m d r n) =
    let inner = stay_both a b (declarations_stay a ds d) (statements_stay b ss r) in
    subst (λ l. Leads (Within false) l AtStart) (sym cut)
    (join (Within false) (Braced false 0) AtStart (t ∷ a ++ b) (u ∷ [])
    (join (Within false) (Braced false 0) (Braced false 0) (t ∷ []) (a ++ b) (one (Within false) t (Braced false 0) refl (ap (outside false) m)) (inner false 0))
    (one (Braced false 0) u AtStart refl (ap (inside false 0) n)))

function_is : (tokens : List Token) (f : FunctionSyntax) → DerivesFunction tokens f → IsExternal tokens
function_is tokens f h =
    let head = h.n ∷ h.t ∷ h.c in
    subst IsExternal (sym (h.cut ∙ append_assoc (h.a ++ h.b) head (h.u ∷ h.d) ∙ append_assoc h.a h.b (head ++ h.u ∷ h.d)))
    (specs_first h.a (h.b ++ (head ++ h.u ∷ h.d)) _ h.specs.words
    (λ assigned.
    let front = all_joined IsCalm h.b head (stars_calm h.b f.stars h.stars) (calm h.n (Name f.name) h.name refl, (calm h.t _ h.opens refl, parameters_calm h.c f.parameters h.parameters)) in
    let passed = calm_passes (h.b ++ head) front assigned in
    subst (λ l. Leads (Within assigned) l AtStart) (append_assoc h.b head (h.u ∷ h.d))
    (join (Within assigned) (Within passed.0) AtStart (h.b ++ head) (h.u ∷ h.d) passed.1
    (join (Within passed.0) (Within false) AtStart (h.u ∷ []) h.d (one (Within passed.0) h.u (Within false) refl (ap (outside passed.0) h.closes)) (block_ends h.d f.declarations f.statements f.body_at h.body)))))

pub external_is : (tokens : List Token) (e : ExternalTree) → DerivesExternal tokens e → IsExternal tokens
external_is tokens (Defined f) h = function_is tokens f h
external_is tokens (Declared d) h = declaration_is tokens d h
