-- Declarations, statements and units whose tokens are renamed.
use Rattle.std.proofs.Common.{◌≢◌, ℕ, List, [], ◌∷◌, ◌++◌, Option, Some, None, map, refl, sym, ap, ◌∙◌, subst, inl, inr}
use Rattle.std.specs.Prelude.{option_map}
use Rattle.c_tree.specs.c_syntax.declared.token.Token.{Token}
use Rattle.c_tree.specs.c_syntax.SyntaxTree.{SpecsTree, Expression, ArrayMark, ParameterTree, ParametersTree, ItemForm, Plain, InitialTree, Braced, ItemTree, DeclarationTree, Statement}
use Rattle.c_tree.specs.c_syntax.SyntaxTree.{Empty, Evaluate, Block, Break, Continue, Return, DoWhile, If, IfElse, While, For, Switch, Statements, no_statement, Choices, no_choice}
use Rattle.c_tree.specs.c_syntax.SyntaxTree.{FunctionSyntax, ExternalTree, Defined, Declared, UnitTree}
use Rattle.c_tree.specs.c_syntax.Grammar.{Row, ExpressionRow, ConditionalRow}
use Rattle.c_tree.specs.c_syntax.Derives.{DerivesSpecs, DerivesOptional, DerivesList, LastOfList, MoreOfList, IsLastComma, DerivesInitial, OneRule, BracedRule, DerivesArray, ArrayRule}
use Rattle.c_tree.specs.c_syntax.Derives.{DerivesArrayMark, DerivesName, DerivesParameter, DerivesParameterList, LastParameter, MoreParameters, DerivesParameters, VoidRule, ParametersRule}
use Rattle.c_tree.specs.c_syntax.Derives.{DerivesForm, PlainRule, FunctionRule, ArrayFormRule, DerivesInitialiser, DerivesItem, DerivesItems, LastItem, MoreItems, DerivesDeclaration}
use Rattle.c_tree.specs.c_syntax.Derives.{DerivesDeclarations, NoDeclaration, MoreDeclarations, Closing, Closed, Open, IsTested, IsForHead, DerivesStatement, EmptyRule, EvaluateRule}
use Rattle.c_tree.specs.c_syntax.Derives.{BlockRule, BreakRule, ContinueRule, ReturnRule, DoRule, IfRule, IfElseRule, WhileRule, ForRule, SwitchRule, DerivesStatements, NoStatement}
use Rattle.c_tree.specs.c_syntax.Derives.{MoreStatements, DerivesChoices, NoChoice, CaseRule, DefaultRule, ChosenRule, DerivesFunction, DerivesExternal, DerivesUnit, LastExternal}
use Rattle.c_tree.specs.c_syntax.Derives.{MoreExternals}
use Rattle.c_renaming.specs.Renaming.{Renaming}
use Rattle.c_renaming.specs.RenamedTokens.{IsRenamed}
use Rattle.c_renaming.specs.RenamedTrees.{renamed_specs, renamed_expression, renamed_mark, renamed_parameter, renamed_parameters, renamed_item_form, renamed_initial, renamed_item}
use Rattle.c_renaming.specs.RenamedTrees.{renamed_declaration, renamed_optional, renamed_statement, renamed_statements, renamed_choices, renamed_function, renamed_external, renamed_unit}
use Rattle.c_renaming.proofs.TokenLemmas.{Renames, mark_kept, keyword_kept, keyword_was, name_kept, place_kept, some_at, some_front, none_of, cut, first_token, only, cut_at, cut_end}
use Rattle.c_renaming.proofs.TokenLemmas.{enclosed, was_one}
use Rattle.c_renaming.proofs.GrammarLemmas.{specs_some, specs_kept, stars_kept, expression_kept}

-- what follows speaks of one renaming
module _ (r : Renaming) where
  pub derives_specs_kept : (tokens others : List Token) (tree : SpecsTree) → DerivesSpecs tokens tree → Renames r tokens others → DerivesSpecs others (renamed_specs r tree)
  derives_specs_kept tokens others tree g h = record { words = specs_kept tokens others tree.words g.words h; place = ap r.place g.place ∙ sym (place_kept (specs_some g.words) h) }

  pub optional_kept : (row : Row) (tokens others : List Token) (tree : Option Expression) → DerivesOptional row tokens tree → Renames r tokens others
      → DerivesOptional row others (renamed_optional r tree)
  optional_kept row tokens others None g h = none_of g h
  optional_kept row tokens others (Some tree) g h = expression_kept r row tokens others tree g h

  list_kept : (tokens others : List Token) (trees : List Expression) → DerivesList tokens trees → Renames r tokens others → DerivesList others (map (renamed_expression r) trees)
  list_kept tokens others trees (LastOfList {tree = x} d) h = LastOfList (expression_kept r _ tokens others x d h)
  list_kept tokens others trees (MoreOfList a b t {tree = x} {trees = xs} is d m more) h =
      let c = cut_at a t b is h in
      MoreOfList c.front c.back c.token c.is (expression_kept r _ a c.front x d c.first) (mark_kept c.renamed m) (list_kept b c.back xs more c.second)

  comma_kept : (tokens others : List Token) → IsLastComma tokens → Renames r tokens others → IsLastComma others
  comma_kept tokens others (inl e) h = inl (none_of e h)
  comma_kept tokens others (inr (t, is, m)) h = let c = only t is h in inr (c.token, c.is, mark_kept c.renamed m)

  initial_kept : (tokens others : List Token) (tree : InitialTree) → DerivesInitial tokens tree → Renames r tokens others → DerivesInitial others (renamed_initial r tree)
  initial_kept tokens others tree (OneRule {tree = x} d) h = OneRule (expression_kept r _ tokens others x d h)
  initial_kept tokens others tree (BracedRule a b t u {trees = xs} is m d last n) h =
      let c = cut_end (t ∷ a ++ b) u is h in
      let e = cut (t ∷ a) b refl c.first in
      let f = first_token t a refl e.first in
      subst
      (λ p. DerivesInitial others (Braced (map (renamed_expression r) xs) p))
      f.renamed.place
      (BracedRule f.back e.back f.token c.token (c.is ∙ ap (λ l. l ++ c.token ∷ []) (e.is ∙ ap (λ l. l ++ e.back) f.is))
      (mark_kept f.renamed m)
      (list_kept a f.back xs d f.rest)
      (comma_kept b e.back last e.second)
      (mark_kept c.renamed n))

  array_kept : (tokens others : List Token) (tree : Option Expression) → DerivesArray tokens tree → Renames r tokens others → DerivesArray others (renamed_optional r tree)
  array_kept tokens others tree (ArrayRule a t u {length = x} is m d n) h =
      let c = enclosed t a u is h in
      ArrayRule c.middle c.left c.right c.is (mark_kept c.left_renamed m) (optional_kept ConditionalRow a c.middle x d c.inner) (mark_kept c.right_renamed n)

  array_mark_kept : (tokens others : List Token) (tree : ArrayMark) → DerivesArrayMark tokens tree → Renames r tokens others → DerivesArrayMark others (renamed_mark r tree)
  array_mark_kept tokens others None g h = none_of g h
  array_mark_kept tokens others (Some tree) g h = array_kept tokens others tree g h

  option_name_kept : (tokens others : List Token) (name : Option (List ℕ)) → DerivesName tokens name → Renames r tokens others → DerivesName others (option_map r.name name)
  option_name_kept tokens others None g h = none_of g h
  option_name_kept tokens others (Some name) g h = let c = only g.0 g.1 h in (c.token, c.is, name_kept name c.renamed g.2)

  parameter_some : (tokens : List Token) (tree : ParameterTree) → DerivesParameter tokens tree → tokens ≢ []
  parameter_some tokens tree g = some_front (g.a ++ g.b ++ g.c) g.d g.cut (some_front (g.a ++ g.b) g.c refl (some_front g.a g.b refl (specs_some g.specs.words)))

  parameter_kept : (tokens others : List Token) (tree : ParameterTree) → DerivesParameter tokens tree → Renames r tokens others → DerivesParameter others (renamed_parameter r tree)
  parameter_kept tokens others tree g h =
      let c = cut (g.a ++ g.b ++ g.c) g.d g.cut h in
      let d = cut (g.a ++ g.b) g.c refl c.first in
      let e = cut g.a g.b refl d.first in
      record {
        a = e.front;
        b = e.back;
        c = d.back;
        d = c.back;
        cut = c.is ∙ ap (λ l. l ++ c.back) (d.is ∙ ap (λ l. l ++ d.back) e.is);
        specs = derives_specs_kept g.a e.front tree.specs g.specs e.first;
        stars = stars_kept g.b e.back tree.stars g.stars e.second;
        name = option_name_kept g.c d.back tree.name g.name d.second;
        array = array_mark_kept g.d c.back tree.array g.array c.second;
        not_void = λ o is k. let w = was_one o is h in g.not_void w.token w.is (keyword_was w.renamed k);
        place = ap r.place g.place ∙ sym (place_kept (parameter_some tokens tree g) h);
      }

  parameter_list_some : (tokens : List Token) (trees : List ParameterTree) → DerivesParameterList tokens trees → tokens ≢ []
  parameter_list_some tokens trees (LastParameter {tree = x} g) = parameter_some tokens x g
  parameter_list_some tokens trees (MoreParameters a b t is g m more) = some_at a t b is

  parameter_list_kept : (tokens others : List Token) (trees : List ParameterTree) → DerivesParameterList tokens trees → Renames r tokens others
      → DerivesParameterList others (map (renamed_parameter r) trees)
  parameter_list_kept tokens others trees (LastParameter {tree = x} g) h = LastParameter (parameter_kept tokens others x g h)
  parameter_list_kept tokens others trees (MoreParameters a b t {tree = x} {trees = xs} is g m more) h =
      let c = cut_at a t b is h in
      MoreParameters c.front c.back c.token c.is (parameter_kept a c.front x g c.first) (mark_kept c.renamed m) (parameter_list_kept b c.back xs more c.second)

  parameters_kept : (tokens others : List Token) (tree : ParametersTree) → DerivesParameters tokens tree → Renames r tokens others → DerivesParameters others (renamed_parameters r tree)
  parameters_kept tokens others tree (VoidRule {t = t} k) h =
      let c = only t refl h in
      subst
      (λ p. DerivesParameters others (record { list = []; at = p }))
      c.renamed.place
      (subst (λ l. DerivesParameters l (record { list = []; at = c.token.at })) (sym c.is) (VoidRule (keyword_kept c.renamed k)))
  parameters_kept tokens others tree (ParametersRule {trees = xs} g) h =
      subst
      (λ p. DerivesParameters others (record { list = map (renamed_parameter r) xs; at = p }))
      (place_kept (parameter_list_some tokens xs g) h)
      (ParametersRule (parameter_list_kept tokens others xs g h))

  form_kept : (tokens others : List Token) (tree : ItemForm) → DerivesForm tokens tree → Renames r tokens others → DerivesForm others (renamed_item_form r tree)
  form_kept tokens others tree PlainRule h = subst (λ l. DerivesForm l Plain) (sym (none_of refl h)) PlainRule
  form_kept tokens others tree (FunctionRule a t u {tree = x} is m g n) h =
      let c = enclosed t a u is h in
      FunctionRule c.middle c.left c.right c.is (mark_kept c.left_renamed m) (parameters_kept a c.middle x g c.inner) (mark_kept c.right_renamed n)
  form_kept tokens others tree (ArrayFormRule {length = x} g) h = ArrayFormRule (array_kept tokens others x g h)

  initialiser_kept : (tokens others : List Token) (tree : Option InitialTree) → DerivesInitialiser tokens tree → Renames r tokens others
      → DerivesInitialiser others (option_map (renamed_initial r) tree)
  initialiser_kept tokens others None g h = none_of g h
  initialiser_kept tokens others (Some tree) g h =
      let c = first_token g.0 g.1 g.2 h in
      (c.token, c.back, c.is, mark_kept c.renamed g.3, initial_kept g.1 c.back tree g.4 c.rest)

  item_kept : (tokens others : List Token) (tree : ItemTree) → DerivesItem tokens tree → Renames r tokens others → DerivesItem others (renamed_item r tree)
  item_kept tokens others tree g h =
      let c = cut (g.a ++ g.t ∷ g.b) g.c g.cut h in
      let d = cut_at g.a g.t g.b refl c.first in
      record {
        a = d.front;
        t = d.token;
        b = d.back;
        c = c.back;
        cut = c.is ∙ ap (λ l. l ++ c.back) d.is;
        stars = stars_kept g.a d.front tree.stars g.stars d.first;
        name = name_kept tree.name d.renamed g.name;
        form = form_kept g.b d.back tree.form g.form d.second;
        initial = initialiser_kept g.c c.back tree.initial g.initial c.second;
        place = ap r.place g.place ∙ sym (place_kept (some_front (g.a ++ g.t ∷ g.b) g.c g.cut (some_at g.a g.t g.b refl)) h);
      }

  items_kept : (tokens others : List Token) (trees : List ItemTree) → DerivesItems tokens trees → Renames r tokens others → DerivesItems others (map (renamed_item r) trees)
  items_kept tokens others trees (LastItem {tree = x} g) h = LastItem (item_kept tokens others x g h)
  items_kept tokens others trees (MoreItems a b t {tree = x} {trees = xs} is g m more) h =
      let c = cut_at a t b is h in
      MoreItems c.front c.back c.token c.is (item_kept a c.front x g c.first) (mark_kept c.renamed m) (items_kept b c.back xs more c.second)

  declaration_kept : (tokens others : List Token) (tree : DeclarationTree) → DerivesDeclaration tokens tree → Renames r tokens others → DerivesDeclaration others (renamed_declaration r tree)
  declaration_kept tokens others tree g h =
      let c = cut_end (g.a ++ g.b) g.t g.cut h in
      let d = cut g.a g.b refl c.first in
      record {
        a = d.front;
        b = d.back;
        t = c.token;
        cut = c.is ∙ ap (λ l. l ++ c.token ∷ []) d.is;
        specs = derives_specs_kept g.a d.front tree.specs g.specs d.first;
        items = items_kept g.b d.back tree.items g.items d.second;
        ends = mark_kept c.renamed g.ends;
        place = ap r.place g.place ∙ sym c.place;
      }

  declarations_kept : (tokens others : List Token) (trees : List DeclarationTree) → DerivesDeclarations tokens trees → Renames r tokens others
      → DerivesDeclarations others (map (renamed_declaration r) trees)
  declarations_kept tokens others trees NoDeclaration h = subst (λ l. DerivesDeclarations l []) (sym (none_of refl h)) NoDeclaration
  declarations_kept tokens others trees (MoreDeclarations a b {tree = x} {trees = xs} is g more) h =
      let c = cut a b is h in
      MoreDeclarations c.front c.back c.is (declaration_kept a c.front x g c.first) (declarations_kept b c.back xs more c.second)

-- `keyword ( expression )` behind another keyword
record Tested (r : Renaming) (others : List Token) (t : Token) (tree : Expression) : Type 0 where
  word : Token
  renamed : IsRenamed r t word
  tested : IsTested (word ∷ []) others (renamed_expression r tree)

-- the head of a `for` has tokens
head_some : {tokens : List Token} {first test third : Option Expression} → IsForHead tokens first test third → tokens ≢ []
head_some g = some_at (g.k ∷ g.t ∷ g.a ++ g.u ∷ g.b ++ g.v ∷ g.c) g.w [] g.cut

tested_some : {t : Token} {tokens : List Token} {tree : Expression} → IsTested (t ∷ []) tokens tree → tokens ≢ []
tested_some {t} g = some_at (t ∷ g.t ∷ g.a) g.u [] g.cut

module _ (r : Renaming) where
  tested_kept : (tokens others : List Token) (t : Token) (tree : Expression) → IsTested (t ∷ []) tokens tree → Renames r tokens others → Tested r others t tree
  tested_kept tokens others t tree g h =
      let c = cut_end (t ∷ g.t ∷ g.a) g.u g.cut h in
      let d = first_token t (g.t ∷ g.a) refl c.first in
      let e = first_token g.t g.a refl d.rest in
      record {
        word = d.token;
        renamed = d.renamed;
        tested = record {
          t = e.token;
          a = e.back;
          u = c.token;
          cut = c.is ∙ ap (λ l. l ++ c.token ∷ []) (d.is ∙ ap (λ l. d.token ∷ l) e.is);
          opens = mark_kept e.renamed g.opens;
          test = expression_kept r _ g.a e.back tree g.test e.rest;
          closes = mark_kept c.renamed g.closes;
        };
      }

  head_kept : (tokens others : List Token) (x y z : Option Expression) → IsForHead tokens x y z → Renames r tokens others
      → IsForHead others (renamed_optional r x) (renamed_optional r y) (renamed_optional r z)
  head_kept tokens others x y z g h =
      let c = cut_end (g.k ∷ g.t ∷ g.a ++ g.u ∷ g.b ++ g.v ∷ g.c) g.w g.cut h in
      let d = cut_at (g.k ∷ g.t ∷ g.a ++ g.u ∷ g.b) g.v g.c refl c.first in
      let e = cut_at (g.k ∷ g.t ∷ g.a) g.u g.b refl d.first in
      let f = first_token g.k (g.t ∷ g.a) refl e.first in
      let i = first_token g.t g.a refl f.rest in
      record {
        k = f.token;
        t = i.token;
        a = i.back;
        u = e.token;
        b = e.back;
        v = d.token;
        c = d.back;
        w = c.token;
        cut = c.is ∙ ap (λ l. l ++ c.token ∷ []) (d.is ∙ ap (λ l. l ++ d.token ∷ d.back) (e.is ∙ ap (λ l. l ++ e.token ∷ e.back) (f.is ∙ ap (λ l. f.token ∷ l) i.is)));
        for = keyword_kept f.renamed g.for;
        opens = mark_kept i.renamed g.opens;
        first_part = optional_kept r ExpressionRow g.a i.back x g.first_part i.rest;
        first_ends = mark_kept e.renamed g.first_ends;
        test_part = optional_kept r ExpressionRow g.b e.back y g.test_part e.second;
        test_ends = mark_kept d.renamed g.test_ends;
        third_part = optional_kept r ExpressionRow g.c d.back z g.third_part d.second;
        closes = mark_kept c.renamed g.closes;
      }

  mutual
    statement_kept : (closing : Closing) (tokens others : List Token) (tree : Statement) → DerivesStatement closing tokens tree → Renames r tokens others
        → DerivesStatement closing others (renamed_statement r tree)
    statement_kept closing tokens others tree (EmptyRule {t = t} m) h =
        let c = only t refl h in
        subst (λ p. DerivesStatement Closed others (Empty p)) c.renamed.place (subst (λ l. DerivesStatement Closed l (Empty c.token.at)) (sym c.is) (EmptyRule (mark_kept c.renamed m)))
    statement_kept closing tokens others tree (EvaluateRule a t {tree = x} is d m) h =
        let c = cut_end a t is h in
        subst
        (λ p. DerivesStatement Closed others (Evaluate (renamed_expression r x) p))
        c.place
        (EvaluateRule c.front c.token c.is (expression_kept r _ a c.front x d c.first) (mark_kept c.renamed m))
    statement_kept closing tokens others tree (BlockRule a b t u {declarations = ds} {statements = ss} is m d s n) h =
        let c = cut_end (t ∷ a ++ b) u is h in
        let e = cut (t ∷ a) b refl c.first in
        let f = first_token t a refl e.first in
        subst
        (λ p. DerivesStatement Closed others (Block (map (renamed_declaration r) ds) (renamed_statements r ss) p))
        f.renamed.place
        (BlockRule f.back e.back f.token c.token (c.is ∙ ap (λ l. l ++ c.token ∷ []) (e.is ∙ ap (λ l. l ++ e.back) f.is))
        (mark_kept f.renamed m)
        (declarations_kept r a f.back ds d f.rest)
        (statements_kept b e.back ss s e.second)
        (mark_kept c.renamed n))
    statement_kept closing tokens others tree (BreakRule {t = t} {u = u} k m) h =
        let c = first_token t (u ∷ []) refl h in
        let d = only u refl c.rest in
        subst
        (λ p. DerivesStatement Closed others (Break p))
        c.renamed.place
        (subst (λ l. DerivesStatement Closed l (Break c.token.at)) (sym (c.is ∙ ap (λ l. c.token ∷ l) d.is)) (BreakRule (keyword_kept c.renamed k) (mark_kept d.renamed m)))
    statement_kept closing tokens others tree (ContinueRule {t = t} {u = u} k m) h =
        let c = first_token t (u ∷ []) refl h in
        let d = only u refl c.rest in
        subst
        (λ p. DerivesStatement Closed others (Continue p))
        c.renamed.place
        (subst (λ l. DerivesStatement Closed l (Continue c.token.at)) (sym (c.is ∙ ap (λ l. c.token ∷ l) d.is)) (ContinueRule (keyword_kept c.renamed k) (mark_kept d.renamed m)))
    statement_kept closing tokens others tree (ReturnRule a t u {value = x} is k d m) h =
        let c = enclosed t a u is h in
        subst
        (λ p. DerivesStatement Closed others (Return (renamed_optional r x) p))
        c.left_renamed.place
        (ReturnRule c.middle c.left c.right c.is (keyword_kept c.left_renamed k) (optional_kept r ExpressionRow a c.middle x d c.inner) (mark_kept c.right_renamed m))
    statement_kept closing tokens others tree (DoRule inner a b t u v {body = s} {test = x} is k d w g m) h =
        let c = cut_end (t ∷ a ++ b) v is h in
        let e = cut (t ∷ a) b refl c.first in
        let f = first_token t a refl e.first in
        let i = tested_kept b e.back u x g e.second in
        subst
        (λ p. DerivesStatement Closed others (DoWhile (renamed_statement r s) (renamed_expression r x) p))
        f.renamed.place
        (DoRule inner f.back e.back f.token i.word c.token (c.is ∙ ap (λ l. l ++ c.token ∷ []) (e.is ∙ ap (λ l. l ++ e.back) f.is))
        (keyword_kept f.renamed k)
        (statement_kept inner a f.back s d f.rest)
        (keyword_kept i.renamed w)
        i.tested
        (mark_kept c.renamed m))
    statement_kept closing tokens others tree (IfRule inner a b t {test = x} {yes = s} is k g d) h =
        let c = cut a b is h in
        let i = tested_kept a c.front t x g c.first in
        subst
        (λ p. DerivesStatement Open others (If (renamed_expression r x) (renamed_statement r s) p))
        i.renamed.place
        (IfRule inner c.front c.back i.word c.is (keyword_kept i.renamed k) i.tested (statement_kept inner b c.back s d c.second))
    statement_kept closing tokens others tree (IfElseRule a b e t u {test = x} {yes = s} {no = q} is k g d w f) h =
        let c = cut_at (a ++ b) u e is h in
        let v = cut a b refl c.first in
        let i = tested_kept a v.front t x g v.first in
        subst
        (λ p. DerivesStatement closing others (IfElse (renamed_expression r x) (renamed_statement r s) (renamed_statement r q) p))
        i.renamed.place
        (IfElseRule v.front v.back c.back i.word c.token (c.is ∙ ap (λ l. l ++ c.token ∷ c.back) v.is)
        (keyword_kept i.renamed k)
        i.tested
        (statement_kept Closed b v.back s d v.second)
        (keyword_kept c.renamed w)
        (statement_kept closing e c.back q f c.second))
    statement_kept closing tokens others tree (WhileRule a b t {test = x} {body = s} is k g d) h =
        let c = cut a b is h in
        let i = tested_kept a c.front t x g c.first in
        subst
        (λ p. DerivesStatement closing others (While (renamed_expression r x) (renamed_statement r s) p))
        i.renamed.place
        (WhileRule c.front c.back i.word c.is (keyword_kept i.renamed k) i.tested (statement_kept closing b c.back s d c.second))
    statement_kept closing tokens others tree (ForRule a b {first = x} {test = y} {third = z} {body = s} is g d) h =
        let c = cut a b is h in
        subst
        (λ p. DerivesStatement closing others (For (renamed_optional r x) (renamed_optional r y) (renamed_optional r z) (renamed_statement r s) p))
        (place_kept (some_front a b is (head_some g)) h)
        (ForRule c.front c.back c.is (head_kept a c.front x y z g c.first) (statement_kept closing b c.back s d c.second))
    statement_kept closing tokens others tree (SwitchRule a b t u v {value = x} {choices = cs} is k g m d n) h =
        let c = cut_end (a ++ u ∷ b) v is h in
        let e = cut_at a u b refl c.first in
        let i = tested_kept a e.front t x g e.first in
        subst
        (λ p. DerivesStatement Closed others (Switch (renamed_expression r x) (renamed_choices r cs) (r.place u.at) p))
        i.renamed.place
        (subst
        (λ p. DerivesStatement Closed others (Switch (renamed_expression r x) (renamed_choices r cs) p i.word.at))
        e.renamed.place
        (SwitchRule e.front e.back i.word e.token c.token (c.is ∙ ap (λ l. l ++ c.token ∷ []) e.is)
        (keyword_kept i.renamed k)
        i.tested
        (mark_kept e.renamed m)
        (choices_kept b e.back cs d e.second)
        (mark_kept c.renamed n)))

    statements_kept : (tokens others : List Token) (trees : Statements) → DerivesStatements tokens trees → Renames r tokens others → DerivesStatements others (renamed_statements r trees)
    statements_kept tokens others trees NoStatement h = subst (λ l. DerivesStatements l no_statement) (sym (none_of refl h)) NoStatement
    statements_kept tokens others trees (MoreStatements closing a b {tree = x} {trees = xs} is d more) h =
        let c = cut a b is h in
        MoreStatements closing c.front c.back c.is (statement_kept closing a c.front x d c.first) (statements_kept b c.back xs more c.second)

    choices_kept : (tokens others : List Token) (trees : Choices) → DerivesChoices tokens trees → Renames r tokens others → DerivesChoices others (renamed_choices r trees)
    choices_kept tokens others trees NoChoice h = subst (λ l. DerivesChoices l no_choice) (sym (none_of refl h)) NoChoice
    choices_kept tokens others trees (CaseRule a b t u {value = x} {choices = xs} is k d m more) h =
        let c = cut_at (t ∷ a) u b is h in
        let e = first_token t a refl c.first in
        CaseRule e.back c.back e.token c.token (c.is ∙ ap (λ l. l ++ c.token ∷ c.back) e.is)
        (keyword_kept e.renamed k)
        (expression_kept r _ a e.back x d e.rest)
        (mark_kept c.renamed m)
        (choices_kept b c.back xs more c.second)
    choices_kept tokens others trees (DefaultRule a t u {choices = xs} is k m more) h =
        let c = first_token t (u ∷ a) is h in
        let d = first_token u a refl c.rest in
        DefaultRule d.back c.token d.token (c.is ∙ ap (λ l. c.token ∷ l) d.is) (keyword_kept c.renamed k) (mark_kept d.renamed m) (choices_kept a d.back xs more d.rest)
    choices_kept tokens others trees (ChosenRule closing a b {tree = x} {choices = xs} is d more) h =
        let c = cut a b is h in
        ChosenRule closing c.front c.back c.is (statement_kept closing a c.front x d c.first) (choices_kept b c.back xs more c.second)

  function_kept : (tokens others : List Token) (tree : FunctionSyntax) → DerivesFunction tokens tree → Renames r tokens others → DerivesFunction others (renamed_function r tree)
  function_kept tokens others tree g h =
      let c = cut_at (g.a ++ g.b ++ g.n ∷ g.t ∷ g.c) g.u g.d g.cut h in
      let d = cut_at (g.a ++ g.b) g.n (g.t ∷ g.c) refl c.first in
      let e = cut g.a g.b refl d.first in
      let f = first_token g.t g.c refl d.second in
      record {
        a = e.front;
        b = e.back;
        n = d.token;
        t = f.token;
        c = f.back;
        u = c.token;
        d = c.back;
        cut = c.is ∙ ap (λ l. l ++ c.token ∷ c.back) (d.is ∙ (ap (λ l. l ++ d.token ∷ d.back) e.is ∙ ap (λ l. (e.front ++ e.back) ++ d.token ∷ l) f.is));
        specs = derives_specs_kept r g.a e.front tree.specs g.specs e.first;
        stars = stars_kept g.b e.back tree.stars g.stars e.second;
        name = name_kept tree.name d.renamed g.name;
        opens = mark_kept f.renamed g.opens;
        parameters = parameters_kept r g.c f.back tree.parameters g.parameters f.rest;
        closes = mark_kept c.renamed g.closes;
        body = statement_kept Closed g.d c.back (Block tree.declarations tree.statements tree.body_at) g.body c.second;
        place = ap r.place g.place ∙ sym c.place;
      }

  external_kept : (tokens others : List Token) (tree : ExternalTree) → DerivesExternal tokens tree → Renames r tokens others → DerivesExternal others (renamed_external r tree)
  external_kept tokens others (Defined tree) g h = function_kept tokens others tree g h
  external_kept tokens others (Declared tree) g h = declaration_kept r tokens others tree g h

  pub unit_kept : (tokens others : List Token) (trees : UnitTree) → DerivesUnit tokens trees → Renames r tokens others → DerivesUnit others (renamed_unit r trees)
  unit_kept tokens others trees (LastExternal {tree = x} g) h = LastExternal (external_kept tokens others x g h)
  unit_kept tokens others trees (MoreExternals a b {tree = x} {trees = xs} is g more) h =
      let c = cut a b is h in
      MoreExternals c.front c.back c.is (external_kept a c.front x g c.first) (unit_kept b c.back xs more c.second)
