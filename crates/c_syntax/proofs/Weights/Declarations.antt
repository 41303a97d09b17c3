-- A declaration weighs no more than it has tokens.
use Rattle.std.proofs.Common.{◌≡◌, ◌≤◌, ◌+◌, List, [], ◌∷◌, ◌++◌, length, ap, ◌∙◌, arith, length-append, Option, Some, None}
use Rattle.std.specs.Prelude.{sum_by}
use Rattle.std.proofs.lemmas.List.Sums.{sum_by-cons}
use Rattle.c_syntax.specs.declared.token.Token.{Token}
use Rattle.c_syntax.specs.SyntaxTree.{Expression, ArrayMark, ParameterTree, ParametersTree, ItemForm, InitialTree, ItemTree, DeclarationTree}
use Rattle.c_syntax.specs.Grammar.{Row}
use Rattle.c_syntax.specs.Derives.{DerivesOptional, DerivesList, LastOfList, MoreOfList, DerivesInitial, OneRule, BracedRule, DerivesArray, ArrayRule, DerivesArrayMark, DerivesParameter, DerivesParameterList, LastParameter, MoreParameters, DerivesParameters, VoidRule, ParametersRule, DerivesForm, PlainRule, FunctionRule, ArrayFormRule, DerivesInitialiser, DerivesItem, DerivesItems, LastItem, MoreItems, DerivesDeclaration, DerivesDeclarations, NoDeclaration, MoreDeclarations}
use Rattle.c_syntax.specs.Counts.{Weights, expression_weight, optional_weight, array_weight, parameter_weight, parameters_weight, item_form_weight, initial_weight, item_weight, declaration_weight}
use Rattle.c_syntax.proofs.Weights.Expressions.{IsLight, times_light, one_between, stars_length, specs_some, expression_light}

pub next_to : (tokens a b : List Token) → tokens ≡ a ++ b → length tokens ≡ length a + length b
next_to tokens a b e = ap length e ∙ length-append a b

module _ (w : Weights) (light : IsLight w) where
  pub optional_light : (row : Row) (tokens : List Token) (tree : Option Expression) → DerivesOptional row tokens tree → optional_weight w tree ≤ length tokens
  optional_light row tokens None d = omega arith
  optional_light row tokens (Some tree) d = expression_light w light row tokens tree d

  list_light : (tokens : List Token) (trees : List Expression) → DerivesList tokens trees → sum_by (expression_weight w) trees ≤ length tokens
  list_light tokens _ (LastOfList {tree = x} d) = let p = expression_light w light _ tokens x d in omega (arith, p)
  list_light tokens _ (MoreOfList a b t {tree = x} {trees = xs} cut d m more) =
      let p = expression_light w light _ a x d in
      let q = list_light b xs more in
      let s = one_between tokens a b t cut in
      let k = sum_by-cons (expression_weight w) x xs in
      omega (arith, p, q, s, k)

  initial_light : (tokens : List Token) (tree : InitialTree) → DerivesInitial tokens tree → initial_weight w (Some tree) ≤ length tokens
  initial_light tokens _ (OneRule {tree = x} d) = expression_light w light _ tokens x d
  initial_light tokens _ (BracedRule a b t u {trees = xs} cut m d c n) =
      let p = list_light a xs d in
      let s = ap length cut ∙ length-append (t ∷ a ++ b) (u ∷ []) in
      let r = length-append (t ∷ a) b in
      omega (arith, p, s, r)

  initialiser_light : (tokens : List Token) (tree : Option InitialTree) → DerivesInitialiser tokens tree → initial_weight w tree ≤ length tokens
  initialiser_light tokens None d = omega arith
  initialiser_light tokens (Some tree) (t, a, cut, m, d) = let p = initial_light a tree d in let s = ap length cut in omega (arith, p, s)

  array_light : (tokens : List Token) (tree : Option Expression) → DerivesArray tokens tree → optional_weight w tree ≤ length tokens
  array_light tokens tree (ArrayRule a t u cut m d n) =
      let p = optional_light _ a tree d in
      let s = ap length cut ∙ length-append (t ∷ a) (u ∷ []) in
      omega (arith, p, s)

  mark_light : (tokens : List Token) (tree : ArrayMark) → DerivesArrayMark tokens tree → array_weight w tree ≤ length tokens
  mark_light tokens None d = omega arith
  mark_light tokens (Some tree) d = array_light tokens tree d

  parameter_light : (tokens : List Token) (tree : ParameterTree) → DerivesParameter tokens tree → parameter_weight w tree ≤ length tokens
  parameter_light tokens tree d =
      let s = ap length d.cut ∙ length-append (d.a ++ d.b ++ d.c) d.d in
      let r = length-append (d.a ++ d.b) d.c in
      let q = length-append d.a d.b in
      let p = specs_some d.specs.words in
      let k = stars_length d.b tree.stars d.stars in
      let j = times_light w.star tree.stars light.star in
      let i = mark_light d.d tree.array d.array in
      omega (arith, s, r, q, p, k, j, i, light.parameter)

  parameter_list_light : (tokens : List Token) (trees : List ParameterTree) → DerivesParameterList tokens trees → sum_by (parameter_weight w) trees ≤ length tokens
  parameter_list_light tokens _ (LastParameter {tree = x} d) = let p = parameter_light tokens x d in omega (arith, p)
  parameter_list_light tokens _ (MoreParameters a b t {tree = x} {trees = xs} cut d m more) =
      let p = parameter_light a x d in
      let q = parameter_list_light b xs more in
      let s = one_between tokens a b t cut in
      let k = sum_by-cons (parameter_weight w) x xs in
      omega (arith, p, q, s, k)

  pub parameters_light : (tokens : List Token) (tree : ParametersTree) → DerivesParameters tokens tree → parameters_weight w tree ≤ length tokens
  parameters_light tokens tree (VoidRule k) = omega arith
  parameters_light tokens tree (ParametersRule {trees = xs} d) = parameter_list_light tokens xs d

  form_light : (tokens : List Token) (tree : ItemForm) → DerivesForm tokens tree → item_form_weight w tree ≤ length tokens
  form_light tokens tree PlainRule = omega arith
  form_light tokens tree (FunctionRule a t u {tree = x} cut m d n) =
      let p = parameters_light a x d in
      let s = ap length cut ∙ length-append (t ∷ a) (u ∷ []) in
      omega (arith, p, s)
  form_light tokens tree (ArrayFormRule {length = x} d) = array_light tokens x d

  item_light : (tokens : List Token) (tree : ItemTree) → DerivesItem tokens tree → item_weight w tree ≤ length tokens
  item_light tokens tree d =
      let s = ap length d.cut ∙ length-append (d.a ++ d.t ∷ d.b) d.c in
      let r = length-append d.a (d.t ∷ d.b) in
      let k = stars_length d.a tree.stars d.stars in
      let j = times_light w.star tree.stars light.star in
      let p = form_light d.b tree.form d.form in
      let q = initialiser_light d.c tree.initial d.initial in
      omega (arith, s, r, k, j, p, q, light.item)

  items_light : (tokens : List Token) (trees : List ItemTree) → DerivesItems tokens trees → sum_by (item_weight w) trees ≤ length tokens
  items_light tokens _ (LastItem {tree = x} d) = let p = item_light tokens x d in omega (arith, p)
  items_light tokens _ (MoreItems a b t {tree = x} {trees = xs} cut d m more) =
      let p = item_light a x d in
      let q = items_light b xs more in
      let s = one_between tokens a b t cut in
      let k = sum_by-cons (item_weight w) x xs in
      omega (arith, p, q, s, k)

  pub declaration_light : (tokens : List Token) (tree : DeclarationTree) → DerivesDeclaration tokens tree → declaration_weight w tree ≤ length tokens
  declaration_light tokens tree d =
      let p = items_light d.b tree.items d.items in
      let s = ap length d.cut ∙ length-append (d.a ++ d.b) (d.t ∷ []) in
      let r = length-append d.a d.b in
      omega (arith, p, s, r)

  pub declarations_light : (tokens : List Token) (trees : List DeclarationTree) → DerivesDeclarations tokens trees → sum_by (declaration_weight w) trees ≤ length tokens
  declarations_light tokens _ NoDeclaration = omega arith
  declarations_light tokens _ (MoreDeclarations a b {tree = x} {trees = xs} cut d more) =
      let p = declaration_light a x d in
      let q = declarations_light b xs more in
      let s = next_to tokens a b cut in
      let k = sum_by-cons (declaration_weight w) x xs in
      omega (arith, p, q, s, k)
