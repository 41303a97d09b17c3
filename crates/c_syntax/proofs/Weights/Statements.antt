-- A statement, a function and a whole source weigh no more than they have tokens.
use Rattle.std.proofs.Common.{◌≤◌, ◌+◌, List, [], ◌∷◌, ◌++◌, length, ap, ◌∙◌, arith, length-append, Option}
use Rattle.std.proofs.lemmas.List.Sums.{sum_by-cons}
use Rattle.c_syntax.specs.declared.limits.TheConstants.{MOST_TOKENS}
use Rattle.c_syntax.specs.declared.token.Token.{Token}
use Rattle.c_syntax.specs.SyntaxTree.{Expression, Statement, Block, Statements, Choices, ExternalTree, Defined, Declared, UnitTree}
use Rattle.c_syntax.specs.Derives.{Closing, IsTested, IsForHead, DerivesStatement, EmptyRule, EvaluateRule, BlockRule, BreakRule, ContinueRule, ReturnRule, DoRule, IfRule, IfElseRule, WhileRule, ForRule, SwitchRule, DerivesStatements, NoStatement, MoreStatements, DerivesChoices, NoChoice, CaseRule, DefaultRule, ChosenRule, DerivesExternal, DerivesUnit, LastExternal, MoreExternals}
use Rattle.c_syntax.specs.Measures.{greatest_height, unit_height}
use Rattle.c_syntax.specs.Counts.{Weights, expression_weight, optional_weight, statement_weight, statements_weight, choices_weight, external_weight, unit_weight, IsWithinLimits}
use Rattle.c_syntax.proofs.Weights.Expressions.{IsLight, times_light, one_between, stars_length, expression_light}
use Rattle.c_syntax.proofs.Weights.Declarations.{next_to, optional_light, parameters_light, declaration_light, declarations_light}

module _ (w : Weights) (light : IsLight w) where
  tested_light : (words tokens : List Token) (tree : Expression) → IsTested words tokens tree → expression_weight w tree + length words + 2 ≤ length tokens
  tested_light words tokens tree d =
      let p = expression_light w light _ d.a tree d.test in
      let s = ap length d.cut ∙ length-append (words ++ d.t ∷ d.a) (d.u ∷ []) in
      let r = length-append words (d.t ∷ d.a) in
      omega (arith, p, s, r)

  head_light : (tokens : List Token) (x y z : Option Expression) → IsForHead tokens x y z → optional_weight w x + optional_weight w y + optional_weight w z + 5 ≤ length tokens
  head_light tokens x y z d =
      let p = optional_light w light _ d.a x d.first_part in
      let q = optional_light w light _ d.b y d.test_part in
      let r = optional_light w light _ d.c z d.third_part in
      let s = ap length d.cut ∙ length-append (d.k ∷ d.t ∷ d.a ++ d.u ∷ d.b ++ d.v ∷ d.c) (d.w ∷ []) in
      let i = length-append (d.k ∷ d.t ∷ d.a ++ d.u ∷ d.b) (d.v ∷ d.c) in
      let j = length-append (d.k ∷ d.t ∷ d.a) (d.u ∷ d.b) in
      omega (arith, p, q, r, s, i, j)

  mutual
    pub statement_light : (closing : Closing) (tokens : List Token) (tree : Statement) → DerivesStatement closing tokens tree → statement_weight w tree ≤ length tokens
    statement_light closing tokens tree (EmptyRule m) = omega (arith, light.node)
    statement_light closing tokens tree (EvaluateRule a t {tree = x} cut d m) =
        let p = expression_light w light _ a x d in
        let s = one_between tokens a [] t cut in
        omega (arith, p, s, light.node)
    statement_light closing tokens tree (BlockRule a b t u {declarations = xs} {statements = ys} cut m d e n) =
        let p = declarations_light w light a xs d in
        let q = statements_light b ys e in
        let s = ap length cut ∙ length-append (t ∷ a ++ b) (u ∷ []) in
        let r = length-append (t ∷ a) b in
        omega (arith, p, q, s, r, light.node)
    statement_light closing tokens tree (BreakRule k m) = omega (arith, light.node)
    statement_light closing tokens tree (ContinueRule k m) = omega (arith, light.node)
    statement_light closing tokens tree (ReturnRule a t u {value = x} cut k d m) =
        let p = optional_light w light _ a x d in
        let s = ap length cut ∙ length-append (t ∷ a) (u ∷ []) in
        omega (arith, p, s, light.node)
    statement_light closing tokens tree (DoRule c a b t u v {body = x} {test = y} cut k d l e m) =
        let p = statement_light c a x d in
        let q = tested_light (u ∷ []) b y e in
        let s = ap length cut ∙ length-append (t ∷ a ++ b) (v ∷ []) in
        let r = length-append (t ∷ a) b in
        omega (arith, p, q, s, r, light.node)
    statement_light closing tokens tree (IfRule c a b t {test = x} {yes = y} cut k d e) =
        let p = tested_light (t ∷ []) a x d in
        let q = statement_light c b y e in
        let s = next_to tokens a b cut in
        omega (arith, p, q, s, light.node)
    statement_light closing tokens tree (IfElseRule a b c t u {test = x} {yes = y} {no = z} cut k d e l f) =
        let p = tested_light (t ∷ []) a x d in
        let q = statement_light _ b y e in
        let r = statement_light _ c z f in
        let s = ap length cut ∙ length-append (a ++ b) (u ∷ c) in
        let i = length-append a b in
        omega (arith, p, q, r, s, i, light.node)
    statement_light closing tokens tree (WhileRule a b t {test = x} {body = y} cut k d e) =
        let p = tested_light (t ∷ []) a x d in
        let q = statement_light _ b y e in
        let s = next_to tokens a b cut in
        omega (arith, p, q, s, light.node)
    statement_light closing tokens tree (ForRule a b {first = x} {test = y} {third = z} {body = v} cut d e) =
        let p = head_light a x y z d in
        let q = statement_light _ b v e in
        let s = next_to tokens a b cut in
        omega (arith, p, q, s, light.node)
    statement_light closing tokens tree (SwitchRule a b t u v {value = x} {choices = ys} cut k d m e n) =
        let p = tested_light (t ∷ []) a x d in
        let q = choices_light b ys e in
        let s = ap length cut ∙ length-append (a ++ u ∷ b) (v ∷ []) in
        let r = length-append a (u ∷ b) in
        omega (arith, p, q, s, r, light.node)

    statements_light : (tokens : List Token) (trees : Statements) → DerivesStatements tokens trees → statements_weight w trees ≤ length tokens
    statements_light tokens trees NoStatement = omega arith
    statements_light tokens trees (MoreStatements c a b {tree = x} {trees = xs} cut d more) =
        let p = statement_light c a x d in
        let q = statements_light b xs more in
        let s = next_to tokens a b cut in
        omega (arith, p, q, s)

    choices_light : (tokens : List Token) (trees : Choices) → DerivesChoices tokens trees → choices_weight w trees ≤ length tokens
    choices_light tokens trees NoChoice = omega arith
    choices_light tokens trees (CaseRule a b t u {value = x} {choices = ys} cut k d m more) =
        let p = expression_light w light _ a x d in
        let q = choices_light b ys more in
        let s = ap length cut ∙ length-append (t ∷ a) (u ∷ b) in
        omega (arith, p, q, s)
    choices_light tokens trees (DefaultRule a t u {choices = ys} cut k m more) = let q = choices_light a ys more in let s = ap length cut in omega (arith, q, s)
    choices_light tokens trees (ChosenRule c a b {tree = x} {choices = ys} cut d more) =
        let p = statement_light c a x d in
        let q = choices_light b ys more in
        let s = next_to tokens a b cut in
        omega (arith, p, q, s)

  external_light : (tokens : List Token) (tree : ExternalTree) → DerivesExternal tokens tree → (external_weight w tree ≤ length tokens) × (1 ≤ length tokens)
  external_light tokens (Defined tree) d =
      let s = ap length d.cut ∙ length-append (d.a ++ d.b ++ d.n ∷ d.t ∷ d.c) (d.u ∷ d.d) in
      let r = length-append (d.a ++ d.b) (d.n ∷ d.t ∷ d.c) in
      let q = length-append d.a d.b in
      let k = stars_length d.b tree.stars d.stars in
      let j = times_light w.star tree.stars light.star in
      let i = parameters_light w light d.c tree.parameters d.parameters in
      let h = statement_light _ d.d (Block tree.declarations tree.statements tree.body_at) d.body in
      (omega (arith, s, r, q, k, j, i, h), omega (arith, s))
  external_light tokens (Declared tree) d =
      let s = ap length d.cut ∙ length-append (d.a ++ d.b) (d.t ∷ []) in
      (declaration_light w light tokens tree d, omega (arith, s))

  pub unit_light : (tokens : List Token) (trees : UnitTree) → DerivesUnit tokens trees → unit_weight w trees ≤ length tokens
  unit_light tokens _ (LastExternal {tree = x} d) = let p = external_light tokens x d in omega (arith, p.0)
  unit_light tokens _ (MoreExternals a b {tree = x} {trees = xs} cut d more) =
      let p = external_light a x d in
      let q = unit_light b xs more in
      let s = next_to tokens a b cut in
      let k = sum_by-cons (external_weight w) x xs in
      omega (arith, p.0, q, s, k)

  unit_length : (tokens : List Token) (trees : UnitTree) → DerivesUnit tokens trees → length trees ≤ length tokens
  unit_length tokens _ (LastExternal {tree = x} d) = let p = external_light tokens x d in omega (arith, p.1)
  unit_length tokens _ (MoreExternals a b {tree = x} {trees = xs} cut d more) =
      let p = external_light a x d in
      let q = unit_length b xs more in
      let s = next_to tokens a b cut in
      omega (arith, p.1, q, s)

-- what is derived of few tokens, and isn't too high, is within the limits of a source's tree
pub within_limits : (tokens : List Token) (tree : UnitTree) → length tokens ≤ MOST_TOKENS → DerivesUnit tokens tree → unit_height tree ≤ greatest_height → IsWithinLimits tree
within_limits tokens tree few d low =
    let node : Weights = record { node = 1; item = 1; parameter = 0; star = 0 } in
    let parameter : Weights = record { node = 0; item = 0; parameter = 1; star = 0 } in
    let star : Weights = record { node = 0; item = 0; parameter = 0; star = 1 } in
    let p = unit_light node (record { node = omega arith; item = omega arith; parameter = omega arith; star = omega arith }) tokens tree d in
    let q = unit_light parameter (record { node = omega arith; item = omega arith; parameter = omega arith; star = omega arith }) tokens tree d in
    let r = unit_light star (record { node = omega arith; item = omega arith; parameter = omega arith; star = omega arith }) tokens tree d in
    let s = unit_length star (record { node = omega arith; item = omega arith; parameter = omega arith; star = omega arith }) tokens tree d in
    record { height = low; count = omega (arith, few, p); externals = omega (arith, few, s); parameters = omega (arith, few, q); stars = omega (arith, few, r) }
