-- An expression weighs no more than it has tokens.
use Rattle.std.proofs.Common.{◌≡◌, ◌≤◌, ◌+◌, ◌*◌, ℕ, zero, suc, List, [], ◌∷◌, ◌++◌, length, ap, ◌∙◌, arith, length-append}
use Rattle.c_syntax.specs.declared.token.Token.{Token}
use Rattle.c_syntax.specs.SyntaxTree.{TypeTree, Expression, Expressions}
use Rattle.c_syntax.specs.Grammar.{Row, Derives, Passes, CommaRule, AssignRule, AssignOpRule, ConditionalRule, OrRule, AndRule, BinaryRule, CastRule, StepBeforeRule, PrefixRule, SizeofValueRule, SizeofTypeRule, IndexRule, StepAfterRule, CallRule, NameRule, NumberRule, CharacterRule, ParenRule, AreArguments, NoArgument, SomeArguments, AreSome, LastArgument, MoreArguments, AreSpecs, LastSpec, MoreSpecs, AreStars, NoStar, MoreStars, IsType}
use Rattle.c_syntax.specs.Counts.{Weights, expression_weight, arguments_weight}

-- nothing weighs more than 1
pub record IsLight (w : Weights) : Type 0 where
  pub node : w.node ≤ 1
  pub item : w.item ≤ 1
  pub parameter : w.parameter ≤ 1
  pub star : w.star ≤ 1

pub times_light : (k n : ℕ) → k ≤ 1 → k * n ≤ n
times_light zero n h = omega arith
times_light (suc zero) n h = omega arith
times_light (suc (suc k)) n h = absurd (omega (arith, h))

-- how long a cut list is
pub one_between : (tokens a b : List Token) (t : Token) → tokens ≡ a ++ t ∷ b → length tokens ≡ length a + length b + 1
one_between tokens a b t e = let n = ap length e ∙ length-append a (t ∷ b) in omega (arith, n)

pub two_between : (tokens a b c : List Token) (t u : Token) → tokens ≡ a ++ t ∷ b ++ u ∷ c → length tokens ≡ length a + length b + length c + 2
two_between tokens a b c t u e = let n = ap length e ∙ length-append (a ++ t ∷ b) (u ∷ c) in let m = length-append a (t ∷ b) in omega (arith, n, m)

pub stars_length : (tokens : List Token) (n : ℕ) → AreStars tokens n → length tokens ≡ n
stars_length [] zero NoStar = omega arith
stars_length _ _ (MoreStars {tokens = tokens} {n = n} m more) = let h = stars_length tokens n more in omega (arith, h)

pub specs_some : {tokens : List Token} {words : _} → AreSpecs tokens words → 1 ≤ length tokens
specs_some (LastSpec h) = omega arith
specs_some (MoreSpecs h more) = omega arith

pub type_length : (tokens : List Token) (type : TypeTree) → IsType tokens type → type.stars + 1 ≤ length tokens
type_length tokens type h =
    let n = ap length h.cut ∙ length-append h.words h.stars in
    let m = stars_length h.stars type.stars h.are_stars in
    let k = specs_some h.are_specs in
    omega (arith, n, m, k)

module _ (w : Weights) (light : IsLight w) where
  binary : (tokens a b : List Token) (t : Token) (x y : Expression) → tokens ≡ a ++ t ∷ b → expression_weight w x ≤ length a → expression_weight w y ≤ length b → w.node + (expression_weight w x + expression_weight w y) ≤ length tokens
  binary tokens a b t x y cut p q = let s = one_between tokens a b t cut in omega (arith, p, q, s, light.node)

  mutual
    pub expression_light : (row : Row) (tokens : List Token) (tree : Expression) → Derives row tokens tree → expression_weight w tree ≤ length tokens
    expression_light row tokens tree (Passes next e d) = expression_light next tokens tree d
    expression_light row tokens tree (CommaRule a b t {left = x} {right = y} cut l m r) = binary tokens a b t x y cut (expression_light _ a x l) (expression_light _ b y r)
    expression_light row tokens tree (AssignRule a b t {left = x} {right = y} cut l m r) = binary tokens a b t x y cut (expression_light _ a x l) (expression_light _ b y r)
    expression_light row tokens tree (AssignOpRule a b t p {left = x} {right = y} cut l is m r) = binary tokens a b t x y cut (expression_light _ a x l) (expression_light _ b y r)
    expression_light row tokens tree (OrRule a b t {left = x} {right = y} cut l m r) = binary tokens a b t x y cut (expression_light _ a x l) (expression_light _ b y r)
    expression_light row tokens tree (AndRule a b t {left = x} {right = y} cut l m r) = binary tokens a b t x y cut (expression_light _ a x l) (expression_light _ b y r)
    expression_light row tokens tree (BinaryRule a b t next {left = x} {right = y} cut level e l m r) = binary tokens a b t x y cut (expression_light _ a x l) (expression_light _ b y r)
    expression_light row tokens tree (ConditionalRule a b c t u {test = x} {yes = y} {no = z} cut l m y' n z') =
        let p = expression_light _ a x l in
        let q = expression_light _ b y y' in
        let r = expression_light _ c z z' in
        let s = two_between tokens a b c t u cut in
        omega (arith, p, q, r, s, light.node)
    expression_light row tokens tree (CastRule a b t u {type = type} {operand = x} cut m h n r) =
        let p = expression_light _ b x r in
        let q = type_length a type h in
        let k = times_light w.star type.stars light.star in
        let s = ap length cut ∙ length-append (t ∷ a) (u ∷ b) in
        omega (arith, p, q, k, s, light.node)
    expression_light row tokens tree (StepBeforeRule a t {operand = x} cut m r) = let p = expression_light _ a x r in let s = ap length cut in omega (arith, p, s, light.node)
    expression_light row tokens tree (PrefixRule a t {operand = x} cut m r) = let p = expression_light _ a x r in let s = ap length cut in omega (arith, p, s, light.node)
    expression_light row tokens tree (SizeofValueRule a t {operand = x} cut k r) = let p = expression_light _ a x r in let s = ap length cut in omega (arith, p, s, light.node)
    expression_light row tokens tree (SizeofTypeRule a t u v {type = type} cut k m h n) =
        let q = type_length a type h in
        let i = times_light w.star type.stars light.star in
        let s = ap length cut ∙ length-append (t ∷ u ∷ a) (v ∷ []) in
        omega (arith, q, i, s, light.node)
    expression_light row tokens tree (IndexRule a b t u {operand = x} {index = y} cut l m r n) =
        let p = expression_light _ a x l in
        let q = expression_light _ b y r in
        let s = two_between tokens a b [] t u cut in
        omega (arith, p, q, s, light.node)
    expression_light row tokens tree (StepAfterRule a t {operand = x} cut l m) = let p = expression_light _ a x l in let s = one_between tokens a [] t cut in omega (arith, p, s, light.node)
    expression_light row tokens tree (CallRule a t u v {arguments = xs} cut k m r n) =
        let p = arguments_light a xs r in
        let s = ap length cut ∙ length-append (t ∷ u ∷ a) (v ∷ []) in
        omega (arith, p, s, light.node)
    expression_light row tokens tree (NameRule k) = omega (arith, light.node)
    expression_light row tokens tree (NumberRule k) = omega (arith, light.node)
    expression_light row tokens tree (CharacterRule k) = omega (arith, light.node)
    expression_light row tokens tree (ParenRule a t u {tree = x} cut m r n) = let p = expression_light _ a x r in let s = one_between tokens (t ∷ a) [] u cut in omega (arith, p, s)

    pub arguments_light : (tokens : List Token) (trees : Expressions) → AreArguments tokens trees → arguments_weight w trees ≤ length tokens
    arguments_light tokens trees NoArgument = omega arith
    arguments_light tokens trees (SomeArguments s) = some_light tokens trees s

    some_light : (tokens : List Token) (trees : Expressions) → AreSome tokens trees → arguments_weight w trees ≤ length tokens
    some_light tokens trees (LastArgument {tree = x} d) = let p = expression_light _ tokens x d in omega (arith, p)
    some_light tokens trees (MoreArguments a b t {tree = x} {arguments = xs} cut d m more) =
        let p = expression_light _ a x d in
        let q = some_light b xs more in
        let s = one_between tokens a b t cut in
        omega (arith, p, q, s)
