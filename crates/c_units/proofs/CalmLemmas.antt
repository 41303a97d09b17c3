-- Tokens in which no external ends: the grammar's expressions, types and parameters have no `;` and no brace.
use Rattle.std.proofs.Common.{◌≡◌, ◌∙◌, ℕ, Bool, true, false, List, [], ◌∷◌, ◌++◌, Option, Some, None, refl, sym, ap, subst}
use Rattle.std.specs.List.{AllByRecursion}
use Rattle.c_tree.specs.c_syntax.declared.token.Token.{Token}
use Rattle.c_tree.specs.c_syntax.declared.token.TokenKind.{TokenKind}
use Rattle.c_tree.specs.c_syntax.declared.token.TokenKind.TheVariants.{Mark}
use Rattle.c_tree.specs.c_syntax.declared.token.Punct.{Punct}
use Rattle.c_tree.specs.c_syntax.declared.token.Punct.TheVariants as mark
use Rattle.c_tree.specs.c_syntax.declared.operator.BinaryOp.{BinaryOp}
use Rattle.c_tree.specs.c_syntax.declared.operator.BinaryOp.TheVariants as binary
use Rattle.c_tree.specs.c_syntax.declared.syntax.PrefixOp.{PrefixOp}
use Rattle.c_tree.specs.c_syntax.declared.syntax.PrefixOp.TheVariants as prefix
use Rattle.c_tree.specs.c_syntax.SyntaxTree.{TypeTree, Expression, Expressions}
use Rattle.c_tree.specs.c_syntax.Grammar.{Row, operator_mark, assignment_mark, prefix_mark, step_mark, Derives, Passes, CommaRule, AssignRule, AssignOpRule, ConditionalRule, OrRule, AndRule, BinaryRule, CastRule, StepBeforeRule, PrefixRule, SizeofValueRule, SizeofTypeRule, IndexRule, StepAfterRule, CallRule, NameRule, NumberRule, CharacterRule, ParenRule, AreArguments, NoArgument, SomeArguments, AreSome, LastArgument, MoreArguments, AreSpecs, LastSpec, MoreSpecs, AreStars, NoStar, MoreStars, IsType}
use Rattle.c_units.proofs.ListLemmas.{all_joined}

-- a mark that ends no external and opens or closes no brace
abbrev pub is_quiet : Punct → Bool
is_quiet mark.Semicolon = false
is_quiet mark.OpenBrace = false
is_quiet mark.CloseBrace = false
is_quiet m = true

abbrev pub is_calm : TokenKind → Bool
is_calm (Mark m) = is_quiet m
is_calm kind = true

abbrev pub IsCalm : Token → Type 0
IsCalm t = is_calm t.kind ≡ true

abbrev pub AreCalm : List Token → Type 0
AreCalm tokens = AllByRecursion IsCalm tokens

pub calm : (t : Token) (kind : TokenKind) → t.kind ≡ kind → is_calm kind ≡ true → IsCalm t
calm t kind is quiet = ap is_calm is ∙ quiet

operator_quiet : (o : BinaryOp) → is_quiet (operator_mark o) ≡ true
operator_quiet binary.Or = refl
operator_quiet o = refl

prefix_quiet : (o : PrefixOp) → is_quiet (prefix_mark o) ≡ true
prefix_quiet prefix.Address = refl
prefix_quiet o = refl

step_quiet : (up : Bool) → is_quiet (step_mark up) ≡ true
step_quiet true = refl
step_quiet false = refl

abbrev quiet_if_some : Option Punct → Bool
quiet_if_some None = true
quiet_if_some (Some m) = is_quiet m

assignment_some : (o : BinaryOp) → quiet_if_some (assignment_mark o) ≡ true
assignment_some binary.Or = refl
assignment_some o = refl

assignment_quiet : (o : BinaryOp) (m : Punct) → assignment_mark o ≡ Some m → is_quiet m ≡ true
assignment_quiet o m is = sym (ap quiet_if_some is) ∙ assignment_some o

-- one token between, and two
pub between : (tokens a b : List Token) (t : Token) → tokens ≡ a ++ t ∷ b → AreCalm a → IsCalm t → AreCalm b → AreCalm tokens
between tokens a b t cut h k m = subst AreCalm (sym cut) (all_joined IsCalm a (t ∷ b) h (k, m))

two_between : (tokens a b c : List Token) (t u : Token) → tokens ≡ a ++ t ∷ b ++ u ∷ c → AreCalm a → IsCalm t → AreCalm b → IsCalm u → AreCalm c → AreCalm tokens
two_between tokens a b c t u cut h k m n o = subst AreCalm (sym cut) (all_joined IsCalm (a ++ t ∷ b) (u ∷ c) (all_joined IsCalm a (t ∷ b) h (k, m)) (n, o))

pub specs_calm : (tokens : List Token) (words : _) → AreSpecs tokens words → AreCalm tokens
specs_calm _ _ (LastSpec {t = t} h) = (calm t _ h refl, tt {0})
specs_calm _ _ (MoreSpecs {t = t} {tokens = tokens} h more) = (calm t _ h refl, specs_calm tokens _ more)

pub stars_calm : (tokens : List Token) (n : ℕ) → AreStars tokens n → AreCalm tokens
stars_calm _ _ NoStar = tt {0}
stars_calm _ _ (MoreStars {t = t} {tokens = tokens} {n = n} h more) = (calm t _ h refl, stars_calm tokens n more)

pub type_calm : (tokens : List Token) (type : TypeTree) → IsType tokens type → AreCalm tokens
type_calm tokens type h = subst AreCalm (sym h.cut) (all_joined IsCalm h.words h.stars (specs_calm h.words _ h.are_specs) (stars_calm h.stars type.stars h.are_stars))

mutual
  pub expression_calm : (row : Row) (tokens : List Token) (tree : Expression) → Derives row tokens tree → AreCalm tokens
  expression_calm row tokens tree (Passes next e d) = expression_calm next tokens tree d
  expression_calm row tokens tree (CommaRule a b t {left = x} {right = y} cut l m r) = between tokens a b t cut (expression_calm _ a x l) (calm t _ m refl) (expression_calm _ b y r)
  expression_calm row tokens tree (AssignRule a b t {left = x} {right = y} cut l m r) = between tokens a b t cut (expression_calm _ a x l) (calm t _ m refl) (expression_calm _ b y r)
  expression_calm row tokens tree (AssignOpRule a b t p {operator = o} {left = x} {right = y} cut l is m r) = between tokens a b t cut (expression_calm _ a x l) (calm t _ m (assignment_quiet o p is)) (expression_calm _ b y r)
  expression_calm row tokens tree (OrRule a b t {left = x} {right = y} cut l m r) = between tokens a b t cut (expression_calm _ a x l) (calm t _ m refl) (expression_calm _ b y r)
  expression_calm row tokens tree (AndRule a b t {left = x} {right = y} cut l m r) = between tokens a b t cut (expression_calm _ a x l) (calm t _ m refl) (expression_calm _ b y r)
  expression_calm row tokens tree (BinaryRule a b t next {operator = o} {left = x} {right = y} cut level e l m r) = between tokens a b t cut (expression_calm _ a x l) (calm t _ m (operator_quiet o)) (expression_calm _ b y r)
  expression_calm row tokens tree (ConditionalRule a b c t u {test = x} {yes = y} {no = z} cut l m p n q) =
      two_between tokens a b c t u cut (expression_calm _ a x l) (calm t _ m refl) (expression_calm _ b y p) (calm u _ n refl) (expression_calm _ c z q)
  expression_calm row tokens tree (CastRule a b t u {type = type} {operand = x} cut m h n r) =
      subst AreCalm (sym cut) (all_joined IsCalm (t ∷ a) (u ∷ b) (calm t _ m refl, type_calm a type h) (calm u _ n refl, expression_calm _ b x r))
  expression_calm row tokens tree (StepBeforeRule a t {up = up} {operand = x} cut m r) = subst AreCalm (sym cut) (calm t _ m (step_quiet up), expression_calm _ a x r)
  expression_calm row tokens tree (PrefixRule a t {operator = o} {operand = x} cut m r) = subst AreCalm (sym cut) (calm t _ m (prefix_quiet o), expression_calm _ a x r)
  expression_calm row tokens tree (SizeofValueRule a t {operand = x} cut k r) = subst AreCalm (sym cut) (calm t _ k refl, expression_calm _ a x r)
  expression_calm row tokens tree (SizeofTypeRule a t u v {type = type} cut k m h n) =
      subst AreCalm (sym cut) (all_joined IsCalm (t ∷ u ∷ a) (v ∷ []) (calm t _ k refl, (calm u _ m refl, type_calm a type h)) (calm v _ n refl, tt {0}))
  expression_calm row tokens tree (IndexRule a b t u {operand = x} {index = y} cut l m r n) =
      two_between tokens a b [] t u cut (expression_calm _ a x l) (calm t _ m refl) (expression_calm _ b y r) (calm u _ n refl) (tt {0})
  expression_calm row tokens tree (StepAfterRule a t {up = up} {operand = x} cut l m) = between tokens a [] t cut (expression_calm _ a x l) (calm t _ m (step_quiet up)) (tt {0})
  expression_calm row tokens tree (CallRule a t u v {arguments = xs} cut k m r n) =
      subst AreCalm (sym cut) (all_joined IsCalm (t ∷ u ∷ a) (v ∷ []) (calm t _ k refl, (calm u _ m refl, arguments_calm a xs r)) (calm v _ n refl, tt {0}))
  expression_calm row tokens tree (NameRule {t = t} k) = (calm t _ k refl, tt {0})
  expression_calm row tokens tree (NumberRule {t = t} k) = (calm t _ k refl, tt {0})
  expression_calm row tokens tree (CharacterRule {t = t} k) = (calm t _ k refl, tt {0})
  expression_calm row tokens tree (ParenRule a t u {tree = x} cut m r n) =
      subst AreCalm (sym cut) (all_joined IsCalm (t ∷ a) (u ∷ []) (calm t _ m refl, expression_calm _ a x r) (calm u _ n refl, tt {0}))

  arguments_calm : (tokens : List Token) (trees : Expressions) → AreArguments tokens trees → AreCalm tokens
  arguments_calm tokens trees NoArgument = tt {0}
  arguments_calm tokens trees (SomeArguments s) = some_calm tokens trees s

  some_calm : (tokens : List Token) (trees : Expressions) → AreSome tokens trees → AreCalm tokens
  some_calm tokens trees (LastArgument {tree = x} d) = expression_calm _ tokens x d
  some_calm tokens trees (MoreArguments a b t {tree = x} {arguments = xs} cut d m more) = between tokens a b t cut (expression_calm _ a x d) (calm t _ m refl) (some_calm b xs more)
