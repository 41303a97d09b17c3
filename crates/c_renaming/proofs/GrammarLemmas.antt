-- Expressions, types and their tokens renamed.
use Rattle.std.proofs.Common.{◌≡◌, ◌≢◌, ℕ, zero, suc, List, [], ◌∷◌, ◌++◌, refl, sym, ap, ◌∙◌, subst}
use Rattle.c_tree.specs.c_syntax.declared.token.Token.{Token}
use Rattle.c_tree.specs.c_syntax.declared.token.TokenKind.TheVariants as token
use Rattle.c_tree.specs.c_syntax.declared.syntax.SpecWord.{SpecWord}
use Rattle.c_tree.specs.c_syntax.SyntaxTree.{TypeTree, Expression, Node, ExpressionForm, Expressions, no_argument}
use Rattle.c_tree.specs.c_syntax.Grammar.{Row, place_of, Derives, Passes, CommaRule, AssignRule, AssignOpRule, ConditionalRule, OrRule, AndRule, BinaryRule, CastRule, StepBeforeRule}
use Rattle.c_tree.specs.c_syntax.Grammar.{PrefixRule, SizeofValueRule, SizeofTypeRule, IndexRule, StepAfterRule, CallRule, NameRule, NumberRule, CharacterRule, ParenRule, AreArguments}
use Rattle.c_tree.specs.c_syntax.Grammar.{NoArgument, SomeArguments, AreSome, LastArgument, MoreArguments, AreSpecs, LastSpec, MoreSpecs, AreStars, NoStar, MoreStars, IsType}
use Rattle.c_renaming.specs.Renaming.{Renaming}
use Rattle.c_renaming.specs.RenamedTrees.{renamed_type, renamed_expression, renamed_expressions}
use Rattle.c_renaming.proofs.TokenLemmas.{Renames, mark_kept, keyword_kept, name_kept, kind_kept, place_kept, none_of, cut, first_token, only, cut_at, cut_end, enclosed}

pub specs_some : {tokens : List Token} {words : List SpecWord} → AreSpecs tokens words → tokens ≢ []
specs_some (LastSpec h) none = cc
specs_some (MoreSpecs h more) none = cc

pub specs_kept : {r : Renaming} (tokens others : List Token) (words : List SpecWord) → AreSpecs tokens words → Renames r tokens others → AreSpecs others words
specs_kept tokens others words (LastSpec {t = t} {w = w} k) h =
    let c = only t refl h in
    subst (λ l. AreSpecs l (w ∷ [])) (sym c.is) (LastSpec (keyword_kept c.renamed k))
specs_kept tokens others words (MoreSpecs {t = t} {tokens = rest} {w = w} {words = ws} k more) h =
    let c = first_token t rest refl h in
    subst (λ l. AreSpecs l (w ∷ ws)) (sym c.is) (MoreSpecs (keyword_kept c.renamed k) (specs_kept rest c.back ws more c.rest))

pub stars_kept : {r : Renaming} (tokens others : List Token) (n : ℕ) → AreStars tokens n → Renames r tokens others → AreStars others n
stars_kept tokens others n NoStar h = subst (λ l. AreStars l zero) (sym (none_of refl h)) NoStar
stars_kept tokens others n (MoreStars {t = t} {tokens = rest} {n = k} m more) h =
    let c = first_token t rest refl h in
    subst (λ l. AreStars l (suc k)) (sym c.is) (MoreStars (mark_kept c.renamed m) (stars_kept rest c.back k more c.rest))

pub type_kept : {r : Renaming} (tokens others : List Token) (type : TypeTree) → IsType tokens type → Renames r tokens others → IsType others (renamed_type r type)
type_kept {r} tokens others type g h =
    let c = cut g.words g.stars g.cut h in
    record {
      words = c.front;
      stars = c.back;
      cut = c.is;
      are_specs = specs_kept g.words c.front type.specs.words g.are_specs c.first;
      place = ap r.place g.place ∙ sym (place_kept (specs_some g.are_specs) c.first);
      are_stars = stars_kept g.stars c.back type.stars g.are_stars c.second;
    }

placed : {row : Row} {tokens : List Token} {form : ExpressionForm} {at : ℕ} → Derives row tokens (Node form (place_of tokens)) → place_of tokens ≡ at → Derives row tokens (Node form at)
placed {row} {tokens} {form} d e = subst (λ p. Derives row tokens (Node form p)) e d

single : {row : Row} {tokens : List Token} {t : Token} {form : ExpressionForm} {at : ℕ} → tokens ≡ t ∷ [] → t.at ≡ at → Derives row (t ∷ []) (Node form t.at) → Derives row tokens (Node form at)
single {row} {tokens} {t} {form} {at} is e d = subst (λ l. Derives row l (Node form at)) (sym is) (subst (λ p. Derives row (t ∷ []) (Node form p)) e d)

module _ (r : Renaming) where
  mutual
    pub expression_kept : (row : Row) (tokens others : List Token) (tree : Expression) → Derives row tokens tree → Renames r tokens others → Derives row others (renamed_expression r tree)
    expression_kept row tokens others tree (Passes next e d) h = Passes next e (expression_kept next tokens others tree d h)
    expression_kept row tokens others tree (CommaRule a b t {left = x} {right = y} is l m n) h =
        let c = cut_at a t b is h in
        placed (CommaRule c.front c.back c.token c.is (expression_kept _ a c.front x l c.first) (mark_kept c.renamed m) (expression_kept _ b c.back y n c.second)) c.place
    expression_kept row tokens others tree (AssignRule a b t {left = x} {right = y} is l m n) h =
        let c = cut_at a t b is h in
        placed (AssignRule c.front c.back c.token c.is (expression_kept _ a c.front x l c.first) (mark_kept c.renamed m) (expression_kept _ b c.back y n c.second)) c.place
    expression_kept row tokens others tree (AssignOpRule a b t p {left = x} {right = y} is l k m n) h =
        let c = cut_at a t b is h in
        placed (AssignOpRule c.front c.back c.token p c.is (expression_kept _ a c.front x l c.first) k (mark_kept c.renamed m) (expression_kept _ b c.back y n c.second)) c.place
    expression_kept row tokens others tree (OrRule a b t {left = x} {right = y} is l m n) h =
        let c = cut_at a t b is h in
        placed (OrRule c.front c.back c.token c.is (expression_kept _ a c.front x l c.first) (mark_kept c.renamed m) (expression_kept _ b c.back y n c.second)) c.place
    expression_kept row tokens others tree (AndRule a b t {left = x} {right = y} is l m n) h =
        let c = cut_at a t b is h in
        placed (AndRule c.front c.back c.token c.is (expression_kept _ a c.front x l c.first) (mark_kept c.renamed m) (expression_kept _ b c.back y n c.second)) c.place
    expression_kept row tokens others tree (BinaryRule a b t next {left = x} {right = y} is k e l m n) h =
        let c = cut_at a t b is h in
        placed (BinaryRule c.front c.back c.token next c.is k e (expression_kept _ a c.front x l c.first) (mark_kept c.renamed m) (expression_kept _ b c.back y n c.second)) c.place
    expression_kept row tokens others tree (ConditionalRule a b e t u {test = x} {yes = y} {no = z} is l m o m' n) h =
        let c = cut_at (a ++ t ∷ b) u e is h in
        let d = cut_at a t b refl c.first in
        placed
        (ConditionalRule d.front d.back c.back d.token c.token (c.is ∙ ap (λ l. l ++ c.token ∷ c.back) d.is)
        (expression_kept _ a d.front x l d.first)
        (mark_kept d.renamed m)
        (expression_kept _ b d.back y o d.second)
        (mark_kept c.renamed m')
        (expression_kept _ e c.back z n c.second))
        c.place
    expression_kept row tokens others tree (CastRule a b t u {type = type} {operand = x} is m g n d) h =
        let c = cut_at (t ∷ a) u b is h in
        let f = first_token t a refl c.first in
        placed
        (CastRule f.back c.back f.token c.token (c.is ∙ ap (λ l. l ++ c.token ∷ c.back) f.is)
        (mark_kept f.renamed m)
        (type_kept a f.back type g f.rest)
        (mark_kept c.renamed n)
        (expression_kept _ b c.back x d c.second))
        c.place
    expression_kept row tokens others tree (StepBeforeRule a t {operand = x} is m d) h =
        let c = first_token t a is h in
        placed (StepBeforeRule c.back c.token c.is (mark_kept c.renamed m) (expression_kept _ a c.back x d c.rest)) c.place
    expression_kept row tokens others tree (PrefixRule a t {operand = x} is m d) h =
        let c = first_token t a is h in
        placed (PrefixRule c.back c.token c.is (mark_kept c.renamed m) (expression_kept _ a c.back x d c.rest)) c.place
    expression_kept row tokens others tree (SizeofValueRule a t {operand = x} is k d) h =
        let c = first_token t a is h in
        placed (SizeofValueRule c.back c.token c.is (keyword_kept c.renamed k) (expression_kept _ a c.back x d c.rest)) c.place
    expression_kept row tokens others tree (SizeofTypeRule a t u v {type = type} is k m g n) h =
        let c = enclosed t (u ∷ a) v is h in
        let d = first_token u a refl c.inner in
        placed
        (SizeofTypeRule d.back c.left d.token c.right (c.is ∙ ap (λ l. c.left ∷ l ++ c.right ∷ []) d.is)
        (keyword_kept c.left_renamed k)
        (mark_kept d.renamed m)
        (type_kept a d.back type g d.rest)
        (mark_kept c.right_renamed n))
        c.place
    expression_kept row tokens others tree (IndexRule a b t u {operand = x} {index = y} is l m d n) h =
        let c = cut_end (a ++ t ∷ b) u is h in
        let e = cut_at a t b refl c.first in
        placed
        (IndexRule e.front e.back e.token c.token (c.is ∙ ap (λ l. l ++ c.token ∷ []) e.is)
        (expression_kept _ a e.front x l e.first)
        (mark_kept e.renamed m)
        (expression_kept _ b e.back y d e.second)
        (mark_kept c.renamed n))
        c.place
    expression_kept row tokens others tree (StepAfterRule a t {operand = x} is d m) h =
        let c = cut_end a t is h in
        placed (StepAfterRule c.front c.token c.is (expression_kept _ a c.front x d c.first) (mark_kept c.renamed m)) c.place
    expression_kept row tokens others tree (CallRule a t u v {name = name} {arguments = xs} is k m g n) h =
        let c = enclosed t (u ∷ a) v is h in
        let d = first_token u a refl c.inner in
        placed
        (CallRule d.back c.left d.token c.right (c.is ∙ ap (λ l. c.left ∷ l ++ c.right ∷ []) d.is)
        (name_kept name c.left_renamed k)
        (mark_kept d.renamed m)
        (arguments_kept a d.back xs g d.rest)
        (mark_kept c.right_renamed n))
        c.place
    expression_kept row tokens others tree (NameRule {t = t} {name = name} k) h =
        let c = only t refl h in
        single c.is c.renamed.place (NameRule (name_kept name c.renamed k))
    expression_kept row tokens others tree (NumberRule {t = t} {value = v} {marked = m} {decimal = d} k) h =
        let c = only t refl h in
        single c.is c.renamed.place (NumberRule (kind_kept (token.Number v m d) c.renamed k))
    expression_kept row tokens others tree (CharacterRule {t = t} {value = v} k) h =
        let c = only t refl h in
        single c.is c.renamed.place (CharacterRule (kind_kept (token.Char v) c.renamed k))
    expression_kept row tokens others tree (ParenRule a t u {tree = x} is m d n) h =
        let c = enclosed t a u is h in
        ParenRule c.middle c.left c.right c.is (mark_kept c.left_renamed m) (expression_kept _ a c.middle x d c.inner) (mark_kept c.right_renamed n)

    pub arguments_kept : (tokens others : List Token) (trees : Expressions) → AreArguments tokens trees → Renames r tokens others → AreArguments others (renamed_expressions r trees)
    arguments_kept tokens others trees NoArgument h = subst (λ l. AreArguments l no_argument) (sym (none_of refl h)) NoArgument
    arguments_kept tokens others trees (SomeArguments s) h = SomeArguments (some_kept tokens others trees s h)

    some_kept : (tokens others : List Token) (trees : Expressions) → AreSome tokens trees → Renames r tokens others → AreSome others (renamed_expressions r trees)
    some_kept tokens others trees (LastArgument {tree = x} d) h = LastArgument (expression_kept _ tokens others x d h)
    some_kept tokens others trees (MoreArguments a b t {tree = x} {arguments = xs} is d m more) h =
        let c = cut_at a t b is h in
        MoreArguments c.front c.back c.token c.is (expression_kept _ a c.front x d c.first) (mark_kept c.renamed m) (some_kept b c.back xs more c.second)
