-- What stands in a switch: loops over it, and its measures. What a function makes of one choice is what it makes of a row of that one.
use Rattle.std.proofs.Common.{◌≡◌, ◌<◌, ◌≤◌, ◌+◌, ◌++◌, ◌∷◌, ℕ, List, length, take, drop, get_or, ap, ◌∙◌, sym, subst, arith}
use Rattle.c_tree.specs.declared.typed_statement.TypedStmt.{TypedStmt}
use Rattle.c_tree.specs.declared.typed_statement.Choice.{Choice}
use Rattle.c_tree.specs.declared.typed_statement.Choice as choice
use Rattle.c_tree.specs.TypedTree as tree
use Rattle.c_tree.specs.TypedTree.{Stmt, Choices, no_more}
use Rattle.c_tree.specs.View.{stmt_of, choice_list, choice_before}
use Rattle.c_tree.specs.Monoids.{IsMonoid}
use Rattle.c_tree.specs.Replaced.{IsReplacedTo}
use Rattle.c_tree.proofs.Folds.{join_further, join_behind}
use Rattle.c_tree.proofs.Replacing.{all_replaced}
use Rattle.c_tree.proofs.Members.{member}

-- one choice, as a row
abbrev pub alone : Choice → Choices
alone c = choice_before c no_more

-- a value that joins those of the choices
module _ {V : Type 0} {unit : V} {join : V → V → V} (laws : IsMonoid unit join) (whole : Choices → V) (empty : whole no_more ≡ unit)
    (case : (w : ℕ) (rest : Choices) → whole (tree.case w rest) ≡ join (whole (tree.case w no_more)) (whole rest))
    (default : (rest : Choices) → whole (tree.default rest) ≡ join (whole (tree.default no_more)) (whole rest))
    (body : (s : Stmt) (rest : Choices) → whole (tree.body s rest) ≡ join (whole (tree.body s no_more)) (whole rest)) where
  first : (c : Choice) (rest : Choices) → whole (choice_before c rest) ≡ join (whole (alone c)) (whole rest)
  first (choice.Case w) rest = case w rest
  first choice.Default rest = default rest
  first (choice.Body s) rest = body (stmt_of s) rest

  pub choices_further : (cs : List Choice) (i : ℕ) (c : Choice) → c ≡ get_or cs i c → i < length cs
      → {now next : V} → now ≡ whole (choice_list (take i cs)) → next ≡ join now (whole (alone c)) → next ≡ whole (choice_list (take (i + 1) cs))
  choices_further = join_further laws (λ c. whole (alone c)) (λ cs. whole (choice_list cs)) empty (λ c cs. first c (choice_list cs))

  pub choices_behind : (old : V) (cs : List Choice) (i : ℕ) (c : Choice) → c ≡ get_or cs i c → i < length cs
      → {now next : V} → now ≡ join old (whole (choice_list (take i cs))) → next ≡ join now (whole (alone c))
      → next ≡ join old (whole (choice_list (take (i + 1) cs)))
  choices_behind = join_behind laws (λ c. whole (alone c)) (λ cs. whole (choice_list cs)) empty (λ c cs. first c (choice_list cs))

-- choices that are replaced in place
module _ (make : Stmt → Stmt) (whole : Choices → Choices) (empty : whole no_more ≡ no_more) (case : (w : ℕ) (rest : Choices) → whole (tree.case w rest) ≡ tree.case w (whole rest))
    (default : (rest : Choices) → whole (tree.default rest) ≡ tree.default (whole rest))
    (body : (s : Stmt) (rest : Choices) → whole (tree.body s rest) ≡ tree.body (make s) (whole rest)) where
  before_others : (x y : Choice) (rest : Choices) → alone x ≡ whole (alone y) → choice_before x (whole rest) ≡ whole (choice_before y rest)
  before_others (choice.Case v) (choice.Case w) rest one =
      let same : v ≡ w = cc (one ∙ case w no_more) in ap (λ u. tree.case u (whole rest)) same ∙ sym (case w rest)
  before_others (choice.Case v) choice.Default rest one = absurd (cc (one ∙ default no_more))
  before_others (choice.Case v) (choice.Body t) rest one = absurd (cc (one ∙ body (stmt_of t) no_more))
  before_others choice.Default (choice.Case w) rest one = absurd (cc (one ∙ case w no_more))
  before_others choice.Default choice.Default rest one = sym (default rest)
  before_others choice.Default (choice.Body t) rest one = absurd (cc (one ∙ body (stmt_of t) no_more))
  before_others (choice.Body s) (choice.Case w) rest one = absurd (cc (one ∙ case w no_more))
  before_others (choice.Body s) choice.Default rest one = absurd (cc (one ∙ default no_more))
  before_others (choice.Body s) (choice.Body t) rest one =
      let same : stmt_of s ≡ make (stmt_of t) = cc (one ∙ body (stmt_of t) no_more) in ap (λ u. tree.body u (whole rest)) same ∙ sym (body (stmt_of t) rest)

  pub choices_replaced : (n i : ℕ) (new old lent : List Choice) → lent ≡ old → length old ≤ n → length new ≤ i → IsReplacedTo alone whole i lent new
      → choice_list (take n (new ++ drop (length new) old)) ≡ whole (choice_list old)
  choices_replaced = all_replaced alone whole choice_list whole (sym empty)
      (λ x y xs ys one others. ap (choice_before x) others ∙ before_others x y (choice_list ys) one)

-- a measure by which a statement is within its switch
module _ (one : Stmt → ℕ) (whole : Choices → ℕ) (case : (w : ℕ) (rest : Choices) → whole rest ≤ whole (tree.case w rest))
    (default : (rest : Choices) → whole rest ≤ whole (tree.default rest))
    (body : (s : Stmt) (rest : Choices) → (one s ≤ whole (tree.body s rest)) × (whole rest ≤ whole (tree.body s rest))) where
  abbrev measure : Choice → ℕ
  measure (choice.Case w) = 0
  measure choice.Default = 0
  measure (choice.Body s) = one (stmt_of s)

  holds : (c : Choice) (cs : List Choice) → (measure c ≤ whole (choice_list (c ∷ cs))) × (whole (choice_list cs) ≤ whole (choice_list (c ∷ cs)))
  holds (choice.Case w) cs = (omega arith, case w (choice_list cs))
  holds choice.Default cs = (omega arith, default (choice_list cs))
  holds (choice.Body s) cs = body (stmt_of s) (choice_list cs)

  pub choice_within : (cs : List Choice) (k : ℕ) (c : Choice) (s : TypedStmt) → c ≡ get_or cs k c → c ≡ choice.Body s → k < length cs → one (stmt_of s) ≤ whole (choice_list cs)
  choice_within cs k c s at is less = subst (λ d. measure d ≤ whole (choice_list cs)) is (member measure (λ l. whole (choice_list l)) holds cs k c at less)
