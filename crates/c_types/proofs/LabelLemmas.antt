-- Labels that stand again, counted from the first one on.
use Rattle.std.proofs.Common.{◌≡◌, ℕ, ◌+◌, ◌<◌, ◌||◌, ◌&&◌, ◌==◌, not, Bool, true, false, cond, List, [], ◌∷◌, drop, get_or, length, refl, ap, sym, ◌∙◌}
use Rattle.std.specs.HashSet.{HashSet, contains}
use Rattle.std.specs.List.{list_any}
use Rattle.std.proofs.Math.Path.{fun_ext}
use Rattle.std.proofs.lemmas.List.{drop_more}
use Rattle.c_tree.specs.declared.typed_statement.Choice as choice
use Rattle.c_tree.specs.declared.typed_statement.Choice.{Choice}
use Rattle.c_tree.specs.declared.typed_statement.TypedStmt.{TypedStmt}
use Rattle.c_tree.specs.View.{choice_list}
use Rattle.c_tree.specs.TypedTree.{Choices, no_more, case, default, body}
use Rattle.c_rules.specs.Statements.{has_case, has_default, repeats_label}

-- whether a label is among these, or stands twice, where those before it are a set of cases and maybe a default
abbrev pub repeats_from : (ℕ → Bool) → Bool → Choices → Bool
repeats_from m d no_more = false
repeats_from m d (case w rest) = m w || repeats_from (λ q. cond (w == q) true (m q)) d rest
repeats_from m d (default rest) = d || repeats_from m true rest
repeats_from m d (body s rest) = repeats_from m d rest

abbrev any_case : (ℕ → Bool) → Choices → Bool
any_case m no_more = false
any_case m (case w rest) = m w || any_case m rest
any_case m (default rest) = any_case m rest
any_case m (body s rest) = any_case m rest

one_case : (b a h x : Bool) → (cond b true a || (h || x)) ≡ ((b || h) || (a || x))
one_case true a h x = refl
one_case false true true x = refl
one_case false true false x = refl
one_case false false h x = refl

any_more : (w : ℕ) (m : ℕ → Bool) (c : Choices) → any_case (λ q. cond (w == q) true (m q)) c ≡ (has_case w c || any_case m c)
any_more w m no_more = refl
any_more w m (case v rest) = ap (λ b. cond (w == v) true (m v) || b) (any_more w m rest) ∙ one_case (w == v) (m v) (has_case w rest) (any_case m rest)
any_more w m (default rest) = any_more w m rest
any_more w m (body s rest) = any_more w m rest

with_case : (a h x y z : Bool) → (a || (h || x || y || z)) ≡ (a || x || y || (h || z))
with_case true h x y z = refl
with_case false true true y z = refl
with_case false true false true z = refl
with_case false true false false z = refl
with_case false false x y z = refl

with_default : (d a h z : Bool) → (d || (a || h || z)) ≡ (a || d || (h || z))
with_default true true h z = refl
with_default true false h z = refl
with_default false true h z = refl
with_default false false h z = refl

from_before : (m : ℕ → Bool) (d : Bool) (c : Choices) → repeats_from m d c ≡ (any_case m c || d && has_default c || repeats_label c)
from_before m d no_more = no_default d
  where
    no_default : (d : Bool) → false ≡ (false || d && false || false)
    no_default true = refl
    no_default false = refl
from_before m d (case w rest) =
    ap (λ b. m w || b) (from_before (λ q. cond (w == q) true (m q)) d rest)
    ∙ ap (λ b. m w || (b || d && has_default rest || repeats_label rest)) (any_more w m rest)
    ∙ with_case (m w) (has_case w rest) (any_case m rest) (d && has_default rest) (repeats_label rest)
from_before m d (default rest) =
    ap (λ b. d || b) (from_before m true rest)
    ∙ with_default d (any_case m rest) (has_default rest) (repeats_label rest)
    ∙ ap (λ b. any_case m rest || b || (has_default rest || repeats_label rest)) (and_true d)
  where
    and_true : (d : Bool) → d ≡ (d && true)
    and_true true = refl
    and_true false = refl
from_before m d (body s rest) = from_before m d rest

none_before : (c : Choices) → any_case (λ q. false) c ≡ false
none_before no_more = refl
none_before (case w rest) = none_before rest
none_before (default rest) = none_before rest
none_before (body s rest) = none_before rest

-- at the first choice
pub from_none : (c : Choices) → repeats_label c ≡ repeats_from (λ q. false) false c
from_none c = sym (from_before (λ q. false) false c ∙ ap (λ b. b || false || repeats_label c) (none_before c))

-- a set of cases that is empty
pub at_first : {S : Type 0} (s : HashSet ℕ S) (all rest : List Choice) → s.keys ≡ [] → rest ≡ all
    → repeats_label (choice_list all) ≡ repeats_from (λ w. contains (λ a b. a == b) s w) false (choice_list rest)
at_first s all rest empty whole =
    from_none (choice_list all)
    ∙ (λ i. repeats_from (λ q. list_any (λ k. q == k) (sym empty i)) false (choice_list (sym whole i)))

from_here : (list : List Choice) (i : ℕ) (x y : Choice) → x ≡ get_or list i x → i < length list → x ≡ y → drop i list ≡ y ∷ drop (i + 1) list
from_here list i x y is within same = drop_more list i x within ∙ ap (λ z. z ∷ drop (i + 1) list) (sym is ∙ same)

pub not_there : (r b : Bool) → r ≡ not b → r ≡ true → b ≡ false
not_there r true e f = let k : true ≡ false = sym f ∙ e in k
not_there r false e f = refl

module _ (all : Bool) (m : ℕ → Bool) (d : Bool) (list : List Choice) (i : ℕ) (x : Choice) (before : all ≡ repeats_from m d (choice_list (drop i list))) (is : x ≡ get_or list i x) (within : i < length list) where
  pub after_case : (n : ℕ → Bool) (e : Bool) (w : ℕ) → x ≡ choice.Case w → m w ≡ false → ((q : ℕ) → n q ≡ cond (w == q) true (m q)) → e ≡ d → all ≡ repeats_from n e (choice_list (drop (i + 1) list))
  after_case n e w same absent updated kept = before
      ∙ ap (λ l. repeats_from m d (choice_list l)) (from_here list i x (choice.Case w) is within same)
      ∙ ap (λ b. b || repeats_from (λ q. cond (w == q) true (m q)) d (choice_list (drop (i + 1) list))) absent
      ∙ (λ j. repeats_from (fun_ext (λ q. sym (updated q)) j) (sym kept j) (choice_list (drop (i + 1) list)))

  pub after_default : (n : ℕ → Bool) (e : Bool) → x ≡ choice.Default → d ≡ false → ((q : ℕ) → n q ≡ m q) → e ≡ true → all ≡ repeats_from n e (choice_list (drop (i + 1) list))
  after_default n e same none kept met = before
      ∙ ap (λ l. repeats_from m d (choice_list l)) (from_here list i x choice.Default is within same)
      ∙ ap (λ b. b || repeats_from m true (choice_list (drop (i + 1) list))) none
      ∙ (λ j. repeats_from (fun_ext (λ q. sym (kept q)) j) (sym met j) (choice_list (drop (i + 1) list)))

  pub after_body : (n : ℕ → Bool) (e : Bool) (s : TypedStmt) → x ≡ choice.Body s → ((q : ℕ) → n q ≡ m q) → e ≡ d → all ≡ repeats_from n e (choice_list (drop (i + 1) list))
  after_body n e s same kept met = before
      ∙ ap (λ l. repeats_from m d (choice_list l)) (from_here list i x (choice.Body s) is within same)
      ∙ (λ j. repeats_from (fun_ext (λ q. sym (kept q)) j) (sym met j) (choice_list (drop (i + 1) list)))
