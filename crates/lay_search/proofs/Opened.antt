-- Whether the root alone settles a search.
use Rattle.std.proofs.Common.{◌≡◌, ℕ, zero, suc, ◌≤◌, Bool, true, false, List, [], ◌∷◌, map, length, refl, ap, ap₂, sym, ◌∙◌, arith, append-nil}
use Rattle.std.specs.Prelude.{◌||◌}
use Rattle.std.specs.List.{range_with_len}
use Rattle.std.proofs.lemmas.List.{length-map}
use Rattle.std.proofs.lemmas.List.FromFn.{length-range_with_len}
use Rattle.lay_model.specs.Sequences.{Sequence}
use Rattle.lay_cost.specs.Cost.{arranged_cost}
use Rattle.lay_tree.specs.declared.answer.Mark.{Mark}
use Rattle.lay_tree.specs.declared.answer.Mark.TheVariants.{Closed}
use Rattle.lay_tree.specs.declared.answer.Answer.TheVariants.{Certified}
use Rattle.lay_tree.specs.Tree.{root, with_scalar, is_complete, is_empty, children, all_scalars}
use Rattle.lay_tree.specs.Bound.{bound}
use Rattle.lay_tree.specs.Greedy.{starting_lists}
use Rattle.lay_tree.specs.Search.{reaches, is_settled, search_from, search_answer, search_pieces, quota_of}
use Rattle.lay_node.specs.Numbers.{kept_in, kept_reaches}
use Rattle.lay_node.proofs.Children.{empty_kept, bound_reaches}
use Rattle.lay_node.proofs.Rooting.{root_unplaced}
use Rattle.lay_search.specs.declared.root.Root.{Root}
use Rattle.lay_search.specs.Roots.{IsRoot}
use Rattle.lay_search.specs.Openings.{IsDone}

pub root_incomplete : (seq : Sequence) → (seq.scalars ≡ 0 → ⊥) → is_complete seq root ≡ false
root_incomplete seq some = ap is_empty (root_unplaced seq) ∙ by seq.scalars some
  where
    by : (n : ℕ) → (n ≡ 0 → ⊥) → is_empty (range_with_len 0 n) ≡ false
    by zero h = absurd (h refl)
    by (suc n) h = refl

pub root_complete : (seq : Sequence) → seq.scalars ≡ 0 → is_complete seq root ≡ true
root_complete seq none = ap is_empty (root_unplaced seq ∙ ap (range_with_len 0) none)

or_true : (r : Bool) → (r || true) ≡ true
or_true true = refl
or_true false = refl

or_false : (r : Bool) → (r || false) ≡ r
or_false true = refl
or_false false = refl

pub settled_none : (k : ℕ) (seq : Sequence) (cost : ℕ) → seq.scalars ≡ 0 → true ≡ (reaches (bound k seq root) cost || is_complete seq root)
settled_none k seq cost none = sym (ap (λ b. reaches (bound k seq root) cost || b) (root_complete seq none) ∙ or_true (reaches (bound k seq root) cost))

pub settled_some : (k : ℕ) (seq : Sequence) (cost : ℕ) (r : Root) (result : Bool) → (seq.scalars ≡ 0 → ⊥) → r.position.registers ≡ k → IsRoot seq r → result ≡ kept_reaches r.position.registers seq.step r.kept cost → result ≡ (reaches (bound k seq root) cost || is_complete seq root)
settled_some k seq cost r result some over is_root is =
    is
    ∙ ap (λ n. kept_reaches n seq.step r.kept cost) over
    ∙ ap (λ j. kept_reaches k seq.step j cost) (is_root.numbers ∙ ap (λ n. kept_in n seq root) over ∙ empty_kept k seq root refl)
    ∙ bound_reaches k seq root cost (root_incomplete seq some)
    ∙ sym (ap (λ b. reaches (bound k seq root) cost || b) (root_incomplete seq some) ∙ or_false (reaches (bound k seq root) cost))

from_settled : (k : ℕ) (seq : Sequence) (budget : ℕ) (start : List (List ℕ)) → (reaches (bound k seq root) (arranged_cost seq start) || is_complete seq root) ≡ true → search_from k seq budget start ≡ Certified start (arranged_cost seq start) (Closed ∷ [])
from_settled k seq budget start is = rw (is, search_from) refl

from_open : (k : ℕ) (seq : Sequence) (budget : ℕ) (start : List (List ℕ)) → (reaches (bound k seq root) (arranged_cost seq start) || is_complete seq root) ≡ false → search_from k seq budget start ≡ search_pieces k seq (quota_of budget (length (children k seq root))) start
from_open k seq budget start is = rw (is, search_from) refl

pub children_of_root : (k : ℕ) (seq : Sequence) → children k seq root ≡ map (with_scalar root) (all_scalars seq)
children_of_root k seq = append-nil (map (with_scalar root) (Rattle.lay_tree.specs.Tree.unplaced seq root)) ∙ ap (map (with_scalar root)) (root_unplaced seq)

count_children : (k : ℕ) (seq : Sequence) → length (children k seq root) ≡ seq.scalars
count_children k seq = ap length (children_of_root k seq) ∙ length-map (all_scalars seq) (with_scalar root) ∙ length-range_with_len 0 seq.scalars

-- what the root's test says of the starting layout
settled_by : (k : ℕ) (seq : Sequence) (lists : List (List ℕ)) (cost : ℕ) (settled : Bool) → lists ≡ starting_lists k seq → cost ≡ arranged_cost seq lists → settled ≡ (reaches (bound k seq root) cost || is_complete seq root)
    → is_settled k seq (starting_lists k seq) ≡ settled
settled_by k seq lists cost settled start costs is =
    ap (is_settled k seq) (sym start) ∙ ap (λ c. reaches (bound k seq root) c || is_complete seq root) (sym costs) ∙ sym is

pub settled_answer : (k : ℕ) (seq : Sequence) (budget : ℕ) (lists : List (List ℕ)) (cost : ℕ) (marks : List Mark) (settled : Bool) → lists ≡ starting_lists k seq → cost ≡ arranged_cost seq lists → marks ≡ Closed ∷ []
    → settled ≡ (reaches (bound k seq root) cost || is_complete seq root) → settled ≡ true → IsDone k seq budget (Certified lists cost marks)
settled_answer k seq budget lists cost marks settled start costs ms is yes1 =
    let test : is_settled k seq (starting_lists k seq) ≡ true = settled_by k seq lists cost settled start costs is ∙ yes1 in
    let closed : Certified lists cost marks ≡ Certified (starting_lists k seq) (arranged_cost seq (starting_lists k seq)) (Closed ∷ []) = ap₂ (λ c m. Certified lists c m) costs ms ∙ ap (λ ls. Certified ls (arranged_cost seq ls) (Closed ∷ [])) start
    in record { settled = test; start = closed; answered = closed ∙ sym (from_settled k seq budget (starting_lists k seq) test) }

pub open_root : (k : ℕ) (seq : Sequence) (lists : List (List ℕ)) (cost : ℕ) (settled : Bool) → lists ≡ starting_lists k seq → cost ≡ arranged_cost seq lists → settled ≡ (reaches (bound k seq root) cost || is_complete seq root)
    → settled ≡ false → is_settled k seq (starting_lists k seq) ≡ false
open_root k seq lists cost settled start costs is no1 = settled_by k seq lists cost settled start costs is ∙ no1

pub open_answer : (k : ℕ) (seq : Sequence) (budget : ℕ) (lists : List (List ℕ)) (cost quota : ℕ) (settled : Bool) → lists ≡ starting_lists k seq → cost ≡ arranged_cost seq lists → quota ≡ quota_of budget seq.scalars → settled ≡ (reaches (bound k seq root) cost || is_complete seq root) → settled ≡ false → search_answer k seq budget ≡ search_pieces k seq quota lists
open_answer k seq budget lists cost quota settled start costs share is no1 =
    let test : (reaches (bound k seq root) (arranged_cost seq lists) || is_complete seq root) ≡ false = ap (λ c. reaches (bound k seq root) c || is_complete seq root) (sym costs) ∙ sym is ∙ no1 in
    ap (search_from k seq budget) (sym start) ∙ from_open k seq budget lists test ∙ ap (λ q. search_pieces k seq q lists) (ap (quota_of budget) (count_children k seq) ∙ sym share)

pub some_of_open : (k : ℕ) (seq : Sequence) (cost : ℕ) (settled : Bool) → settled ≡ (reaches (bound k seq root) cost || is_complete seq root) → settled ≡ false → 1 ≤ seq.scalars
some_of_open k seq cost settled is no1 = by seq.scalars refl
  where
    by : (n : ℕ) → seq.scalars ≡ n → 1 ≤ n
    by zero e = absurd (Rattle.std.proofs.lemmas.Bool.both_ways settled no1 (is ∙ sym (settled_none k seq cost e)))
    by (suc n) e = omega arith
