-- A complete node is offered as the best layout.
use Rattle.std.proofs.Common.{◌≡◌, ℕ, ◌<◌, ◌≤◌, Bool, true, false, cond, not, List, [], ◌∷◌, ◌++◌, length, ap, sym, subst, ◌∙◌, arith}
use Rattle.std.specs.Prelude.{nat_lt, pos}
use Rattle.std.specs.List.{concat}
use Rattle.std.proofs.lemmas.Bool.Decides.{nat_tests}
use Rattle.std.proofs.lemmas.Int.{ints}
use Rattle.lay_model.specs.Sequences.{Sequence}
use Rattle.lay_model.specs.Arrangements.{Arranges}
use Rattle.lay_cost.specs.Placements.{has}
use Rattle.lay_cost.specs.Cost.{arranged_cost}
use Rattle.lay_cost.specs.Parts.{Node, node_lists, lists_of}
use Rattle.lay_tree.specs.Tree.{with_scalar, is_complete}
use Rattle.lay_tree.specs.Bound.{bound}
use Rattle.lay_tree.specs.Search.{reaches}
use Rattle.lay_node.specs.Positions.{here, IsAt}
use Rattle.lay_node.proofs.Strung.{lists_are, node_scalar}
use Rattle.lay_node.proofs.Completing.{child_arranges}
use Rattle.lay_search.specs.declared.descent.Descent.{Descent}
use Rattle.lay_search.specs.Descents.{HasBest, Offers, Completes}

complete_reaches : (k : ℕ) (seq : Sequence) (n : Node) (cost : ℕ) → is_complete seq n ≡ true → reaches (bound k seq n) cost ≡ not (nat_lt (arranged_cost seq (node_lists n)) cost)
complete_reaches k seq n cost e = rw e (plain (arranged_cost seq (node_lists n)) cost)
  where
    plain : (a c : ℕ) → reaches (pos a) c ≡ not (nat_lt a c)
    plain a c = grind (arith, ints, nat_tests)

pub completed : (seq : Sequence) (old new : Descent) (s cost : ℕ) → IsAt seq old.position → HasBest seq old → s < seq.scalars → has (concat (node_lists (here old.position))) s ≡ false → is_complete seq (with_scalar (here old.position) s) ≡ true
    → cost ≡ arranged_cost seq (node_lists (with_scalar (here old.position) s)) → Offers (old.position.string.items ++ (s ∷ [])) cost old new
    → Completes seq (with_scalar (here old.position) s) old new
completed seq old new s cost at_it best below lacks complete price offers =
    let node = with_scalar (here old.position) s in
    let string = old.position.string.items ++ (s ∷ []) in
    let lists : lists_of string ≡ node_lists node = lists_are string ∙ ap node_lists (node_scalar old.position.string.items s (Rattle.std.proofs.Common.lt_of_lt_of_le below at_it.sequence.few)) in
    let test : reaches (bound old.position.registers seq node) old.cost ≡ not (nat_lt cost old.cost) = complete_reaches old.position.registers seq node old.cost complete ∙ ap (λ c. not (nat_lt c old.cost)) (sym price) in
    record {
      best = ap lists_of offers.best ∙ chosen (nat_lt cost old.cost) (reaches (bound old.position.registers seq node) old.cost) string test lists;
      has_best = record {
        arranges = subst (λ b. Arranges seq.scalars (lists_of b)) (sym offers.best) (arranged (nat_lt cost old.cost) string (subst (λ ls. Arranges seq.scalars ls) (sym lists) (child_arranges seq old.position s at_it below lacks complete)));
        cost = offers.cost ∙ priced (nat_lt cost old.cost) string (price ∙ ap (arranged_cost seq) (sym lists)) ∙ ap (λ b. arranged_cost seq (lists_of b)) (sym offers.best);
        room = subst (λ m. length m ≤ new.quota) (sym offers.marks) (subst (λ q. length old.marks.items ≤ q) (sym offers.quota) best.room);
      };
      marks = offers.marks;
      quota = offers.quota;
      place = offers.place;
    }
  where
    chosen : (b r : Bool) (string : List ℕ) → r ≡ not b → lists_of string ≡ node_lists (with_scalar (here old.position) s) → lists_of (cond b string old.best.items) ≡ cond r (lists_of old.best.items) (node_lists (with_scalar (here old.position) s))
    chosen true r string is lists = lists ∙ ap (λ t. cond t (lists_of old.best.items) (node_lists (with_scalar (here old.position) s))) (sym is)
    chosen false r string is lists = ap (λ t. cond t (lists_of old.best.items) (node_lists (with_scalar (here old.position) s))) (sym is)

    arranged : (b : Bool) (string : List ℕ) → Arranges seq.scalars (lists_of string) → Arranges seq.scalars (lists_of (cond b string old.best.items))
    arranged true string h = h
    arranged false string h = best.arranges

    priced : (b : Bool) (string : List ℕ) → cost ≡ arranged_cost seq (lists_of string) → cond b cost old.cost ≡ arranged_cost seq (lists_of (cond b string old.best.items))
    priced true string h = h
    priced false string h = best.cost
