-- A piece ends as its visit does.
use Rattle.std.proofs.Common.{◌≡◌, ℕ, ◌-◌, ◌≤◌, List, [], ◌∷◌, ◌++◌, length, ap, ap₂, sym, subst, ◌∙◌, arith}
use Rattle.lay_model.specs.Sequences.{Sequence}
use Rattle.lay_model.specs.Arrangements.{Arranges}
use Rattle.lay_cost.specs.Cost.{arranged_cost}
use Rattle.lay_cost.specs.Parts.{lists_of}
use Rattle.lay_tree.specs.declared.answer.PieceEnd.{PieceEnd}
use Rattle.lay_tree.specs.Tree.{root, with_scalar}
use Rattle.lay_tree.specs.Search.{Visited, visit, piece_end}
use Rattle.lay_search.specs.declared.descent.Descent.{Descent}
use Rattle.lay_search.specs.declared.descent.Ending.{Ending}
use Rattle.lay_node.specs.declared.position.Position.{Position}
use Rattle.lay_node.specs.Positions.{here}
use Rattle.lay_search.specs.Descents.{HasBest, Visits, visit_of, IsNew, is_finished}
use Rattle.lay_search.specs.Ends.{IsEnd}
use Rattle.lay_search.proofs.Joining.{joined_lists, lists_of_arrangement}

pub new_best : (seq : Sequence) (p : Position) (quota : ℕ) (string : List ℕ) (lists : List (List ℕ)) (cost : ℕ) (d : Descent) → IsNew p quota string cost d → string ≡ joined_lists lists → Arranges seq.scalars lists → 1 ≤ seq.scalars → cost ≡ arranged_cost seq lists → HasBest seq d
new_best seq p quota string lists cost d is_new joined arranges some costs =
    let best : lists_of d.best.items ≡ lists = ap lists_of (is_new.best ∙ joined) ∙ lists_of_arrangement seq.scalars lists arranges some in
    record {
      arranges = subst (λ ls. Arranges seq.scalars ls) (sym best) arranges;
      cost = is_new.cost ∙ costs ∙ ap (arranged_cost seq) (sym best);
      room = omega (arith, ap length is_new.marks);
    }

pub piece_ends : (seq : Sequence) (k : ℕ) (p : Position) (quota number : ℕ) (string : List ℕ) (lists : List (List ℕ)) (cost : ℕ) (d last : Descent) (ending : Ending) (end : PieceEnd) → IsNew p quota string cost d → p.registers ≡ k → here p ≡ root → string ≡ joined_lists lists → Arranges seq.scalars lists → 1 ≤ seq.scalars
    → Visits seq (with_scalar (here d.position) number ∷ []) d last ending → end ≡ record { arrangement = lists_of last.best.items; cost = last.cost; finished = is_finished ending; log = last.marks.items } → IsEnd seq (piece_end k seq quota lists (with_scalar root number)) end
piece_ends seq k p quota number string lists cost d last ending end is_new over nothing joined arranges some visits is =
    let best : lists_of d.best.items ≡ lists = ap lists_of (is_new.best ∙ joined) ∙ lists_of_arrangement seq.scalars lists arranges some in
    let whole : d.quota - length d.marks.items ≡ quota = omega (arith, is_new.quota, ap length is_new.marks) in
    let v : visit_of seq d (with_scalar (here d.position) number ∷ []) ≡ piece_end k seq quota lists (with_scalar root number) =
    ap (λ (q : Position). visit q.registers seq (d.quota - length d.marks.items) (with_scalar (here q) number ∷ []) (lists_of d.best.items)) is_new.position
    ∙ ap (λ r. visit r seq (d.quota - length d.marks.items) (with_scalar (here p) number ∷ []) (lists_of d.best.items)) over
    ∙ ap₂ (λ m b. visit k seq m (with_scalar (here p) number ∷ []) b) whole best
    ∙ ap (λ n. visit k seq quota (with_scalar n number ∷ []) lists) nothing in
    record {
      arrangement = ap (λ (e : PieceEnd). e.arrangement) is ∙ visits.best ∙ ap (λ (u : Visited). u.best) v;
      arranges = subst (λ ls. Arranges seq.scalars ls) (visits.best ∙ ap (λ (u : Visited). u.best) v) visits.has_best.arranges;
      cost = ap (λ (e : PieceEnd). e.cost) is ∙ visits.has_best.cost ∙ ap (arranged_cost seq) (visits.best ∙ ap (λ (u : Visited). u.best) v);
      finished = ap (λ (e : PieceEnd). e.finished) is ∙ visits.finished ∙ ap (λ (u : Visited). u.finished) v;
      marks = ap (λ (e : PieceEnd). e.log) is ∙ visits.marks ∙ ap₂ (λ a (u : Visited). a ++ u.marks) is_new.marks v;
    }
