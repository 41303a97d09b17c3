-- Over the children of a node.
use Rattle.std.proofs.Common.{◌≡◌, ℕ, ◌+◌, ◌≤◌, true, false, not, [], ◌∷◌, ◌++◌, refl, ap, ap₂, sym, subst, ◌∙◌, append-nil}
use Rattle.std.specs.Prelude.{◌&&◌, if◌then◌else◌}
use Rattle.std.specs.List.{concat}
use Rattle.lay_model.specs.Sequences.{Sequence}
use Rattle.lay_cost.specs.Placements.{has}
use Rattle.lay_cost.specs.Parts.{node_lists}
use Rattle.lay_tree.specs.Tree.{with_scalar, with_close, is_empty, has_closes_left, children}
use Rattle.lay_node.specs.Strings.{node_of}
use Rattle.lay_node.specs.Positions.{here}
use Rattle.lay_node.proofs.Walking.{below_in, below_next, children_begin}
use Rattle.lay_search.specs.declared.descent.Descent.{Descent}
use Rattle.lay_search.specs.declared.descent.Ending.{Ending}
use Rattle.lay_search.specs.declared.descent.Ending.TheVariants.{Finished, OutOfMarks}
use Rattle.lay_search.specs.Descents.{Visits}
use Rattle.lay_search.proofs.Visiting.{visits_then, visits_stop}

pub walk_next : (seq : Sequence) (old now new : Descent) (i : ℕ) (ending : Ending) → has (concat (node_lists (here old.position))) i ≡ false → Visits seq (below_in (here old.position) i) old now Finished → Visits seq (with_scalar (here now.position) i ∷ []) now new ending → Visits seq (below_in (here old.position) (i + 1)) old new ending
walk_next seq old now new i ending lacks first second =
    let e : here now.position ≡ here old.position = ap node_of (first.place refl).string in
    subst (λ ns. Visits seq ns old new ending) (sym (below_next (here old.position) i lacks)) (visits_then seq (below_in (here old.position) i) (with_scalar (here old.position) i ∷ []) old now new ending first (subst (λ n. Visits seq (with_scalar n i ∷ []) now new ending) e second))

pub walk_stop : (seq : Sequence) (k : ℕ) (old new : Descent) (i : ℕ) → i ≤ seq.scalars → Visits seq (below_in (here old.position) i) old new OutOfMarks → Visits seq (children k seq (here old.position)) old new OutOfMarks
walk_stop seq k old new i le first =
    let b = children_begin k seq (here old.position) i le in
    subst (λ ns. Visits seq ns old new OutOfMarks) (sym b.is) (visits_stop seq (below_in (here old.position) i) b.rest old new first)

pub walk_close : (seq : Sequence) (k : ℕ) (old now new : Descent) (i : ℕ) (ending : Ending) → i ≡ seq.scalars → (not (is_empty (here old.position).open_list) && has_closes_left k (here old.position)) ≡ true → Visits seq (below_in (here old.position) i) old now Finished → Visits seq (with_close (here now.position) ∷ []) now new ending → Visits seq (children k seq (here old.position)) old new ending
walk_close seq k old now new i ending all comes first second =
    let e : here now.position ≡ here old.position = ap node_of (first.place refl).string in
    let n = here old.position in
    let is : children k seq n ≡ below_in n i ++ (with_close n ∷ []) = ap₂ (λ m t. below_in n m ++ (if t then with_close n ∷ [] else [])) (sym all) comes in
    subst (λ ns. Visits seq ns old new ending) (sym is) (visits_then seq (below_in n i) (with_close n ∷ []) old now new ending first (subst (λ m. Visits seq (with_close m ∷ []) now new ending) e second))

pub walk_end : (seq : Sequence) (k : ℕ) (old now : Descent) (i : ℕ) → i ≡ seq.scalars → (not (is_empty (here old.position).open_list) && has_closes_left k (here old.position)) ≡ false → Visits seq (below_in (here old.position) i) old now Finished → Visits seq (children k seq (here old.position)) old now Finished
walk_end seq k old now i all none first =
    let n = here old.position in
    let is : children k seq n ≡ below_in n i = ap₂ (λ m t. below_in n m ++ (if t then with_close n ∷ [] else [])) (sym all) none ∙ append-nil (below_in n i) in
    subst (λ ns. Visits seq ns old now Finished) (sym is) first
