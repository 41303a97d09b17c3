-- A visit of some nodes and then of others.
use Rattle.std.proofs.Common.{◌≡◌, ℕ, zero, suc, ◌-◌, ◌≤◌, Bool, true, false, cond, List, [], ◌∷◌, ◌++◌, length, refl, ap, sym, ◌∙◌, arith, append_assoc}
use Rattle.lay_model.specs.Sequences.{Sequence}
use Rattle.lay_cost.specs.Cost.{arranged_cost}
use Rattle.lay_cost.specs.Parts.{Node, node_lists}
use Rattle.lay_tree.specs.declared.answer.Mark.{Mark}
use Rattle.lay_tree.specs.declared.answer.Mark.TheVariants.{Branched, Closed}
use Rattle.lay_tree.specs.Tree.{is_complete, children}
use Rattle.lay_tree.specs.Bound.{bound}
use Rattle.lay_tree.specs.Search.{reaches, Visited, behind, visit}

-- after a visit that is finished others are visited, with the marks that are left
abbrev pub joined : Visited → Visited → Visited
joined v u = record { best = u.best; finished = u.finished; marks = v.marks ++ u.marks }

abbrev pub follow : ℕ → Sequence → ℕ → Visited → List Node → Visited
follow k seq marks v ys = cond v.finished (joined v (visit k seq (marks - length v.marks) ys v.best)) v

pub visit_closed : (k : ℕ) (seq : Sequence) (marks : ℕ) (n : Node) (ns : List Node) (best : List (List ℕ)) → reaches (bound k seq n) (arranged_cost seq best) ≡ true
    → visit k seq (suc marks) (n ∷ ns) best ≡ behind Closed (visit k seq marks ns best)
visit_closed k seq marks n ns best is = rw (is, visit) refl

pub visit_complete : (k : ℕ) (seq : Sequence) (marks : ℕ) (n : Node) (ns : List Node) (best : List (List ℕ)) → reaches (bound k seq n) (arranged_cost seq best) ≡ false → is_complete seq n ≡ true
    → visit k seq (suc marks) (n ∷ ns) best ≡ behind Closed (visit k seq marks ns (node_lists n))
visit_complete k seq marks n ns best is complete = rw (is, complete, visit) refl

pub visit_branched : (k : ℕ) (seq : Sequence) (marks : ℕ) (n : Node) (ns : List Node) (best : List (List ℕ)) → reaches (bound k seq n) (arranged_cost seq best) ≡ false → is_complete seq n ≡ false
    → visit k seq (suc marks) (n ∷ ns) best ≡ behind Branched (visit k seq marks (children k seq n ++ ns) best)
visit_branched k seq marks n ns best is incomplete = rw (is, incomplete, visit) refl

none_left : (m : ℕ) → m - 0 ≡ m
none_left m = omega arith

one_less : (m l : ℕ) → suc m - suc l ≡ m - l
one_less m l = omega arith

behind_follow : (k : ℕ) (seq : Sequence) (marks : ℕ) (mark : Mark) (v : Visited) (ys : List Node) → behind mark (follow k seq marks v ys) ≡ follow k seq (suc marks) (behind mark v) ys
behind_follow k seq marks mark v ys = by v.finished refl
  where
    by : (b : Bool) → v.finished ≡ b → behind mark (cond b (joined v (visit k seq (marks - length v.marks) ys v.best)) v) ≡ cond b (joined (behind mark v) (visit k seq (suc marks - suc (length v.marks)) ys v.best)) (behind mark v)
    by true e = ap (λ m. behind mark (joined v (visit k seq m ys v.best))) (sym (one_less marks (length v.marks)))
    by false e = refl

pub visit_append : (k : ℕ) (seq : Sequence) (marks : ℕ) (xs ys : List Node) (best : List (List ℕ)) → visit k seq marks (xs ++ ys) best ≡ follow k seq marks (visit k seq marks xs best) ys
visit_append k seq zero [] ys best = ap (λ m. visit k seq m ys best) (sym (none_left zero))
visit_append k seq (suc marks) [] ys best = ap (λ m. visit k seq m ys best) (sym (none_left (suc marks)))
visit_append k seq zero (n ∷ ns) ys best = refl
visit_append k seq (suc marks) (n ∷ ns) ys best =
    by (reaches (bound k seq n) (arranged_cost seq best)) (is_complete seq n) refl refl (visit_append k seq marks ns ys best) (visit_append k seq marks ns ys (node_lists n)) (visit_append k seq marks (children k seq n ++ ns) ys best)
  where
    by : (a b : Bool) → reaches (bound k seq n) (arranged_cost seq best) ≡ a → is_complete seq n ≡ b
        → visit k seq marks (ns ++ ys) best ≡ follow k seq marks (visit k seq marks ns best) ys
        → visit k seq marks (ns ++ ys) (node_lists n) ≡ follow k seq marks (visit k seq marks ns (node_lists n)) ys
        → visit k seq marks ((children k seq n ++ ns) ++ ys) best ≡ follow k seq marks (visit k seq marks (children k seq n ++ ns) best) ys
        → visit k seq (suc marks) (n ∷ (ns ++ ys)) best ≡ follow k seq (suc marks) (visit k seq (suc marks) (n ∷ ns) best) ys
    by true b is all closed complete branched =
        visit_closed k seq marks n (ns ++ ys) best is ∙ ap (behind Closed) closed ∙ behind_follow k seq marks Closed (visit k seq marks ns best) ys
        ∙ ap (λ v. follow k seq (suc marks) v ys) (sym (visit_closed k seq marks n ns best is))
    by false true is all closed complete branched =
        visit_complete k seq marks n (ns ++ ys) best is all ∙ ap (behind Closed) complete ∙ behind_follow k seq marks Closed (visit k seq marks ns (node_lists n)) ys
        ∙ ap (λ v. follow k seq (suc marks) v ys) (sym (visit_complete k seq marks n ns best is all))
    by false false is all closed complete branched =
        visit_branched k seq marks n (ns ++ ys) best is all ∙ ap (λ l. behind Branched (visit k seq marks l best)) (sym (append_assoc (children k seq n) ns ys)) ∙ ap (behind Branched) branched ∙ behind_follow k seq marks Branched (visit k seq marks (children k seq n ++ ns) best) ys
        ∙ ap (λ v. follow k seq (suc marks) v ys) (sym (visit_branched k seq marks n ns best is all))

-- no visit writes more marks than it may
pub visit_room : (k : ℕ) (seq : Sequence) (marks : ℕ) (ns : List Node) (best : List (List ℕ)) → length (visit k seq marks ns best).marks ≤ marks
visit_room k seq zero [] best = omega arith
visit_room k seq (suc marks) [] best = omega arith
visit_room k seq zero (n ∷ ns) best = omega arith
visit_room k seq (suc marks) (n ∷ ns) best =
    by (reaches (bound k seq n) (arranged_cost seq best)) (is_complete seq n) refl refl (visit_room k seq marks ns best) (visit_room k seq marks ns (node_lists n)) (visit_room k seq marks (children k seq n ++ ns) best)
  where
    by : (a b : Bool) → reaches (bound k seq n) (arranged_cost seq best) ≡ a → is_complete seq n ≡ b
        → length (visit k seq marks ns best).marks ≤ marks → length (visit k seq marks ns (node_lists n)).marks ≤ marks → length (visit k seq marks (children k seq n ++ ns) best).marks ≤ marks
        → length (visit k seq (suc marks) (n ∷ ns) best).marks ≤ suc marks
    by true b is all closed complete branched = rw (visit_closed k seq marks n ns best is) (omega (arith, closed))
    by false true is all closed complete branched = rw (visit_complete k seq marks n ns best is all) (omega (arith, complete))
    by false false is all closed complete branched = rw (visit_branched k seq marks n ns best is all) (omega (arith, branched))
