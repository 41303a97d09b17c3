-- What a visit of nodes leaves.
use Rattle.std.proofs.Common.{◌-◌, ◌∙◌, ◌≡◌, ◌<◌, ◌≤◌, ◌++◌, ℕ, zero, suc, List, [], ◌∷◌, Bool, true, false, refl, length, ap, append_assoc, sym, subst, arith}
use Rattle.std.specs.Prelude.{ℤ, pos, ◌≤ℤ◌, T}
use Rattle.std.proofs.lemmas.Bool.{both_ways}
use Rattle.std.proofs.lemmas.Int.{ints}
use lib.Signed.{lt_z_no}
use Rattle.lay_model.specs.Sequences.{Sequence}
use Rattle.lay_cost.specs.Cost.{arranged_cost}
use Rattle.lay_cost.specs.Parts.{Node, node_lists}
use Rattle.lay_tree.specs.declared.answer.Mark.{Mark}
use Rattle.lay_tree.specs.declared.answer.Mark.TheVariants.{Branched, Closed}
use Rattle.lay_tree.specs.Tree.{is_complete, children}
use Rattle.lay_tree.specs.Bound.{bound}
use Rattle.lay_tree.specs.Search.{reaches, Visited, behind, visit}
use Rattle.lay_tree.specs.Replays.{Fits, replay_from}

-- a bound reaches what is at most a cost that it reaches
pub reaches_at_most : (b : ℤ) (c : ℕ) → pos c ≤ℤ b → reaches b c ≡ true
reaches_at_most b c h = grind (arith, ints)

pub reaches_less : (b : ℤ) (c d : ℕ) → reaches b d ≡ true → c ≤ d → reaches b c ≡ true
reaches_less b c d e le =
    let at_most : pos d ≤ℤ b = lt_z_no {a = b} {b = pos d} (subst T (sym e) tt)
    in reaches_at_most b c (omega (arith, ints, at_most, le))

not_reached : (x d : ℕ) → reaches (pos x) d ≡ false → x < d
not_reached x d e = grind (arith, ints)

pub complete_bound : (k : ℕ) (seq : Sequence) (n : Node) → is_complete seq n ≡ true → bound k seq n ≡ pos (arranged_cost seq (node_lists n))
complete_bound k seq n complete = rw (complete) refl

-- the three ways to visit a node
pub visit_closed : (k : ℕ) (seq : Sequence) (marks : ℕ) (n : Node) (ns : List Node) (best : List (List ℕ)) → reaches (bound k seq n) (arranged_cost seq best) ≡ true
    → visit k seq (suc marks) (n ∷ ns) best ≡ behind Closed (visit k seq marks ns best)
visit_closed k seq marks n ns best is = rw (is, visit) refl

pub visit_complete : (k : ℕ) (seq : Sequence) (marks : ℕ) (n : Node) (ns : List Node) (best : List (List ℕ)) → reaches (bound k seq n) (arranged_cost seq best) ≡ false → is_complete seq n ≡ true
    → visit k seq (suc marks) (n ∷ ns) best ≡ behind Closed (visit k seq marks ns (node_lists n))
visit_complete k seq marks n ns best is complete = rw (is, complete, visit) refl

pub visit_branched : (k : ℕ) (seq : Sequence) (marks : ℕ) (n : Node) (ns : List Node) (best : List (List ℕ)) → reaches (bound k seq n) (arranged_cost seq best) ≡ false → is_complete seq n ≡ false
    → visit k seq (suc marks) (n ∷ ns) best ≡ behind Branched (visit k seq marks (children k seq n ++ ns) best)
visit_branched k seq marks n ns best is incomplete = rw (is, incomplete, visit) refl

-- a complete node whose bound doesn't reach a cost costs less
costs_less : (k : ℕ) (seq : Sequence) (n : Node) (best : List (List ℕ)) → reaches (bound k seq n) (arranged_cost seq best) ≡ false → is_complete seq n ≡ true → arranged_cost seq (node_lists n) < arranged_cost seq best
costs_less k seq n best is complete = not_reached _ _ (subst (λ b. reaches b (arranged_cost seq best) ≡ false) (complete_bound k seq n complete) is)

-- a claim on what a visit leaves, by the way of its first node
pub by_first : (P : Visited → Type 0) (k : ℕ) (seq : Sequence) (marks : ℕ) (n : Node) (ns : List Node) (best : List (List ℕ))
    → (reaches (bound k seq n) (arranged_cost seq best) ≡ true → P (behind Closed (visit k seq marks ns best)))
    → (arranged_cost seq (node_lists n) < arranged_cost seq best → is_complete seq n ≡ true → P (behind Closed (visit k seq marks ns (node_lists n))))
    → (reaches (bound k seq n) (arranged_cost seq best) ≡ false → is_complete seq n ≡ false → P (behind Branched (visit k seq marks (children k seq n ++ ns) best)))
    → P (visit k seq (suc marks) (n ∷ ns) best)
by_first P k seq marks n ns best closed complete branched = go (reaches (bound k seq n) (arranged_cost seq best)) refl (is_complete seq n) refl
  where
    go : (a : Bool) → reaches (bound k seq n) (arranged_cost seq best) ≡ a → (b : Bool) → is_complete seq n ≡ b → P (visit k seq (suc marks) (n ∷ ns) best)
    go true is b all = subst P (sym (visit_closed k seq marks n ns best is)) (closed is)
    go false is true all = subst P (sym (visit_complete k seq marks n ns best is all)) (complete (costs_less k seq n best is all) all)
    go false is false all = subst P (sym (visit_branched k seq marks n ns best is all)) (branched is all)

-- the best layout costs at most what it did
pub no_dearer : (k : ℕ) (seq : Sequence) (marks : ℕ) (ns : List Node) (best : List (List ℕ)) → arranged_cost seq (visit k seq marks ns best).best ≤ arranged_cost seq best
no_dearer k seq marks [] best = omega arith
no_dearer k seq zero (n ∷ ns) best = omega arith
no_dearer k seq (suc marks) (n ∷ ns) best = by_first (λ v. arranged_cost seq v.best ≤ arranged_cost seq best) k seq marks n ns best
    (λ is. no_dearer k seq marks ns best)
    (λ less complete. let h = no_dearer k seq marks ns (node_lists n) in omega (arith, h, less))
    (λ below incomplete. no_dearer k seq marks (children k seq n ++ ns) best)

-- the marks of a finished visit fit the nodes, for each number that the best layout costs at least
pub visited_fits : (k : ℕ) (seq : Sequence) (c marks : ℕ) (ns : List Node) (best : List (List ℕ)) (others : List Node) (log : List Mark)
    → (visit k seq marks ns best).finished ≡ true → c ≤ arranged_cost seq (visit k seq marks ns best).best → ((at : ℕ) → replay_from k seq c at others log ≡ Fits)
    → (at : ℕ) → replay_from k seq c at (ns ++ others) ((visit k seq marks ns best).marks ++ log) ≡ Fits
visited_fits k seq c marks [] best others log finished costs rest at = rest at
visited_fits k seq c zero (n ∷ ns) best others log finished costs rest at = absurd (both_ways false refl finished)
visited_fits k seq c (suc marks) (n ∷ ns) best others log finished costs rest at = by_first
    (λ v. v.finished ≡ true → c ≤ arranged_cost seq v.best → ((at : ℕ) → replay_from k seq c at others log ≡ Fits) → (at : ℕ) → replay_from k seq c at (n ∷ (ns ++ others)) (v.marks ++ log) ≡ Fits)
    k seq marks n ns best
    (λ is finished2 costs2 rest2 at2.
    let enough : reaches (bound k seq n) c ≡ true = reaches_less (bound k seq n) c (arranged_cost seq best) is (omega (arith, costs2, no_dearer k seq marks ns best))
    in rw (enough, replay_from) (visited_fits k seq c marks ns best others log finished2 costs2 rest2 (suc at2)))
    (λ less complete finished2 costs2 rest2 at2.
    let enough : reaches (bound k seq n) c ≡ true = subst (λ b. reaches b c ≡ true) (sym (complete_bound k seq n complete)) (reaches_at_most (pos (arranged_cost seq (node_lists n))) c (omega (arith, ints, costs2, no_dearer k seq marks ns (node_lists n))))
    in rw (enough, replay_from) (visited_fits k seq c marks ns (node_lists n) others log finished2 costs2 rest2 (suc at2)))
    (λ below incomplete finished2 costs2 rest2 at2.
    let h = visited_fits k seq c marks (children k seq n ++ ns) best others log finished2 costs2 rest2 (suc at2)
    in rw (incomplete, replay_from) (subst (λ os. replay_from k seq c (suc at2) os ((visit k seq marks (children k seq n ++ ns) best).marks ++ log) ≡ Fits) (append_assoc (children k seq n) ns others) h))
    finished costs rest at

-- an unfinished visit wrote all its marks, and none writes more
pub wrote_all : (k : ℕ) (seq : Sequence) (marks : ℕ) (ns : List Node) (best : List (List ℕ)) → (visit k seq marks ns best).finished ≡ false → length (visit k seq marks ns best).marks ≡ marks
wrote_all k seq marks [] best unfinished = absurd (both_ways true unfinished refl)
wrote_all k seq zero (n ∷ ns) best unfinished = refl
wrote_all k seq (suc marks) (n ∷ ns) best unfinished = by_first (λ v. v.finished ≡ false → length v.marks ≡ suc marks) k seq marks n ns best
    (λ is open_end. ap suc (wrote_all k seq marks ns best open_end))
    (λ less complete open_end. ap suc (wrote_all k seq marks ns (node_lists n) open_end))
    (λ below incomplete open_end. ap suc (wrote_all k seq marks (children k seq n ++ ns) best open_end))
    unfinished

-- nodes behind others: the visit goes on with the marks that are left, where it is finished
abbrev pub joined : Visited → Visited → Visited
joined v w = record { best = w.best; finished = w.finished; marks = v.marks ++ w.marks }

abbrev pub goes_on : ℕ → Sequence → ℕ → Visited → List Node → Visited
goes_on k seq marks v ns = elim v.finished [ true ↦ joined v (visit k seq (marks - length v.marks) ns v.best) | false ↦ v ]

goes_on_behind : (k : ℕ) (seq : Sequence) (marks : ℕ) (mark : Mark) (v : Visited) (ns : List Node) → goes_on k seq (suc marks) (behind mark v) ns ≡ behind mark (goes_on k seq marks v ns)
goes_on_behind k seq marks mark v ns = go v.finished refl
  where
    go : (b : Bool) → v.finished ≡ b → goes_on k seq (suc marks) (behind mark v) ns ≡ behind mark (goes_on k seq marks v ns)
    go true is =
        let left : suc marks - suc (length v.marks) ≡ marks - length v.marks = omega arith
        in rw (is, goes_on) (ap (λ m. joined (behind mark v) (visit k seq m ns v.best)) left)
    go false is = rw (is, goes_on) refl

pub visit_append : (k : ℕ) (seq : Sequence) (marks : ℕ) (ns ms : List Node) (best : List (List ℕ)) → visit k seq marks (ns ++ ms) best ≡ goes_on k seq marks (visit k seq marks ns best) ms
visit_append k seq marks [] ms best =
    let left : marks ≡ marks - 0 = omega arith
    in ap (λ m. visit k seq m ms best) left
visit_append k seq zero (n ∷ ns) ms best = refl
visit_append k seq (suc marks) (n ∷ ns) ms best = go (reaches (bound k seq n) (arranged_cost seq best)) refl (is_complete seq n) refl (λ os b. visit_append k seq marks os ms b)
  where
    go : (a : Bool) → reaches (bound k seq n) (arranged_cost seq best) ≡ a → (b : Bool) → is_complete seq n ≡ b
        → ((os : List Node) (o : List (List ℕ)) → visit k seq marks (os ++ ms) o ≡ goes_on k seq marks (visit k seq marks os o) ms)
        → visit k seq (suc marks) (n ∷ (ns ++ ms)) best ≡ goes_on k seq (suc marks) (visit k seq (suc marks) (n ∷ ns) best) ms
    go true is b all more =
        visit_closed k seq marks n (ns ++ ms) best is ∙ ap (behind Closed) (more ns best) ∙ sym (goes_on_behind k seq marks Closed (visit k seq marks ns best) ms)
        ∙ ap (λ v. goes_on k seq (suc marks) v ms) (sym (visit_closed k seq marks n ns best is))
    go false is true all more =
        visit_complete k seq marks n (ns ++ ms) best is all ∙ ap (behind Closed) (more ns (node_lists n)) ∙ sym (goes_on_behind k seq marks Closed (visit k seq marks ns (node_lists n)) ms)
        ∙ ap (λ v. goes_on k seq (suc marks) v ms) (sym (visit_complete k seq marks n ns best is all))
    go false is false all more =
        visit_branched k seq marks n (ns ++ ms) best is all
        ∙ ap (λ os. behind Branched (visit k seq marks os best)) (sym (append_assoc (children k seq n) ns ms))
        ∙ ap (behind Branched) (more (children k seq n ++ ns) best) ∙ sym (goes_on_behind k seq marks Branched (visit k seq marks (children k seq n ++ ns) best) ms)
        ∙ ap (λ v. goes_on k seq (suc marks) v ms) (sym (visit_branched k seq marks n ns best is all))
