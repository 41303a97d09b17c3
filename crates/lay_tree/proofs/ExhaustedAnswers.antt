-- An exhausted answer has the marks of a piece that wrote as many as it might.
use Rattle.std.proofs.Common.{◌≡◌, ◌<◌, ◌≤◌, ◌+◌, ◌∙◌, ◌++◌, ℕ, zero, suc, List, [], ◌∷◌, Bool, true, false, refl, length, map, ap, sym, subst, inl, inr, arith}
use Rattle.std.specs.Prelude.{slice_index_or, Contains}
use Rattle.std.proofs.lemmas.Bool.{both_ways}
use Rattle.lay_model.specs.Sequences.{Sequence}
use Rattle.lay_cost.specs.Cost.{arranged_cost}
use Rattle.std.specs.List.{range_with_len}
use Rattle.lay_cost.specs.Parts.{Node, node_lists}
use Rattle.lay_tree.specs.declared.answer.Mark.{Mark}
use Rattle.lay_tree.specs.declared.answer.Mark.TheVariants.{Branched, Closed}
use Rattle.lay_tree.specs.declared.answer.Answer.{Answer}
use Rattle.lay_tree.specs.declared.answer.Answer.TheVariants.{Certified, Exhausted}
use Rattle.lay_tree.specs.Tree.{root, with_scalar, is_complete, children}
use Rattle.lay_tree.specs.Bound.{bound}
use Rattle.lay_tree.specs.Greedy.{starting_lists}
use Rattle.lay_tree.specs.Search.{reaches, Visited, visit, rounds, answer_of, quota_of, is_settled, search_from, search_answer, is_certified}
use Rattle.lay_tree.specs.Marked.{marked, BranchesBelow, IsLogBelow, IsUnfinished}
use Rattle.lay_tree.proofs.AnswerLemmas.{ArePieces, searched, log_of}
use Rattle.lay_tree.proofs.Visits.{by_first, reaches_less, wrote_all}
use Rattle.lay_tree.proofs.SmallSearches.{root_children, many_pieces}
use Rattle.lay_tree.proofs.Members.{IsIn, from_contains}

abbrev piece_of : Answer → ℕ
piece_of (Certified lists cost log) = 0
piece_of (Exhausted lists cost piece quota log) = piece

abbrev quota_in : Answer → ℕ
quota_in (Certified lists cost log) = 0
quota_in (Exhausted lists cost piece quota log) = quota

-- each mark is for a node, and a branched one's bound is below a cost
record HasMarks (k : ℕ) (seq : Sequence) (cost : ℕ) (ns : List Node) (log : List Mark) : Type 0 where
  each : map (λ m. m.1) (marked k seq ns log) ≡ log
  branched : (m : Node × Mark) → IsIn m (marked k seq ns log) → BranchesBelow k seq cost m

closed_marks : (k : ℕ) (seq : Sequence) (cost : ℕ) (n : Node) (ns : List Node) (log : List Mark) → HasMarks k seq cost ns log → HasMarks k seq cost (n ∷ ns) (Closed ∷ log)
closed_marks k seq cost n ns log h = record {
  each = ap (λ ms. Closed ∷ ms) h.each;
  branched = λ m i. elim i [ inl is ↦ (λ b. let both : Closed ≡ Branched = sym (ap (λ (p : Node × Mark). p.1) is) ∙ b in cc) | inr other ↦ h.branched m other ];
}

branched_marks : (k : ℕ) (seq : Sequence) (cost : ℕ) (n : Node) (ns : List Node) (log : List Mark) → reaches (bound k seq n) cost ≡ false → HasMarks k seq cost (children k seq n ++ ns) log
    → HasMarks k seq cost (n ∷ ns) (Branched ∷ log)
branched_marks k seq cost n ns log below h = record {
  each = ap (λ ms. Branched ∷ ms) h.each;
  branched = λ m i. elim i [ inl is ↦ (λ b. subst (λ o. reaches (bound k seq o) cost ≡ false) (sym (ap (λ (p : Node × Mark). p.0) is)) below) | inr other ↦ h.branched m other ];
}

-- a bound that is below a cost is below each that is at least that
below_more : (k : ℕ) (seq : Sequence) (n : Node) (less more : ℕ) → less ≤ more → reaches (bound k seq n) less ≡ false → reaches (bound k seq n) more ≡ false
below_more k seq n less more le below = go (reaches (bound k seq n) more) refl
  where
    go : (b : Bool) → reaches (bound k seq n) more ≡ b → b ≡ false
    go true is = absurd (both_ways _ below (reaches_less (bound k seq n) less more is le))
    go false is = refl

visited_marks : (k : ℕ) (seq : Sequence) (cost marks : ℕ) (ns : List Node) (best : List (List ℕ)) → arranged_cost seq best ≤ cost → HasMarks k seq cost ns (visit k seq marks ns best).marks
visited_marks k seq cost marks [] best le = record { each = refl; branched = λ m i. absurd i }
visited_marks k seq cost zero (n ∷ ns) best le = record { each = refl; branched = λ m i. absurd i }
visited_marks k seq cost (suc marks) (n ∷ ns) best le = by_first (λ v. HasMarks k seq cost (n ∷ ns) v.marks) k seq marks n ns best
    (λ is. closed_marks k seq cost n ns _ (visited_marks k seq cost marks ns best le))
    (λ less complete. closed_marks k seq cost n ns _ (visited_marks k seq cost marks ns (node_lists n) (omega (arith, less, le))))
    (λ below incomplete. branched_marks k seq cost n ns _ (below_more k seq n (arranged_cost seq best) cost le below) (visited_marks k seq cost marks (children k seq n ++ ns) best le))

contains_at : {X : Type 0} (xs : List X) (i : ℕ) (d : X) → i < length xs → Contains xs (slice_index_or xs i d)
contains_at [] i d lt = absurd (omega (arith, lt))
contains_at (x ∷ xs) zero d lt = (0, omega arith, refl)
contains_at (x ∷ xs) (suc i) d lt = let c = contains_at xs i d (omega (arith, lt)) in (suc c.0, omega (arith, c.1), c.2)

log_below : (k : ℕ) (seq : Sequence) (cost : ℕ) (ns : List Node) (log : List Mark) → HasMarks k seq cost ns log → IsLogBelow k seq cost ns log
log_below k seq cost ns log h = record {
  each = h.each;
  branched = λ i d lt. h.branched (slice_index_or (marked k seq ns log) i d) (from_contains _ _ (contains_at (marked k seq ns log) i d lt));
}

-- among the pieces from a number on
record IsAmong (k : ℕ) (seq : Sequence) (from count quota most piece found : ℕ) (log : List Mark) : Type 0 where
  least : from ≤ piece
  below : piece < from + count
  quota_is : found ≡ quota
  full : length log ≡ quota
  marks : HasMarks k seq most (with_scalar root piece ∷ []) log

abbrev pieces_at : ℕ → ℕ → List Node
pieces_at from count = map (with_scalar root) (range_with_len from count)

among_pieces : (k : ℕ) (seq : Sequence) (quota most : ℕ) (best : List (List ℕ)) (marks : List Mark) (from count : ℕ) (vs : List Visited) (lists : List (List ℕ)) (cost piece found : ℕ) (log : List Mark)
    → ArePieces k seq quota most (pieces_at from count) vs → answer_of seq quota best marks from vs ≡ Exhausted lists cost piece found log → IsAmong k seq from count quota most piece found log
among_pieces k seq quota most best marks from zero [] lists cost piece found log a e = absurd (both_ways true (ap is_certified e) refl)
among_pieces k seq quota most best marks from zero (v ∷ vs) lists cost piece found log a e = absurd a
among_pieces k seq quota most best marks from (suc count) [] lists cost piece found log a e = absurd a
among_pieces k seq quota most best marks from (suc count) (v ∷ vs) lists cost piece found log a e =
    go v.finished refl (among_pieces k seq quota most best (marks ++ v.marks) (suc from) count vs lists cost piece found log (subst (λ f. ArePieces k seq quota most (pieces_at f count) vs) next a.1))
  where
    next : from + 1 ≡ suc from
    next = omega arith

    go : (b : Bool) → v.finished ≡ b → (answer_of seq quota best (marks ++ v.marks) (suc from) vs ≡ Exhausted lists cost piece found log → IsAmong k seq (suc from) count quota most piece found log)
        → IsAmong k seq from (suc count) quota most piece found log
    go true is more =
        let h = more (rw (is, answer_of) at e)
        in record { least = omega (arith, h.least); below = omega (arith, h.below); quota_is = h.quota_is; full = h.full; marks = h.marks }
    go false is more =
        let same : Exhausted best (arranged_cost seq best) from quota v.marks ≡ Exhausted lists cost piece found log = rw (is, answer_of) at e in
        let number : from ≡ piece = ap piece_of same in
        let n = with_scalar root from in
        let all = wrote_all k seq quota (n ∷ []) a.0.before (ap (λ (w : Visited). w.finished) (sym a.0.is) ∙ is) in
        let own : v.marks ≡ log = ap log_of same in
        let visited : HasMarks k seq most (n ∷ []) v.marks = subst (λ (w : Visited). HasMarks k seq most (n ∷ []) w.marks) (sym a.0.is) (visited_marks k seq most quota (n ∷ []) a.0.before a.0.costs)
        in record {
          least = omega (arith, number);
          below = omega (arith, number);
          quota_is = sym (ap quota_in same);
          full = ap length (sym own) ∙ ap (λ (w : Visited). length w.marks) a.0.is ∙ all;
          marks = subst (λ p. HasMarks k seq most (with_scalar root p ∷ []) log) number (subst (HasMarks k seq most (n ∷ [])) own visited);
        }

unfinished_from : (k : ℕ) (seq : Sequence) (budget : ℕ) (lists : List (List ℕ)) (cost piece quota : ℕ) (log : List Mark) → search_answer k seq budget ≡ Exhausted lists cost piece quota log → IsUnfinished k seq budget piece quota log
unfinished_from k seq budget lists cost piece quota log e = go (is_settled k seq start) refl
  where
    start : List (List ℕ)
    start = starting_lists k seq

    go : (b : Bool) → is_settled k seq start ≡ b → IsUnfinished k seq budget piece quota log
    go true is = absurd (both_ways true (ap is_certified (rw (is, search_from) at e)) refl)
    go false is =
        let each = quota_of budget (length (children k seq root)) in
        let s = rounds k seq each (record { best = start; ends = [] }) (children k seq root) in
        let same : quota_of budget (length (children k seq root)) ≡ quota_of budget seq.scalars = ap (quota_of budget) (many_pieces k seq) in
        let all = subst (λ ns. ArePieces k seq each (arranged_cost seq start) ns s.ends) (root_children k seq) (searched k seq each start).pieces in
        let h = among_pieces k seq each (arranged_cost seq start) s.best (Branched ∷ []) 0 seq.scalars s.ends lists cost piece quota log all (rw (is, search_from) at e)
        in record { piece_is = omega (arith, h.below); quota_is = h.quota_is ∙ same; full = h.full ∙ sym h.quota_is; below = log_below k seq _ _ log h.marks }

pub unfinished : (k : ℕ) (seq : Sequence) (budget : ℕ) (lists : List (List ℕ)) (cost piece quota : ℕ) (log : List Mark) → search_answer k seq budget ≡ Exhausted lists cost piece quota log → IsUnfinished k seq budget piece quota log
unfinished k seq budget lists cost piece quota log e = unfinished_from k seq budget lists cost piece quota log e
