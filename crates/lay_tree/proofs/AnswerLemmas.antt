-- What a search answers: its log fits the tree, and it costs at most what the starting layout does.
use Rattle.std.proofs.Common.{◌≡◌, ◌≤◌, ◌∙◌, ◌++◌, ℕ, suc, List, [], ◌∷◌, Bool, true, false, refl, length, map, ap, sym, subst, inl, inr, arith, append-nil, append_assoc}
use Rattle.std.specs.Prelude.{◌||◌, pos, ◌≤ℤ◌}
use Rattle.std.proofs.lemmas.Bool.{both_ways, or_cases, or_parts}
use Rattle.std.proofs.lemmas.Int.{ints}
use Rattle.lay_model.specs.Sequences.{Sequence, IsSequence}
use Rattle.lay_cost.specs.Cost.{arranged_cost}
use Rattle.lay_cost.specs.Parts.{Node, node_lists}
use Rattle.lay_tree.specs.declared.answer.Mark.{Mark}
use Rattle.lay_tree.specs.declared.answer.Mark.TheVariants.{Branched, Closed}
use Rattle.lay_tree.specs.declared.answer.Answer.{Answer}
use Rattle.lay_tree.specs.declared.answer.Answer.TheVariants.{Certified, Exhausted}
use Rattle.lay_tree.specs.Tree.{root, all_scalars, is_complete, children}
use Rattle.lay_tree.specs.Bound.{bound}
use Rattle.lay_tree.specs.Greedy.{starting_lists}
use Rattle.lay_tree.specs.Search.{reaches, Visited, piece_end, Searched, with_round, rounds, answer_of, quota_of, search_from, search_answer, answer_lists, answer_cost, is_certified}
use Rattle.lay_tree.specs.Replays.{Fits, replay_from, Replays}
use Rattle.lay_tree.proofs.Members.{IsIn, in_either, in_map}
use Rattle.lay_tree.proofs.Cheapest.{cheapest_first, cheapest_each, start_at_most_rising}
use Rattle.lay_tree.proofs.Visits.{visited_fits, complete_bound, reaches_at_most}
use Rattle.lay_tree.proofs.Nodes.{incomplete}
use Rattle.lay_tree.proofs.Least.{costs_nothing}

-- an end is that of a piece that began with a layout that costs at most so much
pub record IsPiece (k : ℕ) (seq : Sequence) (quota most : ℕ) (n : Node) (v : Visited) : Type 0 where
  pub before : List (List ℕ)
  pub costs : arranged_cost seq before ≤ most
  pub is : v ≡ piece_end k seq quota before n

abbrev pub ArePieces : (k : ℕ) (seq : Sequence) (quota most : ℕ) → List Node → List Visited → Type 0
ArePieces k seq quota most [] [] = Unit {0}
ArePieces k seq quota most [] (v ∷ vs) = ⊥
ArePieces k seq quota most (n ∷ ns) [] = ⊥
ArePieces k seq quota most (n ∷ ns) (v ∷ vs) = IsPiece k seq quota most n v × ArePieces k seq quota most ns vs

pieces_of_round : (k : ℕ) (seq : Sequence) (quota most : ℕ) (best : List (List ℕ)) (ns : List Node) → arranged_cost seq best ≤ most → ArePieces k seq quota most ns (map (piece_end k seq quota best) ns)
pieces_of_round k seq quota most best [] costs = tt
pieces_of_round k seq quota most best (n ∷ ns) costs = (record { before = best; costs = costs; is = refl }, pieces_of_round k seq quota most best ns costs)

more_pieces : (k : ℕ) (seq : Sequence) (quota most : ℕ) (ns : List Node) (vs : List Visited) (ms : List Node) (ws : List Visited) → ArePieces k seq quota most ns vs → ArePieces k seq quota most ms ws → ArePieces k seq quota most (ns ++ ms) (vs ++ ws)
more_pieces k seq quota most [] [] ms ws a b = b
more_pieces k seq quota most [] (v ∷ vs) ms ws a b = absurd a
more_pieces k seq quota most (n ∷ ns) [] ms ws a b = absurd a
more_pieces k seq quota most (n ∷ ns) (v ∷ vs) ms ws a b = (a.0, more_pieces k seq quota most ns vs ms ws a.1 b)

-- the pieces so far, and the best layout, which costs at most what that of each piece and the starting one do
pub record IsSearched (k : ℕ) (seq : Sequence) (quota : ℕ) (start : List (List ℕ)) (ns : List Node) (s : Searched) : Type 0 where
  pub pieces : ArePieces k seq quota (arranged_cost seq start) ns s.ends
  pub cheapest : (v : Visited) → IsIn v s.ends → arranged_cost seq s.best ≤ arranged_cost seq v.best
  pub at_most : arranged_cost seq s.best ≤ arranged_cost seq start

behind_round : (k : ℕ) (seq : Sequence) (quota : ℕ) (start : List (List ℕ)) (ns : List Node) (s : Searched) (ms : List Node) → IsSearched k seq quota start ns s → IsSearched k seq quota start (ns ++ ms) (with_round k seq quota s ms)
behind_round k seq quota start ns s ms h =
    let ends = map (piece_end k seq quota s.best) ms in
    let first = cheapest_first (arranged_cost seq) s.best (map (λ (v : Visited). v.best) ends)
    in record {
      pieces = more_pieces k seq quota (arranged_cost seq start) ns s.ends ms ends h.pieces (pieces_of_round k seq quota (arranged_cost seq start) s.best ms h.at_most);
      cheapest = λ v i. elim (in_either v s.ends ends i) [
        | inl old ↦ omega (arith, first, h.cheapest v old)
        | inr now ↦ cheapest_each (arranged_cost seq) s.best (map (λ (w : Visited). w.best) ends) v.best (in_map (λ (w : Visited). w.best) v ends now)
      ];
      at_most = omega (arith, first, h.at_most);
    }

behind_rounds : (k : ℕ) (seq : Sequence) (quota : ℕ) (start : List (List ℕ)) (ns : List Node) (s : Searched) (ms : List Node) → IsSearched k seq quota start ns s → IsSearched k seq quota start (ns ++ ms) (rounds k seq quota s ms)
behind_rounds k seq quota start ns s [] h = behind_round k seq quota start ns s [] h
behind_rounds k seq quota start ns s (a ∷ []) h = behind_round k seq quota start ns s (a ∷ []) h
behind_rounds k seq quota start ns s (a ∷ b ∷ []) h = behind_round k seq quota start ns s (a ∷ b ∷ []) h
behind_rounds k seq quota start ns s (a ∷ b ∷ c ∷ []) h = behind_round k seq quota start ns s (a ∷ b ∷ c ∷ []) h
behind_rounds k seq quota start ns s (a ∷ b ∷ c ∷ d ∷ ms) h =
    subst (λ os. IsSearched k seq quota start os (rounds k seq quota (with_round k seq quota s (a ∷ b ∷ c ∷ d ∷ [])) ms)) (append_assoc ns (a ∷ b ∷ c ∷ d ∷ []) ms)
    (behind_rounds k seq quota start (ns ++ (a ∷ b ∷ c ∷ d ∷ [])) (with_round k seq quota s (a ∷ b ∷ c ∷ d ∷ [])) ms (behind_round k seq quota start ns s (a ∷ b ∷ c ∷ d ∷ []) h))

-- all pieces are finished: their marks one behind another
abbrev pub AllFinished : List Visited → Type 0
AllFinished [] = Unit {0}
AllFinished (v ∷ vs) = (v.finished ≡ true) × AllFinished vs

abbrev all_marks : List Visited → List Mark
all_marks [] = []
all_marks (v ∷ vs) = v.marks ++ all_marks vs

pieces_fit : (k : ℕ) (seq : Sequence) (quota most c : ℕ) (ns : List Node) (vs : List Visited) → ArePieces k seq quota most ns vs → AllFinished vs → ((v : Visited) → IsIn v vs → c ≤ arranged_cost seq v.best)
    → (at : ℕ) → replay_from k seq c at ns (all_marks vs) ≡ Fits
pieces_fit k seq quota most c [] [] a finished costs at = refl
pieces_fit k seq quota most c [] (v ∷ vs) a finished costs at = absurd a
pieces_fit k seq quota most c (n ∷ ns) [] a finished costs at = absurd a
pieces_fit k seq quota most c (n ∷ ns) (v ∷ vs) a finished costs at =
    let piece = a.0 in
    let more : (from : ℕ) → replay_from k seq c from ns (all_marks vs) ≡ Fits = pieces_fit k seq quota most c ns vs a.1 finished.1 (λ w i. costs w (inr i)) in
    let ends = ap (λ (w : Visited). w.finished) (sym piece.is) ∙ finished.0 in
    let enough = subst (λ (w : Visited). c ≤ arranged_cost seq w.best) piece.is (costs v (inl refl)) in
    let fitting = visited_fits k seq c quota (n ∷ []) piece.before ns (all_marks vs) ends enough more at
    in subst (λ (w : Visited). replay_from k seq c at (n ∷ ns) (w.marks ++ all_marks vs) ≡ Fits) (sym piece.is) fitting

-- a certified answer
record IsCertified (seq : Sequence) (best : List (List ℕ)) (marks : List Mark) (vs : List Visited) (lists : List (List ℕ)) (cost : ℕ) (log : List Mark) : Type 0 where
  lists_are : lists ≡ best
  cost_is : cost ≡ arranged_cost seq best
  log_is : log ≡ marks ++ all_marks vs
  finished : AllFinished vs

abbrev pub log_of : Answer → List Mark
log_of (Certified lists cost log) = log
log_of (Exhausted lists cost piece quota log) = log

certified_of : (seq : Sequence) (quota : ℕ) (best : List (List ℕ)) (marks : List Mark) (piece : ℕ) (vs : List Visited) (lists : List (List ℕ)) (cost : ℕ) (log : List Mark)
    → answer_of seq quota best marks piece vs ≡ Certified lists cost log → IsCertified seq best marks vs lists cost log
certified_of seq quota best marks piece [] lists cost log e =
    record { lists_are = sym (ap answer_lists e); cost_is = sym (ap answer_cost e); log_is = sym (ap log_of e) ∙ sym (append-nil marks); finished = tt }
certified_of seq quota best marks piece (v ∷ vs) lists cost log e = go v.finished refl (certified_of seq quota best (marks ++ v.marks) (suc piece) vs lists cost log)
  where
    go : (b : Bool) → v.finished ≡ b → (answer_of seq quota best (marks ++ v.marks) (suc piece) vs ≡ Certified lists cost log → IsCertified seq best (marks ++ v.marks) vs lists cost log)
        → IsCertified seq best marks (v ∷ vs) lists cost log
    go true is more =
        let h = more (rw (is, answer_of) at e)
        in record { lists_are = h.lists_are; cost_is = h.cost_is; log_is = h.log_is ∙ append_assoc marks v.marks (all_marks vs); finished = (is, h.finished) }
    go false is more = absurd (both_ways false refl (ap is_certified (rw (is, answer_of) at e)))

-- the lists and the cost of any answer
pub says_best : (seq : Sequence) (quota : ℕ) (best : List (List ℕ)) (marks : List Mark) (piece : ℕ) (vs : List Visited) → (answer_lists (answer_of seq quota best marks piece vs) ≡ best) × (answer_cost (answer_of seq quota best marks piece vs) ≡ arranged_cost seq best)
says_best seq quota best marks piece [] = (refl, refl)
says_best seq quota best marks piece (v ∷ vs) = go v.finished refl (says_best seq quota best (marks ++ v.marks) (suc piece) vs)
  where
    go : (b : Bool) → v.finished ≡ b → (answer_lists (answer_of seq quota best (marks ++ v.marks) (suc piece) vs) ≡ best) × (answer_cost (answer_of seq quota best (marks ++ v.marks) (suc piece) vs) ≡ arranged_cost seq best)
        → (answer_lists (answer_of seq quota best marks piece (v ∷ vs)) ≡ best) × (answer_cost (answer_of seq quota best marks piece (v ∷ vs)) ≡ arranged_cost seq best)
    go true is more = rw (is, answer_of) more
    go false is more = rw (is, answer_of) (refl, refl)

-- the pieces of the root
begun : (k : ℕ) (seq : Sequence) (quota : ℕ) (start : List (List ℕ)) → IsSearched k seq quota start [] (record { best = start; ends = [] })
begun k seq quota start = record { pieces = tt; cheapest = λ v i. absurd i; at_most = omega arith }

pub searched : (k : ℕ) (seq : Sequence) (quota : ℕ) (start : List (List ℕ)) → IsSearched k seq quota start (children k seq root) (rounds k seq quota (record { best = start; ends = [] }) (children k seq root))
searched k seq quota start = behind_rounds k seq quota start [] (record { best = start; ends = [] }) (children k seq root) (begun k seq quota start)

zero_le : (n : ℕ) → pos 0 ≤ℤ pos n
zero_le n = omega (arith, ints)

-- where the root is complete there are no scalars
pub no_scalars : (seq : Sequence) → is_complete seq root ≡ true → seq.scalars ≡ 0
no_scalars seq complete = elim (Rattle.std.proofs.lemmas.Bool.cases_lt 0 seq.scalars) [
  | inl some ↦ absurd (both_ways _ (incomplete seq root 0 (record { below = some; not_closed = refl; not_open = refl })) complete)
  | inr none ↦ omega (arith, none)
]

root_reaches : (k : ℕ) (seq : Sequence) (start : List (List ℕ)) → IsSequence seq → (reaches (bound k seq root) (arranged_cost seq start) || is_complete seq root) ≡ true → reaches (bound k seq root) (arranged_cost seq start) ≡ true
root_reaches k seq start sequence e = elim (or_cases (reaches (bound k seq root) (arranged_cost seq start)) (is_complete seq root) e) [
  | inl h ↦ h
  | inr complete ↦
      let none = no_scalars seq complete in
      let nothing = costs_nothing seq start sequence none in
      subst (λ b. reaches b (arranged_cost seq start) ≡ true) (sym (complete_bound k seq root complete)) (subst (λ c. reaches (pos (arranged_cost seq (node_lists root))) c ≡ true) (sym nothing) (reaches_at_most (pos (arranged_cost seq (node_lists root))) 0 (zero_le (arranged_cost seq (node_lists root)))))
]

-- a certified answer costs what its layout does, and its log shows that nothing costs less
record IsShown (k : ℕ) (seq : Sequence) (lists : List (List ℕ)) (cost : ℕ) (log : List Mark) : Type 0 where
  cost_is : cost ≡ arranged_cost seq lists
  replays : Replays k seq cost log

shown_from : (k : ℕ) (seq : Sequence) (budget : ℕ) (start lists : List (List ℕ)) (cost : ℕ) (log : List Mark) → IsSequence seq → search_from k seq budget start ≡ Certified lists cost log → IsShown k seq lists cost log
shown_from k seq budget start lists cost log sequence e = go (reaches (bound k seq root) (arranged_cost seq start) || is_complete seq root) refl
  where
    go : (b : Bool) → (reaches (bound k seq root) (arranged_cost seq start) || is_complete seq root) ≡ b → IsShown k seq lists cost log
    go true is =
        let same : Certified start (arranged_cost seq start) (Closed ∷ []) ≡ Certified lists cost log = rw (is, search_from) at e in
        let fitting : Replays k seq (arranged_cost seq start) (Closed ∷ []) = rw (root_reaches k seq start sequence is, replay_from) refl
        in record {
          cost_is = sym (ap answer_cost same) ∙ ap (arranged_cost seq) (ap answer_lists same);
          replays = subst (λ c. Replays k seq c log) (ap answer_cost same) (subst (λ l. Replays k seq (arranged_cost seq start) l) (ap log_of same) fitting);
        }
    go false is =
        let quota = quota_of budget (length (children k seq root)) in
        let s = rounds k seq quota (record { best = start; ends = [] }) (children k seq root) in
        let same : answer_of seq quota s.best (Branched ∷ []) 0 s.ends ≡ Certified lists cost log = rw (is, search_from) at e in
        let h = certified_of seq quota s.best (Branched ∷ []) 0 s.ends lists cost log same in
        let all = searched k seq quota start in
        let unfinished : is_complete seq root ≡ false = (or_parts _ _ is).1 in
        let fitting = pieces_fit k seq quota (arranged_cost seq start) (arranged_cost seq s.best) (children k seq root) s.ends all.pieces h.finished all.cheapest 1 in
        let whole : Replays k seq (arranged_cost seq s.best) (Branched ∷ all_marks s.ends) = rw (unfinished, replay_from) (subst (λ ns. replay_from k seq (arranged_cost seq s.best) 1 ns (all_marks s.ends) ≡ Fits) (sym (append-nil (children k seq root))) fitting)
        in record {
          cost_is = h.cost_is ∙ ap (arranged_cost seq) (sym h.lists_are);
          replays = subst (λ c. Replays k seq c log) (sym h.cost_is) (subst (λ l. Replays k seq (arranged_cost seq s.best) l) (sym h.log_is) whole);
        }

pub certified_replays : (k : ℕ) (seq : Sequence) (budget : ℕ) (lists : List (List ℕ)) (cost : ℕ) (log : List Mark) → IsSequence seq → search_answer k seq budget ≡ Certified lists cost log → Replays k seq cost log
certified_replays k seq budget lists cost log sequence e = (shown_from k seq budget (starting_lists k seq) lists cost log sequence e).replays

-- each answer says what its layout costs, which is at most what the starting one does
says_cost_from : (k : ℕ) (seq : Sequence) (budget : ℕ) (start : List (List ℕ)) → (answer_cost (search_from k seq budget start) ≡ arranged_cost seq (answer_lists (search_from k seq budget start))) × (answer_cost (search_from k seq budget start) ≤ arranged_cost seq start)
says_cost_from k seq budget start = go (reaches (bound k seq root) (arranged_cost seq start) || is_complete seq root) refl
  where
    go : (b : Bool) → (reaches (bound k seq root) (arranged_cost seq start) || is_complete seq root) ≡ b
        → (answer_cost (search_from k seq budget start) ≡ arranged_cost seq (answer_lists (search_from k seq budget start))) × (answer_cost (search_from k seq budget start) ≤ arranged_cost seq start)
    go true is = rw (is, search_from) (refl, omega arith)
    go false is =
        let quota = quota_of budget (length (children k seq root)) in
        let s = rounds k seq quota (record { best = start; ends = [] }) (children k seq root) in
        let h = says_best seq quota s.best (Branched ∷ []) 0 s.ends in
        let all = searched k seq quota start
        in rw (is, search_from) (h.1 ∙ ap (arranged_cost seq) (sym h.0), omega (arith, h.1, all.at_most))

pub says_cost : (k : ℕ) (seq : Sequence) (budget : ℕ) → answer_cost (search_answer k seq budget) ≡ arranged_cost seq (answer_lists (search_answer k seq budget))
says_cost k seq budget = (says_cost_from k seq budget (starting_lists k seq)).0

pub at_most_start : (k : ℕ) (seq : Sequence) (budget : ℕ) → answer_cost (search_answer k seq budget) ≤ arranged_cost seq (starting_lists k seq)
at_most_start k seq budget = (says_cost_from k seq budget (starting_lists k seq)).1

pub at_most_rising : (k : ℕ) (seq : Sequence) (budget : ℕ) → answer_cost (search_answer k seq budget) ≤ arranged_cost seq (all_scalars seq ∷ [])
at_most_rising k seq budget = omega (arith, at_most_start k seq budget, start_at_most_rising k seq)
