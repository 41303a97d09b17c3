-- Rounds of pieces, as the definition goes over them.
use Rattle.std.proofs.Common.{◌≡◌, ℕ, zero, suc, ◌+◌, ◌-◌, ◌*◌, ◌≤◌, min, Bool, true, false, cond, List, [], ◌∷◌, ◌++◌, map, fold, length, refl, ap, ap₂, sym, subst, ◌∙◌, arith, append-nil}
use Rattle.std.specs.Prelude.{nat_lt, All, if◌then◌else◌}
use Rattle.std.specs.List.{range_with_len}
use Rattle.std.proofs.lemmas.List.{map_push, map-append, length-map}
use Rattle.std.proofs.lemmas.List.FromFn.{length-range_with_len}
use Rattle.std.proofs.lemmas.List.Elements.{All-push, All-head, All-tail}
use Rattle.lay_model.specs.Sequences.{Sequence}
use Rattle.lay_model.specs.Arrangements.{Arranges}
use Rattle.lay_cost.specs.Cost.{arranged_cost}
use Rattle.lay_tree.specs.declared.answer.Mark.{Mark}
use Rattle.lay_tree.specs.declared.answer.Mark.TheVariants.{Branched}
use Rattle.lay_tree.specs.declared.answer.PieceEnd.{PieceEnd}
use Rattle.lay_tree.specs.declared.answer.Answer.TheVariants.{Certified, Exhausted}
use Rattle.lay_tree.specs.Tree.{root, with_scalar, children}
use Rattle.lay_tree.specs.Greedy.{cheapest}
use Rattle.lay_tree.specs.Search.{Visited, Searched, piece_end, with_round, rounds, answer_of, answer_with, search_pieces}
use Rattle.lay_search.specs.declared.rounds.Best.{Best}
use Rattle.lay_search.specs.declared.closing.Outcome.{Outcome}
use Rattle.lay_search.specs.Ends.{IsEnd}
use Rattle.lay_search.specs.Openings.{outcome_of, answer_by}
use Rattle.lay_search.specs.Rounds.{visited_of, EndsWell, IsBest, pieces_from, offered, Ran, round_length}
use Rattle.lay_node.proofs.Ranges.{range_from}
use Rattle.lay_search.proofs.Opened.{children_of_root}

abbrev make_visited : List (List ℕ) → Bool → List Mark → Visited
make_visited b f m = record { best = b; finished = f; marks = m }

-- one more piece
pub ran_next : (k : ℕ) (seq : Sequence) (quota : ℕ) (best : List (List ℕ)) (first i : ℕ) (ends : List PieceEnd) (e : PieceEnd) → first ≤ i → Ran k seq quota best first (i - first) ends → IsEnd seq (piece_end k seq quota best (with_scalar root i)) e → Ran k seq quota best first (i + 1 - first) (ends ++ (e ∷ []))
ran_next k seq quota best first i ends e le ran is =
    let v = piece_end k seq quota best (with_scalar root i) in
    let one : visited_of e ≡ v = ap (λ b. make_visited b e.finished e.log) is.arrangement ∙ ap₂ (λ f m. make_visited v.best f m) is.finished is.marks in
    let count : i + 1 - first ≡ suc (i - first) = omega arith in
    let last : first + (i - first) ≡ i = omega arith in
    let more : pieces_from first (i + 1 - first) ≡ pieces_from first (i - first) ++ (with_scalar root i ∷ []) =
    ap (pieces_from first) count ∙ ap (map (with_scalar root)) (range_from first (i - first)) ∙ map_push (with_scalar root) (range_with_len first (i - first)) (first + (i - first)) ∙ ap (λ n. pieces_from first (i - first) ++ (with_scalar root n ∷ [])) last in
    record {
      visits = map_push visited_of ends e ∙ ap₂ (λ vs w. vs ++ (w ∷ [])) ran.visits one ∙ sym (map_push (piece_end k seq quota best) (pieces_from first (i - first)) (with_scalar root i)) ∙ ap (map (piece_end k seq quota best)) (sym more);
      well = All-push (EndsWell seq) ends e ran.well (record {
        arranges = subst (λ ls. Arranges seq.scalars ls) (sym is.arrangement) is.arranges;
        cost = is.cost ∙ ap (arranged_cost seq) (sym is.arrangement);
      });
    }

-- the best one behind some ends
record BestBehind (seq : Sequence) (b : Best) (es : List PieceEnd) : Type 0 where
  is : (fold offered b es).arrangement ≡ cheapest (arranged_cost seq) b.arrangement (map (λ (v : Visited). v.best) (map visited_of es))
  best : IsBest seq (fold offered b es)

record OneOffered (seq : Sequence) (b : Best) (e : PieceEnd) : Type 0 where
  is : (offered b e).arrangement ≡ (if nat_lt (arranged_cost seq e.arrangement) (arranged_cost seq b.arrangement) then e.arrangement else b.arrangement)
  best : IsBest seq (offered b e)

one_offered : (seq : Sequence) (b : Best) (e : PieceEnd) → IsBest seq b → EndsWell seq e → OneOffered seq b e
one_offered seq b e h w = let made = by (nat_lt e.cost b.cost) (ap₂ nat_lt w.cost h.cost) in record { is = made.0; best = made.1 }
  where
    by : (t : Bool) → t ≡ nat_lt (arranged_cost seq e.arrangement) (arranged_cost seq b.arrangement)
        → (let made : Best = cond t (record { arrangement = e.arrangement; cost = e.cost }) b in (made.arrangement ≡ cond (nat_lt (arranged_cost seq e.arrangement) (arranged_cost seq b.arrangement)) e.arrangement b.arrangement) × IsBest seq made)
    by true is = (ap (λ t. cond t e.arrangement b.arrangement) is, record { arranges = w.arranges; cost = w.cost })
    by false is = (ap (λ t. cond t e.arrangement b.arrangement) is, h)

best_behind : (seq : Sequence) (b : Best) (es : List PieceEnd) → IsBest seq b → All (EndsWell seq) es → BestBehind seq b es
best_behind seq b [] h all = record { is = refl; best = h }
best_behind seq b (e ∷ es) h all =
    let one = one_offered seq b e h (All-head (EndsWell seq) e es all) in
    let rest = best_behind seq (offered b e) es one.best (All-tail (EndsWell seq) e es all) in
    record {
      is = rest.is ∙ ap (λ a. cheapest (arranged_cost seq) a (map (λ (v : Visited). v.best) (map visited_of es))) one.is;
      best = rest.best;
    }

-- what was searched by then
abbrev pub searched_by : Best → List PieceEnd → Searched
searched_by b es = record { best = b.arrangement; ends = map visited_of es }

abbrev make_searched : List (List ℕ) → List Visited → Searched
make_searched b es = record { best = b; ends = es }

pub round_best : (k : ℕ) (seq : Sequence) (quota first count : ℕ) (b : Best) (more : List PieceEnd) → IsBest seq b → Ran k seq quota b.arrangement first count more → IsBest seq (fold offered b more)
round_best k seq quota first count b more h ran = (best_behind seq b more h ran.well).best

round_is : (k : ℕ) (seq : Sequence) (quota first count : ℕ) (b : Best) (ends more : List PieceEnd) → IsBest seq b → Ran k seq quota b.arrangement first count more
    → searched_by (fold offered b more) (ends ++ more) ≡ with_round k seq quota (searched_by b ends) (pieces_from first count)
round_is k seq quota first count b ends more h ran =
    let best = (best_behind seq b more h ran.well).is ∙ ap (λ vs. cheapest (arranged_cost seq) b.arrangement (map (λ (v : Visited). v.best) vs)) ran.visits in
    let all = map-append visited_of ends more ∙ ap (λ vs. map visited_of ends ++ vs) ran.visits in
    ap₂ make_searched best all

none_more : (k : ℕ) (seq : Sequence) (quota : ℕ) (s : Searched) → with_round k seq quota s [] ≡ s
none_more k seq quota s = ap (make_searched s.best) (append-nil s.ends)

rounds_step : (k : ℕ) (seq : Sequence) (quota : ℕ) (s : Searched) (first m : ℕ) → rounds k seq quota s (pieces_from first m) ≡ rounds k seq quota (with_round k seq quota s (pieces_from first (min 4 m))) (pieces_from (first + 4) (m - 4))
rounds_step k seq quota s first zero = sym (none_more k seq quota (with_round k seq quota s []))
rounds_step k seq quota s first (suc zero) = sym (none_more k seq quota (with_round k seq quota s (pieces_from first 1)))
rounds_step k seq quota s first (suc (suc zero)) = sym (none_more k seq quota (with_round k seq quota s (pieces_from first 2)))
rounds_step k seq quota s first (suc (suc (suc zero))) = sym (none_more k seq quota (with_round k seq quota s (pieces_from first 3)))
rounds_step k seq quota s first (suc (suc (suc (suc m)))) =
    let four : 4 ≡ min 4 (suc (suc (suc (suc m)))) = omega arith in
    let rest : m ≡ suc (suc (suc (suc m))) - 4 = omega arith in
    let next : first + 1 + 1 + 1 + 1 ≡ first + 4 = omega arith in
    ap (λ a. rounds k seq quota (with_round k seq quota s (pieces_from first 4)) (pieces_from a m)) next
    ∙ ap (λ c. rounds k seq quota (with_round k seq quota s (pieces_from first c)) (pieces_from (first + 4) m)) four
    ∙ ap (λ c. rounds k seq quota (with_round k seq quota s (pieces_from first (min 4 (suc (suc (suc (suc m))))))) (pieces_from (first + 4) c)) rest

-- one more round
pub next_round : (k : ℕ) (seq : Sequence) (quota r : ℕ) (b : Best) (ends more : List PieceEnd) (whole : Searched) → IsBest seq b → Ran k seq quota b.arrangement (r * 4) (round_length (r * 4) seq.scalars) more
    → rounds k seq quota (searched_by b ends) (pieces_from (r * 4) (seq.scalars - r * 4)) ≡ whole
    → rounds k seq quota (searched_by (fold offered b more) (ends ++ more)) (pieces_from ((r + 1) * 4) (seq.scalars - (r + 1) * 4)) ≡ whole
next_round k seq quota r b ends more whole h ran rest =
    let next : (r + 1) * 4 ≡ r * 4 + 4 = omega arith in
    let less : seq.scalars - (r + 1) * 4 ≡ seq.scalars - r * 4 - 4 = omega arith in
    ap (λ s. rounds k seq quota s (pieces_from ((r + 1) * 4) (seq.scalars - (r + 1) * 4))) (round_is k seq quota (r * 4) (round_length (r * 4) seq.scalars) b ends more h ran)
    ∙ ap₂ (λ a c. rounds k seq quota (with_round k seq quota (searched_by b ends) (pieces_from (r * 4) (round_length (r * 4) seq.scalars))) (pieces_from a c)) next less
    ∙ sym (rounds_step k seq quota (searched_by b ends) (r * 4) (seq.scalars - r * 4))
    ∙ rest

pub ran_length : (k : ℕ) (seq : Sequence) (quota : ℕ) (best : List (List ℕ)) (first count : ℕ) (ends : List PieceEnd) → Ran k seq quota best first count ends → length ends ≡ count
ran_length k seq quota best first count ends ran =
    sym (length-map ends visited_of) ∙ ap length ran.visits ∙ length-map (pieces_from first count) (piece_end k seq quota best) ∙ length-map (range_with_len first count) (with_scalar root) ∙ length-range_with_len first count

pub first_round : (k : ℕ) (seq : Sequence) (quota : ℕ) (b : Best) (ends : List PieceEnd) → ends ≡ [] → rounds k seq quota (searched_by b ends) (pieces_from 0 (seq.scalars - 0)) ≡ rounds k seq quota (record { best = b.arrangement; ends = [] }) (children k seq root)
first_round k seq quota b ends none =
    let all : seq.scalars - 0 ≡ seq.scalars = omega arith in
    ap₂ (λ es c. rounds k seq quota (searched_by b es) (pieces_from 0 c)) none all
    ∙ ap (rounds k seq quota (record { best = b.arrangement; ends = [] })) (sym (children_of_root k seq))

-- the answer that the ends make
answer_is : (seq : Sequence) (quota : ℕ) (best : List (List ℕ)) (cost : ℕ) (marks : List Mark) (piece : ℕ) (es : List PieceEnd) → cost ≡ arranged_cost seq best → answer_by quota best cost (outcome_of marks piece es) ≡ answer_of seq quota best marks piece (map visited_of es)
answer_is seq quota best cost marks piece [] is = ap (λ c. Certified best c marks) is
answer_is seq quota best cost marks piece (e ∷ es) is = by e.finished (answer_is seq quota best cost (marks ++ e.log) (suc piece) es is)
  where
    by : (t : Bool) → answer_by quota best cost (outcome_of (marks ++ e.log) (suc piece) es) ≡ answer_of seq quota best (marks ++ e.log) (suc piece) (map visited_of es)
        → answer_by quota best cost (cond t (outcome_of (marks ++ e.log) (suc piece) es) (Rattle.lay_search.specs.declared.closing.Outcome.TheVariants.Unfinished piece e.log)) ≡ cond t (answer_of seq quota best (marks ++ e.log) (suc piece) (map visited_of es)) (Exhausted best (arranged_cost seq best) piece quota e.log)
    by true rest = rest
    by false rest = ap (λ c. Exhausted best c piece quota e.log) is

pub last_round : (k : ℕ) (seq : Sequence) (quota r : ℕ) (b : Best) (ends : List PieceEnd) (start : List (List ℕ)) → IsBest seq b → seq.scalars ≤ r * 4
    → rounds k seq quota (searched_by b ends) (pieces_from (r * 4) (seq.scalars - r * 4)) ≡ rounds k seq quota (record { best = start; ends = [] }) (children k seq root)
    → answer_by quota b.arrangement b.cost (outcome_of (Branched ∷ []) 0 ends) ≡ search_pieces k seq quota start
last_round k seq quota r b ends start h le rest =
    let none : seq.scalars - r * 4 ≡ 0 = omega (arith, le) in
    let all : searched_by b ends ≡ rounds k seq quota (record { best = start; ends = [] }) (children k seq root) =
    sym (none_more k seq quota (searched_by b ends)) ∙ ap (λ c. rounds k seq quota (searched_by b ends) (pieces_from (r * 4) c)) (sym none) ∙ rest in
    answer_is seq quota b.arrangement b.cost (Branched ∷ []) 0 ends h.cost ∙ ap (answer_with k seq quota) all
