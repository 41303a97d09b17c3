-- Pieces of a round, and those behind them.
use Rattle.std.proofs.Common.{◌≡◌, ℕ, zero, suc, ◌+◌, ◌-◌, ◌≤◌, List, ◌∷◌, ◌++◌, map, ap, ap₂, sym, ◌∙◌, arith}
use Rattle.std.specs.List.{range_with_len}
use Rattle.std.proofs.lemmas.List.{map-append}
use Rattle.std.proofs.lemmas.List.Elements.{All-append}
use Rattle.lay_model.specs.Sequences.{Sequence}
use Rattle.lay_tree.specs.declared.answer.PieceEnd.{PieceEnd}
use Rattle.lay_tree.specs.Tree.{root, with_scalar}
use Rattle.lay_tree.specs.Search.{piece_end}
use Rattle.lay_search.specs.Rounds.{visited_of, EndsWell, pieces_from, Ran}

range_joined : (a m n : ℕ) → range_with_len a (m + n) ≡ range_with_len a m ++ range_with_len (a + m) n
range_joined a zero n = let e : a ≡ a + 0 = omega arith in let none : 0 + n ≡ n = omega arith in ap (range_with_len a) none ∙ ap (λ x. range_with_len x n) e
range_joined a (suc m) n =
    let next : (a + 1) + m ≡ a + suc m = omega arith in
    let more : suc m + n ≡ suc (m + n) = omega arith in
    ap (range_with_len a) more ∙ ap (λ l. a ∷ l) (range_joined (a + 1) m n ∙ ap (λ x. range_with_len (a + 1) m ++ range_with_len x n) next)

pieces_joined : (first middle end : ℕ) → first ≤ middle → middle ≤ end → pieces_from first (end - first) ≡ pieces_from first (middle - first) ++ pieces_from middle (end - middle)
pieces_joined first middle end l u =
    let all : end - first ≡ (middle - first) + (end - middle) = omega (arith, l, u) in
    let behind : first + (middle - first) ≡ middle = omega (arith, l) in
    ap (pieces_from first) all
    ∙ ap (map (with_scalar root)) (range_joined first (middle - first) (end - middle))
    ∙ map-append (with_scalar root) (range_with_len first (middle - first)) (range_with_len (first + (middle - first)) (end - middle))
    ∙ ap (λ s. pieces_from first (middle - first) ++ pieces_from s (end - middle)) behind

-- two parts of a round are a part of it
pub ran_joined : (k : ℕ) (seq : Sequence) (quota : ℕ) (best : List (List ℕ)) (first middle end : ℕ) (lower upper : List PieceEnd)
    → first ≤ middle
    → middle ≤ end
    → Ran k seq quota best first (middle - first) lower
    → Ran k seq quota best middle (end - middle) upper
    → Ran k seq quota best first (end - first) (lower ++ upper)
ran_joined k seq quota best first middle end lower upper from to l u = record {
  visits = map-append visited_of lower upper
      ∙ ap₂ ◌++◌ l.visits u.visits
      ∙ sym (map-append (piece_end k seq quota best) (pieces_from first (middle - first)) (pieces_from middle (end - middle)))
      ∙ ap (map (piece_end k seq quota best)) (sym (pieces_joined first middle end from to));
  well = All-append (EndsWell seq) lower upper l.well u.well;
}
