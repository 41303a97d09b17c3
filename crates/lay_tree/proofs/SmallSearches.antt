-- A search over few scalars ends within a large budget.
use Rattle.std.proofs.Common.{◌≡◌, ◌<◌, ◌≤◌, ◌-◌, ◌+◌, ◌*◌, ◌∙◌, ◌++◌, ℕ, zero, suc, List, [], ◌∷◌, Bool, true, false, refl, length, map, ap, sym, subst, inl, inr, arith, lit≤, append-nil}
use Rattle.std.specs.Prelude.{◌⊎◌, ◌||◌, ◌/◌, filter, sum_by}
use Rattle.std.specs.List.{range_with_len}
use Rattle.std.proofs.lemmas.List.{length-map}
use Rattle.std.proofs.lemmas.List.FromFn.{length-range_with_len}
use Rattle.std.proofs.lemmas.List.Sums.{sum_by-cons}
use Rattle.lay_model.specs.Sequences.{Sequence}
use Rattle.lay_cost.specs.Cost.{arranged_cost}
use Rattle.lay_cost.specs.Parts.{Node}
use Rattle.lay_tree.specs.declared.answer.Mark.{Mark}
use Rattle.lay_tree.specs.declared.answer.Mark.TheVariants.{Branched}
use Rattle.lay_tree.specs.Tree.{root, with_scalar, all_scalars, unplaced, is_complete, children}
use Rattle.lay_tree.specs.Bound.{bound}
use Rattle.lay_tree.specs.Greedy.{starting_lists}
use Rattle.lay_tree.specs.Marked.{HasFewNodes}
use Rattle.lay_tree.specs.Search.{reaches, Visited, rounds, answer_of, quota_of, search_from, search_answer, is_certified}
use Rattle.lay_tree.proofs.Members.{IsIn, of_map, in_map, in_range}
use Rattle.lay_tree.proofs.AnswerLemmas.{ArePieces, AllFinished, searched}
use Rattle.lay_tree.proofs.Sizes.{opened_size, size, scalar_size, visit_ends, counted, root_alone, root_size}

-- at the root no scalar is placed
kept : (xs : List ℕ) → filter (λ s. true) xs ≡ xs
kept [] = refl
kept (x ∷ xs) = ap (λ ys. x ∷ ys) (kept xs)

root_unplaced : (seq : Sequence) → unplaced seq root ≡ all_scalars seq
root_unplaced seq = kept (all_scalars seq)

pub root_children : (k : ℕ) (seq : Sequence) → children k seq root ≡ map (with_scalar root) (all_scalars seq)
root_children k seq = append-nil (map (with_scalar root) (unplaced seq root)) ∙ ap (map (with_scalar root)) (root_unplaced seq)

pub many_pieces : (k : ℕ) (seq : Sequence) → length (children k seq root) ≡ seq.scalars
many_pieces k seq = ap length (root_children k seq) ∙ length-map (all_scalars seq) (with_scalar root) ∙ length-range_with_len 0 seq.scalars

-- a piece
piece_size : (k : ℕ) (seq : Sequence) (u : ℕ) (n : Node) → seq.scalars ≡ suc u → IsIn n (children k seq root) → size k seq n ≡ opened_size u (k - 1)
piece_size k seq u n many i =
    let o = of_map (with_scalar root) n (all_scalars seq) (subst (λ ns. IsIn n ns) (root_children k seq) i) in
    let long : length (unplaced seq root) ≡ suc u = ap length (root_unplaced seq) ∙ length-range_with_len 0 seq.scalars ∙ many
    in ap (size k seq) o.is ∙ scalar_size k seq root u o.from long (subst (λ ss. IsIn o.from ss) (sym (root_unplaced seq)) o.inside)

pieces_end : (k : ℕ) (seq : Sequence) (quota most : ℕ) (ns : List Node) (vs : List Visited) → ArePieces k seq quota most ns vs → ((n : Node) → IsIn n ns → size k seq n ≤ quota) → AllFinished vs
pieces_end k seq quota most [] [] a small = tt
pieces_end k seq quota most [] (v ∷ vs) a small = absurd a
pieces_end k seq quota most (n ∷ ns) [] a small = absurd a
pieces_end k seq quota most (n ∷ ns) (v ∷ vs) a small =
    let one : sum_by (size k seq) (n ∷ []) ≤ quota = omega (arith, sum_by-cons (size k seq) n [], small n (inl refl)) in
    let ends = visit_ends k seq quota (n ∷ []) a.0.before one
    in (ap (λ (w : Visited). w.finished) a.0.is ∙ ends, pieces_end k seq quota most ns vs a.1 (λ m i. small m (inr i)))

certified_where : (seq : Sequence) (quota : ℕ) (best : List (List ℕ)) (marks : List Mark) (piece : ℕ) (vs : List Visited) → AllFinished vs → is_certified (answer_of seq quota best marks piece vs) ≡ true
certified_where seq quota best marks piece [] finished = refl
certified_where seq quota best marks piece (v ∷ vs) finished = rw (finished.0, answer_of) (certified_where seq quota best (marks ++ v.marks) (suc piece) vs finished.1)

-- a quota for all nodes of a piece
small_piece : (k : ℕ) (seq : Sequence) (quota : ℕ) (n : Node) → ((u : ℕ) → seq.scalars ≡ suc u → opened_size u (k - 1) ≤ quota) → IsIn n (children k seq root) → (m : ℕ) → seq.scalars ≡ m → size k seq n ≤ quota
small_piece k seq quota n enough i zero none = absurd (subst (λ ns. IsIn n ns) (root_children k seq ∙ ap (λ c. map (with_scalar root) (range_with_len 0 c)) none) i)
small_piece k seq quota n enough i (suc u) many = omega (arith, piece_size k seq u n many i, enough u many)

pub certified_with : (k : ℕ) (seq : Sequence) (budget : ℕ) (start : List (List ℕ)) → ((u : ℕ) → seq.scalars ≡ suc u → opened_size u (k - 1) ≤ quota_of budget seq.scalars) → is_certified (search_from k seq budget start) ≡ true
certified_with k seq budget start enough = go (reaches (bound k seq root) (arranged_cost seq start) || is_complete seq root) refl
  where
    go : (b : Bool) → (reaches (bound k seq root) (arranged_cost seq start) || is_complete seq root) ≡ b → is_certified (search_from k seq budget start) ≡ true
    go true is = rw (is, search_from) refl
    go false is =
        let quota = quota_of budget (length (children k seq root)) in
        let s = rounds k seq quota (record { best = start; ends = [] }) (children k seq root) in
        let same : quota_of budget seq.scalars ≡ quota = ap (quota_of budget) (sym (many_pieces k seq)) in
        let large : (u : ℕ) → seq.scalars ≡ suc u → opened_size u (k - 1) ≤ quota = λ u many. subst (λ q. opened_size u (k - 1) ≤ q) same (enough u many) in
        let finished = pieces_end k seq quota (arranged_cost seq start) (children k seq root) s.ends (searched k seq quota start).pieces (λ n i. small_piece k seq quota n large i seq.scalars refl)
        in rw (is, search_from) (certified_where seq quota s.best (Branched ∷ []) 0 s.ends finished)

-- up to eight scalars on one register
eight : (u : ℕ) → u < 8 → opened_size u 0 ≤ 13700
eight zero lt = lit≤ tt
eight (suc zero) lt = lit≤ tt
eight (suc (suc zero)) lt = lit≤ tt
eight (suc (suc (suc zero))) lt = lit≤ tt
eight (suc (suc (suc (suc zero)))) lt = lit≤ tt
eight (suc (suc (suc (suc (suc zero))))) lt = lit≤ tt
eight (suc (suc (suc (suc (suc (suc zero)))))) lt = lit≤ tt
eight (suc (suc (suc (suc (suc (suc (suc zero))))))) lt = lit≤ tt
eight (suc (suc (suc (suc (suc (suc (suc (suc u)))))))) lt = absurd (omega (arith, lt))

-- up to six on up to four: each line is a number of scalars, and each column a number of closes
sixth : (u : ℕ) → u < 6 → (opened_size u 0 ≤ 7322) × (opened_size u 1 ≤ 7322) × (opened_size u 2 ≤ 7322) × (opened_size u 3 ≤ 7322)
sixth zero lt = (lit≤ tt, lit≤ tt, lit≤ tt, lit≤ tt)
sixth (suc zero) lt = (lit≤ tt, lit≤ tt, lit≤ tt, lit≤ tt)
sixth (suc (suc zero)) lt = (lit≤ tt, lit≤ tt, lit≤ tt, lit≤ tt)
sixth (suc (suc (suc zero))) lt = (lit≤ tt, lit≤ tt, lit≤ tt, lit≤ tt)
sixth (suc (suc (suc (suc zero)))) lt = (lit≤ tt, lit≤ tt, lit≤ tt, lit≤ tt)
sixth (suc (suc (suc (suc (suc zero))))) lt = (lit≤ tt, lit≤ tt, lit≤ tt, lit≤ tt)
sixth (suc (suc (suc (suc (suc (suc u)))))) lt = absurd (omega (arith, lt))

six : (u c : ℕ) → u < 6 → c < 4 → opened_size u c ≤ 7322
six u zero few less = (sixth u few).0
six u (suc zero) few less = (sixth u few).1
six u (suc (suc zero)) few less = (sixth u few).2
six u (suc (suc (suc zero))) few less = (sixth u few).3
six u (suc (suc (suc (suc c)))) few less = absurd (omega (arith, less))

-- each piece's part of the budget
part : (budget u : ℕ) → u < 8 → 200000 ≤ budget → 25000 ≤ budget / suc u
part budget zero lt large = omega (arith, large)
part budget (suc zero) lt large = omega (arith, large)
part budget (suc (suc zero)) lt large = omega (arith, large)
part budget (suc (suc (suc zero))) lt large = omega (arith, large)
part budget (suc (suc (suc (suc zero)))) lt large = omega (arith, large)
part budget (suc (suc (suc (suc (suc zero))))) lt large = omega (arith, large)
part budget (suc (suc (suc (suc (suc (suc zero)))))) lt large = omega (arith, large)
part budget (suc (suc (suc (suc (suc (suc (suc zero))))))) lt large = omega (arith, large)
part budget (suc (suc (suc (suc (suc (suc (suc (suc u)))))))) lt large = absurd (omega (arith, lt))

pub few_are_certified : (k : ℕ) (seq : Sequence) (budget : ℕ) → 200000 ≤ budget → ((seq.scalars ≤ 8) × (k ≤ 1)) ⊎ ((seq.scalars ≤ 6) × (k ≤ 4)) → is_certified (search_answer k seq budget) ≡ true
few_are_certified k seq budget large few = certified_with k seq budget (starting_lists k seq) (λ u many. enough u many few)
  where
    quota : (u : ℕ) → seq.scalars ≡ suc u → u < 8 → 25000 ≤ quota_of budget seq.scalars
    quota u many lt = subst (λ m. 25000 ≤ quota_of budget m) (sym many) (omega (arith, part budget u lt large))

    enough : (u : ℕ) → seq.scalars ≡ suc u → ((seq.scalars ≤ 8) × (k ≤ 1)) ⊎ ((seq.scalars ≤ 6) × (k ≤ 4)) → opened_size u (k - 1) ≤ quota_of budget seq.scalars
    enough u many (inl h) =
        let lt : u < 8 = omega (arith, many, h.0) in
        let none : k - 1 ≡ 0 = omega (arith, h.1)
        in subst (λ c. opened_size u c ≤ quota_of budget seq.scalars) (sym none) (omega (arith, eight u lt, quota u many lt))
    enough u many (inr h) = omega (arith, six u (k - 1) (omega (arith, many, h.0)) (omega (arith, h.1)), quota u many (omega (arith, many, h.0)))

-- the nodes of the whole tree, and of a piece, by the number of scalars that isn't 0
whole_eight : (u : ℕ) → u < 8 → suc (suc u * opened_size u 0) ≤ 109601
whole_eight zero lt = lit≤ tt
whole_eight (suc zero) lt = lit≤ tt
whole_eight (suc (suc zero)) lt = lit≤ tt
whole_eight (suc (suc (suc zero))) lt = lit≤ tt
whole_eight (suc (suc (suc (suc zero)))) lt = lit≤ tt
whole_eight (suc (suc (suc (suc (suc zero))))) lt = lit≤ tt
whole_eight (suc (suc (suc (suc (suc (suc zero)))))) lt = lit≤ tt
whole_eight (suc (suc (suc (suc (suc (suc (suc zero))))))) lt = lit≤ tt
whole_eight (suc (suc (suc (suc (suc (suc (suc (suc u)))))))) lt = absurd (omega (arith, lt))

times_most : (u size most : ℕ) → u < 6 → size ≤ most → suc (suc u * size) ≤ suc (6 * most)
times_most zero size most lt le = omega (arith, le)
times_most (suc zero) size most lt le = omega (arith, le)
times_most (suc (suc zero)) size most lt le = omega (arith, le)
times_most (suc (suc (suc zero))) size most lt le = omega (arith, le)
times_most (suc (suc (suc (suc zero)))) size most lt le = omega (arith, le)
times_most (suc (suc (suc (suc (suc zero))))) size most lt le = omega (arith, le)
times_most (suc (suc (suc (suc (suc (suc u)))))) size most lt le = absurd (omega (arith, lt))

-- of no scalars there is the root alone
nothing_small : (k : ℕ) (seq : Sequence) (in_tree in_piece : ℕ) → seq.scalars ≡ 0 → 1 ≤ in_tree → HasFewNodes k seq in_tree in_piece
nothing_small k seq in_tree in_piece none some = record {
  tree = record { count = size k seq root; nodes = counted k seq root; few = omega (arith, root_alone k seq none, some) };
  pieces = λ s lt. absurd (omega (arith, lt, none));
}

small_tree : (k : ℕ) (seq : Sequence) (in_tree in_piece u : ℕ) → seq.scalars ≡ suc u → suc (suc u * opened_size u (k - 1)) ≤ in_tree → opened_size u (k - 1) ≤ in_piece → HasFewNodes k seq in_tree in_piece
small_tree k seq in_tree in_piece u many whole each = record {
  tree = record { count = size k seq root; nodes = counted k seq root; few = omega (arith, root_size k seq u many, whole) };
  pieces = λ s lt.
      let piece = with_scalar root s in
      let inside : IsIn piece (children k seq root) = subst (IsIn piece) (sym (root_children k seq)) (in_map (with_scalar root) s (all_scalars seq) (in_range s 0 seq.scalars (omega arith) (omega (arith, lt))))
      in record { count = size k seq piece; nodes = counted k seq piece; few = omega (arith, piece_size k seq u piece many inside, each) };
}

pub few_on_one : (k : ℕ) (seq : Sequence) → seq.scalars ≤ 8 → k ≤ 1 → HasFewNodes k seq 109601 13700
few_on_one k seq few one = go seq.scalars refl
  where
    none : k - 1 ≡ 0
    none = omega (arith, one)

    go : (m : ℕ) → seq.scalars ≡ m → HasFewNodes k seq 109601 13700
    go zero e = nothing_small k seq 109601 13700 e (lit≤ tt)
    go (suc u) e =
        let lt : u < 8 = omega (arith, e, few)
        in small_tree k seq 109601 13700 u e (subst (λ c. suc (suc u * opened_size u c) ≤ 109601) (sym none) (whole_eight u lt)) (subst (λ c. opened_size u c ≤ 13700) (sym none) (eight u lt))

pub few_on_more : (k : ℕ) (seq : Sequence) → seq.scalars ≤ 6 → k ≤ 4 → HasFewNodes k seq 43933 7322
few_on_more k seq few registers = go seq.scalars refl
  where
    go : (m : ℕ) → seq.scalars ≡ m → HasFewNodes k seq 43933 7322
    go zero e = nothing_small k seq 43933 7322 e (lit≤ tt)
    go (suc u) e =
        let lt : u < 6 = omega (arith, e, few) in
        let each = six u (k - 1) lt (omega (arith, registers))
        in small_tree k seq 43933 7322 u e (times_most u (opened_size u (k - 1)) 7322 lt each) each
