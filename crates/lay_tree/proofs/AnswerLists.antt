-- The layout of an answer is an arrangement of the scalars in at most k lists.
use Rattle.std.proofs.Common.{◌≡◌, ◌<◌, ◌≤◌, ◌+◌, ◌∙◌, ◌++◌, ℕ, zero, suc, List, [], ◌∷◌, Bool, true, false, refl, length, map, ap, sym, subst, inl, inr, arith, append-nil, append_assoc}
use Rattle.std.specs.Prelude.{◌||◌}
use Rattle.std.specs.List.{concat}
use Rattle.std.proofs.lemmas.Bool.{cases_Bool, both_ways, ltb-true, false_from_ne_true, or_from, or_parts}
use Rattle.std.proofs.lemmas.List.{length-append}
use Rattle.std.proofs.lemmas.List.Folds.{concat-append}
use Rattle.lay_model.specs.Sequences.{Sequence, IsSequence}
use Rattle.lay_cost.specs.Placements.{has}
use Rattle.lay_cost.specs.Cost.{arranged_cost, IsArranged}
use Rattle.lay_cost.specs.Parts.{Node, node_lists}
use Rattle.lay_tree.specs.declared.answer.Mark.TheVariants.{Branched}
use Rattle.lay_tree.specs.Tree.{is_empty, root, with_scalar, with_close, unplaced, is_complete, children}
use Rattle.lay_tree.specs.Bound.{bound}
use Rattle.lay_tree.specs.Greedy.{starting_lists}
use Rattle.lay_tree.specs.Search.{reaches, Visited, visit, piece_end, Searched, with_round, rounds, quota_of, search_from, search_answer, answer_lists}
use Rattle.lay_tree.proofs.Members.{IsIn, IsOnce, in_front, in_back, in_either, of_map, in_range, of_range, of_has, has_of}
use Rattle.lay_tree.proofs.Nodes.{IsUnplaced, is_unplaced, IsChild, by_scalar, by_close, child_of, complete_has, incomplete, has_in_node}
use Rattle.lay_tree.proofs.Arranged.{unplaced_behind}
use Rattle.lay_tree.proofs.Permuted.{once_append, in_concat}
use Rattle.lay_tree.proofs.StartLists.{arranges_from, start_arranged}
use Rattle.lay_tree.proofs.Cheapest.{cheapest_is}
use Rattle.lay_tree.proofs.Visits.{by_first}
use Rattle.lay_tree.proofs.AnswerLemmas.{says_best}

-- a node that the search comes to
record IsGood (k : ℕ) (seq : Sequence) (n : Node) : Type 0 where
  closed_some : (list : List ℕ) → IsIn list n.closed → is_empty list ≡ false
  once : IsOnce (concat (node_lists n))
  below : (s : ℕ) → IsIn s (concat (node_lists n)) → s < seq.scalars
  few : length n.closed < k
  opened : is_empty n.open_list ≡ true → is_complete seq n ≡ false

good_root : (k : ℕ) (seq : Sequence) → 1 ≤ k → is_complete seq root ≡ false → IsGood k seq root
good_root k seq some unfinished = record { closed_some = λ list i. absurd i; once = tt; below = λ s i. absurd i; few = some; opened = λ e. unfinished }

pub lists_with_scalar : (n : Node) (s : ℕ) → concat (node_lists (with_scalar n s)) ≡ concat (node_lists n) ++ (s ∷ [])
lists_with_scalar n s =
    let longer = concat-append n.closed ((n.open_list ++ (s ∷ [])) ∷ []) ∙ ap (λ list. concat n.closed ++ list) (append-nil (n.open_list ++ (s ∷ []))) in
    let before = concat-append n.closed (n.open_list ∷ []) ∙ ap (λ list. concat n.closed ++ list) (append-nil n.open_list)
    in longer ∙ sym (append_assoc (concat n.closed) n.open_list (s ∷ [])) ∙ ap (λ list. list ++ (s ∷ [])) (sym before)

pub lists_with_close : (n : Node) → concat (node_lists (with_close n)) ≡ concat (node_lists n)
lists_with_close n = concat-append (node_lists n) ([] ∷ []) ∙ append-nil (concat (node_lists n))

placed_no_more : (seq : Sequence) (n : Node) (s : ℕ) → IsUnplaced seq n s → IsIn s (concat (node_lists n)) → ⊥
placed_no_more seq n s u i = both_ways (has (concat (node_lists n)) s) (has_in_node n s ∙ or_from (has (concat n.closed) s) (has n.open_list s) u.not_closed u.not_open) (has_of (concat (node_lists n)) s i)

pub not_empty_behind : (list : List ℕ) (s : ℕ) → is_empty (list ++ (s ∷ [])) ≡ false
not_empty_behind [] s = refl
not_empty_behind (t ∷ ts) s = refl

first_unplaced : (ss : List ℕ) → is_empty ss ≡ false → (P : Type 0) → ((s : ℕ) → IsIn s ss → P) → P
first_unplaced [] some P go = absurd (both_ways true some refl)
first_unplaced (s ∷ ss) some P go = go s (inl refl)

good_child : (k : ℕ) (seq : Sequence) (n child : Node) → IsGood k seq n → is_complete seq n ≡ false → IsChild k seq n child → IsGood k seq child
good_child k seq n _ good unfinished (by_scalar s u) =
    let lists = lists_with_scalar n s in
    record {
      closed_some = good.closed_some;
      once = subst (λ l. IsOnce l) (sym lists) (once_append (concat (node_lists n)) (s ∷ []) good.once ((λ i. i), tt) (λ t i j. elim j [ inl same ↦ placed_no_more seq n s u (subst (λ v. IsIn v (concat (node_lists n))) same i) | inr none ↦ none ]));
      below = λ t i. elim (in_either t (concat (node_lists n)) (s ∷ []) (subst (λ l. IsIn t l) lists i)) [
        | inl old ↦ good.below t old
        | inr now ↦ elim now [ inl same ↦ subst (λ v. v < seq.scalars) (sym same) u.below | inr none ↦ absurd none ]
      ];
      few = good.few;
      opened = λ e. absurd (both_ways _ (not_empty_behind n.open_list s) e);
    }
good_child k seq n _ good unfinished (by_close some left) =
    let lists = lists_with_close n in
    let longer : length (n.closed ++ (n.open_list ∷ [])) ≡ length n.closed + 1 = length-append n.closed (n.open_list ∷ []) in
    record {
      closed_some = λ list i. elim (in_either list n.closed (n.open_list ∷ []) i) [
        | inl old ↦ good.closed_some list old
        | inr now ↦ elim now [ inl same ↦ subst (λ l. is_empty l ≡ false) (sym same) some | inr none ↦ absurd none ]
      ];
      once = subst (λ l. IsOnce l) (sym lists) good.once;
      below = λ s i. good.below s (subst (λ l. IsIn s l) lists i);
      few = omega (arith, ltb-true (suc (length n.closed)) k left, longer);
      opened = λ e. first_unplaced (unplaced seq n) unfinished (is_complete seq (with_close n) ≡ false) (λ s i. incomplete seq (with_close n) s (unplaced_behind seq n.closed n.open_list s (is_unplaced seq n s i)));
    }

-- a complete one is an arrangement
good_complete : (k : ℕ) (seq : Sequence) (n : Node) → IsSequence seq → IsGood k seq n → is_complete seq n ≡ true → IsArranged seq k (node_lists n)
good_complete k seq n sequence good complete =
    let longer : length (node_lists n) ≡ length n.closed + 1 = length-append n.closed (n.open_list ∷ []) in
    let opened : is_empty n.open_list ≡ false = false_from_ne_true (is_empty n.open_list) (λ e. both_ways _ (good.opened e) complete) in
    record {
      arranges = arranges_from seq.scalars (node_lists n) sequence.few
          (λ list i. elim (in_either list n.closed (n.open_list ∷ []) i) [
            | inl old ↦ good.closed_some list old
            | inr now ↦ elim now [ inl same ↦ subst (λ l. is_empty l ≡ false) (sym same) opened | inr none ↦ absurd none ]
          ])
          (record {
            once = good.once;
            of = λ s i. in_range s 0 seq.scalars (omega arith) (omega (arith, good.below s i));
            all = λ s i. inside s (omega (arith, (of_range s 0 seq.scalars i).1));
          });
      few = omega (arith, longer, good.few);
    }
  where
    inside : (s : ℕ) → s < seq.scalars → IsIn s (concat (node_lists n))
    inside s lt = elim (cases_Bool (has (concat n.closed) s)) [
      | inl closed ↦ subst (λ l. IsIn s l) (sym (concat-append n.closed (n.open_list ∷ []))) (in_front s (concat n.closed) _ (of_has (concat n.closed) s closed))
      | inr out ↦ in_concat s n.open_list (node_lists n) (of_has n.open_list s (complete_has seq n s complete lt out)) (in_back n.open_list n.closed (n.open_list ∷ []) (inl refl))
    ]

abbrev AreGood : ℕ → Sequence → List Node → Type 0
AreGood k seq ns = (n : Node) → IsIn n ns → IsGood k seq n

good_children : (k : ℕ) (seq : Sequence) (n : Node) → IsGood k seq n → is_complete seq n ≡ false → AreGood k seq (children k seq n)
good_children k seq n good unfinished child i = good_child k seq n child good unfinished (child_of k seq n child i)

-- what a visit finds
visited_arranged : (k : ℕ) (seq : Sequence) (marks : ℕ) (ns : List Node) (best : List (List ℕ)) → IsSequence seq → AreGood k seq ns → IsArranged seq k best → IsArranged seq k (visit k seq marks ns best).best
visited_arranged k seq marks [] best sequence good arranged = arranged
visited_arranged k seq zero (n ∷ ns) best sequence good arranged = arranged
visited_arranged k seq (suc marks) (n ∷ ns) best sequence good arranged = by_first (λ v. IsArranged seq k v.best) k seq marks n ns best
    (λ is. visited_arranged k seq marks ns best sequence (λ m i. good m (inr i)) arranged)
    (λ less complete. visited_arranged k seq marks ns (node_lists n) sequence (λ m i. good m (inr i)) (good_complete k seq n sequence (good n (inl refl)) complete))
    (λ below unfinished. visited_arranged k seq marks (children k seq n ++ ns) best sequence
    (λ m i. elim (in_either m (children k seq n) ns i) [ inl child ↦ good_children k seq n (good n (inl refl)) unfinished m child | inr other ↦ good m (inr other) ]) arranged)

-- what rounds find
round_arranged : (k : ℕ) (seq : Sequence) (quota : ℕ) (s : Searched) (ns : List Node) → IsSequence seq → AreGood k seq ns → IsArranged seq k s.best → IsArranged seq k (with_round k seq quota s ns).best
round_arranged k seq quota s ns sequence good arranged =
    elim (cheapest_is (arranged_cost seq) s.best (map (λ (v : Visited). v.best) (map (piece_end k seq quota s.best) ns))) [
      | inl is ↦ subst (λ lists. IsArranged seq k lists) (sym is) arranged
      | inr i ↦
          let o = of_map (λ (v : Visited). v.best) _ (map (piece_end k seq quota s.best) ns) i in
          let p = of_map (piece_end k seq quota s.best) o.from ns o.inside in
          let visited = visited_arranged k seq quota (p.from ∷ []) s.best sequence (λ m j. elim j [ inl same ↦ subst (λ n. IsGood k seq n) (sym same) (good p.from p.inside) | inr none ↦ absurd none ]) arranged
          in subst (λ lists. IsArranged seq k lists) (sym o.is) (subst (λ (v : Visited). IsArranged seq k v.best) (sym p.is) visited)
    ]

rounds_arranged : (k : ℕ) (seq : Sequence) (quota : ℕ) (s : Searched) (ns : List Node) → IsSequence seq → AreGood k seq ns → IsArranged seq k s.best → IsArranged seq k (rounds k seq quota s ns).best
rounds_arranged k seq quota s [] sequence good arranged = round_arranged k seq quota s [] sequence good arranged
rounds_arranged k seq quota s (a ∷ []) sequence good arranged = round_arranged k seq quota s (a ∷ []) sequence good arranged
rounds_arranged k seq quota s (a ∷ b ∷ []) sequence good arranged = round_arranged k seq quota s (a ∷ b ∷ []) sequence good arranged
rounds_arranged k seq quota s (a ∷ b ∷ c ∷ []) sequence good arranged = round_arranged k seq quota s (a ∷ b ∷ c ∷ []) sequence good arranged
rounds_arranged k seq quota s (a ∷ b ∷ c ∷ d ∷ ns) sequence good arranged =
    rounds_arranged k seq quota (with_round k seq quota s (a ∷ b ∷ c ∷ d ∷ [])) ns sequence (λ n i. good n (inr (inr (inr (inr i)))))
    (round_arranged k seq quota s (a ∷ b ∷ c ∷ d ∷ []) sequence (λ n i. good n (in_front n (a ∷ b ∷ c ∷ d ∷ []) ns i)) arranged)

from_arranged : (k : ℕ) (seq : Sequence) (budget : ℕ) (start : List (List ℕ)) → IsSequence seq → 1 ≤ k → IsArranged seq k start → IsArranged seq k (answer_lists (search_from k seq budget start))
from_arranged k seq budget start sequence some arranged = go (reaches (bound k seq root) (arranged_cost seq start) || is_complete seq root) refl
  where
    go : (b : Bool) → (reaches (bound k seq root) (arranged_cost seq start) || is_complete seq root) ≡ b → IsArranged seq k (answer_lists (search_from k seq budget start))
    go true is = rw (is, search_from) arranged
    go false is =
        let quota = quota_of budget (length (children k seq root)) in
        let s = rounds k seq quota (record { best = start; ends = [] }) (children k seq root) in
        let unfinished : is_complete seq root ≡ false = (or_parts _ _ is).1 in
        let best = rounds_arranged k seq quota (record { best = start; ends = [] }) (children k seq root) sequence (good_children k seq root (good_root k seq some unfinished) unfinished) arranged
        in rw (is, search_from) (subst (λ lists. IsArranged seq k lists) (sym (says_best seq quota s.best (Branched ∷ []) 0 s.ends).0) best)

pub answer_arranged : (k : ℕ) (seq : Sequence) (budget : ℕ) → IsSequence seq → 1 ≤ k → IsArranged seq k (answer_lists (search_answer k seq budget))
answer_arranged k seq budget sequence some = from_arranged k seq budget (starting_lists k seq) sequence some (start_arranged k seq sequence some)
