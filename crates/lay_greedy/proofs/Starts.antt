-- The three layouts are arrangements, and the best of them is the starting one.
use Rattle.std.proofs.Common.{◌≡◌, ◌<◌, ◌≤◌, ◌+◌, ◌∙◌, ◌++◌, ℕ, List, [], ◌∷◌, Bool, not, refl, length, get_or, take, map, ap, ap₂, sym, subst, arith, append-nil}
use Rattle.std.specs.Prelude.{All, nat_lt, if◌then◌else◌}
use Rattle.std.specs.List.{concat}
use Rattle.std.proofs.lemmas.List.{map-append, take_more}
use Rattle.std.proofs.lemmas.List.Elements.{filter-append}
use Rattle.lay_model.specs.Sequences.{Sequence, IsSequence}
use Rattle.lay_model.specs.Arrangements.{Arranges}
use Rattle.lay_cost.specs.Cost.{arranged_cost}
use Rattle.lay_cost.proofs.Arranged.{each_list}
use Rattle.lay_tree.specs.Tree.{is_empty, all_scalars}
use Rattle.lay_tree.specs.Greedy.{filled, greedy_list, spread, starting_lists}
use Rattle.lay_tree.proofs.Bounds.{once_range}
use Rattle.lay_tree.proofs.Least.{costs_nothing}
use Rattle.lay_tree.proofs.Permuted.{permutes_itself}
use Rattle.lay_tree.proofs.GreedyLists.{greedy_permutes}
use Rattle.lay_tree.proofs.StartLists.{cheapest_stays, one_list_arranged, spread_arranged}
use Rattle.lay_greedy.proofs.Spreads.{spread_small}

-- lists that arrange so many scalars have so many
pub itself : (n : ℕ) (lists : List (List ℕ)) → Arranges n lists → Arranges (length (concat lists)) lists
itself n lists h = subst (λ m. Arranges m lists) (sym h.all) h

pub one_itself : (n : ℕ) (list : List ℕ) → Arranges n (list ∷ []) → Arranges (length list) (list ∷ [])
one_itself n list h = subst (λ m. Arranges m (list ∷ [])) (sym h.all ∙ ap length (append-nil list)) h

pub greedy_arranges : (seq : Sequence) → IsSequence seq → 1 ≤ seq.scalars → Arranges seq.scalars (greedy_list seq (all_scalars seq) ∷ [])
greedy_arranges seq sequence some = (one_list_arranged 1 seq (greedy_list seq (all_scalars seq)) sequence (omega arith) some (greedy_permutes seq (all_scalars seq) (once_range 0 seq.scalars))).arranges

pub rising_arranges : (seq : Sequence) → IsSequence seq → 1 ≤ seq.scalars → Arranges seq.scalars (all_scalars seq ∷ [])
rising_arranges seq sequence some = (one_list_arranged 1 seq (all_scalars seq) sequence (omega arith) some (permutes_itself (all_scalars seq) (once_range 0 seq.scalars))).arranges

pub spread_arranges : (k : ℕ) (seq : Sequence) → IsSequence seq → 1 ≤ k → Arranges seq.scalars (map (greedy_list seq) (filled (spread k seq)))
spread_arranges k seq sequence some = (spread_arranged k seq sequence some).arranges

pub spread_lists_small : (k : ℕ) (seq : Sequence) → 1 ≤ k → seq.scalars ≤ 64 → All (λ list. All (λ s. s < 64) list) (spread k seq)
spread_lists_small k seq some few = each_list (λ s. s < 64) (spread k seq) (spread_small k seq some few)

-- the greedy lists of one list more
filled_some : (list : List ℕ) → 1 ≤ length list → filled (list ∷ []) ≡ list ∷ []
filled_some [] some = absurd (omega (arith, some))
filled_some (s ∷ ss) some = refl

filled_none : (list : List ℕ) → length list ≡ 0 → filled (list ∷ []) ≡ []
filled_none [] none = refl
filled_none (s ∷ ss) none = absurd (omega (arith, none))

abbrev has_scalars : List ℕ → Bool
has_scalars list = not (is_empty list)

filled_more : (lists : List (List ℕ)) (i : ℕ) → i < length lists → filled (take (i + 1) lists) ≡ filled (take i lists) ++ filled (get_or lists i [] ∷ [])
filled_more lists i lt = ap filled (take_more lists i [] lt) ∙ filter-append has_scalars (take i lists) (get_or lists i [] ∷ [])

pub greedy_more : (seq : Sequence) (lists state : List (List ℕ)) (i : ℕ) (list greedy : List ℕ) → i < length lists → list ≡ get_or lists i [] → 1 ≤ length list → greedy ≡ greedy_list seq list → state ≡ map (greedy_list seq) (filled (take i lists)) → state ++ (greedy ∷ []) ≡ map (greedy_list seq) (filled (take (i + 1) lists))
greedy_more seq lists state i list greedy lt read some is so_far =
    ap₂ (λ front l. front ++ (l ∷ [])) so_far is
    ∙ (sym (map-append (greedy_list seq) (filled (take i lists)) (list ∷ []))
    ∙ ap (map (greedy_list seq)) (ap (λ back. filled (take i lists) ++ back) (sym (filled_some list some) ∙ ap (λ l. filled (l ∷ [])) read) ∙ sym (filled_more lists i lt)))

pub greedy_same : (seq : Sequence) (lists state : List (List ℕ)) (i : ℕ) (list : List ℕ) → i < length lists → list ≡ get_or lists i [] → length list ≡ 0 → state ≡ map (greedy_list seq) (filled (take i lists)) → state ≡ map (greedy_list seq) (filled (take (i + 1) lists))
greedy_same seq lists state i list lt read none so_far =
    so_far ∙ ap (map (greedy_list seq)) (sym (append-nil (filled (take i lists))) ∙ (ap (λ back. filled (take i lists) ++ back) (sym (filled_none list none) ∙ ap (λ l. filled (l ∷ [])) read) ∙ sym (filled_more lists i lt)))

-- without scalars nothing costs less than the first layout
pub starts_without : (k : ℕ) (seq : Sequence) → IsSequence seq → seq.scalars ≡ 0 → map (greedy_list seq) (filled (spread k seq)) ≡ starting_lists k seq
starts_without k seq sequence none =
    let first = map (greedy_list seq) (filled (spread k seq)) in
    let nothing : (lists : List (List ℕ)) → arranged_cost seq lists ≡ 0 = λ lists. costs_nothing seq lists sequence none
    in sym (cheapest_stays (arranged_cost seq) first ((greedy_list seq (all_scalars seq) ∷ []) ∷ (all_scalars seq ∷ []) ∷ []) (λ z. omega (arith, nothing first, nothing z)))

abbrev cheaper : Sequence → List (List ℕ) → List (List ℕ) → List (List ℕ)
cheaper seq first second = if nat_lt (arranged_cost seq second) (arranged_cost seq first) then second else first

pub best_of_three : (k : ℕ) (seq : Sequence) (first second third best last : List (List ℕ)) → first ≡ map (greedy_list seq) (filled (spread k seq)) → second ≡ greedy_list seq (all_scalars seq) ∷ [] → third ≡ all_scalars seq ∷ [] → best ≡ (if nat_lt (arranged_cost seq second) (arranged_cost seq first) then second else first) → last ≡ (if nat_lt (arranged_cost seq third) (arranged_cost seq best) then third else best) → last ≡ starting_lists k seq
best_of_three k seq first second third best last f s t b l = l ∙ ap₂ (cheaper seq) (b ∙ ap₂ (cheaper seq) f s) t
