-- The lists of an arrangement as a string, and back.
use Rattle.std.proofs.Common.{◌≡◌, ℕ, zero, suc, ◌+◌, ◌<◌, ◌≤◌, List, [], ◌∷◌, ◌++◌, length, take, get_or, refl, ap, ap₂, sym, subst, ◌∙◌, arith, append_assoc, length-append}
use Rattle.std.specs.Prelude.{◌==◌, All}
use Rattle.std.specs.List.{concat, join_with_byte}
use Rattle.std.proofs.lemmas.List.{take_more, length-take-le}
use Rattle.std.proofs.lemmas.List.Splits.{slice_split_none, slice_split_at}
use Rattle.std.proofs.lemmas.List.Elements.{All-head, All-tail, All-take}
use Rattle.lay_model.specs.Arrangements.{Arranges}
use Rattle.lay_cost.specs.Parts.{lists_of, close}
use Rattle.lay_cost.proofs.Arranged.{small_lists}
use Rattle.lay_node.proofs.Strung.{no_close}

abbrev pub joined_lists : List (List ℕ) → List ℕ
joined_lists ls = join_with_byte 255 ls

pub lists_joined : (ls : List (List ℕ)) → All (λ l. All (λ s. s < 64) l) ls → 1 ≤ length ls → lists_of (joined_lists ls) ≡ ls
lists_joined [] all some = absurd (omega (arith, some))
lists_joined (l ∷ []) all some = slice_split_none (λ c. c == close) l (no_close l (All-head (λ m. All (λ s. s < 64) m) l [] all))
lists_joined (l ∷ k ∷ ks) all some =
    slice_split_at (λ c. c == close) l close (joined_lists (k ∷ ks)) (no_close l (All-head (λ m. All (λ s. s < 64) m) l (k ∷ ks) all)) refl
    ∙ ap (λ r. l ∷ r) (lists_joined (k ∷ ks) (All-tail (λ m. All (λ s. s < 64) m) l (k ∷ ks) all) (omega arith))

join_more : (ls : List (List ℕ)) (l : List ℕ) → 1 ≤ length ls → joined_lists (ls ++ (l ∷ [])) ≡ joined_lists ls ++ (255 ∷ l)
join_more [] l some = absurd (omega (arith, some))
join_more (k ∷ []) l some = refl
join_more (k ∷ m ∷ ms) l some = ap (λ r. k ++ (255 ∷ r)) (join_more (m ∷ ms) l (omega arith)) ∙ sym (append_assoc k (255 ∷ joined_lists (m ∷ ms)) (255 ∷ l))

join_some : (ls : List (List ℕ)) → All (λ l. 1 ≤ length l) ls → 1 ≤ length ls → 1 ≤ length (joined_lists ls)
join_some [] all some = absurd (omega (arith, some))
join_some (k ∷ []) all some = All-head (λ l. 1 ≤ length l) k [] all
join_some (k ∷ m ∷ ms) all some = omega (arith, All-head (λ l. 1 ≤ length l) k (m ∷ ms) all, length-append k (255 ∷ joined_lists (m ∷ ms)))

-- one more list, behind a close
pub join_next : (ls : List (List ℕ)) (i : ℕ) (string pushed new item xs : List ℕ) → i < length ls → string ≡ joined_lists (take i ls) → 1 ≤ length string → pushed ≡ string ++ (255 ∷ []) → new ≡ pushed ++ xs → xs ≡ item → item ≡ get_or ls i item → new ≡ joined_lists (take (i + 1) ls)
join_next ls zero string pushed new item xs lt is some push extend e read = absurd (omega (arith, some, ap length is))
join_next ls (suc i) string pushed new item xs lt is some push extend e read =
    let more : 1 ≤ length (take (suc i) ls) = omega (arith, length-take-le (suc i) ls (omega (arith, lt))) in
    extend ∙ ap₂ (λ p x. p ++ x) (push ∙ ap (λ s. s ++ (255 ∷ [])) is) (e ∙ read) ∙ append_assoc (joined_lists (take (suc i) ls)) (255 ∷ []) (get_or ls (suc i) item) ∙ sym (join_more (take (suc i) ls) (get_or ls (suc i) item) more) ∙ ap joined_lists (sym (take_more ls (suc i) item lt))

-- the first one
pub join_first : (ls : List (List ℕ)) (i : ℕ) (string new item xs : List ℕ) → All (λ l. 1 ≤ length l) ls → i < length ls → string ≡ joined_lists (take i ls) → length string ≡ 0 → new ≡ string ++ xs → xs ≡ item → item ≡ get_or ls i item → new ≡ joined_lists (take (i + 1) ls)
join_first ls zero string new item xs all lt is none extend e read = extend ∙ ap₂ (λ s x. s ++ x) is (e ∙ read) ∙ ap joined_lists (sym (take_more ls zero item lt))
join_first ls (suc i) string new item xs all lt is none extend e read = absurd (omega (arith, none, ap length is, join_some (take (suc i) ls) (All-take (λ l. 1 ≤ length l) (suc i) ls all) (omega (arith, length-take-le (suc i) ls (omega (arith, lt))))))

pub some_lists : (n : ℕ) (ls : List (List ℕ)) → Arranges n ls → 1 ≤ n → 1 ≤ length ls
some_lists n [] arranges some = absurd (omega (arith, some, arranges.all))
some_lists n (l ∷ ls) arranges some = omega arith

pub lists_of_arrangement : (n : ℕ) (ls : List (List ℕ)) → Arranges n ls → 1 ≤ n → lists_of (joined_lists ls) ≡ ls
lists_of_arrangement n ls arranges some = lists_joined ls (small_lists n ls arranges) (some_lists n ls arranges some)

pub arranges_itself : (n : ℕ) (ls : List (List ℕ)) → Arranges n ls → Arranges (length (concat ls)) ls
arranges_itself n ls h = subst (λ m. Arranges m ls) (sym h.all) h
