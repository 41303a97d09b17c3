-- Two lists of blocks, compared block by block.
use Rattle.std.proofs.Common.{◌≡◌, ◌≢◌, ℕ, suc, ◌+◌, ◌<◌, ◌≤◌, Bool, true, false, cond, ◌&&◌, List, [], ◌∷◌, length, get_or, drop, map, slice_index, Option, Some, None, option_map, refl, ap, ap₂, sym, ◌∙◌, ⊎_elim, min, arith}
use Rattle.std.specs.Str.{bytes_eq}
use Rattle.std.proofs.lemmas.Bool.{cases_lt, ne_eqb, eq-eqb}
use Rattle.std.proofs.lemmas.List.{at_drop_more, drop_all, get_or-map, length-map}
use Rattle.lay_model.specs.Sequences.{Block}
use Rattle.lay_model.specs.Flat.{block_at}
use Rattle.cc_check.specs.Findings.{first_difference}

-- ---- one block

-- from an index on
word_more : (xs ys : List ℕ) (i : ℕ) → i < length xs → i < length ys → get_or xs i 0 ≡ get_or ys i 0 → bytes_eq (drop (i + 1) xs) (drop (i + 1) ys) ≡ bytes_eq (drop i xs) (drop i ys)
word_more xs ys i l m same =
    sym (
    at_drop_more (λ zs. bytes_eq zs (drop i ys)) xs i 0 l
    ∙ at_drop_more (λ zs. bytes_eq (get_or xs i 0 ∷ drop (i + 1) xs) zs) ys i 0 m
    ∙ ap (λ b. b && bytes_eq (drop (i + 1) xs) (drop (i + 1) ys)) (eq-eqb (get_or xs i 0) (get_or ys i 0) same)
    )

word_differs : (xs ys : List ℕ) (i : ℕ) → i < length xs → i < length ys → get_or xs i 0 ≢ get_or ys i 0 → bytes_eq (drop i xs) (drop i ys) ≡ false
word_differs xs ys i l m differ =
    at_drop_more (λ zs. bytes_eq zs (drop i ys)) xs i 0 l
    ∙ at_drop_more (λ zs. bytes_eq (get_or xs i 0 ∷ drop (i + 1) xs) zs) ys i 0 m
    ∙ ap (λ b. b && bytes_eq (drop (i + 1) xs) (drop (i + 1) ys)) (ne_eqb (get_or xs i 0) (get_or ys i 0) differ)

-- by a table of addresses
pub access_same : (table xs ys : List ℕ) (i a b : ℕ) → i < length xs → length xs ≡ length ys → a ≡ slice_index table (get_or xs i 0) → b ≡ get_or ys i 0 → a ≡ b
    → bytes_eq (drop (i + 1) (map (slice_index table) xs)) (drop (i + 1) ys) ≡ bytes_eq (drop i (map (slice_index table) xs)) (drop i ys)
access_same table xs ys i a b lt size is_a is_b same = word_more (map (slice_index table) xs) ys i (omega (arith, length-map xs (slice_index table))) (omega (arith, size)) (get_or-map (slice_index table) xs i 0 0 lt ∙ sym is_a ∙ same ∙ is_b)

pub access_differs : (table xs ys : List ℕ) (i a b : ℕ) → i < length xs → length xs ≡ length ys → a ≡ slice_index table (get_or xs i 0) → b ≡ get_or ys i 0 → (a ≡ b → ⊥)
    → bytes_eq (drop i (map (slice_index table) xs)) (drop i ys) ≡ false
access_differs table xs ys i a b lt size is_a is_b differ = word_differs (map (slice_index table) xs) ys i (omega (arith, length-map xs (slice_index table))) (omega (arith, size)) (λ e. differ (is_a ∙ sym (get_or-map (slice_index table) xs i 0 0 lt) ∙ e ∙ sym is_b))

-- ---- all blocks

abbrev Blocks : Type 0
Blocks = List (List ℕ)

-- counted from the first, where those before an index agree
abbrev pub difference_from : ℕ → Blocks → Blocks → Option ℕ
difference_from i xs ys = option_map (λ n. i + n) (first_difference (drop i xs) (drop i ys))

at_both : (xs ys : Blocks) (i : ℕ) (d : List ℕ) → i < length xs → i < length ys → first_difference (drop i xs) (drop i ys) ≡ cond (bytes_eq (get_or xs i d) (get_or ys i d)) (option_map suc (first_difference (drop (i + 1) xs) (drop (i + 1) ys))) (Some 0)
at_both xs ys i d l m = at_drop_more (λ zs. first_difference zs (drop i ys)) xs i d l ∙ at_drop_more (λ zs. first_difference (get_or xs i d ∷ drop (i + 1) xs) zs) ys i d m

one_behind : (i : ℕ) (found : Option ℕ) → option_map (λ n. i + 1 + n) found ≡ option_map (λ n. i + n) (option_map suc found)
one_behind i None = refl
one_behind i (Some n) = let e : i + 1 + n ≡ i + suc n = omega arith in ap Some e

pub block_more : (xs ys : Blocks) (i : ℕ) (d : List ℕ) → i < length xs → i < length ys → bytes_eq (get_or xs i d) (get_or ys i d) ≡ true → difference_from (i + 1) xs ys ≡ difference_from i xs ys
block_more xs ys i d l m same =
    one_behind i (first_difference (drop (i + 1) xs) (drop (i + 1) ys))
    ∙ ap (option_map (λ n. i + n)) (sym (at_both xs ys i d l m ∙ ap (λ b. cond b (option_map suc (first_difference (drop (i + 1) xs) (drop (i + 1) ys))) (Some 0)) same))

here : (i : ℕ) → Some (i + 0) ≡ Some i
here i = let e : i + 0 ≡ i = omega arith in ap Some e

pub block_differs : (xs ys : Blocks) (i : ℕ) (d : List ℕ) → i < length xs → i < length ys → bytes_eq (get_or xs i d) (get_or ys i d) ≡ false → Some i ≡ difference_from i xs ys
block_differs xs ys i d l m differ =
    sym (
    ap (option_map (λ n. i + n)) (at_both xs ys i d l m ∙ ap (λ b. cond b (option_map suc (first_difference (drop (i + 1) xs) (drop (i + 1) ys))) (Some 0)) differ)
    ∙ here i
    )

-- one side is over, and the other isn't
first_over : (xs ys : Blocks) (i : ℕ) → length xs ≤ i → i < length ys → Some i ≡ difference_from i xs ys
first_over xs ys i l m =
    sym (
    ap (option_map (λ n. i + n)) (ap (λ zs. first_difference zs (drop i ys)) (drop_all i xs l) ∙ at_drop_more (first_difference []) ys i [] m)
    ∙ here i
    )

second_over : (xs ys : Blocks) (i : ℕ) → i < length xs → length ys ≤ i → Some i ≡ difference_from i xs ys
second_over xs ys i l m =
    sym (
    ap (option_map (λ n. i + n)) (ap (first_difference (drop i xs)) (drop_all i ys m) ∙ at_drop_more (λ zs. first_difference zs []) xs i [] l)
    ∙ here i
    )

-- where all blocks of the shorter side agree
pub one_over : (xs ys : Blocks) (i common : ℕ) → common ≡ min (length xs) (length ys) → common ≤ i → i ≤ common → (length xs ≡ length ys → ⊥) → Some common ≡ difference_from i xs ys
one_over xs ys i common is le ge differ =
    let same : common ≡ i = omega arith in
    ap Some same ∙ ⊎_elim (λ lt. first_over xs ys i (omega (arith, lt)) (omega (arith, lt))) (λ more. second_over xs ys i (omega (arith, more)) (omega (arith, more))) (cases_lt (length xs) (length ys))

-- what is found of the blocks at an index
pub block_test : (table : List ℕ) (bs : List Block) (ws : Blocks) (i : ℕ) (w xs ys : List ℕ) (r : Bool) → i < length bs → xs ≡ (block_at bs i).accesses → w ≡ get_or ws i w → ys ≡ w → r ≡ bytes_eq (map (slice_index table) xs) ys
    → bytes_eq (get_or (map (λ b. map (slice_index table) b.accesses) bs) i w) (get_or ws i w) ≡ r
block_test table bs ws i w xs ys r lt is_xs is_w is_ys tested =
    let g : Block → List ℕ = λ b. map (slice_index table) b.accesses in
    ap₂ bytes_eq (get_or-map g bs i _ w lt ∙ ap (map (slice_index table)) (sym is_xs)) (sym is_w ∙ sym is_ys) ∙ sym tested
