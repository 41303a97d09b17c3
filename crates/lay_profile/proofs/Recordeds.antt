-- What a recorded run says of functions, one function more.
use Rattle.std.proofs.Common.{◌≡◌, ◌<◌, ◌≤◌, ◌+◌, ◌^◌, ◌++◌, ◌∙◌, ℕ, zero, suc, List, [], ◌∷◌, length, map, take, drop, sym, ap, subst, arith, append_assoc}
use Rattle.std.specs.Prelude.{All, slice_get, slice_index_or, Some, sum}
use Rattle.std.specs.List.{flat_map}
use Rattle.std.proofs.Math.Seq.{drop-append_seam, take-append_seam}
use Rattle.std.proofs.lemmas.List.{at_drop_more, length-map, map-append}
use Rattle.std.proofs.lemmas.List.Elements.{All-cons, All-head, All-nil, All-tail}
use Rattle.std.proofs.lemmas.List.Sums.{sum_by-cons, sum_by-le}
use Rattle.c25_isa.specs.Image.{Contents}
use Rattle.c25_isa.specs.MachineRun.{reset}
use Rattle.c25_isa.specs.State.{zero_start}
use Rattle.lay_model.specs.Sequences.{Block, Sequence, IsBlock, IsSequence}
use Rattle.lay_profile.specs.declared.shapes.Shaped.{Shaped}
use Rattle.lay_profile.specs.Entries.{entries_of}
use Rattle.lay_profile.specs.Recordings.{AreCounts, Recording, counts_of, listed}
use Rattle.lay_profile.specs.ShapedFunctions.{ArePlaced, IsPlaced}
use Rattle.lay_profile.specs.Weighing.{accesses_in}
use Rattle.lay_profile.proofs.Counts.{times_few}

abbrev pub places_in : List Shaped → List ℕ
places_in functions = flat_map (λ (s : Shaped). s.places.items) functions

abbrev pub accesses_of : List Shaped → List Sequence
accesses_of functions = map (λ (s : Shaped). s.accesses) functions

-- how often a run enters the block at an address
abbrev pub entry_count : Recording → ℕ → ℕ
entry_count r place = entries_of r.image.words r.input r.steps place

-- ---- the function of a number

at_index : {A : Type 0} (xs : List A) (i : ℕ) (x : A) → i < length xs → x ≡ slice_index_or xs i x → slice_get xs i ≡ Some x
at_index [] i x within is = absurd (omega (arith, within))
at_index (y ∷ ys) zero x within is = ap Some (sym is)
at_index (y ∷ ys) (suc i) x within is = at_index ys i x (omega (arith, within)) is

placed_here : (image : Contents) (functions : List Shaped) (i : ℕ) (s : Shaped) → ArePlaced image functions → i < length functions
    → s ≡ slice_index_or functions i s → IsPlaced image i s
placed_here image functions i s placed within is = placed i s (at_index functions i s within is)

counts_here : (r : Recording) (i : ℕ) (s : Shaped) → IsPlaced r.image i s → map (entry_count r) s.places.items ≡ counts_of r i
counts_here r i s placed = sym (ap (λ o. map (entry_count r) (listed o)) placed.places)

-- ---- counts that are split off

pub one_placed : (places : List ℕ) (functions : List Shaped) (i : ℕ) (s : Shaped) → i < length functions → s ≡ slice_index_or functions i s
    → (places ++ s.places.items) ++ places_in (drop (i + 1) functions) ≡ places ++ places_in (drop i functions)
one_placed places functions i s within is =
    append_assoc places s.places.items (places_in (drop (i + 1) functions))
    ∙ ap (λ x. places ++ places_in (x ∷ drop (i + 1) functions)) is
    ∙ sym (at_drop_more (λ l. places ++ places_in l) functions i s within)

module _ (e : ℕ → ℕ) (functions : List Shaped) (i : ℕ) (s : Shaped) (rest : List ℕ)
    (within : i < length functions) (here : s ≡ slice_index_or functions i s) (is : rest ≡ map e (places_in (drop i functions))) where
  cut : rest ≡ map e s.places.items ++ map e (places_in (drop (i + 1) functions))
  cut =
      is
      ∙ at_drop_more (λ l. map e (places_in l)) functions i s within
      ∙ ap (λ x. map e (places_in (x ∷ drop (i + 1) functions))) (sym here)
      ∙ map-append e s.places.items (places_in (drop (i + 1) functions))

  own_counts : (own : List ℕ) (n : ℕ) → n ≡ length s.places.items → own ≡ take n rest → own ≡ map e s.places.items
  own_counts own n long taken =
      taken
      ∙ ap (λ m. take m rest) (long ∙ sym (length-map s.places.items e))
      ∙ ap (take (length (map e s.places.items))) cut
      ∙ take-append_seam (map e s.places.items) (map e (places_in (drop (i + 1) functions)))

  pub more_counts : (more : List ℕ) (n : ℕ) → n ≡ length s.places.items → more ≡ drop n rest → more ≡ map e (places_in (drop (i + 1) functions))
  more_counts more n long dropped =
      dropped
      ∙ ap (λ m. drop m rest) (long ∙ sym (length-map s.places.items e))
      ∙ ap (drop (length (map e s.places.items))) cut
      ∙ drop-append_seam (map e s.places.items) (map e (places_in (drop (i + 1) functions)))

few_entries : (r : Recording) (places : List ℕ) → r.steps ≤ 100000000 → All (λ count. count ≤ 100000000) (map (entry_count r) places)
few_entries r [] few = All-nil (λ count. count ≤ 100000000)
few_entries r (place ∷ places) few =
    All-cons (λ count. count ≤ 100000000) (entry_count r place) (map (entry_count r) places)
    (omega (arith, few, times_few (reset (zero_start r.image.words) r.input) r.steps place))
    (few_entries r places few)

-- the counts that are split off are those of the function of a number
pub record AreOwn (r : Recording) (i : ℕ) (s : Shaped) (own : List ℕ) : Type 0 where
  pub are : own ≡ counts_of r i
  pub counts : AreCounts s.accesses own

pub are_own : (r : Recording) (functions : List Shaped) (i : ℕ) (s : Shaped) (rest own : List ℕ) (n : ℕ)
    → r.steps ≤ 100000000 → ArePlaced r.image functions → i < length functions → s ≡ slice_index_or functions i s
    → rest ≡ map (entry_count r) (places_in (drop i functions)) → n ≡ length s.places.items → own ≡ take n rest → AreOwn r i s own
are_own r functions i s rest own n few placed within here is long taken =
    let p : IsPlaced r.image i s = placed_here r.image functions i s placed within here in
    let o : own ≡ map (entry_count r) s.places.items = own_counts (entry_count r) functions i s rest within here is own n long taken in
    record {
      are = o ∙ counts_here r i s p;
      counts = record {
        one_each = ap length o ∙ length-map s.places.items (entry_count r) ∙ p.one_each;
        few = subst (All (λ count. count ≤ 100000000)) (sym o) (few_entries r s.places.items few);
        short = p.short;
      };
    }

-- ---- a list that is made function by function

module _ {B : Type 0} (W : ℕ → List Sequence → List B) (functions : List Shaped) where
  pub one_further : (g : ℕ → Sequence → B) → ((k : ℕ) (x : Sequence) (xs : List Sequence) → W k (x ∷ xs) ≡ g k x ∷ W (suc k) xs)
      → (done : List B) (i : ℕ) (s : Shaped) (b : B) → i < length functions → s ≡ slice_index_or functions i s → b ≡ g i s.accesses
      → (done ++ b ∷ []) ++ W (i + 1) (accesses_of (drop (i + 1) functions)) ≡ done ++ W i (accesses_of (drop i functions))
  one_further g cons done i s b within here is =
      let left = drop (i + 1) functions in
      let next : i + 1 ≡ suc i = omega arith in
      append_assoc done (b ∷ []) (W (i + 1) (accesses_of left))
      ∙ ap (λ x. done ++ x ∷ W (i + 1) (accesses_of left)) is
      ∙ ap (λ n. done ++ g i s.accesses ∷ W n (accesses_of left)) next
      ∙ ap (λ l. done ++ l) (sym (cons i s.accesses (accesses_of left)))
      ∙ ap (λ (x : Shaped). done ++ W i (accesses_of (x ∷ left))) here
      ∙ sym (at_drop_more (λ l. done ++ W i (accesses_of l)) functions i s within)

-- ---- a sum that fits

few_blocks : (blocks : List Block) → All IsBlock blocks → length blocks ≤ accesses_in blocks
few_blocks [] are = omega arith
few_blocks (b ∷ blocks) are =
    let some = (All-head IsBlock b blocks are).some in
    omega (arith, sum_by-cons (λ (x : Block). length x.accesses) b blocks, some, few_blocks blocks (All-tail IsBlock b blocks are))

pub sum_fits : (accesses : Sequence) (counts : List ℕ) → IsSequence accesses → AreCounts accesses counts → sum counts < 2 ^ 64
sum_fits accesses counts is are =
    omega (arith, sum_by-le (λ x. x) 100000000 counts are.few, are.one_each, few_blocks accesses.blocks is.blocks, are.short)
