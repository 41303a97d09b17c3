-- The accesses of a function are no more than the words of its image: a walk lists an address at most for each instruction, and each instruction
-- is in one stretch.
use Rattle.std.proofs.Common.{◌≡◌, ◌<◌, ◌≤◌, ◌+◌, ◌-◌, ◌^◌, ◌++◌, ◌∙◌, ℕ, zero, suc, Bool, true, false, cond, List, [], ◌∷◌, length, map, take, drop, refl, sym, ap, subst, arith, length-drop}
use Rattle.std.specs.Prelude.{nat_lt, sum_by, filter, filter_map, slice_get, slice_range, Option, Some, None, option_map, option_to_list}
use Rattle.std.specs.List.{sum}
use Rattle.std.proofs.lemmas.List.Sums.{sum_by-cons, sum-map}
use Rattle.std.proofs.lemmas.Option.{same_Some, slice_get_within}
use Rattle.acc_code.specs.AccTree.{FunctionItems}
use Rattle.c25_isa.specs.declared.image.FunctionRange.{FunctionRange}
use Rattle.c25_isa.specs.Decode.{Decoded}
use Rattle.c25_isa.specs.Image.{Contents, IsImage}
use Rattle.c25_isa.specs.Walk.{Placed, Code, Known, Blocks, no_more, in_front, with_rest, code_from, code_of, jump_target, onto_stretches, is_cut_behind, cut_at, stretches, nothing_known, known_behind, along, in_stretches, access, listed, has_some, walked, walk_code, walk}
use Rattle.lay_model.specs.Sequences.{Block, Sequence}
use Rattle.lay_profile.specs.declared.shapes.Shaped.{Shaped}
use Rattle.lay_profile.specs.Shapes.{HasShape}
use Rattle.lay_profile.specs.ShapedFunctions.{AreShaped, ArePlaced}
use Rattle.lay_profile.specs.Weighing.{accesses_in}
use Rattle.lay_profile.proofs.ShapeLemmas.{there}

abbrev total : {A : Type 0} → List (List A) → ℕ
total lists = sum_by length lists

-- ---- the instructions of a range

front_few : (at left size : ℕ) (d : Decoded) (rest : ℕ → Code) → ((n : ℕ) → length (rest n).placed ≤ size) → length (with_rest at left d rest).placed ≤ suc size
front_few at left size None rest few = omega arith
front_few at left size (Some (i, len)) rest few = by (nat_lt left len)
  where
    by : (b : Bool) → length (cond b (no_more (Some at)) (in_front (record { at = at; instr = i; behind = at + len }) (rest (len - 1)))).placed ≤ suc size
    by true = omega arith
    by false = omega (arith, few (len - 1))

code_few : (at within : ℕ) (ws : List ℕ) → length (code_from at within ws).placed ≤ length ws
code_few at within [] = omega arith
code_few at (suc n) (w ∷ ws) = omega (arith, code_few (at + 1) n ws)
code_few at zero (w ∷ ws) = front_few at (length ws + 1) (length ws) _ (λ within. code_from (at + 1) within ws) (λ n. code_few (at + 1) n ws)

take_few : (n : ℕ) (xs : List ℕ) → length (take n xs) ≤ length xs
take_few zero [] = omega arith
take_few (suc n) [] = omega arith
take_few zero (x ∷ xs) = omega arith
take_few (suc n) (x ∷ xs) = omega (arith, take_few n xs)

code_short : (words : List ℕ) (first last : ℕ) → length (code_of words first last).placed ≤ length words
code_short words first last =
    let range : length (slice_range words first (last + 1)) ≤ length (drop first words) = take_few (last + 1 - first) (drop first words) in
    omega (arith, code_few first 0 (slice_range words first (last + 1)), range, length-drop first words)

-- ---- its stretches

onto_total : (cut : Bool) (p : Placed) (ss : List (List Placed)) → total (onto_stretches cut p ss) ≡ suc (total ss)
onto_total true p ss = omega (arith, sum_by-cons length (p ∷ []) ss)
onto_total false p [] = omega (arith, sum_by-cons length (p ∷ []) [])
onto_total false p (first ∷ rest) = omega (arith, sum_by-cons length (p ∷ first) rest, sum_by-cons length first rest)

cut_total : (targets : List ℕ) (ps : List Placed) → total (cut_at targets ps) ≡ length ps
cut_total targets [] = refl
cut_total targets (p ∷ ps) = onto_total (is_cut_behind targets p) p (cut_at targets ps) ∙ ap suc (cut_total targets ps)

-- ---- what is listed in them

one_more : (o : Option ℕ) (xs : List ℕ) (n : ℕ) → length xs ≤ n → length (option_to_list o ++ xs) ≤ suc n
one_more None xs n few = omega (arith, few)
one_more (Some a) xs n few = omega (arith, few)

along_few : (gives : Known → Placed → Option ℕ) (k : Known) (ps : List Placed) → length (along gives k ps) ≤ length ps
along_few gives k [] = omega arith
along_few gives k (p ∷ ps) = one_more (gives k p) (along gives (known_behind k p.instr) ps) (length ps) (along_few gives (known_behind k p.instr) ps)

all_few : (gives : Known → Placed → Option ℕ) (ss : List (List Placed)) → total (map (along gives nothing_known) ss) ≤ total ss
all_few gives [] = omega arith
all_few gives (s ∷ ss) =
    let first = sum_by-cons length (along gives nothing_known s) (map (along gives nothing_known) ss) in
    omega (arith, first, sum_by-cons length s ss, along_few gives nothing_known s, all_few gives ss)

lists_few : (gives : Known → Placed → Option ℕ) (code : Code) → total (in_stretches gives code) ≤ length code.placed
lists_few gives code = omega (arith, all_few gives (stretches code), cut_total (filter_map (λ p. jump_target p.instr) code.placed) code.placed)

some_few : (lists : List (List ℕ)) → total (filter has_some lists) ≤ total lists
some_few [] = omega arith
some_few ([] ∷ lists) = omega (arith, sum_by-cons length [] lists, some_few lists)
some_few ((a ∷ l) ∷ lists) = omega (arith, sum_by-cons length (a ∷ l) lists, sum_by-cons length (a ∷ l) (filter has_some lists), some_few lists)

blocks_are : (ats : List ℕ) (fault : Option ℕ) (lists blocks : List (List ℕ)) → walked ats fault lists ≡ Blocks blocks → filter has_some lists ≡ blocks
blocks_are (at ∷ rest) fault lists blocks is = absurd cc
blocks_are [] (Some at) lists blocks is = absurd cc
blocks_are [] None lists blocks is = cc

blocks_few : (code : Code) (blocks : List (List ℕ)) → walk_code code ≡ Blocks blocks → total blocks ≤ length code.placed
blocks_few code blocks is =
    let lists = in_stretches (λ k p. listed (access k p.instr)) code in
    subst (λ bs. total bs ≤ length code.placed) (blocks_are _ code.fault lists blocks is)
    (omega (arith, some_few lists, lists_few (λ k p. listed (access k p.instr)) code))

walk_short : (words : List ℕ) (found : Option FunctionRange) (blocks : List (List ℕ))
    → option_map (λ (f : FunctionRange). walk words f.first f.last) found ≡ Some (Blocks blocks) → total blocks ≤ length words
walk_short words None blocks is = absurd cc
walk_short words (Some f) blocks is =
    omega (arith, blocks_few (code_of words f.first f.last) blocks (same_Some (walk words f.first f.last) (Blocks blocks) is), code_short words f.first f.last)

-- ---- accesses of these shapes

same_total : (lists : List (List ℕ)) (bs : List Block) → map length lists ≡ map (λ (b : Block). length b.accesses) bs → total lists ≡ accesses_in bs
same_total lists bs same = sym (sum-map length lists) ∙ ap sum same ∙ sum-map (λ (b : Block). length b.accesses) bs

pub shapes_are_short : (image : Contents) (k : ℕ) (accesses : Sequence) → IsImage image.words image.functions
    → HasShape image k accesses → accesses_in accesses.blocks ≤ 65536
shapes_are_short image k accesses whole has =
    omega (arith, whole.short, walk_short image.words (slice_get image.functions k) has.blocks has.walks, same_total has.blocks accesses.blocks has.lengths)

pub placed_of : (image : Contents) (fs : List FunctionItems) (all : List Shaped) → IsImage image.words image.functions
    → AreShaped image fs all → ArePlaced image all
placed_of image fs all whole are k s at =
    let f = there fs k (subst (λ n. k < n) are.count (slice_get_within all k s at)) in
    let is = are.each k f.0 s f.1 at in
    record {
      places = is.places;
      one_each = is.one_each;
      short = subst (λ (a : Sequence). accesses_in a.blocks < 2 ^ 32) (sym is.accesses) (omega (arith, shapes_are_short image k _ whole is.shape));
    }
