-- The range of a function of an image.
use Rattle.std.proofs.Common.{◌≡◌, ℕ, zero, suc, ◌+◌, ◌-◌, ◌<◌, List, [], ◌∷◌, length, get_or, take, drop, sym, ap, ◌∙◌, arith}
use Rattle.std.specs.Prelude.{Some, option_map, slice_get, slice_range}
use Rattle.c25_isa.specs.declared.image.FunctionRange.{FunctionRange}
use Rattle.c25_isa.specs.Image.{Contents, AreRanges}
use Rattle.c25_isa.specs.Walk.{walk, walk_code, code_from, code_of}
use Rattle.c25_isa.specs.AddressCount.{address_count}
use Rattle.c25_walk.specs.Places.{places_in, places_of}
use Rattle.c25_walk.specs.Walks.{IsInside, walk_of, count_of, count_in}

pub range_at : (from count : ℕ) (fs : List FunctionRange) (i : ℕ) (d : FunctionRange) → AreRanges from count fs → i < length fs → IsInside count (get_or fs i d)
range_at from count [] i d ranges lt = absurd (omega arith)
range_at from count (f ∷ fs) zero d ranges lt = record { rises = ranges.0.rises; within = ranges.0.within }
range_at from count (f ∷ fs) (suc i) d ranges lt = range_at (f.last + 1) count fs i d ranges.1 (omega arith)

words_found : (all words : List ℕ) (first last f l : ℕ) → first ≡ f → last ≡ l → words ≡ all → slice_range all f (l + 1) ≡ take (last + 1 - first) (drop first words)
words_found all words first last f l from to same =
    ap (λ ws. take (l + 1 - f) (drop f ws)) (sym same) ∙ ap (λ n. take (n + 1 - f) (drop f words)) (sym to) ∙ ap (λ n. take (last + 1 - n) (drop n words)) (sym from)

-- the range of a function, which the code found
pub walk_found : (image : Contents) (function first last : ℕ) (f : FunctionRange) (words : List ℕ) → slice_get image.functions function ≡ Some f → first ≡ f.first → last ≡ f.last → words ≡ image.words
    → walk_of image function ≡ Some (walk_code (code_from f.first 0 (take (last + 1 - first) (drop first words))))
walk_found image function first last f words found from to same =
    ap (option_map (λ (g : FunctionRange). walk image.words g.first g.last)) found
    ∙ ap (λ l. Some (walk_code (code_from f.first 0 l))) (words_found image.words words first last f.first f.last from to same)

pub count_found : (image : Contents) (function first last : ℕ) (f : FunctionRange) (words : List ℕ) → slice_get image.functions function ≡ Some f → first ≡ f.first → last ≡ f.last → words ≡ image.words
    → count_of image function ≡ Some (count_in (code_from f.first 0 (take (last + 1 - first) (drop first words))))
count_found image function first last f words found from to same =
    ap (option_map (λ (g : FunctionRange). address_count image.words g.first g.last)) found
    ∙ ap (λ l. Some (count_in (code_from f.first 0 l))) (words_found image.words words first last f.first f.last from to same)

pub places_found : (image : Contents) (function first last : ℕ) (f : FunctionRange) (words : List ℕ) → slice_get image.functions function ≡ Some f → first ≡ f.first → last ≡ f.last → words ≡ image.words
    → places_of image function ≡ Some (places_in (code_from f.first 0 (take (last + 1 - first) (drop first words))))
places_found image function first last f words found from to same =
    ap (option_map (λ (g : FunctionRange). places_in (code_of image.words g.first g.last))) found
    ∙ ap (λ l. Some (places_in (code_from f.first 0 l))) (words_found image.words words first last f.first f.last from to same)
