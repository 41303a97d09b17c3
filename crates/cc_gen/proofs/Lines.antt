-- One line more.
use Rattle.std.proofs.Common.{◌≡◌, ℕ, ◌+◌, ◌∙◌, ◌++◌, List, [], ◌∷◌, ap, sym, arith}
use Rattle.std.specs.List.{flat_map, range_with_len}
use Rattle.std.proofs.lemmas.List.{map-id, flat_map_more}
use Rattle.std.proofs.lemmas.List.FromFn.{map-range_with_len_more}
use Rattle.cc_gen.specs.Generated.{lines_below}

range_more : (i : ℕ) → range_with_len 0 (i + 1) ≡ range_with_len 0 i ++ (i ∷ [])
range_more i =
    sym (map-id (range_with_len 0 (i + 1)))
    ∙ (map-range_with_len_more (λ (n : ℕ). n) 0 i i (omega arith)
    ∙ ap (λ ns. ns ++ (i ∷ [])) (map-id (range_with_len 0 i)))

pub lines_more : (line : ℕ → List ℕ) (text : List ℕ) (i : ℕ) → (text ++ lines_below line i) ++ line i ≡ text ++ lines_below line (i + 1)
lines_more line text i =
    flat_map_more line text (range_with_len 0 i) i
    ∙ ap (λ ns. text ++ flat_map line ns) (sym (range_more i))
