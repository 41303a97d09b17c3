-- The place of a walk's block: the address of the instruction of its first listed access.
use Rattle.std.specs.Prelude.{ℕ, List, [], ◌∷◌, filter_map, Option, Some, None, option_map, slice_get}
use Rattle.c25_isa.specs.Image.{Contents}
use Rattle.c25_isa.specs.Walk.{Placed, Known, Code, code_of, in_stretches, access, listed}

-- where an instruction stands whose access is listed
abbrev pub listing_at : Known → Placed → Option ℕ
listing_at k p = option_map (λ a. p.at) (listed (access k p.instr))

-- the first one, where there is one
abbrev pub first_of : List ℕ → Option ℕ
first_of [] = None
first_of (at ∷ rest) = Some at

-- of each stretch that lists some
abbrev pub places_in : Code → List ℕ
places_in code = filter_map first_of (in_stretches listing_at code)

-- those of a function of an image, where there is one of this number
abbrev pub places_of : Contents → ℕ → Option (List ℕ)
places_of image function = option_map (λ f. places_in (code_of image.words f.first f.last)) (slice_get image.functions function)
