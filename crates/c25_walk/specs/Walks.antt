-- The walk of a function of an image.
use Rattle.std.specs.Prelude.{◌≡◌, ℕ, ◌<◌, ◌≤◌, if◌then◌else◌, length, flat_map, Option, Some, None, option_map, slice_get}
use Rattle.c25_isa.specs.declared.image.FunctionRange.{FunctionRange}
use Rattle.c25_isa.specs.Image.{Contents}
use Rattle.c25_isa.specs.Walk as walk
use Rattle.c25_isa.specs.Walk.{Code, in_stretches}
use Rattle.c25_isa.specs.AddressCount.{address_count, is_address_instruction}
use Rattle.c25_walk.specs.declared.fault.WalkFault.{WalkFault}
use Rattle.c25_walk.specs.declared.fault.WalkFault.TheVariants.{BadWord, UnknownAddress, NoMemory}

-- a range rises, and lies within so many words
pub record IsInside (count : ℕ) (f : FunctionRange) : Type 0 where
  pub rises : f.first ≤ f.last
  pub within : f.last < count

-- the walk over the words of a function, where there is one of this number
abbrev pub walk_of : Contents → ℕ → Option walk.Walked
walk_of image function = option_map (λ f. walk.walk image.words f.first f.last) (slice_get image.functions function)

-- how many address instructions it has
abbrev pub count_of : Contents → ℕ → Option ℕ
count_of image function = option_map (λ f. address_count image.words f.first f.last) (slice_get image.functions function)

-- how many of these instructions are address instructions
abbrev pub count_in : Code → ℕ
count_in code = length (flat_map (λ ats. ats) (in_stretches (λ k p. if is_address_instruction k p.instr then Some p.at else None) code))

-- a fault is what the walk comes to. Of want of memory nothing is said.
abbrev pub IsFault : Option walk.Walked → WalkFault → Type 0
IsFault walked (BadWord at) = walked ≡ Some (walk.BadWord at)
IsFault walked (UnknownAddress at) = walked ≡ Some (walk.UnknownAddress at)
IsFault walked NoMemory = Unit {0}
