-- What a check finds of the frames of a certificate, in the words of an image (docs/COMMANDS.md, "check").
use Rattle.std.specs.Prelude.{ℕ, suc, ◌+◌, ◌==◌, Bool, true, false, List, [], ◌∷◌, map, slice_index, slice_get, Option, Some, None, option_map, option_and_then, if◌then◌else◌}
use Rattle.std.specs.List.{position_from}
use Rattle.std.specs.Str.{bytes_eq}
use Rattle.c25_isa.specs.declared.image.FunctionRange.{FunctionRange}
use Rattle.c25_isa.specs.Image.{Contents}
use Rattle.c25_isa.specs.Walk as walk
use Rattle.c25_isa.specs.AddressCount.{address_count}
use Rattle.lay_cost.specs.Placements.{list_of, place_in}
use Rattle.lay_cert.specs.declared.replaying.Verdict.{Verdict}
use Rattle.lay_cert.specs.declared.replaying.Verdict.TheVariants as verdicts
use Rattle.lay_cert.specs.Frames.{Frame}
use Rattle.lay_cert.specs.Verdicts.{verdict_of}
use Rattle.cc_check.specs.declared.finding.Finding.{Finding}
use Rattle.cc_check.specs.declared.finding.Finding.TheVariants.{NotInImage, BadWord, UnknownAddress, WalkDiffers, Count, Cost, No, NoShape, Optimal, Best}

-- where a scalar lies: the base of its list plus its position there
abbrev pub address_of : Frame → ℕ → ℕ
address_of f scalar = slice_index f.bases (list_of f.arr scalar) + place_in f.arr scalar

-- the accesses of each block, with the address of each scalar in its place
abbrev pub expected_blocks : Frame → List (List ℕ)
expected_blocks f = map (λ b. map (address_of f) b.accesses) f.seq.blocks

-- the first block that differs; where one side has fewer blocks, and these agree, the first one that it lacks
abbrev pub first_difference : List (List ℕ) → List (List ℕ) → Option ℕ
first_difference [] [] = None
first_difference [] (b ∷ bs) = Some 0
first_difference (a ∷ rest) [] = Some 0
first_difference (a ∷ rest) (b ∷ bs) = if bytes_eq a b then option_map suc (first_difference rest bs) else Some 0

-- by what the replay shows of a frame of a cost
abbrev pub verdict_finding : ℕ → Verdict → Finding
verdict_finding cost verdicts.Yes = Optimal cost
verdict_finding cost verdicts.Best = Best cost
verdict_finding cost (verdicts.Cost claimed found) = Cost claimed found
verdict_finding cost (verdicts.No node bound than) = No node bound than
verdict_finding cost (verdicts.NoShape node) = NoShape node

-- by the count of address instructions
abbrev pub count_finding : Frame → ℕ → Finding
count_finding f count = if count == f.cost then verdict_finding f.cost (verdict_of f) else Count count f.cost

-- by the first block that differs, where one does
abbrev pub blocks_finding : Frame → ℕ → Option ℕ → Finding
blocks_finding f count None = count_finding f count
blocks_finding f count (Some block) = WalkDiffers block

-- by a walk and its count
abbrev pub walk_finding : Frame → ℕ → walk.Walked → Finding
walk_finding f count (walk.BadWord at) = BadWord at
walk_finding f count (walk.UnknownAddress at) = UnknownAddress at
walk_finding f count (walk.Blocks blocks) = blocks_finding f count (first_difference (expected_blocks f) blocks)

-- by the function of the frame, where there is one
abbrev pub function_finding : List ℕ → Frame → Option FunctionRange → Finding
function_finding words f None = NotInImage
function_finding words f (Some g) = walk_finding f (address_count words g.first g.last) (walk.walk words g.first g.last)

-- the number of the first function of a name
abbrev pub number_of : List FunctionRange → List ℕ → Option ℕ
number_of functions name = position_from (λ g. bytes_eq g.name name) 0 functions

-- its range
abbrev pub function_of : List FunctionRange → List ℕ → Option FunctionRange
function_of functions name = option_and_then (slice_get functions) (number_of functions name)

abbrev pub finding_of : Contents → Frame → Finding
finding_of image f = function_finding image.words f (function_of image.functions f.name)

-- whether no test fails
abbrev pub is_pass : Finding → Bool
is_pass (Optimal cost) = true
is_pass (Best cost) = true
is_pass finding = false
