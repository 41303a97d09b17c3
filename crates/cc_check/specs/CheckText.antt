-- The lines of a check (docs/COMMANDS.md, "check").
use Rattle.std.specs.Prelude.{ℕ, ◌+◌, ◌==◌, Bool, false, List, [], ◌∷◌, ◌++◌, Option, Some, None, codes, decimal, if◌then◌else◌}
use Rattle.std.specs.List.{flat_map, list_any, list_all}
use Rattle.std.specs.Fmt.{signed_decimal}
use Rattle.c25_isa.specs.declared.image.FunctionRange.{FunctionRange}
use Rattle.c25_isa.specs.Image.{Contents}
use Rattle.c25_image.specs.Hex.{hex4}
use Rattle.lay_cert.specs.Frames.{Frame}
use Rattle.cc_check.specs.declared.finding.Finding.{Finding}
use Rattle.cc_check.specs.declared.finding.Finding.TheVariants.{NotInImage, BadWord, UnknownAddress, WalkDiffers, Count, Cost, No, NoShape, Optimal, Best}
use Rattle.cc_check.specs.Findings.{number_of, finding_of, is_pass}

-- what a line says behind the name
abbrev pub finding_text : Finding → List ℕ
finding_text NotInImage = codes "not in the image"
finding_text (BadWord at) = codes "bad word " ++ hex4 at
finding_text (UnknownAddress at) = codes "unknown address " ++ hex4 at
finding_text (WalkDiffers block) = codes "walk differs in block " ++ decimal block
finding_text (Count count cost) = codes "count " ++ (decimal count ++ (codes " cost " ++ decimal cost))
finding_text (Cost claimed found) = codes "cost claimed " ++ (decimal claimed ++ (codes " found " ++ decimal found))
finding_text (No node bound cost) = codes "no node " ++ (decimal node ++ (codes " bound " ++ (signed_decimal bound ++ (codes " cost " ++ decimal cost))))
finding_text (NoShape node) = codes "shape node " ++ decimal node
finding_text (Optimal cost) = codes "optimal " ++ decimal cost
finding_text (Best cost) = codes "best " ++ decimal cost

-- a name and what is said of it, with the line feed
abbrev pub line_of : List ℕ → List ℕ → List ℕ
line_of name said = name ++ (codes ": " ++ (said ++ 10 ∷ []))

abbrev pub frame_line : Contents → Frame → List ℕ
frame_line image f = line_of f.name (finding_text (finding_of image f))

-- whether a number is there and is this one
abbrev pub is_number : ℕ → Option ℕ → Bool
is_number k None = false
is_number k (Some n) = n == k

-- whether one of the frames is that of a function, by its number
abbrev pub has_frame : List FunctionRange → List Frame → ℕ → Bool
has_frame functions frames k = list_any (λ f. is_number k (number_of functions f.name)) frames

-- the lines of functions from a number on, for those that have no frame
abbrev pub no_frame_lines : (ℕ → Bool) → ℕ → List FunctionRange → List ℕ
no_frame_lines framed k [] = []
no_frame_lines framed k (g ∷ gs) = (if framed k then [] else line_of g.name (codes "no frame")) ++ no_frame_lines framed (k + 1) gs

-- a line for each frame, and then one for each function that has none
abbrev pub check_text : Contents → List Frame → List ℕ
check_text image frames = flat_map (frame_line image) frames ++ no_frame_lines (has_frame image.functions frames) 0 image.functions

-- no frame's line is that of a failed test
abbrev pub all_pass : Contents → List Frame → Bool
all_pass image frames = list_all (λ f. is_pass (finding_of image f)) frames
