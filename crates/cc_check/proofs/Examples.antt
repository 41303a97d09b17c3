-- Checks by hand, and lines.
use Rattle.std.proofs.Common.{◌≡◌, ℕ, refl, true, false, List, [], ◌∷◌, None}
use Rattle.std.specs.Prelude.{negsuc, codes}
use Rattle.std.specs.Fmt.{digits}
use Rattle.c25_isa.specs.declared.image.FunctionRange.{FunctionRange}
use Rattle.c25_isa.specs.Image.{Contents}
use Rattle.lay_model.specs.Sequences.{Block}
use Rattle.lay_tree.specs.declared.answer.Mark.TheVariants.{Closed}
use Rattle.lay_cert.specs.declared.certificate.Claim.TheVariants as claims
use Rattle.lay_cert.specs.Frames.{Frame}
use Rattle.cc_check.specs.declared.finding.Finding.TheVariants.{BadWord, UnknownAddress, WalkDiffers, Count, Cost, No, Optimal, Best}
use Rattle.cc_check.specs.Findings.{address_of, expected_blocks, first_difference, finding_of}
use Rattle.cc_check.specs.CheckText.{finding_text, check_text, all_pass}

abbrev function : List ℕ → ℕ → ℕ → FunctionRange
function name first last = record { name = name; first = first; last = last }

abbrev block : List ℕ → Block
block accesses = record { weight = 1; accesses = accesses }

-- LDPK 6; LALK 5; SACL 0300h; OUT 0300h; LALK 7; IDLE
abbrev five : Contents
five = record { words = 0xc806 ∷ 0xd001 ∷ 5 ∷ 0x6000 ∷ 0xe100 ∷ 0xd001 ∷ 7 ∷ 0xce1f ∷ []; functions = function (codes "main") 0 7 ∷ [] }

abbrev nothing : Frame
nothing = record {
  name = codes "main";
  registers = 1;
  seq = record { scalars = 0; step = 1; blocks = [] };
  arr = [];
  bases = [];
  cost = 0;
  claim = claims.Optimal;
  log = Closed ∷ [];
}

no_frames : check_text five [] ≡ codes "main: no frame\n"
no_frames = refl

no_frames_pass : all_pass five [] ≡ true
no_frames_pass = refl

nobody : check_text five (record nothing { name = codes "nobody" } ∷ []) ≡ codes "nobody: not in the image\nmain: no frame\n"
nobody = refl

nobody_fails : all_pass five (record nothing { name = codes "nobody" } ∷ []) ≡ false
nobody_fails = refl

twice : check_text five (nothing ∷ nothing ∷ []) ≡ codes "main: optimal 0\nmain: optimal 0\n"
unfolding digits
twice = refl

claims_more : check_text five (nothing ∷ record nothing { cost = 10 } ∷ []) ≡ codes "main: optimal 0\nmain: count 0 cost 10\n"
unfolding digits
claims_more = refl

one_fails : all_pass five (nothing ∷ record nothing { cost = 10 } ∷ []) ≡ false
one_fails = refl

-- the log has a mark too many
left_over : check_text five (record nothing { log = Closed ∷ Closed ∷ [] } ∷ []) ≡ codes "main: shape node 1\n"
unfolding digits
left_over = refl

-- Two functions of one name, and one behind them. The first of the name has no bad word.
abbrev three : Contents
three = record { words = 0xce1f ∷ 0xce1f ∷ 0xce0b ∷ []; functions = function (codes "a") 0 0 ∷ function (codes "a") 2 2 ∷ function (codes "b") 1 1 ∷ [] }

first_of_the_name : check_text three (record nothing { name = codes "a" } ∷ []) ≡ codes "a: optimal 0\na: no frame\nb: no frame\n"
unfolding digits
first_of_the_name = refl

-- LRLK AR2,0400h; MAR *,AR2; LAC *; at 4 LRLK AR2,0401h; MAR *,AR2; LAC *; at 8 a jump to 4
abbrev two_blocks : Contents
two_blocks = record {
  words = 0xd200 ∷ 0x400 ∷ 0x558a ∷ 0x2080 ∷ 0xd200 ∷ 0x401 ∷ 0x558a ∷ 0x2080 ∷ 0xff80 ∷ 4 ∷ [];
  functions = function (codes "f") 0 9 ∷ function (codes "g") 0 7 ∷ function (codes "h") 0 0 ∷ function (codes "i") 7 7 ∷ [];
}

abbrev of_two : Frame
of_two = record {
  name = codes "f";
  registers = 1;
  seq = record { scalars = 2; step = 1; blocks = block (0 ∷ []) ∷ block (1 ∷ []) ∷ [] };
  arr = (0 ∷ 1 ∷ []) ∷ [];
  bases = 0x400 ∷ [];
  cost = 2;
  claim = claims.Optimal;
  log = Closed ∷ [];
}

abbrev with_blocks : List Block → Frame
with_blocks blocks = record of_two { seq = record { scalars = 2; step = 1; blocks = blocks } }

two_optimal : finding_of two_blocks of_two ≡ Optimal 2
two_optimal = refl

two_best : finding_of two_blocks (record of_two { claim = claims.Best 0 1 }) ≡ Best 2
two_best = refl

-- the list is turned round, and the base is one word off
turned : finding_of two_blocks (record of_two { arr = (1 ∷ 0 ∷ []) ∷ [] }) ≡ WalkDiffers 0
turned = refl

turned_behind : finding_of two_blocks (record of_two { arr = (1 ∷ 0 ∷ []) ∷ []; bases = 0x3ff ∷ [] }) ≡ WalkDiffers 1
turned_behind = refl

-- one side has fewer blocks
fewer_expected : finding_of two_blocks (with_blocks (block (0 ∷ []) ∷ [])) ≡ WalkDiffers 1
fewer_expected = refl

more_expected : finding_of two_blocks (with_blocks (block (0 ∷ []) ∷ block (1 ∷ []) ∷ block (0 ∷ []) ∷ [])) ≡ WalkDiffers 2
more_expected = refl

-- blocks that are longer or shorter than those of the walk
longer : finding_of two_blocks (with_blocks (block (0 ∷ []) ∷ block (1 ∷ 1 ∷ []) ∷ [])) ≡ WalkDiffers 1
longer = refl

-- one stretch of two loads, which cost one too many
one_stretch : finding_of two_blocks (record (with_blocks (block (0 ∷ 1 ∷ []) ∷ [])) { name = codes "g"; cost = 1 }) ≡ Count 2 1
one_stretch = refl

one_stretch_claims_that : finding_of two_blocks (record (with_blocks (block (0 ∷ 1 ∷ []) ∷ [])) { name = codes "g"; cost = 2 }) ≡ Cost 2 1
one_stretch_claims_that = refl

-- a second word outside the range, and an access while nothing is known
cut_word : finding_of two_blocks (record of_two { name = codes "h" }) ≡ BadWord 0
cut_word = refl

not_known : finding_of two_blocks (record of_two { name = codes "i" }) ≡ UnknownAddress 7
not_known = refl

-- an address that is no word
behind_the_last : expected_blocks (record of_two { bases = 0xffff ∷ [] }) ≡ (0xffff ∷ []) ∷ (0x10000 ∷ []) ∷ []
behind_the_last = refl

in_two_lists : address_of (record of_two { arr = (1 ∷ []) ∷ (2 ∷ 0 ∷ []) ∷ []; bases = 0x400 ∷ 0x500 ∷ [] }) 0 ≡ 0x501
in_two_lists = refl

nothing_differs : first_difference [] [] ≡ None
nothing_differs = refl

-- ---- lines

words_in_hexadecimal : check_text two_blocks (record of_two { name = codes "i" } ∷ record of_two { name = codes "h" } ∷ of_two ∷ []) ≡ codes "i: unknown address 0007\nh: bad word 0000\nf: optimal 2\ng: no frame\n"
unfolding digits
words_in_hexadecimal = refl

below_zero : finding_text (No 12 (negsuc 2) 4) ≡ codes "no node 12 bound -3 cost 4"
unfolding digits
below_zero = refl

two_costs : finding_text (Cost 2 10) ≡ codes "cost claimed 2 found 10"
unfolding digits
two_costs = refl

a_block : finding_text (WalkDiffers 100) ≡ codes "walk differs in block 100"
unfolding digits
a_block = refl
