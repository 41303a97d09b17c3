-- Walks of functions of an image. The expected values are worked out by hand from docs/MACHINE.md.
use Rattle.std.proofs.Common.{◌≡◌, Some, None, [], ◌∷◌, refl}
use Rattle.std.specs.Prelude.{codes}
use Rattle.c25_isa.specs.Image.{Contents}
use Rattle.c25_isa.specs.Walk.{Blocks, UnknownAddress}
use Rattle.c25_walk.specs.Places.{places_of}
use Rattle.c25_walk.specs.Walks.{walk_of, count_of}

-- `load`: LARK AR2,10h; MAR *,AR2; LAC *+; B to LAC *-; SBRK 1; at 6 LAC *-; RET. `spin`: at 8 MAR *-; B to itself
abbrev image : Contents
image = record {
  words = 0xc210 ∷ 0x558a ∷ 0x20a0 ∷ 0xff80 ∷ 6 ∷ 0x7f01 ∷ 0x2090 ∷ 0xce26 ∷ 0x5590 ∷ 0xff80 ∷ 9 ∷ [];
  functions = record { name = codes "load"; first = 0; last = 7 } ∷ record { name = codes "spin"; first = 8; last = 10 } ∷ [];
}

-- behind the jump nothing is known
load : walk_of image 0 ≡ Some (UnknownAddress 6)
load = refl

-- LARK, and SBRK behind the jump, of any register
load_counts : count_of image 0 ≡ Some 2
load_counts = refl

spin : walk_of image 1 ≡ Some (Blocks [])
spin = refl

-- MAR *-, of any register
spin_counts : count_of image 1 ≡ Some 1
spin_counts = refl

no_third : walk_of image 2 ≡ None
no_third = refl

-- `two`: LARK AR2,10h; MAR *,AR2; LAC *+; LAC *; B to LARK AR3,11h; at 6 that; MAR *,AR3; LAC *; RET
abbrev two_stretches : Contents
two_stretches = record {
  words = 0xc210 ∷ 0x558a ∷ 0x20a0 ∷ 0x2080 ∷ 0xff80 ∷ 6 ∷ 0xc311 ∷ 0x558b ∷ 0x2080 ∷ 0xce26 ∷ [];
  functions = record { name = codes "two"; first = 0; last = 9 } ∷ [];
}

two_blocks : walk_of two_stretches 0 ≡ Some (Blocks ((0x10 ∷ 0x11 ∷ []) ∷ (0x11 ∷ []) ∷ []))
two_blocks = refl

-- the first LAC of each
two_places : places_of two_stretches 0 ≡ Some (2 ∷ 8 ∷ [])
two_places = refl

-- a stretch that lists none has no place
spin_places : places_of image 1 ≡ Some []
spin_places = refl
