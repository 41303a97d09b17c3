-- Listings by hand.
use Rattle.std.proofs.Common.{◌≡◌, [], ◌∷◌, refl}
use Rattle.std.specs.Prelude.{codes}
use Rattle.std.specs.Fmt.{digits}
use Rattle.c25_dis.specs.Listing.{listing_text}

-- a program that puts 7 to port 1
seven : listing_text (0xc806 ∷ 0xca07 ∷ 0x6005 ∷ 0xe105 ∷ 0xce1f ∷ []) ≡ codes "LDPK 0x006\nLACK 0x07\nSACL 0x05,0\nOUT 0x05,PA1\nIDLE\n"
unfolding digits
seven = refl

nothing : listing_text [] ≡ []
nothing = refl

-- operands through registers, with and without one that is current afterwards
indirect : listing_text (0x20ab ∷ 0x2fd0 ∷ 0x10e0 ∷ 0x329c ∷ 0x3080 ∷ 0x838a ∷ 0x4590 ∷ 0x7aaf ∷ 0x5589 ∷ 0x5580 ∷ [])
    ≡ codes "LAC *+,0,AR3\nLAC *0-,15\nSUB *0+,0\nLAR AR2,*-,AR4\nLAR AR0,*\nIN *,PA3,AR2\nSUBS *-\nPOPD *+,AR7\nMAR *,AR1\nMAR *\n"
unfolding digits
indirect = refl

direct : listing_text (0x0a7f ∷ 0x6f00 ∷ 0x7105 ∷ 0xef1f ∷ 0x4b2a ∷ []) ≡ codes "ADD 0x7f,10\nSACH 0x00,7\nSAR AR1,0x05\nOUT 0x1f,PA15\nRPT 0x2a\n"
unfolding digits
direct = refl

constants : listing_text (0x7e0a ∷ 0xa000 ∷ 0xafff ∷ 0xb000 ∷ 0xbfff ∷ 0xc205 ∷ 0xc9ff ∷ 0xcbff ∷ [])
    ≡ codes "ADRK 0x0a\nMPYK 0\nMPYK 4095\nMPYK -4096\nMPYK -1\nLARK AR2,0x05\nLDPK 0x1ff\nRPTK 0xff\n"
unfolding digits
constants = refl

-- the row SPM has its one operand always
fixed : listing_text (0xce02 ∷ 0xce08 ∷ 0xce26 ∷ []) ≡ codes "ROVM\nSPM 0\nRET\n"
fixed = refl

two_words : listing_text (0xd300 ∷ 0x0310 ∷ 0xd501 ∷ 0xabcd ∷ 0xd004 ∷ 0x00ff ∷ []) ≡ codes "LRLK AR3,0x0310\nLALK 0xabcd,5\nANDK 0x00ff\n"
unfolding digits
two_words = refl

-- the operand of a jump is left out where it does nothing
jumps : listing_text (0xff80 ∷ 0x0010 ∷ 0xff88 ∷ 0x0010 ∷ 0xf59b ∷ 0xfffe ∷ 0xf190 ∷ 0x0000 ∷ 0xfe80 ∷ 0x0006 ∷ [])
    ≡ codes "B 0x0010\nB 0x0010,*,AR0\nBNZ 0xfffe,*-,AR3\nBGZ 0x0000,*-\nCALL 0x0006\n"
unfolding digits
jumps = refl

-- words in no row: an operand byte that is none, a jump with a direct operand, a constant with a shift
no_rows : listing_text (0x2081 ∷ 0xff10 ∷ 0xd104 ∷ 0x9fff ∷ []) ≡ codes ".word 0x2081\n.word 0xff10\n.word 0xd104\n.word 0x9fff\n"
no_rows = refl

-- the second word of the last instruction is missing
cut_off : listing_text (0xce1f ∷ 0xff80 ∷ []) ≡ codes "IDLE\n.word 0xff80\n"
cut_off = refl

-- a second word that would be an instruction is none
second_word : listing_text (0xd001 ∷ 0xce1f ∷ 0xce1f ∷ []) ≡ codes "LALK 0xce1f,0\nIDLE\n"
unfolding digits
second_word = refl
