-- Texts by hand.
use Rattle.std.proofs.Common.{◌≡◌, [], ◌∷◌, refl}
use Rattle.std.specs.Prelude.{codes, Ok, Err}
use Rattle.c25_asm.specs.declared.fault.AsmFault.TheVariants as faults
use Rattle.c25_asm.specs.AssemblerText.{assembled}

-- a program that puts 7 to port 1
seven : assembled (codes "LDPK 0x006\nLACK 0x07\nSACL 0x05,0\nOUT 0x05,PA1\nIDLE\n") ≡ Ok (0xc806 ∷ 0xca07 ∷ 0x6005 ∷ 0xe105 ∷ 0xce1f ∷ [])
seven = refl

nothing : assembled [] ≡ Ok []
nothing = refl

-- a label that no line has
nowhere : assembled (codes "B nowhere") ≡ Err (faults.UnknownLabel 1)
nowhere = refl

-- labels before and behind their use, one of them behind an instruction of two words
labels : assembled (codes "start:\n B end ; to the end\n LALK start,3\nend: \n B start,*+,AR2") ≡ Ok (0xff80 ∷ 4 ∷ 0xd301 ∷ 0 ∷ 0xffaa ∷ 0 ∷ [])
labels = refl

-- either case, tabs, carriage returns before line feeds, no last line feed, leading zeros
spellings : assembled (codes "\tlac \t*+,0x00,AR3\t\r\n\r\nMpyK -4096\nSPM 0\nLACK 0007\nMPYK -0x1") ≡ Ok (0x20ab ∷ 0xb000 ∷ 0xce08 ∷ 0xca07 ∷ 0xbfff ∷ [])
spellings = refl

-- a number that fits no field, and forms that no number has
out_of_range : assembled (codes "LACK 256") ≡ Err (faults.OutOfRange 1)
out_of_range = refl

no_port : assembled (codes "IDLE\nIN 0,PA16\n") ≡ Err (faults.BadLine 2)
no_port = refl

-- the first line with a fault, and of two faults on a line the one that is told first
two_faults : assembled (codes "LALK x,16\nLACK\n") ≡ Err (faults.OutOfRange 1)
two_faults = refl

-- the label of an earlier line, also of a line behind one that is faulty
twice : assembled (codes "a:\nB b\nb:\na:\nLACK 256\n") ≡ Err (faults.LabelTwice 4)
twice = refl

-- a jump's operand is written only where it does something
idle_operand : assembled (codes "x:B x") ≡ Err (faults.BadLine 1)
idle_operand = refl

idle : assembled (codes "x:\nB x,*\n") ≡ Err (faults.BadLine 2)
idle = refl
