-- Words by their codes, computed: the ends of the fields, and words that are no instruction.
use Rattle.std.specs.Prelude.{pos, negsuc, [], ◌∷◌, Some, None}
use Rattle.std.proofs.Common.{◌≡◌, refl}
use Rattle.c25_isa.specs.declared.operand.Change.TheVariants.{Stay, Down, Up, DownIndex, UpIndex}
use Rattle.c25_isa.specs.declared.operand.Operand.TheVariants.{Direct, Indirect}
use Rattle.c25_isa.specs.declared.instruction.JumpOp.TheVariants as jump
use Rattle.c25_isa.specs.declared.instruction.Instr.TheVariants.{Lar, Mpy, Sacl, Sach, Mpyk, Ldpk, Lark, Lrlk, Lalk, Adlk, Sblk, Andk, Out, Mar, Branch, Call}
use Rattle.c25_isa.specs.Table.{first_word, instr_words}
use Rattle.c25_isa.specs.Decode.{decode}

greatest_page : decode 0xc9ff 0 ≡ Some (Ldpk 511, 1)
greatest_page = refl

greatest_shifts : decode 0x677f 0 ≡ Some (Sacl 7 (Direct 127), 1)
greatest_shifts = refl

least_shift_of_the_high_half : decode 0x6800 0 ≡ Some (Sach 0 (Direct 0), 1)
least_shift_of_the_high_half = refl

last_register : decode 0x3700 0 ≡ Some (Lar 7 (Direct 0), 1)
last_register = refl

behind_the_registers : decode 0x3800 0 ≡ Some (Mpy (Direct 0), 1)
behind_the_registers = refl

last_register_and_constant : decode 0xc7ff 0 ≡ Some (Lark 7 255, 1)
last_register_and_constant = refl

-- operand bytes with and without a next register
no_change : decode 0x6080 0 ≡ Some (Sacl 0 (Indirect (record { change = Stay; next = None })), 1)
no_change = refl

down_to_ar0 : decode 0xef98 0 ≡ Some (Out 15 (Indirect (record { change = Down; next = Some 0 })), 1)
down_to_ar0 = refl

up_to_ar3 : decode 0x55ab 0 ≡ Some (Mar (record { change = Up; next = Some 3 }), 1)
up_to_ar3 = refl

by_index_to_ar7 : decode 0x60ef 0 ≡ Some (Sacl 0 (Indirect (record { change = UpIndex; next = Some 7 })), 1)
by_index_to_ar7 = refl

less_index_at_a_jump : decode 0xffd0 0x1234 ≡ Some (Branch jump.B 0x1234 (record { change = DownIndex; next = None }), 2)
less_index_at_a_jump = refl

half_a_code : decode 0x6081 0 ≡ None
half_a_code = refl

no_such_change : decode 0x60b0 0 ≡ None
no_such_change = refl

-- a jump has an indirect operand
direct_at_a_jump : decode 0xff00 0 ≡ None
direct_at_a_jump = refl

-- signed constants of thirteen bits
greatest_constant : first_word (Mpyk (pos 4095)) ≡ 0xafff
greatest_constant = refl

least_constant : first_word (Mpyk (negsuc 4095)) ≡ 0xb000
least_constant = refl

less_one : decode 0xbfff 0 ≡ Some (Mpyk (negsuc 0), 1)
less_one = refl

least_constant_again : decode 0xb000 0 ≡ Some (Mpyk (negsuc 4095), 1)
least_constant_again = refl

greatest_constant_again : decode 0xafff 0 ≡ Some (Mpyk (pos 4095), 1)
greatest_constant_again = refl

-- constants in a second word
load : decode 0xdf01 0xfffe ≡ Some (Lalk 15 0xfffe, 2)
load = refl

sum : decode 0xd702 5 ≡ Some (Adlk 7 5, 2)
sum = refl

difference : decode 0xd003 5 ≡ Some (Sblk 0 5, 2)
difference = refl

register : decode 0xd700 0xffff ≡ Some (Lrlk 7 0xffff, 2)
register = refl

no_eighth_register : decode 0xd800 0 ≡ None
no_eighth_register = refl

low_half : decode 0xd004 0xff ≡ Some (Andk 0xff, 2)
low_half = refl

no_shift_there : decode 0xd104 0xff ≡ None
no_shift_there = refl

two_words : instr_words (Call 0x0100 (record { change = Up; next = Some 1 })) ≡ 0xfea9 ∷ 0x0100 ∷ []
two_words = refl
