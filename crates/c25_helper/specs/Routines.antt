-- Routines of the words at 0300h and 0301h for what the machine has no instruction for (docs/MACHINE.md, "Loads of ACC, sums and differences",
-- "Bits and shifts of ACC", and "Ports, repeats and modes"). Each returns its word in the low half of ACC, by the hardware stack. Page 6 and SXM
-- are then set; 0302h is overwritten, by signed division 0300h and 0303h too, and by shifts T.
use Rattle.std.specs.Prelude.{ℕ, false, List, [], ◌∷◌, map, codes, None}
use Rattle.c25_isa.specs.declared.operand.Change.TheVariants.{Stay}
use Rattle.c25_isa.specs.declared.operand.Indirect.{Indirect}
use Rattle.c25_isa.specs.declared.operand.Operand.TheVariants.{Direct}
use Rattle.c25_isa.specs.declared.instruction.Instr.{Instr}
use Rattle.c25_isa.specs.declared.instruction.Instr.TheVariants.{Sub, Lac, Lt, Zals, Lact, Subs, Subc, Xor, Sacl, Sach, Ldpk, Lack, Rptk, Rsxm, Ssxm, Neg, Ret}
use Rattle.c25_isa.specs.declared.instruction.JumpOp.TheVariants.{Blz, Bgez}
use Rattle.c25_isa.specs.declared.piece.PieceItem.{PieceItem}
use Rattle.c25_isa.specs.declared.piece.PieceItem.TheVariants.{Do, Mark, Jump}
use Rattle.c25_isa.specs.Pieces.{Piece}
use Rattle.c25_helper.specs.declared.routine.Routine.{Routine}
use Rattle.c25_helper.specs.declared.routine.Routine.TheVariants.{DivInt, DivUnsigned, RemInt, RemUnsigned, ShrInt, ShrUnsigned}

-- the operand of jumps that change no register
abbrev pub no_change : Indirect
no_change = record { change = Stay; next = None }

-- the sizes of the words are divided. The sign of the quotient is that of the one word xor the other, which 0302h keeps. By -32768, whose size
-- SUBC can't take, the quotient is 1 for -32768, and else 0
abbrev pub divint_items : List PieceItem
divint_items =
    Do (Ldpk 6)
    ∷ Do Ssxm
    ∷ Do (Lac 0 (Direct 0))
    ∷ Do (Xor (Direct 1))
    ∷ Do (Sacl 0 (Direct 2))
    ∷ Do (Lac 0 (Direct 1))
    ∷ Jump Bgez 1 no_change
    ∷ Do Neg
    ∷ Mark 1
    ∷ Do (Sacl 0 (Direct 3))
    ∷ Do (Lac 0 (Direct 0))
    ∷ Jump Bgez 2 no_change
    ∷ Do Neg
    ∷ Mark 2
    ∷ Do (Sacl 0 (Direct 0))
    ∷ Do (Lac 0 (Direct 3))
    ∷ Jump Blz 4 no_change
    ∷ Do (Zals (Direct 0))
    ∷ Do (Rptk 15)
    ∷ Do (Subc (Direct 3))
    ∷ Do (Sacl 0 (Direct 0))
    ∷ Do (Lac 0 (Direct 2))
    ∷ Jump Blz 3 no_change
    ∷ Do (Lac 0 (Direct 0))
    ∷ Do Ret
    ∷ Mark 3
    ∷ Do (Lac 0 (Direct 0))
    ∷ Do Neg
    ∷ Do Ret
    ∷ Mark 4
    ∷ Do (Lac 0 (Direct 0))
    ∷ Jump Blz 5 no_change
    ∷ Do (Lack 0)
    ∷ Do Ret
    ∷ Mark 5
    ∷ Do (Lack 1)
    ∷ Do Ret
    ∷ []

-- by a divisor from 8000h on, which SUBC can't take, the quotient is 1 or 0
abbrev pub divuns_items : List PieceItem
divuns_items =
    Do (Ldpk 6)
    ∷ Do Ssxm
    ∷ Do (Lac 0 (Direct 1))
    ∷ Jump Blz 1 no_change
    ∷ Do (Zals (Direct 0))
    ∷ Do (Rptk 15)
    ∷ Do (Subc (Direct 1))
    ∷ Do Ret
    ∷ Mark 1
    ∷ Do (Zals (Direct 0))
    ∷ Do (Subs (Direct 1))
    ∷ Jump Blz 2 no_change
    ∷ Do (Lack 1)
    ∷ Do Ret
    ∷ Mark 2
    ∷ Do (Lack 0)
    ∷ Do Ret
    ∷ []

-- the sign of the remainder is that of the dividend, which 0302h keeps. By -32768 it is 0 for -32768, and else the dividend
abbrev pub remint_items : List PieceItem
remint_items =
    Do (Ldpk 6)
    ∷ Do Ssxm
    ∷ Do (Lac 0 (Direct 1))
    ∷ Jump Bgez 1 no_change
    ∷ Do Neg
    ∷ Mark 1
    ∷ Do (Sacl 0 (Direct 3))
    ∷ Do (Lac 0 (Direct 0))
    ∷ Do (Sacl 0 (Direct 2))
    ∷ Jump Bgez 2 no_change
    ∷ Do Neg
    ∷ Mark 2
    ∷ Do (Sacl 0 (Direct 0))
    ∷ Do (Lac 0 (Direct 3))
    ∷ Jump Blz 4 no_change
    ∷ Do (Zals (Direct 0))
    ∷ Do (Rptk 15)
    ∷ Do (Subc (Direct 3))
    ∷ Do (Sach 0 (Direct 0))
    ∷ Do (Lac 0 (Direct 2))
    ∷ Jump Blz 3 no_change
    ∷ Do (Lac 0 (Direct 0))
    ∷ Do Ret
    ∷ Mark 3
    ∷ Do (Lac 0 (Direct 0))
    ∷ Do Neg
    ∷ Do Ret
    ∷ Mark 4
    ∷ Do (Lac 0 (Direct 0))
    ∷ Jump Blz 5 no_change
    ∷ Do (Lac 0 (Direct 2))
    ∷ Do Ret
    ∷ Mark 5
    ∷ Do (Lack 0)
    ∷ Do Ret
    ∷ []

-- by a divisor from 8000h on it is the dividend, or that less the divisor
abbrev pub remuns_items : List PieceItem
remuns_items =
    Do (Ldpk 6)
    ∷ Do Ssxm
    ∷ Do (Lac 0 (Direct 1))
    ∷ Jump Blz 1 no_change
    ∷ Do (Zals (Direct 0))
    ∷ Do (Rptk 15)
    ∷ Do (Subc (Direct 1))
    ∷ Do (Sach 0 (Direct 2))
    ∷ Do (Lac 0 (Direct 2))
    ∷ Do Ret
    ∷ Mark 1
    ∷ Do (Zals (Direct 0))
    ∷ Do (Subs (Direct 1))
    ∷ Jump Bgez 2 no_change
    ∷ Do (Lac 0 (Direct 0))
    ∷ Mark 2
    ∷ Do Ret
    ∷ []

-- the word is shifted to the left by 15 less the count, and then bits 30 to 15 are taken
abbrev pub shift_items : Instr → List PieceItem
shift_items mode =
    Do (Ldpk 6)
    ∷ Do mode
    ∷ Do (Lack 15)
    ∷ Do (Sub 0 (Direct 1))
    ∷ Do (Sacl 0 (Direct 2))
    ∷ Do (Lt (Direct 2))
    ∷ Do (Lact (Direct 0))
    ∷ Do (Sach 1 (Direct 2))
    ∷ Do (Lac 0 (Direct 2))
    ∷ Do Ret
    ∷ []

abbrev pub routine_items : Routine → List PieceItem
routine_items DivInt = divint_items
routine_items DivUnsigned = divuns_items
routine_items RemInt = remint_items
routine_items RemUnsigned = remuns_items
routine_items ShrInt = shift_items Ssxm
routine_items ShrUnsigned = shift_items Rsxm

-- no name of C begins so
abbrev pub routine_name : Routine → List ℕ
routine_name DivInt = codes ".divint"
routine_name DivUnsigned = codes ".divuns"
routine_name RemInt = codes ".remint"
routine_name RemUnsigned = codes ".remuns"
routine_name ShrInt = codes ".shrint"
routine_name ShrUnsigned = codes ".shruns"

abbrev pub routine_piece : Routine → Piece
routine_piece r = record { name = routine_name r; listed = false; items = routine_items r }

abbrev pub all_routines : List Routine
all_routines = DivInt ∷ DivUnsigned ∷ RemInt ∷ RemUnsigned ∷ ShrInt ∷ ShrUnsigned ∷ []

-- their pieces, in this order
abbrev pub helper_pieces : List Piece
helper_pieces = map routine_piece all_routines
