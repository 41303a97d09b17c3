-- Items of code before it is linked that are instructions alone, and how a function begins and returns (docs/MACHINE.md, "Instructions"): by
-- the hardware stack, or by a data word of its own in which it keeps its return address.
use Rattle.std.specs.Prelude.{ℕ, ◌/◌, ◌%◌, List, [], ◌∷◌, Option, Some, None}
use Rattle.c25_isa.specs.declared.operand.Change.TheVariants.{Stay}
use Rattle.c25_isa.specs.declared.operand.Indirect.{Indirect}
use Rattle.c25_isa.specs.declared.operand.Operand.TheVariants.{Direct}
use Rattle.c25_isa.specs.declared.instruction.Instr.{Instr}
use Rattle.c25_isa.specs.declared.instruction.Instr.TheVariants.{Ldpk, Popd, Pshd, Ret}
use Rattle.c25_isa.specs.declared.piece.PieceItem.{PieceItem}
use Rattle.c25_isa.specs.declared.piece.PieceItem.TheVariants.{Do}

-- the operand of jumps and calls that change no register
abbrev pub no_change : Indirect
no_change = record { change = Stay; next = None }

abbrev pub plain_items : List Instr → List PieceItem
plain_items [] = []
plain_items (i ∷ is) = Do i ∷ plain_items is

-- a function begins by taking its return address into its word, if it has one
abbrev pub entry_code : Option ℕ → List Instr
entry_code None = []
entry_code (Some word) = Ldpk (word / 128) ∷ Popd (Direct (word % 128)) ∷ []

-- and returns by putting it back
abbrev pub return_code : Option ℕ → List Instr
return_code None = Ret ∷ []
return_code (Some word) = Ldpk (word / 128) ∷ Pshd (Direct (word % 128)) ∷ Ret ∷ []
