-- Loops that clear words behind one another (docs/MACHINE.md, "Jumps, calls and the hardware stack"): AR1 is at the next word, ACC counts the words
-- that are left, and ACC's high half is the 0 that is stored. One begins at ARP 1, the other at any ARP.
use Rattle.std.specs.Prelude.{ℕ, ◌+◌, nat_le, nat_lt, ◌&&◌, if◌then◌else◌, List, [], ◌∷◌, ◌++◌, Some, None}
use Rattle.c25_isa.specs.declared.operand.Change.TheVariants.{Stay, Up}
use Rattle.c25_isa.specs.declared.operand.Operand.TheVariants.{Indirect as Through}
use Rattle.c25_isa.specs.declared.instruction.Instr.{Instr}
use Rattle.c25_isa.specs.declared.instruction.Instr.TheVariants.{Mar, Sach, Subk}
use Rattle.c25_isa.specs.declared.instruction.JumpOp.{JumpOp}
use Rattle.c25_isa.specs.declared.instruction.JumpOp.TheVariants.{Bgz, Bnz}
use Rattle.c25_isa.specs.declared.piece.PieceItem.{PieceItem}
use Rattle.c25_isa.specs.declared.piece.PieceItem.TheVariants.{Mark, Jump}
use Rattle.c25_isa.specs.State.{Memory, write}
use Rattle.c25_isa.specs.Step.{wrap16}
use Rattle.c25_code.specs.Work.{Work}
use Rattle.c25_code.specs.Items.{no_change, plain_items}

-- so many words from an address on are 0
abbrev pub zeroed : ℕ → ℕ → Memory → Memory
zeroed start n ram a = if nat_le start a && nat_lt a (start + n) then 0 else ram a

-- work behind a loop that cleared so many words from AR1 on: AR1 is behind the last one
abbrev pub behind_clearing : ℕ → Work → Work
behind_clearing n w = record w { acc = 0; arp = 1; ar = write w.ar 1 (wrap16 (w.ar 1 + n)); ram = zeroed (w.ar 1) n w.ram }

-- a turn up to its branch, where ARP is 1, and where it may be any
abbrev pub turn_at_one : List Instr
turn_at_one = Sach 0 (Through (record { change = Up; next = None })) ∷ Subk 1 ∷ []

abbrev pub turn_at_any : List Instr
turn_at_any = Mar (record { change = Stay; next = Some 1 }) ∷ turn_at_one

-- a turn again and again
abbrev pub loop_items : List Instr → JumpOp → ℕ → List PieceItem
loop_items turn op mark = Mark mark ∷ (plain_items turn ++ Jump op mark no_change ∷ [])

-- the startup's loop, and that of a function
abbrev pub clears_at_one : ℕ → List PieceItem
clears_at_one mark = loop_items turn_at_one Bnz mark

abbrev pub clears_at_any : ℕ → List PieceItem
clears_at_any mark = loop_items turn_at_any Bgz mark
