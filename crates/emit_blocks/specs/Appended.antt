-- What is appended to code in memory, and what is known of it there.
use Rattle.std.specs.Prelude.{ℕ, ◌≡◌, List, ◌++◌, slice_index_or, Option, None}
use Rattle.c25_isa.specs.declared.instruction.Instr.{Instr}
use Rattle.c25_isa.specs.declared.piece.PieceItem.{PieceItem}
use Rattle.c25_code.specs.Items.{plain_items}
use Rattle.emit_blocks.specs.declared.known.Known as memory
use Rattle.emit_blocks.specs.Runs.{Known}

-- the code behind is that before and these instructions
abbrev pub Appends : List PieceItem → List PieceItem → List Instr → Type 0
Appends before behind code = behind ≡ before ++ plain_items code

abbrev pub stands_in : List (Option ℕ) → ℕ → Option ℕ
stands_in registers r = slice_index_or registers r None

abbrev pub known_of : memory.Known → Known
known_of k = record { page = k.page; stands = λ r. stands_in k.stands r; current = k.current }
