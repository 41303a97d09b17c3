-- The instructions of a range, as they are decoded one by one.
use Rattle.std.specs.Prelude.{◌≡◌, ℕ, ◌+◌, ◌<◌, ◌≤◌, List, ◌++◌, drop, length}
use Rattle.c25_isa.specs.declared.instruction.Instr.{Instr}
use Rattle.c25_isa.specs.Table.{IsInstr}
use Rattle.c25_isa.specs.Walk.{Placed, Code, code_from, in_front}

-- an instruction of one or two words
pub record IsPlaced (p : Placed) : Type 0 where
  pub fits : IsInstr p.instr
  pub some : p.at < p.behind
  pub few : p.behind ≤ p.at + 2

-- the instruction that stands at a word of a range, with its length
pub record StandsAt (words : List ℕ) (index : ℕ) (found : Instr × ℕ) : Type 0 where
  pub fits : IsInstr found.0
  pub some : 0 < found.1
  pub few : found.1 ≤ 2
  pub within : index + found.1 ≤ length words
  pub code : (at : ℕ) → code_from at 0 (drop index words) ≡ in_front (record { at = at; instr = found.0; behind = at + found.1 }) (code_from (at + found.1) 0 (drop (index + found.1) words))

-- instructions with what is behind them
abbrev pub behind_placed : List Placed → Code → Code
behind_placed placed code = record { placed = placed ++ code.placed; fault = code.fault }
