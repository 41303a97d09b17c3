-- Instructions that stand in program memory.
use Rattle.std.proofs.Common.{◌≡◌, ℕ, suc, ◌+◌, ◌<◌, ◌≤◌, List, [], ◌∷◌, ◌++◌, length, Option, Some, None, ap, ◌∙◌, subst, arith}
use Rattle.std.specs.List.{AllByRecursion}
use Rattle.c25_isa.specs.declared.instruction.Instr.{Instr}
use Rattle.c25_isa.specs.State.{State, Memory, Start, BeginsWith}
use Rattle.c25_isa.specs.Table.{IsInstr, first_word, second_word, with_second, length_of, code_words}
use Rattle.c25_isa.specs.Step.{wrap16, perform, step}
use Rattle.c25_isa.specs.Decode.{decode}
use Rattle.c25_isa.specs.CodeAt.{Follows, WordsAt, StandsAt, CodeAt}
use Rattle.c25_isa.proofs.Decoding.{decode-first_word}

head_at : (program : Memory) (pc w : ℕ) (ws : List ℕ) → WordsAt program pc (w ∷ ws) → program pc ≡ w
head_at program pc w ws at = let e : pc ≡ pc + 0 = omega arith in ap program e ∙ at 0 (omega arith)

tail_at : (program : Memory) (pc w : ℕ) (ws : List ℕ) → WordsAt program pc (w ∷ ws) → WordsAt program (pc + 1) ws
tail_at program pc w ws at a lt = let e : pc + 1 + a ≡ pc + suc a = omega arith in ap program e ∙ at (suc a) (omega arith)

-- the words of an instruction, and those behind it
pub record Cut (program : Memory) (pc first : ℕ) (second : Option ℕ) (rest : List ℕ) : Type 0 where
  pub first_at : program pc ≡ first
  pub second_at : Follows second (program (pc + 1))
  pub rest_at : WordsAt program (pc + length_of second) rest
  pub size : length (with_second first second ++ rest) ≡ length_of second + length rest

cut : (program : Memory) (pc first : ℕ) (second : Option ℕ) (rest : List ℕ) → WordsAt program pc (with_second first second ++ rest) → Cut program pc first second rest
cut program pc first None rest at = record {
  first_at = head_at program pc first rest at;
  second_at = tt;
  rest_at = tail_at program pc first rest at;
  size = omega arith;
}
cut program pc first (Some word) rest at =
    let behind = tail_at program pc first (word ∷ rest) at in
    let e : pc + 1 + 1 ≡ pc + 2 = omega arith in
    record {
      first_at = head_at program pc first (word ∷ rest) at;
      second_at = head_at program (pc + 1) word rest behind;
      rest_at = subst (λ n. WordsAt program n rest) e (tail_at program (pc + 1) word rest behind);
      size = omega arith;
    }

-- the words of instructions are these instructions
pub code_at : (program : Memory) (code : List Instr) (pc : ℕ) → AllByRecursion IsInstr code → WordsAt program pc (code_words code) → pc + length (code_words code) ≤ 65536 → CodeAt program pc code
code_at program [] pc fits at room = tt
code_at program (i ∷ code) pc fits at room =
    let parts = cut program pc (first_word i) (second_word i) (code_words code) at in (
      record { fits = fits.0; first = parts.first_at; second = parts.second_at; room = omega (arith, parts.size) },
      code_at program code (pc + length_of (second_word i)) fits.1 parts.rest_at (omega (arith, parts.size)),
    )

-- an instruction has a word
one_word : (o : Option ℕ) → 1 ≤ length_of o
one_word None = omega arith
one_word (Some word) = omega arith

pub stands_below : (program : Memory) (pc : ℕ) (i : Instr) → StandsAt program pc i → pc < 65536
stands_below program pc i at = omega (arith, at.room, one_word (second_word i))

-- at a reset the program memory begins with these instructions
pub code_at_reset : (s : Start) (code : List Instr) → AllByRecursion IsInstr code → BeginsWith (code_words code) s → length (code_words code) ≤ 65536 → CodeAt s.program 0 code
code_at_reset s code fits begins room =
    code_at s.program code 0 fits (λ a lt. let e : 0 + a ≡ a = omega arith in ap s.program e ∙ begins a lt) (omega arith)

-- the instruction at PC is decoded
pub decode_at : (s : State) (i : Instr) → StandsAt s.program s.pc i → decode (s.program s.pc) (s.program (wrap16 (s.pc + 1))) ≡ Some (i, length_of (second_word i))
decode_at s i at =
    ap (λ w. decode w (s.program (wrap16 (s.pc + 1)))) at.first
    ∙ decode-first_word i (s.program (wrap16 (s.pc + 1))) at.fits (next (second_word i) at.second at.room)
  where
    next : (o : Option ℕ) → Follows o (s.program (s.pc + 1)) → s.pc + length_of o ≤ 65536 → Follows o (s.program (wrap16 (s.pc + 1)))
    next None follows room = tt
    next (Some w) follows room = let e : wrap16 (s.pc + 1) ≡ s.pc + 1 = omega arith in ap s.program e ∙ follows

-- the machine does it
pub step_at : (s : State) (i : Instr) → StandsAt s.program s.pc i → step s ≡ perform s (Some (i, length_of (second_word i)))
step_at s i at = ap (perform s) (decode_at s i at)
