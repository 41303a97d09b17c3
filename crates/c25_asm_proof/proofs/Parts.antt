-- Operands as a listing writes them are read.
use Rattle.std.proofs.Common.{◌≡◌, ℕ, suc, ◌<◌, ◌^◌, ◌==◌, ℤ, pos, negsuc, List, [], ◌∷◌, ◌++◌, length, Option, Some, None, refl, ap, ◌∙◌, arith, append-nil}
use Rattle.std.specs.Prelude.{codes, decimal, Ok}
use Rattle.std.specs.List.{AllByRecursion}
use Rattle.std.proofs.lemmas.Fmt.{decimal_nonempty}
use Rattle.c25_isa.specs.declared.operand.Change.{Change}
use Rattle.c25_isa.specs.declared.operand.Change.TheVariants.{Stay, Down, Up, DownIndex, UpIndex}
use Rattle.c25_isa.specs.declared.operand.Indirect.{Indirect}
use Rattle.c25_isa.specs.declared.operand.Operand.{Operand}
use Rattle.c25_isa.specs.declared.operand.Operand.TheVariants as operand
use Rattle.c25_isa.specs.Table.{IsNext, IsIndirect, IsOperand, IsSigned13}
use Rattle.c25_dis.specs.declared.part.Part.{Part}
use Rattle.c25_dis.specs.declared.part.Part.TheVariants as part
use Rattle.c25_dis.specs.Operands.{change_text, place_text, part_text, behind_commas, next_parts, next_of}
use Rattle.c25_asm.specs.Cuts.{first_operand, more_operands}
use Rattle.c25_asm.specs.Numbers.{number, below}
use Rattle.c25_asm.specs.Names.{Labels, is_name}
use Rattle.c25_asm.specs.Operands.{made, register, word, word_by, change_of, indirect_with, indirect_by, indirect, place_by, place}
use Rattle.c25_asm.proofs.CutLemmas.{before_at, behind_at, before_none, behind_none}
use Rattle.c25_asm_proof.proofs.Plain.{ArePlain, all_lack, no_comma, is_plain, hex2_plain, hex3_plain, hex4_plain, decimal_plain}
use Rattle.c25_asm_proof.proofs.Numbers.{below_ok, hex2_read, register_read}

-- the operands behind the first one, where there are any
abbrev pub rest_text : List Part → Option (List ℕ)
rest_text [] = None
rest_text (p ∷ ps) = Some (part_text p ++ behind_commas ps)

abbrev pub joined : List Part → List ℕ
joined [] = []
joined (p ∷ ps) = part_text p ++ behind_commas ps

pub first_read : (text : List ℕ) (ps : List Part) → ArePlain text → first_operand (text ++ behind_commas ps) ≡ text
first_read text [] h = ap first_operand (append-nil text) ∙ before_none (λ b. b == 44) text (all_lack is_plain (λ b. b == 44) no_comma text h)
first_read text (p ∷ ps) h = before_at (λ b. b == 44) text 44 (part_text p ++ behind_commas ps) (all_lack is_plain (λ b. b == 44) no_comma text h) refl

pub more_read : (text : List ℕ) (ps : List Part) → ArePlain text → more_operands (text ++ behind_commas ps) ≡ rest_text ps
more_read text [] h = ap more_operands (append-nil text) ∙ behind_none (λ b. b == 44) text (all_lack is_plain (λ b. b == 44) no_comma text h)
more_read text (p ∷ ps) h = behind_at (λ b. b == 44) text 44 (part_text p ++ behind_commas ps) (all_lack is_plain (λ b. b == 44) no_comma text h) refl

-- ---- single operands

change_read : (c : Change) → change_of (change_text c) ≡ Some c
change_read Stay = refl
change_read Down = refl
change_read Up = refl
change_read DownIndex = refl
change_read UpIndex = refl

change_plain : (c : Change) → ArePlain (change_text c)
change_plain Stay = refl
change_plain Down = refl
change_plain Up = refl
change_plain DownIndex = refl
change_plain UpIndex = refl

change_some : (c : Change) → 0 < length (change_text c)
change_some Stay = omega arith
change_some Down = omega arith
change_some Up = omega arith
change_some DownIndex = omega arith
change_some UpIndex = omega arith

-- a register behind all others
next_read : (change : Change) (next : Option ℕ) → IsNext next → indirect_by (Some change) (rest_text (next_parts next)) ≡ Ok (indirect_with change next)
next_read change None h = refl
next_read change (Some r) h = ap (made (λ n. indirect_with change (Some n))) (ap register (append-nil (codes "AR" ++ decimal r)) ∙ register_read r h)

pub indirect_read : (i : Indirect) → IsIndirect i → indirect (change_text i.change) (rest_text (next_parts i.next)) ≡ Ok i
indirect_read i h = ap (λ c. indirect_by c (rest_text (next_parts i.next))) (change_read i.change) ∙ next_read i.change i.next h

pub place_read : (o : Operand) → IsOperand o → place (place_text o) (rest_text (next_parts (next_of o))) ≡ Ok o
place_read (operand.Direct n) h = ap (λ f. made operand.Direct (below 128 f)) (hex2_read n (omega (arith, h))) ∙ ap (made operand.Direct) (below_ok 128 n h)
place_read (operand.Indirect i) h =
    ap (λ c. place_by c (change_text i.change) (rest_text (next_parts i.next))) (change_read i.change)
    ∙ ap (made operand.Indirect) (next_read i.change i.next h)

pub word_read : (labels : Labels) (text : List ℕ) (w : ℕ) → number text ≡ Some w → w < 65536 → word labels text ≡ Ok w
word_read labels text w e lt = ap (λ f. word_by f (is_name text) (labels text)) e ∙ below_ok 65536 w lt

pub below_read : (bound : ℕ) (text : List ℕ) (n : ℕ) → number text ≡ Some n → n < bound → below bound (number text) ≡ Ok n
below_read bound text n e lt = ap (below bound) e ∙ below_ok bound n lt

-- ---- the bytes of operands

pub place_plain : (o : Operand) → ArePlain (place_text o)
place_plain (operand.Direct n) = hex2_plain n
place_plain (operand.Indirect i) = change_plain i.change

place_some : (o : Operand) → 0 < length (place_text o)
place_some (operand.Direct n) = omega arith
place_some (operand.Indirect i) = change_some i.change

-- an operand's text has a byte, and none that ends it
pub record IsWritten (p : Part) : Type 0 where
  pub some : 0 < length (part_text p)
  pub plain : ArePlain (part_text p)

pub place_written : (o : Operand) → IsWritten (part.Place o)
place_written o = record { some = place_some o; plain = place_plain o }

pub shift_written : (s : ℕ) → s < 2 ^ 64 → IsWritten (part.Shift s)
shift_written s lt = record { some = decimal_nonempty s lt; plain = decimal_plain s lt }

pub register_written : (r : ℕ) → r < 2 ^ 64 → IsWritten (part.Register r)
register_written r lt = record { some = omega arith; plain = decimal_plain r lt }

pub port_written : (p : ℕ) → p < 2 ^ 64 → IsWritten (part.Port p)
port_written p lt = record { some = omega arith; plain = decimal_plain p lt }

pub byte_written : (n : ℕ) → IsWritten (part.Byte n)
byte_written n = record { some = omega arith; plain = hex2_plain n }

pub page_written : (n : ℕ) → IsWritten (part.Page n)
page_written n = record { some = omega arith; plain = hex3_plain n }

pub word_written : (w : ℕ) → w < 65536 → IsWritten (part.Word w)
word_written w lt = record { some = omega arith; plain = hex4_plain w lt }

pub signed_written : (z : ℤ) → IsSigned13 z → IsWritten (part.Signed z)
signed_written (pos n) h = record { some = decimal_nonempty n (omega (arith, h)); plain = decimal_plain n (omega (arith, h)) }
signed_written (negsuc n) h = record { some = omega arith; plain = decimal_plain (suc n) (omega (arith, h)) }

pub next_written : (next : Option ℕ) → IsNext next → AllByRecursion IsWritten (next_parts next)
next_written None h = tt {0}
next_written (Some r) h = (register_written r (omega (arith, h)), tt {0})

pub next_fits : (o : Operand) → IsOperand o → IsNext (next_of o)
next_fits (operand.Direct n) h = tt {0}
next_fits (operand.Indirect i) h = h
