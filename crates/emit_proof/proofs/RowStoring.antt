-- What is stored, put and taken is what accumulator code says.
use Rattle.std.proofs.Common.{◌≡◌, ℕ, ◌*◌, ◌/◌, ◌^◌, List, ◌∷◌, Some, cond, ap, ◌∙◌}
use Rattle.std.specs.Prelude.{◌==◌}
use Rattle.c25_isa.specs.declared.operand.Operand.{Operand}
use Rattle.c25_isa.specs.Step.{wrap16, wrap32}
use Rattle.c25_code.specs.Work.{Work}
use Rattle.c25_code.specs.Straight.{operand_word, ram_becomes, first_of, rest_of, behind_instr, output_of}
use Rattle.acc_code.specs.declared.operation.AccOp.TheVariants as row
use Rattle.ir_semantics.specs.AccRows.{Acc, Gone, Low, Whole, Registers, low_half, whole_of, low_stored, high_stored}
use Rattle.emit_blocks.specs.Instructions.{word_instr}
use Rattle.emit_proof.specs.Registers.{AccAlike, RegistersAlike}
use Rattle.emit_proof.proofs.LowHalves.{moved_low}

-- the low half, moved up
low_word : (a : Acc) (shift x acc : ℕ) → AccAlike a acc → low_stored (low_half a) shift ≡ Some x → wrap16 (acc * 2 ^ shift) ≡ x
low_word Gone shift x acc h e = absurd cc
low_word (Low u) shift x acc h e = moved_low acc (2 ^ shift) ∙ ap (λ i. wrap16 (i * 2 ^ shift)) h ∙ (let is : wrap16 (u * 2 ^ shift) ≡ x = cc in is)
low_word (Whole z) shift x acc h e = moved_low acc (2 ^ shift) ∙ ap (λ i. wrap16 (wrap16 i * 2 ^ shift)) h ∙ (let is : wrap16 (wrap16 z * 2 ^ shift) ≡ x = cc in is)

pub low_is_stored : (shift : ℕ) (m : Operand) (x : ℕ) (r : Registers) (w : Work) → RegistersAlike r w → low_stored (low_half r.acc) shift ≡ Some x → behind_instr (word_instr (row.Sacl shift) m) w ≡ ram_becomes m x w
low_is_stored shift m x r w h e = ap (λ i. ram_becomes m i w) (low_word r.acc shift x w.acc h.acc e)

-- the high half of what is moved up
high_word : (a : Acc) (shift x acc : ℕ) → AccAlike a acc → high_stored (whole_of a) shift ≡ Some x → wrap32 (acc * 2 ^ shift) / 65536 ≡ x
high_word Gone shift x acc h e = absurd cc
high_word (Low u) shift x acc h e = absurd cc
high_word (Whole z) shift x acc h e = ap (λ i. wrap32 (i * 2 ^ shift) / 65536) h ∙ (let is : wrap32 (z * 2 ^ shift) / 65536 ≡ x = cc in is)

pub high_is_stored : (shift : ℕ) (m : Operand) (x : ℕ) (r : Registers) (w : Work) → RegistersAlike r w → high_stored (whole_of r.acc) shift ≡ Some x → behind_instr (word_instr (row.Sach shift) m) w ≡ ram_becomes m x w
high_is_stored shift m x r w h e = ap (λ i. ram_becomes m i w) (high_word r.acc shift x w.acc h.acc e)

-- the first word of a port
pub is_taken_in : (port : ℕ) (m : Operand) (x : ℕ) (xs : List ℕ) (w : Work) → w.input port ≡ x ∷ xs → behind_instr (word_instr (row.In port) m) w ≡ ram_becomes m x (record w { input = λ p. cond (p == port) xs (w.input p) })
is_taken_in port m x xs w e = ap (λ l. ram_becomes m (first_of l) (record w { input = λ p. cond (p == port) (rest_of l) (w.input p) })) e

-- the word that is put
pub is_put : (port : ℕ) (m : Operand) (x : ℕ) (w : Work) → operand_word w m ≡ x → output_of (word_instr (row.Out port) m) w ≡ Some (port, x)
is_put port m x w e = ap (λ i. Some (port, i)) e
