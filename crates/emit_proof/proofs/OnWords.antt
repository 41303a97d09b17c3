-- Row by row, what an operation on a word of data memory makes of the registers is so of the machine's behind it.
use Rattle.std.proofs.Common.{◌≡◌, ℕ, Some, refl, sym, subst}
use Rattle.std.specs.Prelude.{bit_or, bit_xor}
use Rattle.c25_isa.specs.declared.operand.Operand.{Operand}
use Rattle.c25_isa.specs.Step.{plus, minus}
use Rattle.c25_code.specs.Work.{Work, InRange}
use Rattle.c25_code.specs.Straight.{operand_word, operand_address, behind_instr}
use Rattle.acc_code.specs.declared.operation.AccOp.{AccOp}
use Rattle.acc_code.specs.declared.operation.AccOp.TheVariants as row
use Rattle.ir_semantics.specs.AccRows.{Registers, low_half, scaled, exact, combined, masked, acted}
use Rattle.emit_blocks.specs.Instructions.{word_instr}
use Rattle.emit_proof.specs.Registers.{RegistersAlike}
use Rattle.emit_proof.specs.Rows.{WorksOnWord}
use Rattle.emit_proof.proofs.LowHalves.{plus_low, minus_low, or_low, xor_low}
use Rattle.emit_proof.proofs.Known.{masked_alike}
use Rattle.emit_proof.proofs.Made.{wide, registers_are, acc_set, acc_made, by_t_made, product_set, scaled_is, scaled_made, exact_made, by_t_is}

module _ (r s : Registers) (w : Work) (range : InRange w) (h : RegistersAlike r w) where
  pub acts_on_word : (o : AccOp) (m : Operand) → WorksOnWord o → acted o (operand_word w m) r ≡ Some s → RegistersAlike s (behind_instr (word_instr o m) w)
  acts_on_word (row.Add shift) m works e = acc_made r s (behind_instr (word_instr (row.Add shift) m) w) h.t h.p h.sxm (combined plus r.acc (scaled r.sxm (operand_word w m) shift)) (scaled_made r s w range h plus plus_low (operand_word w m) shift) e
  acts_on_word (row.Sub shift) m works e = acc_made r s (behind_instr (word_instr (row.Sub shift) m) w) h.t h.p h.sxm (combined minus r.acc (scaled r.sxm (operand_word w m) shift)) (scaled_made r s w range h minus minus_low (operand_word w m) shift) e
  acts_on_word (row.Lac shift) m works e = acc_set r s (behind_instr (word_instr (row.Lac shift) m) w) h.t h.p h.sxm (scaled r.sxm (operand_word w m) shift) (scaled_is r s w range h (operand_word w m) shift) e
  acts_on_word row.Mpy m works e = product_set r s r.t (operand_word w m) (behind_instr (word_instr row.Mpy m) w) w.t h.acc h.t h.sxm h.t refl e
  acts_on_word row.Lt m works e = registers_are (record r { t = Some (operand_word w m) }) s (behind_instr (word_instr row.Lt m) w) (record { acc = h.acc; t = refl; p = h.p; sxm = h.sxm }) e
  acts_on_word row.Zals m works e = acc_set r s (behind_instr (word_instr row.Zals m) w) h.t h.p h.sxm (exact (operand_word w m)) refl e
  acts_on_word row.Lact m works e = by_t_made r s (behind_instr (word_instr row.Lact m) w) h.t h.p h.sxm r.t (operand_word w m) (by_t_is r s w range h (operand_word w m)) e
  acts_on_word row.Subs m works e = acc_made r s (behind_instr (word_instr row.Subs m) w) h.t h.p h.sxm (combined minus r.acc (exact (operand_word w m))) (exact_made r s w range h minus minus_low (operand_word w m) (operand_word w m) (wide (operand_word w m) (range.ram (operand_address w m))) refl) e
  acts_on_word row.Adds m works e = acc_made r s (behind_instr (word_instr row.Adds m) w) h.t h.p h.sxm (combined plus r.acc (exact (operand_word w m))) (exact_made r s w range h plus plus_low (operand_word w m) (operand_word w m) (wide (operand_word w m) (range.ram (operand_address w m))) refl) e
  acts_on_word row.Xor m works e = acc_made r s (behind_instr (word_instr row.Xor m) w) h.t h.p h.sxm (combined bit_xor r.acc (exact (operand_word w m))) (exact_made r s w range h bit_xor xor_low (operand_word w m) (operand_word w m) (wide (operand_word w m) (range.ram (operand_address w m))) refl) e
  acts_on_word row.Or m works e = acc_made r s (behind_instr (word_instr row.Or m) w) h.t h.p h.sxm (combined bit_or r.acc (exact (operand_word w m))) (exact_made r s w range h bit_or or_low (operand_word w m) (operand_word w m) (wide (operand_word w m) (range.ram (operand_address w m))) refl) e
  acts_on_word row.And m works e = acc_made r s (behind_instr (word_instr row.And m) w) h.t h.p h.sxm (masked (low_half r.acc) (operand_word w m)) (λ c made. masked_alike r.acc c w.acc (operand_word w m) (range.ram (operand_address w m)) h.acc made) e
  acts_on_word (row.Out port) m works e = absurd cc
  acts_on_word row.Point m works e = absurd works
  acts_on_word (row.Sacl shift) m works e = absurd works
  acts_on_word (row.Sach shift) m works e = absurd works
  acts_on_word (row.In port) m works e = absurd works
  acts_on_word row.Mpyk m works e = absurd works
  acts_on_word row.Lack m works e = absurd works
  acts_on_word row.Addk m works e = absurd works
  acts_on_word row.Subk m works e = absurd works
  acts_on_word (row.Lalk shift) m works e = absurd works
  acts_on_word (row.Adlk shift) m works e = absurd works
  acts_on_word (row.Sblk shift) m works e = absurd works
  acts_on_word row.Andk m works e = absurd works
  acts_on_word row.Ork m works e = absurd works
  acts_on_word row.Xork m works e = absurd works
  acts_on_word row.Dint m works e = absurd works
  acts_on_word row.Rovm m works e = absurd works
  acts_on_word row.Rsxm m works e = absurd works
  acts_on_word row.Ssxm m works e = absurd works
  acts_on_word row.Spm m works e = absurd works
  acts_on_word row.Pac m works e = absurd works
  acts_on_word row.Apac m works e = absurd works
  acts_on_word row.Spac m works e = absurd works
  acts_on_word row.Sfl m works e = absurd works
  acts_on_word row.Sfr m works e = absurd works
  acts_on_word row.Neg m works e = absurd works
  acts_on_word row.Cmpl m works e = absurd works

pub on_words : (o : AccOp) (m : Operand) (x : ℕ) (r s : Registers) (w : Work) → WorksOnWord o → InRange w → operand_word w m ≡ x → RegistersAlike r w → acted o x r ≡ Some s → RegistersAlike s (behind_instr (word_instr o m) w)
on_words o m x r s w works range is h e = acts_on_word r s w range h o m works (subst (λ i. acted o i r ≡ Some s) (sym is) e)

-- a load of AR1
pub on_pointers : (m : Operand) (r : Registers) (w : Work) → RegistersAlike r w → RegistersAlike r (behind_instr (word_instr row.Point m) w)
on_pointers m r w h = record { acc = h.acc; t = h.t; p = h.p; sxm = h.sxm }
