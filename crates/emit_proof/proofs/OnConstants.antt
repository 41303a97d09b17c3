-- Row by row, what an operation on a constant, or on the registers alone, makes of the registers is so of the machine's behind it.
use Rattle.std.proofs.Common.{◌≡◌, ℕ, ◌<◌, true, false, Option, Some, None, refl, ap, lit<}
use Rattle.std.specs.Prelude.{bit_or, bit_xor}
use Rattle.c25_isa.specs.Step.{plus, minus, product}
use Rattle.c25_code.specs.Work.{Work, InRange}
use Rattle.c25_code.specs.Straight.{behind_instr}
use Rattle.acc_code.specs.declared.operation.AccOp.{AccOp}
use Rattle.acc_code.specs.declared.operation.AccOp.TheVariants as row
use Rattle.ir_semantics.specs.AccRows.{Registers, low_half, whole_of, scaled, exact, combined, masked, halved, doubled, complemented, known, points_at, acted}
use Rattle.emit_blocks.specs.Instructions.{constant_instr}
use Rattle.emit_proof.specs.Registers.{RegistersAlike}
use Rattle.emit_proof.specs.Rows.{WorksOnConstant}
use Rattle.emit_proof.proofs.LowHalves.{plus_low, minus_low, or_low, xor_low}
use Rattle.emit_proof.proofs.Known.{alike_by, combined_alike, masked_alike, halved_alike, doubled_alike, complemented_alike}
use Rattle.emit_proof.proofs.Made.{wide, registers_are, acc_set, acc_made, product_made, known_is, product_set, constant_signed, scaled_is, scaled_made, exact_made}

pub pointed_anywhere : (a : Option ℕ) (r s : Registers) (u : Work) → RegistersAlike r u → points_at a r ≡ Some s → RegistersAlike s u
pointed_anywhere None r s u h e = absurd cc
pointed_anywhere (Some a) r s u h e = registers_are (record r { pointed = Some a }) s u (record { acc = h.acc; t = h.t; p = h.p; sxm = h.sxm }) e

module _ (r s : Registers) (w : Work) (range : InRange w) (h : RegistersAlike r w) where
  -- P is what is known of it
  p_is : (y : ℕ) → r.p ≡ Some y → w.p ≡ y
  p_is y e = known_is r.p w.p y h.p e

  pub acts_on_constant : (o : AccOp) (x : ℕ) → WorksOnConstant o → x < 65536 → acted o x r ≡ Some s → RegistersAlike s (behind_instr (constant_instr o x) w)
  acts_on_constant row.Point x works lt e = pointed_anywhere (low_half r.acc) r s (behind_instr (constant_instr row.Point x) w) (record { acc = h.acc; t = h.t; p = h.p; sxm = h.sxm }) e
  acts_on_constant row.Mpyk x works lt e = product_set r s r.t x (behind_instr (constant_instr row.Mpyk x) w) w.t h.acc h.t h.sxm h.t (ap (product w.t) (constant_signed x lt)) e
  acts_on_constant row.Lack x works lt e = acc_set r s (behind_instr (constant_instr row.Lack x) w) h.t h.p h.sxm (exact x) refl e
  acts_on_constant row.Addk x works lt e = acc_made r s (behind_instr (constant_instr row.Addk x) w) h.t h.p h.sxm (combined plus r.acc (exact x)) (exact_made r s w range h plus plus_low x x (wide x lt) refl) e
  acts_on_constant row.Subk x works lt e = acc_made r s (behind_instr (constant_instr row.Subk x) w) h.t h.p h.sxm (combined minus r.acc (exact x)) (exact_made r s w range h minus minus_low x x (wide x lt) refl) e
  acts_on_constant (row.Lalk shift) x works lt e = acc_set r s (behind_instr (constant_instr (row.Lalk shift) x) w) h.t h.p h.sxm (scaled r.sxm x shift) (scaled_is r s w range h x shift) e
  acts_on_constant (row.Adlk shift) x works lt e = acc_made r s (behind_instr (constant_instr (row.Adlk shift) x) w) h.t h.p h.sxm (combined plus r.acc (scaled r.sxm x shift)) (scaled_made r s w range h plus plus_low x shift) e
  acts_on_constant (row.Sblk shift) x works lt e = acc_made r s (behind_instr (constant_instr (row.Sblk shift) x) w) h.t h.p h.sxm (combined minus r.acc (scaled r.sxm x shift)) (scaled_made r s w range h minus minus_low x shift) e
  acts_on_constant row.Andk x works lt e = acc_made r s (behind_instr (constant_instr row.Andk x) w) h.t h.p h.sxm (masked (low_half r.acc) x) (λ c made. masked_alike r.acc c w.acc x lt h.acc made) e
  acts_on_constant row.Ork x works lt e = acc_made r s (behind_instr (constant_instr row.Ork x) w) h.t h.p h.sxm (combined bit_or r.acc (exact x)) (exact_made r s w range h bit_or or_low x x (wide x lt) refl) e
  acts_on_constant row.Xork x works lt e = acc_made r s (behind_instr (constant_instr row.Xork x) w) h.t h.p h.sxm (combined bit_xor r.acc (exact x)) (exact_made r s w range h bit_xor xor_low x x (wide x lt) refl) e
  acts_on_constant row.Dint x works lt e = registers_are r s (behind_instr (constant_instr row.Dint x) w) h e
  acts_on_constant row.Rovm x works lt e = registers_are r s (behind_instr (constant_instr row.Rovm x) w) h e
  acts_on_constant row.Spm x works lt e = registers_are r s (behind_instr (constant_instr row.Spm x) w) h e
  acts_on_constant row.Rsxm x works lt e = registers_are (record r { sxm = Some false }) s (behind_instr (constant_instr row.Rsxm x) w) (record { acc = h.acc; t = h.t; p = h.p; sxm = refl }) e
  acts_on_constant row.Ssxm x works lt e = registers_are (record r { sxm = Some true }) s (behind_instr (constant_instr row.Ssxm x) w) (record { acc = h.acc; t = h.t; p = h.p; sxm = refl }) e
  acts_on_constant row.Pac x works lt e = product_made r s (behind_instr (constant_instr row.Pac x) w) h.t h.p h.sxm (λ a p. Some p) r.p (λ y c is made. alike_by (exact y) c w.p (p_is y is) made) e
  acts_on_constant row.Apac x works lt e = product_made r s (behind_instr (constant_instr row.Apac x) w) h.t h.p h.sxm (combined plus) r.p (λ y c is made. exact_made r s w range h plus plus_low w.p y range.p (p_is y is) c made) e
  acts_on_constant row.Spac x works lt e = product_made r s (behind_instr (constant_instr row.Spac x) w) h.t h.p h.sxm (combined minus) r.p (λ y c is made. exact_made r s w range h minus minus_low w.p y range.p (p_is y is) c made) e
  acts_on_constant row.Sfl x works lt e = acc_made r s (behind_instr (constant_instr row.Sfl x) w) h.t h.p h.sxm (known (doubled r.acc)) (λ c made. doubled_alike r.acc c w.acc h.acc made) e
  acts_on_constant row.Sfr x works lt e = acc_made r s (behind_instr (constant_instr row.Sfr x) w) h.t h.p h.sxm (halved r.sxm (whole_of r.acc)) (λ c made. halved_alike r.sxm w.sxm r.acc c w.acc h.sxm h.acc made) e
  acts_on_constant row.Neg x works lt e = acc_made r s (behind_instr (constant_instr row.Neg x) w) h.t h.p h.sxm (combined minus (exact 0) r.acc) (λ c made. combined_alike minus minus_low (exact 0) r.acc c 0 w.acc (lit< tt) range.acc refl h.acc made) e
  acts_on_constant row.Cmpl x works lt e = acc_made r s (behind_instr (constant_instr row.Cmpl x) w) h.t h.p h.sxm (known (complemented r.acc)) (λ c made. complemented_alike r.acc c w.acc range.acc h.acc made) e
  acts_on_constant (row.Add shift) x works lt e = absurd works
  acts_on_constant (row.Sub shift) x works lt e = absurd works
  acts_on_constant (row.Lac shift) x works lt e = absurd works
  acts_on_constant row.Mpy x works lt e = absurd works
  acts_on_constant row.Lt x works lt e = absurd works
  acts_on_constant row.Zals x works lt e = absurd works
  acts_on_constant row.Lact x works lt e = absurd works
  acts_on_constant row.Subs x works lt e = absurd works
  acts_on_constant row.Adds x works lt e = absurd works
  acts_on_constant row.Xor x works lt e = absurd works
  acts_on_constant row.Or x works lt e = absurd works
  acts_on_constant row.And x works lt e = absurd works
  acts_on_constant (row.Sacl shift) x works lt e = absurd works
  acts_on_constant (row.Sach shift) x works lt e = absurd works
  acts_on_constant (row.In port) x works lt e = absurd works
  acts_on_constant (row.Out port) x works lt e = absurd works

pub on_constants : (o : AccOp) (x : ℕ) (r s : Registers) (w : Work) → WorksOnConstant o → InRange w → x < 65536 → RegistersAlike r w → acted o x r ≡ Some s → RegistersAlike s (behind_instr (constant_instr o x) w)
on_constants o x r s w works range lt h e = acts_on_constant r s w range h o x works lt e

-- an address in AR1
pub on_addresses : (x : ℕ) (r : Registers) (w : Work) → RegistersAlike r w → RegistersAlike r (behind_instr (constant_instr row.Point x) w)
on_addresses x r w h = record { acc = h.acc; t = h.t; p = h.p; sxm = h.sxm }
