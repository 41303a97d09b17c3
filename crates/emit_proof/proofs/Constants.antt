-- Rows without a word of memory do the same, and leave the registers of lists.
use Rattle.std.proofs.Common.{◌≡◌, ℕ, ◌-◌, ◌*◌, ◌^◌, refl, ap, ◌∙◌, arith}
use Rattle.std.specs.Prelude.{bit_and, bit_or, bit_xor}
use Rattle.c25_isa.specs.declared.operand.Operand.TheVariants.{Direct}
use Rattle.c25_isa.specs.Step.{wrap32, extended, plus, minus, product, half}
use Rattle.c25_code.specs.Work.{Work}
use Rattle.c25_code.specs.Straight.{scaled, behind_instr}
use Rattle.c25_code.proofs.Writes.{write_other}
use Rattle.acc_code.specs.declared.operation.AccOp.{AccOp}
use Rattle.acc_code.specs.declared.operation.AccOp.TheVariants as row
use Rattle.emit_blocks.specs.Instructions.{signed_constant, constant_instr}
use Rattle.emit_proof.specs.Reaching.{LeavesRegisters}
use Rattle.emit_proof.specs.Direct.{AlikeOutside}
use Rattle.emit_proof.proofs.Operands.{RowsAlike}

-- one that leaves the registers as they are
leaves_all : (v u : Work) → u.ar ≡ v.ar → u.arp ≡ v.arp → u.dp ≡ v.dp → LeavesRegisters (Direct 0) v u
leaves_all v u ar arp dp = record { index = ap (λ f. f 0) ar; lists = λ r le. ap (λ f. f r) ar; current = arp; page = dp }

pub constant_leaves : (o : AccOp) (c : ℕ) (v : Work) → LeavesRegisters (Direct 0) v (behind_instr (constant_instr o c) v)
constant_leaves row.Point c v = record {
  index = refl;
  lists = λ r le. write_other v.ar 1 c r (λ e. omega (arith, le, e));
  current = refl;
  page = refl;
}
constant_leaves (row.Add s) c v = leaves_all v _ refl refl refl
constant_leaves (row.Sub s) c v = leaves_all v _ refl refl refl
constant_leaves (row.Lac s) c v = leaves_all v _ refl refl refl
constant_leaves row.Mpy c v = leaves_all v _ refl refl refl
constant_leaves row.Lt c v = leaves_all v _ refl refl refl
constant_leaves row.Zals c v = leaves_all v _ refl refl refl
constant_leaves row.Lact c v = leaves_all v _ refl refl refl
constant_leaves row.Subs c v = leaves_all v _ refl refl refl
constant_leaves row.Adds c v = leaves_all v _ refl refl refl
constant_leaves row.Xor c v = leaves_all v _ refl refl refl
constant_leaves row.Or c v = leaves_all v _ refl refl refl
constant_leaves row.And c v = leaves_all v _ refl refl refl
constant_leaves (row.Sacl s) c v = leaves_all v _ refl refl refl
constant_leaves (row.Sach s) c v = leaves_all v _ refl refl refl
constant_leaves (row.In port) c v = leaves_all v _ refl refl refl
constant_leaves (row.Out port) c v = leaves_all v _ refl refl refl
constant_leaves row.Mpyk c v = leaves_all v _ refl refl refl
constant_leaves row.Lack c v = leaves_all v _ refl refl refl
constant_leaves row.Addk c v = leaves_all v _ refl refl refl
constant_leaves row.Subk c v = leaves_all v _ refl refl refl
constant_leaves (row.Lalk s) c v = leaves_all v _ refl refl refl
constant_leaves (row.Adlk s) c v = leaves_all v _ refl refl refl
constant_leaves (row.Sblk s) c v = leaves_all v _ refl refl refl
constant_leaves row.Andk c v = leaves_all v _ refl refl refl
constant_leaves row.Ork c v = leaves_all v _ refl refl refl
constant_leaves row.Xork c v = leaves_all v _ refl refl refl
constant_leaves row.Dint c v = leaves_all v _ refl refl refl
constant_leaves row.Rovm c v = leaves_all v _ refl refl refl
constant_leaves row.Rsxm c v = leaves_all v _ refl refl refl
constant_leaves row.Ssxm c v = leaves_all v _ refl refl refl
constant_leaves row.Spm c v = leaves_all v _ refl refl refl
constant_leaves row.Pac c v = leaves_all v _ refl refl refl
constant_leaves row.Apac c v = leaves_all v _ refl refl refl
constant_leaves row.Spac c v = leaves_all v _ refl refl refl
constant_leaves row.Sfl c v = leaves_all v _ refl refl refl
constant_leaves row.Sfr c v = leaves_all v _ refl refl refl
constant_leaves row.Neg c v = leaves_all v _ refl refl refl
constant_leaves row.Cmpl c v = leaves_all v _ refl refl refl

module _ (c : ℕ) (v u : Work) (same : AlikeOutside v u) where
  scaled_alike : (shift : ℕ) → scaled v c shift ≡ scaled u c shift
  scaled_alike shift = ap (λ b. wrap32 (extended b c * 2 ^ shift)) same.sxm

  acc_becomes_alike : (a b : ℕ) → a ≡ b → AlikeOutside (record v { acc = a }) (record u { acc = b })
  acc_becomes_alike a b e = record { acc = e; t = same.t; p = same.p; pointer = same.pointer; sxm = same.sxm; stack = same.stack; ram = same.ram; input = same.input }

  p_becomes_alike : (a b : ℕ) → a ≡ b → AlikeOutside (record v { p = a }) (record u { p = b })
  p_becomes_alike a b e = record { acc = same.acc; t = same.t; p = e; pointer = same.pointer; sxm = same.sxm; stack = same.stack; ram = same.ram; input = same.input }

  pub constants_alike : (o : AccOp) → RowsAlike (constant_instr o c) (constant_instr o c) v u
  constants_alike row.Point = record {
    ready = λ r. tt;
    alike = record { acc = same.acc; t = same.t; p = same.p; pointer = refl; sxm = same.sxm; stack = same.stack; ram = same.ram; input = same.input };
    output = refl;
  }
  constants_alike row.Rsxm = record {
    ready = λ r. tt;
    alike = record { acc = same.acc; t = same.t; p = same.p; pointer = same.pointer; sxm = refl; stack = same.stack; ram = same.ram; input = same.input };
    output = refl;
  }
  constants_alike row.Ssxm = record {
    ready = λ r. tt;
    alike = record { acc = same.acc; t = same.t; p = same.p; pointer = same.pointer; sxm = refl; stack = same.stack; ram = same.ram; input = same.input };
    output = refl;
  }
  constants_alike row.Mpyk = record { ready = λ r. tt; alike = p_becomes_alike _ _ (ap (λ t. product t (signed_constant c)) same.t); output = refl }
  constants_alike row.Lack = record { ready = λ r. tt; alike = acc_becomes_alike _ _ (refl); output = refl }
  constants_alike row.Addk = record { ready = λ r. tt; alike = acc_becomes_alike _ _ (ap (λ a. plus a c) same.acc); output = refl }
  constants_alike row.Subk = record { ready = λ r. tt; alike = acc_becomes_alike _ _ (ap (λ a. minus a c) same.acc); output = refl }
  constants_alike (row.Lalk s) = record { ready = λ r. tt; alike = acc_becomes_alike _ _ (scaled_alike s); output = refl }
  constants_alike (row.Adlk s) = record { ready = λ r. tt; alike = acc_becomes_alike _ _ (ap (λ a. plus a (scaled v c s)) same.acc ∙ ap (plus u.acc) (scaled_alike s)); output = refl }
  constants_alike (row.Sblk s) = record { ready = λ r. tt; alike = acc_becomes_alike _ _ (ap (λ a. minus a (scaled v c s)) same.acc ∙ ap (minus u.acc) (scaled_alike s)); output = refl }
  constants_alike row.Andk = record { ready = λ r. tt; alike = acc_becomes_alike _ _ (ap (λ a. bit_and a c) same.acc); output = refl }
  constants_alike row.Ork = record { ready = λ r. tt; alike = acc_becomes_alike _ _ (ap (λ a. bit_or a c) same.acc); output = refl }
  constants_alike row.Xork = record { ready = λ r. tt; alike = acc_becomes_alike _ _ (ap (λ a. bit_xor a c) same.acc); output = refl }
  constants_alike row.Pac = record { ready = λ r. tt; alike = acc_becomes_alike _ _ (same.p); output = refl }
  constants_alike row.Apac = record { ready = λ r. tt; alike = acc_becomes_alike _ _ (ap (λ a. plus a v.p) same.acc ∙ ap (plus u.acc) same.p); output = refl }
  constants_alike row.Spac = record { ready = λ r. tt; alike = acc_becomes_alike _ _ (ap (λ a. minus a v.p) same.acc ∙ ap (minus u.acc) same.p); output = refl }
  constants_alike row.Sfl = record { ready = λ r. tt; alike = acc_becomes_alike _ _ (ap (λ a. wrap32 (2 * a)) same.acc); output = refl }
  constants_alike row.Sfr = record { ready = λ r. tt; alike = acc_becomes_alike _ _ (ap (λ b. half b v.acc) same.sxm ∙ ap (half u.sxm) same.acc); output = refl }
  constants_alike row.Neg = record { ready = λ r. tt; alike = acc_becomes_alike _ _ (ap (minus 0) same.acc); output = refl }
  constants_alike row.Cmpl = record { ready = λ r. tt; alike = acc_becomes_alike _ _ (ap (λ a. 4294967295 - a) same.acc); output = refl }
  constants_alike (row.Add s) = record { ready = λ r. tt; alike = same; output = refl }
  constants_alike (row.Sub s) = record { ready = λ r. tt; alike = same; output = refl }
  constants_alike (row.Lac s) = record { ready = λ r. tt; alike = same; output = refl }
  constants_alike row.Mpy = record { ready = λ r. tt; alike = same; output = refl }
  constants_alike row.Lt = record { ready = λ r. tt; alike = same; output = refl }
  constants_alike row.Zals = record { ready = λ r. tt; alike = same; output = refl }
  constants_alike row.Lact = record { ready = λ r. tt; alike = same; output = refl }
  constants_alike row.Subs = record { ready = λ r. tt; alike = same; output = refl }
  constants_alike row.Adds = record { ready = λ r. tt; alike = same; output = refl }
  constants_alike row.Xor = record { ready = λ r. tt; alike = same; output = refl }
  constants_alike row.Or = record { ready = λ r. tt; alike = same; output = refl }
  constants_alike row.And = record { ready = λ r. tt; alike = same; output = refl }
  constants_alike (row.Sacl s) = record { ready = λ r. tt; alike = same; output = refl }
  constants_alike (row.Sach s) = record { ready = λ r. tt; alike = same; output = refl }
  constants_alike (row.In port) = record { ready = λ r. tt; alike = same; output = refl }
  constants_alike (row.Out port) = record { ready = λ r. tt; alike = same; output = refl }
  constants_alike row.Dint = record { ready = λ r. tt; alike = same; output = refl }
  constants_alike row.Rovm = record { ready = λ r. tt; alike = same; output = refl }
  constants_alike row.Spm = record { ready = λ r. tt; alike = same; output = refl }
