-- What a row does depends on its operand's word alone, and leaves the registers as its operand does.
use Rattle.std.proofs.Common.{◌≡◌, ℕ, ◌+◌, ◌*◌, ◌/◌, ◌%◌, ◌^◌, ◌≤◌, true, false, if◌then◌else◌, Some, refl, sym, ap, ◌∙◌, subst, arith}
use Rattle.std.specs.Prelude.{◌==◌, bit_and, bit_or, bit_xor}
use Rattle.word_base.specs.Ports.{Input}
use Rattle.word_base.specs.Words.{signed_of}
use Rattle.c25_isa.specs.declared.operand.Operand.{Operand}
use Rattle.c25_isa.specs.declared.operand.Operand.TheVariants.{Direct, Indirect as Through}
use Rattle.c25_isa.specs.declared.instruction.Instr.{Instr}
use Rattle.c25_isa.specs.State.{write}
use Rattle.c25_isa.specs.Step.{wrap16, wrap32, extended, plus, minus, product, changed, changes}
use Rattle.c25_code.specs.Work.{Work}
use Rattle.c25_code.specs.Straight.{operand_address, operand_word, registers_behind, arp_behind, behind_operand, scaled, first_of, rest_of, NonEmpty, acc_becomes, ram_becomes, behind_instr, output_of, InRam, InstrReady}
use Rattle.c25_code.proofs.Writes.{write_other}
use Rattle.acc_code.specs.declared.operation.AccOp.{AccOp}
use Rattle.acc_code.specs.declared.operation.AccOp.TheVariants as row
use Rattle.emit_blocks.specs.Instructions.{word_instr}
use Rattle.emit_proof.specs.Reaching.{LeavesRegisters}
use Rattle.emit_proof.specs.Direct.{takes_word, AlikeOutside}

-- registers behind an operand come from registers alone
registers_same : (m : Operand) (v u : Work) → u.ar ≡ v.ar → u.arp ≡ v.arp → registers_behind m u ≡ registers_behind m v
registers_same (Direct n) v u ar arp = ar
registers_same (Through i) v u ar arp =
    ap (λ f. write f u.arp (changed i.change (f 0) (f u.arp))) ar ∙ ap (λ q. write v.ar q (changed i.change (v.ar 0) (v.ar q))) arp

current_same : (m : Operand) (v u : Work) → u.arp ≡ v.arp → arp_behind m u ≡ arp_behind m v
current_same (Direct n) v u arp = arp
current_same (Through i) v u arp = ap (λ q. arp_behind (Through i) (record v { arp = q })) arp

address_same : (m : Operand) (v u : Work) → u.ar ≡ v.ar → u.arp ≡ v.arp → u.dp ≡ v.dp → operand_address u m ≡ operand_address v m
address_same (Direct n) v u ar arp dp = ap (λ page. page * 128 + n) dp
address_same (Through i) v u ar arp dp = ap (λ f. f u.arp) ar ∙ ap v.ar arp

-- one instruction beside another one
pub record RowsAlike (i j : Instr) (v u : Work) : Type 0 where
  pub ready : InstrReady j u → InstrReady i v
  pub alike : AlikeOutside (behind_instr i v) (behind_instr j u)
  pub output : output_of i v ≡ output_of j u

module _ (m n : Operand) (v u : Work) (same : AlikeOutside v u) (at : operand_address v m ≡ operand_address u n) (mine : registers_behind m v 1 ≡ v.ar 1) (other : registers_behind n u 1 ≡ u.ar 1) (loads : changes 1 v.arp m ≡ false) where
  words_same : operand_word v m ≡ operand_word u n
  words_same = ap v.ram at ∙ ap (λ r. r (operand_address u n)) same.ram

  there : InRam n u → InRam m v
  there low = subst (λ a. 0x300 ≤ a) (sym at) low

  pointer_same : (v1 u1 : Work) → v1.ar ≡ v.ar → v1.arp ≡ v.arp → u1.ar ≡ u.ar → u1.arp ≡ u.arp → registers_behind m v1 1 ≡ registers_behind n u1 1
  pointer_same v1 u1 a b c d =
      ap (λ f. f 1) (registers_same m v v1 a b) ∙ mine ∙ same.pointer ∙ sym other ∙ sym (ap (λ f. f 1) (registers_same n u u1 c d))

  scaled_same : (shift : ℕ) → scaled v (operand_word v m) shift ≡ scaled u (operand_word u n) shift
  scaled_same shift = ap (λ b. wrap32 (extended b (operand_word v m) * 2 ^ shift)) same.sxm ∙ ap (λ x. scaled u x shift) words_same

  -- ACC becomes something, or a word of memory
  acc_alike : (a b : ℕ) → a ≡ b → AlikeOutside (acc_becomes m a v) (acc_becomes n b u)
  acc_alike a b e = record {
    acc = e;
    t = same.t;
    p = same.p;
    pointer = pointer_same (record v { acc = a }) (record u { acc = b }) refl refl refl refl;
    sxm = same.sxm;
    stack = same.stack;
    ram = same.ram;
    input = same.input;
  }

  written_same : (x y : ℕ) → x ≡ y → write v.ram (operand_address v m) x ≡ write u.ram (operand_address u n) y
  written_same x y e =
      ap (λ r. write r (operand_address v m) x) same.ram ∙ ap (λ a. write u.ram a x) at ∙ ap (write u.ram (operand_address u n)) e

  ram_alike : (x y : ℕ) → x ≡ y → AlikeOutside (ram_becomes m x v) (ram_becomes n y u)
  ram_alike x y e = record {
    acc = same.acc;
    t = same.t;
    p = same.p;
    pointer = pointer_same (record v { ram = write v.ram (operand_address v m) x }) (record u { ram = write u.ram (operand_address u n) y }) refl refl refl refl;
    sxm = same.sxm;
    stack = same.stack;
    ram = written_same x y e;
    input = same.input;
  }

  -- each row that takes a word
  pub rows_alike : (o : AccOp) → takes_word o ≡ true → RowsAlike (word_instr o m) (word_instr o n) v u
  rows_alike row.Point takes = record {
    ready = λ r. (there r.0, loads);
    alike = record { acc = same.acc; t = same.t; p = same.p; pointer = words_same; sxm = same.sxm; stack = same.stack; ram = same.ram; input = same.input };
    output = refl;
  }
  rows_alike (row.Add s) takes = record { ready = there; alike = acc_alike _ _ (ap (λ a. plus a (scaled v (operand_word v m) s)) same.acc ∙ ap (plus u.acc) (scaled_same s)); output = refl }
  rows_alike (row.Sub s) takes = record { ready = there; alike = acc_alike _ _ (ap (λ a. minus a (scaled v (operand_word v m) s)) same.acc ∙ ap (minus u.acc) (scaled_same s)); output = refl }
  rows_alike (row.Lac s) takes = record { ready = there; alike = acc_alike _ _ (scaled_same s); output = refl }
  rows_alike row.Mpy takes = record {
    ready = there;
    alike = record {
      acc = same.acc;
      t = same.t;
      p = ap (λ t. product t (signed_of (operand_word v m))) same.t ∙ ap (λ x. product u.t (signed_of x)) words_same;
      pointer = pointer_same (record v { p = product v.t (signed_of (operand_word v m)) }) (record u { p = product u.t (signed_of (operand_word u n)) }) refl refl refl refl;
      sxm = same.sxm;
      stack = same.stack;
      ram = same.ram;
      input = same.input;
    };
    output = refl;
  }
  rows_alike row.Lt takes = record {
    ready = there;
    alike = record {
      acc = same.acc;
      t = words_same;
      p = same.p;
      pointer = pointer_same (record v { t = operand_word v m }) (record u { t = operand_word u n }) refl refl refl refl;
      sxm = same.sxm;
      stack = same.stack;
      ram = same.ram;
      input = same.input;
    };
    output = refl;
  }
  rows_alike row.Zals takes = record { ready = there; alike = acc_alike _ _ words_same; output = refl }
  rows_alike row.Lact takes = record { ready = there; alike = acc_alike _ _ (scaled_same (v.t % 16) ∙ ap (λ t. scaled u (operand_word u n) (t % 16)) same.t); output = refl }
  rows_alike row.Subs takes = record { ready = there; alike = acc_alike _ _ (ap (λ a. minus a (operand_word v m)) same.acc ∙ ap (minus u.acc) words_same); output = refl }
  rows_alike row.Adds takes = record { ready = there; alike = acc_alike _ _ (ap (λ a. plus a (operand_word v m)) same.acc ∙ ap (plus u.acc) words_same); output = refl }
  rows_alike row.Xor takes = record { ready = there; alike = acc_alike _ _ (ap (λ a. bit_xor a (operand_word v m)) same.acc ∙ ap (bit_xor u.acc) words_same); output = refl }
  rows_alike row.Or takes = record { ready = there; alike = acc_alike _ _ (ap (λ a. bit_or a (operand_word v m)) same.acc ∙ ap (bit_or u.acc) words_same); output = refl }
  rows_alike row.And takes = record { ready = there; alike = acc_alike _ _ (ap (λ a. bit_and a (operand_word v m)) same.acc ∙ ap (bit_and u.acc) words_same); output = refl }
  rows_alike (row.Sacl s) takes = record { ready = there; alike = ram_alike _ _ (ap (λ a. wrap16 (a * 2 ^ s)) same.acc); output = refl }
  rows_alike (row.Sach s) takes = record { ready = there; alike = ram_alike _ _ (ap (λ a. wrap32 (a * 2 ^ s) / 65536) same.acc); output = refl }
  rows_alike (row.In port) takes =
      let rest : Input → Input = λ i q. if q == port then rest_of (i port) else i q in
      let v1 : Work = record v { input = rest v.input } in
      let u1 : Work = record u { input = rest u.input } in
      let mine' : operand_address v1 m ≡ operand_address v m = address_same m v v1 refl refl refl in
      let other' : operand_address u1 n ≡ operand_address u n = address_same n u u1 refl refl refl in
      let x : ℕ = first_of (v.input port) in
      let y : ℕ = first_of (u.input port) in
      record {
        ready = λ r. (there r.0, subst (λ i. NonEmpty (i port)) (sym same.input) r.1);
        alike = record {
          acc = same.acc;
          t = same.t;
          p = same.p;
          pointer = pointer_same (record v1 { ram = write v.ram (operand_address v1 m) x }) (record u1 { ram = write u.ram (operand_address u1 n) y }) refl refl refl refl;
          sxm = same.sxm;
          stack = same.stack;
          ram = ap (λ a. write v.ram a x) mine' ∙ written_same x y (ap (λ i. first_of (i port)) same.input) ∙ ap (λ a. write u.ram a y) (sym other');
          input = ap rest same.input;
        };
        output = refl;
      }
  rows_alike (row.Out port) takes = record {
    ready = there;
    alike = record { acc = same.acc; t = same.t; p = same.p; pointer = pointer_same v u refl refl refl refl; sxm = same.sxm; stack = same.stack; ram = same.ram; input = same.input };
    output = ap (λ x. Some (port, x)) words_same;
  }
  rows_alike row.Mpyk takes = absurd cc
  rows_alike row.Lack takes = absurd cc
  rows_alike row.Addk takes = absurd cc
  rows_alike row.Subk takes = absurd cc
  rows_alike (row.Lalk s) takes = absurd cc
  rows_alike (row.Adlk s) takes = absurd cc
  rows_alike (row.Sblk s) takes = absurd cc
  rows_alike row.Andk takes = absurd cc
  rows_alike row.Ork takes = absurd cc
  rows_alike row.Xork takes = absurd cc
  rows_alike row.Dint takes = absurd cc
  rows_alike row.Rovm takes = absurd cc
  rows_alike row.Rsxm takes = absurd cc
  rows_alike row.Ssxm takes = absurd cc
  rows_alike row.Spm takes = absurd cc
  rows_alike row.Pac takes = absurd cc
  rows_alike row.Apac takes = absurd cc
  rows_alike row.Spac takes = absurd cc
  rows_alike row.Sfl takes = absurd cc
  rows_alike row.Sfr takes = absurd cc
  rows_alike row.Neg takes = absurd cc
  rows_alike row.Cmpl takes = absurd cc

module _ (m : Operand) (v : Work) where
  -- registers are left so where others are changed behind the operand
  left : (u : Work) → u.ar ≡ v.ar → u.arp ≡ v.arp → u.dp ≡ v.dp → LeavesRegisters m v (behind_operand m u)
  left u ar arp dp = record {
    index = ap (λ f. f 0) (registers_same m v u ar arp);
    lists = λ r le. ap (λ f. f r) (registers_same m v u ar arp);
    current = current_same m v u arp;
    page = dp;
  }

  pub row_leaves : (o : AccOp) → takes_word o ≡ true → LeavesRegisters m v (behind_instr (word_instr o m) v)
  row_leaves row.Point takes = record {
    index = refl;
    lists = λ r le. write_other (registers_behind m v) 1 (operand_word v m) r (λ e. omega (arith, le, e));
    current = refl;
    page = refl;
  }
  row_leaves (row.Add s) takes = left _ refl refl refl
  row_leaves (row.Sub s) takes = left _ refl refl refl
  row_leaves (row.Lac s) takes = left _ refl refl refl
  row_leaves row.Mpy takes = left _ refl refl refl
  row_leaves row.Lt takes = left _ refl refl refl
  row_leaves row.Zals takes = left _ refl refl refl
  row_leaves row.Lact takes = left _ refl refl refl
  row_leaves row.Subs takes = left _ refl refl refl
  row_leaves row.Adds takes = left _ refl refl refl
  row_leaves row.Xor takes = left _ refl refl refl
  row_leaves row.Or takes = left _ refl refl refl
  row_leaves row.And takes = left _ refl refl refl
  row_leaves (row.Sacl s) takes = left _ refl refl refl
  row_leaves (row.Sach s) takes = left _ refl refl refl
  row_leaves (row.In port) takes = left _ refl refl refl
  row_leaves (row.Out port) takes = left _ refl refl refl
  row_leaves row.Mpyk takes = absurd cc
  row_leaves row.Lack takes = absurd cc
  row_leaves row.Addk takes = absurd cc
  row_leaves row.Subk takes = absurd cc
  row_leaves (row.Lalk s) takes = absurd cc
  row_leaves (row.Adlk s) takes = absurd cc
  row_leaves (row.Sblk s) takes = absurd cc
  row_leaves row.Andk takes = absurd cc
  row_leaves row.Ork takes = absurd cc
  row_leaves row.Xork takes = absurd cc
  row_leaves row.Dint takes = absurd cc
  row_leaves row.Rovm takes = absurd cc
  row_leaves row.Rsxm takes = absurd cc
  row_leaves row.Ssxm takes = absurd cc
  row_leaves row.Spm takes = absurd cc
  row_leaves row.Pac takes = absurd cc
  row_leaves row.Apac takes = absurd cc
  row_leaves row.Spac takes = absurd cc
  row_leaves row.Sfl takes = absurd cc
  row_leaves row.Sfr takes = absurd cc
  row_leaves row.Neg takes = absurd cc
  row_leaves row.Cmpl takes = absurd cc
