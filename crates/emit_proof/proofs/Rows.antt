-- Each row leaves the machine's work beside what its operation makes of the state: rows that work on the registers alone, and rows that put.
use Rattle.std.proofs.Common.{◌≡◌, ℕ, ◌/◌, ◌%◌, ◌<◌, ◌≤◌, List, [], ◌∷◌, ◌++◌, Some, None, refl, sym, ap, ◌∙◌, subst, arith, append-nil, lit<}
use Rattle.word_base.specs.Ports.{Outputs}
use Rattle.c25_isa.specs.State.{Memory}
use Rattle.c25_isa.specs.declared.operand.Operand.{Operand}
use Rattle.c25_isa.specs.declared.operand.Operand.TheVariants.{Direct as At}
use Rattle.c25_isa.specs.declared.instruction.Instr.{Instr}
use Rattle.c25_isa.specs.declared.instruction.Instr.TheVariants.{Ldpk}
use Rattle.c25_code.specs.Work.{Work, InRange}
use Rattle.c25_code.specs.Straight.{operand_address, operand_word, output_of, prepended, behind_instr, behind_code, outputs_of_code, CodeReady}
use Rattle.c25_code.proofs.Ranges.{behind_instr-fits}
use Rattle.acc_code.specs.declared.operation.AccOp.{AccOp}
use Rattle.acc_code.specs.declared.operation.AccOp.TheVariants as row
use Rattle.acc_code.specs.Operands.{HasRange}
use Rattle.ir_semantics.specs.Outside.{with_output}
use Rattle.ir_semantics.specs.AccRows.{Registers, acted}
use Rattle.ir_semantics.specs.AccRun.{Machine}
use Rattle.emit_blocks.specs.declared.step.Reach.TheVariants as reach
use Rattle.emit_blocks.specs.Steps.{step}
use Rattle.emit_blocks.specs.Instructions.{word_instr, constant_instr}
use Rattle.emit_blocks.specs.Right.{IsConstantOf, AreInstrs}
use Rattle.emit_blocks.proofs.Fitting.{all_steps_fit}
use Rattle.emit_proof.specs.Direct.{row_at}
use Rattle.emit_proof.specs.Registers.{RegistersAlike}
use Rattle.emit_proof.proofs.OnWords.{on_words}
use Rattle.emit_proof.proofs.OnConstants.{on_constants}
use Rattle.emit_proof.proofs.Made.{alike_again}
use Rattle.emit_proof.proofs.Ready.{word_ready, constant_ready}
use Rattle.emit_proof.proofs.RowStoring.{is_put}
use Rattle.emit_proof.specs.Standing.{StandsBeside}
use Rattle.emit_proof.specs.Sites.{Site, Beside}
use Rattle.emit_proof.proofs.RowKinds.{Leaves, ReadsWord, TakesConstant}

-- code is ready, leaves the work beside a state, and puts what the state has more
pub record RowDoes (k : Site) (code : List Instr) (outs : Outputs) (w : Work) (u : Machine) : Type 0 where
  pub ready : CodeReady code w
  pub beside : Beside k u (behind_code code w)
  pub outputs : u.outside.outs ≡ outs ++ outputs_of_code code w

-- code that is ready keeps each part in its range
pub code_range : (code : List Instr) (w : Work) → AreInstrs code → CodeReady code w → InRange w → InRange (behind_code code w)
code_range [] w are ready range = range
code_range (i ∷ is) w are ready range = code_range is (behind_instr i w) are.1 ready.1 (behind_instr-fits i w are.0 ready.0 range)

pub row_fits : (o : AccOp) (a : ℕ) → HasRange o → a < 65536 → AreInstrs (row_at o a)
row_fits o a range word = all_steps_fit 0 (step o (reach.Word a) ∷ []) (lit< tt) (record { range = range; reached = tt }, tt) (word, tt)

pub constant_fits : (o : AccOp) (c : ℕ) → HasRange o → IsConstantOf o c → c < 65536 → AreInstrs (constant_instr o c ∷ [])
constant_fits o c range of_row word = all_steps_fit 0 (step o (reach.Constant c) ∷ []) (lit< tt) (record { range = range; reached = of_row }, tt) (word, tt)

-- the page is no part of what stands side by side
abbrev pub paged : ℕ → Work → Work
paged a w = record w { dp = a / 128 }

pub at_address : (a : ℕ) (w : Work) → operand_address (paged a w) (At (a % 128)) ≡ a
at_address a w = omega arith

pub page_alike : (r : Registers) (a : ℕ) (w : Work) → RegistersAlike r w → RegistersAlike r (paged a w)
page_alike r a w h = alike_again r w (paged a w) refl refl refl refl h

module _ (k : Site) (v : Machine) (w : Work) (h : Beside k v w) where
  -- other registers stand beside the same words
  pub stands_with : (s : Registers) (ram : Memory) → ram ≡ w.ram → StandsBeside k.places k.counts k.kept (record v { registers = s }) ram
  stands_with s ram same =
      let old = h.stands in
      subst (StandsBeside k.places k.counts k.kept (record v { registers = s })) (sym same)
      (record { frame = old.frame; scratch = old.scratch; given = old.given; memory = old.memory; callers = old.callers; reserved = old.reserved })

  -- behind an instruction that leaves what isn't a register
  beside_with : (s : Registers) (i : Instr) (u : Work) → u.ram ≡ w.ram → u.ar 1 ≡ w.ar 1 → u.input ≡ w.input → u.stack ≡ w.stack → s.pointed ≡ v.registers.pointed → Leaves i u → RegistersAlike s (behind_instr i u) → InRange (behind_instr i u)
      → Beside k (record v { registers = s }) (behind_instr i u)
  beside_with s i u ram pointer input stack points leaves alike range = record {
    stands = stands_with s (behind_instr i u).ram (leaves.ram ∙ ram);
    nowhere = h.nowhere;
    registers = alike;
    pointed = λ q e. h.pointed q (sym points ∙ e) ∙ sym (leaves.pointer ∙ pointer);
    input = leaves.input ∙ input ∙ h.input;
    stack = leaves.stack ∙ stack ∙ h.stack;
    range = range;
  }

  puts_nothing : (i : Instr) (u : Work) → output_of i u ≡ None → v.outside.outs ≡ v.outside.outs ++ prepended (output_of i u) []
  puts_nothing i u e = sym (append-nil v.outside.outs) ∙ ap (λ put. v.outside.outs ++ prepended put []) (sym e)

  -- an operation that reads a word
  pub word_does : (o : AccOp) (a x : ℕ) (s : Registers) → ReadsWord o → HasRange o → 0x300 ≤ a → a < 65536 → w.ram a ≡ x → acted o x v.registers ≡ Some s → RowDoes k (row_at o a) v.outside.outs w (record v { registers = s })
  word_does o a x s reads has low word is e =
      let u : Work = paged a w in
      let m : Operand = At (a % 128) in
      let ready : CodeReady (row_at o a) w = (tt, (word_ready o m u reads.works (subst (λ b. 0x300 ≤ b) (sym (at_address a w)) low), tt)) in
      let fits = row_fits o a has word in
      let range = code_range (row_at o a) w fits ready h.range in
      let paged_range : InRange u = behind_instr-fits (Ldpk (a / 128)) w fits.0 (tt {0}) h.range in
      let value : operand_word u m ≡ x = ap w.ram (at_address a w) ∙ is in
      let alike = on_words o m x v.registers s u reads.works paged_range value (page_alike v.registers a w h.registers) e in
      record {
        ready = ready;
        beside = beside_with s (word_instr o m) u refl refl refl refl (reads.registers.points x v.registers s e) (reads.leaves (a % 128) u) alike range;
        outputs = puts_nothing (word_instr o m) u (reads.leaves (a % 128) u).puts;
      }

  -- one on a constant, or on the registers
  pub constant_does : (o : AccOp) (c : ℕ) (s : Registers) → TakesConstant o → HasRange o → IsConstantOf o c → c < 65536 → acted o c v.registers ≡ Some s → RowDoes k (constant_instr o c ∷ []) v.outside.outs w (record v { registers = s })
  constant_does o c s takes has of_row word e =
      let i : Instr = constant_instr o c in
      let ready : CodeReady (i ∷ []) w = (constant_ready o c w takes.works, tt) in
      let range = code_range (i ∷ []) w (constant_fits o c has of_row word) ready h.range in
      let alike = on_constants o c v.registers s w takes.works h.range word h.registers e in
      record {
        ready = ready;
        beside = beside_with s i w refl refl refl refl (takes.registers.points c v.registers s e) (takes.leaves c w) alike range;
        outputs = puts_nothing i w (takes.leaves c w).puts;
      }

  -- a word that is put
  pub put_does : (port a x : ℕ) → port < 16 → 0x300 ≤ a → a < 65536 → w.ram a ≡ x → RowDoes k (row_at (row.Out port) a) v.outside.outs w (record v { outside = with_output port x v.outside })
  put_does port a x few low word is =
      let u : Work = paged a w in
      let m : Operand = At (a % 128) in
      let old = h.stands in
      let ready : CodeReady (row_at (row.Out port) a) w = (tt, (subst (λ b. 0x300 ≤ b) (sym (at_address a w)) low, tt)) in
      let range = code_range (row_at (row.Out port) a) w (row_fits (row.Out port) a few word) ready h.range in
      let put : output_of (word_instr (row.Out port) m) u ≡ Some (port, x) = is_put port m x u (ap w.ram (at_address a w) ∙ is) in
      record {
        ready = ready;
        beside = record {
          stands = record { frame = old.frame; scratch = old.scratch; given = old.given; memory = old.memory; callers = old.callers; reserved = old.reserved };
          nowhere = h.nowhere;
          registers = alike_again v.registers w (behind_code (row_at (row.Out port) a) w) refl refl refl refl h.registers;
          pointed = h.pointed;
          input = h.input;
          stack = h.stack;
          range = range;
        };
        outputs = ap (λ p. v.outside.outs ++ prepended p []) (sym put);
      }
