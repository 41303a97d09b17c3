-- Rows that store a word, from the accumulator or from a port, leave the machine's work beside the state behind the store.
use Rattle.std.proofs.Common.{◌≡◌, ℕ, ◌+◌, ◌*◌, ◌/◌, ◌%◌, ◌<◌, ◌≤◌, cond, List, [], ◌∷◌, ◌++◌, Some, None, refl, sym, ap, ◌∙◌, subst, append-nil, lit<, lit≤}
use Rattle.std.specs.Prelude.{◌==◌}
use Rattle.word_base.specs.Ports.{Input}
use Rattle.c25_isa.specs.State.{write}
use Rattle.c25_isa.specs.declared.operand.Operand.TheVariants.{Direct as At}
use Rattle.c25_isa.specs.declared.instruction.Instr.{Instr}
use Rattle.c25_code.specs.Work.{Work, InRange}
use Rattle.c25_code.specs.Straight.{NonEmpty, InstrReady, ram_becomes, output_of, prepended, behind_code, CodeReady}
use Rattle.acc_code.specs.declared.operand.AccOperand.{AccOperand}
use Rattle.acc_code.specs.declared.operation.AccOp.{AccOp}
use Rattle.acc_code.specs.declared.operation.AccOp.TheVariants as row
use Rattle.acc_code.specs.Operands.{HasRange}
use Rattle.ir_semantics.specs.Outside.{with_input}
use Rattle.ir_semantics.specs.Parts.{Gives, Flow}
use Rattle.ir_semantics.specs.AccRows.{low_half, whole_of, low_stored, high_stored}
use Rattle.ir_semantics.specs.AccRun.{Machine, store_to}
use Rattle.emit_blocks.specs.Instructions.{word_instr}
use Rattle.emit_proof.specs.Direct.{row_at}
use Rattle.emit_proof.specs.Registers.{RegistersAlike}
use Rattle.emit_proof.proofs.Made.{alike_again}
use Rattle.emit_proof.proofs.RowStoring.{low_is_stored, high_is_stored, is_taken_in}
use Rattle.emit_proof.specs.Standing.{IsNamed, StandsBeside}
use Rattle.emit_proof.proofs.EmitStoring.{operand_stored}
use Rattle.emit_proof.specs.Sites.{Site, IsSite, Beside}
use Rattle.emit_proof.proofs.Stored.{Stored}
use Rattle.emit_proof.proofs.Rows.{RowDoes, code_range, row_fits, paged, at_address, page_alike}

-- the work behind a store at an address
abbrev pub stored_at : ℕ → ℕ → Work → Work
stored_at a x w = ram_becomes (At (a % 128)) x (paged a w)

-- a port's next word is taken, on both sides
abbrev pub taken_state : Machine → ℕ → List ℕ → Machine
taken_state v port xs = record v { outside = with_input port xs v.outside }

abbrev pub taken_work : Work → ℕ → List ℕ → Work
taken_work w port xs = record w { input = λ p. cond (p == port) xs (w.input p) }

module _ (k : Site) (site : IsSite k) (v : Machine) (w : Work) (h : Beside k v w) (m : AccOperand) (x : ℕ) (flow : Flow) (u : Machine) (e : store_to k.at m x v ≡ Gives flow u) (named : IsNamed k.places k.counts k.kept m) (s : Stored k v w m u) where
  abbrev a : ℕ
  a = s.located.address

  pub stored_beside : InRange (stored_at a x w) → Beside k u (stored_at a x w)
  stored_beside range = record {
    stands = subst (λ b. StandsBeside k.places k.counts k.kept u (write w.ram b x)) (sym (at_address a w))
        (operand_stored k.places k.counts k.kept site.apart v w.ram h.stands x k.at m u (w.ar 1) a flow site.addresses named h.pointed e s.located.place);
    nowhere = λ b dead. s.nowhere b (h.nowhere b dead);
    registers = subst (λ r. RegistersAlike r (stored_at a x w)) (sym s.registers) (alike_again v.registers w (stored_at a x w) refl refl refl refl h.registers);
    pointed = λ q is. h.pointed q (sym (ap (λ r. r.pointed) s.registers) ∙ is);
    input = h.input ∙ sym s.input;
    stack = h.stack;
    range = range;
  }

-- a row that stores so, and puts nothing
module _ (k : Site) (site : IsSite k) (o : AccOp) (has : HasRange o) (before : Work) (range : InRange before) where
  pub store_does : (v : Machine) (w : Work) → Beside k v w → (m : AccOperand) (x : ℕ) (flow : Flow) (u : Machine) → store_to k.at m x v ≡ Gives flow u → IsNamed k.places k.counts k.kept m → (s : Stored k v w m u)
      → InstrReady (word_instr o (At (s.located.address % 128))) (paged s.located.address before)
      → behind_code (row_at o s.located.address) before ≡ stored_at s.located.address x w
      → output_of (word_instr o (At (s.located.address % 128))) (paged s.located.address before) ≡ None
      → RowDoes k (row_at o s.located.address) v.outside.outs before u
  store_does v w h m x flow u e named s here same puts =
      let a : ℕ = s.located.address in
      let ready : CodeReady (row_at o a) before = (tt, (here, tt)) in
      let ranged = code_range (row_at o a) before (row_fits o a has s.located.word) ready range in
      let beside = stored_beside k site v w h m x flow u e named s (subst InRange same ranged) in
      record {
        ready = ready;
        beside = subst (Beside k u) (sym same) beside;
        outputs = s.outs ∙ sym (append-nil v.outside.outs) ∙ ap (λ p. v.outside.outs ++ prepended p []) (sym puts);
      }

module _ (k : Site) (site : IsSite k) (v : Machine) (w : Work) (h : Beside k v w) (m : AccOperand) (named : IsNamed k.places k.counts k.kept m) where
  lies : (a : ℕ) → 0x300 ≤ a → 0x300 ≤ ((a / 128) * 128 + a % 128)
  lies a low = subst (λ b. 0x300 ≤ b) (sym (at_address a w)) low

  pub low_does : (shift x : ℕ) (flow : Flow) (u : Machine) → shift < 8 → low_stored (low_half v.registers.acc) shift ≡ Some x → store_to k.at m x v ≡ Gives flow u → (s : Stored k v w m u) → RowDoes k (row_at (row.Sacl shift) s.located.address) v.outside.outs w u
  low_does shift x flow u few word e s =
      let a : ℕ = s.located.address in
      store_does k site (row.Sacl shift) few w h.range v w h m x flow u e named s (lies a s.located.low)
      (low_is_stored shift (At (a % 128)) x v.registers (paged a w) (page_alike v.registers a w h.registers) word) refl

  pub high_does : (shift x : ℕ) (flow : Flow) (u : Machine) → shift < 8 → high_stored (whole_of v.registers.acc) shift ≡ Some x → store_to k.at m x v ≡ Gives flow u → (s : Stored k v w m u) → RowDoes k (row_at (row.Sach shift) s.located.address) v.outside.outs w u
  high_does shift x flow u few word e s =
      let a : ℕ = s.located.address in
      store_does k site (row.Sach shift) few w h.range v w h m x flow u e named s (lies a s.located.low)
      (high_is_stored shift (At (a % 128)) x v.registers (paged a w) (page_alike v.registers a w h.registers) word) refl

  taken_beside : (port x : ℕ) (xs : List ℕ) → InRange (taken_work w port xs) → Beside k (taken_state v port xs) (taken_work w port xs)
  taken_beside port x xs range =
      let old = h.stands in
      record {
        stands = record { frame = old.frame; scratch = old.scratch; given = old.given; memory = old.memory; callers = old.callers; reserved = old.reserved };
        nowhere = h.nowhere;
        registers = alike_again v.registers w (taken_work w port xs) refl refl refl refl h.registers;
        pointed = h.pointed;
        input = ap (λ (i : Input). λ p. cond (p == port) xs (i p)) h.input;
        stack = h.stack;
        range = range;
      }

  -- what is left of the ports is in its range, as behind an input at any address
  taken_range : (port x : ℕ) (xs : List ℕ) → port < 16 → w.input port ≡ x ∷ xs → InRange (taken_work w port xs)
  taken_range port x xs few e =
      let some : NonEmpty (w.input port) = subst NonEmpty (sym e) tt in
      let code : List Instr = row_at (row.In port) 768 in
      let ready : CodeReady code w = (tt, ((lies 768 (lit≤ tt), some), tt)) in
      let same : behind_code code w ≡ stored_at 768 x (taken_work w port xs) = is_taken_in port (At (768 % 128)) x xs (paged 768 w) e in
      let behind : InRange (stored_at 768 x (taken_work w port xs)) = subst InRange same (code_range code w (row_fits (row.In port) 768 few (lit< tt)) ready h.range) in
      let r = h.range in
      record { acc = r.acc; t = r.t; p = r.p; ar = r.ar; arp = r.arp; dp = r.dp; stack = r.stack; room = r.room; ram = r.ram; input = behind.input }

  pub beside_taken : (port x : ℕ) (xs : List ℕ) → port < 16 → w.input port ≡ x ∷ xs → Beside k (taken_state v port xs) (taken_work w port xs)
  beside_taken port x xs few e = taken_beside port x xs (taken_range port x xs few e)

  pub take_does : (port x : ℕ) (xs : List ℕ) (flow : Flow) (u : Machine) → port < 16 → w.input port ≡ x ∷ xs → store_to k.at m x (taken_state v port xs) ≡ Gives flow u → (s : Stored k (taken_state v port xs) (taken_work w port xs) m u)
      → RowDoes k (row_at (row.In port) s.located.address) v.outside.outs w u
  take_does port x xs flow u few is e s =
      let a : ℕ = s.located.address in
      let some : NonEmpty (w.input port) = subst NonEmpty (sym is) tt in
      store_does k site (row.In port) few w h.range (taken_state v port xs) (taken_work w port xs) (beside_taken port x xs few is) m x flow u e named s (lies a s.located.low, some)
      (is_taken_in port (At (a % 128)) x xs (paged a w) is) refl
