-- Loads of AR1: from the word that Point stores to, and straight from the operand of a load before it.
use Rattle.std.proofs.Common.{◌≡◌, ℕ, ◌*◌, ◌%◌, ◌^◌, ◌<◌, ◌≤◌, Bool, List, [], ◌∷◌, Option, Some, None, refl, sym, ap, ◌∙◌, subst, arith, append-nil, lit<, lit≤}
use Rattle.std.specs.Prelude.{nat_lt}
use Rattle.std.proofs.lemmas.Bool.{cond_both}
use Rattle.std.proofs.lemmas.Option.{same_Some}
use Rattle.c25_isa.specs.declared.operand.Operand.TheVariants.{Direct as At}
use Rattle.c25_isa.specs.declared.instruction.Instr.{Instr}
use Rattle.c25_isa.specs.Step.{wrap16, wrap32}
use Rattle.c25_code.specs.Work.{Work, InRange}
use Rattle.c25_code.specs.Straight.{behind_code, CodeReady}
use Rattle.acc_code.specs.declared.operation.AccOp.TheVariants as row
use Rattle.ir_semantics.specs.AccRows.{Acc, Gone, Low, Whole, Registers, low_half, low_stored, scaled}
use Rattle.ir_semantics.specs.AccRun.{Machine}
use Rattle.emit_blocks.specs.Instructions.{constant_instr}
use Rattle.emit_blocks.specs.Steps.{POINT_WORD}
use Rattle.emit_proof.specs.Direct.{row_at}
use Rattle.emit_proof.specs.Registers.{AccAlike, RegistersAlike}
use Rattle.emit_proof.proofs.LowHalves.{extended_low}
use Rattle.emit_proof.proofs.Made.{alike_again}
use Rattle.emit_proof.proofs.RowStoring.{low_is_stored}
use Rattle.emit_proof.proofs.EmitStoring.{last_stored}
use Rattle.emit_proof.specs.Sites.{Site, IsSite, Beside}
use Rattle.emit_proof.proofs.Rows.{RowDoes, code_range, row_fits, constant_fits, paged, at_address, stands_with}
use Rattle.emit_proof.proofs.StoreRows.{stored_at}

-- a word that is loaded as it is has itself for its low half
word_low : (x : ℕ) → x < 65536 → wrap16 (x * 2 ^ 0) ≡ x
word_low x few = omega (arith, few)

word_whole : (x : ℕ) → x < 65536 → wrap16 (wrap32 (x * 2 ^ 0)) ≡ x
word_whole x few = omega (arith, few)

pub loaded_low : (sxm : Option Bool) (x : ℕ) → x < 65536 → low_half (scaled sxm x 0) ≡ Some x
loaded_low (Some b) x few = ap Some (extended_low b x 0 ∙ word_low x few)
loaded_low None x few =
    cond_both (nat_lt x 32768) (Whole (wrap32 (x * 2 ^ 0))) (Low (wrap16 (x * 2 ^ 0))) (λ a. low_half a ≡ Some x)
    (λ e. ap Some (word_whole x few)) (λ e. ap Some (word_low x few))

module _ (k : Site) (v : Machine) (w : Work) (h : Beside k v w) (s : Registers) (alike : RegistersAlike s w) (x : ℕ) (points : s.pointed ≡ Some x) where
  -- behind a load of AR1 with the word
  pointer_beside : (u : Work) → u.ram ≡ w.ram → u.ar 1 ≡ x → u.input ≡ w.input → u.stack ≡ w.stack → u.acc ≡ w.acc → u.t ≡ w.t → u.p ≡ w.p → u.sxm ≡ w.sxm → InRange u → Beside k (record v { registers = s }) u
  pointer_beside u ram pointer input stack acc t p sxm range = record {
    stands = stands_with k v w h s u.ram ram;
    nowhere = h.nowhere;
    registers = alike_again s w u acc t p sxm alike;
    pointed = λ q e. same_Some q x (sym e ∙ points) ∙ sym pointer;
    input = input ∙ h.input;
    stack = stack ∙ h.stack;
    range = range;
  }

  pub point_does : (a : ℕ) → 0x300 ≤ a → a < 65536 → w.ram a ≡ x → RowDoes k (row_at row.Point a) v.outside.outs w (record v { registers = s })
  point_does a low word is =
      let ready : CodeReady (row_at row.Point a) w = (tt, ((subst (λ b. 0x300 ≤ b) (sym (at_address a w)) low, refl), tt)) in
      let range = code_range (row_at row.Point a) w (row_fits row.Point a tt word) ready h.range in
      record {
        ready = ready;
        beside = pointer_beside (behind_code (row_at row.Point a) w) refl (ap w.ram (at_address a w) ∙ is) refl refl refl refl refl refl range;
        outputs = sym (append-nil v.outside.outs);
      }

  pub address_does : x < 65536 → RowDoes k (constant_instr row.Point x ∷ []) v.outside.outs w (record v { registers = s })
  address_does word =
      let code : List Instr = constant_instr row.Point x ∷ [] in
      let ready : CodeReady code w = (tt, tt) in
      let range = code_range code w (constant_fits row.Point x tt tt word) ready h.range in
      record {
        ready = ready;
        beside = pointer_beside (behind_code code w) refl refl refl refl refl refl refl refl range;
        outputs = sym (append-nil v.outside.outs);
      }

-- the accumulator's low half is a word
low_word : (a : Acc) (acc x : ℕ) → AccAlike a acc → low_half a ≡ Some x → x < 65536
low_word Gone acc x alike e = absurd cc
low_word (Low y) acc x alike e = let same : y ≡ x = same_Some y x e in let is : acc % 65536 ≡ y = alike in omega (arith, same, is)
low_word (Whole z) acc x alike e = let same : z % 65536 ≡ x = same_Some (wrap16 z) x e in omega (arith, same)

stored_low : (b : Option ℕ) (x : ℕ) → b ≡ Some x → x < 65536 → low_stored b 0 ≡ Some x
stored_low b x e few = ap (λ i. low_stored i 0) e ∙ ap Some (word_low x few)

-- Point's own word
module _ (k : Site) (site : IsSite k) (v : Machine) (w : Work) (h : Beside k v w) (x : ℕ) (e : low_half v.registers.acc ≡ Some x) where
  pub low_is_word : x < 65536
  low_is_word = low_word v.registers.acc w.acc x h.registers.acc e

  abbrev behind : Work
  behind = behind_code (row_at (row.Sacl 0) POINT_WORD) w

  same : behind ≡ stored_at POINT_WORD x w
  same = low_is_stored 0 (At (POINT_WORD % 128)) x v.registers (paged POINT_WORD w) (alike_again v.registers w (paged POINT_WORD w) refl refl refl refl h.registers) (stored_low (low_half v.registers.acc) x e low_is_word)

  ready : CodeReady (row_at (row.Sacl 0) POINT_WORD) w
  ready = (tt, (lit≤ tt, tt))

  range : InRange behind
  range = code_range (row_at (row.Sacl 0) POINT_WORD) w (row_fits (row.Sacl 0) POINT_WORD (lit< tt) (lit< tt)) ready h.range

  kept : InRange (stored_at POINT_WORD x w) → Beside k v (stored_at POINT_WORD x w)
  kept ranged = record {
    stands = last_stored k.places k.counts k.kept site.apart v w.ram h.stands x;
    nowhere = h.nowhere;
    registers = alike_again v.registers w (stored_at POINT_WORD x w) refl refl refl refl h.registers;
    pointed = h.pointed;
    input = h.input;
    stack = h.stack;
    range = ranged;
  }

  pub point_stores : RowDoes k (row_at (row.Sacl 0) POINT_WORD) v.outside.outs w v
  point_stores = record {
    ready = ready;
    beside = subst (Beside k v) (sym same) (kept (subst InRange same range));
    outputs = sym (append-nil v.outside.outs);
  }

  pub point_stored : behind.ram POINT_WORD ≡ x
  point_stored = ap (λ (u : Work). u.ram POINT_WORD) same
