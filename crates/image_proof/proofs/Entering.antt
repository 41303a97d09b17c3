-- The machine's work where a function has been entered, and where it has been left.
use Rattle.std.proofs.Common.{◌≡◌, ◌≢◌, ◌<◌, ◌^◌, ℕ, Bool, true, false, cond, List, ◌∷◌, length, Option, Some, None, refl, sym, ap, arith}
use Rattle.std.specs.Prelude.{◌==◌}
use Rattle.std.proofs.lemmas.List.Elements.{All-cons}
use Rattle.std.proofs.lemmas.Option.{none-some, same_Some}
use Rattle.c25_isa.specs.Step.{wrap16}
use Rattle.c25_code.specs.Work.{Work, InRange}
use Rattle.c25_code.specs.Returns.{entered}
use Rattle.c25_code.proofs.Writes.{write_same, write_other}
use Rattle.ir_semantics.specs.AccRows.{Acc, Gone, Low, Whole, Registers, low_half}
use Rattle.ir_semantics.specs.AccRun.{at_most_low}
use Rattle.emit_proof.specs.Registers.{AccAlike, RegistersAlike}
use Rattle.image_proof.specs.Kept.{stack_in}

-- only its return word becomes another one
pub other_word : (o : Option ℕ) (ret : ℕ) (w : Work) (a : ℕ) → ((b : ℕ) → o ≡ Some b → b ≢ a) → (entered o ret w).ram a ≡ w.ram a
other_word None ret w a differ = refl
other_word (Some b) ret w a differ = write_other w.ram b ret a (λ same. differ b refl (sym same))

pub its_word : (o : Option ℕ) (ret : ℕ) (w : Work) (a : ℕ) → o ≡ Some a → (entered o ret w).ram a ≡ ret
its_word None ret w a is = absurd (none-some a is)
its_word (Some b) ret w a is = write_same w.ram b ret a (sym (same_Some b a is))

pub entered_registers : (o : Option ℕ) (ret : ℕ) (w : Work) (r : Registers) → RegistersAlike r w → RegistersAlike (record r { acc = Gone; pointed = None }) (entered o ret w)
entered_registers None ret w r h = record { acc = tt; t = h.t; p = h.p; sxm = h.sxm }
entered_registers (Some b) ret w r h = record { acc = tt; t = h.t; p = h.p; sxm = h.sxm }

pub entered_input : (o : Option ℕ) (ret : ℕ) (w : Work) → (entered o ret w).input ≡ w.input
entered_input None ret w = refl
entered_input (Some b) ret w = refl

pub entered_stack : (o : Option ℕ) (ret : ℕ) (w : Work) (stack : List ℕ) → w.stack ≡ stack → (entered o ret w).stack ≡ stack_in o ret stack
entered_stack None ret w stack is = ap (λ s. ret ∷ s) is
entered_stack (Some b) ret w stack is = is

written_by : (b : Bool) (x y : ℕ) → x < 65536 → y < 65536 → cond b x y < 65536
written_by true x y low also = low
written_by false x y low also = also

pub entered_range : (o : Option ℕ) (ret : ℕ) (w : Work) (stack : List ℕ) → w.stack ≡ stack → length stack < 8 → ret < 65536 → ((b : ℕ) → o ≡ Some b → b < 65536) → InRange w → InRange (entered o ret w)
entered_range None ret w stack is few low words r =
    let long : length w.stack ≡ length stack = ap length is in
    record {
      acc = r.acc;
      t = r.t;
      p = r.p;
      ar = r.ar;
      arp = r.arp;
      dp = r.dp;
      stack = All-cons (λ word. word < 2 ^ 16) ret w.stack low r.stack;
      room = omega (arith, long, few);
      ram = r.ram;
      input = r.input;
    }
entered_range (Some b) ret w stack is few low words r =
    let word = words b refl in
    record {
      acc = r.acc;
      t = r.t;
      p = r.p;
      ar = r.ar;
      arp = r.arp;
      dp = omega (arith, word);
      stack = r.stack;
      room = r.room;
      ram = λ a. written_by (a == b) ret (w.ram a) low (r.ram a);
      input = r.input;
    }

-- the low half, where as much is known
low_alike : (z : Acc) (a : ℕ) → AccAlike z a → AccAlike (at_most_low (low_half z)) a
low_alike Gone a h = tt
low_alike (Low x) a h = h
low_alike (Whole z) a h = ap wrap16 h

pub left_registers : (w : Work) (r : Registers) → RegistersAlike r w → RegistersAlike (record r { acc = at_most_low (low_half r.acc); pointed = None }) w
left_registers w r h = record { acc = low_alike r.acc w.acc h.acc; t = h.t; p = h.p; sxm = h.sxm }

pub gone_registers : (w : Work) (r : Registers) → RegistersAlike r w → RegistersAlike (record r { acc = Gone; pointed = None }) w
gone_registers w r h = record { acc = tt; t = h.t; p = h.p; sxm = h.sxm }
