-- Work is beside a state that knows less.
use Rattle.std.proofs.Common.{◌≡◌, ℕ, Some, None}
use Rattle.std.proofs.lemmas.Option.{none-some}
use Rattle.c25_code.specs.Work.{Work}
use Rattle.ir_semantics.specs.AccRun.{Machine, without_acc, without_scratch}
use Rattle.emit_proof.specs.Sites.{Beside, Site}

pub without_scratch_beside : (k : Site) (v : Machine) (w : Work) → Beside k v w → Beside k (without_scratch v) w
without_scratch_beside k v w h =
    let s = h.stands in
    record {
      stands = record { frame = s.frame; scratch = λ n x is. absurd (none-some x is); given = s.given; memory = s.memory; callers = s.callers; reserved = s.reserved };
      nowhere = h.nowhere;
      registers = h.registers;
      pointed = h.pointed;
      input = h.input;
      stack = h.stack;
      range = h.range;
    }

pub without_acc_beside : (k : Site) (v : Machine) (w : Work) → Beside k v w → Beside k (without_acc v) w
without_acc_beside k v w h =
    let s = h.stands in
    let r = h.registers in
    record {
      stands = record { frame = s.frame; scratch = s.scratch; given = s.given; memory = s.memory; callers = s.callers; reserved = s.reserved };
      nowhere = h.nowhere;
      registers = record { acc = tt; t = r.t; p = r.p; sxm = r.sxm };
      pointed = h.pointed;
      input = h.input;
      stack = h.stack;
      range = h.range;
    }

pub more_work_beside : (k : Site) (v : Machine) (w : Work) (n : ℕ) → Beside k v w → Beside k (record v { work = n }) w
more_work_beside k v w n h =
    let s = h.stands in
    record {
      stands = record { frame = s.frame; scratch = s.scratch; given = s.given; memory = s.memory; callers = s.callers; reserved = s.reserved };
      nowhere = h.nowhere;
      registers = h.registers;
      pointed = h.pointed;
      input = h.input;
      stack = h.stack;
      range = h.range;
    }
