-- The words of all static objects become 0: AR1 is at the first of them, and constants load as they are from then on.
use Rattle.std.proofs.Common.{◌≡◌, ℕ, ◌+◌, ◌*◌, ◌^◌, ◌<◌, ◌≤◌, false, List, [], ◌∷◌, Some, refl, ap, subst, arith}
use Rattle.std.specs.Prelude.{nat_le, nat_lt, ◌==◌, ◌&&◌}
use Rattle.c25_isa.specs.declared.operand.Change.TheVariants.{Stay}
use Rattle.c25_isa.specs.declared.operand.Indirect.{Indirect}
use Rattle.c25_isa.specs.declared.instruction.Instr.{Instr}
use Rattle.c25_isa.specs.declared.instruction.Instr.TheVariants.{Mar, Lrlk, Lalk, Rsxm}
use Rattle.c25_isa.specs.State.{Memory, write}
use Rattle.c25_isa.specs.Step.{wrap16, wrap32}
use Rattle.c25_code.specs.Work.{Work, InRange}
use Rattle.c25_code.specs.CodeRuns.{CodeRuns}
use Rattle.c25_code.specs.ClearingLoops.{zeroed, behind_clearing, clears_at_one}
use Rattle.c25_code.specs.ItemRuns.{ItemsRun}
use Rattle.c25_code.proofs.ClearingLoops.{zeroed_in, clears_at_one-runs}
use Rattle.c25_code.proofs.ItemRuns.{straight_runs, items_run_on}
use Rattle.c25_code.proofs.Ranges.{cond_lt, behind_instr-fits}
use Rattle.c25_code.proofs.Writes.{write_same}
use Rattle.frame_emit.specs.Startup.{STATICS_START, clearing_head, clearing_items}
use Rattle.image_proof.proofs.Stores.{AreClear}
use Rattle.image_proof.proofs.Filling.{IsFit}

-- before the loop
abbrev first_register : Indirect
first_register = record { change = Stay; next = Some 1 }

abbrev head_code : ℕ → List Instr
head_code n = Mar first_register ∷ Lrlk 1 STATICS_START ∷ Rsxm ∷ Lalk 0 n ∷ []

abbrev headed : ℕ → Work → Work
headed n w = record w { acc = n; ar = write (write w.ar w.arp (w.ar w.arp)) 1 STATICS_START; arp = 1; sxm = false }

module _ (n : ℕ) (w : Work) (count : n < 65536) where
  head_runs : CodeRuns (head_code n) w (headed n w) []
  head_runs = record {
    ready = (tt, (tt, (tt, (tt, tt))));
    reaches = ap (λ a. record (headed n w) { acc = a }) (let e : wrap32 (n * 2 ^ 0) ≡ n = omega (arith, count) in e);
    outputs = refl;
  }

  head_range : InRange w → InRange (headed n w)
  head_range r =
      let marked = behind_instr-fits (Mar first_register) w (omega arith) tt r in
      let aimed = behind_instr-fits (Lrlk 1 STATICS_START) _ (omega arith, omega arith) tt marked in
      let unsigned = behind_instr-fits Rsxm _ tt tt aimed in
      subst InRange head_runs.reaches (behind_instr-fits (Lalk 0 n) _ (omega arith, count) tt unsigned)

write_range : (ar : ℕ → ℕ) (v : ℕ) → ((k : ℕ) → ar k < 2 ^ 16) → v < 2 ^ 16 → (k : ℕ) → write ar 1 v k < 2 ^ 16
write_range ar v all is k = cond_lt (k == 1) v (ar k) (2 ^ 16) is (all k)

zeroed_range : (start n : ℕ) (ram : Memory) → ((a : ℕ) → ram a < 2 ^ 16) → (a : ℕ) → zeroed start n ram a < 2 ^ 16
zeroed_range start n ram all a = cond_lt (nat_le start a && nat_lt a (start + n)) 0 (ram a) (2 ^ 16) (omega arith) (all a)

loop_range : (n : ℕ) (w : Work) → InRange w → InRange (behind_clearing n w)
loop_range n w r = record {
  acc = omega arith;
  t = r.t;
  p = r.p;
  ar = write_range w.ar (wrap16 (w.ar 1 + n)) r.ar (omega arith);
  arp = omega arith;
  dp = r.dp;
  stack = r.stack;
  room = r.room;
  ram = zeroed_range (w.ar 1) n w.ram r.ram;
  input = r.input;
}

-- work behind all of it
abbrev pub cleared : ℕ → Work → Work
cleared n w = behind_clearing n (headed n w)

module _ (n : ℕ) (w : Work) (some : 1 ≤ n) (room : STATICS_START + n ≤ 65536) where
  starts_there : (headed n w).ar 1 ≡ STATICS_START
  starts_there = write_same (write w.ar w.arp (w.ar w.arp)) 1 STATICS_START 1 refl

  pub clearing_runs : ItemsRun (clearing_items n) (4 + 3 * n) w (cleared n w) []
  clearing_runs = items_run_on (clearing_head n) (clears_at_one 0) 4 (3 * n) w (headed n w) (cleared n w) [] []
      (straight_runs (head_code n) w (headed n w) [] (head_runs n w (omega (arith, room))))
      (clears_at_one-runs 0 n (headed n w) refl some refl (omega (arith, starts_there)) (omega (arith, room, starts_there)))

  pub clearing_fit : InRange w → IsFit (cleared n w)
  clearing_fit r = record { arp = refl; sxm = refl; range = loop_range n (headed n w) (head_range n w (omega (arith, room)) r) }

  pub clearing_clears : AreClear STATICS_START n (cleared n w).ram
  clearing_clears b from to = zeroed_in ((headed n w).ar 1) n w.ram b (omega (arith, from, starts_there)) (omega (arith, to, starts_there))
