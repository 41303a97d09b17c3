-- The items of a Clear, wherever they stand: a loop, or the end of a block where no cell is cleared.
use Rattle.std.proofs.Common.{◌≡◌, ◌⊎◌, inl, inr, ℕ, zero, suc, ◌+◌, ◌-◌, ◌*◌, ◌^◌, ◌<◌, ◌≤◌, Bool, true, false, List, [], ◌∷◌, ◌++◌, length, map, Option, Some, None, refl, sym, ap, ◌∙◌, subst, arith}
use Rattle.std.specs.Prelude.{◌==◌, if◌then◌else◌, nat_lt, slice_get}
use Rattle.std.proofs.lemmas.Bool.{eqb-true, eqb-false}
use Rattle.c_tree.specs.declared.program.VarRef.TheVariants.{Local}
use Rattle.c_tree.specs.TypedTree.{ObjectTree}
use Rattle.c25_isa.specs.declared.instruction.Instr.TheVariants.{Lrlk, Lack, Lalk}
use Rattle.c25_isa.specs.State.{Memory, write}
use Rattle.c25_isa.specs.Step.{wrap16}
use Rattle.c25_isa.specs.StretchRuns.{DataAccess}
use Rattle.c25_isa.specs.Pieces.{items_size, ItemsAt}
use Rattle.c25_code.specs.Work.{Work, InRange, calm}
use Rattle.c25_code.specs.CodeRuns.{CodeRuns}
use Rattle.c25_code.specs.ClearingLoops.{zeroed, behind_clearing, clears_at_any}
use Rattle.c25_code.specs.Accesses.{Accesses, LeadsWithin, InstrMay}
use Rattle.c25_code.specs.ItemRuns.{ItemsRunWithin}
use Rattle.c25_code.specs.Items.{plain_items}
use Rattle.c25_code.proofs.Accesses.{stays_within}
use Rattle.c25_code.proofs.AccessRuns.{jump_taken_within, straight_runs_within, items_run_within_on}
use Rattle.c25_code.proofs.ClearingLoops.{WordsMay, clears_at_any-within}
use Rattle.c25_code.proofs.Ranges.{cond_lt}
use Rattle.c25_isa.specs.declared.instruction.JumpOp.TheVariants as jump
use Rattle.ir_semantics.specs.AccRun.{cells_of}
use Rattle.emit_blocks.specs.Places.{or_zero}
use Rattle.emit_control.specs.Cuts.{count_instr, wipe_items, place_items}
use Rattle.emit_control.specs.declared.state.Before.{Before}
use Rattle.emit_control.specs.declared.state.Before.TheVariants.{Open, Shut, Gone}
use Rattle.emit_proof.specs.Entries.{Passes}
use Rattle.emit_proof.proofs.Taking.{with_acc, once}

-- the number of words is loaded in either mode
counted : (w : Work) (n : ℕ) → n < 32768 → CodeRuns (count_instr n ∷ []) w (with_acc n w) []
counted w n lt = by (nat_lt n 256)
  where
    by : (b : Bool) → CodeRuns ((if b then Lack n else Lalk 0 n) ∷ []) w (with_acc n w) []
    by true = record { ready = (tt, tt); reaches = refl; outputs = refl }
    by false = record { ready = (tt, tt); reaches = ap (λ a. with_acc a w) (once w.sxm n lt); outputs = refl }

-- work before the loop
abbrev pub before_loop : ℕ → ℕ → Work → Work
before_loop a n w = record w { acc = n; ar = write w.ar 1 a }

loaded : (a n : ℕ) (w : Work) → n < 32768 → CodeRuns (Lrlk 1 a ∷ count_instr n ∷ []) w (before_loop a n w) []
loaded a n w lt =
    let c = counted (record w { ar = write w.ar 1 a }) n lt in
    record { ready = (tt, c.ready); reaches = c.reaches; outputs = c.outputs }

-- which accesses nothing
count_may : (may : DataAccess → Bool) (n : ℕ) (w : Work) → InstrMay may (count_instr n) w
count_may may n w = by (nat_lt n 256)
  where
    by : (b : Bool) → InstrMay may (if b then Lack n else Lalk 0 n) w
    by true = tt
    by false = tt

pub loop_runs : (may : DataAccess → Bool) (a n mark : ℕ) (w : Work) → 1 ≤ n → n < 32768 → 0x300 ≤ a → a + n ≤ 65536 → WordsMay may a n → ItemsRunWithin may (wipe_items a n mark) (2 + 4 * n) w (behind_clearing n (before_loop a n w)) []
loop_runs may a n mark w some lt low fits allowed =
    items_run_within_on may (plain_items (Lrlk 1 a ∷ count_instr n ∷ [])) (clears_at_any mark) 2 (4 * n) w (before_loop a n w) (behind_clearing n (before_loop a n w)) [] []
    (straight_runs_within may (Lrlk 1 a ∷ count_instr n ∷ []) w (before_loop a n w) [] (loaded a n w lt) (tt, (count_may may n (record w { ar = write w.ar 1 a }), tt)))
    (clears_at_any-within may mark n (before_loop a n w) refl some low fits allowed)

pub loop_ranges : (a n : ℕ) (w : Work) → a < 65536 → InRange w → InRange (behind_clearing n (before_loop a n w))
loop_ranges a n w lt r = record {
  acc = omega arith;
  t = r.t;
  p = r.p;
  ar = λ i. cond_lt (i == 1) (wrap16 (a + n)) (write w.ar 1 a i) 65536 (omega arith) (at i);
  arp = omega arith;
  dp = r.dp;
  stack = r.stack;
  room = r.room;
  ram = λ b. cond_lt _ 0 (w.ram b) 65536 (omega arith) (r.ram b);
  input = r.input;
}
  where
    at : (i : ℕ) → write w.ar 1 a i < 65536
    at i = cond_lt (i == 1) a (w.ar i) 65536 lt (r.ar i)

-- where no cell is cleared the machine comes to what stands behind in at most one step
pub record Placed (may : DataAccess → Bool) (program : Memory) (pc to : ℕ) (w : Work) : Type 0 where
  pub steps : ℕ
  pub leads : LeadsWithin (Accesses may) steps (calm program pc w) (calm program to w) []
  pub few : steps ≤ 1

pub place_leads : (may : DataAccess → Bool) (program : Memory) (marks : ℕ → ℕ) (names : List ℕ → ℕ) (b : Bool) (x : Before) (l pc : ℕ) (w : Work) → Passes x → ItemsAt program marks names pc (place_items b x l) → Placed may program pc (pc + items_size (place_items b x l)) w
place_leads may program marks names true x l pc w p at = here
  where
    same : pc ≡ pc + 0
    same = omega arith

    here : Placed may program pc (pc + 0) w
    here = record { steps = 0; leads = subst (λ k. LeadsWithin (Accesses may) 0 (calm program pc w) (calm program k w) []) same (stays_within (Accesses may) (calm program pc w)); few = omega arith }
place_leads may program marks names false Open l pc w p at =
    let there : marks l ≡ pc + 2 = at.1.0 in
    record { steps = 1; leads = subst (λ k. LeadsWithin (Accesses may) 1 (calm program pc w) (calm program k w) []) there (jump_taken_within may program pc jump.B (marks l) w at.0 refl); few = omega arith }
place_leads may program marks names false Shut l pc w p at =
    let same : pc ≡ pc + 0 = omega arith in
    record { steps = 0; leads = subst (λ k. LeadsWithin (Accesses may) 0 (calm program pc w) (calm program k w) []) same (stays_within (Accesses may) (calm program pc w)); few = omega arith }
place_leads may program marks names false Gone l pc w p at = absurd p

-- the length of a local object
pub length_at : (xs : List ObjectTree) (j n : ℕ) → cells_of xs (Local j) ≡ Some n → or_zero (slice_get (map (λ (o : ObjectTree). o.length) xs) j) ≡ n
length_at [] j n e = cc
length_at (x ∷ xs) zero n e = same e
  where
    same : {a b : ℕ} → Some a ≡ Some b → a ≡ b
    same q = cc
length_at (x ∷ xs) (suc j) n e = length_at xs j n e
