-- A run does what its steps do on the words at their addresses: row by row, and over any number of rows.
use Rattle.std.proofs.Common.{◌≡◌, ℕ, ◌*◌, ◌/◌, ◌%◌, ◌≤◌, true, false, List, [], ◌∷◌, ◌++◌, length, refl, lit≤, length-append, sym, ap, ◌∙◌, subst, arith, append_assoc}
use Rattle.word_base.specs.Ports.{Outputs}
use Rattle.c25_isa.specs.declared.operand.Operand.{Operand}
use Rattle.c25_isa.specs.declared.operand.Operand.TheVariants.{Direct}
use Rattle.c25_isa.specs.declared.instruction.Instr.{Instr}
use Rattle.c25_isa.specs.Step.{changes}
use Rattle.c25_code.specs.Work.{Work}
use Rattle.c25_code.specs.Straight.{operand_address, registers_behind, behind_instr, prepended, behind_code, outputs_of_code, CodeReady}
use Rattle.c25_code.specs.CodeRuns.{CodeRuns}
use Rattle.c25_code.specs.Accesses.{CodeMay}
use Rattle.c25_code.proofs.Writes.{write_other}
use Rattle.c25_code.proofs.CodeRuns.{runs_on}
use Rattle.acc_code.specs.declared.operation.AccOp.{AccOp}
use Rattle.emit_blocks.specs.declared.step.Reach.{Reach}
use Rattle.emit_blocks.specs.declared.step.Reach.TheVariants as reach
use Rattle.emit_blocks.specs.declared.step.Step.{Step}
use Rattle.emit_blocks.specs.Right.{HaveWords}
use Rattle.emit_blocks.specs.Instructions.{word_instr}
use Rattle.emit_blocks.specs.Runs.{Known, row_code, known_behind, steps_code}
use Rattle.emit_proof.specs.Reaching.{IsOverList, AreOverLists, before_row, row_operand, row_instr, brought, LeavesRegisters}
use Rattle.emit_proof.specs.KnownAlike.{KnownAlike}
use Rattle.emit_proof.specs.Direct.{takes_word, TakesReach, TakeReaches, direct_row, row_at, behind_step, behind_steps, StepsReady, outputs_of_steps, AlikeOutside}
use Rattle.emit_proof.specs.Accessing.{site_may, ReachMay, StepsMay}
use Rattle.emit_proof.specs.Sites.{Site}
use Rattle.emit_proof.proofs.Accessing.{may_append, before_may, row_may}
use Rattle.emit_proof.proofs.Bringing.{code_is, before_runs}
use Rattle.emit_proof.proofs.Counting.{row_few}
use Rattle.emit_proof.proofs.ReachStanding.{address_is, pointer_stays, pointer_loads, known_stays, above_1}
use Rattle.emit_proof.proofs.Operands.{rows_alike, row_leaves}
use Rattle.emit_proof.proofs.Constants.{constants_alike, constant_leaves}

-- what stands before a row changes nothing outside
brought_alike : (r : Reach) (w v : Work) → IsOverList r → AlikeOutside w v → AlikeOutside (brought r w) v
brought_alike (reach.Scalar p) w v list same = record {
  acc = same.acc;
  t = same.t;
  p = same.p;
  pointer = write_other w.ar p.register p.address 1 (above_1 p.register list) ∙ same.pointer;
  sxm = same.sxm;
  stack = same.stack;
  ram = same.ram;
  input = same.input;
}
brought_alike reach.Pointer w v list same = record { acc = same.acc; t = same.t; p = same.p; pointer = same.pointer; sxm = same.sxm; stack = same.stack; ram = same.ram; input = same.input }
brought_alike (reach.Word a) w v list same = record { acc = same.acc; t = same.t; p = same.p; pointer = same.pointer; sxm = same.sxm; stack = same.stack; ram = same.ram; input = same.input }
brought_alike (reach.Constant c) w v list same = same

pub alike_itself : (w : Work) → AlikeOutside w w
alike_itself w = record { acc = refl; t = refl; p = refl; pointer = refl; sxm = refl; stack = refl; ram = refl; input = refl }

-- nor does a page that is set
paged_alike : (page : ℕ) (w v : Work) → AlikeOutside w v → AlikeOutside w (record v { dp = page })
paged_alike page w v same = record { acc = same.acc; t = same.t; p = same.p; pointer = same.pointer; sxm = same.sxm; stack = same.stack; ram = same.ram; input = same.input }

pub brought_kept : (r : Reach) (w : Work) → IsOverList r → AlikeOutside (brought r w) w
brought_kept r w list = brought_alike r w w list (alike_itself w)

pointer_kept : (d : ℕ) (r : Reach) (xs : List Step) (w : Work) → IsOverList r → registers_behind (row_operand d r xs) (brought r w) 1 ≡ (brought r w).ar 1
pointer_kept d r xs w list = pointer_stays d r xs w list ∙ sym (brought_kept r w list).pointer

-- a row beside its direct one
record RowRuns (i : Instr) (code : List Instr) (m : Operand) (w v : Work) : Type 0 where
  runs : CodeRuns (i ∷ []) w (behind_instr i w) (outputs_of_code code v)
  alike : AlikeOutside (behind_instr i w) (behind_code code v)
  leaves : LeavesRegisters m w (behind_instr i w)

word_runs : (o : AccOp) (m : Operand) (a : ℕ) (w v : Work) → takes_word o ≡ true → AlikeOutside w v → operand_address w m ≡ a → registers_behind m w 1 ≡ w.ar 1 → changes 1 w.arp m ≡ false → CodeReady (row_at o a) v → RowRuns (word_instr o m) (row_at o a) m w v
word_runs o m a w v takes same at stays loads ready =
    let v1 : Work = record v { dp = a / 128 } in
    let there : operand_address v1 (Direct (a % 128)) ≡ a = omega arith in
    let both = rows_alike m (Direct (a % 128)) w v1 (paged_alike (a / 128) w v same) (at ∙ sym there) stays refl loads o takes in
    record {
      runs = record { ready = (both.ready ready.1.0, tt); reaches = refl; outputs = ap (λ put. prepended put []) both.output };
      alike = both.alike;
      leaves = row_leaves m w o takes;
    }

row_runs : (d : ℕ) (o : AccOp) (r : Reach) (xs : List Step) (w v : Work) → TakesReach o r → IsOverList r → AlikeOutside w v → CodeReady (direct_row o r v) v → RowRuns (row_instr o r (row_operand d r xs)) (direct_row o r v) (row_operand d r xs) (brought r w) v
row_runs d o (reach.Scalar p) xs w v takes list same ready =
    let r : Reach = reach.Scalar p in
    word_runs o (row_operand d r xs) p.address (brought r w) v takes (brought_alike r w v list same) (address_is d r xs w refl) (pointer_kept d r xs w list) (pointer_loads d r xs w list) ready
row_runs d o reach.Pointer xs w v takes list same ready =
    let r : Reach = reach.Pointer in
    word_runs o (row_operand d r xs) (v.ar 1) (brought r w) v takes (brought_alike r w v list same) same.pointer refl refl ready
row_runs d o (reach.Word a) xs w v takes list same ready =
    let r : Reach = reach.Word a in
    word_runs o (row_operand d r xs) a (brought r w) v takes (brought_alike r w v list same) (address_is d r xs w refl) refl refl ready
row_runs d o (reach.Constant c) xs w v takes list same ready =
    let both = constants_alike c w v same o in
    record {
      runs = record { ready = (both.ready ready.0, tt); reaches = refl; outputs = ap (λ put. prepended put []) both.output };
      alike = both.alike;
      leaves = constant_leaves o c w;
    }

-- the first steps of a run, with what stands behind them
pub record FrontRuns (d : ℕ) (k : Known) (front rest : List Step) (w v : Work) : Type 0 where
  pub code : List Instr
  pub known : Known
  pub work : Work
  pub is : steps_code d k (front ++ rest) ≡ code ++ steps_code d known rest
  pub runs : CodeRuns code w work (outputs_of_steps front v)
  pub alike : AlikeOutside work (behind_steps front v)
  pub beside : KnownAlike d known rest work
  pub few : length code ≤ 3 * length front
  pub allowed : (site : Site) → StepsMay site front v → CodeMay (site_may site) code w

module _ (d : ℕ) where
  step_then : (k : Known) (x : Step) (front rest : List Step) (w v u : Work) (put : Outputs) → CodeRuns (row_code d k x.row x.reach (front ++ rest)) w u put → put ≡ outputs_of_code (direct_row x.row x.reach v) v
      → ((site : Site) → ReachMay site v x.reach → CodeMay (site_may site) (row_code d k x.row x.reach (front ++ rest)) w)
      → FrontRuns d (known_behind d k x.reach (front ++ rest)) front rest u (behind_step x v) → FrontRuns d k (x ∷ front) rest w v
  step_then k x front rest w v u put runs outs first_may f =
      let first : List Instr = row_code d k x.row x.reach (front ++ rest) in
      record {
        code = first ++ f.code;
        known = f.known;
        work = f.work;
        is = ap (λ c. first ++ c) f.is ∙ sym (append_assoc first f.code (steps_code d f.known rest));
        runs = subst (λ p. CodeRuns (first ++ f.code) w f.work (p ++ outputs_of_steps front (behind_step x v))) outs (runs_on first f.code w u f.work put (outputs_of_steps front (behind_step x v)) runs f.runs);
        alike = f.alike;
        beside = f.beside;
        few = let one = row_few d k x.row x.reach (front ++ rest) in let others = f.few in let both = length-append first f.code in omega (arith, one, others, both);
        allowed = λ site m. may_append (site_may site) first f.code w (first_may site m.0) (subst (CodeMay (site_may site) f.code) (sym runs.reaches) (f.allowed site m.1));
      }

  pub front_runs : (k : Known) (front rest : List Step) (w v : Work) → KnownAlike d k (front ++ rest) w → AlikeOutside w v → AreOverLists front → HaveWords (front ++ rest) → TakeReaches front → StepsReady front v → FrontRuns d k front rest w v
  front_runs k [] rest w v beside same lists words takes ready = record {
    code = [];
    known = k;
    work = w;
    is = refl;
    runs = record { ready = tt; reaches = refl; outputs = refl };
    alike = same;
    beside = beside;
    few = lit≤ tt;
    allowed = λ site m. tt;
  }
  front_runs k (x ∷ front) rest w v beside same lists words takes ready =
      let r : Reach = x.reach in
      let xs : List Step = front ++ rest in
      let m : Operand = row_operand d r xs in
      let i : Instr = row_instr x.row r m in
      let row = row_runs d x.row r xs w v takes.0 lists.0 same ready.0 in
      let u : Work = behind_instr i (brought r w) in
      let put : Outputs = outputs_of_code (direct_row x.row r v) v in
      let before = before_runs d k x xs w beside lists.0 words.0 in
      let both = runs_on (before_row k r) (i ∷ []) w (brought r w) u [] put before row.runs in
      let runs = subst (λ c. CodeRuns c w u put) (sym (code_is d k x.row r xs)) both in
      step_then k x front rest w v u put runs refl
      (λ site m.
      subst (λ c. CodeMay (site_may site) c w) (sym (code_is d k x.row r xs))
      (may_append (site_may site) (before_row k r) (i ∷ []) w (before_may (site_may site) k r w) (subst (CodeMay (site_may site) (i ∷ [])) (sym before.reaches) (row_may site d x.row r xs w v same m, tt))))
      (front_runs (known_behind d k r xs) front rest u (behind_step x v) (known_stays d k x xs w u beside lists.0 words row.leaves) row.alike lists.1 words.1 takes.1 ready.1)
