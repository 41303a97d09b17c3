-- Runs from their start: as a whole, up to an input of a port that has no word left, and in part.
use Rattle.std.proofs.Common.{◌≡◌, ℕ, ◌+◌, ◌*◌, ◌≤◌, Bool, true, false, if◌then◌else◌, List, [], ◌∷◌, ◌++◌, refl, sym, ap, ◌∙◌, subst, append_assoc, append-nil, length, length-append, arith}
use Rattle.word_base.specs.declared.outcome.Ending.TheVariants.{InputEnded}
use Rattle.c25_isa.specs.declared.instruction.Instr.{Instr}
use Rattle.c25_isa.specs.declared.instruction.Instr.TheVariants.{In}
use Rattle.c25_isa.specs.declared.operand.Operand.{Operand}
use Rattle.c25_isa.specs.State.{write}
use Rattle.c25_code.specs.Work.{Work}
use Rattle.c25_code.specs.Straight.{operand_address, behind_code}
use Rattle.c25_code.specs.Accesses.{CodeMay}
use Rattle.c25_code.specs.CodeRuns.{CodeRuns, EndsAtInput, RunsInPart}
use Rattle.c25_code.proofs.CodeRuns.{runs_on}
use Rattle.acc_code.specs.declared.operation.AccOp.TheVariants as row
use Rattle.emit_blocks.specs.declared.step.Reach.{Reach}
use Rattle.emit_blocks.specs.declared.step.Reach.TheVariants as reach
use Rattle.emit_blocks.specs.declared.step.Step.{Step}
use Rattle.emit_blocks.specs.Steps.{step}
use Rattle.emit_blocks.specs.Moves.{moves_by_index}
use Rattle.emit_blocks.specs.Right.{HasWords, HaveWords}
use Rattle.emit_blocks.specs.Runs.{nothing_known, known_behind, index_code, steps_code, all_steps_code}
use Rattle.emit_proof.specs.Reaching.{is_word, reach_address, IsOverList, before_row, row_operand, row_instr, brought, indexed}
use Rattle.emit_proof.specs.Direct.{behind_steps, outputs_of_steps, AlikeOutside, RunsAlike, CanRun}
use Rattle.emit_proof.specs.Accessing.{site_may, StepsMay}
use Rattle.emit_proof.specs.Sites.{Site}
use Rattle.emit_proof.proofs.Accessing.{may_append, before_may, index_may}
use Rattle.emit_proof.proofs.Bringing.{code_is, before_runs}
use Rattle.emit_proof.proofs.Counting.{before_few, index_few}
use Rattle.emit_proof.proofs.ReachStanding.{address_is, starts_known, starts_run}
use Rattle.emit_proof.proofs.Directly.{FrontRuns, front_runs}

-- AR0 is no part of what is outside
indexed_alike : (b : Bool) (d : ℕ) (w v : Work) → AlikeOutside w v → AlikeOutside (if b then record w { ar = write w.ar 0 d } else w) v
indexed_alike true d w v same = record { acc = same.acc; t = same.t; p = same.p; pointer = same.pointer; sxm = same.sxm; stack = same.stack; ram = same.ram; input = same.input }
indexed_alike false d w v same = same

-- the words of a front of steps
words_known : (d : ℕ) (front rest : List Step) (w v : Work) → AlikeOutside w v → CanRun front rest v → FrontRuns d nothing_known front rest (indexed d (front ++ rest) w) v
words_known d front rest w v same can =
    front_runs d nothing_known front rest (indexed d (front ++ rest) w) v (starts_known d (front ++ rest) w) (indexed_alike (moves_by_index d (front ++ rest)) d w v same) can.lists can.words can.takes can.ready

module _ (d : ℕ) (front rest : List Step) (w v : Work) (same : AlikeOutside w v) (can : CanRun front rest v) where
  abbrev start : List Instr
  start = index_code d (front ++ rest)

  done : FrontRuns d nothing_known front rest (indexed d (front ++ rest) w) v
  done = words_known d front rest w v same can

  whole_is : all_steps_code d (front ++ rest) ≡ (start ++ done.code) ++ steps_code d done.known rest
  whole_is = ap (λ c. start ++ c) done.is ∙ sym (append_assoc start done.code (steps_code d done.known rest))

  whole_runs : CodeRuns (start ++ done.code) w done.work (outputs_of_steps front v)
  whole_runs = runs_on start done.code w (indexed d (front ++ rest) w) done.work [] (outputs_of_steps front v) (starts_run d (front ++ rest) w) done.runs

  whole_may : (site : Site) → StepsMay site front v → CodeMay (site_may site) (start ++ done.code) w
  whole_may site m =
      may_append (site_may site) start done.code w (index_may (site_may site) d (front ++ rest) w)
      (subst (CodeMay (site_may site) done.code) (sym (starts_run d (front ++ rest) w).reaches) (done.allowed site m))

  pub part_runs : RunsInPart (all_steps_code d (front ++ rest)) w (outputs_of_steps front v)
  part_runs = record { front = start ++ done.code; rest = steps_code d done.known rest; is = whole_is; work = done.work; runs = whole_runs }

  pub part_may : (site : Site) → StepsMay site front v → CodeMay (site_may site) part_runs.front w
  unfolding part_runs
  part_may = whole_may

pub steps_run : (d : ℕ) (xs : List Step) (w v : Work) → AlikeOutside w v → CanRun xs [] v → RunsAlike (all_steps_code d xs) w (behind_steps xs v) (outputs_of_steps xs v)
steps_run d xs w v same can =
    let code : List Instr = start d xs [] w v same can ++ (done d xs [] w v same can).code in
    let is : all_steps_code d (xs ++ []) ≡ code ++ [] = whole_is d xs [] w v same can in
    let equal : code ≡ all_steps_code d xs = sym (append-nil code) ∙ sym is ∙ ap (all_steps_code d) (append-nil xs) in
    record {
      work = (done d xs [] w v same can).work;
      runs = subst (λ c. CodeRuns c w (done d xs [] w v same can).work (outputs_of_steps xs v)) equal (whole_runs d xs [] w v same can);
      alike = (done d xs [] w v same can).alike;
    }

pub steps_may : (d : ℕ) (xs : List Step) (w v : Work) → AlikeOutside w v → CanRun xs [] v → (site : Site) → StepsMay site xs v → CodeMay (site_may site) (all_steps_code d xs) w
steps_may d xs w v same can site m =
    let code : List Instr = start d xs [] w v same can ++ (done d xs [] w v same can).code in
    let is : all_steps_code d (xs ++ []) ≡ code ++ [] = whole_is d xs [] w v same can in
    let equal : code ≡ all_steps_code d xs = sym (append-nil code) ∙ sym is ∙ ap (all_steps_code d) (append-nil xs) in
    subst (λ c. CodeMay (site_may site) c w) equal (whole_may d xs [] w v same can site m)

-- the address of a step is the same outside
address_alike : (r : Reach) (w v : Work) → AlikeOutside w v → reach_address w r ≡ reach_address v r
address_alike (reach.Scalar p) w v same = refl
address_alike reach.Pointer w v same = same.pointer
address_alike (reach.Word a) w v same = refl
address_alike (reach.Constant c) w v same = refl

row_is_input : (port : ℕ) (r : Reach) (m : Operand) → is_word r ≡ true → row_instr (row.In port) r m ≡ In port m
row_is_input port (reach.Scalar p) m word = refl
row_is_input port reach.Pointer m word = refl
row_is_input port (reach.Word a) m word = refl
row_is_input port (reach.Constant c) m word = cc

input_kept : (r : Reach) (w : Work) → (brought r w).input ≡ w.input
input_kept (reach.Scalar p) w = refl
input_kept reach.Pointer w = refl
input_kept (reach.Word a) w = refl
input_kept (reach.Constant c) w = refl

words_at : (front : List Step) (x : Step) (rest : List Step) → HaveWords (front ++ x ∷ rest) → HasWords x.reach
words_at [] x rest words = words.0
words_at (y ∷ front) x rest words = words_at front x rest words.1

pub input_ends_soon : (d : ℕ) (front : List Step) (port : ℕ) (r : Reach) (rest : List Step) (w v : Work) → AlikeOutside w v → CanRun front (step (row.In port) r ∷ rest) v → is_word r ≡ true → IsOverList r → 0x300 ≤ reach_address (behind_steps front v) r → (behind_steps front v).input port ≡ []
    → (at : EndsAtInput (all_steps_code d (front ++ step (row.In port) r ∷ rest)) w (outputs_of_steps front v) (InputEnded port)) × (length at.front ≤ 3 * length front + 3) × ((site : Site) → StepsMay site front v → CodeMay (site_may site) at.front w)
input_ends_soon d front port r rest w v same can word list low none =
    let x : Step = step (row.In port) r in
    let f = done d front (x ∷ rest) w v same can in
    let code : List Instr = start d front (x ∷ rest) w v same can ++ f.code in
    let m : Operand = row_operand d r rest in
    let before : List Instr = before_row f.known r in
    let behind : List Instr = steps_code d (known_behind d f.known r rest) rest in
    let here : steps_code d f.known (x ∷ rest) ≡ before ++ In port m ∷ behind =
    ap (λ c. c ++ behind) (code_is d f.known (row.In port) r rest) ∙ append_assoc before (row_instr (row.In port) r m ∷ []) behind ∙ ap (λ i. before ++ i ∷ behind) (row_is_input port r m word) in
    let there : operand_address (brought r f.work) m ≡ reach_address (behind_steps front v) r = address_is d r rest f.work word ∙ address_alike r f.work (behind_steps front v) f.alike in
    let one = index_few d (front ++ x ∷ rest) in
    let two = before_few f.known r in
    let few = f.few in
    let both = length-append (start d front (x ∷ rest) w v same can) f.code in
    let all = length-append code before in (
      record {
        front = code ++ before;
        port = port;
        operand = m;
        rest = behind;
        is = whole_is d front (x ∷ rest) w v same can ∙ ap (λ c. code ++ c) here ∙ sym (append_assoc code before (In port m ∷ behind));
        work = brought r f.work;
        runs = subst (CodeRuns (code ++ before) w (brought r f.work)) (append-nil (outputs_of_steps front v))
            (runs_on code before w f.work (brought r f.work) (outputs_of_steps front v) [] (whole_runs d front (x ∷ rest) w v same can) (before_runs d f.known x rest f.work f.beside list (words_at front x rest can.words)));
        ram = subst (λ a. 0x300 ≤ a) (sym there) low;
        none = ap (λ i. i port) (input_kept r f.work ∙ f.alike.input) ∙ none;
        ends = refl;
      },
      omega (arith, one, two, few, both, all),
      λ site m.
          may_append (site_may site) code before w (whole_may d front (x ∷ rest) w v same can site m)
          (before_may (site_may site) f.known r (behind_code code w)),
    )
