-- Startups bring the machine from a reset to the call of `main`, with the static objects in data memory.
use Rattle.std.proofs.Common.{◌≡◌, ℕ, ◌+◌, ◌*◌, ◌^◌, ◌<◌, ◌≤◌, true, List, [], ◌∷◌, ◌++◌, length, refl, sym, ap, subst, arith}
use Rattle.std.specs.List.{AllByRecursion}
use Rattle.std.proofs.lemmas.List.Elements.{All-nil}
use Rattle.word_base.specs.Ports.{Input, IsInput}
use Rattle.c_tree.specs.SourceRun.{main_name}
use Rattle.c_tree.specs.TypedTree.{ObjectTree}
use Rattle.c25_isa.specs.declared.instruction.Instr.TheVariants.{Ssxm}
use Rattle.c25_isa.specs.declared.piece.PieceItem.TheVariants.{Do}
use Rattle.c25_isa.specs.MachineRun.{reset}
use Rattle.c25_isa.specs.Pieces.{items_size, ItemsAt}
use Rattle.c25_isa.specs.State.{IsStart, Start}
use Rattle.c25_code.specs.Items.{plain_items}
use Rattle.c25_code.specs.ItemRuns.{ItemsRun}
use Rattle.c25_code.specs.Work.{Work, InRange, work_of}
use Rattle.c25_code.proofs.ItemRuns.{straight_runs, items_run_on}
use Rattle.c25_code.proofs.Ranges.{behind_instr-fits}
use Rattle.c25_code.proofs.Startups.{startup_arrives}
use Rattle.c_tree.specs.TypedOfWords.{StartsWithWords}
use Rattle.tree_code.specs.WellFormedCode.{IsCode}
use Rattle.tree_code.specs.WordTree.{ProgramCode}
use Rattle.mem_plan.specs.declared.data_plan.DataPlan.{DataPlan}
use Rattle.mem_plan.specs.DataNeeds.{objects_words}
use Rattle.mem_plan.specs.Plan.{object_addresses, plan_of, statics_start, IsPlan}
use Rattle.frame_emit.specs.Startup.{static_words, clearing_items, fillings_code, statics_items, startup_piece}
use Rattle.ir_semantics.specs.Outside.{Places, with_statics}
use Rattle.image_proof.specs.PlanPlaces.{places_of}
use Rattle.image_proof.specs.Starts.{StartsRight}
use Rattle.image_proof.proofs.Initials.{IsReady, objects_ready}
use Rattle.image_proof.proofs.Objects.{IsHeld, nowhere, nowhere_held, LieInOrder, AreFilled, objects_fill, fillings_short}
use Rattle.image_proof.proofs.Clearing.{cleared, clearing_runs, clearing_fit, clearing_clears}
use Rattle.image_proof.proofs.Planned.{same_words, plan_has_room, same_address, in_order}

-- what comes of the startup's own items
record Initializes (statics : List ℕ) (q : Places) (os : List ObjectTree) (w : Work) : Type 0 where
  pub steps : ℕ
  pub work : Work
  pub runs : ItemsRun (statics_items statics os ++ Do Ssxm ∷ []) steps w work []
  pub few : steps ≤ 100 + 16 * static_words os
  pub range : InRange work
  pub stack : work.stack ≡ w.stack
  pub input : work.input ≡ w.input
  pub sxm : work.sxm ≡ true
  pub held : IsHeld (with_statics q 0 os nowhere) work.ram

abbrev signed : Work → Work
signed w = record w { sxm = true }

sign_runs : (w : Work) → ItemsRun (Do Ssxm ∷ []) 1 w (signed w) []
sign_runs w = straight_runs (Ssxm ∷ []) w (signed w) [] (record { ready = (tt, tt); reaches = refl; outputs = refl })

sign_range : (w : Work) → InRange w → InRange (signed w)
sign_range w r = behind_instr-fits Ssxm w tt tt r

module _ (q : Places) (w : Work) (range : InRange w) where
  -- without objects nothing is cleared or filled
  none_initialize : (statics : List ℕ) → Initializes statics q [] w
  none_initialize statics = record {
    steps = 1;
    work = signed w;
    runs = sign_runs w;
    few = omega arith;
    range = sign_range w range;
    stack = refl;
    input = refl;
    sxm = refl;
    held = nowhere_held w.ram;
  }

  module _ (o : ObjectTree) (os : List ObjectTree) where
    abbrev all : List ObjectTree
    all = o ∷ os

    abbrev statics : List ℕ
    statics = object_addresses statics_start all

    abbrev count : ℕ
    count = static_words all

    some_initialize : LieInOrder statics q 0 statics_start all → AllByRecursion (IsReady statics q) all → statics_start + objects_words all ≤ 65536 → Initializes statics q all w
    some_initialize order ready room =
        let many = same_words all in
        let one : 1 ≤ count = omega (arith, many) in
        let within : statics_start + count ≤ 65536 = omega (arith, many, room) in
        let v : Work = cleared count w in
        let fit = clearing_fit count w one within range in
        let clear = clearing_clears count w one within in
        let filled : AreFilled statics q all 0 statics_start v = objects_fill statics q all 0 statics_start v order ready fit (λ b from to. clear b from (omega (arith, to, many))) (omega arith) room in
        let code = fillings_code statics statics all in
        record {
          steps = 4 + 3 * count + length code + 1;
          work = signed filled.work;
          runs = items_run_on (statics_items statics all) (Do Ssxm ∷ []) (4 + 3 * count + length code) 1 w filled.work (signed filled.work) [] []
              (items_run_on (clearing_items count) (plain_items code) (4 + 3 * count) (length code) w v filled.work [] [] (clearing_runs count w one within) (straight_runs code v filled.work [] filled.fills.runs))
              (sign_runs filled.work);
          few = omega (arith, many, fillings_short statics q all statics_start ready);
          range = sign_range filled.work filled.fills.fit.range;
          stack = filled.fills.stack;
          input = filled.fills.input;
          sxm = refl;
          held = filled.held;
        }

  initialize : (os : List ObjectTree) → LieInOrder (object_addresses statics_start os) q 0 statics_start os → AllByRecursion (IsReady (object_addresses statics_start os) q) os → statics_start + objects_words os ≤ 65536 → Initializes (object_addresses statics_start os) q os w
  initialize [] order ready room = none_initialize []
  initialize (o ∷ os) order ready room = some_initialize o os order ready room

reset_range : (b : Start) (input : Input) → IsStart b → IsInput input → InRange (work_of (reset b input))
reset_range b input is inputs = record { acc = is.acc; t = is.t; p = is.p; ar = is.ar; arp = is.arp; dp = is.dp; stack = All-nil (λ x. x < 2 ^ 16); room = omega arith; ram = is.ram; input = inputs }

module _ (b : Start) (input : Input) (marks : ℕ → ℕ) (names : List ℕ → ℕ) (p : ProgramCode) where
  module _ (q : Places) (statics : List ℕ) (done : Initializes statics q p.statics (work_of (reset b input))) where
    arrives_so : (plan : DataPlan) → places_of plan ≡ q → ItemsAt b.program marks names 0 (startup_piece statics p.statics).items → items_size (startup_piece statics p.statics).items ≤ 65536 → StartsRight b input p plan (names main_name)
    arrives_so plan same at ends = record {
      steps = done.steps;
      work = done.work;
      arrives = startup_arrives b input marks names (statics_items statics p.statics ++ Do Ssxm ∷ []) main_name done.steps done.work at ends done.runs;
      few = done.few;
      range = done.range;
      stack = done.stack;
      input = done.input;
      sxm = done.sxm;
      ram = subst (λ r. IsHeld (with_statics r 0 p.statics nowhere) done.work.ram) (sym same) done.held;
    }

  planned_starts : (arrangements : List (List (List ℕ))) (begin : ℕ → ℕ) (plan : DataPlan) → plan ≡ plan_of p arrangements begin → statics_start + objects_words p.statics ≤ 65536 → IsCode p → StartsWithWords p.statics → IsStart b → IsInput input
      → ItemsAt b.program marks names 0 (startup_piece plan.statics p.statics).items → items_size (startup_piece plan.statics p.statics).items ≤ 65536 → StartsRight b input p plan (names main_name)
  planned_starts arrangements begin plan is room code words start inputs =
      let own : DataPlan = plan_of p arrangements begin in
      let q : Places = places_of own in
      let ready = objects_ready own.statics q p.statics (λ n o there. same_address p.statics statics_start n o there) p.statics code.statics words in
      let order = in_order own.statics q p.statics 0 statics_start (λ i. let e : 0 + i ≡ i = omega arith in ap q.static e) in
      let done = initialize q (work_of (reset b input)) (reset_range b input start inputs) p.statics order ready room in
      subst (λ (x : DataPlan). ItemsAt b.program marks names 0 (startup_piece x.statics p.statics).items → items_size (startup_piece x.statics p.statics).items ≤ 65536 → StartsRight b input p x (names main_name)) (sym is)
      (arrives_so q own.statics done own refl)

  pub startup_starts : (arrangements : List (List (List ℕ))) (plan : DataPlan) → IsPlan p arrangements plan → IsCode p → StartsWithWords p.statics → IsStart b → IsInput input
      → ItemsAt b.program marks names 0 (startup_piece plan.statics p.statics).items → items_size (startup_piece plan.statics p.statics).items ≤ 65536 → StartsRight b input p plan (names main_name)
  startup_starts arrangements plan is = planned_starts arrangements is.begin plan is.is (plan_has_room p arrangements plan is)
