-- The code of a run does what its operations do: as a whole, up to an input of a port that has no word left, or in part.
use Rattle.std.proofs.Common.{◌≡◌, ℕ, ◌+◌, ◌*◌, suc, ◌≤◌, true, List, [], ◌∷◌, ◌++◌, length, sym, ◌∙◌, subst, arith, append-nil}
use Rattle.word_base.specs.declared.outcome.Ending.{Ending}
use Rattle.word_base.specs.declared.outcome.Ending.TheVariants.{InputEnded}
use Rattle.word_base.specs.Ports.{Outputs}
use Rattle.c25_code.specs.Work.{Work, InRange}
use Rattle.acc_code.specs.declared.operation.AccOp.TheVariants as row
use Rattle.ir_semantics.specs.Parts.{Res, Gives, Finished, TooMany, Fails, Flow}
use Rattle.ir_semantics.specs.AccRun.{Machine}
use Rattle.emit_blocks.specs.declared.step.Reach.{Reach}
use Rattle.emit_blocks.specs.declared.step.Step.{Step}
use Rattle.emit_blocks.specs.Steps.{Operation, step, steps_of}
use Rattle.emit_blocks.specs.Right.{HaveWords, AreInstrs}
use Rattle.emit_blocks.specs.Runs.{all_steps_code}
use Rattle.emit_proof.specs.Addressed.{AreWordOperations}
use Rattle.emit_proof.specs.Reaching.{IsOverList, AreOverLists, is_word, reach_address}
use Rattle.emit_proof.specs.Direct.{TakeReaches, StepsReady, behind_steps, outputs_of_steps, AlikeOutside, CanRun, RunsAlike}
use Rattle.emit_proof.proofs.Counting.{all_few}
use Rattle.emit_proof.proofs.Directly.{alike_itself}
use Rattle.emit_proof.specs.Accessing.{StepsMay}
use Rattle.emit_proof.proofs.Whole.{steps_run, steps_may, input_ends_soon, part_runs, part_may}
use Rattle.emit_proof.proofs.TakingBeside.{steps_take, steps_over}
use Rattle.emit_proof.proofs.Wording.{steps_words}
use Rattle.emit_proof.proofs.Made.{alike_again}
use Rattle.emit_proof.specs.Standing.{StandsBeside}
use Rattle.emit_proof.specs.Sites.{Site, IsSite, Beside}
use Rattle.emit_proof.specs.Operations.{operate, AreUsable, CodeDoes, CodeEnds, CodeStops, CodeMeets}
use Rattle.emit_proof.specs.Code.{RunsMeet}
use Rattle.emit_proof.proofs.Rows.{code_range}
use Rattle.emit_proof.proofs.Meeting.{StepsDo, StepsEnd, StepsStop, StepsMeet}
use Rattle.emit_proof.proofs.Recursing.{operations_do}

-- facts of the first steps
lists_front : (front rest : List Step) → AreOverLists (front ++ rest) → AreOverLists front
lists_front [] rest lists = tt
lists_front (x ∷ front) rest lists = (lists.0, lists_front front rest lists.1)

list_at : (front : List Step) (x : Step) (rest : List Step) → AreOverLists (front ++ x ∷ rest) → IsOverList x.reach
list_at [] x rest lists = lists.0
list_at (y ∷ front) x rest lists = list_at front x rest lists.1

take_front : (front rest : List Step) → TakeReaches (front ++ rest) → TakeReaches front
take_front [] rest takes = tt
take_front (x ∷ front) rest takes = (takes.0, take_front front rest takes.1)

-- steps as all of a run are
record AreSteps (xs : List Step) : Type 0 where
  lists : AreOverLists xs
  words : HaveWords xs
  takes : TakeReaches xs

can_run : (front rest : List Step) (w : Work) → AreSteps (front ++ rest) → StepsReady front w → CanRun front rest w
can_run front rest w are ready = record { lists = lists_front front rest are.lists; words = are.words; takes = take_front front rest are.takes; ready = ready }

-- work that is alike outside is beside the same state
alike_beside : (k : Site) (v : Machine) (w u : Work) → Beside k v w → AlikeOutside u w → InRange u → Beside k v u
alike_beside k v w u h same range = record {
  stands = subst (StandsBeside k.places k.counts k.kept v) (sym same.ram) h.stands;
  nowhere = h.nowhere;
  registers = alike_again v.registers w u same.acc same.t same.p same.sxm h.registers;
  pointed = λ q e. h.pointed q e ∙ sym same.pointer;
  input = same.input ∙ h.input;
  stack = same.stack ∙ h.stack;
  range = range;
}

module _ (k : Site) (d : ℕ) (v : Machine) (w : Work) where
  whole_runs : (xs : List Step) → AreSteps xs → AreInstrs (all_steps_code d xs) → InRange w → (u : Machine) → StepsDo k xs v.outside.outs v.work w u → CodeDoes k (all_steps_code d xs) v w u
  whole_runs xs are instrs range u does =
      let can : CanRun xs [] w = record { lists = are.lists; words = subst HaveWords (sym (append-nil xs)) are.words; takes = are.takes; ready = does.ready } in
      let r : RunsAlike (all_steps_code d xs) w (behind_steps xs w) (outputs_of_steps xs w) = steps_run d xs w w (alike_itself w) can in
      let ranged : InRange r.work = subst InRange r.runs.reaches (code_range (all_steps_code d xs) w instrs r.runs.ready range) in
      let few = all_few d xs in
      let within = does.within in
      record {
        work = r.work;
        put = outputs_of_steps xs w;
        runs = r.runs;
        accesses = steps_may d xs w w (alike_itself w) can k does.may;
        beside = alike_beside k u (behind_steps xs w) r.work does.beside r.alike ranged;
        outputs = does.outputs;
        within = omega (arith, few, within);
      }

  front_ends : (front : List Step) (port : ℕ) (r : Reach) (rest : List Step) → AreSteps (front ++ step (row.In port) r ∷ rest) → StepsReady front w → StepsMay k front w → is_word r ≡ true → 0x300 ≤ reach_address (behind_steps front w) r → (behind_steps front w).input port ≡ []
      → (all : Outputs) (total : ℕ) → all ≡ v.outside.outs ++ outputs_of_steps front w → suc (length front) + 2 * v.work ≤ 2 * total → CodeEnds k (all_steps_code d (front ++ step (row.In port) r ∷ rest)) v w (InputEnded port) all total
  front_ends front port r rest are ready may over_word low none all total outputs within =
      let x : Step = step (row.In port) r in
      let soon = input_ends_soon d front port r rest w w (alike_itself w) (can_run front (x ∷ rest) w are ready) over_word (list_at front x rest are.lists) low none in
      let few = soon.1 in
      record { put = outputs_of_steps front w; ends = soon.0; accesses = soon.2 k may; outputs = outputs; within = omega (arith, few, within) }

  ends_run : (xs : List Step) → AreSteps xs → (ending : Ending) (all : Outputs) (total : ℕ) → StepsEnd k xs v.outside.outs v.work w ending all total → CodeEnds k (all_steps_code d xs) v w ending all total
  ends_run xs are ending all total e =
      let there = front_ends e.front e.port e.reached e.rest (subst AreSteps e.is are) e.ready e.may e.over_word e.low e.none all total e.outputs e.within in
      subst (λ i. CodeEnds k (all_steps_code d xs) v w i all total) e.ends (subst (λ ys. CodeEnds k (all_steps_code d ys) v w (InputEnded e.port) all total) (sym e.is) there)

  stops_run : (xs : List Step) → AreSteps xs → (all : Outputs) → StepsStop k xs v.outside.outs w all → CodeStops k (all_steps_code d xs) v w all
  stops_run xs are all s =
      let can = can_run s.front s.rest w (subst AreSteps s.is are) s.ready in
      let part = part_runs d s.front s.rest w w (alike_itself w) can in
      subst (λ ys. CodeStops k (all_steps_code d ys) v w all) (sym s.is) (record { put = outputs_of_steps s.front w; part = part; accesses = part_may d s.front s.rest w w (alike_itself w) can k s.may; outputs = s.outputs })

  code_meets : (xs : List Step) → AreSteps xs → AreInstrs (all_steps_code d xs) → InRange w → (r : Res Machine Flow) → StepsMeet k xs v.outside.outs v.work w r → CodeMeets k (all_steps_code d xs) v w r
  code_meets xs are instrs range (Gives flow u) m = (m.0, whole_runs xs are instrs range u m.1)
  code_meets xs are instrs range (Finished ending all total) m = ends_run xs are ending all total m
  code_meets xs are instrs range (TooMany all) m = m
  code_meets xs are instrs range (Fails all) m = stops_run xs are all m

-- numbers of operations that may be used are words
word_operations : (k : Site) (os : List Operation) → AreUsable k os → AreWordOperations os
word_operations k [] usable = tt
word_operations k (o ∷ os) usable = (usable.0.0, word_operations k os usable.1)

pub runs_meet : (k : Site) → IsSite k → RunsMeet k
runs_meet k site = record {
  by = λ os v w right named usable instrs h.
      code_meets k k.places.step v w (steps_of k.places os)
      (record { lists = steps_over k.places os site.own; words = steps_words k.places os site.words (word_operations k os usable); takes = steps_take k.places os right })
      instrs h.range (operate k.at os v) (operations_do k site os right named usable v w h);
}
