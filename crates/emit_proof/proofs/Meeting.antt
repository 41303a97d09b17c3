-- What the steps of operations come to on the words at their addresses, beside what the operations came to; one step before others.
use Rattle.std.proofs.Common.{◌≡◌, ℕ, suc, ◌+◌, ◌*◌, ◌≤◌, true, List, [], ◌∷◌, ◌++◌, length, refl, sym, ap, ◌∙◌, arith, append_assoc, append-nil}
use Rattle.word_base.specs.declared.outcome.Ending.{Ending}
use Rattle.word_base.specs.declared.outcome.Ending.TheVariants.{InputEnded}
use Rattle.word_base.specs.Ports.{Outputs}
use Rattle.c25_code.specs.Work.{Work}
use Rattle.c25_code.specs.Straight.{outputs_of_code}
use Rattle.acc_code.specs.declared.operation.AccOp.TheVariants as row
use Rattle.ir_semantics.specs.Parts.{Res, Gives, Finished, TooMany, Fails, Does, after, Flow, Next, Broke, Continued, Returned, in_order}
use Rattle.ir_semantics.specs.AccRun.{Machine}
use Rattle.emit_blocks.specs.declared.step.Reach.{Reach}
use Rattle.emit_blocks.specs.declared.step.Step.{Step}
use Rattle.emit_blocks.specs.Steps.{step}
use Rattle.emit_proof.specs.Reaching.{is_word, reach_address}
use Rattle.emit_proof.specs.Direct.{direct_row, behind_step, behind_steps, StepsReady, outputs_of_steps}
use Rattle.emit_proof.specs.Accessing.{ReachMay, StepsMay}
use Rattle.emit_proof.specs.Sites.{Site, Beside}
use Rattle.emit_proof.proofs.Rows.{RowDoes}

-- behind the steps the state is this one. A unit of work is worth two steps
pub record StepsDo (k : Site) (xs : List Step) (outs : Outputs) (begun : ℕ) (w : Work) (u : Machine) : Type 0 where
  pub ready : StepsReady xs w
  pub may : StepsMay k xs w
  pub beside : Beside k u (behind_steps xs w)
  pub outputs : u.outside.outs ≡ outs ++ outputs_of_steps xs w
  pub within : length xs + 2 * begun ≤ 2 * u.work

-- behind some of them there is an input of a port that has no word left
pub record StepsEnd (k : Site) (xs : List Step) (outs : Outputs) (begun : ℕ) (w : Work) (ending : Ending) (all : Outputs) (total : ℕ) : Type 0 where
  pub front : List Step
  pub port : ℕ
  pub reached : Reach
  pub rest : List Step
  pub is : xs ≡ front ++ step (row.In port) reached ∷ rest
  pub ready : StepsReady front w
  pub may : StepsMay k front w
  pub over_word : is_word reached ≡ true
  pub low : 0x300 ≤ reach_address (behind_steps front w) reached
  pub none : (behind_steps front w).input port ≡ []
  pub ends : InputEnded port ≡ ending
  pub outputs : all ≡ outs ++ outputs_of_steps front w
  pub within : suc (length front) + 2 * begun ≤ 2 * total

-- some of them put these outputs
pub record StepsStop (k : Site) (xs : List Step) (outs : Outputs) (w : Work) (all : Outputs) : Type 0 where
  pub front : List Step
  pub rest : List Step
  pub is : xs ≡ front ++ rest
  pub ready : StepsReady front w
  pub may : StepsMay k front w
  pub outputs : all ≡ outs ++ outputs_of_steps front w

abbrev pub StepsMeet : Site → List Step → Outputs → ℕ → Work → Res Machine Flow → Type 0
StepsMeet k xs outs begun w (Gives flow u) = (flow ≡ Next) × StepsDo k xs outs begun w u
StepsMeet k xs outs begun w (Finished ending all total) = StepsEnd k xs outs begun w ending all total
StepsMeet k xs outs begun w (TooMany all) = ⊥
StepsMeet k xs outs begun w (Fails all) = StepsStop k xs outs w all

-- nothing was done
pub steps_fail : {k : Site} (xs : List Step) (outs : Outputs) (w : Work) → StepsStop k xs outs w outs
steps_fail xs outs w = record { front = []; rest = xs; is = refl; ready = tt; may = tt; outputs = sym (append-nil outs) }

pub no_steps : (k : Site) (v : Machine) (w : Work) → Beside k v w → StepsMeet k [] v.outside.outs v.work w (Gives Next v)
no_steps k v w h = (refl, record { ready = tt; may = tt; beside = h; outputs = sym (append-nil v.outside.outs); within = omega arith })

-- one step before others
module _ (k : Site) (x : Step) (outs : Outputs) (begun more : ℕ) (w : Work) (u : Machine) (does : RowDoes k (direct_row x.row x.reach w) outs w u) (may : ReachMay k w x.reach) (few : 1 + 2 * begun ≤ 2 * more) where
  together : (rest all : Outputs) → all ≡ u.outside.outs ++ rest → all ≡ outs ++ (outputs_of_code (direct_row x.row x.reach w) w ++ rest)
  together rest all e = e ∙ ap (λ p. p ++ rest) does.outputs ∙ append_assoc outs (outputs_of_code (direct_row x.row x.reach w) w) rest

  pub step_before : (ys : List Step) (r : Res Machine Flow) → StepsMeet k ys u.outside.outs more (behind_step x w) r → StepsMeet k (x ∷ ys) outs begun w r
  step_before ys (Gives flow v) h =
      let d = h.1 in
      let within = d.within in
      (h.0, record { ready = (does.ready, d.ready); may = (may, d.may); beside = d.beside; outputs = together (outputs_of_steps ys (behind_step x w)) v.outside.outs d.outputs; within = omega (arith, within, few) })
  step_before ys (Finished ending all total) h =
      let within = h.within in
      record {
        front = x ∷ h.front;
        port = h.port;
        reached = h.reached;
        rest = h.rest;
        is = ap (λ l. x ∷ l) h.is;
        ready = (does.ready, h.ready);
        may = (may, h.may);
        over_word = h.over_word;
        low = h.low;
        none = h.none;
        ends = h.ends;
        outputs = together (outputs_of_steps h.front (behind_step x w)) all h.outputs;
        within = omega (arith, within, few);
      }
  step_before ys (TooMany all) h = absurd h
  step_before ys (Fails all) h = record { front = x ∷ h.front; rest = h.rest; is = ap (λ l. x ∷ l) h.is; ready = (does.ready, h.ready); may = (may, h.may); outputs = together (outputs_of_steps h.front (behind_step x w)) all h.outputs }

-- an input of a port that has no word left
pub record InputStops (x : Step) (v : Machine) (w : Work) (ending : Ending) (outs : Outputs) (total : ℕ) : Type 0 where
  pub port : ℕ
  pub is : x ≡ step (row.In port) x.reach
  pub over_word : is_word x.reach ≡ true
  pub low : 0x300 ≤ reach_address w x.reach
  pub none : w.input port ≡ []
  pub ends : InputEnded port ≡ ending
  pub outputs : outs ≡ v.outside.outs
  pub work : total ≡ v.work

-- what one operation that is one step comes to
abbrev pub OperationMeets : Site → Step → Machine → Work → Res Machine Flow → Type 0
OperationMeets k x v w (Gives flow u) = (flow ≡ Next) × RowDoes k (direct_row x.row x.reach w) v.outside.outs w u × (u.work ≡ v.work) × ReachMay k w x.reach
OperationMeets k x v w (Finished ending outs total) = InputStops x v w ending outs total
OperationMeets k x v w (TooMany outs) = ⊥
OperationMeets k x v w (Fails outs) = outs ≡ v.outside.outs

-- an operation before others
module _ (k : Site) (x : Step) (v : Machine) (w : Work) (begun : ℕ) (few : 1 + 2 * begun ≤ 2 * v.work) (ys : List Step) (next : Does Machine Flow) (others : (u : Machine) → Beside k u (behind_step x w) → StepsMeet k ys u.outside.outs u.work (behind_step x w) (next u)) where
  pub operation_before : (r : Res Machine Flow) → OperationMeets k x v w r → StepsMeet k (x ∷ ys) v.outside.outs begun w (after r (λ flow. in_order flow next))
  operation_before (Gives Next u) h =
      let same = h.2 in
      step_before k x v.outside.outs begun u.work w u h.1 h.3 (omega (arith, few, same)) ys (next u) (others u h.1.beside)
  operation_before (Gives Broke u) h = let e : Broke ≡ Next = h.0 in absurd cc
  operation_before (Gives Continued u) h = let e : Continued ≡ Next = h.0 in absurd cc
  operation_before (Gives Returned u) h = let e : Returned ≡ Next = h.0 in absurd cc
  operation_before (Finished ending outs total) h =
      let same = h.work in
      record {
        front = [];
        port = h.port;
        reached = x.reach;
        rest = ys;
        is = ap (λ y. y ∷ ys) h.is;
        ready = tt;
        may = tt;
        over_word = h.over_word;
        low = h.low;
        none = h.none;
        ends = h.ends;
        outputs = h.outputs ∙ sym (append-nil v.outside.outs);
        within = omega (arith, few, same);
      }
  operation_before (TooMany outs) h = absurd h
  operation_before (Fails outs) h = record { front = []; rest = x ∷ ys; is = refl; ready = tt; may = tt; outputs = h ∙ sym (append-nil v.outside.outs) }
