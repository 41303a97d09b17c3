-- The status of a run by where the machine stands, and its bound by the work of the source.
use Rattle.std.proofs.Common.{◌≡◌, ℕ, refl, arith}
use Rattle.word_base.specs.Ports.{Input, Outputs}
use Rattle.c_tree.specs.TypedTree.{ProgramTree}
use Rattle.c25_isa.specs.declared.event.Stop.{Stop}
use Rattle.c25_isa.specs.declared.event.Stop.TheVariants as stop
use Rattle.cc_files.specs.image_proof.Telling.{TellsOf}
use Rattle.cc_answers.specs.GenText.{gen_answer}
use Rattle.cc_answers.specs.RunText.{stop_status}
use Rattle.cc_driver.specs.Telling.{StatusTells}

pub status_tells : (t : ProgramTree) (input : Input) (steps : ℕ) (outs : Outputs) (stands : Stop) (status : ℕ) → status ≡ stop_status stands → TellsOf t input steps outs stands → StatusTells t input steps outs stands status
status_tells t input steps outs (stop.Ended ending) status is h = record {
  done = λ e. (ending, refl, h.ended ending refl);
  undefined = λ e. absurd (omega (arith, is, e));
  running = λ e. absurd (omega (arith, is, e));
}
status_tells t input steps outs (stop.Trap kind at) status is h = record {
  done = λ e. absurd (omega (arith, is, e));
  undefined = λ e. h.trapped kind at refl;
  running = λ e. absurd (omega (arith, is, e));
}
status_tells t input steps outs stop.Running status is h = record {
  done = λ e. absurd (omega (arith, is, e));
  undefined = λ e. absurd (omega (arith, is, e));
  running = λ e. h.running refl;
}

-- a summary has the status of its run
pub summary_status : (number functions steps : ℕ) (outs : Outputs) (stands : Stop) → (gen_answer number functions steps outs stands).status ≡ stop_status stands
summary_status number functions steps outs (stop.Ended ending) = refl
summary_status number functions steps outs (stop.Trap kind at) = refl
summary_status number functions steps outs stop.Running = refl
