-- A run that has stopped comes to the same at every greater number of steps.
use Rattle.std.proofs.Common.{◌≡◌, ℕ, zero, suc, ◌+◌, ◌-◌, ◌≤◌, [], refl, sym, ap, ◌∙◌, subst, arith}
use Rattle.word_base.specs.Ports.{Input, Outputs}
use Rattle.c25_isa.specs.State.{State, Start}
use Rattle.c25_isa.specs.Step.{Event, Ran, Put, Over, Trapped, step}
use Rattle.c25_isa.specs.MachineRun.{Reached, HasStopped, go_on, run_from, reset, machine_run}

stays : (m k : ℕ) (s : State) (outs : Outputs) (r : Reached) → HasStopped r → run_from m s outs ≡ r → run_from (m + k) s outs ≡ r
stays zero k s outs r stopped e = absurd (subst HasStopped (sym e) stopped)
stays (suc m) k s outs r stopped e = ap (λ n. run_from n s outs) (let one : suc m + k ≡ suc (m + k) = omega arith in one) ∙ by (step s) (λ t put f. stays m k t put r stopped f) e
  where
    by : (event : Event) → ((t : State) (put : Outputs) → run_from m t put ≡ r → run_from (m + k) t put ≡ r) → go_on event (run_from m) outs ≡ r → go_on event (run_from (m + k)) outs ≡ r
    by (Ran t) later f = later t _ f
    by (Put word t) later f = later t _ f
    by (Over ending) later f = f
    by (Trapped kind at) later f = f

pub stopped_stays : (b : Start) (input : Input) (fewer more : ℕ) → fewer ≤ more → HasStopped (machine_run b input fewer) → machine_run b input more ≡ machine_run b input fewer
stopped_stays b input fewer more le stopped =
    let e : more ≡ fewer + (more - fewer) = omega arith in
    ap (machine_run b input) e ∙ stays fewer (more - fewer) (reset b input) [] (machine_run b input fewer) stopped refl
