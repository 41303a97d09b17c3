use Rattle.std.proofs.Common.{ℕ, ◌≤◌, List, sym, subst}
use Rattle.std.specs.Prelude.{All, sum}
use Rattle.std.proofs.lemmas.Result.{IfOk-weaker}
use Rattle.word_base.specs.Ports.{input_of}
use Rattle.c25_isa.specs.MachineRun.{reset}
use Rattle.c25_isa.specs.State.{State, zero_start}
use Rattle.c25_sim.specs.Taken.{of_sixteen}
use Rattle.lay_profile.specs.Counting.{AreTimes}
use Rattle.lay_profile.proofs.Together.{each_few, few_together}
use Rattle.lay_profile.proofs.recording.entries.Goals as goal

abbrev start : List ℕ → List (ℕ × ℕ) → State
start words lines = reset (zero_start words) (of_sixteen (input_of lines))

pub returns-clause-counts : goal.returns-clause-counts
returns-clause-counts c =
    let s = start c.args.image.now.words c.args.ports.now in
    IfOk-weaker c.look_up.result _ _ (λ counts found. found s c.args.steps (subst (AreTimes s c.args.steps) (sym c.deref.ensures.value) c.in_ok-table.ensures.counts)) c.look_up.ensures

pub returns-clause-few : goal.returns-clause-few
returns-clause-few c =
    let s = start c.args.image.now.words c.args.ports.now in
    IfOk-weaker c.look_up.result _ _
    (λ counts found. subst (All (λ count. count ≤ c.args.steps)) (sym (found s c.args.steps (subst (AreTimes s c.args.steps) (sym c.deref.ensures.value) c.in_ok-table.ensures.counts)))
    (each_few s c.args.steps c.args.places.now))
    c.look_up.ensures

pub returns-clause-together : goal.returns-clause-together
returns-clause-together c = λ once.
    let s = start c.args.image.now.words c.args.ports.now in
    IfOk-weaker c.look_up.result _ _
    (λ counts found. subst (λ l. sum l ≤ c.args.steps) (sym (found s c.args.steps (subst (AreTimes s c.args.steps) (sym c.deref.ensures.value) c.in_ok-table.ensures.counts)))
    (few_together s c.args.steps c.args.places.now once))
    c.look_up.ensures
