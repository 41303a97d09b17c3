-- The same of a run on no input.
use mathlib.Core.Logic.{∥∥₁_map₂}
use Rattle.std.proofs.Common.{◌∙◌, [], length, refl, ap}
use Rattle.std.proofs.Math.Logic.{∥∥₁_map}
use Rattle.word_base.specs.Ports.{input_of}
use Rattle.tree_code.specs.Lowered.{lowered_program}
use Rattle.c25_sim.specs.Taken.{of_sixteen}
use Rattle.cc_files.specs.cc_compile.Images.{all_pieces, source_jobs}
use Rattle.cc_answers.specs.Answers.{Answered}
use Rattle.cc_driver.specs.Build.{plain_options}
use Rattle.cc_driver.specs.Gen.{gen_steps}
use Rattle.cc_driver.proofs.TellingLemmas.{status_tells, summary_status}
use Rattle.cc_driver.proofs.laws.generated_programs_tell.Goals as goal

pub returns-clause-tell : goal.returns-clause-tell
returns-clause-tell c = λ number answer h.
    let m = h.made in
    ∥∥₁_map₂ h.built.agrees h.built.in_time
    (λ agrees in_time.
    c.runs_tell.ensures.tell h.built.program (all_pieces (source_jobs plain_options m.program) (lowered_program m.program) m.has.plan) h.image [] [] gen_steps h.summarizes.outs h.summarizes.stands agrees in_time m.has.linked
    m.has.ranges refl h.summarizes.runs)

pub returns-clause-statuses : goal.returns-clause-statuses
returns-clause-statuses c = λ number answer h.
    let s = h.summarizes in
    ∥∥₁_map (returns-clause-tell c number answer h)
    (status_tells h.built.program (of_sixteen (input_of [])) gen_steps s.outs s.stands answer.status (ap (λ (a : Answered). a.status) s.is ∙ summary_status number (length h.image.functions) gen_steps s.outs s.stands))
