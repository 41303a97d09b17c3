use Rattle.acc_code.specs.AccView.{functions_of}
use Rattle.tree_code.specs.ProgramView.{tree_of}
use Rattle.cc_compile.specs.Images.{jobs_at}
use Rattle.cc_compile.proofs.AgreementLemmas.{image_agrees, image_in_time, ok_of_both, ok_of_three}
use Rattle.cc_compile.proofs.ApartLemmas.{frames_apart}
use Rattle.cc_compile.proofs.DirectLemmas.{image_direct, image_leads, image_lists}
use Rattle.cc_compile.proofs.WalkLemmas.{frames_walked}
use Rattle.cc_compile.proofs.TranslationLemmas.{ok_then, runs_kept, trees_kept}
use Rattle.cc_compile.proofs.translation.translate_by_jobs.Goals as goal

pub returns-clause-image : goal.returns-clause-image
returns-clause-image g c = λ t is. c.finished.ensures.image t is.tree

pub returns-clause-frames : goal.returns-clause-frames
returns-clause-frames g c = λ t is. c.finished.ensures.frames t is.tree

pub returns-clause-refused : goal.returns-clause-refused
returns-clause-refused g c = λ t is. c.finished.ensures.refused t is.tree

pub returns-clause-sequences : goal.returns-clause-sequences
returns-clause-sequences g c = c.finished.ensures.sequences

pub returns-clause-claims : goal.returns-clause-claims
returns-clause-claims g c = c.finished.ensures.claims

pub returns-clause-keeps : goal.returns-clause-keeps
returns-clause-keeps g c = λ t is.
    let p = tree_of c.args.selection.now.tree in
    let o = jobs_at c.args.step c.args.jobs.items in
    let gs = functions_of c.args.selection.now.code in
    ok_then c.finished.result c.finished.ensures.arranged (λ made arranged. runs_kept c.translation_keeps_runs.ensures.keeps o t p is.tree is.typed is.words arranged)

pub returns-clause-tree : goal.returns-clause-tree
returns-clause-tree g c = λ t is.
    let p = tree_of c.args.selection.now.tree in
    let o = jobs_at c.args.step c.args.jobs.items in
    let gs = functions_of c.args.selection.now.code in
    ok_then c.finished.result c.finished.ensures.arranged
    (λ made arranged. trees_kept c.lowering_keeps_runs.ensures.keeps c.translation_keeps_runs.ensures.places o t p is.tree is.typed is.words arranged)

pub returns-clause-agrees : goal.returns-clause-agrees
returns-clause-agrees g c = λ t is.
    let p = tree_of c.args.selection.now.tree in
    let o = jobs_at c.args.step c.args.jobs.items in
    let gs = functions_of c.args.selection.now.code in
    ok_of_both c.finished.result (c.finished.ensures.image t is.tree) c.finished.ensures.arranged
    (λ made has arranged. image_agrees c.images_agree.ensures.agree o t p gs c.requires.near is.tree is.typed is.words arranged c.requires.selection.emittable c.requires.selection.code made.image has)

pub returns-clause-in_time : goal.returns-clause-in_time
returns-clause-in_time g c = λ t is.
    let p = tree_of c.args.selection.now.tree in
    let o = jobs_at c.args.step c.args.jobs.items in
    let gs = functions_of c.args.selection.now.code in
    ok_of_both c.finished.result (c.finished.ensures.image t is.tree) c.finished.ensures.arranged
    (λ made has arranged. image_in_time c.images_agree.ensures.in_time o t p gs c.requires.near is.tree is.typed is.words arranged c.requires.selection.emittable c.requires.selection.code made.image has)

pub returns-clause-walked : goal.returns-clause-walked
returns-clause-walked g c = λ t is.
    let p = tree_of c.args.selection.now.tree in
    let o = jobs_at c.args.step c.args.jobs.items in
    let gs = functions_of c.args.selection.now.code in
    ok_of_three c.finished.result (c.finished.ensures.image t is.tree) (c.finished.ensures.frames t is.tree) c.finished.ensures.arranged
    (λ made has framed arranged.
    frames_walked c.programs_walk.ensures.walks c.accesses_are_kept.ensures.sequences o t p gs c.requires.near is.tree is.typed is.words arranged c.requires.selection.emittable c.requires.selection.code
    made.image made.certificate has framed)

pub returns-clause-direct : goal.returns-clause-direct
returns-clause-direct g c = λ t is.
    let p = tree_of c.args.selection.now.tree in
    let o = jobs_at c.args.step c.args.jobs.items in
    let gs = functions_of c.args.selection.now.code in
    ok_of_both c.finished.result (c.finished.ensures.image t is.tree) c.finished.ensures.arranged
    (λ made has arranged. image_direct c.programs_are_direct.ensures.direct o t p gs c.requires.near is.tree is.typed is.words arranged c.requires.selection.emittable c.requires.selection.code made.image has)

pub returns-clause-leads : goal.returns-clause-leads
returns-clause-leads g c = λ t is.
    let p = tree_of c.args.selection.now.tree in
    let o = jobs_at c.args.step c.args.jobs.items in
    let gs = functions_of c.args.selection.now.code in
    ok_of_both c.finished.result (c.finished.ensures.image t is.tree) c.finished.ensures.arranged
    (λ made has arranged. image_leads c.programs_lead_right.ensures.targets o t p gs c.requires.near is.tree is.typed is.words arranged c.requires.selection.emittable c.requires.selection.code made.image has)

pub returns-clause-listed : goal.returns-clause-listed
returns-clause-listed g c = λ t is.
    let p = tree_of c.args.selection.now.tree in
    let o = jobs_at c.args.step c.args.jobs.items in
    let gs = functions_of c.args.selection.now.code in
    ok_of_both c.finished.result (c.finished.ensures.image t is.tree) c.finished.ensures.arranged
    (λ made has arranged. image_lists c.programs_list_frames.ensures.frames o t p gs c.requires.near is.tree is.typed is.words arranged c.requires.selection.emittable c.requires.selection.code made.image has)

pub returns-clause-apart : goal.returns-clause-apart
returns-clause-apart g c = λ t is.
    let p = tree_of c.args.selection.now.tree in
    let o = jobs_at c.args.step c.args.jobs.items in
    let gs = functions_of c.args.selection.now.code in
    ok_of_both c.finished.result (c.finished.ensures.frames t is.tree) c.finished.ensures.arranged
    (λ made framed arranged. frames_apart o t p gs made.certificate is.tree c.requires.selection.code arranged c.requires.jobs.scalars framed)
