use Rattle.std.proofs.Common.{List, map, ap, ◌∙◌}
use Rattle.word_base.specs.Ports.{input_of}
use Rattle.c_tree.specs.ProgramView.{program_of}
use Rattle.c_tree.specs.View.{object_of}
use Rattle.c_tree.specs.declared.program.Object.{Object}
use Rattle.c_state.specs.Inputs.{input_left}
use Rattle.c_means.specs.Runs.{statics_of}
use Rattle.c_state.specs.Stores.{store_of}
use Rattle.c_means.proofs.MainLemmas.{at_start}
use Rattle.c_means.proofs.RoomLemmas.{statics_have_room}
use Rattle.c_means.proofs.run.start.Goals as goal

pub statics-requires : goal.statics-requires
statics-requires c = statics_have_room c.args.program.now c.as_slice.result.now c.as_slice.ensures

pub returns : goal.returns
returns c =
    let statics = c.in_ok-statics.ensures ∙ ap (λ (os : List Object). statics_of (map object_of os)) c.as_slice.ensures in
    at_start (program_of c.args.program.now) (input_of c.args.ports.now) (store_of c.in_ok-statics.field-0) (input_left c.in_ok-new.field-0) c.new-2.result.items statics c.in_ok-new.ensures c.new-2.ensures.items
