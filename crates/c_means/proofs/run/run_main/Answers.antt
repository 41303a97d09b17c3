use Rattle.std.proofs.Common.{[], Some, length}
use Rattle.c_tree.specs.ProgramView.{program_of}
use Rattle.c_tree.specs.View.{function_of}
use Rattle.c_tree.specs.SourceRun.{call_function, call_within}
use Rattle.c_means.specs.Runs.{main_run}
use Rattle.c_state.specs.Worlds.{world_of}
use Rattle.c_means.proofs.MainLemmas.{main_call, same_comes}
use Rattle.c_means.proofs.RoomLemmas.{main_has_room}
use Rattle.c_means.proofs.run.run_main.Goals as goal

pub invariant_of-run : goal.invariant_of-run
invariant_of-run c =
    record { room = main_has_room c.args.program.now c.as_slice-functions.result.now c.in-Some.function.now c.as_slice-functions.ensures c.in-Some.ensures }

pub returns : goal.returns
returns c =
    let program = c.args.program.now in
    let functions = c.as_slice-functions.result.now in
    let f = c.in-Some.function.now in
    let n = c.args.turns in
    same_comes (call_function (call_within (program_of program) n (length functions)) n (Some (function_of f)) []) (main_run (program_of program) n) (world_of c.args.state.now) c.body.new.state c.body.result
    (main_call program functions n f c.as_slice-functions.ensures c.in-Some.ensures) c.body.ensures
