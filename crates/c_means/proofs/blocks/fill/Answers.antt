use Rattle.c_tree.specs.View.{function_of}
use Rattle.c_state.specs.Inputs.{input_left}
use Rattle.c_state.specs.Stores.{store_of}
use Rattle.c_state.specs.Worlds.{world_of}
use Rattle.c_means.proofs.ArrayLemmas.{filled, not_filled}
use Rattle.c_means.proofs.RoomLemmas.{local_has_room}
use Rattle.c_means.proofs.blocks.fill.Goals as goal

pub listed-requires : goal.listed-requires
listed-requires c =
    let r = c.args.run.now in
    let read = c.in-Some.ensures.lookup in
    local_has_room r.function.now.locals c.as_slice.result.now c.in-Some.object.now c.args.number c.as_slice.ensures read.3.0 read.1 r.room

pub returns-in_ok-cells : goal.returns-in_ok-cells
returns-in_ok-cells c =
    let s = c.args.state.now in
    let f = c.args.run.now.function.now in
    let read = c.in-Some.ensures.lookup in
    filled f.locals c.as_slice.result.now c.in-Some.object.now c.args.number _ c.find.result.number c.in_ok-cells.cells (store_of s.store) (store_of c.fill.new.self) (input_left s.inputs) s.outs.items
    c.as_slice.ensures read.3.0 read.1 (c.find.ensures (function_of f)) c.in_ok-cells.ensures c.fill.ensures

pub returns-in_default : goal.returns-in_default
returns-in_default c =
    not_filled c.args.run.now.function.now.locals c.as_slice.result.now c.args.number _ (world_of c.args.state.now) c.as_slice.ensures c.in_default.ensures.lookup.3
