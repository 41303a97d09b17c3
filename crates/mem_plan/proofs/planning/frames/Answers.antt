use Rattle.std.proofs.Common.{arith}
use Rattle.mem_plan.proofs.BoundLemmas.{frame_room, needs_at, arranged_at}
use Rattle.mem_plan.proofs.planning.frames.Goals as goal

pub overflow_cast-at : goal.overflow_cast-at
overflow_cast-at c =
    let room = frame_room c.args.start c.args.begins.now c.args.functions.now c.loop-number.number c.index-functions-number.result c.index-functions-number.is c.loop-number-test.true c.requires.room
    in omega (arith, room)

pub overflow_add-at : goal.overflow_add-at
overflow_add-at c =
    let room = frame_room c.args.start c.args.begins.now c.args.functions.now c.loop-number.number c.index-functions-number.result c.index-functions-number.is c.loop-number-test.true c.requires.room
    in omega (arith, room)

pub frame-requires-clause-needs : goal.frame-requires-clause-needs
frame-requires-clause-needs c =
    needs_at c.args.functions.now c.args.needs.now c.loop-number.number c.index-functions-number.result c.index-needs-number.result c.index-functions-number.is c.loop-number-test.true
    c.index-needs-number.is c.requires.needs

pub frame-requires-clause-arranged : goal.frame-requires-clause-arranged
frame-requires-clause-arranged c =
    arranged_at c.args.functions.now c.args.arrangements.now c.loop-number.number c.index-functions-number.result c.index-arrangements-number.result c.lists-lists.result.now
    c.index-functions-number.is c.loop-number-test.true c.index-arrangements-number.is c.lists-lists.ensures.lists c.requires.arranged

pub frame-requires-clause-room : goal.frame-requires-clause-room
frame-requires-clause-room c =
    frame_room c.args.start c.args.begins.now c.args.functions.now c.loop-number.number c.index-functions-number.result c.index-functions-number.is c.loop-number-test.true c.requires.room
