use Rattle.std.proofs.Common.{length, sym, ◌∙◌}
use Rattle.std.proofs.lemmas.Slice.Zip.{zip_end}
use Rattle.c_means.specs.Frames.{env_in}
use Rattle.c_state.specs.Worlds.{world_of}
use Rattle.c_means.proofs.BlockLemmas.{passed}
use Rattle.c_means.proofs.blocks.pass.Goals as goal

pub returns : goal.returns
returns c =
    let ps = c.args.parameters.now in
    let vs = c.args.arguments.now in
    let all = zip_end ps vs c.loop-parameter.yielded c.into_iter-parameter-iterator.result c.loop-parameter.parameter-iterator c.next.new.self c.next.result (cc) (cc) c.loop-parameter.yielded_by c.in-None.is c.next.ensures.steps in
    sym c.loop-parameter.invariant ∙ passed ps vs (length c.loop-parameter.yielded) (env_in c.args.run.now c.args.names.now) (world_of c.loop-parameter.state) all
