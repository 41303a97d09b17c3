use Rattle.std.proofs.Common.{ap, ◌∙◌}
use Rattle.std.specs.Prelude.{reverse}
use Rattle.std.proofs.lemmas.List.{reverse-reverse}
use Rattle.std.proofs.lemmas.Iterator.Adapters.{YieldsList-from_rev_slice}
use Rattle.std.proofs.lemmas.Iterator.Consumers.{YieldsList-end}
use Rattle.c_means.specs.Blocks.{put_back}
use Rattle.c_means.specs.Frames.{env_in}
use Rattle.c_means.proofs.blocks.restore.Goals as goal

pub returns : goal.returns
returns c =
    let opened = c.args.opened.now in
    let all = (YieldsList-end (YieldsList-from_rev_slice opened (cc)) c.loop-one.yielded _ c.loop-one.yielded_by _ _ c.in-None.is c.next.ensures.steps).0 in
    c.loop-one.invariant ∙ ap (put_back (env_in c.args.run.now c.args.names.now)) (ap reverse all ∙ reverse-reverse opened)
