use Rattle.std.proofs.Common.{List, sym, ap, ◌∙◌}
use Rattle.std.specs.Prelude.{reverse}
use Rattle.std.proofs.lemmas.List.{reverse-reverse}
use Rattle.std.proofs.lemmas.Iterator.Adapters.{YieldsList-from_rev_slice}
use Rattle.std.proofs.lemmas.Iterator.Consumers.{YieldsList-end}
use Rattle.c_tree.specs.Exec as exec
use Rattle.c_means.specs.Blocks.{numbers_of}
use Rattle.c_state.specs.Worlds.{world_of}
use Rattle.c_means.specs.declared.blocks.Opened.{Opened}
use Rattle.c_means.proofs.blocks.leave.Goals as goal

pub returns : goal.returns
returns c =
    let opened = c.args.opened.now in
    let all = (YieldsList-end (YieldsList-from_rev_slice opened (cc)) c.loop-one.yielded _ c.loop-one.yielded_by _ _ c.in-None.is c.next.ensures.steps).0 in
    ap (λ (os : List Opened). exec.leave (numbers_of os) (world_of c.args.state.now)) (sym (ap reverse all ∙ reverse-reverse opened)) ∙ c.loop-one.invariant
