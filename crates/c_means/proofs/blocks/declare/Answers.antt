use Rattle.std.proofs.Common.{ap, ◌∙◌}
use Rattle.c_tree.specs.Eval.{Env}
use Rattle.c_tree.specs.Exec.{named}
use Rattle.c_tree.specs.View.{function_of}
use Rattle.c_means.specs.Frames.{env_in}
use Rattle.c_means.proofs.BlockLemmas.{named_back}
use Rattle.c_means.proofs.blocks.declare.Goals as goal

pub returns-clause-back : goal.returns-clause-back
returns-clause-back c =
    let f = function_of c.args.run.now.function.now in
    let before = c.find-before.result.number in
    ap (λ (env : Env). named env c.args.reference before) (c.in_ok-set.ensures f)
    ∙ named_back (env_in c.args.run.now c.args.names.now) c.args.reference c.in_ok-object.object.number before (c.find-before.ensures f)
