use Rattle.std.proofs.Common.{◌≡◌, ◌∙◌, None, length, replicate, ap, arith}
use Rattle.cc_check.proofs.KeptLemmas.{none_kept}
use Rattle.cc_check.proofs.walks.Walks.new.Goals as goal

pub returns : goal.returns
returns c =
    let all : c.loop.counter ≡ length c.args.image.now.functions = omega (arith, ap length c.functions-end.ensures) in
    none_kept c.args.image.now c.loop.kept.items (c.loop.invariant ∙ ap (λ n. replicate n None) all)
