use Rattle.std.proofs.Common.{ap, subst, sym, ◌∙◌}
use Rattle.std.specs.Prelude.{All}
use Rattle.acc_code.specs.AccView.{function_items_of}
use Rattle.acc_code.specs.AccSequence.{IsAccessBlock}
use Rattle.acc_code.proofs.Gathering.{gathered_from}
use Rattle.acc_code.proofs.Frames.{blocks_in_frame}
use Rattle.acc_code.proofs.accesses.sequence.Goals as goal

pub sequence_with-requires-clause-blocks : goal.sequence_with-requires-clause-blocks
sequence_with-requires-clause-blocks c =
    subst (All (IsAccessBlock c.args.function.now.scalars))
    (gathered_from _ _ _ _ _ _ c.as_slice.result.now c.args.function.now.body c.as_slice.ensures c.new-blocks.ensures.closed c.new-blocks.ensures.block c.in_ok-list.ensures c.in_ok-cut.ensures)
    (blocks_in_frame (function_items_of c.args.function.now) c.requires.in_frame)

pub returns : goal.returns
returns c =
    c.sequence_with.ensures ∙ ap (λ l. record { scalars = c.args.function.now.scalars; step = 1; blocks = l })
    (sym (gathered_from _ _ _ _ _ _ c.as_slice.result.now c.args.function.now.body c.as_slice.ensures c.new-blocks.ensures.closed c.new-blocks.ensures.block c.in_ok-list.ensures c.in_ok-cut.ensures))
