-- The piece of the root.
use Rattle.std.proofs.Common.{subst}
use Rattle.std.specs.Prelude.{IfOk}
use Rattle.lay_tree.specs.Tree.{root, with_scalar}
use Rattle.lay_tree.specs.Search.{piece_end}
use Rattle.lay_search.specs.Ends.{IsEnd}
use Rattle.lay_search.proofs.pieces.run_piece.Goals as goal

pub returns : goal.returns
returns c = subst (λ k. IfOk c.run_piece.result (λ e. IsEnd c.args.seq.now (piece_end k c.args.seq.now c.args.quota c.args.arrangement.now (with_scalar root c.args.number)) e)) c.in_ok-root.ensures.registers c.run_piece.ensures
