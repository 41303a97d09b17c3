use Rattle.std.proofs.Common.{sym, ap, ◌∙◌, ◌%◌}
use Rattle.c25_sim.proofs.Moves.{low_word}
use Rattle.c25_sim.proofs.arithmetic.low_word.Goals as goal

pub returns : goal.returns
returns c = sym (low_word _ ∙ ap (λ n. n % 65536) (sym c.shifted_left.ensures))
