use Rattle.c_units.specs.Views.{tree_of}
use Rattle.c_units.proofs.CountLemmas.{then_ok}
use Rattle.c_units.proofs.joining.push_file.Goals as goal

pub returns : goal.returns
returns c = then_ok c.push_tokens.result (λ h. h (tree_of c.args.named.now) c.requires.table) (rw c.deref.ensures.value at c.push_tokens.ensures)
