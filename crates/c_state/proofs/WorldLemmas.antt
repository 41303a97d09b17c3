-- What is known at a point of a run, where a word is taken from a port.
use Rattle.std.proofs.Common.{◌≡◌, ℕ, List, sym, ap, ◌∙◌}
use Rattle.word_base.specs.Ports.{Input, Outputs}
use Rattle.c_tree.specs.Store as runs
use Rattle.c_tree.specs.Store.{Res, Gives}
use Rattle.c_state.specs.Inputs.{IsTaken}

pub word_taken : (store : runs.Store) (input after : Input) (outs : Outputs) (port word : ℕ) → IsTaken input port word after
    → runs.take_word port (record { store = store; input = input; outs = outs }) ≡ Gives (runs.Word word) (record { store = store; input = after; outs = outs })
word_taken store input after outs port word is =
    ap {B = Res runs.Value} (λ (words : List ℕ). runs.taken words port (record { store = store; input = input; outs = outs })) is.first
    ∙ ap {B = Res runs.Value} (λ (left : Input). Gives (runs.Word word) (record { store = store; input = left; outs = outs })) (sym is.is)
