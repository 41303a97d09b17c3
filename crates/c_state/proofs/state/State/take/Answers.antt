use Rattle.c_state.specs.Inputs.{input_left}
use Rattle.c_state.specs.Stores.{store_of}
use Rattle.c_state.proofs.WorldLemmas.{word_taken}
use Rattle.c_state.proofs.state.State.take.Goals as goal

pub returns-in-Some : goal.returns-in-Some
returns-in-Some c =
    let s = c.args.self.now in
    word_taken (store_of s.store) (input_left s.inputs) (input_left c.take.new.self) s.outs.items c.args.port c.in-Some.word (rw c.number.ensures.value at c.in-Some.ensures)
