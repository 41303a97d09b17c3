-- What is known at a point of a run, as the definition of runs has it.
use Rattle.std.specs.Prelude.{◌≡◌, ⊤, Result, Ok, Err}
use Rattle.word_base.specs.Ports.{Outputs}
use Rattle.c_tree.specs.Store as runs
use Rattle.c_tree.specs.Store.{World, Res, Gives}
use Rattle.c_state.specs.declared.value.Stop.{Stop}
use Rattle.c_state.specs.declared.value.Stop.TheVariants as stops
use Rattle.c_state.specs.declared.state.State.{State}
use Rattle.c_state.specs.Inputs.{input_left}
use Rattle.c_state.specs.Stores.{store_of}

abbrev pub world_of : State → World
world_of s = record { store = store_of s.store; input = input_left s.inputs; outs = s.outs.items }

-- a part of a run came to what a stop says, behind these outputs. Want of memory says nothing.
abbrev pub Stops : {A : Type 0} → Res A → Outputs → Stop → Type 0
Stops r outs (stops.Ended ending) = r ≡ runs.Finished ending outs
Stops r outs stops.More = r ≡ runs.TooMany outs
Stops r outs (stops.Undefined kind at) = r ≡ runs.Fails kind at outs
Stops r outs stops.NoMemory = ⊤

-- a part of a run came to a result, in this view of its value: it gave the value, and this is what is known behind it, or it
-- stopped as the result says
abbrev pub ComesTo : {A B : Type 0} → (B → A) → Res A → State → Result B Stop → Type 0
ComesTo view r behind (Ok b) = r ≡ Gives (view b) (world_of behind)
ComesTo view r behind (Err stop) = Stops r behind.outs.items stop
