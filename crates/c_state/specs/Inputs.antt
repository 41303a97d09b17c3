-- What the ports have left, as the definition of runs has it.
use Rattle.std.specs.Prelude.{◌≡◌, ℕ, ◌==◌, if◌then◌else◌, List, [], ◌∷◌, map, slice_get, unwrap_or}
use Rattle.std.specs.declared.alloc.Global.{Global}
use Rattle.std.specs.declared.collections.VecDeque.{VecDeque}
use Rattle.word_base.specs.Ports.{Input}
use Rattle.c_state.specs.declared.inputs.Inputs.{Inputs}

-- the words of each queue
abbrev pub words_in : List (VecDeque ℕ Global) → List (List ℕ)
words_in queues = map (λ q. q.items) queues

-- those of a port
abbrev pub words_of : List (List ℕ) → Input
words_of queues port = unwrap_or (slice_get queues port) []

abbrev pub input_left : Inputs → Input
input_left inputs = words_of (words_in inputs.ports.items)

-- a port gave its first word
pub record IsTaken (input : Input) (port word : ℕ) (after : Input) : Type 0 where
  pub rest : List ℕ
  pub first : input port ≡ word ∷ rest
  pub is : after ≡ (λ p. if p == port then rest else input p)
