-- What a port and the hardware stack gave, and what they left.
use Rattle.std.specs.Prelude.{◌≡◌, ℕ, ◌==◌, nat_lt, if◌then◌else◌, List, [], ◌∷◌, Option, Some, None}
use Rattle.word_base.specs.Ports.{Input}
use Rattle.c25_isa.specs.State.{State}

-- the input in which a port has this list left
abbrev pub with_input : Input → ℕ → List ℕ → Input
with_input input port rest = λ p. if p == port then rest else input p

-- a port had no word left, or gave its next one
abbrev pub Takes : State → ℕ → Option ℕ → State → Type 0
Takes s port None now = (s.input port ≡ []) × (now ≡ s)
Takes s port (Some word) now =
    (rest : List ℕ) × (s.input port ≡ word ∷ rest) × (now ≡ record s { input = with_input s.input port rest })

-- the stack was empty, or gave its top
abbrev pub Pops : State → Option ℕ → State → Type 0
Pops s None now = (s.stack ≡ []) × (now ≡ s)
Pops s (Some word) now = (rest : List ℕ) × (s.stack ≡ word ∷ rest) × (now ≡ record s { stack = rest })

-- the input of the sixteen ports that there are
abbrev pub of_sixteen : Input → Input
of_sixteen input = λ port. if nat_lt port 16 then input port else []
