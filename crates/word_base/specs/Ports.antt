-- What ports give and take (docs/MACHINE.md, "Ports").
use Rattle.std.specs.Prelude.{◌≡◌, ℕ, ◌<◌, ◌^◌, ◌==◌, if◌then◌else◌, List, [], ◌∷◌, ◌++◌, All}

-- the words that each port has left
abbrev pub Input : Type 0
Input = ℕ → List ℕ

-- each word has 16 bits
abbrev pub IsInput : Input → Type 0
IsInput input = (port : ℕ) → All (λ w. w < 2 ^ 16) (input port)

-- the input of lines of a port and a word: for each port the words of its lines, in order
abbrev pub input_of : List (ℕ × ℕ) → Input
input_of [] port = []
input_of (line ∷ lines) port = if line.0 == port then line.1 ∷ input_of lines port else input_of lines port

-- the words that were put, each behind its port
abbrev pub Outputs : Type 0
Outputs = List (ℕ × ℕ)

-- the second begins with the first
pub record Prefix (xs ys : Outputs) : Type 0 where
  pub rest : Outputs
  pub is : ys ≡ xs ++ rest
