-- What runs of word trees and of accumulator code share: data memory at addresses, the input that is left, and the outputs so far.
use Rattle.std.specs.Prelude.{ℕ, suc, ◌+◌, ◌-◌, ◌%◌, ◌==◌, ◌&&◌, nat_le, nat_lt, if◌then◌else◌, List, [], ◌∷◌, ◌++◌, map, length, replicate, Option, Some, None}
use Rattle.word_base.specs.Ports.{Input, Outputs}
use Rattle.c_tree.specs.declared.program.Initial.{Initial}
use Rattle.c_tree.specs.declared.program.Initial.TheVariants as initial
use Rattle.c_tree.specs.declared.program.VarRef.{VarRef}
use Rattle.c_tree.specs.declared.program.VarRef.TheVariants.{Scalar, Local, Static}
use Rattle.c_tree.specs.TypedTree.{ObjectTree}

-- a word of memory: of no living object, not yet written, or written
pub data Cell : Type 0 where
  Nowhere : Cell
  Unwritten : Cell
  Holds : ℕ → Cell

abbrev pub Memory : Type 0
Memory = ℕ → Cell

pub record Outside : Type 0 where
  pub memory : Memory
  pub input : Input
  pub outs : Outputs

-- the words of a frame, of which None is not yet written
abbrev pub Frame : Type 0
Frame = ℕ → Option ℕ

abbrev pub no_words : Frame
no_words = λ k. None

abbrev pub with_scalar : ℕ → ℕ → Frame → Frame
with_scalar n x frame = λ k. if k == n then Some x else frame k

-- memory with a word at an address, with words from one on, and with so many cells from one on that are alike
abbrev pub with_word : ℕ → ℕ → Memory → Memory
with_word a x m = λ b. if b == a then Holds x else m b

abbrev pub with_words : ℕ → List ℕ → Memory → Memory
with_words a [] m = m
with_words a (x ∷ xs) m = with_word a x (with_words (suc a) xs m)

abbrev pub with_cells : ℕ → ℕ → Cell → Memory → Memory
with_cells a count cell m = λ b. if nat_le a b && nat_lt b (a + count) then cell else m b

-- the word of a cell, where one was written
abbrev pub word_of : Cell → Option ℕ
word_of Nowhere = None
word_of Unwritten = None
word_of (Holds x) = Some x

-- what stands behind a put, and behind a word that a port gave
abbrev pub with_output : ℕ → ℕ → Outside → Outside
with_output port x o = record o { outs = o.outs ++ (port, x) ∷ [] }

abbrev pub with_input : ℕ → List ℕ → Outside → Outside
with_input port rest o = record o { input = λ p. if p == port then rest else o.input p }

abbrev pub with_memory : Memory → Outside → Outside
with_memory m o = record o { memory = m }

-- where objects lie: each static object, and each local object of each function, by numbers
pub record Places : Type 0 where
  pub static : ℕ → ℕ
  pub local : ℕ → ℕ → ℕ

-- the address of the object of a name in a function; a scalar of a frame has none
abbrev pub address_of : Places → ℕ → VarRef → Option ℕ
address_of q f (Scalar n) = None
address_of q f (Local n) = Some (q.local f n)
address_of q f (Static n) = Some (q.static n)

-- the address of a cell
abbrev pub cell_address : ℕ → ℕ → ℕ
cell_address a i = (a + i) % 65536

-- what a listed cell starts with
abbrev pub initial_word : Places → Initial → ℕ
initial_word q (initial.Word w) = w
initial_word q (initial.Address object index) = cell_address (q.static object) index
initial_word q initial.Null = 0

-- what the cells of an object start with: its list, and zeros behind it
abbrev pub initial_words : Places → ObjectTree → List ℕ
initial_words q o = map (initial_word q) o.initial ++ replicate (o.length - length o.initial) 0

-- memory with the objects of a list, the first one of this number
abbrev pub with_statics : Places → ℕ → List ObjectTree → Memory → Memory
with_statics q n [] m = m
with_statics q n (o ∷ os) m = with_words (q.static n) (initial_words q o) (with_statics q (suc n) os m)

-- memory where the cells of a function's objects, the first one of this number, are alike
abbrev pub with_objects : Cell → Places → ℕ → ℕ → List ObjectTree → Memory → Memory
with_objects cell q f n [] m = m
with_objects cell q f n (o ∷ os) m = with_cells (q.local f n) o.length cell (with_objects cell q f (suc n) os m)

-- before a run: static objects live, with what they start with
abbrev pub first_outside : Places → List ObjectTree → Input → Outside
first_outside q statics input = record { memory = with_statics q 0 statics (λ a. Nowhere); input = input; outs = [] }
