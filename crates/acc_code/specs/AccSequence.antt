-- The accesses of scalars in accumulator code, with the cuts between blocks (docs/LAYOUT.md, "Sequences"). A list of accesses and cuts
-- stands as what it does in front of the blocks that follow it, from the block that is still open. So two cuts are one.
use Rattle.std.specs.Prelude.{⊤, ℕ, ◌≡◌, ◌<◌, ◌≤◌, List, [], ◌∷◌, ◌++◌, length, map, All}
use Rattle.acc_code.specs.declared.operand.AccOperand.{AccOperand}
use Rattle.acc_code.specs.declared.operand.AccOperand.TheVariants as operand
use Rattle.acc_code.specs.AccTree.{Item, Op, If, Loop, Switch, ItemList, end, item, FunctionItems}
use Rattle.acc_code.specs.Emittable.{Throughout}
use Rattle.lay_model.specs.Sequences.{Block, Sequence}

-- the blocks from an open block on
abbrev pub Rest : Type 0
Rest = List ℕ → List (List ℕ)

abbrev pub access : ℕ → Rest → Rest
access k κ = λ open_block. κ (open_block ++ k ∷ [])

-- a block that isn't empty ends
abbrev pub closed : List ℕ → List (List ℕ) → List (List ℕ)
closed [] blocks = blocks
closed (x ∷ xs) blocks = (x ∷ xs) ∷ blocks

abbrev pub cut : Rest → Rest
cut κ = λ open_block. closed open_block (κ [])

abbrev pub operand_accesses : AccOperand → Rest → Rest
operand_accesses (operand.Scalar k) κ = access k κ
operand_accesses m κ = κ

abbrev mutual
  pub item_accesses : Item → Rest → Rest
  item_accesses (Op o m) κ = operand_accesses m κ
  item_accesses (If test hit miss) κ = cut (accesses hit (cut (accesses miss (cut κ))))
  item_accesses (Loop before body behind last) κ = cut (accesses before (cut (accesses body (cut (accesses behind (cut κ))))))
  item_accesses (Switch labels body) κ = cut (accesses body (cut κ))
  item_accesses x κ = cut κ

  pub accesses : ItemList → Rest → Rest
  accesses end κ = κ
  accesses (item x xs) κ = item_accesses x (accesses xs κ)

-- the blocks of a function's body: its start and its end are cuts
abbrev pub blocks_of : ItemList → List (List ℕ)
blocks_of xs = accesses xs (cut (λ open_block. [])) []

-- a block that counts once
abbrev pub once : List ℕ → Block
once scalars = record { weight = 1; accesses = scalars }

-- each block counts once, and the step is 1
abbrev pub sequence_of : FunctionItems → Sequence
sequence_of f = record { scalars = f.scalars; step = 1; blocks = map once (blocks_of f.body) }

-- a part of the code that goes from some closed blocks and an open one to others
abbrev pub Gathers : List Block → List ℕ → (Rest → Rest) → List Block → List ℕ → Type 0
Gathers before block part after next_block = (rest : Rest) → before ++ map once (part rest block) ≡ after ++ map once (rest next_block)

-- an item whose scalar is one of so many
abbrev pub NamesBelow : ℕ → Item → Type 0
NamesBelow scalars (Op o (operand.Scalar n)) = n < scalars
NamesBelow scalars x = ⊤

-- a function whose scalars are those of its frame
pub record IsInFrame (f : FunctionItems) : Type 0 where
  pub few : f.scalars ≤ 64
  pub below : Throughout (NamesBelow f.scalars) f.body

-- a block of such a function
pub record IsAccessBlock (scalars : ℕ) (b : Block) : Type 0 where
  pub counts : b.weight ≡ 1
  pub some : 1 ≤ length b.accesses
  pub below : All (λ k. k < scalars) b.accesses
