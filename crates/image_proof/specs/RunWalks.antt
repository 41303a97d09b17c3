-- What a walk finds in the instructions of a run of operations: the address of each access of a scalar, in order, and as many address instructions as
-- its accesses cost.
use Rattle.std.specs.Prelude.{◌≡◌, ◌<◌, ◌≤◌, ⊤, ℕ, ◌+◌, if◌then◌else◌, List, [], ◌∷◌, length, slice_get, Some, None}
use Rattle.acc_code.specs.declared.operand.AccOperand.{AccOperand}
use Rattle.acc_code.specs.declared.operand.AccOperand.TheVariants as operand
use Rattle.c25_isa.specs.declared.instruction.Instr.{Instr}
use Rattle.c25_isa.specs.Table.{second_word, length_of}
use Rattle.c25_isa.specs.Walk.{Placed, Known, access, listed, unknown_at, along}
use Rattle.c25_isa.specs.AddressCount.{is_address_instruction}
use Rattle.emit_blocks.specs.declared.site.ScalarPlace.{ScalarPlace}
use Rattle.emit_blocks.specs.Places.{Places, scalar_or_zero}
use Rattle.emit_blocks.specs.Steps.{Operation}

-- instructions one behind another from an address on
abbrev pub placed_from : ℕ → List Instr → List Placed
placed_from at [] = []
placed_from at (i ∷ is) = record { at = at; instr = i; behind = at + length_of (second_word i) } ∷ placed_from (at + length_of (second_word i)) is

-- the scalars that operations access, in order
abbrev pub with_scalar : AccOperand → List ℕ → List ℕ
with_scalar (operand.Scalar n) ns = n ∷ ns
with_scalar m ns = ns

abbrev pub scalars_of : List Operation → List ℕ
scalars_of [] = []
scalars_of (o ∷ os) = with_scalar o.operand (scalars_of os)

-- the address of a scalar
abbrev pub address_of : Places → ℕ → ℕ
address_of s n = (scalar_or_zero (slice_get s.scalars n)).address

-- each scalar's list has one of AR2 to AR5, and its address is a word
abbrev pub AreOverScalars : List ScalarPlace → Type 0
AreOverScalars [] = ⊤
AreOverScalars (p ∷ ps) = (2 ≤ p.register) × (p.register ≤ 5) × (p.address < 65536) × AreOverScalars ps

-- what is listed, what isn't known, and what is counted, from what is known before
abbrev pub listed_along : Known → List Placed → List ℕ
listed_along k ps = along (λ known p. listed (access known p.instr)) k ps

abbrev pub unknown_along : Known → List Placed → List ℕ
unknown_along k ps = along (λ known p. unknown_at p.at (access known p.instr)) k ps

abbrev pub counted_along : Known → List Placed → List ℕ
counted_along k ps = along (λ known p. if is_address_instruction known p.instr then Some p.at else None) k ps

-- instructions give a walk these addresses and nothing that isn't known, and so many address instructions, whatever was known before them
pub record WalksAs (code : List Instr) (addresses : List ℕ) (count : ℕ) : Type 0 where
  pub addresses_so : (k : Known) (at : ℕ) → listed_along k (placed_from at code) ≡ addresses
  pub known_so : (k : Known) (at : ℕ) → unknown_along k (placed_from at code) ≡ []
  pub counted_so : (k : Known) (at : ℕ) → length (counted_along k (placed_from at code)) ≡ count
