-- Words of data memory beside a run of accumulator code: where each operand of the active function lies, and what is known of it there.
use Rattle.std.specs.Prelude.{◌≡◌, ◌≢◌, ⊤, ℕ, ◌+◌, ◌<◌, length, slice_get, Option, Some, None}
use Rattle.c_tree.specs.declared.program.VarRef.{VarRef}
use Rattle.c25_isa.specs.State.{Memory}
use Rattle.acc_code.specs.declared.operand.AccOperand.{AccOperand}
use Rattle.acc_code.specs.declared.operand.AccOperand.TheVariants as operand
use Rattle.ir_semantics.specs.Outside as words
use Rattle.ir_semantics.specs.TreeRun.{Addresses}
use Rattle.ir_semantics.specs.AccRun.{Machine}
use Rattle.emit_blocks.specs.Places.{Places, SCRATCH, object_address, scalar_or_zero, parameters_in}

-- the address of a scalar of the active function, and of the word of a parameter
abbrev pub scalar_address : Places → ℕ → ℕ
scalar_address s n = (scalar_or_zero (slice_get s.scalars n)).address

abbrev pub parameter_address : Places → ℕ → ℕ → ℕ
parameter_address s f i = parameters_in (slice_get s.parameters f) i

-- the word of data memory that an operand names, where AR1 points to this one
abbrev pub place_of : Places → ℕ → AccOperand → Option ℕ
place_of s pointed operand.Nothing = None
place_of s pointed (operand.Scalar n) = Some (scalar_address s n)
place_of s pointed (operand.Direct v) = Some (object_address s v)
place_of s pointed (operand.Param f i) = Some (parameter_address s f i)
place_of s pointed (operand.Scratch n) = Some (SCRATCH + n)
place_of s pointed (operand.Number w) = None
place_of s pointed (operand.Address v i) = None
place_of s pointed operand.Pointed = Some pointed

-- the words of frames that are in use: those of the active function, the scratch words, of which the last is left to emission, the words of
-- parameters of functions that it calls, of which each has so many, and words that its callers keep
module _ (s : Places) (counts : ℕ → ℕ) (kept : ℕ → Option ℕ) where
  pub data IsReserved : ℕ → Type 0 where
    OfScalar : (n : ℕ) → n < length s.scalars → IsReserved (scalar_address s n)
    OfScratch : (n : ℕ) → n < 16 → IsReserved (SCRATCH + n)
    OfParameter : (f i : ℕ) → i < counts f → IsReserved (parameter_address s f i)
    OfCaller : (a x : ℕ) → kept a ≡ Some x → IsReserved a

  -- an operand that this function may name
  abbrev pub IsNamed : AccOperand → Type 0
  IsNamed (operand.Scalar n) = n < length s.scalars
  IsNamed (operand.Param f i) = i < counts f
  IsNamed (operand.Scratch n) = n < 15
  IsNamed m = ⊤

  -- no word is used for two things at once
  pub record AreApart : Type 0 where
    pub scalars : (n m : ℕ) → n < length s.scalars → m < length s.scalars → n ≢ m → scalar_address s n ≢ scalar_address s m
    pub scratch : (n m : ℕ) → n < length s.scalars → m < 16 → scalar_address s n ≢ SCRATCH + m
    pub parameters : (n f i : ℕ) → n < length s.scalars → i < counts f → scalar_address s n ≢ parameter_address s f i
    pub of_one : (f i j : ℕ) → i < counts f → j < counts f → i ≢ j → parameter_address s f i ≢ parameter_address s f j
    pub scratch_parameters : (f i m : ℕ) → i < counts f → m < 16 → parameter_address s f i ≢ SCRATCH + m
    pub callers : (a x : ℕ) → kept a ≡ Some x → (n : ℕ) → n < length s.scalars → a ≢ scalar_address s n
    pub callers_scratch : (a x : ℕ) → kept a ≡ Some x → (m : ℕ) → m < 16 → a ≢ SCRATCH + m
    pub callers_parameters : (a x : ℕ) → kept a ≡ Some x → (f i : ℕ) → i < counts f → a ≢ parameter_address s f i

  -- what is known of words stands in data memory; no object that lives has a word that is reserved
  pub record StandsBeside (v : Machine) (ram : Memory) : Type 0 where
    pub frame : (n x : ℕ) → v.frame n ≡ Some x → (n < length s.scalars) × (ram (scalar_address s n) ≡ x)
    pub scratch : (n x : ℕ) → v.scratch n ≡ Some x → (n < 15) × (ram (SCRATCH + n) ≡ x)
    pub given : (i x : ℕ) → v.given i ≡ Some x → (i < counts v.given_to) × (ram (parameter_address s v.given_to i) ≡ x)
    pub memory : (a x : ℕ) → v.outside.memory a ≡ words.Holds x → ram a ≡ x
    pub callers : (a x : ℕ) → kept a ≡ Some x → ram a ≡ x
    pub reserved : (a : ℕ) → IsReserved a → v.outside.memory a ≡ words.Nowhere

-- the objects of the active function lie where its code has them
abbrev pub HaveAddresses : Places → Addresses → Type 0
HaveAddresses s at = (v : VarRef) (a : ℕ) → at v ≡ Some a → object_address s v ≡ a
