-- What is wanted of accumulator code so that instructions can be emitted for it (docs/TRANSLATION.md, "Accumulator code").
use Rattle.std.specs.Prelude.{⊤, ℕ, zero, suc, ◌≡◌, ◌≢◌, ◌<◌, ◌≤◌, ◌==◌, ◌||◌, Bool, true, false, List, [], ◌∷◌, length, AllPairs, Option, Some, None}
use Rattle.c_tree.specs.declared.program.VarRef.{VarRef}
use Rattle.c_tree.specs.WellFormed.{IsAddressable, IsAutomatic}
use Rattle.acc_code.specs.declared.operand.AccOperand.{AccOperand}
use Rattle.acc_code.specs.declared.operand.AccOperand.TheVariants as operand
use Rattle.acc_code.specs.declared.operation.AccOp.{AccOp}
use Rattle.acc_code.specs.AccTree.{Item, Op, If, Loop, Switch, Case, Clear, Call, Helper, Break, Continue, ItemList, end, item}
use Rattle.acc_code.specs.Operands.{Taken, Read_word, taken_by, HasRange, IsTaken}

-- each item, at whatever depth
module _ (P : Item → Type 0) where
  abbrev mutual
    pub Throughout : ItemList → Type 0
    Throughout end = ⊤
    Throughout (item x xs) = P x × Within x × Throughout xs

    pub Within : Item → Type 0
    Within (If test hit miss) = Throughout hit × Throughout miss
    Within (Loop before body behind last) = Throughout before × Throughout body × Throughout behind
    Within (Switch labels body) = Throughout body
    Within x = ⊤

-- operands and references: so many scalars, the cells of objects by their names, the parameters of the functions that may be called, and
-- whether routines may be
module _ (scalars : ℕ) (cells : VarRef → Option ℕ) (parameters : ℕ → Option ℕ) (helps : Bool) where
  abbrev pub AtMostCells : ℕ → Option ℕ → Type 0
  AtMostCells n None = ⊥
  AtMostCells n (Some m) = n ≤ m

  abbrev pub BelowCount : ℕ → Option ℕ → Type 0
  BelowCount n None = ⊥
  BelowCount n (Some m) = n < m

  -- the last scratch word is left to emission
  abbrev pub IsPlace : AccOperand → Type 0
  IsPlace (operand.Scalar n) = n < scalars
  IsPlace (operand.Direct v) = IsAddressable v × BelowCount 0 (cells v)
  IsPlace (operand.Param f n) = BelowCount n (parameters f)
  IsPlace (operand.Scratch n) = n < 15
  IsPlace (operand.Address v n) = IsAddressable v × AtMostCells n (cells v)
  IsPlace m = ⊤

  pub record IsOperation (o : AccOp) (m : AccOperand) : Type 0 where
    pub range : HasRange o
    pub taken : IsTaken (taken_by o) m
    pub there : IsPlace m

  abbrev pub IsThereFor : Option ℕ → Type 0
  IsThereFor None = ⊥
  IsThereFor (Some n) = ⊤

  abbrev pub RefersRight : Item → Type 0
  RefersRight (Op o m) = IsOperation o m
  RefersRight (Clear v from) = IsAutomatic v × IsAddressable v × AtMostCells from (cells v)
  RefersRight (Call f) = IsThereFor (parameters f)
  RefersRight (Helper name) = helps ≡ true
  RefersRight x = ⊤

-- the labels that stand directly in a list, in order
abbrev pub cases_in : ItemList → List ℕ
cases_in end = []
cases_in (item (Case n) xs) = n ∷ cases_in xs
cases_in (item x xs) = cases_in xs

-- n numbers from the first on
abbrev pub counting : ℕ → ℕ → List ℕ
counting first zero = []
counting first (suc n) = first ∷ counting (suc first) n

-- jumps have something to leave and labels stand in their switch: whether Break may stand directly in a list, and Continue, and labels
abbrev mutual
  pub IsPlaced : Bool → Bool → Bool → ItemList → Type 0
  IsPlaced b c l end = ⊤
  IsPlaced b c l (item x xs) = IsPlacedItem b c l x × IsPlaced b c l xs

  pub IsPlacedItem : Bool → Bool → Bool → Item → Type 0
  IsPlacedItem b c l (If test hit miss) = IsPlaced b c false hit × IsPlaced b c false miss
  IsPlacedItem b c l (Loop before body behind last) = IsPlaced true false false before × IsPlaced true true false body × IsPlaced true false false behind
  IsPlacedItem b c l (Switch labels body) = AllPairs (λ k m. k ≢ m) labels × (cases_in body ≡ counting 0 (length labels)) × IsPlaced true c true body
  IsPlacedItem b c l Break = b ≡ true
  IsPlacedItem b c l Continue = c ≡ true
  IsPlacedItem b c l (Case n) = l ≡ true
  IsPlacedItem b c l x = ⊤

-- which scratch words were stored to
abbrev pub Stored : Type 0
Stored = ℕ → Bool

abbrev pub nothing_stored : Stored
nothing_stored n = false

abbrev pub stored_by : AccOp → AccOperand → Stored → Stored
stored_by o (operand.Scratch n) w = λ m. m == n || w m
stored_by o m w = w

abbrev pub IsStored : Taken → AccOperand → Stored → Type 0
IsStored Read_word (operand.Scratch n) w = w n ≡ true
IsStored t m w = ⊤

-- each read of a scratch word stands behind a store of the same run, in this list and in those within it
abbrev mutual
  pub ReadsStored : Stored → ItemList → Type 0
  ReadsStored w end = ⊤
  ReadsStored w (item (Op o m) xs) = IsStored (taken_by o) m w × ReadsStored (stored_by o m w) xs
  ReadsStored w (item (Helper name) xs) = (w 0 ≡ true) × (w 1 ≡ true) × ReadsStored nothing_stored xs
  ReadsStored w (item x xs) = ReadsStoredWithin x × ReadsStored nothing_stored xs

  pub ReadsStoredWithin : Item → Type 0
  ReadsStoredWithin (If test hit miss) = ReadsStored nothing_stored hit × ReadsStored nothing_stored miss
  ReadsStoredWithin (Loop before body behind last) = ReadsStored nothing_stored before × ReadsStored nothing_stored body × ReadsStored nothing_stored behind
  ReadsStoredWithin (Switch labels body) = ReadsStored nothing_stored body
  ReadsStoredWithin x = ⊤

-- the body of a function
pub record IsEmittableBody (scalars : ℕ) (cells : VarRef → Option ℕ) (parameters : ℕ → Option ℕ) (helps : Bool) (body : ItemList) : Type 0 where
  pub refers : Throughout (RefersRight scalars cells parameters helps) body
  pub placed : IsPlaced false false false body
  pub scratch : ReadsStored nothing_stored body
