-- An operation does the same by two tables of addresses that give its operand's object the same one.
use Rattle.std.proofs.Common.{◌≡◌, ℕ, List, [], ◌∷◌, Option, Some, None, refl, ap}
use Rattle.acc_code.specs.declared.operand.AccOperand.{AccOperand}
use Rattle.acc_code.specs.declared.operand.AccOperand.TheVariants as operand
use Rattle.acc_code.specs.declared.operation.AccOp.{AccOp}
use Rattle.acc_code.specs.declared.operation.AccOp.TheVariants as row
use Rattle.ir_semantics.specs.AccRows.{low_half, whole_of, low_stored, high_stored}
use Rattle.ir_semantics.specs.AccRun.{Machine, held, store_to, store, put, taken, act_on, act, word_at, cell_at, write_word}
use Rattle.ir_semantics.specs.Outside.{with_input}
use Rattle.ir_semantics.specs.TreeRun.{Addresses}

-- the object of an operand has the same address
abbrev pub SameObject : Addresses → Addresses → AccOperand → Type 0
SameObject at to (operand.Direct v) = at v ≡ to v
SameObject at to (operand.Address v i) = at v ≡ to v
SameObject at to m = Unit {0}

module _ (at to : Addresses) where
  held_alike : (m : AccOperand) (v : Machine) → SameObject at to m → held at m v ≡ held to m v
  held_alike operand.Nothing v same = refl
  held_alike (operand.Scalar n) v same = refl
  held_alike (operand.Direct o) v same = ap (λ a. word_at a v.outside.memory) same
  held_alike (operand.Param f n) v same = refl
  held_alike (operand.Scratch n) v same = refl
  held_alike (operand.Number w) v same = refl
  held_alike (operand.Address o i) v same = ap (λ a. cell_at a i) same
  held_alike operand.Pointed v same = refl

  stored_alike : (m : AccOperand) (x : ℕ) (v : Machine) → SameObject at to m → store_to at m x v ≡ store_to to m x v
  stored_alike operand.Nothing x v same = refl
  stored_alike (operand.Scalar n) x v same = refl
  stored_alike (operand.Direct o) x v same = ap (λ a. write_word a x v) same
  stored_alike (operand.Param f n) x v same = refl
  stored_alike (operand.Scratch n) x v same = refl
  stored_alike (operand.Number w) x v same = refl
  stored_alike (operand.Address o i) x v same = refl
  stored_alike operand.Pointed x v same = refl

  store_alike : (m : AccOperand) (x : Option ℕ) (v : Machine) → SameObject at to m → store at m x v ≡ store to m x v
  store_alike m None v same = refl
  store_alike m (Some x) v same = stored_alike m x v same

  taken_alike : (xs : List ℕ) (port : ℕ) (m : AccOperand) (v : Machine) → SameObject at to m → taken at xs port m v ≡ taken to xs port m v
  taken_alike [] port m v same = refl
  taken_alike (x ∷ xs) port m v same = stored_alike m x (record v { outside = with_input port xs v.outside }) same

  pub act_alike : (o : AccOp) (m : AccOperand) (v : Machine) → SameObject at to m → act at o m v ≡ act to o m v
  act_alike (row.Sacl s) m v same = store_alike m (low_stored (low_half v.registers.acc) s) v same
  act_alike (row.Sach s) m v same = store_alike m (high_stored (whole_of v.registers.acc) s) v same
  act_alike (row.In port) m v same = taken_alike (v.outside.input port) port m v same
  act_alike (row.Out port) m v same = ap (λ x. put port x v) (held_alike m v same)
  act_alike row.Point m v same = ap (λ x. act_on row.Point x v) (held_alike m v same)
  act_alike (row.Add s) m v same = ap (λ x. act_on (row.Add s) x v) (held_alike m v same)
  act_alike (row.Sub s) m v same = ap (λ x. act_on (row.Sub s) x v) (held_alike m v same)
  act_alike (row.Lac s) m v same = ap (λ x. act_on (row.Lac s) x v) (held_alike m v same)
  act_alike row.Mpy m v same = ap (λ x. act_on row.Mpy x v) (held_alike m v same)
  act_alike row.Lt m v same = ap (λ x. act_on row.Lt x v) (held_alike m v same)
  act_alike row.Zals m v same = ap (λ x. act_on row.Zals x v) (held_alike m v same)
  act_alike row.Lact m v same = ap (λ x. act_on row.Lact x v) (held_alike m v same)
  act_alike row.Subs m v same = ap (λ x. act_on row.Subs x v) (held_alike m v same)
  act_alike row.Adds m v same = ap (λ x. act_on row.Adds x v) (held_alike m v same)
  act_alike row.Xor m v same = ap (λ x. act_on row.Xor x v) (held_alike m v same)
  act_alike row.Or m v same = ap (λ x. act_on row.Or x v) (held_alike m v same)
  act_alike row.And m v same = ap (λ x. act_on row.And x v) (held_alike m v same)
  act_alike row.Mpyk m v same = ap (λ x. act_on row.Mpyk x v) (held_alike m v same)
  act_alike row.Lack m v same = ap (λ x. act_on row.Lack x v) (held_alike m v same)
  act_alike row.Addk m v same = ap (λ x. act_on row.Addk x v) (held_alike m v same)
  act_alike row.Subk m v same = ap (λ x. act_on row.Subk x v) (held_alike m v same)
  act_alike (row.Lalk s) m v same = ap (λ x. act_on (row.Lalk s) x v) (held_alike m v same)
  act_alike (row.Adlk s) m v same = ap (λ x. act_on (row.Adlk s) x v) (held_alike m v same)
  act_alike (row.Sblk s) m v same = ap (λ x. act_on (row.Sblk s) x v) (held_alike m v same)
  act_alike row.Andk m v same = ap (λ x. act_on row.Andk x v) (held_alike m v same)
  act_alike row.Ork m v same = ap (λ x. act_on row.Ork x v) (held_alike m v same)
  act_alike row.Xork m v same = ap (λ x. act_on row.Xork x v) (held_alike m v same)
  act_alike row.Dint m v same = ap (λ x. act_on row.Dint x v) (held_alike m v same)
  act_alike row.Rovm m v same = ap (λ x. act_on row.Rovm x v) (held_alike m v same)
  act_alike row.Spm m v same = ap (λ x. act_on row.Spm x v) (held_alike m v same)
  act_alike row.Rsxm m v same = ap (λ x. act_on row.Rsxm x v) (held_alike m v same)
  act_alike row.Ssxm m v same = ap (λ x. act_on row.Ssxm x v) (held_alike m v same)
  act_alike row.Pac m v same = ap (λ x. act_on row.Pac x v) (held_alike m v same)
  act_alike row.Apac m v same = ap (λ x. act_on row.Apac x v) (held_alike m v same)
  act_alike row.Spac m v same = ap (λ x. act_on row.Spac x v) (held_alike m v same)
  act_alike row.Sfl m v same = ap (λ x. act_on row.Sfl x v) (held_alike m v same)
  act_alike row.Sfr m v same = ap (λ x. act_on row.Sfr x v) (held_alike m v same)
  act_alike row.Neg m v same = ap (λ x. act_on row.Neg x v) (held_alike m v same)
  act_alike row.Cmpl m v same = ap (λ x. act_on row.Cmpl x v) (held_alike m v same)
