-- Where the word of an operand lies: an address in RAM, at which the operation's row has a direct operand.
use Rattle.std.proofs.Common.{◌≡◌, ◌≢◌, ℕ, ◌+◌, ◌<◌, ◌≤◌, Bool, true, false, Option, Some, None, refl, sym, subst, arith, length}
use Rattle.std.proofs.lemmas.Option.{none-some}
use Rattle.c_tree.specs.declared.program.VarRef.{VarRef}
use Rattle.c25_code.specs.Work.{Work}
use Rattle.acc_code.specs.declared.operand.AccOperand.{AccOperand}
use Rattle.acc_code.specs.declared.operand.AccOperand.TheVariants as operand
use Rattle.acc_code.specs.declared.operation.AccOp.{AccOp}
use Rattle.acc_code.specs.Operands.{Read_word, IsTaken}
use Rattle.ir_semantics.specs.Outside as words
use Rattle.ir_semantics.specs.Outside.{word_of}
use Rattle.ir_semantics.specs.AccRun.{Machine, held, word_at}
use Rattle.emit_blocks.specs.Places.{SCRATCH, object_address, reach_of}
use Rattle.emit_proof.specs.Reaching.{is_word, reach_address}
use Rattle.emit_proof.specs.Direct.{row_at, direct_row}
use Rattle.emit_proof.specs.Standing.{IsNamed, place_of, scalar_address, parameter_address}
use Rattle.emit_proof.specs.Accessing.{ReachMay}
use Rattle.emit_proof.specs.Sites.{Site, IsSite, Beside}
use Rattle.emit_proof.proofs.Accessing.{place_there}

pub record Located (k : Site) (w : Work) (m : AccOperand) : Type 0 where
  pub address : ℕ
  pub place : place_of k.places (w.ar 1) m ≡ Some address
  pub rows : (o : AccOp) → direct_row o (reach_of k.places m) w ≡ row_at o address
  pub there : reach_address w (reach_of k.places m) ≡ address
  pub over_word : is_word (reach_of k.places m) ≡ true
  pub low : 0x300 ≤ address
  pub word : address < 65536
  pub may : ReachMay k w (reach_of k.places m)

-- behind the scratch words there is RAM
in_ram : (a : ℕ) → 0x310 ≤ a → 0x300 ≤ a
in_ram a le = omega (arith, le)

-- a word that isn't nowhere lives
living : (k : Site) (v : Machine) (w : Work) (a : ℕ) → Beside k v w → v.outside.memory a ≢ words.Nowhere → k.lives a ≡ true
living k v w a h there = by (k.lives a) refl
  where
    by : (b : Bool) → k.lives a ≡ b → k.lives a ≡ true
    by true e = e
    by false e = absurd (there (h.nowhere a e))

-- one that holds something isn't nowhere
cell_there : (c : words.Cell) (x : ℕ) → word_of c ≡ Some x → c ≢ words.Nowhere
cell_there words.Nowhere x e = absurd (none-some x e)
cell_there words.Unwritten x e = absurd (none-some x e)
cell_there (words.Holds y) x e = λ same. cc

module _ (k : Site) (site : IsSite k) (w : Work) where
  pub scalar_located : (n : ℕ) → n < length k.places.scalars → Located k w (operand.Scalar n)
  scalar_located n few =
      let a : ℕ = scalar_address k.places n in
      let bounds = site.scalars n few in
      record { address = a; place = refl; rows = λ o. refl; there = refl; over_word = refl; low = in_ram a bounds.0; word = bounds.1; may = place_there k.places.scalars n few }

  pub parameter_located : (f i : ℕ) → i < k.counts f → Located k w (operand.Param f i)
  parameter_located f i few =
      let a : ℕ = parameter_address k.places f i in
      let bounds = site.parameters f i few in
      record { address = a; place = refl; rows = λ o. refl; there = refl; over_word = refl; low = in_ram a bounds.0; word = bounds.1; may = tt }

  pub scratch_located : (n : ℕ) → n < 15 → Located k w (operand.Scratch n)
  scratch_located n few =
      let low : 0x300 ≤ 768 + n = omega arith in
      let word : 768 + n < 65536 = omega (arith, few) in
      record { address = SCRATCH + n; place = refl; rows = λ o. refl; there = refl; over_word = refl; low = low; word = word; may = tt }

  pub object_located : (o : VarRef) → 0x300 ≤ object_address k.places o → object_address k.places o < 65536 → Located k w (operand.Direct o)
  object_located o low word = record { address = object_address k.places o; place = refl; rows = λ p. refl; there = refl; over_word = refl; low = low; word = word; may = tt }

  pub pointer_located : 0x300 ≤ w.ar 1 → w.ar 1 < 65536 → k.lives (w.ar 1) ≡ true → Located k w operand.Pointed
  pointer_located low word lives = record { address = w.ar 1; place = refl; rows = λ o. refl; there = refl; over_word = refl; low = low; word = word; may = lives }

  module _ (v : Machine) (h : Beside k v w) where
    -- an object at an address where something lives
    pub object_there : (o : VarRef) (a : ℕ) → k.at o ≡ Some a → v.outside.memory a ≢ words.Nowhere → Located k w (operand.Direct o)
    object_there o a is lives =
        let bounds = site.objects a (living k v w a h lives) in
        let same : object_address k.places o ≡ a = site.addresses o a is in
        object_located o (subst (λ b. 0x300 ≤ b) (sym same) (in_ram a bounds.0)) (subst (λ b. b < 65536) (sym same) bounds.1)

    pub pointer_there : (q : ℕ) → v.registers.pointed ≡ Some q → v.outside.memory q ≢ words.Nowhere → Located k w operand.Pointed
    pointer_there q is lives =
        let bounds = site.objects q (living k v w q h lives) in
        let same : q ≡ w.ar 1 = h.pointed q is in
        pointer_located (subst (λ b. 0x300 ≤ b) same (in_ram q bounds.0)) (subst (λ b. b < 65536) same bounds.1) (subst (λ b. k.lives b ≡ true) same (living k v w q h lives))

    object_by : (o : VarRef) (b : Option ℕ) (x : ℕ) → k.at o ≡ b → word_at b v.outside.memory ≡ Some x → Located k w (operand.Direct o)
    object_by o None x is e = absurd (none-some x e)
    object_by o (Some a) x is e = object_there o a is (cell_there (v.outside.memory a) x e)

    pointer_by : (b : Option ℕ) (x : ℕ) → v.registers.pointed ≡ b → word_at b v.outside.memory ≡ Some x → Located k w operand.Pointed
    pointer_by None x is e = absurd (none-some x e)
    pointer_by (Some q) x is e = pointer_there q is (cell_there (v.outside.memory q) x e)

    -- the word of an operand that is known
    pub read_located : (m : AccOperand) (x : ℕ) → IsTaken Read_word m → IsNamed k.places k.counts k.kept m → held k.at m v ≡ Some x → Located k w m
    read_located operand.Nothing x taken named e = absurd taken
    read_located (operand.Scalar n) x taken named e = scalar_located n named
    read_located (operand.Direct o) x taken named e = object_by o (k.at o) x refl e
    read_located (operand.Param f i) x taken named e = absurd taken
    read_located (operand.Scratch n) x taken named e = scratch_located n named
    read_located (operand.Number c) x taken named e = absurd taken
    read_located (operand.Address o i) x taken named e = absurd taken
    read_located operand.Pointed x taken named e = pointer_by v.registers.pointed x refl e
