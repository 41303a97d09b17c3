-- Behind a store to an operand its word is what was stored, and all others that are in use are as they were.
use Rattle.std.proofs.Common.{◌≡◌, ◌≢◌, ℕ, ◌+◌, ◌<◌, Bool, true, false, cond, Option, Some, None, refl, sym, ap, ◌∙◌, subst, arith}
use Rattle.std.specs.Prelude.{◌==◌, length}
use Rattle.std.proofs.lemmas.Bool.{eqb-true, eqb-false}
use Rattle.std.proofs.lemmas.Option.{none-some, same_Some}
use Rattle.word_base.specs.Ports.{Outputs}
use Rattle.c25_isa.specs.State.{Memory, write}
use Rattle.c25_code.proofs.Writes.{write_same, write_other}
use Rattle.acc_code.specs.declared.operand.AccOperand.{AccOperand}
use Rattle.acc_code.specs.declared.operand.AccOperand.TheVariants as operand
use Rattle.ir_semantics.specs.Outside as words
use Rattle.ir_semantics.specs.Outside.{with_word, with_scalar, with_memory}
use Rattle.ir_semantics.specs.Parts.{Gives, Fails, Flow}
use Rattle.ir_semantics.specs.TreeRun.{Addresses}
use Rattle.ir_semantics.specs.AccRun.{Machine, store_to, write_cell, write_word, given_for}
use Rattle.emit_blocks.specs.Places.{Places, SCRATCH}
use Rattle.emit_proof.specs.Standing.{AreApart, HaveAddresses, IsNamed, IsReserved, OfScalar, OfScratch, OfParameter, OfCaller, StandsBeside, place_of, scalar_address, parameter_address}

-- two cells that are one
nowhere_holds : {x : ℕ} → words.Nowhere ≡ words.Holds x → ⊥
nowhere_holds e = cc

nowhere_unwritten : words.Nowhere ≡ words.Unwritten → ⊥
nowhere_unwritten e = cc

same_word : {x y : ℕ} → words.Holds x ≡ words.Holds y → x ≡ y
same_word e = cc

gives_same : {A : Type 0} {a b : A} {v w : Machine} → Gives a v ≡ Gives b w → v ≡ w
gives_same e = cc

fails_gives : {A : Type 0} {outs : Outputs} {a : A} {w : Machine} → Fails outs ≡ Gives a w → ⊥
fails_gives e = cc

module _ (s : Places) (counts : ℕ → ℕ) (kept : ℕ → Option ℕ) (apart : AreApart s counts kept) (v : Machine) (ram : Memory) (stands : StandsBeside s counts kept v ram) (x : ℕ) where
  scratch_in_use : (k : ℕ) → k < 15 → k < 16
  scratch_in_use k few = omega (arith, few)

  -- a word that is reserved is none of an object
  not_of_object : (b a y : ℕ) → IsReserved s counts kept a → v.outside.memory b ≡ words.Holds y → b ≢ a
  not_of_object b a y reserved is same = nowhere_holds (sym (stands.reserved a reserved) ∙ ap v.outside.memory (sym same) ∙ is)

  -- a scalar of the frame
  module _ (n : ℕ) (few : n < length s.scalars) where
    frame_by : (k y : ℕ) (b : Bool) → (k == n) ≡ b → cond b (Some x) (v.frame k) ≡ Some y → (k < length s.scalars) × (write ram (scalar_address s n) x (scalar_address s k) ≡ y)
    frame_by k y true e is =
        let same : k ≡ n = eqb-true k n e in
        (subst (λ j. j < length s.scalars) (sym same) few, write_same ram (scalar_address s n) x (scalar_address s k) (ap (scalar_address s) same) ∙ same_Some x y is)
    frame_by k y false e is =
        let old = stands.frame k y is in
        (old.0, write_other ram (scalar_address s n) x (scalar_address s k) (apart.scalars k n old.0 few (eqb-false k n e)) ∙ old.1)

    pub scalar_stored : StandsBeside s counts kept (record v { frame = with_scalar n x v.frame }) (write ram (scalar_address s n) x)
    scalar_stored = record {
      frame = λ k y is. frame_by k y (k == n) refl is;
      scratch = λ k y is. let old = stands.scratch k y is in (old.0, write_other ram (scalar_address s n) x (SCRATCH + k) (λ e. apart.scratch n k few (scratch_in_use k old.0) (sym e)) ∙ old.1);
      given = λ i y is. let old = stands.given i y is in (old.0, write_other ram (scalar_address s n) x (parameter_address s v.given_to i) (λ e. apart.parameters n v.given_to i few old.0 (sym e)) ∙ old.1);
      memory = λ b y is. write_other ram (scalar_address s n) x b (not_of_object b (scalar_address s n) y (OfScalar n few) is) ∙ stands.memory b y is;
      callers = λ b y is. write_other ram (scalar_address s n) x b (apart.callers b y is n few) ∙ stands.callers b y is;
      reserved = stands.reserved;
    }

  -- a scratch word
  module _ (n : ℕ) (few : n < 15) where
    in_use : n < 16
    in_use = omega (arith, few)

    scratch_by : (k y : ℕ) (b : Bool) → (k == n) ≡ b → cond b (Some x) (v.scratch k) ≡ Some y → (k < 15) × (write ram (SCRATCH + n) x (SCRATCH + k) ≡ y)
    scratch_by k y true e is =
        let same : k ≡ n = eqb-true k n e in
        (subst (λ j. j < 15) (sym same) few, write_same ram (SCRATCH + n) x (SCRATCH + k) (ap (λ j. SCRATCH + j) same) ∙ same_Some x y is)
    scratch_by k y false e is =
        let old = stands.scratch k y is in
        let other = eqb-false k n e in
        (old.0, write_other ram (SCRATCH + n) x (SCRATCH + k) (λ same. other (omega (arith, same))) ∙ old.1)

    pub scratch_stored : StandsBeside s counts kept (record v { scratch = with_scalar n x v.scratch }) (write ram (SCRATCH + n) x)
    scratch_stored = record {
      frame = λ k y is. let old = stands.frame k y is in (old.0, write_other ram (SCRATCH + n) x (scalar_address s k) (apart.scratch k n old.0 in_use) ∙ old.1);
      scratch = λ k y is. scratch_by k y (k == n) refl is;
      given = λ i y is. let old = stands.given i y is in (old.0, write_other ram (SCRATCH + n) x (parameter_address s v.given_to i) (apart.scratch_parameters v.given_to i n old.0 in_use) ∙ old.1);
      memory = λ b y is. write_other ram (SCRATCH + n) x b (not_of_object b (SCRATCH + n) y (OfScratch n in_use) is) ∙ stands.memory b y is;
      callers = λ b y is. write_other ram (SCRATCH + n) x b (apart.callers_scratch b y is n in_use) ∙ stands.callers b y is;
      reserved = stands.reserved;
    }

  -- the last scratch word, of which accumulator code knows nothing
  last_in_use : 15 < 16
  last_in_use = omega arith

  pub last_stored : StandsBeside s counts kept v (write ram (SCRATCH + 15) x)
  last_stored = record {
    frame = λ k y is. let old = stands.frame k y is in (old.0, write_other ram (SCRATCH + 15) x (scalar_address s k) (apart.scratch k 15 old.0 last_in_use) ∙ old.1);
    scratch = λ k y is. let old = stands.scratch k y is in let less = old.0 in (old.0, write_other ram (SCRATCH + 15) x (SCRATCH + k) (λ same. omega (arith, same, less)) ∙ old.1);
    given = λ i y is. let old = stands.given i y is in (old.0, write_other ram (SCRATCH + 15) x (parameter_address s v.given_to i) (apart.scratch_parameters v.given_to i 15 old.0 last_in_use) ∙ old.1);
    memory = λ b y is. write_other ram (SCRATCH + 15) x b (not_of_object b (SCRATCH + 15) y (OfScratch 15 last_in_use) is) ∙ stands.memory b y is;
    callers = λ b y is. write_other ram (SCRATCH + 15) x b (apart.callers_scratch b y is 15 last_in_use) ∙ stands.callers b y is;
    reserved = stands.reserved;
  }

  -- the word of a parameter
  module _ (f i : ℕ) (called : i < counts f) where
    given_before : (b : Bool) → (v.given_to == f) ≡ b → (j y : ℕ) → cond b v.given (λ k. None) j ≡ Some y → (j < counts f) × (ram (parameter_address s f j) ≡ y)
    given_before true e j y is = subst (λ g. (j < counts g) × (ram (parameter_address s g j) ≡ y)) (eqb-true v.given_to f e) (stands.given j y is)
    given_before false e j y is = absurd (none-some y is)

    given_by : (j y : ℕ) (b : Bool) → (j == i) ≡ b → cond b (Some x) (given_for f v j) ≡ Some y → (j < counts f) × (write ram (parameter_address s f i) x (parameter_address s f j) ≡ y)
    given_by j y true e is = (subst (λ k. k < counts f) (sym (eqb-true j i e)) called, write_same ram (parameter_address s f i) x (parameter_address s f j) (ap (parameter_address s f) (eqb-true j i e)) ∙ same_Some x y is)
    given_by j y false e is =
        let old = given_before (v.given_to == f) refl j y is in
        (old.0, write_other ram (parameter_address s f i) x (parameter_address s f j) (apart.of_one f j i old.0 called (eqb-false j i e)) ∙ old.1)

    pub parameter_stored : StandsBeside s counts kept (record v { given_to = f; given = with_scalar i x (given_for f v) }) (write ram (parameter_address s f i) x)
    parameter_stored = record {
      frame = λ k y is. let old = stands.frame k y is in (old.0, write_other ram (parameter_address s f i) x (scalar_address s k) (apart.parameters k f i old.0 called) ∙ old.1);
      scratch = λ k y is. let old = stands.scratch k y is in (old.0, write_other ram (parameter_address s f i) x (SCRATCH + k) (λ e. apart.scratch_parameters f i k called (scratch_in_use k old.0) (sym e)) ∙ old.1);
      given = λ j y is. given_by j y (j == i) refl is;
      memory = λ b y is. write_other ram (parameter_address s f i) x b (not_of_object b (parameter_address s f i) y (OfParameter f i called) is) ∙ stands.memory b y is;
      callers = λ b y is. write_other ram (parameter_address s f i) x b (apart.callers_parameters b y is f i called) ∙ stands.callers b y is;
      reserved = stands.reserved;
    }

  -- a cell of an object that lives
  module _ (a : ℕ) (lives : v.outside.memory a ≢ words.Nowhere) where
    apart_of : (b : ℕ) → IsReserved s counts kept b → b ≢ a
    apart_of b reserved same = lives (ap v.outside.memory (sym same) ∙ stands.reserved b reserved)

    memory_by : (b y : ℕ) (c : Bool) → (b == a) ≡ c → cond c (words.Holds x) (v.outside.memory b) ≡ words.Holds y → write ram a x b ≡ y
    memory_by b y true e is = write_same ram a x b (eqb-true b a e) ∙ same_word is
    memory_by b y false e is = write_other ram a x b (eqb-false b a e) ∙ stands.memory b y is

    reserved_by : (b : ℕ) (c : Bool) → (b == a) ≡ c → IsReserved s counts kept b → cond c (words.Holds x) (v.outside.memory b) ≡ words.Nowhere
    reserved_by b true e reserved = absurd (apart_of b reserved (eqb-true b a e))
    reserved_by b false e reserved = stands.reserved b reserved

    pub cell_stored : StandsBeside s counts kept (record v { outside = with_memory (with_word a x v.outside.memory) v.outside }) (write ram a x)
    cell_stored = record {
      frame = λ k y is. let old = stands.frame k y is in (old.0, write_other ram a x (scalar_address s k) (apart_of (scalar_address s k) (OfScalar k old.0)) ∙ old.1);
      scratch = λ k y is. let old = stands.scratch k y is in (old.0, write_other ram a x (SCRATCH + k) (apart_of (SCRATCH + k) (OfScratch k (scratch_in_use k old.0))) ∙ old.1);
      given = λ i y is. let old = stands.given i y is in (old.0, write_other ram a x (parameter_address s v.given_to i) (apart_of (parameter_address s v.given_to i) (OfParameter v.given_to i old.0)) ∙ old.1);
      memory = λ b y is. memory_by b y (b == a) refl is;
      callers = λ b y is. write_other ram a x b (apart_of b (OfCaller b y is)) ∙ stands.callers b y is;
      reserved = λ b reserved. reserved_by b (b == a) refl reserved;
    }

  cell_by : (c : words.Cell) (a : ℕ) (w : Machine) (flow : Flow) → v.outside.memory a ≡ c → write_cell c a x v ≡ Gives flow w → StandsBeside s counts kept w (write ram a x)
  cell_by words.Nowhere a w flow is e = absurd (fails_gives e)
  cell_by words.Unwritten a w flow is e = subst (λ u. StandsBeside s counts kept u (write ram a x)) (gives_same e) (cell_stored a (λ none. nowhere_unwritten (sym none ∙ is)))
  cell_by (words.Holds y) a w flow is e = subst (λ u. StandsBeside s counts kept u (write ram a x)) (gives_same e) (cell_stored a (λ none. nowhere_holds (sym none ∙ is)))

  word_by : (b : Option ℕ) (a : ℕ) (w : Machine) (flow : Flow) → ((c : ℕ) → b ≡ Some c → c ≡ a) → write_word b x v ≡ Gives flow w → StandsBeside s counts kept w (write ram a x)
  word_by None a w flow same e = absurd (fails_gives e)
  word_by (Some c) a w flow same e = subst (λ z. StandsBeside s counts kept w (write ram z x)) (same c refl) (cell_by (v.outside.memory c) c w flow refl e)

  pub operand_stored : (at : Addresses) (m : AccOperand) (w : Machine) (p a : ℕ) (flow : Flow) → HaveAddresses s at → IsNamed s counts kept m → ((c : ℕ) → v.registers.pointed ≡ Some c → c ≡ p) → store_to at m x v ≡ Gives flow w → place_of s p m ≡ Some a → StandsBeside s counts kept w (write ram a x)
  operand_stored at operand.Nothing w p a flow have named points e place = absurd (none-some a place)
  operand_stored at (operand.Scalar n) w p a flow have named points e place =
      subst (λ z. StandsBeside s counts kept w (write ram z x)) (same_Some _ a place) (subst (λ u. StandsBeside s counts kept u (write ram (scalar_address s n) x)) (gives_same e) (scalar_stored n named))
  operand_stored at (operand.Direct o) w p a flow have named points e place = word_by (at o) a w flow (λ c is. sym (have o c is) ∙ same_Some _ a place) e
  operand_stored at (operand.Param f i) w p a flow have named points e place =
      subst (λ z. StandsBeside s counts kept w (write ram z x)) (same_Some _ a place) (subst (λ u. StandsBeside s counts kept u (write ram (parameter_address s f i) x)) (gives_same e) (parameter_stored f i named))
  operand_stored at (operand.Scratch n) w p a flow have named points e place =
      subst (λ z. StandsBeside s counts kept w (write ram z x)) (same_Some _ a place) (subst (λ u. StandsBeside s counts kept u (write ram (SCRATCH + n) x)) (gives_same e) (scratch_stored n named))
  operand_stored at (operand.Number w0) w p a flow have named points e place = absurd (none-some a place)
  operand_stored at (operand.Address o i) w p a flow have named points e place = absurd (none-some a place)
  operand_stored at operand.Pointed w p a flow have named points e place = word_by v.registers.pointed a w flow (λ c is. points c is ∙ same_Some p a place) e
