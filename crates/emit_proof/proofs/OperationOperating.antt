-- An operation that is one step comes to what its row does on the word at its address.
use Rattle.std.proofs.Common.{◌≡◌, ℕ, ◌+◌, ◌<◌, ◌≤◌, List, [], ◌∷◌, Option, Some, None, refl, sym, ap, ◌∙◌, subst, arith, lit<}
use Rattle.word_base.specs.Ports.{Outputs}
use Rattle.word_base.specs.declared.outcome.Ending.TheVariants.{InputEnded}
use Rattle.c_tree.specs.declared.program.VarRef.{VarRef}
use Rattle.c25_isa.specs.Step.{wrap16}
use Rattle.c25_code.specs.Work.{Work}
use Rattle.acc_code.specs.declared.operand.AccOperand.{AccOperand}
use Rattle.acc_code.specs.declared.operand.AccOperand.TheVariants as operand
use Rattle.acc_code.specs.declared.operation.AccOp.{AccOp}
use Rattle.acc_code.specs.declared.operation.AccOp.TheVariants as row
use Rattle.acc_code.specs.Operands.{Read_word, Written_word, HasRange, IsTaken}
use Rattle.ir_semantics.specs.Parts.{Res, Gives, Finished, TooMany, Fails, after, Flow}
use Rattle.ir_semantics.specs.AccRows.{Registers, low_half, whole_of, low_stored, high_stored, acted}
use Rattle.ir_semantics.specs.AccRun.{Machine, held, cell_at, write_word, store_to, store, put, input_ends, missing, taken, registers_become, act_on, act}
use Rattle.emit_blocks.specs.declared.step.Reach.{Reach}
use Rattle.emit_blocks.specs.declared.step.Reach.TheVariants as reach
use Rattle.emit_blocks.specs.declared.step.Step.{Step}
use Rattle.emit_blocks.specs.Places.{object_address, reach_of}
use Rattle.emit_blocks.specs.Right.{IsConstantOf, IsRight}
use Rattle.emit_blocks.specs.Steps.{step, operation}
use Rattle.emit_proof.specs.Addressed.{IsWordOperand}
use Rattle.emit_proof.specs.Direct.{row_at, direct_row}
use Rattle.emit_proof.proofs.Wording.{steps_words}
use Rattle.emit_proof.specs.Standing.{IsNamed}
use Rattle.emit_proof.proofs.Holding.{operand_read}
use Rattle.emit_proof.specs.Sites.{Site, IsSite, Beside}
use Rattle.emit_proof.specs.Operations.{LiesInRam, IsUsable}
use Rattle.emit_proof.proofs.RowKinds.{ReadsWord, TakesConstant, ConstantOperand, NoneIs, NumberIs, AddressIs, Kind, Points, StoresLow, StoresHigh, TakesIn, PutsOut, Reads, OnConstant}
use Rattle.emit_proof.proofs.Located.{Located, scalar_located, parameter_located, scratch_located, object_located, read_located}
use Rattle.emit_proof.proofs.Stored.{StoreComes, store_comes}
use Rattle.emit_proof.proofs.Rows.{RowDoes, word_does, constant_does, put_does}
use Rattle.emit_proof.proofs.StoreRows.{low_does, high_does, taken_state, taken_work, beside_taken, take_does}
use Rattle.emit_proof.proofs.Accessing.{may_alike}
use Rattle.emit_proof.proofs.Meeting.{InputStops, OperationMeets}

-- a row's step means the same wherever AR1 is the same
rows_alike : (o : AccOp) (r : Reach) (w u : Work) → u.ar 1 ≡ w.ar 1 → direct_row o r u ≡ direct_row o r w
rows_alike o (reach.Scalar p) w u same = refl
rows_alike o reach.Pointer w u same = ap (row_at o) same
rows_alike o (reach.Word a) w u same = refl
rows_alike o (reach.Constant c) w u same = refl

-- an input of a port that has no word left
module _ (k : Site) (site : IsSite k) (v : Machine) (w : Work) (h : Beside k v w) (port : ℕ) (empty : v.outside.input port ≡ []) where
  abbrev input_to : AccOperand → Step
  input_to m = step (row.In port) (reach_of k.places m)

  -- the run ends, where its word would lie in RAM
  ends_at : (m : AccOperand) (outs : Outputs) (total : ℕ) → Located k w m → outs ≡ v.outside.outs → total ≡ v.work → InputStops (input_to m) v w (InputEnded port) outs total
  ends_at m outs total located same alike = record {
    port = port;
    is = refl;
    over_word = located.over_word;
    low = subst (λ a. 0x300 ≤ a) (sym located.there) located.low;
    none = ap (λ i. i port) h.input ∙ empty;
    ends = refl;
    outputs = same;
    work = alike;
  }

  pointed_by : (r : Res Machine Flow) → StoreComes k v w operand.Pointed r → OperationMeets k (input_to operand.Pointed) v w (after r (λ flow. input_ends port))
  pointed_by (Gives flow u) s = ends_at operand.Pointed u.outside.outs u.work s.1.located s.1.outs s.1.work
  pointed_by (Finished ending outs total) s = absurd s
  pointed_by (TooMany outs) s = absurd s
  pointed_by (Fails outs) s = s

  object_word : (o : VarRef) → object_address k.places o < 65536
  object_word o = (steps_words k.places (operation (row.In 0) (operand.Direct o) ∷ []) site.words (tt, tt)).0

  missing_meets : (m : AccOperand) → IsTaken Written_word m → IsNamed k.places k.counts k.kept m → LiesInRam k m → OperationMeets k (input_to m) v w (missing m port v)
  missing_meets operand.Nothing to there low = absurd to
  missing_meets (operand.Scalar n) to there low = ends_at (operand.Scalar n) v.outside.outs v.work (scalar_located k site w n there) refl refl
  missing_meets (operand.Direct o) to there low = ends_at (operand.Direct o) v.outside.outs v.work (object_located k site w o low (object_word o)) refl refl
  missing_meets (operand.Param f i) to there low = ends_at (operand.Param f i) v.outside.outs v.work (parameter_located k site w f i there) refl refl
  missing_meets (operand.Scratch n) to there low = ends_at (operand.Scratch n) v.outside.outs v.work (scratch_located k site w n there) refl refl
  missing_meets (operand.Number c) to there low = absurd to
  missing_meets (operand.Address o i) to there low = absurd to
  missing_meets operand.Pointed to there low = pointed_by (write_word v.registers.pointed 0 v) (store_comes k site w v h 0 operand.Pointed to there)

module _ (k : Site) (site : IsSite k) (v : Machine) (w : Work) (h : Beside k v w) (m : AccOperand) where
  abbrev the_step : AccOp → Step
  the_step o = step o (reach_of k.places m)

  -- the word of an operand that is known
  word_there : (x : ℕ) → held k.at m v ≡ Some x → (located : Located k w m) → w.ram located.address ≡ x
  word_there x e located = operand_read k.places k.counts k.kept v w.ram h.stands k.at m (w.ar 1) located.address x site.addresses h.pointed e located.place

  by_row : (o : AccOp) (located : Located k w m) (u : Machine) → RowDoes k (row_at o located.address) v.outside.outs w u → RowDoes k (direct_row o (reach_of k.places m) w) v.outside.outs w u
  by_row o located u does = subst (λ code. RowDoes k code v.outside.outs w u) (sym (located.rows o)) does

  module _ (named : IsNamed k.places k.counts k.kept m) where
    -- rows that read a word
    module _ (o : AccOp) (reads : ReadsWord o) (has : HasRange o) (read : IsTaken Read_word m) where
      acted_by : (x : ℕ) → held k.at m v ≡ Some x → (s : Option Registers) → acted o x v.registers ≡ s → OperationMeets k (the_step o) v w (registers_become s v)
      acted_by x e None is = refl
      acted_by x e (Some s) is =
          let located = read_located k site w v h m x read named e in
          (refl, by_row o located (record v { registers = s }) (word_does k v w h o located.address x s reads has located.low located.word (word_there x e located) is), refl, located.may)

      read_by : (b : Option ℕ) → held k.at m v ≡ b → OperationMeets k (the_step o) v w (act_on o b v)
      read_by None e = refl
      read_by (Some x) e = acted_by x e (acted o x v.registers) refl

      reads_meet : OperationMeets k (the_step o) v w (act k.at o m v)
      reads_meet = subst (OperationMeets k (the_step o) v w) (sym (reads.registers.acts k.at m v)) (read_by (held k.at m v) refl)

    -- a row that puts one
    put_by : (port : ℕ) → port < 16 → IsTaken Read_word m → (b : Option ℕ) → held k.at m v ≡ b → OperationMeets k (the_step (row.Out port)) v w (put port b v)
    put_by port few read None e = refl
    put_by port few read (Some x) e =
        let located = read_located k site w v h m x read named e in
        (refl, by_row (row.Out port) located _ (put_does k v w h port located.address x few located.low located.word (word_there x e located)), refl, located.may)

    -- rows that store one
    module _ (written : IsTaken Written_word m) where
      low_by : (shift x : ℕ) → shift < 8 → low_stored (low_half v.registers.acc) shift ≡ Some x → (r : Res Machine Flow) → store_to k.at m x v ≡ r → StoreComes k v w m r → OperationMeets k (the_step (row.Sacl shift)) v w r
      low_by shift x few word (Gives flow u) e s = (s.0, by_row (row.Sacl shift) s.1.located u (low_does k site v w h m named shift x flow u few word e s.1), s.1.work, s.1.located.may)
      low_by shift x few word (Finished ending outs total) e s = absurd s
      low_by shift x few word (TooMany outs) e s = absurd s
      low_by shift x few word (Fails outs) e s = s

      stores_low : (shift : ℕ) → shift < 8 → (b : Option ℕ) → low_stored (low_half v.registers.acc) shift ≡ b → OperationMeets k (the_step (row.Sacl shift)) v w (store k.at m b v)
      stores_low shift few None e = refl
      stores_low shift few (Some x) e = low_by shift x few e (store_to k.at m x v) refl (store_comes k site w v h x m written named)

      high_by : (shift x : ℕ) → shift < 8 → high_stored (whole_of v.registers.acc) shift ≡ Some x → (r : Res Machine Flow) → store_to k.at m x v ≡ r → StoreComes k v w m r → OperationMeets k (the_step (row.Sach shift)) v w r
      high_by shift x few word (Gives flow u) e s = (s.0, by_row (row.Sach shift) s.1.located u (high_does k site v w h m named shift x flow u few word e s.1), s.1.work, s.1.located.may)
      high_by shift x few word (Finished ending outs total) e s = absurd s
      high_by shift x few word (TooMany outs) e s = absurd s
      high_by shift x few word (Fails outs) e s = s

      stores_high : (shift : ℕ) → shift < 8 → (b : Option ℕ) → high_stored (whole_of v.registers.acc) shift ≡ b → OperationMeets k (the_step (row.Sach shift)) v w (store k.at m b v)
      stores_high shift few None e = refl
      stores_high shift few (Some x) e = high_by shift x few e (store_to k.at m x v) refl (store_comes k site w v h x m written named)

      take_by : (port x : ℕ) (xs : List ℕ) → port < 16 → w.input port ≡ x ∷ xs → (r : Res Machine Flow) → store_to k.at m x (taken_state v port xs) ≡ r → StoreComes k (taken_state v port xs) (taken_work w port xs) m r → OperationMeets k (the_step (row.In port)) v w r
      take_by port x xs few is (Gives flow u) e s =
          let o : AccOp = row.In port in
          let rows = sym (rows_alike o (reach_of k.places m) w (taken_work w port xs) refl) ∙ s.1.located.rows o in
          (s.0, subst (λ code. RowDoes k code v.outside.outs w u) (sym rows) (take_does k site v w h m named port x xs flow u few is e s.1), s.1.work, may_alike k (reach_of k.places m) (taken_work w port xs) w refl s.1.located.may)
      take_by port x xs few is (Finished ending outs total) e s = absurd s
      take_by port x xs few is (TooMany outs) e s = absurd s
      take_by port x xs few is (Fails outs) e s = s

      takes_in : (port : ℕ) → port < 16 → LiesInRam k m → (l : List ℕ) → v.outside.input port ≡ l → OperationMeets k (the_step (row.In port)) v w (taken k.at l port m v)
      takes_in port few low [] e = missing_meets k site v w h port e m written named low
      takes_in port few low (x ∷ xs) e =
          let is : w.input port ≡ x ∷ xs = ap (λ i. i port) h.input ∙ e in
          let u : Machine = taken_state v port xs in
          let z : Work = taken_work w port xs in
          take_by port x xs few is (store_to k.at m x u) refl (store_comes k site z u (beside_taken k site v w h m named port x xs few is) x m written named)

  -- rows on constants and on the registers
  module _ (o : AccOp) (takes : TakesConstant o) (has : HasRange o) where
    constant_by : (c : ℕ) → IsConstantOf o c → c < 65536 → (s : Option Registers) → acted o c v.registers ≡ s → OperationMeets k (step o (reach.Constant c)) v w (registers_become s v)
    constant_by c of_row word None is = refl
    constant_by c of_row word (Some s) is = (refl, constant_does k v w h o c s takes has of_row word is, refl, tt)

    constant_on : (c : ℕ) → IsConstantOf o c → c < 65536 → OperationMeets k (step o (reach.Constant c)) v w (act_on o (Some c) v)
    constant_on c of_row word = constant_by c of_row word (acted o c v.registers) refl

    cell_on : (i base : ℕ) (b : Option ℕ) → ((a : ℕ) → b ≡ Some a → base ≡ a) → ((c : ℕ) → IsConstantOf o c) → OperationMeets k (step o (reach.Constant (wrap16 (base + i)))) v w (act_on o (cell_at b i) v)
    cell_on i base None same of_row = refl
    cell_on i base (Some a) same of_row =
        let word : wrap16 (a + i) < 65536 = omega arith in
        subst (λ j. OperationMeets k (step o (reach.Constant (wrap16 (j + i)))) v w (act_on o (cell_at (Some a) i) v)) (sym (same a refl)) (constant_on (wrap16 (a + i)) (of_row (wrap16 (a + i))) word)

constant_shaped : (k : Site) (site : IsSite k) (v : Machine) (w : Work) (h : Beside k v w) (o : AccOp) (n : AccOperand) → TakesConstant o → HasRange o → IsWordOperand n → ConstantOperand o n → OperationMeets k (step o (reach_of k.places n)) v w (act_on o (held k.at n v) v)
constant_shaped k site v w h o n takes has word (NoneIs q of_row) = constant_on k site v w h operand.Nothing o takes has 0 of_row (lit< tt)
constant_shaped k site v w h o n takes has word (NumberIs q c of_row) = constant_on k site v w h operand.Nothing o takes has c of_row word
constant_shaped k site v w h o n takes has word (AddressIs q x i of_row) = cell_on k site v w h operand.Nothing o takes has i (object_address k.places x) (k.at x) (λ a is. site.addresses x a is) of_row

-- Point aside
pub one_step_meets : (k : Site) (site : IsSite k) (v : Machine) (w : Work) (h : Beside k v w) (o : AccOp) (m : AccOperand) → Kind o → IsRight (operation o m) → IsNamed k.places k.counts k.kept m → IsUsable k o m → (o ≡ row.Point → ⊥) → OperationMeets k (step o (reach_of k.places m)) v w (act k.at o m v)
one_step_meets k site v w h o m Points right named usable other = absurd (other refl)
one_step_meets k site v w h o m (StoresLow shift) right named usable other = stores_low k site v w h m named right.taken shift right.range (low_stored (low_half v.registers.acc) shift) refl
one_step_meets k site v w h o m (StoresHigh shift) right named usable other = stores_high k site v w h m named right.taken shift right.range (high_stored (whole_of v.registers.acc) shift) refl
one_step_meets k site v w h o m (TakesIn port) right named usable other = takes_in k site v w h m named right.taken port right.range usable.1 (v.outside.input port) refl
one_step_meets k site v w h o m (PutsOut port) right named usable other = put_by k site v w h m named port right.range right.taken (held k.at m v) refl
one_step_meets k site v w h o m (Reads p reads) right named usable other = reads_meet k site v w h m named o reads right.range (reads.taken m right.taken)
one_step_meets k site v w h o m (OnConstant p takes) right named usable other =
    subst (OperationMeets k (step o (reach_of k.places m)) v w) (sym (takes.registers.acts k.at m v)) (constant_shaped k site v w h o m takes right.range usable.0 (takes.operands m right.taken))
