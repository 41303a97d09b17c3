-- Operations one behind another come to what their steps do on the words at their addresses.
use Rattle.std.proofs.Common.{◌≡◌, ℕ, ◌+◌, ◌*◌, ◌<◌, ◌≤◌, Bool, true, false, if◌then◌else◌, List, [], ◌∷◌, ◌++◌, Option, Some, None, refl, sym, ap, ◌∙◌, subst, arith, lit<, lit≤}
use Rattle.std.proofs.lemmas.Option.{none-some, same_Some}
use Rattle.c25_isa.specs.Step.{wrap16}
use Rattle.c25_code.specs.Work.{Work}
use Rattle.acc_code.specs.declared.operand.AccOperand.{AccOperand}
use Rattle.acc_code.specs.declared.operand.AccOperand.TheVariants as operand
use Rattle.acc_code.specs.declared.operation.AccOp.{AccOp}
use Rattle.acc_code.specs.declared.operation.AccOp.TheVariants as row
use Rattle.acc_code.specs.Operands.{No_operand, Read_word, Constant16, taken_by, IsTaken}
use Rattle.ir_semantics.specs.Parts.{Does, after, Flow, in_order}
use Rattle.ir_semantics.specs.AccRows.{Gone, Registers, with_acc, low_half, scaled, points_at, operation_weight}
use Rattle.ir_semantics.specs.AccRun.{Machine, held, cell_at, registers_become, act_on, act, without_acc}
use Rattle.emit_blocks.specs.declared.step.Reach.{Reach}
use Rattle.emit_blocks.specs.declared.step.Reach.TheVariants as reach
use Rattle.emit_blocks.specs.declared.step.Step.{Step}
use Rattle.emit_blocks.specs.Places.{object_address, reach_of}
use Rattle.emit_blocks.specs.Right.{IsRight, AreRight}
use Rattle.emit_blocks.specs.Steps.{Operation, operation, step, POINT_WORD, is_point, is_load_of_pointer, steps_of_operation, steps_from}
use Rattle.emit_proof.specs.Addressed.{IsWordOperand}
use Rattle.emit_proof.specs.Direct.{direct_row, behind_step}
use Rattle.emit_proof.specs.Registers.{RegistersAlike}
use Rattle.emit_proof.specs.Standing.{IsNamed}
use Rattle.emit_proof.proofs.Holding.{operand_read}
use Rattle.emit_proof.specs.Accessing.{ReachMay}
use Rattle.emit_proof.specs.Sites.{Site, IsSite, Beside}
use Rattle.emit_proof.specs.Operations.{operate, AreNamed, IsUsable, AreUsable}
use Rattle.emit_proof.proofs.Knowing.{more_work_beside}
use Rattle.emit_proof.proofs.RowKinds.{kind_of}
use Rattle.emit_proof.proofs.Pointers.{PlainLoad, OfWord, OfNumber, plain_load, point_is, load_parts, no_load_last, takes_nothing, operation_weighs}
use Rattle.emit_proof.proofs.Located.{read_located}
use Rattle.emit_proof.proofs.Rows.{RowDoes}
use Rattle.emit_proof.proofs.Loading.{loaded_alike}
use Rattle.emit_proof.proofs.Meeting.{StepsMeet, steps_fail, no_steps, step_before, operation_before}
use Rattle.emit_proof.proofs.Pointing.{loaded_low, point_does, address_does, point_stores, point_stored}
use Rattle.emit_proof.proofs.OperationOperating.{one_step_meets}

by_test : (P : Bool → Type 0) (b : Bool) → (b ≡ true → P true) → (b ≡ false → P false) → P b
by_test P true hit miss = hit refl
by_test P false hit miss = miss refl

-- what is behind a Point
abbrev point_then : Site → AccOperand → Does Machine Flow → Does Machine Flow
point_then k m next = λ u. after (act k.at row.Point m (record u { work = u.work + 3 })) (λ flow. in_order flow next)

-- what is known behind a load of AR1 with a word: of the accumulator nothing
abbrev pointing : ℕ → Registers → Registers
pointing x r = record r { acc = Gone; pointed = Some x }

-- a load of the accumulator, and a Point whose word nothing else uses
module _ (k : Site) (site : IsSite k) (v : Machine) (w : Work) (h : Beside k v w) (begun : ℕ) (few : 1 + 2 * begun ≤ 2 * v.work) (ys : List Step) (next : Does Machine Flow) (alike : (u : Machine) → next (without_acc u) ≡ next u) (others : (u : Machine) (z : Work) → Beside k u z → StepsMeet k ys u.outside.outs u.work z (next u)) where
  abbrev ticked : Machine
  ticked = record v { work = v.work + 3 }

  ticked_beside : Beside k ticked w
  ticked_beside = more_work_beside k v w (v.work + 3) h

  pointing_alike : (x : ℕ) → RegistersAlike (pointing x v.registers) w
  pointing_alike x = let r = h.registers in record { acc = tt; t = r.t; p = r.p; sxm = r.sxm }

  module _ (r : Reach) (x : ℕ) (word : x < 65536) (does : RowDoes k (direct_row row.Point r w) v.outside.outs w (record ticked { registers = pointing x v.registers })) (may : ReachMay k w r) where
    abbrev the_step : Step
    the_step = step row.Point r

    abbrev loaded : Registers
    loaded = with_acc (scaled v.registers.sxm x 0) v.registers

    pointed_then : (b : Option ℕ) → b ≡ Some x → StepsMeet k (the_step ∷ ys) v.outside.outs begun w (after (registers_become (points_at b loaded) (record ticked { registers = loaded })) (λ flow. in_order flow next))
    pointed_then None e = absurd (none-some x e)
    pointed_then (Some y) e =
        let u : Machine = record ticked { registers = record loaded { pointed = Some x } } in
        let more : 1 + 2 * begun ≤ 2 * (v.work + 3) = omega (arith, few) in
        let rest = subst (StepsMeet k ys v.outside.outs (v.work + 3) (behind_step the_step w)) (alike u) (others (without_acc u) (behind_step the_step w) does.beside) in
        subst (λ z. StepsMeet k (the_step ∷ ys) v.outside.outs begun w (next (record ticked { registers = record loaded { pointed = Some z } }))) (sym (same_Some y x e))
        (step_before k the_step v.outside.outs begun (v.work + 3) w (without_acc u) does may more ys (next u) rest)

    loads_then : StepsMeet k (the_step ∷ ys) v.outside.outs begun w (point_then k operand.Nothing next (record v { registers = loaded }))
    loads_then = pointed_then (low_half (scaled v.registers.sxm x 0)) (loaded_low v.registers.sxm x word)

  -- from a word
  word_then : (m : AccOperand) → IsTaken Read_word m → IsNamed k.places k.counts k.kept m → (b : Option ℕ) → held k.at m v ≡ b
      → StepsMeet k (step row.Point (reach_of k.places m) ∷ ys) v.outside.outs begun w (after (act_on (row.Lac 0) b v) (λ flow. in_order flow (point_then k operand.Nothing next)))
  word_then m read named None e = steps_fail (step row.Point (reach_of k.places m) ∷ ys) v.outside.outs w
  word_then m read named (Some x) e =
      let located = read_located k site w v h m x read named e in
      let is : w.ram located.address ≡ x = operand_read k.places k.counts k.kept v w.ram h.stands k.at m (w.ar 1) located.address x site.addresses h.pointed e located.place in
      let word : x < 65536 = subst (λ n. n < 65536) is (h.range.ram located.address) in
      let does = point_does k ticked w ticked_beside (pointing x v.registers) (pointing_alike x) x refl located.address located.low located.word is in
      loads_then (reach_of k.places m) x word (subst (λ code. RowDoes k code v.outside.outs w (record ticked { registers = pointing x v.registers })) (sym (located.rows row.Point)) does) located.may

  -- from a constant
  number_then : (x : ℕ) → x < 65536 → StepsMeet k (step row.Point (reach.Constant x) ∷ ys) v.outside.outs begun w (after (act_on (row.Lalk 0) (Some x) v) (λ flow. in_order flow (point_then k operand.Nothing next)))
  number_then x word = loads_then (reach.Constant x) x word (address_does k ticked w ticked_beside (pointing x v.registers) (pointing_alike x) x refl word) tt

  cell_then : (i base : ℕ) (b : Option ℕ) → ((a : ℕ) → b ≡ Some a → base ≡ a)
      → StepsMeet k (step row.Point (reach.Constant (wrap16 (base + i))) ∷ ys) v.outside.outs begun w (after (act_on (row.Lalk 0) (cell_at b i) v) (λ flow. in_order flow (point_then k operand.Nothing next)))
  cell_then i base None same = steps_fail (step row.Point (reach.Constant (wrap16 (base + i))) ∷ ys) v.outside.outs w
  cell_then i base (Some a) same =
      let word : wrap16 (a + i) < 65536 = omega arith in
      subst (λ j. StepsMeet k (step row.Point (reach.Constant (wrap16 (j + i))) ∷ ys) v.outside.outs begun w (after (act_on (row.Lalk 0) (cell_at (Some a) i) v) (λ flow. in_order flow (point_then k operand.Nothing next))))
      (sym (same a refl)) (number_then (wrap16 (a + i)) word)

  constant_then : (m : AccOperand) → IsTaken Constant16 m → IsWordOperand m → StepsMeet k (step row.Point (reach_of k.places m) ∷ ys) v.outside.outs begun w (after (act k.at (row.Lalk 0) m v) (λ flow. in_order flow (point_then k operand.Nothing next)))
  constant_then operand.Nothing taken word = absurd taken
  constant_then (operand.Scalar n) taken word = absurd taken
  constant_then (operand.Direct x) taken word = absurd taken
  constant_then (operand.Param f i) taken word = absurd taken
  constant_then (operand.Scratch n) taken word = absurd taken
  constant_then (operand.Number c) taken word = number_then c word
  constant_then (operand.Address x i) taken word = cell_then i (object_address k.places x) (k.at x) (λ a is. site.addresses x a is)
  constant_then operand.Pointed taken word = absurd taken

  joined_then : (o : AccOp) (m : AccOperand) → PlainLoad o → IsTaken (taken_by o) m → IsNamed k.places k.counts k.kept m → IsUsable k o m → StepsMeet k (step row.Point (reach_of k.places m) ∷ ys) v.outside.outs begun w (after (act k.at o m v) (λ flow. in_order flow (point_then k operand.Nothing next)))
  joined_then o m OfWord taken named usable = word_then m taken named (held k.at m v) refl
  joined_then o m OfNumber taken named usable = constant_then m taken usable.0

-- Point by itself: two steps
module _ (k : Site) (site : IsSite k) (v : Machine) (w : Work) (h : Beside k v w) (ys : List Step) (next : Does Machine Flow) (others : (u : Machine) (z : Work) → Beside k u z → StepsMeet k ys u.outside.outs u.work z (next u)) where
  abbrev stores : Step
  stores = step (row.Sacl 0) (reach.Word POINT_WORD)

  abbrev points : Step
  points = step row.Point (reach.Word POINT_WORD)

  point_by : (b : Option ℕ) → low_half v.registers.acc ≡ b → StepsMeet k (stores ∷ points ∷ ys) v.outside.outs v.work w (after (registers_become (points_at b v.registers) (record v { work = v.work + 3 })) (λ flow. in_order flow next))
  point_by None e = steps_fail (stores ∷ points ∷ ys) v.outside.outs w
  point_by (Some x) e =
      let first = point_stores k site v w h x e in
      let z : Work = behind_step stores w in
      let t : Machine = record v { work = v.work + 3 } in
      let s : Registers = record v.registers { pointed = Some x } in
      let u : Machine = record t { registers = s } in
      let beside : Beside k t z = more_work_beside k v z (v.work + 3) first.beside in
      let r = beside.registers in
      let second = point_does k t z beside s (record { acc = r.acc; t = r.t; p = r.p; sxm = r.sxm }) x refl POINT_WORD (lit≤ tt) (lit< tt) (point_stored k site v w h x e) in
      let one : 1 + 2 * v.work ≤ 2 * (v.work + 1) = omega arith in
      let two : 1 + 2 * (v.work + 1) ≤ 2 * (v.work + 3) = omega arith in
      step_before k stores v.outside.outs v.work (v.work + 1) w v first tt one (points ∷ ys) (next u)
      (step_before k points v.outside.outs (v.work + 1) (v.work + 3) z u second tt two ys (next u) (others u (behind_step points z) second.beside))

  point_meets : (m : AccOperand) → m ≡ operand.Nothing → StepsMeet k (stores ∷ points ∷ ys) v.outside.outs v.work w (point_then k m next v)
  point_meets m e = subst (λ n. StepsMeet k (stores ∷ points ∷ ys) v.outside.outs v.work w (point_then k n next v)) (sym e) (point_by (low_half v.registers.acc) refl)

-- an operation that stands by itself, before others
module _ (k : Site) (site : IsSite k) (v : Machine) (w : Work) (h : Beside k v w) (ys : List Step) (next : Does Machine Flow) (others : (u : Machine) (z : Work) → Beside k u z → StepsMeet k ys u.outside.outs u.work z (next u)) where
  abbrev begins : AccOp → AccOperand → Does Machine Flow
  begins o m = λ u. after (act k.at o m (record u { work = u.work + operation_weight o m })) (λ flow. in_order flow next)

  one_meets : (o : AccOp) (m : AccOperand) → IsRight (operation o m) → IsNamed k.places k.counts k.kept m → IsUsable k o m → (o ≡ row.Point → ⊥) → StepsMeet k (step o (reach_of k.places m) ∷ ys) v.outside.outs v.work w (begins o m v)
  one_meets o m right named usable other =
      let n : ℕ = v.work + operation_weight o m in
      let weighs = operation_weighs o m in
      let few : 1 + 2 * v.work ≤ 2 * (v.work + operation_weight o m) = omega (arith, weighs) in
      let t : Machine = record v { work = n } in
      let x : Step = step o (reach_of k.places m) in
      operation_before k x t w v.work few ys next (λ u beside. others u (behind_step x w) beside) (act k.at o m t)
      (one_step_meets k site t w (more_work_beside k v w n h) o m (kind_of o) right named usable other)

  two_meet : (o : AccOp) (m : AccOperand) → IsRight (operation o m) → o ≡ row.Point → StepsMeet k (step (row.Sacl 0) (reach.Word POINT_WORD) ∷ step row.Point (reach.Word POINT_WORD) ∷ ys) v.outside.outs v.work w (begins o m v)
  two_meet o m right is =
      let taken : IsTaken No_operand m = subst (λ p. IsTaken (taken_by p) m) is right.taken in
      subst (λ p. StepsMeet k (step (row.Sacl 0) (reach.Word POINT_WORD) ∷ step row.Point (reach.Word POINT_WORD) ∷ ys) v.outside.outs v.work w (begins p m v)) (sym is)
      (point_meets k site v w h ys next others m (takes_nothing m taken))

  no_point : (o : AccOp) → is_point o ≡ false → o ≡ row.Point → ⊥
  no_point o e is = let f : true ≡ false = sym (ap is_point is) ∙ e in absurd cc

  apart_meet : (o : Operation) → IsRight o → IsNamed k.places k.counts k.kept o.operand → IsUsable k o.row o.operand → StepsMeet k (steps_of_operation k.places o ++ ys) v.outside.outs v.work w (begins o.row o.operand v)
  apart_meet o right named usable =
      by_test (λ b. StepsMeet k ((if b then step (row.Sacl 0) (reach.Word POINT_WORD) ∷ step row.Point (reach.Word POINT_WORD) ∷ [] else step o.row (reach_of k.places o.operand) ∷ []) ++ ys) v.outside.outs v.work w (begins o.row o.operand v)) (is_point o.row)
      (λ e. two_meet o.row o.operand right (point_is o.row e))
      (λ e. one_meets o.row o.operand right named usable (no_point o.row e))

module _ (k : Site) (site : IsSite k) where
  -- two operations that are one load of AR1
  joined_meet : (o p : Operation) (rest : List Operation) → is_load_of_pointer o (p ∷ rest) ≡ true → AreRight (o ∷ p ∷ rest) → AreNamed k (o ∷ p ∷ rest) → AreUsable k (o ∷ p ∷ rest)
      → ((u : Machine) (z : Work) → Beside k u z → StepsMeet k (steps_from k.places false rest) u.outside.outs u.work z (operate k.at rest u))
      → (v : Machine) (w : Work) → Beside k v w → StepsMeet k (step row.Point (reach_of k.places o.operand) ∷ steps_from k.places false rest) v.outside.outs v.work w (operate k.at (o ∷ p ∷ rest) v)
  joined_meet o p rest joined right named usable others v w h =
      let parts = load_parts o (p ∷ rest) joined in
      let ys : List Step = steps_from k.places false rest in
      let n : ℕ = v.work + operation_weight o.row o.operand in
      let weighs = operation_weighs o.row o.operand in
      let few : 1 + 2 * v.work ≤ 2 * (v.work + operation_weight o.row o.operand) = omega (arith, weighs) in
      let t : Machine = record v { work = n } in
      let is : p.row ≡ row.Point = point_is p.row parts.1 in
      let taken : IsTaken No_operand p.operand = subst (λ q. IsTaken (taken_by q) p.operand) is right.1.0.taken in
      let none : p.operand ≡ operand.Nothing = takes_nothing p.operand taken in
      let xs : List Step = step row.Point (reach_of k.places o.operand) ∷ ys in
      let here = joined_then k site t w (more_work_beside k v w n h) v.work few ys (operate k.at rest) (λ u. loaded_alike k.at rest parts.2 u) others o.row o.operand (plain_load o.row parts.0) right.0.taken named.0 usable.0 in
      let there = subst (λ m. StepsMeet k xs v.outside.outs v.work w (after (act k.at o.row o.operand t) (λ flow. in_order flow (point_then k m (operate k.at rest))))) (sym none) here in
      subst (λ q. StepsMeet k xs v.outside.outs v.work w (after (act k.at o.row o.operand t) (λ flow. in_order flow (λ u. after (act k.at q p.operand (record u { work = u.work + operation_weight q p.operand })) (λ flow. in_order flow (operate k.at rest))))))
      (sym is) there

  pub operations_do : (os : List Operation) → AreRight os → AreNamed k os → AreUsable k os → (v : Machine) (w : Work) → Beside k v w → StepsMeet k (steps_from k.places false os) v.outside.outs v.work w (operate k.at os v)
  operations_do [] right named usable v w h = no_steps k v w h
  operations_do (o ∷ []) right named usable v w h =
      by_test (λ b. StepsMeet k (if b then step row.Point (reach_of k.places o.operand) ∷ [] else (steps_of_operation k.places o ++ [])) v.outside.outs v.work w (operate k.at (o ∷ []) v)) (is_load_of_pointer o [])
      (λ e. absurd (no_load_last o e))
      (λ e. apart_meet k site v w h [] (operate k.at []) (λ u z beside. operations_do [] right.1 named.1 usable.1 u z beside) o right.0 named.0 usable.0)
  operations_do (o ∷ p ∷ rest) right named usable v w h =
      by_test (λ b. StepsMeet k (if b then step row.Point (reach_of k.places o.operand) ∷ steps_from k.places false rest else (steps_of_operation k.places o ++ steps_from k.places false (p ∷ rest))) v.outside.outs v.work w (operate k.at (o ∷ p ∷ rest) v)) (is_load_of_pointer o (p ∷ rest))
      (λ e. joined_meet o p rest e right named usable (λ u z beside. operations_do rest right.1.1 named.1.1 usable.1.1 u z beside) v w h)
      (λ e. apart_meet k site v w h (steps_from k.places false (p ∷ rest)) (operate k.at (p ∷ rest)) (λ u z beside. operations_do (p ∷ rest) right.1 named.1 usable.1 u z beside) o right.0 named.0 usable.0)
