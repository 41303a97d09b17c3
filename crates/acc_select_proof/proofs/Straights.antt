-- Items without a jump that only change registers, scratch words and work: what they leave of the accumulator, and what they weigh.
use Rattle.std.proofs.Common.{◌≡◌, ℕ, ◌+◌, ◌*◌, ◌^◌, ◌<◌, ◌≤◌, true, Some, refl, ap, ◌∙◌, arith}
use Rattle.std.specs.Prelude.{⊤}
use Rattle.acc_code.specs.declared.operand.AccOperand.{AccOperand}
use Rattle.acc_code.specs.declared.operand.AccOperand.TheVariants as operand
use Rattle.acc_code.specs.declared.operation.AccOp.{AccOp}
use Rattle.acc_code.specs.declared.operation.AccOp.TheVariants as row
use Rattle.acc_code.specs.AccTree.{Op, ItemList, end, item, ◌▸◌, ◌⧺◌}
use Rattle.acc_select.specs.acc_operations.declared.constant.Constant.{Constant}
use Rattle.acc_select.specs.acc_operations.declared.constant.Constant.TheVariants.{Number, Address}
use Rattle.acc_select.specs.acc_operations.declared.found.Found.{Found}
use Rattle.acc_select.specs.acc_operations.declared.found.Found.TheVariants.{Fixed, Held, Loaded}
use Rattle.acc_select.specs.acc_operations.declared.high_half.HighHalf.{HighHalf}
use Rattle.acc_select.specs.acc_operations.declared.high_half.HighHalf.TheVariants.{Any, Zero, Sign, Small}
use Rattle.c25_isa.specs.Step.{extended, wrap16}
use Rattle.ir_semantics.specs.Outside.{with_scalar}
use Rattle.ir_semantics.specs.Parts.{Res, Gives, Finished, TooMany, Fails, Does, after, give, Flow, Next, Broke, Continued, Returned, in_order}
use Rattle.ir_semantics.specs.TreeRun.{Addresses}
use Rattle.ir_semantics.specs.AccRows.{Acc, Whole, Registers, low_half, low_stored, acted, operand_weight, operation_weight}
use Rattle.ir_semantics.specs.AccRun.{Machine, Context, held, cell_at, act, act_on, store, registers_become, run_item, run}

-- the accumulator holds this word, and so much is known of its high half
abbrev pub Has : HighHalf → ℕ → Acc → Type 0
Has Any x a = low_half a ≡ Some x
Has Zero x a = a ≡ Whole x
Has Sign x a = a ≡ Whole (extended true x)
Has Small x a = (a ≡ Whole x) × (x < 32768)

-- lists of items, one behind another
append_step : (r : Res Machine Flow) (f g h : Does Machine Flow) → ((v : Machine) → f v ≡ after (g v) (λ flow. in_order flow h)) → after r (λ flow. in_order flow f) ≡ after (after r (λ flow. in_order flow g)) (λ flow. in_order flow h)
append_step (Gives Next v) f g h e = e v
append_step (Gives Broke v) f g h e = refl
append_step (Gives Continued v) f g h e = refl
append_step (Gives Returned v) f g h e = refl
append_step (Finished ending outs work) f g h e = refl
append_step (TooMany outs) f g h e = refl
append_step (Fails outs) f g h e = refl

pub run_append : (c : Context) (xs ys : ItemList) (v : Machine) → run c (xs ⧺ ys) v ≡ after (run c xs v) (λ flow. in_order flow (run c ys))
run_append c end ys v = refl
run_append c (item x xs) ys v = append_step (run_item c x v) (run c (xs ⧺ ys)) (run c xs) (run c ys) (run_append c xs ys)

-- what a constant is
abbrev pub ConstantIs : Addresses → Constant → ℕ → Type 0
ConstantIs at (Number w) x = w ≡ x
ConstantIs at (Address v n) x = cell_at (at v) n ≡ Some x

-- a word is found so
abbrev pub FoundHas : Addresses → Found → ℕ → Machine → Type 0
FoundHas at (Fixed k) x v = ConstantIs at k x
FoundHas at (Held m) x v = held at m v ≡ Some x
FoundHas at (Loaded h) x v = Has h x v.registers.acc

-- what it weighs to load it
abbrev pub found_weight : Found → ℕ
found_weight (Fixed k) = 2
found_weight (Held m) = operand_weight m
found_weight (Loaded h) = 0

-- a word of memory that isn't a scratch word: one of a name, a temporary, or what is pointed to
abbrev pub IsSteady : AccOperand → Type 0
IsSteady (operand.Scalar n) = ⊤
IsSteady (operand.Direct v) = ⊤
IsSteady operand.Pointed = ⊤
IsSteady m = ⊥

-- from a state in which SXM is set to one in which it is: p says what is known then, and k is what the items weigh at most
pub record Straight (c : Context) (xs : ItemList) (v : Machine) (k : ℕ) (p : Machine → Type 0) : Type 0 where
  pub to : Machine
  pub runs : run c xs v ≡ Gives Next to
  pub frame : to.frame ≡ v.frame
  pub given_to : to.given_to ≡ v.given_to
  pub given : to.given ≡ v.given
  pub outside : to.outside ≡ v.outside
  pub pointed : to.registers.pointed ≡ v.registers.pointed
  pub sxm : to.registers.sxm ≡ Some true
  pub work : to.work ≤ v.work + k
  pub then_so : p to

-- a steady word stays
pub steady_stays : (at : Addresses) (m : AccOperand) (v u : Machine) → IsSteady m → u.frame ≡ v.frame → u.outside ≡ v.outside → u.registers.pointed ≡ v.registers.pointed → held at m u ≡ held at m v
steady_stays at (operand.Scalar n) v u is f o p = ap (λ g. g n) f
steady_stays at (operand.Direct o') v u is f o p = ap (λ x. held at (operand.Direct o') (record v { outside = x })) o
steady_stays at operand.Pointed v u is f o p = ap (λ x. held at operand.Pointed (record u { outside = x })) o ∙ ap (λ r. held at operand.Pointed (record v { registers = record v.registers { pointed = r } })) p
steady_stays at operand.Nothing v u is f o p = absurd is
steady_stays at (operand.Param f n) v u is e o p = absurd is
steady_stays at (operand.Scratch n) v u is f o p = absurd is
steady_stays at (operand.Number w) v u is f o p = absurd is
steady_stays at (operand.Address x i) v u is f o p = absurd is

-- what stands in an operand doesn't depend on the work
pub held_by_now : (at : Addresses) (m : AccOperand) (v : Machine) (k : ℕ) → held at m (record v { work = k }) ≡ held at m v
held_by_now at operand.Nothing v k = refl
held_by_now at (operand.Scalar n) v k = refl
held_by_now at (operand.Direct o) v k = refl
held_by_now at (operand.Param f n) v k = refl
held_by_now at (operand.Scratch n) v k = refl
held_by_now at (operand.Number w) v k = refl
held_by_now at (operand.Address o i) v k = refl
held_by_now at operand.Pointed v k = refl

module _ (c : Context) where
  pub nothing_done : (v : Machine) (k : ℕ) (p : Machine → Type 0) → v.registers.sxm ≡ Some true → p v → Straight c end v k p
  nothing_done v k p s h = record { to = v; runs = refl; frame = refl; given_to = refl; given = refl; outside = refl; pointed = refl; sxm = s; work = omega arith; then_so = h }

  -- one behind another: the second list may use what the first one left
  pub behind_that : (xs ys : ItemList) (v : Machine) (k j : ℕ) (p q : Machine → Type 0) → (s : Straight c xs v k p) → Straight c ys s.to j q → Straight c (xs ⧺ ys) v (k + j) q
  behind_that xs ys v k j p q s t = record {
    to = t.to;
    runs = run_append c xs ys v ∙ ap (λ r. after r (λ flow. in_order flow (run c ys))) s.runs ∙ t.runs;
    frame = t.frame ∙ s.frame;
    given_to = t.given_to ∙ s.given_to;
    given = t.given ∙ s.given;
    outside = t.outside ∙ s.outside;
    pointed = t.pointed ∙ s.pointed;
    sxm = t.sxm;
    work = omega (arith, t.work, s.work);
    then_so = t.then_so;
  }

  pub at_most : (xs : ItemList) (v : Machine) (k j : ℕ) (p q : Machine → Type 0) → k ≤ j → ((u : Machine) → p u → q u) → Straight c xs v k p → Straight c xs v j q
  at_most xs v k j p q le h s = record {
    to = s.to;
    runs = s.runs;
    frame = s.frame;
    given_to = s.given_to;
    given = s.given;
    outside = s.outside;
    pointed = s.pointed;
    sxm = s.sxm;
    work = omega (arith, le, s.work);
    then_so = h s.to s.then_so;
  }

  -- an operation that isn't a store, on a word that is there. That it acts so is `λ u. refl` for each such operation
  abbrev pub Acts : AccOp → AccOperand → Type 0
  Acts o m = (u : Machine) → act c.at o m u ≡ act_on o (held c.at m u) u

  pub operation : (o : AccOp) (m : AccOperand) (v : Machine) (x : ℕ) (r : Registers) (p : Machine → Type 0) → Acts o m → held c.at m v ≡ Some x → acted o x v.registers ≡ Some r
      → r.pointed ≡ v.registers.pointed → r.sxm ≡ Some true → p (record v { registers = r; work = v.work + operation_weight o m }) → Straight c (Op o m ▸ end) v (operation_weight o m) p
  operation o m v x r p acts there is pointed sxm h =
      let u : Machine = record v { work = v.work + operation_weight o m } in
      record {
        to = record v { registers = r; work = v.work + operation_weight o m };
        runs = ap (λ res. after res (λ flow. in_order flow (give Next)))
            (acts u ∙ ap (λ w. act_on o w u) (held_by_now c.at m v (v.work + operation_weight o m) ∙ there) ∙ ap (λ w. registers_become w u) is);
        frame = refl;
        given_to = refl;
        given = refl;
        outside = refl;
        pointed = pointed;
        sxm = sxm;
        work = omega arith;
        then_so = h;
      }

  -- a word of the accumulator goes to a scratch word
  pub saved : (n : ℕ) (v : Machine) (x : ℕ) (p : Machine → Type 0) → v.registers.sxm ≡ Some true → x < 65536 → low_half v.registers.acc ≡ Some x
      → p (record v { scratch = with_scalar n x v.scratch; work = v.work + 2 }) → Straight c (Op (row.Sacl 0) (operand.Scratch n) ▸ end) v 2 p
  saved n v x p sxm few is h =
      let word : wrap16 (x * 2 ^ 0) ≡ x = omega (arith, few) in
      let stored : low_stored (low_half v.registers.acc) 0 ≡ Some x = ap (λ w. low_stored w 0) is ∙ ap Some word in
      let u : Machine = record v { work = v.work + 2 } in
      record {
        to = record v { scratch = with_scalar n x v.scratch; work = v.work + 2 };
        runs = ap (λ w. after (store c.at (operand.Scratch n) w u) (λ flow. in_order flow (give Next))) stored;
        frame = refl;
        given_to = refl;
        given = refl;
        outside = refl;
        pointed = refl;
        sxm = sxm;
        work = omega arith;
        then_so = h;
      }
