-- Items without a jump, one behind another: what they leave of the accumulator, T and scratch words.
use Rattle.std.proofs.Common.{◌≡◌, ℕ, ◌+◌, ◌-◌, ◌%◌, ◌<◌, ◌≤◌, Bool, true, false, Option, Some, refl, sym, ap, ◌∙◌, subst, arith}
use Rattle.std.specs.Prelude.{⊤, nat_lt, if◌then◌else◌, bit_and}
use Rattle.acc_code.specs.declared.operand.AccOperand.{AccOperand}
use Rattle.acc_code.specs.declared.operation.AccOp.{AccOp}
use Rattle.acc_code.specs.declared.operation.AccOp.TheVariants as row
use Rattle.acc_code.specs.AccTree.{Op, ItemList, end, ◌▸◌, ◌⧺◌}
use Rattle.acc_select.specs.acc_operations.Arithmetic.{kept_zero}
use Rattle.acc_select.specs.acc_operations.Constants.{constant_high}
use Rattle.acc_select.specs.acc_operations.Words.{load, high, store, scratch, sacl}
use Rattle.acc_select.specs.acc_operations.declared.constant.Constant.TheVariants.{Number, Address}
use Rattle.acc_select.specs.acc_operations.declared.found.Found.{Found}
use Rattle.acc_select.specs.acc_operations.declared.found.Found.TheVariants.{Fixed, Held, Loaded}
use Rattle.acc_select.specs.acc_operations.declared.high_half.HighHalf.{HighHalf}
use Rattle.acc_select.specs.acc_operations.declared.high_half.HighHalf.TheVariants.{Any, Zero, Sign, Small}
use Rattle.c25_isa.specs.Step.{extended, wrap16, plus, minus}
use Rattle.ir_semantics.specs.Outside.{with_scalar}
use Rattle.ir_semantics.specs.AccRows.{Acc, Gone, Low, Whole, with_acc, low_half, acted, acc_becomes, combined, masked, operand_weight, operation_weight}
use Rattle.ir_semantics.specs.AccRun.{Machine, Context, held}
use Rattle.acc_select_proof.proofs.Straights.{Has, FoundHas, found_weight, IsSteady, Straight, steady_stays, nothing_done, behind_that, at_most, operation, saved, Acts}
use Rattle.acc_select_proof.proofs.Loading.{LoadedFrom, found_loaded}
use Rattle.acc_select_proof.proofs.Sides.{some_is, put_here}
use Rattle.acc_select_proof.proofs.Words.{has_low}
use Rattle.acc_select_proof.proofs.Arithmetics.{ext-lt}

-- an accumulator has at most 32 bits
abbrev pub IsWide : Acc → Type 0
IsWide Gone = ⊤
IsWide (Low x) = ⊤
IsWide (Whole z) = z < 4294967296

-- what is known of an accumulator that holds a word
pub record InAcc (h : HighHalf) (x : ℕ) (a : Acc) : Type 0 where
  pub has : Has h x a
  pub wide : IsWide a

-- a word whose high half may be anything is found in an accumulator of 32 bits; that of other words says so itself
abbrev pub IsFound : Found → Machine → Type 0
IsFound (Loaded Any) v = IsWide v.registers.acc
IsFound f v = ⊤

wide_word : (x : ℕ) (a : Acc) → x < 65536 → a ≡ Whole x → IsWide a
wide_word x a lt e = subst IsWide (sym e) (let few : x < 4294967296 = omega (arith, lt) in few)

pub wide_sign : (x : ℕ) (a : Acc) → x < 65536 → a ≡ Whole (extended true x) → IsWide a
wide_sign x a lt e = subst IsWide (sym e) (ext-lt x lt)

constant_wide : (w x : ℕ) (b : Bool) (a : Acc) → x < 65536 → Has (if b then Small else Sign) x a → IsWide a
constant_wide w x true a lt h = wide_word x a lt h.0
constant_wide w x false a lt h = wide_sign x a lt h

pub loaded_wide : (f : Found) (x : ℕ) (v : Machine) (a : Acc) → x < 65536 → IsFound f v → (f ≡ Loaded Any → a ≡ v.registers.acc) → Has (high f) x a → IsWide a
loaded_wide (Fixed (Number w)) x v a lt is same h = constant_wide w x (nat_lt w 32768) a lt h
loaded_wide (Fixed (Address o n)) x v a lt is same h = wide_sign x a lt h
loaded_wide (Held m) x v a lt is same h = wide_sign x a lt h
loaded_wide (Loaded Any) x v a lt is same h = subst IsWide (sym (same refl)) is
loaded_wide (Loaded Zero) x v a lt is same h = wide_word x a lt h
loaded_wide (Loaded Sign) x v a lt is same h = wide_sign x a lt h
loaded_wide (Loaded Small) x v a lt is same h = wide_word x a lt h.0

-- what doesn't change along straight items
pub record Stands (v u : Machine) : Type 0 where
  pub frame : u.frame ≡ v.frame
  pub outside : u.outside ≡ v.outside
  pub pointed : u.registers.pointed ≡ v.registers.pointed
  pub sxm : u.registers.sxm ≡ Some true

-- the accumulator alone has become another one
pub record Becomes (p : Acc → Type 0) (v u : Machine) : Type 0 where
  pub acc : p u.registers.acc
  pub scratch : u.scratch ≡ v.scratch
  pub t : u.registers.t ≡ v.registers.t

-- a combination of accumulators that is there
pub record Turns (r : Option Acc) (p : Acc → Type 0) : Type 0 where
  pub to : Acc
  pub by : r ≡ Some to
  pub has : p to

pub turns_by : (r s : Option Acc) (p : Acc → Type 0) → r ≡ s → Turns s p → Turns r p
turns_by r s p e t = record { to = t.to; by = e ∙ t.by; has = t.has }

pub turns_so : (r : Option Acc) (p q : Acc → Type 0) → ((a : Acc) → p a → q a) → Turns r p → Turns r q
turns_so r p q h t = record { to = t.to; by = t.by; has = h t.to t.has }

pub sums : (a b : Acc) (x y : ℕ) → low_half a ≡ Some x → low_half b ≡ Some y → Turns (combined plus a b) (InAcc Any ((x + y) % 65536))
sums Gone b x y e f = absurd cc
sums (Low w) Gone x y e f = absurd cc
sums (Low w) (Low z) x y e f = record { to = Low (wrap16 (plus w z)); by = refl; has = record { has = ap Some (let i = some_is e in let j = some_is f in omega (arith, i, j)); wide = tt } }
sums (Low w) (Whole z) x y e f = record { to = Low (wrap16 (plus w (wrap16 z))); by = refl; has = record { has = ap Some (let i = some_is e in let j = some_is f in omega (arith, i, j)); wide = tt } }
sums (Whole w) Gone x y e f = absurd cc
sums (Whole w) (Low z) x y e f = record { to = Low (wrap16 (plus (wrap16 w) z)); by = refl; has = record { has = ap Some (let i = some_is e in let j = some_is f in omega (arith, i, j)); wide = tt } }
sums (Whole w) (Whole z) x y e f = record { to = Whole (plus w z); by = refl; has = record { has = ap Some (let i = some_is e in let j = some_is f in omega (arith, i, j)); wide = let l : plus w z < 4294967296 = omega arith in l } }

pub differences : (a b : Acc) (x y : ℕ) → low_half a ≡ Some x → low_half b ≡ Some y → y < 65536 → IsWide b → Turns (combined minus a b) (InAcc Any ((x + (65536 - y)) % 65536))
differences Gone b x y e f lt le = absurd cc
differences (Low w) Gone x y e f lt le = absurd cc
differences (Low w) (Low z) x y e f lt le = record { to = Low (wrap16 (minus w z)); by = refl; has = record { has = ap Some (let i = some_is e in let j = some_is f in omega (arith, i, j, lt)); wide = tt } }
differences (Low w) (Whole z) x y e f lt le = record { to = Low (wrap16 (minus w (wrap16 z))); by = refl; has = record { has = ap Some (let i = some_is e in let j = some_is f in omega (arith, i, j, lt)); wide = tt } }
differences (Whole w) Gone x y e f lt le = absurd cc
differences (Whole w) (Low z) x y e f lt le = record { to = Low (wrap16 (minus (wrap16 w) z)); by = refl; has = record { has = ap Some (let i = some_is e in let j = some_is f in omega (arith, i, j, lt)); wide = tt } }
differences (Whole w) (Whole z) x y e f lt le = record { to = Whole (minus w z); by = refl; has = record { has = ap Some (let i = some_is e in let j = some_is f in omega (arith, i, j, lt, le)); wide = let l : minus w z < 4294967296 = omega arith in l } }

pub masks : (a : Acc) (x y : ℕ) → low_half a ≡ Some x → Turns (masked (low_half a) y) (λ b. b ≡ Whole (bit_and x y))
masks a x y e = record { to = Whole (bit_and x y); by = ap (λ i. masked i y) e; has = refl }

-- an operation on bits that leaves the high half
pub record OnBits (f : ℕ → ℕ → ℕ) : Type 0 where
  pub low : (z x y : ℕ) → y < 65536 → wrap16 z ≡ x → wrap16 (f z y) ≡ f x y
  pub few : (x y : ℕ) → x < 65536 → y < 65536 → f x y < 65536
  pub wide : (x y : ℕ) → x < 4294967296 → y < 4294967296 → f x y < 4294967296

module _ (f : ℕ → ℕ → ℕ) (is : OnBits f) where
  any_bits : (a : Acc) (x y : ℕ) → low_half a ≡ Some x → x < 65536 → y < 65536 → IsWide a → Turns (combined f a (Whole y)) (InAcc Any (f x y))
  any_bits Gone x y e lx ly le = absurd cc
  any_bits (Low w) x y e lx ly le =
      let same : wrap16 y ≡ y = omega (arith, ly) in
      let own : wrap16 w ≡ x = let i = some_is e in omega (arith, i, lx) in
      record { to = Low (wrap16 (f w (wrap16 y))); by = refl; has = record { has = ap (λ i. Some (wrap16 (f w i))) same ∙ ap Some (is.low w x y ly own); wide = tt } }
  any_bits (Whole z) x y e lx ly le = record { to = Whole (f z y); by = refl; has = record { has = ap Some (is.low z x y ly (some_is e)); wide = is.wide z y le (omega (arith, ly)) } }

  exact_bits : (a : Acc) (x y : ℕ) → a ≡ Whole x → x < 65536 → y < 65536 → Turns (combined f a (Whole y)) (InAcc Zero (f x y))
  exact_bits a x y e lx ly = record { to = Whole (f x y); by = ap (λ b. combined f b (Whole y)) e; has = record { has = refl; wide = let l = is.few x y lx ly in omega (arith, l) } }

  pub bits_turn : (h : HighHalf) (a : Acc) (x y : ℕ) → InAcc h x a → x < 65536 → y < 65536 → Turns (combined f a (Whole y)) (InAcc (kept_zero h) (f x y))
  bits_turn Any a x y i lx ly = any_bits a x y i.has lx ly i.wide
  bits_turn Zero a x y i lx ly = exact_bits a x y i.has lx ly
  bits_turn Sign a x y i lx ly = any_bits a x y (has_low Sign x a lx i.has) lx ly i.wide
  bits_turn Small a x y i lx ly = exact_bits a x y i.has.0 lx ly

-- T holds a word, and all else is as it was
pub record InT (x : ℕ) (v u : Machine) : Type 0 where
  pub t : u.registers.t ≡ Some x
  pub scratch : u.scratch ≡ v.scratch
  pub acc : u.registers.acc ≡ v.registers.acc

-- scratch words become others, and the registers are as they were
pub record Saves (n x : ℕ) (v u : Machine) : Type 0 where
  pub scratch : u.scratch ≡ with_scalar n x v.scratch
  pub registers : u.registers ≡ v.registers

module _ (c : Context) where
  pub stands : (xs : ItemList) (v : Machine) (k : ℕ) (p : Machine → Type 0) → (s : Straight c xs v k p) → Stands v s.to
  stands xs v k p s = record { frame = s.frame; outside = s.outside; pointed = s.pointed; sxm = s.sxm }

  -- what stands in a steady operand is there behind straight items
  pub there : (m : AccOperand) (x : ℕ) (v u : Machine) → IsSteady m → Stands v u → held c.at m v ≡ Some x → held c.at m u ≡ Some x
  there m x v u is s e = steady_stays c.at m v u is s.frame s.outside s.pointed ∙ e

  pub stands_both : (v u w : Machine) → Stands v u → Stands u w → Stands v w
  stands_both v u w s t = record { frame = t.frame ∙ s.frame; outside = t.outside ∙ s.outside; pointed = t.pointed ∙ s.pointed; sxm = t.sxm }

  pub in_turn : (xs ys : ItemList) (v : Machine) (k j : ℕ) (p q : Machine → Type 0) → Straight c xs v k p → ((u : Machine) → Stands v u → p u → Straight c ys u j q) → Straight c (xs ⧺ ys) v (k + j) q
  in_turn xs ys v k j p q s f = behind_that c xs ys v k j p q s (f s.to (stands xs v k p s) s.then_so)

  -- what holds in the state behind may also speak of the state before
  pub so_that : (xs : ItemList) (v : Machine) (k j : ℕ) (p q : Machine → Type 0) → k ≤ j → ((u : Machine) → Stands v u → p u → q u) → Straight c xs v k p → Straight c xs v j q
  so_that xs v k j p q le h s = record {
    to = s.to;
    runs = s.runs;
    frame = s.frame;
    given_to = s.given_to;
    given = s.given;
    outside = s.outside;
    pointed = s.pointed;
    sxm = s.sxm;
    work = omega (arith, le, s.work);
    then_so = h s.to (stands xs v k p s) s.then_so;
  }

  -- a row that changes the accumulator alone
  pub row_turns : (o : AccOp) (m : AccOperand) (v : Machine) (x : ℕ) (r : Option Acc) (p : Acc → Type 0) → Acts c o m → held c.at m v ≡ Some x → acted o x v.registers ≡ acc_becomes r v.registers
      → v.registers.sxm ≡ Some true → Turns r p → Straight c (Op o m ▸ end) v (operation_weight o m) (Becomes p v)
  row_turns o m v x r p acts e is s t =
      operation c o m v x (with_acc t.to v.registers) (Becomes p v) acts e (is ∙ ap (λ a. acc_becomes a v.registers) t.by) refl s (record { acc = t.has; scratch = refl; t = refl })

  pub word_in_t : (m : AccOperand) (v : Machine) (x : ℕ) → held c.at m v ≡ Some x → v.registers.sxm ≡ Some true → Straight c (Op row.Lt m ▸ end) v (operand_weight m) (InT x v)
  word_in_t m v x e s = operation c row.Lt m v x (record v.registers { t = Some x }) (InT x v) (λ u. refl) e refl refl s (record { t = refl; scratch = refl; acc = refl })

  pub saves : (n x : ℕ) (v : Machine) → low_half v.registers.acc ≡ Some x → v.registers.sxm ≡ Some true → x < 65536 → Straight c (sacl (scratch n) ▸ end) v 2 (Saves n x v)
  saves n x v e s lt = saved c n v x (Saves n x v) s lt e (record { scratch = refl; registers = refl })

  -- a word that is found comes into the accumulator
  pub brought : (f : Found) (x : ℕ) (v : Machine) → FoundHas c.at f x v → IsFound f v → v.registers.sxm ≡ Some true → x < 65536 → Straight c (load f) v (found_weight f) (Becomes (InAcc (high f) x) v)
  brought f x v e w s lt = by f e w
    where
      known : (f : Found) → IsFound f v → (u : Machine) → (f ≡ Loaded Any → u.registers.acc ≡ v.registers.acc) → LoadedFrom (high f) x v u → Becomes (InAcc (high f) x) v u
      known f w u same h = record { acc = record { has = h.acc; wide = loaded_wide f x v u.registers.acc lt w same h.acc }; scratch = h.scratch; t = h.t }

      by : (f : Found) → FoundHas c.at f x v → IsFound f v → Straight c (load f) v (found_weight f) (Becomes (InAcc (high f) x) v)
      by (Fixed k) e w = at_most c (load (Fixed k)) v 2 2 (LoadedFrom (constant_high k) x v) (Becomes (InAcc (constant_high k) x) v) (omega arith) (λ u h. known (Fixed k) w u (λ q. absurd cc) h) (found_loaded c (Fixed k) x v e s lt)
      by (Held m) e w = at_most c (load (Held m)) v (operand_weight m) (operand_weight m) (LoadedFrom Sign x v) (Becomes (InAcc Sign x) v) (omega arith) (λ u h. known (Held m) w u (λ q. absurd cc) h) (found_loaded c (Held m) x v e s lt)
      by (Loaded h) e w = nothing_done c v 0 (Becomes (InAcc h x) v) s (known (Loaded h) w v (λ q. refl) (record { acc = e; scratch = refl; t = refl }))

  pub brought_low : (f : Found) (x : ℕ) (v u : Machine) → x < 65536 → Becomes (InAcc (high f) x) v u → low_half u.registers.acc ≡ Some x
  brought_low f x v u lt h = has_low (high f) x u.registers.acc lt h.acc.has

  -- and goes to a scratch word
  pub kept : (n : ℕ) (f : Found) (x : ℕ) (v : Machine) → FoundHas c.at f x v → IsFound f v → v.registers.sxm ≡ Some true → x < 65536
      → Straight c (store (scratch n) f) v (found_weight f + 2) (λ u. (u.scratch ≡ with_scalar n x v.scratch) × (u.registers.t ≡ v.registers.t))
  kept n f x v e w s lt =
      in_turn (load f) (sacl (scratch n) ▸ end) v (found_weight f) 2 (Becomes (InAcc (high f) x) v) (λ u. (u.scratch ≡ with_scalar n x v.scratch) × (u.registers.t ≡ v.registers.t))
      (brought f x v e w s lt)
      (λ u st b. so_that (sacl (scratch n) ▸ end) u 2 2 (Saves n x u) (λ y. (y.scratch ≡ with_scalar n x v.scratch) × (y.registers.t ≡ v.registers.t)) (omega arith)
      (λ y sy h. (h.scratch ∙ ap (with_scalar n x) b.scratch, ap (λ r. r.t) h.registers ∙ b.t))
      (saves n x u (brought_low f x v u lt b) st.sxm lt))

  -- items behind a load
  pub on_loaded : (f : Found) (x : ℕ) (v : Machine) (ys : ItemList) (j k : ℕ) (q : Machine → Type 0) → FoundHas c.at f x v → IsFound f v → v.registers.sxm ≡ Some true → x < 65536 → j ≤ k
      → ((u : Machine) → Stands v u → InAcc (high f) x u.registers.acc → Straight c ys u j q) → Straight c (load f ⧺ ys) v (found_weight f + k) q
  on_loaded f x v ys j k q e w s lt le go =
      at_most c (load f ⧺ ys) v (found_weight f + j) (found_weight f + k) q q (omega (arith, le)) (λ u h. h)
      (in_turn (load f) ys v (found_weight f) j (Becomes (InAcc (high f) x) v) q (brought f x v e w s lt) (λ u st b. go u st b.acc))

  -- and behind a store
  pub on_kept : (n : ℕ) (f : Found) (x : ℕ) (v : Machine) (ys : ItemList) (j k : ℕ) (q : Machine → Type 0) → FoundHas c.at f x v → IsFound f v → v.registers.sxm ≡ Some true → x < 65536 → j + 2 ≤ k
      → ((u : Machine) → Stands v u → u.scratch n ≡ Some x → Straight c ys u j q) → Straight c (store (scratch n) f ⧺ ys) v (found_weight f + k) q
  on_kept n f x v ys j k q e w s lt le go =
      at_most c (store (scratch n) f ⧺ ys) v (found_weight f + 2 + j) (found_weight f + k) q q (omega (arith, le)) (λ u h. h)
      (in_turn (store (scratch n) f) ys v (found_weight f + 2) j (λ u. (u.scratch ≡ with_scalar n x v.scratch) × (u.registers.t ≡ v.registers.t)) q (kept n f x v e w s lt) (λ u st b. go u st (ap (λ g. g n) b.0 ∙ put_here v.scratch n x)))
