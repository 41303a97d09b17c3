-- What items weigh that bring words from one place to another.
use Rattle.std.proofs.Common.{◌≡◌, ℕ, zero, suc, ◌+◌, ◌≤◌, Bool, true, false, refl, arith}
use Rattle.std.specs.Prelude.{nat_lt, ◌==◌, if◌then◌else◌}
use Rattle.acc_code.specs.AccTree.{Op, ItemList, end, item, ◌▸◌, ◌⧺◌}
use Rattle.acc_code.specs.declared.operand.AccOperand.{AccOperand}
use Rattle.acc_code.specs.declared.operand.AccOperand.TheVariants as operand
use Rattle.acc_code.specs.declared.operation.AccOp.{AccOp}
use Rattle.acc_code.specs.declared.operation.AccOp.TheVariants as row
use Rattle.acc_select.specs.acc_operations.Constants.{load_constant, negative}
use Rattle.acc_select.specs.acc_operations.Sums.{by_constant, plus, minus, repeated}
use Rattle.acc_select.specs.acc_operations.Words.{Word, load, high, loaded, store, load_t, extend, clear_high, clean, load_signed, load_unsigned, load_clean}
use Rattle.acc_select.specs.acc_operations.declared.constant.Constant.{Constant}
use Rattle.acc_select.specs.acc_operations.declared.constant.Constant.TheVariants.{Number, Address}
use Rattle.acc_select.specs.acc_operations.declared.found.Found.{Found}
use Rattle.acc_select.specs.acc_operations.declared.found.Found.TheVariants.{Fixed, Held, Loaded}
use Rattle.acc_select.specs.acc_operations.declared.high_half.HighHalf.{HighHalf}
use Rattle.acc_select.specs.acc_operations.declared.high_half.HighHalf.TheVariants.{Any, Zero, Sign, Small}
use Rattle.ir_semantics.specs.AccRows.{operand_weight, operation_weight}
use Rattle.ir_semantics.specs.Weights.{item_weight, items_weight}

-- items of at most this weight
abbrev pub Weighs : ItemList → ℕ → Type 0
Weighs xs n = items_weight xs ≤ n

pub weight_of : (xs ys : ItemList) → items_weight (xs ⧺ ys) ≡ items_weight xs + items_weight ys
weight_of end ys = omega arith
weight_of (item x xs) ys = let h = weight_of xs ys in omega (arith, h)

-- one list behind another
pub in_turn : (xs ys : ItemList) (n m : ℕ) → Weighs xs n → Weighs ys m → Weighs (xs ⧺ ys) (n + m)
in_turn xs ys n m h k = let e = weight_of xs ys in omega (arith, e, h, k)

-- one of two lists
pub one_of : (b : Bool) (xs ys : ItemList) (n : ℕ) → Weighs xs n → Weighs ys n → Weighs (if b then xs else ys) n
one_of true xs ys n h k = h
one_of false xs ys n h k = k

constant_by : (b : Bool) (w : ℕ) → item_weight (if b then Op row.Lack (operand.Number w) else Op (row.Lalk 0) (operand.Number w)) ≡ 2
constant_by true w = refl
constant_by false w = refl

pub load_constant_weighs : (k : Constant) → item_weight (load_constant k) ≡ 2
load_constant_weighs (Number w) = constant_by (nat_lt w 256) w
load_constant_weighs (Address v n) = refl

-- what it weighs to load what is found
abbrev pub found_weight : Found → ℕ
found_weight (Fixed k) = 2
found_weight (Held m) = operand_weight m
found_weight (Loaded h) = 0

pub load_weighs : (f : Found) → Weighs (load f) (found_weight f)
load_weighs (Fixed k) = let e = load_constant_weighs k in omega (arith, e)
load_weighs (Held m) = omega arith
load_weighs (Loaded h) = omega arith

pub store_weighs : (n : AccOperand) (f : Found) → Weighs (store n f) (found_weight f + operand_weight n)
store_weighs n f = let h = load_weighs f in let e = weight_of (load f) (Op (row.Sacl 0) n ▸ end) in omega (arith, h, e)

pub load_t_weighs : (f : Found) → Weighs (load_t f) (found_weight f + 4)
load_t_weighs (Fixed k) = let e = load_constant_weighs k in omega (arith, e)
load_t_weighs (Held m) = omega arith
load_t_weighs (Loaded h) = omega arith

pub extend_weighs : (h : HighHalf) → Weighs (extend h) 4
extend_weighs Any = omega arith
extend_weighs Zero = omega arith
extend_weighs Sign = omega arith
extend_weighs Small = omega arith

pub clear_high_weighs : (h : HighHalf) → Weighs (clear_high h) 2
clear_high_weighs Any = omega arith
clear_high_weighs Zero = omega arith
clear_high_weighs Sign = omega arith
clear_high_weighs Small = omega arith

clean_weighs : (h : HighHalf) → Weighs (clean h) 2
clean_weighs Any = omega arith
clean_weighs Zero = omega arith
clean_weighs Sign = omega arith
clean_weighs Small = omega arith

pub load_signed_weighs : (f : Found) → Weighs (load_signed f) (found_weight f + 4)
load_signed_weighs f = in_turn (load f) (extend (high f)) (found_weight f) 4 (load_weighs f) (extend_weighs (high f))

pub load_unsigned_weighs : (f : Found) → Weighs (load_unsigned f) (found_weight f + 2)
load_unsigned_weighs f = in_turn (load f) (clear_high (high f)) (found_weight f) 2 (load_weighs f) (clear_high_weighs (high f))

pub load_clean_weighs : (f : Found) → Weighs (load_clean f) (found_weight f + 2)
load_clean_weighs f = in_turn (load f) (clean (high f)) (found_weight f) 2 (load_weighs f) (clean_weighs (high f))

by_constant_weighs : (small opposite any : AccOp) (k : Constant) → ((m : AccOperand) → operation_weight small m ≡ operand_weight m) → ((m : AccOperand) → operation_weight opposite m ≡ operand_weight m) → ((m : AccOperand) → operation_weight any m ≡ operand_weight m)
    → Weighs (by_constant small opposite any k) 2
by_constant_weighs small opposite any (Address v n) a b c = let e = c (operand.Address v n) in omega (arith, e)
by_constant_weighs small opposite any (Number w) a b c =
    let ea = a (operand.Number w) in
    let eb = b (operand.Number (negative w)) in
    let ec = c (operand.Number w) in
    one_of (w == 0) end (if nat_lt w 256 then Op small (operand.Number w) ▸ end else if nat_lt (negative w) 256 then Op opposite (operand.Number (negative w)) ▸ end else Op any (operand.Number w) ▸ end) 2 (omega arith)
    (one_of (nat_lt w 256) (Op small (operand.Number w) ▸ end) (if nat_lt (negative w) 256 then Op opposite (operand.Number (negative w)) ▸ end else Op any (operand.Number w) ▸ end) 2 (omega (arith, ea))
    (one_of (nat_lt (negative w) 256) (Op opposite (operand.Number (negative w)) ▸ end) (Op any (operand.Number w) ▸ end) 2 (omega (arith, eb)) (omega (arith, ec))))

pub plus_weighs : (k : Constant) → Weighs (plus k) 2
plus_weighs k = by_constant_weighs row.Addk row.Subk (row.Adlk 0) k (λ m. refl) (λ m. refl) (λ m. refl)

pub minus_weighs : (k : Constant) → Weighs (minus k) 2
minus_weighs k = by_constant_weighs row.Subk row.Addk (row.Sblk 0) k (λ m. refl) (λ m. refl) (λ m. refl)

pub repeated_weighs : (n : ℕ) (o : AccOp) → operation_weight o operand.Nothing ≡ 1 → items_weight (repeated n (Op o operand.Nothing)) ≡ n
repeated_weighs zero o e = refl
repeated_weighs (suc n) o e = let h = repeated_weighs n o e in omega (arith, h, e)

-- a word: the items, and what it weighs to load what is found
abbrev pub WordWeighs : Word → ℕ → Type 0
WordWeighs w n = items_weight w.items + found_weight w.found ≤ n

pub loaded_weighs : (w : Word) (n : ℕ) → WordWeighs w n → Weighs (loaded w) n
loaded_weighs w n h = let e = weight_of w.items (load w.found) in let l = load_weighs w.found in omega (arith, e, l, h)
