-- The accesses of items that bring words from one place to another.
use Rattle.std.proofs.Common.{◌≡◌, refl, ap, ◌∙◌, ℕ, zero, suc, Bool, true, false}
use Rattle.std.specs.Prelude.{nat_lt, ◌==◌, if◌then◌else◌}
use Rattle.acc_code.specs.AccSequence.{Rest, operand_accesses, item_accesses, accesses}
use Rattle.acc_code.specs.AccTree.{Item, Op, ItemList, end, item, ◌▸◌, ◌⧺◌}
use Rattle.acc_code.specs.declared.operand.AccOperand.{AccOperand}
use Rattle.acc_code.specs.declared.operand.AccOperand.TheVariants as operand
use Rattle.acc_code.specs.declared.operation.AccOp.{AccOp}
use Rattle.acc_code.specs.declared.operation.AccOp.TheVariants as row
use Rattle.acc_select.specs.acc_operations.Constants.{load_constant, negative}
use Rattle.acc_select.specs.acc_operations.Sums.{by_constant, plus, minus, repeated}
use Rattle.acc_select.specs.acc_operations.Words.{Word, load, high, loaded, store, load_t, extend, clear_high, clean, load_signed, load_unsigned, load_clean}
use Rattle.acc_select.specs.acc_operations.declared.constant.Constant.{Constant}
use Rattle.acc_select.specs.acc_operations.declared.constant.Constant.TheVariants.{Number, Address}
use Rattle.acc_select.specs.acc_operations.declared.found.Found.{Found}
use Rattle.acc_select.specs.acc_operations.declared.found.Found.TheVariants.{Fixed, Held, Loaded}
use Rattle.acc_select.specs.acc_operations.declared.high_half.HighHalf.{HighHalf}
use Rattle.acc_select.specs.acc_operations.declared.high_half.HighHalf.TheVariants.{Any, Zero, Sign, Small}
use Rattle.acc_select_proof.specs.Listed.{Marks}

-- items that have these accesses
abbrev pub Has : ItemList → Marks → Type 0
Has xs f = (κ : Rest) → accesses xs κ ≡ f κ

pub accesses_of : (xs ys : ItemList) (κ : Rest) → accesses (xs ⧺ ys) κ ≡ accesses xs (accesses ys κ)
accesses_of end ys κ = refl
accesses_of (item x xs) ys κ = ap (item_accesses x) (accesses_of xs ys κ)

-- items, and others behind them
pub in_turn : (xs ys : ItemList) (f g : Marks) → Has xs f → Has ys g → Has (xs ⧺ ys) (λ κ. f (g κ))
in_turn xs ys f g h k κ = accesses_of xs ys κ ∙ h (accesses ys κ) ∙ ap f (k κ)

-- one of two lists that have the same accesses
pub one_of : (b : Bool) (xs ys : ItemList) (f : Marks) → Has xs f → Has ys f → Has (if b then xs else ys) f
one_of true xs ys f h k = h
one_of false xs ys f h k = k

abbrev pub nothing : Marks
nothing κ = κ

one_item : (b : Bool) (x y : Item) (κ : Rest) → item_accesses x κ ≡ κ → item_accesses y κ ≡ κ → item_accesses (if b then x else y) κ ≡ κ
one_item true x y κ h k = h
one_item false x y κ h k = k

pub load_constant_has : (k : Constant) (κ : Rest) → item_accesses (load_constant k) κ ≡ κ
load_constant_has (Number w) κ = one_item (nat_lt w 256) (Op row.Lack (operand.Number w)) (Op (row.Lalk 0) (operand.Number w)) κ refl refl
load_constant_has (Address v n) κ = refl

-- what finding a word accesses
abbrev pub found_accesses : Found → Marks
found_accesses (Fixed k) κ = κ
found_accesses (Held m) κ = operand_accesses m κ
found_accesses (Loaded h) κ = κ

pub load_has : (f : Found) → Has (load f) (found_accesses f)
load_has (Fixed k) κ = load_constant_has k κ
load_has (Held m) κ = refl
load_has (Loaded h) κ = refl

pub store_has : (n : AccOperand) (f : Found) → Has (store n f) (λ κ. found_accesses f (operand_accesses n κ))
store_has n f = in_turn (load f) (Op (row.Sacl 0) n ▸ end) (found_accesses f) (operand_accesses n) (load_has f) (λ κ. refl)

pub load_t_has : (f : Found) → Has (load_t f) (found_accesses f)
load_t_has (Fixed k) κ = load_constant_has k κ
load_t_has (Held m) κ = refl
load_t_has (Loaded h) κ = refl

pub extend_has : (h : HighHalf) → Has (extend h) nothing
extend_has Any κ = refl
extend_has Zero κ = refl
extend_has Sign κ = refl
extend_has Small κ = refl

pub clear_high_has : (h : HighHalf) → Has (clear_high h) nothing
clear_high_has Any κ = refl
clear_high_has Zero κ = refl
clear_high_has Sign κ = refl
clear_high_has Small κ = refl

clean_has : (h : HighHalf) → Has (clean h) nothing
clean_has Any κ = refl
clean_has Zero κ = refl
clean_has Sign κ = refl
clean_has Small κ = refl

pub load_signed_has : (f : Found) → Has (load_signed f) (found_accesses f)
load_signed_has f = in_turn (load f) (extend (high f)) (found_accesses f) nothing (load_has f) (extend_has (high f))

pub load_unsigned_has : (f : Found) → Has (load_unsigned f) (found_accesses f)
load_unsigned_has f = in_turn (load f) (clear_high (high f)) (found_accesses f) nothing (load_has f) (clear_high_has (high f))

pub load_clean_has : (f : Found) → Has (load_clean f) (found_accesses f)
load_clean_has f = in_turn (load f) (clean (high f)) (found_accesses f) nothing (load_has f) (clean_has (high f))

by_constant_has : (small opposite any : AccOp) (k : Constant) → Has (by_constant small opposite any k) nothing
by_constant_has small opposite any (Address v n) κ = refl
by_constant_has small opposite any (Number w) κ =
    let last = one_of (nat_lt (negative w) 256) (Op opposite (operand.Number (negative w)) ▸ end) (Op any (operand.Number w) ▸ end) nothing (λ κ. refl) (λ κ. refl) in
    let small_one = one_of (nat_lt w 256) (Op small (operand.Number w) ▸ end) (if nat_lt (negative w) 256 then Op opposite (operand.Number (negative w)) ▸ end else Op any (operand.Number w) ▸ end) nothing (λ κ. refl) last in
    one_of (w == 0) end (if nat_lt w 256 then Op small (operand.Number w) ▸ end else if nat_lt (negative w) 256 then Op opposite (operand.Number (negative w)) ▸ end else Op any (operand.Number w) ▸ end) nothing (λ κ. refl) small_one κ

pub plus_has : (k : Constant) → Has (plus k) nothing
plus_has k = by_constant_has row.Addk row.Subk (row.Adlk 0) k

pub minus_has : (k : Constant) → Has (minus k) nothing
minus_has k = by_constant_has row.Subk row.Addk (row.Sblk 0) k

pub repeated_has : (n : ℕ) (o : AccOp) → Has (repeated n (Op o operand.Nothing)) nothing
repeated_has zero o κ = refl
repeated_has (suc n) o κ = repeated_has n o κ

-- a word: the items, and what finding it accesses
abbrev pub WordHas : Word → Marks → Type 0
WordHas w f = (κ : Rest) → accesses w.items (found_accesses w.found κ) ≡ f κ

pub loaded_has : (w : Word) (f : Marks) → WordHas w f → Has (loaded w) f
loaded_has w f h κ = accesses_of w.items (load w.found) κ ∙ ap (accesses w.items) (load_has w.found κ) ∙ h κ
