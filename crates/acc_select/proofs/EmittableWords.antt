-- Emission takes the items that bring words elsewhere, sums and differences with constants, shifts by constants, and calls of routines.
use Rattle.std.proofs.Common.{◌≡◌, refl, sym, subst, ℕ, zero, suc, ◌-◌, Bool, true, false, List, [], ◌∷◌, ◌<◌, ◌≤◌, arith}
use Rattle.std.specs.Prelude.{⊤, ◌==◌, nat_lt, if◌then◌else◌}
use Rattle.std.proofs.lemmas.Bool.{ltb-true, ltb-false}
use Rattle.acc_code.specs.AccTree.{Item, Op, ItemList, end, item, ◌▸◌}
use Rattle.acc_code.specs.Operands.{No_operand, Constant8, Constant16, taken_by, HasRange, IsTaken}
use Rattle.acc_code.specs.declared.operand.AccOperand.{AccOperand}
use Rattle.acc_code.specs.declared.operand.AccOperand.TheVariants as operand
use Rattle.acc_code.specs.declared.operation.AccOp.{AccOp}
use Rattle.acc_code.specs.declared.operation.AccOp.TheVariants as row
use Rattle.acc_operations.specs.Constants.{negative, load_constant}
use Rattle.acc_operations.specs.Sums.{by_constant, plus, minus, repeated, count_of, moved_left, shift_left, moved_right, moved_right_signed, shift_right_signed, shift_right_unsigned}
use Rattle.acc_operations.specs.Words.{Word, behind, next, in_accumulator, scratch, lac, sacl, bare, load, high, loaded, store, load_t, extend, clear_high, clean, load_signed, load_unsigned, load_clean}
use Rattle.acc_operations.specs.declared.constant.Constant.{Constant}
use Rattle.acc_operations.specs.declared.constant.Constant.TheVariants.{Number, Address}
use Rattle.acc_operations.specs.declared.found.Found.{Found}
use Rattle.acc_operations.specs.declared.found.Found.TheVariants.{Fixed, Held, Loaded}
use Rattle.acc_operations.specs.declared.high_half.HighHalf.{HighHalf}
use Rattle.acc_operations.specs.declared.high_half.HighHalf.TheVariants.{Any, Zero, Sign, Small}
use Rattle.acc_select.proofs.EmittableRuns.{Frame, Place, Steps, both, forgotten, nothing_done, Readable, Writable, reading, writing, writing_scratch, counting_on, addressing, alone, either, scratch_read}

pub no_shift : 0 < 16
no_shift = omega arith

pub no_small_shift : 0 < 8
no_small_shift = omega arith

pub lac_step : {F : Frame} {ks js : List ℕ} {m : AccOperand} {xs : ItemList} → Readable F ks m → Steps F ks xs js → Steps F ks (lac m ▸ xs) js
lac_step h rest = reading (row.Lac 0) no_shift refl h rest

pub sacl_step : {F : Frame} {ks js : List ℕ} {m : AccOperand} {xs : ItemList} → Writable F m → Steps F ks xs js → Steps F ks (sacl m ▸ xs) js
sacl_step h rest = writing (row.Sacl 0) no_small_shift refl h rest

pub to_left : {F : Frame} {ks js : List ℕ} {xs : ItemList} → Steps F (0 ∷ ks) xs js → Steps F ks (sacl (scratch 0) ▸ xs) js
to_left rest = writing_scratch (row.Sacl 0) 0 no_small_shift refl (omega arith) refl rest

pub to_right : {F : Frame} {ks js : List ℕ} {xs : ItemList} → Steps F (1 ∷ ks) xs js → Steps F ks (sacl (scratch 1) ▸ xs) js
to_right rest = writing_scratch (row.Sacl 0) 1 no_small_shift refl (omega arith) refl rest

pub left_read : {F : Frame} {ks : List ℕ} → Readable F (0 ∷ ks) (scratch 0)
left_read = scratch_read 0 (omega arith)

-- a constant whose address is in its object
abbrev pub RightConstant : Frame → Constant → Type 0
RightConstant F (Number w) = ⊤
RightConstant F (Address v n) = Place F (operand.Address v n)

pub constant_step : {F : Frame} {ks js : List ℕ} {xs : ItemList} (k : Constant) → RightConstant F k → Steps F ks xs js → Steps F ks (load_constant k ▸ xs) js
constant_step (Address v n) right rest = addressing (row.Lalk 0) v n no_shift refl right rest
constant_step {F} {ks} {js} {xs} (Number w) right rest = pick (nat_lt w 256) refl
  where
    pick : (b : Bool) → nat_lt w 256 ≡ b → Steps F ks (item (if b then Op row.Lack (operand.Number w) else Op (row.Lalk 0) (operand.Number w)) xs) js
    pick true is = counting_on row.Lack w tt (ltb-true w 256 is) rest
    pick false is = counting_on (row.Lalk 0) w no_shift tt rest

-- which scratch words are read where a word is used
abbrev pub operand_needs : AccOperand → List ℕ
operand_needs (operand.Scratch n) = n ∷ []
operand_needs m = []

abbrev pub needs : Found → List ℕ
needs (Fixed k) = []
needs (Held m) = operand_needs m
needs (Loaded h) = []

abbrev pub RightFound : Frame → Found → Type 0
RightFound F (Fixed k) = RightConstant F k
RightFound F (Held m) = Readable F (operand_needs m) m
RightFound F (Loaded h) = ⊤

pub load_step : {F : Frame} (f : Found) → RightFound F f → Steps F (needs f) (load f) []
load_step (Fixed k) right = constant_step k right nothing_done
load_step (Held m) right = forgotten (lac_step right nothing_done)
load_step (Loaded h) right = nothing_done

pub store_step : {F : Frame} {m : AccOperand} (f : Found) → RightFound F f → Writable F m → Steps F (needs f) (store m f) []
store_step f right to = both (load_step f right) (sacl_step to nothing_done)

pub store_left : {F : Frame} (f : Found) → RightFound F f → Steps F (needs f) (store (scratch 0) f) (0 ∷ [])
store_left f right = both (load_step f right) (to_left nothing_done)

pub store_right : {F : Frame} (f : Found) → RightFound F f → Steps F (needs f) (store (scratch 1) f) (1 ∷ [])
store_right f right = both (load_step f right) (to_right nothing_done)

pub lt_step : {F : Frame} {ks js : List ℕ} {m : AccOperand} {xs : ItemList} → Readable F ks m → Steps F ks xs js → Steps F ks (Op row.Lt m ▸ xs) js
lt_step h rest = reading row.Lt tt refl h rest

pub load_t_step : {F : Frame} (f : Found) → RightFound F f → Steps F (needs f) (load_t f) []
load_t_step (Fixed k) right = constant_step k right (to_left (forgotten (lt_step left_read nothing_done)))
load_t_step (Held m) right = forgotten (lt_step right nothing_done)
load_t_step (Loaded h) right = to_left (forgotten (lt_step left_read nothing_done))

pub mask_step : {F : Frame} {ks : List ℕ} → Steps F ks (Op row.Andk (operand.Number 65535) ▸ end) ks
mask_step = counting_on row.Andk 65535 tt tt nothing_done

through_left : {F : Frame} → Steps F [] (sacl (scratch 0) ▸ lac (scratch 0) ▸ end) []
through_left = to_left (forgotten (lac_step left_read nothing_done))

pub extend_step : {F : Frame} (h : HighHalf) → Steps F [] (extend h) []
extend_step Any = through_left
extend_step Zero = through_left
extend_step Sign = nothing_done
extend_step Small = nothing_done

pub clear_step : {F : Frame} {ks : List ℕ} (h : HighHalf) → Steps F ks (clear_high h) ks
clear_step Any = mask_step
clear_step Zero = nothing_done
clear_step Sign = mask_step
clear_step Small = nothing_done

pub clean_step : {F : Frame} {ks : List ℕ} (h : HighHalf) → Steps F ks (clean h) ks
clean_step Any = mask_step
clean_step Zero = nothing_done
clean_step Sign = nothing_done
clean_step Small = nothing_done

pub load_signed_step : {F : Frame} (f : Found) → RightFound F f → Steps F (needs f) (load_signed f) []
load_signed_step f right = both (load_step f right) (extend_step (high f))

pub load_unsigned_step : {F : Frame} (f : Found) → RightFound F f → Steps F (needs f) (load_unsigned f) []
load_unsigned_step f right = both (load_step f right) (clear_step (high f))

pub load_clean_step : {F : Frame} (f : Found) → RightFound F f → Steps F (needs f) (load_clean f) []
load_clean_step f right = both (load_step f right) (clean_step (high f))

-- a word behind some stores: its items, and where it is then
pub record RightWord (F : Frame) (ks : List ℕ) (w : Word) : Type 0 where
  pub items : Steps F ks w.items (needs w.found)
  pub found : RightFound F w.found

pub in_accumulator_right : {F : Frame} {ks js : List ℕ} {xs : ItemList} (h : HighHalf) → Steps F ks xs js → RightWord F ks (in_accumulator xs h)
in_accumulator_right h steps = record { items = forgotten steps; found = tt }

pub behind_right : {F : Frame} {ks js : List ℕ} {xs : ItemList} {w : Word} → Steps F ks xs js → RightWord F js w → RightWord F ks (behind xs w)
behind_right steps h = record { items = both steps h.items; found = h.found }

pub next_right : {F : Frame} {ks : List ℕ} {w : Word} (g : Found → Word) → RightWord F ks w → ((f : Found) → RightFound F f → RightWord F (needs f) (g f))
    → RightWord F ks (next w g)
next_right {F} {ks} {w} g h k = behind_right h.items (k w.found h.found)

pub loaded_right : {F : Frame} {ks : List ℕ} {w : Word} → RightWord F ks w → Steps F ks (loaded w) []
loaded_right {F} {ks} {w} h = both h.items (load_step w.found h.found)

-- the rows of a constant
constant8 : (o : AccOp) (w : ℕ) → taken_by o ≡ Constant8 → w < 256 → IsTaken (taken_by o) (operand.Number w)
constant8 o w takes few = subst (λ t. IsTaken t (operand.Number w)) (sym takes) few

constant16 : (o : AccOp) (w : ℕ) → taken_by o ≡ Constant16 → IsTaken (taken_by o) (operand.Number w)
constant16 o w takes = subst (λ t. IsTaken t (operand.Number w)) (sym takes) tt

by_constant_step : {F : Frame} {ks : List ℕ} (small opposite any : AccOp) → HasRange small → HasRange opposite → HasRange any
    → taken_by small ≡ Constant8 → taken_by opposite ≡ Constant8 → taken_by any ≡ Constant16 → (k : Constant) → RightConstant F k
    → Steps F ks (by_constant small opposite any k) ks
by_constant_step small opposite any range range' range'' takes takes' takes'' (Address v n) right = addressing any v n range'' takes'' right nothing_done
by_constant_step small opposite any range range' range'' takes takes' takes'' (Number w) right =
    either (w == 0) (λ is. nothing_done) (λ is. either (nat_lt w 256) (λ few. counting_on small w range (constant8 small w takes (ltb-true w 256 few)) nothing_done)
    (λ many. either (nat_lt (negative w) 256)
    (λ few. counting_on opposite (negative w) range' (constant8 opposite (negative w) takes' (ltb-true (negative w) 256 few)) nothing_done)
    (λ many. counting_on any w range'' (constant16 any w takes'') nothing_done)))

pub plus_step : {F : Frame} {ks : List ℕ} (k : Constant) → RightConstant F k → Steps F ks (plus k) ks
plus_step k right = by_constant_step row.Addk row.Subk (row.Adlk 0) tt tt no_shift refl refl refl k right

pub minus_step : {F : Frame} {ks : List ℕ} (k : Constant) → RightConstant F k → Steps F ks (minus k) ks
minus_step k right = by_constant_step row.Subk row.Addk (row.Sblk 0) tt tt no_shift refl refl refl k right

repeated_step : {F : Frame} {ks : List ℕ} (n : ℕ) (o : AccOp) → HasRange o → taken_by o ≡ No_operand → Steps F ks (repeated n (bare o)) ks
repeated_step zero o range takes = nothing_done
repeated_step (suc n) o range takes = alone o range takes (repeated_step n o range takes)

pub count_below : (k : Constant) → count_of k < 16
count_below (Number w) = omega arith
count_below (Address v n) = omega arith

-- shifts
moved_left_step : {F : Frame} (f : Found) (n : ℕ) → RightFound F f → n < 16 → Steps F (needs f) (moved_left f n) []
moved_left_step f n right few =
    either (nat_lt n 4) (λ is. both (load_step f right) (repeated_step n row.Sfl tt refl))
    (λ is. both (store_left f right) (forgotten (reading (row.Lac n) few refl left_read nothing_done)))

pub shift_left_step : {F : Frame} (f : Found) (n : ℕ) → RightFound F f → n < 16 → Steps F (needs f) (shift_left f n) []
shift_left_step (Fixed k) n right few = moved_left_step (Fixed k) n right few
shift_left_step (Held m) n right few = forgotten (reading (row.Lac n) few refl right nothing_done)
shift_left_step (Loaded h) n right few = moved_left_step (Loaded h) n right few

moved_right_step : {F : Frame} (reload : Item) (n : ℕ) → Steps F (0 ∷ []) (reload ▸ end) [] → n < 16 → Steps F [] (moved_right reload n) []
moved_right_step reload n again few =
    either (nat_lt n 6) (λ is. repeated_step n row.Sfr tt refl) (λ is. either (nat_lt n 9)
    (λ less. both (repeated_step (9 - n) row.Sfl tt refl) (writing_scratch (row.Sach 7) 0 (omega arith) refl (omega arith) refl again))
    (λ more. let nine : 9 ≤ n = ltb-false n 9 more in writing_scratch (row.Sach (16 - n)) 0 (omega arith) refl (omega arith) refl again))

moved_right_signed_step : {F : Frame} (f : Found) (n : ℕ) → RightFound F f → n < 16 → Steps F (needs f) (moved_right_signed f n) []
moved_right_signed_step f n right few =
    both (load_signed_step f right) (moved_right_step (lac (scratch 0)) n (forgotten (lac_step left_read nothing_done)) few)

pub shift_right_signed_step : {F : Frame} (f : Found) (n : ℕ) → RightFound F f → n < 16 → Steps F (needs f) (shift_right_signed f n) []
shift_right_signed_step (Fixed k) n right few = moved_right_signed_step (Fixed k) n right few
shift_right_signed_step (Held m) n right few =
    either (nat_lt n 3) (λ is. moved_right_signed_step (Held m) n right few)
    (λ is. let three : 3 ≤ n = ltb-false n 3 is in
    reading (row.Lac (16 - n)) (omega arith) refl right (writing_scratch (row.Sach 0) 0 no_small_shift refl (omega arith) refl (forgotten (lac_step left_read nothing_done))))
shift_right_signed_step (Loaded h) n right few = moved_right_signed_step (Loaded h) n right few

pub shift_right_unsigned_step : {F : Frame} (f : Found) (n : ℕ) → RightFound F f → n < 16 → Steps F (needs f) (shift_right_unsigned f n) []
shift_right_unsigned_step f n right few =
    both (load_unsigned_step f right) (moved_right_step (Op row.Zals (scratch 0)) n (forgotten (reading row.Zals tt refl left_read nothing_done)) few)
