-- Emission takes the items of operations on two words, and of comparisons.
use Rattle.std.proofs.Common.{◌≡◌, refl, sym, subst, ℕ, ◌/◌, ◌%◌, Bool, true, false, List, [], ◌∷◌, ◌<◌, arith}
use Rattle.std.specs.Prelude.{◌==◌, nat_lt, if◌then◌else◌}
use Rattle.std.proofs.lemmas.Bool.{ltb-true}
use Rattle.acc_code.specs.AccTree.{Op, ItemList, end, ◌▸◌}
use Rattle.acc_code.specs.Operands.{Read_word, Constant16, taken_by, HasRange, IsTaken, has_13_bits}
use Rattle.acc_code.specs.declared.operand.AccOperand.{AccOperand}
use Rattle.acc_code.specs.declared.operand.AccOperand.TheVariants as operand
use Rattle.acc_code.specs.declared.operand.HelperName.{HelperName}
use Rattle.acc_code.specs.declared.operation.AccOp.TheVariants as row
use Rattle.acc_code.specs.Emittable.{Stored, nothing_stored}
use Rattle.acc_operations.specs.Arithmetic.{row_on_place, row_on_constant, high_with_place, high_with_constant, on_bits_of_place, on_bits_of_constant, times_place, times, multiply, product_with_place, helped, helped_behind, with_place, shift_helper, division_helper, remainder_helper, shifted_right, with_constant, of_constant, of_place}
use Rattle.acc_operations.specs.Comparisons.{exactly_less, exactly_less_number, exactly_less_constant, exact_with, less_unsigned, items_with_place, items_with_constant, items_of_place}
use Rattle.acc_operations.specs.Constants.{constant_operand, load_constant}
use Rattle.acc_select.proofs.RoutineLemmas.{by_routine}
use Rattle.acc_operations.specs.Sums.{count_of, by_helper}
use Rattle.acc_operations.specs.Words.{scratch, lac, sacl, bare, high}
use Rattle.acc_operations.specs.declared.comparison.Order.{Order}
use Rattle.acc_operations.specs.declared.comparison.Order.TheVariants.{Exact, Signed, Unsigned}
use Rattle.acc_operations.specs.declared.constant.Constant.{Constant}
use Rattle.acc_operations.specs.declared.constant.Constant.TheVariants.{Number, Address}
use Rattle.acc_operations.specs.declared.found.Found.{Found}
use Rattle.acc_operations.specs.declared.found.Found.TheVariants.{Fixed, Held, Loaded}
use Rattle.acc_operations.specs.declared.high_half.HighHalf.{HighHalf}
use Rattle.acc_operations.specs.declared.high_half.HighHalf.TheVariants.{Any, Zero, Sign, Small}
use Rattle.acc_operations.specs.declared.operation.Arithmetic.{Arithmetic}
use Rattle.acc_operations.specs.declared.operation.Arithmetic.TheVariants.{Sum, Difference, Bits, Product, LeftShift, RightShift, Quotient, Remainder}
use Rattle.acc_operations.specs.declared.operation.Bitwise.{Bitwise}
use Rattle.acc_operations.specs.declared.operation.Bitwise.TheVariants as bits
use Rattle.acc_operations.specs.declared.operation.Operation.TheVariants as operation
use Rattle.acc_select.proofs.EmittableRuns.{Frame, Has, Steps, both, forgotten, nothing_done, Readable, anyhow, reading, counting_on, addressing, alone, either}
use Rattle.acc_select.proofs.EmittableWords.{no_shift, lac_step, to_left, to_right, left_read, RightConstant, constant_step, needs, RightFound, load_step, store_left, store_right, lt_step, load_t_step, mask_step, load_signed_step, load_unsigned_step, load_clean_step, RightWord, in_accumulator_right, plus_step, minus_step, count_below, shift_left_step, shift_right_signed_step, shift_right_unsigned_step}

-- operations on bits
place_range : (o : Bitwise) → HasRange (row_on_place o)
place_range bits.And = tt
place_range bits.Or = tt
place_range bits.Xor = tt

place_taken : (o : Bitwise) → taken_by (row_on_place o) ≡ Read_word
place_taken bits.And = refl
place_taken bits.Or = refl
place_taken bits.Xor = refl

constant_range : (o : Bitwise) → HasRange (row_on_constant o)
constant_range bits.And = tt
constant_range bits.Or = tt
constant_range bits.Xor = tt

constant_taken : (o : Bitwise) → taken_by (row_on_constant o) ≡ Constant16
constant_taken bits.And = refl
constant_taken bits.Or = refl
constant_taken bits.Xor = refl

bits_of_constant_step : {F : Frame} (o : Bitwise) (k : Constant) → RightConstant F k → Steps F [] (Op (row_on_constant o) (constant_operand k) ▸ end) []
bits_of_constant_step o (Number w) right =
    counting_on (row_on_constant o) w (constant_range o) (subst (λ t. IsTaken t (operand.Number w)) (sym (constant_taken o)) right) nothing_done
bits_of_constant_step o (Address v n) right = addressing (row_on_constant o) v n (constant_range o) (constant_taken o) right nothing_done

bits_with_place : {F : Frame} {m : AccOperand} (o : Bitwise) (f : Found) → RightFound F f → Readable F [] m → RightWord F (needs f) (on_bits_of_place o f m)
bits_with_place o f right place =
    in_accumulator_right (high_with_place o (high f)) (both (load_step f right) (reading (row_on_place o) (place_range o) (place_taken o) place nothing_done))

bits_with_constant : {F : Frame} (o : Bitwise) (f : Found) (k : Constant) → RightFound F f → RightConstant F k → RightWord F (needs f) (on_bits_of_constant o f k)
bits_with_constant o f k right constant = in_accumulator_right (high_with_constant o k (high f)) (both (load_step f right) (bits_of_constant_step o k constant))

-- products
times_place_step : {F : Frame} {ks : List ℕ} {m : AccOperand} → Readable F ks m → Steps F ks (times_place m) []
times_place_step place = forgotten (reading row.Mpy tt refl place (alone row.Pac tt refl nothing_done))

times_step : {F : Frame} (k : Constant) → RightConstant F k → Steps F [] (times k) []
times_step (Address v n) right = constant_step (Address v n) right (to_left (times_place_step left_read))
times_step (Number w) right =
    either (has_13_bits w) (λ is. counting_on row.Mpyk w tt is (alone row.Pac tt refl nothing_done))
    (λ is. constant_step (Number w) right (to_left (times_place_step left_read)))

multiply_step : {F : Frame} {m : AccOperand} (f : Found) → RightFound F f → Readable F [] m → Steps F (needs f) (multiply f m) []
multiply_step f right place = both (load_t_step f right) (times_place_step place)

product_step : {F : Frame} {m : AccOperand} (f : Found) → RightFound F f → Readable F [] m → Steps F (needs f) (product_with_place f m) []
product_step (Fixed (Number w)) right place =
    either (has_13_bits w) (λ is. lt_step place (times_step (Number w) right)) (λ is. multiply_step (Fixed (Number w)) right place)
product_step (Fixed (Address v n)) right place = multiply_step (Fixed (Address v n)) right place
product_step (Held m) right place = multiply_step (Held m) right place
product_step (Loaded h) right place = multiply_step (Loaded h) right place

-- routines
helper_step : {F : Frame} {ks : List ℕ} (name : HelperName) → F.helps ≡ true → ((w : Stored) → Has ks w → (w 0 ≡ true) × (w 1 ≡ true)) → Steps F ks (by_helper name) []
helper_step {F} name helps stored = record { at = λ l w p. (helps, (stored w p).0, (stored w p).1, (ends F).at l nothing_stored tt) }
  where
    ends : (G : Frame) → Steps G [] (bare row.Ssxm ▸ end) []
    ends G = alone row.Ssxm tt refl nothing_done

right_helped : {F : Frame} (name : HelperName) → F.helps ≡ true → Steps F (0 ∷ []) (sacl (scratch 1) ▸ by_helper name) []
right_helped name helps = to_right (helper_step name helps (λ w p. (p.1.0, p.0)))

left_helped : {F : Frame} (name : HelperName) → F.helps ≡ true → Steps F (1 ∷ []) (sacl (scratch 0) ▸ by_helper name) []
left_helped name helps = to_left (helper_step name helps (λ w p. (p.0, p.1.0)))

helped_place : {F : Frame} {m : AccOperand} (name : HelperName) (f : Found) → F.helps ≡ true → RightFound F f → Readable F [] m
    → RightWord F (needs f) (helped name f (lac m))
helped_place name f helps right place = in_accumulator_right Any (both (store_left f right) (lac_step (anyhow place) (right_helped name helps)))

helped_constant : {F : Frame} (name : HelperName) (f : Found) (k : Constant) → F.helps ≡ true → RightFound F f → RightConstant F k
    → RightWord F (needs f) (helped name f (load_constant k))
helped_constant name f k helps right constant = in_accumulator_right Any (both (store_left f right) (constant_step k constant (right_helped name helps)))

behind_place : {F : Frame} {m : AccOperand} (name : HelperName) (f : Found) → F.helps ≡ true → RightFound F f → Readable F [] m
    → RightWord F (needs f) (helped_behind name f (lac m))
behind_place name f helps right place = in_accumulator_right Any (both (store_right f right) (lac_step (anyhow place) (left_helped name helps)))

behind_constant : {F : Frame} (name : HelperName) (f : Found) (k : Constant) → F.helps ≡ true → RightFound F f → RightConstant F k
    → RightWord F (needs f) (helped_behind name f (load_constant k))
behind_constant name f k helps right constant = in_accumulator_right Any (both (store_right f right) (constant_step k constant (left_helped name helps)))

-- a routine may be called where the operation is done by one
abbrev pub MayHelp : Frame → Arithmetic → Bool → Type 0
MayHelp F o constant = by_routine (operation.Word o) constant ≡ true → F.helps ≡ true

left_by_word : {F : Frame} {m : AccOperand} → Readable F [] m → Steps F (0 ∷ []) (Op row.Lt m ▸ Op row.Lact (scratch 0) ▸ end) []
left_by_word place = lt_step (anyhow place) (forgotten (reading row.Lact tt refl left_read nothing_done))

pub with_place_right : {F : Frame} {m : AccOperand} (o : Arithmetic) (f : Found) → MayHelp F o false → RightFound F f → Readable F [] m
    → RightWord F (needs f) (with_place o f m)
with_place_right Sum f helps right place = in_accumulator_right Any (both (load_step f right) (reading (row.Add 0) no_shift refl place nothing_done))
with_place_right Difference f helps right place = in_accumulator_right Any (both (load_step f right) (reading (row.Sub 0) no_shift refl place nothing_done))
with_place_right (Bits o) f helps right place = bits_with_place o f right place
with_place_right Product f helps right place = in_accumulator_right Any (product_step f right place)
with_place_right LeftShift f helps right place = in_accumulator_right Any (both (store_left f right) (left_by_word place))
with_place_right (RightShift signed) f helps right place = helped_place (shift_helper signed) f (helps refl) right place
with_place_right (Quotient signed) f helps right place = helped_place (division_helper signed) f (helps refl) right place
with_place_right (Remainder signed) f helps right place = helped_place (remainder_helper signed) f (helps refl) right place

shifted_right_right : {F : Frame} (signed : Bool) (f : Found) (n : ℕ) → RightFound F f → n < 16 → RightWord F (needs f) (shifted_right signed f n)
shifted_right_right true f n right few = in_accumulator_right Sign (shift_right_signed_step f n right few)
shifted_right_right false f n right few = in_accumulator_right (if n == 0 then Zero else Small) (shift_right_unsigned_step f n right few)

pub with_constant_right : {F : Frame} (o : Arithmetic) (f : Found) (k : Constant) → MayHelp F o true → RightFound F f → RightConstant F k
    → RightWord F (needs f) (with_constant o f k)
with_constant_right Sum f k helps right constant = in_accumulator_right Any (both (load_step f right) (plus_step k constant))
with_constant_right Difference f k helps right constant = in_accumulator_right Any (both (load_step f right) (minus_step k constant))
with_constant_right (Bits o) f k helps right constant = bits_with_constant o f k right constant
with_constant_right Product f k helps right constant = in_accumulator_right Any (both (load_t_step f right) (times_step k constant))
with_constant_right LeftShift f k helps right constant = in_accumulator_right Any (shift_left_step f (count_of k) right (count_below k))
with_constant_right (RightShift signed) f k helps right constant = shifted_right_right signed f (count_of k) right (count_below k)
with_constant_right (Quotient signed) f k helps right constant = helped_constant (division_helper signed) f k (helps refl) right constant
with_constant_right (Remainder signed) f k helps right constant = helped_constant (remainder_helper signed) f k (helps refl) right constant

left_of_constant : {F : Frame} (k : Constant) → RightConstant F k
    → Steps F (0 ∷ []) (Op row.Lt (scratch 0) ▸ load_constant k ▸ sacl (scratch 0) ▸ Op row.Lact (scratch 0) ▸ end) []
left_of_constant k constant = lt_step left_read (constant_step k constant (to_left (forgotten (reading row.Lact tt refl left_read nothing_done))))

pub of_constant_right : {F : Frame} (o : Arithmetic) (k : Constant) (f : Found) → MayHelp F o false → RightConstant F k → RightFound F f
    → RightWord F (needs f) (of_constant o k f)
of_constant_right Sum k f helps constant right = in_accumulator_right Any (both (load_step f right) (plus_step k constant))
of_constant_right Difference k f helps constant right = in_accumulator_right Any (both (load_step f right) (alone row.Neg tt refl (plus_step k constant)))
of_constant_right (Bits o) k f helps constant right = bits_with_constant o f k right constant
of_constant_right Product k f helps constant right = in_accumulator_right Any (both (load_t_step f right) (times_step k constant))
of_constant_right LeftShift k f helps constant right = in_accumulator_right Any (both (store_left f right) (left_of_constant k constant))
of_constant_right (RightShift signed) k f helps constant right = behind_constant (shift_helper signed) f k (helps refl) right constant
of_constant_right (Quotient signed) k f helps constant right = behind_constant (division_helper signed) f k (helps refl) right constant
of_constant_right (Remainder signed) k f helps constant right = behind_constant (remainder_helper signed) f k (helps refl) right constant

left_of_place : {F : Frame} {m : AccOperand} → Readable F [] m → Steps F (0 ∷ []) (Op row.Lt (scratch 0) ▸ Op row.Lact m ▸ end) []
left_of_place place = lt_step left_read (forgotten (reading row.Lact tt refl (anyhow place) nothing_done))

pub of_place_right : {F : Frame} {m : AccOperand} (o : Arithmetic) (f : Found) → MayHelp F o false → Readable F [] m → RightFound F f
    → RightWord F (needs f) (of_place o m f)
of_place_right Sum f helps place right = in_accumulator_right Any (both (load_step f right) (reading (row.Add 0) no_shift refl place nothing_done))
of_place_right Difference f helps place right =
    in_accumulator_right Any (both (load_step f right) (reading (row.Sub 0) no_shift refl place (alone row.Neg tt refl nothing_done)))
of_place_right (Bits o) f helps place right = bits_with_place o f right place
of_place_right Product f helps place right = in_accumulator_right Any (multiply_step f right place)
of_place_right LeftShift f helps place right = in_accumulator_right Any (both (store_left f right) (left_of_place place))
of_place_right (RightShift signed) f helps place right = behind_place (shift_helper signed) f (helps refl) right place
of_place_right (Quotient signed) f helps place right = behind_place (division_helper signed) f (helps refl) right place
of_place_right (Remainder signed) f helps place right = behind_place (remainder_helper signed) f (helps refl) right place

-- comparisons
sub_step : {F : Frame} {ks js : List ℕ} {m : AccOperand} {xs : ItemList} → Readable F ks m → Steps F ks xs js → Steps F ks (Op (row.Sub 0) m ▸ xs) js
sub_step place rest = reading (row.Sub 0) no_shift refl place rest

subs_step : {F : Frame} {ks js : List ℕ} {m : AccOperand} {xs : ItemList} → Readable F ks m → Steps F ks xs js → Steps F ks (Op row.Subs m ▸ xs) js
subs_step place rest = reading row.Subs tt refl place rest

exactly_less_step : {F : Frame} {m : AccOperand} (h : HighHalf) → Readable F [] m → Steps F [] (exactly_less h m) []
exactly_less_step Any place = sub_step place mask_step
exactly_less_step Zero place = subs_step place nothing_done
exactly_less_step Sign place = sub_step place nothing_done
exactly_less_step Small place = sub_step place nothing_done

less_number_step : {F : Frame} (h : HighHalf) (w : ℕ) → Steps F [] (exactly_less_number h w) []
less_number_step Any w = both (minus_step (Number w) tt) mask_step
less_number_step Zero w =
    either (nat_lt w 256) (λ few. counting_on row.Subk w tt (ltb-true w 256 few) nothing_done) (λ many. counting_on row.Xork w tt tt nothing_done)
less_number_step Sign w = minus_step (Number w) tt
less_number_step Small w = minus_step (Number w) tt

less_constant_step : {F : Frame} (h : HighHalf) (k : Constant) → RightConstant F k → Steps F [] (exactly_less_constant h k) []
less_constant_step h (Number w) right = less_number_step h w
less_constant_step Any (Address v n) right = both (minus_step (Address v n) right) mask_step
less_constant_step Zero (Address v n) right = both (minus_step (Address v n) right) mask_step
less_constant_step Sign (Address v n) right = minus_step (Address v n) right
less_constant_step Small (Address v n) right = minus_step (Address v n) right

exact_step : {F : Frame} (f : Found) (k : Constant) → RightFound F f → RightConstant F k → Steps F (needs f) (exact_with f k) []
exact_step f (Address v n) right constant = both (load_step f right) (less_constant_step (high f) (Address v n) constant)
exact_step f (Number n) right constant =
    either (n == 0) (λ is. load_clean_step f right) (λ is. both (load_step f right) (less_constant_step (high f) (Number n) constant))

less_unsigned_step : {F : Frame} (w : ℕ) → Steps F [] (less_unsigned w) []
less_unsigned_step w =
    either (w == 0) (λ is. nothing_done) (λ is. either (nat_lt w 256) (λ few. counting_on row.Subk w tt (ltb-true w 256 few) nothing_done)
    (λ many. either (nat_lt w 32768) (λ few. counting_on (row.Sblk 0) w no_shift tt nothing_done)
    (λ many. counting_on (row.Sblk 1) (w / 2) (omega arith) tt
    (either (w % 2 == 0) (λ is. nothing_done) (λ is. counting_on row.Subk 1 tt (omega arith) nothing_done)))))

pub with_place_compared : {F : Frame} {m : AccOperand} (o : Order) (f : Found) → RightFound F f → Readable F [] m → Steps F (needs f) (items_with_place o f m) []
with_place_compared Exact f right place = both (load_step f right) (exactly_less_step (high f) place)
with_place_compared Signed f right place = both (load_signed_step f right) (sub_step place nothing_done)
with_place_compared Unsigned f right place = both (load_unsigned_step f right) (subs_step place nothing_done)

pub with_constant_compared : {F : Frame} (o : Order) (f : Found) (k : Constant) → RightFound F f → RightConstant F k → Steps F (needs f) (items_with_constant o f k) []
with_constant_compared Exact f k right constant = exact_step f k right constant
with_constant_compared Signed f k right constant = both (load_signed_step f right) (minus_step k constant)
with_constant_compared Unsigned f (Number n) right constant = both (load_unsigned_step f right) (less_unsigned_step n)
with_constant_compared Unsigned f (Address v n) right constant =
    both (store_left f right) (addressing (row.Lalk 0) v n no_shift refl constant
    (counting_on row.Andk 65535 tt tt (forgotten (subs_step left_read nothing_done))))

zals_step : {F : Frame} {ks js : List ℕ} {m : AccOperand} {xs : ItemList} → Readable F ks m → Steps F ks xs js → Steps F ks (Op row.Zals m ▸ xs) js
zals_step place rest = reading row.Zals tt refl place rest

pub of_place_compared : {F : Frame} {m : AccOperand} (o : Order) (f : Found) (h : HighHalf) → RightFound F f → Readable F [] m → Steps F (needs f) (items_of_place o m f h) []
of_place_compared Exact f h right place = both (load_step f right) (exactly_less_step h place)
of_place_compared Signed f Any right place = both (store_left f right) (lac_step (anyhow place) (forgotten (sub_step left_read nothing_done)))
of_place_compared Signed f Zero right place = both (store_left f right) (lac_step (anyhow place) (forgotten (sub_step left_read nothing_done)))
of_place_compared Signed f Sign right place = both (load_step f right) (sub_step place nothing_done)
of_place_compared Signed f Small right place = both (load_step f right) (sub_step place nothing_done)
of_place_compared Unsigned f Any right place = both (store_left f right) (zals_step (anyhow place) (forgotten (subs_step left_read nothing_done)))
of_place_compared Unsigned f Zero right place = both (load_step f right) (subs_step place nothing_done)
of_place_compared Unsigned f Sign right place = both (store_left f right) (zals_step (anyhow place) (forgotten (subs_step left_read nothing_done)))
of_place_compared Unsigned f Small right place = both (load_step f right) (subs_step place nothing_done)
