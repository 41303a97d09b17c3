-- The items that compare usable words are usable.
use Rattle.std.proofs.Common.{ℕ, ◌/◌, ◌%◌, ◌<◌, arith}
use Rattle.std.specs.Prelude.{◌==◌, nat_lt}
use Rattle.acc_code.specs.AccTree.{ItemList, ◌▸◌}
use Rattle.acc_code.specs.declared.operand.AccOperand.{AccOperand}
use Rattle.acc_select.specs.acc_operations.Comparisons.{low_half, exactly_less, exactly_less_number, exactly_less_constant, exact_with, less_unsigned, items_with_place, items_with_constant, items_of_place}
use Rattle.acc_select.specs.acc_operations.Words.{high}
use Rattle.acc_select.specs.acc_operations.declared.comparison.Order.{Order}
use Rattle.acc_select.specs.acc_operations.declared.comparison.Order.TheVariants.{Exact, Signed, Unsigned}
use Rattle.acc_select.specs.acc_operations.declared.constant.Constant.{Constant}
use Rattle.acc_select.specs.acc_operations.declared.constant.Constant.TheVariants.{Number, Address}
use Rattle.acc_select.specs.acc_operations.declared.found.Found.{Found}
use Rattle.acc_select.specs.acc_operations.declared.high_half.HighHalf.{HighHalf}
use Rattle.acc_select.specs.acc_operations.declared.high_half.HighHalf.TheVariants.{Any, Zero, Sign, Small}
use Rattle.emit_proof.specs.Addressed.{IsWordOperand}
use Rattle.image_proof.proofs.Usables.{Usable, nothing, on_number, on_address, on_first, on_place, both, either}
use Rattle.image_proof.proofs.UsableWords.{IsWordConstant, IsWordFound, load_usable, load_signed_usable, load_unsigned_usable, load_clean_usable}
use Rattle.image_proof.proofs.Operations.{kept_first, minus_usable}

low_first : {xs : ItemList} → Usable xs → Usable (low_half ▸ xs)
low_first h = on_number (omega arith) h

half_word : (w : ℕ) → w < 65536 → w / 2 < 65536
half_word w lt = omega (arith, lt)

exactly_usable : (h : HighHalf) (m : AccOperand) → IsWordOperand m → Usable (exactly_less h m)
exactly_usable Any m there = on_place there (low_first nothing)
exactly_usable Zero m there = on_place there nothing
exactly_usable Sign m there = on_place there nothing
exactly_usable Small m there = on_place there nothing

number_usable : (h : HighHalf) (w : ℕ) → w < 65536 → Usable (exactly_less_number h w)
number_usable Any w lt = both (minus_usable (Number w) lt) (low_first nothing)
number_usable Zero w lt = either (nat_lt w 256) (on_number lt nothing) (on_number lt nothing)
number_usable Sign w lt = minus_usable (Number w) lt
number_usable Small w lt = minus_usable (Number w) lt

constant_usable : (h : HighHalf) (k : Constant) → IsWordConstant k → Usable (exactly_less_constant h k)
constant_usable h (Number w) is = number_usable h w is
constant_usable Any (Address v n) is = both (minus_usable (Address v n) is) (low_first nothing)
constant_usable Zero (Address v n) is = both (minus_usable (Address v n) is) (low_first nothing)
constant_usable Sign (Address v n) is = minus_usable (Address v n) is
constant_usable Small (Address v n) is = minus_usable (Address v n) is

exact_usable : (f : Found) (k : Constant) → IsWordFound f → IsWordConstant k → Usable (exact_with f k)
exact_usable f (Address v n) is word = both (load_usable f is) (constant_usable (high f) (Address v n) word)
exact_usable f (Number w) is word = either (w == 0) (load_clean_usable f is) (both (load_usable f is) (constant_usable (high f) (Number w) word))

unsigned_usable : (w : ℕ) → w < 65536 → Usable (less_unsigned w)
unsigned_usable w lt =
    either (w == 0) nothing
    (either (nat_lt w 256) (on_number lt nothing)
    (either (nat_lt w 32768) (on_number lt nothing) (on_number (half_word w lt) (either (w % 2 == 0) nothing (on_number (omega arith) nothing)))))

pub items_with_place_usable : (o : Order) (f : Found) (m : AccOperand) → IsWordFound f → IsWordOperand m → Usable (items_with_place o f m)
items_with_place_usable Exact f m is there = both (load_usable f is) (exactly_usable (high f) m there)
items_with_place_usable Signed f m is there = both (load_signed_usable f is) (on_place there nothing)
items_with_place_usable Unsigned f m is there = both (load_unsigned_usable f is) (on_place there nothing)

pub items_with_constant_usable : (o : Order) (f : Found) (k : Constant) → IsWordFound f → IsWordConstant k → Usable (items_with_constant o f k)
items_with_constant_usable Exact f k is word = exact_usable f k is word
items_with_constant_usable Signed f k is word = both (load_signed_usable f is) (minus_usable k word)
items_with_constant_usable Unsigned f (Number w) is word = both (load_unsigned_usable f is) (unsigned_usable w word)
items_with_constant_usable Unsigned f (Address v n) is word = both (kept_first f is) (on_address (low_first (on_first nothing)))

pub items_of_place_usable : (o : Order) (m : AccOperand) (f : Found) (h : HighHalf) → IsWordOperand m → IsWordFound f → Usable (items_of_place o m f h)
items_of_place_usable Exact m f h there is = both (load_usable f is) (exactly_usable h m there)
items_of_place_usable Signed m f Any there is = both (kept_first f is) (on_place there (on_first nothing))
items_of_place_usable Signed m f Zero there is = both (kept_first f is) (on_place there (on_first nothing))
items_of_place_usable Signed m f Sign there is = both (load_usable f is) (on_place there nothing)
items_of_place_usable Signed m f Small there is = both (load_usable f is) (on_place there nothing)
items_of_place_usable Unsigned m f Any there is = both (kept_first f is) (on_place there (on_first nothing))
items_of_place_usable Unsigned m f Zero there is = both (load_usable f is) (on_place there nothing)
items_of_place_usable Unsigned m f Sign there is = both (kept_first f is) (on_place there (on_first nothing))
items_of_place_usable Unsigned m f Small there is = both (load_usable f is) (on_place there nothing)
