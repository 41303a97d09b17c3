-- Two objects side by side: a pointer into one, one behind its last cell, and one to an object that ended.
use Rattle.std.proofs.Common.{ℕ, zero, suc, [], refl, inl, arith}
use Rattle.std.specs.Prelude.{true, false}
use Rattle.c_tree.specs.Store.{Word, Pointer, Null}
use Rattle.tree_code_proof.specs.Seats.{Seat, Seats, Vacant, LiesAt, InFrame, ValueAlike, Apart}

abbrev four_seats : ℕ → Seat
four_seats zero = LiesAt 100 4
four_seats (suc zero) = LiesAt 105 1
four_seats (suc (suc zero)) = InFrame 0
four_seats (suc (suc (suc k))) = Vacant

abbrev seats : Seats
seats = record { seat = four_seats; points = λ k. true; rooms = []; least = 2 }

into : ValueAlike seats 4 true (Pointer 0 3) 103
into = (omega arith, (omega arith, (omega arith, refl)))

behind : ValueAlike seats 4 true (Pointer 0 4) 104
behind = (omega arith, (omega arith, (omega arith, refl)))

null : ValueAlike seats 4 true Null 0
null = refl

ended : ValueAlike seats 4 true (Pointer 3 7) 104
ended = (omega arith, (omega arith, tt {0}))

word : ValueAlike seats 4 false (Word 65535) 65535
word = (refl, omega arith)

-- the spare word of the first keeps its pointers from being those of the second
next_to : Apart (four_seats 0) (four_seats 1)
next_to = inl (omega arith)

-- none points to a scalar, to what was not made, or further than behind the last cell
no_scalar : ValueAlike seats 4 true (Pointer 2 0) 0 → ⊥
no_scalar h = h.1.1

no_future : ValueAlike seats 4 true (Pointer 4 0) 104 → ⊥
no_future h = omega (arith, h.0)

no_further : ValueAlike seats 4 true (Pointer 0 5) 105 → ⊥
no_further h = omega (arith, h.1.1.0)
