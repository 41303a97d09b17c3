-- What addresses say of pointers, where both states stand side by side: equal addresses mean the same object and index, none is 0, within an object
-- they are in the order of indices, and their difference is that of the indices.
use Rattle.std.proofs.Common.{◌≡◌, ◌≢◌, inl, inr, ℕ, ◌+◌, ◌<◌, ◌≤◌, refl, sym, ◌∙◌, subst, ⊎_elim, arith}
use Rattle.std.proofs.lemmas.Bool.{cases_eq}
pub use Rattle.tree_code_proof.specs.Seats.{Points}
use Rattle.tree_code_proof.specs.Seats.{Seat, Vacant, LiesAt, InFrame, Waits, Seats, PointsAt, Apart, AreSeats}

-- a pointer to what isn't vacant points so
pub to_living : (seats : Seats) (object i y : ℕ) (s : Seat) → seats.seat object ≡ s → s ≢ Vacant → PointsAt s i y → Points seats object i y
to_living seats object i y Vacant is lives h = absurd (lives refl)
to_living seats object i y (LiesAt a n) is lives h = record { start = a; count = n; seat = is; within = h.0; word = h.1 }
to_living seats object i y (InFrame k) is lives h = absurd h
to_living seats object i y (Waits o) is lives h = absurd h

same_start : {a n b m : ℕ} → LiesAt a n ≡ LiesAt b m → a ≡ b
same_start e = cc

-- no address is 0, nor that of a register
pub never_0 : (seats : Seats) (object i y : ℕ) → AreSeats seats → Points seats object i y → y ≢ 0
never_0 seats object i y s p e = let h = (s.place object p.start p.count p.seat).first in omega (arith, h, p.word, e)

pub is_word : (seats : Seats) (object i y : ℕ) → AreSeats seats → Points seats object i y → y < 65536
is_word seats object i y s p = let h = (s.place object p.start p.count p.seat).last in omega (arith, h, p.word, p.within)

pub differs : (a n b m i j : ℕ) → i ≤ n → j ≤ m → Apart (LiesAt a n) (LiesAt b m) → a + i ≡ b + j → ⊥
differs a n b m i j li lj (inl lt) e = omega (arith, li, lj, lt, e)
differs a n b m i j li lj (inr lt) e = omega (arith, li, lj, lt, e)

pub both_at : (seats : Seats) (k l : ℕ) (p q : Seat) → seats.seat k ≡ p → seats.seat l ≡ q → Apart (seats.seat k) (seats.seat l) → Apart p q
both_at seats k l p q e f h = subst (λ x. Apart p x) f (subst (λ x. Apart x (seats.seat l)) e h)

-- pointers to two objects have different addresses
pub objects_differ : (seats : Seats) (k i y l j z : ℕ) → AreSeats seats → k ≢ l → Points seats k i y → Points seats l j z → y ≢ z
objects_differ seats k i y l j z s ne p q e =
    differs p.start p.count q.start q.count i j p.within q.within (both_at seats k l (LiesAt p.start p.count) (LiesAt q.start q.count) p.seat q.seat (s.apart k l ne)) (sym p.word ∙ e ∙ q.word)

-- pointers to one object start at one address
pub one_start : (seats : Seats) (k i y j z : ℕ) (p : Points seats k i y) (q : Points seats k j z) → p.start ≡ q.start
one_start seats k i y j z p q = same_start (sym p.seat ∙ q.seat)

pub same_index : (seats : Seats) (k i y j z : ℕ) → Points seats k i y → Points seats k j z → y ≡ z → i ≡ j
same_index seats k i y j z p q e = let h = one_start seats k i y j z p q in omega (arith, h, p.word, q.word, e)

pub same_address : (seats : Seats) (k i y j z : ℕ) → Points seats k i y → Points seats k j z → i ≡ j → y ≡ z
same_address seats k i y j z p q e = let h = one_start seats k i y j z p q in omega (arith, h, p.word, q.word, e)

-- the order of addresses is that of indices, and so are their differences
pub in_order : (seats : Seats) (k i y j z : ℕ) → Points seats k i y → Points seats k j z → y < z → i < j
in_order seats k i y j z p q lt = let h = one_start seats k i y j z p q in omega (arith, h, p.word, q.word, lt)

pub index_order : (seats : Seats) (k i y j z : ℕ) → Points seats k i y → Points seats k j z → i < j → y < z
index_order seats k i y j z p q lt = let h = one_start seats k i y j z p q in omega (arith, h, p.word, q.word, lt)

pub same_distance : (seats : Seats) (k i y j z : ℕ) → Points seats k i y → Points seats k j z → y + j ≡ z + i
same_distance seats k i y j z p q = let h = one_start seats k i y j z p q in omega (arith, h, p.word, q.word)

-- equal addresses are those of one object and of one index
pub same_pointer : (seats : Seats) (k i y l j z : ℕ) → AreSeats seats → Points seats k i y → Points seats l j z → y ≡ z → (k ≡ l) × (i ≡ j)
same_pointer seats k i y l j z s p q e =
    ⊎_elim
    (λ same. (same, same_index seats k i y j z p (subst (λ o. Points seats o j z) (sym same) q) e))
    (λ ne. absurd (objects_differ seats k i y l j z s ne p q e))
    (cases_eq k l)
