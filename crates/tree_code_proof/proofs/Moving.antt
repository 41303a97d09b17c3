-- A pointer moved by a number of cells, and the distance of two pointers into one object.
use Rattle.std.proofs.Common.{◌≡◌, ◌⊎◌, inl, inr, ⊎_elim, ℕ, ◌+◌, ◌*◌, ◌%◌, ◌<◌, ◌≤◌, Bool, true, false, cond, List, length, Option, Some, None, refl, sym, ap, ◌∙◌, subst, arith}
use Rattle.std.specs.Prelude.{ℤ, pos, negsuc, ◌+ℤ◌, ◌-ℤ◌, neg_ℤ, nat_lt, if◌then◌else◌}
use Rattle.std.proofs.lemmas.Bool.{ltb-false, cond_below, cond_above, cases_lt}
use Rattle.std.proofs.lemmas.Int.{ints}
use Rattle.word_base.specs.Words.{signed_of, low16, unsigned_add, unsigned_subtract}
use Rattle.word_base.specs.declared.outcome.UndefinedKind.TheVariants.{BadPointer}
use Rattle.c_syntax.specs.declared.operator.BinaryOp.TheVariants as op
use Rattle.c_tree.specs.TypedTree.{Kind}
use Rattle.tree_code_proof.specs.Counted as source
use Rattle.c_tree.specs.Store.{Word, Pointer, Obj}
use Rattle.tree_code_proof.specs.Counted.{World}
use Rattle.tree_code_proof.specs.Evaluated as evaluation
use Rattle.c_tree.specs.Eval.{number, is_unsigned, index_within}
use Rattle.ir_semantics.specs.Parts.{Gives, give}
use Rattle.ir_semantics.specs.Outside.{Memory, Frame}
use Rattle.ir_semantics.specs.TreeRun as run
use Rattle.ir_semantics.specs.TreeRun.{Tree}
use Rattle.tree_code_proof.specs.Seats.{Seat, Vacant, LiesAt, InFrame, Waits, Seats, PointsAt}
use Rattle.tree_code_proof.specs.Beside.{Held, SeatAlike, Alike}
use Rattle.tree_code_proof.proofs.Growing.{give_grows}
use Rattle.tree_code_proof.proofs.Rules.{Rel}
use Rattle.tree_code_proof.proofs.Reading.{holding, failing}
use Rattle.tree_code_proof.proofs.Forms.{Optional}

-- a word read without a sign or with one
pub number_is : (k : Kind) (b : ℕ) → (number k b ≡ pos b) ⊎ (number k b ≡ pos b -ℤ pos 65536)
number_is k b = by_sign (is_unsigned k) refl
  where
    signed : (signed_of b ≡ pos b) ⊎ (signed_of b ≡ pos b -ℤ pos 65536)
    signed = ⊎_elim (λ lt. inl (sym (cond_below b 32768 (pos b) (pos b -ℤ pos 65536) lt))) (λ le. inr (sym (cond_above b 32768 (pos b) (pos b -ℤ pos 65536) (pos b -ℤ pos 65536) le refl))) (cases_lt b 32768)

    by_sign : (s : Bool) → is_unsigned k ≡ s → (number k b ≡ pos b) ⊎ (number k b ≡ pos b -ℤ pos 65536)
    by_sign true e = inl (ap (λ s. cond s (pos b) (signed_of b)) e)
    by_sign false e = ⊎_elim (λ p. inl (ap (λ s. cond s (pos b) (signed_of b)) e ∙ p)) (λ p. inr (ap (λ s. cond s (pos b) (signed_of b)) e ∙ p)) signed

-- an index moved up is an address moved up, whichever way the word is read
up_word : (a i b j : ℕ) (n : ℤ) → a + j < 65536 → (n ≡ pos b) ⊎ (n ≡ pos b -ℤ pos 65536) → pos i +ℤ n ≡ pos j → (a + i + b) % 65536 ≡ a + j
up_word a i b j n fits (inl p) e = let f : i + b ≡ j = omega (arith, ints, e, p) in omega (arith, f, fits)
up_word a i b j n fits (inr p) e = let f : i + b ≡ j + 65536 = omega (arith, ints, e, p) in omega (arith, f, fits)

module _ (seats : Seats) (made : ℕ) where
  -- a pointer's object, where it lives: the length is that of its seat
  count_is : (s : Seat) (o : Obj) (m : Memory) (f : Frame) (i y : ℕ) → SeatAlike seats made s (Some o) m f → PointsAt s i y → (a : ℕ) × (s ≡ LiesAt a (length o.cells)) × (y ≡ a + i)
  count_is Vacant o m f i y h p = absurd h
  count_is (LiesAt a n) o m f i y h p = (a, ap (λ n. LiesAt a n) (sym h.count), p.1)
  count_is (InFrame k) o m f i y h p = absurd p
  count_is (Waits q) o m f i y h p = absurd p

module _ (seats : Seats) (hs : List Held) (w : World) (t : Tree) (a : Alike seats hs w t) (at object i y x : ℕ) (few : object < w.store.made) (p : PointsAt (seats.seat object) i y) where
  within : (z : ℤ) (o : Obj) (j : ℕ) (b : Bool) → nat_lt (length o.cells) j ≡ b → w.store.living object ≡ Some o → ((start : ℕ) → y ≡ start + i → start + j < 65536 → x ≡ start + j)
      → Rel (Optional seats hs true) (source.after (evaluation.made_pointer (if b then None else Some j) object at w) evaluation.some) (Gives x t)
  within z o j true e is word = failing seats hs (Optional seats hs true) BadPointer at w t (give x) a (give_grows x)
  within z o j false e is word =
      let s = count_is seats w.store.made (seats.seat object) o t.outside.memory t.frame i y (subst (λ q. SeatAlike seats w.store.made (seats.seat object) q t.outside.memory t.frame) is (a.objects object)) p in
      let le : j ≤ length o.cells = ltb-false (length o.cells) j e in
      let place = a.seated.place object s.0 (length o.cells) s.1 in
      let fits : s.0 + j < 65536 = omega (arith, le, place.last) in
      let is_x : x ≡ s.0 + j = word s.0 s.2 fits in
      holding seats hs (record { pointing = true; value = Pointer object j; word = x }) w t a (few, (omega (arith, is_x, fits), subst (λ r. PointsAt r j x) (sym s.1) (le, is_x)))

  moved_in : (z : ℤ) (q : Option Obj) → w.store.living object ≡ q → ((j start : ℕ) → z ≡ pos j → y ≡ start + i → start + j < 65536 → x ≡ start + j)
      → Rel (Optional seats hs true) (source.after (evaluation.made_pointer (index_within q z) object at w) evaluation.some) (Gives x t)
  moved_in z None e word = failing seats hs (Optional seats hs true) BadPointer at w t (give x) a (give_grows x)
  moved_in (negsuc n) (Some o) e word = failing seats hs (Optional seats hs true) BadPointer at w t (give x) a (give_grows x)
  moved_in (pos j) (Some o) e word = within (pos j) o j (nat_lt (length o.cells) j) refl e (λ start is fits. word j start refl is fits)

  -- to the index of a number
  pub moved : (by : ℤ) → ((j start : ℕ) → pos i +ℤ by ≡ pos j → y ≡ start + i → start + j < 65536 → x ≡ start + j) → Rel (Optional seats hs true) (source.after (evaluation.move object i by at w) evaluation.some) (Gives x t)
  moved by word = moved_in (pos i +ℤ by) (w.store.living object) refl word

-- a pointer and an integer behind it
pub plus_kept : (seats : Seats) (hs : List Held) (w : World) (t : Tree) → Alike seats hs w t → (at object i y b : ℕ) (k l : Kind) → object < w.store.made → PointsAt (seats.seat object) i y
    → Rel (Optional seats hs true) (source.after (evaluation.of_two op.Add k l (Pointer object i) (Word b) at w) evaluation.some) (run.calc (unsigned_add y b) t)
plus_kept seats hs w t a at object i y b k l few p =
    moved seats hs w t a at object i y ((y + b) % 65536) few p (number l b) (λ j start e is fits. ap (λ y. (y + b) % 65536) is ∙ up_word start i b j (number l b) fits (number_is l b) e)

pub plus_left_kept : (seats : Seats) (hs : List Held) (w : World) (t : Tree) → Alike seats hs w t → (at object i y b : ℕ) (k l : Kind) → object < w.store.made → PointsAt (seats.seat object) i y
    → Rel (Optional seats hs true) (source.after (evaluation.of_two op.Add k l (Word b) (Pointer object i) at w) evaluation.some) (run.calc (unsigned_add b y) t)
plus_left_kept seats hs w t a at object i y b k l few p =
    moved seats hs w t a at object i y ((b + y) % 65536) few p (number k b)
    (λ j start e is fits. ap (λ n. n % 65536) (commuted b y) ∙ ap (λ y. (y + b) % 65536) is ∙ up_word start i b j (number k b) fits (number_is k b) e)
  where
    commuted : (b y : ℕ) → b + y ≡ y + b
    commuted b y = omega arith

-- the low 16 bits of a number that lies some multiples of 65536 below another one
pub low16_is : (z : ℤ) (k m : ℕ) → z +ℤ pos (k * 65536) ≡ pos m → low16 z ≡ m % 65536
low16_is (pos n) k m e = omega (arith, ints)
low16_is (negsuc n) k m e = omega (arith, ints)

-- an index moved down is an address moved down
down_word : (a i b j : ℕ) (n : ℤ) → b < 65536 → a + j < 65536 → (n ≡ pos b) ⊎ (n ≡ pos b -ℤ pos 65536) → pos i +ℤ neg_ℤ n ≡ pos j → low16 (pos (a + i) -ℤ pos b) ≡ a + j
down_word a i b j n small fits (inl p) e =
    let f : i ≡ j + b = omega (arith, ints, e, p) in
    low16_is (pos (a + i) -ℤ pos b) 1 (a + j + 65536) (omega (arith, ints, f)) ∙ omega (arith, fits)
down_word a i b j n small fits (inr p) e =
    let f : i + 65536 ≡ j + b = omega (arith, ints, e, p) in
    low16_is (pos (a + i) -ℤ pos b) 1 (a + j) (omega (arith, ints, f)) ∙ omega (arith, fits)

pub minus_kept : (seats : Seats) (hs : List Held) (w : World) (t : Tree) → Alike seats hs w t → (at object i y b : ℕ) (k l : Kind) → b < 65536 → object < w.store.made → PointsAt (seats.seat object) i y
    → Rel (Optional seats hs true) (source.after (evaluation.of_two op.Sub k l (Pointer object i) (Word b) at w) evaluation.some) (run.calc (unsigned_subtract y b) t)
minus_kept seats hs w t a at object i y b k l small few p =
    moved seats hs w t a at object i y (low16 (pos y -ℤ pos b)) few p (neg_ℤ (number l b))
    (λ j start e is fits. ap (λ y. low16 (pos y -ℤ pos b)) is ∙ down_word start i b j (number l b) small fits (number_is l b) e)
