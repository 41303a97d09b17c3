-- Jumps lead to marks alone, and each mark has one that leads to it: so cuts are where marks are.
use Rattle.std.proofs.Common.{◌≡◌, ◌⊎◌, inl, inr, ℕ, ◌+◌, ◌<◌, ◌≤◌, Bool, true, false, List, [], ◌∷◌, Option, Some, None, cond, refl, ap, sym, ◌∙◌, subst, arith}
use Rattle.std.specs.Prelude.{◌==◌}
use Rattle.std.proofs.lemmas.Bool.{eq-eqb, ne_eqb}
use Rattle.c25_isa.specs.declared.piece.PieceItem.{PieceItem}
use Rattle.c25_isa.specs.declared.piece.PieceItem.TheVariants.{Do, Mark, Jump, CallTo}
use Rattle.c25_isa.specs.Pieces.{items_size, mark_address}
use Rattle.c25_isa.specs.Table.{second_word, length_of}
use Rattle.c25_code.specs.Links.{IsMarkOf, MarksDiffer, MarksAtWords}
use Rattle.image_proof.proofs.ItemBlocks.{leads_between, begins_with_mark, CutsAtMarks}

-- where some jump leads, a mark is, and some jump leads to each mark
pub record JumpsToMarks (targets : List ℕ) (address : ℕ → ℕ) (all : List PieceItem) : Type 0 where
  pub leads : (m : ℕ) → IsMarkOf m all → (a b : ℕ) → a < address m → address m ≤ b → leads_between targets a b ≡ true
  pub only : (a b : ℕ) → leads_between targets a b ≡ true → (m : ℕ) × IsMarkOf m all × (a < address m) × (address m ≤ b)

word_or_two : (o : Option ℕ) → 1 ≤ length_of o
word_or_two None = omega arith
word_or_two (Some word) = omega arith

address_from : (items : List PieceItem) (at m : ℕ) → at ≤ mark_address at items m
address_from [] at m = omega arith
address_from (Do i ∷ items) at m = omega (arith, address_from items (at + length_of (second_word i)) m)
address_from (Mark mark ∷ items) at m = by (mark == m) (address_from items (at + 0) m)
  where
    by : (b : Bool) → at + 0 ≤ mark_address (at + 0) items m → at ≤ cond b at (mark_address (at + 0) items m)
    by true le = omega arith
    by false le = omega (arith, le)
address_from (Jump op to o ∷ items) at m = omega (arith, address_from items (at + 2) m)
address_from (CallTo name o ∷ items) at m = omega (arith, address_from items (at + 2) m)

-- a mark behind an instruction
address_behind : (items : List PieceItem) (at m : ℕ) → begins_with_mark items ≡ false → IsMarkOf m items → at < mark_address at items m
address_behind [] at m e h = absurd h
address_behind (Do i ∷ items) at m e h = omega (arith, address_from items (at + length_of (second_word i)) m, word_or_two (second_word i))
address_behind (Mark mark ∷ items) at m e h = absurd cc
address_behind (Jump op to o ∷ items) at m e h = omega (arith, address_from items (at + 2) m)
address_behind (CallTo name o ∷ items) at m e h = omega (arith, address_from items (at + 2) m)

-- a mark that is there stands before a word, so its address is within the items
pub address_within : (items : List PieceItem) (at m : ℕ) → MarksAtWords items → IsMarkOf m items → mark_address at items m < at + items_size items
address_within [] at m words h = absurd h
address_within (Do i ∷ items) at m words h = omega (arith, address_within items (at + length_of (second_word i)) m words h)
address_within (Mark mark ∷ items) at m words h = by (mark == m) refl h (λ im. address_within items (at + 0) m words.1 im)
  where
    by : (b : Bool) → (mark == m) ≡ b → IsMarkOf m (Mark mark ∷ items) → (IsMarkOf m items → mark_address (at + 0) items m < at + 0 + items_size items)
        → cond b at (mark_address (at + 0) items m) < at + items_size (Mark mark ∷ items)
    by true e im below = omega (arith, words.0)
    by false e (inl same) below = let f : (mark == m) ≡ true = eq-eqb mark m same in absurd cc
    by false e (inr im) below = omega (arith, below im)
address_within (Jump op to o ∷ items) at m words h = omega (arith, address_within items (at + 2) m words h)
address_within (CallTo name o ∷ items) at m words h = omega (arith, address_within items (at + 2) m words h)

module _ (targets : List ℕ) (address : ℕ → ℕ) (all : List PieceItem) (jumps : JumpsToMarks targets address all) where
  -- the marks of what is left are at their addresses, and all others before it
  record Left (at : ℕ) (items : List PieceItem) : Type 0 where
    own : (m : ℕ) → IsMarkOf m items → address m ≡ mark_address at items m
    before : (m : ℕ) → IsMarkOf m all → IsMarkOf m items ⊎ (address m ≤ at)
    among : (m : ℕ) → IsMarkOf m items → IsMarkOf m all

  -- up to where what is left begins, from an address before it that is behind all other marks
  record Ahead (at next : ℕ) (items : List PieceItem) : Type 0 where
    less : at < next
    own : (m : ℕ) → IsMarkOf m items → address m ≡ mark_address next items m
    before : (m : ℕ) → IsMarkOf m all → IsMarkOf m items ⊎ (address m ≤ at)
    among : (m : ℕ) → IsMarkOf m items → IsMarkOf m all

  at_mark : (at next mark : ℕ) (items : List PieceItem) → Ahead at next (Mark mark ∷ items) → leads_between targets at next ≡ true
  at_mark at next mark items h =
      let here : address mark ≡ next = h.own mark (inl refl) ∙ ap (λ b. cond b next (mark_address (next + 0) items mark)) (eq-eqb mark mark refl) in
      jumps.leads mark (h.among mark (inl refl)) at next (omega (arith, here, h.less)) (omega (arith, here))

  -- a mark that a jump leads to would be before, or behind
  at_none : (at next : ℕ) (items : List PieceItem) → begins_with_mark items ≡ false → Ahead at next items → leads_between targets at next ≡ false
  at_none at next items e h = by (leads_between targets at next) refl
    where
      refuted : (m : ℕ) → at < address m → address m ≤ next → IsMarkOf m items ⊎ (address m ≤ at) → ⊥
      refuted m low high (inl here) = let far : next < mark_address next items m = address_behind items next m e here in absurd (omega (arith, h.own m here))
      refuted m low high (inr passed) = absurd (omega arith)

      by : (b : Bool) → leads_between targets at next ≡ b → b ≡ false
      by true f = let x = jumps.only at next f in absurd (refuted x.0 x.2 x.3 (h.before x.0 x.1))
      by false f = refl

  cut_there : (at next : ℕ) (items : List PieceItem) → Ahead at next items → leads_between targets at next ≡ begins_with_mark items
  cut_there at next [] h = at_none at next [] refl h
  cut_there at next (Do i ∷ items) h = at_none at next (Do i ∷ items) refl h
  cut_there at next (Mark mark ∷ items) h = at_mark at next mark items h
  cut_there at next (Jump op to o ∷ items) h = at_none at next (Jump op to o ∷ items) refl h
  cut_there at next (CallTo name o ∷ items) h = at_none at next (CallTo name o ∷ items) refl h

  onward : (at next : ℕ) (items : List PieceItem) → Ahead at next items → Left next items
  onward at next items h = record { own = h.own; before = λ m im. by m (h.before m im); among = h.among }
    where
      by : (m : ℕ) → IsMarkOf m items ⊎ (address m ≤ at) → IsMarkOf m items ⊎ (address m ≤ next)
      by m (inl here) = inl here
      by m (inr le) = let less : at < next = h.less in inr (omega arith)

  -- behind a mark
  past_mark : (at mark : ℕ) (items : List PieceItem) → (IsMarkOf mark items → ⊥) → Left at (Mark mark ∷ items) → Left at items
  past_mark at mark items apart h = record { own = own; before = λ m im. by m (h.before m im); among = λ m im. h.among m (inr im) }
    where
      own : (m : ℕ) → IsMarkOf m items → address m ≡ mark_address at items m
      own m im =
          let e : at + 0 ≡ at = omega arith in
          h.own m (inr im)
          ∙ ap (λ b. cond b at (mark_address (at + 0) items m)) (ne_eqb mark m (λ same. apart (subst (λ k. IsMarkOf k items) (sym same) im)))
          ∙ ap (λ a. mark_address a items m) e

      at_it : (m : ℕ) → mark ≡ m → address m ≤ at
      at_it m same =
          let is : address m ≡ at = h.own m (inl same) ∙ ap (λ b. cond b at (mark_address (at + 0) items m)) (eq-eqb mark m same) in
          omega (arith, is)

      by : (m : ℕ) → IsMarkOf m (Mark mark ∷ items) ⊎ (address m ≤ at) → IsMarkOf m items ⊎ (address m ≤ at)
      by m (inl (inl same)) = inr (at_it m same)
      by m (inl (inr im)) = inl im
      by m (inr le) = inr le

  left_cuts : (items : List PieceItem) (at : ℕ) → MarksDiffer items → Left at items → CutsAtMarks targets at items
  left_cuts [] at differ h = tt
  left_cuts (Do i ∷ items) at differ h =
      let word : 1 ≤ length_of (second_word i) = word_or_two (second_word i) in
      let ahead : Ahead at (at + length_of (second_word i)) items = record { less = omega (arith, word); own = h.own; before = h.before; among = h.among } in (
        cut_there at _ items ahead,
        left_cuts items (at + length_of (second_word i)) differ (onward at _ items ahead),
      )
  left_cuts (Mark mark ∷ items) at differ h = left_cuts items at differ.1 (past_mark at mark items differ.0 h)
  left_cuts (Jump op to o ∷ items) at differ h =
      let ahead : Ahead at (at + 2) items = record { less = omega arith; own = h.own; before = h.before; among = h.among } in
      (cut_there at _ items ahead, left_cuts items (at + 2) differ (onward at _ items ahead))
  left_cuts (CallTo name o ∷ items) at differ h =
      let ahead : Ahead at (at + 2) items = record { less = omega arith; own = h.own; before = h.before; among = h.among } in
      (cut_there at _ items ahead, left_cuts items (at + 2) differ (onward at _ items ahead))

-- in the whole of a piece
pub cuts_at_marks : (targets : List ℕ) (address : ℕ → ℕ) (all : List PieceItem) (at : ℕ) → JumpsToMarks targets address all → MarksDiffer all → ((m : ℕ) → IsMarkOf m all → address m ≡ mark_address at all m) → CutsAtMarks targets at all
cuts_at_marks targets address all at jumps differ own = left_cuts targets address all jumps all at differ (record { own = own; before = λ m im. inl im; among = λ m im. im })
