-- Pieces whose words, marks and ranges were worked out by hand from the instruction table of docs/MACHINE.md.
use Rattle.std.proofs.Common.{◌≡◌, ◌⊎◌, inl, inr, ℕ, zero, suc, ◌<◌, ◌≤◌, List, [], ◌∷◌, true, false, None, Some, refl, ap, subst, lit≤, arith, take, drop}
use Rattle.std.specs.Prelude.{codes, slice_get}
use Rattle.std.proofs.lemmas.Bool.{cases_lt}
use Rattle.std.proofs.lemmas.Option.{same_Some}
use Rattle.c25_isa.specs.Step.{wrap16}
use Rattle.c25_isa.specs.declared.operand.Change.TheVariants.{Stay, Up}
use Rattle.c25_isa.specs.declared.operand.Indirect.{Indirect}
use Rattle.c25_isa.specs.declared.instruction.JumpOp.TheVariants.{B, Bgz}
use Rattle.c25_isa.specs.declared.instruction.Instr.TheVariants.{Rovm, Lack, Subk, Lalk, Idle, Ret, Branch}
use Rattle.c25_isa.specs.declared.piece.PieceItem.{PieceItem}
use Rattle.c25_isa.specs.declared.piece.PieceItem.TheVariants.{Do, Mark, Jump, CallTo}
use Rattle.c25_isa.specs.Table.{code_words}
use Rattle.c25_isa.specs.Pieces.{Piece, items_size, mark_address, items_code, piece_code, address_in, piece_address, pieces_code, range_of, IsPlacedAt, IsWordOf, Linked}
use Rattle.c25_isa.proofs.InOrder.{in_order_linked, stands_between}

abbrev star : Indirect
star = record { change = Stay; next = None }

-- `*+`, and AR3 is current behind it
abbrev plus_then_ar3 : Indirect
plus_then_ar3 = record { change = Up; next = Some 3 }

-- ROVM is one word, CALL two, IDLE one: the startup has words 0 to 3
abbrev start : Piece
start = record { name = codes ".start"; listed = false; items = Do Rovm ∷ CallTo (codes "count") star ∷ Do Idle ∷ [] }

-- mark 7 at its first word; SUBK one word, BGZ two, B two, LACK one; mark 8 behind these six; RET
abbrev count_items : List PieceItem
count_items =
    Mark 7
    ∷ Do (Subk 1)
    ∷ Jump Bgz 7 star
    ∷ Jump B 8 plus_then_ar3
    ∷ Do (Lack 5)
    ∷ Mark 8
    ∷ Do Ret
    ∷ []

abbrev count : Piece
count = record { name = codes "count"; listed = true; items = count_items }

seven_words : items_size count_items ≡ 7
seven_words = refl

-- where they stand from word 4 on, one mark is at its first word, the other one behind six
backward : mark_address 4 count_items 7 ≡ 4
backward = refl

forward : mark_address 4 count_items 8 ≡ 10
forward = refl

no_mark : mark_address 4 count_items 9 ≡ 11
no_mark = refl

-- the piece behind the startup's four words
count_at : piece_address 0 (start ∷ count ∷ []) (codes "count") ≡ 4
count_at = refl

start_at : piece_address 0 (start ∷ count ∷ []) (codes ".start") ≡ 0
start_at = refl

no_piece : piece_address 0 (start ∷ count ∷ []) (codes "counts") ≡ 11
no_piece = refl

-- a mark's number, not its order, says which one it is
code_is : items_code (mark_address 4 count_items) (λ name. 0) count_items ≡ Subk 1 ∷ Branch Bgz 4 star ∷ Branch B 10 plus_then_ar3 ∷ Lack 5 ∷ Ret ∷ []
code_is = refl

-- ROVM ce02; CALL fe80 0004; IDLE ce1f; SUBK cd01; BGZ f180 0004; B *+,AR3 ffab 000a; LACK ca05; RET ce26
linked : Linked (start ∷ count ∷ []) (record {
  words = 0xce02 ∷ 0xfe80 ∷ 0x0004 ∷ 0xce1f ∷ 0xcd01 ∷ 0xf180 ∷ 0x0004 ∷ 0xffab ∷ 0x000a ∷ 0xca05 ∷ 0xce26 ∷ [];
  functions = range_of (codes "count") 4 7 ∷ [];
})
linked = in_order_linked (start ∷ count ∷ []) _ refl refl (λ e. cc, (λ e. lit≤ tt, tt))

last_word : (range_of (codes "count") 4 7).last ≡ 10
last_word = refl

-- the other way round the function is at word 0, and its marks are at 0 and 6; the startup calls it from word 8
linked_behind : Linked (count ∷ start ∷ []) (record {
  words = 0xcd01 ∷ 0xf180 ∷ 0x0000 ∷ 0xffab ∷ 0x0006 ∷ 0xca05 ∷ 0xce26 ∷ 0xce02 ∷ 0xfe80 ∷ 0x0000 ∷ 0xce1f ∷ [];
  functions = range_of (codes "count") 0 7 ∷ [];
})
linked_behind = in_order_linked (count ∷ start ∷ []) _ refl refl (λ e. lit≤ tt, (λ e. cc, tt))

-- two pieces with a mark of the same number: each jumps to its own
abbrev spin : List ℕ → Piece
spin name = record { name = name; listed = true; items = Mark 1 ∷ Jump B 1 star ∷ [] }

own_marks : Linked (spin (codes "f") ∷ spin (codes "g") ∷ []) (record {
  words = 0xff80 ∷ 0x0000 ∷ 0xff80 ∷ 0x0002 ∷ [];
  functions = range_of (codes "f") 0 2 ∷ range_of (codes "g") 2 2 ∷ [];
})
own_marks = in_order_linked (spin (codes "f") ∷ spin (codes "g") ∷ []) _ refl refl (λ e. lit≤ tt, (λ e. lit≤ tt, tt))

-- three pieces, of which the third stands between the others, at word 4: the startup calls the second one at word 6
abbrev mixed_places : ℕ → ℕ
mixed_places zero = 0
mixed_places (suc zero) = 6
mixed_places (suc (suc k)) = 4

abbrev mixed_words : List ℕ
mixed_words = 0xce02 ∷ 0xfe80 ∷ 0x0006 ∷ 0xce1f ∷ 0xff80 ∷ 0x0004 ∷ 0xcd01 ∷ 0xf180 ∷ 0x0006 ∷ 0xffab ∷ 0x000c ∷ 0xca05 ∷ 0xce26 ∷ []

abbrev mixed : List Piece
mixed = start ∷ count ∷ spin (codes "g") ∷ []

abbrev mixed_names : List ℕ → ℕ
mixed_names = λ name. wrap16 (address_in mixed_places mixed name)

mixed_placed : (k : ℕ) (p : Piece) → slice_get mixed k ≡ Some p → IsPlacedAt mixed_words mixed_names (mixed_places k) p
mixed_placed zero p is = subst (IsPlacedAt mixed_words mixed_names 0) (same_Some start p is) (record { code = stands_between [] (code_words (piece_code mixed_names 0 start)) (drop 4 mixed_words); within = lit≤ tt })
mixed_placed (suc zero) p is = subst (IsPlacedAt mixed_words mixed_names 6) (same_Some count p is) (record { code = stands_between (take 6 mixed_words) (code_words (piece_code mixed_names 6 count)) []; within = lit≤ tt })
mixed_placed (suc (suc zero)) p is = subst (IsPlacedAt mixed_words mixed_names 4) (same_Some (spin (codes "g")) p is) (record { code = stands_between (take 4 mixed_words) (code_words (piece_code mixed_names 4 (spin (codes "g")))) (drop 6 mixed_words); within = lit≤ tt })
mixed_placed (suc (suc (suc k))) p is = absurd cc

-- where the word of a piece lies
abbrev mixed_ends : ℕ → ℕ
mixed_ends zero = 4
mixed_ends (suc zero) = 13
mixed_ends (suc (suc k)) = 6

mixed_within : (k a : ℕ) → IsWordOf mixed_places mixed k a → (k ≤ 2) × (mixed_places k ≤ a) × (a < mixed_ends k)
mixed_within zero a h = let same = ap (λ (p : Piece). items_size p.items) (same_Some start h.piece h.there) in let ends = h.within in (lit≤ tt, h.begins, omega (arith, same, ends))
mixed_within (suc zero) a h = let same = ap (λ (p : Piece). items_size p.items) (same_Some count h.piece h.there) in let ends = h.within in (lit≤ tt, h.begins, omega (arith, same, ends))
mixed_within (suc (suc zero)) a h = let same = ap (λ (p : Piece). items_size p.items) (same_Some (spin (codes "g")) h.piece h.there) in let ends = h.within in (lit≤ tt, h.begins, omega (arith, same, ends))
mixed_within (suc (suc (suc k))) a h = let none = h.there in absurd cc

mixed_apart : (j k a : ℕ) → (j ≤ 2) × (mixed_places j ≤ a) × (a < mixed_ends j) → (k ≤ 2) × (mixed_places k ≤ a) × (a < mixed_ends k) → j ≡ k
mixed_apart zero zero a first second = refl
mixed_apart zero (suc zero) a first second = absurd (omega (arith, first.2, second.1))
mixed_apart zero (suc (suc k)) a first second = absurd (omega (arith, first.2, second.1))
mixed_apart (suc zero) zero a first second = absurd (omega (arith, first.1, second.2))
mixed_apart (suc zero) (suc zero) a first second = refl
mixed_apart (suc zero) (suc (suc k)) a first second = absurd (omega (arith, first.1, second.2))
mixed_apart (suc (suc j)) zero a first second = absurd (omega (arith, first.1, second.2))
mixed_apart (suc (suc j)) (suc zero) a first second = absurd (omega (arith, first.2, second.1))
mixed_apart (suc (suc j)) (suc (suc k)) a first second = omega (arith, first.0, second.0)

mixed_filled : (a : ℕ) → a < 13 → (k : ℕ) × IsWordOf mixed_places mixed k a
mixed_filled a below = by (cases_lt a 4) (cases_lt a 6)
  where
    by : (a < 4) ⊎ (4 ≤ a) → (a < 6) ⊎ (6 ≤ a) → (k : ℕ) × IsWordOf mixed_places mixed k a
    by (inl low) high = (0, record { piece = start; there = refl; begins = omega arith; within = low })
    by (inr low) (inl high) = (2, record { piece = spin (codes "g"); there = refl; begins = low; within = high })
    by (inr low) (inr high) = (1, record { piece = count; there = refl; begins = high; within = below })

mixed_linked : Linked mixed (record { words = mixed_words; functions = range_of (codes "count") 6 7 ∷ range_of (codes "g") 4 2 ∷ [] })
mixed_linked = record {
  place = mixed_places;
  first = refl;
  placed = mixed_placed;
  apart = λ j k a first second. mixed_apart j k a (mixed_within j a first) (mixed_within k a second);
  filled = mixed_filled;
  functions = refl;
  listed = (λ e. cc, (λ e. lit≤ tt, (λ e. lit≤ tt, tt)));
}

-- two pieces of one word each don't share one, even where their words are alike
abbrev rovm : Piece
rovm = record { name = codes ".rovm"; listed = false; items = Do Rovm ∷ [] }

no_overlap : Linked (rovm ∷ rovm ∷ []) (record { words = 0xce02 ∷ []; functions = [] }) → ⊥
no_overlap linked =
    let ends = (linked.placed 1 rovm refl).within in
    let second : linked.place 1 ≡ 0 = omega (arith, ends) in
    let same : 0 ≡ 1 = linked.apart 0 1 0 (record { piece = rovm; there = refl; begins = omega (arith, linked.first); within = omega arith }) (record { piece = rovm; there = refl; begins = omega (arith, second); within = omega arith }) in
    omega (arith, same)

-- an instruction of two words counts as two: LALK 1234h,3 is d301 1234
two_words : Linked (record { name = codes ".start"; listed = false; items = Do (Lalk 3 0x1234) ∷ Mark 0 ∷ Jump B 0 star ∷ [] } ∷ []) (record { words = 0xd301 ∷ 0x1234 ∷ 0xff80 ∷ 0x0002 ∷ []; functions = [] })
two_words = in_order_linked _ _ refl refl (λ e. cc, tt)

-- the word behind program word 65,535 is word 0
wraps : pieces_code (λ name. 0) 0xffff (record { name = []; listed = false; items = Do Ret ∷ Mark 1 ∷ Jump B 1 star ∷ [] } ∷ []) ≡ Ret ∷ Branch B 0 star ∷ []
wraps = refl
