-- The words to which the code of a piece jumps are those of the marks that its jumps name.
use Rattle.std.proofs.Common.{◌≡◌, ◌⊎◌, inl, inr, ℕ, ◌+◌, ◌<◌, ◌≤◌, Bool, true, List, [], ◌∷◌, filter_map, Option, Some, None, refl, ap, ◌∙◌, arith}
use Rattle.std.specs.Prelude.{⊤, nat_lt, nat_le, ◌&&◌}
use Rattle.std.specs.List.{list_any, cons_option}
use Rattle.std.proofs.lemmas.Bool.{and_parts, and_from, or_cases, or_left, or_right, ltb-true, leb-true, lt-ltb, le-leb}
use Rattle.c25_isa.specs.declared.piece.PieceItem.{PieceItem}
use Rattle.c25_isa.specs.declared.piece.PieceItem.TheVariants.{Do, Mark, Jump, CallTo}
use Rattle.c25_isa.specs.Pieces.{items_size, mark_address, items_code}
use Rattle.c25_isa.specs.Table.{second_word, length_of}
use Rattle.c25_isa.specs.Walk.{Placed, jump_target}
use Rattle.c25_code.specs.Links.{IsMarkOf, MarksDiffer, MarksAtWords}
use Rattle.image_proof.specs.emit_proof.Calls.{IsJumpTo}
use Rattle.image_proof.specs.RunWalks.{placed_from}
use Rattle.image_proof.proofs.ItemBlocks.{leads_between, CutsAtMarks}
use Rattle.image_proof.proofs.Located.{marks_at}
use Rattle.image_proof.proofs.Marking.{JumpsToMarks, address_within, cuts_at_marks}

-- no instruction of an item jumps by itself
abbrev pub JumpsByMarks : List PieceItem → Type 0
JumpsByMarks [] = ⊤
JumpsByMarks (Do i ∷ items) = (jump_target i ≡ None) × JumpsByMarks items
JumpsByMarks (Mark mark ∷ items) = JumpsByMarks items
JumpsByMarks (Jump op to o ∷ items) = JumpsByMarks items
JumpsByMarks (CallTo name o ∷ items) = JumpsByMarks items

abbrev pub targets_of : List Placed → List ℕ
targets_of ps = filter_map (λ p. jump_target p.instr) ps

module _ (marks : ℕ → ℕ) (names : List ℕ → ℕ) (test : ℕ → Bool) where
  abbrev targets : ℕ → List PieceItem → List ℕ
  targets at items = targets_of (placed_from at (items_code marks names items))

  -- some jump of the items names a mark whose address passes
  record NamesOne (items : List PieceItem) : Type 0 where
    mark : ℕ
    named : IsJumpTo mark items
    passes : test (marks mark) ≡ true

  one_later : (to : ℕ) (rest : List PieceItem) (items : List PieceItem) → ((m : ℕ) → IsJumpTo m rest → IsJumpTo m items) → NamesOne rest → NamesOne items
  one_later to rest items f x = record { mark = x.mark; named = f x.mark x.named; passes = x.passes }

  passed_on : (o : Option ℕ) (rest : List ℕ) → o ≡ None → list_any test (cons_option o rest) ≡ true → list_any test rest ≡ true
  passed_on None rest n e = e
  passed_on (Some to) rest n e = absurd cc

  kept_by : (o : Option ℕ) (rest : List ℕ) → list_any test rest ≡ true → list_any test (cons_option o rest) ≡ true
  kept_by None rest e = e
  kept_by (Some to) rest e = or_right (test to) (list_any test rest) e

  some_named : (items : List PieceItem) (at : ℕ) → JumpsByMarks items → list_any test (targets at items) ≡ true → NamesOne items
  some_named [] at plain e = absurd cc
  some_named (Do i ∷ items) at plain e =
      one_later 0 items (Do i ∷ items) (λ m h. h)
      (some_named items (at + length_of (second_word i)) plain.1 (passed_on (jump_target i) (targets (at + length_of (second_word i)) items) plain.0 e))
  some_named (Mark mark ∷ items) at plain e = one_later 0 items (Mark mark ∷ items) (λ m h. h) (some_named items at plain e)
  some_named (Jump op to o ∷ items) at plain e = by (or_cases (test (marks to)) (list_any test (targets (at + 2) items)) e) (λ f. some_named items (at + 2) plain f)
    where
      by : (test (marks to) ≡ true) ⊎ (list_any test (targets (at + 2) items) ≡ true) → (list_any test (targets (at + 2) items) ≡ true → NamesOne items) → NamesOne (Jump op to o ∷ items)
      by (inl f) more = record { mark = to; named = inl refl; passes = f }
      by (inr f) more = one_later 0 items (Jump op to o ∷ items) (λ m h. inr h) (more f)
  some_named (CallTo name o ∷ items) at plain e = one_later 0 items (CallTo name o ∷ items) (λ m h. h) (some_named items (at + 2) plain e)

  named_passes : (items : List PieceItem) (at m : ℕ) → IsJumpTo m items → test (marks m) ≡ true → list_any test (targets at items) ≡ true
  named_passes [] at m h e = absurd h
  named_passes (Do i ∷ items) at m h e = kept_by (jump_target i) _ (named_passes items (at + length_of (second_word i)) m h e)
  named_passes (Mark mark ∷ items) at m h e = named_passes items at m h e
  named_passes (Jump op to o ∷ items) at m (inl same) e = or_left (test (marks to)) _ (ap (λ k. test (marks k)) same ∙ e)
  named_passes (Jump op to o ∷ items) at m (inr h) e = or_right (test (marks to)) _ (named_passes items (at + 2) m h e)
  named_passes (CallTo name o ∷ items) at m h e = named_passes items (at + 2) m h e

-- what is asked of the marks of a piece that stands at an address
pub record MarksAreRight (at : ℕ) (items : List PieceItem) : Type 0 where
  pub once : MarksDiffer items
  pub stand : (m : ℕ) → IsJumpTo m items → IsMarkOf m items
  pub named : (m : ℕ) → IsMarkOf m items → IsJumpTo m items
  pub words : MarksAtWords items
  pub room : at + items_size items ≤ 65536
  pub plain : JumpsByMarks items

module _ (names : List ℕ → ℕ) (at : ℕ) (items : List PieceItem) (right : MarksAreRight at items) where
  address_is : (m : ℕ) → IsMarkOf m items → marks_at at items m ≡ mark_address at items m
  address_is m h = let low : mark_address at items m < 65536 = omega (arith, address_within items at m right.words h, right.room) in omega (arith, low)

  abbrev here : List ℕ
  here = targets_of (placed_from at (items_code (marks_at at items) names items))

  abbrev between : ℕ → ℕ → ℕ → Bool
  between a b to = nat_lt a to && nat_le to b

  jumps_to_marks : JumpsToMarks here (marks_at at items) items
  jumps_to_marks = record { leads = leads; only = only }
    where
      leads : (m : ℕ) → IsMarkOf m items → (a b : ℕ) → a < marks_at at items m → marks_at at items m ≤ b → leads_between here a b ≡ true
      leads m h a b low high =
          named_passes (marks_at at items) names (between a b) items at m (right.named m h)
          (and_from _ _ (lt-ltb a (marks_at at items m) low) (le-leb (marks_at at items m) b high))

      only : (a b : ℕ) → leads_between here a b ≡ true → (m : ℕ) × IsMarkOf m items × (a < marks_at at items m) × (marks_at at items m ≤ b)
      only a b e =
          let x = some_named (marks_at at items) names (between a b) items at right.plain e in
          let both = and_parts (nat_lt a (marks_at at items x.mark)) (nat_le (marks_at at items x.mark) b) x.passes in
          (x.mark, right.stand x.mark x.named, ltb-true a _ both.0, leb-true _ b both.1)

  pub piece_cuts : CutsAtMarks here at items
  piece_cuts = cuts_at_marks here (marks_at at items) items at jumps_to_marks right.once address_is
