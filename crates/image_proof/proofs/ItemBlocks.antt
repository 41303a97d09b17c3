-- The same fold over the items of a piece: each mark is a cut, and so is each instruction behind which control needn't go on.
use Rattle.std.proofs.Common.{◌≡◌, ℕ, ◌+◌, Bool, true, false, ◌||◌, List, [], ◌∷◌, Option, refl, ap, sym, ◌∙◌}
use Rattle.std.specs.Prelude.{⊤, nat_lt, nat_le, ◌&&◌}
use Rattle.std.specs.List.{list_any}
use Rattle.c25_isa.specs.declared.instruction.Instr.{Instr}
use Rattle.c25_isa.specs.declared.instruction.Instr.TheVariants.{Branch, Call}
use Rattle.c25_isa.specs.declared.piece.PieceItem.{PieceItem}
use Rattle.c25_isa.specs.declared.piece.PieceItem.TheVariants.{Do, Mark, Jump, CallTo}
use Rattle.c25_isa.specs.Pieces.{items_code}
use Rattle.c25_isa.specs.Table.{second_word, length_of}
use Rattle.c25_isa.specs.Walk.{Placed, Known, nothing_known, known_behind, ends_stretch}
use Rattle.acc_code.specs.AccSequence.{closed}
use Rattle.image_proof.specs.RunWalks.{placed_from}
use Rattle.image_proof.proofs.Folding.{go_on, with_given, placed_blocks}

-- an instruction at an address
abbrev pub placed_at : ℕ → Instr → Placed
placed_at at i = record { at = at; instr = i; behind = at + length_of (second_word i) }

-- some jump leads behind the first address, up to the second one
abbrev pub leads_between : List ℕ → ℕ → ℕ → Bool
leads_between targets a b = list_any (λ to. nat_lt a to && nat_le to b) targets

abbrev pub begins_with_mark : List PieceItem → Bool
begins_with_mark [] = false
begins_with_mark (Do i ∷ items) = false
begins_with_mark (Mark mark ∷ items) = true
begins_with_mark (Jump op to o ∷ items) = false
begins_with_mark (CallTo name o ∷ items) = false

-- jumps lead to the word behind an instruction where a mark stands there, and never to its second word
abbrev pub CutsAtMarks : List ℕ → ℕ → List PieceItem → Type 0
CutsAtMarks targets at [] = ⊤
CutsAtMarks targets at (Do i ∷ items) =
    (leads_between targets at (at + length_of (second_word i)) ≡ begins_with_mark items) × CutsAtMarks targets (at + length_of (second_word i)) items
CutsAtMarks targets at (Mark mark ∷ items) = CutsAtMarks targets at items
CutsAtMarks targets at (Jump op to o ∷ items) = (leads_between targets at (at + 2) ≡ begins_with_mark items) × CutsAtMarks targets (at + 2) items
CutsAtMarks targets at (CallTo name o ∷ items) = (leads_between targets at (at + 2) ≡ begins_with_mark items) × CutsAtMarks targets (at + 2) items

module _ (gives : Known → Placed → Option ℕ) (marks : ℕ → ℕ) (names : List ℕ → ℕ) where
  abbrev pub items_blocks : Known → List ℕ → ℕ → List PieceItem → List (List ℕ)
  items_blocks k block at [] = closed block []
  items_blocks k block at (Do i ∷ items) =
      go_on (ends_stretch i) (known_behind k i) (with_given block (gives k (placed_at at i))) (λ known more. items_blocks known more (at + length_of (second_word i)) items)
  items_blocks k block at (Mark mark ∷ items) = closed block (items_blocks nothing_known [] at items)
  items_blocks k block at (Jump op to o ∷ items) =
      closed (with_given block (gives k (placed_at at (Branch op (marks to) o)))) (items_blocks nothing_known [] (at + 2) items)
  items_blocks k block at (CallTo name o ∷ items) =
      closed (with_given block (gives k (placed_at at (Call (names name) o)))) (items_blocks nothing_known [] (at + 2) items)

  mark_closes : (items : List PieceItem) (k : Known) (block : List ℕ) (at : ℕ) → begins_with_mark items ≡ true → items_blocks k block at items ≡ closed block (items_blocks nothing_known [] at items)
  mark_closes [] k block at e = absurd cc
  mark_closes (Do i ∷ items) k block at e = absurd cc
  mark_closes (Mark mark ∷ items) k block at e = refl
  mark_closes (Jump op to o ∷ items) k block at e = absurd cc
  mark_closes (CallTo name o ∷ items) k block at e = absurd cc

  -- at a mark nothing is left of the stretch before
  pub record IsFresh (items : List PieceItem) (k : Known) (block : List ℕ) : Type 0 where
    pub known : begins_with_mark items ≡ true → k ≡ nothing_known
    pub none : begins_with_mark items ≡ true → block ≡ []

  pub begun : (items : List PieceItem) → IsFresh items nothing_known []
  begun items = record { known = λ e. refl; none = λ e. refl }

  module _ (targets : List ℕ) where
    abbrev pub Same : ℕ → List PieceItem → Type 0
    Same at items = (k : Known) (block : List ℕ) → IsFresh items k block → placed_blocks gives targets k block (placed_from at (items_code marks names items)) ≡ items_blocks k block at items

    behind_instr : (ends : Bool) (items : List PieceItem) (at : ℕ) (k : Known) (block : List ℕ) → Same at items
        → go_on (ends || begins_with_mark items) k block (λ known more. placed_blocks gives targets known more (placed_from at (items_code marks names items)))
        ≡ go_on ends k block (λ known more. items_blocks known more at items)
    behind_instr true items at k block same = ap (closed block) (same nothing_known [] (begun items))
    behind_instr false items at k block same = by (begins_with_mark items) refl
      where
        by : (b : Bool) → begins_with_mark items ≡ b → go_on b k block (λ known more. placed_blocks gives targets known more (placed_from at (items_code marks names items))) ≡ items_blocks k block at items
        by true e = ap (closed block) (same nothing_known [] (begun items)) ∙ sym (mark_closes items k block at e)
        by false e = same k block (record { known = λ f. absurd cc; none = λ f. absurd cc })

    pub items_fold : (items : List PieceItem) (at : ℕ) → CutsAtMarks targets at items → Same at items
    items_fold [] at cuts k block fresh = refl
    items_fold (Do i ∷ items) at cuts k block fresh =
        ap
        (λ b. go_on (ends_stretch i || b) (known_behind k i) (with_given block (gives k (placed_at at i)))
        (λ known more. placed_blocks gives targets known more (placed_from (at + length_of (second_word i)) (items_code marks names items))))
        cuts.0
        ∙ behind_instr (ends_stretch i) items (at + length_of (second_word i)) _ _ (items_fold items (at + length_of (second_word i)) cuts.1)
    items_fold (Mark mark ∷ items) at cuts k block fresh =
        ap (λ known. placed_blocks gives targets known block (placed_from at (items_code marks names items))) (fresh.known refl)
        ∙ ap (λ more. placed_blocks gives targets nothing_known more (placed_from at (items_code marks names items))) (fresh.none refl)
        ∙ items_fold items at cuts nothing_known [] (begun items)
        ∙ ap (λ more. closed more (items_blocks nothing_known [] at items)) (sym (fresh.none refl))
    items_fold (Jump op to o ∷ items) at cuts k block fresh =
        ap (closed (with_given block (gives k (placed_at at (Branch op (marks to) o))))) (items_fold items (at + 2) cuts.1 nothing_known [] (begun items))
    items_fold (CallTo name o ∷ items) at cuts k block fresh =
        ap (closed (with_given block (gives k (placed_at at (Call (names name) o))))) (items_fold items (at + 2) cuts.1 nothing_known [] (begun items))
