-- The jumps of a piece lead to first words of its instructions, and its calls to those of pieces.
use Rattle.std.proofs.Common.{◌≡◌, ◌⊎◌, inl, inr, ℕ, ◌+◌, ◌<◌, ◌≤◌, Bool, true, false, List, [], ◌∷◌, Option, Some, None, cond, refl, ap, sym, ◌∙◌, subst, eq-eqb, arith}
use Rattle.std.specs.Prelude.{◌==◌, ◌||◌, IfSome}
use Rattle.std.specs.List.{list_any, AllByRecursion}
use Rattle.std.proofs.lemmas.Bool.{or_left, or_right}
use Rattle.c25_isa.specs.declared.piece.PieceItem.{PieceItem}
use Rattle.c25_isa.specs.declared.piece.PieceItem.TheVariants.{Do, Mark, Jump, CallTo}
use Rattle.c25_isa.specs.declared.instruction.Instr.{Instr}
use Rattle.c25_isa.specs.Step.{wrap16}
use Rattle.c25_isa.specs.Table.{second_word, length_of}
use Rattle.c25_isa.specs.Pieces.{items_size, mark_address, items_code}
use Rattle.c25_isa.specs.Walk.{Placed, jump_target}
use Rattle.c25_code.specs.Links.{IsMarkOf, MarksAtWords}
use Rattle.image_proof.specs.emit_proof.Calls.{IsJumpTo, CallsAre}
use Rattle.image_proof.specs.RunWalks.{placed_from}
use Rattle.image_proof.proofs.Marking.{address_within}
use Rattle.image_proof.proofs.Targets.{JumpsByMarks, MarksAreRight}
use Rattle.image_proof.specs.Leading.{call_target}

abbrev has_at : ℕ → List Placed → Bool
has_at a ps = list_any (λ p. p.at == a) ps

-- no instruction of an item calls by itself
abbrev pub CallsByNames : List PieceItem → Type 0
CallsByNames [] = Unit {0}
CallsByNames (Do i ∷ items) = (call_target i ≡ None) × CallsByNames items
CallsByNames (Mark mark ∷ items) = CallsByNames items
CallsByNames (Jump op to o ∷ items) = CallsByNames items
CallsByNames (CallTo name o ∷ items) = CallsByNames items

module _ (marks : ℕ → ℕ) (names : List ℕ → ℕ) where
  abbrev placed : ℕ → List PieceItem → List Placed
  placed at items = placed_from at (items_code marks names items)

  here : (at a : ℕ) (rest : List Placed) → at ≡ a → ((at == a) || has_at a rest) ≡ true
  here at a rest same = or_left (at == a) (has_at a rest) (eq-eqb at a same)

  -- where items have a word their first instruction stands
  first_there : (items : List PieceItem) (at : ℕ) → 1 ≤ items_size items → has_at at (placed at items) ≡ true
  first_there [] at some = absurd (omega (arith, some))
  first_there (Do i ∷ items) at some = here at at _ refl
  first_there (Mark mark ∷ items) at some = first_there items at (omega (arith, some))
  first_there (Jump op to o ∷ items) at some = here at at _ refl
  first_there (CallTo name o ∷ items) at some = here at at _ refl

  -- a mark is at the first word of an instruction
  mark_there : (items : List PieceItem) (at m : ℕ) → MarksAtWords items → IsMarkOf m items → has_at (mark_address at items m) (placed at items) ≡ true
  mark_there [] at m words is = absurd is
  mark_there (Do i ∷ items) at m words is = or_right (at == mark_address (at + length_of (second_word i)) items m) _ (mark_there items (at + length_of (second_word i)) m words is)
  mark_there (Mark mark ∷ items) at m words is = by (mark == m) refl is (λ later. mark_there items at m words.1 later)
    where
      same : mark_address (at + 0) items m ≡ mark_address at items m
      same = let e : at + 0 ≡ at = omega arith in ap (λ a. mark_address a items m) e

      by : (b : Bool) → (mark == m) ≡ b → (mark ≡ m) ⊎ IsMarkOf m items → (IsMarkOf m items → has_at (mark_address at items m) (placed at items) ≡ true) → has_at (cond b at (mark_address (at + 0) items m)) (placed at items) ≡ true
      by true e is more = first_there items at words.0
      by false e (inl there) more = let f : (mark == m) ≡ true = eq-eqb mark m there in absurd cc
      by false e (inr later) more = ap (λ a. has_at a (placed at items)) same ∙ more later
  mark_there (Jump op to o ∷ items) at m words is = or_right (at == mark_address (at + 2) items m) _ (mark_there items (at + 2) m words is)
  mark_there (CallTo name o ∷ items) at m words is = or_right (at == mark_address (at + 2) items m) _ (mark_there items (at + 2) m words is)

  abbrev LeadsIn : List Placed → Placed → Type 0
  LeadsIn all p = IfSome (jump_target p.instr) (λ to. has_at to all ≡ true)

  no_jump : (all : List Placed) (o : Option ℕ) → o ≡ None → IfSome o (λ to. has_at to all ≡ true)
  no_jump all None is = tt
  no_jump all (Some to) is = absurd cc

  -- jumps lead there where their marks are
  jumps_lead : (all : List Placed) (items : List PieceItem) (at : ℕ) → JumpsByMarks items → ((m : ℕ) → IsJumpTo m items → has_at (marks m) all ≡ true) → AllByRecursion (LeadsIn all) (placed at items)
  jumps_lead all [] at plain lead = tt
  jumps_lead all (Do i ∷ items) at plain lead = (no_jump all (jump_target i) plain.0, jumps_lead all items (at + length_of (second_word i)) plain.1 lead)
  jumps_lead all (Mark mark ∷ items) at plain lead = jumps_lead all items at plain lead
  jumps_lead all (Jump op to o ∷ items) at plain lead = (lead to (inl refl), jumps_lead all items (at + 2) plain (λ m is. lead m (inr is)))
  jumps_lead all (CallTo name o ∷ items) at plain lead = (tt, jumps_lead all items (at + 2) plain lead)

  no_call : (P : ℕ → Type 0) (o : Option ℕ) → o ≡ None → IfSome o P
  no_call P None is = tt
  no_call P (Some to) is = absurd cc

  pub calls_lead : (P : ℕ → Type 0) (items : List PieceItem) (at : ℕ) → CallsByNames items → CallsAre (λ name. P (names name)) items → AllByRecursion (λ p. IfSome (call_target p.instr) P) (placed at items)
  calls_lead P [] at plain lead = tt
  calls_lead P (Do i ∷ items) at plain lead = (no_call P (call_target i) plain.0, calls_lead P items (at + length_of (second_word i)) plain.1 lead)
  calls_lead P (Mark mark ∷ items) at plain lead = calls_lead P items at plain lead
  calls_lead P (Jump op to o ∷ items) at plain lead = (tt, calls_lead P items (at + 2) plain lead)
  calls_lead P (CallTo name o ∷ items) at plain lead = (lead.0, calls_lead P items (at + 2) plain lead.1)

-- in a piece at an address
pub piece_jumps_within : (names : List ℕ → ℕ) (at : ℕ) (items : List PieceItem) → MarksAreRight at items
    → AllByRecursion (λ p. IfSome (jump_target p.instr) (λ to. has_at to (placed_from at (items_code (λ m. wrap16 (mark_address at items m)) names items)) ≡ true)) (placed_from at (items_code (λ m. wrap16 (mark_address at items m)) names items))
piece_jumps_within names at items right =
    jumps_lead marks names (placed marks names at items) items at right.plain
    (λ m is.
    let mark = right.stand m is in
    let low : mark_address at items m < at + items_size items = address_within items at m right.words mark in
    let same : mark_address at items m ≡ marks m = omega (arith, low, right.room) in
    subst (λ a. has_at a (placed marks names at items) ≡ true) same (mark_there marks names items at m right.words mark))
  where
    marks : ℕ → ℕ
    marks m = wrap16 (mark_address at items m)
