-- Linked items that stand in memory are the items with their marks at their addresses, and emitted marks are apart.
use Rattle.std.proofs.Common.{◌≡◌, ◌⊎◌, inl, inr, ℕ, ◌+◌, ◌<◌, ◌≤◌, List, [], ◌∷◌, ◌++◌, refl, sym, ap, ◌∙◌, subst, cond, arith, ⊎_elim}
use Rattle.std.proofs.lemmas.Bool.{eq-eqb, ne_eqb}
use Rattle.c25_isa.specs.declared.piece.PieceItem.{PieceItem}
use Rattle.c25_isa.specs.declared.piece.PieceItem.TheVariants.{Do, Mark, Jump, CallTo}
use Rattle.c25_isa.specs.State.{Memory}
use Rattle.c25_isa.specs.Step.{wrap16}
use Rattle.c25_isa.specs.Table.{second_word, length_of}
use Rattle.c25_isa.specs.CodeAt.{CodeAt}
use Rattle.c25_isa.specs.Pieces.{items_size, mark_address, items_code, ItemsAt}
use Rattle.c25_code.specs.Straight.{code_size}
use Rattle.c25_code.specs.Links.{IsMarkOf, MarksDiffer, MarksAtWords}
use Rattle.c25_code.proofs.Items.{items_size-append}

-- the marks are the addresses
abbrev Placed : (ℕ → ℕ) → ℕ → List PieceItem → Type 0
Placed marks at items = (m : ℕ) → IsMarkOf m items → marks m ≡ wrap16 (mark_address at items m)

items_placed : (program : Memory) (marks : ℕ → ℕ) (names : List ℕ → ℕ) (items : List PieceItem) (at : ℕ) → MarksDiffer items → MarksAtWords items → at + items_size items ≤ 65536 → Placed marks at items → CodeAt program at (items_code marks names items) → ItemsAt program marks names at items
items_placed program marks names [] at apart words fits placed code = tt
items_placed program marks names (Do i ∷ items) at apart words fits placed code = (code.0, items_placed program marks names items (at + length_of (second_word i)) apart words (omega (arith, fits)) placed code.1)
items_placed program marks names (Jump op to o ∷ items) at apart words fits placed code = (code.0, items_placed program marks names items (at + 2) apart words (omega (arith, fits)) placed code.1)
items_placed program marks names (CallTo name o ∷ items) at apart words fits placed code = (code.0, items_placed program marks names items (at + 2) apart words (omega (arith, fits)) placed code.1)
items_placed program marks names (Mark mark ∷ items) at apart words fits placed code =
    let low : at < 65536 = omega (arith, fits, words.0) in
    let here : wrap16 at ≡ at = omega (arith, low) in
    let e : at + 0 ≡ at = omega arith in (
      placed mark (inl refl) ∙ ap (λ b. wrap16 (cond b at (mark_address (at + 0) items mark))) (eq-eqb mark mark refl) ∙ here,
      items_placed program marks names items at apart.1 words.1 (omega (arith, fits)) (λ m below. placed m (inr below) ∙ ap (λ b. wrap16 (cond b at (mark_address (at + 0) items m))) (ne_eqb mark m (λ same. apart.0 (subst (λ k. IsMarkOf k items) (sym same) below))) ∙ ap (λ k. wrap16 (mark_address k items m)) e) code,
    )

-- linked items stand as they are meant
pub items_stand : (program : Memory) (names : List ℕ → ℕ) (items : List PieceItem) (at : ℕ) → MarksDiffer items → MarksAtWords items → at + items_size items ≤ 65536 → CodeAt program at (items_code (λ mark. wrap16 (mark_address at items mark)) names items) → ItemsAt program (λ mark. wrap16 (mark_address at items mark)) names at items
items_stand program names items at apart words fits code = items_placed program (λ mark. wrap16 (mark_address at items mark)) names items at apart words fits (λ m here. refl) code

pub items_code-size : (marks : ℕ → ℕ) (names : List ℕ → ℕ) (items : List PieceItem) → code_size (items_code marks names items) ≡ items_size items
items_code-size marks names [] = refl
items_code-size marks names (Do i ∷ items) = omega (arith, items_code-size marks names items)
items_code-size marks names (Jump op to o ∷ items) = omega (arith, items_code-size marks names items)
items_code-size marks names (CallTo name o ∷ items) = omega (arith, items_code-size marks names items)
items_code-size marks names (Mark mark ∷ items) = omega (arith, items_code-size marks names items)

-- the marks of items one behind another
mark_of-append : (m : ℕ) (a b : List PieceItem) → IsMarkOf m (a ++ b) → IsMarkOf m a ⊎ IsMarkOf m b
mark_of-append m [] b h = inr h
mark_of-append m (Do i ∷ a) b h = mark_of-append m a b h
mark_of-append m (Jump op to o ∷ a) b h = mark_of-append m a b h
mark_of-append m (CallTo name o ∷ a) b h = mark_of-append m a b h
mark_of-append m (Mark mark ∷ a) b h =
    ⊎_elim (λ e. inl (inl e)) (λ more. ⊎_elim (λ x. inl (inr x)) (λ y. inr y) (mark_of-append m a b more)) h

pub differ-append : (a b : List PieceItem) → MarksDiffer a → MarksDiffer b → ((m : ℕ) → IsMarkOf m a → IsMarkOf m b → ⊥) → MarksDiffer (a ++ b)
differ-append [] b f g none = g
differ-append (Do i ∷ a) b f g none = differ-append a b f g none
differ-append (Jump op to o ∷ a) b f g none = differ-append a b f g none
differ-append (CallTo name o ∷ a) b f g none = differ-append a b f g none
differ-append (Mark mark ∷ a) b f g none = (
  λ h. ⊎_elim f.0 (none mark (inl refl)) (mark_of-append mark a b h),
  differ-append a b f.1 g (λ m x y. none m (inr x) y),
)

-- a word stands behind each mark where words stand behind all
pub at_words_before : (a b : List PieceItem) → 1 ≤ items_size b → MarksAtWords b → MarksAtWords (a ++ b)
at_words_before [] b some g = g
at_words_before (Do i ∷ a) b some g = at_words_before a b some g
at_words_before (Jump op to o ∷ a) b some g = at_words_before a b some g
at_words_before (CallTo name o ∷ a) b some g = at_words_before a b some g
at_words_before (Mark mark ∷ a) b some g = (omega (arith, some, items_size-append a b), at_words_before a b some g)
