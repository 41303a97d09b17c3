-- Ways through the part of a signed routine that makes ACC the size of a word.
use Rattle.std.proofs.Common.{◌≡◌, ℕ, ◌+◌, ◌*◌, ◌^◌, ◌<◌, ◌≤◌, List, [], ◌∷◌, refl, arith}
use Rattle.c25_isa.specs.declared.instruction.JumpOp.TheVariants.{Bgez}
use Rattle.c25_isa.specs.declared.instruction.Instr.TheVariants.{Neg}
use Rattle.c25_isa.specs.declared.piece.PieceItem.{PieceItem}
use Rattle.c25_isa.specs.declared.piece.PieceItem.TheVariants.{Do, Mark, Jump}
use Rattle.c25_isa.specs.Pieces.{items_size}
use Rattle.c25_isa.specs.State.{Memory}
use Rattle.c25_isa.specs.Step.{wrap16, minus}
use Rattle.c25_helper.specs.Routines.{no_change}
use Rattle.c25_helper.proofs.Quotients.{size, size_positive, size_negative}
use Rattle.c25_helper.proofs.Loads.{loaded, loaded_positive, loaded_negative, is_negative, is_positive, at_least_taken, at_least_passed}
use Rattle.c25_helper.proofs.Ways.{Visit, busy, Back, FromMark, wider, code_back, jump_back, mark_back}

-- a word that isn't negative is its size, and of another one it is the other sign
positive_stored : (w : ℕ) → w < 32768 → wrap16 (loaded w * 2 ^ 0) ≡ size w
positive_stored w lt = omega (arith, loaded_positive w lt, size_positive w lt)

negative_stored : (w : ℕ) → 32768 ≤ w → w < 65536 → wrap16 (minus 0 (loaded w) * 2 ^ 0) ≡ size w
negative_stored w le lt = omega (arith, loaded_negative w le lt, size_negative w le)

pub size_back : (v : Visit) (mark : ℕ) (rest : List PieceItem) (most word : ℕ) (ram : Memory) → 1 ≤ items_size rest → word < 65536 → ((acc : ℕ) → wrap16 (acc * 2 ^ 0) ≡ size word → FromMark v mark most (busy v acc ram))
    → Back v (Jump Bgez mark no_change ∷ Do Neg ∷ Mark mark ∷ rest) (1 + (1 + most)) (busy v (loaded word) ram)
size_back v mark rest most word ram some lt next =
    jump_back v Bgez mark (Do Neg ∷ Mark mark ∷ rest) (1 + most) (busy v (loaded word) ram) (omega arith)
    (λ e. wider v most (1 + most) (omega arith) (next (loaded word) (positive_stored word (is_positive word lt (at_least_taken (loaded word) e)))))
    (λ e.
    code_back v (Neg ∷ []) (Mark mark ∷ rest) most (busy v (loaded word) ram) (omega (arith, some)) (search arith) (tt, tt) refl
    (mark_back v mark rest most (busy v (minus 0 (loaded word)) ram) (next (minus 0 (loaded word)) (negative_stored word (is_negative word lt (at_least_passed (loaded word) e)) lt))))
