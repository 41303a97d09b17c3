-- The line of a function, read from both ends.
use Rattle.std.proofs.Common.{◌≡◌, ℕ, List, ◌++◌, length, take, drop, refl, sym, ap, ◌∙◌, arith, length-append}
use Rattle.std.proofs.lemmas.List.{take_at, drop_at}

-- texts with ends of one length
pub cut_end : (a b c d : List ℕ) → a ++ b ≡ c ++ d → length b ≡ length d → (a ≡ c) × (b ≡ d)
cut_end a b c d e len =
    let n : length a ≡ length c = omega (arith, ap length e, length-append a b, length-append c d) in
    (sym (take_at a b (length c) n) ∙ ap (take (length c)) e ∙ take_at c d (length c) refl, sym (drop_at a b (length c) n) ∙ ap (drop (length c)) e ∙ drop_at c d (length c) refl)
