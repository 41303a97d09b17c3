-- The low half of ACC behind a load.
use Rattle.std.proofs.Common.{◌≡◌, ℕ, ◌+◌, ◌*◌, ◌^◌, ◌<◌, Bool, true, false, ap, ◌∙◌, arith, cond, ⊎_elim}
use Rattle.std.proofs.lemmas.Bool.{lt-ltb, le-ltb, cases_lt}
use Rattle.c25_isa.specs.Step.{wrap16, wrap32, extended}

-- a word that was loaded, with its sign or without
pub low_half : (b : Bool) (c : ℕ) → c < 65536 → wrap16 (wrap32 (extended b c * 2 ^ 0)) ≡ c
low_half false c lt = omega arith
low_half true c lt =
    ⊎_elim
    (λ small. ap (λ t. wrap16 (wrap32 (cond t c (c + 4294901760) * 2 ^ 0))) (lt-ltb c 32768 small) ∙ (omega arith))
    (λ large. ap (λ t. wrap16 (wrap32 (cond t c (c + 4294901760) * 2 ^ 0))) (le-ltb c 32768 large) ∙ (omega arith))
    (cases_lt c 32768)
