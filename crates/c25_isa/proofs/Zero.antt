-- A board that holds zero everywhere but in its first program words.
use Rattle.std.proofs.Common.{◌≡◌, ℕ, zero, suc, ◌≤◌, List, [], ◌∷◌, ◌++◌, length, get_or, take, false, refl, ap, ◌∙◌}
use Rattle.std.specs.Prelude.{replicate}
use Rattle.std.proofs.lemmas.List.{take_all}
use mathlib.Core.Path.{fun_ext}
use Rattle.c25_isa.specs.State.{Memory, Start, words_at, zero_start}

-- n zeros
abbrev none : ℕ → List ℕ
none n = replicate n 0

zero_at : (n a : ℕ) → get_or (none n) a 0 ≡ zero
zero_at zero a = refl
zero_at (suc n) zero = refl
zero_at (suc n) (suc a) = zero_at n a

-- zeros behind words change nothing
padded_at : (words : List ℕ) (n a : ℕ) → get_or (words ++ none n) a 0 ≡ get_or words a 0
padded_at [] n a = zero_at n a
padded_at (w ∷ ws) n zero = refl
padded_at (w ∷ ws) n (suc a) = padded_at ws n a

zeros : (n : ℕ) → words_at (replicate n 0) ≡ (λ a. 0)
zeros n = fun_ext (zero_at n)

-- the words, filled up with zeros or cut
filled : (words : List ℕ) (n len : ℕ) → length words ≤ n → words_at (take n words ++ replicate len 0) ≡ words_at words
filled words n len short = ap (λ l. words_at (l ++ replicate len 0)) (take_all n words short) ∙ fun_ext (padded_at words len)

same_start : (words : List ℕ) (ar program ram : Memory) → ar ≡ (λ n. 0) → program ≡ words_at words → ram ≡ (λ a. 0) → record { acc = 0; t = 0; p = 0; ar = ar; arp = 0; dp = 0; sxm = false; ovm = false; pm = 0; program = program; ram = ram } ≡ zero_start words
same_start words ar program ram e f g =
    let made : Memory → Memory → Memory → Start = λ x y z. record { acc = 0; t = 0; p = 0; ar = x; arp = 0; dp = 0; sxm = false; ovm = false; pm = 0; program = y; ram = z } in
    ap (λ x. made x program ram) e ∙ ap (λ y. made (λ n. 0) y ram) f ∙ ap (made (λ n. 0) (words_at words)) g

pub zero_start_is : (words program ram : List ℕ) (n len : ℕ) → length words ≤ n → program ≡ take n words ++ replicate len 0 → ram ≡ replicate n 0 → record { acc = 0; t = 0; p = 0; ar = words_at (0 ∷ 0 ∷ 0 ∷ 0 ∷ 0 ∷ 0 ∷ 0 ∷ 0 ∷ []); arp = 0; dp = 0; sxm = false; ovm = false; pm = 0; program = words_at program; ram = words_at ram } ≡ zero_start words
zero_start_is words program ram n len short p r =
    same_start words (words_at (0 ∷ 0 ∷ 0 ∷ 0 ∷ 0 ∷ 0 ∷ 0 ∷ 0 ∷ [])) (words_at program) (words_at ram) (zeros 8) (ap words_at p ∙ filled words n len short) (ap words_at r ∙ zeros n)
