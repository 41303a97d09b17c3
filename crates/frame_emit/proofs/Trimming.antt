-- Words up to the last one that isn't 0.
use Rattle.std.proofs.Common.{◌≡◌, ◌≢◌, ◌∙◌, ℕ, List, [], ◌∷◌, ◌++◌, map, refl, ap, sym, rules}
use Rattle.frame_emit.specs.Startup.{before_zeros, up_to_last}

without_zero : (ws : List ℕ) → up_to_last (ws ++ 0 ∷ []) ≡ up_to_last ws
without_zero [] = refl
without_zero (w ∷ ws) = ap (before_zeros w) (without_zero ws)

one_kept : (w : ℕ) → w ≢ 0 → before_zeros w [] ≡ w ∷ []
one_kept w kept = search rules

before_some : (v w : ℕ) (ws : List ℕ) → before_zeros v (ws ++ w ∷ []) ≡ v ∷ (ws ++ w ∷ [])
before_some v w [] = refl
before_some v w (x ∷ ws) = refl

with_word : (ws : List ℕ) (w : ℕ) → w ≢ 0 → up_to_last (ws ++ w ∷ []) ≡ ws ++ w ∷ []
with_word [] w kept = one_kept w kept
with_word (v ∷ ws) w kept = ap (before_zeros v) (with_word ws w kept) ∙ before_some v w ws

mapped : {A : Type 0} (f : A → ℕ) (before : List A) (last : A) → map f (before ++ last ∷ []) ≡ map f before ++ f last ∷ []
mapped f [] last = refl
mapped f (x ∷ before) last = ap (λ ws. f x ∷ ws) (mapped f before last)

-- of words of cells
pub last_is_zero : {A : Type 0} (f : A → ℕ) (all before : List A) (last : A) → all ≡ before ++ last ∷ [] → f last ≡ 0 → up_to_last (map f all) ≡ up_to_last (map f before)
last_is_zero f all before last is zero_word =
    ap (λ xs. up_to_last (map f xs)) is ∙ ap up_to_last (mapped f before last) ∙ ap (λ w. up_to_last (map f before ++ w ∷ [])) zero_word ∙ without_zero (map f before)

pub last_is_kept : {A : Type 0} (f : A → ℕ) (all before : List A) (last : A) → all ≡ before ++ last ∷ [] → f last ≢ 0 → map f all ≡ up_to_last (map f all)
last_is_kept f all before last is kept =
    let trimmed : map f all ≡ map f before ++ f last ∷ [] = ap (map f) is ∙ mapped f before last in
    trimmed ∙ sym (with_word (map f before) (f last) kept) ∙ ap up_to_last (sym trimmed)
