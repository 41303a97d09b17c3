-- A turn of a loop over a list.
use Rattle.std.proofs.Common.{◌≡◌, ℕ, ◌+◌, ◌<◌, List, ◌∷◌, drop, get_or, length, ap, sym, ◌∙◌}
use Rattle.std.proofs.lemmas.List.{drop_more}

-- its element is the first of what is left
pub first_left : {A : Type 0} (list : List A) (i : ℕ) (x : A) → x ≡ get_or list i x → i < length list → drop i list ≡ x ∷ drop (i + 1) list
first_left list i x is below = drop_more list i x below ∙ ap (λ e. e ∷ drop (i + 1) list) (sym is)
