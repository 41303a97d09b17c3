-- The first and the last scalar of a list.
use Rattle.std.proofs.Common.{◌≡◌, ◌-◌, ◌∙◌, ℕ, zero, suc, List, [], ◌∷◌, Some, refl, length, reverse, ap, sym, inl, inr, arith}
use Rattle.std.specs.Prelude.{◌==◌, nat_lt, nat_le, if◌then◌else◌}
use Rattle.std.specs.List.{slice_get, list_all}
use Rattle.std.proofs.lemmas.Bool.{cases_lt, lt-ltb, le-ltb, lt-leb, le-leb}
use Rattle.std.proofs.lemmas.Option.{none-some, same_Some, slice_get_within}
use Rattle.lay_tree.specs.Bound.{last_of}
use Rattle.lay_tree.specs.Greedy.{is_first, is_last, from_smaller_end}

last_at : (list : List ℕ) (i x : ℕ) → suc i ≡ length list → slice_get list i ≡ Some x → last_of list ≡ x ∷ []
last_at [] i x l e = absurd (none-some x e)
last_at (s ∷ []) zero x l e = ap (λ v. v ∷ []) (same_Some s x e)
last_at (s ∷ []) (suc i) x l e = absurd (omega (arith, l))
last_at (s ∷ t ∷ ss) zero x l e = absurd (omega (arith, l))
last_at (s ∷ t ∷ ss) (suc i) x l e = last_at (t ∷ ss) i x (omega (arith, l)) e

last_one : (list : List ℕ) (x : ℕ) → slice_get list (length list - 1) ≡ Some x → last_of list ≡ x ∷ []
last_one list x e = last_at list (length list - 1) x (omega (arith, slice_get_within list (length list - 1) x e)) e

pub is_last_at : (s : ℕ) (list : List ℕ) (x : ℕ) → slice_get list (length list - 1) ≡ Some x → (x == s) ≡ is_last s list
is_last_at s list x e = sym (ap (is_first s) (last_one list x e))

by_order : (s last : ℕ) (list : List ℕ) → (if list_all (nat_le s) (last ∷ []) then list else reverse list) ≡ (if nat_lt last s then reverse list else list)
by_order s last list = elim (cases_lt last s) [
  | inl less ↦ rw (lt-ltb last s less, lt-leb s last less) refl
  | inr more ↦ rw (le-ltb last s more, le-leb s last more) refl
]

pub turned_is : (list : List ℕ) (first last : ℕ) → slice_get list 0 ≡ Some first → slice_get list (length list - 1) ≡ Some last → from_smaller_end list ≡ (if nat_lt last first then reverse list else list)
turned_is [] first last f l = absurd (none-some first f)
turned_is (s ∷ ss) first last f l =
    ap (λ ends. if list_all (nat_le s) ends then s ∷ ss else reverse (s ∷ ss)) (last_one (s ∷ ss) last l)
    ∙ (by_order s last (s ∷ ss) ∙ ap (λ x. if nat_lt last x then reverse (s ∷ ss) else s ∷ ss) (same_Some s first f))
