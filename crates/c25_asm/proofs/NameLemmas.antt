-- Names as a relation and as a test.
use Rattle.std.proofs.Common.{◌≡◌, ℕ, Bool, true, false, List, length, refl, subst, Bor, Option, Some, None}
use Rattle.std.specs.Prelude.{nat_le, ◌&&◌, slice_index, MatchOption}
use Rattle.std.specs.Bool.{Decides}
use Rattle.std.specs.List.{list_all}
use Rattle.std.proofs.lemmas.Bool.{leb-true, le-leb}
use Rattle.std.proofs.lemmas.Bool.Decides.{Decides-and, Decides-or, Decides-eqb, Decides-by_and}
use Rattle.word_base.specs.Name.{IsName, IsWithin, IsNameStart, IsNamePart}
use Rattle.c25_asm.specs.Names.{begins_name, is_in_name, is_name}

within : (low high c : ℕ) → Decides (nat_le low c && nat_le c high) (IsWithin low high c)
within low high c = Decides-and (nat_le low c) (nat_le c high) (leb-true low c, le-leb low c) (leb-true c high, le-leb c high)

starts : (c : ℕ) → Decides (begins_name c) (IsNameStart c)
starts c = Decides-or _ _ (within 65 90 c) (Decides-or _ _ (within 97 122 c) (Decides-eqb c 95))

parts : (c : ℕ) → Decides (is_in_name c) (IsNamePart c)
parts c = Decides-or (begins_name c) _ (starts c) (within 48 57 c)

is_tested : (text : List ℕ) → IsName text → is_name text ≡ true
is_tested text h =
    (Decides-and _ _ (leb-true 1 (length text), le-leb 1 (length text))
    (Decides-and _ _ (leb-true (length text) 127, le-leb (length text) 127)
    (Decides-and _ _ (starts (slice_index text 0))
    (Decides-by_and is_in_name IsNamePart (list_all is_in_name) parts refl (λ _ _. refl) text)))).1 (h.from_one, (h.to_127, (h.first, h.each)))

tested_name : (text : List ℕ) → is_name text ≡ true → IsName text
tested_name text e =
    let h =
    (Decides-and _ _ (leb-true 1 (length text), le-leb 1 (length text))
    (Decides-and _ _ (leb-true (length text) 127, le-leb (length text) 127)
    (Decides-and _ _ (starts (slice_index text 0))
    (Decides-by_and is_in_name IsNamePart (list_all is_in_name) parts refl (λ _ _. refl) text)))).0 e in
    record { from_one = h.0; to_127 = h.1.0; first = h.1.1.0; each = h.1.1.1 }

not_tested : (text : List ℕ) → (IsName text → ⊥) → is_name text ≡ false
not_tested text none = by (is_name text) refl
  where
    by : (t : Bool) → is_name text ≡ t → is_name text ≡ false
    by true e = absurd (none (tested_name text e))
    by false e = e

-- what a search for a name answers, by the test
pub name_found : (text : List ℕ) (found : Option (Bor (List ℕ))) → MatchOption found (IsName text → ⊥) (λ name. IsName name.now × (name.now ≡ text))
    → MatchOption found (is_name text ≡ false) (λ name. (is_name text ≡ true) × (name.now ≡ text))
name_found text None none = not_tested text none
name_found text (Some name) h = (is_tested text (subst IsName h.1 h.0), h.1)
