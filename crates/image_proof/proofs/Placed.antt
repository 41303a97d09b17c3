-- Each scalar of an arrangement stands at a position of one list, and its place is by that list's base.
use Rattle.std.proofs.Common.{◌≡◌, ◌<◌, ◌≤◌, ℕ, zero, suc, ◌+◌, Bool, true, false, cond, List, [], ◌∷◌, ◌++◌, length, Option, Some, None, refl, ap, ◌∙◌, eqb-true, arith}
use Rattle.std.specs.Prelude.{◌==◌, if◌then◌else◌, slice_get, count_by}
use Rattle.std.specs.List.{concat}
use Rattle.std.proofs.lemmas.List.Sums.{sum_by-append}
use Rattle.c25_isa.specs.Step.{wrap16}
use Rattle.emit_blocks.specs.declared.site.ScalarPlace.{ScalarPlace}
use Rattle.mem_plan.specs.Plan.{list_bases}
use Rattle.frame_emit.specs.Frames.{place, one_further, position_in, place_or, scalar_place, scalar_places}

-- where it stands in a list, or that it doesn't
abbrev IsPositioned : List ℕ → ℕ → Option ℕ → Type 0
IsPositioned l n None = count_by (λ s. s == n) l ≡ 0
IsPositioned l n (Some i) = slice_get l i ≡ Some n

abbrev counted : Bool → ℕ
counted b = cond b 1 0

positioned_by : (m : ℕ) (ms : List ℕ) (n : ℕ) (b : Bool) → (m == n) ≡ b → (o : Option ℕ) → IsPositioned ms n o → IsPositioned (m ∷ ms) n (if b then Some 0 else one_further o)
positioned_by m ms n true is o h = ap Some (eqb-true m n is)
positioned_by m ms n false is None h =
    let split : count_by (λ s. s == n) (m ∷ ms) ≡ 0 + counted (m == n) + count_by (λ s. s == n) ms = sum_by-append (λ s. counted (s == n)) (m ∷ []) ms in
    let none : counted (m == n) ≡ 0 = ap counted is in
    omega (arith, split, none, h)
positioned_by m ms n false is (Some i) h = h

positioned : (l : List ℕ) (n : ℕ) → IsPositioned l n (position_in l n)
positioned [] n = refl
positioned (m ∷ ms) n = positioned_by m ms n (m == n) refl (position_in ms n) (positioned ms n)

pub record PlacedScalar (lists : List (List ℕ)) (at r n : ℕ) : Type 0 where
  pub number : ℕ
  pub position : ℕ
  pub list : List ℕ
  pub base : ℕ
  pub there : slice_get lists number ≡ Some list
  pub based : slice_get (list_bases at lists) number ≡ Some base
  pub stands : slice_get list position ≡ Some n
  pub placed : scalar_place lists (list_bases at lists) r n ≡ place (r + number) (wrap16 (base + position))

pub placed_scalar : (lists : List (List ℕ)) (at r n : ℕ) → 1 ≤ count_by (λ s. s == n) (concat lists) → PlacedScalar lists at r n
placed_scalar [] at r n some = absurd (omega (arith, some))
placed_scalar (l ∷ ls) at r n some = by (position_in l n) refl (positioned l n) (placed_scalar ls (at + length l) (suc r) n)
  where
    by : (o : Option ℕ) → position_in l n ≡ o → IsPositioned l n o → (1 ≤ count_by (λ s. s == n) (concat ls) → PlacedScalar ls (at + length l) (suc r) n) → PlacedScalar (l ∷ ls) at r n
    by None is none rest =
        let sum : count_by (λ s. s == n) (l ++ concat ls) ≡ count_by (λ s. s == n) l + count_by (λ s. s == n) (concat ls) = sum_by-append (λ s. counted (s == n)) l (concat ls) in
        let h = rest (omega (arith, sum, some, none)) in
        let further : suc r + h.number ≡ r + suc h.number = omega arith in
        record {
          number = suc h.number;
          position = h.position;
          list = h.list;
          base = h.base;
          there = h.there;
          based = h.based;
          stands = h.stands;
          placed = ap (λ o. place_or o at r (scalar_place ls (list_bases (at + length l) ls) (suc r) n)) is ∙ h.placed ∙ ap (λ k. place k (wrap16 (h.base + h.position))) further;
        }
    by (Some i) is stands rest =
        let same : r ≡ r + 0 = omega arith in
        record {
          number = 0;
          position = i;
          list = l;
          base = at;
          there = refl;
          based = refl;
          stands = stands;
          placed = ap (λ o. place_or o at r (scalar_place ls (list_bases (at + length l) ls) (suc r) n)) is ∙ ap (λ k. place k (wrap16 (at + i))) same;
        }

-- registers go from the first one on, and addresses are words
pub record IsPlaced (p : ScalarPlace) : Type 0 where
  pub own : 2 ≤ p.register
  pub few : p.register < 8
  pub word : p.address < 65536

placed_by : (o : Option ℕ) (base r : ℕ) (other : ScalarPlace) → 2 ≤ r → r < 8 → IsPlaced other → IsPlaced (place_or o base r other)
placed_by None base r other two few h = h
placed_by (Some i) base r other two few h = record { own = two; few = few; word = omega arith }

pub is_placed : (lists : List (List ℕ)) (bases : List ℕ) (r n : ℕ) → 2 ≤ r → r + length lists ≤ 8 → IsPlaced (scalar_place lists bases r n)
is_placed [] bases r n two few = record { own = omega arith; few = omega arith; word = omega arith }
is_placed (l ∷ ls) [] r n two few = record { own = omega arith; few = omega arith; word = omega arith }
is_placed (l ∷ ls) (b ∷ bs) r n two few =
    placed_by (position_in l n) b r (scalar_place ls bs (suc r) n) two (omega (arith, few)) (is_placed ls bs (suc r) n (omega (arith, two)) (omega (arith, few)))

-- those of all scalars
pub places_long : (lists : List (List ℕ)) (bases : List ℕ) (n count : ℕ) → length (scalar_places lists bases n count) ≡ count
places_long lists bases n zero = refl
places_long lists bases n (suc count) = ap suc (places_long lists bases (suc n) count)

pub place_there : (lists : List (List ℕ)) (bases : List ℕ) (n count k : ℕ) → k < count → slice_get (scalar_places lists bases n count) k ≡ Some (scalar_place lists bases 2 (n + k))
place_there lists bases n zero k less = absurd (omega (arith, less))
place_there lists bases n (suc count) zero less =
    let here : n ≡ n + 0 = omega arith in
    ap (λ k. Some (scalar_place lists bases 2 k)) here
place_there lists bases n (suc count) (suc k) less =
    let further : suc n + k ≡ n + suc k = omega arith in
    place_there lists bases (suc n) count k (omega (arith, less)) ∙ ap (λ k. Some (scalar_place lists bases 2 k)) further
