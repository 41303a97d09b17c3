-- No address is the place of two blocks: places rise along a function, and no two functions share a word.
use Rattle.std.proofs.Common.{◌≡◌, ℕ, zero, suc, ◌+◌, ◌-◌, ◌<◌, ◌≤◌, Bool, true, false, cond, List, [], ◌∷◌, ◌++◌, length, get_or, drop, map, refl, sym, ap, ◌∙◌, subst, arith, append_assoc, append-nil, length-drop, eqb-true}
use Rattle.std.specs.Prelude.{◌==◌, Option, Some, None, option_map, option_to_list, unwrap_or, count_by, slice_get, slice_range, nat_lt}
use Rattle.std.specs.List.{concat}
use Rattle.std.proofs.lemmas.Bool.{ne_eqb}
use Rattle.std.proofs.lemmas.List.{length-take-le}
use Rattle.std.proofs.lemmas.List.Sums.{sum_by-cons}
use Rattle.c25_isa.specs.declared.image.FunctionRange.{FunctionRange}
use Rattle.c25_isa.specs.Image.{Contents, IsImage, AreRanges}
use Rattle.c25_isa.specs.Decode.{Decoded}
use Rattle.c25_isa.specs.Walk.{Placed, Code, no_more, in_front, with_rest, code_from, code_of, is_cut_behind, access, listed}
use Rattle.c25_walk.specs.Places.{places_in}
use Rattle.c25_walk.specs.Marks.{targets_of}
use Rattle.c25_walk.specs.Walking.{Walking, started, begun, walked_over, cut_where, behind_one, behind_all}
use Rattle.c25_walk.proofs.Streams.{places_of_range}
use Rattle.lay_cost.specs.Parts.{StandOnce}
use Rattle.lay_profile.specs.Places.{ArePlaces}
use Rattle.lay_profile.proofs.Counts.{one_if}

-- ---- rising numbers

abbrev RiseWithin : ℕ → ℕ → List ℕ → Type 0
RiseWithin from to [] = Unit {0}
RiseWithin from to (a ∷ rest) = (from ≤ a) × ((a < to) × RiseWithin (a + 1) to rest)

wider : (from to less more : ℕ) (xs : List ℕ) → less ≤ from → to ≤ more → RiseWithin from to xs → RiseWithin less more xs
wider from to less more [] low high r = tt {0}
wider from to less more (a ∷ rest) low high r = (omega (arith, low, r.0), (omega (arith, high, r.1.0), wider (a + 1) to (a + 1) more rest (omega arith) high r.1.1))

joined : (from mid to : ℕ) (xs ys : List ℕ) → from ≤ mid → mid ≤ to → RiseWithin from mid xs → RiseWithin mid to ys → RiseWithin from to (xs ++ ys)
joined from mid to [] ys low high r s = wider mid to from to ys low (omega arith) s
joined from mid to (a ∷ rest) ys low high r s = (r.0, (omega (arith, high, r.1.0), joined (a + 1) mid to rest ys (omega (arith, r.1.0)) high r.1.1 s))

none_below : (from to : ℕ) (xs : List ℕ) (s : ℕ) → s < from → RiseWithin from to xs → count_by (λ x. x == s) xs ≡ 0
none_below from to [] s lt r = refl
none_below from to (a ∷ rest) s lt r =
    let other : one_if (a == s) ≡ 0 = ap one_if (ne_eqb a s (λ e. absurd (omega (arith, e, lt, r.0)))) in
    omega (arith, other, sum_by-cons (λ x. one_if (x == s)) a rest, none_below (a + 1) to rest s (omega (arith, lt, r.0)) r.1.1)

stand_once : (from to : ℕ) (xs : List ℕ) → RiseWithin from to xs → StandOnce xs
stand_once from to [] r = λ s. omega arith
stand_once from to (a ∷ rest) r = λ s. by s (stand_once (a + 1) to rest r.1.1 s) (a == s) refl
  where
    by : (s : ℕ) → count_by (λ x. x == s) rest ≤ 1 → (b : Bool) → (a == s) ≡ b → count_by (λ x. x == s) (a ∷ rest) ≤ 1
    by s once true e =
        let same : a ≡ s = eqb-true a s e in
        let here : one_if (a == s) ≡ 1 = ap one_if e in
        omega (arith, here, sum_by-cons (λ x. one_if (x == s)) a rest, none_below (a + 1) to rest s (omega (arith, same)) r.1.1)
    by s once false e =
        let other : one_if (a == s) ≡ 0 = ap one_if e in
        omega (arith, other, once, sum_by-cons (λ x. one_if (x == s)) a rest)

-- ---- the instructions of a range

abbrev addresses_of : List Placed → List ℕ
addresses_of placed = map (λ p. p.at) placed

front_rises : (at left size : ℕ) (d : Decoded) (rest : ℕ → Code) → 0 < size → ((n : ℕ) → RiseWithin (at + 1) (at + size) (addresses_of (rest n).placed))
    → RiseWithin at (at + size) (addresses_of (with_rest at left d rest).placed)
front_rises at left size None rest some rises = tt {0}
front_rises at left size (Some (i, len)) rest some rises = by (nat_lt left len)
  where
    by : (b : Bool) → RiseWithin at (at + size) (addresses_of (cond b (no_more (Some at)) (in_front (record { at = at; instr = i; behind = at + len }) (rest (len - 1)))).placed)
    by true = tt {0}
    by false = (omega arith, (omega (arith, some), rises (len - 1)))

code_rises : (at within : ℕ) (ws : List ℕ) → RiseWithin at (at + length ws) (addresses_of (code_from at within ws).placed)
code_rises at within [] = tt {0}
code_rises at (suc n) (w ∷ ws) = wider (at + 1) ((at + 1) + length ws) at (at + suc (length ws)) (addresses_of (code_from (at + 1) n ws).placed) (omega arith) (omega arith) (code_rises (at + 1) n ws)
code_rises at zero (w ∷ ws) =
    front_rises at (length ws + 1) (suc (length ws)) _ (λ within. code_from (at + 1) within ws) (omega arith)
    (λ n. wider (at + 1) ((at + 1) + length ws) (at + 1) (at + suc (length ws)) (addresses_of (code_from (at + 1) n ws).placed) (omega arith) (omega arith) (code_rises (at + 1) n ws))

-- ---- the places of a range

-- these are put behind the others, and rise
record Adds (old new : List ℕ) (from to : ℕ) : Type 0 where
  pub more : List ℕ
  pub is : new ≡ old ++ more
  pub rise : RiseWithin from to more

places_cut : (cut : Bool) (w : Walking) → (cut_where cut w).places ≡ w.places
places_cut true w = refl
places_cut false w = refl

adds_one : (at from to : ℕ) (old addresses new : List ℕ) (o : Option ℕ) → from ≤ at → at < to → new ≡ old ++ begun addresses (option_to_list (option_map (λ a. at) o))
    → (final : List ℕ) → Adds new final (at + 1) to → Adds old final from to
adds_one at from to old addresses new o low high is final rest = by addresses o is
  where
    same : new ≡ old ++ [] → Adds old final from to
    same e = record {
      more = rest.more;
      is = rest.is ∙ ap (λ l. l ++ rest.more) (e ∙ append-nil old);
      rise = wider (at + 1) to from to rest.more (omega (arith, low)) (omega arith) rest.rise;
    }

    by : (addresses : List ℕ) (o : Option ℕ) → new ≡ old ++ begun addresses (option_to_list (option_map (λ a. at) o)) → Adds old final from to
    by [] None e = same e
    by [] (Some a) e = record {
      more = at ∷ rest.more;
      is = rest.is ∙ ap (λ l. l ++ rest.more) e ∙ append_assoc old (at ∷ []) rest.more;
      rise = (low, (high, rest.rise));
    }
    by (b ∷ addresses) None e = same e
    by (b ∷ addresses) (Some a) e = same e

adds : (targets : List ℕ) (w : Walking) (ps : List Placed) (from to : ℕ) → RiseWithin from to (addresses_of ps) → Adds w.places (behind_all targets w ps).places from to
adds targets w [] from to rises = record { more = []; is = sym (append-nil w.places); rise = tt {0} }
adds targets w (p ∷ ps) from to rises =
    adds_one p.at from to w.places w.addresses (behind_one targets w p).places (listed (access w.known p.instr)) rises.0 rises.1.0
    (places_cut (is_cut_behind targets p) (walked_over w p))
    (behind_all targets w (p ∷ ps)).places
    (adds targets (behind_one targets w p) ps (p.at + 1) to rises.1.1)

range_rises : (words : List ℕ) (first last : ℕ) → first ≤ last → last < length words → RiseWithin first (last + 1) (places_in (code_of words first last))
range_rises words first last rises within =
    let range = slice_range words first (last + 1) in
    let long : length range ≡ last + 1 - first = length-take-le (last + 1 - first) (drop first words) (omega (arith, length-drop first words, rises, within)) in
    let code = code_of words first last in
    let added = adds (targets_of code.placed) started code.placed first (first + length range) (code_rises first 0 range) in
    subst (RiseWithin first (last + 1)) (sym (places_of_range code ∙ added.is))
    (wider first (first + length range) first (last + 1) added.more (omega arith) (omega (arith, long, rises)) added.rise)

-- ---- those of all functions

no_list : (l : List ℕ) (o : Option (List ℕ)) → o ≡ None → o ≡ Some l → ⊥
no_list l o none some = cc

all_rise : (words : List ℕ) (fs : List FunctionRange) (from : ℕ) (lists : List (List ℕ)) → from ≤ length words → AreRanges from (length words) fs
    → ((i : ℕ) → i < length lists → option_map (λ (f : FunctionRange). places_in (code_of words f.first f.last)) (slice_get fs i) ≡ Some (get_or lists i []))
    → RiseWithin from (length words) (concat lists)
all_rise words fs from [] most ranges are = tt {0}
all_rise words [] from (l ∷ lists) most ranges are = absurd (no_list l None refl (are 0 (omega arith)))
all_rise words (f ∷ fs) from (l ∷ lists) most ranges are =
    let here = ranges.0 in
    let is : places_in (code_of words f.first f.last) ≡ l = ap (λ o. unwrap_or o []) (are 0 (omega arith)) in
    joined from (f.last + 1) (length words) l (concat lists) (omega (arith, here.behind, here.rises)) (omega (arith, here.within))
    (wider f.first (f.last + 1) from (f.last + 1) l here.behind (omega arith) (subst (RiseWithin f.first (f.last + 1)) is (range_rises words f.first f.last here.rises here.within)))
    (all_rise words fs (f.last + 1) lists (omega (arith, here.within)) ranges.1 (λ i lt. are (suc i) (omega (arith, lt))))

pub places_differ : (image : Contents) (lists : List (List ℕ)) → IsImage image.words image.functions → ArePlaces image lists → StandOnce (concat lists)
places_differ image lists whole are =
    stand_once 0 (length image.words) (concat lists) (all_rise image.words image.functions 0 lists (omega arith) whole.ranges are)
