-- What a block of accesses costs, by the places that they go to.
use Rattle.std.proofs.Common.{◌≡◌, ℕ, ℤ, add_assoc, ◌+◌, Bool, true, false, ◌||◌, if◌then◌else◌, List, [], ◌∷◌, map, fold, Option, Some, None, refl, sym, ap, ap₂, ◌∙◌, arith}
use Rattle.std.specs.Prelude.{◌==◌, pos, option_map, slice_get}
use Rattle.std.proofs.Math.Bool.{or-false}
use Rattle.emit_blocks.specs.declared.site.ScalarPlace.{ScalarPlace}
use Rattle.emit_blocks.specs.Places.{Places, scalar_or_zero}
use Rattle.lay_cost.specs.Cost.{access_cost, steps, Tally, no_access, with_access, block_cost}
use Rattle.lay_cost.specs.Placements.{Placement}
use Rattle.image_proof.specs.RunWalks.{address_of}
use Rattle.image_proof.specs.AgreeingWalks.{register_of}
use Rattle.image_proof.proofs.Parts.{one_if}

-- the last address of each register, behind an access at a place
abbrev pub with_last : (ℕ → Option ℕ) → ScalarPlace → ℕ → Option ℕ
with_last last p = λ q. if q == p.register then Some p.address else last q

-- what accesses at places cost, and whether a move between them is by the step
abbrev pub costs : ℕ → (ℕ → Option ℕ) → List ScalarPlace → ℕ
costs d last [] = 0
costs d last (p ∷ ps) = access_cost d (option_map pos (last p.register)) (pos p.address) + costs d (with_last last p) ps

abbrev pub are_stepped : ℕ → (ℕ → Option ℕ) → List ScalarPlace → Bool
are_stepped d last [] = false
are_stepped d last (p ∷ ps) = steps d (option_map pos (last p.register)) (pos p.address) || are_stepped d (with_last last p) ps

abbrev pub place_of : Places → ℕ → ScalarPlace
place_of s n = scalar_or_zero (slice_get s.scalars n)

-- the placement of scalars as they lie at a site
abbrev pub as_they_lie : Places → Placement
as_they_lie s = record { register = register_of s; offset = λ n. pos (address_of s n) }

record Counted (d : ℕ) (last : ℕ → Option ℕ) (ps : List ScalarPlace) (t u : Tally) : Type 0 where
  paid : u.paid ≡ t.paid + costs d last ps
  stepped : u.stepped ≡ t.stepped || are_stepped d last ps

last_behind : (b : Bool) (a : ℕ) (t : Option ℤ) (last : Option ℕ) → t ≡ option_map pos last → (if b then Some (pos a) else t) ≡ option_map pos (if b then Some a else last)
last_behind true a t last e = refl
last_behind false a t last e = e

or_assoc : (a b c : Bool) → ((a || b) || c) ≡ (a || (b || c))
or_assoc true b c = refl
or_assoc false b c = refl

fold_counts : (s : Places) (d : ℕ) (ns : List ℕ) (last : ℕ → Option ℕ) (t : Tally) → ((q : ℕ) → t.last q ≡ option_map pos (last q)) → Counted d last (map (place_of s) ns) t (fold (with_access d (as_they_lie s)) t ns)
fold_counts s d [] last t alike = record { paid = omega arith; stepped = sym (or-false t.stepped) }
fold_counts s d (n ∷ ns) last t alike =
    let p : ScalarPlace = place_of s n in
    let u : Tally = with_access d (as_they_lie s) t n in
    let rest : Counted d (with_last last p) (map (place_of s) ns) u (fold (with_access d (as_they_lie s)) u ns) =
    fold_counts s d ns (with_last last p) u (λ q. last_behind (q == p.register) p.address (t.last q) (last q) (alike q)) in
    let here : access_cost d (t.last p.register) (pos p.address) ≡ access_cost d (option_map pos (last p.register)) (pos p.address) = ap (λ o. access_cost d o (pos p.address)) (alike p.register) in
    let moved : steps d (t.last p.register) (pos p.address) ≡ steps d (option_map pos (last p.register)) (pos p.address) = ap (λ o. steps d o (pos p.address)) (alike p.register) in
    record {
      paid = rest.paid ∙ add_assoc t.paid (access_cost d (t.last p.register) (pos p.address)) (costs d (with_last last p) (map (place_of s) ns)) ∙ ap (λ c. t.paid + (c + costs d (with_last last p) (map (place_of s) ns))) here;
      stepped = rest.stepped
          ∙ or_assoc t.stepped (steps d (t.last p.register) (pos p.address)) (are_stepped d (with_last last p) (map (place_of s) ns))
          ∙ ap (λ b. t.stepped || (b || are_stepped d (with_last last p) (map (place_of s) ns))) moved;
    }

abbrev pub no_last : ℕ → Option ℕ
no_last q = None

load_counts : (b : Bool) (n : ℕ) → 0 + n + (if b then 1 else 0) ≡ one_if b + n
load_counts true n = omega arith
load_counts false n = omega arith

-- a block where scalars are placed as they lie
pub block_counts : (s : Places) (d : ℕ) (ns : List ℕ) → block_cost d (as_they_lie s) ns ≡ one_if (are_stepped d no_last (map (place_of s) ns)) + costs d no_last (map (place_of s) ns)
block_counts s d ns =
    let all : Counted d no_last (map (place_of s) ns) no_access (fold (with_access d (as_they_lie s)) no_access ns) = fold_counts s d ns no_last no_access (λ q. refl) in
    ap₂ (λ n b. n + (if b then 1 else 0)) all.paid all.stepped ∙ load_counts (are_stepped d no_last (map (place_of s) ns)) (costs d no_last (map (place_of s) ns))
