-- The direct accesses of runs along the stretches of a range, and the lists of its walk.
use Rattle.std.proofs.Common.{◌≡◌, ℕ, Bool, true, List, [], ◌∷◌, is_none, Option, Some, None, refl}
use Rattle.std.specs.Prelude.{map, filter}
use Rattle.std.specs.List.{list_all, AllByRecursion, IsAmong}
use Rattle.std.proofs.lemmas.Bool.{and_parts}
use Rattle.c25_isa.specs.State.{State, Memory}
use Rattle.c25_isa.specs.Walk.{Placed, code_of, stretches, Blocks, has_some, walked, walk}
use Rattle.c25_isa.specs.Direct.{Words, Direct, nothing_done, is_direct_from}
use Rattle.c25_isa.specs.StretchRuns.{way, accesses_of, listed_in, HoldsRange, MayName}
use Rattle.c25_isa.proofs.StretchWays.{IsPlacedIn}
use Rattle.c25_isa.proofs.StretchEntries.{in_each}
use Rattle.c25_isa.proofs.StretchCode.{AreCodeIn, of_one, range_in}
use Rattle.c25_isa.proofs.DirectWays.{goes_direct}

all_placed : (program : Memory) (a : ℕ) (ps : List Placed) → AreCodeIn program a ps → AllByRecursion (IsPlacedIn program) ps
all_placed program a [] placed = tt
all_placed program a (p ∷ ps) placed = (placed.1, all_placed program p.behind ps placed.2)

each_passes : {X : Type 0} (test : X → Bool) (xs : List X) → list_all test xs ≡ true → AllByRecursion (λ x. test x ≡ true) xs
each_passes test [] e = tt
each_passes test (x ∷ xs) e = let both = and_parts (test x) (list_all test xs) e in (both.0, each_passes test xs both.1)

pub direct_tells : (words : List ℕ) (first last : ℕ) (own places given : List ℕ) (stretch : List Placed) (s : State) (steps : ℕ) → Direct words first last own places given → HoldsRange words first last s
    → IsAmong (stretches (code_of words first last)) stretch → MayName (record { own = own; places = places; given = given }) [] (accesses_of (way steps s stretch []))
direct_tells words first last own places given stretch s steps direct holds among =
    let w : Words = record { own = own; places = places; given = given } in
    let code = code_of words first last in
    let in_memory : AreCodeIn s.program first code.placed = range_in words first last s holds in
    let both = and_parts (is_none code.fault) (list_all (is_direct_from w nothing_done) (stretches code)) direct in
    goes_direct w s.program steps s nothing_done stretch []
    (of_one (AllByRecursion (IsPlacedIn s.program)) (stretches code) stretch (in_each (IsPlacedIn s.program) _ code.placed (all_placed s.program first code.placed in_memory)) among)
    (record { code = refl; page = tt; stored = λ a found. found; may = tt })
    (of_one (λ one. is_direct_from w nothing_done one ≡ true) (stretches code) stretch (each_passes (is_direct_from w nothing_done) (stretches code) both.1) among)

-- the lists of a walk are those of its stretches
lists_are : (unknown : List ℕ) (fault : Option ℕ) (lists blocks : List (List ℕ)) → walked unknown fault lists ≡ Blocks blocks → blocks ≡ filter has_some lists
lists_are [] None lists blocks e = cc
lists_are [] (Some at) lists blocks e = absurd cc
lists_are (at ∷ rest) fault lists blocks e = absurd cc

pub walk_lists : (words : List ℕ) (first last : ℕ) (blocks : List (List ℕ)) → walk words first last ≡ Blocks blocks → blocks ≡ filter has_some (map listed_in (stretches (code_of words first last)))
walk_lists words first last blocks e = lists_are _ _ _ _ e
