-- What a walk over a range comes to.
use Rattle.std.proofs.Common.{◌≡◌, ℕ, List, length, Option, Some, None, sym, ap, ◌∙◌}
use Rattle.c25_isa.specs.Walk as walk
use Rattle.c25_isa.specs.Walk.{Placed, Code, Walked, walk_code}
use Rattle.c25_walk.specs.declared.fault.WalkFault.{WalkFault}
use Rattle.c25_walk.specs.declared.fault.WalkFault.TheVariants.{BadWord, UnknownAddress, NoMemory}
use Rattle.c25_walk.specs.Places.{places_in}
use Rattle.c25_walk.specs.Marks.{targets_of}
use Rattle.c25_walk.specs.Walking.{started, behind_all, cut_off, first_unknown, IsUnknown}
use Rattle.c25_walk.specs.Walks.{count_in, IsFault}
use Rattle.c25_walk.proofs.Streams.{answered, walk_is, count_of_range, places_of_range, place_of_each}

abbrev code_with : List Placed → Option ℕ → Code
code_with placed fault = record { placed = placed; fault = fault }

-- blocks, where there was no fault
pub walked_blocks : (image : Option Walked) (code : Code) (placed : List Placed) (fault : Option ℕ) (blocks : List (List ℕ)) → image ≡ Some (walk_code code) → code ≡ code_with placed fault → fault ≡ None
    → first_unknown (targets_of placed) started placed ≡ None → blocks ≡ (cut_off (behind_all (targets_of placed) started placed)).blocks → image ≡ Some (walk.Blocks blocks)
walked_blocks image code placed fault blocks of is sound known found =
    of ∙ ap Some (ap walk_code is ∙ walk_is (code_with placed fault)
    ∙ ap (λ o. answered o fault (cut_off (behind_all (targets_of placed) started placed)).blocks) known
    ∙ ap (λ f. answered None f (cut_off (behind_all (targets_of placed) started placed)).blocks) sound
    ∙ ap walk.Blocks (sym found))

-- a bad word behind instructions whose accesses are known
pub bad_word : (image : Option Walked) (code : Code) (placed : List Placed) (fault : Option ℕ) (at : ℕ) → image ≡ Some (walk_code code) → code ≡ code_with placed fault → fault ≡ Some at
    → first_unknown (targets_of placed) started placed ≡ None → image ≡ Some (walk.BadWord at)
bad_word image code placed fault at of is bad known =
    of ∙ ap Some (ap walk_code is ∙ walk_is (code_with placed fault)
    ∙ ap (λ o. answered o fault (cut_off (behind_all (targets_of placed) started placed)).blocks) known
    ∙ ap (λ f. answered None f (cut_off (behind_all (targets_of placed) started placed)).blocks) bad)

-- an access whose address isn't known, or want of memory
pub unknown_address : (image : Option Walked) (code : Code) (placed : List Placed) (fault : Option ℕ) (e : WalkFault) → image ≡ Some (walk_code code) → code ≡ code_with placed fault
    → IsUnknown (first_unknown (targets_of placed) started placed) e → IsFault image e
unknown_address image code placed fault (BadWord at) of is says = absurd says
unknown_address image code placed fault (UnknownAddress at) of is says =
    of ∙ ap Some (ap walk_code is ∙ walk_is (code_with placed fault)
    ∙ ap (λ o. answered o fault (cut_off (behind_all (targets_of placed) started placed)).blocks) says)
unknown_address image code placed fault NoMemory of is says = tt {0}

-- the count
pub counted : (image : Option ℕ) (code : Code) (placed : List Placed) (fault : Option ℕ) (count : ℕ) → image ≡ Some (count_in code) → code ≡ code_with placed fault
    → count ≡ (behind_all (targets_of placed) started placed).count → image ≡ Some count
counted image code placed fault count of is found =
    of ∙ ap Some (ap count_in is ∙ count_of_range (code_with placed fault) ∙ sym found)

-- the places
pub placed_at : (image : Option (List ℕ)) (code : Code) (placed : List Placed) (fault : Option ℕ) (places : List ℕ) → image ≡ Some (places_in code) → code ≡ code_with placed fault
    → places ≡ (behind_all (targets_of placed) started placed).places → image ≡ Some places
placed_at image code placed fault places of is found =
    of ∙ ap Some (ap places_in is ∙ places_of_range (code_with placed fault) ∙ sym found)

-- one a block
pub one_a_block : (placed : List Placed) (places : List ℕ) (blocks : List (List ℕ)) → places ≡ (behind_all (targets_of placed) started placed).places
    → blocks ≡ (cut_off (behind_all (targets_of placed) started placed)).blocks → length places ≡ length blocks
one_a_block placed places blocks at found = ap length at ∙ place_of_each (code_with placed None) ∙ sym (ap length found)
