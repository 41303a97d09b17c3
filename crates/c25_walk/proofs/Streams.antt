-- A walk that goes on from instruction to instruction comes to what the stretches give.
use Rattle.std.proofs.Common.{◌≡◌, ℕ, suc, ◌+◌, Bool, true, false, cond, List, [], ◌∷◌, ◌++◌, length, map, filter, Option, Some, None, refl, sym, ap, ◌∙◌, arith, append_assoc, length-append}
use Rattle.std.specs.Prelude.{option_to_list, option_map, filter_map, if◌then◌else◌}
use Rattle.std.specs.List.{flat_map}
use Rattle.std.proofs.lemmas.List.{append-nil}
use Rattle.c25_isa.specs.Walk.{Placed, Known, nothing_known, known_behind, onto_stretches, cut_at, along, in_stretches, is_cut_behind, access, listed, unknown_at, has_some, Walked, Blocks, BadWord, UnknownAddress, walked, walk_code, Code}
use Rattle.c25_isa.specs.AddressCount.{is_address_instruction}
use Rattle.c25_walk.specs.Marks.{targets_of}
use Rattle.c25_walk.specs.Places.{listing_at, first_of, places_in}
use Rattle.c25_walk.specs.Walking.{begun, Walking, started, walked_over, cut_off, cut_where, behind_one, behind_all, or_else, first_unknown}

-- what one instruction gives, by what is known before it
abbrev Gives : Type 0
Gives = Known → Placed → Option ℕ

-- what the stretches give, the first of which begins where this is known
abbrev lists_from : Gives → Known → List (List Placed) → List (List ℕ)
lists_from gives k [] = []
lists_from gives k (s ∷ ss) = along gives k s ∷ map (along gives nothing_known) ss

lists_nothing : (gives : Gives) (ss : List (List Placed)) → lists_from gives nothing_known ss ≡ map (along gives nothing_known) ss
lists_nothing gives [] = refl
lists_nothing gives (s ∷ ss) = refl

abbrev known_on : Bool → Known → Known
known_on true k = nothing_known
known_on false k = k

-- the same in a row
abbrev flat_on : Gives → List ℕ → Known → List Placed → List ℕ
flat_on gives targets k [] = []
flat_on gives targets k (p ∷ ps) = option_to_list (gives k p) ++ flat_on gives targets (known_on (is_cut_behind targets p) (known_behind k p.instr)) ps

abbrev flat : List (List ℕ) → List ℕ
flat lists = flat_map (λ ats. ats) lists

flat_onto : (gives : Gives) (cut : Bool) (k : Known) (p : Placed) (rest : List (List Placed))
    → flat (lists_from gives k (onto_stretches cut p rest)) ≡ option_to_list (gives k p) ++ flat (lists_from gives (known_on cut (known_behind k p.instr)) rest)
flat_onto gives true k p rest =
    ap (λ l. l ++ flat (map (along gives nothing_known) rest)) (append-nil (option_to_list (gives k p)))
    ∙ ap (λ l. option_to_list (gives k p) ++ flat l) (sym (lists_nothing gives rest))
flat_onto gives false k p [] = append_assoc (option_to_list (gives k p)) [] []
flat_onto gives false k p (s ∷ ss) =
    append_assoc (option_to_list (gives k p)) (along gives (known_behind k p.instr) s) (flat (map (along gives nothing_known) ss))

flat_is : (gives : Gives) (targets : List ℕ) (k : Known) (ps : List Placed) → flat (lists_from gives k (cut_at targets ps)) ≡ flat_on gives targets k ps
flat_is gives targets k [] = refl
flat_is gives targets k (p ∷ ps) =
    flat_onto gives (is_cut_behind targets p) k p (cut_at targets ps)
    ∙ ap (λ l. option_to_list (gives k p) ++ l) (flat_is gives targets (known_on (is_cut_behind targets p) (known_behind k p.instr)) ps)

-- from the start of a range
flat_stretches : (gives : Gives) (code : Code) → flat (in_stretches gives code) ≡ flat_on gives (targets_of code.placed) nothing_known code.placed
flat_stretches gives code =
    ap flat (sym (lists_nothing gives (cut_at (targets_of code.placed) code.placed)))
    ∙ flat_is gives (targets_of code.placed) nothing_known code.placed

-- what is known goes the same way in a walk
known_cut : (cut : Bool) (w : Walking) → (cut_where cut w).known ≡ known_on cut w.known
known_cut true w = refl
known_cut false w = refl

known_one : (targets : List ℕ) (w : Walking) (p : Placed) → (behind_one targets w p).known ≡ known_on (is_cut_behind targets p) (known_behind w.known p.instr)
known_one targets w p = known_cut (is_cut_behind targets p) (walked_over w p)

-- unknown addresses
abbrev unknowns : Gives
unknowns k p = unknown_at p.at (access k p.instr)

or_else-first : (o : Option ℕ) (l : List ℕ) → or_else o (first_of l) ≡ first_of (option_to_list o ++ l)
or_else-first None l = refl
or_else-first (Some at) l = refl

unknown_is : (targets : List ℕ) (w : Walking) (ps : List Placed) → first_unknown targets w ps ≡ first_of (flat_on unknowns targets w.known ps)
unknown_is targets w [] = refl
unknown_is targets w (p ∷ ps) =
    let o = unknowns w.known p in
    ap (or_else o) (unknown_is targets (behind_one targets w p) ps ∙ ap (λ k. first_of (flat_on unknowns targets k ps)) (known_one targets w p))
    ∙ or_else-first o (flat_on unknowns targets (known_on (is_cut_behind targets p) (known_behind w.known p.instr)) ps)

-- counts
abbrev counted : Gives
counted k p = if is_address_instruction k p.instr then Some p.at else None

pub count_cut : (cut : Bool) (w : Walking) → (cut_where cut w).count ≡ w.count
count_cut true w = refl
count_cut false w = refl

one_counted : (b : Bool) (at : ℕ) → length (option_to_list (cond b (Some at) None)) ≡ cond b 1 0
one_counted true at = refl
one_counted false at = refl

count_is : (targets : List ℕ) (w : Walking) (ps : List Placed) → (behind_all targets w ps).count ≡ w.count + length (flat_on counted targets w.known ps)
count_is targets w [] = omega arith
count_is targets w (p ∷ ps) =
    let rest = flat_on counted targets (known_on (is_cut_behind targets p) (known_behind w.known p.instr)) ps in
    let b = is_address_instruction w.known p.instr in
    let more : (behind_all targets (behind_one targets w p) ps).count ≡ (behind_one targets w p).count + length rest = count_is targets (behind_one targets w p) ps ∙ ap (λ k. (behind_one targets w p).count + length (flat_on counted targets k ps)) (known_one targets w p) in
    let one : (behind_one targets w p).count ≡ w.count + cond b 1 0 = count_cut (is_cut_behind targets p) (walked_over w p) in
    omega (arith, more, one, one_counted b p.at, length-append (option_to_list (counted w.known p)) rest)

-- lists of addresses
abbrev lists : Gives
lists k p = listed (access k p.instr)

-- with addresses that are there already in front of the first list
abbrev onto_first : List ℕ → List (List ℕ) → List (List ℕ)
onto_first open-list [] = open-list ∷ []
onto_first open-list (l ∷ ls) = (open-list ++ l) ∷ ls

onto_none : (ls : List (List ℕ)) → filter has_some (onto_first [] ls) ≡ filter has_some ls
onto_none [] = refl
onto_none (l ∷ ls) = refl

filter_first : (l : List ℕ) (ls : List (List ℕ)) → filter has_some (l ∷ ls) ≡ filter has_some (l ∷ []) ++ filter has_some ls
filter_first [] ls = refl
filter_first (a ∷ l) ls = refl

-- the blocks of a walk that is cut off behind these stretches
abbrev blocks_with : Walking → List (List Placed) → List (List ℕ)
blocks_with w ss = w.blocks ++ filter has_some (onto_first w.addresses (lists_from lists w.known ss))

blocks_one : (cut : Bool) (w : Walking) (p : Placed) (ss : List (List Placed)) → blocks_with (cut_where cut (walked_over w p)) ss ≡ blocks_with w (onto_stretches cut p ss)
blocks_one true w p ss =
    let found = option_to_list (lists w.known p) in
    let rest = map (along lists nothing_known) ss in
    append_assoc w.blocks (filter has_some ((w.addresses ++ found) ∷ [])) (filter has_some (onto_first [] (lists_from lists nothing_known ss)))
    ∙ ap (λ l. w.blocks ++ (filter has_some ((w.addresses ++ found) ∷ []) ++ l)) (onto_none (lists_from lists nothing_known ss) ∙ ap (filter has_some) (lists_nothing lists ss))
    ∙ ap (λ l. w.blocks ++ l) (sym (filter_first (w.addresses ++ found) rest))
    ∙ ap (λ l. w.blocks ++ filter has_some ((w.addresses ++ l) ∷ rest)) (sym (append-nil found))
blocks_one false w p [] =
    ap (λ l. w.blocks ++ filter has_some ((w.addresses ++ l) ∷ [])) (sym (append-nil (option_to_list (lists w.known p))))
blocks_one false w p (s ∷ ss) =
    ap (λ l. w.blocks ++ filter has_some (l ∷ map (along lists nothing_known) ss)) (append_assoc w.addresses (option_to_list (lists w.known p)) (along lists (known_behind w.known p.instr) s))

blocks_is : (targets : List ℕ) (w : Walking) (ps : List Placed) → (cut_off (behind_all targets w ps)).blocks ≡ blocks_with w (cut_at targets ps)
blocks_is targets w [] = refl
blocks_is targets w (p ∷ ps) =
    blocks_is targets (behind_one targets w p) ps ∙ blocks_one (is_cut_behind targets p) w p (cut_at targets ps)

-- ---- places

-- with addresses that are there already in the first stretch, which then begins before it
abbrev places_behind : List ℕ → List (List ℕ) → List ℕ
places_behind [] ls = filter_map first_of ls
places_behind (a ∷ addresses) [] = []
places_behind (a ∷ addresses) (l ∷ ls) = filter_map first_of ls

behind_none : (addresses : List ℕ) → places_behind addresses [] ≡ []
behind_none [] = refl
behind_none (a ∷ addresses) = refl

-- one more instruction, which lists an address here or none, behind these
begun_onto : (addresses more : List ℕ) (o : Option ℕ) (at : ℕ) (ls : List (List ℕ))
    → begun addresses (option_to_list (option_map (λ a. at) o)) ++ places_behind (addresses ++ option_to_list o) (more ∷ ls)
    ≡ places_behind addresses ((option_to_list (option_map (λ a. at) o) ++ more) ∷ ls)
begun_onto [] more None at ls = refl
begun_onto [] more (Some a) at ls = refl
begun_onto (b ∷ addresses) more None at ls = refl
begun_onto (b ∷ addresses) more (Some a) at ls = refl

-- and the stretch ends
begun_cut : (addresses : List ℕ) (o : Option ℕ) (at : ℕ) (ls : List (List ℕ))
    → begun addresses (option_to_list (option_map (λ a. at) o)) ++ filter_map first_of ls ≡ places_behind addresses ((option_to_list (option_map (λ a. at) o) ++ []) ∷ ls)
begun_cut [] None at ls = refl
begun_cut [] (Some a) at ls = refl
begun_cut (b ∷ addresses) None at ls = refl
begun_cut (b ∷ addresses) (Some a) at ls = refl

-- and nothing comes behind it
begun_last : (addresses : List ℕ) (o : Option ℕ) (at : ℕ)
    → begun addresses (option_to_list (option_map (λ a. at) o)) ++ places_behind (addresses ++ option_to_list o) [] ≡ places_behind addresses ((option_to_list (option_map (λ a. at) o) ++ []) ∷ [])
begun_last [] None at = refl
begun_last [] (Some a) at = refl
begun_last (b ∷ addresses) None at = refl
begun_last (b ∷ addresses) (Some a) at = refl

-- the places of a walk that is cut off behind these stretches
abbrev places_with : Walking → List (List Placed) → List ℕ
places_with w ss = w.places ++ places_behind w.addresses (lists_from listing_at w.known ss)

places_one : (cut : Bool) (w : Walking) (p : Placed) (ss : List (List Placed)) → places_with (cut_where cut (walked_over w p)) ss ≡ places_with w (onto_stretches cut p ss)
places_one true w p ss =
    let o = listed (access w.known p.instr) in
    let rest = map (along listing_at nothing_known) ss in
    ap (λ l. (w.places ++ begun w.addresses (option_to_list (listing_at w.known p))) ++ filter_map first_of l) (lists_nothing listing_at ss)
    ∙ append_assoc w.places (begun w.addresses (option_to_list (listing_at w.known p))) (filter_map first_of rest)
    ∙ ap (λ l. w.places ++ l) (begun_cut w.addresses o p.at rest)
places_one false w p [] =
    let o = listed (access w.known p.instr) in
    append_assoc w.places (begun w.addresses (option_to_list (listing_at w.known p))) (places_behind (w.addresses ++ option_to_list o) [])
    ∙ ap (λ l. w.places ++ l) (begun_last w.addresses o p.at)
places_one false w p (s ∷ ss) =
    let o = listed (access w.known p.instr) in
    let more = along listing_at (known_behind w.known p.instr) s in
    let rest = map (along listing_at nothing_known) ss in
    append_assoc w.places (begun w.addresses (option_to_list (listing_at w.known p))) (places_behind (w.addresses ++ option_to_list o) (more ∷ rest))
    ∙ ap (λ l. w.places ++ l) (begun_onto w.addresses more o p.at rest)

places_are : (targets : List ℕ) (w : Walking) (ps : List Placed) → (behind_all targets w ps).places ≡ places_with w (cut_at targets ps)
places_are targets w [] = sym (ap (λ l. w.places ++ l) (behind_none w.addresses) ∙ append-nil w.places)
places_are targets w (p ∷ ps) =
    places_are targets (behind_one targets w p) ps ∙ places_one (is_cut_behind targets p) w p (cut_at targets ps)

-- those of a range
pub places_of_range : (code : Code) → places_in code ≡ (behind_all (targets_of code.placed) started code.placed).places
places_of_range code =
    let targets = targets_of code.placed in
    sym (places_are targets started code.placed ∙ ap (filter_map first_of) (lists_nothing listing_at (cut_at targets code.placed)))

-- a stretch lists as many places as addresses
as_many : (k : Known) (ps : List Placed) → length (along listing_at k ps) ≡ length (along lists k ps)
as_many k [] = refl
as_many k (p ∷ ps) = by (listed (access k p.instr)) (as_many (known_behind k p.instr) ps)
  where
    by : (o : Option ℕ) → length (along listing_at (known_behind k p.instr) ps) ≡ length (along lists (known_behind k p.instr) ps)
        → length (option_to_list (option_map (λ a. p.at) o) ++ along listing_at (known_behind k p.instr) ps) ≡ length (option_to_list o ++ along lists (known_behind k p.instr) ps)
    by None rest = rest
    by (Some a) rest = ap (λ n. suc n) rest

-- so there is a place for each stretch that lists some
one_first : (ats listed-ones : List ℕ) (firsts kept : List (List ℕ)) → length ats ≡ length listed-ones → length (filter_map first_of firsts) ≡ length (filter has_some kept)
    → length (filter_map first_of (ats ∷ firsts)) ≡ length (filter has_some (listed-ones ∷ kept))
one_first [] [] firsts kept same rest = rest
one_first (at ∷ ats) (a ∷ listed-ones) firsts kept same rest = ap (λ n. suc n) rest
one_first [] (a ∷ listed-ones) firsts kept same rest = absurd (omega (arith, same))
one_first (at ∷ ats) [] firsts kept same rest = absurd (omega (arith, same))

one_each : (ss : List (List Placed)) → length (filter_map first_of (map (along listing_at nothing_known) ss)) ≡ length (filter has_some (map (along lists nothing_known) ss))
one_each [] = refl
one_each (s ∷ ss) =
    one_first (along listing_at nothing_known s) (along lists nothing_known s) (map (along listing_at nothing_known) ss) (map (along lists nothing_known) ss) (as_many nothing_known s) (one_each ss)

-- ---- what it comes to

-- what a walk over the instructions of a range comes to, by what it meets on its way
abbrev pub answered : Option ℕ → Option ℕ → List (List ℕ) → Walked
answered (Some at) fault blocks = UnknownAddress at
answered None (Some at) blocks = BadWord at
answered None None blocks = Blocks blocks

answered-first : (unknown : List ℕ) (fault : Option ℕ) (ls : List (List ℕ)) → walked unknown fault ls ≡ answered (first_of unknown) fault (filter has_some ls)
answered-first [] None ls = refl
answered-first [] (Some at) ls = refl
answered-first (at ∷ rest) fault ls = refl

-- the walk of a range
pub walk_is : (code : Code) → walk_code code ≡ answered (first_unknown (targets_of code.placed) started code.placed) code.fault (cut_off (behind_all (targets_of code.placed) started code.placed)).blocks
walk_is code =
    let targets = targets_of code.placed in
    let ss = cut_at targets code.placed in
    let unknown : first_of (flat (in_stretches unknowns code)) ≡ first_unknown targets started code.placed = ap first_of (flat_stretches unknowns code) ∙ sym (unknown_is targets started code.placed) in
    let blocks : filter has_some (in_stretches lists code) ≡ (cut_off (behind_all targets started code.placed)).blocks =
    sym (blocks_is targets started code.placed ∙ onto_none (lists_from lists nothing_known ss) ∙ ap (filter has_some) (lists_nothing lists ss)) in
    answered-first (flat (in_stretches unknowns code)) code.fault (in_stretches lists code)
    ∙ ap (λ o. answered o code.fault (filter has_some (in_stretches lists code))) unknown
    ∙ ap (answered (first_unknown targets started code.placed) code.fault) blocks

-- the count of a range
pub count_of_range : (code : Code) → length (flat (in_stretches counted code)) ≡ (behind_all (targets_of code.placed) started code.placed).count
count_of_range code =
    let targets = targets_of code.placed in
    omega (arith, ap length (flat_stretches counted code), count_is targets started code.placed)

-- a place for each block of a range
pub place_of_each : (code : Code) → length (behind_all (targets_of code.placed) started code.placed).places ≡ length (cut_off (behind_all (targets_of code.placed) started code.placed)).blocks
place_of_each code =
    let targets = targets_of code.placed in
    let ss = cut_at targets code.placed in
    ap length (sym (places_of_range code))
    ∙ one_each ss
    ∙ ap length (sym (blocks_is targets started code.placed ∙ onto_none (lists_from lists nothing_known ss) ∙ ap (filter has_some) (lists_nothing lists ss)))
