-- The stretches of a range's words stand in program memory, and a walk's blocks are of them all: what a walk tells of runs.
use Rattle.std.proofs.Common.{◌≡◌, ◌⊎◌, ℕ, zero, suc, ◌+◌, ◌-◌, ◌<◌, ◌≤◌, Bool, true, false, List, [], ◌∷◌, length, take, drop, Option, Some, None, inl, inr, refl, sym, ap, ◌∙◌, subst, eqb-true, ltb-false, arith, length-drop}
use Rattle.std.specs.Prelude.{◌||◌, nat_lt, if◌then◌else◌, slice_index, slice_range, map, filter_map, All, IfSome}
use Rattle.std.specs.List.{flat_map, AllByRecursion, IsAmong}
use Rattle.std.proofs.lemmas.Bool.{false≢true}
use Rattle.std.proofs.lemmas.List.{length-take}
use Rattle.std.proofs.lemmas.List.Elements.{All-take, All-drop, All-from_recursion, recursion_from_All}
use Rattle.c25_isa.specs.declared.instruction.Instr.{Instr}
use Rattle.c25_isa.specs.declared.instruction.Instr.TheVariants.{Ret, Branch, Call}
use Rattle.c25_isa.specs.State.{State, Memory}
use Rattle.c25_isa.specs.Table.{second_word, length_of, StandsFor}
use Rattle.c25_isa.specs.CodeAt.{Follows, WordsAt}
use Rattle.c25_isa.specs.Decode.{Decoded, decode}
use Rattle.c25_isa.specs.Step.{wrap16}
use Rattle.c25_isa.specs.Walk.{Placed, Code, jump_target, ends_stretch, is_cut_behind, no_more, in_front, with_rest, code_from, code_of, onto_stretches, cut_at, stretches, nothing_known, Blocks, walked, walk_code, walk}
use Rattle.c25_isa.specs.StretchRuns.{begins, Way, Through, SoFar, Astray, way, HoldsRange, IsEntry, goes_on_at, GoesOn, Tells}
use Rattle.c25_isa.proofs.Rows.{decode-stands}
use Rattle.c25_isa.proofs.KnownSteps.{LeadsTo}
use Rattle.c25_isa.proofs.StretchWays.{IsPlacedIn, GoesOnTo, IsStretchIn, listed_from, unknown_from, LastLeads, Makes, Pending, goes_along}
use Rattle.c25_isa.proofs.StretchEntries.{AreInRow, StartsAt, FirstStartsAt, BeginsAt, end_of, first_starts, target_begins, IsFollowed, followed, TargetsAmong, are_targets, in_each, first_is_entry, wrapped_entry}

-- the first two words of some words are 16 bits wide
abbrev pub AreWords : List ℕ → Type 0
AreWords ws = AllByRecursion (λ w. w < 65536) ws

next_word : (ws : List ℕ) → AreWords ws → slice_index ws 0 < 65536
next_word [] all = omega arith
next_word (w ∷ ws) all = all.0

one_or_two : (o : Option ℕ) → (length_of o ≡ 1) ⊎ (length_of o ≡ 2)
one_or_two None = inl refl
one_or_two (Some word) = inr refl

-- the first instruction of a range stands at its first word
pub code_begins : (at : ℕ) (ws : List ℕ) → BeginsAt at (code_from at 0 ws).placed
code_begins at [] = tt
code_begins at (w ∷ ws) = by (decode w (slice_index ws 0))
  where
    rest : ℕ → Code
    rest within = code_from (at + 1) within ws

    within_range : (b : Bool) (p : Placed) (code : Code) → p.at ≡ at → BeginsAt at (if b then no_more (Some at) else in_front p code).placed
    within_range true p code is = tt
    within_range false p code is = is

    by : (d : Decoded) → BeginsAt at (with_rest at (length ws + 1) d rest).placed
    by None = tt
    by (Some found) = within_range (nat_lt (length ws + 1) found.1) (record { at = at; instr = found.0; behind = at + found.1 }) (rest (found.1 - 1)) refl

-- instructions stand in program memory one behind another, from an address on
abbrev pub AreCodeIn : Memory → ℕ → List Placed → Type 0
AreCodeIn program a [] = Unit {0}
AreCodeIn program a (p ∷ ps) = (p.at ≡ a) × IsPlacedIn program p × AreCodeIn program p.behind ps

some_words : (o : Option ℕ) → 1 ≤ length_of o
some_words None = omega arith
some_words (Some word) = omega arith

are_in_row : (program : Memory) (a : ℕ) (ps : List Placed) → AreCodeIn program a ps → AreInRow a ps
are_in_row program a [] placed = tt
are_in_row program a (p ∷ ps) placed =
    (placed.0, omega (arith, placed.1.behind_is, some_words (second_word p.instr)), are_in_row program p.behind ps placed.2)

-- an instruction that was decoded stands there
stands_there : (program : Memory) (at len left next : ℕ) (i : Instr) (first : ℕ) → program at ≡ first → (2 ≤ left → program (at + 1) ≡ next) → StandsFor i len first next → len ≤ left → at + left ≤ 65536
    → IsPlacedIn program (record { at = at; instr = i; behind = at + len })
stands_there program at len left next i first is second for short room = record {
  stands_there = record {
    fits = for.fits;
    first = is ∙ sym for.first_is;
    second = follows (second_word i) for.second_is for.length_is;
    room = omega (arith, for.length_is, short, room);
  };
  behind_is = ap (λ n. at + n) for.length_is;
}
  where
    follows : (o : Option ℕ) → (o ≡ None) ⊎ (o ≡ Some next) → len ≡ length_of o → Follows o (program (at + 1))
    follows None second_is length_is = tt
    follows (Some word) (inl none) length_is = absurd cc
    follows (Some word) (inr some) length_is = second (omega (arith, length_is, short)) ∙ same_some some
      where
        same_some : Some word ≡ Some next → next ≡ word
        same_some e = cc

tail_at : (program : Memory) (at w : ℕ) (ws : List ℕ) → WordsAt program at (w ∷ ws) → WordsAt program (at + 1) ws
tail_at program at w ws stand a lt = let e : at + 1 + a ≡ at + suc a = omega arith in ap program e ∙ stand (suc a) (omega arith)

-- the instructions of words that stand in program memory
pub code_stands : (program : Memory) (at within : ℕ) (ws : List ℕ) → WordsAt program at ws → AreWords ws → at + length ws ≤ 65536 → AreCodeIn program (at + within) (code_from at within ws).placed
code_stands program at within [] stand all room = tt
code_stands program at (suc within) (w ∷ ws) stand all room =
    let e : at + 1 + within ≡ at + suc within = omega arith in
    subst (λ a. AreCodeIn program a (code_from (at + 1) within ws).placed) e (code_stands program (at + 1) within ws (tail_at program at w ws stand) all.1 (omega (arith, room)))
code_stands program at zero (w ∷ ws) stand all room =
    by (decode w (slice_index ws 0)) (decode-stands w (slice_index ws 0) all.0 (next_word ws all.1))
    (λ within. code_stands program (at + 1) within ws (tail_at program at w ws stand) all.1 (omega (arith, room)))
  where
    rest : ℕ → Code
    rest within = code_from (at + 1) within ws

    first_at : program at ≡ w
    first_at = let e : at ≡ at + 0 = omega arith in ap program e ∙ stand 0 (omega arith)

    second_at : 2 ≤ length ws + 1 → program (at + 1) ≡ slice_index ws 0
    second_at two = stand 1 (omega (arith, two))

    here : (i : Instr) (len : ℕ) (b : Bool) → nat_lt (length ws + 1) len ≡ b → StandsFor i len w (slice_index ws 0) → ((within : ℕ) → AreCodeIn program (at + 1 + within) (rest within).placed)
        → AreCodeIn program (at + 0) (if b then no_more (Some at) else in_front (record { at = at; instr = i; behind = at + len }) (rest (len - 1))).placed
    here i len true is for more = tt
    here i len false is for more =
        let short : len ≤ length ws + 1 = ltb-false (length ws + 1) len is in
        let some : 1 ≤ len = omega (arith, for.length_is, some_words (second_word i)) in
        let e : at + 1 + (len - 1) ≡ at + len = omega (arith, some) in (
          omega arith,
          stands_there program at len (length ws + 1) (slice_index ws 0) i w first_at second_at for short (omega (arith, room)),
          subst (λ a. AreCodeIn program a (rest (len - 1)).placed) e (more (len - 1)),
        )

    by : (d : Decoded) → IfSome d (λ found. StandsFor found.0 found.1 w (slice_index ws 0)) → ((within : ℕ) → AreCodeIn program (at + 1 + within) (rest within).placed) → AreCodeIn program (at + 0) (with_rest at (length ws + 1) d rest).placed
    by None for more = tt
    by (Some found) for more = here found.0 found.1 (nat_lt (length ws + 1) found.1) refl for more

-- each stretch of them does
stretches_stand : (program : Memory) (targets : List ℕ) (a : ℕ) (ps : List Placed) → AreCodeIn program a ps → AllByRecursion (IsStretchIn program) (cut_at targets ps)
stretches_stand program targets a [] placed = tt
stretches_stand program targets a (p ∷ ps) placed =
    onto (is_cut_behind targets p) (cut_at targets ps) refl (first_starts targets p.behind ps (are_in_row program p.behind ps placed.2)) (stretches_stand program targets p.behind ps placed.2)
  where
    ends_not : (ends more : Bool) → (ends || more) ≡ false → ends ≡ false
    ends_not true more e = absurd (false≢true (sym e))
    ends_not false more e = refl

    goes_on_to : (f : List Placed) → StartsAt p.behind f → is_cut_behind targets p ≡ false → GoesOnTo p f
    goes_on_to [] starts is = tt
    goes_on_to (q ∷ qs) starts is = (starts, ends_not (ends_stretch p.instr) _ is)

    onto : (c : Bool) (ss : List (List Placed)) → is_cut_behind targets p ≡ c → FirstStartsAt p.behind ss → AllByRecursion (IsStretchIn program) ss → AllByRecursion (IsStretchIn program) (onto_stretches c p ss)
    onto true ss is starts so = ((placed.1, tt, tt), so)
    onto false [] is starts so = ((placed.1, tt, tt), tt)
    onto false (f ∷ r) is starts so = ((placed.1, goes_on_to f starts is, so.0), so.1)

-- no address is unknown where a walk comes to blocks
none_unknown : (lists : List (List ℕ)) → flat_map (λ (l : List ℕ). l) lists ≡ [] → AllByRecursion (λ l. l ≡ []) lists
none_unknown [] e = tt
none_unknown ([] ∷ lists) e = (refl, none_unknown lists e)
none_unknown ((a ∷ l) ∷ lists) e = absurd cc

all_known : (unknown : List ℕ) (fault : Option ℕ) (lists blocks : List (List ℕ)) → walked unknown fault lists ≡ Blocks blocks → unknown ≡ []
all_known [] fault lists blocks e = refl
all_known (at ∷ rest) fault lists blocks e = absurd cc

of_map : (f : List Placed → List ℕ) (ss : List (List Placed)) → AllByRecursion (λ l. l ≡ []) (map f ss) → AllByRecursion (λ s. f s ≡ []) ss
of_map f [] all = tt
of_map f (s ∷ ss) all = (all.0, of_map f ss all.1)

pub stretches_known : (code : Code) (blocks : List (List ℕ)) → walk_code code ≡ Blocks blocks → AllByRecursion (λ stretch. unknown_from nothing_known stretch ≡ []) (stretches code)
stretches_known code blocks e = of_map (unknown_from nothing_known) (stretches code) (none_unknown _ (all_known _ _ _ _ e))

-- where the code goes on behind a stretch
goes_on : (code : Code) (i : Instr) (behind : ℕ) (t : State) → ((to : ℕ) → jump_target i ≡ Some to → IsEntry code to) → IsEntry code behind → LeadsTo i behind t → IfSome (goes_on_at i t) (IsEntry code)
goes_on code (Branch op to x) behind t jumps next (inl there) = subst (IsEntry code) (sym there) (jumps to refl)
goes_on code (Branch op to x) behind t jumps next (inr there) = subst (IsEntry code) (sym there) next
goes_on code (Call to x) behind t jumps next leads = subst (λ o. IfSome o (IsEntry code)) (sym leads) next
goes_on code Ret behind t jumps next leads = tt
goes_on code i behind t jumps next leads = subst (IsEntry code) (sym leads) next

last_goes : (code : Code) (p : Placed) (ps : List Placed) (t : State) → AllByRecursion (λ q. (to : ℕ) → jump_target q.instr ≡ Some to → IsEntry code to) (p ∷ ps) → IsEntry code (wrap16 (end_of (p ∷ ps))) → LastLeads (p ∷ ps) t → GoesOn code (p ∷ ps) t
last_goes code p [] t jumps next leads = goes_on code p.instr (wrap16 p.behind) t jumps.0 next leads
last_goes code p (q ∷ ps) t jumps next leads = last_goes code q ps t jumps.1 next leads

ends_within : (program : Memory) (p : Placed) (ps : List Placed) → IsStretchIn program (p ∷ ps) → end_of (p ∷ ps) ≤ 65536
ends_within program p [] stretch = omega (arith, stretch.0.stands_there.room, stretch.0.behind_is)
ends_within program p (q ∷ ps) stretch = ends_within program q ps stretch.2

-- one of a list
pub of_one : {X : Type 0} (P : X → Type 0) (xs : List X) (x : X) → AllByRecursion P xs → IsAmong xs x → P x
of_one P xs x all among = subst P (sym among.1.1) (All-from_recursion P xs all among.0 x among.1.0)

module _ (code : Code) (first : ℕ) (program : Memory) (in_memory : AreCodeIn program first code.placed) where
  targets : List ℕ
  targets = filter_map (λ (p : Placed). jump_target p.instr) code.placed

  in_row : AreInRow first code.placed
  in_row = are_in_row program first code.placed in_memory

  jumps_enter : (ps : List Placed) → AllByRecursion (TargetsAmong (filter_map (λ (p : Placed). jump_target p.instr) code.placed)) ps → AllByRecursion (λ p. (to : ℕ) → jump_target p.instr ≡ Some to → IsEntry code to) ps
  jumps_enter [] all = tt
  jumps_enter (p ∷ ps) all = (λ to is. target_begins _ first to code.placed in_row (all.0 to is), jumps_enter ps all.1)

  told : (stretch : List Placed) (blocks : List (List ℕ)) (s : State) (steps : ℕ) → walk_code code ≡ Blocks blocks → IsAmong (stretches code) stretch → s.program ≡ program → begins s.pc stretch ≡ true → Tells code stretch (way steps s stretch [])
  told [] blocks s steps walks among same at = absurd (false≢true at)
  told (p ∷ ps) blocks s steps walks among same at =
      tells_so (way steps s (p ∷ ps) [])
      (goes_along program steps s nothing_known p ps [] (listed_from nothing_known (p ∷ ps)) stretch_in
      (record { pc = sym (eqb-true p.at s.pc at); code = same; known = record { arp_so = tt; ar_so = λ n. tt }; pending = pending_none s.repeats }) known refl)
    where
      stretch_in : IsStretchIn program (p ∷ ps)
      stretch_in = of_one (IsStretchIn program) (stretches code) (p ∷ ps) (stretches_stand program _ first code.placed in_memory) among

      known : unknown_from nothing_known (p ∷ ps) ≡ []
      known = of_one (λ stretch. unknown_from nothing_known stretch ≡ []) (stretches code) (p ∷ ps) (stretches_known code blocks walks) among

      jumps : AllByRecursion (λ q. (to : ℕ) → jump_target q.instr ≡ Some to → IsEntry code to) (p ∷ ps)
      jumps = jumps_enter (p ∷ ps) (of_one (AllByRecursion (TargetsAmong _)) (stretches code) (p ∷ ps) (in_each (TargetsAmong _) _ code.placed (are_targets code.placed)) among)

      next : IsEntry code (wrap16 (end_of (p ∷ ps)))
      next = wrapped_entry code first (end_of (p ∷ ps)) in_row (ends_within program p ps stretch_in) (of_one (IsFollowed _ code.placed) (stretches code) (p ∷ ps) (followed _ first code.placed in_row) among)

      pending_none : (r : Option ℕ) → Pending r nothing_known
      pending_none None = tt
      pending_none (Some times) = refl

      tells_so : (w : Way) → Makes (listed_from nothing_known (p ∷ ps)) (p ∷ ps) w → Tells code (p ∷ ps) w
      tells_so (Through made t) so = (so.0, last_goes code p ps t jumps next so.1)
      tells_so (SoFar made) so = so
      tells_so Astray so = absurd so

-- the words of a range
pub range_words : (words : List ℕ) (first n : ℕ) → All (λ w. w < 65536) words → AreWords (take n (drop first words))
range_words words first n all = recursion_from_All (λ w. w < 65536) (take n (drop first words)) (All-take (λ w. w < 65536) n (drop first words) (All-drop (λ w. w < 65536) first words all))

pub range_stands : (program : Memory) (first total : ℕ) (ws : List ℕ) → (1 ≤ length ws → first + length ws ≤ total) → total ≤ 65536 → AreWords ws → WordsAt program first ws → AreCodeIn program first (code_from first 0 ws).placed
range_stands program first total [] within room all stand = tt
range_stands program first total (w ∷ ws) within room all stand =
    let e : first + 0 ≡ first = omega arith in
    let some : 1 ≤ length (w ∷ ws) = omega arith in
    subst (λ a. AreCodeIn program a (code_from first 0 (w ∷ ws)).placed) e (code_stands program first 0 (w ∷ ws) stand all (omega (arith, within some, room)))

pub range_within : (words : List ℕ) (first n : ℕ) → 1 ≤ length (take n (drop first words)) → first + length (take n (drop first words)) ≤ length words
range_within words first n some = omega (arith, some, length-take n (drop first words), length-drop first words)

pub range_in : (words : List ℕ) (first last : ℕ) (s : State) → HoldsRange words first last s → AreCodeIn s.program first (code_of words first last).placed
range_in words first last s holds =
    range_stands s.program first (length words) (slice_range words first (last + 1)) (range_within words first (last + 1 - first)) holds.room
    (range_words words first (last + 1 - first) holds.fit) holds.stand

pub walk_tells : (words : List ℕ) (first last : ℕ) (blocks : List (List ℕ)) (stretch : List Placed) (s : State) (steps : ℕ) → walk words first last ≡ Blocks blocks → HoldsRange words first last s
    → IsAmong (stretches (code_of words first last)) stretch → begins s.pc stretch ≡ true → Tells (code_of words first last) stretch (way steps s stretch [])
walk_tells words first last blocks stretch s steps walks holds among at =
    told (code_of words first last) first s.program (range_in words first last s holds) stretch blocks s steps walks among refl at

pub range_is_entered : (words : List ℕ) (first last : ℕ) → IsEntry (code_of words first last) first
range_is_entered words first last = first_is_entry (code_of words first last) first (code_begins first (slice_range words first (last + 1)))
