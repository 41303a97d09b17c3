-- Along a stretch, a word of a function's own frame is accessed as it is listed, or through a register that walks don't follow.
use Rattle.std.proofs.Common.{◌≡◌, ℕ, Bool, true, false, List, [], ◌∷◌, ◌++◌, Option, Some, None, refl, sym, ap, ◌∙◌, eq-eqb}
use Rattle.std.specs.Prelude.{◌==◌, ◌&&◌, ◌||◌, not, if◌then◌else◌}
use Rattle.std.specs.List.{cons_option, IsAmong}
use Rattle.std.proofs.lemmas.Bool.{false≢true}
use Rattle.c25_isa.specs.State.{State}
use Rattle.c25_isa.specs.Walk.{Placed, Code, code_of, stretches, goes_over_scalars, Blocks, walk}
use Rattle.c25_isa.specs.Direct.{Words, is_among, is_scratch, may_name, Direct}
use Rattle.c25_isa.specs.StretchRuns.{DataAccess, Way, Through, SoFar, Astray, way, through_scalars, scalar_accesses, listed_in, HoldsRange, begins, Tells, accesses_of, stored_behind, MayName, IsListedOrBeside, AreListedOrBeside}
use Rattle.c25_isa.proofs.StretchCode.{walk_tells}
use Rattle.c25_isa.proofs.DirectCode.{direct_tells}

among_first : (a : ℕ) (rest : List ℕ) → is_among a (a ∷ rest) ≡ true
among_first a rest = ap (λ b. b || is_among a rest) (eq-eqb a a refl)

among_later : (a b : ℕ) (rest : List ℕ) → is_among a rest ≡ true → is_among a (b ∷ rest) ≡ true
among_later a b rest found = by (b == a) found
  where
    by : (c : Bool) → is_among a rest ≡ true → (c || is_among a rest) ≡ true
    by true found = refl
    by false found = found

among_front : (a : ℕ) (front rest : List ℕ) → is_among a front ≡ true → is_among a (front ++ rest) ≡ true
among_front a [] rest found = absurd (false≢true found)
among_front a (b ∷ front) rest found = by (b == a) found (among_front a front rest)
  where
    by : (c : Bool) → (c || is_among a front) ≡ true → (is_among a front ≡ true → is_among a (front ++ rest) ≡ true) → (c || is_among a (front ++ rest)) ≡ true
    by true found more = refl
    by false found more = more found

among_option : (a : ℕ) (o : Option ℕ) (rest : List ℕ) → is_among a rest ≡ true → is_among a (cons_option o rest) ≡ true
among_option a None rest found = found
among_option a (Some b) rest found = among_later a b rest found

-- a word of the frame may not be named
not_own : (w : Words) (stored : List ℕ) (store : Bool) (a : ℕ) → may_name w stored store a ≡ true → is_among a w.own ≡ true → ⊥
not_own w stored store a may own = by (is_among a w.own) own may
  where
    by : (b : Bool) → b ≡ true → (not b && (if is_scratch a then store || is_among a stored else is_among a w.places || (store && is_among a w.given))) ≡ true → ⊥
    by true own may = false≢true may
    by false own may = false≢true own

each : (w : Words) (stored : List ℕ) (made : List DataAccess) (addresses : List ℕ) → MayName w stored made → ((a : ℕ) → is_among a (scalar_accesses made) ≡ true → is_among a addresses ≡ true) → AreListedOrBeside w.own addresses made
each w stored [] addresses may within = tt
each w stored (x ∷ made) addresses may within =
    (λ own. by x.through may.0 within own, each w (stored_behind x x.through stored) made addresses may.1 (λ a found. within a (among_option a (through_scalars x.address x.through) (scalar_accesses made) found)))
  where
    listed : (r : ℕ) (over : Bool) → over ≡ true → ((a : ℕ) → is_among a (cons_option (if over then Some x.address else None) (scalar_accesses made)) ≡ true → is_among a addresses ≡ true) → is_among x.address addresses ≡ true
    listed r true over all = all x.address (among_first x.address (scalar_accesses made))
    listed r false over all = absurd (false≢true over)

    by : (through : Option ℕ) → (through ≡ None → may_name w stored x.stores x.address ≡ true) → ((a : ℕ) → is_among a (cons_option (through_scalars x.address through) (scalar_accesses made)) ≡ true → is_among a addresses ≡ true)
        → is_among x.address w.own ≡ true → IsListedOrBeside addresses x.address through
    by None names all own = absurd (not_own w stored x.stores x.address (names refl) own)
    by (Some r) names all own = λ over. listed r (goes_over_scalars r) over all

within_listed : (code : Code) (stretch : List Placed) (way : Way) → Tells code stretch way → (a : ℕ) → is_among a (scalar_accesses (accesses_of way)) ≡ true → is_among a (listed_in stretch) ≡ true
within_listed code stretch (Through made t) tells a found = ap (is_among a) (sym tells.0) ∙ found
within_listed code stretch (SoFar made) tells a found = ap (is_among a) (sym tells.1) ∙ among_front a (scalar_accesses made) tells.0 found
within_listed code stretch Astray tells a found = absurd tells

pub frame_tells : (words : List ℕ) (first last : ℕ) (blocks : List (List ℕ)) (own places given : List ℕ) (stretch : List Placed) (s : State) (steps : ℕ) → walk words first last ≡ Blocks blocks → Direct words first last own places given
    → HoldsRange words first last s → IsAmong (stretches (code_of words first last)) stretch → begins s.pc stretch ≡ true → AreListedOrBeside own (listed_in stretch) (accesses_of (way steps s stretch []))
frame_tells words first last blocks own places given stretch s steps walks direct holds among at =
    each (record { own = own; places = places; given = given }) [] (accesses_of (way steps s stretch [])) (listed_in stretch)
    (direct_tells words first last own places given stretch s steps direct holds among)
    (within_listed (code_of words first last) stretch (way steps s stretch []) (walk_tells words first last blocks stretch s steps walks holds among at))
