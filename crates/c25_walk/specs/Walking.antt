-- Where a walk stands behind some instructions.
use Rattle.std.specs.Prelude.{◌≡◌, ℕ, ◌+◌, Bool, true, false, if◌then◌else◌, List, [], ◌∷◌, ◌++◌, filter, Option, Some, None, option_to_list}
use Rattle.c25_isa.specs.Walk.{Placed, Known, nothing_known, known_behind, access, listed, unknown_at, has_some, is_cut_behind}
use Rattle.c25_isa.specs.AddressCount.{is_address_instruction}
use Rattle.c25_walk.specs.Places.{listing_at}
use Rattle.c25_walk.specs.declared.walker.Walker.{Walker}
use Rattle.c25_walk.specs.declared.fault.WalkFault.{WalkFault}
use Rattle.c25_walk.specs.declared.fault.WalkFault.TheVariants.{BadWord, UnknownAddress, NoMemory}
use Rattle.c25_walk.specs.KnownView.{known_of}

-- what is known, the addresses that the stretch has listed so far, the lists of the stretches before it, where each list begins that
-- has an address, and how many address instructions there were
pub record Walking : Type 0 where
  pub known : Known
  pub addresses : List ℕ
  pub blocks : List (List ℕ)
  pub places : List ℕ
  pub count : ℕ

abbrev pub walking_of : Walker → Walking
walking_of w = record { known = known_of w.known; addresses = w.addresses.items; blocks = w.blocks.items; places = w.places.items; count = w.count }

abbrev pub started : Walking
started = record { known = nothing_known; addresses = []; blocks = []; places = []; count = 0 }

-- a list begins where it has no address yet
abbrev pub begun : List ℕ → List ℕ → List ℕ
begun [] ats = ats
begun (a ∷ addresses) ats = []

-- behind an instruction
abbrev pub walked_over : Walking → Placed → Walking
walked_over w p = record {
  known = known_behind w.known p.instr;
  addresses = w.addresses ++ option_to_list (listed (access w.known p.instr));
  blocks = w.blocks;
  places = w.places ++ begun w.addresses (option_to_list (listing_at w.known p));
  count = w.count + (if is_address_instruction w.known p.instr then 1 else 0);
}

-- behind a cut
abbrev pub cut_off : Walking → Walking
cut_off w = record { known = nothing_known; addresses = []; blocks = w.blocks ++ filter has_some (w.addresses ∷ []); places = w.places; count = w.count }

-- where there is one
abbrev pub cut_where : Bool → Walking → Walking
cut_where true w = cut_off w
cut_where false w = w

-- behind an instruction and the cut behind it, if there is one
abbrev pub behind_one : List ℕ → Walking → Placed → Walking
behind_one targets w p = cut_where (is_cut_behind targets p) (walked_over w p)

-- behind all of these instructions
abbrev pub behind_all : List ℕ → Walking → List Placed → Walking
behind_all targets w [] = w
behind_all targets w (p ∷ ps) = behind_all targets (behind_one targets w p) ps

-- the first one, where there is one
abbrev pub or_else : Option ℕ → Option ℕ → Option ℕ
or_else None other = other
or_else (Some at) other = Some at

-- where the first of these accesses stands whose address isn't known
abbrev pub first_unknown : List ℕ → Walking → List Placed → Option ℕ
first_unknown targets w [] = None
first_unknown targets w (p ∷ ps) = or_else (unknown_at p.at (access w.known p.instr)) (first_unknown targets (behind_one targets w p) ps)

-- a fault names this place. Of want of memory nothing is said.
abbrev pub IsUnknown : Option ℕ → WalkFault → Type 0
IsUnknown place (BadWord at) = ⊥
IsUnknown place (UnknownAddress at) = place ≡ Some at
IsUnknown place NoMemory = Unit {0}
