-- Places and tallies as they stand in memory.
use Rattle.std.specs.Prelude.{◌≡◌, ℕ, ◌+◌, ◌-◌, ◌*◌, ◌<◌, ◌≤◌, ◌==◌, nat_lt, pos, Bool, not, List, ◌++◌, [], ◌∷◌, length, fold, replicate, Option, Some, None, option_map, slice_index_or, slice_set, if◌then◌else◌}
use Rattle.std.specs.List.{concat}
use Rattle.lay_cost.specs.declared.places.Place.{Place}
use Rattle.lay_cost.specs.declared.places.Places.{Places}
use Rattle.lay_cost.specs.declared.tally.Tally as memory
use Rattle.lay_cost.specs.Placements.{Placement, has, list_of, place_in}
use Rattle.lay_cost.specs.Cost.{Tally, tally_behind}
use Rattle.lay_cost.specs.Weights.{weight_at, is_pair, times_beside}

-- the register on which no list lies
abbrev pub spare : ℕ
spare = 64

-- where scalars stand that have no place
abbrev pub nowhere : Place
nowhere = record { register = spare; offset = 0 }

-- where a scalar stands, in lists or nowhere
abbrev pub placed : List (List ℕ) → ℕ → Place
placed lists s = if has (concat lists) s then record { register = list_of lists s; offset = place_in lists s } else nowhere

abbrev pub place_at : List Place → ℕ → Place
place_at table s = slice_index_or table s nowhere

abbrev pub is_somewhere : Place → Bool
is_somewhere p = not (p.register == spare)

abbrev pub is_placed : List Place → ℕ → Bool
is_placed table s = is_somewhere (place_at table s)

-- what a table of places says of each scalar
abbrev pub placement_in : List Place → Placement
placement_in table = record { register = λ s. (place_at table s).register; offset = λ s. pos (place_at table s).offset }

-- one of 64 offsets of one of 64 registers, or nowhere
pub record IsNear (p : Place) : Type 0 where
  pub register : p.register ≤ spare
  pub offset : p.offset < 64
  pub spare_offset : p.register ≡ spare → p.offset ≡ 0

abbrev pub AreNear : List Place → Type 0
AreNear table = (s : ℕ) → IsNear (place_at table s)

-- stands for the last offset of a register that isn't loaded
abbrev pub not_loaded : ℕ
not_loaded = 255

abbrev pub not_loaded_anywhere : List ℕ
not_loaded_anywhere = slice_set (replicate 65 not_loaded) spare 0

abbrev pub last_of : List ℕ → ℕ → ℕ
last_of last r = slice_index_or last r not_loaded

abbrev pub loaded : ℕ → Option ℕ
loaded offset = if offset == not_loaded then None else Some offset

-- the last offset of a register that lists lie on
abbrev pub last_in : List ℕ → ℕ → Option ℕ
last_in last r = if r == spare then None else loaded (last_of last r)

-- the spare register stays where scalars stand that have no place
pub record IsSpareKept (last : List ℕ) : Type 0 where
  pub size : length last ≡ 65
  pub offset : last_of last spare ≡ 0

-- moves by the step aren't paid
abbrev pub tally_of : List ℕ → memory.Tally → Tally
tally_of last t = record { last = λ r. option_map pos (last_in last r); stepped = nat_lt 0 t.by_step; paid = t.far - t.by_step }

abbrev pub tally_behind_place : ℕ → Tally → Place → Tally
tally_behind_place step t p = if is_somewhere p then tally_behind step t p.register (pos p.offset) else t

-- one more scalar in the open list
abbrev pub with_scalar : Places → ℕ → Places
with_scalar p s = record { places = slice_set p.places s (record { register = p.register; offset = p.length }); register = p.register; length = p.length + 1 }

-- the open list is closed
abbrev pub with_close : Places → Places
with_close p = record { places = p.places; register = p.register + 1; length = 0 }

-- one more list, which is closed
abbrev pub with_list : Places → List ℕ → Places
with_list p list = with_close (fold with_scalar p list)

abbrev pub no_places : Places
no_places = record { places = replicate 64 nowhere; register = 0; length = 0 }

-- the places of closed lists and of an open one
pub record ArePlaces (closed : List (List ℕ)) (open_list : List ℕ) (p : Places) : Type 0 where
  pub size : length p.places ≡ 64
  pub places : (s : ℕ) → place_at p.places s ≡ placed (closed ++ (open_list ∷ [])) s
  pub register : p.register ≡ length closed
  pub length : p.length ≡ length open_list

-- a table of weights, of which only those of so many scalars may be above 0
pub record HasCorner (scalars : ℕ) (table : List ℕ) : Type 0 where
  pub size : length table ≡ 4096
  pub few : scalars ≤ 64
  pub below : (x y : ℕ) → x < 64 → y < 64 → scalars ≤ x → weight_at table x y ≡ 0
  pub beside : (x y : ℕ) → x < 64 → y < 64 → scalars ≤ y → weight_at table x y ≡ 0

-- a table of weights with more for one pair
abbrev pub HasPair : List ℕ → List ℕ → ℕ → ℕ → ℕ → Type 0
HasPair old new a b weight = (x y : ℕ) → x < 64 → y < 64 → weight_at new x y ≡ weight_at old x y + (if is_pair x y a b then weight else 0)

-- with the pairs of the accesses of a block
abbrev pub HasBlock : List ℕ → List ℕ → List ℕ → ℕ → Type 0
HasBlock old new accesses weight = (x y : ℕ) → x < 64 → y < 64 → weight_at new x y ≡ weight_at old x y + weight * times_beside x y accesses

-- each number is small
abbrev pub AreSmall : List ℕ → ℕ → Type 0
AreSmall table most = (x y : ℕ) → x < 64 → y < 64 → weight_at table x y ≤ most

-- whether the last access before one and it are a pair
abbrev pub pairs_with_last : ℕ → ℕ → Option ℕ → ℕ → ℕ
pairs_with_last x y None b = 0
pairs_with_last x y (Some a) b = if is_pair x y a b then 1 else 0

-- a table of weights with what an access adds behind a last one
abbrev pub HasNext : List ℕ → List ℕ → Option ℕ → ℕ → ℕ → Type 0
HasNext old new last b weight = (x y : ℕ) → x < 64 → y < 64 → weight_at new x y ≡ weight_at old x y + weight * pairs_with_last x y last b
