-- Names as a test (docs/FORMATS.md, "Names"), and the labels of a text.
use Rattle.std.specs.Prelude.{ℕ, ◌==◌, ◌&&◌, ◌||◌, Bool, nat_le, List, length, slice_index, Option, Some, None, IfSome, ◌<◌}
use Rattle.std.specs.List.{list_all}
use Rattle.c25_asm.specs.declared.statement.Place.{Place}

-- a letter or _
abbrev pub begins_name : ℕ → Bool
begins_name c = (nat_le 65 c && nat_le c 90) || ((nat_le 97 c && nat_le c 122) || (c == 95))

abbrev pub is_in_name : ℕ → Bool
is_in_name c = begins_name c || (nat_le 48 c && nat_le c 57)

-- a letter or _, and then letters, digits and _, at most 127 in all
abbrev pub is_name : List ℕ → Bool
is_name text = nat_le 1 (length text) && (nat_le (length text) 127 && (begins_name (slice_index text 0) && list_all is_in_name text))

-- where the label of a name stands, if a line has it
abbrev pub Labels : Type 0
Labels = List ℕ → Option Place

-- the first of two places, where it is there
abbrev pub or_place : Option Place → Option Place → Option Place
or_place (Some place) other = Some place
or_place None other = other

-- numbers of 16 bits
abbrev pub AreSmall : Labels → Type 0
AreSmall labels = (name : List ℕ) → IfSome (labels name) (λ place. place.number < 65536)
