-- Numbers (docs/FORMATS.md, "Assembler text").
use Rattle.std.specs.Prelude.{ℕ, ◌+◌, ◌*◌, ◌==◌, ◌&&◌, Bool, not, nat_lt, min, if◌then◌else◌, ℤ, pos, neg_ℤ, List, [], ◌∷◌, length, drop, take, slice_index, Option, Some, None, Result, Ok, Err, codes}
use Rattle.std.specs.Str.{bytes_eq}
use Rattle.std.specs.Char.{digit_value}
use Rattle.c25_asm.specs.declared.statement.LineFault.{LineFault}
use Rattle.c25_asm.specs.declared.statement.LineFault.TheVariants.{BadLine, OutOfRange}

-- what digits of a base stand for behind others of this value, where they are digits
abbrev pub value_from : ℕ → ℕ → List ℕ → Option ℕ
value_from base value [] = Some value
value_from base value (c ∷ cs) = if nat_lt (digit_value c) base then value_from base (value * base + digit_value c) cs else None

-- what one digit or more stand for
abbrev pub digits : ℕ → List ℕ → Option ℕ
digits base [] = None
digits base (c ∷ cs) = value_from base 0 (c ∷ cs)

-- what stands behind a text at the front, where it stands there
abbrev pub behind_front : List ℕ → List ℕ → Option (List ℕ)
behind_front front text = if bytes_eq (take (length front) text) front then Some (drop (length front) text) else None

-- a hexadecimal number behind 0x, else a decimal one, which may have zeros in front
abbrev pub number_by : Option (List ℕ) → List ℕ → Option ℕ
number_by (Some hexadecimal) text = digits 16 hexadecimal
number_by None text = digits 10 text

abbrev pub number : List ℕ → Option ℕ
number text = number_by (behind_front (codes "0x") text) text

-- a number, or the greatest of 32 bits where it is above that: no field is so wide
abbrev pub capped : Option ℕ → Option ℕ
capped None = None
capped (Some n) = Some (min 4294967295 n)

-- a number that is below a bound
abbrev pub below : ℕ → Option ℕ → Result ℕ LineFault
below bound None = Err BadLine
below bound (Some n) = if nat_lt n bound then Ok n else Err OutOfRange

-- a number that may have a minus sign, from -4096 to 4095
abbrev pub negated : Result ℕ LineFault → Result ℤ LineFault
negated (Ok n) = Ok (neg_ℤ (pos n))
negated (Err fault) = Err fault

abbrev pub positive : Result ℕ LineFault → Result ℤ LineFault
positive (Ok n) = Ok (pos n)
positive (Err fault) = Err fault

abbrev pub signed_by : Option (List ℕ) → List ℕ → Result ℤ LineFault
signed_by (Some magnitude) text = negated (below 4097 (number magnitude))
signed_by None text = positive (below 4096 (number text))

abbrev pub signed_number : List ℕ → Result ℤ LineFault
signed_number text = signed_by (behind_front (codes "-") text) text

-- a decimal number below a bound, without zeros in front: that of a register or a port
abbrev pub has_zero_in_front : List ℕ → Bool
has_zero_in_front text = nat_lt 1 (length text) && (slice_index text 0 == 48)

abbrev pub bare_below : ℕ → Bool → Option ℕ → Option ℕ
bare_below bound zero_in_front None = None
bare_below bound zero_in_front (Some n) = if nat_lt n bound && not zero_in_front then Some n else None

-- a word and a number behind it, where the text is these
abbrev pub numbered_by : ℕ → Option (List ℕ) → Option ℕ
numbered_by bound None = None
numbered_by bound (Some text) = bare_below bound (has_zero_in_front text) (digits 10 text)

abbrev pub numbered : List ℕ → ℕ → List ℕ → Option ℕ
numbered front bound text = numbered_by bound (behind_front front text)
