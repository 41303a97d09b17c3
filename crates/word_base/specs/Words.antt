-- The readings of a word of 16 bits, and the value of each operator on words: ISO 9899:1990 6.1.2.5, 6.2.1.2 and
-- 6.3.3 to 6.3.12, with the choices of docs/LANGUAGE.md, "Values". Each computes on whole numbers without a limit.
use Rattle.std.specs.Prelude.{◌≡◌, ◌⊎◌, ℕ, ◌-◌, ◌*◌, ◌/◌, ◌%◌, ◌^◌, ℤ, pos, negsuc, ◌+ℤ◌, ◌-ℤ◌, ◌*ℤ◌, int_lt, int_div, int_rem, Bool, true, false, nat_lt, ◌==◌, ◌||◌, if◌then◌else◌, bit_and, bit_or, bit_xor}
use Rattle.word_base.specs.declared.outcome.UndefinedKind.{UndefinedKind}
use Rattle.word_base.specs.declared.outcome.UndefinedKind.TheVariants.{Overflow, DivideByZero, ShiftCount}

-- a word, or why there is none
pub data Calc : Type 0 where
  Good : ℕ → Calc
  Bad : UndefinedKind → Calc

-- the signed reading of a word: from 32768 on it stands for itself less 65536
abbrev pub signed_of : ℕ → ℤ
signed_of w = if nat_lt w 32768 then pos w else pos w -ℤ pos 65536

-- the unsigned reading of a word
abbrev pub zero_extended : ℕ → ℤ
zero_extended w = pos w

-- the low 16 bits of a number
abbrev pub low16 : ℤ → ℕ
low16 (pos n) = n % 65536
low16 (negsuc n) = 65535 - n % 65536

-- a number as an int, which holds -32768 to 32767
abbrev pub fit : ℤ → Calc
fit z = if int_lt z (negsuc 32767) || int_lt (pos 32767) z then Bad Overflow else Good (low16 z)

-- a number as an unsigned, which wraps
abbrev pub wrap : ℤ → Calc
wrap z = Good (low16 z)

-- the word of a comparison
abbrev pub truth : Bool → ℕ
truth true = 1
truth false = 0

-- a value by a divisor that isn't zero
abbrev pub unless_zero : ℕ → Calc → Calc
unless_zero b value = if b == 0 then Bad DivideByZero else value

-- a value that is there where another one is
abbrev pub where_good : Calc → Calc → Calc
where_good (Good w) value = value
where_good (Bad kind) value = Bad kind

-- a value by a count of 0 to 15
abbrev pub with_count : ℕ → Calc → Calc
with_count b value = if nat_lt b 16 then value else Bad ShiftCount

abbrev pub int_add : ℕ → ℕ → Calc
int_add a b = fit (signed_of a +ℤ signed_of b)

abbrev pub int_subtract : ℕ → ℕ → Calc
int_subtract a b = fit (signed_of a -ℤ signed_of b)

abbrev pub int_multiply : ℕ → ℕ → Calc
int_multiply a b = fit (signed_of a *ℤ signed_of b)

-- the quotient is cut toward zero
abbrev pub int_quotient : ℕ → ℕ → Calc
int_quotient a b = unless_zero b (fit (int_div (signed_of a) (signed_of b)))

-- there is a remainder where there is a quotient
abbrev pub int_remainder : ℕ → ℕ → Calc
int_remainder a b = where_good (int_quotient a b) (wrap (int_rem (signed_of a) (signed_of b)))

abbrev pub int_negate : ℕ → Calc
int_negate a = fit (pos 0 -ℤ signed_of a)

abbrev pub unsigned_add : ℕ → ℕ → Calc
unsigned_add a b = wrap (zero_extended a +ℤ zero_extended b)

abbrev pub unsigned_subtract : ℕ → ℕ → Calc
unsigned_subtract a b = wrap (zero_extended a -ℤ zero_extended b)

abbrev pub unsigned_multiply : ℕ → ℕ → Calc
unsigned_multiply a b = wrap (zero_extended a *ℤ zero_extended b)

abbrev pub unsigned_quotient : ℕ → ℕ → Calc
unsigned_quotient a b = unless_zero b (Good (a / b))

abbrev pub unsigned_remainder : ℕ → ℕ → Calc
unsigned_remainder a b = unless_zero b (Good (a % b))

abbrev pub unsigned_negate : ℕ → Calc
unsigned_negate a = wrap (pos 0 -ℤ zero_extended a)

abbrev pub bits_and : ℕ → ℕ → Calc
bits_and a b = Good (bit_and a b)

abbrev pub bits_or : ℕ → ℕ → Calc
bits_or a b = Good (bit_or a b)

abbrev pub bits_xor : ℕ → ℕ → Calc
bits_xor a b = Good (bit_xor a b)

abbrev pub complement : ℕ → Calc
complement a = Good (65535 - a)

-- the bit pattern is shifted, of an int too
abbrev pub shift_left : ℕ → ℕ → Calc
shift_left a b = with_count b (Good (a * 2 ^ b % 65536))

-- the sign is copied
abbrev pub int_shift_right : ℕ → ℕ → Calc
int_shift_right a b = with_count b (Good (if nat_lt a 32768 then a / 2 ^ b else 65535 - (65535 - a) / 2 ^ b))

abbrev pub unsigned_shift_right : ℕ → ℕ → Calc
unsigned_shift_right a b = with_count b (Good (a / 2 ^ b))

abbrev pub equal : ℕ → ℕ → Bool
equal a b = a == b

abbrev pub int_less : ℕ → ℕ → Bool
int_less a b = int_lt (signed_of a) (signed_of b)

abbrev pub unsigned_less : ℕ → ℕ → Bool
unsigned_less a b = nat_lt a b

-- two numbers of 32 bits without a quotient of 32 bits: by 0, and of the least number by -1
abbrev pub HasNoQuotient : ℤ → ℤ → Type 0
HasNoQuotient a b = (b ≡ pos 0) ⊎ ((a ≡ negsuc 2147483647) × (b ≡ negsuc 0))
