-- What each operator of the typed tree gives on words: ISO 9899:1990 6.3.3.3 and 6.3.5 to 6.3.12, by docs/LANGUAGE.md,
-- "Values".
use Rattle.std.specs.Prelude.{ℕ, not, Result, Ok, Err}
use Rattle.c_syntax.specs.word_base.declared.outcome.UndefinedKind.{UndefinedKind}
use Rattle.c_syntax.specs.word_base.Words.{Calc, Good, Bad, truth, int_add, int_subtract, int_multiply, int_quotient, int_remainder, int_negate, unsigned_add, unsigned_subtract, unsigned_multiply, unsigned_quotient, unsigned_remainder, unsigned_negate, bits_and, bits_or, bits_xor, complement, shift_left, int_shift_right, unsigned_shift_right, equal, int_less, unsigned_less}
use Rattle.c_syntax.specs.declared.operator.UnaryOp.{UnaryOp}
use Rattle.c_syntax.specs.declared.operator.UnaryOp.TheVariants.{Minus, Plus, Complement}
use Rattle.c_syntax.specs.declared.operator.BinaryOp.{BinaryOp}
use Rattle.c_syntax.specs.declared.operator.BinaryOp.TheVariants.{Add, Sub, Mul, Div, Rem, And, Or, Xor, Shl, Shr, Eq, Ne, Lt, Gt, Le, Ge}

-- two ints
abbrev pub int_binary : BinaryOp → ℕ → ℕ → Calc
int_binary Add a b = int_add a b
int_binary Sub a b = int_subtract a b
int_binary Mul a b = int_multiply a b
int_binary Div a b = int_quotient a b
int_binary Rem a b = int_remainder a b
int_binary And a b = bits_and a b
int_binary Or a b = bits_or a b
int_binary Xor a b = bits_xor a b
int_binary Shl a b = shift_left a b
int_binary Shr a b = int_shift_right a b
int_binary Eq a b = Good (truth (equal a b))
int_binary Ne a b = Good (truth (not (equal a b)))
int_binary Lt a b = Good (truth (int_less a b))
int_binary Gt a b = Good (truth (int_less b a))
int_binary Le a b = Good (truth (not (int_less b a)))
int_binary Ge a b = Good (truth (not (int_less a b)))

-- two words without a sign
abbrev pub unsigned_binary : BinaryOp → ℕ → ℕ → Calc
unsigned_binary Add a b = unsigned_add a b
unsigned_binary Sub a b = unsigned_subtract a b
unsigned_binary Mul a b = unsigned_multiply a b
unsigned_binary Div a b = unsigned_quotient a b
unsigned_binary Rem a b = unsigned_remainder a b
unsigned_binary And a b = bits_and a b
unsigned_binary Or a b = bits_or a b
unsigned_binary Xor a b = bits_xor a b
unsigned_binary Shl a b = shift_left a b
unsigned_binary Shr a b = unsigned_shift_right a b
unsigned_binary Eq a b = Good (truth (equal a b))
unsigned_binary Ne a b = Good (truth (not (equal a b)))
unsigned_binary Lt a b = Good (truth (unsigned_less a b))
unsigned_binary Gt a b = Good (truth (unsigned_less b a))
unsigned_binary Le a b = Good (truth (not (unsigned_less b a)))
unsigned_binary Ge a b = Good (truth (not (unsigned_less a b)))

-- one int
abbrev pub int_unary : UnaryOp → ℕ → Calc
int_unary Minus a = int_negate a
int_unary Plus a = Good a
int_unary Complement a = complement a

-- one word without a sign
abbrev pub unsigned_unary : UnaryOp → ℕ → Calc
unsigned_unary Minus a = unsigned_negate a
unsigned_unary Plus a = Good a
unsigned_unary Complement a = complement a

-- what code that calculates a word answers
abbrev pub answer : Calc → Result ℕ UndefinedKind
answer (Good w) = Ok w
answer (Bad kind) = Err kind
