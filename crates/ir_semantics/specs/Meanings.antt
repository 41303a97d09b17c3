-- What each operation of word trees does with words: sums, differences and products wrap, and the others are those of the language.
use Rattle.std.specs.Prelude.{ℕ, Bool, not}
use Rattle.word_base.specs.Words.{Calc, Good, truth, unsigned_add, unsigned_subtract, unsigned_multiply, unsigned_negate, int_quotient, unsigned_quotient, int_remainder, unsigned_remainder, bits_and, bits_or, bits_xor, complement, shift_left, int_shift_right, unsigned_shift_right, equal, int_less, unsigned_less}
use Rattle.c_syntax.specs.declared.operator.UnaryOp.{UnaryOp}
use Rattle.c_syntax.specs.declared.operator.UnaryOp.TheVariants.{Minus, Plus, Complement}
use Rattle.tree_code.specs.declared.operator.WordOp.{WordOp}
use Rattle.tree_code.specs.declared.operator.WordOp.TheVariants as word

-- a word, or a truth
pub data Meaning : Type 0 where
  Calculates : (ℕ → ℕ → Calc) → Meaning
  Decides : (ℕ → ℕ → Bool) → Meaning

abbrev pub meaning_of : WordOp → Meaning
meaning_of word.Add = Calculates unsigned_add
meaning_of word.Sub = Calculates unsigned_subtract
meaning_of word.Mul = Calculates unsigned_multiply
meaning_of word.DivInt = Calculates int_quotient
meaning_of word.DivUnsigned = Calculates unsigned_quotient
meaning_of word.RemInt = Calculates int_remainder
meaning_of word.RemUnsigned = Calculates unsigned_remainder
meaning_of word.And = Calculates bits_and
meaning_of word.Or = Calculates bits_or
meaning_of word.Xor = Calculates bits_xor
meaning_of word.Shl = Calculates shift_left
meaning_of word.ShrInt = Calculates int_shift_right
meaning_of word.ShrUnsigned = Calculates unsigned_shift_right
meaning_of word.Eq = Decides equal
meaning_of word.Ne = Decides (λ a b. not (equal a b))
meaning_of word.LtInt = Decides int_less
meaning_of word.LtUnsigned = Decides unsigned_less
meaning_of word.GtInt = Decides (λ a b. int_less b a)
meaning_of word.GtUnsigned = Decides (λ a b. unsigned_less b a)
meaning_of word.LeInt = Decides (λ a b. not (int_less b a))
meaning_of word.LeUnsigned = Decides (λ a b. not (unsigned_less b a))
meaning_of word.GeInt = Decides (λ a b. not (int_less a b))
meaning_of word.GeUnsigned = Decides (λ a b. not (unsigned_less a b))

-- a truth as a word
abbrev pub calculated : Meaning → ℕ → ℕ → Calc
calculated (Calculates f) a b = f a b
calculated (Decides f) a b = Good (truth (f a b))

abbrev pub of_one_word : UnaryOp → ℕ → Calc
of_one_word Minus a = unsigned_negate a
of_one_word Plus a = Good a
of_one_word Complement a = complement a
