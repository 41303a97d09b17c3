-- Code that stands behind other code, and how many words it takes.
use Rattle.std.proofs.Common.{◌≡◌, ℕ, ◌+◌, List, [], ◌∷◌, ◌++◌, length, Option, Some, None, refl, subst, arith}
use Rattle.c25_isa.specs.declared.instruction.Instr.{Instr}
use Rattle.c25_isa.specs.State.{Memory}
use Rattle.c25_isa.specs.Table.{first_word, second_word, with_second, length_of, code_words}
use Rattle.c25_isa.specs.CodeAt.{CodeAt}
use Rattle.c25_code.specs.Straight.{code_size}

pub code_size-append : (a b : List Instr) → code_size (a ++ b) ≡ code_size a + code_size b
code_size-append [] b = omega arith
code_size-append (i ∷ a) b = omega (arith, code_size-append a b)

pub code_words-size : (code : List Instr) → length (code_words code) ≡ code_size code
code_words-size [] = refl
code_words-size (i ∷ is) = omega (arith, words_then (first_word i) (second_word i) (code_words is), code_words-size is)
  where
    words_then : (first : ℕ) (second : Option ℕ) (rest : List ℕ) → length (with_second first second ++ rest) ≡ length_of second + length rest
    words_then first None rest = omega arith
    words_then first (Some word) rest = omega arith

pub code_front : (program : Memory) (a b : List Instr) (pc : ℕ) → CodeAt program pc (a ++ b) → CodeAt program pc a
code_front program [] b pc at = tt
code_front program (i ∷ a) b pc at = (at.0, code_front program a b (pc + length_of (second_word i)) at.1)

pub code_back : (program : Memory) (a b : List Instr) (pc : ℕ) → CodeAt program pc (a ++ b) → CodeAt program (pc + code_size a) b
code_back program [] b pc at = let e : pc ≡ pc + 0 = omega arith in subst (λ n. CodeAt program n b) e at
code_back program (i ∷ a) b pc at =
    let e : pc + length_of (second_word i) + code_size a ≡ pc + (length_of (second_word i) + code_size a) = omega arith in
    subst (λ n. CodeAt program n b) e (code_back program a b (pc + length_of (second_word i)) at.1)
