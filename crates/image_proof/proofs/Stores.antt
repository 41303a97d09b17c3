-- Words that are stored one behind another, and words that lie so.
use Rattle.std.proofs.Common.{◌≡◌, ◌≢◌, ℕ, zero, suc, ◌+◌, ◌<◌, ◌≤◌, Bool, true, false, List, [], ◌∷◌, ◌++◌, length, refl, sym, ◌∙◌, cond, arith, eqb-true}
use Rattle.std.specs.Prelude.{◌==◌, replicate}
use Rattle.c25_isa.specs.State.{Memory, write}
use Rattle.c25_code.proofs.Writes.{write_same, write_other}
use Rattle.frame_emit.specs.Startup.{before_zeros, up_to_last}

-- memory behind words that are stored from an address on, the first one first
abbrev pub stored : ℕ → List ℕ → Memory → Memory
stored a [] ram = ram
stored a (w ∷ ws) ram = stored (suc a) ws (write ram a w)

-- these words lie from an address on
abbrev pub LieAt : ℕ → List ℕ → Memory → Type 0
LieAt a [] ram = Unit {0}
LieAt a (w ∷ ws) ram = (ram a ≡ w) × LieAt (suc a) ws ram

-- so many words from an address on are 0
abbrev pub AreClear : ℕ → ℕ → Memory → Type 0
AreClear a n ram = (b : ℕ) → a ≤ b → b < a + n → ram b ≡ 0

-- the others stay
pub stored_below : (ws : List ℕ) (a : ℕ) (ram : Memory) (b : ℕ) → b < a → stored a ws ram b ≡ ram b
stored_below [] a ram b less = refl
stored_below (w ∷ ws) a ram b less = stored_below ws (suc a) (write ram a w) b (omega (arith, less)) ∙ write_other ram a w b (let n : b ≢ a = omega (arith, less) in n)

pub stored_behind : (ws : List ℕ) (a : ℕ) (ram : Memory) (b : ℕ) → a + length ws ≤ b → stored a ws ram b ≡ ram b
stored_behind [] a ram b more = refl
stored_behind (w ∷ ws) a ram b more = stored_behind ws (suc a) (write ram a w) b (omega (arith, more)) ∙ write_other ram a w b (let n : b ≢ a = omega (arith, more) in n)

-- words that lie in one memory lie in one that is alike there
pub lie_again : (ws : List ℕ) (a : ℕ) (ram other : Memory) → LieAt a ws ram → ((b : ℕ) → b < a + length ws → other b ≡ ram b) → LieAt a ws other
lie_again [] a ram other lie same = tt
lie_again (w ∷ ws) a ram other lie same =
    (same a (omega arith) ∙ lie.0, lie_again ws (suc a) ram other lie.1 (λ b less. same b (omega (arith, less))))

pub zeros_lie : (n a : ℕ) (ram : Memory) → AreClear a n ram → LieAt a (replicate n 0) ram
zeros_lie zero a ram clear = tt
zeros_lie (suc n) a ram clear =
    (clear a (omega arith) (omega arith), zeros_lie n (suc a) ram (λ b from to. clear b (omega (arith, from)) (omega (arith, to))))

-- a word before others of which those up to the last one that isn't 0 are stored
module _ (a : ℕ) (w : ℕ) (more : List ℕ) (n : ℕ) (ram : Memory) (clear : AreClear a (suc n) ram) where
  rest_clear : AreClear (suc a) n ram
  rest_clear b from to = clear b (omega (arith, from)) (omega (arith, to))

  written_clear : AreClear (suc a) n (write ram a w)
  written_clear b from to = write_other ram a w b (let d : b ≢ a = omega (arith, from) in d) ∙ rest_clear b from to

  none_behind : (is_zero : Bool) → w == 0 ≡ is_zero → ((r : Memory) → AreClear (suc a) n r → LieAt (suc a) more r) → LieAt a (w ∷ more) (stored a (cond is_zero [] (w ∷ [])) ram)
  none_behind true is lie = (clear a (omega arith) (omega arith) ∙ sym (eqb-true w 0 is), lie ram rest_clear)
  none_behind false is lie = (write_same ram a w a refl, lie (write ram a w) written_clear)

  pub word_before : (us : List ℕ) → ((r : Memory) → AreClear (suc a) n r → LieAt (suc a) more (stored (suc a) us r)) → LieAt a (w ∷ more) (stored a (before_zeros w us) ram)
  word_before [] lie = none_behind (w == 0) refl lie
  word_before (u ∷ us) lie =
      (stored_below (u ∷ us) (suc a) (write ram a w) a (omega arith) ∙ write_same ram a w a refl, lie (write ram a w) written_clear)

-- words up to the last one that isn't 0, stored in words that are 0, make all of them lie there, with zeros behind them
pub words_lie : (ws : List ℕ) (zeros a : ℕ) (ram : Memory) → AreClear a (length ws + zeros) ram → LieAt a (ws ++ replicate zeros 0) (stored a (up_to_last ws) ram)
words_lie [] zeros a ram clear = zeros_lie zeros a ram (λ b from to. clear b from (omega (arith, to)))
words_lie (w ∷ ws) zeros a ram clear = word_before a w (ws ++ replicate zeros 0) (length ws + zeros) ram (λ b from to. clear b from (omega (arith, to))) (up_to_last ws) (λ r. words_lie ws zeros (suc a) r)

one_short : (w : ℕ) (is_zero : Bool) → length (cond is_zero [] (w ∷ [])) ≤ 1
one_short w true = omega arith
one_short w false = omega arith

before_short : (w : ℕ) (us : List ℕ) → length (before_zeros w us) ≤ suc (length us)
before_short w [] = one_short w (w == 0)
before_short w (u ∷ us) = omega arith

pub up_to_last-short : (ws : List ℕ) → length (up_to_last ws) ≤ length ws
up_to_last-short [] = omega arith
up_to_last-short (w ∷ ws) = omega (arith, before_short w (up_to_last ws), up_to_last-short ws)
