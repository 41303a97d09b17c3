-- There are boards that begin with given words, so that agreement says something.
use Rattle.std.proofs.Common.{◌<◌, ◌^◌, ℕ, List, length, get_or, false, refl, subst, sym, lit<, ⊎_elim}
use Rattle.std.specs.Prelude.{All}
use Rattle.std.proofs.lemmas.Bool.{cases_lt}
use Rattle.std.proofs.lemmas.List.{get_or_past}
use Rattle.c25_isa.specs.State.{Start, IsStart, BeginsWith}

-- zero everywhere, and these words from program word 0 on
abbrev zeros_but : List ℕ → Start
zeros_but words = record {
  acc = 0;
  t = 0;
  p = 0;
  ar = λ n. 0;
  arp = 0;
  dp = 0;
  sxm = false;
  ovm = false;
  pm = 0;
  program = λ a. get_or words a 0;
  ram = λ a. 0;
}

fits_at : (words : List ℕ) → All (λ w. w < 2 ^ 16) words → (a : ℕ) → get_or words a 0 < 2 ^ 16
fits_at words fit a =
    ⊎_elim
    (λ within. fit a 0 within)
    (λ past. let zero_fits : 0 < 2 ^ 16 = lit< tt in subst (λ w. w < 2 ^ 16) (sym (get_or_past words a 0 past)) zero_fits)
    (cases_lt a (length words))

-- a start for each list of words of 16 bits
pub a_start : (words : List ℕ) → All (λ w. w < 2 ^ 16) words → (s : Start) × IsStart s × BeginsWith words s
a_start words fit = (
  zeros_but words,
  record {
    acc = lit< tt;
    t = lit< tt;
    p = lit< tt;
    ar = λ n. lit< tt;
    arp = lit< tt;
    dp = lit< tt;
    pm = lit< tt;
    program = fits_at words fit;
    ram = λ a. lit< tt;
  },
  λ a lt. refl,
)
