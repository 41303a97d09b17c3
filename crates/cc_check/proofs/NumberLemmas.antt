-- The numbers of functions by their names, and how many functions there are.
use Rattle.std.proofs.Common.{◌≡◌, ℕ, ◌+◌, ◌<◌, ◌≤◌, Bool, true, false, cond, is_some, List, [], ◌∷◌, length, get_or, drop, Option, Some, None, refl, ap, sym, ◌∙◌, arith}
use Rattle.std.specs.Prelude.{IfSome}
use Rattle.std.specs.Option.{option_or}
use Rattle.std.specs.List.{position_from}
use Rattle.std.specs.Map.{update}
use Rattle.std.specs.Str.{bytes_eq}
use Rattle.std.proofs.lemmas.List.{at_drop_more, drop_all}
use Rattle.std.proofs.lemmas.Slice.Eq.{bytes_eq-Decides}
use Rattle.c25_isa.specs.declared.image.FunctionRange.{FunctionRange}
use Rattle.c25_isa.specs.Image.{AreRanges}
use Rattle.cc_check.specs.Findings.{number_of}
use Rattle.cc_check.specs.Memory.{NameTable, number_in, with_name}

-- functions with a word each are as many as the words at most
pub range_count : (from count : ℕ) (fs : List FunctionRange) → AreRanges from count fs → from ≤ count → from + length fs ≤ count
range_count from count [] ranges le = omega arith
range_count from count (f ∷ fs) ranges le = omega (arith, ranges.0.behind, ranges.0.rises, ranges.0.within, range_count (f.last + 1) count fs ranges.1 (omega (arith, ranges.0.within)))

abbrev pub has_name : List ℕ → FunctionRange → Bool
has_name name g = bytes_eq g.name name

-- the first function of a name is one of them
position_lt : (p : FunctionRange → Bool) (i : ℕ) (fs : List FunctionRange) (k : ℕ) → position_from p i fs ≡ Some k → k < i + length fs
position_lt p i [] k e = absurd cc
position_lt p i (f ∷ fs) k e = by (p f) (position_lt p (i + 1) fs k) e
  where
    by : (b : Bool) → (position_from p (i + 1) fs ≡ Some k → k < i + 1 + length fs) → cond b (Some i) (position_from p (i + 1) fs) ≡ Some k → k < i + length (f ∷ fs)
    by true rest is = let same : i ≡ k = cc in omega (arith, same)
    by false rest is = omega (arith, rest is)

pub number_within : (fs : List FunctionRange) (name : List ℕ) (number : Option ℕ) (n : ℕ) → number ≡ number_of fs name → n ≡ length fs → IfSome number (λ k. k < n)
number_within fs name None n is size = tt
number_within fs name (Some k) n is size = omega (arith, size, position_lt (has_name name) 0 fs k (sym is))

-- the number that a table has for the name of a frame
pub number_is : (fs : List FunctionRange) (table : NameTable) (number : Option ℕ) (name wanted : List ℕ) → number ≡ number_in table name → number_in table ≡ number_of fs → name ≡ wanted → number ≡ number_of fs wanted
number_is fs table number name wanted is same named = is ∙ ap (λ (t : List ℕ → Option ℕ). t name) same ∙ ap (number_of fs) named

first_or : (found : Option ℕ) (b : Bool) (i : ℕ) (rest : Option ℕ) → option_or (option_or found (cond b (Some i) None)) rest ≡ option_or found (cond b (Some i) rest)
first_or (Some n) b i rest = refl
first_or None true i rest = refl
first_or None false i rest = refl

-- a table that grows function by function, and what is left of them
pub numbers_step : (fs : List FunctionRange) (i : ℕ) (f : FunctionRange) (old new : List ℕ → Option ℕ) → i < length fs → f ≡ get_or fs i f → new ≡ with_name f.name i old → (name : List ℕ)
    → option_or (new name) (position_from (has_name name) (i + 1) (drop (i + 1) fs)) ≡ option_or (old name) (position_from (has_name name) i (drop i fs))
numbers_step fs i f old new lt is added name =
    ap (λ (t : List ℕ → Option ℕ). option_or (t name) (position_from (has_name name) (i + 1) (drop (i + 1) fs))) added
    ∙ first_or (old name) (has_name name f) i (position_from (has_name name) (i + 1) (drop (i + 1) fs))
    ∙ ap (option_or (old name)) (sym (at_drop_more (position_from (has_name name) i) fs i f lt ∙ ap (λ g. cond (has_name name g) (Some i) (position_from (has_name name) (i + 1) (drop (i + 1) fs))) (sym is)))

or_none : (found : Option ℕ) → found ≡ option_or found None
or_none None = refl
or_none (Some n) = refl

pub numbers_end : (fs : List FunctionRange) (i : ℕ) (found : Option ℕ) (name : List ℕ) → length fs ≤ i → found ≡ option_or found (position_from (has_name name) i (drop i fs))
numbers_end fs i found name le = or_none found ∙ ap (λ gs. option_or found (position_from (has_name name) i gs)) (sym (drop_all i fs le))

-- a name that no function before has
pub new_name : (old : List ℕ → Option ℕ) (name : List ℕ) (number : ℕ) → is_some (old name) ≡ false → (other : List ℕ) → update bytes_eq old name (Some number) other ≡ with_name name number old other
new_name old name number none other = by (bytes_eq name other) ((bytes_eq-Decides name other).0)
  where
    absent : (found : Option ℕ) → is_some found ≡ false → Some number ≡ option_or found (Some number)
    absent None e = refl
    absent (Some n) e = absurd cc

    by : (b : Bool) → (b ≡ true → name ≡ other) → cond b (Some number) (old other) ≡ option_or (old other) (cond b (Some number) None)
    by true same = absent (old other) (ap (λ n. is_some (old n)) (sym (same refl)) ∙ none)
    by false same = or_none (old other)
