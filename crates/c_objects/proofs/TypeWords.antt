-- Words of types, counted.
use Rattle.std.proofs.Common.{◌≡◌, ℕ, ◌+◌, ◌||◌, Bool, true, false, cond, nat_lt, List, [], ◌∷◌, count_by, refl, ap, sym, ◌∙◌, arith}
use Rattle.std.proofs.Math.Bool.{or-true}
use Rattle.std.proofs.lemmas.List.Sums.{sum_by-cons}
use Rattle.std.proofs.lemmas.Bool.Decides.{nat_tests}
use Rattle.c_syntax.specs.declared.syntax.SpecWord.{SpecWord}
use Rattle.c_syntax.specs.declared.syntax.SpecWord.TheVariants.{Static, Void, Char, Short, Int, Signed, Unsigned}
use Rattle.c_rules.specs.Typing.{same_word, has, repeats}

-- how often a word stands there
abbrev count : SpecWord → List SpecWord → ℕ
count w ws = count_by (same_word w) ws

abbrev twice : SpecWord → List SpecWord → Bool
twice w ws = nat_lt 1 (count w ws)

-- some kind of word passes a test
abbrev seven : (SpecWord → Bool) → Bool
seven f = f Static || f Void || f Char || f Short || f Int || f Signed || f Unsigned

count-cons : (w x : SpecWord) (ws : List SpecWord) → count w (x ∷ ws) ≡ cond (same_word w x) 1 0 + count w ws
count-cons w x ws = sum_by-cons (λ y. cond (same_word w y) 1 0) x ws

first_counted : (b : Bool) (n : ℕ) → (b || nat_lt 0 n) ≡ nat_lt 0 (cond b 1 0 + n)
first_counted true n = grind (arith, nat_tests)
first_counted false n = grind (arith, nat_tests)

has_counted : (w : SpecWord) (ws : List SpecWord) → has w ws ≡ nat_lt 0 (count w ws)
has_counted w [] = refl
has_counted w (x ∷ ws) = ap (λ b. same_word w x || b) (has_counted w ws) ∙ first_counted (same_word w x) (count w ws) ∙ ap (nat_lt 0) (sym (count-cons w x ws))

second_counted : (b : Bool) (n : ℕ) → nat_lt 1 (cond b 1 0 + n) ≡ cond b (nat_lt 0 n) (nat_lt 1 n)
second_counted true n = grind (arith, nat_tests)
second_counted false n = grind (arith, nat_tests)

twice-cons : (w x : SpecWord) (ws : List SpecWord) → twice w (x ∷ ws) ≡ cond (same_word w x) (has w ws) (twice w ws)
twice-cons w x ws = rw (count-cons w x ws, has_counted w ws) (second_counted (same_word w x) (count w ws))

not_twice : (w : SpecWord) (ws : List SpecWord) → has w ws ≡ false → twice w ws ≡ false
not_twice w ws h =
    let e : nat_lt 0 (count w ws) ≡ false = sym (has_counted w ws) ∙ h in
    grind (arith, nat_tests)

seven_same : (f g : SpecWord → Bool) → ((w : SpecWord) → f w ≡ g w) → seven f ≡ seven g
seven_same f g e = rw (e Static, e Void, e Char, e Short, e Int, e Signed, e Unsigned)

-- one more word before others
seven-cons : (h t : SpecWord → Bool) → ((w : SpecWord) → h w ≡ false → t w ≡ false) → (x : SpecWord) → seven (λ w. cond (same_word w x) (h w) (t w)) ≡ (h x || seven t)
seven-cons h t below x = go x (h x) refl
  where
    go : (x : SpecWord) (b : Bool) → h x ≡ b → seven (λ w. cond (same_word w x) (h w) (t w)) ≡ (h x || seven t)
    go Static true e = rw e
    go Void true e = simp (e, or-true)
    go Char true e = simp (e, or-true)
    go Short true e = simp (e, or-true)
    go Int true e = simp (e, or-true)
    go Signed true e = simp (e, or-true)
    go Unsigned true e = simp (e, or-true)
    go Static false e = rw (e, below Static e)
    go Void false e = rw (e, below Void e)
    go Char false e = rw (e, below Char e)
    go Short false e = rw (e, below Short e)
    go Int false e = rw (e, below Int e)
    go Signed false e = rw (e, below Signed e)
    go Unsigned false e = rw (e, below Unsigned e)

-- a word stands again behind itself exactly where one of the seven stands twice
pub repeats_counted : (ws : List SpecWord) → repeats ws ≡ seven (λ w. twice w ws)
repeats_counted [] = refl
repeats_counted (x ∷ ws) =
    ap (λ b. has x ws || b) (repeats_counted ws)
    ∙ sym (seven-cons (λ w. has w ws) (λ w. twice w ws) (λ w. not_twice w ws) x)
    ∙ sym (seven_same (λ w. twice w (x ∷ ws)) (λ w. cond (same_word w x) (has w ws) (twice w ws)) (λ w. twice-cons w x ws))
