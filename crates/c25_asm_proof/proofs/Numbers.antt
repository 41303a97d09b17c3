-- Numbers as a listing writes them are read.
use Rattle.std.proofs.Common.{◌≡◌, ℕ, suc, ◌+◌, ◌*◌, ◌/◌, ◌%◌, ◌<◌, ◌^◌, ◌==◌, ℤ, pos, negsuc, Bool, true, false, not, List, [], ◌∷◌, ◌++◌, length, take, drop, Some, None, refl, sym, ap, ◌∙◌, arith}
use Rattle.std.specs.Prelude.{◌&&◌, codes, decimal, nat_lt, if◌then◌else◌, Ok, Err}
use Rattle.std.specs.Fmt.{signed_decimal, digits as figures}
use Rattle.std.specs.Str.{bytes_eq}
use Rattle.std.specs.Char.{digit_value}
use Rattle.std.specs.List.{list_all}
use Rattle.std.proofs.lemmas.Fmt.{decimal_by_steps, decimal_nonempty}
use Rattle.std.proofs.lemmas.Bool.{lt-ltb}
use Rattle.c25_isa.specs.Table.{IsSigned13}
use Rattle.c25_isa.proofs.Cases.{at_below}
use Rattle.c25_image.specs.Hex.{hex_digit, hex4}
use Rattle.c25_dis.specs.Operands.{hex2, hex3}
use Rattle.c25_asm.specs.declared.statement.LineFault.TheVariants.{OutOfRange}
use Rattle.c25_asm.specs.Numbers.{value_from, digits, number_by, number, below, negated, positive, signed_by, signed_number}
use Rattle.c25_asm.specs.Operands.{register, port}
use Rattle.c25_asm_proof.proofs.Plain.{all_append, and_left, and_right}

pub below_ok : (bound n : ℕ) → n < bound → below bound (Some n) ≡ Ok n
below_ok bound n lt = ap (λ t. if t then Ok n else Err OutOfRange) (lt-ltb n bound lt)

-- ---- hexadecimal digits

hex_value : (d : ℕ) → d < 16 → digit_value (hex_digit d) ≡ d
hex_value d lt = at_below (λ n. digit_value (hex_digit n) ≡ n) 16 ((((((((((((((((tt, refl), refl), refl), refl), refl), refl), refl), refl), refl), refl), refl), refl), refl), refl), refl), refl) d lt

hex_step : (value d : ℕ) (cs : List ℕ) → d < 16 → value_from 16 value (hex_digit d ∷ cs) ≡ value_from 16 (value * 16 + d) cs
hex_step value d cs lt =
    ap (λ v. if nat_lt v 16 then value_from 16 (value * 16 + v) cs else None) (hex_value d lt)
    ∙ ap (λ t. if t then value_from 16 (value * 16 + d) cs else None) (lt-ltb d 16 lt)

two_read : (value n : ℕ) → value_from 16 value (hex2 n) ≡ Some (value * 256 + n % 256)
two_read value n =
    hex_step value (n / 16 % 16) (hex_digit (n % 16) ∷ []) (omega arith)
    ∙ hex_step (value * 16 + n / 16 % 16) (n % 16) [] (omega arith)
    ∙ ap (λ v. Some v) (let e : (value * 16 + n / 16 % 16) * 16 + n % 16 ≡ value * 256 + n % 256 = omega arith in e)

pub hex2_read : (n : ℕ) → n < 256 → number (codes "0x" ++ hex2 n) ≡ Some n
hex2_read n lt = two_read 0 n ∙ ap (λ v. Some v) (let e : 0 * 256 + n % 256 ≡ n = omega arith in e)

pub hex3_read : (n : ℕ) → n < 4096 → number (codes "0x" ++ hex3 n) ≡ Some n
hex3_read n lt =
    hex_step 0 (n / 256 % 16) (hex2 n) (omega arith)
    ∙ two_read (0 * 16 + n / 256 % 16) n
    ∙ ap (λ v. Some v) (let e : (0 * 16 + n / 256 % 16) * 256 + n % 256 ≡ n = omega arith in e)

pub hex4_read : (w : ℕ) → w < 65536 → number (codes "0x" ++ hex4 w) ≡ Some w
hex4_read w lt =
    hex_step 0 (w / 4096) (hex_digit (w / 256 % 16) ∷ hex2 w) (omega arith)
    ∙ hex_step (0 * 16 + w / 4096) (w / 256 % 16) (hex2 w) (omega arith)
    ∙ two_read ((0 * 16 + w / 4096) * 16 + w / 256 % 16) w
    ∙ ap (λ v. Some v) (let e : ((0 * 16 + w / 4096) * 16 + w / 256 % 16) * 256 + w % 256 ≡ w = omega arith in e)

-- ---- decimal digits

value_more : (value w c : ℕ) (ds : List ℕ) → value_from 10 value ds ≡ Some w → value_from 10 value (ds ++ c ∷ []) ≡ value_from 10 w (c ∷ [])
value_more value w c [] e = let same : value ≡ w = cc in ap (λ v. value_from 10 v (c ∷ [])) same
value_more value w c (d ∷ ds) e = by (nat_lt (digit_value d) 10) (value_more (value * 10 + digit_value d) w c ds) e
  where
    by : (t : Bool) → (value_from 10 (value * 10 + digit_value d) ds ≡ Some w → value_from 10 (value * 10 + digit_value d) (ds ++ c ∷ []) ≡ value_from 10 w (c ∷ []))
        → (if t then value_from 10 (value * 10 + digit_value d) ds else None) ≡ Some w
        → (if t then value_from 10 (value * 10 + digit_value d) (ds ++ c ∷ []) else None) ≡ value_from 10 w (c ∷ [])
    by true further h = further h
    by false further h = absurd cc

figure_value : (d : ℕ) → d < 10 → digit_value (48 + d) ≡ d
figure_value d lt = at_below (λ n. digit_value (48 + n) ≡ n) 10 ((((((((((tt, refl), refl), refl), refl), refl), refl), refl), refl), refl), refl) d lt

figure_step : (value d : ℕ) → d < 10 → value_from 10 value ((48 + d) ∷ []) ≡ Some (value * 10 + d)
figure_step value d lt =
    ap (λ v. if nat_lt v 10 then Some (value * 10 + v) else None) (figure_value d lt)
    ∙ ap (λ t. if t then Some (value * 10 + d) else None) (lt-ltb d 10 lt)

decimal_value : (n : ℕ) → n < 2 ^ 64 → value_from 10 0 (decimal n) ≡ Some n
decimal_value n lt = decimal_by_steps (λ m ds. value_from 10 0 ds ≡ Some m)
    (λ m less. figure_step 0 m less ∙ ap (λ v. Some v) (let e : 0 * 10 + m ≡ m = omega arith in e))
    (λ m ds le more. value_more 0 (m / 10) (48 + m % 10) ds more ∙ figure_step (m / 10) (m % 10) (omega arith) ∙ ap (λ v. Some v) (let e : m / 10 * 10 + m % 10 ≡ m = omega arith in e))
    n lt

digits_some : (ds : List ℕ) → 0 < length ds → digits 10 ds ≡ value_from 10 0 ds
digits_some [] some = absurd (omega arith)
digits_some (d ∷ ds) some = refl

decimal_digits : (n : ℕ) → n < 2 ^ 64 → digits 10 (decimal n) ≡ Some n
decimal_digits n lt = digits_some (decimal n) (decimal_nonempty n lt) ∙ decimal_value n lt

-- a decimal number begins with digits
abbrev is_figure : ℕ → Bool
is_figure c = not (c == 45) && not (c == 120)

are_figures : (n : ℕ) → n < 2 ^ 64 → list_all is_figure (decimal n) ≡ true
are_figures n lt = decimal_by_steps (λ m ds. list_all is_figure ds ≡ true)
    (λ m less. figure_all m less)
    (λ m ds le more. all_append is_figure ds ((48 + m % 10) ∷ []) more (figure_all (m % 10) (omega arith)))
    n lt
  where
    figure_all : (d : ℕ) → d < 10 → list_all is_figure ((48 + d) ∷ []) ≡ true
    figure_all d less = at_below (λ m. list_all is_figure ((48 + m) ∷ []) ≡ true) 10 ((((((((((tt, refl), refl), refl), refl), refl), refl), refl), refl), refl), refl) d less

not_that : (a : Bool) → not a ≡ true → a ≡ false
not_that true e = sym e
not_that false e = refl

and_none : (a b : Bool) → b ≡ false → (a && b) ≡ false
and_none true b e = e
and_none false b e = refl

no_0x : (ds : List ℕ) → list_all is_figure ds ≡ true → bytes_eq (take 2 ds) (codes "0x") ≡ false
no_0x [] h = refl
no_0x (c ∷ []) h = and_none (c == 48) false refl
no_0x (c ∷ d ∷ ds) h =
    let second : (d == 120) ≡ false = not_that _ (and_right (not (d == 45)) _ (and_left (is_figure d) _ (and_right (is_figure c) _ h))) in
    and_none (c == 48) _ (ap (λ t. t && true) second)

no_minus : (ds : List ℕ) → list_all is_figure ds ≡ true → bytes_eq (take 1 ds) (codes "-") ≡ false
no_minus [] h = refl
no_minus (c ∷ ds) h =
    let first : (c == 45) ≡ false = not_that _ (and_left (not (c == 45)) _ (and_left (is_figure c) _ h)) in
    ap (λ t. t && true) first

pub decimal_read : (n : ℕ) → n < 2 ^ 64 → number (decimal n) ≡ Some n
decimal_read n lt =
    ap (λ t. number_by (if t then Some (drop 2 (decimal n)) else None) (decimal n)) (no_0x (decimal n) (are_figures n lt))
    ∙ decimal_digits n lt

-- ---- signed numbers

pub signed_read : (z : ℤ) → IsSigned13 z → signed_number (signed_decimal z) ≡ Ok z
signed_read (pos n) h =
    ap (λ t. signed_by (if t then Some (drop 1 (decimal n)) else None) (decimal n)) (no_minus (decimal n) (are_figures n (omega arith)))
    ∙ ap (λ o. positive (below 4096 o)) (decimal_read n (omega arith))
    ∙ ap positive (below_ok 4096 n h)
signed_read (negsuc n) h =
    ap (λ o. negated (below 4097 o)) (decimal_read (suc n) (omega arith))
    ∙ ap negated (below_ok 4097 (suc n) (omega (arith, h)))

-- ---- registers and ports

pub register_read : (r : ℕ) → r < 8 → register (codes "AR" ++ decimal r) ≡ Ok r
unfolding figures
register_read r lt = at_below (λ n. register (codes "AR" ++ decimal n) ≡ Ok n) 8 ((((((((tt, refl), refl), refl), refl), refl), refl), refl), refl) r lt

pub port_read : (p : ℕ) → p < 16 → port (codes "PA" ++ decimal p) ≡ Ok p
unfolding figures
port_read p lt = at_below (λ n. port (codes "PA" ++ decimal n) ≡ Ok n) 16 ((((((((((((((((tt, refl), refl), refl), refl), refl), refl), refl), refl), refl), refl), refl), refl), refl), refl), refl), refl) p lt
