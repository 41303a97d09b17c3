-- A program is far shorter than a source may be.
use Rattle.std.proofs.Common.{◌≡◌, ◌<◌, ◌≤◌, ◌+◌, ◌*◌, ◌∙◌, ◌++◌, ℕ, zero, suc, List, [], length, length-append, codes, ap, sym, refl, arith}
use Rattle.std.specs.Prelude.{decimal}
use Rattle.std.proofs.lemmas.Fmt.{length-decimal-le}
use Rattle.cc_gen.specs.Generated.{factor, function_line, call_line, lines_below, generated}
use Rattle.cc_gen.proofs.Lines.{lines_more}

-- a number of a line has three digits at most
three : (n : ℕ) → n < 1000 → length (decimal n) ≤ 3
three n lt = length-decimal-le 3 n (omega arith) (omega (arith, lt)) (omega (arith, lt))

function_short : (i : ℕ) → i < 200 → length (function_line i) ≤ 200
function_short i lt =
    let number = decimal i in
    let constant = decimal (factor i) in
    let last = codes ") & 1023; return s; }\n" in
    let middle = codes "(int a, int b) { int s; int j; s = a; for (j = 0; j < 4; j++) s = (s + b * " in
    let first = codes "int f" in
    let one : length first ≡ 5 = refl in
    let two : length middle ≡ 75 = refl in
    let end : length last ≡ 22 = refl in
    let small : factor i < 1000 = omega arith in
    omega (
      arith,
      one,
      two,
      end,
      three i (omega (arith, lt)),
      three (factor i) small,
      length-append first (number ++ (middle ++ (constant ++ last))),
      length-append number (middle ++ (constant ++ last)),
      length-append middle (constant ++ last),
      length-append constant last,
    )

call_short : (i : ℕ) → i < 200 → length (call_line i) ≤ 200
call_short i lt =
    let number = decimal i in
    let argument = decimal (i + 1) in
    let first = codes "x = f" in
    let middle = codes "(x, " in
    let last = codes "); __out(1, x);\n" in
    let one : length first ≡ 5 = refl in
    let two : length middle ≡ 4 = refl in
    let end : length last ≡ 16 = refl in
    omega (
      arith,
      one,
      two,
      end,
      three i (omega (arith, lt)),
      three (i + 1) (omega (arith, lt)),
      length-append first (number ++ (middle ++ (argument ++ last))),
      length-append number (middle ++ (argument ++ last)),
      length-append middle (argument ++ last),
      length-append argument last,
    )

lines_short : (line : ℕ → List ℕ) → ((i : ℕ) → i < 200 → length (line i) ≤ 200) → (n : ℕ) → n ≤ 200 → length (lines_below line n) ≤ n * 200
lines_short line short zero few =
    let none : length (lines_below line 0) ≡ 0 = refl in
    omega (arith, none)
lines_short line short (suc n) few =
    let next : suc n ≡ n + 1 = omega arith in
    let same : length (lines_below line (suc n)) ≡ length (lines_below line (n + 1)) = ap (λ k. length (lines_below line k)) next in
    let more : length (lines_below line (n + 1)) ≡ length (lines_below line n) + length (line n) =
    ap length (sym (lines_more line [] n)) ∙ length-append (lines_below line n) (line n) in
    omega (arith, same, more, lines_short line short n (omega (arith, few)), short n (omega (arith, few)))

-- at most 1,048,576 bytes
pub generated_short : (n : ℕ) → n ≤ 200 → length (generated n) ≤ 1048576
generated_short n few =
    let functions = lines_below function_line n in
    let calls = lines_below call_line n in
    let head = codes "int main(void) { int x; x = 1;\n" in
    let last = codes "return x; }\n" in
    let one : length head ≡ 31 = refl in
    let two : length last ≡ 12 = refl in
    omega (
      arith,
      few,
      one,
      two,
      lines_short function_line function_short n few,
      lines_short call_line call_short n few,
      length-append functions (head ++ (calls ++ last)),
      length-append head (calls ++ last),
      length-append calls last,
    )
