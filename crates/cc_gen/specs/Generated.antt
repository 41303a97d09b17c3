-- The C programs that are made from a number (docs/FORMATS.md, "Generated programs").
use Rattle.std.specs.Prelude.{ℕ, ◌+◌, ◌*◌, ◌%◌, List, ◌++◌, codes, decimal}
use Rattle.std.specs.List.{flat_map, range_with_len}

-- the constant in function i
abbrev pub factor : ℕ → ℕ
factor i = (7 * i + 3) % 16

-- the line that defines function i, with its line feed
abbrev pub function_line : ℕ → List ℕ
function_line i =
    codes "int f" ++ (decimal i
    ++ (codes "(int a, int b) { int s; int j; s = a; for (j = 0; j < 4; j++) s = (s + b * " ++ (decimal (factor i)
    ++ codes ") & 1023; return s; }\n")))

-- the line that calls function i, with its line feed
abbrev pub call_line : ℕ → List ℕ
call_line i = codes "x = f" ++ (decimal i ++ (codes "(x, " ++ (decimal (i + 1) ++ codes "); __out(1, x);\n")))

-- a line for each number below one, in order
abbrev pub lines_below : (ℕ → List ℕ) → ℕ → List ℕ
lines_below line number = flat_map line (range_with_len 0 number)

-- the functions, and a main that calls each with what the one before gave and puts what it gives
abbrev pub generated : ℕ → List ℕ
generated number =
    lines_below function_line number
    ++ (codes "int main(void) { int x; x = 1;\n" ++ (lines_below call_line number ++ codes "return x; }\n"))
