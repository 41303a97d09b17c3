-- Two programs, written out by hand.
use Rattle.std.proofs.Common.{◌≡◌, refl}
use Rattle.std.specs.Prelude.{◌++◌, codes}
use Rattle.std.specs.Fmt.{digits}
use Rattle.cc_gen.specs.Generated.{generated}

of_one : generated 1 ≡
    codes "int f0(int a, int b) { int s; int j; s = a; for (j = 0; j < 4; j++) s = (s + b * 3) & 1023; return s; }\n"
    ++ (codes "int main(void) { int x; x = 1;\n"
    ++ (codes "x = f0(x, 1); __out(1, x);\n"
    ++ codes "return x; }\n"))
unfolding digits
of_one = refl

of_three : generated 3 ≡
    codes "int f0(int a, int b) { int s; int j; s = a; for (j = 0; j < 4; j++) s = (s + b * 3) & 1023; return s; }\n"
    ++ (codes "int f1(int a, int b) { int s; int j; s = a; for (j = 0; j < 4; j++) s = (s + b * 10) & 1023; return s; }\n"
    ++ (codes "int f2(int a, int b) { int s; int j; s = a; for (j = 0; j < 4; j++) s = (s + b * 1) & 1023; return s; }\n"
    ++ (codes "int main(void) { int x; x = 1;\n"
    ++ (codes "x = f0(x, 1); __out(1, x);\n"
    ++ (codes "x = f1(x, 2); __out(1, x);\n"
    ++ (codes "x = f2(x, 3); __out(1, x);\n"
    ++ codes "return x; }\n"))))))
unfolding digits
of_three = refl
