-- The order of evaluation, and which values are used: ISO 9899:1990 6.3, 6.3.2.2 and 6.3.13 to 6.3.17.
use Rattle.std.specs.Prelude.{true, [], ◌∷◌, codes, Some}
use Rattle.std.proofs.Common.{◌≡◌, refl}
use Rattle.c_syntax.specs.word_base.declared.outcome.UndefinedKind.TheVariants.{NoValue}
use Rattle.c_syntax.specs.word_base.declared.outcome.Ending.TheVariants as ending
use Rattle.c_syntax.specs.word_base.declared.outcome.Outcome.TheVariants.{Ended, Undefined}
use Rattle.c_tree.specs.declared.program.VarRef.TheVariants.{Scalar, Local, Static}
use Rattle.c_syntax.specs.declared.operator.BinaryOp.TheVariants as op
use Rattle.c_tree.specs.TypedTree.{Named, At, Const, Read, AddressOf, Load, Binary, And, Or, Pick, Assign, AssignOp, StepAfter, Call, In, Out, Comma, Convert, none, more, Block, Do_expr, For, Return, done, both, FunctionTree, ProgramTree}
use Rattle.c_tree.specs.SourceRun.{source_run}
use Rattle.c_tree.proofs.Examples.Types.{int, int_pointer, int_at, unsigned_at, pointer_at, void_at, object, function, main_with, program, silent, on_port_0}

-- && and || skip their right side where the left one decides:
-- int f(int x) {__out(0, x); return x;} int main(void) {f(0) && f(1); f(2) || f(3); __out(1, f(4) && f(5)); __out(1, f(0) || f(6)); return 0;}
abbrev skips_right_f : FunctionTree
skips_right_f = function (codes "f") (Some int) ((Scalar 0) ∷ []) (int ∷ []) []
    (Block []
    (both (Do_expr (void_at 14 (Out 0 (int_at 23 (Read (Scalar 0))))))
    (both (Return (Some (int_at 34 (Read (Scalar 0)))))
    done)))

abbrev skips_right_main : FunctionTree
skips_right_main = main_with [] []
    (Block []
    (both (Do_expr (int_at 54 (And (int_at 54 (Call 0 (more (int_at 56 (Const 0)) none))) (int_at 62 (Call 0 (more (int_at 64 (Const 1)) none))))))
    (both (Do_expr (int_at 68 (Or (int_at 68 (Call 0 (more (int_at 70 (Const 2)) none))) (int_at 76 (Call 0 (more (int_at 78 (Const 3)) none))))))
    (both (Do_expr (void_at 82 (Out 1 (int_at 91 (And
    (int_at 91 (Call 0 (more (int_at 93 (Const 4)) none)))
    (int_at 99 (Call 0 (more (int_at 101 (Const 5)) none))))))))
    (both (Do_expr (void_at 106 (Out 1 (int_at 115 (Or
    (int_at 115 (Call 0 (more (int_at 117 (Const 0)) none)))
    (int_at 123 (Call 0 (more (int_at 125 (Const 6)) none))))))))
    (both (Return (Some (int_at 137 (Const 0))))
    done))))))

abbrev pub skips_right : ProgramTree
skips_right = program [] (skips_right_f ∷ skips_right_main ∷ [])

skips_right_is :
    source_run skips_right silent 10 ≡
    Ended ((0, 0) ∷ (0, 2) ∷ (0, 4) ∷ (0, 5) ∷ (1, 1) ∷ (0, 0) ∷ (0, 6) ∷ (1, 1) ∷ []) (ending.Returned 0)
skips_right_is = refl

-- arguments are evaluated from left to right:
-- int f(int x) {__out(0, x); return x;} int g(int a, int b) {return a - b;} int main(void) {return g(f(7), f(3));}
abbrev arguments_in_order_f : FunctionTree
arguments_in_order_f = function (codes "f") (Some int) ((Scalar 0) ∷ []) (int ∷ []) []
    (Block []
    (both (Do_expr (void_at 14 (Out 0 (int_at 23 (Read (Scalar 0))))))
    (both (Return (Some (int_at 34 (Read (Scalar 0)))))
    done)))

abbrev arguments_in_order_g : FunctionTree
arguments_in_order_g = function (codes "g") (Some int) ((Scalar 0) ∷ (Scalar 1) ∷ []) (int ∷ int ∷ []) []
    (Block []
    (both (Return (Some (int_at 66 (Binary op.Sub (int_at 66 (Read (Scalar 0))) (int_at 70 (Read (Scalar 1)))))))
    done))

abbrev arguments_in_order_main : FunctionTree
arguments_in_order_main = main_with [] []
    (Block []
    (both (Return (Some (int_at 97 (Call 1 (more (int_at 99 (Call 0 (more (int_at 101 (Const 7)) none)))
    (more (int_at 105 (Call 0 (more (int_at 107 (Const 3)) none))) none))))))
    done))

abbrev pub arguments_in_order : ProgramTree
arguments_in_order = program [] (arguments_in_order_f ∷ arguments_in_order_g ∷ arguments_in_order_main ∷ [])

arguments_in_order_is : source_run arguments_in_order silent 10 ≡ Ended ((0, 7) ∷ (0, 3) ∷ []) (ending.Returned 4)
arguments_in_order_is = refl

-- a parameter is a copy of its argument:
-- int f(int a) {a = a + 1; return a;} int main(void) {int a; a = 1; f(a); return a;}
abbrev argument_copied_f : FunctionTree
argument_copied_f = function (codes "f") (Some int) ((Scalar 0) ∷ []) (int ∷ []) []
    (Block []
    (both (Do_expr (int_at 14 (Assign (Named (Scalar 0) 14) (int_at 18 (Binary op.Add (int_at 18 (Read (Scalar 0))) (int_at 22 (Const 1)))))))
    (both (Return (Some (int_at 32 (Read (Scalar 0)))))
    done)))

abbrev argument_copied_main : FunctionTree
argument_copied_main = main_with (int ∷ []) []
    (Block ((Scalar 0) ∷ [])
    (both (Do_expr (int_at 59 (Assign (Named (Scalar 0) 59) (int_at 63 (Const 1)))))
    (both (Do_expr (int_at 66 (Call 0 (more (int_at 68 (Read (Scalar 0))) none))))
    (both (Return (Some (int_at 79 (Read (Scalar 0)))))
    done))))

abbrev pub argument_copied : ProgramTree
argument_copied = program [] (argument_copied_f ∷ argument_copied_main ∷ [])

argument_copied_is : source_run argument_copied silent 10 ≡ Ended [] (ending.Returned 1)
argument_copied_is = refl

-- a store through a pointer evaluates the pointer, then the value:
-- int n[2]; int *f(void) {__out(0, 1); return n;} int g(void) {__out(0, 2); return 5;} int main(void) {*f() = g(); return n[0];}
abbrev pointer_first_f : FunctionTree
pointer_first_f = function (codes "f") (Some int_pointer) [] [] []
    (Block []
    (both (Do_expr (void_at 24 (Out 0 (int_at 33 (Const 1)))))
    (both (Return (Some (pointer_at 44 (AddressOf (Static 0)))))
    done)))

abbrev pointer_first_g : FunctionTree
pointer_first_g = function (codes "g") (Some int) [] [] []
    (Block []
    (both (Do_expr (void_at 61 (Out 0 (int_at 70 (Const 2)))))
    (both (Return (Some (int_at 81 (Const 5))))
    done)))

abbrev pointer_first_main : FunctionTree
pointer_first_main = main_with [] []
    (Block []
    (both (Do_expr (int_at 101 (Assign (At (pointer_at 102 (Call 0 none)) 101) (int_at 108 (Call 1 none)))))
    (both (Return (Some (int_at 120 (Load (pointer_at 120 (Binary op.Add (pointer_at 120 (AddressOf (Static 0))) (int_at 122 (Const 0))))))))
    done)))

abbrev pub pointer_first : ProgramTree
pointer_first = program ((object 2 int []) ∷ []) (pointer_first_f ∷ pointer_first_g ∷ pointer_first_main ∷ [])

pointer_first_is : source_run pointer_first silent 10 ≡ Ended ((0, 1) ∷ (0, 2) ∷ []) (ending.Returned 5)
pointer_first_is = refl

-- an assignment with an operator reads its left side first:
-- int i; int f(void) {i = 10; return 1;} int main(void) {i = 2; i += f(); return i;}
abbrev left_first_f : FunctionTree
left_first_f = function (codes "f") (Some int) [] [] []
    (Block []
    (both (Do_expr (int_at 20 (Assign (Named (Static 0) 20) (int_at 24 (Const 10)))))
    (both (Return (Some (int_at 35 (Const 1))))
    done)))

abbrev left_first_main : FunctionTree
left_first_main = main_with [] []
    (Block []
    (both (Do_expr (int_at 55 (Assign (Named (Static 0) 55) (int_at 59 (Const 2)))))
    (both (Do_expr (int_at 62 (AssignOp op.Add (Named (Static 0) 62) (int_at 67 (Call 0 none)))))
    (both (Return (Some (int_at 79 (Read (Static 0)))))
    done))))

abbrev pub left_first : ProgramTree
left_first = program ((object 1 int []) ∷ []) (left_first_f ∷ left_first_main ∷ [])

left_first_is : source_run left_first silent 10 ≡ Ended [] (ending.Returned 3)
left_first_is = refl

-- ?: evaluates one of its arms:
-- int f(int x) {__out(0, x); return x;} int main(void) {return f(0) ? f(1) : f(2);}
abbrev one_arm_f : FunctionTree
one_arm_f = function (codes "f") (Some int) ((Scalar 0) ∷ []) (int ∷ []) []
    (Block []
    (both (Do_expr (void_at 14 (Out 0 (int_at 23 (Read (Scalar 0))))))
    (both (Return (Some (int_at 34 (Read (Scalar 0)))))
    done)))

abbrev one_arm_main : FunctionTree
one_arm_main = main_with [] []
    (Block []
    (both (Return (Some (int_at 61 (Pick
    (int_at 61 (Call 0 (more (int_at 63 (Const 0)) none)))
    (int_at 68 (Call 0 (more (int_at 70 (Const 1)) none)))
    (int_at 75 (Call 0 (more (int_at 77 (Const 2)) none)))))))
    done))

abbrev pub one_arm : ProgramTree
one_arm = program [] (one_arm_f ∷ one_arm_main ∷ [])

one_arm_is : source_run one_arm silent 10 ≡ Ended ((0, 0) ∷ (0, 2) ∷ []) (ending.Returned 2)
one_arm_is = refl

-- the missing value of an arm that isn't taken is not missed:
-- int f(void) {} int main(void) {return 1 ? 2 : f();}
abbrev arm_not_taken_f : FunctionTree
arm_not_taken_f = function (codes "f") (Some int) [] [] []
    (Block [] done)

abbrev arm_not_taken_main : FunctionTree
arm_not_taken_main = main_with [] []
    (Block []
    (both (Return (Some (int_at 38 (Pick (int_at 38 (Const 1)) (int_at 42 (Const 2)) (int_at 46 (Call 0 none))))))
    done))

abbrev pub arm_not_taken : ProgramTree
arm_not_taken = program [] (arm_not_taken_f ∷ arm_not_taken_main ∷ [])

arm_not_taken_is : source_run arm_not_taken silent 10 ≡ Ended [] (ending.Returned 2)
arm_not_taken_is = refl

-- nor is one whose ?: is not used:
-- int f(void) {} int main(void) {1 ? f() : 2; return 3;}
abbrev arm_not_used_f : FunctionTree
arm_not_used_f = function (codes "f") (Some int) [] [] []
    (Block [] done)

abbrev arm_not_used_main : FunctionTree
arm_not_used_main = main_with [] []
    (Block []
    (both (Do_expr (int_at 31 (Pick (int_at 31 (Const 1)) (int_at 35 (Call 0 none)) (int_at 41 (Const 2)))))
    (both (Return (Some (int_at 51 (Const 3))))
    done)))

abbrev pub arm_not_used : ProgramTree
arm_not_used = program [] (arm_not_used_f ∷ arm_not_used_main ∷ [])

arm_not_used_is : source_run arm_not_used silent 10 ≡ Ended [] (ending.Returned 3)
arm_not_used_is = refl

-- but a conversion uses it, here the one from int to unsigned:
-- int f(void) {} int main(void) {1 ? f() : 2u; return 3;}
abbrev arm_converted_f : FunctionTree
arm_converted_f = function (codes "f") (Some int) [] [] []
    (Block [] done)

abbrev arm_converted_main : FunctionTree
arm_converted_main = main_with [] []
    (Block []
    (both (Do_expr (unsigned_at 31 (Pick (int_at 31 (Const 1)) (unsigned_at 35 (Convert (int_at 35 (Call 0 none)))) (unsigned_at 41 (Const 2)))))
    (both (Return (Some (int_at 52 (Const 3))))
    done)))

abbrev pub arm_converted : ProgramTree
arm_converted = program [] (arm_converted_f ∷ arm_converted_main ∷ [])

arm_converted_is : source_run arm_converted silent 10 ≡ Undefined [] NoValue 35
arm_converted_is = refl

-- values that are not used: the first and third part of a for, both sides of a comma, and under (void):
-- int f(void) {__out(0, 1);} int main(void) {int i; for (f(), i = 0; i < 1; i++, f()) (void)f(); return i;}
abbrev unused_f : FunctionTree
unused_f = function (codes "f") (Some int) [] [] []
    (Block []
    (both (Do_expr (void_at 13 (Out 0 (int_at 22 (Const 1)))))
    done))

abbrev unused_main : FunctionTree
unused_main = main_with (int ∷ []) []
    (Block ((Scalar 0) ∷ [])
    (both (For
    (Some (int_at 55 (Comma (int_at 55 (Call 0 none)) (int_at 60 (Assign (Named (Scalar 0) 60) (int_at 64 (Const 0)))))))
    (Some (int_at 67 (Binary op.Lt (int_at 67 (Read (Scalar 0))) (int_at 71 (Const 1)))))
    (Some (int_at 74 (Comma (int_at 74 (StepAfter true (Named (Scalar 0) 74))) (int_at 79 (Call 0 none)))))
    (Do_expr (void_at 84 (Convert (int_at 90 (Call 0 none))))))
    (both (Return (Some (int_at 102 (Read (Scalar 0)))))
    done)))

abbrev pub unused : ProgramTree
unused = program [] (unused_f ∷ unused_main ∷ [])

unused_is : source_run unused silent 10 ≡ Ended ((0, 1) ∷ (0, 1) ∷ (0, 1) ∷ []) (ending.Returned 1)
unused_is = refl

-- a missing value is missed at its call:
-- int f(void) {} int main(void) {int x; f(); x = (1, f()); return x;}
abbrev no_value_f : FunctionTree
no_value_f = function (codes "f") (Some int) [] [] []
    (Block [] done)

abbrev no_value_main : FunctionTree
no_value_main = main_with (int ∷ []) []
    (Block ((Scalar 0) ∷ [])
    (both (Do_expr (int_at 38 (Call 0 none)))
    (both (Do_expr (int_at 43 (Assign (Named (Scalar 0) 43) (int_at 48 (Comma (int_at 48 (Const 1)) (int_at 51 (Call 0 none)))))))
    (both (Return (Some (int_at 64 (Read (Scalar 0)))))
    done))))

abbrev pub no_value : ProgramTree
no_value = program [] (no_value_f ∷ no_value_main ∷ [])

no_value_is : source_run no_value silent 10 ≡ Undefined [] NoValue 51
no_value_is = refl

-- a port without a word ends the run; a parameter has an address:
-- int g(int a) {int *p; p = &a; *p += 1; return a;} int main(void) {__out(1, g(__in(0))); __out(1, g(__in(0))); return 0;}
abbrev asks_g : FunctionTree
asks_g = function (codes "g") (Some int) ((Local 0) ∷ []) (int_pointer ∷ []) ((object 1 int []) ∷ [])
    (Block ((Scalar 0) ∷ [])
    (both (Do_expr (pointer_at 22 (Assign (Named (Scalar 0) 22) (pointer_at 26 (AddressOf (Local 0))))))
    (both (Do_expr (int_at 30 (AssignOp op.Add (At (pointer_at 31 (Read (Scalar 0))) 30) (int_at 36 (Const 1)))))
    (both (Return (Some (int_at 46 (Read (Local 0)))))
    done))))

abbrev asks_main : FunctionTree
asks_main = main_with [] []
    (Block []
    (both (Do_expr (void_at 66 (Out 1 (int_at 75 (Call 0 (more (int_at 77 (In 0)) none))))))
    (both (Do_expr (void_at 88 (Out 1 (int_at 97 (Call 0 (more (int_at 99 (In 0)) none))))))
    (both (Return (Some (int_at 117 (Const 0))))
    done))))

abbrev pub asks : ProgramTree
asks = program [] (asks_g ∷ asks_main ∷ [])

asks_is : source_run asks (on_port_0 (4 ∷ [])) 10 ≡ Ended ((1, 5) ∷ []) (ending.InputEnded 0)
asks_is = refl
