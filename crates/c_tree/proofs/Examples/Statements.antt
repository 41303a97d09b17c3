-- How statements run, and how often loops turn: ISO 9899:1990 6.6.1 to 6.6.6.
use Rattle.std.specs.Prelude.{true, [], ◌∷◌, codes, Some, None}
use Rattle.std.proofs.Common.{◌≡◌, refl}
use Rattle.c_syntax.specs.word_base.declared.outcome.Ending.TheVariants as ending
use Rattle.c_syntax.specs.word_base.declared.outcome.Outcome.TheVariants.{Ended, More}
use Rattle.c_tree.specs.declared.program.VarRef.TheVariants.{Scalar}
use Rattle.c_syntax.specs.declared.operator.BinaryOp.TheVariants as op
use Rattle.c_tree.specs.TypedTree.{Named, Const, Read, Binary, Assign, StepAfter, Call, In, Out, Comma, none, more, Block, Do_expr, If, While, Do_while, For, Switch, Break, Continue, Return, done, both, no_more, case, default, body, FunctionTree, ProgramTree}
use Rattle.c_tree.specs.SourceRun.{source_run}
use Rattle.c_tree.proofs.Examples.Types.{int, int_at, void_at, function, main_with, program, alone, silent, on_port_0}

-- an else belongs to the inner if, and a+++b is a++ + b:
-- int main(void){int a; int b; a=2; b=3; __out(0, a+++b); __out(0, a); if (0) if (1) __out(0, 9); else __out(0, 8); return 0;}
abbrev pub dangling_else : ProgramTree
dangling_else = alone (main_with (int ∷ int ∷ []) []
    (Block ((Scalar 0) ∷ (Scalar 1) ∷ [])
    (both (Do_expr (int_at 29 (Assign (Named (Scalar 0) 29) (int_at 31 (Const 2)))))
    (both (Do_expr (int_at 34 (Assign (Named (Scalar 1) 34) (int_at 36 (Const 3)))))
    (both (Do_expr (void_at 39 (Out 0 (int_at 48 (Binary op.Add (int_at 48 (StepAfter true (Named (Scalar 0) 48))) (int_at 52 (Read (Scalar 1))))))))
    (both (Do_expr (void_at 56 (Out 0 (int_at 65 (Read (Scalar 0))))))
    (both (If (int_at 73 (Const 0))
    (If (int_at 80 (Const 1)) (Do_expr (void_at 83 (Out 0 (int_at 92 (Const 9))))) (Do_expr (void_at 101 (Out 0 (int_at 110 (Const 8))))))
    (Block [] done))
    (both (Return (Some (int_at 121 (Const 0))))
    done))))))))

dangling_else_is : source_run dangling_else silent 10 ≡ Ended ((0, 5) ∷ (0, 3) ∷ []) (ending.Returned 0)
dangling_else_is = refl

-- a switch whose default stands in the middle, and is fallen into and out of:
-- int main(void) {int i; for (i = 0; i < 4; i++) switch (i) {case 1: __out(0, 1); default: __out(0, 2); case 3: __out(0, 3); if (i == 3) continue; break; case 2: __out(0, 4);} return i;}
abbrev pub falls : ProgramTree
falls = alone (main_with (int ∷ []) []
    (Block ((Scalar 0) ∷ [])
    (both (For
    (Some (int_at 28 (Assign (Named (Scalar 0) 28) (int_at 32 (Const 0)))))
    (Some (int_at 35 (Binary op.Lt (int_at 35 (Read (Scalar 0))) (int_at 39 (Const 4)))))
    (Some (int_at 42 (StepAfter true (Named (Scalar 0) 42))))
    (Switch (int_at 55 (Read (Scalar 0)))
    (case 1
    (body (Do_expr (void_at 67 (Out 0 (int_at 76 (Const 1)))))
    (default
    (body (Do_expr (void_at 89 (Out 0 (int_at 98 (Const 2)))))
    (case 3
    (body (Do_expr (void_at 110 (Out 0 (int_at 119 (Const 3)))))
    (body (If (int_at 127 (Binary op.Eq (int_at 127 (Read (Scalar 0))) (int_at 132 (Const 3)))) Continue (Block [] done))
    (body Break
    (case 2
    (body (Do_expr (void_at 160 (Out 0 (int_at 169 (Const 4)))))
    no_more))))))))))))
    (both (Return (Some (int_at 181 (Read (Scalar 0)))))
    done))))

falls_is :
    source_run falls silent 10 ≡
    Ended ((0, 2) ∷ (0, 3) ∷ (0, 1) ∷ (0, 2) ∷ (0, 3) ∷ (0, 4) ∷ (0, 3) ∷ []) (ending.Returned 4)
falls_is = refl

-- a switch without a matching case and without a default does nothing:
-- int main(void) {switch (3) {case 1: __out(0, 1); break; case 2: __out(0, 2);} return 4;}
abbrev pub no_case : ProgramTree
no_case = alone (main_with [] []
    (Block []
    (both (Switch (int_at 24 (Const 3))
    (case 1
    (body (Do_expr (void_at 36 (Out 0 (int_at 45 (Const 1)))))
    (body Break
    (case 2
    (body (Do_expr (void_at 64 (Out 0 (int_at 73 (Const 2)))))
    no_more))))))
    (both (Return (Some (int_at 85 (Const 4))))
    done))))

no_case_is : source_run no_case silent 10 ≡ Ended [] (ending.Returned 4)
no_case_is = refl

-- a continue goes to the test of a do, and out of a switch:
-- int main(void) {int i; i = 0; do {i++; switch (i) {case 2: continue;} __out(1, i);} while (i < 3); return i;}
abbrev pub skips : ProgramTree
skips = alone (main_with (int ∷ []) []
    (Block ((Scalar 0) ∷ [])
    (both (Do_expr (int_at 23 (Assign (Named (Scalar 0) 23) (int_at 27 (Const 0)))))
    (both (Do_while
    (Block []
    (both (Do_expr (int_at 34 (StepAfter true (Named (Scalar 0) 34))))
    (both (Switch (int_at 47 (Read (Scalar 0)))
    (case 2
    (body Continue
    no_more)))
    (both (Do_expr (void_at 70 (Out 1 (int_at 79 (Read (Scalar 0))))))
    done))))
    (int_at 91 (Binary op.Lt (int_at 91 (Read (Scalar 0))) (int_at 95 (Const 3)))))
    (both (Return (Some (int_at 106 (Read (Scalar 0)))))
    done)))))

skips_is : source_run skips silent 10 ≡ Ended ((1, 1) ∷ (1, 3) ∷ []) (ending.Returned 3)
skips_is = refl

-- a do runs its body once before the test, which is a turn; a while tests first:
-- int main(void) {int i; i = 5; do __out(0, i++); while (i < 3); while (i < 3) __out(0, i); return i;}
abbrev pub body_before_test : ProgramTree
body_before_test = alone (main_with (int ∷ []) []
    (Block ((Scalar 0) ∷ [])
    (both (Do_expr (int_at 23 (Assign (Named (Scalar 0) 23) (int_at 27 (Const 5)))))
    (both (Do_while
    (Do_expr (void_at 33 (Out 0 (int_at 42 (StepAfter true (Named (Scalar 0) 42))))))
    (int_at 55 (Binary op.Lt (int_at 55 (Read (Scalar 0))) (int_at 59 (Const 3)))))
    (both (While (int_at 70 (Binary op.Lt (int_at 70 (Read (Scalar 0))) (int_at 74 (Const 3))))
    (Do_expr (void_at 77 (Out 0 (int_at 86 (Read (Scalar 0)))))))
    (both (Return (Some (int_at 97 (Read (Scalar 0)))))
    done))))))

body_before_test_is : source_run body_before_test silent 1 ≡ Ended ((0, 5) ∷ []) (ending.Returned 6)
body_before_test_is = refl

body_before_test_wants_a_turn : source_run body_before_test silent 0 ≡ More []
body_before_test_wants_a_turn = refl

-- a break leaves a loop before its third part:
-- int main(void) {int i; for (i = 0; ; i++) if (i == 2) break; return i;}
abbrev pub breaks : ProgramTree
breaks = alone (main_with (int ∷ []) []
    (Block ((Scalar 0) ∷ [])
    (both (For
    (Some (int_at 28 (Assign (Named (Scalar 0) 28) (int_at 32 (Const 0)))))
    None
    (Some (int_at 37 (StepAfter true (Named (Scalar 0) 37))))
    (If (int_at 46 (Binary op.Eq (int_at 46 (Read (Scalar 0))) (int_at 51 (Const 2)))) Break (Block [] done)))
    (both (Return (Some (int_at 68 (Read (Scalar 0)))))
    done))))

breaks_is : source_run breaks silent 3 ≡ Ended [] (ending.Returned 2)
breaks_is = refl

breaks_goes_on : source_run breaks silent 2 ≡ More []
breaks_goes_on = refl

-- a return leaves a switch, a loop and the function:
-- int f(int x) {while (1) switch (x) {default: return x;}} int main(void) {return f(4);}
abbrev returns_f : FunctionTree
returns_f = function (codes "f") (Some int) ((Scalar 0) ∷ []) (int ∷ []) []
    (Block []
    (both (While (int_at 21 (Const 1))
    (Switch (int_at 32 (Read (Scalar 0)))
    (default
    (body (Return (Some (int_at 52 (Read (Scalar 0)))))
    no_more))))
    done))

abbrev returns_main : FunctionTree
returns_main = main_with [] []
    (Block []
    (both (Return (Some (int_at 80 (Call 0 (more (int_at 82 (Const 4)) none)))))
    done))

abbrev pub returns : ProgramTree
returns = program [] (returns_f ∷ returns_main ∷ [])

returns_is : source_run returns silent 1 ≡ Ended [] (ending.Returned 4)
returns_is = refl

-- a function without a value, left by a return and by its end:
-- void f(int x) {if (x) return; __out(0, x);} int main(void) {f(1); f(0); return 0;}
abbrev returns_nothing_f : FunctionTree
returns_nothing_f = function (codes "f") None ((Scalar 0) ∷ []) (int ∷ []) []
    (Block []
    (both (If (int_at 19 (Read (Scalar 0))) (Return None) (Block [] done))
    (both (Do_expr (void_at 30 (Out 0 (int_at 39 (Read (Scalar 0))))))
    done)))

abbrev returns_nothing_main : FunctionTree
returns_nothing_main = main_with [] []
    (Block []
    (both (Do_expr (void_at 60 (Call 0 (more (int_at 62 (Const 1)) none))))
    (both (Do_expr (void_at 66 (Call 0 (more (int_at 68 (Const 0)) none))))
    (both (Return (Some (int_at 79 (Const 0))))
    done))))

abbrev pub returns_nothing : ProgramTree
returns_nothing = program [] (returns_nothing_f ∷ returns_nothing_main ∷ [])

returns_nothing_is : source_run returns_nothing silent 10 ≡ Ended ((0, 0) ∷ []) (ending.Returned 0)
returns_nothing_is = refl

-- the end of main returns 0:
-- int main(void) {__out(0, 1);}
abbrev pub no_return : ProgramTree
no_return = alone (main_with [] []
    (Block []
    (both (Do_expr (void_at 16 (Out 0 (int_at 25 (Const 1)))))
    done)))

no_return_is : source_run no_return silent 0 ≡ Ended ((0, 1) ∷ []) (ending.Returned 0)
no_return_is = refl

-- the turns of each execution of a loop are counted anew:
-- int main(void) {int i; int j; int n; n = 0; for (i = 0; i < 3; i++) for (j = 0; j < 2; j++) n++; return n;}
abbrev pub counts_anew : ProgramTree
counts_anew = alone (main_with (int ∷ int ∷ int ∷ []) []
    (Block ((Scalar 0) ∷ (Scalar 1) ∷ (Scalar 2) ∷ [])
    (both (Do_expr (int_at 37 (Assign (Named (Scalar 2) 37) (int_at 41 (Const 0)))))
    (both (For
    (Some (int_at 49 (Assign (Named (Scalar 0) 49) (int_at 53 (Const 0)))))
    (Some (int_at 56 (Binary op.Lt (int_at 56 (Read (Scalar 0))) (int_at 60 (Const 3)))))
    (Some (int_at 63 (StepAfter true (Named (Scalar 0) 63))))
    (For
    (Some (int_at 73 (Assign (Named (Scalar 1) 73) (int_at 77 (Const 0)))))
    (Some (int_at 80 (Binary op.Lt (int_at 80 (Read (Scalar 1))) (int_at 84 (Const 2)))))
    (Some (int_at 87 (StepAfter true (Named (Scalar 1) 87))))
    (Do_expr (int_at 92 (StepAfter true (Named (Scalar 2) 92))))))
    (both (Return (Some (int_at 104 (Read (Scalar 2)))))
    done)))))

counts_anew_is : source_run counts_anew silent 3 ≡ Ended [] (ending.Returned 6)
counts_anew_is = refl

counts_anew_goes_on : source_run counts_anew silent 2 ≡ More []
counts_anew_goes_on = refl

-- an endless loop ends with its input:
-- int main(void){for(;;) __out(1, __in(0)); return 0;}
abbrev pub echo : ProgramTree
echo = alone (main_with [] []
    (Block []
    (both (For None None None (Do_expr (void_at 23 (Out 1 (int_at 32 (In 0))))))
    (both (Return (Some (int_at 49 (Const 0))))
    done))))

echo_is :
    source_run echo (on_port_0 (10 ∷ 11 ∷ 12 ∷ [])) 4 ≡
    Ended ((1, 10) ∷ (1, 11) ∷ (1, 12) ∷ []) (ending.InputEnded 0)
echo_is = refl

echo_goes_on : source_run echo (on_port_0 (10 ∷ 11 ∷ 12 ∷ [])) 3 ≡ More ((1, 10) ∷ (1, 11) ∷ (1, 12) ∷ [])
echo_goes_on = refl

-- an endless loop goes on after any number of turns:
-- int main(void){for(;;); return 0;}
abbrev pub endless : ProgramTree
endless = alone (main_with [] []
    (Block []
    (both (For None None None (Block [] done))
    (both (Return (Some (int_at 31 (Const 0))))
    done))))

endless_is : source_run endless silent 50 ≡ More []
endless_is = refl

endless_in_few_turns : source_run endless silent 3 ≡ More []
endless_in_few_turns = refl

endless_in_no_turns : source_run endless silent 0 ≡ More []
endless_in_no_turns = refl

-- a loop that would begin a turn too many has run its third part and its test:
-- int main(void) {int i; for (i = 0; __out(0, i), i < 3; i++) ; return i;}
abbrev pub goes_on : ProgramTree
goes_on = alone (main_with (int ∷ []) []
    (Block ((Scalar 0) ∷ [])
    (both (For
    (Some (int_at 28 (Assign (Named (Scalar 0) 28) (int_at 32 (Const 0)))))
    (Some (int_at 35 (Comma
    (void_at 35 (Out 0 (int_at 44 (Read (Scalar 0)))))
    (int_at 48 (Binary op.Lt (int_at 48 (Read (Scalar 0))) (int_at 52 (Const 3)))))))
    (Some (int_at 55 (StepAfter true (Named (Scalar 0) 55))))
    (Block [] done))
    (both (Return (Some (int_at 69 (Read (Scalar 0)))))
    done))))

goes_on_is : source_run goes_on silent 2 ≡ More ((0, 0) ∷ (0, 1) ∷ (0, 2) ∷ [])
goes_on_is = refl

goes_on_ends : source_run goes_on silent 3 ≡ Ended ((0, 0) ∷ (0, 1) ∷ (0, 2) ∷ (0, 3) ∷ []) (ending.Returned 3)
goes_on_ends = refl
