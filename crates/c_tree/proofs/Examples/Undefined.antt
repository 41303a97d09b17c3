-- What C leaves undefined, with its kind and its place: ISO 9899:1990 6.1.2.4, 6.3 and 6.3.2 to 6.3.16.
use Rattle.std.specs.Prelude.{true, [], ◌∷◌, codes, Some}
use Rattle.std.proofs.Common.{◌≡◌, refl}
use Rattle.c_syntax.specs.word_base.declared.outcome.UndefinedKind.TheVariants.{Overflow, DivideByZero, ShiftCount, Indeterminate, BadPointer}
use Rattle.c_syntax.specs.word_base.declared.outcome.Outcome.TheVariants.{Undefined}
use Rattle.c_tree.specs.declared.program.VarRef.TheVariants.{Scalar, Local, Static}
use Rattle.c_syntax.specs.declared.operator.UnaryOp.TheVariants.{Minus}
use Rattle.c_syntax.specs.declared.operator.BinaryOp.TheVariants as op
use Rattle.c_tree.specs.TypedTree.{Named, At, Const, Read, AddressOf, Load, Unary, Binary, Not, Assign, AssignOp, StepBefore, StepAfter, Call, Out, Comma, Convert, none, more, Block, Do_expr, If, For, Return, done, both, FunctionTree, ProgramTree}
use Rattle.c_tree.specs.SourceRun.{source_run}
use Rattle.c_tree.proofs.Examples.Types.{int, unsigned, int_pointer, void_pointer, int_at, unsigned_at, pointer_at, pointer_pointer_at, void_pointer_at, void_at, object, function, main_with, program, alone, silent}

-- an overflow stands at its node, behind the outputs before it:
-- int main(void) {int x; x = 32767; __out(0, x); x = (x) + 1; return x;}
abbrev pub overflows : ProgramTree
overflows = alone (main_with (int ∷ []) []
    (Block ((Scalar 0) ∷ [])
    (both (Do_expr (int_at 23 (Assign (Named (Scalar 0) 23) (int_at 27 (Const 32767)))))
    (both (Do_expr (void_at 34 (Out 0 (int_at 43 (Read (Scalar 0))))))
    (both (Do_expr (int_at 47 (Assign (Named (Scalar 0) 47) (int_at 51 (Binary op.Add (int_at 52 (Read (Scalar 0))) (int_at 57 (Const 1)))))))
    (both (Return (Some (int_at 67 (Read (Scalar 0)))))
    done))))))

overflows_is : source_run overflows silent 10 ≡ Undefined ((0, 32767) ∷ []) Overflow 51
overflows_is = refl

-- the same at the first token of a sum without parentheses:
-- int main(void){int x; x = 32767; __out(0,1); x = x + 1; return x;}
abbrev pub overflows_behind_output : ProgramTree
overflows_behind_output = alone (main_with (int ∷ []) []
    (Block ((Scalar 0) ∷ [])
    (both (Do_expr (int_at 22 (Assign (Named (Scalar 0) 22) (int_at 26 (Const 32767)))))
    (both (Do_expr (void_at 33 (Out 0 (int_at 41 (Const 1)))))
    (both (Do_expr (int_at 45 (Assign (Named (Scalar 0) 45) (int_at 49 (Binary op.Add (int_at 49 (Read (Scalar 0))) (int_at 53 (Const 1)))))))
    (both (Return (Some (int_at 63 (Read (Scalar 0)))))
    done))))))

overflows_behind_output_is : source_run overflows_behind_output silent 10 ≡ Undefined ((0, 1) ∷ []) Overflow 49
overflows_behind_output_is = refl

-- a product that is no int:
-- int main(void) {int x; x = 300; return x * x;}
abbrev pub product_overflows : ProgramTree
product_overflows = alone (main_with (int ∷ []) []
    (Block ((Scalar 0) ∷ [])
    (both (Do_expr (int_at 23 (Assign (Named (Scalar 0) 23) (int_at 27 (Const 300)))))
    (both (Return (Some (int_at 39 (Binary op.Mul (int_at 39 (Read (Scalar 0))) (int_at 43 (Read (Scalar 0)))))))
    done))))

product_overflows_is : source_run product_overflows silent 10 ≡ Undefined [] Overflow 39
product_overflows_is = refl

-- a step overflows at the step:
-- int main(void) {int x; x = 32767; ++x; return x;}
abbrev pub step_overflows : ProgramTree
step_overflows = alone (main_with (int ∷ []) []
    (Block ((Scalar 0) ∷ [])
    (both (Do_expr (int_at 23 (Assign (Named (Scalar 0) 23) (int_at 27 (Const 32767)))))
    (both (Do_expr (int_at 34 (StepBefore true (Named (Scalar 0) 36))))
    (both (Return (Some (int_at 46 (Read (Scalar 0)))))
    done)))))

step_overflows_is : source_run step_overflows silent 10 ≡ Undefined [] Overflow 34
step_overflows_is = refl

-- the least int has no remainder by -1, since it has no quotient:
-- int main(void) {int x; x = -32767 - 1; return x % -1;}
abbrev pub no_remainder : ProgramTree
no_remainder = alone (main_with (int ∷ []) []
    (Block ((Scalar 0) ∷ [])
    (both (Do_expr (int_at 23 (Assign (Named (Scalar 0) 23)
    (int_at 27 (Binary op.Sub (int_at 27 (Unary Minus (int_at 28 (Const 32767)))) (int_at 36 (Const 1)))))))
    (both (Return (Some (int_at 46 (Binary op.Rem (int_at 46 (Read (Scalar 0))) (int_at 50 (Unary Minus (int_at 51 (Const 1))))))))
    done))))

no_remainder_is : source_run no_remainder silent 10 ≡ Undefined [] Overflow 46
no_remainder_is = refl

-- the least int has no negative:
-- int main(void) {int x; x = -32767 - 1; return -x;}
abbrev pub no_negative : ProgramTree
no_negative = alone (main_with (int ∷ []) []
    (Block ((Scalar 0) ∷ [])
    (both (Do_expr (int_at 23 (Assign (Named (Scalar 0) 23)
    (int_at 27 (Binary op.Sub (int_at 27 (Unary Minus (int_at 28 (Const 32767)))) (int_at 36 (Const 1)))))))
    (both (Return (Some (int_at 46 (Unary Minus (int_at 47 (Read (Scalar 0)))))))
    done))))

no_negative_is : source_run no_negative silent 10 ≡ Undefined [] Overflow 46
no_negative_is = refl

-- a quotient by zero:
-- int main(void) {int x; x = 0; return 5 / x;}
abbrev pub divides_by_zero : ProgramTree
divides_by_zero = alone (main_with (int ∷ []) []
    (Block ((Scalar 0) ∷ [])
    (both (Do_expr (int_at 23 (Assign (Named (Scalar 0) 23) (int_at 27 (Const 0)))))
    (both (Return (Some (int_at 37 (Binary op.Div (int_at 37 (Const 5)) (int_at 41 (Read (Scalar 0)))))))
    done))))

divides_by_zero_is : source_run divides_by_zero silent 10 ≡ Undefined [] DivideByZero 37
divides_by_zero_is = refl

-- a remainder by zero, without a sign:
-- int main(void) {unsigned u; u = 0; u %= 0; return 1;}
abbrev pub remainder_by_zero : ProgramTree
remainder_by_zero = alone (main_with (unsigned ∷ []) []
    (Block ((Scalar 0) ∷ [])
    (both (Do_expr (unsigned_at 28 (Assign (Named (Scalar 0) 28) (unsigned_at 32 (Convert (int_at 32 (Const 0)))))))
    (both (Do_expr (unsigned_at 35 (AssignOp op.Rem (Named (Scalar 0) 35) (int_at 40 (Const 0)))))
    (both (Return (Some (int_at 50 (Const 1))))
    done)))))

remainder_by_zero_is : source_run remainder_by_zero silent 10 ≡ Undefined [] DivideByZero 35
remainder_by_zero_is = refl

-- a shift by 16:
-- int main(void) {int x; x = 16; return 1 << x;}
abbrev pub shifts_too_far : ProgramTree
shifts_too_far = alone (main_with (int ∷ []) []
    (Block ((Scalar 0) ∷ [])
    (both (Do_expr (int_at 23 (Assign (Named (Scalar 0) 23) (int_at 27 (Const 16)))))
    (both (Return (Some (int_at 38 (Binary op.Shl (int_at 38 (Const 1)) (int_at 43 (Read (Scalar 0)))))))
    done))))

shifts_too_far_is : source_run shifts_too_far silent 10 ≡ Undefined [] ShiftCount 38
shifts_too_far_is = refl

-- a shift by a negative count:
-- int main(void) {return 1u >> -1;}
abbrev pub shifts_back : ProgramTree
shifts_back = alone (main_with [] []
    (Block []
    (both (Return (Some (int_at 23 (Convert (unsigned_at 23 (Binary op.Shr (unsigned_at 23 (Const 1))
    (int_at 29 (Unary Minus (int_at 30 (Const 1))))))))))
    done)))

shifts_back_is : source_run shifts_back silent 10 ≡ Undefined [] ShiftCount 23
shifts_back_is = refl

-- a step of an indeterminate object fails at the object:
-- int main(void) {int x; ++x; return 0;}
abbrev pub indeterminate : ProgramTree
indeterminate = alone (main_with (int ∷ []) []
    (Block ((Scalar 0) ∷ [])
    (both (Do_expr (int_at 23 (StepBefore true (Named (Scalar 0) 25))))
    (both (Return (Some (int_at 35 (Const 0))))
    done))))

indeterminate_is : source_run indeterminate silent 10 ≡ Undefined [] Indeterminate 25
indeterminate_is = refl

-- an object is fresh at each entry of its block:
-- int main(void) {int i; for (i = 0; i < 2; i++) {int x; if (i == 0) x = 5; __out(0, x);} return 0;}
abbrev pub fresh_object : ProgramTree
fresh_object = alone (main_with (int ∷ int ∷ []) []
    (Block ((Scalar 0) ∷ [])
    (both (For
    (Some (int_at 28 (Assign (Named (Scalar 0) 28) (int_at 32 (Const 0)))))
    (Some (int_at 35 (Binary op.Lt (int_at 35 (Read (Scalar 0))) (int_at 39 (Const 2)))))
    (Some (int_at 42 (StepAfter true (Named (Scalar 0) 42))))
    (Block ((Scalar 1) ∷ [])
    (both (If (int_at 59 (Binary op.Eq (int_at 59 (Read (Scalar 0))) (int_at 64 (Const 0))))
    (Do_expr (int_at 67 (Assign (Named (Scalar 1) 67) (int_at 71 (Const 5)))))
    (Block [] done))
    (both (Do_expr (void_at 74 (Out 0 (int_at 83 (Read (Scalar 1))))))
    done))))
    (both (Return (Some (int_at 95 (Const 0))))
    done))))

fresh_object_is : source_run fresh_object silent 10 ≡ Undefined ((0, 5) ∷ []) Indeterminate 83
fresh_object_is = refl

-- and at each call of its function:
-- int f(int a) {int x; if (a) x = a; return x;} int main(void) {f(1); return f(0);}
abbrev fresh_at_call_f : FunctionTree
fresh_at_call_f = function (codes "f") (Some int) ((Scalar 0) ∷ []) (int ∷ int ∷ []) []
    (Block ((Scalar 1) ∷ [])
    (both (If (int_at 25 (Read (Scalar 0))) (Do_expr (int_at 28 (Assign (Named (Scalar 1) 28) (int_at 32 (Read (Scalar 0)))))) (Block [] done))
    (both (Return (Some (int_at 42 (Read (Scalar 1)))))
    done)))

abbrev fresh_at_call_main : FunctionTree
fresh_at_call_main = main_with [] []
    (Block []
    (both (Do_expr (int_at 62 (Call 0 (more (int_at 64 (Const 1)) none))))
    (both (Return (Some (int_at 75 (Call 0 (more (int_at 77 (Const 0)) none)))))
    done)))

abbrev pub fresh_at_call : ProgramTree
fresh_at_call = program [] (fresh_at_call_f ∷ fresh_at_call_main ∷ [])

fresh_at_call_is : source_run fresh_at_call silent 10 ≡ Undefined [] Indeterminate 42
fresh_at_call_is = refl

-- a local array without a list starts indeterminate:
-- int main(void) {int n[2]; n[0] = 1; return n[1];}
abbrev pub no_list : ProgramTree
no_list = alone (main_with [] ((object 2 int []) ∷ [])
    (Block ((Local 0) ∷ [])
    (both (Do_expr (int_at 26 (Assign (At (pointer_at 26 (Binary op.Add (pointer_at 26 (AddressOf (Local 0))) (int_at 28 (Const 0)))) 26)
    (int_at 33 (Const 1)))))
    (both (Return (Some (int_at 43 (Load (pointer_at 43 (Binary op.Add (pointer_at 43 (AddressOf (Local 0))) (int_at 45 (Const 1))))))))
    done))))

no_list_is : source_run no_list silent 10 ≡ Undefined [] Indeterminate 43
no_list_is = refl

-- a store through a null pointer fails at its lvalue, behind the value:
-- int main(void) {int *p; p = 0; *p = (__out(0, 7), 5); return 0;}
abbrev pub bad_pointer : ProgramTree
bad_pointer = alone (main_with (int_pointer ∷ []) []
    (Block ((Scalar 0) ∷ [])
    (both (Do_expr (pointer_at 24 (Assign (Named (Scalar 0) 24) (pointer_at 28 (Const 0)))))
    (both (Do_expr (int_at 31 (Assign (At (pointer_at 32 (Read (Scalar 0))) 31)
    (int_at 37 (Comma (void_at 37 (Out 0 (int_at 46 (Const 7)))) (int_at 50 (Const 5)))))))
    (both (Return (Some (int_at 61 (Const 0))))
    done)))))

bad_pointer_is : source_run bad_pointer silent 10 ≡ Undefined ((0, 7) ∷ []) BadPointer 31
bad_pointer_is = refl

-- an assignment with an operator reads first, so it fails before the value:
-- int main(void) {int *p; p = 0; *p += (__out(0, 7), 5); return 0;}
abbrev pub reads_null : ProgramTree
reads_null = alone (main_with (int_pointer ∷ []) []
    (Block ((Scalar 0) ∷ [])
    (both (Do_expr (pointer_at 24 (Assign (Named (Scalar 0) 24) (pointer_at 28 (Const 0)))))
    (both (Do_expr (int_at 31 (AssignOp op.Add (At (pointer_at 32 (Read (Scalar 0))) 31)
    (int_at 38 (Comma (void_at 38 (Out 0 (int_at 47 (Const 7)))) (int_at 51 (Const 5)))))))
    (both (Return (Some (int_at 62 (Const 0))))
    done)))))

reads_null_is : source_run reads_null silent 10 ≡ Undefined [] BadPointer 31
reads_null_is = refl

-- a step fails at its lvalue too:
-- int main(void) {int *p; p = 0; ++*p; return 0;}
abbrev pub steps_null : ProgramTree
steps_null = alone (main_with (int_pointer ∷ []) []
    (Block ((Scalar 0) ∷ [])
    (both (Do_expr (pointer_at 24 (Assign (Named (Scalar 0) 24) (pointer_at 28 (Const 0)))))
    (both (Do_expr (int_at 31 (StepBefore true (At (pointer_at 34 (Read (Scalar 0))) 33))))
    (both (Return (Some (int_at 44 (Const 0))))
    done)))))

steps_null_is : source_run steps_null silent 10 ≡ Undefined [] BadPointer 33
steps_null_is = refl

-- a pointer may stand one behind its object, but nothing is read there:
-- int n[2]; int main(void) {int *p; p = n + 2; return *p;}
abbrev reads_behind_main : FunctionTree
reads_behind_main = main_with (int_pointer ∷ []) []
    (Block ((Scalar 0) ∷ [])
    (both (Do_expr (pointer_at 34 (Assign (Named (Scalar 0) 34)
    (pointer_at 38 (Binary op.Add (pointer_at 38 (AddressOf (Static 0))) (int_at 42 (Const 2)))))))
    (both (Return (Some (int_at 52 (Load (pointer_at 53 (Read (Scalar 0)))))))
    done)))

abbrev pub reads_behind : ProgramTree
reads_behind = program ((object 2 int []) ∷ []) (reads_behind_main ∷ [])

reads_behind_is : source_run reads_behind silent 10 ≡ Undefined [] BadPointer 52
reads_behind_is = refl

-- nor is it moved further:
-- int n[2]; int main(void) {int *p; p = n + 2; p++; return 0;}
abbrev moved_behind_main : FunctionTree
moved_behind_main = main_with (int_pointer ∷ []) []
    (Block ((Scalar 0) ∷ [])
    (both (Do_expr (pointer_at 34 (Assign (Named (Scalar 0) 34)
    (pointer_at 38 (Binary op.Add (pointer_at 38 (AddressOf (Static 0))) (int_at 42 (Const 2)))))))
    (both (Do_expr (pointer_at 45 (StepAfter true (Named (Scalar 0) 45))))
    (both (Return (Some (int_at 57 (Const 0))))
    done))))

abbrev pub moved_behind : ProgramTree
moved_behind = program ((object 2 int []) ∷ []) (moved_behind_main ∷ [])

moved_behind_is : source_run moved_behind silent 10 ≡ Undefined [] BadPointer 45
moved_behind_is = refl

-- nor before the object:
-- int n[2]; int main(void) {int *p; p = n; p -= 1; return 0;}
abbrev moved_before_main : FunctionTree
moved_before_main = main_with (int_pointer ∷ []) []
    (Block ((Scalar 0) ∷ [])
    (both (Do_expr (pointer_at 34 (Assign (Named (Scalar 0) 34) (pointer_at 38 (AddressOf (Static 0))))))
    (both (Do_expr (pointer_at 41 (AssignOp op.Sub (Named (Scalar 0) 41) (int_at 46 (Const 1)))))
    (both (Return (Some (int_at 56 (Const 0))))
    done))))

abbrev pub moved_before : ProgramTree
moved_before = program ((object 2 int []) ∷ []) (moved_before_main ∷ [])

moved_before_is : source_run moved_before silent 10 ≡ Undefined [] BadPointer 41
moved_before_is = refl

-- an unsigned moves a pointer up alone:
-- int n[2]; int main(void) {int *p; p = n + 1; return *(p + 65535u);}
abbrev unsigned_moves_up_main : FunctionTree
unsigned_moves_up_main = main_with (int_pointer ∷ []) []
    (Block ((Scalar 0) ∷ [])
    (both (Do_expr (pointer_at 34 (Assign (Named (Scalar 0) 34)
    (pointer_at 38 (Binary op.Add (pointer_at 38 (AddressOf (Static 0))) (int_at 42 (Const 1)))))))
    (both (Return (Some (int_at 52 (Load (pointer_at 54 (Binary op.Add (pointer_at 54 (Read (Scalar 0))) (unsigned_at 58 (Const 65535))))))))
    done)))

abbrev pub unsigned_moves_up : ProgramTree
unsigned_moves_up = program ((object 2 int []) ∷ []) (unsigned_moves_up_main ∷ [])

unsigned_moves_up_is : source_run unsigned_moves_up silent 10 ≡ Undefined [] BadPointer 54
unsigned_moves_up_is = refl

-- pointers into two objects have no order:
-- int main(void) {int x; int y; return &x < &y;}
abbrev pub no_order : ProgramTree
no_order = alone (main_with [] ((object 1 int []) ∷ (object 1 int []) ∷ [])
    (Block ((Local 0) ∷ (Local 1) ∷ [])
    (both (Return (Some (int_at 37 (Binary op.Lt (pointer_at 37 (AddressOf (Local 0))) (pointer_at 42 (AddressOf (Local 1)))))))
    done)))

no_order_is : source_run no_order silent 10 ≡ Undefined [] BadPointer 37
no_order_is = refl

-- nor a difference:
-- int main(void) {int x; int y; return &x - &y;}
abbrev pub no_difference : ProgramTree
no_difference = alone (main_with [] ((object 1 int []) ∷ (object 1 int []) ∷ [])
    (Block ((Local 0) ∷ (Local 1) ∷ [])
    (both (Return (Some (int_at 37 (Binary op.Sub (pointer_at 37 (AddressOf (Local 0))) (pointer_at 42 (AddressOf (Local 1)))))))
    done)))

no_difference_is : source_run no_difference silent 10 ≡ Undefined [] BadPointer 37
no_difference_is = refl

-- nor have null pointers an order:
-- int main(void) {int *p; p = 0; return p < p;}
abbrev pub no_null_order : ProgramTree
no_null_order = alone (main_with (int_pointer ∷ []) []
    (Block ((Scalar 0) ∷ [])
    (both (Do_expr (pointer_at 24 (Assign (Named (Scalar 0) 24) (pointer_at 28 (Const 0)))))
    (both (Return (Some (int_at 38 (Binary op.Lt (pointer_at 38 (Read (Scalar 0))) (pointer_at 42 (Read (Scalar 0)))))))
    done))))

no_null_order_is : source_run no_null_order silent 10 ≡ Undefined [] BadPointer 38
no_null_order_is = refl

-- a null pointer isn't moved, not even by 0; the sum stands behind the &:
-- int main(void) {int *p; p = 0; return &p[0] == 0;}
abbrev pub null_not_moved : ProgramTree
null_not_moved = alone (main_with (int_pointer ∷ []) []
    (Block ((Scalar 0) ∷ [])
    (both (Do_expr (pointer_at 24 (Assign (Named (Scalar 0) 24) (pointer_at 28 (Const 0)))))
    (both (Return (Some (int_at 38 (Binary op.Eq (pointer_at 39 (Binary op.Add (pointer_at 39 (Read (Scalar 0))) (int_at 41 (Const 0))))
    (pointer_at 47 (Const 0))))))
    done))))

null_not_moved_is : source_run null_not_moved silent 10 ≡ Undefined [] BadPointer 39
null_not_moved_is = refl

-- a cell that holds pointers isn't read as a word; this is tested before whether it was written:
-- int main(void) {int *q; void *v; int *p; v = &q; p = v; return *p;}
abbrev pub other_kind : ProgramTree
other_kind = alone (main_with (void_pointer ∷ int_pointer ∷ []) ((object 1 int_pointer []) ∷ [])
    (Block ((Local 0) ∷ (Scalar 0) ∷ (Scalar 1) ∷ [])
    (both (Do_expr (void_pointer_at 41 (Assign (Named (Scalar 0) 41) (void_pointer_at 45 (Convert (pointer_pointer_at 45 (AddressOf (Local 0))))))))
    (both (Do_expr (pointer_at 49 (Assign (Named (Scalar 1) 49) (pointer_at 53 (Convert (void_pointer_at 53 (Read (Scalar 0))))))))
    (both (Return (Some (int_at 63 (Load (pointer_at 64 (Read (Scalar 1)))))))
    done)))))

other_kind_is : source_run other_kind silent 10 ≡ Undefined [] BadPointer 63
other_kind_is = refl

-- a pointer to an ended object is read and passed on, and fails where it is tested:
-- int main(void) {int *p; int *q; {int x; x = 1; p = &x;} q = p; return !q;}
abbrev pub ended : ProgramTree
ended = alone (main_with (int_pointer ∷ int_pointer ∷ []) ((object 1 int []) ∷ [])
    (Block ((Scalar 0) ∷ (Scalar 1) ∷ [])
    (both (Block ((Local 0) ∷ [])
    (both (Do_expr (int_at 40 (Assign (Named (Local 0) 40) (int_at 44 (Const 1)))))
    (both (Do_expr (pointer_at 47 (Assign (Named (Scalar 0) 47) (pointer_at 51 (AddressOf (Local 0))))))
    done)))
    (both (Do_expr (pointer_at 56 (Assign (Named (Scalar 1) 56) (pointer_at 60 (Read (Scalar 0))))))
    (both (Return (Some (int_at 70 (Not (pointer_at 71 (Read (Scalar 1)))))))
    done)))))

ended_is : source_run ended silent 10 ≡ Undefined [] BadPointer 70
ended_is = refl

-- it fails where it is compared, also with null:
-- int main(void) {int *p; {int x; p = &x;} return p == 0;}
abbrev pub ended_compared : ProgramTree
ended_compared = alone (main_with (int_pointer ∷ []) ((object 1 int []) ∷ [])
    (Block ((Scalar 0) ∷ [])
    (both (Block ((Local 0) ∷ [])
    (both (Do_expr (pointer_at 32 (Assign (Named (Scalar 0) 32) (pointer_at 36 (AddressOf (Local 0))))))
    done))
    (both (Return (Some (int_at 48 (Binary op.Eq (pointer_at 48 (Read (Scalar 0))) (pointer_at 53 (Const 0))))))
    done))))

ended_compared_is : source_run ended_compared silent 10 ≡ Undefined [] BadPointer 48
ended_compared_is = refl

-- the test of a statement fails at its expression:
-- int main(void) {int *p; {int x; p = &x;} if (p) return 1; return 0;}
abbrev pub ended_tested : ProgramTree
ended_tested = alone (main_with (int_pointer ∷ []) ((object 1 int []) ∷ [])
    (Block ((Scalar 0) ∷ [])
    (both (Block ((Local 0) ∷ [])
    (both (Do_expr (pointer_at 32 (Assign (Named (Scalar 0) 32) (pointer_at 36 (AddressOf (Local 0))))))
    done))
    (both (If (pointer_at 45 (Read (Scalar 0))) (Return (Some (int_at 55 (Const 1)))) (Block [] done))
    (both (Return (Some (int_at 65 (Const 0))))
    done)))))

ended_tested_is : source_run ended_tested silent 10 ≡ Undefined [] BadPointer 45
ended_tested_is = refl

-- the objects of a function end when it returns:
-- int *f(void) {int x; x = 1; return &x;} int main(void) {return *f();}
abbrev ended_with_function_f : FunctionTree
ended_with_function_f = function (codes "f") (Some int_pointer) [] [] ((object 1 int []) ∷ [])
    (Block ((Local 0) ∷ [])
    (both (Do_expr (int_at 21 (Assign (Named (Local 0) 21) (int_at 25 (Const 1)))))
    (both (Return (Some (pointer_at 35 (AddressOf (Local 0)))))
    done)))

abbrev ended_with_function_main : FunctionTree
ended_with_function_main = main_with [] []
    (Block []
    (both (Return (Some (int_at 63 (Load (pointer_at 64 (Call 0 none))))))
    done))

abbrev pub ended_with_function : ProgramTree
ended_with_function = program [] (ended_with_function_f ∷ ended_with_function_main ∷ [])

ended_with_function_is : source_run ended_with_function silent 10 ≡ Undefined [] BadPointer 63
ended_with_function_is = refl
