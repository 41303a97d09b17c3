-- Objects and pointers that are used well: ISO 9899:1990 6.1.2.4, 6.3.2.1, 6.3.3.2, 6.3.6, 6.3.8, 6.3.9 and 6.5.7.
use Rattle.std.specs.Prelude.{true, false, [], ◌∷◌, Some}
use Rattle.std.proofs.Common.{◌≡◌, refl}
use Rattle.c_syntax.specs.word_base.declared.outcome.Ending.TheVariants as ending
use Rattle.c_syntax.specs.word_base.declared.outcome.Outcome.TheVariants.{Ended}
use Rattle.c_tree.specs.declared.program.VarRef.TheVariants.{Scalar, Local, Static}
use Rattle.c_tree.specs.declared.program.Initial.TheVariants as initial
use Rattle.c_syntax.specs.declared.operator.UnaryOp.TheVariants.{Minus}
use Rattle.c_syntax.specs.declared.operator.BinaryOp.TheVariants as op
use Rattle.c_tree.specs.TypedTree.{Named, At, Const, Read, AddressOf, Load, Unary, Binary, Not, Pick, Assign, AssignOp, StepBefore, StepAfter, Out, Convert, Block, Fill, Do_expr, If, For, Return, done, both, FunctionTree, ProgramTree}
use Rattle.c_tree.specs.SourceRun.{source_run}
use Rattle.c_tree.proofs.Examples.Types.{int, int_pointer, int_pointer_pointer, void_pointer, int_at, pointer_at, pointer_pointer_at, void_pointer_at, void_at, words, object, main_with, program, alone, silent}

-- the sum of an array through a pointer:
-- int k[2] = {7, 1}; int main(void) {int n[4] = {3, 1, 4}; int s; int *p; s = k[1]; for (p = n; p < n + 4; p++) s += *p; return s;}
abbrev sum_main : FunctionTree
sum_main = main_with (int ∷ int_pointer ∷ []) ((object 4 int (words (3 ∷ 1 ∷ 4 ∷ []))) ∷ [])
    (Block ((Local 0) ∷ (Scalar 0) ∷ (Scalar 1) ∷ [])
    (both (Fill 0)
    (both (Do_expr (int_at 72 (Assign (Named (Scalar 0) 72)
    (int_at 76 (Load (pointer_at 76 (Binary op.Add (pointer_at 76 (AddressOf (Static 0))) (int_at 78 (Const 1)))))))))
    (both (For
    (Some (pointer_at 87 (Assign (Named (Scalar 1) 87) (pointer_at 91 (AddressOf (Local 0))))))
    (Some (int_at 94 (Binary op.Lt (pointer_at 94 (Read (Scalar 1)))
    (pointer_at 98 (Binary op.Add (pointer_at 98 (AddressOf (Local 0))) (int_at 102 (Const 4)))))))
    (Some (pointer_at 105 (StepAfter true (Named (Scalar 1) 105))))
    (Do_expr (int_at 110 (AssignOp op.Add (Named (Scalar 0) 110) (int_at 115 (Load (pointer_at 116 (Read (Scalar 1)))))))))
    (both (Return (Some (int_at 126 (Read (Scalar 0)))))
    done)))))

abbrev pub sum : ProgramTree
sum = program ((object 2 int (words (7 ∷ 1 ∷ []))) ∷ []) (sum_main ∷ [])

sum_is : source_run sum silent 10 ≡ Ended [] (ending.Returned 9)
sum_is = refl

-- static objects without a list are zero or null:
-- int n[3]; int *p; int main(void) {return n[2] + !p;}
abbrev statics_are_zero_main : FunctionTree
statics_are_zero_main = main_with [] []
    (Block []
    (both (Return (Some (int_at 41 (Binary op.Add
    (int_at 41 (Load (pointer_at 41 (Binary op.Add (pointer_at 41 (AddressOf (Static 0))) (int_at 43 (Const 2))))))
    (int_at 48 (Not (pointer_at 49 (Read (Static 1)))))))))
    done))

abbrev pub statics_are_zero : ProgramTree
statics_are_zero = program ((object 3 int []) ∷ (object 1 int_pointer []) ∷ []) (statics_are_zero_main ∷ [])

statics_are_zero_is : source_run statics_are_zero silent 10 ≡ Ended [] (ending.Returned 1)
statics_are_zero_is = refl

-- the cells behind a list are zero, of a local array too:
-- int n[3] = {5}; int main(void) {int m[4] = {1, 2}; return n[0] + n[2] + m[1] + m[3];}
abbrev short_lists_main : FunctionTree
short_lists_main = main_with [] ((object 4 int (words (1 ∷ 2 ∷ []))) ∷ [])
    (Block ((Local 0) ∷ [])
    (both (Fill 0)
    (both (Return (Some (int_at 58 (Binary op.Add
    (int_at 58 (Binary op.Add
    (int_at 58 (Binary op.Add (int_at 58 (Load (pointer_at 58 (Binary op.Add (pointer_at 58 (AddressOf (Static 0))) (int_at 60 (Const 0))))))
    (int_at 65 (Load (pointer_at 65 (Binary op.Add (pointer_at 65 (AddressOf (Static 0))) (int_at 67 (Const 2))))))))
    (int_at 72 (Load (pointer_at 72 (Binary op.Add (pointer_at 72 (AddressOf (Local 0))) (int_at 74 (Const 1))))))))
    (int_at 79 (Load (pointer_at 79 (Binary op.Add (pointer_at 79 (AddressOf (Local 0))) (int_at 81 (Const 3))))))))))
    done)))

abbrev pub short_lists : ProgramTree
short_lists = program ((object 3 int (words (5 ∷ []))) ∷ []) (short_lists_main ∷ [])

short_lists_is : source_run short_lists silent 10 ≡ Ended [] (ending.Returned 7)
short_lists_is = refl

-- a local array is filled at each entry of its block:
-- int main(void) {int i; for (i = 0; i < 2; i++) {int n[2] = {4}; __out(0, n[0] + n[1]); n[0] = 7; n[1] = 8;} return 0;}
abbrev pub filled_again : ProgramTree
filled_again = alone (main_with (int ∷ []) ((object 2 int (words (4 ∷ []))) ∷ [])
    (Block ((Scalar 0) ∷ [])
    (both (For
    (Some (int_at 28 (Assign (Named (Scalar 0) 28) (int_at 32 (Const 0)))))
    (Some (int_at 35 (Binary op.Lt (int_at 35 (Read (Scalar 0))) (int_at 39 (Const 2)))))
    (Some (int_at 42 (StepAfter true (Named (Scalar 0) 42))))
    (Block ((Local 0) ∷ [])
    (both (Fill 0)
    (both (Do_expr (void_at 64 (Out 0 (int_at 73 (Binary op.Add
    (int_at 73 (Load (pointer_at 73 (Binary op.Add (pointer_at 73 (AddressOf (Local 0))) (int_at 75 (Const 0))))))
    (int_at 80 (Load (pointer_at 80 (Binary op.Add (pointer_at 80 (AddressOf (Local 0))) (int_at 82 (Const 1)))))))))))
    (both (Do_expr (int_at 87 (Assign (At (pointer_at 87 (Binary op.Add (pointer_at 87 (AddressOf (Local 0))) (int_at 89 (Const 0)))) 87)
    (int_at 94 (Const 7)))))
    (both (Do_expr (int_at 97 (Assign (At (pointer_at 97 (Binary op.Add (pointer_at 97 (AddressOf (Local 0))) (int_at 99 (Const 1)))) 97)
    (int_at 104 (Const 8)))))
    done))))))
    (both (Return (Some (int_at 115 (Const 0))))
    done))))

filled_again_is : source_run filled_again silent 10 ≡ Ended ((0, 4) ∷ (0, 4) ∷ []) (ending.Returned 0)
filled_again_is = refl

-- each block has objects of its own:
-- int x; int main(void) {int x; x = 1; {int x; x = 2;} return x;}
abbrev inner_object_main : FunctionTree
inner_object_main = main_with (int ∷ int ∷ []) []
    (Block ((Scalar 0) ∷ [])
    (both (Do_expr (int_at 30 (Assign (Named (Scalar 0) 30) (int_at 34 (Const 1)))))
    (both (Block ((Scalar 1) ∷ [])
    (both (Do_expr (int_at 45 (Assign (Named (Scalar 1) 45) (int_at 49 (Const 2)))))
    done))
    (both (Return (Some (int_at 60 (Read (Scalar 0)))))
    done))))

abbrev pub inner_object : ProgramTree
inner_object = program ((object 1 int []) ∷ []) (inner_object_main ∷ [])

inner_object_is : source_run inner_object silent 10 ≡ Ended [] (ending.Returned 1)
inner_object_is = refl

-- a static pointer starts with an address, or null:
-- int n[3] = {4, 5, 6}; int *p = &n[1]; int *q = 0; int main(void) {return *p + !q;}
abbrev static_addresses_main : FunctionTree
static_addresses_main = main_with [] []
    (Block []
    (both (Return (Some (int_at 73 (Binary op.Add (int_at 73 (Load (pointer_at 74 (Read (Static 1)))))
    (int_at 78 (Not (pointer_at 79 (Read (Static 2)))))))))
    done))

abbrev pub static_addresses : ProgramTree
static_addresses = program
    ((object 3 int (words (4 ∷ 5 ∷ 6 ∷ []))) ∷ (object 1 int_pointer ((initial.Address 0 1) ∷ [])) ∷ (object 1 int_pointer (initial.Null ∷ [])) ∷ [])
    (static_addresses_main ∷ [])

static_addresses_is : source_run static_addresses silent 10 ≡ Ended [] (ending.Returned 6)
static_addresses_is = refl

-- a pointer equals itself, and differs from another object's and from null:
-- int main(void) {int x; int y; int *p; p = &x; __out(0, p == &x); __out(0, p == &y); __out(0, p != 0); p = 0; __out(0, p == 0); return 0;}
abbrev pub equal_pointers : ProgramTree
equal_pointers = alone (main_with (int_pointer ∷ []) ((object 1 int []) ∷ (object 1 int []) ∷ [])
    (Block ((Local 0) ∷ (Local 1) ∷ (Scalar 0) ∷ [])
    (both (Do_expr (pointer_at 38 (Assign (Named (Scalar 0) 38) (pointer_at 42 (AddressOf (Local 0))))))
    (both (Do_expr (void_at 46 (Out 0 (int_at 55 (Binary op.Eq (pointer_at 55 (Read (Scalar 0))) (pointer_at 60 (AddressOf (Local 0))))))))
    (both (Do_expr (void_at 65 (Out 0 (int_at 74 (Binary op.Eq (pointer_at 74 (Read (Scalar 0))) (pointer_at 79 (AddressOf (Local 1))))))))
    (both (Do_expr (void_at 84 (Out 0 (int_at 93 (Binary op.Ne (pointer_at 93 (Read (Scalar 0))) (pointer_at 98 (Const 0)))))))
    (both (Do_expr (pointer_at 102 (Assign (Named (Scalar 0) 102) (pointer_at 106 (Const 0)))))
    (both (Do_expr (void_at 109 (Out 0 (int_at 118 (Binary op.Eq (pointer_at 118 (Read (Scalar 0))) (pointer_at 123 (Const 0)))))))
    (both (Return (Some (int_at 134 (Const 0))))
    done)))))))))

equal_pointers_is :
    source_run equal_pointers silent 10 ≡
    Ended ((0, 1) ∷ (0, 0) ∷ (0, 1) ∷ (0, 1) ∷ []) (ending.Returned 0)
equal_pointers_is = refl

-- pointers into one object are ordered and subtracted by their indexes:
-- int n[4]; int main(void) {int *p; p = &n[1]; __out(0, p < n + 4); __out(0, n > p); __out(0, p <= p); __out(0, n + 4 - p); __out(0, p[-1]); return p - (n + 4);}
abbrev ordered_pointers_main : FunctionTree
ordered_pointers_main = main_with (int_pointer ∷ []) []
    (Block ((Scalar 0) ∷ [])
    (both (Do_expr (pointer_at 34 (Assign (Named (Scalar 0) 34)
    (pointer_at 39 (Binary op.Add (pointer_at 39 (AddressOf (Static 0))) (int_at 41 (Const 1)))))))
    (both (Do_expr (void_at 45 (Out 0 (int_at 54 (Binary op.Lt (pointer_at 54 (Read (Scalar 0)))
    (pointer_at 58 (Binary op.Add (pointer_at 58 (AddressOf (Static 0))) (int_at 62 (Const 4)))))))))
    (both (Do_expr (void_at 66 (Out 0 (int_at 75 (Binary op.Gt (pointer_at 75 (AddressOf (Static 0))) (pointer_at 79 (Read (Scalar 0))))))))
    (both (Do_expr (void_at 83 (Out 0 (int_at 92 (Binary op.Le (pointer_at 92 (Read (Scalar 0))) (pointer_at 97 (Read (Scalar 0))))))))
    (both (Do_expr (void_at 101 (Out 0 (int_at 110 (Binary op.Sub
    (pointer_at 110 (Binary op.Add (pointer_at 110 (AddressOf (Static 0))) (int_at 114 (Const 4))))
    (pointer_at 118 (Read (Scalar 0))))))))
    (both (Do_expr (void_at 122 (Out 0 (int_at 131 (Load (pointer_at 131 (Binary op.Add (pointer_at 131 (Read (Scalar 0)))
    (int_at 133 (Unary Minus (int_at 134 (Const 1)))))))))))
    (both (Return (Some (int_at 146 (Binary op.Sub (pointer_at 146 (Read (Scalar 0)))
    (pointer_at 151 (Binary op.Add (pointer_at 151 (AddressOf (Static 0))) (int_at 155 (Const 4))))))))
    done))))))))

abbrev pub ordered_pointers : ProgramTree
ordered_pointers = program ((object 4 int []) ∷ []) (ordered_pointers_main ∷ [])

ordered_pointers_is :
    source_run ordered_pointers silent 10 ≡
    Ended ((0, 1) ∷ (0, 0) ∷ (0, 1) ∷ (0, 3) ∷ (0, 0) ∷ []) (ending.Returned 65533)
ordered_pointers_is = refl

-- a pointer is moved by an int on either side:
-- int n[2] = {3, 4}; int main(void) {return 1[n] + *(1 + n);}
abbrev either_side_main : FunctionTree
either_side_main = main_with [] []
    (Block []
    (both (Return (Some (int_at 42 (Binary op.Add
    (int_at 42 (Load (pointer_at 42 (Binary op.Add (int_at 42 (Const 1)) (pointer_at 44 (AddressOf (Static 0)))))))
    (int_at 49 (Load (pointer_at 51 (Binary op.Add (int_at 51 (Const 1)) (pointer_at 55 (AddressOf (Static 0)))))))))))
    done))

abbrev pub either_side : ProgramTree
either_side = program ((object 2 int (words (3 ∷ 4 ∷ []))) ∷ []) (either_side_main ∷ [])

either_side_is : source_run either_side silent 10 ≡ Ended [] (ending.Returned 8)
either_side_is = refl

-- pointers are stepped and moved by assignments:
-- int n[4] = {1, 2, 3, 4}; int main(void) {int *p; int x; p = n + 4; p -= 2; *--p += 5; x = *p++; return x * 10 + *p;}
abbrev moved_pointers_main : FunctionTree
moved_pointers_main = main_with (int_pointer ∷ int ∷ []) []
    (Block ((Scalar 0) ∷ (Scalar 1) ∷ [])
    (both (Do_expr (pointer_at 56 (Assign (Named (Scalar 0) 56)
    (pointer_at 60 (Binary op.Add (pointer_at 60 (AddressOf (Static 0))) (int_at 64 (Const 4)))))))
    (both (Do_expr (pointer_at 67 (AssignOp op.Sub (Named (Scalar 0) 67) (int_at 72 (Const 2)))))
    (both (Do_expr (int_at 75 (AssignOp op.Add (At (pointer_at 76 (StepBefore false (Named (Scalar 0) 78))) 75) (int_at 83 (Const 5)))))
    (both (Do_expr (int_at 86 (Assign (Named (Scalar 1) 86) (int_at 90 (Load (pointer_at 91 (StepAfter true (Named (Scalar 0) 91))))))))
    (both (Return (Some (int_at 103 (Binary op.Add (int_at 103 (Binary op.Mul (int_at 103 (Read (Scalar 1))) (int_at 107 (Const 10))))
    (int_at 112 (Load (pointer_at 113 (Read (Scalar 0)))))))))
    done))))))

abbrev pub moved_pointers : ProgramTree
moved_pointers = program ((object 4 int (words (1 ∷ 2 ∷ 3 ∷ 4 ∷ []))) ∷ []) (moved_pointers_main ∷ [])

moved_pointers_is : source_run moved_pointers silent 10 ≡ Ended [] (ending.Returned 73)
moved_pointers_is = refl

-- the address of what a null pointer points to is null:
-- int main(void) {int *p; p = 0; return &*p == 0;}
abbrev pub address_of_content : ProgramTree
address_of_content = alone (main_with (int_pointer ∷ []) []
    (Block ((Scalar 0) ∷ [])
    (both (Do_expr (pointer_at 24 (Assign (Named (Scalar 0) 24) (pointer_at 28 (Const 0)))))
    (both (Return (Some (int_at 38 (Binary op.Eq (pointer_at 40 (Read (Scalar 0))) (pointer_at 45 (Const 0))))))
    done))))

address_of_content_is : source_run address_of_content silent 10 ≡ Ended [] (ending.Returned 1)
address_of_content_is = refl

-- a pointer that isn't null is true:
-- int x; int main(void) {int *p; p = &x; if (p) return !p + 2; return 0;}
abbrev true_pointer_main : FunctionTree
true_pointer_main = main_with (int_pointer ∷ []) []
    (Block ((Scalar 0) ∷ [])
    (both (Do_expr (pointer_at 31 (Assign (Named (Scalar 0) 31) (pointer_at 35 (AddressOf (Static 0))))))
    (both (If (pointer_at 43 (Read (Scalar 0)))
    (Return (Some (int_at 53 (Binary op.Add (int_at 53 (Not (pointer_at 54 (Read (Scalar 0))))) (int_at 58 (Const 2))))))
    (Block [] done))
    (both (Return (Some (int_at 68 (Const 0))))
    done))))

abbrev pub true_pointer : ProgramTree
true_pointer = program ((object 1 int []) ∷ []) (true_pointer_main ∷ [])

true_pointer_is : source_run true_pointer silent 10 ≡ Ended [] (ending.Returned 2)
true_pointer_is = refl

-- ?: between a pointer and null:
-- int x; int main(void) {int *p; p = 1 ? &x : 0; return p == &x ? 5 : 6;}
abbrev pointer_or_null_main : FunctionTree
pointer_or_null_main = main_with (int_pointer ∷ []) []
    (Block ((Scalar 0) ∷ [])
    (both (Do_expr (pointer_at 31 (Assign (Named (Scalar 0) 31)
    (pointer_at 35 (Pick (int_at 35 (Const 1)) (pointer_at 39 (AddressOf (Static 0))) (pointer_at 44 (Const 0)))))))
    (both (Return (Some (int_at 54 (Pick
    (int_at 54 (Binary op.Eq (pointer_at 54 (Read (Scalar 0))) (pointer_at 59 (AddressOf (Static 0)))))
    (int_at 64 (Const 5))
    (int_at 68 (Const 6))))))
    done)))

abbrev pub pointer_or_null : ProgramTree
pointer_or_null = program ((object 1 int []) ∷ []) (pointer_or_null_main ∷ [])

pointer_or_null_is : source_run pointer_or_null silent 10 ≡ Ended [] (ending.Returned 5)
pointer_or_null_is = refl

-- a pointer goes through void * and back:
-- int x; int main(void) {void *v; int *p; x = 6; v = &x; p = v; return *p;}
abbrev through_void_main : FunctionTree
through_void_main = main_with (void_pointer ∷ int_pointer ∷ []) []
    (Block ((Scalar 0) ∷ (Scalar 1) ∷ [])
    (both (Do_expr (int_at 40 (Assign (Named (Static 0) 40) (int_at 44 (Const 6)))))
    (both (Do_expr (void_pointer_at 47 (Assign (Named (Scalar 0) 47) (void_pointer_at 51 (Convert (pointer_at 51 (AddressOf (Static 0))))))))
    (both (Do_expr (pointer_at 55 (Assign (Named (Scalar 1) 55) (pointer_at 59 (Convert (void_pointer_at 59 (Read (Scalar 0))))))))
    (both (Return (Some (int_at 69 (Load (pointer_at 70 (Read (Scalar 1)))))))
    done)))))

abbrev pub through_void : ProgramTree
through_void = program ((object 1 int []) ∷ []) (through_void_main ∷ [])

through_void_is : source_run through_void silent 10 ≡ Ended [] (ending.Returned 6)
through_void_is = refl

-- a pointer to a pointer:
-- int main(void) {int x; int *p; int **q; q = &p; *q = &x; **q = 8; return x;}
abbrev pub two_stars : ProgramTree
two_stars = alone (main_with (int_pointer_pointer ∷ []) ((object 1 int []) ∷ (object 1 int_pointer []) ∷ [])
    (Block ((Local 0) ∷ (Local 1) ∷ (Scalar 0) ∷ [])
    (both (Do_expr (pointer_pointer_at 40 (Assign (Named (Scalar 0) 40) (pointer_pointer_at 44 (AddressOf (Local 1))))))
    (both (Do_expr (pointer_at 48 (Assign (At (pointer_pointer_at 49 (Read (Scalar 0))) 48) (pointer_at 53 (AddressOf (Local 0))))))
    (both (Do_expr (int_at 57 (Assign (At (pointer_at 58 (Load (pointer_pointer_at 59 (Read (Scalar 0))))) 57) (int_at 63 (Const 8)))))
    (both (Return (Some (int_at 73 (Read (Local 0)))))
    done))))))

two_stars_is : source_run two_stars silent 10 ≡ Ended [] (ending.Returned 8)
two_stars_is = refl
