-- What operators and conversions give: ISO 9899:1990 6.2.1.2, 6.2.1.5, 6.3.3.3, 6.3.3.4 and 6.3.5 to 6.3.12.
use Rattle.std.specs.Prelude.{true, false, [], ◌∷◌, Some}
use Rattle.std.proofs.Common.{◌≡◌, refl}
use Rattle.c_syntax.specs.word_base.declared.outcome.Ending.TheVariants as ending
use Rattle.c_syntax.specs.word_base.declared.outcome.Outcome.TheVariants.{Ended}
use Rattle.c_tree.specs.declared.program.VarRef.TheVariants.{Scalar}
use Rattle.c_syntax.specs.declared.operator.UnaryOp.TheVariants.{Minus, Complement}
use Rattle.c_syntax.specs.declared.operator.BinaryOp.TheVariants as op
use Rattle.c_tree.specs.TypedTree.{Named, Const, Read, Unary, Binary, Assign, AssignOp, StepBefore, StepAfter, Out, Convert, Block, Do_expr, Return, done, both, FunctionTree, ProgramTree}
use Rattle.c_tree.specs.SourceRun.{source_run}
use Rattle.c_tree.proofs.Examples.Types.{int, unsigned, int_pointer, int_at, unsigned_at, void_at, object, main_with, program, alone, silent}

-- words without a sign wrap, and are compared without one:
-- int main(void){unsigned a; a = 65535u; __out(0, (a + 1u) < 2u); a = a + 1u; __out(0, a); return 0;}
abbrev pub unsigned_wraps : ProgramTree
unsigned_wraps = alone (main_with (unsigned ∷ []) []
    (Block ((Scalar 0) ∷ [])
    (both (Do_expr (unsigned_at 27 (Assign (Named (Scalar 0) 27) (unsigned_at 31 (Const 65535)))))
    (both (Do_expr (void_at 39 (Out 0 (int_at 48 (Binary op.Lt
    (unsigned_at 49 (Binary op.Add (unsigned_at 49 (Read (Scalar 0))) (unsigned_at 53 (Const 1))))
    (unsigned_at 59 (Const 2)))))))
    (both (Do_expr (unsigned_at 64 (Assign (Named (Scalar 0) 64)
    (unsigned_at 68 (Binary op.Add (unsigned_at 68 (Read (Scalar 0))) (unsigned_at 72 (Const 1)))))))
    (both (Do_expr (void_at 76 (Out 0 (unsigned_at 85 (Read (Scalar 0))))))
    (both (Return (Some (int_at 96 (Const 0))))
    done)))))))

unsigned_wraps_is : source_run unsigned_wraps silent 10 ≡ Ended ((0, 1) ∷ (0, 0) ∷ []) (ending.Returned 0)
unsigned_wraps_is = refl

-- an int beside an unsigned is converted, so -1 is the greatest word:
-- int main(void){__out(0, -1 < 1u); return 0;}
abbrev pub minus_one_is_great : ProgramTree
minus_one_is_great = alone (main_with [] []
    (Block []
    (both (Do_expr (void_at 15 (Out 0 (int_at 24 (Binary op.Lt (unsigned_at 24 (Convert (int_at 24 (Unary Minus (int_at 25 (Const 1))))))
    (unsigned_at 29 (Const 1)))))))
    (both (Return (Some (int_at 41 (Const 0))))
    done))))

minus_one_is_great_is : source_run minus_one_is_great silent 10 ≡ Ended ((0, 0) ∷ []) (ending.Returned 0)
minus_one_is_great_is = refl

-- the quotient of ints is cut toward zero, and the remainder has the sign of the dividend:
-- int main(void){int x; x = -7; __out(0, x / 2); __out(0, x % 2); return 0;}
abbrev pub cut_toward_zero : ProgramTree
cut_toward_zero = alone (main_with (int ∷ []) []
    (Block ((Scalar 0) ∷ [])
    (both (Do_expr (int_at 22 (Assign (Named (Scalar 0) 22) (int_at 26 (Unary Minus (int_at 27 (Const 7)))))))
    (both (Do_expr (void_at 30 (Out 0 (int_at 39 (Binary op.Div (int_at 39 (Read (Scalar 0))) (int_at 43 (Const 2)))))))
    (both (Do_expr (void_at 47 (Out 0 (int_at 56 (Binary op.Rem (int_at 56 (Read (Scalar 0))) (int_at 60 (Const 2)))))))
    (both (Return (Some (int_at 71 (Const 0))))
    done))))))

cut_toward_zero_is : source_run cut_toward_zero silent 10 ≡ Ended ((0, 65533) ∷ (0, 65535) ∷ []) (ending.Returned 0)
cut_toward_zero_is = refl

-- division and right shift without a sign; a shift has the type of its left operand:
-- int main(void){unsigned a; int n; a = 65535u; n = 3; __out(0, a / 65535u); __out(0, a / 0x8000); __out(0, a % 0x8000); __out(0, 40000u >> n); return 0;}
abbrev pub unsigned_division : ProgramTree
unsigned_division = alone (main_with (unsigned ∷ int ∷ []) []
    (Block ((Scalar 0) ∷ (Scalar 1) ∷ [])
    (both (Do_expr (unsigned_at 34 (Assign (Named (Scalar 0) 34) (unsigned_at 38 (Const 65535)))))
    (both (Do_expr (int_at 46 (Assign (Named (Scalar 1) 46) (int_at 50 (Const 3)))))
    (both (Do_expr (void_at 53 (Out 0 (unsigned_at 62 (Binary op.Div (unsigned_at 62 (Read (Scalar 0))) (unsigned_at 66 (Const 65535)))))))
    (both (Do_expr (void_at 75 (Out 0 (unsigned_at 84 (Binary op.Div (unsigned_at 84 (Read (Scalar 0))) (unsigned_at 88 (Const 32768)))))))
    (both (Do_expr (void_at 97 (Out 0 (unsigned_at 106 (Binary op.Rem (unsigned_at 106 (Read (Scalar 0))) (unsigned_at 110 (Const 32768)))))))
    (both (Do_expr (void_at 119 (Out 0 (unsigned_at 128 (Binary op.Shr (unsigned_at 128 (Const 40000)) (int_at 138 (Read (Scalar 1))))))))
    (both (Return (Some (int_at 149 (Const 0))))
    done)))))))))

unsigned_division_is :
    source_run unsigned_division silent 10 ≡
    Ended ((0, 1) ∷ (0, 1) ∷ (0, 32767) ∷ (0, 5000) ∷ []) (ending.Returned 0)
unsigned_division_is = refl

-- the least int:
-- int main(void){return -32767-1;}
abbrev pub least_int : ProgramTree
least_int = alone (main_with [] []
    (Block []
    (both (Return (Some (int_at 22 (Binary op.Sub (int_at 22 (Unary Minus (int_at 23 (Const 32767)))) (int_at 29 (Const 1))))))
    done)))

least_int_is : source_run least_int silent 10 ≡ Ended [] (ending.Returned 32768)
least_int_is = refl

-- an int divided by an unsigned is divided without a sign:
-- int main(void) {int x; x = -7; x /= 2u; return x;}
abbrev pub unsigned_op : ProgramTree
unsigned_op = alone (main_with (int ∷ []) []
    (Block ((Scalar 0) ∷ [])
    (both (Do_expr (int_at 23 (Assign (Named (Scalar 0) 23) (int_at 27 (Unary Minus (int_at 28 (Const 7)))))))
    (both (Do_expr (int_at 31 (AssignOp op.Div (Named (Scalar 0) 31) (unsigned_at 36 (Const 2)))))
    (both (Return (Some (int_at 47 (Read (Scalar 0)))))
    done)))))

unsigned_op_is : source_run unsigned_op silent 10 ≡ Ended [] (ending.Returned 32764)
unsigned_op_is = refl

-- a right shift of an int copies the sign, a left shift moves the bit pattern:
-- int main(void) {int x; x = -7; __out(0, x >> 1); __out(0, x << 13); __out(0, 65529u >> 1); return 1 << 15;}
abbrev pub shifts : ProgramTree
shifts = alone (main_with (int ∷ []) []
    (Block ((Scalar 0) ∷ [])
    (both (Do_expr (int_at 23 (Assign (Named (Scalar 0) 23) (int_at 27 (Unary Minus (int_at 28 (Const 7)))))))
    (both (Do_expr (void_at 31 (Out 0 (int_at 40 (Binary op.Shr (int_at 40 (Read (Scalar 0))) (int_at 45 (Const 1)))))))
    (both (Do_expr (void_at 49 (Out 0 (int_at 58 (Binary op.Shl (int_at 58 (Read (Scalar 0))) (int_at 63 (Const 13)))))))
    (both (Do_expr (void_at 68 (Out 0 (unsigned_at 77 (Binary op.Shr (unsigned_at 77 (Const 65529)) (int_at 87 (Const 1)))))))
    (both (Return (Some (int_at 98 (Binary op.Shl (int_at 98 (Const 1)) (int_at 103 (Const 15))))))
    done)))))))

shifts_is : source_run shifts silent 10 ≡ Ended ((0, 65532) ∷ (0, 8192) ∷ (0, 32764) ∷ []) (ending.Returned 32768)
shifts_is = refl

-- assignments with an operator shift by the type of their left side:
-- int main(void) {int x; unsigned u; x = -8; u = 1; x >>= u; u <<= 15; __out(0, x); u >>= 3; return u;}
abbrev pub shift_assigned : ProgramTree
shift_assigned = alone (main_with (int ∷ unsigned ∷ []) []
    (Block ((Scalar 0) ∷ (Scalar 1) ∷ [])
    (both (Do_expr (int_at 35 (Assign (Named (Scalar 0) 35) (int_at 39 (Unary Minus (int_at 40 (Const 8)))))))
    (both (Do_expr (unsigned_at 43 (Assign (Named (Scalar 1) 43) (unsigned_at 47 (Convert (int_at 47 (Const 1)))))))
    (both (Do_expr (int_at 50 (AssignOp op.Shr (Named (Scalar 0) 50) (unsigned_at 56 (Read (Scalar 1))))))
    (both (Do_expr (unsigned_at 59 (AssignOp op.Shl (Named (Scalar 1) 59) (int_at 65 (Const 15)))))
    (both (Do_expr (void_at 69 (Out 0 (int_at 78 (Read (Scalar 0))))))
    (both (Do_expr (unsigned_at 82 (AssignOp op.Shr (Named (Scalar 1) 82) (int_at 88 (Const 3)))))
    (both (Return (Some (int_at 98 (Convert (unsigned_at 98 (Read (Scalar 1)))))))
    done)))))))))

shift_assigned_is : source_run shift_assigned silent 10 ≡ Ended ((0, 65532) ∷ []) (ending.Returned 4096)
shift_assigned_is = refl

-- steps and assignments of an unsigned wrap:
-- int main(void) {unsigned u; u = 0; u--; ++u; u -= 2; return u;}
abbrev pub unsigned_steps : ProgramTree
unsigned_steps = alone (main_with (unsigned ∷ []) []
    (Block ((Scalar 0) ∷ [])
    (both (Do_expr (unsigned_at 28 (Assign (Named (Scalar 0) 28) (unsigned_at 32 (Convert (int_at 32 (Const 0)))))))
    (both (Do_expr (unsigned_at 35 (StepAfter false (Named (Scalar 0) 35))))
    (both (Do_expr (unsigned_at 40 (StepBefore true (Named (Scalar 0) 42))))
    (both (Do_expr (unsigned_at 45 (AssignOp op.Sub (Named (Scalar 0) 45) (int_at 50 (Const 2)))))
    (both (Return (Some (int_at 60 (Convert (unsigned_at 60 (Read (Scalar 0)))))))
    done)))))))

unsigned_steps_is : source_run unsigned_steps silent 10 ≡ Ended [] (ending.Returned 65534)
unsigned_steps_is = refl

-- operators on bits, and the negative of an unsigned:
-- int main(void) {__out(0, 12 & 10); __out(0, 12 | 10); __out(0, 12 ^ 10); __out(0, ~0); return -1u;}
abbrev pub bits : ProgramTree
bits = alone (main_with [] []
    (Block []
    (both (Do_expr (void_at 16 (Out 0 (int_at 25 (Binary op.And (int_at 25 (Const 12)) (int_at 30 (Const 10)))))))
    (both (Do_expr (void_at 35 (Out 0 (int_at 44 (Binary op.Or (int_at 44 (Const 12)) (int_at 49 (Const 10)))))))
    (both (Do_expr (void_at 54 (Out 0 (int_at 63 (Binary op.Xor (int_at 63 (Const 12)) (int_at 68 (Const 10)))))))
    (both (Do_expr (void_at 73 (Out 0 (int_at 82 (Unary Complement (int_at 83 (Const 0)))))))
    (both (Return (Some (int_at 94 (Convert (unsigned_at 94 (Unary Minus (unsigned_at 95 (Const 1))))))))
    done)))))))

bits_is : source_run bits silent 10 ≡ Ended ((0, 8) ∷ (0, 14) ∷ (0, 6) ∷ (0, 65535) ∷ []) (ending.Returned 65535)
bits_is = refl

-- a conversion keeps the 16 bits:
-- int main(void) {int x; unsigned u; x = -1; u = x; x = 40000u; __out(0, u); __out(0, x < 0); return x;}
abbrev pub keeps_bits : ProgramTree
keeps_bits = alone (main_with (int ∷ unsigned ∷ []) []
    (Block ((Scalar 0) ∷ (Scalar 1) ∷ [])
    (both (Do_expr (int_at 35 (Assign (Named (Scalar 0) 35) (int_at 39 (Unary Minus (int_at 40 (Const 1)))))))
    (both (Do_expr (unsigned_at 43 (Assign (Named (Scalar 1) 43) (unsigned_at 47 (Convert (int_at 47 (Read (Scalar 0))))))))
    (both (Do_expr (int_at 50 (Assign (Named (Scalar 0) 50) (int_at 54 (Convert (unsigned_at 54 (Const 40000)))))))
    (both (Do_expr (void_at 62 (Out 0 (unsigned_at 71 (Read (Scalar 1))))))
    (both (Do_expr (void_at 75 (Out 0 (int_at 84 (Binary op.Lt (int_at 84 (Read (Scalar 0))) (int_at 88 (Const 0)))))))
    (both (Return (Some (int_at 99 (Read (Scalar 0)))))
    done))))))))

keeps_bits_is : source_run keeps_bits silent 10 ≡ Ended ((0, 65535) ∷ (0, 1) ∷ []) (ending.Returned 40000)
keeps_bits_is = refl

-- sizes are counted in words:
-- int n[3]; int main(void) {int *p; return sizeof n + sizeof p + sizeof(int);}
abbrev sizes_main : FunctionTree
sizes_main = main_with (int_pointer ∷ []) []
    (Block ((Scalar 0) ∷ [])
    (both (Return (Some (int_at 41 (Convert (unsigned_at 41 (Binary op.Add
    (unsigned_at 41 (Binary op.Add (unsigned_at 41 (Const 3)) (unsigned_at 52 (Const 1))))
    (unsigned_at 63 (Const 1))))))))
    done))

abbrev pub sizes : ProgramTree
sizes = program ((object 3 int []) ∷ []) (sizes_main ∷ [])

sizes_is : source_run sizes silent 10 ≡ Ended [] (ending.Returned 5)
sizes_is = refl
