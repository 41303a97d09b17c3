-- A filter as a user has it, over three words of input.
use Rattle.std.specs.Prelude.{true, false, [], ◌∷◌, codes, Some, None}
use Rattle.std.proofs.Common.{◌≡◌, refl}
use Rattle.c_syntax.specs.word_base.declared.outcome.Ending.TheVariants as ending
use Rattle.c_syntax.specs.word_base.declared.outcome.Outcome.TheVariants.{Ended}
use Rattle.c_tree.specs.declared.program.VarRef.TheVariants.{Scalar, Static}
use Rattle.c_syntax.specs.declared.operator.BinaryOp.TheVariants as op
use Rattle.c_tree.specs.TypedTree.{Named, At, Const, Read, AddressOf, Load, Binary, Assign, AssignOp, StepAfter, Call, In, Out, none, more, Block, Do_expr, For, Return, done, both, FunctionTree, ProgramTree}
use Rattle.c_tree.specs.SourceRun.{source_run}
use Rattle.c_tree.proofs.Examples.Types.{int, int_pointer, int_at, pointer_at, void_at, words, object, function, main_with, program, on_port_0}

-- a filter of 16 coefficients, with the last 16 words; each line ends with a line feed, and is indented as here:
-- int h[16] = {1,2,3,4,5,6,7,8,8,7,6,5,4,3,2,1};
-- int x[16];
-- int fir(int s) {
--     int acc; int i; int *p;
--     for (i = 15; i > 0; i--) x[i] = x[i - 1];
--     x[0] = s;
--     acc = 0; p = h;
--     for (i = 0; i < 16; i++) acc += x[i] * *p++;
--     return acc >> 2;
-- }
-- int main(void) { for (;;) __out(1, fir(__in(0))); return 0; }
abbrev pub fir_filter_fir : FunctionTree
fir_filter_fir = function (codes "fir") (Some int) ((Scalar 0) ∷ []) (int ∷ int ∷ int ∷ int_pointer ∷ []) []
    (Block ((Scalar 1) ∷ (Scalar 2) ∷ (Scalar 3) ∷ [])
    (both (For
    (Some (int_at 112 (Assign (Named (Scalar 2) 112) (int_at 116 (Const 15)))))
    (Some (int_at 120 (Binary op.Gt (int_at 120 (Read (Scalar 2))) (int_at 124 (Const 0)))))
    (Some (int_at 127 (StepAfter false (Named (Scalar 2) 127))))
    (Do_expr (int_at 132 (Assign (At (pointer_at 132 (Binary op.Add (pointer_at 132 (AddressOf (Static 1))) (int_at 134 (Read (Scalar 2))))) 132)
    (int_at 139 (Load (pointer_at 139 (Binary op.Add (pointer_at 139 (AddressOf (Static 1)))
    (int_at 141 (Binary op.Sub (int_at 141 (Read (Scalar 2))) (int_at 145 (Const 1))))))))))))
    (both (Do_expr (int_at 153 (Assign (At (pointer_at 153 (Binary op.Add (pointer_at 153 (AddressOf (Static 1))) (int_at 155 (Const 0)))) 153)
    (int_at 160 (Read (Scalar 0))))))
    (both (Do_expr (int_at 167 (Assign (Named (Scalar 1) 167) (int_at 173 (Const 0)))))
    (both (Do_expr (pointer_at 176 (Assign (Named (Scalar 3) 176) (pointer_at 180 (AddressOf (Static 0))))))
    (both (For
    (Some (int_at 192 (Assign (Named (Scalar 2) 192) (int_at 196 (Const 0)))))
    (Some (int_at 199 (Binary op.Lt (int_at 199 (Read (Scalar 2))) (int_at 203 (Const 16)))))
    (Some (int_at 207 (StepAfter true (Named (Scalar 2) 207))))
    (Do_expr (int_at 212 (AssignOp op.Add (Named (Scalar 1) 212)
    (int_at 219 (Binary op.Mul
    (int_at 219 (Load (pointer_at 219 (Binary op.Add (pointer_at 219 (AddressOf (Static 1))) (int_at 221 (Read (Scalar 2)))))))
    (int_at 226 (Load (pointer_at 227 (StepAfter true (Named (Scalar 3) 227)))))))))))
    (both (Return (Some (int_at 243 (Binary op.Shr (int_at 243 (Read (Scalar 1))) (int_at 250 (Const 2))))))
    done)))))))

abbrev fir_filter_main : FunctionTree
fir_filter_main = main_with [] []
    (Block []
    (both (For None None None (Do_expr (void_at 281 (Out 1 (int_at 290 (Call 0 (more (int_at 294 (In 0)) none)))))))
    (both (Return (Some (int_at 312 (Const 0))))
    done)))

abbrev pub fir_filter : ProgramTree
fir_filter = program
    ((object 16 int (words (1 ∷ 2 ∷ 3 ∷ 4 ∷ 5 ∷ 6 ∷ 7 ∷ 8 ∷ 8 ∷ 7 ∷ 6 ∷ 5 ∷ 4 ∷ 3 ∷ 2 ∷ 1 ∷ []))) ∷ (object 16 int []) ∷ [])
    (fir_filter_fir ∷ fir_filter_main ∷ [])

fir_filter_is :
    source_run fir_filter (on_port_0 (8 ∷ 65532 ∷ 0 ∷ [])) 16 ≡
    Ended ((1, 2) ∷ (1, 3) ∷ (1, 4) ∷ []) (ending.InputEnded 0)
fir_filter_is = refl
