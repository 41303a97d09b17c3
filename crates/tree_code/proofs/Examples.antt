-- Small programs with their word trees, which were written by hand. Behind a colon stands the C source of each.
use Rattle.std.specs.Prelude.{◌≡◌, ℕ, false, [], ◌∷◌, Some}
use Rattle.std.proofs.Common.{refl}
use Rattle.c_tree.specs.c_syntax.declared.operator.BinaryOp.{BinaryOp}
use Rattle.c_tree.specs.c_syntax.declared.operator.BinaryOp.TheVariants as op
use Rattle.c_tree.specs.c_syntax.declared.operator.UnaryOp.TheVariants.{Minus, Plus}
use Rattle.c_tree.specs.declared.program.ScalarType.{ScalarType}
use Rattle.c_tree.specs.declared.program.VarRef.TheVariants.{Scalar, Local}
use Rattle.c_tree.specs.SourceRun.{main_name}
use Rattle.c_tree.specs.TypedTree as tree
use Rattle.c_tree.specs.TypedTree.{ProgramTree}
use Rattle.c_tree.proofs.Examples.Types.{int, unsigned, int_pointer, int_at, unsigned_at, pointer_at, void_at, words, object, main_with, program}
use Rattle.tree_code.specs.declared.operator.WordOp.{WordOp}
use Rattle.tree_code.specs.declared.operator.WordOp.TheVariants as operation
use Rattle.tree_code.specs.Lowered.{lowered, lowered_program}
use Rattle.tree_code.specs.ByteCount.{in_byte}
use Rattle.tree_code.specs.WordTemporaries.{word_temporaries}
use Rattle.tree_code.specs.WordTree as word
use Rattle.tree_code.specs.WordTree.{Node, ProgramCode}

-- an operator between two names, in the source and in words
abbrev between : BinaryOp → ScalarType → ScalarType → word.ExprCode
between o k l = lowered (tree.Node (tree.Binary o (tree.Node (tree.Read (Scalar 0)) (Some k) 0) (tree.Node (tree.Read (Scalar 1)) (Some l) 4)) (Some int) 0)

abbrev of_words : WordOp → word.ExprCode
of_words o = Node (word.Binary o (Node (word.Read (Scalar 0)) 0) (Node (word.Read (Scalar 1)) 4)) 0

-- two ints
ints_Add : between op.Add int int ≡ of_words operation.Add
ints_Add = refl

ints_Sub : between op.Sub int int ≡ of_words operation.Sub
ints_Sub = refl

ints_Mul : between op.Mul int int ≡ of_words operation.Mul
ints_Mul = refl

ints_Div : between op.Div int int ≡ of_words operation.DivInt
ints_Div = refl

ints_Rem : between op.Rem int int ≡ of_words operation.RemInt
ints_Rem = refl

ints_And : between op.And int int ≡ of_words operation.And
ints_And = refl

ints_Or : between op.Or int int ≡ of_words operation.Or
ints_Or = refl

ints_Xor : between op.Xor int int ≡ of_words operation.Xor
ints_Xor = refl

ints_Shl : between op.Shl int int ≡ of_words operation.Shl
ints_Shl = refl

ints_Shr : between op.Shr int int ≡ of_words operation.ShrInt
ints_Shr = refl

ints_Eq : between op.Eq int int ≡ of_words operation.Eq
ints_Eq = refl

ints_Ne : between op.Ne int int ≡ of_words operation.Ne
ints_Ne = refl

ints_Lt : between op.Lt int int ≡ of_words operation.LtInt
ints_Lt = refl

ints_Gt : between op.Gt int int ≡ of_words operation.GtInt
ints_Gt = refl

ints_Le : between op.Le int int ≡ of_words operation.LeInt
ints_Le = refl

ints_Ge : between op.Ge int int ≡ of_words operation.GeInt
ints_Ge = refl

-- two unsigned words
unsigned_words_Add : between op.Add unsigned unsigned ≡ of_words operation.Add
unsigned_words_Add = refl

unsigned_words_Sub : between op.Sub unsigned unsigned ≡ of_words operation.Sub
unsigned_words_Sub = refl

unsigned_words_Mul : between op.Mul unsigned unsigned ≡ of_words operation.Mul
unsigned_words_Mul = refl

unsigned_words_Div : between op.Div unsigned unsigned ≡ of_words operation.DivUnsigned
unsigned_words_Div = refl

unsigned_words_Rem : between op.Rem unsigned unsigned ≡ of_words operation.RemUnsigned
unsigned_words_Rem = refl

unsigned_words_And : between op.And unsigned unsigned ≡ of_words operation.And
unsigned_words_And = refl

unsigned_words_Or : between op.Or unsigned unsigned ≡ of_words operation.Or
unsigned_words_Or = refl

unsigned_words_Xor : between op.Xor unsigned unsigned ≡ of_words operation.Xor
unsigned_words_Xor = refl

unsigned_words_Shl : between op.Shl unsigned unsigned ≡ of_words operation.Shl
unsigned_words_Shl = refl

unsigned_words_Shr : between op.Shr unsigned unsigned ≡ of_words operation.ShrUnsigned
unsigned_words_Shr = refl

unsigned_words_Eq : between op.Eq unsigned unsigned ≡ of_words operation.Eq
unsigned_words_Eq = refl

unsigned_words_Ne : between op.Ne unsigned unsigned ≡ of_words operation.Ne
unsigned_words_Ne = refl

unsigned_words_Lt : between op.Lt unsigned unsigned ≡ of_words operation.LtUnsigned
unsigned_words_Lt = refl

unsigned_words_Gt : between op.Gt unsigned unsigned ≡ of_words operation.GtUnsigned
unsigned_words_Gt = refl

unsigned_words_Le : between op.Le unsigned unsigned ≡ of_words operation.LeUnsigned
unsigned_words_Le = refl

unsigned_words_Ge : between op.Ge unsigned unsigned ≡ of_words operation.GeUnsigned
unsigned_words_Ge = refl

-- an int and an unsigned word: a shift is chosen by what is shifted
mixed_less : between op.Lt int unsigned ≡ of_words operation.LtUnsigned
mixed_less = refl

mixed_quotient : between op.Div unsigned int ≡ of_words operation.DivUnsigned
mixed_quotient = refl

int_shifted : between op.Shr int unsigned ≡ of_words operation.ShrInt
int_shifted = refl

unsigned_shifted : between op.Shr unsigned int ≡ of_words operation.ShrUnsigned
unsigned_shifted = refl

-- two pointers are ordered as words without a sign
pointers_Lt : between op.Lt int_pointer int_pointer ≡ of_words operation.LtUnsigned
pointers_Lt = refl

pointers_Gt : between op.Gt int_pointer int_pointer ≡ of_words operation.GtUnsigned
pointers_Gt = refl

pointers_Le : between op.Le int_pointer int_pointer ≡ of_words operation.LeUnsigned
pointers_Le = refl

pointers_Ge : between op.Ge int_pointer int_pointer ≡ of_words operation.GeUnsigned
pointers_Ge = refl

pointers_equal : between op.Eq int_pointer int_pointer ≡ of_words operation.Eq
pointers_equal = refl

-- an index moves a pointer by as many words: p + i
pointer_moved : between op.Add int_pointer int ≡ of_words operation.Add
pointer_moved = refl

-- i /= u divides without a sign, and i >>= u shifts an int: each by the types of both before conversion
quotient_assigned : lowered (int_at 0 (tree.AssignOp op.Div (tree.Named (Scalar 0) 0) (unsigned_at 5 (tree.Read (Scalar 1)))))
    ≡ Node (word.AssignOp operation.DivUnsigned (word.Named (Scalar 0) 0) (Node (word.Read (Scalar 1)) 5)) 0
quotient_assigned = refl

shift_assigned : lowered (int_at 0 (tree.AssignOp op.Shr (tree.Named (Scalar 0) 0) (unsigned_at 6 (tree.Read (Scalar 1)))))
    ≡ Node (word.AssignOp operation.ShrInt (word.Named (Scalar 0) 0) (Node (word.Read (Scalar 1)) 6)) 0
shift_assigned = refl

-- a conversion is gone: (unsigned)x + 1u
conversion_gone : lowered (unsigned_at 0 (tree.Binary op.Add (unsigned_at 0 (tree.Convert (int_at 10 (tree.Read (Scalar 0))))) (unsigned_at 14 (tree.Const 1))))
    ≡ Node (word.Binary operation.Add (Node (word.Read (Scalar 0)) 10) (Node (word.Const 1) 14)) 0
conversion_gone = refl

-- a minus on a constant, and on a converted one: -5 and -(unsigned)5
minus_constant : lowered (int_at 0 (tree.Unary Minus (int_at 1 (tree.Const 5)))) ≡ Node (word.Unary Minus (Node (word.Const 5) 1)) 0
minus_constant = refl

minus_converted : lowered (unsigned_at 0 (tree.Unary Minus (unsigned_at 1 (tree.Convert (int_at 11 (tree.Const 5))))))
    ≡ Node (word.Unary Minus (Node (word.Unary Plus (Node (word.Const 5) 11)) 11)) 0
minus_converted = refl

-- counts in a byte
few_counted : in_byte 64 ≡ 64
few_counted = refl

most_counted : in_byte 255 ≡ 255
most_counted = refl

many_counted : in_byte 256 ≡ 255
many_counted = refl

-- temporaries of words: (x + 1) * (x + 2) keeps its left operand, x * (x + 2) keeps x, and 3 * (x + 2) keeps nothing
abbrev read_x : word.ExprCode
read_x = Node (word.Read (Scalar 0)) 0

abbrev sum_with : ℕ → word.ExprCode
sum_with n = Node (word.Binary operation.Add read_x (Node (word.Const n) 4)) 0

abbrev product : word.ExprCode → word.ExprCode → word.ExprCode
product a b = Node (word.Binary operation.Mul a b) 0

sums_multiplied : word_temporaries (product (sum_with 1) (sum_with 2)) ≡ 1
sums_multiplied = refl

name_multiplied : word_temporaries (product read_x (sum_with 2)) ≡ 1
name_multiplied = refl

constant_multiplied : word_temporaries (product (Node (word.Const 3) 0) (sum_with 2)) ≡ 0
constant_multiplied = refl

sum_multiplied : word_temporaries (product (sum_with 2) read_x) ≡ 0
sum_multiplied = refl

-- *p = x + 1 keeps the address, and *p += x + 1 the address and what was there
stored : word_temporaries (Node (word.Assign (word.At read_x 0) (sum_with 1)) 0) ≡ 1
stored = refl

updated : word_temporaries (Node (word.AssignOp operation.Add (word.At read_x 0) (sum_with 1)) 0) ≡ 2
updated = refl

-- f(x, x + 1, x + 2): two arguments are kept while the last is evaluated
called : word_temporaries (Node (word.Call 0 (word.more read_x (word.more (sum_with 1) (word.more (sum_with 2) word.none)))) 0) ≡ 2
called = refl

-- f(1, (x + 1) * (x + 2)): one is kept, and one more in the product
called_with_product : word_temporaries (Node (word.Call 0 (word.more (Node (word.Const 1) 0) (word.more (product (sum_with 1) (sum_with 2)) word.none))) 0) ≡ 2
called_with_product = refl

-- an array with an initialiser, a loop, and a switch that is fallen into. The product keeps its left operand in a temporary:
-- int main(void) {int n[3] = {4, 1}; int x; x = __in(0); while (x) x--; switch (x) {case 1: __out(0, n[x]); break; default: x = (x + 1) * (x + 2);} return x;}
abbrev choices : ProgramTree
choices = program [] (main_with (int ∷ []) (object 3 int (words (4 ∷ 1 ∷ [])) ∷ [])
    (tree.Block (Local 0 ∷ Scalar 0 ∷ [])
    (tree.both (tree.Fill 0)
    (tree.both (tree.Do_expr (int_at 44 (tree.Assign (tree.Named (Scalar 0) 44) (int_at 48 (tree.In 0)))))
    (tree.both (tree.While (int_at 64 (tree.Read (Scalar 0))) (tree.Do_expr (int_at 67 (tree.StepAfter false (tree.Named (Scalar 0) 67)))))
    (tree.both (tree.Switch (int_at 80 (tree.Read (Scalar 0)))
    (tree.case 1
    (tree.body (tree.Do_expr (void_at 92 (tree.Out 0 (int_at 101 (tree.Load (pointer_at 101 (tree.Binary op.Add (pointer_at 101 (tree.AddressOf (Local 0))) (int_at 103 (tree.Read (Scalar 0))))))))))
    (tree.body tree.Break
    (tree.default
    (tree.body (tree.Do_expr (int_at 124 (tree.Assign (tree.Named (Scalar 0) 124)
    (int_at 128 (tree.Binary op.Mul (int_at 128 (tree.Binary op.Add (int_at 129 (tree.Read (Scalar 0))) (int_at 133 (tree.Const 1))))
    (int_at 138 (tree.Binary op.Add (int_at 139 (tree.Read (Scalar 0))) (int_at 143 (tree.Const 2)))))))))
    tree.no_more))))))
    (tree.both (tree.Return (Some (int_at 155 (tree.Read (Scalar 0)))))
    tree.done)))))) ∷ [])

abbrev choices_in_words : ProgramCode
choices_in_words = record {
  statics = [];
  functions = record {
    name = main_name;
    scalars = 2;
    params = [];
    locals = object 3 int (words (4 ∷ 1 ∷ [])) ∷ [];
    body = word.Block (Local 0 ∷ Scalar 0 ∷ [])
        (word.both (word.Fill 0)
        (word.both (word.Do_expr (Node (word.Assign (word.Named (Scalar 0) 44) (Node (word.In 0) 48)) 44))
        (word.both (word.While (Node (word.Read (Scalar 0)) 64) (word.Do_expr (Node (word.StepAfter false (word.Named (Scalar 0) 67)) 67)))
        (word.both (word.Switch (Node (word.Read (Scalar 0)) 80)
        (word.case 1
        (word.body (word.Do_expr (Node (word.Out 0 (Node (word.Load (Node (word.Binary operation.Add (Node (word.AddressOf (Local 0)) 101) (Node (word.Read (Scalar 0)) 103)) 101)) 101)) 92))
        (word.body word.Break
        (word.default
        (word.body (word.Do_expr (Node (word.Assign (word.Named (Scalar 0) 124)
        (Node (word.Binary operation.Mul (Node (word.Binary operation.Add (Node (word.Read (Scalar 0)) 129) (Node (word.Const 1) 133)) 128)
        (Node (word.Binary operation.Add (Node (word.Read (Scalar 0)) 139) (Node (word.Const 2) 143)) 138)) 128)) 124))
        word.no_more))))))
        (word.both (word.Return (Some (Node (word.Read (Scalar 0)) 155)))
        word.done)))));
  } ∷ [];
}

choices_lowered : lowered_program choices ≡ choices_in_words
choices_lowered = refl
