-- Trees that are not well formed, each beside one that is, from which it differs in one thing. Above a pair stand what it shows
-- and, behind a colon, the source of the good tree, with its places, and below it that of the bad one, where there is one.
-- Expressions stand within the block of main in `doubles` that declares x, and statements outside its blocks:
-- int k[2] = {7, 1}; int *e = k + 2; int twice(int n) {return n + n;} int main(void) {int m[2] = {3}; {int x; x = twice(m[0]); __out(0, x);} return 0;}
use Rattle.std.specs.Prelude.{◌≡◌, ◌<◌, ℕ, zero, suc, codes, List, [], ◌∷◌, length, slice_index_or, option_map, Some, None}
use Rattle.std.proofs.Common.{refl, ap, arith}
use Rattle.c_tree.specs.declared.enclosing.Enclosing.TheVariants as around
use Rattle.c_tree.specs.declared.program.VarRef.{VarRef}
use Rattle.c_tree.specs.declared.program.VarRef.TheVariants.{Scalar, Local, Static}
use Rattle.c_tree.specs.declared.program.Initial.TheVariants as initial
use Rattle.c_syntax.specs.declared.operator.BinaryOp.{BinaryOp}
use Rattle.c_syntax.specs.declared.operator.BinaryOp.TheVariants as op
use Rattle.c_tree.specs.TypedTree.{Kind, Expr, Node, Exprs, Stmt, Choices, Named, Const, Read, AddressOf, Binary, Assign, AssignOp, Call, Out, none, more, Block, Fill, Do_expr, While, Switch, Break, Continue, Return, done, both, no_more, case, default, body, ObjectTree, FunctionTree, ProgramTree}
use Rattle.c_tree.specs.Store.{is_pointer}
use Rattle.c_tree.specs.Kinds.{IsInteger, IsPointer}
use Rattle.c_tree.specs.WellFormed.{Shape, Names, IsWellTyped, IsWellFormed, Takes, Updates, Calculates, Shifts, Compares, Moves, Moves_right, Subtracts, Updates_word, Updates_pointer, is_comparison, moves, opened}
use Rattle.c_tree.specs.WellFormedProgram.{IsProgram, IsObject, IsMain, object_in, names_within}
use Rattle.c_tree.proofs.Examples.Types.{int, int_pointer, int_at, pointer_at, void_at, words, object, function, program}
use Rattle.c_tree.proofs.Examples.WellFormed.{parts, doubles_main, doubles}

-- a statement and an expression there
abbrev IsStatement : Stmt → Type 0
IsStatement s = IsWellFormed (object_in doubles doubles_main) (Some int) (names_within doubles doubles_main) around.Body s

abbrev within : Names
within = opened (object_in doubles doubles_main) ((Local 0) ∷ (Scalar 0) ∷ []) (names_within doubles doubles_main)

abbrev IsExpression : Expr → Type 0
IsExpression e = IsWellTyped within e

-- a name is read within the block that declares it, and not behind it:
-- {int x; x = 1; return x;}
-- {int x; x = 1;} return x;
abbrev sets_x : Stmt
sets_x = Do_expr (int_at 8 (Assign (Named (Scalar 0) 8) (int_at 12 (Const 1))))

abbrev gives_x : Stmt
gives_x = Return (Some (int_at 22 (Read (Scalar 0))))

read_within : IsStatement (Block ((Scalar 0) ∷ []) (both sets_x (both gives_x done)))
read_within = search parts

read_behind : ¬ IsStatement (Block [] (both (Block ((Scalar 0) ∷ []) (both sets_x done)) (both gives_x done)))
read_behind = λ h. cc h.1.1.0.0.0.1

-- a block declares no object that a block around it declares, as if the inner x below were the outer one:
-- {int x; {int m[2];}}
-- {int x; {int x;}}
abbrev nested : VarRef → Stmt
nested v = Block ((Scalar 0) ∷ []) (both (Block (v ∷ []) done) done)

other_object : IsStatement (nested (Local 0))
other_object = search parts

same_object : ¬ IsStatement (nested (Scalar 0))
same_object = λ h. cc (h.1.0.0.each 0 (Scalar 0) (omega arith)).new

-- an array is filled within the block that declares it, and not outside:
-- {int m[2] = {3};}
abbrev filled : List VarRef → Stmt
filled declared = Block declared (both (Fill 0) done)

filled_within : IsStatement (filled ((Local 0) ∷ []))
filled_within = search parts

filled_outside : ¬ IsStatement (filled [])
filled_outside = λ h. h.1.0.lives

-- an array has an address, and a frame scalar has none:
-- m
-- &x
abbrev address : VarRef → Expr
address v = pointer_at 0 (AddressOf v)

address_of_array : IsExpression (address (Local 0))
address_of_array = search parts

address_of_scalar : ¬ IsExpression (address (Scalar 0))
address_of_scalar = λ h. h.1.0

-- an int goes to an int, and to no pointer, whatever the type of the assignment:
-- x = 1
-- e = 1
abbrev assigned : VarRef → Kind → Expr
assigned v kind = Node (Assign (Named v 0) (int_at 4 (Const 1))) kind 0

int_to_int : IsExpression (assigned (Scalar 0) (Some int))
int_to_int = search parts

int_to_pointer : (kind : Kind) → ¬ IsExpression (assigned (Static 1) kind)
int_to_pointer None h = h.1.0
int_to_pointer (Some kind) h = cc (ap (option_map (λ (o : Shape). is_pointer o.kind)) h.1.0, h.1.2)

-- an int is added to a pointer, and no pointer is:
-- e + 1
-- e + e
abbrev reads_e : Expr
reads_e = pointer_at 0 (Read (Static 1))

abbrev added : Expr → Kind → Expr
added right kind = Node (Binary op.Add reads_e right) kind 0

int_added : IsExpression (added (int_at 4 (Const 1)) (Some int_pointer))
int_added = search parts

-- no type is an integer's and a pointer's, so no rule of operators adds two pointers
not_both : (k : Kind) → IsInteger k → IsPointer k → ⊥
not_both None integer pointer = integer
not_both (Some kind) integer pointer = cc (integer, pointer)

no_sum : {o : BinaryOp} {a b c : Kind} → Takes o a b c → o ≡ op.Add → IsPointer a → IsPointer b → ⊥
no_sum (Calculates compares shifts integer) is left right = not_both _ integer left
no_sum (Shifts shifts integer count) is left right = not_both _ integer left
no_sum (Compares {o = o} compares value) is left right = cc (ap is_comparison is, compares)
no_sum (Moves moves pointer integer) is left right = not_both _ integer right
no_sum (Moves_right integer pointer) is left right = not_both _ integer left
no_sum (Subtracts pointer) is left right = cc is

pointer_added : (kind : Kind) → ¬ IsExpression (added reads_e kind)
pointer_added kind h = no_sum h.1.2 refl refl refl

-- the operator of an assignment is no comparison:
-- x += 1
abbrev updated : BinaryOp → Kind → Expr
updated o kind = Node (AssignOp o (Named (Scalar 0) 0) (int_at 5 (Const 1))) kind 0

updated_by_sum : IsExpression (updated op.Add (Some int))
updated_by_sum = search parts

no_comparison : {o : BinaryOp} {k l : Kind} → Updates o k l → o ≡ op.Le → ⊥
no_comparison (Updates_word calculates k l) is = cc (ap is_comparison is, calculates)
no_comparison (Updates_pointer moved k l) is = cc (ap moves is, moved)

updated_by_comparison : (kind : Kind) → ¬ IsExpression (updated op.Le kind)
updated_by_comparison kind h = no_comparison h.1.2 refl

-- there are 16 ports:
-- __out(15, 1)
-- __out(16, 1)
abbrev out_to : ℕ → Expr
out_to port = void_at 0 (Out port (int_at 10 (Const 1)))

port_15 : IsExpression (out_to 15)
port_15 = search parts

port_16 : ¬ IsExpression (out_to 16)
port_16 = λ h. omega (arith, h.1.2)

-- a call has a value for each parameter:
-- twice(1)
-- twice()
abbrev call_with : Exprs → Expr
call_with es = int_at 0 (Call 0 es)

one_argument : IsExpression (call_with (more (int_at 6 (Const 1)) none))
one_argument = search parts

no_argument : ¬ IsExpression (call_with none)
no_argument = λ h. cc h.1.1.0

-- a function of type int returns a value:
-- return 1;
-- return;
return_value : IsStatement (Return (Some (int_at 7 (Const 1))))
return_value = search parts

return_none : ¬ IsStatement (Return None)
return_none = λ h. cc h

-- a break leaves a loop or a switch:
-- while (1) break;
-- break;
break_in_loop : IsStatement (While (int_at 7 (Const 1)) Break)
break_in_loop = search parts

break_alone : ¬ IsStatement Break
break_alone = λ h. cc h

-- a continue goes on with a loop, also from within a switch:
-- while (1) switch (1) {default: continue;}
-- switch (1) {default: continue;}
abbrev continues : Stmt
continues = Switch (int_at 18 (Const 1)) (default (body Continue no_more))

continue_in_loop : IsStatement (While (int_at 7 (Const 1)) continues)
continue_in_loop = search parts

continue_in_switch : ¬ IsStatement continues
continue_in_switch = λ h. cc h.3.0

-- a switch has one default:
-- switch (1) {case 2: default: break;}
-- switch (1) {default: default: break;}
abbrev labelled : (Choices → Choices) → Stmt
labelled first = Switch (int_at 8 (Const 1)) (first (default (body Break no_more)))

one_default : IsStatement (labelled (case 2))
one_default = search parts

two_defaults : ¬ IsStatement (labelled default)
two_defaults = λ h. cc h.2

-- a constant where a pointer is wanted is null:
-- 0
-- 1
abbrev pointer_constant : ℕ → Expr
pointer_constant w = pointer_at 0 (Const w)

null : IsExpression (pointer_constant 0)
null = search parts

not_null : ¬ IsExpression (pointer_constant 1)
not_null = λ h. omega (arith, h.1 refl)

-- a list is no longer than its object:
-- int k[2] = {7, 1};
-- int k[2] = {7, 1, 1};
list_of_two : IsObject doubles (object 2 int (words (7 ∷ 1 ∷ [])))
list_of_two = search parts

list_of_three : ¬ IsObject doubles (object 2 int (words (7 ∷ 1 ∷ 1 ∷ [])))
list_of_three = λ h. omega (arith, h.within)

-- an address is that of a cell, or of the place behind the last:
-- int *e = k + 2;
-- int *e = k + 3;
abbrev starts_at : ℕ → ObjectTree
starts_at i = object 1 int_pointer ((initial.Address 0 i) ∷ [])

at_end : IsObject doubles (starts_at 2)
at_end = search parts

behind_end : ¬ IsObject doubles (starts_at 3)
behind_end = λ h. omega (arith, (h.starts 0 (initial.Address 0 3) (omega arith)).0)

-- a program has a main:
-- int f(void) {return 0;}
abbrev gives_0 : List ℕ → ℕ → FunctionTree
gives_0 name place = function name (Some int) [] [] [] (Block [] (both (Return (Some (int_at place (Const 0)))) done))

abbrev no_main : ProgramTree
no_main = program [] ((gives_0 (codes "f") 20) ∷ [])

not_main : (k : ℕ) (g : FunctionTree) → k < 1 → slice_index_or no_main.functions k g ≡ g → ¬ IsMain g
not_main zero g less is h = omega (arith, ap (λ x. length x.name) is, ap length h.name)
not_main (suc k) g less is h = omega (arith, less)

no_main_is : ¬ IsProgram no_main
no_main_is = λ h. not_main h.main.0 h.main.1 h.main.2 h.main.3 h.main.4

-- no function reaches itself by calls:
-- int f(int n) {return f(n);} int main(void) {return 0;}
abbrev calls_itself_f : FunctionTree
calls_itself_f = function (codes "f") (Some int) ((Scalar 0) ∷ []) (int ∷ []) []
    (Block []
    (both (Return (Some (int_at 21 (Call 0 (more (int_at 23 (Read (Scalar 0))) none)))))
    done))

abbrev calls_itself : ProgramTree
calls_itself = program [] (calls_itself_f ∷ (gives_0 (codes "main") 51) ∷ [])

calls_itself_is : ¬ IsProgram calls_itself
calls_itself_is = λ h. h.no_cycle 0 (0 ∷ []) (omega arith, ((0 ∷ [], refl, (0, omega arith, refl)), refl))

-- no two functions have one name:
-- int main(void) {return 0;} int main(void) {return 0;}
abbrev one_name : ProgramTree
one_name = program [] ((gives_0 (codes "main") 23) ∷ (gives_0 (codes "main") 50) ∷ [])

one_name_is : ¬ IsProgram one_name
one_name_is = λ h. h.differ 0 1 [] (omega arith) (omega arith) refl
