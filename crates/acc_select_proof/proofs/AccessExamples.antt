-- The accesses of each form, and those of a filter, decided by hand. Scalars 0 to 3 are x, y, p and i, and temporaries begin at 10.
use Rattle.std.proofs.Common.{◌≡◌, refl, ℕ, true, false, List, [], ◌∷◌, Some, None}
use Rattle.c_syntax.specs.declared.operator.UnaryOp.TheVariants.{Minus}
use Rattle.c_syntax.specs.declared.operator.BinaryOp.{BinaryOp}
use Rattle.c_syntax.specs.declared.operator.BinaryOp.TheVariants as op
use Rattle.c_tree.specs.declared.program.VarRef.{VarRef}
use Rattle.c_tree.specs.declared.program.VarRef.TheVariants.{Scalar, Static}
use Rattle.c_tree.specs.TypedTree.{Expr, Node, Lvalue, Named, At, Const, Read, AddressOf, Load, Unary, Binary, And, Not, Pick, Assign, AssignOp, StepBefore, StepAfter, Call, In, Out, Comma, Convert, Exprs, none, more, Stmt, Block, Fill, Do_expr, If, While, Do_while, For, Switch, Return, done, both, no_more, case, default, body}
use Rattle.acc_code.specs.AccSequence.{cut}
use Rattle.acc_select_proof.specs.SourceAccesses.{listed, statement_accesses}

abbrev name : VarRef → Expr
name v = Node (Read v) None 0

abbrev x : Expr
x = name (Scalar 0)

abbrev y : Expr
y = name (Scalar 1)

abbrev p : Expr
p = name (Scalar 2)

abbrev i : Expr
i = name (Scalar 3)

abbrev other : Expr
other = name (Static 0)

abbrev one : Expr
one = Node (Const 1) None 0

abbrev two_of : BinaryOp → Expr → Expr → Expr
two_of o a b = Node (Binary o a b) None 0

abbrev at : Expr → Lvalue
at e = At e 0

abbrev to : ℕ → Lvalue
to n = Named (Scalar n) 0

abbrev set : Lvalue → Expr → Expr
set l e = Node (Assign l e) None 0

abbrev update : BinaryOp → Lvalue → Expr → Expr
update o l e = Node (AssignOp o l e) None 0

abbrev call : Exprs → Expr
call es = Node (Call 0 es) None 0

abbrev value : Expr → List (List ℕ)
value e = (listed e 10).value (cut (λ open_block. [])) []

-- behind it y is added, so that a cut behind it shows
abbrev plus_y : Expr → List (List ℕ)
plus_y e = value (two_of op.Add e y)

names_and_constants : (value one ≡ []) × (value other ≡ []) × (value (Node (AddressOf (Static 0)) None 0) ≡ []) × (value (Node (In 0) None 0) ≡ []) × (value x ≡ (0 ∷ []) ∷ [])
names_and_constants = (refl, refl, refl, refl, refl)

one_operand : (value (Node (Unary Minus x) None 0) ≡ (0 ∷ []) ∷ []) × (value (Node (Convert x) None 0) ≡ (0 ∷ []) ∷ []) × (value (Node (Load p) None 0) ≡ (2 ∷ []) ∷ []) × (value (Node (Load (two_of op.Add p i)) None 0) ≡ (2 ∷ 3 ∷ []) ∷ [])
one_operand = (refl, refl, refl, refl)

two_operands : (plus_y x ≡ (0 ∷ 1 ∷ []) ∷ []) × (value (two_of op.Add x one) ≡ (0 ∷ []) ∷ []) × (value (two_of op.Add one (two_of op.Sub x y)) ≡ (0 ∷ 1 ∷ []) ∷ [])
    × (value (two_of op.Add (two_of op.Add x y) (two_of op.Sub x y)) ≡ (0 ∷ 1 ∷ 10 ∷ 0 ∷ 1 ∷ 10 ∷ []) ∷ [])
two_operands = (refl, refl, refl, refl)

routines : (plus_y (two_of op.Div x y) ≡ (0 ∷ 1 ∷ []) ∷ (1 ∷ []) ∷ []) × (plus_y (two_of op.Rem x one) ≡ (0 ∷ []) ∷ (1 ∷ []) ∷ []) × (plus_y (two_of op.Shr x y) ≡ (0 ∷ 1 ∷ []) ∷ (1 ∷ []) ∷ [])
    × (plus_y (two_of op.Shr x one) ≡ (0 ∷ 1 ∷ []) ∷ [])
routines = (refl, refl, refl, refl)

truths : (plus_y (two_of op.Lt x y) ≡ (0 ∷ 1 ∷ []) ∷ (1 ∷ []) ∷ []) × (plus_y (Node (And x y) None 0) ≡ (0 ∷ []) ∷ (1 ∷ []) ∷ (1 ∷ []) ∷ []) × (plus_y (Node (Not x) None 0) ≡ (0 ∷ []) ∷ (1 ∷ []) ∷ [])
    × (value (Node (Pick x y x) None 0) ≡ (0 ∷ []) ∷ (1 ∷ []) ∷ (0 ∷ []) ∷ [])
truths = (refl, refl, refl, refl)

stores_to_names : (value (set (to 0) y) ≡ (1 ∷ 0 ∷ []) ∷ []) × (value (set (Named (Static 0) 0) y) ≡ (1 ∷ []) ∷ []) × (value (update op.Add (to 0) y) ≡ (0 ∷ 1 ∷ 0 ∷ []) ∷ [])
    × (value (update op.Add (Named (Static 0) 0) y) ≡ (1 ∷ []) ∷ []) × (value (update op.Add (to 0) (two_of op.Mul y y)) ≡ (0 ∷ 10 ∷ 1 ∷ 1 ∷ 10 ∷ 0 ∷ []) ∷ [])
    × (value (update op.Div (to 0) y) ≡ (0 ∷ 1 ∷ []) ∷ (0 ∷ []) ∷ [])
stores_to_names = (refl, refl, refl, refl, refl, refl)

steps : (value (Node (StepBefore true (to 0)) None 0) ≡ (0 ∷ 0 ∷ []) ∷ []) × (value (Node (StepAfter false (Named (Static 0) 0)) None 0) ≡ []) × (value (Node (StepAfter true (at p)) None 0) ≡ (2 ∷ []) ∷ [])
steps = (refl, refl, refl)

stores_through : (value (set (at p) x) ≡ (2 ∷ 0 ∷ []) ∷ []) × (value (set (at p) (two_of op.Add x y)) ≡ (2 ∷ 10 ∷ 0 ∷ 1 ∷ 10 ∷ []) ∷ []) × (value (update op.Add (at p) x) ≡ (2 ∷ 0 ∷ []) ∷ [])
    × (value (Node (Comma (update op.Div (at p) x) y) None 0) ≡ (2 ∷ 0 ∷ []) ∷ (1 ∷ []) ∷ []) × (value (update op.Add (at p) (two_of op.Add x y)) ≡ (2 ∷ 10 ∷ 11 ∷ 0 ∷ 1 ∷ 11 ∷ 10 ∷ []) ∷ [])
    × (value (update op.Div (at p) (two_of op.Add x y)) ≡ (2 ∷ 10 ∷ 11 ∷ 0 ∷ 1 ∷ 11 ∷ []) ∷ (10 ∷ []) ∷ [])
stores_through = (refl, refl, refl, refl, refl, refl)

commas_and_ports : (value (Node (Comma x y) None 0) ≡ (0 ∷ 1 ∷ []) ∷ []) × (value (Node (Out 1 x) None 0) ≡ (0 ∷ []) ∷ [])
commas_and_ports = (refl, refl)

calls : (value (two_of op.Add x (call none)) ≡ (0 ∷ 10 ∷ []) ∷ (10 ∷ []) ∷ []) × (value (call (more x (more y none))) ≡ (0 ∷ 10 ∷ 1 ∷ 10 ∷ []) ∷ [])
    × (value (call (more x (more y (more x none)))) ≡ (0 ∷ 10 ∷ 1 ∷ 11 ∷ 0 ∷ 10 ∷ 11 ∷ []) ∷ [])
calls = (refl, refl, refl)

-- statements
abbrev blocks : Stmt → List (List ℕ)
blocks s = statement_accesses 10 s (cut (λ open_block. [])) []

abbrev does : Expr → Stmt
does e = Do_expr e

abbrev set_y : Stmt
set_y = does (set (to 1) one)

choices : (blocks (If x set_y (Block [] done)) ≡ (0 ∷ []) ∷ (1 ∷ []) ∷ []) × (blocks (Switch x (case 1 (body set_y (default (body (does (set (to 0) one)) no_more))))) ≡ (0 ∷ []) ∷ (1 ∷ []) ∷ (0 ∷ []) ∷ [])
choices = (refl, refl)

loops : (blocks (While x set_y) ≡ (0 ∷ []) ∷ (1 ∷ []) ∷ []) × (blocks (Do_while set_y x) ≡ (1 ∷ []) ∷ (0 ∷ []) ∷ [])
    × (blocks (For (Some (set (to 0) one)) (Some (two_of op.Lt x y)) (Some (Node (StepAfter true (to 0)) None 0)) set_y) ≡ (0 ∷ []) ∷ (0 ∷ 1 ∷ []) ∷ (1 ∷ []) ∷ (0 ∷ 0 ∷ []) ∷ [])
loops = (refl, refl, refl)

others : (blocks (Return (Some x)) ≡ (0 ∷ []) ∷ []) × (blocks (Block [] (both set_y (both (Fill 0) (both set_y done)))) ≡ (1 ∷ []) ∷ (1 ∷ []) ∷ []) × (blocks (Block [] (both set_y (both set_y done))) ≡ (1 ∷ 1 ∷ []) ∷ [])
others = (refl, refl, refl)

-- A filter: s, acc, i and p are scalars 0 to 3, and two temporaries follow. h and x are static arrays.
abbrev acc : Expr
acc = name (Scalar 1)

abbrev k : Expr
k = name (Scalar 2)

abbrev cell : Expr → Expr
cell e = two_of op.Add (Node (AddressOf (Static 1)) None 0) e

abbrev move : Stmt
move = does (set (at (cell k)) (Node (Load (cell (two_of op.Sub k one))) None 0))

abbrev sum : Stmt
sum = does (update op.Add (to 1) (two_of op.Mul (Node (Load (cell k)) None 0) (Node (Load (Node (StepAfter true (to 3)) None 0)) None 0)))

abbrev filter : Stmt
filter = Block [] (both (For (Some (set (to 2) (Node (Const 15) None 0))) (Some (two_of op.Gt k (Node (Const 0) None 0))) (Some (Node (StepAfter false (to 2)) None 0)) move)
    (both (does (set (at (cell (Node (Const 0) None 0))) (name (Scalar 0)))) (both (does (set (to 1) (Node (Const 0) None 0))) (both (does (set (to 3) (Node (AddressOf (Static 0)) None 0)))
    (both (For (Some (set (to 2) (Node (Const 0) None 0))) (Some (two_of op.Lt k (Node (Const 16) None 0))) (Some (Node (StepAfter true (to 2)) None 0)) sum)
    (both (Return (Some (two_of op.Shr acc (Node (Const 2) None 0)))) done))))))

filter_accesses : statement_accesses 4 filter (cut (λ open_block. [])) []
    ≡ (2 ∷ []) ∷ (2 ∷ []) ∷ (2 ∷ 4 ∷ 2 ∷ 4 ∷ []) ∷ (2 ∷ 2 ∷ []) ∷ (0 ∷ 1 ∷ 3 ∷ 2 ∷ []) ∷ (2 ∷ []) ∷ (1 ∷ 4 ∷ 2 ∷ 5 ∷ 3 ∷ 3 ∷ 5 ∷ 4 ∷ 1 ∷ []) ∷ (2 ∷ 2 ∷ []) ∷ (1 ∷ []) ∷ []
filter_accesses = refl
