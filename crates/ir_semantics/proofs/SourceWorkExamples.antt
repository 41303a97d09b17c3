-- The work of runs of typed programs, decided by hand.
use Rattle.std.proofs.Common.{◌≡◌, refl, ℕ, ◌+◌, ◌*◌, true, [], ◌∷◌, Option, Some, None}
use Rattle.std.specs.Prelude.{codes}
use Rattle.word_base.specs.declared.outcome.Ending.TheVariants.{Returned, InputEnded}
use Rattle.c_syntax.specs.declared.operator.BinaryOp.TheVariants as op
use Rattle.c_syntax.specs.declared.operator.UnaryOp.TheVariants as sign
use Rattle.c_tree.specs.declared.program.Base.TheVariants.{Int}
use Rattle.c_tree.specs.declared.program.ScalarType.{ScalarType}
use Rattle.c_tree.specs.declared.program.VarRef.TheVariants as name
use Rattle.c_tree.specs.declared.program.Initial.TheVariants as initial
use Rattle.c_tree.specs.TypedTree.{Form, Expr, Node, Named, At, Const, Read, AddressOf, Load, Unary, Binary, And, Or, Not, Pick, Assign, AssignOp, StepBefore, StepAfter, Call, In, Comma, Convert, none, more, Stmt, Block, Fill, Do_expr, If, While, Do_while, For, Switch, Break, Continue, Return, done, both, no_more, case, default, body, ProgramTree}
use Rattle.ir_semantics.specs.Keeps.{Ended, More}
use Rattle.ir_semantics.specs.SourceWork.{worked_run}

abbrev int : Option ScalarType
int = Some (record { base = Int; stars = 0 })

abbrev node : Form → Expr
node form = Node form int 0

-- a program of this `main`, which has one `int`
abbrev program_of : Stmt → ProgramTree
program_of s = record {
  statics = [];
  functions = record { name = codes "main"; result = int; params = []; scalars = record { base = Int; stars = 0 } ∷ []; locals = []; body = s } ∷ [];
}

-- the call, the return, the sum and its operands
sum : worked_run (program_of (Return (Some (node (Binary op.Add (node (Const 1)) (node (Const 2))))))) (λ p. []) 0 ≡ Ended [] (Returned 3) (10 + (3 + (24 + (2 + 2))))
sum = refl

-- the operand that isn't evaluated costs nothing
ended : worked_run (program_of (Return (Some (node (Binary op.Add (node (In 0)) (node (Const 2))))))) (λ p. []) 0 ≡ Ended [] (InputEnded 0) (10 + (3 + (24 + 4)))
ended = refl

-- two turns, and three tests
abbrev counting : Stmt
counting = Block (name.Scalar 0 ∷ []) (both (Do_expr (node (Assign (Named (name.Scalar 0) 0) (node (Const 0)))))
    (both (While (node (Binary op.Lt (node (StepBefore true (Named (name.Scalar 0) 0))) (node (Const 3)))) (Do_expr (node (Const 0)))) done))

counted : worked_run (program_of counting) (λ p. []) 2 ≡ Ended [] (Returned 0) (10 + (1 + (1 + (19 + 2))) + (14 + (3 * (24 + (14 + 2)) + 2 * (14 + (1 + 2)))))
counted = refl

too_many : worked_run (program_of counting) (λ p. []) 1 ≡ More []
too_many = refl

-- what `return` of an expression costs besides the call and the return
abbrev costs : Expr → ℕ → ℕ → Type 0
costs e value cost = worked_run (program_of (Return (Some e))) (λ p. []) 0 ≡ Ended [] (Returned value) (10 + (3 + cost))

abbrev one : Expr
one = node (Const 1)

abbrev nought : Expr
nought = node (Const 0)

forms : costs (node (Convert one)) 1 (1 + 2) × costs (node (And nought one)) 0 (20 + 2) × costs (node (And one nought)) 0 (20 + (2 + 2)) × costs (node (Or one nought)) 1 (20 + 2) × costs (node (Or nought one)) 1 (20 + (2 + 2))
    × costs (node (Not one)) 0 (10 + 2) × costs (node (Pick one nought (node (In 0)))) 0 (14 + (2 + 2)) × costs (node (Comma one nought)) 0 (1 + (2 + 2))
forms = (refl, refl, refl, refl, refl, refl, refl, refl)

-- what a statement costs besides the call, its block, and the assignment before it
abbrev does : Stmt → ℕ → Type 0
does s cost = worked_run (program_of (Block (name.Scalar 0 ∷ []) (both (Do_expr (node (Assign (Named (name.Scalar 0) 0) nought))) (both s done)))) (λ p. []) 3 ≡ Ended [] (Returned 0) (10 + (1 + ((1 + (19 + 2)) + cost)))

updates : does (Do_expr (node (AssignOp op.Add (Named (name.Scalar 0) 0) one))) (1 + (48 + 2)) × does (If nought Break (Do_expr one)) (6 + (2 + (1 + 2)))
updates = (refl, refl)

-- a loop that is left in its first turn, one that ends after two turns, and one after one
loops : does (For None None None Break) (14 + (14 + 2)) × does (For None (Some (node (Binary op.Lt (node (Read (name.Scalar 0))) (node (Const 2))))) (Some (node (StepBefore true (Named (name.Scalar 0) 0)))) Continue) (14 + (3 * (24 + (5 + 2)) + 2 * (14 + (2 + 14))))
    × does (Do_while (Do_expr one) nought) (14 + (14 + ((1 + 2) + 2)))
loops = (refl, refl, refl)

-- all labels of a switch count, and the statements from the case on
switches : does (Switch one (case 0 (body (Do_expr one) (case 1 (body (Do_expr one) (default (body Break no_more))))))) (8 + (7 + (7 + 2)) + (2 + ((1 + 2) + 2)))
switches = refl

-- a call with an argument, of a function with an array that is filled
abbrev calling : ProgramTree
calling = record {
  statics = [];
  functions =
      record { name = codes "main"; result = int; params = []; scalars = []; locals = []; body = Return (Some (node (Call 1 (more one none)))) }
      ∷ record {
        name = codes "f";
        result = int;
        params = name.Scalar 0 ∷ [];
        scalars = record { base = Int; stars = 0 } ∷ [];
        locals = record { name = codes "a"; length = 3; kind = record { base = Int; stars = 0 }; initial = initial.Word 7 ∷ [] } ∷ [];
        body = Block (name.Local 0 ∷ []) (both (Fill 0) (both (Return (Some (node (Read (name.Scalar 0))))) done));
      }
      ∷ [];
}

called : worked_run calling (λ p. []) 0 ≡ Ended [] (Returned 1) (10 + (3 + (2 + (12 + 2))) + (10 + (1 + (9 + (9 * 1 + 64 * 3)) + (3 + 5))))
called = refl

-- an object is stored to, stepped and read through its address, and the negative is returned
abbrev address : Expr
address = Node (AddressOf (name.Local 0)) (Some (record { base = Int; stars = 1 })) 0

abbrev pointing : ProgramTree
pointing = record {
  statics = [];
  functions = record {
    name = codes "main";
    result = int;
    params = [];
    scalars = [];
    locals = record { name = codes "a"; length = 1; kind = record { base = Int; stars = 0 }; initial = [] } ∷ [];
    body = Block (name.Local 0 ∷ []) (both (Do_expr (node (Assign (At address 0) one))) (both (Do_expr (node (StepAfter true (At address 0)))) (both (Return (Some (node (Unary sign.Minus (node (Load address)))))) done)));
  } ∷ [];
}

pointed : worked_run pointing (λ p. []) 0 ≡ Ended [] (Returned 65534) (10 + (1 + (1 + (19 + (2 + 2))) + ((1 + (14 + 2)) + (3 + (1 + (5 + 2))))))
pointed = refl
