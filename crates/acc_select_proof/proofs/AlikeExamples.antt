-- Word trees run beside the accumulator code that they are selected to: each operator, stores, steps, conditions, loops, a switch and calls. Both come
-- to the same, and the code with at most the work.
use Rattle.std.proofs.Common.{◌≡◌, refl, ℕ, zero, suc, ◌+◌, Bool, true, false, List, [], ◌∷◌, Some}
use Rattle.std.specs.Prelude.{codes, nat_le, ◌&&◌, ◌==◌, if◌then◌else◌}
use Rattle.word_base.specs.declared.outcome.Ending.TheVariants.{Returned, InputEnded}
use Rattle.c_tree.specs.declared.program.Base.TheVariants.{Int}
use Rattle.c_tree.specs.declared.program.Initial.{Initial}
use Rattle.c_tree.specs.declared.program.Initial.TheVariants as initial
use Rattle.c_tree.specs.declared.program.VarRef.{VarRef}
use Rattle.c_tree.specs.declared.program.VarRef.TheVariants as name
use Rattle.c_tree.specs.TypedTree.{ObjectTree}
use Rattle.c_syntax.specs.declared.operator.UnaryOp.TheVariants as unary
use Rattle.tree_code.specs.declared.operator.WordOp.{WordOp}
use Rattle.tree_code.specs.declared.operator.WordOp.TheVariants as word
use Rattle.tree_code.specs.WordTree as tree
use Rattle.tree_code.specs.WordTree.{ExprCode, Node, Named, At, StmtCode, FunctionCode, ProgramCode}
use Rattle.tree_code.specs.WordTemporaries.{word_statement_temporaries}
use Rattle.acc_select.specs.Selected.{selected}
use Rattle.ir_semantics.specs.Outside.{Places}
use Rattle.ir_semantics.specs.Keeps.{WorkOutcome, Ended, More, tree_run, acc_run}

abbrev places : Places
places = record { static = λ n. 900 + n + n + n + n + n + n; local = λ f n. 1200 + f + f + f + f + f + f + n + n + n }

abbrev array : ℕ → List ℕ → ObjectTree
array n words = record { name = codes "a"; length = n; kind = record { base = Int; stars = 0 }; initial = all words }
  where
    all : List ℕ → List Initial
    all [] = []
    all (x ∷ xs) = initial.Word x ∷ all xs

abbrev node : tree.FormCode → ExprCode
node form = Node form 0

abbrev s : ℕ → ExprCode
s n = node (tree.Read (name.Scalar n))

abbrev c : ℕ → ExprCode
c n = node (tree.Const n)

abbrev op : WordOp → ExprCode → ExprCode → ExprCode
op o a b = node (tree.Binary o a b)

abbrev set : ℕ → ExprCode → StmtCode
set n e = tree.Do_expr (node (tree.Assign (Named (name.Scalar n) 0) e))

abbrev out : ExprCode → StmtCode
out e = tree.Do_expr (node (tree.Out 1 e))

abbrev inp : ExprCode
inp = node (tree.In 0)

abbrev block : List StmtCode → StmtCode
block ss = tree.Block [] (all ss)
  where
    all : List StmtCode → tree.StmtsCode
    all [] = tree.done
    all (x ∷ xs) = tree.both x (all xs)

abbrev function : List ℕ → ℕ → List VarRef → List ObjectTree → StmtCode → FunctionCode
function n scalars params locals body = record { name = n; scalars = scalars + word_statement_temporaries body; params = params; locals = locals; body = body }

abbrev words : List ℕ → ℕ → List ℕ
words xs zero = xs
words xs (suc n) = []

-- both runs, the second one with at most the work
pub data Both : Type 0 where
  Alike : Both
  Apart : WorkOutcome → WorkOutcome → Both

abbrev same_lists : List (ℕ × ℕ) → List (ℕ × ℕ) → Bool
same_lists [] [] = true
same_lists (x ∷ xs) (y ∷ ys) = (x.0 == y.0) && ((x.1 == y.1) && same_lists xs ys)
same_lists xs ys = false

abbrev compared : WorkOutcome → WorkOutcome → Both
compared (Ended o (Returned x) k) (Ended p (Returned y) j) = if same_lists o p && ((x == y) && nat_le j k) then Alike else Apart (Ended o (Returned x) k) (Ended p (Returned y) j)
compared (Ended o (InputEnded x) k) (Ended p (InputEnded y) j) = if same_lists o p && ((x == y) && nat_le j k) then Alike else Apart (Ended o (InputEnded x) k) (Ended p (InputEnded y) j)
compared (More o) (More p) = if same_lists o p then Alike else Apart (More o) (More p)
compared x y = Apart x y

abbrev program : List FunctionCode → ProgramCode
program fs = record { statics = array 4 (1 ∷ 2 ∷ 3 ∷ []) ∷ array 1 (7 ∷ []) ∷ []; functions = fs }

abbrev both_runs : ProgramCode → List ℕ → ℕ → Both
both_runs p xs n = compared (tree_run places p (words xs) n) (acc_run places p (selected p) (words xs) n)

abbrev main : ℕ → StmtCode → FunctionCode
main scalars body = function (codes "main") scalars [] (array 2 (5 ∷ []) ∷ []) body

-- operators of two words from the port
abbrev operators : StmtCode
operators = block (set 0 inp ∷ set 1 inp ∷ out (op word.Add (s 0) (s 1)) ∷ out (op word.Sub (s 0) (s 1)) ∷ out (op word.Mul (s 0) (s 1)) ∷ out (op word.DivInt (s 0) (s 1)) ∷ out (op word.RemUnsigned (s 0) (op word.Add (s 1) (s 0)))
    ∷ out (op word.And (s 0) (s 1)) ∷ out (op word.Or (s 0) (c 256)) ∷ out (op word.Xor (c 3) (op word.Add (s 0) (s 1))) ∷ out (op word.Shl (s 0) (c 3)) ∷ out (op word.Shl (s 0) (c 7)) ∷ out (op word.ShrInt (s 0) (c 2)) ∷ out (op word.ShrInt (s 0) (c 7))
    ∷ out (op word.ShrInt (s 0) (c 11)) ∷ out (op word.ShrUnsigned (s 0) (c 5)) ∷ out (op word.ShrUnsigned (s 0) (c 12)) ∷ out (op word.ShrInt (s 0) (op word.And (s 1) (c 15))) ∷ out (op word.LtInt (s 0) (s 1)) ∷ out (op word.GeUnsigned (s 0) (s 1)) ∷ out (op word.GtInt (op word.Add (s 0) (s 1)) (op word.Sub (s 0) (s 1)))
    ∷ out (op word.Eq (op word.Add (s 0) (s 1)) (c 5)) ∷ out (op word.LeUnsigned (c 40000) (op word.Add (s 0) (s 1))) ∷ out (node (tree.Unary unary.Minus (s 0))) ∷ out (node (tree.Unary unary.Complement (op word.Add (s 0) (s 1)))) ∷ [])

operators_run : (both_runs (program (main 2 operators ∷ [])) (100 ∷ 7 ∷ []) 1 ≡ Alike) × (both_runs (program (main 2 operators ∷ [])) (65436 ∷ 9 ∷ []) 1 ≡ Alike) × (both_runs (program (main 2 operators ∷ [])) (40000 ∷ 65535 ∷ []) 1 ≡ Alike)
operators_run = (refl, refl, refl)

-- memory, pointers, steps, conditions, loops, switch, calls
abbrev adr : ℕ → ExprCode
adr n = node (tree.AddressOf (name.Static n))

abbrev cell : ExprCode → ExprCode
cell e = node (tree.Load (op word.Add (adr 0) e))

abbrev through : ExprCode → ExprCode → StmtCode
through p e = tree.Do_expr (node (tree.Assign (At p 0) e))

abbrev memory : StmtCode
memory = block (set 0 inp ∷ tree.Fill 0 ∷ through (op word.Add (adr 0) (s 0)) (op word.Mul (s 0) (c 300)) ∷ out (cell (s 0)) ∷ out (cell (op word.Sub (s 0) (c 1))) ∷ out (node (tree.Load (node (tree.AddressOf (name.Local 0)))))
    ∷ out (node (tree.Load (op word.Add (node (tree.AddressOf (name.Local 0))) (c 1)))) ∷ set 1 (adr 0) ∷ out (node (tree.Load (node (tree.StepAfter true (Named (name.Scalar 1) 0))))) ∷ out (node (tree.Load (s 1)))
    ∷ tree.Do_expr (node (tree.StepAfter true (At (s 1) 0))) ∷ out (node (tree.StepBefore false (At (s 1) 0))) ∷ out (node (tree.AssignOp word.Add (At (s 1) 0) (op word.Mul (s 0) (s 0)))) ∷ out (node (tree.AssignOp word.DivInt (At (s 1) 0) (c 2)))
    ∷ out (node (tree.AssignOp word.ShrInt (Named (name.Static 1) 0) (s 0))) ∷ out (node (tree.Read (name.Static 1))) ∷ out (node (tree.AssignOp word.Sub (Named (name.Scalar 0) 0) (op word.Add (s 0) (s 0)))) ∷ out (s 0) ∷ [])

memory_run : (both_runs (program (main 2 memory ∷ [])) (2 ∷ []) 1 ≡ Alike) × (both_runs (program (main 2 memory ∷ [])) (3 ∷ []) 1 ≡ Alike) × (both_runs (program (main 2 memory ∷ [])) [] 1 ≡ Alike)
memory_run = (refl, refl, refl)

abbrev lt : ExprCode → ExprCode → ExprCode
lt a b = op word.LtInt a b

abbrev control : StmtCode
control = block (set 0 inp
    ∷ tree.While (node (tree.And (lt (c 0) (s 0)) (node (tree.Not (op word.Eq (s 0) (c 9)))))) (block (out (node (tree.Pick (op word.Eq (op word.And (s 0) (c 1)) (c 0)) (s 0) (op word.Add (s 0) (c 100))))
    ∷ tree.If (node (tree.Or (op word.Eq (s 0) (c 2)) (op word.Eq (s 0) (c 40)))) tree.Break (block [])
    ∷ tree.Switch (s 0) (tree.case 3 (tree.body (out (c 33)) (tree.case 4 (tree.body (out (c 44)) (tree.body tree.Break (tree.default (tree.body (out (c 99)) tree.no_more)))))))
    ∷ tree.Do_expr (node (tree.StepBefore false (Named (name.Scalar 0) 0))) ∷ []))
    ∷ tree.For (Some (node (tree.Assign (Named (name.Scalar 1) 0) (c 0)))) (Some (lt (s 1) (c 4))) (Some (node (tree.StepAfter true (Named (name.Scalar 1) 0)))) (block (tree.If (op word.Eq (s 1) (c 2)) tree.Continue (block []) ∷ out (s 1) ∷ []))
    ∷ tree.Do_while (block (out (s 1) ∷ [])) (node (tree.StepBefore false (Named (name.Scalar 1) 0)))
    ∷ out (node (tree.Comma (node (tree.Call 0 (tree.more (s 0) (tree.more (node (tree.Call 0 (tree.more (c 3) (tree.more (c 4) tree.none)))) tree.none)))) (node (tree.Call 0 (tree.more (op word.Mul (s 0) (c 2)) (tree.more (c 1) tree.none))))))
    ∷ tree.Return (Some (node (tree.And (s 0) (lt (s 0) (c 3))))) ∷ [])

abbrev f : FunctionCode
f = function (codes "f") 1 (name.Scalar 0 ∷ name.Local 0 ∷ []) (array 1 [] ∷ []) (block (set 0 (op word.Sub (op word.Mul (s 0) (c 10)) (node (tree.Load (node (tree.AddressOf (name.Local 0)))))) ∷ out (s 0) ∷ tree.Return (Some (s 0)) ∷ []))

control_run : (both_runs (program (f ∷ main 2 control ∷ [])) (6 ∷ []) 9 ≡ Alike) × (both_runs (program (f ∷ main 2 control ∷ [])) (6 ∷ []) 3 ≡ Alike) × (both_runs (program (f ∷ main 2 control ∷ [])) (0 ∷ []) 9 ≡ Alike) × (both_runs (program (f ∷ main 2 control ∷ [])) (9 ∷ []) 4 ≡ Alike)
    × (both_runs (program (f ∷ main 2 control ∷ [])) (42 ∷ []) 9 ≡ Alike)
control_run = (refl, refl, refl, refl, refl)
