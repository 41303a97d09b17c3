-- Runs of each item of accumulator code and of word trees, decided by hand.
use Rattle.std.proofs.Common.{◌≡◌, refl, ℕ, zero, suc, ◌+◌, true, false, List, [], ◌∷◌, Option, Some, None}
use Rattle.std.specs.Prelude.{codes}
use Rattle.word_base.specs.declared.outcome.Ending.TheVariants.{Returned, InputEnded}
use Rattle.c_tree.specs.declared.program.Base.TheVariants.{Int}
use Rattle.c_tree.specs.declared.program.Initial.TheVariants as initial
use Rattle.c_tree.specs.declared.program.VarRef.TheVariants as name
use Rattle.c_tree.specs.TypedTree.{ObjectTree}
use Rattle.tree_code.specs.declared.operator.WordOp.TheVariants as word
use Rattle.tree_code.specs.WordTree as tree
use Rattle.tree_code.specs.WordTree.{ExprCode, Node, Named, StmtCode, FunctionCode, ProgramCode}
use Rattle.acc_code.specs.declared.item.CaseLabel.TheVariants.{Value, Default}
use Rattle.acc_code.specs.declared.operand.AccOperand.{AccOperand}
use Rattle.acc_code.specs.declared.operand.AccOperand.TheVariants as operand
use Rattle.acc_code.specs.declared.operand.HelperName.TheVariants as helper
use Rattle.acc_code.specs.declared.operation.AccOp.TheVariants as row
use Rattle.acc_code.specs.declared.operation.Test.TheVariants as test
use Rattle.acc_code.specs.AccTree.{Op, If, Loop, Switch, Case, Clear, Call, Helper, Break, Continue, Return, ItemList, end, ◌▸◌}
use Rattle.ir_semantics.specs.Parts as part
use Rattle.ir_semantics.specs.Parts.{Res, Gives, Finished, TooMany, Fails, Flow}
use Rattle.ir_semantics.specs.Outside.{Places, with_scalar, no_words, first_outside}
use Rattle.ir_semantics.specs.AccRows.{Acc, Gone, Low, Whole}
use Rattle.ir_semantics.specs.AccRun.{Machine, Context, run}
use Rattle.ir_semantics.specs.Keeps.{Ended, More, Undefined, tree_run}

-- one array of two cells at 900, static or local by the place
abbrev places : Places
places = record { static = λ n. 900; local = λ f n. 800 }

abbrev array : ObjectTree
array = record { name = codes "a"; length = 2; kind = record { base = Int; stars = 0 }; initial = initial.Word 7 ∷ [] }

-- a state with scalar 0 at 3, and its scratch words unknown
abbrev start : Acc → Machine
start a = record {
  registers = record { acc = a; t = None; p = None; sxm = Some true; pointed = None };
  frame = with_scalar 0 3 no_words;
  scratch = no_words;
  given_to = 0;
  given = no_words;
  outside = first_outside places (array ∷ []) (λ p. 9 ∷ []);
  work = 0;
}

abbrev context : ℕ → Context
context limit = record { limit = limit; calls = λ f v. Gives part.Next (record v { registers = record v.registers { acc = Low (40 + f) } }); at = λ v. Some 900; locals = array ∷ [] }

-- what a list came to: how it was left, with the accumulator, scalar 0, and the work
data Came : Type 0 where
  To : Flow → Acc → Option ℕ → ℕ → Came
  Without_end : Came
  To_nothing : Came

abbrev came : Res Machine Flow → Came
came (Gives flow v) = To flow v.registers.acc (v.frame 0) v.work
came (Finished e outs work) = To_nothing
came (TooMany outs) = Without_end
came (Fails outs) = To_nothing

abbrev from : Acc → ItemList → Came
from a xs = came (run (context 3) xs (start a))

abbrev number : ℕ → ItemList → ItemList
number n xs = Op row.Lack (operand.Number n) ▸ xs

-- a test needs all of the accumulator, and leaves it
choices : (from (Whole 0) (If test.Z (number 1 end) (number 2 end) ▸ end) ≡ To part.Next (Whole 1) (Some 3) 6) × (from (Whole 65536) (If test.Z (number 1 end) (number 2 end) ▸ end) ≡ To part.Next (Whole 2) (Some 3) 6)
    × (from (Whole 7) (If test.Z (number 1 end) end ▸ end) ≡ To part.Next (Whole 7) (Some 3) 4) × (from (Low 0) (If test.Z end end ▸ end) ≡ To_nothing)
choices = (refl, refl, refl, refl)

-- what is known of the accumulator before a test is known in both parts and behind it
known_behind : (from (Whole 0) (If test.Z (Op (row.Sacl 0) (operand.Scalar 0) ▸ end) end ▸ end) ≡ To part.Next (Whole 0) (Some 0) 9) × (from (Whole 8) (If test.Z end end ▸ Op (row.Sacl 0) (operand.Scalar 0) ▸ end) ≡ To part.Next (Whole 8) (Some 8) 9)
known_behind = (refl, refl)

-- scalar 0 is counted down
abbrev down : ItemList
down = Op (row.Lac 0) (operand.Scalar 0) ▸ Op row.Subk (operand.Number 1) ▸ Op (row.Sacl 0) (operand.Scalar 0) ▸ end

abbrev until_zero : ItemList
until_zero = Op (row.Lac 0) (operand.Scalar 0) ▸ If test.Nz end (Break ▸ end) ▸ end

loops : (came (run (context 3) (Loop until_zero end down false ▸ end) (start Gone)) ≡ To part.Next (Whole 0) (Some 0) 98) × (came (run (context 2) (Loop until_zero end down false ▸ end) (start Gone)) ≡ Without_end)
    × (came (run (context 1) (Loop end (Continue ▸ end) (Break ▸ end) true ▸ end) (start Gone)) ≡ To part.Next Gone (Some 3) 16) × (came (run (context 1) (Loop (Continue ▸ end) end end false ▸ end) (start Gone)) ≡ To_nothing)
    × (came (run (context 1) (Loop end (Return ▸ end) end false ▸ end) (start (Low 5))) ≡ To part.Returned (Low 5) (Some 3) 15)
loops = (refl, refl, refl, refl, refl)

abbrev labels : ItemList
labels = number 9 (Case 0 ▸ number 1 (Case 1 ▸ number 2 (Break ▸ end)))

switches : (from (Whole 5) (Switch (Value 5 ∷ Default ∷ []) labels ▸ end) ≡ To part.Next (Whole 2) (Some 3) 18) × (from (Whole 6) (Switch (Value 5 ∷ Default ∷ []) labels ▸ end) ≡ To part.Next (Whole 2) (Some 3) 15)
    × (from (Whole 6) (Switch (Value 5 ∷ []) labels ▸ end) ≡ To part.Next Gone (Some 3) 10) × (from (Low 5) (Switch (Value 5 ∷ []) labels ▸ end) ≡ To_nothing)
switches = (refl, refl, refl, refl)

calls_and_routines : (from Gone (Call 2 ▸ end) ≡ To part.Next (Low 42) (Some 3) 2)
    × (from Gone (number 7 (Op (row.Sacl 0) (operand.Scratch 0) ▸ number 2 (Op (row.Sacl 0) (operand.Scratch 1) ▸ Helper helper.DivInt ▸ end))) ≡ To part.Next (Low 3) (Some 3) 15)
    × (from Gone (number 0 (Op (row.Sacl 0) (operand.Scratch 0) ▸ Op (row.Sacl 0) (operand.Scratch 1) ▸ Helper helper.DivInt ▸ end)) ≡ To_nothing) × (from (Whole 1) (Helper helper.DivInt ▸ end) ≡ To_nothing)
calls_and_routines = (refl, refl, refl, refl)

-- an item that isn't an operation ends the life of scratch words
scratch_words : (from (Whole 4) (Op (row.Sacl 0) (operand.Scratch 0) ▸ Op (row.Lac 0) (operand.Scratch 0) ▸ end) ≡ To part.Next (Whole 4) (Some 3) 4)
    × (from (Whole 4) (Op (row.Sacl 0) (operand.Scratch 0) ▸ If test.Z end end ▸ Op (row.Lac 0) (operand.Scratch 0) ▸ end) ≡ To_nothing)
scratch_words = (refl, refl)

-- memory: the static array at 900 holds 7 and 0
objects : (from Gone (Op (row.Lac 0) (operand.Direct (name.Static 0)) ▸ end) ≡ To part.Next (Whole 7) (Some 3) 2)
    × (from Gone (Op (row.Lalk 0) (operand.Address (name.Static 0) 1) ▸ Op row.Point operand.Nothing ▸ Op (row.Lac 0) operand.Pointed ▸ end) ≡ To part.Next (Whole 0) (Some 3) 7)
    × (from Gone (Op (row.Lalk 0) (operand.Address (name.Static 0) 2) ▸ Op row.Point operand.Nothing ▸ Op (row.Lac 0) operand.Pointed ▸ end) ≡ To_nothing)
    × (from Gone (Clear (name.Local 0) 0 ▸ Op (row.Lac 0) (operand.Direct (name.Local 0)) ▸ end) ≡ To part.Next (Whole 0) (Some 3) 139)
objects = (refl, refl, refl, refl)

-- a word that is missing ends a run, though through a pointer only where an object lives: the array has the words 900 and 901
abbrev missing : AccOperand → ItemList
missing m = Op (row.In 3) (operand.Scalar 0) ▸ Op row.Point operand.Nothing ▸ Op (row.In 3) m ▸ end

missing_words : (run (context 3) (missing operand.Pointed) (start (Whole 901)) ≡ Finished (InputEnded 3) [] 10) × (run (context 3) (missing operand.Pointed) (start (Whole 903)) ≡ Fails [])
    × (run (context 3) (missing (operand.Scalar 0)) (start (Whole 903)) ≡ Finished (InputEnded 3) [] 13)
missing_words = (refl, refl, refl)

-- Whole programs: f adds 1 to its argument, and main puts what f makes of a port's word, adds a static word, and goes round so often.
abbrev node : tree.FormCode → ExprCode
node form = Node form 0

abbrev scalar : ℕ → ExprCode
scalar n = node (tree.Read (name.Scalar n))

abbrev constant : ℕ → ExprCode
constant n = node (tree.Const n)

abbrev function_f : FunctionCode
function_f = record { name = codes "f"; scalars = 1; params = name.Scalar 0 ∷ []; locals = []; body = tree.Block [] (tree.both (tree.Return (Some (node (tree.Binary word.Add (scalar 0) (constant 1))))) tree.done) }

abbrev main_body : StmtCode
main_body = tree.Block (name.Scalar 0 ∷ []) (tree.both (tree.Do_expr (node (tree.Assign (Named (name.Scalar 0) 0) (node (tree.Call 0 (tree.more (node (tree.In 0)) tree.none))))))
    (tree.both (tree.While (scalar 0) (tree.Block [] (tree.both (tree.Do_expr (node (tree.Out 1 (node (tree.Binary word.Add (scalar 0) (node (tree.Read (name.Static 0)))))))) (tree.both (tree.Do_expr (node (tree.StepAfter false (Named (name.Scalar 0) 0)))) tree.done))))
    tree.done))

abbrev program : ProgramCode
program = record { statics = array ∷ []; functions = function_f ∷ record { name = codes "main"; scalars = 1; params = []; locals = []; body = main_body } ∷ [] }

abbrev word_at_0 : ℕ → ℕ → List ℕ
word_at_0 x zero = x ∷ []
word_at_0 x (suc n) = []

-- f(1) is 2, so two turns put 9 and 8. Work: 49 up to the input, 45 in f, 14 for the loop, 15 for three tests, and 69 for each turn
whole_runs : (tree_run places program (word_at_0 1) 2 ≡ Ended ((1, 9) ∷ (1, 8) ∷ []) (Returned 0) 261) × (tree_run places program (word_at_0 1) 1 ≡ More ((1, 9) ∷ []))
    × (tree_run places program (λ p. []) 9 ≡ Ended [] (InputEnded 0) 49)
whole_runs = (refl, refl, refl)

-- a word that was never written has no value, and neither has a quotient by 0
abbrev only_main : StmtCode → ProgramCode
only_main s = record { statics = []; functions = record { name = codes "main"; scalars = 1; params = []; locals = array ∷ []; body = s } ∷ [] }

undefined_runs : (tree_run places (only_main (tree.Return (Some (scalar 0)))) (λ p. []) 1 ≡ Undefined []) × (tree_run places (only_main (tree.Return (Some (node (tree.Binary word.DivInt (constant 1) (constant 0)))))) (λ p. []) 1 ≡ Undefined [])
    × (tree_run places (only_main (tree.Return (Some (node (tree.Load (node (tree.AddressOf (name.Local 0)))))))) (λ p. []) 1 ≡ Undefined [])
    × (tree_run places (only_main (tree.Return (Some (node (tree.Load (constant 5)))))) (λ p. []) 1 ≡ Undefined [])
undefined_runs = (refl, refl, refl, refl)

-- a filled array, whose second cell is 0
filled : tree_run places (only_main (tree.Block [] (tree.both (tree.Fill 0) (tree.both (tree.Return (Some (node (tree.Load (node (tree.AddressOf (name.Local 0))))))) tree.done)))) (λ p. []) 1 ≡ Ended [] (Returned 7) 167
filled = refl
