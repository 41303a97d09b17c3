-- Examples: a call with arguments, on both sides; and why `main` has to return a value wherever it returns.
use Rattle.std.proofs.Common.{◌≡◌, ◌+◌, ◌*◌, [], ◌∷◌, Some, None, refl}
use Rattle.word_base.specs.declared.outcome.Ending.TheVariants.{Returned}
use Rattle.c_tree.specs.declared.program.VarRef.TheVariants.{Scalar, Local}
use Rattle.c_tree.specs.Kinds.{int}
use Rattle.c_tree.specs.SourceRun.{main_name}
use Rattle.tree_code.specs.WordTree.{Node, Const, Read, AddressOf, Load, Binary, Call, none, more, Return, ProgramCode, code}
use Rattle.tree_code.specs.declared.operator.WordOp.TheVariants as word
use Rattle.acc_select.specs.Selected.{selected}
use Rattle.ir_semantics.specs.Keeps.{Ended, Undefined, tree_run, acc_run}
use Rattle.ir_semantics.specs.Outside.{Places}

abbrev places : Places
places = record { static = λ k. 100 + k; local = λ f k. 200 + 10 * f + k }

-- `int main(void) { return; }`: the tree's run ends with 0, and in the machine nothing is known of the accumulator. The rules of C don't take
-- it, since `main` has a value
abbrev silent : ProgramCode
silent = code [] (record { name = main_name; scalars = 0; params = []; locals = []; body = Return None } ∷ [])

silent_tree : tree_run places silent (λ p. []) 1 ≡ Ended [] (Returned 0) 13
silent_tree = refl

silent_items : acc_run places silent (selected silent) (λ p. []) 1 ≡ Undefined []
silent_items = refl

-- `int f(int a, int b, int c) { return a - b + c; } int main(void) { return f(9, 4, 2); }`
abbrev three : ProgramCode
three = code [] (record {
  name = 102 ∷ [];
  scalars = 3;
  params = Scalar 0 ∷ Scalar 1 ∷ Scalar 2 ∷ [];
  locals = [];
  body = Return (Some (Node (Binary word.Add (Node (Binary word.Sub (Node (Read (Scalar 0)) 0) (Node (Read (Scalar 1)) 0)) 0) (Node (Read (Scalar 2)) 0)) 0));
} ∷ record {
  name = main_name;
  scalars = 2;
  params = [];
  locals = [];
  body = Return (Some (Node (Call 0 (more (Node (Const 9) 0) (more (Node (Const 4) 0) (more (Node (Const 2) 0) none)))) 0));
} ∷ [])

three_tree : tree_run places three (λ p. []) 1 ≡ Ended [] (Returned 7) 133
three_tree = refl

three_items : acc_run places three (selected three) (λ p. []) 1 ≡ Ended [] (Returned 7) 65
three_items = refl

-- `int f(int a, int b) { return *&b; } int main(void) { return f(1, 5); }`: a parameter whose address is taken lies in memory
abbrev taken : ProgramCode
taken = code [] (record {
  name = 102 ∷ [];
  scalars = 1;
  params = Scalar 0 ∷ Local 0 ∷ [];
  locals = record { name = 98 ∷ []; length = 1; kind = int; initial = [] } ∷ [];
  body = Return (Some (Node (Load (Node (AddressOf (Local 0)) 0)) 0));
} ∷ record {
  name = main_name;
  scalars = 1;
  params = [];
  locals = [];
  body = Return (Some (Node (Call 0 (more (Node (Const 1) 0) (more (Node (Const 5) 0) none))) 0));
} ∷ [])

taken_tree : tree_run places taken (λ p. []) 1 ≡ Ended [] (Returned 5) 63
taken_tree = refl

taken_items : acc_run places taken (selected taken) (λ p. []) 1 ≡ Ended [] (Returned 5) 43
taken_items = refl
