-- Programs by hand: what they weigh, and how many nodes their sources have. Above each tree stands its source; places tell nothing here.
use Rattle.std.proofs.Common.{◌≡◌, refl}
use Rattle.std.specs.Prelude.{ℕ, true, false, codes, List, [], ◌∷◌, Some, None}
use Rattle.c_syntax.specs.Counts.{unit_count}
use Rattle.c_syntax.specs.declared.operator.BinaryOp.TheVariants as op
use Rattle.c_syntax.specs.declared.syntax.SpecWord.TheVariants.{Int}
use Rattle.c_syntax.specs.SyntaxTree.{SpecsTree, Expression, Node, Name, Number, Index, AssignOp, Array, Braced, DeclarationTree, Statements, Return, no_statement, statement, ExternalTree, Defined, Declared, UnitTree}
use Rattle.c_rules.specs.Outcome.{Outcome, Is, Broken}
use Rattle.c_rules.specs.Programs.{program_tree}
use Rattle.c_rules.specs.Units.{File, typed_unit}
use Rattle.ir_semantics.specs.SourceWeights.{source_weight}

abbrev weight_in : Outcome File → ℕ
weight_in (Is file) = source_weight (program_tree file)
weight_in (Broken rule at) = 0

abbrev int : SpecsTree
int = record { words = Int ∷ []; at = 0 }

abbrev number : ℕ → Expression
number value = Node (Number value false true) 0

-- an array of type int with a list
abbrev array : List ℕ → List Expression → DeclarationTree
array name values = record {
  specs = int;
  items = record { stars = 0; name = name; form = Array None; initial = Some (Braced values 0); at = 0 } ∷ [];
  at = 0;
}

abbrev first_of : List ℕ → Expression
first_of name = Node (Index (Node (Name name) 0) (number 0)) 0

abbrev main : List DeclarationTree → Statements → ExternalTree
main declarations statements = Defined (record {
  specs = int;
  stars = 0;
  name = codes "main";
  parameters = record { list = []; at = 0 };
  declarations = declarations;
  statements = statements;
  body_at = 0;
  at = 0;
})

-- int main(void) {}
abbrev empty : UnitTree
empty = main [] no_statement ∷ []

-- a function 10 and its block 1
empty_weight : weight_in (typed_unit empty) ≡ 11
empty_weight = refl

empty_count : unit_count empty ≡ 1
empty_count = refl

-- int a[] = {1, 2}; int main(void) {int b[] = {3}; return a[0] += b[0];}
abbrev added : UnitTree
added = Declared (array (codes "a") (number 1 ∷ number 2 ∷ []))
    ∷ main (array (codes "b") (number 3 ∷ []) ∷ [])
    (statement (Return (Some (Node (AssignOp op.Add (first_of (codes "a")) (first_of (codes "b"))) 0)) 0) no_statement) ∷ []

-- the list of a 8; the function and its block 11, the list of b 18, return 3, += 48, the sum for a[0] 28, the sum and the load for b[0] 33
added_weight : weight_in (typed_unit added) ≡ 149
added_weight = refl

-- a and its values 3; the block 1, b and its value 2, return 1, += 1, a[0] 3 and b[0] 3
added_count : unit_count added ≡ 14
added_count = refl
