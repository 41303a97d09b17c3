-- Functions by hand: what they declare and fill. Above each tree stands its source; places tell nothing here.
use Rattle.std.proofs.Common.{◌≡◌, refl, arith}
use Rattle.std.specs.Prelude.{ℕ, true, false, codes, List, [], ◌∷◌, map, Some, None}
use Rattle.c_syntax.specs.declared.syntax.PrefixOp.TheVariants as prefix
use Rattle.c_syntax.specs.declared.syntax.SpecWord.TheVariants.{Int}
use Rattle.c_syntax.specs.SyntaxTree.{SpecsTree, Expression, Node, Name, Number, Prefix, ParameterTree, ItemForm, Plain, Array, InitialTree, One}
use Rattle.c_syntax.specs.SyntaxTree.{Braced, DeclarationTree, Statements, Block, no_statement, statement, ExternalTree, Defined, UnitTree}
use Rattle.c_tree.specs.declared.program.Initial.{Initial}
use Rattle.c_tree.specs.declared.program.Initial.TheVariants.{Word}
use Rattle.c_tree.specs.declared.program.VarRef.{VarRef}
use Rattle.c_tree.specs.declared.program.VarRef.TheVariants.{Scalar, Local}
use Rattle.c_tree.specs.Kinds as kinds
use Rattle.c_tree.specs.TypedTree as tree
use Rattle.c_tree.specs.TypedTree.{Stmt, FunctionTree}
use Rattle.c_rules.specs.Outcome.{Outcome, Is, Broken}
use Rattle.c_rules.specs.Programs.{program_tree}
use Rattle.c_rules.specs.Units.{File, typed_unit}
use Rattle.c_tree.specs.Declarations.{declared_in_function, local_numbers, occurrences}
use Rattle.c_tree.specs.Fills.{filled_in, FilledOnce, FilledIfListed, FilledWhereDeclared, FilledBeforeUse}
use Rattle.c_tree.specs.NamesUsed.{statement_names}
use Rattle.c_tree.specs.Scopes.{UsedWhereDeclared}

abbrev functions_in : Outcome File → List FunctionTree
functions_in (Is file) = (program_tree file).functions
functions_in (Broken rule at) = []

-- what each function of a source declares, what it fills, and the lists of its objects in memory
abbrev declared_by : UnitTree → List (List VarRef)
declared_by unit = map declared_in_function (functions_in (typed_unit unit))

abbrev filled_by : UnitTree → List (List ℕ)
filled_by unit = map (λ f. filled_in f.body) (functions_in (typed_unit unit))

abbrev lists_of : UnitTree → List (List (List Initial))
lists_of unit = map (λ f. map (λ o. o.initial) f.locals) (functions_in (typed_unit unit))

-- what it names
abbrev names_of : UnitTree → List (List VarRef)
names_of unit = map (λ f. statement_names f.body) (functions_in (typed_unit unit))

-- the parts of sources
abbrev int : SpecsTree
int = record { words = Int ∷ []; at = 0 }

abbrev number : ℕ → Expression
number value = Node (Number value false true) 0

abbrev object : ℕ → List ℕ → ItemForm → DeclarationTree
object stars name form = record { specs = int; items = record { stars = stars; name = name; form = form; initial = None; at = 0 } ∷ []; at = 0 }

abbrev with_start : ℕ → List ℕ → ItemForm → InitialTree → DeclarationTree
with_start stars name form start =
    record { specs = int; items = record { stars = stars; name = name; form = form; initial = Some start; at = 0 } ∷ []; at = 0 }

abbrev array : List ℕ → List Expression → DeclarationTree
array name values = with_start 0 name (Array None) (Braced values 0)

abbrev parameter : List ℕ → ParameterTree
parameter name = record { specs = int; stars = 0; name = Some name; array = None; at = 0 }

abbrev function : List ℕ → List ParameterTree → List DeclarationTree → Statements → ExternalTree
function name parameters declarations statements = Defined (record {
  specs = int;
  stars = 0;
  name = name;
  parameters = record { list = parameters; at = 0 };
  declarations = declarations;
  statements = statements;
  body_at = 0;
  at = 0;
})

-- int main(void) {{int a[] = {1};} {int b[] = {2, 3};}}
abbrev siblings : UnitTree
siblings =
    function (codes "main") [] []
    (statement (Block (array (codes "a") (number 1 ∷ []) ∷ []) no_statement 0)
    (statement (Block (array (codes "b") (number 2 ∷ number 3 ∷ []) ∷ []) no_statement 0) no_statement)) ∷ []

siblings_declared : declared_by siblings ≡ (Local 0 ∷ Local 1 ∷ []) ∷ []
siblings_declared = refl

siblings_filled : filled_by siblings ≡ (0 ∷ 1 ∷ []) ∷ []
siblings_filled = refl

siblings_lists : lists_of siblings ≡ ((Word 1 ∷ []) ∷ (Word 2 ∷ Word 3 ∷ []) ∷ []) ∷ []
siblings_lists = refl

-- int main(void) {int a[2]; int b[1] = {5};}
abbrev one_list : UnitTree
one_list =
    function (codes "main") []
    (object 0 (codes "a") (Array (Some (number 2))) ∷ with_start 0 (codes "b") (Array (Some (number 1))) (Braced (number 5 ∷ []) 0) ∷ [])
    no_statement ∷ []

one_list_declared : declared_by one_list ≡ (Local 0 ∷ Local 1 ∷ []) ∷ []
one_list_declared = refl

one_list_filled : filled_by one_list ≡ (1 ∷ []) ∷ []
one_list_filled = refl

one_list_lists : lists_of one_list ≡ ([] ∷ (Word 5 ∷ []) ∷ []) ∷ []
one_list_lists = refl

-- int f(int x, int y) {int *p = &y; int z; {int a[] = {1};}} int main(void) {}
abbrev with_parameters : UnitTree
with_parameters =
    function (codes "f") (parameter (codes "x") ∷ parameter (codes "y") ∷ [])
    (with_start 1 (codes "p") Plain (One (Node (Prefix prefix.Address (Node (Name (codes "y")) 0)) 0)) ∷ object 0 (codes "z") Plain ∷ [])
    (statement (Block (array (codes "a") (number 1 ∷ []) ∷ []) no_statement 0) no_statement)
    ∷ function (codes "main") [] [] no_statement ∷ []

-- x, y, p, z and a: the address of y is taken, and a is an array
parameters_declared : declared_by with_parameters ≡ (Scalar 0 ∷ Local 0 ∷ Scalar 1 ∷ Scalar 2 ∷ Local 1 ∷ []) ∷ [] ∷ []
parameters_declared = refl

parameters_filled : filled_by with_parameters ≡ (1 ∷ []) ∷ [] ∷ []
parameters_filled = refl

parameters_lists : lists_of with_parameters ≡ ([] ∷ (Word 1 ∷ []) ∷ []) ∷ [] ∷ []
parameters_lists = refl

-- int main(void) {int a[] = {1}; int *p = a;}
abbrev used : UnitTree
used =
    function (codes "main") [] (array (codes "a") (number 1 ∷ []) ∷ with_start 1 (codes "p") Plain (One (Node (Name (codes "a")) 0)) ∷ []) no_statement ∷ []

-- the fill of a, and then p and a in the assignment
used_names : names_of used ≡ (Local 0 ∷ Scalar 0 ∷ Local 0 ∷ []) ∷ []
used_names = refl

-- int main(void) {int a[1] = {};}, which no text has: an array that is filled without a list
abbrev empty_braces : UnitTree
empty_braces = function (codes "main") [] (with_start 0 (codes "a") (Array (Some (number 1))) (Braced [] 0) ∷ []) no_statement ∷ []

empty_filled : filled_by empty_braces ≡ (0 ∷ []) ∷ []
empty_filled = refl

empty_lists : lists_of empty_braces ≡ ([] ∷ []) ∷ []
empty_lists = refl

-- functions that no source has
abbrev with_body : Stmt → FunctionTree
with_body body = record {
  name = codes "f";
  result = None;
  params = [];
  scalars = [];
  locals = record { name = codes "a"; length = 1; kind = kinds.int; initial = Word 1 ∷ [] } ∷ [];
  body = body;
}

-- an object of two blocks
abbrev twice : FunctionTree
twice = with_body (tree.Block [] (tree.both (tree.Block (Local 0 ∷ []) tree.done) (tree.both (tree.Block (Local 0 ∷ []) tree.done) tree.done)))

declared_twice : occurrences 0 (local_numbers (declared_in_function twice)) ≡ 2
declared_twice = refl

-- an array that a block within that of its declaration fills
abbrev astray : FunctionTree
astray = with_body (tree.Block (Local 0 ∷ []) (tree.both (tree.Block [] (tree.both (tree.Fill 0) tree.done)) tree.done))

filled_astray : FilledWhereDeclared astray → ⊥
filled_astray own = absurd (cc own.0.0)

-- an array whose address is taken before it is filled
abbrev early : FunctionTree
early = with_body (tree.Block (Local 0 ∷ [])
    (tree.both (tree.Do_expr (tree.Node (tree.AddressOf (Local 0)) (Some (kinds.pointer_to kinds.int)) 0)) (tree.both (tree.Fill 0) tree.done)))

used_early : FilledBeforeUse early → ⊥
used_early first = absurd (cc first.0.0)

-- an array that is used behind its block
abbrev late : FunctionTree
late = with_body (tree.Block [] (tree.both (tree.Block (Local 0 ∷ []) tree.done)
    (tree.both (tree.Do_expr (tree.Node (tree.AddressOf (Local 0)) (Some (kinds.pointer_to kinds.int)) 0)) tree.done)))

used_late : UsedWhereDeclared late → ⊥
used_late known = absurd (cc known.1.0.0)

-- an array that is filled in two places, and one that is filled in none
abbrev again : FunctionTree
again = with_body (tree.Block (Local 0 ∷ []) (tree.both (tree.Fill 0) (tree.both (tree.Fill 0) tree.done)))

filled_again : FilledOnce again → ⊥
filled_again once = absurd (omega (arith, once 0, two))
  where
    two : occurrences 0 (filled_in again.body) ≡ 2
    two = refl

abbrev never : FunctionTree
never = with_body (tree.Block (Local 0 ∷ []) tree.done)

never_filled : FilledIfListed never → ⊥
never_filled listed = absurd (cc (listed.locals 0 _ refl (λ empty. absurd (cc empty))))
