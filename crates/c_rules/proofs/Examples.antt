-- Walks over small sources, computed: each node with all rules that it breaks. Above each tree stands its source. A place is a number of
-- bytes in that source, which begins behind the `-- ` of its line.
use Rattle.std.specs.Prelude.{ℕ, true, false, codes, List, [], ◌∷◌, Option, Some, None}
use Rattle.std.proofs.Common.{◌≡◌, refl}
use Rattle.c_tree.specs.c_syntax.declared.syntax.SpecWord.TheVariants.{Int, Static, Void}
use Rattle.c_tree.specs.c_syntax.SyntaxTree.{SpecsTree, Expression, Node, Name, Number, Call, Assign, no_argument, argument, ItemTree, ItemForm, Plain, Parameters, InitialTree, One, DeclarationTree, ParameterTree, Statements, Empty, Return, Switch, no_statement, statement, no_choice, case_label, chosen, ExternalTree, Defined, Declared, UnitTree}
use Rattle.c_rules.specs.declared.fault.Rule.TheVariants.{Redeclared, Mismatch, NotLvalue, NotConstant, BadPort, ArgCount, Misplaced}
use Rattle.c_rules.specs.Visits.{visit, first}
use Rattle.c_rules.specs.Walk.{walk}

abbrev int : ℕ → SpecsTree
int at = record { words = Int ∷ []; at = at }

abbrev number : ℕ → ℕ → Expression
number value at = Node (Number value false true) at

abbrev item : ℕ → List ℕ → ItemForm → Option InitialTree → ℕ → ItemTree
item stars name form initial at = record { stars = stars; name = name; form = form; initial = initial; at = at }

abbrev declaration : SpecsTree → List ItemTree → DeclarationTree
declaration specs items = record { specs = specs; items = items; at = specs.at }

abbrev parameter : SpecsTree → List ℕ → ParameterTree
parameter specs name = record { specs = specs; stars = 0; name = Some name; array = None; at = specs.at }

-- a function of type int, with the places of its parameters and of its body
abbrev function : List ℕ → ℕ → ℕ → ℕ → List ParameterTree → List DeclarationTree → Statements → ExternalTree
function name at parameters_at body_at parameters declarations statements = Defined (record {
  specs = int at;
  stars = 0;
  name = name;
  parameters = record { list = parameters; at = parameters_at };
  declarations = declarations;
  statements = statements;
  body_at = body_at;
  at = at;
})

-- int *p; int main(void) {return 1 = p;}
abbrev pub assigned : UnitTree
assigned = Declared (declaration (int 0) (item 1 (codes "p") Plain None 4 ∷ []))
    ∷ function (codes "main") 8 17 23 [] [] (statement (Return (Some (Node (Assign (number 1 31) (Node (Name (codes "p")) 35)) 31)) 24) no_statement) ∷ []

assigned_walk : walk assigned ≡ visit 0 [] ∷ visit 4 [] ∷ visit 8 [] ∷ visit 31 [] ∷ visit 35 [] ∷ visit 31 (Mismatch ∷ NotLvalue ∷ []) ∷ visit 24 [] ∷ visit 8 [] ∷ []
assigned_walk = refl

assigned_first : first (walk assigned) ≡ Some (record { rule = Mismatch; at = 31 })
assigned_first = refl

-- int main(void) {switch (1) {case __in(16, 1): ;} return 0;}
abbrev pub labelled : UnitTree
labelled = function (codes "main") 0 9 15 [] []
    (statement (Switch (number 1 24) (case_label (Node (Call (codes "__in") (argument (number 16 38) (argument (number 1 42) no_argument))) 33) (chosen (Empty 46) no_choice)) 27 16)
    (statement (Return (Some (Node (Number 0 false false) 56)) 49) no_statement)) ∷ []

labelled_walk : walk labelled ≡ visit 0 [] ∷ visit 24 [] ∷ visit 38 [] ∷ visit 42 [] ∷ visit 33 (BadPort ∷ ArgCount ∷ NotConstant ∷ []) ∷ visit 46 [] ∷ visit 27 [] ∷ visit 16 [] ∷ visit 0 [] ∷ []
labelled_walk = refl

labelled_first : first (walk labelled) ≡ Some (record { rule = NotConstant; at = 33 })
labelled_first = refl

-- int f(int n) {return n;} int main(void) {int *p; return f(p, 1);}
abbrev pub called : UnitTree
called = function (codes "f") 0 6 13 (parameter (int 6) (codes "n") ∷ []) [] (statement (Return (Some (Node (Name (codes "n")) 21)) 14) no_statement)
    ∷ function (codes "main") 25 34 40 [] (declaration (int 41) (item 1 (codes "p") Plain None 45 ∷ []) ∷ [])
    (statement (Return (Some (Node (Call (codes "f") (argument (Node (Name (codes "p")) 58) (argument (number 1 61) no_argument))) 56)) 49) no_statement) ∷ []

called_walk : walk called ≡ visit 0 [] ∷ visit 6 [] ∷ visit 6 [] ∷ visit 21 [] ∷ visit 14 [] ∷ visit 0 []
    ∷ visit 25 [] ∷ visit 41 [] ∷ visit 45 [] ∷ visit 58 [] ∷ visit 61 [] ∷ visit 56 (Mismatch ∷ ArgCount ∷ []) ∷ visit 49 [] ∷ visit 25 [] ∷ []
called_walk = refl

called_first : first (walk called) ≡ Some (record { rule = Mismatch; at = 56 })
called_first = refl

-- int main(void) {int f; int f(void) = 1; return 2;}
abbrev pub misplaced : UnitTree
misplaced = function (codes "main") 0 9 15 []
    (declaration (int 16) (item 0 (codes "f") Plain None 20 ∷ [])
    ∷ declaration (int 23) (item 0 (codes "f") (Parameters (record { list = []; at = 29 })) (Some (One (number 1 37))) 27 ∷ []) ∷ [])
    (statement (Return (Some (number 2 47)) 40) no_statement) ∷ []

misplaced_walk : walk misplaced ≡ visit 0 [] ∷ visit 16 [] ∷ visit 20 [] ∷ visit 23 [] ∷ visit 37 [] ∷ visit 27 (Redeclared ∷ Mismatch ∷ Misplaced ∷ []) ∷ visit 0 [] ∷ []
misplaced_walk = refl

misplaced_first : first (walk misplaced) ≡ Some (record { rule = Redeclared; at = 27 })
misplaced_first = refl

-- int f(int a, static void a);
abbrev pub declared : UnitTree
declared = Declared (declaration (int 0)
    (item 0 (codes "f") (Parameters (record { list = parameter (int 6) (codes "a") ∷ parameter (record { words = Static ∷ Void ∷ []; at = 13 }) (codes "a") ∷ []; at = 6 })) None 4 ∷ [])) ∷ []

declared_walk : walk declared ≡ visit 0 [] ∷ visit 6 [] ∷ visit 6 [] ∷ visit 13 (Misplaced ∷ []) ∷ visit 13 [] ∷ []
declared_walk = refl

-- int f(int a, void a);
abbrev pub repeated : UnitTree
repeated = Declared (declaration (int 0)
    (item 0 (codes "f") (Parameters (record { list = parameter (int 6) (codes "a") ∷ parameter (record { words = Void ∷ []; at = 13 }) (codes "a") ∷ []; at = 6 })) None 4 ∷ [])) ∷ []

repeated_walk : walk repeated ≡ visit 0 [] ∷ visit 6 [] ∷ visit 6 [] ∷ visit 13 [] ∷ visit 13 (Redeclared ∷ Mismatch ∷ []) ∷ []
repeated_walk = refl
