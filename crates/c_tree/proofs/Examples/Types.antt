-- Short names with which the programs of the examples are written.
use Rattle.std.specs.Prelude.{ℕ, ◌==◌, if◌then◌else◌, List, [], ◌∷◌, codes, map, Some, None}
use Rattle.c_syntax.specs.word_base.Ports.{Input}
use Rattle.c_tree.specs.declared.program.Base.TheVariants as base
use Rattle.c_tree.specs.declared.program.ScalarType.{ScalarType}
use Rattle.c_tree.specs.declared.program.VarRef.{VarRef}
use Rattle.c_tree.specs.declared.program.Initial.{Initial}
use Rattle.c_tree.specs.declared.program.Initial.TheVariants as initial
use Rattle.c_tree.specs.TypedTree.{Kind, Expr, Form, Node, Stmt, ObjectTree, FunctionTree, ProgramTree}

-- the types
abbrev pub int : ScalarType
int = record { base = base.Int; stars = 0 }

abbrev pub unsigned : ScalarType
unsigned = record { base = base.Unsigned; stars = 0 }

abbrev pub int_pointer : ScalarType
int_pointer = record { base = base.Int; stars = 1 }

abbrev pub int_pointer_pointer : ScalarType
int_pointer_pointer = record { base = base.Int; stars = 2 }

abbrev pub void_pointer : ScalarType
void_pointer = record { base = base.Void; stars = 1 }

-- expressions of each type, at their places
abbrev pub int_at : ℕ → Form → Expr
int_at place form = Node form (Some int) place

abbrev pub unsigned_at : ℕ → Form → Expr
unsigned_at place form = Node form (Some unsigned) place

abbrev pub pointer_at : ℕ → Form → Expr
pointer_at place form = Node form (Some int_pointer) place

abbrev pub pointer_pointer_at : ℕ → Form → Expr
pointer_pointer_at place form = Node form (Some int_pointer_pointer) place

abbrev pub void_pointer_at : ℕ → Form → Expr
void_pointer_at place form = Node form (Some void_pointer) place

abbrev pub void_at : ℕ → Form → Expr
void_at place form = Node form None place

-- an initialiser of words
abbrev pub words : List ℕ → List Initial
words ws = map (λ w. initial.Word w) ws

-- an object without a name, of some cells of a type, with its list
abbrev pub object : ℕ → ScalarType → List Initial → ObjectTree
object length kind list = record { name = []; length = length; kind = kind; initial = list }

-- a function by its name, type, parameters, scalars, local objects and body
abbrev pub function : List ℕ → Kind → List VarRef → List ScalarType → List ObjectTree → Stmt → FunctionTree
function name result params scalars locals body =
    record { name = name; result = result; params = params; scalars = scalars; locals = locals; body = body }

-- `int main(void)` by its scalars, local objects and body
abbrev pub main_with : List ScalarType → List ObjectTree → Stmt → FunctionTree
main_with scalars locals body = function (codes "main") (Some int) [] scalars locals body

-- a program by its static objects and its functions
abbrev pub program : List ObjectTree → List FunctionTree → ProgramTree
program statics functions = record { statics = statics; functions = functions }

-- a program of one function
abbrev pub alone : FunctionTree → ProgramTree
alone f = program [] (f ∷ [])

-- no port has a word
abbrev pub silent : Input
silent = λ port. []

-- port 0 has these words, and no other port has one
abbrev pub on_port_0 : List ℕ → Input
on_port_0 ws = λ port. if port == 0 then ws else []
