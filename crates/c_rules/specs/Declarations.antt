-- Declarations: ISO 9899:1990 6.5 (docs/LANGUAGE.md, "Types").
use Rattle.std.specs.Prelude.{ℕ, ◌==◌, ◌||◌, nat_lt, Bool, false, if◌then◌else◌, List, [], ◌∷◌, length, is_some, is_none, Option, Some, None}
use Rattle.c_tree.specs.declared.program.Base.{Base}
use Rattle.c_tree.specs.declared.program.ScalarType.{ScalarType}
use Rattle.c_tree.specs.declared.program.VarRef.{VarRef}
use Rattle.c_tree.specs.declared.program.VarRef.TheVariants as refs
use Rattle.c_tree.specs.declared.program.Initial.{Initial}
use Rattle.c_tree.specs.declared.program.Initial.TheVariants as initial
use Rattle.c_tree.specs.c_syntax.declared.operator.BinaryOp.TheVariants as op
use Rattle.c_tree.specs.c_syntax.declared.syntax.PrefixOp.TheVariants as prefix
use Rattle.c_tree.specs.c_syntax.SyntaxTree as tree
use Rattle.c_tree.specs.c_syntax.SyntaxTree.{Expression, ArrayMark, ParameterTree, ParametersTree, ItemForm, InitialTree}
use Rattle.c_tree.specs.TypedTree.{Kind, Expr, Node, Binary}
use Rattle.c_tree.specs.Eval.{kind_of, points}
use Rattle.c_rules.specs.declared.meaning.Declared.{Declared}
use Rattle.c_rules.specs.declared.meaning.Declared.TheVariants as declares
use Rattle.c_rules.specs.declared.fault.Rule.TheVariants.{Redeclared, Mismatch, NotConstant}
use Rattle.c_rules.specs.declared.local.Naming.{Naming}
use Rattle.c_rules.specs.declared.local.Naming.TheVariants.{Needed, Free}
use Rattle.c_rules.specs.declared.meaning.Meaning.{Meaning}
use Rattle.c_rules.specs.declared.meaning.Meaning.TheVariants as meanings
use Rattle.c_rules.specs.declared.meaning.ObjectType.TheVariants.{Single, Array}
use Rattle.c_rules.specs.Outcome.{Outcome, Is, ◌>>=◌, breaks, there_or}
use Rattle.c_rules.specs.Kinds.{starred}
use Rattle.c_rules.specs.Operands.{Operand, given, address_kind}
use Rattle.c_rules.specs.Constants.{constant}
use Rattle.c_rules.specs.Scopes.{Scope, open_scope, declare, is_taken}
use Rattle.c_rules.specs.Typing.{plain, operand, place, constant_typing, word_at}
use Rattle.c_tree.specs.declared.limits.TheConstants.{MOST_CELLS}

-- a length of 1 to 32,767
abbrev pub length_within : ℕ → Option ℕ
length_within n = if n == 0 || nat_lt MOST_CELLS n then None else Some n

-- a constant length, where it may be one
abbrev pub typed_length : Scope → Expression → Outcome (Option ℕ)
typed_length s e = constant_typing s e >>= λ x. word_at e x >>= λ w. Is (length_within w)

-- parameters: an array is a pointer, whose length is only looked at: 6.7.1
abbrev pub parameter_kind : Base → ParameterTree → Kind
parameter_kind b p = if is_some p.array then address_kind (starred b p.stars) else starred b p.stars

abbrev pub is_bad_length : Scope → ArrayMark → Outcome Bool
is_bad_length s None = Is false
is_bad_length s (Some None) = Is false
is_bad_length s (Some (Some e)) = typed_length s e >>= λ n. Is (is_none n)

abbrev pub is_name_taken : Scope → Option (List ℕ) → Bool
is_name_taken s None = false
is_name_taken s (Some name) = is_taken s name

abbrev pub lacks_name : Naming → Option (List ℕ) → Bool
lacks_name Free name = false
lacks_name Needed name = is_none name

abbrev pub parameter : Scope → Naming → ParameterTree → Outcome ScalarType
parameter s naming p = plain p.specs >>= λ b. is_bad_length s p.array >>= λ bad.
    breaks (is_name_taken s p.name) Redeclared p.specs.at
    (breaks (bad || lacks_name naming p.name) Mismatch p.specs.at
    (there_or Mismatch p.specs.at (parameter_kind b p)))

-- the scope with an object of one cell, where it has a name
abbrev pub with_single : Scope → Option (List ℕ) → VarRef → ScalarType → Scope
with_single s None r kind = s
with_single s (Some name) r kind = declare s name (meanings.Object r (Single kind))

-- the types of parameters, of which `before` stand before them
abbrev pub parameters : Scope → Naming → List ParameterTree → Outcome (List ScalarType)
parameters s naming [] = Is []
parameters s naming (p ∷ ps) = parameter s naming p >>= λ kind.
    parameters (with_single s p.name (refs.Local 0) kind) naming ps >>= λ kinds. Is (kind ∷ kinds)

-- what a declarator declares: an object or a function, unless its type is none
abbrev pub single : Kind → Declared
single None = declares.Untyped
single (Some kind) = declares.Object (Single kind)

abbrev pub array : Kind → Option ℕ → Declared
array (Some kind) (Some n) = declares.Object (Array kind n)
array kind n = declares.Untyped

-- a list gives an array its length, where none is written: 6.5.7
abbrev pub listed_length : Option InitialTree → Option ℕ
listed_length (Some (tree.Braced es at)) = length_within (length es)
listed_length i = None

-- a function without its body, whose parameters have a scope of their own
abbrev pub prototype : Scope → Kind → ParametersTree → Outcome Declared
prototype s result ps = parameters (open_scope s) Free ps.list >>= λ kinds.
    Is (declares.Function (record { result = result; parameters = kinds }))

abbrev pub declarator : Scope → Base → ItemForm → ℕ → Option InitialTree → Outcome Declared
declarator s b tree.Plain stars i = Is (single (starred b stars))
declarator s b (tree.Array None) stars i = Is (array (starred b stars) (listed_length i))
declarator s b (tree.Array (Some e)) stars i = typed_length s e >>= λ n. Is (array (starred b stars) n)
declarator s b (tree.Parameters ps) stars i = prototype s (starred b stars) ps

-- what an array's name and an index stand for as a static initialiser, with the place behind its end as the last index
abbrev pub static_cell : Option Meaning → Option ℕ → Option Initial
static_cell (Some (meanings.Object (refs.Static v) (Array kind n))) (Some i) = if nat_lt n i then None else Some (initial.Address v i)
static_cell m i = None

-- the address of a name alone: that of a static scalar, which is written with an `&`
abbrev pub static_scalar : Option Meaning → Option Initial
static_scalar (Some (meanings.Object (refs.Static v) (Single kind))) = Some (initial.Address v 0)
static_scalar m = None

-- the second operand of the sum that an index or a sum stands for
abbrev pub index_in : Expression → Expr → Option ℕ
index_in c (Node (Binary o x y) kind at) = constant c y
index_in c x = None

-- the cell of this index of the array that an operand names, and the address of an operand
abbrev pub named_cell : Scope → Expression → Option ℕ → Option Initial
named_cell s (tree.Node (tree.Name name) at) i = static_cell (s.meaning name) i
named_cell s e i = None

abbrev pub address_of : Scope → Expression → Expr → Option Initial
address_of s (tree.Node (tree.Name name) at) x = static_scalar (s.meaning name)
address_of s (tree.Node (tree.Index a c) at) x = named_cell s a (index_in c x)
address_of s e x = None

-- an address that is known before the program runs: an array's name, `&name`, `name + c` and `&name[c]`, 6.4
abbrev pub static_address : Scope → Expression → Expr → Option Initial
static_address s (tree.Node (tree.Name name) at) x = static_cell (s.meaning name) (Some 0)
static_address s (tree.Node (tree.Binary op.Add a c) at) x = named_cell s a (index_in c x)
static_address s (tree.Node (tree.Prefix prefix.Address a) at) x = address_of s a x
static_address s e x = None

-- a word, or null where the type is a pointer's
abbrev pub initial_word : Kind → ℕ → Initial
initial_word kind w = if points kind then initial.Null else initial.Word w

abbrev pub or_address : Option ℕ → Kind → Option Initial → Option Initial
or_address None kind address = address
or_address (Some w) kind address = Some (initial_word kind w)

-- what a static initialiser stands for, where it is one: 6.5.7
abbrev pub static_value : Scope → Expression → Expr → Option Initial
static_value s e x = or_address (constant e x) (kind_of x) (static_address s e x)

-- a static initialiser: its operand, and what it stands for
pub record Entry : Type 0 where
  pub operand : Operand
  pub initial : Initial

abbrev pub entry : Scope → Expression → Outcome Entry
entry s e = constant_typing s e >>= λ x. there_or NotConstant (place e) (static_value s e x) >>= λ i.
    Is (record { operand = operand e x; initial = i })

abbrev pub entries : Scope → List Expression → Outcome (List Entry)
entries s [] = Is []
entries s (e ∷ es) = entry s e >>= λ x. entries s es >>= λ xs. Is (x ∷ xs)

-- an entry as the value of a cell of this type
abbrev pub cell_value : ScalarType → Initial → Initial
cell_value kind (initial.Word w) = initial_word (Some kind) w
cell_value kind i = i

abbrev pub cell : ScalarType → ℕ → Entry → Outcome Initial
cell kind at e = given kind at e.operand >>= λ v. Is (cell_value kind e.initial)

abbrev pub cells : ScalarType → ℕ → List Entry → Outcome (List Initial)
cells kind at [] = Is []
cells kind at (e ∷ es) = cell kind at e >>= λ i. cells kind at es >>= λ is. Is (i ∷ is)

-- the list of an array
abbrev pub array_list : ScalarType → ℕ → ℕ → List Entry → Outcome (List Initial)
array_list kind n at es = breaks (nat_lt n (length es)) Mismatch at (cells kind at es)
