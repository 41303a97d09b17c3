-- Statements and the bodies of functions: ISO 9899:1990 6.6 and 6.5.7 (docs/LANGUAGE.md, "Types"). The objects of a function
-- are numbered in order of declaration.
use Rattle.std.specs.Prelude.{ℕ, ◌||◌, not, Bool, true, false, if◌then◌else◌, List, [], ◌∷◌, ◌++◌, length, is_some, Option, Some, None}
use Rattle.c_tree.specs.declared.program.Base.{Base}
use Rattle.c_tree.specs.declared.program.VarRef.{VarRef}
use Rattle.c_tree.specs.declared.program.VarRef.TheVariants as refs
use Rattle.c_tree.specs.declared.program.Initial.{Initial}
use Rattle.c_tree.specs.c_syntax.SyntaxTree as tree
use Rattle.c_tree.specs.c_syntax.SyntaxTree.{Expression, ItemTree, ItemForm, InitialTree, DeclarationTree, Statement, Statements, no_statement, statement, no_choice, case_label, default_label, chosen}
use Rattle.c_tree.specs.TypedTree.{Kind, Expr, Node, Assign, Named, Stmt, Block, Fill, Do_expr, If, While, Do_while, For, Switch, Break, Continue, Return, Stmts, done, both, Choices, no_more, case, default, body}
use Rattle.c_tree.specs.Eval.{kind_of, points}
pub use Rattle.c_tree.specs.Labels.{may_break, may_continue, in_switch, has_case, has_default, repeats_label}
use Rattle.c_rules.specs.declared.meaning.Declared.{Declared}
use Rattle.c_rules.specs.declared.meaning.Declared.TheVariants as declares
use Rattle.c_rules.specs.declared.fault.Rule.TheVariants.{Redeclared, Mismatch, Misplaced}
use Rattle.c_tree.specs.declared.enclosing.Enclosing.{Enclosing}
use Rattle.c_tree.specs.declared.enclosing.Enclosing.TheVariants as around
use Rattle.c_rules.specs.declared.meaning.Meaning.TheVariants as meanings
use Rattle.c_rules.specs.declared.meaning.ObjectType.{ObjectType}
use Rattle.c_rules.specs.declared.meaning.ObjectType.TheVariants.{Single, Array}
use Rattle.c_rules.specs.Outcome.{Outcome, Is, Broken, ◌>>=◌, breaks}
use Rattle.c_rules.specs.Kinds.{class_of, is_void}
use Rattle.c_rules.specs.Operands.{Operand, given, is_integer}
use Rattle.c_rules.specs.Renumbering.{number_in}
use Rattle.c_rules.specs.Scopes.{Scope, open_scope, declare, is_taken}
use Rattle.c_rules.specs.Typing.{plain, typing, operand, constant_typing, word_at}
use Rattle.c_rules.specs.Declarations.{declarator, Entry, entries, array_list}

-- an object of a function: its name, its type, and the list of an initialised array
pub record LocalTree : Type 0 where
  pub name : List ℕ
  pub object_type : ObjectType
  pub values : List Initial

-- what an object is initialised with: nothing, a value, a list of static initialisers, or values in braces where none may be
pub data Initialiser : Type 0 where
  Absent : Initialiser
  Value : Operand → Initialiser
  Listed : List Entry → Initialiser
  Misbraced : Initialiser

-- the values of a braced initialiser of what is no array
abbrev pub all_typed : Scope → List Expression → Outcome Initialiser
all_typed s [] = Is Misbraced
all_typed s (e ∷ es) = typing s e >>= λ x. all_typed s es

abbrev pub is_array : ItemForm → Bool
is_array (tree.Array mark) = true
is_array form = false

-- the initialiser of an object of a block: 6.5.7. The list of an array is known before the program runs.
abbrev pub initialiser : Scope → Bool → Option InitialTree → Outcome Initialiser
initialiser s array None = Is Absent
initialiser s array (Some (tree.One e)) = typing s e >>= λ x. Is (Value (operand e x))
initialiser s true (Some (tree.Braced es at)) = entries s es >>= λ xs. Is (Listed xs)
initialiser s false (Some (tree.Braced es at)) = all_typed s es

-- a list, and statements that give an object its first value
pub record ObjectStart : Type 0 where
  pub values : List Initial
  pub statements : List Stmt

-- the start of an object: a scalar is assigned to, an array is filled
abbrev pub started : VarRef → ObjectType → ℕ → Initialiser → Outcome ObjectStart
started r type at Absent = Is (record { values = []; statements = [] })
started r (Single kind) at (Value x) = given kind at x >>= λ v.
    Is (record { values = []; statements = Do_expr (Node (Assign (Named r at) v) (Some kind) at) ∷ [] })
started r (Array kind n) at (Listed es) = array_list kind n at es >>= λ is.
    Is (record { values = is; statements = Fill (number_in r) ∷ [] })
started r type at i = Broken Mismatch at

-- what declarations have made so far: the scope, the objects of the function, those of the block, and their first values
pub record Opened : Type 0 where
  pub scope : Scope
  pub locals : List LocalTree
  pub declared : List VarRef
  pub statements : List Stmt

abbrev pub is_given : Option InitialTree → Bool
is_given i = is_some i

-- the scope with a declared object, whose own initialiser sees it; what can't be declared isn't seen
abbrev pub with_named_object : Scope → List ℕ → VarRef → Declared → Scope
with_named_object s name r (declares.Object type) = if is_taken s name then s else declare s name (meanings.Object r type)
with_named_object s name r d = s

-- the object that is declared, with its start
abbrev pub placed : Opened → Scope → List ℕ → VarRef → ObjectType → ObjectStart → Opened
placed o s name r type start = record {
  scope = s;
  locals = o.locals ++ record { name = name; object_type = type; values = start.values } ∷ [];
  declared = o.declared ++ r ∷ [];
  statements = o.statements ++ start.statements;
}

-- an item of a block: 6.5.4. A function can't be declared there.
abbrev pub declared_as : Opened → Scope → VarRef → Declared → ItemTree → Initialiser → Outcome Opened
declared_as o s r declares.Untyped item i = Broken Mismatch item.at
declared_as o s r (declares.Function type) item i = breaks (is_some item.initial) Mismatch item.at (Broken Misplaced item.at)
declared_as o s r (declares.Object type) item i = started r type item.at i >>= λ start. Is (placed o s item.name r type start)

-- one that stands for this
abbrev pub item_as : Opened → VarRef → Base → ItemTree → Outcome Opened
item_as o r b item = declarator o.scope b item.form item.stars item.initial >>= λ d.
    initialiser (with_named_object o.scope item.name r d) (is_array item.form) item.initial >>= λ i.
    breaks (is_taken o.scope item.name) Redeclared item.at
    (declared_as o (with_named_object o.scope item.name r d) r d item i)

abbrev pub block_item : Opened → Base → ItemTree → Outcome Opened
block_item o b item = item_as o (refs.Local (length o.locals)) b item

abbrev pub block_items : Opened → Base → List ItemTree → Outcome Opened
block_items o b [] = Is o
block_items o b (item ∷ items) = block_item o b item >>= λ p. block_items p b items

abbrev pub declarations : Opened → List DeclarationTree → Outcome Opened
declarations o [] = Is o
declarations o (d ∷ ds) = plain d.specs >>= λ b. block_items o b d.items >>= λ p. declarations p ds

-- statements with the objects of the function so far
pub record Typed (A : Type 0) : Type 0 where
  pub tree : A
  pub locals : List LocalTree

abbrev pub just : {A : Type 0} → A → List LocalTree → Outcome (Typed A)
just tree locals = Is (record { tree = tree; locals = locals })

-- statements before others
abbrev pub before : List Stmt → Stmts → Stmts
before [] rest = rest
before (s ∷ ss) rest = both s (before ss rest)

-- an expression that may be absent
abbrev pub optional : Scope → Option Expression → Outcome (Option Expr)
optional s None = Is None
optional s (Some e) = typing s e >>= λ x. Is (Some x)

abbrev pub is_void_test : Option Expr → Bool
is_void_test None = false
is_void_test (Some e) = is_void (kind_of e)

-- the value of a return from a function of this type: 6.6.6.4
abbrev pub typed_return : Kind → ℕ → Operand → Outcome Expr
typed_return None at x = Broken Mismatch at
typed_return (Some kind) at x = given kind at x

-- choices, and whether a label among them is a pointer
pub record Labelled : Type 0 where
  pub choices : Choices
  pub pointer : Bool

abbrev pub behind_case : ℕ → Bool → Typed Labelled → Typed Labelled
behind_case w pointer r = record { tree = record { choices = case w r.tree.choices; pointer = pointer || r.tree.pointer }; locals = r.locals }

abbrev pub behind_default : Typed Labelled → Typed Labelled
behind_default r = record { tree = record { choices = default r.tree.choices; pointer = r.tree.pointer }; locals = r.locals }

abbrev pub behind_body : Stmt → Typed Labelled → Typed Labelled
behind_body s r = record { tree = record { choices = body s r.tree.choices; pointer = r.tree.pointer }; locals = r.locals }

abbrev pub opened_in : Scope → List LocalTree → Opened
opened_in s locals = record { scope = s; locals = locals; declared = []; statements = [] }

-- the statements of a function with a result of this type
module _ (result : Kind) where
  abbrev mutual
    pub typed_statement : Scope → Enclosing → List LocalTree → Statement → Outcome (Typed Stmt)
    -- expressions and blocks: 6.6.2 and 6.6.3
    typed_statement s c ls (tree.Empty at) = just (Block [] done) ls
    typed_statement s c ls (tree.Evaluate e at) = typing s e >>= λ x. just (Do_expr x) ls
    typed_statement s c ls (tree.Block ds ss at) = declarations (opened_in (open_scope s) ls) ds >>= λ o.
        typed_statements o.scope c o.locals ss >>= λ r. just (Block o.declared (before o.statements r.tree)) r.locals
    -- jumps: 6.6.6
    typed_statement s c ls (tree.Break at) = breaks (not (may_break c)) Misplaced at (just Break ls)
    typed_statement s c ls (tree.Continue at) = breaks (not (may_continue c)) Misplaced at (just Continue ls)
    typed_statement s c ls (tree.Return None at) = breaks (not (is_void result)) Mismatch at (just (Return None) ls)
    typed_statement s c ls (tree.Return (Some e) at) = typing s e >>= λ x. typed_return result at (operand e x) >>= λ v. just (Return (Some v)) ls
    -- choices: 6.6.4
    typed_statement s c ls (tree.If e a at) = typing s e >>= λ x. typed_statement s c ls a >>= λ p.
        breaks (is_void (kind_of x)) Mismatch at (just (If x p.tree (Block [] done)) p.locals)
    typed_statement s c ls (tree.IfElse e a b at) = typing s e >>= λ x. typed_statement s c ls a >>= λ p.
        typed_statement s c p.locals b >>= λ q. breaks (is_void (kind_of x)) Mismatch at (just (If x p.tree q.tree) q.locals)
    typed_statement s c ls (tree.Switch e cs place at) = typing s e >>= λ x. typed_choices s (in_switch c) ls cs >>= λ r.
        breaks (repeats_label r.tree.choices) Redeclared place
        (breaks r.tree.pointer Mismatch place
        (breaks (not (is_integer (class_of (kind_of x)))) Mismatch at (just (Switch x r.tree.choices) r.locals)))
    -- loops: 6.6.5
    typed_statement s c ls (tree.While e a at) = typing s e >>= λ x. typed_statement s around.Loop ls a >>= λ p.
        breaks (is_void (kind_of x)) Mismatch at (just (While x p.tree) p.locals)
    typed_statement s c ls (tree.DoWhile a e at) = typed_statement s around.Loop ls a >>= λ p. typing s e >>= λ x.
        breaks (is_void (kind_of x)) Mismatch at (just (Do_while p.tree x) p.locals)
    typed_statement s c ls (tree.For first test third a at) = optional s first >>= λ x. optional s test >>= λ y. optional s third >>= λ z.
        typed_statement s around.Loop ls a >>= λ p. breaks (is_void_test y) Mismatch at (just (For x y z p.tree) p.locals)

    pub typed_statements : Scope → Enclosing → List LocalTree → Statements → Outcome (Typed Stmts)
    typed_statements s c ls no_statement = just done ls
    typed_statements s c ls (statement a rest) = typed_statement s c ls a >>= λ p. typed_statements s c p.locals rest >>= λ r.
        just (both p.tree r.tree) r.locals

    pub typed_choices : Scope → Enclosing → List LocalTree → tree.Choices → Outcome (Typed Labelled)
    typed_choices s c ls no_choice = just (record { choices = no_more; pointer = false }) ls
    typed_choices s c ls (case_label e rest) = constant_typing s e >>= λ x. word_at e x >>= λ w. typed_choices s c ls rest >>= λ r.
        Is (behind_case w (points (kind_of x)) r)
    typed_choices s c ls (default_label rest) = typed_choices s c ls rest >>= λ r. Is (behind_default r)
    typed_choices s c ls (chosen a rest) = typed_statement s c ls a >>= λ p. typed_choices s c p.locals rest >>= λ r.
        Is (behind_body p.tree r)

  -- a body, in the scope of the parameters: its declarations stand in that scope
  abbrev pub typed_body : Scope → List LocalTree → List DeclarationTree → Statements → Outcome (Typed Stmt)
  typed_body s ls ds ss = declarations (opened_in s ls) ds >>= λ o.
      typed_statements o.scope around.Body o.locals ss >>= λ r. just (Block o.declared (before o.statements r.tree)) r.locals
