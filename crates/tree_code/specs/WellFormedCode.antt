-- Well-formed word trees: references are in range, calls have an argument for each parameter, ports are below 16, jumps stand where there
-- is something to leave, and labels differ.
use Rattle.std.specs.Prelude.{◌≡◌, ◌≢◌, ◌<◌, ◌≤◌, ⊤, ℕ, suc, ◌+◌, true, false, if◌then◌else◌, List, [], map, length, slice_get, nat_lt, All, AllPairs, Option, Some, None}
use Rattle.std.specs.List.{Any, sum_by}
use Rattle.word_base.specs.Name.{IsName}
use Rattle.c_tree.specs.declared.enclosing.Enclosing.{Enclosing}
use Rattle.c_tree.specs.declared.enclosing.Enclosing.TheVariants as around
use Rattle.c_tree.specs.declared.limits.TheConstants.{MOST_CASES, MOST_FRAME_SCALARS, MOST_FUNCTIONS, MOST_OBJECTS, MOST_PARAMETERS}
use Rattle.c_tree.specs.declared.program.VarRef.{VarRef}
use Rattle.c_tree.specs.declared.program.VarRef.TheVariants.{Scalar, Local, Static}
use Rattle.c_tree.specs.Labels.{may_break, may_continue, in_switch}
use Rattle.c_tree.specs.Rounds.{CallsAmong, HasNoRound}
use Rattle.c_tree.specs.SourceRun.{main_name}
use Rattle.c_tree.specs.TypedTree.{ObjectTree}
use Rattle.c_tree.specs.Uses.{called, case_counts}
use Rattle.c_tree.specs.WellFormed.{IsAddressable, IsAutomatic}
use Rattle.c_tree.specs.WellFormedProgram.{IsObject}
use Rattle.tree_code.specs.WordTree as tree
use Rattle.tree_code.specs.WordTree.{ExprCode, Node, LvalueCode, Named, At, FormCode, ExprsCode, none, more, StmtCode, StmtsCode, ChoicesCode, FunctionCode, ProgramCode}
use Rattle.tree_code.specs.WordLabels.{repeats_word_label}
use Rattle.tree_code.specs.WordTemporaries.{word_statement_temporaries}
use Rattle.tree_code.specs.WordUses.{word_statement_uses}

-- something that is there
abbrev pub IsThereForWords : Option ℕ → Type 0
IsThereForWords None = ⊥
IsThereForWords (Some n) = ⊤

-- how many arguments
abbrev pub argument_count : ExprsCode → ℕ
argument_count none = 0
argument_count (more e es) = suc (argument_count es)

-- a call has an argument for each parameter. That the function is there is said of all calls of a program at once
abbrev pub TakesSo : Option ℕ → ℕ → Type 0
TakesSo None n = ⊤
TakesSo (Some m) n = m ≡ n

-- an object of the function that a block may declare
pub record IsDeclared (cells : VarRef → Option ℕ) (v : VarRef) : Type 0 where
  pub automatic : IsAutomatic v
  pub there : IsThereForWords (cells v)

-- trees in a function, by how many cells the object of a name has and how many parameters a function takes
module _ (cells : VarRef → Option ℕ) (parameters : ℕ → Option ℕ) where
  abbrev mutual
    pub IsSound : ExprCode → Type 0
    IsSound (Node form at) = HasSound form

    pub HasSound : FormCode → Type 0
    HasSound (tree.Const w) = ⊤
    HasSound (tree.Read v) = cells v ≡ Some 1
    HasSound (tree.AddressOf v) = IsAddressable v × IsThereForWords (cells v)
    HasSound (tree.Load e) = IsSound e
    HasSound (tree.Unary o e) = IsSound e
    HasSound (tree.Binary o a b) = IsSound a × IsSound b
    HasSound (tree.And a b) = IsSound a × IsSound b
    HasSound (tree.Or a b) = IsSound a × IsSound b
    HasSound (tree.Not e) = IsSound e
    HasSound (tree.Pick c a b) = IsSound c × IsSound a × IsSound b
    HasSound (tree.Assign l e) = IsSoundTarget l × IsSound e
    HasSound (tree.AssignOp o l e) = IsSoundTarget l × IsSound e
    HasSound (tree.StepBefore up l) = IsSoundTarget l
    HasSound (tree.StepAfter up l) = IsSoundTarget l
    HasSound (tree.Call f es) = AreSound es × TakesSo (parameters f) (argument_count es)
    HasSound (tree.In port) = port < 16
    HasSound (tree.Out port e) = IsSound e × (port < 16)
    HasSound (tree.Comma a b) = IsSound a × IsSound b

    pub IsSoundTarget : LvalueCode → Type 0
    IsSoundTarget (Named v at) = cells v ≡ Some 1
    IsSoundTarget (At e at) = IsSound e

    pub AreSound : ExprsCode → Type 0
    AreSound none = ⊤
    AreSound (more e es) = IsSound e × AreSound es

  abbrev pub IsSoundOptional : Option ExprCode → Type 0
  IsSoundOptional None = ⊤
  IsSoundOptional (Some e) = IsSound e

  abbrev mutual
    -- a statement, in what encloses it
    pub IsSoundStatement : Enclosing → StmtCode → Type 0
    IsSoundStatement c (tree.Block declared ss) = All (IsDeclared cells) declared × AreSoundStatements c ss
    IsSoundStatement c (tree.Fill n) = IsThereForWords (cells (Local n))
    IsSoundStatement c (tree.Do_expr e) = IsSound e
    IsSoundStatement c (tree.If e a b) = IsSound e × IsSoundStatement c a × IsSoundStatement c b
    IsSoundStatement c (tree.While e a) = IsSound e × IsSoundStatement around.Loop a
    IsSoundStatement c (tree.Do_while a e) = IsSoundStatement around.Loop a × IsSound e
    IsSoundStatement c (tree.For x y z a) = IsSoundOptional x × IsSoundOptional y × IsSoundOptional z × IsSoundStatement around.Loop a
    IsSoundStatement c (tree.Switch e cs) = IsSound e × (repeats_word_label cs ≡ false) × AreSoundChoices (in_switch c) cs
    IsSoundStatement c tree.Break = may_break c ≡ true
    IsSoundStatement c tree.Continue = may_continue c ≡ true
    IsSoundStatement c (tree.Return e) = IsSoundOptional e

    pub AreSoundStatements : Enclosing → StmtsCode → Type 0
    AreSoundStatements c tree.done = ⊤
    AreSoundStatements c (tree.both s rest) = IsSoundStatement c s × AreSoundStatements c rest

    pub AreSoundChoices : Enclosing → ChoicesCode → Type 0
    AreSoundChoices c tree.no_more = ⊤
    AreSoundChoices c (tree.case w rest) = AreSoundChoices c rest
    AreSoundChoices c (tree.default rest) = AreSoundChoices c rest
    AreSoundChoices c (tree.body s rest) = IsSoundStatement c s × AreSoundChoices c rest

-- the cells of an object that may be there
abbrev pub length_of : Option ObjectTree → Option ℕ
length_of None = None
length_of (Some o) = Some o.length

-- the objects of a function: temporaries follow the frame scalars, and no name stands for one
abbrev pub cells_in : ProgramCode → FunctionCode → VarRef → Option ℕ
cells_in p f (Scalar n) = if nat_lt (n + word_statement_temporaries f.body) f.scalars then Some 1 else None
cells_in p f (Local n) = length_of (slice_get f.locals n)
cells_in p f (Static n) = length_of (slice_get p.statics n)

abbrev pub parameter_count : Option FunctionCode → Option ℕ
parameter_count None = None
parameter_count (Some f) = Some (length f.params)

-- a parameter is an object of one cell of its function
pub record IsCodeParameter (p : ProgramCode) (f : FunctionCode) (v : VarRef) : Type 0 where
  pub automatic : IsAutomatic v
  pub cell : cells_in p f v ≡ Some 1

-- an object among these statics: it has 1 to 32,767 cells, its list isn't longer, and an address in the list is that of a static's cell
-- or of the place behind its last
abbrev pub IsObjectAmong : List ObjectTree → ObjectTree → Type 0
IsObjectAmong statics = IsObject (record { statics = statics; functions = [] })

pub record IsFunctionCode (p : ProgramCode) (f : FunctionCode) : Type 0 where
  pub most_scalars : f.scalars ≤ MOST_FRAME_SCALARS
  pub temporaries : word_statement_temporaries f.body ≤ f.scalars
  pub most_parameters : length f.params ≤ MOST_PARAMETERS
  pub locals : All (IsObjectAmong p.statics) f.locals
  pub parameters : All (IsCodeParameter p f) f.params
  pub differ : AllPairs (λ a b. a ≢ b) f.params
  pub cases : All (λ n. n ≤ MOST_CASES) (case_counts (word_statement_uses f.body))
  pub body : IsSoundStatement (cells_in p f) (λ n. parameter_count (slice_get p.functions n)) around.Body f.body

-- `main` takes no parameters
pub record IsMainCode (f : FunctionCode) : Type 0 where
  pub name : f.name ≡ main_name
  pub parameters : f.params ≡ []

-- the functions that each calls
abbrev pub code_calls : List FunctionCode → List (List ℕ)
code_calls fs = map (λ f. called (word_statement_uses f.body)) fs

-- the objects in memory
abbrev pub code_object_count : ProgramCode → ℕ
code_object_count p = length p.statics + sum_by (λ f. length f.locals) p.functions

pub record IsCode (p : ProgramCode) : Type 0 where
  pub statics : All (IsObjectAmong p.statics) p.statics
  pub functions : All (IsFunctionCode p) p.functions
  pub names : All IsName (map (λ f. f.name) p.functions)
  pub differ : AllPairs (λ a b. a ≢ b) (map (λ f. f.name) p.functions)
  pub main : Any IsMainCode p.functions
  pub bodies : (n m : ℕ) → CallsAmong (code_calls p.functions) n m → m < length p.functions
  pub no_cycle : HasNoRound (CallsAmong (code_calls p.functions))
  pub most_functions : length p.functions ≤ MOST_FUNCTIONS
  pub objects : code_object_count p ≤ MOST_OBJECTS
