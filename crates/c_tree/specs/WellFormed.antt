-- Well-formed programs: types agree, references are in range, jumps stand where there is something to leave, and labels differ.
-- The rules are those that the conversions of ISO 9899:1990 6.2 leave of 6.3 and 6.6: here they all stand in the tree.
use Rattle.std.specs.Prelude.{◌≡◌, ◌≢◌, ◌<◌, ◌≤◌, ◌⊎◌, ◌==◌, ◌||◌, ⊤, ℕ, Bool, true, false, if◌then◌else◌, List, [], ◌∷◌, All, AllPairs, Option, Some, None}
use Rattle.c_tree.specs.declared.program.ScalarType.{ScalarType}
use Rattle.c_tree.specs.declared.program.VarRef.{VarRef}
use Rattle.c_tree.specs.declared.program.VarRef.TheVariants.{Scalar, Local, Static}
use Rattle.c_tree.specs.declared.program.Initial.{Initial}
use Rattle.c_tree.specs.declared.program.Initial.TheVariants as initial
use Rattle.c_syntax.specs.declared.operator.BinaryOp.{BinaryOp}
use Rattle.c_syntax.specs.declared.operator.BinaryOp.TheVariants as op
use Rattle.c_tree.specs.TypedTree as tree
use Rattle.c_tree.specs.TypedTree.{Kind, Expr, Node, Lvalue, Named, At, Form, Exprs, none, more, Stmt, Stmts, Choices}
use Rattle.c_tree.specs.Store.{is_pointer}
use Rattle.c_tree.specs.Eval.{kind_of}
use Rattle.c_tree.specs.declared.enclosing.Enclosing.{Enclosing}
use Rattle.c_tree.specs.declared.enclosing.Enclosing.TheVariants as around
use Rattle.c_tree.specs.Kinds.{int, void_pointer, pointer_to, IsKind, IsInteger, IsPointer, IsValue}
use Rattle.c_tree.specs.Labels.{may_break, may_continue, in_switch, repeats_label}

-- so many cells of this type
pub record Shape : Type 0 where
  pub kind : ScalarType
  pub length : ℕ

-- what a function takes and gives
pub record Signature : Type 0 where
  pub parameters : List Kind
  pub result : Kind

-- what the names and numbers in a body stand for: objects, functions, and the local objects that may be filled with a list
pub record Names : Type 0 where
  pub object : VarRef → Option Shape
  pub function : ℕ → Option Signature
  pub is_filled : ℕ → Bool

-- a constant of a pointer type is null
abbrev pub IsConstant : ℕ → Kind → Type 0
IsConstant w None = ⊥
IsConstant w (Some kind) = is_pointer kind ≡ true → w ≡ 0

-- what a name reads as, where its object has one cell
abbrev pub IsCell : Option Shape → Kind → Type 0
IsCell object None = ⊥
IsCell object (Some kind) = object ≡ Some (record { kind = kind; length = 1 })

-- a pointer to the first cell of an object. A frame scalar has no address.
abbrev pub IsAddressable : VarRef → Type 0
IsAddressable (Scalar n) = ⊥
IsAddressable (Local n) = ⊤
IsAddressable (Static n) = ⊤

abbrev pub PointsTo : Option Shape → Kind → Type 0
PointsTo None kind = ⊥
PointsTo (Some object) kind = kind ≡ Some (pointer_to object.kind)

-- what a pointer of one type leads to, of another
abbrev pub Leads : Kind → Kind → Type 0
Leads pointer None = ⊥
Leads pointer (Some kind) = pointer ≡ Some (pointer_to kind)

-- the operators that move a pointer
abbrev pub moves : BinaryOp → Bool
moves op.Add = true
moves op.Sub = true
moves o = false

-- the operators that give an int of two values of one type
abbrev pub is_comparison : BinaryOp → Bool
is_comparison op.Eq = true
is_comparison op.Ne = true
is_comparison op.Lt = true
is_comparison op.Gt = true
is_comparison op.Le = true
is_comparison op.Ge = true
is_comparison o = false

abbrev pub is_shift : BinaryOp → Bool
is_shift op.Shl = true
is_shift op.Shr = true
is_shift o = false

-- an operator takes values of two types and gives one of a third
pub data Takes : BinaryOp → Kind → Kind → Kind → Type 0 where
  Calculates : {o : BinaryOp} {k : Kind} → is_comparison o ≡ false → is_shift o ≡ false → IsInteger k → Takes o k k k
  Shifts : {o : BinaryOp} {k l : Kind} → is_shift o ≡ true → IsInteger k → IsInteger l → Takes o k l k
  Compares : {o : BinaryOp} {k : Kind} → is_comparison o ≡ true → IsValue k → Takes o k k (Some int)
  Moves : {o : BinaryOp} {k l : Kind} → moves o ≡ true → IsPointer k → IsInteger l → Takes o k l k
  Moves_right : {k l : Kind} → IsInteger k → IsPointer l → Takes op.Add k l l
  Subtracts : {k : Kind} → IsPointer k → Takes op.Sub k k (Some int)

-- an operator with an assignment takes a target of one type and a value of another: two integers, or a pointer and an integer
pub data Updates : BinaryOp → Kind → Kind → Type 0 where
  Updates_word : {o : BinaryOp} {k l : Kind} → is_comparison o ≡ false → IsInteger k → IsInteger l → Updates o k l
  Updates_pointer : {o : BinaryOp} {k l : Kind} → moves o ≡ true → IsPointer k → IsInteger l → Updates o k l

-- a value becomes one of another type, or none: an integer an integer, a pointer a pointer
abbrev pub Converts : Kind → Kind → Type 0
Converts from None = ⊤
Converts None (Some kind) = ⊥
Converts (Some from) (Some kind) = is_pointer from ≡ is_pointer kind

-- an object that is there
abbrev pub IsThere : Option Shape → Type 0
IsThere None = ⊥
IsThere (Some object) = ⊤

-- the types of arguments
abbrev pub kinds_of : Exprs → List Kind
kinds_of none = []
kinds_of (more e es) = kind_of e ∷ kinds_of es

-- a call takes one value for each parameter. That the function is there is said of all calls of a program at once.
abbrev pub IsCall : Option Signature → List Kind → Kind → Type 0
IsCall None kinds kind = ⊤
IsCall (Some function) kinds kind = (kinds ≡ function.parameters) × (kind ≡ function.result)

module _ (names : Names) where
  abbrev mutual
    -- an expression
    pub IsWellTyped : Expr → Type 0
    IsWellTyped (Node form kind at) = IsKind kind × HasForm form kind

    -- a form of this type
    pub HasForm : Form → Kind → Type 0
    HasForm (tree.Const w) kind = IsConstant w kind
    HasForm (tree.Read v) kind = IsCell (names.object v) kind
    HasForm (tree.AddressOf v) kind = IsAddressable v × PointsTo (names.object v) kind
    HasForm (tree.Load e) kind = IsWellTyped e × Leads (kind_of e) kind
    HasForm (tree.Unary o e) kind = IsWellTyped e × IsInteger kind × (kind_of e ≡ kind)
    HasForm (tree.Binary o a b) kind = IsWellTyped a × IsWellTyped b × Takes o (kind_of a) (kind_of b) kind
    HasForm (tree.And a b) kind = IsWellTyped a × IsWellTyped b × IsValue (kind_of a) × IsValue (kind_of b) × (kind ≡ Some int)
    HasForm (tree.Or a b) kind = IsWellTyped a × IsWellTyped b × IsValue (kind_of a) × IsValue (kind_of b) × (kind ≡ Some int)
    HasForm (tree.Not e) kind = IsWellTyped e × IsValue (kind_of e) × (kind ≡ Some int)
    HasForm (tree.Pick c a b) kind = IsWellTyped c × IsWellTyped a × IsWellTyped b × IsValue (kind_of c) × (kind_of a ≡ kind) × (kind_of b ≡ kind)
    HasForm (tree.Assign l e) kind = IsTarget l kind × IsWellTyped e × (kind_of e ≡ kind)
    HasForm (tree.AssignOp o l e) kind = IsTarget l kind × IsWellTyped e × Updates o kind (kind_of e)
    HasForm (tree.StepBefore up l) kind = IsTarget l kind
    HasForm (tree.StepAfter up l) kind = IsTarget l kind
    HasForm (tree.Call f es) kind = AreWellTyped es × IsCall (names.function f) (kinds_of es) kind
    HasForm (tree.In port) kind = (port < 16) × (kind ≡ Some int)
    HasForm (tree.Out port e) kind = IsWellTyped e × IsInteger (kind_of e) × (port < 16) × (kind ≡ None)
    HasForm (tree.Comma a b) kind = IsWellTyped a × IsWellTyped b × (kind_of b ≡ kind)
    HasForm (tree.Convert e) kind = IsWellTyped e × Converts (kind_of e) kind

    -- a cell of this type to which a value goes
    pub IsTarget : Lvalue → Kind → Type 0
    IsTarget (Named v at) kind = IsCell (names.object v) kind
    IsTarget (At e at) kind = IsWellTyped e × Leads (kind_of e) kind

    -- expressions, from left to right
    pub AreWellTyped : Exprs → Type 0
    AreWellTyped none = ⊤
    AreWellTyped (more e es) = IsWellTyped e × AreWellTyped es

  -- an expression that is tested
  abbrev pub IsTest : Expr → Type 0
  IsTest e = IsWellTyped e × IsValue (kind_of e)

  -- expressions that may be absent
  abbrev pub IsOptional : Option Expr → Type 0
  IsOptional None = ⊤
  IsOptional (Some e) = IsWellTyped e

  abbrev pub IsOptionalTest : Option Expr → Type 0
  IsOptionalTest None = ⊤
  IsOptionalTest (Some e) = IsTest e

  -- the value of a return from a function of this type
  abbrev pub IsReturned : Kind → Option Expr → Type 0
  IsReturned result None = result ≡ None
  IsReturned result (Some e) = IsTest e × (kind_of e ≡ result)

-- two names that are one, and a name that is among others
abbrev pub same_reference : VarRef → VarRef → Bool
same_reference (Scalar m) (Scalar n) = m == n
same_reference (Local m) (Local n) = m == n
same_reference (Static m) (Static n) = m == n
same_reference v w = false

abbrev pub is_among : VarRef → List VarRef → Bool
is_among v [] = false
is_among v (w ∷ ws) = same_reference w v || is_among v ws

-- the names within a block that declares these, where the objects of the function are known: a name stands for its object within
-- the block that declares it alone
abbrev pub opened : (VarRef → Option Shape) → List VarRef → Names → Names
opened objects declared names = record {
  object = λ v. if is_among v declared then objects v else names.object v;
  function = names.function;
  is_filled = names.is_filled;
}

-- a block may declare an object of the function that no block around it declares
abbrev pub IsAutomatic : VarRef → Type 0
IsAutomatic (Scalar n) = ⊤
IsAutomatic (Local n) = ⊤
IsAutomatic (Static n) = ⊥

pub record IsNew (objects : VarRef → Option Shape) (names : Names) (v : VarRef) : Type 0 where
  pub automatic : IsAutomatic v
  pub there : IsThere (objects v)
  pub new : names.object v ≡ None

pub record AreNew (objects : VarRef → Option Shape) (names : Names) (declared : List VarRef) : Type 0 where
  pub differ : AllPairs (λ a b. a ≢ b) declared
  pub each : All (IsNew objects names) declared

-- an array that lives may be filled with its list
pub record IsFilled (names : Names) (n : ℕ) : Type 0 where
  pub lives : IsThere (names.object (Local n))
  pub filled : names.is_filled n ≡ true

-- the statements of a function with these objects and a result of this type
module _ (objects : VarRef → Option Shape) (result : Kind) where
  abbrev mutual
    -- a statement where these names are known, in what encloses it
    pub IsWellFormed : Names → Enclosing → Stmt → Type 0
    IsWellFormed names c (tree.Block declared ss) = AreNew objects names declared × AreWellFormed (opened objects declared names) c ss
    IsWellFormed names c (tree.Fill n) = IsFilled names n
    IsWellFormed names c (tree.Do_expr e) = IsWellTyped names e
    IsWellFormed names c (tree.If e a b) = IsTest names e × IsWellFormed names c a × IsWellFormed names c b
    IsWellFormed names c (tree.While e a) = IsTest names e × IsWellFormed names around.Loop a
    IsWellFormed names c (tree.Do_while a e) = IsWellFormed names around.Loop a × IsTest names e
    IsWellFormed names c (tree.For x y z a) = IsOptional names x × IsOptionalTest names y × IsOptional names z × IsWellFormed names around.Loop a
    IsWellFormed names c (tree.Switch e cs) = IsWellTyped names e × IsInteger (kind_of e) × (repeats_label cs ≡ false) × HasChoices names (in_switch c) cs
    IsWellFormed names c tree.Break = may_break c ≡ true
    IsWellFormed names c tree.Continue = may_continue c ≡ true
    IsWellFormed names c (tree.Return e) = IsReturned names result e

    pub AreWellFormed : Names → Enclosing → Stmts → Type 0
    AreWellFormed names c tree.done = ⊤
    AreWellFormed names c (tree.both s rest) = IsWellFormed names c s × AreWellFormed names c rest

    pub HasChoices : Names → Enclosing → Choices → Type 0
    HasChoices names c tree.no_more = ⊤
    HasChoices names c (tree.case w rest) = HasChoices names c rest
    HasChoices names c (tree.default rest) = HasChoices names c rest
    HasChoices names c (tree.body s rest) = IsWellFormed names c s × HasChoices names c rest

-- what a cell of this type starts with, where these are the statics: a word, null, or the address of a cell of an object of the type
-- that it points to, or of the place behind its last
abbrev pub StartsAt : ScalarType → ℕ → Option Shape → Type 0
StartsAt kind i None = ⊥
StartsAt kind i (Some object) = (i ≤ object.length) × ((kind ≡ void_pointer) ⊎ (kind ≡ pointer_to object.kind))

abbrev pub IsInitial : (ℕ → Option Shape) → ScalarType → Initial → Type 0
IsInitial static kind (initial.Word w) = is_pointer kind ≡ false
IsInitial static kind initial.Null = is_pointer kind ≡ true
IsInitial static kind (initial.Address v i) = StartsAt kind i (static v)
