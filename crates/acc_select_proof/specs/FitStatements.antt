-- Statements whose items keep what they do, by what is wanted of their expressions; and those that return a word wherever they return.
use Rattle.std.specs.Prelude.{⊤, ◌≡◌, ◌<◌, List, slice_get, Option, Some, None}
use Rattle.std.specs.List.{AllByRecursion}
use Rattle.c_tree.specs.TypedTree.{ObjectTree}
use Rattle.c_tree.specs.declared.program.Initial.{Initial}
use Rattle.c_tree.specs.declared.program.Initial.TheVariants as initial
use Rattle.c_tree.specs.declared.program.VarRef.TheVariants.{Static}
use Rattle.tree_code.specs.WordTree as tree
use Rattle.tree_code.specs.WordTree.{ExprCode, StmtCode, StmtsCode, ChoicesCode}
use Rattle.ir_semantics.specs.Outside.{Places}
use Rattle.ir_semantics.specs.TreeRun.{Addresses}

-- the lists of local arrays: a word is one, and an address is that of the machine's object
module _ (at : Addresses) (q : Places) where
  abbrev pub IsFitInitial : Initial → Type 0
  IsFitInitial (initial.Word x) = x < 65536
  IsFitInitial (initial.Address object index) = at (Static object) ≡ Some (q.static object)
  IsFitInitial initial.Null = ⊤

  abbrev pub IsFitObject : Option ObjectTree → Type 0
  IsFitObject None = ⊤
  IsFitObject (Some o) = AllByRecursion IsFitInitial o.initial

module _ (IsFit : ExprCode → Type 0) (at : Addresses) (q : Places) (locals : List ObjectTree) where
  abbrev pub IsFitOptional : Option ExprCode → Type 0
  IsFitOptional None = ⊤
  IsFitOptional (Some e) = IsFit e

  abbrev mutual
    pub IsFitStatement : StmtCode → Type 0
    IsFitStatement (tree.Block declared ss) = AreFitStatements ss
    IsFitStatement (tree.Fill k) = IsFitObject at q (slice_get locals k)
    IsFitStatement (tree.Do_expr e) = IsFit e
    IsFitStatement (tree.If e a b) = IsFit e × IsFitStatement a × IsFitStatement b
    IsFitStatement (tree.While e a) = IsFit e × IsFitStatement a
    IsFitStatement (tree.Do_while a e) = IsFitStatement a × IsFit e
    IsFitStatement (tree.For x y z a) = IsFitOptional x × IsFitOptional y × IsFitOptional z × IsFitStatement a
    IsFitStatement (tree.Switch e cs) = IsFit e × AreFitChoices cs
    IsFitStatement tree.Break = ⊤
    IsFitStatement tree.Continue = ⊤
    IsFitStatement (tree.Return None) = ⊤
    IsFitStatement (tree.Return (Some e)) = IsFit e

    pub AreFitStatements : StmtsCode → Type 0
    AreFitStatements tree.done = ⊤
    AreFitStatements (tree.both s rest) = IsFitStatement s × AreFitStatements rest

    pub AreFitChoices : ChoicesCode → Type 0
    AreFitChoices tree.no_more = ⊤
    AreFitChoices (tree.case w rest) = AreFitChoices rest
    AreFitChoices (tree.default rest) = AreFitChoices rest
    AreFitChoices (tree.body s rest) = IsFitStatement s × AreFitChoices rest

abbrev mutual
  pub ReturnsValues : StmtCode → Type 0
  ReturnsValues (tree.Block declared ss) = AllReturnValues ss
  ReturnsValues (tree.Fill k) = ⊤
  ReturnsValues (tree.Do_expr e) = ⊤
  ReturnsValues (tree.If e a b) = ReturnsValues a × ReturnsValues b
  ReturnsValues (tree.While e a) = ReturnsValues a
  ReturnsValues (tree.Do_while a e) = ReturnsValues a
  ReturnsValues (tree.For x y z a) = ReturnsValues a
  ReturnsValues (tree.Switch e cs) = ChoicesReturnValues cs
  ReturnsValues tree.Break = ⊤
  ReturnsValues tree.Continue = ⊤
  ReturnsValues (tree.Return None) = ⊥
  ReturnsValues (tree.Return (Some e)) = ⊤

  pub AllReturnValues : StmtsCode → Type 0
  AllReturnValues tree.done = ⊤
  AllReturnValues (tree.both s ss) = ReturnsValues s × AllReturnValues ss

  pub ChoicesReturnValues : ChoicesCode → Type 0
  ChoicesReturnValues tree.no_more = ⊤
  ChoicesReturnValues (tree.case x rest) = ChoicesReturnValues rest
  ChoicesReturnValues (tree.default rest) = ChoicesReturnValues rest
  ChoicesReturnValues (tree.body s rest) = ReturnsValues s × ChoicesReturnValues rest
