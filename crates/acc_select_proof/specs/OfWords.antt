-- Expressions of words: each constant is a word, and what assigns with an operation has one that gives a word, not a truth.
use Rattle.std.specs.Prelude.{◌<◌, ⊤}
use Rattle.tree_code.specs.WordTree as tree
use Rattle.tree_code.specs.WordTree.{ExprCode, Node, FormCode, LvalueCode, Named, At, ExprsCode}
use Rattle.acc_select.specs.acc_operations.Kinds.{operation_of}
use Rattle.acc_select.specs.acc_operations.declared.operation.Operation.{Operation}
use Rattle.acc_select.specs.acc_operations.declared.operation.Operation.TheVariants as operation

abbrev pub GivesWord : Operation → Type 0
GivesWord (operation.Word o) = ⊤
GivesWord (operation.Truth c) = ⊥

abbrev mutual
  pub IsOfWords : ExprCode → Type 0
  IsOfWords (Node form at) = HasWordParts form

  pub HasWordParts : FormCode → Type 0
  HasWordParts (tree.Const w) = w < 65536
  HasWordParts (tree.Read v) = ⊤
  HasWordParts (tree.AddressOf v) = ⊤
  HasWordParts (tree.Load e) = IsOfWords e
  HasWordParts (tree.Unary o e) = IsOfWords e
  HasWordParts (tree.Binary o a b) = IsOfWords a × IsOfWords b
  HasWordParts (tree.And a b) = IsOfWords a × IsOfWords b
  HasWordParts (tree.Or a b) = IsOfWords a × IsOfWords b
  HasWordParts (tree.Not e) = IsOfWords e
  HasWordParts (tree.Pick c a b) = IsOfWords c × IsOfWords a × IsOfWords b
  HasWordParts (tree.Assign l e) = IsTargetOfWords l × IsOfWords e
  HasWordParts (tree.AssignOp o l e) = GivesWord (operation_of o) × IsTargetOfWords l × IsOfWords e
  HasWordParts (tree.StepBefore up l) = IsTargetOfWords l
  HasWordParts (tree.StepAfter up l) = IsTargetOfWords l
  HasWordParts (tree.Call f es) = AreOfWords es
  HasWordParts (tree.In port) = ⊤
  HasWordParts (tree.Out port e) = IsOfWords e
  HasWordParts (tree.Comma a b) = IsOfWords a × IsOfWords b

  pub IsTargetOfWords : LvalueCode → Type 0
  IsTargetOfWords (Named v at) = ⊤
  IsTargetOfWords (At e at) = IsOfWords e

  pub AreOfWords : ExprsCode → Type 0
  AreOfWords tree.none = ⊤
  AreOfWords (tree.more e rest) = IsOfWords e × AreOfWords rest
