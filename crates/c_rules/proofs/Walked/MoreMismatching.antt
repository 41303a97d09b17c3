-- Initialisers and returned values break one rule alone: that types agree.
use Rattle.std.proofs.Common.{ℕ, List, [], ◌∷◌, None, Some}
use Rattle.c_tree.specs.declared.program.ScalarType.{ScalarType}
use Rattle.c_tree.specs.declared.program.VarRef.{VarRef}
use Rattle.c_tree.specs.TypedTree.{Kind}
use Rattle.c_rules.specs.declared.meaning.ObjectType.{ObjectType}
use Rattle.c_rules.specs.declared.meaning.ObjectType.TheVariants.{Single, Array}
use Rattle.c_rules.specs.Operands.{Operand}
use Rattle.c_rules.specs.Declarations.{Entry, cell, cells, array_list}
use Rattle.c_rules.specs.Statements.{Initialiser, Absent, Value, Listed, started, typed_return}
use Rattle.c_rules.specs.Units.{Starts, NoStart, One, Braced, static_list}
use Rattle.c_rules.proofs.Walked.Mismatching.{Mismatches, typed, mismatch, if_not, behind, given_only}

module _ (at : ℕ) where
  -- the cells of a list
  pub cell_only : (kind : ScalarType) (e : Entry) → Mismatches at (cell kind at e)
  cell_only kind e = behind _ _ (given_only at kind e.operand) (λ v. typed _)

  pub cells_only : (kind : ScalarType) (es : List Entry) → Mismatches at (cells kind at es)
  cells_only kind [] = typed _
  cells_only kind (e ∷ es) = behind _ _ (cell_only kind e) (λ i. behind _ _ (cells_only kind es) (λ is. typed _))

  pub listed_only : (kind : ScalarType) (n : ℕ) (es : List Entry) → Mismatches at (array_list kind n at es)
  listed_only kind n es = if_not _ _ (cells_only kind es)

  -- the start of an object of a block, and of one of file scope
  pub started_only : (r : VarRef) (type : ObjectType) (i : Initialiser) → Mismatches at (started r type at i)
  started_only r type Absent = typed _
  started_only r (Single kind) (Value x) = behind _ _ (given_only at kind x) (λ v. typed _)
  started_only r (Array kind n) (Listed es) = behind _ _ (listed_only kind n es) (λ is. typed _)
  started_only r type i = mismatch

  pub static_list_only : (type : ObjectType) (i : Starts) → Mismatches at (static_list type at i)
  static_list_only type NoStart = typed _
  static_list_only (Single kind) (One e) = behind _ _ (cell_only kind e) (λ i. typed _)
  static_list_only (Array kind n) (Braced es) = behind _ _ (listed_only kind n es) (λ is. typed _)
  static_list_only type i = mismatch

  -- the value of a return
  pub returned_only : (result : Kind) (x : Operand) → Mismatches at (typed_return result at x)
  returned_only None x = mismatch
  returned_only (Some kind) x = given_only at kind x
