-- Programs whose runs selection keeps: well-formed ones of words, with objects at addresses of data memory.
use Rattle.std.specs.Prelude.{⊤, ℕ, ◌≡◌, ◌<◌, ◌≤◌, true, List, slice_get, Some}
use Rattle.c_tree.specs.declared.program.VarRef.{VarRef}
use Rattle.tree_code.specs.WellFormedCode.{IsCode}
use Rattle.tree_code.specs.WordTree.{FunctionCode, ProgramCode}
use Rattle.acc_select.specs.Selected.{is_main}
use Rattle.word_base.specs.Ports.{Input, IsInput}
use Rattle.acc_code.specs.AccTree.{FunctionItems}
use Rattle.ir_semantics.specs.Keeps.{Keeps, acc_run, tree_run}
use Rattle.ir_semantics.specs.Outside.{Places, address_of}
use Rattle.ir_semantics.specs.TreeRun.{Addresses}
use Rattle.c_tree.specs.TypedOfWords.{StartsWithWords}
use Rattle.acc_select_proof.specs.FitStatements.{IsFitStatement, ReturnsValues}
use Rattle.acc_select_proof.specs.OfWords.{IsOfWords}

-- objects lie in data memory, and not at its first 16 words, so that no address is the count of a shift
abbrev pub AreFar : Addresses → Type 0
AreFar at = (v : VarRef) (a : ℕ) → at v ≡ Some a → (16 ≤ a) × (a < 65536)

pub record IsWordProgram (q : Places) (p : ProgramCode) : Type 0 where
  pub code : IsCode p
  pub addresses : (f : ℕ) → AreFar (address_of q f)
  pub statics : StartsWithWords p.statics
  pub bodies : (f : ℕ) (g : FunctionCode) → slice_get p.functions f ≡ Some g → IsFitStatement IsOfWords (address_of q f) q g.locals g.body
  pub main : (f : ℕ) (g : FunctionCode) → slice_get p.functions f ≡ Some g → is_main g.name ≡ true → ReturnsValues g.body
