-- The typed program of a text, and programs that differ in places alone (docs/LANGUAGE.md, "Macros and sections").
use Rattle.std.specs.Prelude.{ℕ, List}
use Rattle.c_renaming.specs.c_tree.c_syntax.declared.token.Token.{Token}
use Rattle.c_renaming.specs.c_tree.c_syntax.Lexes.{Lexes}
use Rattle.c_renaming.specs.c_tree.c_syntax.Source.{IsSource}
use Rattle.c_renaming.specs.c_tree.c_syntax.SyntaxTree.{UnitTree}
use Rattle.c_renaming.specs.c_tree.TypedTree.{ProgramTree}
use Rattle.c_renaming.specs.c_rules.Checked.{IsTyped}
use Rattle.c_renaming.specs.Renaming.{Renaming}
use Rattle.c_renaming.specs.RenamedPrograms.{renamed_program}

-- a text has tokens, these a tree, and that a typed program
pub record HasProgram (text : List ℕ) (program : ProgramTree) : Type 0 where
  pub tokens : List Token
  pub lexes : Lexes text tokens
  pub unit : UnitTree
  pub source : IsSource tokens unit
  pub typed : IsTyped unit program

-- the names stay, and each place goes to another
abbrev pub moved : (ℕ → ℕ) → Renaming
moved place = record { name = λ name. name; place = place }

-- a text has this program but for places
abbrev pub HasMoved : List ℕ → ProgramTree → Type 0
HasMoved text program = (place : ℕ → ℕ) × HasProgram text (renamed_program (moved place) program)
