-- What the parts of statements take, and the tree of what stands between the braces of a switch.
use Rattle.std.specs.Prelude.{◌≢◌, List, [], ◌∷◌, Some}
use Rattle.c_syntax.specs.declared.token.Token.{Token}
use Rattle.c_syntax.specs.declared.token.Keyword.TheVariants as keyword
use Rattle.c_syntax.specs.declared.token.Punct.TheVariants as mark
use Rattle.c_syntax.specs.declared.stmt.Stmt.{Stmt}
use Rattle.c_syntax.specs.declared.stmt.SwitchPart.{SwitchPart}
use Rattle.c_syntax.specs.SyntaxTree.{Expression, DeclarationTree, Statement, Statements, Choices, no_choice}
use Rattle.c_syntax.specs.Grammar.{IsMark, IsKeyword}
use Rattle.c_syntax.specs.Derives.{IsTested, DerivesDeclarations, Closing, Closed, Open, DerivesStatement, DerivesStatements}
use Rattle.c_syntax.specs.SyntaxView.{statement_of, part_before}
use Rattle.c_cursor.specs.Front.{word_at}
use Rattle.c_cursor.specs.Takes.{Both, IsOne}

-- a statement
abbrev pub tree_of : Stmt → Statement
tree_of s = statement_of s.kind s.at

-- before `else` stands no statement that may yet take it
abbrev pub EndsStatement : Closing → List Token → Type 0
EndsStatement Closed after = Unit {0}
EndsStatement Open after = word_at after ≢ Some keyword.Else

-- tokens are a statement of either row, and an `else` behind them belongs to an outer `if`
pub record IsStatement (tree : Statement) (after taken : List Token) : Type 0 where
  pub closing : Closing
  pub derives : DerivesStatement closing taken tree
  pub ends : EndsStatement closing after

-- what stands between the braces of a switch
abbrev pub parts_of : List SwitchPart → Choices
parts_of [] = no_choice
parts_of (p ∷ rest) = part_before p (parts_of rest)

-- what stands behind the `{` of a block, and `}`
abbrev pub IsBody : List DeclarationTree → Statements → List Token → Type 0
IsBody declarations statements = Both (λ a. DerivesDeclarations a declarations) (Both (λ a. DerivesStatements a statements) (IsOne (IsMark mark.CloseBrace)))

-- `while`, a test and `;`
abbrev pub IsDoEnd : Expression → List Token → Type 0
IsDoEnd test = Both (IsOne (IsKeyword keyword.While)) (Both (λ a. IsTested [] a test) (IsOne (IsMark mark.Semicolon)))
