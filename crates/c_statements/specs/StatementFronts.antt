-- What may stand at the front of the tokens that are left by the rows of statements.
use Rattle.std.specs.Prelude.{◌≡◌, ◌⊎◌, ◌+◌, ℕ, max, Bool, true, false, List, [], map, Option, Some, None, Result}
use Rattle.c_syntax.specs.declared.token.Token.{Token}
use Rattle.c_syntax.specs.declared.token.Keyword.{Keyword}
use Rattle.c_syntax.specs.declared.token.Keyword.TheVariants as keyword
use Rattle.c_syntax.specs.declared.token.Punct.{Punct}
use Rattle.c_syntax.specs.declared.token.Punct.TheVariants as mark
use Rattle.c_syntax.specs.declared.stmt.Stmt.{Stmt}
use Rattle.c_syntax.specs.SyntaxTree.{Expression, DeclarationTree, Statements}
use Rattle.c_syntax.specs.Grammar.{ExpressionRow, ConditionalRow, IsMark, IsKeyword}
use Rattle.c_syntax.specs.Derives.{DerivesOptional, IsTested, IsForHead, DerivesDeclarations, Closing, DerivesStatement, DerivesStatements, DerivesChoices}
use Rattle.c_syntax.specs.Lookahead.{spec_of}
use Rattle.c_syntax.specs.Measures.{greatest, expression_height, optional_height, declaration_height, statement_height, statements_height, choices_height}
use Rattle.c_statements.specs.StatementRows.{EndsStatement, IsStatement, tree_of, IsBody, IsDoEnd}
use Rattle.c_cursor.specs.declared.fault.Refusal.{Refusal}
use Rattle.c_expressions.specs.declared.parser.Tall.{Tall}
use Rattle.c_cursor.specs.Takes.{IsOne, Both}
use Rattle.c_expressions.specs.Fronts.{Front, Then, One, ExpressionFront}
use Rattle.c_expressions.specs.Parts.{ReadsPart}

-- a statement of either row; an `else` behind it belongs to an outer `if`
pub record StatementFront (depth : ℕ) (before after : List Token) : Type 0 where
  pub closing : Closing
  pub front : Front (DerivesStatement closing) (EndsStatement closing) statement_height depth before after

-- a statement was read, or is refused
abbrev pub ReadsStatement : ℕ → List Token → List Token → Result (Tall Stmt) Refusal → Type 0
ReadsStatement depth before after result = ReadsPart (λ s. IsStatement (tree_of s) after) (StatementFront depth) (λ s. statement_height (tree_of s)) depth before after result

-- `(`, an expression and `)`
abbrev pub TestedFront : ℕ → List Token → List Token → Type 0
TestedFront depth = Front (λ taken x. IsTested [] taken x) (λ _. Unit {0}) expression_height depth

-- an expression, where there is one, and a mark
abbrev pub OptionalFront : Punct → ℕ → List Token → List Token → Type 0
OptionalFront end depth = Front (λ taken x. Both (λ a. DerivesOptional ExpressionRow a x) (IsOne (IsMark end)) taken) (λ _. Unit {0}) optional_height depth

-- `while`, a test and `;`
abbrev pub DoTestFront : ℕ → List Token → List Token → Type 0
DoTestFront depth = Front (λ taken x. IsDoEnd x taken) (λ _. Unit {0}) expression_height depth

-- what stands between the parentheses of a `for`
pub record ForParts : Type 0 where
  pub first : Option Expression
  pub test : Option Expression
  pub third : Option Expression

abbrev pub for_parts_height : ForParts → ℕ
for_parts_height x = max (optional_height x.first) (max (optional_height x.test) (optional_height x.third))

abbrev pub ForHeadFront : ℕ → List Token → List Token → Type 0
ForHeadFront depth = Front (λ taken x. IsForHead taken x.first x.test x.third) (λ _. Unit {0}) for_parts_height depth

-- the labels of a switch
abbrev pub CaseFront : ℕ → List Token → List Token → Type 0
CaseFront depth = Then (One (IsKeyword keyword.Case)) (Then (ExpressionFront ConditionalRow depth) (One (IsMark mark.Colon)))

abbrev pub DefaultFront : List Token → List Token → Type 0
DefaultFront = Then (One (IsKeyword keyword.Default)) (One (IsMark mark.Colon))

-- a label or a statement
abbrev pub PartFront : ℕ → List Token → List Token → Type 0
PartFront depth before after = CaseFront depth before after ⊎ (DefaultFront before after ⊎ StatementFront depth before after)

-- what stands behind the `{` of a switch, and `}`
abbrev pub PartsFront : ℕ → List Token → List Token → Type 0
PartsFront depth = Front (λ taken x. Both (λ a. DerivesChoices a x) (IsOne (IsMark mark.CloseBrace)) taken) (λ _. Unit {0}) (λ x. 1 + choices_height x) depth

-- declarations that no other follows
abbrev pub DeclarationsFront : ℕ → List Token → List Token → Type 0
DeclarationsFront depth = Front DerivesDeclarations (λ r. spec_of r ≡ None) (λ xs. greatest (map declaration_height xs)) depth

-- statements, and `}`
abbrev pub StatementsFront : ℕ → List Token → List Token → Type 0
StatementsFront depth = Front (λ taken xs. Both (λ a. DerivesStatements a xs) (IsOne (IsMark mark.CloseBrace)) taken) (λ _. Unit {0}) statements_height depth

-- what stands behind the `{` of a block, and `}`
pub record BodyTree : Type 0 where
  pub declarations : List DeclarationTree
  pub statements : Statements

abbrev pub body_height : BodyTree → ℕ
body_height x = 1 + max (greatest (map declaration_height x.declarations)) (statements_height x.statements)

abbrev pub BodyFront : ℕ → List Token → List Token → Type 0
BodyFront depth = Front (λ taken x. IsBody x.declarations x.statements taken) (λ _. Unit {0}) body_height depth

-- whether a keyword begins a statement that holds others, and any statement
abbrev pub holds_others : Option Keyword → Bool
holds_others (Some keyword.Do) = true
holds_others (Some keyword.If) = true
holds_others (Some keyword.While) = true
holds_others (Some keyword.For) = true
holds_others (Some keyword.Switch) = true
holds_others w = false

abbrev pub begins_statement : Option Keyword → Bool
begins_statement (Some keyword.Break) = true
begins_statement (Some keyword.Continue) = true
begins_statement (Some keyword.Return) = true
begins_statement w = holds_others w
