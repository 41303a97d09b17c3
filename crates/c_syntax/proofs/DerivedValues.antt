-- Trees of tokens have values in their braces, since the grammar wants one there at least.
use Rattle.std.proofs.Common.{ℕ, List, Option, Some, None}
use Rattle.c_syntax.specs.declared.token.Token.{Token}
use Rattle.c_syntax.specs.Derives.{DerivesList, LastOfList, MoreOfList, DerivesInitial, OneRule, BracedRule, DerivesInitialiser, DerivesItems}
use Rattle.c_syntax.specs.Derives.{LastItem, MoreItems, DerivesDeclarations, NoDeclaration, MoreDeclarations}
use Rattle.c_syntax.specs.Derives.{Closing, Closed, DerivesStatement, EmptyRule, EvaluateRule, BlockRule, BreakRule, ContinueRule, ReturnRule, DoRule}
use Rattle.c_syntax.specs.Derives.{IfRule, IfElseRule, WhileRule, ForRule, SwitchRule}
use Rattle.c_syntax.specs.Derives.{DerivesStatements, NoStatement, MoreStatements, DerivesChoices, NoChoice, CaseRule, DefaultRule, ChosenRule}
use Rattle.c_syntax.specs.Derives.{DerivesFunction, DerivesUnit, LastExternal, MoreExternals}
use Rattle.c_syntax.specs.SyntaxTree as tree
use Rattle.c_syntax.specs.SyntaxTree.{Expression, InitialTree, ItemTree, DeclarationTree, Statement, Statements, Choices, FunctionSyntax}
use Rattle.c_syntax.specs.SyntaxTree.{ExternalTree, Defined, Declared, UnitTree}
use Rattle.c_syntax.specs.Values.{HasValue, ItemsHaveValues, DeclarationsHaveValues, HasValues, HaveValues, ChoicesHaveValues, ExternalHasValues}
use Rattle.c_syntax.specs.Values.{UnitHasValues}

-- initialisers
list_value : (tokens : List Token) (es : List Expression) (at : ℕ) → DerivesList tokens es → HasValue (Some (tree.Braced es at))
list_value tokens _ at (LastOfList derives) = tt
list_value tokens _ at (MoreOfList a b t cut derives comma rest) = tt

initial_value : (tokens : List Token) (i : InitialTree) → DerivesInitial tokens i → HasValue (Some i)
initial_value tokens _ (OneRule derives) = tt
initial_value tokens _ (BracedRule a b t u {trees = es} cut opens list last closes) = list_value a es t.at list

optional_value : (tokens : List Token) (i : Option InitialTree) → DerivesInitialiser tokens i → HasValue i
optional_value tokens None derives = tt
optional_value tokens (Some i) derives = initial_value derives.1 i derives.4

-- declarations
items_values : (tokens : List Token) (items : List ItemTree) → DerivesItems tokens items → ItemsHaveValues items
items_values tokens _ (LastItem {tree = item} derives) = (optional_value derives.c item.initial derives.initial, tt)
items_values tokens _ (MoreItems a b t {tree = item} {trees = items} cut derives comma rest) =
    (optional_value derives.c item.initial derives.initial, items_values b items rest)

declarations_values : (tokens : List Token) (ds : List DeclarationTree) → DerivesDeclarations tokens ds → DeclarationsHaveValues ds
declarations_values tokens _ NoDeclaration = tt
declarations_values tokens _ (MoreDeclarations a b {tree = d} {trees = ds} cut derives rest) =
    (items_values derives.b d.items derives.items, declarations_values b ds rest)

-- statements
mutual
  statement_values : (closing : Closing) (tokens : List Token) (s : Statement) → DerivesStatement closing tokens s → HasValues s
  statement_values closing tokens _ (EmptyRule ends) = tt
  statement_values closing tokens _ (EvaluateRule a t cut derives ends) = tt
  statement_values closing tokens _ (BlockRule a b t u {declarations = ds} {statements = ss} cut opens first rest closes) =
      (declarations_values a ds first, statements_values b ss rest)
  statement_values closing tokens _ (BreakRule word ends) = tt
  statement_values closing tokens _ (ContinueRule word ends) = tt
  statement_values closing tokens _ (ReturnRule a t u cut word value ends) = tt
  statement_values closing tokens _ (DoRule inner a b t u v {body = s} cut word derives again test ends) = statement_values inner a s derives
  statement_values closing tokens _ (IfRule inner a b t {yes = s} cut word test derives) = statement_values inner b s derives
  statement_values closing tokens _ (IfElseRule a b c t u {yes = first} {no = second} cut word test derives other rest) =
      (statement_values Closed b first derives, statement_values closing c second rest)
  statement_values closing tokens _ (WhileRule a b t {body = s} cut word test derives) = statement_values closing b s derives
  statement_values closing tokens _ (ForRule a b {body = s} cut head derives) = statement_values closing b s derives
  statement_values closing tokens _ (SwitchRule a b t u v {choices = cs} cut word test opens derives closes) = choices_values b cs derives

  statements_values : (tokens : List Token) (ss : Statements) → DerivesStatements tokens ss → HaveValues ss
  statements_values tokens _ NoStatement = tt
  statements_values tokens _ (MoreStatements closing a b {tree = s} {trees = ss} cut derives rest) =
      (statement_values closing a s derives, statements_values b ss rest)

  choices_values : (tokens : List Token) (cs : Choices) → DerivesChoices tokens cs → ChoicesHaveValues cs
  choices_values tokens _ NoChoice = tt
  choices_values tokens _ (CaseRule a b t u {choices = cs} cut word derives colon rest) = choices_values b cs rest
  choices_values tokens _ (DefaultRule a t u {choices = cs} cut word colon rest) = choices_values a cs rest
  choices_values tokens _ (ChosenRule closing a b {tree = s} {choices = cs} cut derives rest) =
      (statement_values closing a s derives, choices_values b cs rest)

-- externals
function_values : (tokens : List Token) (f : FunctionSyntax) → DerivesFunction tokens f → ExternalHasValues (Defined f)
function_values tokens f derives = statement_values Closed derives.d (tree.Block f.declarations f.statements f.body_at) derives.body

pub unit_values : (tokens : List Token) (unit : UnitTree) → DerivesUnit tokens unit → UnitHasValues unit
unit_values tokens _ (LastExternal {tree = Defined f} derives) = (function_values tokens f derives, tt)
unit_values tokens _ (LastExternal {tree = Declared d} derives) = (items_values derives.b d.items derives.items, tt)
unit_values tokens _ (MoreExternals a b {tree = Defined f} {trees = unit} cut derives rest) = (function_values a f derives, unit_values b unit rest)
unit_values tokens _ (MoreExternals a b {tree = Declared d} {trees = unit} cut derives rest) =
    (items_values derives.b d.items derives.items, unit_values b unit rest)
