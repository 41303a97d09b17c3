-- Trees of tokens whose character constants are words say words.
use Rattle.std.proofs.Common.{◌≡◌, List, [], ◌∷◌, ◌++◌, Option, Some, None, subst}
use Rattle.std.specs.Prelude.{⊤, ◌<◌}
use Rattle.std.specs.List.{AllByRecursion}
use Rattle.c_syntax.specs.declared.token.TokenKind.{TokenKind}
use Rattle.c_syntax.specs.declared.token.TokenKind.TheVariants as token
use Rattle.c_syntax.specs.declared.token.Token.{Token}
use Rattle.c_syntax.specs.Grammar.{Row, Derives, Passes, CommaRule, AssignRule, AssignOpRule, ConditionalRule, OrRule, AndRule, BinaryRule, CastRule}
use Rattle.c_syntax.specs.Grammar.{StepBeforeRule, PrefixRule, SizeofValueRule, SizeofTypeRule, IndexRule, StepAfterRule, CallRule, NameRule, NumberRule}
use Rattle.c_syntax.specs.Grammar.{CharacterRule, ParenRule, AreArguments, NoArgument, SomeArguments, AreSome, LastArgument, MoreArguments}
use Rattle.c_syntax.specs.Derives.{DerivesOptional, DerivesList, LastOfList, MoreOfList, DerivesInitial, OneRule, BracedRule, DerivesInitialiser}
use Rattle.c_syntax.specs.Derives.{DerivesItem, DerivesItems, LastItem, MoreItems, DerivesDeclaration, DerivesDeclarations, NoDeclaration, MoreDeclarations}
use Rattle.c_syntax.specs.Derives.{Closing, Closed, IsTested, IsForHead, DerivesStatement, EmptyRule, EvaluateRule, BlockRule, BreakRule, ContinueRule}
use Rattle.c_syntax.specs.Derives.{ReturnRule, DoRule, IfRule, IfElseRule, WhileRule, ForRule, SwitchRule}
use Rattle.c_syntax.specs.Derives.{DerivesStatements, NoStatement, MoreStatements, DerivesChoices, NoChoice, CaseRule, DefaultRule, ChosenRule}
use Rattle.c_syntax.specs.Derives.{DerivesFunction, DerivesUnit, LastExternal, MoreExternals}
use Rattle.c_syntax.specs.SyntaxTree as tree
use Rattle.c_syntax.specs.SyntaxTree.{Expression, Expressions, InitialTree, ItemTree, DeclarationTree, Statement, Statements, Choices, FunctionSyntax}
use Rattle.c_syntax.specs.SyntaxTree.{Defined, Declared, UnitTree}
use Rattle.c_syntax.specs.Characters.{SaysWords, AllSayWords, OptionSaysWords, InitialSaysWords, ItemsSayWords, DeclarationsSayWords}
use Rattle.c_syntax.specs.Characters.{StatementSaysWords, StatementsSayWords, ChoicesSayWords, ExternalSaysWords, UnitSaysWords}

-- a character constant among tokens is a word
abbrev pub KindIsWord : TokenKind → Type 0
KindIsWord (token.Word keyword) = ⊤
KindIsWord (token.Name name) = ⊤
KindIsWord (token.Number value marked decimal) = ⊤
KindIsWord (token.Char value) = value < 65536
KindIsWord (token.Mark mark) = ⊤

abbrev pub AreWords : List Token → Type 0
AreWords tokens = AllByRecursion (λ t. KindIsWord t.kind) tokens

-- parts of tokens
front_of : (a b : List Token) → AreWords (a ++ b) → AreWords a
front_of [] b all = tt
front_of (t ∷ a) b all = (all.0, front_of a b all.1)

back_of : (a b : List Token) → AreWords (a ++ b) → AreWords b
back_of [] b all = all
back_of (t ∷ a) b all = back_of a b all.1

module _ {tokens : List Token} (a b : List Token) (cut : tokens ≡ a ++ b) (all : AreWords tokens) where
  front : AreWords a
  front = front_of a b (subst AreWords cut all)

  back : AreWords b
  back = back_of a b (subst AreWords cut all)

-- expressions
mutual
  says : (row : Row) (tokens : List Token) (e : Expression) → Derives row tokens e → AreWords tokens → SaysWords e
  says row tokens e (Passes next same derives) all = says next tokens e derives all
  says row tokens _ (CommaRule a b t {left = x} {right = y} cut left is right) all =
      (says _ a x left (front a (t ∷ b) cut all), says _ b y right (back a (t ∷ b) cut all).1)
  says row tokens _ (AssignRule a b t {left = x} {right = y} cut left is right) all =
      (says _ a x left (front a (t ∷ b) cut all), says _ b y right (back a (t ∷ b) cut all).1)
  says row tokens _ (AssignOpRule a b t m {left = x} {right = y} cut left same is right) all =
      (says _ a x left (front a (t ∷ b) cut all), says _ b y right (back a (t ∷ b) cut all).1)
  says row tokens _ (ConditionalRule a b c t u {test = x} {yes = y} {no = z} cut test is one colon other) all =
      let first : AreWords (a ++ t ∷ b) = front (a ++ t ∷ b) (u ∷ c) cut all in (
        says _ a x test (front_of a (t ∷ b) first),
        says _ b y one (back_of a (t ∷ b) first).1,
        says _ c z other (back (a ++ t ∷ b) (u ∷ c) cut all).1,
      )
  says row tokens _ (OrRule a b t {left = x} {right = y} cut left is right) all =
      (says _ a x left (front a (t ∷ b) cut all), says _ b y right (back a (t ∷ b) cut all).1)
  says row tokens _ (AndRule a b t {left = x} {right = y} cut left is right) all =
      (says _ a x left (front a (t ∷ b) cut all), says _ b y right (back a (t ∷ b) cut all).1)
  says row tokens _ (BinaryRule a b t next {left = x} {right = y} cut level tight left is right) all =
      (says _ a x left (front a (t ∷ b) cut all), says _ b y right (back a (t ∷ b) cut all).1)
  says row tokens _ (CastRule a b t u {operand = x} cut opens type closes derives) all = says _ b x derives (back (t ∷ a) (u ∷ b) cut all).1
  says row tokens _ (StepBeforeRule a t {operand = x} cut is derives) all = says _ a x derives (subst AreWords cut all).1
  says row tokens _ (PrefixRule a t {operand = x} cut is derives) all = says _ a x derives (subst AreWords cut all).1
  says row tokens _ (SizeofValueRule a t {operand = x} cut is derives) all = says _ a x derives (subst AreWords cut all).1
  says row tokens _ (SizeofTypeRule a t u v cut is opens type closes) all = tt
  says row tokens _ (IndexRule a b t u {operand = x} {index = y} cut left opens right closes) all =
      let first : AreWords (a ++ t ∷ b) = front (a ++ t ∷ b) (u ∷ []) cut all in
      (says _ a x left (front_of a (t ∷ b) first), says _ b y right (back_of a (t ∷ b) first).1)
  says row tokens _ (StepAfterRule a t {operand = x} cut derives is) all = says _ a x derives (front a (t ∷ []) cut all)
  says row tokens _ (CallRule a t u v {arguments = es} cut name opens list closes) all =
      say a es list (front (t ∷ u ∷ a) (v ∷ []) cut all).1.1
  says row tokens _ (NameRule is) all = tt
  says row tokens _ (NumberRule is) all = tt
  says row tokens _ (CharacterRule {t = t} {value = w} is) all = subst KindIsWord is all.0
  says row tokens e (ParenRule a t u cut opens derives closes) all = says _ a e derives (front (t ∷ a) (u ∷ []) cut all).1

  say : (tokens : List Token) (es : Expressions) → AreArguments tokens es → AreWords tokens → AllSayWords es
  say tokens _ NoArgument all = tt
  say tokens es (SomeArguments some) all = say_some tokens es some all

  say_some : (tokens : List Token) (es : Expressions) → AreSome tokens es → AreWords tokens → AllSayWords es
  say_some tokens _ (LastArgument {tree = e} derives) all = (says _ tokens e derives all, tt)
  say_some tokens _ (MoreArguments a b t {tree = e} {arguments = es} cut derives comma rest) all =
      (says _ a e derives (front a (t ∷ b) cut all), say_some b es rest (back a (t ∷ b) cut all).1)

optional_says : (row : Row) (tokens : List Token) (e : Option Expression) → DerivesOptional row tokens e → AreWords tokens → OptionSaysWords e
optional_says row tokens None derives all = tt
optional_says row tokens (Some e) derives all = says row tokens e derives all

-- initialisers
list_says : (tokens : List Token) (es : List Expression) → DerivesList tokens es → AreWords tokens → AllByRecursion SaysWords es
list_says tokens _ (LastOfList {tree = e} derives) all = (says _ tokens e derives all, tt)
list_says tokens _ (MoreOfList a b t {tree = e} {trees = es} cut derives comma rest) all =
    (says _ a e derives (front a (t ∷ b) cut all), list_says b es rest (back a (t ∷ b) cut all).1)

initial_says : (tokens : List Token) (i : InitialTree) → DerivesInitial tokens i → AreWords tokens → InitialSaysWords (Some i)
initial_says tokens _ (OneRule {tree = e} derives) all = says _ tokens e derives all
initial_says tokens _ (BracedRule a b t u {trees = es} cut opens list last closes) all =
    list_says a es list (front_of (t ∷ a) b (front (t ∷ a ++ b) (u ∷ []) cut all)).1

initialiser_says : (tokens : List Token) (i : Option InitialTree) → DerivesInitialiser tokens i → AreWords tokens → InitialSaysWords i
initialiser_says tokens None derives all = tt
initialiser_says tokens (Some i) derives all = initial_says derives.1 i derives.4 (subst AreWords derives.2 all).1

-- declarations
item_says : (tokens : List Token) (item : ItemTree) → DerivesItem tokens item → AreWords tokens → InitialSaysWords item.initial
item_says tokens item derives all =
    initialiser_says derives.c item.initial derives.initial (back (derives.a ++ derives.t ∷ derives.b) derives.c derives.cut all)

items_say : (tokens : List Token) (items : List ItemTree) → DerivesItems tokens items → AreWords tokens → ItemsSayWords items
items_say tokens _ (LastItem {tree = item} derives) all = (item_says tokens item derives all, tt)
items_say tokens _ (MoreItems a b t {tree = item} {trees = items} cut derives comma rest) all =
    (item_says a item derives (front a (t ∷ b) cut all), items_say b items rest (back a (t ∷ b) cut all).1)

declaration_says : (tokens : List Token) (d : DeclarationTree) → DerivesDeclaration tokens d → AreWords tokens → ItemsSayWords d.items
declaration_says tokens d derives all =
    items_say derives.b d.items derives.items (back_of derives.a derives.b (front (derives.a ++ derives.b) (derives.t ∷ []) derives.cut all))

declarations_say : (tokens : List Token) (ds : List DeclarationTree) → DerivesDeclarations tokens ds → AreWords tokens → DeclarationsSayWords ds
declarations_say tokens _ NoDeclaration all = tt
declarations_say tokens _ (MoreDeclarations a b {tree = d} {trees = ds} cut derives rest) all =
    (declaration_says a d derives (front a b cut all), declarations_say b ds rest (back a b cut all))

-- statements
tested_says : (words tokens : List Token) (e : Expression) → IsTested words tokens e → AreWords tokens → SaysWords e
tested_says words tokens e is all = says _ is.a e is.test (back_of words (is.t ∷ is.a) (front (words ++ is.t ∷ is.a) (is.u ∷ []) is.cut all)).1

record HeadSaysWords (first test third : Option Expression) : Type 0 where
  first_part : OptionSaysWords first
  test_part : OptionSaysWords test
  third_part : OptionSaysWords third

head_says : (tokens : List Token) (x y z : Option Expression) → IsForHead tokens x y z → AreWords tokens → HeadSaysWords x y z
head_says tokens x y z is all =
    let one : List Token = is.k ∷ is.t ∷ is.a in
    let two : List Token = one ++ is.u ∷ is.b in
    let three : List Token = two ++ is.v ∷ is.c in
    let front_three : AreWords three = front three (is.w ∷ []) is.cut all in
    let front_two : AreWords two = front_of two (is.v ∷ is.c) front_three in
    record {
      first_part = optional_says _ is.a x is.first_part (front_of one (is.u ∷ is.b) front_two).1.1;
      test_part = optional_says _ is.b y is.test_part (back_of one (is.u ∷ is.b) front_two).1;
      third_part = optional_says _ is.c z is.third_part (back_of two (is.v ∷ is.c) front_three).1;
    }

mutual
  statement_says : (closing : Closing) (tokens : List Token) (s : Statement) → DerivesStatement closing tokens s → AreWords tokens → StatementSaysWords s
  statement_says closing tokens _ (EmptyRule ends) all = tt
  statement_says closing tokens _ (EvaluateRule a t {tree = e} cut derives ends) all = says _ a e derives (front a (t ∷ []) cut all)
  statement_says closing tokens _ (BlockRule a b t u {declarations = ds} {statements = ss} cut opens first rest closes) all =
      let inner : AreWords (t ∷ a ++ b) = front (t ∷ a ++ b) (u ∷ []) cut all in
      (declarations_say a ds first (front_of (t ∷ a) b inner).1, statements_say b ss rest (back_of (t ∷ a) b inner))
  statement_says closing tokens _ (BreakRule word ends) all = tt
  statement_says closing tokens _ (ContinueRule word ends) all = tt
  statement_says closing tokens _ (ReturnRule a t u {value = e} cut word value ends) all = optional_says _ a e value (front (t ∷ a) (u ∷ []) cut all).1
  statement_says closing tokens _ (DoRule inner a b t u v {body = s} {test = e} cut word derives again test ends) all =
      let both : AreWords (t ∷ a ++ b) = front (t ∷ a ++ b) (v ∷ []) cut all in
      (statement_says inner a s derives (front_of (t ∷ a) b both).1, tested_says (u ∷ []) b e test (back_of (t ∷ a) b both))
  statement_says closing tokens _ (IfRule inner a b t {test = e} {yes = s} cut word test derives) all =
      (tested_says (t ∷ []) a e test (front a b cut all), statement_says inner b s derives (back a b cut all))
  statement_says closing tokens _ (IfElseRule a b c t u {test = e} {yes = s} {no = r} cut word test derives other rest) all =
      let first : AreWords (a ++ b) = front (a ++ b) (u ∷ c) cut all in (
        tested_says (t ∷ []) a e test (front_of a b first),
        statement_says Closed b s derives (back_of a b first),
        statement_says closing c r rest (back (a ++ b) (u ∷ c) cut all).1,
      )
  statement_says closing tokens _ (WhileRule a b t {test = e} {body = s} cut word test derives) all =
      (tested_says (t ∷ []) a e test (front a b cut all), statement_says closing b s derives (back a b cut all))
  statement_says closing tokens _ (ForRule a b {first = x} {test = y} {third = z} {body = s} cut head derives) all =
      let parts = head_says a x y z head (front a b cut all) in
      (parts.first_part, parts.test_part, parts.third_part, statement_says closing b s derives (back a b cut all))
  statement_says closing tokens _ (SwitchRule a b t u v {value = e} {choices = cs} cut word test opens derives closes) all =
      let inner : AreWords (a ++ u ∷ b) = front (a ++ u ∷ b) (v ∷ []) cut all in
      (tested_says (t ∷ []) a e test (front_of a (u ∷ b) inner), choices_say b cs derives (back_of a (u ∷ b) inner).1)

  statements_say : (tokens : List Token) (ss : Statements) → DerivesStatements tokens ss → AreWords tokens → StatementsSayWords ss
  statements_say tokens _ NoStatement all = tt
  statements_say tokens _ (MoreStatements closing a b {tree = s} {trees = ss} cut derives rest) all =
      (statement_says closing a s derives (front a b cut all), statements_say b ss rest (back a b cut all))

  choices_say : (tokens : List Token) (cs : Choices) → DerivesChoices tokens cs → AreWords tokens → ChoicesSayWords cs
  choices_say tokens _ NoChoice all = tt
  choices_say tokens _ (CaseRule a b t u {value = e} {choices = cs} cut word derives colon rest) all =
      (says _ a e derives (front (t ∷ a) (u ∷ b) cut all).1, choices_say b cs rest (back (t ∷ a) (u ∷ b) cut all).1)
  choices_say tokens _ (DefaultRule a t u {choices = cs} cut word colon rest) all = choices_say a cs rest (subst AreWords cut all).1.1
  choices_say tokens _ (ChosenRule closing a b {tree = s} {choices = cs} cut derives rest) all =
      (statement_says closing a s derives (front a b cut all), choices_say b cs rest (back a b cut all))

-- externals
function_says : (tokens : List Token) (f : FunctionSyntax) → DerivesFunction tokens f → AreWords tokens → ExternalSaysWords (Defined f)
function_says tokens f is all =
    statement_says Closed is.d (tree.Block f.declarations f.statements f.body_at) is.body
    (back (is.a ++ is.b ++ is.n ∷ is.t ∷ is.c) (is.u ∷ is.d) is.cut all).1

pub unit_says : (tokens : List Token) (unit : UnitTree) → DerivesUnit tokens unit → AreWords tokens → UnitSaysWords unit
unit_says tokens _ (LastExternal {tree = Defined f} derives) all = (function_says tokens f derives all, tt)
unit_says tokens _ (LastExternal {tree = Declared d} derives) all = (declaration_says tokens d derives all, tt)
unit_says tokens _ (MoreExternals a b {tree = Defined f} {trees = unit} cut derives rest) all =
    (function_says a f derives (front a b cut all), unit_says b unit rest (back a b cut all))
unit_says tokens _ (MoreExternals a b {tree = Declared d} {trees = unit} cut derives rest) all =
    (declaration_says a d derives (front a b cut all), unit_says b unit rest (back a b cut all))
