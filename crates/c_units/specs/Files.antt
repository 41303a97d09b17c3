-- What a file is by itself: its tokens without dropped `extern`s, their tree, and the fault that it has (docs/LANGUAGE.md, "Programs
-- of several files").
use Rattle.std.specs.Prelude.{◌≡◌, ◌≢◌, ⊤, ℕ, ◌+◌, List, ◌∷◌, ◌++◌, length}
use Rattle.std.specs.List.{AllZip}
use Rattle.c_tree.specs.c_syntax.declared.token.Token.{Token}
use Rattle.c_tree.specs.c_syntax.Lexes.{Lexes}
use Rattle.c_tree.specs.c_syntax.Source.{IsSource, NoSource, IsPlace}
use Rattle.c_tree.specs.c_syntax.SyntaxTree.{UnitTree}
use Rattle.c_lexer.specs.declared.fault.LexFault.{LexFault}
use Rattle.c_lexer.specs.declared.fault.LexFault.TheVariants as lex_faults
use Rattle.c_lexer.specs.LexFaults as lexer
use Rattle.c_parser.specs.declared.fault.ParseFault.{ParseFault}
use Rattle.c_parser.specs.declared.fault.ParseFault.TheVariants as parse_faults
use Rattle.c_rules.specs.declared.fault.Rule.{Rule}
use Rattle.c_rules.specs.declared.fault.TypeFault.{TypeFault}
use Rattle.c_rules.specs.Checked.{Breaks, Holds}
use Rattle.c_rules.specs.Faults.{rule_fault}
use Rattle.c_units.specs.declared.fault.UnitFault.{UnitFault}
use Rattle.c_units.specs.declared.fault.UnitFault.TheVariants.{Lex, Parse, Types}
use Rattle.c_units.specs.Externs.{AtStart, without_externs, extern_places}

-- a file: the tokens that are left without its dropped `extern`s, the places of those that followed one, and their tree
pub record FileTree : Type 0 where
  pub tokens : List Token
  pub externs : List ℕ
  pub unit : UnitTree

-- the bytes have tokens, of which these are left
pub record HasTokens (bytes : List ℕ) (tokens : List Token) (externs : List ℕ) : Type 0 where
  pub all : List Token
  pub lexes : Lexes bytes all
  pub left : tokens ≡ without_externs all
  pub places : externs ≡ extern_places AtStart all

-- the bytes have a tree
pub record HasTree (bytes : List ℕ) (file : FileTree) : Type 0 where
  pub tokens : HasTokens bytes file.tokens file.externs
  pub source : IsSource file.tokens file.unit

-- the bytes have a tree of which no node breaks a rule. Whether there is a `main`, each call has a body, no function reaches itself
-- and the limits hold is left to the joined text.
pub record IsFile (bytes : List ℕ) (file : FileTree) : Type 0 where
  pub tree : HasTree bytes file
  pub valid : Holds file.unit (λ functions. ⊤)

abbrev pub AreFiles : List (List ℕ) → List FileTree → Type 0
AreFiles sources files = AllZip IsFile sources files

-- the tokens that are left have no tree, and the place is one among them
abbrev pub IsSyntaxFault : ParseFault → List Token → Type 0
IsSyntaxFault (parse_faults.Syntax at) tokens = NoSource tokens × IsPlace tokens at
IsSyntaxFault parse_faults.NoMemory tokens = ⊥

-- the first node of a tree that breaks a rule breaks this
pub record BreaksRule (unit : UnitTree) (fault : TypeFault) : Type 0 where
  pub rule : Rule
  pub at : ℕ
  pub breaks : Breaks unit rule at
  pub is : fault ≡ rule_fault rule at

-- why the bytes of a file are none that is joined. Want of memory is no fault of a file.
pub data HasOwnFault (number : ℕ) (bytes : List ℕ) (fault : UnitFault) : Type 0 where
  OfTokens : (why : LexFault) → fault ≡ Lex number why → why ≢ lex_faults.NoMemory → lexer.Says bytes why → HasOwnFault number bytes fault
  OfSyntax : (why : ParseFault) → fault ≡ Parse number why
      → (tokens : List Token) (externs : List ℕ) → HasTokens bytes tokens externs → IsSyntaxFault why tokens → HasOwnFault number bytes fault
  OfTypes : (why : TypeFault) → fault ≡ Types number why
      → (file : FileTree) → HasTree bytes file → BreaksRule file.unit why → HasOwnFault number bytes fault

-- the first file that has a fault of its own has this. Files are numbered from 1.
pub record HasFileFault (sources : List (List ℕ)) (fault : UnitFault) : Type 0 where
  pub before : List (List ℕ)
  pub source : List ℕ
  pub following : List (List ℕ)
  pub are : sources ≡ before ++ source ∷ following
  pub files : List FileTree
  pub read : AreFiles before files
  pub has : HasOwnFault (length before + 1) source fault
