-- What each fault of a source says of its bytes (docs/COMMANDS.md, "Statuses and lines").
use Rattle.std.specs.Prelude.{◌≡◌, ◌≢◌, ℕ, List}
use Rattle.c_syntax.specs.declared.token.Token.{Token}
use Rattle.c_syntax.specs.Lexes.{Lexes}
use Rattle.c_lexer.specs.declared.fault.LexFault.{LexFault}
use Rattle.c_lexer.specs.declared.fault.LexFault.TheVariants as lex
use Rattle.c_lexer.specs.LexFaults as lexer
use Rattle.c_syntax.specs.SyntaxTree.{UnitTree}
use Rattle.c_syntax.specs.Source.{IsSource, NoSource, IsPlace}
use Rattle.c_parser.specs.declared.fault.ParseFault.{ParseFault}
use Rattle.c_parser.specs.declared.fault.ParseFault.TheVariants as parse
use Rattle.c_tree.specs.TypedTree.{ProgramTree}
use Rattle.c_rules.specs.Checked.{IsTyped}
use Rattle.c_rules.specs.Faults as rules
use Rattle.c_rules.specs.declared.fault.TypeFault.{TypeFault}
use Rattle.c_rules.specs.declared.fault.TypeFault.TheVariants as types
use Rattle.c25_isa.specs.Image.{Contents}
use Rattle.frame_layouts.specs.declared.options.Options.{Options}
use Rattle.cc_compile.specs.Images.{HasImage, HasPlanFault, HasLinkFault, source_jobs}
use Rattle.cc_compile.specs.declared.fault.BuildFault.{BuildFault}
use Rattle.cc_compile.specs.declared.fault.BuildFault.TheVariants.{Lex, Parse, Types, Plan, Link}

-- the bytes have tokens, and these a tree with a property
abbrev pub HasTree : List ℕ → (UnitTree → Type 0) → Type 0
HasTree bytes P = (tokens : List Token) × (source : UnitTree) × Lexes bytes tokens × IsSource tokens source × P source

-- a source has a typed program with a property
abbrev pub IsTypedWith : (ProgramTree → Type 0) → UnitTree → Type 0
IsTypedWith P source = (program : ProgramTree) × IsTyped source program × P program

-- the bytes have a tree, of which this is the typed program
abbrev pub HasProgram : List ℕ → ProgramTree → Type 0
HasProgram bytes program = HasTree bytes (λ source. IsTyped source program)

-- the bytes have a tree, whose typed program has an image
abbrev pub IsAccepted : Options → List ℕ → Type 0
IsAccepted o bytes = HasTree bytes (IsTypedWith (λ program. (image : Contents) × HasImage (source_jobs o program) program image))

-- the bytes have a tree, which has no typed program
abbrev pub IsUntyped : List ℕ → Type 0
IsUntyped bytes = HasTree bytes (λ source. (program : ProgramTree) → ¬ IsTyped source program)

-- the bytes have no tokens, for this reason. Want of memory is no reason.
abbrev pub IsLexFault : LexFault → List ℕ → Type 0
IsLexFault why bytes = (why ≢ lex.NoMemory) × lexer.Says bytes why

-- tokens have no tree, and the place is one among them. Which of their places it is isn't told by the grammar.
abbrev pub IsParseFault : ParseFault → List Token → Type 0
IsParseFault (parse.Syntax at) tokens = NoSource tokens × IsPlace tokens at
IsParseFault parse.NoMemory tokens = ⊥

-- a source breaks a rule of types, which this fault says
abbrev pub IsTypeFault : TypeFault → UnitTree → Type 0
IsTypeFault why source = (why ≢ types.NoMemory) × rules.Says source why

-- the bytes have a fault of tokens, syntax or types, which leaves them without a typed program
abbrev pub HasNoProgramFor : BuildFault → List ℕ → Type 0
HasNoProgramFor (Lex why) bytes = IsLexFault why bytes
HasNoProgramFor (Parse why) bytes = (tokens : List Token) × Lexes bytes tokens × IsParseFault why tokens
HasNoProgramFor (Types why) bytes = HasTree bytes (IsTypeFault why)
HasNoProgramFor why bytes = ⊥

-- what each fault says of the bytes of a source, with frames laid out as is chosen. Want of memory is no fault of a source.
abbrev pub HasFault : Options → List ℕ → BuildFault → Type 0
HasFault o bytes (Plan why) = HasTree bytes (IsTypedWith (λ program. HasPlanFault program why))
HasFault o bytes (Link why) = HasTree bytes (IsTypedWith (λ program. HasLinkFault (source_jobs o program) program why))
HasFault o bytes why = HasNoProgramFor why bytes

-- both are one fault, but for the place that one of syntax names and for which one of types
abbrev pub IsSameFault : BuildFault → BuildFault → Type 0
IsSameFault (Parse why) other = (also : ParseFault) × (other ≡ Parse also)
IsSameFault (Types why) other = (also : TypeFault) × (other ≡ Types also)
IsSameFault fault other = other ≡ fault

-- a fault is one of types
abbrev pub IsOfTypes : BuildFault → Type 0
IsOfTypes fault = (why : TypeFault) × (fault ≡ Types why)
