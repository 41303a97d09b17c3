-- The line that refuses a source (docs/COMMANDS.md, "Statuses and lines").
use Rattle.std.specs.Prelude.{ℕ, List, [], ◌∷◌, ◌++◌, codes, decimal}
use Rattle.c_units.specs.c_lexer.declared.fault.LexFault.{LexFault}
use Rattle.c_units.specs.c_lexer.declared.fault.LexFault.TheVariants as lex_faults
use Rattle.c_units.specs.c_parser.declared.fault.ParseFault.{ParseFault}
use Rattle.c_units.specs.c_parser.declared.fault.ParseFault.TheVariants as parse_faults
use Rattle.c_units.specs.c_rules.declared.fault.LimitName.{LimitName}
use Rattle.c_units.specs.c_rules.declared.fault.LimitName.TheVariants as limits
use Rattle.c_units.specs.c_rules.declared.fault.TypeFault.{TypeFault}
use Rattle.c_units.specs.c_rules.declared.fault.TypeFault.TheVariants as type_faults
use Rattle.lay_profile.specs.cc_compile.frame_layouts.mem_plan.declared.data_plan.PlanFault.{PlanFault}
use Rattle.lay_profile.specs.cc_compile.frame_layouts.mem_plan.declared.data_plan.PlanFault.TheVariants as plan_faults
use Rattle.lay_profile.specs.cc_compile.c25_link.declared.fault.LinkFault.{LinkFault}
use Rattle.lay_profile.specs.cc_compile.c25_link.declared.fault.LinkFault.TheVariants as link_faults
use Rattle.lay_profile.specs.cc_compile.declared.fault.BuildFault.{BuildFault}
use Rattle.lay_profile.specs.cc_compile.declared.fault.BuildFault.TheVariants.{Lex, Parse, Types, Plan, Link, NoMemory}

-- the line of a fault at a place; what tells the source, where it is one of several, stands before the fault
abbrev pub place_line : List ℕ → List ℕ → ℕ → List ℕ
place_line source what at = codes "source refused: " ++ (source ++ (what ++ (codes " at byte " ++ (decimal at ++ codes "\n"))))

-- the line of more of something than there may be
abbrev pub too_many_line : List ℕ → List ℕ → ℕ → List ℕ
too_many_line source what count = codes "source refused: " ++ (source ++ (codes "too many " ++ (what ++ (codes " " ++ (decimal count ++ codes "\n")))))

-- names, each behind a space
abbrev pub spaced : List (List ℕ) → List ℕ
spaced [] = []
spaced (name ∷ names) = codes " " ++ (name ++ spaced names)

-- the name of a count that has a limit
abbrev pub limit_name : LimitName → List ℕ
limit_name limits.Functions = codes "functions"
limit_name limits.Parameters = codes "parameters"
limit_name limits.Scalars = codes "scalars"
limit_name limits.Cases = codes "cases"

-- the line of functions that call one another in a circle
abbrev pub chain_line : List ℕ → List (List ℕ) → List ℕ
chain_line source chain = codes "source refused: " ++ (source ++ (codes "recursion" ++ (spaced chain ++ codes "\n")))

-- the line of more of something than a limit allows
abbrev pub limit_line : List ℕ → LimitName → ℕ → List ℕ
limit_line source which count =
    codes "source refused: " ++ (source ++ (codes "limit " ++ (limit_name which ++ (codes " " ++ (decimal count ++ codes "\n")))))

-- the line of a fault of the lexer; want of memory has none
abbrev pub lex_line : List ℕ → LexFault → List ℕ
lex_line source (lex_faults.BadByte at) = place_line source (codes "bad byte") at
lex_line source (lex_faults.OpenComment at) = place_line source (codes "open comment") at
lex_line source (lex_faults.BadConstant at) = place_line source (codes "bad constant") at
lex_line source (lex_faults.LongName at) = place_line source (codes "long name") at
lex_line source (lex_faults.TooManyTokens count) = too_many_line source (codes "tokens") count
lex_line source lex_faults.NoMemory = []

-- the line of a fault of syntax; want of memory has none
abbrev pub parse_line : List ℕ → ParseFault → List ℕ
parse_line source (parse_faults.Syntax at) = place_line source (codes "syntax") at
parse_line source parse_faults.NoMemory = []

-- the line of a fault of types; want of memory has none
abbrev pub type_line : List ℕ → TypeFault → List ℕ
type_line source (type_faults.Undeclared at) = place_line source (codes "undeclared") at
type_line source (type_faults.Redeclared at) = place_line source (codes "redeclared") at
type_line source (type_faults.Mismatch at) = place_line source (codes "mismatch") at
type_line source (type_faults.NotLvalue at) = place_line source (codes "not an lvalue") at
type_line source (type_faults.NotConstant at) = place_line source (codes "not constant") at
type_line source (type_faults.LongConstant at) = place_line source (codes "long constant") at
type_line source (type_faults.BadPort at) = place_line source (codes "bad port") at
type_line source (type_faults.ArgCount at) = place_line source (codes "argument count") at
type_line source (type_faults.MissingMain at) = place_line source (codes "missing main") at
type_line source (type_faults.MissingBody at) = place_line source (codes "missing body") at
type_line source (type_faults.Misplaced at) = place_line source (codes "misplaced") at
type_line source (type_faults.Recursion chain) = chain_line source chain
type_line source (type_faults.Limit which count) = limit_line source which count
type_line source type_faults.NoMemory = []

-- the lines of data and of code that find no room; want of memory has none
abbrev pub plan_line : PlanFault → List ℕ
plan_line (plan_faults.DataFull words) = codes "source refused: data full " ++ (decimal words ++ codes "\n")
plan_line plan_faults.NoMemory = []

abbrev pub link_line : LinkFault → List ℕ
link_line (link_faults.CodeFull words) = codes "source refused: code full " ++ (decimal words ++ codes "\n")
link_line link_faults.NoMemory = []

-- the line that refuses a source; want of memory is no fault of one
abbrev pub source_line : BuildFault → List ℕ
source_line (Lex why) = lex_line [] why
source_line (Parse why) = parse_line [] why
source_line (Types why) = type_line [] why
source_line (Plan why) = plan_line why
source_line (Link why) = link_line why
source_line NoMemory = []
