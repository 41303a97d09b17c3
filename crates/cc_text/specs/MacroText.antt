-- The line that refuses a source that has no expansion (docs/COMMANDS.md, "Statuses and lines").
use Rattle.std.specs.Prelude.{ℕ, List, [], codes}
use Rattle.c_macro.specs.declared.fault.MacroFault.{MacroFault}
use Rattle.c_macro.specs.declared.fault.MacroFault.TheVariants.{Lex, Directive, Redefined, Unbalanced, TooMany, NoMemory}
use Rattle.c_macro.specs.declared.fault.MacroLimit.{MacroLimit}
use Rattle.c_macro.specs.declared.fault.MacroLimit.TheVariants.{Tokens, Replacements, Macros}
use Rattle.cc_text.specs.SourceText.{place_line, too_many_line, lex_line}

-- what there is too much of
abbrev pub macro_limit : MacroLimit → List ℕ
macro_limit Tokens = codes "tokens"
macro_limit Replacements = codes "replacements"
macro_limit Macros = codes "macros"

-- a fault of the lexer has the lexer's line; want of memory has none
abbrev pub macro_line : MacroFault → List ℕ
macro_line (Lex why) = lex_line [] why
macro_line (Directive at) = place_line [] (codes "bad directive") at
macro_line (Redefined at) = place_line [] (codes "macro redefined") at
macro_line (Unbalanced at) = place_line [] (codes "unbalanced section") at
macro_line (TooMany what count) = too_many_line [] (macro_limit what) count
macro_line NoMemory = []
