-- Sections that are open at a line, the innermost first (docs/LANGUAGE.md, "Macros and sections").
use Rattle.std.specs.Prelude.{ℕ, Bool, true, false, not, ◌&&◌, if◌then◌else◌, List, [], ◌∷◌, Result, Ok, Err}
use Rattle.c_macro.specs.declared.fault.MacroFault.{MacroFault}
use Rattle.c_macro.specs.declared.fault.MacroFault.TheVariants.{Directive, Unbalanced}
use Rattle.c_macro.specs.declared.verb.Verb.{Verb}
use Rattle.c_macro.specs.declared.verb.Verb.TheVariants.{If, Ifdef, Ifndef, Else, Elif, Endif}

-- a section that is open: the place of the `#` that opened it, whether it keeps the line, and whether its `else` was met
pub record Section : Type 0 where
  pub at : ℕ
  pub keeps : Bool
  pub has_else : Bool

-- every section keeps the line
abbrev pub is_kept : List Section → Bool
is_kept [] = true
is_kept (section ∷ outer) = section.keeps && is_kept outer

abbrev pub opened : ℕ → Bool → List Section → List Section
opened at keeps sections = record { at = at; keeps = keeps; has_else = false } ∷ sections

-- after an `else` at a place
abbrev pub turned : ℕ → List Section → Result (List Section) MacroFault
turned at [] = Err (Unbalanced at)
turned at (section ∷ outer) =
    if section.has_else
    then Err (Unbalanced at)
    else Ok (record { at = section.at; keeps = not section.keeps; has_else = true } ∷ outer)

-- after an `endif` at a place
abbrev pub closed : ℕ → List Section → Result (List Section) MacroFault
closed at [] = Err (Unbalanced at)
closed at (section ∷ outer) = Ok outer

-- after an `elif` at a place, in a line that isn't kept: it is passed over where its section is nested in a skipped one
abbrev pub passed_elif : ℕ → List Section → Result (List Section) MacroFault
passed_elif at [] = Err (Directive at)
passed_elif at (section ∷ outer) = if is_kept outer then Err (Directive at) else Ok (section ∷ outer)

-- after a directive at a place, in a line that isn't kept
abbrev pub passed : ℕ → Verb → List Section → Result (List Section) MacroFault
passed at If sections = Ok (opened at false sections)
passed at Ifdef sections = Ok (opened at false sections)
passed at Ifndef sections = Ok (opened at false sections)
passed at Else sections = turned at sections
passed at Elif sections = passed_elif at sections
passed at Endif sections = closed at sections
passed at verb sections = Ok sections
