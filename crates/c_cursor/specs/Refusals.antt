-- What a refusal within the parser tells of the tokens.
use Rattle.c_cursor.specs.declared.fault.Refusal.{Refusal}
use Rattle.c_cursor.specs.declared.fault.Refusal.TheVariants as refusals

-- it is so where the refusal is one for syntax: want of memory tells nothing
abbrev pub Refuses : Type 0 → Refusal → Type 0
Refuses P (refusals.Syntax left) = P
Refuses P refusals.NoMemory = Unit {0}
