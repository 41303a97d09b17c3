-- Scopes that are the same again.
use Rattle.std.proofs.Common.{◌≡◌, List, [], ◌∷◌}
use Rattle.c_rules.specs.Scopes.{Scope, no_names}
use Rattle.c_names.specs.Tables.{closed}

-- a scope that was opened is closed again
pub closed_again : {A : Type 0} (s t : A) (ts around : List A) → around ≡ t ∷ ts → closed (s ∷ around) ≡ t ∷ ts
closed_again s t ts around is = rw is

-- the first scope of a list
abbrev pub innermost : List Scope → Scope
innermost [] = no_names []
innermost (s ∷ ss) = s
