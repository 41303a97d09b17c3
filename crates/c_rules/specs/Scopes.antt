-- Scopes: ISO 9899:1990 6.1.2.1 (docs/LANGUAGE.md, "Types"). A scope is a function from names to what they stand for.
use Rattle.std.specs.Prelude.{ℕ, ◌||◌, Bool, false, if◌then◌else◌, List, codes, Option, Some, None}
use Rattle.std.specs.Str.{bytes_eq}
use Rattle.c_rules.specs.declared.meaning.Meaning.{Meaning}
use Rattle.c_rules.specs.declared.meaning.ObjectType.TheVariants.{Array}
use Rattle.c_rules.specs.declared.meaning.Meaning.TheVariants as meanings

pub record Scope : Type 0 where
  -- what a name stands for, where it is declared
  pub meaning : List ℕ → Option Meaning
  -- whether it is declared in the innermost scope
  pub here : List ℕ → Bool
  -- the names of the functions that have bodies anywhere in the source, in order
  pub bodies : List (List ℕ)

-- the names of the ports
abbrev pub is_in : List ℕ → Bool
is_in name = bytes_eq name (codes "__in")

abbrev pub is_out : List ℕ → Bool
is_out name = bytes_eq name (codes "__out")

-- no name is declared
abbrev pub no_names : List (List ℕ) → Scope
no_names bodies = record { meaning = λ name. None; here = λ name. false; bodies = bodies }

-- a scope within this one
abbrev pub open_scope : Scope → Scope
open_scope s = record { meaning = s.meaning; here = λ name. false; bodies = s.bodies }

-- one more name
abbrev pub declare : Scope → List ℕ → Meaning → Scope
declare s name m = record {
  meaning = λ n. if bytes_eq name n then Some m else s.meaning n;
  here = λ n. bytes_eq name n || s.here n;
  bodies = s.bodies;
}

-- a name that is a port's, or declared in the innermost scope, can't be declared there
abbrev pub is_taken : Scope → List ℕ → Bool
is_taken s name = is_in name || is_out name || s.here name

-- the length of the array that a name stands for
abbrev pub length_of_array : Option Meaning → Option ℕ
length_of_array (Some (meanings.Object reference (Array kind length))) = Some length
length_of_array m = None
