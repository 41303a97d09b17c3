-- Renamings: a name for each name, and a place for each place (ISO 9899:1990 6.1.2). Of how names are spelled it counts only
-- which are the same, and which are `main`, `__in` and `__out`.
use Rattle.std.specs.Prelude.{◌≡◌, ℕ, List, [], codes}
use Rattle.std.specs.Str.{bytes_eq}

pub record Renaming : Type 0 where
  pub name : List ℕ → List ℕ
  pub place : ℕ → ℕ

-- names that differ have names that differ, those that the language gives a meaning keep theirs, and the name of a parameter
-- that has none stays absent
pub record IsFaithful (r : Renaming) : Type 0 where
  pub same : (a b : List ℕ) → bytes_eq (r.name a) (r.name b) ≡ bytes_eq a b
  pub main : r.name (codes "main") ≡ codes "main"
  pub port_in : r.name (codes "__in") ≡ codes "__in"
  pub port_out : r.name (codes "__out") ≡ codes "__out"
  pub nothing : r.name [] ≡ []
