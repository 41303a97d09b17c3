-- Scopes and the tables that they stand for.
use Rattle.std.proofs.Common.{◌≡◌, ℕ, ◌||◌, Bool, true, false, cond, if◌then◌else◌, is_some, List, [], ◌∷◌, ◌++◌, reverse, Option, Some, None, refl, ap, ◌∙◌}
use Rattle.std.proofs.Math.Path.{fun_ext}
use Rattle.std.proofs.lemmas.List.{reverse-append}
use Rattle.c_rules.specs.declared.meaning.Meaning.{Meaning}
use Rattle.c_rules.specs.Scopes.{Scope}
use Rattle.c_names.specs.Tables.{Table, or_else, in_table, in_tables}

-- two scopes are one where they agree at each name
pub same_scope : (s t : Scope) → ((n : List ℕ) → s.meaning n ≡ t.meaning n) → ((n : List ℕ) → s.here n ≡ t.here n) → s.bodies ≡ t.bodies → s ≡ t
same_scope s t meaning here bodies = λ i. record {
  meaning = fun_ext meaning i;
  here = fun_ext here i;
  bodies = bodies i;
}

module _ (m : Meaning) (x rest : Option Meaning) where
  -- one more name in the innermost table
  pub declared_meaning : (b : Bool) → or_else (cond b (Some m) x) rest ≡ (if b then Some m else or_else x rest)
  declared_meaning true = refl
  declared_meaning false = refl

  pub declared_here : (b : Bool) → is_some (cond b (Some m) x) ≡ (b || is_some x)
  declared_here true = refl
  declared_here false = refl

-- behind a table that hasn't the name
pub behind : (x rest : Option Meaning) → x ≡ None → or_else x rest ≡ rest
behind x rest none = ap (λ m. or_else m rest) none

module _ (whole ts : List Table) (t : Table) (name : List ℕ) (is : whole ≡ ts ++ t ∷ []) where
  -- from the end, the last table of a list is the first one
  pub from_last : in_tables (reverse whole) name ≡ or_else (in_table t name) (in_tables (reverse ts) name)
  from_last = ap (λ l. in_tables (reverse l) name) is ∙ ap (λ l. in_tables l name) (reverse-append ts (t ∷ []))

  pub passed_last : in_table t name ≡ None → in_tables (reverse whole) name ≡ in_tables (reverse ts) name
  passed_last none = from_last ∙ behind (in_table t name) (in_tables (reverse ts) name) none

  pub found_last : (m : Meaning) → in_table t name ≡ Some m → in_tables (reverse whole) name ≡ Some m
  found_last m there = from_last ∙ ap (λ x. or_else x (in_tables (reverse ts) name)) there
