-- The scopes that a stack of tables stands for: ISO 9899:1990 6.1.2.1. The innermost one comes first.
use Rattle.std.specs.Prelude.{ℕ, is_some, List, [], ◌∷◌, map, reverse, Option, Some, None}
use Rattle.std.specs.Str.{bytes_eq}
use Rattle.std.specs.Borrow.{Bor}
use Rattle.std.specs.declared.hash.BuildHasherDefault.{BuildHasherDefault}
use Rattle.std.specs.declared.hash.FoldHasher.{FoldHasher}
use Rattle.indexmap.specs.IndexMap.{IndexMap, get_by}
use Rattle.c_rules.specs.declared.meaning.Meaning.{Meaning}
use Rattle.c_names.specs.declared.scopes.Scopes.{Scopes}
use Rattle.c_rules.specs.Scopes.{Scope}

abbrev pub Table : Type 0
Table = IndexMap (Bor (List ℕ)) Meaning (BuildHasherDefault FoldHasher)

-- the first of two meanings, where it is there
abbrev pub or_else : Option Meaning → Option Meaning → Option Meaning
or_else (Some m) other = Some m
or_else None other = other

-- what a name stands for in one table
abbrev pub in_table : Table → List ℕ → Option Meaning
in_table t name = get_by (λ k. bytes_eq name k.now) t

-- what a name stands for in the first table that has it
abbrev pub in_tables : List Table → List ℕ → Option Meaning
in_tables [] name = None
in_tables (t ∷ ts) name = or_else (in_table t name) (in_tables ts name)

abbrev pub key_names : List (Bor (List ℕ)) → List (List ℕ)
key_names keys = map (λ k. k.now) keys

-- the scope of a table within others, in a source with these bodies
abbrev pub scope_in : List (List ℕ) → Table → List Table → Scope
scope_in bodies t ts = record {
  meaning = in_tables (t ∷ ts);
  here = λ name. is_some (in_table t name);
  bodies = bodies;
}

-- each scope with those around it
abbrev pub scopes_in : List (List ℕ) → List Table → List Scope
scopes_in bodies [] = []
scopes_in bodies (t ∷ ts) = scope_in bodies t ts ∷ scopes_in bodies ts

-- the innermost scope, those around it, and all of them
abbrev pub scope_of : Scopes → Scope
scope_of s = scope_in (key_names s.bodies.keys) s.innermost (reverse s.outer.items)

abbrev pub around_of : Scopes → List Scope
around_of s = scopes_in (key_names s.bodies.keys) (reverse s.outer.items)

abbrev pub scopes_of : Scopes → List Scope
scopes_of s = scope_of s ∷ around_of s

-- the scopes without the innermost one, where one is around it
abbrev pub closed : {A : Type 0} → List A → List A
closed [] = []
closed (s ∷ []) = s ∷ []
closed (s ∷ t ∷ ts) = t ∷ ts
