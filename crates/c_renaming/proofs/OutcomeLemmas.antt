-- Outcomes, scopes and operands with other names and places.
use Rattle.std.proofs.Common.{◌≡◌, ℕ, List, map, Bool, true, false, Option, option_map, Some, None, refl, ap, ◌∙◌}
use Rattle.c_rules.specs.declared.fault.Rule.{Rule}
use Rattle.c_rules.specs.Outcome.{Outcome, Is, Broken, ◌>>=◌, breaks, there_or}
use Rattle.c_rules.specs.Scopes.{Scope}
use Rattle.c_rules.specs.Operands.{Operand}
use Rattle.c_renaming.specs.Renaming.{Renaming}
use Rattle.c_renaming.specs.RenamedPrograms.{renamed_value}

-- what is made of a node whose names and places are others
abbrev pub renamed_outcome : {A B : Type 0} → (ℕ → ℕ) → (A → B) → Outcome A → Outcome B
renamed_outcome place f (Is a) = Is (f a)
renamed_outcome place f (Broken rule at) = Broken rule (place at)

-- a scope in which each name stands for what it stood for by its former name
pub record IsScopeRenamed (r : Renaming) (s t : Scope) : Type 0 where
  pub meaning : (n : List ℕ) → t.meaning (r.name n) ≡ s.meaning n
  pub here : (n : List ℕ) → t.here (r.name n) ≡ s.here n
  pub bodies : t.bodies ≡ map r.name s.bodies

-- an operand with other names and places
abbrev pub renamed_operand : Renaming → Operand → Operand
renamed_operand r x = record { value = renamed_value r x.value; null = x.null }

-- one node behind another
pub bind_renamed : {A B C D : Type 0} (place : ℕ → ℕ) (f : A → C) (g : B → D) (o : Outcome A) (k : A → Outcome B) (other : C → Outcome D)
    → ((a : A) → renamed_outcome place g (k a) ≡ other (f a))
    → renamed_outcome place g (o >>= k) ≡ (renamed_outcome place f o >>= other)
bind_renamed place f g (Is a) k other same = same a
bind_renamed place f g (Broken rule at) k other same = refl

-- the same from the other side, with what is made of the first node
pub bind_follows : {A B C D : Type 0} (place : ℕ → ℕ) (f : A → C) (g : B → D) (o : Outcome A) (p : Outcome C) (k : A → Outcome B) (other : C → Outcome D)
    → p ≡ renamed_outcome place f o
    → ((a : A) → other (f a) ≡ renamed_outcome place g (k a))
    → (p >>= other) ≡ renamed_outcome place g (o >>= k)
bind_follows place f g (Is a) p k other first same = ap (λ z. z >>= other) first ∙ same a
bind_follows place f g (Broken rule at) p k other first same = ap (λ z. z >>= other) first

-- a rule of a node
pub breaks_renamed : {A B : Type 0} (place : ℕ → ℕ) (f : A → B) (b : Bool) (rule : Rule) (at : ℕ) (next : Outcome A)
    → renamed_outcome place f (breaks b rule at next) ≡ breaks b rule (place at) (renamed_outcome place f next)
breaks_renamed place f true rule at next = refl
breaks_renamed place f false rule at next = refl

-- what is there
pub there_or_renamed : {A B : Type 0} (place : ℕ → ℕ) (f : A → B) (rule : Rule) (at : ℕ) (o : Option A)
    → renamed_outcome place f (there_or rule at o) ≡ there_or rule (place at) (option_map f o)
there_or_renamed place f rule at None = refl
there_or_renamed place f rule at (Some a) = refl

-- a word is the same whatever the names are
pub there_or_same : (place : ℕ → ℕ) (rule : Rule) (at : ℕ) (o : Option ℕ)
    → renamed_outcome place (λ (w : ℕ). w) (there_or rule at o) ≡ there_or rule (place at) o
there_or_same place rule at None = refl
there_or_same place rule at (Some a) = refl
