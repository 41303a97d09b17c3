-- More on what an outcome gives.
use Rattle.std.proofs.Common.{ℕ, Bool, true, false, if◌then◌else◌, Option, Some, None, IfSome}
use Rattle.std.specs.Prelude.{⊤}
use Rattle.c_rules.specs.declared.fault.Rule.{Rule}
use Rattle.c_rules.specs.Outcome.{Outcome, Is, Broken, there_or}
use Rattle.c_rules.proofs.Formed.Context.{Gives, broken, is}

module _ {A : Type 0} where
  -- what is so of any outcome
  pub always : {Q : Type 0} (o : Outcome A) → Q → Gives (λ a. Q) o
  always (Is a) so = is a so
  always (Broken rule at) so = broken rule at

  pub anything : (o : Outcome A) → Gives (λ a. ⊤) o
  anything o = always o (tt {0})

  pub weaker : {P Q : A → Type 0} (o : Outcome A) → Gives P o → ((a : A) → P a → Q a) → Gives Q o
  weaker (Is a) gives rest = is a (rest a gives.holds)
  weaker (Broken rule at) gives rest = broken rule at

  pub together : {P Q : A → Type 0} (o : Outcome A) → Gives P o → Gives Q o → Gives (λ a. P a × Q a) o
  together (Is a) first second = is a (first.holds, second.holds)
  together (Broken rule at) first second = broken rule at

  pub one_of : {P : A → Type 0} (b : Bool) (o p : Outcome A) → Gives P o → Gives P p → Gives P (if b then o else p)
  one_of true o p first second = first
  one_of false o p first second = second

  pub if_there : {P : A → Type 0} (rule : Rule) (at : ℕ) (o : Option A) → IfSome o P → Gives P (there_or rule at o)
  if_there rule at (Some a) holds = is a holds
  if_there rule at None holds = broken rule at

-- one that has a property for each of something has them all
pub of_each : {A N : Type 0} {P : N → A → Type 0} (o : Outcome A) → ((n : N) → Gives (P n) o) → Gives (λ a. (n : N) → P n a) o
of_each (Is a) each = is a (λ n. (each n).holds)
of_each (Broken rule at) each = broken rule at

-- and for each of which something is so
pub for_all : {A N : Type 0} {F : N → Type 0} {P : N → A → Type 0} (o : Outcome A) → ((n : N) → F n → Gives (P n) o) → Gives (λ a. (n : N) → F n → P n a) o
for_all (Is a) each = record { holds = λ n f. (each n f).holds }
for_all (Broken rule at) each = record { holds = tt }
