-- What an answer within the checker says of what the rules make of a node.
use Rattle.std.specs.Prelude.{◌≡◌, ⊤, Result, Ok, Err}
use Rattle.c_rules.specs.declared.fault.Refusal.{Refusal}
use Rattle.c_rules.specs.declared.fault.Refusal.TheVariants as refusals
use Rattle.c_rules.specs.Outcome.{Outcome, Is, Broken}

-- of a refusal: the rule that it names is the first that is broken, at its place. Want of memory says nothing.
abbrev pub Refuses : {A : Type 0} → Outcome A → Refusal → Type 0
Refuses outcome (refusals.Broken rule at) = outcome ≡ Broken rule at
Refuses outcome refusals.NoMemory = ⊤

-- of an answer: it is what they make, in this view of it, or a refusal of it.
abbrev pub Follows : {A B : Type 0} → (A → B) → Outcome B → Result A Refusal → Type 0
Follows view outcome (Ok a) = outcome ≡ Is (view a)
Follows view outcome (Err refusal) = Refuses outcome refusal
