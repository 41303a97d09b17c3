-- What a walk over a source comes to: nodes, each with its place and the rules that it breaks (docs/LANGUAGE.md, "Types"). A node's parts
-- come before the node, in source order. Each rule of a node is looked at without regard to the others, and what it asks of a part once
-- that part is typed. The walk comes to all nodes that may break a rule up to the first that breaks one; of those behind, only to some.
use Rattle.std.specs.Prelude.{ℕ, nat_lt, Bool, true, false, if◌then◌else◌, List, [], ◌∷◌, Option, Some, None}
use Rattle.c_rules.specs.declared.fault.Rule.{Rule}
use Rattle.c_rules.specs.declared.fault.Rule.TheVariants.{Undeclared, Redeclared, Mismatch, NotLvalue, NotConstant, LongConstant, BadPort, ArgCount, Misplaced}
use Rattle.c_rules.specs.Outcome.{Outcome, Is, Broken}

-- a node: its place, and the rules that it breaks
pub record Visit : Type 0 where
  pub at : ℕ
  pub broken : List Rule

abbrev pub visit : ℕ → List Rule → Visit
visit at broken = record { at = at; broken = broken }

-- a rule that is broken, and the place of the node that breaks it
pub record BrokenRule : Type 0 where
  pub rule : Rule
  pub at : ℕ

-- the order of the rules
abbrev pub rank : Rule → ℕ
rank Undeclared = 1
rank Redeclared = 2
rank Mismatch = 3
rank NotLvalue = 4
rank NotConstant = 5
rank LongConstant = 6
rank BadPort = 7
rank ArgCount = 8
rank Misplaced = 9

-- the least of the rules that a node breaks
abbrev pub lesser : Rule → Option Rule → Rule
lesser rule None = rule
lesser rule (Some other) = if nat_lt (rank other) (rank rule) then other else rule

abbrev pub least : List Rule → Option Rule
least [] = None
least (rule ∷ rules) = Some (lesser rule (least rules))

-- the first node that breaks a rule
abbrev pub or_next : ℕ → Option Rule → Option BrokenRule → Option BrokenRule
or_next at None next = next
or_next at (Some rule) next = Some (record { rule = rule; at = at })

abbrev pub first : List Visit → Option BrokenRule
first [] = None
first (v ∷ vs) = or_next v.at (least v.broken) (first vs)

-- a rule, where it is broken
abbrev pub when : Bool → Rule → List Rule
when true rule = rule ∷ []
when false rule = []

-- the one rule that a node may break
abbrev pub rule_of : {A : Type 0} → Outcome A → List Rule
rule_of (Is a) = []
rule_of (Broken rule at) = rule ∷ []

-- what a node breaks by its typed parts
abbrev pub by_one : {A : Type 0} → Outcome A → (A → List Rule) → List Rule
by_one (Is a) rules = rules a
by_one (Broken rule at) rules = []

abbrev pub by_two : {A B : Type 0} → Outcome A → Outcome B → (A → B → List Rule) → List Rule
by_two o p rules = by_one o (λ a. by_one p (rules a))

abbrev pub by_three : {A B C : Type 0} → Outcome A → Outcome B → Outcome C → (A → B → C → List Rule) → List Rule
by_three o p q rules = by_one o (λ a. by_two p q (rules a))

-- the nodes behind something that is typed
abbrev pub visits_behind : {A : Type 0} → Outcome A → (A → List Visit) → List Visit
visits_behind (Is a) next = next a
visits_behind (Broken rule at) next = []

-- what an outcome breaks
abbrev pub broken_in : {A : Type 0} → Outcome A → Option BrokenRule
broken_in (Is a) = None
broken_in (Broken rule at) = Some (record { rule = rule; at = at })
