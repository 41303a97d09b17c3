-- Single nodes, and nodes of which something is made: over any outcomes.
use Rattle.std.proofs.Common.{ℕ, ◌||◌, Bool, true, false, List, [], ◌∷◌, ◌++◌, is_none, Option, Some, None, refl, ap}
use Rattle.c_rules.specs.declared.fault.Rule.{Rule}
use Rattle.c_rules.specs.declared.fault.Rule.TheVariants.{Redeclared, Mismatch, Misplaced}
use Rattle.c_rules.specs.Outcome.{Outcome, Is, Broken, ◌>>=◌, breaks, there_or}
use Rattle.c_rules.specs.Visits.{Visit, visit, lesser, when, rule_of, visits_behind}
use Rattle.c_rules.proofs.Walked.Finding.{Finds, followed, found_here, found_behind}
use Rattle.c_rules.proofs.Walked.Mismatching.{Mismatches, finds_mismatch}

-- what is made of something that is typed breaks no more rules
pub mapped : {A B : Type 0} (vs : List Visit) (o : Outcome A) (g : A → B) → Finds vs o → Finds vs (o >>= λ a. Is (g a))
mapped vs (Is a) g one = one
mapped vs (Broken rule at) g one = one

pub mapped_both : {A B C : Type 0} (vs : List Visit) (o : Outcome A) (p : A → Outcome B) (g : A → B → C)
    → Finds vs (o >>= p) → Finds vs (o >>= λ a. p a >>= λ b. Is (g a b))
mapped_both vs (Is a) p g one = mapped vs (p a) (g a) one
mapped_both vs (Broken rule at) p g one = one

-- one behind another, of which both something is made
pub followed_by : {A B C : Type 0} (vs : List Visit) (ws : A → List Visit) (o : Outcome A) (p : A → Outcome B) (g : A → B → C)
    → Finds vs o → ((a : A) → Finds (ws a) (p a)) → Finds (vs ++ visits_behind o ws) (o >>= λ a. p a >>= λ b. Is (g a b))
followed_by vs ws o p g one other = followed vs ws o _ one (λ a. mapped (ws a) (p a) (g a) (other a))

-- nodes that are looked at where two parts before them are typed
pub followed_twice : {A B C : Type 0} (vs us : List Visit) (ws : A → B → List Visit) (o : Outcome A) (p : Outcome B) (q : A → B → Outcome C)
    → Finds vs o → Finds us p → ((a : A) (b : B) → Finds (ws a b) (q a b))
    → Finds (vs ++ (us ++ visits_behind o (λ a. visits_behind p (ws a)))) (o >>= λ a. p >>= λ b. q a b)
followed_twice vs us ws (Is a) p q one other third = found_behind vs (us ++ visits_behind p (ws a)) one (followed us (ws a) p (q a) other (third a))
followed_twice vs us ws (Broken rule at) p q one other third = found_here vs (us ++ []) one

-- a node that breaks no rule
pub with_empty : {A : Type 0} (at : ℕ) (vs : List Visit) (o : Outcome A) → Finds vs o → Finds (vs ++ visit at [] ∷ []) o
with_empty at vs (Is a) one = found_behind vs _ one refl
with_empty at vs (Broken rule place) one = found_here vs _ one

module _ (A : Type 0) (at : ℕ) where
  -- what has no type, and a function where none may be declared
  pub untyped : (b : Bool) → Finds (visit at (when b Redeclared ++ Mismatch ∷ []) ∷ []) (breaks {A = A} b Redeclared at (Broken Mismatch at))
  untyped true = refl
  untyped false = refl

  pub misplaced : (b c : Bool)
      → Finds (visit at (when b Redeclared ++ (when c Mismatch ++ Misplaced ∷ [])) ∷ []) (breaks {A = A} b Redeclared at (breaks c Mismatch at (Broken Misplaced at)))
  misplaced true true = refl
  misplaced true false = refl
  misplaced false true = refl
  misplaced false false = refl

module _ {A : Type 0} (at : ℕ) where
  -- a node with one rule
  pub one_rule : (b : Bool) (rule : Rule) (a : A) → Finds (visit at (when b rule) ∷ []) (breaks b rule at (Is a))
  one_rule true rule a = refl
  one_rule false rule a = refl

  -- a node with two: a name that is declared, and types that agree
  pub two_rules : (b c : Bool) (a : A) → Finds (visit at (when b Redeclared ++ when c Mismatch) ∷ []) (breaks b Redeclared at (breaks c Mismatch at (Is a)))
  two_rules true true a = refl
  two_rules true false a = refl
  two_rules false true a = refl
  two_rules false false a = refl

  pub two_rules_or_none : (b c : Bool) (k : Option A)
      → Finds (visit at (when b Redeclared ++ when (c || is_none k) Mismatch) ∷ []) (breaks b Redeclared at (breaks c Mismatch at (there_or Mismatch at k)))
  two_rules_or_none b true k = untyped A at b
  two_rules_or_none true false None = refl
  two_rules_or_none false false None = refl
  two_rules_or_none true false (Some a) = refl
  two_rules_or_none false false (Some a) = refl

-- a name that is declared behind its body
pub named_behind : {A B : Type 0} (at : ℕ) (b : Bool) (vs : List Visit) (o : Outcome A) (g : A → B) → Finds vs o
    → Finds (vs ++ visit at (when b Redeclared) ∷ []) (o >>= (λ a. Is (g a)) >>= λ c. breaks b Redeclared at (Is c))
named_behind at b vs (Is a) g one = found_behind vs (visit at (when b Redeclared) ∷ []) one (one_rule at b Redeclared (g a))
named_behind at b vs (Broken rule place) g one = found_here vs (visit at (when b Redeclared) ∷ []) one

-- a name that is declared, and an initialiser that fits
pub redeclared_or : {A B : Type 0} (at : ℕ) (b : Bool) (o : Outcome A) (g : A → B) → Mismatches at o
    → Finds (visit at (when b Redeclared ++ rule_of o) ∷ []) (breaks b Redeclared at (o >>= λ a. Is (g a)))
redeclared_or at true (Is a) g only = refl
redeclared_or at true (Broken rule place) g only = ap (λ r. Some (record { rule = lesser Redeclared (Some r); at = at })) only.holds.0
redeclared_or at false (Is a) g only = refl
redeclared_or at false (Broken rule place) g only = finds_mismatch (Broken rule place) only
