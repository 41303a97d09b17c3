-- What the nodes of a walk come to: the first that breaks a rule, with the least that it breaks.
use Rattle.std.proofs.Common.{◌≡◌, ℕ, List, [], ◌∷◌, ◌++◌, Option, Some, None, refl, ap, ◌∙◌, subst}
use Rattle.c_rules.specs.declared.fault.Rule.{Rule}
use Rattle.c_rules.specs.Outcome.{Outcome, Is, Broken, ◌>>=◌}
use Rattle.c_rules.specs.Visits.{Visit, BrokenRule, visit, least, or_next, first, by_one, by_two, visits_behind, broken_in}

-- the nodes come to what an outcome breaks
abbrev pub Finds : {A : Type 0} → List Visit → Outcome A → Type 0
Finds vs o = first vs ≡ broken_in o

abbrev pub or_else : Option BrokenRule → Option BrokenRule → Option BrokenRule
or_else None b = b
or_else (Some a) b = Some a

next_or : (at : ℕ) (rule : Option Rule) (a b : Option BrokenRule) → or_next at rule (or_else a b) ≡ or_else (or_next at rule a) b
next_or at None a b = refl
next_or at (Some rule) a b = refl

pub first_of_both : (vs ws : List Visit) → first (vs ++ ws) ≡ or_else (first vs) (first ws)
first_of_both [] ws = refl
first_of_both (v ∷ vs) ws = ap (or_next v.at (least v.broken)) (first_of_both vs ws) ∙ next_or v.at (least v.broken) (first vs) (first ws)

found : {a b : Option BrokenRule} (vs ws : List Visit) → first vs ≡ a → first ws ≡ b → first (vs ++ ws) ≡ or_else a b
found {b = b} vs ws one other = subst (λ x. first (vs ++ ws) ≡ or_else x b) one (subst (λ x. first (vs ++ ws) ≡ or_else (first vs) x) other (first_of_both vs ws))

pub found_here : {b : BrokenRule} (vs ws : List Visit) → first vs ≡ Some b → first (vs ++ ws) ≡ Some b
found_here vs ws one = found vs ws one refl

pub found_behind : {b : Option BrokenRule} (vs ws : List Visit) → first vs ≡ None → first ws ≡ b → first (vs ++ ws) ≡ b
found_behind vs ws none other = found vs ws none other

module _ {A B : Type 0} where
  -- nodes behind others
  pub joined : (vs ws : List Visit) (o : Outcome A) (f : A → Outcome B) → Finds vs o → ((a : A) → o ≡ Is a → Finds ws (f a)) → Finds (vs ++ ws) (o >>= f)
  joined vs ws (Is a) f one other = found_behind vs ws one (other a refl)
  joined vs ws (Broken rule at) f one other = found_here vs ws one

  -- those that are looked at where the ones before them are typed
  pub followed : (vs : List Visit) (ws : A → List Visit) (o : Outcome A) (f : A → Outcome B) → Finds vs o → ((a : A) → Finds (ws a) (f a)) → Finds (vs ++ visits_behind o ws) (o >>= f)
  followed vs ws (Is a) f one other = found_behind vs (ws a) one (other a)
  followed vs ws (Broken rule at) f one other = found_here vs [] one

-- a node behind its parts
pub of_part : {A B : Type 0} (at : ℕ) (vs : List Visit) (o : Outcome A) (rules : A → List Rule) (f : A → Outcome B) → Finds vs o
    → ((a : A) → Finds (visit at (rules a) ∷ []) (f a)) → Finds (vs ++ visit at (by_one o rules) ∷ []) (o >>= f)
of_part at vs (Is a) rules f one node = found_behind vs _ one (node a)
of_part at vs (Broken rule place) rules f one node = found_here vs _ one

pub of_parts : {A B C : Type 0} (at : ℕ) (vs ws : List Visit) (o : Outcome A) (p : Outcome B) (rules : A → B → List Rule) (f : A → B → Outcome C)
    → Finds vs o → Finds ws p → ((a : A) (b : B) → Finds (visit at (rules a b) ∷ []) (f a b))
    → Finds ((vs ++ ws) ++ visit at (by_two o p rules) ∷ []) (o >>= λ a. p >>= f a)
of_parts at vs ws (Is a) (Is b) rules f one other node = found_behind (vs ++ ws) _ (found_behind vs ws one other) (node a b)
of_parts at vs ws (Is a) (Broken rule place) rules f one other node = found_here (vs ++ ws) _ (found_behind vs ws one other)
of_parts at vs ws (Broken rule place) p rules f one other node = found_here (vs ++ ws) _ (found_here vs ws one)
