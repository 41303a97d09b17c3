-- The nodes of statements, over any outcomes of their parts. A condition is looked at with its statement, so behind the nodes of its body.
use Rattle.std.proofs.Common.{ℕ, Bool, true, false, List, [], ◌∷◌, ◌++◌, refl}
use Rattle.c_rules.specs.declared.fault.Rule.TheVariants.{Redeclared, Mismatch}
use Rattle.c_rules.specs.Outcome.{Outcome, Is, Broken, ◌>>=◌, breaks}
use Rattle.c_rules.specs.Visits.{Visit, visit, when, by_one, visits_behind}
use Rattle.c_rules.proofs.Walked.Finding.{Finds, joined, of_part, found_here, found_behind}
use Rattle.c_rules.proofs.Walked.Nodes.{mapped, with_empty, one_rule}

-- a node that looks at this outcome
abbrev pub tests : {A : Type 0} → ℕ → Outcome A → (A → Bool) → Visit
tests at o test = visit at (by_one o (λ a. when (test a) Mismatch))

-- a block: its declarations, and statements behind them
pub block_finds : {A B C : Type 0} (at : ℕ) (vs : List Visit) (ws : A → List Visit) (o : Outcome A) (p : A → Outcome B) (g : A → B → C)
    → Finds vs o → ((a : A) → Finds (ws a) (p a)) → Finds (vs ++ (visits_behind o ws ++ visit at [] ∷ [])) (o >>= λ a. p a >>= λ b. Is (g a b))
block_finds at vs ws (Is a) p g one other = found_behind vs (ws a ++ visit at [] ∷ []) one (mapped (ws a ++ visit at [] ∷ []) (p a) (g a) (with_empty at (ws a) (p a) (other a)))
block_finds at vs ws (Broken rule place) p g one other = found_here vs (visit at [] ∷ []) one

module _ {A B C : Type 0} (at : ℕ) (test : A → Bool) where
  -- a condition before its body
  pub test_before : (vs ws : List Visit) (o : Outcome A) (p : Outcome B) (g : A → B → C) → Finds vs o → Finds ws p
      → Finds (vs ++ (ws ++ tests at o test ∷ [])) (o >>= λ a. p >>= λ b. breaks (test a) Mismatch at (Is (g a b)))
  test_before vs ws (Is a) p g one other = found_behind vs (ws ++ tests at (Is a) test ∷ []) one
      (joined ws (tests at (Is a) test ∷ []) p _ other (λ b is. one_rule at (test a) Mismatch (g a b)))
  test_before vs ws (Broken rule place) p g one other = found_here vs (ws ++ visit at [] ∷ []) one

  -- a condition behind its body
  pub test_behind : (vs ws : List Visit) (o : Outcome A) (p : Outcome B) (g : B → A → C) → Finds vs o → Finds ws p
      → Finds (ws ++ (vs ++ tests at o test ∷ [])) (p >>= λ b. o >>= λ a. breaks (test a) Mismatch at (Is (g b a)))
  test_behind vs ws o p g one other = joined ws (vs ++ tests at o test ∷ []) p _ other
      (λ b is. of_part at vs o (λ a. when (test a) Mismatch) _ one (λ a. one_rule at (test a) Mismatch (g b a)))

  -- a condition before two bodies
  pub test_before_two : {D : Type 0} (vs ws : List Visit) (us : B → List Visit) (o : Outcome A) (p : Outcome B) (q : B → Outcome C) (g : A → B → C → D)
      → Finds vs o → Finds ws p → ((b : B) → Finds (us b) (q b))
      → Finds (vs ++ (ws ++ (visits_behind p us ++ tests at o test ∷ []))) (o >>= λ a. p >>= λ b. q b >>= λ c. breaks (test a) Mismatch at (Is (g a b c)))
  test_before_two vs ws us (Is a) (Is b) q g one other third =
      found_behind vs (ws ++ (us b ++ tests at (Is a) test ∷ [])) one (found_behind ws (us b ++ tests at (Is a) test ∷ []) other
      (joined (us b) (tests at (Is a) test ∷ []) (q b) _ (third b) (λ c is. one_rule at (test a) Mismatch (g a b c))))
  test_before_two vs ws us (Is a) (Broken rule place) q g one other third =
      found_behind vs (ws ++ (tests at (Is a) test ∷ [])) one (found_here ws (tests at (Is a) test ∷ []) other)
  test_before_two vs ws us (Broken rule place) p q g one other third = found_here vs (ws ++ (visits_behind p us ++ visit at [] ∷ [])) one

-- a condition between others, all before a body
pub test_among : {A B C D E : Type 0} (at : ℕ) (test : A → Bool) (us vs ts ws : List Visit) (q : Outcome C) (o : Outcome A) (r : Outcome D) (p : Outcome B)
    (g : C → A → D → B → E) → Finds us q → Finds vs o → Finds ts r → Finds ws p
    → Finds (us ++ (vs ++ (ts ++ (ws ++ tests at o test ∷ [])))) (q >>= λ c. o >>= λ a. r >>= λ d. p >>= λ b. breaks (test a) Mismatch at (Is (g c a d b)))
test_among at test us vs ts ws q (Is a) r p g zero one two three = joined us (vs ++ (ts ++ (ws ++ tests at (Is a) test ∷ []))) q _ zero λ c is.
    found_behind vs (ts ++ (ws ++ tests at (Is a) test ∷ [])) one
    (joined ts (ws ++ tests at (Is a) test ∷ []) r _ two λ d is_also.
    joined ws (tests at (Is a) test ∷ []) p _ three (λ b is_last. one_rule at (test a) Mismatch (g c a d b)))
test_among at test us vs ts ws q (Broken rule place) r p g zero one two three =
    joined us (vs ++ (ts ++ (ws ++ visit at [] ∷ []))) q _ zero (λ c is. found_here vs (ts ++ (ws ++ visit at [] ∷ [])) one)

-- a switch: the rules of its choices, and of what is chosen by
choice_rules : {A : Type 0} (place at : ℕ) (b c d : Bool) (a : A)
    → Finds (visit place (when b Redeclared ++ when c Mismatch) ∷ visit at (when d Mismatch) ∷ [])
    (breaks b Redeclared place (breaks c Mismatch place (breaks d Mismatch at (Is a))))
choice_rules place at true true d a = refl
choice_rules place at true false d a = refl
choice_rules place at false true d a = refl
choice_rules place at false false true a = refl
choice_rules place at false false false a = refl

pub switch_finds : {A B C : Type 0} (place at : ℕ) (test : A → Bool) (again also : B → Bool) (vs ws : List Visit) (o : Outcome A) (p : Outcome B)
    (g : A → B → C) → Finds vs o → Finds ws p
    → Finds (vs ++ (ws ++ (visit place (by_one p (λ b. when (again b) Redeclared ++ when (also b) Mismatch)) ∷ tests at o test ∷ [])))
    (o >>= λ a. p >>= λ b. breaks (again b) Redeclared place (breaks (also b) Mismatch place (breaks (test a) Mismatch at (Is (g a b)))))
switch_finds place at test again also vs ws (Is a) (Is b) g one other = found_behind vs _ one
    (found_behind ws _ other (choice_rules place at (again b) (also b) (test a) (g a b)))
switch_finds place at test again also vs ws (Is a) (Broken rule found_at) g one other = found_behind vs _ one (found_here ws _ other)
switch_finds place at test again also vs ws (Broken rule found_at) p g one other = found_here vs _ one

-- a label before other choices
pub label_finds : {A B C D : Type 0} (vs ws : List Visit) (o : Outcome A) (p : A → Outcome B) (q : Outcome C) (g : A → B → C → D)
    → Finds vs (o >>= p) → Finds ws q → Finds (vs ++ ws) (o >>= λ a. p a >>= λ b. q >>= λ c. Is (g a b c))
label_finds vs ws (Is a) p q g one other = joined vs ws (p a) _ one (λ b is. mapped ws q (g a b) other)
label_finds vs ws (Broken rule place) p q g one other = found_here vs ws one
