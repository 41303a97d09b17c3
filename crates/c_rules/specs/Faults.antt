-- The faults that broken rules are, and what a fault says of the source.
use Rattle.std.specs.Prelude.{◌≡◌, ⊤, ℕ, true, false, List, Some, None}
use Rattle.c_tree.specs.c_syntax.SyntaxTree.{UnitTree}
use Rattle.c_rules.specs.declared.fault.Rule.{Rule}
use Rattle.c_rules.specs.declared.fault.Rule.TheVariants as rules
use Rattle.c_rules.specs.declared.fault.Refusal.{Refusal}
use Rattle.c_rules.specs.declared.fault.Refusal.TheVariants as refusals
use Rattle.c_rules.specs.declared.fault.TypeFault.{TypeFault}
use Rattle.c_rules.specs.declared.fault.TypeFault.TheVariants as faults
use Rattle.c_rules.specs.declared.fault.LimitName.{LimitName}
use Rattle.c_rules.specs.Units.{TypedFunction}
use Rattle.c_rules.specs.Programs.{has_main, HasNoCycle}
use Rattle.c_rules.specs.Whole.{missing_body, IsPassed}
use Rattle.c_rules.specs.Chains.{IsChain}
use Rattle.c_rules.specs.Checked.{Breaks, Holds}

abbrev pub rule_fault : Rule → ℕ → TypeFault
rule_fault rules.Undeclared at = faults.Undeclared at
rule_fault rules.Redeclared at = faults.Redeclared at
rule_fault rules.Mismatch at = faults.Mismatch at
rule_fault rules.NotLvalue at = faults.NotLvalue at
rule_fault rules.NotConstant at = faults.NotConstant at
rule_fault rules.LongConstant at = faults.LongConstant at
rule_fault rules.BadPort at = faults.BadPort at
rule_fault rules.ArgCount at = faults.ArgCount at
rule_fault rules.Misplaced at = faults.Misplaced at

abbrev pub fault_of : Refusal → TypeFault
fault_of (refusals.Broken rule at) = rule_fault rule at
fault_of refusals.NoMemory = faults.NoMemory

-- `int main(void)` is there, and this call is the first of a function without a body
pub record IsMissing (fs : List TypedFunction) (at : ℕ) : Type 0 where
  pub main : has_main fs ≡ true
  pub first : missing_body fs ≡ Some at

-- and no call is of a function without a body; this is the chain of the first function that reaches itself
pub record IsCyclic (fs : List TypedFunction) (chain : List (List ℕ)) : Type 0 where
  pub main : has_main fs ≡ true
  pub bodies : missing_body fs ≡ None
  pub is_chain : IsChain fs chain

-- and no function reaches itself; this count is the first above its limit
pub record IsLarge (fs : List TypedFunction) (which : LimitName) (count : ℕ) : Type 0 where
  pub main : has_main fs ≡ true
  pub bodies : missing_body fs ≡ None
  pub no_cycle : HasNoCycle fs
  pub passed : IsPassed fs which count

-- what a fault says of the functions of a source of which no node breaks a rule
abbrev pub SaysOf : List TypedFunction → TypeFault → Type 0
SaysOf fs (faults.MissingMain at) = (has_main fs ≡ false) × (at ≡ 0)
SaysOf fs (faults.MissingBody at) = IsMissing fs at
SaysOf fs (faults.Recursion chain) = IsCyclic fs chain
SaysOf fs (faults.Limit which count) = IsLarge fs which count
SaysOf fs faults.NoMemory = ⊤
SaysOf fs fault = ⊥

-- what a fault says of a source. Want of memory says nothing.
abbrev pub Says : UnitTree → TypeFault → Type 0
Says u (faults.Undeclared at) = Breaks u rules.Undeclared at
Says u (faults.Redeclared at) = Breaks u rules.Redeclared at
Says u (faults.Mismatch at) = Breaks u rules.Mismatch at
Says u (faults.NotLvalue at) = Breaks u rules.NotLvalue at
Says u (faults.NotConstant at) = Breaks u rules.NotConstant at
Says u (faults.LongConstant at) = Breaks u rules.LongConstant at
Says u (faults.BadPort at) = Breaks u rules.BadPort at
Says u (faults.ArgCount at) = Breaks u rules.ArgCount at
Says u (faults.Misplaced at) = Breaks u rules.Misplaced at
Says u (faults.MissingMain at) = Holds u (λ fs. SaysOf fs (faults.MissingMain at))
Says u (faults.MissingBody at) = Holds u (λ fs. SaysOf fs (faults.MissingBody at))
Says u (faults.Recursion chain) = Holds u (λ fs. SaysOf fs (faults.Recursion chain))
Says u (faults.Limit which count) = Holds u (λ fs. SaysOf fs (faults.Limit which count))
Says u faults.NoMemory = ⊤
