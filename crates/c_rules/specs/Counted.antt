-- How many of anything that is counted a source may have whose tree is within its limits.
use Rattle.std.specs.Prelude.{◌≤◌, ◌+◌, ℕ, List, length, All}
use Rattle.c_tree.specs.c_syntax.declared.limits.TheConstants.{MOST_NODES, MOST_TOKENS}
use Rattle.c_tree.specs.Temporaries.{statement_temporaries}
use Rattle.c_rules.specs.Units.{TypedFunction}
use Rattle.c_rules.specs.Whole.{uses_of, case_counts}

-- an object is a parameter or a declared item, and a temporary and a case have a node each
abbrev pub most_counted : ℕ
most_counted = MOST_TOKENS + MOST_NODES

pub record IsCounted (f : TypedFunction) : Type 0 where
  pub parameters : f.parameters ≤ most_counted
  pub frame : length f.locals + statement_temporaries f.body ≤ most_counted
  pub cases : All (λ n. n ≤ most_counted) (case_counts (uses_of f))

pub record AreCounted (fs : List TypedFunction) : Type 0 where
  pub functions : length fs ≤ most_counted
  pub each : All IsCounted fs
