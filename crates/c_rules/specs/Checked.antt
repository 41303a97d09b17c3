-- The typed program of a source (docs/LANGUAGE.md, "Types").
use Rattle.std.specs.Prelude.{◌≡◌, ℕ, true, List, Some, None}
use Rattle.c_tree.specs.c_syntax.SyntaxTree.{UnitTree}
use Rattle.c_tree.specs.TypedTree.{ProgramTree}
use Rattle.c_rules.specs.declared.fault.LimitName.{LimitName}
use Rattle.c_rules.specs.declared.fault.Rule.{Rule}
use Rattle.c_rules.specs.Outcome.{Is}
use Rattle.c_rules.specs.Units.{TypedFunction, File, typed_unit}
use Rattle.c_rules.specs.Programs.{program_tree, has_main, HasNoCycle}
use Rattle.c_rules.specs.Whole.{missing_body, passed}
use Rattle.c_rules.specs.Visits.{first}
use Rattle.c_rules.specs.Walk.{walk}

-- the functions of a source: `int main(void)` is there, no call is of one without a body, none calls itself through any chain, and
-- the limits hold
pub record AreWhole (fs : List TypedFunction) : Type 0 where
  pub main : has_main fs ≡ true
  pub bodies : missing_body fs ≡ None
  pub no_cycle : HasNoCycle fs
  pub limits : (which : LimitName) → passed which fs ≡ None

-- a program is that of a source: no node breaks a rule, and the source is whole
pub record IsTyped (unit : UnitTree) (program : ProgramTree) : Type 0 where
  pub file : File
  pub typed : typed_unit unit ≡ Is file
  pub whole : AreWhole file.functions
  pub tree : program ≡ program_tree file

-- the first node of a source, in walking order, that breaks a rule stands at this place, and this is the least that it breaks
abbrev pub Breaks : UnitTree → Rule → ℕ → Type 0
Breaks unit rule at = first (walk unit) ≡ Some (record { rule = rule; at = at })

-- no node breaks a rule, and this is so of the functions
pub record Holds (unit : UnitTree) (P : List TypedFunction → Type 0) : Type 0 where
  pub file : File
  pub typed : typed_unit unit ≡ Is file
  pub holds : P file.functions
