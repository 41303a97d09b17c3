-- What `join` makes of its files (docs/COMMANDS.md, "join").
use Rattle.std.specs.Prelude.{◌≡◌, ◌≢◌, ℕ, List}
use Rattle.cc_files.specs.c_units.Joining.{IsJoined, HasFault}
use Rattle.cc_files.specs.c_units.declared.fault.UnitFault.{UnitFault}
use Rattle.cc_files.specs.c_units.declared.fault.UnitFault.TheVariants as unit_faults
use Rattle.cc_answers.specs.Answers.{Answered}
use Rattle.cc_files.specs.cc_text.Refusals.{Why, OfUnits}
use Rattle.cc_files.specs.Stores.{Stored}
use Rattle.cc_driver.specs.Texts.{one_text, silent_answer}

-- the text of the joined sources is stored
pub record JoinsTo (name : List ℕ) (sources : List (List ℕ)) (answer : Answered) (texts : List Stored) : Type 0 where
  pub text : List ℕ
  pub joined : IsJoined sources text
  pub stored : texts ≡ one_text name text
  pub is : answer ≡ silent_answer

-- the sources aren't joined, for their first fault
pub record JoinRefused (sources : List (List ℕ)) (why : Why) : Type 0 where
  pub fault : UnitFault
  pub some : fault ≢ unit_faults.NoMemory
  pub has : HasFault sources fault
  pub is : why ≡ OfUnits fault
