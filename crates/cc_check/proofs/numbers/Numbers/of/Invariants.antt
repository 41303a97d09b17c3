-- A name is in the table, or where it stands in what is left.
use Rattle.std.proofs.Common.{◌≡◌, ℕ, List, drop}
use Rattle.std.specs.Option.{option_or}
use Rattle.std.specs.List.{position_from}
use Rattle.cc_check.specs.Findings.{number_of}
use Rattle.cc_check.specs.Memory.{number_in}
use Rattle.cc_check.proofs.NumberLemmas.{has_name}
use Rattle.cc_check.proofs.numbers.Numbers.of.Given as goal

abbrev pub invariant-loop-index : goal.invariant-loop-index
invariant-loop-index l = (name : List ℕ) → option_or (number_in l.numbers name) (position_from (has_name name) l.index (drop l.index l.functions)) ≡ number_of l.functions name
