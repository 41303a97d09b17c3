-- All that a contract may say of a sink at one moment.
use Rattle.std.specs.Prelude.{ℕ, Bool, false, List, []}

-- the bytes put so far, the counts of puts, of faults and of puts that found no memory, and whether no put that comes can fail
pub record Output : Type 0 where
  pub bytes : List ℕ
  pub calls : ℕ
  pub faults : ℕ
  pub wants : ℕ
  pub reliable : Bool

-- of a sink that tells only its counts, and takes no memory
abbrev pub untold_output : ℕ → ℕ → Output
untold_output calls faults = record { bytes = []; calls = calls; faults = faults; wants = 0; reliable = false }
