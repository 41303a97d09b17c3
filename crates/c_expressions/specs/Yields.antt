-- What a function gives that reads a part of an expression.
use Rattle.std.specs.Prelude.{Result, IfOk, IfErr}
use Rattle.c_cursor.specs.declared.fault.Refusal.{Refusal}
use Rattle.c_cursor.specs.Refusals.{Refuses}

-- what is so of a part that was read, and what a refusal for syntax tells
pub record Yields {T : Type 0} (P : T → Type 0) (Q : Type 0) (result : Result T Refusal) : Type 0 where
  pub parsed : IfOk result P
  pub refused : IfErr result (Refuses Q)
