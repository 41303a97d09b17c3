use Rattle.std.proofs.Common.{◌≡◌, ◌+◌, ◌≤◌, ℕ, List, Result, length}
use Rattle.c_syntax.specs.declared.token.Token.{Token}
use Rattle.c_macro.specs.declared.fault.MacroFault.{MacroFault}
use Rattle.c_macro.specs.Expands.{Outcome, ComesTo}
use Rattle.c_macro.specs.Expanding.{IsAtLine, state_of, out_of}
use Rattle.c_macro.proofs.expansion.expand.Given as goal

abbrev pub invariant-loop-rest : goal.invariant-loop-rest
invariant-loop-rest l = record {
  ready : IsAtLine l.expander;
  within : length l.rest ≤ length l.bytes;
  leads : (place : ℕ) (result : Result (List Token) MacroFault) → place + length l.rest ≡ length l.bytes
      → ComesTo (state_of l.expander) (out_of l.expander) place l.rest result → Outcome l.bytes result;
}

abbrev pub decreases-loop-rest : goal.decreases-loop-rest
decreases-loop-rest l = length l.rest
