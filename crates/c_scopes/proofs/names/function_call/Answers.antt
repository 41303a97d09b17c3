use Rattle.std.proofs.Common.{rules}
use Rattle.c_scopes.proofs.CallForms.{call_typed}
use Rattle.c_scopes.proofs.names.function_call.Goals as goal

pub returns : goal.returns
returns c =
    let passed = rw c.as_slice.ensures at c.in_ok-args.ensures in
    call_typed _ c.args.number c.in-Ok.function_number c.in_ok-args.args _ c.args.at (search rules) passed
