use Rattle.c_scopes.specs.ArgumentView.{arguments_of}
use Rattle.c_names.specs.Tables.{scope_of}
use Rattle.c_rules.specs.Typing.{call_of}
use Rattle.c_scopes.proofs.call_arguments.constant_call_of.Goals as goal

pub returns-in-Err : goal.returns-in-Err
returns-in-Err c = c.no_constant.ensures (call_of (scope_of c.args.scopes.now) c.args.name.now c.args.at (arguments_of c.args.arguments)) c.in-Err.ensures
