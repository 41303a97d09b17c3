use Rattle.std.proofs.Common.{sym, ◌∙◌}
use Rattle.c_names.specs.Tables.{scope_of}
use Rattle.c_scopes.proofs.FileScopeLemmas.{parameters_ended}
use Rattle.c_scopes.proofs.file_scope.declare_parameters.Goals as goal

pub returns-clause-declared : goal.returns-clause-declared
returns-clause-declared c = sym
    (c.loop-n.invariant.declared ∙ parameters_ended (scope_of c.loop-n.scopes) c.args.list.now c.args.kinds.now c.loop-n.n c.loop-n-test.false)
