use Rattle.std.proofs.Common.{◌∙◌}
use Rattle.c_names.specs.Tables.{scope_of, around_of}
use Rattle.c_scopes.proofs.ScopesKept.{closed_again}
use Rattle.c_scopes.proofs.declarations.prototype.Goals as goal

pub returns-clause-kept : goal.returns-clause-kept
returns-clause-kept c =
    c.close.ensures
    ∙ closed_again (scope_of c.parameter_types.new.scopes) (scope_of c.args.scopes.now) (around_of c.args.scopes.now) (around_of c.parameter_types.new.scopes)
    (c.parameter_types.ensures.around ∙ c.in_ok-open.ensures.around)
