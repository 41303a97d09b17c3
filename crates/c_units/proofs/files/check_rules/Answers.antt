use Rattle.std.proofs.Common.{sym, ◌∙◌}
use Rattle.c_units.specs.Views.{file_of}
use Rattle.c_units.proofs.FileLemmas.{types_refused}
use Rattle.c_units.proofs.files.check_rules.Goals as goal

pub returns-in-Some-clause-fault : goal.returns-in-Some-clause-fault
returns-in-Some-clause-fault c = λ some.
    types_refused c.args.number c.args.source.now (file_of c.args.file.now) c.in-Err.fault c.in-Some.own c.requires.tree c.in-Err.ensures.refused (sym c.of_types.ensures ∙ c.in-Some.is) some
