use Rattle.std.proofs.Common.{refl}
use Rattle.c_units.specs.Externs.{without_externs}
use Rattle.c_units.proofs.PrefixLemmas as prefixes
use Rattle.c_units.proofs.laws.externs_are_dropped_before_externals.Goals as goal

pub returns-clause-dropped : goal.returns-clause-dropped
returns-clause-dropped c = prefixes.dropped

pub returns-clause-only_these : goal.returns-clause-only_these
returns-clause-only_these c = λ all unit source. prefixes.only_these (without_externs all) unit source.derives all refl
