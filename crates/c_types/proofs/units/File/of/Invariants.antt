use Rattle.std.proofs.Common.{◌≡◌, drop}
use Rattle.c_syntax.specs.SyntaxView.{unit_of}
use Rattle.c_rules.specs.Units.{externals, typed_unit}
use Rattle.c_types.specs.View.{file_of}
use Rattle.c_types.proofs.units.File.of.Given as goal

abbrev pub invariant-loop-external : goal.invariant-loop-external
invariant-loop-external l = typed_unit (unit_of l.externals) ≡ externals (file_of l.file) (unit_of (drop l.external-index l.externals))
