use Rattle.std.proofs.Common.{◌≡◌, ◌++◌, map, drop}
use Rattle.c_syntax.specs.SyntaxView.{parameter_of}
use Rattle.c_rules.specs.Units.{parameter_locals}
use Rattle.c_rules.specs.LocalView.{local_tree_of}
use Rattle.c_types.proofs.units.parameter_locals.Given as goal

abbrev pub invariant-loop-n : goal.invariant-loop-n
invariant-loop-n l =
    map local_tree_of l.locals.items ++ parameter_locals (map parameter_of (drop l.n l.list)) (drop l.n l.kinds)
    ≡ parameter_locals (map parameter_of l.list) l.kinds
