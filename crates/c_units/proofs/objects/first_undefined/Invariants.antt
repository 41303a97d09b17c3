use Rattle.std.proofs.Common.{◌≡◌, map, drop}
use Rattle.std.specs.Prelude.{find}
use Rattle.c_units.specs.Objects.{defined_names}
use Rattle.c_units.specs.Views.{object_of, AreNames}
use Rattle.c_units.proofs.ObjectLemmas.{is_undefined}
use Rattle.c_units.proofs.objects.first_undefined.Given as goal

-- each object so far is defined
abbrev pub invariant-loop-object : goal.invariant-loop-object
invariant-loop-object l =
    AreNames l.names (defined_names (map object_of l.objects))
    → find (is_undefined (defined_names (map object_of l.objects))) (map object_of (drop l.object-index l.objects)) ≡ find (is_undefined (defined_names (map object_of l.objects))) (map object_of l.objects)
