use Rattle.std.proofs.Common.{◌∙◌, map, sym}
use Rattle.c_units.specs.Objects.{defined_names}
use Rattle.c_units.specs.Views.{object_of}
use Rattle.c_units.proofs.ObjectLemmas.{undefined_later, known_defined}
use Rattle.c_units.proofs.objects.first_undefined.Goals as goal

pub loop-object-preserved : goal.loop-object-preserved
loop-object-preserved c = λ are.
    undefined_later object_of (defined_names (map object_of c.args.objects.now)) _ c.args.objects.now c.loop-object.object-index c.object-item.result c.object-item.is c.loop-object-test.true (c.loop-object.invariant are)
    (known_defined object_of c.args.objects.now c.loop-object.object-index c.object-item.result _ c.object-item.is c.loop-object-test.true (are (object_of c.object-item.result).joined) (sym c.is_defined.ensures ∙ c.if-not-is_defined.false))
