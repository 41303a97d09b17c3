use Rattle.c_syntax.specs.SyntaxView.{item_of}
use Rattle.c_types.specs.View.{file_of}
use Rattle.c_objects.specs.InitialiserView.{starts_of}
use Rattle.c_types.proofs.UnitLemmas.{untyped_refuses}
use Rattle.c_types.proofs.units.File.untyped.Goals as goal

pub returns : goal.returns
returns c =
    untyped_refuses (file_of c.args.self.now) (item_of c.args.item.now) (starts_of c.in_default.field-0.value) c.without_type.result c.in_default.ensures c.without_type.ensures
