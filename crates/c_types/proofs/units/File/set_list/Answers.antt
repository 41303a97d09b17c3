use Rattle.std.proofs.Common.{sym, ◌∙◌}
use Rattle.c_types.proofs.UnitLemmas.{list_set, list_kept}
use Rattle.c_types.proofs.units.File.set_list.Goals as goal

pub returns-then-is_some-clause-statics : goal.returns-then-is_some-clause-statics
returns-then-is_some-clause-statics c =
    list_set c.args.self.now.statics.items c.in-Some.number c.args.number c.in-Some.is c.in-Some-get_mut.ensures.item.3.0 c.in-Some-get_mut.object.now c.in-Some-get_mut.ensures.value
    c.args.name.now c.args.object_type c.args.list (sym c.is_some.ensures ∙ c.if-is_some.true)

pub returns-else-is_some-clause-statics : goal.returns-else-is_some-clause-statics
returns-else-is_some-clause-statics c =
    list_kept c.args.self.now.statics.items c.in-Some.number c.args.number c.in-Some.is c.in-Some-get_mut.ensures.item.3.0 c.in-Some-get_mut.object.now c.in-Some-get_mut.ensures.value
    c.args.name.now c.args.object_type c.args.list (sym c.is_some.ensures ∙ c.if-is_some.false)
