-- The clones of the signs are the signs.
use Rattle.std.proofs.Common.{refl, ◌∙◌}
use Rattle.std.specs.List.{each_same}
use Rattle.lay_node.proofs.position.Position.copy.Goals as goal

pub returns : goal.returns
returns c = record {
  registers = refl;
  string = each_same c.args.self.now.string.items c.in_ok-clone.field-0.items c.in_ok-clone.ensures.cases;
  placed = refl;
  outside = refl;
  levels = c.in_ok-copies_of.ensures ∙ c.deref.ensures.value;
}
