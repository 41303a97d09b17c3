use Rattle.std.proofs.Common.{◌≡◌, length, ap, sym, ◌∙◌, arith}
use Rattle.lay_model.proofs.FlatBlocks.{blocks_many}
use Rattle.lay_model.proofs.blocks.Blocks.len.Goals as goal

pub returns : goal.returns
returns c =
    let many : length c.self.inside.ends.items ≡ length c.args.self.now = sym (blocks_many 0 c.self.inside.ends.items c.self.inside.accesses.items) ∙ ap length c.self.view_is in
    omega (arith, c.len.ensures, many)
