use Rattle.std.proofs.Common.{length, ap, sym, ◌∙◌, ◌≡◌, arith}
use Rattle.lay_model.specs.Sequences.{Block}
use Rattle.lay_model.specs.Flat.{block_at}
use Rattle.lay_model.proofs.FlatBlocks.{blocks_many, blocks_at}
use Rattle.lay_model.proofs.blocks.Blocks.weight.Goals as goal

pub index-requires : goal.index-requires
index-requires c =
    let many : length c.self.inside.ends.items ≡ length c.args.self.now = sym (blocks_many 0 c.self.inside.ends.items c.self.inside.accesses.items) ∙ ap length c.self.view_is in
    omega (arith, many, c.requires)

pub returns : goal.returns
returns c =
    let many : length c.self.inside.ends.items ≡ length c.args.self.now = sym (blocks_many 0 c.self.inside.ends.items c.self.inside.accesses.items) ∙ ap length c.self.view_is in
    let at = blocks_at 0 c.self.inside.ends.items c.self.inside.accesses.items c.args.index c.index.result.now c.index.ensures (omega (arith, many, c.requires)) in
    sym (ap (λ (b : Block). b.weight) (ap (λ l. block_at l c.args.index) (sym c.self.view_is) ∙ at))
