use Rattle.std.proofs.Common.{length, ap, sym, ◌∙◌, ◌<◌, ◌≡◌, arith}
use Rattle.std.specs.Prelude.{slice_range}
use Rattle.lay_model.specs.Sequences.{Block}
use Rattle.lay_model.specs.Flat.{block_at, start_at}
use Rattle.lay_model.proofs.FlatBlocks.{blocks_many, blocks_at, ends_at}
use Rattle.lay_model.proofs.blocks.Blocks.accesses.Goals as goal

pub start_of-start-requires : goal.start_of-start-requires
start_of-start-requires c =
    let many : length c.self.inside.ends.items ≡ length c.args.self.now = sym (blocks_many 0 c.self.inside.ends.items c.self.inside.accesses.items) ∙ ap length c.self.view_is in
    omega (arith, many, c.requires, c.deref.ensures.len)

pub index-requires : goal.index-requires
index-requires c =
    let many : length c.self.inside.ends.items ≡ length c.args.self.now = sym (blocks_many 0 c.self.inside.ends.items c.self.inside.accesses.items) ∙ ap length c.self.view_is in
    omega (arith, many, c.requires)

pub slice_bounds-result-count : goal.slice_bounds-result-count
slice_bounds-result-count c =
    let many : length c.self.inside.ends.items ≡ length c.args.self.now = sym (blocks_many 0 c.self.inside.ends.items c.self.inside.accesses.items) ∙ ap length c.self.view_is in
    let lt : c.args.index < length c.self.inside.ends.items = omega (arith, many, c.requires) in
    let from : c.start_of-start.result ≡ start_at 0 c.self.inside.ends.items c.args.index = c.start_of-start.ensures ∙ ap (λ l. start_at 0 l c.args.index) c.deref.ensures.value in
    omega (arith, from, c.deref-2.ensures.len, ends_at 0 c.self.inside.ends.items (length c.self.inside.accesses.items) c.args.index c.index.result.now c.self.invariant c.index.ensures lt)

pub slice_bounds-result-start : goal.slice_bounds-result-start
slice_bounds-result-start c =
    let many : length c.self.inside.ends.items ≡ length c.args.self.now = sym (blocks_many 0 c.self.inside.ends.items c.self.inside.accesses.items) ∙ ap length c.self.view_is in
    let lt : c.args.index < length c.self.inside.ends.items = omega (arith, many, c.requires) in
    let from : c.start_of-start.result ≡ start_at 0 c.self.inside.ends.items c.args.index = c.start_of-start.ensures ∙ ap (λ l. start_at 0 l c.args.index) c.deref.ensures.value in
    omega (arith, from, c.deref-2.ensures.len, ends_at 0 c.self.inside.ends.items (length c.self.inside.accesses.items) c.args.index c.index.result.now c.self.invariant c.index.ensures lt)

pub slice_bounds-result-end : goal.slice_bounds-result-end
slice_bounds-result-end c =
    let many : length c.self.inside.ends.items ≡ length c.args.self.now = sym (blocks_many 0 c.self.inside.ends.items c.self.inside.accesses.items) ∙ ap length c.self.view_is in
    let lt : c.args.index < length c.self.inside.ends.items = omega (arith, many, c.requires) in
    let from : c.start_of-start.result ≡ start_at 0 c.self.inside.ends.items c.args.index = c.start_of-start.ensures ∙ ap (λ l. start_at 0 l c.args.index) c.deref.ensures.value in
    omega (arith, from, c.deref-2.ensures.len, ends_at 0 c.self.inside.ends.items (length c.self.inside.accesses.items) c.args.index c.index.result.now c.self.invariant c.index.ensures lt)

pub returns : goal.returns
returns c =
    let many : length c.self.inside.ends.items ≡ length c.args.self.now = sym (blocks_many 0 c.self.inside.ends.items c.self.inside.accesses.items) ∙ ap length c.self.view_is in
    let lt : c.args.index < length c.self.inside.ends.items = omega (arith, many, c.requires) in
    let from : c.start_of-start.result ≡ start_at 0 c.self.inside.ends.items c.args.index = c.start_of-start.ensures ∙ ap (λ l. start_at 0 l c.args.index) c.deref.ensures.value in
    let at = blocks_at 0 c.self.inside.ends.items c.self.inside.accesses.items c.args.index c.index.result.now c.index.ensures lt in
    (λ k. slice_range (c.deref-2.ensures.value k) (from k) c.index.result.now.end)
    ∙ sym (ap (λ (b : Block). b.accesses) (ap (λ l. block_at l c.args.index) (sym c.self.view_is) ∙ at))
