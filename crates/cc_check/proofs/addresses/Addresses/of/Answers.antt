use Rattle.std.proofs.Common.{◌≡◌, ◌∙◌, ap, length, sym, subst, arith, List, ℕ}
use Rattle.lay_model.specs.Arrangements.{Arranges}
use Rattle.lay_cost.proofs.Arranged.{item_small, item_short}
use Rattle.cc_check.proofs.AddressLemmas.{lists_more, lists_end, table_is, list_length}
use Rattle.cc_check.proofs.addresses.Addresses.of.Goals as goal

pub place-requires-clause-scalars : goal.place-requires-clause-scalars
place-requires-clause-scalars c =
    let n = c.args.frame.now.seq.scalars in
    let arranges = subst (λ (ls : List (List ℕ)). Arranges n ls) (sym c.lists-lists.ensures.lists) c.arr.ensures.arranges in
    item_small n c.lists-lists.result.now c.loop-index.index c.index-lists-index.result c.scalars.result.now arranges (omega arith) c.index-lists-index.is c.scalars.ensures

pub place-requires-clause-short : goal.place-requires-clause-short
place-requires-clause-short c =
    let n = c.args.frame.now.seq.scalars in
    let arranges = subst (λ (ls : List (List ℕ)). Arranges n ls) (sym c.lists-lists.ensures.lists) c.arr.ensures.arranges in
    item_short n c.lists-lists.result.now c.loop-index.index c.index-lists-index.result c.scalars.result.now arranges (omega arith) c.index-lists-index.is c.scalars.ensures

pub loop-index-preserved : goal.loop-index-preserved
loop-index-preserved c =
    let bases = c.bases-bases.result.now in
    let lists = c.lists-lists.result.now in
    let i = c.loop-index.index in
    let size : length bases ≡ length lists = c.bases-bases.ensures.based ∙ sym (ap length (c.lists-lists.ensures.lists ∙ c.arr.ensures.arr)) in
    record {
      so_far = lists_more c.loop-index.addresses.table bases lists i c.from.result c.index-lists-index.result c.scalars.result.now c.place.new.self.table (omega (arith, size)) (omega arith) c.from.ensures c.index-lists-index.is c.scalars.ensures c.place.ensures ∙ c.loop-index.invariant.so_far;
      size = ap length c.place.ensures ∙ list_length c.loop-index.addresses.table c.from.result c.scalars.result.now ∙ c.loop-index.invariant.size;
    }

pub returns : goal.returns
returns c =
    let bases = c.bases-bases.result.now in
    let lists = c.lists-lists.result.now in
    let n = c.args.frame.now.seq.scalars in
    let is_arr : lists ≡ c.args.frame.now.arr = c.lists-lists.ensures.lists ∙ c.arr.ensures.arr in
    let size : length bases ≡ length lists = c.bases-bases.ensures.based ∙ sym (ap length is_arr) in
    let arranges = subst (λ (ls : List (List ℕ)). Arranges n ls) (sym c.lists-lists.ensures.lists) c.arr.ensures.arranges in
    table_is c.args.frame.now c.loop-index.addresses.table bases lists c.bases-bases.ensures.bases is_arr arranges size (lists_end c.loop-index.addresses.table bases lists c.loop-index.index (omega (arith, size)) ∙ c.loop-index.invariant.so_far)
