-- The lists fit the table, and in the end all have their places.
use Rattle.std.proofs.Common.{◌≡◌, ◌+◌, ◌<◌, length, get_or, fold, ap, subst, sym, ◌∙◌, arith}
use Rattle.std.proofs.lemmas.Grind.{common_steps}
use Rattle.lay_cost.specs.Memory.{AreNear, with_list, no_places}
use Rattle.lay_cost.proofs.Arranged.{item_small, item_short, few_of, next_list, register_stays, arranged_near, arranged_table_cost}
use Rattle.lay_cost.proofs.counting.cost.Goals as goal

pub push_list-requires-clause-scalars : goal.push_list-requires-clause-scalars
push_list-requires-clause-scalars c =
    let lt : c.loop-list.list-index < length c.args.arr.now = grind (arith, common_steps) in
    let is : c.list-item.result ≡ get_or c.args.arr.now c.loop-list.list-index c.list-item.result = grind (arith, common_steps) in
    item_small c.args.seq.now.scalars c.args.arr.now c.loop-list.list-index c.list-item.result c.scalars.result.now c.requires lt is c.scalars.ensures

pub push_list-requires-clause-room : goal.push_list-requires-clause-room
push_list-requires-clause-room c =
    let lt : c.loop-list.list-index < length c.args.arr.now = grind (arith, common_steps) in
    let is : c.list-item.result ≡ get_or c.args.arr.now c.loop-list.list-index c.list-item.result = grind (arith, common_steps) in
    omega (arith, item_short c.args.seq.now.scalars c.args.arr.now c.loop-list.list-index c.list-item.result c.scalars.result.now c.requires lt is c.scalars.ensures)

pub push_list-requires-clause-register : goal.push_list-requires-clause-register
push_list-requires-clause-register c =
    let lt : c.loop-list.list-index < length c.args.arr.now = grind (arith, common_steps) in
    omega (arith, lt, few_of c.args.seq.now.scalars c.args.arr.now c.requires)

pub loop-list-preserved : goal.loop-list-preserved
loop-list-preserved c =
    let lt : c.loop-list.list-index < length c.args.arr.now = grind (arith, common_steps) in
    let is : c.list-item.result ≡ get_or c.args.arr.now c.loop-list.list-index c.list-item.result = grind (arith, common_steps) in
    record {
      so_far = next_list c.args.arr.now c.loop-list.list-index c.list-item.result c.scalars.result.now c.loop-list.places c.push_list.new.self lt is c.scalars.ensures c.loop-list.invariant.so_far c.push_list.ensures;
      register = ap (λ p. p.register) c.push_list.ensures ∙ ap (λ r. r + 1) (register_stays c.loop-list.places c.scalars.result.now ∙ c.loop-list.invariant.register);
      length = ap (λ p. p.length) c.push_list.ensures;
    }

pub cost_over-requires : goal.cost_over-requires
cost_over-requires c =
    let all : c.loop-list.places ≡ fold with_list no_places c.args.arr.now = grind (arith, common_steps) in
    subst (λ table. AreNear table) (sym (ap (λ p. p.places) all)) (arranged_near c.args.seq.now.scalars c.args.arr.now c.requires)

pub returns : goal.returns
returns c =
    let all : c.loop-list.places ≡ fold with_list no_places c.args.arr.now = grind (arith, common_steps) in
    c.cost_over.ensures.cost ∙ rw all (arranged_table_cost c.args.seq.now c.args.arr.now c.cost_over.ensures.sequence c.requires)
