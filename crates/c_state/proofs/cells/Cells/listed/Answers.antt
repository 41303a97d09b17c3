use Rattle.std.proofs.Common.{◌≡◌, ◌≤◌, ◌++◌, ◌-◌, length, map, take, replicate, List, ap, ◌∙◌, subst, arith}
use Rattle.std.proofs.lemmas.List.{take_all}
use Rattle.c_tree.specs.declared.program.Initial.{Initial}
use Rattle.c_tree.specs.Exec.{initial_cell, zero_of}
use Rattle.c_state.specs.Values.{cell_view}
use Rattle.c_state.proofs.CellLemmas.{padded, same_length}
use Rattle.c_state.proofs.cells.Cells.listed.Goals as goal

pub returns : goal.returns
returns c =
    let list = c.args.object.now.initial in
    let items = c.loop-initial.items in
    let n = c.from-length.result in
    let past = subst (λ (xs : List Initial). length xs ≤ c.loop-initial.initial-index) c.as_slice-initial-items.ensures c.loop-initial-test.false in
    let all : map cell_view items.items ≡ map initial_cell list = c.loop-initial.invariant ∙ ap (map initial_cell) (take_all c.loop-initial.initial-index list past) in
    let within : length items.items ≤ n = omega (arith, same_length items.items list all, c.requires, c.from-length.ensures) in
    let parts = c.in_ok-resize.ensures.items ∙ ap (λ m. take n items.items ++ replicate (n - m) c.zero.result) items.ok.0 in
    padded items.items c.resize.new.self.items list n c.zero.result (zero_of c.args.object.now.kind) all within parts c.zero.ensures
    ∙ ap (λ m. map initial_cell list ++ replicate (m - length list) (zero_of c.args.object.now.kind)) c.from-length.ensures
