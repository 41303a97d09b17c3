use Rattle.std.proofs.Common.{◌≡◌, ◌∙◌, ap, map, true, subst, vec_items}
use Rattle.std.specs.Prelude.{IfOk}
use Rattle.acc_code.specs.AccTree.{FunctionItems}
use Rattle.acc_code.specs.AccView.{function_items_of}
use Rattle.c_tree.specs.TypedTree.{ObjectTree}
use Rattle.c_tree.specs.View.{object_of}
use Rattle.c25_isa.specs.Pieces.{piece_of}
use Rattle.emit_control.specs.Cuts.{function_items}
use Rattle.emit_control.specs.Settings.{Setting}
use Rattle.frame_emit.specs.Frames.{scalar_places}
use Rattle.tree_code.specs.WordView.{function_code_of}
use Rattle.frame_emit.proofs.Joining.{same_setting, same_names}
use Rattle.frame_emit.proofs.pieces.function_piece.Goals as goal

pub returns : goal.returns
returns c =
    let shared = c.args.shared.now in
    let names = map (λ (g : FunctionItems). g.name) (map function_items_of shared.functions.now) in
    let function = function_items_of c.args.function.now in
    subst
    (λ (m : Setting). IfOk c.listed_piece.result (λ piece. piece_of piece ≡ record { name = function.name; listed = true; items = function_items m function.body }))
    (same_setting shared.plan.now shared.step (map vec_items shared.parameters.now) names (function_code_of c.args.tree.now) c.args.frame.now c.args.lists.now
    c.deref.result.now c.as_slice-3.result.now c.as_slice-4.result.now c.deref-2.result.now _
    (c.deref.ensures.value ∙ c.in_ok-scalars.ensures.places ∙ ap (λ bases. scalar_places c.args.lists.now bases 0 c.args.tree.now.scalars) c.as_slice.ensures)
    c.as_slice-3.ensures
    c.as_slice-4.ensures
    (c.deref-2.ensures.value ∙ c.in_ok-lengths.ensures ∙ ap (λ os. map (λ (o : ObjectTree). o.length) (map object_of os)) c.as_slice-2.ensures)
    (same_names shared.functions.now))
    c.listed_piece.ensures
