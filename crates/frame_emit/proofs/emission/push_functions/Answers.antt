use Rattle.std.proofs.Common.{◌∙◌, ◌≤◌, ◌++◌, length, map, vec_items, ap, refl, sym, subst}
use Rattle.acc_code.specs.AccTree.{FunctionItems}
use Rattle.acc_code.specs.AccView.{function_items_of}
use Rattle.acc_code.specs.Emittable.{Throughout}
use Rattle.c25_isa.specs.Pieces.{piece_of}
use Rattle.tree_code.specs.WordView.{function_code_of}
use Rattle.emit_control.specs.Emits.{IsRightItem}
use Rattle.frame_emit.specs.Emitted.{function_piece, function_pieces}
use Rattle.frame_emit.proofs.Joining.{one_more_piece, mapped_push, first_of, others_of}
use Rattle.frame_emit.proofs.emission.push_functions.Goals as goal

pub function_piece-requires-clause-lists : goal.function_piece-requires-clause-lists
function_piece-requires-clause-lists c =
    subst (λ lists. length lists ≤ 4) (sym c.lists-lists.ensures.lists)
    (first_of (λ lists. length lists ≤ 4) _ _ _ c.in-Some-split_first-3.ensures.cases.0 c.loop-tree.invariant.few)

pub function_piece-requires-clause-right : goal.function_piece-requires-clause-right
function_piece-requires-clause-right c =
    first_of (λ (g : FunctionItems). Throughout IsRightItem g.body) _ (function_items_of c.in-Some-split_first.function.now) (map function_items_of c.in-Some-split_first.functions_behind.now)
    (ap (map function_items_of) c.in-Some-split_first.ensures.cases.0) c.loop-tree.invariant.right

pub loop-tree-preserved : goal.loop-tree-preserved
loop-tree-preserved c =
    let shared = c.args.shared.now in
    let parameters = map vec_items shared.parameters.now in
    let all = map function_items_of shared.functions.now in
    let names = map (λ (g : FunctionItems). g.name) all in
    let first = c.in-Some in
    let functions = c.in-Some-split_first in
    let frames = c.in-Some-split_first-2 in
    let arrangements = c.in-Some-split_first-3 in
    let piece = c.in_ok-function_piece.field-0 in record {
      pieces = one_more_piece shared.plan.now shared.step parameters names
          (map piece_of c.args.pieces.now.items ++ function_pieces shared.plan.now shared.step parameters names (map function_code_of c.args.trees.now) all c.args.frames.now c.args.arrangements.now)
          (map piece_of c.loop-tree.pieces.items) (map piece_of c.push.new.self.items) (piece_of piece)
          c.loop-tree.rest.now first.tree.now first.behind.now
          c.loop-tree.functions.now functions.function.now functions.functions_behind.now
          c.loop-tree.later_frames.now frames.frame.now frames.frames_behind.now
          c.loop-tree.later_arrangements.now arrangements.arrangement.now arrangements.arrangements_behind.now
          first.ensures.cases.0 functions.ensures.cases.0 frames.ensures.cases.0 arrangements.ensures.cases.0
          (mapped_push piece_of c.push.new.self.items c.loop-tree.pieces.items piece (piece_of piece) c.in_ok-push.ensures.items refl)
          (c.in_ok-function_piece.ensures
          ∙ ap (λ lists. function_piece shared.plan.now shared.step parameters names (function_code_of first.tree.now) (function_items_of functions.function.now) frames.frame.now lists) c.lists-lists.ensures.lists)
          c.loop-tree.invariant.pieces;
      few = others_of (λ lists. length lists ≤ 4) _ _ _ arrangements.ensures.cases.0 c.loop-tree.invariant.few;
      right = others_of (λ (g : FunctionItems). Throughout IsRightItem g.body) _ (function_items_of functions.function.now) (map function_items_of functions.functions_behind.now)
          (ap (map function_items_of) functions.ensures.cases.0) c.loop-tree.invariant.right;
    }
