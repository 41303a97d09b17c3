use Rattle.std.proofs.Common.{◌≡◌, ◌≤◌, ◌++◌, map, length, All, vec_items}
use Rattle.acc_code.specs.AccTree.{FunctionItems}
use Rattle.acc_code.specs.AccView.{function_items_of}
use Rattle.acc_code.specs.Emittable.{Throughout}
use Rattle.c25_isa.specs.Pieces.{piece_of}
use Rattle.tree_code.specs.WordView.{function_code_of}
use Rattle.emit_control.specs.Emits.{IsRightItem}
use Rattle.frame_emit.specs.Emitted.{function_pieces}
use Rattle.frame_emit.proofs.emission.push_functions.Given as goal

-- with those that are left they are all
abbrev pub invariant-loop-tree : goal.invariant-loop-tree
invariant-loop-tree l =
    let parameters = map vec_items l.shared.parameters.now in
    let all = map function_items_of l.shared.functions.now in
    let names = map (λ (g : FunctionItems). g.name) all in record {
      pieces : map piece_of l.initial.pieces.items ++ function_pieces l.shared.plan.now l.shared.step parameters names (map function_code_of l.fn.trees) all l.fn.frames l.fn.arrangements
          ≡ map piece_of l.pieces.items ++ function_pieces l.shared.plan.now l.shared.step parameters names (map function_code_of l.rest) (map function_items_of l.functions) l.later_frames l.later_arrangements;
      few : All (λ lists. length lists ≤ 4) l.later_arrangements;
      right : All (λ (g : FunctionItems). Throughout IsRightItem g.body) (map function_items_of l.functions);
    }

abbrev pub decreases-loop-tree : goal.decreases-loop-tree
decreases-loop-tree l = length l.rest
