use Rattle.std.proofs.Common.{◌≤◌, ◌∙◌, length, map, vec_items, ap, refl}
use Rattle.tree_code.specs.WordView.{function_code_of}
use Rattle.frame_emit.specs.Frames.{parameter_address, all_parameters}
use Rattle.frame_emit.proofs.Joining.{one_more_function, mapped_push, others_of}
use Rattle.frame_emit.proofs.frames.all_parameters.Goals as goal

pub loop-function-preserved : goal.loop-function-preserved
loop-function-preserved c =
    let first = c.in-Some in
    let frames = c.in-Some-split_first in
    let arrangements = c.in-Some-split_first-2 in
    let row = c.in_ok-parameter_addresses.field-0 in record {
      all = one_more_function (map vec_items c.loop-function.all.items) (map vec_items c.push.new.self.items) row.items
          (all_parameters (map function_code_of c.args.functions.now) c.args.frames.now c.args.arrangements.now)
          c.loop-function.rest.now first.function.now first.behind.now
          c.loop-function.later_frames.now frames.frame.now frames.frames_behind.now
          c.loop-function.later_arrangements.now arrangements.arrangement.now arrangements.arrangements_behind.now
          first.ensures.cases.0 frames.ensures.cases.0 arrangements.ensures.cases.0
          (mapped_push vec_items c.push.new.self.items c.loop-function.all.items row row.items c.in_ok-push.ensures.items refl)
          (c.in_ok-parameter_addresses.ensures
          ∙ ap (λ ls. map (parameter_address ls frames.frame.now) c.as_slice-parameters.result.now) c.lists.ensures.lists
          ∙ ap (map (parameter_address arrangements.arrangement.now frames.frame.now)) c.as_slice-parameters.ensures)
          c.loop-function.invariant.all;
      few = others_of (λ lists. length lists ≤ 4) _ _ _ arrangements.ensures.cases.0 c.loop-function.invariant.few;
    }
