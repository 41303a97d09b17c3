use Rattle.std.proofs.Common.{◌∙◌, map, ap, sym}
use Rattle.std.proofs.lemmas.List.{length-map}
use Rattle.acc_code.specs.AccView.{function_items_of}
use Rattle.frame_layouts.specs.Frames.{answer_for}
use Rattle.frame_layouts.proofs.Framing.{laid_out}
use Rattle.frame_layouts.proofs.layouts.lay_out.Goals as goal

pub returns : goal.returns
returns g c =
    laid_out (map function_items_of c.args.functions.now) c.args.jobs.items c.in_ok-answers.answers.items c.found.result
    (c.requires.one_each ∙ sym (length-map c.args.functions.now function_items_of)) (c.in_ok-answers.ensures ∙ ap (map answer_for) c.deref.ensures.value)
    c.found.ensures.arrangements c.found.ensures.findings
