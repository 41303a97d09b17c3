use Rattle.frame_layouts.proofs.Framing.{layout_arranged}
use Rattle.frame_layouts.proofs.laws.layouts_are_arranged.Goals as goal

pub returns : goal.returns
returns c = λ job is. layout_arranged job c.answers_arrange.ensures.answer is
