use Rattle.std.proofs.Common.{◌∙◌, ap}
use Rattle.c_macro.specs.Expands.{at_start, with_sections}
use Rattle.c_macro.specs.Expanding.{sections_of}
use Rattle.c_macro.proofs.expander.Expander.new.Goals as goal

pub returns-clause-start : goal.returns-clause-start
returns-clause-start c = (c.in_ok-new.ensures.none (sections_of c.new-4.result) ∙ ap (λ sections. with_sections sections at_start) c.new-4.ensures.none, c.new-2.ensures)
