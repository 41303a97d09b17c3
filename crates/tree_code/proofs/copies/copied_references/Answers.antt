use Rattle.std.proofs.Common.{◌∙◌}
use Rattle.tree_code.proofs.copies.copied_references.Goals as goal

pub returns : goal.returns
returns c = c.new.ensures ∙ c.in_ok-to_vec.ensures.items_if_clones_equal (λ x y same. same)
