-- Functions in memory whose scalars are those of their frames.
use Rattle.std.proofs.Common.{◌<◌, List, map, length, subst, sym}
use Rattle.std.specs.Prelude.{All}
use Rattle.std.proofs.lemmas.List.{get_or-map, length-map}
use Rattle.acc_code.specs.AccSequence.{IsInFrame}
use Rattle.acc_code.specs.AccView.{function_items_of}
use Rattle.acc_code.specs.declared.program.AccFunction.{AccFunction}

pub in_frames : (fs : List AccFunction) → All IsInFrame (map function_items_of fs) → All (λ f. IsInFrame (function_items_of f)) fs
in_frames fs h = λ k d within. subst IsInFrame (get_or-map function_items_of fs k d (function_items_of d) within)
    (h k (function_items_of d) (subst (λ n. k < n) (sym (length-map fs function_items_of)) within))
