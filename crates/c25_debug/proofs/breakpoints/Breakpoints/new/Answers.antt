use mathlib.Core.Path.{fun_ext}
use Rattle.c25_debug.proofs.Shown.{none_set}
use Rattle.c25_debug.proofs.breakpoints.Breakpoints.new.Goals as goal

pub returns : goal.returns
returns c = fun_ext (none_set 65536 c.in_ok-vec.field-0.items (c.in_ok-vec.ensures.items_if_clones_equal (λ y same. same)))
