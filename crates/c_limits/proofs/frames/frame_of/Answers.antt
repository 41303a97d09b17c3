use Rattle.std.proofs.Common.{◌∙◌, arith}
use Rattle.c_limits.proofs.FramesLemmas.{numbers_by_marks, scalars_by_marks}
use Rattle.c_limits.proofs.frames.frame_of.Goals as goal

pub returns-then-scalars-gt-MOST_SCALARS : goal.returns-then-scalars-gt-MOST_SCALARS
returns-then-scalars-gt-MOST_SCALARS c =
    (c.count_scalars-scalars.ensures ∙ scalars_by_marks c.args.uses.now _ c.args.locals.now c.in_ok-pointed.ensures c.deref.ensures.value, c.if-scalars-gt-MOST_SCALARS.true)

pub returns : goal.returns
returns c = (
  c.in_ok-references.ensures ∙ numbers_by_marks c.args.uses.now _ c.args.locals.now c.in_ok-pointed.ensures c.deref-2.ensures.value,
  omega (arith, c.count_scalars-scalars.ensures, scalars_by_marks c.args.uses.now _ c.args.locals.now c.in_ok-pointed.ensures c.deref.ensures.value),
)
