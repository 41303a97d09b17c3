use Rattle.std.proofs.Common.{arith}
use Rattle.c_limits.specs.Frames.{still, scalars_with}
use Rattle.c_limits.proofs.FramesLemmas.{one_further, one_fits}
use Rattle.c_limits.proofs.frames.references.Goals as goal

pub add-requires-clause-scalars : goal.add-requires-clause-scalars
add-requires-clause-scalars c =
    one_fits c.loop-n.numbering c.args.pointed.now c.args.locals.now c.loop-n.n c.index-locals-n.result _ c.requires.marked c.loop-n-test.true c.index-locals-n.is
    c.loop-n.invariant.scalars c.requires.scalars

pub loop-n-preserved : goal.loop-n-preserved
loop-n-preserved c = record {
  numbered =
      one_further (still c.loop-n.numbering) (still c.add.new.self) c.args.pointed.now c.args.locals.now c.loop-n.n c.index-locals-n.result _ c.requires.marked c.loop-n-test.true
      c.index-locals-n.is c.in_ok-add.ensures.numbered c.loop-n.invariant.numbered;
  scalars =
      one_further (scalars_with c.loop-n.numbering) (scalars_with c.add.new.self) c.args.pointed.now c.args.locals.now c.loop-n.n c.index-locals-n.result _ c.requires.marked
      c.loop-n-test.true c.index-locals-n.is c.in_ok-add.ensures.scalars c.loop-n.invariant.scalars;
  objects = omega (arith, c.in_ok-add.ensures.objects, c.loop-n.invariant.objects);
}
