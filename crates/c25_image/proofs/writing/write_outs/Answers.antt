use Rattle.c25_image.proofs.OutLines.{outs_read_back}
use Rattle.c25_image.proofs.writing.write_outs.Goals as goal

pub returns-clause-read_back : goal.returns-clause-read_back
returns-clause-read_back c = outs_read_back c.args.outs.now c.loop-out.text.items c.loop-out.out-index c.loop-out.invariant.text c.loop-out.invariant.each c.loop-out-test.false
