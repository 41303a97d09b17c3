use Rattle.std.proofs.Common.{arith}
use Rattle.c_macro.proofs.ReadingLemmas.{reads_blank, blank_shorter}
use Rattle.c_macro.proofs.reader.Reader.skip_blanks.Goals as goal

pub loop-after-preserved : goal.loop-after-preserved
loop-after-preserved c = record {
  end = c.loop-after.invariant.end;
  reads = reads_blank c.args.self.now.end c.args.self.now.rest.now c.loop-after.self.rest.now c.in-Some.after.now c.loop-after.invariant.reads c.in-Some.ensures;
  shorter = omega (arith, c.loop-after.invariant.shorter, blank_shorter c.loop-after.self.rest.now c.in-Some.after.now c.in-Some.ensures);
}
