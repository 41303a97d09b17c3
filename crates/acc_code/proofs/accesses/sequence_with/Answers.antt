use Rattle.std.proofs.Common.{◌≤◌, ◌^◌, arith}
use Rattle.acc_code.proofs.Frames.{sequence_made}
use Rattle.acc_code.proofs.accesses.sequence_with.Goals as goal

pub new-requires : goal.new-requires
new-requires c = sequence_made c.args.scalars c.args.blocks c.requires.few c.requires.blocks (omega (arith, c.accesses_are_few.ensures))
