use Rattle.lay_text.proofs.Written.{reads_written}
use Rattle.lay_text.proofs.laws.written_sequences_are_read.Goals as goal

pub returns : goal.returns
returns c = reads_written
