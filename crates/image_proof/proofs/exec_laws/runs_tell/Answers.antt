use Rattle.image_proof.proofs.Telling.{tells}
use Rattle.image_proof.proofs.ExecWords.{text_input, zero_begins, zero_starts}
use Rattle.image_proof.proofs.exec_laws.runs_tell.Goals as goal
use Rattle.word_base.specs.Ports.{input_of}
use Rattle.c25_isa.specs.State.{zero_start}
use Rattle.c25_sim.specs.Taken.{of_sixteen}

pub returns : goal.returns
returns c = record {
  tell = λ t pieces image bytes lines steps outs stands agrees in_time linked fit text reached.
      tells t image.words (zero_start image.words) (of_sixteen (input_of lines)) steps outs stands agrees in_time (zero_starts pieces image linked fit) (zero_begins image.words) (text_input bytes lines text) reached;
}
