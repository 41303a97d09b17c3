use Rattle.emit_proof.proofs.Words.{piece_has_word}
use Rattle.emit_proof.proofs.Pieces.{piece_once, piece_marked, piece_named, piece_calls, piece_words}
use Rattle.emit_proof.proofs.FlowStanding.{throughout}
use Rattle.emit_proof.specs.Calls.{StandsIn}
use Rattle.acc_code.specs.Emittable.{RefersRight}
use Rattle.emit_proof.proofs.flow_laws.marks_are_right.Goals as goal

pub returns : goal.returns
returns c = record {
  once = piece_once;
  stand = piece_marked;
  named = piece_named;
  calls = λ m body placed. piece_calls m (λ x. StandsIn x body) body placed (throughout (λ x. StandsIn x body) body (λ y s. s));
  refers = λ scalars cells parameters helps m body fit. piece_calls m (RefersRight scalars cells parameters helps) body fit.placed fit.refers;
  behind = piece_words;
  word = piece_has_word;
}
