-- Row by row.
use Rattle.emit_proof.proofs.OnWords.{on_words, on_pointers}
use Rattle.emit_proof.proofs.OnConstants.{on_constants, on_addresses}
use Rattle.emit_proof.proofs.Made.{alike_again}
use Rattle.emit_proof.proofs.Ready.{word_ready, constant_ready}
use Rattle.emit_proof.proofs.row_laws.rows_do_operations.Goals as goal

pub returns : goal.returns
returns c = record { on_words = on_words; on_constants = on_constants; on_pointers = on_pointers; on_addresses = on_addresses; elsewhere = alike_again; words_ready = word_ready; constants_ready = constant_ready }
