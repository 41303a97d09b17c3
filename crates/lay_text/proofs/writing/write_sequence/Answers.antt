use Rattle.std.proofs.Common.{◌≡◌, ◌<◌, ◌^◌, sym, subst, arith}
use Rattle.std.specs.Prelude.{All}
use Rattle.std.proofs.lemmas.Grind.{common_steps}
use Rattle.lay_model.specs.Sequences.{Block}
use Rattle.lay_text.specs.SequenceText.{sequence_text}
use Rattle.lay_text.specs.SequenceReading.{IsWhole, Reads}
use Rattle.lay_text.proofs.Written.{reads_written}
use Rattle.lay_text.proofs.writing.write_sequence.Goals as goal

pub returns-clause-read_back : goal.returns-clause-read_back
returns-clause-read_back c =
    let text : c.extend_from_slice.new.self.items ≡ sequence_text c.args.sequence.now = grind (arith, common_steps) in
    let whole : IsWhole c.args.sequence.now = record { sequence = c.scalars.ensures.sequence; weights = subst (All (λ (b : Block). b.weight < 2 ^ 32)) c.blocks-2.ensures c.in_ok-push_blocks.ensures.weights } in
    subst (λ t. Reads t c.args.sequence.now) (sym text) (reads_written c.args.sequence.now whole)
