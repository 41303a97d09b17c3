use Rattle.std.proofs.Common.{◌∙◌, ℕ, List, [], length, sym, ap, arith}
use Rattle.std.specs.Prelude.{slice_index_or}
use Rattle.std.proofs.lemmas.Bool.{false≢true}
use Rattle.lay_model.specs.Sequences.{Block}
use Rattle.lay_profile.proofs.SameLists.{differ_at}
use Rattle.lay_profile.proofs.shapes.has_lengths.Goals as goal

pub returns-then-addresses-accesses : goal.returns-then-addresses-accesses
returns-then-addresses-accesses c =
    let walked : List (List ℕ) = c.args.walked.now in
    let blocks : List Block = c.args.accesses.now.blocks in
    let i = c.loop-index.index in
    let within = c.loop-index-test.true in (
      (λ t. absurd (false≢true t)),
      (λ same.
          absurd (c.if-addresses-accesses.true
          (ap length (c.addresses.ensures.addresses ∙ c.index-walked-index.is)
          ∙ differ_at length (λ (b : Block). length b.accesses) walked blocks i c.index-walked-index.result (record { weight = 0; accesses = [] }) within
          (omega (arith, within, c.if-walked-len.false, c.len.ensures, ap length c.blocks-blocks.ensures)) same
          ∙ sym (ap length (c.accesses.ensures ∙ ap (λ (l : List Block). (slice_index_or {A = Block} l i (record { weight = 0; accesses = [] })).accesses) c.blocks-blocks.ensures))))),
    )
