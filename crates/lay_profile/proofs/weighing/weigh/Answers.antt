use Rattle.std.proofs.Common.{◌≡◌, ◌∙◌, ap, sym, subst}
use Rattle.lay_model.specs.Sequences.{IsSequence}
use Rattle.lay_profile.specs.Weighing.{weighed, weighed_blocks}
use Rattle.lay_profile.proofs.Weighings.{is_sequence}
use Rattle.lay_profile.proofs.weighing.weigh.Goals as goal

pub new-requires : goal.new-requires
new-requires c =
    let seq = c.args.seq.now in
    let counts = c.args.counts.now in
    let blocks : c.in_ok-blocks.blocks ≡ weighed_blocks seq.blocks counts = c.in_ok-blocks.ensures ∙ ap (λ l. weighed_blocks l counts) c.blocks-2.ensures in
    let same : (record { scalars = c.scalars.result; step = c.step.result; blocks = c.in_ok-blocks.blocks }) ≡ weighed seq counts =
    (λ k. record { scalars = c.scalars.ensures.scalars k; step = c.step.ensures k; blocks = blocks k }) in
    subst IsSequence (sym same) (is_sequence seq counts c.scalars.ensures.sequence c.requires.few c.requires.short)
