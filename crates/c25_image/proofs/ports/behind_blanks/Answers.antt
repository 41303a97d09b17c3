use Rattle.std.proofs.Common.{◌∷◌, []}
use Rattle.std.proofs.lemmas.Slice.Eq.{strip_prefix_is}
use Rattle.std.proofs.lemmas.Bool.Decides.{Decides-eqb}
use Rattle.c25_image.proofs.PortLines.{blanks_more, blanks_end, no_blank_here}
use Rattle.c25_image.proofs.ports.behind_blanks.Goals as goal

pub loop-after-preserved : goal.loop-after-preserved
loop-after-preserved c =
    let is = strip_prefix_is Decides-eqb c.loop-after.rest.now (32 ∷ []) c.strip_prefix.result c.strip_prefix.ensures.cases in
    blanks_more c.args.bytes.now c.loop-after.rest.now c.in-Some.after.now c.loop-after.invariant (rw c.in-Some.is at is)

pub returns : goal.returns
returns c =
    let is = strip_prefix_is Decides-eqb c.loop-after.rest.now (32 ∷ []) c.strip_prefix.result c.strip_prefix.ensures.cases in
    blanks_end c.args.bytes.now c.loop-after.rest.now c.loop-after.invariant (no_blank_here c.loop-after.rest.now (rw c.in_default.is at is))
