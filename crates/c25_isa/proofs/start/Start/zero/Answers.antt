use Rattle.std.proofs.Common.{◌++◌, ◌-◌, ap, ◌∙◌, take, vec_len}
use Rattle.std.specs.Prelude.{replicate}
use Rattle.c25_isa.proofs.Zero.{zero_start_is}
use Rattle.c25_isa.proofs.start.Start.zero.Goals as goal

pub returns : goal.returns
returns c =
    zero_start_is c.args.image.now.words c.resize.new.self.items c.in_ok-vec.field-0.items 65536 (65536 - vec_len c.in_ok-program.program) c.words.ensures.image.short
    (c.in_ok-resize.ensures.items ∙ ap (λ l. take 65536 l ++ replicate (65536 - vec_len c.in_ok-program.program) 0) (c.in_ok-program.ensures.items ∙ c.words.ensures.words))
    (c.in_ok-vec.ensures.items_if_clones_equal (λ y e. e))
