use Rattle.std.proofs.Common.{◌∙◌}
use Rattle.clap.specs.Words.{found_of}
use Rattle.clap.proofs.WalkLemmas.{first_value-rows}
use Rattle.cc_options.proofs.given.name_in.Goals as goal

pub returns : goal.returns
returns c =
    rw c.in_ok-name.was (c.get_str.ensures ∙ first_value-rows (found_of c.args.matches.now) c.in_ok-name.field-0.now)
