use Rattle.std.proofs.Common.{ap}
use Rattle.clap.specs.Walk.{is_empty}
use Rattle.clap.specs.Words.{app_of}
use Rattle.cc_options.proofs.OptionLemmas.{simple_of}
use Rattle.cc_options.proofs.words.matched.Goals as goal

pub returns-in-Ok : goal.returns-in-Ok
returns-in-Ok c =
    (ap is_empty (c.in-Ok.ensures.kinds c.requires), (c.in-Ok.ensures.matches (simple_of (app_of c.args.command) c.requires)).0)
