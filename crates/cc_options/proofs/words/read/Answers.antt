use Rattle.clap.specs.Words.{app_of, found_of, rows_of}
use Rattle.cc_options.specs.Options.{options_of, texts_of, values_of_given}
use Rattle.cc_options.proofs.OptionLemmas.{refused, taken}
use Rattle.cc_options.proofs.words.read.Goals as goal

pub returns-in_ok-held-in-Some : goal.returns-in_ok-held-in-Some
returns-in_ok-held-in-Some c =
    let found = rw c.in-Some.is at c.in_ok-matches.ensures in
    taken (app_of c.in_ok-command_of.field-0) (options_of c.args.table.now) (texts_of c.args.words.now) (rows_of (found_of c.in-Some.matches)) (values_of_given c.in_ok-held-in-Some.field-0) c.in_ok-command_of.ensures found.0 found.1 c.in_ok-held-in-Some.ensures

pub returns-in-None : goal.returns-in-None
returns-in-None c =
    refused (app_of c.in_ok-command_of.field-0) (options_of c.args.table.now) (texts_of c.args.words.now) c.in_ok-command_of.ensures (rw c.in-None.is at c.in_ok-matches.ensures)
