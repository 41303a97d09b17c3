use Rattle.std.proofs.Common.{◌∙◌, Some, None}
use Rattle.cc_options.specs.Options.{options_of, values_of_given}
use Rattle.cc_words.specs.Asked.{texts_of}
use Rattle.cc_words.proofs.AskedLemmas.{all_simple, asks}
use Rattle.cc_words.proofs.asked.asked_by.Goals as goal

pub read-requires : goal.read-requires
read-requires c = all_simple c.args.name (options_of c.table.result) c.table.ensures

pub returns-in-Some : goal.returns-in-Some
returns-in-Some c =
    c.found.ensures
    ∙ asks c.args.name (options_of c.table.result) (texts_of c.args.words.now) (Some (values_of_given c.in-Some.given)) c.table.ensures (rw c.in-Some.is at c.in_ok-given.ensures)

pub returns-in-None : goal.returns-in-None
returns-in-None c =
    asks c.args.name (options_of c.table.result) (texts_of c.args.words.now) None c.table.ensures (rw c.in-None.is at c.in_ok-given.ensures)
