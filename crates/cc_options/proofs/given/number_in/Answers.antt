use Rattle.std.proofs.Common.{◌∙◌, sym}
use Rattle.std.specs.Str.Parse.{ParsesUnsigned, ExplainsUnsignedError, HasUnsignedDigitsIfOk}
use Rattle.clap.specs.Words.{found_of}
use Rattle.cc_options.proofs.OptionLemmas.{none_given, number_given}
use Rattle.cc_options.proofs.given.number_in.Goals as goal

pub returns-in_err-get_one : goal.returns-in_err-get_one
returns-in_err-get_one c =
    rw c.in_ok-number.was (c.from_residual-in_err-get_one.ensures
    ∙ sym (none_given _ (λ bs r. ParsesUnsigned 64 10 bs r × ExplainsUnsignedError 10 bs r × HasUnsignedDigitsIfOk bs r) (λ u x g. g.0)
    (found_of c.args.matches.now) c.in_ok-number.number.id.now c.in_ok-number.number.greatest c.in_err-get_one.ensures.value))

pub returns : goal.returns
returns c =
    rw c.in_ok-number.was (c.within.ensures
    ∙ sym (number_given _ (λ bs r. ParsesUnsigned 64 10 bs r × ExplainsUnsignedError 10 bs r × HasUnsignedDigitsIfOk bs r) (λ u x g. g.0)
    (found_of c.args.matches.now) c.in_ok-number.number.id.now c.in_ok-number.number.greatest c.in_ok-get_one.field-0 c.in_ok-get_one.ensures.none c.in_ok-get_one.ensures.value))
