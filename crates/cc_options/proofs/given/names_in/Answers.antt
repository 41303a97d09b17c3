use Rattle.std.proofs.Common.{◌∙◌, refl, sym, None, Some, map}
use Rattle.clap.specs.Words.{found_of}
use Rattle.cc_options.specs.Options.{name_of, several_of}
use Rattle.cc_options.proofs.OptionLemmas.{as_many_as_may_be, names_given, too_few, too_many}
use Rattle.cc_options.proofs.given.names_in.Goals as goal
use Rattle.cc_options.proofs.given.names_in.Goals.{then-is_empty-via-then-is_empty, then-is_empty-via-else-is_empty+then-found-names}

pub returns-in_default-get_strs : goal.returns-in_default-get_strs
returns-in_default-get_strs c =
    rw c.in-Some.is (names_given (found_of c.args.matches.now) (several_of c.in-Some.names) None None (rw c.in_default-get_strs.is at c.get_strs.ensures) refl)

pub returns-then-is_empty : goal.returns-then-is_empty
returns-then-is_empty c =
    rw c.in-Some.is (names_given (found_of c.args.matches.now) (several_of c.in-Some.names) (Some (map name_of c.in-Some-get_strs.found.now)) None (rw c.in-Some-get_strs.is at c.get_strs.ensures) (elim c.then-is_empty.branch [
      | then-is_empty-via-then-is_empty w ↦ too_few c.in-Some.names.most c.in-Some-get_strs.found.now (sym c.is_empty.ensures ∙ w.if-is_empty.true)
      | then-is_empty-via-else-is_empty+then-found-names w ↦ too_many c.in-Some.names.most c.in-Some-get_strs.found.now w.if-found-names.true
    ]))

pub returns : goal.returns
returns c =
    rw (c.in-Some.is, c.in_ok-from_slice.ensures.items) (names_given (found_of c.args.matches.now) (several_of c.in-Some.names) (Some (map name_of c.in-Some-get_strs.found.now)) (Some (map name_of c.in-Some-get_strs.found.now))
    (rw c.in-Some-get_strs.is at c.get_strs.ensures)
    (as_many_as_may_be c.in-Some.names.most c.in-Some-get_strs.found.now (sym c.is_empty.ensures ∙ c.if-is_empty.false) c.if-found-names.false))
