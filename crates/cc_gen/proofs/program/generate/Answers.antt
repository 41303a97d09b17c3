-- The four parts of the program stand behind one another.
use Rattle.std.proofs.Common.{[]}
use Rattle.cc_gen.proofs.Pushing.{four}
use Rattle.cc_gen.proofs.program.generate.Goals as goal

pub returns : goal.returns
returns c =
    four
    []
    c.push_functions.new.text.items
    c.extend_from_slice.new.self.items
    c.push_calls.new.text.items
    c.extend_from_slice-2.new.self.items
    _ _ _ _
    (rw c.new-text.ensures.items at c.in_ok-push_functions.ensures)
    c.in_ok-extend_from_slice.ensures.items
    c.in_ok-push_calls.ensures
    c.in_ok-extend_from_slice-2.ensures.items
