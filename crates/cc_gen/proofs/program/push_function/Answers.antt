-- The five parts of the line stand behind one another.
use Rattle.cc_gen.proofs.Pushing.{five}
use Rattle.cc_gen.proofs.program.push_function.Goals as goal

pub returns : goal.returns
returns c =
    five
    c.args.text.now.items
    c.extend_from_slice.new.self.items
    c.push_decimal.new.text.items
    c.extend_from_slice-2.new.self.items
    c.push_decimal-2.new.text.items
    c.extend_from_slice-3.new.self.items
    _ _ _ _ _
    c.in_ok-extend_from_slice.ensures.items
    (rw c.from.ensures at c.in_ok-push_decimal.ensures)
    c.in_ok-extend_from_slice-2.ensures.items
    (rw (c.from-2.ensures, c.factor.ensures) at c.in_ok-push_decimal-2.ensures)
    c.in_ok-extend_from_slice-3.ensures.items
