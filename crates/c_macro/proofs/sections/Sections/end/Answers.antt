use Rattle.std.proofs.Common.{arith, ◌-◌, length, sym}
use Rattle.c_macro.proofs.SectionLemmas.{open_at_end}
use Rattle.c_macro.proofs.sections.Sections.end.Goals as goal

pub returns-in-Some-clause-fault : goal.returns-in-Some-clause-fault
returns-in-Some-clause-fault c =
    open_at_end c.args.self.now (length c.args.self.now.«open».items - 1) c.in-Some.section.now (omega arith) (sym (rw c.deref.ensures.value at c.in-Some.ensures.value))
