use Rattle.std.proofs.Common.{sym, subst, Ok}
use Rattle.c_macro.specs.declared.verb.Verb.TheVariants as verbs
use Rattle.c_macro.specs.Expands.{Obeys, OfNoForm, OfUndef}
use Rattle.c_macro.specs.Expanding.{state_of, sections_of}
use Rattle.c_macro.proofs.expander.Expander.undefine.Goals as goal

pub returns-in_default-clause-fault : goal.returns-in_default-clause-fault
returns-in_default-clause-fault c = λ at comment. OfNoForm verbs.Undef (λ name lone. (rw c.in_default.is at c.read_lone_name.ensures) name lone)

pub returns-clause-obeyed : goal.returns-clause-obeyed
returns-clause-obeyed c = λ at comment.
    subst (λ s. Obeys (state_of c.args.self.now) c.args.hash at c.args.rest.now comment verbs.Undef (Ok s)) (sym (c.undefine.ensures.undefined (sections_of c.args.self.now.sections)))
    (OfUndef c.in-Some.name.now c.in-Some.ensures)
