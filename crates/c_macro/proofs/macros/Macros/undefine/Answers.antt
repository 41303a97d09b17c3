use Rattle.c_macro.proofs.TableLemmas.{undefined}
use Rattle.c_macro.proofs.macros.Macros.undefine.Goals as goal

pub returns-clause-undefined : goal.returns-clause-undefined
returns-clause-undefined c = λ sections.
    undefined c.args.self.now.bodies c.swap_remove.new.self c.args.name.now c.swap_remove.result sections
    c.swap_remove.ensures.updates c.swap_remove.ensures.value c.swap_remove.ensures.len
