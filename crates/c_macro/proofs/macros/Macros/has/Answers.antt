use Rattle.std.proofs.Common.{◌∙◌}
use Rattle.c_macro.proofs.TableLemmas.{some_in_table}
use Rattle.c_macro.proofs.macros.Macros.has.Goals as goal

pub returns : goal.returns
returns c = c.contains_key.ensures ∙ some_in_table c.args.self.now.bodies c.args.name.now
