use Rattle.std.specs.Str.{bytes_eq}
use Rattle.std.proofs.Common.{◌∙◌}
use Rattle.c_units.proofs.TableLemmas.{or_cond}
use Rattle.c_units.proofs.names.Names.insert.Goals as goal

pub returns : goal.returns
returns c = λ other. c.in_ok-insert.ensures.updates.0 (record { ref_ptr = c.args.name.ref_ptr; now = other }) ∙ or_cond (bytes_eq c.args.name.now other) _
