use Rattle.acc_select.proofs.AppendLemmas.{switch_appended}
use Rattle.acc_select.proofs.statements.push_switch.Goals as goal

pub returns : goal.returns
returns c = switch_appended c.push.result c.args.code.now.items c.push.new.code.items c.args.cases c.args.body c.push.ensures
